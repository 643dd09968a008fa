use Rattle.nmgc_cli.proofs.{Vocabulary.IfOk-weaker, Vocabulary.last_state, Leaving.left_as}
use Rattle.nmgc_cli.proofs.imaging.image_of.Goals as goal

pub write_image-requires : goal.write_image-requires
write_image-requires c = (
  (last_state c.requires.run.lawful.run).world,
  left_as c.requires.script c.args.report.now c.layout-layout.ensures.sound c.requires.limits c.requires.run,
)

pub returns : goal.returns
returns c = IfOk-weaker c.write_image.result _ _ (λ text h. λ script limits run.
    h (last_state run.lawful.run).world (left_as script c.args.report.now c.layout-layout.ensures.sound limits run)) c.write_image.ensures
