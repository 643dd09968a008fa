use Rattle.std.proofs.Common.{◌∙◌, refl}
use Rattle.nmgc_mark.proofs.marker.Marker.look_ahead.Goals as goal

pub loop-index-init : goal.loop-index-init
loop-index-init c = (c.requires, refl, refl)

pub loop-index-preserved : goal.loop-index-preserved
loop-index-preserved c =
    let before = c.loop-index.invariant in
    let now = c.look_ahead.ensures in
    (now.0, now.1 ∙ before.1, now.2 ∙ before.2)
