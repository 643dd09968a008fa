use Rattle.nmgc_heap_tests.proofs.{CheckedLaws.made_more, CheckedLaws.next_more, CheckedLaws.made_skip, CheckedLaws.next_skip, of_minor.walk.check_objects.Goals.then-sizes-k-ne0+else-assert, of_minor.walk.check_objects.Goals.else-sizes-k-ne0}
use Rattle.nmgc_heap_tests.proofs.of_minor.walk.check_objects.Goals as goal

pub loop-k-preserved : goal.loop-k-preserved
loop-k-preserved g c =
    let i = c.loop-k.invariant in
    elim c.if-sizes-k-ne0.branch [
      | then-sizes-k-ne0+else-assert w ↦
          let after = w.if-assert.false in
          rw (w.free-is) (record {
            made = made_more c.args.layout c.args.base c.args.words.now c.args.sizes.now c.args.nurseries.now c.loop-k.k c.loop-k.free i.made i.next
                after w.check_object.ensures;
            next = next_more c.args.sizes.now c.loop-k.k c.loop-k.free i.next after;
          })
      | else-sizes-k-ne0 w ↦
          rw (w.free-is) (record {
            made = made_skip c.args.layout c.args.base c.args.words.now c.args.sizes.now c.args.nurseries.now c.loop-k.k w.if-sizes-k-ne0.false i.made;
            next = next_skip c.args.sizes.now c.loop-k.k c.loop-k.free w.if-sizes-k-ne0.false i.next;
          })
    ]
