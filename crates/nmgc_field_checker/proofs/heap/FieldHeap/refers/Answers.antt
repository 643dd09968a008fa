use Rattle.nmgc_field_checker.proofs.heap.FieldHeap.refers.Goals as goal

pub returns : goal.returns
returns c =
    (λ t. (c.target.ensures c.args.target).0 (c.has_target.ensures.0 t), λ p. c.has_target.ensures.1 ((c.target.ensures c.args.target).1 p))
