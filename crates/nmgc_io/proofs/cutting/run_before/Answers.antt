use Rattle.nmgc_io.proofs.Vocabulary.{eqb, sym, ap, ◌∙◌, arith, w8, count_trailing_zeros, chunk, length-chunk, bitmask_splat, leading_from_mask_l, trailing_mask_l}
use Rattle.nmgc_io.proofs.cutting.run_before.Goals as goal

pub returns-then-found-eq0 : goal.returns-then-found-eq0
returns-then-found-eq0 c =
    let v = chunk c.args.at 16 c.args.bytes.now in
    let long = length-chunk c.args.at 16 c.args.bytes.now c.requires in
    let found = bitmask_splat w8 eqb v 16 c.args.byte long (omega arith) in
    sym (leading_from_mask_l (λ x. eqb x c.args.byte) v (sym found ∙ c.if-found-eq0.true) ∙ long)

pub returns-else-found-eq0 : goal.returns-else-found-eq0
returns-else-found-eq0 c =
    let v = chunk c.args.at 16 c.args.bytes.now in
    let long = length-chunk c.args.at 16 c.args.bytes.now c.requires in
    let found = bitmask_splat w8 eqb v 16 c.args.byte long (omega arith) in
    ap (count_trailing_zeros 64) found ∙ trailing_mask_l (λ x. eqb x c.args.byte) 64 v (omega arith) (omega arith)
