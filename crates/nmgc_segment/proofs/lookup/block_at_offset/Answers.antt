use Rattle.nmgc_segment.proofs.{Vocabulary.ℕ, Vocabulary.◌≡◌, Vocabulary.◌*◌, Vocabulary.◌/◌, Vocabulary.◌%◌, Vocabulary.◌<◌, Vocabulary.◌≤◌, Vocabulary.subst, Vocabulary.sym, Vocabulary.block_size, Reciprocals.reciprocal, Reciprocals.block_found, Reciprocals.none_found}
use Rattle.nmgc_segment.proofs.lookup.block_at_offset.Goals as goal

pub returns-then-digits-factor-clause-some : goal.returns-then-digits-factor-clause-some
returns-then-digits-factor-clause-some c =
    let n : ℕ = c.args.offset in
    let below = subst (λ (k : ℕ). n * reciprocal k % 65536 < reciprocal k) c.from.ensures c.if-digits-factor.true in
    subst (λ (k : ℕ). n ≡ n * reciprocal k / 65536 * block_size c.args.class) (sym c.from.ensures)
    (block_found n c.args.class c.requires.offset c.requires.class below)

pub returns-else-digits-factor-clause-none : goal.returns-else-digits-factor-clause-none
returns-else-digits-factor-clause-none c = λ block is.
    let n : ℕ = c.args.offset in
    let above = subst (λ (k : ℕ). reciprocal k ≤ n * reciprocal k % 65536) c.from.ensures c.if-digits-factor.false in
    none_found n c.args.class block c.requires.offset c.requires.class above is
