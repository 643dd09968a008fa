use Rattle.nmgc_segment.proofs.{Vocabulary.ℕ, Vocabulary.◌≡◌, Vocabulary.◌*◌, Vocabulary.◌∙◌, Vocabulary.ap, Vocabulary.arith, Vocabulary.sym, Vocabulary.block_size, Vocabulary.least_block, Vocabulary.Segment, Vocabulary.block_count, Reciprocals.one_block}
use Rattle.nmgc_segment.proofs.segment.Segment.block_at.Goals as goal

pub returns-in_err-block-clause-none : goal.returns-in_err-block-clause-none
returns-in_err-block-clause-none c = rw c.from_residual.ensures (λ k within is.
    c.in_err-block.ensures.none k (is ∙ ap (λ (s : Segment). k * block_size s.class) (sym c.self.view_is)))

pub returns-then-block-self-clause-some : goal.returns-then-block-self-clause-some
returns-then-block-self-clause-some c =
    let block : ℕ = c.in_ok-block.block in
    let count : c.self.inside.blocks ≡ block_count c.args.self.now =
    c.self.invariant.1.count ∙ ap (λ (s : Segment). block_count s) c.self.view_is in (
      omega (arith, count, c.if-block-self.true),
      c.in_ok-block.ensures.some ∙ ap (λ (s : Segment). block * block_size s.class) c.self.view_is,
    )

pub returns-else-block-self-clause-none : goal.returns-else-block-self-clause-none
returns-else-block-self-clause-none c = λ k within is.
    let block : ℕ = c.in_ok-block.block in
    let count : c.self.inside.blocks ≡ block_count c.args.self.now =
    c.self.invariant.1.count ∙ ap (λ (s : Segment). block_count s) c.self.view_is in
    let found = c.in_ok-block.ensures.some ∙ ap (λ (s : Segment). block * block_size s.class) c.self.view_is in
    one_block c.args.offset (block_size c.args.self.now.class) k block (block_count c.args.self.now)
    (omega (arith, least_block c.args.self.now.class)) is found within (omega (arith, count, c.if-block-self.false))
