use Rattle.nmgc_cycle.proofs.{Vocabulary.ℕ, Vocabulary.◌≡◌, Vocabulary.◌∙◌, Vocabulary.length, Vocabulary.Some, Vocabulary.slice_get, Vocabulary.refl, Vocabulary.sym, Vocabulary.subst, Vocabulary.arith, Vocabulary.inl, Vocabulary.inr, Vocabulary.cases_lt, Vocabulary.false≢true, Vocabulary.slice_get_read, Vocabulary.slice_get_within}
use Rattle.nmgc_cycle.specs.Sessions.{HasRoom}
use Rattle.nmgc_cycle.proofs.session.have_room.Goals as goal

pub loop-number-init : goal.loop-number-init
loop-number-init c k q lt e = absurd (omega (arith, lt))

pub loop-number-preserved : goal.loop-number-preserved
loop-number-preserved c k q lt e =
    let n = c.loop-number.number in
    let here = slice_get_read c.args.queues.now (length c.args.queues.now) n c.index-queues-number.result refl c.loop-number-test.true
    c.index-queues-number.is in
    elim (cases_lt k n) [
      | inl less ↦ c.loop-number.invariant k q less e
      | inr more ↦
          let at : k ≡ n = omega (arith, lt, more) in
          let own : slice_get c.args.queues.now k ≡ Some c.index-queues-number.result =
          subst (λ (i : ℕ). slice_get c.args.queues.now i ≡ Some c.index-queues-number.result) (sym at) here in
          let same : c.index-queues-number.result ≡ q = cc (own, e) in
          subst HasRoom same (c.has_room.ensures.0 c.if-not-has_room.false)
    ]

pub returns-then-not-has_room : goal.returns-then-not-has_room
returns-then-not-has_room c =
    let n = c.loop-number.number in
    let here = slice_get_read c.args.queues.now (length c.args.queues.now) n c.index-queues-number.result refl c.loop-number-test.true
    c.index-queues-number.is in
    (λ t. absurd cc, λ all. absurd (false≢true (sym c.if-not-has_room.true ∙ c.has_room.ensures.1 (all n c.index-queues-number.result here))))

pub returns : goal.returns
returns c = (
  λ t k q e.
      let within = slice_get_within c.args.queues.now k q e in
      let end = c.loop-number-test.false in
      c.loop-number.invariant k q (omega (arith, within, end)) e,
  λ all. refl,
)
