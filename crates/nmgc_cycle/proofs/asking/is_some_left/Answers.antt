use Rattle.nmgc_cycle.proofs.{Vocabulary.ℕ, Vocabulary.◌≡◌, Vocabulary.length, Vocabulary.Some, Vocabulary.None, Vocabulary.slice_get, Vocabulary.refl, Vocabulary.sym, Vocabulary.subst, Vocabulary.arith, Vocabulary.rules, Vocabulary.inl, Vocabulary.inr, Vocabulary.cases_lt, Vocabulary.slice_get_read, Vocabulary.slice_get_within, Vocabulary.Command, rounds.FollowedLeft.there, rounds.FollowedLeft.not_there}
use Rattle.std.proofs.Common.{Bor}
use Rattle.nmgc_cycle.proofs.asking.is_some_left.Goals as goal

pub peek-requires : goal.peek-requires
peek-requires g c =
    let n = c.loop-number.number in
    c.requires n c.index-programs-number.result
    (slice_get_read c.args.programs.now (length c.args.programs.now) n c.index-programs-number.result refl c.loop-number-test.true c.index-programs-number.is)

pub loop-number-init : goal.loop-number-init
loop-number-init g c k p lt e = absurd (omega (arith, lt))

pub loop-number-preserved : goal.loop-number-preserved
loop-number-preserved g c k p lt e =
    let n = c.loop-number.number in
    let here = slice_get_read c.args.programs.now (length c.args.programs.now) n c.index-programs-number.result refl c.loop-number-test.true
    c.index-programs-number.is in
    elim (cases_lt k n) [
      | inl less ↦ c.loop-number.invariant k p less e
      | inr more ↦
          let at : k ≡ n = omega (arith, lt, more) in
          let own : slice_get c.args.programs.now k ≡ Some c.index-programs-number.result =
          subst (λ (i : ℕ). slice_get c.args.programs.now i ≡ Some c.index-programs-number.result) (sym at) here in
          let same : c.index-programs-number.result ≡ p = cc (own, e) in
          subst (λ q. g.P.Program.next q ≡ None) same (not_there c.peek.result (search rules) c.peek.ensures.none)
    ]

pub returns-then-is_some : goal.returns-then-is_some
returns-then-is_some g c =
    let n = c.loop-number.number in
    let s = there (λ (b : Bor Command). g.P.Program.next c.index-programs-number.result ≡ Some b.now) c.peek.result (search rules) c.peek.ensures.some in (
      λ t. (
        n,
        c.index-programs-number.result,
        s.0.now,
        slice_get_read c.args.programs.now (length c.args.programs.now) n c.index-programs-number.result refl c.loop-number-test.true
            c.index-programs-number.is,
        s.1,
      ),
      λ some. refl,
    )

pub returns : goal.returns
returns g c = (
  λ t. absurd cc,
  λ some.
      let within = slice_get_within c.args.programs.now some.0 some.1 some.3 in
      let end = c.loop-number-test.false in
      let none = c.loop-number.invariant some.0 some.1 (omega (arith, within, end)) some.3 in
      let there = some.4 in
      absurd cc,
)
