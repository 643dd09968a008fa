use Rattle.nmgc_sweep.proofs.{Vocabulary.ℕ, Vocabulary.◌≡◌, Vocabulary.◌∙◌, Vocabulary.List, Vocabulary.length, Vocabulary.drop, Vocabulary.ap, Vocabulary.sym, Vocabulary.arith, Vocabulary.eq-eqb, Vocabulary.eqb-true, Vocabulary.Sweeper, Listed.left_counted, Steps.is_none}
use Rattle.nmgc_sweep.proofs.sweeper.Sweeper.is_finished.Goals as goal

pub returns : goal.returns
returns c =
    let planned = c.self.inside.planned.value in
    let done : List ℕ = c.self.inside.done.items in
    let left : drop (length done) planned ≡ c.args.self.now.left = ap (λ (s : Sweeper). s.left) c.self.view_is in
    let all = left_counted planned done c.self.inside.next c.self.invariant.1 in
    let count = c.self.invariant.2 in
    let many : c.len.result ≡ length done = c.len.ensures ∙ c.self.inside.done.ok.0 in (
      (λ yes.
          let same = eqb-true c.len.result c.self.inside.count yes in
          sym left ∙ is_none (drop (length done) planned) (omega (arith, all, count, many, same))),
      (λ none.
          let rest : length (drop (length done) planned) ≡ 0 = ap (λ (l : List ℕ). length l) (left ∙ none) in
          eq-eqb c.len.result c.self.inside.count (omega (arith, all, count, many, rest))),
    )
