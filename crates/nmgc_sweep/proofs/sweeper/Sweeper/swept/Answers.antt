use Rattle.nmgc_sweep.proofs.Vocabulary.{ℕ, ◌≡◌, ◌++◌, ◌∙◌, List, length, drop, ap, sym, Sweeper}
use Rattle.nmgc_sweep.proofs.sweeper.Sweeper.swept.Goals as goal

pub returns : goal.returns
returns c =
    let planned = c.self.inside.planned.value in
    let done : List ℕ = c.self.inside.done.items in
    let all : planned ≡ c.args.self.now.seen.swept = ap (λ (s : Sweeper). s.seen.swept) c.self.view_is in
    let left : drop (length done) planned ≡ c.args.self.now.left = ap (λ (s : Sweeper). s.left) c.self.view_is in
    sym all ∙ c.self.invariant.1.first ∙ ap (λ (l : List ℕ). done ++ l) left ∙ ap (λ (l : List ℕ). l ++ c.args.self.now.left) (sym c.as_slice.ensures.value)
