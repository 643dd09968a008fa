use Rattle.std.proofs.{Common.ℕ, Common.◌≡◌, Common.◌+◌, Common.◌*◌, Common.◌^◌, Common.◌<◌, Common.◌≤◌, Common.◌∙◌, Common.ap, Common.inl, Common.inr, Common.arith, lemmas.Bool.cases_lt, lemmas.Nat.pow_below}
use Rattle.nmgc_object.specs.{Layouts.IsLayout, Words.class_count, declared.layout.Layout.Layout, laws.Classes.count_to, laws.Classes.count_at}
use Rattle.nmgc_run_laws.proofs.laws.classes_are_counted.Goals as goal

-- no segment has more words than eight doublings give
few_doublings : (words n : ℕ) → words ≤ 4096 → words ≡ 16 * 2 ^ n → n ≤ 8
few_doublings words n most is = elim (cases_lt 8 n) [
  | inl more ↦ absurd (let high : 2 ^ 8 < 2 ^ n = pow_below 8 n more in omega (arith, high, most, is))
  | inr few ↦ few
]

counted : (layout : Layout) (n : ℕ) → IsLayout layout → layout.words ≡ 16 * 2 ^ n → class_count layout ≡ 12 + 1 + n
counted layout n h is =
    let count : class_count layout ≡ n + 13 = ap count_to is ∙ count_at n (few_doublings layout.words n h.words.most is) in
    omega (arith, count)

pub returns : goal.returns
returns c = counted
