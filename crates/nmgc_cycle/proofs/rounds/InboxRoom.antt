-- A step of the loop that makes room in the inbox.
use Rattle.nmgc_cycle.proofs.{Vocabulary.ℕ, Vocabulary.◌≡◌, Vocabulary.◌+◌, Vocabulary.◌<◌, Vocabulary.◌≤◌, Vocabulary.List, Vocabulary.inl, Vocabulary.inr, Vocabulary.sym, Vocabulary.subst, Vocabulary.◌∙◌, Vocabulary.arith, Vocabulary.Some, Vocabulary.slice_get, Vocabulary.cases_lt, Vocabulary.Receiver, Vocabulary.AtLine, rounds.Lining.line_here, rounds.Lining.line_other, rounds.Lining.same_item}
use Rattle.nmgc_updrem.specs.Lines.{Reserves}

-- one receiver got its room, and those before it have theirs
pub inbox_more : (room_at : ℕ → ℕ) (n entries : ℕ) (old new : List Receiver) → AtLine (Reserves entries) n old new → room_at n ≤ entries →
    ((k : ℕ) (r : Receiver) → k < n → slice_get old k ≡ Some r → room_at k ≤ r.taken.spare) → (k : ℕ) (r : Receiver) → k < n + 1 →
    slice_get new k ≡ Some r → room_at k ≤ r.taken.spare
inbox_more room_at n entries old new h enough before k r lt at = elim (cases_lt k n) [
  | inl less ↦ before k r less (sym (line_other (Reserves entries) n old new h k (λ (e : k ≡ n). omega (arith, e, less))) ∙ at)
  | inr more ↦
      let here : k ≡ n = omega (arith, lt, more) in
      let is : h.is ≡ r = same_item new n h.is r (line_here (Reserves entries) n old new h) (subst (λ (j : ℕ). slice_get new j ≡ Some r) here at) in
      let room : entries ≤ r.taken.spare = subst (λ (x : Receiver). entries ≤ x.taken.spare) is h.changes.room in
      subst (λ (j : ℕ). room_at j ≤ r.taken.spare) (sym here) (omega (arith, enough, room))
]
