-- Lists that grow by one item at their end.
use Rattle.nmgc_cycle.proofs.Vocabulary.{ℕ, ◌≡◌, List, [], ◌∷◌, ◌++◌, length, sym, subst, ◌∙◌, inl, inr, Some, slice_get, get-append_cases}

-- a fact of each item by its position, and of a further item, is one of all items
pub each_pushed : {A : Type 0} (P : ℕ → A → Type 0) (xs : List A) (x : A) → ((k : ℕ) (a : A) → slice_get xs k ≡ Some a → P k a) → P (length xs) x →
    (k : ℕ) (a : A) → slice_get (xs ++ x ∷ []) k ≡ Some a → P k a
each_pushed {A} P xs x old new k a e = elim (get-append_cases xs x k) [
  | inl last ↦
      let some : Some x ≡ Some a = sym last.1 ∙ e in
      let same : x ≡ a = cc in
      subst (λ (j : ℕ). P j a) (sym last.0) (subst (P (length xs)) same new)
  | inr before ↦ old k a (sym before ∙ e)
]
