-- Words that are as specified, read one by one.
use Rattle.nmgc_collector_laws.proofs.Vocabulary.{ℕ, zero, suc, ◌≡◌, List, [], ◌∷◌, ◌++◌, length, map, replicate, get_or, refl, subst, Option, Some, None, Bool, true, false, slice_get, if◌then◌else◌, get_or-append-add, Nil, Node, Slot, holds, Place, Fills, HasSlots, some_is}

-- a name of g's maker has g's node, if it has a node, and any other name its own
pub shared_or : (b d : Bool) (shared : Node) (o : Option Node) (node : Node) (A : Type 0) → (b ≡ true → d ≡ true → A) → (o ≡ Some node → A) →
    (if b then (if d then Some shared else None) else o) ≡ Some node → A
shared_or true true shared o node A is other e = is refl refl
shared_or true false shared o node A is other e = absurd cc
shared_or false d shared o node A is other e = other e

module _ (P : Place → Type 0) where
  -- words are as the slots say
  abbrev pub EachFills : List ℕ → List Slot → Type 0
  EachFills own [] = Unit {0}
  EachFills [] (slot ∷ slots) = ⊥
  EachFills (w ∷ own) (slot ∷ slots) = Fills P w slot × EachFills own slots

  each_fills : (own after : List ℕ) (slots : List Slot) → EachFills own slots → (i : ℕ) (u : Slot) → slice_get slots i ≡ Some u →
      Fills P (get_or (own ++ after) i 0) u
  each_fills own after [] h i u e = absurd cc
  each_fills [] after (slot ∷ slots) h i u e = absurd h
  each_fills (w ∷ own) after (slot ∷ slots) h zero u e = subst (λ x. Fills P w x) (some_is slot u e) h.0
  each_fills (w ∷ own) after (slot ∷ slots) h (suc i) u e = each_fills own after slots h.1 i u e

  pub has_slots : (before own after : List ℕ) (slots : List Slot) → EachFills own slots → HasSlots P (before ++ (own ++ after)) (length before) slots
  has_slots before own after slots h i u e = rw get_or-append-add (each_fills own after slots h i u e)

  -- `count` nils
  pub fills_nil : (count : ℕ) → EachFills (replicate count 1) (map holds (replicate count Nil))
  fills_nil zero = tt
  fills_nil (suc count) = (refl, fills_nil count)
