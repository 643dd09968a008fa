-- The list stays in order when weak pointers leave it.
use Rattle.nmgc_weak.proofs.Vocabulary.{Bool, true, false, cond, List, [], ◌∷◌, subst, inl, inr, Contains, filter, Name, IsInOrder, IsBefore, in_order_first, in_order_rest, in_order_cons, contains_head, contains_tail, contains_cases, OldWeak, names_of}

-- a part of a list in order
in_kept : (b : Bool) (w : OldWeak) (kept ws : List OldWeak) (n : Name) → (Contains (names_of kept) n → Contains (names_of ws) n) →
    Contains (names_of (cond b (w ∷ kept) kept)) n → Contains (names_of (w ∷ ws)) n
in_kept true w kept ws n h d = elim (contains_cases w.weak (names_of kept) n d) [
  | inl e ↦ subst (λ (m : Name). Contains (names_of (w ∷ ws)) m) e (contains_head w.weak (names_of ws))
  | inr k ↦ contains_tail w.weak (names_of ws) n (h k)
]
in_kept false w kept ws n h d = contains_tail w.weak (names_of ws) n (h d)

filter_in : (test : OldWeak → Bool) (list : List OldWeak) (n : Name) → Contains (names_of (filter test list)) n → Contains (names_of list) n
filter_in test [] n c = c
filter_in test (w ∷ ws) n c = in_kept (test w) w (filter test ws) ws n (filter_in test ws n) c

kept_ordered : (b : Bool) (w : OldWeak) (kept : List OldWeak) → IsInOrder (names_of kept) →
    ((n : Name) → Contains (names_of kept) n → IsBefore w.weak n) → IsInOrder (names_of (cond b (w ∷ kept) kept))
kept_ordered true w kept o before = in_order_cons w.weak (names_of kept) o before
kept_ordered false w kept o before = o

pub filter_ordered : (test : OldWeak → Bool) (list : List OldWeak) → IsInOrder (names_of list) → IsInOrder (names_of (filter test list))
filter_ordered test [] o = tt
filter_ordered test (w ∷ ws) o = kept_ordered (test w) w (filter test ws) (filter_ordered test ws (in_order_rest w.weak (names_of ws) o)) (λ n c.
    in_order_first w.weak (names_of ws) o n (filter_in test ws n c))
