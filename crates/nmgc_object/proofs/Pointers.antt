-- The bound of a queue's pointers when words are added, changed and removed.
use Rattle.nmgc_object.proofs.Vocabulary.{◌≡◌, ◌+◌, ◌*◌, ◌%◌, ◌<◌, ◌≤◌, ◌⊎◌, ℕ, zero, suc, List, [], ◌∷◌, ◌++◌, drop, set, length, sym, subst, arith, inl, inr, Contains, drop-append-le, drop-set-add, Contains-push_cases, contains_head, contains_tail, contains_cases, HavePointersUpTo, ArePointersBelow}

-- a subset of the words keeps the bound
pub fewer_up_to : (words fewer : List ℕ) (highest : ℕ) → ((word : ℕ) → Contains fewer word → Contains words word) → HavePointersUpTo words highest →
    HavePointersUpTo fewer highest
fewer_up_to words fewer highest within h word c even = h word (within word c) even

-- the bound with one more word at the end
pub one_up_to : (words : List ℕ) (w highest higher : ℕ) → HavePointersUpTo words highest → highest ≤ higher → (w % 2 ≡ 0 → w ≤ higher) →
    HavePointersUpTo (words ++ w ∷ []) higher
one_up_to words w highest higher h le own word c even = elim (Contains-push_cases words w word c) [
  | inl old ↦ let most = h word old even in omega (arith, most, le)
  | inr same ↦ subst (λ n. n ≤ higher) same (own (subst (λ n. n % 2 ≡ 0) (sym same) even))
]

-- a word of the changed list is the new word or was in the list before
set_cases : (words : List ℕ) (i w word : ℕ) → Contains (set words i w) word → Contains words word ⊎ (w ≡ word)
set_cases [] i w word c = inl c
set_cases (x ∷ xs) zero w word c = elim (contains_cases w xs word c) [ inl e ↦ inr e | inr d ↦ inl (contains_tail x xs word d) ]
set_cases (x ∷ xs) (suc i) w word c = elim (contains_cases x (set xs i w) word c) [
  | inl e ↦ inl (subst (λ n. Contains (x ∷ xs) n) e (contains_head x xs))
  | inr d ↦ elim (set_cases xs i w word d) [ inl k ↦ inl (contains_tail x xs word k) | inr e ↦ inr e ]
]

-- the bound with one word changed
pub changed_up_to : (words : List ℕ) (i w highest higher : ℕ) → HavePointersUpTo words highest → highest ≤ higher → (w % 2 ≡ 0 → w ≤ higher) →
    HavePointersUpTo (set words i w) higher
changed_up_to words i w highest higher h le own word c even = elim (set_cases words i w word c) [
  | inl old ↦ let most = h word old even in omega (arith, most, le)
  | inr same ↦ subst (λ n. n ≤ higher) same (own (subst (λ n. n % 2 ≡ 0) (sym same) even))
]

-- a word that is left after the first is taken was in the list before
pub drop_fewer : (words : List ℕ) (first word : ℕ) → Contains (drop (first + 1) words) word → Contains (drop first words) word
drop_fewer [] zero word c = c
drop_fewer [] (suc first) word c = let z : suc first + 1 ≡ suc (first + 1) = omega arith in subst (λ n. Contains (drop n []) word) z c
drop_fewer (x ∷ xs) zero word c = contains_tail x xs word c
drop_fewer (x ∷ xs) (suc first) word c =
    let z : suc first + 1 ≡ suc (first + 1) = omega arith in
    drop_fewer xs first word (subst (λ n. Contains (drop n (x ∷ xs)) word) z c)

-- the same with one more word, for the whole list with the words already taken
pub added_up_to : (all : List ℕ) (first w highest higher : ℕ) → first ≤ length all → HavePointersUpTo (drop first all) highest → highest ≤ higher →
    (w % 2 ≡ 0 → w ≤ higher) → HavePointersUpTo (drop first (all ++ w ∷ [])) higher
added_up_to all first w highest higher le h more own = subst (λ (l : List ℕ). HavePointersUpTo l higher) (sym (drop-append-le first all (w ∷ []) le))
    (one_up_to (drop first all) w highest higher h more own)

pub put_up_to : (all : List ℕ) (first place w highest higher : ℕ) → HavePointersUpTo (drop first all) highest → highest ≤ higher →
    (w % 2 ≡ 0 → w ≤ higher) → HavePointersUpTo (drop first (set all (first + place) w)) higher
put_up_to all first place w highest higher h more own = subst (λ (l : List ℕ). HavePointersUpTo l higher) (sym (drop-set-add first all place w))
    (changed_up_to (drop first all) place w highest higher h more own)

-- an address above the bound has all pointers below it
pub below_of : (words : List ℕ) (highest place : ℕ) → HavePointersUpTo words highest → highest < 2 * place → ArePointersBelow words place
below_of words highest place h lt word c even = let most = h word c even in omega (arith, most, lt)
