-- The roots of a search, in order.
use Rattle.nmgc_image.proofs.{Vocabulary.ℕ, Vocabulary.◌≡◌, Vocabulary.◌<◌, Vocabulary.◌≤◌, Vocabulary.◌+◌, Vocabulary.◌^◌, Vocabulary.List, Vocabulary.[], Vocabulary.◌∷◌, Vocabulary.◌++◌, Vocabulary.length, Vocabulary.take, Vocabulary.get_or, Vocabulary.arith, Vocabulary.sym, Vocabulary.subst, Vocabulary.inl, Vocabulary.inr, Vocabulary.Result, Vocabulary.Ok, Vocabulary.Err, Vocabulary.Contains, Vocabulary.OnOk, Vocabulary.cases_eq, Vocabulary.take_more, Vocabulary.take_all, Vocabulary.Contains-append_left, Vocabulary.Contains-push, Vocabulary.Contains-push_cases, Vocabulary.nothing_in, Vocabulary.MutatorEnd, Vocabulary.Report, Vocabulary.Search, Vocabulary.Reaches, Vocabulary.IsSearch, Vocabulary.Visits, Vocabulary.IsOwnRoot, Vocabulary.IsMutatorRoot, Vocabulary.IsRootPlace, Vocabulary.IsReadyFor, Searching.visits_none, Searching.visits_then, Searching.visits_same}

-- P holds for some number below n
abbrev pub Below : (ℕ → ℕ → Type 0) → ℕ → ℕ → Type 0
Below P n at = (k : ℕ) × (k < n) × P k at

-- no number is below 0
pub below_start : (P : ℕ → ℕ → Type 0) (s : Search) → IsSearch s → Visits (Below P 0) s s
below_start P s i = visits_none (Below P 0) s i (λ at b. absurd (let lt = b.1 in omega arith))

-- one more
pub below_next : (P : ℕ → ℕ → Type 0) (n : ℕ) (s t u : Search) → Visits (Below P n) s t → Visits (P n) t u → Visits (Below P (n + 1)) s u
below_next P n s t u v w = visits_then (Below P n) (P n) (Below P (n + 1)) s t u v w
    (λ at b. elim (cases_eq b.0 n) [
      | inl same ↦ inr (subst (λ (k : ℕ). P k at) same b.2)
      | inr other ↦ let lt = b.1 in inl (b.0, omega (arith, lt, other), b.2)
    ])
    (λ at both. elim both [
      | inl b ↦ let lt = b.1 in (b.0, omega (arith, lt), b.2)
      | inr p ↦ (n, omega arith, p)
    ])

-- one more that has nothing
pub below_same : (P : ℕ → ℕ → Type 0) (n : ℕ) (s t : Search) → Visits (Below P n) s t → ((at : ℕ) → P n at → ⊥) → Visits (Below P (n + 1)) s t
below_same P n s t v none = visits_same (Below P n) (Below P (n + 1)) s t v
    (λ at b. let lt = b.1 in (b.0, omega (arith, lt), b.2))
    (λ at b. elim (cases_eq b.0 n) [
      | inl same ↦ absurd (none at (subst (λ (k : ℕ). P k at) same b.2))
      | inr other ↦ let lt = b.1 in (b.0, omega (arith, lt, other), b.2)
    ])

-- all of them
pub below_all : (P : ℕ → ℕ → Type 0) (n : ℕ) (s t : Search) → ((k at : ℕ) → P k at → k < n) → Visits (Below P n) s t → Visits (λ at. (k : ℕ) × P k at) s t
below_all P n s t limit v = visits_same (Below P n) (λ at. (k : ℕ) × P k at) s t v (λ at b. (b.0, b.2)) (λ at b. (b.0, limit b.0 at b.1, b.1))

-- mutators
pub mutators_start : (mutators : List MutatorEnd) (s : Search) → IsSearch s → Visits (IsMutatorRoot (take 0 mutators)) s s
mutators_start mutators s i = visits_none (IsMutatorRoot (take 0 mutators)) s i (λ at b. absurd (nothing_in b.0 b.1))

pub mutators_next : (mutators : List MutatorEnd) (i : ℕ) (d : MutatorEnd) (s t u : Search) → i < length mutators →
    Visits (IsMutatorRoot (take i mutators)) s t → Visits (IsOwnRoot (get_or mutators i d)) t u → Visits (IsMutatorRoot (take (i + 1) mutators)) s u
mutators_next mutators i d s t u lt v w =
    let own : MutatorEnd = get_or mutators i d in
    let e : take (i + 1) mutators ≡ take i mutators ++ own ∷ [] = take_more mutators i d lt in
    visits_then (IsMutatorRoot (take i mutators)) (IsOwnRoot own) (IsMutatorRoot (take (i + 1) mutators)) s t u v w
    (λ at b. elim (Contains-push_cases (take i mutators) own b.0 (subst (λ (l : List MutatorEnd). Contains l b.0) e b.1)) [
      | inl old ↦ inl (b.0, old, b.2)
      | inr same ↦ inr (subst (λ (m : MutatorEnd). IsOwnRoot m at) (sym same) b.2)
    ])
    (λ at both. elim both [
      | inl b ↦ (b.0, subst (λ (l : List MutatorEnd). Contains l b.0) (sym e) (Contains-append_left (take i mutators) (own ∷ []) b.0 b.1), b.2)
      | inr p ↦ (own, subst (λ (l : List MutatorEnd). Contains l own) (sym e) (Contains-push (take i mutators) own), p)
    ])

pub mutators_end : (mutators : List MutatorEnd) (i : ℕ) (s t : Search) → length mutators ≤ i → Visits (IsMutatorRoot (take i mutators)) s t →
    Visits (IsMutatorRoot mutators) s t
mutators_end mutators i s t all v = let P : List MutatorEnd → Type 0 = λ l. Visits (IsMutatorRoot l) s t in subst P (take_all i mutators all) v

-- each root of the search lies in the heap, and is a number of 32 bits
pub root_within : (report : Report) → IsReadyFor report → (at : ℕ) → IsRootPlace report at → (at < length report.words) × (at < 2 ^ 32)
root_within report ready at root =
    let object = ready.objects at (Reaches.root at root) in
    let fits = object.named.within in
    let small = object.named.small in
    (omega (arith, fits), omega (arith, small))

-- a promise of success, replaced by its consequence
pub on_ok : {T E P Q : Type 0} (r : Result T E) → (P → Q) → OnOk r P → OnOk r Q
on_ok (Ok x) f h = f h
on_ok (Err e) f h = h

-- from more addresses more is reachable
pub reaches_in : (words : List ℕ) (P Q : ℕ → Type 0) → ((at : ℕ) → P at → Q at) → (at : ℕ) → Reaches words P at → Reaches words Q at
reaches_in words P Q more at (Reaches.root _ p) = Reaches.root at (more at p)
reaches_in words P Q more at (Reaches.field from _ object r c) = Reaches.field from at object (reaches_in words P Q more from r) c
