-- The test whether a name is in a list, and the names of one mutator.
use Rattle.std.specs.Prelude.{◌≡◌, ◌≢◌, ◌<◌, ◌∷◌}
use Rattle.nmgc_snapshot_laws.specs.laws.Vocabulary.{ℕ, List, [], length, get_or, set, refl, sym, subst, Bool, true, false, eqb, inl, inr, All, Contains, get_or-set_same, get_or-set_other, get_or_past, All-nil, All-cons, All-head, All-tail, Contains-get_or, and_parts, and_from, or_cases, or_parts, eqb-true, eq-eqb, cases_eq, cases_lt, Name, Value, is_same_name, name_in, is_listed, names_of, names_among, nothing_in, contains_one, contains_flat, contains_cases, contains_head, contains_tail, same_name, Names}
use Rattle.nmgc_world_spec.specs.declared.value.Value.TheVariants as value

pub tested_same : (a b : Name) → is_same_name a b ≡ true → a ≡ b
tested_same a b h = let p : (eqb a.maker b.maker ≡ true) × (eqb a.serial b.serial ≡ true) = and_parts (eqb a.maker b.maker) (eqb a.serial b.serial) h in
    same_name a b (eqb-true a.maker b.maker p.0) (eqb-true a.serial b.serial p.1)

pub is_same_name-refl : (a : Name) → is_same_name a a ≡ true
is_same_name-refl a = and_from (eqb a.maker a.maker) (eqb a.serial a.serial) (eq-eqb a.maker a.maker refl) (eq-eqb a.serial a.serial refl)

pub contains_listed : (name : Name) (xs : List Name) → is_listed name xs ≡ true → Contains xs name
contains_listed name [] h = absurd cc
contains_listed name (x ∷ xs) h = elim (or_cases (is_same_name x name) (is_listed name xs) h) [
  | inl e ↦ subst (λ y. Contains (x ∷ xs) y) (tested_same x name e) (contains_head x xs)
  | inr r ↦ contains_tail x xs name (contains_listed name xs r)
]

pub not_listed : (name : Name) (xs : List Name) → is_listed name xs ≡ false → Contains xs name → ⊥
not_listed name [] h c = nothing_in name c
not_listed name (x ∷ xs) h c =
    let p : (is_same_name x name ≡ false) × (is_listed name xs ≡ false) = or_parts (is_same_name x name) (is_listed name xs) h in
    elim (contains_cases x xs name c) [
      | inl e ↦ let same : is_same_name x name ≡ true = subst (λ y. is_same_name x y ≡ true) e (is_same_name-refl x) in absurd cc
      | inr r ↦ not_listed name xs p.1 r
    ]

-- a name of a list passes the test
pub listed_from : (name : Name) (xs : List Name) → Contains xs name → is_listed name xs ≡ true
listed_from name xs h = by_test (is_listed name xs) refl
  where
    by_test : (b : Bool) → is_listed name xs ≡ b → b ≡ true
    by_test true e = refl
    by_test false e = absurd (not_listed name xs e h)

-- the lists after one of them was replaced
pub names_same : (lists : List (List Name)) (m : ℕ) (xs : List Name) → m < length lists → names_of (set lists m xs) m ≡ xs
names_same lists m xs lt = get_or-set_same lists m xs [] lt

pub names_other : (lists : List (List Name)) (m k : ℕ) (xs : List Name) → k ≢ m → names_of (set lists m xs) k ≡ names_of lists k
names_other lists m k xs ne = get_or-set_other lists m k xs [] ne

-- a mutator that has a name exists
pub has_place : (lists : List (List Name)) (m : ℕ) (x : Name) (xs : List Name) → names_of lists m ≡ x ∷ xs → m < length lists
has_place lists m x xs e = elim (cases_lt m (length lists)) [
  | inl lt ↦ lt
  | inr le ↦ let none : names_of lists m ≡ [] = get_or_past lists m [] le in absurd cc
]

-- a property of the new list and of each old list holds for each list
pub each_names : (R : List Name → Type 0) (lists : List (List Name)) (m : ℕ) (xs : List Name) → m < length lists → R xs →
    ((k : ℕ) → R (names_of lists k)) → (k : ℕ) → R (names_of (set lists m xs) k)
each_names R lists m xs lt new old k = elim (cases_eq k m) [
  | inl e ↦ subst (λ (j : ℕ). R (names_of (set lists m xs) j)) (sym e) (subst R (sym (names_same lists m xs lt)) new)
  | inr ne ↦ subst R (sym (names_other lists m k xs ne)) (old k)
]

-- if values refer only to names with a property, their references have it
pub names_among_have : (P : Name → Type 0) (values : List Value) → All (Names P) values → All P (names_among values)
names_among_have P [] h = All-nil P
names_among_have P (value.Nil ∷ values) h = names_among_have P values (All-tail (Names P) value.Nil values h)
names_among_have P (value.Number n ∷ values) h = names_among_have P values (All-tail (Names P) (value.Number n) values h)
names_among_have P (value.Ref name ∷ values) h =
    All-cons P name (names_among values) (All-head (Names P) (value.Ref name) values h)
    (names_among_have P values (All-tail (Names P) (value.Ref name) values h))

-- a reference among values is among their names
pub name_among : (values : List Value) (name : Name) → Contains values (value.Ref name) → Contains (names_among values) name
name_among values name h = contains_flat name_in values (value.Ref name) name h (contains_one name)

-- a property of each name that the values contain holds for all of them
pub all_from_contains : (P : Name → Type 0) (values : List Value) → ((name : Name) → Contains values (value.Ref name) → P name) → All (Names P) values
all_from_contains P values h k d lt = by_value (get_or values k d) (Contains-get_or values k d lt)
  where
    by_value : (v : Value) → Contains values v → Names P v
    by_value value.Nil c = tt
    by_value (value.Number n) c = tt
    by_value (value.Ref name) c = h name c
