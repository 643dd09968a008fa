-- The list after reported weak pointers have left.
use Rattle.std.specs.Prelude.{◌≡◌, ◌∷◌, ◌++◌, ◌==◌, ◌&&◌}
use Rattle.nmgc_weak.specs.laws.Vocabulary.{ℕ, Bool, true, false, cond, eq-eqb, ne_eqb, List, [], refl, sym, ap, ◌∙◌, inl, inr, Contains, filter, not, slice_index, cases_eq, contains_head, contains_tail, contains_cases, filter_contains, nothing_in, same_test, OldWeak, left_of, leaves_at, alive_of, is_alive, value_place}

-- a filter that all pass, two filters with the same answers, and a filter after a filter
pub filter_all : {A : Type 0} (p : A → Bool) (xs : List A) → ((x : A) → Contains xs x → p x ≡ true) → filter p xs ≡ xs
filter_all p [] h = refl
filter_all {A} p (x ∷ xs) h =
    cc (h x (contains_head x xs), filter_all p xs (λ y c. h y (contains_tail x xs y c)))

pub filter_same : {A : Type 0} (p q : A → Bool) (xs : List A) → ((x : A) → Contains xs x → p x ≡ q x) → filter p xs ≡ filter q xs
filter_same p q [] h = refl
filter_same {A} p q (x ∷ xs) h =
    cc (h x (contains_head x xs), filter_same p q xs (λ y c. h y (contains_tail x xs y c)))

pub filter_cond : {A : Type 0} (b : Bool) (q : A → Bool) (x : A) (l : List A) → filter q (cond b (x ∷ l) l) ≡ cond (b && q x) (x ∷ filter q l) (filter q l)
filter_cond true q x l = refl
filter_cond false q x l = refl

pub filter_twice : {A : Type 0} (p q : A → Bool) (xs : List A) → filter q (filter p xs) ≡ filter (λ (x : A). p x && q x) xs
filter_twice p q [] = refl
filter_twice {A} p q (x ∷ xs) = filter_cond (p x) q x (filter p xs) ∙ ap (λ (l : List A). cond (p x && q x) (x ∷ l) l) (filter_twice p q xs)

and_false : (b : Bool) → (b && false) ≡ false
and_false true = refl
and_false false = refl

-- the test that the weak pointer leaves at none of the addresses
abbrev pub stays : List ℕ → List ℕ → OldWeak → Bool
stays words [] weak = true
stays words (at ∷ places) weak = not (leaves_at words at weak) && stays words places weak

left_is_stayed : (words places : List ℕ) (list : List OldWeak) → left_of words places list ≡ filter (λ (w : OldWeak). stays words places w) list
left_is_stayed words [] list = sym (filter_all (λ (w : OldWeak). true) list (λ w c. refl))
left_is_stayed words (at ∷ places) list =
    left_is_stayed words places (filter (λ (w : OldWeak). not (leaves_at words at w)) list) ∙
    filter_twice (λ (w : OldWeak). not (leaves_at words at w)) (λ (w : OldWeak). stays words places w) list

-- a weak pointer that is alive stays
alive_stays : (words places : List ℕ) (w : OldWeak) → is_alive words w ≡ true → stays words places w ≡ true
alive_stays words [] w alive = refl
alive_stays words (at ∷ places) w alive =
    let dead : not (is_alive words w) ≡ false = ap not alive in
    let leaves : leaves_at words at w ≡ false = ap (λ (b : Bool). (w.at.0 == at) && b) dead ∙ and_false (w.at.0 == at) in
    ap (λ (b : Bool). not b && stays words places w) leaves ∙ alive_stays words places w alive

-- a dead and reported weak pointer leaves
known_leaves : (words places : List ℕ) (w : OldWeak) → is_alive words w ≡ false → Contains places w.at.0 → stays words places w ≡ false
known_leaves words [] w dead c = absurd (nothing_in w.at.0 c)
known_leaves words (at ∷ places) w dead c = elim (contains_cases at places w.at.0 c) [
  | inl e ↦
      let here : (w.at.0 == at) ≡ true = eq-eqb w.at.0 at (sym e) in
      let leaves : leaves_at words at w ≡ true = ap (λ (b : Bool). b && not (is_alive words w)) here ∙ ap not dead in
      ap (λ (b : Bool). not b && stays words places w) leaves
  | inr d ↦ ap (λ (b : Bool). not (leaves_at words at w) && b) (known_leaves words places w dead d) ∙ and_false (not (leaves_at words at w))
]

-- so once all the dead are reported, the alive are left
pub left_is_alive : (words places : List ℕ) (list : List OldWeak) →
    ((weak : OldWeak) → Contains list weak → slice_index words (value_place weak.at.0) ≡ 0 → Contains places weak.at.0) →
    left_of words places list ≡ alive_of words list
left_is_alive words places list known =
    left_is_stayed words places list ∙
    filter_same (λ (w : OldWeak). stays words places w) (is_alive words) list (λ w c.
    same_test (stays words places w) (is_alive words w) (λ s. elim (cases_eq (slice_index words (value_place w.at.0)) 0) [
      | inl dead ↦
          let no : is_alive words w ≡ false = ap not (eq-eqb (slice_index words (value_place w.at.0)) 0 dead) in
          absurd (let bad : true ≡ false = sym s ∙ known_leaves words places w no (known w c dead) in cc)
      | inr alive ↦ ap not (ne_eqb (slice_index words (value_place w.at.0)) 0 alive)
    ]) (alive_stays words places w))

-- a further address at the end
pub left_more : (words places : List ℕ) (at : ℕ) (list : List OldWeak) →
    left_of words (places ++ at ∷ []) list ≡ filter (λ (w : OldWeak). not (leaves_at words at w)) (left_of words places list)
left_more words [] at list = refl
left_more words (p ∷ places) at list = left_more words places at (filter (λ (w : OldWeak). not (leaves_at words p w)) list)

-- the addresses of a list and then of another
pub left_both : (words first second : List ℕ) (list : List OldWeak) → left_of words (first ++ second) list ≡ left_of words second (left_of words first list)
left_both words [] second list = refl
left_both words (p ∷ first) second list = left_both words first second (filter (λ (w : OldWeak). not (leaves_at words p w)) list)

-- the weak pointers that are left were in the list
pub left_had : (words places : List ℕ) (list : List OldWeak) (w : OldWeak) → Contains (left_of words places list) w → Contains list w
left_had words [] list w c = c
left_had words (p ∷ places) list w c =
    let there = left_had words places (filter (λ (x : OldWeak). not (leaves_at words p x)) list) w c in
    (filter_contains (λ (x : OldWeak). not (leaves_at words p x)) list w there).0
