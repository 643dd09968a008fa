-- Weak pointers that die, in the words: their value words become 0, and words and list represent the closed world.
use Rattle.nmgc_weak.proofs.Vocabulary.{◌≡◌, ◌≢◌, ◌+◌, ◌≤◌, ℕ, zero, suc, Bool, true, false, cond, eqb, ne_eqb, eq-eqb, List, [], ◌∷◌, set, refl, sym, ap, subst, ◌∙◌, arith, Some, None, inl, inr, ◌⊎◌, Contains, slice_index, filter, not, cases_eq, Name, Value, Weak, Parts, World, IsWorld, node_of, IsAlive, IsAliveWeak, IsBefore, IsInOrder, IsReached, closed, closed_by, contains_head, contains_tail, contains_cases, in_order_first, in_order_rest, not_before_itself, Layout, HEADER_WORDS, Dies, dies_by, Slot, holds, unset, Place, Means, Fills, LiesWell, get_or-set_other, Represents, NoNode, AreEarlier, ListsWeaks, IsListedWeak, IsTracked, field_changed, closing_tracks, closing_keeps_earlier, OldWeak, place_of, places_of, names_of, value_place, without_values, alive_of, is_alive, names_same, of_place, dead_at}
use Rattle.nmgc_world_spec.specs.declared.value.Value.TheVariants as value
use Rattle.nmgc_weak.proofs.{Leaving.filter_ordered, Saving.has_place}

-- a weak pointer that is alive is tracked
pub alive_tracked : (w : World) (earlier : List World) (weak : Name) (parts : Parts) → IsAlive w weak parts → IsTracked w earlier weak
alive_tracked w earlier weak parts alive = IsReached.start weak (w, contains_head w earlier, IsReached.start weak (inr (weak, parts, alive, inl refl)))

-- the effect of a death
module _ (w : World) (world : IsWorld w) (d : Name) (parts : Parts) (alive : IsAlive w d parts) where
  abbrev v : World
  v = closed_by w d (node_of w d)

  dies : Dies w v d
  dies = dies_by w world d

  is_dead : node_of v d ≡ Some (Weak None)
  is_dead = elim (dies.nodes d) [ inl same ↦ absurd (dies.dead parts (same ∙ alive)) | inr gone ↦ gone.1 ]

  pub others_stay : (n : Name) → n ≢ d → node_of v n ≡ node_of w n
  others_stay n ne = elim (dies.nodes n) [ inl same ↦ same | inr gone ↦ absurd (ne gone.0) ]

  pub one_dies : (layout : Layout) (earlier : List World) (places : List Place) (words : List ℕ) (at : ℕ) → AreEarlier earlier w →
      Contains places (record { at = at; name = d }) → Represents layout earlier NoNode places w words →
      Represents layout earlier NoNode places v (set words (value_place at) 0)
  one_dies layout earlier places words at past c r =
      let p : Place = record { at = at; name = d } in
      let z : at + HEADER_WORDS + 1 ≡ value_place at = omega arith in
      rw z at (field_changed layout earlier NoNode places w v words p 1 0 (Weak (Some parts)) (Weak None) world past (λ name before now k is. absurd k) (record {
        there = c;
        is_tracked = alive_tracked w earlier d parts alive;
        before = alive;
        after = is_dead;
        others = others_stay;
        at_one = dead_at parts;
        field = λ slot e. let y : Some unset ≡ Some slot = e in let q : unset ≡ slot = cc in subst (λ (s : Slot). Fills (Contains places) 0 s) q refl;
        nothing_new = λ name t. closing_tracks w (d ∷ []) earlier world name t;
      }) r)

  pub past_then : (earlier : List World) → AreEarlier earlier w → AreEarlier earlier v
  past_then earlier past e c = closing_keeps_earlier e w (d ∷ []) world (past e c)

  pub world_then : IsWorld v
  world_then = dies.world

-- each of these is alive, and has its address
abbrev pub AreAlive : List Place → World → List OldWeak → Type 0
AreAlive places w dying = (x : OldWeak) → Contains dying x → Contains places (place_of x) × IsAliveWeak w x.weak

pub name_in : (list : List OldWeak) (x : OldWeak) → Contains list x → Contains (names_of list) x.weak
name_in [] x c = absurd (omega (arith, c.1))
name_in (y ∷ ys) x c = elim (contains_cases y ys x c) [
  | inl e ↦ subst (λ (z : OldWeak). Contains (names_of (y ∷ ys)) z.weak) e (contains_head y.weak (names_of ys))
  | inr d ↦ contains_tail y.weak (names_of ys) x.weak (name_in ys x d)
]

pub name_there : (list : List OldWeak) (name : Name) → Contains (names_of list) name → (x : OldWeak) × Contains list x × (x.weak ≡ name)
name_there [] name c = absurd (omega (arith, c.1))
name_there (y ∷ ys) name c = elim (contains_cases y.weak (names_of ys) name c) [
  | inl e ↦ (y, contains_head y ys, e)
  | inr d ↦ let r = name_there ys name d in (r.0, contains_tail y ys r.0 r.1, r.2)
]

-- an address is above word 0
lies_above : (layout : Layout) (p : Place) → LiesWell layout p HEADER_WORDS → 1 ≤ p.at
lies_above layout p (inl g) = let e = g.1 in omega arith
lies_above layout p (inr (ne, inl segment)) = let l = segment.1 p.at (omega arith) (omega arith) in let f = l.from in omega arith
lies_above layout p (inr (ne, inr nursery)) = let l = nursery.1 p.at (omega arith) (omega arith) in let f = l.from in omega arith

-- all of them die in order
pub all_die : (layout : Layout) (earlier : List World) (places : List Place) (w : World) (words : List ℕ) (dying : List OldWeak) → IsWorld w →
    AreEarlier earlier w → IsInOrder (names_of dying) → AreAlive places w dying → Represents layout earlier NoNode places w words →
    Represents layout earlier NoNode places (closed w (names_of dying)) (without_values words dying)
all_die layout earlier places w words [] world past o alive r = r
all_die layout earlier places w words (x ∷ xs) world past o alive r =
    let a = alive x (contains_head x xs) in
    let parts : Parts = a.1.0 in
    let v : World = closed_by w x.weak (node_of w x.weak) in
    all_die layout earlier places v (set words (value_place x.at.0) 0) xs (world_then w world x.weak parts a.1.1)
    (past_then w world x.weak parts a.1.1 earlier past) (in_order_rest x.weak (names_of xs) o)
    (λ y c.
    let b = alive y (contains_tail x xs y c) in
    let before = in_order_first x.weak (names_of xs) o y.weak (name_in xs y c) in
    let ne : y.weak ≢ x.weak = λ e. not_before_itself x.weak (subst (λ (n : Name). IsBefore x.weak n) e before) in
    (b.0, (b.1.0, others_stay w world x.weak parts a.1.1 y.weak ne ∙ b.1.1)))
    (one_dies w world x.weak parts a.1.1 layout earlier places words x.at.0 past a.0 r)

-- the node of a name in the closed world
pub closed_node : (w : World) (dead : List Name) → IsWorld w → (n : Name) → (node_of (closed w dead) n ≡ node_of w n) ⊎
    (Contains dead n × (node_of (closed w dead) n ≡ Some (Weak None)))
closed_node w [] world n = inl refl
closed_node w (d ∷ dead) world n =
    let v : World = closed_by w d (node_of w d) in
    let dies = dies_by w world d in
    elim (closed_node v dead dies.world n) [
      | inl same ↦ elim (dies.nodes n) [
        | inl was ↦ inl (same ∙ was)
        | inr gone ↦ inr (subst (λ (m : Name). Contains (d ∷ dead) m) (sym gone.0) (contains_head d dead), same ∙ gone.1)
      ]
      | inr later ↦ inr (contains_tail d dead n later.0, later.1)
    ]

set_zero : (words : List ℕ) (i : ℕ) → slice_index (set words i 0) i ≡ 0
set_zero [] zero = refl
set_zero [] (suc i) = refl
set_zero (w ∷ ws) zero = refl
set_zero (w ∷ ws) (suc i) = set_zero ws i

-- a value word of these is 0, and any other is as before
cleared_or : (words : List ℕ) (dying : List OldWeak) (j : ℕ) → (slice_index (without_values words dying) j ≡ slice_index words j) ⊎
    (slice_index (without_values words dying) j ≡ 0)
cleared_or words [] j = inl refl
cleared_or words (x ∷ xs) j = elim (cleared_or (set words (value_place x.at.0) 0) xs j) [
  | inr none ↦ inr none
  | inl same ↦ elim (cases_eq j (value_place x.at.0)) [
    | inr other ↦ inl (same ∙ get_or-set_other words (value_place x.at.0) j 0 0 other)
    | inl here ↦ inr (same ∙ ap (λ (i : ℕ). slice_index (set words i 0) j) (sym here) ∙ set_zero words j)
  ]
]

pub cleared_zero : (words : List ℕ) (dying : List OldWeak) (x : OldWeak) → Contains dying x → slice_index (without_values words dying) (value_place x.at.0) ≡ 0
cleared_zero words [] x c = absurd (omega (arith, c.1))
cleared_zero words (y ∷ ys) x c = elim (contains_cases y ys x c) [
  | inl same ↦ elim (cleared_or (set words (value_place y.at.0) 0) ys (value_place x.at.0)) [
    | inr none ↦ none
    | inl as_was ↦ as_was ∙ ap (λ (z : OldWeak). slice_index (set words (value_place z.at.0) 0) (value_place x.at.0)) same ∙ set_zero words (value_place x.at.0)
  ]
  | inr d ↦ cleared_zero (set words (value_place y.at.0) 0) ys x d
]

-- the weak pointers that pass a test
kept_other : (b : Bool) (y x : OldWeak) (kept : List OldWeak) → Contains kept x → Contains (cond b (y ∷ kept) kept) x
kept_other true y x kept c = contains_tail y kept x c
kept_other false y x kept c = c

kept_first : (b : Bool) (y : OldWeak) (kept : List OldWeak) → b ≡ true → Contains (cond b (y ∷ kept) kept) y
kept_first true y kept e = contains_head y kept
kept_first false y kept e = cc

pub filter_keeps : (test : OldWeak → Bool) (list : List OldWeak) (x : OldWeak) → Contains list x → test x ≡ true → Contains (filter test list) x
filter_keeps test [] x c e = c
filter_keeps test (y ∷ ys) x c e = elim (contains_cases y ys x c) [
  | inl same ↦ subst (λ (z : OldWeak). Contains (filter test (y ∷ ys)) z) same (kept_first (test y) y (filter test ys) (ap test same ∙ e))
  | inr d ↦ kept_other (test y) y x (filter test ys) (filter_keeps test ys x d e)
]

had : (b : Bool) (y x : OldWeak) (kept : List OldWeak) → Contains (cond b (y ∷ kept) kept) x → ((y ≡ x) × (b ≡ true)) ⊎ Contains kept x
had true y x kept c = elim (contains_cases y kept x c) [ inl same ↦ inl (same, refl) | inr d ↦ inr d ]
had false y x kept c = inr c

pub filter_had : (test : OldWeak → Bool) (list : List OldWeak) (x : OldWeak) → Contains (filter test list) x → Contains list x × (test x ≡ true)
filter_had test [] x c = absurd (omega (arith, c.1))
filter_had test (y ∷ ys) x c = elim (had (test y) y x (filter test ys) c) [
  | inl first ↦ (subst (λ (z : OldWeak). Contains (y ∷ ys) z) first.0 (contains_head y ys), ap test (sym first.0) ∙ first.1)
  | inr d ↦ let r = filter_had test ys x d in (contains_tail y ys x r.0, r.1)
]

-- whether the value word is 0
pub alive_word : (words : List ℕ) (x : OldWeak) → slice_index words (value_place x.at.0) ≢ 0 → is_alive words x ≡ true
alive_word words x ne = let e : eqb (slice_index words (value_place x.at.0)) 0 ≡ false = ne_eqb (slice_index words (value_place x.at.0)) 0 ne in rw e refl

pub word_alive : (words : List ℕ) (x : OldWeak) → is_alive words x ≡ true → slice_index words (value_place x.at.0) ≡ 0 → ⊥
word_alive words x e z = let f : eqb (slice_index words (value_place x.at.0)) 0 ≡ true = eq-eqb (slice_index words (value_place x.at.0)) 0 z in
    let g : not true ≡ true = rw f at e in cc

-- a word with a meaning isn't 0
pub set_word : (layout : Layout) (places : List Place) (w : World) (earlier : List World) (words : List ℕ) (word : ℕ) (v : Value) →
    Represents layout earlier NoNode places w words → Means (Contains places) word v → word ≢ 0
set_word layout places w earlier words word value.Nil r m e = omega arith
set_word layout places w earlier words word (value.Number n) r m e = omega arith
set_word layout places w earlier words word (value.Ref name) r m e =
    let named = r.named (record { at = m.0; name = name }) m.2 in
    let above = lies_above layout (record { at = m.0; name = name }) named.lies in
    let is = m.1 in
    omega arith

-- the list without the dead is the closed world's
module _ (layout : Layout) (earlier : List World) (places : List Place) (w : World) (words : List ℕ) (list dying : List OldWeak) (world : IsWorld w)
    (past : AreEarlier earlier w) (listed : ListsWeaks layout places w (places_of list)) (o : IsInOrder (names_of dying))
    (alive : AreAlive places w dying) (r : Represents layout earlier NoNode places w words) where
  abbrev end : World
  end = closed w (names_of dying)

  abbrev us : List ℕ
  us = without_values words dying

  stands : Represents layout earlier NoNode places end us
  stands = all_die layout earlier places w words dying world past o alive r

  still_alive : (x : OldWeak) → Contains list x → is_alive us x ≡ true → IsAliveWeak end x.weak
  still_alive x c e =
      let l = listed.sound (place_of x) (has_place list x c) in
      elim (closed_node w (names_of dying) world x.weak) [
        | inl same ↦ (l.1.0, same ∙ l.1.1)
        | inr dead ↦
            let y = name_there dying x.weak dead.0 in
            let c_y = (alive y.0 y.1).0 in
            let p : Place = place_of y.0 in
            let same = r.one (place_of y.0) (place_of x) c_y l.0 (inl y.2) in
            let at : y.0.at.0 ≡ x.at.0 = ap (λ (q : Place). q.at) same in
            absurd (word_alive us x e (ap (λ (i : ℕ). slice_index us (value_place i)) (sym at) ∙ cleared_zero words dying y.0 y.1))
      ]

  pub lists_closed : ListsWeaks layout places end (places_of (alive_of us list))
  lists_closed = record {
    ordered = subst IsInOrder (sym (names_same (alive_of us list))) (filter_ordered (is_alive us) list (subst IsInOrder (names_same list) listed.ordered));
    sound = λ p c.
        let x = of_place (alive_of us list) p c in
        let k = filter_had (is_alive us) list x.0 x.1 in
        let l = listed.sound (place_of x.0) (has_place list x.0 k.0) in
        subst (λ (q : Place). IsListedWeak layout places end q) x.2 (l.0, still_alive x.0 k.0 k.1, l.2);
    complete = λ p l.
        let parts : Parts = l.1.0 in
        let was : IsAliveWeak w p.name = elim (closed_node w (names_of dying) world p.name) [
          | inl same ↦ (parts, sym same ∙ l.1.1)
          | inr dead ↦ (parts, absurd (let z : Some (Weak None) ≡ Some (Weak (Some parts)) = sym dead.1 ∙ l.1.1 in cc))
        ] in
        let x = of_place list p (listed.complete p (l.0, was, l.2)) in
        let placed = stands.tracked p.name (Weak (Some parts)) (alive_tracked end earlier p.name parts l.1.1) l.1.1 in
        let same = stands.one (record { at = placed.at; name = p.name }) p placed.there l.0 (inl refl) in
        let at : placed.at ≡ x.0.at.0 = ap (λ (q : Place). q.at) same ∙ sym (ap (λ (q : Place). q.at) x.2) in
        let z : placed.at + HEADER_WORDS + 1 ≡ value_place x.0.at.0 = omega arith in
        let means : Means (Contains places) (slice_index us (value_place x.0.at.0)) parts.value =
        subst (λ (i : ℕ). Means (Contains places) (slice_index us i) parts.value) z (placed.fields 1 (holds parts.value) refl) in
        let kept = filter_keeps (is_alive us) list x.0 x.1 (alive_word us x.0
        (set_word layout places end earlier us (slice_index us (value_place x.0.at.0)) parts.value stands means)) in
        subst (λ (q : Place). Contains (places_of (alive_of us list)) q) x.2 (has_place (alive_of us list) x.0 kept);
  }
