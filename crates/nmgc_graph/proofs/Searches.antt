-- The effects of marking names in a search, and the facts that it keeps.
use Rattle.nmgc_graph.proofs.Vocabulary.{◌≡◌, ◌≤◌, ◌+◌, ℕ, List, [], ◌∷◌, ◌++◌, length, inl, inr, refl, sym, subst, ◌∙◌, arith, Bool, false, ◌⊎◌, length-append, map, Contains, All, cases_Bool, All-head, All-tail, All-weaker, All-map, Contains-append_left, Contains-append_right, Contains-append_cases, Contains-push, Contains-push_cases, Name, Value, Nil, Number, Ref, Search, World, IsKnown, AreKnown, row_of, mark_of, IsMarked, HasPlace, IsPlaced, with_mark, unmarked_count, HasPlaces, with_name, with_value, with_values, contains_head, contains_cases, name_placed, added, kept_others, places_kept, makers_kept, one_fewer, name_cases}

-- the effects of marking the names that the values refer to
pub record Marks (s t : Search) (values : List Value) : Type 0 where
  pub kept : (n : Name) → IsMarked s.marks n → IsMarked t.marks n
  pub waits : (n : Name) → Contains s.work n → Contains t.work n
  pub hit : (n : Name) → Contains values (Ref n) → IsMarked t.marks n
  pub fresh : (n : Name) → IsMarked t.marks n → IsMarked s.marks n ⊎ (Contains values (Ref n) × Contains t.work n)
  pub waiting : (n : Name) → Contains t.work n → Contains s.work n ⊎ IsMarked t.marks n
  pub count : unmarked_count t.marks + length t.work ≡ unmarked_count s.marks + length s.work
  pub longer : length s.work ≤ length t.work
  pub places : (maker : ℕ) → length (row_of t.marks maker) ≡ length (row_of s.marks maker)
  pub makers : length t.marks ≡ length s.marks

pub no_marks : (s : Search) → Marks s s []
no_marks s = record {
  kept = λ n m. m;
  waits = λ n c. c;
  hit = λ n c. absurd (omega (arith, c.1));
  fresh = λ n m. inl m;
  waiting = λ n c. inl c;
  count = refl;
  longer = omega arith;
  places = λ maker. refl;
  makers = refl;
}

pub then_marks : (s t u : Search) (xs ys : List Value) → Marks s t xs → Marks t u ys → Marks s u (xs ++ ys)
then_marks s t u xs ys a b = record {
  kept = λ n m. b.kept n (a.kept n m);
  waits = λ n c. b.waits n (a.waits n c);
  hit = λ n c. elim (Contains-append_cases xs ys (Ref n) c) [
    | inl l ↦ b.kept n (a.hit n l)
    | inr r ↦ b.hit n r
  ];
  fresh = λ n m. elim (b.fresh n m) [
    | inl old ↦ elim (a.fresh n old) [
      | inl older ↦ inl older
      | inr c ↦ inr (Contains-append_left xs ys (Ref n) c.0, b.waits n c.1)
    ]
    | inr c ↦ inr (Contains-append_right xs ys (Ref n) c.0, c.1)
  ];
  waiting = λ n c. elim (b.waiting n c) [
    | inl d ↦ elim (a.waiting n d) [ inl e ↦ inl e | inr m ↦ inr (b.kept n m) ]
    | inr m ↦ inr m
  ];
  count = b.count ∙ a.count;
  longer = omega (arith, a.longer, b.longer);
  places = λ maker. b.places maker ∙ a.places maker;
  makers = b.makers ∙ a.makers;
}

-- no effect of values that refer to no name, or to a name that was marked
plain_marks : (s : Search) (v : Value) → ((n : Name) → v ≡ Ref n → IsMarked s.marks n) → Marks s s (v ∷ [])
plain_marks s v shown = record {
  kept = λ n m. m;
  waits = λ n c. c;
  hit = λ n c. elim (contains_cases v [] (Ref n) c) [ inl e ↦ shown n e | inr d ↦ absurd (omega (arith, d.1)) ];
  fresh = λ n m. inl m;
  waiting = λ n c. inl c;
  count = refl;
  longer = omega arith;
  places = λ maker. refl;
  makers = refl;
}

pub same_ref : (a b : Name) → Ref a ≡ Ref b → a ≡ b
same_ref a b e = cc

fresh_marks : (s : Search) (name : Name) → HasPlace s.marks name → mark_of s.marks name ≡ false →
    Marks s (record { marks = with_mark s.marks name; work = s.work ++ name ∷ [] }) (Ref name ∷ [])
fresh_marks s name place new =
    let t : Search = record { marks = with_mark s.marks name; work = s.work ++ name ∷ [] } in
    let more : length t.work ≡ length s.work + 1 = length-append s.work (name ∷ []) in
    let fewer = one_fewer s.marks name place new in
    record {
      kept = λ n m. elim (name_cases n name) [
        | inl e ↦ rw e (added s.marks name place)
        | inr ne ↦ kept_others s.marks name place n ne ∙ m
      ];
      waits = λ n c. Contains-append_left s.work (name ∷ []) n c;
      hit = λ n c. elim (contains_cases (Ref name) [] (Ref n) c) [
        | inl e ↦ let P : Name → Type 0 = IsMarked t.marks in subst P (same_ref name n e) (added s.marks name place)
        | inr d ↦ absurd (omega (arith, d.1))
      ];
      fresh = λ n m. elim (name_cases n name) [
        | inl e ↦ inr (rw e (contains_head (Ref name) []), rw e (Contains-push s.work name))
        | inr ne ↦ inl (sym (kept_others s.marks name place n ne) ∙ m)
      ];
      waiting = λ n c. elim (Contains-push_cases s.work name n c) [
        | inl d ↦ inl d
        | inr e ↦ let P : Name → Type 0 = IsMarked t.marks in inr (subst P e (added s.marks name place))
      ];
      count = omega arith;
      longer = omega arith;
      places = places_kept s.marks name place;
      makers = makers_kept s.marks name place;
    }

pub name_marks : (s : Search) (name : Name) → HasPlace s.marks name → Marks s (with_name s name) (Ref name ∷ [])
name_marks s name place = elim (cases_Bool (mark_of s.marks name)) [
  | inl old ↦ rw old (plain_marks s (Ref name) (λ n e. let P : Name → Type 0 = IsMarked s.marks in subst P (same_ref name n e) old))
  | inr new ↦ rw new (fresh_marks s name place new)
]

value_marks : (s : Search) (v : Value) → IsPlaced s.marks v → Marks s (with_value s v) (v ∷ [])
value_marks s Nil placed = plain_marks s Nil (λ n e. absurd cc)
value_marks s (Number k) placed = plain_marks s (Number k) (λ n e. absurd cc)
value_marks s (Ref name) placed = name_marks s name placed

-- a place stays
pub still_placed : (a b : List (List Bool)) → ((maker : ℕ) → length (row_of b maker) ≡ length (row_of a maker)) → (v : Value) → IsPlaced a v → IsPlaced b v
still_placed a b same Nil p = tt
still_placed a b same (Number n) p = tt
still_placed a b same (Ref name) p = omega (arith, same name.maker)

pub values_mark : (values : List Value) (s : Search) → All (IsPlaced s.marks) values → Marks s (with_values s values) values
values_mark [] s placed = no_marks s
values_mark (v ∷ values) s placed =
    let one = value_marks s v (All-head (IsPlaced s.marks) v values placed) in
    let rest = All-weaker (IsPlaced s.marks) (IsPlaced (with_value s v).marks) (still_placed s.marks (with_value s v).marks one.places) values
    (All-tail (IsPlaced s.marks) v values placed) in
    then_marks s (with_value s v) (with_values s (v ∷ values)) (v ∷ []) values one (values_mark values (with_value s v) rest)

-- values that have a place still have a place after other values are marked
pub placed_after : (s : Search) (others values : List Value) → All (IsPlaced s.marks) others → All (IsPlaced s.marks) values →
    All (IsPlaced (with_values s others).marks) values
placed_after s others values first placed =
    let m = values_mark others s first in
    All-weaker (IsPlaced s.marks) (IsPlaced (with_values s others).marks) (still_placed s.marks (with_values s others).marks m.places) values placed

pub refs_placed : (marks : List (List Bool)) (names : List Name) → All (HasPlace marks) names → All (IsPlaced marks) (map Ref names)
refs_placed marks names placed = All-map (IsPlaced marks) Ref names placed

-- a set with a place for each name of a world
module _ (w : World) (marks : List (List Bool)) (h : HasPlaces w marks) where
  pub known_placed : (v : Value) → IsKnown w v → IsPlaced marks v
  known_placed Nil known = tt
  known_placed (Number n) known = tt
  known_placed (Ref name) known = name_placed w marks h name known

  pub are_placed : (values : List Value) → AreKnown w values → All (IsPlaced marks) values
  are_placed values known = All-weaker (IsKnown w) (IsPlaced marks) known_placed values known
