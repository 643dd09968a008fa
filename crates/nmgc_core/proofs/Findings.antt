-- Marking names in the search of the closing: what changes, and what stays.
use Rattle.nmgc_core.proofs.Vocabulary.{◌≡◌, ◌<◌, ◌+◌, ℕ, Bool, Result, Ok, Err, get_or, take, List, [], ◌∷◌, ◌++◌, length, sym, subst, ◌∙◌, arith, length-append, false, true, inl, inr, Contains, IsSome, OnOk, Contains-append_left, Contains-append_right, Contains-append_cases, Contains-push, Contains-push_cases, take_more, NoMemory, Name, Value, World, node_of, IsMarked, HasPlace, HasPlaces, mark_of, with_mark, unmarked_count, added, kept_others, places_kept, makers_kept, one_fewer, name_placed, name_cases, Finding, Adds, contains_one, one_is}
use Rattle.nmgc_world_spec.specs.declared.value.Value.TheVariants as value

pub then_adds : (snapshot : World) (s t u : Finding) (xs ys : List Value) → Adds snapshot s t xs → Adds snapshot t u ys → Adds snapshot s u (xs ++ ys)
then_adds snapshot s t u xs ys a b = record {
  kept = λ n m. b.kept n (a.kept n m);
  waits = λ n c. b.waits n (a.waits n c);
  hit = λ n there c. elim (Contains-append_cases xs ys (value.Ref n) c) [
    | inl l ↦ b.kept n (a.hit n there l)
    | inr r ↦ b.hit n there r
  ];
  fresh = λ n m. elim (b.fresh n m) [
    | inl old ↦ elim (a.fresh n old) [
      | inl older ↦ inl older
      | inr c ↦ inr (c.0, Contains-append_left xs ys (value.Ref n) c.1, b.waits n c.2)
    ]
    | inr c ↦ inr (c.0, Contains-append_right xs ys (value.Ref n) c.1, c.2)
  ];
  waiting = λ n c. elim (b.waiting n c) [
    | inl d ↦ elim (a.waiting n d) [ inl e ↦ inl e | inr m ↦ inr (b.kept n m.0, m.1) ]
    | inr m ↦ inr (m.0, λ k. m.1 (a.kept n k))
  ];
  count = b.count ∙ a.count;
  longer = omega (arith, a.longer, b.longer);
  places = b.places;
}

-- a new name
pub name_added : (snapshot : World) (s t : Finding) (name : Name) → HasPlaces snapshot s.marks → IsSome (node_of snapshot name) →
    mark_of s.marks name ≡ false → t.marks ≡ with_mark s.marks name → t.work ≡ s.work ++ name ∷ [] → Adds snapshot s t (value.Ref name ∷ [])
name_added snapshot s t name places there new marks work =
    let place : HasPlace s.marks name = name_placed snapshot s.marks places name there in
    let mine : IsMarked t.marks name = rw marks (added s.marks name place) in
    let more : length t.work ≡ length s.work + 1 = rw work (length-append s.work (name ∷ [])) in
    let fewer : unmarked_count t.marks + 1 ≡ unmarked_count s.marks = rw marks (one_fewer s.marks name place new) in
    record {
      kept = λ n m. elim (name_cases n name) [
        | inl e ↦ subst (IsMarked t.marks) (sym e) mine
        | inr ne ↦ rw marks (kept_others s.marks name place n ne ∙ m)
      ];
      waits = λ n c. rw work (Contains-append_left s.work (name ∷ []) n c);
      hit = λ n known c. let e : value.Ref name ≡ value.Ref n = one_is (value.Ref name) (value.Ref n) c in let same : name ≡ n = cc in
          subst (IsMarked t.marks) same mine;
      fresh = λ n m. elim (name_cases n name) [
        | inl e ↦ inr (
          subst (λ (k : Name). IsSome (node_of snapshot k)) (sym e) there,
          subst (λ (k : Name). Contains (value.Ref name ∷ []) (value.Ref k)) (sym e) (contains_one (value.Ref name)),
          rw (work, e) (Contains-push s.work name),
        )
        | inr ne ↦ inl (sym (kept_others s.marks name place n ne) ∙ (rw marks at m))
      ];
      waiting = λ n c. elim (Contains-push_cases s.work name n (rw work at c)) [
        | inl d ↦ inl d
        | inr e ↦ inr (
          subst (IsMarked t.marks) e mine,
          λ k. let old : mark_of s.marks name ≡ true = subst (λ (x : Name). mark_of s.marks x ≡ true) (sym e) k in cc,
        )
      ];
      count = omega (arith, more, fewer);
      longer = omega (arith, more);
      places = rw marks (record {
        makers = makers_kept s.marks name place ∙ places.makers;
        counts = λ maker. places_kept s.marks name place maker ∙
            places.counts maker;
      });
    }

-- and if it could join the worklist
pub name_pushed : (snapshot : World) (s : Finding) (marks : List (List Bool)) (work : List Name) (name : Name) (r : Result (Unit {0}) NoMemory) →
    HasPlaces snapshot s.marks → IsSome (node_of snapshot name) → mark_of s.marks name ≡ false → marks ≡ with_mark s.marks name →
    OnOk r (work ≡ s.work ++ name ∷ []) → OnOk r (Adds snapshot s (record { marks = marks; work = work }) (value.Ref name ∷ []))
name_pushed snapshot s marks work name (Ok u) places there new e f = name_added snapshot s (record { marks = marks; work = work }) name places there new e f
name_pushed snapshot s marks work name (Err error) places there new e f = tt

-- the step of a loop that marks values
pub values_added : (snapshot : World) (s t u : Finding) (values : List Value) (i : ℕ) (d : Value) → i < length values →
    Adds snapshot s t (take i values) → Adds snapshot t u (get_or values i d ∷ []) → Adds snapshot s u (take (i + 1) values)
values_added snapshot s t u values i d lt a b = rw (take_more values i d lt) (then_adds snapshot s t u (take i values) (get_or values i d ∷ []) a b)
