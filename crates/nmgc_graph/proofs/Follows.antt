-- Following strong fields: the facts that each step keeps, and the names that are reachable in the end.
use Rattle.nmgc_graph.proofs.Vocabulary.{◌≡◌, ◌+◌, List, [], ◌∷◌, ◌++◌, length, inl, inr, refl, sym, subst, ◌∙◌, arith, Bool, ◌⊎◌, length-append, Option, Some, None, Contains, All, IfSome, All-nil, Contains-append_left, Contains-push, Contains-push_cases, Name, Value, Ref, Node, Search, World, node_of, IsKnown, AreKnown, IsNodeOf, IsWorld, IsMarked, IsPlaced, unmarked_count, HasPlaces, IsReached, strong_fields, RefersTo, with_values, fields_in, IsSearch, IsFollowed, fields_known}
use Rattle.nmgc_graph.proofs.Searches.{Marks, values_mark, are_placed}

-- a name refers to a target exactly if the target is in its fields
pub refers_in : (w : World) (name target : Name) → RefersTo w name target → Contains (fields_in (node_of w name)) (Ref target)
refers_in w name target r = rw r.1 r.2

in_refers : (w : World) (name target : Name) (o : Option Node) → node_of w name ≡ o → Contains (fields_in o) (Ref target) → RefersTo w name target
in_refers w name target None e c = absurd (omega (arith, c.1))
in_refers w name target (Some node) e c = (node, e, c)

pub fields_refer : (w : World) (name target : Name) → Contains (fields_in (node_of w name)) (Ref target) → RefersTo w name target
fields_refer w name target c = in_refers w name target (node_of w name) refl c

known_in : (w : World) (o : Option Node) → IfSome o (IsNodeOf w) → AreKnown w (fields_in o)
known_in w None is = All-nil (IsKnown w)
known_in w (Some node) is = fields_known w node is.known

-- the fields of a name refer to names that have a place
pub fields_placed : (w : World) → IsWorld w → (marks : List (List Bool)) → HasPlaces w marks → (name : Name) → All (IsPlaced marks) (fields_in (node_of w name))
fields_placed w h marks places name = are_placed w marks places (fields_in (node_of w name)) (known_in w (node_of w name) (h.nodes name))

pub node_placed : (w : World) (marks : List (List Bool)) → HasPlaces w marks → (node : Node) → IsNodeOf w node → All (IsPlaced marks) (strong_fields node)
node_placed w marks places node is = are_placed w marks places (strong_fields node) (fields_known w node is.known)

-- places stay when names are marked
pub places_stay : (w : World) (s t : Search) (values : List Value) → Marks s t values → HasPlaces w s.marks → HasPlaces w t.marks
places_stay w s t values m h = record { makers = m.makers ∙ h.makers; counts = λ maker. m.places maker ∙ h.counts maker }

-- marking names keeps the invariant of a search
pub search_stays : (w : World) (s t : Search) (values : List Value) → Marks s t values → IsSearch w s → IsSearch w t
search_stays w s t values m h = record {
  places = places_stay w s t values m h.places;
  waiting = λ n c. elim (m.waiting n c) [ inl d ↦ m.kept n (h.waiting n d) | inr k ↦ k ];
  traced = λ n target k r. elim (m.fresh n k) [
    | inl old ↦ elim (h.traced n target old r) [
      | inl c ↦ inl (m.waits n c)
      | inr t ↦ inr (m.kept target t)
    ]
    | inr new ↦ inl new.1
  ];
}

pub follow_none : (w : World) (s : Search) → IsSearch w s → IsFollowed w s s
follow_none w s h = record { search = h; kept = λ n m. m; sound = λ n m. IsReached.start n m; fewer = omega arith }

-- one name comes off the worklist of a search, and values are marked
module _ (w : World) (s : Search) (rest : List Name) (name : Name) (off : s.work ≡ rest ++ name ∷ []) (is : IsSearch w s) where
  taken : Search
  taken = record { marks = s.marks; work = rest }

  taken_waiting : (n : Name) → Contains rest n → IsMarked s.marks n
  taken_waiting n c = is.waiting n (rw off (Contains-append_left rest (name ∷ []) n c))

  pub was_marked : IsMarked s.marks name
  was_marked = is.waiting name (rw off (Contains-push rest name))

  pub still_waits : (n : Name) → Contains s.work n → Contains rest n ⊎ (name ≡ n)
  still_waits n c = Contains-push_cases rest name n (rw off at c)

  module _ (t : Search) (values : List Value) (m : Marks (record { marks = s.marks; work = rest }) t values) where
    -- the search has its invariant again, if all that the name refers to is marked
    pub search_goes_on : ((target : Name) → RefersTo w name target → IsMarked t.marks target) → IsSearch w t
    search_goes_on done = record {
      places = places_stay w (record { marks = s.marks; work = rest }) t values m is.places;
      waiting = λ n c. elim (m.waiting n c) [ inl d ↦ m.kept n (taken_waiting n d) | inr k ↦ k ];
      traced = λ n target k r. elim (m.fresh n k) [
        | inl old ↦ elim (is.traced n target old r) [
          | inl c ↦ elim (still_waits n c) [
            | inl d ↦ inl (m.waits n d)
            | inr e ↦ inr (done target (let P : Name → Type 0 = λ a. RefersTo w a target in subst P (sym e) r))
          ]
          | inr hit ↦ inr (m.kept target hit)
        ]
        | inr new ↦ inl new.1
      ];
    }

    pub one_less : unmarked_count t.marks + length t.work + 1 ≡ unmarked_count s.marks + length s.work
    one_less =
        let more : length s.work ≡ length rest + 1 = rw off (length-append rest (name ∷ [])) in
        omega (arith, m.count)

  module _ (h : IsWorld w) where
    -- the targets of its fields are marked
    pub fields_mark : Marks (record { marks = s.marks; work = rest }) (with_values (record { marks = s.marks; work = rest }) (fields_in (node_of w name)))
        (fields_in (node_of w name))
    fields_mark = values_mark (fields_in (node_of w name)) (record { marks = s.marks; work = rest }) (fields_placed w h s.marks is.places name)

    pub fields_search : IsSearch w (with_values (record { marks = s.marks; work = rest }) (fields_in (node_of w name)))
    fields_search = search_goes_on (with_values (record {
      marks = s.marks;
      work = rest;
    }) (fields_in (node_of w name))) (fields_in (node_of w name)) fields_mark (λ target r. fields_mark.hit target (refers_in w name target r))

    pub fields_follow : (old : Search) → IsFollowed w old s → IsFollowed w old (with_values (record { marks = s.marks; work = rest }) (fields_in (node_of w name)))
    fields_follow old f = record {
      search = fields_search;
      kept = λ n m. fields_mark.kept n (f.kept n m);
      sound = λ n k. elim (fields_mark.fresh n k) [
        | inl m ↦ f.sound n m
        | inr new ↦ IsReached.field name n (f.sound name was_marked) (fields_refer w name n new.0)
      ];
      fewer = omega (arith, fields_mark.count, fields_mark.longer, f.fewer);
    }

    pub fields_count : unmarked_count (with_values (record {
      marks = s.marks;
      work = rest;
    }) (fields_in (node_of w name))).marks + length (with_values (record { marks = s.marks; work = rest }) (fields_in (node_of w name))).work + 1 ≡
        unmarked_count s.marks + length s.work
    fields_count = one_less (with_values (record { marks = s.marks; work = rest }) (fields_in (node_of w name))) (fields_in (node_of w name)) fields_mark
