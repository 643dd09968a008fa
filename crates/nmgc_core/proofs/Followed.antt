-- Following fields in the closing: the effect of each step.
use Rattle.nmgc_core.proofs.Vocabulary.{◌≡◌, List, [], ◌∷◌, ◌++◌, sym, subst, ◌∙◌, arith, Some, None, true, inl, inr, ◌⊎◌, Contains, IsSome, cases_Bool, Contains-append_left, Contains-push, Contains-push_cases, Name, Node, node_of, IsMarked, mark_of, RefersTo, strong_fields, Finding, State, Adds, IsSearch, IsReached, IsFollowed}
use Rattle.nmgc_world_spec.specs.declared.value.Value.TheVariants as value

pub follow_none : (s : State) (f : Finding) → IsSearch s f → IsFollowed s f f
follow_none s f h = record { search = h; kept = λ n m. m; sound = λ n m. IsReached.start n m; fewer = omega arith }

-- one name is taken from the worklist
module _ (s : State) (old f : Finding) (rest : List Name) (name : Name) (off : f.work ≡ rest ++ name ∷ []) (h : IsFollowed s old f) where
  in_rest : (n : Name) → Contains rest n → IsMarked f.marks n × (Contains s.marked n → ⊥)
  in_rest n c = h.search.waiting n (rw off (Contains-append_left rest (name ∷ []) n c))

  taken_off : IsMarked f.marks name × (Contains s.marked name → ⊥)
  taken_off = h.search.waiting name (rw off (Contains-push rest name))

  still_waits : (n target : Name) → IsMarked f.marks n → (Contains s.marked n → ⊥) → RefersTo s.world n target →
      IsSome (node_of s.snapshot target) → (name ≡ n) ⊎ (Contains rest n ⊎ IsMarked f.marks target)
  still_waits n target m new r there = elim (h.search.traced n target m new r there) [
    | inl c ↦ elim (Contains-push_cases rest name n (rw off at c)) [ inl d ↦ inr (inl d) | inr e ↦ inl e ]
    | inr t ↦ inr (inr t)
  ]

  -- the name isn't in the map, so it refers to nothing
  pub follow_nothing : node_of s.world name ≡ None → IsFollowed s old (record { marks = f.marks; work = rest })
  follow_nothing none = record {
    search = record {
      places = h.search.places;
      begun = h.search.begun;
      waiting = in_rest;
      traced = λ n target m new r there. elim (still_waits n target m new r there) [
        | inl e ↦ let lost : node_of s.world n ≡ None = subst (λ (k : Name). node_of s.world k ≡ None) e none in
            let is : node_of s.world n ≡ Some r.0 = r.1 in absurd cc
        | inr d ↦ d
      ];
    };
    kept = h.kept;
    sound = h.sound;
    fewer = h.fewer;
  }

  -- the targets of its strong fields are marked
  module _ (node : Node) (is : node_of s.world name ≡ Some node) (t : Finding) (a : Adds s.snapshot (record {
    marks = f.marks;
    work = rest;
  }) t (strong_fields node)) where
    same_node : (other : Node) → node_of s.world name ≡ Some other → other ≡ node
    same_node other e = let both : Some other ≡ Some node = sym e ∙ is in cc

    field_of : (n target : Name) → name ≡ n → (r : RefersTo s.world n target) → Contains (strong_fields node) (value.Ref target)
    field_of n target e r = subst (λ (x : Node). Contains (strong_fields x) (value.Ref target)) (same_node r.0 (subst (λ (k : Name).
        node_of s.world k ≡ Some r.0) (sym e) r.1)) r.2

    pub follow_fields : IsFollowed s old t
    follow_fields = record {
      search = record {
        places = a.places;
        begun = λ n c. a.kept n (h.search.begun n c);
        waiting = λ n c. elim (a.waiting n c) [
          | inl d ↦ let w = in_rest n d in (a.kept n w.0, w.1)
          | inr m ↦ (m.0, λ k. m.1 (h.search.begun n k))
        ];
        traced = λ n target m new r there. elim (a.fresh n m) [
          | inl before ↦ elim (still_waits n target before new r there) [
            | inl e ↦ inr (a.hit target there (field_of n target e r))
            | inr d ↦ elim d [ inl c ↦ inl (a.waits n c) | inr k ↦ inr (a.kept target k) ]
          ]
          | inr fresh ↦ inl fresh.2
        ];
      };
      kept = λ n m. a.kept n (h.kept n m);
      sound = λ n k. elim (cases_Bool (mark_of f.marks n)) [
        | inl before ↦ h.sound n before
        | inr unmarked ↦ elim (a.fresh n k) [
          | inl before ↦ h.sound n before
          | inr fresh ↦ IsReached.field name n (h.sound name taken_off.0) taken_off.1 (
            node,
            is,
            fresh.1,
          ) (record { there = fresh.0; unmarked = λ c. let marked : mark_of f.marks n ≡ true = h.search.begun n c in absurd cc })
        ]
      ];
      fewer = omega (arith, a.count, a.longer, h.fewer);
    }
