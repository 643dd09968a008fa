-- The names that are found due are exactly the names that are due.
use Rattle.std.proofs.{Common.◌≡◌, Common.◌≢◌, Common.◌<◌, Common.ℕ, Common.List, Common.[], Common.◌∷◌, Common.◌++◌, Common.length, Common.refl, Common.sym, Common.ap, Common.subst, Common.◌∙◌, Common.Option, Common.Some, Common.None, Common.Bool, Common.true, Common.false, Common.not, Common.inl, Common.inr, Common.◌⊎◌, lemmas.List.Elements.Contains-append_left, lemmas.List.Elements.Contains-append_right, lemmas.List.Elements.Contains-append_cases}
use Rattle.std.specs.Prelude.{Contains, IsSome, is_some, filter, ◌&&◌}
use Rattle.nmgc_limits.specs.declared.mutators.TheConstants.{SHARED_MAKER}
use Rattle.nmgc_world_spec.specs.{declared.value.Name.Name, declared.value.Value.Value, declared.node.Parts.Parts, declared.node.Node.Node, declared.command.Command.Command, World.World, World.node_of, World.is_same_name, World.shared_name, World.step, Reach.IsKeptBy, Reach.opened_by, Reach.finalised_by, Reach.name_in, Reach.names_among, laws.Orders.contains_filter, laws.Orders.filter_contains, laws.Common.same_ref as ref_is}
use Rattle.nmgc_world_spec.specs.declared.value.Value.TheVariants as value
use Rattle.nmgc_graph.specs.{Search.parts_of, laws.Common.alive_from_parts as alive_parts, laws.Common.parts_from_alive as parts_alive}
use Rattle.nmgc_lists.specs.laws.Items.{contains_head, contains_tail, contains_cases, nothing_in, one_is, contains_flat, flat_contains}
use Rattle.nmgc_world_laws.specs.Holds.{strong_at, HasStrongField}
use Rattle.nmgc_snapshot_laws.specs.{laws.Listed.tested_same, laws.Listed.is_same_name-refl, laws.Listed.name_among, Machine.is_pushed_in}
use Rattle.nmgc_barrier_laws.specs.Due.{IsBroken, IsEnded, IsDue}
use Rattle.nmgc_barrier_checker.specs.{declared.due.Field.Field, Dues.strong_in, Dues.is_ref_to, Dues.stands_in, Dues.IsStanding, Dues.kept_of, Dues.kept_then, Dues.targets}
use Rattle.nmgc_barrier_checker.proofs.{Filters.kept_in, Filters.in_kept, Filters.mapped_in, Filters.in_mapped, Broken.BrokenAt, Broken.broken_at}

-- a test of a field is the field
pub stands_is : (w : World) (f : Field) → stands_in w f ≡ true → HasStrongField w f.name f.place (value.Ref f.target)
stands_is w f h = by_node (node_of w f.name) refl h
  where
    by_value : (node : Node) (o : Option Value) → node_of w f.name ≡ Some node → strong_at node f.place ≡ o → is_ref_to f.target o ≡ true →
        HasStrongField w f.name f.place (value.Ref f.target)
    by_value node None e is k = absurd cc
    by_value node (Some value.Nil) e is k = absurd cc
    by_value node (Some (value.Number n)) e is k = absurd cc
    by_value node (Some (value.Ref n)) e is k = record {
      node = node;
      node_is = e;
      field = is ∙
          ap (λ (x : Name). Some (value.Ref x)) (tested_same n f.target k);
    }

    by_node : (o : Option Node) → node_of w f.name ≡ o → is_ref_to f.target (strong_in o f.place) ≡ true → HasStrongField w f.name f.place (value.Ref f.target)
    by_node None e k = absurd cc
    by_node (Some node) e k = by_value node (strong_at node f.place) e refl k

pub has_stands : (w : World) (f : Field) → HasStrongField w f.name f.place (value.Ref f.target) → stands_in w f ≡ true
has_stands w f s =
    subst (λ (o : Option Node). is_ref_to f.target (strong_in o f.place) ≡ true) (sym s.node_is)
    (subst (λ (v : Option Value). is_ref_to f.target v ≡ true) (sym s.field) (is_same_name-refl f.target))

target_of : (fields : List Field) (f : Field) → Contains fields f → Contains (targets fields) f.target
target_of fields f c = mapped_in (λ (g : Field). g.target) fields f c

of_target : (fields : List Field) (t : Name) → Contains (targets fields) t → (f : Field) × Contains fields f × (f.target ≡ t)
of_target fields t c = in_mapped (λ (g : Field). g.target) fields t c

-- a value that refers to the name
pub among_ref : (values : List Value) (t : Name) → Contains (names_among values) t → Contains values (value.Ref t)
among_ref values t c = by_parts (flat_contains name_in values t c)
  where
    by_value : (v : Value) → Contains values v → Contains (name_in v) t → Contains values (value.Ref t)
    by_value value.Nil h k = absurd (nothing_in t k)
    by_value (value.Number n) h k = absurd (nothing_in t k)
    by_value (value.Ref n) h k = subst (λ (x : Name). Contains values (value.Ref x)) (one_is n t k) h

    by_parts : ((v : Value) × Contains values v × Contains (name_in v) t) → Contains values (value.Ref t)
    by_parts (v, h, k) = by_value v h k

-- the names that the parts of a weak pointer keep
pub kept_is : (weak : Name) (parts : Parts) (t : Name) → Contains (kept_of weak (Some parts)) t → IsKeptBy weak parts t
kept_is weak parts t c = elim (contains_cases (value.Ref weak) (parts.value ∷ parts.finaliser ∷
    []) (value.Ref t) (among_ref (value.Ref weak ∷ parts.value ∷ parts.finaliser ∷ []) t c)) [
      | inl e ↦ inl (sym (ref_is weak t e))
      | inr r ↦ elim (contains_cases parts.value (parts.finaliser ∷ []) (value.Ref t) r) [
        | inl e ↦ inr (inl e)
        | inr q ↦ inr (inr (one_is parts.finaliser (value.Ref t) q))
      ]
    ]

pub is_kept : (weak : Name) (parts : Parts) (t : Name) → IsKeptBy weak parts t → Contains (kept_of weak (Some parts)) t
is_kept weak parts t k = name_among (value.Ref weak ∷ parts.value ∷ parts.finaliser ∷ []) t (by_part k)
  where
    by_part : IsKeptBy weak parts t → Contains (value.Ref weak ∷ parts.value ∷ parts.finaliser ∷ []) (value.Ref t)
    by_part (inl e) = subst (λ (n : Name). Contains (value.Ref weak ∷ parts.value ∷ parts.finaliser ∷
        []) (value.Ref n)) (sym e) (contains_head (value.Ref weak) (parts.value ∷ parts.finaliser ∷ []))
    by_part (inr (inl e)) = subst (λ (v : Value). Contains (value.Ref weak ∷ parts.value ∷ parts.finaliser ∷
        []) v) e (contains_tail (value.Ref weak) (parts.value ∷ parts.finaliser ∷ []) parts.value (contains_head parts.value (parts.finaliser ∷ [])))
    by_part (inr (inr e)) = subst (λ (v : Value). Contains (value.Ref weak ∷ parts.value ∷ parts.finaliser ∷
        []) v) e (contains_tail (value.Ref weak) (parts.value ∷ parts.finaliser ∷
        []) parts.finaliser (contains_tail parts.value (parts.finaliser ∷ []) parts.finaliser (contains_head parts.finaliser [])))

-- a name that may be due
pub owable_is : (snapshot : World) (t : Name) → is_pushed_in snapshot t ≡ true → IsSome (node_of snapshot t) × (t ≢ shared_name)
owable_is snapshot t h = by_tests (is_some (node_of snapshot t)) (is_same_name t shared_name) refl refl h
  where
    by_tests : (a b : Bool) → is_some (node_of snapshot t) ≡ a → is_same_name t shared_name ≡ b → (a && not b) ≡ true →
        IsSome (node_of snapshot t) × (t ≢ shared_name)
    by_tests true false e f k = (
      e,
      λ same. let bad : true ≡ false = sym (is_same_name-refl shared_name) ∙ (ap (λ (n : Name). is_same_name n shared_name) (sym same) ∙ f) in absurd cc,
    )
    by_tests true true e f k = absurd cc
    by_tests false b e f k = absurd cc

pub is_owable_by : (snapshot : World) (t : Name) → IsSome (node_of snapshot t) → t ≢ shared_name → is_pushed_in snapshot t ≡ true
is_owable_by snapshot t there own = by_tests (is_some (node_of snapshot t)) (is_same_name t shared_name) refl refl
  where
    by_tests : (a b : Bool) → is_some (node_of snapshot t) ≡ a → is_same_name t shared_name ≡ b → (a && not b) ≡ true
    by_tests true false e f = refl
    by_tests true true e f = absurd (own (tested_same t shared_name f))
    by_tests false b e f = absurd (let k : is_some (node_of snapshot t) ≡ true = there in let bad : true ≡ false = sym k ∙ e in cc)

module _ (snapshot w : World) (m : ℕ) (c : Command) (lt : m < length w.mutators) (own : m ≢ SHARED_MAKER) (fields : List Field)
    (f : IsStanding snapshot w m c fields) where
  abbrev after : World
  after = (step w m c).0

  abbrev lost : List Field
  lost = filter (λ g. not (stands_in after g)) fields

  abbrev found : List Name
  found = targets lost ++ (opened_by w m c ++ kept_then snapshot (finalised_by w m c))

  from_lost : (t : Name) → Contains (targets lost) t → IsBroken snapshot w after t
  from_lost t k = by_field (of_target lost t k)
    where
      by_field : ((g : Field) × Contains lost g × (g.target ≡ t)) → IsBroken snapshot w after t
      by_field (g, l, e) =
          let p : Contains fields g × (not (stands_in after g) ≡ true) = in_kept (λ x. not (stands_in after x)) fields g l in
          let both : (stands_in snapshot g ≡ true) × (stands_in w g ≡ true) = f.sound g p.0 in
          subst (IsBroken snapshot w after) e (record {
            name = g.name;
            place = g.place;
            then = stands_is snapshot g both.0;
            stood = stands_is w g both.1;
            gone = λ s. let bad : not true ≡ true = subst (λ (b : Bool). not b ≡ true) (has_stands after g s) p.1 in absurd cc;
          })

  to_lost : (t : Name) → IsBroken snapshot w after t → Contains (targets lost) t
  to_lost t b =
      let g : Field = record { name = b.name; place = b.place; target = t } in
      let at : BrokenAt w m c b.name b.place = broken_at snapshot w m c lt own t b in
      let there : Contains fields g = f.all g at.change at.node at.asks at.there at.first at.before (has_stands snapshot g b.then) (has_stands w g b.stood) in
      target_of lost g (kept_in (λ (x : Field). not (stands_in after x)) fields g there (not_true (stands_in after g) (λ h. b.gone (stands_is after g h))))
    where
      not_true : (v : Bool) → (v ≡ true → ⊥) → not v ≡ true
      not_true true never = absurd (never refl)
      not_true false never = refl

  from_kept : (t : Name) → Contains (kept_then snapshot (finalised_by w m c)) t → IsEnded snapshot w m c t
  from_kept t k = by_weak (flat_contains (λ weak. kept_of weak (parts_of snapshot weak)) (finalised_by w m c) t k)
    where
      by_parts : (weak : Name) (o : Option Parts) → parts_of snapshot weak ≡ o → Contains (finalised_by w m c) weak → Contains (kept_of weak o) t →
          IsEnded snapshot w m c t
      by_parts weak None e ends h = absurd (nothing_in t h)
      by_parts weak (Some parts) e ends h = record {
        weak = weak;
        parts = parts;
        ended = ends;
        alive = alive_parts snapshot weak parts e;
        kept = kept_is weak parts t h;
      }

      by_weak : ((weak : Name) × Contains (finalised_by w m c) weak × Contains (kept_of weak (parts_of snapshot weak)) t) → IsEnded snapshot w m c t
      by_weak (weak, ends, h) = by_parts weak (parts_of snapshot weak) refl ends h

  to_kept : (t : Name) → IsEnded snapshot w m c t → Contains (kept_then snapshot (finalised_by w m c)) t
  to_kept t e =
      contains_flat (λ weak. kept_of weak (parts_of snapshot weak)) (finalised_by w m c) e.weak t e.ended
      (subst (λ (o : Option Parts). Contains (kept_of e.weak o) t) (sym (parts_alive snapshot e.weak e.parts e.alive)) (is_kept e.weak e.parts t e.kept))

  pub found_due : (t : Name) → Contains (filter (is_pushed_in snapshot) found) t → IsDue snapshot w m c t
  found_due t k =
      let p : Contains found t × (is_pushed_in snapshot t ≡ true) = filter_contains (is_pushed_in snapshot) found t k in
      let q : IsSome (node_of snapshot t) × (t ≢ shared_name) = owable_is snapshot t p.1 in
      record { there = q.0; own = q.1; why = why p.0 }
    where
      why : Contains found t → IsBroken snapshot w after t ⊎ (Contains (opened_by w m c) t ⊎ IsEnded snapshot w m c t)
      why h = elim (Contains-append_cases (targets lost) (opened_by w m c ++ kept_then snapshot (finalised_by w m c)) t h) [
        | inl l ↦ inl (from_lost t l)
        | inr r ↦ elim (Contains-append_cases (opened_by w m c) (kept_then snapshot (finalised_by w m c)) t r) [
          | inl o ↦ inr (inl o)
          | inr e ↦ inr (inr (from_kept t e))
        ]
      ]

  pub due_found : (t : Name) → IsDue snapshot w m c t → Contains (filter (is_pushed_in snapshot) found) t
  due_found t d = contains_filter (is_pushed_in snapshot) found t (by_why d.why) (is_owable_by snapshot t d.there d.own)
    where
      by_why : IsBroken snapshot w after t ⊎ (Contains (opened_by w m c) t ⊎ IsEnded snapshot w m c t) → Contains found t
      by_why (inl b) = Contains-append_left (targets lost) (opened_by w m c ++ kept_then snapshot (finalised_by w m c)) t (to_lost t b)
      by_why (inr (inl o)) = Contains-append_right (targets lost) (opened_by w m c ++
          kept_then snapshot (finalised_by w m c)) t (Contains-append_left (opened_by w m c) (kept_then snapshot (finalised_by w m c)) t o)
      by_why (inr (inr e)) = Contains-append_right (targets lost) (opened_by w m c ++
          kept_then snapshot (finalised_by w m c)) t (Contains-append_right (opened_by w m c) (kept_then snapshot (finalised_by w m c)) t (to_kept t e))
