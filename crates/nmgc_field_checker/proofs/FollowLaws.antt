-- The objects that others lead to, as they are found.
use Rattle.nmgc_field_checker.proofs.Vocabulary.{AddsTargets, All, All-contains, AreFieldsIf, AreFollowed, Contains, Contains-append_left, Grows, IsBelow, IsNamed, IsReached, Joins, List, Name, Node, None, Objects, Option, RefersTo, Some, Value, World, [], ap, append-nil, arith, cases_lt, contains_at, contains_flat, contains_map, contains_one, flat_contains, flat_map, flat_map-append, get_or, inl, inr, item, length, map_contains, named, node_of, node_with, nothing_in, one_is, option_to_list, place_of, refl, same_ref, serial_of, slice_get, slice_get-append, slice_get_within, some_is, strong_fields, subst, sym, take, take_more, value_in, values_in, ℕ, ◌++◌, ◌+◌, ◌<◌, ◌∙◌, ◌∷◌, ◌≡◌, ◌≤◌}
use Rattle.nmgc_world_spec.specs.Reach as reach
use Rattle.nmgc_world_spec.specs.declared.value.Value.TheVariants as value

-- the objects in the fields up to a position, and in the next one
pub targets_more : (fields : List (Option ℕ)) (i : ℕ) (d : Option ℕ) → i < length fields →
    flat_map option_to_list (take (i + 1) fields) ≡ flat_map option_to_list (take i fields) ++ option_to_list (get_or fields i d)
targets_more fields i d lt = ap (λ (l : List (Option ℕ)). flat_map option_to_list l) (take_more fields i d lt) ∙
    flat_map-append option_to_list (take i fields) (get_or fields i d ∷ []) ∙
    ap (λ (l : List ℕ). flat_map option_to_list (take i fields) ++ l) (append-nil (option_to_list (get_or fields i d)))

in_option : (o : Option ℕ) (target : ℕ) → Contains (option_to_list o) target → o ≡ Some target
in_option None target c = absurd (nothing_in target c)
in_option (Some other) target c = ap (λ (n : ℕ). Some n) (one_is other target c)

-- an object in the fields is one to which they refer
leads : (w : World) (object : ℕ) (fields : List (Option ℕ)) → AreFieldsIf w object fields → (target : ℕ) →
    Contains (flat_map option_to_list fields) target → RefersTo w (named object) (named target)
leads w object fields (inl are) target c =
    let r = flat_contains option_to_list fields target c in
    let own : Contains fields (Some target) = subst (λ (o : Option ℕ). Contains fields o) (in_option r.0 target r.2) r.1 in
    (node_with fields, are, contains_map value_in fields (Some target) own)
leads w object fields (inr none) target c =
    absurd (nothing_in target (subst (λ (l : List (Option ℕ)). Contains (flat_map option_to_list l) target) none.1 c))

-- a value in a field that refers to a name is an object's
named_value : (o : Option ℕ) (target : Name) → value.Ref target ≡ value_in o → (n : ℕ) × (o ≡ Some n) × (target ≡ named n)
named_value None target e = absurd cc
named_value (Some n) target e = (n, refl, same_ref target (named n) e)

led : (w : World) (object : ℕ) (fields : List (Option ℕ)) → AreFieldsIf w object fields → (target : Name) → RefersTo w (named object) target →
    (n : ℕ) × Contains fields (Some n) × (target ≡ named n)
led w object fields (inl are) target (node, is, c) =
    let same : node ≡ node_with fields = some_is node (node_with fields) (sym is ∙ are) in
    let own : Contains (values_in fields) (value.Ref target) = subst (λ (n : Node). Contains (strong_fields n) (value.Ref target)) same c in
    let r = map_contains value_in fields (value.Ref target) own in
    let n = named_value r.0 target r.2 in
    (n.0, subst (λ (o : Option ℕ). Contains fields o) n.1 r.1, n.2)
led w object fields (inr none) target (node, is, c) = let bad : None ≡ Some node = sym none.0 ∙ is in absurd cc

pub targets_added : (w : World) (object : ℕ) (fields : List (Option ℕ)) (before after : Objects) → AreFieldsIf w object fields →
    All (IsBelow (serial_of w 0)) fields → before.bound ≡ serial_of w 0 → Joins before (flat_map option_to_list fields) after →
    Grows before.items after.items → AddsTargets w object before after
targets_added w object fields before after are below bound j g = record {
  bound = j.bound;
  grows = g;
  new = λ target c. elim ((j.items target).0 c) [ inl old ↦ inl old | inr p ↦ inr (leads w object fields are target p.0) ];
  all = λ target r.
      let l = led w object fields are target r in
      let lt : l.0 < serial_of w 0 = All-contains (IsBelow (serial_of w 0)) fields (Some l.0) below l.1 in (
        l.0,
        (j.items l.0).1 (inr (contains_flat option_to_list fields (Some l.0) l.0 l.1 (contains_one l.0), subst (λ (n : ℕ). l.0 < n) (sym bound) lt)),
        l.2,
      );
}

-- a set with the objects to which those before a place lead
pub record Followed (w : World) (before : Objects) (place : ℕ) (after : Objects) : Type 0 where
  pub bound : after.bound ≡ before.bound
  pub old : (object : ℕ) → Contains before.items object → Contains after.items object
  pub reached : (object : ℕ) → Contains after.items object → IsReached w (IsNamed before.items) (named object)
  pub closed : (i object : ℕ) (target : Name) → i < place → slice_get after.items i ≡ Some object → RefersTo w (named object) target →
      IsNamed after.items target

pub followed_none : (w : World) (before : Objects) → Followed w before 0 before
followed_none w before = record {
  bound = refl;
  old = λ object c. c;
  reached = λ object c. reach.start (named object) (object, c, refl);
  closed = λ i object target lt e r. absurd (omega arith);
}

grown : (before after : List ℕ) → Grows before after → (object : ℕ) → Contains before object → Contains after object
grown before after g object c = subst (λ (l : List ℕ). Contains l object) (sym g.1) (Contains-append_left before g.0 object c)

stays_at : (before after : List ℕ) → Grows before after → (i object : ℕ) → slice_get before i ≡ Some object → slice_get after i ≡ Some object
stays_at before after g i object e = subst (λ (l : List ℕ). slice_get l i ≡ Some object) (sym g.1) (slice_get-append before g.0 i object e)

module _ (w : World) (before now next : Objects) (place object : ℕ) (f : Followed w before place now) (at : slice_get now.items place ≡ Some object)
    (a : AddsTargets w object now next) where
  still : (target : Name) → IsNamed now.items target → IsNamed next.items target
  still target (n, c, e) = (n, grown now.items next.items a.grows n c, e)

  closed_more : (i other : ℕ) (target : Name) → i < place + 1 → slice_get next.items i ≡ Some other → RefersTo w (named other) target →
      IsNamed next.items target
  closed_more i other target lt e r =
      let within : place < length now.items = slice_get_within now.items place object at in
      elim (cases_lt i place) [
        | inl less ↦
            let x = item now.items i (omega arith) in
            let same : x.0 ≡ other = some_is x.0 other (sym (stays_at now.items next.items a.grows i x.0 x.1) ∙ e) in
            still target (f.closed i x.0 target less x.1 (subst (λ (n : ℕ). RefersTo w (named n) target) (sym same) r))
        | inr le ↦
            let here : place ≡ i = omega arith in
            let then : slice_get next.items i ≡ Some object = subst (λ (k : ℕ). slice_get next.items k ≡ Some object) here
            (stays_at now.items next.items a.grows place object at) in
            let same : other ≡ object = some_is other object (sym e ∙ then) in
            a.all target (subst (λ (n : ℕ). RefersTo w (named n) target) same r)
      ]

  pub followed_more : Followed w before (place + 1) next
  followed_more = record {
    bound = a.bound ∙ f.bound;
    old = λ n c. grown now.items next.items a.grows n (f.old n c);
    reached = λ n c. elim (a.new n c) [
      | inl old ↦ f.reached n old
      | inr r ↦ reach.field (named object) (named n) (f.reached object (contains_at now.items place object at)) r
    ];
    closed = closed_more;
  }

-- the end: each object was followed
module _ (w : World) (before after : Objects) (place : ℕ) (f : Followed w before place after) (whole : length after.items ≤ place) where
  named_after : (name : Name) → IsReached w (IsNamed before.items) name → IsNamed after.items name
  named_after name (reach.start n p) = (p.0, f.old p.0 p.1, p.2)
  named_after name (reach.field n target r e) =
      let o = named_after n r in
      let p = place_of after.items o.0 o.1 in
      let within : p.0 < length after.items = slice_get_within after.items p.0 o.0 p.1 in
      f.closed p.0 o.0 target (omega arith) p.1 (subst (λ (m : Name). RefersTo w m target) o.2 e)

  pub followed_all : AreFollowed w before after
  followed_all = record {
    bound = f.bound;
    items = λ object. (
      f.reached object,
      λ r. let o = named_after (named object) r in
          subst (λ (n : ℕ). Contains after.items n) (sym (ap (λ (n : Name). n.serial) o.2)) o.1,
    );
  }
