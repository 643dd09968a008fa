-- The first of a store's values that a heap doesn't have.
use Rattle.nmgc_field_checker.proofs.Vocabulary.{AreFieldsIf, HasCount, IsSome, Node, serial_of, ◌-◌, ◌^◌, All-contains, All-nil, All-push, AreKnown, Contains, Has, IsKnown, List, None, Option, Some, StandsFirst, Value, World, [], ap, contains_head, contains_map, drop, drop-cons, flat_contains, flat_map-append, get_or, length, map_more, nothing_in, one_is, option_to_list, refl, subst, suc, sym, take, take-append-drop, take_all, value_in, values_in, ℕ, ◌++◌, ◌+◌, ◌<◌, ◌∙◌, ◌∷◌, ◌≡◌, ◌≤◌, ◌⊎◌, contains_cases, inl, inr}
use Rattle.nmgc_field_checker.specs.{declared.event.FieldWhy.FieldWhy, Reports.IsReportIf, Watching.CanBeNew, Watching.IsFirstUnknown, Watching.WhyNotMade, Watching.WhyNotWritten, Watching.objects_in}
use Rattle.std.specs.Prelude.{IfSome}
use Rattle.nmgc_field_checker.specs.declared.event.FieldWhy.TheVariants as why

-- the objects in known fields
pub field_known : (w : World) (field : Option ℕ) (n : ℕ) → IsKnown w (value_in field) → Contains (option_to_list field) n → Has w n
field_known w None n k c = absurd (nothing_in n c)
field_known w (Some target) n k c = subst (λ (x : ℕ). Has w x) (one_is target n c) k

pub objects_known : (w : World) (fields : List (Option ℕ)) → AreKnown w (values_in fields) → (n : ℕ) → Contains (objects_in fields) n → Has w n
objects_known w fields known n c =
    let r = flat_contains option_to_list fields n c in
    field_known w r.0 n (All-contains (λ (v : Value). IsKnown w v) (values_in fields) (value_in r.0) known (contains_map value_in fields r.0 r.1)) r.2

module _ (w : World) (fields : List (Option ℕ)) where
  pub known_none : AreKnown w (values_in [])
  known_none = All-nil (λ (v : Value). IsKnown w v)

  module _ (i : ℕ) (d : Option ℕ) (lt : i < length fields) (known : AreKnown w (values_in (take i fields))) where
    pub known_more : IsKnown w (value_in (get_or fields i d)) → AreKnown w (values_in (take (i + 1) fields))
    known_more own = subst (λ (l : List Value). AreKnown w l) (sym (map_more value_in fields i d lt))
        (All-push (λ (v : Value). IsKnown w v) (values_in (take i fields)) (value_in (get_or fields i d)) known own)

    pub missing_is : (target : ℕ) → get_or fields i d ≡ Some target → (Has w target → ⊥) →
        IsFirstUnknown w (objects_in fields) (why.NoObject target)
    missing_is target e out = (
      target,
      refl,
      record {
        before = objects_in (take i fields);
        later = objects_in (drop (suc i) fields);
        items_are = ap (λ (l : List (Option ℕ)). objects_in l) (sym (take-append-drop i fields) ∙
            ap (λ (l : List (Option ℕ)). take i fields ++ l) (drop-cons fields i d lt ∙ ap (λ (x : Option ℕ). x ∷ drop (suc i) fields) e)) ∙
            flat_map-append option_to_list (take i fields) (Some target ∷ drop (suc i) fields);
        has = out;
        none = λ other c none. none (objects_known w (take i fields) known other c);
      },
    )

  pub known_all : (i : ℕ) → length fields ≤ i → AreKnown w (values_in (take i fields)) → AreKnown w (values_in fields)
  known_all i le known = subst (λ (l : List (Option ℕ)). AreKnown w (values_in l)) (take_all i fields le) known

-- a reason against the values is a reason against an object and against a store
pub missing_made : (w : World) (taken : Option ℕ) (fields : List (Option ℕ)) (y : FieldWhy) → IsFirstUnknown w (objects_in fields) y →
    WhyNotMade w taken fields y
missing_made w taken fields y f = subst (λ (x : FieldWhy). WhyNotMade w taken fields x) (sym f.1) (f.0, refl, f.2)

pub missing_written : (w : World) (object place : ℕ) (fields : List (Option ℕ)) (y : FieldWhy) → Has w object → IsFirstUnknown w (objects_in fields) y →
    WhyNotWritten w object place fields y
missing_written w object place fields y there f = subst (λ (x : FieldWhy). WhyNotWritten w object place fields x) (sym f.1) (
  f.0,
  refl,
  record {
    before = object ∷ f.2.before;
    later = f.2.later;
    items_are = ap (λ (l : List ℕ). object ∷ l) f.2.items_are;
    has = f.2.has;
    none = λ other c out. elim (contains_cases object f.2.before other c) [
      | inl e ↦ out (subst (λ (n : ℕ). Has w n) e there)
      | inr old ↦ f.2.none other old out
    ];
  },
)

pub missing_object : (w : World) (object place : ℕ) (fields : List (Option ℕ)) → (Has w object → ⊥) →
    WhyNotWritten w object place fields (why.NoObject object)
missing_object w object place fields out = (
  object,
  refl,
  record { before = []; later = objects_in fields; items_are = refl; has = out; none = λ other c none. nothing_in other c },
)

-- the reasons against a new object, after its name and the room
pub new_if : (w : World) (taken : Option ℕ) (fields : List (Option ℕ)) (o : Option FieldWhy) → IfSome taken (λ object. Has w object → ⊥) →
    serial_of w 0 < 2 ^ 32 - 1 → IsReportIf (AreKnown w (values_in fields)) (IsFirstUnknown w (objects_in fields)) o →
    IsReportIf (CanBeNew w taken fields) (WhyNotMade w taken fields) o
new_if w taken fields None free room known = record { free = free; room = record { room = room; known = known } }
new_if w taken fields (Some y) free room f = missing_made w taken fields y f

-- the number of fields of an object that is there
pub count_is : (w : World) (object : ℕ) (fields : List (Option ℕ)) → AreFieldsIf w object fields → Has w object → HasCount w object (length fields)
count_is w object fields (inl are) there = record { fields = fields; are_fields = are; count_is = refl }
count_is w object fields (inr none) there = absurd (let bad : IsSome {T = Node} None = subst (λ (o : Option Node). IsSome o) none.0 there in cc)
