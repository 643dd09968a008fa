-- A change of a heap in a cycle is a line of the rule, by the objects that are noted for it.
use Rattle.nmgc_field_checker.proofs.Vocabulary.{AreAt, AreBroken, AreHanded, AreOld, AreStored, Contains, CountsStore, Debt, FieldCycle, FieldStore, Has, HasStrongField, IsBroken, IsBrokenAt, IsChange, IsChanged, IsDueBy, IsHandedBy, IsLost, IsMade, IsNamed, IsNoted, IsNotedDue, IsOldStored, IsRaised, IsSome, IsStore, IsStored, IsStoredAt, List, Name, None, Option, Refers, Running, SHARED_MAKER, Some, World, [], ap, arith, contains_at, filled, inl, inr, item, length, named, next_is_new, node_of, nothing_in, place_of, refl, serial_of, slice_get_within, subst, sym, with_heap, ℕ, ◌+◌, ◌<◌, ◌∙◌, ◌≡◌, ◌↔◌}
use Rattle.nmgc_world_spec.specs.declared.value.Value.TheVariants as value
use Rattle.nmgc_barrier_laws.specs.Stored as changes

-- the objects of places are just those with the relation at some place
listed_at : (P : ℕ → ℕ → Type 0) (places objects : List ℕ) → AreAt P places objects → (n : ℕ) → Contains objects n → (at : ℕ) × P at n
listed_at P places objects are n c =
    let p = place_of objects n c in
    let within : p.0 < length objects = slice_get_within objects p.0 n p.1 in
    let count : length places ≡ length objects = are.count in
    let x = item places p.0 (omega arith) in
    (x.0, are.has p.0 x.0 n x.1 p.1)

at_listed : (P : ℕ → ℕ → Type 0) (places objects : List ℕ) → AreAt P places objects → (at n : ℕ) → P at n → Contains objects n
at_listed P places objects are at n p = let r = are.all at n p in contains_at objects r.0 n r.2

module _ (h : FieldCycle) (m object place : ℕ) (fields : List (Option ℕ)) (broken handed stored : List ℕ) (after : World)
    (are_broken : AreBroken h.snapshot h.world object place fields broken) (are_stored : AreStored h.snapshot h.world object place fields stored)
    (are_handed : AreHanded h m stored handed) (s : IsStore h.world object place fields after) where
  to_old_stored : (name : Name) → IsNamed stored name → IsOldStored h after name
  to_old_stored name (n, c, e) =
      let p = listed_at (IsStoredAt h.snapshot h.world object place fields) are_stored.0 stored are_stored.1 n c in
      record {
        there = subst (λ (x : Name). IsSome (node_of h.snapshot x)) (sym e) p.1.there;
        stored = subst (λ (x : Name). IsStored h.world after x) (sym e)
            (changes.field (named object) (place + p.0) (s.comes p.0 n p.1.new_is) p.1.other);
      }

  from_old_stored : (name : Name) → IsOldStored h after name → IsNamed stored name
  from_old_stored name o =
      let c = s.came name o.stored in (
        c.1,
        at_listed (IsStoredAt h.snapshot h.world object place fields) are_stored.0 stored are_stored.1 c.0 c.1 (record {
          new_is = c.3;
          there = subst (λ (x : Name). IsSome (node_of h.snapshot x)) c.2 o.there;
          other = c.4;
        }),
        c.2,
      )

  to_handed : (name : Name) → IsNamed handed name → IsHandedBy h m after name
  to_handed name (n, c, e) = elim are_handed [
    | inl p ↦ record { unscanned = p.0; old = to_old_stored name (n, subst (λ (l : List ℕ). Contains l n) p.1 c, e) }
    | inr p ↦ absurd (nothing_in n (subst (λ (l : List ℕ). Contains l n) p.1 c))
  ]

  from_handed : (name : Name) → IsHandedBy h m after name → IsNamed handed name
  from_handed name o = elim are_handed [
    | inl p ↦ let r = from_old_stored name o.old in (r.0, subst (λ (l : List ℕ). Contains l r.0) (sym p.1) r.1, r.2)
    | inr p ↦ absurd (p.0 o.unscanned)
  ]

  to_broken : (name : Name) → IsNamed broken name → IsSome (node_of h.snapshot name) × IsBroken h.snapshot h.world after name
  to_broken name (n, c, e) =
      let p = listed_at (IsBrokenAt h.snapshot h.world object place fields) are_broken.0 broken are_broken.1 n c in (
        subst (λ (x : Name). IsSome (node_of h.snapshot x)) (sym e) p.1.there,
        subst (λ (x : Name). IsBroken h.snapshot h.world after x) (sym e) (record {
          name = named object;
          place = place + p.0;
          then = p.1.then;
          stood = p.1.stood;
          gone = s.loses p.0 n p.1.new p.1.new_is p.1.other;
        }),
      )

  -- the field that was lost, in a world
  lost_at : (w : World) (name other : Name) (i : ℕ) (l : IsLost object place fields other i name) → HasStrongField w other i (value.Ref name) →
      Refers w object (place + l.at) l.n
  lost_at w name other i l r =
      subst (λ (x : Name). HasStrongField w (named object) (place + l.at) (value.Ref x)) l.target_is
      (subst (λ (j : ℕ). HasStrongField w (named object) j (value.Ref name)) l.i_is
      (subst (λ (x : Name). HasStrongField w x i (value.Ref name)) l.name_is r))

  from_broken : (name : Name) → IsSome (node_of h.snapshot name) → IsBroken h.snapshot h.world after name → IsNamed broken name
  from_broken name there b =
      let l = s.lost b.name b.place name b.stood b.gone in (
        l.n,
        at_listed (IsBrokenAt h.snapshot h.world object place fields) are_broken.0 broken are_broken.1 l.at l.n (record {
          new = l.new;
          new_is = l.new_is;
          other = l.other;
          there = subst (λ (x : Name). IsSome (node_of h.snapshot x)) l.target_is there;
          stood = lost_at h.world name b.name b.place l b.stood;
          then = lost_at h.snapshot name b.name b.place l b.then;
        }),
        l.target_is,
      )

  to_due : (name : Name) → IsNotedDue broken handed name → IsDueBy h m after name
  to_due name (inl b) = let r = to_broken name b in record { there = r.0; why = inl r.1 }
  to_due name (inr x) = let o = to_handed name x in record { there = o.old.there; why = inr o }

  from_due : (name : Name) → IsDueBy h m after name → IsNotedDue broken handed name
  from_due name d = elim d.why [ inl b ↦ inl (from_broken name d.there b) | inr o ↦ inr (from_handed name o) ]

  -- the line of the rule
  module _ (line : ℕ) (p q : Running) (k : IsNoted line m broken handed stored p q) where
    abbrev next : FieldCycle
    next = record (q.cycle) { world = after }

    rest_is : next ≡ record (p.cycle) { world = after; debts = next.debts; opened = next.opened; stored = next.stored }
    rest_is = ap (λ (x : FieldCycle). record x { world = after }) k.rest

    pub changed_is : p.cycle ≡ h → IsChanged p.cycle line m after next
    changed_is same =
        let due_to : (name : Name) → IsNotedDue broken handed name → IsDueBy p.cycle m after name =
        λ name x. subst (λ (f : FieldCycle). IsDueBy f m after name) (sym same) (to_due name x) in
        let due_from : (name : Name) → IsDueBy p.cycle m after name → IsNotedDue broken handed name =
        λ name x. from_due name (subst (λ (f : FieldCycle). IsDueBy f m after name) same x) in
        record {
          rest = rest_is;
          opened = λ name. (
            λ c. elim ((k.opened name).0 c) [
              | inl old ↦ inl old
              | inr x ↦ inr (subst (λ (f : FieldCycle). IsHandedBy f m after name) (sym same) (to_handed name x))
            ],
            λ c. (k.opened name).1 (elim c [
              | inl old ↦ inl old
              | inr x ↦ inr (from_handed name (subst (λ (f : FieldCycle). IsHandedBy f m after name) same x))
            ]),
          );
          stored = λ name. (
            λ c. elim ((k.stored_are name).0 c) [
              | inl old ↦ inl old
              | inr x ↦ inr (subst (λ (f : FieldCycle). IsOldStored f after name) (sym same) (to_old_stored name x))
            ],
            λ c. (k.stored_are name).1 (elim c [
              | inl old ↦ inl old
              | inr x ↦ inr (from_old_stored name (subst (λ (f : FieldCycle). IsOldStored f after name) same x))
            ]),
          );
          debts = record {
            old = k.debts.old;
            new = λ debt c. elim (k.debts.new debt c) [ inl old ↦ inl old | inr x ↦ inr (x.0, x.1, due_to debt.name x.2, x.3) ];
            due = λ name d. k.debts.due name (due_from name d);
          };
        }

-- a new object breaks no field
pub none_broken : (snapshot w : World) (object : ℕ) (fields : List (Option ℕ)) → object ≡ serial_of w 0 → AreBroken snapshot w object 0 fields []
none_broken snapshot w object fields last = (
  [],
  record {
    count = refl;
    ascend = λ i at next e f. absurd cc;
    has = λ i at target e f. absurd cc;
    all = λ at target b.
        let none : node_of w (named object) ≡ None =
        subst (λ (n : ℕ). node_of w (named n) ≡ None) (sym last) (next_is_new w 0 (λ e. absurd (let z : 0 ≡ SHARED_MAKER = e in cc))) in
        let bad : None ≡ Some b.stood.node = sym none ∙ b.stood.node_is in
        absurd cc;
  },
)

-- the objects of a line are objects of the snapshot
pub old_none : (h : FieldCycle) → AreOld h []
old_none h = λ n c. absurd (nothing_in n c)

pub old_stored : (h : FieldCycle) (object place : ℕ) (fields : List (Option ℕ)) (stored : List ℕ) →
    AreStored h.snapshot h.world object place fields stored → AreOld h stored
old_stored h object place fields stored are = λ n c.
    (listed_at (IsStoredAt h.snapshot h.world object place fields) are.0 stored are.1 n c).1.there

pub old_broken : (h : FieldCycle) (object place : ℕ) (fields : List (Option ℕ)) (broken : List ℕ) →
    AreBroken h.snapshot h.world object place fields broken → AreOld h broken
old_broken h object place fields broken are = λ n c.
    (listed_at (IsBrokenAt h.snapshot h.world object place fields) are.0 broken are.1 n c).1.there

pub old_handed : (h : FieldCycle) (m : ℕ) (stored handed : List ℕ) → AreHanded h m stored handed → AreOld h stored → AreOld h handed
old_handed h m stored handed (inl (un, e)) old = λ n c. old n (subst (λ (l : List ℕ). Contains l n) e c)
old_handed h m stored handed (inr (un, e)) old = λ n c. absurd (nothing_in n (subst (λ (l : List ℕ). Contains l n) e c))

-- a noted line leaves the heap as it is
pub noted_world : (line m : ℕ) (broken handed stored : List ℕ) (p q : Running) → IsNoted line m broken handed stored p q → q.cycle.world ≡ p.cycle.world
noted_world line m broken handed stored p q k = ap (λ (f : FieldCycle). f.world) k.rest

-- a noted line, and then its change of the heap, are a change in the cycle
module _ (line m object place : ℕ) (fields : List (Option ℕ)) (broken handed stored : List ℕ) (p q r : Running)
    (are_broken : AreBroken p.cycle.snapshot p.cycle.world object place fields broken)
    (are_stored : AreStored p.cycle.snapshot p.cycle.world object place fields stored) (are_handed : AreHanded p.cycle m stored handed)
    (k : IsNoted line m broken handed stored p q) (rest : r ≡ with_heap q r.cycle.world) (Change : World → World → Type 0)
    (change : Change q.cycle.world r.cycle.world) (store : IsStore q.cycle.world object place fields r.cycle.world) where
  same_world : q.cycle.world ≡ p.cycle.world
  same_world = noted_world line m broken handed stored p q k

  store_here : IsStore p.cycle.world object place fields r.cycle.world
  store_here = subst (λ (w : World). IsStore w object place fields r.cycle.world) same_world store

  pub change_is : IsChange line m Change p r
  change_is = record {
    change = subst (λ (w : World). Change w r.cycle.world) same_world change;
    changed = subst (λ (f : FieldCycle). IsChanged p.cycle line m r.cycle.world f) (sym (ap (λ (x : Running). x.cycle) rest))
        (changed_is p.cycle m object place fields broken handed stored r.cycle.world are_broken are_stored are_handed store_here line p q k refl);
    stores = record {
      old = λ x c. subst (λ (l : List FieldStore). Contains l x) (sym (ap (λ (y : Running). y.stores) rest)) (k.stores.old x c);
      new = λ x c. k.stores.new x (subst (λ (l : List FieldStore). Contains l x) (ap (λ (y : Running). y.stores) rest) c);
    };
  }

-- a new object
module _ (line m count object : ℕ) (fields : List (Option ℕ)) (handed stored : List ℕ) (p : Running) (last : object ≡ serial_of p.cycle.world 0)
    (are_stored : AreStored p.cycle.snapshot p.cycle.world object 0 fields stored) (are_handed : AreHanded p.cycle m stored handed) where
  pub make_is : (q r : Running) → IsNoted line m [] handed stored p q → r ≡ with_heap q r.cycle.world →
      IsMade q.cycle.world (named (serial_of q.cycle.world 0)) (filled count fields) r.cycle.world →
      IsStore q.cycle.world (serial_of q.cycle.world 0) 0 fields r.cycle.world →
      IsChange line m (λ w after. IsMade w (named (serial_of w 0)) (filled count fields) after) p r
  make_is q r k rest made store =
      let same : serial_of q.cycle.world 0 ≡ object =
      ap (λ (w : World). serial_of w 0) (noted_world line m [] handed stored p q k) ∙ sym last in
      change_is line m object 0 fields [] handed stored p q r (none_broken p.cycle.snapshot p.cycle.world object fields last) are_stored are_handed k rest
      (λ (w after : World). IsMade w (named (serial_of w 0)) (filled count fields) after) made
      (subst (λ (n : ℕ). IsStore q.cycle.world n 0 fields r.cycle.world) same store)

  pub make_counts : (before after : ℕ) → IsRaised (0 + length handed) before after →
      CountsStore p.cycle m (serial_of p.cycle.world 0) 0 fields before after
  make_counts before after raised = record {
    broken = [];
    stored = stored;
    handed = handed;
    are_broken = none_broken p.cycle.snapshot p.cycle.world (serial_of p.cycle.world 0) fields refl;
    are_stored = subst (λ (n : ℕ). AreStored p.cycle.snapshot p.cycle.world n 0 fields stored) last are_stored;
    handed_are = are_handed;
    count = raised;
  }
