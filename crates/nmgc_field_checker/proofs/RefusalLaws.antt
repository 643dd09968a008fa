-- An event for which there is a reason can't happen.
use Rattle.nmgc_field_checker.proofs.Vocabulary.{All-contains, AreKnown, Contains, Contains-append_left, Contains-append_right, Debt, FieldCycle, Has, HasCount, IsBlack, IsFieldEnd, IsMade, IsKnown, IsMarked, IsNotKept, IsPushedAt, IsScannedAt, IsSome, IsWritten, Left, List, MayGo, Name, Node, None, Option, Running, Some, StandsFirst, Value, World, [], ap, arith, contains_cases, contains_head, contains_map, debt_of, filled, flat_contains, inl, inr, length, length-map, map, named, node_of, node_with, nothing_in, option_to_list, refl, serial_of, some_is, subst, sym, true, false, value_in, values_in, WhyFreed, ℕ, ◌++◌, ◌+◌, ◌-◌, ◌<◌, ◌^◌, ◌∙◌, ◌∷◌, ◌≡◌, ◌≤◌, ◌⊎◌}
use Rattle.std.specs.Prelude.{IfSome}
use Rattle.nmgc_field_checker.specs.{Marking.IsAgainst, Reports.WhyBlack, Reports.WhyMarked, Watching.Can, Watching.CanAct, Watching.CanBegin, Watching.CanEnd, Watching.CanWrite, Watching.Changes, Watching.HasSettled, Watching.InCycle, Watching.IsFirstUnknown, Watching.IsSnapshot, Watching.IsStopped, Watching.IsThere, Watching.IsWhy, Watching.ReasonsRefuse, Watching.WhyActs, Watching.WhyAfter, Watching.WhyBegin, Watching.WhyClose, Watching.WhyEnd, Watching.WhyInCycle, Watching.WhyMark, Watching.WhyNoAct, Watching.WhyNotHad, Watching.WhyNotMade, Watching.WhyNotTaken, Watching.WhyNotWritten, Watching.WhyScan, Watching.WhySettle, Watching.heap_in, Watching.objects_in, declared.event.Actor.Actor, declared.event.FieldEvent.FieldEvent, declared.event.FieldWhy.FieldWhy, declared.watch.FieldPhase.FieldPhase, declared.watch.FieldWatch.FieldWatch}
use Rattle.nmgc_field_checker.proofs.{LineLaws.below_has, MissingLaws.field_known, MissingLaws.objects_known, NoteLaws.has_below}
use Rattle.nmgc_field_checker.specs.declared.event.FieldEvent.TheVariants as event
use Rattle.nmgc_field_checker.specs.declared.event.FieldWhy.TheVariants as why
use Rattle.nmgc_field_checker.specs.declared.watch.FieldPhase.TheVariants as phase
use Rattle.nmgc_world_spec.specs.declared.node.Node.TheVariants as node

-- an item that stands first is in the list
stands_in : (items : List ℕ) (P : ℕ → Type 0) (item : ℕ) → StandsFirst items P item → Contains items item
stands_in items P item f = subst (λ (l : List ℕ). Contains l item) (sym f.items_are)
    (Contains-append_right f.before (item ∷ f.later) item (contains_head item f.later))

unknown_refuses : (w : World) (objects : List ℕ) (y : FieldWhy) → IsFirstUnknown w objects y → ((object : ℕ) → Contains objects object → Has w object) → ⊥
unknown_refuses w objects y f all = f.2.has (all f.0 (stands_in objects (λ n. Has w n → ⊥) f.0 f.2))

-- the heap of a phase is one heap
one_heap : (q : FieldPhase) (v w : World) → heap_in q ≡ Some v → heap_in q ≡ Some w → v ≡ w
one_heap q v w e f = some_is v w (sym e ∙ f)

-- the cycle of a phase, if one goes on
abbrev cycle_in : FieldPhase → Option Running
cycle_in (phase.Marking p) = Some p
cycle_in other = None

one_cycle : (q : FieldPhase) (a b : Running) → q ≡ phase.Marking a → q ≡ phase.Marking b → a ≡ b
one_cycle q a b e f = some_is a b (sym (ap cycle_in e) ∙ ap cycle_in f)

stopped_refuses : (p : FieldWatch) (y : FieldWhy) → IsStopped p y → IsSome (heap_in p.phase) → ⊥
stopped_refuses p y s some =
    let bad : IsSome {T = World} None = subst (λ (o : Option World). IsSome o) (ap heap_in s.0) some in
    absurd cc

-- a mutator that begins or ends
begin_refuses : (p : FieldWatch) (a : Actor) (next : FieldWatch) (y : FieldWhy) → WhyBegin p a y → CanBegin p a next → ⊥
begin_refuses p a next why.Misplaced w c = stopped_refuses p why.Misplaced w c.goes_on
begin_refuses p a next (why.NotThere other) w c = stopped_refuses p (why.NotThere other) w c.goes_on
begin_refuses p a next (why.There other) w c = c.absent w.1
begin_refuses p a next (why.NoObject other) w c = stopped_refuses p (why.NoObject other) w c.goes_on
begin_refuses p a next (why.Made other) w c = stopped_refuses p (why.Made other) w c.goes_on
begin_refuses p a next why.Full w c = stopped_refuses p why.Full w c.goes_on
begin_refuses p a next (why.NoField other lacking) w c = stopped_refuses p (why.NoField other lacking) w c.goes_on
begin_refuses p a next (why.Unscanned other) w c = stopped_refuses p (why.Unscanned other) w c.goes_on
begin_refuses p a next (why.Due debt) w c = stopped_refuses p (why.Due debt) w c.goes_on
begin_refuses p a next (why.Unkept store) w c = stopped_refuses p (why.Unkept store) w c.goes_on
begin_refuses p a next (why.NotListed other) w c = stopped_refuses p (why.NotListed other) w c.goes_on
begin_refuses p a next (why.NotMarked other) w c = stopped_refuses p (why.NotMarked other) w c.goes_on
begin_refuses p a next (why.NotOld other) w c = stopped_refuses p (why.NotOld other) w c.goes_on
begin_refuses p a next (why.Needed other) w c = stopped_refuses p (why.Needed other) w c.goes_on

end_refuses : (p : FieldWatch) (a : Actor) (next : FieldWatch) (y : FieldWhy) → WhyEnd p a y → CanEnd p a next → ⊥
end_refuses p a next why.Misplaced w c = stopped_refuses p why.Misplaced w c.goes_on
end_refuses p a next (why.NotThere other) w c = w.1 c.present
end_refuses p a next (why.There other) w c = stopped_refuses p (why.There other) w c.goes_on
end_refuses p a next (why.NoObject other) w c = stopped_refuses p (why.NoObject other) w c.goes_on
end_refuses p a next (why.Made other) w c = stopped_refuses p (why.Made other) w c.goes_on
end_refuses p a next why.Full w c = stopped_refuses p why.Full w c.goes_on
end_refuses p a next (why.NoField other lacking) w c = stopped_refuses p (why.NoField other lacking) w c.goes_on
end_refuses p a next (why.Unscanned other) w c = stopped_refuses p (why.Unscanned other) w c.goes_on
end_refuses p a next (why.Due debt) w c = stopped_refuses p (why.Due debt) w c.goes_on
end_refuses p a next (why.Unkept store) w c = stopped_refuses p (why.Unkept store) w c.goes_on
end_refuses p a next (why.NotListed other) w c = stopped_refuses p (why.NotListed other) w c.goes_on
end_refuses p a next (why.NotMarked other) w c = stopped_refuses p (why.NotMarked other) w c.goes_on
end_refuses p a next (why.NotOld other) w c = stopped_refuses p (why.NotOld other) w c.goes_on
end_refuses p a next (why.Needed other) w c = stopped_refuses p (why.Needed other) w c.goes_on

-- an actor that can give lines
act_refuses : (p : FieldWatch) (a : Actor) (w : World) (y : FieldWhy) → WhyNoAct p a y → CanAct p a w → ⊥
act_refuses p a w why.Misplaced n c = let bad : None ≡ Some w = sym (ap heap_in n) ∙ c.heap in absurd cc
act_refuses p a w (why.NotThere other) n c = n.2 c.there
act_refuses p a w (why.There other) n c = n
act_refuses p a w (why.NoObject other) n c = n
act_refuses p a w (why.Made other) n c = n
act_refuses p a w why.Full n c = n
act_refuses p a w (why.NoField other lacking) n c = n
act_refuses p a w (why.Unscanned other) n c = n
act_refuses p a w (why.Due debt) n c = n
act_refuses p a w (why.Unkept store) n c = n
act_refuses p a w (why.NotListed other) n c = n
act_refuses p a w (why.NotMarked other) n c = n
act_refuses p a w (why.NotOld other) n c = n
act_refuses p a w (why.Needed other) n c = n

acts_refuse : (p : FieldWatch) (a : Actor) (Why : World → FieldWhy → Type 0) (w : World) (y : FieldWhy) → WhyActs p a Why y → CanAct p a w →
    (Why w y → ⊥) → ⊥
acts_refuse p a Why w y (inl n) c none = act_refuses p a w y n c
acts_refuse p a Why w y (inr r) c none = none (subst (λ (x : World). Why x y) (one_heap p.phase r.0 w r.1.heap c.heap) r.2)

-- the change of a phase's heap
change_of : (line m : ℕ) (Change : World → World → Type 0) (q next : FieldPhase) (w : World) → heap_in q ≡ Some w → Changes line m Change q next →
    (after : World) × Change w after
change_of line m Change (phase.Between v) next w e c = (c.0, subst (λ (x : World). Change x c.0) (some_is v w e) c.1)
change_of line m Change (phase.Marking p) next w e c =
    (c.0.cycle.world, subst (λ (x : World). Change x c.0.cycle.world) (some_is p.cycle.world w e) c.1.change)
change_of line m Change (phase.Ended left) next w e c = (c.0, subst (λ (x : World). Change x c.0) (some_is left.heap w e) c.1)
change_of line m Change phase.Stopped next w e c = absurd c

-- a phase whose heap changes has a heap
changes_heap : (line m : ℕ) (Change : World → World → Type 0) (q next : FieldPhase) → Changes line m Change q next → (w : World) × (heap_in q ≡ Some w)
changes_heap line m Change (phase.Between v) next c = (v, refl)
changes_heap line m Change (phase.Marking p) next c = (p.cycle.world, refl)
changes_heap line m Change (phase.Ended left) next c = (left.heap, refl)
changes_heap line m Change phase.Stopped next c = absurd c

-- a new object
made_known : (w : World) (count : ℕ) (fields : List (Option ℕ)) → AreKnown w (filled count fields) → (n : ℕ) → Contains (objects_in fields) n → Has w n
made_known w count fields known n c =
    let r = flat_contains option_to_list fields n c in
    field_known w r.0 n
    (All-contains (λ (v : Value). IsKnown w v) (filled count fields) (value_in r.0) known
    (Contains-append_left (values_in fields) _ (value_in r.0) (contains_map value_in fields r.0 r.1)))
    r.2

made_refuses : (w : World) (taken : Option ℕ) (fields : List (Option ℕ)) (y : FieldWhy) → WhyNotMade w taken fields y →
    IfSome taken (λ object. Has w object → ⊥) → serial_of w 0 < 2 ^ 32 - 1 → ((n : ℕ) → Contains (objects_in fields) n → Has w n) → ⊥
made_refuses w taken fields why.Misplaced k free room known = unknown_refuses w (objects_in fields) why.Misplaced k known
made_refuses w taken fields (why.NotThere other) k free room known = unknown_refuses w (objects_in fields) (why.NotThere other) k known
made_refuses w taken fields (why.There other) k free room known = unknown_refuses w (objects_in fields) (why.There other) k known
made_refuses w taken fields (why.NoObject other) k free room known = unknown_refuses w (objects_in fields) (why.NoObject other) k known
made_refuses w taken fields (why.Made other) k free room known = let out : Has w other → ⊥ = subst (λ (o : Option ℕ). IfSome o (λ object. Has w object → ⊥)) k.0 free in out k.1
made_refuses w taken fields why.Full k free room known = let le : 2 ^ 32 - 1 ≤ serial_of w 0 = k in let lt : serial_of w 0 < 2 ^ 32 - 1 = room in omega arith
made_refuses w taken fields (why.NoField other lacking) k free room known = unknown_refuses w (objects_in fields) (why.NoField other lacking) k known
made_refuses w taken fields (why.Unscanned other) k free room known = unknown_refuses w (objects_in fields) (why.Unscanned other) k known
made_refuses w taken fields (why.Due debt) k free room known = unknown_refuses w (objects_in fields) (why.Due debt) k known
made_refuses w taken fields (why.Unkept store) k free room known = unknown_refuses w (objects_in fields) (why.Unkept store) k known
made_refuses w taken fields (why.NotListed other) k free room known = unknown_refuses w (objects_in fields) (why.NotListed other) k known
made_refuses w taken fields (why.NotMarked other) k free room known = unknown_refuses w (objects_in fields) (why.NotMarked other) k known
made_refuses w taken fields (why.NotOld other) k free room known = unknown_refuses w (objects_in fields) (why.NotOld other) k known
made_refuses w taken fields (why.Needed other) k free room known = unknown_refuses w (objects_in fields) (why.Needed other) k known

-- a store
abbrev values_of : Node → List Value
values_of (node.Arr values) = values
values_of other = []

count_same : (w : World) (object own : ℕ) (old : List Value) → HasCount w object own → node_of w (named object) ≡ Some (node.Arr old) → own ≡ length old
count_same w object own old has e =
    has.count_is ∙ sym (length-map has.fields value_in) ∙
    ap (λ (n : Node). length (values_of n)) (some_is (node_with has.fields) (node.Arr old) (sym has.are_fields ∙ e))

values_there : (w : World) (object place : ℕ) (fields : List (Option ℕ)) (after : World) → IsWritten w (named object) place (values_in fields) after →
    (n : ℕ) → Contains (object ∷ objects_in fields) n → Has w n
values_there w object place fields after i n c = elim (contains_cases object (objects_in fields) n c) [
  | inl e ↦ subst (λ (x : ℕ). Has w x) e (subst (λ (o : Option Node). IsSome o) (sym i.node_is) refl)
  | inr rest ↦ objects_known w fields i.known n rest
]

written_refuses : (w : World) (object place : ℕ) (fields : List (Option ℕ)) (after : World) (y : FieldWhy) → WhyNotWritten w object place fields y →
    IsWritten w (named object) place (values_in fields) after → ⊥
written_refuses w object place fields after why.Misplaced k i = unknown_refuses w (object ∷ objects_in fields) why.Misplaced k (values_there w object place fields after i)
written_refuses w object place fields after (why.NotThere other) k i = unknown_refuses w (object ∷ objects_in fields) (why.NotThere other) k (values_there w object place fields after i)
written_refuses w object place fields after (why.There other) k i = unknown_refuses w (object ∷ objects_in fields) (why.There other) k (values_there w object place fields after i)
written_refuses w object place fields after (why.NoObject other) k i = unknown_refuses w (object ∷ objects_in fields) (why.NoObject other) k (values_there w object place fields after i)
written_refuses w object place fields after (why.Made other) k i = unknown_refuses w (object ∷ objects_in fields) (why.Made other) k (values_there w object place fields after i)
written_refuses w object place fields after why.Full k i = unknown_refuses w (object ∷ objects_in fields) why.Full k (values_there w object place fields after i)
written_refuses w object place fields after (why.NoField other lacking) k i =
    let own : k.1.own ≡ length i.old = count_same w object k.1.own i.old k.1.has i.node_is in
    let over : k.1.own < place + length fields = k.1.over in
    let same : length (values_in fields) ≡ length fields = length-map fields value_in in
    let fits : place + length (values_in fields) ≤ length i.old = i.fits in
    omega arith
written_refuses w object place fields after (why.Unscanned other) k i = unknown_refuses w (object ∷ objects_in fields) (why.Unscanned other) k (values_there w object place fields after i)
written_refuses w object place fields after (why.Due debt) k i = unknown_refuses w (object ∷ objects_in fields) (why.Due debt) k (values_there w object place fields after i)
written_refuses w object place fields after (why.Unkept store) k i = unknown_refuses w (object ∷ objects_in fields) (why.Unkept store) k (values_there w object place fields after i)
written_refuses w object place fields after (why.NotListed other) k i = unknown_refuses w (object ∷ objects_in fields) (why.NotListed other) k (values_there w object place fields after i)
written_refuses w object place fields after (why.NotMarked other) k i = unknown_refuses w (object ∷ objects_in fields) (why.NotMarked other) k (values_there w object place fields after i)
written_refuses w object place fields after (why.NotOld other) k i = unknown_refuses w (object ∷ objects_in fields) (why.NotOld other) k (values_there w object place fields after i)
written_refuses w object place fields after (why.Needed other) k i = unknown_refuses w (object ∷ objects_in fields) (why.Needed other) k (values_there w object place fields after i)

-- an object that is handed over
taken_refuses : (p : FieldWatch) (object : ℕ) (b : Actor) (w : World) (y : FieldWhy) → WhyNotTaken p object b w y → Has w object → IsThere p b → ⊥
taken_refuses p object b w why.Misplaced k has there = k.1 has
taken_refuses p object b w (why.NotThere other) k has there = k.1 there
taken_refuses p object b w (why.There other) k has there = k.1 has
taken_refuses p object b w (why.NoObject other) k has there = k.1 has
taken_refuses p object b w (why.Made other) k has there = k.1 has
taken_refuses p object b w why.Full k has there = k.1 has
taken_refuses p object b w (why.NoField other lacking) k has there = k.1 has
taken_refuses p object b w (why.Unscanned other) k has there = k.1 has
taken_refuses p object b w (why.Due debt) k has there = k.1 has
taken_refuses p object b w (why.Unkept store) k has there = k.1 has
taken_refuses p object b w (why.NotListed other) k has there = k.1 has
taken_refuses p object b w (why.NotMarked other) k has there = k.1 has
taken_refuses p object b w (why.NotOld other) k has there = k.1 has
taken_refuses p object b w (why.Needed other) k has there = k.1 has

-- a mark
mark_refuses : (q : FieldPhase) (roots : List ℕ) (y : FieldWhy) (s : World) → WhyMark q roots y → IsSnapshot q s →
    ((object : ℕ) → Contains roots object → Has s object) → ⊥
mark_refuses (phase.Between w) roots y s k e has = unknown_refuses w roots y k (λ n c. subst (λ (x : World). Has x n) e (has n c))
mark_refuses (phase.Marking p) roots y s k e has = e
mark_refuses (phase.Ended left) roots y s k e has = unknown_refuses left.heap roots y k
    (λ n c. below_has left.heap n (subst (λ (b : ℕ). n < b) e.count (has_below s n (has n c))))
mark_refuses phase.Stopped roots y s k e has = e

-- a line of a cycle
cycle_refuses : (p : FieldWatch) (a : Actor) (Why : Running → FieldWhy → Type 0) (y : FieldWhy) (Line : FieldCycle → FieldCycle → Type 0) (next : FieldWatch) →
    WhyInCycle p a Why y → IsThere p a → (c : InCycle Line p next) → (Why c.before y → ⊥) → ⊥
cycle_refuses p a Why y Line next (inl k) there c none = k.1 c.before c.marking
cycle_refuses p a Why y Line next (inr r) there c none = elim r.2 [
  | inl n ↦ n.1 there
  | inr x ↦ none (subst (λ (running : Running). Why running y) (one_cycle p.phase r.0 c.before r.1 c.marking) x.1)
]

scan_refuses : (a : Actor) (roots : List ℕ) (running : Running) (next : FieldCycle) (y : FieldWhy) → WhyScan a roots running y →
    IsScannedAt running.cycle a.number (map named roots) next → ⊥
scan_refuses a roots running next why.Misplaced k i = k i.first
scan_refuses a roots running next (why.NotThere other) k i = unknown_refuses running.cycle.world roots (why.NotThere other) k (λ n c. i.there (named n) (contains_map named roots n c))
scan_refuses a roots running next (why.There other) k i = unknown_refuses running.cycle.world roots (why.There other) k (λ n c. i.there (named n) (contains_map named roots n c))
scan_refuses a roots running next (why.NoObject other) k i = unknown_refuses running.cycle.world roots (why.NoObject other) k (λ n c. i.there (named n) (contains_map named roots n c))
scan_refuses a roots running next (why.Made other) k i = unknown_refuses running.cycle.world roots (why.Made other) k (λ n c. i.there (named n) (contains_map named roots n c))
scan_refuses a roots running next why.Full k i = unknown_refuses running.cycle.world roots why.Full k (λ n c. i.there (named n) (contains_map named roots n c))
scan_refuses a roots running next (why.NoField other lacking) k i = unknown_refuses running.cycle.world roots (why.NoField other lacking) k (λ n c. i.there (named n) (contains_map named roots n c))
scan_refuses a roots running next (why.Unscanned other) k i = unknown_refuses running.cycle.world roots (why.Unscanned other) k (λ n c. i.there (named n) (contains_map named roots n c))
scan_refuses a roots running next (why.Due debt) k i = unknown_refuses running.cycle.world roots (why.Due debt) k (λ n c. i.there (named n) (contains_map named roots n c))
scan_refuses a roots running next (why.Unkept store) k i = unknown_refuses running.cycle.world roots (why.Unkept store) k (λ n c. i.there (named n) (contains_map named roots n c))
scan_refuses a roots running next (why.NotListed other) k i = unknown_refuses running.cycle.world roots (why.NotListed other) k (λ n c. i.there (named n) (contains_map named roots n c))
scan_refuses a roots running next (why.NotMarked other) k i = unknown_refuses running.cycle.world roots (why.NotMarked other) k (λ n c. i.there (named n) (contains_map named roots n c))
scan_refuses a roots running next (why.NotOld other) k i = unknown_refuses running.cycle.world roots (why.NotOld other) k (λ n c. i.there (named n) (contains_map named roots n c))
scan_refuses a roots running next (why.Needed other) k i = unknown_refuses running.cycle.world roots (why.Needed other) k (λ n c. i.there (named n) (contains_map named roots n c))

-- a close
against_refuses : (p : Running) (y : FieldWhy) → IsAgainst p y → IsFieldEnd p.cycle → ⊥
against_refuses p y (inl u) f = nothing_in u.0 (subst (λ (l : List ℕ). Contains l u.0) f.scanned u.2)
against_refuses p y (inr (inl k)) f = nothing_in (debt_of k.1.0) (subst (λ (l : List Debt). Contains l (debt_of k.1.0)) f.debts k.1.2.0)
against_refuses p y (inr (inr k)) f = k.2.2.lost (f.held (named k.2.0.object) k.2.2.listed)

-- reports
marked_refuses : (left : Left) (objects : List ℕ) (y : FieldWhy) → WhyMarked left objects y → IsMarked left objects → ⊥
marked_refuses left objects why.Misplaced k m = let bad : false ≡ true = sym m.before ∙ k in absurd cc
marked_refuses left objects (why.NotThere other) k m = k
marked_refuses left objects (why.There other) k m = k
marked_refuses left objects (why.NoObject other) k m = k
marked_refuses left objects (why.Made other) k m = k
marked_refuses left objects why.Full k m = k
marked_refuses left objects (why.NoField other lacking) k m = k
marked_refuses left objects (why.Unscanned other) k m = k
marked_refuses left objects (why.Due debt) k m = k
marked_refuses left objects (why.Unkept store) k m = k
marked_refuses left objects (why.NotListed other) k m = k.0.1 ((m.kept other).1 k.0.0)
marked_refuses left objects (why.NotMarked other) k m = k.has ((m.kept other).0 (stands_in objects (λ n. Contains left.kept.items n → ⊥) other k))
marked_refuses left objects (why.NotOld other) k m = k
marked_refuses left objects (why.Needed other) k m = k

black_refuses : (left : Left) (objects : List ℕ) (y : FieldWhy) → WhyBlack left objects y → IsBlack left objects → ⊥
black_refuses left objects why.Misplaced k m = let bad : false ≡ true = sym m.before ∙ k in absurd cc
black_refuses left objects (why.NotThere other) k m = k
black_refuses left objects (why.There other) k m = k
black_refuses left objects (why.NoObject other) k m = k.has (m.there other (stands_in objects (λ n. Has left.heap n → ⊥) other k))
black_refuses left objects (why.Made other) k m = k
black_refuses left objects why.Full k m = k
black_refuses left objects (why.NoField other lacking) k m = k
black_refuses left objects (why.Unscanned other) k m = k
black_refuses left objects (why.Due debt) k m = k
black_refuses left objects (why.Unkept store) k m = k
black_refuses left objects (why.NotListed other) k m = k.0.1 (m.kept other k.0.0)
black_refuses left objects (why.NotMarked other) k m = k.has.1 (m.old other (stands_in objects (IsNotKept left) other k) k.has.0)
black_refuses left objects (why.NotOld other) k m = k
black_refuses left objects (why.Needed other) k m = k

-- a store in a phase
written_acts : (line : ℕ) (p : FieldWatch) (a : Actor) (object place : ℕ) (fields : List (Option ℕ)) (y : FieldWhy) (next : FieldWatch) →
    WhyActs p a (λ (v : World). WhyNotWritten v object place fields) y → CanWrite line p a object place fields next → ⊥
written_acts line p a object place fields y next (inl n) c =
    let h = changes_heap line a.number (λ (v after : World). IsWritten v (named object) place (values_in fields) after) p.phase next.phase c.changes in
    act_refuses p a h.0 y n (record { heap = h.1; there = c.actor })
written_acts line p a object place fields y next (inr r) c =
    let change = change_of line a.number (λ (v after : World). IsWritten v (named object) place (values_in fields) after) p.phase next.phase r.0
    r.1.heap c.changes in
    written_refuses r.0 object place fields change.0 y r.2 change.1

pub reasons_refuse : ReasonsRefuse
reasons_refuse line p (event.Began a) y next w c = begin_refuses p a next y w c
reasons_refuse line p (event.Ended a) y next w c = end_refuses p a next y w c
reasons_refuse line p (event.Made a taken count fields) y next w c =
    let change = change_of line a.number (λ (v after : World). IsMade v (named (serial_of v 0)) (filled count fields) after) p.phase next.phase c.heap
    c.acts.heap c.changes in
    acts_refuse p a (λ (v : World). WhyNotMade v taken fields) c.heap y w c.acts
    (λ k. made_refuses c.heap taken fields y k c.free c.room (made_known c.heap count fields change.1.known))
reasons_refuse line p (event.Written a object place fields) y next w c = written_acts line p a object place fields y next w c
reasons_refuse line p (event.Handed a object b) y next w c =
    acts_refuse p a (WhyNotTaken p object b) c.heap y w c.acts (λ k. taken_refuses p object b c.heap y k c.has c.taker)
reasons_refuse line p (event.Owed a object) y next w c = acts_refuse p a (WhyNotHad object) c.heap y w c.acts (λ k. k.1 c.has)
reasons_refuse line p (event.Mark roots) y next w c = mark_refuses p.phase roots y c.snapshot w c.is_snapshot c.has
reasons_refuse line p (event.Scan a roots) y next w c =
    cycle_refuses p a (WhyScan a roots) y (λ h after. IsScannedAt h a.number (map named roots) after) next w c.0 c.1
    (λ k. scan_refuses a roots c.1.before c.1.after.cycle y k c.1.quiet.line)
reasons_refuse line p (event.Push a object) y next w c =
    cycle_refuses p a (λ running. WhyNotHad object running.cycle.world) y (λ h after. IsPushedAt h (named object) after) next w c.0 c.1
    (λ k. k.1 c.1.quiet.line.there)
reasons_refuse line p (event.Settle a) y next w c =
    cycle_refuses p a (WhySettle a) y (HasSettled a.number) next w c.0 c.1 (λ k. c.1.quiet.line.0 (debt_of k.0) k.2 k.3)
reasons_refuse line p event.Close y next w c =
    against_refuses c.before y (subst (λ (q : FieldPhase). WhyClose q y) c.marking w) c.ends
reasons_refuse line p (event.Marked objects) y next w c =
    marked_refuses c.left objects y (subst (λ (q : FieldPhase). WhyAfter (λ left. WhyMarked left objects) q y) c.ended w) c.report
reasons_refuse line p (event.Black objects) y next w c =
    black_refuses c.left objects y (subst (λ (q : FieldPhase). WhyAfter (λ left. WhyBlack left objects) q y) c.ended w) c.report
reasons_refuse line p (event.Freed objects) y next w c =
    let k = subst (λ (q : FieldPhase). WhyAfter (λ left. WhyFreed left objects) q y) c.ended w in
    k.1.has (c.freed.may k.0 (stands_in objects (λ n. MayGo c.left n → ⊥) k.0 k.1))
reasons_refuse line p event.Stop y next w c = subst (λ (q : FieldPhase). WhyAfter (λ left why_not. ⊥) q y) c.ended w
