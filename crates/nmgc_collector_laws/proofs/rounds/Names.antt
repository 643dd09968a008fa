-- The names that commands of a mutator give: one after another, from its next serial on.
use Rattle.nmgc_collector_laws.proofs.Vocabulary.{◌≡◌, ◌≢◌, ◌⊎◌, inl, inr, ℕ, ◌+◌, ◌<◌, ◌≤◌, List, [], ◌∷◌, length, refl, sym, ap, subst, ◌∙◌, arith, Some, None, length-append, length-set, cases_eq, eqb_tells, SHARED_MAKER, Name, Node, MutatorState, Command, Reply, Given, World, state_of, node_of, serial_of, IsMaking, words_made, changed, with_state, with_new, with_nth, with_node, born, step, made_by, state_same, state_other, maker_there, Any, stepped, still_there, State, after_command, after_scan, Happening, did, scanned, replay, IsLegal, done_by, Done, world_scanned}
use Rattle.nmgc_world_spec.specs.declared.command.Command.TheVariants.{Con, Var, Arr, Rec, Thunk, Weak, Stack}
use Rattle.nmgc_world_laws.specs.laws.Steps.{Hand, Object}
use Rattle.nmgc_world_spec.specs.declared.value.Value.TheVariants as value

-- the number of objects that a command makes
abbrev pub made_count : Command → ℕ
made_count (Con dest tag fields) = 1
made_count (Var dest v) = 1
made_count (Arr dest count v) = 1
made_count (Rec dest fields) = 1
made_count (Thunk dest free) = 1
made_count (Weak dest key v finaliser) = 1
made_count (Stack dest size) = 1
made_count _ = 0

-- the number of objects that commands make together
abbrev pub all_made : List Done → ℕ
all_made [] = 0
all_made (d ∷ ds) = made_count d.0 + all_made ds

-- a command makes one object of two words at least, or none
pub makes_or_not : (c : Command) → (IsMaking c × (made_count c ≡ 1) × (2 ≤ words_made c)) ⊎ ((made_count c ≡ 0) × (words_made c ≡ 0))
makes_or_not (Con dest tag fields) = inl (tt, refl, omega arith)
makes_or_not (Var dest v) = inl (tt, refl, omega arith)
makes_or_not (Arr dest count v) = inl (tt, refl, omega arith)
makes_or_not (Rec dest fields) = inl (tt, refl, omega arith)
makes_or_not (Thunk dest free) = inl (tt, refl, omega arith)
makes_or_not (Weak dest key v finaliser) = inl (tt, refl, omega arith)
makes_or_not (Stack dest size) = inl (tt, refl, omega arith)
makes_or_not _ = inr (refl, refl)

-- the objects that commands made were named one after another from a serial on
abbrev pub NamedFrom : ℕ → ℕ → List Done → Type 0
NamedFrom m serial [] = Unit {0}
NamedFrom m serial (d ∷ ds) = (IsMaking d.0 → d.1 ≡ Given (value.Ref (record { maker = m; serial = serial }))) × NamedFrom m (serial + made_count d.0) ds

-- another state of a mutator, with the same number of objects
kept_serial : (w : World) (m : ℕ) (q : MutatorState) → m < length w.mutators → length q.nodes ≡ serial_of w m → (k : ℕ) →
    serial_of (with_state w m q) k ≡ serial_of w k
kept_serial w m q lt e k = elim (cases_eq k m) [
  | inl same ↦ rw (same, state_same w m q lt) e
  | inr other ↦ ap (λ (s : MutatorState). length s.nodes) (state_other w m q lt k other)
]

-- a change of an object leaves serials
write_serial : (w : World) (name : Name) (found made : Node) → node_of w name ≡ Some found → (k : ℕ) → serial_of (with_node w name made) k ≡ serial_of w k
write_serial w name found made there k = elim (eqb_tells name.maker SHARED_MAKER) [
  | inl p ↦ rw p.0 refl
  | inr p ↦ rw p.0 (kept_serial w name.maker (with_nth (state_of w name.maker) name.serial made) (maker_there w name found made there p.1)
      (length-set (state_of w name.maker).nodes name.serial made) k)
]

-- a command that makes no object leaves serials
module _ (w : World) (m : ℕ) (c : Command) (none : made_by w m c ≡ None) (lt : m < length w.mutators) where
  object_serial : (v : World) → Object Any w m c v → (k : ℕ) → serial_of v k ≡ serial_of w k
  object_serial v (Object.same e) k = ap (λ (u : World). serial_of u k) e
  object_serial v (Object.birth register made is e) k = let bad : Some made ≡ None = sym is ∙ none in absurd cc
  object_serial v (Object.write name found ch there asks q e) k = cc (e, write_serial w name found (changed ch name.maker found).0 there k)

  hand_serial : (v u : World) → m < length v.mutators → Hand Any v m u → (k : ℕ) → serial_of u k ≡ serial_of v k
  hand_serial v u there (Hand.same e) k = ap (λ (x : World). serial_of x k) e
  hand_serial v u there (Hand.other registers queue e hr hq) k = cc (e, kept_serial v m (record { registers = registers; queue = queue; nodes = (state_of v m).nodes }) there refl k)

  same_serial : (k : ℕ) → serial_of (step w m c).0 k ≡ serial_of w k
  same_serial k = let s = stepped w m c in hand_serial s.between (step w m c).0 (still_there Any w m c (step w m c).0 lt s) s.hand k ∙
      object_serial s.between s.object k

-- the effect of a mutator's command on serials, and the name that it gives
pub record Names (w : World) (m : ℕ) (c : Command) (v : World) (r : Reply) : Type 0 where
  pub own : serial_of v m ≡ serial_of w m + made_count c
  pub others : (k : ℕ) → k ≢ m → serial_of v k ≡ serial_of w k
  pub gives : IsMaking c → r ≡ Given (value.Ref (record { maker = m; serial = serial_of w m }))

born_names : (w : World) (m register : ℕ) (made : Node) (c : Command) → m < length w.mutators → made_count c ≡ 1 →
    Names w m c (born w m register made).0 (born w m register made).1
born_names w m register made c lt one =
    let q : MutatorState = with_new (state_of w m) m register made in record {
      own = ap (λ (s : MutatorState). length s.nodes) (state_same w m q lt) ∙ length-append (state_of w m).nodes (made ∷ []) ∙
          ap (λ (k : ℕ). serial_of w m + k) (sym one);
      others = λ k other. ap (λ (s : MutatorState). length s.nodes) (state_other w m q lt k other);
      gives = λ is. refl;
    }

plain_names : (w : World) (m : ℕ) (c : Command) → m < length w.mutators → made_by w m c ≡ None → made_count c ≡ 0 → (IsMaking c → ⊥) →
    Names w m c (step w m c).0 (step w m c).1
plain_names w m c lt none zero not = record {
  own = let e = same_serial w m c none lt m in omega arith;
  others = λ k other. same_serial w m c none lt k;
  gives = λ is. absurd (not is);
}

pub names : (w : World) (m : ℕ) (c : Command) → m < length w.mutators → Names w m c (step w m c).0 (step w m c).1
names w m (Con dest tag fields) lt = born_names w m dest _ (Con dest tag fields) lt refl
names w m (Var dest v) lt = born_names w m dest _ (Var dest v) lt refl
names w m (Arr dest count v) lt = born_names w m dest _ (Arr dest count v) lt refl
names w m (Rec dest fields) lt = born_names w m dest _ (Rec dest fields) lt refl
names w m (Thunk dest free) lt = born_names w m dest _ (Thunk dest free) lt refl
names w m (Weak dest key v finaliser) lt = born_names w m dest _ (Weak dest key v finaliser) lt refl
names w m (Stack dest size) lt = born_names w m dest _ (Stack dest size) lt refl
names w m c lt = plain_names w m c lt refl refl (λ is. is)

-- the objects of these commands were named from the mutator's next serial on, which rose by their number
pub record Gives (w v : World) (m : ℕ) (ds : List Done) : Type 0 where
  pub serial : serial_of v m ≡ serial_of w m + all_made ds
  pub named : NamedFrom m (serial_of w m) ds

-- a command of the mutator, and the commands that follow
gives_own : (w u v : World) (m : ℕ) (c : Command) (r : Reply) (ds : List Done) → Names w m c u r → Gives u v m ds → Gives w v m ((c, r) ∷ ds)
gives_own w u v m c r ds n g = record {
  serial = let a = n.own in let b = g.serial in omega arith;
  named = (n.gives, subst (λ (k : ℕ). NamedFrom m k ds) n.own g.named);
}

-- another mutator's command, or a scan
gives_other : (w u v : World) (m : ℕ) (ds : List Done) → serial_of u m ≡ serial_of w m → Gives u v m ds → Gives w v m ds
gives_other w u v m ds same g = record {
  serial = let b = g.serial in omega arith;
  named = subst (λ (k : ℕ). NamedFrom m k ds) same g.named;
}

pub gives : (s : State) (hs : List Happening) (m : ℕ) → IsLegal s hs → Gives s.world (replay s hs).world m (done_by m hs)
gives s [] m legal = record { serial = omega arith; named = tt }
gives s (did k c r ∷ hs) m legal =
    let u : World = (step s.world k c).0 in
    let v : World = (replay (after_command s k c) hs).world in
    let n : Names s.world k c u r = subst (λ (x : Reply). Names s.world k c u x) legal.0.0.2 (names s.world k c legal.0.0.1.mutator) in
    let rest = gives (after_command s k c) hs m legal.1 in
    elim (eqb_tells k m) [
      | inl e ↦ rw e.0 (gives_own s.world u v m c r (done_by m hs) (subst (λ (j : ℕ). Names s.world j c u r) e.1 n) rest)
      | inr ne ↦ rw ne.0 (gives_other s.world u v m (done_by m hs) (n.others m (λ e. ne.1 (sym e))) rest)
    ]
gives s (scanned entry v ∷ hs) m legal =
    gives_other s.world (after_scan s s.queue).world (replay (after_scan s s.queue) hs).world m (done_by m hs) (ap (λ (w : World).
    serial_of w m) (world_scanned s s.queue)) (gives (after_scan s s.queue) hs m legal.1)
