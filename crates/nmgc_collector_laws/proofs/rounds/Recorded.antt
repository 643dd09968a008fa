-- Recorded addresses are existing fields of objects below the nurseries that the round reached.
use Rattle.nmgc_collector_laws.proofs.Vocabulary.{◌≡◌, ◌+◌, ◌*◌, ◌/◌, ◌%◌, ◌<◌, ◌&&◌, ℕ, Bool, true, false, cond, eqb, leb, List, [], ◌∷◌, length, set, refl, sym, ap, subst, ◌∙◌, arith, Option, Some, None, inl, inr, eqb-true, leb-true, IsSome, Contains, slice_get, slice_get_past, get_or_past, Contains-append_left, Contains-append_cases, Contains-get_or, and_parts, cases_lt, eqb_tells, Name, Value, Node, Con, Var, Arr, Thunk, Weak, Stack, Kind, Change, Operand, Register, Shared, Command, Set, Cas, Update, Push, Reply, Fine, Yes, Updated, NoField, NoPointer, World, IsWorld, state_of, node_of, exchanged_at, field_set, field_exchanged, thunk_updated, changed, CanApply, shared_name, value_for, next_name, change_node, change_object, step, Row, replayed, start, step_grows, not_shared, HEADER_WORDS, SHARED_PLACE, FIRST_PLACE, Layout, nursery_place, IsWide, kind_of, part_count, SameShape, CanReplay, nothing_in, one_is, next_is_new, absent, step_adds_one, rows_keep_shapes, step_keeps_world, Place, Means, root_wide, Answer, plain, word, Hand, word_of, leaves, OwnRow, Answers, is_old, is_young, recorded_at, noted_by, all_recorded, depth_of, slots_at, le-ltb}
use Rattle.nmgc_world_spec.specs.Reach.{IsLegal}
use Rattle.nmgc_world_spec.specs.declared.value.Value.TheVariants as value
use Rattle.nmgc_world_spec.specs.declared.change.Change.TheVariants as change
use Rattle.nmgc_world_spec.specs.declared.node.Kind.TheVariants as kind
use Rattle.nmgc_collector_laws.proofs.{rounds.Depths.push_cases, rounds.RowRegisters.operand_means, rounds.Along.IsOwn, rounds.Along.Along, rounds.Puts.KnowsDepth}

-- a field that a command may write into an object that is there
abbrev pub IsWritten : Kind → ℕ → Type 0
IsWritten kind.Var index = Unit {0}
IsWritten kind.Arr index = Unit {0}
IsWritten kind.Thunk index = index ≡ 0
IsWritten kind.Stack index = Unit {0}
IsWritten _ index = ⊥

pub record IsField (node : Node) (index : ℕ) : Type 0 where
  pub written : IsWritten (kind_of node) index
  pub within : index < part_count node

field_later : (before after : Node) (index : ℕ) → SameShape before after → IsField before index → IsField after index
field_later before after index same f = record {
  written = subst (λ (k : Kind). IsWritten k index) (sym same.kind) f.written;
  within = (let a = f.within in let b = same.parts in omega arith);
}

fine_in : (found : Node) (index : ℕ) (v : Value) → (field_set found index v).1 ≡ Fine → IsField found index
fine_in (Con tag values) index v e = absurd cc
fine_in (Var old) index v e = elim (eqb_tells index 0) [
  | inl t ↦ record { written = tt; within = (let z = t.1 in omega arith) }
  | inr t ↦ let bad : NoField ≡ Fine = subst (λ (b : Bool). (cond {A = Node × Reply} b (Var v, Fine) (Var old, NoField)).1 ≡ Fine) t.0 e in absurd cc
]
fine_in (Arr values) index v e = elim (cases_lt index (length values)) [
  | inl lt ↦ record { written = tt; within = lt }
  | inr le ↦ let bad : NoField ≡ Fine = subst (λ (b : Bool). (cond {A = Node × Reply} b (Arr (set values index v), Fine) (Arr values, NoField)).1 ≡ Fine) (le-ltb index (length values) le) e in
      absurd cc
]
fine_in (Thunk free result) index v e = absurd cc
fine_in (Weak parts) index v e = absurd cc
fine_in (Stack size values) index v e = absurd cc

there_in : (values : List Value) (index : ℕ) (expected : Value) (kept written : Node) →
    (exchanged_at (slice_get values index) expected kept written).1 ≡ Yes → index < length values
there_in values index expected kept written e = elim (cases_lt index (length values)) [
  | inl lt ↦ lt
  | inr le ↦ let bad : NoField ≡ Yes = subst (λ (o : Option Value). (exchanged_at o expected kept written).1 ≡ Yes) (slice_get_past values index le) e in
      absurd cc
]

exchanged_in : (found : Node) (index : ℕ) (expected v : Value) → (field_exchanged found index expected v).1 ≡ Yes → IsField found index
exchanged_in (Con tag values) index expected v e = absurd cc
exchanged_in (Var old) index expected v e = record { written = tt; within = there_in (old ∷ []) index expected (Var old) (Var v) e }
exchanged_in (Arr values) index expected v e = record { written = tt; within = there_in values index expected (Arr values) (Arr (set values index v)) e }
exchanged_in (Thunk free result) index expected v e = absurd cc
exchanged_in (Weak parts) index expected v e = absurd cc
exchanged_in (Stack size values) index expected v e = absurd cc

-- an update that found no result wrote such a field
updated_in : (found : Node) (v : Value) → (thunk_updated found v).1 ≡ Updated → IsField found 0
updated_in (Con tag values) v e = absurd cc
updated_in (Var old) v e = absurd cc
updated_in (Arr values) v e = absurd cc
updated_in (Thunk free None) v e = record { written = refl; within = omega arith }
updated_in (Thunk free (Some old)) v e = absurd cc
updated_in (Weak parts) v e = absurd cc
updated_in (Stack size values) v e = absurd cc

-- a change that was done wrote an existing field
abbrev Writes : World → Name → ℕ → Type 0
Writes w name index = (found : Node) × (node_of w name ≡ Some found) × IsField found index

done_at : (w : World) (name : Name) (index : ℕ) (c : Change) (done : Reply) → (NoPointer ≡ done → ⊥) →
    ((maker : ℕ) (found : Node) → (changed c maker found).1 ≡ done → IsField found index) → (o : Option Node) → node_of w name ≡ o →
    (change_node w name o c).1 ≡ done → Writes w name index
done_at w name index c done ne field None there e = absurd (ne e)
done_at w name index c done ne field (Some found) there e = (found, there, field name.maker found e)

done_field : (w : World) (v : Value) (index : ℕ) (c : Change) (done : Reply) → (NoPointer ≡ done → ⊥) →
    ((maker : ℕ) (found : Node) → (changed c maker found).1 ≡ done → IsField found index) → (name : Name) → v ≡ value.Ref name →
    (change_object w v c).1 ≡ done → Writes w name index
done_field w v index c done ne field name is e = done_at w name index c done ne field (node_of w name) refl (subst (λ x. (change_object w x c).1 ≡ done) is e)

-- a push that was done wrote the slot at the depth
push_field : (w : World) (m : ℕ) (object x : Value) (name : Name) (index : ℕ) → object ≡ value.Ref name →
    (change_object w object (change.Push m x)).1 ≡ Fine → ((size : ℕ) (values : List Value) → node_of w name ≡ Some (Stack size values) →
    name.maker ≡ m → index ≡ length values) → Writes w name index
push_field w m object x name index is e deep = elim (push_cases w m object x) [
  | inl f ↦
      let same : f.name ≡ name = let e = sym f.refers ∙ is in cc in
      let there : node_of w name ≡ Some (Stack f.size f.values) = ap (λ n. node_of w n) (sym same) ∙ f.there in
      let at = deep f.size f.values there (ap (λ (n : Name). n.maker) (sym same) ∙ f.mine) in
      let room = f.room in
      (Stack f.size f.values, there, record { written = tt; within = omega arith })
  | inr f ↦ absurd (f.0 e)
]

-- the object that an operand refers to is in the wide reach
operand_wide : (w : World) (m : ℕ) (o : Operand) (name : Name) → value_for w m o ≡ value.Ref name → IsWide w name
operand_wide w m (Register r) name e = elim (cases_lt r (length (state_of w m).registers)) [
  | inl lt ↦ root_wide w m name (Contains-append_left (state_of w m).registers (state_of w m).queue (value.Ref name) (rw e at (Contains-get_or (state_of w m).registers r value.Nil lt)))
  | inr le ↦ let none : value.Nil ≡ value.Ref name = sym (get_or_past (state_of w m).registers r value.Nil le) ∙ e in absurd cc
]
operand_wide w m Shared name e = let same : name ≡ shared_name = cc in start name (inl (inl same))

-- a word that refers to an object in a segment
record IsPointer (P : Place → Type 0) (layout : Layout) (w : ℕ) (v : Value) : Type 0 where
  place : Place
  refers : v ≡ value.Ref place.name
  word_is : w ≡ 2 * place.at
  there : P place
  low : place.at < nursery_place layout 0

pointer_old : (P : Place → Type 0) (layout : Layout) (w : ℕ) (v : Value) → is_old layout w ≡ true → Means P w v → IsPointer P layout w v
pointer_old P layout w v old m =
    let a = and_parts (eqb (w % 2) 0) (leb FIRST_PLACE (w / 2) && leb (w / 2 + 1) (nursery_place layout 0)) old in
    let b = and_parts (leb FIRST_PLACE (w / 2)) (leb (w / 2 + 1) (nursery_place layout 0)) a.1 in
    by_value v (eqb-true (w % 2) 0 a.0) (let l = leb-true (w / 2 + 1) (nursery_place layout 0) b.1 in omega arith) m
  where
    by_value : (v : Value) → w % 2 ≡ 0 → w / 2 < nursery_place layout 0 → Means P w v → IsPointer P layout w v
    by_value value.Nil even low m = absurd (omega arith)
    by_value (value.Number n) even low m = absurd (omega arith)
    by_value (value.Ref name) even low m = record {
      place = record { at = m.0; name = name };
      refers = refl;
      word_is = m.1;
      there = m.2;
      low = (let e = m.1 in omega arith);
    }

-- a command records an address: it wrote that field, with this reply
record IsRecording (layout : Layout) (h : Hand) (c : Command) (a : Answer) (at : ℕ) : Type 0 where
  object : Operand
  index : ℕ
  reply : Reply
  done : a ≡ plain reply
  old : is_old layout (word_of h.registers object) ≡ true
  at_is : word_of h.registers object / 2 + HEADER_WORDS + index ≡ at
  writes : (w : World) (m : ℕ) (name : Name) → value_for w m object ≡ value.Ref name → (step w m c).1 ≡ reply → KnowsDepth w m name h object →
      Writes w name index

one_if : (b : Bool) (x at : ℕ) → Contains (cond b (x ∷ []) []) at → (b ≡ true) × (x ≡ at)
one_if true x at h = (refl, one_is x at h)
one_if false x at h = absurd (nothing_in at h)

recording_at : (layout : Layout) (h : Hand) (object v : Operand) (index at : ℕ) →
    Contains (recorded_at layout (word_of h.registers object) index (word_of h.registers v)) at →
    (is_old layout (word_of h.registers object) ≡ true) × (word_of h.registers object / 2 + HEADER_WORDS + index ≡ at)
recording_at layout h object v index at c =
    let old : Bool = is_old layout (word_of h.registers object) in
    let young : Bool = is_young layout (word_of h.registers v) in
    let t = one_if (old && young) (word_of h.registers object / 2 + HEADER_WORDS + index) at c in
    ((and_parts old young t.0).0, t.1)

recording : (layout : Layout) (h : Hand) (c : Command) (a : Answer) (at : ℕ) → Contains (noted_by layout h c a) at → IsRecording layout h c a at
recording layout h (Set object index v) (plain Fine) at c =
    let t = recording_at layout h object v index at c in
    record {
      object = object;
      index = index;
      reply = Fine;
      done = refl;
      old = t.0;
      at_is = t.1;
      writes = λ w m name is e deep. done_field w (value_for w m object) index (change.Set index (value_for w m v)) Fine (λ x. cc) (λ maker found.
          fine_in found index (value_for w m v)) name is e;
    }
recording layout h (Set object index v) (plain _) at c = absurd (nothing_in at c)
recording layout h (Set object index v) (word w) at c = absurd (nothing_in at c)
recording layout h (Cas object index expected v) (plain Yes) at c =
    let t = recording_at layout h object v index at c in
    record {
      object = object;
      index = index;
      reply = Yes;
      done = refl;
      old = t.0;
      at_is = t.1;
      writes = λ w m name is e deep.
          done_field w (value_for w m object) index (change.Exchange index (value_for w m expected) (value_for w m v)) Yes (λ x. cc) (λ maker found.
          exchanged_in found index (value_for w m expected) (value_for w m v)) name is e;
    }
recording layout h (Cas object index expected v) (plain _) at c = absurd (nothing_in at c)
recording layout h (Cas object index expected v) (word w) at c = absurd (nothing_in at c)
recording layout h (Update object v) (plain Updated) at c =
    let t = recording_at layout h object v 0 at c in
    record {
      object = object;
      index = 0;
      reply = Updated;
      done = refl;
      old = t.0;
      at_is = t.1;
      writes = λ w m name is e deep. done_field w (value_for w m object) 0 (change.Update (value_for w m v)) Updated (λ x. cc) (λ maker found.
          updated_in found (value_for w m v)) name is e;
    }
recording layout h (Update object v) (plain _) at c = absurd (nothing_in at c)
recording layout h (Update object v) (word w) at c = absurd (nothing_in at c)
recording layout h (Push object v) (plain Fine) at c =
    let deep_at : ℕ = depth_of (slots_at h.stacks (word_of h.registers object / 2)) in
    let t = recording_at layout h object v deep_at at c in
    record {
      object = object;
      index = deep_at;
      reply = Fine;
      done = refl;
      old = t.0;
      at_is = t.1;
      writes = λ w m name is e deep. push_field w m (value_for w m object) (value_for w m v) name deep_at is e deep;
    }
recording layout h (Push object v) (plain _) at c = absurd (nothing_in at c)
recording layout h (Push object v) (word w) at c = absurd (nothing_in at c)
recording layout h _ a at c = absurd (nothing_in at c)

-- a later world: it has the names of the beginning, and reaches none of them that wasn't reached then
pub record IsSince (began w : World) : Type 0 where
  pub names : (name : Name) → IsSome (node_of began name) → IsSome (node_of w name)
  pub wide : (name : Name) → IsSome (node_of began name) → IsWide w name → IsWide began name

pub since_itself : (w : World) → IsSince w w
since_itself w = record { names = λ name there. there; wide = λ name there h. h }

pub since_step : (began w : World) (m : ℕ) (c : Command) → IsWorld w → CanApply w m c → IsSince began w → IsSince began (step w m c).0
since_step began w m c is can h = record {
  names = λ name there. (step_grows w m c can.mutator).names name (h.names name there);
  wide = λ name there k. elim (step_adds_one w m c is can name k) [
    | inl was ↦ h.wide name there was
    | inr new ↦
        let next : Name = next_name (state_of w m) m in
        absurd (absent (node_of w next) (next_is_new w m (not_shared w m is can.mutator)) (subst (λ (n : Name). IsSome (node_of w n)) new (h.names name there)))
  ];
}

module _ (P : Place → Type 0) (layout : Layout) (began : World) where
  -- the address of an existing field of an object below the nurseries that was reached as the round began if it was there
  pub record IsFieldOf (v : World) (at : ℕ) : Type 0 where
    pub place : Place
    pub index : ℕ
    pub there : P place
    pub at_is : at ≡ place.at + HEADER_WORDS + index
    pub low : place.at < nursery_place layout 0
    pub wide : IsSome (node_of began place.name) → IsWide began place.name
    pub node : Node
    pub node_is : node_of v place.name ≡ Some node
    pub field : IsField node index

  module _ (m : ℕ) (shared : P (record { at = SHARED_PLACE; name = shared_name })) where
    done_own : (w : World) (row : Row) (h : Hand) (r : OwnRow) (reply : Reply) → (step w row.mutator row.command).1 ≡ row.reply →
        IsOwn P m w h r row → r.answer ≡ plain reply → (step w m r.command).1 ≡ reply
    done_own w row h r reply gives own is =
        let same : reply ≡ row.reply = subst (λ (a : Answer). Answers P a row.reply) is own.answers in
        subst (λ c. (step w m c).1 ≡ reply) (sym own.command) (subst (λ j. (step w j row.command).1 ≡ reply) own.number (gives ∙ sym same))

    recorded_here : (w : World) (row : Row) (rows : List Row) (h : Hand) (r : OwnRow) → IsSince began w → IsWorld w → CanReplay w (row ∷ rows) →
        (step w row.mutator row.command).1 ≡ row.reply → IsOwn P m w h r row → (at : ℕ) → Contains (noted_by layout h r.command r.answer) at →
        IsFieldOf (replayed w (row ∷ rows)) at
    recorded_here w row rows h r since is can gives own at c =
        let k : IsRecording layout h r.command r.answer at = recording layout h r.command r.answer at c in
        let p : IsPointer P layout (word_of h.registers k.object) (value_for w m k.object) =
        pointer_old P layout (word_of h.registers k.object) (value_for w m k.object) k.old
        (operand_means P shared h.registers (state_of w m).registers k.object own.registers) in
        let deep : KnowsDepth w m p.place.name h k.object = λ size values there mine.
        let t = own.depths p.place size values p.there mine there in
        let word = p.word_is in
        let half : word_of h.registers k.object / 2 ≡ p.place.at = omega arith in
        ap (λ y. depth_of (slots_at h.stacks y)) half ∙ ap depth_of t.1 ∙ t.2 in
        let f = k.writes w m p.place.name p.refers (done_own w row h r k.reply gives own k.done) deep in
        let later = rows_keep_shapes w (row ∷ rows) is can p.place.name f.0 f.1 in
        record {
          place = p.place;
          index = k.index;
          there = p.there;
          at_is = (let a = k.at_is in let b = p.word_is in omega arith);
          low = p.low;
          wide = λ known. since.wide p.place.name known (operand_wide w m k.object p.place.name p.refers);
          node = later.0;
          node_is = later.1;
          field = field_later f.0 later.0 k.index later.2 f.2;
        }

    -- every address that rows of the round recorded is such an address
    pub recorded_is : (w : World) (rows : List Row) (h : Hand) (own : List OwnRow) → IsSince began w → IsWorld w → CanReplay w rows →
        IsLegal w rows → Along P m w h own rows → (at : ℕ) → Contains (all_recorded layout h own) at → IsFieldOf (replayed w rows) at
    recorded_is w [] h own since is can legal along at c = absurd (nothing_in at (subst (λ (l : List OwnRow). Contains (all_recorded layout h l) at) along c))
    recorded_is w (row ∷ rows) h own since is can legal along at c =
        let v : World = (step w row.mutator row.command).0 in
        let next : IsWorld v = step_keeps_world w row.mutator row.command is can.0 in
        let later : IsSince began v = since_step began w row.mutator row.command is can.0 since in
        elim along [
          | inl other ↦ recorded_is v rows h own later next can.1 legal.1 other.1 at c
          | inr mine ↦
              let r : OwnRow = mine.0 in
              let here : List ℕ = noted_by layout h r.command r.answer in
              elim (Contains-append_cases here (all_recorded layout (leaves h r.command r.answer) mine.1) at (rw mine.2 at c)) [
                | inl a ↦ recorded_here w row rows h r since is can legal.0 mine.3 at a
                | inr a ↦ recorded_is v rows (leaves h r.command r.answer) mine.1 later next can.1 legal.1 mine.4 at a
              ]
        ]
