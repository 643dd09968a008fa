-- The new weak pointers of a round, and the addresses that their makers noted.
use Rattle.nmgc_collector_laws.proofs.Vocabulary.{◌≡◌, ◌≢◌, ℕ, ◌*◌, ◌/◌, ◌<◌, List, [], ◌∷◌, ◌++◌, length, refl, sym, ap, subst, ◌∙◌, arith, Option, Some, None, inl, inr, Contains, none-some, same_Some, Contains-append_left, Contains-append_right, Contains-append_cases, SHARED_MAKER, Name, Node, Con, Var, Arr, Thunk, Weak, Stack, Parts, Operand, Command, Reply, World, IsWorld, state_of, node_of, given, changed, next_name, with_node, with_new, born, step, Row, replayed, not_shared, kind_of, made_by, CanReplay, absent, some_of, nothing_in, one_is, contains_one, last_there, next_is_new, node_cases, node_born, node_same, rows_keep_shapes, step_keeps_world, Stepped, Any, stepped, hand_nodes, still_there, Place, Means, Answer, plain, word, OwnRow, Hand, leaves, Answers, weaks_by, all_weaks}
use Rattle.nmgc_world_spec.specs.Reach.{IsLegal}
use Rattle.nmgc_world_laws.specs.laws.Steps.{Object}
use Rattle.nmgc_world_spec.specs.declared.value.Value.TheVariants as value
use Rattle.nmgc_world_spec.specs.declared.node.Kind.TheVariants as kind
use Rattle.nmgc_world_spec.specs.declared.command.Command.TheVariants as command
use Rattle.nmgc_world_spec.specs.declared.command.Reply.TheVariants as reply
use Rattle.nmgc_collector_laws.proofs.{rounds.RowRegisters.IsPlain, rounds.Along.IsOwn, rounds.Along.Along, rounds.Recorded.IsSince, rounds.Recorded.since_step}

-- the command that makes a weak pointer
pub record IsWeak (c : Command) : Type 0 where
  pub dest : ℕ
  pub key : Operand
  pub v : Operand
  pub finaliser : Operand
  pub is : c ≡ command.Weak dest key v finaliser

is_weak : (w : World) (m : ℕ) (c : Command) (made : Node) → made_by w m c ≡ Some made → kind_of made ≡ kind.Weak → IsWeak c
is_weak w m (command.Con dest tag fields) made e k = absurd (let is : kind.Con ≡ kind.Weak = ap kind_of (same_Some _ made e) ∙ k in cc)
is_weak w m (command.Var dest v) made e k = absurd (let is : kind.Var ≡ kind.Weak = ap kind_of (same_Some _ made e) ∙ k in cc)
is_weak w m (command.Arr dest count v) made e k = absurd (let is : kind.Arr ≡ kind.Weak = ap kind_of (same_Some _ made e) ∙ k in cc)
is_weak w m (command.Rec dest fields) made e k = absurd (let is : kind.Arr ≡ kind.Weak = ap kind_of (same_Some _ made e) ∙ k in cc)
is_weak w m (command.Thunk dest free) made e k = absurd (let is : kind.Thunk ≡ kind.Weak = ap kind_of (same_Some _ made e) ∙ k in cc)
is_weak w m (command.Weak dest key v finaliser) made e k = record { dest = dest; key = key; v = v; finaliser = finaliser; is = refl }
is_weak w m (command.Stack dest size) made e k = absurd (let is : kind.Stack ≡ kind.Weak = ap kind_of (same_Some _ made e) ∙ k in cc)
is_weak w m _ made e k = absurd (none-some made e)

-- this command made the name's object, a weak pointer
pub record MadeWeak (w : World) (k : ℕ) (c : Command) (name : Name) : Type 0 where
  pub weak : IsWeak c
  pub new : name ≡ next_name (state_of w k) k

weak_made : (w : World) (k : ℕ) (c : Command) → k < length w.mutators → k ≢ SHARED_MAKER → (name : Name) (found : Node) → node_of w name ≡ None →
    node_of (step w k c).0 name ≡ Some found → kind_of found ≡ kind.Weak → MadeWeak w k c name
weak_made w k c lt own name found none e is_kind =
    let s : Stepped Any w k c (step w k c).0 = stepped w k c in
    by_object s.between s.object (sym (hand_nodes Any s.between k (step w k c).0 (still_there Any w k c (step w k c).0 lt s) s.hand name) ∙ e)
  where
    by_object : (v : World) → Object Any w k c v → node_of v name ≡ Some found → MadeWeak w k c name
    by_object v (Object.same is) there = absurd (none-some found (sym none ∙ ap (λ (u : World). node_of u name) (sym is) ∙ there))
    by_object v (Object.birth register made makes is) there =
        let now : node_of (born w k register made).0 name ≡ Some found = ap (λ (u : World). node_of u name) (sym is) ∙ there in
        elim (node_born w k register made lt own name) [
          | inl b ↦ record { weak = is_weak w k c made makes (ap kind_of (same_Some made found (sym b.1 ∙ now)) ∙ is_kind); new = b.0 }
          | inr b ↦ absurd (none-some found (sym none ∙ sym b ∙ now))
        ]
    by_object v (Object.write at old ch there_at asks q is) there =
        let now : node_of (with_node w at (changed ch at.maker old).0) name ≡ Some found = ap (λ (u : World). node_of u name) (sym is) ∙ there in
        elim (node_cases w at old (changed ch at.maker old).0 there_at name) [
          | inl b ↦ absurd (none-some old (sym none ∙ ap (λ n. node_of w n) b.0 ∙ there_at))
          | inr b ↦ absurd (none-some found (sym none ∙ sym b.1 ∙ now))
        ]

-- one of the rows made it
pub record IsMade (w : World) (rows : List Row) (name : Name) : Type 0 where
  pub before : List Row
  pub row : Row
  pub after : List Row
  pub rows_are : rows ≡ before ++ row ∷ after
  pub made : MadeWeak (replayed w before) row.mutator row.command name

-- a weak pointer that wasn't there as the rows began was made by one of them
pub rows_made : (w : World) (rows : List Row) → IsWorld w → CanReplay w rows → (name : Name) (found : Node) → node_of w name ≡ None →
    node_of (replayed w rows) name ≡ Some found → kind_of found ≡ kind.Weak → IsMade w rows name
rows_made w [] is can name found none there k = absurd (none-some found (sym none ∙ there))
rows_made w (row ∷ rows) is can name found none there k =
    let v : World = (step w row.mutator row.command).0 in
    let next : IsWorld v = step_keeps_world w row.mutator row.command is can.0 in
    by_next (node_of v name) refl (λ e. rows_made v rows next can.1 name found e there k)
  where
    by_next : (o : Option Node) → node_of (step w row.mutator row.command).0 name ≡ o →
        (node_of (step w row.mutator row.command).0 name ≡ None → IsMade (step w row.mutator row.command).0 rows name) → IsMade w (row ∷ rows) name
    by_next None e more =
        let t = more e in
        record { before = row ∷ t.before; row = t.row; after = t.after; rows_are = ap (λ (xs : List Row). row ∷ xs) t.rows_are; made = t.made }
    by_next (Some first) e more =
        let later = rows_keep_shapes (step w row.mutator row.command).0 rows (step_keeps_world w row.mutator row.command is can.0) can.1 name first e in
        let first_kind : kind_of first ≡ kind.Weak = sym later.2.kind ∙ ap kind_of (same_Some later.0 found (sym later.1 ∙ there)) ∙ k in
        record {
          before = [];
          row = row;
          after = rows;
          rows_are = refl;
          made = weak_made w row.mutator row.command can.0.mutator (not_shared w row.mutator is can.0.mutator) name first none e first_kind;
        }

-- the address in an answer that gives a name
record IsNamed (P : Place → Type 0) (a : Answer) (name : Name) : Type 0 where
  w : ℕ
  at : ℕ
  is : a ≡ word w
  word_is : w ≡ 2 * at
  there : P (record { at = at; name = name })

named : (P : Place → Type 0) (a : Answer) (name : Name) (r : Reply) → r ≡ reply.Given (value.Ref name) → Answers P a r → IsPlain a → IsNamed P a name
named P (plain x) name r gives e none = absurd (let bad : Some (value.Ref name) ≡ None = sym (ap given (e ∙ gives)) ∙ none in cc)
named P (word w) name r gives (v, e, k) none =
    let same : v ≡ value.Ref name = same_Some v (value.Ref name) (ap given (e ∙ gives)) in
    let m = subst (Means P w) same k in
    record { w = w; at = m.0; is = refl; word_is = m.1; there = m.2 }

-- the reply of a row that made a weak pointer
gave_name : (w : World) (k : ℕ) (c : Command) (r : Reply) → (step w k c).1 ≡ r → IsWeak c → r ≡ reply.Given (value.Ref (next_name (state_of w k) k))
gave_name w k c r gives weak = sym gives ∙ ap (λ (d : Command). (step w k d).1) weak.is

module _ (P : Place → Type 0) (p : Place) (one : (at : ℕ) → P (record { at = at; name = p.name }) → at ≡ p.at) (m : ℕ) where
  weak_put : (w : World) (row : Row) (h : Hand) (r : OwnRow) → (step w row.mutator row.command).1 ≡ row.reply → IsOwn P m w h r row →
      MadeWeak w row.mutator row.command p.name → Contains (weaks_by r.command r.answer) p.at
  weak_put w row h r gives own made =
      let k = row.mutator in
      let t : IsNamed P r.answer p.name = named P r.answer p.name row.reply (cc (gave_name w k row.command row.reply gives made.weak, made.new)) own.answers own.plain in
      let at : t.at ≡ p.at = one t.at t.there in
      let half : t.w / 2 ≡ p.at = let e = t.word_is in omega arith in
      let weak = made.weak in
      rw (own.command ∙ weak.is) (rw t.is (subst (λ j. Contains (t.w / 2 ∷ []) j) half (contains_one (t.w / 2))))

  -- its address is noted by the mutator that made it
  pub weak_then : (w : World) (before : List Row) (row : Row) (after : List Row) (h : Hand) (own : List OwnRow) → row.mutator ≡ m →
      IsLegal w (before ++ row ∷ after) → Along P m w h own (before ++ row ∷ after) → MadeWeak (replayed w before) row.mutator row.command p.name →
      Contains (all_weaks own) p.at
  weak_then w [] row after h own is legal (inl other) made = absurd (other.0 is)
  weak_then w [] row after h own is legal (inr mine) made =
      let r : OwnRow = mine.0 in
      rw mine.2 (Contains-append_left (weaks_by r.command r.answer) (all_weaks mine.1) p.at (weak_put w row h r legal.0 mine.3 made))
  weak_then w (first ∷ before) row after h own is legal (inl other) made =
      weak_then (step w first.mutator first.command).0 before row after h own is legal.1 other.1 made
  weak_then w (first ∷ before) row after h own is legal (inr mine) made =
      let r : OwnRow = mine.0 in
      rw mine.2 (Contains-append_right (weaks_by r.command r.answer) (all_weaks mine.1) p.at
      (weak_then (step w first.mutator first.command).0 before row after (leaves h r.command r.answer) mine.1 is legal.1 mine.4 made))

-- a row that notes an address made a weak pointer
record IsNoting (c : Command) (a : Answer) (at : ℕ) : Type 0 where
  weak : IsWeak c
  w : ℕ
  is : a ≡ word w
  half : w / 2 ≡ at

noting : (c : Command) (a : Answer) (at : ℕ) → Contains (weaks_by c a) at → IsNoting c a at
noting (command.Weak dest key v finaliser) (word w) at c = record {
  weak = record {
    dest = dest;
    key = key;
    v = v;
    finaliser = finaliser;
    is = refl;
  };
  w = w;
  is = refl;
  half = one_is (w / 2) at c;
}
noting (command.Weak dest key v finaliser) (plain x) at c = absurd (nothing_in at c)
noting _ a at c = absurd (nothing_in at c)

-- the object of the next name, once it is made
born_there : (w : World) (m register : ℕ) (made : Node) → m < length w.mutators → m ≢ SHARED_MAKER →
    node_of (born w m register made).0 (next_name (state_of w m) m) ≡ Some made
born_there w m register made lt own = node_same w m (with_new (state_of w m) m register made) lt own (next_name (state_of w m) m) refl ∙
    last_there (state_of w m).nodes made

weak_there : (w : World) (k : ℕ) (c : Command) → k < length w.mutators → k ≢ SHARED_MAKER → IsWeak c → (parts : Option Parts) ×
    (node_of (step w k c).0 (next_name (state_of w k) k) ≡ Some (Weak parts))
weak_there w k c lt own weak = rw weak.is (_, born_there w k weak.dest _ lt own)

weak_kind : (n : Node) → kind_of n ≡ kind.Weak → (parts : Option Parts) × (n ≡ Weak parts)
weak_kind (Con tag values) e = absurd cc
weak_kind (Var v) e = absurd cc
weak_kind (Arr values) e = absurd cc
weak_kind (Thunk free result) e = absurd cc
weak_kind (Weak parts) e = (parts, refl)
weak_kind (Stack size values) e = absurd cc

module _ (P : Place → Type 0) (began : World) where
  -- the address of a weak pointer that wasn't there as the round began
  pub record IsNewWeak (v : World) (at : ℕ) : Type 0 where
    pub name : Name
    pub parts : Option Parts
    pub there : P (record { at = at; name = name })
    pub node_is : node_of v name ≡ Some (Weak parts)
    pub new : node_of began name ≡ None

  unborn : (w : World) (name : Name) → IsSince began w → node_of w name ≡ None → node_of began name ≡ None
  unborn w name since none = by_node (node_of began name) refl
    where
      by_node : (o : Option Node) → node_of began name ≡ o → o ≡ None
      by_node None e = refl
      by_node (Some n) e = absurd (absent (node_of w name) none (since.names name (some_of (node_of began name) n e)))

  module _ (m : ℕ) where
    noted_here : (w : World) (row : Row) (rows : List Row) (h : Hand) (r : OwnRow) → IsSince began w → IsWorld w → CanReplay w (row ∷ rows) →
        (step w row.mutator row.command).1 ≡ row.reply → IsOwn P m w h r row → (at : ℕ) → Contains (weaks_by r.command r.answer) at →
        IsNewWeak (replayed w (row ∷ rows)) at
    noted_here w row rows h r since is can gives own at c =
        let k = row.mutator in
        let lt = can.0.mutator in
        let mine : k ≢ SHARED_MAKER = not_shared w k is lt in
        let next : Name = next_name (state_of w k) k in
        let n : IsNoting r.command r.answer at = noting r.command r.answer at c in
        let weak : IsWeak row.command = subst IsWeak own.command n.weak in
        let t : IsNamed P r.answer next = named P r.answer next row.reply (gave_name w k row.command row.reply gives weak) own.answers own.plain in
        let same : word t.w ≡ word n.w = sym t.is ∙ n.is in
        let words : t.w ≡ n.w = cc in
        let at_is : t.at ≡ at = let e = t.word_is in let h = n.half in omega arith in
        let made = weak_there w k row.command lt mine weak in
        let later = rows_keep_shapes (step w k row.command).0 rows (step_keeps_world w k row.command is can.0) can.1 next (Weak made.0) made.1 in
        let last = weak_kind later.0 later.2.kind in
        record {
          name = next;
          parts = last.0;
          there = subst (λ j. P (record { at = j; name = next })) at_is t.there;
          node_is = later.1 ∙ ap (λ (x : Node). Some x) last.1;
          new = unborn w next since (next_is_new w k mine);
        }

    -- every address of a weak pointer that its rows noted is such an address
    pub weak_is : (w : World) (rows : List Row) (h : Hand) (own : List OwnRow) → IsSince began w → IsWorld w → CanReplay w rows → IsLegal w rows →
        Along P m w h own rows → (at : ℕ) → Contains (all_weaks own) at → IsNewWeak (replayed w rows) at
    weak_is w [] h own since is can legal along at c = absurd (nothing_in at (subst (λ (l : List OwnRow). Contains (all_weaks l) at) along c))
    weak_is w (row ∷ rows) h own since is can legal along at c =
        let v : World = (step w row.mutator row.command).0 in
        let next : IsWorld v = step_keeps_world w row.mutator row.command is can.0 in
        let later : IsSince began v = since_step began w row.mutator row.command is can.0 since in
        elim along [
          | inl other ↦ weak_is v rows h own later next can.1 legal.1 other.1 at c
          | inr mine ↦
              let r : OwnRow = mine.0 in
              elim (Contains-append_cases (weaks_by r.command r.answer) (all_weaks mine.1) at (rw mine.2 at c)) [
                | inl a ↦ noted_here w row rows h r since is can legal.0 mine.3 at a
                | inr a ↦ weak_is v rows (leaves h r.command r.answer) mine.1 later next can.1 legal.1 mine.4 at a
              ]
        ]
