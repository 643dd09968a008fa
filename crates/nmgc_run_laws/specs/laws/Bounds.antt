-- If the commands of a cycle's last round owed nothing, its found objects are exactly its steady objects.
use Rattle.std.specs.Prelude.{◌⊎◌, IfSome, IsSome, All, Contains}
use Rattle.std.proofs.Common.{◌≡◌, ◌≢◌, ◌++◌, ◌∷◌, ◌∙◌, ℕ, List, [], refl, sym, ap, subst, inl, inr, append-nil, append_assoc, Option, Some, None}
use Rattle.nmgc_run_laws.specs.laws.Vocabulary.{at_some, contains_head, contains_tail, is_some_of, some_of, Name, Node, World, IsWorld, node_of, state_of, shared_name, SHARED_MAKER, step, step_keeps_world, Row, replayed, RefersTo, CanReplay, Cycle, interval_of}
use Rattle.nmgc_lists.specs.laws.Items.{contains_flat, contains_one}
use Rattle.nmgc_world_spec.specs.{Reach.HoldsThroughout, Reach.name_in, Reach.owed_by, Reach.values_owed, Reach.HasStrongField, Reach.strong_fields, World.next_name, declared.value.Value.Value, laws.Orders.name_cases}
use Rattle.nmgc_world_spec.specs.declared.value.Value.TheVariants as value
use Rattle.nmgc_world_laws.specs.{Holds.CoversReach, Holds.Fields, Holds.Names, Reachable.IsSound, laws.Barrier.field_at_place, laws.Barrier.place_of_field, laws.NodeLaws.next_is_new, laws.WeakMoves.all_moves, laws.WeakMoves.opened_owed, laws.Worlds.not_shared}
use Rattle.std.proofs.lemmas.List.Elements.{All-cons, All-contains, All-nil, Contains-append_left, Contains-append_right}
use Rattle.nmgc_run_spec.specs.Run.{HoldsOnce, IsMet, owed}
use Rattle.nmgc_run_laws.specs.Statements.{FoundIsSteady}

owed_both : (w : World) (a b : List Row) → owed w (a ++ b) ≡ owed w a ++ owed (replayed w a) b
owed_both w [] b = refl
owed_both w (row ∷ a) b =
    let next : World = (step w row.mutator row.command).0 in
    let mine : List Name = owed_by w row.mutator row.command in
    ap (λ (l : List Name). mine ++ l) (owed_both next a b) ∙ sym (append_assoc mine (owed next a) (owed (replayed next a) b))

all_those : (P : Name → Type 0) (values : List Value) → ((n : Name) → Contains values (value.Ref n) → P n) → All (Names P) values
all_those P [] h = All-nil (Names P)
all_those P (v ∷ values) h = All-cons (Names P) v values (by_value v (λ n is. h n (subst (λ (x : Value). Contains (v ∷
    values) x) is (contains_head v values)))) (all_those P values (λ n k. h n (contains_tail v values (value.Ref n) k)))
  where
    by_value : (x : Value) → ((n : Name) → x ≡ value.Ref n → P n) → Names P x
    by_value value.Nil k = tt
    by_value (value.Number n) k = tt
    by_value (value.Ref n) k = k n refl

-- a field stays in all worlds of some rows, or is owed
abbrev All' : Name → Type 0
All' n = Unit {0}

all_covered : (w : World) → CoversReach All' w
all_covered w = record {
  registers = λ k. all_those All' (state_of w k).registers (λ n d. tt);
  queues = λ k. all_those All' (state_of w k).queue (λ n d. tt);
  fields = λ name k. by_node (node_of w name);
}
  where
    by_node : (o : Option Node) → IfSome o (Fields (Names All'))
    by_node None = tt
    by_node (Some node) = all_those All' (strong_fields node) (λ n d. tt)

keeps : (w : World) (more : List Row) → IsWorld w → CanReplay w more → (name target : Name) (i : ℕ) → HasStrongField w name i (value.Ref target) →
    HoldsThroughout (λ v. HasStrongField v name i (value.Ref target)) w more ⊎ Contains (owed w more) target
keeps w [] is can name target i st = inl st
keeps w (row ∷ more) is can name target i st =
    let next : World = (step w row.mutator row.command).0 in
    let mine : List Name = owed_by w row.mutator row.command in
    let moves = all_moves All' w row.mutator row.command can.0.mutator (not_shared w row.mutator is can.0.mutator) tt tt (λ n o. tt) (all_covered w) in
    elim (moves.stays name i (value.Ref target) st) [
      | inl now ↦ elim (keeps next more (step_keeps_world w row.mutator row.command is can.0) can.1 name target i now) [
        | inl all ↦ inl (st, all)
        | inr later ↦ inr (Contains-append_right mine (owed next more) target later)
      ]
      | inr gone ↦ inr (Contains-append_left mine (owed next more) target
          (contains_flat name_in (values_owed w row.mutator row.command) (value.Ref target) target gone (contains_one target)))
    ]

once : (P : World → Type 0) (w : World) (rows : List Row) → HoldsThroughout P w rows → HoldsOnce P w rows
once P w [] h = h
once P w (row ∷ rows) h = inl h.0

module _ (c : Cycle) (last : List Row) (sound : IsSound (interval_of c)) (rows : c.rows ≡ c.earlier ++ last)
    (none : owed (replayed c.snapshot c.earlier) last ≡ []) where
  -- a name that is steady, if it is in the snapshot
  abbrev Stays : Name → Type 0
  Stays n = IsSome (node_of c.snapshot n) → IsMet HoldsThroughout c n

  handed : (n : Name) → Contains (owed c.snapshot c.rows) n → Stays n
  handed n k there = IsMet.handed n (subst (λ (l : List Name). Contains l n) (ap (λ (l : List Row). owed c.snapshot l) rows
      ∙ owed_both c.snapshot c.earlier last ∙ ap (λ (l : List Name). owed c.snapshot c.earlier ++ l) none ∙ append-nil (owed c.snapshot c.earlier)) k) there

  record Comes (w : World) (more : List Row) : Type 0 where
    world : IsWorld w
    can : CanReplay w more
    there : (n : Name) → IsSome (node_of c.snapshot n) → IsSome (node_of w n)
    covers : CoversReach Stays w
    owes : (n : Name) → Contains (owed w more) n → Stays n

  field_stays : (name target : Name) → IsMet HoldsThroughout c name → (node : Node) → node_of c.snapshot name ≡ Some node →
      Contains (strong_fields node) (value.Ref target) → Stays target
  field_stays name target met node e d there = elim (name_cases name shared_name) [
    | inl g ↦ IsMet.slot target (subst (λ (n : Name). RefersTo c.snapshot n target) g (node, e, d))
    | inr other ↦
        let p = place_of_field node (value.Ref target) d in
        elim (keeps c.snapshot c.rows sound.world sound.rows name target p.0 (record { node = node; node_is = e; field = p.1 })) [
          | inl all ↦ IsMet.field name target p.0 met other all there
          | inr owes ↦ handed target owes there
        ]
  ]

  first : Comes c.snapshot c.rows
  first = record {
    world = sound.world;
    can = sound.rows;
    there = λ n t. t;
    covers = record {
      registers = λ k. all_those Stays (state_of c.snapshot k).registers (λ n d there. IsMet.root n (inr (k, Contains-append_left (state_of c.snapshot k).registers (state_of c.snapshot k).queue (value.Ref n) d)));
      queues = λ k. all_those Stays (state_of c.snapshot k).queue (λ n d there. IsMet.root n (inr (k, Contains-append_right (state_of c.snapshot k).registers (state_of c.snapshot k).queue (value.Ref n) d)));
      fields = λ name k. by_node name k (node_of c.snapshot name) refl;
    };
    owes = handed;
  }
    where
      by_node : (name : Name) → Stays name → (o : Option Node) → node_of c.snapshot name ≡ o → IfSome o (Fields (Names Stays))
      by_node name k None e = tt
      by_node name k (Some node) e = all_those Stays (strong_fields node) (λ target d.
          field_stays name target (k (some_of (node_of c.snapshot name) node e)) node e d)

  then : (w : World) (row : Row) (more : List Row) → Comes w (row ∷ more) → Comes (step w row.mutator row.command).0 more
  then w row more h =
      let m : ℕ = row.mutator in
      let next : World = (step w m row.command).0 in
      let mine : List Name = owed_by w m row.command in
      let own : m ≢ SHARED_MAKER = not_shared w m h.world h.can.0.mutator in
      let fresh : Stays (next_name (state_of w m) m) = λ t. let b = is_some_of (node_of w (next_name (state_of w m) m)) (h.there (next_name (state_of w m) m) t) in
      absurd (let both : None ≡ Some b.0 = sym (next_is_new w m own) ∙ b.1 in cc) in
      let moves = all_moves Stays w m row.command h.can.0.mutator own (λ t. IsMet.root shared_name (inl refl)) fresh
      (λ n o. h.owes n (Contains-append_left mine (owed next more) n (opened_owed w m row.command n o))) h.covers in
      record {
        world = step_keeps_world w m row.command h.world h.can.0;
        can = h.can.1;
        there = λ n t. let b = is_some_of (node_of w n) (h.there n t) in let l = moves.later n b.0 b.1 in some_of (node_of next n) l.node l.node_is;
        covers = moves.holds;
        owes = λ n d. h.owes n (Contains-append_right mine (owed next more) n d);
      }

  here : (w : World) → CoversReach Stays w → (name target : Name) (i : ℕ) → Stays name → HasStrongField w name i (value.Ref target) → Stays target
  here w covers name target i k st = All-contains (Names Stays) (strong_fields st.node) (value.Ref target)
      (at_some (node_of w name) st.node (Fields (Names Stays)) st.node_is (covers.fields name k)) (field_at_place st.node i (value.Ref target) st.field)

  found : (w : World) (more : List Row) → Comes w more → (name target : Name) (i : ℕ) → Stays name →
      HoldsOnce (λ v. HasStrongField v name i (value.Ref target)) w more → Stays target
  found w [] h name target i k st = here w h.covers name target i k st
  found w (row ∷ more) h name target i k (inl st) = here w h.covers name target i k st
  found w (row ∷ more) h name target i k (inr later) = found (step w row.mutator row.command).0 more (then w row more h) name target i k later

  steady : (n : Name) → IsMet HoldsOnce c n → IsMet HoldsThroughout c n
  steady n (IsMet.root _ r) = IsMet.root n r
  steady n (IsMet.slot _ r) = IsMet.slot n r
  steady n (IsMet.handed _ k there) = IsMet.handed n k there
  steady n (IsMet.field from _ i met other o there) = found c.snapshot c.rows first from n i (λ t. steady from met) o there

  found_too : (n : Name) → IsMet HoldsThroughout c n → IsMet HoldsOnce c n
  found_too n (IsMet.root _ r) = IsMet.root n r
  found_too n (IsMet.slot _ r) = IsMet.slot n r
  found_too n (IsMet.handed _ k there) = IsMet.handed n k there
  found_too n (IsMet.field from _ i met other all there) =
      IsMet.field from n i (found_too from met) other (once (λ (v : World). HasStrongField v from i (value.Ref n)) c.snapshot c.rows all) there

pub found_is_steady : FoundIsSteady
found_is_steady c last sound rows none name = (
  λ h. (steady c last sound rows none name h.0, h.1),
  λ h. (found_too c last sound rows none name h.0, h.1),
)
