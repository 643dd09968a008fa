-- Commands add only new names to the tracked names, closings add none, and both leave headers.
use Rattle.std.specs.Prelude.{◌≡◌, ◌≢◌, ◌⊎◌}
use Rattle.nmgc_heap_spec.specs.laws.Vocabulary.{inl, inr, ℕ, List, refl, sym, ap, subst, ◌∙◌, Option, Some, Contains, IsSome, SHARED_MAKER, Name, Node, Con, Var, Arr, Thunk, Weak, Stack, Command, World, node_of, state_of, IsWorld, IsNodeOf, changed, CanApply, next_name, with_new, born, step, closed, start, field, RefersTo, step_grows, contains_head, contains_tail, at_some, is_some_of, last_item, name_cases, not_shared, Header, IsWide, HoldsOnly, kind_of, tag_of, part_count, SameShape, KeepsShapes, Object, Any, stepped, hand_nodes, still_there, node_born, node_same, node_cases, next_is_new, absent, some_of, step_holds_only, wide_is_held, from_there, closed_holds, wide_known, world_holds, closed_names, step_keeps_shapes, closing_keeps_shapes, step_keeps_world, header_of, IsTracked, IsEarlier, NodeStep, none, change, birth, StepIsOne, StepChangesField, TrackedAreKnown, StepTracks, StepTracksNoMore, ClosingTracks, StepLeavesHeap, WorldIsEarlier, StepKeepsEarlier, ClosingKeepsEarlier, StepKeepsHeaders, ClosingKeepsHeaders}
use Rattle.nmgc_heap_spec.specs.laws.{Tracking.tracked_in, NodeChanges.changed_one}

-- the world holds tracked names alone, and tracked names have each property of all held names
pub tracked_holds : (w : World) (earlier : List World) → HoldsOnly (IsTracked w earlier) w
tracked_holds w earlier = record {
  roots = λ n root. start n (w, contains_head w earlier, start n (inl root));
  fields = λ n target t refers. field n target t refers;
  weaks = λ weak n parts alive of. start n (w, contains_head w earlier, start n (inr (weak, parts, alive, of)));
}

pub held_tracked : (v : World) (earlier : List World) (P : Name → Type 0) → ((e : World) (n : Name) → Contains earlier e → IsWide e n → P n) →
    HoldsOnly P v → (name : Name) → IsTracked v earlier name → P name
held_tracked v earlier P past h name t = tracked_in v earlier P (λ n root. wide_is_held P v h n (start n root)) past h.fields name t

-- the reach of earlier worlds is tracked, whatever the world
pub past_tracked : (w : World) (earlier : List World) (e : World) (n : Name) → Contains earlier e → IsWide e n → IsTracked w earlier n
past_tracked w earlier e n c i = start n (e, contains_tail w earlier e c, i)

pub tracked_are_known : TrackedAreKnown
tracked_are_known w earlier world past name t = held_tracked w earlier (λ n. IsSome (node_of w n)) (λ e n c i.
    (past e c).names n (wide_known e (past e c).world n i)) (world_holds w world) name t

pub step_tracks : StepTracks
step_tracks w m c earlier world can name t = held_tracked (step w m c).0 earlier P (λ e n d i.
    inl (past_tracked w earlier e n d i)) (step_holds_only P w m c world can (inr refl) begun) name t
  where
    P : Name → Type 0
    P n = IsTracked w earlier n ⊎ (n ≡ next_name (state_of w m) m)

    none_next : (target : Name) → RefersTo w (next_name (state_of w m) m) target → ⊥
    none_next target r = absent (node_of w (next_name (state_of w m) m)) (next_is_new w m (not_shared w m world can.mutator))
        (from_there w (next_name (state_of w m) m) target r)

    begun : HoldsOnly (λ n. IsTracked w earlier n ⊎ (n ≡ next_name (state_of w m) m)) w
    begun =
        let h = tracked_holds w earlier in record {
          roots = λ n root. inl (h.roots n root);
          fields = λ from n p refers. elim p [
            | inl reached ↦ inl (h.fields from n reached refers)
            | inr e ↦ absurd (none_next n (subst (λ (k : Name). RefersTo w k n) e refers))
          ];
          weaks = λ weak n parts alive of. inl (h.weaks weak n parts alive of);
        }

pub closing_tracks : ClosingTracks
closing_tracks w weaks earlier world name t = held_tracked (closed w weaks) earlier (IsTracked w earlier) (λ e n c i.
    past_tracked w earlier e n c i) (closed_holds (IsTracked w earlier) w weaks world (tracked_holds w earlier)) name t

-- objects of one shape have one header
header_shape : (node : Node) → header_of node ≡ record { kind = kind_of node; tag = tag_of node; fields = part_count node }
header_shape (Con tag values) = refl
header_shape (Var v) = refl
header_shape (Arr values) = refl
header_shape (Thunk free result) = refl
header_shape (Weak parts) = refl
header_shape (Stack size values) = refl

pub same_header : (a b : Node) → SameShape a b → header_of b ≡ header_of a
same_header a b s =
    let kinds = s.kind in
    let tags = s.tag in
    let counts = s.parts in
    let mid : ◌≡◌ {A = Header} (record { kind = kind_of b; tag = tag_of b; fields = part_count b }) (record {
      kind = kind_of a;
      tag = tag_of a;
      fields = part_count a;
    }) = λ i. record { kind = kinds i; tag = tags i; fields = counts i } in
    header_shape b ∙ mid ∙ sym (header_shape a)

-- headers stay if shapes stay
pub still_header : (w v : World) → KeepsShapes w v → (name : Name) (before now : Node) → IsSome (node_of w name) →
    ((was : Node) → node_of w name ≡ Some was → header_of before ≡ header_of was) → node_of v name ≡ Some now → header_of before ≡ header_of now
still_header w v keeps name before now known same is =
    let was = is_some_of (node_of w name) known in
    let later = keeps name was.0 was.1 in
    let e : later.0 ≡ now = let z : Some later.0 ≡ Some now = sym later.1 ∙ is in cc in
    same was.0 was.1 ∙ sym (same_header was.0 later.0 later.2) ∙ ap header_of e

pub still_earlier : (e w v : World) → KeepsShapes w v → ((name : Name) → IsSome (node_of w name) → IsSome (node_of v name)) → IsEarlier e w → IsEarlier e v
still_earlier e w v keeps names h = record {
  world = h.world;
  names = λ name known. names name (h.names name known);
  headers = λ name before now was is. still_header w v keeps name before now (h.names name (some_of (node_of e name) before was)) (λ x there.
      h.headers name before x was there) is;
}

pub world_is_earlier : WorldIsEarlier
world_is_earlier w world = record {
  world = world;
  names = λ name known. known;
  headers = λ name before now was is. let z : Some before ≡ Some now = sym was ∙ is in let e : before ≡ now = cc in ap header_of e;
}

pub step_keeps_earlier : StepKeepsEarlier
step_keeps_earlier e w m c world can h = still_earlier e w (step w m c).0 (step_keeps_shapes w m c world can) (step_grows w m c can.mutator).names h

pub closing_keeps_earlier : ClosingKeepsEarlier
closing_keeps_earlier e w weaks world h = still_earlier e w (closed w weaks) (closing_keeps_shapes w weaks world) (closed_names w weaks world) h

pub step_keeps_headers : (K : Name → Node → Type 0) → StepKeepsHeaders K
step_keeps_headers K w m c world can known heads name before now k is =
    still_header w (step w m c).0 (step_keeps_shapes w m c world can) name before now (known name before k) (λ was there. heads name before was k there) is

pub closing_keeps_headers : (K : Name → Node → Type 0) → ClosingKeepsHeaders K
closing_keeps_headers K w weaks world known heads name before now k is =
    still_header w (closed w weaks) (closing_keeps_shapes w weaks world) name before now (known name before k) (λ was there. heads name before was k there) is

-- a command that makes no object
pub step_tracks_no_more : StepTracksNoMore
step_tracks_no_more w m c earlier world past can no_birth name t = elim (step_tracks w m c earlier world can name t) [
  | inl u ↦ u
  | inr e ↦
      let known : IsSome (node_of (step w m c).0 name) = tracked_are_known (step w m c).0 earlier (step_keeps_world w m c world can) (λ x d.
      step_keeps_earlier x w m c world can (past x d)) name t in
      let there : IsSome (node_of w (next_name (state_of w m) m)) = subst (λ (n : Name). IsSome (node_of w n)) e (no_birth name known) in
      absurd (absent (node_of w (next_name (state_of w m) m)) (next_is_new w m (not_shared w m world can.mutator)) there)
]

pub step_leaves_heap : StepLeavesHeap
step_leaves_heap w m c earlier places world past can same = record {
  nodes = λ p d. same p.name;
  tracked = λ name node t is. (
    step_tracks_no_more w m c earlier world past can (λ n known. subst (λ (o : Option Node). IsSome o) (same n) known) name t,
    sym (same name) ∙ is,
  );
}

-- a command makes one change to the nodes
module _ (w : World) (m : ℕ) (c : Command) (world : IsWorld w) (can : CanApply w m c) where
  abbrev new : Name
  new = next_name (state_of w m) m

  abbrev v : World
  v = (step w m c).0

  own : m ≢ SHARED_MAKER
  own = not_shared w m world can.mutator

  after_hand : (u : World) → ((name : Name) → node_of v name ≡ node_of u name) → Object Any w m c u → NodeStep w v new
  after_hand u same (Object.same e) = none (λ name. same name ∙ ap (λ (x : World). node_of x name) e)
  after_hand u same (Object.birth register made is e) =
      let bears : (name : Name) → ((name ≡ new) × (node_of v name ≡ Some made)) ⊎
      (node_of v name ≡ node_of w name) = λ name. elim (node_born w m register made can.mutator own name) [
        | inl b ↦ inl (b.0, same name ∙ ap (λ (x : World). node_of x name) e ∙ b.1)
        | inr b ↦ inr (same name ∙ ap (λ (x : World). node_of x name) e ∙ b)
      ] in
      birth made (next_is_new w m own)
      (same new ∙ ap (λ (x : World). node_of x new) e ∙ new_there register made)
      (λ other ne. elim (bears other) [ inl b ↦ absurd (ne b.0) | inr b ↦ b ])
    where
      new_there : (register : ℕ) (made : Node) → node_of (born w m register made).0 new ≡ Some made
      new_there register made =
          node_same w m (with_new (state_of w m) m register made) can.mutator own new refl ∙ last_item (state_of w m).nodes made
  after_hand u same (Object.write name found ch there asks q e) =
      let made : Node = (changed ch name.maker found).0 in
      let cases : (n : Name) → ((n ≡ name) × (node_of v n ≡ Some made)) ⊎
      ((n ≡ name → ⊥) × (node_of v n ≡ node_of w n)) = λ n. elim (node_cases w name found made there n) [
        | inl k ↦ inl (k.0, same n ∙ ap (λ (x : World). node_of x n) e ∙ k.1)
        | inr k ↦ inr (k.0, same n ∙ ap (λ (x : World). node_of x n) e ∙ k.1)
      ] in
      let mine : node_of v name ≡ Some made = elim (cases name) [ inl k ↦ k.1 | inr k ↦ absurd (k.0 refl) ] in
      let others : (n : Name) → n ≢ name → node_of v n ≡ node_of w n = λ n ne. elim (cases n) [ inl k ↦ absurd (ne k.0) | inr k ↦ k.1 ] in
      let of = at_some (node_of w name) found (IsNodeOf w) there (world.nodes name) in
      elim (changed_one ch name.maker found of.sized) [
        | inl is ↦ none (λ n. elim (cases n) [
          | inl k ↦ k.1 ∙ ap (λ (x : Node). Some x) is ∙ sym there ∙ ap (λ (x : Name). node_of w x) (sym k.0)
          | inr k ↦ k.1
        ])
        | inr h ↦ change name h.0 found made there mine others h.1
      ]

  pub node_step : NodeStep w v new
  node_step =
      let s = stepped w m c in
      after_hand s.between (hand_nodes Any s.between m v (still_there Any w m c v can.mutator s) s.hand) s.object

pub step_is_one : StepIsOne
step_is_one w m c world can = node_step w m c world can

pub step_changes_field : StepChangesField
step_changes_field w m c earlier places p i word node made world past can there tracked before after others at_one fills = record {
  there = there;
  is_tracked = tracked;
  before = before;
  after = after;
  others = others;
  at_one = at_one;
  field = fills;
  nothing_new = step_tracks_no_more w m c earlier world past can (λ name known. elim (name_cases name p.name) [
    | inl e ↦ subst (λ (n : Name). IsSome (node_of w n)) (sym e) (some_of (node_of w p.name) node before)
    | inr ne ↦ subst (λ (o : Option Node). IsSome o) (others name ne) known
  ]);
}
