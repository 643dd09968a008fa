-- An image that shows a world within the limits is an image.
use Rattle.nmgc_image.proofs.Vocabulary.{ℕ, ◌≡◌, ◌≢◌, ◌<◌, ◌≤◌, ◌⊎◌, List, [], ◌∷◌, ◌++◌, length, map, get_or, arith, refl, sym, ap, subst, ◌∙◌, Some, None, inl, inr, eqb, false, Contains, All, IsSome, slice_get, get_or-eq_default, cases_eq, cases_lt, ne_eqb, slice_get_within, slice_get-get_or, none-some, same_Some, All-contains, Contains-append_left, Contains-append_right, Contains-append_cases, Contains-get_or, SHARED_MAKER, Name, Value, Parts, Node, Con, Var, Arr, Thunk, Weak, Stack, MutatorState, shared_name, World, IsWorld, IsShared, IsSized, IsNodeOf, IsKnown, AreKnown, node_of, state_of, no_mutator, held_by, field, IsAlive, strong_fields, contains_cases, at_some, is_some_of, contains_at, place_of, nothing_in, flat_contains, item_map, name_cases, IsSmall, IsWithin, IsNodeWithin, IsWide, IsOfWeak, IsName, map_item, IsValue, Held, ImageMutator, Entry, Image, IsHeld, IsMutator, IsNode, IsMade, IsOwned, IsEntry, IsImage, names_of, values_of, values_in, most_object_words, ShownIsImage, Shows, ShowsMutator, shown}
use Rattle.std.specs.Prelude.{flat_map}
use Rattle.nmgc_world_spec.specs.Reach.{start}
use Rattle.nmgc_world_spec.specs.declared.value.Value.TheVariants as value

-- a property of each contained item holds of every item of a list
pub all_items : {A : Type 0} (P : A → Type 0) (xs : List A) → ((x : A) → Contains xs x → P x) → All P xs
all_items P xs f k d lt = f (get_or xs k d) (Contains-get_or xs k d lt)

-- the owner of a world's name: its maker, or the name is g's
pub name_place : (w : World) (n : Name) (node : Node) → node_of w n ≡ Some node → ((n ≡ shared_name) × (node ≡ w.shared)) ⊎
    ((n.maker ≢ SHARED_MAKER) × (n.maker < length w.mutators) × (slice_get (state_of w n.maker).nodes n.serial ≡ Some node))
name_place w n node e = elim (cases_eq n.maker SHARED_MAKER) [
  | inl is ↦ elim (cases_eq n.serial 0) [
    | inl z ↦ elim (name_cases n shared_name) [
      | inl same ↦
          let f : Some w.shared ≡ Some node = sym (rw (is, z) refl) ∙ e in
          inl (same, sym (same_Some w.shared node f))
      | inr ne ↦ absurd (ne (ap (λ (k : ℕ). let x : Name = record { maker = k; serial = n.serial } in x) is ∙
          ap (λ (k : ℕ). let x : Name = record { maker = SHARED_MAKER; serial = k } in x) z))
    ]
    | inr z ↦ let f : node_of w n ≡ None = rw (is, ne_eqb n.serial 0 z) refl in absurd (none-some node (sym f ∙ e))
  ]
  | inr ne ↦
      let b : eqb n.maker SHARED_MAKER ≡ false = ne_eqb n.maker SHARED_MAKER ne in
      let f : slice_get (state_of w n.maker).nodes n.serial ≡ Some node = rw b at e in
      let serial = slice_get_within (state_of w n.maker).nodes n.serial node f in
      let maker : n.maker < length w.mutators = elim (cases_lt n.maker (length w.mutators)) [
        | inl lt ↦ lt
        | inr ge ↦
            let past = get_or-eq_default w.mutators no_mutator {n = n.maker} ge in
            let none : length (state_of w n.maker).nodes ≡ 0 = ap (λ (m : MutatorState). length m.nodes) past in
            absurd (omega (arith, none, serial))
      ] in
      inr (ne, maker, f)
]

-- a name of a world is a valid name
pub name_valid : (w : World) → IsWorld w → (n : Name) → IsSome (node_of w n) → IsName n
name_valid w world n there =
    let node = is_some_of (node_of w n) there in
    elim (name_place w n node.0 node.1) [
      | inl (same, e) ↦ subst IsName (sym same) (omega arith, omega arith, λ m. refl)
      | inr (ne, maker, f) ↦
          let few = world.few in
          let serial = slice_get_within (state_of w n.maker).nodes n.serial node.0 f in
          let total = world.serials n.maker in
          (omega (arith, maker, few), omega (arith, serial, total), λ m. absurd (ne m))
    ]

-- a small value of a world has a text
pub value_valid : (w : World) → IsWorld w → (v : Value) → IsSmall v → IsKnown w v → IsValue v
value_valid w world value.Nil small known = tt
value_valid w world (value.Number n) small known = small
value_valid w world (value.Ref name) small known = name_valid w world name known

-- a value that a shown node holds is a value of the node
pub shown_held : (node : Node) (v : Value) → Contains (held_by (shown node)) v → Contains (held_by node) v
shown_held (Con tag values) v c = c
shown_held (Var x) v c = c
shown_held (Arr values) v c = c
shown_held (Thunk free None) v c = c
shown_held (Thunk free (Some result)) v c = Contains-append_left (result ∷ []) free v c
shown_held (Weak parts) v c = c
shown_held (Stack size values) v c = c

-- a value that a shown node holds is a strong field, or a part of an alive weak pointer
pub shown_strong : (node : Node) (v : Value) → Contains (held_by (shown node)) v → Contains (strong_fields node) v ⊎
    ((parts : Parts) × (node ≡ Weak (Some parts)) × Contains (parts.key ∷ parts.value ∷ parts.finaliser ∷ []) v)
shown_strong (Con tag values) v c = inl c
shown_strong (Var x) v c = inl c
shown_strong (Arr values) v c = inl c
shown_strong (Thunk free None) v c = inl c
shown_strong (Thunk free (Some result)) v c = inl c
shown_strong (Weak None) v c = absurd (nothing_in v c)
shown_strong (Weak (Some parts)) v c = inr (parts, refl, c)
shown_strong (Stack size values) v c = inl c

-- a strong field is held by the shown node
pub strong_shown : (node : Node) (v : Value) → Contains (strong_fields node) v → Contains (held_by (shown node)) v
strong_shown (Con tag values) v c = c
strong_shown (Var x) v c = c
strong_shown (Arr values) v c = c
strong_shown (Thunk free None) v c = c
strong_shown (Thunk free (Some result)) v c = c
strong_shown (Weak parts) v c = absurd (nothing_in v c)
strong_shown (Stack size values) v c = c

-- a reference in a shown node of the wide reach is to the wide reach
pub wide_field : (w : World) (n target : Name) (node : Node) → IsWide w n → node_of w n ≡ Some node →
    Contains (held_by (shown node)) (value.Ref target) → IsWide w target
wide_field w n target node wide is c = elim (shown_strong node (value.Ref target) c) [
  | inl strong ↦ field n target wide (node, is, strong)
  | inr (parts, e, held) ↦
      let alive : IsAlive w n parts = is ∙ ap Some e in
      let of : IsOfWeak n parts target = elim (contains_cases parts.key (parts.value ∷ parts.finaliser ∷ []) (value.Ref target) held) [
        | inl a ↦ inr (inl a)
        | inr d ↦ elim (contains_cases parts.value (parts.finaliser ∷ []) (value.Ref target) d) [
          | inl a ↦ inr (inr (inl a))
          | inr f ↦ elim (contains_cases parts.finaliser [] (value.Ref target) f) [
            | inl a ↦ inr (inr (inr a))
            | inr g ↦
                absurd (nothing_in (value.Ref target) g)
          ]
        ]
      ] in
      start target (inr (n, parts, alive, of))
]

-- a node within the limits, as it is shown, is allowed in an image
shown_node : (words : ℕ) (name : Name) (node : Node) → words ≤ most_object_words → name ≢ shared_name → IsNodeWithin words name node →
    IsSized node → IsNode (shown node)
shown_node words name (Con tag values) few other h sized = let s = h.size other in (h.shape, omega (arith, s, few))
shown_node words name (Var x) few other h sized = tt
shown_node words name (Arr values) few other h sized = let s = h.size other in omega (arith, s, few)
shown_node words name (Thunk free None) few other h sized = let s = h.shape in omega (arith, s)
shown_node words name (Thunk free (Some result)) few other h sized = refl
shown_node words name (Weak parts) few other h sized = tt
shown_node words name (Stack size values) few other h sized = let s = h.size other in (omega (arith, s, few), sized)

module _ (words : ℕ) (w : World) (image : Image) (few : words ≤ most_object_words) (world : IsWorld w) (within : IsWithin words w) (shows : Shows w image) where
  small_known : (values : List Value) → All IsSmall values → AreKnown w values → (v : Value) → Contains values v → IsValue v
  small_known values small known v c = value_valid w world v (All-contains IsSmall values v small c) (All-contains (IsKnown w) values v known c)

  -- a mutator of the image is a mutator of the world
  mutator_at : (own : ImageMutator) → Contains image.mutators own → (m : ℕ) × (m < length w.mutators) × ShowsMutator w m own
  mutator_at own c =
      let p = place_of image.mutators own c in
      let lt = slice_get_within image.mutators p.0 own p.1 in
      let n = shows.count in
      (p.0, omega (arith, lt, n), shows.mutators p.0 own p.1)

  held_valid : (own : ImageMutator) (m : ℕ) → m < length w.mutators → ShowsMutator w m own → (h : Held) → Contains own.registers h → IsHeld h
  held_valid own m lt s h c =
      let there = s.registers.sound h c in
      let in' = slice_get_within (state_of w m).registers h.register h.value there.0 in
      let n = world.registers m lt in
      record {
        register = omega (arith, in', n);
        some = there.1;
        valid = small_known (state_of w m).registers (within.registers m) (world.known_registers m) h.value
            (contains_at (state_of w m).registers h.register h.value there.0);
      }

  is_mutator : (own : ImageMutator) → Contains image.mutators own → IsMutator own
  is_mutator own c =
      let at = mutator_at own c in
      let s = at.2 in
      let total = world.serials at.0 in
      let serial = s.serial in
      record {
        serial = omega (arith, serial, total);
        ordered = s.registers.ordered;
        registers = all_items IsHeld own.registers (held_valid own at.0 at.1 s);
        queue = subst (All IsValue) (sym s.queue) (all_items IsValue (state_of w at.0).queue
            (small_known (state_of w at.0).queue (within.queues at.0) (world.known_queue at.0)));
      }

  -- an object of the image, with its node in the world
  entry_at : (entry : Entry) → Contains image.nodes entry → (is : Node) × (node_of w entry.name ≡ Some is) × (entry.node ≡ shown is)
  entry_at entry c = shows.nodes entry.name entry.node c

  entry_name : (entry : Entry) → Contains image.nodes entry → Contains (names_of image.nodes) entry.name
  entry_name entry c = let p = place_of image.nodes entry c in
      contains_at (names_of image.nodes) p.0 entry.name (item_map (λ (e : Entry). e.name) image.nodes p.0 entry p.1)

  entry_wide : (entry : Entry) → Contains image.nodes entry → IsWide w entry.name
  entry_wide entry c = shows.names.sound entry.name (entry_name entry c)

  shared_shown : (node : Node) → IsShared node → IsShared (shown node)
  shared_shown (Con tag values) h = absurd h
  shared_shown (Var x) h = absurd h
  shared_shown (Arr values) h = h
  shared_shown (Thunk free result) h = absurd h
  shared_shown (Weak parts) h = absurd h
  shared_shown (Stack size values) h = absurd h

  shared_node : (node : Node) → IsShared node → IsNode (shown node)
  shared_node (Con tag values) h = absurd h
  shared_node (Var x) h = absurd h
  shared_node (Arr values) h = omega (arith, h)
  shared_node (Thunk free result) h = absurd h
  shared_node (Weak parts) h = absurd h
  shared_node (Stack size values) h = absurd h

  made_by : (n : Name) (node : Node) → n.maker < length w.mutators → slice_get (state_of w n.maker).nodes n.serial ≡ Some node → IsMade image.mutators n
  made_by n node lt f =
      let count = shows.count in
      let within : n.maker < length image.mutators = omega (arith, lt, count) in
      let none : ImageMutator = record { serial = 0; registers = []; queue = [] } in
      let own = get_or image.mutators n.maker none in
      let at : slice_get image.mutators n.maker ≡ Some own = slice_get-get_or image.mutators n.maker none within in
      let serial = (shows.mutators n.maker own at).serial in
      let below = slice_get_within (state_of w n.maker).nodes n.serial node f in
      (own, at, omega (arith, serial, below))

  is_entry : (entry : Entry) → Contains image.nodes entry → IsEntry image.mutators entry
  is_entry entry c =
      let at = entry_at entry c in
      let known = at_some (node_of w entry.name) at.0 (IsNodeOf w) at.1 (world.nodes entry.name) in
      let fits = at_some (node_of w entry.name) at.0 (IsNodeWithin words entry.name) at.1 (within.nodes entry.name) in
      let values : All IsValue (held_by (shown at.0)) = all_items IsValue (held_by (shown at.0)) (λ v k.
      small_known (held_by at.0) fits.held known.known v (shown_held at.0 v k)) in
      let two : IsOwned image.mutators entry × IsNode entry.node = elim (name_place w entry.name at.0 at.1) [
        | inl (same, e) ↦
            let is : IsShared at.0 = subst IsShared (sym e) world.shared in
            (inl (same, subst IsShared (sym at.2) (shared_shown at.0 is)), subst IsNode (sym at.2) (shared_node at.0 is))
        | inr (ne, lt, f) ↦
            let other : entry.name ≢ shared_name = λ s. ne (ap (λ (n : Name). n.maker) s) in
            (inr (other, made_by entry.name at.0 lt f), subst IsNode (sym at.2) (shown_node words entry.name at.0 few other fits known.sized))
      ] in
      record { owned = two.0; node = two.1; values = subst (λ (n : Node). All IsValue (held_by n)) (sym at.2) values }

  -- a value of the image refers to a name of the wide reach
  own_wide : (own : ImageMutator) (name : Name) → Contains image.mutators own → Contains (values_of own) (value.Ref name) → IsWide w name
  own_wide own name c held =
      let at = mutator_at own c in
      let s = at.2 in
      let root : Contains ((state_of w at.0).registers ++ (state_of w at.0).queue) (value.Ref name) =
      elim (Contains-append_cases (map (λ (h : Held). h.value) own.registers) own.queue (value.Ref name) held) [
        | inl r ↦
            let p = place_of (map (λ (h : Held). h.value) own.registers) (value.Ref name) r in
            let h = map_item (λ (h : Held). h.value) own.registers p.0 (value.Ref name) p.1 in
            let there = (s.registers.sound h.0 (contains_at own.registers p.0 h.0 h.1)).0 in
            Contains-append_left (state_of w at.0).registers (state_of w at.0).queue (value.Ref name) (rw h.2 (contains_at (state_of w at.0).registers h.0.register h.0.value there))
        | inr q ↦ Contains-append_right (state_of w at.0).registers (state_of w at.0).queue (value.Ref name) (rw s.queue at q)
      ] in
      start name (inl (inr (at.0, root)))

  node_wide : (entry : Entry) (name : Name) → Contains image.nodes entry → Contains (held_by entry.node) (value.Ref name) → IsWide w name
  node_wide entry name c held =
      let at = entry_at entry c in
      wide_field w entry.name name at.0 (entry_wide entry c) at.1 (subst (λ (n : Node). Contains (held_by n) (value.Ref name)) at.2 held)

  value_wide : (name : Name) → Contains (values_in image) (value.Ref name) → IsWide w name
  value_wide name c = elim (Contains-append_cases (flat_map values_of image.mutators) (flat_map (λ (entry : Entry).
      held_by entry.node) image.nodes) (value.Ref name) c) [
        | inl m ↦ let own = flat_contains values_of image.mutators (value.Ref name) m in own_wide own.0 name own.1 own.2
        | inr n ↦ let entry = flat_contains (λ (entry : Entry). held_by entry.node) image.nodes (value.Ref name) n in node_wide entry.0 name entry.1 entry.2
      ]

  is_image : IsImage image
  is_image =
      let count = shows.count in
      let some = world.some in
      let most = world.few in
      record {
        orderly = record {
          some = omega (arith, count, some);
          few = omega (arith, count, most);
          mutators = all_items IsMutator image.mutators is_mutator;
          ordered = shows.names.ordered;
          nodes = all_items (IsEntry image.mutators) image.nodes is_entry;
        };
        shared = shows.names.complete shared_name (start shared_name (inl (inl refl)));
        closed = λ name c. shows.names.complete name (value_wide name c);
      }

pub shown_is_image : ShownIsImage
shown_is_image words w image few world within shows = is_image words w image few world within shows
