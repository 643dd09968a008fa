-- The content of a report's words, if they represent a world: its wide reach is the result of a search over addresses.
use Rattle.std.proofs.{Common.ℕ, Common.◌≡◌, Common.◌≢◌, Common.◌⊎◌, Common.◌↔◌, Common.◌+◌, Common.◌*◌, Common.◌<◌, Common.◌≤◌, Common.zero, Common.suc, Common.List, Common.[], Common.◌∷◌, Common.◌++◌, Common.length, Common.map, Common.slice_index, Common.arith, Common.refl, Common.sym, Common.ap, Common.subst, Common.◌∙◌, Common.Some, Common.inl, Common.inr, Math.ListN.get_or-eq_default, lemmas.Bool.cases_lt, lemmas.Option.slice_get_within, lemmas.List.length-map, lemmas.List.get_or_append_left, lemmas.List.get_or-append-add, lemmas.List.Elements.All-contains, lemmas.List.Elements.All-tail, lemmas.List.Elements.Contains-append_left, lemmas.List.Elements.Contains-append_right, lemmas.List.Elements.Contains-append_cases}
use Rattle.std.specs.Prelude.{Contains, All, slice_get, flat_map}
use Rattle.nmgc_limits.specs.declared.mutators.TheConstants.{REGISTERS, SHARED_MAKER}
use Rattle.nmgc_world_spec.specs.{declared.value.Name.Name, declared.value.Value.Value, declared.node.Parts.Parts, declared.node.Node.Node, declared.node.Node.TheVariants.Weak, declared.mutator_state.MutatorState.MutatorState, World.shared_name, World.World, World.IsShared, World.node_of, World.state_of, World.no_mutator, World.held_by, Known.IsNodeOf, Known.IsSized, Reach.start, Reach.field, Reach.IsRoot, Reach.IsAlive, Reach.IsAliveWeak, Reach.IsWide, Reach.IsOfWeak, Pieces.IsWideRoot}
use Rattle.nmgc_world_spec.specs.declared.value.Value.TheVariants as value
use Rattle.nmgc_lists.specs.laws.Items.{at_some, is_some_of, is_some_get, contains_at, place_of, nothing_in, item_map}
use Rattle.nmgc_world_laws.specs.laws.Reached.{wide_known}
use Rattle.nmgc_object.specs.{Words.InSegment, Words.block_size, Words.header_word, Words.IsHeader, Words.IsName, declared.words.Header.Header, declared.layout.TheConstants.SHARED_PLACE, declared.size.TheConstants.HEADER_WORDS}
use Rattle.nmgc_alloc.specs.AllocState.{nth}
use Rattle.nmgc_heap_spec.specs.{Objects.header_of, Objects.size_of, Objects.Place, Objects.Means, Objects.ListMeans, Represents.NoNode, laws.Changes.lies_within, laws.Headers.same_header, laws.Kinds.HasFields, laws.Kinds.fields_of_slots, laws.Kinds.map_item, laws.Meanings.above_zero, laws.Meanings.placed_at, laws.Roots.wide_tracked, laws.Tracking.reached_in, laws.Common.list_means}
use Rattle.nmgc_journal.specs.{declared.report.MutatorEnd.MutatorEnd, declared.report.Report.Report}
use Rattle.nmgc_image.specs.{declared.image.Entry.Entry, declared.image.Image.Image, declared.image.ImageMutator.ImageMutator, Image.names_of, Image.shown, Image.Shows, Image.ShowsMutator, Image.ListsHeld, Left.IsLeftAs, Left.LiesWideAt, Objects.IsNamedAt, Objects.IsObjectAt, Objects.name_in, Objects.pointers, Objects.value_words_at, Objects.node_read, Reaching.Reaches, Reaching.IsMutatorRoot, Reaching.IsWeakRoot, Reaching.IsRootPlace, Reaching.IsReadyFor, Shown.IsReadableObject, Shown.CanShowOwn, Shown.ShowsOwn, Shown.IsShownAt, Shown.ListsObjects}
use Rattle.nmgc_image.proofs.{ShownImage.all_items, ShownImage.wide_field, ShownImage.strong_shown, ShownImage.name_place, Words.name_reads, Words.list_read, Words.list_readable, Words.list_pointers, Words.pointers_list, Words.value_words_mean, Words.node_reads}

-- the registers of a mutator among the registers of all mutators
own_registers : (mutators : List MutatorEnd) (m i : ℕ) (own : MutatorEnd) → All (λ (e : MutatorEnd). length e.registers ≡ REGISTERS) mutators →
    slice_get mutators m ≡ Some own → i < REGISTERS → slice_index (flat_map (λ (e : MutatorEnd). e.registers) mutators) (REGISTERS * m + i) ≡
    slice_index own.registers i
own_registers [] m i own all e lt = absurd cc
own_registers (first ∷ others) zero i own all e lt =
    let same : first ≡ own = cc in
    let n : length first.registers ≡ REGISTERS = all 0 first (omega arith) in
    let z : REGISTERS * 0 + i ≡ i = omega arith in
    ap (λ (k : ℕ). slice_index (first.registers ++ flat_map (λ (e : MutatorEnd). e.registers) others) k) z ∙
    get_or_append_left first.registers (flat_map (λ (e : MutatorEnd). e.registers) others) 0 i (omega arith) ∙
    ap (λ (x : MutatorEnd). slice_index x.registers i) same
own_registers (first ∷ others) (suc m) i own all e lt =
    let n : length first.registers ≡ REGISTERS = all 0 first (omega arith) in
    let z : REGISTERS * suc m + i ≡ length first.registers + (REGISTERS * m + i) = omega arith in
    ap (λ (k : ℕ). slice_index (first.registers ++ flat_map (λ (e : MutatorEnd). e.registers) others) k) z ∙
    get_or-append-add first.registers (flat_map (λ (e : MutatorEnd). e.registers) others) (REGISTERS * m + i) 0 ∙
    own_registers others m i own (All-tail (λ (e : MutatorEnd). length e.registers ≡ REGISTERS) first others all) e lt

-- all that is reachable from some addresses has a property that they have and that pointers keep
pub reached_places : (words : List ℕ) (P Q : ℕ → Type 0) → ((at : ℕ) → P at → Q at) →
    ((at to : ℕ) (object : IsObjectAt words at) → Q at → Contains (pointers (value_words_at words at object.header)) to → Q to) → (at : ℕ) → Reaches words P at → Q at
reached_places words P Q first next at (Reaches.root _ p) = first at p
reached_places words P Q first next at (Reaches.field from _ object r c) = next from at object (reached_places words P Q first next from r) c

module _ (report : Report) (w : World) (left : IsLeftAs report w) where
  -- the addresses of objects
  abbrev pub P : Place → Type 0
  P = Contains left.places

  name_at : (p : Place) → P p → IsNamedAt report.words p.at
  name_at p c =
      let n = left.represents.named p c in
      let fits = lies_within left.layout p HEADER_WORDS (omega arith) n.lies in
      let total = left.represents.total in
      let most = left.sized.heap in
      record { within = omega (arith, fits, total); small = omega (arith, fits, most); name = p.name; valid = n.valid; word = sym n.name }

  name_is : (p : Place) → P p → name_in report.words p.at ≡ p.name
  name_is p c = let n = left.represents.named p c in name_reads p.name (slice_index report.words (p.at + 1)) n.valid (sym n.name)

  above : (p : Place) → P p → 1 ≤ p.at
  above = above_zero left.layout left.earlier NoNode left.places w report.words left.represents

  -- the object of a name of the wide reach, at its address
  record StandsAt (at : ℕ) (node : Node) : Type 0 where
    header : slice_index report.words at ≡ header_word (header_of node)
    valid : IsHeader (header_of node)
    within : at + HEADER_WORDS + (header_of node).fields ≤ length report.words
    fields : HasFields P report.words (at + HEADER_WORDS) node

  stands : (at : ℕ) (name : Name) (node : Node) → P (record { at = at; name = name }) → IsWide w name → node_of w name ≡ Some node → StandsAt at node
  stands at name node c wide is =
      let p = placed_at left.layout left.earlier NoNode left.places w report.words left.represents name node at (wide_tracked w left.earlier name wide) is c in
      let fits = lies_within left.layout (record { at = p.0.at; name = name }) (size_of node) (omega arith) p.0.object.lies in
      let total = left.represents.total in
      let same : p.0.at ≡ at = p.1 in
      record {
        header = subst (λ (k : ℕ). slice_index report.words k ≡ header_word (header_of node)) same p.0.object.header;
        valid = p.0.object.valid;
        within = omega (arith, fits, total, same);
        fields = subst (λ (k : ℕ).
            HasFields P report.words (k + HEADER_WORDS) node) same (fields_of_slots P report.words (p.0.at + HEADER_WORDS) node p.0.fields);
      }

  sized : (name : Name) (node : Node) → node_of w name ≡ Some node → IsSized node
  sized name node is = (at_some (node_of w name) node (IsNodeOf w) is (left.world.nodes name)).sized

  -- the node of a name of the wide reach
  wide_node : (name : Name) → IsWide w name → (node : Node) × (node_of w name ≡ Some node)
  wide_node name wide = is_some_of (node_of w name) (wide_known w left.world name wide)

  pub wide_object : (at : ℕ) → LiesWideAt left.places w at → IsObjectAt report.words at
  wide_object at (name, wide, c) =
      let node = wide_node name wide in
      let s = stands at name node.0 c wide node.1 in
      record { header = header_of node.0; valid = s.valid; word = sym s.header; within = s.within; named = name_at (record { at = at; name = name }) c }

  -- every header that is read there is the node's
  header_is : (at : ℕ) (node : Node) → StandsAt at node → (object : IsObjectAt report.words at) → object.header ≡ header_of node
  header_is at node s object = same_header object.header (header_of node) object.valid s.valid (object.word ∙ s.header)

  means_at : (at : ℕ) (name : Name) (node : Node) → node_of w name ≡ Some node → StandsAt at node → (object : IsObjectAt report.words at) →
      ListMeans P (value_words_at report.words at object.header) (held_by (shown node))
  means_at at name node is s object =
      subst (λ (h : Header).
      ListMeans P (value_words_at report.words at h) (held_by (shown node))) (sym (header_is at node s object))
      (value_words_mean P report.words name_at name_is above at node (sized name node is) s.fields s.within)

  pub wide_readable : (at : ℕ) → LiesWideAt left.places w at → IsReadableObject report.words at
  wide_readable at lies =
      let name = lies.0 in
      let node = wide_node name lies.1 in
      let s = stands at name node.0 lies.2 lies.1 node.1 in
      record {
        object = wide_object at lies;
        fields = λ it. list_readable P report.words name_at name_is above (value_words_at report.words at it.header) (held_by (shown node.0))
            (means_at at name node.0 node.1 s it);
      }

  -- its node is read as it is shown
  pub wide_reads : (at : ℕ) (name : Name) (node : Node) → P (record { at = at; name = name }) → IsWide w name → node_of w name ≡ Some node →
      (object : IsObjectAt report.words at) → node_read report.words at object.header ≡ shown node
  wide_reads at name node c wide is object =
      let s = stands at name node c wide is in
      ap (node_read report.words at) (header_is at node s object) ∙
      node_reads P report.words name_at name_is above at node (sized name node is) s.fields s.within

  -- its pointers lead into the wide reach
  pub wide_next : (at to : ℕ) (object : IsObjectAt report.words at) → LiesWideAt left.places w at →
      Contains (pointers (value_words_at report.words at object.header)) to → LiesWideAt left.places w to
  wide_next at to object (name, wide, c) p =
      let node = wide_node name wide in
      let s = stands at name node.0 c wide node.1 in
      let n = list_pointers P report.words name_at name_is above (value_words_at report.words at object.header) (held_by (shown node.0)) to
      (means_at at name node.0 node.1 s object) p in
      (n.0, wide_field w name n.0 node.0 wide node.1 n.1, n.2)

  -- MUTATORS
  held_means : (m : ℕ) (own : MutatorEnd) → slice_get report.mutators m ≡ Some own → ListMeans P own.registers (state_of w m).registers ×
      ListMeans P own.queue (state_of w m).queue
  held_means m own e =
      let count = left.roots.mutators.0 in
      let many = length-map report.mutators (λ (x : MutatorEnd). x.queue) in
      let within = slice_get_within report.mutators m own e in
      let lt : m < length w.mutators = omega (arith, count, many, within) in
      let mine : length own.registers ≡ REGISTERS = All-contains (λ (x : MutatorEnd). length x.registers ≡
      REGISTERS) report.mutators own left.registers (contains_at report.mutators m own e) in
      let theirs = left.world.registers m lt in
      let held = left.roots.held m lt in (
        list_means P own.registers (state_of w m).registers (mine ∙ sym theirs) (λ i v at.
            let in' = slice_get_within (state_of w m).registers i v at in
            subst (λ (k : ℕ). Means P k v) (own_registers report.mutators m i own left.registers e (omega (arith, in', theirs))) (held i v at)),
        left.roots.queued m own.queue (item_map (λ (x : MutatorEnd). x.queue) report.mutators m own e),
      )

  pub can_show : All (CanShowOwn report.words) report.mutators
  can_show = all_items (CanShowOwn report.words) report.mutators (λ own c.
      let p = place_of report.mutators own c in
      let h = held_means p.0 own p.1 in
      record {
        registers = list_readable P report.words name_at name_is above own.registers (state_of w p.0).registers h.0;
        queue = list_readable P report.words name_at name_is above own.queue (state_of w p.0).queue h.1;
        count = All-contains (λ (x : MutatorEnd). length x.registers ≡ REGISTERS) report.mutators own left.registers c;
      })

  mutator_root : (at : ℕ) → IsMutatorRoot report.mutators at → LiesWideAt left.places w at
  mutator_root at (own, c, root) =
      let p = place_of report.mutators own c in
      let h = held_means p.0 own p.1 in
      elim root [
        | inl r ↦
            let n = list_pointers P report.words name_at name_is above own.registers (state_of w p.0).registers at h.0 r in
            (n.0, start n.0 (inl (inr (p.0, Contains-append_left (state_of w p.0).registers (state_of w p.0).queue (value.Ref n.0) n.1))), n.2)
        | inr q ↦
            let n = list_pointers P report.words name_at name_is above own.queue (state_of w p.0).queue at h.1 q in
            (n.0, start n.0 (inl (inr (p.0, Contains-append_right (state_of w p.0).registers (state_of w p.0).queue (value.Ref n.0) n.1))), n.2)
      ]

  -- G
  shared_place : (name : Name) → IsWide w name → (at : ℕ) × P (record { at = at; name = name })
  shared_place name wide =
      let node = wide_node name wide in
      let p = left.represents.tracked name node.0 (wide_tracked w left.earlier name wide) node.1 in
      (p.at, p.there)

  shared_at : P (record { at = SHARED_PLACE; name = shared_name })
  shared_at =
      let wide : IsWide w shared_name = start shared_name (inl (inl refl)) in
      let p = shared_place shared_name wide in
      let lies = (left.represents.named (record { at = p.0; name = shared_name }) p.1).lies in
      let at : p.0 ≡ SHARED_PLACE = elim lies [
        | inl g ↦ g.1
        | inr other ↦ absurd (other.0 refl)
      ] in
      subst (λ (k : ℕ). P (record { at = k; name = shared_name })) at p.1

  shared_root : LiesWideAt left.places w SHARED_PLACE
  shared_root = (shared_name, start shared_name (inl (inl refl)), shared_at)

  -- WEAK POINTERS
  weak_root : (at : ℕ) → IsWeakRoot report at → LiesWideAt left.places w at
  weak_root at (number, (block, h)) =
      let filled = left.blocks.filled at (block_size (nth report.segments.segments number).class) (record {
        number = number;
        block = block;
        begins = h.begins;
        used = h.used;
        words = refl;
      }) in
      let name = filled.0 in
      let is : name_in report.words at ≡ name = name_is (record { at = at; name = name }) filled.1 in
      let listed : Contains (map (λ (p : Place). p.name) left.weaks) name =
      subst (λ (l : List Name). Contains l name) left.weaks_are (subst (λ (n : Name). Contains report.weaks n) is h.listed) in
      let i = place_of (map (λ (p : Place). p.name) left.weaks) name listed in
      let p = map_item (λ (p : Place). p.name) left.weaks i.0 name i.1 in
      let alive : IsAliveWeak w p.0.name = (left.listed.sound p.0 (contains_at left.weaks i.0 p.0 p.1)).1 in
      let same : p.0.name ≡ name = sym p.2 in
      let mine : IsAliveWeak w name = subst (λ (n : Name). IsAliveWeak w n) same alive in
      (name, start name (inr (name, mine.0, mine.1, inl refl)), filled.1)

  pub root_wide : (at : ℕ) → IsRootPlace report at → LiesWideAt left.places w at
  root_wide at (inl e) = subst (λ (k : ℕ). LiesWideAt left.places w k) (sym e) shared_root
  root_wide at (inr (inl m)) = mutator_root at m
  root_wide at (inr (inr k)) = weak_root at k

  -- every address that a search reaches lies in the wide reach
  pub reached_wide : (at : ℕ) → Reaches report.words (IsRootPlace report) at → LiesWideAt left.places w at
  reached_wide at r = reached_places report.words (IsRootPlace report) (LiesWideAt left.places w) root_wide wide_next at r

  -- and a search reaches all of the wide reach
  abbrev pub ReachesName : Name → Type 0
  ReachesName name = (at : ℕ) × P (record { at = at; name = name }) × Reaches report.words (IsRootPlace report) at

  -- a field of a reachable object
  reached_field : (name target : Name) (node : Node) → node_of w name ≡ Some node → IsWide w name → ReachesName name →
      Contains (held_by (shown node)) (value.Ref target) → ReachesName target
  reached_field name target node is wide (at, c, r) held =
      let s = stands at name node c wide is in
      let object = wide_object at (name, wide, c) in
      let p = pointers_list P report.words name_at name_is above (value_words_at report.words at object.header) (held_by (shown node)) target
      (means_at at name node is s object) held in
      (p.0, p.2, Reaches.field at p.0 object r p.1)

  -- an alive weak pointer is reachable
  reached_weak : (name : Name) (parts : Parts) → IsAlive w name parts → ReachesName name
  reached_weak name parts alive =
      let wide : IsWide w name = start name (inr (name, parts, alive, inl refl)) in
      let p = left.represents.tracked name (Weak (Some parts)) (wide_tracked w left.earlier name wide) alive in
      let at : Place = record { at = p.at; name = name } in
      let own : name.maker ≢ SHARED_MAKER = elim (name_place w name (Weak (Some parts)) alive) [
        | inl (same, e) ↦ absurd (subst IsShared (sym e) left.world.shared)
        | inr (ne, lt, f) ↦ ne
      ] in
      let block = left.blocks.held at (Weak (Some parts)) p.there (left.settled at p.there) own alive in
      let o = block.1 in
      let segment : (k : ℕ) × InSegment left.layout k p.at = elim p.object.lies [
        | inl g ↦ absurd (own g.0)
        | inr (other, inl l) ↦ (l.0, l.1 p.at (omega arith) (omega arith))
        | inr (other, inr l) ↦
            let in' = l.1 p.at (omega arith) (omega arith) in
            let from = in'.from in
            let low = left.settled at p.there in
            absurd (omega (arith, from, low))
      ] in
      let listed = left.listed.complete at (p.there, (parts, alive), segment) in
      let i = place_of left.weaks at listed in
      let named : Contains report.weaks name = subst (λ (l : List Name).
      Contains l name) (sym left.weaks_are) (contains_at (map (λ (p : Place). p.name) left.weaks) i.0 name (item_map (λ (p : Place).
      p.name) left.weaks i.0 at i.1)) in (
        p.at,
        p.there,
        Reaches.root p.at (inr (inr (
          o.number,
          (
            o.block,
            record { begins = o.begins; used = o.used; listed = subst (λ (n : Name). Contains report.weaks n) (sym (name_is at p.there)) named },
          ),
        ))),
      )

  reached_root : (name : Name) → IsRoot w name → ReachesName name
  reached_root name (inl e) = subst ReachesName (sym e) (SHARED_PLACE, shared_at, Reaches.root SHARED_PLACE (inl refl))
  reached_root name (inr (m, c)) =
      let n = left.roots.mutators.0 in
      let many = length-map report.mutators (λ (x : MutatorEnd). x.queue) in
      elim (cases_lt m (length w.mutators)) [
        | inl lt ↦
            let own = is_some_of (slice_get report.mutators m) (is_some_get report.mutators m (omega (arith, lt, n, many))) in
            let h = held_means m own.0 own.1 in
            elim (Contains-append_cases (state_of w m).registers (state_of w m).queue (value.Ref name) c) [
              | inl r ↦
                  let p = pointers_list P report.words name_at name_is above own.0.registers (state_of w m).registers name h.0 r in
                  (p.0, p.2, Reaches.root p.0 (inr (inl (own.0, contains_at report.mutators m own.0 own.1, inl p.1))))
              | inr q ↦
                  let p = pointers_list P report.words name_at name_is above own.0.queue (state_of w m).queue name h.1 q in
                  (p.0, p.2, Reaches.root p.0 (inr (inl (own.0, contains_at report.mutators m own.0 own.1, inr p.1))))
            ]
        | inr ge ↦
            let past : state_of w m ≡ no_mutator = get_or-eq_default w.mutators no_mutator {n = m} ge in
            absurd (nothing_in (value.Ref name) (subst (λ (q : MutatorState). Contains (q.registers ++ q.queue) (value.Ref name)) past c))
      ]

  reached_part : (weak name : Name) (parts : Parts) → IsAlive w weak parts → IsOfWeak weak parts name → ReachesName name
  reached_part weak name parts alive (inl e) = subst ReachesName (sym e) (reached_weak weak parts alive)
  reached_part weak name parts alive (inr of) =
      let wide : IsWide w weak = start weak (inr (weak, parts, alive, inl refl)) in
      reached_field weak name (Weak (Some parts)) alive wide (reached_weak weak parts alive) (part of)
    where
      part : (parts.key ≡ value.Ref name) ⊎ ((parts.value ≡ value.Ref name) ⊎ (parts.finaliser ≡ value.Ref name)) →
          Contains (parts.key ∷ parts.value ∷ parts.finaliser ∷ []) (value.Ref name)
      part (inl e) = (0, omega arith, e)
      part (inr (inl e)) = (1, omega arith, e)
      part (inr (inr e)) = (2, omega arith, e)

  pub wide_reached : (name : Name) → IsWide w name → IsWide w name × ReachesName name
  wide_reached name wide = reached_in w (IsWideRoot w) (λ n. IsWide w n × ReachesName n)
      (λ n root. (start n root, elim root [ inl r ↦ reached_root n r | inr (weak, parts, alive, of) ↦ reached_part weak n parts alive of ]))
      (λ n target both to. (field n target both.0 to, reached_field n target to.0 to.1 both.0 both.1 (strong_shown to.0 (value.Ref target) to.2)))
      name wide

  pub ready : IsReadyFor report
  ready = record {
    objects = λ at r. wide_object at (reached_wide at r);
    blocks = λ number block at begins used.
        let filled = left.blocks.filled at (block_size (nth report.segments.segments number).class) (record {
          number = number;
          block = block;
          begins = begins;
          used = used;
          words = refl;
        }) in
        name_at (record { at = at; name = filled.0 }) filled.1;
    weaks = subst (All IsName) (sym left.weaks_are) (all_items IsName (map (λ (p : Place). p.name) left.weaks) (λ n c.
        let i = place_of (map (λ (p : Place). p.name) left.weaks) n c in
        let p = map_item (λ (p : Place). p.name) left.weaks i.0 n i.1 in
        let held = (left.listed.sound p.0 (contains_at left.weaks i.0 p.0 p.1)).0 in
        subst IsName (sym p.2) (left.represents.named p.0 held).valid));
  }

  -- THE IMAGE

  -- the image made from the reachable addresses shows the world
  pub shows : (places : List ℕ) (image : Image) → ((at : ℕ) → Contains places at ↔ Reaches report.words (IsRootPlace report) at) →
      length image.mutators ≡ length report.mutators → ((m : ℕ) (own : MutatorEnd) (shown : ImageMutator) → slice_get report.mutators m ≡ Some own →
      slice_get image.mutators m ≡ Some shown → ShowsOwn report.words own shown) → ListsObjects report.words places image.nodes → Shows w image
  shows places image reached count own lists = record {
    count = count ∙ sym (length-map report.mutators (λ (x : MutatorEnd). x.queue)) ∙ left.roots.mutators.0;
    mutators = λ m shown e. mutator_shows m shown e;
    names = record {
      ordered = lists.ordered;
      sound = name_sound;
      complete = λ name wide.
          let r = (wide_reached name wide).1 in
          subst (λ (n : Name). Contains (names_of image.nodes) n) (name_is (record { at = r.0; name = name }) r.1) (lists.complete r.0 ((reached r.0).1 r.2));
    };
    nodes = λ name node c.
        let e = entry_at (record { name = name; node = node }) c in
        let node' = wide_node name e.1.0 in
        let lies : LiesWideAt left.places w e.0 = (name, e.1.0, e.1.1) in
        let object = wide_object e.0 lies in
        (node'.0, node'.1, e.2.node object ∙ wide_reads e.0 name node'.0 e.1.1 e.1.0 node'.1 object);
  }
    where
      mutator_shows : (m : ℕ) (shown : ImageMutator) → slice_get image.mutators m ≡ Some shown → ShowsMutator w m shown
      mutator_shows m shown e =
          let within = slice_get_within image.mutators m shown e in
          let mine = is_some_of (slice_get report.mutators m) (is_some_get report.mutators m (omega (arith, within, count))) in
          let s = own m mine.0 shown mine.1 e in
          let h = held_means m mine.0 mine.1 in
          record {
            serial = s.serial ∙ left.roots.next m mine.0.serial (item_map (λ (x : MutatorEnd). x.serial) report.mutators m mine.0 mine.1);
            registers = subst (λ (l : List Value).
                ListsHeld l shown.registers) (list_read P report.words name_at name_is above mine.0.registers (state_of w m).registers h.0) s.registers;
            queue = s.queue ∙ list_read P report.words name_at name_is above mine.0.queue (state_of w m).queue h.1;
          }

      entry_at : (entry : Entry) → Contains image.nodes entry → (at : ℕ) × (IsWide w entry.name × P (record { at = at; name = entry.name })) ×
          IsShownAt report.words at entry
      entry_at entry c =
          let s = lists.sound entry c in
          let lies = reached_wide s.0 ((reached s.0).0 s.1) in
          let same : lies.0 ≡ entry.name = sym (name_is (record { at = s.0; name = lies.0 }) lies.2) ∙ sym s.2.name in
          (s.0, subst (λ (n : Name). IsWide w n × P (record { at = s.0; name = n })) same (lies.1, lies.2), s.2)

      name_sound : (name : Name) → Contains (names_of image.nodes) name → IsWide w name
      name_sound name c =
          let p = place_of (names_of image.nodes) name c in
          let entry = map_item (λ (e : Entry). e.name) image.nodes p.0 name p.1 in
          subst (λ (n : Name). IsWide w n) (sym entry.2) (entry_at entry.0 (contains_at image.nodes p.0 entry.0 entry.1)).1.0
