-- The final words show the allocation state after the promoted names were placed.
use Rattle.nmgc_minor.proofs.Vocabulary.{◌≡◌, ◌≢◌, ◌<◌, ◌+◌, ◌⊎◌, ℕ, List, [], ◌∷◌, length, map, set, inl, inr, refl, sym, ap, subst, ◌∙◌, arith, Some, None, Contains, length-set, cases_eq, cases_lt, get_or_past, get_or-set_same, get_or-set_other, Name, World, node_of, IsWorld, contains_head, contains_tail, contains_cases, map_in, map_from, header_word, name_word, IsHeader, IsName, block_size, nursery_place, Header, Layout, nth, Segments, HasNumber, block_place, IsSegments, AllocState, Cells, name_in, cells, Shows, StandsFor, header_of, Place, Represents, NoNode, Moved, Moves, StillSpoken, IsOccupied, AreBlocks, PlacesEach, is_block, stands, Move, Inputs, HasInputs, PlacesMoves, with_names, moved_of, forward_word, Promotes, slice_index}
use Rattle.nmgc_segment.specs.declared.state.State.TheVariants as stands
use Rattle.nmgc_minor.proofs.{FoundLaws.node_at, FoundLaws.found_tracked, PlacingLaws.names_length, Final.names_are, Final.found_young, Final.promotes_moves}

-- words in which the new blocks have their names: the other words are unchanged, and the name words have the names
with_names_other : (moves : List Move) (words : List ℕ) (i : ℕ) → ((m : Move) → Contains moves m → i ≢ m.to.0 + 1) →
    slice_index (with_names words moves) i ≡ slice_index words i
with_names_other [] words i other = refl
with_names_other (m ∷ moves) words i other =
    with_names_other moves (set words (m.to.0 + 1) (name_word m.name)) i (λ x c. other x (contains_tail m moves x c)) ∙
    get_or-set_other words (m.to.0 + 1) i (name_word m.name) 0 (other m (contains_head m moves))

with_names_at : (moves : List Move) (words : List ℕ) (i v : ℕ) → i < length words →
    ((m : Move) → Contains moves m → i ≡ m.to.0 + 1 → name_word m.name ≡ v) → (slice_index words i ≡ v) ⊎
    ((m : Move) × Contains moves m × (i ≡ m.to.0 + 1)) → slice_index (with_names words moves) i ≡ v
with_names_at [] words i v lt all (inl e) = e
with_names_at [] words i v lt all (inr h) = absurd (omega (arith, h.1.1))
with_names_at (m ∷ moves) words i v lt all some =
    let next = set words (m.to.0 + 1) (name_word m.name) in
    let size = length-set words (m.to.0 + 1) (name_word m.name) in
    let rest : (slice_index next i ≡ v) ⊎ ((x : Move) × Contains moves x × (i ≡ x.to.0 + 1)) = elim (cases_eq i (m.to.0 + 1)) [
      | inl s ↦
          let in' : m.to.0 + 1 < length words = omega (arith, s, lt) in
          inl (ap (λ (n : ℕ). slice_index next n) s ∙ get_or-set_same words (m.to.0 + 1) (name_word m.name) 0 in' ∙ all m (contains_head m moves) s)
      | inr ne ↦
          let same = get_or-set_other words (m.to.0 + 1) i (name_word m.name) 0 ne in
          elim some [
            | inl e ↦ inl (same ∙ e)
            | inr h ↦ elim (contains_cases m moves h.0 h.1) [
              | inl s ↦ absurd (ne (h.2 ∙ ap (λ (x : Move). x.to.0 + 1) (sym s)))
              | inr d ↦ inr (h.0, d, h.2)
            ]
          ]
    ] in
    with_names_at moves next i v (omega (arith, size, lt)) (λ x c e. all x (contains_tail m moves x c) e) rest

-- a block with a name is in use
block_named : (s : Segments) (words : List ℕ) (number : ℕ) (c : Cells) (block : ℕ) (name : Name) → HasNumber s number → Shows s words number c →
    name_in c block ≡ Some name → IsOccupied s (block_place s.layout number (nth s.segments number).class block) (block_size (nth s.segments number).class)
block_named s words number c block name has sh e =
    let not_free : c.state ≢ stands.Free = λ f. let g : name_in c block ≡ None = ap (λ (x : Cells). name_in x block) (sh.free f) in absurd cc in
    let within : block < length c.names = elim (cases_lt block (length c.names)) [
      | inl lt ↦ lt
      | inr past ↦ let g : name_in c block ≡ None = get_or_past c.names block None past in absurd cc
    ] in
    let count = sh.blocks not_free in
    record {
      number = number;
      block = block;
      begins = record { exists = has; used = λ f. not_free (sh.state ∙ f); within = omega (arith, within, count); place = refl };
      used = (sh.used block).0 (rw e refl);
      words = refl;
    }

module _ (layout : Layout) (base : ℕ) (later earlier : List World) (places : List Place) (w : World) (old new : List ℕ) (inputs : Inputs)
    (s s' : Segments) (moves : List Move) (table : List ℕ)
    (differ : (a b : Header) → IsHeader a → IsHeader b → header_word a ≡ header_word b → a ≡ b)
    (names : (a b : Name) → IsName a → IsName b → name_word a ≡ name_word b → a ≡ b)
    (world : IsWorld w)
    (spoken : StillSpoken base later earlier places w)
    (emptied : base ≡ nursery_place layout 0)
    (r : Represents layout earlier NoNode places w old)
    (m : HasInputs base earlier places w inputs)
    (sound : IsSegments s')
    (same : s'.layout ≡ layout)
    (blocks : AreBlocks s base places w)
    (p : Promotes base old new s s' moves inputs table) where
  ends : base ≡ nursery_place s'.layout 0
  ends = emptied ∙ ap (λ (l : Layout). nursery_place l 0) (sym same)

  moved : Moves layout base later places w (map moved_of moves) (forward_word table base) old new
  moved = promotes_moves layout base later earlier places w old new inputs s s' moves table differ names world spoken emptied r m sound same blocks p

  -- the second word of a block in use
  name_same : (at size : ℕ) → IsOccupied s' at size → slice_index new (at + 1) ≡ slice_index (with_names old moves) (at + 1)
  name_same at size o =
      let b = is_block s' base at size sound ends o in
      let total = r.total in
      let within : at + 1 < length old = omega (arith, b.below, b.four, total, emptied) in
      elim (p.placing.only at size o) [
        | inl was ↦
            let q = blocks.filled at size was in
            let other : (x : Move) → Contains moves x → at + 1 ≢ x.to.0 + 1 = λ x c e.
            let there : at ≡ x.to.0 = omega (arith, e) in
            p.placing.fresh (moved_of x) size (map_in moved_of moves x c) (subst (λ (k : ℕ). IsOccupied s k size) there was) in
            moved.still_named (record { at = at; name = q.0 }) q.1 (omega (arith, b.below, b.four)) ∙ sym (with_names_other moves old (at + 1) other)
        | inr d ↦
            let x = map_from moved_of moves d.0 d.1 in
            let to : at ≡ x.0.to.0 = sym d.2 ∙ ap (λ (k : Moved). k.to) x.2 in
            let named = p.named x.0 x.1 in
            let word : slice_index new (at + 1) ≡ name_word x.0.name = cc (to, moved.named (moved_of x.0) (map_in moved_of moves x.0 x.1), named.1) in
            let all : (y : Move) → Contains moves y → at + 1 ≡ y.to.0 + 1 → name_word y.name ≡ name_word x.0.name = λ y c e.
            let one : moved_of y ≡ moved_of x.0 =
            p.placing.once (moved_of y) (moved_of x.0) (map_in moved_of moves y c) (map_in moved_of moves x.0 x.1) (omega (arith, e, to)) in
            ap (λ (k : Moved). name_word k.name) one in
            word ∙ sym (with_names_at moves old (at + 1) (name_word x.0.name) within all (inr (x.0, x.1, omega (arith, to))))
      ]

  -- so the final words represent the same state
  pub stands_final : (allocation : AllocState) → StandsFor s' (with_names old moves) allocation → StandsFor s' new allocation
  stands_final allocation st = record {
    total = moved.total ∙ sym (names_length moves old) ∙ st.total;
    count = st.count;
    names = st.names;
    fresh = st.fresh;
    shows = λ number has.
        let sh = st.shows number has in
        record {
          state = sh.state;
          free = sh.free;
          class = sh.class;
          blocks = sh.blocks;
          used = sh.used;
          named = λ block name e.
              name_same (block_place s'.layout number (nth s'.segments number).class block) (block_size (nth s'.segments number).class)
              (block_named s' (with_names old moves) number (cells allocation number) block name has sh e) ∙ sh.named block name e;
        };
  }

  -- each move places its name, for its maker and the class of its node's object
  pub places_each : (ms : List Move) → ((x : Move) → Contains ms x → Contains moves x) → (a b : AllocState) → PlacesMoves layout old a ms b →
      PlacesEach layout w a (map (λ (x : Move). x.name) ms) b
  places_each [] some a b e = sym e
  places_each (x ∷ ms) some a b h =
      let here = some x (contains_head x ms) in
      let f = found_tracked layout base later earlier places w old inputs differ world spoken emptied r m x.from.0 (p.found x here) in
      let node = node_at layout base later earlier places w old inputs differ world spoken emptied r m f.0 x.from.0 f.1 in
      let named : x.name ≡ f.0 =
      names_are layout base later earlier places w old new inputs s s' moves table differ names world spoken emptied r m sound same blocks p x
      here f.0 f.2 f.1 (found_young layout base later earlier places w old new inputs s s' moves table differ names world spoken emptied r m
      sound same blocks p x.from.0 (p.found x here)) in
      let o = stands layout earlier NoNode places w old differ world r f.0 node.0 x.from.0 f.2 node.1 f.1 in (
        h.0,
        record {
          node = node.0;
          there = ap (λ (n : Name). node_of w n) named ∙ node.1;
          class = h.1;
          fits = h.3 (header_of node.0) (o.object.valid, o.object.header);
          places = h.2;
        },
        places_each ms (λ y c. some y (contains_tail x ms y c)) h.0 b h.5,
      )
