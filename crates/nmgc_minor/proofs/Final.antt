-- The effect of the passes keeps the world that the words represent.
use Rattle.nmgc_minor.proofs.Vocabulary.{◌≡◌, ◌<◌, ◌≤◌, ℕ, List, [], ◌∷◌, map, inr, sym, ap, subst, ◌∙◌, Contains, Name, World, IsWorld, header_word, name_word, IsHeader, IsName, nursery_place, Header, Layout, Segments, IsSegments, IsTracked, Place, Represents, NoNode, Moved, Moves, StillSpoken, old_place, settled, AreBlocks, represents_moved, Move, Inputs, HasInputs, IsStart, IsFound, IsBefore, IsInOrder, contains_head, contains_tail, map_in, map_from, AreRising, moved_of, forward_word, Promotes, slice_index}
use Rattle.nmgc_minor.proofs.{FoundLaws.found_tracked, FoundLaws.tracked_found, Assembly.moves_made, Assembly.blocks_made, Assembly.recorded_goes}

module _ (layout : Layout) (base : ℕ) (later earlier : List World) (places : List Place) (w : World) (old new : List ℕ) (inputs : Inputs)
    (s s' : Segments) (moves : List Move) (table : List ℕ)
    (differ : (a b : Header) → IsHeader a → IsHeader b → header_word a ≡ header_word b → a ≡ b)
    (names : (a b : Name) → IsName a → IsName b → name_word a ≡ name_word b → a ≡ b)
    (world : IsWorld w)
    (spoken : StillSpoken base later earlier places w)
    (emptied : base ≡ nursery_place layout 0)
    (r : Represents layout earlier NoNode places w old)
    (m : HasInputs base earlier places w inputs)
    (sound : IsSegments s')
    (same : s'.layout ≡ layout)
    (blocks : AreBlocks s base places w)
    (p : Promotes base old new s s' moves inputs table) where
  pub found_young : (at : ℕ) → IsFound base old (IsStart inputs old) at → base ≤ at
  found_young at (IsFound.start _ l _) = l
  found_young at (IsFound.field _ _ _ l _) = l

  -- a move has the name of the object at its old address
  pub names_are : (d : Move) → Contains moves d → (n : Name) → IsTracked w earlier n → Contains places (record { at = d.from.0; name = n }) →
      base ≤ d.from.0 → d.name ≡ n
  names_are d c n t there l =
      let is_known = p.named d c in
      let known = r.named (record { at = d.from.0; name = n }) there in
      names d.name n is_known.0 known.valid (sym is_known.1 ∙ known.name)

  pub taken : (d : Moved) → Contains (map moved_of moves) d → Contains places (old_place d) × (base ≤ d.from) × IsTracked w earlier d.name
  taken d c =
      let x = map_from moved_of moves d c in
      let f = p.found x.0 x.1 in
      let h = found_tracked layout base later earlier places w old inputs differ world spoken emptied r m x.0.from.0 f in
      let l = found_young x.0.from.0 f in
      let e = names_are x.0 x.1 h.0 h.2 h.1 l in
      rw x.2 (subst (λ (n : Name). Contains places (record { at = x.0.from.0; name = n }) × (base ≤ x.0.from.0) × IsTracked w earlier n) (sym e) (h.1, l, h.2))

  all : (q : Place) → Contains places q → base ≤ q.at → IsTracked w later q.name → (d : Moved) × Contains (map moved_of moves) d × (q ≡ old_place d)
  all q c l t =
      let f = tracked_found layout base later earlier places w old inputs differ world spoken emptied r m q.name q.at t c l in
      let x = p.all q.at f in
      let d = taken (moved_of x.0) (map_in moved_of moves x.0 x.1) in
      (moved_of x.0, map_in moved_of moves x.0 x.1, r.one q (old_place (moved_of x.0)) c d.0 (inr (sym x.2)))

  once : (a b : Moved) → Contains (map moved_of moves) a → Contains (map moved_of moves) b → a.from ≡ b.from → a ≡ b
  once a b ca cb e =
      let x = map_from moved_of moves a ca in
      let y = map_from moved_of moves b cb in
      let f : x.0.from.0 ≡ y.0.from.0 = sym (ap (λ (k : Moved). k.from) x.2) ∙ e ∙ ap (λ (k : Moved). k.from) y.2 in
      x.2 ∙ ap moved_of (p.once x.0 y.0 x.1 y.1 f) ∙ sym y.2

  -- a move's old address and name
  move_place : (d : Move) → Contains moves d → Contains places (record { at = d.from.0; name = d.name }) × (base ≤ d.from.0)
  move_place d c = let h = taken (moved_of d) (map_in moved_of moves d c) in (h.0, h.1)

  -- if nursery objects lie in the order of their names, the moves are in order of names
  pub moves_in_order : ((a b : Place) → Contains places a → Contains places b → base ≤ a.at → a.at < b.at → IsBefore a.name b.name) →
      IsInOrder (map (λ (d : Move). d.name) moves)
  moves_in_order order = go moves p.rising (λ d c. c)
    where
      go : (xs : List Move) → AreRising xs → ((d : Move) → Contains xs d → Contains moves d) → IsInOrder (map (λ (d : Move). d.name) xs)
      go [] o h = tt
      go (a ∷ []) o h = tt
      go (a ∷ b ∷ xs) o h =
          let x = move_place a (h a (contains_head a (b ∷ xs))) in
          let y = move_place b (h b (contains_tail a (b ∷ xs) b (contains_head b xs))) in (
            order (record { at = a.from.0; name = a.name }) (record { at = b.from.0; name = b.name }) x.0 y.0 x.1 o.0,
            go (b ∷ xs) o.1 (λ d c. h d (contains_tail a (b ∷ xs) d c)),
          )

  pub promotes_moves : Moves layout base later places w (map moved_of moves) (forward_word table base) old new
  promotes_moves = moves_made layout base later earlier places w old new inputs s s' (map moved_of moves) (forward_word table base) differ world
      spoken r m sound same emptied blocks p.placing p.forwards taken all once p.rewrites

  pub promotes_represents : Represents layout later NoNode (settled base (map moved_of moves) places) w new
  promotes_represents =
      represents_moved layout base later earlier NoNode places w (map moved_of moves) (forward_word table base) old new world spoken emptied r promotes_moves

  pub promotes_blocks : AreBlocks s' base (settled base (map moved_of moves) places) w
  promotes_blocks = blocks_made layout base later earlier places w old new inputs s s' (map moved_of moves) (forward_word table base) differ world
      spoken r m sound same emptied blocks p.placing p.forwards taken all once p.rewrites

  pub promotes_fields : (at : ℕ) → at < base → Contains inputs.recorded at → slice_index new at ≡ forward_word table base (slice_index old at)
  promotes_fields = recorded_goes layout base later earlier places w old new inputs s s' (map moved_of moves) (forward_word table base) differ world
      spoken r m sound same emptied blocks p.placing p.forwards taken all once p.rewrites
