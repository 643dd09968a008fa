-- The small heap: each word is as specified.
use Rattle.nmgc_heap_spec.proofs.Vocabulary.{◌-◌, ◌≡◌, inl, inr, ℕ, zero, suc, ◌+◌, ◌*◌, ◌<◌, List, [], ◌∷◌, length, map, replicate, drop, refl, sym, ap, subst, ◌∙◌, arith, slice_index, Some, lit≤, lit<, slice_get, Contains, Name, REGISTERS, SHARED_MAKER, SHARED_SLOTS, Value, Ref, Node, Var, MutatorState, World, node_of, state_of, serial_of, start, contains_head, HEADER_WORDS, IsWide, holds, free_slots, IsTracked, Place, AllMean, ListMeans, HasSlots, NoNode, Represents, RepresentsRoots, small_layout, own, block, places_of, snapshot, chain_serials, chain_words, SnapshotStands, WordsAreDetermined, NoSecondPlace, slots_mean, placed_at, zeros_first}
use Rattle.nmgc_heap_spec.proofs.Stood.{EachFills, fills_from, fills_nil, stands}

-- register words mean their values, one by one
rows_mean : (P : Place → Type 0) (words : List ℕ) (values : List Value) → EachFills P words (map holds values) → AllMean P words 0 values
rows_mean P words values h = slots_mean P words 0 values (fills_from P words 0 (map holds values) h)

-- the roots of a world of one mutator, whose queue is empty
roots_of : (places : List Place) (w : World) (registers : List ℕ) (serial : ℕ) → length w.mutators ≡ 1 → length registers ≡ REGISTERS →
    (state_of w 0).queue ≡ [] → serial_of w 0 ≡ serial → AllMean (Contains places) registers 0 (state_of w 0).registers →
    RepresentsRoots places w registers ([] ∷ []) (serial ∷ [])
roots_of places w registers serial one count queue made mean = record {
  count = let z : length registers ≡ REGISTERS * 1 = count in z ∙ ap (λ (n : ℕ). REGISTERS * n) (sym one);
  mutators = (sym one, sym one);
  held = held;
  queued = queued;
  next = next;
}
  where
    held : (m : ℕ) → m < length w.mutators → AllMean (Contains places) registers (REGISTERS * m) (state_of w m).registers
    held zero lt = mean
    held (suc m) lt = absurd (omega (arith, lt, one))

    queued : (m : ℕ) (words : List ℕ) → slice_get ([] ∷ []) m ≡ Some words → ListMeans (Contains places) words (state_of w m).queue
    queued zero words e = let is : [] ≡ words = cc in rw (← is) (rw queue tt)
    queued (suc m) words e = absurd cc

    next : (m n : ℕ) → slice_get (serial ∷ []) m ≡ Some n → n ≡ serial_of w m
    next zero n e = let is : serial ≡ n = cc in sym is ∙ sym made
    next (suc m) n e = absurd cc

no_world : (e : World) → Contains [] e → ⊥
no_world e c = omega (arith, c.1)

none_earlier : (e : World) (name : Name) (before : Node) → Contains [] e → node_of e name ≡ Some before → free_slots before ≡ []
none_earlier e name before c was = absurd (no_world e c)

abbrev snapshot_state : MutatorState
snapshot_state = state_of snapshot 0

pub snapshot_stands : SnapshotStands
snapshot_stands rest count = (represents, roots)
  where
    represents : Represents small_layout [] NoNode (places_of chain_serials) snapshot (chain_words 64 rest)
    represents = stands chain_serials (lit≤ tt) (
      refl,
      (
        refl,
        (
          refl,
          (
            refl,
            (
              refl,
              (
                refl,
                (
                  refl,
                  (
                    refl,
                    (
                      refl,
                      (
                        refl,
                        (refl, (refl, (refl, (refl, (refl, (refl, tt)))))),
                      ),
                    ),
                  ),
                ),
              ),
            ),
          ),
        ),
      ),
    ) snapshot_state [] (chain_words 64 rest) refl (omega (arith, count)) refl refl
        (refl, (refl, (refl, (refl, (refl, (refl, (refl, (refl, (refl, (refl, (refl, (refl, (refl, (refl, (refl, (refl, tt)))))))))))))))) (
          (refl, (lit< tt, lit≤ tt), lit≤ tt, refl, (refl, tt), refl),
          (
            (refl, (refl, refl), lit≤ tt, refl, ((32, refl, (1, lit< tt, refl)), tt), refl),
            (
              (refl, (lit< tt, lit≤ tt), lit≤ tt, refl, (refl, (refl, tt)), refl),
              (
                (refl, (lit< tt, lit≤ tt), lit≤ tt, refl, ((40, refl, (3, lit< tt, refl)), (refl, tt)), refl),
                (
                  (refl, (lit< tt, lit≤ tt), lit≤ tt, refl, ((44, refl, (4, lit< tt, refl)), (refl, tt)), refl),
                  (
                    (refl, (lit< tt, lit≤ tt), lit≤ tt, refl, ((48, refl, (5, lit< tt, refl)), (refl, tt)), refl),
                    (
                      (refl, (lit< tt, lit≤ tt), lit≤ tt, refl, ((52, refl, (6, lit< tt, refl)), (refl, tt)), refl),
                      (
                        (refl, (lit< tt, lit≤ tt), lit≤ tt, refl, ((56, refl, (7, lit< tt, refl)), (refl, tt)), refl),
                        (
                          (refl, (lit< tt, lit≤ tt), lit≤ tt, refl, ((60, refl, (8, lit< tt, refl)), (refl, tt)), refl),
                          (
                            (refl, (lit< tt, lit≤ tt), lit≤ tt, refl, ((64, refl, (9, lit< tt, refl)), (refl, tt)), refl),
                            (
                              (refl, (lit< tt, lit≤ tt), lit≤ tt, refl, ((68, refl, (10, lit< tt, refl)), (refl, tt)), refl),
                              (
                                (refl, (lit< tt, lit≤ tt), lit≤ tt, refl, ((72, refl, (11, lit< tt, refl)), (refl, tt)), refl),
                                (
                                  (refl, (lit< tt, lit≤ tt), lit≤ tt, refl, ((76, refl, (12, lit< tt, refl)), (refl, tt)), refl),
                                  (
                                    (refl, (lit< tt, lit≤ tt), lit≤ tt, refl, ((80, refl, (13, lit< tt, refl)), (refl, tt)), refl),
                                    (
                                      (refl, (lit< tt, lit≤ tt), lit≤ tt, refl, ((84, refl, (14, lit< tt, refl)), (refl, tt)), refl),
                                      ((refl, (lit< tt, lit≤ tt), lit≤ tt, refl, ((88, refl, (15, lit< tt, refl)), (refl, tt)), refl), tt),
                                    ),
                                  ),
                                ),
                              ),
                            ),
                          ),
                        ),
                      ),
                    ),
                  ),
                ),
              ),
            ),
          ),
        )
        (zeros_first 32771 SHARED_MAKER (replicate SHARED_SLOTS 1) (drop 32 (chain_words 64 rest)) refl)
        none_earlier

    roots : RepresentsRoots (places_of chain_serials) snapshot (72 ∷ 13 ∷ 1 ∷ 184 ∷ replicate (REGISTERS - 4) 1) ([] ∷ []) (16 ∷ [])
    roots = roots_of (places_of chain_serials) snapshot (72 ∷ 13 ∷ 1 ∷ 184 ∷
        replicate (REGISTERS - 4) 1) 16 refl refl refl refl (rows_mean (Contains (places_of chain_serials)) (72 ∷ 13 ∷ 1 ∷ 184 ∷
        replicate (REGISTERS - 4) 1) snapshot_state.registers (
          (36, refl, (2, lit< tt, refl)),
          (refl, (refl, ((92, refl, (16, lit< tt, refl)), fills_nil (Contains (places_of chain_serials)) (REGISTERS - 4)))),
        ))

root_variable : IsWide snapshot (own 1)
root_variable = start (own 1) (inl (inr (0, (0, lit< tt, refl))))

-- the variable's words in any words for the snapshot, and no second place for a name

pub words_are_determined : (K : Name → Node → Type 0) → WordsAreDetermined K
words_are_determined K earlier words r =
    let there : Contains (places_of chain_serials) (block 1) = (2, lit< tt, refl) in
    let tracked : IsTracked snapshot earlier (own 1) = start (own 1) (snapshot, contains_head snapshot earlier, root_variable) in
    let p = placed_at small_layout earlier K (places_of chain_serials) snapshot words r (own 1) (Var (Ref (own 0))) 36 tracked refl there in
    let header : slice_index words 36 ≡ 2050 = subst (λ (k : ℕ). slice_index words k ≡ 2050) p.1 p.0.object.header in
    let fields = subst (λ (k : ℕ). HasSlots (Contains (places_of chain_serials)) words (k + HEADER_WORDS) (holds (Ref (own 0)) ∷ [])) p.1 p.0.fields in
    let means = fields 0 (holds (Ref (own 0))) refl in
    let same : means.0 ≡ 32 = ap (λ (x : Place). x.at) (r.one (record { at = means.0; name = own 0 }) (block 0) means.2 (1, lit< tt, refl) (inl refl)) in
    (header, (r.named (block 1) there).name, omega (arith, means.1, same))

pub no_second_place : (K : Name → Node → Type 0) → NoSecondPlace K
no_second_place K earlier places w words at first other second r =
    other (sym (ap (λ (x : Place). x.at) (r.one (block 0) (record { at = at; name = own 0 }) first second (inl refl))))
