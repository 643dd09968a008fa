-- The further kinds of step, lifted to the table's rule for any opening of the round.
use Rattle.nmgc_round.proofs.Vocabulary.{◌≡◌, ◌≢◌, ℕ, ◌+◌, Bool, true, false, eqb, List, [], set, refl, sym, slice_index, either, Me, Allows, keeps, Command, HEADER_WORDS, SHARED_PLACE, Seen, Mutates, CanExchange, exchanged, words_exchanged, IsSafe, CanForce, CanUpdate, forced, updated, CanPeek, CanSlot, FindsSlot, slot_swapped, IsRefusedSlot, slot_refused, CanDeref, CanFinalise, finaliser_named, weak_read, weak_taken, set_again}
use Rattle.nmgc_round.proofs.{Allows.unchanged, Modes.holding, Modes.within, Keeping.acts, Exchanges.exchange_keeps, Thunks.force_keeps, Thunks.force_safe, Thunks.update_keeps, Barred.barred_keeps, Pushes.peek_keeps, Pushes.slot_keeps, Pushes.slot_safe, Weakens.deref_keeps, Weakens.deref_safe, Weakens.finalise_keeps, Weakens.finalise_safe}

-- the words that a compare-exchange leaves
exchanged_words : (words : List ℕ) (i expected w : ℕ) (hit : Bool) → eqb (slice_index words i) expected ≡ hit →
    words_exchanged words i w hit ≡ set words i (either hit w (slice_index words i))
exchanged_words words i expected w true e = refl
exchanged_words words i expected w false e = sym (set_again words i)

module _ (slots id : ℕ) (me : Me (Unit {0}) Seen) (bare : me.1 ≡ []) where
  abbrev Steps : ℕ → (ℕ → ℕ) → (ℕ → Seen → Type 0) → Type 0
  Steps i f then = Allows holding slots id me i f (λ n m. then n m.0 × (m.1 ≡ []))

  pub exchange_allows : (at index expected w : ℕ) (c : Command) → Mutates (λ o p. CanExchange o p at index expected w c) me.0 →
      Steps (at + HEADER_WORDS + index) (λ n. either (eqb n expected) w n) (λ n u. u ≡ exchanged me.0 c expected (eqb n expected))
  exchange_allows at index expected w c can = within slots id me bare i (λ n. either (eqb n expected) w n) (λ n u. u ≡
      exchanged me.0 c expected (eqb n expected)) (acts me.0 can.0 can.1) (λ o s h len here small.
      let n : ℕ = slice_index s.words i in
      let hit : Bool = eqb n expected in
      let u : Seen = exchanged me.0 c expected hit in
      let is = (h.agrees id me.0 here).opening (acts me.0 can.0 can.1) in
      let k = exchange_keeps o s.words s.views h id me.0 here can.0 can.1 at index expected w c (rw is at can.2) in
      (u, keeps, tt, rw (exchanged_words s.words i expected w hit refl) at k.1, (refl, bare)))
    where
      i : ℕ
      i = at + HEADER_WORDS + index

  pub force_allows : (at : ℕ) (c : Command) → Mutates (λ o p. CanForce o p at c) me.0 →
      Steps (at + HEADER_WORDS) (λ n. n) (λ n u. (u ≡ forced me.0 c n) × (n ≢ 0 → IsSafe me.0.opening n))
  force_allows at c can = within slots id me bare (at + HEADER_WORDS) (λ n. n) (λ n u. (u ≡ forced me.0 c n) ×
      (n ≢ 0 → IsSafe me.0.opening n)) (acts me.0 can.0 can.1) (λ o s h len here small.
      let n : ℕ = slice_index s.words (at + HEADER_WORDS) in
      let u : Seen = forced me.0 c n in
      let is = (h.agrees id me.0 here).opening (acts me.0 can.0 can.1) in
      let can' = rw is at can.2 in
      let k = force_keeps o s.words s.views h id me.0 here can.0 can.1 at c can' in (
        u,
        keeps,
        tt,
        unchanged o s.words (set s.views id u) (at + HEADER_WORDS) k.1,
        ((refl, λ ne. rw is (force_safe o s.words s.views h id me.0 here can.0 can.1 at c can' ne)), bare),
      ))

  pub update_allows : (at w : ℕ) (c : Command) → Mutates (λ o p. CanUpdate o p at w c) me.0 →
      Steps (at + HEADER_WORDS) (λ n. either (eqb n 0) w n) (λ n u. u ≡ updated me.0 at c (eqb n 0))
  update_allows at w c can = within slots id me bare (at + HEADER_WORDS) (λ n. either (eqb n 0) w n) (λ n u. u ≡
      updated me.0 at c (eqb n 0)) (acts me.0 can.0 can.1) (λ o s h len here small.
      let n : ℕ = slice_index s.words (at + HEADER_WORDS) in
      let u : Seen = updated me.0 at c (eqb n 0) in
      let is = (h.agrees id me.0 here).opening (acts me.0 can.0 can.1) in
      let k = update_keeps o s.words s.views h id me.0 here can.0 can.1 at w c (rw is at can.2) in
      (u, keeps, tt, rw (exchanged_words s.words (at + HEADER_WORDS) 0 w (eqb n 0) refl) at k.1, (refl, bare)))

  pub deref_allows : (at : ℕ) (c : Command) → Mutates (λ o p. CanDeref o p at c) me.0 →
      Steps (at + HEADER_WORDS + 1) (λ n. n) (λ n u. (u ≡ weak_read me.0 c n) × (n ≢ 0 → IsSafe me.0.opening n))
  deref_allows at c can = within slots id me bare (at + HEADER_WORDS + 1) (λ n. n) (λ n u. (u ≡ weak_read me.0 c n) ×
      (n ≢ 0 → IsSafe me.0.opening n)) (acts me.0 can.0 can.1) (λ o s h len here small.
      let i : ℕ = at + HEADER_WORDS + 1 in
      let n : ℕ = slice_index s.words i in
      let u : Seen = weak_read me.0 c n in
      let is = (h.agrees id me.0 here).opening (acts me.0 can.0 can.1) in
      let can' = rw is at can.2 in
      let k = deref_keeps o s.words s.views h id me.0 here can.0 can.1 at c can' in (
        u,
        keeps,
        tt,
        unchanged o s.words (set s.views id u) i k.1,
        ((refl, λ ne. rw is (deref_safe o s.words s.views h id me.0 here can.0 can.1 at c can' ne)), bare),
      ))

  pub finalise_allows : (at : ℕ) (c : Command) → Mutates (λ o p. CanFinalise o p at c) me.0 →
      Steps (at + HEADER_WORDS + 1) (λ n. 0) (λ n u. (u ≡ weak_taken me.0 at c n) × (n ≢ 0 → Mutates (λ o p. IsSafe o (finaliser_named at p)) me.0))
  finalise_allows at c can = within slots id me bare (at + HEADER_WORDS + 1) (λ n. 0) (λ n u. (u ≡ weak_taken me.0 at c n) ×
      (n ≢ 0 → Mutates (λ o p. IsSafe o (finaliser_named at p)) me.0)) (acts me.0 can.0 can.1) (λ o s h len here small.
      let i : ℕ = at + HEADER_WORDS + 1 in
      let n : ℕ = slice_index s.words i in
      let u : Seen = weak_taken me.0 at c n in
      let is = (h.agrees id me.0 here).opening (acts me.0 can.0 can.1) in
      let can' = rw is at can.2 in
      let k = finalise_keeps o s.words s.views h id me.0 here can.0 can.1 at c can' in (
        u,
        keeps,
        tt,
        k.1,
        (
          (
            refl,
            λ ne. (
              can.0,
              can.1,
              rw is (finalise_safe o s.words s.views h id me.0 here can.0 can.1 at c can' ne),
            ),
          ),
          bare,
        ),
      ))

  pub peek_allows : (at slot : ℕ) → Mutates (λ o p. CanPeek o p at slot) me.0 →
      Steps (at + HEADER_WORDS + slot) (λ n. n) (λ n u. (u ≡ me.0) × Mutates (λ o p. FindsSlot o p at slot n) me.0)
  peek_allows at slot can = within slots id me bare (at + HEADER_WORDS + slot) (λ n. n) (λ n u. (u ≡ me.0) ×
      Mutates (λ o p. FindsSlot o p at slot n) me.0) (acts me.0 can.0 can.1) (λ o s h len here small.
      let i : ℕ = at + HEADER_WORDS + slot in
      let n : ℕ = slice_index s.words i in
      let is = (h.agrees id me.0 here).opening (acts me.0 can.0 can.1) in
      let k = peek_keeps o s.words s.views h id me.0 here can.0 can.1 at slot (rw is at can.2) in (
        me.0,
        keeps,
        tt,
        unchanged o s.words (set s.views id me.0) i k.0.0,
        ((refl, (can.0, can.1, rw is k.1)), bare),
      ))

  pub slot_allows : (at slot w : ℕ) (c : Command) → Mutates (λ o p. CanSlot o p at slot w c) me.0 →
      Steps (at + HEADER_WORDS + slot) (λ n. w) (λ n u. (u ≡ slot_swapped me.0 c n) × IsSafe me.0.opening n)
  slot_allows at slot w c can = within slots id me bare (at + HEADER_WORDS + slot) (λ n. w) (λ n u. (u ≡ slot_swapped me.0 c n) ×
      IsSafe me.0.opening n) (acts me.0 can.0 can.1) (λ o s h len here small.
      let i : ℕ = at + HEADER_WORDS + slot in
      let n : ℕ = slice_index s.words i in
      let u : Seen = slot_swapped me.0 c n in
      let is = (h.agrees id me.0 here).opening (acts me.0 can.0 can.1) in
      let can' = rw is at can.2 in (
        u,
        keeps,
        tt,
        (slot_keeps o s.words s.views h id me.0 here can.0 can.1 at slot w c can').1,
        ((refl, rw is (slot_safe o s.words s.views h id me.0 here can.0 can.1 at slot w c can')), bare),
      ))

  pub barred_allows : (at : ℕ) (c : Command) → Mutates (λ o p. IsRefusedSlot o p at c) me.0 →
      Steps SHARED_PLACE (λ n. n) (λ n u. u ≡ slot_refused me.0 c n)
  barred_allows at c can = within slots id me bare SHARED_PLACE (λ n. n) (λ n u. u ≡
      slot_refused me.0 c n) (acts me.0 can.0 can.1) (λ o s h len here small.
      let n : ℕ = slice_index s.words SHARED_PLACE in
      let u : Seen = slot_refused me.0 c n in
      let is = (h.agrees id me.0 here).opening (acts me.0 can.0 can.1) in
      let k = barred_keeps o s.words s.views h id me.0 here can.0 can.1 at c (rw is at can.2) in
      (u, keeps, tt, unchanged o s.words (set s.views id u) SHARED_PLACE k.1, (refl, bare)))
