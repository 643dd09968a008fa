-- The steps of a round with one opening, at a seat that holds no slot.
use Rattle.nmgc_round.proofs.Vocabulary.{◌≡◌, ℕ, ◌+◌, inr, Bool, true, false, eqb, List, [], set, refl, sym, ap, subst, some, get_elem?, Me, Allows, keeps, Command, HEADER_WORDS, word, Opening, Part, Seen, loaded, answered, swapped, met, met_at_birth, stored, gave_birth, marks_after, Keeps, Stays, AddsIfMet, IsMutator, CanScan, scanned_by, first_of, Mutates, CanLoad, CanSwap, CanStore, CanBear, CanFix, CanTake, taken, FindsFixed, FindsField, FindsQueue, FindsEntry, FindsScan, IsSafe, set_again, eqb-true, slice_index}
use Rattle.atomic_table.specs.Table.{State}
use Rattle.nmgc_round.proofs.{Fixes.fix_keeps, Fixes.fix_room, Fixes.take_keeps, Fixes.take_safe, Fixes.queue_safe, Fixes.load_safe, Fixes.swap_safe, Scans.scan_keeps, Scans.scan_finds, Moves.store_keeps, Moves.birth_keeps, Writes.load_keeps, Writes.swap_keeps, Keeping.acts, Keeping.same_law}

-- a store of the word that is already there changes nothing
pub stored_again : (ws : List ℕ) (i w : ℕ) → eqb (slice_index ws i) w ≡ true → set ws i w ≡ ws
stored_again ws i w e = rw (eqb-true (slice_index ws i) w e) at (set_again ws i)

-- a look at a word in no object yet is the store of the word that is there, or no step
pub look_keeps : (o : Opening) (words : List ℕ) (views : List Seen) (h : Keeps o words views) (id : ℕ) (v : Seen) → get_elem? views id ≡ some v →
    (p : Part) → IsMutator v p → (at w : ℕ) → CanStore o p at →
    Stays o words views h words (set views id (met v at w (eqb (slice_index words at) w)))
look_keeps o words views h id v here p is at w can = by_hit (eqb (slice_index words at) w) refl
  where
    by_hit : (hit : Bool) → eqb (slice_index words at) w ≡ hit → Stays o words views h words (set views id (met v at w hit))
    by_hit true e = rw (stored_again words at w e) at (store_keeps o words views h id v here p is at w can)
    by_hit false e = same_law o words views h id v here v (h.agrees id v here)

-- a look at the header of an object to be allocated is the allocation, or no step
pub look_bears : (o : Opening) (words : List ℕ) (views : List Seen) (h : Keeps o words views) (id : ℕ) (v : Seen) → get_elem? views id ≡ some v →
    (p : Part) → IsMutator v p → (at header : ℕ) (c : Command) → CanBear o p at header c →
    AddsIfMet o words views h p.number c (eqb (slice_index words at) header) words (set views id (met_at_birth v at header c (eqb (slice_index words at) header)))
look_bears o words views h id v here p is at header c can = by_hit (eqb (slice_index words at) header) refl
  where
    by_hit : (hit : Bool) → eqb (slice_index words at) header ≡ hit →
        AddsIfMet o words views h p.number c hit words (set views id (met_at_birth v at header c hit))
    by_hit true e = rw (stored_again words at header e) at (birth_keeps o words views h id v here p is at header c can)
    by_hit false e = same_law o words views h id v here v (h.agrees id v here)

-- so the rule holds again after it
pub look_holds : (o : Opening) (words : List ℕ) (views : List Seen) (k : Keeps o words views) (m : ℕ) (c : Command) (hit : Bool) (others : List Seen) →
    AddsIfMet o words views k m c hit words others → Keeps o words others
look_holds o words views k m c true others adds = adds.1
look_holds o words views k m c false others stays = stays.0

module _ (o : Opening) where
  abbrev holds : State (Unit {0}) Seen → Type 0
  holds s = Keeps o s.words s.views

  pub unchanged : (words : List ℕ) (views : List Seen) (i : ℕ) → Keeps o words views → Keeps o (set words i (slice_index words i)) views
  unchanged words views i h = rw (set_again words i) h

  module _ (slots id : ℕ) (me : Me (Unit {0}) Seen) (bare : me.1 ≡ []) where
    abbrev Steps : ℕ → (ℕ → ℕ) → (ℕ → Seen → Type 0) → Type 0
    Steps i f then = Allows holds slots id me i f (λ n m. then n m.0 × (m.1 ≡ []))

    pub load_allows : (at index : ℕ) (c : Command) → Mutates (λ o p. CanLoad o p at index c) me.0 →
        Steps (at + HEADER_WORDS + index) (λ n. n) (λ n w. (w ≡ answered me.0 c (word n)) × IsSafe me.0.opening n)
    load_allows at index c can s h len here small =
        let i : ℕ = at + HEADER_WORDS + index in
        let w : Seen = answered me.0 c (word (slice_index s.words i)) in
        let is = (h.agrees id me.0 here).opening (acts me.0 can.0 can.1) in (
          w,
          keeps,
          tt,
          unchanged s.words (set s.views id w) i
              (load_keeps o s.words s.views h id me.0 here can.0 can.1 at index c (rw is at can.2)).1,
          (
            (
              refl,
              rw is (load_safe o s.words s.views h id me.0 here can.0 can.1 at index c (rw is at can.2)),
            ),
            bare,
          ),
        )

    pub swap_allows : (at index new : ℕ) (c : Command) → Mutates (λ o p. CanSwap o p at index new c) me.0 →
        Steps (at + HEADER_WORDS + index) (λ _. new) (λ n w. (w ≡ swapped me.0 c n) × IsSafe me.0.opening n)
    swap_allows at index new c can s h len here small =
        let i : ℕ = at + HEADER_WORDS + index in
        let n : ℕ = slice_index s.words i in
        let is = (h.agrees id me.0 here).opening (acts me.0 can.0 can.1) in
        let can' = rw is at can.2 in (
          swapped me.0 c n,
          keeps,
          tt,
          (swap_keeps o s.words s.views h id me.0 here can.0 can.1 at index new c can').1,
          ((refl, rw is (swap_safe o s.words s.views h id me.0 here can.0 can.1 at index new c can')), bare),
        )

    pub store_allows : (i new : ℕ) → Mutates (λ o p. CanStore o p i) me.0 → Steps i (λ _. new) (λ n w. w ≡ stored me.0 i new)
    store_allows i new can s h len here small =
        let is = (h.agrees id me.0 here).opening (acts me.0 can.0 can.1) in (
          stored me.0 i new,
          keeps,
          tt,
          (store_keeps o s.words s.views h id me.0 here can.0 can.1 i new (rw is at can.2)).0,
          (refl, bare),
        )

    pub birth_allows : (at header : ℕ) (c : Command) → Mutates (λ o p. CanBear o p at header c) me.0 →
        Steps at (λ _. header) (λ n w. w ≡ gave_birth me.0 at header c)
    birth_allows at header c can s h len here small =
        let is = (h.agrees id me.0 here).opening (acts me.0 can.0 can.1) in (
          gave_birth me.0 at header c,
          keeps,
          tt,
          (birth_keeps o s.words s.views h id me.0 here can.0 can.1 at header c (rw is at can.2)).1,
          (refl, bare),
        )

    pub meet_allows : (i wanted : ℕ) → Mutates (λ o p. CanStore o p i) me.0 → Steps i (λ n. n) (λ n w. w ≡ met me.0 i wanted (eqb n wanted))
    meet_allows i wanted can s h len here small =
        let w : Seen = met me.0 i wanted (eqb (slice_index s.words i) wanted) in
        let is = (h.agrees id me.0 here).opening (acts me.0 can.0 can.1) in
        let can' = rw is at can.2 in
        (w, keeps, tt, unchanged s.words (set s.views id w) i (look_keeps o s.words s.views h id me.0 here can.0 can.1 i wanted can').0, (refl, bare))

    pub meet_birth_allows : (at header : ℕ) (c : Command) → Mutates (λ o p. CanBear o p at header c) me.0 →
        Steps at (λ n. n) (λ n w. w ≡ met_at_birth me.0 at header c (eqb n header))
    meet_birth_allows at header c can s h len here small =
        let hit : Bool = eqb (slice_index s.words at) header in
        let w : Seen = met_at_birth me.0 at header c hit in
        let is = (h.agrees id me.0 here).opening (acts me.0 can.0 can.1) in
        let can' = rw is at can.2 in
        let k = look_bears o s.words s.views h id me.0 here can.0 can.1 at header c can' in (
          w,
          keeps,
          tt,
          unchanged s.words (set s.views id w) at (look_holds o s.words s.views h can.0.number c hit (set s.views id w) k),
          (refl, bare),
        )

    pub fix_allows : (at offset : ℕ) → Mutates (λ o p. CanFix o p at offset) me.0 →
        Steps (at + offset) (λ n. n) (λ n w. (w ≡ loaded me.0 at offset n) × FindsFixed me.0.opening at offset n)
    fix_allows at offset can s h len here small =
        let n : ℕ = slice_index s.words (at + offset) in
        let is = (h.agrees id me.0 here).opening (acts me.0 can.0 can.1) in
        let can' = rw is at can.2 in (
          loaded me.0 at offset n,
          keeps,
          tt,
          unchanged s.words (set s.views id (loaded me.0 at offset n)) (at + offset) (fix_keeps o s.words s.views h id me.0 here can.0 can.1 at offset can').0,
          ((refl, rw is (fix_room o s.words s.views h id me.0 here can.0 can.1 at offset can')), bare),
        )

    pub take_allows : (at offset : ℕ) (c : Command) → Mutates (λ o p. CanTake o p at offset c) me.0 →
        Steps (at + offset) (λ n. n) (λ n w. (w ≡ taken me.0 at offset c n) × FindsField me.0.opening offset n × Mutates FindsQueue me.0)
    take_allows at offset c can s h len here small =
        let n : ℕ = slice_index s.words (at + offset) in
        let is = (h.agrees id me.0 here).opening (acts me.0 can.0 can.1) in
        let can' = rw is at can.2 in (
          taken me.0 at offset c n,
          keeps,
          tt,
          unchanged s.words (set s.views id (taken me.0 at offset c n)) (at + offset)
              (take_keeps o s.words s.views h id me.0 here can.0 can.1 at offset c can').1,
          (
            (
              refl,
              rw is (take_safe o s.words s.views h id me.0 here can.0 can.1 at offset c can'),
              (can.0, can.1, rw is (queue_safe o s.words s.views h id me.0 here can.0 can.1)),
            ),
            bare,
          ),
        )

    pub scan_allows : (at offset : ℕ) → CanScan me.0 at offset → Steps (at + offset) (λ n. n) (λ n w. (w ≡ scanned_by me.0 n) × FindsScan me.0 n)
    scan_allows at offset can s h len here small =
        let n : ℕ = slice_index s.words (at + offset) in
        let is = (h.agrees id me.0 here).opening (inr can.collects) in
        let first : first_of (marks_after me.0.opening me.0.scans).queue ≡ can.entry = ap first_of can.first in
        let shows = subst (λ (y : Opening). FindsEntry y can.entry n) (sym is) (scan_finds o s.words s.views h id me.0 here at offset can) in (
          scanned_by me.0 n,
          keeps,
          tt,
          unchanged s.words (set s.views id (scanned_by me.0 n)) (at + offset) (scan_keeps o s.words s.views h id me.0 here at offset can).1,
          ((refl, rw first shows), bare),
        )
