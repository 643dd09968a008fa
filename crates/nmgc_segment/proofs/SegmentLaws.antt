-- The steps that keep a segment's invariant, and the blocks in use after each.
use Rattle.nmgc_segment.proofs.Vocabulary.{ℕ, ◌≡◌, ◌≢◌, ◌<◌, ◌≤◌, ◌*◌, ◌/◌, ◌↔◌, ◌∙◌, ◌⊎◌, inl, inr, ap, subst, sym, arith, List, length, slice_index, map, take, drop, ◌++◌, Bool, IsTrue, take_at, cases_eq, cases_lt, le-div_iff_mul-le, block_size, State, Free, Current, IsEpoch, carried, swept, IsFirstUnmarked, class_few, least_block, few_blocks, mark-map, all_carried, swept_bounds, swept_is, zero_swept, ShowsMarked, Segment, IsSegment, IsUnused, HasBlocks, InUse, IsMarked, block_count, segment_words, mark_of}
use Rattle.std.proofs.Math.ListN.{length-map}

-- no block is in use
pub unused_from : (s : Segment) → ((b : ℕ) → InUse s b → ⊥) → IsUnused s
unused_from s none = record {
  next_free = elim (cases_eq s.next_free 0) [ inl e ↦ e | inr ne ↦ absurd (none 0 (inl (omega arith))) ];
  unmarked = λ b. elim (cases_eq (mark_of s b) 0) [ inl e ↦ e | inr ne ↦ absurd (none b (inr ne)) ];
}

-- a change of state
pub in_state : (s : Segment) (state : State) → IsSegment s → (state ≡ Free → IsUnused s) → IsSegment (record s { state = state })
in_state s state h free = record {
  class = h.class;
  fits = h.fits;
  words = h.words;
  snap = h.snap;
  next_free = h.next_free;
  next_unmarked = h.next_unmarked;
  bytes = h.bytes;
  no_block = h.no_block;
  free = λ e. record { next_free = (free e).next_free; unmarked = (free e).unmarked };
}

-- the same, with the premises about the segment as a caller sees it
pub in_state_from : (s now : Segment) (state : State) → s ≡ now → IsSegment s → (state ≡ Free → (b : ℕ) → InUse now b → ⊥) →
    IsSegment (record s { state = state })
in_state_from s now state e h none = in_state s state h (λ f. unused_from s (subst (λ (t : Segment). (b : ℕ) → InUse t b → ⊥) (sym e) (none f)))

pub has_blocks : (s : Segment) (blocks : ℕ) → blocks ≡ block_count s → HasBlocks s blocks
has_blocks s blocks is = record { count = is; marked = omega (arith, few_blocks s) }

-- the first use of a segment
pub begun : (s : Segment) (mutator class : ℕ) → IsSegment s → s.state ≡ Free → block_size class ≤ segment_words s →
    IsSegment (record s { class = class; state = Current mutator })
begun s mutator class h is fits =
    let unused = h.free is in
    record {
      class = class_few class (omega (arith, h.words));
      fits = fits;
      words = h.words;
      snap = h.snap;
      next_free = omega (arith, unused.next_free);
      next_unmarked = unused.unmarked s.next_free;
      bytes = h.bytes;
      no_block = λ b _. unused.unmarked b;
      free = λ e. absurd (cc);
    }

pub begun_from : (s now : Segment) (mutator class : ℕ) → s ≡ now → IsSegment s → now.state ≡ Free → block_size class ≤ segment_words now →
    IsSegment (record s { class = class; state = Current mutator })
begun_from s now mutator class e h is fits = begun s mutator class h (ap (λ (t : Segment). t.state) e ∙
    is) (subst (λ (t : Segment). block_size class ≤ segment_words t) (sym e) fits)

-- the mark bytes after a function has changed each of them in place
pub remarked : (items slice new : List ℕ) (len : ℕ) (f : ℕ → ℕ) → slice ≡ items → length slice ≡ len → new ≡ map f slice →
    map f items ≡ take len (new ++ drop (length new) items)
remarked items slice new len f same size is =
    let length_is : length new ≡ len = ap length is ∙ length-map slice f ∙ size in
    sym (take_at new (drop (length new) items) len length_is ∙ is ∙ ap (map f) same)

pub carried_to : (s : Segment) (blocks epoch : ℕ) (marks : List ℕ) → IsEpoch epoch → IsSegment s × HasBlocks s blocks →
    map (carried epoch) s.marks ≡ marks → IsSegment (record s { marks = marks }) × HasBlocks (record s { marks = marks }) blocks
carried_to s blocks epoch marks e h is =
    let P : List ℕ → Type 0 = λ ms. IsSegment (record s { marks = ms }) × HasBlocks (record s { marks = ms }) blocks in
    subst P is (all_carried s epoch e h.0, record { count = rw length-map h.1.count; marked = rw length-map h.1.marked })

-- a byte is nonzero after a sweep if and only if it was the epoch
kept_byte : (s : Segment) (epoch : ℕ) → IsEpoch epoch → IsSegment s → (b : ℕ) → (slice_index (map (swept epoch) s.marks) b ≢ 0) ↔ (mark_of s b ≡ epoch)
kept_byte s epoch e h b =
    subst (λ (m : ℕ). (m ≢ 0) ↔
    (mark_of s b ≡ epoch)) (sym (mark-map (swept epoch) s.marks b (zero_swept epoch e))) (swept_bounds epoch (mark_of s b) e (h.bytes b)).2

-- the blocks that a sweep leaves in use
swept_use : (s : Segment) (blocks epoch at : ℕ) → IsEpoch epoch → IsSegment s → IsFirstUnmarked (map (swept epoch) s.marks) 0 blocks at → (b : ℕ) →
    InUse (record s { marks = map (swept epoch) s.marks; next_free = at; snap = 0 }) b ↔ (mark_of s b ≡ epoch)
swept_use s blocks epoch at e h first b = (
  (λ used. elim used [ inl below ↦ (kept_byte s epoch e h b).0 (first.before b (omega arith) below) | inr marked ↦ (kept_byte s epoch e h b).0 marked ]),
  (λ marked. inr ((kept_byte s epoch e h b).1 marked)),
)

-- a swept segment
all_swept : (s : Segment) (blocks epoch at : ℕ) → IsEpoch epoch → IsSegment s → HasBlocks s blocks →
    IsFirstUnmarked (map (swept epoch) s.marks) 0 blocks at → IsSegment (record s { marks = map (swept epoch) s.marks; next_free = at; snap = 0 })
all_swept s blocks epoch at e h n first =
    let is = λ (b : ℕ). mark-map (swept epoch) s.marks b (zero_swept epoch e) in
    let bounds = λ (b : ℕ). swept_bounds epoch (mark_of s b) e (h.bytes b) in
    let zero = λ (b : ℕ) (z : mark_of s b ≡ 0). is b ∙ (bounds b).1 z in
    record {
      class = h.class;
      fits = rw length-map h.fits;
      words = rw length-map h.words;
      snap = omega arith;
      next_free = rw length-map (omega (arith, first.within, n.count));
      next_unmarked = elim (cases_lt at blocks) [ inl lt ↦ first.found lt | inr ge ↦ zero at (h.no_block at (omega (arith, n.count))) ];
      bytes = λ b. rw (is b) (bounds b).0;
      no_block = λ b out. zero b (h.no_block b (rw length-map at out));
      free = λ f. record {
        next_free = elim (cases_eq at 0) [ inl z ↦ z | inr nz ↦ absurd (first.before 0 (omega arith) (omega arith) (zero 0 ((h.free f).unmarked 0))) ];
        unmarked = λ b. zero b ((h.free f).unmarked b);
      };
    }

-- the same for the code's vectors
pub swept_to : (s : Segment) (blocks epoch at : ℕ) (marks slice : List ℕ) → IsEpoch epoch → IsSegment s × HasBlocks s blocks →
    map (swept epoch) s.marks ≡ marks → slice ≡ marks → IsFirstUnmarked slice 0 blocks at →
    IsSegment (record s { marks = marks; next_free = at; snap = 0 }) × HasBlocks (record s { marks = marks; next_free = at; snap = 0 }) blocks
swept_to s blocks epoch at marks slice e h is same first =
    let P : List ℕ → Type 0 = λ ms. IsSegment (record s { marks = ms; next_free = at; snap = 0 }) ×
    HasBlocks (record s { marks = ms; next_free = at; snap = 0 }) blocks in
    let here = subst (λ (ms : List ℕ). IsFirstUnmarked ms 0 blocks at) (same ∙ sym is) first in
    subst P is (all_swept s blocks epoch at e h.0 h.1 here, record { count = rw length-map h.1.count; marked = rw length-map h.1.marked })

pub swept_use_to : (s now : Segment) (blocks epoch at : ℕ) (marks slice : List ℕ) → s ≡ now → IsEpoch epoch → IsSegment s →
    map (swept epoch) s.marks ≡ marks → slice ≡ marks → IsFirstUnmarked slice 0 blocks at → (b : ℕ) →
    InUse (record s { marks = marks; next_free = at; snap = 0 }) b ↔ IsMarked now epoch b
swept_use_to s now blocks epoch at marks slice seen e h is same first =
    let P : List ℕ → Segment → Type 0 = λ ms t. (b : ℕ) → InUse (record s { marks = ms; next_free = at; snap = 0 }) b ↔ IsMarked t epoch b in
    let here = subst (λ (ms : List ℕ). IsFirstUnmarked ms 0 blocks at) (same ∙ sym is) first in
    subst (λ (t : Segment). P marks t) seen (subst (λ (ms : List ℕ). P ms s) is (swept_use s blocks epoch at e h here))

through : {P Q R : Type 0} → (P ↔ Q) → (Q ↔ R) → P ↔ R
through f g = ((λ p. g.0 (f.0 p)), (λ r. f.1 (g.1 r)))

-- each nonzero byte after a sweep is the epoch
pub left_is : (s : Segment) (epoch : ℕ) (marks slice : List ℕ) → IsEpoch epoch → IsSegment s → map (swept epoch) s.marks ≡ marks → slice ≡ marks →
    (b : ℕ) → slice_index slice b ≢ 0 → slice_index slice b ≡ epoch
left_is s epoch marks slice e h is same =
    let P : List ℕ → Type 0 = λ ms. (b : ℕ) → slice_index ms b ≢ 0 → slice_index ms b ≡ epoch in
    subst P (is ∙ sym same) (λ b nz. mark-map (swept epoch) s.marks b (zero_swept epoch e) ∙
    (swept_is epoch (mark_of s b) e).1 ((kept_byte s epoch e h b).0 nz))

-- a block before the first unmarked one is marked
pub first_left : (marks slice other : List ℕ) (blocks first : ℕ) → slice ≡ marks → other ≡ marks → IsFirstUnmarked slice 0 blocks first →
    first ≢ 0 → slice_index other 0 ≢ 0
first_left marks slice other blocks first is same unmarked some z =
    unmarked.before 0 (omega arith) (omega (arith, some)) (ap (λ (ms : List ℕ). slice_index ms 0) (is ∙ sym same) ∙ z)

-- a segment has at least one block
some_block : (s : Segment) → IsSegment s → 0 < block_count s
some_block s h =
    let pos : 0 < block_size s.class = omega (arith, least_block s.class) in
    (le-div_iff_mul-le pos).1 (omega (arith, h.fits))

-- no block is in use if none is marked and `next_free` is 0
pub none_used : (s : Segment) (marked : Bool) (P : Type 0) → ShowsMarked s.marks marked → P ↔ ((¬ IsTrue marked) × (s.next_free ≡ 0)) → P ↔
    ((b : ℕ) → InUse s b → ⊥)
none_used s marked P agrees answer = through answer (
  (λ none b used. elim used [ inl below ↦ omega (arith, below, none.1) | inr nz ↦ none.0 (agrees.1 (b, nz)) ]),
  (λ none. ((λ yes. let w = agrees.0 yes in none w.0 (inr w.1)), (unused_from s none).next_free)),
)

-- all blocks are in use if `next_free` is the number of blocks
pub all_used : (s : Segment) (blocks : ℕ) (marked : Bool) (P : Type 0) → IsSegment s → HasBlocks s blocks → P ↔
    ((s.next_free ≡ blocks) × (IsTrue marked ⊎ (s.next_free ≢ 0))) → P ↔ ((b : ℕ) → b < block_count s → InUse s b)
all_used s blocks marked P h n answer = through answer (
  (λ all b inside. inl (omega (arith, all.0, n.count, inside))),
  (λ all.
      let full : s.next_free ≡ blocks = elim (cases_lt s.next_free (block_count s)) [
        | inl lt ↦ elim (all s.next_free lt) [
          | inl below ↦ absurd (omega (arith, below))
          | inr marked ↦ absurd (marked h.next_unmarked)
        ]
        | inr ge ↦ omega (arith, ge, h.next_free, n.count)
      ] in
      (full, inr (omega (arith, full, some_block s h, n.count)))),
)

-- a sweep keeps the number of blocks
pub swept_blocks : (s now : Segment) (epoch at : ℕ) (marks : List ℕ) → s ≡ now → map (swept epoch) s.marks ≡ marks →
    block_count (record s { marks = marks; next_free = at; snap = 0 }) ≡ block_count now
swept_blocks s now epoch at marks seen is =
    ap (λ (n : ℕ). 4 * n / block_size s.class) (sym (ap (λ (ms : List ℕ). length ms) is) ∙ length-map s.marks (swept epoch)) ∙
    ap (λ (t : Segment). block_count t) seen

-- if exactly the marked blocks are now in use, none is in use exactly if none was marked, and likewise for all
pub none_marked : (old new : Segment) (epoch : ℕ) (P : Type 0) → ((b : ℕ) → InUse new b ↔ IsMarked old epoch b) → P ↔ ((b : ℕ) → InUse new b → ⊥) →
    P ↔ ((b : ℕ) → IsMarked old epoch b → ⊥)
none_marked old new epoch P same answer = (
  (λ p b marked. answer.0 p b ((same b).1 marked)),
  (λ none. answer.1 (λ b used. none b ((same b).0 used))),
)

pub all_marked : (old new : Segment) (epoch : ℕ) (P : Type 0) → block_count new ≡ block_count old → ((b : ℕ) → InUse new b ↔ IsMarked old epoch b) →
    P ↔ ((b : ℕ) → b < block_count new → InUse new b) → P ↔ ((b : ℕ) → b < block_count old → IsMarked old epoch b)
all_marked old new epoch P blocks same answer = (
  (λ p b inside. (same b).0 (answer.0 p b (omega (arith, inside, blocks)))),
  (λ all. answer.1 (λ b inside. (same b).1 (all b (omega (arith, inside, blocks))))),
)
