-- Placing an object leaves the blocks in use, and adds one that shares no word with them. No mark changes.
use Rattle.std.specs.Prelude.{◌≡◌, ◌≢◌, ◌+◌, ◌*◌, ◌/◌, ◌<◌, ◌≤◌, ◌⊎◌}
use Rattle.nmgc_stop_spec.specs.laws.Vocabulary.{ℕ, ◌∙◌, inl, inr, refl, ap, subst, sym, arith, List, length, length-set, cases_eq, Layout, block_size, Segment, InUse, block_count, segment_words, Free, Current, Filled, nth, Segments, block_place, IsSegments, Allocates, nth-set_other, blocks_lie_apart, IsOccupied, KeepsMarks}

module _ (s new : Segments) (m c at : ℕ) (sound : IsSegments s) (after : IsSegments new) (a : Allocates s new m c at) where
  within : a.number < length s.segments
  within = elim a.chosen [ inl own ↦ own.exists | inr (inl active) ↦ active.least.exists | inr (inr free) ↦ free.least.exists ]

  count : length new.segments ≡ length s.segments
  count = ap length a.others ∙ length-set s.segments a.number (nth new.segments a.number)

  class_is : (nth new.segments a.number).class ≡ c
  class_is = ap (λ (x : Segment). x.class) a.takes.rest

  marks_are : (nth new.segments a.number).marks ≡ (nth s.segments a.number).marks
  marks_are = ap (λ (x : Segment). x.marks) a.takes.rest

  not_free : (nth new.segments a.number).state ≢ Free
  not_free e = elim a.takes.state [
    | inl same ↦ let f : Current m ≡ Free = sym same.1 ∙ e in cc
    | inr full ↦ let f : Filled ≡ Free = sym full.1 ∙ e in cc
  ]

  class_was : (nth s.segments a.number).state ≢ Free → (nth s.segments a.number).class ≡ c
  class_was ne = elim a.chosen [
    | inl own ↦ own.is.1
    | inr (inl active) ↦ active.least.is.1
    | inr (inr free) ↦ absurd (ne free.least.is)
  ]

  blocks_are : block_count (nth new.segments a.number) ≡ 4 * length (nth s.segments a.number).marks / block_size c
  blocks_are = ap (λ (k : ℕ). segment_words (nth new.segments a.number) / block_size k) class_is ∙ ap (λ (xs : List ℕ). 4 * length xs / block_size c) marks_are

  other : (k : ℕ) → k ≢ a.number → nth new.segments k ≡ nth s.segments k
  other k ne = ap (λ (xs : List Segment). nth xs k) a.others ∙ nth-set_other s.segments a.number k (nth new.segments a.number) ne

  -- the new block
  pub occupies : IsOccupied new at (block_size c)
  occupies = record {
    number = a.number;
    block = a.block;
    begins = record {
      exists = omega (arith, within, count);
      used = not_free;
      within = let e = a.takes.first.exists in omega (arith, e, blocks_are);
      place = a.place ∙ ap (λ (l : Layout). block_place l a.number c a.block) (sym a.layout) ∙
          ap (λ (k : ℕ). block_place new.layout a.number k a.block) (sym class_is);
    };
    used = (a.takes.used a.block).1 (inr refl);
    words = ap block_size (sym class_is);
  }

  -- a block in use stays in use, and isn't the new block
  pub stays_occupied : (p size : ℕ) → (o : IsOccupied s p size) → (h : IsOccupied new p size) × (((h.number ≡ a.number) × (h.block ≡ a.block)) → ⊥)
  stays_occupied p size o = elim (cases_eq o.number a.number) [
    | inr ne ↦
        let same = other o.number ne in
        let seg : Segment = nth s.segments o.number in (
          record {
            number = o.number;
            block = o.block;
            begins = record {
              exists = omega (arith, count, o.begins.exists);
              used = subst (λ (x : Segment). x.state ≢ Free) (sym same) o.begins.used;
              within = subst (λ (x : Segment). o.block < block_count x) (sym same) o.begins.within;
              place = o.begins.place ∙ ap (λ (l : Layout). block_place l o.number (nth s.segments o.number).class o.block) (sym a.layout) ∙
                  ap (λ (x : Segment). block_place new.layout o.number x.class o.block) (sym same);
            };
            used = subst (λ (x : Segment). InUse x o.block) (sym same) o.used;
            words = o.words ∙ ap (λ (x : Segment). block_size x.class) (sym same);
          },
          λ e. ne e.0,
        )
    | inl e ↦
        let used = subst (λ (k : ℕ). InUse (nth s.segments k) o.block) e o.used in
        let state = subst (λ (k : ℕ). (nth s.segments k).state ≢ Free) e o.begins.used in
        let inside = subst (λ (k : ℕ). o.block < block_count (nth s.segments k)) e o.begins.within in
        let was = class_was state in
        let blocks : block_count (nth s.segments a.number) ≡ 4 * length (nth s.segments a.number).marks / block_size c =
        ap (λ (k : ℕ). segment_words (nth s.segments a.number) / block_size k) was in
        let class : (nth s.segments o.number).class ≡ (nth new.segments a.number).class = ap (λ (k : ℕ). (nth s.segments k).class) e ∙ was ∙ sym class_is in (
          record {
            number = a.number;
            block = o.block;
            begins = record {
              exists = omega (arith, within, count);
              used = not_free;
              within = omega (arith, inside, blocks, blocks_are);
              place = o.begins.place ∙ ap (λ (l : Layout). block_place l o.number (nth s.segments o.number).class o.block) (sym a.layout) ∙
                  ap (λ (k : ℕ). block_place new.layout k (nth s.segments o.number).class o.block) e ∙
                  ap (λ (k : ℕ). block_place new.layout a.number k o.block) class;
            };
            used = (a.takes.used o.block).1 (inl used);
            words = o.words ∙ ap block_size class;
          },
          λ h. a.takes.first.unused (subst (λ (k : ℕ). InUse (nth s.segments a.number) k) h.1 used),
        )
  ]

  -- a block in use was in use before, or is the new block
  pub only_occupied : (p size : ℕ) → IsOccupied new p size → IsOccupied s p size ⊎ (p ≡ at)
  only_occupied p size o = elim (cases_eq o.number a.number) [
    | inr ne ↦
        let same = other o.number ne in
        inl (record {
          number = o.number;
          block = o.block;
          begins = record {
            exists = omega (arith, count, o.begins.exists);
            used = subst (λ (x : Segment). x.state ≢ Free) same o.begins.used;
            within = subst (λ (x : Segment). o.block < block_count x) same o.begins.within;
            place = o.begins.place ∙ ap (λ (l : Layout). block_place l o.number (nth new.segments o.number).class o.block) a.layout ∙
                ap (λ (x : Segment). block_place s.layout o.number x.class o.block) same;
          };
          used = subst (λ (x : Segment). InUse x o.block) same o.used;
          words = o.words ∙ ap (λ (x : Segment). block_size x.class) same;
        })
    | inl e ↦
        let used = subst (λ (k : ℕ). InUse (nth new.segments k) o.block) e o.used in
        let inside = subst (λ (k : ℕ). o.block < block_count (nth new.segments k)) e o.begins.within in
        let place : p ≡ block_place s.layout a.number c o.block = o.begins.place ∙
        ap (λ (l : Layout). block_place l o.number (nth new.segments o.number).class o.block) a.layout ∙
        ap (λ (k : ℕ). block_place s.layout k (nth new.segments k).class o.block) e ∙ ap (λ (k : ℕ). block_place s.layout a.number k o.block) class_is in
        let words : size ≡ block_size c = o.words ∙ ap (λ (k : ℕ). block_size (nth new.segments k).class) e ∙ ap block_size class_is in
        elim ((a.takes.used o.block).0 used) [
          | inr here ↦ inr (place ∙ ap (λ (k : ℕ). block_place s.layout a.number c k) here ∙ sym a.place)
          | inl was ↦
              let in_use : InUse (nth s.segments a.number) o.block = was in
              let state : (nth s.segments a.number).state ≢ Free = λ f. let unused = (sound.members a.number within).sound.free f in elim in_use [
                | inl low ↦ let none = unused.next_free in omega (arith, low, none)
                | inr marked ↦ marked (unused.unmarked o.block)
              ] in
              let class = class_was state in
              let blocks : block_count (nth s.segments a.number) ≡ 4 * length (nth s.segments a.number).marks / block_size c =
              ap (λ (k : ℕ). segment_words (nth s.segments a.number) / block_size k) class in
              inl (record {
                number = a.number;
                block = o.block;
                begins = record {
                  exists = within;
                  used = state;
                  within = omega (arith, inside, blocks, blocks_are);
                  place = place ∙ ap (λ (k : ℕ). block_place s.layout a.number k o.block) (sym class);
                };
                used = in_use;
                words = words ∙ ap block_size (sym class);
              })
        ]
  ]

  -- no word of the new block was one of a block in use
  pub lies_apart : (p size : ℕ) → IsOccupied s p size → (p + size ≤ at) ⊎ (at + block_size c ≤ p)
  unfolding occupies
  lies_apart p size o =
      let h = stays_occupied p size o in
      let n = occupies in
      elim (blocks_lie_apart new h.0.number h.0.block p n.number n.block at after h.0.begins n.begins) [
        | inl same ↦ absurd (h.1 same)
        | inr (inl low) ↦ inl (let e = h.0.words in omega (arith, e, low))
        | inr (inr high) ↦ inr (let e = n.words in omega (arith, e, high))
      ]

  -- no segment's marks change
  pub keeps_marks : KeepsMarks s new
  keeps_marks = record {
    marks = λ k. elim (cases_eq k a.number) [
      | inl e ↦ subst (λ (n : ℕ). (nth new.segments n).marks ≡ (nth s.segments n).marks) (sym e) marks_are
      | inr ne ↦ ap (λ (x : Segment). x.marks) (other k ne)
    ];
    snap = λ k. elim (cases_eq k a.number) [
      | inl e ↦ subst (λ (n : ℕ). (nth new.segments n).snap ≡ (nth s.segments n).snap) (sym e) (ap (λ (x : Segment). x.snap) a.takes.rest)
      | inr ne ↦ ap (λ (x : Segment). x.snap) (other k ne)
    ];
  }
