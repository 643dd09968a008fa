-- The reserve suffices: it is there at the beginning, each placing keeps it, and it gives room.
use Rattle.std.specs.Prelude.{◌≡◌, ◌≢◌, ◌+◌, ◌-◌, ◌*◌, ◌/◌, ◌%◌, ◌<◌, ◌≤◌, ◌⊎◌}
use Rattle.nmgc_alloc.specs.laws.Vocabulary.{ℕ, ◌∙◌, inl, inr, refl, ap, subst, sym, arith, true, false, cond, List, length, set, replicate, slice_index, length-set, length-replicate, mul-le-mul_left, mul-le-mul_right, get_or-set_same, get_or-set_other, get_or-replicate, sum_by-set, sum_by-le, All-set, All-replicate, All-get_or, div-add-mod', cases_eq, cases_lt, cases_order, Layout, block_size, IsClassOf, IsSegmentSize, class_count, reserve_count, left_over, object_half, class_fits, Segment, InUse, HasFree, mark_of, segment_words, block_count, free_segment, State, Free, Current, Active, Filled, nth, is, Segments, IsSegments, HasRoom, IsCurrent, Allocates, TakesBlock, as_current, free_count, pair, HasLeft, KeepsReserve}
use Rattle.nmgc_alloc.specs.laws.{Numbers.nth-set_same, Numbers.nth-set_other, Counts.one_counted, Counts.is_free, Placing.step}

-- taking the first unused block of a segment without marks advances the index by one
took_next : (old new : Segment) (block : ℕ) → TakesBlock old new block → ((b : ℕ) → mark_of old b ≡ 0) → (new.next_free ≡ old.next_free + 1) ×
    ((b : ℕ) → mark_of new b ≡ 0)
took_next old new block t none =
    let marks : new.marks ≡ old.marks = ap (λ (x : Segment). x.marks) t.rest in
    let clear : (b : ℕ) → mark_of new b ≡ 0 = λ b. ap (λ (xs : List ℕ). slice_index xs b) marks ∙ none b in
    let used : (b : ℕ) → InUse old b → b < old.next_free = λ b u. elim u [ inl l ↦ l | inr m ↦ absurd (m (none b)) ] in
    let now : (b : ℕ) → InUse new b → b < new.next_free = λ b u. elim u [ inl l ↦ l | inr m ↦ absurd (m (clear b)) ] in
    let above : old.next_free ≤ block = elim (cases_lt block old.next_free) [ inl l ↦ absurd (t.first.unused (inl l)) | inr g ↦ g ] in
    let below : block ≤ old.next_free = elim (cases_lt old.next_free block) [
      | inl l ↦ let u = used old.next_free (t.first.least old.next_free l) in absurd (omega (arith, u))
      | inr g ↦ g
    ] in
    let same : old.next_free ≡ block = omega arith in
    let up = now old.next_free ((t.used old.next_free).1 (inr same)) in
    let down : new.next_free ≤ old.next_free + 1 = elim (cases_lt (old.next_free + 1) new.next_free) [
      | inl l ↦ elim ((t.used (old.next_free + 1)).0 (inl l)) [
        | inl u ↦ let v = used (old.next_free + 1) u in absurd (omega (arith, v))
        | inr e ↦ absurd (omega (arith, e, same))
      ]
      | inr g ↦ g
    ] in
    (omega (arith, up, down), clear)

-- different pairs have different numbers
same_pair : (k a b c d : ℕ) → b < k → d < k → a * k + b ≡ c * k + d → (a ≡ c) × (b ≡ d)
same_pair k a b c d low small e = elim (cases_order a c) [
  | inl s ↦ let m : a * k ≡ c * k = ap (λ (n : ℕ). n * k) s in (s, omega (arith, m, e))
  | inr (inl lt) ↦ let l = step a c k lt in absurd (omega (arith, l, e))
  | inr (inr gt) ↦ let l = step c a k gt in absurd (omega (arith, l, e))
]

pair_in : (k a b m : ℕ) → b < k → a < m → a * k + b < m * k
pair_in k a b m low lt = let l = step a m k lt in omega (arith, l)

-- an entry of a table after a different entry was set
at_or : (xs : List ℕ) (i j v : ℕ) → j ≢ i → slice_index (set xs i v) j ≡ slice_index xs j
at_or xs i j v ne = get_or-set_other xs i j v 0 ne

module _ (layout : Layout) (size : IsSegmentSize layout.words) where
  -- the words left in another segment
  untouched : (xs : List Segment) (n : ℕ) (y : Segment) (m c left k : ℕ) → k ≢ n → HasLeft layout xs m c left k → HasLeft layout (set xs n y) m c left k
  untouched xs n y m c left k ne h =
      let e = nth-set_other xs n k y ne in
      record {
        exists = let l = length-set xs n y in omega (arith, h.exists, l);
        current = rw e h.current;
        unmarked = λ b. rw e (h.unmarked b);
        fits = rw e h.fits;
      }

  -- one segment changes, and with it the words left for one pair
  changed : (xs : List Segment) (n : ℕ) (y : Segment) (m c v placed words : ℕ) → n < length xs → m < layout.mutators → c < class_count layout
      → ((a b : ℕ) → IsCurrent a b (nth xs n) → (a ≡ m) × (b ≡ c))
      → v ≤ layout.words
      → (v ≡ 0) ⊎ ((k : ℕ) × HasLeft layout (set xs n y) m c v k)
      → (r : KeepsReserve layout xs placed)
      → layout.words * cond (is (nth xs n).state Free) 1 0 + slice_index r.left (pair layout m c) ≤ layout.words * cond (is y.state Free) 1 0 + v + 2 * words
      → KeepsReserve layout (set xs n y) (placed + words)
  changed xs n y m c v placed words in' low small mine most own r balance =
      let p = pair layout m c in
      let inside : p < length r.left = let l = pair_in (class_count layout) m c layout.mutators small low in omega (arith, l, r.pairs) in
      let sums = sum_by-set (λ (k : ℕ). k) r.left p v 0 inside in
      let frees = sum_by-set (λ (segment : Segment). cond (is segment.state Free) 1 0) xs n y (free_segment 0) in' in
      let w = layout.words in
      let scaled : w * free_count (set xs n y) + w * cond (is (nth xs n).state Free) 1 0 ≡ w * free_count xs + w * cond (is y.state Free) 1 0 =
      let e = ap (λ (k : ℕ). w * k) frees in omega (arith, e) in
      record {
        left = set r.left p v;
        pairs = length-set r.left p v ∙ r.pairs;
        most = All-set (λ k. k ≤ w) r.left p v most r.most;
        begun = λ a b la lb.
            let other : ((a ≡ m) × (b ≡ c) → ⊥) → (slice_index (set r.left p v) (pair layout a b) ≡ 0) ⊎
            ((k : ℕ) × HasLeft layout (set xs n y) a b (slice_index (set r.left p v) (pair layout a b)) k) = λ ne.
            let e : slice_index (set r.left p v) (pair layout a b) ≡ slice_index r.left (pair layout a b) =
            at_or r.left p (pair layout a b) v (λ s. ne (same_pair (class_count layout) a b m c lb small s)) in
            rw e (elim (r.begun a b la lb) [
              | inl z ↦ inl z
              | inr h ↦ inr (
                h.0,
                untouched xs n y a b (slice_index r.left (pair layout a b)) h.0 (λ s.
                    ne (mine a b (rw s at h.1.current))) h.1,
              )
            ]) in
            elim (cases_eq a m) [
              | inl s ↦ elim (cases_eq b c) [
                | inl t ↦
                    let e : slice_index (set r.left p v) p ≡ v = get_or-set_same r.left p v 0 inside in
                    rw (s, t, e) own
                | inr ne ↦ other (λ h. ne h.1)
              ]
              | inr ne ↦ other (λ h. ne h.0)
            ];
        enough = omega (arith, r.enough, sums, scaled, balance);
      }

  -- at the beginning
  pub begins : (xs : List Segment) → reserve_count layout ≤ free_count xs → KeepsReserve layout xs 0
  begins xs enough =
      let count = layout.mutators * class_count layout in
      record {
        left = replicate count 0;
        pairs = length-replicate count 0;
        most = All-replicate (λ k. k ≤ layout.words) count 0 (omega arith);
        begun = λ m c lm lc. inl (get_or-replicate count (pair layout m c) 0 0 (pair_in (class_count layout) m c layout.mutators lc lm));
        enough = let l = mul-le-mul_left layout.words enough in omega (arith, l);
      }

  -- the segment after the first of its unmarked blocks was taken has a block less left
  next_left : (xs : List Segment) (n : ℕ) (was y : Segment) (m c left v block : ℕ) → n < length xs
      → was.state ≡ Current m → was.class ≡ c → segment_words was ≡ layout.words → block_size c ≤ layout.words
      → TakesBlock was y block → ((b : ℕ) → mark_of was b ≡ 0)
      → left + was.next_free * block_size c + left_over layout c ≤ layout.words
      → v ≡ left - block_size c
      → (v ≡ 0) ⊎ ((k : ℕ) × HasLeft layout (set xs n y) m c v k)
  next_left xs n was y m c left v block in' state class words fits t none room less =
      let next = took_next was y block t none in
      let nth-is = nth-set_same xs n y in' in
      let same_class : y.class ≡ c = ap (λ (x : Segment). x.class) t.rest ∙ class in
      let marks : y.marks ≡ was.marks = ap (λ (x : Segment). x.marks) t.rest in
      let same_words : segment_words y ≡ layout.words = ap (λ (b : List ℕ). 4 * length b) marks ∙ words in
      let q : ℕ = layout.words / block_size c in
      let whole : q * block_size c + left_over layout c ≡ layout.words = div-add-mod' layout.words (block_size c) in
      let blocks : block_count y ≡ q = rw same_class (ap (λ (k : ℕ). k / block_size c) same_words) in
      let grown : y.next_free * block_size c ≡ was.next_free * block_size c + block_size c = let e = ap (λ (k : ℕ). k * block_size c) next.0 in
      omega (arith, e) in
      elim (cases_eq v 0) [
        | inl z ↦ inl z
        | inr more ↦
            let larger : block_size c < left = omega arith in
            let free : HasFree y = elim t.state [
              | inl s ↦ s.0
              | inr s ↦ elim (cases_lt y.next_free (block_count y)) [
                | inl l ↦ absurd (s.0 l)
                | inr g ↦ let all = mul-le-mul_right (block_size c) g in
                    let e = ap (λ (k : ℕ). k * block_size c) blocks in
                    absurd (omega (arith, all, e, whole, grown, room, larger))
              ]
            ] in
            let now : y.state ≡ Current m = elim t.state [ inl s ↦ s.1 ∙ state | inr s ↦ absurd (s.0 free) ] in
            inr (
              n,
              record {
                exists = let l = length-set xs n y in omega (arith, l, in');
                current = rw nth-is (now, same_class);
                unmarked = λ b. rw nth-is (next.1 b);
                fits = rw nth-is (omega (arith, grown, room, larger, less));
              },
            )
      ]

  -- a segment in a state that isn't free adds nothing to the free words
  not_free : (w : ℕ) (state other : State) → state ≡ other → is other Free ≡ false → w * cond (is state Free) 1 0 ≡ 0
  not_free w state other e f = let g : is state Free ≡ false = ap (λ (x : State). is x Free) e ∙ f in rw g (omega arith)

  -- after a block was taken, a segment is current or filled
  taken_not_free : (w m c block : ℕ) (was y : Segment) → was.state ≡ Current m → TakesBlock was y block → w * cond (is y.state Free) 1 0 ≡ 0
  taken_not_free w m c block was y state t = elim t.state [
    | inl s ↦ not_free w y.state (Current m) (s.1 ∙ state) refl
    | inr s ↦ not_free w y.state Filled s.1 refl
  ]

  -- placing an object keeps the reserve, if it has at least half the words of its block and of the words left over
  step_keeps : (xs : List Segment) (n : ℕ) (y : Segment) (m c block placed words : ℕ) → n < length xs → m < layout.mutators →
      c < class_count layout → block_size c ≤ layout.words → left_over layout c + block_size c ≤ 2 * words
      → segment_words (nth xs n) ≡ layout.words
      → TakesBlock (as_current m c (nth xs n)) y block
      → (IsCurrent m c (nth xs n)) ⊎ ((((k : ℕ) → k < length xs → IsCurrent m c (nth xs k) → ⊥) × ((nth xs n).state ≡ Active)) ⊎
      (((k : ℕ) → k < length xs → IsCurrent m c (nth xs k) → ⊥) × ((nth xs n).state ≡ Free) ×
      (((b : ℕ) → mark_of (nth xs n) b ≡ 0) × ((nth xs n).next_free ≡ 0))))
      → KeepsReserve layout xs placed → KeepsReserve layout (set xs n y) (placed + words)
  step_keeps xs n y m c block placed words in' low small fits half same_words t chosen r =
      let w = layout.words in
      let p = pair layout m c in
      let left = slice_index r.left p in
      let inside : p < length r.left = let l = pair_in (class_count layout) m c layout.mutators small low in omega (arith, l, r.pairs) in
      let most : left ≤ w = All-get_or (λ (k : ℕ). k ≤ w) r.left p 0 inside r.most in
      let gone = taken_not_free w m c block (as_current m c (nth xs n)) y refl t in
      elim chosen [
        | inl own ↦
            let mine : (a b : ℕ) → IsCurrent a b (nth xs n) → (a ≡ m) × (b ≡ c) = λ a b h. let e : Current a ≡ Current m = sym h.0 ∙ own.0 in
            ((cc), sym h.1 ∙ own.1) in
            let was = not_free w (nth xs n).state (Current m) own.0 refl in
            elim (r.begun m c low small) [
              | inl z ↦ changed xs n y m c 0 placed words in' low small mine (omega arith) (inl refl) r (omega (arith, was, gone, z))
              | inr h ↦ elim (cases_eq h.0 n) [
                | inl s ↦
                    let here = subst (λ (k : ℕ). HasLeft layout xs m c left k) s h.1 in
                    changed xs n y m c (left - block_size c) placed words in' low small mine (omega (arith, most))
                    (next_left xs n (as_current m c (nth xs n)) y m c left (left - block_size c) block in' refl refl same_words fits t here.unmarked
                    here.fits refl)
                    r (omega (arith, was, gone, half))
                | inr ne ↦ changed xs n y m c left placed words in' low small mine most (inr (
                  h.0,
                  untouched xs n y m c left h.0 ne h.1,
                )) r (omega (arith, was, gone))
              ]
            ]
        | inr (inl active) ↦
            let mine : (a b : ℕ) → IsCurrent a b (nth xs n) → (a ≡ m) × (b ≡ c) = λ a b h. let e : Current a ≡ Active = sym h.0 ∙ active.1 in absurd cc in
            let was = not_free w (nth xs n).state Active active.1 refl in
            let z : left ≡ 0 = elim (r.begun m c low small) [ inl z ↦ z | inr h ↦ absurd (active.0 h.0 h.1.exists h.1.current) ] in
            changed xs n y m c 0 placed words in' low small mine (omega arith) (inl refl) r (omega (arith, was, gone, z))
        | inr (inr free) ↦
            let mine : (a b : ℕ) → IsCurrent a b (nth xs n) → (a ≡ m) × (b ≡ c) = λ a b h. let e : Current a ≡ Free = sym h.0 ∙ free.1 in absurd cc in
            let was : w * cond (is (nth xs n).state Free) 1 0 ≡ w =
            let e : is (nth xs n).state Free ≡ true = ap (λ (x : State). is x Free) free.1 in rw e (omega arith) in
            let z : left ≡ 0 = elim (r.begun m c low small) [ inl z ↦ z | inr h ↦ absurd (free.0 h.0 h.1.exists h.1.current) ] in
            let over = left_over layout c in
            let whole : w / block_size c * block_size c + over ≡ w = div-add-mod' w (block_size c) in
            let blocks : ℕ = w - over in
            let empty : blocks + (nth xs n).next_free * block_size c + over ≤ w = rw free.2.1 (omega (arith, whole)) in
            changed xs n y m c (blocks - block_size c) placed words in' low small mine (omega arith)
            (next_left xs n (as_current m c (nth xs n)) y m c blocks (blocks - block_size c) block in' refl refl same_words fits t free.2.0 empty refl)
            r (omega (arith, was, gone, z, half, whole))
      ]

  -- the words of the reserve's segments make up for twice the words of all nurseries, and a segment for each pair
  reserve_is : 0 < layout.words →
      2 * layout.mutators * layout.nursery + layout.words * (layout.mutators * class_count layout) < layout.words * reserve_count layout + layout.words
  reserve_is positive =
      let all : ℕ = 2 * layout.mutators * layout.nursery in
      let w = layout.words in
      let rest : all % w < w = omega arith in
      let split : w * (all / w) + all % w ≡ all = omega arith in
      omega (arith, rest, split)

  -- if the reserve is kept and at most the nurseries' words were placed, a segment is free or the mutator began one
  room : (xs : List Segment) (m c placed : ℕ) → m < layout.mutators → c < class_count layout → placed ≤ layout.mutators * layout.nursery →
      KeepsReserve layout xs placed
      → ((k : ℕ) × (k < length xs) × IsCurrent m c (nth xs k)) ⊎ ((k : ℕ) × (k < length xs) × ((nth xs k).state ≡ Free))
  room xs m c placed low small few r = elim (r.begun m c low small) [
    | inr h ↦ inl (h.0, h.1.exists, h.1.current)
    | inl z ↦ elim (cases_lt 0 (free_count xs)) [
      | inl some ↦
          let f = one_counted Free xs some in
          inr (f.0, f.1, is_free (nth xs f.0).state f.2)
      | inr none ↦
          let w = layout.words in
          let p = pair layout m c in
          let inside : p < length r.left = let l = pair_in (class_count layout) m c layout.mutators small low in omega (arith, l, r.pairs) in
          let sums = sum_by-set (λ (k : ℕ). k) r.left p w 0 inside in
          let bound = sum_by-le (λ (k : ℕ). k) w (set r.left p w) (All-set (λ k. k ≤ w) r.left p w (omega arith) r.most) in
          let count : length (set r.left p w) * w ≡ w * (layout.mutators * class_count layout) =
          let e = ap (λ (k : ℕ). k * w) (length-set r.left p w ∙ r.pairs) in omega (arith, e) in
          let zero_free : w * free_count xs ≡ 0 = let e : free_count xs ≡ 0 = omega arith in rw e (omega arith) in
          let enough = reserve_is (omega (arith, size.least)) in
          absurd (omega (arith, r.enough, sums, bound, count, zero_free, enough, z, few))
    ]
  ]

-- each placing keeps the reserve
pub placing_keeps : (s new : Segments) (m c at placed words : ℕ) → IsSegments s → Allocates s new m c at → m < s.layout.mutators →
    c < class_count s.layout → 2 ≤ words → words ≤ s.layout.words → IsClassOf words c
    → KeepsReserve s.layout s.segments placed → KeepsReserve s.layout new.segments (placed + words)
placing_keeps s new m c at placed words h a low small two most is r =
    let fits = class_fits s.layout.words c words h.layout.words most is.least in
    let half = object_half s.layout.words words c h.layout.words two most is in
    let n = a.number in
    let within : n < length s.segments = elim a.chosen [ inl own ↦ own.exists | inr (inl active) ↦ active.least.exists | inr (inr free) ↦ free.least.exists ] in
    let member = h.members n within in
    let kept = step_keeps s.layout h.layout.words s.segments n (nth new.segments n) m c a.block placed words within low small fits half member.words a.takes
    (elim a.chosen [
      | inl own ↦ inl own.is
      | inr (inl active) ↦ inr (inl (active.no_current, active.least.is.0))
      | inr (inr free) ↦ let unused = member.sound.free free.least.is in inr (inr (free.no_current, free.least.is, (unused.unmarked, unused.next_free)))
    ]) r in
    subst (λ (xs : List Segment). KeepsReserve s.layout xs (placed + words)) (sym a.others) kept

-- the reserve gives room
pub reserve_has_room : (s : Segments) (m c placed : ℕ) → IsSegments s → m < s.layout.mutators → c < class_count s.layout →
    placed ≤ s.layout.mutators * s.layout.nursery → KeepsReserve s.layout s.segments placed → HasRoom s m c
reserve_has_room s m c placed h low small few r = elim (room s.layout h.layout.words s.segments m c placed low small few r) [
  | inl own ↦ (own.0, own.1, inl (own.2, (h.members own.0 own.1).current_room m own.2.0))
  | inr free ↦ (free.0, free.1, inr (inr free.2))
]
