-- Listing the names of a segment, block after block.
use Rattle.nmgc_sweep.proofs.Vocabulary.{ℕ, zero, suc, ◌≡◌, ◌≢◌, ◌+◌, ◌-◌, ◌*◌, ◌/◌, ◌%◌, ◌<◌, ◌≤◌, ◌∙◌, inl, inr, refl, sym, ap, subst, arith, List, [], ◌∷◌, ◌++◌, length, length-append, drop, append-nil, append_assoc, Option, Some, mul-le-mul_right, Contains, cases_eq, cases_lt, Contains-append_left, Contains-append_cases, Contains-push, Contains-push_cases, Name, contains_head, contains_cases, Layout, FIRST_PLACE, MIN_BLOCK_WORDS, segment_place, block_size, none_left, large, IsSegmentSize, block_count, few_blocks, Free, Sweeping, nth, Segments, HasNumber, block_place, IsSegments, IsBlockAt, IsWaiting, lies_in, Ascends, ListsNumbers, ListsBlocks, HaveEntries, entry_of, entry_there, place_above, Sweeper, CanList, IsOnPlan}
use Rattle.nmgc_sweep.proofs.{Lists.ascends_first, Lists.ascends_push, Lists.ascends_rest, Lists.distinct_append}

pub none_listed : (P : ℕ → Type 0) (name : ℕ → Option Name) (xs : List Name) → ListsBlocks P name 0 xs xs
none_listed P name xs = record {
  added = [];
  is = sym (append-nil xs);
  from = λ n c. absurd (omega (arith, c.1));
  all = λ block n low passes e. absurd (omega (arith, low));
  once = λ h. tt;
}

-- one more block, which doesn't pass
pub one_passed_over : (P : ℕ → Type 0) (name : ℕ → Option Name) (block : ℕ) (xs ys : List Name) → (P block → ⊥) → ListsBlocks P name block xs ys →
    ListsBlocks P name (block + 1) xs ys
one_passed_over P name block xs ys fails h = record {
  added = h.added;
  is = h.is;
  from = λ n c. let f = h.from n c in let low = f.1 in (f.0, omega (arith, low), f.2, f.3);
  all = λ b n low passes e. elim (cases_eq b block) [
    | inl at ↦ absurd (fails (subst P at passes))
    | inr other ↦ h.all b n (omega (arith, low, other)) passes e
  ];
  once = h.once;
}

-- one more block, which passes
pub one_listed : (P : ℕ → Type 0) (name : ℕ → Option Name) (block : ℕ) (n : Name) (xs ys zs : List Name) → P block → name block ≡ Some n →
    zs ≡ ys ++ n ∷ [] → ListsBlocks P name block xs ys → ListsBlocks P name (block + 1) xs zs
one_listed P name block n xs ys zs passes is more h = record {
  added = h.added ++ n ∷ [];
  is = more ∙ ap (λ (l : List Name). l ++ n ∷ []) h.is ∙ append_two xs h.added (n ∷ []);
  from = λ m c. elim (Contains-push_cases h.added n m c) [
    | inl old ↦ let f = h.from m old in let low = f.1 in (f.0, omega (arith, low), f.2, f.3)
    | inr e ↦ (block, omega arith, passes, is ∙ ap (λ (x : Name). Some x) e)
  ];
  all = λ b m low p e. elim (cases_eq b block) [
    | inl at ↦
        let same : Some n ≡ Some m = sym is ∙ ap name (sym at) ∙ e in
        let one : n ≡ m = cc in
        subst (λ (x : Name). Contains (h.added ++ n ∷ []) x) one (Contains-push h.added n)
    | inr other ↦ Contains-append_left h.added (n ∷ []) m (h.all b m (omega (arith, low, other)) p e)
  ];
  once = λ once. distinct_append h.added (n ∷ []) (h.once once) ((λ c. absurd (omega (arith, c.1))), tt) (λ m l r. elim (contains_cases n [] m r) [
    | inl e ↦
        let f = h.from m l in
        let same : f.0 ≡ block = once f.0 block m f.2 passes f.3 (is ∙ ap (λ (x : Name). Some x) e) in
        let low = f.1 in
        omega (arith, low, same)
    | inr none ↦ absurd (omega (arith, none.1))
  ]);
}
  where
    append_two : (xs bs cs : List Name) → (xs ++ bs) ++ cs ≡ xs ++ (bs ++ cs)
    append_two [] bs cs = refl
    append_two (a ∷ xs) bs cs = ap (λ (l : List Name). a ∷ l) (append_two xs bs cs)

-- the address of a waiting block, from its segment's address and the words of a block
pub placed_at : (layout known : Layout) (number class given block base size : ℕ) → known ≡ layout → given ≡ class → base ≡ segment_place known number →
    size ≡ block_size given → base + block * size ≡ block_place layout number class block
placed_at layout known number class given block base size e f b s =
    cc (b, s, e, f)

-- it lies below the nurseries
pub place_low : (s : Segments) (number block : ℕ) → IsSegments s → HasNumber s number → IsWaiting s number →
    block < block_count (nth s.segments number) →
    block_place s.layout number (nth s.segments number).class block < FIRST_PLACE + s.layout.segments * s.layout.words
place_low s number block sound there waits within =
    let at = block_place s.layout number (nth s.segments number).class block in
    let begins : IsBlockAt s number block at = record {
      exists = there;
      used = (λ free. let f : Sweeping ≡ Free = sym waits ∙ free in cc);
      within = within;
      place = refl;
    } in
    let four = large (nth s.segments number).class in
    let i = lies_in s number block at at sound begins (omega arith) (omega (arith, four)) in
    let exists = i.exists in
    let before = i.before in
    let up : (number + 1) * s.layout.words ≤ s.layout.segments * s.layout.words = let e : number + 1 ≤ s.layout.segments = omega (arith, exists) in
    mul-le-mul_right s.layout.words e in
    omega (arith, before, up)

-- so it has an entry
pub place_named : (s : Segments) (names : List Name) (number block : ℕ) → IsSegments s → HasNumber s number → IsWaiting s number →
    block < block_count (nth s.segments number) → HaveEntries s.layout names →
    entry_of (block_place s.layout number (nth s.segments number).class block) < length names
place_named s names number block sound there waits within enough =
    let at = block_place s.layout number (nth s.segments number).class block in
    let begins : IsBlockAt s number block at = record {
      exists = there;
      used = (λ free. let f : Sweeping ≡ Free = sym waits ∙ free in cc);
      within = within;
      place = refl;
    } in
    let low = place_low s number block sound there waits within in
    entry_there at (length names) (place_above s number block at sound begins) (omega (arith, low, enough))

-- the words of a segment are a multiple of the least block's
pub whole_words : (words : ℕ) → IsSegmentSize words → MIN_BLOCK_WORDS * (words / MIN_BLOCK_WORDS) ≡ words
whole_words words size =
    let least = size.least in
    let none : words % 4 ≡ 0 = none_left words 0 size (omega (arith, least)) (inl refl) in
    omega (arith, none)

-- this number of entries is enough
pub entries_enough : (segments words n : ℕ) → IsSegmentSize words → n ≡ segments * (words / MIN_BLOCK_WORDS) → segments * words ≤ MIN_BLOCK_WORDS * n
entries_enough segments words n size e =
    let q = words / MIN_BLOCK_WORDS in
    let whole : 4 * q ≡ words = whole_words words size in
    let all : segments * (4 * q) ≡ segments * words = ap (λ (x : ℕ). segments * x) whole in
    omega (arith, all, e)

-- a segment has at most the blocks that it would have of the least class
pub few_in_segment : (s : Segments) (number : ℕ) → IsSegments s → HasNumber s number → MIN_BLOCK_WORDS * block_count (nth s.segments number) ≤ s.layout.words
few_in_segment s number sound there =
    let few = few_blocks (nth s.segments number) in
    let words : MIN_BLOCK_WORDS * length (nth s.segments number).marks ≡ s.layout.words = (sound.members number there).words in
    omega (arith, few, words)

-- before the first search nothing is done
pub starts_on_plan : (planned done : List ℕ) → done ≡ [] → Ascends planned → IsOnPlan planned done 0
starts_on_plan planned [] none ordered = record {
  first = refl;
  ordered = ordered;
  above = λ n c. absurd (omega (arith, c.1));
  below = λ n c. omega arith;
}
starts_on_plan planned (n ∷ done) none ordered = absurd (let bad : n ∷ done ≡ [] = none in cc)

-- the number of planned segments
pub left_counted : (planned done : List ℕ) (next : ℕ) → IsOnPlan planned done next → length planned ≡ length done + length (drop (length done) planned)
left_counted planned done next h = ap (λ (l : List ℕ). length l) h.first ∙ length-append done (drop (length done) planned)

-- the first segment that is left, and the rest
split_first : (planned : List ℕ) (done : ℕ) → drop done planned ≢ [] → (first : ℕ) × (drop done planned ≡ first ∷ drop (suc done) planned)
split_first [] zero some = absurd (some refl)
split_first [] (suc done) some = absurd (some refl)
split_first (x ∷ xs) zero some = (x, refl)
split_first (x ∷ xs) (suc done) some = split_first xs done some

-- the search for the first segment that is left
module _ (s : Segments) (x : Sweeper) (planned done : List ℕ) (next : ℕ) (h : IsOnPlan planned done next) (swept : planned ≡ x.seen.swept)
    (left : drop (length done) planned ≡ x.left) (can : CanList s x) (some : x.left ≢ []) where
  abbrev ahead : List ℕ
  ahead = drop (length done) planned

  abbrev rest : List ℕ
  rest = drop (suc (length done)) planned

  abbrev split : (first : ℕ) × (ahead ≡ first ∷ rest)
  split = split_first planned (length done) (λ none. some (sym left ∙ none))

  there : Contains ahead split.0
  there = subst (λ (l : List ℕ). Contains l split.0) (sym split.1) (contains_head split.0 rest)

  first_waits : IsWaiting s split.0
  first_waits = can.waits split.0 (subst (λ (l : List ℕ). Contains l split.0) left there)

  -- some segment waits, from the next number on
  pub some_waits : (number : ℕ) × (next ≤ number) × IsWaiting s number
  some_waits = (split.0, h.below split.0 there, first_waits)

  pub fewer_done : length done < length planned
  fewer_done =
      let all = left_counted planned done next h in
      let one : length ahead ≡ length rest + 1 = ap (λ (l : List ℕ). length l) split.1 ∙ omega arith in
      omega (arith, all, one)

  -- the first waiting segment from the next number on
  module _ (number : ℕ) (waits : IsWaiting s number) (from : next ≤ number) (first : (n : ℕ) → next ≤ n → n < number → IsWaiting s n → ⊥) where
    pub found : ahead ≡ number ∷ rest
    found =
        let low : number ≤ split.0 = elim (cases_lt split.0 number) [
          | inl before ↦ absurd (first split.0 (h.below split.0 there) before first_waits)
          | inr low ↦ low
        ] in
        let among : Contains (done ++ ahead) number =
        subst (λ (l : List ℕ). Contains l number) h.first (subst (λ (l : List ℕ). Contains l number) (sym swept) (can.planned number waits)) in
        let same : split.0 ≡ number = elim (Contains-append_cases done ahead number among) [
          | inl old ↦ absurd (let above = h.above number old in omega (arith, above, from))
          | inr new ↦ elim (contains_cases split.0 rest number (subst (λ (l : List ℕ). Contains l number) split.1 new)) [
            | inl e ↦ e
            | inr later ↦
                let above = ascends_first split.0 rest (subst (λ (l : List ℕ). Ascends l) split.1 h.ordered) number later in
                absurd (omega (arith, above, low))
          ]
        ] in
        split.1 ∙ ap (λ (n : ℕ). n ∷ rest) same

    -- once it is done
    pub rest_left : drop (length (done ++ number ∷ [])) planned ≡ rest
    rest_left =
        let many : length (done ++ number ∷ []) ≡ suc (length done) = length-append done (number ∷ []) ∙ omega arith in
        ap (λ (k : ℕ). drop k planned) many

    pub plan_goes_on : IsOnPlan planned (done ++ number ∷ []) (number + 1)
    plan_goes_on =
        let ordered : Ascends (number ∷ rest) = subst (λ (l : List ℕ). Ascends l) found h.ordered in
        record {
          first = h.first ∙ ap (λ (l : List ℕ). done ++ l) found ∙ sym (append_assoc done (number ∷ []) rest) ∙
              ap (λ (l : List ℕ). (done ++ number ∷ []) ++ l) (sym rest_left);
          ordered = subst (λ (l : List ℕ). Ascends l) (sym rest_left) (ascends_rest number rest ordered);
          above = λ n c. elim (Contains-push_cases done number n c) [
            | inl old ↦ let low = h.above n old in omega (arith, low, from)
            | inr e ↦ omega (arith, e)
          ];
          below = λ n c.
              let low = ascends_first number rest ordered n (subst (λ (l : List ℕ). Contains l n) rest_left c) in
              omega (arith, low);
        }

-- there is room for the names of one more segment, and afterwards for the names of the rest

pub room_for_one : (count done most words spare : ℕ) → done < count → words ≤ MIN_BLOCK_WORDS * most →
    (count - done) * most ≤ spare → words ≤ MIN_BLOCK_WORDS * spare
room_for_one count done most words spare low few room =
    let one : 1 * most ≤ (count - done) * most = let some : 1 ≤ count - done = omega (arith, low) in mul-le-mul_right most some in
    let same : 1 * most ≡ most = omega arith in
    omega (arith, one, same, few, room)

pub room_for_others : (count done most words spare after : ℕ) → done < count → words ≤ MIN_BLOCK_WORDS * most →
    (count - done) * most ≤ spare → MIN_BLOCK_WORDS * spare ≤ MIN_BLOCK_WORDS * after + words → (count - (done + 1)) * most ≤ after
room_for_others count done most words spare after low few room used =
    let rest = count - (done + 1) in
    let whole : count - done ≡ rest + 1 = omega (arith, low) in
    let split : (count - done) * most ≡ (rest + 1) * most = ap (λ (k : ℕ). k * most) whole in
    let parts : (rest + 1) * most ≡ rest * most + most = omega arith in
    omega (arith, split, parts, few, room, used)

-- the waiting segments below a number

pub below_skip : (s : Segments) (number : ℕ) (numbers : List ℕ) → (IsWaiting s number → ⊥) →
    ListsNumbers (λ n. (n < number) × IsWaiting s n) numbers → ListsNumbers (λ n. (n < suc number) × IsWaiting s n) numbers
below_skip s number numbers not_waiting h = record {
  ordered = h.ordered;
  sound = λ n c. let was = h.sound n c in let low = was.0 in (omega (arith, low), was.1);
  complete = λ n is. elim (cases_eq n number) [
    | inl e ↦ absurd (not_waiting (subst (λ (k : ℕ). IsWaiting s k) e is.1))
    | inr other ↦ let low = is.0 in h.complete n (omega (arith, low, other), is.1)
  ];
}

pub below_more : (s : Segments) (number : ℕ) (numbers : List ℕ) → IsWaiting s number → ListsNumbers (λ n. (n < number) × IsWaiting s n) numbers →
    ListsNumbers (λ n. (n < suc number) × IsWaiting s n) (numbers ++ number ∷ [])
below_more s number numbers waits h = record {
  ordered = ascends_push numbers number h.ordered (λ n c. (h.sound n c).0);
  sound = λ n c. elim (Contains-push_cases numbers number n c) [
    | inl old ↦ let was = h.sound n old in let low = was.0 in (omega (arith, low), was.1)
    | inr e ↦ (omega (arith, e), subst (λ (k : ℕ). IsWaiting s k) e waits)
  ];
  complete = λ n is. elim (cases_eq n number) [
    | inl e ↦ subst (λ (k : ℕ). Contains (numbers ++ number ∷ []) k) (sym e) (Contains-push numbers number)
    | inr other ↦ let low = is.0 in Contains-append_left numbers (number ∷ []) n (h.complete n (omega (arith, low, other), is.1))
  ];
}
