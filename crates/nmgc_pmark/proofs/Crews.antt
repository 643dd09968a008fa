-- The seats of all markers are joined, and their lists together are the found objects.
use Rattle.nmgc_pmark.proofs.Vocabulary.{◌≡◌, ◌<◌, ◌*◌, ◌%◌, ℕ, zero, suc, List, [], ◌∷◌, ◌++◌, length, map, take, get_or, inl, inr, refl, sym, ap, subst, ◌∙◌, arith, ◌⊎◌, Some, mod-lt, take-append_seam, Contains, slice_index, slice_get, slice_get-get_or, slice_get_within, get_or_from_slice_get, get_or_default, Contains-append_left, Contains-append_right, some, some-injective, some-ne-none, get_elem?, at_longer, contains_head, contains_tail, contains_cases, Room, Address, ClaimTable, Marker, Part, ClaimsSeen, blank, blanks, together, CanSplit, HasAll, IsShared, seen, bounds_of, IsFound, IsIn, block_index, blocks_of, CanMark, AreDistinct, part_of, IsSound, IsTaken, HasMarked, AreNumbered, HaveAllMarked, AreSound, IsSharedAmong, AreMarked, found_of}
use Rattle.nmgc_pmark.proofs.Rules.{only_one, in_either, at_later}

-- the knowledge of the first seat, split again and again
blanks_above : (n m j k : ℕ) (q : Part) → j < n → get_elem? (blanks n m) k ≡ some q → j < q.number
blanks_above n zero j k q h e = absurd (some-ne-none q (sym e))
blanks_above n (suc m) j zero q h e = subst (λ (r : Part). j < r.number) (some-injective (blank n) q e) h
blanks_above n (suc m) j (suc k) q h e = blanks_above (suc n) m j k q (omega (arith, h)) e

abbrev pub rest_from : ℕ → ℕ → ClaimsSeen
rest_from n m = record { parts = blanks n m; others = [] }

pub can_split : (n m : ℕ) → CanSplit (rest_from n (suc m))
can_split n m = (blank n, blanks (suc n) m, refl, λ k q e i. let h = blanks_above (suc n) m n k q (omega arith) e in omega (arith, h, i))

-- the item at a position of a list with a further item
module _ {A : Type 0} where
  pub at_push : (xs : List A) (x y : A) (k : ℕ) → slice_get (xs ++ x ∷ []) k ≡ Some y → (slice_get xs k ≡ Some y) ⊎ (x ≡ y)
  at_push [] x y zero e = inr (one_some x y e)
    where
      one_some : (a b : A) → Some a ≡ Some b → a ≡ b
      one_some a b f = cc
  at_push [] x y (suc k) e = absurd (cc)
  at_push (z ∷ xs) x y zero e = inl e
  at_push (z ∷ xs) x y (suc k) e = at_push xs x y k e

  pub at_front : (xs ys : List A) (y : A) (k : ℕ) → slice_get xs k ≡ Some y → slice_get (xs ++ ys) k ≡ Some y
  at_front [] ys y k e = absurd (cc)
  at_front (x ∷ xs) ys y zero e = e
  at_front (x ∷ xs) ys y (suc k) e = at_front xs ys y k e

  pub at_pushed : (xs : List A) (x : A) → slice_get (xs ++ x ∷ []) (length xs) ≡ Some x
  at_pushed [] x = refl
  at_pushed (y ∷ xs) x = at_pushed xs x

  pub some_at : (xs : List A) (k : ℕ) → k < length xs → (x : A) × (slice_get xs k ≡ Some x)
  some_at [] k lt = absurd (omega (arith, lt))
  some_at (x ∷ xs) zero lt = (x, refl)
  some_at (x ∷ xs) (suc k) lt = some_at xs k (omega (arith, lt))

  pub at_mapped : {B : Type 0} (f : A → B) (xs : List A) (k : ℕ) (y : B) → slice_get (map f xs) k ≡ Some y → (x : A) × (slice_get xs k ≡ Some x) × (y ≡ f x)
  at_mapped f [] k y e = absurd (cc)
  at_mapped f (x ∷ xs) zero y e = (x, refl, cc)
  at_mapped f (x ∷ xs) (suc k) y e = at_mapped f xs k y e

-- a seat with the parts of these markers, and with all blocks that each of them found claimed
pub record Gathers (v : ClaimsSeen) (ms : List Marker) : Type 0 where
  pub has : (k : ℕ) (m : Marker) → slice_get ms k ≡ Some m → (i : ℕ) × (get_elem? v.parts i ≡ some (part_of m))
  pub only : (i : ℕ) (p : Part) → get_elem? v.parts i ≡ some p → (k : ℕ) × (m : Marker) × (slice_get ms k ≡ Some m) × (p ≡ part_of m)
  pub others : (k : ℕ) (m : Marker) (b : ℕ) → slice_get ms k ≡ Some m → Contains (seen m.seat).others b → Contains v.others b

pub gathers_one : (m : Marker) → (seen m.seat).parts ≡ part_of m ∷ [] → Gathers (seen m.seat) (m ∷ [])
gathers_one m alone = record {
  has = has_one;
  only = λ i p e. only_one (λ (q : Part). (k : ℕ) × (x : Marker) × (slice_get (m ∷ []) k ≡ Some x) × (q ≡ part_of x)) (part_of m) (
    0,
    m,
    refl,
    refl,
  ) i p (ap (λ l. get_elem? l i) (sym alone) ∙ e);
  others = others_one;
}
  where
    has_one : (k : ℕ) (x : Marker) → slice_get (m ∷ []) k ≡ Some x → (i : ℕ) × (get_elem? (seen m.seat).parts i ≡ some (part_of x))
    has_one zero x e = let same : m ≡ x = cc in (0, ap (λ l. get_elem? l 0) alone ∙ ap (λ (y : Marker). some (part_of y)) same)
    has_one (suc k) x e = absurd (cc)

    others_one : (k : ℕ) (x : Marker) (b : ℕ) → slice_get (m ∷ []) k ≡ Some x → Contains (seen x.seat).others b → Contains (seen m.seat).others b
    others_one zero x b e c = let same : m ≡ x = cc in subst (λ (y : Marker). Contains (seen y.seat).others b) (sym same) c
    others_one (suc k) x b e c = absurd (cc)

pub gathers_more : (v : ClaimsSeen) (ms : List Marker) (m : Marker) → Gathers v ms → (seen m.seat).parts ≡ part_of m ∷ [] →
    Gathers (together v (seen m.seat)) (ms ++ m ∷ [])
gathers_more v ms m g alone =
    let w : ClaimsSeen = seen m.seat in
    record {
      has = λ k x e. elim (at_push ms m x k e) [
        | inl old ↦ let t = g.has k x old in (t.0, at_longer v.parts w.parts t.0 (part_of x) t.1)
        | inr same ↦ at_later v.parts w.parts 0 (part_of x) (ap (λ l. get_elem? l 0) alone ∙ ap (λ (y : Marker). some (part_of y)) same)
      ];
      only = λ i p e. elim (in_either v.parts w.parts i p e) [
        | inl old ↦ let t = g.only i p old in (t.0, t.1, at_front ms (m ∷ []) t.1 t.0 t.2, t.3)
        | inr new ↦ only_one (λ (q : Part). (k : ℕ) × (x : Marker) × (slice_get (ms ++ m ∷ []) k ≡ Some x) ×
            (q ≡ part_of x)) (part_of m) (length ms, m, at_pushed ms m, refl) new.0 p (cc (alone, new.1))
      ];
      others = λ k x b e c. elim (at_push ms m x k e) [
        | inl old ↦ Contains-append_left v.others w.others b (g.others k x b old c)
        | inr same ↦ Contains-append_right v.others w.others b (subst (λ (y : Marker). Contains (seen y.seat).others b) (sym same) c)
      ];
    }

-- the last marker first: the same markers
last_first : (xs : List Marker) (x m : Marker) (k : ℕ) → slice_get (xs ++ x ∷ []) k ≡ Some m → (j : ℕ) × (slice_get (x ∷ xs) j ≡ Some m)
last_first xs x m k e = elim (at_push xs x m k e) [ inl old ↦ (suc k, old) | inr same ↦ (0, ap (λ (y : Marker). Some y) same) ]

first_last : (xs : List Marker) (x m : Marker) (k : ℕ) → slice_get (x ∷ xs) k ≡ Some m → (j : ℕ) × (slice_get (xs ++ x ∷ []) j ≡ Some m)
first_last xs x m zero e = (length xs, at_pushed xs x ∙ e)
first_last xs x m (suc k) e = (k, at_front xs (x ∷ []) m k e)

-- a marker's number is its position
pub numbered : (crew : List Marker) → AreNumbered crew → (k : ℕ) (m : Marker) → slice_get crew k ≡ Some m → m.number ≡ k
numbered crew numbers k m e = subst (λ (x : Marker). x.number ≡ k) (get_or_from_slice_get crew k m m e) (numbers k m (slice_get_within crew k m e))

module _ (crew xs : List Marker) (x : Marker) (is : crew ≡ xs ++ x ∷ []) (v : ClaimsSeen) (g : Gathers v (x ∷ xs)) where
  -- the seat of all markers, once they are joined, has every part
  pub has_all : (markers : ℕ) → AreNumbered crew → length crew ≡ markers → HasAll markers v
  has_all markers numbers count m lt =
      let d : Marker = get_or crew m x in
      let there : slice_get crew m ≡ Some d = slice_get-get_or crew m x (omega (arith, lt, count)) in
      let moved = last_first xs x d m (subst (λ (l : List Marker). slice_get l m ≡ Some d) is there) in
      let t = g.has moved.0 d moved.1 in
      (t.0, part_of d, t.1, numbered crew numbers m d there)

  pub shared_among : IsShared v → IsSharedAmong crew
  shared_among s = record {
    apart = λ j k m n b e f c d.
        let p = last_first xs x m j (rw is at e) in
        let q = last_first xs x n k (subst (λ (l : List Marker). slice_get l k ≡ Some n) is f) in
        let a = g.has p.0 m p.1 in
        let z = g.has q.0 n q.1 in
        s.apart a.0 z.0 (part_of m) (part_of n) b a.1 z.1 c d;
    found = λ k m b e c.
        let p = last_first xs x m k (rw is at e) in
        let f = s.found b (g.others p.0 m b p.1 c) in
        let o = g.only f.0 f.1 f.2 in
        let r = first_last xs x o.1 o.0 o.2 in
        (r.0, o.1, subst (λ (l : List Marker). slice_get l r.0 ≡ Some o.1) (sym is) r.1, subst (λ (p : Part). Contains p.claimed b) o.3 f.3);
  }

-- a block's number comes from an address in the list
place_of : (xs : List Address) (b : ℕ) → Contains (blocks_of xs) b → (at : ℕ) × IsIn xs at × (block_index at ≡ b)
place_of [] b c = absurd (omega (arith, c.1))
place_of (x ∷ xs) b c = elim (contains_cases (block_index x.0) (blocks_of xs) b c) [
  | inl e ↦ (x.0, contains_head x xs, e)
  | inr d ↦ let r = place_of xs b d in (r.0, contains_tail x xs (record { 0 = r.0 }) r.1, r.2)
]

number_of : (xs : List Address) (at : ℕ) → IsIn xs at → Contains (blocks_of xs) (block_index at)
number_of [] at c = absurd (omega (arith, c.1))
number_of (x ∷ xs) at c = elim (contains_cases x xs (record { 0 = at }) c) [
  | inl e ↦ subst (λ (k : ℕ). Contains (blocks_of (x ∷ xs)) k) (ap (λ (a : Address). block_index a.0) e) (contains_head (block_index x.0) (blocks_of xs))
  | inr d ↦ contains_tail (block_index x.0) (blocks_of xs) (block_index at) (number_of xs at d)
]

module _ (t : ClaimTable) (words starts : List ℕ) (markers : ℕ) (crew : List Marker) (marked : HaveAllMarked t words starts markers crew)
    (numbers : AreNumbered crew) (count : length crew ≡
    markers) (some_ : 0 < markers) (can : CanMark words starts (bounds_of t).blocks) (shared : IsSharedAmong crew) where
  at_crew : (k : ℕ) (m : Marker) → slice_get crew k ≡ Some m → HasMarked t words starts markers m
  at_crew k m e = subst (λ (x : Marker). HasMarked t words starts markers x) (get_or_from_slice_get crew k m m e) (marked k m (slice_get_within crew k m e))

  abbrev pub Listed : ℕ → Type 0
  Listed at = (k : ℕ) × (m : Marker) × (slice_get crew k ≡ Some m) × IsIn m.found.items at

  -- a found object whose block is taken is listed
  listed : (at : ℕ) → IsFound words starts at → (k : ℕ) (m : Marker) → slice_get crew k ≡ Some m → IsTaken m (block_index at) → Listed at
  listed at found k m e i =
      let by : (j : ℕ) × (n : Marker) × (slice_get crew j ≡ Some n) ×
      Contains (blocks_of n.found.items) (block_index at) = elim i [ inl c ↦ (k, m, e, c) | inr c ↦ shared.found k m (block_index at) e c ] in
      let p = place_of by.1.found.items (block_index at) by.3 in
      let same : p.0 ≡ at = can.one p.0 at ((at_crew by.0 by.1 by.2).found p.0 p.1) found p.2 in
      (by.0, by.1, by.2, subst (λ (j : ℕ). IsIn by.1.found.items j) same p.1)

  pub all_listed : (at : ℕ) → IsFound words starts at → Listed at
  all_listed at (IsFound.start _ l c) =
      let k : ℕ = c.0 % markers in
      let lt : k < markers = mod-lt c.0 some_ in
      let o = some_at crew k (omega (arith, lt, count)) in
      let read : slice_index starts c.0 ≡ 2 * at = get_or_default starts c.0 0 (2 * at) c.1 ∙ c.2 in
      listed at (IsFound.start at l c) k o.0 o.1 ((at_crew k o.0 o.1).own at l (c.0, c.1, sym (numbered crew numbers k o.0 o.1), read))
  all_listed at (IsFound.field from _ found l h) =
      let r = all_listed from found in
      listed at (IsFound.field from at found l h) r.0 r.1 r.2 ((at_crew r.0 r.1 r.2).scanned from at r.3 l h)

  pub are_marked : (lists : List (Room Address)) → lists ≡ map found_of crew → AreMarked words starts markers lists
  are_marked lists is = record {
    count = ap (λ (l : List (Room Address)). length l) is ∙ long crew ∙ count;
    sound = λ k at xs e c.
        let o = at_mapped found_of crew k xs (rw is at e) in
        (at_crew k o.0 o.1).found at (subst (λ (y : Room Address). IsIn y.items at) o.2 c);
    complete = λ at f.
        let r = all_listed at f in
        (r.0, r.1.found, subst (λ (l : List (Room Address)). slice_get l r.0 ≡ Some r.1.found) (sym is) (mapped_at crew r.0 r.1 r.2), r.3);
    apart = λ j k at xs ys e f c d.
        let o = at_mapped found_of crew j xs (rw is at e) in
        let p = at_mapped found_of crew k ys (subst (λ (l : List (Room Address)). slice_get l k ≡ Some ys) is f) in
        let same = shared.apart j k o.0 p.0 (block_index at) o.1 p.1 (number_of o.0.found.items at (rw o.2 at c)) (number_of p.0.found.items at (subst (λ (y : Room Address). IsIn y.items at) p.2 d)) in
        sym (numbered crew numbers j o.0 o.1) ∙ same ∙ numbered crew numbers k p.0 p.1;
    once = λ k xs e.
        let o = at_mapped found_of crew k xs (rw is at e) in
        subst (λ (y : Room Address). Distinct y) (sym o.2) (at_crew k o.0 o.1).sound.once;
  }
    where
      Distinct : Room Address → Type 0
      Distinct y = AreDistinct (blocks_of y.items)

      long : (l : List Marker) → length (map found_of l) ≡ length l
      long [] = refl
      long (x ∷ l) = ap suc (long l)

      mapped_at : (l : List Marker) (k : ℕ) (m : Marker) → slice_get l k ≡ Some m → slice_get (map found_of l) k ≡ Some m.found
      mapped_at [] k m e = absurd (cc)
      mapped_at (x ∷ l) zero m e = let same : x ≡ m = cc in ap (λ (y : Marker). Some y.found) same
      mapped_at (x ∷ l) (suc k) m e = mapped_at l k m e

pub split_rest : (v : ClaimsSeen) (n m : ℕ) → v ≡ rest_from n (suc m) → CanSplit v
split_rest v n m is = subst (λ (w : ClaimsSeen). CanSplit w) (sym is) (can_split n m)

-- the next marker is one of them
module _ (all before : List Marker) (last : Marker) (is : all ≡ before ++ last ∷ []) where
  at_middle : (xs ys : List Marker) (m : Marker) → slice_get (xs ++ m ∷ ys) (length xs) ≡ Some m
  at_middle [] ys m = refl
  at_middle (x ∷ xs) ys m = at_middle xs ys m

  pub comes_at : (xs ys : List Marker) (m : Marker) → xs ++ m ∷ ys ≡ before → slice_get all (length xs) ≡ Some m
  comes_at xs ys m e = cc (is, at_front before (last ∷ []) m (length xs) (ap (λ (l : List Marker). slice_get l (length xs)) (sym e) ∙ at_middle xs ys m))

pub sound_at : (t : ClaimTable) (crew : List Marker) → AreSound t crew → (k : ℕ) (m : Marker) → slice_get crew k ≡ Some m → IsSound t m
sound_at t crew sound k m e = subst (λ (x : Marker). IsSound t x) (get_or_from_slice_get crew k m m e) (sound k m (slice_get_within crew k m e))

pub mapped_more : (xs : List Marker) (m : Marker) → map found_of (xs ++ m ∷ []) ≡ map found_of xs ++ m.found ∷ []
mapped_more [] m = refl
mapped_more (x ∷ xs) m = ap (λ (l : List (Room Address)). x.found ∷ l) (mapped_more xs m)

pub none_left : (xs : List Marker) → length xs ≡ 0 → xs ≡ []
none_left [] e = refl
none_left (x ∷ xs) e = absurd (omega (arith, e))

-- the part that was written through a slice of the whole list
pub written : (xs ys : List Marker) (n : ℕ) → n ≡ length xs → take n (xs ++ ys) ≡ xs
written xs ys n e = ap (λ (k : ℕ). take k (xs ++ ys)) e ∙ take-append_seam xs ys
