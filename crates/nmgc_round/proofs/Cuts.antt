-- The first seat is split into one for each mutator, and all are gathered again.
use Rattle.nmgc_round.proofs.Vocabulary.{◌≡◌, ℕ, zero, suc, ◌+◌, ◌<◌, List, [], ◌∷◌, ◌++◌, map, length, get_or, drop, drop-cons, All, refl, sym, ap, ◌∙◌, subst, arith, append_assoc, All-append, All-cons, All-nil, some, some-injective, some-ne-none, get_elem?, Round, Hand, Opening, Part, Seen, no_hand, blank, blanks, CanSplit, keeps_rest, gives_first, from, alone, alones, RoundSeat, IsAt, seen, opening_of}

-- the numbers of the parts rise
blanks_above : (n m : ℕ) (hs : List Hand) (k : ℕ) (q : Part) → m < n → get_elem? (blanks n hs) k ≡ some q → m < q.number
blanks_above n m [] k q h e = absurd (some-ne-none q (sym e))
blanks_above n m (h0 ∷ hs) zero q h e = subst (λ (r : Part). m < r.number) (some-injective (blank n) q e) h
blanks_above n m (h0 ∷ hs) (suc k) q h e = blanks_above (suc n) m hs k q (omega arith) e

pub can_split : (o : Opening) (n : ℕ) (h0 : Hand) (hs : List Hand) → CanSplit (from o n (h0 ∷ hs))
can_split o n h0 hs = (blank n, blanks (suc n) hs, refl, λ k q e i. let h = blanks_above (suc n) n hs k q (omega arith) e in omega arith)

module _ (o : Opening) (k : ℕ) (hs : List Hand) (h : k < length hs) where
  first : drop k hs ≡ get_or hs k no_hand ∷ drop (suc k) hs
  first = drop-cons hs k no_hand h

  pub can_split_at : CanSplit (from o k (drop k hs))
  can_split_at = rw first (can_split o k (get_or hs k no_hand) (drop (suc k) hs))

  pub rest_at : keeps_rest (from o k (drop k hs)) ≡ from o (suc k) (drop (suc k) hs)
  rest_at = ap (λ l. keeps_rest (from o k l)) first

  pub first_at : gives_first (from o k (drop k hs)) ≡ alone o k
  first_at = ap (λ l. gives_first (from o k l)) first

  pub alones_at : alones o k (drop k hs) ≡ alone o k ∷ alones o (suc k) (drop (suc k) hs)
  alones_at = ap (alones o k) first

pub last_at : (o : Opening) (k : ℕ) (hs : List Hand) → suc k ≡ length hs → alones o k (drop k hs) ≡ from o k (drop k hs) ∷ []
last_at o k hs e = let h : k < length hs = omega arith in
    let none : drop (suc k) hs ≡ [] = rw e (drop_all hs) in
    cc (alones_at o k hs h, none, first o k hs h)
  where
    drop_all : (l : List Hand) → drop (length l) l ≡ []
    drop_all [] = refl
    drop_all (x ∷ xs) = drop_all xs

pub record IsCut (r : Round) (p : RoundSeat) (xs : List RoundSeat) (n : ℕ) : Type 0 where
  pub at : IsAt r p
  pub count : length xs + 1 ≡ n
  pub rest : seen p ≡ from (opening_of r) (length xs) (drop (length xs) (opening_of r).hands)
  pub seats : map seen xs ++ alones (opening_of r) (length xs) (drop (length xs) (opening_of r).hands) ≡ alones (opening_of r) 0 (opening_of r).hands
  pub all : All (IsAt r) xs

map-snoc : (xs : List RoundSeat) (x : RoundSeat) → map seen (xs ++ x ∷ []) ≡ map seen xs ++ seen x ∷ []
map-snoc [] x = refl
map-snoc (y ∷ ys) x = ap (λ l. seen y ∷ l) (map-snoc ys x)

length-snoc : (xs : List RoundSeat) (x : RoundSeat) → length (xs ++ x ∷ []) ≡ suc (length xs)
length-snoc [] x = refl
length-snoc (y ∷ ys) x = ap suc (length-snoc ys x)

pub cut_first : (r : Round) (p : RoundSeat) → IsAt r p → seen p ≡ from (opening_of r) 0 (opening_of r).hands → IsCut r p [] 1
cut_first r p at is = record { at = at; count = omega arith; rest = is; seats = refl; all = All-nil (IsAt r) }

pub cut_can : (r : Round) (p : RoundSeat) (xs : List RoundSeat) (n : ℕ) → IsCut r p xs n → n < length (opening_of r).hands → CanSplit (seen p)
cut_can r p xs n h lt = let c = h.count in let k : length xs < length (opening_of r).hands = omega arith in
    subst CanSplit (sym h.rest) (can_split_at (opening_of r) (length xs) (opening_of r).hands k)

pub cut_next : (r : Round) (p q s : RoundSeat) (xs : List RoundSeat) (n : ℕ) → IsCut r p xs n → n < length (opening_of r).hands → IsAt r q →
    IsAt r s → seen q ≡ keeps_rest (seen p) → seen s ≡ gives_first (seen p) → IsCut r q (xs ++ s ∷ []) (n + 1)
cut_next r p q s xs n h lt atq ats isq iss =
    let c = h.count in
    let O = opening_of r in
    let k : length xs < length O.hands = omega arith in
    let l = length-snoc xs s in
    let is : seen s ≡ alone O (length xs) = iss ∙ ap gives_first h.rest ∙ first_at O (length xs) O.hands k in record {
      at = atq;
      count = omega arith;
      rest = cc (isq, h.rest, rest_at O (length xs) O.hands k, l);
      seats =
          let a : map seen (xs ++ s ∷ []) ≡ map seen xs ++ alone O (length xs) ∷ [] = cc (map-snoc xs s, is) in
          let t : List Seen = alones O (suc (length xs)) (drop (suc (length xs)) O.hands) in
          cc (l, a, append_assoc (map seen xs) (alone O (length xs) ∷ []) t, alones_at O (length xs) O.hands k, h.seats);
      all = All-append (IsAt r) xs (s ∷ []) h.all (All-cons (IsAt r) s [] ats (All-nil (IsAt r)));
    }

pub cut_done : (r : Round) (p : RoundSeat) (xs : List RoundSeat) (n : ℕ) → IsCut r p xs n → n ≡ length (opening_of r).hands →
    (map seen (xs ++ p ∷ []) ≡ alones (opening_of r) 0 (opening_of r).hands) × All (IsAt r) (xs ++ p ∷ [])
cut_done r p xs n h e =
    let c = h.count in
    let l = last_at (opening_of r) (length xs) (opening_of r).hands (omega arith) in (
      cc (map-snoc xs p, h.rest, l, h.seats),
      All-append (IsAt r) xs (p ∷ []) h.all (All-cons (IsAt r) p [] h.at (All-nil (IsAt r))),
    )
