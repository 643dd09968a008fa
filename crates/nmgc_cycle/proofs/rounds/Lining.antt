-- The collector's ends of the rings stay the mutators' other ends, through polls and sends.
use Rattle.nmgc_cycle.proofs.Vocabulary.{ℕ, zero, suc, ◌≡◌, ◌≢◌, ◌<◌, ◌∙◌, sym, ap, subst, List, [], ◌∷◌, ◌++◌, length, get_or, length-set, append-nil, Some, refl, slice_get, slice_get-get_or, slice_get_within, Room, Address, HasMetSo, Sender, Receiver, AreNew, AtLine, HasPolled, HavePolled, line_goes_on, new_line, at_polled, IsLined, IsPaired, set_here, set_other, last_item}
use Rattle.nmgc_updrem.specs.Lines.{Reserves}

-- two items at one position are equal
pub same_item : {X : Type 0} (l : List X) (k : ℕ) (x y : X) → slice_get l k ≡ Some x → slice_get l k ≡ Some y → x ≡ y
same_item l k x y e f = let both : Some x ≡ Some y = sym e ∙ f in cc

-- a receiver that changed, and the rest
module _ (C : Receiver → Receiver → Type 0) (k : ℕ) (old new : List Receiver) (h : AtLine C k old new) where
  within : k < length old
  within = slice_get_within old k h.was h.at

  pub line_here : slice_get new k ≡ Some h.is
  line_here = ap (λ (l : List Receiver). slice_get l k) h.rest ∙ set_here old k h.is within

  pub line_other : (j : ℕ) → j ≢ k → slice_get new j ≡ slice_get old j
  line_other j ne = ap (λ (l : List Receiver). slice_get l j) h.rest ∙ set_other old k j h.is ne

  pub line_count : length new ≡ length old
  line_count = ap (λ (l : List Receiver). length l) h.rest ∙ length-set old k h.is

-- the receivers were polled, or not, and the sender sent, or not
pub lined_on : (old new : List Receiver) → HavePolled old new → (k : ℕ) (s t : Sender) → t.ring ≡ s.ring → t.before ≡ s.before → IsLined old k s →
    IsLined new k t
lined_on old new polled k s t ring before (r, at, line) =
    let there : k < length new = subst (λ (n : ℕ). k < n) (sym polled.count) (slice_get_within old k r at) in
    let q : Receiver = get_or new k r in
    let here : slice_get new k ≡ Some q = slice_get-get_or new k r there in
    (q, here, line_goes_on r q s t line (polled.each k r q at here) ring before)

-- a lined receiver is paired
pub paired : (inbox : List Receiver) (k : ℕ) (s : Sender) → IsLined inbox k s → IsPaired inbox k s
paired inbox k s (r, at, line) = (r, at, line.pair)

-- a receiver that met its sender took nothing
met_polled : (from to : Sender) (r q : Receiver) → HasMetSo from to r q → HasPolled r q
met_polled from to r q h = record {
  entries = [];
  ring = h.ring;
  received = h.received ∙ sym (append-nil r.received);
  taken = ap (λ (t : Room Address). t.items) h.taken ∙ sym (append-nil r.taken.items);
}

pub all_met : (from to : Sender) (k : ℕ) (old new : List Receiver) → AtLine (HasMetSo from to) k old new → HavePolled old new
all_met from to k old new h = at_polled (HasMetSo from to) (met_polled from to) old new k h

-- a further item at the end of a list
pub grown : {X : Type 0} (xs : List X) (y x : X) (k : ℕ) → slice_get xs k ≡ Some x → slice_get (xs ++ y ∷ []) k ≡ Some x
grown [] y x k e = absurd cc
grown (z ∷ xs) y x zero e = e
grown (z ∷ xs) y x (suc k) e = grown xs y x k e

-- new ends are lined, and stay so as more are made
pub lined_grown : (inbox : List Receiver) (r : Receiver) (k : ℕ) (s : Sender) → IsLined inbox k s → IsLined (inbox ++ r ∷ []) k s
lined_grown inbox r k s (q, at, line) = (q, grown inbox r q k at, line)

pub lined_new : (inbox : List Receiver) (r q : Receiver) (s : Sender) (slots k : ℕ) → length inbox ≡ k → AreNew slots s r →
    q ≡ record r { taken = q.taken } → q.taken.items ≡ r.taken.items → IsLined (inbox ++ q ∷ []) k s
lined_new inbox r q s slots k long new rest items = (
  q,
  subst (λ (i : ℕ). slice_get (inbox ++ q ∷ []) i ≡ Some q) long (last_item inbox q),
  line_goes_on r q s s (new_line slots s r new) (record {
    entries = [];
    ring = ap (λ (x : Receiver). x.ring) rest;
    received = ap (λ (x : Receiver). x.received) rest ∙ sym (append-nil r.received);
    taken = items ∙ sym (append-nil r.taken.items);
  }) refl refl,
)

-- a list with more room has the same entries
reserve_polled : (entries : ℕ) (r q : Receiver) → Reserves entries r q → HasPolled r q
reserve_polled entries r q h = record {
  entries = [];
  ring = ap (λ (x : Receiver). x.ring) h.rest;
  received = ap (λ (x : Receiver). x.received) h.rest ∙ sym (append-nil r.received);
  taken = h.items ∙ sym (append-nil r.taken.items);
}

pub all_reserved : (entries k : ℕ) (old new : List Receiver) → AtLine (Reserves entries) k old new → HavePolled old new
all_reserved entries k old new h = at_polled (Reserves entries) (reserve_polled entries) old new k h
