-- The mutators forget their remembered entries, one mutator after the other.
use Rattle.nmgc_cycle.proofs.Vocabulary.{ℕ, ◌≡◌, ◌≢◌, ◌+◌, ◌<◌, ◌≤◌, ◌∙◌, sym, ap, subst, List, [], length, set, length-set, append-nil, Some, None, Option, inl, inr, refl, arith, slice_get, cases_eq, slice_get_within, get_or_from_slice_get, set-set, set-get_or, Address, Mutator, BLOCK_ENTRIES, Clears, TakesRestSo, IsLevelSo, Sender, Receiver, AtLine, IsPair, IsLine, in_ring, IsLined, IsPaired, AnyLine, HasForgotten, HaveForgotten, HaveForgottenSoFar, HaveLines, set_here, set_other, length-append}
use Rattle.nmgc_cycle.proofs.rounds.Lining.{same_item, line_here, line_other, line_count}

-- the number of entries that wait in a ring
abbrev pub waiting_in : Option Receiver → Sender → ℕ
waiting_in None s = 0
waiting_in (Some r) s = length (in_ring s r)

-- a block that was taken waits no more
pub fewer_wait : (inbox after : List Receiver) (k : ℕ) (s t : Sender) (block : List Address) → AtLine (TakesRestSo s t block) k inbox after →
    waiting_in (slice_get after k) t < waiting_in (slice_get inbox k) s
fewer_wait inbox after k s t block h =
    let now : slice_get after k ≡ Some h.is = line_here (TakesRestSo s t block) k inbox after h in
    let oldest : length (in_ring s h.was) ≡ length block + length (in_ring t h.is) = cc (h.changes.oldest, length-append block (in_ring t h.is)) in
    let size : length block ≡ BLOCK_ENTRIES = h.changes.receives.size in
    let less : length (in_ring t h.is) < length (in_ring s h.was) = omega (arith, oldest, size) in
    rw h.at (rw now less)

-- the ends stay a pair
pub still_paired : (inbox after : List Receiver) (k : ℕ) (s t : Sender) (block : List Address) → IsPaired inbox k s →
    AtLine (TakesRestSo s t block) k inbox after → IsPaired after k t
still_paired inbox after k s t block (r, at, pair) h =
    let is : h.was ≡ r = same_item inbox k h.was r h.at at in
    let own : IsPair s h.was = subst (λ (x : Receiver). IsPair s x) (sym is) pair in
    (h.is, line_here (TakesRestSo s t block) k inbox after h, h.changes.receives.ring ∙ own ∙ sym h.changes.looked.ring)

-- any change of a receiver, twice
pub any_then : (k : ℕ) (first mid last : List Receiver) → AtLine AnyLine k first mid → AtLine AnyLine k mid last → AtLine AnyLine k first last
any_then k first mid last x y = record {
  was = x.was;
  is = y.is;
  at = x.at;
  rest = y.rest ∙ ap (λ (l : List Receiver). set l k y.is) x.rest ∙ twice first k x.is y.is;
  changes = tt;
}
  where
    twice : (l : List Receiver) (k : ℕ) (a b : Receiver) → set (set l k a) k b ≡ set l k b
    twice l k a b = set-set l k a b

-- a receiver's change is any change
pub as_any : (C : Receiver → Receiver → Type 0) (k : ℕ) (old new : List Receiver) → AtLine C k old new → AtLine AnyLine k old new
as_any C k old new h = record { was = h.was; is = h.is; at = h.at; rest = h.rest; changes = tt }

pub any_none : (k : ℕ) (inbox : List Receiver) (r : Receiver) → slice_get inbox k ≡ Some r → AtLine AnyLine k inbox inbox
any_none k inbox r at = record {
  was = r;
  is = r;
  at = at;
  rest = sym (ap (λ (x : Receiver). set inbox k x) (sym (get_or_from_slice_get inbox k r r at)) ∙ set-get_or inbox k r);
  changes = tt;
}

-- level ends, with an empty list and set, are the ends of a mutator that remembers nothing
pub level_lined : (inbox mid after : List Receiver) (k : ℕ) (s t : Sender) → IsPaired inbox k s → AtLine (IsLevelSo s t) k inbox mid →
    AtLine Clears k mid after → IsLined after k t
level_lined inbox mid after k s t (r, at, pair) h c =
    let is : h.was ≡ r = same_item inbox k h.was r h.at at in
    let own : IsPair s h.was = subst (λ (x : Receiver). IsPair s x) (sym is) pair in
    let between : c.was ≡ h.is = same_item mid k c.was h.is c.at (line_here (IsLevelSo s t) k inbox mid h) in
    let ring : c.is.ring ≡ h.is.ring = ap (λ (x : Receiver). x.ring) c.changes.rest ∙ ap (λ (x : Receiver). x.ring) between in
    let received : c.is.received ≡ h.is.received = ap (λ (x : Receiver). x.received) c.changes.rest ∙ ap (λ (x : Receiver). x.received) between in
    let line : IsLine c.is t = record {
      pair = ring ∙ h.changes.ring.0 ∙ own ∙ sym h.changes.ring.1;
      received = cc (received, h.changes.received.0, h.changes.received.1, h.changes.before, append-nil t.before, c.changes.items);
    } in
    (c.is, line_here Clears k mid after c, line)

-- the first mutators forgot

pub forgot_none : (inbox : List Receiver) (mutators : List Mutator) → HaveLines inbox mutators → HaveForgottenSoFar 0 inbox inbox mutators mutators
forgot_none inbox mutators have = record {
  inbox_is = refl;
  count = refl;
  each = λ k m n lt. absurd (omega (arith, lt));
  others = λ k m n from e f. same_item mutators k n m f e;
  lines = have.lines;
}

module _ (first inbox after : List Receiver) (was now : List Mutator) (k : ℕ) (m n : Mutator) (h : HaveForgottenSoFar k first inbox was now)
    (at : slice_get now k ≡ Some m) (forgot : HasForgotten m n) (took : AtLine AnyLine k inbox after) (line : IsLined after k n.sender) where
  abbrev then : List Mutator
  then = set now k n

  there : slice_get then k ≡ Some n
  there = set_here now k n (slice_get_within now k m at)

  each : (j : ℕ) (a b : Mutator) → j < k + 1 → slice_get was j ≡ Some a → slice_get then j ≡ Some b → HasForgotten a b
  each j a b lt e f = elim (cases_eq j k) [
    | inl same ↦
        let own : m ≡ a = h.others j a m (omega (arith, same)) e (ap (λ (i : ℕ). slice_get now i) same ∙ at) in
        let is : n ≡ b = same_item then k n b there (ap (λ (i : ℕ). slice_get then i) (sym same) ∙ f) in
        subst (λ (x : Mutator). HasForgotten a x) is (subst (λ (x : Mutator). HasForgotten x n) own forgot)
    | inr ne ↦ h.each j a b (omega (arith, lt, ne)) e (sym (set_other now k j n ne) ∙ f)
  ]

  others : (j : ℕ) (a b : Mutator) → k + 1 ≤ j → slice_get was j ≡ Some a → slice_get then j ≡ Some b → b ≡ a
  others j a b from e f =
      let ne : j ≢ k = λ same. let bad = from in absurd (omega (arith, bad, same)) in
      h.others j a b (omega (arith, from)) e (sym (set_other now k j n ne) ∙ f)

  lines : (j : ℕ) (b : Mutator) → slice_get then j ≡ Some b → IsLined after j b.sender
  lines j b f = elim (cases_eq j k) [
    | inl same ↦
        let is : n ≡ b = same_item then k n b there (ap (λ (i : ℕ). slice_get then i) (sym same) ∙ f) in
        subst (λ (x : Mutator). IsLined after j x.sender) is (subst (λ (i : ℕ). IsLined after i n.sender) (sym same) line)
    | inr ne ↦
        let old = h.lines j b (sym (set_other now k j n ne) ∙ f) in
        (old.0, line_other AnyLine k inbox after took j ne ∙ old.1, old.2)
  ]

  pub forgot_more : HaveForgottenSoFar (k + 1) first after was then
  forgot_more = record {
    inbox_is = line_count AnyLine k inbox after took ∙ h.inbox_is;
    count = length-set now k n ∙ h.count;
    each = each;
    others = others;
    lines = lines;
  }

-- all mutators forgot
pub all_forgot : (first after : List Receiver) (was now : List Mutator) → HaveForgottenSoFar (length was) first after was now → HaveForgotten was now
all_forgot first after was now h = record { count = h.count; each = λ k m n e f. h.each k m n (slice_get_within was k m e) e f }

-- this number of mutators or more forgot
pub forgot_enough : (n : ℕ) (first after : List Receiver) (was now : List Mutator) → length was ≤ n → HaveForgottenSoFar n first after was now →
    HaveForgottenSoFar (length was) first after was now
forgot_enough n first after was now enough h = record {
  inbox_is = h.inbox_is;
  count = h.count;
  each = λ k m p lt e f. h.each k m p (omega (arith, lt, enough)) e f;
  others = λ k m p from e f. absurd (let within = slice_get_within was k m e in omega (arith, from, within));
  lines = h.lines;
}

-- a mutator with an earlier change of its sender forgot too
pub forgot_after : (m n p : Mutator) → n ≡ record m { sender = n.sender } → HasForgotten n p → HasForgotten m p
forgot_after m n p is h = record {
  rest = h.rest ∙ ap (λ (x : Mutator). record x { updrem = p.updrem; sender = p.sender }) is;
  nothing = h.nothing;
}

-- blocks are taken out of a ring until it is empty
pub record IsDraining (first inbox : List Receiver) (number : ℕ) (was m : Mutator) : Type 0 where
  pub paired : IsPaired inbox number m.sender
  pub took : AtLine AnyLine number first inbox
  pub rest : m ≡ record was { sender = m.sender }

pub draining_none : (inbox : List Receiver) (number : ℕ) (m : Mutator) → IsPaired inbox number m.sender → IsDraining inbox inbox number m m
draining_none inbox number m pair = record { paired = pair; took = any_none number inbox pair.0 pair.1; rest = refl }

pub draining_more : (first inbox after : List Receiver) (number : ℕ) (was m n : Mutator) (block : List Address) →
    IsDraining first inbox number was m → n ≡ record m { sender = n.sender } → AtLine (TakesRestSo m.sender n.sender block) number inbox after →
    IsDraining first after number was n
draining_more first inbox after number was m n block d rest h = record {
  paired = still_paired inbox after number m.sender n.sender block d.paired h;
  took = any_then number first inbox after d.took (as_any (TakesRestSo m.sender n.sender block) number inbox after h);
  rest = rest ∙ ap (λ (x : Mutator). record x { sender = n.sender }) d.rest;
}

-- the ring is empty, and list and set were emptied
module _ (first inbox mid after : List Receiver) (number : ℕ) (was m n p : Mutator) (d : IsDraining first inbox number was m) (rest : n ≡
    record m { sender = n.sender }) (h : AtLine (IsLevelSo m.sender n.sender) number inbox mid) (clears : AtLine Clears number mid after)
    (last : p ≡ record n { updrem = p.updrem }) (empty : p.updrem.items ≡ []) where
  same_sender : p.sender ≡ n.sender
  same_sender = ap (λ (x : Mutator). x.sender) last

  pub drained : HasForgotten was p
  drained = record {
    rest =
        cc (last, rest, d.rest, same_sender);
    nothing = cc (same_sender, h.changes.since, empty);
  }

  pub drained_took : AtLine AnyLine number first after
  drained_took = any_then number first mid after (any_then number first inbox mid d.took (as_any (IsLevelSo m.sender n.sender) number inbox mid h))
      (as_any Clears number mid after clears)

  pub drained_line : IsLined after number p.sender
  drained_line = subst (λ (s : Sender). IsLined after number s) (sym same_sender) (level_lined inbox mid after number m.sender n.sender d.paired h clears)
