-- The two ends of each ring meet, one mutator after the other.
use Rattle.nmgc_cycle.proofs.{Vocabulary.ℕ, Vocabulary.◌≡◌, Vocabulary.◌+◌, Vocabulary.◌<◌, Vocabulary.◌∙◌, Vocabulary.sym, Vocabulary.ap, Vocabulary.subst, Vocabulary.List, Vocabulary.◌++◌, Vocabulary.length, Vocabulary.set, Vocabulary.length-set, Vocabulary.Some, Vocabulary.inl, Vocabulary.inr, Vocabulary.refl, Vocabulary.arith, Vocabulary.slice_get, Vocabulary.cases_eq, Vocabulary.slice_get_within, Vocabulary.Address, Vocabulary.Mutator, Vocabulary.numbers, Vocabulary.HasMetSo, Vocabulary.Receiver, Vocabulary.AtLine, Vocabulary.IsLine, Vocabulary.line_is, Vocabulary.polled_all_none, Vocabulary.polled_all_then, Vocabulary.IsLined, Vocabulary.HasMetSender, Vocabulary.HaveLines, Vocabulary.HaveMet, Vocabulary.RememberInOrder, Vocabulary.set_here, Vocabulary.set_other, rounds.Lining.same_item, rounds.Lining.line_here, rounds.Lining.line_other, rounds.Lining.lined_on, rounds.Lining.all_met}
use Rattle.nmgc_updrem.specs.Rings.{IsInOrder}

-- none met
met_self : (m : Mutator) → HasMetSender m m
met_self m = record { rest = refl; looked = record { ring = refl; before = refl; since = refl } }

pub met_none : (inbox : List Receiver) (mutators : List Mutator) → HaveLines inbox mutators → HaveMet 0 inbox inbox mutators mutators
met_none inbox mutators have = record {
  receivers = polled_all_none inbox;
  count = refl;
  mutators = λ k m n e f. subst (λ (x : Mutator). HasMetSender m x) (same_item mutators k m n e f) (met_self m);
  lines = have.lines;
  in_order = λ k r n lt. absurd (omega (arith, lt));
}

-- one after another
met_then : (m n p : Mutator) → HasMetSender m n → HasMetSender n p → HasMetSender m p
met_then m n p x y = record {
  rest = y.rest ∙ ap (λ (o : Mutator). record o { sender = p.sender }) x.rest;
  looked = record { ring = y.looked.ring ∙ x.looked.ring; before = y.looked.before ∙ x.looked.before; since = y.looked.since ∙ x.looked.since };
}

module _ (first inbox after : List Receiver) (was now : List Mutator) (k : ℕ) (m n : Mutator) (h : HaveMet k first inbox was now)
    (at : slice_get now k ≡ Some m) (met : HasMetSender m n) (line : AtLine (HasMetSo m.sender n.sender) k inbox after) where
  abbrev then : List Mutator
  then = set now k n

  there : slice_get then k ≡ Some n
  there = set_here now k n (slice_get_within now k m at)

  -- the mutator at a position, which met or not
  mutators : (j : ℕ) (a b : Mutator) → slice_get was j ≡ Some a → slice_get then j ≡ Some b → HasMetSender a b
  mutators j a b e f = elim (cases_eq j k) [
    | inl same ↦
        let own : HasMetSender a m = h.mutators j a m e (ap (λ (i : ℕ). slice_get now i) same ∙ at) in
        let is : n ≡ b = same_item then k n b there (ap (λ (i : ℕ). slice_get then i) (sym same) ∙ f) in
        subst (λ (x : Mutator). HasMetSender a x) is (met_then a m n own met)
    | inr ne ↦ h.mutators j a b e (sym (set_other now k j n ne) ∙ f)
  ]

  lines : (j : ℕ) (b : Mutator) → slice_get then j ≡ Some b → IsLined after j b.sender
  lines j b f = elim (cases_eq j k) [
    | inl same ↦
        let own : IsLined after k n.sender =
        lined_on inbox after (all_met m.sender n.sender k inbox after line) k m.sender n.sender met.looked.ring met.looked.before (h.lines k m at) in
        let is : n ≡ b = same_item then k n b there (ap (λ (i : ℕ). slice_get then i) (sym same) ∙ f) in
        subst (λ (x : Mutator). IsLined after j x.sender) is (subst (λ (i : ℕ). IsLined after i n.sender) (sym same) own)
    | inr ne ↦ lined_on inbox after (all_met m.sender n.sender k inbox after line) j b.sender b.sender refl refl
        (h.lines j b (sym (set_other now k j n ne) ∙ f))
  ]

  in_order : (j : ℕ) (r : Receiver) (b : Mutator) → j < k + 1 → slice_get after j ≡ Some r → slice_get then j ≡ Some b → IsInOrder r b.sender
  in_order j r b lt e f = elim (cases_eq j k) [
    | inl same ↦
        let is : n ≡ b = same_item then k n b there (ap (λ (i : ℕ). slice_get then i) (sym same) ∙ f) in
        let own : line.is ≡ r = same_item after k line.is r (line_here (HasMetSo m.sender n.sender) k inbox after line) (cc (same, e)) in
        subst (λ (x : Mutator). IsInOrder r x.sender) is (subst (λ (x : Receiver). IsInOrder x n.sender) own line.changes.in_order)
    | inr ne ↦ h.in_order j r b (omega (arith, lt, ne)) (sym (line_other (HasMetSo m.sender n.sender) k inbox after line j ne) ∙
        e) (sym (set_other now k j n ne) ∙ f)
  ]

  pub met_more : HaveMet (k + 1) first after was then
  met_more = record {
    receivers = polled_all_then first inbox after h.receivers (all_met m.sender n.sender k inbox after line);
    count = length-set now k n ∙ h.count;
    mutators = mutators;
    lines = lines;
    in_order = in_order;
  }

-- after all met, each remembers the entries taken out of its ring, then in the ring, then in its set
pub all_in_order : (first after : List Receiver) (was then : List Mutator) → HaveMet (length was) first after was then → RememberInOrder after then
all_in_order first after was then h k r m e f =
    let within : k < length was = subst (λ (n : ℕ). k < n) h.count (slice_get_within then k m f) in
    let line = h.lines k m f in
    let is : line.0 ≡ r = same_item after k line.0 r line.1 e in
    let order : IsInOrder r m.sender = h.in_order k r m within e f in
    let own = subst (λ (x : Receiver). IsLine x m.sender) is line.2 in
    ap (λ (l : List Address). numbers (l ++ m.updrem.items)) (sym (line_is r m.sender own order))
