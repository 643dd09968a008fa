-- Polls of the rings: each receiver has more entries of its own, and their number is the same.
use Rattle.std.proofs.{Common.ℕ, Common.◌≡◌, Common.◌<◌, Common.◌∙◌, Common.sym, Common.ap, Common.subst, Common.List, Common.[], Common.length, Common.append-nil, Common.set, Common.get_or, Common.length-set, Common.inl, Common.inr, Common.refl, lemmas.Bool.cases_eq, lemmas.List.get_or-set_same, lemmas.List.get_or-set_other, lemmas.Option.slice_get-get_or, lemmas.Option.slice_get_within, lemmas.Option.get_or_from_slice_get}
use Rattle.std.specs.Prelude.{slice_get, Some}
use Rattle.nmgc_updrem.specs.{Lines.PollsSo, Rings.Receiver, Rings.Polls, Rings.HasPolled, Rings.HavePolled, Rings.AtLine, declared.poll.Poll.Poll, laws.Lines.polled_none, laws.Lines.polled_then}
use Rattle.nmgc_updrem.specs.declared.poll.Poll.TheVariants as polled

-- a poll with any answer
poll_is : (r q : Receiver) (answer : Poll) → Polls r q answer → HasPolled r q
poll_is r q polled.Took h = record { entries = h.block; ring = h.receives.ring; received = h.receives.received; taken = h.items }
poll_is r q polled.Nothing h = record {
  entries = [];
  ring = h.ring;
  received = h.received ∙ sym (append-nil r.received);
  taken = ap (λ (t : _). t.items) h.taken ∙ sym (append-nil r.taken.items);
}
poll_is r q polled.NoRoom h = subst (λ (x : Receiver). HasPolled r x) (sym h) (polled_none r)

-- no poll at all
pub polled_all_none : (l : List Receiver) → HavePolled l l
polled_all_none l = record {
  count = refl;
  each = λ k r q at now. subst (λ (x : Receiver). HasPolled r x) (sym (get_or_from_slice_get l k r q at) ∙ get_or_from_slice_get l k q q now) (polled_none r);
}

-- polls after polls
pub polled_all_then : (old mid new : List Receiver) → HavePolled old mid → HavePolled mid new → HavePolled old new
polled_all_then old mid new x y = record {
  count = y.count ∙ x.count;
  each = λ k r q at now.
      let within : k < length mid = subst (λ (n : ℕ). k < n) (sym x.count) (slice_get_within old k r at) in
      let m : Receiver = get_or mid k r in
      let here : slice_get mid k ≡ Some m = slice_get-get_or mid k r within in
      polled_then r m q (x.each k r m at here) (y.each k m q here now);
}

-- one receiver that changed as by a poll
pub at_polled : (C : Receiver → Receiver → Type 0) → ((r q : Receiver) → C r q → HasPolled r q) → (mid new : List Receiver) (mutator : ℕ) →
    AtLine C mutator mid new → HavePolled mid new
at_polled C is_polled mid new mutator h = record {
  count = ap (λ (l : List Receiver). length l) h.rest ∙ length-set mid mutator h.is;
  each = λ k r q at now.
      let there : mutator < length mid = slice_get_within mid mutator h.was h.at in
      let is : get_or (set mid mutator h.is) k q ≡ q = get_or_from_slice_get (set mid mutator h.is) k q q (ap (λ (l : List Receiver).
      slice_get l k) (sym h.rest) ∙ now) in
      elim (cases_eq k mutator) [
        | inl e ↦
            let was : h.was ≡ r = sym (get_or_from_slice_get mid mutator h.was q h.at) ∙ ap (λ (j : ℕ). get_or mid j q) (sym e) ∙
            get_or_from_slice_get mid k r q at in
            let then : h.is ≡ q = sym (get_or-set_same mid mutator h.is q there) ∙ ap (λ (j : ℕ). get_or (set mid mutator h.is) j q) (sym e) ∙ is in
            subst (λ (x : Receiver). HasPolled r x) then (subst (λ (x : Receiver). HasPolled x h.is) was (is_polled h.was h.is h.changes))
        | inr ne ↦
            let same : r ≡ q = sym (get_or_from_slice_get mid k r q at) ∙ sym (get_or-set_other mid mutator k h.is q ne) ∙ is in
            subst (λ (x : Receiver). HasPolled r x) same (polled_none r)
      ];
}

-- a poll of one mutator's ring, after other polls
pub polled_one : (old mid new : List Receiver) (mutator : ℕ) (answer : Poll) → HavePolled old mid → AtLine (PollsSo answer) mutator mid new →
    HavePolled old new
polled_one old mid new mutator answer before h = polled_all_then old mid new before (at_polled (PollsSo answer) (λ r q (x : PollsSo answer r q).
    poll_is r q answer x.polls) mid new mutator h)
