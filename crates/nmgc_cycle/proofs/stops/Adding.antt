-- The remembered entries are added to the marker, one mutator after the other.
use Rattle.nmgc_cycle.proofs.Vocabulary.{ℕ, ◌≡◌, ◌+◌, ◌<◌, List, [], ◌∷◌, ◌++◌, length, take, get_or, refl, sym, ap, append-nil, append_assoc, subst, ◌∙◌, arith, Some, slice_get, append_cancel_left, map-append, take_more, Address, TakesRestSo, IsLevelSo, Sender, Receiver, AtLine, HasLooked, remembered, IsLined, IsPaired, AnyLine, Segments, IsTied, with_places, Mutator, numbers, Marks, with_name, name_at, Opening, HasRoomToMark, MarkerSeen, HasAdded, remembered_by}
use Rattle.nmgc_cycle.proofs.{stops.Forgetting.any_none, stops.Forgetting.any_then, stops.Forgetting.as_any, rounds.Lining.line_here, rounds.Lining.same_item}

-- one list of addresses after another
places_after : (o : Opening) (m : Marks) (a b : List ℕ) → with_places o m (a ++ b) ≡ with_places o (with_places o m a) b
places_after o m [] b = refl
places_after o m (at ∷ a) b = places_after o (with_name o.core.snapshot m (name_at o.places at)) a b

pub added_none : (s : Segments) (m : MarkerSeen) → HasRoomToMark s m → HasAdded [] s s m m
added_none s m room = record {
  marked = record {
    room = room;
    scanned = record { epoch = refl; grows = omega arith; pace = omega arith; room = refl };
    layout = refl;
    stands = λ words a h. h;
  };
  tied = λ o k h. h;
  turns = refl;
}

pub added_then : (a b : List ℕ) (s t u : Segments) (m n k : MarkerSeen) → HasAdded a s t m n → HasAdded b t u n k → HasAdded (a ++ b) s u m k
added_then a b s t u m n k x y =
    let before = x.marked.scanned in
    let after = y.marked.scanned in
    let epoch = before.epoch in
    let pace = before.pace in
    let room = before.room in
    let grows = before.grows in
    let pace_after = after.pace in
    let grows_after = after.grows in
    let room_after = after.room in
    record {
      marked = record {
        room = y.marked.room;
        scanned = record {
          epoch = after.epoch ∙ epoch;
          grows = omega (arith, grows, grows_after);
          pace = omega (arith, pace, pace_after);
          room = omega (arith, room, room_after);
        };
        layout = y.marked.layout ∙ x.marked.layout;
        stands = λ words l h. y.marked.stands words l (x.marked.stands words l h);
      };
      tied = λ o l h. subst (λ (p : Marks). IsTied o p u k) (sym (places_after o l a b)) (y.tied o (with_places o l a) (x.tied o l h));
      turns = y.turns ∙ x.turns;
    }

-- one more mutator
pub remembered_more : (ms : List Mutator) (i : ℕ) (d : Mutator) → i < length ms →
    remembered_by (take i ms) ++ remembered (get_or ms i d) ≡ remembered_by (take (i + 1) ms)
remembered_more ms i d lt = sym (ap remembered_by (take_more ms i d lt) ∙ and_then (take i ms) (get_or ms i d))
  where
    and_then : (xs : List Mutator) (m : Mutator) → remembered_by (xs ++ m ∷ []) ≡ remembered_by xs ++ remembered m
    and_then [] m = append-nil (remembered m)
    and_then (x ∷ xs) m = ap (λ (l : List ℕ). remembered x ++ l) (and_then xs m) ∙ sym (append_assoc (remembered x) (remembered_by xs) (remembered m))

-- the marker was given a mutator's entries taken out of its ring, and then a part of the ring
pub record IsGiving (old new : Segments) (before marker : MarkerSeen) (first inbox : List Receiver) (number : ℕ) (was m : Mutator) : Type 0 where
  pub lined : IsLined first number was.sender
  pub given : List Address
  pub now : Receiver
  pub at : slice_get inbox number ≡ Some now
  pub took : AtLine AnyLine number first inbox
  pub ring : now.ring ≡ lined.0.ring
  pub received : now.received ≡ lined.0.received ++ given
  pub rest : m ≡ record was { sender = m.sender }
  pub looked : HasLooked was.sender m.sender
  pub added : HasAdded (numbers (lined.0.taken.items ++ given)) old new before marker

both_numbers : (a b : List Address) → numbers (a ++ b) ≡ numbers a ++ numbers b
both_numbers a b = map-append (λ (x : Address). x.0) a b

module _ (old new : Segments) (before marker : MarkerSeen) (first inbox : List Receiver) (number : ℕ) (was m : Mutator) where
  -- nothing of the ring yet
  pub giving_none : (lined : IsLined first number was.sender) (entries : List Address) → entries ≡ lined.0.taken.items →
      HasAdded (numbers entries) old new before marker → inbox ≡ first → m ≡ was → IsGiving old new before marker first inbox number was m
  giving_none lined entries are added same_inbox same = record {
    lined = lined;
    given = [];
    now = lined.0;
    at = ap (λ (l : List Receiver). slice_get l number) same_inbox ∙ lined.1;
    took = subst (λ (l : List Receiver). AtLine AnyLine number first l) (sym same_inbox) (any_none number first lined.0 lined.1);
    ring = refl;
    received = sym (append-nil lined.0.received);
    rest = same ∙ ap (λ (s : Sender). record was { sender = s }) (sym (ap (λ (x : Mutator). x.sender) same));
    looked = record {
      ring = ap (λ (x : Mutator). x.sender.ring) same;
      before = ap (λ (x : Mutator). x.sender.before) same;
      since = ap (λ (x : Mutator). x.sender.since) same;
    };
    added = subst (λ (l : List Address). HasAdded (numbers l) old new before marker) (are ∙ sym (append-nil lined.0.taken.items)) added;
  }

  module _ (g : IsGiving old new before marker first inbox number was m) where
    -- the two ends are still the ends of one ring
    pub giving_paired : IsPaired inbox number m.sender
    giving_paired = (g.now, g.at, g.ring ∙ g.lined.2.pair ∙ sym g.looked.ring)

    -- one more block
    pub giving_more : (later : Segments) (then : MarkerSeen) (after : List Receiver) (n : Mutator) (block entries : List Address) →
        n ≡ record m { sender = n.sender } → AtLine (TakesRestSo m.sender n.sender block) number inbox after → entries ≡ block →
        HasAdded (numbers entries) new later marker then → IsGiving old later before then first after number was n
    giving_more later then after n block entries rest h are added =
        let own : h.was ≡ g.now = same_item inbox number h.was g.now h.at g.at in
        let more : HasAdded (numbers block) new later marker then = subst (λ (l : List Address). HasAdded (numbers l) new later marker then) are added in
        let all : HasAdded (numbers (g.lined.0.taken.items ++ g.given) ++ numbers block) old later before then =
        added_then (numbers (g.lined.0.taken.items ++ g.given)) (numbers block) old new later before marker then g.added more in
        let is : numbers (g.lined.0.taken.items ++ g.given) ++ numbers block ≡ numbers (g.lined.0.taken.items ++ (g.given ++ block)) =
        sym (both_numbers (g.lined.0.taken.items ++ g.given) block) ∙ ap numbers (append_assoc g.lined.0.taken.items g.given block) in
        record {
          lined = g.lined;
          given = g.given ++ block;
          now = h.is;
          at = line_here (TakesRestSo m.sender n.sender block) number inbox after h;
          took = any_then number first inbox after g.took (as_any (TakesRestSo m.sender n.sender block) number inbox after h);
          ring = h.changes.receives.ring ∙ ap (λ (r : Receiver). r.ring) own ∙ g.ring;
          received = cc (h.changes.receives.received, own, g.received, append_assoc g.lined.0.received g.given block);
          rest = rest ∙ ap (λ (x : Mutator). record x { sender = n.sender }) g.rest;
          looked = record {
            ring = h.changes.looked.ring ∙ g.looked.ring;
            before = h.changes.looked.before ∙ g.looked.before;
            since = h.changes.looked.since ∙ g.looked.since;
          };
          added = subst (λ (l : List ℕ). HasAdded l old later before then) is all;
        }

    -- the ring is empty: all entries sent since the ends were level are given
    module _ (after : List Receiver) (n : Mutator) (rest : n ≡
        record m { sender = n.sender }) (h : AtLine (IsLevelSo m.sender n.sender) number inbox after) where
      all_sent : g.lined.0.taken.items ++ g.given ≡ was.sender.since
      all_sent =
          let own : h.was ≡ g.now = same_item inbox number h.was g.now h.at g.at in
          let total : g.lined.0.received ++ g.given ≡ was.sender.before ++ was.sender.since =
          cc (g.received, own, h.changes.received.1, g.looked.before, g.looked.since) in
          append_cancel_left was.sender.before (g.lined.0.taken.items ++ g.given) was.sender.since
          (sym (append_assoc was.sender.before g.lined.0.taken.items g.given) ∙ ap (λ (l : List Address). l ++ g.given) (sym g.lined.2.received) ∙ total)

      -- and then those in its set
      pub given_all : (later : Segments) (then : MarkerSeen) (entries : List Address) → entries ≡ n.updrem.items →
          HasAdded (numbers entries) new later marker then → HasAdded (remembered was) old later before then
      given_all later then entries are added =
          let kept : n.updrem.items ≡ was.updrem.items = ap (λ (x : Mutator). x.updrem.items) rest ∙ ap (λ (x : Mutator). x.updrem.items) g.rest in
          let more : HasAdded (numbers was.updrem.items) new later marker then =
          subst (λ (l : List Address). HasAdded (numbers l) new later marker then) (are ∙ kept) added in
          let all : HasAdded (numbers (g.lined.0.taken.items ++ g.given) ++ numbers was.updrem.items) old later before then =
          added_then (numbers (g.lined.0.taken.items ++ g.given)) (numbers was.updrem.items) old new later before marker then g.added more in
          let is : numbers (g.lined.0.taken.items ++ g.given) ++ numbers was.updrem.items ≡ remembered was =
          ap (λ (l : List Address). numbers l ++ numbers was.updrem.items) all_sent ∙ sym (both_numbers was.sender.since was.updrem.items) in
          subst (λ (l : List ℕ). HasAdded l old later before then) is all

      pub given_rest : n ≡ record was { sender = n.sender }
      given_rest = rest ∙ ap (λ (x : Mutator). record x { sender = n.sender }) g.rest

      pub given_took : AtLine AnyLine number first after
      given_took = any_then number first inbox after g.took (as_any (IsLevelSo m.sender n.sender) number inbox after h)

      pub given_paired : IsPaired after number n.sender
      given_paired =
          let own : h.was ≡ g.now = same_item inbox number h.was g.now h.at g.at in (
            h.is,
            line_here (IsLevelSo m.sender n.sender) number inbox after h,
            cc (h.changes.ring.0, own, g.ring, g.lined.2.pair, g.looked.ring, h.changes.ring.1),
          )
