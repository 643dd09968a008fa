-- A stop of a session: it may be done in the run of every script that the session may turn out to have.
use Rattle.nmgc_cycle.proofs.Vocabulary.{ℕ, ◌≡◌, ◌↔◌, ◌<◌, ◌∙◌, List, [], ◌∷◌, length, refl, sym, ap, subst, arith, length-append, drop, drop_at, slice_index, true, false, Bool, IsTrue, item, Command, Script, left_at, Follows, FollowEach, SomeGives, SomeIsLeft, HasStopped, Collector, Session}
use Rattle.nmgc_cycle.specs.{Open.MayBeScript, Sessions.IsRest, Sessions.IsScriptOfSession, Sessions.IsSession, Sessions.MayComeFirst, Sessions.next_in}
use Rattle.nmgc_cycle.proofs.rounds.FollowedLeft.{left_where_given}

some_first : (waiting rest : List Command) → MayComeFirst waiting rest → 0 < length rest
some_first [] rest h = h
some_first (c ∷ waiting) rest h = let size = ap (λ (l : List Command). length l) h.1 in omega (arith, size)

-- no command is left
pub not_left : (left : Bool) (P : Type 0) → IsTrue left ↔ P → (P → ⊥) → left ≡ false
not_left true P h none = absurd (none (h.0 refl))
not_left false P h none = refl

-- a session is closed if no command is left
pub closed_by_none : (b left : Bool) → (b ≡ true → left ≡ true) → left ≡ false → b ≡ false
closed_by_none true left h none = absurd (let is_left = h refl in cc)
closed_by_none false left h none = refl

module _ (s : Session) (is : IsSession true s) where
  -- in an open session commands are left
  left_open : (t : Script) → IsScriptOfSession s t → s.is_open ≡ true → SomeIsLeft t.threads s.collector.positions.items
  left_open t h e =
      let some = is.some in
      let q = item s.queues.items 0 (omega (arith, some)) in
      let own = h.programs 0 q.0 q.1 in
      let count = h.count in
      let first = some_first q.0.waiting.items own.0 (subst (λ (b : Bool). IsRest b q.0 own.0) e own.2) in
      let long = ap (λ (l : List Command). length l) own.1 in
      let sum = length-append q.0.answered own.0 in
      let at = is.positions 0 q.0 q.1 in
      (0, omega (arith, some, count), omega (arith, first, long, sum, at))

  -- in a closed session a queue's next command comes first
  follows : (t : Script) → IsScriptOfSession s t → s.is_open ≡ false → FollowEach next_in t s.collector.positions.items s.queues.items
  follows t h e = record {
    count = sym h.count;
    each = λ k q there.
        let own = h.programs k q there in
        let left : left_at t s.collector.positions.items k ≡ own.0 =
        ap (λ (l : List Command). drop (slice_index s.collector.positions.items k) l) own.1
        ∙ drop_at q.answered own.0 (slice_index s.collector.positions.items k) (sym (is.positions k q there)) in
        subst (λ (l : List Command). Follows (next_in q) l) (sym left) (subst (λ (b : Bool). IsRest b q own.0) e own.2);
  }

  module _ (left : Bool) (open_left : s.is_open ≡ true → left ≡ true) (closed_left : s.is_open ≡ false → IsTrue left ↔ SomeGives next_in s.queues.items) where
    left_by : (b : Bool) → s.is_open ≡ b → (t : Script) → IsScriptOfSession s t → IsTrue left ↔ SomeIsLeft t.threads s.collector.positions.items
    left_by true e t h = (λ x. left_open t h e, λ some. open_left e)
    left_by false e t h =
        let given = closed_left e in
        let where_given = left_where_given next_in t s.collector.positions.items s.queues.items (follows t h e) in
        (λ x. where_given.0 (given.0 x), λ some. given.1 (where_given.1 some))

    -- the stop may be done in the run of each such script
    pub may_be : (t : Script) → IsScriptOfSession s t → MayBeScript s.config left s.collector t
    may_be t h = record { limits = h.limits; config_is = sym h.config_is; left_is = left_by s.is_open refl t h; can = is.in_run t h }

  -- the session after the stop
  pub session_stopped : (new : Collector) → new.positions.items ≡ s.collector.positions.items → ((t : Script) → IsScriptOfSession s t → HasStopped t new) →
      IsSession false (record s { collector = new })
  session_stopped new positions stopped = record {
    config_fits = is.config_fits;
    some = is.some;
    few = is.few;
    total = is.total;
    queues = is.queues;
    room = is.room;
    positions_are = ap (λ (l : List ℕ). length l) positions ∙ is.positions_are;
    positions = λ k q e. ap (λ (l : List ℕ). slice_index l k) positions ∙ is.positions k q e;
    in_run = λ t h. stopped t (record { version = h.version; config_is = h.config_is; count = h.count; programs = h.programs; limits = h.limits });
  }
