-- A session that begins: its collector is new for every script that the session may turn out to have.
use Rattle.nmgc_cycle.proofs.Vocabulary.{ℕ, ◌≡◌, ◌+◌, ◌*◌, ◌≤◌, ◌∙◌, List, length, refl, sym, ap, subst, arith, inl, slice_get, slice_get_within, slice_index, true, Some, Command, Config, Script, RoundRows, FitsRun, answered_count, IsFresh, Collector, CommandQueue, Session}
use Rattle.nmgc_limits.specs.Limits.{most_script_bytes}
use Rattle.nmgc_limits.specs.declared.mutators.TheConstants.{MAKERS}
use Rattle.nmgc_script.specs.Spelling.{FitsConfig, version_3, version_of}
use Rattle.nmgc_cycle.specs.Sessions.{AreEmptyQueues, BeginsSession, IsScriptOfSession, IsSession}
use Rattle.nmgc_cycle.proofs.rounds.RunSoFar.{fresh_for}

module _ (head : Script) (c : Collector) (made : Session) (limits : FitsRun head) (version : head.version ≡ version_3.number)
    (fresh : IsFresh head c) (empty : AreEmptyQueues head.config.words (length head.threads) made.queues.items) where
  abbrev session : Session
  session = record { config = head.config; collector = c; queues = made.queues; is_open = true }

  room_first : (k : ℕ) (q : CommandQueue) → slice_get made.queues.items k ≡ Some q → length q.answered + length q.waiting.items + 1 ≤ most_script_bytes
  room_first k q e =
      let own = empty.each k q e in
      let answered = ap (λ (l : List Command). length l) own.answered in
      let waiting = ap (λ (l : List Command). length l) own.waiting in
      omega (arith, answered, waiting)

  positions_first : (k : ℕ) (q : CommandQueue) → slice_get made.queues.items k ≡ Some q → slice_index c.positions.items k ≡ length q.answered
  positions_first k q e =
      let within = slice_get_within made.queues.items k q e in
      let count = empty.count_is in
      let own = empty.each k q e in
      fresh.kept.positions k (omega (arith, within, count)) ∙ ap (λ (r : List RoundRows). answered_count r k) fresh.new.nothing.0
      ∙ ap (λ (l : List Command). length l) (sym own.answered)

  fresh_then : (t : Script) → IsScriptOfSession session t → IsFresh t c
  fresh_then t h = subst (λ (x : Config). IsFresh (record { version = t.version; config = x; threads = t.threads }) c) (sym h.config_is)
      (fresh_for head t.version t.threads c (h.count ∙ empty.count_is) fresh)

  is_first : IsSession true session
  is_first =
      let count = empty.count_is in
      let some = limits.fits.some_thread in
      let few : length head.threads ≤ MAKERS = subst (λ (n : ℕ). length head.threads ≤ (version_of n).threads) version limits.fits.threads in record {
        config_fits = subst (λ (n : ℕ). FitsConfig (version_of n).segments head.config) version limits.fits.config;
        some = omega (arith, some, count);
        few = omega (arith, few, count);
        total = subst (λ (n : ℕ). head.config.segments * head.config.words + n * head.config.nursery ≤ version_3.heap_words) (sym count)
            (subst (λ (n : ℕ). head.config.segments * head.config.words + length head.threads * head.config.nursery ≤ (version_of n).heap_words) version
            limits.fits.total);
        queues = λ k q e. let own = empty.each k q e in (own.queue, own.words_are);
        room = λ e. room_first;
        positions_are = fresh.kept.positions_are ∙ sym count;
        positions = positions_first;
        in_run = λ t h. inl (fresh_then t h);
      }

  pub begins : BeginsSession head session
  begins = record {
    is = is_first;
    config = refl;
    is_open = refl;
    count = empty.count_is;
    nothing = λ k q e. let own = empty.each k q e in (own.accepted, own.waiting);
    no_rounds = fresh.new.nothing.0;
    no_stops = fresh.new.nothing.1;
    no_cycles = fresh.new.nothing.2;
  }
