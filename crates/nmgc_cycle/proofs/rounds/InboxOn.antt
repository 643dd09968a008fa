-- Only the inbox and the mutators' knowledge of their rings changed: the view in contracts is the same.
use Rattle.nmgc_cycle.proofs.Vocabulary.{ℕ, ◌≡◌, ◌+◌, ◌≤◌, ◌++◌, List, length, map, refl, sym, ap, subst, ◌∙◌, Some, Global, arith, slice_get, Vec, slice_get_within, World, MAKERS, Address, Mutator, IsWhole, numbers, Receiver, HavePolled, Script, IsAfterRound, Run, last_state, State, Progress, idle, marking, sweeping, plan_of, Collector, MayFollow, commands, one_cycle, no_cycle, AreFewAtStop, AreFewBeforeStop, IsWellFormed, IsOwn, IsAfterStop, HasStopped, HasWorked, DidRound, Sweeps, HasMetSender, HaveLines, HaveMet, seen, seen_mutator, item}
use Rattle.nmgc_collector_laws.specs.Seen as run
use Rattle.nmgc_cycle.proofs.{rounds.Lining.lined_on, lists.Mapped.same_maps}

-- inbox and mutators are no part of the sweeper's facts, nor of the bound of stops

sweeps_both : (p : Progress) (s : State) (c : Collector) (inbox : List Receiver) (mutators : Vec Mutator Global) → Sweeps p s c →
    Sweeps p s (record c { inbox = inbox; mutators = mutators })
sweeps_both idle s c inbox mutators h = h
sweeps_both (marking k) s c inbox mutators h = (record { notes = h.0.notes; left = h.0.left }, h.1, h.2, h.3)
sweeps_both (sweeping k closed) s c inbox mutators h = h

follow_both : (Nothing : Type 0) (script : Script) (c : Collector) (inbox : List Receiver) (mutators : Vec Mutator Global) (count : ℕ) →
    MayFollow Nothing script c count → MayFollow Nothing script (record c { inbox = inbox; mutators = mutators }) count
follow_both Nothing script c inbox mutators count (commands h) = commands h
follow_both Nothing script c inbox mutators count (one_cycle none h) = one_cycle none h
follow_both Nothing script c inbox mutators count (no_cycle none same undue h) =
    no_cycle none same (record { not_asked = undue.not_asked; not_filled = undue.not_filled }) h

few_stop : (script : Script) (c : Collector) (inbox : List Receiver) (mutators : Vec Mutator Global) → AreFewAtStop script c →
    AreFewAtStop script (record c { inbox = inbox; mutators = mutators })
few_stop script c inbox mutators h = record {
  few = record { follow = follow_both (Unit {0}) script c inbox mutators (length c.rows.stops) h.few.follow; phase = h.few.phase };
  begun = h.begun;
  more = h.more;
}

few_before : (script : Script) (c : Collector) (inbox : List Receiver) (mutators : Vec Mutator Global) (began w : World) →
    AreFewBeforeStop script c began w → AreFewBeforeStop script (record c { inbox = inbox; mutators = mutators }) began w
few_before script c inbox mutators began w h = record {
  few = record { follow = follow_both (w ≡ began) script c inbox mutators (length c.rows.stops + 1) h.few.follow; phase = h.few.phase };
  begun = h.begun;
}

-- The inbox alone

module _ (script : Script) (c : Collector) (inbox : List Receiver) where
  abbrev other : Collector
  other = record c { inbox = inbox }

  kept_inbox : HavePolled c.inbox inbox → IsWellFormed script c → IsWellFormed script other
  kept_inbox polled k = record {
    layout = k.layout;
    sound = k.sound;
    lists = k.lists;
    entries = k.entries;
    has_words = k.has_words;
    count = k.count;
    own = λ n m e. let o = k.own n m e in record {
      number = o.number;
      layout = o.layout;
      whole = o.whole;
      no_replies = o.no_replies;
      line = lined_on c.inbox inbox polled n m.sender m.sender refl refl o.line;
    };
    inbox = polled.count ∙ k.inbox;
    positions_are = k.positions_are;
    positions = k.positions;
    no_ends = k.no_ends;
    room = k.room;
    workers = k.workers;
  }

  -- a stopped collector stays stopped
  pub stop_inbox : (run : Run) → IsWellFormed script other → IsAfterStop script c run → IsAfterStop script other run
  stop_inbox run kept still = record {
    kept = kept;
    at_stop = still.at_stop;
    sweeper = sweeps_both (last_state run).progress (last_state run) c inbox c.mutators still.sweeper;
    named = still.named;
    few = few_stop script c inbox c.mutators still.few;
  }

pub inbox_stopped : (script : Script) (old new : Collector) → HasStopped script old → new ≡ record old { inbox = new.inbox } →
    HavePolled old.inbox new.inbox → HasStopped script new
inbox_stopped script old new (r, still) rest polled = (
  r,
  rw rest (stop_inbox script old new.inbox r (kept_inbox script old new.inbox polled still.kept) still),
)

-- and conversely
pub inbox_before : (script : Script) (old new : Collector) (r : Run) → IsWellFormed script old → new ≡ record old { inbox = new.inbox } →
    IsAfterStop script new r → IsAfterStop script old r
inbox_before script old new r kept rest still = stop_inbox script (record old { inbox = new.inbox }) old.inbox r kept (rw rest at still)

-- Both, once the ends of the rings have met

met_seen : (m n : Mutator) → HasMetSender m n → seen_mutator n ≡ seen_mutator m
met_seen m n h = ap seen_mutator h.rest ∙ ap (λ (l : List Address). record (seen_mutator m) { entries = numbers (l ++ m.updrem.items) }) h.looked.since

module _ (script : Script) (c : Collector) (inbox : List Receiver) (mutators : Vec Mutator Global) (many : ℕ)
    (met : HaveMet many c.inbox inbox c.mutators.items mutators.items) where
  abbrev after : Collector
  after = record c { inbox = inbox; mutators = mutators }

  same_mutators : map seen_mutator mutators.items ≡ map seen_mutator c.mutators.items
  same_mutators = same_maps seen_mutator seen_mutator mutators.items c.mutators.items met.count (λ k n m e f. met_seen m n (met.mutators k m n f e))

  same_seen : seen c ≡ seen after
  same_seen = ap (λ (l : List run.MutatorSeen). record (seen c) { mutators = l }) (sym same_mutators)

  own_met : IsWellFormed script c → (k : ℕ) (n : Mutator) → slice_get mutators.items k ≡ Some n → IsOwn after k n
  own_met kept k n e =
      let within = slice_get_within mutators.items k n e in
      let count = met.count in
      let m = item c.mutators.items k (omega (arith, within, count)) in
      let o = kept.own k m.0 m.1 in
      let rest = (met.mutators k m.0 n m.1 e).rest in
      record {
        number = ap (λ (x : Mutator). x.number) rest ∙ o.number;
        layout = ap (λ (x : Mutator). x.layout) rest ∙ o.layout;
        whole = subst (λ (x : Mutator). IsWhole x) (sym rest) (record { layout = o.whole.layout; number = o.whole.number; size = o.whole.size });
        no_replies = ap (λ (x : Mutator). x.replies.items) rest ∙ o.no_replies;
        line = met.lines k n e;
      }

  kept_met : IsWellFormed script c → IsWellFormed script after
  kept_met k = record {
    layout = k.layout;
    sound = k.sound;
    lists = k.lists;
    entries = k.entries;
    has_words = k.has_words;
    count = met.count ∙ k.count;
    own = own_met k;
    inbox = met.receivers.count ∙ k.inbox;
    positions_are = k.positions_are;
    positions = k.positions;
    no_ends = k.no_ends;
    room = k.room;
    workers = k.workers;
  }

  pub worked_met : HasWorked script c → HasWorked script after
  worked_met w = record {
    kept = kept_met w.kept;
    goes_on = w.goes_on;
    run = w.run;
    replies = w.replies;
    history = w.history;
    worked = w.worked;
    after = subst (λ (s : run.CollectorSeen). IsAfterRound (plan_of script) w.run w.replies w.history w.worked s) same_seen w.after;
    sweeper = sweeps_both w.worked.progress w.worked c inbox mutators w.sweeper;
    named = w.named;
    few = few_before script c inbox mutators (last_state w.run).world w.worked.world w.few;
  }

-- so it is still a round
pub round_met : (script : Script) (old mid new : Collector) (many : ℕ) → new ≡ record mid { inbox = new.inbox; mutators = new.mutators } →
    HaveMet many mid.inbox new.inbox mid.mutators.items new.mutators.items → DidRound script old mid → DidRound script old new
unfolding worked_met
round_met script old mid new many rest met did = rw rest (worked_met script mid new.inbox new.mutators many met did.0, did.1)

-- each of a collector's mutators has its ring
pub lines_of : (script : Script) (c : Collector) → length script.threads ≤ MAKERS → IsWellFormed script c → HaveLines c.inbox c.mutators.items
lines_of script c few k = record { few = (let count = k.count in omega (arith, few, count)); lines = λ n m e. (k.own n m e).line }
