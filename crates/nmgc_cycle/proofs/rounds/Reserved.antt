-- Room for a round changes nothing in the view of a collector.
use Rattle.nmgc_cycle.proofs.Vocabulary.{ℕ, ◌≡◌, ◌++◌, List, length, map, sym, ap, subst, ◌∙◌, arith, Some, Global, slice_get, Vec, slice_get_within, get_or_from_slice_get, IsLayout, Layout, Address, Mutator, Reserves, numbers, Script, IsAtStop, Run, last_state, MutatorSeen, State, Progress, idle, marking, sweeping, plan_of, layout_of, AreNamed, Collector, MayFollow, commands, one_cycle, no_cycle, AreFewAtStop, IsWellFormed, IsOwn, IsAfterStop, HasStopped, Sweeps, seen, seen_mutator, AreReserved, item, IsLined, Sender, slice_index_or}
use Rattle.nmgc_cycle.proofs.lists.Mapped.{same_maps}

-- a mutator whose lists have more room has the same view
noting : Mutator → List Address → List Address → List Address → List Address → MutatorSeen
noting m recorded weaks finalised entries = record {
  registers = m.registers;
  queue = m.queue;
  serial = m.serial;
  nursery = m.nursery;
  recorded = numbers recorded;
  young_weaks = numbers weaks;
  finalised = numbers finalised;
  entries = numbers (m.sender.since ++ entries);
}

same_seen : (m n : Mutator) → Reserves m n → seen_mutator n ≡ seen_mutator m
unfolding noting
same_seen m n r =
    let first : seen_mutator n ≡ noting m n.recorded.items n.young_weaks.items n.finalised.items n.updrem.items =
    ap (λ (x : Mutator). noting x n.recorded.items n.young_weaks.items n.finalised.items n.updrem.items) r.rest in
    cc (first, r.recorded.items, r.young_weaks.items, r.finalised.items, r.updrem.items)

-- an item of the new list, with its earlier state
pub was_at : (old new : List Mutator) (k : ℕ) (n : Mutator) → AreReserved old new → slice_get new k ≡ Some n → (m : Mutator) ×
    (slice_get old k ≡ Some m) × Reserves m n
was_at old new k n r e =
    let within = slice_get_within new k n e in
    let count = r.count in
    let m = item old k (omega (arith, within, count)) in
    let h = r.each k m.0 (omega (arith, within, count)) in
    let was = get_or_from_slice_get old k m.0 m.0 m.1 in
    let now = get_or_from_slice_get new k n m.0 e in
    (m.0, m.1, subst (λ (x : Mutator). Reserves m.0 x) now (subst (λ (x : Mutator). Reserves x (slice_index_or new k m.0)) was h))

pub reserved_seen : (old new : List Mutator) → AreReserved old new → map seen_mutator new ≡ map seen_mutator old
reserved_seen old new r = same_maps seen_mutator seen_mutator new old r.count (λ k n m e f.
    let h = was_at old new k n r e in
    let there = h.1 in
    let same : h.0 ≡ m = cc (there, f) in
    same_seen h.0 n h.2 ∙ ap seen_mutator same)

-- the mutators are no part of the sweeper's facts
pub sweeps_on : (p : Progress) (s : State) (c : Collector) (mutators : Vec Mutator Global) → Sweeps p s c → Sweeps p s (record c { mutators = mutators })
sweeps_on idle s c mutators h = h
sweeps_on (marking k) s c mutators h = (record { notes = h.0.notes; left = h.0.left }, h.1, h.2, h.3)
sweeps_on (sweeping k closed) s c mutators h = h

-- nor of the bound of stops
follow_on : (Nothing : Type 0) (script : Script) (c : Collector) (mutators : Vec Mutator Global) (count : ℕ) → MayFollow Nothing script c count →
    MayFollow Nothing script (record c { mutators = mutators }) count
follow_on Nothing script c mutators count (commands h) = commands h
follow_on Nothing script c mutators count (one_cycle none h) = one_cycle none h
follow_on Nothing script c mutators count (no_cycle none same undue h) =
    no_cycle none same (record { not_asked = undue.not_asked; not_filled = undue.not_filled }) h

few_on : (script : Script) (c : Collector) (mutators : Vec Mutator Global) → AreFewAtStop script c → AreFewAtStop script (record c { mutators = mutators })
few_on script c mutators h = record {
  few = record { follow = follow_on (Unit {0}) script c mutators (length c.rows.stops) h.few.follow; phase = h.few.phase };
  begun = h.begun;
  more = h.more;
}

module _ (script : Script) (c : Collector) (run : Run) (still : IsAfterStop script c run) (mutators : Vec Mutator Global)
    (reserved : AreReserved c.mutators.items mutators.items) where
  abbrev roomy : Collector
  roomy = record c { mutators = mutators }

  own : (k : ℕ) (n : Mutator) → slice_get mutators.items k ≡ Some n → IsOwn roomy k n
  own k n e =
      let h = was_at c.mutators.items mutators.items k n reserved e in
      let m = h.0 in
      let before = still.kept.own k m h.1 in
      let layout : n.layout ≡ m.layout = ap (λ (x : Mutator). x.layout) h.2.rest in
      let number : n.number ≡ m.number = ap (λ (x : Mutator). x.number) h.2.rest in
      let registers : n.registers ≡ m.registers = ap (λ (x : Mutator). x.registers) h.2.rest in
      record {
        number = number ∙ before.number;
        layout = layout ∙ before.layout;
        whole = record {
          layout = subst IsLayout (sym layout) before.whole.layout;
          number = let exists = before.whole.number in let mutators = ap (λ (l : Layout). l.mutators) layout in omega (arith, exists, mutators, number);
          size = ap (λ (l : List ℕ). length l) registers ∙ before.whole.size;
        };
        no_replies = h.2.replies.items ∙ before.no_replies;
        line = subst (λ (s : Sender). IsLined c.inbox k s) (sym (ap (λ (x : Mutator). x.sender) h.2.rest)) before.line;
      }

  kept : IsWellFormed script roomy
  kept = record {
    layout = still.kept.layout;
    sound = still.kept.sound;
    lists = still.kept.lists;
    entries = still.kept.entries;
    has_words = still.kept.has_words;
    count = reserved.count ∙ still.kept.count;
    own = own;
    inbox = still.kept.inbox;
    positions_are = still.kept.positions_are;
    positions = still.kept.positions;
    no_ends = still.kept.no_ends;
    room = still.kept.room;
    workers = still.kept.workers;
  }

  pub still_reserved : IsAfterStop script roomy run
  still_reserved = record {
    kept = kept;
    at_stop = rw (reserved_seen c.mutators.items mutators.items reserved) still.at_stop;
    sweeper = sweeps_on (last_state run).progress (last_state run) c mutators still.sweeper;
    named = still.named;
    few = few_on script c mutators still.few;
  }

-- and conversely
pub still_before : (script : Script) (old new : Collector) (run : Run) → IsWellFormed script old → new ≡ record old { mutators = new.mutators } →
    AreReserved old.mutators.items new.mutators.items → IsAfterStop script new run → IsAfterStop script old run
still_before script old new run kept rest reserved still =
    let same : seen new ≡ seen old = cc (rest, reserved_seen old.mutators.items new.mutators.items reserved) in
    record {
      kept = kept;
      at_stop = subst (IsAtStop (plan_of script) run) same still.at_stop;
      sweeper = sweeps_on (last_state run).progress (last_state run) (record old {
        mutators =
            new.mutators;
      }) old.mutators (subst (Sweeps (last_state run).progress (last_state run)) rest still.sweeper);
      named = subst (λ (x : Collector). AreNamed (layout_of (plan_of script)) x.heap.names (last_state run).allocation) rest still.named;
      few = few_on script (record old { mutators = new.mutators }) old.mutators (subst (AreFewAtStop script) rest still.few);
    }

pub reserved_stopped : (script : Script) (old new : Collector) → HasStopped script old → new ≡ record old { mutators = new.mutators } →
    AreReserved old.mutators.items new.mutators.items → HasStopped script new
reserved_stopped script old new (run, still) rest reserved = (
  run,
  subst (λ (x : Collector). IsAfterStop script x run) (sym rest) (still_reserved script old run still new.mutators reserved),
)
