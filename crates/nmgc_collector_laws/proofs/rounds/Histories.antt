-- The commands of a finished round are one history, in which each mutator has its own.
use Rattle.nmgc_collector_laws.proofs.Vocabulary.{◌≡◌, ℕ, ◌≤◌, List, [], ◌∷◌, length, get_or, map, refl, sym, ap, ◌∙◌, arith, inl, inr, cases_lt, get_or_past, get_or_from_slice_get, some, get_elem?, Command, Reply, World, Row, rows_of, step_grows, State, after_command, after_scan, Happening, did, scanned, IsLegal, done_by, rows_in, Opening, Part, Seen, AllReply, IsFinished, Mutator, Done, HaveWorked, RoundIsHistory, EventsAreHistory, world_scanned, worker_at, ne_eqb}

-- the law of `nmgc_round` on one mutator's rows of the commands among events, and on its replies
abbrev pub HistoriesHaveRows : Type 0
HistoriesHaveRows = (m : ℕ) (events : List Happening) → map (λ (row : Row). (row.command, row.reply)) (rows_of m (rows_in events)) ≡ done_by m events

abbrev pub RepliesAreNamed : Type 0
RepliesAreNamed = (o : Opening) (words : List ℕ) (v : Seen) (h : IsFinished o words v) (k : ℕ) (p : Part) → get_elem? v.parts k ≡ some p →
    (replies : List (Command × Reply)) → AllReply p.fixed p.rows replies → done_by p.number h.events ≡ replies

-- no event is of a mutator that doesn't exist
none_done : (s : State) (hs : List Happening) (m : ℕ) → IsLegal s hs → length s.world.mutators ≤ m → done_by m hs ≡ []
none_done s [] m legal le = refl
none_done s (did k c r ∷ hs) m legal le =
    let there = legal.0.0.1.mutator in
    let count = (step_grows s.world k c there).mutators in
    rw (ne_eqb k m (λ e. omega arith)) (none_done (after_command s k c) hs m legal.1 (omega arith))
none_done s (scanned entry v ∷ hs) m legal le =
    let count = ap (λ (w : World). length w.mutators) (world_scanned s s.queue) in
    none_done (after_scan s s.queue) hs m legal.1 (omega arith)

module _ (history : EventsAreHistory) (rows : HistoriesHaveRows) (named : RepliesAreNamed) where
  -- a mutator's work is its part of the events
  own_done : (o : Opening) (words : List ℕ) (v : Seen) (mutators : List Mutator) (done : List (List Done)) (h : IsFinished o words v) →
      HaveWorked o v.parts mutators done → (m : ℕ) → done_by m h.events ≡ get_or done m []
  own_done o words v mutators done h all m = elim (cases_lt m o.layout.mutators) [
    | inl lt ↦
        let w = worker_at o v.parts mutators done all m lt in
        cc (w.number, named o words v h m w.part w.part_there w.own w.worked.replied, get_or_from_slice_get done m w.own [] w.own_there)
    | inr le ↦
        let lists = all.done_are in let many = h.is.mutators in
        none_done o.core h.events m h.legal (omega arith) ∙ sym (get_or_past done m [] (omega arith))
  ]

  pub round_is_history : RoundIsHistory
  round_is_history o words v mutators done h all =
      let is = history o.core h.events h.legal in
      (is.0, (λ m. rows m h.events ∙ own_done o words v mutators done h all m), is.1)
