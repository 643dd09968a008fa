-- The rounds that may still follow: the steps that leave few, and the 32 bits of a run's numbers.
use Rattle.nmgc_cycle.proofs.{Vocabulary.ℕ, Vocabulary.◌≡◌, Vocabulary.◌+◌, Vocabulary.◌<◌, Vocabulary.◌≤◌, Vocabulary.◌^◌, Vocabulary.List, Vocabulary.[], Vocabulary.length, Vocabulary.ap, Vocabulary.◌∙◌, Vocabulary.arith, Vocabulary.inl, Vocabulary.inr, Vocabulary.RoundRows, Vocabulary.StopRow, Vocabulary.Script, Vocabulary.segments_few, Vocabulary.threads_few, Vocabulary.total_few, Vocabulary.Collector, Vocabulary.commands_left, Vocabulary.most_stops, Vocabulary.phase_left, Vocabulary.MayFollow, Vocabulary.AreFew, Vocabulary.NoneIsDue, Vocabulary.commands, Vocabulary.one_cycle, Vocabulary.no_cycle, Vocabulary.CanStop, Vocabulary.IsFresh, Vocabulary.FitsRun, lengths.Measures.commands_most, lists.Phases.when_idle}

-- the stops counted are no more than a run has
pub within : (N : Type 0) (script : Script) (c : Collector) (stops : ℕ) → MayFollow N script c stops → stops ≤ most_stops script
within N script c stops (commands h) = omega (arith, h)
within N script c stops (one_cycle none h) = omega (arith, h)
within N script c stops (no_cycle none nothing due h) = omega (arith, h)

-- and their numbers have 32 bits
pub stops_fit : (script : Script) → FitsRun script → most_stops script < 2 ^ 32
stops_fit script limits =
    let most = commands_most script limits [] in
    let threads = threads_few script limits.fits in
    let total = total_few script limits.fits in
    let segments = segments_few script limits.fits in
    omega arith

-- a step that changes no commands and adds nothing to the cycle in progress
pub leaves_few : (N M : Type 0) (script : Script) (c d : Collector) (stops : ℕ) → d.rows.rounds ≡ c.rows.rounds →
    phase_left script.config.segments d.cycle.progress ≤ phase_left script.config.segments c.cycle.progress →
    (N → NoneIsDue script.config.trigger c → M × NoneIsDue script.config.trigger d) → AreFew N script c stops → AreFew M script d stops
leaves_few N M script c d stops rounds fewer due few = record {
  follow = by few.follow;
  phase = (let most = few.phase in omega (arith, fewer, most));
}
  where
    same : commands_left script.threads d.rows.rounds ≡ commands_left script.threads c.rows.rounds
    same = ap (λ (r : List RoundRows). commands_left script.threads r) rounds

    by : MayFollow N script c stops → MayFollow M script d stops
    by (commands h) = commands (omega (arith, h, same))
    by (one_cycle none h) = one_cycle (same ∙ none) (omega (arith, h, fewer))
    by (no_cycle none nothing not h) = let both = due nothing not in no_cycle (same ∙ none) both.0 both.1 (omega (arith, h, fewer))

-- no counted part changed
pub same_few : (N : Type 0) (script : Script) (c d : Collector) (stops : ℕ) → d.rows.rounds ≡ c.rows.rounds → d.cycle.progress ≡ c.cycle.progress →
    d.cycle.collect ≡ c.cycle.collect → d.heap.segments.fresh ≡ c.heap.segments.fresh → AreFew N script c stops → AreFew N script d stops
same_few N script c d stops rounds progress collect fresh few =
    let same = ap (phase_left script.config.segments) progress in
    leaves_few N N script c d stops rounds (omega (arith, same)) (λ nothing not. (
      nothing,
      record { not_asked = collect ∙ not.not_asked; not_filled = λ some. let less = not.not_filled some in omega (arith, fresh, less) },
    )) few

-- before the first stop
pub fresh_few : (N : Type 0) (script : Script) (c : Collector) → IsFresh script c → AreFew N script c (length c.rows.stops + 1)
fresh_few N script c fresh =
    let no_stops : length c.rows.stops ≡ 0 = ap (λ (stops : List StopRow). length stops) fresh.new.nothing.1 in
    let left : commands_left script.threads c.rows.rounds ≡ commands_left script.threads [] =
    ap (λ (r : List RoundRows). commands_left script.threads r) fresh.new.nothing.0 in
    let idle : phase_left script.config.segments c.cycle.progress ≡ 0 =
    ap (phase_left script.config.segments) (when_idle c.cycle.progress fresh.new.matches.phase) in
    record { follow = commands (omega (arith, no_stops, left)); phase = omega (arith, idle) }

pub fresh_begun : (script : Script) (c : Collector) → IsFresh script c → c.cycle.begun ≤ length c.rows.stops
fresh_begun script c fresh = let none = fresh.new.matches.begun in omega (arith, none)

-- before any stop few follow, and its number and the number of a cycle that it begins fit 32 bits
pub record Fit (script : Script) (c : Collector) : Type 0 where
  pub within : length c.rows.stops + 1 ≤ most_stops script
  pub number : length c.rows.stops + 1 < 2 ^ 32
  pub begun : c.cycle.begun + 1 < 2 ^ 32

fits : (N : Type 0) (script : Script) (c : Collector) → FitsRun script → AreFew N script c (length c.rows.stops + 1) →
    c.cycle.begun ≤ length c.rows.stops → Fit script c
fits N script c limits few begun =
    let most = within N script c (length c.rows.stops + 1) few.follow in
    let small = stops_fit script limits in
    record { within = most; number = omega (arith, most, small); begun = omega (arith, most, small, begun) }

pub stop_fits : (script : Script) (c : Collector) → FitsRun script → CanStop script c → Fit script c
stop_fits script c limits (inl fresh) = fits (Unit {0}) script c limits (fresh_few (Unit {0}) script c fresh) (fresh_begun script c fresh)
stop_fits script c limits (inr worked) = fits _ script c limits worked.few.few worked.few.begun
