-- The steps of a session: a stop, a round, and the way from one to the other, from the clauses of their calls.
use Rattle.std.proofs.Common.{ℕ, ◌≡◌, ◌++◌, List, [], ◌∷◌, length, map, refl, sym, ap, ◌∙◌, inl, inr, Option, Some}
use Rattle.std.specs.Prelude.{Bool, true, false}
use Rattle.std.proofs.lemmas.List.{length-map}
use Rattle.nmgc_world_spec.specs.declared.command.Command.{Command}
use Rattle.nmgc_script.specs.declared.{script.Config.Config, script.Script.Script}
use Rattle.nmgc_journal.specs.{declared.report.End.End, declared.report.RoundRows.RoundRows, declared.report.StopRow.StopRow, declared.report.CycleRow.CycleRow}
use Rattle.nmgc_journal.specs.declared.report.End.TheVariants as end
use Rattle.nmgc_run_spec.specs.Lawful.{IsRunOf}
use Rattle.nmgc_cycle.specs.{declared.command_queue.CommandQueue.CommandQueue, declared.session.Session.Session, declared.stop.StopEnd.StopEnd, Keeps.HasAnswered, Keeps.HasEnded, Observed.HandsOn, Sessions.HasSameLines, Sessions.accepted_in, Sessions.script_in, Shown.report_of, Shown.report_row, Stopping.ended_by, laws.Events.round_events, laws.Events.stop_events}
use Rattle.nmgc_cycle.specs.declared.observer.Event.TheVariants as event
use Rattle.nmgc_cycle.specs.declared.stop.StopEnd.TheVariants as answer
use Rattle.nmgc_live.specs.{Meanings.IsNextJudged, Steps.AnswersEnd, Steps.DidRound, Steps.DidStop, Steps.HasComeToRound, Steps.IsAnswered, Steps.IsHeapOf, Steps.IsReading, Steps.IsRounding, Steps.WritesStop, Steps.tail_of, Transcripts.Transcript, Written.WritesEvent, declared.lines.LineReader.LineReader, declared.options.Options.Options, declared.session.LineLimits.LineLimits, declared.session.Judged.Judged, declared.writer.ReportText.ReportText}
use Rattle.nmgc_live.specs.declared.session.Judged.TheVariants as judged

-- the end of the run that a stop's answer means
pub answers_end : (s : Session) (a : StopEnd) → HasAnswered (script_in s) s.collector a →
    ((e : End) → HasEnded (script_in s) s.collector e → IsRunOf (script_in s) (report_of s.collector e)) → AnswersEnd s (ended_by a)
answers_end s answer.GoOn h lawful = h.1
answers_end s answer.Done h lawful = (h, lawful end.Done h)
answers_end s (answer.HeapFull free reserve) h lawful = (h, lawful (end.HeapFull free reserve) h)

-- the run is done only by the answer that says so
done_by : (a : StopEnd) → ended_by a ≡ Some end.Done → a ≡ answer.Done
done_by answer.GoOn e = absurd cc
done_by answer.Done e = refl
done_by (answer.HeapFull free reserve) e = absurd cc

-- a stop was done, and its lines joined the report's
pub stop_did : (is_open_now : Bool) (old new : Session) (p m q : ReportText) (row : StopRow) (none cycles : List CycleRow) (a : StopEnd) → none ≡ [] →
    row.number ≡ length old.collector.rows.stops → new.collector.rows.rounds ≡ old.collector.rows.rounds →
    new.collector.rows.stops ≡ old.collector.rows.stops ++ row ∷ [] →
    HandsOn (length old.collector.rows.stops) old.collector.rows.cycles new.collector.rows.cycles none cycles →
    HasAnswered (script_in new) new.collector a → (a ≡ answer.Done → is_open_now ≡ false) →
    ((e : End) → HasEnded (script_in new) new.collector e → IsRunOf (script_in new) (report_of new.collector e)) →
    WritesStop row (map report_row cycles) p m → q.text.items ≡ m.text.items ++ tail_of is_open_now (ended_by a) → q.round ≡ m.round →
    DidStop is_open_now old new p q (ended_by a)
stop_did is_open_now old new p m q row none cycles a empty number rounds stops hands answered done lawful said tail round = record {
  row = row;
  cycles = map report_row cycles;
  events = λ events h. stop_events events old.collector new.collector row none cycles h empty number rounds stops hands;
  text = tail ∙ ap (λ (l : List ℕ). l ++ tail_of is_open_now (ended_by a)) said.0;
  round = round ∙ said.1;
  answers = answers_end new a answered lawful;
  closed = λ e. done (done_by a e);
}

-- a round was done, and its replies joined the report's
pub round_did : (old new : Session) (p q : ReportText) (rows : RoundRows) → new.collector.rows.rounds ≡ old.collector.rows.rounds ++ rows ∷ [] →
    new.collector.rows.stops ≡ old.collector.rows.stops → new.collector.rows.cycles ≡ old.collector.rows.cycles → WritesEvent p (event.Round rows) q →
    DidRound old new p q
round_did old new p q rows rounds stops cycles said = record {
  rows = rows;
  events = λ events h. round_events events old.collector new.collector rows h rounds stops cycles;
  text = said.0;
  round = said.1;
}

module _ (o : Options) (lb a tb w : Option (List ℕ)) (head : Script) (t : Transcript) (r : LineReader) (s : Session) where
  -- an open session reads lines behind its stop
  pub reads_lines : (b : Bool) → b ≡ true → IsAnswered o lb a tb w head t r s b → IsReading o lb a tb w head t r s
  reads_lines true e h = record { played = h.played; reading = h.goes_on; carries = h.carries; read = h.read; written = h.written }
  reads_lines false e h = absurd cc

  -- a closed one does its round
  goes_round : (b : Bool) → b ≡ false → IsAnswered o lb a tb w head t r s b → IsRounding o lb a tb w head t r s false
  goes_round true e h = absurd cc
  goes_round false e h = record { played = h.played; due = inr h.goes_on; is_open_is = h.is_open_is; carries = h.carries; read = h.read; written = h.written }

-- a closed session reads no line
pub come_closed : (o : Options) (a w : Option (List ℕ)) (r : LineReader) (s : Session) (was_open : Bool) → was_open ≡ false →
    HasComeToRound o a a w w r r s s was_open false
come_closed o a w r s was_open e head t lb tb h = (t, goes_round o lb a tb w head t r s was_open e h, refl)

-- sessions with the same commands have the same number of mutators
same_count : (s v : Session) → accepted_in v ≡ accepted_in s → length v.queues.items ≡ length s.queues.items
same_count s v accepted = sym (length-map v.queues.items (λ (q : CommandQueue). q.accepted)) ∙ ap (λ (l : List (List Command)). length l) accepted
    ∙ length-map s.queues.items (λ (q : CommandQueue). q.accepted)

-- a stop and a round keep the numbers of the heap
pub stopped_heap : (heap : LineLimits) (s v : Session) → v ≡ record s { collector = v.collector } → IsHeapOf heap s → IsHeapOf heap v
stopped_heap heap s v rest h =
    (h.0 ∙ sym (ap (λ (y : Session). y.config.words) rest), h.1 ∙ sym (ap (λ (y : Session). length y.queues.items) rest))

pub same_heap : (heap : LineLimits) (s v : Session) → HasSameLines s v → IsHeapOf heap s → IsHeapOf heap v
same_heap heap s v same h = (h.0 ∙ sym (ap (λ (c : Config). c.words) same.config), h.1 ∙ sym (same_count s v same.accepted))

-- the parts of a session that a line of commands doesn't change
abbrev pub KeepsRun : Session → Session → Type 0
KeepsRun s y = (y.collector ≡ s.collector) × (y.is_open ≡ s.is_open) × (y.config ≡ s.config) × (length y.queues.items ≡ length s.queues.items)

same_run : (s y : Session) → y ≡ s → KeepsRun s y
same_run s y e =
    (ap (λ (z : Session). z.collector) e, ap (λ (z : Session). z.is_open) e, ap (λ (z : Session). z.config) e, ap (λ (z : Session). length z.queues.items) e)

-- a line that was read and judged changes queues alone
pub judged_keeps : (o : Options) (heap : LineLimits) (r x : LineReader) (a b : Option (List ℕ)) (s y : Session) (j : Judged) → IsNextJudged o heap r x a b s y j →
    KeepsRun s y
judged_keeps o heap r x a b s y judged.Quiet q = same_run s y q.0
judged_keeps o heap r x a b s y judged.Added q =
    let p = q.2.1.2 in (
      ap (λ (z : Session). z.collector) p.rest,
      ap (λ (z : Session). z.is_open) p.rest,
      ap (λ (z : Session). z.config) p.rest,
      p.queues.count,
    )
judged_keeps o heap r x a b s y judged.Round q = same_run s y q.0
judged_keeps o heap r x a b s y judged.End q = same_run s y q.0
judged_keeps o heap r x a b s y judged.Help q = same_run s y q.0
judged_keeps o heap r x a b s y (judged.Bad f) q = same_run s y q.0

pub kept_heap : (heap : LineLimits) (s y : Session) → KeepsRun s y → IsHeapOf heap s → IsHeapOf heap y
kept_heap heap s y k h = (h.0 ∙ ap (λ (c : Config). c.words) (sym k.2), h.1 ∙ sym k.3)

-- a session that was closed keeps its run
pub closed_keeps : (y z : Session) → z ≡ record y { queues = z.queues; is_open = false } → accepted_in z ≡ accepted_in y →
    (z.collector ≡ y.collector) × (z.config ≡ y.config) × (length z.queues.items ≡ length y.queues.items)
closed_keeps y z rest accepted = (
  ap (λ (x : Session). x.collector) rest,
  ap (λ (x : Session). x.config) rest,
  same_count y z accepted,
)
