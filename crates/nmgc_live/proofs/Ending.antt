-- Stops and rounds of a session: how its transcript goes on, and how it ends.
use Rattle.std.proofs.Common.{ℕ, ◌≡◌, ◌++◌, List, [], length, refl, sym, ap, subst, ◌∙◌, append_assoc, append-nil, inl, inr, Option, None, Some}
use Rattle.std.specs.Prelude.{Bool, true, false}
use Rattle.std.proofs.lemmas.List.{length-map}
use Rattle.std.specs.Io.KnownBytes.{Appends}
use Rattle.nmgc_io.specs.Text.{AppendsFront}
use Rattle.nmgc_world_spec.specs.declared.command.Command.{Command}
use Rattle.nmgc_script.specs.declared.script.Script.{Script}
use Rattle.nmgc_journal.specs.{Printing.round_text, Printing.stop_text, Text.end_text, declared.report.End.End}
use Rattle.nmgc_run_spec.specs.AfterRound.{program_of}
use Rattle.nmgc_cycle.specs.{declared.command_queue.CommandQueue.CommandQueue, declared.session.Session.Session, Sessions.HasSameLines, Sessions.IsSession, Sessions.accepted_in, laws.EventTexts.report_is_events}
use Rattle.nmgc_cycle.specs.declared.observer.Event.TheVariants as event
use Rattle.nmgc_live.specs.{Live.HasGivenUp, Live.IsEnded, Live.IsSound, Played.Carries, Played.IsPlayed, Steps.AnswersEnd, Steps.DidRound, Steps.DidStop, Steps.IsAnswered, Steps.IsRounding, Steps.IsStopping, Steps.tail_of, Transcripts.Transcript, Transcripts.Did, Transcripts.HasNoStopDue, Transcripts.Ready, Transcripts.events_of, Transcripts.round_of, Transcripts.text_of, declared.lines.LineReader.LineReader, declared.options.Options.Options, declared.writer.ReportText.ReportText, Lines.IsReader, Steps.HasAnsweredStop, Steps.HasComeToRound, Steps.HasComeToStop, Steps.IsHeapOf, Steps.IsLiveSession, declared.session.LiveSession.LiveSession}
use Rattle.nmgc_live.specs.declared.refusal.Refusal.TheVariants as no
use Rattle.nmgc_live.proofs.{Lining.appends_on, Lining.front_on, Lining.read_to, Played.shown, Runs.carries_same, Runs.has_run, Stepping.same_heap, Stepping.stopped_heap}

module _ (o : Options) (before now taken w : Option (List ℕ)) (head : Script) (r : LineReader) (s v : Session) (is_open_now : Bool) (p q : ReportText)
    (h : IsStopping o before now taken w head r s is_open_now p) where
  -- a session that is given up before its stop
  pub stop_given_up : HasGivenUp o before now taken w no.NoMemory
  stop_given_up = (head, (h.before, h.before_sound, (h.written, h.before_whole)))

  module _ (end : Option End) (d : DidStop is_open_now s v p q end) (is : IsSession false v) (rest : v ≡ record s { collector = v.collector }) where
    abbrev stopped : Transcript
    stopped = Did h.t (event.Stop d.row d.cycles)

    played : IsPlayed o head stopped
    played = (h.played, h.due)

    -- the text of the stop and the text behind it join the text that was written
    whole : text_of stopped ++ tail_of is_open_now end ≡ text_of h.before ++ q.text.items
    whole = ap (λ (l : List ℕ). (l ++ stop_text d.row d.cycles) ++ tail_of is_open_now end) h.pending
        ∙ ap (λ (l : List ℕ). l ++ tail_of is_open_now end) (append_assoc (text_of h.before) p.text.items (stop_text d.row d.cycles))
        ∙ append_assoc (text_of h.before) (p.text.items ++ stop_text d.row d.cycles) (tail_of is_open_now end)
        ∙ ap (λ (l : List ℕ). text_of h.before ++ l) (sym d.text)

    carries : Carries false head stopped v
    carries = record {
      is = is;
      config = ap (λ (y : Session). y.config) rest ∙ h.carries.config;
      count = ap (λ (y : Session). length y.queues.items) rest ∙ h.carries.count;
      is_open = ap (λ (y : Session). y.is_open) rest ∙ h.carries.is_open;
      accepted = λ k lt. ap (λ (y : Session). program_of (accepted_in y) k) rest ∙ h.carries.accepted k lt;
      events = d.events (events_of h.t) h.carries.events;
    }

    -- the text was written
    pub written : (x : Option (List ℕ)) → Appends w x q.text.items → Appends taken x (text_of stopped ++ tail_of is_open_now end)
    written x said = subst (Appends taken x) (sym whole) (appends_on taken w x (text_of h.before) q.text.items h.written said)

    ready : is_open_now ≡ true → IsPlayed o head (Ready stopped)
    ready open_is = (played, refl, h.is_open_is ∙ open_is)

    -- the transcript was read, and belongs to a run
    sound_stopped : IsSound o before now head stopped
    sound_stopped = (played, read_to before now r h.t h.read, inr (has_run false head stopped v carries))

    carries_ready : Carries false head (Ready stopped) v
    carries_ready = carries_same false head stopped (Ready stopped) v refl (λ k. refl) refl carries

    -- the sink failed at it
    pub cut_text : (x : Option (List ℕ)) → AppendsFront w x q.text.items → HasGivenUp o before now taken x no.WriteFault
    cut_text x said = by_end end is_open_now refl refl
      where
        front : AppendsFront taken x (text_of stopped ++ tail_of is_open_now end)
        front = subst (AppendsFront taken x) (sym whole) (front_on taken w x (text_of h.before) q.text.items h.written said)

        as_tail : (e : Option End) (b : Bool) → end ≡ e → is_open_now ≡ b → AppendsFront taken x (text_of stopped ++ tail_of b e)
        as_tail e b f g = subst (λ (y : Option End). AppendsFront taken x (text_of stopped ++ tail_of b y)) f
            (subst (λ (y : Bool). AppendsFront taken x (text_of stopped ++ tail_of y end)) g front)

        by_end : (e : Option End) (b : Bool) → end ≡ e → is_open_now ≡ b → HasGivenUp o before now taken x no.WriteFault
        by_end (Some e) b f g = (head, (stopped, sound_stopped, (end_text e, inr (inl (e, refl)), as_tail (Some e) b f g)))
        by_end None true f g = (
          head,
          (
            Ready stopped,
            (ready g, read_to before now r h.t h.read, inr (has_run false head (Ready stopped) v carries_ready)),
            (
              [],
              inl refl,
              subst (AppendsFront taken x) (sym (append-nil (text_of (Ready stopped)))) (as_tail None true f g),
            ),
          ),
        )
        by_end None false f g = (head, (stopped, sound_stopped, ([], inl refl, as_tail None false f g)))

    -- the run goes on
    pub answered : (x : Option (List ℕ)) → end ≡ None → Appends w x q.text.items → (t : Transcript) ×
        IsAnswered o before now taken x head t r v is_open_now × (round_of t ≡ q.round)
    answered x none said = by_open is_open_now refl
      where
        text : (b : Bool) → is_open_now ≡ b → Appends taken x (text_of stopped ++ tail_of b None)
        text b g = subst (λ (y : Option End). Appends taken x (text_of stopped ++ tail_of b y)) none
            (subst (λ (y : Bool). Appends taken x (text_of stopped ++ tail_of y end)) g (written x said))

        by_open : (b : Bool) → is_open_now ≡ b → (t : Transcript) × IsAnswered o before now taken x head t r v b × (round_of t ≡ q.round)
        by_open true g = (
          Ready stopped,
          record {
            played = ready g;
            goes_on = refl;
            is_open_is = h.is_open_is ∙ g;
            carries = carries_ready;
            read = record { read = h.read.read; number = h.read.number; closed = h.read.closed; cuts = h.read.cuts };
            written = text true g;
          },
          sym d.round,
        )
        by_open false g = (
          stopped,
          record {
            played = played;
            goes_on = (refl, h.is_open_is ∙ g);
            is_open_is = h.is_open_is ∙ g;
            carries = carries;
            read = record { read = h.read.read; number = h.read.number; closed = h.read.closed; cuts = h.read.cuts };
            written = subst (Appends taken x) (append-nil (text_of stopped)) (text false g);
          },
          sym d.round,
        )

    -- the run ended
    pub ended : (x : Option (List ℕ)) (e : End) → end ≡ Some e → Appends w x q.text.items → IsEnded taken x head stopped e
    ended x e same said = record {
      phase = refl;
      run = has_run false head stopped v carries;
      ended = answers.0;
      lawful = answers.1;
      written = subst (λ (y : Option End). Appends taken x (text_of stopped ++ tail_of is_open_now y)) same (written x said);
      report = ap (λ (l : List ℕ). l ++ end_text e) (shown o head stopped played refl)
          ∙ report_is_events v.collector e (events_of stopped) carries.events;
      closed = λ done. h.is_open_is ∙ d.closed (same ∙ ap (λ (y : End). Some y) done);
    }
      where
        answers : AnswersEnd v (Some e)
        answers = subst (λ (y : Option End). AnswersEnd v y) same d.answers

    pub sound_end : IsSound o before now head stopped
    sound_end = sound_stopped

-- a session whose stop was written
pub at_lines : (w x : Option (List ℕ)) (old : LiveSession) (v : Session) (q z : ReportText) (end : Option End) → IsLiveSession true old →
    DidStop old.is_open old.session v old.report q end → IsSession false v → v ≡ record old.session { collector = v.collector } →
    Appends w x q.text.items → z.text.items ≡ [] → z.round ≡ q.round → HasAnsweredStop w x old (record old { session = v; report = z }) end
at_lines w x old v q z end parts d is rest said none round = record {
  goes_on = λ e o lb ln tb h. (
      let k = answered o lb ln tb w h.1.0 old.lines old.session v old.is_open old.report q h.1.1 end d is rest x e said in (
        record { parts = kept; goes_on = subst (AnswersEnd v) e d.answers; written = none },
        (h.1.0, (k.0, k.1, k.2 ∙ sym round)),
      ));
  ends = λ e same o lb ln tb h. (
    h.1.0,
    (
      Did h.1.1.t (event.Stop d.row d.cycles),
      sound_end o lb ln tb w h.1.0 old.lines old.session v old.is_open old.report q h.1.1 end d is rest,
      (e, refl, ended o lb ln tb w h.1.0 old.lines old.session v old.is_open old.report q h.1.1 end d is rest x e same said),
    ),
  );
}
  where
    kept : IsLiveSession false (record old { session = v; report = z })
    kept = record {
      reader = parts.reader;
      session = is;
      is_open_is = ap (λ (y : Session). y.is_open) rest ∙ parts.is_open_is;
      heap = stopped_heap old.heap old.session v rest parts.heap;
    }

-- a round, behind which a stop comes
module _ (o : Options) (before now taken w : Option (List ℕ)) (head : Script) (t : Transcript) (r : LineReader) (s v : Session) (is_open_now : Bool)
    (p q : ReportText) (h : IsRounding o before now taken w head t r s is_open_now) where
  sound_now : IsSound o before now head t
  sound_now = (h.played, read_to before now r t h.read, inr (has_run false head t s h.carries))

  -- each stop was written
  whole_now : HasNoStopDue t
  whole_now due = elim h.due [
    | inl e ↦ (let f = sym e ∙ due in cc)
    | inr e ↦ (let f = sym e.0 ∙ due in cc)
  ]

  pub round_given_up : HasGivenUp o before now taken w no.NoMemory
  round_given_up = (head, (t, sound_now, (h.written, whole_now)))

  pub rounded : (d : DidRound s v p q) → IsSession true v → HasSameLines s v → round_of t ≡ p.round → p.text.items ≡ [] →
      IsStopping o before now taken w head r v is_open_now q
  rounded d is same round none = record {
    t = Did t (event.Round d.rows);
    played = (h.played, h.due);
    due = refl;
    is_open_is = h.is_open_is;
    round = round ∙ sym d.round;
    carries = record {
      is = is;
      config = same.config ∙ h.carries.config;
      count = sym (length-map v.queues.items (λ (y : CommandQueue). y.accepted)) ∙ ap (λ (l : List (List Command)). length l) same.accepted
          ∙ length-map s.queues.items (λ (y : CommandQueue). y.accepted) ∙ h.carries.count;
      is_open = same.is_open ∙ h.carries.is_open;
      accepted = λ k lt. ap (λ (l : List (List Command)). program_of l k) same.accepted ∙ h.carries.accepted k lt;
      events = d.events (events_of t) h.carries.events;
    };
    read = record { read = h.read.read; number = h.read.number; closed = h.read.closed; cuts = h.read.cuts };
    before = t;
    before_sound = sound_now;
    before_whole = whole_now;
    written = h.written;
    pending = ap (λ (n : ℕ). text_of t ++ round_text n d.rows) round
        ∙ ap (λ (l : List ℕ). text_of t ++ l) (sym (d.text ∙ ap (λ (l : List ℕ). l ++ round_text p.round d.rows) none));
  }

-- a session that came to its next stop
pub at_stop : (o : Options) (a b w v : Option (List ℕ)) (old : LiveSession) (r : LineReader) (s u : Session) (is_open_now : Bool) (q : ReportText) →
    HasComeToRound o a b w v old.lines r old.session s old.is_open is_open_now → DidRound s u old.report q → IsSession true u → HasSameLines s u → IsReader r →
    s.is_open ≡ is_open_now → IsHeapOf old.heap s →
    HasComeToStop o a b w v old (record old { lines = r; session = u; is_open = is_open_now; report = q })
at_stop o a b w v old r s u is_open_now q come did is same reader open_is heap lb tb h =
    let k = come h.1.0 h.1.1.0 lb tb h.1.1.1 in (
      record { reader = reader; session = is; is_open_is = same.is_open ∙ open_is; heap = same_heap old.heap s u same heap },
      (h.1.0, rounded o lb b tb v h.1.0 k.0 r s u is_open_now old.report q k.1 did is same (k.2 ∙ h.1.1.2) h.0.written),
    )
