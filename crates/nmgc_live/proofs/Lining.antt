-- The lines of a session: how a transcript goes on with each, and the bytes that were read.
use Rattle.std.proofs.Common.{ℕ, ◌≡◌, ◌+◌, ◌<◌, ◌⊎◌, ◌++◌, List, [], ◌∷◌, length, take, refl, sym, ap, subst, ◌∙◌, arith, append_assoc, append-nil, inl, inr, Option, None, Some}
use Rattle.std.specs.Prelude.{true, false, codes, ◌==◌, if◌then◌else◌}
use Rattle.std.proofs.lemmas.List.{drop_at, length-append, length-map, take_at}
use Rattle.std.proofs.Math.Seq.{take-add}
use Rattle.std.specs.Io.KnownBytes.{Appends, Consumes, IsAtEnd}
use Rattle.nmgc_world_spec.specs.declared.command.Command.{Command}
use Rattle.nmgc_io.specs.Text.{AppendsFront, is_blank_or_comment}
use Rattle.nmgc_script.specs.declared.script.Script.{Script}
use Rattle.nmgc_run_spec.specs.AfterRound.{program_of}
use Rattle.nmgc_cycle.specs.{declared.command_queue.CommandQueue.CommandQueue, declared.collector.Collector.Collector, declared.session.Session.Session, Observed.AreEventsOf, Sessions.HasPushedTo, Sessions.IsSession, Sessions.accepted_in}
use Rattle.nmgc_live.specs.{Lines.ReadsCut, Lines.ReadsLine, Lines.ReadsShort, Lines.ReadsNoLine, Lines.fed, Lines.next_number, Lines.unread, Live.HasRead, Live.IsRefused, Live.IsSound, Meanings.IsFullIn, Meanings.IsGiven, Played.IsBadLine, Played.IsFullFor, Refusals.bad_line, Steps.IsReadTo, Steps.IsReading, Steps.IsRounding, Transcripts.Transcript, Transcripts.Bad, Transcripts.Close, Transcripts.CutOff, Transcripts.Given, Transcripts.Quiet, Transcripts.Round, Transcripts.bytes_of, Transcripts.events_of, Transcripts.given_to, Transcripts.is_open, Transcripts.number_of, Transcripts.text_of, declared.lines.LineReader.LineReader, declared.options.Options.Options, declared.refusal.Fault.Fault}
use Rattle.nmgc_live.specs.declared.refusal.Fault.TheVariants as fault
use Rattle.nmgc_live.specs.declared.refusal.Refusal.TheVariants as no
use Rattle.nmgc_live.proofs.{LineParts.consumes_on, Played.not_ended, Played.takes_open, Runs.carries_same, Runs.has_run, Runs.pushed_to}

pub appends_on : (a b c : Option (List ℕ)) (xs ys : List ℕ) → Appends a b xs → Appends b c ys → Appends a c (xs ++ ys)
appends_on None b c xs ys p q = tt
appends_on (Some u) None c xs ys p q = elim p [ ]
appends_on (Some u) (Some v) None xs ys p q = elim q [ ]
appends_on (Some u) (Some v) (Some w) xs ys p q = q ∙ ap (λ l. l ++ ys) p ∙ append_assoc u xs ys

-- a front of some bytes, behind others
pub front_on : (a b c : Option (List ℕ)) (xs ys : List ℕ) → Appends a b xs → AppendsFront b c ys → AppendsFront a c (xs ++ ys)
front_on a b c xs ys p q =
    let long : length (xs ++ ys) ≡ length xs + length ys = length-append xs ys in (
      length xs + q.0,
      omega (arith, q.1, long),
      subst (Appends a c) (sym (take-add (length xs) q.0 (xs ++ ys)
          ∙ (λ k. take_at xs ys (length xs) refl k ++ take q.0 (drop_at xs ys (length xs) refl k))))
          (appends_on a b c xs (take q.0 ys) p q.2),
    )

-- the bytes of a line more
module _ (before a b : Option (List ℕ)) (r s : LineReader) (bytes : List ℕ) (h : Consumes before a (bytes ++ unread r)) where
  pub read_line : (line : List ℕ) → ReadsLine r s a b line → Consumes before b ((bytes ++ fed line) ++ unread s)
  read_line line q =
      let e : (bytes ++ unread r) ++ q.0 ≡ (bytes ++ fed line) ++ unread s =
      append_assoc bytes (unread r) q.0 ∙ ap (λ (l : List ℕ). bytes ++ l) (q.2 ∙ sym (append_assoc line (10 ∷ []) (unread s)))
      ∙ sym (append_assoc bytes (fed line) (unread s)) in
      subst (Consumes before b) e (consumes_on before a b (bytes ++ unread r) q.0 h q.1)

  -- some bytes more
  pub read_more : (xs : List ℕ) → Consumes a b xs → Consumes before b (bytes ++ (unread r ++ xs))
  read_more xs q = subst (Consumes before b) (append_assoc bytes (unread r) xs) (consumes_on before a b (bytes ++ unread r) xs h q)

  -- the same with the line apart
  pub read_next : (line : List ℕ) → ReadsLine r s a b line → Consumes before b (bytes ++ (fed line ++ unread s))
  read_next line q = subst (Consumes before b) (append_assoc bytes (fed line) (unread s)) (read_line line q)

  -- the end of the source, behind a line
  pub read_end : Consumes a b [] → unread r ≡ [] → unread s ≡ [] → Consumes before b ((bytes ++ []) ++ unread s)
  read_end q e f =
      let same : (bytes ++ unread r) ++ [] ≡ (bytes ++ []) ++ unread s =
      append-nil (bytes ++ unread r) ∙ ap (λ (l : List ℕ). bytes ++ l) (e ∙ sym f) ∙ ap (λ (l : List ℕ). l ++ unread s) (sym (append-nil bytes)) in
      subst (Consumes before b) same (consumes_on before a b (bytes ++ unread r) [] h q)

-- a part behind which nothing was read yet
pub with_none : (before b : Option (List ℕ)) (s : LineReader) (bytes part : List ℕ) → Consumes before b (bytes ++ part) → unread s ≡ [] →
    Consumes before b ((bytes ++ part) ++ unread s)
with_none before b s bytes part h e =
    subst (Consumes before b) (sym (append-nil (bytes ++ part)) ∙ ap (λ (l : List ℕ). (bytes ++ part) ++ l) (sym e)) h

-- a reader's transcript was read
pub read_to : (before now : Option (List ℕ)) (r : LineReader) (t : Transcript) → IsReadTo before now r t → HasRead before now t
read_to before now r t h = (unread r, h.read, h.closed, h.cuts)

module _ (o : Options) (before a b taken w : Option (List ℕ)) (head : Script) (t : Transcript) (r : LineReader) (s : Session)
    (h : IsReading o before a taken w head t r s) where
  open_is : is_open t ≡ true
  open_is = takes_open o head t h.played (inr h.reading)

  -- a session that reads lines has a sound transcript, whatever was read since
  pub sound : (xs : List ℕ) → Consumes a b xs → IsSound o before b head t
  sound xs q = (
    h.played,
    (unread r ++ xs, read_more before a b r r (bytes_of t) h.read.read xs q, not_ended t b open_is, h.read.cuts),
    inr (has_run false head t s h.carries),
  )

  -- the source failed, and each whole line was read
  pub read_fault : ReadsNoLine r a b → IsRefused o before b taken w head t no.ReadFault
  read_fault q = (h.written, inr h.reading, (unread r ++ q.0, read_more before a b r r (bytes_of t) h.read.read q.0 q.1, q.2))

  -- a mutator of the session that may get no more commands
  pub full_for : (m : ℕ) → IsFullIn s m → IsFullFor head t m
  full_for m full = (s, h.carries, full)

  module _ (x : LineReader) (n : x.number ≡ next_number r.number) where
    number : x.number ≡ next_number (number_of t)
    number = n ∙ ap next_number h.read.number

    -- a line that is no command
    pub goes_quiet : (line : List ℕ) → ReadsShort r x a b line → (is_blank_or_comment line ≡ true) ⊎ ((line ≡ codes "help") × (o.has_prompts ≡ true)) →
        IsReading o before b taken w head (Quiet t line) x s
    goes_quiet line q m = record {
      played = (h.played, h.reading, (q.0.3, q.1), m);
      reading = refl;
      carries = carries_same false head t (Quiet t line) s refl (λ k. refl) refl h.carries;
      read = record {
        read = read_line before a b r x (bytes_of t) h.read.read line q.0;
        number = number;
        closed = not_ended t b open_is;
        cuts = h.read.cuts;
      };
      written = h.written;
    }

    -- a command for a mutator
    pub goes_on : (line : List ℕ) (m : ℕ) (c : Command) (v : Session) → ReadsShort r x a b line →
        IsGiven head.config.words (length head.threads) line m c → HasPushedTo m c s v → IsSession false v →
        IsReading o before b taken w head (Given t line m c) x v
    goes_on line m c v q g p is = record {
      played = (h.played, h.reading, (q.0.3, q.1), g);
      reading = refl;
      carries = record {
        is = is;
        config = ap (λ (y : Session). y.config) p.rest ∙ h.carries.config;
        count = p.queues.count ∙ h.carries.count;
        is_open = ap (λ (y : Session). y.is_open) p.rest ∙ h.carries.is_open;
        accepted = λ k lt. pushed_to m c s v p k (omega (arith, lt, h.carries.count)) ∙ given_same k lt;
        events = subst (λ (y : Collector). AreEventsOf y false (events_of t)) (ap (λ (y : Session). y.collector) (sym p.rest)) h.carries.events;
      };
      read = record {
        read = read_line before a b r x (bytes_of t) h.read.read line q.0;
        number = number;
        closed = not_ended t b open_is;
        cuts = h.read.cuts;
      };
      written = h.written;
    }
      where
        given_same : (k : ℕ) → k < length head.threads → (if m == k then program_of (accepted_in s) k ++ c ∷ [] else program_of (accepted_in s) k) ≡
            given_to k (Given t line m c)
        given_same k lt = ap (λ (l : List Command). if m == k then l ++ c ∷ [] else l) (h.carries.accepted k lt)

    -- a bad line that was answered
    pub goes_past : (line : List ℕ) (f : Fault) (v : Option (List ℕ)) → ReadsLine r x a b line → IsBadLine o head t line f →
        o.passes_over ≡ true → Appends w v (bad_line x.number f) → IsReading o before b taken v head (Bad t line f) x s
    goes_past line f v q m passes said = record {
      played = (h.played, passes, q.3, m);
      reading = h.reading;
      carries = carries_same false head t (Bad t line f) s refl (λ k. refl) refl h.carries;
      read = record {
        read = read_line before a b r x (bytes_of t) h.read.read line q;
        number = number;
        closed = not_ended t b open_is;
        cuts = h.read.cuts;
      };
      written = appends_on taken w v (text_of t) (bad_line (next_number (number_of t)) f) h.written (subst (λ (k : ℕ). Appends w v (bad_line k f)) number said);
    }

    -- bytes without a line feed at the end of the input
    pub goes_cut : (v : Option (List ℕ)) (q : ReadsCut r x a b) → o.passes_over ≡ true → Appends w v (bad_line x.number fault.Line) →
        IsReading o before b taken v head (CutOff t (unread r ++ q.0.0)) x s
    goes_cut v q passes said = record {
      played = (h.played, passes, inr h.reading, q.0.2, q.1);
      reading = h.reading;
      carries = carries_same false head t (CutOff t (unread r ++ q.0.0)) s refl (λ k. refl) refl h.carries;
      read = record {
        read = with_none before b x (bytes_of t) (unread r ++ q.0.0) (read_more before a b r x (bytes_of t) h.read.read q.0.0 q.0.1) q.2;
        number = number;
        closed = not_ended t b open_is;
        cuts = (h.read.cuts, (b, read_more before a b r x (bytes_of t) h.read.read q.0.0 q.0.1, q.3));
      };
      written = appends_on taken w v (text_of t) (bad_line (next_number (number_of t)) fault.Line) h.written
          (subst (λ (k : ℕ). Appends w v (bad_line k fault.Line)) number said);
    }

    -- the line `round`
    pub goes_round : ReadsLine r x a b (codes "round") → IsRounding o before b taken w head (Round t) x s true
    goes_round q = record {
      played = (h.played, h.reading);
      due = inl refl;
      is_open_is = open_is;
      carries = carries_same false head t (Round t) s refl (λ k. refl) refl h.carries;
      read = record {
        read = read_line before a b r x (bytes_of t) h.read.read (codes "round") q;
        number = number;
        closed = not_ended t b open_is;
        cuts = h.read.cuts;
      };
      written = h.written;
    }

    -- the line `end`, or the end of the input
    pub goes_closed : (bytes : List ℕ) (v : Session) → Consumes before b ((bytes_of t ++ bytes) ++ unread x) → (bytes ≡ fed (codes "end")) ⊎ (bytes ≡ []) →
        (bytes ≡ [] → IsAtEnd b) → IsSession false v → v.is_open ≡ false → v ≡ record s { queues = v.queues; is_open = false } →
        accepted_in v ≡ accepted_in s → IsRounding o before b taken w head (Close t bytes) x v false
    goes_closed bytes v q m end is closed rest accepted = record {
      played = (h.played, h.reading, m);
      due = inl refl;
      is_open_is = refl;
      carries = record {
        is = is;
        config = ap (λ (y : Session). y.config) rest ∙ h.carries.config;
        count = same_count ∙ h.carries.count;
        is_open = closed;
        accepted = λ k lt. ap (λ (l : List (List Command)). program_of l k) accepted ∙ h.carries.accepted k lt;
        events = subst (λ (y : Collector). AreEventsOf y false (events_of t)) (ap (λ (y : Session). y.collector) (sym rest)) h.carries.events;
      };
      read = record { read = q; number = number; closed = λ e. end (some_same e); cuts = h.read.cuts };
      written = h.written;
    }
      where
        same_count : length v.queues.items ≡ length s.queues.items
        same_count = sym (length-map v.queues.items (λ (q : CommandQueue). q.accepted)) ∙ ap (λ (l : List (List Command)). length l) accepted
            ∙ length-map s.queues.items (λ (q : CommandQueue). q.accepted)

        some_same : Some bytes ≡ Some [] → bytes ≡ []
        some_same e = cc
