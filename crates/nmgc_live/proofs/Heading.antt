-- The head of a session: how a transcript goes on with each line of it, and how a session begins.
use Rattle.std.proofs.Common.{ℕ, ◌≡◌, ◌++◌, List, [], refl, sym, ap, subst, ◌∙◌, arith, append-nil, inl, inr, Option}
use Rattle.std.specs.Prelude.{true, false, codes}
use Rattle.std.specs.Io.KnownBytes.{Appends, Consumes}
use Rattle.nmgc_script.specs.declared.{script.Script.Script}
use Rattle.nmgc_lists.specs.laws.Items.{item}
use Rattle.nmgc_cycle.specs.{declared.command_queue.CommandQueue.CommandQueue, declared.observer.Event.Event, declared.session.Session.Session, Observed.AreEventsOf, Sessions.BeginsSession, laws.Sessions.mapped_at}
use Rattle.nmgc_live.specs.{Heads.IsBadInHead, Heads.IsEndCause, Heads.IsGoodInHead, Heads.IsHead, Heads.IsNoHeadLine, Heads.with_line, Lines.ReadsCut, Lines.ReadsLine, Lines.ReadsShort, Lines.ReadsNoLine, Lines.fed, Lines.next_number, Lines.unread, Live.HasGivenUp, Live.IsAtBad, Live.IsRefused, Played.IsBadLine, Refusals.bad_line, Steps.HasReadHead, Steps.IsHeading, Steps.IsStopping, Transcripts.Transcript, Transcripts.Bad, Transcripts.Begin, Transcripts.CutOff, Transcripts.Head, Transcripts.Start, Transcripts.bytes_of, Transcripts.number_of, Transcripts.text_of, declared.lines.LineReader.LineReader, declared.options.Options.Options, declared.refusal.Fault.Fault, declared.refusal.Refusal.Refusal, declared.writer.ReportText.ReportText}
use Rattle.nmgc_live.specs.declared.refusal.Fault.TheVariants as fault
use Rattle.nmgc_live.specs.declared.refusal.Refusal.TheVariants as no
use Rattle.nmgc_live.proofs.{Answering.appends_none, LineParts.consumes_none, Lining.appends_on, Lining.read_line, Lining.read_more, Lining.read_next, Lining.with_none, Played.not_ended, Played.takes_whole}

-- a session before its first line
pub heading_starts : (o : Options) (left taken : Option (List ℕ)) (r : LineReader) → unread r ≡ [] → r.number ≡ 0 → IsHeading o left left taken taken [] r Start
heading_starts o left taken r none zero = record {
  played = λ head. tt;
  in_head = refl;
  text_is = refl;
  is_open_is = refl;
  none = λ k. refl;
  no_events = refl;
  first = refl;
  read = record {
    read = subst (Consumes left left) (sym none) (consumes_none left);
    number = zero;
    closed = not_ended Start left refl;
    cuts = tt;
  };
  written = appends_none taken;
}

module _ (o : Options) (before a b taken w : Option (List ℕ)) (text : List ℕ) (r x : LineReader) (t : Transcript) (h : IsHeading o before a taken w text r t) where
  -- a session that is given up in its head, with any head that it might have had
  pub given_up : (head : Script) (v : Option (List ℕ)) (refusal : Refusal) (xs : List ℕ) → Consumes a b xs → IsRefused o before b taken v head t refusal →
      HasGivenUp o before b taken v refusal
  given_up head v refusal xs c q = (
    head,
    (
      t,
      (h.played head, (unread r ++ xs, read_more before a b r r (bytes_of t) h.read.read xs c, not_ended t b h.is_open_is, h.read.cuts), inl h.in_head),
      q,
    ),
  )

  pub head_fault : (head : Script) → ReadsNoLine r a b → IsRefused o before b taken w head t no.ReadFault
  head_fault head q = (h.written, inl h.in_head, (unread r ++ q.0, read_more before a b r r (bytes_of t) h.read.read q.0 q.1, q.2))

  -- the input ended in the head
  pub head_ended : (head : Script) (m : ℕ) (f : Fault) → IsNoHeadLine r a b text (no.Bad m f) → IsRefused o before b taken w head t (no.Bad m f)
  head_ended head m f q = (
    h.written,
    q.0 ∙ ap next_number h.read.number,
    (
      inl h.in_head,
      inr (
        h.in_head,
        subst (Consumes before b) bytes_same (read_more before a b r r (bytes_of t) h.read.read [] q.2),
        q.4,
        (q.1.0, q.1.1, subst (λ (l : List ℕ). IsEndCause l q.1.0) (sym h.text_is) q.1.2),
      ),
    ),
  )
    where
      bytes_same : bytes_of t ++ (unread r ++ []) ≡ bytes_of t
      bytes_same = ap (λ (l : List ℕ). bytes_of t ++ (l ++ [])) q.3 ∙ append-nil (bytes_of t)

  module _ (n : x.number ≡ next_number r.number) where
    number : x.number ≡ next_number (number_of t)
    number = n ∙ ap next_number h.read.number

    pub heading_on : (line : List ℕ) → ReadsShort r x a b line → IsGoodInHead text line → IsHeading o before b taken w (with_line text line) x (Head t line)
    heading_on line q good = record {
      played = λ head. (h.played head, h.in_head, (q.0.3, q.1), subst (λ (l : List ℕ). IsGoodInHead l line) (sym h.text_is) good);
      in_head = refl;
      text_is = ap (λ (l : List ℕ). with_line l line) h.text_is;
      is_open_is = h.is_open_is;
      none = h.none;
      no_events = h.no_events;
      first = h.first;
      read = record {
        read = read_line before a b r x (bytes_of t) h.read.read line q.0;
        number = number;
        closed = not_ended t b h.is_open_is;
        cuts = h.read.cuts;
      };
      written = h.written;
    }

    bad_line_is : (head : Script) (line : List ℕ) (f : Fault) → IsBadInHead text line f → IsBadLine o head t line f
    bad_line_is head line f bad = inl (h.in_head, subst (λ (l : List ℕ). IsBadInHead l line f) (sym h.text_is) bad)

    pub heading_past : (line : List ℕ) (f : Fault) (v : Option (List ℕ)) → ReadsLine r x a b line → IsBadInHead text line f → o.passes_over ≡ true →
        Appends w v (bad_line x.number f) → IsHeading o before b taken v text x (Bad t line f)
    heading_past line f v q bad passes said = record {
      played = λ head. (h.played head, passes, q.3, bad_line_is head line f bad);
      in_head = h.in_head;
      text_is = h.text_is;
      is_open_is = h.is_open_is;
      none = h.none;
      no_events = h.no_events;
      first = h.first;
      read = record {
        read = read_line before a b r x (bytes_of t) h.read.read line q;
        number = number;
        closed = not_ended t b h.is_open_is;
        cuts = h.read.cuts;
      };
      written = appends_on taken w v (text_of t) (bad_line (next_number (number_of t)) f) h.written (subst (λ (k : ℕ). Appends w v (bad_line k f)) number said);
    }

    pub heading_cut : (v : Option (List ℕ)) (q : ReadsCut r x a b) → o.passes_over ≡ true → Appends w v (bad_line x.number fault.Line) →
        IsHeading o before b taken v text x (CutOff t (unread r ++ q.0.0))
    heading_cut v q passes said = record {
      played = λ head. (h.played head, passes, inl h.in_head, q.0.2, q.1);
      in_head = h.in_head;
      text_is = h.text_is;
      is_open_is = h.is_open_is;
      none = h.none;
      no_events = h.no_events;
      first = h.first;
      read = record {
        read = with_none before b x (bytes_of t) (unread r ++ q.0.0) (read_more before a b r x (bytes_of t) h.read.read q.0.0 q.0.1) q.2;
        number = number;
        closed = not_ended t b h.is_open_is;
        cuts = (h.read.cuts, (b, read_more before a b r x (bytes_of t) h.read.read q.0.0 q.0.1, q.3));
      };
      written = appends_on taken w v (text_of t) (bad_line (next_number (number_of t)) fault.Line) h.written
          (subst (λ (k : ℕ). Appends w v (bad_line k fault.Line)) number said);
    }

    -- a bad line, and bytes without a line feed, that come next
    pub at_bad : (head : Script) (line : List ℕ) (f : Fault) → ReadsLine r x a b line → IsBadInHead text line f → o.passes_over ≡ false → IsAtBad o before b head t f
    at_bad head line f q bad stops = (
      inl h.in_head,
      inl (stops, inl (line, unread x, read_next before a b r x (bytes_of t) h.read.read line q, q.3, bad_line_is head line f bad)),
    )

    pub at_cut : (head : Script) (f : Fault) → f ≡ fault.Line → ReadsCut r x a b → o.passes_over ≡ false → IsAtBad o before b head t f
    at_cut head f e q stops = (
      inl h.in_head,
      inl (
        stops,
        inr (
          e,
          (unread r ++ q.0.0, read_more before a b r x (bytes_of t) h.read.read q.0.0 q.0.1, q.0.2, q.1, q.3),
        ),
      ),
    )

    -- the line `begin`
    pub heading_begins : (head : Script) → ReadsLine r x a b (codes "begin") → IsHead text head → HasReadHead o before b taken w x head
    heading_begins head q is = record {
      t = Begin t;
      played = (h.played head, h.in_head, subst (λ (l : List ℕ). IsHead l head) (sym h.text_is) is);
      due = refl;
      is_open_is = h.is_open_is;
      is_head = subst (λ (l : List ℕ). IsHead l head) (sym h.text_is) is;
      none = h.none;
      no_events = h.no_events;
      first = h.first;
      read = record {
        read = read_line before a b r x (bytes_of t) h.read.read (codes "begin") q;
        number = number;
        closed = not_ended t b h.is_open_is;
        cuts = h.read.cuts;
      };
      before = t;
      before_sound = (
        h.played head,
        (
          fed (codes "begin") ++ unread x,
          read_next before a b r x (bytes_of t) h.read.read (codes "begin") q,
          not_ended t b h.is_open_is,
          h.read.cuts,
        ),
        inl h.in_head,
      );
      before_whole = takes_whole t (inl h.in_head);
      written = h.written;
      pending = refl;
    }

-- a session begins behind its head: no command was given, and no event was done
pub stopping_first : (o : Options) (before now taken w : Option (List ℕ)) (head : Script) (r : LineReader) (s : Session) (p : ReportText) →
    HasReadHead o before now taken w r head → BeginsSession head s → p.round ≡ 0 → p.text.items ≡ codes "report 1\n" →
    IsStopping o before now taken w head r s true p
stopping_first o before now taken w head r s p h b zero first = record {
  t = h.t;
  played = h.played;
  due = h.due;
  is_open_is = h.is_open_is;
  round = h.first ∙ sym zero;
  carries = record {
    is = b.is;
    config = b.config;
    count = b.count;
    is_open = b.is_open ∙ sym h.is_open_is;
    accepted = λ k lt. (let q = item s.queues.items k (omega (arith, lt, b.count)) in
        mapped_at (λ (y : CommandQueue). y.accepted) [] s.queues.items k q.0 q.1 ∙ (b.nothing k q.0 q.1).0 ∙ sym (h.none k));
    events = subst (λ (l : List Event). AreEventsOf s.collector true l) (sym h.no_events) (record {
      rounds = sym b.no_rounds;
      stops = sym b.no_stops;
      cycles = sym b.no_cycles;
      alternate = tt;
      next = refl;
      numbered = tt;
    });
  };
  read = h.read;
  before = h.before;
  before_sound = h.before_sound;
  before_whole = h.before_whole;
  written = h.written;
  pending = h.pending ∙ ap (λ (l : List ℕ). text_of h.before ++ l) (sym first);
}
