-- A line of a session that was read, judged and answered: how the session's transcript goes on, and how it is given up there.
use Rattle.std.proofs.Common.{ℕ, ◌≡◌, ◌⊎◌, ◌++◌, List, [], length, arith, refl, sym, ap, subst, ◌∙◌, inl, inr, Option, None, Some}
use Rattle.std.specs.Prelude.{true, false, codes}
use Rattle.std.specs.Io.KnownBytes.{Appends, Consumes, Keeps}
use Rattle.nmgc_script.specs.declared.{script.Config.Config, script.Script.Script}
use Rattle.nmgc_cycle.specs.{declared.session.Session.Session, Sessions.IsSession, Sessions.accepted_in}
use Rattle.nmgc_live.specs.{Heads.IsBadInHead, Heads.IsNextHeadLine, Heads.IsNoHeadLine, Lines.ReadsCut, Lines.ReadsEnd, Lines.ReadsLine, Lines.fed, Lines.next_number, Lines.unread, Live.HasGivenUp, Live.IsAtBad, Live.IsRefused, Live.IsSound, Meanings.IsBad, Meanings.IsFullIn, Meanings.IsGiven, Meanings.IsNextJudged, Meanings.IsNoLine, Played.IsBadLine, Played.IsFullFor, Refusals.GivesUp, Refusals.bad_line, Steps.HasNotTakenHeadLine, Steps.HasNotReadLines, Steps.HasTakenHeadLine, Steps.HasTakenLine, Steps.IsHeading, Steps.IsHeapOf, Steps.IsReading, Transcripts.Transcript, Transcripts.Bad, Transcripts.Close, Transcripts.CutOff, Transcripts.Given, Transcripts.Head, Transcripts.Quiet, Transcripts.Round, Transcripts.TakesLine, Transcripts.bytes_of, Transcripts.number_of, Transcripts.round_of, Transcripts.text_of, declared.lines.LineReader.LineReader, declared.options.Options.Options, declared.refusal.Fault.Fault, declared.refusal.Refusal.Refusal, declared.session.LineLimits.LineLimits, Steps.IsRounding}
use Rattle.nmgc_live.specs.declared.refusal.Fault.TheVariants as fault
use Rattle.nmgc_live.specs.declared.refusal.Refusal.TheVariants as no
use Rattle.nmgc_live.specs.declared.session.Judged.TheVariants as judged
use Rattle.nmgc_live.specs.declared.head.HeadLine.TheVariants as head
use Rattle.nmgc_live.proofs.{Heading.at_bad, Heading.at_cut, Heading.given_up, Heading.head_ended, Heading.head_fault, Heading.heading_begins, Heading.heading_cut, Heading.heading_on, Heading.heading_past, Lining.front_on, Lining.full_for, Lining.goes_closed, Lining.goes_cut, Lining.goes_on, Lining.goes_past, Lining.goes_quiet, Lining.goes_round, Lining.read_end, Lining.read_fault, Lining.read_line, Lining.read_more, Lining.read_next, Lining.sound, Played.bad_for, Played.fed_some, Played.takes_whole}

pub appends_kept : (a b c : Option (List ℕ)) (xs : List ℕ) → Appends a b xs → Keeps b c → Appends a c xs
appends_kept None b c xs p q = tt
appends_kept (Some u) None c xs p q = elim p [ ]
appends_kept (Some u) (Some v) None xs p q = elim q [ ]
appends_kept (Some u) (Some v) (Some w) xs p q = q ∙ p

-- a session that is given up at a bad line, behind a transcript whose text was written
pub refused_bad : (o : Options) (before b taken w v : Option (List ℕ)) (head : Script) (t : Transcript) (n : ℕ) (f : Fault) (refusal : Refusal) →
    Appends taken w (text_of t) → n ≡ next_number (number_of t) → TakesLine t → (o.passes_over ≡ false → IsAtBad o before b head t f) → GivesUp w v o n f refusal →
    IsRefused o before b taken v head t refusal
refused_bad o before b taken w v head t n f (no.Bad m g) said number takes at q =
    (appends_kept taken w v (text_of t) said q.3, q.1 ∙ number, subst (λ (e : Fault). IsAtBad o before b head t e) (sym q.2) (at q.0))
refused_bad o before b taken w v head t n f no.ReadFault said number takes at q = elim q [ ]
refused_bad o before b taken w v head t n f no.NoMemory said number takes at q =
    (appends_kept taken w v (text_of t) said q, takes_whole t takes)
refused_bad o before b taken w v head t n f no.WriteFault said number takes at q =
    (bad_line n f, inr (inr (no.Bad n f, refl)), front_on taken w v (text_of t) (bad_line n f) said q)

-- the bytes that a line took
line_took : (a b : Option (List ℕ)) (r x : LineReader) (line : List ℕ) → ReadsLine r x a b line → (taken : List ℕ) × Consumes a b taken
line_took a b r x line q = (q.0, q.1)

module _ (o : Options) (heap : LineLimits) (a b w : Option (List ℕ)) (r x : LineReader) (s y : Session) (n : x.number ≡ next_number r.number) (numbers : IsHeapOf heap s) where
  -- the session didn't change
  same : (lb tb : Option (List ℕ)) (head : Script) (t : Transcript) → y ≡ s → IsReading o lb a tb w head t r s → IsReading o lb a tb w head t r y
  same lb tb head t e h = subst (λ (z : Session). IsReading o lb a tb w head t r z) (sym e) h

  -- heap and head have the same numbers
  words_are : (lb tb : Option (List ℕ)) (head : Script) (t : Transcript) → IsReading o lb a tb w head t r s → heap.words ≡ head.config.words
  words_are lb tb head t h = numbers.0 ∙ ap (λ (c : Config). c.words) h.carries.config

  count_is : (lb tb : Option (List ℕ)) (head : Script) (t : Transcript) → IsReading o lb a tb w head t r s → heap.count ≡ length head.threads
  count_is lb tb head t h = numbers.1 ∙ h.carries.count

  pub quiet_taken : IsNextJudged o heap r x a b s y judged.Quiet → HasTakenLine o a b w w r x s y None
  quiet_taken q head t lb tb h =
      (Quiet t q.1.0, goes_quiet o lb a b tb w head t r y (same lb tb head t q.0 h) x n q.1.0 q.1.1 (inl q.1.2), refl)

  pub help_taken : IsNextJudged o heap r x a b s y judged.Help → HasTakenLine o a b w w r x s y None
  help_taken q head t lb tb h =
      (Quiet t (codes "help"), goes_quiet o lb a b tb w head t r y (same lb tb head t q.0 h) x n (codes "help") (q.1, omega arith) (inr (refl, q.2)), refl)

  pub added_taken : IsNextJudged o heap r x a b s y judged.Added → IsSession false y → HasTakenLine o a b w w r x s y None
  added_taken q is head t lb tb h =
      let given : IsGiven head.config.words (length head.threads) q.0 q.2.0 q.2.1.0 =
      subst (λ (k : ℕ). IsGiven k (length head.threads) q.0 q.2.0 q.2.1.0) (words_are lb tb head t h)
      (subst (λ (k : ℕ). IsGiven heap.words k q.0 q.2.0 q.2.1.0) (count_is lb tb head t h) q.2.1.1) in
      (Given t q.0 q.2.0 q.2.1.0, goes_on o lb a b tb w head t r s h x n q.0 q.2.0 q.2.1.0 y q.1 given q.2.1.2 is, refl)

  pub round_taken : IsNextJudged o heap r x a b s y judged.Round → HasTakenLine o a b w w r x s y (Some true)
  round_taken q head t lb tb h = (Round t, goes_round o lb a b tb w head t r y (same lb tb head t q.0 h) x n q.1, refl)

  pub end_taken : (z : Session) → IsNextJudged o heap r x a b s y judged.End → IsSession false z → z.is_open ≡ false →
      z ≡ record y { queues = z.queues; is_open = false } → accepted_in z ≡ accepted_in y → HasTakenLine o a b w w r x s z (Some false)
  end_taken z q is closed rest accepted head t lb tb h = by_end q.1
    where
      moved : IsReading o lb a tb w head t r y
      moved = same lb tb head t q.0 h

      by_end : ReadsLine r x a b (codes "end") ⊎ ReadsEnd r x a b → (u : Transcript) × IsRounding o lb b tb w head u x z false × (round_of u ≡ round_of t)
      by_end (inl line) = (
        Close t (fed (codes "end")),
        goes_closed o lb a b tb w head t r y moved x n (fed (codes "end")) z
            (read_line lb a b r x (bytes_of t) moved.read.read (codes "end") line) (inl refl) (λ e. absurd (fed_some (codes "end") e)) is closed rest
            accepted,
        refl,
      )
      by_end (inr none) = (
        Close t [],
        goes_closed o lb a b tb w head t r y moved x n [] z
            (read_end lb a b r x (bytes_of t) moved.read.read none.0 none.1 none.2) (inr refl) (λ e. none.3) is closed rest accepted,
        refl,
      )

  -- a bad line of the session, with the numbers of its head
  bad_is : (lb tb : Option (List ℕ)) (head : Script) (t : Transcript) (line : List ℕ) (f : Fault) → y ≡ s → IsReading o lb a tb w head t r s →
      IsBad heap.words heap.count o.has_prompts (IsFullIn y) line f → IsBadLine o head t line f
  bad_is lb tb head t line f e h bad =
      let moved = same lb tb head t e h in
      let numbers_of : IsBad head.config.words (length head.threads) o.has_prompts (IsFullIn y) line f =
      subst (λ (k : ℕ). IsBad k (length head.threads) o.has_prompts (IsFullIn y) line f) (words_are lb tb head t h)
      (subst (λ (k : ℕ). IsBad heap.words k o.has_prompts (IsFullIn y) line f) (count_is lb tb head t h) bad) in
      inr (
        h.reading,
        bad_for head.config.words (length head.threads) o.has_prompts (IsFullIn y) (IsFullFor head t)
            (λ m lt full. full_for o lb a b tb w head t r y moved m full) line f numbers_of,
      )

  pub bad_taken : (f : Fault) (v : Option (List ℕ)) → IsNextJudged o heap r x a b s y (judged.Bad f) → o.passes_over ≡ true → Appends w v (bad_line x.number f) →
      HasTakenLine o a b w v r x s y None
  bad_taken f v q passes said head t lb tb h = by_line q.1
    where
      moved : IsReading o lb a tb w head t r y
      moved = same lb tb head t q.0 h

      by_line : ((line : List ℕ) × ReadsLine r x a b line × IsBad heap.words heap.count o.has_prompts (IsFullIn y) line f) ⊎
          ((f ≡ fault.Line) × ReadsCut r x a b) → (u : Transcript) × IsReading o lb b tb v head u x y × (round_of u ≡ round_of t)
      by_line (inl l) = (
        Bad t l.0 f,
        goes_past o lb a b tb w head t r y moved x n l.0 f v l.1 (bad_is lb tb head t l.0 f q.0 h l.2) passes said,
        refl,
      )
      by_line (inr c) = (
        CutOff t (unread r ++ c.1.0.0),
        goes_cut o lb a b tb w head t r y moved x n v c.1 passes (subst (λ (g : Fault). Appends w v (bad_line x.number g)) c.0 said),
        refl,
      )

  -- a session that is given up at a bad line
  pub bad_refused : (f : Fault) (v : Option (List ℕ)) (refusal : Refusal) → IsNextJudged o heap r x a b s y (judged.Bad f) →
      GivesUp w v o x.number f refusal → HasNotReadLines o a b w v r s refusal
  bad_refused f v refusal j q head t lb tb h = (
    t,
    (by_line j.1).0,
    refused_bad o lb b tb w v head t x.number f refusal h.written (n ∙ ap next_number h.read.number) (inr h.reading) (by_line j.1).1 q,
  )
    where
      by_line : ((line : List ℕ) × ReadsLine r x a b line × IsBad heap.words heap.count o.has_prompts (IsFullIn y) line f) ⊎
          ((f ≡ fault.Line) × ReadsCut r x a b) → IsSound o lb b head t × (o.passes_over ≡ false → IsAtBad o lb b head t f)
      by_line (inl l) = (
        sound o lb a b tb w head t r s h l.1.0 l.1.1,
        λ stops. (
          inr h.reading,
          inl (stops, inl (l.0, unread x, read_next lb a b r x (bytes_of t) h.read.read l.0 l.1, l.1.3, bad_is lb tb head t l.0 f j.0 h l.2)),
        ),
      )
      by_line (inr c) = (
        sound o lb a b tb w head t r s h c.1.0.0 c.1.0.1,
        λ stops. (
          inr h.reading,
          inl (
            stops,
            inr (
              c.0,
              (unread r ++ c.1.0.0, read_more lb a b r x (bytes_of t) h.read.read c.1.0.0 c.1.0.1, c.1.0.2, c.1.1, c.1.3),
            ),
          ),
        ),
      )

-- a session that is given up since no line came
pub none_refused : (o : Options) (a b w : Option (List ℕ)) (r : LineReader) (s : Session) (refusal : Refusal) → IsNoLine r a b refusal →
    HasNotReadLines o a b w w r s refusal
none_refused o a b w r s no.ReadFault q head t lb tb h = (t, sound o lb a b tb w head t r s h q.0 q.1, read_fault o lb a b tb w head t r s h q)
none_refused o a b w r s no.NoMemory q head t lb tb h =
    (t, sound o lb a b tb w head t r s h q.0 q.1, (h.written, takes_whole t (inr h.reading)))
none_refused o a b w r s no.WriteFault q head t lb tb h = elim q [ ]
none_refused o a b w r s (no.Bad m g) q head t lb tb h = elim q [ ]

-- any head that a session might have had, if it was given up in its head
pub no_head : Script
no_head = record {
  version = 0;
  config = record { segments = 0; words = 0; nursery = 0; slice = 0; quota = 0; trigger = 0 };
  threads = [];
}

-- the same in a session's head
module _ (o : Options) (a b w : Option (List ℕ)) (r x : LineReader) (old new : List ℕ) (n : x.number ≡ next_number r.number) where
  pub more_taken : IsNextHeadLine r x a b old new head.More → HasTakenHeadLine o a b w w r x old new None
  more_taken q t lb tb h = (Head t q.0, subst (λ (l : List ℕ). IsHeading o lb b tb w l x (Head t q.0)) (sym q.2) (heading_on o lb a b tb w old r x t h n q.0 q.1 q.3))

  pub begun_taken : (script : Script) → IsNextHeadLine r x a b old new (head.Begun script) → HasTakenHeadLine o a b w w r x old new (Some script)
  begun_taken script q t lb tb h = heading_begins o lb a b tb w old r x t h n script q.0 q.1

  pub bad_head_taken : (f : Fault) (v : Option (List ℕ)) → IsNextHeadLine r x a b old new (head.Bad f) → o.passes_over ≡ true → Appends w v (bad_line x.number f) →
      HasTakenHeadLine o a b w v r x old new None
  bad_head_taken f v q passes said t lb tb h = by_line q.1
    where
      to_new : (u : Transcript) → IsHeading o lb b tb v old x u → IsHeading o lb b tb v new x u
      to_new u k = subst (λ (l : List ℕ). IsHeading o lb b tb v l x u) (sym q.0) k

      by_line : ((line : List ℕ) × ReadsLine r x a b line × IsBadInHead old line f) ⊎ ((f ≡ fault.Line) × ReadsCut r x a b) →
          (u : Transcript) × IsHeading o lb b tb v new x u
      by_line (inl l) = (Bad t l.0 f, to_new (Bad t l.0 f) (heading_past o lb a b tb w old r x t h n l.0 f v l.1 l.2 passes said))
      by_line (inr c) = (
        CutOff t (unread r ++ c.1.0.0),
        to_new (CutOff t (unread r ++ c.1.0.0)) (heading_cut o lb a b tb w old r x t h n v c.1 passes
            (subst (λ (g : Fault). Appends w v (bad_line x.number g)) c.0 said)),
      )

  pub bad_head_refused : (f : Fault) (v : Option (List ℕ)) (refusal : Refusal) → IsNextHeadLine r x a b old new (head.Bad f) →
      GivesUp w v o x.number f refusal → HasNotTakenHeadLine o a b w v r old refusal
  bad_head_refused f v refusal j q t lb tb h = by_line j.1
    where
      refused : (o.passes_over ≡ false → IsAtBad o lb b no_head t f) → IsRefused o lb b tb v no_head t refusal
      refused at = refused_bad o lb b tb w v no_head t x.number f refusal h.written (n ∙ ap next_number h.read.number) (inl h.in_head) at q

      by_line : ((line : List ℕ) × ReadsLine r x a b line × IsBadInHead old line f) ⊎ ((f ≡ fault.Line) × ReadsCut r x a b) →
          HasGivenUp o lb b tb v refusal
      by_line (inl l) = given_up o lb a b tb w old r x t h no_head v refusal l.1.0 l.1.1 (refused (at_bad o lb a b tb w old r x t h n no_head l.0 f l.1 l.2))
      by_line (inr c) = given_up o lb a b tb w old r x t h no_head v refusal c.1.0.0 c.1.0.1
          (refused (at_cut o lb a b tb w old r x t h n no_head f c.0 c.1))

-- a session that is given up in its head since no line came
pub none_head_refused : (o : Options) (a b w : Option (List ℕ)) (r : LineReader) (old : List ℕ) (refusal : Refusal) → IsNoHeadLine r a b old refusal →
    HasNotTakenHeadLine o a b w w r old refusal
none_head_refused o a b w r old no.ReadFault q t lb tb h =
    given_up o lb a b tb w old r r t h no_head w no.ReadFault q.0 q.1 (head_fault o lb a b tb w old r r t h no_head q)
none_head_refused o a b w r old no.NoMemory q t lb tb h =
    given_up o lb a b tb w old r r t h no_head w no.NoMemory q.0 q.1 (h.written, takes_whole t (inl h.in_head))
none_head_refused o a b w r old no.WriteFault q t lb tb h = elim q [ ]
none_head_refused o a b w r old (no.Bad m f) q t lb tb h =
    given_up o lb a b tb w old r r t h no_head w (no.Bad m f) [] q.2 (head_ended o lb a b tb w old r r t h no_head m f q)
