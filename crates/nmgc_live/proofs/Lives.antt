-- Whole sessions: how they begin, how they are given up between two steps, and the status with which they end.
use Rattle.std.proofs.Common.{ℕ, ◌≡◌, ◌≤◌, ◌⊎◌, ◌++◌, List, [], take, refl, sym, subst, ◌∙◌, arith, append-nil, inl, inr, Option}
use Rattle.std.specs.Prelude.{codes}
use Rattle.std.specs.Io.KnownBytes.{Appends}
use Rattle.nmgc_io.specs.Text.{AppendsFront, Rose}
use Rattle.nmgc_script.specs.declared.script.Script.{Script}
use Rattle.nmgc_journal.specs.declared.report.End.{End}
use Rattle.nmgc_journal.specs.declared.report.End.TheVariants as end
use Rattle.nmgc_cli.specs.{Output.status_of, declared.status.Status.Status}
use Rattle.nmgc_cli.specs.declared.status.Status.TheVariants as status
use Rattle.nmgc_live.specs.{Lines.unread, Live.EndsAs, Live.HasEndedRun, Live.HasGivenUp, Live.IsCutText, Live.IsEnded, Live.IsLive, Live.IsRefused, Refusals.WritesLast, Refusals.WritesRefusal, Refusals.bad_line, Refusals.refusal_status, Refusals.refusal_text, Steps.HasReadHead, Steps.IsHeading, Transcripts.Transcript, Transcripts.HasNoStopDue, Transcripts.Start, Transcripts.text_of, declared.lines.LineReader.LineReader, declared.options.Options.Options, declared.refusal.Fault.Fault, declared.refusal.Refusal.Refusal}
use Rattle.nmgc_live.specs.declared.refusal.Refusal.TheVariants as no
use Rattle.nmgc_live.proofs.{Answering.appends_none, LineParts.consumes_none, Lining.appends_on, Lining.front_on, Played.not_ended, Played.takes_whole, Taking.no_head}

-- a session that is given up before it read anything, and behind its head
pub given_up_first : (o : Options) (left taken : Option (List ℕ)) → HasGivenUp o left left taken taken no.NoMemory
given_up_first o left taken = (no_head, (Start, (tt, ([], consumes_none left, not_ended Start left refl, tt), inl refl), (appends_none taken, takes_whole Start (inl refl))))

pub given_up_headed : (o : Options) (before now taken w : Option (List ℕ)) (r : LineReader) (head : Script) → HasReadHead o before now taken w r head →
    HasGivenUp o before now taken w no.NoMemory
given_up_headed o before now taken w r head h = (head, (h.before, h.before_sound, (h.written, h.before_whole)))

-- a session whose head goes on too long
pub given_up_heading : (o : Options) (before now taken w : Option (List ℕ)) (text : List ℕ) (r : LineReader) (t : Transcript) →
    IsHeading o before now taken w text r t → HasGivenUp o before now taken w no.NoMemory
given_up_heading o before now taken w text r t h = (
  no_head,
  (
    t,
    (h.played no_head, (unread r, h.read.read, h.read.closed, h.read.cuts), inl h.in_head),
    (h.written, takes_whole t (inl h.in_head)),
  ),
)

-- a session that ended with its run
module _ (o : Options) (lb ln tb tn : Option (List ℕ)) where
  ended_by : (head : Script) (t : Transcript) (e : End) → IsEnded tb tn head t e → EndsAs o lb ln tb tn head t (status_of e)
  ended_by head t end.Done h = (end.Done, refl, h)
  ended_by head t (end.HeapFull free reserve) h = (end.HeapFull free reserve, refl, h)

  pub live_ended : (result : Status) → HasEndedRun o lb ln tb tn result → IsLive o lb ln tb tn result
  live_ended result h = (h.0, (h.1.0, h.1.1, subst (EndsAs o lb ln tb tn h.0 h.1.0) (sym h.1.2.1) (ended_by h.0 h.1.0 h.1.2.0 h.1.2.2)))

  -- a session that was given up, and whose refusal was written
  module _ (tx : Option (List ℕ)) (head : Script) (t : Transcript) where
    -- the sink failed at the last text
    cut_last : (refusal : Refusal) → Appends tb tn (text_of t) → AppendsFront tn tx (refusal_text refusal) → IsCutText tb tx t
    cut_last refusal said front = (refusal_text refusal, inr (inr (refusal, refl)), front_on tb tn tx (text_of t) (refusal_text refusal) said front)

    no_memory : (result : Status) → Appends tb tn (text_of t) → HasNoStopDue t → WritesLast tn tx (codes "no memory\n") status.NoMemory result →
        EndsAs o lb ln tb tx head t result
    no_memory result said whole (inl q) = subst (EndsAs o lb ln tb tx head t) (sym q.0)
        (appends_on tb tn tx (text_of t) (codes "no memory\n") said q.1, whole)
    no_memory result said whole (inr q) = subst (EndsAs o lb ln tb tx head t) (sym q.0) (cut_last no.NoMemory said q.1)

    still_cut : (result : Status) → IsCutText tb tn t → WritesLast tn tx [] status.WriteFault result → EndsAs o lb ln tb tx head t result
    still_cut result cut (inl q) = subst (EndsAs o lb ln tb tx head t) (sym q.0) (
      cut.0,
      cut.1,
      (
        cut.2.0,
        cut.2.1,
        subst (Appends tb tx) (append-nil (take cut.2.0 (text_of t ++ cut.0))) (appends_on tb tn tx (take cut.2.0 (text_of t ++ cut.0)) [] cut.2.2 q.1),
      ),
    )
    still_cut result cut (inr q) = absurd (let none = q.1.1 in omega (arith, none))

    ends_by : (refusal : Refusal) (result : Status) → IsRefused o lb ln tb tn head t refusal → WritesLast tn tx (refusal_text refusal) (refusal_status refusal) result →
        EndsAs o lb ln tb tx head t result
    ends_by (no.Bad n f) result h (inl q) = subst (EndsAs o lb ln tb tx head t) (sym q.0)
        (f, h.2, appends_on tb tn tx (text_of t) _ h.0 (subst (λ (k : ℕ). Appends tn tx (bad_line k f)) h.1 q.1))
    ends_by (no.Bad n f) result h (inr q) = subst (EndsAs o lb ln tb tx head t) (sym q.0) (cut_last (no.Bad n f) h.0 q.1)
    ends_by no.ReadFault result h (inl q) = subst (EndsAs o lb ln tb tx head t) (sym q.0)
        (h.1, h.2, appends_on tb tn tx (text_of t) (codes "read fault\n") h.0 q.1)
    ends_by no.ReadFault result h (inr q) = subst (EndsAs o lb ln tb tx head t) (sym q.0) (cut_last no.ReadFault h.0 q.1)
    ends_by no.WriteFault result h q = still_cut result h q
    ends_by no.NoMemory result h q = no_memory result h.0 h.1 q

  pub live_refused : (tx : Option (List ℕ)) (refusal : Refusal) (result : Status) → HasGivenUp o lb ln tb tn refusal → WritesRefusal tn tx refusal result →
      IsLive o lb ln tb tx result
  live_refused tx refusal result h q = (h.0, (h.1.0, h.1.1, by_said q.1))
    where
      by_said : (q.0 ≡ refusal) ⊎ ((q.0 ≡ no.NoMemory) × ((n : ℕ) × ((f : Fault) × (refusal ≡ no.Bad n f)))) → EndsAs o lb ln tb tx h.0 h.1.0 result
      by_said (inl same) = ends_by tx h.0 h.1.0 refusal result h.1.2
          (subst (λ (r : Refusal). WritesLast tn tx (refusal_text r) (refusal_status r) result) same q.2)
      by_said (inr none) =
          let bad = subst (IsRefused o lb ln tb tn h.0 h.1.0) none.1.1.1 h.1.2 in
          no_memory tx h.0 h.1.0 result bad.0 (takes_whole h.1.0 bad.2.0) (subst (λ (r : Refusal). WritesLast tn tx (refusal_text r) (refusal_status r) result) none.0 q.2)

-- a count that rose before or later
pub rose_more : (a b c : ℕ) → Rose a b → b ≤ c → Rose a c
rose_more a b c rose later = omega (arith, rose, later)

pub rose_later : (a b c : ℕ) → a ≤ b → Rose b c → Rose a c
rose_later a b c before rose = omega (arith, before, rose)

-- the status of a run's end is no fault
pub no_fault : (e : End) → (status_of e ≡ status.ReadFault → ⊥) × (status_of e ≡ status.WriteFault → ⊥)
no_fault end.Done = ((λ x. cc), (λ x. cc))
no_fault (end.HeapFull free reserve) = ((λ x. cc), (λ x. cc))

-- a status of a read fault comes from the refusal
pub read_fault_from : (before now : Option (List ℕ)) (refusal : Refusal) (result : Status) → WritesRefusal before now refusal result →
    result ≡ status.ReadFault → refusal ≡ no.ReadFault
read_fault_from before now refusal result q e = by_said q.0 q.1 (elim q.2 [ inl last ↦ sym last.0 ∙ e | inr cut ↦ absurd (let f = sym cut.0 ∙ e in cc) ])
  where
    by_said : (said : Refusal) → (said ≡ refusal) ⊎ ((said ≡ no.NoMemory) × ((n : ℕ) × ((f : Fault) × (refusal ≡ no.Bad n f)))) →
        refusal_status said ≡ status.ReadFault → refusal ≡ no.ReadFault
    by_said no.ReadFault (inl same) f = sym same
    by_said no.ReadFault (inr none) f = absurd (let g = none.0 in cc)
    by_said (no.Bad n c) which f = absurd cc
    by_said no.WriteFault which f = absurd cc
    by_said no.NoMemory which f = absurd cc
