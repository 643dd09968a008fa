-- The answer to bytes, to a task and to arguments, one inside the other, and its output.
use Rattle.nmgc_cli.proofs.Vocabulary.{◌≡◌, ◌≢◌, ◌≤◌, ◌<◌, ℕ, ◌+◌, List, ◌++◌, length, refl, sym, ◌∙◌, ap, subst, arith, Option, Some, None, Ok, Err, inl, inr, ◌⊎◌, append-nil, IfSome, Appends, Report, End, bench_script, upgraded, Spells, plain, Script, Name, MAX_IMAGE_BYTES, Retained, IsRight, retained_text, report_text, summary_text, Answer, refusal_status, answer_status, answer_report, answer_text, text_bytes, IsOutputOf, IsRan, status_of, AnswersBench, IsRead, IsReadWithin, SpellsOnly, IsUpgraded, Answers, AnswersScript, AnswersRetain, IsOutputOfReport, AnswersWithReport, IsText, IsSummary, IsImageText, IsAnswer, IsWritten, Ends, ReadsNothing, IsReading, IsReport, IsReportOfTask, IsRunThrough, IsComplete, IsBenchComplete, IsUpgrade, IsUpgradeComplete, IsPath, IsRetainComplete, IsMarksText, IsRunOf, IsHeapFull, Asks, CanBeDone, IsRunning, Refusal, Output, Status, Done, WriteFault, HeapFull, NoMemory, Task, Run, Bench, Upgrade, Image, Retain, Marks, most_script_bytes, taken_within, Result, ReadEnd, ScriptFault, IsFaultOf, Takes, TakesUpTo, AnswersBytes, read_refusal, script_refusal, most_bytes, lines_few, kept_lines}
use Rattle.nmgc_journal.specs.declared.report.End.TheVariants as end
use Rattle.nmgc_image.specs.declared.image.Image as shown
use Rattle.nmgc_image.specs.Image as spelling
use Rattle.nmgc_cli.specs.declared.answer.Refusal.TheVariants as no
use Rattle.nmgc_io.specs.declared.ends.ReadEnd.TheVariants as read_end
use Rattle.nmgc_script.specs.declared.fault.ScriptFault.TheVariants as fault_of
use Rattle.nmgc_cli.proofs.Asking.{one_task}

-- the output was written
pub ends : (taken taken' : Option (List ℕ)) (rose : Type 0) (answer : Answer) (reported : Output) (bytes : List ℕ) (status : Status) →
    IsOutputOf answer reported → bytes ≡ text_bytes reported.text → IsWritten taken taken' rose reported.status bytes status →
    Ends taken taken' rose answer status reported.report
ends taken taken' rose answer reported bytes status is e h =
    let answered_so : IsWritten taken taken' rose (answer_status answer) bytes status =
    subst (λ (s : Status). IsWritten taken taken' rose s bytes status) is.status h in
    record { report_of = is.report; written = subst (λ (b : List ℕ). IsWritten taken taken' rose (answer_status answer) b status) (e ∙ is.text) answered_so }

-- a task that arguments ask for can be done
pub asked_can : (arguments : List (List ℕ)) (task : Task) → Asks arguments task → CanBeDone task
asked_can arguments Run h = tt
asked_can arguments (Bench batches) h = h.1
asked_can arguments Upgrade h = tt
asked_can arguments Image h = tt
asked_can arguments (Retain name) h = tt
asked_can arguments (Marks markers) h = h.1

-- a task that such arguments ask for reads nothing
pub asked_unread : (arguments : List (List ℕ)) (task : Task) → Asks arguments task → ReadsNothing arguments → IsReading task → ⊥
asked_unread arguments task asks (inl wrong) reads = wrong task asks
asked_unread arguments task asks (inr bench) reads = subst IsReading (one_task arguments task (Bench bench.0) asks bench.1) reads

-- the refusal `Usage` comes only for arguments that ask for no task
no_usage : (task : Task) (old new : Option (List ℕ)) (rose : Type 0) → Answers task old new rose (Err no.Usage) → ⊥
no_usage Run old new rose h = h.2
no_usage (Bench batches) old new rose h = h.1
no_usage Upgrade old new rose h = h.2
no_usage Image old new rose h = h.2
no_usage (Retain name) old new rose h = h.2
no_usage (Marks markers) old new rose h = h.2

-- the answer to a task is the answer to arguments that ask for the task
pub asked_answered : (arguments : List (List ℕ)) (task : Task) (old new : Option (List ℕ)) (rose : Type 0) (answer : Answer) → Asks arguments task →
    Answers task old new rose answer → IsAnswer arguments old new rose answer
asked_answered arguments task old new rose (Ok output) asks h = (task, asks, h)
asked_answered arguments task old new rose (Err no.Usage) asks h = absurd (no_usage task old new rose h)
asked_answered arguments task old new rose (Err no.ReadFault) asks h = (task, asks, h)
asked_answered arguments task old new rose (Err no.TooLong) asks h = (task, asks, h)
asked_answered arguments task old new rose (Err (no.Bad line c)) asks h = (task, asks, h)
asked_answered arguments task old new rose (Err (no.BadImage line)) asks h = (task, asks, h)
asked_answered arguments task old new rose (Err no.NoMemory) asks h = (task, asks, h)

-- and back: the answer to arguments that ask for a task is the answer to the task
answered_asked : (arguments : List (List ℕ)) (task : Task) (old new : Option (List ℕ)) (rose : Type 0) (answer : Answer) → Asks arguments task →
    IsAnswer arguments old new rose answer → Answers task old new rose answer
answered_asked arguments task old new rose answer asks = by answer
  where
    other : (answer : Answer) → (t : Task) × Asks arguments t × Answers t old new rose answer → Answers task old new rose answer
    other answer h = let P : Task → Type 0 = λ t. Answers t old new rose answer in subst P (one_task arguments h.0 task h.1 asks) h.2

    by : (answer : Answer) → IsAnswer arguments old new rose answer → Answers task old new rose answer
    by (Ok output) h = other (Ok output) h
    by (Err no.Usage) h = absurd (h.0 task asks)
    by (Err no.ReadFault) h = other (Err no.ReadFault) h
    by (Err no.TooLong) h = other (Err no.TooLong) h
    by (Err (no.Bad line c)) h = other (Err (no.Bad line c)) h
    by (Err (no.BadImage line)) h = other (Err (no.BadImage line)) h
    by (Err no.NoMemory) h = other (Err no.NoMemory) h

-- the text of an output that was written, with the status of its report
written_as : (taken taken' : Option (List ℕ)) (rose : Type 0) (status : Status) (output : Output) (report : Report) (text : List ℕ) →
    output.status ≡ status_of report.end → text_bytes output.text ≡ text → IsWritten taken taken' rose output.status (text_bytes output.text) status →
    IsWritten taken taken' rose (status_of report.end) text status
written_as taken taken' rose status output report text s t h =
    subst (λ (x : Status). IsWritten taken taken' rose x text status) s (subst (λ (x : List ℕ). IsWritten taken taken' rose output.status x status) t h)

-- the report of an answer is a report of a run
of_report : (task : Task) (arguments : List (List ℕ)) (left left' taken taken' : Option (List ℕ)) (read_fault write_fault : Type 0) (status : Status)
    (output : Output) → Asks arguments task → Answers task left left' read_fault (Ok output) →
    IsWritten taken taken' write_fault output.status (text_bytes output.text) status →
    IfSome output.report (λ report. IsReportOfTask arguments left left' taken taken' write_fault status report)
of_report Run arguments left left' taken taken' read_fault write_fault status output asks (report, h, t) text =
    let written : IsWritten taken taken' write_fault (status_of report.end) (report_text report) status =
    written_as taken taken' write_fault status output report (report_text report) t.status t.text text in
    subst (λ (f : Option Report). IfSome f (λ r. IsReportOfTask arguments left left' taken taken' write_fault status r)) (sym t.report_is)
    (inl (record { asked = asks; bytes = h.0; read = h.1; script = h.2.0; spells = h.2.1; lawful = h.2.2.run.lawful; written = written }))
of_report (Bench batches) arguments left left' taken taken' read_fault write_fault status output asks (unread, (report, h, t)) text =
    let written : IsWritten taken taken' write_fault (status_of report.end) (summary_text batches report) status =
    written_as taken taken' write_fault status output report (summary_text batches report) t.status t.text text in
    subst (λ (f : Option Report). IfSome f (λ r. IsReportOfTask arguments left left' taken taken' write_fault status r)) (sym t.report_is)
    (inr (inl (record { batches = batches; asked = asks; unread = unread; lawful = h.lawful; written = written })))
of_report Image arguments left left' taken taken' read_fault write_fault status output asks (report, h, t) text =
    let written : IsWritten taken taken' write_fault (status_of report.end) (text_bytes output.text) status =
    written_as taken taken' write_fault status output report (text_bytes output.text) t.status refl text in
    subst (λ (f : Option Report). IfSome f (λ r. IsReportOfTask arguments left left' taken taken' write_fault status r)) (sym t.report_is)
    (inr (inr (inl (record {
      asked = asks;
      bytes = h.0;
      read = h.1;
      script = h.2.0;
      spells = h.2.1;
      run = h.2.2.run;
      text = text_bytes output.text;
      shows = t.text h.2.0 h.2.2.limits h.2.2.run;
      written = written;
    }))))
of_report (Retain name) arguments left left' taken taken' read_fault write_fault status output asks h text =
    subst (λ (f : Option Report). IfSome f (λ r. IsReportOfTask arguments left left' taken taken' write_fault status r)) (sym h.2.none) tt
of_report (Marks markers) arguments left left' taken taken' read_fault write_fault status output asks (report, h, t) text =
    let written : IsWritten taken taken' write_fault (status_of report.end) (text_bytes output.text) status =
    written_as taken taken' write_fault status output report (text_bytes output.text) t.status refl text in
    subst (λ (f : Option Report). IfSome f (λ r. IsReportOfTask arguments left left' taken taken' write_fault status r)) (sym t.report_is)
    (inr (inr (inr (record {
      markers = markers;
      asked = asks;
      bytes = h.0;
      read = h.1;
      script = h.2.0;
      spells = h.2.1;
      run = h.2.2.run;
      text = text_bytes output.text;
      is_text = t.text h.2.0 h.2.2.limits h.2.2.run.lawful;
      written = written;
    }))))
of_report Upgrade arguments left left' taken taken' read_fault write_fault status output asks h text =
    subst (λ (f : Option Report). IfSome f (λ r. IsReportOfTask arguments left left' taken taken' write_fault status r)) (sym h.2.2.none) tt

of_answer : (arguments : List (List ℕ)) (left left' taken taken' : Option (List ℕ)) (read_fault write_fault : Type 0) (answer : Answer)
    (status : Status) → IsAnswer arguments left left' read_fault answer →
    IsWritten taken taken' write_fault (answer_status answer) (answer_text answer) status →
    IfSome (answer_report answer) (λ report. IsReportOfTask arguments left left' taken taken' write_fault status report)
of_answer arguments left left' taken taken' read_fault write_fault (Ok output) status reported text =
    of_report reported.0 arguments left left' taken taken' read_fault write_fault status output reported.1 reported.2 text
of_answer arguments left left' taken taken' read_fault write_fault (Err refusal) status reported text = tt

pub reports : (arguments : List (List ℕ)) (left left' taken taken' : Option (List ℕ)) (read_fault write_fault : Type 0) (answer : Answer)
    (status : Status) (found : Option Report) → IsAnswer arguments left left' read_fault answer → Ends taken taken' write_fault answer status found →
    IfSome found (λ report. IsReportOfTask arguments left left' taken taken' write_fault status report)
reports arguments left left' taken taken' read_fault write_fault answer status found reported ended =
    subst (λ (f : Option Report).
    IfSome f (λ report. IsReportOfTask arguments left left' taken taken' write_fault status report)) (sym ended.report_of)
    (of_answer arguments left left' taken taken' read_fault write_fault answer status reported ended.written)

-- so is the report of a run or a bench; the arguments ask for the task of any other report
pub told : (arguments : List (List ℕ)) (left left' taken taken' : Option (List ℕ)) (rose : Type 0) (status : Status) (found : Option Report) →
    IfSome found (λ report. IsReportOfTask arguments left left' taken taken' rose status report) →
    IfSome found (λ report. IsReport arguments left left' taken taken' rose status report)
told arguments left left' taken taken' rose status None h = tt
told arguments left left' taken taken' rose status (Some report) (inl h) = inl h
told arguments left left' taken taken' rose status (Some report) (inr (inl h)) = inr (inl h)
told arguments left left' taken taken' rose status (Some report) (inr (inr (inl h))) = inr (inr (inl h.asked))
told arguments left left' taken taken' rose status (Some report) (inr (inr (inr h))) = inr (inr (inr (h.markers, h.asked)))

-- the answer to bytes that were read to their end is the answer to a script that is read
pub read_answers : {X : Type 0} (Gives : Script → X → Type 0) (old new : Option (List ℕ)) (rose : Type 0) (bytes : List ℕ) (answer : Result X Refusal) →
    IsRead old new bytes → AnswersBytes Gives bytes answer → AnswersScript Gives old new rose answer
read_answers Gives old new rose bytes (Ok given) read h = (bytes, read, h)
read_answers Gives old new rose bytes (Err no.Usage) read h = absurd h
read_answers Gives old new rose bytes (Err no.ReadFault) read h = absurd h
read_answers Gives old new rose bytes (Err no.TooLong) read h = inr (bytes, read, h)
read_answers Gives old new rose bytes (Err (no.Bad line c)) read h = (bytes, read, h)
read_answers Gives old new rose bytes (Err (no.BadImage line)) read h = absurd h
read_answers Gives old new rose bytes (Err no.NoMemory) read h = (bytes, read.taken, read.within)

-- and so is the refusal if they couldn't be read to their end
pub unread_answers : {X T : Type 0} (Gives : Script → X → Type 0) (old new : Option (List ℕ)) (rose : Type 0) (why : ReadEnd) →
    (◌≡◌ {A = Result T ReadEnd} (Err why) (Err read_end.TooLong) → Takes old new (most_script_bytes + 1)) →
    ((◌≡◌ {A = Result T ReadEnd} (Err why) (Err read_end.TooLong) → ⊥) → TakesUpTo old new most_script_bytes) →
    (◌≡◌ {A = Result T ReadEnd} (Err why) (Err read_end.ReadFault) → rose) → AnswersScript Gives old new rose (Err (read_refusal why))
unread_answers Gives old new rose read_end.TooLong long few failed = inl (long refl)
unread_answers Gives old new rose read_end.ReadFault long few failed = (few (λ e. cc), failed refl)
unread_answers Gives old new rose read_end.NoMemory long few failed = few (λ e. cc)

-- the answer to bytes that no script could be read from
pub fault_answers : {X : Type 0} (Gives : Script → X → Type 0) (bytes : List ℕ) (fault : ScriptFault) → length bytes ≤ most_bytes bytes →
    ((script : Script) → Spells bytes script → fault ≡ fault_of.NoMemory) → IsFaultOf bytes fault → AnswersBytes Gives bytes (Err (script_refusal fault))
fault_answers Gives bytes (fault_of.Bad line c) short only is = record {
  short = short;
  none = λ script spells. let never : fault_of.Bad line c ≡ fault_of.NoMemory = only script spells in cc;
  fault = is;
}
fault_answers Gives bytes fault_of.NoMemory short only is = tt

-- known bytes that were read to their end were read whole
whole : (limit : ℕ) (bytes read : List ℕ) (new : Option (List ℕ)) → IsReadWithin limit (Some bytes) new read → bytes ≡ read
whole limit bytes read None is = absurd is.taken
whole limit bytes read (Some left) is = is.taken ∙ ap (λ (l : List ℕ). read ++ l) is.end ∙ append-nil read

-- the status and the report of a run with this end
of_end : (end : End) (script : Script) (report : Report) → report.end ≡ end → IsRunOf script report → IsRunThrough script (status_of end) (Some report)
of_end end.Done script report e run = inr (inl refl)
of_end (end.HeapFull free reserve) script report e run =
    let full : IsHeapFull report.end = subst IsHeapFull (sym e) tt in
    inr (inr (refl, (run, full, λ r. (r.full.0 full, r.crowded full))))

of_run : (bytes : List ℕ) (script : Script) (new : Option (List ℕ)) (rose : Type 0) (report : Report) → Spells bytes script →
    AnswersScript IsRan (Some bytes) new rose (Ok report) → IsRunThrough script (status_of report.end) (Some report)
of_run bytes script new rose report spells h =
    let same : bytes ≡ h.0 = whole most_script_bytes bytes h.0 new h.1 in
    let one : script ≡ h.2.0 = h.2.1.only script (subst (λ (b : List ℕ). Spells b script) same spells) in
    of_end report.end script report refl (subst (λ (s : Script). IsRunOf s report) (sym one) h.2.2.run)

-- the refusal of a script that is read, if the source has such bytes and doesn't fail, is want of memory
refused : {X : Type 0} (Gives : Script → X →
    Type 0) (bytes : List ℕ) (script : Script) (new : Option (List ℕ)) (rose : Type 0) (refusal : Refusal) → length bytes ≤ most_bytes bytes →
    Spells bytes script → (rose → ⊥) → AnswersScript Gives (Some bytes) new rose (Err refusal) → refusal_status refusal ≡ NoMemory
refused Gives bytes script new rose no.Usage within spells none h = absurd h.2
refused Gives bytes script new rose no.ReadFault within spells none h = absurd (none h.1)
refused Gives bytes script new rose no.TooLong within spells none (inl h) =
    absurd (omega (arith, taken_within bytes new (most_script_bytes + 1) h, within, lines_few (kept_lines bytes)))
refused Gives bytes script new rose no.TooLong within spells none (inr h) =
    let more = subst (λ (b : List ℕ). most_bytes b < length b) (sym (whole most_script_bytes bytes h.0 new h.1)) h.2 in absurd (omega (arith, more, within))
refused Gives bytes script new rose (no.Bad line c) within spells none h =
    absurd (h.2.none script (subst (λ (b : List ℕ). Spells b script) (whole most_script_bytes bytes h.0 new h.1) spells))
refused Gives bytes script new rose (no.BadImage line) within spells none h = absurd h.2
refused Gives bytes script new rose no.NoMemory within spells none h = refl

-- the output for a report has the status and the report of its run
through : (T : Report → List ℕ → Type 0) (script : Script) (report : Report) (output : Output) → IsOutputOfReport T report output →
    IsRunThrough script (status_of report.end) (Some report) → IsRunThrough script output.status output.report
through T script report output t h = subst (λ (s : Status). IsRunThrough script s output.report) (sym t.status) (subst (λ (r : Option Report).
    IsRunThrough script (status_of report.end) r) (sym t.report_is) h)

-- the answer to a task that runs the script it reads, if the source has such bytes and doesn't fail
script_answer : (T : Report → List ℕ → Type 0) (bytes : List ℕ) (script : Script) (new : Option (List ℕ)) (rose : Type 0) (answer : Answer) →
    length bytes ≤ most_bytes bytes → Spells bytes script → (rose → ⊥) → AnswersWithReport T (AnswersScript IsRan (Some bytes) new rose) answer →
    IsRunThrough script (answer_status answer) (answer_report answer)
script_answer T bytes script new rose (Ok output) within spells none (report, h, t) =
    through T script report output t (of_run bytes script new rose report spells h)
script_answer T bytes script new rose (Err refusal) within spells none h = inl (refused IsRan bytes script new rose refusal within spells none h)

of_words : (arguments : List (List ℕ)) (task : Task) (bytes : List ℕ) (script : Script) (new : Option (List ℕ)) (rose : Type 0) (answer : Answer) →
    Asks arguments task → IsRunning task → length bytes ≤ most_bytes bytes → Spells bytes script → (rose → ⊥) →
    IsAnswer arguments (Some bytes) new rose answer → IsRunThrough script (answer_status answer) (answer_report answer)
of_words arguments Run bytes script new rose answer asks runs within spells none h =
    script_answer IsText bytes script new rose answer within spells none (answered_asked arguments Run (Some bytes) new rose answer asks h)
of_words arguments (Bench batches) bytes script new rose answer asks runs within spells none h = absurd runs
of_words arguments Upgrade bytes script new rose answer asks runs within spells none h = absurd runs
of_words arguments Image bytes script new rose answer asks runs within spells none h =
    script_answer IsImageText bytes script new rose answer within spells none (answered_asked arguments Image (Some bytes) new rose answer asks h)
of_words arguments (Retain name) bytes script new rose answer asks runs within spells none h = absurd runs
of_words arguments (Marks markers) bytes script new rose answer asks runs within spells none h =
    script_answer (IsMarksText markers) bytes script new rose answer within spells none (answered_asked arguments (Marks markers) (Some bytes) new rose answer asks h)

-- the answer to arguments that ask for an upgrade, if the source has such bytes and doesn't fail
upgraded_through : (bytes : List ℕ) (script : Script) (new : Option (List ℕ)) (rose : Type 0) (answer : Answer) → length bytes ≤ most_bytes bytes →
    Spells bytes script → (rose → ⊥) → AnswersScript IsUpgraded (Some bytes) new rose answer → (answer_status answer ≡ NoMemory) ⊎ (answer_status answer ≡ Done)
upgraded_through bytes script new rose (Ok output) within spells none h = inr h.2.2.status
upgraded_through bytes script new rose (Err refusal) within spells none h = inl (refused IsUpgraded bytes script new rose refusal within spells none h)

-- the answer to arguments that ask for a bench
bench_refusal : (batches : ℕ) (refusal : Refusal) → AnswersBench batches (Err refusal) → IsRunThrough (bench_script batches) (refusal_status refusal) None
bench_refusal batches no.Usage h = absurd h
bench_refusal batches no.ReadFault h = absurd h
bench_refusal batches no.TooLong h = absurd h
bench_refusal batches (no.Bad line c) h = absurd h
bench_refusal batches (no.BadImage line) h = absurd h
bench_refusal batches no.NoMemory h = inl refl

bench_answer : (batches : ℕ) (answer : Answer) → AnswersWithReport (IsSummary batches) (AnswersBench batches) answer →
    IsRunThrough (bench_script batches) (answer_status answer) (answer_report answer)
bench_answer batches (Ok output) (report, h, t) =
    through (IsSummary batches) (bench_script batches) report output t (of_end report.end (bench_script batches) report refl h)
bench_answer batches (Err refusal) h = bench_refusal batches refusal h

of_bench : (arguments : List (List ℕ)) (batches : ℕ) (old new : Option (List ℕ)) (rose : Type 0) (answer : Answer) → Asks arguments (Bench batches) →
    IsAnswer arguments old new rose answer → IsRunThrough (bench_script batches) (answer_status answer) (answer_report answer)
of_bench arguments batches old new rose answer asks h = bench_answer batches answer (answered_asked arguments (Bench batches) old new rose answer asks h).1

-- the answer to arguments that ask for a path, if the source has an image's bytes and doesn't fail
retain_answer : (name : Name) (bytes : List ℕ) (image : shown.Image) (new : Option (List ℕ)) (rose : Type 0) (answer : Answer) →
    length bytes ≤ MAX_IMAGE_BYTES → spelling.Spells bytes image → (rose → ⊥) → AnswersRetain name (Some bytes) new rose answer →
    (answer_status answer ≡ NoMemory) ⊎ (answer_status answer ≡ Done)
retain_answer name bytes image new rose (Ok output) within spells none h = inr h.2.status
retain_answer name bytes image new rose (Err no.Usage) within spells none h = absurd h.2
retain_answer name bytes image new rose (Err no.ReadFault) within spells none h = absurd (none h.1)
retain_answer name bytes image new rose (Err no.TooLong) within spells none (inl h) =
    absurd (omega (arith, taken_within bytes new (MAX_IMAGE_BYTES + 1) h, within))
retain_answer name bytes image new rose (Err no.TooLong) within spells none (inr h) = absurd h.2
retain_answer name bytes image new rose (Err (no.Bad line c)) within spells none h = absurd h.2
retain_answer name bytes image new rose (Err (no.BadImage line)) within spells none h =
    absurd (h.2.none image (subst (λ (b : List ℕ). spelling.Spells b image) (whole MAX_IMAGE_BYTES bytes h.0 new h.1) spells))
retain_answer name bytes image new rose (Err no.NoMemory) within spells none h = inl refl

-- without a fault of the sink the status is the answer's
unfailed : (taken taken' : Option (List ℕ)) (rose : Type 0) (reported status : Status) (text : List ℕ) → (rose → ⊥) →
    IsWritten taken taken' rose reported text status → status ≡ reported
unfailed taken taken' rose reported status text none h = elim h [ inl whole ↦ whole.0 | inr front ↦ absurd (none front.1) ]

-- a script within the limit is run through if there is no fault
pub completes : (arguments : List (List ℕ)) (old new taken taken' : Option (List ℕ)) (read_fault write_fault : Type 0) (answer : Answer)
    (status : Status) (report : Option Report) → IsAnswer arguments old new read_fault answer → Ends taken taken' write_fault answer status report →
    IsComplete arguments old read_fault write_fault status report
completes arguments old new taken taken' read_fault write_fault answer status report reported ended = λ bytes script task asks runs left within spells no_read no_write.
    let known : IsAnswer arguments (Some bytes) new read_fault answer = subst (λ (o : Option (List ℕ)). IsAnswer arguments o new read_fault answer) left reported in
    let same : status ≡ answer_status answer = unfailed taken taken' write_fault (answer_status answer) status (answer_text answer) no_write ended.written in
    let through : IsRunThrough script (answer_status answer) (answer_report answer) =
    of_words arguments task bytes script new read_fault answer asks runs within spells no_read known in
    subst (λ (s : Status). IsRunThrough script s report) (sym same) (subst (λ (r : Option Report).
    IsRunThrough script (answer_status answer) r) (sym ended.report_of) through)

-- a bench is run through if the sink doesn't fail
pub bench_completes : (arguments : List (List ℕ)) (old new taken taken' : Option (List ℕ)) (read_fault write_fault : Type 0) (answer : Answer)
    (status : Status) (report : Option Report) → IsAnswer arguments old new read_fault answer → Ends taken taken' write_fault answer status report →
    IsBenchComplete arguments write_fault status report
bench_completes arguments old new taken taken' read_fault write_fault answer status report reported ended = λ batches asks no_write.
    let same : status ≡ answer_status answer = unfailed taken taken' write_fault (answer_status answer) status (answer_text answer) no_write ended.written in
    let through : IsRunThrough (bench_script batches) (answer_status answer) (answer_report answer) =
    of_bench arguments batches old new read_fault answer asks reported in
    subst (λ (s : Status). IsRunThrough (bench_script batches) s report) (sym same) (subst (λ (r : Option Report).
    IsRunThrough (bench_script batches) (answer_status answer) r) (sym ended.report_of) through)

-- a script within the limit is upgraded if there is no fault
pub upgrade_completes : (arguments : List (List ℕ)) (old new taken taken' : Option (List ℕ)) (read_fault write_fault : Type 0) (answer : Answer)
    (status : Status) (report : Option Report) → IsAnswer arguments old new read_fault answer → Ends taken taken' write_fault answer status report →
    IsUpgradeComplete arguments old read_fault write_fault status
upgrade_completes arguments old new taken taken' read_fault write_fault answer status report reported ended = λ bytes script asks left within spells no_read no_write.
    let known : IsAnswer arguments (Some bytes) new read_fault answer = subst (λ (o : Option (List ℕ)). IsAnswer arguments o new read_fault answer) left reported in
    let same : status ≡ answer_status answer = unfailed taken taken' write_fault (answer_status answer) status (answer_text answer) no_write ended.written in
    let through = upgraded_through bytes script new read_fault answer within spells no_read
    (answered_asked arguments Upgrade (Some bytes) new read_fault answer asks known) in
    subst (λ (s : Status). (s ≡ NoMemory) ⊎ (s ≡ Done)) (sym same) through

-- an upgrade has no report
no_report : (old new : Option (List ℕ)) (rose : Type 0) (answer : Answer) → AnswersScript IsUpgraded old new rose answer → answer_report answer ≡ None
no_report old new rose (Ok output) h = h.2.2.none
no_report old new rose (Err refusal) h = refl

refusal_not : (refusal : Refusal) → (refusal_status refusal ≢ HeapFull) × (refusal_status refusal ≢ Done)
refusal_not no.Usage = ((λ e. cc), (λ e. cc))
refusal_not no.ReadFault = ((λ e. cc), (λ e. cc))
refusal_not no.TooLong = ((λ e. cc), (λ e. cc))
refusal_not (no.Bad line c) = ((λ e. cc), (λ e. cc))
refusal_not (no.BadImage line) = ((λ e. cc), (λ e. cc))
refusal_not no.NoMemory = ((λ e. cc), (λ e. cc))

no_full : (old new : Option (List ℕ)) (rose : Type 0) (answer : Answer) → AnswersScript IsUpgraded old new rose answer → answer_status answer ≢ HeapFull
no_full old new rose (Ok output) h = λ e. let same : Done ≡ HeapFull = sym h.2.2.status ∙ e in cc
no_full old new rose (Err refusal) h = (refusal_not refusal).0

-- the text that was written is the spelling of an upgrade
spelled : (old new taken taken' : Option (List ℕ)) (rose : Type 0) (answer : Answer) → AnswersScript IsUpgraded old new rose answer →
    answer_status answer ≡ Done → Appends taken taken' (answer_text answer) → (bytes : List ℕ) × IsRead old new bytes × (script : Script) ×
    SpellsOnly bytes script × Appends taken taken' (plain (upgraded script))
spelled old new taken taken' rose (Ok output) h done text = (h.0, h.1, h.2.0, h.2.1, subst (λ (b : List ℕ). Appends taken taken' b) h.2.2.text text)
spelled old new taken taken' rose (Err refusal) h done text = absurd ((refusal_not refusal).1 done)

pub upgrades : (arguments : List (List ℕ)) (old new taken taken' : Option (List ℕ)) (read_fault write_fault : Type 0) (answer : Answer)
    (status : Status) (report : Option Report) → IsAnswer arguments old new read_fault answer → Ends taken taken' write_fault answer status report →
    IsUpgrade arguments old new taken taken' status report
upgrades arguments old new taken taken' read_fault write_fault answer status report reported ended = λ asks.
    let h : AnswersScript IsUpgraded old new read_fault answer = answered_asked arguments Upgrade old new read_fault answer asks reported in (
      ended.report_of ∙ no_report old new read_fault answer h,
      (λ full. elim ended.written [
        | inl whole ↦ no_full old new read_fault answer h (sym whole.0 ∙ full)
        | inr front ↦
            let e : WriteFault ≡ HeapFull = sym front.0 ∙ full in cc
      ]),
      (λ done. elim ended.written [
        | inl whole ↦ spelled old new taken taken' read_fault answer h (sym whole.0 ∙ done) whole.1
        | inr front ↦
            let e : WriteFault ≡ Done = sym front.0 ∙ done in absurd cc
      ]),
    )

-- a path has no report
path_no_report : (name : Name) (old new : Option (List ℕ)) (rose : Type 0) (answer : Answer) → AnswersRetain name old new rose answer →
    answer_report answer ≡ None
path_no_report name old new rose (Ok output) h = h.2.none
path_no_report name old new rose (Err refusal) h = refl

path_no_full : (name : Name) (old new : Option (List ℕ)) (rose : Type 0) (answer : Answer) → AnswersRetain name old new rose answer →
    answer_status answer ≢ HeapFull
path_no_full name old new rose (Ok output) h = λ e. let same : Done ≡ HeapFull = sym h.2.status ∙ e in cc
path_no_full name old new rose (Err refusal) h = (refusal_not refusal).0

-- the text that was written is the text of a right answer
path_text : (name : Name) (old new taken taken' : Option (List ℕ)) (rose : Type 0) (answer : Answer) → AnswersRetain name old new rose answer →
    answer_status answer ≡ Done → Appends taken taken' (answer_text answer) → (bytes : List ℕ) × IsReadWithin MAX_IMAGE_BYTES old new bytes ×
    (image : shown.Image) × spelling.Spells bytes image × (found : Retained) × IsRight image name found × Appends taken taken' (retained_text found)
path_text name old new taken taken' rose (Ok output) h done text = (
  h.0,
  h.1,
  h.2.image,
  h.2.spells,
  h.2.answer,
  h.2.right,
  subst (λ (b : List ℕ). Appends taken taken' b) h.2.text text,
)
path_text name old new taken taken' rose (Err refusal) h done text = absurd ((refusal_not refusal).1 done)

pub paths : (arguments : List (List ℕ)) (old new taken taken' : Option (List ℕ)) (read_fault write_fault : Type 0) (answer : Answer) (status : Status)
    (report : Option Report) → IsAnswer arguments old new read_fault answer → Ends taken taken' write_fault answer status report →
    IsPath arguments old new taken taken' status report
paths arguments old new taken taken' read_fault write_fault answer status report reported ended = λ name asks.
    let h : AnswersRetain name old new read_fault answer = answered_asked arguments (Retain name) old new read_fault answer asks reported in (
      ended.report_of ∙ path_no_report name old new read_fault answer h,
      (λ full. elim ended.written [
        | inl whole ↦ path_no_full name old new read_fault answer h (sym whole.0 ∙ full)
        | inr front ↦
            let e : WriteFault ≡ HeapFull = sym front.0 ∙ full in cc
      ]),
      (λ done. elim ended.written [
        | inl whole ↦ path_text name old new taken taken' read_fault answer h (sym whole.0 ∙ done) whole.1
        | inr front ↦
            let e : WriteFault ≡ Done = sym front.0 ∙ done in absurd cc
      ]),
    )

-- a path is answered if there is no fault
pub retain_completes : (arguments : List (List ℕ)) (old new taken taken' : Option (List ℕ)) (read_fault write_fault : Type 0) (answer : Answer)
    (status : Status) (report : Option Report) → IsAnswer arguments old new read_fault answer → Ends taken taken' write_fault answer status report →
    IsRetainComplete arguments old read_fault write_fault status
retain_completes arguments old new taken taken' read_fault write_fault answer status report reported ended =
    λ name bytes image asks left within spells no_read no_write.
    let known : IsAnswer arguments (Some bytes) new read_fault answer = subst (λ (o : Option (List ℕ)). IsAnswer arguments o new read_fault answer) left reported in
    let same : status ≡ answer_status answer = unfailed taken taken' write_fault (answer_status answer) status (answer_text answer) no_write ended.written in
    let is = retain_answer name bytes image new read_fault answer within spells no_read
    (answered_asked arguments (Retain name) (Some bytes) new read_fault answer asks known) in
    subst (λ (s : Status). (s ≡ NoMemory) ⊎ (s ≡ Done)) (sym same) is
