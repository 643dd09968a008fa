-- A trace that is read line by line: the lines read so far are the lines that the bytes say, with the progress after them.
use Rattle.std.proofs.lemmas.List.{take_at}
use Rattle.nmgc_trace_checker.proofs.Vocabulary.{AreFields, AreFieldsHeard, IsHeard, HasTried, IsNoted, IsSinceIn, AreLinesOf, AreMarkedLines, IsFault, IsFaultAfter, IsHeardUpTo, IsMarked, IsMarkedOf, IsOutcome, IsSince, IsTextAt, IsTooLong, IsWatchedBy, happened_of, is_refused, is_refused_there, no_counts, ok_to, oks, with_line, with_lines, Comes, EndsAtLine, report_of, AreSaid, IsNextLine, Says, SaysLine, ahead, texts_of, IsVerdictAfter, refusal_of, Line, Progress, TraceFault, Begun, Refusal, Report, Answer, DueLine, TraceChecker, Counts, Meaning, Verdict, AppendsFront, nothing, head_of, Bool, Err, List, None, Ok, Option, Result, Some, [], ap, append_assoc, arith, codes, false, inl, inr, length, refl, string_bytes, subst, sym, take, true, ℕ, ◌++◌, ◌+◌, ◌-◌, ◌^◌, ◌∙◌, ◌∷◌, ◌≡◌, ◌≤◌, and_parts, false≢true, flat_map_more, length-append, bytes_eq-Decides, Appends, option_map, strip_last, Contains, IfErr, IfSome, IsErrAnd, ◌&&◌, bytes_eq}
use Rattle.nmgc_trace_checker.specs.{Notes.AreKept, Notes.HasLine, Notes.IsOwedIn, Notes.IsTextOf, Outcomes.IsWatched, Reports.AddsOf, Reports.ComeDue, Reports.Happens, Reports.IsRefusal}
use Rattle.nmgc_field_reader.specs.{declared.report.FieldAnswer.FieldAnswer}
use Rattle.nmgc_field_reader.specs.FieldTraces.{is_refused as is_refused_field}
use Rattle.nmgc_barrier_checker.specs.declared.event.Why.TheVariants as why
use Rattle.nmgc_trace_checker.specs.declared.report.Refusal.TheVariants as refusal
use Rattle.nmgc_trace_checker.proofs.Owing.{of_line}
use Rattle.nmgc_barrier_checker.specs.declared.watch.Watch.TheVariants as watch
use Rattle.nmgc_trace_checker.specs.declared.line.Line.TheVariants as line
use Rattle.nmgc_trace_checker.specs.declared.progress.Progress.TheVariants as progress
use Rattle.nmgc_trace_checker.specs.declared.meaning.Meaning.TheVariants as meaning
use Rattle.nmgc_trace_checker.specs.declared.report.Begun.TheVariants as begun
use Rattle.nmgc_trace_checker.specs.declared.report.Report.TheVariants as report
use Rattle.nmgc_trace_checker.specs.declared.reading.Outcome.TheVariants as outcome
use Rattle.nmgc_trace_checker.specs.declared.reading.TraceFault.TheVariants as fault
use Rattle.nmgc_trace_checker.specs.Trace as trace
use Rattle.nmgc_trace_checker.proofs.{Appended.appends_nothing, Kepts.refusal_shows, Kepts.lists_kept, Wholes.whole_report}
use Rattle.nmgc_trace_checker.proofs.Checkings as checkings
use Rattle.nmgc_trace_checker.proofs.TraceLaws as traces

-- the next text says one more line
said_more : {A : Type 0} (says : List ℕ → A → Type 0) (texts : List (List ℕ)) (lines : List A) (text : List ℕ) (left : List (List ℕ)) (l : A) →
    AreSaid says texts lines (text ∷ left) → says text l → AreSaid says texts (lines ++ l ∷ []) left
said_more says texts [] text left l is s = subst (λ (ts : List (List ℕ)). AreSaid says ts (l ∷ []) left) (sym is) (s, refl)
said_more says [] (x ∷ xs) text left l is s = absurd is
said_more says (t ∷ ts) (x ∷ xs) text left l is s = (is.0, said_more says ts xs text left l is.1 s)

-- texts say no more lines than there are texts
said_within : {A : Type 0} (says : List ℕ → A → Type 0) (texts : List (List ℕ)) (lines : List A) (left : List (List ℕ)) → AreSaid says texts lines left →
    length lines ≤ length texts
said_within says texts [] left is = omega arith
said_within says [] (x ∷ xs) left is = absurd is
said_within says (t ∷ ts) (x ∷ xs) left is = let rest : length xs ≤ length ts = said_within says ts xs left is.1 in omega arith

-- FORMAT 2

-- the texts of the lines that were read, if the bytes are known, and these bytes are left
abbrev pub Front : Option (List ℕ) → List (List ℕ) → Option (List ℕ) → Type 0
Front known texts now = IfSome known (λ all. (rest : List ℕ) × (now ≡ Some rest) × (texts_of all ≡ texts ++ texts_of rest))

-- some lines were read after the head, each can happen, and the next line has this number. They have these answers, and the
-- checker has their counts and kept texts
pub record SoFar (known : Option (List ℕ)) (is_asked : Bool) (n : ℕ) (checker : TraceChecker) (now : Option (List ℕ)) (said : List ℕ) : Type 0 where
  pub texts : List (List ℕ)
  pub front : Front known texts now
  pub lines : List Meaning
  pub says : AreSaid Says texts lines []
  pub count : n ≡ 2 + length lines
  pub comes : Comes 1 begun.Nothing (meaning.Blank ∷ lines) checker.begun
  pub said_is : said ≡ oks is_asked texts
  pub counts_are : checker.counts ≡ with_lines no_counts lines
  pub dues_are : ComeDue 1 begun.Nothing (meaning.Blank ∷ lines) 0 checker.begun checker.dues
  pub kept : (line : DueLine) → Contains checker.due_lines.items line → IsTextAt texts line.number (string_bytes line.text)
  pub debts : AreKept checker.begun checker.due_lines.items

-- the lines so far, and their answers as a sink took them; its count of faults didn't fall
pub record Answered (known : Option (List ℕ)) (is_asked : Bool) (n : ℕ) (checker : TraceChecker) (now a b : Option (List ℕ)) (before after : ℕ) : Type 0 where
  pub said : List ℕ
  pub written : Appends a b said
  pub so_far : SoFar known is_asked n checker now said
  pub later : before ≤ after

pub no_front : (known : Option (List ℕ)) → Front known [] known
no_front None = tt
no_front (Some all) = (all, refl, refl)

pub after_the_head : (known : Option (List ℕ)) (is_asked : Bool) (checker : TraceChecker) (a : Option (List ℕ)) (before : ℕ) →
    checker.begun ≡ begun.Nothing → checker.counts ≡ no_counts → checker.dues ≡ 0 → checker.due_lines.items ≡ [] → Answered known is_asked 2 checker known a a before before
after_the_head known is_asked checker a before begins counts dues none = record {
  said = [];
  written = appends_nothing a;
  so_far = record {
    texts = [];
    front = no_front known;
    lines = [];
    says = refl;
    count = refl;
    comes = (begun.Nothing, refl, begins);
    said_is = refl;
    counts_are = counts;
    dues_are = (begun.Nothing, 0, refl, refl, (begins, dues));
    kept = λ line is. absurd (nothing line (subst (λ (ls : List DueLine). Contains ls line) none is));
    debts = λ debt o. absurd (subst (λ (p : Begun). IsOwedIn p debt) begins o);
  };
  later = omega arith;
}

not_nil : (x : List ℕ) (xs : List (List ℕ)) → x ∷ xs ≡ [] → ⊥
not_nil x xs e = cc

-- one more text says one more line
said_push : (texts : List (List ℕ)) (lines : List Meaning) (text : List ℕ) (l : Meaning) → AreSaid Says texts lines [] → Says text l →
    AreSaid Says (texts ++ text ∷ []) (lines ++ l ∷ []) []
said_push [] [] text l is s = (s, refl)
said_push (x ∷ xs) [] text l is s = absurd (not_nil x xs is)
said_push [] (y ∷ ys) text l is s = absurd is
said_push (x ∷ xs) (y ∷ ys) text l is s = (is.0, said_push xs ys text l is.1 s)

-- the numbers of texts and lines are equal
said_length : (texts : List (List ℕ)) (lines : List Meaning) → AreSaid Says texts lines [] → length texts ≡ length lines
said_length [] [] is = refl
said_length (x ∷ xs) [] is = absurd (not_nil x xs is)
said_length [] (y ∷ ys) is = absurd is
said_length (x ∷ xs) (y ∷ ys) is = let rest : length xs ≡ length ys = said_length xs ys is.1 in omega arith

-- the next text was read
pub front_on : (known now next : Option (List ℕ)) (texts : List (List ℕ)) (read line : List ℕ) → Front known texts now → IsNextLine now next read true →
    line ≡ strip_last 13 (strip_last 10 read) → Front known (texts ++ line ∷ []) next
front_on None now next texts read line r is cut = tt
front_on (Some all) now next texts read line r is cut =
    let l : (rest : List ℕ) × (next ≡ Some rest) × (texts_of r.0 ≡ ahead true read rest) =
    subst (λ (o : Option (List ℕ)). IsNextLine o next read true) r.1 is in (
      l.0,
      l.1,
      r.2 ∙ ap (λ (ts : List (List ℕ)). texts ++ ts) (l.2 ∙ ap (λ (t : List ℕ). t ∷ texts_of l.0) (sym cut)) ∙
          sym (append_assoc texts (line ∷ []) (texts_of l.0)),
    )

-- the first lines, if more may follow
pub lines_so_far : (known now : Option (List ℕ)) (texts : List (List ℕ)) → Front known texts now → AreLinesOf known texts true
lines_so_far None now texts r = tt
lines_so_far (Some all) now texts r = (texts_of r.0, r.2, λ never. absurd (false≢true (sym never)))

-- all lines
pub all_lines : (known now next : Option (List ℕ)) (texts : List (List ℕ)) (read : List ℕ) (refused : Bool) → Front known texts now →
    IsNextLine now next read false → AreLinesOf known texts refused
all_lines None now next texts read refused r is = tt
all_lines (Some all) now next texts read refused r is =
    let l : (rest : List ℕ) × (next ≡ Some rest) × (texts_of r.0 ≡ []) = subst (λ (o : Option (List ℕ)). IsNextLine o next read false) r.1 is in
    (texts_of r.0, r.2, λ fine. l.2)

-- one more line is counted
with_lines_push : (c : Counts) (ts : List Meaning) (t : Meaning) → with_lines c (ts ++ t ∷ []) ≡ with_line (with_lines c ts) t
with_lines_push c [] t = refl
with_lines_push c (x ∷ xs) t = with_lines_push (with_line c x) xs t

-- a text that was kept before is still the text of its line, and a text kept now is the text of this line
kept_more : (texts : List (List ℕ)) (text : List ℕ) (n : ℕ) (old new : List DueLine) → n ≡ length texts + 2 →
    ((line : DueLine) → Contains old line → IsTextAt texts line.number (string_bytes line.text)) → IsNoted n text old new →
    (line : DueLine) → Contains new line → IsTextAt (texts ++ text ∷ []) line.number (string_bytes line.text)
kept_more texts text n old new count were kept line is = elim (kept line is) [
  | inl before ↦
      let w : IsTextAt texts line.number (string_bytes line.text) = were line before in
      (w.0, w.1 ++ text ∷ [], ap (λ (ts : List (List ℕ)). ts ++ text ∷ []) w.2 ∙ append_assoc w.0 (string_bytes line.text ∷ w.1) (text ∷ []), w.3)
  | inr now ↦ (texts, [], ap (λ (t : List ℕ). texts ++ t ∷ []) (sym now.1), now.0 ∙ count)
]

-- a text kept for a debt is the text of its line, and it was kept
text_of : (texts : List (List ℕ)) (kept : List DueLine) (n : ℕ) (since : Option (List ℕ)) →
    ((line : DueLine) → Contains kept line → IsTextAt texts line.number (string_bytes line.text)) → HasLine kept n → IsTextOf kept n since →
    (text : List ℕ) × (since ≡ Some text) × IsTextAt texts n text
text_of texts kept n None are has is = absurd (is has)
text_of texts kept n (Some text) are has is =
    let k : IsTextAt texts is.0.number (string_bytes is.0.text) = are is.0 is.1 in
    (text, refl, (k.0, k.1, k.2 ∙ ap (λ (t : List ℕ). k.0 ++ t ∷ k.1) (sym is.3), sym is.2 ∙ k.3))

since_in : (texts : List (List ℕ)) (n : ℕ) (kept : List DueLine) (p : Begun) (t : Meaning) (r : Refusal) (since : Option (List ℕ)) →
    ((line : DueLine) → Contains kept line → IsTextAt texts line.number (string_bytes line.text)) → AreKept p kept → IsRefusal p t r →
    IsSinceIn kept r since → IsSince texts (report.Refused n r) since
since_in texts n kept p t (refusal.Event (why.Due debt)) since are debts fact is =
    text_of texts kept debt.line since are (debts debt (of_line debt p t fact)) is
since_in texts n kept p t (refusal.Event y) since are debts fact is = is
since_in texts n kept p t refusal.Unknown since are debts fact is = is
since_in texts n kept p t refusal.Misplaced since are debts fact is = is

-- one more line at the end, with the count of dues
due_push : (n : ℕ) (p q r : Begun) (ts : List Meaning) (t : Meaning) (k before between after : ℕ) → k ≡ n + length ts → ComeDue n p ts before q between →
    Happens k q t r → AddsOf k q t between after → ComeDue n p (ts ++ t ∷ []) before r after
due_push n p q r [] t k before between after e c can adds =
    let is : k ≡ n = omega arith in
    let happens : Happens n p t r = subst (λ (b : Begun). Happens n b t r) c.0 (subst (λ (j : ℕ). Happens j q t r) is can) in
    let here : AddsOf n p t between after = subst (λ (b : Begun). AddsOf n b t between after) c.0 (subst (λ (j : ℕ). AddsOf j q t between after) is adds) in
    (r, after, happens, subst (λ (i : ℕ). AddsOf n p t i after) c.1 here, (refl, refl))
due_push n p q r (x ∷ ts) t k before between after e c can adds =
    (c.0, c.1, c.2, c.3, due_push (n + 1) c.0 q r ts t k c.1 between after (omega arith) c.4 can adds)

-- one more line was read and tried
module _ (known now next : Option (List ℕ)) (is_asked there : Bool) (n : ℕ) (old new : TraceChecker) (said read line : List ℕ)
    (s : SoFar known is_asked n old now said) (here : there ≡ true) (is : IsNextLine now next read there)
    (cut : line ≡ strip_last 13 (strip_last 10 read)) where
  front_more : Front known (s.texts ++ line ∷ []) next
  front_more = front_on known now next s.texts read line s.front (subst (IsNextLine now next read) here is) cut

  kept_all : (refused : Option Refusal) → HasTried n line old refused new → (l : DueLine) → Contains new.due_lines.items l →
      IsTextAt (s.texts ++ line ∷ []) l.number (string_bytes l.text)
  kept_all refused h =
      let as_many : length s.texts ≡ length s.lines = said_length s.texts s.lines s.says in
      kept_more s.texts line n old.due_lines.items new.due_lines.items (let c = s.count in omega (arith, as_many)) s.kept h.noted

  pub one_more : (refused : Option Refusal) → refused ≡ None → HasTried n line old refused new →
      SoFar known is_asked (n + 1) new next (said ++ ok_to is_asked line)
  one_more refused none tried =
      let h : HasTried n line old None new = subst (λ (o : Option Refusal). HasTried n line old o new) none tried in
      let more : length (s.lines ++ h.line ∷ []) ≡ length s.lines + 1 = length-append s.lines (h.line ∷ []) in
      record {
        texts = s.texts ++ line ∷ [];
        front = front_more;
        lines = s.lines ++ h.line ∷ [];
        says = said_push s.texts s.lines line h.line s.says h.says;
        count = (let c = s.count in omega arith);
        comes = checkings.comes_push 1 begun.Nothing old.begun new.begun (meaning.Blank ∷ s.lines) h.line n (let c = s.count in omega arith) s.comes h.happens;
        said_is = ap (λ (l : List ℕ). l ++ ok_to is_asked line) s.said_is ∙ flat_map_more (ok_to is_asked) [] s.texts line;
        counts_are = h.counts_are ∙ ap (λ (c : Counts). with_line c h.line) s.counts_are ∙ sym (with_lines_push no_counts s.lines h.line);
        dues_are = due_push 1 begun.Nothing old.begun new.begun (meaning.Blank ∷ s.lines) h.line n 0 old.dues new.dues (let c = s.count in omega arith)
            s.dues_are h.happens h.dues_are;
        kept = kept_all None h;
        debts = h.kept s.debts;
      }

  pub known_refused : (refused : Option Refusal) (because : Refusal) (r : Report) (counts : Counts) (dues : ℕ) (since : Option (List ℕ)) →
      refused ≡ Some because → HasTried n line old refused new → r ≡ report.Refused n because → counts ≡ new.counts → dues ≡ new.dues →
      IsSinceIn new.due_lines.items because since → IsWatched [] known is_asked said r counts dues since
  known_refused refused because r counts dues since some tried known_is same dues_same beside =
      let h : HasTried n line old (Some because) new = subst (λ (o : Option Refusal). HasTried n line old o new) some tried in
      let as_many : length s.texts ≡ length s.lines = said_length s.texts s.lines s.says in
      let texts : List (List ℕ) = s.texts ++ line ∷ [] in
      let first : take (n - 2) texts ≡ s.texts = take_at s.texts (line ∷ []) (n - 2) (let c = s.count in omega (arith, as_many)) in
      let before : take (n - 2) (s.lines ++ h.line ∷ []) ≡ s.lines = take_at s.lines (h.line ∷ []) (n - 2) (let c = s.count in omega arith) in
      let ends : EndsAtLine (meaning.Blank ∷ (s.lines ++ h.line ∷ [])) n because = record {
        earlier = meaning.Blank ∷ s.lines;
        line = h.line;
        later = [];
        lines_are = refl;
        number = (let c = s.count in omega arith);
        before = old.begun;
        comes = s.comes;
        refused = h.happens;
      } in
      let by : IsWatchedBy texts is_asked said (report.Refused n because) counts dues since = record {
        lines = s.lines ++ h.line ∷ [];
        says = said_push s.texts s.lines line h.line s.says h.says;
        report_is = ends;
        whole = tt;
        said_is = s.said_is ∙ ap (oks is_asked) (sym first);
        counts_are = same ∙ h.counts_are ∙ s.counts_are ∙ ap (with_lines no_counts) (sym before);
        last = old.begun;
        dues_are = subst (λ (ls : List Meaning). ComeDue 1 begun.Nothing (meaning.Blank ∷ ls) 0 old.begun dues) (sym before)
            (subst (λ (i : ℕ). ComeDue 1 begun.Nothing (meaning.Blank ∷ s.lines) 0 old.begun i) (sym (dues_same ∙ h.dues_are)) s.dues_are);
        since_is = since_in texts n new.due_lines.items old.begun h.line because since (kept_all (Some because) h) (h.kept s.debts) h.happens beside;
      } in
      subst (λ (x : Report). IsWatched [] known is_asked said x counts dues since) (sym known_is) (texts, lines_so_far known next texts front_more, by)

-- no line was refused
none_refused : {A : Type 0} (p : Begun) (r : Report) (lines : List A) → r ≡ report_of p → happened_of r lines ≡ lines
none_refused p r lines e = ap (λ (x : Report). happened_of x lines) e ∙ by_state p
  where
    by_state : (q : Begun) → happened_of (report_of q) lines ≡ lines
    by_state begun.Nothing = refl
    by_state (begun.Watching (watch.Between w)) = refl
    by_state q = refl

none_since : (texts : List (List ℕ)) (p : Begun) (r : Report) (since : Option (List ℕ)) → r ≡ report_of p → since ≡ None → IsSince texts r since
none_since texts p r since e none = subst (λ (x : Report). IsSince texts x since) (sym e) (by_state p)
  where
    by_state : (q : Begun) → IsSince texts (report_of q) since
    by_state begun.Nothing = none
    by_state (begun.Watching (watch.Between w)) = none
    by_state (begun.Watching (watch.Marking h)) = none
    by_state (begun.Watching (watch.Ended left)) = none
    by_state (begun.Watching watch.Stopped) = none

module _ (known now : Option (List ℕ)) (is_asked : Bool) (n : ℕ) (checker : TraceChecker) (said : List ℕ) (s : SoFar known is_asked n checker now said) where
  pub heard_up_to : IsHeardUpTo [] known is_asked said
  heard_up_to = inr (
    s.texts,
    lines_so_far known now s.texts s.front,
    record { lines = s.lines; says = s.says; last = checker.begun; comes = s.comes; said_is = s.said_is },
  )

  pub known_ended : (next : Option (List ℕ)) (there : Bool) (read : List ℕ) (answer : Answer) → there ≡ false → IsNextLine now next read there →
      answer.report ≡ report_of checker.begun → answer.counts ≡ checker.counts → answer.dues ≡ checker.dues → answer.since ≡ None →
      IsWatched [] known is_asked said answer.report answer.counts answer.dues (option_map string_bytes answer.since)
  known_ended next there read answer over is known_is same dues_same none = (
    s.texts,
    all_lines known now next s.texts read (is_refused answer.report) s.front (subst (IsNextLine now next read) over is),
    record {
      lines = s.lines;
      says = s.says;
      report_is = checkings.ends_well (meaning.Blank ∷ s.lines) checker.begun answer.report s.comes known_is;
      whole = whole_report (meaning.Blank ∷ s.lines) checker.begun answer.report s.comes known_is;
      said_is = s.said_is ∙ ap (oks is_asked) (sym (none_refused checker.begun answer.report s.texts known_is));
      counts_are = same ∙ s.counts_are ∙ ap (with_lines no_counts) (sym (none_refused checker.begun answer.report s.lines known_is));
      last = checker.begun;
      dues_are = subst (λ (ls : List Meaning). ComeDue 1 begun.Nothing (meaning.Blank ∷ ls) 0 checker.begun answer.dues)
          (sym (none_refused checker.begun answer.report s.lines known_is))
          (subst (λ (i : ℕ). ComeDue 1 begun.Nothing (meaning.Blank ∷ s.lines) 0 checker.begun i) (sym dues_same) s.dues_are);
      since_is = none_since s.texts checker.begun answer.report (option_map string_bytes answer.since) known_is (ap (option_map string_bytes) none);
    },
  )

-- all numbers are used up: with the head there are that many lines
pub watched_too_long : (known now : Option (List ℕ)) (head : List ℕ) (is_asked : Bool) (n : ℕ) (checker : TraceChecker) (said : List ℕ) →
    SoFar known is_asked n checker now said → 2 ^ 64 - 1 ≤ n → IsTooLong (ahead true head) known
watched_too_long None now head is_asked n checker said s last = tt
watched_too_long (Some all) now head is_asked n checker said s last =
    let read : (rest : List ℕ) × (now ≡ Some rest) × (texts_of all ≡ s.texts ++ texts_of rest) = s.front in
    let parts : length (texts_of all) ≡ length s.texts + length (texts_of read.0) =
    ap (λ (ts : List (List ℕ)). length ts) read.2 ∙ length-append s.texts (texts_of read.0) in
    let as_many : length s.texts ≡ length s.lines = said_length s.texts s.lines s.says in
    let c : n ≡ 2 + length s.lines = s.count in
    let long : 2 ^ 64 - 2 ≤ length (strip_last 13 (strip_last 10 head) ∷ texts_of all) = omega arith in
    long

-- FORMAT 1

-- these lines were judged, of a line and the known bytes after it; if reading goes on, this line was read, and not yet judged
abbrev Judged : Option (List ℕ) → Bool → List ℕ → List Line → Option (List ℕ) → Bool → List ℕ → Type 0
Judged known is_there first lines now goes_on text = IfSome known (λ all. (rest : List ℕ) × (now ≡ Some rest) ×
    AreSaid SaysLine (ahead is_there first all) lines (ahead goes_on text rest))

pub record Reached (known : Option (List ℕ)) (is_there : Bool) (first : List ℕ) (n : ℕ) (p : Progress) (now : Option (List ℕ)) (goes_on : Bool)
    (text : List ℕ) : Type 0 where
  pub lines : List Line
  pub count : n ≡ 1 + length lines
  pub comes : trace.Comes progress.Nothing lines p
  pub judged : Judged known is_there first lines now goes_on text

nothing_judged : (known : Option (List ℕ)) (is_there : Bool) (first : List ℕ) → Judged known is_there first [] known is_there first
nothing_judged None is_there first = tt
nothing_judged (Some all) is_there first = (all, refl, refl)

pub nothing_read : (known : Option (List ℕ)) (is_there : Bool) (first : List ℕ) → Reached known is_there first 1 progress.Nothing known is_there first
nothing_read known is_there first = record { lines = []; count = refl; comes = refl; judged = nothing_judged known is_there first }

-- the line that was read is judged
judge_on : (known : Option (List ℕ)) (is_there : Bool) (first : List ℕ) (lines : List Line) (now : Option (List ℕ)) (goes_on : Bool) (text : List ℕ)
    (l : Line) →
    goes_on ≡ true → Judged known is_there first lines now goes_on text → SaysLine (strip_last 13 (strip_last 10 text)) l →
    IfSome known (λ all. (rest : List ℕ) × (now ≡ Some rest) × AreSaid SaysLine (ahead is_there first all) (lines ++ l ∷ []) (texts_of rest))
judge_on None is_there first lines now goes_on text l here j s = tt
judge_on (Some all) is_there first lines now goes_on text l here j s = (
  j.0,
  j.1,
  said_more SaysLine (ahead is_there first all) lines (strip_last 13 (strip_last 10 text)) (texts_of j.0) l
      (rw here at j.2) s,
)

-- after that the next line is read
read_next : (known : Option (List ℕ)) (is_there : Bool) (first : List ℕ) (lines : List Line) (now next : Option (List ℕ)) (after : Bool) (text : List ℕ) →
    IfSome known (λ all. (rest : List ℕ) × (now ≡ Some rest) × AreSaid SaysLine (ahead is_there first all) lines (texts_of rest)) →
    IsNextLine now next text after → Judged known is_there first lines next after text
read_next None is_there first lines now next after text j is = tt
read_next (Some all) is_there first lines now next after text j is =
    let l : (rest : List ℕ) × (next ≡ Some rest) × (texts_of j.0 ≡ ahead after text rest) =
    subst (λ (o : Option (List ℕ)). IsNextLine o next text after) j.1 is in
    (l.0, l.1, subst (AreSaid SaysLine (ahead is_there first all) lines) l.2 j.2)

module _ (known : Option (List ℕ)) (is_there : Bool) (first : List ℕ) (n : ℕ) (p : Progress) (now : Option (List ℕ)) (goes_on : Bool) (text : List ℕ)
    (s : Reached known is_there first n p now goes_on text) where
  pub reached_more : (next : Option (List ℕ)) (reached : Progress) (after : Bool) (read : List ℕ) (l : Line) → goes_on ≡ true →
      SaysLine (strip_last 13 (strip_last 10 text)) l → trace.Can p l reached → IsNextLine now next read after →
      Reached known is_there first (n + 1) reached next after read
  reached_more next reached after read l here says can is =
      let more : length (s.lines ++ l ∷ []) ≡ length s.lines + 1 = length-append s.lines (l ∷ []) in
      record {
        lines = s.lines ++ l ∷ [];
        count = (let c = s.count in omega arith);
        comes = traces.comes_push progress.Nothing p reached s.lines l s.comes can;
        judged = read_next known is_there first (s.lines ++ l ∷ []) now next after read
            (judge_on known is_there first s.lines now goes_on text l here s.judged says) is;
      }

  is_refused_line : (l : Line) (k : ℕ) → is_refused_there (refusal_of l k) ≡ true
  is_refused_line line.Blank k = refl
  is_refused_line _ k = refl

  judged_up_to : (o : Option (List ℕ)) (lines : List Line) (l : Line) (v : Verdict) → v ≡ refusal_of l n →
      IfSome o (λ all. (rest : List ℕ) × (now ≡ Some rest) × AreSaid SaysLine (ahead is_there first all) lines (texts_of rest)) →
      IfSome o (λ all. AreMarkedLines (ahead is_there first all) lines v)
  judged_up_to None lines l v is j = tt
  judged_up_to (Some all) lines l v is j = record {
    left = texts_of j.0;
    said = j.2;
    all = λ never. absurd (false≢true (sym never ∙ (ap is_refused_there is ∙ is_refused_line l n)));
  }

  pub judged_refused : (l : Line) (v : Verdict) → goes_on ≡ true → SaysLine (strip_last 13 (strip_last 10 text)) l → trace.IsNext p l None →
      v ≡ refusal_of l n → IsMarked known is_there first v
  judged_refused l v here says cannot is =
      let number : length s.lines + 1 ≡ n = (let c = s.count in omega arith) in
      let said : v ≡ refusal_of l (length s.lines + 1) = is ∙ ap (refusal_of l) (sym number) in (
        s.lines ++ l ∷ [],
        judged_up_to known (s.lines ++ l ∷ []) l v is (judge_on known is_there first s.lines now goes_on text l here s.judged says),
        traces.ends_here s.lines l p v s.comes cannot said,
        refusal_shows (s.lines ++ l ∷ []) l n v is,
      )

  judged_all : (o : Option (List ℕ)) (v : Verdict) → goes_on ≡ false → Judged o is_there first s.lines now goes_on text →
      IfSome o (λ all. AreMarkedLines (ahead is_there first all) s.lines v)
  judged_all None v over j = tt
  judged_all (Some all) v over j = record {
    left = [];
    said = subst (λ (b : Bool). AreSaid SaysLine (ahead is_there first all) s.lines (ahead b text j.0)) over j.2;
    all = λ fine. refl;
  }

  pub judged_ended : (v : Verdict) → goes_on ≡ false → IsVerdictAfter p v → IsMarked known is_there first v
  judged_ended v over is = (
    s.lines,
    judged_all known v over s.judged,
    traces.ends_well s.lines p v s.comes is,
    lists_kept s.lines p v s.comes is,
  )

-- all numbers are used up: there are that many lines
pub marked_too_long : (known : Option (List ℕ)) (is_there : Bool) (first : List ℕ) (n : ℕ) (p : Progress) (now : Option (List ℕ)) (goes_on : Bool)
    (text : List ℕ) → Reached known is_there first n p now goes_on text → 2 ^ 64 - 1 ≤ n → IsTooLong (ahead is_there first) known
marked_too_long None is_there first n p now goes_on text s last = tt
marked_too_long (Some all) is_there first n p now goes_on text s last =
    let read : (rest : List ℕ) × (now ≡ Some rest) × AreSaid SaysLine (ahead is_there first all) s.lines (ahead goes_on text rest) = s.judged in
    let within : length s.lines ≤ length (ahead is_there first all) =
    said_within SaysLine (ahead is_there first all) s.lines (ahead goes_on text read.0) read.2 in
    let c : n ≡ 1 + length s.lines = s.count in
    let long : 2 ^ 64 - 2 ≤ length (ahead is_there first all) = omega arith in
    long

-- THE FORMAT

-- the first line is this head
abbrev pub IsHead : Bool → List ℕ → List ℕ → Type 0
IsHead is_there line head = (is_there && bytes_eq (strip_last 13 (strip_last 10 line)) head) ≡ true

-- the first line, if there is one, isn't this head
abbrev pub IsNoHead : Bool → List ℕ → List ℕ → Type 0
IsNoHead is_there line head = (is_there && bytes_eq (strip_last 13 (strip_last 10 line)) head) ≡ false

-- the lines after the head are all lines after it
after_head : (head : List ℕ) (old now : Option (List ℕ)) (is_there : Bool) (line : List ℕ) (texts : List (List ℕ)) (refused : Bool) →
    IsNextLine old now line is_there → IsHead is_there line head → AreLinesOf now texts refused → AreLinesOf old (head ∷ texts) refused
after_head head None now is_there line texts refused is e h = tt
after_head head (Some bytes) now is_there line texts refused is e h =
    let p : (is_there ≡ true) × (bytes_eq (strip_last 13 (strip_last 10 line)) head ≡ true) =
    and_parts is_there (bytes_eq (strip_last 13 (strip_last 10 line)) head) e in
    let here : texts_of bytes ≡ ahead true line is.0 = subst (λ (b : Bool). texts_of bytes ≡ ahead b line is.0) p.0 is.2 in
    let f : (left : List (List ℕ)) × (texts_of is.0 ≡ texts ++ left) × (refused ≡ false → left ≡ []) =
    subst (λ (o : Option (List ℕ)). AreLinesOf o texts refused) is.1 h in (
      f.0,
      here ∙ ap (λ (l : List ℕ). l ∷ texts_of is.0) ((bytes_eq-Decides (strip_last 13 (strip_last 10 line)) head).0 p.1) ∙
          ap (λ (ts : List (List ℕ)). head ∷ ts) f.1,
      f.2,
    )

module _ (old now : Option (List ℕ)) (is_there : Bool) (line : List ℕ) (is_asked : Bool) (said : List ℕ) (is : IsNextLine old now line is_there) where
  pub heard_after_head : IsHead is_there line (codes "trace 2") → IsHeardUpTo [] now is_asked said → IsHeard old is_asked said
  heard_after_head head (inl none) = inl (inl none)
  heard_after_head head (inr h) = inl (inr (h.0, after_head (codes "trace 2") old now is_there line h.0 true is head h.1, h.2))

  pub fields_after_head : IsHead is_there line (codes "trace 3") → AreFieldsHeard [] now is_asked said → IsHeard old is_asked said
  fields_after_head head (inl none) = inr (inl none)
  fields_after_head head (inr h) = inr (inr (h.0, after_head (codes "trace 3") old now is_there line h.0 true is head h.1, h.2))

  pub outcome_watched : IsHead is_there line (codes "trace 2") → (answer : Answer) →
      IsWatched [] now is_asked said answer.report answer.counts answer.dues (option_map string_bytes answer.since) →
      IsOutcome old is_asked said (outcome.Watched answer)
  outcome_watched head answer w = (w.0, after_head (codes "trace 2") old now is_there line w.0 (is_refused answer.report) is head w.1, w.2)

  pub outcome_fields : IsHead is_there line (codes "trace 3") → (answer : FieldAnswer) →
      AreFields [] now is_asked said answer.report answer.counts answer.dues → IsOutcome old is_asked said (outcome.Fields answer)
  outcome_fields head answer w = (w.0, after_head (codes "trace 3") old now is_there line w.0 (is_refused_field answer.report) is head w.1, w.2)

no_head : (head : List ℕ) (is_there : Bool) (line rest : List ℕ) (texts : List (List ℕ)) → IsNoHead is_there line head → ahead is_there line rest ≡ head ∷ texts → ⊥
no_head head false line rest texts none e = cc
no_head head true line rest texts none e =
    let same : strip_last 13 (strip_last 10 line) ≡ head = head_of (strip_last 13 (strip_last 10 line)) head (texts_of rest) texts e in
    false≢true (sym none ∙ (bytes_eq-Decides (strip_last 13 (strip_last 10 line)) head).1 same)

marked_of : (old now : Option (List ℕ)) (is_there : Bool) (line : List ℕ) (lines : List Line) (v : Verdict) → IsNextLine old now line is_there →
    IsNoHead is_there line (codes "trace 2") → IsNoHead is_there line (codes "trace 3") →
    IfSome now (λ rest. AreMarkedLines (ahead is_there line rest) lines v) →
    IfSome old (λ bytes. IsMarkedOf bytes lines v)
marked_of None now is_there line lines v is two three t = tt
marked_of (Some bytes) now is_there line lines v is two three t =
    let j : AreMarkedLines (ahead is_there line is.0) lines v =
    subst (λ (o : Option (List ℕ)). IfSome o (λ rest. AreMarkedLines (ahead is_there line rest) lines v)) is.1 t in
    record {
      no_head = λ texts e. no_head (codes "trace 2") is_there line is.0 texts two (sym is.2 ∙ e);
      no_field_head = λ texts e. no_head (codes "trace 3") is_there line is.0 texts three (sym is.2 ∙ e);
      meaning = subst (λ (texts : List (List ℕ)). AreMarkedLines texts lines v) (sym is.2) j;
    }

pub outcome_marked : (old now : Option (List ℕ)) (is_there : Bool) (line : List ℕ) (is_asked : Bool) (v : Verdict) → IsNextLine old now line is_there →
    IsNoHead is_there line (codes "trace 2") → IsNoHead is_there line (codes "trace 3") → IsMarked now is_there line v →
    IsOutcome old is_asked [] (outcome.Marked v)
outcome_marked old now is_there line is_asked v is two three m = (m.0, marked_of old now is_there line m.0 v is two three m.1, m.2, m.3, refl)

-- FAULTS

-- a fault stays a fault under a weaker condition for traces that are too long
pub fault_by : (long longer : Type 0) (f : TraceFault) → (long → longer) → IsFault long f → IsFault longer f
fault_by long longer fault.TooLong follows is = follows is
fault_by long longer f follows is = is

pub fault_after_by : (long longer : Type 0) (a b : Option (List ℕ)) (rose : Type 0) (said : List ℕ) (f : TraceFault) → (long → longer) →
    IsFaultAfter long a b rose said f → IsFaultAfter longer a b rose said f
fault_after_by long longer a b rose said f follows (inl h) = inl (fault_by long longer f follows h.0, h.1)
fault_after_by long longer a b rose said f follows (inr h) = inr h

-- a fault of a stream, whatever the condition for traces that are too long
pub of_stream : {A : Type 0} (long : Type 0) (r : Result A TraceFault) → IsErrAnd r (IsFault ⊥) → IfErr r (IsFault long)
of_stream long (Ok x) is = tt
of_stream long (Err f) is = fault_by ⊥ long f (λ never. absurd never) is

-- at a fault of a stream, for lack of memory, or if an answer can't be written
module _ {A : Type 0} (Heard : List ℕ → Type 0) (long : Type 0) (a b : Option (List ℕ)) (rose : Type 0) (said : List ℕ) (heard : Heard said) where
  pub at_stream : (r : Result A TraceFault) → Appends a b said → IsErrAnd r (IsFault ⊥) →
      IfErr r (λ f. (s : List ℕ) × Heard s × IsFaultAfter long a b rose s f)
  at_stream (Ok x) w is = tt
  at_stream (Err f) w is = (said, heard, inl (fault_by ⊥ long f (λ never. absurd never) is, w))

  pub at_memory : (r : Result A TraceFault) → Appends a b said → IsErrAnd r (λ f. f ≡ fault.NoMemory) →
      IfErr r (λ f. (s : List ℕ) × Heard s × IsFaultAfter long a b rose s f)
  at_memory (Ok x) w is = tt
  at_memory (Err f) w is = (said, heard, inl (subst (IsFault long) (sym is) tt, w))

  pub at_output : (r : Result A TraceFault) → AppendsFront a b said → rose → IsErrAnd r (λ f. f ≡ fault.Unwritten) →
      IfErr r (λ f. (s : List ℕ) × Heard s × IsFaultAfter long a b rose s f)
  at_output (Ok x) w up is = tt
  at_output (Err f) w up is = (said, heard, inr (is, w, up))

-- the line that was read and the lines after it are all lines
pub all_too_long : (old now : Option (List ℕ)) (is_there : Bool) (line : List ℕ) → IsNextLine old now line is_there → IsTooLong (ahead is_there line) now →
    IsTooLong texts_of old
all_too_long None now is_there line is long = tt
all_too_long (Some bytes) now is_there line is long =
    let there : IsTooLong (ahead is_there line) (Some is.0) = subst (IsTooLong (ahead is_there line)) is.1 long in
    subst (λ (texts : List (List ℕ)). 2 ^ 64 - 2 ≤ length texts) (sym is.2) there

-- the head and the lines after it are all lines
pub head_too_long : (head : List ℕ) (old now : Option (List ℕ)) (is_there : Bool) (line : List ℕ) → IsNextLine old now line is_there →
    IsHead is_there line head → IsTooLong (ahead true line) now → IsTooLong texts_of old
head_too_long head old now is_there line is e long =
    let there : is_there ≡ true = (and_parts is_there (bytes_eq (strip_last 13 (strip_last 10 line)) head) e).0 in
    all_too_long old now true line (subst (IsNextLine old now line) there is) long
