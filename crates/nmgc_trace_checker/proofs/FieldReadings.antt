-- A trace of format 3 that is read line by line: the lines read so far are the lines that the bytes say, and each can happen.
use Rattle.std.proofs.lemmas.List.{take_at}
use Rattle.nmgc_trace_checker.proofs.Vocabulary.{AreFields, AreFieldsBy, AreFieldsHeard, AreLinesOf, IsNextLine, IsTooLong, ahead, happened_in, ok_to, oks, texts_of, Appends, Bool, List, None, Option, Some, [], ap, arith, false, flat_map_more, inr, length, length-append, refl, strip_last, subst, sym, take, true, ℕ, ◌++◌, ◌+◌, ◌-◌, ◌^◌, ◌∙◌, ◌∷◌, ◌≡◌, ◌≤◌}
use Rattle.nmgc_trace_checker.proofs.{Appended.appends_nothing, Readings.Front, Readings.all_lines, Readings.front_on, Readings.lines_so_far, Readings.no_front}
use Rattle.nmgc_field_checker.specs.declared.watch.FieldPhase.{FieldPhase}
use Rattle.nmgc_field_checker.specs.declared.watch.FieldPhase.TheVariants as phase
use Rattle.nmgc_field_reader.specs.{declared.counts.FieldCounts.FieldCounts, declared.report.FieldRefusal.FieldRefusal, declared.report.FieldReport.FieldReport, FieldTraces.Comes, FieldTraces.FieldTrace, FieldTraces.HasTried, FieldTraces.is_refused, FieldTraces.nothing_yet, FieldTraces.report_of, laws.Reports.comes_push, laws.Reports.ends_refused, laws.Reports.ends_well, laws.Wholes.whole_report}
use Rattle.nmgc_field_reader.specs.FieldWhole.{IsWholeReport}
use Rattle.nmgc_field_reader.specs.declared.report.FieldReport.TheVariants as report

-- some lines were read after the head, each can happen, the next line has this number, and they have these answers
pub record FieldsSoFar (known : Option (List ℕ)) (is_asked : Bool) (n : ℕ) (p : FieldTrace) (now : Option (List ℕ)) (said : List ℕ) : Type 0 where
  pub texts : List (List ℕ)
  pub front : Front known texts now
  pub count : n ≡ length texts + 2
  pub comes : Comes 2 nothing_yet texts p
  pub said_is : said ≡ oks is_asked texts

-- the lines so far, and their answers as a sink took them; its count of faults didn't fall
pub record FieldsAnswered (known : Option (List ℕ)) (is_asked : Bool) (n : ℕ) (p : FieldTrace) (now a b : Option (List ℕ)) (before after : ℕ) : Type 0 where
  pub said : List ℕ
  pub written : Appends a b said
  pub so_far : FieldsSoFar known is_asked n p now said
  pub later : before ≤ after

pub fields_after_the_head : (known : Option (List ℕ)) (is_asked : Bool) (p : FieldTrace) (a : Option (List ℕ)) (before : ℕ) → p ≡ nothing_yet →
    FieldsAnswered known is_asked 2 p known a a before before
fields_after_the_head known is_asked p a before is = record {
  said = [];
  written = appends_nothing a;
  so_far = record { texts = []; front = no_front known; count = refl; comes = is; said_is = refl };
  later = omega arith;
}

-- one more line was read and tried
module _ (known now next : Option (List ℕ)) (is_asked there : Bool) (n : ℕ) (old new : FieldTrace) (said read line : List ℕ)
    (s : FieldsSoFar known is_asked n old now said) (here : there ≡ true) (is : IsNextLine now next read there)
    (cut : line ≡ strip_last 13 (strip_last 10 read)) where
  front_more : Front known (s.texts ++ line ∷ []) next
  front_more = front_on known now next s.texts read line s.front (subst (IsNextLine now next read) here is) cut

  pub one_more_field : (refused : Option FieldRefusal) → refused ≡ None → HasTried n line old refused new →
      FieldsSoFar known is_asked (n + 1) new next (said ++ ok_to is_asked line)
  one_more_field refused none tried =
      let more : length (s.texts ++ line ∷ []) ≡ length s.texts + 1 = length-append s.texts (line ∷ []) in
      record {
        texts = s.texts ++ line ∷ [];
        front = front_more;
        count = (let c = s.count in omega arith);
        comes = comes_push 2 nothing_yet old new s.texts line n (let c = s.count in omega arith) s.comes
            (subst (λ (o : Option FieldRefusal). HasTried n line old o new) none tried);
        said_is = ap (λ (l : List ℕ). l ++ ok_to is_asked line) s.said_is ∙ flat_map_more (ok_to is_asked) [] s.texts line;
      }

  pub fields_refused : (refused : Option FieldRefusal) (because : FieldRefusal) (r : FieldReport) (counts : FieldCounts) (dues : ℕ) →
      refused ≡ Some because → HasTried n line old refused new → r ≡ report.Refused n because → counts ≡ new.counts → dues ≡ new.dues →
      AreFields [] known is_asked said r counts dues
  fields_refused refused because r counts dues some tried is_report counts_are dues_are =
      let h : HasTried n line old (Some because) new = subst (λ (o : Option FieldRefusal). HasTried n line old o new) some tried in
      let texts : List (List ℕ) = s.texts ++ line ∷ [] in
      let first : take (n - 2) texts ≡ s.texts = take_at s.texts (line ∷ []) (n - 2) (let c = s.count in omega arith) in (
        texts,
        subst (λ (x : FieldReport). AreLinesOf known texts (is_refused x)) (sym is_report) (lines_so_far known next texts front_more),
        record {
          report_is = ends_refused s.texts line n old new because r counts dues s.count s.comes h is_report counts_are dues_are;
          whole = subst (λ (x : FieldReport). IsWholeReport texts x) (sym is_report) tt;
          said_is = subst (λ (x : FieldReport). said ≡ oks is_asked (happened_in x texts)) (sym is_report) (s.said_is ∙ ap (oks is_asked) (sym first));
        },
      )

-- no line was refused
none_refused : (q : FieldPhase) (lines : List (List ℕ)) → happened_in (report_of q) lines ≡ lines
none_refused (phase.Between w) lines = refl
none_refused (phase.Marking running) lines = refl
none_refused (phase.Ended left) lines = refl
none_refused phase.Stopped lines = refl

module _ (known now : Option (List ℕ)) (is_asked : Bool) (n : ℕ) (p : FieldTrace) (said : List ℕ) (s : FieldsSoFar known is_asked n p now said) where
  pub fields_heard : AreFieldsHeard [] known is_asked said
  fields_heard = inr (s.texts, lines_so_far known now s.texts s.front, record { last = p; comes = s.comes; said_is = s.said_is })

  pub fields_ended : (next : Option (List ℕ)) (there : Bool) (read : List ℕ) (r : FieldReport) (counts : FieldCounts) (dues : ℕ) → there ≡ false →
      IsNextLine now next read there → r ≡ report_of p.watch.phase → counts ≡ p.counts → dues ≡ p.dues → AreFields [] known is_asked said r counts dues
  fields_ended next there read r counts dues over is is_report counts_are dues_are = (
    s.texts,
    all_lines known now next s.texts read (is_refused r) s.front (subst (IsNextLine now next read) over is),
    record {
      report_is = ends_well s.texts p r counts dues s.comes is_report counts_are dues_are;
      whole = whole_report s.texts p r s.comes is_report;
      said_is = s.said_is ∙ ap (oks is_asked) (sym (ap (λ (x : FieldReport). happened_in x s.texts) is_report ∙ none_refused p.watch.phase s.texts));
    },
  )

-- all numbers are used up: with the head there are that many lines
pub fields_too_long : (known now : Option (List ℕ)) (head : List ℕ) (is_asked : Bool) (n : ℕ) (p : FieldTrace) (said : List ℕ) →
    FieldsSoFar known is_asked n p now said → 2 ^ 64 - 1 ≤ n → IsTooLong (ahead true head) known
fields_too_long None now head is_asked n p said s last = tt
fields_too_long (Some all) now head is_asked n p said s last =
    let read : (rest : List ℕ) × (now ≡ Some rest) × (texts_of all ≡ s.texts ++ texts_of rest) = s.front in
    let parts : length (texts_of all) ≡ length s.texts + length (texts_of read.0) =
    ap (λ (ts : List (List ℕ)). length ts) read.2 ∙ length-append s.texts (texts_of read.0) in
    let c : n ≡ length s.texts + 2 = s.count in
    let long : 2 ^ 64 - 2 ≤ length (strip_last 13 (strip_last 10 head) ∷ texts_of all) = omega arith in
    long
