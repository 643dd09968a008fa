-- A text that is taken in pieces: its lines, and the kind of a line by its front.
use Rattle.nmgc_fin.proofs.Vocabulary.{◌≡◌, ◌^◌, ◌≢◌, ◌+◌, ◌-◌, ◌<◌, ◌≤◌, ◌∙◌, ℕ, zero, suc, List, [], ◌∷◌, ◌++◌, Bool, true, false, if◌then◌else◌, All, All-append, All-nil, Option, Some, None, length, length-append, length-take, length-take-le, length-decimal-le, map, min, take, take_all, drop, take-append-drop, append-nil, append_assoc, refl, sym, ap, subst, arith, inl, inr, cases_lt, codes, decimal, Name, Job, lines_of, cut_first, lines_cut, last_line, IsName, name_text, IsDead, IsDeadOf, IsBad, IsKindOf, LineKind, Other, Bad, Weak, NamesOf, AreScanned, HasScanned, Scan, FRONT, SaysOfBytes, Says, Asks, IsRead, FinStatus, Done, Usage, ReadFault, WriteFault, BadReport, TooLong, NoMemory, weak_of, is_some, true≢false, Consumes}
use Rattle.std.proofs.Common.{Vec, Global}
use Rattle.std.specs.Prelude.{Result, Ok, Err, IfOk}
use Rattle.nmgc_arguments.specs.Output.{text_bytes}
use Rattle.nmgc_lists.specs.declared.memory.NoMemory.{NoMemory as NoMemoryOf}
use Rattle.nmgc_fin.specs.Program.{AreDone, IsMadeOf, bad_text}
use Rattle.nmgc_fin.specs.Jobs.{AreJobsOf, IsFirstBad}
use Rattle.nmgc_fin.specs.declared.top.Output.{Output}
use Rattle.nmgc_fin.proofs.Lines.{names_other, names_dead, weak_more, numbered_more}

-- THE KIND OF A LINE

chosen_within : (b : Bool) (xs ys : List ℕ) (n : ℕ) → length xs ≤ n → length ys ≤ n → length (if b then xs else ys) ≤ n
chosen_within true xs ys n left right = left
chosen_within false xs ys n left right = right

-- the text of a name has at most 13 bytes
name_short : (name : Name) → IsName name → length (name_text name) ≤ 13
name_short name is =
    let maker : length (decimal name.maker) ≤ 2 = length-decimal-le 2 name.maker (omega arith) (omega (arith, is.0)) (omega (arith, is.0)) in
    let serial : length (decimal name.serial) ≤ 10 = length-decimal-le 10 name.serial (omega arith) (omega (arith, is.1)) (omega (arith, is.1)) in
    let both : length (decimal name.maker ++ 46 ∷ decimal name.serial) ≡ length (decimal name.maker) + (length (decimal name.serial) + 1) =
    length-append (decimal name.maker) (46 ∷ decimal name.serial) ∙ omega arith in
    let one : length (codes "g") ≡ 1 = refl in
    chosen_within _ (codes "g") (decimal name.maker ++ 46 ∷ decimal name.serial) 13 (omega (arith, one)) (omega (arith, maker, serial, both))

dead_four : length (codes "dead") ≡ 4
dead_four = refl

-- a line of `dead` and a name has at most 18
dead_short : (line : List ℕ) (name : Name) → IsDeadOf line name → length line ≤ 18
dead_short line name is =
    let long = ap (λ (l : List ℕ). length l) is.0 in let parts = length-append (codes "dead") (32 ∷ name_text name) in let four = dead_four in
    let short = name_short name is.1 in
    omega (arith, long, parts, four, short)

-- the front of a line determines its kind
module _ (line : List ℕ) (long : FRONT < length line) where
  front_full : length (take FRONT line) ≡ 32
  front_full = length-take FRONT line ∙ omega (arith, long)

  whole : line ≡ take FRONT line ++ drop FRONT line
  whole = sym (take-append-drop FRONT line)

  front_dead : IsDead line → IsDead (take FRONT line)
  front_dead (inl e) = absurd (let n = ap (λ (l : List ℕ). length l) e in let four = dead_four in omega (arith, n, four, long))
  front_dead (inr p) = inr (take 27 p.0, ap (λ (l : List ℕ). take FRONT l) p.1)

  whole_dead : IsDead (take FRONT line) → IsDead line
  whole_dead (inl e) = absurd (let n = ap (λ (l : List ℕ). length l) e in let four = dead_four in let full = front_full in omega (arith, n, four, full))
  whole_dead (inr p) = inr (p.0 ++ drop FRONT line, whole ∙ ap (λ (l : List ℕ). l ++ drop FRONT line) p.1)

  long_kind : (kind : LineKind) → IsKindOf (take FRONT line) kind → IsKindOf line kind
  long_kind Other is = λ dead. is (front_dead dead)
  long_kind Bad is = (whole_dead is.0, λ name dead. let short = dead_short line name dead in omega (arith, short, long))
  long_kind (Weak name) is = absurd (let short = dead_short (take FRONT line) name is in let full = front_full in omega (arith, short, full))

pub kind_of : (line : List ℕ) (kind : LineKind) → IsKindOf (take FRONT line) kind → IsKindOf line kind
kind_of line kind is =
    elim (cases_lt FRONT (length line)) [
      | inl long ↦ long_kind line long kind is
      | inr short ↦ subst (λ (l : List ℕ). IsKindOf l kind) (take_all FRONT line short) is
    ]

-- THE LINES THAT WERE READ

pub scanned_other : (jobs : List Job) (count : ℕ) (lines : List (List ℕ)) (line : List ℕ) → AreScanned None jobs count lines → (IsDead line → ⊥) →
    AreScanned None jobs (count + 1) (lines ++ line ∷ [])
scanned_other jobs count lines line h n =
    let long = length-append lines (line ∷ []) in let few = h.2 in let is = h.3 in
    (names_other lines (map weak_of jobs) line h.0 n, h.1, omega (arith, few), omega (arith, is, long))

pub scanned_bad : (jobs old : List Job) (count now : ℕ) (lines : List (List ℕ)) (line : List ℕ) → AreScanned None old count lines → IsBad line →
    AreScanned (Some (count + 1)) jobs now (lines ++ line ∷ [])
scanned_bad jobs old count now lines line h bad = record {
  before = lines;
  line = line;
  after = [];
  all = refl;
  names = map weak_of old;
  good = h.0;
  bad = bad;
  is = let is = h.3 in omega (arith, is);
}

pub scanned_dead : (jobs new : List Job) (job : Job) (count : ℕ) (lines : List (List ℕ)) (line : List ℕ) → AreScanned None jobs count lines →
    IsDeadOf line job.weak → job.number ≡ length jobs → new ≡ jobs ++ job ∷ [] → AreScanned None new (count + 1) (lines ++ line ∷ [])
scanned_dead jobs new job count lines line h dead number is =
    let long = length-append lines (line ∷ []) in let more = length-append jobs (job ∷ []) in let few = h.2 in let same = h.3 in
    subst (λ (l : List Job). AreScanned None l (count + 1) (lines ++ line ∷ [])) (sym is) (
      subst (λ (l : List Name). NamesOf (lines ++ line ∷ []) l) (sym (weak_more jobs job)) (names_dead lines (map weak_of jobs) line job.weak h.0 dead),
      numbered_more jobs job h.1 number,
      omega (arith, few, more),
      omega (arith, same, long),
    )

-- nothing after a bad line counts
pub scanned_after : (bad : ℕ) (jobs new : List Job) (count now : ℕ) (lines : List (List ℕ)) (line : List ℕ) → AreScanned (Some bad) jobs count lines →
    AreScanned (Some bad) new now (lines ++ line ∷ [])
scanned_after bad jobs new count now lines line h = record {
  before = h.before;
  line = h.line;
  after = h.after ++ line ∷ [];
  all = ap (λ (l : List (List ℕ)). l ++ line ∷ []) h.all ∙ append_assoc h.before (h.line ∷ h.after) (line ∷ []);
  names = h.names;
  good = h.good;
  bad = h.bad;
  is = h.is;
}

-- THE LINE THAT ISN'T ENDED

-- a front that is filled up with the bytes of a part is the front of both
front_more : (n : ℕ) (line part : List ℕ) → take n line ++ take (n - length (take n line)) part ≡ take n (line ++ part)
front_more zero line part = refl
front_more (suc n) [] part = let all : suc n - 0 ≡ suc n = omega arith in ap (λ (k : ℕ). take k part) all
front_more (suc n) (x ∷ line) part =
    let less : suc n - suc (length (take n line)) ≡ n - length (take n line) = omega arith in
    ap (λ (l : List ℕ). x ∷ l) (ap (λ (k : ℕ). take n line ++ take k part) less ∙ front_more n line part)

front_room : (line : List ℕ) → length (take FRONT line) ≤ FRONT
front_room line = let is = length-take FRONT line in omega (arith, is)

pub has_room : (scan : Scan) (bytes : List ℕ) → HasScanned scan bytes → length scan.front.items ≤ FRONT
has_room scan bytes h = subst (λ (l : List ℕ). length l ≤ FRONT) (sym h.front) (front_room h.line)

empty_front : (line : List ℕ) → take FRONT line ≡ [] → line ≡ []
empty_front [] e = refl
empty_front (x ∷ line) e = absurd (let n = ap (λ (l : List ℕ). length l) e in let is = length-take FRONT (x ∷ line) in omega (arith, n, is))

-- no byte was taken
pub taken_none : (scan : Scan) → scan.jobs.items ≡ [] → scan.bad ≡ None → scan.lines ≡ 0 → scan.front.items ≡ [] → HasScanned scan []
taken_none scan jobs bad lines front = record {
  ended = [];
  line = [];
  cut = λ rest. refl;
  plain = All-nil (λ b. b ≢ 10);
  few = omega arith;
  front = front;
  counted = omega (arith, lines);
  scanned = rw (bad, jobs, lines) (NamesOf.none, λ k d lt. absurd (let none : k < 0 = lt in omega (arith, none)), omega arith, refl);
}

-- bytes without a line feed were added to the line
pub taken_more : (old new : Scan) (bytes part : List ℕ) → HasScanned old bytes → All (λ b. b ≢ 10) part →
    new.front.items ≡ old.front.items ++ take (FRONT - length old.front.items) part → new.jobs.items ≡ old.jobs.items → new.bad ≡ old.bad →
    new.lines ≡ old.lines → HasScanned new (bytes ++ part)
taken_more old new bytes part h plain front jobs bad lines =
    let long = length-append bytes part in let longer = length-append h.line part in let few = h.few in let counted = h.counted in
    record {
      ended = h.ended;
      line = h.line ++ part;
      cut = λ rest.
          ap lines_of (append_assoc bytes part rest) ∙ h.cut (part ++ rest) ∙
          ap (λ (l : List ℕ). h.ended ++ lines_of l) (sym (append_assoc h.line part rest));
      plain = All-append (λ b. b ≢ 10) h.line part h.plain plain;
      few = omega (arith, long, longer, few);
      front = front ∙ ap (λ (l : List ℕ). l ++ take (FRONT - length l) part) h.front ∙ front_more FRONT h.line part;
      counted = omega (arith, lines, counted);
      scanned = rw (bad, jobs, lines) h.scanned;
    }

-- a line feed ends the line
pub taken_line : (old new : Scan) (bytes : List ℕ) (h : HasScanned old bytes) → new.front.items ≡ [] → new.lines ≤ old.lines + 1 →
    AreScanned new.bad new.jobs.items new.lines (h.ended ++ h.line ∷ []) → HasScanned new (bytes ++ 10 ∷ [])
taken_line old new bytes h front lines scanned =
    let long = length-append bytes (10 ∷ []) in let longer = length-append h.ended (h.line ∷ []) in let few = h.few in let counted = h.counted in
    record {
      ended = h.ended ++ h.line ∷ [];
      line = [];
      cut = λ rest.
          ap lines_of (append_assoc bytes (10 ∷ []) rest) ∙ h.cut (10 ∷ rest) ∙
          ap (λ (l : List (List ℕ)). h.ended ++ l) (cut_first 10 lines_of lines_cut (h.line ++ 10 ∷ rest) h.line rest h.plain refl) ∙
          sym (append_assoc h.ended (h.line ∷ []) (lines_of rest));
      plain = All-nil (λ b. b ≢ 10);
      few = omega (arith, long, longer, few);
      front = front;
      counted = omega (arith, lines, longer, counted);
      scanned = scanned;
    }

none_of : (bad : Option ℕ) → is_some bad ≡ false → bad ≡ None
none_of None e = refl
none_of (Some line) e = absurd (true≢false e)

some_of : (bad : Option ℕ) → is_some bad ≡ true → (line : ℕ) × (bad ≡ Some line)
some_of None e = absurd (true≢false (sym e))
some_of (Some line) e = (line, refl)

-- a line that gives no job was ended
pub line_other : (old new : Scan) (bytes : List ℕ) → HasScanned old bytes → is_some old.bad ≡ false → IsKindOf old.front.items Other → new.front.items ≡ [] →
    new.jobs.items ≡ old.jobs.items → new.bad ≡ old.bad → new.lines ≡ old.lines + 1 → HasScanned new (bytes ++ 10 ∷ [])
line_other old new bytes h none kind front jobs bad lines =
    let no = none_of old.bad none in
    let line : IsKindOf h.line Other = kind_of h.line Other (subst (λ (l : List ℕ). IsKindOf l Other) h.front kind) in
    let before : AreScanned None old.jobs.items old.lines h.ended = subst (λ (b : Option ℕ). AreScanned b old.jobs.items old.lines h.ended) no h.scanned in
    taken_line old new bytes h front (omega (arith, lines))
    (rw (bad ∙ no, jobs, lines) (scanned_other old.jobs.items old.lines h.ended h.line before line))

-- the first bad line was ended
pub line_bad : (old new : Scan) (bytes : List ℕ) → HasScanned old bytes → is_some old.bad ≡ false → IsKindOf old.front.items Bad → new.front.items ≡ [] →
    new.bad ≡ Some (old.lines + 1) → new.lines ≡ old.lines + 1 → HasScanned new (bytes ++ 10 ∷ [])
line_bad old new bytes h none kind front bad lines =
    let line : IsKindOf h.line Bad = kind_of h.line Bad (subst (λ (l : List ℕ). IsKindOf l Bad) h.front kind) in
    let before : AreScanned None old.jobs.items old.lines h.ended =
    subst (λ (b : Option ℕ). AreScanned b old.jobs.items old.lines h.ended) (none_of old.bad none) h.scanned in
    taken_line old new bytes h front (omega (arith, lines))
    (rw bad (scanned_bad new.jobs.items old.jobs.items old.lines new.lines h.ended h.line before line))

-- a line with a job was ended
pub line_dead : (old new : Scan) (bytes : List ℕ) (name : Name) (number : ℕ) → HasScanned old bytes → is_some old.bad ≡ false →
    IsKindOf old.front.items (Weak name) → number ≡ length old.jobs.items → new.front.items ≡ [] →
    new.jobs.items ≡ old.jobs.items ++ record { number = number; weak = name } ∷ [] → new.bad ≡ old.bad → new.lines ≡ old.lines + 1 →
    HasScanned new (bytes ++ 10 ∷ [])
line_dead old new bytes name number h none kind counted front jobs bad lines =
    let no = none_of old.bad none in
    let job : Job = record { number = number; weak = name } in
    let line : IsDeadOf h.line name = kind_of h.line (Weak name) (subst (λ (l : List ℕ). IsKindOf l (Weak name)) h.front kind) in
    let before : AreScanned None old.jobs.items old.lines h.ended = subst (λ (b : Option ℕ). AreScanned b old.jobs.items old.lines h.ended) no h.scanned in
    taken_line old new bytes h front (omega (arith, lines))
    (rw (bad ∙ no, lines) (scanned_dead old.jobs.items new.jobs.items job old.lines h.ended h.line before line counted jobs))

-- a line after the first bad line was ended
pub line_after : (old new : Scan) (bytes : List ℕ) → HasScanned old bytes → is_some old.bad ≡ true → new.front.items ≡ [] → new.bad ≡ old.bad →
    new.lines ≡ old.lines → HasScanned new (bytes ++ 10 ∷ [])
line_after old new bytes h some front bad lines =
    let there = some_of old.bad some in
    let before : AreScanned (Some there.0) old.jobs.items old.lines h.ended =
    subst (λ (b : Option ℕ). AreScanned b old.jobs.items old.lines h.ended) there.1 h.scanned in
    taken_line old new bytes h front (omega (arith, lines))
    (rw (bad ∙ there.1) (scanned_after there.0 old.jobs.items new.jobs.items old.lines new.lines h.ended h.line before))

-- the lines and the jobs can be counted in 32 bits
pub few_lines : (scan : Scan) (bytes : List ℕ) → HasScanned scan bytes → length bytes ≤ 2 ^ 31 → scan.lines ≤ 2 ^ 31
few_lines scan bytes h most = let few = h.few in let counted = h.counted in omega (arith, few, counted, most)

pub few_jobs : (scan : Scan) (bytes : List ℕ) → HasScanned scan bytes → length bytes ≤ 2 ^ 31 → is_some scan.bad ≡ false → length scan.jobs.items ≤ 2 ^ 31
few_jobs scan bytes h most none =
    let before : AreScanned None scan.jobs.items scan.lines h.ended =
    subst (λ (b : Option ℕ). AreScanned b scan.jobs.items scan.lines h.ended) (none_of scan.bad none) h.scanned in
    let few = before.2 in let lines = few_lines scan bytes h most in omega (arith, few, lines)

-- THE END OF THE TEXT

lines_at_end : (scan : Scan) (bytes : List ℕ) (h : HasScanned scan bytes) → lines_of bytes ≡ h.ended ++ lines_of h.line
lines_at_end scan bytes h =
    ap lines_of (sym (append-nil bytes)) ∙ h.cut [] ∙ ap (λ (l : List ℕ). h.ended ++ lines_of l) (append-nil h.line)

-- if the last line is ended, all lines were read
pub all_read : (scan : Scan) (bytes : List ℕ) → HasScanned scan bytes → scan.front.items ≡ [] → AreScanned scan.bad scan.jobs.items scan.lines (lines_of bytes)
all_read scan bytes h empty =
    let none : h.line ≡ [] = empty_front h.line (sym h.front ∙ empty) in
    let lines : lines_of bytes ≡ h.ended = lines_at_end scan bytes h ∙ ap (λ (l : List ℕ). h.ended ++ lines_of l) none ∙ append-nil h.ended in
    subst (λ (l : List (List ℕ)). AreScanned scan.bad scan.jobs.items scan.lines l) (sym lines) h.scanned

-- a line feed at the end of a last line that isn't empty adds no line
pub ended_same : (scan : Scan) (bytes : List ℕ) → HasScanned scan bytes → 0 < length scan.front.items → lines_of (bytes ++ 10 ∷ []) ≡ lines_of bytes
ended_same scan bytes h some =
    let is : length scan.front.items ≡ min FRONT (length h.line) = ap (λ (l : List ℕ). length l) h.front ∙ length-take FRONT h.line in
    let there : 0 < length h.line = omega (arith, is, some) in
    h.cut (10 ∷ []) ∙
    ap (λ (l : List (List ℕ)). h.ended ++ l) (cut_first 10 lines_of lines_cut (h.line ++ 10 ∷ []) h.line [] h.plain refl ∙ sym (last_line h.line there h.plain)) ∙
    sym (lines_at_end scan bytes h)

-- A PIECE

-- a line feed of the piece was passed
pub seen_on : (seen rest part after piece : List ℕ) → seen ++ rest ≡ piece → rest ≡ part ++ 10 ∷ after → ((seen ++ part) ++ 10 ∷ []) ++ after ≡ piece
seen_on seen rest part after piece all e =
    append_assoc (seen ++ part) (10 ∷ []) after ∙ append_assoc seen part (10 ∷ after) ∙ ap (λ (l : List ℕ). seen ++ l) (sym e) ∙ all

pub bytes_on : (bytes seen part : List ℕ) → ((bytes ++ seen) ++ part) ++ 10 ∷ [] ≡ bytes ++ ((seen ++ part) ++ 10 ∷ [])
bytes_on bytes seen part = ap (λ (l : List ℕ). l ++ 10 ∷ []) (append_assoc bytes seen part) ∙ append_assoc bytes (seen ++ part) (10 ∷ [])

pub seen_few : (bytes seen rest part after piece : List ℕ) → seen ++ rest ≡ piece → rest ≡ part ++ 10 ∷ after → length bytes + length piece ≤ 2 ^ 31 →
    length ((bytes ++ seen) ++ part) ≤ 2 ^ 31
seen_few bytes seen rest part after piece all e most =
    let a = ap (λ (l : List ℕ). length l) all in let b = ap (λ (l : List ℕ). length l) e in let c = length-append seen rest in
    let d = length-append part (10 ∷ after) in let f = length-append (bytes ++ seen) part in let h = length-append bytes seen in
    omega (arith, a, b, c, d, f, h, most)

-- A REPORT THAT IS READ IN PIECES

pub consumes_none : (a : Option (List ℕ)) → Consumes a a []
consumes_none None = tt
consumes_none (Some left) = refl

consumes_on : (a b c : Option (List ℕ)) (xs ys : List ℕ) → Consumes a b xs → Consumes b c ys → Consumes a c (xs ++ ys)
consumes_on None b c xs ys p q = tt
consumes_on (Some u) None c xs ys p q = elim p [ ]
consumes_on (Some u) (Some v) None xs ys p q = elim q [ ]
consumes_on (Some u) (Some v) (Some w) xs ys p q = p ∙ ap (λ (l : List ℕ). xs ++ l) q ∙ sym (append_assoc xs ys w)

-- the bytes of the calls so far and of one more call
pub read_on : (a b c : Option (List ℕ)) (xs piece : List ℕ) (n : ℕ) → Consumes a b xs → n ≤ length piece → Consumes b c (take n piece) →
    Consumes a c (xs ++ take n piece) × (length (xs ++ take n piece) ≡ length xs + n)
read_on a b c xs piece n p within q = (
  consumes_on a b c xs (take n piece) p q,
  length-append xs (take n piece) ∙ ap (λ (k : ℕ). length xs + k) (length-take-le n piece within),
)

-- a call that gives no byte takes none
pub read_end : (a b c : Option (List ℕ)) (xs ys : List ℕ) (n : ℕ) → Consumes a b xs → n ≡ 0 → Consumes b c (take n ys) → Consumes a c xs
read_end a b c xs ys n p none q =
    subst (λ (l : List ℕ). Consumes a c l) (append-nil xs)
    (consumes_on a b c xs [] p (subst (λ (k : ℕ). Consumes b c (take k ys)) none q))

-- THE OUTPUT

-- the output for the bytes that a scan has taken is the output for the source
pub says_taken : (arguments : List (List ℕ)) (workers : ℕ) (old new : Option (List ℕ)) (rose : Type 0) (scan : Scan) (status : FinStatus) (text : List ℕ) →
    Asks arguments workers → (read : (bytes : List ℕ) × IsRead old new bytes × HasScanned scan bytes) →
    ((bytes : List ℕ) → HasScanned scan bytes → SaysOfBytes workers bytes status text) → Says arguments old new rose status text
says_taken arguments workers old new rose scan Done text asks read says = (workers, asks, read.0, read.1, says read.0 read.2)
says_taken arguments workers old new rose scan BadReport text asks read says = (workers, asks, read.0, read.1, says read.0 read.2)
says_taken arguments workers old new rose scan NoMemory text asks read says =
    (workers, asks, (read.0, read.1.taken, read.1.within), says read.0 read.2)
says_taken arguments workers old new rose scan Usage text asks read says = absurd (says read.0 read.2)
says_taken arguments workers old new rose scan ReadFault text asks read says = absurd (says read.0 read.2)
says_taken arguments workers old new rose scan TooLong text asks read says = absurd (says read.0 read.2)
says_taken arguments workers old new rose scan WriteFault text asks read says = absurd (says read.0 read.2)

-- handled jobs, or no memory for their text, are the output for the bytes
pub done_says : (workers : ℕ) (bytes : List ℕ) (jobs : List Job) (text : Result (Vec ℕ Global) NoMemoryOf) (reported : Output) → AreJobsOf (lines_of bytes) jobs →
    IfOk text (λ text. AreDone workers jobs text.items) → IsMadeOf Done text reported → SaysOfBytes workers bytes reported.status (text_bytes reported.text)
done_says workers bytes jobs (Ok text) reported are done made =
    subst (λ (status : FinStatus). SaysOfBytes workers bytes status (text_bytes reported.text)) (sym made.0)
    (jobs, are, subst (λ (items : List ℕ). AreDone workers jobs items) (sym made.1) done)
done_says workers bytes jobs (Err _) reported are done made =
    subst (λ (status : FinStatus). SaysOfBytes workers bytes status (text_bytes reported.text)) (sym made.0) made.1

-- the report of the first bad line, or no memory for it, is the output for the bytes
pub bad_says : (workers : ℕ) (bytes : List ℕ) (line : ℕ) (text : Result (Vec ℕ Global) NoMemoryOf) (reported : Output) → IsFirstBad (lines_of bytes) line →
    IfOk text (λ text. text.items ≡ bad_text line) → IsMadeOf BadReport text reported → SaysOfBytes workers bytes reported.status (text_bytes reported.text)
bad_says workers bytes line (Ok text) reported is written made =
    subst (λ (status : FinStatus). SaysOfBytes workers bytes status (text_bytes reported.text)) (sym made.0) (line, is, made.1 ∙ written)
bad_says workers bytes line (Err _) reported is written made =
    subst (λ (status : FinStatus). SaysOfBytes workers bytes status (text_bytes reported.text)) (sym made.0) made.1
