-- The lines of a head: kept lines, bad lines, and the meaning of a reader's answer there.
use Rattle.std.proofs.Common.{ℕ, ◌≡◌, ◌≢◌, ◌+◌, ◌-◌, ◌<◌, ◌≤◌, ◌⊎◌, ◌++◌, List, [], ◌∷◌, length, drop, get_or, length-append, length-drop, refl, sym, ap, subst, ◌∙◌, arith, inl, inr, Option}
use Rattle.std.specs.Prelude.{Bool, IsTrue, not, ◌==◌, ◌↔◌, true, false, codes, if◌then◌else◌, sum_by, Err}
use Rattle.std.proofs.lemmas.{Bool.ne_eqb, List.at_drop_more}
use Rattle.std.proofs.Math.Seq.{get_or-append_seam}
use Rattle.nmgc_io.specs.Text.{is_blank_or_comment, lines_of, onto_first}
use Rattle.nmgc_io.specs.declared.ends.ReadEnd.{ReadEnd}
use Rattle.nmgc_io.specs.declared.ends.ReadEnd.TheVariants as read
use Rattle.nmgc_script.specs.{Parts.end_of, Spelling.IsFaultOfText, Spelling.Spells, Spelling.kept_lines, declared.fault.Cause.Cause, declared.script.Script.Script}
use Rattle.nmgc_script.specs.declared.fault.Cause.TheVariants as cause
use Rattle.nmgc_live.specs.{Heads.HasBadLine, Heads.HasBadLineWithin, Heads.HasNoCommands, Heads.IsBadInHead, Heads.IsEndRefusal, Heads.IsHead, Heads.IsHeadLine, Heads.IsHeadSoFar, Heads.IsNextHeadLine, Heads.IsNoHeadLine, Heads.SpellsOther, Heads.kept_if, Heads.with_line, Lines.IsNextLine, Lines.ReadsEnd, Lines.ReadsLine, Lines.ReadsShort, Lines.fed, Lines.next_number, Refusals.read_refusal, declared.head.HeadLine.HeadLine, declared.head.TheConstants.MAX_HEAD_BYTES, declared.lines.LineReader.LineReader, declared.refusal.Refusal.Refusal}
use Rattle.nmgc_live.specs.declared.head.HeadLine.TheVariants as head
use Rattle.nmgc_live.specs.declared.refusal.Fault.TheVariants as fault
use Rattle.nmgc_live.specs.declared.refusal.Refusal.TheVariants as no

-- an empty line or a comment isn't kept, and any other line is
pub blank_kept : (text line : List ℕ) → is_blank_or_comment line ≡ true → text ≡ with_line text line
blank_kept text line e = sym (ap (λ (b : Bool). kept_if b text line) e)

pub line_kept : (text line : List ℕ) → is_blank_or_comment line ≡ false → text ++ fed line ≡ with_line text line
line_kept text line e = sym (ap (λ (b : Bool). kept_if b text line) e)

-- the head goes on: an empty line or a comment changes nothing, and a good line is kept
pub blank_more : (text line : List ℕ) → is_blank_or_comment line ≡ true → IsHeadLine text text line head.More
blank_more text line e = (blank_kept text line e, inl e)

pub line_more : (text line : List ℕ) → is_blank_or_comment line ≡ false → line ≢ codes "begin" → (text ≡ [] → line ≡ codes "nmgc 3") →
    IsHeadSoFar (text ++ fed line) → IsHeadLine text (text ++ fed line) line head.More
line_more text line some other first good = (line_kept text line some, inr ((some, other), first, good))

-- a text may go on to a head
pub spelled_so_far : (text : List ℕ) (script : Script) → Spells text script → HasNoCommands script → IsHeadSoFar text
spelled_so_far text script spells empty = inl (script, spells, empty)

pub lacking_so_far : (text : List ℕ) (n : ℕ) (c : Cause) → IsFaultOfText (end_of text) (kept_lines text) n c → length (lines_of text) < n → IsHeadSoFar text
lacking_so_far text n c is_fault past = inr (n, (c, is_fault, past))

-- a script of version 3 without commands is a head
pub head_is : (text : List ℕ) (script : Script) → Spells text script → (script.version ≡ 3) × HasNoCommands script → sum_by length script.threads ≤ length text →
    length text ≤ MAX_HEAD_BYTES → IsHead text script
head_is text script spells h few short = record {
  spells = spells;
  version = h.0;
  limits = record { fits = spells.fits; few = omega (arith, few, short) };
  empty = h.1;
}

pub other_is : (text : List ℕ) (script : Script) → Spells text script → ((script.version ≡ 3) × HasNoCommands script → ⊥) → SpellsOther text
other_is text script spells no_head = (script, spells, λ h. no_head (h.version, h.empty))

-- the line `begin` is bad behind these lines
pub begin_bad : (text : List ℕ) (c : Cause) → HasBadLine text c → IsBadInHead text (codes "begin") (fault.Script c)
begin_bad text c h = inl (refl, inl h)

pub begin_other : (text : List ℕ) → SpellsOther text → IsBadInHead text (codes "begin") (fault.Script cause.Thread)
begin_other text h = inl (refl, inr (refl, h))

-- a line that has to be kept is bad: it is first and no version, or a script's first bad line, or too long for the head
pub version_bad : (text line : List ℕ) → is_blank_or_comment line ≡ false → line ≢ codes "begin" → text ≡ [] → line ≢ codes "nmgc 3" →
    IsBadInHead text line (fault.Script cause.Version)
version_bad text line some other first no_version = inr ((some, other), inl (refl, first, no_version))

pub script_line_bad : (text line : List ℕ) (c : Cause) → is_blank_or_comment line ≡ false → line ≢ codes "begin" →
    HasBadLineWithin (text ++ fed line) c ⊎ ((c ≡ cause.Thread) × SpellsOther (text ++ fed line)) → IsBadInHead text line (fault.Script c)
script_line_bad text line c some other bad = inr ((some, other), inr bad)

pub head_long : (text line : List ℕ) → is_blank_or_comment line ≡ false → line ≢ codes "begin" → MAX_HEAD_BYTES ≤ length text + length line →
    IsBadInHead text line fault.Line
head_long text line some other long = inr ((some, other), long)

-- the number of lines, byte by byte
onto_length : (b : ℕ) (parts : List (List ℕ)) → length parts ≤ length (onto_first b parts)
onto_length b [] = omega arith
onto_length b (part ∷ parts) = omega arith

pub lines_feed : (b : ℕ) (bytes : List ℕ) → b ≡ 10 → length (lines_of (b ∷ bytes)) ≡ length (lines_of bytes) + 1
lines_feed b bytes e = ap (λ (x : ℕ). length (lines_of (x ∷ bytes))) e ∙ (let one : length (lines_of (10 ∷ bytes)) ≡ length (lines_of bytes) + 1 = omega arith in one)

pub lines_byte : (b : ℕ) (bytes : List ℕ) → b ≢ 10 → length (lines_of bytes) ≤ length (lines_of (b ∷ bytes))
lines_byte b bytes not = rw (ne_eqb b 10 not) (onto_length b (lines_of bytes))

pub lines_on : (bytes : List ℕ) (i : ℕ) → i < length bytes → get_or bytes i 0 ≡ 10 →
    length (lines_of (drop i bytes)) ≡ length (lines_of (drop (i + 1) bytes)) + 1
lines_on bytes i lt e = at_drop_more (λ (l : List ℕ). length (lines_of l)) bytes i 0 lt ∙ lines_feed (get_or bytes i 0) (drop (i + 1) bytes) e

pub lines_past : (bytes : List ℕ) (i : ℕ) → i < length bytes → get_or bytes i 0 ≢ 10 →
    length (lines_of (drop (i + 1) bytes)) ≤ length (lines_of (drop i bytes))
lines_past bytes i lt not =
    let same : length (lines_of (drop i bytes)) ≡ length (lines_of (get_or bytes i 0 ∷ drop (i + 1) bytes)) =
    at_drop_more (λ (l : List ℕ). length (lines_of l)) bytes i 0 lt in
    let more = lines_byte (get_or bytes i 0) (drop (i + 1) bytes) not in
    omega (arith, same, more)

-- the same number of lines, if a line feed comes last: behind each other byte there is one
onto_some : (b : ℕ) (parts : List (List ℕ)) → 1 ≤ length (onto_first b parts)
onto_some b [] = omega arith
onto_some b (part ∷ parts) = omega arith

onto_same : (b : ℕ) (parts : List (List ℕ)) → 1 ≤ length parts → length (onto_first b parts) ≡ length parts
onto_same b [] some = absurd (omega (arith, some))
onto_same b (part ∷ parts) some = refl

lines_some : (bytes : List ℕ) → 1 ≤ length bytes → 1 ≤ length (lines_of bytes)
lines_some [] some = absurd (omega (arith, some))
lines_some (b ∷ bytes) some = by_test (b == 10)
  where
    by_test : (t : Bool) → 1 ≤ length (if t then [] ∷ lines_of bytes else onto_first b (lines_of bytes))
    by_test true = omega arith
    by_test false = onto_some b (lines_of bytes)

lines_same : (b : ℕ) (bytes : List ℕ) → b ≢ 10 → 1 ≤ length bytes → length (lines_of (b ∷ bytes)) ≡ length (lines_of bytes)
lines_same b bytes not some = rw (ne_eqb b 10 not) (onto_same b (lines_of bytes) (lines_some bytes some))

pub lines_within : (bytes front : List ℕ) (i : ℕ) → bytes ≡ front ++ 10 ∷ [] → i < length bytes → get_or bytes i 0 ≢ 10 →
    length (lines_of (drop i bytes)) ≡ length (lines_of (drop (i + 1) bytes))
lines_within bytes front i ends lt not =
    let long : length bytes ≡ length front + 1 = ap (λ (l : List ℕ). length l) ends ∙ length-append front (10 ∷ []) in
    let inside : i ≢ length front =
    λ e. not (ap (λ (l : List ℕ). get_or l i 0) ends ∙ ap (λ (k : ℕ). get_or (front ++ 10 ∷ []) k 0) e ∙ get_or-append_seam front 10 [] 0) in
    let rest : length (drop (i + 1) bytes) ≡ length bytes - (i + 1) = length-drop (i + 1) bytes in
    let some : 1 ≤ length (drop (i + 1) bytes) = omega (arith, long, inside, rest, lt) in
    at_drop_more (λ (l : List ℕ). length (lines_of l)) bytes i 0 lt ∙ lines_same (get_or bytes i 0) (drop (i + 1) bytes) not some

-- whether a script is a head, by its version and its commands
pub head_test : (has : Bool) (V N : Type 0) → V → (has ≡ false → N) → (has ≡ true → N → ⊥) → IsTrue (not has) ↔ (V × N)
head_test true V N v none some = ((λ e. absurd cc), λ h. absurd (some refl h.1))
head_test false V N v none some = ((λ e. (v, none refl)), λ h. refl)

-- a reader's answer that is no line of the head
pub no_head_line : (old new : LineReader) (before now : Option (List ℕ)) (text : List ℕ) (end : ReadEnd) → IsNextLine old new before now (Err end) →
    IsNoHeadLine old before now text (read_refusal end)
no_head_line old new before now text read.ReadFault q = q
no_head_line old new before now text read.TooLong q = q
no_head_line old new before now text read.NoMemory q = q

pub end_of_head : (old new : LineReader) (before now : Option (List ℕ)) (text : List ℕ) (refusal : Refusal) → ReadsEnd old new before now →
    new.number ≡ next_number old.number → IsEndRefusal text new.number refusal → IsNoHeadLine old before now text refusal
end_of_head old new before now text (no.Bad n f) q number h = (h.0 ∙ number, h.1, q.0, q.1, q.3)
end_of_head old new before now text no.NoMemory q number h = ([], q.0)
end_of_head old new before now text no.ReadFault q number h = elim h [ ]
end_of_head old new before now text no.WriteFault q number h = elim h [ ]

-- a line of the head that was read and judged
pub head_line_read : (before now : LineReader) (left_old left_new : Option (List ℕ)) (old new : List ℕ) (judged : HeadLine) →
    ReadsShort before now left_old left_new now.line.items → IsHeadLine old new now.line.items judged → IsNextHeadLine before now left_old left_new old new judged
head_line_read before now left_old left_new old new head.More q h = (now.line.items, q, h.0, h.1)
head_line_read before now left_old left_new old new (head.Begun script) q h = (subst (ReadsLine before now left_old left_new) h.1 q.0, h.2)
head_line_read before now left_old left_new old new (head.Bad f) q h = (h.0, inl (now.line.items, q.0, h.1))
