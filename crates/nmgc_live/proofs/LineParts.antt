-- Lines that are put together from parts, as a reader takes them from its buffer.
use Rattle.std.proofs.Common.{ℕ, ◌≡◌, ◌≢◌, ◌+◌, ◌≤◌, List, [], ◌∷◌, ◌++◌, length, drop, refl, sym, ap, subst, ◌∙◌, arith, append_assoc, length-append, Option, None, Some}
use Rattle.std.specs.Prelude.{Bool, true, false, Ok, Err}
use Rattle.std.specs.Io.KnownBytes.{Consumes, Keeps, IsAtEnd}
use Rattle.std.proofs.lemmas.List.{drop-drop, drop_at, nil_from_length}
use Rattle.nmgc_io.specs.declared.ends.ReadEnd.{ReadEnd}
use Rattle.nmgc_io.specs.declared.ends.ReadEnd.TheVariants.{NoMemory, ReadFault}
use Rattle.nmgc_live.specs.Lines.{HasNoLineFeed, HoldsPart, IsNextLine, ReadsCut, ended_as, unread, whole_of}
use Rattle.nmgc_live.specs.declared.lines.{LineReader.LineReader, TheConstants.MAX_LINE_BYTES}

-- the bytes behind a part and its line feed
pub unread_after : (bytes part rest : List ℕ) (start : ℕ) → drop start bytes ≡ part ++ 10 ∷ rest → drop (start + (length part + 1)) bytes ≡ rest
unread_after bytes part rest start e =
    sym (drop-drop (length part + 1) start bytes)
    ∙ ap (λ l. drop (length part + 1) l) e
    ∙ sym (drop-drop 1 (length part) (part ++ 10 ∷ rest))
    ∙ ap (λ l. drop 1 l) (drop_at part (10 ∷ rest) (length part) refl)

pub consumes_none : (a : Option (List ℕ)) → Consumes a a []
consumes_none None = tt
consumes_none (Some u) = refl

pub consumes_on : (a b c : Option (List ℕ)) (xs ys : List ℕ) → Consumes a b xs → Consumes b c ys → Consumes a c (xs ++ ys)
consumes_on None b c xs ys p q = tt
consumes_on (Some u) None c xs ys p q = elim p [ ]
consumes_on (Some u) (Some v) None xs ys p q = elim q [ ]
consumes_on (Some u) (Some v) (Some w) xs ys p q = p ∙ ap (λ l. xs ++ l) q ∙ sym (append_assoc xs ys w)

pub consumes_kept : (a b c : Option (List ℕ)) (xs : List ℕ) → Consumes a b xs → Keeps b c → Consumes a c xs
consumes_kept None b c xs p q = tt
consumes_kept (Some u) None c xs p q = elim p [ ]
consumes_kept (Some u) (Some v) None xs p q = elim q [ ]
consumes_kept (Some u) (Some v) (Some w) xs p q = p ∙ ap (λ l. xs ++ l) (sym q)

module _ (old new : LineReader) (before now : Option (List ℕ)) (taken part : List ℕ) (c : Consumes before now taken) where
  -- a line with its line feed
  pub line_whole : unread old ++ taken ≡ part ++ 10 ∷ unread new → HasNoLineFeed part → HoldsPart new.is_long new.line.items part →
      IsNextLine old new before now (Ok (whole_of new.is_long))
  line_whole u n h = by_length new.is_long refl
    where
      by_length : (b : Bool) → new.is_long ≡ b → IsNextLine old new before now (Ok (whole_of b))
      by_length true e = (part, (taken, c, u, n), h.long e)
      by_length false e = let same : part ≡ new.line.items = sym (h.kept e) in (
        (taken, c, subst (λ (l : List ℕ). unread old ++ taken ≡ l ++ 10 ∷ unread new) same u, subst HasNoLineFeed same n),
        subst (λ (l : List ℕ). length l ≤ MAX_LINE_BYTES) same (h.short e),
      )

  -- the end of the source, behind a part of a line or behind a line
  pub line_at_end : unread old ++ taken ≡ part → HasNoLineFeed part → HoldsPart new.is_long new.line.items part → unread new ≡ [] → IsAtEnd now →
      IsNextLine old new before now (Ok (ended_as new.is_long new.line.items))
  line_at_end u n h none end = by_length new.is_long new.line.items refl refl
    where
      cut : (unread old ++ taken ≢ []) → ReadsCut old new before now
      cut some = ((taken, c, subst HasNoLineFeed (sym u) n), some, none, end)

      none_in : unread old ++ taken ≡ [] → length part ≡ 0
      none_in e = ap (λ (l : List ℕ). length l) (sym u ∙ e)

      by_length : (b : Bool) (line : List ℕ) → new.is_long ≡ b → new.line.items ≡ line → IsNextLine old new before now (Ok (ended_as b line))
      by_length true line e f = cut (λ empty. (let long = h.long e in let zero_long = none_in empty in absurd (omega (arith, long, zero_long))))
      by_length false (b ∷ line) e f =
          let same : length part ≡ length (b ∷ line) = ap (λ (l : List ℕ). length l) (sym (h.kept e) ∙ f) in
          cut (λ empty. (let zero_long = none_in empty in absurd (omega (arith, same, zero_long))))
      by_length false [] e f =
          let empty : unread old ++ taken ≡ [] = u ∙ (sym (h.kept e) ∙ f) in
          let sum : length (unread old ++ taken) ≡ length (unread old) + length taken = length-append (unread old) taken in
          let zero_sum : length (unread old ++ taken) ≡ 0 = ap (λ (l : List ℕ). length l) empty in
          let first : unread old ≡ [] = nil_from_length (unread old) (omega (arith, sum, zero_sum)) in
          let second : taken ≡ [] = nil_from_length taken (omega (arith, sum, zero_sum)) in
          (subst (Consumes before now) second c, first, none, end)

  -- the source failed, and no line feed came
  pub line_fault : (end : ReadEnd) → end ≡ ReadFault → unread old ++ taken ≡ part → HasNoLineFeed part → IsNextLine old new before now (Err end)
  line_fault end e u n = subst (λ (x : ReadEnd). IsNextLine old new before now (Err x)) (sym e) (taken, c, subst HasNoLineFeed (sym u) n)

  pub line_refused : (end : ReadEnd) → end ≡ NoMemory → IsNextLine old new before now (Err end)
  line_refused end e = subst (λ (x : ReadEnd). IsNextLine old new before now (Err x)) (sym e) (taken, c)
