-- The texts that a checker keeps of lines that made names due.
use Rattle.nmgc_trace_checker.proofs.Vocabulary.{Begun, Meaning, Happens, Bool, false, true, false≢true, sym, ◌∙◌, Contains-append_left, Contains-push, length, take, take_more, get_or, ◌<◌, ◌+◌, ◌≢◌}
use Rattle.nmgc_barrier_laws.specs.declared.debt.Debt.{Debt}
use Rattle.nmgc_trace_checker.specs.Notes.{AreKept, HasKept, HasLine, IsOwedIn, KeepsLines}
use Rattle.nmgc_trace_checker.proofs.Owing.{from_line}
use Rattle.nmgc_trace_checker.proofs.Vocabulary.{IsNoted, DueLine, nothing, List, [], inl, inr, string_bytes, subst, ℕ, ◌++◌, ◌∷◌, ◌≡◌, Contains-push_cases, Contains}

pub noted_same : (n : ℕ) (text : List ℕ) (lines : List DueLine) → IsNoted n text lines lines
noted_same n text lines line is = inl is

pub noted_push : (n : ℕ) (text : List ℕ) (old new : List DueLine) (d : DueLine) → new ≡ old ++ d ∷ [] → d.number ≡ n → string_bytes d.text ≡ text →
    IsNoted n text old new
noted_push n text old new d are number same line is = elim (Contains-push_cases old d line (subst (λ (ls : List DueLine). Contains ls line) are is)) [
  | inl before ↦ inl before
  | inr now ↦ inr (subst (λ (l : DueLine). l.number ≡ n) now number, subst (λ (l : DueLine). string_bytes l.text ≡ text) now same)
]

pub forgotten : (old new : List DueLine) → new ≡ [] → (line : DueLine) → Contains new line → Contains old line
forgotten old new none line is = absurd (nothing line (subst (λ (ls : List DueLine). Contains ls line) none is))

pub noted_after : (n : ℕ) (text : List ℕ) (old mid new : List DueLine) → ((line : DueLine) → Contains mid line → Contains old line) →
    IsNoted n text mid new → IsNoted n text old new
noted_after n text old mid new were noted line is = elim (noted line is) [ inl before ↦ inl (were line before) | inr now ↦ inr now ]

-- the lines that are kept
pub kept_same : (n : ℕ) (is_due : Bool) (lines : List DueLine) → is_due ≡ false → HasKept is_due n lines lines
kept_same n is_due lines free = record { all = λ line is. is; this = λ due. absurd (false≢true (sym free ∙ due)) }

pub kept_push : (n : ℕ) (is_due : Bool) (old new : List DueLine) (d : DueLine) → new ≡ old ++ d ∷ [] → d.number ≡ n → HasKept is_due n old new
kept_push n is_due old new d are number = record {
  all = λ line is. subst (λ (ls : List DueLine). Contains ls line) (sym are) (Contains-append_left old (d ∷ []) line is);
  this = λ due. (d, subst (λ (ls : List DueLine). Contains ls d) (sym are) (Contains-push old d), number);
}

pub keeps_after : (n : ℕ) (p : Begun) (goes_on is_due : Bool) (old mid new : List DueLine) → ((debt : Debt) → IsOwedIn p debt → goes_on ≡ true) →
    ((debt : Debt) → IsOwedIn p debt → debt.line ≡ n → is_due ≡ true) → (goes_on ≡ true → mid ≡ old) → HasKept is_due n mid new → KeepsLines n p old new
keeps_after n p goes_on is_due old mid new on due same kept debt o (inl e) =
    let k : HasLine new n = kept.this (due debt o e) in (k.0, k.1, k.2 ∙ sym e)
keeps_after n p goes_on is_due old mid new on due same kept debt o (inr l) =
    (l.0, kept.all l.0 (subst (λ (ls : List DueLine). Contains ls l.0) (sym (same (on debt o))) l.1), l.2)

-- the lines of all debts are kept after a line that happened
pub all_kept : (n : ℕ) (p next : Begun) (t : Meaning) (old new : List DueLine) → Happens n p t next → KeepsLines n next old new → AreKept p old →
    AreKept next new
all_kept n p next t old new happens keeps were debt o = keeps debt o (elim (from_line n debt p next t happens o) [
  | inl e ↦ inl e
  | inr before ↦ inr (were debt before)
])

-- one more line that has another number
pub none_more : (lines : List DueLine) (i n : ℕ) (blank : DueLine) → i < length lines → ((line : DueLine) → Contains (take i lines) line → line.number ≢ n) →
    (get_or lines i blank).number ≢ n → (line : DueLine) → Contains (take (i + 1) lines) line → line.number ≢ n
none_more lines i n blank lt before now line is e =
    elim (Contains-push_cases (take i lines) (get_or lines i blank) line (subst (λ (ls : List DueLine). Contains ls line) (take_more lines i blank lt) is)) [
      | inl old ↦ before line old e
      | inr new ↦ now (subst (λ (l : DueLine). l.number ≡ n) (sym new) e)
    ]
