-- Reading entries in order, as a loop does.
use Rattle.nmgc_script.proofs.Vocabulary.{◌≡◌, ℕ, ◌+◌, ◌<◌, List, [], ◌∷◌, ◌++◌, Result, Ok, Err, IfOk, refl, ap, sym, ◌∙◌, append_assoc, append-nil, Command, Cause, LineFault, ScriptFault, Config, Version, Entry, tokens_of, ◌>>=◌, Gives, GivesAt, FailsAt, placed, at_line, section_at, entry_at, with_entry, rest_at, programs_at, threads_at}
use Rattle.nmgc_script.specs.declared.fault.Cause.TheVariants as cause
use Rattle.nmgc_script.specs.declared.fault.LineFault.TheVariants as fault
use Rattle.nmgc_script.specs.declared.fault.ScriptFault.TheVariants as script_fault
use Rattle.nmgc_script.specs.declared.sections.Entry.TheVariants as entry

-- a result of a line, with the line's number
pub gives_at : {X : Type 0} (n : ℕ) (given : Result X LineFault) (read : Result X Cause) → Gives given read → GivesAt (λ x. x) (placed n given) (at_line n read)
gives_at n (Ok x) read h = rw h refl
gives_at n (Err fault.NoMemory) read h = tt
gives_at n (Err (fault.Bad c)) read h = rw h refl

-- a fault of the first step is one of both
pub fails_at_bind : {A B : Type 0} (r : Result A (ℕ × Cause)) (f : A → Result B (ℕ × Cause)) (e : ScriptFault) → FailsAt e r → FailsAt e (r >>= f)
fails_at_bind r f script_fault.NoMemory h = tt
fails_at_bind r f (script_fault.Bad l c) h = rw h refl

-- the programs before, the program that is read, and the programs still to read
abbrev pub with_before : List (List Command) → List Command → Result (List Command × List (List Command)) (ℕ × Cause) → Result (List (List Command)) (ℕ × Cause)
with_before threads program read = read >>= λ p. Ok (threads ++ (program ++ p.0) ∷ p.1)

pub starts : (v : Version) (h : Config) (lines : List (ℕ × List ℕ)) → with_before [] [] (rest_at v h 1 lines) ≡ programs_at v h lines
unfolding programs_at
starts v h lines = refl

regroup_section : (threads : List (List Command)) (program : List Command) (read : Result (List Command × List (List Command)) (ℕ × Cause)) →
    with_before threads program (read >>= λ others. Ok (with_entry entry.Section others)) ≡ with_before (threads ++ program ∷ []) [] read
regroup_section threads program (Ok p) = ap Ok (rw (append-nil program, append_assoc) refl)
regroup_section threads program (Err e) = refl

regroup_order : (c : Command) (threads : List (List Command)) (program : List Command) (read : Result (List Command × List (List Command)) (ℕ ×
    Cause)) → with_before threads program (read >>= λ others. Ok (with_entry (entry.Command c) others)) ≡ with_before threads (program ++ c ∷ []) read
regroup_order c threads program (Ok p) = ap Ok (rw append_assoc refl)
regroup_order c threads program (Err e) = refl

module _ (v : Version) (h : Config) (n : ℕ) (threads : List (List Command)) (program : List Command) (before : List (ℕ × List ℕ)) (line : ℕ ×
    List ℕ) (lines : List (ℕ × List ℕ)) (total : Result (List (List Command)) (ℕ × Cause)) (split : before ≡ line ∷
    lines) (so_far : with_before threads program (rest_at v h n before) ≡ total) where
  pub begins : at_line line.0 (entry_at v h n (tokens_of line.1)) ≡ Ok entry.Section →
      with_before (threads ++ program ∷ []) [] (rest_at v h (n + 1) lines) ≡ total
  unfolding rest_at
  begins e = sym (regroup_section threads program (rest_at v h (n + 1) lines)) ∙ (rw (split, e) at so_far)

  pub goes_on : (c : Command) → at_line line.0 (entry_at v h n (tokens_of line.1)) ≡ Ok (entry.Command c) →
      with_before threads (program ++ c ∷ []) (rest_at v h n lines) ≡ total
  unfolding rest_at
  goes_on c e = sym (regroup_order c threads program (rest_at v h n lines)) ∙ (rw (split, e) at so_far)

  pub fails : (e : ScriptFault) → FailsAt e (at_line line.0 (entry_at v h n (tokens_of line.1))) → FailsAt e total
  unfolding rest_at
  fails script_fault.NoMemory f = tt
  fails (script_fault.Bad l c) f = sym (rw (split, f) at so_far)

pub is_done : (v : Version) (h : Config) (n : ℕ) (threads : List (List Command)) (program : List Command) (before : List (ℕ ×
    List ℕ)) (total : Result (List (List Command)) (ℕ × Cause)) → before ≡ [] → with_before threads program (rest_at v h n before) ≡ total →
    total ≡ Ok (threads ++ program ∷ [])
unfolding rest_at
is_done v h n threads program before total none so_far = sym (rw (none, append-nil) at so_far)

-- the result of a line's tokens, with the line's number
pub line_read : {X : Type 0} (reads : List (List ℕ) →
    Result X Cause) (number : ℕ) (line : List ℕ) (words : List (List ℕ)) (given : Result X LineFault) (out : Result X ScriptFault) →
    words ≡ tokens_of line → Gives given (reads words) → out ≡ placed number given → GivesAt (λ x. x) out (at_line number (reads (tokens_of line)))
line_read reads number line words given out same gives is = rw (is, ← same) (gives_at number given (reads words) gives)

pub ok_read : {X : Type 0} (out : Result X ScriptFault) (read : Result X (ℕ × Cause)) (x : X) → out ≡ Ok x → GivesAt (λ x. x) out read → read ≡ Ok x
ok_read out read x is h = rw is at h

pub err_read : {X : Type 0} (out : Result X ScriptFault) (read : Result X (ℕ × Cause)) (e : ScriptFault) → out ≡ Err e → GivesAt (λ x. x) out read →
    FailsAt e read
err_read out read e is h = rw is at h

-- the result of a line without a fault
pub placed_ok : {X : Type 0} (n : ℕ) (given : Result X LineFault) (x : X) → placed n given ≡ Ok x → given ≡ Ok x
placed_ok n (Ok y) x e = cc
placed_ok n (Err fault.NoMemory) x e = absurd cc
placed_ok n (Err (fault.Bad c)) x e = absurd cc

-- a section began within the number of threads
pub within : (n number limit : ℕ) (given : Result Entry LineFault) (out : Result Entry ScriptFault) → out ≡ placed number given →
    out ≡ Ok entry.Section → IfOk given (λ e. e ≡ entry.Section → n < limit) → n < limit
within n number limit given out is ok h = (rw (placed_ok number given entry.Section (sym is ∙ ok)) at h) refl

-- the text has no section line
pub no_section : (end number : ℕ) (v : Version) (h : Config) (before : List (ℕ × List ℕ)) → before ≡ [] → number ≡ end →
    threads_at v end h before ≡ Err (number, cause.Thread)
unfolding threads_at
no_section end number v h before none is = rw (none, is) refl

module _ (end : ℕ) (v : Version) (h : Config) (before : List (ℕ × List ℕ)) (line : ℕ × List ℕ) (lines : List (ℕ × List ℕ)) (split : before ≡ line ∷ lines) where
  pub first_fails : (e : ScriptFault) → FailsAt e (at_line line.0 (section_at v h 0 (tokens_of line.1))) → FailsAt e (threads_at v end h before)
  unfolding threads_at
  first_fails e f = rw split (fails_at_bind (at_line line.0 (section_at v h 0 (tokens_of line.1))) _ e f)

  pub first_begins : (x : Entry) (out : Result (List (List Command)) ScriptFault) → at_line line.0 (section_at v h 0 (tokens_of line.1)) ≡ Ok x →
      GivesAt (λ t. t) out (programs_at v h lines) → GivesAt (λ t. t) out (threads_at v end h before)
  unfolding threads_at
  first_begins x out e g = rw (split, e) g
