-- The output for arguments and bytes if nothing prevents the run.
use Rattle.nmgc_fin.proofs.Vocabulary.{◌≡◌, ◌≤◌, ◌+◌, ℕ, List, [], ◌∷◌, ◌++◌, length, refl, sym, ◌∙◌, ap, subst, arith, Option, Some, None, inl, inr, ◌⊎◌, append-nil, Name, Job, FinStatus, Done, Usage, ReadFault, WriteFault, BadReport, TooLong, NoMemory, lines_of, IsBad, NamesOf, AreJobsOf, IsFirstBad, Asks, IsRead, Says, IsWritten, IsComplete, MAX_REPORT_BYTES, taken_within}

-- lines that give names have no bad line
none_bad : (before : List (List ℕ)) (line : List ℕ) (after : List (List ℕ)) (names : List Name) → NamesOf (before ++ line ∷ after) names → IsBad line → ⊥
none_bad [] line after names (NamesOf.other _ _ _ n h) bad = n bad.0
none_bad [] line after (_ ∷ _) (NamesOf.dead _ _ name _ d h) bad = bad.1 name d
none_bad (x ∷ before) line after names (NamesOf.other _ _ _ n h) bad = none_bad before line after names h bad
none_bad (x ∷ before) line after (_ ∷ names) (NamesOf.dead _ _ name _ d h) bad = none_bad before line after names h bad

no_first_bad : (lines : List (List ℕ)) (names : List Name) (number : ℕ) → NamesOf lines names → IsFirstBad lines number → ⊥
no_first_bad lines names number of bad = none_bad bad.before bad.line bad.after names (subst (λ (l : List (List ℕ)). NamesOf l names) bad.all of) bad.bad

-- known bytes that were read to their end were all read
whole : (bytes read : List ℕ) (new : Option (List ℕ)) → IsRead (Some bytes) new read → bytes ≡ read
whole bytes read None is = absurd is.taken
whole bytes read (Some left) is = is.taken ∙ ap (λ (l : List ℕ). read ++ l) is.end ∙ append-nil read

module _ (arguments : List (List ℕ)) (bytes : List ℕ) (workers : ℕ) (jobs : List Job) (new : Option (List ℕ)) (rose : Type 0)
    (asks : Asks arguments workers) (within : length bytes ≤ MAX_REPORT_BYTES) (are : AreJobsOf (lines_of bytes) jobs) (none : rose → ⊥) where
  fine : (reported : FinStatus) (text : List ℕ) → Says arguments (Some bytes) new rose reported text → (reported ≡ Done) ⊎ (reported ≡ NoMemory)
  fine Done text h = inl refl
  fine NoMemory text h = inr refl
  fine Usage text h = absurd (h.0 workers asks)
  fine ReadFault text h = absurd (none h.3)
  fine TooLong text h = absurd (let t = taken_within bytes new (MAX_REPORT_BYTES + 1) h.2 in omega (arith, t, within))
  fine BadReport text h =
      let same : bytes ≡ h.2 = whole bytes h.2 new h.3 in
      absurd (no_first_bad (lines_of bytes) _ h.4.0 are.0 (subst (λ (b : List ℕ). IsFirstBad (lines_of b) h.4.0) (sym same) h.4.1))
  fine WriteFault text h = absurd h

written_so : (taken taken' : Option (List ℕ)) (rose : Type 0) (reported : FinStatus) (text : List ℕ) (status : FinStatus) → (rose → ⊥) → (reported ≡ Done) ⊎
    (reported ≡ NoMemory) → IsWritten taken taken' rose reported text status → (status ≡ Done) ⊎ (status ≡ NoMemory)
written_so taken taken' rose reported text status none (inl e) (inl w) = inl (w.0 ∙ e)
written_so taken taken' rose reported text status none (inr e) (inl w) = inr (w.0 ∙ e)
written_so taken taken' rose reported text status none t (inr w) = absurd (none w.1)

pub completes : (arguments : List (List ℕ)) (left left' taken taken' : Option (List ℕ)) (read_fault write_fault : Type 0) (reported : FinStatus)
    (text : List ℕ) (status : FinStatus) → Says arguments left left' read_fault reported text → IsWritten taken taken' write_fault reported text status →
    IsComplete arguments left read_fault write_fault status
completes arguments left left' taken taken' read_fault write_fault reported text status says written bytes workers jobs asks is within are no_read no_write =
    written_so taken taken' write_fault reported text status no_write
    (fine arguments bytes workers jobs left' read_fault asks within are no_read reported text (rw is at says)) written
