-- Whether commands are left, by the number done of each program.
use Rattle.nmgc_cycle.proofs.{Vocabulary.ℕ, Vocabulary.suc, Vocabulary.◌≡◌, Vocabulary.◌-◌, Vocabulary.◌<◌, Vocabulary.◌↔◌, Vocabulary.List, Vocabulary.[], Vocabulary.◌∷◌, Vocabulary.length, Vocabulary.arith, Vocabulary.refl, Vocabulary.Bool, Vocabulary.true, Vocabulary.false, Vocabulary.IsTrue, Vocabulary.nat_lt, Vocabulary.length-drop, Vocabulary.list_any_at, Vocabulary.Command, Vocabulary.RoundRows, Vocabulary.Script, Vocabulary.has_left, Vocabulary.program_of, Vocabulary.answered_count, Vocabulary.SomeIsLeft, Vocabulary.lt-ltb, Vocabulary.slice_index, stops.Begins.IsLeft}

-- some program that isn't used up
abbrev SomeProgram : List (List Command) → Type 0
SomeProgram left = (j : ℕ) × (j < length left) × (0 < length (program_of left j))

found : (left : List (List Command)) → has_left left ≡ true → SomeProgram left
found [] e = absurd cc
found ([] ∷ left) e = let more = found left e in (suc more.0, omega (arith, more.1), more.2)
found ((c ∷ program) ∷ left) e = (0, omega arith, omega arith)

module _ (script : Script) (rounds : List RoundRows) (left : List (List Command)) (positions : List ℕ)
    (h : IsLeft script rounds left)
    (reported : (k : ℕ) → k < length script.threads → slice_index positions k ≡ answered_count rounds k) where
  -- the number of commands left of a program
  count : (k : ℕ) → k < length script.threads → length (program_of left k) ≡ length (program_of script.threads k) - slice_index positions k
  count k lt = cc (h.each k, length-drop (answered_count rounds k) (program_of script.threads k), reported k lt)

  to : SomeIsLeft script.threads positions → has_left left ≡ true
  to s =
      let many = h.count in
      let here = count s.0 s.1 in
      let less = s.2 in
      let some : 0 < length (program_of left s.0) = omega (arith, here, less) in
      list_any_at (λ (program : List Command). nat_lt 0 (length program)) left s.0 [] (omega (arith, many, s.1)) (lt-ltb 0 (length (program_of left s.0)) some)

  from : has_left left ≡ true → SomeIsLeft script.threads positions
  from e =
      let f = found left e in
      let many = h.count in
      let lt : f.0 < length script.threads = omega (arith, many, f.1) in
      let here = count f.0 lt in
      let some = f.2 in
      (f.0, lt, omega (arith, here, some))

  pub left_is : (r : Bool) → IsTrue r ↔ SomeIsLeft script.threads positions → has_left left ≡ r
  left_is true d = to (d.0 refl)
  left_is false d = by (has_left left) refl
    where
      by : (b : Bool) → has_left left ≡ b → has_left left ≡ false
      by false e = e
      by true e = let bad : false ≡ true = d.1 (from e) in cc
