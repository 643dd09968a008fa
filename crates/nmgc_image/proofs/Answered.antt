-- The result for a text whose lines were read as far as they can be taken.
use Rattle.nmgc_image.proofs.Vocabulary.{◌≡◌, ◌≤◌, ℕ, List, [], ◌++◌, map, length, refl, sym, ap, subst, ◌∙◌, Bool, true, Some, None, Result, Ok, Err, slice_get, IfOk, IfErr, drop_all, Name, Image, Reader, ImageFault, IsFirstBad, IsFaultOf, ended, Spells, tokens_of, cut, line_at, start, run, image_of, FindsDeclared, AreRead, IsAnswer}
use Rattle.nmgc_image.specs.declared.fault.ImageFault.TheVariants as fault
use Rattle.nmgc_image.proofs.{Cutting.cut_is_text, Steps.line_there, Steps.none_after, Steps.runs_all, Steps.taken_is, FirstBad.only, FirstBad.found, FirstBad.first_bad, FirstBad.not_spelled}

pub lost_answer : (bytes : List ℕ) → IsAnswer bytes (Err fault.NoMemory)
lost_answer bytes = record { found = tt; only = λ image s. refl; fault = tt }

module _ (bytes : List ℕ) (d : Name →
    Bool) (agrees : FindsDeclared d (cut bytes).lines) (r : Reader) (number : ℕ) (rest : List ℕ) (read : AreRead d bytes r number rest) where
  bad_next : (line : List ℕ) → slice_get (cut bytes).lines read.taken.before ≡ Some line → line_at d r (tokens_of line) ≡ None
  bad_next line at =
      let there = line_there (cut bytes).lines read.taken.before line at in
      read.stuck line there.0 (sym read.taken.lines_are ∙ there.1)

  -- at the end of the lines the rest has no line
  rest_left : length (cut bytes).lines ≤ read.taken.before → rest ≡ (cut bytes).rest
  rest_left le =
      let none : (cut rest).lines ≡ [] = sym read.taken.lines_are ∙ drop_all read.taken.before (cut bytes).lines le in
      sym (cut_is_text rest) ∙ ap (λ (l : List (List ℕ)). ended l ++ (cut rest).rest) none ∙ read.taken.rest_is

  not_done : ((r.ended ≡ true) × (rest ≡ []) → ⊥) → length (cut bytes).lines ≤ read.taken.before → r.ended ≡ true → (cut bytes).rest ≡ [] → ⊥
  not_done open_ le is_yes none = open_ (is_yes, rest_left le ∙ none)

  pub bad_answer : ((r.ended ≡ true) × (rest ≡ []) → ⊥) → IsAnswer bytes (Err (fault.Bad number))
  bad_answer open_ =
      let t = read.taken in
      record {
        found = tt;
        only = λ image s. absurd (not_spelled bytes d agrees t.before r t.within t.runs bad_next (not_done open_) image s);
        fault = subst (IsFirstBad bytes) (sym t.number_is) (first_bad bytes d agrees t.before r t.within t.runs bad_next (not_done open_));
      }

  whole_runs : rest ≡ [] → run d start (map tokens_of (cut bytes).lines) ≡ Some r
  whole_runs none = runs_all d r (cut bytes).lines read.taken.before (none_after (cut bytes).lines read.taken.before (cc (read.taken.lines_are, none))) read.taken.runs

  whole_spells : r.ended ≡ true → rest ≡ [] → Spells bytes (image_of r)
  whole_spells is_yes none = found bytes d agrees r (whole_runs none) is_yes (sym read.taken.rest_is ∙ ap (λ (l : List ℕ). (cut l).rest) none)

  pub whole_answer : r.ended ≡ true → rest ≡ [] → (result : Result Image ImageFault) → IfOk result (λ image. image ≡ image_of r) →
      IfErr result (λ f. f ≡ fault.NoMemory) → IsAnswer bytes result
  whole_answer is_yes none (Ok image) is lost = record {
    found = subst (Spells bytes) (sym is) (whole_spells is_yes none);
    only = λ other s. taken_is d r (map tokens_of (cut bytes).lines) other (whole_runs none) (only bytes d agrees other s).0 ∙ sym is;
    fault = tt;
  }
  whole_answer is_yes none (Err f) is lost = record { found = tt; only = λ image s. lost; fault = subst (IsFaultOf bytes) (sym lost) tt }
