-- The tokens of a command and its answer, as they are taken off from the end.
use Rattle.std.proofs.{Common.◌≡◌, Common.ℕ, Common.List, Common.[], Common.◌∷◌, Common.◌++◌, Common.map, Common.refl, Common.sym, Common.ap, Common.◌∙◌, Common.Bool, Common.true, Common.false, Common.not, Common.codes, Common.Option, Common.Some, Common.None, Common.Bor, Common.append_assoc, lemmas.Bool.false≢true, lemmas.List.map_push, lemmas.List.same_from_push, lemmas.Slice.Eq.bytes_eq-Decides}
use Rattle.std.specs.Str.{bytes_eq}
use Rattle.nmgc_io.specs.{Text.spaced, Spaced.after_spaces, laws.Parts.spaced_after}
use Rattle.nmgc_trace_checker.specs.Reading.{answered_at}
use Rattle.nmgc_trace_checker.proofs.WordReads.{is_word, answered_takes, answered_again}

abbrev pub texts_of_words : List (Bor (List ℕ)) → List (List ℕ)
texts_of_words words = map (λ w. w.now) words

module _ (words front command : List (Bor (List ℕ))) (answer sign : Bor (List ℕ)) (e : words ≡ front ++ answer ∷ []) (f : front ≡ command ++ sign ∷ []) where
  parted : texts_of_words words ≡ (texts_of_words command ++ sign.now ∷ []) ++ answer.now ∷ []
  parted =
      ap texts_of_words e ∙ map_push (λ w. w.now) front answer ∙ ap (λ (l : List (List ℕ)). l ++ answer.now ∷ [])
      (ap texts_of_words f ∙ map_push (λ w. w.now) command sign)

  pub found_answer : bytes_eq sign.now (codes "=") ≡ true → answered_at (texts_of_words words) ≡ Some (texts_of_words command, answer.now)
  found_answer is =
      ap answered_at (parted ∙ append_assoc (texts_of_words command) (sign.now ∷ []) (answer.now ∷ []) ∙
      ap (λ (s : List ℕ). texts_of_words command ++ s ∷ answer.now ∷ []) (is_word sign.now (codes "=") is)) ∙
      answered_again (texts_of_words command) answer.now

  other_sign : bytes_eq sign.now (codes "=") ≡ false → (o : Option (List (List ℕ) × List ℕ)) → answered_at (texts_of_words words) ≡ o → o ≡ None
  other_sign differs None is = refl
  other_sign differs (Some p) is = absurd (
      let whole : (texts_of_words command ++ sign.now ∷ []) ++ answer.now ∷ [] ≡ (p.0 ++ codes "=" ∷ []) ++ p.1 ∷ [] =
      sym parted ∙ answered_takes (texts_of_words words) p is ∙ sym (append_assoc p.0 (codes "=" ∷ []) (p.1 ∷ [])) in
      let ends : (texts_of_words command ++ sign.now ∷ [] ≡ p.0 ++ codes "=" ∷ []) × (answer.now ≡ p.1) =
      same_from_push (texts_of_words command ++ sign.now ∷ []) (p.0 ++ codes "=" ∷ []) answer.now p.1 whole in
      let signs : (texts_of_words command ≡ p.0) × (sign.now ≡ codes "=") = same_from_push (texts_of_words command) p.0 sign.now (codes "=") ends.0 in
      false≢true (sym differs ∙ (bytes_eq-Decides sign.now (codes "=")).1 signs.1))

  pub no_sign : bytes_eq sign.now (codes "=") ≡ false → answered_at (texts_of_words words) ≡ None
  no_sign differs = other_sign differs (answered_at (texts_of_words words)) refl

pub is_so : (b : Bool) → not b ≡ false → b ≡ true
is_so true e = refl
is_so false e = absurd (false≢true (sym e))

-- the tokens with spaces between
pub joined_is : (words rest : List (Bor (List ℕ))) (first : Bor (List ℕ)) → words ≡ first ∷ rest →
    first.now ++ after_spaces (texts_of_words rest) ≡ spaced (texts_of_words words)
joined_is words rest first e = sym (spaced_after first.now (texts_of_words rest)) ∙ ap (λ (ws : List (Bor (List ℕ))). spaced (texts_of_words ws)) (sym e)
