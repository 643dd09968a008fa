-- A text is cut into lines and a line into tokens, and the tokens of a line spell it again.
use Rattle.std.proofs.{Common.◌≡◌, Common.◌≢◌, Common.◌<◌, Common.ℕ, Common.List, Common.[], Common.◌∷◌, Common.◌++◌, Common.length, Common.refl, Common.sym, Common.ap, Common.◌∙◌, Common.arith, Common.inl, Common.inr, lemmas.Bool.eq-eqb, lemmas.Bool.ne_eqb, lemmas.Bool.Decides.eqb_tells, lemmas.List.append-nil, lemmas.List.Elements.recursion_from_All}
use Rattle.std.specs.{Prelude.All, Prelude.◌==◌, Prelude.if◌then◌else◌, List.AllByRecursion}
use Rattle.nmgc_io.specs.{Text.onto_first, Text.lines_of, Text.tokens_of, Text.spaced, Spaced.after_spaces}

-- f cuts at a byte
pub record CutsAt (separator : ℕ) (f : List ℕ → List (List ℕ)) : Type 0 where
  pub more : (b : ℕ) (bytes : List ℕ) → f (b ∷ bytes) ≡ (if b == separator then [] ∷ f bytes else onto_first b (f bytes))

pub lines_cut : CutsAt 10 lines_of
lines_cut = record { more = λ b bytes. refl }

pub tokens_cut : CutsAt 32 tokens_of
tokens_cut = record { more = λ b bytes. refl }

-- the first part ends at the first separator
pub cut_on : (s : ℕ) (f : List ℕ → List (List ℕ)) (cuts : CutsAt s f) (front back : List ℕ) → AllByRecursion (λ b. b ≢ s) front →
    f (front ++ s ∷ back) ≡ front ∷ f back
cut_on s f cuts [] back none = rw (cuts.more s back, eq-eqb s s refl) refl
cut_on s f cuts (b ∷ front) back none = rw (cuts.more b (front ++ s ∷ back), ne_eqb b s none.0, cut_on s f cuts front back none.1) refl

pub cut_first : (s : ℕ) (f : List ℕ → List (List ℕ)) (cuts : CutsAt s f) (bytes front back : List ℕ) → All (λ b. b ≢ s) front →
    bytes ≡ front ++ s ∷ back → f bytes ≡ front ∷ f back
cut_first s f cuts bytes front back none e = ap f e ∙ cut_on s f cuts front back (recursion_from_All (λ b. b ≢ s) front none)

last_on : (b : ℕ) (bytes : List ℕ) → AllByRecursion (λ b. b ≢ 10) (b ∷ bytes) → lines_of (b ∷ bytes) ≡ (b ∷ bytes) ∷ []
last_on b [] none = rw (ne_eqb b 10 none.0) refl
last_on b (c ∷ bytes) none = rw (lines_cut.more b (c ∷ bytes), ne_eqb b 10 none.0, last_on c bytes none.1) refl

-- a line without a line feed is the last
pub last_line : (bytes : List ℕ) → 0 < length bytes → All (λ b. b ≢ 10) bytes → lines_of bytes ≡ bytes ∷ []
last_line [] some none = absurd (omega arith)
last_line (b ∷ bytes) some none = last_on b bytes (recursion_from_All (λ b. b ≢ 10) (b ∷ bytes) none)

-- a token without a space after it is the last
pub last_token : (bytes : List ℕ) → AllByRecursion (λ b. b ≢ 32) bytes → tokens_of bytes ≡ bytes ∷ []
last_token [] none = refl
last_token (b ∷ bytes) none = rw (ne_eqb b 32 none.0, last_token bytes none.1) refl

-- THE LINE OF TOKENS

onto_first_spaced : (b : ℕ) (tokens : List (List ℕ)) → spaced (onto_first b tokens) ≡ b ∷ spaced tokens
onto_first_spaced b [] = refl
onto_first_spaced b (w ∷ []) = refl
onto_first_spaced b (w ∷ v ∷ ws) = refl

-- a line has a first token
tokens_some : (line : List ℕ) → (w : List ℕ) × (ws : List (List ℕ)) × (tokens_of line ≡ w ∷ ws)
tokens_some [] = ([], [], refl)
tokens_some (b ∷ line) = elim (eqb_tells b 32) [
  | inl p ↦ ([], tokens_of line, rw p.0 refl)
  | inr p ↦ let more = tokens_some line in (b ∷ more.0, more.1, rw (p.0, more.2) refl)
]

-- the tokens of a line spell the line
pub spaced-tokens_of : (line : List ℕ) → spaced (tokens_of line) ≡ line
spaced-tokens_of [] = refl
spaced-tokens_of (b ∷ line) = elim (eqb_tells b 32) [
  | inl p ↦
      let some = tokens_some line in
      let rest : spaced (some.0 ∷ some.1) ≡ line = rw (← some.2) (spaced-tokens_of line) in
      rw (p.0, some.2) (cc (p.1, rest))
  | inr p ↦ rw (p.0, onto_first_spaced b (tokens_of line)) (ap (λ (l : List ℕ). b ∷ l) (spaced-tokens_of line))
]

-- the first token and the tokens behind spaces
pub spaced_after : (token : List ℕ) (tokens : List (List ℕ)) → spaced (token ∷ tokens) ≡ token ++ after_spaces tokens
spaced_after token [] = sym (append-nil token)
spaced_after token (v ∷ vs) = ap (λ (l : List ℕ). token ++ 32 ∷ l) (spaced_after v vs)
