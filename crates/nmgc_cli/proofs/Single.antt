-- A list of one argument.
use Rattle.nmgc_cli.proofs.Vocabulary.{◌≡◌, ◌≤◌, ◌<◌, ◌∙◌, ℕ, List, [], ◌∷◌, length, get_or, sym, ap, arith, Bool, IsTrue, bytes_eq, bytes_eq-Decides}

-- a list of one item is that item alone
pub single : {A : Type 0} (xs : List A) (x : A) → 1 ≤ length xs → length xs < 2 → x ≡ get_or xs 0 x → xs ≡ x ∷ []
single [] x some few e = absurd (omega arith)
single (y ∷ []) x some few e = ap (λ z. z ∷ []) (sym e)
single (y ∷ z ∷ xs) x some few e = absurd (omega arith)

-- the test of one argument is the test of the list with it alone
pub is_argument : (x y argument : List ℕ) (r : Bool) → y ≡ x → r ≡ bytes_eq y argument → (IsTrue r → x ∷ [] ≡ argument ∷ []) × (x ∷ [] ≡ argument ∷ [] → IsTrue r)
is_argument x y argument r e test = (
  (λ (t : IsTrue r). ap (λ (z : List ℕ). z ∷ []) (sym e ∙ (bytes_eq-Decides y argument).0 (sym test ∙ t))),
  (λ (q : x ∷ [] ≡ argument ∷ []). let same : x ≡ argument = cc in test ∙ (bytes_eq-Decides y argument).1 (e ∙ same)),
)
