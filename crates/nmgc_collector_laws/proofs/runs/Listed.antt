-- Short lists that are complete.
use Rattle.nmgc_collector_laws.proofs.Vocabulary.{ℕ, ◌≡◌, [], ◌∷◌, get_or, replicate, arith, subst, inl, inr, Contains, get_or-eq_default, cases_lt, get_or-replicate, Name, Lists, contains_head, contains_cases, none_in}
use Rattle.std.proofs.Math.ListN.{length-replicate}

-- a list of one item many times, read also past its end
pub all_same : {A : Type 0} (count : ℕ) (x : A) (n : ℕ) → get_or (replicate count x) n x ≡ x
all_same {A} count x n = elim (cases_lt n count) [
  | inl lt ↦ get_or-replicate count n x x lt
  | inr ge ↦ get_or-eq_default (replicate count x) x (omega (arith, length-replicate {A = A} count x))
]

-- nothing has P
pub lists_none : (P : Name → Type 0) → ((n : Name) → P n → ⊥) → Lists P []
lists_none P none = record { ordered = tt; sound = λ n c. absurd (none_in n c); complete = λ n p. absurd (none n p) }

-- one name has P
pub lists_one : (P : Name → Type 0) (x : Name) → P x → ((n : Name) → P n → x ≡ n) → Lists P (x ∷ [])
lists_one P x p only = record {
  ordered = tt;
  sound = λ n c. elim (contains_cases x [] n c) [ inl e ↦ subst P e p | inr d ↦ absurd (none_in n d) ];
  complete = λ n q. let Q : Name → Type 0 = Contains (x ∷ []) in subst Q (only n q) (contains_head x []);
}
