-- Numbers in an ordered set.
use Rattle.nmgc_field_checker.proofs.Vocabulary.{AreAdded, AreWithout, BTreeSet, Contains, Equal, Greater, IsTrue, Less, Ordering, Updates, btree_set_contains_iff, cases_eq, contains, exact_unsigned, false, false_of, false≢true, inl, inr, is_at, is_eq, nat_cmp, nat_cmp_total, refl, subst, sym, true, ℕ, ◌∙◌, ◌≡◌, ◌≢◌, ◌↔◌}

-- a set has a number exactly if its keys contain it
pub has_iff : (s : BTreeSet ℕ) (k : ℕ) → IsTrue (contains nat_cmp s k) ↔ Contains s.keys k
has_iff s k = btree_set_contains_iff nat_cmp_total exact_unsigned s k

equal_is : (o : Ordering) → is_eq o ≡ true → o ≡ Equal
equal_is Less e = absurd cc
equal_is Equal e = refl
equal_is Greater e = absurd cc

-- another number isn't at a number's place
not_at : (key other : ℕ) → other ≢ key → is_at (nat_cmp key) other ≡ false
not_at key other ne = false_of (is_at (nat_cmp key) other) (λ e. ne (sym (exact_unsigned key other (equal_is (nat_cmp key other) e))))

-- the numbers after one was added, and after one was removed
pub added_is : (s n : BTreeSet ℕ) (key : ℕ) → Updates nat_cmp s n key true → AreAdded s.keys key n.keys
added_is s n key u other = elim (cases_eq other key) [
  | inl e ↦ (λ c. inr e, λ c. subst (λ (k : ℕ). Contains n.keys k) (sym e) ((has_iff n key).0 u.1))
  | inr ne ↦
      let same : contains nat_cmp n other ≡ contains nat_cmp s other = u.2 other (not_at key other ne) in (
        λ c. inl ((has_iff s other).0 (sym same ∙ (has_iff n other).1 c)),
        λ c. elim c [ inl old ↦ (has_iff n other).0 (same ∙ (has_iff s other).1 old) | inr e ↦ absurd (ne e) ],
      )
]

pub removed_is : (s n : BTreeSet ℕ) (key : ℕ) → Updates nat_cmp s n key false → AreWithout s.keys key n.keys
removed_is s n key u other = (
  λ c. elim (cases_eq other key) [
    | inl e ↦ absurd (false≢true (sym u.1 ∙ (has_iff n key).1 (subst (λ (k : ℕ). Contains n.keys k) e c)))
    | inr ne ↦ ((has_iff s other).0 (sym (u.2 other (not_at key other ne)) ∙ (has_iff n other).1 c), ne)
  ],
  λ c. (has_iff n other).0 (u.2 other (not_at key other c.1) ∙ (has_iff s other).1 c.0),
)
