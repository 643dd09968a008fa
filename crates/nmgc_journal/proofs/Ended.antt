-- The cycles that ended at a stop are at the front of the cycles that ended there or later.
use Rattle.nmgc_journal.proofs.Vocabulary.{◌≡◌, ◌<◌, ℕ, List, [], ◌∷◌, length, take, refl, sym, ◌∙◌, ap, subst, arith, Bool, true, false, ◌==◌, one-add, Decides-eqb, nat_tests, length-prefix_len, prefix_len, take_while, AreEndedFrom, IsRestAfter, ended_at, CycleRow}

-- whether a cycle ended at this stop
abbrev pub is_ended_at : ℕ → CycleRow → Bool
is_ended_at n cycle = cycle.ended == n

-- the first `count` cycles are those that ended at this stop, and all further cycles ended later
pub record Splits (n : ℕ) (cycles : List CycleRow) (count : ℕ) : Type 0 where
  pub front : take count cycles ≡ ended_at n cycles
  pub rest : IsRestAfter n cycles count

-- numbers that differ fail the test
differ : (a b : ℕ) → a < b → (b == a) ≡ false
differ a b less = grind (arith, nat_tests)

differ_back : (a b : ℕ) → a < b → (a == b) ≡ false
differ_back a b less = grind (arith, nat_tests)

-- no cycle that ended later ended at this stop
none_ended : (n m : ℕ) (cycles : List CycleRow) → n < m → AreEndedFrom m cycles → ended_at n cycles ≡ []
none_ended n m [] later order = refl
none_ended n m (cycle ∷ cycles) later order =
    rw (differ n cycle.ended (omega (arith, order.0, later))) (none_ended n cycle.ended cycles (omega (arith, order.0, later)) order.1)

-- one more cycle in front, which ended at this stop or later
splits_more : (n : ℕ) (cycle : CycleRow) (cycles : List CycleRow) → AreEndedFrom n (cycle ∷ cycles) →
    (AreEndedFrom n cycles → Splits n cycles (prefix_len (is_ended_at n) cycles)) → (b : Bool) → (cycle.ended == n) ≡ b →
    Splits n (cycle ∷ cycles) (prefix_len (is_ended_at n) (cycle ∷ cycles))
splits_more n cycle cycles order others true e =
    let same : cycle.ended ≡ n = (Decides-eqb cycle.ended n).0 e in
    let more : Splits n cycles (prefix_len (is_ended_at n) cycles) = others (subst (λ (k : ℕ). AreEndedFrom k cycles) same order.1) in
    rw (e, one-add (prefix_len (is_ended_at n) cycles)) (record {
      front = rw e (ap (λ (l : List CycleRow). cycle ∷ l) more.front);
      rest = record {
        within = omega (arith, more.rest.within);
        order = more.rest.order;
        all = λ m later. rw (differ_back cycle.ended m (omega (arith, same, later))) (more.rest.all m later);
      };
    })
splits_more n cycle cycles order others false e =
    let other : cycle.ended ≡ n → ⊥ = λ (same : cycle.ended ≡ n). let is_true : (cycle.ended == n) ≡ true = (Decides-eqb cycle.ended n).1 same in cc in
    let later : n < cycle.ended = omega (arith, order.0, other) in
    rw e (record {
      front = rw e (sym (none_ended n cycle.ended cycles later order.1));
      rest = record { within = omega arith; order = (omega (arith, later), order.1); all = λ m _. refl };
    })

splits : (n : ℕ) (cycles : List CycleRow) → AreEndedFrom n cycles → Splits n cycles (prefix_len (is_ended_at n) cycles)
splits n [] order = record { front = refl; rest = record { within = omega arith; order = tt; all = λ m _. refl } }
splits n (cycle ∷ cycles) order = splits_more n cycle cycles order (splits n cycles) (cycle.ended == n) refl

-- the same for the number of cycles in front that ended at this stop
pub splits_at : (n : ℕ) (cycles : List CycleRow) (count : ℕ) → AreEndedFrom n cycles → count ≡ length (take_while (is_ended_at n) cycles) →
    Splits n cycles count
splits_at n cycles count order e = subst (Splits n cycles) (sym (e ∙ length-prefix_len (is_ended_at n) cycles)) (splits n cycles order)
