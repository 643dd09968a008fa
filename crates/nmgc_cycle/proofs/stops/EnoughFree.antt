-- After a stop that isn't an end the reserve is free, or no commands are left.
use Rattle.nmgc_cycle.proofs.Vocabulary.{ℕ, zero, suc, ◌≡◌, ◌≤◌, ◌⊎◌, List, [], ◌∷◌, length, inl, inr, sym, ap, ◌∙◌, refl, arith, Bool, true, false, Some, None, not, ◌&&◌, ◌||◌, nat_lt, if◌then◌else◌, ltb-false, Command, reserve_count, counts_stand, End, Script, Run, last_state, has_left, program_of, Plan, State, is_idle, free_count, reserve_of, layout_of, plan_of, answer_of, Collector, IsAfterStop, seen, lt-ltb}
use Rattle.nmgc_journal.specs.declared.report.End.TheVariants.{Done}
use Rattle.nmgc_segment.specs.declared.state.State.TheVariants as stands
use Rattle.nmgc_alloc.specs.Reserve as reserve

-- it was no end: if commands are left, it isn't short of segments
not_less : (left less quiet : Bool) (full : End) → (if left && less then Some full else (if not left && quiet then Some Done else None)) ≡ None →
    (left ≡ false) ⊎ (less ≡ false)
not_less true true quiet full e = absurd cc
not_less true false quiet full e = inr refl
not_less false less quiet full e = inl refl

-- no program has commands left
none_left : (left : List (List Command)) → has_left left ≡ false → (m : ℕ) → program_of left m ≡ []
none_left [] e m = refl
none_left ([] ∷ left) e zero = refl
none_left ([] ∷ left) e (suc m) = none_left left e m
none_left ((c ∷ program) ∷ left) e m =
    let some : (nat_lt 0 (length (c ∷ program)) || has_left left) ≡ true =
    ap (λ (b : Bool). b || has_left left) (lt-ltb 0 (length (c ∷ program)) (omega arith)) in let bad : true ≡ false = sym some ∙ e in absurd cc

enough : (plan : Plan) (s : State) → answer_of plan s ≡ None → (has_left s.left ≡ false) ⊎ (reserve_of plan ≤ free_count s)
enough plan s e = elim (not_less (has_left s.left) (nat_lt (free_count s) (reserve_of plan)) (is_idle s.progress) _ e) [
  | inl none ↦ inl none
  | inr less ↦ inr (ltb-false (free_count s) (reserve_of plan) less)
]

module _ (script : Script) (c : Collector) (run : Run) (still : IsAfterStop script c run) (goes_on : c.answered ≡ None) where
  -- the stop was no end
  pub went_on : answer_of (plan_of script) (last_state run) ≡ None
  went_on = sym still.at_stop.answered ∙ goes_on

  pub reserve_free : ((m : ℕ) → program_of (last_state run).left m ≡ []) ⊎
      (reserve_count (layout_of (plan_of script)) ≤ reserve.free_count c.heap.segments.segments)
  reserve_free = elim (enough (plan_of script) (last_state run) went_on) [
    | inl none ↦ inl (none_left (last_state run).left none)
    | inr more ↦
        let same = counts_stand c.heap.segments (seen c).words (last_state run).allocation stands.Free still.at_stop.heap.holds.stands in
        inr (omega (arith, more, same))
  ]
