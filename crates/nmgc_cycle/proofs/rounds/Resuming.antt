-- Programs that may take the places of parked programs: the commands given and those that they may give, counted.
use Rattle.nmgc_cycle.proofs.Vocabulary.{ℕ, zero, suc, ◌≡◌, ◌+◌, ◌<◌, ◌≤◌, ◌∙◌, List, [], ◌∷◌, drop, length, slice_get, slice_get_within, slice_index, Option, Some, refl, sym, ap, arith, inl, inr, sum_by, sum_by-cons, item, Command, Done, Script, Collector, AreParked, CanStop, MayReplace, ProgramRun, StandsBeforeStop, most_commands, most_total, script_so_far, total_of}

-- a number and a program's bound are a part of the sum from there on
pub part_of_total : {P : Type 0} (most : P → ℕ) (positions : List ℕ) (programs : List P) (n : ℕ) (p : P) → n < length positions → slice_get programs n ≡ Some p →
    total_of (drop n positions) + most_total most (drop n programs) ≡
    slice_index positions n + most p + (total_of (drop (suc n) positions) + most_total most (drop (suc n) programs))
part_of_total most [] programs n p lt e = absurd (omega (arith, lt))
part_of_total most (x ∷ positions) [] n p lt e = absurd cc
part_of_total most (x ∷ positions) (q ∷ programs) zero p lt e =
    let same : q ≡ p = cc in
    let bound = ap most same in
    let all = sum_by-cons (λ (n : ℕ). n) x positions in
    omega (arith, bound, all)
part_of_total most (x ∷ positions) (q ∷ programs) (suc n) p lt e = part_of_total most positions programs n p (omega (arith, lt)) e

-- the positions are the numbers of commands given
pub given_in_all : (positions : List ℕ) (given : List (List Done)) → length given ≡ length positions →
    ((k : ℕ) (d : List Done) → slice_get given k ≡ Some d → slice_index positions k ≡ length d) → total_of positions ≡ sum_by length given
given_in_all [] [] e at = refl
given_in_all [] (d ∷ given) e at = absurd (omega (arith, e))
given_in_all (x ∷ positions) [] e at = absurd (omega (arith, e))
given_in_all (x ∷ positions) (d ∷ given) e at =
    let here = at 0 d refl in
    let rest = given_in_all positions given (omega (arith, e)) (λ k. at (suc k)) in
    let all = sum_by-cons (λ (n : ℕ). n) x positions in
    let every = sum_by-cons length d given in
    omega (arith, here, rest, all, every)

-- each mutator has its position
pub positions_count : (script : Script) (c : Collector) → CanStop script c → length c.positions.items ≡ length script.threads
positions_count script c (inl fresh) = fresh.kept.positions_are
positions_count script c (inr worked) = worked.kept.positions_are

module _ {P Q : Type 0} (next : P → Option Command) (words most : P → ℕ) (valid : P → Type 0) (next' : Q → Option Command) (words' most' : Q → ℕ)
    (valid' : Q → Type 0) (run : ProgramRun) (programs : List P) (others : List Q) (stands : StandsBeforeStop next words most valid run programs)
    (parked : AreParked next programs) where
  pub total_given : total_of run.collector.positions.items ≡ sum_by length run.given.value
  total_given =
      let far = stands.0 in
      let counted = far.count in
      let threads = far.asked.count in
      let positions = positions_count (script_so_far next run programs) run.collector stands.1 in
      given_in_all run.collector.positions.items run.given.value (omega (arith, counted, threads, positions)) far.positions

  -- others that begin with `yield`, and have room, may take the places
  pub may_replace : length others ≡ length programs → AreParked next' others → ((k : ℕ) (q : Q) → slice_get others k ≡ Some q → valid' q) →
      ((k : ℕ) (q : Q) → slice_get others k ≡ Some q → words' q ≤ run.config.words) →
      total_of run.collector.positions.items + most_total most' others ≤ most_commands → MayReplace next next' words' most' valid' run programs others
  may_replace count yields are fit few = record {
    count = count;
    same = λ k p q e f. yields k q f ∙ sym (parked k p e);
    valid_are = are;
    fit = fit;
    short = (let all = total_given in omega (arith, few, all));
  }

  -- those that may take the places begin with `yield`, and have room
  pub yield_too : MayReplace next next' words' most' valid' run programs others → AreParked next' others
  yield_too may k q e =
      let within = slice_get_within others k q e in
      let count = may.count in
      let p = item programs k (omega (arith, within, count)) in
      may.same k p.0 q p.1 e ∙ parked k p.0 p.1

  pub few_in_all : MayReplace next next' words' most' valid' run programs others →
      total_of run.collector.positions.items + most_total most' others ≤ most_commands
  few_in_all may = let all = total_given in let short = may.short in omega (arith, all, short)
