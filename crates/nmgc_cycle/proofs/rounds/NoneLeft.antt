-- A round without commands left: nothing is done, no object is made, and no cycle is asked for.
use Rattle.nmgc_cycle.proofs.Vocabulary.{ℕ, ◌≡◌, ◌<◌, List, [], ◌∷◌, length, cond, refl, sym, ap, subst, ◌∙◌, arith, Bool, true, false, slice_index_or, eqb, ◌||◌, nat_lt, list_any, get_or-map, ltb-true, eq-eqb, get_or_default, Any-from_list_any, Row, IsOrderOf, rows_of, replayed, Command, Reply, AllocState, SweepsEach, Config, IsKeptIn, IsRound, answered, own_rows, SweepsBeside, slice_of, slices, some_asks, is_collect, has_left, program_of, State, Progress, idle, marking, sweeping, Name}

empty_list : {A : Type 0} (xs : List A) → length xs ≡ 0 → xs ≡ []
empty_list [] e = refl
empty_list (x ∷ xs) e = absurd (omega (arith, e))

-- an order of nothing has no rows
no_rows : (own : ℕ → List Row) (rows : List Row) → IsOrderOf own rows → ((m : ℕ) → own m ≡ []) → rows ≡ []
no_rows own [] order none = refl
no_rows own (row ∷ rows) order none =
    let rest : List Row = rows_of row.mutator rows in
    let e : cond (eqb row.mutator row.mutator) (row ∷ rest) rest ≡ [] = order row.mutator ∙ none row.mutator in
    let bad : row ∷ rest ≡ [] = subst (λ (b : Bool). cond b (row ∷ rest) rest ≡ []) (eq-eqb row.mutator row.mutator refl) e in
    absurd cc

module _ (left : List (List Command)) (none : (m : ℕ) → length (program_of left m) ≡ 0) where
  is_none : (m : ℕ) → program_of left m ≡ []
  is_none m = empty_list (program_of left m) (none m)

  -- no program has commands left
  pub none_has : has_left left ≡ false
  none_has = by (has_left left) refl
    where
      by : (b : Bool) → has_left left ≡ b → has_left left ≡ false
      by false e = e
      by true e =
          let any = Any-from_list_any (λ (program : List Command). nat_lt 0 (length program)) left e in
          let some : 0 < length any.1 = ltb-true 0 (length any.1) any.4 in
          let same : program_of left any.0 ≡ any.1 = get_or_default left any.0 [] any.1 any.2 ∙ any.3 in
          let many : length (program_of left any.0) ≡ length any.1 = ap (λ (program : List Command). length program) same in
          let nothing = none any.0 in
          absurd (omega (arith, some, many, nothing))

  -- no slice has a command
  slice_none : (config : Config) (m : ℕ) → slice_index_or (slices config left) m [] ≡ []
  slice_none config m = get_or-map (slice_of config) left m [] ∙ ap (slice_of config) (is_none m)

  -- so no cycle is asked for
  pub none_asks : (config : Config) → some_asks is_collect (slices config left) ≡ false
  none_asks config = by (some_asks is_collect (slices config left)) refl
    where
      by : (b : Bool) → some_asks is_collect (slices config left) ≡ b → some_asks is_collect (slices config left) ≡ false
      by false e = e
      by true e =
          let any = Any-from_list_any (list_any is_collect) (slices config left) e in
          let same : slice_index_or (slices config left) any.0 [] ≡ any.1 = get_or_default (slices config left) any.0 [] any.1 any.2 ∙ any.3 in
          let nothing : any.1 ≡ [] = sym same ∙ slice_none config any.0 in
          let asks : list_any is_collect [] ≡ true = subst (λ (commands : List Command). list_any is_collect commands ≡ true) nothing any.4 in
          absurd (let bad : false ≡ true = asks in cc)

  own_none : (config : Config) (replies : List (List Reply)) (m : ℕ) → own_rows (slices config left) replies m ≡ []
  own_none config replies m = ap (λ (commands : List Command). answered m commands (slice_index_or replies m [])) (slice_none config m)

-- sweeping files no segment by placing
pub each_fresh : (Kept : Name → Type 0) (a b : AllocState) (numbers : List ℕ) → SweepsEach Kept a numbers b → b.fresh ≡ a.fresh
each_fresh Kept a b [] e = ap (λ (x : AllocState). x.fresh) e
each_fresh Kept a b (number ∷ numbers) h = each_fresh Kept h.0 b numbers h.2 ∙ ap (λ (x : AllocState). x.fresh) h.1.others

beside_fresh : (quota : ℕ) (p : Progress) (a b : AllocState) → SweepsBeside quota p a b → b.fresh ≡ a.fresh
beside_fresh quota idle a b e = ap (λ (x : AllocState). x.fresh) e
beside_fresh quota (marking c) a b e = ap (λ (x : AllocState). x.fresh) e
beside_fresh quota (sweeping c closed) a b h = each_fresh (IsKeptIn c) a b h.numbers h.sweeps

-- the parts that a round without commands leaves unchanged
pub record DoesNothing (s t : State) : Type 0 where
  pub world : t.world ≡ s.world
  pub collect : t.collect ≡ s.collect
  pub fresh : t.allocation.fresh ≡ s.allocation.fresh

or_false : (b : Bool) → (b || false) ≡ b
or_false true = refl
or_false false = refl

pub nothing_done : (config : Config) (s t : State) (replies : List (List Reply)) (rows : List Row) → IsRound config s replies rows t →
    ((m : ℕ) → length (program_of s.left m) ≡ 0) → DoesNothing s t
nothing_done config s t replies rows round none =
    let no : rows ≡ [] = no_rows (own_rows (slices config s.left) replies) rows round.history.order (own_none s.left none config replies) in
    record {
      world = ap (λ (x : State). x.world) round.rest ∙ ap (λ (l : List Row). replayed s.world l) no;
      collect = ap (λ (x : State). x.collect) round.rest ∙ ap (λ (b : Bool). s.collect || b) (none_asks s.left none config) ∙ or_false s.collect;
      fresh = beside_fresh config.quota s.progress s.allocation t.allocation round.swept;
    }
