-- A heap that is full after a full cycle is crowded: each segment in use has an object that was kept, and none lies in two.
use Rattle.std.proofs.{Common.ℕ, Common.zero, Common.suc, Common.◌≡◌, Common.◌≢◌, Common.◌⊎◌, Common.◌+◌, Common.◌*◌, Common.◌/◌, Common.◌<◌, Common.◌≤◌, Common.List, Common.[], Common.◌∷◌, Common.length, Common.take, Common.slice_index_or, Common.arith, Common.refl, Common.sym, Common.ap, Common.subst, Common.◌∙◌, Common.Option, Common.Some, Common.None, Common.cond, Common.inl, Common.inr, Math.Nat.lt-div-mul-add, lemmas.List.Sums.sum_by_more, lemmas.List.take_all, lemmas.Bool.cases_eq}
use Rattle.std.specs.Prelude.{Contains, sum_by}
use Rattle.nmgc_world_spec.specs.{declared.value.Name.Name, World.shared_name, Reach.Lists, Reach.AreDistinct}
use Rattle.nmgc_lists.specs.{laws.Items.contains_cases, laws.Items.nothing_in, laws.Options.not_none, laws.Options.some_is}
use Rattle.nmgc_object.specs.{Words.block_size, declared.layout.Layout.Layout, laws.Classes.least_block as large}
use Rattle.nmgc_segment.specs.declared.state.State.{State as Stands}
use Rattle.nmgc_segment.specs.declared.state.State.TheVariants as stands
use Rattle.nmgc_alloc.specs.{AllocState.is, AllocState.prepared_state, AllocState.retired_state, AllocState.AllocState, AllocState.Cells, AllocState.Sweeps, AllocState.SweepsEach, AllocState.HoldsKept, AllocState.LiesIn, AllocState.cells, AllocState.no_cells, AllocState.name_in, AllocState.cycle_begun, AllocState.all_retired, AllocState.IsIn, AllocState.NoneIs, laws.Cells.none_some, laws.Cells.swept_other, laws.Cells.swept_here, laws.Cells.swept_was, laws.Cells.begun_cells, laws.Cells.retired_cells}
use Rattle.nmgc_stop_spec.specs.Cycle.{IsKeptIn, Cycle}
use Rattle.nmgc_stop_spec.specs.Kept.{IsKeptObject}
use Rattle.nmgc_run_laws.specs.{Sound.AreSoundBlocks, laws.CycleCounts.free, laws.Filing.sweep_filed}
use Rattle.nmgc_world_laws.specs.{laws.Distinct.no_more, laws.Reached.listed_cases as listed_or_not}

no_free : (c : Cells) → c ≡ no_cells → c.state ≡ stands.Free
no_free c e = ap (λ (x : Cells). x.state) e

-- a segment that isn't free has a block
has_blocks : (layout : Layout) (a : AllocState) → AreSoundBlocks layout a → (number : ℕ) → (IsIn stands.Free (cells a number) → ⊥) →
    0 < length (cells a number).names
has_blocks layout a h number used =
    let size : ℕ = block_size (cells a number).class in
    let fits : size ≤ layout.words = h.state.class number used in
    let count : length (cells a number).names ≡ layout.words / size = h.state.blocks number used in
    let positive : 0 < size = let l = large (cells a number).class in omega (arith, l) in
    elim (cases_eq (layout.words / size) 0) [
      | inl none ↦
          let room : layout.words < layout.words / size * size + size = lt-div-mul-add positive in
          let nothing : layout.words / size * size ≡ 0 * size = ap (λ (k : ℕ). k * size) none in
          absurd (omega (arith, fits, room, nothing))
      | inr some ↦ omega (arith, count, some)
    ]

-- a segment of a full cycle: free, waiting, or with an object that isn't unkept (a double negation)

pub record IsGood (K : Name → Type 0) (a : AllocState) (number : ℕ) : Type 0 where
  pub block : ℕ
  pub name : Name
  pub lies : LiesIn a number block name
  pub kept : (K name → ⊥) → ⊥

abbrev pub IsJudged : (Name → Type 0) → AllocState → ℕ → Type 0
IsJudged K a number = IsIn stands.Free (cells a number) ⊎ (IsIn stands.Sweeping (cells a number) ⊎ IsGood K a number)

find_name : (names : List (Option Name)) → ((block : ℕ) → slice_index_or names block None ≡ None) ⊎
    ((block : ℕ) × (n : Name) × (slice_index_or names block None ≡ Some n))
find_name [] = inl (λ block. refl)
find_name (Some n ∷ names) = inr (0, n, refl)
find_name (None ∷ names) = elim (find_name names) [
  | inl none ↦ inl (λ block. at none block)
  | inr found ↦ inr (suc found.0, found.1, found.2)
]
  where
    at : ((block : ℕ) → slice_index_or names block None ≡ None) → (block : ℕ) → slice_index_or (None ∷ names) block None ≡ None
    at none zero = refl
    at none (suc block) = none block

sweep_judged : (layout : Layout) (K : Name → Type 0) (a b : AllocState) (number : ℕ) (s : Sweeps a b number (HoldsKept K a number)) →
    AreSoundBlocks layout a → ((k : ℕ) → IsJudged K a k) → (k : ℕ) → IsJudged K b k
sweep_judged layout K a b number s h old k = elim (cases_eq k number) [
  | inl e ↦ subst (IsJudged K b) (sym e) here
  | inr other ↦
      let same = swept_other a b number (HoldsKept K a number) s k other in
      elim (old k) [
        | inl free ↦ inl (ap (λ (c : Cells). c.state) same ∙ free)
        | inr (inl waits) ↦ inr (inl (ap (λ (c : Cells). c.state) same ∙ waits))
        | inr (inr good) ↦ inr (inr (record {
          block = good.block;
          name = good.name;
          lies = ap (λ (c : Cells). name_in c good.block) same ∙
              good.lies;
          kept = good.kept;
        }))
      ]
]
  where
    some : 0 < length (cells a number).names
    some = has_blocks layout a h number (λ free. let bad : stands.Free ≡ stands.Sweeping = sym free ∙ s.least.is.1 in cc)

    good : (block : ℕ) (n : Name) → slice_index_or s.names block None ≡ Some n → IsGood K b number
    good block n e = record {
      block = block;
      name = n;
      lies = swept_here a b number (HoldsKept K a number) s block n e;
      kept = λ lost. none_some (slice_index_or s.names block None) n (s.keeps.freed block (λ holds.
          lost (subst K (some_is holds.0 n (sym holds.1 ∙ swept_was a b number (HoldsKept K a number) s block n e)) holds.2))) e;
    }

    here : IsJudged K b number
    here = elim s.swept [
      | inl w ↦ inl (no_free (cells b number) w.1)
      | inr (inl w) ↦ elim (find_name s.names) [
        | inl none ↦ absurd (let many : length s.names ≡ length (cells a number).names = s.keeps.length in
            let first = w.0 0 (omega (arith, many, some)) in not_none (slice_index_or s.names 0 None) (none 0) first)
        | inr found ↦ inr (inr (good found.0 found.1 found.2))
      ]
      | inr (inr w) ↦ elim (find_name s.names) [
        | inl none ↦ absurd (w.0 none)
        | inr found ↦ inr (inr (good found.0 found.1 found.2))
      ]
    ]

pub each_judged : (layout : Layout) (K : Name → Type 0) (a b : AllocState) (numbers : List ℕ) → SweepsEach K a numbers b → AreSoundBlocks layout a →
    ((k : ℕ) → IsJudged K a k) → (k : ℕ) → IsJudged K b k
each_judged layout K a b [] e h old k = subst (λ (x : AllocState). IsJudged K x k) (sym e) (old k)
each_judged layout K a b (number ∷ numbers) s h old k =
    each_judged layout K s.0 b numbers s.2 (sweep_filed layout a s.0 number (HoldsKept K a number) s.1 h) (sweep_judged layout K a s.0 number s.1 h old) k

both_states : (s : Stands) → (prepared_state (retired_state s) ≡ stands.Free) ⊎ (prepared_state (retired_state s) ≡ stands.Sweeping)
both_states stands.Free = inl refl
both_states (stands.Current m) = inr refl
both_states stands.Active = inr refl
both_states stands.Filled = inr refl
both_states stands.Sweeping = inr refl

-- as a full cycle begins each segment is free or waits
pub begun_judged : (K : Name → Type 0) (a : AllocState) (k : ℕ) → IsJudged K (cycle_begun (all_retired a)) k
begun_judged K a k =
    let at : (cells (cycle_begun (all_retired a)) k).state ≡ prepared_state (retired_state (cells a k).state) =
    ap (λ (c : Cells). c.state) (begun_cells (all_retired a) k) ∙ ap (λ (c : Cells). prepared_state c.state) (retired_cells a k) in
    elim (both_states (cells a k).state) [ inl e ↦ inl (at ∙ e) | inr e ↦ inr (inl (at ∙ e)) ]

-- one name for each segment that isn't free

free_one : (c : Cells) → c.state ≡ stands.Free → free c ≡ 1
free_one c e = ap (λ (s : Stands). cond (is s stands.Free) 1 0) e

record Picks (a : AllocState) (names : List Name) (m : ℕ) : Type 0 where
  picked : List Name
  once : AreDistinct picked
  among : (x : Name) → Contains picked x → Contains names x
  below : (x : Name) → Contains picked x → (number block : ℕ) × (number < m) × LiesIn a number block x
  many : m ≤ length picked + sum_by free (take m a.segments)

pick : (layout : Layout) (K : Name → Type 0) (a : AllocState) (names : List Name) → AreSoundBlocks layout a →
    ((k : ℕ) → k < layout.segments → IsIn stands.Free (cells a k) ⊎ IsGood K a k) →
    ((n : Name) → ((K n → ⊥) → ⊥) → n ≢ shared_name → Contains names n) → (m : ℕ) → m ≤ layout.segments → Picks a names m
pick layout K a names h judged kept zero le = record {
  picked = [];
  once = tt;
  among = λ x c. absurd (nothing_in x c);
  below = λ x c. absurd (nothing_in x c);
  many = omega arith;
}
pick layout K a names h judged kept (suc m) le =
    let before : Picks a names m = pick layout K a names h judged kept m (omega (arith, le)) in
    let lt : m < length a.segments = omega (arith, le, h.state.count) in
    let more : sum_by free (take (m + 1) a.segments) ≡ sum_by free (take m a.segments) + free (cells a m) = sum_by_more free a.segments m no_cells lt in
    let one_more : m + 1 ≡ suc m = omega arith in
    let counted : m ≤ length before.picked + sum_by free (take m a.segments) = before.many in
    elim (judged m (omega (arith, le))) [
      | inl is_free ↦
          let one : free (cells a m) ≡ 1 = free_one (cells a m) is_free in
          record {
            picked = before.picked;
            once = before.once;
            among = before.among;
            below = λ x c. let b = before.below x c in (b.0, b.1, (let lower = b.2 in omega (arith, lower)), b.3);
            many = let next : m + 1 ≤ length before.picked + sum_by free (take (m + 1) a.segments) = omega (arith, more, one, counted) in
                subst (λ (n : ℕ). n ≤ length before.picked + sum_by free (take n a.segments)) one_more next;
          }
      | inr good ↦ record {
        picked = good.name ∷ before.picked;
        once = (
          λ c. (let b = before.below good.name c in let same : m ≡ b.0 = (h.once m good.block b.0 b.1 good.name good.lies b.3).0 in
              let lower = b.2 in omega (arith, same, lower)),
          before.once,
        );
        among = λ x c. elim (contains_cases good.name before.picked x c) [
          | inl e ↦ let C : Name → Type 0 = Contains names in
              subst C e (kept good.name good.kept (λ g. h.shared m good.block (good.lies ∙ ap (λ (y : Name). Some y) g)))
          | inr d ↦ before.among x d
        ];
        below = λ x c. elim (contains_cases good.name before.picked x c) [
          | inl e ↦ (m, good.block, (omega arith), good.lies ∙ ap (λ (y : Name). Some y) e)
          | inr d ↦ let b = before.below x d in (b.0, b.1, (let lower = b.2 in omega (arith, lower)), b.3)
        ];
        many = let next : m + 1 ≤ length (good.name ∷ before.picked) + sum_by free (take (m + 1) a.segments) = omega (arith, more, counted) in
            subst (λ (n : ℕ). n ≤ length (good.name ∷ before.picked) + sum_by free (take n a.segments)) one_more next;
      }
    ]

-- the free segments and the kept objects are together no fewer than the segments
pub crowded : (layout : Layout) (c : Cycle) (a : AllocState) (names : List Name) → AreSoundBlocks layout a → NoneIs (IsIn stands.Sweeping) a →
    ((k : ℕ) → IsJudged (IsKeptIn c) a k) → Lists (IsKeptObject c) names → layout.segments ≤ length names + sum_by free a.segments
crowded layout c a names h none judged lists =
    let p : Picks a names layout.segments = pick layout (IsKeptIn c) a names h
    (λ k lt. elim (judged k) [
      | inl is_free ↦ inl is_free
      | inr (inl waits) ↦ absurd (none k (omega (arith, lt, h.state.count)) waits)
      | inr (inr good) ↦ inr good
    ])
    (λ n not_lost other. elim (listed_or_not names n) [
      | inl c ↦ c
      | inr not ↦ absurd (not_lost (λ kept. not (lists.complete n (kept, other))))
    ]) layout.segments (omega arith) in
    let few : length p.picked ≤ length names = no_more p.picked names p.once p.among in
    let many : layout.segments ≤ length p.picked + sum_by free (take layout.segments a.segments) = p.many in
    let all : take layout.segments a.segments ≡ a.segments = take_all layout.segments a.segments (omega (arith, h.state.count)) in
    let same : sum_by free (take layout.segments a.segments) ≡ sum_by free a.segments = ap (λ (l : List Cells). sum_by free l) all in
    omega (arith, few, many, same)
