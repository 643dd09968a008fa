-- The places of freed names go, and the rest represents the swept state.
use Rattle.nmgc_collector_laws.proofs.Vocabulary.{ℕ, ◌≡◌, ◌≢◌, ◌⊎◌, ◌+◌, ◌<◌, ◌≤◌, List, [], ◌∷◌, refl, sym, ap, subst, ◌∙◌, arith, inl, inr, Option, Some, None, cond, set, Contains, IsSome, sum_by, sum_by-set, cases_eq, Name, World, node_of, shared_name, replayed, contains_head, contains_tail, contains_cases, nothing_in, absent, some_of, nursery_place, block_size, Layout, Stands, is, Segments, block_place, IsSegments, AllocState, Cells, Sweeps, SweepsEach, HoldsKept, LiesIn, HasBlock, cells, name_in, count_in, no_cells, StandsFor, none_some, swept_back, swept_other, DropsPlaces, Place, NoNode, ListsWeaks, IsTracked, places_dropped, roots_dropped, tracked_wide, free_tracked, is_block, MutatorEnd, IsKeptIn, FitBlocks, HeapStandsFor, IsBornPlace, snapshots, IsBlockPlace, IsPlaceAtStop, last_state, IsInCycle, IsSoundState, Progress, sweeping, SweepsBeside, free, block_used, states_are_sound, rounds_are_sound, sweeps_keep, tracked_before, tracked_itself, FreesUntracked, RoundFreesUntracked, StopFreesUntracked, FreeGrows, DropsFreed, SweptHoldsAfterRound, SweptHoldsAtStop, DropKeepsRound}
use Rattle.nmgc_run_spec.specs.Run.{State}
use Rattle.nmgc_segment.specs.declared.state.State.TheVariants as stands

-- a list of places without those that go; each stays or goes
split_places : (P Q : Place → Type 0) (places : List Place) → ((p : Place) → Contains places p → P p ⊎ Q p) → (fewer : List Place) ×
    ((p : Place) → Contains fewer p → Contains places p × P p) × ((p : Place) → Contains places p → Contains fewer p ⊎ Q p)
split_places P Q [] decide = ([], λ p d. absurd (nothing_in p d), λ p d. absurd (nothing_in p d))
split_places P Q (x ∷ places) decide =
    let r = split_places P Q places (λ p d. decide p (contains_tail x places p d)) in
    elim (decide x (contains_head x places)) [
      | inl stays ↦ (
        x ∷ r.0,
        λ p d. elim (contains_cases x r.0 p d) [
          | inl is ↦ (subst (λ (q : Place). Contains (x ∷ places) q) is (contains_head x places), subst P is stays)
          | inr more ↦ let k = r.1 p more in (contains_tail x places p k.0, k.1)
        ],
        λ p d. elim (contains_cases x places p d) [
          | inl is ↦ inl (subst (λ (q : Place). Contains (x ∷ r.0) q) is (contains_head x r.0))
          | inr more ↦ elim (r.2 p more) [ inl k ↦ inl (contains_tail x r.0 p k) | inr gone ↦ inr gone ]
        ],
      )
      | inr goes ↦ (
        r.0,
        λ p d. let k = r.1 p d in (contains_tail x places p k.0, k.1),
        λ p d. elim (contains_cases x places p d) [
          | inl is ↦ inr (subst Q is goes)
          | inr more ↦ r.2 p more
        ],
      )
    ]

module _ (layout : Layout) (earlier : List World) (began w : World) (allocation swept : AllocState)
    (f : FreesUntracked earlier began w allocation swept) (places : List Place) (Born : Place → Type 0) (sound : (p : Place) → Contains places p →
    IsPlaceAtStop layout allocation p ⊎ Born p) where
  -- a place that stays, and a place that goes
  abbrev Stays : Place → Type 0
  Stays p = IsPlaceAtStop layout swept p ⊎ Born p

  abbrev Goes : Place → Type 0
  Goes p = (b : IsBlockPlace layout allocation p) × (name_in (cells swept b.number) b.block ≡ None)

  by_block : (p : Place) (b : IsBlockPlace layout allocation p) (found : Option Name) → name_in (cells swept b.number) b.block ≡ found → Stays p ⊎ Goes p
  by_block p b None e = inr (b, e)
  by_block p b (Some name) e =
      let was = f.lies b.number b.block name e in
      let both : Some name ≡ Some p.name = sym was.0 ∙ b.lies in
      let is : name ≡ p.name = cc in
      inl (inl (inr (record { number = b.number; block = b.block; lies = e ∙ both; at = cc (b.at, was.1) })))

  decide : (p : Place) → Contains places p → Stays p ⊎ Goes p
  decide p d = elim (sound p d) [
    | inl at_stop ↦ elim at_stop [
      | inl g ↦ inl (inl (inl g))
      | inr b ↦ by_block p b (name_in (cells swept b.number) b.block) refl
    ]
    | inr born ↦ inl (inr born)
  ]

  parts : (fewer : List Place) × ((p : Place) → Contains fewer p → Contains places p × Stays p) × ((p : Place) → Contains places p → Contains fewer p ⊎ Goes p)
  parts = split_places Stays Goes places decide

  fewer : List Place
  fewer = parts.0

  is_old : (p : Place) → Contains fewer p → Contains places p × Stays p
  unfolding fewer parts
  is_old p d = parts.1 p d

  -- a name that is left has no place that goes
  not_gone : (p : Place) → Goes p → HasBlock swept p.name → ⊥
  not_gone p gone has =
      let b = gone.0 in
      let same = f.once has.0 has.1 b.number b.block p.name (f.lies has.0 has.1 p.name has.2).0 b.lies in
      let there : LiesIn swept b.number b.block p.name = rw (← same.0) (subst (λ (k : ℕ). LiesIn swept has.0 k p.name) same.1 has.2) in
      none_some (name_in (cells swept b.number) b.block) p.name gone.1 there

  keep_if : (p : Place) → Contains places p → (Goes p → ⊥) → Contains fewer p
  unfolding fewer parts
  keep_if p d not = elim (parts.2 p d) [ inl stays ↦ stays | inr gone ↦ absurd (not gone) ]

  keep_tracked : (p : Place) → Contains places p → IsTracked w earlier p.name → Contains fewer p
  keep_tracked p d t =
      let not : Goes p → ⊥ = λ gone.
      let b = gone.0 in
      let not_shared : p.name ≢ shared_name = λ e. f.shared b.number b.block (subst (λ (n : Name). LiesIn allocation b.number b.block n) e b.lies) in
      not_gone p gone (f.tracked p.name t not_shared (f.known b.number b.block p.name b.lies))
      in
      keep_if p d not

  keep_unknown : (p : Place) → Contains places p → node_of began p.name ≡ None → Contains fewer p
  keep_unknown p d none = keep_if p d (λ gone. absent (node_of began p.name) none (f.known gone.0.number gone.0.block p.name gone.0.lies))

  -- a place after the sweep was a place before
  back : (p : Place) → IsPlaceAtStop layout swept p → IsPlaceAtStop layout allocation p
  back p h = elim h [
    | inl g ↦ inl g
    | inr b ↦ let was = f.lies b.number b.block p.name b.lies in
        inr (record { number = b.number; block = b.block; lies = was.0; at = b.at ∙ ap (λ (class : ℕ). block_place layout b.number class b.block) was.1 })
  ]

  keep_left : (p : Place) → Contains places p → IsPlaceAtStop layout swept p → Contains fewer p
  keep_left p d h = elim h [
    | inl g ↦ keep_if p d (λ gone. f.shared gone.0.number gone.0.block (rw (ap (λ (q : Place). q.name) g) at gone.0.lies))
    | inr b ↦ keep_if p d (λ gone. not_gone p gone (b.number, b.block, b.lies))
  ]

  drops : DropsPlaces earlier NoNode places fewer w
  drops = record { old = λ p d. (is_old p d).0; tracked = keep_tracked; free = f.free; kept = λ name n before t k. absurd k }

  module _ (words : List ℕ) (old new : Segments) (ends : List MutatorEnd) (h : HeapStandsFor layout earlier places w allocation words old ends)
      (segments : IsSegments old) (stands : StandsFor new words swept) (same_layout : new.layout ≡ layout) where
    fit : FitBlocks w swept
    fit number block name node lies there =
        let was = f.lies number block name lies in
        let fits = h.fit number block name node was.0 there in
        let same : block_size (cells swept number).class ≡ block_size (cells allocation number).class = ap (λ (class : ℕ). block_size class) was.1 in
        omega (arith, fits, same)

    holds_then : HeapStandsFor layout earlier fewer w swept words new ends
    holds_then = record {
      fit = fit;
      represents = places_dropped layout earlier NoNode places fewer w words drops h.represents;
      registers = h.registers;
      roots = roots_dropped earlier NoNode places fewer w _ _ _ drops h.roots;
      layout_is = same_layout;
      stands = stands;
    }

    -- blocks lie below the nurseries
    low : (p : Place) → IsBlockPlace layout allocation p → p.at < nursery_place layout 0
    low p b =
        let used = block_used layout allocation words old h.layout_is h.stands b.number b.block p.name b.lies in
        let lies = is_block old (nursery_place layout 0) _ _ segments (ap (λ (l : Layout). nursery_place l 0) (sym h.layout_is)) used in
        let four = lies.four in
        let below = lies.below in
        let at = b.at in
        omega (arith, four, below, at)

    dropped : DropsFreed layout earlier w places fewer
    dropped = record {
      old = λ p d. (is_old p d).0;
      tracked = keep_tracked;
      young = λ p d up. keep_if p d (λ gone. let below = low p gone.0 in omega (arith, up, below));
    }

    listed : (seen : World) (weaks : List Place) → ListsWeaks layout places seen weaks → ((p : Place) → Contains weaks p → HasBlock swept p.name) →
        ListsWeaks layout fewer seen weaks
    listed seen weaks was left = record {
      ordered = was.ordered;
      sound = λ p d. let one = was.sound p d in (keep_if p one.0 (λ gone. not_gone p gone (left p d)), one.1, one.2);
      complete = λ p one. was.complete p ((is_old p one.0).0, one.1, one.2);
    }

pub swept_holds_after_round : SweptHoldsAfterRound
swept_holds_after_round layout s t swept places words old new ends weaks h segments f stands same left =
    let earlier : List World = s.world ∷ snapshots t.progress in
    let Born : Place → Type 0 = λ p. IsBornPlace layout s.world t.world p in (
      fewer layout earlier s.world t.world t.allocation swept f places Born h.sound,
      record {
        sound = λ p d. (is_old layout earlier s.world t.world t.allocation swept f places Born h.sound p d).1;
        old = λ p is. keep_left layout earlier s.world t.world t.allocation swept f places Born h.sound p
            (h.old p (back layout earlier s.world t.world t.allocation swept f places Born h.sound p is)) is;
        born = λ name young. let b = h.born name young in (
          b.0,
          keep_unknown layout earlier s.world t.world t.allocation swept f places Born h.sound (record { at = b.0; name = name }) b.1 young.0,
        );
        holds = holds_then layout earlier s.world t.world t.allocation swept f places Born h.sound words old new ends h.holds segments stands same;
        listed = listed layout earlier s.world t.world t.allocation swept f places Born h.sound words old new ends h.holds segments stands same
            s.world weaks h.listed left;
      },
      dropped layout earlier s.world t.world t.allocation swept f places Born h.sound words old new ends h.holds segments stands same,
    )

pub swept_holds_at_stop : SweptHoldsAtStop
swept_holds_at_stop layout s swept words old new ends weaks h segments f stands same left =
    let earlier : List World = snapshots s.progress in
    let None_born : Place → Type 0 = λ p. ⊥ in
    let sound : (p : Place) → Contains h.places p → IsPlaceAtStop layout s.allocation p ⊎ ⊥ = λ p d. inl ((h.all p).0 d) in (
      record {
        places = fewer layout earlier s.world s.world s.allocation swept f h.places None_born sound;
        all = λ p. (
          λ d. elim ((is_old layout earlier s.world s.world s.allocation swept f h.places None_born sound p d).1) [ inl is ↦ is | inr none ↦ absurd none ],
          λ is. keep_left layout earlier s.world s.world s.allocation swept f h.places None_born sound p
              ((h.all p).1 (back layout earlier s.world s.world s.allocation swept f h.places None_born sound p is)) is,
        );
        holds = holds_then layout earlier s.world s.world s.allocation swept f h.places None_born sound words old new ends h.holds segments stands same;
        listed = listed layout earlier s.world s.world s.allocation swept f h.places None_born sound words old new ends h.holds segments stands same
            s.world weaks h.listed left;
      },
      dropped layout earlier s.world s.world s.allocation swept f h.places None_born sound words old new ends h.holds segments stands same,
    )

pub drop_keeps_round : DropKeepsRound
drop_keeps_round layout earlier w places less nurseries recorded weaks d n order r = (
  record {
    used = record { count = n.used.count; places_are = n.used.places_are; tops = n.used.tops; used = λ p node c. n.used.used p node (d.old p c) };
    ends = n.ends;
  },
  λ a b c e. order a b (d.old a c) (d.old b e),
  record {
    fields = λ at c. let k = r.fields at c in (k.0, k.1, k.2, k.3, d.tracked k.0 k.4 k.5, k.5, k.6, k.7, k.8, k.9, k.10);
    all_fields = λ p q node i c below other t is slot to. r.all_fields p q node i (d.old p c) below other t is slot (d.old q to);
    weak_places = λ at c. let k = r.weak_places at c in (k.0, k.1, d.young (record { at = at; name = k.0 }) k.2 k.3, k.3, k.4);
    all_weaks = λ p parts_of c. r.all_weaks p parts_of (d.old p c);
  },
)

-- a sweep leaves names in their blocks

module _ (K : Name → Type 0) where
  one_left : (a b : AllocState) (number : ℕ) (s : Sweeps a b number (HoldsKept K a number)) (k block : ℕ) (name : Name) → LiesIn b k block name →
      LiesIn a k block name × ((cells b k).class ≡ (cells a k).class)
  one_left a b number s k block name lies = (
    swept_back a b number (HoldsKept K a number) s k block name lies,
    elim (cases_eq k number) [
      | inl e ↦ rw e (elim s.swept [
        | inl none ↦ absurd (none_some (name_in (cells b number) block) name (ap (λ (c : Cells). name_in c block) none.1) (ap (λ (i : ℕ).
            name_in (cells b i) block) (sym e) ∙ lies))
        | inr (inl full) ↦ ap (λ (c : Cells). c.class) full.1
        | inr (inr some) ↦ ap (λ (c : Cells). c.class) some.2
      ])
      | inr other ↦ ap (λ (c : Cells). c.class) (swept_other a b number (HoldsKept K a number) s k other)
    ],
  )

  all_left : (a b : AllocState) (numbers : List ℕ) → SweepsEach K a numbers b → (k block : ℕ) (name : Name) → LiesIn b k block name →
      LiesIn a k block name × ((cells b k).class ≡ (cells a k).class)
  all_left a b [] e k block name lies = subst (λ (x : AllocState). LiesIn x k block name → LiesIn a k block name ×
      ((cells x k).class ≡ (cells a k).class)) (sym e) (λ l. (l, refl)) lies
  all_left a b (number ∷ numbers) h k block name lies =
      let later = all_left h.0 b numbers h.2 k block name lies in
      let now = one_left a h.0 number h.1 k block name later.0 in
      (now.0, later.1 ∙ now.1)

-- no free segment is lost
one_frees : (a b : AllocState) (number : ℕ) (K : ℕ → Type 0) → Sweeps a b number K → count_in stands.Free a ≤ count_in stands.Free b
one_frees a b number K s =
    let set_is : sum_by free (set a.segments number (cells b number)) + free (cells a number) ≡ sum_by free a.segments + free (cells b number) =
    sum_by-set free a.segments number (cells b number) no_cells s.least.is.0 in
    let none : free (cells a number) ≡ 0 = ap (λ (state : Stands). cond (is state stands.Free) 1 0) s.least.is.1 in
    let new : count_in stands.Free b ≡ sum_by free (set a.segments number (cells b number)) = ap (λ (x : AllocState). sum_by free x.segments) s.others in
    omega (arith, set_is, none, new)

each_frees : (Kept : Name → Type 0) (a b : AllocState) (numbers : List ℕ) → SweepsEach Kept a numbers b → count_in stands.Free a ≤ count_in stands.Free b
each_frees Kept a b [] e = let same : count_in stands.Free b ≡ count_in stands.Free a = ap (count_in stands.Free) e in omega (arith, same)
each_frees Kept a b (number ∷ numbers) h =
    let first : count_in stands.Free a ≤ count_in stands.Free h.0 = one_frees a h.0 number (HoldsKept Kept a number) h.1 in
    let rest : count_in stands.Free h.0 ≤ count_in stands.Free b = each_frees Kept h.0 b numbers h.2 in
    omega (arith, first, rest)

pub free_grows : FreeGrows
free_grows c count old new s = each_frees (IsKeptIn c) old new s.numbers s.sweeps

pub stop_frees : StopFreesUntracked
stop_frees layout c w allocation swept count sound_blocks known after waits blocks s = record {
  once = sound_blocks.once;
  shared = sound_blocks.shared;
  known = known;
  lies = all_left (IsKeptIn c) allocation swept s.numbers s.sweeps;
  tracked = λ name t other there. sweeps_keep c w allocation swept count s after waits name (tracked_wide w name t) (blocks name t other);
  free = λ e name n before d. absurd (nothing_in e d);
}

pub round_frees : RoundFreesUntracked
round_frees plan run c closed replies rows t runnable i round is =
    let s : State = last_state run in
    let sound : IsSoundState plan s = states_are_sound plan run runnable i in
    let can = (rounds_are_sound plan s t replies rows sound round).can in
    let world : t.world ≡ replayed s.world rows = ap (λ (x : State). x.world) round.rest in
    let cycle : IsInCycle (sweeping c closed) s.world s.allocation = subst (λ (p : Progress). IsInCycle p s.world s.allocation) is sound.cycle in
    let sweeps : SweepsBeside plan.config.quota (sweeping c closed) s.allocation t.allocation =
    subst (λ (p : Progress). SweepsBeside plan.config.quota p s.allocation t.allocation) is round.swept in
    let wide : (name : Name) → IsTracked t.world (s.world ∷ []) name → IsSome (node_of s.world name) → IsTracked s.world [] name = λ name u there.
    tracked_itself s.world name (tracked_before s.world (s.world ∷
    []) rows sound.world can name (subst (λ (x : World). IsTracked x (s.world ∷ []) name) world u) there)
    in
    record {
      once = sound.sound_blocks.once;
      shared = sound.sound_blocks.shared;
      known = sound.known;
      lies = all_left (IsKeptIn c) s.allocation t.allocation sweeps.numbers sweeps.sweeps;
      tracked = λ name u other there.
          let own = wide name u there in
          sweeps_keep c s.world s.allocation t.allocation _ sweeps cycle.0 cycle.1 name (tracked_wide s.world name own)
          (sound.blocks name (subst (λ (l : List World). IsTracked s.world l name) (sym (ap snapshots is)) own) other);
      free = λ e name n before d u was held. elim (contains_cases s.world [] e d) [
        | inl same ↦
            let now : node_of s.world name ≡ Some before = ap (λ (x : World). node_of x name) same ∙ was in
            free_tracked t.world s.world (s.world ∷
            []) name before n (contains_head s.world []) (tracked_wide s.world name (wide name u (some_of (node_of s.world name) before now))) now held
        | inr none ↦ absurd (nothing_in e none)
      ];
    }
