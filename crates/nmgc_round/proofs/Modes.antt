-- The rule in its two modes: a step of a round finds the round, a step at a stop finds the stop.
use Rattle.nmgc_round.proofs.Vocabulary.{◌≡◌, ℕ, zero, suc, ◌+◌, Bool, true, false, cond, ◌||◌, ◌≢◌, ◌⊎◌, inl, inr, ⊎_elim, List, [], ◌∷◌, ◌++◌, refl, sym, ap, ◌∙◌, subst, set, slice_index, eqb, true≢false, append-nil, some, some-injective, some-ne-none, get_elem?, Me, Allows, Splits, Joins, Final, SeenIn, keeps, at_set, Command, HEADER_WORDS, word, Opening, Part, Seen, exclusive, whole, nobody, loaded, answered, swapped, met, met_at_birth, stored, gave_birth, CanSplit, keeps_rest, gives_first, mutates, collecting, together, IsActive, IsIdle, Keeps, Stopped, Holding, CanOpen, HasAll, Ended, CanScan, scanned_by, Mutates, CanLoad, CanSwap, CanStore, CanBear, CanFix, CanTake, taken, FindsFixed, FindsField, FindsQueue, FindsScan, IsSafe, set_again}
use Rattle.atomic_table.specs.Table.{State}
use Rattle.nmgc_round.proofs.Allows as allows
use Rattle.nmgc_round.proofs.{Keeping.acts, Openings.begins, Parts.splits, Parts.splits_collector, Parts.joins, Parts.closes, Parts.ends, Parts.long}

abbrev pub holding : State (Unit {0}) Seen → Type 0
holding s = Holding s.words s.views

-- an idle seat has no part
idle_rests : (v : Seen) → IsIdle v → IsActive v → ⊥
idle_rests v idle a = ⊎_elim (λ (t : (k : ℕ) × (p : Part) × (get_elem? v.parts k ≡ some p)). some-ne-none t.1 (cc (t.2, idle.1))) (λ (on : v.collects ≡ true). true≢false (sym on ∙ idle.2)) a

-- nor has the only one
sole_rests : (ws : List ℕ) (v : Seen) → v ≡ exclusive ws → IsActive v → ⊥
sole_rests ws v is a = ⊎_elim (λ (t : (k : ℕ) × (p : Part) × (get_elem? v.parts k ≡ some p)). some-ne-none t.1 (cc (t.2, is))) (λ (on : v.collects ≡ true). true≢false (cc (on, is))) a

-- a seat with a part is in a round, whose opening it knows
pub in_round : (words : List ℕ) (views : List Seen) → Holding words views → (id : ℕ) (v : Seen) → get_elem? views id ≡ some v → IsActive v →
    (o : Opening) × Keeps o words views × (v.opening ≡ o)
in_round words views h id v here a = ⊎_elim
    (λ (t : Stopped words views). absurd (⊎_elim (λ (x : (id ≡ t.holder) × (v ≡ exclusive words)). sole_rests words v x.1 a) (λ (x : IsIdle v).
    idle_rests v x a) (t.each id v here)))
    (λ (t : (o : Opening) × Keeps o words views). (t.0, t.1, (t.1.agrees id v here).opening a))
    h

-- the only seat knows the words, and the other seats have no part
pub at_stop : (words : List ℕ) (views : List Seen) → Holding words views → (id : ℕ) (ws : List ℕ) → get_elem? views id ≡ some (exclusive ws) →
    (ws ≡ words) × ((j : ℕ) (u : Seen) → j ≢ id → get_elem? views j ≡ some u → IsIdle u)
at_stop words views h id ws here = ⊎_elim
    (λ (t : Stopped words views). ⊎_elim
    (λ (x : (id ≡ t.holder) × (exclusive ws ≡ exclusive words)). (
      ap (λ (u : Seen). u.words) x.1,
      λ j u n at. ⊎_elim (λ (y : (j ≡ t.holder) × (u ≡ exclusive words)). absurd (n (y.0 ∙ sym x.0))) (λ (y : IsIdle u). y) (t.each j u at),
    ))
    (λ (x : IsIdle (exclusive ws)). absurd (true≢false x.0))
    (t.each id (exclusive ws) here))
    (λ (t : (o : Opening) × Keeps o words views). absurd (true≢false (t.1.agrees id (exclusive ws) here).shares))
    h

-- the only seat has another view, and the other seats stay
still : (words : List ℕ) (views : List Seen) (id : ℕ) → ((j : ℕ) (u : Seen) → j ≢ id → get_elem? views j ≡ some u → IsIdle u) →
    Stopped words (set views id (exclusive words))
still words views id others = record {
  holder = id;
  each = λ j u at. ⊎_elim (λ (t : (j ≡ id) × (exclusive words ≡ u)). inl (t.0, sym t.1)) (λ (t : (j ≢ id) × (get_elem? views j ≡ some u)).
      inr (others j u t.0 t.1)) (at_set views id j (exclusive words) u at);
}

pub made : (words : List ℕ) → Holding words (exclusive words ∷ [])
made words = inl (record { holder = 0; each = first })
  where
    first : (j : ℕ) (u : Seen) → get_elem? (exclusive words ∷ []) j ≡ some u → ((j ≡ 0) × (u ≡ exclusive words)) ⊎ IsIdle u
    first zero u at = inl (refl, sym (some-injective (exclusive words) u at))
    first (suc j) u at = absurd (some-ne-none u (sym at))

pub final : (id : ℕ) (ws words : List ℕ) (slots : List (Unit {0})) → Final (SeenIn holding id (exclusive ws)) words slots → words ≡ ws
final id ws words slots f = sym f.2 ∙ sym ((at_stop f.0.words f.0.views f.1.0 id ws f.1.1).0)

module _ (slots id : ℕ) (me : Me (Unit {0}) Seen) (bare : me.1 ≡ []) where
  abbrev Steps : ℕ → (ℕ → ℕ) → (ℕ → Seen → Type 0) → Type 0
  Steps i f then = Allows holding slots id me i f (λ n m. then n m.0 × (m.1 ≡ []))

  abbrev InRound : Opening → ℕ → (ℕ → ℕ) → (ℕ → Seen → Type 0) → Type 0
  InRound o i f then = Allows (λ s. Keeps o s.words s.views) slots id me i f (λ n m. then n m.0 × (m.1 ≡ []))

  -- a step of a round, for any opening
  pub within : (i : ℕ) (f : ℕ → ℕ) (then : ℕ → Seen → Type 0) → IsActive me.0 → ((o : Opening) → InRound o i f then) → Steps i f then
  within i f then a step s h len here small =
      let r = in_round s.words s.views h id me.0 here a in
      let t = step r.0 s r.1 len here small in
      (t.0, t.1, t.2, inr (r.0, t.3), t.4)

  pub load_allows : (at index : ℕ) (c : Command) → Mutates (λ o p. CanLoad o p at index c) me.0 →
      Steps (at + HEADER_WORDS + index) (λ n. n) (λ n w. (w ≡ answered me.0 c (word n)) × IsSafe me.0.opening n)
  load_allows at index c can = within (at + HEADER_WORDS + index) (λ n. n) (λ n w. (w ≡ answered me.0 c (word n)) ×
      IsSafe me.0.opening n) (acts me.0 can.0 can.1) (λ o. allows.load_allows o slots id me bare at index c can)

  pub swap_allows : (at index new : ℕ) (c : Command) → Mutates (λ o p. CanSwap o p at index new c) me.0 →
      Steps (at + HEADER_WORDS + index) (λ _. new) (λ n w. (w ≡ swapped me.0 c n) × IsSafe me.0.opening n)
  swap_allows at index new c can = within (at + HEADER_WORDS + index) (λ _. new) (λ n w. (w ≡ swapped me.0 c n) ×
      IsSafe me.0.opening n) (acts me.0 can.0 can.1) (λ o. allows.swap_allows o slots id me bare at index new c can)

  pub store_allows : (i new : ℕ) → Mutates (λ o p. CanStore o p i) me.0 → Steps i (λ _. new) (λ n w. w ≡ stored me.0 i new)
  store_allows i new can = within i (λ _. new) (λ n w. w ≡ stored me.0 i new) (acts me.0 can.0 can.1) (λ o. allows.store_allows o slots id me bare i new can)

  pub birth_allows : (at header : ℕ) (c : Command) → Mutates (λ o p. CanBear o p at header c) me.0 →
      Steps at (λ _. header) (λ n w. w ≡ gave_birth me.0 at header c)
  birth_allows at header c can = within at (λ _. header) (λ n w. w ≡ gave_birth me.0 at header c) (acts me.0 can.0 can.1) (λ o.
      allows.birth_allows o slots id me bare at header c can)

  pub meet_allows : (i wanted : ℕ) → Mutates (λ o p. CanStore o p i) me.0 → Steps i (λ n. n) (λ n w. w ≡ met me.0 i wanted (eqb n wanted))
  meet_allows i wanted can = within i (λ n. n) (λ n w. w ≡ met me.0 i wanted (eqb n wanted)) (acts me.0 can.0 can.1) (λ o.
      allows.meet_allows o slots id me bare i wanted can)

  pub meet_birth_allows : (at header : ℕ) (c : Command) → Mutates (λ o p. CanBear o p at header c) me.0 →
      Steps at (λ n. n) (λ n w. w ≡ met_at_birth me.0 at header c (eqb n header))
  meet_birth_allows at header c can = within at (λ n. n) (λ n w. w ≡ met_at_birth me.0 at header c (eqb n header)) (acts me.0 can.0 can.1) (λ o.
      allows.meet_birth_allows o slots id me bare at header c can)

  pub fix_allows : (at offset : ℕ) → Mutates (λ o p. CanFix o p at offset) me.0 →
      Steps (at + offset) (λ n. n) (λ n w. (w ≡ loaded me.0 at offset n) × FindsFixed me.0.opening at offset n)
  fix_allows at offset can = within (at + offset) (λ n. n) (λ n w. (w ≡ loaded me.0 at offset n) ×
      FindsFixed me.0.opening at offset n) (acts me.0 can.0 can.1) (λ o. allows.fix_allows o slots id me bare at offset can)

  pub take_allows : (at offset : ℕ) (c : Command) → Mutates (λ o p. CanTake o p at offset c) me.0 →
      Steps (at + offset) (λ n. n) (λ n w. (w ≡ taken me.0 at offset c n) × FindsField me.0.opening offset n × Mutates FindsQueue me.0)
  take_allows at offset c can = within (at + offset) (λ n. n) (λ n w. (w ≡ taken me.0 at offset c n) × FindsField me.0.opening offset n ×
      Mutates FindsQueue me.0) (acts me.0 can.0 can.1) (λ o. allows.take_allows o slots id me bare at offset c can)

  pub scan_allows : (at offset : ℕ) → CanScan me.0 at offset → Steps (at + offset) (λ n. n) (λ n w. (w ≡ scanned_by me.0 n) × FindsScan me.0 n)
  scan_allows at offset can = within (at + offset) (λ n. n) (λ n w. (w ≡ scanned_by me.0 n) ×
      FindsScan me.0 n) (inr can.collects) (λ o. allows.scan_allows o slots id me bare at offset can)

  same_view : (views : List Seen) → get_elem? views id ≡ some me.0 → set views id me.0 ≡ views
  same_view views here = again views id here
    where
      again : (l : List Seen) (k : ℕ) → get_elem? l k ≡ some me.0 → set l k me.0 ≡ l
      again [] k e = refl
      again (x ∷ xs) zero e = ap (λ y. y ∷ xs) (sym (some-injective x me.0 e))
      again (x ∷ xs) (suc k) e = ap (λ l. x ∷ l) (again xs k e)

  unchanged : (s : State (Unit {0}) Seen) (i : ℕ) → holding s → get_elem? s.views id ≡ some me.0 →
      Holding (set s.words i (slice_index s.words i)) (set s.views id me.0)
  unchanged s i h here = subst (λ (y : List ℕ × List Seen). Holding y.0 y.1) (λ j. (sym (set_again s.words i) j, sym (same_view s.views here) j)) h

  -- a load that is forgotten
  pub look_allows : (i : ℕ) → Steps i (λ n. n) (λ n w. w ≡ me.0)
  look_allows i s h len here small = (me.0, keeps, tt, unchanged s i h here, (refl, bare))

  module _ (ws : List ℕ) (is : me.0 ≡ exclusive ws) where
    stop : (s : State (Unit {0}) Seen) → holding s → get_elem? s.views id ≡ some me.0 → (ws ≡ s.words) ×
        ((j : ℕ) (u : Seen) → j ≢ id → get_elem? s.views j ≡ some u → IsIdle u)
    stop s h here = at_stop s.words s.views h id ws (here ∙ ap some is)

    pub read_allows : (i : ℕ) → Steps i (λ n. n) (λ n w. (w ≡ me.0) × (n ≡ slice_index me.0.words i))
    read_allows i s h len here small = (
      me.0,
      keeps,
      tt,
      unchanged s i h here,
      ((refl, ap (λ (l : List ℕ). slice_index l i) (cc ((stop s h here).0, is))), bare),
    )

    pub write_allows : (i w : ℕ) → Steps i (λ _. w) (λ n u. u ≡ exclusive (set me.0.words i w))
    write_allows i w s h len here small =
        let t = stop s h here in
        let e : s.words ≡ me.0.words = cc (t.0, is) in
        (exclusive (set s.words i w), keeps, tt, inl (still (set s.words i w) s.views id t.1), (ap (λ (l : List ℕ). exclusive (set l i w)) e, bare))

    pub open_allows : (i : ℕ) (o : Opening) → CanOpen o ws → Steps i (λ n. n) (λ n w. w ≡ whole o)
    open_allows i o starts s h len here small =
        let t = stop s h here in
        let k = (begins o s.words (rw t.0 at starts) s.views id t.1).0 in
        (whole o, keeps, tt, rw (set_again s.words i) (inr (o, k)), (refl, bare))

  pub close_allows : (i : ℕ) → HasAll me.0 → Steps i (λ n. n) (λ n w. Ended me.0 w)
  close_allows i all s h len here small =
      let r = in_round s.words s.views h id me.0 here (inr all.0) in (
        exclusive s.words,
        keeps,
        tt,
        rw (set_again s.words i) (inl (closes r.0 s.words s.views r.1 id me.0 here all)),
        ((refl, ends r.0 s.words s.views r.1 id me.0 here all, long r.0 s.words s.views r.1 id me.0 here all), bare),
      )

pub cuts : (id : ℕ) (v : Seen) → CanSplit v → Splits holding id v (keeps_rest v) (gives_first v)
cuts id v can s h here = let r = in_round s.words s.views h id v here (inl (0, can.0, ap (λ l. get_elem? l 0) can.2)) in
    inr (r.0, splits r.0 id v can s r.1 here)

pub cuts_collector : (id : ℕ) (v : Seen) → v.collects ≡ true → Splits holding id v (mutates v) (collecting v)
cuts_collector id v on s h here = let r = in_round s.words s.views h id v here (inr on) in inr (r.0, splits_collector r.0 id v on s r.1 here)

-- two seats of one round, or at a stop, when at most one of the two knows the words
pub meets : (id : ℕ) (v : Seen) (other : ℕ) (w : Seen) → v.opening ≡ w.opening → Joins holding id v other w (together v w) nobody
meets id v other w same s h here apart at = ⊎_elim
    (λ (t : Stopped s.words s.views). inl (record { holder = t.holder; each = each t }))
    (λ (t : (o : Opening) × Keeps o s.words s.views). inr (t.0, joins t.0 id v other w same s t.1 here apart at))
    h
  where
    there : get_elem? s.views other ≡ some w
    there = ⊎_elim (λ (t : (other ≡ id) × (together v w ≡ w)). absurd (apart t.0)) (λ (t : (other ≢ id) × (get_elem? s.views other ≡ some w)).
        t.1) (at_set s.views id other (together v w) w at)

    bare_there : (t : Stopped s.words s.views) → (w.parts ≡ []) × (w.collects ≡ false)
    bare_there t = ⊎_elim (λ (x : (other ≡ t.holder) × (w ≡ exclusive s.words)). (
      ap (λ (u : Seen). u.parts) x.1,
      ap (λ (u : Seen). u.collects) x.1,
    )) (λ (x : IsIdle w). (x.1, x.2)) (t.each other w there)

    -- the addition of a seat without a part
    with_tail : List Part × Bool → Seen
    with_tail y = record {
      is_sole = v.is_sole;
      words = v.words;
      opening = v.opening;
      parts = v.parts ++ y.0;
      collects = v.collects || y.1;
      scans = cond y.1 w.scans v.scans;
    }

    off_or : (b : Bool) → b || false ≡ b
    off_or true = refl
    off_or false = refl

    adds_none : w.parts ≡ [] → w.collects ≡ false → together v w ≡ v
    adds_none e e' = ap with_tail (λ i. (e i, e' i)) ∙ ap (λ (y : List Part × Bool). record {
      is_sole = v.is_sole;
      words = v.words;
      opening = v.opening;
      parts = y.0;
      collects = y.1;
      scans = v.scans;
    }) (λ i. (append-nil v.parts i, off_or v.collects i))

    each : (t : Stopped s.words s.views) (j : ℕ) (u : Seen) → get_elem? (set (set s.views id (together v w)) other nobody) j ≡ some u →
        ((j ≡ t.holder) × (u ≡ exclusive s.words)) ⊎ IsIdle u
    each t j u e = ⊎_elim
        (λ (x : (j ≡ other) × (nobody ≡ u)). inr (subst IsIdle x.1 (refl, refl, refl)))
        (λ (x : (j ≢ other) × (get_elem? (set s.views id (together v w)) j ≡ some u)). ⊎_elim
        (λ (y : (j ≡ id) × (together v w ≡ u)). subst (λ (z : ℕ × Seen). ((z.0 ≡ t.holder) × (z.1 ≡ exclusive s.words)) ⊎
        IsIdle z.1) (λ i. (sym y.0 i, (sym (adds_none (bare_there t).0 (bare_there t).1) ∙ y.1) i)) (t.each id v here))
        (λ (y : (j ≢ id) × (get_elem? s.views j ≡ some u)). t.each j u y.1)
        (at_set s.views id j (together v w) u x.1))
        (at_set (set s.views id (together v w)) other j nobody u e)
