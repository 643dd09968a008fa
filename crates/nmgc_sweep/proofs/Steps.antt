-- Segments are swept: the names in them are listed, the names of lost blocks are freed, and the sweeper is still at work.
use Rattle.std.proofs.{Common.ℕ, Common.zero, Common.suc, Common.◌≡◌, Common.◌≢◌, Common.◌↔◌, Common.◌+◌, Common.◌-◌, Common.◌*◌, Common.◌^◌, Common.◌<◌, Common.◌≤◌, Common.◌∙◌, Common.inl, Common.inr, Common.refl, Common.sym, Common.ap, Common.subst, Common.arith, Common.List, Common.[], Common.◌∷◌, Common.◌++◌, Common.length, Common.Option, Common.Some, Common.length-set, Common.length-append, lemmas.Bool.cases_eq, lemmas.Bool.Decides.nat_tests, lemmas.List.Elements.Contains-append_left, lemmas.List.Elements.Contains-append_right, lemmas.List.Elements.Contains-append_cases}
use Rattle.std.specs.Prelude.{Contains, IsSome, min}
use Rattle.nmgc_world_spec.specs.{declared.value.Name.Name, Reach.ListsNumbers}
use Rattle.nmgc_lists.specs.laws.Items.{contains_head, contains_tail, contains_cases, is_some_of}
use Rattle.nmgc_object.specs.{declared.layout.Layout.Layout, declared.size.TheConstants.MIN_BLOCK_WORDS}
use Rattle.nmgc_segment.specs.{Marks.IsEpoch, Marks.swept, Marks.epoch_of, Segment.Segment, Segment.InUse, Invariant.IsMarked, Segment.mark_of, Segment.block_count, declared.state.State.TheVariants.Sweeping, laws.Segments.mark-map, laws.Segments.zero_swept}
use Rattle.nmgc_alloc.specs.{Halves.SweepsMany, AllocState.nth, AllocState.Segments, AllocState.HasNumber, AllocState.Shows, AllocState.StandsFor, AllocState.AllocState, AllocState.Cells, AllocState.Sweeps, AllocState.SweepsEach, AllocState.SweepsSome, AllocState.HoldsKept, AllocState.LiesIn, AllocState.IsIn, AllocState.cells, AllocState.name_in, Segments.SweepsNext, Segments.IsWaiting, laws.Cells.swept_by_names, laws.Cells.swept_other, laws.Cells.swept_state, laws.Numbers.nth-set_other, laws.Placing.inside, laws.Sweeping.swept_stands, Settled.IsSettledByte, Invariant.LieOnce}
use Rattle.nmgc_round.specs.Gate.{next_turn, passed}
use Rattle.nmgc_stop_spec.specs.{Cycle.IsKeptIn, Cycle.IsSweptIn, Cycle.Cycle, Waiting.AreAsNoted}
use Rattle.nmgc_sweep.specs.{Sweeping.IsWithoutDoubles, Seen.CycleSeen, Listing.ListsBlocks, Listing.IsLost, NameTable.AreNamed, NameTable.named_at, Sweeper.Sweeper, Sweeper.AreLeft, Sweeper.CanList, Work.HasListed, Work.HaveListed, Work.HasSwept, Work.IsAtWork, laws.NameTable.lies_class, laws.NameTable.named_swept}
use Rattle.nmgc_sweep.proofs.Lists.{ascends_first, ascends_rest, distinct_append, distinct_once, once_distinct}

-- a swept segment no longer waits
swept_done : (a b : AllocState) (n : ℕ) (K : ℕ → Type 0) → Sweeps a b n K → IsIn Sweeping (cells b n) → ⊥
swept_done a b n K s is = elim s.swept [
  | inl h ↦ let f = sym (ap (λ (c : Cells). c.state) h.1) ∙ is in cc
  | inr (inl h) ↦ let f = sym (ap (λ (c : Cells). c.state) h.1) ∙ is in cc
  | inr (inr h) ↦ let f = sym (ap (λ (c : Cells). c.state) h.2) ∙ is in cc
]

-- a byte is settled when only the marks of the epoch are left
swept_byte : (begun epoch mark : ℕ) → 0 < begun → epoch ≡ epoch_of begun → IsSettledByte begun (swept epoch mark)
swept_byte begun epoch mark some e = elim (cases_eq mark epoch) [
  | inl same ↦ let is : swept epoch mark ≡ epoch = grind (arith, nat_tests) in inr (some, is ∙ e)
  | inr other ↦ let none : swept epoch mark ≡ 0 = grind (arith, nat_tests) in inl none
]

-- a sweeper by its parts
abbrev pub made : ℕ → ℕ → ℕ → List ℕ → List Name → List Name → List ℕ → ℕ → Sweeper
made turns upper epoch numbers had freed left most = record {
  seen = record { epoch = epoch; swept = numbers; had = had; freed = freed };
  left = left;
  most = most;
  turns = turns;
  upper_turns = upper;
}

-- a name with Q in a swept segment
abbrev SoFar : (Name → Type 0) → Cycle → AllocState → Name → Type 0
SoFar Q c a name = (number block : ℕ) × IsSweptIn c number × (IsIn Sweeping (cells a number) → ⊥) × LiesIn c.heap number block name × Q name

module _ (old new : Segments) (epoch number : ℕ) (first : ℕ) (rest : List ℕ) (left : ListsNumbers (IsWaiting old) (first ∷
    rest)) (next : SweepsNext old new epoch number) where
  -- the swept segment is the first that was left
  pub first_is : first ≡ number
  first_is = elim (contains_cases first rest number (left.complete number next.least.is)) [
    | inl e ↦ e
    | inr c ↦
        let low : first < number = ascends_first first rest left.ordered number c in
        absurd (next.least.none_below first low (left.sound first (contains_head first rest)))
  ]

  -- no other segment changes
  pub others_stay : (i : ℕ) → i ≢ number → nth new.segments i ≡ nth old.segments i
  others_stay i other = ap (λ (t : Segments). nth t.segments i) next.others ∙ nth-set_other old.segments number i (nth new.segments number) other

  waits_no_more : IsWaiting new number → ⊥
  waits_no_more is = elim next.sweeps.active [
    | inl free ↦ let f = sym free ∙ is in cc
    | inr (inl filled) ↦ let f = sym filled ∙ is in cc
    | inr (inr active) ↦ let f = sym active ∙ is in cc
  ]

  -- the rest is left
  pub others_left : ListsNumbers (IsWaiting new) rest
  others_left = record {
    ordered = ascends_rest first rest left.ordered;
    sound = λ m c.
        let above : first < m = ascends_first first rest left.ordered m c in
        let other : m ≢ number = λ e. let same = first_is in omega (arith, above, same, e) in
        ap (λ (s : Segment). s.state) (others_stay m other) ∙ left.sound m (contains_tail first rest m c);
    complete = λ m is.
        let other : m ≢ number = λ e. waits_no_more (subst (λ (k : ℕ). IsWaiting new k) e is) in
        elim (contains_cases first rest m (left.complete m (sym (ap (λ (s : Segment). s.state) (others_stay m other)) ∙ is))) [
          | inl e ↦ absurd (other (sym e ∙ first_is))
          | inr c ↦ c
        ];
  }

  -- the names of the segment, before the sweep
  module _ (e : IsEpoch epoch) (c : Cycle) (words : List ℕ) (a : AllocState) (names : List Name) (stands : StandsFor old words a)
      (named : AreNamed old.layout names a) (once : LieOnce c.heap) (as_noted : AreAsNoted c a) where
    pub stood : (b : AllocState) × Sweeps a b number (IsMarked (nth old.segments number) epoch) × StandsFor new words b
    stood = swept_stands old new words a epoch number e stands next

    pub waits : IsIn Sweeping (cells a number)
    waits = stood.1.least.is.1

    pub other_cells : (i : ℕ) → i ≢ number → cells stood.0 i ≡ cells a i
    other_cells i other = swept_other a stood.0 number (IsMarked (nth old.segments number) epoch) stood.1 i other

    pub is_other : (i : ℕ) → IsIn Sweeping (cells stood.0 i) → i ≢ number
    is_other i is same = swept_done a stood.0 number (IsMarked (nth old.segments number) epoch) stood.1 (subst (λ (k : ℕ).
        IsIn Sweeping (cells stood.0 k)) same is)

    pub waited : (i : ℕ) → IsIn Sweeping (cells stood.0 i) → IsIn Sweeping (cells a i)
    waited i is = swept_state a stood.0 number (IsMarked (nth old.segments number) epoch) stood.1 i is

    noted : IsSweptIn c number
    noted = (as_noted number waits).0

    -- a name lies in the same block as when the cycle began
    lies_then : (block : ℕ) (n : Name) → LiesIn a number block n ↔ LiesIn c.heap number block n
    lies_then block n =
        let same : name_in (cells a number) block ≡ name_in (cells c.heap number) block =
        ap (λ (names : List (Option Name)). name_in (record (cells a number) { names = names }) block) (as_noted number waits).1 in
        ((λ lies. sym same ∙ lies), (λ lies. same ∙ lies))

    shows : Shows old words number (cells a number)
    shows = stands.shows number next.least.exists

    -- its entry has the name
    entry_is : (block : ℕ) (n : Name) → LiesIn a number block n → named_at old.layout names number (nth old.segments number).class block ≡ Some n
    entry_is block n lies = ap (λ (k : ℕ). named_at old.layout names number k block) (sym (lies_class old words a stands number block n lies)) ∙
        named number block n lies

    -- and if a block is in use, the name of its entry lies in it
    entry_lies : (block : ℕ) (n : Name) → InUse (nth old.segments number) block →
        named_at old.layout names number (nth old.segments number).class block ≡ Some n → LiesIn a number block n
    entry_lies block n used is =
        let m = is_some_of (name_in (cells a number) block) ((shows.used block).1 used) in
        let same : Some m.0 ≡ Some n = sym (entry_is block m.0 m.1) ∙ is in
        m.1 ∙ same

    lies_used : (block : ℕ) (n : Name) → LiesIn a number block n → InUse (nth old.segments number) block
    lies_used block n lies = (shows.used block).0 (subst (λ (o : Option Name). IsSome o) (sym lies) (is_some n))
      where
        is_some : (n : Name) → IsSome (Some n)
        is_some n = refl

    -- names with Q are listed, if exactly the passing names of this segment have Q
    module _ (P : ℕ → Type 0) (Q : Name → Type 0) (uses : (block : ℕ) → P block →
        InUse (nth old.segments number) block) (fits : (block : ℕ) (n : Name) → LiesIn a number block n → P block ↔ Q n)
        (before after : List Name) (lists : ListsBlocks P (named_at old.layout names number (nth old.segments number).class)
        (block_count (nth old.segments number)) before after)
        (was : (n : Name) → Contains before n ↔ SoFar Q c a n) (was_once : IsWithoutDoubles before) where
      listed_lies : (n : Name) → Contains lists.added n → (block : ℕ) × P block × LiesIn a number block n
      listed_lies n has = let f = lists.from n has in (f.0, f.2, entry_lies f.0 n (uses f.0 f.2) f.3)

      pub names_sound : (n : Name) → Contains after n → SoFar Q c stood.0 n
      names_sound n has = elim (Contains-append_cases before lists.added n (subst (λ (l : List Name). Contains l n) lists.is has)) [
        | inl old_one ↦ let f = (was n).0 old_one in (f.0, f.1, f.2, (λ w. f.3 (waited f.0 w)), f.4, f.5)
        | inr new_one ↦
            let f = listed_lies n new_one in
            (number, f.0, noted, (λ w. is_other number w refl), (lies_then f.0 n).0 f.2, (fits f.0 n f.2).0 f.1)
      ]

      pub names_complete : (n : Name) → SoFar Q c stood.0 n → Contains after n
      names_complete n f = subst (λ (l : List Name). Contains l n) (sym lists.is) (elim (cases_eq f.0 number) [
        | inl same ↦
            let lies : LiesIn a number f.1 n = (lies_then f.1 n).1 (subst (λ (k : ℕ). LiesIn c.heap k f.1 n) same f.4) in
            Contains-append_right before lists.added n (lists.all f.1 n (inside old words number (cells a number) f.1 n shows lies)
            ((fits f.1 n lies).1 f.5) (entry_is f.1 n lies))
        | inr other ↦
            Contains-append_left before lists.added n
            ((was n).1 (f.0, f.1, f.2, (λ w. f.3 (ap (λ (k : Cells). k.state) (other_cells f.0 other) ∙ w)), f.4, f.5))
      ])

      pub names_once : IsWithoutDoubles after
      names_once = subst (λ (l : List Name). IsWithoutDoubles l) (sym lists.is) (distinct_once (before ++ lists.added) (distinct_append before lists.added
          (once_distinct before was_once)
          (lists.once (λ x y n p q f g.
          let one = (lies_then x n).0 (entry_lies x n (uses x p) f) in
          let two = (lies_then y n).0 (entry_lies y n (uses y q) g) in
          (once number x number y n one two).1))
          (λ n l r.
          let f = (was n).0 l in
          let g = listed_lies n r in
          let same : f.0 ≡ number = (once f.0 f.1 number g.0 n f.4 ((lies_then g.0 n).0 g.2)).0 in
          f.3 (subst (λ (k : ℕ). IsIn Sweeping (cells a k)) (sym same) waits))))

  -- the names listed and freed of the segment, and the sweeper with them
  module _ (e : IsEpoch epoch) (names : List Name) (turns upper most : ℕ) (numbers : List ℕ) (had had_after freed freed_after : List Name)
      (all_listed : ListsBlocks (InUse (nth old.segments number)) (named_at old.layout names number (nth old.segments number).class)
      (block_count (nth old.segments number)) had had_after)
      (lost_listed : ListsBlocks (IsLost (nth old.segments number) epoch) (named_at old.layout names number (nth old.segments number).class)
      (block_count (nth old.segments number)) freed freed_after)
      (c : Cycle) (closed : ℕ) (words : List ℕ) (a : AllocState) (cycle : CycleSeen) (named : AreNamed old.layout names a)
      (work : IsAtWork c closed words a old cycle (made turns upper epoch numbers had freed (first ∷ rest) most)) where
    abbrev b : AllocState
    b = (stood e c words a names work.stands named work.notes.once work.sweeping.as_noted).0

    -- the kept blocks are the blocks of kept names
    by_names : Sweeps a b number (HoldsKept (IsKeptIn c) a number)
    by_names = swept_by_names a b number (IsMarked (nth old.segments number) epoch) (IsKeptIn c) (λ block name lies.
        work.sweeping.marked number block name (waits e c words a names work.stands named work.notes.once work.sweeping.as_noted) lies)
        (stood e c words a names work.stands named work.notes.once work.sweeping.as_noted).1

    used_fits : (block : ℕ) (n : Name) → LiesIn a number block n → InUse (nth old.segments number) block ↔ Unit {0}
    used_fits block n lies = ((λ u. tt), (λ u. lies_used e c words a names work.stands named work.notes.once work.sweeping.as_noted block n lies))

    lost_fits : (block : ℕ) (n : Name) → LiesIn a number block n → IsLost (nth old.segments number) epoch block ↔ (IsKeptIn c n → ⊥)
    lost_fits block n lies =
        let marks = work.sweeping.marked number block n (waits e c words a names work.stands named work.notes.once work.sweeping.as_noted) lies in (
          (λ lost kept. lost.1 (marks.1 kept)),
          (λ not_kept. (
            lies_used e c words a names work.stands named work.notes.once work.sweeping.as_noted block n lies,
            (λ marked. not_kept (marks.0 marked)),
          )),
        )

    had_was : (n : Name) → Contains had n ↔ SoFar (λ m. Unit {0}) c a n
    had_was n = (
      (λ has. let f = (work.sweeping.had n).0 has in (f.0, f.1, f.2, f.3, f.4, tt)),
      (λ f. (work.sweeping.had n).1 (f.0, f.1, f.2, f.3, f.4)),
    )

    settled : (i block : ℕ) → HasNumber new i → (nth new.segments i).state ≢ Sweeping → IsSettledByte c.number (mark_of (nth new.segments i) block)
    settled i block there not_waiting = elim (cases_eq i number) [
      | inl same ↦
          let byte : mark_of (nth new.segments number) block ≡ swept epoch (mark_of (nth old.segments number) block) =
          ap (λ (s : Segment). mark_of s block) next.sweeps.rest ∙ mark-map (swept epoch) (nth old.segments number).marks block (zero_swept epoch e) in
          subst (λ (k : ℕ). IsSettledByte c.number (mark_of (nth new.segments k) block)) (sym same)
          (subst (λ (m : ℕ). IsSettledByte c.number m) (sym byte)
          (swept_byte c.number epoch (mark_of (nth old.segments number) block) work.begun work.notes.noted.epoch))
      | inr other ↦
          let stays = others_stay i other in
          let size : length new.segments ≡ length old.segments = ap (λ (t : Segments). length t.segments) next.others ∙
          length-set old.segments number (nth new.segments number) in
          let there_before : HasNumber old i = omega (arith, there, size) in
          subst (λ (s : Segment). IsSettledByte c.number (mark_of s block)) (sym stays)
          (work.settled i block there_before (λ is. not_waiting (ap (λ (s : Segment). s.state) stays ∙ is)))
    ]

    pub works_still : IsAtWork c closed words b new cycle (made turns upper epoch numbers had_after freed_after rest most)
    works_still = record {
      stands = (stood e c words a names work.stands named work.notes.once work.sweeping.as_noted).2;
      notes = record { noted = record { epoch = work.notes.noted.epoch; swept = work.notes.noted.swept }; once = work.notes.once };
      sweeping = record {
        from_is = work.sweeping.from_is;
        closed_is = work.sweeping.closed_is;
        dead = work.sweeping.dead;
        kept = work.sweeping.kept;
        noted = record { epoch = work.sweeping.noted.epoch; swept = work.sweeping.noted.swept };
        as_noted = λ i is.
            let was = work.sweeping.as_noted i (waited e c words a names work.stands named work.notes.once work.sweeping.as_noted i is) in (
              was.0,
              ap (λ (k : Cells).
                  k.names) (other_cells e c words a names work.stands named work.notes.once work.sweeping.as_noted i
                  (is_other e c words a names work.stands named work.notes.once work.sweeping.as_noted i is)) ∙ was.1,
            );
        marked = λ i block n is lies.
            let other = is_other e c words a names work.stands named work.notes.once work.sweeping.as_noted i is in
            let lay : LiesIn a i block n = ap (λ (k : Cells).
            name_in k block) (sym (other_cells e c words a names work.stands named work.notes.once work.sweeping.as_noted i other)) ∙ lies in
            subst (λ (s : Segment). IsMarked s epoch block ↔
            IsKeptIn c n) (sym (others_stay i other)) (work.sweeping.marked i block n
            (waited e c words a names work.stands named work.notes.once work.sweeping.as_noted i is) lay);
        had = λ n. (
          (λ has. let f = names_sound e c words a names work.stands named work.notes.once work.sweeping.as_noted (InUse (nth old.segments number)) (λ m. Unit {0}) (λ block used. used) used_fits had had_after all_listed had_was work.sweeping.had_once n has in
              (f.0, f.1, f.2, f.3, f.4)),
          (λ f. names_complete e c words a names work.stands named work.notes.once work.sweeping.as_noted (InUse (nth old.segments number)) (λ m.
              Unit {0}) (λ block used. used) used_fits had had_after all_listed had_was work.sweeping.had_once n (f.0, f.1, f.2, f.3, f.4, tt)),
        );
        had_once = names_once e c words a names work.stands named work.notes.once work.sweeping.as_noted (InUse (nth old.segments number)) (λ m.
            Unit {0}) (λ block used. used) used_fits had had_after all_listed had_was work.sweeping.had_once;
        freed = λ n. (
          (λ has. names_sound e c words a names work.stands named work.notes.once work.sweeping.as_noted (IsLost (nth old.segments number) epoch)
              (λ m. IsKeptIn c m → ⊥) (λ block lost. lost.0) lost_fits freed freed_after lost_listed work.sweeping.freed work.sweeping.freed_once n has),
          (λ f. names_complete e c words a names work.stands named work.notes.once work.sweeping.as_noted (IsLost (nth old.segments number) epoch)
              (λ m. IsKeptIn c m → ⊥) (λ block lost. lost.0) lost_fits freed freed_after lost_listed work.sweeping.freed work.sweeping.freed_once n f),
        );
        freed_once = names_once e c words a names work.stands named work.notes.once work.sweeping.as_noted (IsLost (nth old.segments number) epoch)
            (λ m. IsKeptIn c m → ⊥) (λ block lost. lost.0) lost_fits freed freed_after lost_listed work.sweeping.freed work.sweeping.freed_once;
      };
      settled = settled;
      begun = work.begun;
    }

    pub one_works : (b : AllocState) × SweepsSome (IsKeptIn c) 1 a b ×
        IsAtWork c closed words b new cycle (made turns upper epoch numbers had_after freed_after rest most)
    one_works = (b, record { numbers = number ∷ []; sweeps = (b, by_names, refl); many = refl }, works_still)

-- one segment was swept
pub one_swept : (old new : Segments) (epoch number first : ℕ) (rest : List ℕ) (names : List Name) (turns upper most : ℕ) (numbers : List ℕ)
    (had had_after freed freed_after : List Name)
    → AreLeft old (made turns upper epoch numbers had freed (first ∷ rest) most) → SweepsNext old new epoch number → IsEpoch epoch
    → ListsBlocks (InUse (nth old.segments first)) (named_at old.layout names first (nth old.segments first).class)
    (block_count (nth old.segments first)) had had_after
    → ListsBlocks (IsLost (nth old.segments first) epoch) (named_at old.layout names first (nth old.segments first).class)
    (block_count (nth old.segments first)) freed freed_after
    → HasSwept old new names (made turns upper epoch numbers had freed (first ∷ rest) most) (made turns upper epoch numbers had_after freed_after rest most) 1
one_swept old new epoch number first rest names turns upper most numbers had had_after freed freed_after left next e all_listed lost_listed =
    let same : first ≡ number = first_is old new epoch number first rest left.numbers next in
    let layout : new.layout ≡ old.layout = ap (λ (t : Segments). t.layout) next.others in
    let all_here = subst (λ (k : ℕ).
    ListsBlocks (InUse (nth old.segments k)) (named_at old.layout names k (nth old.segments k).class) (block_count (nth old.segments k)) had
    had_after) same all_listed in
    let lost_here = subst (λ (k : ℕ).
    ListsBlocks (IsLost (nth old.segments k) epoch) (named_at old.layout names k (nth old.segments k).class)
    (block_count (nth old.segments k)) freed freed_after) same lost_listed in
    record {
      left = record {
        numbers = others_left old new epoch number first rest left.numbers next;
        room = subst (λ (l : Layout). l.words ≤ MIN_BLOCK_WORDS * most) (sym layout) left.room;
      };
      fewer = omega arith;
      layout = layout;
      epoch = refl;
      swept = refl;
      sweeps = λ c closed words a cycle named work.
          one_works old new epoch number first rest left.numbers next e names turns upper most numbers had had_after freed freed_after all_here
          lost_here c closed words a cycle named work;
    }

-- only the counts of the gate's passes changed

works_counted : (c : Cycle) (closed : ℕ) (words : List ℕ) (a : AllocState) (s : Segments) (cycle : CycleSeen) (sweeper : Sweeper)
    (turns upper : ℕ) → IsAtWork c closed words a s cycle sweeper → IsAtWork c closed words a s cycle (record sweeper { turns = turns; upper_turns = upper })
works_counted c closed words a s cycle sweeper turns upper h = record {
  stands = h.stands;
  notes = record { noted = h.notes.noted; once = h.notes.once };
  sweeping = h.sweeping;
  settled = h.settled;
  begun = h.begun;
}

pub swept_counted : (s t : Segments) (names : List Name) (x y : Sweeper) (turns upper n : ℕ) → HasSwept s t names x y n →
    HasSwept s t names x (record y { turns = turns; upper_turns = upper }) n
swept_counted s t names x y turns upper n h = record {
  left = record { numbers = h.left.numbers; room = h.left.room };
  fewer = h.fewer;
  layout = h.layout;
  epoch = h.epoch;
  swept = h.swept;
  sweeps = λ c closed words a cycle named work. let f = h.sweeps c closed words a cycle named work in
      (f.0, f.1, works_counted c closed words f.0 t cycle y turns upper f.2);
}

-- further passes of the gate
pub passed_is : (turns count : ℕ) → turns ≤ 2 ^ 64 - 1 → passed turns count ≡ min (turns + count) (2 ^ 64 - 1)
passed_is turns zero low = omega (arith, low)
passed_is turns (suc count) low =
    let was = passed_is turns count low in
    let one : next_turn (min (turns + count) (2 ^ 64 - 1)) ≡ min (turns + suc count) (2 ^ 64 - 1) = omega arith in
    ap next_turn was ∙ one

-- no segment was swept, and one more

pub none_swept : (s : Segments) (names : List Name) (sweeper : Sweeper) → AreLeft s sweeper → HasSwept s s names sweeper sweeper 0
none_swept s names sweeper left = record {
  left = left;
  fewer = omega arith;
  layout = refl;
  epoch = refl;
  swept = refl;
  sweeps = λ c closed words a cycle named work. (a, record { numbers = []; sweeps = refl; many = refl }, work);
}

each_joined : (K : Name → Type 0) (a b c : AllocState) (xs ys : List ℕ) → SweepsEach K a xs b → SweepsEach K b ys c → SweepsEach K a (xs ++ ys) c
each_joined K a b c [] ys e s = subst (λ (x : AllocState). SweepsEach K x ys c) e s
each_joined K a b c (x ∷ xs) ys h s = (h.0, h.1, each_joined K h.0 b c xs ys h.2 s)

pub more_swept : (s t u : Segments) (names : List Name) (x y z : Sweeper) (m n : ℕ) → HasSwept s t names x y m → HasSwept t u names y z n →
    HasSwept s u names x z (m + n)
more_swept s t u names x y z m n h k = record {
  left = k.left;
  fewer = let f = h.fewer in let g = k.fewer in omega (arith, f, g);
  layout = k.layout ∙ h.layout;
  epoch = k.epoch ∙ h.epoch;
  swept = k.swept ∙ h.swept;
  sweeps = λ c closed words a cycle named work.
      let first = h.sweeps c closed words a cycle named work in
      let still : AreNamed t.layout names first.0 = subst (λ (l : Layout).
      AreNamed l names first.0) (sym h.layout) (named_swept s.layout names (IsKeptIn c) m a first.0 first.1 named) in
      let second = k.sweeps c closed words first.0 cycle still first.2 in (
        second.0,
        record {
          numbers = first.1.numbers ++ second.1.numbers;
          sweeps = each_joined (IsKeptIn c) a first.0 second.0 first.1.numbers second.1.numbers first.1.sweeps second.1.sweeps;
          many = length-append first.1.numbers second.1.numbers ∙ ap (λ (k : ℕ). k + length second.1.numbers) first.1.many ∙
              ap (λ (k : ℕ). m + k) second.1.many;
        },
        second.2,
      );
}

-- the names of all segments to be swept are listed first: no sweep changes another segment

pub can_list : (s : Segments) (x : Sweeper) (done : List ℕ) → x.seen.swept ≡ done ++ x.left → AreLeft s x → CanList s x
can_list s x done swept h = record {
  waits = h.numbers.sound;
  planned = λ n waits. subst (λ (l : List ℕ). Contains l n) (sym swept) (Contains-append_right done x.left n (h.numbers.complete n waits));
  room = h.room;
}

pub can_list_next : (s : Segments) (names : List Name) (x y : Sweeper) → CanList s x → HasListed s names x y → CanList s y
can_list_next s names x y can h = record {
  waits = λ n has. can.waits n (subst (λ (l : List ℕ). Contains l n) (sym h.left) (contains_tail h.first y.left n has));
  planned = subst (λ (l : List ℕ). (n : ℕ) → IsWaiting s n → Contains l n) (sym (ap (λ (z : Sweeper). z.seen.swept) h.rest)) can.planned;
  room = subst (λ (k : ℕ). s.layout.words ≤ MIN_BLOCK_WORDS * k) (sym (ap (λ (z : Sweeper). z.most) h.rest)) can.room;
}

pub listed_fewer : (s : Segments) (names : List Name) (x y : Sweeper) → HasListed s names x y → length y.left + 1 ≡ length x.left
listed_fewer s names x y h = let e : length x.left ≡ suc (length y.left) = ap (λ (l : List ℕ). length l) h.left in omega (arith, e)

-- one more segment
pub listed_more : (s : Segments) (names : List Name) (n : ℕ) (x y z : Sweeper) → HaveListed s names n x y → HasListed s names y z →
    HaveListed s names (n + 1) x z
listed_more s names n x y z h l = let e : suc n ≡ n + 1 = omega arith in subst (λ (k : ℕ). HaveListed s names k x z) e (listed_suc n x h)
  where
    listed_suc : (n : ℕ) (x : Sweeper) → HaveListed s names n x y → HaveListed s names (suc n) x z
    listed_suc zero x h = (z, subst (λ (w : Sweeper). HasListed s names w z) h l, refl)
    listed_suc (suc n) x h = (h.0, h.1, listed_suc n h.0 h.2)

-- listing keeps the epoch and the counts of the gate's passes
pub listed_keeps : (s : Segments) (names : List Name) (n : ℕ) (x y : Sweeper) → HaveListed s names n x y → (y.seen.epoch ≡ x.seen.epoch) ×
    (y.turns ≡ x.turns) × (y.upper_turns ≡ x.upper_turns)
listed_keeps s names zero x y h = (ap (λ (w : Sweeper). w.seen.epoch) h, ap (λ (w : Sweeper). w.turns) h, ap (λ (w : Sweeper). w.upper_turns) h)
listed_keeps s names (suc n) x y h =
    let rest = listed_keeps s names n h.0 y h.2 in
    let one = h.1.rest in (
      rest.0 ∙ ap (λ (w : Sweeper). w.seen.epoch) one,
      rest.1 ∙ ap (λ (w : Sweeper). w.turns) one,
      rest.2 ∙ ap (λ (w : Sweeper). w.upper_turns) one,
    )

-- one segment listed before was swept
listed_swept : (listed s t : Segments) (names : List Name) (number : ℕ) (x y : Sweeper) → IsEpoch x.seen.epoch → AreLeft s x →
    s.layout ≡ listed.layout → ((n : ℕ) → Contains x.left n → nth s.segments n ≡ nth listed.segments n) → HasListed listed names x y →
    SweepsNext s t x.seen.epoch number → HasSwept s t names x y 1
listed_swept listed s t names number x y sound left layout same h next =
    let at : nth s.segments h.first ≡ nth listed.segments h.first =
    same h.first (subst (λ (l : List ℕ). Contains l h.first) (sym h.left) (contains_head h.first y.left)) in
    let before : made x.turns x.upper_turns x.seen.epoch x.seen.swept x.seen.had x.seen.freed (h.first ∷ y.left) x.most ≡ x =
    ap (λ (l : List ℕ). made x.turns x.upper_turns x.seen.epoch x.seen.swept x.seen.had x.seen.freed l x.most) (sym h.left) in
    let had_here = subst (λ (k : Segment).
    ListsBlocks (InUse k) (named_at listed.layout names h.first k.class) (block_count k) x.seen.had y.seen.had) (sym at) h.had in
    let freed_here = subst (λ (k : Segment).
    ListsBlocks (IsLost k x.seen.epoch) (named_at listed.layout names h.first k.class) (block_count k) x.seen.freed y.seen.freed) (sym at) h.freed in
    let here : Segment = nth s.segments h.first in
    let swept = one_swept s t x.seen.epoch number h.first y.left names x.turns x.upper_turns x.most x.seen.swept x.seen.had y.seen.had x.seen.freed y.seen.freed
    (subst (λ (w : Sweeper). AreLeft s w) (sym before) left) next sound
    (subst (λ (l : Layout). ListsBlocks (InUse here) (named_at l names h.first here.class) (block_count here) x.seen.had y.seen.had) (sym layout) had_here)
    (subst (λ (l : Layout).
    ListsBlocks (IsLost here x.seen.epoch) (named_at l names h.first here.class) (block_count here) x.seen.freed y.seen.freed) (sym layout) freed_here) in
    subst (λ (w : Sweeper). HasSwept s t names x w 1) (sym h.rest)
    (subst (λ (w : Sweeper). HasSwept s t names w (made x.turns x.upper_turns x.seen.epoch x.seen.swept y.seen.had y.seen.freed y.left x.most) 1) before swept)

-- the rest is unchanged
listed_others : (listed s t : Segments) (names : List Name) (number : ℕ) (x y : Sweeper) → AreLeft s x →
    ((n : ℕ) → Contains x.left n → nth s.segments n ≡ nth listed.segments n) → HasListed listed names x y → SweepsNext s t x.seen.epoch number →
    (n : ℕ) → Contains y.left n → nth t.segments n ≡ nth listed.segments n
listed_others listed s t names number x y left same h next n has =
    let numbers : ListsNumbers (IsWaiting s) (h.first ∷ y.left) = subst (λ (l : List ℕ). ListsNumbers (IsWaiting s) l) h.left left.numbers in
    let above : h.first < n = ascends_first h.first y.left numbers.ordered n has in
    let is : h.first ≡ number = first_is s t x.seen.epoch number h.first y.left numbers next in
    others_stay s t x.seen.epoch number h.first y.left numbers next n (λ e. omega (arith, above, is, e))
    ∙ same n (subst (λ (l : List ℕ). Contains l n) (sym h.left) (contains_tail h.first y.left n has))

-- the same for all listed segments
pub all_swept : (listed s t : Segments) (names : List Name) (count : ℕ) (x y : Sweeper) → IsEpoch x.seen.epoch → AreLeft s x →
    s.layout ≡ listed.layout → ((n : ℕ) → Contains x.left n → nth s.segments n ≡ nth listed.segments n) → HaveListed listed names count x y →
    SweepsMany x.seen.epoch count s t → HasSwept s t names x y count
all_swept listed s t names zero x y sound left layout same h m =
    subst (λ (u : Segments). HasSwept s u names x y 0) (sym m) (subst (λ (w : Sweeper). HasSwept s s names x w 0) (sym h) (none_swept s names x left))
all_swept listed s t names (suc count) x y sound left layout same h m =
    let z : Sweeper = h.0 in
    let epoch : z.seen.epoch ≡ x.seen.epoch = ap (λ (w : Sweeper). w.seen.epoch) h.1.rest in
    let one : HasSwept s m.0 names x z 1 = listed_swept listed s m.0 names m.1 x z sound left layout same h.1 m.2 in
    let others : HasSwept m.0 t names z y count =
    all_swept listed m.0 t names count z y (subst (λ (k : ℕ). IsEpoch k) (sym epoch) sound) one.left (one.layout ∙
    layout) (listed_others listed s m.0 names m.1 x z left same h.1 m.2) h.2
    (subst (λ (k : ℕ). SweepsMany k count m.0 t) (sym epoch) m.3) in
    let e : 1 + count ≡ suc count = omega arith in
    subst (λ (k : ℕ). HasSwept s t names x y k) e (more_swept s m.0 t names x z y 1 count one others)

-- no segment is left if their number is 0
pub is_none : (left : List ℕ) → length left ≡ 0 → left ≡ []
is_none [] h = refl
is_none (x ∷ xs) h = absurd (omega (arith, h))
