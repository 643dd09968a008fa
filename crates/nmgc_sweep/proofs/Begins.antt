-- A sweeper when its cycle begins, is closed and ends.
use Rattle.nmgc_sweep.proofs.Vocabulary.{ℕ, zero, suc, ◌≡◌, ◌≢◌, ◌⊎◌, ◌↔◌, ◌+◌, ◌*◌, ◌<◌, ◌≤◌, ◌∙◌, inl, inr, refl, sym, ap, subst, arith, List, [], ◌∷◌, ◌++◌, length, set, cond, sum_by, Option, Some, None, Contains, count_by, get_or-eq_default, cases_lt, sum_by-set, Name, contains_head, contains_tail, contains_cases, Layout, MIN_BLOCK_WORDS, Segment, free_segment, State, Free, Current, Active, Filled, Sweeping, nth, is, Segments, IsWaiting, prepared_state, AllocState, Cells, IsIn, NoneIs, Exists, cells, cycle_begun, StandsFor, begun_cells, sweeping_none, counts_stand, nth-set_same, nth-set_other, used_exists, IsSweptIn, IsHadIn, IsFreedIn, Cycle, ListsNumbers, IsWithoutDoubles, StartNotesSegments, LeftStays, ClosingBeginsWork, EndShowsCensus, LeftIsCounted, lists_in_order}
use Rattle.nmgc_sweep.proofs.{Lists.ascends_first, Lists.ascends_rest, Lists.once_distinct, Listed.below_more, Listed.below_skip}

-- a waiting segment has its number
pub waits_exists : (xs : List Segment) (n : ℕ) → (nth xs n).state ≡ Sweeping → n < length xs
waits_exists xs n is = elim (cases_lt n (length xs)) [
  | inl low ↦ low
  | inr high ↦
      let past : nth xs n ≡ free_segment 0 = get_or-eq_default xs (free_segment 0) high in
      let f : Free ≡ Sweeping = sym (ap (λ (s : Segment). s.state) past) ∙ is in
      absurd (cc)
]

-- and waits in the allocation state
pub waits_there : (s : Segments) (words : List ℕ) (a : AllocState) → StandsFor s words a → (n : ℕ) → IsWaiting s n ↔ IsIn Sweeping (cells a n)
waits_there s words a h n = (
  (λ is. (h.shows n (waits_exists s.segments n is)).state ∙ is),
  (λ is.
      let low : n < length a.segments = used_exists a n (λ free. let f : Sweeping ≡ Free = sym is ∙ free in cc) in
      let count = h.count in
      let there : n < length s.segments = omega (arith, low, count) in
      sym (h.shows n there).state ∙ is),
)

prepared_sweeps : (state : State) → prepared_state state ≡ Sweeping → (state ≡ Filled) ⊎ (state ≡ Sweeping)
prepared_sweeps Free e = absurd (cc)
prepared_sweeps (Current k) e = absurd (cc)
prepared_sweeps Active e = absurd (cc)
prepared_sweeps Filled e = inl refl
prepared_sweeps Sweeping e = inr refl

-- the segments that wait when a cycle begins are the segments that were filled
swept_waits : (c : Cycle) → NoneIs (IsIn Sweeping) c.heap → (n : ℕ) → IsSweptIn c n ↔ IsIn Sweeping (cells (cycle_begun c.heap) n)
swept_waits c none n =
    let same : (cells (cycle_begun c.heap) n).state ≡ prepared_state (cells c.heap n).state = ap (λ (k : Cells). k.state) (begun_cells c.heap n) in (
      (λ h. same ∙ ap prepared_state h.1),
      (λ is.
          let was = prepared_sweeps (cells c.heap n).state (sym same ∙ is) in
          let there : Exists c.heap n = used_exists c.heap n (λ free. elim was [
            | inl filled ↦ let f : Filled ≡ Free = sym filled ∙ free in cc
            | inr waits ↦ let f : Sweeping ≡ Free = sym waits ∙ free in cc
          ]) in
          elim was [ inl filled ↦ (there, filled) | inr waits ↦ absurd (none n there waits) ]),
    )

pub start_notes_segments : StartNotesSegments
start_notes_segments c words segments epoch sweeper stands none once e h =
    let waits_swept : (n : ℕ) → IsWaiting segments n ↔ IsSweptIn c n = λ n.
    let there = waits_there segments words (cycle_begun c.heap) stands n in
    let was = swept_waits c none n in
    ((λ is. was.1 (there.0 is)), (λ is. there.1 (was.0 is))) in
    record {
      noted = record {
        epoch = h.epoch_is ∙ e;
        swept = rw h.swept (record {
          ordered = h.left.numbers.ordered;
          sound = λ n has. (waits_swept n).0 (h.left.numbers.sound n has);
          complete = λ n is. h.left.numbers.complete n ((waits_swept n).1 is);
        });
      };
      once = once;
    }

pub left_stays : LeftStays
left_stays old new sweeper same layout h = record {
  numbers = record {
    ordered = h.numbers.ordered;
    sound = λ n has. (same n).1 (h.numbers.sound n has);
    complete = λ n is. h.numbers.complete n ((same n).0 is);
  };
  room = subst (λ (l : Layout). l.words ≤ MIN_BLOCK_WORDS * sweeper.most) (sym layout) h.room;
}

-- a list without members

nothing_in : (n : Name) → Contains {X = Name} [] n → ⊥
nothing_in n c = omega (arith, c.1)

none_twice : (xs : List Name) → xs ≡ [] → IsWithoutDoubles xs
none_twice xs none = subst (λ (l : List Name). IsWithoutDoubles l) (sym none) (λ i j x e f. absurd (let g : ◌≡◌ {A = Option Name} None (Some x) = e in cc))

pub closing_begins_work : ClosingBeginsWork
closing_begins_work c closed words a segments cycle sweeper stands notes left swept_is had_is freed_is h =
    let waits : (n : ℕ) → IsSweptIn c n → IsWaiting segments n = λ n is.
    left.numbers.sound n (subst (λ (l : List ℕ). Contains l n) swept_is (notes.noted.swept.complete n is)) in
    record {
      stands = stands;
      notes = notes;
      sweeping = record {
        from_is = h.from_is;
        closed_is = h.closed_is;
        dead = h.dead;
        kept = h.kept;
        noted = notes.noted;
        as_noted = h.as_noted;
        marked = h.marked;
        had = λ n. (
          (λ has. absurd (nothing_in n (subst (λ (l : List Name). Contains l n) had_is has))),
          (λ f. absurd (f.3 ((waits_there segments words a stands f.0).0 (waits f.0 f.2)))),
        );
        had_once = none_twice sweeper.seen.had had_is;
        freed = λ n. (
          (λ has. absurd (nothing_in n (subst (λ (l : List Name). Contains l n) freed_is has))),
          (λ f. absurd (f.3 ((waits_there segments words a stands f.0).0 (waits f.0 f.2)))),
        );
        freed_once = none_twice sweeper.seen.freed freed_is;
      };
      settled = h.settled;
      begun = h.begun;
    }

pub end_shows_census : EndShowsCensus
end_shows_census c closed words a segments cycle sweeper work none =
    let waits_none : (n : ℕ) → IsIn Sweeping (cells a n) → ⊥ = λ n is. none n (used_exists a n (λ free. let f : Sweeping ≡ Free = sym is ∙ free in cc)) is in
    record {
      swept = work.notes.noted.swept;
      had = lists_in_order (IsHadIn c) sweeper.seen.had (once_distinct sweeper.seen.had work.sweeping.had_once) (λ n. (
        (λ has. let f = (work.sweeping.had n).0 has in (f.0, f.1, f.2, f.4)),
        (λ f. (work.sweeping.had n).1 (f.0, f.1, f.2, waits_none f.0, f.3)),
      ));
      freed = lists_in_order (IsFreedIn c) sweeper.seen.freed (once_distinct sweeper.seen.freed work.sweeping.freed_once) (λ n. (
        (λ has. let f = (work.sweeping.freed n).0 has in ((f.0, f.1, f.2, f.4), f.5)),
        (λ f. (work.sweeping.freed n).1 (f.0.0, f.0.1, f.0.2, waits_none f.0.0, f.0.3, f.1)),
      ));
    }

-- 1 for a segment that waits, 0 for any other
abbrev waits_one : Segment → ℕ
waits_one s = cond (is s.state Sweeping) 1 0

-- the number of waiting segments is the number listed
pub waiting_counted : (s : Segments) (left : List ℕ) (xs : List Segment) → ListsNumbers (λ n. (nth xs n).state ≡ Sweeping) left →
    count_by (λ (t : Segment). is t.state Sweeping) xs ≡ length left
waiting_counted s [] xs h = sweeping_none (record s { segments = xs }) (λ i low is. let c = h.complete i is in omega (arith, c.1))
waiting_counted s (n ∷ rest) xs h =
    let waits : (nth xs n).state ≡ Sweeping = h.sound n (contains_head n rest) in
    let there : n < length xs = waits_exists xs n waits in
    let ys = set xs n (free_segment 0) in
    let lists : ListsNumbers (λ k. (nth ys k).state ≡ Sweeping) rest = record {
      ordered = ascends_rest n rest h.ordered;
      sound = λ k has.
          let above : n < k = ascends_first n rest h.ordered k has in
          ap (λ (t : Segment). t.state) (nth-set_other xs n k (free_segment 0) (λ e. omega (arith, above, e))) ∙ h.sound k (contains_tail n rest k has);
      complete = λ k is.
          let other : k ≢ n = λ e.
          let free : (nth ys n).state ≡ Free = ap (λ (t : Segment). t.state) (nth-set_same xs n (free_segment 0) there) in
          let here : (nth ys n).state ≡ Sweeping = subst (λ (j : ℕ). (nth ys j).state ≡ Sweeping) e is in
          let f : Free ≡ Sweeping = sym free ∙ here in cc in
          elim (contains_cases n rest k (h.complete k (sym (ap (λ (t : Segment). t.state) (nth-set_other xs n k (free_segment 0) other)) ∙ is))) [
            | inl e ↦ absurd (other (sym e))
            | inr r ↦ r
          ];
    } in
    let all : count_by (λ (t : Segment). is t.state Sweeping) ys ≡ length rest = waiting_counted s rest ys lists in
    let change : sum_by waits_one ys + waits_one (nth xs n) ≡ sum_by waits_one xs + 0 = sum_by-set waits_one xs n (free_segment 0) (free_segment 0) there in
    let one : waits_one (nth xs n) ≡ 1 = ap (λ (state : State). cond (is state Sweeping) 1 0) waits in
    let same : sum_by waits_one ys ≡ length rest = all in
    let goal : sum_by waits_one xs ≡ length rest + 1 = omega (arith, change, one, same) in
    goal ∙ omega arith

-- the waiting segments can be listed

waits_or_not : (state : State) → (state ≡ Sweeping) ⊎ (state ≡ Sweeping → ⊥)
waits_or_not Free = inr (λ e. cc)
waits_or_not (Current k) = inr (λ e. cc)
waits_or_not Active = inr (λ e. cc)
waits_or_not Filled = inr (λ e. cc)
waits_or_not Sweeping = inl refl

listed_below : (s : Segments) (number : ℕ) → (numbers : List ℕ) × ListsNumbers (λ n. (n < number) × IsWaiting s n) numbers
listed_below s zero = (
  [],
  record { ordered = tt; sound = λ n has. absurd (omega (arith, has.1)); complete = λ n is. absurd (let low = is.0 in omega (arith, low)) },
)
listed_below s (suc number) =
    let below = listed_below s number in
    elim (waits_or_not (nth s.segments number).state) [
      | inl waits ↦ (below.0 ++ number ∷ [], below_more s number below.0 waits below.1)
      | inr other ↦ (below.0, below_skip s number below.0 other below.1)
    ]

pub waiting_listed : (s : Segments) → (numbers : List ℕ) × ListsNumbers (IsWaiting s) numbers
waiting_listed s =
    let all = listed_below s (length s.segments) in (
      all.0,
      record {
        ordered = all.1.ordered;
        sound = λ n has. (all.1.sound n has).1;
        complete = λ n waits. all.1.complete n (waits_exists s.segments n waits, waits);
      },
    )

pub left_is_counted : LeftIsCounted
left_is_counted words a segments sweeper stands h = sym (counts_stand segments words a Sweeping stands) ∙
    waiting_counted segments sweeper.left segments.segments h.numbers
