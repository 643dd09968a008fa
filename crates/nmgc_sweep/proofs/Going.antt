-- A sweeper at work while objects are placed in other segments.
use Rattle.nmgc_sweep.proofs.Vocabulary.{ℕ, ◌≡◌, ◌≢◌, ◌↔◌, ◌∙◌, inl, inr, sym, ap, subst, arith, List, length, length-set, cases_eq, get_or-set_other, Segment, mark_of, Sweeping, nth, Segments, HasNumber, IsChosen, IsWaiting, AllocState, Cells, IsIn, IsTarget, LiesIn, cells, no_cells, StandsFor, nth-set_other, IsKeptIn, Cycle, IsSettledByte, CycleSeen, Sweeper, IsAtWork, KeepsWaiting, WorkGoesOn, PlacingKeepsWaiting}
use Rattle.nmgc_sweep.proofs.Begins.{left_stays, waits_there}

module _ (c : Cycle) (closed : ℕ) (words after : List ℕ) (a b : AllocState) (old new : Segments) (cycle : CycleSeen) (sweeper : Sweeper)
    (work : IsAtWork c closed words a old cycle sweeper)
    (stands : StandsFor new after b)
    (k : KeepsWaiting old new a b) where
  waited : (n : ℕ) → IsIn Sweeping (cells b n) → IsIn Sweeping (cells a n)
  waited n is = (waits_there old words a work.stands n).0 ((k.waits n).0 ((waits_there new after b stands n).1 is))

  waits_still : (n : ℕ) → IsIn Sweeping (cells a n) → IsIn Sweeping (cells b n)
  waits_still n is = (waits_there new after b stands n).0 ((k.waits n).1 ((waits_there old words a work.stands n).1 is))

  goes_on : IsAtWork c closed after b new cycle sweeper
  goes_on = record {
    stands = stands;
    notes = work.notes;
    sweeping = record {
      from_is = work.sweeping.from_is;
      closed_is = work.sweeping.closed_is;
      dead = work.sweeping.dead;
      kept = work.sweeping.kept;
      noted = work.sweeping.noted;
      as_noted = λ n is. let was = work.sweeping.as_noted n (waited n is) in (was.0, k.names n (waited n is) ∙ was.1);
      marked = λ n block name is lies.
          let lay : LiesIn a n block name = cc (k.names n (waited n is), lies) in
          subst (λ (m : ℕ). (m ≡ sweeper.seen.epoch) ↔ IsKeptIn c name) (sym (k.marks n block)) (work.sweeping.marked n block name (waited n is) lay);
      had = λ n. (
        (λ has. let f = (work.sweeping.had n).0 has in (f.0, f.1, f.2, (λ w. f.3 (waited f.0 w)), f.4)),
        (λ f. (work.sweeping.had n).1 (f.0, f.1, f.2, (λ w. f.3 (waits_still f.0 w)), f.4)),
      );
      had_once = work.sweeping.had_once;
      freed = λ n. (
        (λ has. let f = (work.sweeping.freed n).0 has in (f.0, f.1, f.2, (λ w. f.3 (waited f.0 w)), f.4, f.5)),
        (λ f. (work.sweeping.freed n).1 (f.0, f.1, f.2, (λ w. f.3 (waits_still f.0 w)), f.4, f.5)),
      );
      freed_once = work.sweeping.freed_once;
    };
    settled = λ n block there not_waiting.
        let count = k.count in
        let there_before : HasNumber old n = omega (arith, there, count) in
        subst (λ (m : ℕ). IsSettledByte c.number m) (sym (k.marks n block)) (work.settled n block there_before (λ w. not_waiting ((k.waits n).1 w)));
    begun = work.begun;
  }

pub work_goes_on : WorkGoesOn
work_goes_on c closed words after a b old new cycle sweeper work left stands k =
    (goes_on c closed words after a b old new cycle sweeper work stands k, left_stays old new sweeper k.waits k.layout left)

-- the segment for the next name doesn't wait
chosen_not : (s : Segments) (m class n : ℕ) → IsChosen s m class n → IsWaiting s n → ⊥
chosen_not s m class n (inl own) is = let f = sym own.is.0 ∙ is in cc
chosen_not s m class n (inr (inl next)) is = let f = sym next.least.is.0 ∙ is in cc
chosen_not s m class n (inr (inr next)) is = let f = sym next.least.is ∙ is in cc

target_not : (a : AllocState) (m class n : ℕ) → IsTarget a m class n → IsIn Sweeping (cells a n) → ⊥
target_not a m class n (inl own) is = let f = sym own.1.0 ∙ is in cc
target_not a m class n (inr (none, inl next)) is = let f = sym next.is.1.0 ∙ is in cc
target_not a m class n (inr (none, inr (no_active, next))) is = let f = sym next.is.1 ∙ is in cc

pub placing_keeps_waiting : PlacingKeepsWaiting
placing_keeps_waiting layout old new a b mutator class at name h p =
    let n = h.number in
    let other : (i : ℕ) → i ≢ h.number → nth new.segments i ≡ nth old.segments i = λ i ne. ap (λ (l : List Segment). nth l i) h.others ∙
    nth-set_other old.segments h.number i (nth new.segments h.number) ne in
    let not_now : IsWaiting new h.number → ⊥ = λ is. elim h.takes.state [
      | inl room ↦ let f = sym room.1 ∙ is in cc
      | inr full ↦ let f = sym full.1 ∙ is in cc
    ] in
    let not_before : IsWaiting old h.number → ⊥ = chosen_not old mutator class h.number h.chosen in
    record {
      waits = λ i. elim (cases_eq i h.number) [
        | inl e ↦ (
          (λ is. absurd (not_now (subst (λ (j : ℕ). IsWaiting new j) e is))),
          (λ is. absurd (not_before (subst (λ (j : ℕ). IsWaiting old j) e is))),
        )
        | inr ne ↦ (
          (λ is. sym (ap (λ (s : Segment). s.state) (other i ne)) ∙ is),
          (λ is. ap (λ (s : Segment). s.state) (other i ne) ∙ is),
        )
      ];
      marks = λ i block. elim (cases_eq i h.number) [
        | inl e ↦ cc (e, h.takes.rest)
        | inr ne ↦ ap (λ (s : Segment). mark_of s block) (other i ne)
      ];
      names = λ i is.
          let ne : i ≢ p.number = λ e. target_not a mutator class p.number p.target (rw e at is) in
          elim p.placed [
            | inl full ↦ ap (λ (x : AllocState). (cells x i).names) full.1 ∙ ap (λ (x : Cells). x.names) (get_or-set_other a.segments p.number i _ no_cells ne)
            | inr room ↦ ap (λ (x : AllocState). (cells x i).names) room.1 ∙ ap (λ (x : Cells). x.names) (get_or-set_other a.segments p.number i _ no_cells ne)
          ];
      count = ap (λ (l : List Segment). length l) h.others ∙ length-set old.segments h.number (nth new.segments h.number);
      layout = h.layout;
    }
