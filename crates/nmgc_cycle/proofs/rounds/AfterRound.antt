-- After a round the collector fits the run.
use Rattle.nmgc_cycle.proofs.{Vocabulary.◌≡◌, Vocabulary.◌≤◌, Vocabulary.refl, Vocabulary.sym, Vocabulary.subst, Vocabulary.inl, Vocabulary.inr, Vocabulary.arith, Vocabulary.reserve_count, Vocabulary.Layout, Vocabulary.AreEmpty, Vocabulary.Opening, Vocabulary.Script, Vocabulary.HasReserve, Vocabulary.IsAfterRound, Vocabulary.Progress, Vocabulary.idle, Vocabulary.marking, Vocabulary.sweeping, Vocabulary.Collector, stops.EnoughFree.went_on, Vocabulary.HasRoundLaws, rounds.GoneOn.HasGoneOn, rounds.MarkedBeside.idled, rounds.MarkedBeside.marked_on, rounds.Over.IsOver, rounds.Over.plan, rounds.Over.s, rounds.Over.t, rounds.Over.rows, rounds.Over.reported, rounds.Over.shown, lists.RootLists.same_nurseries, rounds.RoundOver.layout, rounds.RoundOver.has_reserve, rounds.Rounded.is_round, rounds.Rounded.matches, rounds.SweptBeside.swept_on}
use Rattle.nmgc_alloc.specs.Reserve as reserve

module _ (laws : HasRoundLaws) (script : Script) (c new : Collector) (o : Opening) (x : IsOver script c new o) where
  by_phase : (p : Progress) → (s script c new o x).progress ≡ p → HasGoneOn script c new o x
  by_phase idle e = idled laws script c new o x e
  by_phase (marking k) e = marked_on laws script c new o x k e
  by_phase (sweeping k closed) e = swept_on laws script c new o x k closed e

  pub gone_on : HasGoneOn script c new o x
  gone_on = by_phase (s script c new o x).progress refl

  has_reserve_then : (g : HasGoneOn script c new o x) → HasReserve (layout script c new o x) (shown script c new o x)
  has_reserve_then g = elim (has_reserve script c new o x) [
    | inl more ↦ inl (subst (λ (l : Layout). reserve_count l ≤ reserve.free_count new.heap.segments.segments) x.still.kept.layout (let free = g.free in
        omega (arith, more, free)))
    | inr empty ↦ inr (subst AreEmpty (sym (same_nurseries new.mutators.items)) empty)
  ]

  pub is_after : (g : HasGoneOn script c new o x) →
      IsAfterRound (plan script c new o x) x.run (reported script c new o x) (rows script c new o x) (t script c new o x g.blocks) (shown script c new o x)
  is_after g = record {
    is_run = x.still.at_stop.is_run;
    goes_on = went_on script c x.run x.still x.goes_on;
    round = is_round script c new o x laws.history g.blocks g.swept;
    before = c.rows.rounds;
    agrees = x.still.at_stop.agrees;
    rounds = refl;
    matches = matches script c new o x g.blocks g.phase;
    places = g.at;
    heap = g.heap;
    nurseries = g.nurseries;
    ordered = g.ordered;
    left = g.remembers;
    reported = g.reported;
    reserve = has_reserve_then g;
    cycle = g.cycle;
  }
