-- A round that is over is a round of the run: its order is legal, and has each mutator's commands.
use Rattle.nmgc_cycle.proofs.Vocabulary.{ℕ, ◌≡◌, ◌<◌, List, [], length, map, sym, ap, ◌∙◌, arith, Some, slice_get, ◌||◌, get_or-map, slice_get_within, get_or_from_slice_get, World, IsLegal, rows_of, replayed, Command, AllocState, Mutator, Opening, Part, RoundIsHistory, Done, Script, Matches, IsRound, own_rows, SweepsBeside, slices, slice_of, some_asks, is_collect, is_full, program_of, Collector, phase_in, item, slice_index_or}
use Rattle.nmgc_collector_laws.specs.Worked.{HasWorked}
use Rattle.nmgc_cycle.proofs.{lists.Mapped.same_maps, rounds.Over.IsOver, rounds.Over.s, rounds.Over.rows, rounds.Over.w, rounds.Over.t, rounds.Over.reported, rounds.Over.shown, rounds.Over.view, rounds.Over.worked, rounds.Over.with_world, rounds.Over.done_count, rounds.Over.one, rounds.Over.replied, rounds.OwnRows.replies_in, rounds.OwnRows.done_in, rounds.OwnRows.own_again, rounds.OwnRows.same_lengths, lists.Phases.noted_phase, lists.Plans.sound_state, rounds.Positions.left_is, rounds.Slicing.commands_of}

module _ (script : Script) (c new : Collector) (o : Opening) (x : IsOver script c new o) where
  -- a mutator's work, with its part of the view
  pub one_did : (k : ℕ) (m : Mutator) → slice_get new.mutators.items k ≡ Some m → (p : Part) ×
      ((d : List Done) × (slice_get x.did.done k ≡ Some d) × HasWorked o p m d)
  one_did k m e =
      let h = worked script c new o x in
      let within = slice_get_within new.mutators.items k m e in
      let many = h.mutators_are in
      let p = item (view script c new o x).parts k (let n = h.parts_are in omega (arith, within, many, n)) in
      let d = item x.did.done k (let n = h.done_are in omega (arith, within, many, n)) in
      (p.0, (d.0, d.1, h.each k p.0 m d.0 p.1 e d.1))

  -- the replies, and the commands, which are the slices of the rule
  pub reported_is : reported script c new o x ≡ map replies_in x.did.done
  reported_is = let h = worked script c new o x in same_maps (λ (m : Mutator).
      m.replies.items) replies_in new.mutators.items x.did.done (h.mutators_are ∙ sym h.done_are) (λ k m d e f. replied script c new o x k m d e f)

  pub slices_are : slices script.config (s script c new o x).left ≡ map commands_of x.did.done
  slices_are = same_maps (slice_of script.config) commands_of (s script c new o x).left x.did.done
      ((sound_state script c x.run x.limits x.still).able.programs ∙ sym (done_count script c new o x)) each
    where
      each : (k : ℕ) (program : List Command) (d : List Done) → slice_get (s script c new o x).left k ≡ Some program →
          slice_get x.did.done k ≡ Some d → slice_of script.config program ≡ commands_of d
      each k program d e f =
          let within = slice_get_within x.did.done k d f in
          let count = done_count script c new o x in
          let exists : k < length script.threads = omega (arith, within, count) in
          let is : program_of (s script c new o x).left k ≡ program = get_or_from_slice_get (s script c new o x).left k program [] e in
          ap (slice_of script.config) (sym is ∙ left_is script c x.run x.still k exists) ∙ sym (one script c new o x k d f).4.commands

  -- the law's facts
  module _ (history : RoundIsHistory) where
    legal : IsLegal (s script c new o x).world (rows script c new o x)
    legal = rw x.op.world_is at (history o x.did.words (view script c new o x) new.mutators.items x.did.done
        x.did.leaves.0 (worked script c new o x)).0

    each_done : (m : ℕ) → done_in (rows_of m (rows script c new o x)) ≡ slice_index_or x.did.done m []
    each_done = (history o x.did.words (view script c new o x) new.mutators.items x.did.done x.did.leaves.0 (worked script c new o x)).1

    pub world_is : w script c new o x ≡ replayed (s script c new o x).world (rows script c new o x)
    world_is = cc ((history o x.did.words (view script c new o x) new.mutators.items x.did.done x.did.leaves.0 (worked script c new o x)).2, x.op.world_is)

    order : (m : ℕ) → rows_of m (rows script c new o x) ≡ own_rows (slices script.config (s script c new o x).left) (reported script c new o x) m
    order m =
        let own : List Done = slice_index_or x.did.done m [] in
        let commands : slice_index_or (slices script.config (s script c new o x).left) m [] ≡ commands_of own =
        ap (λ (l : List (List Command)). slice_index_or l m []) slices_are ∙ get_or-map commands_of x.did.done m [] in
        let replies : slice_index_or (reported script c new o x) m [] ≡ replies_in own = cc (reported_is, get_or-map replies_in x.did.done m []) in
        sym (
        cc (commands, replies, each_done m, own_again m (rows script c new o x))
        )

    pub is_round : (allocation : AllocState) →
        SweepsBeside script.config.quota (s script c new o x).progress (s script c new o x).allocation allocation →
        IsRound script.config (s script c new o x) (reported script c new o x) (rows script c new o x) (t script c new o x allocation)
    is_round allocation swept = record {
      history = record { lengths = cc (reported_is, same_lengths x.did.done, slices_are); order = order; legal = legal };
      swept = swept;
      rest = ap (λ (world : World). with_world script c new o x world allocation) world_is;
    }

  -- a cycle, or a full one, is asked for by the slices
  asked : new.cycle.collect ≡ ((s script c new o x).collect || some_asks is_collect (slices script.config (s script c new o x).left))
  asked =
      cc (x.did.collect, x.still.at_stop.matches.collect, slices_are)

  full_asked : new.cycle.full ≡ ((s script c new o x).full || some_asks is_full (slices script.config (s script c new o x).left))
  full_asked =
      cc (x.did.full, x.still.at_stop.matches.full, slices_are)

  pub matches : (allocation : AllocState) → phase_in new.cycle.progress ≡ phase_in c.cycle.progress →
      Matches (shown script c new o x) (t script c new o x allocation)
  matches allocation same = record {
    phase = same ∙ x.still.at_stop.matches.phase ∙ sym (noted_phase (s script c new o x).progress (rows script c new o x));
    begun = x.still.at_stop.matches.begun;
    collect = asked;
    full = full_asked;
  }
