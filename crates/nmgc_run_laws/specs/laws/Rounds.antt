-- A round keeps the invariant of a run.
use Rattle.std.specs.Prelude.{◌+◌, ◌-◌, ◌<◌, ◌^◌, ◌∷◌, ◌++◌}
use Rattle.nmgc_run_laws.specs.laws.Vocabulary.{ℕ, List, [], sym, ap, subst, ◌∙◌, IsSome, World, serial_of, node_of, Row, replayed, closed, CanReplay, nothing_in, world_after, replayed_names, AllocState, tracked_wide, IsKeptIn, Cycle, noted, SweepsBeside, IsOfSnapshot, IsAfterClosing, WaitKnown, LieKnown, AreSoundBlocks, Plan, Progress, idle, marking, sweeping, layout_of}
use Rattle.nmgc_run_laws.specs.laws.{Filing.each_filed, Serials.rows_mutators, States.IsSoundWith, States.Worked, States.replayed_more, States.can_more, States.known_then, Sweeps.each_waits, Sweeps.each_lie, Sweeps.sweeps_keep, Tracks.tracked_before, Tracks.tracked_young, Tracks.tracked_known}

-- a closed cycle after rows
closing_more : (c : Cycle) (w : World) (rows : List Row) → IsAfterClosing c w → CanReplay w rows → IsAfterClosing c (replayed w rows)
closing_more c w rows after can =
    let first : World = closed (replayed c.snapshot c.rows) after.dead in
    record {
      sound = after.sound;
      dead = after.dead;
      lists = after.lists;
      since = after.since ++ rows;
      can = can_more first after.since rows after.can (subst (λ (x : World). CanReplay x rows) after.world_is can);
      world_is = ap (λ (x : World). replayed x rows) after.world_is ∙ sym (replayed_more first after.since rows);
    }

lie_more : (w : World) (rows : List Row) (a : AllocState) → CanReplay w rows → LieKnown w a → LieKnown (replayed w rows) a
lie_more w rows a can lie number block n lies = replayed_names w rows can n (lie number block n lies)

module _ (plan : Plan) (left after_left : ℕ →
    ℕ) (quota : ℕ) (w : World) (a b : AllocState) (rows : List Row) (can : CanReplay w rows) (made : (m : ℕ) →
    serial_of (replayed w rows) m + after_left m < 2 ^ 32 - 1) where
  round_idle : IsSoundWith plan left w a idle → SweepsBeside quota idle a b → Worked plan after_left w (replayed w rows) b idle
  round_idle h same =
      let known : LieKnown w b = subst (LieKnown w) (sym same) h.known in
      record {
        world = world_after w rows h.world can;
        mutators = rows_mutators w rows can ∙ h.mutators;
        made = made;
        sound_blocks = subst (AreSoundBlocks (layout_of plan)) (sym same) h.sound_blocks;
        old_known = known;
        known = lie_more w rows b can known;
        cycle = tt;
        old = λ n tracked other there. rw same (h.blocks n (tracked_before w [] rows h.world can n tracked there) other);
        young = tracked_young w rows h.world can [] (λ e held n wide. absurd (nothing_in e held));
        there = tracked_known (replayed w rows) [] (world_after w rows h.world can) (λ e held n wide. absurd (nothing_in e held));
      }

  round_marking : (c : Cycle) → IsSoundWith plan left w a (marking c) → SweepsBeside quota (marking c) a b →
      Worked plan after_left w (replayed w rows) b (noted (marking c) rows)
  round_marking c h same =
      let all : List Row = c.rows ++ rows in
      let more : CanReplay c.snapshot all = can_more c.snapshot c.rows rows h.cycle.0.rows (subst (λ (x : World). CanReplay x rows) h.cycle.1 can) in
      let known_names = known_then w a (marking c) h.cycle in
      let known : LieKnown w b = subst (LieKnown w) (sym same) h.known in
      record {
        world = world_after w rows h.world can;
        mutators = rows_mutators w rows can ∙ h.mutators;
        made = made;
        sound_blocks = subst (AreSoundBlocks (layout_of plan)) (sym same) h.sound_blocks;
        old_known = known;
        known = lie_more w rows b can known;
        cycle = (
          record { world = h.cycle.0.world; rows = more },
          cc (h.cycle.1, replayed_more c.snapshot c.rows rows),
          subst (WaitKnown c) (sym same) h.cycle.2,
        );
        old = λ n tracked other there. rw same (h.blocks n (tracked_before w (c.snapshot ∷ []) rows h.world can n tracked there) other);
        young = tracked_young w rows h.world can (c.snapshot ∷ []) known_names;
        there = tracked_known (replayed w rows) (c.snapshot ∷ []) (world_after w rows h.world can) (λ e held n wide.
            replayed_names w rows can n (known_names e held n wide));
      }

  round_sweeping : (c : Cycle) (number : ℕ) → IsSoundWith plan left w a (sweeping c number) → SweepsBeside quota (sweeping c number) a b →
      Worked plan after_left w (replayed w rows) b (sweeping c number)
  round_sweeping c number h s =
      let after : IsAfterClosing c (replayed w rows) = closing_more c w rows h.cycle.0 can in
      let known : LieKnown w b = each_lie (IsKeptIn c) (λ n. IsSome (node_of w n)) a b s.numbers s.sweeps h.known in
      record {
        world = world_after w rows h.world can;
        mutators = rows_mutators w rows can ∙ h.mutators;
        made = made;
        sound_blocks = each_filed (layout_of plan) (IsKeptIn c) a b s.numbers s.sweeps h.sound_blocks;
        old_known = known;
        known = lie_more w rows b can known;
        cycle = (after, each_waits (IsKeptIn c) (IsOfSnapshot c) a b s.numbers s.sweeps h.cycle.1);
        old = λ n tracked other there.
            sweeps_keep c (replayed w rows) a b _ s after h.cycle.1 n (tracked_wide (replayed w rows) n tracked)
            (h.blocks n (tracked_before w [] rows h.world can n tracked there) other);
        young = tracked_young w rows h.world can [] (λ e held n wide. absurd (nothing_in e held));
        there = tracked_known (replayed w rows) [] (world_after w rows h.world can) (λ e held n wide. absurd (nothing_in e held));
      }

  pub round_worked : (p : Progress) → IsSoundWith plan left w a p → SweepsBeside quota p a b → Worked plan after_left w (replayed w rows) b (noted p rows)
  round_worked idle h same = round_idle h same
  round_worked (marking c) h same = round_marking c h same
  round_worked (sweeping c number) h s = round_sweeping c number h s
