-- The opening of the round after a stop, whatever the collector does there.
use Rattle.nmgc_cycle.proofs.Vocabulary.{ℕ, ◌≡◌, List, [], ◌∷◌, map, refl, sym, ap, subst, ◌∙◌, false, Some, World, nothing_in, AreEarlier, Place, earlier, CanOpen, Opening, Script, HoldsInCycle, IsMarking, snapshots, Run, last_state, IsInCycle, State, Progress, idle, marking, sweeping, phase_of, plan_of, Cycle, AreShown, Collector, IsAfterStop, HasStopped, seen, words_in, is_marking_in, FitsRun, OpensIn, OpensAt, HasOpeningLaws}
use Rattle.nmgc_collector_laws.specs.Rest as turn
use Rattle.nmgc_collector_laws.specs.RestMarking as beside
use Rattle.nmgc_cycle.proofs.{lists.Phases.is_marking_phase, lists.Phases.marks_by_phase, lists.Plans.sound_state, rounds.Resting.still_rests}

-- such an opening has the stop's layout, addresses, mutators and world, and a marking cycle's snapshot; the round may begin
pub record IsOpened (script : Script) (c : Collector) (run : Run) (still : IsAfterStop script c run) (o : Opening) : Type 0 where
  pub layout_is : o.layout ≡ c.heap.segments.layout
  pub marks : o.marking ≡ is_marking_in c.cycle.progress
  pub world_is : o.core.world ≡ (last_state run).world
  pub places_are : o.places ≡ still.at_stop.heap.places
  pub hands_are : o.hands ≡ map (turn.hand_of o.core.world o.places) c.mutators.items
  pub spoken : earlier o ≡ snapshots (last_state run).progress
  pub can : (words : List ℕ) → c.heap.words ≡ Some words → CanOpen o words
  pub past : AreEarlier (earlier o) o.core.world

-- after a stop there is an opening
some_opening : (Paced : Cycle → Type 0) (p : Progress) (s : State) (c : Collector) (places : List Place) → HoldsInCycle Paced p s (seen c) places →
    (o : Opening) × OpensIn p s c places o
some_opening Paced idle s c places h = (turn.opening_at c.heap.segments.layout s.world places c.mutators.items, refl)
some_opening Paced (marking k) s c places h = (beside.opening_beside c.heap.segments.layout h.0.core places c.mutators.items, (h.0, refl))
some_opening Paced (sweeping k closed) s c places h = (turn.opening_at c.heap.segments.layout s.world places c.mutators.items, refl)

pub opening_there : (script : Script) (c : Collector) → HasStopped script c → (o : Opening) × OpensAt script c o
opening_there script c (run, still) =
    let h = some_opening _ (last_state run).progress (last_state run) c still.at_stop.heap.places still.at_stop.cycle in
    (h.0, (run, still, h.1))

module _ (laws : HasOpeningLaws) (script : Script) (c : Collector) (run : Run) (limits : FitsRun script) (still : IsAfterStop script c run) where
  -- whether it is marking
  marks_with : (p : Progress) → (last_state run).progress ≡ p → is_marking_phase (phase_of p) ≡ is_marking_in c.cycle.progress
  marks_with p e = sym (marks_by_phase c.cycle.progress ∙ ap is_marking_phase (still.at_stop.matches.phase ∙ ap phase_of e))

  pub shown_are : AreShown c.heap.segments.layout (seen c) c.mutators.items
  shown_are = record { are = refl; each = λ k m e. let own = still.kept.own k m e in (own.number, own.layout, own.whole) }

  -- if none marks
  quiet : (p : Progress) → (last_state run).progress ≡ p → is_marking_phase (phase_of p) ≡ false → snapshots p ≡ [] →
      IsOpened script c run still (turn.opening_at c.heap.segments.layout (last_state run).world still.at_stop.heap.places c.mutators.items)
  quiet p e none nothing =
      let none_spoken : snapshots (last_state run).progress ≡ [] = ap snapshots e ∙ nothing in
      record {
        layout_is = refl;
        marks = sym none ∙ marks_with p e;
        world_is = refl;
        places_are = refl;
        hands_are = refl;
        spoken = sym none_spoken;
        can = λ words is. laws.quiet c.heap.segments still.at_stop.heap.places (last_state run).world words c.mutators.items
            (still_rests script c run limits still none_spoken words is);
        past = λ x h. absurd (nothing_in x h);
      }

  -- and if one does
  pub rests_beside : (k : Cycle) → (last_state run).progress ≡ marking k → (h : IsMarking k (last_state run) (seen c) still.at_stop.heap.places) →
      beside.IsAtRestMarking k h.core c.heap.segments still.at_stop.heap.places (last_state run).world (seen c).words c.mutators.items (seen c).marker.queue
  rests_beside k e h = (laws.rests (plan_of script) (last_state run) (seen c) k c.mutators.items (sound_state script c run limits still)
      still.at_stop.heap still.at_stop.at_rest e h still.kept.sound shown_are).0

  pub in_cycle : (p : Progress) → (last_state run).progress ≡ p → IsInCycle p (last_state run).world (last_state run).allocation
  in_cycle p e = subst (λ (q : Progress). IsInCycle q (last_state run).world (last_state run).allocation) e (sound_state script c run limits still).cycle

  beside_cycle : (k : Cycle) → (last_state run).progress ≡ marking k → (h : IsMarking k (last_state run) (seen c) still.at_stop.heap.places) →
      IsOpened script c run still (beside.opening_beside c.heap.segments.layout h.core still.at_stop.heap.places c.mutators.items)
  beside_cycle k e h =
      let same = laws.snapshot k (last_state run).world h.core (in_cycle (marking k) e).0 h.machine in
      let opens = laws.marks k h.core c.heap.segments still.at_stop.heap.places (last_state run).world (seen c).words c.mutators.items
      (seen c).marker.queue (rests_beside k e h) in
      record {
        layout_is = refl;
        marks = marks_with (marking k) e;
        world_is = h.machine.world_is;
        places_are = refl;
        hands_are = refl;
        spoken = ap (λ (w : World). w ∷ []) same ∙ sym (ap snapshots e);
        can = λ words is. subst (CanOpen (beside.opening_beside c.heap.segments.layout h.core still.at_stop.heap.places c.mutators.items)) (ap words_in is)
            opens.0;
        past = opens.1;
      }

  pub opened_in : (p : Progress) (o : Opening) → (last_state run).progress ≡ p → OpensIn p (last_state run) c still.at_stop.heap.places o →
      IsOpened script c run still o
  opened_in idle o e h = subst (IsOpened script c run still) (sym h) (quiet idle e refl refl)
  opened_in (marking k) o e h = subst (IsOpened script c run still) (sym h.1) (beside_cycle k e h.0)
  opened_in (sweeping k closed) o e h = subst (IsOpened script c run still) (sym h) (quiet (sweeping k closed) e refl refl)

-- the opening of a stop is such an opening
pub opened : HasOpeningLaws → (script : Script) (c : Collector) (o : Opening) → FitsRun script → (h : OpensAt script c o) → IsOpened script c h.0 h.1 o
opened laws script c o limits (run, still, is) = opened_in laws script c run limits still (last_state run).progress o refl is
