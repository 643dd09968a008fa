-- The run of a session: the commands that its queues were given, and the script that they make.
use Rattle.std.proofs.Common.{ℕ, ◌≡◌, ◌<◌, ◌++◌, List, [], ◌∷◌, length, refl, sym, ap, subst, ◌∙◌, arith, Some}
use Rattle.std.specs.Prelude.{Bool, true, false, ◌==◌, if◌then◌else◌, slice_get}
use Rattle.std.proofs.lemmas.{List.length-map, Bool.eqb-true, Bool.eqb-false}
use Rattle.nmgc_lists.specs.laws.Items.{item}
use Rattle.nmgc_world_spec.specs.declared.command.Command.{Command}
use Rattle.nmgc_script.specs.declared.script.Script.{Script}
use Rattle.nmgc_run_spec.specs.AfterRound.{program_of}
use Rattle.nmgc_cycle.specs.{declared.command_queue.CommandQueue.CommandQueue, declared.observer.Event.Event, declared.session.Session.Session, Observed.AreEventsOf, Sessions.HasPushedTo, Sessions.WithPauses, Sessions.accepted_in, Sessions.program_in, Sessions.script_in, laws.Sessions.mapped_at, laws.Sessions.run_so_far}
use Rattle.nmgc_live.specs.{Played.Carries, Played.HasRun, Transcripts.Transcript, Transcripts.events_of, Transcripts.given_to, Transcripts.is_open}

-- the run so far of a session that has a transcript's commands and events
abbrev pub has_run : (stop : Bool) (head : Script) (t : Transcript) (s : Session) → Carries stop head t s → HasRun head t
has_run stop head t s h =
    let far = run_so_far stop s h.is in
    let count : length (accepted_in s) ≡ length s.queues.items = length-map s.queues.items (λ (q : CommandQueue). q.accepted) in
    record {
      script = script_in s;
      collector = s.collector;
      stop = stop;
      config = h.config;
      count = length-map s.queues.items (program_in s.is_open) ∙ h.count;
      accepted = λ k lt. subst (λ (l : List Command). WithPauses l (program_of (script_in s).threads k)) (h.accepted k lt)
          (far.accepted.each k (omega (arith, lt, count, h.count)));
      limits = far.limits;
      in_run = far.in_run;
      events = h.events;
    }

-- a transcript with the same commands and events
pub carries_same : (stop : Bool) (head : Script) (t u : Transcript) (s : Session) → is_open u ≡ is_open t → ((k : ℕ) → given_to k u ≡ given_to k t) →
    events_of u ≡ events_of t → Carries stop head t s → Carries stop head u s
carries_same stop head t u s open_same given_same events_same h = record {
  is = h.is;
  config = h.config;
  count = h.count;
  is_open = h.is_open ∙ sym open_same;
  accepted = λ k lt. h.accepted k lt ∙ sym (given_same k);
  events = subst (λ (l : List Event). AreEventsOf s.collector stop l) (sym events_same) h.events;
}

-- the commands that a mutator was given, once one more was pushed
module _ (m : ℕ) (c : Command) (s r : Session) (p : HasPushedTo m c s r) where
  program_at : (x : Session) (k : ℕ) (q : CommandQueue) → slice_get x.queues.items k ≡ Some q → program_of (accepted_in x) k ≡ q.accepted
  program_at x k q e = mapped_at (λ (y : CommandQueue). y.accepted) [] x.queues.items k q e

  pub pushed_to : (k : ℕ) → k < length s.queues.items →
      program_of (accepted_in r) k ≡ (if m == k then program_of (accepted_in s) k ++ c ∷ [] else program_of (accepted_in s) k)
  pushed_to k lt = by_case (m == k) refl
    where
      by_case : (b : Bool) → (m == k) ≡ b → program_of (accepted_in r) k ≡ (if b then program_of (accepted_in s) k ++ c ∷ [] else program_of (accepted_in s) k)
      by_case true e =
          let same : m ≡ k = eqb-true m k e in
          let old = item s.queues.items k lt in
          let new = item r.queues.items k (omega (arith, lt, p.queues.count)) in
          let pushed = p.queues.pushed old.0 new.0 (subst (λ (n : ℕ). slice_get s.queues.items n ≡ Some old.0) (sym same) old.1)
          (subst (λ (n : ℕ). slice_get r.queues.items n ≡ Some new.0) (sym same) new.1) in
          program_at r k new.0 new.1 ∙ pushed.0.accepted ∙ ap (λ (l : List Command). l ++ c ∷ []) (sym (program_at s k old.0 old.1))
      by_case false e =
          let differs = eqb-false m k e in
          let old = item s.queues.items k lt in
          let kept : slice_get r.queues.items k ≡ slice_get s.queues.items k = p.queues.others k (λ same. differs (sym same)) in
          program_at r k old.0 (kept ∙ old.1) ∙ sym (program_at s k old.0 old.1)
