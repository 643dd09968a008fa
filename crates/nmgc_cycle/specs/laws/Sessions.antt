-- The script of a session if no line follows: it fits a run, and has the collector in its run.
use Rattle.std.proofs.Common.{ℕ, zero, suc, ◌≡◌, ◌+◌, ◌*◌, ◌<◌, ◌≤◌, ◌++◌, List, [], ◌∷◌, length, map, refl, sym, ap, subst, ◌∙◌, arith, append_assoc, length-append, Some}
use Rattle.std.specs.Prelude.{All, Bool, true, false, slice_get, slice_index_or, sum_by}
use Rattle.std.proofs.lemmas.{List.length-map, List.Elements.All-append, List.Elements.All-cons, List.Elements.All-head, List.Elements.All-nil, List.Elements.All-tail, List.Sums.sum_by-cons}
use Rattle.nmgc_limits.specs.Limits.{most_script_bytes}
use Rattle.nmgc_lists.specs.laws.Items.{item}
use Rattle.nmgc_world_spec.specs.{declared.command.Command.Command, World.Fits}
use Rattle.nmgc_script.specs.{declared.script.Config.Config, Spelling.FitsConfig, Spelling.IsOf, Spelling.version_3, Parts.total_words, laws.Versions.since_last}
use Rattle.nmgc_limits.specs.declared.mutators.TheConstants.{MAKERS}
use Rattle.nmgc_run_spec.specs.AfterRound.{program_of}
use Rattle.nmgc_run_laws.specs.Limits.{FitsRun}
use Rattle.nmgc_cycle.specs.{declared.command_queue.CommandQueue.CommandQueue, declared.session.Session.Session, Sessions.HasRunSoFar, Sessions.IsQueue, Sessions.IsRest, Sessions.IsScriptOfSession, Sessions.IsSession, Sessions.MayComeFirst, Sessions.WithPauses, Sessions.accepted_in, Sessions.pause_in, Sessions.program_in, Sessions.script_in}
use Rattle.nmgc_cycle.specs.laws.Queues.{first_follows, pause_fits, pause_small, paused_now, pauses_more}
use Rattle.std.specs.Prelude.{◌||◌}

-- item k of a mapped list
pub mapped_at : {A B : Type 0} (f : A → B) (d : B) (xs : List A) (k : ℕ) (x : A) → slice_get xs k ≡ Some x → slice_index_or (map f xs) k d ≡ f x
mapped_at f d [] k x e = absurd cc
mapped_at f d (y ∷ xs) zero x e = let same : y ≡ x = cc in ap f same
mapped_at f d (y ∷ xs) (suc k) x e = mapped_at f d xs k x e

-- a fact of each item is one of all items of a mapped list
pub all_mapped : {A B : Type 0} (F : B → Type 0) (f : A → B) (xs : List A) → ((k : ℕ) (x : A) → slice_get xs k ≡ Some x → F (f x)) → All F (map f xs)
all_mapped F f [] h = All-nil F
all_mapped F f (x ∷ xs) h = All-cons F (f x) (map f xs) (h 0 x refl) (all_mapped F f xs (λ k. h (suc k)))

all_of_version : (words : ℕ) (l : List Command) → All (Fits words) l → All (IsOf version_3) l
all_of_version words [] h = All-nil (IsOf version_3)
all_of_version words (c ∷ l) h = All-cons (IsOf version_3) c l ((All-head (Fits words) c l h).registers, since_last c)
    (all_of_version words l (All-tail (Fits words) c l h))

few_in_all : {A : Type 0} (f : A → List Command) (xs : List A) → ((k : ℕ) (x : A) → slice_get xs k ≡ Some x → length (f x) ≤ most_script_bytes) →
    sum_by length (map f xs) ≤ length xs * most_script_bytes
few_in_all f [] h = omega arith
few_in_all f (x ∷ xs) h =
    let here = h 0 x refl in
    let rest = few_in_all f xs (λ k. h (suc k)) in
    let all = sum_by-cons length (f x) (map f xs) in
    omega (arith, here, rest, all)

-- programs within the limits, each with few enough commands, are a script that fits a run
pub fits_run : {A : Type 0} (config : Config) (f : A → List Command) (xs : List A) → FitsConfig version_3.segments config → 1 ≤ length xs → length xs ≤ MAKERS →
    total_words config (length xs) ≤ version_3.heap_words →
    ((k : ℕ) (x : A) → slice_get xs k ≡ Some x → All (Fits config.words) (f x) × (length (f x) ≤ most_script_bytes)) →
    FitsRun (record { version = version_3.number; config = config; threads = map f xs })
fits_run config f xs fit some few total each =
    let count : length (map f xs) ≡ length xs = length-map xs f in record {
      fits = record {
        version = refl;
        config = fit;
        some_thread = omega (arith, some, count);
        threads = omega (arith, few, count);
        total = subst (λ (n : ℕ). config.segments * config.words + n * config.nursery ≤ version_3.heap_words) (sym count) total;
        commands = all_mapped (All (Fits config.words)) f xs (λ k x e. (each k x e).0);
        of_version = all_mapped (All (IsOf version_3)) f xs (λ k x e. all_of_version config.words (f x) (each k x e).0);
      };
      few = (let all = few_in_all f xs (λ k x e. (each k x e).1) in omega (arith, all, few));
    }

-- the program of a queue if no line follows
module _ (stop : Bool) (s : Session) (is : IsSession stop s) where
  program_fits : (k : ℕ) (q : CommandQueue) → slice_get s.queues.items k ≡ Some q → All (Fits s.config.words) (program_in s.is_open q)
  program_fits k q e =
      let h = is.queues k q e in
      let own : All (Fits q.words) (program_in s.is_open q) = All-append (Fits q.words) q.answered (q.waiting.items ++ pause_in (s.is_open || q.can_pause))
      h.0.answered_fit (All-append (Fits q.words) q.waiting.items (pause_in (s.is_open || q.can_pause)) h.0.waiting_fit
      (pause_fits q.words (s.is_open || q.can_pause))) in
      subst (λ (n : ℕ). All (Fits n) (program_in s.is_open q)) h.1 own

  few_by : (b : Bool) → s.is_open ≡ b → (k : ℕ) (q : CommandQueue) → slice_get s.queues.items k ≡ Some q →
      length q.answered + length (q.waiting.items ++ pause_in (b || q.can_pause)) ≤ most_script_bytes
  few_by true e k q there =
      let room = is.room e k q there in
      let long = length-append q.waiting.items (pause_in true) in
      let small = pause_small true in
      omega (arith, room, long, small)
  few_by false e k q there = (is.queues k q there).0.few

  program_few : (k : ℕ) (q : CommandQueue) → slice_get s.queues.items k ≡ Some q → length (program_in s.is_open q) ≤ most_script_bytes
  program_few k q e =
      let few = few_by s.is_open refl k q e in
      let long = length-append q.answered (q.waiting.items ++ pause_in (s.is_open || q.can_pause)) in
      omega (arith, few, long)

  pub limits_now : FitsRun (script_in s)
  limits_now = fits_run s.config (program_in s.is_open) s.queues.items is.config_fits is.some is.few is.total (λ k q e. (program_fits k q e, program_few k q e))

  rest_now : (b : Bool) (q : CommandQueue) → IsRest b q (q.waiting.items ++ pause_in (b || q.can_pause))
  rest_now true q = first_comes q.waiting.items
    where
      first_comes : (waiting : List Command) → MayComeFirst waiting (waiting ++ pause_in true)
      first_comes [] = omega arith
      first_comes (c ∷ waiting) = (waiting ++ pause_in true, refl)
  rest_now false q = first_follows (q.waiting.items ++ pause_in q.can_pause)

  pub script_now : IsScriptOfSession s (script_in s)
  script_now = record {
    version = refl;
    config_is = refl;
    count = length-map s.queues.items (program_in s.is_open);
    programs = λ k q e. (
      q.waiting.items ++ pause_in (s.is_open || q.can_pause),
      mapped_at (program_in s.is_open) [] s.queues.items k q e,
      rest_now s.is_open q,
    );
    limits = limits_now;
  }

  -- the accepted commands are the script's programs, without pauses
  accepted_now : (k : ℕ) → k < length (accepted_in s) → WithPauses (program_of (accepted_in s) k) (program_of (script_in s).threads k)
  accepted_now k lt =
      let count = length-map s.queues.items (λ (q : CommandQueue). q.accepted) in
      let q = item s.queues.items k (omega (arith, lt, count)) in
      let h = (is.queues k q.0 q.1).0 in
      let own : WithPauses q.0.accepted (program_in s.is_open q.0) = subst (λ (l : List Command). WithPauses q.0.accepted l)
      (append_assoc q.0.answered q.0.waiting.items (pause_in (s.is_open || q.0.can_pause)))
      (pauses_more q.0.accepted (q.0.answered ++ q.0.waiting.items) (s.is_open || q.0.can_pause) (paused_now q.0 h)) in
      subst (λ (l : List Command). WithPauses l (program_of (script_in s).threads k)) (sym (mapped_at (λ (q : CommandQueue). q.accepted) [] s.queues.items k q.0 q.1))
      (subst (λ (l : List Command). WithPauses q.0.accepted l) (sym (mapped_at (program_in s.is_open) [] s.queues.items k q.0 q.1)) own)

  -- the session's run so far
  pub run_so_far : HasRunSoFar stop s
  run_so_far = record {
    accepted = record {
      count = length-map s.queues.items (program_in s.is_open) ∙ sym (length-map s.queues.items (λ (q : CommandQueue). q.accepted));
      each = accepted_now;
    };
    config = refl;
    limits = limits_now;
    in_run = is.in_run (script_in s) script_now;
  }
