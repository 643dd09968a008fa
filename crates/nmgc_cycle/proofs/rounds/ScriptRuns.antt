-- A run of the programs of a script, as lists of commands, is a run of the script. They may be run if the script may.
use Rattle.nmgc_cycle.proofs.Vocabulary.{ℕ, zero, suc, ◌≡◌, ◌⊎◌, ◌+◌, ◌<◌, ◌≤◌, ◌++◌, ◌∙◌, List, [], ◌∷◌, map, drop, length, slice_get, slice_index_or, Option, None, Some, refl, sym, ap, subst, arith, inl, inr, append-nil, append_assoc, length-append, length-map, drop_at, option_to_list, Command, Reply, Done, Script, Layout, Plan, Run, State, plan_of, layout_of, last_state, answer_of, program_of, longer, longer_plan, longer_state, longer_run, MayGoOn, layout_longer, runs_are_of_longer, left_is_determined, answered_count, lawful_are_of_runs, RoundRows, Report, IsRun, IsRunOf, FitsRun, Follows, AreListed, MayRun, most_total, sum_by, sum_by-cons, replicate, get_or-replicate, slice_get_within, in_limits_fit, threads_few, total_few, segments_few, threads_of, script_of, all_replies, replies_to}
use Rattle.nmgc_run_spec.specs.Lawful.{IsLawful, HoldsAtEnd}
use Rattle.nmgc_run_laws.specs.laws.Longer.{rows_are_of_longer, answering}
use Rattle.nmgc_script.specs.{Parts.total_words, Spelling.IsInLimits, Spelling.version_3}
use Rattle.nmgc_mutator.specs.declared.program.Listed.{Listed}
use Rattle.nmgc_cycle.specs.{ScriptRuns.ListsRunAsScripts}
use Rattle.nmgc_cycle.proofs.{rounds.LongerRuns.may_each, rounds.ListedRounds.listed_next, rounds.ListedRounds.listed_steps, rounds.ListedRounds.listed_words, rounds.ListedRounds.listed_most, rounds.ListedRounds.listed_valid, rounds.ListedRounds.FollowDone, rounds.ListedRounds.lists_follow, rounds.SoFar.thread_at, lists.Plans.good_plan}

-- the number of commands of a mutator that the rounds answered is the number of its replies
answered_is : (rounds : List RoundRows) (k : ℕ) → answered_count rounds k ≡ length (all_replies rounds k)
answered_is [] k = refl
answered_is (rows ∷ rounds) k = ap (λ (n : ℕ). length (slice_index_or rows.replies k []) + n) (answered_is rounds k)
    ∙ sym (length-append (slice_index_or rows.replies k []) (all_replies rounds k))

-- one program: the commands given, then the waiting one, and then more of them only if one waits
own_more : (thread rest : List Command) (d : List Done) (waiting : Option Command) → thread ≡ map (λ (x : Done). x.0) d ++ rest → Follows waiting rest →
    (m : List Command) × ((map (λ (x : Done). x.0) d ++ option_to_list waiting) ++ m ≡ thread) × ((m ≡ []) ⊎ (0 < length (option_to_list waiting)))
own_more thread rest d None is follows = (
  [],
  append-nil (map (λ (x : Done). x.0) d ++ []) ∙ ap (λ (l : List Command). map (λ (x : Done). x.0) d ++ l) (sym follows) ∙ sym is,
  inl refl,
)
own_more thread rest d (Some c) is follows = (
  follows.0,
  append_assoc (map (λ (x : Done). x.0) d) (c ∷ []) follows.0 ∙ ap (λ (l : List Command). map (λ (x : Done). x.0) d ++ l) (sym follows.1) ∙ sym is,
  inr (omega arith),
)

module _ {P : Type 0} (next : P → Option Command) where
  -- program k has no more commands, or it gave some and one waits
  abbrev NoneOrWaits : List P → List (List Done) → List (List Command) → ℕ → Type 0
  NoneOrWaits qs given more k = (program_of more k ≡ []) ⊎
      ((q : P) × (d : List Done) × (slice_get qs k ≡ Some q) × (slice_get given k ≡ Some d) × (0 < length (option_to_list (next q))))

  first_of : (q : P) (qs : List P) (d : List Done) (given : List (List Done)) (m : List Command) (more : List (List Command)) →
      (m ≡ []) ⊎ (0 < length (option_to_list (next q))) → ((k : ℕ) → NoneOrWaits qs given more k) → (k : ℕ) →
      NoneOrWaits (q ∷ qs) (d ∷ given) (m ∷ more) k
  first_of q qs d given m more (inl none) rest zero = inl none
  first_of q qs d given m more (inr some) rest zero = inr (q, d, refl, refl, some)
  first_of q qs d given m more own rest (suc k) = rest k

  all_more : (threads : List (List Command)) (given : List (List Done)) (qs : List P) → length given ≡ length threads → length qs ≡ length threads →
      ((k : ℕ) (q : P) (d : List Done) → slice_get qs k ≡ Some q → slice_get given k ≡ Some d →
      (rest : List Command) × (program_of threads k ≡ map (λ (x : Done). x.0) d ++ rest) × Follows (next q) rest) →
      (more : List (List Command)) × (longer (threads_of next given qs) more ≡ threads) × ((k : ℕ) → NoneOrWaits qs given more k)
  all_more [] [] [] a b h = ([], refl, λ k. inl refl)
  all_more (t ∷ threads) (d ∷ given) (q ∷ qs) a b h =
      let here = h 0 q d refl refl in
      let own = own_more t here.0 d (next q) here.1 here.2 in
      let rest = all_more threads given qs (omega (arith, a)) (omega (arith, b)) (λ k. h (suc k)) in (
        own.0 ∷ rest.0,
        ap (λ (l : List Command). l ∷ longer (threads_of next given qs) rest.0) own.1 ∙ ap (λ (l : List (List Command)). t ∷ l) rest.1,
        first_of q qs d given own.0 rest.0 own.2 rest.2,
      )
  all_more [] [] (q ∷ qs) a b h = absurd (omega (arith, b))
  all_more [] (d ∷ given) qs a b h = absurd (omega (arith, a))
  all_more (t ∷ threads) [] qs a b h = absurd (omega (arith, a))
  all_more (t ∷ threads) (d ∷ given) [] a b h = absurd (omega (arith, b))

-- a report for the commands that programs gave is a report for each script that goes on from there as the programs do
module _ {P : Type 0} (next : P → Option Command) (steps : P → Reply → P → Type 0) (script : Script) (limits : FitsRun script) (after : List P)
    (report : Report) (given : List (List Done)) (count : length given ≡ length script.threads) (many : length after ≡ length script.threads)
    (on : FollowDone next script [] after given) (run : IsRunOf (script_of next script.config given after) report)
    (replies : (k : ℕ) (d : List Done) → slice_get given k ≡ Some d → all_replies report.rounds k ≡ replies_to d) where
  found : (more : List (List Command)) × (longer (threads_of next given after) more ≡ script.threads) × ((k : ℕ) → NoneOrWaits next after given more k)
  found = all_more next script.threads given after count many on

  abbrev own : Plan
  own = plan_of (script_of next script.config given after)

  abbrev ran : Run
  ran = run.lawful.run

  same : longer_plan found.0 own ≡ plan_of script
  same = ap (λ (threads : List (List Command)). record { config = script.config; threads = threads }) found.1

  -- of each program the waiting command is left
  left_waits : (k : ℕ) (q : P) (d : List Done) → slice_get after k ≡ Some q → slice_get given k ≡ Some d →
      program_of (last_state ran).left k ≡ option_to_list (next q)
  left_waits k q d e f =
      let number : length d ≡ answered_count report.rounds k =
      sym (answered_is report.rounds k ∙ ap (λ (l : List Reply). length l) (replies k d f) ∙ length-map d (λ (x : Done). x.1)) in
      left_is_determined own ran report.rounds report.stops report.cycles run.lawful.is_run run.lawful.agrees k
      ∙ ap (λ (l : List Command). drop (answered_count report.rounds k) l) (thread_at next steps given after k d q f e)
      ∙ drop_at (map (λ (x : Done). x.0) d) (option_to_list (next q)) (answered_count report.rounds k) (length-map d (λ (x : Done). x.0) ∙ number)

  may : MayGoOn (last_state ran).left found.0
  may = may_each (last_state ran).left found.0 (λ k lt. elim (found.2 k) [
    | inl none ↦ inl none
    | inr there ↦ inr (subst (λ (l : List Command). 0 < length l) (sym (left_waits k there.0 there.1 there.2 there.3)) there.4)
  ])

  then : IsRun (longer_plan found.0 own) (longer_run found.0 ran) × (last_state (longer_run found.0 ran) ≡ longer_state found.0 (last_state ran))
  then = runs_are_of_longer own ran found.0 run.lawful.is_run may

  heap : HoldsAtEnd (layout_of own) (longer_state found.0 (last_state ran)) report
  heap =
      let h = run.lawful.heap in
      record {
        places = h.places;
        all = h.all;
        layout_is = h.layout_is;
        stands = h.stands;
        fit = h.fit;
        objects = h.objects;
        zeros = h.zeros;
        count = h.count;
        mutators = h.mutators;
        weaks = h.weaks;
      }

  lawful : IsLawful script report
  lawful = record {
    run = longer_run found.0 ran;
    is_run = subst (λ (p : Plan). IsRun p (longer_run found.0 ran)) same then.0;
    agrees = rows_are_of_longer ran found.0 report.rounds report.stops report.cycles run.lawful.agrees;
    end_is =
        ap (λ (s : State). answer_of (plan_of script) s) then.1
        ∙ ap (λ (p : Plan). answer_of p (longer_state found.0 (last_state ran))) (sym same)
        ∙ answering found.0 own (last_state ran) may ∙ run.lawful.end_is;
    heap = subst (λ (s : State). HoldsAtEnd (layout_of (plan_of script)) s report) (sym then.1)
        (subst (λ (l : Layout). HoldsAtEnd l (longer_state found.0 (last_state ran)) report)
        (sym (layout_longer found.0 own) ∙ ap (λ (p : Plan). layout_of p) same) heap);
  }

  pub is_run_of : IsRunOf script report
  is_run_of = (lawful_are_of_runs script report limits lawful).0

pub lists_are_scripts : ListsRunAsScripts listed_next listed_steps listed_words listed_most listed_valid
lists_are_scripts script before after report limits are h =
    is_run_of listed_next listed_steps script limits after report h.given (h.gave.count ∙ are.count) (h.gave.programs ∙ are.count)
    (lists_follow script [] before limits are after h.given h.gave) h.run h.replies

-- The programs of a script, as lists from their beginnings, may be run

-- all lists together have no more commands than all programs
total_lists : (ps : List Listed) (threads : List (List Command)) → length ps ≡ length threads →
    ((k : ℕ) (p : Listed) → slice_get ps k ≡ Some p → listed_most p ≤ length (program_of threads k)) → most_total listed_most ps ≤ sum_by length threads
total_lists [] threads same each = omega arith
total_lists (p ∷ ps) [] same each = absurd (omega (arith, same))
total_lists (p ∷ ps) (t ∷ threads) same each =
    let here = each 0 p refl in
    let rest = total_lists ps threads (omega (arith, same)) (λ k. each (suc k)) in
    let all = sum_by-cons length t threads in
    omega (arith, here, rest, all)

pub lists_may_run : (script : Script) (ps : List Listed) → IsInLimits script → AreListed script [] ps →
    MayRun listed_words listed_most listed_valid script.config ps
lists_may_run script ps inside are =
    let limits : FitsRun script = in_limits_fit script inside in
    let fits = inside.fits in
    let config = fits.config in
    record {
      config_fits = record {
        some_segments = config.some_segments;
        segments = segments_few script fits;
        words = config.words;
        some_nursery = config.some_nursery;
        nursery = config.nursery;
        some_slice = config.some_slice;
        slice = config.slice;
        some_quota = config.some_quota;
        quota = config.quota;
        trigger = config.trigger;
      };
      some = (let n = are.count in let some = fits.some_thread in omega (arith, n, some));
      few = (let n = are.count in let few = threads_few script fits in omega (arith, n, few));
      total = subst (λ (n : ℕ). total_words script.config n ≤ version_3.heap_words) (sym are.count) (total_few script fits);
      valid_are = λ k p e. rw ((are.each k p e).0, (are.each k p e).2) ((good_plan script limits).fit k);
      fit = λ k p e. let w = (are.each k p e).2 in omega (arith, w);
      short =
          let all = total_lists ps script.threads are.count (λ k p e.
          let long = ap (λ (l : List Command). length l) (are.each k p e).0 in
          omega (arith, long)) in
          let few = limits.few in
          omega (arith, all, few);
    }

-- lists from positions that are all 0 are lists from their beginnings
pub from_beginnings : (script : Script) (n : ℕ) (ps : List Listed) → length script.threads ≤ n → AreListed script (replicate n 0) ps → AreListed script [] ps
from_beginnings script n ps le are = record {
  count = are.count;
  each = λ k p e.
      let h = are.each k p e in
      let within = slice_get_within ps k p e in
      let count = are.count in
      (h.0, h.1 ∙ get_or-replicate n k 0 0 (omega (arith, within, count, le)), h.2);
}
