-- The scripts to which a round of a session leads: they go on with the commands that each queue gave, and then as the queue may.
use Rattle.nmgc_cycle.proofs.Vocabulary.{ℕ, ◌≡◌, ◌⊎◌, ◌+◌, ◌<◌, ◌≤◌, ◌*◌, ◌++◌, ◌∙◌, List, [], length, map, drop, refl, sym, ap, subst, arith, inl, inr, append_assoc, length-map, length-append, drop_at, slice_get, slice_get_within, slice_index, option_to_list, Some, All, All-append, item, Fits, Command, Reply, Done, Config, Script, FitsRun, program_of, left_at, longer_script, Follows, CanContinue, Continues, GaveEach, MayBeAsked, MayBeLonger, MayComeAfter, CommandQueue, Session, Bool}
use Rattle.nmgc_limits.specs.Limits.{most_script_bytes}
use Rattle.nmgc_script.specs.Spelling.{version_3}
use Rattle.nmgc_cycle.specs.{Sessions.HasGiven, Sessions.IsQueue, Sessions.IsSession, Sessions.first_of, Sessions.left_in, Sessions.most_in, Sessions.next_in, Sessions.program_before, Sessions.script_before, laws.Queues.HasGivenAll, laws.Queues.first_fits_list, laws.Queues.first_small, laws.Queues.given_all, laws.Queues.left_fits, laws.Sessions.fits_run, laws.Sessions.mapped_at}
use Rattle.nmgc_cycle.proofs.{rounds.SoFar.follows_waiting, sessions.Rests.longer_rests, sessions.Rests.rest_at, sessions.Rests.rests_of, sessions.Rests.same_parts, sessions.SliceEnds.leads}

-- a queue as a program
abbrev pub steps_in : CommandQueue → Reply → CommandQueue → Type 0
steps_in q reply r = HasGiven q r

abbrev pub words_in_queue : CommandQueue → ℕ
words_in_queue q = q.words

abbrev pub commands_of : List Done → List Command
commands_of d = map (λ (x : Done). x.0) d

-- the queues gave commands in a round
abbrev pub GaveQueues : List CommandQueue → List CommandQueue → List (List Done) → Type 0
GaveQueues queues after done = GaveEach next_in steps_in words_in_queue most_in IsQueue queues after done

-- queues of a session: their number, and each with its commands
pub record AreQueues (s : Session) (queues : List CommandQueue) : Type 0 where
  pub count : length queues ≡ length s.queues.items
  pub each : (k : ℕ) (q : CommandQueue) → slice_get queues k ≡ Some q → IsQueue q × (q.words ≡ s.config.words)

module _ (stop : Bool) (s : Session) (is : IsSession stop s) where
  pub are_queues : AreQueues s s.queues.items
  are_queues = record { count = refl; each = is.queues }

  pub are_after : (after : List CommandQueue) (done : List (List Done)) → GaveQueues s.queues.items after done → AreQueues s after
  are_after after done gave = record {
    count = gave.programs;
    each = λ k r e.
        let within = slice_get_within after k r e in
        let programs = gave.programs in
        let count = gave.count in
        let q = item s.queues.items k (omega (arith, within, programs)) in
        let d = item done k (omega (arith, within, programs, count)) in
        let on = gave.each k q.0 r d.0 q.1 e d.1 in
        (on.valid_is, on.words_are ∙ (is.queues k q.0 q.1).1);
  }

  -- the commands answered and the next one, of all queues, are a script that fits a run
  pub before_fits : (queues : List CommandQueue) → AreQueues s queues → FitsRun (script_before s.config queues)
  before_fits queues are =
      let count = are.count in
      let some = is.some in
      let few = is.few in
      fits_run s.config program_before queues is.config_fits (omega (arith, some, count)) (omega (arith, few, count))
      (subst (λ (n : ℕ). s.config.segments * s.config.words + n * s.config.nursery ≤ version_3.heap_words) (sym count) is.total) (λ k q e.
      let h = are.each k q e in
      let own : All (Fits q.words) (program_before q) = All-append (Fits q.words) q.answered (option_to_list (next_in q)) h.0.answered_fit
      (first_fits_list q.words (left_in q) (left_fits q h.0)) in
      let small = first_small (left_in q) in
      let few = h.0.few in
      let long = length-append q.answered (option_to_list (next_in q)) in
      (subst (λ (n : ℕ). All (Fits n) (program_before q)) h.1 own, omega (arith, small, few, long)))

  -- the queues may be asked
  pub may_be_asked : MayBeAsked words_in_queue most_in IsQueue (script_before s.config s.queues.items) s.collector.positions.items s.queues.items
  may_be_asked = record {
    count = sym (length-map s.queues.items program_before);
    valid_are = λ k q e. (is.queues k q e).0;
    fit = λ k q e. let same = (is.queues k q e).1 in omega (arith, same);
    few = λ k q e.
        let at = is.positions k q e in
        let few = (is.queues k q e).0.few in
        omega (arith, at, few);
  }

  module _ (after : List CommandQueue) (done : List (List Done)) (gave : GaveQueues s.queues.items after done) where
    abbrev base : Script
    base = script_before s.config s.queues.items

    abbrev positions : List ℕ
    positions = s.collector.positions.items

    -- a script goes on with the commands that each queue gave
    pub record Leads (t : Script) : Type 0 where
      pub version : t.version ≡ version_3.number
      pub config_is : t.config ≡ s.config
      pub count : length t.threads ≡ length s.queues.items
      pub each : (k : ℕ) (r : CommandQueue) (d : List Done) → slice_get after k ≡ Some r → slice_get done k ≡ Some d → (rest : List Command) ×
          (program_of t.threads k ≡ r.answered ++ rest) × MayComeAfter s.config.slice (next_in r) (commands_of d) rest ×
          (commands_of d ≡ [] → Follows (next_in r) rest)

    -- the queue before the round, the queue after it, and the commands between
    pub record Part (k : ℕ) : Type 0 where
      pub q : CommandQueue
      pub q_is : slice_get s.queues.items k ≡ Some q
      pub r : CommandQueue
      pub r_is : slice_get after k ≡ Some r
      pub d : List Done
      pub d_is : slice_get done k ≡ Some d
      pub given : HasGivenAll q d r

    pub part : (k : ℕ) → k < length s.queues.items → Part k
    part k lt =
        let programs = gave.programs in
        let count = gave.count in
        let q = item s.queues.items k lt in
        let r = item after k (omega (arith, lt, programs)) in
        let d = item done k (omega (arith, lt, count)) in record {
          q = q.0;
          q_is = q.1;
          r = r.0;
          r_is = r.1;
          d = d.0;
          d_is = d.1;
          given = given_all d.0 q.0 r.0 (gave.each k q.0 r.0 d.0 q.1 r.1 d.1).gives;
        }

    base_count : length base.threads ≡ length s.queues.items
    base_count = length-map s.queues.items program_before

    module _ (t : Script) (leading : Leads t) where
      -- the program of the script: the program before the round, and then more
      record Front (k : ℕ) (p : Part k) : Type 0 where
        rest : List Command
        more : List Command
        on : program_of t.threads k ≡ p.q.answered ++ (commands_of p.d ++ rest)
        front : program_of t.threads k ≡ program_of base.threads k ++ more
        may : MayComeAfter s.config.slice (next_in p.r) (commands_of p.d) rest
        longer : (more ≡ []) ⊎ (0 < length (option_to_list (next_in p.q)))

      front_at : (k : ℕ) (p : Part k) → Front k p
      front_at k p =
          let on = leading.each k p.r p.d p.r_is p.d_is in
          let given = p.given in
          let lead = leads (left_in p.q) (commands_of p.d) (left_in p.r) on.0 given.left (λ none.
          subst (λ (l : List Command). Follows (first_of l) on.0)
          (sym (given.left ∙ ap (λ (l : List Command). l ++ left_in p.r) none)) (on.3 none)) in
          let program : program_of t.threads k ≡ p.q.answered ++ (commands_of p.d ++ on.0) =
          on.1 ∙ ap (λ (l : List Command). l ++ on.0) given.answered ∙ append_assoc p.q.answered (commands_of p.d) on.0 in record {
            rest = on.0;
            more = lead.0;
            on = program;
            front = program ∙ ap (λ (l : List Command). p.q.answered ++ l) lead.1
                ∙ sym (append_assoc p.q.answered (option_to_list (next_in p.q)) lead.0)
                ∙ ap (λ (l : List Command). l ++ lead.0) (sym (mapped_at program_before [] s.queues.items k p.q p.q_is));
            may = on.2;
            longer = lead.2;
          }

      count_is : length t.threads ≡ length base.threads
      count_is = leading.count ∙ sym base_count

      abbrev more : List (List Command)
      more = rests_of base.threads t.threads

      lead_is : longer_script more base ≡ t
      lead_is = same_parts s.config _ t leading.version leading.config_is (longer_rests base.threads t.threads count_is (λ k lt.
          let f = front_at k (part k (omega (arith, lt, base_count))) in (f.more, f.front)))

      lead_longer : MayBeLonger base positions more
      lead_longer k lt =
          let p = part k (omega (arith, lt, base_count)) in
          let f = front_at k p in
          let at = rest_at base.threads t.threads count_is k f.more lt f.front in
          let left : left_at base positions k ≡ option_to_list (next_in p.q) =
          ap (λ (l : List Command). drop (slice_index positions k) l) (mapped_at program_before [] s.queues.items k p.q p.q_is)
          ∙ drop_at p.q.answered (option_to_list (next_in p.q)) (slice_index positions k) (sym (is.positions k p.q p.q_is)) in
          elim f.longer [
            | inl none ↦ inl (at ∙ none)
            | inr some ↦ inr (subst (λ (l : List Command). 0 < length l) (sym left) some)
          ]

      lead_on : Continues next_in t positions after done
      lead_on k r d e f =
          let within = slice_get_within after k r e in
          let programs = gave.programs in
          let p = part k (omega (arith, within, programs)) in
          let on = front_at k p in
          let r_there = p.r_is in
          let d_there = p.d_is in
          let r_same : p.r ≡ r = cc (r_there, e) in
          let d_same : p.d ≡ d = cc (d_there, f) in
          let left : left_at t positions k ≡ commands_of p.d ++ on.rest =
          ap (λ (l : List Command). drop (slice_index positions k) l) on.on
          ∙ drop_at p.q.answered (commands_of p.d ++ on.rest) (slice_index positions k) (sym (is.positions k p.q p.q_is)) in (
            on.rest,
            left ∙ ap (λ (l : List Done). commands_of l ++ on.rest) d_same,
            subst (λ (c : Config). MayComeAfter c.slice (next_in r) (commands_of d) on.rest) (sym leading.config_is)
                (subst (λ (x : CommandQueue). MayComeAfter s.config.slice (next_in x) (commands_of d) on.rest) r_same
                (subst (λ (l : List Done). MayComeAfter s.config.slice (next_in p.r) (commands_of l) on.rest) d_same on.may)),
          )

      -- such a script is the script before the round with more commands
      pub lead : (more : List (List Command)) × (longer_script more base ≡ t) × MayBeLonger base positions more × Continues next_in t positions after done
      lead = (more, lead_is, lead_longer, lead_on)

    -- the round leads to the script of the commands answered and the next one
    abbrev pub star : Script
    star = script_before s.config after

    pub star_leads : Leads star
    star_leads = record {
      version = refl;
      config_is = refl;
      count = length-map after program_before ∙ gave.programs;
      each = λ k r d e f. (
        option_to_list (next_in r),
        mapped_at program_before [] after k r e,
        inl (follows_waiting (next_in r)),
        λ none. follows_waiting (next_in r),
      );
    }

    pub star_fits : FitsRun star
    star_fits = before_fits after (are_after after done gave)

  -- whatever the queues give, the script has it
  pub may_continue : CanContinue next_in steps_in words_in_queue most_in IsQueue (script_before s.config s.queues.items) s.collector.positions.items s.queues.items
  may_continue after done gave =
      let l = lead after done gave (star after done gave) (star_leads after done gave) in (
        l.0,
        l.2,
        subst (λ (x : Script). Continues next_in x s.collector.positions.items after done) (sym l.1) l.3,
        subst FitsRun (sym l.1) (star_fits after done gave),
      )
