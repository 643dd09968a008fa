-- The part of a run of programs that an observer was given before the run was given up.
use Rattle.nmgc_cycle.proofs.{Vocabulary.ℕ, Vocabulary.◌≡◌, Vocabulary.◌<◌, Vocabulary.◌∙◌, Vocabulary.List, Vocabulary.length, Vocabulary.Option, Vocabulary.Some, Vocabulary.refl, Vocabulary.sym, Vocabulary.ap, Vocabulary.subst, Vocabulary.slice_get, Vocabulary.Command, Vocabulary.Reply, Vocabulary.Done, Vocabulary.Fits, Vocabulary.Config, Vocabulary.Script, Vocabulary.Event, Vocabulary.End, Vocabulary.HasEnded, Vocabulary.HasRunPrograms, Vocabulary.RunHasEnded, Vocabulary.FitsRun, Vocabulary.GaveMore, Vocabulary.MayRun, Vocabulary.ObservedFrom, Vocabulary.ObservedPrograms, Vocabulary.ObservedRest, Vocabulary.ObservedRun, Vocabulary.ObservedPart, Vocabulary.ObservedSince, Vocabulary.ProgramRun, Vocabulary.joined, Vocabulary.no_event, Vocabulary.nothing_given, Vocabulary.script_of, Vocabulary.true, rounds.Continuing.gave_none, rounds.Continuing.none_given, rounds.SoFar.first_within, rounds.SoFar.joined_first, rounds.SoFar.joined_nothing, rounds.SoFar.more_both, rounds.SoFar.within_limits, stops.Further.rest_later}
use Rattle.nmgc_cycle.specs.laws.Events.{the_rest_completes_a_part}

module _ {P : Type 0} (next : P → Option Command) (replies : P → Reply → P → Type 0) (words most : P → ℕ) (valid : P → Type 0) where
  -- no command was given since
  pub more_none : (programs : List P) (given : List (List Done)) → length given ≡ length programs →
      ((k : ℕ) (p : P) → slice_get programs k ≡ Some p → valid p) → GaveMore next replies words most valid programs programs given given
  more_none programs given counted are = record {
    done = nothing_given programs;
    gave = none_given next replies words most valid programs are;
    joined_is = sym (joined_nothing given programs (sym counted));
  }

  -- a run that ended is a whole run of its first programs
  pub whole_run : (config : Config) (run last : ProgramRun) (before after : List P) (end : End) → run.config ≡ config → run.given.value ≡ nothing_given before →
      last.config ≡ run.config → GaveMore next replies words most valid before after run.given.value last.given.value →
      RunHasEnded next words most valid last after end → HasRunPrograms next replies words most valid config before after last.collector end
  whole_run config run last before after end config_is given_is stays more ended =
      let is : last.given.value ≡ more.done = more.joined_is ∙ ap (λ (l : List (List Done)). joined l more.done) given_is
      ∙ joined_first before more.done more.gave.count in
      let same : script_of next last.config last.given.value after ≡ script_of next config more.done after =
      ap (λ (x : Config). script_of next x last.given.value after) (stays ∙ config_is) ∙ ap (λ (l : List (List Done)). script_of next config l after) is in
      record {
        given = more.done;
        gave = more.gave;
        limits = subst FitsRun same ended.0.limits;
        ended = subst (λ (s : Script). HasEnded s last.collector end) same ended.1;
        replies = λ k d e. ended.0.replies k d (ap (λ (l : List (List Done)). slice_get l k) is ∙ e);
      }

module _ {J P : Type 0} (steps fails : J → Event → J → Type 0) (next : P → Option Command) (replies : P → Reply → P → Type 0) (words most : P → ℕ) (valid : P → Type 0) where
  -- the run was given up at a later part
  pub since_later : (old mid : ProgramRun) (before between after : List P) (p m q : J) → length old.given.value ≡ length before → mid.config ≡ old.config →
      GaveMore next replies words most valid before between old.given.value mid.given.value → ObservedFrom steps old.collector p mid.collector true m →
      ObservedSince steps fails next replies words most valid mid between after m q → ObservedSince steps fails next replies words most valid old before after p q
  since_later old mid before between after p m q counted config more on h = record {
    given = h.given;
    between = h.between;
    more = more_both next replies words most valid before between h.between old.given.value mid.given.value h.given counted more h.more;
    limits = subst (λ (x : Config). FitsRun (script_of next x h.given h.between)) config h.limits;
    observed = rest_later steps fails (script_of next old.config h.given h.between) p m q old.collector mid.collector on
        (subst (λ (x : Config). ObservedRest steps fails (script_of next x h.given h.between) mid.collector m q) config h.observed);
    since = h.since;
    last = h.last;
    last_given = h.last_given;
    replied = h.replied;
  }

  -- a part of the whole run
  pub part_of_run : (config : Config) (run : ProgramRun) (before after : List P) (p q : J) → run.config ≡ config → run.given.value ≡ nothing_given before →
      ObservedRun steps p run.collector true p → ObservedSince steps fails next replies words most valid run before after p q →
      ObservedPrograms steps fails next replies words most valid config before after p q
  part_of_run config run before after p q config_is given_is observed h =
      let is : h.given ≡ h.more.done = h.more.joined_is ∙ ap (λ (l : List (List Done)). joined l h.more.done) given_is
      ∙ joined_first before h.more.done h.more.gave.count in
      record {
        given = h.more.done;
        between = h.between;
        gave = h.more.gave;
        limits = subst (λ (l : List (List Done)). FitsRun (script_of next config l h.between)) is
            (subst (λ (x : Config). FitsRun (script_of next x h.given h.between)) config_is h.limits);
        observed = subst (λ (l : List (List Done)). ObservedPart steps fails (script_of next config l h.between) p q) is
            (subst (λ (x : Config). ObservedPart steps fails (script_of next x h.given h.between) p q) config_is
            (the_rest_completes_a_part steps fails (script_of next run.config h.given h.between) p p q run.collector observed h.observed));
        since = h.since;
      }

  -- before the run began
  pub no_part : ((p : P) (c : Command) → valid p → next p ≡ Some c → Fits (words p) c × (0 < most p)) → (config : Config) (before : List P) →
      MayRun words most valid config before → (p : J) → ObservedPrograms steps fails next replies words most valid config before before p p
  no_part waits config before may p = record {
    given = nothing_given before;
    between = before;
    gave = none_given next replies words most valid before may.valid_are;
    limits = within_limits next replies words most valid waits config (nothing_given before) before
        (first_within next replies words most valid waits config before may);
    observed = no_event refl;
    since = gave_none next replies words most valid before may.valid_are;
  }
