-- A round for programs after its slices: with a row of the replies taken it is a round of each script that has the commands.
use Rattle.nmgc_cycle.proofs.{Vocabulary.◌≡◌, Vocabulary.◌++◌, Vocabulary.List, Vocabulary.[], Vocabulary.◌∷◌, Vocabulary.length, Vocabulary.map, Vocabulary.None, Vocabulary.Option, Vocabulary.Global, Vocabulary.Vec, Vocabulary.ap, Vocabulary.sym, Vocabulary.subst, Vocabulary.◌∙◌, Vocabulary.RoundRows, Vocabulary.Mutator, Vocabulary.Opening, Vocabulary.Script, Vocabulary.Command, Vocabulary.Collector, Vocabulary.DidRound, Vocabulary.CanContinue, Vocabulary.DidAsk, Vocabulary.FitsRun, Vocabulary.HasStopped, Vocabulary.MayBeLonger, Vocabulary.Continues, Vocabulary.OpensAt, Vocabulary.AreReserved, Vocabulary.HasRoundLaws, Vocabulary.HavePolled, Vocabulary.longer_run, Vocabulary.longer_script, rounds.LongerRuns.still_longer, rounds.LongerRuns.kept_longer, rounds.LongerRuns.opens_longer, Vocabulary.ℕ, Vocabulary.◌+◌, Vocabulary.arith, Vocabulary.Done, Vocabulary.Reply, Vocabulary.slice_index, Vocabulary.slice_index_or, Vocabulary.slice_get_within, Vocabulary.get_or_from_slice_get, Vocabulary.item, Vocabulary.item_map, Vocabulary.cleared, Vocabulary.replies_of, rounds.Reserved.reserved_stopped, rounds.Reserved.still_before, rounds.InboxOn.inbox_before, rounds.InboxOn.inbox_stopped, rounds.RoundWorked.worked_after, stops.Tried.played_tried}
use Rattle.nmgc_cycle.specs.Programs.{DidAskSlices}

module _ {P : Type 0} (next : P → Option Command) (steps : P → Reply → P → Type 0) (words most : P → ℕ) (valid : P → Type 0) (first : Script)
    (own listed roomy did : Collector) (o : Opening) (before after : List P) (laws : HasRoundLaws) (limits : FitsRun first) (stopped : HasStopped first own)
    (answered : own.answered ≡ None) (counted : length before ≡ length first.threads)
    (continues : CanContinue next steps words most valid first own.positions.items before)
    (listed_is : listed ≡ record own { mutators = listed.mutators }) (reserved : AreReserved own.mutators.items listed.mutators.items)
    (roomy_is : roomy ≡ record listed { inbox = roomy.inbox }) (polled : HavePolled listed.inbox roomy.inbox) (opens : OpensAt first roomy o)
    (asked : DidAskSlices next steps words most valid first o roomy did before after) where
  places : roomy.positions.items ≡ own.positions.items
  places = ap (λ (x : Collector). x.positions.items) roomy_is ∙ ap (λ (x : Collector). x.positions.items) listed_is

  goes_on : roomy.answered ≡ None
  goes_on = ap (λ (x : Collector). x.answered) roomy_is ∙ ap (λ (x : Collector). x.answered) listed_is ∙ answered

  -- with a row of the replies taken
  pub asked_round : (mutators : Vec Mutator Global) → mutators.items ≡ map cleared did.mutators.items → (rows : RoundRows) →
      rows.replies ≡ replies_of did.mutators.items → DidAsk next steps words most valid first own
      (record did { mutators = mutators; rows = record did.rows { rounds = did.rows.rounds ++ rows ∷ [] } }) before after
  asked_round mutators back rows reported =
      let on = subst (λ (l : List ℕ). CanContinue next steps words most valid first l before) (sym places) continues after asked.done asked.gave in
      record {
        done = asked.done;
        gave = asked.gave;
        did = λ more longer on limits'.
            let script = longer_script more first in
            let longer_there = subst (λ (l : List ℕ). MayBeLonger first l more) (sym places) longer in
            let slices = asked.did more longer_there (subst (λ (l : List ℕ). Continues next script l after asked.done) (sym places) on) limits' in
            let run = stopped.0 in
            let still = stopped.1 in
            let stopped_there : HasStopped script own = (longer_run more run, still_longer first more own run limits still longer) in
            let roomed = reserved_stopped script own listed stopped_there listed_is reserved in
            let before : (x : Collector) → DidRound script roomy x → DidRound script own x = λ x d. (
              d.0,
              still_before script own listed d.0.run (kept_longer first more own run limits still longer) listed_is reserved
                  (inbox_before script listed roomy d.0.run roomed.1.kept roomy_is d.1),
            ) in (
              before (record did { mutators = mutators; rows = record did.rows { rounds = did.rows.rounds ++ rows ∷ [] } })
                  (worked_after laws script roomy did o limits' goes_on (opens_longer first more roomy o limits longer_there opens) slices mutators back rows
                  reported),
              played_tried script o own listed roomy did mutators (did.rows.rounds ++ rows ∷ []) listed_is reserved roomy_is slices back,
            );
        positions = λ k d e. asked.positions k d e ∙ ap (λ (l : List ℕ). slice_index l k + length d) places;
        rows = rows;
        rows_are = ap (λ (l : List RoundRows). l ++ rows ∷ []) (ap (λ (x : Collector). x.rows.rounds) (asked.did on.0 on.1 on.2 on.3).rest
            ∙ ap (λ (x : Collector). x.rows.rounds) roomy_is ∙ ap (λ (x : Collector). x.rows.rounds) listed_is);
        replies = λ k d e.
            let there = slice_get_within asked.done k d e in
            let ready = reserved_stopped first own listed stopped listed_is reserved in
            let stood = inbox_stopped first listed roomy ready roomy_is polled in
            let size = asked.gave.count in
            let programs = counted in
            let own_count = stood.1.kept.count in
            let count = asked.count in
            let m = item roomy.mutators.items k (omega (arith, there, size, programs, own_count)) in
            let n = item did.mutators.items k (omega (arith, there, size, programs, own_count, count)) in
            let quiet = (stood.1.kept.own k m.0 m.1).no_replies in
            let shown = item_map (λ (x : Mutator). x.replies.items) did.mutators.items k n.0 n.1 in
            ap (λ (l : List (List Reply)). slice_index_or l k []) reported
            ∙ get_or_from_slice_get (replies_of did.mutators.items) k n.0.replies.items [] shown
            ∙ asked.replies k m.0 n.0 d m.1 n.1 e
            ∙ ap (λ (l : List Reply). l ++ map (λ (x : Done). x.1) d) quiet;
      }
