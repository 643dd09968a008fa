-- The result of a round's slices: each mutator did the slice of the rule, and the seats have every part.
use Rattle.nmgc_cycle.proofs.Vocabulary.{ℕ, ◌≡◌, ◌+◌, ◌-◌, ◌≤◌, List, [], ◌∷◌, length, map, take, refl, sym, ap, subst, ◌∙◌, arith, list_any, length-map, length-take-le, slice_get_within, Command, words_made, Layout, Round, Opening, DoneRow, FixedWord, AllReply, RoundSeat, alone, Mutator, SliceEnd, words_by, HasDone, passed, Ended, tried, Done, Config, slice_of, is_collect, is_full, Worker, HasWorkedOn, asks_of, asks_full_of, worker_of}
use Rattle.nmgc_round.specs.Seat.{seen}
use Rattle.nmgc_mutator.specs.Ready.{rows_of}
use Rattle.nmgc_mutator.specs.declared.mutator.SliceEnd.TheVariants as ending
use Rattle.nmgc_cycle.proofs.{rounds.Asking.asks_by_end, rounds.Asking.full_by_end, rounds.SliceRule.all_made, rounds.SliceRule.slice_rule}

-- the commands that were done
abbrev pub commands_of : List Done → List Command
commands_of done = map (λ (d : Done). d.0) done

-- rows make the same number of words as their commands
made_by : (fixed : List FixedWord) (rows : List DoneRow) (done : List Done) → AllReply fixed rows done → words_by rows ≡ all_made (commands_of done)
made_by fixed [] [] h = refl
made_by fixed [] (d ∷ done) h = absurd h
made_by fixed (r ∷ rows) [] h = absurd h
made_by fixed (r ∷ rows) (d ∷ done) h =
    let first : words_made r.command ≡ words_made d.0 = ap words_made h.0.0 in
    let rest = made_by fixed rows done h.1 in
    omega (arith, first, rest)

-- a slice does no more commands than there are
ended_within : (program : List Command) (most done : ℕ) (n : Mutator) (end : SliceEnd) → Ended program most done n end → done ≤ length program
ended_within program most done n ending.Slice h = let less = h.2 in omega (arith, less)
ended_within program most done n ending.Program h = let is = h.1 in omega (arith, is)
ended_within program most done n ending.Yield h = let within = slice_get_within program h.0 _ h.3 in let is = h.1 in omega (arith, within, is)
ended_within program most done n ending.Collect h = let within = slice_get_within program h.0 _ h.3 in let is = h.1 in omega (arith, within, is)
ended_within program most done n ending.Full h = let within = slice_get_within program h.0 _ h.3 in let is = h.1 in omega (arith, within, is)
ended_within program most done n (ending.Nursery need left) h = let within = slice_get_within program done _ h.2.1 in omega (arith, within)

-- the work of one mutator in a round that began with its seat alone
pub record IsSlice (config : Config) (round : Round) (o : Opening) (k : ℕ) (left : List Command) (m : Mutator) (new : Worker) (done : List Done) : Type 0 where
  pub commands : commands_of done ≡ slice_of config left
  pub first : commands_of done ≡ take new.done left
  pub count : length done ≡ new.done
  pub within : new.done ≤ length left
  pub did : HasDone round (alone o k) new.seat m new.mutator done
  pub ended : Ended left config.slice new.done new.mutator new.end
  pub turns : new.mutator.turns ≡ passed m.turns (tried new.done new.end)
  pub asks : asks_of new ≡ list_any is_collect (commands_of done)
  pub asks_full : asks_full_of new ≡ list_any is_full (commands_of done)

pub slice_done : (config : Config) (round : Round) (o : Opening) (k : ℕ) (left : List Command) (m : Mutator) (seat : RoundSeat) (new : Worker) →
    seen seat ≡ alone o k → m.layout.nursery ≡ config.nursery → HasWorkedOn round config.slice left (worker_of (m, seat)) new → (done : List Done) ×
    IsSlice config round o k left m new done
slice_done config round o k left m seat new is nursery h =
    let done : List Done = h.run.0 in
    let did : HasDone round (alone o k) new.seat m new.mutator done = subst (λ v. HasDone round v new.seat m new.mutator done) is h.run.2 in
    let within : new.done ≤ length left = ended_within left config.slice new.done new.mutator new.end h.ended in
    let first : commands_of done ≡ take new.done left = h.run.1 in
    let rows : rows_of (seen new.seat) ≡ did.rows = did.went.added in
    let made : words_by (rows_of (seen new.seat)) ≡ all_made (take new.done left) = ap words_by rows ∙ made_by _ did.rows done did.replied ∙
    ap all_made first in
    let place = did.ready.nursery in
    let top = place.top in
    let end = place.end in
    let fits = place.within in
    let size : new.mutator.layout.nursery ≡ config.nursery = ap (λ (l : Layout). l.nursery) did.layout ∙ nursery in
    let room : all_made (take new.done left) + (new.mutator.nursery.end - new.mutator.nursery.top) ≡ config.nursery = omega (
      arith,
      made,
      top,
      end,
      fits,
      size,
    ) in (
      done,
      record {
        commands = first ∙ sym (slice_rule left config.slice config.nursery new.done new.mutator new.end h.ended h.most room);
        first = first;
        count = sym (length-map done (λ (d : Done). d.0)) ∙ ap length first ∙ length-take-le new.done left within;
        within = within;
        did = did;
        ended = h.ended;
        turns = h.turns;
        asks = cc (asks_by_end left config.slice new.done new.mutator new.end h.ended, first);
        asks_full = cc (full_by_end left config.slice new.done new.mutator new.end h.ended, first);
      },
    )
