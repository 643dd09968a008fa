-- The collector did a round, after its replies are reported.
use Rattle.nmgc_cycle.proofs.{Vocabulary.ℕ, Vocabulary.◌≡◌, Vocabulary.List, Vocabulary.[], Vocabulary.◌∷◌, Vocabulary.◌++◌, Vocabulary.map, Vocabulary.sym, Vocabulary.ap, Vocabulary.subst, Vocabulary.◌∙◌, Vocabulary.Option, Vocabulary.Some, Vocabulary.None, Vocabulary.Global, Vocabulary.OnOk, Vocabulary.Result, Vocabulary.Ok, Vocabulary.Err, Vocabulary.Vec, Vocabulary.Reply, Vocabulary.is_some_of, Vocabulary.RoundRows, Vocabulary.Opening, Vocabulary.Mutator, Vocabulary.Script, Vocabulary.Collector, Vocabulary.DidRound, Vocabulary.FitsRun, Vocabulary.OpensAt, Vocabulary.DidSlices, Vocabulary.cleared, Vocabulary.replies_of, Vocabulary.HasRoundLaws, rounds.KeptAfter.did_round, rounds.Opened.opened, rounds.Over.IsOver}

-- a consequence of an answer's facts
pub on_ok : {A E P Q : Type 0} (r : Result A E) → OnOk r P → (P → Q) → OnOk r Q
on_ok (Ok x) h f = f h
on_ok (Err e) h f = tt

pub worked_after : HasRoundLaws → (script : Script) (c new : Collector) (o : Opening) → FitsRun script → c.answered ≡ None → OpensAt script c o →
    DidSlices script o c new → (mutators : Vec Mutator Global) → mutators.items ≡ map cleared new.mutators.items → (rows : RoundRows) →
    rows.replies ≡ replies_of new.mutators.items → DidRound script c
    (record new { mutators = mutators; rows = record new.rows { rounds = new.rows.rounds ++ rows ∷ [] } })
worked_after laws script c new o limits goes_on (run, still, is) did mutators same rows reported =
    let before = is_some_of c.heap.words still.kept.has_words in
    let x : IsOver script c new o = record {
      limits = limits;
      run = run;
      still = still;
      goes_on = goes_on;
      opens = is;
      op = opened laws.opens script c o limits (run, still, is);
      before = before.0;
      before_are = before.1;
      did = did;
    } in
    let h = did_round laws script c new o x mutators same in
    let first = ap (λ (y : Collector). record y { mutators = mutators; rows = record y.rows { rounds = y.rows.rounds ++ rows ∷ [] } }) did.rest in
    let words = ap (λ (w : Option (List ℕ)). record c {
      heap = record c.heap { words = w; segments = new.heap.segments };
      cycle = record c.cycle { progress = new.cycle.progress; collect = new.cycle.collect; full = new.cycle.full };
      inbox = new.inbox;
      mutators = mutators;
      positions = new.positions;
      rows = record c.rows { rounds = c.rows.rounds ++ rows ∷ [] };
    }) did.words_are in
    let row = ap (λ (replies : List (List Reply)). record c {
      heap = record c.heap { words = Some did.words; segments = new.heap.segments };
      cycle = record c.cycle { progress = new.cycle.progress; collect = new.cycle.collect; full = new.cycle.full };
      inbox = new.inbox;
      mutators = mutators;
      positions = new.positions;
      rows = record c.rows { rounds = c.rows.rounds ++ record { replies = replies } ∷ [] };
    }) reported in
    subst (DidRound script c) (sym (first ∙ words ∙ row)) h
