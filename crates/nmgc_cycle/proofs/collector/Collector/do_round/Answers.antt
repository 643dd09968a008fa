use Rattle.nmgc_cycle.proofs.{Vocabulary.◌≡◌, Vocabulary.◌++◌, Vocabulary.List, Vocabulary.[], Vocabulary.◌∷◌, Vocabulary.length, Vocabulary.map, Vocabulary.ap, Vocabulary.inl, Vocabulary.inr, Vocabulary.refl, Vocabulary.sym, Vocabulary.subst, Vocabulary.◌∙◌, Vocabulary.with_items, Vocabulary.length-map, Vocabulary.RoundRows, Vocabulary.Mutator, Vocabulary.Collector, Vocabulary.passed, Vocabulary.worked_on, Vocabulary.upper_worked_on, Vocabulary.is_marking_in, Vocabulary.turns_of, Vocabulary.upper_turns_of, Vocabulary.MayBeAsked, Vocabulary.CanContinue, Vocabulary.HaveAskRoom, Vocabulary.DidAsk, Vocabulary.longer_script, rounds.AskedRound.asked_round, rounds.Continuing.gave_none, Vocabulary.cleared, Vocabulary.replies_of, lists.MutatorLists.vec_back, rounds.Reserved.reserved_stopped, stops.Counted.round_counts, stops.Counted.round_counts_upper, stops.Observing.any_err, rounds.InboxOn.inbox_stopped}
use Rattle.nmgc_cycle.proofs.collector.Collector.do_round.Goals as goal

pub opening_of-opening-requires : goal.opening_of-opening-requires
opening_of-opening-requires g c =
    let roomy = reserved_stopped c.args.script.now.value c.args.self.now c.make_room.new.self c.requires.stopped.0 c.in_ok-make_room.ensures.rest
    c.in_ok-make_room.ensures.mutators in
    inbox_stopped c.args.script.now.value c.make_room.new.self c.make_inbox_room.new.self roomy c.in_ok-make_inbox_room.ensures.rest
    c.in_ok-make_inbox_room.ensures.lists

pub make_inbox_room-requires-clause-stopped : goal.make_inbox_room-requires-clause-stopped
make_inbox_room-requires-clause-stopped g c κs within =
    reserved_stopped c.args.script.now.value c.args.self.now c.make_room.new.self c.requires.stopped.0 c.in_ok-make_room.ensures.rest
    c.in_ok-make_room.ensures.mutators

pub make_inbox_room-requires-clause-programs : goal.make_inbox_room-requires-clause-programs
make_inbox_room-requires-clause-programs g c κs within = subst (λ (x : Collector).
    MayBeAsked g.P.Program.words g.P.Program.most g.P.Program.valid c.args.script.now.value x.positions.items c.args.programs.now) (sym c.in_ok-make_room.ensures.rest) c.requires.programs

pub do_slices-requires-clause-programs : goal.do_slices-requires-clause-programs
do_slices-requires-clause-programs g c κs within = subst (λ (x : Collector).
    MayBeAsked g.P.Program.words g.P.Program.most g.P.Program.valid c.args.script.now.value x.positions.items c.args.programs.now)
    (sym (c.in_ok-make_inbox_room.ensures.rest ∙ ap (λ (x : Collector). record x { inbox = c.make_inbox_room.new.self.inbox }) c.in_ok-make_room.ensures.rest))
    c.requires.programs

pub do_slices-requires-clause-continues : goal.do_slices-requires-clause-continues
do_slices-requires-clause-continues g c κs within = subst (λ (x : Collector).
    CanContinue g.P.Program.next g.P.Program.steps g.P.Program.words g.P.Program.most g.P.Program.valid c.args.script.now.value x.positions.items c.args.programs.now)
    (sym (c.in_ok-make_inbox_room.ensures.rest ∙ ap (λ (x : Collector). record x { inbox = c.make_inbox_room.new.self.inbox }) c.in_ok-make_room.ensures.rest))
    c.requires.continues

pub do_slices-requires-clause-room : goal.do_slices-requires-clause-room
do_slices-requires-clause-room g c κs within = subst (λ (x : Collector).
    HaveAskRoom g.P.Program.most c.args.config.now.slice x.mutators.items c.args.programs.now) (sym c.in_ok-make_inbox_room.ensures.rest)
    c.in_ok-make_room.ensures.room

pub do_slices-requires-clause-inbox : goal.do_slices-requires-clause-inbox
do_slices-requires-clause-inbox g c κs within = λ marks.
    c.in_ok-make_inbox_room.ensures.room (sym (ap (λ (x : Collector). is_marking_in x.cycle.progress) c.in_ok-make_inbox_room.ensures.rest) ∙ marks)

pub returns-clause-worked : goal.returns-clause-worked
returns-clause-worked g c =
    let did : Collector = c.do_slices.new.self in
    let was = c.as_mut_slice.ensures.value in
    let new : List Mutator = c.take_rows.new.mutators in
    let rows : RoundRows = c.in_ok-rows.rows in
    let left : new ≡ map cleared did.mutators.items = c.in_ok-rows.ensures.rest ∙ ap (λ (ms : List Mutator). map cleared ms) was in
    let many : length new ≡ length did.mutators.items = ap (λ (ms : List Mutator). length ms) left ∙ length-map did.mutators.items cleared in
    let reported : rows.replies ≡ replies_of did.mutators.items = c.in_ok-rows.ensures.rows ∙ ap replies_of was in
    let back = vec_back did.mutators new many ∙ left in
    subst (λ (l : List RoundRows).
    DidAsk g.P.Program.next g.P.Program.steps g.P.Program.words g.P.Program.most g.P.Program.valid c.args.script.now.value c.args.self.now (record did { mutators = with_items did.mutators new; rows = record did.rows { rounds = l } })
    c.args.programs.now c.do_slices.new.programs) (sym c.note.ensures) (asked_round g.P.Program.next g.P.Program.steps g.P.Program.words g.P.Program.most g.P.Program.valid c.args.script.now.value c.args.self.now c.make_room.new.self
    c.make_inbox_room.new.self c.do_slices.new.self c.opening_of-opening.result.value c.args.programs.now c.do_slices.new.programs c.a_round_leads.ensures
    c.requires.limits c.requires.stopped.0 c.requires.stopped.1 c.requires.programs.count c.requires.continues c.in_ok-make_room.ensures.rest
    c.in_ok-make_room.ensures.mutators c.in_ok-make_inbox_room.ensures.rest c.in_ok-make_inbox_room.ensures.lists c.opening_of-opening.ensures
    c.do_slices.ensures (with_items did.mutators new) back rows reported)

pub returns-clause-reported : goal.returns-clause-reported
returns-clause-reported g c =
    let asked = c.do_slices.ensures in
    let same = c.in_ok-make_inbox_room.ensures.rest ∙ ap (λ (x : Collector). record x { inbox = c.make_inbox_room.new.self.inbox }) c.in_ok-make_room.ensures.rest in
    let on = subst (λ (x : Collector). CanContinue g.P.Program.next g.P.Program.steps g.P.Program.words g.P.Program.most g.P.Program.valid c.args.script.now.value x.positions.items c.args.programs.now) (sym same)
    c.requires.continues c.do_slices.new.programs asked.done asked.gave in
    let rest = (asked.did on.0 on.1 on.2 on.3).rest in
    c.note.ensures ∙ ap (λ (l : List RoundRows). l ++ c.in_ok-rows.rows ∷ [])
    (ap (λ (x : Collector). x.rows.rounds) rest ∙ ap (λ (x : Collector). x.rows.rounds) same)

pub returns-clause-stops : goal.returns-clause-stops
returns-clause-stops g c =
    let asked = c.do_slices.ensures in
    let same = c.in_ok-make_inbox_room.ensures.rest ∙ ap (λ (x : Collector). record x { inbox = c.make_inbox_room.new.self.inbox }) c.in_ok-make_room.ensures.rest in
    let on = subst (λ (x : Collector). CanContinue g.P.Program.next g.P.Program.steps g.P.Program.words g.P.Program.most g.P.Program.valid c.args.script.now.value x.positions.items c.args.programs.now) (sym same)
    c.requires.continues c.do_slices.new.programs asked.done asked.gave in
    let rest = (asked.did on.0 on.1 on.2 on.3).rest in
    ap (λ (x : Collector). x.rows.stops) rest ∙ ap (λ (x : Collector). x.rows.stops) same

pub returns-clause-cycles : goal.returns-clause-cycles
returns-clause-cycles g c =
    let asked = c.do_slices.ensures in
    let same = c.in_ok-make_inbox_room.ensures.rest ∙ ap (λ (x : Collector). record x { inbox = c.make_inbox_room.new.self.inbox }) c.in_ok-make_room.ensures.rest in
    let on = subst (λ (x : Collector). CanContinue g.P.Program.next g.P.Program.steps g.P.Program.words g.P.Program.most g.P.Program.valid c.args.script.now.value x.positions.items c.args.programs.now) (sym same)
    c.requires.continues c.do_slices.new.programs asked.done asked.gave in
    let rest = (asked.did on.0 on.1 on.2 on.3).rest in
    ap (λ (x : Collector). x.rows.cycles) rest ∙ ap (λ (x : Collector). x.rows.cycles) same

pub returns-clause-gave : goal.returns-clause-gave
returns-clause-gave g c = (c.do_slices.ensures.done, c.do_slices.ensures.gave)

pub returns-clause-turns : goal.returns-clause-turns
returns-clause-turns g c =
    let did : Collector = c.do_slices.new.self in
    let roomy : Collector = c.make_inbox_room.new.self in
    let same = c.in_ok-make_inbox_room.ensures.rest ∙ ap (λ (x : Collector). record x { inbox = roomy.inbox }) c.in_ok-make_room.ensures.rest in
    let asked = c.do_slices.ensures in
    let on = subst (λ (x : Collector). CanContinue g.P.Program.next g.P.Program.steps g.P.Program.words g.P.Program.most g.P.Program.valid c.args.script.now.value x.positions.items c.args.programs.now) (sym same)
    c.requires.continues c.do_slices.new.programs asked.done asked.gave in
    let counts = round_counts (longer_script on.0 c.args.script.now.value) c.opening_of-opening.result.value roomy did (asked.did on.0 on.1 on.2 on.3) in
    subst (λ (x : Collector). turns_of did ≡
    passed (turns_of x) (worked_on x.cycle.progress did.cycle.progress)) same counts

pub returns-clause-upper_turns : goal.returns-clause-upper_turns
returns-clause-upper_turns g c =
    let did : Collector = c.do_slices.new.self in
    let roomy : Collector = c.make_inbox_room.new.self in
    let same = c.in_ok-make_inbox_room.ensures.rest ∙ ap (λ (x : Collector). record x { inbox = roomy.inbox }) c.in_ok-make_room.ensures.rest in
    let asked = c.do_slices.ensures in
    let on = subst (λ (x : Collector). CanContinue g.P.Program.next g.P.Program.steps g.P.Program.words g.P.Program.most g.P.Program.valid c.args.script.now.value x.positions.items c.args.programs.now) (sym same)
    c.requires.continues c.do_slices.new.programs asked.done asked.gave in
    let counts = round_counts_upper (longer_script on.0 c.args.script.now.value) c.opening_of-opening.result.value roomy did (asked.did on.0 on.1 on.2 on.3) in
    subst (λ (x : Collector). upper_turns_of did ≡
    passed (upper_turns_of x) (upper_worked_on x.cycle.progress did.cycle.progress)) same counts

pub returns-in_err-make_room-clause-replied : goal.returns-in_err-make_room-clause-replied
returns-in_err-make_room-clause-replied g c = any_err _ (inl refl)

pub returns-in_err-make_room-clause-gave : goal.returns-in_err-make_room-clause-gave
returns-in_err-make_room-clause-gave g c =
    gave_none g.P.Program.next g.P.Program.steps g.P.Program.words g.P.Program.most g.P.Program.valid c.args.programs.now c.requires.programs.valid_are

pub returns-in_err-make_inbox_room-clause-replied : goal.returns-in_err-make_inbox_room-clause-replied
returns-in_err-make_inbox_room-clause-replied g c = any_err _ (inl refl)

pub returns-in_err-make_inbox_room-clause-gave : goal.returns-in_err-make_inbox_room-clause-gave
returns-in_err-make_inbox_room-clause-gave g c =
    gave_none g.P.Program.next g.P.Program.steps g.P.Program.words g.P.Program.most g.P.Program.valid c.args.programs.now c.requires.programs.valid_are

pub returns-in_err-lists-clause-replied : goal.returns-in_err-lists-clause-replied
returns-in_err-lists-clause-replied g c = any_err _ (inl refl)

pub returns-in_err-lists-clause-gave : goal.returns-in_err-lists-clause-gave
returns-in_err-lists-clause-gave g c =
    gave_none g.P.Program.next g.P.Program.steps g.P.Program.words g.P.Program.most g.P.Program.valid c.args.programs.now c.requires.programs.valid_are

pub returns-in_err-rows-clause-gave : goal.returns-in_err-rows-clause-gave
returns-in_err-rows-clause-gave g c = (c.do_slices.ensures.done, c.do_slices.ensures.gave)

-- the round was done, and only its row is missing

pub returns-in_err-rows-clause-replied : goal.returns-in_err-rows-clause-replied
returns-in_err-rows-clause-replied g c =
    let did : Collector = c.do_slices.new.self in
    let left : List Mutator = map cleared did.mutators.items in
    let rows : RoundRows = record { replies = replies_of did.mutators.items } in
    any_err _ (inr (
      record did { mutators = with_items did.mutators left; rows = record did.rows { rounds = did.rows.rounds ++ rows ∷ [] } },
      asked_round g.P.Program.next g.P.Program.steps g.P.Program.words g.P.Program.most g.P.Program.valid c.args.script.now.value c.args.self.now c.make_room.new.self
          c.make_inbox_room.new.self c.do_slices.new.self c.opening_of-opening.result.value c.args.programs.now c.do_slices.new.programs c.a_round_leads.ensures
          c.requires.limits c.requires.stopped.0 c.requires.stopped.1 c.requires.programs.count c.requires.continues c.in_ok-make_room.ensures.rest
          c.in_ok-make_room.ensures.mutators c.in_ok-make_inbox_room.ensures.rest c.in_ok-make_inbox_room.ensures.lists c.opening_of-opening.ensures
          c.do_slices.ensures (with_items did.mutators left) (vec_back did.mutators left (length-map did.mutators.items cleared)) rows refl,
    ))
