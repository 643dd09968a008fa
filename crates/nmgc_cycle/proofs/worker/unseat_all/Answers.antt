use Rattle.nmgc_cycle.proofs.Vocabulary.{◌≡◌, List, [], ◌∷◌, ◌++◌, map, ap, sym, ◌∙◌, append_assoc, append-nil, arith, nil_from_length, Worker, mutator_of, seat_of}
use Rattle.nmgc_cycle.proofs.worker.unseat_all.Goals as goal

-- the items taken out so far, with the rest
one_more : {A : Type 0} (of : Worker → A) (xs new : List A) (left ws : List Worker) (w : Worker) (all : List A) → left ≡ w ∷ ws →
    new ≡ xs ++ of w ∷ [] → xs ++ map of left ≡ all → new ++ map of ws ≡ all
one_more {A} of xs new left ws w all first pushed before =
    ap (λ (l : List A). l ++ map of ws) pushed
    ∙ append_assoc xs (of w ∷ []) (map of ws)
    ∙ ap (λ (l : List Worker). xs ++ map of l) (sym first)
    ∙ before

-- nothing is left
all_out : {A : Type 0} (of : Worker → A) (xs : List A) (left : List Worker) (all : List A) → left ≡ [] → xs ++ map of left ≡ all → xs ≡ all
all_out of xs left all none before = sym (append-nil xs) ∙ ap (λ (l : List Worker). xs ++ map of l) (sym none) ∙ before

pub push_reserved-requires : goal.push_reserved-requires
push_reserved-requires c =
    let room = c.loop-worker.invariant.mutator_room in
    let one = c.in-Some.ensures.cases in
    omega arith

pub push_reserved-requires-in-Some : goal.push_reserved-requires-in-Some
push_reserved-requires-in-Some c =
    let room = c.loop-worker.invariant.seat_room in
    let one = c.in-Some.ensures.cases in
    omega arith

pub loop-worker-preserved : goal.loop-worker-preserved
loop-worker-preserved c =
    let one = c.in-Some.ensures.cases in
    let mutators = c.loop-worker.invariant.mutator_room in
    let mutator_more = c.push_reserved.ensures.len in
    let mutator_same = c.push_reserved.ensures.capacity in
    let seats = c.loop-worker.invariant.seat_room in
    let seat_more = c.push_reserved-in-Some.ensures.len in
    let seat_same = c.push_reserved-in-Some.ensures.capacity in
    record {
      mutators_are = one_more mutator_of c.loop-worker.mutators.items c.push_reserved.new.self.items c.loop-worker.left.items
          c.pop_front.new.self.items c.in-Some.worker (map mutator_of c.args.workers.items) c.in-Some.ensures.items c.push_reserved.ensures.items
          c.loop-worker.invariant.mutators_are;
      seats_are = one_more seat_of c.loop-worker.seats.items c.push_reserved-in-Some.new.self.items c.loop-worker.left.items c.pop_front.new.self.items
          c.in-Some.worker (map seat_of c.args.workers.items) c.in-Some.ensures.items c.push_reserved-in-Some.ensures.items c.loop-worker.invariant.seats_are;
      mutator_room = omega (arith, one, mutators, mutator_more, mutator_same);
      seat_room = omega (arith, one, seats, seat_more, seat_same);
      left_room = c.pop_front.ensures.capacity ∙ c.loop-worker.invariant.left_room;
    }

pub returns-clause-mutators : goal.returns-clause-mutators
returns-clause-mutators c =
    all_out mutator_of c.loop-worker.mutators.items c.loop-worker.left.items (map mutator_of c.args.workers.items)
    (nil_from_length c.loop-worker.left.items (sym c.loop-worker.left.ok.0 ∙ c.in_default.ensures.cases.0)) c.loop-worker.invariant.mutators_are

pub returns-clause-seats : goal.returns-clause-seats
returns-clause-seats c =
    all_out seat_of c.loop-worker.seats.items c.loop-worker.left.items (map seat_of c.args.workers.items)
    (nil_from_length c.loop-worker.left.items (sym c.loop-worker.left.ok.0 ∙ c.in_default.ensures.cases.0)) c.loop-worker.invariant.seats_are

pub returns-clause-left : goal.returns-clause-left
returns-clause-left c = (
  c.into_vec.ensures.items ∙ nil_from_length c.pop_front.new.self.items (sym c.pop_front.new.self.ok.0 ∙ c.in_default.ensures.cases.1),
  c.into_vec.ensures.capacity ∙ c.pop_front.ensures.capacity ∙ c.loop-worker.invariant.left_room,
)
