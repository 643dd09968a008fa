use Rattle.nmgc_cycle.proofs.Vocabulary.{◌≡◌, List, [], ◌∷◌, ◌++◌, length, ap, sym, ◌∙◌, append_assoc, append-nil, arith, nil_from_length, RoundSeat, Mutator, Worker, worker_of, workers_of}
use Rattle.nmgc_cycle.proofs.worker.seat_all.Goals as goal

-- the workers so far, and the workers of the mutators and seats left
one_more : (ws new : List Worker) (left ms : List Mutator) (m : Mutator) (seats rest : List RoundSeat) (seat : RoundSeat) (all : List Worker) →
    left ≡ m ∷ ms → seats ≡ seat ∷ rest → new ≡ ws ++ worker_of (m, seat) ∷ [] → ws ++ workers_of left seats ≡ all → new ++ workers_of ms rest ≡ all
one_more ws new left ms m seats rest seat all first given pushed before =
    ap (λ (l : List Worker). l ++ workers_of ms rest) pushed
    ∙ append_assoc ws (worker_of (m, seat) ∷ []) (workers_of ms rest)
    ∙ ap (λ (l : List Mutator). ws ++ workers_of l (seat ∷ rest)) (sym first)
    ∙ ap (λ (l : List RoundSeat). ws ++ workers_of left l) (sym given)
    ∙ before

pub unreachable-requires : goal.unreachable-requires
unreachable-requires c =
    let none : length c.loop-mutator.seats ≡ 0 = ap length c.in_default-take_first.ensures.empty.0 in
    let count = c.loop-mutator.invariant.count in
    let one = c.in-Some.ensures.cases in
    omega arith

pub push_reserved-requires : goal.push_reserved-requires
push_reserved-requires c =
    let room = c.loop-mutator.invariant.room in
    let one = c.in-Some.ensures.cases in
    omega arith

pub loop-mutator-preserved : goal.loop-mutator-preserved
loop-mutator-preserved c =
    let one = c.in-Some.ensures.cases in
    let count = c.loop-mutator.invariant.count in
    let fewer : length c.loop-mutator.seats ≡ length (c.in-Some-take_first.seat ∷ c.take_first.new.self) = ap length c.in-Some-take_first.ensures.first in
    let room = c.loop-mutator.invariant.room in
    let longer = c.push_reserved.ensures.len in
    let same = c.push_reserved.ensures.capacity in
    record {
      all = one_more c.loop-mutator.workers.items c.push_reserved.new.self.items c.loop-mutator.left.items c.pop_front.new.self.items
          c.in-Some.mutator c.loop-mutator.seats c.take_first.new.self c.in-Some-take_first.seat (workers_of c.args.mutators.items c.args.seats)
          c.in-Some.ensures.items c.in-Some-take_first.ensures.first c.push_reserved.ensures.items c.loop-mutator.invariant.all;
      count = omega (arith, one, count, fewer);
      room = omega (arith, one, room, longer, same);
      kept = c.push_reserved.ensures.capacity ∙ c.loop-mutator.invariant.kept;
      left_room = c.pop_front.ensures.capacity ∙ c.loop-mutator.invariant.left_room;
    }

pub returns-clause-workers : goal.returns-clause-workers
returns-clause-workers c =
    let none : c.loop-mutator.left.items ≡ [] = nil_from_length c.loop-mutator.left.items (sym c.loop-mutator.left.ok.0 ∙ c.in_default.ensures.cases.0) in
    sym (append-nil c.loop-mutator.workers.items)
    ∙ ap (λ (l : List Mutator). c.loop-mutator.workers.items ++ workers_of l c.loop-mutator.seats) (sym none)
    ∙ c.loop-mutator.invariant.all

pub returns-clause-left : goal.returns-clause-left
returns-clause-left c = (
  c.into_vec.ensures.items ∙ nil_from_length c.pop_front.new.self.items (sym c.pop_front.new.self.ok.0 ∙ c.in_default.ensures.cases.1),
  c.into_vec.ensures.capacity ∙ c.pop_front.ensures.capacity ∙ c.loop-mutator.invariant.left_room,
)
