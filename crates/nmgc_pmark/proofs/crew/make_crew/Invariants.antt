use Rattle.nmgc_pmark.proofs.{Vocabulary.◌≡◌, Vocabulary.◌+◌, Vocabulary.◌-◌, Vocabulary.◌≤◌, Vocabulary.suc, Vocabulary.length, Vocabulary.seen, Vocabulary.IsAt, Vocabulary.AreNumbered, Vocabulary.CanAllBegin, Crews.rest_from}
use Rattle.nmgc_pmark.proofs.crew.make_crew.Given as goal

-- there is a marker for each number before this one, and the seat has the parts from there on
abbrev pub invariant-loop-number : goal.invariant-loop-number
invariant-loop-number l = record {
  seat_at : IsAt l.fn.table l.seat;
  rest : seen l.seat ≡ rest_from (l.number - 1) (suc (l.fn.bounds.markers - l.number));
  begin : CanAllBegin l.fn.table l.fn.bounds.markers l.crew.items;
  numbers : AreNumbered l.crew.items;
  count : length l.crew.items + 1 ≡ l.number;
  most : l.number ≤ l.fn.bounds.markers;
}
