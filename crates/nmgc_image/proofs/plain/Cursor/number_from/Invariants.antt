use Rattle.std.proofs.Common.{◌≡◌, ◌<◌, ◌^◌, ◌++◌, decimal, length}
use Rattle.nmgc_image.proofs.plain.Cursor.number_from.Given as goal

-- the number so far was read
abbrev pub invariant-loop-next : goal.invariant-loop-next
invariant-loop-next l = record {
  text : decimal l.first ++ l.initial.self.rest.now ≡ decimal l.number ++ l.self.rest.now;
  small : l.number < 10 ^ 18;
}

abbrev pub decreases-loop-next : goal.decreases-loop-next
decreases-loop-next l = length l.self.rest.now
