use Rattle.nmgc_sweep.proofs.Vocabulary.{◌≡◌, ◌+◌, length, CanList, HaveListed}
use Rattle.nmgc_sweep.proofs.sweeper.Sweeper.list_first.Given as goal

-- the segments so far were listed, and the rest can be
abbrev pub invariant-loop-listed : goal.invariant-loop-listed
invariant-loop-listed l = record {
  done : HaveListed l.segments l.names l._listed l.initial.self l.self;
  can : CanList l.segments l.self;
  fewer : length l.self.left + l._listed ≡ length l.initial.self.left;
}
