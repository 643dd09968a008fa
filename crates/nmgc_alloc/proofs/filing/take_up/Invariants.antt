use Rattle.nmgc_alloc.proofs.FilingLaws.{TakenUp}
use Rattle.nmgc_alloc.proofs.filing.take_up.Given as goal

-- the tallies of the free segments and of the classes so far took up the counts, and the rest is unchanged
abbrev pub invariant-loop-class : goal.invariant-loop-class
invariant-loop-class l = TakenUp l.lower l.upper l.from l.end l.class l.fn.tallies l.tallies
