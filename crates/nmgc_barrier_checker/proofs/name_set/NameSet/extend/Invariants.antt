use Rattle.nmgc_barrier_checker.proofs.Vocabulary.{take, IsListed, Joins}
use Rattle.nmgc_barrier_checker.proofs.name_set.NameSet.extend.Given as goal

abbrev pub invariant-loop-name : goal.invariant-loop-name
invariant-loop-name l = record {
  listed : IsListed l.snapshot l.self;
  joins : Joins l.snapshot l.fn.self.names (take l.name-index l.names) l.self.names;
}
