use Rattle.nmgc_weak.proofs.Vocabulary.{◌≡◌, ◌+◌, ◌⊎◌, ◌↔◌, take, Contains, IsInOrder, OldWeak, names_of}
use Rattle.nmgc_weak.proofs.weaks.Weaks.add_all.Given as goal

abbrev pub invariant-loop-weak : goal.invariant-loop-weak
invariant-loop-weak l = record {
  list : (other : OldWeak) → Contains l.self.list other ↔ (Contains l.fn.self.list other ⊎ Contains (take l.weak-index l.fresh) other);
  ordered : IsInOrder (names_of l.self.list);
  spare : l.self.spare + l.weak-index ≡ l.fn.self.spare;
  deaths : l.self.deaths ≡ l.fn.self.deaths;
}
