-- A mutator of a round by its number: its part of the view, its state, and its work.
use Rattle.nmgc_collector_laws.specs.{laws.Vocabulary.◌≡◌, laws.Vocabulary.ℕ, laws.Vocabulary.◌<◌, laws.Vocabulary.List, laws.Vocabulary.◌∙◌, laws.Vocabulary.arith, laws.Vocabulary.Some, laws.Vocabulary.slice_get, laws.Vocabulary.some, laws.Vocabulary.get_elem?, laws.Vocabulary.Opening, laws.Vocabulary.Part, laws.Vocabulary.Mutator, laws.Vocabulary.Done, laws.Vocabulary.HasWorked, laws.Vocabulary.HaveWorked, laws.Vocabulary.item, laws.Reading.item_found}

-- mutator k, with its part of the view and its work
pub record Worker (o : Opening) (parts : List Part) (mutators : List Mutator) (done : List (List Done)) (k : ℕ) : Type 0 where
  pub part : Part
  pub mutator : Mutator
  pub own : List Done
  pub part_there : get_elem? parts k ≡ some part
  pub mutator_there : slice_get mutators k ≡ Some mutator
  pub own_there : slice_get done k ≡ Some own
  pub number : part.number ≡ k
  pub worked : HasWorked o part mutator own

pub worker_at : (o : Opening) (parts : List Part) (mutators : List Mutator) (done : List (List Done)) → HaveWorked o parts mutators done → (k : ℕ) →
    k < o.layout.mutators → Worker o parts mutators done k
worker_at o parts mutators done all k lt =
    let a = all.parts_are in let b = all.mutators_are in let c = all.done_are in
    let p = item parts k (omega arith) in
    let m = item mutators k (omega arith) in
    let d = item done k (omega arith) in
    let worked = all.each k p.0 m.0 d.0 p.1 m.1 d.1 in
    record {
      part = p.0;
      mutator = m.0;
      own = d.0;
      part_there = item_found parts k p.0 p.1;
      mutator_there = m.1;
      own_there = d.1;
      number = worked.number ∙ all.numbers_are k m.0 m.1;
      worked = worked;
    }
