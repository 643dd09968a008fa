use Rattle.nmgc_weak.proofs.{Vocabulary.◌≡◌, Vocabulary.ℕ, Vocabulary.List, Vocabulary.length, Vocabulary.ap, Vocabulary.subst, Vocabulary.◌∙◌, Vocabulary.arith, Vocabulary.Contains, Vocabulary.OldWeak, Vocabulary.Row, Vocabulary.list_of, Vocabulary.Weaks, Vocabulary.is_alive, Vocabulary.alive_of, RowLaws.filtered_few, RowLaws.rows_left, RowLaws.rows_ordered}
use Rattle.nmgc_weak.proofs.weaks.Weaks.leave.Goals as goal

pub remove_dead-requires : goal.remove_dead-requires
remove_dead-requires g c = λ weak k.
    let list : list_of c.self.inside.rows.items ≡ c.args.self.now.list = ap (λ (a : Weaks). a.list) c.self.view_is in
    c.requires weak (subst (λ (l : List OldWeak). Contains l weak) (ap list_of c.as_mut_slice.ensures.value ∙ list) k)

pub invariant_of-self : goal.invariant_of-self
invariant_of-self g c =
    let alive = is_alive (g.W.HeapWords.words c.args.words.now) in
    let inv = c.self.invariant in
    let rows : List Row = c.self.inside.rows.items in
    let left = rows_left rows c.as_mut_slice.result.now c.remove_dead.new.rows c.self.inside.rows.len c.self.inside.room inv.0
    c.as_mut_slice.ensures.value c.as_mut_slice.ensures.len c.remove_dead.ensures.count alive c.remove_dead.ensures.rows in
    let few = filtered_few alive (list_of rows) in
    let same = ap length left.list in (
      left.rows,
      omega (arith, few, same, inv.1),
      inv.2,
      inv.3,
      inv.4,
      inv.5,
      inv.6,
      inv.7,
      inv.8,
    )

pub returns-clause-list : goal.returns-clause-list
returns-clause-list g c =
    let ws : List ℕ = g.W.HeapWords.words c.args.words.now in
    let left = rows_left c.self.inside.rows.items c.as_mut_slice.result.now c.remove_dead.new.rows c.self.inside.rows.len c.self.inside.room
    c.self.invariant.0 c.as_mut_slice.ensures.value c.as_mut_slice.ensures.len c.remove_dead.ensures.count (is_alive ws) c.remove_dead.ensures.rows in
    left.list ∙ ap (λ (a : Weaks). alive_of ws a.list) c.self.view_is

pub returns-clause-ordered : goal.returns-clause-ordered
returns-clause-ordered g c = rows_ordered _ _ (invariant_of-self g c).0
