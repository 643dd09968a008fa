use Rattle.nmgc_weak.proofs.{Vocabulary.◌≡◌, Vocabulary.◌+◌, Vocabulary.◌-◌, Vocabulary.ℕ, Vocabulary.List, Vocabulary.set, Vocabulary.sym, Vocabulary.ap, Vocabulary.subst, Vocabulary.arith, Vocabulary.Contains, Vocabulary.OldWeak, Vocabulary.Row, Vocabulary.AreRows, Vocabulary.list_of, Vocabulary.Weaks, Entries.read_row, RowLaws.joined_rows, RowLaws.of_row, RowLaws.row_joined, RowLaws.row_lengths, RowLaws.rows_ordered}
use Rattle.nmgc_weak.proofs.weaks.Weaks.add.Goals as goal

-- some room, so each maker has its row
pub index_mut-row-requires : goal.index_mut-row-requires
index_mut-row-requires c =
    let some = c.requires.room in
    let spare = ap (λ (a : Weaks). a.spare) c.self.view_is in
    let all = c.self.invariant.0.all (omega (arith, some, spare)) in
    let within = c.row_of.ensures.within in
    omega (arith, all, within)

pub add-requires-clause-room : goal.add-requires-clause-room
add-requires-clause-room c =
    let some = c.requires.room in
    let spare = ap (λ (a : Weaks). a.spare) c.self.view_is in
    let rows = c.self.invariant.0 in
    let all = rows.all (omega (arith, some, spare)) in
    let within = c.row_of.ensures.within in
    let row : Row = c.index_mut-row.result.now in
    let there = read_row c.self.inside.rows.items c.row_of.result row (omega (arith, all, within)) c.index_mut-row.ensures.value in
    let most = rows.spare c.row_of.result row there in
    omega (arith, some, spare, most)

pub add-requires-clause-new : goal.add-requires-clause-new
add-requires-clause-new c other k =
    let some = c.requires.room in
    let spare = ap (λ (a : Weaks). a.spare) c.self.view_is in
    let list : list_of c.self.inside.rows.items ≡ c.args.self.now.list = ap (λ (a : Weaks). a.list) c.self.view_is in
    let all = c.self.invariant.0.all (omega (arith, some, spare)) in
    let within = c.row_of.ensures.within in
    let row : Row = c.index_mut-row.result.now in
    let there = read_row c.self.inside.rows.items c.row_of.result row (omega (arith, all, within)) c.index_mut-row.ensures.value in
    c.requires.new other (subst (λ (l : List OldWeak). Contains l other) list (of_row c.self.inside.rows.items c.row_of.result row other there k))

pub returns-clause-list : goal.returns-clause-list
returns-clause-list c = λ other.
    let some = c.requires.room in
    let spare = ap (λ (a : Weaks). a.spare) c.self.view_is in
    let list : list_of c.self.inside.rows.items ≡ c.args.self.now.list = ap (λ (a : Weaks). a.list) c.self.view_is in
    let all = c.self.invariant.0.all (omega (arith, some, spare)) in
    let within = c.row_of.ensures.within in
    let row : Row = c.index_mut-row.result.now in
    let there = read_row c.self.inside.rows.items c.row_of.result row (omega (arith, all, within)) c.index_mut-row.ensures.value in
    let x : OldWeak = record { weak = c.args.weak; at = c.args.at } in
    rw (← list) (row_joined c.self.inside.rows.items c.row_of.result row c.add.new.self x other there c.add.ensures.list)

pub invariant_of-self : goal.invariant_of-self
invariant_of-self c =
    let some = c.requires.room in
    let spare = ap (λ (a : Weaks). a.spare) c.self.view_is in
    let inv = c.self.invariant in
    let all = inv.0.all (omega (arith, some, spare)) in
    let within = c.row_of.ensures.within in
    let items : List Row = c.self.inside.rows.items in
    let row : Row = c.index_mut-row.result.now in
    let there = read_row items c.row_of.result row (omega (arith, all, within)) c.index_mut-row.ensures.value in
    let x : OldWeak = record { weak = c.args.weak; at = c.args.at } in
    let less : ℕ = c.self.inside.room - 1 in
    let room : c.self.inside.room ≡ less + 1 = omega (arith, some, spare) in
    let rows : AreRows (set items c.row_of.result c.add.new.self) less =
    joined_rows items less c.row_of.result row c.add.new.self x (subst (λ (n : ℕ). AreRows items n) room inv.0) there (sym c.row_of.ensures.value)
    c.add.ensures.list c.add.ensures.ordered c.add.ensures.spare in
    let sum = row_lengths items c.row_of.result row c.add.new.self there in
    let count = c.add.ensures.count in (
      rows,
      omega (arith, sum, count, inv.1),
      omega (arith, room, inv.2),
      omega (arith, room, inv.3),
      omega (arith, room, inv.4),
      omega (arith, room, inv.5),
      omega (arith, room, inv.6),
      inv.7,
      inv.8,
    )

pub returns-clause-ordered : goal.returns-clause-ordered
returns-clause-ordered c = rows_ordered _ _ (invariant_of-self c).0
