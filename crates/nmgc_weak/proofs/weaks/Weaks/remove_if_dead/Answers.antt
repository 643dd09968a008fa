use Rattle.std.proofs.Common.{◌≡◌, ◌≢◌, ◌+◌, ◌≤◌, ℕ, List, set, sym, ap, subst, ◌∙◌, arith, length, slice_index, Some}
use Rattle.std.specs.Prelude.{Contains, not, slice_get}
use Rattle.nmgc_world_spec.specs.{declared.value.Name.Name, Reach.IsInOrder}
use Rattle.nmgc_object.specs.{Words.IsName, Words.name_word, declared.size.TheConstants.NAME_OFFSET}
use Rattle.nmgc_weak.specs.{declared.weaks.OldWeak.OldWeak, Weaks.Weaks, Weaks.names_of, Weaks.value_place, Rows.Row, Rows.AreRows, Rows.IsNamedAt, Rows.is_same, Rows.left_at, Rows.list_of, Rows.row_of, Rows.without}
use Rattle.nmgc_weak.proofs.{Entries.read_row, RowLaws.alive_at, RowLaws.filtered_few, RowLaws.left_row, RowLaws.left_rows, RowLaws.list_ordered, RowLaws.no_row, RowLaws.none_leaves, RowLaws.row_lengths, RowLaws.rows_ordered}
use Rattle.nmgc_weak.proofs.weaks.Weaks.remove_if_dead.Goals as goal
use Rattle.nmgc_alloc.specs.laws.OneState.{same_name}

-- the weak pointer there has the name that was read
named_there : (words : List ℕ) (at : ℕ) (list : List OldWeak) (n : Name) → IsNamedAt words at list → IsName n →
    name_word n ≡ slice_index words (at + NAME_OFFSET) → (w : OldWeak) → Contains list w → w.at.0 ≡ at → w.weak ≡ n
named_there words at list n named valid read w c here =
    let own = named w c here in
    same_name w.weak n own.0 valid (sym own.1 ∙ sym read)

-- the list once it left its row
left_there : (words : List ℕ) (at number : ℕ) (n : Name) (rows : List Row) (room : ℕ) (old new : Row) (list : List OldWeak) → AreRows rows room →
    list_of rows ≡ list → slice_index words (value_place at) ≡ 0 → IsNamedAt words at list → IsName n →
    name_word n ≡ slice_index words (at + NAME_OFFSET) → number ≡ row_of n → slice_get rows number ≡ Some old →
    new.list ≡ without (record { weak = n; at = record { 0 = at } }) old.list → list_of (set rows number new) ≡ left_at words at list
left_there words at number n rows room old new list h is zero_ named valid read place there left =
    ap (λ (k : ℕ). list_of (set rows k new)) place ∙
    left_row words at n rows room h zero_ (λ w c here. named_there words at list n named valid read w (subst (λ (l : List OldWeak). Contains l w) is c) here) old new
    (ap (λ (k : ℕ). slice_get rows k) (sym place) ∙ there) left ∙ ap (λ (l : List OldWeak). left_at words at l) is

-- and the rows are still rows
rows_there : (rows : List Row) (room number : ℕ) (x : OldWeak) (old new : Row) → AreRows rows room → slice_get rows number ≡ Some old →
    new.list ≡ without x old.list → IsInOrder (names_of new.list) → old.spare ≤ new.spare → AreRows (set rows number new) room
rows_there rows room number x old new h there left ordered spare =
    left_rows (λ (o : OldWeak). not (is_same o x)) rows room number old new h there left ordered spare

-- no more of them than before
few_there : (rows : List Row) (number : ℕ) (x : OldWeak) (old new : Row) → slice_get rows number ≡ Some old → new.list ≡ without x old.list →
    length (list_of (set rows number new)) ≤ length (list_of rows)
few_there rows number x old new there left =
    let sum = row_lengths rows number old new there in
    let few = filtered_few (λ (o : OldWeak). not (is_same o x)) old.list in
    let same = ap length left in
    omega (arith, sum, few, same)

-- a weak pointer has that value, and is alive
pub returns-then-load-ne0-clause-list : goal.returns-then-load-ne0-clause-list
returns-then-load-ne0-clause-list g c =
    let ws = g.W.HeapWords.words c.args.words.now in
    let value : slice_index ws (value_place c.args.at.0) ≢ 0 = λ zero_. c.if-load-ne0.true (c.load.ensures.word ∙ zero_) in
    sym (none_leaves ws c.args.at.0 c.args.self.now.list (λ w k here dead. alive_at ws c.args.at.0 w value here dead))

pub returns-then-load-ne0-clause-ordered : goal.returns-then-load-ne0-clause-ordered
returns-then-load-ne0-clause-ordered g c = list_ordered c.self.inside.rows.items c.self.inside.room c.args.self.now.list c.self.invariant.0
    (ap (λ (a : Weaks). a.list) c.self.view_is)

-- a word that is no name is no weak pointer's name
pub returns-in_default-clause-list : goal.returns-in_default-clause-list
returns-in_default-clause-list g c =
    let ws = g.W.HeapWords.words c.args.words.now in
    let word : c.load-2.result ≡ slice_index ws (c.args.at.0 + NAME_OFFSET) =
    c.load-2.ensures.word ∙ ap (λ (l : List ℕ). slice_index l (c.args.at.0 + NAME_OFFSET)) c.load.ensures.same in
    sym (none_leaves ws c.args.at.0 c.args.self.now.list (λ w k here dead.
    let n = c.requires.named w k here in
    c.in_default.ensures.none w.weak n.0 (sym n.1 ∙ sym word)))

pub returns-in_default-clause-ordered : goal.returns-in_default-clause-ordered
returns-in_default-clause-ordered g c = list_ordered c.self.inside.rows.items c.self.inside.room c.args.self.now.list c.self.invariant.0
    (ap (λ (a : Weaks). a.list) c.self.view_is)

pub invariant_of-self : goal.invariant_of-self
invariant_of-self g c =
    let rows : List Row = c.self.inside.rows.items in
    let inv = c.self.invariant in
    let row : Row = c.index_mut-row.result.now in
    let less = c.if-number-count.true in
    let long = c.self.inside.rows.ok.0 in
    let there = read_row rows c.row_of-number.result row (omega (arith, less, long)) c.index_mut-row.ensures.value in
    let x : OldWeak = record { weak = c.in-Some.weak; at = c.args.at } in
    let left = c.remove.ensures in
    let few = few_there rows c.row_of-number.result x row c.remove.new.self there left.list in (
      rows_there rows c.self.inside.room c.row_of-number.result x row c.remove.new.self inv.0 there left.list left.ordered left.spare,
      omega (arith, few, inv.1),
      inv.2,
      inv.3,
      inv.4,
      inv.5,
      inv.6,
      inv.7,
      inv.8,
    )

pub returns-then-number-count-clause-list : goal.returns-then-number-count-clause-list
returns-then-number-count-clause-list g c =
    let ws = g.W.HeapWords.words c.args.words.now in
    let rows : List Row = c.self.inside.rows.items in
    let row : Row = c.index_mut-row.result.now in
    let less = c.if-number-count.true in
    let long = c.self.inside.rows.ok.0 in
    let there = read_row rows c.row_of-number.result row (omega (arith, less, long)) c.index_mut-row.ensures.value in
    let word : c.load-2.result ≡ slice_index ws (c.args.at.0 + NAME_OFFSET) =
    c.load-2.ensures.word ∙ ap (λ (l : List ℕ). slice_index l (c.args.at.0 + NAME_OFFSET)) c.load.ensures.same in
    let name = c.in-Some.ensures.some in
    left_there ws c.args.at.0 c.row_of-number.result c.in-Some.weak rows c.self.inside.room row c.remove.new.self c.args.self.now.list c.self.invariant.0
    (ap (λ (a : Weaks). a.list) c.self.view_is) (sym c.load.ensures.word ∙ c.if-load-ne0.false) c.requires.named name.0 (name.1 ∙ word)
    c.row_of-number.ensures.value there c.remove.ensures.list

pub returns-then-number-count-clause-ordered : goal.returns-then-number-count-clause-ordered
returns-then-number-count-clause-ordered g c =
    let rows : List Row = c.self.inside.rows.items in
    let row : Row = c.index_mut-row.result.now in
    let less = c.if-number-count.true in
    let long = c.self.inside.rows.ok.0 in
    let there = read_row rows c.row_of-number.result row (omega (arith, less, long)) c.index_mut-row.ensures.value in
    let x : OldWeak = record { weak = c.in-Some.weak; at = c.args.at } in
    let left = c.remove.ensures in
    rows_ordered (set rows c.row_of-number.result c.remove.new.self) c.self.inside.room
    (rows_there rows c.self.inside.room c.row_of-number.result x row c.remove.new.self c.self.invariant.0 there left.list left.ordered left.spare)

-- no row has that number, so no weak pointer has that maker
pub returns-else-number-count-clause-list : goal.returns-else-number-count-clause-list
returns-else-number-count-clause-list g c =
    let ws = g.W.HeapWords.words c.args.words.now in
    let rows : List Row = c.self.inside.rows.items in
    let list : list_of rows ≡ c.args.self.now.list = ap (λ (a : Weaks). a.list) c.self.view_is in
    let past = c.if-number-count.false in
    let long = c.self.inside.rows.ok.0 in
    let number = c.row_of-number.ensures.value in
    let word : c.load-2.result ≡ slice_index ws (c.args.at.0 + NAME_OFFSET) =
    c.load-2.ensures.word ∙ ap (λ (l : List ℕ). slice_index l (c.args.at.0 + NAME_OFFSET)) c.load.ensures.same in
    let name = c.in-Some.ensures.some in
    sym (ap (λ (l : List OldWeak). left_at ws c.args.at.0 l) (sym list) ∙
    no_row ws c.args.at.0 c.in-Some.weak rows c.self.inside.room c.self.invariant.0 (sym c.load.ensures.word ∙ c.if-load-ne0.false)
    (λ w k here. named_there ws c.args.at.0 c.args.self.now.list c.in-Some.weak c.requires.named name.0 (name.1 ∙ word) w
    (subst (λ (l : List OldWeak). Contains l w) list k) here) (omega (arith, past, long, number)) ∙ list)

pub returns-else-number-count-clause-ordered : goal.returns-else-number-count-clause-ordered
returns-else-number-count-clause-ordered g c = list_ordered c.self.inside.rows.items c.self.inside.room c.args.self.now.list c.self.invariant.0
    (ap (λ (a : Weaks). a.list) c.self.view_is)
