use Rattle.nmgc_weak.proofs.{Vocabulary.◌≡◌, Vocabulary.◌<◌, Vocabulary.◌≤◌, Vocabulary.ℕ, Vocabulary.eqb, Vocabulary.length, Vocabulary.List, Vocabulary.true, Vocabulary.sym, Vocabulary.ap, Vocabulary.subst, Vocabulary.◌∙◌, Vocabulary.arith, Vocabulary.Some, Vocabulary.Contains, Vocabulary.slice_get, Vocabulary.min, Vocabulary.MAKERS, Vocabulary.eq_true, Vocabulary.OldWeak, Vocabulary.Row, Vocabulary.AreRows, Vocabulary.list_of, Vocabulary.Weaks, Vocabulary.count_made_by, Entries.read_row, RowLaws.counted_in, RowLaws.counted_none}
use Rattle.nmgc_weak.proofs.weaks.Weaks.count_bound.Goals as goal

-- each weak pointer of a maker is in the maker's row
in_own : (rows : List Row) (room maker number : ℕ) → AreRows rows room → number ≡ min maker MAKERS → (j : ℕ) (row : Row) (w : OldWeak) →
    slice_get rows j ≡ Some row → Contains row.list w → eqb w.weak.maker maker ≡ true → j ≡ number
in_own rows room maker number h is j row w at has own =
    sym (h.own j row w at has) ∙ ap (λ (m : ℕ). min m MAKERS) (eq_true w.weak.maker maker own) ∙ sym is

pub returns-then-number-len : goal.returns-then-number-len
returns-then-number-len c =
    let rows : List Row = c.self.inside.rows.items in
    let number : ℕ = c.row_of-number.result in
    let list : list_of rows ≡ c.args.self.now.list = ap (λ (a : Weaks). a.list) c.self.view_is in
    let less = c.if-number-len.true in
    let long = c.self.inside.rows.ok.0 in
    let lt : number < length rows = omega (arith, less, long) in
    let row : Row = c.index.result.now in
    let most = counted_in (λ (w : OldWeak). eqb w.weak.maker c.args.maker) rows number row (read_row rows number row lt c.index.ensures)
    (in_own rows c.self.inside.room c.args.maker number c.self.invariant.0 c.row_of-number.ensures.value) in
    let all = c.count.ensures in
    let few : count_made_by c.args.maker (list_of rows) ≤ c.count.result = omega (arith, most, all) in
    subst (λ (l : List OldWeak). count_made_by c.args.maker l ≤ c.count.result) list few

pub returns-else-number-len : goal.returns-else-number-len
returns-else-number-len c =
    let rows : List Row = c.self.inside.rows.items in
    let number : ℕ = c.row_of-number.result in
    let list : list_of rows ≡ c.args.self.now.list = ap (λ (a : Weaks). a.list) c.self.view_is in
    let past = c.if-number-len.false in
    let long = c.self.inside.rows.ok.0 in
    let none = counted_none (λ (w : OldWeak). eqb w.weak.maker c.args.maker) rows number (omega (arith, past, long))
    (in_own rows c.self.inside.room c.args.maker number c.self.invariant.0 c.row_of-number.ensures.value) in
    let few : count_made_by c.args.maker (list_of rows) ≤ 0 = omega (arith, none) in
    subst (λ (l : List OldWeak). count_made_by c.args.maker l ≤ 0) list few
