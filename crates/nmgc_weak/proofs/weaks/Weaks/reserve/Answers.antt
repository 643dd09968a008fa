use Rattle.nmgc_weak.proofs.{Vocabulary.◌≡◌, Vocabulary.◌⊎◌, Vocabulary.◌+◌, Vocabulary.◌<◌, Vocabulary.◌≤◌, Vocabulary.ℕ, Vocabulary.List, Vocabulary.[], Vocabulary.◌++◌, Vocabulary.length, Vocabulary.take, Vocabulary.drop, Vocabulary.vec_capacity, Vocabulary.ap, Vocabulary.◌∙◌, Vocabulary.arith, Vocabulary.Some, Vocabulary.Result, Vocabulary.Ok, Vocabulary.Err, Vocabulary.OnErr, Vocabulary.slice_get, Vocabulary.MAKERS, Vocabulary.NoMemory, Vocabulary.Death, Vocabulary.OldWeak, Vocabulary.Row, Vocabulary.AreRows, Vocabulary.list_of, Vocabulary.Weaks, RowLaws.made_rows, RowLaws.rows_reserved, RowLaws.rows_roomy}
use Rattle.nmgc_weak.proofs.weaks.Weaks.reserve.Goals as goal

-- rows once empty rows joined them and each got room
kept_rows : (was made slice new : List Row) (len room : ℕ) → AreRows was room → length was ≤ length made →
    ((k : ℕ) (row : Row) → slice_get made k ≡ Some row → (slice_get was k ≡ Some row) ⊎ ((row.list ≡ []) × (length was < MAKERS + 1))) →
    list_of made ≡ list_of was → slice ≡ made → length slice ≡ len → length new ≡ length slice →
    ((k : ℕ) (old now : Row) → slice_get slice k ≡ Some old → slice_get new k ≡ Some now → (now.list ≡ old.list) × (old.spare ≤ now.spare)) →
    AreRows (take len (new ++ drop (length new) made)) room × (list_of (take len (new ++ drop (length new) made)) ≡ list_of was)
kept_rows was made slice new len room h more rows list same all count each =
    let r = rows_reserved made slice new len room (made_rows was made room h more rows) same all count each in
    (r.0, r.1 ∙ list)

-- the view of the list when it stays
same_seen : (now list : List OldWeak) (room : ℕ) (later deaths : List Death) (old : Weaks) → now ≡ list → later ≡ deaths →
    ◌≡◌ {A = Weaks} (record { list = list; spare = room; deaths = deaths }) old →
    ◌≡◌ {A = Weaks} (record { list = now; spare = room; deaths = later }) old
same_seen now list room later deaths old e f is =
    ap (λ (l : List OldWeak). let a : Weaks = record { list = l; spare = room; deaths = later } in a) e ∙
    ap (λ (d : List Death). let a : Weaks = record { list = list; spare = room; deaths = d } in a) f ∙ is

-- the state after memory ran out
after_err : (r : Result (Unit {0}) NoMemory) (now old : Weaks) → now ≡ old → OnErr r (now ≡ old)
after_err (Ok _) now old e = tt
after_err (Err _) now old e = e

pub invariant_of-self-in_err-add_missing_rows : goal.invariant_of-self-in_err-add_missing_rows
invariant_of-self-in_err-add_missing_rows c =
    let inv = c.self.invariant in
    let same = ap length c.add_missing_rows.ensures.list in (
      made_rows c.self.inside.rows.items c.add_missing_rows.new.rows.items c.self.inside.room inv.0 c.add_missing_rows.ensures.more c.add_missing_rows.ensures.rows,
      omega (arith, same, inv.1),
      omega (arith, inv.2),
      omega (arith, inv.3),
      omega (arith, inv.4),
      omega (arith, inv.5),
      omega (arith, inv.6),
      c.reserve-5.ensures.items ∙ inv.7,
      c.reserve-5.ensures.len ∙ inv.8,
    )

pub returns-in_err-add_missing_rows-clause-list : goal.returns-in_err-add_missing_rows-clause-list
returns-in_err-add_missing_rows-clause-list c = c.add_missing_rows.ensures.list ∙ ap (λ (a : Weaks). a.list) c.self.view_is

pub returns-in_err-add_missing_rows-clause-err : goal.returns-in_err-add_missing_rows-clause-err
returns-in_err-add_missing_rows-clause-err c = after_err _ _ _
    (same_seen (list_of c.add_missing_rows.new.rows.items) (list_of c.self.inside.rows.items) c.self.inside.room c.reserve-4.new.self.items
    c.self.inside.deaths.items c.args.self.now c.add_missing_rows.ensures.list c.reserve-4.ensures.items c.self.view_is)

pub invariant_of-self-in_err-reserve_rows : goal.invariant_of-self-in_err-reserve_rows
invariant_of-self-in_err-reserve_rows c =
    let inv = c.self.invariant in
    let made = c.add_missing_rows.new.rows in
    let each = kept_rows c.self.inside.rows.items made.items c.as_mut_slice.result.now c.reserve_rows.new.rows made.len c.self.inside.room
    c.self.invariant.0 c.add_missing_rows.ensures.more c.add_missing_rows.ensures.rows c.add_missing_rows.ensures.list c.as_mut_slice.ensures.value
    c.as_mut_slice.ensures.len c.reserve_rows.ensures.count c.reserve_rows.ensures.lists in
    let same = ap length each.1 in (
      each.0,
      omega (arith, same, inv.1),
      omega (arith, inv.2),
      omega (arith, inv.3),
      omega (arith, inv.4),
      omega (arith, inv.5),
      omega (arith, inv.6),
      c.reserve-5.ensures.items ∙ inv.7,
      c.reserve-5.ensures.len ∙ inv.8,
    )

pub returns-in_err-reserve_rows-clause-list : goal.returns-in_err-reserve_rows-clause-list
returns-in_err-reserve_rows-clause-list c =
    let made = c.add_missing_rows.new.rows in
    let each = kept_rows c.self.inside.rows.items made.items c.as_mut_slice.result.now c.reserve_rows.new.rows made.len c.self.inside.room
    c.self.invariant.0 c.add_missing_rows.ensures.more c.add_missing_rows.ensures.rows c.add_missing_rows.ensures.list c.as_mut_slice.ensures.value
    c.as_mut_slice.ensures.len c.reserve_rows.ensures.count c.reserve_rows.ensures.lists in
    each.1 ∙ ap (λ (a : Weaks). a.list) c.self.view_is

pub returns-in_err-reserve_rows-clause-err : goal.returns-in_err-reserve_rows-clause-err
returns-in_err-reserve_rows-clause-err c =
    let made = c.add_missing_rows.new.rows in
    let each = kept_rows c.self.inside.rows.items made.items c.as_mut_slice.result.now c.reserve_rows.new.rows made.len c.self.inside.room
    c.self.invariant.0 c.add_missing_rows.ensures.more c.add_missing_rows.ensures.rows c.add_missing_rows.ensures.list c.as_mut_slice.ensures.value
    c.as_mut_slice.ensures.len c.reserve_rows.ensures.count c.reserve_rows.ensures.lists in
    after_err _ _ _ (same_seen (list_of (take made.len (c.reserve_rows.new.rows ++ drop (length c.reserve_rows.new.rows) made.items))) (list_of c.self.inside.rows.items)
    c.self.inside.room c.reserve-4.new.self.items c.self.inside.deaths.items c.args.self.now each.1 c.reserve-4.ensures.items c.self.view_is)

pub invariant_of-self-2 : goal.invariant_of-self-2
invariant_of-self-2 c =
    let inv = c.self.invariant in
    let made = c.add_missing_rows.new.rows in
    let each = kept_rows c.self.inside.rows.items made.items c.as_mut_slice.result.now c.reserve_rows.new.rows made.len c.self.inside.room
    c.self.invariant.0 c.add_missing_rows.ensures.more c.add_missing_rows.ensures.rows c.add_missing_rows.ensures.list c.as_mut_slice.ensures.value
    c.as_mut_slice.ensures.len c.reserve_rows.ensures.count c.reserve_rows.ensures.lists in
    let same = ap length each.1 in
    let many = c.in_ok-add_missing_rows.ensures.all in
    let own = made.ok.0 in
    let room_1 : c.self.inside.most + c.args.more ≤ vec_capacity c.reserve.new.self = omega (arith, c.in-Some.ensures, c.in_ok-reserve.ensures.ok) in
    let room_2 : c.self.inside.most + c.args.more ≤ vec_capacity c.reserve-2.new.self = omega (arith, c.in-Some.ensures, c.in_ok-reserve-2.ensures.ok) in
    let room_3 : c.self.inside.most + c.args.more ≤ vec_capacity c.reserve-3.new.self = omega (arith, c.in-Some.ensures, c.in_ok-reserve-3.ensures.ok) in
    let room_4 : c.self.inside.most + c.args.more ≤ vec_capacity c.reserve-4.new.self = omega (arith, c.in-Some.ensures, c.in_ok-reserve-4.ensures.ok) in
    let room_5 : c.self.inside.most + c.args.more ≤ vec_capacity c.reserve-5.new.self = omega (arith, c.in-Some.ensures, c.in_ok-reserve-5.ensures.ok) in (
      rows_roomy made.items c.as_mut_slice.result.now c.reserve_rows.new.rows made.len c.self.inside.room
          (made_rows c.self.inside.rows.items made.items c.self.inside.room inv.0 c.add_missing_rows.ensures.more c.add_missing_rows.ensures.rows)
          c.as_mut_slice.ensures.value c.as_mut_slice.ensures.len c.reserve_rows.ensures.count c.args.more c.reserve_rows.ensures.lists
          c.in_ok-reserve_rows.ensures.room (omega (arith, many, own)),
      omega (arith, same, inv.1),
      room_1,
      room_2,
      room_3,
      room_4,
      room_5,
      c.reserve-5.ensures.items ∙ inv.7,
      c.reserve-5.ensures.len ∙ inv.8,
    )

pub returns-clause-list : goal.returns-clause-list
returns-clause-list c =
    let made = c.add_missing_rows.new.rows in
    let each = kept_rows c.self.inside.rows.items made.items c.as_mut_slice.result.now c.reserve_rows.new.rows made.len c.self.inside.room
    c.self.invariant.0 c.add_missing_rows.ensures.more c.add_missing_rows.ensures.rows c.add_missing_rows.ensures.list c.as_mut_slice.ensures.value
    c.as_mut_slice.ensures.len c.reserve_rows.ensures.count c.reserve_rows.ensures.lists in
    each.1 ∙ ap (λ (a : Weaks). a.list) c.self.view_is
