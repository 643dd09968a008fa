use Rattle.nmgc_weak.proofs.{Vocabulary.◌≡◌, Vocabulary.◌-◌, Vocabulary.◌⊎◌, Vocabulary.◌↔◌, Vocabulary.◌<◌, Vocabulary.◌≤◌, Vocabulary.ℕ, Vocabulary.List, Vocabulary.false, Vocabulary.get_or, Vocabulary.set, Vocabulary.length, Vocabulary.refl, Vocabulary.ap, Vocabulary.sym, Vocabulary.subst, Vocabulary.◌∙◌, Vocabulary.arith, Vocabulary.Some, Vocabulary.Contains, Vocabulary.insert, Vocabulary.slice_get, Vocabulary.iff_false, Vocabulary.IsBefore, Vocabulary.IsInOrder, Vocabulary.Entry, Vocabulary.OldWeak, Vocabulary.Row, Vocabulary.listed, Vocabulary.entry_names, Entries.before_last, Entries.inserted_count, Entries.inserted_has, Entries.inserted_ordered, Entries.listed_ordered, Entries.neither_before, Entries.read_entry, Entries.reused_list, Entries.reused_ordered, Entries.set_count, row.Row.add.Goals.then-place-gt0+else-not-is_before, row.Row.add.Goals.else-place-gt0}
use Rattle.nmgc_weak.proofs.row.Row.add.Goals as goal

-- the last entry that doesn't come after the name, if there is any
last_there : (es read : List Entry) (place : ℕ) (x : Entry) → read ≡ es → 0 < place → place ≤ length read → x ≡ get_or es (place - 1) x →
    slice_get es (place - 1) ≡ Some x
last_there es read place x same some within is =
    let size = ap length same in
    read_entry es (place - 1) x (omega (arith, size, some, within)) is

-- it has the name, if it isn't before it
pub invariant_of-self : goal.invariant_of-self
invariant_of-self c =
    let es = c.self.inside.entries.items in
    let x = c.index.result.now in
    let place = c.place_from_end-place.result in
    let list : listed es ≡ c.args.self.now.list = ap (λ (r : Row). r.list) c.self.view_is in
    let some = c.if-place-gt0.true in
    let there = last_there es c.as_slice.result.now place x c.as_slice.ensures.value some c.place_from_end-place.ensures.within c.index.ensures in
    let named : x.weak.weak ≡ c.args.weak = neither_before x.weak.weak c.args.weak (iff_false c.is_before.ensures c.if-not-is_before.true)
    (c.place_from_end-place.ensures.before (place - 1) x (ap (λ (l : List Entry). slice_get l (place - 1)) c.as_slice.ensures.value ∙ there) (omega (arith, some))) in
    reused_ordered es (place - 1) c.args.weak c.args.at x c.self.invariant there named (λ w k. c.requires.new w (subst (λ (l : List OldWeak). Contains l w) list k))

pub returns-then-not-is_before-clause-list : goal.returns-then-not-is_before-clause-list
returns-then-not-is_before-clause-list c =
    let es = c.self.inside.entries.items in
    let x = c.index.result.now in
    let place = c.place_from_end-place.result in
    let list : listed es ≡ c.args.self.now.list = ap (λ (r : Row). r.list) c.self.view_is in
    let there = last_there es c.as_slice.result.now place x c.as_slice.ensures.value c.if-place-gt0.true c.place_from_end-place.ensures.within c.index.ensures in
    let some = c.if-place-gt0.true in
    let named : x.weak.weak ≡ c.args.weak = neither_before x.weak.weak c.args.weak (iff_false c.is_before.ensures c.if-not-is_before.true)
    (c.place_from_end-place.ensures.before (place - 1) x (ap (λ (l : List Entry). slice_get l (place - 1)) c.as_slice.ensures.value ∙ there) (omega (arith, some))) in
    λ other. subst (λ (l : List OldWeak). Contains (listed (set es (place - 1) (record { weak = record { weak = c.args.weak; at = c.args.at }; left = false }))) other ↔
    (Contains l other ⊎ (other ≡ record { weak = c.args.weak; at = c.args.at }))) list
    (reused_list es (place - 1) c.args.weak c.args.at x c.self.invariant there named (λ w k. c.requires.new w (subst (λ (l : List OldWeak). Contains l w) list k)) other)

pub returns-then-not-is_before-clause-ordered : goal.returns-then-not-is_before-clause-ordered
returns-then-not-is_before-clause-ordered c = listed_ordered _ (invariant_of-self c)

pub returns-then-not-is_before-clause-count : goal.returns-then-not-is_before-clause-count
returns-then-not-is_before-clause-count c =
    let es = c.self.inside.entries.items in
    let list = ap (λ (r : Row). length r.list) c.self.view_is in
    let most = set_count es (c.place_from_end-place.result - 1) (record { weak = record { weak = c.args.weak; at = c.args.at }; left = false }) in
    omega (arith, list, most)

pub invariant_of-self-2 : goal.invariant_of-self-2
invariant_of-self-2 c =
    let es = c.self.inside.entries.items in
    let place = c.place_from_end-place.result in
    let value = c.as_slice.ensures.value in
    let one : Entry = record { weak = record { weak = c.args.weak; at = c.args.at }; left = false } in
    let before : (j : ℕ) (e : Entry) → slice_get es j ≡ Some e → j < place → IsBefore e.weak.weak c.args.weak =
    λ j e at lt. elim c.if-place-gt0.branch [
      | then-place-gt0+else-not-is_before w ↦
          let some = w.if-place-gt0.true in
          let there = last_there es c.as_slice.result.now place w.index.result.now value some c.place_from_end-place.ensures.within w.index.ensures in
          before_last es (place - 1) w.index.result.now c.args.weak c.self.invariant there (w.if-not-is_before.ensures.0 refl) j e at (omega (arith, lt, some))
      | else-place-gt0 w ↦ let none = w.if-place-gt0.false in absurd (omega (arith, lt, none))
    ] in
    subst (λ (l : List Entry). IsInOrder (entry_names l)) (sym c.in-Ok.ensures.items) (inserted_ordered es place one c.self.invariant
    (λ j e at le. c.place_from_end-place.ensures.after j e (ap (λ (l : List Entry). slice_get l j) value ∙ at) le) before)

pub returns-clause-list : goal.returns-clause-list
returns-clause-list c = λ other.
    let es = c.self.inside.entries.items in
    let one : Entry = record { weak = record { weak = c.args.weak; at = c.args.at }; left = false } in
    let list : listed es ≡ c.args.self.now.list = ap (λ (r : Row). r.list) c.self.view_is in
    subst (λ (l : List Entry). Contains (listed l) other ↔ (Contains c.args.self.now.list other ⊎ (other ≡ one.weak))) (sym c.in-Ok.ensures.items)
    (subst (λ (l : List OldWeak). Contains (listed (insert es c.place_from_end-place.result one)) other ↔ (Contains l other ⊎ (other ≡ one.weak))) list
    (inserted_has es c.place_from_end-place.result one other refl))

pub returns-clause-ordered : goal.returns-clause-ordered
returns-clause-ordered c = listed_ordered _ (invariant_of-self-2 c)

pub returns-clause-count : goal.returns-clause-count
returns-clause-count c =
    let es = c.self.inside.entries.items in
    let one : Entry = record { weak = record { weak = c.args.weak; at = c.args.at }; left = false } in
    let list = ap (λ (r : Row). length r.list) c.self.view_is in
    let more = ap (λ (l : List Entry). length (listed l)) c.in-Ok.ensures.items ∙ inserted_count es c.place_from_end-place.result one refl in
    omega (arith, list, more)
