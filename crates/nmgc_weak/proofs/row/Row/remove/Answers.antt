use Rattle.nmgc_weak.proofs.{Vocabulary.◌≡◌, Vocabulary.List, Vocabulary.ap, Vocabulary.sym, Vocabulary.subst, Vocabulary.◌∙◌, Vocabulary.arith, Vocabulary.Contains, Vocabulary.IsInOrder, Vocabulary.Entry, Vocabulary.OldWeak, Vocabulary.Row, Vocabulary.listed, Vocabulary.entry_names, Vocabulary.IsEntryAt, Vocabulary.without, Vocabulary.names_of, Entries.listed_ordered, Entries.without_name, Entries.found_within, Entries.found_other, Entries.found_ordered, Entries.found_leaves}
use Rattle.nmgc_weak.proofs.row.Row.remove.Goals as goal

pub returns-in_default-clause-list : goal.returns-in_default-clause-list
returns-in_default-clause-list c =
    let w : OldWeak = record { weak = c.args.weak; at = c.args.at } in
    let list : listed c.self.inside.entries.items ≡ c.args.self.now.list = ap (λ (r : Row). r.list) c.self.view_is in
    subst (λ (l : List OldWeak). l ≡ without w l) list (sym (without_name c.self.inside.entries.items w (λ e k.
    c.in_default.ensures.none e (subst (λ (l : List Entry). Contains l e) (sym c.as_slice.ensures.value) k))))

pub returns-in_default-clause-ordered : goal.returns-in_default-clause-ordered
returns-in_default-clause-ordered c =
    subst (λ (l : List OldWeak). IsInOrder (names_of l)) (ap (λ (r : Row). r.list) c.self.view_is) (listed_ordered c.self.inside.entries.items c.self.invariant)

pub index-requires : goal.index-requires
index-requires c =
    let within = found_within c.as_slice.result.now c.in-Some.place c.args.weak (subst (λ (l : List Entry). IsInOrder (entry_names l))
    (sym c.as_slice.ensures.value) c.self.invariant) c.in-Some.ensures.some in
    let size = c.as_slice.ensures.len in
    omega (arith, within, size)

pub index_mut-entry-requires : goal.index_mut-entry-requires
index_mut-entry-requires c =
    let within = found_within c.as_slice.result.now c.in-Some.place c.args.weak (subst (λ (l : List Entry). IsInOrder (entry_names l))
    (sym c.as_slice.ensures.value) c.self.invariant) c.in-Some.ensures.some in
    let size = c.as_slice.ensures.len in
    omega (arith, within, size)

pub returns-then-index-at-clause-list : goal.returns-then-index-at-clause-list
returns-then-index-at-clause-list c =
    let w : OldWeak = record { weak = c.args.weak; at = c.args.at } in
    let found = subst (λ (l : List Entry). IsEntryAt l c.in-Some.place c.args.weak) c.as_slice.ensures.value c.in-Some.ensures.some in
    let list : listed c.self.inside.entries.items ≡ c.args.self.now.list = ap (λ (r : Row). r.list) c.self.view_is in
    subst (λ (l : List OldWeak). l ≡ without w l) list (sym (found_other c.self.inside.entries.items c.in-Some.place c.args.weak c.self.invariant found
    c.index.result.now c.args.at c.index.ensures c.if-index-at.true))

pub returns-then-index-at-clause-ordered : goal.returns-then-index-at-clause-ordered
returns-then-index-at-clause-ordered c =
    subst (λ (l : List OldWeak). IsInOrder (names_of l)) (ap (λ (r : Row). r.list) c.self.view_is) (listed_ordered c.self.inside.entries.items c.self.invariant)

pub invariant_of-self : goal.invariant_of-self
invariant_of-self c =
    let found = subst (λ (l : List Entry). IsEntryAt l c.in-Some.place c.args.weak) c.as_slice.ensures.value c.in-Some.ensures.some in
    found_ordered c.self.inside.entries.items c.in-Some.place c.args.weak c.self.invariant found c.index_mut-entry.result.now c.index_mut-entry.ensures.value

pub invariant_of-self-else-self-len : goal.invariant_of-self-else-self-len
invariant_of-self-else-self-len c =
    let found = subst (λ (l : List Entry). IsEntryAt l c.in-Some.place c.args.weak) c.as_slice.ensures.value c.in-Some.ensures.some in
    found_ordered c.self.inside.entries.items c.in-Some.place c.args.weak c.self.invariant found c.index_mut-entry.result.now c.index_mut-entry.ensures.value

pub returns-then-self-len-clause-list : goal.returns-then-self-len-clause-list
returns-then-self-len-clause-list c =
    let w : OldWeak = record { weak = c.args.weak; at = c.args.at } in
    let found = subst (λ (l : List Entry). IsEntryAt l c.in-Some.place c.args.weak) c.as_slice.ensures.value c.in-Some.ensures.some in
    let list : listed c.self.inside.entries.items ≡ c.args.self.now.list = ap (λ (r : Row). r.list) c.self.view_is in
    c.drop_left_entries.ensures.list ∙ found_leaves c.self.inside.entries.items c.in-Some.place c.args.weak c.self.invariant found
    c.index.result.now c.index_mut-entry.result.now c.args.at c.index.ensures c.if-index-at.false c.index_mut-entry.ensures.value ∙ ap (without w) list

pub returns-then-self-len-clause-ordered : goal.returns-then-self-len-clause-ordered
returns-then-self-len-clause-ordered c =
    let found = subst (λ (l : List Entry). IsEntryAt l c.in-Some.place c.args.weak) c.as_slice.ensures.value c.in-Some.ensures.some in
    subst (λ (l : List OldWeak). IsInOrder (names_of l)) (sym c.drop_left_entries.ensures.list) (listed_ordered _
    (found_ordered c.self.inside.entries.items c.in-Some.place c.args.weak c.self.invariant found c.index_mut-entry.result.now
    c.index_mut-entry.ensures.value))

pub returns-else-self-len-clause-list : goal.returns-else-self-len-clause-list
returns-else-self-len-clause-list c =
    let w : OldWeak = record { weak = c.args.weak; at = c.args.at } in
    let found = subst (λ (l : List Entry). IsEntryAt l c.in-Some.place c.args.weak) c.as_slice.ensures.value c.in-Some.ensures.some in
    let list : listed c.self.inside.entries.items ≡ c.args.self.now.list = ap (λ (r : Row). r.list) c.self.view_is in
    found_leaves c.self.inside.entries.items c.in-Some.place c.args.weak c.self.invariant found c.index.result.now c.index_mut-entry.result.now
    c.args.at c.index.ensures c.if-index-at.false c.index_mut-entry.ensures.value ∙ ap (without w) list

pub returns-else-self-len-clause-ordered : goal.returns-else-self-len-clause-ordered
returns-else-self-len-clause-ordered c =
    let found = subst (λ (l : List Entry). IsEntryAt l c.in-Some.place c.args.weak) c.as_slice.ensures.value c.in-Some.ensures.some in
    listed_ordered _ (found_ordered c.self.inside.entries.items c.in-Some.place c.args.weak c.self.invariant found c.index_mut-entry.result.now
    c.index_mut-entry.ensures.value)
