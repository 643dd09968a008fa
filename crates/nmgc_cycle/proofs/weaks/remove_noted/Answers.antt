use Rattle.nmgc_cycle.proofs.Vocabulary.{ℕ, ◌≡◌, ◌+◌, ◌<◌, List, [], ◌∷◌, ◌++◌, length, slice_index, take, get_or, append-nil, refl, sym, ap, subst, ◌∙◌, arith, Contains, flat_map-append, take_all, take_more, Contains-get_or, contains_flat, contains_map, NAME_OFFSET, Address, Mutator, numbers, finalised_of, left_of, left_both, left_had, left_is_alive, OldWeak}
use Rattle.nmgc_cycle.proofs.weaks.remove_noted.Goals as goal

-- the notes of the first mutators, and one more
noted_more : (ms : List Mutator) (i : ℕ) (m : Mutator) → i < length ms →
    finalised_of (take (i + 1) ms) ≡ finalised_of (take i ms) ++ numbers (get_or ms i m).finalised.items
noted_more ms i m lt =
    ap finalised_of (take_more ms i m lt) ∙ flat_map-append (λ (x : Mutator). numbers x.finalised.items) (take i ms) (get_or ms i m ∷ []) ∙
    ap (λ (l : List ℕ). finalised_of (take i ms) ++ l) (append-nil (numbers (get_or ms i m).finalised.items))

pub loop-mutator-init : goal.loop-mutator-init
loop-mutator-init g c = record { words = refl; list = refl; deaths = refl }

pub remove_each-requires-clause-inside : goal.remove_each-requires-clause-inside
remove_each-requires-clause-inside g c at there =
    let ms : List Mutator = c.args.mutators.now in
    let i : ℕ = c.loop-mutator.mutator-index in
    let m : Mutator = c.mutator-item.result in
    let read : m ≡ get_or ms i m = cc in
    let here : Contains ms m = subst (λ (x : Mutator). Contains ms x) (sym read) (Contains-get_or ms i m c.loop-mutator-test.true) in
    let noted : Contains m.finalised.items at = subst (λ (l : List Address). Contains l at) c.finalised.ensures there in
    let inside = c.requires.inside at.0 (contains_flat (λ (x : Mutator). numbers x.finalised.items) ms m at.0 here
    (contains_map (λ (a : Address). a.0) m.finalised.items at noted)) in
    let same = ap length c.loop-mutator.invariant.words in
    omega (arith, inside, same)

pub remove_each-requires-clause-named : goal.remove_each-requires-clause-named
remove_each-requires-clause-named g c at weak there same =
    let list : List OldWeak = c.args.weaks.now.list in
    let inv = c.loop-mutator.invariant in
    let had : Contains list weak =
    left_had (g.W.HeapWords.words c.args.words.now) (finalised_of (take c.loop-mutator.mutator-index c.args.mutators.now)) list weak
    (subst (λ (l : List OldWeak). Contains l weak) inv.list there) in
    let n = c.requires.named at weak had same in
    (n.0, ap (λ (l : List ℕ). slice_index l (at + NAME_OFFSET)) inv.words ∙ n.1)

pub loop-mutator-preserved : goal.loop-mutator-preserved
loop-mutator-preserved g c =
    let held : List ℕ = g.W.HeapWords.words c.args.words.now in
    let list : List OldWeak = c.args.weaks.now.list in
    let ms : List Mutator = c.args.mutators.now in
    let i : ℕ = c.loop-mutator.mutator-index in
    let m : Mutator = c.mutator-item.result in
    let read : get_or ms i m ≡ m = cc in
    let inv = c.loop-mutator.invariant in
    let noted : c.finalised.result.now ≡ (get_or ms i m).finalised.items = c.finalised.ensures ∙ ap (λ (x : Mutator). x.finalised.items) (sym read) in
    let one : c.remove_each.new.weaks.list ≡ left_of held (numbers (get_or ms i m).finalised.items) (left_of held (finalised_of (take i ms)) list) =
    c.remove_each.ensures.list ∙ ap (λ (y : List ℕ × List Address × List OldWeak). left_of y.0 (numbers y.1) y.2) (λ k. (
      inv.words k,
      noted k,
      inv.list k,
    )) in
    record {
      words = c.remove_each.ensures.words ∙ inv.words;
      list = one ∙ sym (left_both held (finalised_of (take i ms)) (numbers (get_or ms i m).finalised.items) list) ∙
          ap (λ (l : List ℕ). left_of held l list) (sym (noted_more ms i m c.loop-mutator-test.true));
      deaths = c.remove_each.ensures.deaths ∙ inv.deaths;
    }

-- all dead weak pointers were noted, so the rest is alive
pub returns-clause-list : goal.returns-clause-list
returns-clause-list g c =
    let held : List ℕ = g.W.HeapWords.words c.args.words.now in
    c.loop-mutator.invariant.list ∙
    ap (λ (l : List Mutator). left_of held (finalised_of l) c.args.weaks.now.list)
    (take_all c.loop-mutator.mutator-index c.args.mutators.now c.loop-mutator-test.false) ∙
    left_is_alive held (finalised_of c.args.mutators.now) c.args.weaks.now.list c.requires.reported
