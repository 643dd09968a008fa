use Rattle.nmgc_cycle.proofs.Vocabulary.{ℕ, ◌≡◌, ◌+◌, ◌<◌, List, [], ◌∷◌, ◌++◌, length, slice_index, take, get_or, refl, sym, ap, subst, ◌∙◌, arith, Contains, map-append, take_all, take_more, Contains-get_or, NAME_OFFSET, Address, numbers, left_of, left_had, left_more, OldWeak}
use Rattle.nmgc_weak.specs.Rows.{left_at}
use Rattle.nmgc_cycle.proofs.weaks.remove_each.Goals as goal

abbrev nowhere : Address
nowhere = record { 0 = 0 }

-- the addresses visited, and one more
numbers_more : (xs : List Address) (i : ℕ) → i < length xs → numbers (take (i + 1) xs) ≡ numbers (take i xs) ++ (get_or xs i nowhere).0 ∷ []
numbers_more xs i lt = ap numbers (take_more xs i nowhere lt) ∙ map-append (λ (a : Address). a.0) (take i xs) (get_or xs i nowhere ∷ [])

pub loop-at-init : goal.loop-at-init
loop-at-init g c = record { words = refl; list = refl; deaths = refl }

pub remove_if_dead-requires-clause-inside : goal.remove_if_dead-requires-clause-inside
remove_if_dead-requires-clause-inside g c =
    let x : Address = get_or c.args.finalised.now c.loop-at.at-index nowhere in
    let inside = c.requires.inside x (Contains-get_or c.args.finalised.now c.loop-at.at-index nowhere c.loop-at-test.true) in
    let same = ap length c.loop-at.invariant.words in
    omega (arith, inside, same)

pub remove_if_dead-requires-clause-named : goal.remove_if_dead-requires-clause-named
remove_if_dead-requires-clause-named g c weak there same =
    let x : Address = get_or c.args.finalised.now c.loop-at.at-index nowhere in
    let list : List OldWeak = c.args.weaks.now.list in
    let inv = c.loop-at.invariant in
    let had : Contains list weak =
    left_had (g.W.HeapWords.words c.args.words.now) (numbers (take c.loop-at.at-index c.args.finalised.now)) list weak
    (subst (λ (l : List OldWeak). Contains l weak) inv.list there) in
    let n = c.requires.named x.0 weak had same in
    (n.0, ap (λ (l : List ℕ). slice_index l (x.0 + NAME_OFFSET)) inv.words ∙ n.1)

pub loop-at-preserved : goal.loop-at-preserved
loop-at-preserved g c =
    let held : List ℕ = g.W.HeapWords.words c.args.words.now in
    let list : List OldWeak = c.args.weaks.now.list in
    let places : List Address = c.args.finalised.now in
    let i : ℕ = c.loop-at.at-index in
    let x : Address = get_or places i nowhere in
    let inv = c.loop-at.invariant in
    let one : c.remove_if_dead.new.self.list ≡ left_at held x.0 (left_of held (numbers (take i places)) list) =
    c.remove_if_dead.ensures.list ∙ ap (λ (y : List ℕ × List OldWeak). left_at y.0 x.0 y.1) (λ k. (inv.words k, inv.list k)) in
    record {
      words = c.remove_if_dead.ensures.words ∙ inv.words;
      list = one ∙ sym (left_more held (numbers (take i places)) x.0 list) ∙
          ap (λ (l : List ℕ). left_of held l list) (sym (numbers_more places i c.loop-at-test.true));
      deaths = c.remove_if_dead.ensures.deaths ∙ inv.deaths;
    }

pub returns-clause-list : goal.returns-clause-list
returns-clause-list g c =
    c.loop-at.invariant.list ∙
    ap (λ (l : List Address). left_of (g.W.HeapWords.words c.args.words.now) (numbers l) c.args.weaks.now.list)
    (take_all c.loop-at.at-index c.args.finalised.now c.loop-at-test.false)
