use Rattle.nmgc_object.proofs.Vocabulary.{ℕ, ◌≡◌, ◌+◌, ◌*◌, ◌^◌, ◌<◌, ◌≤◌, ◌↔◌, subst, sym, arith, block_size, is_whole, last_class, fitting, count_at, count_to}
use Rattle.nmgc_object.proofs.layout.Layout.classes.Goals as goal

pub returns-clause-count : goal.returns-clause-count
returns-clause-count c =
    let class = c.class_of.result in
    let w = is_whole _ c.requires.words in
    let last = last_class _ class w c.class_of.ensures.holds c.class_of.ensures.least in
    let count : class + 1 ≡ count_to (16 * 2 ^ w.steps) = let all = count_at w.steps w.most in omega (arith, last, all) in
    subst (λ (n : ℕ). class + 1 ≡ count_to n) (sym w.is) count

pub returns-clause-fitting : goal.returns-clause-fitting
returns-clause-fitting c =
    let class = c.class_of.result in
    let w = is_whole _ c.requires.words in
    let last = last_class _ class w c.class_of.ensures.holds c.class_of.ensures.least in
    let all : class + 1 ≡ w.steps + 13 = omega (arith, last) in
    λ d. subst (λ (n : ℕ). (d < n) ↔ (block_size d ≤ c.args.self.now.words)) (sym all) (subst (λ (n : ℕ). (d < w.steps + 13) ↔
    (block_size d ≤ n)) (sym w.is) (fitting w.steps d))
