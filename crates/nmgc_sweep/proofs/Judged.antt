-- The names listed of segments, for any marks: the names of their blocks in use, and as freed the unmarked blocks' names.
use Rattle.nmgc_sweep.proofs.Vocabulary.{ℕ, zero, suc, ◌≡◌, ◌<◌, ◌∙◌, inl, inr, sym, ap, subst, arith, List, [], ◌∷◌, ◌++◌, length, Some, append-nil, append_assoc, Contains, Contains-append_left, Contains-append_right, Contains-append_cases, Name, contains_head, contains_tail, contains_cases, Segment, InUse, block_count, SweepsMany, nth, Segments, Ascends, AreDistinct, ListsBlocks, IsLost, named_at, Sweeper, AreLeft, HaveListed, IsNameIn, AreNamedOnce, GrowsBy, HasJudged}
use Rattle.nmgc_sweep.proofs.Lists.{ascends_first, ascends_rest, distinct_append}

module _ (Passes : Segment → ℕ → Type 0) (uses : (segment : Segment) (block : ℕ) → Passes segment block → InUse segment block)
    (segments : Segments) (names : List Name) where
  abbrev at : ℕ → Segment
  at number = nth segments.segments number

  -- a block of the segment that passes, with its name
  abbrev Here : ℕ → ℕ → Name → Type 0
  Here number block name = (block < block_count (at number)) × Passes (at number) block ×
      (named_at segments.layout names number (at number).class block ≡ Some name)

  -- a list grew by the names in these segments, each once if no two blocks have the same name
  abbrev Lists : List ℕ → List Name → List Name → Type 0
  Lists numbers xs ys = (g : GrowsBy (IsNameIn Passes segments names numbers) xs ys) × (AreNamedOnce segments names numbers → AreDistinct g.added)

  pub none_listed : (xs ys : List Name) → ys ≡ xs → Lists [] xs ys
  none_listed xs ys e = (
    record {
      added = [];
      is = e ∙ sym (append-nil xs);
      exactly = λ name. ((λ c. absurd (omega (arith, c.1))), (λ h. absurd (let there = h.1 in omega (arith, there.1))));
    },
    λ once. tt,
  )

  pub one_listed : (number : ℕ) (numbers : List ℕ) (xs ys zs : List Name) → (Contains numbers number → ⊥) →
      ListsBlocks (Passes (at number)) (named_at segments.layout names number (at number).class) (block_count (at number)) xs ys →
      Lists numbers ys zs → Lists (number ∷ numbers) xs zs
  one_listed number numbers xs ys zs new l (g, each) = (
    record {
      added = l.added ++ g.added;
      is = g.is ∙ ap (λ (ns : List Name). ns ++ g.added) l.is ∙ append_assoc xs l.added g.added;
      exactly = λ name. (
        (λ c. elim (Contains-append_cases l.added g.added name c) [
          | inl here ↦ let f = l.from name here in (number, contains_head number numbers, f.0, f.1, f.2, f.3)
          | inr there ↦ let f = (g.exactly name).0 there in (f.0, contains_tail number numbers f.0 f.1, f.2, f.3, f.4, f.5)
        ]),
        (λ h. elim (contains_cases number numbers h.0 h.1) [
          | inl same ↦
              let here : Here number h.2 name = subst (λ (k : ℕ). Here k h.2 name) (sym same) (h.3, h.4, h.5) in
              Contains-append_left l.added g.added name (l.all h.2 name here.0 here.1 here.2)
          | inr other ↦ Contains-append_right l.added g.added name ((g.exactly name).1 (h.0, other, h.2, h.3, h.4, h.5))
        ]),
      );
    },
    λ once.
        let first = contains_head number numbers in
        distinct_append l.added g.added
        (l.once (λ a b name p q e f. (once number number a b name first first (uses (at number) a p) (uses (at number) b q) e f).1))
        (each (λ i j a b name c d. once i j a b name (contains_tail number numbers i c) (contains_tail number numbers j d)))
        (λ name here there.
        let a = l.from name here in
        let b = (g.exactly name).0 there in
        let same = once number b.0 a.0 b.2 name first (contains_tail number numbers b.0 b.1) (uses (at number) a.0 a.2)
        (uses (at b.0) b.2 b.4) a.3 b.5 in
        new (subst (λ (k : ℕ). Contains numbers k) (sym same.0) b.1)),
  )

-- the same for all listed segments
pub record Judges (segments : Segments) (names : List Name) (before after : Sweeper) (count : ℕ) : Type 0 where
  pub numbers : List ℕ
  pub many : length numbers ≡ count
  pub left : before.left ≡ numbers ++ after.left
  pub had : (g : GrowsBy (IsNameIn InUse segments names numbers) before.seen.had after.seen.had) ×
      (AreNamedOnce segments names numbers → AreDistinct g.added)
  pub freed : (g : GrowsBy (IsNameIn (λ segment. IsLost segment before.seen.epoch) segments names numbers) before.seen.freed after.seen.freed) ×
      (AreNamedOnce segments names numbers → AreDistinct g.added)

judges : (segments : Segments) (names : List Name) (count : ℕ) (x y : Sweeper) → Ascends x.left → HaveListed segments names count x y →
    Judges segments names x y count
judges segments names zero x y ordered h = record {
  numbers = [];
  many = omega arith;
  left = sym (ap (λ (s : Sweeper). s.left) h);
  had = none_listed InUse (λ segment block used. used) segments names x.seen.had y.seen.had (ap (λ (s : Sweeper). s.seen.had) h);
  freed = none_listed (λ segment. IsLost segment x.seen.epoch) (λ segment block lost. lost.0) segments names x.seen.freed y.seen.freed
      (ap (λ (s : Sweeper). s.seen.freed) h);
}
judges segments names (suc count) x y ordered h =
    let mid : Sweeper = h.0 in
    let one = h.1 in
    let first : ℕ = one.first in
    let ascends : Ascends (first ∷ mid.left) = subst (λ (l : List ℕ). Ascends l) one.left ordered in
    let rest : Judges segments names mid y count = judges segments names count mid y (ascends_rest first mid.left ascends) h.2 in
    let epoch : mid.seen.epoch ≡ x.seen.epoch = ap (λ (s : Sweeper). s.seen.epoch) one.rest in
    let new : Contains rest.numbers first → ⊥ = λ c.
    let there : Contains mid.left first =
    subst (λ (l : List ℕ). Contains l first) (sym rest.left) (Contains-append_left rest.numbers y.left first c) in
    let above = ascends_first first mid.left ascends first there in
    omega (arith, above) in
    record {
      numbers = first ∷ rest.numbers;
      many = (let many = rest.many in omega (arith, many));
      left = one.left ∙ ap (λ (l : List ℕ). first ∷ l) rest.left;
      had = one_listed InUse (λ segment block used. used) segments names first rest.numbers x.seen.had mid.seen.had y.seen.had new one.had rest.had;
      freed = one_listed (λ segment. IsLost segment x.seen.epoch) (λ segment block lost. lost.0) segments names first rest.numbers x.seen.freed
          mid.seen.freed y.seen.freed new one.freed (subst (λ (e : ℕ).
          (g : GrowsBy (IsNameIn (λ segment. IsLost segment e) segments names rest.numbers) mid.seen.freed y.seen.freed) ×
          (AreNamedOnce segments names rest.numbers → AreDistinct g.added)) epoch rest.freed);
    }

pub judged : (old new : Segments) (names : List Name) (count : ℕ) (x y : Sweeper) → AreLeft old x → HaveListed old names count x y →
    SweepsMany x.seen.epoch count old new → HasJudged old new names x y count
judged old new names count x y left h swept =
    let all = judges old names count x y left.numbers.ordered h in
    record {
      numbers = all.numbers;
      many = all.many;
      left = all.left;
      had = all.had.0;
      freed = all.freed.0;
      once = λ each. (all.had.1 each, all.freed.1 each);
      swept = swept;
    }

-- only the counts of the gate's passes changed
pub judged_counted : (old new : Segments) (names : List Name) (x y : Sweeper) (turns upper n : ℕ) → HasJudged old new names x y n →
    HasJudged old new names x (record y { turns = turns; upper_turns = upper }) n
judged_counted old new names x y turns upper n h =
    record { numbers = h.numbers; many = h.many; left = h.left; had = h.had; freed = h.freed; once = h.once; swept = h.swept }
