use Rattle.nmgc_cycle.proofs.{Vocabulary.◌≡◌, Vocabulary.ℕ, Vocabulary.List, Vocabulary.length, Vocabulary.refl, Vocabulary.sym, Vocabulary.subst, Vocabulary.Global, Vocabulary.Some, Vocabulary.slice_get, Vocabulary.with_items, Vocabulary.Vec, Vocabulary.Segments, Vocabulary.Mutator, Vocabulary.Receiver, Vocabulary.Marking, Vocabulary.AddsTo, Vocabulary.HasAdded, Vocabulary.remembered_by, Vocabulary.IsLined, Vocabulary.HaveForgotten, Vocabulary.HaveForgottenSoFar, stops.Forgetting.all_forgot, lists.MutatorLists.vec_back}
use Rattle.nmgc_cycle.specs.declared.progress.Progress.{Progress}
use Rattle.nmgc_cycle.specs.declared.progress.Progress.TheVariants as doing
use Rattle.nmgc_cycle.proofs.collector.Collector.add_remembered.Goals as goal

-- the lent list, and its new items
record HaveLeft (was : List Mutator) (after : List Receiver) (then : Vec Mutator Global) : Type 0 where
  mutators : HaveForgotten was then.items
  lines : (k : ℕ) (n : Mutator) → slice_get then.items k ≡ Some n → IsLined after k n.sender

left : (own : Vec Mutator Global) (lent new : List Mutator) (inbox after : List Receiver) → lent ≡ own.items →
    HaveForgottenSoFar (length lent) inbox after lent new → HaveLeft own.items after (with_items own new)
left own lent new inbox after same h =
    let there : HaveForgottenSoFar (length own.items) inbox after own.items new =
    subst (λ (l : List Mutator). HaveForgottenSoFar (length l) inbox after l new) same h in
    let back : (with_items own new).items ≡ new = vec_back own new there.count in
    record {
      mutators = subst (λ (l : List Mutator). HaveForgotten own.items l) (sym back) (all_forgot inbox after own.items new there);
      lines = subst (λ (l : List Mutator). (k : ℕ) (n : Mutator) → slice_get l k ≡ Some n → IsLined after k n.sender) (sym back) there.lines;
    }

-- if no cycle marks nothing is added
adds_none : (entries : List ℕ) (s : Segments) (p : Progress) → ((m : Marking) → p ≡ doing.Marking m → ⊥) → AddsTo entries s s p p
adds_none entries s doing.Idle not = (refl, refl)
adds_none entries s (doing.Marking m) not = absurd (not m refl)
adds_none entries s (doing.Sweeping w) not = (refl, refl)

pub returns-in-Marking : goal.returns-in-Marking
returns-in-Marking c =
    let own = c.args.self.now in
    let same = c.as_mut_slice-mutators.ensures.value in
    let h = c.add_all.ensures.forgot in
    let l = left own.mutators c.as_mut_slice-mutators.result.now c.add_all.new.mutators own.inbox c.add_all.new.inbox same h in
    let added = subst (λ (ms : List Mutator).
    HasAdded (remembered_by ms) own.heap.segments c.add_all.new.segments c.in-Marking.marking.marker c.add_all.new.marker) same c.add_all.ensures.added in
    record {
      rest = refl;
      inbox = h.inbox_is;
      mutators = l.mutators;
      lines = l.lines;
      adds = subst (λ (p : Progress).
          AddsTo (remembered_by own.mutators.items) own.heap.segments c.add_all.new.segments p (doing.Marking (record c.in-Marking.marking {
            marker =
                c.add_all.new.marker;
          }))) (sym c.in-Marking.is) (c.add_all.new.marker, refl, added, c.add_all.ensures.sound);
    }

pub returns : goal.returns
returns c =
    let own = c.args.self.now in
    let h = c.forget_all.ensures in
    let l = left own.mutators c.as_mut_slice-mutators.result.now c.forget_all.new.mutators own.inbox c.forget_all.new.inbox
    c.as_mut_slice-mutators.ensures.value h in
    record {
      rest = refl;
      inbox = h.inbox_is;
      mutators = l.mutators;
      lines = l.lines;
      adds = adds_none (remembered_by own.mutators.items) own.heap.segments own.cycle.progress (λ m e. c.in_default.not-Marking m e);
    }
