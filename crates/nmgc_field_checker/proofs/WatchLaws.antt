-- The phases of a runtime and its heap.
use Rattle.nmgc_field_checker.proofs.Vocabulary.{Has, IsSome, List, None, Option, Some, StandsFirst, World, ap, inl, inr, refl, some_is, subst, sym, ℕ, ◌<◌, ◌∙◌, ◌≡◌, ◌≢◌, ◌⊎◌}
use Rattle.nmgc_field_checker.specs.{declared.event.Actor.Actor, declared.event.FieldWhy.FieldWhy, declared.watch.FieldPhase.FieldPhase, declared.watch.FieldWatch.FieldWatch, Marking.Running, Reports.Left, Watching.CanAct, Watching.HasHeap, Watching.IsActing, Watching.IsSnapshot, Watching.IsThere, Watching.WhyMark, Watching.WhyNotHad, Watching.WhyNotTaken, Watching.WhyActs, Watching.WhyInCycle, Watching.heap_in}
use Rattle.nmgc_field_checker.proofs.{LineLaws.below_has, NoteLaws.has_below}
use Rattle.nmgc_field_checker.specs.declared.event.FieldWhy.TheVariants as why
use Rattle.nmgc_field_checker.specs.declared.watch.FieldPhase.TheVariants as phase

-- the heap with a property
pub heap_of : (P : World → Type 0) (q : FieldPhase) → HasHeap P q → (w : World) × (heap_in q ≡ Some w) × P w
heap_of P (phase.Between w) h = (w, refl, h)
heap_of P (phase.Marking p) h = (p.cycle.world, refl, h)
heap_of P (phase.Ended left) h = (left.heap, refl, h)
heap_of P phase.Stopped h = absurd h

pub has_heap : (P : World → Type 0) (q : FieldPhase) (w : World) → heap_in q ≡ Some w → P w → HasHeap P q
has_heap P (phase.Between v) w e h = subst P (sym (some_is v w e)) h
has_heap P (phase.Marking p) w e h = subst P (sym (some_is p.cycle.world w e)) h
has_heap P (phase.Ended left) w e h = subst P (sym (some_is left.heap w e)) h
has_heap P phase.Stopped w e h = absurd (let bad : None ≡ Some w = e in cc)

pub heap_more : (P Q : World → Type 0) (q : FieldPhase) → ((w : World) → P w → Q w) → HasHeap P q → HasHeap Q q
heap_more P Q q f h = let r = heap_of P q h in has_heap Q q r.0 r.1 (f r.0 r.2)

-- a runtime that hasn't stopped has a heap
pub goes_on : (q : FieldPhase) → (q ≡ phase.Stopped → ⊥) → (w : World) × (heap_in q ≡ Some w)
goes_on (phase.Between w) on = (w, refl)
goes_on (phase.Marking p) on = (p.cycle.world, refl)
goes_on (phase.Ended left) on = (left.heap, refl)
goes_on phase.Stopped on = absurd (on refl)

pub has_some : (q : FieldPhase) (w : World) → heap_in q ≡ Some w → IsSome (heap_in q)
has_some q w e = subst (λ (o : Option World). IsSome o) (sym e) refl

-- an actor that is there, in a runtime that hasn't stopped
pub acting : (p : FieldWatch) (a : Actor) → (p.phase ≡ phase.Stopped → ⊥) → IsThere p a → IsActing p a
acting p a on there = let r = goes_on p.phase on in (r.0, record { heap = r.1; there = there })

-- a reason of the heap against a line of an actor that can act
pub acts_why : (p : FieldWatch) (a : Actor) (Why : World → FieldWhy → Type 0) (y : FieldWhy) → IsActing p a → HasHeap (λ (w : World). Why w y) p.phase →
    WhyActs p a Why y
acts_why p a Why y act h = let r = heap_of (λ (w : World). Why w y) p.phase h in inr (r.0, record { heap = r.1; there = act.1.there }, r.2)

-- the heap of an actor that can act
pub acts_here : (p : FieldWatch) (a : Actor) (P : World → Type 0) → IsActing p a → HasHeap P p.phase → (w : World) × CanAct p a w × P w
acts_here p a P act h = let r = heap_of P p.phase h in (r.0, record { heap = r.1; there = act.1.there }, r.2)

-- a runtime whose phase was taken apart and put together again
pub stays : (p : FieldWatch) (q : FieldPhase) → p.phase ≡ q → record p { phase = q } ≡ p
stays p q e = ap (λ (x : FieldPhase). record p { phase = x }) (sym e)

-- the reasons against a line of a cycle that goes on
pub not_there : (p : FieldWatch) (a : Actor) (Why : Running → FieldWhy → Type 0) (running : Running) → p.phase ≡ phase.Marking running →
    (IsThere p a → ⊥) → WhyInCycle p a Why (why.NotThere a)
not_there p a Why running e out = inr (running, e, inl (refl, out))

pub in_cycle : (p : FieldWatch) (a : Actor) (Why : Running → FieldWhy → Type 0) (running : Running) (y : FieldWhy) → p.phase ≡ phase.Marking running →
    IsThere p a → Why running y → WhyInCycle p a Why y
in_cycle p a Why running y e there w = inr (running, e, inr (there, w))

-- a root that the snapshot doesn't have
pub mark_unknown : (q : FieldPhase) (s : World) (roots : List ℕ) (object : ℕ) → IsSnapshot q s → StandsFirst roots (λ n. Has s n → ⊥) object →
    WhyMark q roots (why.NoObject object)
mark_unknown (phase.Between w) s roots object e f = (object, refl, subst (λ (x : World). StandsFirst roots (λ n. Has x n → ⊥) object) e f)
mark_unknown (phase.Marking p) s roots object e f = absurd e
mark_unknown (phase.Ended left) s roots object e f = (
  object,
  refl,
  record {
    before = f.before;
    later = f.later;
    items_are = f.items_are;
    has = λ h. f.has (below_has s object (subst (λ (n : ℕ). object < n) (sym e.count) (has_below left.heap object h)));
    none = λ other c out. f.none other c (λ h. out (below_has left.heap other (subst (λ (n : ℕ). other < n) e.count (has_below s other h))));
  },
)
mark_unknown phase.Stopped s roots object e f = absurd e

-- a reason against an object is a reason against handing it over
pub not_taken : (p : FieldWatch) (a b : Actor) (object : ℕ) (y : FieldWhy) → WhyActs p a (WhyNotHad object) y → WhyActs p a (WhyNotTaken p object b) y
not_taken p a b object y (inl n) = inl n
not_taken p a b object y (inr r) = inr (r.0, r.1, subst (λ (x : FieldWhy). WhyNotTaken p object b r.0 x) (sym r.2.0) (refl, r.2.1))
