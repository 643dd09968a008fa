-- Reports after a cycle, compared with its result.
use Rattle.nmgc_field_checker.proofs.Vocabulary.{Contains, Joins, Objects, no_objects, nothing_in, Has, IsBlack, IsFirstIf, IsLeastIf, IsLeftOut, IsMarked, IsNotKept, Left, List, MayGo, None, WhyNotGo, arith, false, inl, inr, ℕ, ◌<◌, ◌≡◌, ◌≤◌, ◌⊎◌}
use Rattle.nmgc_field_checker.specs.declared.event.FieldWhy.{FieldWhy}
use Rattle.nmgc_field_checker.specs.declared.event.FieldWhy.TheVariants as why
use Rattle.nmgc_field_checker.proofs.FirstLaws.{contains_or}

-- an object with a reason can't be freed
pub not_go : (left : Left) (object : ℕ) (y : FieldWhy) → WhyNotGo left object y → MayGo left object → ⊥
not_go left object (why.NoObject other) w m = w.1 m.there
not_go left object (why.NotOld other) w m = let a : left.first_new ≤ object = w.2 in let b : object < left.first_new = m.old in omega arith
not_go left object (why.Needed other) w m = m.free w.1
not_go left object why.Misplaced w m = w
not_go left object (why.NotThere a) w m = w
not_go left object (why.There a) w m = w
not_go left object (why.Made other) w m = w
not_go left object why.Full w m = w
not_go left object (why.NoField other place) w m = w
not_go left object (why.Unscanned a) w m = w
not_go left object (why.Due d) w m = w
not_go left object (why.Unkept s) w m = w
not_go left object (why.NotListed other) w m = w
not_go left object (why.NotMarked other) w m = w

-- nothing is left out, and each reported object is kept
pub listed_all : (left : Left) (objects : List ℕ) → IsLeastIf (IsLeftOut left objects) None → (object : ℕ) → Contains left.kept.items object → Contains objects object
listed_all left objects none object kept = elim (contains_or objects object) [ inl c ↦ c | inr out ↦ absurd (none object (kept, out)) ]

pub marked_is : (left : Left) (objects : List ℕ) → left.has_freed ≡ false → IsLeastIf (IsLeftOut left objects) None →
    IsFirstIf objects (λ (n : ℕ). Contains left.kept.items n → ⊥) None → IsMarked left objects
marked_is left objects before none first = record {
  before = before;
  kept = λ object. (
    λ c. elim (contains_or left.kept.items object) [ inl kept ↦ kept | inr out ↦ absurd (first object c out) ],
    listed_all left objects none object,
  );
}

pub black_is : (left : Left) (objects : List ℕ) → left.has_freed ≡ false → IsLeastIf (IsLeftOut left objects) None →
    IsFirstIf objects (λ (n : ℕ). Has left.heap n → ⊥) None → ((object : ℕ) → Has left.heap object ⊎ (Has left.heap object → ⊥)) →
    IsFirstIf objects (IsNotKept left) None → IsBlack left objects
black_is left objects before none unknown has first = record {
  before = before;
  there = λ object c. elim (has object) [ inl h ↦ h | inr out ↦ absurd (unknown object c out) ];
  kept = λ object c. listed_all left objects none object c;
  old = λ object c lt. elim (contains_or left.kept.items object) [ inl kept ↦ kept | inr out ↦ absurd (first object c (lt, out)) ];
}

-- the same objects are left out of a list and of the set of its objects
module _ (left : Left) (objects : List ℕ) (old : ℕ) (listed : Objects) (j : Joins (no_objects old) objects listed) where
  pub to_listed : (n : ℕ) → IsLeftOut left objects n → IsLeftOut left listed.items n
  to_listed n p = (p.0, λ c. elim ((j.items n).0 c) [ inl none ↦ nothing_in n none | inr q ↦ p.1 q.0 ])

  pub from_listed : (n : ℕ) → n < old → IsLeftOut left listed.items n → IsLeftOut left objects n
  from_listed n lt p = (p.0, λ c. p.1 ((j.items n).1 (inr (c, lt))))
