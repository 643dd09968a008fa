-- New mutators: their registers are nil, their queues are empty, and their nurseries are unused.
use Rattle.nmgc_cycle.proofs.Vocabulary.{ℕ, zero, suc, ◌≡◌, ◌+◌, ◌*◌, ◌<◌, List, [], ◌∷◌, length, map, replicate, get_or, arith, refl, sym, ap, ◌∙◌, Some, length-append, All, Contains, slice_get, length-replicate, get_or-replicate, All-nil, All-append, All-replicate, All-get_or, slice_get_within, slice_get-get_or, REGISTERS, Value, Nil, MutatorState, new_world, new_mutator, each_new, NIL_WORD, Layout, Place, ListMeans, RepresentsRoots, Mutator, IsNew, MutatorEnd, HasAllRegisters, registers_of, queues_of, serials_of, end_of, seen_mutator}
use Rattle.std.proofs.Math.ListN.{length-map}

-- the registers, queue and serial of a new mutator
abbrev pub new_end : MutatorEnd
new_end = record { registers = replicate REGISTERS NIL_WORD; queue = []; serial = 0 }

-- each mutator is a new one
abbrev pub AreNew : Layout → List Mutator → Type 0
AreNew layout mutators = (k : ℕ) (m : Mutator) → slice_get mutators k ≡ Some m → IsNew k layout m

one_end : (layout : Layout) (k : ℕ) (m : Mutator) → IsNew k layout m → end_of (seen_mutator m) ≡ new_end
one_end layout k m new =
    cc (new.registers, new.queue, new.serial)

same_ends : (mutators : List Mutator) → ((k : ℕ) (m : Mutator) → slice_get mutators k ≡ Some m → end_of (seen_mutator m) ≡ new_end) →
    map end_of (map seen_mutator mutators) ≡ replicate (length mutators) new_end
same_ends [] same = refl
same_ends (m ∷ mutators) same =
    let first = same zero m refl in
    let rest = same_ends mutators (λ k n e. same (suc k) n e) in
    cc

-- all of them have the same registers, queue and serial
pub ends_are : (layout : Layout) (mutators : List Mutator) → AreNew layout mutators →
    map end_of (map seen_mutator mutators) ≡ replicate (length mutators) new_end
ends_are layout mutators new = same_ends mutators (λ k m e. one_end layout k m (new k m e))

pub have_registers : (count : ℕ) → All HasAllRegisters (replicate count new_end)
have_registers count = All-replicate HasAllRegisters count new_end refl

-- their registers, one after another, are nil
all_nil : (count : ℕ) → All (λ (w : ℕ). w ≡ NIL_WORD) (registers_of (replicate count new_end))
all_nil zero = All-nil (λ (w : ℕ). w ≡ NIL_WORD)
all_nil (suc count) = All-append (λ (w : ℕ). w ≡ NIL_WORD) new_end.registers (registers_of (replicate count new_end)) (All-replicate (λ (w : ℕ). w ≡
    NIL_WORD) REGISTERS NIL_WORD refl) (all_nil count)

so_many : (count : ℕ) → length (registers_of (replicate count new_end)) ≡ REGISTERS * count
so_many zero = refl
so_many (suc count) =
    let rest = so_many count in
    let both = length-append new_end.registers (registers_of (replicate count new_end)) in
    omega arith

-- an item of a list of equal items
same_item : {A B : Type 0} (f : A → B) (x : A) (count k : ℕ) (y : B) → slice_get (map f (replicate count x)) k ≡ Some y → f x ≡ y
same_item f x zero k y e = absurd cc
same_item f x (suc count) zero y e = cc
same_item f x (suc count) (suc k) y e = same_item f x count k y e

-- a register of a new mutator is nil
nil_register : (i : ℕ) (v : Value) → slice_get new_mutator.registers i ≡ Some v → (i < REGISTERS) × (v ≡ Nil)
nil_register i v e =
    let lt = slice_get_within new_mutator.registers i v e in
    let some : Some v ≡ Some (get_or new_mutator.registers i Nil) = sym e ∙ slice_get-get_or new_mutator.registers i Nil lt in
    let same : v ≡ get_or new_mutator.registers i Nil = cc in
    (lt, same ∙ get_or-replicate REGISTERS i Nil Nil lt)

-- the words of new mutators represent the roots of a new world
pub new_roots : (places : List Place) (count : ℕ) →
    RepresentsRoots places (new_world count) (registers_of (replicate count new_end)) (queues_of (replicate count new_end))
    (serials_of (replicate count new_end))
new_roots places count =
    let many = length-replicate count new_mutator in
    let ends = length-replicate count new_end in
    let queues = length-map (replicate count new_end) (λ (m : MutatorEnd). m.queue) in
    let serials = length-map (replicate count new_end) (λ (m : MutatorEnd). m.serial) in
    record {
      count = so_many count ∙ ap (λ (n : ℕ). REGISTERS * n) (sym many);
      mutators = (queues ∙ ends ∙ sym many, serials ∙ ends ∙ sym many);
      held = λ m lt i v e.
          let known = each_new (λ (s : MutatorState). (j : ℕ) (u : Value) → slice_get s.registers j ≡ Some u → (j < REGISTERS) ×
          (u ≡ Nil)) nil_register (λ j u none. absurd cc) count m i v e in
          let long = so_many count in
          let at = known.0 in
          let within : REGISTERS * m + i < length (registers_of (replicate count new_end)) = omega arith in
          rw known.1 (All-get_or (λ (w : ℕ). w ≡ NIL_WORD) (registers_of (replicate count new_end)) (REGISTERS * m + i) 0 within (all_nil count));
      queued = λ m own e. rw (same_item (λ (n : MutatorEnd).
          n.queue) new_end count m own e) at (each_new (λ (s : MutatorState). ListMeans (Contains places) [] s.queue) tt tt count m);
      next = λ m serial e. sym (same_item (λ (n : MutatorEnd). n.serial) new_end count m serial e) ∙
          each_new (λ (s : MutatorState). 0 ≡ length s.nodes) refl refl count m;
    }
