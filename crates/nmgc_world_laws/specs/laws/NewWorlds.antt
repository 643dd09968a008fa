-- A world before any command.
use Rattle.std.specs.Prelude.{◌≡◌, ◌<◌, ◌≤◌, ◌^◌}
use Rattle.nmgc_world_laws.specs.laws.Vocabulary.{ℕ, length, refl, sym, subst, arith, inl, inr, IfSome, All, replicate, slice_get, cases_lt, eqb_tells, get_or_past, length-replicate, All-nil, All-replicate, All-get_or, MAKERS, REGISTERS, SHARED_MAKER, SHARED_SLOTS, Name, Nil, Node, Arr, MutatorState, World, IsWorld, IsNodeOf, IsKnown, state_of, node_of, new_world, new_mutator, no_mutator, shared_name, same_name}

-- a property of a new mutator and of an absent one is a property of each state of a new world
pub each_new : (R : MutatorState → Type 0) → R new_mutator → R no_mutator → (count k : ℕ) → R (state_of (new_world count) k)
each_new R new none count k = elim (cases_lt k (length (replicate count new_mutator))) [
  | inl lt ↦ All-get_or R (replicate count new_mutator) k no_mutator lt (All-replicate R count new_mutator new)
  | inr le ↦ subst R (sym (get_or_past (replicate count new_mutator) k no_mutator le)) none
]

-- g is the only node of a new world
pub new_nodes : (F : Name → Node → Type 0) → F shared_name (Arr (replicate SHARED_SLOTS Nil)) → (count : ℕ) (name : Name) →
    IfSome (node_of (new_world count) name) (F name)
new_nodes F g count name = elim (eqb_tells name.maker SHARED_MAKER) [
  | inl p ↦ elim (eqb_tells name.serial 0) [
    | inl z ↦ rw (p.0, z.0) (subst (λ (n : Name). F n (Arr (replicate SHARED_SLOTS Nil))) (sym (same_name name shared_name p.1 z.1)) g)
    | inr z ↦ rw (p.0, z.0) tt
  ]
  | inr p ↦ rw p.0 (each_new (λ (s : MutatorState). IfSome (slice_get s.nodes name.serial) (F name)) tt tt count name.maker)
]

-- the new state is a world
pub new_is_world : (mutators : ℕ) → 1 ≤ mutators → mutators ≤ MAKERS → IsWorld (new_world mutators)
new_is_world count some few =
    let w : World = new_world count in
    let many : length w.mutators ≡ count = length-replicate count new_mutator in
    record {
      some = omega (arith, many);
      few = rw many few;
      registers = λ m lt. All-get_or (λ (s : MutatorState). length s.registers ≡
          REGISTERS) w.mutators m no_mutator lt (All-replicate (λ (s : MutatorState). length s.registers ≡ REGISTERS) count new_mutator refl);
      serials = each_new (λ (s : MutatorState). length s.nodes < 2 ^ 32) (omega arith) (omega arith) count;
      shared = refl;
      known_registers = each_new (λ (s : MutatorState). All (IsKnown w) s.registers) (All-replicate (IsKnown w) REGISTERS Nil tt) (All-nil (IsKnown w)) count;
      known_queue = each_new (λ (s : MutatorState). All (IsKnown w) s.queue) (All-nil (IsKnown w)) (All-nil (IsKnown w)) count;
      nodes = new_nodes (λ name node. IsNodeOf w node) (record { known = All-replicate (IsKnown w) SHARED_SLOTS Nil tt; sized = tt }) count;
    }
