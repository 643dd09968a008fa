-- A world with some registers hidden: everything else stays.
use Rattle.std.proofs.Common.{◌≡◌, ℕ, List, [], ◌∷◌, zero, suc, map, length, refl, sym, ap, subst, ◌∙◌, Bool, true, false, Some, None, if◌then◌else◌, ◌==◌}
use Rattle.std.specs.Prelude.{All, Contains, slice_get, slice_index_or}
use Rattle.nmgc_limits.specs.declared.mutators.TheConstants.{SHARED_MAKER}
use Rattle.nmgc_world_spec.specs.{declared.value.Name.Name, declared.value.Value.Value, declared.node.Node.Node, declared.mutator_state.MutatorState.MutatorState, World.World, World.state_of, World.node_of, World.no_mutator, World.serial_of}
use Rattle.nmgc_world_spec.specs.declared.value.Value.TheVariants as value
use Rattle.nmgc_world_laws.specs.Holds.{Names}
use Rattle.nmgc_lists.specs.laws.Items.{map_contains}
use Rattle.nmgc_snapshot_laws.specs.laws.Listed.{all_from_contains}
use Rattle.nmgc_barrier_laws.specs.Hybrid.{veil, hide, hidden}

pub hide_length : (shown : ℕ → Bool) (states : List MutatorState) → length (hide shown states) ≡ length states
hide_length shown [] = refl
hide_length shown (state ∷ states) = ap suc (hide_length (λ k. shown (suc k)) states)

-- a world with all registers shown is the world
hide_none : (states : List MutatorState) → hide (λ k. true) states ≡ states
hide_none [] = refl
hide_none (state ∷ states) = ap (λ (l : List MutatorState). state ∷ l) (hide_none states)

pub hidden_none : (w : World) → hidden (λ k. true) w ≡ w
hidden_none w = ap (λ (l : List MutatorState). record w { mutators = l }) (hide_none w.mutators)

veil_none : (b : Bool) → no_mutator ≡ veil b no_mutator
veil_none true = refl
veil_none false = refl

hide_get : (shown : ℕ → Bool) (states : List MutatorState) (k : ℕ) →
    slice_index_or (hide shown states) k no_mutator ≡ veil (shown k) (slice_index_or states k no_mutator)
hide_get shown [] k = veil_none (shown k)
hide_get shown (state ∷ states) zero = refl
hide_get shown (state ∷ states) (suc k) = hide_get (λ j. shown (suc j)) states k

pub hidden_state : (shown : ℕ → Bool) (w : World) (k : ℕ) → state_of (hidden shown w) k ≡ veil (shown k) (state_of w k)
hidden_state shown w k = hide_get shown w.mutators k

veil_nodes : (b : Bool) (state : MutatorState) → (veil b state).nodes ≡ state.nodes
veil_nodes true state = refl
veil_nodes false state = refl

veil_queue : (b : Bool) (state : MutatorState) → (veil b state).queue ≡ state.queue
veil_queue true state = refl
veil_queue false state = refl

pub hidden_nodes : (shown : ℕ → Bool) (w : World) (k : ℕ) → (state_of (hidden shown w) k).nodes ≡ (state_of w k).nodes
hidden_nodes shown w k = ap (λ (s : MutatorState). s.nodes) (hidden_state shown w k) ∙ veil_nodes (shown k) (state_of w k)

pub hidden_queue : (shown : ℕ → Bool) (w : World) (k : ℕ) → (state_of (hidden shown w) k).queue ≡ (state_of w k).queue
hidden_queue shown w k = ap (λ (s : MutatorState). s.queue) (hidden_state shown w k) ∙ veil_queue (shown k) (state_of w k)

pub hidden_node : (shown : ℕ → Bool) (w : World) (name : Name) → node_of (hidden shown w) name ≡ node_of w name
hidden_node shown w name = ap (λ (nodes : List Node). if name.maker == SHARED_MAKER then (if name.serial == 0 then Some w.shared else None) else
    slice_get nodes name.serial) (hidden_nodes shown w name.maker)

pub hidden_serial : (shown : ℕ → Bool) (w : World) (k : ℕ) → serial_of (hidden shown w) k ≡ serial_of w k
hidden_serial shown w k = ap length (hidden_nodes shown w k)

-- empty registers have any property of names
blank_names : (P : Name → Type 0) (values : List Value) → All (Names P) (map (λ (v : Value). value.Nil) values)
blank_names P values = all_from_contains P (map (λ (v : Value). value.Nil) values) (λ name c.
    let p : (x : Value) × Contains values x × (value.Ref name ≡ value.Nil) = map_contains (λ (v : Value). value.Nil) values (value.Ref name) c in
    let bad : value.Ref name ≡ value.Nil = p.2 in absurd cc)

veil_names : (P : Name → Type 0) (b : Bool) (state : MutatorState) → (b ≡ true → All (Names P) state.registers) → All (Names P) (veil b state).registers
veil_names P true state h = h refl
veil_names P false state h = blank_names P state.registers

-- registers that are shown keep their property
pub hidden_names : (P : Name → Type 0) (shown : ℕ → Bool) (w : World) (k : ℕ) → (shown k ≡ true → All (Names P) (state_of w k).registers) →
    All (Names P) (state_of (hidden shown w) k).registers
hidden_names P shown w k h = subst (λ (s : MutatorState). All (Names P) s.registers) (sym (hidden_state shown w k)) (veil_names P (shown k) (state_of w k) h)

pub shown_names : (P : Name → Type 0) (shown : ℕ → Bool) (w : World) (k : ℕ) → shown k ≡ true → All (Names P) (state_of (hidden shown w) k).registers →
    All (Names P) (state_of w k).registers
shown_names P shown w k is h = subst (λ (b : Bool). All (Names P) (veil b (state_of w k)).registers) is (subst (λ (s : MutatorState).
    All (Names P) s.registers) (hidden_state shown w k) h)
