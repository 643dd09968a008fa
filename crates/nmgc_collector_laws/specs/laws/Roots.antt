-- The roots of mutators, as a run reads them and as a round does.
use Rattle.std.proofs.Common.{ℕ, ◌≡◌, List, [], ◌∷◌, ◌++◌, map, refl, ap}
use Rattle.nmgc_mutator.specs.declared.mutator.Mutator.{Mutator}
use Rattle.nmgc_run_spec.specs.Terms.{registers_of, queues_of, serials_of}
use Rattle.nmgc_collector_laws.specs.{Heaps.seen_mutator, Seen.end_of}
use Rattle.nmgc_collector_laws.specs.Worked as turn

pub same_registers : (ms : List Mutator) → registers_of (map end_of (map seen_mutator ms)) ≡ turn.registers_of ms
same_registers [] = refl
same_registers (m ∷ ms) = ap (λ (l : List ℕ). m.registers ++ l) (same_registers ms)

pub same_queues : (ms : List Mutator) → queues_of (map end_of (map seen_mutator ms)) ≡ turn.queues_of ms
same_queues [] = refl
same_queues (m ∷ ms) = ap (λ (l : List (List ℕ)). m.queue.words ∷ l) (same_queues ms)

pub same_serials : (ms : List Mutator) → serials_of (map end_of (map seen_mutator ms)) ≡ turn.serials_of ms
same_serials [] = refl
same_serials (m ∷ ms) = ap (λ (l : List ℕ). m.serial ∷ l) (same_serials ms)
