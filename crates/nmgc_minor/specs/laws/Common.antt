-- Lemmas that crates above also need.
use Rattle.std.proofs.Common.{◌≡◌, List, [], ◌∷◌, map, refl, ap}
use Rattle.nmgc_world_spec.specs.declared.value.Name.{Name}
use Rattle.nmgc_heap_spec.specs.Moves.{Moved}
use Rattle.nmgc_minor.specs.{declared.placing.Move.Move, Placing.moved_of}

-- the names of the moves, in both forms of a move
pub names_twice : (moves : List Move) → map (λ (m : Moved). m.name) (map moved_of moves) ≡ map (λ (m : Move). m.name) moves
names_twice [] = refl
names_twice (m ∷ moves) = ap (λ (names : List Name). m.name ∷ names) (names_twice moves)
