-- Lemmas that crates above need too.
use Rattle.std.specs.Prelude.{◌≡◌}
use Rattle.nmgc_graph.specs.laws.Vocabulary.{ap, Option, Some, None, option_and_then, Parts, Node, Con, Var, Arr, Thunk, Weak, Stack, Name, World, node_of, IsAlive, parts_in, parts_of}

-- a weak pointer that has parts is alive
pub parts_alive : (o : Option Node) (parts : Parts) → option_and_then parts_in o ≡ Some parts → o ≡ Some (Weak (Some parts))
parts_alive None parts e = absurd cc
parts_alive (Some (Con tag values)) parts e = absurd cc
parts_alive (Some (Var v)) parts e = absurd cc
parts_alive (Some (Arr values)) parts e = absurd cc
parts_alive (Some (Thunk free result)) parts e = absurd cc
parts_alive (Some (Stack size values)) parts e = absurd cc
parts_alive (Some (Weak found)) parts e = ap (λ (p : Option Parts). Some (Weak p)) e

pub alive_from_parts : (w : World) (weak : Name) (parts : Parts) → parts_of w weak ≡ Some parts → IsAlive w weak parts
alive_from_parts w weak parts e = parts_alive (node_of w weak) parts e

pub parts_from_alive : (w : World) (weak : Name) (parts : Parts) → IsAlive w weak parts → parts_of w weak ≡ Some parts
parts_from_alive w weak parts e = ap (λ (o : Option Node). option_and_then parts_in o) e
