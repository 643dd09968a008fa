use Rattle.nmgc_graph.proofs.Vocabulary.{◌≡◌, ◌<◌, ℕ, length, replicate, false, row_of, count_of}
use Rattle.nmgc_graph.proofs.world.World.empty_set.Given as goal

abbrev pub invariant-loop-maker : goal.invariant-loop-maker
invariant-loop-maker l = (length l.marks ≡ l.maker) × ((k : ℕ) → k < l.maker → row_of l.marks k ≡ replicate (count_of l.self k) false)
