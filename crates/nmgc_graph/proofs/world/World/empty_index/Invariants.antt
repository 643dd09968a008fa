use Rattle.nmgc_graph.proofs.Vocabulary.{◌≡◌, ◌<◌, ℕ, [], length, replicate, count_of, bounds_of}
use Rattle.nmgc_graph.proofs.world.World.empty_index.Given as goal

abbrev pub invariant-loop-maker : goal.invariant-loop-maker
invariant-loop-maker l =
    (length l.waiting.bounds ≡ l.maker) × (l.waiting.before ≡ []) × ((k : ℕ) → k < l.maker → bounds_of l.waiting.bounds k ≡ replicate (count_of l.self k) 0)
