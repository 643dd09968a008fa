use Rattle.nmgc_cycle.proofs.Vocabulary.{length, get_or, ap, arith, Contains-get_or, Move}
use Rattle.nmgc_cycle.proofs.weaks.gather_moved.Goals as goal

-- a default for a missing move
abbrev nothing : Move
nothing = record { name = record { maker = 0; serial = 0 }; from = record { 0 = 0 }; to = record { 0 = 0 } }

pub is_alive-requires : goal.is_alive-requires
is_alive-requires g c =
    let x : Move = get_or c.args.moves.now c.loop-moved.moved-index nothing in
    let inside = c.requires x (Contains-get_or c.args.moves.now c.loop-moved.moved-index nothing c.loop-moved-test.true) in
    let same = ap length c.loop-moved.invariant.words in
    omega (arith, inside, same)
