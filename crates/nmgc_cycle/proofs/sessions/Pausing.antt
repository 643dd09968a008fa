-- A step of the loop that lets each queue give a pause.
use Rattle.nmgc_cycle.proofs.Vocabulary.{◌≡◌, ℕ, ◌+◌, ◌<◌, List, ◌++◌, length, map, take, drop, set, get_or, arith, get_or_default, map_over_more, CommandQueue}
use Rattle.nmgc_cycle.specs.Sessions.{with_pause}

pub paused_more : (was now : List CommandQueue) (i : ℕ) (d : CommandQueue) → i < length was → length now ≡ length was →
    now ≡ map with_pause (take i was) ++ drop i was → set now i (with_pause (get_or now i d)) ≡ map with_pause (take (i + 1) was) ++ drop (i + 1) was
paused_more was now i d lt count f =
    let m = get_or now i d in
    map_over_more with_pause was now i m lt f (get_or_default now i d m (omega (arith, lt, count)))
