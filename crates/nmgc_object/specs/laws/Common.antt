-- Lemmas that crates above also need.
use Rattle.std.specs.Prelude.{◌+◌, ◌*◌, ◌<◌, ◌≤◌}
use Rattle.nmgc_object.specs.laws.Vocabulary.{ℕ, arith, mul-le-mul_right, InSegment, nursery_place, Layout}

-- an address in a segment is below the nurseries
pub in_segment_low : (layout : Layout) (segment at : ℕ) → InSegment layout segment at → at < nursery_place layout 0
in_segment_low layout segment at i =
    let up : (segment + 1) * layout.words ≤ layout.segments * layout.words =
    let e : segment + 1 ≤ layout.segments = let x = i.exists in omega (arith, x) in mul-le-mul_right layout.words e in
    let high = i.before in
    omega (arith, high, up)
