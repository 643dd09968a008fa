-- Each step of a watched cycle and of the marker beside it keeps the two tied, so an end is exact.
use Rattle.nmgc_barrier_laws.specs.{laws.Vocabulary.◌≡◌, laws.Vocabulary.◌<◌, laws.Vocabulary.◌≤◌, laws.Vocabulary.length, laws.Vocabulary.sym, laws.Vocabulary.ap, laws.Vocabulary.subst, laws.Vocabulary.arith, laws.Vocabulary.World, laws.Vocabulary.IsWorld, laws.Vocabulary.closed, laws.Vocabulary.State, laws.Vocabulary.opening, laws.Vocabulary.Cycle, laws.Vocabulary.after_owing, laws.Vocabulary.Beside, laws.Vocabulary.BarrierTheorem, laws.Vocabulary.IsOnItsWay, laws.Vocabulary.JointTheorem, laws.Vocabulary.SomeMarkerIsBeside, laws.Vocabulary.names_in, laws.Vocabulary.after_pushing, laws.Tied.IsTied, laws.Tied.tied_command, laws.TiedPush.tied_push, laws.TiedPush.tied_mark, laws.TiedPush.tied_scan, laws.TiedPush.tied_order, laws.TiedPush.tied_opening, laws.TiedPush.tied_end, laws.TiedPush.tied_dies, laws.TiedPush.tied_took, laws.TiedPush.tied_possible, laws.TiedPush.nothing_owed}
use Rattle.nmgc_barrier_laws.specs.Barrier as barrier

pub beside_tied : (w : World) → IsWorld w → (h : Cycle) (s : State) → Beside w h s → IsTied h s
beside_tied w is h s barrier.start = tied_opening w is
beside_tied w is h s (barrier.command before next t line m c answer b k) = tied_command before next t (beside_tied w is before t b) line m c answer k
beside_tied w is h s (barrier.push before next t m name b k place) = tied_push before next t (beside_tied w is before t b) name k m place
beside_tied w is h s (barrier.take before next t name b k) = tied_took before next t (beside_tied w is before t b) name k
beside_tied w is h s (barrier.mark h' t name b may) = tied_mark h' t name (beside_tied w is h' t b) may
beside_tied w is h s (barrier.scan h' t b) = tied_scan h' t (beside_tied w is h' t b)
beside_tied w is h s (barrier.sort h' t next b k) =
    subst (IsTied h') (sym k.shuffled.rest) (tied_order h' t next (beside_tied w is h' t b) k.shuffled k.owed (λ n there o.
    subst (λ (u : State). IsOnItsWay u n) k.shuffled.rest (k.way n there o)))

pub barrier_theorem : BarrierTheorem
barrier_theorem w is h s b =
    let t = beside_tied w is h s b in
    record { owes = nothing_owed h s t; marks = λ next possible closing. tied_end h s next t possible closing }

pub joint_theorem : JointTheorem
joint_theorem w is h watches none s b done =
    let t = beside_tied w is h s b in
    let possible = tied_possible h s t none done.queue done.pushed in
    record {
      possible = possible;
      marks = λ next closing. tied_end h s next t possible closing;
      dies = λ next closing. tied_dies h s next t possible closing;
      world = λ next closing. subst (λ (v : World). next.world ≡ closed v closing.dead) t.world (ap (λ (u : State). u.world) closing.rest);
    }

-- the marker that takes and reads nothing
pub some_marker : SomeMarkerIsBeside
some_marker w is h barrier.begun = (opening w, barrier.start)
some_marker w is h (barrier.given before next line m c answer h' k) = let p : (s : State) × Beside w before s = some_marker w is before h' in
    (after_owing p.0 m c (names_in next.debts), barrier.command before next p.0 line m c answer p.1 k)
some_marker w is h (barrier.pushed before next name h' k) =
    let p : (s : State) × Beside w before s = some_marker w is before h' in
    let t = beside_tied w is before p.0 p.1 in
    let place : 0 < length p.0.pushed = let a : length p.0.pushed ≡ length p.0.world.mutators = t.facts.base.pushed_lists in
    let b : 1 ≤ length p.0.world.mutators = t.closed.some in omega arith in
    (after_pushing p.0 0 name next.debts, barrier.push before next p.0 0 name p.1 k place)
some_marker w is h (barrier.taken before next name h' k) = let p : (s : State) × Beside w before s = some_marker w is before h' in
    (p.0, barrier.take before next p.0 name p.1 k)
