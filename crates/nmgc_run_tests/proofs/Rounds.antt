-- A script that can be read fits a run, and a collector that did a round has a line for its first mutator.
use Rattle.std.proofs.Common.{ℕ, ◌≤◌, length, sym, subst}
use Rattle.nmgc_script.specs.{declared.script.Script.Script, Spelling.IsInLimits}
use Rattle.nmgc_run_laws.specs.{Limits.FitsRun, laws.Crowding.in_limits_fit}
use Rattle.nmgc_cycle.specs.{declared.collector.Collector.Collector, Keeps.DidRound}

pub fits_run : (script : Script) → IsInLimits script → FitsRun script
fits_run = in_limits_fit

pub has_line : (script : Script) (old new : Collector) → IsInLimits script → DidRound script old new → 1 ≤ length new.inbox
has_line script old new limits did = subst (λ (n : ℕ). 1 ≤ n) (sym did.0.kept.inbox) limits.fits.some_thread
