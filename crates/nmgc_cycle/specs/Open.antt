-- A stop of a run whose script isn't known yet: its clause is about every script that the run may turn out to have.
use Rattle.std.specs.Prelude.{◌≡◌, ◌↔◌, Bool, IsTrue}
use Rattle.nmgc_script.specs.{declared.script.Config.Config, declared.script.Script.Script}
use Rattle.nmgc_run_laws.specs.Limits.{FitsRun}
use Rattle.nmgc_cycle.specs.{declared.collector.Collector.Collector, Keeps.CanStop, Stopping.SomeIsLeft}

-- a script for which this stop may be done: it fits a run, with this configuration, and `left` says whether commands are left
pub record MayBeScript (config : Config) (left : Bool) (c : Collector) (script : Script) : Type 0 where
  pub limits : FitsRun script
  pub config_is : config ≡ script.config
  pub left_is : IsTrue left ↔ SomeIsLeft script.threads c.positions.items
  pub can : CanStop script c
