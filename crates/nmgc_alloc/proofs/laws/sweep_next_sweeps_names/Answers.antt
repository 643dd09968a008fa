use Rattle.nmgc_alloc.specs.laws.Sweeping.{swept_stands, none_to_sweep}
use Rattle.nmgc_alloc.proofs.laws.sweep_next_sweeps_names.Goals as goal

pub returns : goal.returns
returns c = record { none = none_to_sweep; some = swept_stands }
