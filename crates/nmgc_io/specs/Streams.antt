-- The view that contracts have of a stream behind a source or a sink, and of its count of faults.
use Rattle.std.specs.Prelude.{ℕ, ◌≡◌, ◌≤◌, Result, OnErr, OnOk}
use Rattle.nmgc_io.specs.Text.{next, Rose}

-- the stream, and the number of its failures
pub record Counted (S : Type 0) : Type 0 where
  pub stream : S
  pub faults : ℕ

-- the count of faults doesn't fall, and an error is returned only if this count rose
pub record HasCause {T E : Type 0} (before now : ℕ) (result : Result T E) : Type 0 where
  pub later : before ≤ now
  pub failed : OnErr result (Rose before now)

-- the count of faults rises to the next count for an error, and stays without an error
pub record CountsErr {T E : Type 0} (before now : ℕ) (result : Result T E) : Type 0 where
  pub ok : OnOk result (now ≡ before)
  pub err : OnErr result (now ≡ next before)
