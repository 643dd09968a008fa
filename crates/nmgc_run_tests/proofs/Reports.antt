-- The report in the answer to a script's bytes.
pub use Rattle.nmgc_cli.specs.laws.Common.{of_bytes}
