use Rattle.std.proofs.Common.{ℕ, ◌≡◌, ◌<◌, All, length}
use Rattle.nmgc_world_spec.specs.World.{Fits}
use Rattle.nmgc_run_tests.specs.declared.of_programs.Repeating.{Repeating}
use Rattle.nmgc_run_tests.proofs.Programs.{IsOf}
use Rattle.nmgc_run_tests.proofs.of_programs.programs_of.Given as goal

-- the ghost members of `Repeating`
abbrev pub repeating_words : Repeating → ℕ
repeating_words p = p.words

abbrev pub repeating_left : Repeating → ℕ
repeating_left p = p.left

abbrev pub repeating_valid : Repeating → Type 0
repeating_valid p = All (Fits p.words) p.commands.now × (p.position < length p.commands.now → 0 < p.left)

abbrev pub invariant-loop-number : goal.invariant-loop-number
invariant-loop-number l = record {
  count : length l.programs.items ≡ l.number;
  are : All (IsOf repeating_words repeating_left repeating_valid l.script l.left) l.programs.items;
}
