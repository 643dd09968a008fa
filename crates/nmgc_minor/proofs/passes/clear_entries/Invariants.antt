use Rattle.nmgc_minor.proofs.Vocabulary.{◌≡◌, ◌+◌, ◌⊎◌, ℕ, slice_index, take, Contains}
use Rattle.nmgc_minor.proofs.passes.clear_entries.Given as goal

-- an entry is unchanged or was freed; the entries of the objects so far are free
abbrev pub invariant-loop-at : goal.invariant-loop-at
invariant-loop-at l = record {
  kept : (k : ℕ) → (slice_index l.table k ≡ slice_index l.initial.table k) ⊎ (slice_index l.table k ≡ 0);
  freed : (k : ℕ) → Contains (take l.at-index l.found) (record { 0 = l.base + k }) → slice_index l.table k ≡ 0;
}
