-- Scans, one after the other.
use Rattle.nmgc_trace_checker.proofs.Vocabulary.{◌≡◌, ◌+◌, ◌-◌, ◌^◌, ℕ, sym, subst, inl, inr, true, false, add-one, State, IsPossible, Passes, Scans, IsDrain}
use Rattle.nmgc_snapshot_laws.specs.declared.event.Event.TheVariants as event

pub scans_more : (s t u : State) (n : ℕ) → Scans s n t → Passes t event.Scan true u → Scans s (n + 1) u
scans_more s t u n h p = rw add-one (t, h, p)

-- no further scan can happen
pub drained : (s t u : State) (n : ℕ) → Scans s n t → Passes t event.Scan false u → IsDrain s u
drained s t u n h p =
    let S : State → Type 0 = λ v. Scans s n v in
    let N : State → Type 0 = λ v. IsPossible v event.Scan → ⊥ in
    (n, subst S (sym p.1) h, inl (subst N (sym p.1) p.0))

-- all 2^64 - 1 scans were done
pub drained_out : (s t : State) (n : ℕ) → Scans s n t → n ≡ 2 ^ 64 - 1 → IsDrain s t
drained_out s t n h e = (n, h, inr e)
