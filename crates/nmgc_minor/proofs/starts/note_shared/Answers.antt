use Rattle.std.proofs.Common.{ℕ, ◌≡◌, ◌+◌, ◌-◌, ◌<◌, slice_index, ap, subst, ◌∙◌, arith}
use Rattle.nmgc_limits.specs.declared.mutators.TheConstants.{SHARED_SLOTS}
use Rattle.nmgc_minor.specs.Young.{IsWithin}
use Rattle.nmgc_stop_spec.specs.Strong.{IsAmong}
use Rattle.nmgc_minor.proofs.NoteLaws.{notes_as}
use Rattle.nmgc_minor.proofs.starts.note_shared.Goals as goal

pub note_range-requires-clause-within : goal.note_range-requires-clause-within
note_range-requires-clause-within g c =
    let words = g.W.HeapWords.words c.args.words.now in
    let n = c.from.ensures in
    λ word i.
    let e : 3 + (i.0 - 3) ≡ i.0 = omega (arith, i.1) in
    let f : slice_index words (3 + (i.0 - 3)) ≡ word = ap (λ (k : ℕ). slice_index words k) e ∙ i.3 in
    subst (λ (x : ℕ). IsWithin c.args.young.now x) f (c.requires.within (i.0 - 3) (omega (arith, i.1, i.2, n)))

pub returns-clause-notes : goal.returns-clause-notes
returns-clause-notes g c =
    let words = g.W.HeapWords.words c.args.words.now in
    let n = c.from.ensures in
    notes_as c.args.young.now c.note_range.new.self (IsAmong words 3 (3 + c.from.result)) (λ w. (i : ℕ) × (i < SHARED_SLOTS) ×
    (slice_index words (3 + i) ≡ w)) c.note_range.ensures.notes
    (λ w i.
    let e : 3 + (i.0 - 3) ≡ i.0 = omega (arith, i.1) in
    (i.0 - 3, omega (arith, i.1, i.2, n), ap (λ (k : ℕ). slice_index words k) e ∙ i.3))
    (λ w h. (3 + h.0, omega arith, omega (arith, n, h.1), h.2))
