use Rattle.std.proofs.Common.{ℕ, List, ◌≡◌, ◌+◌, ◌-◌, ◌*◌, ◌<◌, slice_index, length, inl, inr, refl, sym, ap, subst, ◌∙◌, arith}
use Rattle.nmgc_minor.specs.{Found.IsAliveAt, Young.Notes, Young.IsWithin, Start.IsWeakStart}
use Rattle.nmgc_stop_spec.specs.Strong.{IsAmong}
use Rattle.nmgc_minor.proofs.{NoteLaws.notes_then, StartLaws.within_after}
use Rattle.nmgc_minor.proofs.starts.note_weak.Goals as goal

pub note-requires-clause-within : goal.note-requires-clause-within
note-requires-clause-within g c =
    let alive : IsAliveAt (g.W.HeapWords.words c.args.words.now) c.args.at.0 = λ z. c.if-load-ne0.true (c.load.ensures.word ∙ z) in
    subst (λ (x : ℕ). IsWithin c.args.young.now x) (sym c.of_place.ensures) (c.requires.within (2 * c.args.at.0) (alive, inl refl))

pub note_range-requires-clause-inside : goal.note_range-requires-clause-inside
note_range-requires-clause-inside g c =
    let size = ap length c.load.ensures.same in
    let inside = c.requires.inside in
    omega (arith, size, inside)

-- a word of the three from the first field on is a part
part : (words : List ℕ) (at word : ℕ) → IsAmong words (at + 2) (at + 2 + 3) word → (i : ℕ) × (i < 3) × (slice_index words (at + 2 + i) ≡ word)
part words at word i =
    let e : at + 2 + (i.0 - (at + 2)) ≡ i.0 = omega (arith, i.1) in
    (i.0 - (at + 2), omega (arith, i.1, i.2), ap (λ (n : ℕ). slice_index words n) e ∙ i.3)

pub note_range-requires-clause-within : goal.note_range-requires-clause-within
note_range-requires-clause-within g c =
    let words = g.W.HeapWords.words c.args.words.now in
    let alive : IsAliveAt (g.W.HeapWords.words c.args.words.now) c.args.at.0 = λ z. c.if-load-ne0.true (c.load.ensures.word ∙ z) in
    rw (c.load.ensures.same) (λ word h. within_after c.args.young.now c.note.new.self (λ w. w ≡
    c.of_place.result.0) c.note.ensures word (c.requires.within word (alive, inr (part words c.args.at.0 word h))))

pub returns-then-load-ne0-clause-notes : goal.returns-then-load-ne0-clause-notes
returns-then-load-ne0-clause-notes g c =
    let words = g.W.HeapWords.words c.args.words.now in
    let alive : IsAliveAt (g.W.HeapWords.words c.args.words.now) c.args.at.0 = λ z. c.if-load-ne0.true (c.load.ensures.word ∙ z) in
    let same = sym c.of_place.ensures in
    let notes = subst (λ (ws : List ℕ).
    Notes c.note.new.self c.note_range.new.self (IsAmong ws (c.args.at.0 + 2) (c.args.at.0 + 2 + 3))) c.load.ensures.same c.note_range.ensures.notes in
    notes_then c.args.young.now c.note.new.self c.note_range.new.self (λ w. w ≡
    c.of_place.result.0) (IsAmong words (c.args.at.0 + 2) (c.args.at.0 + 2 + 3)) (IsWeakStart words c.args.at) c.note.ensures notes
    (λ w e. (alive, inl (same ∙ sym e)))
    (λ w h. (alive, inr (part words c.args.at.0 w h)))
    (λ w h. elim h.1 [
      | inl e ↦ inl (sym e ∙ same)
      | inr p ↦ inr (c.args.at.0 + 2 + p.0, omega arith, omega (arith, p.1), p.2)
    ])
