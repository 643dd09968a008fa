use Rattle.std.proofs.Common.{ℕ, List, ap, subst, length, arith}
use Rattle.nmgc_stop_spec.specs.{Strong.HasStrong, Strong.IsAmong, laws.Ranges.strong_read, laws.Ranges.strong_has}
use Rattle.nmgc_minor.specs.Young.{Notes}
use Rattle.nmgc_minor.proofs.NoteLaws.{notes_as}
use Rattle.nmgc_minor.proofs.young.Young.note_fields.Goals as goal

pub note_range-requires-clause-within : goal.note_range-requires-clause-within
note_range-requires-clause-within g c = rw (c.strong_fields-from.ensures.same) (λ word h.
    c.requires.can.within word (strong_read (g.W.HeapWords.words c.args.words.now) c.args.at.0 c.strong_fields-from.result.0
    c.strong_fields-from.result.1 word c.strong_fields-from.ensures.range h))

pub note_range-requires-clause-inside : goal.note_range-requires-clause-inside
note_range-requires-clause-inside g c =
    let size = ap length c.strong_fields-from.ensures.same in
    let inside = c.strong_fields-from.ensures.range.inside in
    omega (arith, size, inside)

pub returns-clause-notes : goal.returns-clause-notes
returns-clause-notes g c =
    let words = g.W.HeapWords.words c.args.words.now in
    let notes = subst (λ (ws : List ℕ).
    Notes c.args.self.now c.note_range.new.self (IsAmong ws c.strong_fields-from.result.0 c.strong_fields-from.result.1))
    c.strong_fields-from.ensures.same c.note_range.ensures.notes in
    notes_as c.args.self.now c.note_range.new.self (IsAmong words c.strong_fields-from.result.0 c.strong_fields-from.result.1)
    (HasStrong words c.args.at.0) notes
    (λ w h. strong_read words c.args.at.0 c.strong_fields-from.result.0 c.strong_fields-from.result.1 w c.strong_fields-from.ensures.range h)
    (λ w h. strong_has c.words_differ.ensures.headers words c.args.at.0 c.strong_fields-from.result.0 c.strong_fields-from.result.1 w
    c.strong_fields-from.ensures.range h)
