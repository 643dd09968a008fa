use Rattle.nmgc_minor.proofs.{Vocabulary.◌≡◌, Vocabulary.slice_index, Vocabulary.refl, Vocabulary.sym, Vocabulary.◌∙◌, Vocabulary.get_or_default, NoteLaws.notes_fresh, NoteLaws.notes_again}
use Rattle.nmgc_minor.proofs.young.Young.note_entry.Goals as goal

pub returns-then-index-eq0 : goal.returns-then-index-eq0
returns-then-index-eq0 c =
    let read : slice_index c.args.self.now.table.items c.args.index ≡ c.index.result.now =
    get_or_default c.args.self.now.table.items c.args.index 0 c.index.result.now c.requires.index ∙ sym c.index.ensures in
    notes_fresh c.args.self.now _ c.args.index c.requires.young c.requires.index (read ∙ c.if-index-eq0.true) refl refl c.add.ensures.items c.add.ensures.spare

pub returns-else-index-eq0 : goal.returns-else-index-eq0
returns-else-index-eq0 c =
    let read : slice_index c.args.self.now.table.items c.args.index ≡ c.index.result.now =
    get_or_default c.args.self.now.table.items c.args.index 0 c.index.result.now c.requires.index ∙ sym c.index.ensures in
    notes_again c.args.self.now c.args.index c.requires.young (λ e. c.if-index-eq0.false (sym read ∙ e))
