use Rattle.nmgc_journal.proofs.{Vocabulary.ℕ, Vocabulary.◌∙◌, Vocabulary.List, Vocabulary.ap, Vocabulary.slice_index, Vocabulary.slots_items, Read.read_at}
use Rattle.nmgc_journal.proofs.final_words.FullTable.word.Goals as goal

pub returns : goal.returns
returns c =
    read_at (slots_items c.self.inside.closed.words) c.args.at c.word.result c.word.ensures ∙ ap (λ (words : List ℕ). slice_index words c.args.at) c.self.view_is
