use Rattle.nmgc_script.proofs.sections.section.Goals as goal

pub total_words-requires : goal.total_words-requires
total_words-requires c = c.requires.words.most
