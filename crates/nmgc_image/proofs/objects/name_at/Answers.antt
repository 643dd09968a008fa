use Rattle.std.proofs.Common.{◌+◌, ◌∙◌, sym, slice_index}
use Rattle.nmgc_image.proofs.Words.{name_reads}
use Rattle.nmgc_image.proofs.objects.name_at.Goals as goal

pub returns : goal.returns
returns c = c.name_of.ensures c.requires.name c.requires.valid (c.requires.word ∙ sym c.word.ensures) ∙
    sym (name_reads c.requires.name (slice_index c.args.words.now (c.args.at + 1)) c.requires.valid c.requires.word)
