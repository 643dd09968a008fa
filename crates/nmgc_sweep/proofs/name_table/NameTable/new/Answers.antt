use Rattle.nmgc_sweep.proofs.{Vocabulary.◌≡◌, Vocabulary.◌*◌, Vocabulary.◌/◌, Vocabulary.ℕ, Vocabulary.ap, Vocabulary.length, Vocabulary.arith, Vocabulary.List, Vocabulary.Name, Vocabulary.MIN_BLOCK_WORDS, Listed.entries_enough, Padded.padded_length}
use Rattle.nmgc_sweep.specs.NameTable.{padded}
use Rattle.nmgc_sweep.proofs.name_table.NameTable.new.Goals as goal

pub returns : goal.returns
returns c =
    let limit : ℕ = c.args.layout.segments * (c.args.layout.words / MIN_BLOCK_WORDS) in
    let items = c.in_ok-entries.entries.items in
    let none : length items ≡ 0 = ap (λ (l : List Name). length l) c.in_ok-entries.ensures.items in
    entries_enough c.args.layout.segments c.args.layout.words (length (padded limit items)) c.requires.words (padded_length limit items (omega (arith, none)))
