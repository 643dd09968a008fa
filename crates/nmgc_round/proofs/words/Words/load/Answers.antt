use Rattle.nmgc_round.proofs.{Vocabulary.◌≡◌, Vocabulary.length, Vocabulary.ap, Vocabulary.arith, Vocabulary.words_of, Modes.read_allows}
use Rattle.nmgc_round.proofs.words.Words.load.Goals as goal

pub load-requires : goal.load-requires
load-requires c =
    let i = c.self.invariant in
    let p = c.self.inside.seat in
    let known : length (words_of p) ≡ length c.args.self.now = ap length c.self.view_is in
    let small = c.requires in
    let all = i.3 in
    (i.0, omega arith, read_allows c.self.inside.table.shared.table_id.slots p.id p.me i.1 (words_of p) i.2 c.args.at)
