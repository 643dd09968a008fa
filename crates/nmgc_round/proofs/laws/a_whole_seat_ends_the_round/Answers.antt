use Rattle.nmgc_round.proofs.Parts.{ends_law, closes}
use Rattle.nmgc_round.proofs.laws.a_whole_seat_ends_the_round.Goals as goal

pub returns : goal.returns
returns c o words views id v h here all = (ends_law o words views h id v here all, closes o words views h id v here all)
