use Rattle.std.proofs.Common.{sym, ◌∙◌}
use Rattle.std.proofs.lemmas.Bool.{false≢true}
use Rattle.nmgc_live.proofs.Judging.{round_full}
use Rattle.nmgc_live.proofs.session.judge_round.Goals as goal

pub returns-else-has_room_all : goal.returns-else-has_room_all
returns-else-has_room_all c = round_full c.args.session.now (λ all. false≢true (sym c.if-has_room_all.false ∙ c.has_room_all.ensures.1 all))
