use Rattle.nmgc_cycle.proofs.{Vocabulary.sym, Vocabulary.◌∙◌, rounds.AskedParts.can_front, rounds.AskedParts.can_back, rounds.AskedParts.asked_both}
use Rattle.nmgc_cycle.proofs.asking.+ask_in_turn.Goals as goal

pub ask_in_turn-requires-after_bounds : goal.ask_in_turn-requires-after_bounds
ask_in_turn-requires-after_bounds g t c κs within =
    let f = c.split_at_mut-front in
    let s = c.split_at_mut-first in
    can_front g.P.Program.words g.P.Program.most g.P.Program.valid c.args.inputs.now.round.now c.args.inputs.now.config.now.slice c.args.workers.now f.result.0.now f.result.1.now
    c.args.programs.now s.result.0.now s.result.1.now f.ensures.value s.ensures.value (f.ensures.front_len ∙ sym s.ensures.front_len) c.requires

pub ask_in_turn-requires-2-after_bounds : goal.ask_in_turn-requires-2-after_bounds
ask_in_turn-requires-2-after_bounds g t c κs within =
    let f = c.split_at_mut-front in
    let s = c.split_at_mut-first in
    can_back g.P.Program.words g.P.Program.most g.P.Program.valid c.args.inputs.now.round.now c.args.inputs.now.config.now.slice c.args.workers.now f.result.0.now f.result.1.now
    c.args.programs.now s.result.0.now s.result.1.now f.ensures.value s.ensures.value (f.ensures.front_len ∙ sym s.ensures.front_len) c.requires

pub returns : goal.returns
returns g t c =
    let f = c.split_at_mut-front in
    let s = c.split_at_mut-first in
    asked_both g.P.Program.next g.P.Program.steps g.P.Program.words g.P.Program.most g.P.Program.valid c.args.inputs.now.round.now c.args.inputs.now.config.now.slice c.args.workers.now
    f.result.0.now f.result.1.now c.ask_in_turn.new.workers c.ask_in_turn-2.new.workers c.args.programs.now s.result.0.now s.result.1.now
    c.ask_in_turn.new.programs c.ask_in_turn-2.new.programs f.ensures.value s.ensures.value (f.ensures.front_len ∙ sym s.ensures.front_len)
    c.ask_in_turn.ensures c.ask_in_turn-2.ensures
