use Rattle.nmgc_cycle.proofs.{Vocabulary.sym, Vocabulary.◌∙◌, rounds.AskedParts.can_front, rounds.AskedParts.can_back, rounds.AskedParts.asked_both, rounds.AskedParts.all_valid}
use Rattle.nmgc_cycle.proofs.asking.+parts.Goals as goal

pub ask_part-middle_of-middle-requires-after_bounds : goal.ask_part-middle_of-middle-requires-after_bounds
ask_part-middle_of-middle-requires-after_bounds g t c κs within =
    all_valid g.P.Program.words g.P.Program.most g.P.Program.valid c.args.inputs.now.round.now c.args.inputs.now.config.now.slice c.args.workers.now c.args.programs.now c.requires

pub ask_part-ask_both_parts-requires-clause-front : goal.ask_part-ask_both_parts-requires-clause-front
ask_part-ask_both_parts-requires-clause-front g t c κs within =
    let f = c.split_at_mut-front in
    let s = c.split_at_mut-first in
    can_front g.P.Program.words g.P.Program.most g.P.Program.valid c.args.inputs.now.round.now c.args.inputs.now.config.now.slice c.args.workers.now f.result.0.now f.result.1.now
    c.args.programs.now s.result.0.now s.result.1.now f.ensures.value s.ensures.value (f.ensures.front_len ∙ sym s.ensures.front_len) c.requires

pub ask_part-ask_both_parts-requires-clause-back : goal.ask_part-ask_both_parts-requires-clause-back
ask_part-ask_both_parts-requires-clause-back g t c κs within =
    let f = c.split_at_mut-front in
    let s = c.split_at_mut-first in
    can_back g.P.Program.words g.P.Program.most g.P.Program.valid c.args.inputs.now.round.now c.args.inputs.now.config.now.slice c.args.workers.now f.result.0.now f.result.1.now
    c.args.programs.now s.result.0.now s.result.1.now f.ensures.value s.ensures.value (f.ensures.front_len ∙ sym s.ensures.front_len) c.requires

pub ask_part-returns : goal.ask_part-returns
ask_part-returns g t c =
    let f = c.split_at_mut-front in
    let s = c.split_at_mut-first in
    asked_both g.P.Program.next g.P.Program.steps g.P.Program.words g.P.Program.most g.P.Program.valid c.args.inputs.now.round.now c.args.inputs.now.config.now.slice c.args.workers.now
    f.result.0.now f.result.1.now _ _ c.args.programs.now s.result.0.now s.result.1.now _ _ f.ensures.value s.ensures.value
    (f.ensures.front_len ∙ sym s.ensures.front_len) c.ask_both_parts.ensures.front c.ask_both_parts.ensures.back
