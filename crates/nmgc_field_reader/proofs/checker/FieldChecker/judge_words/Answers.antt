use Rattle.std.proofs.Common.{map}
use Rattle.nmgc_field_reader.specs.FieldTraces.{trace_of}
use Rattle.nmgc_field_reader.proofs.CheckerLaws.{tried_event, tried_unknown}
use Rattle.nmgc_field_reader.proofs.checker.FieldChecker.judge_words.Goals as goal

pub returns-in_default : goal.returns-in_default
returns-in_default c =
    tried_unknown c.args.number (map (λ w. w.now) c.args.words.now) (trace_of c.args.self.now) c.in_ok-read.read c.in_ok-read.ensures c.in_default.is

pub returns : goal.returns
returns c =
    tried_event c.args.number (map (λ w. w.now) c.args.words.now) (trace_of c.args.self.now) (trace_of c.take_event.new.self) c.in_ok-read.read
    c.in-Some.event c.in_ok-refused.refused c.in_ok-read.ensures c.in-Some.is c.in_ok-refused.ensures
