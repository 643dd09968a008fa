use Rattle.std.proofs.Common.{sym, subst, inl}
use Rattle.std.specs.Prelude.{map, string_bytes}
use Rattle.nmgc_arguments.specs.Output.{ArePassed}
use Rattle.nmgc_cli.proofs.entry.program.Goals as goal

pub returns : goal.returns
returns g c = inl (record {
  arguments = map string_bytes c.deref.result.now;
  answer = c.nmgc.ensures.reported.0;
  status = c.nmgc.result.status;
  report = c.nmgc.result.report;
  passed = subst (λ l. ArePassed (g.L.CommandLine.arguments c.args.line.now) (map string_bytes l)) (sym c.deref.ensures.value) c.in-Ok.ensures;
  reported = c.nmgc.ensures.reported.1;
  unread = c.nmgc.ensures.unread;
  ended = c.nmgc.ensures.reported.2;
  exit = c.number-2.ensures;
})
