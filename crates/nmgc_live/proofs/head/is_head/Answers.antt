use Rattle.std.proofs.Common.{◌≡◌}
use Rattle.nmgc_live.specs.Heads.{HasNoCommands}
use Rattle.nmgc_live.proofs.HeadLines.{head_test}
use Rattle.nmgc_live.proofs.head.is_head.Goals as goal

pub returns-then-script-eq3 : goal.returns-then-script-eq3
returns-then-script-eq3 c = head_test c.has_commands.result (c.args.script.now.version ≡ 3) (HasNoCommands c.args.script.now) c.if-script-eq3.true
    c.has_commands.ensures.none c.has_commands.ensures.some
