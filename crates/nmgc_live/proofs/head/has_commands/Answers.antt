use Rattle.std.proofs.Common.{◌≡◌, ◌∙◌, List, [], length, get_or, sym, subst, ap, arith}
use Rattle.std.specs.Prelude.{All}
use Rattle.std.proofs.lemmas.List.{nil_from_length, take_all, Elements.All-more}
use Rattle.nmgc_world_spec.specs.declared.command.Command.{Command}
use Rattle.nmgc_live.proofs.head.has_commands.Goals as goal

abbrev IsEmpty : List Command → Type 0
IsEmpty program = program ≡ []

pub loop-program-preserved : goal.loop-program-preserved
loop-program-preserved c =
    let i = c.loop-program.program-index in
    let same : c.items-program-items.result.now ≡ c.args.script.now.threads = c.items-program-items.ensures in
    let long = ap (λ (l : List (List Command)). length l) same in
    let empty : c.items.result.now ≡ [] = nil_from_length c.items.result.now (grind (arith, c.if-not-is_empty.ensures)) in
    All-more IsEmpty c.args.script.now.threads i c.program-item.result (omega (arith, long, c.loop-program-test.true)) c.loop-program.invariant
    (subst (λ (l : List (List Command)). get_or l i c.program-item.result ≡ []) same (sym c.program-item.is ∙ sym c.items.ensures ∙ empty))

pub returns-clause-none : goal.returns-clause-none
returns-clause-none c = λ e.
    let long = ap (λ (l : List (List Command)). length l) c.items-program-items.ensures in
    subst (All IsEmpty) (take_all c.loop-program.program-index c.args.script.now.threads (omega (arith, long, c.loop-program-test.false)))
    c.loop-program.invariant
