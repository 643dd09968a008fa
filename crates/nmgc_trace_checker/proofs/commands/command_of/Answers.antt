use Rattle.nmgc_trace_checker.proofs.{Vocabulary.◌∙◌, Vocabulary.sym, Vocabulary.arith, Vocabulary.false≢true, CommandLaws.command_is, CommandLaws.feed_within, CommandLaws.no_feed_within, CommandLaws.too_long}
use Rattle.nmgc_trace_checker.proofs.commands.command_of.Goals as goal

pub returns-then-has_feed : goal.returns-then-has_feed
returns-then-has_feed c = feed_within c.args.line.now (c.has_feed.ensures.0 c.if-has_feed.true)

pub returns-then-len-gt-LONGEST : goal.returns-then-len-gt-LONGEST
returns-then-len-gt-LONGEST c = too_long c.args.line.now c.in_ok-text.text.items c.in_ok-text.ensures (let all = c.in_ok-text.text.ok in
    omega (arith, c.len.ensures, c.if-len-gt-LONGEST.true))

pub returns : goal.returns
returns c =
    command_is c.args.line.now c.as_slice.result.now c.parse.result c.command_in.result
    (no_feed_within c.args.line.now (λ has. false≢true (sym c.if-has_feed.false ∙ c.has_feed.ensures.1 has)))
    (c.as_slice.ensures.value ∙ c.in_ok-text.ensures) (c.parse.ensures.found, c.parse.ensures.only) c.command_in.ensures
