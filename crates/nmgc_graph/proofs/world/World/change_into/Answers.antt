use Rattle.nmgc_graph.proofs.Vocabulary.{asked, asked_keeps}
use Rattle.nmgc_graph.proofs.world.World.change_into.Goals as goal

pub keep_reply-requires-clause-mutator : goal.keep_reply-requires-clause-mutator
keep_reply-requires-clause-mutator c =
    asked_keeps c.args.self.now c.change.new.self c.in_ok-reply.reply (asked c.args.self.now c.args.mutator c.args.command.now) c.args.mutator
    c.in_ok-reply.ensures.ok c.requires.mutator
