use Rattle.nmgc_script.proofs.BenchLaws.{cells_are, with_batch}
use Rattle.nmgc_script.proofs.bench.push_batch.Goals as goal

pub returns : goal.returns
returns c = with_batch c.args.commands.now.items c.push.new.self.items c.push_cells.new.commands.items c.push-2.new.self.items c.args.mutator 1024
    cells_are c.in_ok-push.ensures.items c.in_ok-push_cells.ensures c.in_ok-push-2.ensures.items
