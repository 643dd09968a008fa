use Rattle.nmgc_cycle.proofs.{Vocabulary.ap, Vocabulary.Config, rounds.Continuing.all_done, rounds.Continuing.all_gave, rounds.Continuing.all_worked, rounds.Continuing.all_counts, Vocabulary.longer_script}
use Rattle.nmgc_cycle.proofs.collector.Collector.run_workers.Goals as goal

pub returns-clause-mutators : goal.returns-clause-mutators
returns-clause-mutators g c =
    let asked = c.ask_beside.ensures.mutators in
    let size = c.requires.mutators.count in
    record {
      count = asked.workers;
      done = (all_done g.P.Program.next g.P.Program.steps g.P.Program.words g.P.Program.most g.P.Program.valid c.args.inputs.now.round.now c.args.inputs.now.config.now.slice
          c.args.workers.now c.ask_beside.new.workers c.args.programs.now c.ask_beside.new.programs size asked).0;
      gave = all_gave g.P.Program.next g.P.Program.steps g.P.Program.words g.P.Program.most g.P.Program.valid c.args.inputs.now.round.now c.args.inputs.now.config.now.slice
          c.args.workers.now c.ask_beside.new.workers c.args.programs.now c.ask_beside.new.programs size asked;
      worked = λ more on. all_worked g.P.Program.next g.P.Program.steps g.P.Program.words g.P.Program.most g.P.Program.valid c.args.inputs.now.round.now
          c.args.inputs.now.config.now.slice c.args.workers.now c.ask_beside.new.workers c.args.programs.now c.ask_beside.new.programs size asked
          (longer_script more c.args.script.now.value) c.args.self.now.positions.items (ap (λ (x : Config). x.slice) c.requires.config) on;
      counts = all_counts g.P.Program.next g.P.Program.steps g.P.Program.words g.P.Program.most g.P.Program.valid c.args.inputs.now.round.now c.args.inputs.now.config.now.slice
          c.args.workers.now c.ask_beside.new.workers c.args.programs.now c.ask_beside.new.programs size asked;
    }
