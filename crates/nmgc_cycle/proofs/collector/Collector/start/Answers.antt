use Rattle.nmgc_cycle.proofs.Vocabulary.{ℕ, ◌≡◌, ◌+◌, false, ap, Collector, StartsMarking}
use Rattle.nmgc_cycle.specs.declared.progress.Progress.TheVariants as progress
use Rattle.nmgc_cycle.proofs.collector.Collector.start.Goals as goal

pub returns : goal.returns
returns c =
    let before : Collector = c.start_marking.new.self in
    let starts : StartsMarking c.args.stop c.args.self.now before c.in_ok-marking.marking = c.in_ok-marking.ensures in
    let begun : before.cycle.begun ≡ c.args.self.now.cycle.begun = ap (λ (x : Collector). x.cycle.begun) starts.rest in
    record {
      marking = c.in_ok-marking.marking;
      marked = before;
      starts = starts;
      is = ap (λ (n : ℕ). record before {
        cycle = record before.cycle {
          progress = progress.Marking c.in_ok-marking.marking;
          begun = n + 1;
          collect = false;
        };
      }) begun;
    }
