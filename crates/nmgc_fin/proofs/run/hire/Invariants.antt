use Rattle.nmgc_fin.proofs.Vocabulary.{◌≡◌, ◌-◌, ◌≤◌, [], vec_len, vec_capacity, IsSegPassOf, hand, most_parts, AreWorkers}
use Rattle.nmgc_fin.proofs.run.hire.Given as goal

abbrev pub invariant-loop-number : goal.invariant-loop-number
invariant-loop-number l = record {
  pass : IsSegPassOf l.queue l.pass;
  left : l.pass.me.view.client ≡ hand (most_parts - l._number) l.jobs [];
  crew : AreWorkers l.queue l.jobs l.crew.items;
  count : vec_len l.crew ≡ l._number;
  room : l.workers ≤ vec_capacity l.crew;
}
