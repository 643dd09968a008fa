use Rattle.std.proofs.Common.{arith, refl}
use Rattle.nmgc_cycle.proofs.starts.Fresh.{is_fresh}
use Rattle.nmgc_cycle.proofs.collector.Collector.with_slices.Goals as goal

pub returns-clause-fresh : goal.returns-clause-fresh
returns-clause-fresh c = is_fresh c.layout_of-layout.result c.args.script.now _ c.layout_of-layout.ensures.value (record {
  lawful = c.layout_of-layout.ensures.lawful;
  nothing = (c.new-5.ensures, c.new-6.ensures, c.new-7.ensures);
  idle = (refl, refl, refl, refl);
  goes_on = refl;
  weakless = c.new-4.ensures.list;
  has_words = refl;
  total = c.in_ok-words.ensures.total;
  opens = c.empty_heap_opens.ensures c.layout_of-layout.result c.in_ok-words.words c.layout_of-layout.ensures.lawful c.in_ok-words.ensures;
  segments = c.in_ok-segments.ensures.value;
  sound = c.in_ok-segments.ensures.sound;
  promotion = c.in_ok-promotion.ensures;
  entries = c.in_ok-names.ensures;
  count = c.in_ok-mutators.ensures.count.0;
  new = c.in_ok-mutators.ensures.new;
  inbox = c.in_ok-mutators.ensures.count.1;
  lines = c.in_ok-mutators.ensures.lines;
  unsent = c.in_ok-mutators.ensures.unsent;
  positions = c.in_ok-positions.ensures.items_if_clones_equal (λ y e. e);
  no_ends = c.in_ok-report.ensures.empty;
  room = c.in_ok-report.ensures.room;
  workers = let room = c.in_ok-workers.ensures in omega arith;
})

pub returns-clause-mutator_turns : goal.returns-clause-mutator_turns
returns-clause-mutator_turns c = λ k m e. (c.in_ok-mutators.ensures.new k m e).turns
