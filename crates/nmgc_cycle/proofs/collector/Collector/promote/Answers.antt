use Rattle.nmgc_cycle.proofs.{Vocabulary.sym, Vocabulary.subst, Vocabulary.IsFor, Vocabulary.HaveEntries, Vocabulary.Collector, stops.ListOver.can_join, stops.ListOver.finalised_are_listed, stops.ListOver.listed, stops.ListOver.promoted, stops.ListOver.stopped_then}
use Rattle.nmgc_cycle.proofs.collector.Collector.promote.Goals as goal

pub remove_finalised-requires-clause-reported : goal.remove_finalised-requires-clause-reported
remove_finalised-requires-clause-reported c = let h = c.requires.stopped in finalised_are_listed c.weaks_without_value_leave_the_list.ensures h.0 c.args.self.now h.1 h.2

pub move_promoted-requires-clause-words : goal.move_promoted-requires-clause-words
move_promoted-requires-clause-words c = c.remove_finalised.ensures.words.1

pub move_promoted-requires-clause-lists : goal.move_promoted-requires-clause-lists
move_promoted-requires-clause-lists c = subst (λ (x : Collector). IsFor x.heap.segments.layout x.heap.promotion) (sym c.remove_finalised.ensures.rest) c.requires.lists

pub move_promoted-requires-clause-entries : goal.move_promoted-requires-clause-entries
move_promoted-requires-clause-entries c = subst (λ (x : Collector). HaveEntries x.heap.segments.layout x.heap.names) (sym c.remove_finalised.ensures.rest)
    c.requires.entries

pub move_promoted-requires-clause-stopped : goal.move_promoted-requires-clause-stopped
move_promoted-requires-clause-stopped c = let h = c.requires.stopped in (h.0, stopped_then c.args.self.now c.remove_finalised.new.self c.remove_finalised.ensures h.0 h.1)

pub add_moved-requires-clause-words : goal.add_moved-requires-clause-words
add_moved-requires-clause-words c = c.move_promoted.ensures.promoted.has_words

pub add_moved-requires-clause-can : goal.add_moved-requires-clause-can
add_moved-requires-clause-can c =
    let h = c.requires.stopped in
    let m = c.move_promoted.ensures in
    can_join c.weaks_without_value_leave_the_list.ensures c.moved_join_the_list.ensures.joining c.moved_join_the_list.ensures.new c.args.self.now c.remove_finalised.new.self
    c.move_promoted.new.self c.move_promoted.new.self c.remove_finalised.ensures m.promoted m.weaks h.0 h.1 h.2 m.few

pub returns-clause-promoted : goal.returns-clause-promoted
returns-clause-promoted c =
    let m = c.move_promoted.ensures in
    promoted c.weaks_without_value_leave_the_list.ensures c.moved_join_the_list.ensures.joining c.moved_join_the_list.ensures.new c.args.self.now c.remove_finalised.new.self
    c.move_promoted.new.self c.add_moved.new.self c.remove_finalised.ensures m.promoted m.weaks c.in_ok-add_moved.ensures

pub returns-clause-listed : goal.returns-clause-listed
returns-clause-listed c =
    let m = c.move_promoted.ensures in
    listed c.weaks_without_value_leave_the_list.ensures c.moved_join_the_list.ensures.joining c.moved_join_the_list.ensures.new c.args.self.now c.remove_finalised.new.self
    c.move_promoted.new.self c.add_moved.new.self c.remove_finalised.ensures m.promoted m.weaks c.in_ok-add_moved.ensures
