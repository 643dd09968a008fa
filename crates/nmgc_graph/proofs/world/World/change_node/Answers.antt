use Rattle.nmgc_graph.proofs.Lent.{g_keeps, lent_within, nth_keeps, nth_replies, nth_answers}
use Rattle.nmgc_graph.proofs.world.World.change_node.Goals as goal

pub invariant_of-self : goal.invariant_of-self
invariant_of-self c =
    g_keeps (record {
      shared = c.self.inside.shared;
      mutators =
          c.self.inside.mutators;
    }) c.self.invariant c.args.name c.args.change (rw (← c.self.view_is) at c.requires.there)
    (rw (← c.self.view_is) at c.requires.known) c.if-name-eq-SHARED_MAKER.true c.change_in_place.new.node c.change_in_place.result
    c.change_in_place.ensures.ok c.change_in_place.ensures.err

pub change_nth-requires : goal.change_nth-requires
change_nth-requires c =
    lent_within (record {
      shared = c.self.inside.shared;
      mutators =
          c.self.inside.mutators;
    }) c.self.invariant c.args.name c.args.change (rw (← c.self.view_is) at c.requires.there)
    (rw (← c.self.view_is) at c.requires.known) c.if-name-eq-SHARED_MAKER.false c.items_mut.result.now c.items_mut.ensures.value
    c.index-items_mut-name.result c.index-items_mut-name.result

pub invariant_of-self-2 : goal.invariant_of-self-2
invariant_of-self-2 c =
    nth_keeps (record {
      shared = c.self.inside.shared;
      mutators =
          c.self.inside.mutators;
    }) c.self.invariant c.args.name c.args.change (rw (← c.self.view_is) at c.requires.there)
    (rw (← c.self.view_is) at c.requires.known) c.if-name-eq-SHARED_MAKER.false c.items_mut.result.now c.items_mut.ensures.value _ _
    c.change_nth.result c.change_nth.ensures.state c.change_nth.ensures.reply c.change_nth.ensures.err

pub returns-clause-reply : goal.returns-clause-reply
returns-clause-reply c =
    nth_replies (record {
      shared = c.self.inside.shared;
      mutators =
          c.self.inside.mutators;
    }) c.self.invariant c.args.name c.args.change (rw (← c.self.view_is) at c.requires.there)
    (rw (← c.self.view_is) at c.requires.known) c.if-name-eq-SHARED_MAKER.false c.items_mut.result.now c.items_mut.ensures.value _ _
    c.change_nth.result c.change_nth.ensures.state c.change_nth.ensures.reply c.change_nth.ensures.err

pub returns-clause-ok : goal.returns-clause-ok
returns-clause-ok c =
    rw (← c.self.view_is) (nth_answers (record {
      shared = c.self.inside.shared;
      mutators = c.self.inside.mutators;
    }) c.self.invariant c.args.name c.args.change (rw (← c.self.view_is) at c.requires.there)
    (rw (← c.self.view_is) at c.requires.known) c.if-name-eq-SHARED_MAKER.false c.items_mut.result.now c.items_mut.ensures.value _ _
    c.change_nth.result c.change_nth.ensures.state c.change_nth.ensures.reply c.change_nth.ensures.err)
