use Rattle.nmgc_cycle.proofs.Vocabulary.{◌≡◌, List, ap, sym, ◌∙◌, Some, slice_get, length-map, get_or_from_slice_get, slice_get-map, Mutator, FinQueue, no_queue, queues_in}
use Rattle.std.specs.Option.{option_map}
use Rattle.nmgc_cycle.proofs.weaks.queue_all.Goals as goal

abbrev own : Mutator → FinQueue
own m = m.queue

pub returns : goal.returns
returns c =
    let old : List Mutator = c.args.mutators.now in
    let new : List Mutator = c.queue_finalisers.new.mutators in
    let joined = c.queue_finalisers.ensures in
    record {
      queues = queues_in new;
      joined = joined.joined;
      have = record {
        count = sym (length-map new own) ∙ joined.joined.0 ∙ length-map old own;
        each = λ k m e.
            let now = joined.rest k m e in
            let there : slice_get (queues_in new) k ≡ Some now.0 = slice_get-map own new k ∙ ap (option_map own) now.1 in
            now.1 ∙ ap (λ (q : FinQueue). Some (record m { queue = q })) (sym (get_or_from_slice_get (queues_in new) k now.0 no_queue there));
      };
    }
