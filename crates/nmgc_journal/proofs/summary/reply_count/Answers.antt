use Rattle.nmgc_journal.proofs.Vocabulary.{rules, List, length, YieldsList-from_slice, YieldsList-from_map, sum_by_from_yields_List, Reply}
use Rattle.nmgc_journal.proofs.summary.reply_count.Goals as goal

pub returns : goal.returns
returns c = sum_by_from_yields_List (λ (own : List Reply).
    length own) c.args.rows.now.replies c.map.result c.sum.result c.sum.ensures.ran (YieldsList-from_map _ (λ (own : List Reply).
    length own) (YieldsList-from_slice c.args.rows.now.replies cc) c.map.ensures.closure (λ x r q k. search rules))
