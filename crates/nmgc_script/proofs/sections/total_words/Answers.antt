use Rattle.std.proofs.Common.{arith}
use Rattle.nmgc_script.proofs.Totals.{segments_small, nurseries_small}
use Rattle.nmgc_script.proofs.sections.total_words.Goals as goal

pub overflow_add-result : goal.overflow_add-result
overflow_add-result c =
    let config = c.args.config.now in
    omega (arith, segments_small config (omega arith) c.requires, nurseries_small config c.args.threads (omega arith) (omega arith))
