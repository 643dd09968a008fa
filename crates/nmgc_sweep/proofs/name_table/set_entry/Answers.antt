use Rattle.nmgc_sweep.proofs.Vocabulary.{◌≡◌, ◌+◌, ◌-◌, length, arith}
use Rattle.nmgc_sweep.proofs.Padded.{padded_set, set_few}
use Rattle.nmgc_sweep.proofs.name_table.set_entry.Goals as goal

pub returns-clause-items : goal.returns-clause-items
returns-clause-items c = λ limit low few.
    let many : c.saturating_sub-missing.result ≡ c.args.entry + 1 - length c.args.entries.now.items =
    omega (arith, c.saturating_sub-missing.ensures, c.len.ensures, c.args.entries.now.ok.0) in
    padded_set limit c.args.entry c.saturating_sub-missing.result c.args.name c.args.entries.now.items c.add_missing.new.entries.items many
    c.add_missing.ensures.items low few

pub returns-clause-few : goal.returns-clause-few
returns-clause-few c = λ limit low few.
    let many : c.saturating_sub-missing.result ≡ c.args.entry + 1 - length c.args.entries.now.items =
    omega (arith, c.saturating_sub-missing.ensures, c.len.ensures, c.args.entries.now.ok.0) in
    set_few limit c.args.entry c.saturating_sub-missing.result c.args.name c.args.entries.now.items c.add_missing.new.entries.items many
    c.add_missing.ensures.items low few
