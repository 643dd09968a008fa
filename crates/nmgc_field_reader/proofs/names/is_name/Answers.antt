use Rattle.nmgc_field_reader.proofs.TokenReads.{name_tested}
use Rattle.nmgc_field_reader.proofs.names.is_name.Goals as goal

pub returns : goal.returns
returns c = name_tested c.args.word.now c.has_form.result c.has_form.ensures
