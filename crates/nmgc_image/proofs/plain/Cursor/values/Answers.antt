use Rattle.std.proofs.Common.{sym, ◌∙◌}
use Rattle.nmgc_image.proofs.plain.Cursor.values.Goals as goal

pub returns-in-Ok-clause-text : goal.returns-in-Ok-clause-text
returns-in-Ok-clause-text c = sym c.new-cursor.ensures ∙ c.in-Ok.ensures.text
