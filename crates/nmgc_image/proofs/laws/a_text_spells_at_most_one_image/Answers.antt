use Rattle.nmgc_image.proofs.OneImage.{one_image}
use Rattle.nmgc_image.proofs.laws.a_text_spells_at_most_one_image.Goals as goal

pub returns : goal.returns
returns c = one_image
