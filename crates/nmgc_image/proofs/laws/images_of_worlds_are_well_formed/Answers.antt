use Rattle.nmgc_image.proofs.ShownImage.{shown_is_image}
use Rattle.nmgc_image.proofs.laws.images_of_worlds_are_well_formed.Goals as goal

pub returns : goal.returns
returns c = shown_is_image
