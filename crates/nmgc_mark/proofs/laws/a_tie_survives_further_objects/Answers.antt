use Rattle.nmgc_mark.proofs.Growth.{more_places}
use Rattle.nmgc_mark.proofs.laws.a_tie_survives_further_objects.Goals as goal

pub returns : goal.returns
returns c = λ o places m s marker. more_places o places m s marker
