use Rattle.nmgc_image.proofs.read.read_image.Goals as goal

pub returns : goal.returns
returns c = record { found = c.read.ensures.found; only = c.read.ensures.only; fault = c.read.ensures.fault }
