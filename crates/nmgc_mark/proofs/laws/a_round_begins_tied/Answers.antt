use Rattle.nmgc_mark.proofs.laws.a_round_begins_tied.Goals as goal

pub returns : goal.returns
returns c = λ o s marker h. h
