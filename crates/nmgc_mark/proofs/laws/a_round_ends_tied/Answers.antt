use Rattle.nmgc_mark.proofs.laws.a_round_ends_tied.Goals as goal

pub returns : goal.returns
returns c = λ o words v s marker h collects same tied.
    rw (h.scans collects).1 (rw same at tied)
