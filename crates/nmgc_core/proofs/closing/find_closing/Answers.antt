use Rattle.nmgc_core.proofs.closing.find_closing.Goals as goal

pub returns : goal.returns
returns c =
    let last = c.in_ok-rescue.ensures in
    record { places = last.places; marked = λ n. (last.sound n, last.complete n); dead = c.in_ok-dead.ensures }
