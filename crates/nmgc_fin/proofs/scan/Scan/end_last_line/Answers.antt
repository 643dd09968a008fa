use Rattle.std.proofs.lemmas.List.{nil_from_length}
use Rattle.nmgc_fin.proofs.{Vocabulary.◌∷◌, Vocabulary.◌++◌, Vocabulary.[], Vocabulary.List, Vocabulary.ℕ, Vocabulary.◌<◌, Vocabulary.arith, Vocabulary.length, Vocabulary.subst, Vocabulary.AreScanned, Vocabulary.on_ok_weaker, Scanned.all_read, Scanned.ended_same}
use Rattle.nmgc_fin.proofs.scan.Scan.end_last_line.Goals as goal

pub returns-then-is_empty : goal.returns-then-is_empty
returns-then-is_empty c = λ bytes h. all_read c.args.self.now bytes h (nil_from_length c.args.self.now.front.items (grind (arith, c.if-is_empty.ensures)))

pub returns : goal.returns
returns c = λ bytes h.
    let some : 0 < length c.args.self.now.front.items = grind (arith, c.if-is_empty.ensures) in
    on_ok_weaker c.end_line.result (λ taken.
    subst (λ (l : List (List ℕ)). AreScanned c.end_line.new.self.bad c.end_line.new.self.jobs.items c.end_line.new.self.lines l)
    (ended_same c.args.self.now bytes h some)
    (all_read c.end_line.new.self (bytes ++ 10 ∷ []) taken.0 taken.1)) (c.end_line.ensures bytes h)
