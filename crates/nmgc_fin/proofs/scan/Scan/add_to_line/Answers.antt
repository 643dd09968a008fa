use Rattle.std.proofs.lemmas.List.{take_min}
use Rattle.nmgc_fin.proofs.{Vocabulary.◌≡◌, Vocabulary.◌-◌, Vocabulary.◌∙◌, Vocabulary.◌++◌, Vocabulary.List, Vocabulary.ℕ, Vocabulary.FRONT, Vocabulary.ap, Vocabulary.arith, Vocabulary.length, Vocabulary.min, Vocabulary.refl, Vocabulary.take, Scanned.has_room, Scanned.taken_more}
use Rattle.nmgc_fin.proofs.scan.Scan.add_to_line.Goals as goal

pub overflow_sub-len : goal.overflow_sub-len
overflow_sub-len c = let room = has_room c.args.self.now c.requires.taken.0 c.requires.taken.1 in omega (arith, room, c.len.ensures)

pub returns : goal.returns
returns c =
    let front : List ℕ = c.args.self.now.front.items in let part : List ℕ = c.args.part.now in
    let room : c.min-room.result ≡ min (FRONT - length front) (length part) = omega (arith, c.min-room.ensures, c.len.ensures) in
    λ bytes h. taken_more c.args.self.now _ bytes part h c.requires.plain
    (c.in_ok-extend_from_slice.ensures.items ∙
    ap (λ (n : ℕ). front ++ take n part) room ∙
    ap (λ (l : List ℕ). front ++ l) (take_min (FRONT - length front) part)) refl refl refl
