use Rattle.nmgc_journal.proofs.{Vocabulary.◌≡◌, Vocabulary.◌-◌, Vocabulary.◌∙◌, Vocabulary.◌++◌, Vocabulary.List, Vocabulary.ℕ, Vocabulary.take, Vocabulary.drop, Vocabulary.ap, Vocabulary.refl, Vocabulary.arith, Vocabulary.decimal, Vocabulary.length-drop, Vocabulary.length-decimal-le, Vocabulary.take_all, Buffers.two_written}
use Rattle.nmgc_journal.proofs.lines.push_number_line.Goals as goal

pub write_before-text-requires-clause-room : goal.write_before-text-requires-clause-room
write_before-text-requires-clause-room c = omega (arith, length-decimal-le 20 c.args.number (omega arith) (omega arith) (omega arith))

pub write_before-from-requires-clause-room : goal.write_before-from-requires-clause-room
write_before-from-requires-clause-room c =
    omega (
      arith,
      length-decimal-le 20 c.args.number (omega arith) (omega arith) (omega arith),
      length-decimal-le 20 c.args.mutator (omega arith) (omega arith) (omega arith),
    )

pub returns : goal.returns
returns c =
    let text = two_written (decimal c.args.mutator) (decimal c.args.number) _ _ _ c.write_before-text.result c.write_before-from.result
    c.write_before-text.ensures.text c.write_before-from.ensures.text refl in
    let line : List ℕ = c.write_before-from.new.line in
    let from : ℕ = c.write_before-from.result in
    let whole : take (64 - from) (drop from line) ≡ drop from line =
    take_all (64 - from) (drop from line) (omega (arith, length-drop from line, c.write_before-from.array_long)) in
    c.in_ok-extend_from_slice.ensures.items ∙ ap (λ (l : List ℕ). c.args.out.now.items ++ l) (whole ∙ text)
