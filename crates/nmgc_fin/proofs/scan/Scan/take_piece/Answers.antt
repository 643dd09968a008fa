use Rattle.nmgc_fin.proofs.{Vocabulary.◌∙◌, Vocabulary.◌++◌, Vocabulary.◌∷◌, Vocabulary.[], Vocabulary.ℕ, Vocabulary.List, Vocabulary.ap, Vocabulary.sym, Vocabulary.refl, Vocabulary.subst, Vocabulary.append-nil, Vocabulary.append_assoc, Vocabulary.OnOk, Vocabulary.HasScanned, Scanned.seen_on, Scanned.bytes_on, Scanned.seen_few}
use Rattle.nmgc_fin.proofs.scan.Scan.take_piece.Goals as goal

pub loop-part-init : goal.loop-part-init
loop-part-init c = ([], refl, λ bytes h. subst (λ (l : List ℕ). HasScanned c.args.self.now l) (sym (append-nil bytes)) h)

pub add_to_line-requires-clause-taken : goal.add_to_line-requires-clause-taken
add_to_line-requires-clause-taken c = let o = c.loop-part.invariant in let given = c.requires in (given.0 ++ o.0, o.2 given.0 given.1)

pub end_line-requires : goal.end_line-requires
end_line-requires c =
    let o = c.loop-part.invariant in let given = c.requires in (
      (given.0 ++ o.0) ++ c.in-Some.part.now,
      c.in_ok-add_to_line.ensures (given.0 ++ o.0) (o.2 given.0 given.1),
      seen_few given.0 o.0 c.loop-part.rest.now c.in-Some.part.now c.in-Some.after.now c.args.piece.now o.1 c.in-Some.ensures.parts given.2,
    )

pub loop-part-preserved : goal.loop-part-preserved
loop-part-preserved c =
    let o = c.loop-part.invariant in let part : List ℕ = c.in-Some.part.now in (
      (o.0 ++ part) ++ 10 ∷ [],
      seen_on o.0 c.loop-part.rest.now part c.in-Some.after.now c.args.piece.now o.1 c.in-Some.ensures.parts,
      λ bytes h. subst (λ (l : List ℕ). HasScanned c.end_line.new.self l) (bytes_on bytes o.0 part)
          (c.in_ok-end_line.ensures ((bytes ++ o.0) ++ part) (c.in_ok-add_to_line.ensures (bytes ++ o.0) (o.2 bytes h))).0,
    )

pub returns : goal.returns
returns c = λ bytes h.
    let o = c.loop-part.invariant in
    subst (λ (l : List ℕ). OnOk c.add_to_line-2.result (HasScanned c.add_to_line-2.new.self l))
    (append_assoc bytes o.0 c.loop-part.rest.now ∙ ap (λ (l : List ℕ). bytes ++ l) o.1)
    (c.add_to_line-2.ensures (bytes ++ o.0) (o.2 bytes h))

pub add_to_line-requires-2-clause-taken : goal.add_to_line-requires-2-clause-taken
add_to_line-requires-2-clause-taken c = let o = c.loop-part.invariant in let given = c.requires in (given.0 ++ o.0, o.2 given.0 given.1)
