use Rattle.std.proofs.Common.{◌≡◌, ◌-◌, ◌++◌, ◌∷◌, ◌∙◌, List, ℕ, ap, arith, drop, length, length-drop, subst, sym, take}
use Rattle.std.proofs.lemmas.List.{take_all}
use Rattle.nmgc_live.proofs.LineParts.{unread_after}
use Rattle.nmgc_live.proofs.lines.LineReader.take_part.Goals as goal

pub returns-in_ok-add_part-in-Some-clause-part : goal.returns-in_ok-add_part-in-Some-clause-part
returns-in_ok-add_part-in-Some-clause-part c =
    let r = c.args.self.now in
    let part : List ℕ = c.in-Some.part.now in
    let rest : List ℕ = c.in-Some.field-0-1.now in
    let bytes : List ℕ = take r.end c.deref.result.now in
    let cut : take (length bytes - r.start) (drop r.start bytes) ≡ part ++ 10 ∷ rest = c.in-Some.ensures.parts in
    let whole : take (length bytes - r.start) (drop r.start bytes) ≡ drop r.start bytes =
    take_all (length bytes - r.start) (drop r.start bytes) (omega (arith, length-drop r.start bytes)) in
    let e : drop r.start (take r.end r.piece.items) ≡ part ++ 10 ∷ rest =
    subst (λ (l : List ℕ). drop r.start (take r.end l) ≡ part ++ 10 ∷ rest) c.deref.ensures.value (sym whole ∙ cut) in (
      part,
      e ∙ ap (λ (l : List ℕ). part ++ 10 ∷ l) (sym (unread_after (take r.end r.piece.items) part rest r.start e)),
      c.in-Some.ensures.first,
      c.in_ok-add_part-in-Some.ensures.part,
    )
