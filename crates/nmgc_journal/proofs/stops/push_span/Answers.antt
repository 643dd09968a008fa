use Rattle.nmgc_journal.proofs.Vocabulary.{ℕ, ◌∙◌, List, [], ◌∷◌, ◌++◌, take, ap, sym, add-one, flat_map, take-suc, flat_map_more, get_or_from_slice_get, slice_get_within, Name, names_of, name_line}
use Rattle.nmgc_journal.proofs.stops.push_span.Goals as goal

pub loop-at-preserved : goal.loop-at-preserved
loop-at-preserved c =
    let line = name_line c.args.word.now in
    let all : List Name = names_of c.args.span.now in
    let k = c.loop-at.at in
    let name = c.name.result in
    let before = c.args.out.now.items in
    let next = take-suc all k name (slice_get_within all k name c.name.ensures) ∙
    ap (λ (x : Name). take k all ++ x ∷ []) (get_or_from_slice_get all k name name c.name.ensures) in
    rw add-one (c.in_ok-push_name_line.ensures ∙ ap (λ (out : List ℕ). out ++ line name) c.loop-at.invariant ∙
    flat_map_more line before (take k all) name ∙ ap (λ (xs : List Name). before ++ flat_map line xs) (sym next))
