use Rattle.nmgc_pmark.proofs.{Vocabulary.rules, Vocabulary.◌≡◌, Vocabulary.List, Vocabulary.length, Vocabulary.map, Vocabulary.take, Vocabulary.drop, Vocabulary.◌++◌, Vocabulary.ap, Vocabulary.subst, Vocabulary.◌∙◌, Vocabulary.arith, Vocabulary.IfOk-weaker, Vocabulary.Marker, Vocabulary.CanMark, Vocabulary.IsSharedAmong, Vocabulary.found_of, Vocabulary.bounds_of, Crews.are_marked, Crews.written}
use Rattle.nmgc_pmark.proofs.crew.mark_places.Goals as goal

pub returns : goal.returns
returns g c =
    let w = c.requires.markers.0 in
    IfOk-weaker c.end_crew.result _ _ (λ lists d.
    let count : length c.mark_beside.new.crew ≡ c.args.bounds.markers = search rules in
    let can : CanMark (g.W.StillWords.words c.args.words.now) c.args.starts.now (bounds_of c.in_ok-table.table).blocks = search rules in
    let back : take c.in_ok-crew.crew.len (c.mark_beside.new.crew ++ drop (length c.mark_beside.new.crew) c.in_ok-crew.crew.items) ≡
    c.mark_beside.new.crew =
    written c.mark_beside.new.crew (drop (length c.mark_beside.new.crew) c.in_ok-crew.crew.items) c.in_ok-crew.crew.len (search rules) in
    are_marked c.in_ok-table.table (g.W.StillWords.words c.args.words.now) c.args.starts.now c.args.bounds.markers c.mark_beside.new.crew
    c.mark_beside.ensures.marked c.mark_beside.ensures.numbers count (omega (
      arith,
      w,
    )) can (subst (λ (l : List Marker). IsSharedAmong l) back d.1) lists.items (d.0 ∙ ap (λ (l : List Marker). map found_of l) back))
    c.end_crew.ensures
