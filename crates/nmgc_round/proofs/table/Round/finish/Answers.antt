use Rattle.nmgc_round.proofs.{Vocabulary.◌≡◌, Vocabulary.◌∙◌, Vocabulary.map, Vocabulary.sym, Vocabulary.subst, Vocabulary.Seen, Vocabulary.seen, Vocabulary.opening_of, Vocabulary.all_together, Vocabulary.HasAll, Vocabulary.same_opening, Finishings.leaves}
use Rattle.nmgc_round.proofs.table.Round.finish.Goals as goal

pub end-requires : goal.end-requires
end-requires c =
    let is : seen c.gather-last.result ≡ all_together (seen c.args.collector) (map seen c.args.mutators) = c.gather-last.ensures.1 in
    (c.gather-last.ensures.0, subst HasAll (sym is) c.requires.all)

pub returns : goal.returns
returns c =
    let o = opening_of c.args.self in
    let v : Seen = all_together (seen c.args.collector) (map seen c.args.mutators) in
    let is : seen c.gather-last.result ≡ v = c.gather-last.ensures.1 in
    let same : v.opening ≡ o = same_opening (seen c.args.collector) (map seen c.args.mutators) ∙ c.requires.seats.1.2 in
    record { leaves = leaves o c.end.result v (rw is at c.end.ensures.0) (rw same at c.requires.all.1); count = c.end.ensures.1 }
