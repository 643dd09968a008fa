use Rattle.nmgc_alloc.proofs.{Vocabulary.ℕ, Vocabulary.◌≡◌, Vocabulary.◌-◌, Vocabulary.◌/◌, Vocabulary.◌∙◌, Vocabulary.ap, Vocabulary.sym, Vocabulary.arith, Vocabulary.List, Vocabulary.take, Vocabulary.Segment, Vocabulary.Sweeping, Vocabulary.gained, Vocabulary.sought_count, FiledLists.files_cut, HalvesLists.count_cut, HalvesLists.swept_parts}
use Rattle.nmgc_alloc.proofs.halves.sweep_in_halves.Goals as goal

pub end_of_waiting-end-requires-clause-enough : goal.end_of_waiting-end-requires-clause-enough
end_of_waiting-end-requires-clause-enough g c =
    let all : List Segment = c.args.segments.now in
    let middle : ℕ = c.end_of_waiting-middle.result in
    let cut = count_cut middle all in
    let zero : middle - 0 ≡ middle = omega arith in
    let low : sought_count Sweeping (take middle all) ≡ c.args.count - c.args.count / 2 =
    ap (λ (n : ℕ). sought_count Sweeping (take n all)) (sym zero) ∙ c.end_of_waiting-middle.ensures.counted in
    omega (arith, cut, low, c.requires.enough)

pub returns : goal.returns
returns g c = record {
  swept = swept_parts c.args.epoch c.end_of_waiting-middle.result c.end_of_waiting-end.result _ _ c.args.count c.args.segments.now _ _ _ _ _ _
      c.split_at_mut-front.ensures.front c.split_at_mut-front.ensures.back c.split_at_mut-lower_half.ensures.front c.split_at_mut-lower_half.ensures.back
      c.end_of_waiting-end.ensures.from_on c.end_of_waiting-end.ensures.within c.end_of_waiting-middle.ensures.counted c.end_of_waiting-end.ensures.counted (omega arith)
      c.sweep_both.ensures.lower.0 c.sweep_both.ensures.upper.0;
  files = files_cut (gained c.sweep_both.new.lower_filed) (gained c.sweep_both.new.upper_filed) c.sweep_both.new.lower_filed.filled
      c.sweep_both.new.upper_filed.filled c.end_of_waiting-middle.result c.end_of_waiting-end.result c.args.segments.now _ _ _ _ _ _
      c.split_at_mut-front.ensures.front c.split_at_mut-front.ensures.back c.split_at_mut-lower_half.ensures.front c.split_at_mut-lower_half.ensures.back
      c.sweep_both.ensures.lower.1 c.sweep_both.ensures.upper.1;
}
