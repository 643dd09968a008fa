-- A push onto a full stack and a pop off an empty one keep the rule, at a load of the header of g.
use Rattle.nmgc_round.proofs.{Vocabulary.◌≡◌, Vocabulary.ℕ, Vocabulary.List, Vocabulary.[], Vocabulary.set, Vocabulary.◌∙◌, Vocabulary.arith, Vocabulary.slice_index, Vocabulary.some, Vocabulary.get_elem?, Vocabulary.Command, Vocabulary.shared_name, Vocabulary.SHARED_PLACE, Vocabulary.Answer, Vocabulary.plain, Vocabulary.Opening, Vocabulary.Part, Vocabulary.Seen, Vocabulary.doing, Vocabulary.loaded, Vocabulary.answered, Vocabulary.IsFixed, Vocabulary.Keeps, Vocabulary.AddsCommand, Vocabulary.IsMutator, Vocabulary.IsRefusedSlot, Vocabulary.slot_refusal_reply, Vocabulary.slot_refused, Fixes.there_again, Fixes.first_fixed, Fixes.is_doing, Fixes.twice, Moves.fixed_keeps, Pushes.barred_answers}

module _ (o : Opening) (words : List ℕ) (views : List Seen) (h : Keeps o words views) (id : ℕ) (v : Seen) (here : get_elem? views id ≡
    some v) (p : Part) (is : IsMutator v p) where
  pub barred_keeps : (at : ℕ) (c : Command) → IsRefusedSlot o p at c →
      AddsCommand o words views h p.number c words (set views id (slot_refused v c (slice_index words SHARED_PLACE)))
  barred_keeps at c can =
      let a : Answer = plain (slot_refusal_reply c) in
      let next : Seen = answered v c a in
      let t = barred_answers o words views h id v here p is at c can in
      let k : Keeps o words (set views id next) = t.1 in
      let here' = there_again views id v next here in
      let is' = is_doing o words views h id v here p is c a in
      let f : IsFixed o k.born SHARED_PLACE 0 = first_fixed o words (set views id next) k id next here' (doing p c a []) is' (record {
        at = SHARED_PLACE;
        name = shared_name;
        node = k.shared.0;
      }) k.shared.1 0 (omega arith) in
      let n = twice o words views id next (loaded next SHARED_PLACE 0 (slice_index words SHARED_PLACE)) k.events
      (fixed_keeps o words (set views id next) k id next here' (doing p c a []) is' SHARED_PLACE 0 f) in
      (t.0, n.0, n.1 ∙ t.2)
