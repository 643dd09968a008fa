use Rattle.nmgc_pmark.proofs.Vocabulary.{rules, ◌≡◌, ◌+◌, ◌<◌, ℕ, suc, arith, List, [], ◌∷◌, ◌++◌, length, take, get_or, sym, ap, subst, ◌∙◌, AllZip, take-suc, Contains-get_or, all_zipped_more, Name, Address, HasName}
use Rattle.nmgc_pmark.proofs.claims.read_names.Goals as goal

pub word-requires : goal.word-requires
word-requires g c =
    let lt : c.loop-at.at-index < length c.args.places.now = search rules in
    (c.requires (get_or c.args.places.now c.loop-at.at-index (record { 0 = 0 })) (Contains-get_or c.args.places.now c.loop-at.at-index (record { 0 = 0 }) lt)).0

pub name_of-requires : goal.name_of-requires
name_of-requires g c =
    let lt : c.loop-at.at-index < length c.args.places.now = search rules in
    let h = c.requires (get_or c.args.places.now c.loop-at.at-index (record { 0 = 0 })) (Contains-get_or c.args.places.now c.loop-at.at-index (record {
      0 = 0;
    }) lt) in
    (h.1.0, h.1.1.1, sym h.1.1.0 ∙ sym c.word.ensures)

pub loop-at-preserved : goal.loop-at-preserved
loop-at-preserved g c =
    let i = c.loop-at.at-index in
    let a : Address = get_or c.args.places.now i (record { 0 = 0 }) in
    let lt : i < length c.args.places.now = search rules in
    let h = c.requires a (Contains-get_or c.args.places.now i (record { 0 = 0 }) lt) in
    let is : c.name_of.result ≡ h.1.0 = c.name_of.ensures h.1.0 h.1.1.1 (sym h.1.1.0 ∙ sym c.word.ensures) in
    let has : HasName (g.W.StillWords.words c.args.words.now) a c.name_of.result =
    subst (λ (n : Name). HasName (g.W.StillWords.words c.args.words.now) a n) (sym is) h.1.1 in
    let step : suc i ≡ i + 1 = omega arith in
    let more = all_zipped_more (HasName (g.W.StillWords.words c.args.words.now)) (take i c.args.places.now) c.loop-at.names.items a c.name_of.result
    c.loop-at.invariant.each has in
    record {
      each = subst (λ (l : List Address). AllZip (HasName (g.W.StillWords.words c.args.words.now)) l c.push_reserved.new.self.items)
          (sym (take-suc c.args.places.now i (record { 0 = 0 }) lt) ∙ ap (λ (k : ℕ). take k c.args.places.now) step)
          (subst (λ (l : List Name). AllZip (HasName (g.W.StillWords.words c.args.words.now)) (take i c.args.places.now ++ a ∷ []) l)
          (sym c.push_reserved.ensures.items) more);
      room = search rules;
      long = search rules;
    }
