use Rattle.nmgc_weak.proofs.{Vocabulary.◌≡◌, Vocabulary.◌+◌, Vocabulary.◌<◌, Vocabulary.List, Vocabulary.[], Vocabulary.◌∷◌, Vocabulary.◌++◌, Vocabulary.length, Vocabulary.length-append, Vocabulary.inl, Vocabulary.inr, Vocabulary.refl, Vocabulary.sym, Vocabulary.ap, Vocabulary.◌∙◌, Vocabulary.arith, Vocabulary.slice_get, Vocabulary.MAKERS, Vocabulary.Row, Vocabulary.list_of, RowLaws.empty_joins, RowLaws.last_or_before}
use Rattle.nmgc_weak.proofs.weaks.add_missing_rows.Goals as goal

pub loop-alloc-init : goal.loop-alloc-init
loop-alloc-init c = record { list = refl; more = omega arith; rows = λ k row at. inl at }

pub loop-alloc-preserved : goal.loop-alloc-preserved
loop-alloc-preserved c =
    let was : List Row = c.args.rows.now.items in
    let rows : List Row = c.loop-alloc.rows.items in
    let one : Row = c.new.result in
    let next : List Row = c.push.new.self.items in
    let inv = c.loop-alloc.invariant in
    let more = inv.more in
    let is : next ≡ rows ++ one ∷ [] = c.in_ok-push.ensures.items in
    let none : one.list ≡ [] = ap (λ (r : Row). r.list) c.new.ensures in
    let test = c.loop-alloc-test.true in
    let own = c.loop-alloc.rows.ok.0 in
    let few : length rows < MAKERS + 1 = omega (arith, test, own) in
    let long = ap length is ∙ length-append rows (one ∷ []) in
    record {
      list = ap list_of is ∙ empty_joins rows one none ∙ inv.list;
      more = omega (arith, more, long);
      rows = λ k row at. elim (last_or_before rows one k row (sym (ap (λ (l : List Row). slice_get l k) is) ∙ at)) [
        | inl before ↦ inv.rows k row before
        | inr last ↦ inr (ap (λ (r : Row). r.list) last ∙ none, let short : length was < MAKERS + 1 = omega (arith, few, more) in short)
      ];
    }
