use Rattle.nmgc_minor.proofs.{Vocabulary.ℕ, Vocabulary.◌-◌, Vocabulary.get_or, Vocabulary.refl, Vocabulary.sym, Vocabulary.ap, Vocabulary.◌∙◌, Vocabulary.get_or_past, Vocabulary.forward_word, ForwardLaws.odd_stays, ForwardLaws.word_low, ForwardLaws.word_unset, ForwardLaws.word_moved}
use Rattle.nmgc_minor.proofs.forwarding.forward_word.Goals as goal

pub returns-in_default : goal.returns-in_default
returns-in_default c = sym (odd_stays c.args.table.now c.args.base c.args.word c.in_default.ensures.none)

pub returns-then-at-base : goal.returns-then-at-base
returns-then-at-base c =
    word_low c.args.table.now c.from-base.result c.args.word c.in-Some.at c.in-Some.ensures.some c.if-at-base.true ∙
    ap (λ (b : ℕ). forward_word c.args.table.now b c.args.word) c.from-base.ensures

pub returns-then-index-table : goal.returns-then-index-table
returns-then-index-table c =
    let past = get_or_past c.args.table.now (c.in-Some.at - c.from-base.result) 0 c.if-index-table.true in
    word_unset c.args.table.now c.from-base.result c.args.word c.in-Some.at c.in-Some.ensures.some c.if-at-base.false past ∙
    ap (λ (b : ℕ). forward_word c.args.table.now b c.args.word) c.from-base.ensures

pub returns-then-to-eq0 : goal.returns-then-to-eq0
returns-then-to-eq0 c =
    word_unset c.args.table.now c.from-base.result c.args.word c.in-Some.at c.in-Some.ensures.some c.if-at-base.false c.if-to-eq0.true ∙
    ap (λ (b : ℕ). forward_word c.args.table.now b c.args.word) c.from-base.ensures

pub returns-else-to-eq0 : goal.returns-else-to-eq0
returns-else-to-eq0 c =
    c.of_place.ensures ∙
    word_moved c.args.table.now c.from-base.result c.args.word c.in-Some.at
    (get_or c.args.table.now (c.in-Some.at - c.from-base.result) 0) c.in-Some.ensures.some c.if-at-base.false refl c.if-to-eq0.false ∙
    ap (λ (b : ℕ). forward_word c.args.table.now b c.args.word) c.from-base.ensures
