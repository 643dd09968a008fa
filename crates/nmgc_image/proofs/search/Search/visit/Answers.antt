use Rattle.nmgc_image.proofs.{Vocabulary.refl, Vocabulary.sym, Vocabulary.◌∙◌, Vocabulary.false, Vocabulary.get_or_default, Searching.found_before, Searching.found_now}
use Rattle.nmgc_image.proofs.search.Search.visit.Goals as goal

pub returns-in_ok-push : goal.returns-in_ok-push
returns-in_ok-push c =
    found_now c.args.self.now _ c.args.at c.requires.sound c.requires.within
    (get_or_default c.args.self.now.seen.items c.args.at false c.index.result.now c.requires.within ∙ sym c.index.ensures ∙
    c.if-not-index.true) refl c.in_ok-push.ensures.items

pub returns-else-not-index : goal.returns-else-not-index
returns-else-not-index c =
    found_before c.args.self.now c.args.at c.requires.sound c.requires.within
    (get_or_default c.args.self.now.seen.items c.args.at false c.index.result.now c.requires.within ∙ sym c.index.ensures ∙ c.if-not-index.false)
