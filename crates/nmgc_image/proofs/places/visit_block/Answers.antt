use Rattle.nmgc_image.proofs.{Vocabulary.◌≡◌, Vocabulary.◌∙◌, Vocabulary.true, Vocabulary.false, Vocabulary.ap, Vocabulary.sym, Vocabulary.arith, Vocabulary.Contains, Vocabulary.IsNamedAt, Vocabulary.name_in, Vocabulary.has_key, Listing.read_valid, Searching.visits_none, Searching.visits_same}
use Rattle.nmgc_image.proofs.places.visit_block.Goals as goal

pub name_at-requires : goal.name_at-requires
name_at-requires c = let b = c.requires.block in c.requires.ready.blocks b.0 b.1 c.args.at b.2 b.3

pub visit-requires-clause-within : goal.visit-requires-clause-within
visit-requires-clause-within c =
    let b = c.requires.block in
    let named : IsNamedAt c.args.report.now.words c.args.at = c.requires.ready.blocks b.0 b.1 c.args.at b.2 b.3 in
    let fits = named.within in
    let room = c.requires.room in
    omega (arith, fits, room)

pub returns-in_ok-visit : goal.returns-in_ok-visit
returns-in_ok-visit c =
    let b = c.requires.block in
    let named : IsNamedAt c.args.report.now.words c.args.at = c.requires.ready.blocks b.0 b.1 c.args.at b.2 b.3 in
    let has : has_key c.args.weaks.now.keys.items (name_in c.args.report.now.words c.args.at) ≡ true =
    ap (has_key c.args.weaks.now.keys.items) (sym c.name_at.ensures) ∙ sym c.has.ensures ∙ c.if-has.true in
    let listed : Contains c.args.report.now.weaks (name_in c.args.report.now.words c.args.at) =
    c.requires.weaks.sound (name_in c.args.report.now.words c.args.at) (read_valid c.args.report.now.words c.args.at named) has in
    visits_same (λ place. place ≡ c.args.at) (λ place. (place ≡ c.args.at) ×
    Contains c.args.report.now.weaks (name_in c.args.report.now.words c.args.at)) c.args.search.now c.visit.new.self c.in_ok-visit.ensures
    (λ at same. (same, listed)) (λ at both. both.0)

pub returns-else-has : goal.returns-else-has
returns-else-has c =
    visits_none (λ place. (place ≡ c.args.at) ×
    Contains c.args.report.now.weaks (name_in c.args.report.now.words c.args.at)) c.args.search.now c.requires.sound (λ at both.
    let has : has_key c.args.weaks.now.keys.items (name_in c.args.report.now.words c.args.at) ≡ false =
    ap (has_key c.args.weaks.now.keys.items) (sym c.name_at.ensures) ∙ sym c.has.ensures ∙ c.if-has.false in
    let yes' : has_key c.args.weaks.now.keys.items (name_in c.args.report.now.words c.args.at) ≡ true =
    c.requires.weaks.complete (name_in c.args.report.now.words c.args.at) both.1 in
    absurd cc)
