use Rattle.nmgc_image.proofs.Searching.{search_starts}
use Rattle.nmgc_image.proofs.search.Search.new.Goals as goal

pub returns-clause-sound : goal.returns-clause-sound
returns-clause-sound c = search_starts (record {
  seen = c.in_ok-vec.field-0;
  order = c.new.result;
}) c.args.words (c.in_ok-vec.ensures.items_if_clones_equal (λ y e. e)) c.new.ensures.items
