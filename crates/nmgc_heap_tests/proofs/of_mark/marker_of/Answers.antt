use Rattle.nmgc_heap_tests.proofs.Vocabulary.{◌≡◌, ◌∙◌, ap, sym, subst, most_blocks, HasRoomToMark, MarkerSeen}
use Rattle.nmgc_mark.specs.Marker.{blank}
use Rattle.nmgc_heap_tests.proofs.of_mark.marker_of.Goals as goal

pub returns : goal.returns
returns c =
    let is : c.in_ok-marker.marker ≡ blank 1 (most_blocks c.args.segments.now.layout) = c.in_ok-marker.ensures ∙
    ap (λ n. blank 1 n) (c.most_blocks-blocks.ensures ∙ ap most_blocks c.layout.ensures.layout) in
    subst (λ (m : MarkerSeen). HasRoomToMark c.args.segments.now m) (sym is) (c.blank_markers_have_room.ensures c.args.segments.now 1 c.layout.ensures.sound)
