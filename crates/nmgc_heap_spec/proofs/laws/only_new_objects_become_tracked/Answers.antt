use Rattle.nmgc_heap_spec.specs.laws.CommandLaws.{tracked_are_known, step_tracks, step_tracks_no_more, closing_tracks, step_leaves_heap}
use Rattle.nmgc_heap_spec.proofs.laws.only_new_objects_become_tracked.Goals as goal

pub returns : goal.returns
returns c = record { known = tracked_are_known; step = step_tracks; no_more = step_tracks_no_more; closing = closing_tracks; heap = step_leaves_heap }
