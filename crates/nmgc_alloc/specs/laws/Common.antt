-- Lemmas that crates above also need.
use Rattle.std.specs.Prelude.{◌≡◌, ◌≤◌}
use Rattle.nmgc_alloc.specs.laws.Vocabulary.{ℕ, arith, Layout, Segment, IsSegment, State, Free, Current, Active, Filled, Sweeping, IsMember, IsCurrent, prepared_snap, prepared_state}

-- a segment with another state, which isn't free, and another snapshot
pub restated : (s : Segment) (state : State) (snap : ℕ) → IsSegment s → (state ≡ Free → ⊥) → snap ≤ s.next_free →
    IsSegment (record s { state = state; snap = snap })
restated s state snap h used small = record {
  class = h.class;
  fits = h.fits;
  words = h.words;
  snap = small;
  next_free = h.next_free;
  next_unmarked = h.next_unmarked;
  bytes = h.bytes;
  no_block = h.no_block;
  free = λ e. absurd (used e);
}

-- a segment when a cycle begins
pub prepared_in : (layout : Layout) (s : Segment) (state : State) → IsMember layout (record s { state = state }) →
    IsMember layout (record s { state = prepared_state state; snap = prepared_snap state s })
prepared_in layout s Free h = h
prepared_in layout s (Current m) h = record {
  sound = restated _ (Current m) s.next_free h.sound (λ e. cc) (omega arith);
  words = h.words;
  active_room = λ e. absurd (cc);
  current_room = h.current_room;
  owner = h.owner;
}
prepared_in layout s Active h = record {
  sound = restated _ Active s.next_free h.sound (λ e. cc) (omega arith);
  words = h.words;
  active_room = h.active_room;
  current_room = λ m e. absurd (cc);
  owner = λ m e. absurd (cc);
}
prepared_in layout s Filled h = record {
  sound = restated _ Sweeping s.next_free h.sound (λ e. cc) (omega arith);
  words = h.words;
  active_room = λ e. absurd (cc);
  current_room = λ m e. absurd (cc);
  owner = λ m e. absurd (cc);
}
prepared_in layout s Sweeping h = record {
  sound = restated _ Sweeping s.next_free h.sound (λ e. cc) (omega arith);
  words = h.words;
  active_room = λ e. absurd (cc);
  current_room = λ m e. absurd (cc);
  owner = λ m e. absurd (cc);
}

-- a segment is current when a cycle begins only if it was current before
pub prepared_current : (s : Segment) (state : State) (m c : ℕ) → IsCurrent m c (record s {
  state = prepared_state state;
  snap = prepared_snap state s;
}) → IsCurrent m c (record s { state = state })
prepared_current s Free m c h = h
prepared_current s (Current k) m c h = h
prepared_current s Active m c h = h
prepared_current s Filled m c h = absurd (let e = h.0 in cc)
prepared_current s Sweeping m c h = h
