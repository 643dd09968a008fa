-- Segments after a snapshot was taken are still sound.
use Rattle.nmgc_cycle.proofs.Vocabulary.{ℕ, ◌<◌, length, sym, subst, ◌∙◌, arith, Segment, nth, Segments, IsMember, IsSegments, IsCurrent, prepared, nth-map, all_prepared, prepared_current, prepared_in}
use Rattle.std.proofs.Math.ListN.{length-map}
use Rattle.nmgc_alloc.specs.Segments.{IsOwn}

own_before : (s : Segments) (m c number : ℕ) → IsOwn (all_prepared s) m c number → IsOwn s m c number
own_before s m c number h =
    let there : number < length s.segments = rw length-map at h.exists in
    let t : Segment = nth s.segments number in
    record { exists = there; is = prepared_current t t.state m c (subst (λ (x : Segment). IsCurrent m c x) (nth-map prepared s.segments number there) h.is) }

pub prepared_sound : (s : Segments) → IsSegments s → IsSegments (all_prepared s)
prepared_sound s h = record {
  layout = h.layout;
  count = length-map s.segments prepared ∙ h.count;
  members = λ number exists.
      let there : number < length s.segments = rw length-map at exists in
      let t : Segment = nth s.segments number in
      subst (λ (x : Segment). IsMember s.layout x) (sym (nth-map prepared s.segments number there)) (prepared_in s.layout t t.state (h.members number there));
  one_current = λ m c a b first second. h.one_current m c a b (own_before s m c a first) (own_before s m c b second);
  fresh = omega arith;
}
