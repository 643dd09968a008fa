-- Lemmas that crates above need too.
use Rattle.std.proofs.Common.{◌<◌, ◌≤◌, ℕ, arith, inl, inr, List, refl, ◌+◌, ◌∙◌, eq-eqb, ◌≡◌, true, eqb}
use Rattle.nmgc_world_spec.specs.World.{World}
use Rattle.nmgc_object.specs.declared.{layout.Layout.Layout, size.TheConstants.HEADER_WORDS}
use Rattle.nmgc_alloc.specs.AllocState.{Segments}
use Rattle.nmgc_heap_spec.specs.{Objects.Place, Objects.LiesWell, Represents.Represents, Represents.NoNode, laws.Changes.lies_within}
use Rattle.nmgc_round.specs.{View.Opening, Marking.Marks, Marking.name_meant, Marking.with_name}
use Rattle.nmgc_mark.specs.{Tie.AreApart, Tie.IsTied, Seen.MarkerSeen, Marker.HasScanned, Marker.HasRoomToMark, Marker.HasMarked}

-- objects that words represent are apart

pub lies_above : (layout : Layout) (p : Place) (size : ℕ) → 0 < size → LiesWell layout p size → 1 ≤ p.at
lies_above layout p size pos (inl g) = let e = g.1 in omega arith
lies_above layout p size pos (inr (ne, inl segment)) = let first = segment.1 p.at (omega arith) (omega arith) in let from = first.from in omega arith
lies_above layout p size pos (inr (ne, inr nursery)) = let first = nursery.1 p.at (omega arith) (omega arith) in let from = first.from in omega arith

pub places_apart : (layout : Layout) (earlier : List World) (places : List Place) (w : World) (words : List ℕ) →
    Represents layout earlier NoNode places w words → AreApart layout places
places_apart layout earlier places w words h = record {
  one = h.one;
  above = λ p d. lies_above layout p HEADER_WORDS (omega arith) (h.named p d).lies;
  inside = λ p d. lies_within layout p HEADER_WORDS (omega arith) (h.named p d).lies;
}

pub scanned_none : (m : MarkerSeen) → HasScanned m m 0
scanned_none m = record { epoch = refl; grows = omega arith; pace = omega arith; room = refl }

pub scanned_then : (a b c : MarkerSeen) (i j : ℕ) → HasScanned a b i → HasScanned b c j → HasScanned a c (i + j)
scanned_then a b c i j x y = record {
  epoch = y.epoch ∙ x.epoch;
  grows = (let p = x.grows in let q = y.grows in omega arith);
  pace = (let p = x.pace in let q = y.pace in omega arith);
  room = y.room ∙ x.room;
}

-- nothing was marked
pub marked_none : (s : Segments) (m : MarkerSeen) → HasRoomToMark s m → HasMarked s s m m 0
marked_none s m h = record { room = h; scanned = scanned_none m; layout = refl; stands = λ words a k. k }

-- marks follow marks
pub marked_then : (s t u : Segments) (a b c : MarkerSeen) (i j : ℕ) → HasMarked s t a b i → HasMarked t u b c j → HasMarked s u a c (i + j)
marked_then s t u a b c i j x y = record {
  room = y.room;
  scanned = scanned_then a b c i j x.scanned y.scanned;
  layout = y.layout ∙ x.layout;
  stands = λ words k h. y.stands words k (x.stands words k h);
}

pub tied_unset : (o : Opening) (m : Marks) (s : Segments) (marker : MarkerSeen) (w : ℕ) → w ≡ 0 → IsTied o m s marker →
    IsTied o (with_name o.core.snapshot m (name_meant o.places w)) s marker
tied_unset o m s marker w e h = let a : eqb w 0 ≡ true = eq-eqb w 0 e in rw a h
