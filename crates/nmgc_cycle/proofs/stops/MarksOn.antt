-- A stop at which a cycle marks on changes only its marker.
use Rattle.nmgc_cycle.proofs.{Vocabulary.ℕ, Vocabulary.◌≡◌, Vocabulary.◌+◌, Vocabulary.◌∙◌, Vocabulary.Bool, Vocabulary.inl, Vocabulary.inr, Vocabulary.List, Vocabulary.sym, Vocabulary.ap, Vocabulary.arith, Vocabulary.Segments, Vocabulary.MarkerSeen, Vocabulary.Script, Vocabulary.Collector, Vocabulary.Marking, Vocabulary.Doing, Vocabulary.AddsTo, Vocabulary.Closes, Vocabulary.Ends, Vocabulary.MarksOn, Vocabulary.remembered_by, cycles.FullCycle.finished_idle, stops.StopEnds.IsStepped}
use Rattle.nmgc_cycle.specs.Full.{Proceeds}
use Rattle.nmgc_cycle.specs.declared.progress.Progress.TheVariants as doing

-- the remembered entries were added
added : (entries : List ℕ) (a b : Segments) (m : Marking) (p q : Doing) → p ≡ doing.Marking m → AddsTo entries a b p q →
    (marker : MarkerSeen) × (q ≡ doing.Marking (record m { marker = marker }))
added entries a b m doing.Idle q is h = absurd (let bad : doing.Idle ≡ doing.Marking m = is in cc)
added entries a b m (doing.Marking k) q is h =
    let same : k ≡ m = cc in
    (h.0, h.1 ∙ ap (λ (y : Marking). doing.Marking (record y { marker = h.0 })) same)
added entries a b m (doing.Sweeping w) q is h = absurd (let bad : doing.Sweeping w ≡ doing.Marking m = is in cc)

module _ (stop : ℕ) (old new : Collector) (n : Marking) (marks : new.cycle.progress ≡ doing.Marking n) where
  -- a cycle that was closed marks no more
  open_still : (p : Doing) → Closes stop p old new → new ≡ old
  open_still doing.Idle h = h
  open_still (doing.Marking m) (inl h) = absurd (let bad : doing.Sweeping h.1.0 ≡ doing.Marking n = sym h.1.1 ∙ marks in cc)
  open_still (doing.Marking m) (inr h) = h.1
  open_still (doing.Sweeping w) h = h

  -- nor does a cycle that ended
  in_progress : (p : Doing) → Ends stop p old new → new ≡ old
  in_progress doing.Idle h = h
  in_progress (doing.Marking m) h = h
  in_progress (doing.Sweeping w) (inl h) =
      absurd (let bad : doing.Idle ≡ doing.Marking n = sym (ap (λ (c : Collector). c.cycle.progress) h.1) ∙ marks in cc)
  in_progress (doing.Sweeping w) (inr h) = h.1

  -- if none began, nothing was done
  none_begun : (trigger : ℕ) (left : Bool) → new.cycle.begun ≡ old.cycle.begun → Proceeds trigger left stop old new → new ≡ old
  none_begun trigger left begun (inl h) =
      let idle : new.cycle.progress ≡ doing.Idle = ap (λ (c : Collector). c.cycle.progress) h.1.is ∙ finished_idle stop h.1.started h.1.last h.1.again in
      absurd (let bad : doing.Idle ≡ doing.Marking n = sym idle ∙ marks in cc)
  none_begun trigger left begun (inr (undue, inl h)) =
      let one_more : new.cycle.begun ≡ old.cycle.begun + 1 = ap (λ (c : Collector). c.cycle.begun) h.1.is in absurd (omega (arith, begun, one_more))
  none_begun trigger left begun (inr (undue, inr h)) = h.1

ends_begun : (stop : ℕ) (p : Doing) (old new : Collector) → Ends stop p old new → new.cycle.begun ≡ old.cycle.begun
ends_begun stop doing.Idle old new h = ap (λ (c : Collector). c.cycle.begun) h
ends_begun stop (doing.Marking m) old new h = ap (λ (c : Collector). c.cycle.begun) h
ends_begun stop (doing.Sweeping w) old new (inl h) = ap (λ (c : Collector). c.cycle.begun) h.1
ends_begun stop (doing.Sweeping w) old new (inr h) = ap (λ (c : Collector). c.cycle.begun) h.1

pub marks_on : (script : Script) (old new : Collector) → IsStepped script old new → MarksOn old new
marks_on script old new x = λ m n was marks begun.
    let same : x.ended.cycle.begun ≡ old.cycle.begun = ends_begun x.number x.closed.cycle.progress x.closed x.ended x.ends ∙
    ap (λ (c : Collector). c.cycle.begun) x.closes.rest ∙ ap (λ (c : Collector). c.cycle.begun) x.adds.rest ∙
    ap (λ (c : Collector). c.cycle.begun) x.promotes.rest in
    let last : new ≡ x.ended = none_begun x.number x.ended new n marks script.config.trigger x.some (begun ∙ sym same) x.proceeds in
    let third : x.ended.cycle.progress ≡ doing.Marking n = sym (ap (λ (c : Collector). c.cycle.progress) last) ∙ marks in
    let ended : x.ended ≡ x.closed = in_progress x.number x.closed x.ended n third x.closed.cycle.progress x.ends in
    let second : x.closed.cycle.progress ≡ doing.Marking n = sym (ap (λ (c : Collector). c.cycle.progress) ended) ∙ third in
    let closed : x.closed ≡ x.added = open_still x.number x.added x.closed n second x.added.cycle.progress x.closes.closes in
    let first : x.added.cycle.progress ≡ doing.Marking n = sym (ap (λ (c : Collector). c.cycle.progress) closed) ∙ second in
    let from : x.promoted.cycle.progress ≡ doing.Marking m = ap (λ (c : Collector). c.cycle.progress) x.promotes.rest ∙ was in
    let add = added (remembered_by x.promoted.mutators.items) x.promoted.heap.segments x.added.heap.segments m x.promoted.cycle.progress
    x.added.cycle.progress from x.adds.adds in
    let both : doing.Marking n ≡ doing.Marking (record m { marker = add.0 }) = sym first ∙ add.1 in
    let is : n ≡ record m { marker = add.0 } = cc in
    is ∙ ap (λ (marker : MarkerSeen). record m { marker = marker }) (sym (ap (λ (y : Marking). y.marker) is))
