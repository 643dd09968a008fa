use Rattle.nmgc_pmark.proofs.{Vocabulary.rules, Vocabulary.refl, Vocabulary.◌≡◌, Vocabulary.List, Vocabulary.[], Vocabulary.◌∷◌, Vocabulary.◌++◌, Vocabulary.length, Vocabulary.map, Vocabulary.ap, Vocabulary.subst, Vocabulary.sym, Vocabulary.◌∙◌, Vocabulary.append_assoc, Vocabulary.append-nil, Vocabulary.slice_get, Vocabulary.into_iter_items, Vocabulary.Room, Vocabulary.Address, Vocabulary.Marker, Vocabulary.ClaimsSeen, Vocabulary.seen, Vocabulary.bounds_of, Vocabulary.found_of, Crews.Gathers, Crews.gathers_one, Crews.gathers_more, Crews.at_pushed, Crews.comes_at, Crews.sound_at, Crews.mapped_more, Crews.has_all, Crews.shared_among, Crews.none_left}
use Rattle.nmgc_pmark.proofs.crew.end_crew.Goals as goal

pub loop-marker-init : goal.loop-marker-init
loop-marker-init c =
    let before = into_iter_items c.into_iter-marker-iterator.result in
    let last = c.in-Some.last in
    let is : c.args.crew.items ≡ before ++ last ∷ [] = search rules in
    let sound = sound_at c.args.table c.args.crew.items c.requires.sound (length before) last (ap (λ (l : List Marker). slice_get l (length before)) is ∙
    at_pushed before last) in
    record {
      all = refl;
      seat_at = sound.seat;
      gathers = gathers_one last sound.alone;
      lists_are = c.new-lists.ensures.items;
      found_is = refl;
    }

pub join-requires : goal.join-requires
join-requires c =
    let ms = c.loop-marker.yielded in
    let m = c.in-Some-marker.marker in
    let rest = c.next.new.self.rest.items in
    let all : ms ++ m ∷ rest ≡ into_iter_items c.into_iter-marker-iterator.result =
    ap (λ (l : List Marker). ms ++ l) (sym c.in-Some-marker.ensures.steps.0) ∙ c.loop-marker.invariant.all in
    let is : c.args.crew.items ≡ into_iter_items c.into_iter-marker-iterator.result ++ c.in-Some.last ∷ [] = search rules in
    let sound = sound_at c.args.table c.args.crew.items c.requires.sound (length ms) m
    (comes_at c.args.crew.items (into_iter_items c.into_iter-marker-iterator.result) c.in-Some.last is ms rest m all) in
    record { seats = (c.loop-marker.invariant.seat_at, sound.seat) }

pub loop-marker-preserved : goal.loop-marker-preserved
loop-marker-preserved c =
    let ms = c.loop-marker.yielded in
    let m = c.in-Some-marker.marker in
    let rest = c.next.new.self.rest.items in
    let all : ms ++ m ∷ rest ≡ into_iter_items c.into_iter-marker-iterator.result =
    ap (λ (l : List Marker). ms ++ l) (sym c.in-Some-marker.ensures.steps.0) ∙ c.loop-marker.invariant.all in
    let is : c.args.crew.items ≡ into_iter_items c.into_iter-marker-iterator.result ++ c.in-Some.last ∷ [] = search rules in
    let sound = sound_at c.args.table c.args.crew.items c.requires.sound (length ms) m
    (comes_at c.args.crew.items (into_iter_items c.into_iter-marker-iterator.result) c.in-Some.last is ms rest m all) in
    record {
      all = append_assoc ms (m ∷ []) rest ∙ all;
      seat_at = c.join.ensures.seat;
      gathers = subst (λ (v : ClaimsSeen). Gathers v (c.in-Some.last ∷
          (ms ++ m ∷ []))) (sym c.join.ensures.both) (gathers_more (seen c.loop-marker.last.seat) (c.in-Some.last ∷
          ms) m c.loop-marker.invariant.gathers sound.alone);
      lists_are = c.in_ok-push.ensures.items ∙ ap (λ (l : List (Room Address)). l ++ m.found ∷ []) c.loop-marker.invariant.lists_are ∙ sym (mapped_more ms m);
      found_is = c.loop-marker.invariant.found_is;
    }

pub close-requires-clause-all : goal.close-requires-clause-all
close-requires-clause-all c =
    let ms = c.loop-marker.yielded in
    let empty : c.loop-marker.marker-iterator.rest.len ≡ 0 = c.in-None.ensures.steps.0 in
    let none : length c.loop-marker.marker-iterator.rest.items ≡ 0 = sym c.loop-marker.marker-iterator.rest.ok.0 ∙ empty in
    let done : into_iter_items c.into_iter-marker-iterator.result ≡ ms = sym c.loop-marker.invariant.all ∙
    ap (λ (l : List Marker). ms ++ l) (none_left (into_iter_items c.loop-marker.marker-iterator) none) ∙ append-nil ms in
    let popped : c.args.crew.items ≡ into_iter_items c.into_iter-marker-iterator.result ++ c.in-Some.last ∷ [] = search rules in
    let is : c.args.crew.items ≡ ms ++ c.in-Some.last ∷ [] = popped ∙ ap (λ (l : List Marker). l ++ c.in-Some.last ∷ []) done in
    has_all c.args.crew.items ms c.in-Some.last is (seen c.loop-marker.last.seat) c.loop-marker.invariant.gathers (bounds_of c.args.table).markers
    c.requires.numbers (search rules)

pub returns : goal.returns
returns c =
    let ms = c.loop-marker.yielded in
    let empty : c.loop-marker.marker-iterator.rest.len ≡ 0 = c.in-None.ensures.steps.0 in
    let none : length c.loop-marker.marker-iterator.rest.items ≡ 0 = sym c.loop-marker.marker-iterator.rest.ok.0 ∙ empty in
    let done : into_iter_items c.into_iter-marker-iterator.result ≡ ms = sym c.loop-marker.invariant.all ∙
    ap (λ (l : List Marker). ms ++ l) (none_left (into_iter_items c.loop-marker.marker-iterator) none) ∙ append-nil ms in
    let popped : c.args.crew.items ≡ into_iter_items c.into_iter-marker-iterator.result ++ c.in-Some.last ∷ [] = search rules in
    let is : c.args.crew.items ≡ ms ++ c.in-Some.last ∷ [] = popped ∙ ap (λ (l : List Marker). l ++ c.in-Some.last ∷ []) done in (
      c.in_ok-push-2.ensures.items ∙ ap (λ (l : List (Room Address)). l ++ c.loop-marker.last.found ∷ []) c.loop-marker.invariant.lists_are ∙
          ap (λ (r : Room Address). map found_of ms ++ r ∷ []) c.loop-marker.invariant.found_is ∙ sym (mapped_more ms c.in-Some.last) ∙
          ap (λ (l : List Marker). map found_of l) (sym is),
      shared_among c.args.crew.items ms c.in-Some.last is (seen c.loop-marker.last.seat) c.loop-marker.invariant.gathers c.close.ensures,
    )
