use Rattle.nmgc_image.proofs.{Vocabulary.◌≡◌, Vocabulary.◌∙◌, Vocabulary.◌++◌, Vocabulary.◌∷◌, Vocabulary.[], Vocabulary.List, Vocabulary.length, Vocabulary.sym, Vocabulary.ap, Vocabulary.subst, Vocabulary.Some, Vocabulary.All, Vocabulary.slice_get, Vocabulary.MutatorEnd, Vocabulary.Image, Vocabulary.ImageMutator, Vocabulary.IsReadableObject, Vocabulary.CanShowOwn, Vocabulary.spaced, Vocabulary.first_words, Vocabulary.mutator_lines, Vocabulary.printed, ShownImage.all_items, ShownImage.shown_is_image, Standing.can_show, Standing.ready, Standing.wide_readable, Standing.reached_wide, Standing.shows, Written.image_written}
use Rattle.nmgc_image.proofs.write.write_image.Goals as goal

pub places_of-requires : goal.places_of-requires
places_of-requires c = ready c.args.report.now c.requires.0 c.requires.1

pub mutators_of-requires : goal.mutators_of-requires
mutators_of-requires c = subst (All (CanShowOwn c.args.report.now.words)) (sym c.items.ensures) (can_show c.args.report.now c.requires.0 c.requires.1)

pub push_objects_at-requires : goal.push_objects_at-requires
push_objects_at-requires c =
    let report = c.args.report.now in
    all_items (IsReadableObject report.words) c.in_ok-places.places.items (λ at held.
    wide_readable report c.requires.0 c.requires.1 at (reached_wide report c.requires.0 c.requires.1 at ((c.in_ok-places.ensures at).0 held)))

pub returns : goal.returns
returns c = λ w left.
    let report = c.args.report.now in
    let mutators : List ImageMutator = c.in_ok-mutators.mutators in
    let written = c.in_ok-push_objects_at.ensures in
    let image : Image = record { mutators = mutators; nodes = written.0 } in
    let is = shows report w left c.in_ok-places.places.items image c.in_ok-places.ensures (c.in_ok-mutators.ensures.count ∙ ap length c.items.ensures)
    (λ m own shown e f. c.in_ok-mutators.ensures.shown m own shown (subst (λ (l : List MutatorEnd). slice_get l m ≡ Some own) (sym c.items.ensures) e) f)
    written.1 in (
      image,
      is,
      record {
        text = image_written mutators written.0 c.new-out.result.items c.push_start.new.out.items c.push_objects_at.new.out.items c.push_text.new.out.items
            c.new-out.ensures.items (subst (λ (l : List ImageMutator).
            c.push_start.new.out.items ≡ (c.new-out.result.items ++ (spaced (first_words (length l)) ++ 10 ∷ [])) ++ printed (mutator_lines 0 l)) c.items-2.ensures c.in_ok-push_start.ensures)
            written.2 c.in_ok-push_text.ensures;
        valid = shown_is_image left.limit w image left.small left.world left.within is;
      },
    )
