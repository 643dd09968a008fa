use Rattle.nmgc_mark.proofs.{Vocabulary.◌∙◌, Vocabulary.take, Vocabulary.get_or, Vocabulary.refl, Vocabulary.sym, Vocabulary.subst, Vocabulary.Marks, Vocabulary.IsTied, Vocabulary.with_places, Vocabulary.places, Vocabulary.marked_none, Ties.place_marked, Ties.place_turns, Ties.tied_at, Words.places_more, Fields.marked_more}
use Rattle.nmgc_mark.proofs.marker.Marker.add.Goals as goal

pub loop-at-init : goal.loop-at-init
loop-at-init c = record { marked = marked_none c.args.segments.now c.args.self.now c.requires; turns = refl; tied = λ o m h. h }

pub mark_at-requires : goal.mark_at-requires
mark_at-requires c = c.loop-at.invariant.marked.room

pub loop-at-preserved : goal.loop-at-preserved
loop-at-preserved c =
    let x = get_or c.args.entries.now c.loop-at.at-index (record { 0 = 0 }) in record {
      marked = marked_more c.args.segments.now c.loop-at.segments c.mark_at.new.segments c.args.self.now c.loop-at.self c.mark_at.new.self c.loop-at.invariant.marked
          (place_marked c.loop-at.segments c.mark_at.new.segments c.loop-at.self c.mark_at.new.self x.0 c.loop-at.invariant.marked.room c.mark_at.ensures);
      turns = place_turns c.loop-at.segments c.mark_at.new.segments c.loop-at.self c.mark_at.new.self x.0 c.mark_at.ensures ∙ c.loop-at.invariant.turns;
      tied = λ o m h. subst (λ (k : Marks).
          IsTied o k c.mark_at.new.segments c.mark_at.new.self) (sym (places_more o m c.args.entries.now c.loop-at.at-index (record { 0 = 0 }) c.loop-at-test.true))
          (tied_at o (with_places o m (places (take c.loop-at.at-index c.args.entries.now))) c.loop-at.segments c.mark_at.new.segments c.loop-at.self
          x.0 c.mark_at.new.self (c.loop-at.invariant.tied o m h) c.mark_at.ensures);
    }
