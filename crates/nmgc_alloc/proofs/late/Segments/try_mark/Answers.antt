use Rattle.nmgc_alloc.proofs.Vocabulary.{ℕ, Bool, ◌≡◌, ◌<◌, ◌↔◌, ◌∙◌, ap, subst, sym, set, nth, block_count, IsTrue, Segment, Segments, HasNumber, IsToMark, marked_if, seen_late}
use Rattle.nmgc_alloc.proofs.LateLaws.{exists_seen, raw_seen, to_mark_seen, marked_seen, none_marked, sound_seen}
use Rattle.nmgc_alloc.proofs.late.Segments.try_mark.Goals as goal

there : (late : Bool) (done now : Segments) (n : ℕ) → seen_late late done ≡ now → HasNumber now n → HasNumber done n
there late done now n seen exists = (exists_seen late done n).1 (subst (λ (s : Segments). HasNumber s n) (sym seen) exists)

pub try_mark-requires-clause-exists : goal.try_mark-requires-clause-exists
try_mark-requires-clause-exists c = there c.self.inside.late c.self.inside.done c.args.self.now c.args.number c.self.view_is c.requires.exists

pub try_mark-requires-clause-block : goal.try_mark-requires-clause-block
try_mark-requires-clause-block c =
    let exists = there c.self.inside.late c.self.inside.done c.args.self.now c.args.number c.self.view_is c.requires.exists in
    subst (λ (x : Segment). c.args.block < block_count x) (sym (raw_seen c.self.inside.late c.self.inside.done c.args.number exists))
    (subst (λ (s : Segments). c.args.block < block_count (nth s.segments c.args.number)) (sym c.self.view_is) c.requires.block)

pub invariant_of-self : goal.invariant_of-self
invariant_of-self c =
    let exists = there c.self.inside.late c.self.inside.done c.args.self.now c.args.number c.self.view_is c.requires.exists in
    none_marked c.self.inside.late c.self.inside.done c.try_mark.new.self c.args.number c.args.epoch c.args.block c.try_mark.result exists c.self.invariant
    c.try_mark.ensures.value

pub returns-clause-answer : goal.returns-clause-answer
returns-clause-answer c =
    let exists = there c.self.inside.late c.self.inside.done c.args.self.now c.args.number c.self.view_is c.requires.exists in
    subst (λ (s : Segments). IsTrue c.try_mark.result ↔ IsToMark (nth s.segments c.args.number) c.args.epoch c.args.block) c.self.view_is
    (to_mark_seen c.self.inside.late c.self.inside.done c.args.number c.args.epoch c.args.block c.try_mark.result c.layout.ensures.sound exists
    c.try_mark.ensures.answer)

pub returns-clause-value : goal.returns-clause-value
returns-clause-value c =
    let exists = there c.self.inside.late c.self.inside.done c.args.self.now c.args.number c.self.view_is c.requires.exists in
    marked_seen c.self.inside.late c.self.inside.done c.try_mark.new.self c.args.number c.args.epoch c.args.block c.try_mark.result c.layout.ensures.sound exists
    c.try_mark.ensures.value ∙
    ap (λ (s : Segments). let t : Segments = record s {
      segments = set s.segments c.args.number (marked_if c.try_mark.result c.args.epoch c.args.block (nth s.segments c.args.number));
    } in t) c.self.view_is

pub returns-clause-sound : goal.returns-clause-sound
returns-clause-sound c = sound_seen c.self.inside.late c.try_mark.new.self c.try_mark.ensures.sound
