-- A checker that tried a line.
use Rattle.std.proofs.Common.{List, None, Option, Some, inl, inr, refl, subst, sym, ℕ, ◌∙◌, ◌≡◌}
use Rattle.nmgc_field_checker.specs.{declared.event.FieldEvent.FieldEvent, declared.event.FieldWhy.FieldWhy, declared.watch.FieldWatch.FieldWatch, Watching.CountsDuesIf, Watching.IsStep}
use Rattle.nmgc_field_reader.specs.{declared.report.FieldRefusal.FieldRefusal, FieldLines.IsMeant, FieldReading.event_at, FieldTraces.FieldTrace, FieldTraces.HasTaken, FieldTraces.HasTriedBy}
use Rattle.nmgc_field_reader.specs.declared.report.FieldRefusal.TheVariants as refusal
use Rattle.nmgc_field_reader.proofs.LineReads.{line_meant}

-- the tokens mean no event
pub tried_unknown : (n : ℕ) (words : List (List ℕ)) (p : FieldTrace) (read : Option FieldEvent) → read ≡ event_at p.known words → read ≡ None →
    HasTriedBy n words p (Some refusal.Unknown) p
tried_unknown n words p read is none =
    (subst (λ (o : Option FieldEvent). IsMeant p.known words o) none (line_meant p.known words read is), refl, refl)

-- the tokens mean this event, which was tried
pub tried_event : (n : ℕ) (words : List (List ℕ)) (p next : FieldTrace) (read : Option FieldEvent) (e : FieldEvent) (refused : Option FieldRefusal) →
    read ≡ event_at p.known words → read ≡ Some e → HasTaken n words e p refused next → HasTriedBy n words p refused next
tried_event n words p next read e None is some taken =
    (e, record { means = subst (λ (o : Option FieldEvent). IsMeant p.known words o) some (line_meant p.known words read is); takes = taken })
tried_event n words p next read e (Some refusal.Unknown) is some taken = absurd taken
tried_event n words p next read e (Some (refusal.Event y)) is some taken =
    ((e, subst (λ (o : Option FieldEvent). IsMeant p.known words o) some (line_meant p.known words read is), taken.0), taken.1, taken.2)
