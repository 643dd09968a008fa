-- Rows of cycles that joined the collector's rows and were handed on, step by step.
use Rattle.nmgc_cycle.proofs.Vocabulary.{ℕ, ◌≡◌, List, [], ◌++◌, sym, ap, ◌∙◌, inl, inr, append-nil, append_assoc, All-append, All-nil, ◌<◌, ◌+◌, ◌-◌, ◌^◌, min, arith, CycleRow, Collector, HasStarted, BeginsThen, HandsOn}

-- the row's cycle ended at this stop
abbrev EndedAt : ℕ → CycleRow → Type 0
EndedAt stop row = row.ended ≡ stop

-- after a step that leaves the rows of cycles
pub handed_after : (stop : ℕ) (old same new : Collector) (before after : List CycleRow) → same.rows.cycles ≡ old.rows.cycles →
    HandsOn stop same.rows.cycles new.rows.cycles before after → HandsOn stop old.rows.cycles new.rows.cycles before after
handed_after stop old same new before after e h = (h.0, h.1 ∙ ap (λ (l : List CycleRow). l ++ h.0) e, h.2, h.3)

-- two steps, one after the other
pub handed_twice : (stop : ℕ) (a b c before between after : List CycleRow) → HandsOn stop a b before between → HandsOn stop b c between after →
    HandsOn stop a c before after
handed_twice stop a b c before between after g h = (
  g.0 ++ h.0,
  h.1 ∙ ap (λ (l : List CycleRow). l ++ h.0) g.1 ∙ append_assoc a g.0 h.0,
  h.2 ∙ ap (λ (l : List CycleRow). l ++ h.0) g.2 ∙ append_assoc before g.0 h.0,
  All-append (EndedAt stop) g.0 h.0 g.3 h.3,
)

-- a step that hands none on
pub none_handed : (stop : ℕ) (a b before : List CycleRow) → b ≡ a → HandsOn stop a b before before
none_handed stop a b before e = ([], e ∙ sym (append-nil a), sym (append-nil before), All-nil (EndedAt stop))

-- the beginning of a cycle leaves the rows
pub starts_same : (stop : ℕ) (old new : Collector) → HasStarted stop old new → new.rows.cycles ≡ old.rows.cycles
starts_same stop old new h = ap (λ (x : Collector). x.rows.cycles) h.is ∙ ap (λ (x : Collector). x.rows.cycles) h.starts.rest

pub none_begun : (trigger stop : ℕ) (old new : Collector) (before : List CycleRow) → BeginsThen trigger stop old new →
    HandsOn stop old.rows.cycles new.rows.cycles before before
none_begun trigger stop old new before b = elim b [
  | inl x ↦ none_handed stop old.rows.cycles new.rows.cycles before (starts_same stop old new x.1)
  | inr x ↦ none_handed stop old.rows.cycles new.rows.cycles before (ap (λ (c : Collector). c.rows.cycles) x.1)
]

-- the count of few rows is their number
pub count_is : (n count : ℕ) → count ≡ min n (2 ^ 64 - 1) → n + 1 < 2 ^ 32 → count ≡ n
count_is n count e few = omega (arith, e, few)
