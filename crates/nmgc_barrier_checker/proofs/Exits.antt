-- The end of a mutator: its registers are emptied by tasks of one line, and then it counts as scanned.
use Rattle.nmgc_barrier_checker.proofs.Vocabulary.{◌≡◌, ◌<◌, ◌∙◌, ℕ, List, [], ap, sym, subst, true, false, is_some, inl, inr, Option, Some, None, REGISTERS, Why, Task, Watch, AreRows, CanRows, WhyScan, NeedsNoScan, IsStep, Can, mutators_of, registers_in, emptied}
use Rattle.nmgc_barrier_checker.proofs.Borrowed.{back_count, done_count}
use Rattle.nmgc_barrier_checker.specs.CameDue.{CountsDues, CountsDuesIf}
use Rattle.nmgc_barrier_checker.specs.declared.event.Event.TheVariants as event
use Rattle.nmgc_barrier_checker.specs.declared.watch.Watch.TheVariants as watch

-- the mutator of several tasks is there after them
place_after : (line m : ℕ) (borrowed : List ℕ) (ks : List Task) (p next : Watch) → AreRows line m borrowed ks p next → m < mutators_of next
place_after line m borrowed ks p next h =
    subst (λ (n : ℕ). m < n) (sym (ap mutators_of h.1.2 ∙ (back_count m (registers_in m p) borrowed h.1.0 ∙ done_count line m ks p h.1.0 h.1.1))) h.0

pub rows_place : (line m : ℕ) (borrowed : List ℕ) (ks : List Task) (p next : Watch) → CanRows line m borrowed ks p next → m < mutators_of next
rows_place line m borrowed ks (watch.Between w) next h = place_after line m borrowed ks (watch.Between w) next h
rows_place line m borrowed ks (watch.Marking x) next h = place_after line m borrowed ks (watch.Marking x) next h
rows_place line m borrowed ks (watch.Ended left) next h = place_after line m borrowed ks (watch.Ended left) next h
rows_place line m borrowed ks watch.Stopped next h = absurd h

-- a mutator that is there and can't be scanned needs no scan
no_need : (m : ℕ) (p : Watch) (y : Why) → m < mutators_of p → WhyScan m p y → NeedsNoScan m p
no_need m (watch.Between w) y lt h = tt
no_need m (watch.Marking k) y lt (inl h) = absurd (h.1 lt)
no_need m (watch.Marking k) y lt (inr h) = h.1
no_need m (watch.Ended left) y lt h = tt
no_need m watch.Stopped y lt h = tt

-- the registers were emptied, and a scan was tried
pub exits : (line m : ℕ) (p between next : Watch) (emptying scan : Option Why) → IsStep line p (event.Rows m [] (emptied REGISTERS)) emptying between →
    is_some emptying ≡ false → IsStep 0 between (event.Scan m) scan next → Can line p (event.Exit m) next
exits line m p between next None None rows e s = (between, rows, inl s)
exits line m p between next None (Some y) rows e s =
    (between, rows, inr (s.0, no_need m between y (rows_place line m [] (emptied REGISTERS) p between rows) s.1))
exits line m p between next (Some y) scan rows e s = absurd cc

-- the registers couldn't be emptied
pub stays : (line m : ℕ) (p next : Watch) (emptying : Option Why) → IsStep line p (event.Rows m [] (emptied REGISTERS)) emptying next →
    is_some emptying ≡ true → IsStep line p (event.Exit m) emptying next
stays line m p next None rows e = absurd cc
stays line m p next (Some y) rows e = (rows.0, rows.1)

-- the dues of commands that emptied the registers
pub exit_counts : (line m : ℕ) (p : Watch) (emptying : Option Why) (before after : ℕ) → is_some emptying ≡ false →
    CountsDuesIf line p (event.Rows m [] (emptied REGISTERS)) emptying before after → CountsDues line p (event.Exit m) before after
exit_counts line m p None before after e h = h
exit_counts line m p (Some y) before after e h = absurd cc
