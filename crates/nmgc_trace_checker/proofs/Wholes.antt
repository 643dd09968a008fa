-- A whole trace has a cycle that ends in it, and each such cycle is exact.
use Rattle.nmgc_trace_checker.proofs.{Vocabulary.◌≡◌, Vocabulary.◌⊎◌, Vocabulary.◌+◌, Vocabulary.◌++◌, Vocabulary.ℕ, Vocabulary.refl, Vocabulary.sym, Vocabulary.ap, Vocabulary.subst, Vocabulary.arith, Vocabulary.inl, Vocabulary.inr, Vocabulary.List, Vocabulary.[], Vocabulary.◌∷◌, Vocabulary.length, Vocabulary.get_or, Vocabulary.append_assoc, Vocabulary.length-append, Vocabulary.World, Vocabulary.Lists, Vocabulary.MarksName, Vocabulary.Hybrid, Vocabulary.AreScanned, Vocabulary.hybrid_joint, Vocabulary.some_finisher_in, Vocabulary.hybrid_safety, Vocabulary.CycleResult, Vocabulary.Watch, Vocabulary.CanAct, Vocabulary.AreDone, Vocabulary.Meaning, Vocabulary.Begun, Vocabulary.Report, Vocabulary.Comes, Vocabulary.Happens, Vocabulary.report_of, Vocabulary.Closes, Vocabulary.IsWholeReport, Returning.Stood, Markers.stood_at, Checkings.comes_push}
use Rattle.nmgc_limits.specs.declared.mutators.TheConstants.{REGISTERS}
use Rattle.nmgc_world_spec.specs.declared.value.Value.{Value}
use Rattle.nmgc_world_spec.specs.declared.value.Value.TheVariants as value
use Rattle.nmgc_barrier_checker.specs.{declared.event.Event.Event, declared.rows.Task.Task, Rows.emptied, Watching.AreRows, Watching.Can, Watching.CanExit, Watching.CountsAsScanned, Watching.put, Watching.put_back, Watching.registers_in}
use Rattle.nmgc_trace_checker.specs.Whole.{IsExact}
use Rattle.nmgc_barrier_laws.specs.Hybrid.{WatchesIn}
use Rattle.nmgc_world_spec.specs.{Known.IsWorld, Reach.IsKept}
use Rattle.nmgc_barrier_checker.specs.declared.event.Event.TheVariants as event
use Rattle.nmgc_barrier_checker.specs.declared.watch.Watch.TheVariants as watch
use Rattle.nmgc_trace_checker.specs.declared.meaning.Meaning.TheVariants as meaning
use Rattle.nmgc_trace_checker.specs.declared.report.Begun.TheVariants as begun

-- THE RESULT OF A CLOSE

abbrev left_in : CycleResult → Watch → CycleResult
left_in d (watch.Ended left) = left
left_in d _ = d

not_marking : (left : CycleResult) (h : Hybrid) → watch.Ended left ≡ watch.Marking h → ⊥
not_marking left h e = cc

stopped_marking : (h : Hybrid) → watch.Stopped ≡ watch.Marking h → ⊥
stopped_marking h e = cc

stopped_ended : (left : CycleResult) → watch.Stopped ≡ watch.Ended left → ⊥
stopped_ended left e = cc

-- a cycle goes on after several commands of one line
abbrev IsMarking : Watch → Type 0
IsMarking (watch.Marking h) = Unit {0}
IsMarking _ = ⊥

act_marking : (n m : ℕ) (k : Task) (h : Hybrid) (after : Watch) → CanAct n m k (watch.Marking h) after → IsMarking after
act_marking n m k h after can = subst IsMarking (sym can.3) tt

tasks_stay : (n m : ℕ) (ks : List Task) (q after : Watch) → AreDone n m ks q after → IsMarking q → IsMarking after
tasks_stay n m [] q after h is = subst IsMarking (sym h) is
tasks_stay n m (k ∷ ks) (watch.Marking x) after h is = tasks_stay n m ks h.0 after h.2 (act_marking n m k x h.0 h.1)
tasks_stay n m (k ∷ ks) _ after h is = absurd is

back_marking : (m : ℕ) (held : List Value) (rs : List ℕ) (q : Watch) → IsMarking q → IsMarking (put_back m held rs q)
back_marking m held [] q is = is
back_marking m held (r ∷ rs) (watch.Marking x) is = back_marking m held rs (put m r (get_or held r value.Nil) (watch.Marking x)) tt
back_marking m held (r ∷ rs) _ is = absurd is

rows_marking : (n m : ℕ) (borrowed : List ℕ) (ks : List Task) (h : Hybrid) (after : Watch) → AreRows n m borrowed ks (watch.Marking h) after → IsMarking after
rows_marking n m borrowed ks h after d =
    subst IsMarking (sym d.1.2) (back_marking m (registers_in m (watch.Marking h)) borrowed d.1.0 (tasks_stay n m ks (watch.Marking h) d.1.0 d.1.1 tt))

count_marking : (m : ℕ) (q after : Watch) → CountsAsScanned m q after → IsMarking q → IsMarking after
count_marking m (watch.Marking h) after (inl can) is = subst IsMarking (sym can.2) tt
count_marking m (watch.Between w) after (inl can) is = absurd is
count_marking m (watch.Ended left) after (inl can) is = absurd is
count_marking m watch.Stopped after (inl can) is = absurd is
count_marking m q after (inr stays) is = subst IsMarking (sym stays.0) is

exit_marking : (n m : ℕ) (h : Hybrid) (after : Watch) → CanExit n m (watch.Marking h) after → IsMarking after
exit_marking n m h after can = count_marking m can.0 after can.2 (rows_marking n m [] (emptied REGISTERS) h can.0 can.1)

-- only a close ends a cycle, and its result lists the names that the pushes and the commands keep
kept_by : (n : ℕ) (h : Hybrid) (e : Event) (left : CycleResult) → Can n (watch.Marking h) e (watch.Ended left) → Lists (MarksName h.watch) left.kept
kept_by n h (event.Given m c answer) left can = absurd (not_marking left can.0 can.2)
kept_by n h (event.Rows m borrowed tasks) left can = absurd (rows_marking n m borrowed tasks h (watch.Ended left) can)
kept_by n h (event.Scan m) left can = absurd (not_marking left can.0 can.2)
kept_by n h (event.Hand k answer) left can = absurd (not_marking left can.0 can.3)
kept_by n h (event.Exit m) left can = absurd (exit_marking n m h (watch.Ended left) can)
kept_by n h (event.Push name) left can = absurd (not_marking left (record h { watch = can.0 }) can.2)
kept_by n h (event.Settle m) left can = absurd (not_marking left h can.1)
kept_by n h (event.Take name) left can = absurd (not_marking left (record h { watch = can.0 }) can.2)
kept_by n h event.Close left can = subst (λ (l : CycleResult). Lists (MarksName h.watch) l.kept) (sym (ap (left_in left) can.2)) can.1.kept
kept_by n h (event.CloseWith dead) left can = subst (λ (l : CycleResult). Lists (MarksName h.watch) l.kept) (sym (ap (left_in left) can.2)) can.1.kept
kept_by n h _ left can = absurd can

-- no name is due when a close ends a cycle
paid_by : (n : ℕ) (h : Hybrid) (e : Event) (left : CycleResult) → Can n (watch.Marking h) e (watch.Ended left) → h.watch.debts ≡ []
paid_by n h (event.Given m c answer) left can = absurd (not_marking left can.0 can.2)
paid_by n h (event.Rows m borrowed tasks) left can = absurd (rows_marking n m borrowed tasks h (watch.Ended left) can)
paid_by n h (event.Scan m) left can = absurd (not_marking left can.0 can.2)
paid_by n h (event.Hand k answer) left can = absurd (not_marking left can.0 can.3)
paid_by n h (event.Exit m) left can = absurd (exit_marking n m h (watch.Ended left) can)
paid_by n h (event.Push name) left can = absurd (not_marking left (record h { watch = can.0 }) can.2)
paid_by n h (event.Settle m) left can = absurd (not_marking left h can.1)
paid_by n h (event.Take name) left can = absurd (not_marking left (record h { watch = can.0 }) can.2)
paid_by n h event.Close left can = can.1.ends.debts
paid_by n h (event.CloseWith dead) left can = can.1.ends.debts
paid_by n h _ left can = absurd can

-- and all mutators are scanned
scanned_by : (n : ℕ) (h : Hybrid) (e : Event) (left : CycleResult) → Can n (watch.Marking h) e (watch.Ended left) → AreScanned h
scanned_by n h (event.Given m c answer) left can = absurd (not_marking left can.0 can.2)
scanned_by n h (event.Rows m borrowed tasks) left can = absurd (rows_marking n m borrowed tasks h (watch.Ended left) can)
scanned_by n h (event.Scan m) left can = absurd (not_marking left can.0 can.2)
scanned_by n h (event.Hand k answer) left can = absurd (not_marking left can.0 can.3)
scanned_by n h (event.Exit m) left can = absurd (exit_marking n m h (watch.Ended left) can)
scanned_by n h (event.Push name) left can = absurd (not_marking left (record h { watch = can.0 }) can.2)
scanned_by n h (event.Settle m) left can = absurd (not_marking left h can.1)
scanned_by n h (event.Take name) left can = absurd (not_marking left (record h { watch = can.0 }) can.2)
scanned_by n h event.Close left can = can.3
scanned_by n h (event.CloseWith dead) left can = can.3
scanned_by n h _ left can = absurd can

module _ (h : Hybrid) (left : CycleResult) (w : World) (is : IsWorld w) (paid : h.watch.debts ≡ []) (kept : Lists (MarksName h.watch) left.kept) where
  ends_exact : WatchesIn w h → AreScanned h → IsExact h left
  ends_exact watches scanned = record {
    begins = w;
    is_world = is;
    watches = watches;
    marker = some_finisher_in w is h watches;
    ends = λ s b done. hybrid_joint w is h watches paid s b done;
    marks = λ s next b possible closing name.
        let e = (hybrid_joint w is h watches paid s b (record { queue = possible.1; pushed = possible.3 })).marks next closing name in
        (λ m. kept.complete name (e.0 m), λ k. e.1 (kept.sound name k));
    keeps = λ name live there. kept.complete name (IsKept.live name (hybrid_safety w is h watches scanned paid name live there));
  }

exact : (lines : List Meaning) (h : Hybrid) (left : CycleResult) → Closes lines h left → IsExact h left
exact lines h left c =
    let t : Stood h = stood_at c.earlier h c.comes in
    let paid : h.watch.debts ≡ [] = paid_by (length c.earlier + 1) h c.close left c.ends in
    let kept : Lists (MarksName h.watch) left.kept = kept_by (length c.earlier + 1) h c.close left c.ends in
    ends_exact h left t.begins t.is paid kept t.watches (scanned_by (length c.earlier + 1) h c.close left c.ends)

-- A CYCLE THAT ENDS

abbrev IsOver : Begun → Type 0
IsOver (begun.Watching (watch.Ended left)) = Unit {0}
IsOver (begun.Watching watch.Stopped) = Unit {0}
IsOver _ = ⊥

-- the line of this number ends a cycle
record Ends (n : ℕ) (p : Begun) (t : Meaning) : Type 0 where
  cycle : Hybrid
  left : CycleResult
  close : Event
  before : p ≡ begun.Watching (watch.Marking cycle)
  line : t ≡ meaning.Event close
  can : Can n (watch.Marking cycle) close (watch.Ended left)

-- before the first cycle, several tasks of one line begin no cycle
tasks_between : (n m : ℕ) (ks : List Task) (w : World) (after : Watch) → AreDone n m ks (watch.Between w) after → IsOver (begun.Watching after) → ⊥
tasks_between n m [] w after h over = subst (λ (q : Watch). IsOver (begun.Watching q)) h over
tasks_between n m (k ∷ ks) w after h over =
    let D : Watch → Type 0 = λ q. AreDone n m ks q after in
    tasks_between n m ks h.1.0 after (subst D h.1.2 h.2) over

-- values that are put back end no cycle
back_over : (m : ℕ) (held : List Value) (rs : List ℕ) (q : Watch) → IsOver (begun.Watching (put_back m held rs q)) → IsOver (begun.Watching q)
back_over m held [] q over = over
back_over m held (r ∷ rs) (watch.Between w) over = back_over m held rs (put m r (get_or held r value.Nil) (watch.Between w)) over
back_over m held (r ∷ rs) (watch.Marking h) over = back_over m held rs (put m r (get_or held r value.Nil) (watch.Marking h)) over
back_over m held (r ∷ rs) (watch.Ended left) over = tt
back_over m held (r ∷ rs) watch.Stopped over = tt

rows_between : (n m : ℕ) (borrowed : List ℕ) (ks : List Task) (w : World) (after : Watch) → AreRows n m borrowed ks (watch.Between w) after →
    IsOver (begun.Watching after) → ⊥
rows_between n m borrowed ks w after d over =
    tasks_between n m ks w d.1.0 d.1.1 (back_over m (registers_in m (watch.Between w)) borrowed d.1.0
    (subst (λ (q : Watch). IsOver (begun.Watching q)) d.1.2 over))

-- a mutator that counts as scanned ends no cycle
over_before : (m : ℕ) (q after : Watch) → CountsAsScanned m q after → IsOver (begun.Watching after) → IsOver (begun.Watching q)
over_before m (watch.Marking h) after (inl can) over = subst (λ (x : Watch). IsOver (begun.Watching x)) can.2 over
over_before m (watch.Between w) after (inl can) over = absurd can
over_before m (watch.Ended left) after (inl can) over = tt
over_before m watch.Stopped after (inl can) over = tt
over_before m q after (inr stays) over = subst (λ (x : Watch). IsOver (begun.Watching x)) stays.0 over

-- before the first cycle no event ends a cycle
not_over : (n : ℕ) (w : World) (e : Event) (after : Watch) → Can n (watch.Between w) e after → IsOver (begun.Watching after) → ⊥
not_over n w (event.Given m c answer) after can over = subst (λ (q : Watch). IsOver (begun.Watching q)) can.2 over
not_over n w (event.Rows m borrowed tasks) after can over = rows_between n m borrowed tasks w after can over
not_over n w (event.Hand k answer) after can over = subst (λ (q : Watch). IsOver (begun.Watching q)) can.2 over
not_over n w (event.Exit m) after can over =
    rows_between n m [] (emptied REGISTERS) w can.0 can.1 (over_before m can.0 after can.2 over)
not_over n w event.Mark after can over = subst (λ (q : Watch). IsOver (begun.Watching q)) can over
not_over n w event.MarkShared after can over = subst (λ (q : Watch). IsOver (begun.Watching q)) can over
not_over n w _ after can over = can

-- one event never leads from a cycle to the stop
not_stopped : (n : ℕ) (h : Hybrid) (e : Event) → Can n (watch.Marking h) e watch.Stopped → ⊥
not_stopped n h (event.Given m c answer) can = stopped_marking can.0 can.2
not_stopped n h (event.Rows m borrowed tasks) can = rows_marking n m borrowed tasks h watch.Stopped can
not_stopped n h (event.Scan m) can = stopped_marking can.0 can.2
not_stopped n h (event.Hand k answer) can = stopped_marking can.0 can.3
not_stopped n h (event.Exit m) can = exit_marking n m h watch.Stopped can
not_stopped n h (event.Push name) can = stopped_marking (record h { watch = can.0 }) can.2
not_stopped n h (event.Settle m) can = stopped_marking h can.1
not_stopped n h (event.Take name) can = stopped_marking (record h { watch = can.0 }) can.2
not_stopped n h event.Close can = stopped_ended can.0 can.2
not_stopped n h (event.CloseWith dead) can = stopped_ended can.0 can.2
not_stopped n h _ can = can

over_by : (n : ℕ) (q : Watch) (e : Event) (after : Watch) → Can n q e after → IsOver (begun.Watching after) → IsOver (begun.Watching q) ⊎
    Ends n (begun.Watching q) (meaning.Event e)
over_by n (watch.Between w) e after can over = absurd (not_over n w e after can over)
over_by n (watch.Marking h) e (watch.Ended left) can over = inr (record { cycle = h; left = left; close = e; before = refl; line = refl; can = can })
over_by n (watch.Marking h) e watch.Stopped can over = absurd (not_stopped n h e can)
over_by n (watch.Marking h) e _ can over = absurd over
over_by n _ e after can over = inl tt

ends_at : (n : ℕ) (p : Begun) (t : Meaning) (next : Begun) → Happens n p t next → IsOver next → IsOver p ⊎ Ends n p t
ends_at n p meaning.Blank next h over = inl (subst IsOver h over)
ends_at n begun.Nothing (meaning.Mutators count) next h over = absurd (subst IsOver h.2 over)
ends_at n (begun.Watching q) (meaning.Mutators count) next h over = absurd h
ends_at n begun.Nothing (meaning.Event e) next h over = absurd h
ends_at n (begun.Watching q) (meaning.Event e) next h over = over_by n q e h.0 h.1 (subst IsOver h.2 over)
ends_at n p meaning.Unknown next h over = absurd h

abbrev HasCycle : List Meaning → Type 0
HasCycle lines = (h : Hybrid) × (left : CycleResult) × Closes lines h left

closing : (earlier later : List Meaning) (n : ℕ) (p : Begun) (t : Meaning) → n ≡ length earlier + 1 → Comes 1 begun.Nothing earlier p → Ends n p t →
    HasCycle (earlier ++ t ∷ later)
closing earlier later n p t count comes e = (
  e.cycle,
  e.left,
  record {
    earlier = earlier;
    close = e.close;
    later = later;
    lines_are = ap (λ (x : Meaning). earlier ++ x ∷ later) e.line;
    comes = subst (Comes 1 begun.Nothing earlier) e.before comes;
    ends = subst (λ (k : ℕ). Can k (watch.Marking e.cycle) e.close (watch.Ended e.left)) count e.can;
  },
)

has_cycle : (earlier later : List Meaning) (n : ℕ) (p last : Begun) → n ≡ length earlier + 1 → Comes 1 begun.Nothing earlier p → Comes n p later last →
    IsOver last → IsOver p ⊎ HasCycle (earlier ++ later)
has_cycle earlier [] n p last count before c over = inl (subst IsOver c over)
has_cycle earlier (t ∷ ts) n p last count before c over =
    let more : length (earlier ++ t ∷ []) ≡ length earlier + 1 = length-append earlier (t ∷ []) in
    let whole : (earlier ++ t ∷ []) ++ ts ≡ earlier ++ t ∷ ts = append_assoc earlier (t ∷ []) ts in
    let comes : Comes 1 begun.Nothing (earlier ++ t ∷ []) c.0 = comes_push 1 begun.Nothing p c.0 earlier t n (omega arith) before c.1 in
    elim (has_cycle (earlier ++ t ∷ []) ts (n + 1) c.0 last (omega arith) comes c.2 over) [
      | inl after ↦ elim (ends_at n p t c.0 c.1 after) [
        | inl is ↦ inl is
        | inr ends ↦ inr (closing earlier ts n p t count before ends)
      ]
      | inr found ↦ inr (subst HasCycle whole found)
    ]

-- THE REPORT

pub whole_report : (lines : List Meaning) (p : Begun) (r : Report) → Comes 1 begun.Nothing lines p → r ≡ report_of p → IsWholeReport lines r
whole_report lines p r c e = subst (IsWholeReport lines) (sym e) (by_last p c)
  where
    found : IsOver begun.Nothing ⊎ HasCycle lines → HasCycle lines
    found (inl over) = absurd over
    found (inr is) = is

    by_last : (q : Begun) → Comes 1 begun.Nothing lines q → IsWholeReport lines (report_of q)
    by_last (begun.Watching watch.Stopped) k = (found (has_cycle [] lines 1 begun.Nothing (begun.Watching watch.Stopped) refl refl k tt), exact lines)
    by_last _ k = tt
