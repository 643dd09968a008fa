-- The text of a run's events is the text of its report.
use Rattle.std.proofs.Common.{ℕ, zero, suc, ◌≡◌, ◌+◌, ◌<◌, ◌≤◌, ◌++◌, List, [], ◌∷◌, length, refl, sym, ap, ◌∙◌, arith, append_assoc, append-nil, length-append, Option, Some}
use Rattle.std.specs.Prelude.{All, true, false, codes, slice_get, ◌==◌}
use Rattle.std.specs.{List.flat_map, Option.option_map_or}
use Rattle.std.proofs.lemmas.{Bool.Decides.nat_tests, List.Elements.All-append, List.Elements.All-cons, List.Elements.All-head, List.Elements.All-nil, List.Elements.All-tail, List.Elements.filter-append}
use Rattle.nmgc_journal.specs.{Printing.ended_at, Printing.round_text, Printing.stop_text, Text.cycle_text, Text.end_text, Text.rounds_text, Text.stop_at, Text.stop_line, declared.report.CycleRow.CycleRow, declared.report.RoundRows.RoundRows, declared.report.StopRow.StopRow}
use Rattle.nmgc_cycle.specs.{EventTexts.ReportIsEvents, EventTexts.events_text, declared.observer.Event.Event, Observed.AlternateFrom, Observed.AreNumbered, Observed.cycles_in, Observed.rounds_in, Observed.stop_follows, Observed.stops_in, Shown.report_cycles}
use Rattle.nmgc_cycle.specs.declared.observer.Event.TheVariants as event

-- cycles that ended before a stop, at it, and from it on
abbrev EndedBefore : ℕ → CycleRow → Type 0
EndedBefore n cycle = cycle.ended < n

abbrev EndedThere : ℕ → CycleRow → Type 0
EndedThere n cycle = cycle.ended ≡ n

abbrev EndedFrom : ℕ → CycleRow → Type 0
EndedFrom n cycle = n ≤ cycle.ended

differ_less : (a b : ℕ) → a < b → (a == b) ≡ false
differ_less a b less = grind (arith, nat_tests)

differ_more : (a b : ℕ) → b < a → (a == b) ≡ false
differ_more a b less = grind (arith, nat_tests)

same_test : (a b : ℕ) → a ≡ b → (a == b) ≡ true
same_test a b e = grind (arith, nat_tests)

none_before : (n : ℕ) (cycles : List CycleRow) → All (EndedBefore n) cycles → ended_at n cycles ≡ []
none_before n [] h = refl
none_before n (cycle ∷ cycles) h = rw (differ_less cycle.ended n (All-head (EndedBefore n) cycle cycles h))
    (none_before n cycles (All-tail (EndedBefore n) cycle cycles h))

none_after : (n : ℕ) (cycles : List CycleRow) → All (EndedFrom (n + 1)) cycles → ended_at n cycles ≡ []
none_after n [] h = refl
none_after n (cycle ∷ cycles) h =
    let later = All-head (EndedFrom (n + 1)) cycle cycles h in
    rw (differ_more cycle.ended n (omega (arith, later))) (none_after n cycles (All-tail (EndedFrom (n + 1)) cycle cycles h))

all_there : (n : ℕ) (cycles : List CycleRow) → All (EndedThere n) cycles → ended_at n cycles ≡ cycles
all_there n [] h = refl
all_there n (cycle ∷ cycles) h = rw (same_test cycle.ended n (All-head (EndedThere n) cycle cycles h))
    (ap (λ (l : List CycleRow). cycle ∷ l) (all_there n cycles (All-tail (EndedThere n) cycle cycles h)))

-- the cycles of one stop among all
one_stop : (n : ℕ) (before cycles later : List CycleRow) → All (EndedBefore n) before → All (EndedThere n) cycles → All (EndedFrom (n + 1)) later →
    ended_at n (before ++ (cycles ++ later)) ≡ cycles
one_stop n before cycles later a b c =
    filter-append (λ (cycle : CycleRow). cycle.ended == n) before (cycles ++ later)
    ∙ ap (λ (l : List CycleRow). l ++ ended_at n (cycles ++ later)) (none_before n before a)
    ∙ filter-append (λ (cycle : CycleRow). cycle.ended == n) cycles later
    ∙ ap (λ (l : List CycleRow). l ++ ended_at n later) (all_there n cycles b)
    ∙ ap (λ (l : List CycleRow). cycles ++ l) (none_after n later c) ∙ append-nil cycles

weaker : (F G : CycleRow → Type 0) (cycles : List CycleRow) → ((c : CycleRow) → F c → G c) → All F cycles → All G cycles
weaker F G [] f h = All-nil G
weaker F G (cycle ∷ cycles) f h = All-cons G cycle cycles (f cycle (All-head F cycle cycles h)) (weaker F G cycles f (All-tail F cycle cycles h))

-- numbered events have no cycle that ended earlier
ended_from : (n : ℕ) (events : List Event) → AreNumbered n events → All (EndedFrom n) (cycles_in events)
ended_from n [] h = All-nil (EndedFrom n)
ended_from n (event.Stop row cycles ∷ events) h = All-append (EndedFrom n) cycles (cycles_in events)
    (weaker (EndedThere n) (EndedFrom n) cycles (λ c e. omega (arith, e)) h.1)
    (weaker (EndedFrom (n + 1)) (EndedFrom n) (cycles_in events) (λ c e. omega (arith, e)) (ended_from (n + 1) events h.2))
ended_from n (event.Round rows ∷ events) h = ended_from n events h

row_there : (before later : List StopRow) (row : StopRow) (n : ℕ) → length before ≡ n → slice_get (before ++ row ∷ later) n ≡ Some row
row_there [] later row zero e = refl
row_there [] later row (suc n) e = absurd (omega (arith, e))
row_there (b ∷ before) later row zero e = absurd (omega (arith, e))
row_there (b ∷ before) later row (suc n) e = row_there before later row n (omega (arith, e))

-- the lines of a stop in the report
stop_there : (stops : List StopRow) (cycles own : List CycleRow) (n : ℕ) (row : StopRow) → slice_get stops n ≡ Some row → ended_at n cycles ≡ own →
    stop_at stops cycles n ≡ stop_text row own
stop_there stops cycles own n row e f =
    ap (λ (o : Option StopRow). option_map_or (λ (stop : StopRow). stop_line stop ++ flat_map cycle_text (ended_at n cycles)) o []) e
    ∙ ap (λ (l : List CycleRow). stop_line row ++ flat_map cycle_text l) f

true_false : true ≡ false → ⊥
true_false e = cc

-- events after a stop, to the last stop: the text of the rounds of the report
text_on : (stops : List StopRow) (cycles : List CycleRow) (n : ℕ) (before : List StopRow) (ended : List CycleRow) (events : List Event) →
    length before ≡ n → stops ≡ before ++ stops_in events → cycles ≡ ended ++ cycles_in events → All (EndedBefore n) ended → AlternateFrom false events →
    stop_follows false events ≡ false → AreNumbered n events → events_text n events ≡ rounds_text stops cycles n (rounds_in events)
text_on stops cycles n before ended [] count s c old turns last numbers = refl
text_on stops cycles n before ended (event.Stop row own ∷ events) count s c old turns last numbers = absurd (true_false (sym turns.0))
text_on stops cycles n before ended (event.Round rows ∷ []) count s c old turns last numbers = absurd (true_false last)
text_on stops cycles n before ended (event.Round rows ∷ event.Round others ∷ events) count s c old turns last numbers = absurd (true_false turns.1.0)
text_on stops cycles n before ended (event.Round rows ∷ event.Stop row own ∷ events) count s c old turns last numbers =
    let there : slice_get stops n ≡ Some row = ap (λ (l : List StopRow). slice_get l n) s ∙ row_there before (stops_in events) row n count in
    let is : ended_at n cycles ≡ own = ap (λ (l : List CycleRow). ended_at n l) c
    ∙ one_stop n ended own (cycles_in events) old numbers.1 (ended_from (n + 1) events numbers.2) in
    let long = length-append before (row ∷ []) in
    let then : events_text (row.number + 1) events ≡ rounds_text stops cycles (n + 1) (rounds_in events) =
    ap (λ (k : ℕ). events_text (k + 1) events) numbers.0
    ∙ text_on stops cycles (n + 1) (before ++ row ∷ []) (ended ++ own) events (omega (arith, count, long))
    (s ∙ sym (append_assoc before (row ∷ []) (stops_in events))) (c ∙ sym (append_assoc ended own (cycles_in events)))
    (All-append (EndedBefore (n + 1)) ended own (weaker (EndedBefore n) (EndedBefore (n + 1)) ended (λ c e. omega (arith, e)) old)
    (weaker (EndedThere n) (EndedBefore (n + 1)) own (λ c e. omega (arith, e)) numbers.1)) turns.1.1 last numbers.2 in
    ap (λ (l : List ℕ). round_text n rows ++ (stop_text row own ++ l)) then
    ∙ ap (λ (l : List ℕ). round_text n rows ++ (l ++ rounds_text stops cycles (n + 1) (rounds_in events))) (sym (stop_there stops cycles own n row there is))
    ∙ sym (append_assoc (round_text n rows) (stop_at stops cycles n) (rounds_text stops cycles (n + 1) (rounds_in events)))

-- all events: the text of the report without its first line and its last one
all_text : (stops : List StopRow) (cycles : List CycleRow) (events : List Event) → stops_in events ≡ stops → cycles_in events ≡ cycles →
    AlternateFrom true events → stop_follows true events ≡ false → AreNumbered 0 events →
    events_text 0 events ≡ stop_at stops cycles 0 ++ rounds_text stops cycles 1 (rounds_in events)
all_text stops cycles [] s c turns last numbers = absurd (true_false last)
all_text stops cycles (event.Round rows ∷ events) s c turns last numbers = absurd (true_false turns.0)
all_text stops cycles (event.Stop row own ∷ events) s c turns last numbers =
    let there : slice_get stops 0 ≡ Some row = ap (λ (l : List StopRow). slice_get l 0) (sym s) in
    let is : ended_at 0 cycles ≡ own = ap (λ (l : List CycleRow). ended_at 0 l) (sym c)
    ∙ one_stop 0 [] own (cycles_in events) (All-nil (EndedBefore 0)) numbers.1 (ended_from 1 events numbers.2) in
    ap (λ (k : ℕ). stop_text row own ++ events_text (k + 1) events) numbers.0
    ∙ ap (λ (l : List ℕ). stop_text row own ++ l) (text_on stops cycles 1 (row ∷ []) own events refl (sym s) (sym c)
    (weaker (EndedThere 0) (EndedBefore 1) own (λ c e. omega (arith, e)) numbers.1) turns.1 last numbers.2)
    ∙ ap (λ (l : List ℕ). l ++ rounds_text stops cycles 1 (rounds_in events)) (sym (stop_there stops cycles own 0 row there is))

pub report_is_events : ReportIsEvents
report_is_events c end events h =
    let first : List ℕ = codes "report 1\n" in
    let cycles : List CycleRow = report_cycles c in
    let all : events_text 0 events ≡ stop_at c.rows.stops cycles 0 ++ rounds_text c.rows.stops cycles 1 (rounds_in events) =
    all_text c.rows.stops cycles events h.stops h.cycles h.alternate h.next h.numbered in
    ap (λ (l : List ℕ). (first ++ l) ++ end_text end) all
    ∙ ap (λ (l : List RoundRows). (first ++ (stop_at c.rows.stops cycles 0 ++ rounds_text c.rows.stops cycles 1 l)) ++ end_text end) h.rounds
    ∙ ap (λ (l : List ℕ). l ++ end_text end) (sym (append_assoc first (stop_at c.rows.stops cycles 0) (rounds_text c.rows.stops cycles 1 c.rows.rounds)))
