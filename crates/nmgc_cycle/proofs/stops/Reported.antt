-- The report of a run that has ended.
use Rattle.nmgc_cycle.proofs.Vocabulary.{ℕ, ◌≡◌, List, [], ◌∷◌, map, refl, sym, ap, ◌∙◌, Option, Some, Name, CycleRow, MutatorEnd, End, HeapFull, IsLawfulAtStop, plan_of, ends_of, Place, Script, OldWeak, names_of, places_of, Collector, IsWellFormed, HasStopped, HasEnded, seen, report_cycles, words_in, report_of}
use Rattle.nmgc_journal.specs.declared.report.End.TheVariants.{Done}

pub stopped_by : (script : Script) (c : Collector) (end : End) → HasEnded script c end → HasStopped script c × (c.answered ≡ Some end)
stopped_by script c Done h = h
stopped_by script c (HeapFull free reserve) h = h

pub kept_of : (script : Script) (c : Collector) (end : End) → HasEnded script c end → IsWellFormed script c
kept_of script c end h = (stopped_by script c end h).0.1.kept

-- the names of the list are its addresses' names
names_are : (list : List OldWeak) → names_of list ≡ map (λ (p : Place). p.name) (places_of list)
names_are [] = refl
names_are (weak ∷ list) = ap (λ (l : List Name). weak.weak ∷ l) (names_are list)

-- it reports the run, to the end that the last stop answered
pub reported : (script : Script) (c : Collector) (end : End) → HasEnded script c end → IsLawfulAtStop (plan_of script) (report_of c end)
reported script c end h =
    let stopped = stopped_by script c end h in
    let at_stop = stopped.0.1.at_stop in
    record {
      run = stopped.0.0;
      is_run = at_stop.is_run;
      agrees = at_stop.agrees;
      end_is = sym at_stop.answered ∙ stopped.1;
      heap = ((seen c).weaks, names_are c.heap.weaks.list, at_stop.heap);
    }

-- a report with these parts is the collector's
pub same_parts : (c : Collector) (end : End) (cycles : List CycleRow) (words : List ℕ) (mutators : List MutatorEnd) (weaks : List Name) →
    cycles ≡ report_cycles c → words ≡ (seen c).words → mutators ≡ ends_of (seen c) → weaks ≡ names_of c.heap.weaks.list →
    record (report_of c end) { cycles = cycles; words = words; mutators = mutators; weaks = weaks } ≡ report_of c end
same_parts c end cycles words mutators weaks cycles_are words_are mutators_are weaks_are = sym (
    ap (λ (rows : List CycleRow). record (report_of c end) { cycles = rows }) (sym cycles_are)
    ∙ ap (λ (ws : List ℕ). record (report_of c end) { cycles = cycles; words = ws }) (sym words_are)
    ∙ ap (λ (ends : List MutatorEnd). record (report_of c end) { cycles = cycles; words = words; mutators = ends }) (sym mutators_are)
    ∙ ap (λ (names : List Name). record (report_of c end) { cycles = cycles; words = words; mutators = mutators; weaks = names }) (sym weaks_are)
    )

-- the words are the present words
pub words_had : (words : Option (List ℕ)) (w : List ℕ) → words ≡ Some w → w ≡ words_in words
words_had words w e = ap words_in (sym e)
