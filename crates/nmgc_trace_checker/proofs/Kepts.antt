-- A closed trace keeps the names that a cycle has to keep: its lines after `mark` are a run of the marking machine.
use Rattle.nmgc_trace_checker.proofs.Vocabulary.{◌≡◌, ◌↔◌, ◌⊎◌, ◌++◌, ℕ, zero, suc, refl, sym, ap, subst, inl, inr, List, [], ◌∷◌, true, Contains, Name, Reply, World, IsWorld, new_world, Row, opened, finalised, IsKept, Lists, new_is_world, step_keeps_world, Event, State, oldest_first, opening, Runs, IsExact, snapshot_theorem, Line, Progress, Verdict, Can, IsAnswered, Scans, IsVerdictAfter, refusal_of, rows_in, IsKeptListed, ListsKept, runs_join}
use Rattle.nmgc_trace_checker.specs.Trace.{Comes}
use Rattle.nmgc_snapshot_laws.specs.declared.event.Event.TheVariants as event
use Rattle.nmgc_trace_checker.specs.declared.line.Line.TheVariants as line
use Rattle.nmgc_trace_checker.specs.declared.progress.Progress.TheVariants as progress
use Rattle.nmgc_trace_checker.specs.declared.verdict.Verdict.TheVariants as verdict

scans_run : (s t : State) (n : ℕ) → Scans s n t → (events : List Event) × Runs s events [] t
scans_run s t zero h = ([], (refl, h))
scans_run s t (suc n) h =
    let r : (events : List Event) × Runs s events [] h.0 = scans_run s h.0 n h.1 in
    let last : Runs h.0 (event.Scan ∷ []) [] t = (true, t, [], h.2, refl, (refl, refl)) in
    (r.0 ++ event.Scan ∷ [], runs_join s h.0 t r.0 (event.Scan ∷ []) [] [] r.1 last)

-- LINES AFTER `MARK`

-- the lines are a run of the machine
record Follows (s : State) (ls : List Line) (last : Progress) : Type 0 where
  machine : State
  last_is : last ≡ progress.Marking machine
  events : List Event
  runs : Runs s events (rows_in ls) machine

followed : (s : State) (ls : List Line) (last : Progress) → Comes (progress.Marking s) ls last → Follows s ls last
followed s [] last c = record { machine = s; last_is = c; events = []; runs = (refl, refl) }
followed s (line.Blank ∷ ls) last c =
    let C : Progress → Type 0 = λ p. Comes p ls last in
    let f : Follows s ls last = followed s ls last (subst C c.1 c.2) in
    record { machine = f.machine; last_is = f.last_is; events = f.events; runs = f.runs }
followed s (line.Event e ∷ ls) last c =
    let C : Progress → Type 0 = λ p. Comes p ls last in
    let f : Follows c.1.0 ls last = followed c.1.0 ls last (subst C c.1.2 c.2) in
    record { machine = f.machine; last_is = f.last_is; events = e ∷ f.events; runs = (true, c.1.0, rows_in ls, c.1.1, refl, f.runs) }
followed s (line.Take m name ∷ ls) last c =
    let C : Progress → Type 0 = λ p. Comes p ls last in
    let f : Follows c.1.0 ls last = followed c.1.0 ls last (subst C c.1.2 c.2) in
    record { machine = f.machine; last_is = f.last_is; events = event.Take m ∷ f.events; runs = (true, c.1.0, rows_in ls, c.1.1.0, refl, f.runs) }
followed s (line.Drain ∷ ls) last c =
    let C : Progress → Type 0 = λ p. Comes p ls last in
    let f : Follows c.1.0 ls last = followed c.1.0 ls last (subst C c.1.2 c.2) in
    let d : (events : List Event) × Runs s events [] c.1.0 = scans_run s c.1.0 c.1.1.0 c.1.1.1 in
    record { machine = f.machine; last_is = f.last_is; events = d.0 ++ f.events; runs = runs_join s c.1.0 f.machine d.0 f.events [] (rows_in ls) d.1 f.runs }
followed s _ last c = absurd c.1

-- THE BEGINNING OF MARKING

answered_world : (w : World) (e : Event) (next : World) → IsWorld w → IsAnswered w e next → IsWorld next
answered_world w (event.Command m c answer) next h a =
    subst IsWorld (ap (λ (p : World × Reply). p.0) a.1) (step_keeps_world w m c h a.0)
answered_world w _ next h a = absurd a

abbrev IsUnmarked : Progress → Type 0
IsUnmarked (progress.Marking s) = ⊥
IsUnmarked _ = Unit {0}

-- marking begins at a line, with a closed world
record Begins (p : Progress) (ls : List Line) (last : Progress) : Type 0 where
  earlier : List Line
  later : List Line
  snapshot : World
  lines_are : ls ≡ earlier ++ line.Mark ∷ later
  built : Comes p earlier (progress.Building snapshot)
  world : IsWorld snapshot
  comes : Comes (progress.Marking (opening snapshot)) later last

-- marking begins at a line, or doesn't begin
abbrev MayBegin : Progress → List Line → Progress → Type 0
MayBegin p ls last = IsUnmarked last ⊎ Begins p ls last

later_on : (p q : Progress) (l : Line) (ls : List Line) (last : Progress) → Can p l q → MayBegin q ls last → MayBegin p (l ∷ ls) last
later_on p q l ls last can (inl none) = inl none
later_on p q l ls last can (inr b) = inr (record {
  earlier = l ∷ b.earlier;
  later = b.later;
  snapshot = b.snapshot;
  lines_are = ap (λ (xs : List Line). l ∷ xs) b.lines_are;
  built = (q, can, b.built);
  world = b.world;
  comes = b.comes;
})

begun_world : (w : World) → IsWorld w → (ls : List Line) (last : Progress) → Comes (progress.Building w) ls last → MayBegin (progress.Building w) ls last
begun_world w h [] last c = inl (subst IsUnmarked (sym c) tt)
begun_world w h (line.Blank ∷ ls) last c =
    let C : Progress → Type 0 = λ p. Comes p ls last in
    let M : Progress → Type 0 = λ p. MayBegin p ls last in
    later_on (progress.Building w) c.0 line.Blank ls last c.1 (subst M (sym c.1) (begun_world w h ls last (subst C c.1 c.2)))
begun_world w h (line.Mark ∷ ls) last c =
    let C : Progress → Type 0 = λ p. Comes p ls last in
    inr (record { earlier = []; later = ls; snapshot = w; lines_are = refl; built = refl; world = h; comes = subst C c.1 c.2 })
begun_world w h (line.Event e ∷ ls) last c =
    let C : Progress → Type 0 = λ p. Comes p ls last in
    let M : Progress → Type 0 = λ p. MayBegin p ls last in
    later_on (progress.Building w) c.0 (line.Event e) ls last c.1
    (subst M (sym c.1.2) (begun_world c.1.0 (answered_world w e c.1.0 h c.1.1) ls last (subst C c.1.2 c.2)))
begun_world w h _ last c = absurd c.1

begun : (ls : List Line) (last : Progress) → Comes progress.Nothing ls last → MayBegin progress.Nothing ls last
begun [] last c = inl (subst IsUnmarked (sym c) tt)
begun (line.Blank ∷ ls) last c =
    let C : Progress → Type 0 = λ p. Comes p ls last in
    let M : Progress → Type 0 = λ p. MayBegin p ls last in
    later_on progress.Nothing c.0 line.Blank ls last c.1 (subst M (sym c.1) (begun ls last (subst C c.1 c.2)))
begun (line.Mutators count ∷ ls) last c =
    let C : Progress → Type 0 = λ p. Comes p ls last in
    let M : Progress → Type 0 = λ p. MayBegin p ls last in
    later_on progress.Nothing c.0 (line.Mutators count) ls last c.1
    (subst M (sym c.1.2) (begun_world (new_world count) (new_is_world count c.1.0 c.1.1) ls last (subst C c.1.2 c.2)))
begun _ last c = absurd c.1

-- A CLOSED TRACE

abbrev machine_in : State → Progress → State
machine_in d (progress.Marking s) = s
machine_in d _ = d

kept_marking : (lines : List Line) (s : State) (names : List Name) → Comes progress.Nothing lines (progress.Marking s) → s.is_closed ≡ true →
    Lists (Contains s.marked) names → IsKeptListed lines names
kept_marking lines s names c over listed = elim (begun lines (progress.Marking s) c) [
  | inl none ↦ absurd none
  | inr b ↦
      let f : Follows (opening b.snapshot) b.later (progress.Marking s) = followed (opening b.snapshot) b.later (progress.Marking s) b.comes in
      let rows : List Row = rows_in b.later in
      let e : f.machine ≡ s = sym (ap (machine_in s) f.last_is) in
      let R : State → Type 0 = λ t. Runs (opening b.snapshot) f.events (rows_in b.later) t in
      let exact : IsExact oldest_first b.snapshot f.events (rows_in b.later) s =
      (snapshot_theorem oldest_first b.snapshot b.world f.events (rows_in b.later) s (subst R e f.runs)).after over in
      let K : List Name → Type 0 = λ o. (name : Name) → Contains s.marked name ↔ IsKept b.snapshot o exact.before.finalised name in
      let L : List Name → Type 0 = λ d. (name : Name) → Contains s.marked name ↔ IsKept b.snapshot (opened b.snapshot (rows_in b.later)) d name in
      let kept : (name : Name) → Contains s.marked name ↔
      IsKept b.snapshot (opened b.snapshot (rows_in b.later)) (finalised b.snapshot (rows_in b.later)) name =
      subst L exact.marking.finalised (subst K exact.marking.opened exact.kept) in
      record {
        earlier = b.earlier;
        later = b.later;
        lines_are = b.lines_are;
        snapshot = b.snapshot;
        built = b.built;
        legal = exact.marking.legal;
        kept = record {
          ordered = listed.ordered;
          sound = λ name has. (kept name).0 (listed.sound name has);
          complete = λ name is. listed.complete name ((kept name).1 is);
        };
      }
]

not_this : (names : List Name) → verdict.Closed names ≡ verdict.Unmarked → ⊥
not_this names e = cc

kept_known : (lines : List Line) (p : Progress) (names : List Name) → Comes progress.Nothing lines p → IsVerdictAfter p (verdict.Closed names) → IsKeptListed lines names
kept_known lines (progress.Marking s) names c t = kept_marking lines s names c t.0 t.1
kept_known lines _ names c t = absurd (not_this names t)

pub lists_kept : (lines : List Line) (p : Progress) (meaning : Verdict) → Comes progress.Nothing lines p → IsVerdictAfter p meaning → ListsKept lines meaning
lists_kept lines p (verdict.Closed names) c t = kept_known lines p names c t
lists_kept lines p _ c t = tt

refusal_kept : (lines : List Line) (l : Line) (n : ℕ) → ListsKept lines (refusal_of l n)
refusal_kept lines line.Blank n = tt
refusal_kept lines _ n = tt

pub refusal_shows : (lines : List Line) (l : Line) (n : ℕ) (meaning : Verdict) → meaning ≡ refusal_of l n → ListsKept lines meaning
refusal_shows lines l n meaning e = let P : Verdict → Type 0 = ListsKept lines in subst P (sym e) (refusal_kept lines l n)
