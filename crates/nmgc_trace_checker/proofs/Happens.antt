-- The result of a line that was tried, by the result of the world or the machine.
use Rattle.nmgc_trace_checker.proofs.Vocabulary.{◌≡◌, ℕ, refl, sym, subst, Bool, true, false, Option, Result, Ok, Err, NoMemory, Name, World, Event, State, Passes, Line, Progress, Can, IsNext, IsAnsweredIf, IsTakeIf, next_if, IfOk}
use Rattle.nmgc_trace_checker.specs.declared.line.Line.TheVariants as line
use Rattle.nmgc_trace_checker.specs.declared.progress.Progress.TheVariants as progress

-- whether the line happened, and the progress after it
abbrev CanIf : Progress → Line → Bool → Progress → Type 0
CanIf p l true next = Can p l next
CanIf p l false next = (other : Progress) → Can p l other → ⊥

next_is : (p q : Progress) (l : Line) (happened : Result Bool NoMemory) → IfOk happened (λ done. CanIf p l done q) → IfOk (next_if q happened) (IsNext p l)
next_is p q l (Ok true) h = h
next_is p q l (Ok false) h = h
next_is p q l (Err e) h = tt

meaning : (D : Bool → Type 0) (p q : Progress) (l : Line) (happened : Result Bool NoMemory) → ((done : Bool) → D done → CanIf p l done q) →
    IfOk happened D → IfOk happened (λ done. CanIf p l done q)
meaning D p q l (Ok done) f h = f done h
meaning D p q l (Err e) f h = tt

comes_of : (D : Bool → Type 0) (p from q : Progress) (l : Line) (happened : Result Bool NoMemory) (result : Result (Option Progress) NoMemory) →
    p ≡ from → ((done : Bool) → D done → CanIf from l done q) → IfOk happened D → result ≡ next_if q happened → IfOk result (IsNext p l)
comes_of D p from q l happened result is f h e =
    let F : Progress → Type 0 = λ x. IfOk (next_if q happened) (IsNext x l) in
    let R : Result (Option Progress) NoMemory → Type 0 = λ r. IfOk r (IsNext p l) in
    subst R (sym e) (subst F (sym is) (next_is from q l happened (meaning D from q l happened f h)))

answered_if : (w v : World) (e : Event) (done : Bool) → IsAnsweredIf w e done v → CanIf (progress.Building w) (line.Event e) done (progress.Building v)
answered_if w v e true h = (v, h, refl)
answered_if w v e false h = λ other can. h can.0 can.1

-- an event, while the world is built
pub answered : (p : Progress) (w v : World) (e : Event) (happened : Result Bool NoMemory) (result : Result (Option Progress) NoMemory) →
    p ≡ progress.Building w → IfOk happened (λ done. IsAnsweredIf w e done v) → result ≡ next_if (progress.Building v) happened →
    IfOk result (IsNext p (line.Event e))
answered p w v e happened result is h same = comes_of (λ done.
    IsAnsweredIf w e done v) p (progress.Building w) (progress.Building v) (line.Event e) happened result is (answered_if w v e) h same

passed_if : (s t : State) (e : Event) (done : Bool) → Passes s e done t → CanIf (progress.Marking s) (line.Event e) done (progress.Marking t)
passed_if s t e true h = (t, h, refl)
passed_if s t e false h = λ other can. h.0 can.1.0

-- an event, while marking
pub passed : (p : Progress) (s t : State) (e : Event) (happened : Result Bool NoMemory) (result : Result (Option Progress) NoMemory) →
    p ≡ progress.Marking s → IfOk happened (λ done. Passes s e done t) → result ≡ next_if (progress.Marking t) happened → IfOk result (IsNext p (line.Event e))
passed p s t e happened result is h same =
    comes_of (λ done. Passes s e done t) p (progress.Marking s) (progress.Marking t) (line.Event e) happened result is (passed_if s t e) h same

taken_if : (s t : State) (m : ℕ) (name : Name) (done : Bool) → IsTakeIf s m name done t →
    CanIf (progress.Marking s) (line.Take m name) done (progress.Marking t)
taken_if s t m name true h = (t, h, refl)
taken_if s t m name false h = λ other can. h can.0 can.1

-- a take, while marking
pub taken : (p : Progress) (s t : State) (m : ℕ) (name : Name) (happened : Result Bool NoMemory) (result : Result (Option Progress) NoMemory) →
    p ≡ progress.Marking s → IfOk happened (λ done. IsTakeIf s m name done t) → result ≡ next_if (progress.Marking t) happened →
    IfOk result (IsNext p (line.Take m name))
taken p s t m name happened result is h same = comes_of (λ done.
    IsTakeIf s m name done t) p (progress.Marking s) (progress.Marking t) (line.Take m name) happened result is (taken_if s t m name) h same
