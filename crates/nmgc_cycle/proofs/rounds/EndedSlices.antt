-- A slice that ended by itself is the slice of every program that begins with its commands.
use Rattle.nmgc_cycle.proofs.Vocabulary.{ℕ, zero, suc, ◌≡◌, ◌<◌, ◌≤◌, List, [], ◌∷◌, ◌++◌, length, Option, None, Some, slice_get, refl, sym, ap, subst, ◌∙◌, arith, inl, inr, length-append, Command, Yield, Collect, Full, Mutator, SliceEnd, Ended, GoesOn, IsLast, IsYield, Follows, HasEndedItself}
use Rattle.nmgc_mutator.specs.declared.mutator.SliceEnd.TheVariants as ending

-- two programs with the same front have the same commands there
front_same : (given first rest : List Command) (j : ℕ) → j < length given → slice_get (given ++ first) j ≡ slice_get (given ++ rest) j
front_same [] first rest j lt = absurd (omega (arith, lt))
front_same (c ∷ given) first rest zero lt = refl
front_same (c ∷ given) first rest (suc j) lt = front_same given first rest j (omega (arith, lt))

goes : (given first rest : List Command) (count : ℕ) → count ≤ length given → GoesOn (given ++ first) count → GoesOn (given ++ rest) count
goes given first rest count within on j c lt e = on j c lt (front_same given first rest j (omega (arith, lt, within)) ∙ e)

last : (given first rest : List Command) (count : ℕ) (c : Command) → count ≡ length given → IsLast (given ++ first) count c → IsLast (given ++ rest) count c
last given first rest count c whole h =
    let n = h.1 in
    (h.0, h.1, goes given first rest h.0 (omega (arith, n, whole)) h.2, sym (front_same given first rest h.0 (omega (arith, n, whole))) ∙ h.3)

-- a command that ends slices isn't among those before the last one
last_there : (before : List Command) (c : Command) (first : List Command) → slice_get ((before ++ c ∷ []) ++ first) (length before) ≡ Some c
last_there [] c first = refl
last_there (b ∷ before) c first = last_there before c first

no_goes : (given before first : List Command) (c : Command) (count : ℕ) → given ≡ before ++ c ∷ [] → IsYield c → count ≡ length given →
    GoesOn (given ++ first) count → ⊥
no_goes given before first c count is yields whole on =
    let size = ap (λ (l : List Command). length l) is in
    let sum = length-append before (c ∷ []) in
    on (length before) c (omega (arith, size, sum, whole))
    (ap (λ (l : List Command). slice_get (l ++ first) (length before)) is ∙ last_there before c first) yields

-- some commands may follow
pub some_follow : (next : Option Command) → (first : List Command) × Follows next first
some_follow None = ([], refl)
some_follow (Some c) = (c ∷ [], ([], refl))

has_first : (next : Option Command) (first : List Command) (c : Command) → next ≡ Some c → Follows next first → 0 < length first
has_first next first c is f =
    let follows = subst (λ (o : Option Command). Follows o first) is f in
    let size = ap (λ (l : List Command). length l) follows.1 in
    omega (arith, size)

pub ended_any : (given first rest : List Command) (slice count : ℕ) (n : Mutator) (end : SliceEnd) (next : Option Command) → count ≡ length given →
    Follows next first → HasEndedItself slice next given → 0 < length rest → Ended (given ++ first) slice count n end →
    Ended (given ++ rest) slice count n end
ended_any given first rest slice count n ending.Yield next whole f e some h = last given first rest count Yield whole h
ended_any given first rest slice count n ending.Collect next whole f e some h = last given first rest count Collect whole h
ended_any given first rest slice count n ending.Full next whole f e some h = last given first rest count Full whole h
ended_any given first rest slice count n ending.Slice next whole f e some h =
    let sum = length-append given rest in
    (goes given first rest count (omega (arith, whole)) h.0, h.1, omega (arith, sum, whole, some))
ended_any given first rest slice count n ending.Program next whole f (inl y) some h = absurd (no_goes given y.0 first y.1 count y.2 y.3 whole h.0)
ended_any given first rest slice count n ending.Program next whole f (inr l) some h =
    let has = has_first next first l.1.0 l.1.1 f in
    let all = h.1 in
    let sum = length-append given first in
    absurd (omega (arith, has, all, sum, whole))
ended_any given first rest slice count n (ending.Nursery need left) next whole f (inl y) some h =
    absurd (no_goes given y.0 first y.1 count y.2 y.3 whole h.0)
ended_any given first rest slice count n (ending.Nursery need left) next whole f (inr l) some h =
    let less = h.1 in
    let size = l.0 in
    absurd (omega (arith, less, size, whole))
