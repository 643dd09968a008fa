-- The end of a slice whose queue may still give a pause, and the commands that may follow a slice in a session.
use Rattle.nmgc_cycle.proofs.Vocabulary.{ℕ, zero, suc, ◌≡◌, ◌⊎◌, ◌+◌, ◌<◌, ◌≤◌, ◌++◌, ◌∙◌, List, [], ◌∷◌, length, refl, sym, ap, subst, arith, inl, inr, append-nil, length-append, slice_get, true, false, Some, option_to_list, Command, Yield, Collect, Full, Mutator, SliceEnd, Ended, Follows, HasEndedItself, MayComeAfter}
use Rattle.std.specs.Prelude.{Bool}
use Rattle.nmgc_mutator.specs.declared.mutator.SliceEnd.TheVariants as ending
use Rattle.nmgc_world_spec.specs.Known.{IsMaking}
use Rattle.nmgc_cycle.specs.Sessions.{MayComeFirst, first_of, pause_in}

-- the last command of a list, also in a longer list
last_split : (d : List Command) (i : ℕ) (more : List Command) (c : Command) → length d ≡ i + 1 → slice_get (d ++ more) i ≡ Some c →
    (before : List Command) × (d ≡ before ++ c ∷ [])
last_split [] i more c long e = absurd (omega (arith, long))
last_split (b ∷ []) zero more c long e = let same : b ≡ c = cc in ([], ap (λ (x : Command). x ∷ []) same)
last_split (b ∷ []) (suc i) more c long e = absurd (omega (arith, long))
last_split (b ∷ d ∷ ds) zero more c long e = absurd (omega (arith, long))
last_split (b ∷ d ∷ ds) (suc i) more c long e =
    let rest = last_split (d ∷ ds) i more c (omega (arith, long)) e in (b ∷ rest.0, ap (λ (l : List Command). b ∷ l) rest.1)

next_there : (d : List Command) (c : Command) → slice_get (d ++ c ∷ []) (length d) ≡ Some c
next_there [] c = refl
next_there (b ∷ d) c = next_there d c

-- a slice after which the queue may still give its pause ended by itself, and has a command
pub ended_open : (d : List Command) (slice : ℕ) (n : Mutator) (end : SliceEnd) → 1 ≤ slice → Ended (d ++ Yield ∷ []) slice (length d) n end →
    HasEndedItself slice (Some Yield) d × (0 < length d)
ended_open d slice n ending.Slice some h = let whole = h.1 in (inr (whole, (Yield, refl)), omega (arith, whole, some))
ended_open d slice n ending.Program some h =
    let whole = h.1 in
    let long = length-append d (Yield ∷ []) in
    absurd (omega (arith, whole, long))
ended_open d slice n ending.Yield some h =
    let long = h.1 in
    let split = last_split d h.0 (Yield ∷ []) Yield long h.3 in
    (inl (split.0, Yield, split.1, tt), omega (arith, long))
ended_open d slice n ending.Collect some h =
    let long = h.1 in
    let split = last_split d h.0 (Yield ∷ []) Collect long h.3 in
    (inl (split.0, Collect, split.1, tt), omega (arith, long))
ended_open d slice n ending.Full some h =
    let long = h.1 in
    let split = last_split d h.0 (Yield ∷ []) Full long h.3 in
    (inl (split.0, Full, split.1, tt), omega (arith, long))
ended_open d slice n (ending.Nursery need left) some h =
    let own = h.2 in
    let there = next_there d Yield in
    let e : Some own.0 ≡ Some Yield = sym own.1 ∙ there in
    let same : own.0 ≡ Yield = cc in
    absurd (subst IsMaking same own.2)

none_long : (d : List Command) → 0 < length d → d ≡ [] → ⊥
none_long d some e = let size = ap (λ (l : List Command). length l) e in omega (arith, some, size)

-- in an open session, commands that may come first may go on after the slice
pub open_on : (slice : ℕ) (before waiting : List Command) (b : Bool) (d : List Command) → before ++ Yield ∷ [] ≡ d ++ (waiting ++ pause_in b) →
    (waiting ≡ [] → b ≡ true → HasEndedItself slice (Some Yield) d × (0 < length d)) → (rest : List Command) → MayComeFirst waiting rest →
    MayComeAfter slice (first_of (waiting ++ pause_in b)) d rest × (d ≡ [] → Follows (first_of (waiting ++ pause_in b)) rest)
open_on slice before (c ∷ waiting) b d e ended rest h = (inl h, λ none. h)
open_on slice before [] true d e ended rest h = let own = ended refl refl in (inr (own.0, h), λ none. absurd (none_long d own.1 none))
open_on slice before [] false d e ended rest h =
    let is : before ++ Yield ∷ [] ≡ d = e ∙ append-nil d in
    let size = ap (λ (l : List Command). length l) is in
    let long = length-append before (Yield ∷ []) in
    (inr (inl (before, Yield, sym is, tt), h), λ none. absurd (none_long d (omega (arith, size, long)) none))

-- the first command that is left comes first among those that follow
pub leads : (l d m rest : List Command) → l ≡ d ++ m → (d ≡ [] → Follows (first_of l) rest) →
    (more : List Command) × (d ++ rest ≡ option_to_list (first_of l) ++ more) × ((more ≡ []) ⊎ (0 < length (option_to_list (first_of l))))
leads l (c ∷ d) m rest e f =
    let one : option_to_list (first_of l) ≡ c ∷ [] = ap (λ (x : List Command). option_to_list (first_of x)) e in
    let size = ap (λ (x : List Command). length x) one in
    (d ++ rest, ap (λ (x : List Command). x ++ (d ++ rest)) (sym one), inr (omega (arith, size)))
leads [] [] m rest e f = let none : rest ≡ [] = f refl in ([], none, inl refl)
leads (c ∷ l) [] m rest e f = let some = f refl in (some.0, some.1, inr (omega arith))
