-- The commands of a slice are the slice of the rule: all that fit, up to the first that ends it.
use Rattle.nmgc_cycle.proofs.Vocabulary.{ℕ, zero, suc, ◌≡◌, ◌+◌, ◌-◌, ◌<◌, ◌≤◌, List, [], ◌∷◌, ◌++◌, length, take, drop, get_or, Some, rules, refl, sym, ap, ◌∙◌, arith, true, false, add-one, drop-cons, take_more, drop_all, slice_get_within, get_or_from_slice_get, Command, Yield, Collect, Full, words_made, Mutator, SliceEnd, IsYield, GoesOn, IsLast, Ended, slice, ends_slice, is_next, slice_get, append-nil}
use Rattle.nmgc_mutator.specs.declared.mutator.SliceEnd.TheVariants as ending

-- the number of words of the objects that commands make
abbrev pub all_made : List Command → ℕ
all_made [] = 0
all_made (c ∷ cs) = words_made c + all_made cs

not_ends : (c : Command) → (IsYield c → ⊥) → ends_slice c ≡ false
not_ends Yield h = absurd (h tt)
not_ends Collect h = absurd (h tt)
not_ends Full h = absurd (h tt)
not_ends c h = refl

does_end : (c : Command) → IsYield c → (ends_slice c ≡ true) × (words_made c ≡ 0)
does_end Yield h = (refl, refl)
does_end Collect h = (refl, refl)
does_end Full h = (refl, refl)
does_end c h = absurd h

is_next_true : (commands words : ℕ) (c : Command) → 0 < commands → words_made c ≤ words → is_next commands words c ≡ true
is_next_true commands words c some fits = search (rules, arith)

is_next_full : (commands words : ℕ) (c : Command) → words < words_made c → is_next commands words c ≡ false
is_next_full commands words c full = search (rules, arith)

-- one command of the slice, and the rest
step : (commands words : ℕ) (c : Command) (program : List Command) → 0 < commands → words_made c ≤ words → (IsYield c → ⊥) →
    slice commands words (c ∷ program) ≡ c ∷ slice (commands - 1) (words - words_made c) program
step commands words c program some fits on = rw (is_next_true commands words c some fits, not_ends c on) refl

same_slice : (program : List Command) (commands words left room : ℕ) → commands ≡ left → words ≡ room → slice commands words program ≡ slice left room program
same_slice program commands words left room e f = ap (λ (n : ℕ). slice n words program) e ∙ ap (λ (n : ℕ). slice left n program) f

-- commands of the slice that don't end it, and the commands after them
along : (program : List Command) (i commands words left room : ℕ) → GoesOn program i → i ≤ length program → commands ≡ i + left →
    words ≡ all_made (take i program) + room → slice commands words program ≡ take i program ++ slice left room (drop i program)
along program zero commands words left room on within e f = same_slice program commands words left room (omega arith) (omega arith)
along [] (suc i) commands words left room on within e f = absurd (omega arith)
along (c ∷ program) (suc i) commands words left room on within e f =
    cc (
      step commands words c program (omega arith) (omega arith) (on 0 c (omega arith) refl),
      along program i (commands - 1) (words - words_made c) left room (λ j d lt is. on (suc j) d (omega arith) is) (omega arith) (omega arith) (omega arith),
    )

-- no command follows
ends_at : (program : List Command) (i commands words left room : ℕ) → GoesOn program i → i ≤ length program → commands ≡ i + left →
    words ≡ all_made (take i program) + room → slice left room (drop i program) ≡ [] → slice commands words program ≡ take i program
ends_at program i commands words left room on within e f none =
    cc (along program i commands words left room on within e f, none, append-nil (take i program))

-- the rest begins with the next command
next_is : (program : List Command) (i : ℕ) (c : Command) → slice_get program i ≡ Some c → (drop i program ≡ c ∷ drop (i + 1) program) ×
    (take (i + 1) program ≡ take i program ++ c ∷ []) × (i < length program)
next_is program i c e =
    let within : i < length program = slice_get_within program i c e in
    let is : get_or program i c ≡ c = get_or_from_slice_get program i c c e in (
      drop-cons program i c within ∙ ap (λ (d : Command). d ∷ drop (suc i) program) is ∙ ap (λ (n : ℕ). c ∷ drop n program) (sym (add-one i)),
      take_more program i c within ∙ ap (λ (d : Command). take i program ++ d ∷ []) is,
      within,
    )

no_more : (room : ℕ) (program : List Command) → slice 0 room program ≡ []
no_more room [] = refl
no_more room (c ∷ program) = refl

full : (left room : ℕ) (c : Command) (program : List Command) → room < words_made c → slice left room (c ∷ program) ≡ []
full left room c program less = rw (is_next_full left room c less) refl

last : (left room : ℕ) (c : Command) (program : List Command) → IsYield c → 0 < left → slice left room (c ∷ program) ≡ c ∷ []
last left room c program yields some =
    let h = does_end c yields in
    let fits : words_made c ≤ room = let none = h.1 in omega (arith, none) in
    rw (is_next_true left room c some fits, h.0) refl

-- a command that makes no object
made_last : (cs : List Command) (c : Command) → words_made c ≡ 0 → all_made (cs ++ c ∷ []) ≡ all_made cs
made_last [] c none = omega (arith, none)
made_last (d ∷ cs) c none = ap (λ (n : ℕ). words_made d + n) (made_last cs c none)

-- a slice whose last command ended it
ended : (program : List Command) (done commands words room : ℕ) (c : Command) → IsYield c → IsLast program done c → done ≤ commands →
    words ≡ all_made (take done program) + room → slice commands words program ≡ take done program
ended program done commands words room c yields h most f =
    let i = h.0 in
    let next = next_is program i c h.3 in
    let count = h.1 in
    let none = (does_end c yields).1 in
    let taken : take done program ≡ take i program ++ c ∷ [] = ap (λ (n : ℕ). take n program) count ∙ next.1 in
    let made : words ≡ all_made (take i program) + room = cc (f, taken, made_last (take i program) c none) in
    let within = next.2 in
    cc (
      along program i commands words (commands - i) room h.2 (omega (arith, within)) (omega (arith, count)) made,
      next.0,
      last (commands - i) room c (drop (i + 1) program) yields (omega (arith, count)),
      taken,
    )

pub slice_rule : (program : List Command) (commands words done : ℕ) (n : Mutator) (end : SliceEnd) → Ended program commands done n end →
    done ≤ commands → all_made (take done program) + (n.nursery.end - n.nursery.top) ≡ words → slice commands words program ≡ take done program
slice_rule program commands words done n ending.Slice h most e =
    let room : ℕ = n.nursery.end - n.nursery.top in
    let count = h.1 in
    let within = h.2 in
    ends_at program done commands words 0 room h.0 (omega (arith, within)) (omega (arith, count)) (sym e) (no_more room (drop done program))
slice_rule program commands words done n ending.Program h most e =
    let room : ℕ = n.nursery.end - n.nursery.top in
    let count = h.1 in
    ends_at program done commands words (commands - done) room h.0 (omega (
      arith,
      count,
    )) (omega arith) (sym e) (ap (λ (rest : List Command). slice (commands - done) room rest) (drop_all done program (omega (arith, count))))
slice_rule program commands words done n ending.Yield h most e = ended program done commands words (n.nursery.end - n.nursery.top) Yield tt h most (sym e)
slice_rule program commands words done n ending.Collect h most e = ended program done commands words (n.nursery.end - n.nursery.top) Collect tt h most (sym e)
slice_rule program commands words done n ending.Full h most e = ended program done commands words (n.nursery.end - n.nursery.top) Full tt h most (sym e)
slice_rule program commands words done n (ending.Nursery need left) h most e =
    let room : ℕ = n.nursery.end - n.nursery.top in
    let c = h.2.0 in
    let next = next_is program done c h.2.1 in
    let within = next.2 in
    let size = h.2.3 in
    let rest = h.2.4 in
    let less = h.2.5 in
    ends_at program done commands words (commands - done) room h.0 (omega (
      arith,
      within,
    )) (omega arith) (sym e) (cc (next.0, full (commands - done) room c (drop (done + 1) program) (omega (arith, size, rest, less))))
