-- The names of moved objects are noted, one move after the other.
use Rattle.nmgc_cycle.proofs.Vocabulary.{ℕ, ◌≡◌, ◌+◌, ◌<◌, ◌∙◌, List, [], ◌∷◌, ◌++◌, length, map, take, get_or, sym, ap, subst, Contains, map-append, take_more, Contains-get_or, Name, Moved, moved_of, Move, HaveNoted, entry_of, one_noted, slice_set}

-- the entry of a move exists
pub entry_exists : (moves : List Move) (i : ℕ) (d : Move) (names now : List Name) → i < length moves → length now ≡ length names →
    ((m : Move) → Contains moves m → entry_of m.to.0 < length names) → entry_of (get_or moves i d).to.0 < length now
entry_exists moves i d names now low count all = rw count (all (get_or moves i d) (Contains-get_or moves i d low))

-- one more move
pub noted_more : (moves : List Move) (i : ℕ) (d : Move) (old mid new : List Name) → i < length moves →
    entry_of (get_or moves i d).to.0 < length mid → new ≡ slice_set mid (entry_of (get_or moves i d).to.0) (get_or moves i d).name
    → HaveNoted (map moved_of (take i moves)) old mid → HaveNoted (map moved_of (take (i + 1) moves)) old new
noted_more moves i d old mid new low there set h =
    let m : Move = get_or moves i d in
    let reported : map moved_of (take (i + 1) moves) ≡ map moved_of (take i moves) ++ moved_of m ∷ [] =
    ap (λ (l : List Move). map moved_of l) (take_more moves i d low) ∙ map-append moved_of (take i moves) (m ∷ []) in
    subst (λ (l : List Moved). HaveNoted l old new) (sym reported) (one_noted (map moved_of (take i moves)) (moved_of m) old mid new there set h)
