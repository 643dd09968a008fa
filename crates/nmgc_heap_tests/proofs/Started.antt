-- A mutator that is ready as a round begins from the small heap, while a cycle marks.
use Rattle.nmgc_heap_tests.proofs.Vocabulary.{◌≡◌, ◌≤◌, ◌∙◌, ℕ, List, length, sym, ap, subst, refl, arith, length-replicate, small_layout, chain_words, Opening, Seen, hand_of, CanOpen, RoundSeat, IsAt, opening_of, seen, alone, Round, Mutator, IsReady, IsWhole, IsUnused, HasHand, snapshot_opening, IsSnapshotHeap, IsSnapshotMutator, replicate}

-- any words behind the last object
any_rest : (rest : List ℕ) × (length rest ≡ 2048)
any_rest = (replicate 2048 1, length-replicate {A = ℕ} 2048 1)

-- the mutator is ready, by the two laws of mutators
pub ready : ((o : Opening) (words : List ℕ) (round : Round) (seat : RoundSeat) (m : Mutator) → CanOpen o words → opening_of round ≡ o →
    IsAt round seat → seen seat ≡ alone o m.number → o.layout ≡ m.layout → IsWhole m → IsUnused m → HasHand (hand_of o.hands m.number) m →
    IsReady round seat m) →
    ((words : List ℕ) → IsSnapshotHeap words → CanOpen snapshot_opening words) →
    (round : Round) (seat : RoundSeat) (m : Mutator) → IsAt round seat → seen seat ≡ alone snapshot_opening 0 → IsSnapshotMutator m → IsReady round seat m
ready finds opens round seat m at is s =
    finds snapshot_opening (chain_words 64 any_rest.0) round seat m (opens (chain_words 64 any_rest.0) (any_rest.0, any_rest.1, refl))
    (sym at.2 ∙ ap (λ (v : Seen). v.opening) is) at (is ∙ ap (λ (n : ℕ). alone snapshot_opening n) (sym s.number)) (sym s.layout) s.whole s.unused
    (subst (λ (n : ℕ). HasHand (hand_of snapshot_opening.hands n) m) (sym s.number) s.holds)

-- the mutator's serial
pub few : (m : Mutator) → IsSnapshotMutator m → m.serial ≤ 16
few m s = let e : 16 ≡ m.serial = s.holds.serial in omega (arith, e)
