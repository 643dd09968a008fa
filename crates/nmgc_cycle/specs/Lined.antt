-- The collector's ends of the mutators' rings: their received entries are the entries that the mutators sent.
use Rattle.std.specs.Prelude.{ℕ, ◌≡◌, ◌<◌, ◌≤◌, ◌++◌, List, [], length, slice_get, Some}
use Rattle.nmgc_limits.specs.declared.mutators.TheConstants.{MAKERS}
use Rattle.nmgc_mutator.specs.{declared.mutator.Mutator.Mutator, Does.remembered, Records.numbers}
use Rattle.nmgc_updrem.specs.Rings.{Sender, Receiver, IsPair, IsLine, IsInOrder, HavePolled, HasLooked, in_ring}

-- receiver k is the other end of this sender's ring: it received the entries sent before both ends were level, then its list
abbrev pub IsLined : List Receiver → ℕ → Sender → Type 0
IsLined inbox k s = (r : Receiver) × (slice_get inbox k ≡ Some r) × IsLine r s

-- receiver k is the other end of this sender's ring
abbrev pub IsPaired : List Receiver → ℕ → Sender → Type 0
IsPaired inbox k s = (r : Receiver) × (slice_get inbox k ≡ Some r) × IsPair s r

-- a mutator changed only in that its end of the ring may have looked at the other end
pub record HasMetSender (old new : Mutator) : Type 0 where
  pub rest : new ≡ record old { sender = new.sender }
  pub looked : HasLooked old.sender new.sender

-- both ends of each ring met: only their knowledge of one another changed. For each of the first `many` rings, the entries
-- received and the entries held are together all that were sent
pub record HaveMet (many : ℕ) (old new : List Receiver) (was then : List Mutator) : Type 0 where
  pub receivers : HavePolled old new
  pub count : length then ≡ length was
  pub mutators : (k : ℕ) (m n : Mutator) → slice_get was k ≡ Some m → slice_get then k ≡ Some n → HasMetSender m n
  pub lines : (k : ℕ) (n : Mutator) → slice_get then k ≡ Some n → IsLined new k n.sender
  pub in_order : (k : ℕ) (r : Receiver) (n : Mutator) → k < many → slice_get new k ≡ Some r → slice_get then k ≡ Some n → IsInOrder r n.sender

-- the order of remembered entries: each mutator remembers the entries in its inbox, then in its ring, then in its set
abbrev pub RememberInOrder : List Receiver → List Mutator → Type 0
RememberInOrder inbox mutators = (k : ℕ) (r : Receiver) (m : Mutator) → slice_get inbox k ≡ Some r → slice_get mutators k ≡ Some m →
    remembered m ≡ numbers ((r.taken.items ++ in_ring m.sender r) ++ m.updrem.items)

-- a mutator remembers nothing any more, and is otherwise as before
pub record HasForgotten (old new : Mutator) : Type 0 where
  pub rest : new ≡ record old { updrem = new.updrem; sender = new.sender }
  pub nothing : remembered new ≡ []

-- mutators remember nothing any more, and are otherwise as before
pub record HaveForgotten (old new : List Mutator) : Type 0 where
  pub count : length new ≡ length old
  pub each : (k : ℕ) (m n : Mutator) → slice_get old k ≡ Some m → slice_get new k ≡ Some n → HasForgotten m n

-- any change of a receiver
abbrev pub AnyLine : Receiver → Receiver → Type 0
AnyLine r q = Unit {0}

-- the first `many` mutators remember nothing any more, the rest are as they were, and the inbox has each ring's other end
pub record HaveForgottenSoFar (many : ℕ) (inbox after : List Receiver) (old new : List Mutator) : Type 0 where
  pub inbox_is : length after ≡ length inbox
  pub count : length new ≡ length old
  pub each : (k : ℕ) (m n : Mutator) → k < many → slice_get old k ≡ Some m → slice_get new k ≡ Some n → HasForgotten m n
  pub others : (k : ℕ) (m n : Mutator) → many ≤ k → slice_get old k ≡ Some m → slice_get new k ≡ Some n → n ≡ m
  pub lines : (k : ℕ) (n : Mutator) → slice_get new k ≡ Some n → IsLined after k n.sender

-- the inbox has the other end of each mutator's ring, and there are at most `MAKERS` mutators
pub record HaveLines (inbox : List Receiver) (mutators : List Mutator) : Type 0 where
  pub few : length mutators ≤ MAKERS
  pub lines : (k : ℕ) (m : Mutator) → slice_get mutators k ≡ Some m → IsLined inbox k m.sender
