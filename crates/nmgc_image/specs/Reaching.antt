-- The addresses reachable in the words of a heap, and the progress of a search. These are the terms of the private contracts.
use Rattle.std.specs.Prelude.{◌≡◌, ◌⊎◌, ℕ, ◌+◌, ◌^◌, ◌<◌, List, ◌++◌, length, Some, true, not, count_by, slice_get, Contains, All}
use Rattle.nmgc_object.specs.{declared.layout.TheConstants.SHARED_PLACE, Words.IsName}
use Rattle.nmgc_segment.specs.Segment.{InUse}
use Rattle.nmgc_alloc.specs.{AllocState.nth, Segments.IsBlockAt}
use Rattle.nmgc_journal.specs.{declared.report.MutatorEnd.MutatorEnd, declared.report.Report.Report}
use Rattle.nmgc_image.specs.{declared.search.Search.Search, Objects.IsNamedAt, Objects.IsObjectAt, Objects.pointers, Objects.value_words_at, Objects.name_in}

-- the addresses with P, and all addresses to which pointers lead from there
pub data Reaches (words : List ℕ) (P : ℕ → Type 0) : ℕ → Type 0 where
  root : (at : ℕ) → P at → Reaches words P at
  field : (at to : ℕ) (object : IsObjectAt words at) → Reaches words P at → Contains (pointers (value_words_at words at object.header)) to → Reaches words P to

-- an object begins at each reachable address
abbrev pub ReachesObjects : List ℕ → (ℕ → Type 0) → Type 0
ReachesObjects words P = (at : ℕ) → Reaches words P at → IsObjectAt words at

-- the invariant of a search: the addresses that it has seen are the addresses in its order, each once
pub record IsSearch (s : Search) : Type 0 where
  pub listed : (at : ℕ) → slice_get s.seen.items at ≡ Some true → Contains s.order.items at
  pub within : (at : ℕ) → Contains s.order.items at → at < length s.seen.items
  pub counted : length s.order.items + count_by not s.seen.items ≡ length s.seen.items

-- a search went on: it added exactly the addresses with P
pub record Visits (P : ℕ → Type 0) (old new : Search) : Type 0 where
  pub sound : IsSearch new
  pub room : length new.seen.items ≡ length old.seen.items
  pub more : List ℕ
  pub order : new.order.items ≡ old.order.items ++ more
  pub all : (at : ℕ) → P at → Contains new.order.items at
  pub only : (at : ℕ) → Contains new.order.items at → Contains old.order.items at ⊎ P at

-- the addresses that words point to
abbrev pub ArePointers : List ℕ → ℕ → Type 0
ArePointers words at = Contains (pointers words) at

-- the addresses that the words point to lie in a heap of `room` words, and are numbers of 32 bits
abbrev pub PointWithin : ℕ → List ℕ → Type 0
PointWithin room words = (at : ℕ) → Contains (pointers words) at → (at < room) × (at < 2 ^ 32)

-- a register or an entry of the queue of a mutator points to the address
abbrev pub IsOwnRoot : MutatorEnd → ℕ → Type 0
IsOwnRoot own at = ArePointers own.registers at ⊎ ArePointers own.queue at

-- a register or an entry of the queue of one of the mutators points to the address
abbrev pub IsMutatorRoot : List MutatorEnd → ℕ → Type 0
IsMutatorRoot mutators at = (own : MutatorEnd) × Contains mutators own × IsOwnRoot own at

-- a block in use begins at the address, and its name is in the report's list of weak pointers
pub record IsWeakBlock (report : Report) (number block at : ℕ) : Type 0 where
  pub begins : IsBlockAt report.segments number block at
  pub used : InUse (nth report.segments.segments number) block
  pub listed : Contains report.weaks (name_in report.words at)

-- a block in use of one segment begins at the address, and its name is in the report's list of weak pointers
abbrev pub IsWeakIn : Report → ℕ → ℕ → Type 0
IsWeakIn report number at = (block : ℕ) × IsWeakBlock report number block at

-- a block in use of any segment begins at the address, and its name is in the report's list of weak pointers
abbrev pub IsWeakRoot : Report → ℕ → Type 0
IsWeakRoot report at = (number : ℕ) × IsWeakIn report number at

-- the roots of the search: the addresses of g, of the mutators' registers and queues, and of the weak pointers
abbrev pub IsRootPlace : Report → ℕ → Type 0
IsRootPlace report at = (at ≡ SHARED_PLACE) ⊎ (IsMutatorRoot report.mutators at ⊎ IsWeakRoot report at)

-- the report can be searched: reachable addresses have objects, blocks in use readable names, and weak pointers valid names
pub record IsReadyFor (report : Report) : Type 0 where
  pub objects : ReachesObjects report.words (IsRootPlace report)
  pub blocks : (number block at : ℕ) → IsBlockAt report.segments number block at → InUse (nth report.segments.segments number) block → IsNamedAt report.words at
  pub weaks : All IsName report.weaks
