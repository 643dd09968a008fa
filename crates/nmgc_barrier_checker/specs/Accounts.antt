-- The debts of each mutator: a queue of debts, and the set of names that came due by this mutator.
use Rattle.std.specs.Prelude.{◌≡◌, ◌⊎◌, ◌<◌, ◌≤◌, ℕ, List, [], ◌∷◌, ◌++◌, length, filter, slice_get, slice_set, slice_index_or, Option, Some, None, Bool, false, not, ◌&&◌, IsSome, IfSome, Contains, max, if◌then◌else◌}
use Rattle.std.specs.List.{flat_map}
use Rattle.nmgc_world_spec.specs.{declared.value.Name.Name, World.World, World.node_of}
use Rattle.nmgc_graph.specs.Marks.{HasPlaces, IsMarked, mark_of, with_mark}
use Rattle.nmgc_barrier_laws.specs.declared.debt.Debt.{Debt}
use Rattle.nmgc_barrier_checker.specs.{declared.accounts.Accounts.Accounts, First.IsEarliest}
use Rattle.nmgc_snapshot_laws.specs.Machine.{is_pushed_in}

-- whether a debt is unpaid: its name isn't in the set of pushed names
abbrev pub is_unpaid : List (List Bool) → Debt → Bool
is_unpaid marks debt = not (mark_of marks debt.name)

-- the unpaid debts of a list; paid debts don't count
abbrev pub unpaid : List (List Bool) → List Debt → List Debt
unpaid marks debts = filter (is_unpaid marks) debts

-- the list's first debt, if there is one, is unpaid
abbrev pub IsPaidUp : List (List Bool) → List Debt → Type 0
IsPaidUp marks debts = IfSome (slice_get debts 0) (λ debt. mark_of marks debt.name ≡ false)

-- the debt of a name that came due at a line, by a command of the mutator
abbrev pub debt_of : ℕ → ℕ → Name → Debt
debt_of line m name = record { name = name; line = line; mutator = m }

-- the queue of one mutator
abbrev pub queue_of : List (List Debt) → ℕ → List Debt
queue_of queues m = slice_index_or queues m []

-- the names that came due by one mutator
abbrev pub set_of : List (List (List Bool)) → ℕ → List (List Bool)
set_of sets m = slice_index_or sets m []

-- the debts of all mutators' queues
abbrev pub all_debts : List (List Debt) → List Debt
all_debts queues = flat_map (λ queue. queue) queues

-- the invariant of the accounts. Each mutator has a queue, and a set with a position for each name of the snapshot. A queue
-- has the mutator's own debts, of names of the snapshot, and none of a line above `newest`. A name that came due was pushed,
-- or is in the queue
pub record AreAccounts (marks : List (List Bool)) (snapshot : World) (a : Accounts) : Type 0 where
  pub sets : length a.names ≡ length a.debts
  pub places : (m : ℕ) → m < length a.debts → HasPlaces snapshot (set_of a.names m)
  pub own : (m : ℕ) (debt : Debt) → Contains (queue_of a.debts m) debt → debt.mutator ≡ m
  pub there : (m : ℕ) (debt : Debt) → Contains (queue_of a.debts m) debt → IsSome (node_of snapshot debt.name)
  pub newest : (m : ℕ) (debt : Debt) → Contains (queue_of a.debts m) debt → debt.line ≤ a.newest
  pub owes : (m : ℕ) (name : Name) → IsMarked (set_of a.names m) name → IsMarked marks name ⊎
      ((debt : Debt) × Contains (queue_of a.debts m) debt × (debt.name ≡ name))

-- accounts in which no name came due and no debt is left
pub record AreNew (snapshot : World) (a : Accounts) : Type 0 where
  pub queues : (m : ℕ) → queue_of a.debts m ≡ []
  pub count : length a.debts ≡ length snapshot.mutators
  pub sets : length a.names ≡ length snapshot.mutators
  pub places : (m : ℕ) → m < length snapshot.mutators → HasPlaces snapshot (set_of a.names m)
  pub free : (m : ℕ) (name : Name) → mark_of (set_of a.names m) name ≡ false

-- whether a debt is new: its name may be due, wasn't pushed, and didn't come due by its mutator before
abbrev pub is_new : World → List (List Bool) → Accounts → Debt → Bool
is_new snapshot marks a debt = is_pushed_in snapshot debt.name && (not (mark_of marks debt.name) && not (mark_of (set_of a.names debt.mutator) debt.name))

-- the accounts after a debt was added: if it is new, it is at the end of its mutator's queue
abbrev pub owed_one : World → List (List Bool) → Accounts → Debt → Accounts
owed_one snapshot marks a debt =
    if is_new snapshot marks a debt
    then (record {
      debts = slice_set a.debts debt.mutator (queue_of a.debts debt.mutator ++ debt ∷ []);
      names = slice_set a.names debt.mutator (with_mark (set_of a.names debt.mutator) debt.name);
      newest = max a.newest debt.line;
    })
    else a

-- the unpaid debts after names came due at a line of a mutator: the old debts, and new debts of these names. The mutator owes
-- each of the names that may be due and wasn't pushed, since this line or an earlier line
pub record IsOwing (snapshot : World) (marks : List (List Bool)) (line m : ℕ) (names : List Name) (before after : Accounts) : Type 0 where
  pub old : (debt : Debt) → Contains (unpaid marks (all_debts before.debts)) debt → Contains (unpaid marks (all_debts after.debts)) debt
  pub new : (debt : Debt) → Contains (unpaid marks (all_debts after.debts)) debt → Contains (unpaid marks (all_debts before.debts)) debt ⊎
      ((debt.line ≡ line) × (debt.mutator ≡ m) × Contains (filter (is_pushed_in snapshot) names) debt.name)
  pub due : (name : Name) → Contains (filter (is_pushed_in snapshot) names) name → IsMarked marks name ⊎
      ((debt : Debt) × Contains (unpaid marks (all_debts after.debts)) debt × (debt.name ≡ name) × (debt.mutator ≡ m))

-- the accounts after paid debts left the front of a mutator's queue
pub record IsForgotten (marks : List (List Bool)) (m : ℕ) (before after : Accounts) : Type 0 where
  pub queue : List Debt
  pub debts : after.debts ≡ slice_set before.debts m queue
  pub names : after.names ≡ before.names
  pub newest : after.newest ≡ before.newest
  pub same : unpaid marks queue ≡ unpaid marks (queue_of before.debts m)
  pub fewer : (debt : Debt) → Contains queue debt → Contains (queue_of before.debts m) debt
  pub first : IsPaidUp marks queue

-- the earliest of debts, or none if there are no debts
abbrev pub IsLeastIn : List Debt → Option Debt → Type 0
IsLeastIn debts None = debts ≡ []
IsLeastIn debts (Some debt) = IsEarliest (Contains debts) debt
