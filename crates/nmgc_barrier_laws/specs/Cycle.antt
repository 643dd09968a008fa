-- A barrier that is watched without a marker: the snapshot, the world, the names remembered since, and the debts. A debt is a
-- name that is due and wasn't remembered, with the line since which it is due. A name made since the snapshot isn't in the
-- snapshot: it is never due, and a push of it counts for nothing.
use Rattle.std.specs.Prelude.{◌≡◌, ◌≢◌, ◌↔◌, ◌⊎◌, ℕ, List, [], ◌++◌, IsSome, Contains}
use Rattle.nmgc_world_spec.specs.{declared.value.Name.Name, declared.node.Parts.Parts, declared.command.Command.Command, declared.command.Reply.Reply, World.World, World.node_of, World.step, World.shared_name, Known.CanApply, Reach.opened_by, Reach.finalised_by, Reach.IsAlive, Reach.IsDead, Reach.IsKept, Reach.Lists, Reach.closed}
use Rattle.nmgc_world_spec.specs.declared.value.Value.TheVariants as value
use Rattle.nmgc_barrier_laws.specs.{declared.debt.Debt.Debt, Due.IsDue}

-- a watched cycle, without any marker. It has the world now, the snapshot, and the names of the snapshot that were pushed
-- since, opened by commands, or taken by the marker, if that is reported. It has the debts: names of the snapshot due and not
-- pushed, with the line and the mutator that made them due. And it has the weak pointers that commands finalised
pub record Cycle : Type 0 where
  pub world : World
  pub snapshot : World
  pub remembered : List Name
  pub debts : List Debt
  pub opened : List Name
  pub taken : List Name
  pub finalised : List Name

-- the watched cycle when marking begins: the world is the snapshot, and nothing was pushed or is due
abbrev pub watching : World → Cycle
watching w = record { world = w; snapshot = w; remembered = []; debts = []; opened = []; taken = []; finalised = [] }

-- the cycle has a debt of this name
abbrev pub Owes : Cycle → Name → Type 0
Owes h name = (debt : Debt) × Contains h.debts debt × (debt.name ≡ name)

-- the cycle has a debt of this name by a command of this mutator
abbrev pub OwesBy : Cycle → ℕ → Name → Type 0
OwesBy h m name = (debt : Debt) × Contains h.debts debt × (debt.name ≡ name) × (debt.mutator ≡ m)

-- a command at a line, which the heap takes with this answer. Each name that the command makes due was pushed, or is due by
-- this mutator since this line or an earlier line
pub record IsWatched (h : Cycle) (line m : ℕ) (c : Command) (answer : Reply) (next : Cycle) : Type 0 where
  pub can : CanApply h.world m c
  pub says : (step h.world m c).1 ≡ answer
  pub rest : next ≡ record h { world = (step h.world m c).0; debts = next.debts; opened = next.opened; finalised = h.finalised ++ finalised_by h.world m c }
  pub opened : (name : Name) → Contains next.opened name ↔ (Contains h.opened name ⊎ (Contains (opened_by h.world m c) name × IsSome (node_of h.snapshot name)))
  pub old : (debt : Debt) → Contains h.debts debt → Contains next.debts debt
  pub new : (debt : Debt) → Contains next.debts debt → Contains h.debts debt ⊎
      ((debt.line ≡ line) × (debt.mutator ≡ m) × IsDue h.snapshot h.world m c debt.name × (Contains h.remembered debt.name → ⊥))
  pub due : (name : Name) → IsDue h.snapshot h.world m c name → Contains h.remembered name ⊎ OwesBy next m name

-- a push of a name of the heap: a name of the snapshot is remembered, and all debts of it go; any other name changes nothing
pub record IsPushed (h : Cycle) (name : Name) (next : Cycle) : Type 0 where
  pub there : IsSome (node_of h.world name)
  pub rest : next ≡ record h { remembered = next.remembered; debts = next.debts }
  pub remembered : (other : Name) → Contains next.remembered other ↔ (Contains h.remembered other ⊎ ((other ≡ name) × IsSome (node_of h.snapshot other)))
  pub debts : (debt : Debt) → Contains next.debts debt ↔ (Contains h.debts debt × (debt.name ≡ name → ⊥))

-- a take: the marker took a name that was remembered
pub record IsTook (h : Cycle) (name : Name) (next : Cycle) : Type 0 where
  pub pushed : Contains h.remembered name
  pub rest : next ≡ record h { taken = next.taken }
  pub taken : (other : Name) → Contains next.taken other ↔ (Contains h.taken other ⊎ (other ≡ name))

-- takes aren't reported, or the marker took all pushed names except g, which needs no push
abbrev pub IsAllTaken : Cycle → Type 0
IsAllTaken h = (h.taken ≡ []) ⊎ ((name : Name) → Contains h.remembered name → name ≢ shared_name → Contains h.taken name)

-- a key left if these weak pointers die: the key of another weak pointer, alive at the snapshot and not finalised since
pub record IsKeyLeft (h : Cycle) (dead : List Name) (key : Name) : Type 0 where
  pub weak : Name
  pub parts : Parts
  pub alive : IsAlive h.snapshot weak parts
  pub not_finalised : Contains h.finalised weak → ⊥
  pub lives : Contains dead weak → ⊥
  pub key_is : parts.key ≡ value.Ref key

-- the list has exactly the keys of the weak pointers that live on if these weak pointers die
abbrev pub AreKeysLeft : Cycle → List Name → List Name → Type 0
AreKeysLeft h dead keys = (key : Name) → Contains keys key ↔ IsKeyLeft h dead key

-- a name that no collector may free if exactly these die: the commands, or the keys of weak pointers that live on, keep it
abbrev pub Needs : Cycle → List Name → Name → Type 0
Needs h dead name = (keys : List Name) × AreKeysLeft h dead keys × IsKept h.snapshot (h.opened ++ keys) h.finalised name

-- a weak pointer that is dead if exactly these die: neither the commands nor the weak pointers that live on keep its key
abbrev pub IsDeadAmong : Cycle → List Name → Name → Type 0
IsDeadAmong h dead weak = (keys : List Name) × AreKeysLeft h dead keys × IsDead h.snapshot (h.opened ++ keys) h.finalised weak

-- a name that the commands or the pushes keep: a collector that marks all remembered names keeps it
abbrev pub MarksName : Cycle → Name → Type 0
MarksName h name = IsKept h.snapshot (h.opened ++ h.remembered) h.finalised name

-- an end that can happen, at which these weak pointers die: nothing is due, and nothing is on its way to the marker
pub record IsEnd (h : Cycle) (dead : List Name) (next : World) : Type 0 where
  pub debts : h.debts ≡ []
  pub taken : IsAllTaken h
  pub lists : Lists (IsDead h.snapshot (h.opened ++ h.remembered) h.finalised) dead
  pub next_is : next ≡ closed h.world dead

-- an end with a report of the weak pointers that die: each is dead if exactly these die, and they die in order of names
pub record IsEndWith (h : Cycle) (named dead : List Name) (next : World) : Type 0 where
  pub debts : h.debts ≡ []
  pub taken : IsAllTaken h
  pub may : (weak : Name) → Contains named weak → IsDeadAmong h named weak
  pub lists : Lists (Contains named) dead
  pub next_is : next ≡ closed h.world dead
