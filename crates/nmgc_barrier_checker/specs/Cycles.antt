-- The invariant of a cycle, and the results of its calls.
use Rattle.std.specs.Prelude.{◌≡◌, ◌≢◌, ℕ, List, [], ◌∷◌, ◌++◌, length, flat_map, Option, Some, None, Bool, true, false, not, ◌&&◌, IsSome, Contains, ◌<◌, ◌⊎◌, ◌↔◌, filter}
use Rattle.nmgc_world_spec.specs.{declared.value.Name.Name, declared.node.Parts.Parts, declared.command.Command.Command, declared.command.Reply.Reply, World.World, World.node_of, World.is_same_name, World.step, World.shared_name, Known.IsWorld, Known.CanApply, Reach.IsAlive, Reach.names_among}
use Rattle.nmgc_graph.specs.{Marks.mark_of, Search.parts_of}
use Rattle.nmgc_barrier_laws.specs.{declared.debt.Debt.Debt, Cycle.Cycle, Cycle.OwesBy, Cycle.IsPushed, Cycle.IsTook, Cycle.IsAllTaken, Cycle.AreKeysLeft, Hybrid.Hybrid, Hybrid.is_scanned, Hybrid.IsWatchedIn, Hybrid.CanHand, Hybrid.IsHandedOver, Hybrid.IsScanned, Hybrid.held_names}
use Rattle.nmgc_world_spec.specs.declared.command.Reply.TheVariants as reply
use Rattle.nmgc_snapshot_laws.specs.Machine.{is_pushed_in}
use Rattle.nmgc_barrier_checker.specs.{declared.hand.Hand.Hand, declared.rows.Task.Task, declared.accounts.Accounts.Accounts, declared.name_set.NameSet.NameSet, declared.event.Why.Why, Accounts.AreAccounts, Accounts.IsLeastIn, First.IsEarliest, First.IsFirstName, NameSet.IsListed, Rows.Suits}
use Rattle.nmgc_barrier_checker.specs.declared.event.Why.TheVariants as why

-- the invariant of a cycle. Pushed, opened and taken names are lists with sets (`IsListed`), and the debts are in accounts. A
-- weak pointer that was alive in the snapshot and isn't finalised is unchanged. Both worlds are closed
pub record IsCycle (w s : World) (pushes : NameSet) (owed : Accounts) (opens takes : NameSet) (ends : List Name) : Type 0 where
  pub remembered : IsListed s pushes
  pub opened : IsListed s opens
  pub taken : IsListed s takes
  pub accounts : AreAccounts pushes.set s owed
  pub count : length owed.debts ≡ length w.mutators
  pub alive : (weak : Name) (parts : Parts) → IsAlive s weak parts → (Contains ends weak → ⊥) → IsAlive w weak parts
  pub snapshot : IsWorld s
  pub world : IsWorld w

-- a snapshot of a world, with the same objects; registers may differ
pub record IsSnapshotOf (w s : World) : Type 0 where
  pub count : length s.mutators ≡ length w.mutators
  pub nodes : (name : Name) → node_of s name ≡ node_of w name

-- the cycle, with these mutators scanned
abbrev pub with_scans : List Bool → Cycle → Hybrid
with_scans scans h = record { watch = h; scanned = scans }

-- a command that the cycle takes, whatever the heap's answer
abbrev pub IsTaken : ℕ → ℕ → Command → Hybrid → Hybrid → Type 0
IsTaken line m c h next = IsWatchedIn h line m c (step h.watch.world m c).1 next

-- the reason why a world can't take a command with this answer
abbrev pub IsWhyNot : World → ℕ → Command → Reply → Why → Type 0
IsWhyNot w m c answer why.CannotApply = CanApply w m c → ⊥
IsWhyNot w m c answer (why.Answer r) = CanApply w m c × ((step w m c).1 ≡ r) × (r ≢ answer)
IsWhyNot w m c answer why.Misplaced = ⊥
IsWhyNot w m c answer (why.NoSuchName n) = ⊥
IsWhyNot w m c answer (why.Due debt) = ⊥
IsWhyNot w m c answer (why.NotPushed n) = ⊥
IsWhyNot w m c answer (why.NotDead n) = ⊥
IsWhyNot w m c answer (why.NotListed n) = ⊥
IsWhyNot w m c answer (why.NotMarked n) = ⊥
IsWhyNot w m c answer (why.Needed n) = ⊥
IsWhyNot w m c answer (why.NotOld n) = ⊥
IsWhyNot w m c answer (why.Untaken n) = ⊥
IsWhyNot w m c answer (why.Unscanned k) = ⊥

-- the outcome of a command with an answer: the cycle took it, or nothing changed and there is a reason
abbrev pub IsCommand : ℕ → ℕ → Command → Reply → Hybrid → Option Why → Hybrid → Type 0
IsCommand line m c answer h None next = IsWatchedIn h line m c answer next
IsCommand line m c answer h (Some w) next = (next ≡ h) × IsWhyNot h.watch.world m c answer w

-- the reason why a world doesn't do a task: it can't take the command, or its answer doesn't suit the task
abbrev pub IsNotDone : World → ℕ → Task → Why → Type 0
IsNotDone w m k why.CannotApply = CanApply w m k.command → ⊥
IsNotDone w m k (why.Answer r) = CanApply w m k.command × ((step w m k.command).1 ≡ r) × (Suits k.answer r → ⊥)
IsNotDone w m k y = ⊥

-- the outcome of a task: it was done, or nothing changed and there is a reason
abbrev pub IsActing : ℕ → ℕ → Task → Hybrid → Option Why → Hybrid → Type 0
IsActing line m k h None next = IsTaken line m k.command h next × Suits k.answer (step h.watch.world m k.command).1
IsActing line m k h (Some w) next = (next ≡ h) × IsNotDone h.watch.world m k w

-- names that a mutator made due at a line, by no command. Names of the snapshot count as opened
pub record IsMadeDue (line m : ℕ) (names : List Name) (h next : Cycle) : Type 0 where
  pub rest : next ≡ record h { debts = next.debts; opened = next.opened }
  pub opened : (name : Name) → Contains next.opened name ↔ (Contains h.opened name ⊎ (Contains names name × IsSome (node_of h.snapshot name)))
  pub old : (debt : Debt) → Contains h.debts debt → Contains next.debts debt
  pub new : (debt : Debt) → Contains next.debts debt → Contains h.debts debt ⊎
      ((debt.line ≡ line) × (debt.mutator ≡ m) × Contains (filter (is_pushed_in h.snapshot) names) debt.name × (Contains h.remembered debt.name → ⊥))
  pub due : (name : Name) → Contains (filter (is_pushed_in h.snapshot) names) name → Contains h.remembered name ⊎ OwesBy next m name

-- a world can hand a value over
abbrev pub Hands : World → Hand → Type 0
Hands w k = CanHand w k.giver k.value k.taker k.dest

-- the reason why a world can't have handed a value over with this answer: it can't do so at all, or it answers `ok`
abbrev pub IsWhyNoHand : World → Hand → Reply → Why → Type 0
IsWhyNoHand w k answer y = ((y ≡ why.CannotApply) × (Hands w k → ⊥)) ⊎ (Hands w k × (y ≡ why.Answer reply.Fine) × (answer ≢ reply.Fine))

-- a value was handed over at a line
abbrev pub IsGivenOver : ℕ → Hand → Hybrid → Hybrid → Type 0
IsGivenOver line k h next = IsHandedOver h line k.giver k.value k.taker k.dest next

-- the outcome of a value handed over with an answer: it was, or nothing changed and there is a reason
abbrev pub IsHand : ℕ → Hand → Reply → Hybrid → Option Why → Hybrid → Type 0
IsHand line k answer h None next = IsGivenOver line k h next × (answer ≡ reply.Fine)
IsHand line k answer h (Some y) next = (next ≡ h) × IsWhyNoHand h.watch.world k answer y

-- the names of the snapshot in the mutator's registers count as opened
pub record IsRead (m : ℕ) (h next : Cycle) : Type 0 where
  pub rest : next ≡ record h { opened = next.opened }
  pub opened : (name : Name) → Contains next.opened name ↔ (Contains h.opened name ⊎
      (Contains (held_names h.world m) name × IsSome (node_of h.snapshot name)))

-- the reasons why a mutator can't be scanned: there is no such mutator, or it was scanned in this cycle
abbrev pub IsNotScanned : Hybrid → ℕ → Why → Type 0
IsNotScanned h m y = ((y ≡ why.CannotApply) × (m < length h.watch.world.mutators → ⊥)) ⊎
    ((y ≡ why.Misplaced) × (is_scanned h m ≡ true) × (m < length h.watch.world.mutators))

-- the outcome of a scan: the mutator was scanned, or nothing changed and there is a reason
abbrev pub IsScan : ℕ → Hybrid → Option Why → Hybrid → Type 0
IsScan m h None next = IsScanned h m next
IsScan m h (Some y) next = (next ≡ h) × IsNotScanned h m y

-- the outcome of a push: the cycle took it, or nothing changed, since the heap has no such name
abbrev pub IsPush : Name → Cycle → Option Why → Cycle → Type 0
IsPush name h None next = IsPushed h name next
IsPush name h (Some w) next = (next ≡ h) × (w ≡ why.NoSuchName name) × (IsSome (node_of h.world name) → ⊥)

-- a mutator that exists and has no debt of its commands so far
abbrev pub IsSettled : Cycle → ℕ → Type 0
IsSettled h m = (m < length h.world.mutators) × ((debt : Debt) → Contains h.debts debt → debt.mutator ≢ m)

-- a debt of the mutator in the cycle
abbrev pub IsOwn : Cycle → ℕ → Debt → Type 0
IsOwn h m debt = Contains h.debts debt × (debt.mutator ≡ m)

-- the reasons why a mutator hasn't settled: the earliest of its debts, or there is no such mutator
abbrev pub IsUnsettled : Cycle → ℕ → Why → Type 0
IsUnsettled h m y = ((debt : Debt) × (y ≡ why.Due debt) × IsEarliest (IsOwn h m) debt × (m < length h.world.mutators)) ⊎
    ((y ≡ why.CannotApply) × (m < length h.world.mutators → ⊥))

-- the outcome of a settle: the mutator has settled, or there is a reason why it hasn't
abbrev pub IsSettle : ℕ → Cycle → Option Why → Type 0
IsSettle m h None = IsSettled h m
IsSettle m h (Some y) = IsUnsettled h m y

-- the outcome of a take: the marker took the name, or nothing changed, since the name wasn't pushed
abbrev pub IsTake : Name → Cycle → Option Why → Cycle → Type 0
IsTake name h None next = IsTook h name next
IsTake name h (Some w) next = (next ≡ h) × (w ≡ why.NotPushed name) × (Contains h.remembered name → ⊥)

-- the cycle's earliest debt, or none if there are no debts
abbrev pub IsLeastDebt : Cycle → Option Debt → Type 0
IsLeastDebt h debt = IsLeastIn h.debts debt

-- a name that was pushed and isn't reported as taken, although takes are reported
abbrev pub IsUntakenName : Cycle → Name → Type 0
IsUntakenName h name = (h.taken ≢ []) × Contains h.remembered name × (name ≢ shared_name) × (Contains h.taken name → ⊥)

-- whether a name isn't among the taken names; g doesn't have to be taken
abbrev pub is_untaken : NameSet → Name → Bool
is_untaken taken name = not (is_same_name name shared_name) && not (mark_of taken.set name)

-- the outcome of a search among names for the first name that still has to be taken
abbrev pub IsUntakenIn : NameSet → List Name → Option Name → Type 0
IsUntakenIn taken names None = (name : Name) → Contains names name → is_untaken taken name ≡ false
IsUntakenIn taken names (Some name) = IsFirstName (λ n. Contains names n × (is_untaken taken n ≡ true)) name

-- the outcome of a search for the first name that was pushed and isn't reported as taken, although takes are reported
abbrev pub IsUntakenIf : Cycle → Option Name → Type 0
IsUntakenIf h None = IsAllTaken h
IsUntakenIf h (Some name) = IsFirstName (IsUntakenName h) name

-- whether a name is in neither set
abbrev pub is_outside : List (List Bool) → List (List Bool) → Name → Bool
is_outside dying ended weak = not (mark_of dying weak) && not (mark_of ended weak)

-- the target of the key among these parts, if there are parts and the key is a reference
abbrev pub key_names : Option Parts → List Name
key_names None = []
key_names (Some parts) = names_among (parts.key ∷ [])

-- the targets of the keys of those weak pointers that are alive in a world
abbrev pub keys_then : World → List Name → List Name
keys_then w weaks = flat_map (λ weak. key_names (parts_of w weak)) weaks

-- the names that the commands opened, followed by the keys of the weak pointers that live on if these weak pointers die
abbrev pub IsOpenedWith : Cycle → List Name → List Name → Type 0
IsOpenedWith h dead names = (keys : List Name) × AreKeysLeft h dead keys × (names ≡ h.opened ++ keys)
