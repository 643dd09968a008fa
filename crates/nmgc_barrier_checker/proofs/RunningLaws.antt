-- A cycle with the flags of its scanned mutators.
use Rattle.nmgc_barrier_checker.proofs.Vocabulary.{◌≡◌, ◌<◌, ◌≤◌, ◌∙◌, ℕ, List, length, ap, sym, subst, Bool, true, false, inr, Option, Some, None, IsSome, Contains, slice_set, Name, node_of, Cycle, IsPushed, IsTook, Hybrid, AreScanned, IsScanned, is_scanned, CycleResult, Why, IsStep}
use Rattle.std.proofs.Common.{Result, Ok, Err}
use Rattle.std.specs.Prelude.{IfOk, slice_index_or}
use Rattle.std.proofs.lemmas.List.{set_past, get_or_past}
use Rattle.nmgc_lists.specs.declared.memory.NoMemory.{NoMemory}
use Rattle.nmgc_barrier_checker.specs.{Cycles.IsRead, Cycles.IsPush, Cycles.IsTake, Watching.IsEnding, Watching.IsEndingWith, Watching.IsEndingIn, Watching.IsEndingWithIn}
use Rattle.nmgc_barrier_checker.specs.declared.event.Event.TheVariants as event
use Rattle.nmgc_barrier_checker.specs.declared.watch.Watch.TheVariants as watch

-- there is no flag past the end, and none is set there
pub past_flag : (flags : List Bool) (m : ℕ) → length flags ≤ m → false ≡ slice_index_or flags m false
past_flag flags m le = sym (get_or_past flags m false le)

pub past_set : (flags : List Bool) (m : ℕ) → length flags ≤ m → slice_set flags m true ≡ flags
past_set flags m le = set_past flags m true le

-- a mutator whose registers were read is scanned
read_scanned : (h : Hybrid) (next : Cycle) (m : ℕ) → m < length h.watch.world.mutators → is_scanned h m ≡ false → IsRead m h.watch next →
    IsScanned h m (record { watch = next; scanned = slice_set h.scanned m true })
read_scanned h next m lt first r = record {
  mutator = lt;
  first = first;
  rest = ap (λ (x : Cycle). record { watch = x; scanned = slice_set h.scanned m true }) r.rest;
  opened = r.opened;
}

-- a cycle in its own memory, with flags: its registers are read, or it has a push or a take
module _ (h : Hybrid) (old : Cycle) (flags : List Bool) (e : record { watch = old; scanned = flags } ≡ h) (now : Cycle) (same : now ≡ old) where
  seen : now ≡ h.watch
  seen = same ∙ ap (λ (x : Hybrid). x.watch) e

  unchanged : (next : Cycle) → next ≡ now → watch.Marking (record { watch = next; scanned = flags }) ≡ watch.Marking h
  unchanged next n = ap (λ (x : Cycle). watch.Marking (record { watch = x; scanned = flags })) (n ∙ same) ∙ ap (λ (x : Hybrid). watch.Marking x) e

  with_flags : (next : Cycle) → watch.Marking (record { watch = next; scanned = flags }) ≡ watch.Marking (record h { watch = next })
  with_flags next = ap (λ (x : Hybrid). watch.Marking (record x { watch = next })) e

  pub scanned_in : (m : ℕ) (next : Cycle) (after : List Bool) → m < length h.watch.world.mutators → is_scanned h m ≡ false → IsRead m now next →
      after ≡ slice_set flags m true → IsScanned h m (record { watch = next; scanned = after })
  scanned_in m next after lt first r set =
      let flags_are : after ≡ slice_set h.scanned m true = set ∙ ap (λ (x : Hybrid). slice_set x.scanned m true) e in
      subst (λ (l : List Bool). IsScanned h m (record { watch = next; scanned = l })) (sym flags_are)
      (read_scanned h next m lt first (subst (λ (x : Cycle). IsRead m x next) seen r))

  pub pushed_in : (name : Name) (next : Cycle) (y : Option Why) → IsPush name now y next →
      IsStep 0 (watch.Marking h) (event.Push name) y (watch.Marking (record { watch = next; scanned = flags }))
  pushed_in name next None p = (next, subst (λ (x : Cycle). IsPushed x name next) seen p, with_flags next)
  pushed_in name next (Some y) p = (unchanged next p.0, (p.1, subst (λ (x : Cycle). IsSome (node_of x.world name) → ⊥) seen p.2))

  pub taken_in : (name : Name) (next : Cycle) (y : Option Why) → IsTake name now y next →
      IsStep 0 (watch.Marking h) (event.Take name) y (watch.Marking (record { watch = next; scanned = flags }))
  taken_in name next None p = (next, subst (λ (x : Cycle). IsTook x name next) seen p, with_flags next)
  taken_in name next (Some y) p = (unchanged next p.0, (p.1, subst (λ (x : Cycle). Contains x.remembered name → ⊥) seen p.2))

-- an end of the cycle, if all mutators are scanned
ending_of : (h : Hybrid) (r : Result CycleResult Why) → AreScanned h → IsEnding h.watch r → IsEndingIn h r
ending_of h (Ok left) all e = (all, e)
ending_of h (Err y) all e = inr (all, e)

pub ending_in : (h : Hybrid) (r : Result (Result CycleResult Why) NoMemory) → AreScanned h → IfOk r (IsEnding h.watch) → IfOk r (IsEndingIn h)
ending_in h (Ok r) all e = ending_of h r all e
ending_in h (Err f) all e = tt

ending_with_of : (h : Hybrid) (named : List Name) (r : Result CycleResult Why) → AreScanned h → IsEndingWith h.watch named r → IsEndingWithIn h named r
ending_with_of h named (Ok left) all e = (all, e)
ending_with_of h named (Err y) all e = inr (all, e)

pub ending_with_in : (h : Hybrid) (named : List Name) (r : Result (Result CycleResult Why) NoMemory) → AreScanned h →
    IfOk r (IsEndingWith h.watch named) → IfOk r (IsEndingWithIn h named)
ending_with_in h named (Ok r) all e = ending_with_of h named r all e
ending_with_in h named (Err f) all e = tt
