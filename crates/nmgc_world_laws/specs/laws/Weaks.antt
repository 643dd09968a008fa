-- Each weak pointer was made by a mutator, since g is an array.
use Rattle.std.specs.Prelude.{◌≡◌, ◌<◌}
use Rattle.nmgc_world_laws.specs.laws.Vocabulary.{length, arith, Bool, true, false, Option, Some, None, cond, eqb, inl, inr, cases_lt, eqb_tells, get_or_past, slice_get_within, SHARED_MAKER, Name, Parts, Node, Con, Var, Arr, Thunk, Weak, Stack, World, state_of, serial_of, no_mutator, IsWorld, IsShared, IsAliveWeak}

pub not_array : (node : Node) (parts : Option Parts) → IsShared node → node ≡ Weak parts → ⊥
not_array (Arr values) parts is e = cc
not_array (Con tag values) parts is e = absurd is
not_array (Var v) parts is e = absurd is
not_array (Thunk free result) parts is e = absurd is
not_array (Weak found) parts is e = absurd is
not_array (Stack size values) parts is e = absurd is

in_shared : (b : Bool) (node made : Node) → cond b (Some node) None ≡ Some made → node ≡ made
in_shared true node made e = cc
in_shared false node made e = absurd cc

-- a weak pointer was made by a mutator
module _ (w : World) (h : IsWorld w) (weak : Name) (alive : IsAliveWeak w weak) where
  pub weak_within : weak.serial < serial_of w weak.maker
  weak_within = elim (eqb_tells weak.maker SHARED_MAKER) [
    | inl p ↦ absurd (not_array w.shared (Some alive.0) h.shared (in_shared (eqb weak.serial 0) w.shared (Weak (Some alive.0)) (rw p.0 at alive.1)))
    | inr p ↦ slice_get_within (state_of w weak.maker).nodes weak.serial (Weak (Some alive.0)) (rw p.0 at alive.1)
  ]

  pub weak_maker : weak.maker < length w.mutators
  weak_maker = elim (cases_lt weak.maker (length w.mutators)) [
    | inl lt ↦ lt
    | inr le ↦
        let none : state_of w weak.maker ≡ no_mutator = get_or_past w.mutators weak.maker no_mutator le in
        let bad : weak.serial < length (no_mutator).nodes = rw none at weak_within in absurd (omega arith)
  ]
