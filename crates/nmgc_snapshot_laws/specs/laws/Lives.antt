-- Live names are names of the world.
use Rattle.std.specs.Prelude.{◌≡◌, ◌∷◌, ◌++◌}
use Rattle.nmgc_snapshot_laws.specs.laws.Vocabulary.{ℕ, List, [], refl, sym, subst, Option, Some, None, inl, inr, IsSome, All, Contains, All-head, All-cons, All-nil, All-append, All-contains, Contains-append_left, Name, Value, Parts, Node, Con, Var, Arr, Thunk, Weak, Stack, World, state_of, node_of, held_by, IsKnown, IsNodeOf, IsWorld, IsLive, IsRoot, IsAlive, IsKeptBy, RefersTo, strong_fields, root, further, field, plain_key, live_key, strong_at, HasStrongField, place_of_field, field_at_place, contains_head, contains_tail, at_some}
use Rattle.nmgc_world_spec.specs.declared.value.Value.TheVariants as value

-- strong fields are among the values in a node
strong_held : (Q : Value → Type 0) (node : Node) → All Q (held_by node) → All Q (strong_fields node)
strong_held Q (Con tag values) h = h
strong_held Q (Var v) h = h
strong_held Q (Arr values) h = h
strong_held Q (Thunk free None) h = h
strong_held Q (Thunk free (Some result)) h = All-cons Q result [] (All-head Q result free h) (All-nil Q)
strong_held Q (Weak parts) h = All-nil Q
strong_held Q (Stack size values) h = h

-- the target of a field is in the map
pub target_there : (w : World) → IsWorld w → (name target : Name) → RefersTo w name target → IsSome (node_of w target)
target_there w h name target (node, is, c) =
    let P : Value → Type 0 = IsKnown w in
    let mine : IsNodeOf w node = at_some (node_of w name) node (IsNodeOf w) is (h.nodes name) in
    All-contains P (strong_fields node) (value.Ref target) (strong_held P node mine.known) c

pub refers : (w : World) (name target : Name) (i : ℕ) → HasStrongField w name i (value.Ref target) → RefersTo w name target
refers w name target i s = (s.node, s.node_is, field_at_place s.node i (value.Ref target) s.field)

pub stands : (w : World) (name target : Name) → RefersTo w name target → (i : ℕ) × HasStrongField w name i (value.Ref target)
stands w name target (node, is, c) = let p : (i : ℕ) × (strong_at node i ≡ Some (value.Ref target)) = place_of_field node (value.Ref target) c in
    (p.0, record { node = node; node_is = is; field = p.1 })

pub root_there : (w : World) → IsWorld w → (name : Name) → IsRoot w name → IsSome (node_of w name)
root_there w h name (inl g) = subst (λ n. IsSome (node_of w n)) (sym g) refl
root_there w h name (inr held) =
    let P : Value → Type 0 = IsKnown w in
    All-contains P ((state_of w held.0).registers ++
    (state_of w held.0).queue) (value.Ref name) (All-append P (state_of w held.0).registers (state_of w held.0).queue (h.known_registers held.0)
    (h.known_queue held.0)) held.1

-- all that a weak pointer that is alive keeps is in the map
pub part_there : (w : World) → IsWorld w → (weak target : Name) (parts : Parts) → IsAlive w weak parts → IsKeptBy weak parts target → IsSome (node_of w target)
part_there w h weak target parts alive kept = by_part kept
  where
    node : IsNodeOf w (Weak (Some parts))
    node = at_some (node_of w weak) (Weak (Some parts)) (IsNodeOf w) alive (h.nodes weak)

    held : (v : Value) → Contains (parts.key ∷ parts.value ∷ parts.finaliser ∷ []) v → v ≡ value.Ref target → IsSome (node_of w target)
    held v c e = All-contains (IsKnown w) (parts.key ∷ parts.value ∷ parts.finaliser ∷
        []) (value.Ref target) node.known (subst (λ (x : Value). Contains (parts.key ∷ parts.value ∷ parts.finaliser ∷ []) x) e c)

    by_part : IsKeptBy weak parts target → IsSome (node_of w target)
    by_part (inl e) = subst (λ (n : Name). IsSome (node_of w n)) (sym e) (subst (λ (o : Option Node). IsSome o) (sym alive) refl)
    by_part (inr (inl e)) = held parts.value (contains_tail parts.key (parts.value ∷ parts.finaliser ∷
        []) parts.value (contains_head parts.value (parts.finaliser ∷ []))) e
    by_part (inr (inr e)) = held parts.finaliser (contains_tail parts.key (parts.value ∷ parts.finaliser ∷
        []) parts.finaliser (contains_tail parts.value (parts.finaliser ∷ []) parts.finaliser (contains_head parts.finaliser []))) e

pub live_there : (w : World) (extra : List Name) → IsWorld w → (name : Name) → IsLive w extra name → IsSome (node_of w name)
live_there w extra h name (root n r) = root_there w h n r
live_there w extra h name (further n c there) = there
live_there w extra h name (field n target l r) = target_there w h n target r
live_there w extra h name (plain_key weak target parts alive plain kept) = part_there w h weak target parts alive kept
live_there w extra h name (live_key weak target key parts alive is l kept) = part_there w h weak target parts alive kept

-- opened names make more names live
pub live_more : (w : World) (extra more : List Name) (name : Name) → IsLive w extra name → IsLive w (extra ++ more) name
live_more w extra more name (root n r) = root n r
live_more w extra more name (further n c there) = further n (Contains-append_left extra more n c) there
live_more w extra more name (field n target l r) = field n target (live_more w extra more n l) r
live_more w extra more name (plain_key weak target parts alive plain kept) = plain_key weak target parts alive plain kept
live_more w extra more name (live_key weak target key parts alive is l kept) = live_key weak target key parts alive is (live_more w extra more key l) kept
