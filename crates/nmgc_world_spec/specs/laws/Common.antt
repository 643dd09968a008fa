-- Lemmas that the crates above need too.
use Rattle.std.specs.Prelude.{◌≡◌, ◌-◌, ◌∷◌, ◌≢◌, ◌<◌, if◌then◌else◌}
use Rattle.nmgc_world_spec.specs.laws.Vocabulary.{Option, Some, None, List, [], length, refl, arith, ℕ, Bool, true, false, eqb, ap, eq-eqb, zero, suc, set, ◌∙◌, length-set, sym, subst, inl, inr, IsSome, slice_get, and_from, get_or-set_same, slice_get-get_or, is_some_get, Name, Value, without_last, last_of, is_same_name, Node, Parts, World, node_of, IsAlive, IsKeptBy, IsOfWeak}
use Rattle.nmgc_world_spec.specs.declared.value.Value.TheVariants as value

pub same_ref : (a b : Name) → value.Ref a ≡ value.Ref b → a ≡ b
same_ref a b e = cc

pub not_both : (o : Option Value) → o ≡ None → IsSome o → ⊥
not_both None e h = absurd cc
not_both (Some x) e h = absurd cc

pub none_left : (values : List Value) → last_of values ≡ None → without_last values ≡ values
none_left [] e = refl
none_left (x ∷ xs) e = absurd (not_both (last_of (x ∷ xs)) e (is_some_get (x ∷ xs) (length (x ∷ xs) - 1) (omega arith)))

pub not_known : (serial : ℕ) (node : Node) → slice_get {X = Node} [] serial ≡ Some node → ⊥
not_known serial node e = cc

pub shared_or : (b d : Bool) (shared node : Node) (serial : ℕ) (A : Type 0) → (b ≡ true → d ≡ true → Some shared ≡ Some node → A) →
    (if b then (if d then Some shared else None) else slice_get {X = Node} [] serial) ≡ Some node → A
shared_or true true shared node serial A is e = is refl refl e
shared_or true false shared node serial A is e = absurd cc
shared_or false d shared node serial A is e = absurd (not_known serial node e)

pub name_itself : (a b : Name) → a ≡ b → is_same_name a b ≡ true
name_itself a b e = and_from (eqb a.maker b.maker) (eqb a.serial b.serial) (eq-eqb a.maker b.maker (ap (λ (n : Name).
    n.maker) e)) (eq-eqb a.serial b.serial (ap (λ (n : Name). n.serial) e))

-- a write of a name leaves the names at all other positions
pub get_set_other : (xs : List Name) (k i : ℕ) (y : Name) → i ≢ k → slice_get (set xs k y) i ≡ slice_get xs i
get_set_other [] k i y ne = refl
get_set_other (x ∷ xs) zero zero y ne = absurd (ne refl)
get_set_other (x ∷ xs) zero (suc i) y ne = refl
get_set_other (x ∷ xs) (suc k) zero y ne = refl
get_set_other (x ∷ xs) (suc k) (suc i) y ne = get_set_other xs k i y (λ e. ne (ap suc e))

pub get_set_same : (xs : List Name) (k : ℕ) (y : Name) → k < length xs → slice_get (set xs k y) k ≡ Some y
get_set_same xs k y low =
    let size = length-set xs k y in
    slice_get-get_or (set xs k y) k y (omega (arith, low, size)) ∙ ap (λ (n : Name). Some n) (get_or-set_same xs k y y low)

-- a weak pointer that is alive is in the map
pub weak_there : (w : World) (weak : Name) (parts : Parts) → IsAlive w weak parts → IsSome (node_of w weak)
weak_there w weak parts alive = subst (λ (o : Option Node). IsSome o) (sym alive) refl

-- a name that a weak pointer keeps is the weak pointer or one of its parts
pub of_weak : (weak target : Name) (parts : Parts) → IsKeptBy weak parts target → IsOfWeak weak parts target
of_weak weak target parts (inl e) = inl e
of_weak weak target parts (inr (inl e)) = inr (inr (inl e))
of_weak weak target parts (inr (inr e)) = inr (inr (inr e))
