-- The words of a weak pointer, and the names that they mark.
use Rattle.nmgc_weak.proofs.Vocabulary.{ne_eqb, eq-eqb, ◌≡◌, ◌+◌, ◌*◌, ◌/◌, ◌%◌, ℕ, true, false, eqb, List, [], ◌∷◌, refl, sym, ap, subst, ◌∙◌, arith, Option, Some, None, inl, inr, Contains, IsSome, slice_index, slice_get, Name, Value, Weak, Parts, World, node_of, IsAlive, IsReached, contains_head, is_some_of, HEADER_WORDS, entry_of, IsWide, IsOfWeak, Place, Means, holds, slots_of, IsTracked, AreEarlier, name_at, name_meant, earlier, IsQueued, CanOpen, Opening, AreApart, key_place, value_place, finaliser_place, some_at}
use Rattle.nmgc_world_spec.specs.declared.value.Value.TheVariants as value

-- the name that a value refers to
abbrev pub ref_in : Value → Option Name
ref_in value.Nil = None
ref_in (value.Number n) = None
ref_in (value.Ref name) = Some name

-- the name at an address, if objects are apart
pub named_at : (o : Opening) (at : ℕ) (name : Name) → AreApart o.layout o.places → Contains o.places (record { at = at; name = name }) →
    name_at o.places at ≡ Some name
named_at o at name h c =
    let r = some_at o.places at name c in
    let same = h.one (record { at = at; name = r.0 }) (record { at = at; name = name }) r.2 c (inr refl) in
    r.1 ∙ ap (λ (p : Place). Some p.name) same

-- a word that has a meaning marks the name that the value refers to
pub meant : (o : Opening) (w : ℕ) (v : Value) → AreApart o.layout o.places → Means (Contains o.places) w v → name_meant o.places w ≡ ref_in v
meant o w value.Nil h e = ap (λ k. name_meant o.places k) e
meant o w (value.Number n) h e =
    let a : eqb w 0 ≡ false = ne_eqb w 0 (λ z. omega arith) in
    let b : eqb (w % 2) 0 ≡ false = ne_eqb (w % 2) 0 (λ z. omega arith) in
    rw (a, b) refl
meant o w (value.Ref name) h means =
    let at : ℕ = means.0 in
    let is : w ≡ 2 * at = means.1 in
    let l = h.above (record { at = at; name = name }) means.2 in
    let a : eqb w 0 ≡ false = ne_eqb w 0 (λ e. omega arith) in
    let b : eqb (w % 2) 0 ≡ true = eq-eqb (w % 2) 0 (omega arith) in
    let c : w / 2 ≡ at = omega arith in
    rw (a, b, c) (named_at o at name h means.2)

-- the words of the three parts
pub record HasParts (o : Opening) (words : List ℕ) (at : ℕ) (parts : Parts) : Type 0 where
  pub key : Means (Contains o.places) (slice_index words (key_place at)) parts.key
  pub value : Means (Contains o.places) (slice_index words (value_place at)) parts.value
  pub finaliser : Means (Contains o.places) (slice_index words (finaliser_place at)) parts.finaliser

-- a name in the wide reach of the world is tracked
pub wide_tracked : (o : Opening) (name : Name) → IsWide o.core.world name → IsTracked o.core.world (earlier o) name
wide_tracked o name wide = IsReached.start name (o.core.world, contains_head o.core.world (earlier o), wide)

pub of_weak_tracked : (o : Opening) (weak target : Name) (parts : Parts) → IsAlive o.core.world weak parts → IsOfWeak weak parts target →
    IsTracked o.core.world (earlier o) target
of_weak_tracked o weak target parts alive of = wide_tracked o target (IsReached.start target (inr (weak, parts, alive, of)))

pub has_parts : (o : Opening) (words : List ℕ) (at : ℕ) (weak : Name) (parts : Parts) → CanOpen o words →
    Contains o.places (record { at = at; name = weak }) → IsAlive o.core.world weak parts → HasParts o words at parts
has_parts o words at weak parts h c alive =
    let placed = h.represents.tracked weak (Weak (Some parts)) (of_weak_tracked o weak weak parts alive (inl refl)) alive in
    let same = h.represents.one (record { at = placed.at; name = weak }) (record { at = at; name = weak }) placed.there c (inl refl) in
    let at_is : placed.at ≡ at = ap (λ (p : Place). p.at) same in
    let field : (i : ℕ) (v : Value) (k : ℕ) → slice_get (slots_of (Weak (Some parts))) i ≡ Some (holds v) → placed.at + HEADER_WORDS + i ≡ k →
    Means (Contains o.places) (slice_index words k) v
    = λ i v k e is. subst (λ (j : ℕ). Means (Contains o.places) (slice_index words j) v) is (placed.fields i (holds v) e) in
    record {
      key = field 0 parts.key (key_place at) refl (omega arith);
      value = field 1 parts.value (value_place at) refl (omega arith);
      finaliser = field 2 parts.finaliser (finaliser_place at) refl (omega arith);
    }

-- a tracked name of the snapshot may be queued
pub may_queue : (o : Opening) (words : List ℕ) (target : Name) → o.marking ≡ true → CanOpen o words → AreEarlier (earlier o) o.core.world →
    IsTracked o.core.world (earlier o) target → IsSome (node_of o.core.snapshot target) → IsQueued o (entry_of target)
may_queue o words target marking h spoken tracked there =
    let e : earlier o ≡ o.core.snapshot ∷ [] = rw marking refl in
    let was = spoken o.core.snapshot (subst (λ (l : List World). Contains l o.core.snapshot) (sym e) (contains_head o.core.snapshot [])) in
    let now_ = is_some_of (node_of o.core.world target) (was.names target there) in
    let then_ = is_some_of (node_of o.core.snapshot target) there in
    let placed = h.represents.tracked target now_.0 tracked now_.1 in
    record {
      marking = marking;
      object = record { at = placed.at; name = target; node = now_.0 };
      here = record { there = placed.there; tracked = tracked; node = now_.1 };
      name = refl;
      node = then_.0;
      there = then_.1;
      within = omega arith;
      passed = λ le. absurd (omega arith);
    }
