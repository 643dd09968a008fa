-- The registers that a line borrows: what putting their values back leaves as it is, and that the values are still known.
use Rattle.nmgc_barrier_checker.proofs.Vocabulary.{◌≡◌, ◌<◌, ◌≤◌, ◌∙◌, arith, inl, inr, ℕ, List, [], ◌∷◌, ◌++◌, length, length-set, get_or, refl, ap, sym, subst, Bool, true, false, ltb, Option, Some, None, IsSome, cases_lt, cases_Bool, get_or_past, Name, Value, World, node_of, Node, IsKnown, step, Hybrid, Why, Task, Watch, REGISTERS, CanAct, AreDone, AreActed, AreHeldIf, AreKnownIn, IsKnownIn, is_stopped, mutators_of, registers_in, put, put_back, with_value}
use Rattle.std.proofs.lemmas.Bool.{lt-ltb, ltb-true}
use Rattle.std.specs.Prelude.{if◌then◌else◌}
use Rattle.nmgc_world_spec.specs.declared.value.Value.TheVariants as value
use Rattle.nmgc_world_spec.specs.{World.with_register, Known.AreKnown}
use Rattle.nmgc_world_laws.specs.laws.Growth.{step_grows}
use Rattle.nmgc_barrier_laws.specs.laws.HandedOver.{put_node}
use Rattle.nmgc_barrier_checker.specs.declared.watch.Watch.TheVariants as watch

-- more names in a world know the same values
grown : (w u : World) → ((n : Name) → IsSome (node_of w n) → IsSome (node_of u n)) → (v : Value) → IsKnown w v → IsKnown u v
grown w u names value.Nil k = tt
grown w u names (value.Number n) k = tt
grown w u names (value.Ref name) k = names name k

all_grown : (w u : World) → ((n : Name) → IsSome (node_of w n) → IsSome (node_of u n)) → (vs : List Value) → AreKnown w vs → AreKnown u vs
all_grown w u names vs k i d lt = grown w u names (get_or vs i d) (k i d lt)

-- tasks make no mutator, none leaves, and known values stay known
pub act_count : (line m : ℕ) (k : Task) (p next : Watch) → CanAct line m k p next → mutators_of next ≡ mutators_of p
act_count line m k (watch.Between w) next a =
    ap mutators_of a.2 ∙ ap (λ (v : World). length v.mutators) a.1.2 ∙ (step_grows w m k.command a.1.0.mutator).mutators
act_count line m k (watch.Marking h) next a =
    ap mutators_of a.3 ∙ ap (λ (x : Hybrid). length x.watch.world.mutators) a.1.rest ∙ (step_grows h.watch.world m k.command a.1.can.mutator).mutators
act_count line m k (watch.Ended left) next a =
    ap mutators_of a.2 ∙ ap (λ (v : World). length v.mutators) a.1.2 ∙ (step_grows left.world m k.command a.1.0.mutator).mutators
act_count line m k watch.Stopped next a = absurd a

pub done_count : (line m : ℕ) (ks : List Task) (p next : Watch) → AreDone line m ks p next → mutators_of next ≡ mutators_of p
done_count line m [] p next d = ap mutators_of d
done_count line m (k ∷ ks) p next d = done_count line m ks d.0 next d.2 ∙ act_count line m k p d.0 d.1

pub acted_count : (line m : ℕ) (ks : List Task) (p next : Watch) (o : Option Why) → AreActed line m ks p o next → mutators_of next ≡ mutators_of p
acted_count line m ks p next None d = done_count line m ks p next d
acted_count line m ks p next (Some y) s = done_count line m s.before p next s.done

act_known : (line m : ℕ) (k : Task) (p next : Watch) (vs : List Value) → CanAct line m k p next → AreKnownIn p vs → AreKnownIn next vs
act_known line m k (watch.Between w) next vs a known =
    subst (λ (q : Watch). AreKnownIn q vs) (sym a.2) (subst (λ (u : World). AreKnown u vs) (sym a.1.2)
    (all_grown w (step w m k.command).0 (step_grows w m k.command a.1.0.mutator).names vs known))
act_known line m k (watch.Marking h) next vs a known =
    subst (λ (q : Watch). AreKnownIn q vs) (sym a.3) (subst (λ (x : Hybrid). AreKnown x.watch.world vs) (sym a.1.rest)
    (all_grown h.watch.world (step h.watch.world m k.command).0 (step_grows h.watch.world m k.command a.1.can.mutator).names vs known))
act_known line m k (watch.Ended left) next vs a known =
    subst (λ (q : Watch). AreKnownIn q vs) (sym a.2) (subst (λ (u : World). AreKnown u vs) (sym a.1.2)
    (all_grown left.world (step left.world m k.command).0 (step_grows left.world m k.command a.1.0.mutator).names vs known))
act_known line m k watch.Stopped next vs a known = absurd a

done_known : (line m : ℕ) (ks : List Task) (p next : Watch) (vs : List Value) → AreDone line m ks p next → AreKnownIn p vs → AreKnownIn next vs
done_known line m [] p next vs d known = subst (λ (q : Watch). AreKnownIn q vs) (sym d) known
done_known line m (k ∷ ks) p next vs d known = done_known line m ks d.0 next vs d.2 (act_known line m k p d.0 vs d.1 known)

pub acted_known : (line m : ℕ) (ks : List Task) (p next : Watch) (o : Option Why) (vs : List Value) → AreActed line m ks p o next →
    AreKnownIn p vs → AreKnownIn next vs
acted_known line m ks p next None vs d known = done_known line m ks p next vs d known
acted_known line m ks p next (Some y) vs s known = done_known line m s.before p next vs s.done known

-- a value in a register
value_count : (b : Bool) (w : World) (m r : ℕ) (v : Value) → length (if b then with_register w m r v else w).mutators ≡ length w.mutators
value_count true w m r v = length-set w.mutators m _
value_count false w m r v = refl

value_names : (b : Bool) (w : World) (m r : ℕ) (v : Value) → m < length w.mutators → (n : Name) → IsSome (node_of w n) →
    IsSome (node_of (if b then with_register w m r v else w) n)
value_names true w m r v lt n k = subst (λ (o : Option Node). IsSome o) (sym (put_node w m r v lt n)) k
value_names false w m r v lt n k = k

pub put_count : (m r : ℕ) (v : Value) (p : Watch) → mutators_of (put m r v p) ≡ mutators_of p
put_count m r v (watch.Between w) = value_count (ltb r REGISTERS) w m r v
put_count m r v (watch.Marking h) = value_count (ltb r REGISTERS) h.watch.world m r v
put_count m r v (watch.Ended left) = value_count (ltb r REGISTERS) left.world m r v
put_count m r v watch.Stopped = refl

pub put_known : (m r : ℕ) (v : Value) (p : Watch) (vs : List Value) → m < mutators_of p → AreKnownIn p vs → AreKnownIn (put m r v p) vs
put_known m r v (watch.Between w) vs lt k = all_grown w (with_value w m r v) (value_names (ltb r REGISTERS) w m r v lt) vs k
put_known m r v (watch.Marking h) vs lt k =
    all_grown h.watch.world (with_value h.watch.world m r v) (value_names (ltb r REGISTERS) h.watch.world m r v lt) vs k
put_known m r v (watch.Ended left) vs lt k =
    all_grown left.world (with_value left.world m r v) (value_names (ltb r REGISTERS) left.world m r v lt) vs k
put_known m r v watch.Stopped vs lt k = tt

-- values put back
pub back_count : (m : ℕ) (held : List Value) (rs : List ℕ) (p : Watch) → mutators_of (put_back m held rs p) ≡ mutators_of p
back_count m held [] p = refl
back_count m held (r ∷ rs) p = back_count m held rs (put m r (get_or held r value.Nil) p) ∙ put_count m r (get_or held r value.Nil) p

pub back_known : (m : ℕ) (held : List Value) (rs : List ℕ) (p : Watch) (vs : List Value) → m < mutators_of p → AreKnownIn p vs →
    AreKnownIn (put_back m held rs p) vs
back_known m held [] p vs lt k = k
back_known m held (r ∷ rs) p vs lt k =
    back_known m held rs (put m r (get_or held r value.Nil) p) vs
    (subst (λ (n : ℕ). m < n) (sym (put_count m r (get_or held r value.Nil) p)) lt) (put_known m r (get_or held r value.Nil) p vs lt k)

pub back_more : (m : ℕ) (held : List Value) (rs : List ℕ) (r : ℕ) (p : Watch) →
    put_back m held (rs ++ r ∷ []) p ≡ put m r (get_or held r value.Nil) (put_back m held rs p)
back_more m held [] r p = refl
back_more m held (x ∷ rs) r p = back_more m held rs r (put m x (get_or held x value.Nil) p)

-- one of the values is known; beyond the list it is nil
known_item : (w : World) (vs : List Value) (r : ℕ) → AreKnown w vs → IsKnown w (get_or vs r value.Nil)
known_item w vs r k = elim (cases_lt r (length vs)) [
  | inl lt ↦ k r value.Nil lt
  | inr le ↦ subst (IsKnown w) (sym (get_or_past vs r value.Nil le)) tt
]

pub item_known : (p : Watch) (vs : List Value) (r : ℕ) → AreKnownIn p vs → IsKnownIn p (get_or vs r value.Nil)
item_known (watch.Between w) vs r k = known_item w vs r k
item_known (watch.Marking h) vs r k = known_item h.watch.world vs r k
item_known (watch.Ended left) vs r k = known_item left.world vs r k
item_known watch.Stopped vs r k = tt

-- the values that were found in a mutator's registers before the stop
pub held_parts : (m : ℕ) (p : Watch) (held : List Value) → is_stopped p ≡ false → AreHeldIf m p (Some held) →
    (m < mutators_of p) × (held ≡ registers_in m p) × AreKnownIn p held
held_parts m (watch.Between w) held going h = h
held_parts m (watch.Marking x) held going h = h
held_parts m (watch.Ended left) held going h = h
held_parts m watch.Stopped held going h = absurd (let bad : true ≡ false = going in cc)

pub held_none : (m : ℕ) (p : Watch) → is_stopped p ≡ false → AreHeldIf m p None → m < mutators_of p → ⊥
held_none m (watch.Between w) going h = h
held_none m (watch.Marking x) going h = h
held_none m (watch.Ended left) going h = h
held_none m watch.Stopped going h = absurd (let bad : true ≡ false = going in cc)

-- a register that a mutator doesn't have is passed over, and another gets its value
with_past : (b : Bool) (w : World) (m r : ℕ) (v : Value) → b ≡ false → (if b then with_register w m r v else w) ≡ w
with_past true w m r v e = absurd (let bad : true ≡ false = e in cc)
with_past false w m r v e = refl

with_within : (b : Bool) (w : World) (m r : ℕ) (v : Value) → b ≡ true → (if b then with_register w m r v else w) ≡ with_register w m r v
with_within true w m r v e = refl
with_within false w m r v e = absurd (let bad : false ≡ true = e in cc)

past : (r : ℕ) → REGISTERS ≤ r → ltb r REGISTERS ≡ false
past r le = elim (cases_Bool (ltb r REGISTERS)) [
  | inl t ↦ absurd (let lt : r < REGISTERS = ltb-true r REGISTERS t in omega (arith, le))
  | inr f ↦ f
]

pub put_past : (m r : ℕ) (v : Value) (p : Watch) → REGISTERS ≤ r → p ≡ put m r v p
put_past m r v (watch.Between w) le = ap (λ (u : World). watch.Between u) (sym (with_past (ltb r REGISTERS) w m r v (past r le)))
put_past m r v (watch.Marking h) le =
    ap (λ (u : World). watch.Marking (record h { watch = record h.watch { world = u } })) (sym (with_past (ltb r REGISTERS) h.watch.world m r v (past r le)))
put_past m r v (watch.Ended left) le =
    ap (λ (u : World). watch.Ended (record left { world = u })) (sym (with_past (ltb r REGISTERS) left.world m r v (past r le)))
put_past m r v watch.Stopped le = refl

-- the watch with a value in a register that exists
abbrev pub puts_within : ℕ → ℕ → Value → Watch → Watch
puts_within m r v (watch.Between w) = watch.Between (with_register w m r v)
puts_within m r v (watch.Marking h) = watch.Marking (record h { watch = record h.watch { world = with_register h.watch.world m r v } })
puts_within m r v (watch.Ended left) = watch.Ended (record left { world = with_register left.world m r v })
puts_within m r v watch.Stopped = watch.Stopped

pub put_within : (m r : ℕ) (v : Value) (p : Watch) → r < REGISTERS → puts_within m r v p ≡ put m r v p
put_within m r v (watch.Between w) lt = ap (λ (u : World). watch.Between u) (sym (with_within (ltb r REGISTERS) w m r v (lt-ltb r REGISTERS lt)))
put_within m r v (watch.Marking h) lt =
    ap (λ (u : World). watch.Marking (record h { watch = record h.watch { world = u } }))
    (sym (with_within (ltb r REGISTERS) h.watch.world m r v (lt-ltb r REGISTERS lt)))
put_within m r v (watch.Ended left) lt =
    ap (λ (u : World). watch.Ended (record left { world = u })) (sym (with_within (ltb r REGISTERS) left.world m r v (lt-ltb r REGISTERS lt)))
put_within m r v watch.Stopped lt = refl
