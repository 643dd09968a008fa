-- The machine's closing: its result is a closing by the definition, and leaves a core.
use Rattle.nmgc_core.proofs.Vocabulary.{◌≡◌, ◌<◌, List, [], ◌∷◌, length, get_or, refl, sym, length-set, ◌∙◌, arith, Option, Some, None, Bool, true, false, cond, inl, inr, All, Contains, IsSome, ◌==◌, ◌↔◌, eqb_tells, Contains-get_or, Name, SHARED_MAKER, Node, Con, Var, Arr, Thunk, Weak, Stack, World, state_of, node_of, IsWorld, with_state, with_node, with_nth, HasPlace, HasPlaces, IsMarked, mark_of, IsAliveWeak, Lists, queued, closed, closed_by, marked_place, is_some_get, Closing, State, is_listed, IsDying, IsMarkedLast, IsClosing, IsCore, IsFound, contains_listed, listed_from, same_test}

-- closing keeps the number of mutators
node_mutators : (w : World) (name : Name) (made : Node) → length (with_node w name made).mutators ≡ length w.mutators
node_mutators w name made = by_test (name.maker == SHARED_MAKER)
  where
    by_test : (b : Bool) → length (cond b (record w {
      shared =
          made;
    }) (with_state w name.maker (with_nth (state_of w name.maker) name.serial made))).mutators ≡ length w.mutators
    by_test true = refl
    by_test false = length-set w.mutators name.maker (with_nth (state_of w name.maker) name.serial made)

one_mutators : (w : World) (weak : Name) (o : Option Node) → length (closed_by w weak o).mutators ≡ length w.mutators
one_mutators w weak (Some (Weak (Some parts))) =
    let after : World = with_node w weak (Weak None) in
    length-set after.mutators weak.maker (queued (state_of after weak.maker) parts.finaliser) ∙ node_mutators w weak (Weak None)
one_mutators w weak None = refl
one_mutators w weak (Some (Weak None)) = refl
one_mutators w weak (Some (Con tag values)) = refl
one_mutators w weak (Some (Var v)) = refl
one_mutators w weak (Some (Arr values)) = refl
one_mutators w weak (Some (Thunk free result)) = refl
one_mutators w weak (Some (Stack size values)) = refl

closed_mutators : (w : World) (dead : List Name) → length (closed w dead).mutators ≡ length w.mutators
closed_mutators w [] = refl
closed_mutators w (weak ∷ dead) = closed_mutators (closed_by w weak (node_of w weak)) dead ∙ one_mutators w weak (node_of w weak)

-- a name with a position in the marks is in the map
placed_there : (w : World) (marks : List (List Bool)) (name : Name) → HasPlaces w marks → HasPlace marks name → IsSome (node_of w name)
placed_there w marks name h place = elim (eqb_tells name.maker SHARED_MAKER) [
  | inl p ↦
      let few : name.serial < 1 = rw p.0 at (rw (h.counts name.maker) at place) in
      let zero_is : name.serial ≡ 0 = omega arith in
      rw (p.0, zero_is) refl
  | inr p ↦ rw p.0 (is_some_get (state_of w name.maker).nodes name.serial (rw p.0 at (rw (h.counts name.maker) at place)))
]

-- every marked name is a name of the snapshot
pub marked_there : (marks : List (List Bool)) (s : State) → IsCore marks s → (name : Name) → Contains s.marked name → IsSome (node_of s.snapshot name)
marked_there marks s c name h = placed_there s.snapshot marks name c.places (marked_place marks name (c.same name ∙ listed_from name s.marked h))

-- the weak pointers that die are alive
pub dying_alive : (marks : List (List Bool)) (s : State) (dead : List Name) → IsCore marks s → s.is_closed ≡ false → Lists (IsDying s) dead →
    All (IsAliveWeak s.world) dead
dying_alive marks s dead c running l = λ k d lt. let dies = l.sound (get_or dead k d) (Contains-get_or dead k d lt) in
    (dies.parts, c.alive running (get_or dead k d) dies.parts dies.waiting.alive dies.waiting.not_finalised)

-- the names marked at the end, as a set and as a list
last_listed : (s : State) (found : Closing) (marked : List Name) → IsFound s found → Lists (IsMarked found.marks) marked → (name : Name) →
    Contains marked name ↔ IsMarkedLast s name
last_listed s found marked f l name = (λ c. (f.marked name).0 (l.sound name c), λ m. l.complete name ((f.marked name).1 m))

pub closing_done : (s : State) (found : Closing) (marked : List Name) (world : World) → IsFound s found → Lists (IsMarked found.marks) marked →
    world ≡ closed s.world found.dead → IsClosing s (record s { world = world; marked = marked; is_closed = true })
closing_done s found marked world f l e = record {
  dead = found.dead;
  lists = f.dead;
  marked = last_listed s found marked f l;
  rest = rw e refl;
}

-- the core after the closing
pub core_closed : (marks : List (List Bool)) (s : State) (found : Closing) (marked : List Name) (world : World) → IsCore marks s → IsFound s found →
    Lists (IsMarked found.marks) marked → world ≡ closed s.world found.dead → IsWorld world →
    IsCore found.marks (record s { world = world; marked = marked; is_closed = true })
core_closed marks s found marked world c f l e is =
    let count : length world.mutators ≡ length s.world.mutators = rw e (closed_mutators s.world found.dead) in
    record {
      places = f.places;
      same = λ name. same_test (mark_of found.marks name) (is_listed name marked) (λ m. listed_from name marked (l.complete name m)) (λ h.
          l.sound name (contains_listed name marked h));
      owed = c.owed ∙ sym count;
      pushed = c.pushed ∙ sym count;
      alive = λ running. absurd cc;
      snapshot = c.snapshot;
      world = is;
    }
