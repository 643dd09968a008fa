-- The steps of a closing together.
use Rattle.nmgc_weak.proofs.Vocabulary.{true, map, ◌≡◌, ◌+◌, ◌*◌, ◌<◌, ◌^◌, ℕ, zero, suc, List, [], ◌∷◌, refl, sym, ap, subst, ◌∙◌, arith, Some, inl, Contains, slice_index, Name, Value, Weak, Parts, World, closed, HEADER_WORDS, IsClosing, State, Segments, Place, Means, size_of, Marks, marks_of, earlier, contains_head, contains_tail, Represents, NoNode, ListsWeaks, Opening, MarkerSeen, IsTied, OldWeak, Death, CanResolve, AreDeaths, HasResolved, AreLost, MarksOn, HasRescued, place_of, places_of, names_of, deaths_of, without_values, alive_of, IsWithin, AreWithin, HaveLostValues, of_place, lies_within}
use Rattle.nmgc_world_spec.specs.declared.value.Value.TheVariants as value
use Rattle.nmgc_weak.proofs.{Parts.HasParts, Parts.has_parts, Parts.of_weak_tracked, Closing.closes, Closing.closed_dead, Closing.closed_kept, Dying.AreAlive, Dying.all_die, Dying.lists_closed, Saving.has_place}

-- a pointer is no larger than an address may be
small_word : (o : Opening) (words : List ℕ) (s : Segments) (k : MarkerSeen) (weaks : List Place) (w : ℕ) (v : Value) →
    CanResolve o words s k weaks → Means (Contains o.places) w v → (to : ℕ) → w ≡ 2 * to → to < 2 ^ 32
small_word o words s k weaks w value.Nil h m to e = absurd (omega arith)
small_word o words s k weaks w (value.Number n) h m to e = absurd (omega arith)
small_word o words s k weaks w (value.Ref name) h m to e =
    let inside = h.ready.tied.snapshot.apart.inside (record { at = m.0; name = name }) m.2 in
    let is = m.1 in
    let l = h.ready.opens.is.layout in
    let heap = l.heap in
    omega arith

pub can_within : (o : Opening) (words : List ℕ) (s : Segments) (k : MarkerSeen) (list : List OldWeak) → CanResolve o words s k (places_of list) →
    AreWithin words list
can_within o words s k list h x c =
    let l = h.listed.sound (place_of x) (has_place list x c) in
    let parts : Parts = l.1.0 in
    let opens = h.ready.opens in
    let has = has_parts o words x.at.0 x.weak parts opens l.0 l.1.1 in
    let placed = opens.represents.tracked x.weak (Weak (Some parts)) (of_weak_tracked o x.weak x.weak parts l.1.1 (inl refl)) l.1.1 in
    let same = opens.represents.one (record { at = placed.at; name = x.weak }) (place_of x) placed.there l.0 (inl refl) in
    let at : placed.at ≡ x.at.0 = ap (λ (p : Place). p.at) same in
    let lies = lies_within o.layout (record { at = placed.at; name = x.weak }) (size_of (Weak (Some parts))) (omega arith) placed.object.lies in
    let total = opens.represents.total in
    record { inside = omega arith; small = small has }
  where
    at_place : (i j : ℕ) (v : Value) → i ≡ j → Means (Contains o.places) (slice_index words i) v → (to : ℕ) → slice_index words j ≡ 2 * to → to < 2 ^ 32
    at_place i j v e m to f = small_word o words s k (places_of list) (slice_index words j) v h (rw e at m) to f

    small : {parts : Parts} → HasParts o words x.at.0 parts → (i to : ℕ) → i < 3 → slice_index words (x.at.0 + HEADER_WORDS + i) ≡ 2 * to → to < 2 ^ 32
    small {parts} m zero to lt e = at_place (x.at.0 + 2) (x.at.0 + HEADER_WORDS + 0) parts.key (omega arith) m.key to e
    small {parts} m (suc zero) to lt e = at_place (x.at.0 + 3) (x.at.0 + HEADER_WORDS + 1) parts.value (omega arith) m.value to e
    small {parts} m (suc (suc zero)) to lt e = at_place (x.at.0 + 4) (x.at.0 + HEADER_WORDS + 2) parts.finaliser (omega arith) m.finaliser to e
    small {parts} m (suc (suc (suc i))) to lt e = absurd (omega arith)

pub lost_within : (o : Opening) (words : List ℕ) (list dying : List OldWeak) → AreWithin words list → AreLost o (places_of list) dying → AreWithin words dying
lost_within o words list dying h l x c =
    let y = of_place list (place_of x) (l.sound (place_of x) (has_place dying x c)).0 in
    let at : y.0.at.0 ≡ x.at.0 = ap (λ (p : Place). p.at) y.2 in
    subst (λ (i : ℕ). IsWithin words i) at (h y.0 y.1)

-- the weak pointer of the list at an address
at_place : (list : List OldWeak) (x : OldWeak) → Contains (places_of list) (place_of x) → Contains list x
at_place list x c =
    let y = of_place list (place_of x) c in
    let one : Place → OldWeak = λ (p : Place). record { weak = p.name; at = record { 0 = p.at } } in
    let same : y.0 ≡ x = ap one y.2 in
    subst (λ (w : OldWeak). Contains list w) same y.1

death_names : (words : List ℕ) (dying : List OldWeak) → names_of dying ≡ map (λ (death : Death). death.weak) (deaths_of words dying)
death_names words [] = refl
death_names words (x ∷ xs) = ap (λ (l : List Name). x.weak ∷ l) (death_names words xs)

-- the lost weak pointers are in the list, and lose their values
pub lost_values : (o : Opening) (words now : List ℕ) (list dying : List OldWeak) (deaths : List Death) → AreLost o (places_of list) dying →
    deaths ≡ deaths_of words dying → now ≡ without_values words dying → HaveLostValues list deaths words now
lost_values o words now list dying deaths l d e = record {
  dying = dying;
  listed = λ x c. at_place list x (l.sound (place_of x) (has_place dying x c)).0;
  dead = death_names words dying ∙ ap (λ (ds : List Death). map (λ (death : Death). death.weak) ds) (sym d);
  words = e;
}

-- with other marks
abbrev marking : Opening → List Name → Opening
marking o marked = record o { core = record o.core { marked = marked } }

-- a closing from more marks is a closing from fewer, if both could close: the live and the kept names are the same
closing_back : (o : Opening) (m : List Name) (words : List ℕ) (s t : Segments) (k l : MarkerSeen) (weaks : List Place) →
    CanResolve o words s k weaks → CanResolve (marking o m) words t l weaks → (next : State) → (c : IsClosing (marking o m).core next) →
    (d : IsClosing o.core next) × (d.dead ≡ c.dead)
closing_back o m words s t k l weaks h g next c =
    let lists = closed_dead (marking o m).core g.facts g.can_close.1 g.can_close.2 g.can_close.3 next c in
    let kept = closed_kept (marking o m).core g.facts g.can_close.1 g.can_close.2 g.can_close.3 next c in
    let d = closes o.core h.facts h.can_close.1 h.can_close.2 h.can_close.3 c.dead next.marked lists kept in
    let same : (record o.core { world = closed o.core.world c.dead; marked = next.marked; is_closed = true }) ≡ next = sym c.rest in
    subst (λ (x : State). (y : IsClosing o.core x) × (y.dead ≡ c.dead)) same d

-- the deaths of the dead
deaths_known : (o : Opening) (words : List ℕ) (s : Segments) (k : MarkerSeen) (list dying : List OldWeak) → CanResolve o words s k (places_of list) →
    ((x : OldWeak) → Contains dying x → Contains (places_of list) (place_of x)) → AreDeaths o (names_of dying) (deaths_of words dying)
deaths_known o words s k list [] h sub = tt
deaths_known o words s k list (x ∷ xs) h sub =
    let l = h.listed.sound (place_of x) (sub x (contains_head x xs)) in
    let has = has_parts o words x.at.0 x.weak l.1.0 h.ready.opens l.0 l.1.1 in
    ((refl, (l.1.0, l.1.1, has.finaliser)), deaths_known o words s k list xs h (λ y c. sub y (contains_tail x xs y c)))

-- all steps
module _ (o : Opening) (words : List ℕ) (s t u : Segments) (k l n : MarkerSeen) (list dying : List OldWeak) (h : CanResolve o words s k (places_of list)) where
  -- from the marks after the revival on
  from_marks : (m : List Name) → CanResolve (marking o m) words t l (places_of list) → AreLost (marking o m) (places_of list) dying →
      HasRescued (marking o m) u n dying → HasResolved o (without_values words dying) u n (alive_of (without_values words dying) list) (deaths_of words dying)
  from_marks m g lost saved =
      let c = closing_back o m words s t k l (places_of list) h g saved.next saved.closing in
      let dead : c.0.dead ≡ names_of dying = c.1 ∙ saved.dead in
      let world : saved.next.world ≡ closed o.core.world (names_of dying) = cc (c.0.rest, dead) in
      let opens = h.ready.opens in
      let alive : AreAlive o.places o.core.world dying = λ x d.
      let y = h.listed.sound (place_of x) (lost.sound (place_of x) (has_place dying x d)).0 in (y.0, y.1) in
      let repr = all_die o.layout (earlier o) o.places o.core.world words dying opens.world h.earlier_are lost.ordered alive opens.represents in
      let lists = lists_closed o.layout (earlier o) o.places o.core.world words list dying opens.world h.earlier_are h.listed lost.ordered alive
      opens.represents in
      record {
        next = saved.next;
        closing = c.0;
        once = saved.once;
        tied = tied_back m (marks_of saved.next) saved.tied;
        deaths_are = rw dead (deaths_known o words s k list dying h (λ x d.
            (lost.sound (place_of x) (has_place dying x d)).0));
        represents = subst (λ (w : World). Represents o.layout (earlier o) NoNode o.places w (without_values words dying)) (sym world) repr;
        listed = subst (λ (w : World). ListsWeaks o.layout o.places w (places_of (alive_of (without_values words dying) list))) (sym world) lists;
      }
    where
      tied_back : (m : List Name) (marks : Marks) → IsTied (marking o m) marks u n → IsTied o marks u n
      tied_back m marks x = record {
        snapshot = record { layout = x.snapshot.layout; apart = x.snapshot.apart; sound = x.snapshot.sound; complete = x.snapshot.complete };
        shared = x.shared;
        marks = x.marks;
        order = x.order;
        queue = x.queue;
        count = x.count;
      }

  pub resolved : (p : Opening) → MarksOn o p → CanResolve p words t l (places_of list) → AreLost p (places_of list) dying → HasRescued p u n dying →
      HasResolved o (without_values words dying) u n (alive_of (without_values words dying) list) (deaths_of words dying)
  resolved p on =
      let P : Opening → Type 0 = λ x. CanResolve x words t l (places_of list) → AreLost x (places_of list) dying → HasRescued x u n dying →
      HasResolved o (without_values words dying) u n (alive_of (without_values words dying) list) (deaths_of words dying) in
      subst P (sym on.rest) (from_marks p.core.marked)
