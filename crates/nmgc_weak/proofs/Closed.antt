-- The mutators' queues once the finalisers of the deaths have joined them.
use Rattle.nmgc_weak.proofs.Vocabulary.{◌≡◌, ◌≢◌, ◌*◌, ◌<◌, ℕ, zero, suc, List, [], ◌∷◌, ◌++◌, map, length, refl, sym, ap, subst, ◌∙◌, append-nil, append_assoc, arith, Option, Some, None, inl, inr, Contains, slice_get, cases_eq, REGISTERS, SHARED_MAKER, Name, Value, Node, Weak, Parts, MutatorState, World, IsWorld, node_of, state_of, IsAlive, IsBefore, IsInOrder, closed, closed_by, queued, with_nth, with_state, with_dead, closed_state, contains_head, contains_tail, get_at, in_order_first, in_order_rest, not_before_itself, weak_maker, not_shared, FinQueue, dies_by, closing_leaves_hands, closed_mutators, closed_serials, state_same, state_other, Place, Means, ListMeans, Opening, Death, QueuesClose, joined, AreDeaths, get_within}
use Rattle.nmgc_world_spec.specs.declared.value.Value.TheVariants as value
use Rattle.nmgc_weak.proofs.{Dying.others_stay, Joining.one_of, Joining.joined_cons, Joining.own_joins, Joining.others_none, Joining.nil_none}

-- the deaths of a world
abbrev DeathsAt : (Place → Type 0) → World → List Name → List Death → Type 0
DeathsAt P w [] [] = Unit {0}
DeathsAt P w (d ∷ ds) (x ∷ xs) = ((x.weak ≡ d) × ((parts : Parts) × IsAlive w d parts × Means P x.finaliser parts.finaliser)) × DeathsAt P w ds xs
DeathsAt P w _ _ = ⊥

of_opening : (o : Opening) (dead : List Name) (deaths : List Death) → AreDeaths o dead deaths → DeathsAt (Contains o.places) o.core.world dead deaths
of_opening o [] [] h = tt
of_opening o (d ∷ ds) (x ∷ xs) h = (h.0, of_opening o ds xs h.1)
of_opening o [] (x ∷ xs) h = absurd h
of_opening o (d ∷ ds) [] h = absurd h

-- a further death changes none of those that follow
still_deaths : (P : Place →
    Type 0) (w : World) (world : IsWorld w) (d : Name) (parts : Parts) (alive : IsAlive w d parts) (dead : List Name) (deaths : List Death) →
    ((n : Name) → Contains dead n → n ≢ d) → DeathsAt P w dead deaths → DeathsAt P (closed_by w d (node_of w d)) dead deaths
still_deaths P w world d parts alive [] [] ne h = tt
still_deaths P w world d parts alive (n ∷ ns) (x ∷ xs) ne h =
    let k = h.0.1 in (
      (h.0.0, (k.0, others_stay w world d parts alive n (ne n (contains_head n ns)) ∙ k.1, k.2)),
      still_deaths P w world d parts alive ns xs (λ m c. ne m (contains_tail n ns m c)) h.1,
    )
still_deaths P w world d parts alive [] (x ∷ xs) ne h = absurd h
still_deaths P w world d parts alive (n ∷ ns) [] ne h = absurd h

-- one word more means one value more
means_push : (P : Place → Type 0) (ws : List ℕ) (vs : List Value) (w : ℕ) (v : Value) → ListMeans P ws vs → Means P w v →
    ListMeans P (ws ++ w ∷ []) (vs ++ v ∷ [])
means_push P [] [] w v h m = (m, tt)
means_push P [] (y ∷ vs) w v h m = absurd h
means_push P (x ∷ ws) [] w v h m = absurd h
means_push P (x ∷ ws) (y ∷ vs) w v h m = (h.0, means_push P ws vs w v h.1 m)

-- the finaliser joins the queue of the maker
own_queue : (P : Place → Type 0) (state : MutatorState) (q : List ℕ) (x : Death) (fin : Value) → ListMeans P q state.queue →
    Means P x.finaliser fin → ListMeans P (q ++ one_of x.weak.maker x) (queued state fin).queue
own_queue P state q x value.Nil h m = rw (ap (λ (l : List ℕ). q ++
    l) (nil_none x.weak.maker x m) ∙ append-nil q) h
own_queue P state q x (value.Number n) h m =
    let ne : x.finaliser ≢ 1 = λ e. omega arith in
    rw (own_joins x ne) (means_push P q state.queue x.finaliser (value.Number n) h m)
own_queue P state q x (value.Ref name) h m =
    let is = m.1 in
    let ne : x.finaliser ≢ 1 = λ e. omega arith in
    rw (own_joins x ne) (means_push P q state.queue x.finaliser (value.Ref name) h m)

-- one death
one_queue : (P : Place → Type 0) (w : World) → IsWorld w → (d : Name) (x : Death) (parts : Parts) → x.weak ≡ d → IsAlive w d parts →
    Means P x.finaliser parts.finaliser → (m : ℕ) (q : List ℕ) → ListMeans P q (state_of w m).queue →
    ListMeans P (q ++ one_of m x) (state_of (closed_by w d (node_of w d)) m).queue
one_queue P w world d x parts same alive means m q h =
    let lt : d.maker < length w.mutators = weak_maker w world d (parts, alive) in
    let ne : d.maker ≢ SHARED_MAKER = not_shared w d.maker world lt in
    let dead : MutatorState = with_dead (state_of w d.maker) d.serial parts.finaliser in
    let is : closed_by w d (node_of w d) ≡ with_state w d.maker dead = ap (λ (o : Option Node). closed_by w d o) alive ∙ closed_state w d parts lt ne in
    let R : World → Type 0 = λ v. ListMeans P (q ++ one_of m x) (state_of v m).queue in
    subst R (sym is) (elim (cases_eq m d.maker) [
      | inl e ↦
          let own : ListMeans P (q ++ one_of x.weak.maker x) (queued (with_nth (state_of w d.maker) d.serial (Weak None)) parts.finaliser).queue =
          own_queue P (with_nth (state_of w d.maker) d.serial (Weak None)) q x parts.finaliser (rw e at h) means in
          let maker : x.weak.maker ≡ m = ap (λ (n : Name). n.maker) same ∙ sym e in
          let at : ListMeans P (q ++ one_of m x) dead.queue = subst (λ (k : ℕ). ListMeans P (q ++ one_of k x) dead.queue) maker own in
          let st : state_of (with_state w d.maker dead) m ≡ dead = ap (λ (k : ℕ). state_of (with_state w d.maker dead) k) e ∙ state_same w d.maker dead lt in
          subst (λ (s : MutatorState). ListMeans P (q ++ one_of m x) s.queue) (sym st) at
      | inr other ↦
          let none : one_of m x ≡ [] = others_none m x (λ e. other (sym e ∙ ap (λ (n : Name). n.maker) same)) in
          let st : state_of (with_state w d.maker dead) m ≡ state_of w m = state_other w d.maker dead lt m other in
          rw st (rw (ap (λ (l : List ℕ). q ++ l) none ∙ append-nil q) h)
    ])

-- all of them
all_queues : (P : Place → Type 0) (w : World) (dead : List Name) (deaths : List Death) → IsWorld w → IsInOrder dead → DeathsAt P w dead deaths →
    (m : ℕ) (q : List ℕ) → ListMeans P q (state_of w m).queue → ListMeans P (q ++ joined m deaths) (state_of (closed w dead) m).queue
all_queues P w [] [] world o h m q means = subst (λ (l : List ℕ). ListMeans P l (state_of w m).queue) (sym (append-nil q)) means
all_queues P w [] (x ∷ xs) world o h m q means = absurd h
all_queues P w (d ∷ ds) [] world o h m q means = absurd h
all_queues P w (d ∷ ds) (x ∷ xs) world o h m q means =
    let k = h.0.1 in
    let v : World = closed_by w d (node_of w d) in
    let one = one_queue P w world d x k.0 h.0.0 k.1 k.2 m q means in
    let later = still_deaths P w world d k.0 k.1 ds xs (λ n c e. not_before_itself d (subst (λ (y : Name). IsBefore d y) e (in_order_first d ds o n c))) h.1 in
    let rest = all_queues P v ds xs (dies_by w world d).world (in_order_rest d ds o) later m (q ++ one_of m x) one in
    rw (append_assoc q (one_of m x) (joined m xs) ∙
    ap (λ (l : List ℕ). q ++ l) (sym (joined_cons m x xs))) at rest

-- the words of queues
map_get : (qs : List FinQueue) (m : ℕ) (own : List ℕ) → slice_get (map (λ (q : FinQueue). q.words) qs) m ≡ Some own → (q : FinQueue) ×
    (slice_get qs m ≡ Some q) × (q.words ≡ own)
map_get [] m own e = absurd cc
map_get (q ∷ qs) zero own e = (q, refl, let z : Some q.words ≡ Some own = e in cc)
map_get (q ∷ qs) (suc m) own e = map_get qs m own e

get_map : (qs : List FinQueue) (m : ℕ) (q : FinQueue) → slice_get qs m ≡ Some q → slice_get (map (λ (q : FinQueue). q.words) qs) m ≡ Some q.words
get_map [] m q e = absurd cc
get_map (y ∷ qs) zero q e = let z : Some y ≡ Some q = e in let same : y ≡ q = cc in ap (λ (k : FinQueue). Some k.words) same
get_map (y ∷ qs) (suc m) q e = get_map qs m q e

words_length : (qs : List FinQueue) → length (map (λ (q : FinQueue). q.words) qs) ≡ length qs
words_length [] = refl
words_length (q ∷ qs) = ap suc (words_length qs)

pub queues_close : QueuesClose
queues_close o dead deaths registers old new serials world h ordered roots joins =
    let w : World = o.core.world in
    let v : World = closed w dead in
    let many : length v.mutators ≡ length w.mutators = closed_mutators w dead world in
    record {
      count = roots.count ∙ ap (λ (n : ℕ). REGISTERS * n) (sym many);
      mutators = (words_length new ∙ joins.0 ∙ sym (words_length old) ∙ roots.mutators.0 ∙ sym many, roots.mutators.1 ∙ sym many);
      held = λ m lt. rw (closing_leaves_hands w dead world m).registers (roots.held m (subst (λ (n : ℕ). m < n) many lt));
      queued = λ m own e.
          let q = map_get new m own e in
          let lt : m < length old = (let l = get_within new m q.0 q.1 in let k = joins.0 in omega arith) in
          let b = get_at old m lt in
          let a = joins.1 m b.0 b.1 in
          let both : Some a.0 ≡ Some q.0 = sym a.1 ∙ q.1 in
          let same : a.0 ≡ q.0 = cc in
          let before = roots.queued m b.0.words (get_map old m b.0 b.1) in
          let means = all_queues (Contains o.places) w dead deaths world ordered (of_opening o dead deaths h) m b.0.words before in
          subst (λ (l : List ℕ). ListMeans (Contains o.places) l (state_of v m).queue) (sym a.2.words_are ∙ ap (λ (k : FinQueue). k.words) same ∙ q.2) means;
      next = λ m serial e. roots.next m serial e ∙ sym (closed_serials w dead world m);
    }
