-- Closing keeps the world closed, and leaves every other node as it is.
use Rattle.nmgc_graph.proofs.Vocabulary.{◌≡◌, ◌≢◌, ◌<◌, ℕ, List, [], ◌∷◌, ◌++◌, length, take, get_or, set, refl, sym, ap, subst, ◌∙◌, Option, Some, Result, Ok, Err, Contains, All, OnOk, OnErr, slice_get, refill, ne_eqb, All-head, All-tail, All-weaker, All-take, Contains-get_or, NoMemory, SHARED_MAKER, Name, Node, Weak, MutatorState, World, state_of, node_of, IsWorld, IsAliveWeak, IsBefore, IsInOrder, closed, closed_by, finaliser_of, not_before_itself, in_order_first, in_order_rest, in_order_take, in_order_apart, contains_head, contains_tail, with_dead, closed_state, closed_other, closed_length, dead_keeps, weak_within, weak_maker, not_shared, lent, replaced, same_state}
use Rattle.nmgc_graph.proofs.Lent.{back_is}

-- the world after the death of a weak pointer is a world
module _ (w : World) (h : IsWorld w) (weak : Name) (alive : IsAliveWeak w weak) where
  lt : weak.maker < length w.mutators
  lt = weak_maker w h weak alive

  apart : weak.maker ≢ SHARED_MAKER
  apart = not_shared w weak.maker h lt

  there : slice_get (state_of w weak.maker).nodes weak.serial ≡ Some (Weak (Some alive.0))
  there = rw (ne_eqb weak.maker SHARED_MAKER apart) at alive.1

  -- the state that was lent, and the state that replaced it
  module _ (ys : List MutatorState) (e : ys ≡ w.mutators) (d new : MutatorState) where
    pub dead_within : weak.serial < length (get_or ys weak.maker d).nodes
    dead_within = rw (lent w h weak.maker lt ys e d new) (weak_within w h weak alive)

    finaliser_is : finaliser_of (slice_get (get_or ys weak.maker d).nodes weak.serial) ≡ alive.0.finaliser
    finaliser_is = rw (lent w h weak.maker lt ys e d new, there) refl

    module _ (r : Result (Unit {0}) NoMemory)
        (ok : OnOk r (new ≡ with_dead (get_or ys weak.maker d) weak.serial (finaliser_of (slice_get (get_or ys weak.maker d).nodes weak.serial))))
        (err : OnErr r (new ≡ get_or ys weak.maker d)) where
      by_result : (a : Result (Unit {0}) NoMemory) → OnOk a (new ≡
          with_dead (get_or ys weak.maker d) weak.serial (finaliser_of (slice_get (get_or ys weak.maker d).nodes weak.serial))) →
          OnErr a (new ≡ get_or ys weak.maker d) → IsWorld (record {
            shared = w.shared;
            mutators = refill (length w.mutators) w.mutators (set ys weak.maker new);
          })
      by_result (Ok x) is kept = replaced w h weak.maker lt ys e d new (λ s.
          with_dead s weak.serial alive.0.finaliser) (rw finaliser_is at is) (dead_keeps w h weak alive)
      by_result (Err f) is kept = replaced w h weak.maker lt ys e d new (λ s. s) kept (same_state w h weak.maker)

      pub one_keeps : IsWorld (record { shared = w.shared; mutators = refill (length w.mutators) w.mutators (set ys weak.maker new) })
      one_keeps = by_result r ok err

      closes : (a : Result (Unit {0}) NoMemory) → OnOk a (new ≡
          with_dead (get_or ys weak.maker d) weak.serial (finaliser_of (slice_get (get_or ys weak.maker d).nodes weak.serial))) →
          OnOk a (◌≡◌ {A = World} (record {
            shared = w.shared;
            mutators = refill (length w.mutators) w.mutators (set ys weak.maker new);
          }) (closed_by w weak (node_of w weak)))
      closes (Ok x) is =
          let target : MutatorState = with_dead (state_of w weak.maker) weak.serial alive.0.finaliser in
          let made : new ≡ target = (rw finaliser_is at is) ∙
          ap (λ (s : MutatorState). with_dead s weak.serial alive.0.finaliser) (lent w h weak.maker lt ys e d new) in
          back_is w weak.maker ys e new target made ∙ sym (ap (λ (o : Option Node). closed_by w weak o) alive.1 ∙ closed_state w weak alive.0 lt apart)
      closes (Err f) is = tt

      pub one_closes : OnOk r (◌≡◌ {A = World} (record {
        shared = w.shared;
        mutators = refill (length w.mutators) w.mutators (set ys weak.maker new);
      }) (closed_by w weak (node_of w weak)))
      one_closes = closes r ok

-- the makers of names are mutators of the world
abbrev AreMade : World → List Name → Type 0
AreMade w names = All (λ n. (n.maker < length w.mutators) × (n.maker ≢ SHARED_MAKER)) names

-- closing leaves every other node
closed_kept : (xs : List Name) (w : World) → AreMade w xs → IsInOrder xs → All (IsAliveWeak w) xs → (n : Name) → (Contains xs n → ⊥) →
    node_of (closed w xs) n ≡ node_of w n
closed_kept [] w made o alive n lacks = refl
closed_kept (x ∷ xs) w made o alive n lacks =
    let head = All-head (IsAliveWeak w) x xs alive in
    let at = All-head (λ m. (m.maker < length w.mutators) × (m.maker ≢ SHARED_MAKER)) x xs made in
    let v : World = closed_by w x (Some (Weak (Some head.0))) in
    let step : closed w (x ∷ xs) ≡ closed v xs = ap (λ (o : Option Node). closed (closed_by w x o) xs) head.1 in
    let others : (m : Name) → m ≢ x → node_of v m ≡ node_of w m = closed_other w x head.0 at.0 at.1 in
    let count : length v.mutators ≡ length w.mutators = closed_length w x head.0 at.0 at.1 in
    let rest = All-tail (λ m. (m.maker < length w.mutators) × (m.maker ≢ SHARED_MAKER)) x xs made in
    let made' : AreMade v xs = All-weaker (λ m. (m.maker < length w.mutators) × (m.maker ≢ SHARED_MAKER)) (λ m. (m.maker < length v.mutators) ×
    (m.maker ≢ SHARED_MAKER)) (λ m p. (rw count p.0, p.1)) xs rest in
    let tail = All-tail (IsAliveWeak w) x xs alive in
    let alive' : All (IsAliveWeak v) xs = λ k d below.
    let y = get_or xs k d in
    let c = Contains-get_or xs k d below in
    let ne : y ≢ x = λ e. let P : Name → Type 0 = IsBefore x in not_before_itself x (subst P e (in_order_first x xs o y c)) in
    let a = tail k d below in
    (a.0, others y ne ∙ a.1) in
    ap (λ (u : World). node_of u n) step ∙ closed_kept xs v made' (in_order_rest x xs o) alive' n (λ c. lacks (contains_tail x xs n c)) ∙
    others n (λ e. lacks (let P : Name → Type 0 = Contains (x ∷ xs) in subst P (sym e) (contains_head x xs)))

pub closed_push : (xs : List Name) (w : World) (x : Name) → closed w (xs ++ x ∷ []) ≡ closed_by (closed w xs) x (node_of (closed w xs) x)
closed_push [] w x = refl
closed_push (y ∷ ys) w x = closed_push ys (closed_by w y (node_of w y)) x

-- the next weak pointer of the list is still alive
pub next_alive : (w : World) → IsWorld w → (dead : List Name) → IsInOrder dead → All (IsAliveWeak w) dead → (i : ℕ) (d : Name) → i < length dead →
    IsAliveWeak (closed w (take i dead)) (get_or dead i d)
next_alive w h dead o alive i d below =
    let made : AreMade w dead = All-weaker (IsAliveWeak w) (λ m. (m.maker < length w.mutators) ×
    (m.maker ≢ SHARED_MAKER)) (λ m a. let lt = weak_maker w h m a in (lt, not_shared w m.maker h lt)) dead alive in
    let kept = closed_kept (take i dead) w (All-take (λ m. (m.maker < length w.mutators) ×
    (m.maker ≢ SHARED_MAKER)) i dead made) (in_order_take i dead o) (All-take (IsAliveWeak w) i dead alive) (get_or dead i d)
    (in_order_apart i dead d o below) in
    let a = alive i d below in
    (a.0, kept ∙ a.1)
