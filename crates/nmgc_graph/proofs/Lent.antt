-- The world after a part was lent and changed, by a change that may want memory.
use Rattle.nmgc_graph.proofs.Vocabulary.{◌≡◌, ◌≢◌, ◌<◌, ℕ, List, map, length, get_or, set, refl, sym, ap, subst, ◌∙◌, Some, Result, Ok, Err, IsSome, IfOk, OnOk, OnErr, slice_get, All, refill, ne_eqb, get_or_from_slice_get, NoMemory, Operand, Reply, SHARED_MAKER, Name, Value, Node, Change, MutatorState, World, state_of, node_of, AreKnown, IsKnownReply, IsKnownChange, IsWorld, IsOperand, changed, with_state, with_nth, with_node, value_of, change_node, refill_whole, operands_known, replaced, lent, shared_changed, within, maker_exists, nth_changed, nth_reply, in_state, same_state, is_some_of, length-set}

-- the values that a call returned are known, if it returned any
pub values_known : (w : World) (m : ℕ) → IsWorld w → m < length w.mutators → (os : List Operand) → All IsOperand os → (registers : List Value) →
    registers ≡ (state_of w m).registers → (r : Result (List Value) NoMemory) → IfOk r (λ values. values ≡ map (value_of registers) os) → IfOk r (AreKnown w)
values_known w m h lt os fits registers e (Ok values) is = let P : List Value → Type 0 = AreKnown w in
    subst P (sym (is ∙ ap (λ (l : List Value). map (value_of l) os) e)) (operands_known w m h lt os fits)
values_known w m h lt os fits registers e (Err f) is = tt

-- an object that was lent and changed
module _ (state : MutatorState) (name : Name) (c : Change) (old made d : Node) (ys : List Node) (e : ys ≡
    state.nodes) (there : slice_get state.nodes name.serial ≡
    Some old) (r : Result Reply NoMemory) (ok : IfOk r (λ reply. ◌≡◌ {A = Node × Reply} (changed c name.maker (get_or ys name.serial d)) (made, reply))) where
  old_is : get_or ys name.serial d ≡ old
  old_is = rw e (get_or_from_slice_get state.nodes name.serial old d there)

  pub nth_state : OnOk r (◌≡◌ {A = MutatorState} (record state {
    nodes =
        refill (length state.nodes) state.nodes (set ys name.serial made);
  }) (with_nth state name.serial (changed c name.maker old).0))
  nth_state = elim r as (λ q. IfOk q (λ reply. ◌≡◌ {A = Node × Reply} (changed c name.maker (get_or ys name.serial d)) (made, reply)) →
      OnOk q (◌≡◌ {A = MutatorState} (record state {
        nodes =
            refill (length state.nodes) state.nodes (set ys name.serial made);
      }) (with_nth state name.serial (changed c name.maker old).0))) [
        | Ok reply ↦ λ is.
            let made_is : made ≡ (changed c name.maker old).0 = ap (λ (p : Node × Reply). p.0) (sym is) ∙ ap (λ (n : Node). (changed c name.maker n).0) old_is in
            rw (refill_whole state.nodes (set ys name.serial made) (length-set ys name.serial made ∙ ap length e), e, made_is) refl
        | Err f ↦ λ is. tt
      ] ok

  pub nth_answer : IfOk r (λ reply. reply ≡ (changed c name.maker old).1)
  nth_answer = elim r as (λ q. IfOk q (λ reply. ◌≡◌ {A = Node × Reply} (changed c name.maker (get_or ys name.serial d)) (made, reply)) →
      IfOk q (λ reply. reply ≡ (changed c name.maker old).1)) [
        | Ok reply ↦ λ is. ap (λ (p : Node × Reply). p.1) (sym is) ∙ ap (λ (n : Node). (changed c name.maker n).1) old_is
        | Err f ↦ λ is. tt
      ] ok

-- the reply to a change of g
module _ (w : World) (h : IsWorld w) (name : Name) (c : Change) (there : IsSome (node_of w name)) (known : IsKnownChange w c) (at : name.maker ≡
    SHARED_MAKER) (made : Node) where
  pub g_keeps : (r : Result Reply NoMemory) → IfOk r (λ reply. ◌≡◌ {A = Node × Reply} (changed c SHARED_MAKER w.shared) (made, reply)) →
      OnErr r (made ≡ w.shared) → IsWorld (record w { shared = made })
  g_keeps (Ok reply) ok err = subst (λ (n : Node). IsWorld (record w { shared = n })) (ap (λ (p : Node × Reply).
      p.0) ok) (shared_changed w h name c there known at SHARED_MAKER)
  g_keeps (Err f) ok err = subst (λ (n : Node). IsWorld (record w { shared = n })) (sym err) h

-- an object in a world that was lent and changed: the world in the end
pub back_is : (w : World) (m : ℕ) (ys : List MutatorState) (e : ys ≡ w.mutators) (new q : MutatorState) → new ≡ q →
    ◌≡◌ {A = World} (record { shared = w.shared; mutators = refill (length w.mutators) w.mutators (set ys m new) }) (with_state w m q)
back_is w m ys e new q is = rw (refill_whole w.mutators (set ys m new) (length-set ys m new ∙ ap length e), e, is) refl

module _ (w : World) (h : IsWorld w) (name : Name) (c : Change) (there : IsSome (node_of w name)) (known : IsKnownChange w c) (ne : name.maker ≢ SHARED_MAKER)
    (ys : List MutatorState) (e : ys ≡ w.mutators) (d new : MutatorState) where
  lent_state : get_or ys name.maker d ≡ state_of w name.maker
  lent_state = lent w h name.maker (maker_exists w h name c there known ne) ys e d new

  pub lent_within : name.serial < length (get_or ys name.maker d).nodes
  lent_within = rw lent_state (within w h name c there known ne)

  old_node : (old : Node) × (slice_get (state_of w name.maker).nodes name.serial ≡ Some old)
  old_node = is_some_of (slice_get (state_of w name.maker).nodes name.serial) (rw ne_shared at there)
    where
      ne_shared : node_of w name ≡ slice_get (state_of w name.maker).nodes name.serial
      ne_shared = in_state w h name c there known ne

  -- from the contract of the object's change to facts of the world
  module _ (r : Result Reply NoMemory)
      (state : (old : Node) → slice_get (get_or ys name.maker d).nodes name.serial ≡ Some old →
      OnOk r (new ≡ with_nth (get_or ys name.maker d) name.serial (changed c name.maker old).0))
      (reply : (old : Node) → slice_get (get_or ys name.maker d).nodes name.serial ≡ Some old → IfOk r (λ q. q ≡ (changed c name.maker old).1))
      (err : OnErr r (new ≡ get_or ys name.maker d)) where
    at_lent : slice_get (get_or ys name.maker d).nodes name.serial ≡ Some old_node.0
    at_lent = rw lent_state old_node.1

    there_is : node_of w name ≡ Some old_node.0
    there_is = in_state w h name c there known ne ∙ old_node.1

    whole : World
    whole = record { shared = w.shared; mutators = refill (length w.mutators) w.mutators (set ys name.maker new) }

    target : World
    target = with_state w name.maker (with_nth (state_of w name.maker) name.serial (changed c name.maker old_node.0).0)

    whole_is : new ≡ with_nth (get_or ys name.maker d) name.serial (changed c name.maker old_node.0).0 → whole ≡ target
    unfolding whole target
    whole_is is = back_is w name.maker ys e new _ (is ∙ ap (λ (s : MutatorState). with_nth s name.serial (changed c name.maker old_node.0).0) lent_state)

    target_is : with_node w name (changed c name.maker old_node.0).0 ≡ target
    unfolding target
    target_is = rw (ne_eqb name.maker SHARED_MAKER ne) refl

    by_result : (q : Result Reply NoMemory) → OnOk q (new ≡ with_nth (get_or ys name.maker d) name.serial (changed c name.maker old_node.0).0) →
        OnErr q (new ≡ get_or ys name.maker d) → IsWorld whole
    unfolding whole target
    by_result (Ok a) is kept = subst IsWorld (sym (whole_is is)) (nth_changed w h name c there known ne old_node.0 old_node.1)
    by_result (Err f) is kept = replaced w h name.maker (maker_exists w h name c there known ne) ys e d new (λ s. s) kept (same_state w h name.maker)

    pub nth_keeps : IsWorld (record { shared = w.shared; mutators = refill (length w.mutators) w.mutators (set ys name.maker new) })
    unfolding whole
    nth_keeps = by_result r (state old_node.0 at_lent) err

    reply_by : (q : Result Reply NoMemory) → OnOk q (new ≡ with_nth (get_or ys name.maker d) name.serial (changed c name.maker old_node.0).0) →
        IfOk q (λ a. a ≡ (changed c name.maker old_node.0).1) → IfOk q (IsKnownReply whole)
    unfolding target
    reply_by (Ok a) is answers =
        subst (λ (u : World).
        IsKnownReply u a) (sym (whole_is is)) (subst (IsKnownReply target) (sym answers) (nth_reply w h name c there known ne old_node.0 old_node.1))
    reply_by (Err f) is answers = tt

    pub nth_replies : IfOk r (IsKnownReply (record { shared = w.shared; mutators = refill (length w.mutators) w.mutators (set ys name.maker new) }))
    unfolding whole
    nth_replies = reply_by r (state old_node.0 at_lent) (reply old_node.0 at_lent)

    answer_by : (q : Result Reply NoMemory) → OnOk q (new ≡ with_nth (get_or ys name.maker d) name.serial (changed c name.maker old_node.0).0) →
        IfOk q (λ a. a ≡ (changed c name.maker old_node.0).1) → IfOk q (λ a. ◌≡◌ {A = World × Reply} (change_node w name (node_of w name) c) (whole, a))
    answer_by (Ok a) is answers = rw (there_is, target_is, whole_is is, answers) refl
    answer_by (Err f) is answers = tt

    pub nth_answers : IfOk r (λ a. ◌≡◌ {A = World × Reply} (change_node w name (node_of w name) c) (
      record { shared = w.shared; mutators = refill (length w.mutators) w.mutators (set ys name.maker new) },
      a,
    ))
    unfolding whole
    nth_answers = answer_by r (state old_node.0 at_lent) (reply old_node.0 at_lent)
