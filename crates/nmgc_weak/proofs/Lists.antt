-- The list once all without a value have left.
use Rattle.nmgc_weak.proofs.Vocabulary.{◌≡◌, ◌+◌, ℕ, true, List, ◌∷◌, refl, sym, ap, subst, ◌∙◌, arith, Option, Some, None, inl, inr, Contains, slice_index, Name, Weak, Parts, World, node_of, IsAlive, IsAliveWeak, IsInOrder, IsReached, contains_head, contains_tail, Layout, HEADER_WORDS, Place, Means, Represents, NoNode, ListsWeaks, IsListedWeak, holds, unset, IsTracked, OldWeak, KeepsOldWeaks, LeavingLists, place_of, places_of, value_place, alive_of, is_alive, names_same, of_place}
use Rattle.nmgc_weak.proofs.{Dying.alive_word, Dying.word_alive, Dying.set_word, Dying.filter_keeps, Dying.filter_had, Leaving.filter_ordered, Saving.has_place}

module _ (layout : Layout) (past : List World) (places : List Place) (began w : World) (words : List ℕ) (list : List OldWeak)
    (r : Represents layout (began ∷
    past) NoNode places w words) (listed : ListsWeaks layout places began (places_of list)) (old : KeepsOldWeaks layout places began w) where
  -- a weak pointer that was alive when the round began is tracked
  was_tracked : (weak : Name) (parts : Parts) → IsAlive began weak parts → IsTracked w (began ∷ past) weak
  was_tracked weak parts alive = IsReached.start weak (
    began,
    contains_tail w (began ∷ past) began (contains_head began past),
    IsReached.start weak (inr (weak, parts, alive, inl refl)),
  )

  -- its address, by its name
  same_at : (at other : ℕ) (weak : Name) → Contains places (record { at = at; name = weak }) →
      Contains places (record { at = other; name = weak }) → at + HEADER_WORDS + 1 ≡ value_place other
  same_at at other weak c d =
      let same = r.one (record { at = at; name = weak }) (record { at = other; name = weak }) c d (inl refl) in
      let e : at ≡ other = ap (λ (p : Place). p.at) same in
      omega arith

  still_alive : (x : OldWeak) → Contains list x → is_alive words x ≡ true → IsAliveWeak w x.weak
  still_alive x c e =
      let l = listed.sound (place_of x) (has_place list x c) in
      let now = old.weak x.weak l.1.0 l.1.1 in
      by_parts now.0 now.1 l.0 (was_tracked x.weak l.1.0 l.1.1)
    where
      by_parts : (o : Option Parts) → node_of w x.weak ≡ Some (Weak o) → Contains places (place_of x) → IsTracked w (began ∷ past) x.weak → IsAliveWeak w x.weak
      by_parts (Some parts) is here tracked = (parts, is)
      by_parts None is here tracked =
          let placed = r.tracked x.weak (Weak None) tracked is in
          let z = same_at placed.at x.at.0 x.weak placed.there here in
          let zero_ : slice_index words (value_place x.at.0) ≡ 0 = subst (λ (i : ℕ). slice_index words i ≡ 0) z (placed.fields 1 unset refl) in
          absurd (word_alive words x e zero_)

  pub left_listed : ListsWeaks layout places w (places_of (alive_of words list))
  left_listed = record {
    ordered = subst IsInOrder (sym (names_same (alive_of words list)))
        (filter_ordered (is_alive words) list (subst IsInOrder (names_same list) listed.ordered));
    sound = λ p c.
        let x = of_place (alive_of words list) p c in
        let k = filter_had (is_alive words) list x.0 x.1 in
        let l = listed.sound (place_of x.0) (has_place list x.0 k.0) in
        subst (λ (q : Place). IsListedWeak layout places w q) x.2 (l.0, still_alive x.0 k.0 k.1, l.2);
    complete = λ p l.
        let parts : Parts = l.1.0 in
        let before : IsAlive began p.name parts = old.alive p.name parts l.1.1 (old.blocks p l.0 l.2) in
        let x = of_place list p (listed.complete p (l.0, (parts, before), l.2)) in
        let placed = r.tracked p.name (Weak (Some parts)) (was_tracked p.name parts before) l.1.1 in
        let at : p.at ≡ x.0.at.0 = sym (ap (λ (q : Place). q.at) x.2) in
        let z : placed.at + HEADER_WORDS + 1 ≡ value_place x.0.at.0 = same_at placed.at p.at p.name placed.there l.0 ∙ ap value_place at in
        let means : Means (Contains places) (slice_index words (value_place x.0.at.0)) parts.value =
        subst (λ (i : ℕ). Means (Contains places) (slice_index words i) parts.value) z (placed.fields 1 (holds parts.value) refl) in
        let kept = filter_keeps (is_alive words) list x.0 x.1 (alive_word words x.0 (set_word layout places w (began ∷
        past) words (slice_index words (value_place x.0.at.0)) parts.value r means)) in
        subst (λ (q : Place). Contains (places_of (alive_of words list)) q) x.2 (has_place (alive_of words list) x.0 kept);
  }

pub leaving_lists : LeavingLists
leaving_lists layout past places began w words list b v r listed old = left_listed layout past places began w words list r listed old
