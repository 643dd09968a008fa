-- A command that finalised a weak pointer in a segment reported its address.
use Rattle.nmgc_collector_laws.proofs.Vocabulary.{◌≡◌, ◌+◌, ◌*◌, ◌/◌, ◌%◌, ◌<◌, ◌≤◌, ◌&&◌, ℕ, Bool, true, cond, eqb, leb, List, [], ◌∷◌, ◌++◌, sym, ap, subst, ◌∙◌, arith, Option, Some, None, inl, inr, refl, false, leb-true, Contains, and_parts, Contains-append_left, Contains-append_right, Contains-append_cases, Name, Value, Node, Parts, Operand, Command, Finalise, Reply, World, state_of, given, shared_name, value_for, change_object, change_node, step, Row, replayed, IsAlive, SHARED_PLACE, FIRST_PLACE, Layout, nursery_place, contains_one, nothing_in, one_is, Place, Means, Answer, plain, word, Hand, word_of, leaves, OwnRow, Answers, is_old, pushed_at, finalised_by, all_finalised, old_word}
use Rattle.nmgc_world_spec.specs.Reach.{IsLegal}
use Rattle.nmgc_world_spec.specs.declared.value.Value.TheVariants as value
use Rattle.nmgc_world_spec.specs.declared.change.Change.TheVariants as change
use Rattle.nmgc_world_spec.specs.declared.command.Reply.TheVariants as reply
use Rattle.nmgc_collector_laws.proofs.{rounds.RowRegisters.IsPlain, rounds.RowRegisters.operand_means, rounds.Along.IsOwn, rounds.Along.Along}

-- an answer that gives a value is a word
gives_word : (P : Place → Type 0) (a : Answer) (r : Reply) (v : Value) → r ≡ reply.Given v → Answers P a r → IsPlain a → (w : ℕ) × (a ≡ word w)
gives_word P (plain x) r v gives e none = absurd (let bad : Some v ≡ None = sym (ap given (e ∙ gives)) ∙ none in cc)
gives_word P (word w) r v gives e none = (w, refl)

-- the answer of `finalise` for an alive weak pointer
finalised_gives : (w : World) (m dest : ℕ) (object : Operand) (weak : Name) (parts : Parts) → value_for w m object ≡ value.Ref weak →
    IsAlive w weak parts → (step w m (Finalise dest object)).1 ≡ reply.Given parts.finaliser
finalised_gives w m dest object weak parts refers alive =
    ap (λ (v : Value). (change_object w v change.Finalise).1) refers ∙ ap (λ (o : Option Node). (change_node w weak o change.Finalise).1) alive

-- the address of an object in a segment, from a word that refers to it
place_known : (layout : Layout) (at : ℕ) → FIRST_PLACE ≤ at → at < nursery_place layout 0 → Contains (pushed_at layout (2 * at)) at
place_known layout at above low =
    let half : 2 * at / 2 ≡ at = omega arith in
    subst (λ (b : Bool). Contains (cond b (2 * at / 2 ∷ []) []) at) (sym (old_word layout at above low)) (subst (λ j.
    Contains (2 * at / 2 ∷ []) j) half (contains_one (2 * at / 2)))

-- an address that a word yields is below the nurseries
known_low : (layout : Layout) (w at : ℕ) → Contains (pushed_at layout w) at → at < nursery_place layout 0
known_low layout w at c = by_test (is_old layout w) refl c
  where
    by_test : (b : Bool) → is_old layout w ≡ b → Contains (cond b (w / 2 ∷ []) []) at → at < nursery_place layout 0
    by_test true e k =
        let half : w / 2 ≡ at = one_is (w / 2) at k in
        let parts = and_parts (eqb (w % 2) 0) (leb FIRST_PLACE (w / 2) && leb (w / 2 + 1) (nursery_place layout 0)) e in
        let below = and_parts (leb FIRST_PLACE (w / 2)) (leb (w / 2 + 1) (nursery_place layout 0)) parts.1 in
        let le : w / 2 + 1 ≤ nursery_place layout 0 = leb-true (w / 2 + 1) (nursery_place layout 0) below.1 in
        omega (arith, half, le)
    by_test false e k = absurd (nothing_in at k)

-- every address that a command reported is low
pub finalised_low : (layout : Layout) (h : Hand) (own : List OwnRow) (at : ℕ) → Contains (all_finalised layout h own) at → at < nursery_place layout 0
finalised_low layout h [] at c = absurd (nothing_in at c)
finalised_low layout h (r ∷ own) at c = elim (Contains-append_cases (finalised_by layout h r.command r.answer) (all_finalised layout (leaves h r.command r.answer)
    own) at c) [
      | inl here ↦ one r.command r.answer here
      | inr later ↦ finalised_low layout (leaves h r.command r.answer) own at later
    ]
  where
    one : (c : Command) (a : Answer) → Contains (finalised_by layout h c a) at → at < nursery_place layout 0
    one (Finalise dest object) (word w) k = known_low layout (word_of h.registers object) at k
    one (Finalise dest object) (plain x) k = absurd (nothing_in at k)
    one _ a k = absurd (nothing_in at k)

module _ (P : Place → Type 0) (layout : Layout) (p : Place) (one : (at : ℕ) → P (record { at = at; name = p.name }) → at ≡ p.at)
    (above : FIRST_PLACE ≤ p.at) (low : p.at < nursery_place layout 0) (m : ℕ) (shared : P (record { at = SHARED_PLACE; name = shared_name }))
    (dest : ℕ) (object : Operand) (parts : Parts) where
  finalised_put : (w : World) (row : Row) (h : Hand) (r : OwnRow) → (step w row.mutator row.command).1 ≡ row.reply → IsOwn P m w h r row →
      row.command ≡ Finalise dest object → value_for w row.mutator object ≡ value.Ref p.name → IsAlive w p.name parts →
      Contains (finalised_by layout h r.command r.answer) p.at
  finalised_put w row h r gives own is refers alive =
      let said : row.reply ≡ reply.Given parts.finaliser = cc (gives, is, finalised_gives w row.mutator dest object p.name parts refers alive) in
      let a = gives_word P r.answer row.reply parts.finaliser said own.answers own.plain in
      let mine : value_for w m object ≡ value.Ref p.name = ap (λ j. value_for w j object) (sym own.number) ∙ refers in
      let meant = subst (Means P (word_of h.registers object)) mine
      (operand_means P shared h.registers (state_of w m).registers object own.registers) in
      let word_is : word_of h.registers object ≡ 2 * p.at = meant.1 ∙ ap (λ at. 2 * at) (one meant.0 meant.2) in
      rw (own.command ∙ is) (rw a.1 (subst (λ y. Contains (pushed_at layout y) p.at) (sym word_is) (place_known layout p.at above low)))

  -- the address is reported among the rows of the mutator that did it
  pub finalised_then : (w : World) (before : List Row) (row : Row) (after : List Row) (h : Hand) (own : List OwnRow) → row.mutator ≡ m →
      IsLegal w (before ++ row ∷ after) → Along P m w h own (before ++ row ∷ after) → row.command ≡ Finalise dest object →
      value_for (replayed w before) row.mutator object ≡ value.Ref p.name → IsAlive (replayed w before) p.name parts →
      Contains (all_finalised layout h own) p.at
  finalised_then w [] row after h own is legal (inl other) command refers alive = absurd (other.0 is)
  finalised_then w [] row after h own is legal (inr mine) command refers alive =
      let r : OwnRow = mine.0 in
      rw mine.2 (Contains-append_left (finalised_by layout h r.command r.answer) (all_finalised layout (leaves h r.command r.answer) mine.1) p.at
      (finalised_put w row h r legal.0 mine.3 command refers alive))
  finalised_then w (first ∷ before) row after h own is legal (inl other) command refers alive =
      finalised_then (step w first.mutator first.command).0 before row after h own is legal.1 other.1 command refers alive
  finalised_then w (first ∷ before) row after h own is legal (inr mine) command refers alive =
      let r : OwnRow = mine.0 in
      rw mine.2 (Contains-append_right (finalised_by layout h r.command r.answer) (all_finalised layout (leaves h r.command r.answer) mine.1) p.at
      (finalised_then (step w first.mutator first.command).0 before row after (leaves h r.command r.answer) mine.1 is legal.1 mine.4 command refers alive))
