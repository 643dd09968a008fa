-- A command that put a reference to a new object into an older object is recorded.
use Rattle.nmgc_collector_laws.proofs.Vocabulary.{◌≡◌, ◌+◌, ◌*◌, ◌/◌, ◌%◌, ◌<◌, ◌≤◌, ◌&&◌, ℕ, Bool, true, cond, eqb, leb, List, [], ◌∷◌, ◌++◌, sym, ap, subst, ◌∙◌, arith, inl, inr, eq-eqb, le-leb, Contains, Contains-append_left, Contains-append_right, and_from, World, state_of, shared_name, value_for, step, Row, replayed, HEADER_WORDS, SHARED_PLACE, FIRST_PLACE, Layout, nursery_place, contains_one, Place, Means, plain, Hand, word_of, leaves, OwnRow, is_old, is_young, recorded_at, noted_by, all_recorded, depth_of, slots_at, old_word, plain_answer}
use Rattle.nmgc_world_spec.specs.Reach.{IsLegal}
use Rattle.nmgc_world_spec.specs.declared.value.Value.TheVariants as value
use Rattle.nmgc_collector_laws.proofs.{rounds.RowRegisters.operand_means, rounds.Along.IsOwn, rounds.Along.Along, rounds.Puts.KnowsDepth, rounds.Puts.Puts}

young_word : (layout : Layout) (at : ℕ) → nursery_place layout 0 ≤ at → is_young layout (2 * at) ≡ true
young_word layout at high =
    and_from (eqb (2 * at % 2) 0) (leb (nursery_place layout 0) (2 * at / 2)) (eq-eqb (2 * at % 2) 0 (omega arith))
    (le-leb (nursery_place layout 0) (2 * at / 2) (omega arith))

recorded_old : (layout : Layout) (at index to : ℕ) → FIRST_PLACE ≤ at → at < nursery_place layout 0 → nursery_place layout 0 ≤ to →
    Contains (recorded_at layout (2 * at) index (2 * to)) (at + HEADER_WORDS + index)
recorded_old layout at index to above low high =
    let place : ℕ = 2 * at / 2 + HEADER_WORDS + index in
    let is : place ≡ at + HEADER_WORDS + index = omega arith in
    let both : is_old layout (2 * at) && is_young layout (2 * to) ≡ true =
    and_from (is_old layout (2 * at)) (is_young layout (2 * to)) (old_word layout at above low) (young_word layout to high) in
    subst (λ (b : Bool). Contains (cond b (place ∷ []) []) (at + HEADER_WORDS + index)) (sym both) (subst (λ j.
    Contains (place ∷ []) j) is (contains_one place))

-- an older object and a new object, each with one place
pub record AreApart (P : Place → Type 0) (layout : Layout) (p q : Place) : Type 0 where
  pub above : FIRST_PLACE ≤ p.at
  pub low : p.at < nursery_place layout 0
  pub high : nursery_place layout 0 ≤ q.at
  pub one_old : (at : ℕ) → P (record { at = at; name = p.name }) → at ≡ p.at
  pub one_young : (at : ℕ) → P (record { at = at; name = q.name }) → at ≡ q.at

module _ (P : Place → Type 0) (layout : Layout) (p q : Place) (apart : AreApart P layout p q) (m : ℕ) (shared : P (record {
  at = SHARED_PLACE;
  name = shared_name;
})) (i : ℕ) where
  recorded_put : (w : World) (row : Row) (h : Hand) (r : OwnRow) → (step w row.mutator row.command).1 ≡ row.reply → IsOwn P m w h r row →
      Puts w row.mutator row.command p.name i (value.Ref q.name) → Contains (noted_by layout h r.command r.answer) (p.at + HEADER_WORDS + i)
  recorded_put w row h r gives own puts =
      let done : r.answer ≡ plain puts.reply = plain_answer P r.answer puts.reply puts.plainly (rw (sym gives ∙ puts.gives) at own.answers) in
      let refers : value_for w m puts.object ≡ value.Ref p.name = ap (λ j. value_for w j puts.object) (sym own.number) ∙ puts.refers in
      let value : value_for w m puts.v ≡ value.Ref q.name = ap (λ j. value_for w j puts.v) (sym own.number) ∙ puts.value in
      let object = subst (Means P (word_of h.registers puts.object)) refers
      (operand_means P shared h.registers (state_of w m).registers puts.object own.registers) in
      let target = subst (Means P (word_of h.registers puts.v)) value (operand_means P shared h.registers (state_of w m).registers puts.v own.registers) in
      let object_is : word_of h.registers puts.object ≡ 2 * p.at = object.1 ∙ ap (λ a. 2 * a) (apart.one_old object.0 object.2) in
      let target_is : word_of h.registers puts.v ≡ 2 * q.at = target.1 ∙ ap (λ a. 2 * a) (apart.one_young target.0 target.2) in
      let deep : KnowsDepth w row.mutator p.name h puts.object = λ size values there mine.
      let here : P p = subst (λ a. P (record { at = a; name = p.name })) (apart.one_old object.0 object.2) object.2 in
      let t = own.depths p size values here (mine ∙ own.number) there in
      let half : word_of h.registers puts.object / 2 ≡ p.at = omega arith in
      ap (λ y. depth_of (slots_at h.stacks y)) half ∙ ap depth_of t.1 ∙ t.2 in
      rw own.command (rw done (rw (puts.notes layout h deep) (rw (object_is, target_is) (recorded_old layout p.at i q.at apart.above apart.low apart.high))))

  -- the address is recorded among the rows of the mutator that did it
  pub recorded_then : (w : World) (before : List Row) (row : Row) (after : List Row) (h : Hand) (own : List OwnRow) → row.mutator ≡ m →
      IsLegal w (before ++ row ∷ after) → Along P m w h own (before ++ row ∷ after) →
      Puts (replayed w before) row.mutator row.command p.name i (value.Ref q.name) → Contains (all_recorded layout h own) (p.at + HEADER_WORDS + i)
  recorded_then w [] row after h own is legal (inl other) puts = absurd (other.0 is)
  recorded_then w [] row after h own is legal (inr mine) puts =
      let r : OwnRow = mine.0 in
      rw mine.2 (Contains-append_left (noted_by layout h r.command r.answer) (all_recorded layout (leaves h r.command r.answer) mine.1)
      (p.at + HEADER_WORDS + i) (recorded_put w row h r legal.0 mine.3 puts))
  recorded_then w (first ∷ before) row after h own is legal (inl other) puts =
      recorded_then (step w first.mutator first.command).0 before row after h own is legal.1 other.1 puts
  recorded_then w (first ∷ before) row after h own is legal (inr mine) puts =
      let r : OwnRow = mine.0 in
      rw mine.2 (Contains-append_right (noted_by layout h r.command r.answer) (all_recorded layout (leaves h r.command r.answer) mine.1) (p.at + HEADER_WORDS + i)
      (recorded_then (step w first.mutator first.command).0 before row after (leaves h r.command r.answer) mine.1 is legal.1 mine.4 puts))
