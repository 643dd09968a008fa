-- The words of the roots refer to the same objects as the machine's values.
use Rattle.nmgc_mark.proofs.Vocabulary.{ne_eqb, eq-eqb, ◌≡◌, inr, ℕ, ◌*◌, ◌/◌, ◌%◌, true, false, eqb, List, [], ◌∷◌, ◌++◌, ◌+◌, ◌≤◌, ◌<◌, refl, sym, ap, ◌∙◌, arith, Option, Some, None, inl, Contains, flat_map, Name, MutatorState, shared_name, strong_fields, contains_head, contains_cases, FinQueue, word_total, block_size, least_block, nth, Segments, IsSegments, lies_in, Value, World, State, mark_value, mark_values, newest_first, unmarked, opening_in, Place, Means, ListMeans, shared_place, Opening, Marks, marks_of, name_meant, with_name, IsBeginning, slots_of, blank, IsTied, AreApart, with_words, with_queues, some_at, means_append}
use Rattle.nmgc_world_spec.specs.declared.value.Value.TheVariants as value
use Rattle.nmgc_mark.proofs.{Words.words_append, Words.queues_flat, OneMark.mark_is}

-- the name that a value refers to
abbrev ref_in : Value → Option Name
ref_in value.Nil = None
ref_in (value.Number n) = None
ref_in (value.Ref name) = Some name

value_word : (o : Opening) (m : Marks) (w : ℕ) (v : Value) → AreApart o.layout o.places → Means (Contains o.places) w v →
    with_name o.core.snapshot m (name_meant o.places w) ≡ with_name o.core.snapshot m (ref_in v)
value_word o m w value.Nil h e = ap (λ k. with_name o.core.snapshot m (name_meant o.places k)) e
value_word o m w (value.Number n) h e =
    let a : eqb w 0 ≡ false = ne_eqb w 0 (λ z. omega arith) in
    let b : eqb (w % 2) 0 ≡ false = ne_eqb (w % 2) 0 (λ z. omega arith) in
    rw (a, b) refl
value_word o m w (value.Ref name) h means =
    let at : ℕ = means.0 in
    let is : w ≡ 2 * at = means.1 in
    let l = h.above (record { at = at; name = name }) means.2 in
    let a : eqb w 0 ≡ false = ne_eqb w 0 (λ e. omega arith) in
    let b : eqb (w % 2) 0 ≡ true = eq-eqb (w % 2) 0 (omega arith) in
    let c : w / 2 ≡ at = omega arith in
    let r = some_at o.places at name means.2 in
    let same = h.one (record { at = at; name = r.0 }) (record { at = at; name = name }) r.2 means.2 (inr refl) in
    rw (a, b, c) (ap (λ (y : Option Name). with_name o.core.snapshot m y) (r.1 ∙ ap (λ (p : Place). Some p.name) same))

value_marks : (s : State) (v : Value) → (marks_of (mark_value s v) ≡ with_name s.snapshot (marks_of s) (ref_in v)) × ((mark_value s v).snapshot ≡ s.snapshot)
value_marks s value.Nil = (refl, refl)
value_marks s (value.Number n) = (refl, refl)
value_marks s (value.Ref name) = let k = mark_is s name in (k.marks, ap (λ (t : State). t.snapshot) k.rest)

pub words_mark : (o : Opening) (s : State) (ws : List ℕ) (values : List Value) → o.core.snapshot ≡ s.snapshot → AreApart o.layout o.places →
    ListMeans (Contains o.places) ws values → marks_of (mark_values s values) ≡ with_words o (marks_of s) ws
words_mark o s [] [] same h means = refl
words_mark o s [] (v ∷ vs) same h means = absurd means
words_mark o s (w ∷ ws) [] same h means = absurd means
words_mark o s (w ∷ ws) (v ∷ vs) same h means =
    let k = value_marks s v in
    cc (words_mark o (mark_value s v) ws vs (same ∙ sym k.1) h means.1, k.0, same, value_word o (marks_of s) w v h means.0)

-- a word that represents a value is no pointer past the heap's words
pub word_small : (o : Opening) (w : ℕ) (v : Value) → AreApart o.layout o.places → Means (Contains o.places) w v → (at : ℕ) → w ≡ 2 * at →
    at + 2 ≤ word_total o.layout
word_small o w value.Nil h e at is = absurd (omega arith)
word_small o w (value.Number n) h e at is = absurd (omega arith)
word_small o w (value.Ref name) h means at is =
    let l = h.inside (record { at = means.0; name = name }) means.2 in
    let e = means.1 in
    omega arith

pub words_small : (o : Opening) (ws : List ℕ) (values : List Value) → AreApart o.layout o.places → ListMeans (Contains o.places) ws values →
    (w at : ℕ) → Contains ws w → w ≡ 2 * at → at + 2 ≤ word_total o.layout
words_small o [] values h means w at c e = absurd (let lt = c.1 in omega arith)
words_small o (x ∷ xs) [] h means w at c e = absurd means
words_small o (x ∷ xs) (v ∷ vs) h means w at c e = elim (contains_cases x xs w c) [
  | inl same ↦ word_small o x v h means.0 at (same ∙ e)
  | inr d ↦ words_small o xs vs h means.1 w at d e
]

-- the roots of the snapshot, marked in their order
pub roots_mark : (o : Opening) (s : Segments) (epoch : ℕ) (words registers : List ℕ) (queues : List FinQueue) →
    IsBeginning o s epoch words registers queues →
    with_words o (with_queues o (with_words o (marks_of (unmarked newest_first o.core.snapshot)) registers) queues) (slots_of words) ≡ marks_of (opening_in newest_first o.core.snapshot)
roots_mark o s epoch words registers queues h =
    let S : World = o.core.snapshot in
    let m : Marks = marks_of (unmarked newest_first o.core.snapshot) in
    let flat : List ℕ = flat_map (λ (q : FinQueue). q.words) queues in
    let regs : List Value = flat_map (λ (state : MutatorState). state.registers) S.mutators in
    let fins : List Value = flat_map (λ (state : MutatorState). state.queue) S.mutators in
    let all = words_mark o (unmarked newest_first S) (registers ++ (flat ++ slots_of words)) (regs ++ (fins ++ strong_fields S.shared)) refl h.right.apart
    (means_append (Contains o.places) registers (flat ++ slots_of words) regs (fins ++
    strong_fields S.shared) h.registers_are (means_append (Contains o.places) flat (slots_of words) fins (strong_fields S.shared) h.queues_are
    h.slots_are)) in
    cc (queues_flat o (with_words o m registers) queues, words_append o (with_words o m registers) flat (slots_of words), words_append o m registers (flat ++ slots_of words), all)

-- a blank marker is tied to the machine with only g marked
pub blank_tied : (o : Opening) (s : Segments) (epoch spare : ℕ) (words registers : List ℕ) (queues : List FinQueue) → IsSegments s →
    IsBeginning o s epoch words registers queues → IsTied o (marks_of (unmarked newest_first o.core.snapshot)) s (blank epoch spare)
blank_tied o s epoch spare words registers queues sound h = record {
  snapshot = h.right;
  shared = contains_head shared_name [];
  marks = λ p c g. (
    λ k. absurd (h.unmarked p.at k),
    λ k. elim (contains_cases shared_name [] p.name k) [
      | inl e ↦
          let same = h.right.apart.one shared_place p h.shared c (inl e) in
          let at : 1 ≡ p.at = ap (λ (q : Place). q.at) same in
          let begins = g.2 in
          let lies = lies_in s g.0 g.1 p.at p.at sound g.2 (omega arith)
          (let pos : 0 < block_size (nth s.segments g.0).class = omega (arith, least_block (nth s.segments g.0).class) in omega arith) in
          absurd (let from = lies.from in omega arith)
      | inr d ↦ absurd (let lt = d.1 in omega arith)
    ],
  );
  order = refl;
  queue = tt;
  count = refl;
}
