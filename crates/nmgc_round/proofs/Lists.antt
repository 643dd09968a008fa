-- Lists of words and their values, with one more at the end or one that changes.
use Rattle.nmgc_round.proofs.Vocabulary.{◌≡◌, ℕ, zero, suc, ◌*◌, ◌≤◌, List, [], ◌∷◌, ◌++◌, get_or, set, refl, ap, arith, Option, Some, None, slice_get, Name, Value, Operand, Register, Shared, Command, Reply, shared_name, value_of, names_among, SHARED_PLACE, NIL_WORD, Entry, Place, Means, ListMeans, Answer, plain, word, DoneRow, Scan, word_of, Answers, AllAnswer, IsRead, AllRead, AreOwed}
use Rattle.nmgc_world_spec.specs.declared.value.Value.TheVariants as value
use Rattle.nmgc_round.proofs.Fields.{means_more, list_more}

module _ (P : Place → Type 0) where
  -- the value at the position of a word: nil beyond the end
  pub means_at : (ws : List ℕ) (vs : List Value) (r : ℕ) → ListMeans P ws vs → Means P (get_or ws r NIL_WORD) (get_or vs r value.Nil)
  means_at [] [] r h = refl
  means_at [] (v ∷ vs) r h = absurd h
  means_at (w ∷ ws) [] r h = absurd h
  means_at (w ∷ ws) (v ∷ vs) zero h = h.0
  means_at (w ∷ ws) (v ∷ vs) (suc r) h = means_at ws vs r h.1

  -- each of the words represents some value
  pub word_means : (ws : List ℕ) (vs : List Value) (i w : ℕ) → ListMeans P ws vs → slice_get ws i ≡ Some w → (v : Value) × Means P w v
  word_means [] vs i w h e = absurd cc
  word_means (x ∷ ws) [] i w h e = absurd h
  word_means (x ∷ ws) (v ∷ vs) zero w h e = let same : x ≡ w = cc in (v, rw same at h.0)
  word_means (x ∷ ws) (v ∷ vs) (suc i) w h e = word_means ws vs i w h.1 e

  -- an operand's word represents the operand's value
  pub operand_means : (ws : List ℕ) (vs : List Value) (operand : Operand) → P (record { at = SHARED_PLACE; name = shared_name }) →
      ListMeans P ws vs → Means P (word_of ws operand) (value_of vs operand)
  operand_means ws vs (Register r) g h = means_at ws vs r h
  operand_means ws vs Shared g h = (SHARED_PLACE, refl, g)

  pub list_set : (ws : List ℕ) (vs : List Value) (r w : ℕ) (v : Value) → ListMeans P ws vs → Means P w v → ListMeans P (set ws r w) (set vs r v)
  list_set [] [] r w v h m = tt
  list_set [] (y ∷ vs) r w v h m = absurd h
  list_set (x ∷ ws) [] r w v h m = absurd h
  list_set (x ∷ ws) (y ∷ vs) zero w v h m = (m, h.1)
  list_set (x ∷ ws) (y ∷ vs) (suc r) w v h m = (h.0, list_set ws vs r w v h.1 m)

  pub list_append : (ws us : List ℕ) (vs xs : List Value) → ListMeans P ws vs → ListMeans P us xs → ListMeans P (ws ++ us) (vs ++ xs)
  list_append [] us [] xs h k = k
  list_append [] us (v ∷ vs) xs h k = absurd h
  list_append (w ∷ ws) us [] xs h k = absurd h
  list_append (w ∷ ws) us (v ∷ vs) xs h k = (h.0, list_append ws us vs xs h.1 k)

  pub answer_push : (rs : List DoneRow) (xs : List (Command × Reply)) (c : Command) (a : Answer) (r : Reply) → AllAnswer P rs xs → Answers P a r →
      AllAnswer P (rs ++ record { command = c; answer = a } ∷ []) (xs ++ (c, r) ∷ [])
  answer_push [] [] c a r h k = ((refl, k), tt)
  answer_push [] (x ∷ xs) c a r h k = absurd h
  answer_push (s ∷ rs) [] c a r h k = absurd h
  answer_push (s ∷ rs) (x ∷ xs) c a r h k = (h.0, answer_push rs xs c a r h.1 k)

  pub read_push : (ss : List Scan) (xs : List (Entry × Option Value)) (s : Scan) (v : Option Value) → AllRead P ss xs → IsRead P s.word v →
      (v ≡ None → 1 ≤ s.entry.position → s.word ≡ 0) → AllRead P (ss ++ s ∷ []) (xs ++ (s.entry, v) ∷ [])
  read_push [] [] s v h k z = ((refl, k, z), tt)
  read_push [] (x ∷ xs) s v h k z = absurd h
  read_push (t ∷ ss) [] s v h k z = absurd h
  read_push (t ∷ ss) (x ∷ xs) s v h k z = (h.0, read_push ss xs s v h.1 k z)

  -- a pointer represents the name at its address
  pub pointer_means : (at : ℕ) (v : Value) → Means P (2 * at) v → (name : Name) × (v ≡ value.Ref name) × P (record { at = at; name = name })
  pointer_means at value.Nil m = absurd (omega arith)
  pointer_means at (value.Number n) m = absurd (omega arith)
  pointer_means at (value.Ref name) m = let same : m.0 ≡ at = omega (arith, m.1) in (name, refl, rw same at m.2)

names_append : (vs xs : List Value) → names_among (vs ++ xs) ≡ names_among vs ++ names_among xs
names_append [] xs = refl
names_append (value.Nil ∷ vs) xs = names_append vs xs
names_append (value.Number n ∷ vs) xs = names_append vs xs
names_append (value.Ref name ∷ vs) xs = ap (λ (l : List Name). name ∷ l) (names_append vs xs)

-- objects owed, and more objects owed
pub owed_append : (P : Place → Type 0) (ws us : List ℕ) (ns : List Name) (xs : List Value) → AreOwed P ws ns → ListMeans P us xs →
    AreOwed P (ws ++ us) (ns ++ names_among xs)
owed_append P ws us ns xs h m = (h.0 ++ xs, list_append P ws us h.0 xs h.1 m, cc (names_append h.0 xs, h.2))

module _ (P Q : Place → Type 0) (more : (p : Place) → P p → Q p) where
  answer_more : (a : Answer) (r : Reply) → Answers P a r → Answers Q a r
  answer_more (plain s) r h = h
  answer_more (word w) r h = (h.0, h.1, means_more P Q more w h.0 h.2)

  pub answers_more : (rs : List DoneRow) (xs : List (Command × Reply)) → AllAnswer P rs xs → AllAnswer Q rs xs
  answers_more [] [] h = tt
  answers_more [] (x ∷ xs) h = absurd h
  answers_more (r ∷ rs) [] h = absurd h
  answers_more (r ∷ rs) (x ∷ xs) h = ((h.0.0, answer_more r.answer x.1 h.0.1), answers_more rs xs h.1)

  read_more : (w : ℕ) (v : Option Value) → IsRead P w v → IsRead Q w v
  read_more w None h = tt
  read_more w (Some v) h = means_more P Q more w v h

  pub reads_more : (ss : List Scan) (xs : List (Entry × Option Value)) → AllRead P ss xs → AllRead Q ss xs
  reads_more [] [] h = tt
  reads_more [] (x ∷ xs) h = absurd h
  reads_more (s ∷ ss) [] h = absurd h
  reads_more (s ∷ ss) (x ∷ xs) h = ((h.0.0, read_more s.word x.1 h.0.1, h.0.2), reads_more ss xs h.1)

  pub owed_more : (ws : List ℕ) (ns : List Name) → AreOwed P ws ns → AreOwed Q ws ns
  owed_more ws ns h = (h.0, list_more P Q more ws h.0 h.1, h.2)
