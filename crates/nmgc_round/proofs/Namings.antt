-- The replies by loaded names are the replies of the events.
use Rattle.nmgc_round.proofs.{Vocabulary.◌≡◌, Vocabulary.ℕ, Vocabulary.◌≤◌, Vocabulary.List, Vocabulary.[], Vocabulary.◌∷◌, Vocabulary.refl, Vocabulary.sym, Vocabulary.ap, Vocabulary.◌∙◌, Vocabulary.arith, Vocabulary.some, Vocabulary.get_elem?, Vocabulary.Name, Vocabulary.Value, Vocabulary.Command, Vocabulary.Reply, Vocabulary.SHARED_MAKER, Vocabulary.World, Vocabulary.name_word, Vocabulary.Place, Vocabulary.Means, Vocabulary.done_by, Vocabulary.Answer, Vocabulary.plain, Vocabulary.word, Vocabulary.DoneRow, Vocabulary.Opening, Vocabulary.Part, Vocabulary.Seen, Vocabulary.Object, Vocabulary.IsIn, Vocabulary.place_of, Vocabulary.now, Vocabulary.Answers, Vocabulary.AllAnswer, Vocabulary.IsFinished, Vocabulary.Replies, Vocabulary.AllReply, Vocabulary.same_name, Standing.placed}
use Rattle.nmgc_round.specs.Naming.{IsNamed}
use Rattle.nmgc_world_spec.specs.declared.value.Value.TheVariants as value

one_name : (a b : Name) → a.maker ≤ SHARED_MAKER → b.maker ≤ SHARED_MAKER → name_word a ≡ name_word b → a ≡ b
one_name a b la lb e = same_name a b (omega arith) (omega arith)

module _ (o : Opening) (words : List ℕ) (v : Seen) (h : IsFinished o words v) (k : ℕ) (p : Part) (here : get_elem? v.parts k ≡ some p) where
  abbrev P : Place → Type 0
  P = IsIn o h.born

  abbrev W : World
  W = (now o h.events).world

  same_value : (w : ℕ) (x y : Value) → Means P w x → IsNamed p.fixed w y → x ≡ y
  same_value w value.Nil value.Nil m n = refl
  same_value w value.Nil (value.Number j) m n = absurd (omega arith)
  same_value w value.Nil (value.Ref name) m n = absurd (let e = n.1 in omega arith)
  same_value w (value.Number i) value.Nil m n = absurd (omega arith)
  same_value w (value.Number i) (value.Number j) m n = let e : i ≡ j = omega arith in ap (λ k. value.Number k) e
  same_value w (value.Number i) (value.Ref name) m n = absurd (let e = n.1 in omega arith)
  same_value w (value.Ref name) value.Nil m n = absurd (let e = m.1 in omega arith)
  same_value w (value.Ref name) (value.Number j) m n = absurd (let e = m.1 in omega arith)
  same_value w (value.Ref name) (value.Ref other) m n =
      let e = m.1 in
      let f = n.1 in
      let at : m.0 ≡ n.0 = omega arith in
      let x : Object = record { at = m.0; name = name; node = m.2.0 } in
      let named = h.stands.named (place_of x) (placed o h.born x m.2.1) in
      let loaded = ((h.parts k p here).1.fixed (record { at = n.0; offset = 1; word = name_word other }) n.3).1 in
      let word_is : name_word name ≡ name_word other = cc (named.name, at, loaded) in
      ap (λ k. value.Ref k) (one_name name other named.valid.0 n.2.0 word_is)

  same_reply : (a : Answer) (r s : Reply) → Answers P a r → Replies p.fixed a s → r ≡ s
  same_reply (plain x) r s m n = sym m ∙ n.0
  same_reply (word w) r s m n = cc (m.1, same_value w m.0 n.0 m.2 n.2, n.1)

  all_same : (rows : List DoneRow) (xs ys : List (Command × Reply)) → AllAnswer P rows xs → AllReply p.fixed rows ys → xs ≡ ys
  all_same [] [] [] m n = refl
  all_same [] [] (y ∷ ys) m n = absurd n
  all_same [] (x ∷ xs) ys m n = absurd m
  all_same (r ∷ rs) [] ys m n = absurd m
  all_same (r ∷ rs) (x ∷ xs) [] m n = absurd n
  all_same (r ∷ rs) (x ∷ xs) (y ∷ ys) m n =
      let c : x.0 ≡ y.0 = sym m.0.0 ∙ n.0.0 in
      let s : x.1 ≡ y.1 = same_reply r.answer x.1 y.1 m.0.1 n.0.1 in
      λ i. (c i, s i) ∷ all_same rs xs ys m.1 n.1 i

  -- the mutator's commands and replies in the order of the events are its rows by their names
  pub replies_are : (replies : List (Command × Reply)) → AllReply p.fixed p.rows replies → done_by p.number h.events ≡ replies
  replies_are replies n = all_same p.rows (done_by p.number h.events) replies (h.parts k p here).0.rows n
