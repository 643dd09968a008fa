-- Lines taken while every name counts as declared. They are taken in the end too if each name that they mention is declared.
use Rattle.nmgc_image.proofs.Vocabulary.{◌≡◌, ◌≤◌, ◌-◌, ℕ, List, [], ◌∷◌, ◌++◌, map, length, take, drop, refl, sym, ap, subst, ◌∙◌, arith, Bool, true, false, cond, not, codes, eqb, Option, Some, None, ◌&&◌, AllByRecursion, list_all, flat_map, bytes_eq, and_parts, and_from, false≢true, flat_map-append, append-nil, take-append-drop, recursion_from_All, none-some, same_Some, REGISTERS, MAKERS, Name, Value, Nil, Number, Ref, shared_name, held_by, ◌>>=◌, number_at, value_at, bind_some, guard_some, Entry, Reader, first_words, mutator_lines, entry_words, last_words, tokens_of, cut, is_declared, begun, is_open, is_full, first_at, mutator_at, is_above, is_nil, register_at, queue_at, is_after, is_owned, entry_at, next_at, end_at, line_at, start, run, key_of, key_in, keys_in, keys_of, keys_beside, has_key, HaveSame, FindsDeclared, AreTaken, AreRead, AreMentionsIn}
use Rattle.nmgc_image.proofs.{NodeLaws.IsSpellable, NodeLaws.line_again, Machine.run_step, Taken.spellable, Taken.front_runs, Lines.IsGood, Lines.first_part, Lines.last_part, Lines.lines_so_far, Lines.start_good, Lines.start_lines, Lines.run_goes, Lines.good_part, FirstBad.rec_append, FirstBad.IsOther, FirstBad.other_first, FirstBad.mutators_other, FirstBad.other_last, Keys.keys_find, Keys.finds_same}

guard_from : {A : Type 0} (b : Bool) (o : Option A) (y : A) → b ≡ true → o ≡ Some y → cond b o None ≡ Some y
guard_from true o y e h = h
guard_from false o y e h = absurd (false≢true e)

bind_from : {A B : Type 0} (r : Option A) (f : A → Option B) (x : A) (y : B) → r ≡ Some x → f x ≡ Some y → (r >>= f) ≡ Some y
bind_from {A} {B} r f x y e h = ap (λ (o : Option A). o >>= f) e ∙ h

choice_below : {A : Type 0} (b : Bool) (x y u v z : A) → (x ≡ z → u ≡ z) → (y ≡ z → v ≡ z) → cond b x y ≡ z → cond b u v ≡ z
choice_below true x y u v z f g e = f e
choice_below false x y u v z f g e = g e

-- IF MORE NAMES COUNT, NO LESS IS TAKEN

module _ (d e : Name → Bool) (below : (name : Name) → d name ≡ true → e name ≡ true) where
  declared_below : (v : Value) → is_declared d v ≡ true → is_declared e v ≡ true
  declared_below Nil h = refl
  declared_below (Number n) h = refl
  declared_below (Ref name) h = below name h

  all_below : (vs : List Value) → list_all (is_declared d) vs ≡ true → list_all (is_declared e) vs ≡ true
  all_below [] h = refl
  all_below (v ∷ vs) h =
      let p = and_parts (is_declared d v) (list_all (is_declared d) vs) h in
      and_from (is_declared e v) (list_all (is_declared e) vs) (declared_below v p.0) (all_below vs p.1)

  register_below : (r t : Reader) (words : List (List ℕ)) → register_at d r words ≡ Some t → register_at e r words ≡ Some t
  unfolding register_at
  register_below r t [] h = absurd cc
  register_below r t (a ∷ []) h = absurd cc
  register_below r t (a ∷ b ∷ other ∷ others) h = absurd cc
  register_below r t (register ∷ word ∷ []) h =
      let g1 = guard_some (is_open r) _ t h in
      let own = bind_some r.current _ t g1.1 in
      let n = bind_some (number_at (REGISTERS - 1) register) _ t own.2 in
      let v = bind_some (value_at word) _ t n.2 in
      let front : Bool = eqb (length own.0.queue) 0 && is_above own.0.registers n.0 && not (is_nil v.0) in
      let g2 = guard_some (front && is_declared d v.0) _ t v.2 in
      let p = and_parts front (is_declared d v.0) g2.0 in
      let last = guard_from (front && is_declared e v.0) _ t (and_from front (is_declared e v.0) p.0 (declared_below v.0 p.1)) g2.1 in
      guard_from (is_open r) _ t g1.0 (bind_from r.current _ own.0 t own.1
      (bind_from (number_at (REGISTERS - 1) register) _ n.0 t n.1 (bind_from (value_at word) _ v.0 t v.1 last)))

  queue_below : (r t : Reader) (words : List (List ℕ)) → queue_at d r words ≡ Some t → queue_at e r words ≡ Some t
  unfolding queue_at
  queue_below r t [] h = absurd cc
  queue_below r t (a ∷ other ∷ others) h = absurd cc
  queue_below r t (word ∷ []) h =
      let g1 = guard_some (is_open r) _ t h in
      let own = bind_some r.current _ t g1.1 in
      let v = bind_some (value_at word) _ t own.2 in
      let g2 = guard_some (is_declared d v.0) _ t v.2 in
      let last = guard_from (is_declared e v.0) _ t (declared_below v.0 g2.0) g2.1 in
      guard_from (is_open r) _ t g1.0 (bind_from r.current _ own.0 t own.1 (bind_from (value_at word) _ v.0 t v.1 last))

  node_below : (r t : Reader) (words : List (List ℕ)) → next_at d r words ≡ Some t → next_at e r words ≡ Some t
  unfolding next_at
  node_below r t words h =
      let b = bind_some (entry_at words) _ t h in
      let front : Bool = is_full r && is_after r.nodes b.0.name && is_owned (begun r) b.0 in
      let g = guard_some (front && list_all (is_declared d) (held_by b.0.node)) _ t b.2 in
      let p = and_parts front (list_all (is_declared d) (held_by b.0.node)) g.0 in
      let last = guard_from (front && list_all (is_declared e) (held_by b.0.node)) _ t
      (and_from front (list_all (is_declared e) (held_by b.0.node)) p.0 (all_below (held_by b.0.node) p.1)) g.1 in
      bind_from (entry_at words) _ b.0 t b.1 last

  end_below : (r t : Reader) (words : List (List ℕ)) → end_at d r words ≡ Some t → end_at e r words ≡ Some t
  unfolding end_at
  end_below r t (a ∷ others) h = absurd cc
  end_below r t [] h =
      let g = guard_some (is_full r && d shared_name) _ t h in
      let p = and_parts (is_full r) (d shared_name) g.0 in
      guard_from (is_full r && e shared_name) _ t (and_from (is_full r) (e shared_name) p.0 (below shared_name p.1)) g.1

  line_below : (r t : Reader) (words : List (List ℕ)) → line_at d r words ≡ Some t → line_at e r words ≡ Some t
  unfolding line_at
  line_below r t [] h = absurd cc
  line_below r t (word ∷ words) h =
      choice_below (bytes_eq word (codes "image")) (first_at r words) _ (first_at r words) _ (Some t) (λ k. k)
      (choice_below (bytes_eq word (codes "mutator")) (mutator_at r words) _ (mutator_at r words) _ (Some t) (λ k. k)
      (choice_below (bytes_eq word (codes "register")) (register_at d r words) _ (register_at e r words) _ (Some t) (register_below r t words)
      (choice_below (bytes_eq word (codes "queue")) (queue_at d r words) _ (queue_at e r words) _ (Some t) (queue_below r t words)
      (choice_below (bytes_eq word (codes "node")) (next_at d r words) _ (next_at e r words) _ (Some t) (node_below r t words)
      (choice_below (bytes_eq word (codes "end")) (end_at d r words) None (end_at e r words) None (Some t) (end_below r t words) (λ k. k))))))
      h

  run_below : (lines : List (List (List ℕ))) (r t : Reader) → run d r lines ≡ Some t → run e r lines ≡ Some t
  run_below [] r t h = h
  run_below (words ∷ lines) r t h =
      let b = bind_some (line_at d r words) _ t h in
      run_step e r b.0 words lines (Some t) (line_below r b.0 words b.1) (run_below lines b.0 t b.2)

  -- a line that can't be taken when more names count can't be taken
  none_below : (r : Reader) (words : List (List ℕ)) (o : Option Reader) → line_at d r words ≡ o → line_at e r words ≡ None → line_at d r words ≡ None
  none_below r words None is none = is
  none_below r words (Some t) is none = absurd (none-some t (sym none ∙ line_below r t words is))

-- LINES TAKEN WHILE EVERY NAME COUNTED

module _ (d e : Name → Bool) (all : (name : Name) → e name ≡ true) where
  known_runs : (lines : List (List (List ℕ))) (r : Reader) → run e start lines ≡ Some r → AreMentionsIn d r → run d start lines ≡ Some r
  known_runs lines r runs known =
      let went = run_goes e lines start r (start_good e) runs in
      let good : IsGood e r = went.0 in
      let so_far : lines_so_far r ≡ lines = went.1 ∙ ap (λ (l : List (List (List ℕ))). l ++ lines) start_lines in
      let closed : IsGood d r = record {
        few = good.few;
        within = good.within;
        owns = good.owns;
        owns_in = known.mutators;
        ordered = good.ordered;
        nodes = good.nodes;
        nodes_in = known.nodes;
        full = good.full;
        last = λ is_yes. ((good.last is_yes).0, known.shared is_yes);
      } in
      let part = good_part d r closed in
      let s = front_runs d part.image part.orderly (record {
        mutators = part.mutators_in;
        nodes = part.nodes_in;
      }) (lines_so_far r) part.rest part.lines_are part.shared in
      let taken : run d start lines ≡ Some s.0 = subst (λ (l : List (List (List ℕ))). run d start l ≡ Some s.0) so_far s.1 in
      let also : run e start lines ≡ Some s.0 = run_below d e (λ name h. all name) lines start s.0 taken in
      subst (λ (t : Reader). run d start lines ≡ Some t) (same_Some s.0 r (sym also ∙ runs)) taken

  pub known_read : (bytes : List ℕ) (r : Reader) (number : ℕ) (rest : List ℕ) → AreRead e bytes r number rest → AreMentionsIn d r →
      AreRead d bytes r number rest
  known_read bytes r number rest read known =
      let t = read.taken in
      record {
        taken = record {
          before = t.before;
          number_is = t.number_is;
          within = t.within;
          lines_are = t.lines_are;
          rest_is = t.rest_is;
          runs = known_runs (map tokens_of (take t.before (cut bytes).lines)) r t.runs known;
        };
        stuck = λ line more is. none_below d e (λ name h. all name) r (tokens_of line) (line_at d r (tokens_of line)) refl (read.stuck line more is);
      }

-- WHICH NAMES HAVE NODE LINES

keys_split : (lines : List (List ℕ)) → keys_of lines ≡ flat_map keys_in (map tokens_of lines)
keys_split [] = refl
keys_split (line ∷ lines) = ap (λ (l : List ℕ). keys_in (tokens_of line) ++ l) (keys_split lines)

no_keys : (lines : List (List (List ℕ))) → AllByRecursion IsOther lines → flat_map keys_in lines ≡ []
no_keys [] h = refl
no_keys (words ∷ lines) h = ap (λ (l : List ℕ). l ++ flat_map keys_in lines) (ap key_in h.0) ∙ no_keys lines h.1

object_keys : (nodes : List Entry) → AllByRecursion IsSpellable nodes →
    flat_map keys_in (map entry_words nodes) ≡ map (λ (entry : Entry). key_of entry.name) nodes
object_keys [] h = refl
object_keys (entry ∷ nodes) h = cc (line_again entry h.0, object_keys nodes h.1)

if_all : {A : Type 0} (P : A → Type 0) (b : Bool) (xs ys : List A) → AllByRecursion P xs → AllByRecursion P ys → AllByRecursion P (cond b xs ys)
if_all P true xs ys h k = h
if_all P false xs ys h k = k

first_other : (m : ℕ) → AllByRecursion IsOther (first_part m)
unfolding first_part
first_other m = if_all IsOther (eqb m 0) [] (first_words m ∷ []) tt (other_first m, tt)

last_other : (b : Bool) → AllByRecursion IsOther (last_part b)
unfolding last_part
last_other b = if_all IsOther b (last_words ∷ []) [] (other_last, tt) tt

module _ (d : Name → Bool) where
  so_far_keys : (r : Reader) → IsGood d r → flat_map keys_in (lines_so_far r) ≡ map (λ (entry : Entry). key_of entry.name) r.nodes
  so_far_keys r g =
      let front : List (List (List ℕ)) = first_part r.expected ++ mutator_lines 0 (begun r) in
      let nodes : List (List (List ℕ)) = map entry_words r.nodes in
      let few : length (begun r) ≤ MAKERS = let w = g.within in let f = g.few in omega arith in
      let spelt : AllByRecursion IsSpellable r.nodes = recursion_from_All IsSpellable r.nodes (λ i x lt. spellable (begun r) _ few g.owns (g.nodes i x lt)) in
      cc (flat_map-append keys_in (front ++ nodes) (last_part r.ended), no_keys (last_part r.ended) (last_other r.ended), append-nil (flat_map keys_in (front ++ nodes)), flat_map-append keys_in front nodes, no_keys front (rec_append IsOther (first_part r.expected) (mutator_lines 0 (begun r)) (first_other r.expected) (mutators_other 0 (begun r))), object_keys r.nodes spelt)

  module _ (bytes : List ℕ) (r : Reader) (number : ℕ) (rest : List ℕ) (t : AreTaken d bytes r number rest) where
    taken_keys : keys_of (cut bytes).lines ≡ keys_beside r.nodes (cut rest).lines
    taken_keys =
        let lines = (cut bytes).lines in
        let front : List (List ℕ) = take t.before lines in
        let went = run_goes d (map tokens_of front) start r (start_good d) t.runs in
        let so_far : lines_so_far r ≡ map tokens_of front = went.1 ∙ ap (λ (l : List (List (List ℕ))). l ++ map tokens_of front) start_lines in
        let ours : keys_of front ≡ map (λ (entry : Entry). key_of entry.name) r.nodes = cc (keys_split front, so_far, so_far_keys r went.0) in
        cc (take-append-drop t.before lines, flat_map-append (λ (line : List ℕ). keys_in (tokens_of line)) front (drop t.before lines), ours, t.lines_are)

    pub taken_find : (keys : List ℕ) → HaveSame keys (keys_beside r.nodes (cut rest).lines) → FindsDeclared (has_key keys) (cut bytes).lines
    taken_find keys same =
        let lines = (cut bytes).lines in
        finds_same (has_key keys) (has_key (keys_of lines)) lines (λ name. same name ∙ ap (λ (ks : List ℕ). has_key ks name) (sym taken_keys)) (keys_find lines)
