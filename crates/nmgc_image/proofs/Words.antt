-- The words of an object, as they are read: which words represent values, and which values.
use Rattle.nmgc_image.proofs.Vocabulary.{ℕ, ◌≡◌, ◌+◌, ◌-◌, ◌*◌, ◌/◌, ◌%◌, ◌<◌, ◌≤◌, zero, suc, List, [], ◌∷◌, length, map, take, drop, slice_index, arith, refl, sym, ap, subst, ◌∙◌, Bool, true, false, cond, Some, None, inl, inr, eqb, ltb, add-one, ◌&&◌, Contains, All, ne_eqb, eq-eqb, lt-ltb, cases_Bool, drop_more, All-nil, All-cons, Name, Value, Node, Con, Var, Arr, Thunk, Weak, Stack, IsSized, held_by, same_name, contains_cases, contains_head, contains_tail, nothing_in, IsName, name_word, SERIAL_UNIT, NIL_WORD, HEADER_WORDS, header_of, Place, Means, AllMean, ListMeans, HasFields, AreUnset, IsNamedAt, IsReadable, name_in, value_in, is_pointer, pointers, leading, thunk_words, weak_words, fields_at, value_words_at, begins_unset, made_of, thunk_of, node_read, shown}
use Rattle.nmgc_world_spec.specs.declared.value.Value.TheVariants as value

-- a name is read from its word
name_parts : (serial maker word : ℕ) → maker < SERIAL_UNIT → SERIAL_UNIT * serial + maker ≡ word → (word % SERIAL_UNIT ≡ maker) × (word / SERIAL_UNIT ≡ serial)
name_parts serial maker word lt e = (omega arith, omega arith)

pub name_reads : (n : Name) (word : ℕ) → IsName n → name_word n ≡ word → record { maker = word % SERIAL_UNIT; serial = word / SERIAL_UNIT } ≡ n
name_reads n word valid e =
    let low = valid.0 in
    let p = name_parts n.serial n.maker word (omega arith) e in
    same_name (record { maker = word % SERIAL_UNIT; serial = word / SERIAL_UNIT }) n p.0 p.1

halves : (at word : ℕ) → word ≡ 2 * at → (word / 2 ≡ at) × (word % 2 ≡ 0)
halves at word e = (omega arith, omega arith)

odd : (n word : ℕ) → word ≡ 2 * n + 3 → (word / 2 - 1 ≡ n) × (word % 2 ≡ 1)
odd n word e = (omega arith, omega arith)

pub fields_more : (words : List ℕ) (from n : ℕ) → from < length words → take (n + 1) (drop from words) ≡ slice_index words from ∷ take n (drop (from + 1) words)
fields_more words from n lt = ap (take (n + 1)) (drop_more words from 0 lt) ∙ rw add-one refl

-- if addresses have names that can be read, and none is address 0
module _ (P : Place → Type 0) (words : List ℕ) (named : (p : Place) → P p → IsNamedAt words p.at) (is : (p : Place) → P p →
    name_in words p.at ≡ p.name) (above : (p : Place) → P p → 1 ≤ p.at) where
  -- a word that represents a value isn't 0
  pub mean_set : (word : ℕ) (v : Value) → Means P word v → 1 ≤ word
  mean_set word value.Nil m = omega arith
  mean_set word (value.Number n) m = omega arith
  mean_set word (value.Ref n) m = let l = above (record { at = m.0; name = n }) m.2 in omega (arith, m.1, l)

  -- it is read as that value
  pub mean_read : (word : ℕ) (v : Value) → Means P word v → value_in words word ≡ v
  mean_read word value.Nil m = rw m refl
  mean_read word (value.Number n) m =
      let h = odd n word m in
      let a : eqb word NIL_WORD ≡ false = ne_eqb word NIL_WORD (omega arith) in
      let b : eqb (word % 2) 0 ≡ false = ne_eqb (word % 2) 0 (omega (arith, h.1)) in
      rw (a, b, h.0) refl
  mean_read word (value.Ref n) m =
      let h = halves m.0 word m.1 in
      let l = above (record { at = m.0; name = n }) m.2 in
      let a : eqb word NIL_WORD ≡ false = ne_eqb word NIL_WORD (omega (arith, m.1)) in
      let b : eqb (word % 2) 0 ≡ true = eq-eqb (word % 2) 0 h.1 in
      let c : name_in words (word / 2) ≡ n = ap (name_in words) h.0 ∙ is (record { at = m.0; name = n }) m.2 in
      rw (a, b) (ap value.Ref c)

  -- a pointer's target has the name of the reference
  pub mean_pointer : (word : ℕ) (v : Value) → Means P word v → is_pointer word ≡ true → (n : Name) × (v ≡ value.Ref n) × P (record { at = word / 2; name = n })
  mean_pointer word value.Nil m e = absurd (let f : is_pointer word ≡ false = rw m refl in cc)
  mean_pointer word (value.Number n) m e =
      let h = odd n word m in
      let b : eqb (word % 2) 0 ≡ false = ne_eqb (word % 2) 0 (omega (arith, h.1)) in
      let f : is_pointer word ≡ false = no_pointer (ltb 0 word) (eqb (word % 2) 0) b in
      absurd cc
    where
      no_pointer : (a b : Bool) → b ≡ false → (a && b) ≡ false
      no_pointer true b e = e
      no_pointer false b e = refl
  mean_pointer word (value.Ref n) m e =
      let h = halves m.0 word m.1 in
      (n, refl, subst (λ (k : ℕ). P (record { at = k; name = n })) (sym h.0) m.2)

  pub ref_pointer : (word : ℕ) (n : Name) → Means P word (value.Ref n) → (is_pointer word ≡ true) × P (record { at = word / 2; name = n })
  ref_pointer word n m =
      let h = halves m.0 word m.1 in
      let l = above (record { at = m.0; name = n }) m.2 in
      let a : ltb 0 word ≡ true = lt-ltb 0 word (omega (arith, m.1, l)) in
      let b : eqb (word % 2) 0 ≡ true = eq-eqb (word % 2) 0 h.1 in
      (rw (a, b) refl, subst (λ (k : ℕ). P (record { at = k; name = n })) (sym h.0) m.2)

  pub mean_readable : (word : ℕ) (v : Value) → Means P word v → IsReadable words word
  mean_readable word v m = (mean_set word v m, λ e. let p = mean_pointer word v m e in named (record { at = word / 2; name = p.0 }) p.2)

  -- lists of words are read as lists of values
  pub list_read : (ws : List ℕ) (vs : List Value) → ListMeans P ws vs → map (value_in words) ws ≡ vs
  list_read [] [] h = refl
  list_read [] (v ∷ vs) h = absurd h
  list_read (w ∷ ws) [] h = absurd h
  list_read (w ∷ ws) (v ∷ vs) h = let x = mean_read w v h.0 in let y = list_read ws vs h.1 in cc

  pub list_readable : (ws : List ℕ) (vs : List Value) → ListMeans P ws vs → All (IsReadable words) ws
  list_readable [] vs h = All-nil (IsReadable words)
  list_readable (w ∷ ws) [] h = absurd h
  list_readable (w ∷ ws) (v ∷ vs) h = All-cons (IsReadable words) w ws (mean_readable w v h.0) (list_readable ws vs h.1)

  pub list_pointers : (ws : List ℕ) (vs : List Value) (at : ℕ) → ListMeans P ws vs → Contains (pointers ws) at → (n : Name) ×
      Contains vs (value.Ref n) × P (record { at = at; name = n })
  list_pointers [] vs at h c = absurd (nothing_in at c)
  list_pointers (w ∷ ws) [] at h c = absurd h
  list_pointers (w ∷ ws) (v ∷ vs) at h c = elim (cases_Bool (is_pointer w)) [
    | inl is_one ↦ elim (contains_cases (w / 2) (pointers ws) at (rw is_one at c)) [
      | inl same ↦
          let p = mean_pointer w v h.0 is_one in
          (p.0, subst (λ (u : Value). Contains (v ∷ vs) u) p.1 (contains_head v vs), subst (λ (k : ℕ). P (record { at = k; name = p.0 })) same p.2)
      | inr rest ↦ let r = list_pointers ws vs at h.1 rest in (r.0, contains_tail v vs (value.Ref r.0) r.1, r.2)
    ]
    | inr is_none ↦ let r = list_pointers ws vs at h.1 (rw is_none at c) in (r.0, contains_tail v vs (value.Ref r.0) r.1, r.2)
  ]

  pub pointers_list : (ws : List ℕ) (vs : List Value) (n : Name) → ListMeans P ws vs → Contains vs (value.Ref n) → (at : ℕ) ×
      Contains (pointers ws) at × P (record { at = at; name = n })
  pointers_list [] [] n h c = absurd (nothing_in (value.Ref n) c)
  pointers_list [] (v ∷ vs) n h c = absurd h
  pointers_list (w ∷ ws) [] n h c = absurd h
  pointers_list (w ∷ ws) (v ∷ vs) n h c = elim (contains_cases v vs (value.Ref n) c) [
    | inl same ↦
        let p = ref_pointer w n (subst (λ (u : Value). Means P w u) same h.0) in
        (w / 2, rw p.0 (contains_head (w / 2) (pointers ws)), p.1)
    | inr rest ↦
        let r = pointers_list ws vs n h.1 rest in
        (r.0, more (is_pointer w) (w / 2) (pointers ws) r.0 r.1, r.2)
  ]
    where
      more : (b : Bool) (x : ℕ) (xs : List ℕ) (y : ℕ) → Contains xs y → Contains (cond b (x ∷ xs) xs) y
      more true x xs y k = contains_tail x xs y k
      more false x xs y k = k

  -- words from an address on that represent values
  rest_mean : (from : ℕ) (v : Value) (vs : List Value) → AllMean P words from (v ∷ vs) → AllMean P words (from + 1) vs
  rest_mean from v vs h i u e = let z : from + suc i ≡ from + 1 + i = omega arith in subst (λ (k : ℕ). Means P (slice_index words k) u) z (h (suc i) u e)

  first_mean : (from : ℕ) (v : Value) (vs : List Value) → AllMean P words from (v ∷ vs) → Means P (slice_index words from) v
  first_mean from v vs h = let z : from + 0 ≡ from = omega arith in subst (λ (k : ℕ). Means P (slice_index words k) v) z (h 0 v refl)

  pub row_means : (from : ℕ) (vs : List Value) → AllMean P words from vs → from + length vs ≤ length words → ListMeans P (take (length vs) (drop from words)) vs
  row_means from [] h fits = tt
  row_means from (v ∷ vs) h fits =
      let e : take (length vs + 1) (drop from words) ≡ slice_index words from ∷ take (length vs) (drop (from + 1) words) =
      fields_more words from (length vs) (omega arith) in
      let r = row_means (from + 1) vs (rest_mean from v vs h) (omega arith) in
      let z : length vs + 1 ≡ suc (length vs) = omega arith in
      subst (λ (l : List ℕ). ListMeans P l (v ∷ vs)) (sym (ap (λ (k : ℕ). take k (drop from words)) (sym z) ∙ e)) (first_mean from v vs h, r)

  -- the slots of a stack below its depth
  pub depth_means : (from n : ℕ) (vs : List Value) → AllMean P words from vs → AreUnset words from (length vs) n → length vs ≤ n →
      from + n ≤ length words → ListMeans P (leading (take n (drop from words))) vs
  depth_means from zero [] h u le fits = tt
  depth_means from (suc n) [] h u le fits =
      let e : take (n + 1) (drop from words) ≡ slice_index words from ∷ take n (drop (from + 1) words) = fields_more words from n (omega arith) in
      let z : n + 1 ≡ suc n = omega arith in
      let unset : slice_index words from ≡ 0 = let y : from + 0 ≡ from = omega arith in
      subst (λ (k : ℕ). slice_index words k ≡ 0) y (u 0 (omega arith) (omega arith)) in
      let none : leading (slice_index words from ∷ take n (drop (from + 1) words)) ≡ [] = rw unset refl in
      subst (λ (l : List ℕ). ListMeans P l []) (sym (ap leading (ap (λ (k : ℕ). take k (drop from words)) (sym z) ∙ e) ∙ none)) tt
  depth_means from zero (v ∷ vs) h u le fits = absurd (omega arith)
  depth_means from (suc n) (v ∷ vs) h u le fits =
      let e : take (n + 1) (drop from words) ≡ slice_index words from ∷ take n (drop (from + 1) words) = fields_more words from n (omega arith) in
      let z : n + 1 ≡ suc n = omega arith in
      let first = first_mean from v vs h in
      let set = mean_set (slice_index words from) v first in
      let b : eqb (slice_index words from) 0 ≡ false = ne_eqb (slice_index words from) 0 (omega (arith, set)) in
      let r = depth_means (from + 1) n vs (rest_mean from v vs h) (λ i low high. let y : from + suc i ≡ from + 1 + i = omega arith in
      subst (λ (k : ℕ). slice_index words k ≡ 0) y (u (suc i) (omega arith) (omega arith))) (omega arith) (omega arith) in
      let some : leading (slice_index words from ∷ take n (drop (from + 1) words)) ≡ slice_index words from ∷
      leading (take n (drop (from + 1) words)) = rw b refl in
      subst (λ (l : List ℕ). ListMeans P l (v ∷ vs)) (sym (ap leading (ap (λ (k : ℕ). take k (drop from words)) (sym z) ∙ e) ∙ some)) (first, r)

  three : (from : ℕ) → from + 3 ≤ length words → take 3 (drop from words) ≡ slice_index words from ∷ slice_index words (from + 1) ∷
      slice_index words (from + 2) ∷ []
  three from fits =
      let a : take 3 (drop from words) ≡ slice_index words from ∷ take 2 (drop (from + 1) words) = fields_more words from 2 (omega arith) in
      let b : take 2 (drop (from + 1) words) ≡ slice_index words (from + 1) ∷ take 1 (drop (from + 1 + 1) words) =
      fields_more words (from + 1) 1 (omega arith) in
      let c : take 1 (drop (from + 1 + 1) words) ≡ slice_index words (from + 1 + 1) ∷ take 0 (drop (from + 1 + 1 + 1) words) =
      fields_more words (from + 1 + 1) 0 (omega arith) in
      let z : from + 1 + 1 ≡ from + 2 = omega arith in
      cc (a, b, c, z)

  -- the value words of an object represent the values that its node holds, as it is shown
  pub value_words_mean : (at : ℕ) (node : Node) → IsSized node → HasFields P words (at + HEADER_WORDS) node →
      at + HEADER_WORDS + (header_of node).fields ≤ length words → ListMeans P (value_words_at words at (header_of node)) (held_by (shown node))
  value_words_mean at (Con tag values) sized h fits = row_means (at + HEADER_WORDS) values h fits
  value_words_mean at (Var v) sized h fits = row_means (at + HEADER_WORDS) (v ∷ []) (one (at + HEADER_WORDS) v h) fits
    where
      one : (from : ℕ) (v : Value) → Means P (slice_index words from) v → AllMean P words from (v ∷ [])
      one from v m zero u e = let same : v ≡ u = cc in let z : from ≡ from + 0 = omega arith in
          subst (λ (k : ℕ). Means P (slice_index words k) u) z (subst (λ (x : Value). Means P (slice_index words from) x) same m)
      one from v m (suc i) u e = absurd cc
  value_words_mean at (Arr values) sized h fits = row_means (at + HEADER_WORDS) values h fits
  value_words_mean at (Thunk free None) sized h fits =
      let from : ℕ = at + HEADER_WORDS in
      let e = fields_more words from (length free) (omega arith) in
      let value_words_free : thunk_words (slice_index words from ∷ take (length free) (drop (from + 1) words)) ≡
      take (length free) (drop (from + 1) words) = rw h.0 refl in
      subst (λ (l : List ℕ). ListMeans P l free) (sym (ap thunk_words e ∙ value_words_free)) (row_means (from + 1) free h.1 (omega arith))
  value_words_mean at (Thunk free (Some result)) sized h fits =
      let from : ℕ = at + HEADER_WORDS in
      let e = fields_more words from (length free) (omega arith) in
      let set = mean_set (slice_index words from) result h in
      let b : eqb (slice_index words from) 0 ≡ false = ne_eqb (slice_index words from) 0 (omega (arith, set)) in
      let value_words_one : thunk_words (slice_index words from ∷ take (length free) (drop (from + 1) words)) ≡ slice_index words from ∷ [] = rw b refl in
      subst (λ (l : List ℕ). ListMeans P l (result ∷ [])) (sym (ap thunk_words e ∙ value_words_one)) (h, tt)
  value_words_mean at (Weak None) sized h fits =
      let from : ℕ = at + HEADER_WORDS in
      let e = three from fits in
      let b : eqb (slice_index words (from + 1)) 0 ≡ true = eq-eqb (slice_index words (from + 1)) 0 h in
      let dead : weak_words (slice_index words from ∷ slice_index words (from + 1) ∷ slice_index words (from + 2) ∷ []) ≡ [] = rw b refl in
      subst (λ (l : List ℕ). ListMeans P l []) (sym (ap weak_words e ∙ dead)) tt
  value_words_mean at (Weak (Some parts)) sized h fits =
      let from : ℕ = at + HEADER_WORDS in
      let e = three from fits in
      let set = mean_set (slice_index words (from + 1)) parts.value h.1 in
      let b : eqb (slice_index words (from + 1)) 0 ≡ false = ne_eqb (slice_index words (from + 1)) 0 (omega (arith, set)) in
      let alive : weak_words (slice_index words from ∷ slice_index words (from + 1) ∷ slice_index words (from + 2) ∷ []) ≡ slice_index words from ∷
      slice_index words (from + 1) ∷ slice_index words (from + 2) ∷ [] = rw b refl in
      subst (λ (l : List ℕ). ListMeans P l (parts.key ∷ parts.value ∷ parts.finaliser ∷ [])) (sym (ap weak_words e ∙ alive)) (h.0, (h.1, (h.2, tt)))
  value_words_mean at (Stack size values) sized h fits = depth_means (at + HEADER_WORDS) size values h.0 h.1 sized fits

  -- a thunk has a result exactly if its first field is not unset
  abbrev IsFlag : Node → Bool → Type 0
  IsFlag (Thunk free None) b = b ≡ true
  IsFlag (Thunk free (Some result)) b = b ≡ false
  IsFlag _ b = Unit {0}

  flag_reads : (at : ℕ) (node : Node) → HasFields P words (at + HEADER_WORDS) node → at + HEADER_WORDS + (header_of node).fields ≤ length words →
      IsFlag node (begins_unset (fields_at words at (header_of node)))
  flag_reads at (Con tag values) h fits = tt
  flag_reads at (Var v) h fits = tt
  flag_reads at (Arr values) h fits = tt
  flag_reads at (Thunk free None) h fits = ap begins_unset (fields_more words (at + HEADER_WORDS) (length free) (omega arith)) ∙ rw h.0 refl
  flag_reads at (Thunk free (Some result)) h fits =
      let set = mean_set (slice_index words (at + HEADER_WORDS)) result h in
      ap begins_unset (fields_more words (at + HEADER_WORDS) (length free) (omega arith)) ∙
      ne_eqb (slice_index words (at + HEADER_WORDS)) 0 (omega (arith, set))
  flag_reads at (Weak parts) h fits = tt
  flag_reads at (Stack size values) h fits = tt

  made_shown : (node : Node) (b : Bool) → IsFlag node b → made_of (header_of node).kind (header_of node) b (held_by (shown node)) ≡ shown node
  made_shown (Con tag values) b f = refl
  made_shown (Var v) b f = refl
  made_shown (Arr values) b f = refl
  made_shown (Thunk free None) b f = ap (λ (c : Bool). thunk_of c free) f
  made_shown (Thunk free (Some result)) b f = ap (λ (c : Bool). thunk_of c (result ∷ [])) f
  made_shown (Weak None) b f = refl
  made_shown (Weak (Some parts)) b f = refl
  made_shown (Stack size values) b f = refl

  -- the node that is read is the object's, as it is shown
  pub node_reads : (at : ℕ) (node : Node) → IsSized node → HasFields P words (at + HEADER_WORDS) node →
      at + HEADER_WORDS + (header_of node).fields ≤ length words → node_read words at (header_of node) ≡ shown node
  node_reads at node sized h fits =
      let values : map (value_in words) (value_words_at words at (header_of node)) ≡ held_by (shown node) =
      list_read (value_words_at words at (header_of node)) (held_by (shown node)) (value_words_mean at node sized h fits) in
      let b : Bool = begins_unset (fields_at words at (header_of node)) in
      ap (made_of (header_of node).kind (header_of node) b) values ∙ made_shown node b (flag_reads at node h fits)
