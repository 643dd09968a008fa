-- The words from which the search starts, one kind after the other.
use Rattle.nmgc_minor.proofs.Vocabulary.{◌≡◌, ◌<◌, ◌+◌, ◌*◌, ℕ, List, [], ◌∷◌, ◌++◌, length, map, take, get_or, inl, inr, refl, sym, ap, subst, ◌∙◌, arith, ◌⊎◌, Contains, flat_map, take_more, Contains-append_left, Contains-push, Contains-push_cases, SHARED_SLOTS, FinQueue, Address, HEADER_WORDS, contains_flat, flat_contains, map_in, map_from, Young, Inputs, IsAliveAt, IsStart, IsFound, IsYoung, IsWithin, Notes, PointsIn, CanFollow, Follows, inputs_of, IsWeakStart, Finds, slice_index}
use Rattle.nmgc_minor.proofs.NoteLaws.{notes_then, notes_none, notes_as}

-- one more item of a list
pub notes_item : {X : Type 0} (G : X → ℕ → Type 0) (a b c : Young) (xs : List X) (i : ℕ) (x : X) → i < length xs → x ≡ get_or xs i x →
    Notes a b (λ w. (y : X) × Contains (take i xs) y × G y w) → Notes b c (G x) → Notes a c (λ w. (y : X) × Contains (take (i + 1) xs) y × G y w)
notes_item {X} G a b c xs i x lt read f g =
    let e : take (i + 1) xs ≡ take i xs ++ x ∷ [] = take_more xs i x lt ∙ ap (λ (y : X). take i xs ++ y ∷ []) (sym read) in
    notes_then a b c (λ w. (y : X) × Contains (take i xs) y × G y w) (G x) (λ w. (y : X) × Contains (take (i + 1) xs) y × G y w) f g
    (λ w h. (h.0, subst (λ (ys : List X). Contains ys h.0) (sym e) (Contains-append_left (take i xs) (x ∷ []) h.0 h.1), h.2))
    (λ w h. (x, subst (λ (ys : List X). Contains ys x) (sym e) (Contains-push (take i xs) x), h))
    (λ w h. elim (Contains-push_cases (take i xs) x h.0 (subst (λ (ys : List X). Contains ys h.0) e h.1)) [
      | inl d ↦ inl (h.0, d, h.2)
      | inr s ↦ inr (subst (λ (y : X). G y w) (sym s) h.2)
    ])

pub notes_first : {X : Type 0} (G : X → ℕ → Type 0) (y : Young) (xs : List X) → IsYoung y → Notes y y (λ w. (x : X) × Contains (take 0 xs) x × G x w)
notes_first G y xs h = notes_none y (λ w. (x : _) × Contains (take 0 xs) x × G x w) h (λ at l c. absurd (omega (arith, c.1.1)))

-- a word still points into the table after more was noted
pub within_after : (a b : Young) (P : ℕ → Type 0) → Notes a b P → (word : ℕ) → IsWithin a word → IsWithin b word
within_after a b P n word h at e l = let s = n.base in let t = n.size in let r = h at e (omega (arith, s, l)) in omega (arith, s, t, r)

-- the contents of mutators as one list: words, lists one after another, and single items
pub notes_words : {A : Type 0} (f : A → List ℕ) (a b : Young) (xs : List A) → Notes a b (λ w. (x : A) × Contains xs x × Contains (f x) w) →
    Notes a b (Contains (flat_map f xs))
notes_words {A} f a b xs n =
    notes_as a b (λ w. (x : A) × Contains xs x × Contains (f x) w) (Contains (flat_map f xs)) n (λ w h. contains_flat f xs h.0 w h.1 h.2)
    (λ w h. flat_contains f xs w h)

pub notes_flat : {A B : Type 0} (f : A → List B) (G : B → ℕ → Type 0) (a b : Young) (xs : List A) →
    Notes a b (λ w. (x : A) × Contains xs x × ((y : B) × Contains (f x) y × G y w)) → Notes a b (λ w. (y : B) × Contains (flat_map f xs) y × G y w)
notes_flat {A} {B} f G a b xs n =
    notes_as a b (λ w. (x : A) × Contains xs x × ((y : B) × Contains (f x) y × G y w)) (λ w. (y : B) × Contains (flat_map f xs) y × G y w) n
    (λ w h. (h.2.0, contains_flat f xs h.0 h.2.0 h.1 h.2.1, h.2.2))
    (λ w h. let k = flat_contains f xs h.0 h.1 in (k.0, k.1, (h.0, k.2, h.2)))

pub notes_mapped : {A B : Type 0} (f : A → B) (G : B → ℕ → Type 0) (a b : Young) (xs : List A) →
    Notes a b (λ w. (x : A) × Contains xs x × G (f x) w) → Notes a b (λ w. (y : B) × Contains (map f xs) y × G y w)
notes_mapped {A} {B} f G a b xs n =
    notes_as a b (λ w. (x : A) × Contains xs x × G (f x) w) (λ w. (y : B) × Contains (map f xs) y × G y w) n
    (λ w h. (f h.0, map_in f xs h.0 h.1, h.2))
    (λ w h. let k = map_from f xs h.0 h.1 in (k.0, k.1, subst (λ (y : B). G y w) k.2 h.2))

module _ (registers : List ℕ) (queues : List FinQueue) (recorded weaks : List Address) (words : List ℕ) where
  abbrev pub Starts : ℕ → Type 0
  Starts = IsStart (inputs_of registers queues recorded weaks) words

  abbrev pub OfQueue : ℕ → Type 0
  OfQueue w = (queue : FinQueue) × Contains queues queue × Contains queue.words w

  abbrev pub OfShared : ℕ → Type 0
  OfShared w = (i : ℕ) × (i < SHARED_SLOTS) × (slice_index words (3 + i) ≡ w)

  abbrev pub OfRecorded : ℕ → Type 0
  OfRecorded w = (at : Address) × Contains recorded at × (slice_index words at.0 ≡ w)

  abbrev pub OfWeak : ℕ → Type 0
  OfWeak w = (at : Address) × Contains weaks at × IsWeakStart words at w

  pub by_register : (w : ℕ) → Contains registers w → Starts w
  by_register w c = IsStart.register c

  pub by_queue : (w : ℕ) → OfQueue w → Starts w
  by_queue w h = IsStart.queued h.0.words (map_in (λ (queue : FinQueue). queue.words) queues h.0 h.1) h.2

  pub by_shared : (w : ℕ) → OfShared w → Starts w
  by_shared w h = IsStart.shared h.0 h.1 h.2

  pub by_recorded : (w : ℕ) → OfRecorded w → Starts w
  by_recorded w h = IsStart.recorded h.0.0 (map_in (λ (at : Address). at.0) recorded h.0 h.1) h.2

  pub by_weak : (w : ℕ) → OfWeak w → Starts w
  by_weak w h = elim h.2.1 [
    | inl e ↦ IsStart.weak h.0.0 (map_in (λ (at : Address). at.0) weaks h.0 h.1) h.2.0 e
    | inr p ↦ IsStart.part h.0.0 p.0 (map_in (λ (at : Address). at.0) weaks h.0 h.1) h.2.0 p.1 p.2
  ]

  cases : (w : ℕ) → Starts w → (((Contains registers w ⊎ OfQueue w) ⊎ OfShared w) ⊎ OfRecorded w) ⊎ OfWeak w
  cases w (IsStart.register c) = inl (inl (inl (inl c)))
  cases w (IsStart.queued queue c d) = let q = map_from (λ (x : FinQueue). x.words) queues queue c in
      inl (inl (inl (inr (q.0, q.1, subst (λ (xs : List ℕ). Contains xs w) q.2 d))))
  cases w (IsStart.shared i lt e) = inl (inl (inr (i, lt, e)))
  cases w (IsStart.recorded at c e) = let a = map_from (λ (x : Address). x.0) recorded at c in
      inl (inr (a.0, a.1, subst (λ (k : ℕ). slice_index words k ≡ w) a.2 e))
  cases w (IsStart.weak at c alive e) = let a = map_from (λ (x : Address). x.0) weaks at c in
      inr (a.0, a.1, (subst (λ (k : ℕ). IsAliveAt words k) a.2 alive, inl (subst (λ (k : ℕ). 2 * k ≡ w) a.2 e)))
  cases w (IsStart.part at i c alive lt e) = let a = map_from (λ (x : Address). x.0) weaks at c in
      inr (a.0, a.1, (subst (λ (k : ℕ). IsAliveAt words k) a.2 alive, inr (i, lt, subst (λ (k : ℕ). slice_index words (k + HEADER_WORDS + i) ≡ w) a.2 e)))

  -- all kinds
  pub notes_starts : (a b c d e f : Young) → Notes a b (Contains registers) → Notes b c OfQueue → Notes c d OfShared → Notes d e OfRecorded →
      Notes e f OfWeak → Notes a f Starts
  notes_starts a b c d e f n1 n2 n3 n4 n5 =
      let P2 : ℕ → Type 0 = λ w. Contains registers w ⊎ OfQueue w in
      let P3 : ℕ → Type 0 = λ w. P2 w ⊎ OfShared w in
      let P4 : ℕ → Type 0 = λ w. P3 w ⊎ OfRecorded w in
      let m2 = notes_then a b c (Contains registers) OfQueue P2 n1 n2 (λ w h. inl h) (λ w h. inr h) (λ w h. h) in
      let m3 = notes_then a c d P2 OfShared P3 m2 n3 (λ w h. inl h) (λ w h. inr h) (λ w h. h) in
      let m4 = notes_then a d e P3 OfRecorded P4 m3 n4 (λ w h. inl h) (λ w h. inr h) (λ w h. h) in
      notes_then a e f P4 OfWeak Starts m4 n5
      (λ w h. elim h [
        | inr r ↦ by_recorded w r
        | inl g ↦ elim g [
          | inr s ↦ by_shared w s
          | inl q ↦ elim q [ inl r ↦ by_register w r | inr u ↦ by_queue w u ]
        ]
      ])
      by_weak cases

-- the objects reachable from noted objects are the objects reachable from the words
noted_found : (a b : Young) (words : List ℕ) (Starts : ℕ → Type 0) → a.found.items ≡ [] → Notes a b Starts → (at : ℕ) →
    IsFound b.base words (PointsIn b) at → IsFound a.base words Starts at
noted_found a b words Starts none n at (IsFound.start _ l p) =
    let e : p.0 ≡ at = omega (arith, p.1) in
    elim (n.sound p.0 p.2) [
      | inl i ↦ let z = ap length none in absurd (omega (arith, i.1, z))
      | inr h ↦ subst (λ (k : ℕ). IsFound a.base words Starts k) e (IsFound.start p.0 h.0 h.1)
    ]
noted_found a b words Starts none n at (IsFound.field from _ f l h) =
    IsFound.field from at (noted_found a b words Starts none n from f) (let s = n.base in omega (arith, s, l)) h

found_noted : (a b : Young) (words : List ℕ) (Starts : ℕ → Type 0) → Notes a b Starts → (at : ℕ) → IsFound a.base words Starts at →
    IsFound b.base words (PointsIn b) at
found_noted a b words Starts n at (IsFound.start _ l p) = IsFound.start at (let s = n.base in omega (arith, s, l)) (at, refl, n.complete at l p)
found_noted a b words Starts n at (IsFound.field from _ f l h) = IsFound.field from at (found_noted a b words Starts n from f) (let s = n.base in
    omega (arith, s, l)) h

pub can_follow_noted : (a b : Young) (words : List ℕ) (Starts : ℕ → Type 0) → a.found.items ≡ [] → Notes a b Starts →
    ((at : ℕ) → IsFound a.base words Starts at → CanFollow a words at) → (at : ℕ) → IsFound b.base words (PointsIn b) at → CanFollow b words at
can_follow_noted a b words Starts none n can at f =
    let c = can at (noted_found a b words Starts none n at f) in
    record { header = c.header; within = λ word h. within_after a b Starts n word (c.within word h) }

pub finds_all : (a b c : Young) (words : List ℕ) (inputs : Inputs) → a.found.items ≡ [] → Notes a b (IsStart inputs words) → Follows b c words →
    Finds a c words inputs
finds_all a b c words inputs none n f = record {
  young = f.young;
  base = f.base ∙ n.base;
  size = f.size ∙ n.size;
  kept_room = f.kept_room ∙ n.kept_room;
  sound = λ at i. noted_found a b words (IsStart inputs words) none n at (f.sound at i);
  complete = λ at h. f.complete at (found_noted a b words (IsStart inputs words) n at h);
}
