-- Finalisers join their makers' queues in order.
use Rattle.nmgc_weak.proofs.Vocabulary.{◌≡◌, ◌≢◌, ◌+◌, ◌<◌, ◌≤◌, ℕ, zero, suc, Bool, true, false, cond, List, [], ◌∷◌, ◌++◌, map, length, take, set, get_or, refl, sym, ap, subst, ◌∙◌, append-nil, append_assoc, length-append, length-set, arith, inl, inr, filter, slice_get, option_map, length-map, map-set, slice_get-map, get_within, cases_eq, eqb_tells, slice_get-set_same, slice_get-set_other, get_at, FinQueue, Death, joins, joined, HaveRoom, Joins, AllJoin, HaveJoined, Some}

-- the word of a death, if it joins this queue
abbrev pub one_of : ℕ → Death → List ℕ
one_of maker death = cond (joins maker death) (death.finaliser ∷ []) []

pub joined_cons : (maker : ℕ) (d : Death) (ds : List Death) → joined maker (d ∷ ds) ≡ one_of maker d ++ joined maker ds
joined_cons maker d ds = by_test (joins maker d)
  where
    by_test : (b : Bool) → map (λ (death : Death). death.finaliser) (cond b (d ∷ filter (joins maker) ds) (filter (joins maker) ds)) ≡
        cond b (d.finaliser ∷ []) [] ++ joined maker ds
    by_test true = refl
    by_test false = refl

pub joined_more : (maker : ℕ) (ds : List Death) (i : ℕ) (e : Death) → i < length ds →
    joined maker (take (i + 1) ds) ≡ joined maker (take i ds) ++ one_of maker (get_or ds i e)
joined_more maker [] i e lt = absurd (omega arith)
joined_more maker (d ∷ ds) zero e lt = joined_cons maker d [] ∙ append-nil (one_of maker d)
joined_more maker (d ∷ ds) (suc i) e lt =
    let z : suc i + 1 ≡ suc (i + 1) = omega arith in
    cc (z, joined_cons maker d (take (i + 1) ds), joined_more maker ds i e (omega arith), append_assoc (one_of maker d) (joined maker (take i ds)) (one_of maker (get_or ds i e)), joined_cons maker d (take i ds))

-- no more of the first `i` deaths join than of all
pub joined_part : (maker : ℕ) (ds : List Death) (i : ℕ) (e : Death) → i < length ds →
    length (joined maker (take i ds)) + length (one_of maker (get_or ds i e)) ≤ length (joined maker ds)
joined_part maker [] i e lt = absurd (omega arith)
joined_part maker (d ∷ ds) zero e lt =
    let l = ap length (joined_cons maker d ds) ∙ length-append (one_of maker d) (joined maker ds) in
    omega arith
joined_part maker (d ∷ ds) (suc i) e lt =
    let l = ap length (joined_cons maker d ds) ∙ length-append (one_of maker d) (joined maker ds) in
    let k = ap length (joined_cons maker d (take i ds)) ∙ length-append (one_of maker d) (joined maker (take i ds)) in
    let h = joined_part maker ds i e (omega arith) in
    omega (arith, l, k, h)

-- a finaliser that isn't nil joins its maker's queue and no other
pub own_joins : (d : Death) → d.finaliser ≢ 1 → one_of d.weak.maker d ≡ d.finaliser ∷ []
own_joins d ne =
    elim (eqb_tells d.weak.maker d.weak.maker) [
      | inl a ↦ elim (eqb_tells d.finaliser 1) [
        | inl b ↦ absurd (ne b.1)
        | inr b ↦ rw (a.0, b.0) refl
      ]
      | inr a ↦ absurd (a.1 refl)
    ]

pub others_none : (maker : ℕ) (d : Death) → d.weak.maker ≢ maker → one_of maker d ≡ []
others_none maker d ne = elim (eqb_tells d.weak.maker maker) [
  | inl a ↦ absurd (ne a.1)
  | inr a ↦ rw a.0 refl
]

pub nil_none : (maker : ℕ) (d : Death) → d.finaliser ≡ 1 → one_of maker d ≡ []
nil_none maker d e = elim (eqb_tells d.weak.maker maker) [
  | inl a ↦ elim (eqb_tells d.finaliser 1) [
    | inl b ↦ rw (a.0, b.0) refl
    | inr b ↦ absurd (b.1 e)
  ]
  | inr a ↦ rw a.0 refl
]

more_words : (before after : FinQueue) (words more all : List ℕ) → Joins before after words → more ≡ [] → all ≡ words ++ more → Joins before after all
more_words before after words more all h none is =
    let same : all ≡ words = is ∙ ap (λ (l : List ℕ). words ++ l) none ∙ append-nil words in
    record {
      words_are = h.words_are ∙ ap (λ (l : List ℕ). before.words ++ l) (sym same);
      spare = subst (λ (l : List ℕ). after.spare + length l ≡ before.spare) (sym same) h.spare;
    }

one_word : (before between after : FinQueue) (words all : List ℕ) (w : ℕ) → Joins before between words → all ≡ words ++ w ∷ [] →
    after.words ≡ between.words ++ w ∷ [] → after.spare + 1 ≡ between.spare → Joins before after all
one_word before between after words all w h is added spare =
    let l = ap length is ∙ length-append words (w ∷ []) in
    let s = h.spare in
    record { words_are = cc (added, h.words_are, append_assoc before.words words (w ∷ []), is); spare = omega (arith, l, s) }

pub get_default : {A : Type 0} (xs : List A) (i : ℕ) (d : A) → i < length xs → slice_get xs i ≡ Some (get_or xs i d)
get_default [] i d lt = absurd (omega arith)
get_default (y ∷ ys) zero d lt = refl
get_default (y ∷ ys) (suc i) d lt = get_default ys i d (omega arith)

module _ (ds : List Death) (i : ℕ) (e : Death) (old now : List FinQueue) (lt : i < length ds) (h : AllJoin (take i ds) old now) where
  abbrev d : Death
  d = get_or ds i e

  -- nil joins no queue
  pub nil_joins : d.finaliser ≡ 1 → AllJoin (take (i + 1) ds) old now
  nil_joins nil = (
    h.0,
    λ maker before is. let a = h.1 maker before is in (
      a.0,
      a.1,
      more_words before a.0 (joined maker (take i ds)) (one_of maker d) (joined maker (take (i + 1) ds)) a.2 (nil_none maker d nil)
          (joined_more maker ds i e lt),
    ),
  )

  -- any other joins its maker's queue
  pub one_joins : (q r : FinQueue) → d.finaliser ≢ 1 → slice_get now d.weak.maker ≡ Some q → r.words ≡ q.words ++ d.finaliser ∷ [] →
      r.spare + 1 ≡ q.spare → AllJoin (take (i + 1) ds) old (set now d.weak.maker r)
  one_joins q r ne here words spare = (length-set now d.weak.maker r ∙ h.0, λ maker before is. by_maker maker before is (h.1 maker before is))
    where
      by_maker : (maker : ℕ) (before : FinQueue) → slice_get old maker ≡ Some before → (after : FinQueue) × (slice_get now maker ≡ Some after) ×
          Joins before after (joined maker (take i ds)) → (after : FinQueue) × (slice_get (set now d.weak.maker r) maker ≡ Some after) ×
          Joins before after (joined maker (take (i + 1) ds))
      by_maker maker before is a = elim (cases_eq maker d.weak.maker) [
        | inl same ↦
            let both : Some a.0 ≡ Some q = sym a.1 ∙ ap (λ (m : ℕ). slice_get now m) same ∙ here in
            let eq : a.0 ≡ q = cc in
            let all : joined maker (take (i + 1) ds) ≡ joined maker (take i ds) ++ d.finaliser ∷ [] = cc (joined_more maker ds i e lt, same, own_joins d ne) in
            let within : d.weak.maker < length now = get_within now d.weak.maker q here in (
              r,
              ap (λ (m : ℕ). slice_get (set now d.weak.maker r) m) same ∙ slice_get-set_same now d.weak.maker r within,
              one_word before a.0 r (joined maker (take i ds)) (joined maker (take (i + 1) ds)) d.finaliser a.2 all (cc (words, eq)) (cc (spare, eq)),
            )
        | inr other ↦ (
          a.0,
          slice_get-set_other now d.weak.maker maker r other ∙ a.1,
          more_words before a.0 (joined maker (take i ds)) (one_of maker d) (joined maker (take (i + 1) ds)) a.2 (others_none maker d (λ x.
              other (sym x))) (joined_more maker ds i e lt),
        )
      ]

  -- there is room for it
  pub has_room : HaveRoom ds old → (q : FinQueue) → d.finaliser ≢ 1 → slice_get now d.weak.maker ≡ Some q → 0 < q.spare
  has_room room q ne here =
      let within : d.weak.maker < length now = get_within now d.weak.maker q here in
      let len : length now ≡ length old = h.0 in
      let b = get_at old d.weak.maker (omega arith) in
      let a = h.1 d.weak.maker b.0 b.1 in
      let both : Some a.0 ≡ Some q = sym a.1 ∙ here in
      let eq : a.0 ≡ q = cc in
      let most = room.room d.weak.maker b.0 b.1 in
      let part = joined_part d.weak.maker ds i e lt in
      let one = ap length (own_joins d ne) in
      let spare = a.2.spare in
      let s : a.0.spare ≡ q.spare = ap (λ (x : FinQueue). x.spare) eq in
      omega (arith, most, part, one, spare, s)

pub none_join : (old : List FinQueue) → AllJoin [] old old
none_join old = (refl, λ maker before is. (before, is, record { words_are = sym (append-nil before.words); spare = omega arith }))

module _ {M : Type 0} (queue : M → FinQueue) (with_queue : M → FinQueue → M) where
  -- no death, no change
  pub none_joined : ((m : M) → with_queue m (queue m) ≡ m) → (old : List M) → HaveJoined queue with_queue [] old old
  none_joined same old = record { joined = none_join (map queue old); rest = λ k m is. (queue m, is ∙ ap (λ (x : M). Some x) (sym (same m))) }

  pub joined_count : (ds : List Death) (old now : List M) → HaveJoined queue with_queue ds old now → length now ≡ length old
  joined_count ds old now h = sym (length-map now queue) ∙ h.joined.0 ∙ length-map old queue

  -- the queue of a mutator
  pub queue_at : (now : List M) (k : ℕ) (m : M) → slice_get now k ≡ Some m → slice_get (map queue now) k ≡ Some (queue m)
  queue_at now k m here = slice_get-map queue now k ∙ ap (option_map queue) here

  module _ (ds : List Death) (i : ℕ) (e : Death) (old now : List M) (lt : i < length ds) (h : HaveJoined queue with_queue (take i ds) old now) where
    -- nil joins no queue
    pub nil_stays : (get_or ds i e).finaliser ≡ 1 → HaveJoined queue with_queue (take (i + 1) ds) old now
    nil_stays nil = record { joined = nil_joins ds i e (map queue old) (map queue now) lt h.joined nil; rest = h.rest }

    -- any other joins the queue of its maker, and only that queue of the mutator changes
    pub one_joined : ((m : M) (q : FinQueue) → queue (with_queue m q) ≡ q) →
        ((m : M) (q r : FinQueue) → with_queue (with_queue m q) r ≡ with_queue m r) → (m : M) (r : FinQueue) → (get_or ds i e).finaliser ≢ 1 →
        slice_get now (get_or ds i e).weak.maker ≡ Some m → r.words ≡ (queue m).words ++ (get_or ds i e).finaliser ∷ [] →
        r.spare + 1 ≡ (queue m).spare → HaveJoined queue with_queue (take (i + 1) ds) old (set now (get_or ds i e).weak.maker (with_queue m r))
    one_joined own last m r ne here words spare = record {
      joined = rw (map-set queue now maker (with_queue m r) ∙ ap (λ (q : FinQueue). set (map queue now) maker q) (own m r)) (one_joins ds i e (map queue old) (map queue now) lt h.joined (queue m) r ne (queue_at now maker m here) words spare);
      rest = λ k before is. by_maker k before (h.rest k before is);
    }
      where
        maker : ℕ
        maker = (get_or ds i e).weak.maker

        by_maker : (k : ℕ) (before : M) → (q : FinQueue) × (slice_get now k ≡ Some (with_queue before q)) → (q : FinQueue) ×
            (slice_get (set now maker (with_queue m r)) k ≡ Some (with_queue before q))
        by_maker k before a = elim (cases_eq k maker) [
          | inl same ↦
              let both : Some m ≡ Some (with_queue before a.0) = sym here ∙ ap (λ (n : ℕ). slice_get now n) (sym same) ∙ a.1 in
              let eq : m ≡ with_queue before a.0 = cc in
              let within : maker < length now = get_within now maker m here in (
                r,
                cc (same, slice_get-set_same now maker (with_queue m r) within, eq, last before a.0 r),
              )
          | inr other ↦ (a.0, slice_get-set_other now maker k (with_queue m r) other ∙ a.1)
        ]
