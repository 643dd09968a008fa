-- Forwarding words by a table, and copying objects.
use Rattle.std.proofs.{Common.◌≡◌, Common.◌≢◌, Common.◌<◌, Common.◌≤◌, Common.◌+◌, Common.◌-◌, Common.◌*◌, Common.◌/◌, Common.◌%◌, Common.ℕ, Common.List, Common.[], Common.◌∷◌, Common.◌++◌, Common.length, Common.set, Common.map, Common.take, Common.drop, Common.inl, Common.inr, Common.refl, Common.sym, Common.ap, Common.subst, Common.◌∙◌, Common.arith, Common.◌⊎◌, Common.true, Common.false, Common.eqb, Common.get_or, Math.ListN.length-set, lemmas.Bool.cases_lt, lemmas.Bool.cases_eq, lemmas.Bool.cases_Bool, lemmas.Bool.eq-eqb, lemmas.Bool.ne_eqb, lemmas.List.get_or-set_same, lemmas.List.get_or-set_other, lemmas.List.take_more, lemmas.List.take-append-drop, lemmas.List.Elements.Contains-append_left, lemmas.List.Elements.Contains-push, lemmas.List.Elements.Contains-push_cases, lemmas.List.Elements.Contains-get_or}
use Rattle.std.specs.Prelude.{Contains, slice_index, nat_le}
use Rattle.nmgc_lists.specs.laws.Items.{contains_head, contains_tail}
use Rattle.nmgc_object.specs.{FinQueue.ArePointersBelow, declared.words.Address.Address, Words.header_word, Words.IsHeader, declared.words.Header.Header, declared.size.TheConstants.HEADER_WORDS, declared.words.TheConstants.NIL_WORD, declared.words.TheConstants.ZERO_WORD}
use Rattle.nmgc_heap_spec.specs.Moves.{Moved, Copies, Forwards}
use Rattle.nmgc_minor.specs.{declared.placing.Move.Move, Placing.HasHeaderWord, Forwarding.forward_word, Forwarding.ForwardsAt, Forwarding.CopiesFields, Forwarding.CopiesObject, Forwarding.CanCopyAll, Forwarding.CopiesAll}
use Rattle.nmgc_stop_spec.specs.Strong.{HasHeader}

-- whether a number is at most another
at_most_or : (a b : ℕ) → ((nat_le a b ≡ true) × (a ≤ b)) ⊎ ((nat_le a b ≡ false) × (b < a))
at_most_or a b = elim (cases_lt b a) [
  | inl lt ↦ inr (grind (arith, lt), lt)
  | inr ge ↦ inl (grind (arith, ge), ge)
]

module _ (table : List ℕ) (base : ℕ) where
  pub odd_stays : (word : ℕ) → word % 2 ≡ 1 → forward_word table base word ≡ word
  odd_stays word e = let b : eqb (word % 2) 0 ≡ false = ne_eqb (word % 2) 0 (λ z. omega (arith, z, e)) in rw b refl

  low_stays : (at : ℕ) → at < base → forward_word table base (2 * at) ≡ 2 * at
  low_stays at l =
      let even : eqb (2 * at % 2) 0 ≡ true = eq-eqb (2 * at % 2) 0 (omega arith) in
      let half : 2 * at / 2 ≡ at = omega arith in
      elim (at_most_or base (2 * at / 2)) [
        | inl h ↦ absurd (omega (arith, h.1, half, l))
        | inr h ↦ rw (even, h.0) refl
      ]

  high_goes : (at to : ℕ) → base ≤ at → slice_index table (at - base) ≡ to → to ≢ 0 → forward_word table base (2 * at) ≡ 2 * to
  high_goes at to l e ne =
      let even : eqb (2 * at % 2) 0 ≡ true = eq-eqb (2 * at % 2) 0 (omega arith) in
      let half : 2 * at / 2 ≡ at = omega arith in
      let set : eqb to 0 ≡ false = ne_eqb to 0 ne in
      elim (at_most_or base (2 * at / 2)) [
        | inl h ↦ rw (even, h.0, half, e, set) refl
        | inr h ↦ absurd (omega (arith, h.1, half, l))
      ]

  unset_stays : (at : ℕ) → base ≤ at → slice_index table (at - base) ≡ 0 → forward_word table base (2 * at) ≡ 2 * at
  unset_stays at l e =
      let even : eqb (2 * at % 2) 0 ≡ true = eq-eqb (2 * at % 2) 0 (omega arith) in
      let half : 2 * at / 2 ≡ at = omega arith in
      elim (at_most_or base (2 * at / 2)) [
        | inl h ↦ rw (even, h.0, half, e) refl
        | inr h ↦ absurd (omega (arith, h.1, half, l))
      ]

  -- the same for a word, by the address in it
  pub word_low : (word at : ℕ) → word ≡ 2 * at → at < base → word ≡ forward_word table base word
  word_low word at is l = is ∙ sym (low_stays at l) ∙ ap (λ (w : ℕ). forward_word table base w) (sym is)

  pub word_unset : (word at : ℕ) → word ≡ 2 * at → base ≤ at → slice_index table (at - base) ≡ 0 → word ≡ forward_word table base word
  word_unset word at is l e = is ∙ sym (unset_stays at l e) ∙ ap (λ (w : ℕ). forward_word table base w) (sym is)

  pub word_moved : (word at to : ℕ) → word ≡ 2 * at → base ≤ at → slice_index table (at - base) ≡ to → to ≢ 0 → 2 * to ≡ forward_word table base word
  word_moved word at to is l e ne = sym (high_goes at to l e ne) ∙ ap (λ (w : ℕ). forward_word table base w) (sym is)

  -- words without pointers into the nurseries stay
  pub low_words : (words : List ℕ) → ArePointersBelow words base → map (forward_word table base) words ≡ words
  low_words [] h = refl
  low_words (w ∷ ws) h = ap (λ x. x ∷ map (forward_word table base) ws) first ∙ ap (λ (l : List ℕ). w ∷ l) (low_words ws (λ x c even.
      h x (contains_tail w ws x c) even))
    where
      first : forward_word table base w ≡ w
      first = elim (cases_eq (w % 2) 0) [
        | inl even ↦ let low = h w (contains_head w ws) even in sym (word_low w (w / 2) (omega (arith, even)) (omega (arith, low, even)))
        | inr odd ↦ let n : w % 2 ≡ 0 → ⊥ = odd in odd_stays w (omega (arith, n))
      ]

  -- forwarding a forwarded word changes nothing
  pub twice : ((k : ℕ) → slice_index table k < base) → (word : ℕ) → forward_word table base (forward_word table base word) ≡ forward_word table base word
  twice small word = elim (cases_Bool (eqb (word % 2) 0)) [
    | inr odd ↦ let same : forward_word table base word ≡ word = rw odd refl in ap (λ (x : ℕ). forward_word table base x) same
    | inl even ↦ elim (at_most_or base (word / 2)) [
      | inr low ↦ let same : forward_word table base word ≡ word = rw (even, low.0) refl in ap (λ (x : ℕ). forward_word table base x) same
      | inl high ↦ elim (cases_Bool (eqb (slice_index table (word / 2 - base)) 0)) [
        | inl none ↦ let same : forward_word table base word ≡ word = rw (even, high.0, none) refl in ap (λ (x : ℕ). forward_word table base x) same
        | inr some ↦
            let to = slice_index table (word / 2 - base) in
            let goes : forward_word table base word ≡ 2 * slice_index table (word / 2 - base) = rw (even, high.0, some) refl in
            ap (λ (x : ℕ). forward_word table base x) goes ∙ low_stays (slice_index table (word / 2 - base)) (small (word / 2 - base)) ∙ sym goes
      ]
    ]
  ]

  -- the table forwards to its new addresses
  pub table_forwards : (moves : List Moved) → 1 ≤ base → ((m : Moved) → Contains moves m → (base ≤ m.from) ×
      (slice_index table (m.from - base) ≡ m.to) × (m.to ≢ 0)) → Forwards base moves (forward_word table base)
  table_forwards moves positive entries = record {
    unset = low_stays 0 (omega arith);
    nil = odd_stays NIL_WORD (omega arith);
    number = λ n. odd_stays (2 * n + ZERO_WORD) (omega arith);
    stays = low_stays;
    goes = λ m c. let h = entries m c in high_goes m.from m.to h.0 h.1 h.2;
  }

  -- words forwarded at some addresses, and then at more
  pub forwards_then : (old mid new : List ℕ) (P Q R : ℕ → Type 0) → ((k : ℕ) → slice_index table k < base) →
      ForwardsAt (forward_word table base) old mid P → ForwardsAt (forward_word table base) mid new Q → ((k : ℕ) → P k → R k) → ((k : ℕ) → Q k → R k) →
      ((k : ℕ) → R k → P k ⊎ Q k) → ForwardsAt (forward_word table base) old new R
  forwards_then old mid new P Q R small f g left right cases =
      let forward : ℕ → ℕ = forward_word table base in
      record {
        total = g.total ∙ f.total;
        each = λ k l.
            let within : k < length mid = (let t = f.total in omega (arith, l, t)) in
            elim (f.each k l) [
              | inl p ↦ elim (g.each k within) [
                | inl q ↦ inl (q.0 ∙ ap forward p.0 ∙ twice small (slice_index old k), left k p.1)
                | inr q ↦ inl (q.0 ∙ p.0, left k p.1)
              ]
              | inr p ↦ elim (g.each k within) [
                | inl q ↦ inl (q.0 ∙ ap forward p.0, right k q.1)
                | inr q ↦ inr (q.0 ∙ p.0, λ r. elim (cases k r) [ inl x ↦ p.1 x | inr y ↦ q.1 y ])
              ]
            ];
      }

  -- one more recorded field
  pub recorded_more : (old cur : List ℕ) (xs : List Address) (i : ℕ) (x : Address) → ((k : ℕ) → slice_index table k < base) → i < length xs →
      x ≡ get_or xs i x → x.0 < length cur
      → ForwardsAt (forward_word table base) old cur (λ k. Contains (take i xs) (record { 0 = k }))
      → ForwardsAt (forward_word table base) old (set cur x.0 (forward_word table base (slice_index cur x.0))) (λ k.
      Contains (take (i + 1) xs) (record { 0 = k }))
  recorded_more old cur xs i x small lt read in' f =
      let e : take (i + 1) xs ≡ take i xs ++ x ∷ [] = take_more xs i x lt ∙ ap (λ (y : Address). take i xs ++ y ∷ []) (sym read) in
      let word = forward_word table base (slice_index cur x.0) in
      record {
        total = length-set cur x.0 word ∙ f.total;
        each = λ k l. elim (cases_eq k x.0) [
          | inl s ↦
              let there : Contains (take (i + 1) xs) (record { 0 = k }) =
              subst (λ (ys : List Address). Contains ys (record { 0 = k })) (sym e) (subst (λ (n : ℕ).
              Contains (take i xs ++ x ∷ []) (record { 0 = n })) (sym s) (Contains-push (take i xs) x)) in
              let now : slice_index (set cur x.0 word) k ≡ forward_word table base (slice_index cur k) =
              ap (λ (n : ℕ). slice_index (set cur x.0 word) n) s ∙ get_or-set_same cur x.0 word 0 in' ∙
              ap (λ (n : ℕ). forward_word table base (slice_index cur n)) (sym s) in
              elim (f.each k l) [
                | inl g ↦ inl (now ∙ ap (λ (y : ℕ). forward_word table base y) g.0 ∙ twice small (slice_index old k), there)
                | inr g ↦ inl (now ∙ ap (λ (y : ℕ). forward_word table base y) g.0, there)
              ]
          | inr ne ↦
              let same = get_or-set_other cur x.0 k word 0 ne in
              elim (f.each k l) [
                | inl g ↦ inl (
                  same ∙ g.0,
                  subst (λ (ys : List Address).
                      Contains ys (record { 0 = k })) (sym e) (Contains-append_left (take i xs) (x ∷ []) (record { 0 = k }) g.1),
                )
                | inr g ↦ inr (
                  same ∙ g.0,
                  λ c. elim (Contains-push_cases (take i xs) x (record { 0 = k }) (subst (λ (ys : List Address). Contains ys (record { 0 = k })) e c)) [
                    | inl d ↦ g.1 d
                    | inr d ↦ ne (sym (ap (λ (y : Address). y.0) d))
                  ],
                )
              ]
        ];
      }

-- one more address of a range
pub range_forwarded : (forward : ℕ → ℕ) (old cur : List ℕ) (first i : ℕ) → first ≤ i → i < length cur →
    ForwardsAt forward old cur (λ k. (first ≤ k) × (k < i)) → ForwardsAt forward old (set cur i (forward (slice_index cur i))) (λ k. (first ≤ k) × (k < i + 1))
range_forwarded forward old cur first i low in' f =
    let word = forward (slice_index cur i) in
    record {
      total = length-set cur i word ∙ f.total;
      each = λ k l. elim (cases_eq k i) [
        | inl s ↦
            let was : slice_index cur i ≡ slice_index old i =
            elim (f.each i (let t = f.total in omega (arith, in', t))) [ inl g ↦ absurd (omega (arith, g.1.1)) | inr g ↦ g.0 ] in
            inl (
              ap (λ (n : ℕ). slice_index (set cur i word) n) s ∙ get_or-set_same cur i word 0 in' ∙ ap forward was ∙
                  ap (λ (n : ℕ). forward (slice_index old n)) (sym s),
              (omega (arith, low, s), omega (arith, s)),
            )
        | inr ne ↦
            let same = get_or-set_other cur i k word 0 ne in
            elim (f.each k l) [
              | inl g ↦ inl (same ∙ g.0, (g.1.0, omega (arith, g.1.1)))
              | inr g ↦ inr (same ∙ g.0, λ h. g.1 (h.0, omega (arith, h.1, ne)))
            ]
      ];
    }

-- nothing was forwarded yet
pub none_forwarded : (forward : ℕ → ℕ) (old : List ℕ) (At : ℕ → Type 0) → ((i : ℕ) → At i → ⊥) → ForwardsAt forward old old At
none_forwarded forward old At none = record { total = refl; each = λ i l. inr (refl, none i) }

-- one more field was copied
pub none_copied : (forward : ℕ → ℕ) (old : List ℕ) (from to : ℕ) → CopiesFields forward old old from to 0
none_copied forward old from to = record { total = refl; fields = λ i l. absurd (omega arith); others = λ i h. refl }

pub fields_copied : (forward : ℕ → ℕ) (old cur : List ℕ) (from to i : ℕ) → to + i ≤ from → from + i < length old →
    CopiesFields forward old cur from to i → CopiesFields forward old (set cur (to + i) (forward (slice_index cur (from + i)))) from to (i + 1)
fields_copied forward old cur from to i apart in' f =
    let word = forward (slice_index cur (from + i)) in
    let t = f.total in
    let there : to + i < length cur = omega (arith, t, in', apart) in
    record {
      total = length-set cur (to + i) word ∙ f.total;
      fields = λ k l. elim (cases_eq k i) [
        | inl s ↦ ap (λ (n : ℕ). slice_index (set cur (to + i) word) (to + n)) s ∙ get_or-set_same cur (to + i) word 0 there ∙
            ap forward (f.others (from + i) (inr (omega arith))) ∙ ap (λ (n : ℕ). forward (slice_index old (from + n))) (sym s)
        | inr ne ↦ get_or-set_other cur (to + i) (to + k) word 0 (λ e. ne (omega (arith, e))) ∙ f.fields k (omega (arith, l, ne))
      ];
      others = λ k out.
          let ne : k ≢ to + i = λ e. elim out [ inl low ↦ omega (arith, low, e) | inr high ↦ omega (arith, high, e) ] in
          get_or-set_other cur (to + i) k word 0 ne ∙ f.others k (elim out [ inl low ↦ inl low | inr high ↦ inr (omega (arith, high)) ]);
    }

-- an object is copied when its fields, its header and its name are
pub object_copied : (differ : (a b : Header) → IsHeader a → IsHeader b → header_word a ≡ header_word b → a ≡ b) (forward : ℕ →
    ℕ) (old one two new : List ℕ) (from to count : ℕ) (h : HasHeader old from) → count ≡ h.header.fields → to + HEADER_WORDS + count ≤ from
    → CopiesFields forward old one (from + HEADER_WORDS) (to + HEADER_WORDS) count → two ≡ set one to (slice_index one from) →
    new ≡ set two (to + 1) (slice_index two (from + 1)) → CopiesObject forward old new from to
object_copied differ forward old one two new from to count h fields apart f first second =
    let inside = h.inside in
    let total = f.total in
    let size : length two ≡ length one = ap length first ∙ length-set one to (slice_index one from) in
    let to_in : to < length one = omega (arith, total, inside, apart) in
    let next_in : to + 1 < length two = omega (arith, size, total, inside, apart) in
    let at_two : (k : ℕ) → k ≢ to → slice_index two k ≡ slice_index one k = λ k ne. ap (λ (xs : List ℕ). slice_index xs k) first ∙
    get_or-set_other one to k (slice_index one from) 0 ne in
    let at_new : (k : ℕ) → k ≢ to + 1 → slice_index new k ≡ slice_index two k = λ k ne. ap (λ (xs : List ℕ). slice_index xs k) second ∙
    get_or-set_other two (to + 1) k (slice_index two (from + 1)) 0 ne in
    let header : slice_index new to ≡ slice_index old from = at_new to (λ e. omega (arith, e)) ∙ ap (λ (xs : List ℕ). slice_index xs to) first ∙
    get_or-set_same one to (slice_index one from) 0 to_in ∙ f.others from (inr (omega (arith, apart))) in
    let name : slice_index new (to + 1) ≡ slice_index old (from + 1) = ap (λ (xs : List ℕ). slice_index xs (to + 1)) second ∙
    get_or-set_same two (to + 1) (slice_index two (from + 1)) 0 next_in ∙ at_two (from + 1) (λ e. omega (arith, e, apart)) ∙
    f.others (from + 1) (inr (omega (arith, apart))) in
    let all : (x : Header) → HasHeaderWord old from x → x.fields ≡ count = λ x is.
    ap (λ (y : Header). y.fields) (differ x h.header is.0 h.valid (sym is.1 ∙ h.read)) ∙ sym fields in
    record {
      total = ap length second ∙ length-set two (to + 1) (slice_index two (from + 1)) ∙ size ∙ f.total;
      copied = λ x is. record {
        header = header;
        fields = λ i lt.
            let n = all x is in
            at_new (to + HEADER_WORDS + i) (λ e. omega (arith, e)) ∙ at_two (to + HEADER_WORDS + i) (λ e. omega (arith, e)) ∙ f.fields i (omega (arith, lt, n));
      };
      named = name;
      others = λ i x is out.
          let n = all x is in
          let apart_from : (k : ℕ) → k < HEADER_WORDS + count →
          i ≢ to + k = λ k l e. elim out [ inl low ↦ omega (arith, low, e) | inr high ↦ omega (arith, high, e, l, n) ] in
          let ne : i ≢ to = λ e. apart_from 0 (omega arith) (omega (arith, e)) in
          at_new i (apart_from 1 (omega arith)) ∙ at_two i ne ∙
          f.others i (elim out [ inl low ↦ inl (omega (arith, low)) | inr high ↦ inr (omega (arith, high, n)) ]);
    }

-- the headers of objects still to be copied are unchanged
pub still_header : (base : ℕ) (forward : ℕ → ℕ) (old cur : List ℕ) (all done : List Move) (m : Move) →
    ((x : Move) → Contains done x → Contains all x) → CanCopyAll base old all → CopiesAll forward old cur done → Contains all m → (i : ℕ) →
    base ≤ i → slice_index cur i ≡ slice_index old i
still_header base forward old cur all done m some can f c i l =
    f.others i (λ x header cx h. inr (let b = can.below x header (some x cx) h in omega (arith, b, l)))

pub copy_header : (base : ℕ) (forward : ℕ → ℕ) (old cur : List ℕ) (all done : List Move) (m : Move) →
    ((x : Move) → Contains done x → Contains all x) → CanCopyAll base old all → CopiesAll forward old cur done → Contains all m → HasHeader cur m.from.0
copy_header base forward old cur all done m some can f c =
    let h = can.each m c in
    let o = h.0 in
    let same = still_header base forward old cur all done m some can f c m.from.0 h.1 in
    record { header = o.header; valid = o.valid; read = same ∙ o.read; inside = let e = f.total in let n = o.inside in omega (arith, e, n) }

pub copies_more : (base : ℕ) (forward : ℕ → ℕ) (old cur new : List ℕ) (all : List Move) (i : ℕ) (m : Move) → CanCopyAll base old all →
    i < length all → m ≡ get_or all i m → CopiesAll forward old cur (take i all) → CopiesObject forward cur new m.from.0 m.to.0 →
    CopiesAll forward old new (take (i + 1) all)
copies_more base forward old cur new all i m can lt read f g =
    let e : take (i + 1) all ≡ take i all ++ m ∷ [] = take_more all i m lt ∙ ap (λ (y : Move). take i all ++ y ∷ []) (sym read) in
    let some : (x : Move) → Contains (take i all) x → Contains all x = λ x c. taken_in all i x c in
    let mine : Contains all m = subst (λ (y : Move). Contains all y) (sym read) (Contains-get_or all i m lt) in
    let from = can.each m mine in
    let young : (k : ℕ) → base ≤ k → slice_index cur k ≡ slice_index old k = still_header base forward old cur all (take i all) m some can f mine in
    let header : HasHeaderWord cur m.from.0 from.0.header = (from.0.valid, young m.from.0 from.1 ∙ from.0.read) in
    let this : (h : Header) → HasHeaderWord old m.from.0 h → Copies forward old new m.from.0 m.to.0 h.fields ×
    (slice_index new (m.to.0 + 1) ≡ slice_index old (m.from.0 + 1)) = λ h is.
    let is' : HasHeaderWord cur m.from.0 h = (is.0, young m.from.0 from.1 ∙ is.1) in
    let c = g.copied h is' in (
      record {
        header = c.header ∙ young m.from.0 from.1;
        fields = λ k l. c.fields k l ∙ ap forward (young (m.from.0 + HEADER_WORDS + k) (let b = from.1 in omega (arith, b)));
      },
      g.named ∙ young (m.from.0 + 1) (let b = from.1 in omega (arith, b)),
    ) in
    record {
      total = g.total ∙ f.total;
      copied = λ x h c is. elim (Contains-push_cases (take i all) m x (subst (λ (ys : List Move). Contains ys x) e c)) [
        | inr s ↦ subst (λ (y : Move). Copies forward old new y.from.0 y.to.0 h.fields ×
            (slice_index new (y.to.0 + 1) ≡ slice_index old (y.from.0 + 1))) s (this h (subst (λ (y : Move). HasHeaderWord old y.from.0 h) (sym s) is))
        | inl d ↦ elim (can.apart x m h from.0.header (some x d) mine is (from.0.valid, from.0.read)) [
          | inl s ↦ subst (λ (y : Move). Copies forward old new y.from.0 y.to.0 h.fields ×
              (slice_index new (y.to.0 + 1) ≡ slice_index old (y.from.0 + 1))) (sym s) (this h (subst (λ (y : Move). HasHeaderWord old y.from.0 h) s is))
          | inr apart ↦
              let before = f.copied x h d is in
              let kept : (k : ℕ) → k < HEADER_WORDS + h.fields →
              slice_index new (x.to.0 + k) ≡ slice_index cur (x.to.0 + k) = λ k l.
              g.others (x.to.0 + k) from.0.header header (elim apart [ inl a ↦ inl (omega (arith, a, l)) | inr a ↦ inr (omega (arith, a)) ]) in
              let first : slice_index new x.to.0 ≡ slice_index cur x.to.0 =
              subst (λ (n : ℕ). slice_index new n ≡ slice_index cur n) (let z : x.to.0 + 0 ≡ x.to.0 = omega arith in z) (kept 0 (omega arith)) in (
                record {
                  header = first ∙ before.0.header;
                  fields = λ k l. subst (λ (n : ℕ). slice_index new n ≡
                      slice_index cur n) (let z : x.to.0 + (HEADER_WORDS + k) ≡ x.to.0 + HEADER_WORDS + k = omega arith in
                      z) (kept (HEADER_WORDS + k) (omega (arith, l))) ∙ before.0.fields k l;
                },
                kept 1 (omega arith) ∙ before.1,
              )
        ]
      ];
      others = λ k out.
          let all_before : slice_index cur k ≡ slice_index old k =
          f.others k (λ x h c is. out x h (subst (λ (ys : List Move). Contains ys x) (sym e) (Contains-append_left (take i all) (m ∷ []) x c)) is) in
          let last = out m from.0.header (subst (λ (ys : List Move). Contains ys m) (sym e) (Contains-push (take i all) m)) (from.0.valid, from.0.read) in
          g.others k from.0.header header last ∙ all_before;
    }
  where
    taken_in : (xs : List Move) (n : ℕ) (x : Move) → Contains (take n xs) x → Contains xs x
    taken_in xs n x c = subst (λ (ys : List Move). Contains ys x) (take-append-drop n xs) (Contains-append_left (take n xs) (drop n xs) x c)
