-- The effects of trying to claim, and the facts that it keeps.
use Rattle.std.proofs.{Common.◌≡◌, Common.◌≢◌, Common.◌<◌, Common.◌≤◌, Common.◌+◌, Common.◌*◌, Common.◌%◌, Common.ℕ, Common.zero, Common.suc, Common.true, Common.false, Common.List, Common.[], Common.◌∷◌, Common.◌++◌, Common.length, Common.inl, Common.inr, Common.refl, Common.sym, Common.ap, Common.subst, Common.◌∙◌, Common.arith, Common.◌⊎◌, Common.append_assoc, Common.append-nil, Common.length-append, lemmas.Bool.cases_eq, lemmas.List.length-map, lemmas.List.Elements.Contains-append_left, lemmas.List.Elements.Contains-push, lemmas.List.Elements.Contains-push_cases}
use Rattle.std.specs.Prelude.{Contains, slice_index}
use Rattle.nmgc_lists.specs.laws.Items.{contains_head, contains_tail, contains_cases, nothing_in as nothing}
use Rattle.nmgc_object.specs.{declared.words.Address.Address, declared.layout.TheConstants.FIRST_PLACE}
use Rattle.nmgc_stop_spec.specs.Strong.{IsAmong}
use Rattle.nmgc_pmark.specs.{declared.table.ClaimTable.ClaimTable, declared.marker.Marker.Marker, Seat.seen, Seat.bounds_of, Seat.IsAt, Found.block_index, Found.blocks_of, Marker.AreDistinct, Marker.IsSound, Marker.IsTaken, Marker.HasTried, Marker.IsOwnStart, View.Part, View.ClaimsSeen, View.claiming, View.first_changed, View.tried, View.claimed_in, View.claimed_by}

-- numbers without doubles

pub distinct_push : (xs : List ℕ) (x : ℕ) → AreDistinct xs → (Contains xs x → ⊥) → AreDistinct (xs ++ x ∷ [])
distinct_push [] x once not = (nothing x, tt)
distinct_push (y ∷ xs) x once not = (
  λ c. elim (Contains-push_cases xs x y c) [
    | inl d ↦ once.0 d
    | inr e ↦ not (subst (λ (n : ℕ). Contains (y ∷ xs) n) (sym e) (contains_head y xs))
  ],
  distinct_push xs x once.1 (λ c. not (contains_tail y xs x c)),
)

-- the list without a number
record IsWithout (n : ℕ) (xs ys : List ℕ) : Type 0 where
  long : length xs ≤ length ys + 1
  once : AreDistinct ys
  from : (b : ℕ) → Contains ys b → Contains xs b
  not : (b : ℕ) → Contains ys b → b ≢ n

without : (n : ℕ) (xs : List ℕ) → AreDistinct xs → (ys : List ℕ) × IsWithout n xs ys
without n [] once = ([], record { long = omega arith; once = tt; from = λ b c. c; not = λ b c. absurd (nothing b c) })
without n (x ∷ xs) once = elim (cases_eq x n) [
  | inl same ↦ (
    xs,
    record {
      long = omega arith;
      once = once.1;
      from = λ b c. contains_tail x xs b c;
      not = λ b c e. once.0 (subst (λ (k : ℕ). Contains xs k) (e ∙ sym same) c);
    },
  )
  | inr other ↦
      let rest : (ys : List ℕ) × IsWithout n xs ys = without n xs once.1 in
      let r : IsWithout n xs rest.0 = rest.1 in
      let long = r.long in (
        x ∷ rest.0,
        record {
          long = omega arith;
          once = (λ c. once.0 (r.from x c), r.once);
          from = λ b c. elim (contains_cases x rest.0 b c) [
            | inl e ↦ subst (λ (k : ℕ). Contains (x ∷ xs) k) e (contains_head x xs)
            | inr d ↦ contains_tail x xs b (r.from b d)
          ];
          not = λ b c. elim (contains_cases x rest.0 b c) [ inl e ↦ λ f. other (e ∙ f) | inr d ↦ r.not b d ];
        },
      )
]

-- numbers below n, each once, are at most n
pub few : (n : ℕ) (xs : List ℕ) → AreDistinct xs → ((b : ℕ) → Contains xs b → b < n) → length xs ≤ n
few zero [] once below = omega arith
few zero (x ∷ xs) once below = let h = below x (contains_head x xs) in absurd (omega (arith, h))
few (suc n) xs once below =
    let w : (ys : List ℕ) × IsWithout n xs ys = without n xs once in
    let r : IsWithout n xs w.0 = w.1 in
    let long = r.long in
    let rest = few n w.0 r.once (λ b c. let lt = below b (r.from b c) in let ne = r.not b c in omega (arith, lt, ne)) in
    omega (arith, long, rest)

pub blocks_snoc : (xs : List Address) (x : Address) → blocks_of (xs ++ x ∷ []) ≡ blocks_of xs ++ block_index x.0 ∷ []
blocks_snoc [] x = refl
blocks_snoc (y ∷ xs) x = ap (λ (l : List ℕ). block_index y.0 ∷ l) (blocks_snoc xs x)

abbrev one_part : ℕ × List ℕ → List Part
one_part y = record { number = y.0; claimed = y.1 } ∷ []

module _ (t : ClaimTable) where
  -- nothing to try
  pub tried_none : (m : Marker) (Given : ℕ → Type 0) → IsSound t m → ((at : ℕ) → FIRST_PLACE ≤ at → Given (2 * at) → IsTaken m (block_index at)) →
      HasTried t m m Given
  tried_none m Given h has = record {
    sound = h;
    number = refl;
    more = ([], sym (append-nil m.found.items));
    waits = sym (append-nil m.waiting.items);
    kept = λ b i. i;
    given = λ at i. inl i;
    taken = has;
    conserved = refl;
  }

  -- two tries in order
  pub tried_then : (a b c : Marker) (P Q R : ℕ → Type 0) → HasTried t a b P → HasTried t b c Q → ((w : ℕ) → P w → R w) → ((w : ℕ) → Q w → R w) →
      ((w : ℕ) → R w → P w ⊎ Q w) → HasTried t a c R
  tried_then a b c P Q R f g left right both = record {
    sound = g.sound;
    number = g.number ∙ f.number;
    more = (f.more.0 ++ g.more.0, g.more.1 ∙ ap (λ (xs : List Address). xs ++ g.more.0) f.more.1 ∙ append_assoc a.found.items f.more.0 g.more.0);
    waits = g.waits ∙ ap (λ (xs : List Address). xs ++ g.more.0) f.waits ∙ append_assoc a.waiting.items f.more.0 g.more.0;
    kept = λ k i. g.kept k (f.kept k i);
    given = λ at i. elim (g.given at i) [
      | inl j ↦ elim (f.given at j) [ inl k ↦ inl k | inr k ↦ inr (k.0, left (2 * at) k.1) ]
      | inr j ↦ inr (j.0, right (2 * at) j.1)
    ];
    taken = λ at l r. elim (both (2 * at) r) [ inl p ↦ g.kept (block_index at) (f.taken at l p) | inr q ↦ g.taken at l q ];
    conserved = g.conserved ∙ f.conserved;
  }

  -- the same words, defined in another way
  pub tried_as : (a b : Marker) (P R : ℕ → Type 0) → HasTried t a b P → ((w : ℕ) → P w → R w) → ((w : ℕ) → R w → P w) → HasTried t a b R
  tried_as a b P R f to from = record {
    sound = f.sound;
    number = f.number;
    more = f.more;
    waits = f.waits;
    kept = f.kept;
    given = λ at i. elim (f.given at i) [ inl k ↦ inl k | inr k ↦ inr (k.0, to (2 * at) k.1) ];
    taken = λ at l r. f.taken at l (from (2 * at) r);
    conserved = f.conserved;
  }

  module _ (m n : Marker) (at : ℕ) (h : IsSound t m) (above : FIRST_PLACE ≤ at) (within : block_index at < (bounds_of t).blocks)
      (seat : IsAt t n.seat) (number : n.number ≡ m.number) where
    own : claimed_by (seen m.seat) ≡ blocks_of m.found.items
    own = ap claimed_in h.alone

    -- there is room for a block that the marker doesn't have
    pub has_room : (Contains (claimed_by (seen m.seat)) (block_index at) → ⊥) → 0 < m.found.spare
    has_room fresh =
        let all = few (bounds_of t).blocks (blocks_of m.found.items ++ block_index at ∷ [])
        (distinct_push (blocks_of m.found.items) (block_index at) h.once (λ c. fresh (subst (λ (l : List ℕ). Contains l (block_index at)) (sym own) c)))
        (λ b c. elim (Contains-push_cases (blocks_of m.found.items) (block_index at) b c) [
          | inl d ↦ h.below b d
          | inr e ↦
              subst (λ (k : ℕ). k < (bounds_of t).blocks) e within
        ])
        in
        let long = length-append (blocks_of m.found.items) (block_index at ∷ []) in
        let same = length-map m.found.items (λ (a : Address). block_index a.0) in
        let room = h.room in
        omega (arith, all, long, same, room)

    -- and in the list of waiting objects too, since that isn't longer
    pub has_waiting_room : (Contains (claimed_by (seen m.seat)) (block_index at) → ⊥) → 0 < m.waiting.spare
    has_waiting_room fresh =
        let all = few (bounds_of t).blocks (blocks_of m.found.items ++ block_index at ∷ [])
        (distinct_push (blocks_of m.found.items) (block_index at) h.once (λ c. fresh (subst (λ (l : List ℕ). Contains l (block_index at)) (sym own) c)))
        (λ b c. elim (Contains-push_cases (blocks_of m.found.items) (block_index at) b c) [
          | inl d ↦ h.below b d
          | inr e ↦ subst (λ (k : ℕ). k < (bounds_of t).blocks) e within
        ])
        in
        let long = length-append (blocks_of m.found.items) (block_index at ∷ []) in
        let same = length-map m.found.items (λ (a : Address). block_index a.0) in
        let room = h.waiting_room in
        let fewer = h.fewer in
        omega (arith, all, long, same, room, fewer)

    -- the block is the marker's now
    pub tried_claimed : (Contains (claimed_by (seen m.seat)) (block_index at) → ⊥) → seen n.seat ≡ tried (seen m.seat) (block_index at) true →
        n.found.items ≡ m.found.items ++ record { 0 = at } ∷ [] → n.found.spare + 1 ≡ m.found.spare →
        n.waiting.items ≡ m.waiting.items ++ record { 0 = at } ∷ [] → n.waiting.spare + 1 ≡ m.waiting.spare → HasTried t m n (λ w. w ≡ 2 * at)
    tried_claimed fresh view found spare waiting left =
        let new : Address = record { 0 = at } in
        let b : ℕ = block_index at in
        let blocks : blocks_of n.found.items ≡ blocks_of m.found.items ++ b ∷ [] = ap (λ (xs : List Address). blocks_of xs) found ∙
        blocks_snoc m.found.items new in
        let longer : length n.found.items ≡ length m.found.items + 1 = let e = ap (λ (xs : List Address). length xs) found in
        let f = length-append m.found.items (new ∷ []) in omega (arith, e, f) in
        let also : length n.waiting.items ≡ length m.waiting.items + 1 = let e = ap (λ (xs : List Address). length xs) waiting in
        let f = length-append m.waiting.items (new ∷ []) in omega (arith, e, f) in
        let here : Contains (blocks_of n.found.items) b = subst (λ (l : List ℕ). Contains l b) (sym blocks) (Contains-push (blocks_of m.found.items) b) in
        record {
          sound = record {
            seat = seat;
            alone = ap (λ (v : ClaimsSeen). v.parts) view ∙ ap (first_changed (claiming b)) h.alone ∙ ap one_part (λ i. (sym number i, sym blocks i));
            once = subst (λ (l : List ℕ). AreDistinct l) (sym blocks) (distinct_push (blocks_of m.found.items) b h.once (λ c.
                fresh (subst (λ (l : List ℕ). Contains l b) (sym own) c)));
            below = λ k c. elim (Contains-push_cases (blocks_of m.found.items) b k (subst (λ (l : List ℕ). Contains l k) blocks c)) [
              | inl d ↦ h.below k d
              | inr e ↦ subst (λ (j : ℕ). j < (bounds_of t).blocks) e within
            ];
            room = let r = h.room in omega (arith, r, longer, spare);
            fewer = let r = h.fewer in omega (arith, r, longer, also);
            waiting_room = let r = h.waiting_room in omega (arith, r, also, left);
          };
          number = number;
          more = (new ∷ [], found);
          waits = waiting;
          kept = λ k i. elim i [
            | inl d ↦ inl (subst (λ (l : List ℕ). Contains l k) (sym blocks) (Contains-append_left (blocks_of m.found.items) (b ∷ []) k d))
            | inr d ↦ inr (subst (λ (v : ClaimsSeen). Contains v.others k) (sym view) d)
          ];
          given = λ a c. elim (Contains-push_cases m.found.items new (record { 0 = a }) (subst (λ (xs : List Address).
              Contains xs (record { 0 = a })) found c)) [
                | inl old ↦ inl old
                | inr e ↦ let s : at ≡ a = ap (λ (x : Address). x.0) e in inr (omega (arith, s, above), omega (arith, s))
              ];
          taken = λ a l e. let s : at ≡ a = omega (arith, e) in inl (subst (λ (j : ℕ). Contains (blocks_of n.found.items) (block_index j)) s here);
          conserved = omega (arith, longer, spare);
        }

    -- the block is claimed already
    pub tried_refused : seen n.seat ≡ tried (seen m.seat) (block_index at) false → n.found ≡ m.found → n.waiting ≡ m.waiting → HasTried t m n (λ w. w ≡ 2 * at)
    tried_refused view same still =
        let b : ℕ = block_index at in
        let items : n.found.items ≡ m.found.items = ap (λ f. f.items) same in
        let spares : n.found.spare ≡ m.found.spare = ap (λ f. f.spare) same in
        let longs : length n.found.items ≡ length m.found.items = ap (λ (xs : List Address). length xs) items in
        let wait : n.waiting.items ≡ m.waiting.items = ap (λ f. f.items) still in
        let waits : length n.waiting.items ≡ length m.waiting.items = ap (λ (xs : List Address). length xs) wait in
        let lefts : n.waiting.spare ≡ m.waiting.spare = ap (λ f. f.spare) still in
        record {
          sound = record {
            seat = seat;
            alone = ap (λ (v : ClaimsSeen). v.parts) view ∙ h.alone ∙ ap one_part (λ i. (sym number i, blocks_of (sym items i)));
            once = subst (λ (xs : List Address). AreDistinct (blocks_of xs)) (sym items) h.once;
            below = λ k c. h.below k (subst (λ (xs : List Address). Contains (blocks_of xs) k) items c);
            room = let r = h.room in omega (arith, r, longs, spares);
            fewer = let r = h.fewer in omega (arith, r, longs, waits);
            waiting_room = let r = h.waiting_room in omega (arith, r, waits, lefts);
          };
          number = number;
          more = ([], items ∙ sym (append-nil m.found.items));
          waits = wait ∙ sym (append-nil m.waiting.items);
          kept = λ k i. elim i [
            | inl d ↦ inl (subst (λ (xs : List Address). Contains (blocks_of xs) k) (sym items) d)
            | inr d ↦ inr (subst (λ (v : ClaimsSeen). Contains v.others k) (sym view) (Contains-append_left (seen m.seat).others (b ∷ []) k d))
          ];
          given = λ a c. inl (subst (λ (xs : List Address). Contains xs (record { 0 = a })) items c);
          taken = λ a l e. let s : at ≡ a = omega (arith, e) in
              inr (subst (λ (j : ℕ). Contains (seen n.seat).others (block_index j)) s (subst (λ (v : ClaimsSeen).
              Contains v.others b) (sym view) (Contains-push (seen m.seat).others b)));
          conserved = omega (arith, longs, spares);
        }

-- the starting words up to a position, and the next one
pub own_none : (t : ClaimTable) (m : Marker) (starts : List ℕ) (markers number : ℕ) → IsSound t m → HasTried t m m (IsOwnStart starts markers number 0)
own_none t m starts markers number h = tried_none t m (IsOwnStart starts markers number 0) h (λ at l i. absurd (omega (arith, i.1)))

pub own_more : (t : ClaimTable) (a b c : Marker) (starts : List ℕ) (markers number i w : ℕ) → i % markers ≡ number → slice_index starts i ≡ w →
    HasTried t a b (IsOwnStart starts markers number i) → HasTried t b c (λ x. x ≡ w) → HasTried t a c (IsOwnStart starts markers number (i + 1))
own_more t a b c starts markers number i w mine read f g =
    tried_then t a b c (IsOwnStart starts markers number i) (λ x. x ≡ w) (IsOwnStart starts markers number (i + 1)) f g
    (λ x h. (h.0, omega (arith, h.1), h.2, h.3))
    (λ x q. (i, omega arith, mine, read ∙ sym q))
    (λ x r. elim (cases_eq r.0 i) [
      | inl e ↦ inr (sym r.3 ∙ ap (λ (k : ℕ). slice_index starts k) e ∙ read)
      | inr ne ↦ inl (r.0, omega (arith, r.1, ne), r.2, r.3)
    ])

pub own_skip : (t : ClaimTable) (a b : Marker) (starts : List ℕ) (markers number i : ℕ) → i % markers ≢ number →
    HasTried t a b (IsOwnStart starts markers number i) → HasTried t a b (IsOwnStart starts markers number (i + 1))
own_skip t a b starts markers number i other f =
    tried_as t a b (IsOwnStart starts markers number i) (IsOwnStart starts markers number (i + 1)) f
    (λ x h. (h.0, omega (arith, h.1), h.2, h.3))
    (λ x r. elim (cases_eq r.0 i) [
      | inl e ↦ absurd (other (ap (λ (k : ℕ). k % markers) (sym e) ∙ r.2))
      | inr ne ↦ (r.0, omega (arith, r.1, ne), r.2, r.3)
    ])

-- the words from one address up to another, in order
pub among_none : (t : ClaimTable) (m : Marker) (words : List ℕ) (from : ℕ) → IsSound t m → HasTried t m m (IsAmong words from from)
among_none t m words from h = tried_none t m (IsAmong words from from) h (λ at l i. absurd (omega (arith, i.1, i.2)))

pub among_more : (t : ClaimTable) (a b c : Marker) (words : List ℕ) (from i w : ℕ) → from ≤ i → w ≡ slice_index words i →
    HasTried t a b (IsAmong words from i) → HasTried t b c (λ x. x ≡ w) → HasTried t a c (IsAmong words from (i + 1))
among_more t a b c words from i w low read f g =
    tried_then t a b c (IsAmong words from i) (λ x. x ≡ w) (IsAmong words from (i + 1)) f g
    (λ x h. (h.0, h.1, omega (arith, h.2), h.3))
    (λ x q. (i, low, omega arith, sym read ∙ sym q))
    (λ x r. elim (cases_eq r.0 i) [
      | inl e ↦ inr (sym r.3 ∙ ap (λ (k : ℕ). slice_index words k) e ∙ sym read)
      | inr ne ↦ inl (r.0, r.1, omega (arith, r.2, ne), r.3)
    ])
