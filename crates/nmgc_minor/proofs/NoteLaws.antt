-- The changes that noting words makes, and the facts it keeps.
use Rattle.std.proofs.{Common.◌≡◌, Common.◌≢◌, Common.◌<◌, Common.◌≤◌, Common.◌+◌, Common.◌-◌, Common.◌*◌, Common.ℕ, Common.List, Common.[], Common.◌∷◌, Common.◌++◌, Common.length, Common.set, Common.take, Common.inl, Common.inr, Common.refl, Common.sym, Common.ap, Common.subst, Common.◌∙◌, Common.arith, Common.◌⊎◌, Common.cond, Common.eqb, Common.count_by, Common.append_assoc, Common.length-append, Math.ListN.length-set, lemmas.Bool.cases_lt, lemmas.Bool.cases_eq, lemmas.List.append-nil, lemmas.List.get_or-set_same, lemmas.List.get_or-set_other, lemmas.List.get_or_append_left, lemmas.List.get_or_default, lemmas.List.take_more, lemmas.List.Sums.sum_by-set, lemmas.List.Elements.Contains-append_left, lemmas.List.Elements.Contains-push, lemmas.List.Elements.Contains-push_cases, lemmas.List.Elements.Contains-get_or}
use Rattle.std.specs.Prelude.{Contains, slice_index, get_or}
use Rattle.nmgc_object.specs.declared.words.Address.{Address}
use Rattle.nmgc_stop_spec.specs.Strong.{HasStrong, IsAmong}
use Rattle.nmgc_minor.specs.{declared.young.Young.Young, declared.young.TheConstants.FOUND, Found.IsFound, Young.IsIn, Young.unfound_count, Young.IsYoung, Young.IsWithin, Young.Notes, Young.PointsIn, Young.CanFollow, Young.Follows, Young.Following}

-- nothing to note
pub notes_none : (y : Young) (Given : ℕ → Type 0) → IsYoung y → ((at : ℕ) → y.base ≤ at → Given (2 * at) → IsIn y at) → Notes y y Given
notes_none y Given h has = record {
  young = h;
  base = refl;
  size = refl;
  more = ([], sym (append-nil y.found.items));
  sound = λ at i. inl i;
  complete = has;
  conserved = refl;
  kept_room = refl;
}

-- one word after the other
pub notes_then : (a b c : Young) (P Q R : ℕ → Type 0) → Notes a b P → Notes b c Q → ((w : ℕ) → P w → R w) → ((w : ℕ) → Q w → R w) →
    ((w : ℕ) → R w → P w ⊎ Q w) → Notes a c R
notes_then a b c P Q R f g left right both = record {
  young = g.young;
  base = g.base ∙ f.base;
  size = g.size ∙ f.size;
  more = (f.more.0 ++ g.more.0, g.more.1 ∙ ap (λ (xs : List Address). xs ++ g.more.0) f.more.1 ∙ append_assoc a.found.items f.more.0 g.more.0);
  sound = λ at i. elim (g.sound at i) [
    | inl j ↦ elim (f.sound at j) [ inl k ↦ inl k | inr k ↦ inr (k.0, left (2 * at) k.1) ]
    | inr j ↦ inr (let e = f.base in omega (arith, e, j.0), right (2 * at) j.1)
  ];
  complete = λ at l r. elim (both (2 * at) r) [
    | inl p ↦ let i = f.complete at l p in subst (λ (xs : List Address).
        Contains xs (record { 0 = at })) (sym g.more.1) (Contains-append_left b.found.items g.more.0 (record { 0 = at }) i)
    | inr q ↦ g.complete at (let e = f.base in omega (arith, e, l)) q
  ];
  conserved = g.conserved ∙ f.conserved;
  kept_room = g.kept_room ∙ f.kept_room;
}

-- the same words under another description
pub notes_as : (a b : Young) (P R : ℕ → Type 0) → Notes a b P → ((w : ℕ) → P w → R w) → ((w : ℕ) → R w → P w) → Notes a b R
notes_as a b P R f to from = record {
  young = f.young;
  base = f.base;
  size = f.size;
  more = f.more;
  sound = λ at i. elim (f.sound at i) [ inl k ↦ inl k | inr k ↦ inr (k.0, to (2 * at) k.1) ];
  complete = λ at l r. f.complete at l (from (2 * at) r);
  conserved = f.conserved;
  kept_room = f.kept_room;
}

-- an entry that was free
pub notes_fresh : (y z : Young) (index : ℕ) → IsYoung y → index < length y.table.items → slice_index y.table.items index ≡ 0
    → z.base ≡ y.base → z.table.items ≡ set y.table.items index FOUND → z.found.items ≡ y.found.items ++ record { 0 = y.base + index } ∷ [] →
    z.found.spare + 1 ≡ y.found.spare
    → Notes y z (λ w. w ≡ 2 * (y.base + index))
notes_fresh y z index h lt was base table found spare =
    let new : Address = record { 0 = y.base + index } in
    let size : length z.table.items ≡ length y.table.items = ap length table ∙ length-set y.table.items index FOUND in
    let sums = sum_by-set (λ (n : ℕ). cond (eqb n 0) 1 0) y.table.items index FOUND 0 lt in
    let one : ◌≡◌ {A = ℕ} (cond (eqb (get_or y.table.items index 0) 0) 1 0) 1 = rw was refl in
    let count : unfound_count z ≡ count_by (λ n. eqb n 0) (set y.table.items index FOUND) = ap (λ (xs : List ℕ). count_by (λ n. eqb n 0) xs) table in
    let less : unfound_count z + 1 ≡ unfound_count y = omega (arith, sums, one, count) in
    let longer : length z.found.items ≡ length y.found.items + 1 = let e = ap length found in let f = length-append y.found.items (new ∷ []) in
    omega (arith, e, f) in
    let kept : (a : Address) → Contains y.found.items a → Contains z.found.items a = λ a c.
    subst (λ (xs : List Address). Contains xs a) (sym found) (Contains-append_left y.found.items (new ∷ []) a c) in
    let here : Contains z.found.items new = subst (λ (xs : List Address). Contains xs new) (sym found) (Contains-push y.found.items new) in
    record {
      young = record {
        fits = let f = h.fits in omega (arith, f, base, size);
        listed = λ k ne. elim (cases_eq k index) [
          | inl s ↦ subst (λ (n : ℕ). Contains z.found.items (record { 0 = n })) (let e : y.base + index ≡ z.base + k = omega (arith, base, s) in e) here
          | inr o ↦
              let same : slice_index z.table.items k ≡ slice_index y.table.items k = ap (λ (xs : List ℕ). slice_index xs k) table ∙
              get_or-set_other y.table.items index k FOUND 0 o in
              let old = h.listed k (λ e. ne (same ∙ e)) in
              subst (λ (n : ℕ). Contains z.found.items (record { 0 = n })) (let e : y.base + k ≡ z.base + k = omega (arith, base) in
              e) (kept (record { 0 = y.base + k }) old)
        ];
        tabled = λ at c. elim (Contains-push_cases y.found.items new (record { 0 = at }) (subst (λ (xs : List Address).
            Contains xs (record { 0 = at })) found c)) [
              | inl old ↦
                  let t = h.tabled at old in
                  let other : t.0 ≢ index = λ e. let f : slice_index y.table.items t.0 ≡ 0 = rw e was in omega (arith, f, t.3) in (
                    t.0,
                    omega (arith, base, t.1),
                    omega (arith, size, t.2),
                    ap (λ (xs : List ℕ). slice_index xs t.0) table ∙
                        get_or-set_other y.table.items index t.0 FOUND 0 other ∙ t.3,
                  )
              | inr e ↦
                  let s : y.base + index ≡ at = ap (λ (a : Address). a.0) e in (
                    index,
                    omega (arith, base, s),
                    omega (arith, size, lt),
                    ap (λ (xs : List ℕ). slice_index xs index) table ∙
                        get_or-set_same y.table.items index FOUND 0 lt,
                  )
            ];
        room = let r = h.room in omega (arith, r, less, spare);
      };
      base = base;
      size = size;
      more = (new ∷ [], found);
      sound = λ at c. elim (Contains-push_cases y.found.items new (record { 0 = at }) (subst (λ (xs : List Address).
          Contains xs (record { 0 = at })) found c)) [
            | inl old ↦ inl old
            | inr e ↦ let s : y.base + index ≡ at = ap (λ (a : Address). a.0) e in inr (omega (arith, s), omega (arith, s))
          ];
      complete = λ at l e. let s : y.base + index ≡ at = omega (arith, e) in subst (λ (n : ℕ). Contains z.found.items (record { 0 = n })) s here;
      conserved = omega (arith, less, longer);
      kept_room = omega (arith, spare, longer);
    }

-- an entry that was found before
pub notes_again : (y : Young) (index : ℕ) → IsYoung y → slice_index y.table.items index ≢ 0 → Notes y y (λ w. w ≡ 2 * (y.base + index))
notes_again y index h ne = notes_none y (λ w. w ≡ 2 * (y.base + index)) h (λ at l e. let s : y.base + index ≡ at = omega (arith, e) in
    subst (λ (n : ℕ). IsIn y n) s (h.listed index ne))

-- within a table of the same size
pub still_within : (a b : Young) (P : ℕ → Type 0) (word : ℕ) → Notes a b P → IsWithin a word → IsWithin b word
still_within a b P word n h at e l = let s = n.base in let t = n.size in let r = h at e (omega (arith, s, l)) in omega (arith, s, t, r)

-- the words of a slice with one more
pub notes_word : (a b c : Young) (words : List ℕ) (i w : ℕ) → i < length words → w ≡ get_or words i w → Notes a b (Contains (take i words)) →
    Notes b c (λ x. x ≡ w) → Notes a c (Contains (take (i + 1) words))
notes_word a b c words i w lt read f g =
    let e : take (i + 1) words ≡ take i words ++ w ∷ [] = take_more words i w lt ∙ ap (λ (x : ℕ). take i words ++ x ∷ []) (sym read) in
    notes_then a b c (Contains (take i words)) (λ x. x ≡ w) (Contains (take (i + 1) words)) f g
    (λ x p. subst (λ (xs : List ℕ). Contains xs x) (sym e) (Contains-append_left (take i words) (w ∷ []) x p))
    (λ x q. subst (λ (xs : List ℕ). Contains xs x) (sym e) (subst (λ (z : ℕ). Contains (take i words ++ w ∷ []) z) (sym q) (Contains-push (take i words) w)))
    (λ x r. elim (Contains-push_cases (take i words) w x (subst (λ (xs : List ℕ). Contains xs x) e r)) [ inl p ↦ inl p | inr q ↦ inr (sym q) ])

-- the words of a range, one after the other
pub among_none : (y : Young) (words : List ℕ) (from : ℕ) → IsYoung y → Notes y y (IsAmong words from from)
among_none y words from h = notes_none y (IsAmong words from from) h (λ at l i. absurd (omega (arith, i.1, i.2)))

pub among_more : (a b c : Young) (words : List ℕ) (from i w : ℕ) → from ≤ i → w ≡ slice_index words i → Notes a b (IsAmong words from i) →
    Notes b c (λ x. x ≡ w) → Notes a c (IsAmong words from (i + 1))
among_more a b c words from i w low read f g =
    notes_then a b c (IsAmong words from i) (λ x. x ≡ w) (IsAmong words from (i + 1)) f g
    (λ x h. (h.0, h.1, omega (arith, h.2), h.3))
    (λ x q. (i, low, omega arith, sym read ∙ sym q))
    (λ x r. elim (cases_eq r.0 i) [
      | inl e ↦ inr (sym r.3 ∙ ap (λ (k : ℕ). slice_index words k) e ∙ sym read)
      | inr ne ↦ inl (r.0, r.1, omega (arith, r.2, ne), r.3)
    ])

-- a found object stays found
still_in : (a b : Young) (at : ℕ) → (added : List Address) × (b.found.items ≡ a.found.items ++ added) → IsIn a at → IsIn b at
still_in a b at more i = subst (λ (xs : List Address). Contains xs (record {
  0 =
      at;
})) (sym more.1) (Contains-append_left a.found.items more.0 (record { 0 = at }) i)

pub following_none : (y : Young) (words : List ℕ) → IsYoung y → Following y y words 0
following_none y words h = record {
  young = h;
  base = refl;
  size = refl;
  more = ([], sym (append-nil y.found.items));
  kept_room = refl;
  sound = λ at i. let t = h.tabled at i in IsFound.start at (omega (arith, t.1)) (at, refl, i);
  within = omega arith;
  traced = λ i at to lt. absurd (omega arith);
}

pub can_still : (a b : Young) (words : List ℕ) (next : ℕ) (x : Address) → Following a b words next → next < length b.found.items →
    x ≡ get_or b.found.items next x → ((at : ℕ) → IsFound a.base words (PointsIn a) at → CanFollow a words at) → CanFollow b words x.0
can_still a b words next x f lt read can =
    let there : Contains b.found.items x = subst (λ (z : Address). Contains b.found.items z) (sym read) (Contains-get_or b.found.items next x lt) in
    let c = can x.0 (f.sound x.0 there) in
    record {
      header = c.header;
      within = λ word h at e l. let s = f.base in let t = f.size in let w = c.within word h at e (omega (arith, s, l)) in omega (arith, s, t, w);
    }

pub following_more : (a b c : Young) (words : List ℕ) (next : ℕ) (x : Address) → Following a b words next → next < length b.found.items →
    x ≡ get_or b.found.items next x → Notes b c (HasStrong words x.0) → Following a c words (next + 1)
following_more a b c words next x f lt read n =
    let there : Contains b.found.items x = subst (λ (z : Address). Contains b.found.items z) (sym read) (Contains-get_or b.found.items next x lt) in
    let longer : length c.found.items ≡ length b.found.items + length n.more.0 = ap length n.more.1 ∙ length-append b.found.items n.more.0 in
    record {
      young = n.young;
      base = n.base ∙ f.base;
      size = n.size ∙ f.size;
      more = (f.more.0 ++ n.more.0, n.more.1 ∙ ap (λ (xs : List Address). xs ++ n.more.0) f.more.1 ∙ append_assoc a.found.items f.more.0 n.more.0);
      kept_room = n.kept_room ∙ f.kept_room;
      sound = λ at i. elim (n.sound at i) [
        | inl j ↦ f.sound at j
        | inr h ↦ IsFound.field x.0 at (f.sound x.0 there) (let e = f.base in omega (arith, e, h.0)) h.1
      ];
      within = omega (arith, longer);
      traced = λ i at to low is l h.
          let same : get_or c.found.items i (record { 0 = 0 }) ≡ get_or b.found.items i (record { 0 = 0 }) =
          ap (λ (xs : List Address). get_or xs i (record { 0 = 0 })) n.more.1 ∙
          get_or_append_left b.found.items n.more.0 (record { 0 = 0 }) i (omega arith) in
          let is' : (get_or b.found.items i (record { 0 = 0 })).0 ≡ at = sym (ap (λ (z : Address). z.0) same) ∙ is in
          elim (cases_lt i next) [
            | inl lt' ↦ still_in b c to n.more (f.traced i at to lt' is' l h)
            | inr ge ↦
                let e : i ≡ next = omega arith in
                let first : (get_or b.found.items next (record { 0 = 0 })).0 ≡ at =
                subst (λ (k : ℕ). (get_or b.found.items k (record { 0 = 0 })).0 ≡ at) e is' in
                let it : x.0 ≡ at = ap (λ (z : Address). z.0) (read ∙ get_or_default b.found.items next x (record { 0 = 0 }) lt) ∙ first in
                n.complete to (let g = f.base in omega (arith, g, l)) (subst (λ (k : ℕ). HasStrong words k (2 * to)) (sym it) h)
          ];
    }

-- the end of the list
pub following_all : (a b : Young) (words : List ℕ) (next : ℕ) → Following a b words next → length b.found.items ≤ next → Follows a b words
following_all a b words next f end = record {
  young = f.young;
  base = f.base;
  size = f.size;
  kept_room = f.kept_room;
  sound = f.sound;
  complete = complete;
}
  where
    complete : (at : ℕ) → IsFound a.base words (PointsIn a) at → IsIn b at
    complete at (IsFound.start _ l p) = let e : p.0 ≡ at = omega (arith, p.1) in still_in a b at f.more (subst (λ (k : ℕ). IsIn a k) e p.2)
    complete at (IsFound.field from _ found l h) =
        let i = complete from found in
        let lt : i.0 < next = omega (arith, i.1, end) in
        let is : (get_or b.found.items i.0 (record { 0 = 0 })).0 ≡ from =
        ap (λ (z : Address). z.0) (get_or_default b.found.items i.0 (record { 0 = 0 }) (record { 0 = from }) i.1 ∙ i.2) in
        f.traced i.0 from at lt is l h
