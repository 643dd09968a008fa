-- The three writes of the third pass, one after the other.
use Rattle.std.proofs.{Common.◌≡◌, Common.◌≢◌, Common.◌<◌, Common.◌≤◌, Common.◌+◌, Common.◌-◌, Common.ℕ, Common.List, Common.◌++◌, Common.length, Common.map, Common.take, Common.drop, Common.inl, Common.inr, Common.refl, Common.sym, Common.ap, Common.subst, Common.◌∙◌, Common.arith, Common.◌⊎◌, Math.ListN.get_or-eq_default, lemmas.Bool.cases_lt, lemmas.Bool.cases_eq, lemmas.List.take_at}
use Rattle.std.specs.Prelude.{Contains, slice_index}
use Rattle.nmgc_object.specs.{declared.words.Address.Address, declared.words.Header.Header, declared.size.TheConstants.HEADER_WORDS, Words.nursery_place, declared.layout.Layout.Layout, declared.layout.Nursery.Nursery}
use Rattle.nmgc_alloc.specs.{AllocState.Segments, Segments.IsSegments}
use Rattle.nmgc_heap_spec.specs.Moves.{Moved, Copies}
use Rattle.nmgc_minor.specs.{declared.placing.Move.Move, declared.young.Young.Young, Inputs.Inputs, Found.IsStart, Found.IsFound, Young.IsIn, Young.IsYoung, Start.Finds, Forwarding.forward_word, Forwarding.ForwardsAt, Forwarding.CanCopyAll, Forwarding.CopiesAll, Promotes.CanPromote, Promotes.Promotes, Promotes.Leaves, Placing.AreNurseries, Placing.CanPlaceEach, Placing.HasHeaderWord, Placing.IsMarked, Placing.IsSharedSlot, Placing.PlacesRange, Placing.moved_of}
use Rattle.nmgc_stop_spec.specs.{Strong.HasHeader, laws.Blocks.IsBlock, laws.Blocks.is_block, laws.Blocks.occupied_apart}
use Rattle.nmgc_minor.proofs.{ForwardLaws.twice, ForwardLaws.table_forwards, PlacingLaws.few_moves}
use Rattle.nmgc_lists.specs.laws.Items.{contains_map as map_in, map_contains as map_from}

pub address_in : (xs : List Address) (x : Address) → Contains xs x → Contains (map (λ (at : Address). at.0) xs) x.0
address_in xs x c = map_in (λ (at : Address). at.0) xs x c

-- the premises of the second pass, after the first has found the objects to be moved
pub parts_of : (y z : Young) (s : Segments) (words : List ℕ) (nurseries : List Nursery) (inputs : Inputs) (table : List ℕ) →
    CanPromote y s words nurseries inputs → Finds y z words inputs → table ≡ z.table.items → AreNurseries s.layout z.base table nurseries ×
    CanPlaceEach s.layout words table z.base nurseries
parts_of y z s words nurseries inputs table can f same =
    let size : length table ≡ length y.table.items = ap length same ∙ f.size in
    let e = f.base in
    let marked : (at : ℕ) → y.base ≤ at → IsMarked y.base table at → IsFound y.base words (IsStart inputs words) at = λ at l mark.
    let k : at - y.base ≡ at - z.base = omega (arith, e) in
    let there : slice_index z.table.items (at - y.base) ≢ 0 = subst (λ (xs : List ℕ). slice_index xs (at - y.base) ≢ 0) same mark in
    let i = f.young.listed (at - y.base) there in
    let here : z.base + (at - y.base) ≡ at = omega (arith, e, l) in
    f.sound at (subst (λ (n : ℕ). IsIn z n) here i) in
    let p = can.parts table size marked in
    (subst (λ (b : ℕ). AreNurseries s.layout b table nurseries) (sym e) p.0, subst (λ (b : ℕ). CanPlaceEach s.layout words table b nurseries) (sym e) p.1)

module _ (base : ℕ) (words : List ℕ) (s s' : Segments) (y : Young) (table : List ℕ) (moves : List Move) (inputs : Inputs)
    (sound : IsSegments s')
    (emptied : base ≡ nursery_place s'.layout 0)
    (same : y.base ≡ base)
    (young : IsYoung y)
    (finds : (at : ℕ) → IsIn y at → IsFound base words (IsStart inputs words) at)
    (finds_all : (at : ℕ) → IsFound base words (IsStart inputs words) at → IsIn y at)
    (can : (at : ℕ) → IsFound base words (IsStart inputs words) at → HasHeader words at)
    (inside : base ≤ length words)
    (recorded : List Address)
    (is_known : inputs.recorded ≡ map (λ (at : Address). at.0) recorded)
    (low : (at : Address) → Contains recorded at → at.0 < base)
    (range : PlacesRange base words s s' y.table.items table moves base (base + length y.table.items)) where
  -- an entry of a found object
  mark_of : (at : ℕ) → IsIn y at → (base ≤ at) × (at < base + length y.table.items) × IsMarked base y.table.items at
  mark_of at i =
      let t = young.tabled at i in
      let k : at - base ≡ t.0 = omega (arith, t.1, same) in (
        omega (arith, t.1, same),
        omega (arith, t.1, t.2, same),
        λ e. let f : slice_index y.table.items t.0 ≡ 0 = subst (λ (n : ℕ). slice_index y.table.items n ≡ 0) k e in omega (arith, f, t.3),
      )

  from_found : (m : Move) → Contains moves m → IsFound base words (IsStart inputs words) m.from.0
  from_found m c =
      let h = range.marked m c in
      let i = young.listed (m.from.0 - base) h.2 in
      let e : y.base + (m.from.0 - base) ≡ m.from.0 = omega (arith, same, h.0) in
      finds m.from.0 (subst (λ (n : ℕ). IsIn y n) e i)

  to_found : (at : ℕ) → IsFound base words (IsStart inputs words) at → (m : Move) × Contains moves m × (m.from.0 ≡ at) ×
      (slice_index table (at - base) ≡ m.to.0)
  to_found at f = let h = mark_of at (finds_all at f) in range.entries at h.0 h.1 h.2

  block_of : (m : Move) → Contains moves m → (size : ℕ) × IsBlock base m.to.0 size
  block_of m c = let p = range.placing.placed (moved_of m) (map_in moved_of moves m c) in (p.0, is_block s' base m.to.0 p.0 sound emptied p.1)

  entry_of : (m : Move) → Contains moves m → slice_index table (m.from.0 - base) ≡ m.to.0
  entry_of m c =
      let h = to_found m.from.0 (from_found m c) in
      let e = range.once h.0 m h.1 c h.2 in
      h.3 ∙ ap (λ (x : Move). x.to.0) e

  pub small : (k : ℕ) → slice_index table k < base
  small k = elim (cases_lt k (length table)) [
    | inr past ↦ let z : slice_index table k ≡ 0 = get_or-eq_default table 0 past in omega (arith, z, emptied)
    | inl lt ↦
        let size = range.size in
        let here : base + k - base ≡ k = omega arith in
        elim (cases_eq (slice_index y.table.items k) 0) [
          | inl z ↦
              let u = range.unmarked (base + k) (omega arith) (omega (arith, lt, size)) (λ n.
              n (subst (λ (i : ℕ). slice_index y.table.items i ≡ 0) (sym here) z)) in
              let v : slice_index table k ≡ 0 = subst (λ (i : ℕ). slice_index table i ≡ 0) here u in
              omega (arith, v, emptied)
          | inr ne ↦
              let x = range.entries (base + k) (omega arith) (omega (arith, lt, size)) (λ e. ne (subst (λ (i : ℕ). slice_index y.table.items i ≡ 0) here e)) in
              let v : slice_index table k ≡ x.0.to.0 = subst (λ (i : ℕ). slice_index table i ≡ x.0.to.0) here x.3 in
              let b = block_of x.0 x.1 in
              let below = b.1.below in
              let four = b.1.four in
              omega (arith, v, below, four)
        ]
  ]

  abbrev forward : ℕ → ℕ
  forward = forward_word table base

  module _ (one two : List ℕ) (shared : ForwardsAt (forward_word table base) words one IsSharedSlot)
      (fields : ForwardsAt (forward_word table base) one two (λ i. Contains recorded (record { 0 = i }))) where
    -- the words from the base on are unchanged
    upper : (i : ℕ) → base ≤ i → slice_index two i ≡ slice_index words i
    upper i l = elim (cases_lt i (length words)) [
      | inr past ↦
          let a = shared.total in
          let b = fields.total in
          get_or-eq_default two 0 (omega (arith, a, b, past)) ∙ sym (get_or-eq_default words 0 past)
      | inl lt ↦
          let a = shared.total in
          let first : slice_index one i ≡ slice_index words i = elim (shared.each i lt) [ inl h ↦ absurd (omega (arith, h.1.1, emptied, l)) | inr h ↦ h.0 ] in
          elim (fields.each i (omega (arith, a, lt))) [
            | inl h ↦ let x = low (record { 0 = i }) h.1 in absurd (omega (arith, x, l))
            | inr h ↦ h.0 ∙ first
          ]
    ]

    -- each word below is forwarded if it is a slot of g or recorded, and otherwise unchanged
    lower : (i : ℕ) → i < base → ((slice_index two i ≡ forward (slice_index words i)) × (Contains inputs.recorded i ⊎ IsSharedSlot i)) ⊎
        ((slice_index two i ≡ slice_index words i) × ((Contains inputs.recorded i → ⊥) × (IsSharedSlot i → ⊥)))
    lower i l =
        let a = shared.total in
        let to : Contains recorded (record { 0 = i }) → Contains inputs.recorded i = λ c.
        subst (λ (xs : List ℕ). Contains xs i) (sym is_known) (map_in (λ (at : Address). at.0) recorded (record { 0 = i }) c) in
        let from : Contains inputs.recorded i → Contains recorded (record { 0 = i }) = λ c.
        let r = map_from (λ (at : Address). at.0) recorded i (subst (λ (xs : List ℕ). Contains xs i) is_known c) in
        subst (λ (x : Address).
        Contains recorded x) (let e : r.0 ≡ record { 0 = i } = ap (λ (k : ℕ). let x : Address = record { 0 = k } in x) (sym r.2) in e) r.1 in
        elim (shared.each i (omega (arith, inside))) [
          | inl h ↦ elim (fields.each i (omega (arith, inside, a))) [
            | inl k ↦ inl (k.0 ∙ ap (λ (x : ℕ). forward_word table base x) h.0 ∙ twice table base small (slice_index words i), inr h.1)
            | inr k ↦ inl (k.0 ∙ h.0, inr h.1)
          ]
          | inr h ↦ elim (fields.each i (omega (arith, inside, a))) [
            | inl k ↦ inl (k.0 ∙ ap (λ (x : ℕ). forward_word table base x) h.0, inl (to k.1))
            | inr k ↦ inr (k.0 ∙ h.0, ((λ c. k.1 (from c)), h.1))
          ]
        ]

    header_still : (m : Move) (header : Header) → Contains moves m → HasHeaderWord two m.from.0 header → HasHeaderWord words m.from.0 header
    header_still m header c h = (h.0, sym (upper m.from.0 (range.marked m c).0) ∙ h.1)

    pub can_copy : CanCopyAll base two moves
    can_copy = record {
      each = λ m c.
          let o = can m.from.0 (from_found m c) in
          let a = shared.total in
          let b = fields.total in (
            record {
              header = o.header;
              valid = o.valid;
              read = upper m.from.0 (range.marked m c).0 ∙ o.read;
              inside = let n = o.inside in omega (arith, a, b, n);
            },
            (range.marked m c).0,
          );
      below = λ m header c h.
          let p = range.placing.placed (moved_of m) (map_in moved_of moves m c) in
          let b = is_block s' base m.to.0 p.0 sound emptied p.1 in
          let fits = p.2 header (header_still m header c h) in
          let below = b.below in
          omega (arith, fits, below);
      apart = λ a b x z ca cb ha hb.
          let p = range.placing.placed (moved_of a) (map_in moved_of moves a ca) in
          let q = range.placing.placed (moved_of b) (map_in moved_of moves b cb) in
          let fp = p.2 x (header_still a x ca ha) in
          let fq = q.2 z (header_still b z cb hb) in
          elim (occupied_apart s' a.to.0 p.0 b.to.0 q.0 sound p.1 q.1) [
            | inl e ↦
                let same_move = range.placing.once (moved_of a) (moved_of b) (map_in moved_of moves a ca) (map_in moved_of moves b cb) e in
                inl (range.once a b ca cb (ap (λ (k : Moved). k.from) same_move))
            | inr (inl l) ↦ inr (inl (omega (arith, l, fp)))
            | inr (inr l) ↦ inr (inr (omega (arith, l, fq)))
          ];
    }

    pub promotes : (new : List ℕ) → CopiesAll (forward_word table base) two new moves → Promotes base words new s s' moves inputs table
    promotes new copies = record {
      found = from_found;
      all = λ at f. let h = to_found at f in (h.0, h.1, h.2);
      once = range.once;
      named = range.named;
      placing = range.placing;
      stands = range.stands;
      rising = range.rising;
      few = let size = range.size in
          let few = few_moves moves base (length y.table.items) range.rising (λ m c. let h = range.marked m c in (h.0, h.1)) in omega (arith, size, few);
      forwards = table_forwards table base (map moved_of moves) (omega (arith, emptied)) (λ d c.
          let m = map_from moved_of moves d c in
          let b = block_of m.0 m.1 in
          let above = b.1.above in
          let from : d.from ≡ m.0.from.0 = ap (λ (k : Moved). k.from) m.2 in
          let to : d.to ≡ m.0.to.0 = ap (λ (k : Moved). k.to) m.2 in
          let h = range.marked m.0 m.1 in
          (omega (arith, from, h.0), ap (λ (k : ℕ). slice_index table (k - base)) from ∙ entry_of m.0 m.1 ∙ sym to, λ z. omega (arith, z, to, above)));
      rewrites = record {
        total = copies.total ∙ fields.total ∙ shared.total;
        moved = λ d header c is.
            let m = map_from moved_of moves d c in
            let is' : HasHeaderWord words m.0.from.0 header = subst (λ (k : Moved). HasHeaderWord words k.from header) m.2 is in
            let up = range.marked m.0 m.1 in
            let there : HasHeaderWord two m.0.from.0 header = (is'.0, upper m.0.from.0 up.0 ∙ is'.1) in
            let made = copies.copied m.0 header m.1 there in
            subst (λ (k : Moved). Copies (forward_word table base) words new k.from k.to header.fields ×
            (slice_index new (k.to + 1) ≡ slice_index words (k.from + 1))) (sym m.2) (
              record {
                header = made.0.header ∙ upper m.0.from.0 up.0;
                fields = λ i l. made.0.fields i l ∙ ap (λ (x : ℕ).
                    forward_word table base x) (upper (m.0.from.0 + HEADER_WORDS + i) (let b = up.0 in omega (arith, b)));
              },
              made.1 ∙ upper (m.0.from.0 + 1) (let b = up.0 in omega (arith, b)),
            );
        others = λ i l out.
            let same_word : slice_index new i ≡ slice_index two i =
            copies.others i (λ m header c h. out (moved_of m) header (map_in moved_of moves m c) (header_still m header c h)) in
            elim (lower i l) [
              | inl h ↦ inl (same_word ∙ h.0, h.1)
              | inr h ↦ inr (same_word ∙ h.0, h.1)
            ];
      };
    }

-- the state after blocks were given
pub record Ready (z : Young) (words : List ℕ) (s s' : Segments) (table : List ℕ) (moves : List Move) (inputs : Inputs) (recorded : List Address) : Type 0 where
  pub sound : IsSegments s'
  pub emptied : z.base ≡ nursery_place s'.layout 0
  pub young : IsYoung z
  pub finds : (at : ℕ) → IsIn z at → IsFound z.base words (IsStart inputs words) at
  pub finds_all : (at : ℕ) → IsFound z.base words (IsStart inputs words) at → IsIn z at
  pub can : (at : ℕ) → IsFound z.base words (IsStart inputs words) at → HasHeader words at
  pub inside : z.base ≤ length words
  pub is_known : inputs.recorded ≡ map (λ (at : Address). at.0) recorded
  pub low : (at : Address) → Contains recorded at → at.0 < z.base
  pub range : PlacesRange z.base words s s' z.table.items table moves z.base (z.base + length z.table.items)

pub ready : (y z : Young) (s s' : Segments) (words : List ℕ) (nurseries : List Nursery) (inputs : Inputs) (recorded : List Address)
    (t1 t2 table : List ℕ) (moves added : List Move) → CanPromote y s words nurseries inputs → Finds y z words inputs →
    inputs.recorded ≡ map (λ (at : Address). at.0) recorded → t1 ≡ z.table.items → table ≡ t2 → moves ≡ added → IsSegments s' →
    s'.layout ≡ s.layout → PlacesRange z.base words s s' t1 t2 added z.base (z.base + length t1) → Ready z words s s' table moves inputs recorded
ready y z s s' words nurseries inputs recorded t1 t2 table moves added can f is_known first second third sound same range =
    let e = f.base in
    let parts = parts_of y z s words nurseries inputs t1 can f first in
    let begins = parts.0.begins in
    let r1 = subst (λ (t : List ℕ). PlacesRange z.base words s s' t t2 added z.base (z.base + length t)) first range in
    let r2 = subst (λ (t : List ℕ). PlacesRange z.base words s s' z.table.items t added z.base (z.base + length z.table.items)) (sym second) r1 in
    record {
      sound = sound;
      emptied = begins ∙ ap (λ (l : Layout). nursery_place l 0) (sym same);
      young = f.young;
      finds = λ at i. subst (λ (b : ℕ). IsFound b words (IsStart inputs words) at) (sym e) (f.sound at i);
      finds_all = λ at h. f.complete at (subst (λ (b : ℕ). IsFound b words (IsStart inputs words) at) e h);
      can = λ at h. (can.can at (subst (λ (b : ℕ). IsFound b words (IsStart inputs words) at) e h)).header;
      inside = let i = can.inside in omega (arith, e, i);
      is_known = is_known;
      low = λ at c. let l = can.recorded at.0 (subst (λ (xs : List ℕ). Contains xs at.0) (sym is_known) (address_in recorded at c)) in omega (arith, e, l);
      range = subst (λ (xs : List Move). PlacesRange z.base words s s' z.table.items table xs z.base (z.base + length z.table.items)) (sym third) r2;
    }

module _ (z : Young) (words : List ℕ) (s s' : Segments) (table : List ℕ) (moves : List Move) (inputs : Inputs) (recorded : List Address)
    (r : Ready z words s s' table moves inputs recorded) where
  pub ready_small : (k : ℕ) → slice_index table k < z.base
  ready_small = small z.base words s s' z table moves inputs r.sound r.emptied refl r.young r.finds r.finds_all r.can r.inside recorded r.is_known r.low r.range

  pub ready_copy : (one two : List ℕ) → ForwardsAt (forward_word table z.base) words one IsSharedSlot →
      ForwardsAt (forward_word table z.base) one two (λ i. Contains recorded (record { 0 = i })) → CanCopyAll z.base two moves
  ready_copy = can_copy z.base words s s' z table moves inputs r.sound r.emptied refl r.young r.finds r.finds_all r.can r.inside recorded r.is_known r.low r.range

  pub ready_promotes : (one two new : List ℕ) → ForwardsAt (forward_word table z.base) words one IsSharedSlot →
      ForwardsAt (forward_word table z.base) one two (λ i. Contains recorded (record { 0 = i })) →
      CopiesAll (forward_word table z.base) two new moves → Promotes z.base words new s s' moves inputs table
  ready_promotes one two new f g h =
      promotes z.base words s s' z table moves inputs r.sound r.emptied refl r.young r.finds r.finds_all r.can r.inside recorded r.is_known r.low
      r.range one two f g new h

-- the table after the second pass
pub leaves : (y z v : Young) (words : List ℕ) (s s' : Segments) (table : List ℕ) (moves : List Move) (inputs : Inputs) (recorded : List Address) →
    Finds y z words inputs → Ready z words s s' table moves inputs recorded → v.base ≡ z.base → v.table.items ≡ table →
    v.found.items ≡ z.found.items → v.found.spare ≡ z.found.spare → Leaves y v
leaves y z v words s s' table moves inputs recorded f r base same items spare =
    let size : length v.table.items ≡ length z.table.items = ap length same ∙ r.range.size in
    let longer = ap length items in
    let kept = f.kept_room in
    record {
      base = base ∙ f.base;
      size = size ∙ f.size;
      listed = λ k ne.
          let there : slice_index table k ≢ 0 = λ e. ne (ap (λ (t : List ℕ). slice_index t k) same ∙ e) in
          let here : z.base + k - z.base ≡ k = omega arith in
          elim (cases_lt k (length table)) [
            | inr past ↦ absurd (there (get_or-eq_default table 0 past))
            | inl lt ↦
                let total = r.range.size in
                elim (cases_eq (slice_index z.table.items k) 0) [
                  | inl free ↦
                      let u = r.range.unmarked (z.base + k) (omega arith) (omega (arith, lt, total)) (λ n.
                      n (subst (λ (i : ℕ). slice_index z.table.items i ≡ 0) (sym here) free)) in
                      absurd (there (subst (λ (i : ℕ). slice_index table i ≡ 0) here u))
                  | inr used ↦
                      let i = r.young.listed k used in
                      subst (λ (xs : List Address). Contains xs (record { 0 = v.base + k })) (sym items) (subst (λ (n : ℕ).
                      Contains z.found.items (record { 0 = n })) (let e : z.base + k ≡ v.base + k = omega (arith, base) in e) i)
                ]
          ];
      tabled = λ at i.
          let t = r.young.tabled at (subst (λ (xs : List Address). Contains xs (record { 0 = at })) items i) in
          (omega (arith, t.1, base), omega (arith, t.1, t.2, base, size));
      kept_room = omega (arith, longer, spare, kept);
    }

-- the table after its loan
pub lent_back : (length_ : ℕ) (old lent new table : List ℕ) → length lent ≡ length_ → length new ≡ length lent →
    table ≡ take length_ (new ++ drop (length new) old) → table ≡ new
lent_back n old lent new table l size is = is ∙ take_at new (drop (length new) old) n (size ∙ l)
