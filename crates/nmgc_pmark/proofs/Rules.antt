-- Each kind of step keeps the rule of a claim table, and a seat with every part learns its consequences.
use Rattle.std.proofs.{Common.◌≡◌, Common.◌≢◌, Common.◌⊎◌, Common.inl, Common.inr, Common.⊎_elim, Common.ℕ, Common.zero, Common.suc, Common.◌+◌, Common.◌-◌, Common.◌<◌, Common.Bool, Common.true, Common.false, Common.cond, Common.eqb, Common.List, Common.[], Common.◌∷◌, Common.◌++◌, Common.length, Common.slice_index, Common.set, Common.replicate, Common.refl, Common.sym, Common.ap, Common.◌∙◌, Common.subst, Common.arith, Common.eq-eqb, Common.ne_eqb, Common.length-set, Common.true≢false, lemmas.Bool.cases_eq, lemmas.List.get_or-set_same, lemmas.List.get_or-set_other, lemmas.List.length-replicate, lemmas.List.Elements.Contains-append_left, lemmas.List.Elements.Contains-append_cases, lemmas.List.Elements.Contains-push, lemmas.List.Elements.Contains-push_cases}
use Rattle.std.specs.Prelude.{Contains}
use mathlib.Core.Option.{some, some-injective, some-ne-none}
use lib.ListN.{get_elem?}
use prog.Atomic.{either}
use Rattle.atomic_table.specs.Table.{State, Me, Allows, Splits, Joins, Final, Seen as SeenIn, keeps}
use Rattle.atomic_table.proofs.Lists.{at_set, set_here, set_else, at_longer, at_last}
use Rattle.nmgc_pmark.specs.{declared.bounds.Bounds.Bounds, View.Part, View.ClaimsSeen, View.claiming, View.first_changed, View.tried, View.claimed_in, View.claimed_by, View.blank, View.blanks, View.whole, View.nobody, View.but_first, View.first_alone, View.keeps_rest, View.gives_first, View.together, Rule.IsListed, Rule.Agrees, Rule.KeepsClaims, Rule.IsMarker, Rule.CanSplit, Rule.HasAll, Rule.IsShared}
use Rattle.nmgc_lists.specs.laws.Items.{nothing_in as nothing, word_again}
use Rattle.nmgc_alloc.specs.laws.Numbers.{unmarked}

module _ {A : Type 0} where
  pub only_one : (R : A → Type 0) (x : A) → R x → (k : ℕ) (y : A) → get_elem? (x ∷ []) k ≡ some y → R y
  only_one R x h zero y e = subst R (some-injective x y e) h
  only_one R x h (suc k) y e = absurd (some-ne-none y (sym e))

  -- a position with an item is within the list
  pub inside : (l : List A) (i : ℕ) (a : A) → get_elem? l i ≡ some a → i < length l
  inside [] i a e = absurd (some-ne-none a (sym e))
  inside (x ∷ xs) zero a e = omega arith
  inside (x ∷ xs) (suc i) a e = let h = inside xs i a e in omega arith

  -- at the last position, or before
  pub at_end : (l : List A) (a b : A) (j : ℕ) → get_elem? (l ++ a ∷ []) j ≡ some b → ((j < length l) × (get_elem? l j ≡ some b)) ⊎ ((j ≡ length l) × (a ≡ b))
  at_end [] a b zero e = inr (refl, some-injective a b e)
  at_end [] a b (suc j) e = absurd (some-ne-none b (sym e))
  at_end (x ∷ xs) a b zero e = inl ((omega arith), e)
  at_end (x ∷ xs) a b (suc j) e = ⊎_elim (λ (t : (j < length xs) × (get_elem? xs j ≡ some b)). let h = t.0 in
      inl ((omega arith), t.1)) (λ (t : (j ≡ length xs) × (a ≡ b)). inr (ap suc t.0, t.1)) (at_end xs a b j e)

  -- in one list or the other
  pub in_either : (xs ys : List A) (j : ℕ) (b : A) → get_elem? (xs ++ ys) j ≡ some b → (get_elem? xs j ≡ some b) ⊎ ((k : ℕ) × (get_elem? ys k ≡ some b))
  in_either [] ys j b e = inr (j, e)
  in_either (x ∷ xs) ys zero b e = inl e
  in_either (x ∷ xs) ys (suc j) b e = in_either xs ys j b e

  pub at_later : (xs ys : List A) (k : ℕ) (y : A) → get_elem? ys k ≡ some y → (j : ℕ) × (get_elem? (xs ++ ys) j ≡ some y)
  at_later [] ys k y e = (k, e)
  at_later (x ∷ xs) ys k y e = let t = at_later xs ys k y e in (suc t.0, t.1)

is_new : (a b x y : ℕ) → a ≡ b → cond (eqb a b) x y ≡ x
is_new a b x y e = ap (λ t. cond t x y) (eq-eqb a b e)

is_old : (a b x y : ℕ) → a ≢ b → cond (eqb a b) x y ≡ y
is_old a b x y n = ap (λ t. cond t x y) (ne_eqb a b n)

module _ (bounds : Bounds) where
  abbrev pub holds : State (Unit {0}) ClaimsSeen → Type 0
  holds s = KeepsClaims bounds s.words s.views

  -- a seat with no part agrees with everything
  nobody_agrees : (words : List ℕ) (owner : ℕ → ℕ) (id : ℕ) → Agrees bounds words owner id nobody
  nobody_agrees words owner id = record { parts = λ k p e. absurd (some-ne-none p (sym e)); others = λ b c. absurd (nothing b c) }

  -- the same view at the same seat
  one_view : (views : List ClaimsSeen) (i j : ℕ) (v w : ClaimsSeen) → get_elem? views i ≡ some v → get_elem? views j ≡ some w → j ≡ i → w ≡ v
  one_view views i j v w e f s = some-injective w v (sym f ∙ ap (λ k. get_elem? views k) s ∙ e)

  module _ (words : List ℕ) (views : List ClaimsSeen) (h : KeepsClaims bounds words views) (id : ℕ) (v : ClaimsSeen) (here : get_elem? views id ≡
      some v) (p : Part) (alone : v.parts ≡ p ∷ []) (i : ℕ) where
    mine : (h.owner p.number ≡ id) × (p.number < bounds.markers) × ((b : ℕ) → Contains p.claimed b → slice_index words b ≡ p.number + 1)
    mine = (h.agrees id v here).parts 0 p (ap (λ l. get_elem? l 0) alone)

    -- the blocks that v lists are in its only part
    own : (number b : ℕ) → IsListed v number b → (p.number ≡ number) × Contains p.claimed b
    own number b l = only_one (λ (r : Part). r.number ≡ number → Contains r.claimed b → (p.number ≡ number) ×
        Contains p.claimed b) p (λ e c. (e, c)) l.place l.part (ap (λ k. get_elem? k l.place) (sym alone) ∙ l.there) l.is l.claimed

    pub fresh : slice_index words i ≡ 0 → Contains (claimed_by v) i → ⊥
    fresh was c =
        let w : slice_index words i ≡ p.number + 1 = mine.2 i (subst (λ l. Contains (claimed_in l) i) alone c) in
        absurd (omega (arith, was, w))

    -- the block was unclaimed
    module _ (within : i < length words) (was : slice_index words i ≡ 0) where
      abbrev now_ : List ℕ
      now_ = set words i (p.number + 1)

      abbrev taken : Part
      taken = claiming i p

      abbrev after : ClaimsSeen
      after = tried v i true

      same_word : (b : ℕ) → slice_index words b ≢ 0 → slice_index now_ b ≡ slice_index words b
      same_word b ne = get_or-set_other words i b (p.number + 1) 0 (λ (e : b ≡ i). ne (ap (λ k. slice_index words k) e ∙ was))

      new_word : slice_index now_ i ≡ p.number + 1
      new_word = get_or-set_same words i (p.number + 1) 0 within

      kept : (b n : ℕ) → slice_index words b ≡ n + 1 → slice_index now_ b ≡ n + 1
      kept b n e = same_word b (λ z. absurd (omega (arith, e, z))) ∙ e

      mine_now : (b : ℕ) → Contains taken.claimed b → slice_index now_ b ≡ p.number + 1
      mine_now b c = ⊎_elim (λ (d : Contains p.claimed b). kept b p.number (mine.2 b d)) (λ (e : i ≡ b).
          subst (λ k. slice_index now_ k ≡ p.number + 1) e new_word) (Contains-push_cases p.claimed i b c)

      after_agrees : Agrees bounds now_ h.owner id after
      after_agrees = record {
        parts = λ k r e. only_one (λ (q : Part). (h.owner q.number ≡ id) × (q.number < bounds.markers) ×
            ((b : ℕ) → Contains q.claimed b → slice_index now_ b ≡ q.number + 1)) taken (
              mine.0,
              mine.1,
              mine_now,
            ) k r (ap (λ l. get_elem? (first_changed (claiming i) l) k) (sym alone) ∙ e);
        others = λ b c z. let ne = (h.agrees id v here).others b c in ne (sym (same_word b ne) ∙ z);
      }

      after_lists : (number b : ℕ) → p.number ≡ number → Contains taken.claimed b → IsListed after number b
      after_lists number b e c = record { place = 0; part = taken; there = ap (λ l. get_elem? (first_changed (claiming i) l) 0) alone; is = e; claimed = c }

      at_seat : get_elem? (set views id after) id ≡ some after
      at_seat = set_here views id after (inside views id v here)

      listed_now : (b number : ℕ) → slice_index now_ b ≡ number + 1 → (j : ℕ) × (x : ClaimsSeen) × (get_elem? (set views id after) j ≡ some x) × IsListed x number b
      listed_now b number e = ⊎_elim
          (λ (s : b ≡ i).
          let f : slice_index now_ b ≡ slice_index now_ i = ap (λ k. slice_index now_ k) s in
          let g = new_word in
          let same : p.number ≡ number = omega (arith, e, f, g) in
          (id, after, at_seat, after_lists number b same (subst (λ k. Contains taken.claimed k) (sym s) (Contains-push p.claimed i))))
          (λ (n : b ≢ i).
          let old = h.listed b number (sym (get_or-set_other words i b (p.number + 1) 0 n) ∙ e) in
          ⊎_elim
          (λ (s : old.0 ≡ id).
          let l : IsListed v number b = subst (λ (x : ClaimsSeen). IsListed x number b) (one_view views id old.0 v old.1 here old.2 s) old.3 in
          let o = own number b l in
          (id, after, at_seat, after_lists number b o.0 (Contains-append_left p.claimed (i ∷ []) b o.1)))
          (λ (m : old.0 ≢ id). (old.0, old.1, set_else views id old.0 after m ∙ old.2, old.3))
          (cases_eq old.0 id))
          (cases_eq b i)

      pub claimed_keeps : KeepsClaims bounds now_ (set views id after)
      claimed_keeps = record {
        size = length-set words i (p.number + 1) ∙ h.size;
        owner = h.owner;
        agrees = λ j u at. ⊎_elim
            (λ (t : (j ≡ id) × (after ≡ u)). subst (λ (y : ℕ × ClaimsSeen). Agrees bounds now_ h.owner y.0 y.1) (λ k. (sym t.0 k, t.1 k)) after_agrees)
            (λ (t : (j ≢ id) × (get_elem? views j ≡ some u)). let f = h.agrees j u t.1 in record {
              parts = λ k r e. let g = f.parts k r e in (g.0, g.1, λ b c. kept b r.number (g.2 b c));
              others = λ b c z. let ne = f.others b c in ne (sym (same_word b ne) ∙ z);
            })
            (at_set views id j after u at);
        listed = listed_now;
      }

    -- the block was claimed
    module _ (had : slice_index words i ≢ 0) where
      abbrev refused : ClaimsSeen
      refused = tried v i false

      refused_at : get_elem? (set views id refused) id ≡ some refused
      refused_at = set_here views id refused (inside views id v here)

      pub refused_keeps : KeepsClaims bounds words (set views id refused)
      refused_keeps = record {
        size = h.size;
        owner = h.owner;
        agrees = λ j u at. ⊎_elim
            (λ (t : (j ≡ id) × (refused ≡ u)). subst (λ (y : ℕ × ClaimsSeen). Agrees bounds words h.owner y.0 y.1) (λ k. (sym t.0 k, t.1 k)) (record {
              parts = (h.agrees id v here).parts;
              others = λ b c. ⊎_elim (λ (d : Contains v.others b). (h.agrees id v here).others b d) (λ (e : i ≡ b) z.
                  had (ap (λ k. slice_index words k) e ∙ z)) (Contains-push_cases v.others i b c);
            }))
            (λ (t : (j ≢ id) × (get_elem? views j ≡ some u)). h.agrees j u t.1)
            (at_set views id j refused u at);
        listed = λ b number e.
            let old = h.listed b number e in
            ⊎_elim
            (λ (s : old.0 ≡ id).
            let l : IsListed v number b = subst (λ (x : ClaimsSeen). IsListed x number b) (one_view views id old.0 v old.1 here old.2 s) old.3 in
            (id, refused, refused_at, record { place = l.place; part = l.part; there = l.there; is = l.is; claimed = l.claimed }))
            (λ (m : old.0 ≢ id). (old.0, old.1, set_else views id old.0 refused m ∙ old.2, old.3))
            (cases_eq old.0 id);
      }

  -- a block's word is compared with 0 and exchanged
  module _ (slots id : ℕ) (me : Me (Unit {0}) ClaimsSeen) (bare : me.1 ≡ []) (marker i : ℕ) (is : IsMarker me.0 marker) (within : i < bounds.blocks) where
    step_as : (s : State (Unit {0}) ClaimsSeen) → holds s → get_elem? s.views id ≡ some me.0 → (hit : Bool) → eqb (slice_index s.words i) 0 ≡ hit →
        KeepsClaims bounds (set s.words i (either hit (marker + 1) (slice_index s.words i))) (set s.views id (tried me.0 i hit))
    step_as s h here true e =
        let long = h.size in
        subst (λ k. KeepsClaims bounds (set s.words i (k + 1)) (set s.views id (tried me.0 i true))) is.2
        (claimed_keeps s.words s.views h id me.0 here is.0 is.1 i (omega (arith, within, long)) (hit_is s.words e))
      where
        hit_is : (ws : List ℕ) → eqb (slice_index ws i) 0 ≡ true → slice_index ws i ≡ 0
        hit_is ws t = ⊎_elim (λ (z : slice_index ws i ≡ 0). z) (λ (n : slice_index ws i ≢ 0).
            absurd (true≢false (sym t ∙ ne_eqb (slice_index ws i) 0 n))) (cases_eq (slice_index ws i) 0)
    step_as s h here false e =
        subst (λ (ws : List ℕ). KeepsClaims bounds ws (set s.views id (tried me.0 i false))) (sym (word_again s.words i))
        (refused_keeps s.words s.views h id me.0 here is.0 is.1 i (λ z. true≢false (sym (eq-eqb (slice_index s.words i) 0 z) ∙ e)))

    pub claim_allows : Allows holds slots id me i (λ n. either (eqb n 0) (marker + 1) n) (λ n m. ((m.0 ≡ tried me.0 i (eqb n 0)) ×
        (n ≡ 0 → Contains (claimed_by me.0) i → ⊥)) × (m.1 ≡ []))
    claim_allows s h len here small =
        let n : ℕ = slice_index s.words i in
        let hit : Bool = eqb n 0 in
        (tried me.0 i hit, keeps, tt, step_as s h here hit refl, ((refl, fresh s.words s.views h id me.0 here is.0 is.1 i), bare))

  -- a seat gives its first marker to a new seat
  split_listed : (v : ClaimsSeen) (p : Part) (ps : List Part) → v.parts ≡ p ∷ ps → (number b : ℕ) → IsListed v number b →
      IsListed (gives_first v) number b ⊎ IsListed (keeps_rest v) number b
  split_listed v p ps e number b l = go l.place (ap (λ k. get_elem? k l.place) (sym e) ∙ l.there)
    where
      go : (k : ℕ) → get_elem? (p ∷ ps) k ≡ some l.part → IsListed (gives_first v) number b ⊎ IsListed (keeps_rest v) number b
      go zero a = inl (record { place = 0; part = l.part; there = ap (λ q. get_elem? (first_alone q) 0) e ∙ a; is = l.is; claimed = l.claimed })
      go (suc k) a = inr (record { place = k; part = l.part; there = ap (λ q. get_elem? (but_first q) k) e ∙ a; is = l.is; claimed = l.claimed })

  pub splits : (id : ℕ) (v : ClaimsSeen) → CanSplit v → Splits holds id v (keeps_rest v) (gives_first v)
  splits id v can s h here =
      let n : ℕ = length s.views in
      let p = can.0 in
      let ps = can.1 in
      let g = h.agrees id v here in
      let owner : ℕ → ℕ = λ k. cond (eqb k p.number) n (h.owner k) in
      let mine = g.parts 0 p (ap (λ l. get_elem? l 0) can.2) in
      let left = keeps_rest v in
      let right = gives_first v in
      let short : length (set s.views id left) ≡ n = length-set s.views id left in
      record {
        size = h.size;
        owner = owner;
        agrees = λ j u at. ⊎_elim
            (λ (t : (j < length (set s.views id left)) × (get_elem? (set s.views id left) j ≡ some u)). ⊎_elim
            (λ (x : (j ≡ id) × (left ≡ u)). subst (λ (y : ℕ × ClaimsSeen). Agrees bounds s.words owner y.0 y.1) (λ i. (sym x.0 i, x.1 i)) (record {
              parts = λ k q e.
                  let e' : get_elem? ps k ≡ some q = ap (λ l. get_elem? l k) (sym (ap but_first can.2)) ∙ e in
                  let f = g.parts (suc k) q (ap (λ l. get_elem? l (suc k)) can.2 ∙ e') in
                  (is_old q.number p.number n (h.owner q.number) (can.3 k q e') ∙ f.0, f.1, f.2);
              others = g.others;
            }))
            (λ (x : (j ≢ id) × (get_elem? s.views j ≡ some u)). let f = h.agrees j u x.1 in record {
              parts = λ k q e. let t = f.parts k q e in (
                is_old q.number p.number n (h.owner q.number) (λ (same : q.number ≡ p.number).
                    x.0 (sym t.0 ∙ ap h.owner same ∙ mine.0)) ∙ t.0,
                t.1,
                t.2,
              );
              others = f.others;
            })
            (at_set s.views id j left u t.1))
            (λ (t : (j ≡ length (set s.views id left)) × (right ≡ u)).
            subst (λ (y : ℕ × ClaimsSeen). Agrees bounds s.words owner y.0 y.1) (λ i. (sym (t.0 ∙ short) i, t.1 i)) (record {
              parts = λ k q e. only_one (λ (r : Part). (cond (eqb r.number p.number) n (h.owner r.number) ≡ n) × (r.number < bounds.markers) ×
                  ((b : ℕ) → Contains r.claimed b → slice_index s.words b ≡ r.number + 1)) p (
                    is_new p.number p.number n (h.owner p.number) refl,
                    mine.1,
                    mine.2,
                  ) k q (ap (λ l. get_elem? l k) (sym (ap first_alone can.2)) ∙ e);
              others = λ b c. absurd (nothing b c);
            }))
            (at_end (set s.views id left) right u j at);
        listed = λ b number e.
            let old = h.listed b number e in
            ⊎_elim
            (λ (x : old.0 ≡ id).
            let l : IsListed v number b = subst (λ (y : ClaimsSeen). IsListed y number b) (one_view s.views id old.0 v old.1 here old.2 x) old.3 in
            ⊎_elim
            (λ (f : IsListed right number b). (n, right, at_last (set s.views id left) right n short, f))
            (λ (f : IsListed left number b). (
              id,
              left,
              at_longer (set s.views id left) (right ∷
                  []) id left (set_here s.views id left (inside s.views id v here)),
              f,
            ))
            (split_listed v p ps can.2 number b l))
            (λ (m : old.0 ≢ id). (old.0, old.1, at_longer (set s.views id left) (right ∷ []) old.0 old.1 (set_else s.views id old.0 left m ∙ old.2), old.3))
            (cases_eq old.0 id);
      }

  -- a seat takes in another's parts
  pub joins : (id : ℕ) (v : ClaimsSeen) (other : ℕ) (w : ClaimsSeen) → Joins holds id v other w (together v w) nobody
  joins id v other w s h here apart at =
      let both : ClaimsSeen = together v w in
      let there : get_elem? s.views other ≡ some w = ⊎_elim (λ (t : (other ≡ id) × (both ≡ w)). absurd (apart t.0)) (λ (t : (other ≢ id) ×
      (get_elem? s.views other ≡ some w)). t.1) (at_set s.views id other both w at) in
      let owner : ℕ → ℕ = λ k. cond (eqb (h.owner k) other) id (h.owner k) in
      let f = h.agrees id v here in
      let g = h.agrees other w there in
      let mine : get_elem? (set (set s.views id both) other nobody) id ≡ some both =
      set_else (set s.views id both) other id nobody (λ (e : id ≡ other). apart (sym e)) ∙ set_here s.views id both (inside s.views id v here) in
      record {
        size = h.size;
        owner = owner;
        agrees = λ j u a. ⊎_elim
            (λ (x : (j ≡ other) × (nobody ≡ u)). subst (λ (y : ℕ × ClaimsSeen). Agrees bounds s.words owner y.0 y.1) (λ i. (
              sym x.0 i,
              x.1 i,
            )) (nobody_agrees s.words owner other))
            (λ (x : (j ≢ other) × (get_elem? (set s.views id both) j ≡ some u)). ⊎_elim
            (λ (y : (j ≡ id) × (both ≡ u)). subst (λ (z : ℕ × ClaimsSeen). Agrees bounds s.words owner z.0 z.1) (λ i. (sym y.0 i, y.1 i)) (record {
              parts = λ k q e. ⊎_elim
                  (λ (t : get_elem? v.parts k ≡ some q). let r = f.parts k q t in
                  (is_old (h.owner q.number) other id (h.owner q.number) (λ (e' : h.owner q.number ≡ other). apart (sym e' ∙ r.0)) ∙ r.0, r.1, r.2))
                  (λ (t : (i : ℕ) × (get_elem? w.parts i ≡ some q)). let r = g.parts t.0 q t.1 in
                  (is_new (h.owner q.number) other id (h.owner q.number) r.0, r.1, r.2))
                  (in_either v.parts w.parts k q e);
              others = λ b c. ⊎_elim (λ (d : Contains v.others b). f.others b d) (λ (d : Contains w.others b).
                  g.others b d) (Contains-append_cases v.others w.others b c);
            }))
            (λ (y : (j ≢ id) × (get_elem? s.views j ≡ some u)). let o = h.agrees j u y.1 in record {
              parts = λ k q e. let r = o.parts k q e in (
                is_old (h.owner q.number) other id (h.owner q.number) (λ (e' : h.owner q.number ≡ other).
                    x.0 (sym r.0 ∙ e')) ∙ r.0,
                r.1,
                r.2,
              );
              others = o.others;
            })
            (at_set s.views id j both u x.1))
            (at_set (set s.views id both) other j nobody u a);
        listed = λ b number e.
            let old = h.listed b number e in
            ⊎_elim
            (λ (x : old.0 ≡ id).
            let l : IsListed v number b = subst (λ (y : ClaimsSeen). IsListed y number b) (one_view s.views id old.0 v old.1 here old.2 x) old.3 in (
              id,
              both,
              mine,
              record {
                place = l.place;
                part = l.part;
                there = at_longer v.parts w.parts l.place l.part l.there;
                is = l.is;
                claimed = l.claimed;
              },
            ))
            (λ (m : old.0 ≢ id). ⊎_elim
            (λ (x : old.0 ≡ other).
            let l : IsListed w number b = subst (λ (y : ClaimsSeen). IsListed y number b) (one_view s.views other old.0 w old.1 there old.2 x) old.3 in
            let t = at_later v.parts w.parts l.place l.part l.there in
            (id, both, mine, record { place = t.0; part = l.part; there = t.1; is = l.is; claimed = l.claimed }))
            (λ (k : old.0 ≢ other). (old.0, old.1, set_else (set s.views id both) other old.0 nobody k ∙ set_else s.views id old.0 both m ∙ old.2, old.3))
            (cases_eq old.0 other))
            (cases_eq old.0 id);
      }

  -- a table in which no block is claimed
  blanks_at : (n m k : ℕ) (p : Part) → get_elem? (blanks n m) k ≡ some p → (p.number < n + m) × (p.claimed ≡ [])
  blanks_at n zero k p e = absurd (some-ne-none p (sym e))
  blanks_at n (suc m) zero p e = subst (λ (q : Part). (q.number < n + suc m) × (q.claimed ≡ [])) (some-injective (blank n) p e) ((omega arith), refl)
  blanks_at n (suc m) (suc k) p e = let t = blanks_at (suc n) m k p e in let lt = t.0 in ((omega arith), t.1)

  pub begins : KeepsClaims bounds (replicate bounds.blocks 0) (whole bounds.markers ∷ [])
  begins = record {
    size = length-replicate bounds.blocks 0;
    owner = λ k. 0;
    agrees = first;
    listed = λ b number e. let z = unmarked bounds.blocks b in absurd (omega (arith, e, z));
  }
    where
      first : (id : ℕ) (v : ClaimsSeen) → get_elem? (whole bounds.markers ∷ []) id ≡ some v → Agrees bounds (replicate bounds.blocks 0) (λ k. 0) id v
      first zero v e = subst (λ (u : ClaimsSeen). Agrees bounds (replicate bounds.blocks 0) (λ k. 0) 0 u) (some-injective (whole bounds.markers) v e) (record {
        parts = λ k p e'. let t = blanks_at 0 bounds.markers k p e' in
            (refl, (let lt = t.0 in omega arith), λ b c. absurd (nothing b (subst (λ (l : List ℕ). Contains l b) t.1 c)));
        others = λ b c. absurd (nothing b c);
      })
      first (suc id) v e = absurd (some-ne-none v (sym e))

  -- a seat with every part knows the marker of each block
  module _ (s : State (Unit {0}) ClaimsSeen) (h : holds s) (id : ℕ) (v : ClaimsSeen) (here : get_elem? s.views id ≡ some v) (all : HasAll bounds.markers v) where
    all_here : (number b : ℕ) → slice_index s.words b ≡ number + 1 → (k : ℕ) × (p : Part) × (get_elem? v.parts k ≡ some p) × Contains p.claimed b
    all_here number b e =
        let old = h.listed b number e in
        let l : IsListed old.1 number b = old.3 in
        let r = (h.agrees old.0 old.1 old.2).parts l.place l.part l.there in
        let t = all l.part.number r.1 in
        let q = (h.agrees id v here).parts t.0 t.1 t.2 in
        let same : old.0 ≡ id = sym r.0 ∙ ap h.owner (sym t.3) ∙ q.0 in
        let k : IsListed v number b = subst (λ (y : ClaimsSeen). IsListed y number b) (one_view s.views id old.0 v old.1 here old.2 same) l in
        (k.place, k.part, k.there, k.claimed)

    pub shared : IsShared v
    shared = record {
      apart = λ j k p q b ep eq cp cq.
          let a : slice_index s.words b ≡ p.number + 1 = ((h.agrees id v here).parts j p ep).2 b cp in
          let c : slice_index s.words b ≡ q.number + 1 = ((h.agrees id v here).parts k q eq).2 b cq in
          omega (arith, a, c);
      found = λ b c.
          let ne = (h.agrees id v here).others b c in
          all_here (slice_index s.words b - 1) b (⊎_elim (λ (z : slice_index s.words b ≡ 0). absurd (ne z)) (λ (n : slice_index s.words b ≢ 0).
          omega arith) (cases_eq (slice_index s.words b) 0));
    }

  pub final : (id : ℕ) (v : ClaimsSeen) (words : List ℕ) (slots : List (Unit {0})) → HasAll bounds.markers v → Final (SeenIn holds id v) words slots → IsShared v
  final id v words slots all f = shared f.0 f.1.0 id v f.1.1 all
