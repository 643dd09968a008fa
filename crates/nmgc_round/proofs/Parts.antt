-- Seats are split and joined, and a seat with every part ends the round.
use Rattle.nmgc_round.proofs.Vocabulary.{◌≡◌, ◌≢◌, ◌⊎◌, inl, inr, ⊎_elim, ℕ, zero, suc, ◌<◌, Bool, true, false, cond, ◌||◌, ◌==◌, List, [], ◌∷◌, ◌++◌, length, refl, sym, ap, ◌∙◌, subst, set, arith, eq-eqb, ne_eqb, length-set, true≢false, some, some-injective, some-ne-none, get_elem?, Splits, Joins, at_set, word_total, Happening, done_by, scans_in, marks_of, marks_after, Opening, Part, Seen, exclusive, nobody, Object, IsIn, Stays, now, AllRead, Fits, Rests, IsActive, IsIdle, Agrees, Keeps, Stopped, IsFinished, HasAll, keeps_rest, gives_first, mutates, collecting, together, CanSplit}
use Rattle.atomic_table.specs.Table.{State}
use Rattle.nmgc_round.proofs.Keeping.{only_one}
use Rattle.nmgc_lists.specs.laws.Truths.{false_of}

module _ {A : Type 0} where
  -- at the last position, or before
  at_end : (l : List A) (a b : A) (j : ℕ) → get_elem? (l ++ a ∷ []) j ≡ some b → ((j < length l) × (get_elem? l j ≡ some b)) ⊎ ((j ≡ length l) × (a ≡ b))
  at_end [] a b zero e = inr (refl, some-injective a b e)
  at_end [] a b (suc j) e = absurd (some-ne-none b (sym e))
  at_end (x ∷ xs) a b zero e = inl ((omega arith), e)
  at_end (x ∷ xs) a b (suc j) e = ⊎_elim (λ (t : (j < length xs) × (get_elem? xs j ≡ some b)). let h = t.0 in
      inl ((omega arith), t.1)) (λ (t : (j ≡ length xs) × (a ≡ b)). inr (ap suc t.0, t.1)) (at_end xs a b j e)

  -- in one list or the other
  in_either : (xs ys : List A) (j : ℕ) (b : A) → get_elem? (xs ++ ys) j ≡ some b → (get_elem? xs j ≡ some b) ⊎ ((k : ℕ) × (get_elem? ys k ≡ some b))
  in_either [] ys j b e = inr (j, e)
  in_either (x ∷ xs) ys zero b e = inl e
  in_either (x ∷ xs) ys (suc j) b e = in_either xs ys j b e

is_new : (a b x y : ℕ) → a ≡ b → cond (a == b) x y ≡ x
is_new a b x y e = ap (λ t. cond t x y) (eq-eqb a b e)

is_old : (a b x y : ℕ) → a ≢ b → cond (a == b) x y ≡ y
is_old a b x y n = ap (λ t. cond t x y) (ne_eqb a b n)

-- a seat with no part agrees with everything
pub idle_agrees : (o : Opening) (born : List Object) (words : List ℕ) (es : List Happening) (owner : ℕ → ℕ) (scanner id : ℕ) (v : Seen) → IsIdle v →
    Agrees o born words es owner scanner id v
idle_agrees o born words es owner scanner id v idle = record {
  shares = idle.0;
  opening = λ a. absurd (⊎_elim (λ (t : (k : ℕ) × (p : Part) × (get_elem? v.parts k ≡ some p)). some-ne-none t.1 (cc (t.2, idle.1))) (λ (on : v.collects ≡ true). true≢false (sym on ∙ idle.2)) a);
  parts = λ k p e. absurd (some-ne-none p (cc (e, idle.1)));
  scans = λ on. absurd (true≢false (sym on ∙ idle.2));
}

module _ (o : Opening) where
  abbrev holds : State (Unit {0}) Seen → Type 0
  holds s = Keeps o s.words s.views

  -- a seat gives its first mutator to a new seat
  pub splits_law : (id : ℕ) (v : Seen) → CanSplit v → (s : State (Unit {0}) Seen) (h : holds s) → get_elem? s.views id ≡ some v →
      Stays o s.words s.views h s.words (set s.views id (keeps_rest v) ++ gives_first v ∷ [])
  splits_law id v can s h here =
      let n : ℕ = length s.views in
      let p = can.0 in
      let ps = can.1 in
      let g = h.agrees id v here in
      let is_o : v.opening ≡ o = g.opening (inl (0, p, ap (λ l. get_elem? l 0) can.2)) in
      let owner : ℕ → ℕ = λ k. cond (k == p.number) n (h.owner k) in
      let mine = g.parts 0 p (ap (λ l. get_elem? l 0) can.2) in
      let left = keeps_rest v in
      let right = gives_first v in
      let short : length (set s.views id left) ≡ n = length-set s.views id left in (
        record {
          events = h.events;
          born = h.born;
          is = h.is;
          placed = h.placed;
          shared = h.shared;
          new = h.new;
          known = h.known;
          queued = h.queued;
          owner = owner;
          scanner = h.scanner;
          legal = h.legal;
          stands = h.stands;
          agrees = λ j u at. ⊎_elim
              (λ (t : (j < length (set s.views id left)) × (get_elem? (set s.views id left) j ≡ some u)). ⊎_elim
              (λ (x : (j ≡ id) × (left ≡ u)). subst (λ (y : ℕ × Seen). Agrees o h.born s.words h.events owner h.scanner y.0 y.1) (λ i. (sym x.0 i, x.1 i))
              (record {
                shares = g.shares;
                opening = λ _. is_o;
                parts = λ k q e.
                    let e' : get_elem? ps k ≡ some q = cc (can.2, e) in
                    let f = g.parts (suc k) q (cc (can.2, e')) in
                    (is_old q.number p.number n (h.owner q.number) (can.3 k q e') ∙ f.0, f.1, f.2);
                scans = g.scans;
              }))
              (λ (x : (j ≢ id) × (get_elem? s.views j ≡ some u)). let f = h.agrees j u x.1 in record {
                shares = f.shares;
                opening = f.opening;
                parts = λ k q e. let t = f.parts k q e in (
                  is_old q.number p.number n (h.owner q.number) (λ (same : q.number ≡ p.number).
                      x.0 (sym t.0 ∙ ap h.owner same ∙ mine.0)) ∙ t.0,
                  t.1,
                  t.2,
                );
                scans = f.scans;
              })
              (at_set s.views id j left u t.1))
              (λ (t : (j ≡ length (set s.views id left)) × (right ≡ u)).
              subst (λ (y : ℕ × Seen). Agrees o h.born s.words h.events owner h.scanner y.0 y.1) (λ i. (sym (t.0 ∙ short) i, t.1 i))
              (record {
                shares = g.shares;
                opening = λ _. is_o;
                parts = λ k q e. only_one (λ (r : Part). (cond (r.number == p.number) n (h.owner r.number) ≡ n) ×
                    Fits o h.born (now o h.events) (done_by r.number h.events) r ×
                    Rests o h.born s.words r) p (
                      is_new p.number p.number n (h.owner p.number) refl,
                      mine.1,
                      mine.2,
                    ) k q (cc (can.2, e));
                scans = λ off. absurd (true≢false (sym off));
              }))
              (at_end (set s.views id left) right u j at);
        },
        refl,
      )

  pub splits : (id : ℕ) (v : Seen) → CanSplit v → Splits holds id v (keeps_rest v) (gives_first v)
  splits id v can s h here = (splits_law id v can s h here).0

  -- a seat gives the collector's part to a new seat
  pub splits_collector_law : (id : ℕ) (v : Seen) → v.collects ≡ true → (s : State (Unit {0}) Seen) (h : holds s) → get_elem? s.views id ≡ some v →
      Stays o s.words s.views h s.words (set s.views id (mutates v) ++ collecting v ∷ [])
  splits_collector_law id v on s h here =
      let n : ℕ = length s.views in
      let g = h.agrees id v here in
      let left = mutates v in
      let right = collecting v in
      let short : length (set s.views id left) ≡ n = length-set s.views id left in (
        record {
          events = h.events;
          born = h.born;
          is = h.is;
          placed = h.placed;
          shared = h.shared;
          new = h.new;
          known = h.known;
          queued = h.queued;
          owner = h.owner;
          scanner = n;
          legal = h.legal;
          stands = h.stands;
          agrees = λ j u at. ⊎_elim
              (λ (t : (j < length (set s.views id left)) × (get_elem? (set s.views id left) j ≡ some u)). ⊎_elim
              (λ (x : (j ≡ id) × (left ≡ u)). subst (λ (y : ℕ × Seen). Agrees o h.born s.words h.events h.owner n y.0 y.1) (λ i. (sym x.0 i, x.1 i))
              (record { shares = g.shares; opening = λ _. g.opening (inr on); parts = g.parts; scans = λ off. absurd (true≢false (sym off)) }))
              (λ (x : (j ≢ id) × (get_elem? s.views j ≡ some u)). let f = h.agrees j u x.1 in record {
                shares = f.shares;
                opening = f.opening;
                parts = f.parts;
                scans = λ on'. absurd (x.0 (sym (f.scans on').0 ∙ (g.scans on).0));
              })
              (at_set s.views id j left u t.1))
              (λ (t : (j ≡ length (set s.views id left)) × (right ≡ u)).
              subst (λ (y : ℕ × Seen). Agrees o h.born s.words h.events h.owner n y.0 y.1) (λ i. (sym (t.0 ∙ short) i, t.1 i))
              (record {
                shares = g.shares;
                opening = λ _. g.opening (inr on);
                parts = λ k q e. absurd (some-ne-none q (sym e));
                scans = λ _. (refl, (g.scans on).1, (g.scans on).2);
              }))
              (at_end (set s.views id left) right u j at);
        },
        refl,
      )

  pub splits_collector : (id : ℕ) (v : Seen) → v.collects ≡ true → Splits holds id v (mutates v) (collecting v)
  splits_collector id v on s h here = (splits_collector_law id v on s h here).0

  -- the views except the two that change
  module _ (s : State (Unit {0}) Seen) (h : Keeps o s.words s.views) (id other : ℕ) (v w : Seen) (here : get_elem? s.views id ≡
      some v) (apart : ¬ (other ≡ id)) (there : get_elem? s.views other ≡ some w) (same : v.opening ≡ w.opening) where
    abbrev owner' : ℕ → ℕ
    owner' n = cond (h.owner n == other) id (h.owner n)

    abbrev scanner' : ℕ
    scanner' = cond w.collects id h.scanner

    both_scans : (b c : Bool) → (v.collects ≡ true → (h.scanner ≡ id) × AllRead (IsIn o h.born) v.scans (scans_in h.events) ×
        (marks_of (now o h.events) ≡ marks_after o v.scans)) → v.collects ≡ b →
        (w.collects ≡ true → (h.scanner ≡ other) × AllRead (IsIn o h.born) w.scans (scans_in h.events) ×
        (marks_of (now o h.events) ≡ marks_after o w.scans)) → w.collects ≡ c
        → b || c ≡ true → (cond c id h.scanner ≡ id) × AllRead (IsIn o h.born) (cond c w.scans v.scans) (scans_in h.events) ×
        (marks_of (now o h.events) ≡ marks_after o (cond c w.scans v.scans))
    both_scans b true f e g e' t = (refl, (g e').1, (g e').2)
    both_scans true false f e g e' t = f e
    both_scans false false f e g e' t = absurd (true≢false (sym t))

    kept_scans : (u : Seen) (j : ℕ) (c : Bool) → j ≢ other → j ≢ id →
        (u.collects ≡ true → (h.scanner ≡ j) × AllRead (IsIn o h.born) u.scans (scans_in h.events) ×
        (marks_of (now o h.events) ≡ marks_after o u.scans)) →
        (w.collects ≡ true → (h.scanner ≡ other) × AllRead (IsIn o h.born) w.scans (scans_in h.events) ×
        (marks_of (now o h.events) ≡ marks_after o w.scans)) → w.collects ≡ c
        → u.collects ≡ true → (cond c id h.scanner ≡ j) × AllRead (IsIn o h.born) u.scans (scans_in h.events) ×
        (marks_of (now o h.events) ≡ marks_after o u.scans)
    kept_scans u j true n n' f g e on = absurd (n (sym (f on).0 ∙ (g e).0))
    kept_scans u j false n n' f g e on = f on

    either_collects : (b c : Bool) → v.collects ≡ b → w.collects ≡ c → b || c ≡ true → v.opening ≡ o
    either_collects true c e e' t = (h.agrees id v here).opening (inr e)
    either_collects false true e e' t = same ∙ (h.agrees other w there).opening (inr e')
    either_collects false false e e' t = absurd (true≢false (sym t))

    either_acts : IsActive (together v w) → v.opening ≡ o
    either_acts = ⊎_elim
        (λ (t : (k : ℕ) × (p : Part) × (get_elem? (v.parts ++ w.parts) k ≡ some p)). ⊎_elim
        (λ (e : get_elem? v.parts t.0 ≡ some t.1). (h.agrees id v here).opening (inl (t.0, t.1, e)))
        (λ (e : (i : ℕ) × (get_elem? w.parts i ≡ some t.1)). same ∙ (h.agrees other w there).opening (inl (e.0, t.1, e.1)))
        (in_either v.parts w.parts t.0 t.1 t.2))
        (λ (on : v.collects || w.collects ≡ true). either_collects v.collects w.collects refl refl on)

    joined : Agrees o h.born s.words h.events owner' scanner' id (together v w)
    joined =
        let f = h.agrees id v here in
        let g = h.agrees other w there in record {
          shares = f.shares;
          opening = either_acts;
          parts = λ k q at. ⊎_elim
              (λ (t : get_elem? v.parts k ≡ some q). let x = f.parts k q t in
              (is_old (h.owner q.number) other id (h.owner q.number) (λ (e : h.owner q.number ≡ other). apart (sym e ∙ x.0)) ∙ x.0, x.1, x.2))
              (λ (t : (i : ℕ) × (get_elem? w.parts i ≡ some q)). let x = g.parts t.0 q t.1 in
              (is_new (h.owner q.number) other id (h.owner q.number) x.0, x.1, x.2))
              (in_either v.parts w.parts k q at);
          scans = λ on. both_scans v.collects w.collects f.scans refl g.scans refl on;
        }

    pub merged : Stays o s.words s.views h s.words (set (set s.views id (together v w)) other nobody)
    merged = (
      record {
        events = h.events;
        born = h.born;
        is = h.is;
        placed = h.placed;
        shared = h.shared;
        new = h.new;
        known = h.known;
        queued = h.queued;
        owner = owner';
        scanner = scanner';
        legal = h.legal;
        stands = h.stands;
        agrees = λ j u at. ⊎_elim
            (λ (x : (j ≡ other) × (nobody ≡ u)). subst (λ (y : ℕ × Seen). Agrees o h.born s.words h.events owner' scanner' y.0 y.1) (λ i. (sym x.0 i, x.1 i))
            (idle_agrees o h.born s.words h.events owner' scanner' other nobody (refl, refl, refl)))
            (λ (x : (j ≢ other) × (get_elem? (set s.views id (together v w)) j ≡ some u)). ⊎_elim
            (λ (y : (j ≡ id) × (together v w ≡ u)). subst (λ (z : ℕ × Seen). Agrees o h.born s.words h.events owner' scanner' z.0 z.1) (λ i.
            (sym y.0 i, y.1 i)) joined)
            (λ (y : (j ≢ id) × (get_elem? s.views j ≡ some u)). let f = h.agrees j u y.1 in record {
              shares = f.shares;
              opening = f.opening;
              parts = λ k q e. let t = f.parts k q e in (
                is_old (h.owner q.number) other id (h.owner q.number) (λ (e' : h.owner q.number ≡ other).
                    x.0 (sym t.0 ∙ e')) ∙ t.0,
                t.1,
                t.2,
              );
              scans = λ on. kept_scans u j w.collects x.0 y.0 f.scans (h.agrees other w there).scans refl on;
            })
            (at_set s.views id j (together v w) u x.1))
            (at_set (set s.views id (together v w)) other j nobody u at);
      },
      refl,
    )

  -- a seat takes in another's parts
  pub joins : (id : ℕ) (v : Seen) (other : ℕ) (w : Seen) → v.opening ≡ w.opening → Joins holds id v other w (together v w) nobody
  joins id v other w same s h here apart at =
      let there : get_elem? s.views other ≡ some w = ⊎_elim (λ (t : (other ≡ id) × (together v w ≡ w)). absurd (apart t.0)) (λ (t : (other ≢ id) ×
      (get_elem? s.views other ≡ some w)). t.1) (at_set s.views id other (together v w) w at) in
      (merged s h id other v w here apart there same).0

  -- a round ends: the other seats have no part, and there is a list of events whose world the words represent
  module _ (words : List ℕ) (views : List Seen) (h : Keeps o words views) (id : ℕ) (v : Seen) (here : get_elem? views id ≡ some v) (all : HasAll v) where
    is_o : v.opening ≡ o
    is_o = (h.agrees id v here).opening (inr all.0)

    owned : (m : ℕ) → m < o.layout.mutators → h.owner m ≡ id
    owned m l =
        let e = h.is.mutators in
        let t = all.1 m (rw is_o (omega arith)) in
        ap h.owner (sym t.3) ∙ ((h.agrees id v here).parts t.0 t.1 t.2).0

    none_there : (l : List Part) → ((k : ℕ) (p : Part) → get_elem? l k ≡ some p → ⊥) → l ≡ []
    none_there [] f = refl
    none_there (p ∷ ps) f = absurd (f 0 p refl)

    alone_left : (j : ℕ) (u : Seen) → j ≢ id → get_elem? views j ≡ some u → IsIdle u
    alone_left j u n at =
        let f = h.agrees j u at in (
          f.shares,
          none_there u.parts (λ k p e. let t = f.parts k p e in n (sym t.0 ∙ owned p.number t.2.exists)),
          false_of u.collects (λ on. n (sym (f.scans on).0 ∙ ((h.agrees id v here).scans all.0).0)),
        )

    pub closes : Stopped words (set views id (exclusive words))
    closes = record {
      holder = id;
      each = λ j u at. ⊎_elim
          (λ (t : (j ≡ id) × (exclusive words ≡ u)). inl (t.0, sym t.1))
          (λ (t : (j ≢ id) × (get_elem? views j ≡ some u)). inr (alone_left j u t.0 t.1))
          (at_set views id j (exclusive words) u at);
    }

    pub ends_law : (n : IsFinished o words v) × (n.events ≡ h.events)
    ends_law =
        let g = h.agrees id v here in (
          record {
            is = h.is;
            placed = h.placed;
            events = h.events;
            born = h.born;
            legal = h.legal;
            stands = h.stands;
            shared = h.shared;
            new = h.new;
            known = h.known;
            queued = h.queued;
            parts = λ k p e. let t = g.parts k p e in (t.1, t.2);
            scans = λ on. let t = g.scans on in (t.1, t.2);
          },
          refl,
        )

    pub ends : IsFinished v.opening words v
    ends = subst (λ (y : Opening). IsFinished y words v) (sym is_o) ends_law.0

    pub long : length words ≡ word_total v.opening.layout
    long = cc (h.stands.total, is_o)
