-- The slices of workers that asked programs, as slices of a script that has the commands given.
use Rattle.nmgc_cycle.proofs.Vocabulary.{ℕ, ◌≡◌, ◌++◌, ◌∙◌, List, map, length, slice_get, slice_index_or, Option, Some, refl, sym, ap, subst, arith, slice_get_within, get_or_from_slice_get, Command, Reply, Done, Round, Script, Worker, HasWorkedOn, HaveAllWorked, HasAskedOn, HaveAskedAll, left_at, Continues, GaveEach, GaveSome, item, item_map, length-map, All-nil, Fits, no_done, MayComeAfter}
use Rattle.nmgc_cycle.proofs.{lists.Items.chosen, rounds.AskedParts.worked_as_asked}
use Rattle.nmgc_cycle.specs.Programs.{GaveOn}

module _ {P : Type 0} (next : P → Option Command) (steps : P → Reply → P → Type 0) (words most : P → ℕ) (valid : P → Type 0) (round : Round) (slice : ℕ)
    (was new : List Worker) (ps qs : List P) (counted : length ps ≡ length was) (asked : HaveAskedAll next steps words most valid round slice was new ps qs) where
  -- worker k did these commands of program k
  pub record IsDone (k : ℕ) (x : Worker) (d : List Done) : Type 0 where
    pub old : Worker
    pub old_is : slice_get was k ≡ Some old
    pub p : P
    pub p_is : slice_get ps k ≡ Some p
    pub q : P
    pub q_is : slice_get qs k ≡ Some q
    pub did : HasAskedOn next steps words most valid round slice old x p q
    pub done_is : did.asked.done ≡ d

  one : (k : ℕ) (x : Worker) → slice_get new k ≡ Some x → (d : List Done) × IsDone k x d
  one k x e =
      let within = slice_get_within new k x e in
      let workers = asked.workers in
      let programs = asked.programs in
      let m = item was k (omega (arith, within, workers)) in
      let p = item ps k (omega (arith, within, workers, counted)) in
      let q = item qs k (omega (arith, within, workers, counted, programs)) in
      let h : HasAskedOn next steps words most valid round slice m.0 x p.0 q.0 =
      subst (λ (v : P). HasAskedOn next steps words most valid round slice m.0 x p.0 v) (get_or_from_slice_get qs k q.0 p.0 q.1)
      (subst (λ (v : P). HasAskedOn next steps words most valid round slice m.0 x v (slice_index_or qs k p.0)) (get_or_from_slice_get ps k p.0 p.0 p.1)
      (subst (λ (v : Worker). HasAskedOn next steps words most valid round slice m.0 v (slice_index_or ps k p.0) (slice_index_or qs k p.0))
      (get_or_from_slice_get new k x x e)
      (subst (λ (v : Worker). HasAskedOn next steps words most valid round slice v (slice_index_or new k x) (slice_index_or ps k p.0) (slice_index_or qs k p.0))
      (get_or_from_slice_get was k m.0 x m.1) (asked.each k x p.0 (omega (arith, within, workers)))))) in
      (h.asked.done, record { old = m.0; old_is = m.1; p = p.0; p_is = p.1; q = q.0; q_is = q.1; did = h; done_is = refl })

  -- the commands that each program gave, with the replies
  pub all_done : (done : List (List Done)) × (length done ≡ length new) × ((k : ℕ) (x : Worker) (d : List Done) → slice_get new k ≡ Some x →
      slice_get done k ≡ Some d → IsDone k x d)
  all_done = chosen IsDone new one

  -- a worker's program gave the commands that the worker did
  gave_on : (k : ℕ) (x : Worker) (p q : P) (d : List Done) → IsDone k x d → slice_get ps k ≡ Some p → slice_get qs k ≡ Some q →
      GaveOn next steps words most valid p q d
  gave_on k x p q d h e f =
      let p_there = h.p_is in
      let q_there = h.q_is in
      let p_same : h.p ≡ p = cc (p_there, e) in
      let q_same : h.q ≡ q = cc (q_there, f) in
      rw (← p_same) (rw (← q_same) (rw (← h.done_is) (record {
        gives = h.did.asked.gives;
        fit = h.did.asked.fit;
        valid_is = h.did.valid_is;
        words_are = h.did.words_are;
        fewer = (let n = h.did.asked.count_is in let few = h.did.fewer in omega (arith, n, few));
      })))

  pub all_gave : GaveEach next steps words most valid ps qs all_done.0
  all_gave = record {
    programs = asked.programs;
    count = all_done.1 ∙ asked.workers ∙ sym counted;
    each = λ k p q d e f g.
        let within = slice_get_within all_done.0 k d g in
        let x = item new k (let n = all_done.1 in omega (arith, within, n)) in
        gave_on k x.0 p q d (all_done.2 k x.0 d x.1 g) e f;
  }

  -- the numbers of commands, and the replies
  pub all_counts : (k : ℕ) (o x : Worker) (d : List Done) → slice_get was k ≡ Some o → slice_get new k ≡ Some x → slice_get all_done.0 k ≡ Some d →
      (x.done ≡ length d) × (x.mutator.replies.items ≡ o.mutator.replies.items ++ map (λ (y : Done). y.1) d)
  all_counts k o x d e f g =
      let h = all_done.2 k x d f g in
      let there = h.old_is in
      let old : h.old ≡ o = cc (there, e) in (
        sym h.did.asked.count_is ∙ ap (λ (l : List Done). length l) h.done_is,
        h.did.asked.run.replies ∙ ap (λ (w : Worker). w.mutator.replies.items ++ map (λ (y : Done). y.1) h.did.asked.done) old
            ∙ ap (λ (l : List Done). o.mutator.replies.items ++ map (λ (y : Done). y.1) l) h.done_is,
      )

  -- each worker did its slice of a script that has these commands
  pub all_worked : (script : Script) (positions : List ℕ) → slice ≡ script.config.slice → Continues next script positions qs all_done.0 →
      HaveAllWorked round script positions was new
  all_worked script positions slice_is on = record {
    count = asked.workers;
    each = λ k w lt.
        let x = item new k (let n = asked.workers in omega (arith, lt, n)) in
        let d = item all_done.0 k (let n = all_done.1 in let within = slice_get_within new k x.0 x.1 in omega (arith, within, n)) in
        let h = all_done.2 k x.0 d.0 x.1 d.1 in
        let rest = on k h.q d.0 h.q_is d.1 in
        let did : HasWorkedOn round slice (map (λ (y : Done). y.0) h.did.asked.done ++ rest.0) h.old x.0 =
        worked_as_asked next steps words most valid round slice h.old x.0 h.p h.q h.did rest.0
        (subst (λ (l : List Done). MayComeAfter slice (next h.q) (map (λ (y : Done). y.0) l) rest.0) (sym h.done_is)
        (subst (λ (n : ℕ). MayComeAfter n (next h.q) (map (λ (y : Done). y.0) d.0) rest.0) (sym slice_is) rest.2)) in
        let left : map (λ (y : Done). y.0) h.did.asked.done ++ rest.0 ≡ left_at script positions k =
        ap (λ (l : List Done). map (λ (y : Done). y.0) l ++ rest.0) h.done_is ∙ sym rest.1 in
        let old_there = get_or_from_slice_get was k h.old w h.old_is in
        let new_there = get_or_from_slice_get new k x.0 w x.1 in
        subst (λ (v : Worker). HasWorkedOn round script.config.slice (left_at script positions k) (slice_index_or was k w) v) (sym new_there)
        (subst (λ (v : Worker). HasWorkedOn round script.config.slice (left_at script positions k) v x.0) (sym old_there)
        (subst (λ (l : List Command). HasWorkedOn round script.config.slice l h.old x.0) left
        (subst (λ (n : ℕ). HasWorkedOn round n (map (λ (y : Done). y.0) h.did.asked.done ++ rest.0) h.old x.0) slice_is did)));
  }

-- programs that weren't asked
pub none_given : {P : Type 0} (next : P → Option Command) (steps : P → Reply → P → Type 0) (words most : P → ℕ) (valid : P → Type 0) (ps : List P) →
    ((k : ℕ) (p : P) → slice_get ps k ≡ Some p → valid p) → GaveEach next steps words most valid ps ps (map (λ (p : P). no_done) ps)
none_given {P} next steps words most valid ps are = record {
  programs = refl;
  count = length-map ps (λ (p : P). no_done);
  each = λ k p q d e f g.
      let there : slice_get (map (λ (p : P). no_done) ps) k ≡ Some no_done = item_map (λ (p : P). no_done) ps k p e in
      let none : no_done ≡ d = cc (there, g) in
      let same : p ≡ q = cc (e, f) in
      rw (← none) (rw (← same) (record { gives = refl; fit = All-nil (Fits (words p)); valid_is = are k p e; words_are = refl; fewer = omega arith }));
}

pub gave_none : {P : Type 0} (next : P → Option Command) (steps : P → Reply → P → Type 0) (words most : P → ℕ) (valid : P → Type 0) (ps : List P) →
    ((k : ℕ) (p : P) → slice_get ps k ≡ Some p → valid p) → GaveSome next steps words most valid ps ps
gave_none {P} next steps words most valid ps are = (map (λ (p : P). no_done) ps, none_given next steps words most valid ps are)
