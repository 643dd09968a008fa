-- Workers that ask programs, in parts: each part may if all may, and all have if each part has.
use Rattle.nmgc_cycle.proofs.Vocabulary.{ℕ, ◌≡◌, ◌+◌, ◌-◌, ◌<◌, List, [], ◌∷◌, ◌++◌, map, Option, refl, sym, subst, ap, ◌∙◌, length, slice_index_or, get_or, length-append, arith, inl, inr, cases_lt, get_or_append_left, get_or-append-add, get_or-append_right, Command, Reply, Round, Worker, CanAsk, HasAskedOn, CanAskAll, HaveAskedAll, MayComeAfter, length-map, take_at, HasWorkedOn}
use Rattle.nmgc_cycle.proofs.rounds.EndedSlices.{ended_any, some_follow}

module _ {A : Type 0} {B : Type 0} (R : A → A → B → B → Type 0) (ms fs bs gs cs : List A) (ps hs ds is es : List B) where
  pub each_joined : ms ≡ fs ++ bs → ps ≡ hs ++ ds → length fs ≡ length hs → length gs ≡ length fs → length is ≡ length hs →
      ((k : ℕ) (m : A) (p : B) → k < length fs → R (get_or fs k m) (get_or gs k m) (get_or hs k p) (get_or is k p)) →
      ((k : ℕ) (m : A) (p : B) → k < length bs → R (get_or bs k m) (get_or cs k m) (get_or ds k p) (get_or es k p)) →
      (k : ℕ) (m : A) (p : B) → k < length ms → R (get_or ms k m) (get_or (gs ++ cs) k m) (get_or ps k p) (get_or (is ++ es) k p)
  each_joined e f same first second a b k m p lt = elim (cases_lt k (length fs)) [
    | inl low ↦
        subst (λ x. R x (get_or (gs ++ cs) k m) (get_or ps k p) (get_or (is ++ es) k p)) (sym (ap (λ l. get_or l k m) e ∙ get_or_append_left fs bs m k low))
        (subst (λ x. R (get_or fs k m) x (get_or ps k p) (get_or (is ++ es) k p)) (sym (get_or_append_left gs cs m k (omega (arith, low, first))))
        (subst (λ x. R (get_or fs k m) (get_or gs k m) x (get_or (is ++ es) k p)) (sym (ap (λ l. get_or l k p) f ∙ get_or_append_left hs ds p k (omega (arith, low, same))))
        (subst (λ x. R (get_or fs k m) (get_or gs k m) (get_or hs k p) x) (sym (get_or_append_left is es p k (omega (arith, low, same, second))))
        (a k m p low))))
    | inr high ↦
        let sum : length ms ≡ length fs + length bs = ap length e ∙ length-append fs bs in
        subst (λ x. R x (get_or (gs ++ cs) k m) (get_or ps k p) (get_or (is ++ es) k p)) (sym (ap (λ l. get_or l k m) e ∙ get_or-append_right fs bs (length fs) k m refl high))
        (subst (λ x. R (get_or bs (k - length fs) m) x (get_or ps k p) (get_or (is ++ es) k p)) (sym (get_or-append_right gs cs (length fs) k m first high))
        (subst (λ x. R (get_or bs (k - length fs) m) (get_or cs (k - length fs) m) x (get_or (is ++ es) k p)) (sym (ap (λ l. get_or l k p) f ∙ get_or-append_right hs ds (length fs) k p (sym same) high))
        (subst (λ x. R (get_or bs (k - length fs) m) (get_or cs (k - length fs) m) (get_or ds (k - length fs) p) x) (sym (get_or-append_right is es (length fs) k p (second ∙ sym same) high))
        (b (k - length fs) m p (omega (arith, high, lt, sum))))))
  ]

module _ {P : Type 0} (words most : P → ℕ) (valid : P → Type 0) (round : Round) (slice : ℕ) (ms fs bs : List Worker) (ps hs ds : List P)
    (e : ms ≡ fs ++ bs) (f : ps ≡ hs ++ ds) (same : length fs ≡ length hs) where
  pub can_front : CanAskAll words most valid round slice ms ps → CanAskAll words most valid round slice fs hs
  can_front h = record {
    count = sym same;
    each = λ k m p lt.
        let sum : length ms ≡ length fs + length bs = ap length e ∙ length-append fs bs in
        subst (λ x. CanAsk words most valid round slice x (get_or hs k p)) (ap (λ l. get_or l k m) e ∙ get_or_append_left fs bs m k lt)
        (subst (λ x. CanAsk words most valid round slice (get_or ms k m) x) (ap (λ l. get_or l k p) f ∙ get_or_append_left hs ds p k (omega (arith, lt, same)))
        (h.each k m p (omega (arith, lt, sum))));
  }

  pub can_back : CanAskAll words most valid round slice ms ps → CanAskAll words most valid round slice bs ds
  can_back h =
      let sum : length ms ≡ length fs + length bs = ap length e ∙ length-append fs bs in
      let sums : length ps ≡ length hs + length ds = ap length f ∙ length-append hs ds in
      let count = h.count in
      record {
        count = omega (arith, sum, sums, count, same);
        each = λ k m p lt.
            subst (λ x. CanAsk words most valid round slice x (get_or ds k p)) (ap (λ l. get_or l (length fs + k) m) e ∙ get_or-append-add fs bs k m)
            (subst (λ x. CanAsk words most valid round slice (get_or ms (length fs + k) m) x)
            (ap (λ l. get_or l (length fs + k) p) f ∙ ap (λ n. get_or (hs ++ ds) (n + k) p) same ∙ get_or-append-add hs ds k p)
            (h.each (length fs + k) m p (omega (arith, lt, sum))));
      }

pub asked_both : {P : Type 0} (next : P → Option Command) (steps : P → Reply → P → Type 0) (words most : P → ℕ) (valid : P → Type 0) (round : Round)
    (slice : ℕ) (ms fs bs gs cs : List Worker) (ps hs ds is es : List P) → ms ≡ fs ++ bs → ps ≡ hs ++ ds → length fs ≡ length hs →
    HaveAskedAll next steps words most valid round slice fs gs hs is → HaveAskedAll next steps words most valid round slice bs cs ds es →
    HaveAskedAll next steps words most valid round slice ms (gs ++ cs) ps (is ++ es)
asked_both next steps words most valid round slice ms fs bs gs cs ps hs ds is es e f same a b =
    let x = ap length e ∙ length-append fs bs in
    let y = ap length f ∙ length-append hs ds in
    let z = length-append gs cs in
    let w = length-append is es in
    let am = a.workers in
    let bm = b.workers in
    let ap_ = a.programs in
    let bp = b.programs in
    record {
      workers = omega (arith, x, z, am, bm);
      programs = omega (arith, y, w, ap_, bp);
      each = each_joined (λ m n p q. HasAskedOn next steps words most valid round slice m n p q) ms fs bs gs cs ps hs ds is es e f same am ap_ a.each b.each;
    }

-- each program has its own invariant
pub all_valid : {P : Type 0} (words most : P → ℕ) (valid : P → Type 0) (round : Round) (slice : ℕ) (ms : List Worker) (ps : List P) →
    CanAskAll words most valid round slice ms ps → (k : ℕ) (p : P) → k < length ps → valid (slice_index_or ps k p)
all_valid words most valid round slice [] ps h k p lt = let c = h.count in absurd (omega (arith, c, lt))
all_valid words most valid round slice (m ∷ ms) ps h k p lt = let c = h.count in (h.each k m p (omega (arith, c, lt))).valid_is

-- a worker that asked its program did its slice of any list that begins with the commands given and may go on after them
pub worked_as_asked : {P : Type 0} (next : P → Option Command) (steps : P → Reply → P → Type 0) (words most : P → ℕ) (valid : P → Type 0) (round : Round)
    (slice : ℕ) (old new : Worker) (p q : P) (h : HasAskedOn next steps words most valid round slice old new p q) (rest : List Command) →
    MayComeAfter slice (next q) (map (λ d. d.0) h.asked.done) rest → HasWorkedOn round slice (map (λ d. d.0) h.asked.done ++ rest) old new
worked_as_asked next steps words most valid round slice old new p q h rest f = record {
  run = (
    h.asked.done,
    sym (take_at (map (λ d. d.0) h.asked.done) rest new.done (length-map h.asked.done (λ d. d.0) ∙ h.asked.count_is)),
    h.asked.run,
  );
  ended = elim f [
    | inl follows ↦ h.asked.ended rest follows
    | inr itself ↦
        let first = some_follow (next q) in
        ended_any (map (λ d. d.0) h.asked.done) first.0 rest slice new.done new.mutator new.end (next q)
        (sym (length-map h.asked.done (λ d. d.0) ∙ h.asked.count_is)) first.1 itself.0 itself.1 (h.asked.ended first.0 first.1)
  ];
  turns = h.turns;
  most = h.most_is;
}
