-- The knowledge of the joined pass, and the workers' lists together.
use Rattle.nmgc_fin.proofs.Vocabulary.{◌≡◌, ◌≤◌, ◌+◌, ℕ, zero, suc, List, [], ◌∷◌, ◌++◌, length, refl, sym, ap, subst, ◌∙◌, arith, append_assoc, append-nil, length-append, Some, IsPermutation, slice_get, slice_index_or, slice_get_within, slice_get-get_or, get_or_from_slice_get, SegId, Global, Job, Hand, Worker, hand, both_hands, joined, IsWorker, AreWorkers, lists_of}

pub lists_more : (ws : List Worker) (w : Worker) → lists_of (ws ++ w ∷ []) ≡ lists_of ws ++ w.done.items ∷ []
lists_more [] w = refl
lists_more (x ∷ ws) w = ap (λ (l : List (List Job)). x.done.items ∷ l) (lists_more ws w)

pub joined_more : (by : List (List Job)) (xs : List Job) → joined (by ++ xs ∷ []) ≡ joined by ++ xs
joined_more [] xs = append-nil xs
joined_more (ys ∷ by) xs = ap (λ (l : List Job). ys ++ l) (joined_more by xs) ∙ sym (append_assoc ys (joined by) xs)

-- one worker's pass is taken in
pub client_more : (n : ℕ) (jobs : List Job) (ws : List Worker) (w : Worker) (v u x : Hand) → v ≡ hand (n + length ws) jobs (joined (lists_of ws)) →
    u ≡ hand 1 jobs w.done.items → x ≡ both_hands v u → x ≡ hand (n + length (ws ++ w ∷ [])) jobs (joined (lists_of (ws ++ w ∷ [])))
client_more n jobs ws w v u x e f g =
    let long = length-append ws (w ∷ []) in
    let count : (n + length ws) + 1 ≡ n + length (ws ++ w ∷ []) = omega (arith, long) in
    let all : joined (lists_of ws) ++ w.done.items ≡ joined (lists_of (ws ++ w ∷ [])) = sym (joined_more (lists_of ws) w.done.items) ∙
    ap joined (sym (lists_more ws w)) in
    cc (g, e, f, count, all)

at_front : (xs ys : List Worker) (y : Worker) (k : ℕ) → slice_get xs k ≡ Some y → slice_get (xs ++ ys) k ≡ Some y
at_front [] ys y k e = absurd (cc)
at_front (x ∷ xs) ys y zero e = e
at_front (x ∷ xs) ys y (suc k) e = at_front xs ys y k e

at_middle : (xs ys : List Worker) (w : Worker) → slice_get (xs ++ w ∷ ys) (length xs) ≡ Some w
at_middle [] ys w = refl
at_middle (x ∷ xs) ys w = at_middle xs ys w

pub comes_at : (all xs ys : List Worker) (w : Worker) → xs ++ w ∷ ys ≡ all → slice_get all (length xs) ≡ Some w
comes_at all xs ys w e = ap (λ (l : List Worker). slice_get l (length xs)) (sym e) ∙ at_middle xs ys w

pub last_at : (all before : List Worker) (last : Worker) → all ≡ before ++ last ∷ [] → slice_get all (length before) ≡ Some last
last_at all before last is = ap (λ (l : List Worker). slice_get l (length before)) is ∙ at_middle before [] last

pub worker_at : (queue : SegId Global) (jobs : List Job) (crew : List Worker) → AreWorkers queue jobs crew → (k : ℕ) (w : Worker) →
    slice_get crew k ≡ Some w → IsWorker queue jobs w
worker_at queue jobs crew are k w e = subst (λ (x : Worker). IsWorker queue jobs x) (get_or_from_slice_get crew k w w e) (are k w (slice_get_within crew k w e))

-- the passes of the workers before the last are taken in
pub front_are : (queue : SegId Global) (jobs : List Job) (all before : List Worker) (last : Worker) → all ≡ before ++ last ∷ [] →
    AreWorkers queue jobs all → AreWorkers queue jobs before
front_are queue jobs all before last is are k d lt = worker_at queue jobs all are k (slice_index_or before k d)
    (cc (is, at_front before (last ∷ []) (slice_index_or before k d) k (slice_get-get_or before k d lt)))

pub none_left : (xs : List Worker) → length xs ≡ 0 → xs ≡ []
none_left [] e = refl
none_left (x ∷ xs) e = absurd (omega (arith, e))

-- the last worker took the remaining jobs, and its list is the last
pub all_handled : (jobs : List Job) (ws : List Worker) (last : Worker) (more done : List Job) (v : Hand) (by by' : List (List Job)) →
    v ≡ hand 64 jobs (joined (lists_of (ws ++ last ∷ [])) ++ more) → (v.parts ≡ 64 → IsPermutation v.pushed (v.taken ++ [])) →
    done ≡ last.done.items ++ more → by ≡ lists_of ws → by' ≡ by ++ done ∷ [] → IsPermutation jobs (joined by')
all_handled jobs ws last more done v by by' knows none is are new =
    let every : IsPermutation jobs ((joined (lists_of (ws ++ last ∷ [])) ++ more) ++ []) =
    subst (λ (y : Hand). IsPermutation y.pushed (y.taken ++ [])) knows (none (ap (λ (y : Hand). y.parts) knows)) in
    let same : (joined (lists_of (ws ++ last ∷ [])) ++ more) ++ [] ≡ joined by' =
    cc (
      append-nil (joined (lists_of (ws ++ last ∷ [])) ++ more),
      lists_more ws last,
      joined_more (lists_of ws) last.done.items,
      append_assoc (joined (lists_of ws)) last.done.items more,
      is,
      joined_more (lists_of ws) done,
      are,
      new,
    )
    in
    subst (λ (l : List Job). IsPermutation jobs l) same every

pub so_many : (ws : List Worker) (last : Worker) (done : List Job) (by by' : List (List Job)) → by ≡ lists_of ws → by' ≡ by ++ done ∷ [] →
    length by' ≡ length (ws ++ last ∷ [])
so_many ws last done by by' are new =
    let a : length by ≡ length ws = ap (λ (l : List (List Job)). length l) are ∙ long ws in
    let b : length by' ≡ length (by ++ done ∷ []) = ap (λ (l : List (List Job)). length l) new in
    let c = length-append by (done ∷ []) in
    let d = length-append ws (last ∷ []) in
    omega (arith, a, b, c, d)
  where
    long : (l : List Worker) → length (lists_of l) ≡ length l
    long [] = refl
    long (x ∷ l) = ap suc (long l)

-- the last worker may look for jobs once more
pub last_listed : (ws : List Worker) (last : Worker) (v : Hand) (n : ℕ) (jobs : List Job) → v ≡ hand n jobs (joined (lists_of (ws ++ last ∷ []))) →
    length last.done.items ≤ length v.taken
last_listed ws last v n jobs knows =
    let a : length v.taken ≡ length (joined (lists_of (ws ++ last ∷ []))) = ap (λ (y : Hand). length y.taken) knows in
    let b : length (joined (lists_of (ws ++ last ∷ []))) ≡ length (joined (lists_of ws) ++ last.done.items) =
    ap (λ (l : List Job). length l) (ap joined (lists_more ws last) ∙ joined_more (lists_of ws) last.done.items) in
    let c = length-append (joined (lists_of ws)) last.done.items in
    omega (arith, a, b, c)

pub knows_more : (n : ℕ) (jobs taken more : List Job) (u v : Hand) → u ≡ hand n jobs taken → n ≡ 64 → v ≡ hand u.parts u.pushed (u.taken ++ more) →
    v ≡ hand 64 jobs (taken ++ more)
knows_more n jobs taken more u v e f g = g ∙ ap (λ (y : Hand). hand y.parts y.pushed (y.taken ++ more)) e ∙ ap (λ (k : ℕ). hand k jobs (taken ++ more)) f
