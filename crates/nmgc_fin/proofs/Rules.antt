-- Each call keeps the rule of the queue of jobs.
use Rattle.nmgc_fin.proofs.Vocabulary.{◌≡◌, ◌≢◌, ⊎_elim, ℕ, zero, suc, ◌+◌, ◌<◌, ◌≤◌, List, [], ◌∷◌, ◌++◌, length, set, IsPermutation, refl, sym, ap, ◌∙◌, subst, arith, append_assoc, append-nil, length-append, IsPermutation-refl, IsPermutation-trans, IsPermutation-append_left, IsPermutation-append_right, IsPermutation-append_comm, IsPermutation-middle, length_permutation, some, some-injective, some-ne-none, get_elem?, MayPush, Pops, Forks, Merges, Learns, at_set, at_snoc, Job, Hand, hand, most_parts, total, all_taken, Balanced, Pushes, Takes, keeps_parts, gives_part, both_hands, no_hand, Knows}

-- the total of the parts after one pass changes
total_set : (views : List Hand) (pass : ℕ) (v w : Hand) → get_elem? views pass ≡ some v → total (set views pass w) + v.parts ≡ total views + w.parts
total_set [] pass v w e = absurd (some-ne-none v (sym e))
total_set (x ∷ xs) zero v w e = let i : x.parts ≡ v.parts = ap (λ (y : Hand). y.parts) (some-injective x v e) in omega arith
total_set (x ∷ xs) (suc pass) v w e = let r = total_set xs pass v w e in omega arith

total_snoc : (views : List Hand) (v : Hand) → total (views ++ v ∷ []) ≡ total views + v.parts
total_snoc [] v = omega arith
total_snoc (x ∷ xs) v = let r = total_snoc xs v in omega arith

part_of : (views : List Hand) (pass : ℕ) (v : Hand) → get_elem? views pass ≡ some v → v.parts ≤ total views
part_of [] pass v e = absurd (some-ne-none v (sym e))
part_of (x ∷ xs) zero v e = let i : x.parts ≡ v.parts = ap (λ (y : Hand). y.parts) (some-injective x v e) in omega arith
part_of (x ∷ xs) (suc pass) v e = let r = part_of xs pass v e in omega arith

-- if one pass has every part, the other passes have none
others_idle : (views : List Hand) (pass : ℕ) (v : Hand) → get_elem? views pass ≡ some v → total views ≡ v.parts → (j : ℕ) (u : Hand) → j ≢ pass →
    get_elem? views j ≡ some u → u.parts ≡ 0
others_idle [] pass v e t j u n f = absurd (some-ne-none v (sym e))
others_idle (x ∷ xs) zero v e t zero u n f = absurd (n refl)
others_idle (x ∷ xs) zero v e t (suc j) u n f = let i : x.parts ≡ v.parts = ap (λ (y : Hand). y.parts) (some-injective x v e) in
    let r = part_of xs j u f in omega arith
others_idle (x ∷ xs) (suc pass) v e t zero u n f = let i : x.parts ≡ u.parts = ap (λ (y : Hand). y.parts) (some-injective x u f) in
    let r = part_of xs pass v e in omega arith
others_idle (x ∷ xs) (suc pass) v e t (suc j) u n f =
    let r = part_of xs pass v e in
    others_idle xs pass v e (omega arith) j u (λ s. n (ap suc s)) f

-- the jobs that all passes took stay if a pass changes without taking
taken_same : (views : List Hand) (pass : ℕ) (v w : Hand) → get_elem? views pass ≡ some v → w.taken ≡ v.taken → all_taken (set views pass w) ≡ all_taken views
taken_same [] pass v w e s = refl
taken_same (x ∷ xs) zero v w e s = ap (λ l. l ++ all_taken xs) (s ∙ sym (ap (λ (y : Hand). y.taken) (some-injective x v e)))
taken_same (x ∷ xs) (suc pass) v w e s = ap (λ l. x.taken ++ l) (taken_same xs pass v w e s)

taken_snoc : (views : List Hand) (v : Hand) → all_taken (views ++ v ∷ []) ≡ all_taken views ++ v.taken
taken_snoc [] v = append-nil v.taken
taken_snoc (x ∷ xs) v = ap (λ l. x.taken ++ l) (taken_snoc xs v) ∙ sym (append_assoc x.taken (all_taken xs) v.taken)

module _ {A : Type 0} where
  -- two pieces before a third change places
  swap_pieces : (xs ys zs : List A) → IsPermutation (xs ++ (ys ++ zs)) (ys ++ (xs ++ zs))
  swap_pieces xs ys zs =
      rw (← (append_assoc xs ys zs)) (rw (append_assoc ys xs zs) at (IsPermutation-append_left zs (xs ++ ys) (ys ++ xs) (IsPermutation-append_comm xs ys)))

-- a pass took more jobs
taken_more : (views : List Hand) (pass : ℕ) (v w : Hand) (more : List Job) → get_elem? views pass ≡ some v → w.taken ≡ v.taken ++ more →
    IsPermutation (more ++ all_taken views) (all_taken (set views pass w))
taken_more [] pass v w more e s = absurd (some-ne-none v (sym e))
taken_more (x ∷ xs) zero v w more e s =
    let same : x.taken ≡ v.taken = ap (λ (y : Hand). y.taken) (some-injective x v e) in
    let is : x.taken ++ (more ++ all_taken xs) ≡ w.taken ++ all_taken xs = cc (append_assoc x.taken more (all_taken xs), same, s) in
    subst (λ l. IsPermutation (more ++ (x.taken ++ all_taken xs)) l) is (swap_pieces more x.taken (all_taken xs))
taken_more (x ∷ xs) (suc pass) v w more e s =
    IsPermutation-trans (more ++ (x.taken ++ all_taken xs)) (x.taken ++ (more ++ all_taken xs)) (x.taken ++ all_taken (set xs pass w))
    (swap_pieces more x.taken (all_taken xs))
    (IsPermutation-append_right x.taken (more ++ all_taken xs) (all_taken (set xs pass w)) (taken_more xs pass v w more e s))

-- a pass gives up the jobs that it took
taken_out : (views : List Hand) (pass : ℕ) (v w : Hand) → get_elem? views pass ≡ some v → w.taken ≡ [] →
    IsPermutation (all_taken views) (v.taken ++ all_taken (set views pass w))
taken_out [] pass v w e s = absurd (some-ne-none v (sym e))
taken_out (x ∷ xs) zero v w e s =
    let same : x.taken ≡ v.taken = ap (λ (y : Hand). y.taken) (some-injective x v e) in
    let is : x.taken ++ all_taken xs ≡ v.taken ++ (w.taken ++ all_taken xs) = cc (same, s) in
    subst (λ l. IsPermutation (x.taken ++ all_taken xs) l) is (IsPermutation-refl (x.taken ++ all_taken xs))
taken_out (x ∷ xs) (suc pass) v w e s =
    IsPermutation-trans (x.taken ++ all_taken xs) (x.taken ++ (v.taken ++ all_taken (set xs pass w))) (v.taken ++ (x.taken ++ all_taken (set xs pass w)))
    (IsPermutation-append_right x.taken (all_taken xs) (v.taken ++ all_taken (set xs pass w)) (taken_out xs pass v w e s))
    (swap_pieces x.taken v.taken (all_taken (set xs pass w)))

-- if the other passes took nothing, the jobs of all passes are the jobs of this pass
taken_alone : (views : List Hand) (pass : ℕ) (v : Hand) → get_elem? views pass ≡ some v →
    ((j : ℕ) (u : Hand) → j ≢ pass → get_elem? views j ≡ some u → u.taken ≡ []) → all_taken views ≡ v.taken
taken_alone [] pass v e f = absurd (some-ne-none v (sym e))
taken_alone (x ∷ xs) zero v e f = cc (none xs (λ j u g. f (suc j) u (λ s. absurd (omega (arith, s))) g), append-nil x.taken, some-injective x v e)
  where
    none : (l : List Hand) → ((j : ℕ) (u : Hand) → get_elem? l j ≡ some u → u.taken ≡ []) → all_taken l ≡ []
    none [] g = refl
    none (y ∷ ys) g = ap (λ k. k ++ all_taken ys) (g 0 y refl) ∙ none ys (λ j u at. g (suc j) u at)
taken_alone (x ∷ xs) (suc pass) v e f = cc (f 0 x (λ s. absurd (omega (arith, s))) refl, taken_alone xs pass v e (λ j u n g. f (suc j) u (λ s. n (omega (arith, s))) g))

set_apart : (views : List Hand) (i j : ℕ) (v w : Hand) → i ≢ j → set (set views i v) j w ≡ set (set views j w) i v
set_apart [] i j v w n = refl
set_apart (x ∷ xs) zero zero v w n = absurd (n refl)
set_apart (x ∷ xs) zero (suc j) v w n = refl
set_apart (x ∷ xs) (suc i) zero v w n = refl
set_apart (x ∷ xs) (suc i) (suc j) v w n = ap (λ (l : List Hand). x ∷ l) (set_apart xs i j v w (λ s. n (ap suc s)))

at_other : (views : List Hand) (i j : ℕ) (w v : Hand) → j ≢ i → get_elem? views j ≡ some v → get_elem? (set views i w) j ≡ some v
at_other [] i j w v n e = e
at_other (x ∷ xs) zero zero w v n e = absurd (n refl)
at_other (x ∷ xs) zero (suc j) w v n e = e
at_other (x ∷ xs) (suc i) zero w v n e = e
at_other (x ∷ xs) (suc i) (suc j) w v n e = at_other xs i j w v (λ s. n (ap suc s)) e

-- the queue with its first pass
pub begins : Balanced [] (hand most_parts [] [] ∷ [])
begins = record {
  all = [];
  whole = refl;
  known = λ pass v e some_. first pass v e;
  kept = IsPermutation-refl [];
  idle = λ pass v e none. second pass v e;
}
  where
    first : (pass : ℕ) (v : Hand) → get_elem? (hand most_parts [] [] ∷ []) pass ≡ some v → v.pushed ≡ []
    first zero v e = sym (ap (λ (y : Hand). y.pushed) (some-injective (hand most_parts [] []) v e))
    first (suc pass) v e = absurd (some-ne-none v (sym e))

    second : (pass : ℕ) (v : Hand) → get_elem? (hand most_parts [] [] ∷ []) pass ≡ some v → v.taken ≡ []
    second zero v e = sym (ap (λ (y : Hand). y.taken) (some-injective (hand most_parts [] []) v e))
    second (suc pass) v e = absurd (some-ne-none v (sym e))

-- the pass with every part pushes a job
pub pushes : (n pass : ℕ) (v : Hand) (x : Job) → v.parts ≡ most_parts → MayPush Balanced n pass v x (Pushes v x)
pushes n pass v x every items views room h at =
    let w : Hand = hand v.parts (v.pushed ++ x ∷ []) v.taken in
    let idle = others_idle views pass v at (h.whole ∙ sym every) in
    let same : all_taken (set views pass w) ≡ all_taken views = taken_same views pass v w at refl in (
      w,
      record {
        all = h.all ++ x ∷ [];
        whole = let t = total_set views pass v w at in let p = h.whole in omega arith;
        known = λ j u e some_. ⊎_elim
            (λ (t : (j ≡ pass) × (w ≡ u)). cc (t.1, h.known pass v at (omega (arith, every))))
            (λ (t : (j ≢ pass) × (get_elem? views j ≡ some u)). let z = idle j u t.0 t.1 in absurd (omega (arith, z, some_)))
            (at_set views pass j w u e);
        kept = rw (append_assoc (all_taken views) items (x ∷ []) ∙
            ap (λ l. l ++ (items ++ x ∷ [])) (sym same)) at (IsPermutation-append_left (x ∷ []) h.all (all_taken views ++ items) h.kept);
        idle = λ j u e none. ⊎_elim
            (λ (t : (j ≡ pass) × (w ≡ u)). let p : w.parts ≡ u.parts = ap (λ (y : Hand). y.parts) t.1 in absurd (omega (arith, p, every, none)))
            (λ (t : (j ≢ pass) × (get_elem? views j ≡ some u)). h.idle j u t.1 none)
            (at_set views pass j w u e);
      },
      refl,
    )

-- a pass takes a job
pub takes : (pass : ℕ) (v : Hand) → 0 < v.parts → Pops Balanced pass v (Takes v)
takes pass v some_part x items views h at =
    let w : Hand = hand v.parts v.pushed (v.taken ++ x ∷ []) in
    let more = taken_more views pass v w (x ∷ []) at refl in
    let kept : IsPermutation h.all (all_taken (set views pass w) ++ items) =
    IsPermutation-trans h.all (all_taken views ++ x ∷ items) (all_taken (set views pass w) ++ items) h.kept
    (IsPermutation-trans (all_taken views ++ x ∷ items) (x ∷ (all_taken views ++ items)) (all_taken (set views pass w) ++ items)
    (IsPermutation-middle (all_taken views) x items)
    (IsPermutation-append_left items (x ∷ all_taken views) (all_taken (set views pass w)) more))
    in
    let out = taken_out (set views pass w) pass w no_hand (set_here_ views pass w v at) refl in
    let long = length_permutation h.all (all_taken (set views pass w) ++ items) kept in
    let long2 = length_permutation (all_taken (set views pass w)) (w.taken ++ all_taken (set (set views pass w) pass no_hand)) out in
    let l1 = length-append (all_taken (set views pass w)) items in
    let l2 = length-append w.taken (all_taken (set (set views pass w) pass no_hand)) in
    let known : length v.pushed ≡ length h.all = ap (λ (l : List Job). length l) (h.known pass v at some_part) in (
      w,
      record {
        all = h.all;
        whole = let t = total_set views pass v w at in let p = h.whole in omega arith;
        known = λ j u e s. ⊎_elim
            (λ (t : (j ≡ pass) × (w ≡ u)). sym (ap (λ (y : Hand). y.pushed) t.1) ∙ h.known pass v at some_part)
            (λ (t : (j ≢ pass) × (get_elem? views j ≡ some u)). h.known j u t.1 s)
            (at_set views pass j w u e);
        kept = kept;
        idle = λ j u e none. ⊎_elim
            (λ (t : (j ≡ pass) × (w ≡ u)). let p : w.parts ≡ u.parts = ap (λ (y : Hand). y.parts) t.1 in absurd (omega (arith, p, some_part, none)))
            (λ (t : (j ≢ pass) × (get_elem? views j ≡ some u)). h.idle j u t.1 none)
            (at_set views pass j w u e);
      },
      (refl, omega (arith, long, long2, l1, l2, known)),
    )
  where
    set_here_ : (views : List Hand) (pass : ℕ) (w v : Hand) → get_elem? views pass ≡ some v → get_elem? (set views pass w) pass ≡ some w
    set_here_ [] pass w v e = absurd (some-ne-none v (sym e))
    set_here_ (y ∷ ys) zero w v e = refl
    set_here_ (y ∷ ys) (suc pass) w v e = set_here_ ys pass w v e

-- a pass gives away a part
pub forks : (pass : ℕ) (v : Hand) → 1 < v.parts → Forks Balanced pass v (keeps_parts v) (gives_part v)
forks pass v two items views h at =
    let left : Hand = keeps_parts v in
    let right : Hand = gives_part v in
    let mine : v.pushed ≡ h.all = h.known pass v at (omega (arith, two)) in
    let same : all_taken (set views pass left ++ right ∷ []) ≡ all_taken views = taken_snoc (set views pass left) right ∙
    append-nil (all_taken (set views pass left)) ∙ taken_same views pass v left at refl in
    record {
      all = h.all;
      whole = let t = total_set views pass v left at in let s = total_snoc (set views pass left) right in let p = h.whole in omega arith;
      known = λ j u e s. ⊎_elim
          (λ (f : get_elem? (set views pass left) j ≡ some u). ⊎_elim
          (λ (t : (j ≡ pass) × (left ≡ u)). sym (ap (λ (y : Hand). y.pushed) t.1) ∙ mine)
          (λ (t : (j ≢ pass) × (get_elem? views j ≡ some u)). h.known j u t.1 s)
          (at_set views pass j left u f))
          (λ (f : right ≡ u). sym (ap (λ (y : Hand). y.pushed) f) ∙ mine)
          (at_snoc (set views pass left) right u j e);
      kept = subst (λ (l : List Job). IsPermutation h.all (l ++ items)) (sym same) h.kept;
      idle = λ j u e none. ⊎_elim
          (λ (f : get_elem? (set views pass left) j ≡ some u). ⊎_elim
          (λ (t : (j ≡ pass) × (left ≡ u)). let p : left.parts ≡ u.parts = ap (λ (y : Hand). y.parts) t.1 in absurd (omega (arith, p, two, none)))
          (λ (t : (j ≢ pass) × (get_elem? views j ≡ some u)). h.idle j u t.1 none)
          (at_set views pass j left u f))
          (λ (f : right ≡ u). sym (ap (λ (y : Hand). y.taken) f))
          (at_snoc (set views pass left) right u j e);
    }

-- a pass takes in another pass's parts
pub merges : (pass : ℕ) (v : Hand) (other : ℕ) (w : Hand) → 0 < v.parts → Merges Balanced pass v other w (both_hands v w) no_hand
merges pass v other w some_part items views h at apart at' =
    let both : Hand = both_hands v w in
    let there : get_elem? views other ≡ some w = ⊎_elim (λ (t : (other ≡ pass) × (both ≡ w)). absurd (apart t.0)) (λ (t : (other ≢ pass) ×
    (get_elem? views other ≡ some w)). t.1) (at_set views pass other both w at') in
    let rest : List Hand = set views other no_hand in
    let here : get_elem? rest pass ≡ some v = at_other views other pass no_hand v (λ (s : pass ≡ other). apart (sym s)) at in
    let order : set (set views pass both) other no_hand ≡ set rest pass both = set_apart views pass other both no_hand (λ (s : pass ≡ other). apart (sym s)) in
    let moved : IsPermutation (all_taken views) (all_taken (set rest pass both)) =
    IsPermutation-trans (all_taken views) (w.taken ++ all_taken rest) (all_taken (set rest pass both))
    (taken_out views other w no_hand there refl)
    (taken_more rest pass v both w.taken here refl)
    in
    record {
      all = h.all;
      whole = let t = total_set views pass v both at in let s = total_set (set views pass both) other w no_hand at' in let p = h.whole in omega arith;
      known = λ j u e s. ⊎_elim
          (λ (t : (j ≡ other) × (no_hand ≡ u)). let p : no_hand.parts ≡ u.parts = ap (λ (y : Hand). y.parts) t.1 in absurd (omega (arith, p, s)))
          (λ (t : (j ≢ other) × (get_elem? (set views pass both) j ≡ some u)). ⊎_elim
          (λ (r : (j ≡ pass) × (both ≡ u)). sym (ap (λ (y : Hand). y.pushed) r.1) ∙ h.known pass v at some_part)
          (λ (r : (j ≢ pass) × (get_elem? views j ≡ some u)). h.known j u r.1 s)
          (at_set views pass j both u t.1))
          (at_set (set views pass both) other j no_hand u e);
      kept = rw order (IsPermutation-trans h.all (all_taken views ++ items) (all_taken (set rest pass both) ++
          items) h.kept (IsPermutation-append_left items (all_taken views) (all_taken (set rest pass both)) moved));
      idle = λ j u e none. ⊎_elim
          (λ (t : (j ≡ other) × (no_hand ≡ u)). sym (ap (λ (y : Hand). y.taken) t.1))
          (λ (t : (j ≢ other) × (get_elem? (set views pass both) j ≡ some u)). ⊎_elim
          (λ (r : (j ≡ pass) × (both ≡ u)). let p : both.parts ≡ u.parts = ap (λ (y : Hand). y.parts) r.1 in absurd (omega (arith, p, some_part, none)))
          (λ (r : (j ≢ pass) × (get_elem? views j ≡ some u)). h.idle j u r.1 none)
          (at_set views pass j both u t.1))
          (at_set (set views pass both) other j no_hand u e);
    }

-- a pass with every part knows the remaining jobs
pub learns : (pass : ℕ) (v : Hand) → Learns Balanced pass v (Knows v)
learns pass v items views h at every =
    let idle = others_idle views pass v at (h.whole ∙ sym every) in
    let mine : v.pushed ≡ h.all = h.known pass v at (omega (arith, every)) in
    let alone : all_taken views ≡ v.taken = taken_alone views pass v at (λ j u n e. h.idle j u e (idle j u n e)) in
    subst (λ (l : List Job). IsPermutation l (v.taken ++ items)) (sym mine) (subst (λ (l : List Job). IsPermutation h.all (l ++ items)) alone h.kept)
