-- The deaths have room in the queues of their makers.
use Rattle.nmgc_weak.proofs.Vocabulary.{◌≡◌, ◌+◌, ◌≤◌, ◌<◌, ℕ, Bool, true, false, cond, eqb, List, [], ◌∷◌, map, length, refl, sym, ap, subst, ◌∙◌, length-append, arith, Option, inl, inr, Contains, is_some, count_by, ◌==◌, ◌&&◌, eqb_tells, sum_by-cons, Name, Node, World, node_of, IsBefore, IsInOrder, contains_head, contains_tail, contains_cases, in_order_first, in_order_rest, not_before_itself, before_trans, name_cases, weak_maker, IsDying, Place, Opening, Death, DeathsHaveRoom, joins, joined, AreDeaths}
use Rattle.nmgc_weak.proofs.{Joining.one_of, Joining.joined_cons, Saving.listed_place}

-- the number of passes of a test, 1 or 0
abbrev pub one_if : Bool → ℕ
one_if true = 1
one_if false = 0

one_same : (b : Bool) → one_if b ≡ cond b 1 0
one_same true = refl
one_same false = refl

pub count_cons : {A : Type 0} (f : A → Bool) (x : A) (xs : List A) → count_by f (x ∷ xs) ≡ one_if (f x) + count_by f xs
count_cons f x xs = sum_by-cons (λ y. cond (f y) 1 0) x xs ∙ ap (λ (n : ℕ). n + count_by f xs) (sym (one_same (f x)))

-- a part of ordered names has no more names that pass a test
pub part_counts : (f : Name → Bool) (xs ys : List Name) → IsInOrder xs → IsInOrder ys → ((n : Name) → Contains xs n → Contains ys n) →
    count_by f xs ≤ count_by f ys
part_counts f [] ys o p sub = omega arith
part_counts f (x ∷ xs) [] o p sub = absurd (let c = sub x (contains_head x xs) in omega (arith, c.1))
part_counts f (x ∷ xs) (y ∷ ys) o p sub = elim (name_cases x y) [
  | inl same ↦
      let rest : count_by f xs ≤ count_by f ys = part_counts f xs ys (in_order_rest x xs o) (in_order_rest y ys p) (λ n c.
      elim (contains_cases y ys n (sub n (contains_tail x xs n c))) [
        | inl e ↦ absurd (not_before_itself x (subst (λ (m : Name). IsBefore x m) (sym e ∙ sym same) (in_order_first x xs o n c)))
        | inr d ↦ d
      ]) in
      let first : one_if (f x) ≡ one_if (f y) = ap (λ (n : Name). one_if (f n)) same in
      omega (arith, rest, first, count_cons f x xs, count_cons f y ys)
  | inr other ↦ elim (contains_cases y ys x (sub x (contains_head x xs))) [
    | inl e ↦ absurd (other (sym e))
    | inr there ↦
        let before : IsBefore y x = in_order_first y ys p x there in
        let rest : count_by f (x ∷ xs) ≤ count_by f ys = part_counts f (x ∷ xs) ys o (in_order_rest y ys p) (λ n c. elim (contains_cases y ys n (sub n c)) [
          | inl e ↦ absurd (later y x xs o before n c e)
          | inr d ↦ d
        ]) in
        omega (arith, rest, count_cons f y ys)
  ]
]
  where
    later : (y x : Name) (xs : List Name) → IsInOrder (x ∷ xs) → IsBefore y x → (n : Name) → Contains (x ∷ xs) n → y ≡ n → ⊥
    later y x xs o before n c e = elim (contains_cases x xs n c) [
      | inl same ↦ not_before_itself y (subst (λ (m : Name). IsBefore y m) (same ∙ sym e) before)
      | inr d ↦ not_before_itself y (subst (λ (m : Name). IsBefore y m) (sym e) (before_trans y x n before (in_order_first x xs o n d)))
    ]

-- a count over addresses is a count over their names
names_count : (g : Name → Bool) (weaks : List Place) → count_by g (map (λ (p : Place). p.name) weaks) ≡ count_by (λ (p : Place). g p.name) weaks
names_count g [] = refl
names_count g (p ∷ ps) = cc (count_cons g p.name (map (λ (q : Place). q.name) ps), names_count g ps, count_cons (λ (q : Place). g q.name) p ps)

-- the test of a queue
abbrev of_queue : World → ℕ → Name → Bool
of_queue snapshot m n = (n.maker == m) && is_some (node_of snapshot n)

one_counts : (snapshot : World) (m : ℕ) (d : Name) (x : Death) → x.weak ≡ d → is_some (node_of snapshot d) ≡ true →
    length (one_of m x) ≤ one_if (of_queue snapshot m d)
one_counts snapshot m d x same there = elim (eqb_tells x.weak.maker m) [
  | inl a ↦
      let k : eqb d.maker m ≡ true = subst (λ (n : Name). eqb n.maker m ≡ true) same a.0 in
      let full : one_if (of_queue snapshot m d) ≡ 1 = rw (k, there) refl in
      let one : length (one_of m x) ≤ 1 = at_most (joins m x) x in
      omega (arith, full, one)
  | inr a ↦
      let none : length (one_of m x) ≡ 0 = rw a.0 refl in
      omega (arith, none)
]
  where
    at_most : (b : Bool) (x : Death) → length (cond b (x.finaliser ∷ []) []) ≤ 1
    at_most true x = omega arith
    at_most false x = omega arith

joined_counts : (o : Opening) (m : ℕ) (dead : List Name) (deaths : List Death) → AreDeaths o dead deaths →
    ((n : Name) → Contains dead n → is_some (node_of o.core.snapshot n) ≡ true) → length (joined m deaths) ≤ count_by (of_queue o.core.snapshot m) dead
joined_counts o m [] [] h there = omega arith
joined_counts o m [] (x ∷ xs) h there = absurd h
joined_counts o m (d ∷ ds) [] h there = absurd h
joined_counts o m (d ∷ ds) (x ∷ xs) h there =
    let rest = joined_counts o m ds xs h.1 (λ n c. there n (contains_tail d ds n c)) in
    let one = one_counts o.core.snapshot m d x h.0.0 (there d (contains_head d ds)) in
    let all = ap length (joined_cons m x xs) ∙ length-append (one_of m x) (joined m xs) in
    omega (arith, rest, one, all, count_cons (of_queue o.core.snapshot m) d ds)

-- the maker of each is a mutator
makers_there : (o : Opening) (dead : List Name) (deaths : List Death) → ((n : Name) → Contains dead n → n.maker < length o.core.world.mutators) →
    AreDeaths o dead deaths → (x : Death) → Contains deaths x → x.weak.maker < length o.core.world.mutators
makers_there o [] [] h a x c = absurd (omega (arith, c.1))
makers_there o [] (y ∷ ys) h a x c = absurd a
makers_there o (d ∷ ds) [] h a x c = absurd a
makers_there o (d ∷ ds) (y ∷ ys) h a x c = elim (contains_cases y ys x c) [
  | inl same ↦ rw (← same) (rw a.0.0 (h d (contains_head d ds)))
  | inr e ↦ makers_there o ds ys (λ n k. h n (contains_tail d ds n k)) a.1 x e
]

place_name : (ps : List Place) (p : Place) → Contains ps p → Contains (map (λ (q : Place). q.name) ps) p.name
place_name [] p c = absurd (omega (arith, c.1))
place_name (q ∷ qs) p c = elim (contains_cases q qs p c) [
  | inl same ↦ subst (λ (r : Place). Contains (map (λ (q : Place). q.name) (q ∷ qs)) r.name) same (contains_head q.name (map (λ (q : Place). q.name) qs))
  | inr d ↦ contains_tail q.name (map (λ (q : Place). q.name) qs) p.name (place_name qs p d)
]

pub deaths_have_room : DeathsHaveRoom
deaths_have_room o words before s t marker after weaks list deaths queues can r many spare =
    let dying : (n : Name) → Contains r.closing.dead n → IsDying o.core n = λ n c. r.closing.lists.sound n c in
    let there : (n : Name) → Contains r.closing.dead n → is_some (node_of o.core.snapshot n) ≡ true = λ n c.
    ap (λ (x : Option Node). is_some x) (dying n c).waiting.alive in
    let listed : (n : Name) → Contains r.closing.dead n → Contains (map (λ (p : Place). p.name) weaks) n = λ n c.
    let d = dying n c in
    let p = listed_place o before s marker weaks can n d.parts d.waiting in
    subst (λ (m : Name). Contains (map (λ (q : Place). q.name) weaks) m) p.2 (place_name weaks p.0 p.1) in
    let maker : (n : Name) → Contains r.closing.dead n → n.maker < length o.core.world.mutators = λ n c.
    let d = dying n c in
    weak_maker o.core.world can.ready.opens.world n (d.parts, can.facts.base.alive n d.parts d.waiting.alive d.waiting.not_finalised) in
    record {
      makers = λ x c. subst (λ (k : ℕ). x.weak.maker < k) (sym many) (makers_there o r.closing.dead deaths maker r.deaths_are x c);
      room = λ m queue e.
          let a = joined_counts o m r.closing.dead deaths r.deaths_are there in
          let b = part_counts (of_queue o.core.snapshot m) r.closing.dead (map (λ (p : Place).
          p.name) weaks) r.closing.lists.ordered can.listed.ordered listed in
          let k = names_count (of_queue o.core.snapshot m) weaks in
          let l = spare m queue e in
          omega (arith, a, b, k, l);
    }
