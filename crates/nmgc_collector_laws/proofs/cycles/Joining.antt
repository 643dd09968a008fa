-- Moved weak pointers that are alive join the list; no more of a snapshot are listed than before.
use Rattle.nmgc_collector_laws.proofs.Vocabulary.{ℕ, ◌≡◌, ◌≢◌, ◌+◌, ◌≤◌, List, [], ◌∷◌, Bool, true, false, map, refl, sym, ap, subst, ◌∙◌, arith, inl, inr, Option, Some, None, slice_index, cond, Contains, IsSome, count_by, is_some, ◌==◌, and_parts, sum_by-cons, Node, Con, Var, Arr, Thunk, Weak, Stack, Parts, Name, SHARED_MAKER, Value, IsAlive, IsAliveWeak, IsInOrder, IsReached, World, node_of, contains_head, contains_tail, contains_cases, is_some_of, nothing_in, contains_map, in_order_first, in_order_rest, not_before_itself, InSegment, InNursery, nursery_place, header_word, IsHeader, Layout, Nursery, HEADER_WORDS, Header, Segments, Moved, Copies, new_place, old_place, Place, Means, Represents, NoNode, IsObject, ListsWeaks, IsListedWeak, header_of, holds, IsTracked, settled_cases, settled_comes, settled_stays, Stopped, IsStopped, IsSettled, young_base, JoiningLists, JoinersAreNew, FewerListed, HaveMoved, HaveJoinedList, IsAliveAt, weak_header, places_after, in_segment_low, ◌&&◌}
use Rattle.nmgc_world_spec.specs.declared.node.Kind.TheVariants as kind
use Rattle.nmgc_world_spec.specs.declared.value.Value.TheVariants as value

-- different headers have different words
abbrev pub HeadersDiffer : Type 0
HeadersDiffer = (a b : Header) → IsHeader a → IsHeader b → header_word a ≡ header_word b → a ≡ b

weak_valid : IsHeader weak_header
weak_valid = (refl, refl)

-- a node with the header of a weak pointer is a weak pointer
weak_of : (node : Node) → header_of node ≡ weak_header → (parts : Option Parts) × (node ≡ Weak parts)
weak_of (Con tag values) e = absurd (let bad : kind.Con ≡ kind.Weak = ap (λ (h : Header). h.kind) e in cc)
weak_of (Var v) e = absurd (let bad : kind.Var ≡ kind.Weak = ap (λ (h : Header). h.kind) e in cc)
weak_of (Arr values) e = absurd (let bad : kind.Arr ≡ kind.Weak = ap (λ (h : Header). h.kind) e in cc)
weak_of (Thunk free result) e = absurd (let bad : kind.Thunk ≡ kind.Weak = ap (λ (h : Header). h.kind) e in cc)
weak_of (Weak parts) e = (parts, refl)
weak_of (Stack size values) e = absurd (let bad : kind.Stack ≡ kind.Weak = ap (λ (h : Header). h.kind) e in cc)

-- a word that has a meaning isn't 0
set_word : (layout : Layout) (earlier : List World) (places : List Place) (w : World) (words : List ℕ) (word : ℕ) (v : Value) →
    Represents layout earlier NoNode places w words → ((p : Place) → Contains places p → 1 ≤ p.at) → Means (Contains places) word v → word ≢ 0
set_word layout earlier places w words word value.Nil r above m e = omega arith
set_word layout earlier places w words word (value.Number n) r above m e = omega arith
set_word layout earlier places w words word (value.Ref name) r above m e =
    let one = above (record { at = m.0; name = name }) m.2 in
    let is = m.1 in
    omega arith

module _ (law : HeadersDiffer) (t : Stopped) (s new : Segments) (words after : List ℕ) (nurseries : List Nursery)
    (registers registers_then : List ℕ) (queues queues_then : List (List ℕ)) (recorded weaks : List ℕ) (moves : List Moved)
    (h : IsStopped t s words nurseries registers queues recorded weaks) (k : IsSettled t new after registers_then queues_then moves) where
  abbrev base : ℕ
  base = young_base s

  -- a moved object is new, and so it lay in its maker's nursery
  young : (m : Moved) → Contains moves m → node_of t.began m.name ≡ None
  young m c = (k.promoted.sound m.name (contains_map (λ (x : Moved). x.name) moves m c)).0.0

  was_high : (m : Moved) → Contains moves m → base ≤ m.from
  was_high m c = (h.round.young (old_place m) (k.moved m c)).1 (young m c)

  -- a moved object isn't g
  in_nursery : (m : Moved) → Contains moves m → (m.name.maker ≢ SHARED_MAKER) × InNursery s.layout m.name.maker m.from
  in_nursery m c =
      let high = was_high m c in
      elim (h.represents.named (old_place m) (k.moved m c)).lies [
        | inl g ↦ let at = g.1 in absurd (omega (arith, at, high))
        | inr (other, inl seg) ↦ let low = in_segment_low s.layout seg.0 m.from (seg.1 m.from (omega arith) (omega arith)) in absurd (omega (arith, low, high))
        | inr (other, inr own) ↦ (other, own.1 m.from (omega arith) (omega arith))
      ]

  known : (m : Moved) → Contains moves m → (node : Node) × (node_of t.world m.name ≡ Some node)
  known m c = is_some_of (node_of t.world m.name) (h.represents.named (old_place m) (k.moved m c)).known

  was_object : (m : Moved) (c : Contains moves m) (node : Node) → node_of t.world m.name ≡ Some node →
      IsObject s.layout t.places words (old_place m) node × (node ≡ Weak None → slice_index words (m.from + HEADER_WORDS + 1) ≡ 0)
  was_object m c node is = h.represents.born (old_place m) node (k.moved m c) (in_nursery m c).1 is

  pub joiners_new : (old : List Place) → ListsWeaks s.layout t.places t.world old → (m : Moved) (p : Place) → Contains moves m → Contains old p →
      p.name ≢ m.name
  joiners_new old listed m p c d same =
      let l = listed.sound p d in
      let low = in_segment_low s.layout l.2.0 p.at l.2.1 in
      let high = (h.round.young p l.0).1 (ap (λ (n : Name). node_of t.began n) same ∙ young m c) in
      omega (arith, low, high)

  module _ (layout_is : new.layout ≡
      s.layout) (moved : HaveMoved (young_base s) moves words after) (old list : List Place) (listed : ListsWeaks s.layout t.places t.world old)
      (joined : HaveJoinedList after moves old list) where
    abbrev places : List Place
    places = places_after new moves t

    same_base : young_base new ≡ base
    same_base = ap (λ (l : Layout). nursery_place l 0) layout_is

    copied : (m : Moved) (c : Contains moves m) (node : Node) → node_of t.world m.name ≡ Some node →
        Copies moved.forward words after m.from m.to (header_of node).fields
    copied m c node is = let o = (was_object m c node is).0 in moved.copied m (header_of node) c o.valid o.header

    header_then : (m : Moved) (c : Contains moves m) (node : Node) → node_of t.world m.name ≡ Some node → slice_index after m.to ≡ header_word (header_of node)
    header_then m c node is = (copied m c node is).header ∙ (was_object m c node is).0.header

    there : (m : Moved) → Contains moves m → Contains places (new_place m)
    there m c = settled_comes (young_base new) moves t.places m c

    -- a moved object lies in a segment
    in_segment : (m : Moved) → Contains moves m → (segment : ℕ) × InSegment new.layout segment m.to
    in_segment m c =
        let low = k.low m c in
        elim (k.represents.named (new_place m) (there m c)).lies [
          | inl g ↦ absurd ((in_nursery m c).0 g.0)
          | inr (other, inl seg) ↦ (seg.0, seg.1 m.to (omega arith) (omega arith))
          | inr (other, inr own) ↦ let i = own.1 m.to (omega arith) (omega arith) in let from = i.from in absurd (omega (arith, low, from))
        ]

    -- a moved weak pointer whose value word isn't 0 is alive
    alive_then : (m : Moved) → Contains moves m → IsAliveAt after m.to → IsAliveWeak t.world m.name
    alive_then m c a =
        let n = known m c in
        let o = (was_object m c n.0 n.1).0 in
        let same : header_of n.0 ≡ weak_header = law (header_of n.0) weak_header o.valid weak_valid (sym (header_then m c n.0 n.1) ∙ a.header) in
        let w = weak_of n.0 same in
        by_parts w.0 (n.1 ∙ ap (λ (x : Node). Some x) w.1)
      where
        by_parts : (parts : Option Parts) → node_of t.world m.name ≡ Some (Weak parts) → IsAliveWeak t.world m.name
        by_parts (Some parts) is = (parts, is)
        by_parts None is =
            let zero_ : slice_index words (m.from + HEADER_WORDS + 1) ≡ 0 = (was_object m c (Weak None) is).1 refl in
            let then : slice_index after (m.to + HEADER_WORDS + 1) ≡ 0 = (copied m c (Weak None) is).fields 1 (omega arith) ∙
            ap moved.forward zero_ ∙ moved.forwards.unset in
            let at : m.to + HEADER_WORDS + 1 ≡ m.to + (HEADER_WORDS + 1) = omega arith in
            absurd (a.value (subst (λ (i : ℕ). slice_index after i ≡ 0) at then))

    above : (p : Place) → Contains places p → 1 ≤ p.at
    above p c = elim (k.represents.named p c).lies [
      | inl g ↦ let at = g.1 in omega (arith, at)
      | inr (other, inl seg) ↦ let i = seg.1 p.at (omega arith) (omega arith) in let from = i.from in omega (arith, from)
      | inr (other, inr own) ↦ let i = own.1 p.at (omega arith) (omega arith) in let from = i.from in omega (arith, from)
    ]

    -- a moved weak pointer that is alive has its words
    alive_words : (m : Moved) (c : Contains moves m) (parts : Parts) → IsAlive t.world m.name parts → IsAliveAt after m.to
    alive_words m c parts alive =
        let tracked : IsTracked t.world t.later m.name = IsReached.start m.name (
          t.world,
          contains_head t.world t.later,
          IsReached.start m.name (inr (m.name, parts, alive, inl refl)),
        ) in
        let placed = k.represents.tracked m.name (Weak (Some parts)) tracked alive in
        let same = k.represents.one (record { at = placed.at; name = m.name }) (new_place m) placed.there (there m c) (inl refl) in
        let e : placed.at ≡ m.to = ap (λ (p : Place). p.at) same in
        let at : placed.at + HEADER_WORDS + 1 ≡ m.to + (HEADER_WORDS + 1) = omega arith in
        record {
          header = header_then m c (Weak (Some parts)) alive;
          value = rw at at (set_word new.layout t.later places t.world after (slice_index after (placed.at + HEADER_WORDS + 1))
              parts.value k.represents above (placed.fields 1 (holds parts.value) refl));
        }

    lists : ListsWeaks new.layout places t.world list
    lists = record {
      ordered = joined.ordered;
      sound = λ p c. elim (joined.from p c) [
        | inl was ↦
            let l = listed.sound p was in
            let low = in_segment_low s.layout l.2.0 p.at l.2.1 in (
              settled_stays (young_base new) moves t.places p l.0 (let e = same_base in omega (arith, low, e)),
              l.1,
              (l.2.0, subst (λ (y : Layout). InSegment y l.2.0 p.at) (sym layout_is) l.2.1),
            )
        | inr (m, d, is, a) ↦ subst (λ (q : Place). IsListedWeak new.layout places t.world q) (sym is) (there m d, alive_then m d a, in_segment m d)
      ];
      complete = λ p l. elim (settled_cases (young_base new) moves t.places p l.0) [
        | inl (m, d, is) ↦ rw is (joined.new_join m d (alive_words m d l.1.0 (rw is at l.1.1)))
        | inr (was, low) ↦ joined.old_stay p (listed.complete p (was, l.1, (l.2.0, subst (λ (y : Layout). InSegment y l.2.0 p.at) layout_is l.2.1)))
      ];
    }

pub joining_lists : HeadersDiffer → JoiningLists
joining_lists law t s new words after nurseries registers registers_then queues queues_then recorded weaks moves old list h k same moved listed
    joined = lists law t s new words after nurseries registers registers_then queues queues_then recorded weaks moves h k same moved old list listed joined

pub joiners_are_new : HeadersDiffer → JoinersAreNew
joiners_are_new law t s new words after nurseries registers registers_then queues queues_then recorded weaks moves old h k listed m p c d =
    joiners_new law t s new words after nurseries registers registers_then queues queues_then recorded weaks moves h k old listed m p c d

-- counting

-- 1 if the place passes
abbrev one_if : (Place → Bool) → Place → ℕ
one_if f p = cond (f p) 1 0

count_step : (f : Place → Bool) (y : Place) (ys : List Place) → count_by f (y ∷ ys) ≡ one_if f y + count_by f ys
count_step f y ys = sum_by-cons (one_if f) y ys

-- a list without one of its places
record IsLess (f : Place → Bool) (x : Place) (ys zs : List Place) : Type 0 where
  many : count_by f ys ≡ count_by f zs + one_if f x
  kept : (p : Place) → Contains ys p → p ≢ x → Contains zs p

remove : (f : Place → Bool) (x : Place) (ys : List Place) → Contains ys x → (zs : List Place) × IsLess f x ys zs
remove f x [] c = absurd (nothing_in x c)
remove f x (y ∷ ys) c = elim (contains_cases y ys x c) [
  | inl same ↦ (
    ys,
    record {
      many = (let e : one_if f y ≡ one_if f x = ap (one_if f) same in let step = count_step f y ys in omega (arith, e, step));
      kept = λ p d ne. elim (contains_cases y ys p d) [ inl e ↦ absurd (ne (sym e ∙ same)) | inr later ↦ later ];
    },
  )
  | inr later ↦
      let rest : (zs : List Place) × IsLess f x ys zs = remove f x ys later in
      let many = rest.1.many in (
        y ∷ rest.0,
        record {
          many = (let step = count_step f y ys in let then = count_step f y rest.0 in omega (arith, many, step, then));
          kept = λ p d ne. elim (contains_cases y ys p d) [
            | inl e ↦ subst (λ (q : Place). Contains (y ∷ rest.0) q) e (contains_head y rest.0)
            | inr k ↦ contains_tail y rest.0 p (rest.1.kept p k ne)
          ];
        },
      )
]

step_by : (f : Place → Bool) (x : Place) (xs ys : List Place) → IsInOrder (map (λ (p : Place). p.name) (x ∷ xs)) →
    ((p : Place) → Contains (x ∷ xs) p → f p ≡ true → Contains ys p) →
    ((zs : List Place) → ((p : Place) → Contains xs p → f p ≡ true → Contains zs p) → count_by f xs ≤ count_by f zs) → (b : Bool) → f x ≡ b →
    count_by f (x ∷ xs) ≤ count_by f ys
step_by f x xs ys order among rest false e =
    let fewer = rest ys (λ p c is. among p (contains_tail x xs p c) is) in
    let none : one_if f x ≡ 0 = ap (λ (b : Bool). let n : ℕ = cond b 1 0 in n) e in
    let step = count_step f x xs in
    omega (arith, fewer, none, step)
step_by f x xs ys order among rest true e =
    let less : (zs : List Place) × IsLess f x ys zs = remove f x ys (among x (contains_head x xs) e) in
    let many = less.1.many in
    let other : (p : Place) → Contains xs p → p ≢ x = λ p c same.
    not_before_itself x.name (rw (ap (λ (q : Place).
    q.name) same) at (in_order_first x.name (map (λ (q : Place). q.name) xs) order p.name (contains_map (λ (q : Place). q.name) xs p c))) in
    let fewer = rest less.0 (λ p c is. less.1.kept p (among p (contains_tail x xs p c) is) (other p c)) in
    let step = count_step f x xs in
    let one : one_if f x ≡ 1 = ap (λ (b : Bool). let n : ℕ = cond b 1 0 in n) e in
    omega (arith, fewer, many, step, one)

fewer : (f : Place → Bool) (xs ys : List Place) → IsInOrder (map (λ (p : Place). p.name) xs) →
    ((p : Place) → Contains xs p → f p ≡ true → Contains ys p) → count_by f xs ≤ count_by f ys
fewer f [] ys order among = omega arith
fewer f (x ∷ xs) ys order among = step_by f x xs ys order among (λ zs in_them.
    fewer f xs zs (in_order_rest x.name (map (λ (p : Place). p.name) xs) order) in_them) (f x) refl

pub fewer_listed : FewerListed
fewer_listed snapshot m old list order among =
    fewer (λ (p : Place). (p.name.maker == m) && is_some (node_of snapshot p.name)) list old order
    (λ p c is. among p c (there (node_of snapshot p.name) (and_parts (p.name.maker == m) (is_some (node_of snapshot p.name)) is).1))
  where
    there : (o : Option Node) → is_some o ≡ true → IsSome o
    there (Some node) e = refl
    there None e = absurd cc
