-- Lemmas that crates above need too.
use Rattle.std.specs.Prelude.{◌≡◌, ◌+◌, ◌<◌, ◌∷◌, ◌++◌}
use Rattle.nmgc_round.specs.laws.Vocabulary.{ℕ, zero, suc, List, [], map, length, ap, ◌∙◌, arith, refl, sym, subst, All, Bool, true, false, cond, inl, inr, Some, None, Option, slice_index_or, drop, Contains, length-replicate, eqb_tells, contains_head, contains_tail, contains_cases, Name, Reply, given, node_of, World, Value, step_grows, State, with_mark, entry_of, is_new, mark_read, Entry, joined, after_scan, after_command, read_at, Layout, Place, Hand, Seen, Opening, Scan, DoneRow, leaves, rows_leave, Answer, plain, word, RoundSeat, seen, IsAt, alone, alones, first_opening, new_hand, Round, next_turn, passed, Marks, after_word, folded, marks_of, name_at, Answers, Happening, did, scanned, replay, IsLegal, some-injective, some-ne-none, get_elem?}
use Rattle.nmgc_world_spec.specs.declared.value.Value.TheVariants as value

pub seat_at : (layout : Layout) (n k : ℕ) (hands : List Hand) (seats : List RoundSeat) (d : RoundSeat) →
    map seen seats ≡ alones (first_opening layout) n hands → k < length seats → seen (slice_index_or seats k d) ≡ alone (first_opening layout) (n + k)
seat_at layout n k hands [] d e lt = absurd (omega arith)
seat_at layout n k [] (s ∷ seats) d e lt = absurd (some-ne-none (seen s) (ap (λ (l : List Seen). get_elem? l 0) e))
seat_at layout n zero (h ∷ hands) (s ∷ seats) d e lt = some-injective (seen s) (alone (first_opening layout) n) (ap (λ (l : List Seen).
    get_elem? l 0) e) ∙ ap (λ j. alone (first_opening layout) j) (let z : n ≡ n + 0 = omega arith in z)
seat_at layout n (suc k) (h ∷ hands) (s ∷ seats) d e lt = seat_at layout (suc n) k hands seats d (ap (λ (l : List Seen).
    drop 1 l) e) (omega arith) ∙ ap (λ j. alone (first_opening layout) j) (let z : suc n + k ≡ n + suc k = omega arith in z)

pub alones_count : (o : Opening) (n : ℕ) (hands : List Hand) → length (alones o n hands) ≡ length hands
alones_count o n [] = refl
alones_count o n (h ∷ hands) = ap suc (alones_count o (suc n) hands)

pub map_count : (seats : List RoundSeat) → length (map seen seats) ≡ length seats
map_count [] = refl
map_count (s ∷ seats) = ap suc (map_count seats)

pub are_ready : (layout : Layout) (r : Round) (value : Opening) (seats now : List RoundSeat) → value ≡ first_opening layout →
    map seen seats ≡ alones value 0 value.hands → All (IsAt r) seats → now ≡ seats
    → (length now ≡ layout.mutators) × ((k : ℕ) (d : RoundSeat) → k < length now → IsAt r (slice_index_or now k d) ×
    (seen (slice_index_or now k d) ≡ alone (first_opening layout) k))
are_ready layout r value seats now first cut all same =
    let cut' : map seen seats ≡ alones (first_opening layout) 0 (first_opening layout).hands = cut ∙ ap (λ (y : Opening). alones y 0 y.hands) first in
    let count : length seats ≡ layout.mutators = sym (map_count seats) ∙ ap (λ (l : List Seen). length l) cut' ∙
    alones_count (first_opening layout) 0 (first_opening layout).hands ∙ length-replicate layout.mutators new_hand in
    subst (λ (l : List RoundSeat). (length l ≡ layout.mutators) ×
    ((k : ℕ) (d : RoundSeat) → k < length l → IsAt r (slice_index_or l k d) × (seen (slice_index_or l k d) ≡ alone (first_opening layout) k))) (sym same) (
      count,
      λ k d lt. (
        all k d lt,
        seat_at layout 0 k (first_opening layout).hands seats d cut' lt ∙
            ap (λ j. alone (first_opening layout) j) (let z : 0 + k ≡ k = omega arith in z),
      ),
    )

-- one more pass of the gate
pub passed_more : (turns i : ℕ) → next_turn (passed turns i) ≡ passed turns (i + 1)
passed_more turns i = let e : suc i ≡ i + 1 = omega arith in ap (λ n. passed turns n) e

pub folded_more : (o : Opening) (m : Marks) (ss : List Scan) (s : Scan) → folded o m (ss ++ s ∷ []) ≡ after_word o (folded o m ss) s
folded_more o m [] s = refl
folded_more o m (x ∷ ss) s = folded_more o (after_word o m x) ss s

-- the hand that several rows leave
pub leave_more : (h : Hand) (rs : List DoneRow) (r : DoneRow) → rows_leave h (rs ++ r ∷ []) ≡ leaves (rows_leave h rs) r.command r.answer
leave_more h [] r = refl
leave_more h (s ∷ rs) r = leave_more (leaves h s.command s.answer) rs r

pub marks_if : (b : Bool) (s : State) (name : Name) → marks_of (cond b (with_mark s name) s) ≡
    cond b (record (marks_of s) { marked = s.marked ++ name ∷ []; queue = joined s.order s.queue (entry_of name) }) (marks_of s)
marks_if true s name = refl
marks_if false s name = refl

-- the name at this address
pub some_at : (places : List Place) (at : ℕ) (name : Name) → Contains places (record { at = at; name = name }) → (n : Name) ×
    (name_at places at ≡ Some n) × Contains places (record { at = at; name = n })
some_at [] at name c = absurd (let lt = c.1 in omega arith)
some_at (p ∷ ps) at name c = elim (eqb_tells p.at at) [
  | inl e ↦ (p.name, rw e.0 refl, subst (λ (a : ℕ). Contains (p ∷ ps) (record { at = a; name = p.name })) e.1 (contains_head p ps))
  | inr e ↦ elim (contains_cases p ps (record { at = at; name = name }) c) [
    | inl same ↦ absurd (e.1 (ap (λ (q : Place). q.at) same))
    | inr d ↦ let r = some_at ps at name d in (r.0, rw e.0 r.1, contains_tail p ps (record { at = at; name = r.0 }) r.2)
  ]
]

pub found_at : (places : List Place) (at : ℕ) (name : Name) → name_at places at ≡ Some name → Contains places (record { at = at; name = name })
found_at [] at name e = absurd cc
found_at (p ∷ ps) at name e = elim (eqb_tells p.at at) [
  | inl t ↦
      let here : Some p.name ≡ Some name = rw t.0 at e in
      let same : p.name ≡ name = cc in
      subst (λ (q : Place). Contains (p ∷ ps) q) (λ i. record { at = t.1 i; name = same i }) (contains_head p ps)
  | inr t ↦ let later : name_at ps at ≡ Some name = rw t.0 at e in contains_tail p ps (record { at = at; name = name }) (found_at ps at name later)
]

pub plain_is : (P : Place → Type 0) (a : Answer) (r : Reply) → given r ≡ None → Answers P a r → a ≡ plain r
plain_is P (plain x) r none h = ap (λ (y : Reply). plain y) h
plain_is P (word w) r none h = let bad = ap given h.1 ∙ none in absurd cc

pub world_if : (b : Bool) (s : State) (name : Name) → (cond b (with_mark s name) s).world ≡ s.world
world_if true s name = refl
world_if false s name = refl

pub world_read : (s : State) (v : Option Value) → (mark_read s v).world ≡ s.world
world_read s None = refl
world_read s (Some value.Nil) = refl
world_read s (Some (value.Number n)) = refl
world_read s (Some (value.Ref name)) = world_if (is_new s name) s name

-- a scan leaves the world
pub world_scanned : (s : State) (queue : List Entry) → (after_scan s queue).world ≡ s.world
world_scanned s [] = refl
world_scanned s (entry ∷ rest) = world_read (record s { queue = rest }) (read_at (node_of s.world entry.name) entry.position)

-- no event changes the number of mutators
pub same_count : (s : State) (hs : List Happening) → IsLegal s hs → length (replay s hs).world.mutators ≡ length s.world.mutators
same_count s [] legal = refl
same_count s (did m c r ∷ hs) legal = same_count (after_command s m c) hs legal.1 ∙ (step_grows s.world m c legal.0.0.1.mutator).mutators
same_count s (scanned entry v ∷ hs) legal = same_count (after_scan s s.queue) hs legal.1 ∙ ap (λ (w : World). length w.mutators) (world_scanned s s.queue)
