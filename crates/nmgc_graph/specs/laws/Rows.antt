-- A set of names as rows of marks: the effect of adding a name, and the list of the names.
use Rattle.std.specs.Prelude.{◌≡◌, ◌≢◌, ◌<◌, ◌≤◌, ◌+◌}
use Rattle.nmgc_graph.specs.laws.Vocabulary.{ℕ, List, [], length, set, inl, inr, refl, sym, ◌∙◌, arith, Bool, true, false, not, count_by, IsSome, cases_lt, cases_eq, false≢true, eqb_tells, get_or-set_same, get_or-set_other, get_or_past, length-set, sum_by-set, SHARED_MAKER, Name, World, node_of, state_of, row_of, mark_of, IsMarked, HasPlace, with_mark, unmarked_count, HasPlaces, ListsBefore, lists_maker, same_name, get_is_some, count-set}

-- a name of the set has a place
pub marked_place : (marks : List (List Bool)) (name : Name) → IsMarked marks name → HasPlace marks name
marked_place marks name m = elim (cases_lt name.serial (length (row_of marks name.maker))) [
  | inl lt ↦ lt
  | inr le ↦ absurd (false≢true (sym (get_or_past (row_of marks name.maker) name.serial false le) ∙ m))
]

-- a name that has a place has a row
pub place_maker : (marks : List (List Bool)) (name : Name) → HasPlace marks name → name.maker < length marks
place_maker marks name p = elim (cases_lt name.maker (length marks)) [
  | inl lt ↦ lt
  | inr le ↦ let none : row_of marks name.maker ≡ [] = get_or_past marks name.maker [] le in let bad = rw none at p in absurd (omega arith)
]

-- all marks of a maker were passed
pub marks_listed : (marks : List (List Bool)) (maker serial : ℕ) (names : List Name) → length (row_of marks maker) ≤ serial →
    ListsBefore (IsMarked marks) maker serial names → ListsBefore (IsMarked marks) (maker + 1) 0 names
marks_listed marks maker serial names le l =
    lists_maker (IsMarked marks) maker serial names (λ n m e. let p : n.serial < length (row_of marks n.maker) = marked_place marks n m in
    let q = rw e at p in omega arith) l

-- adding a name
module _ (marks : List (List Bool)) (name : Name) (place : HasPlace marks name) where
  row_same : row_of (with_mark marks name) name.maker ≡ set (row_of marks name.maker) name.serial true
  row_same = get_or-set_same marks name.maker (set (row_of marks name.maker) name.serial true) [] (place_maker marks name place)

  row_other : (maker : ℕ) → maker ≢ name.maker → row_of (with_mark marks name) maker ≡ row_of marks maker
  row_other maker ne = get_or-set_other marks name.maker maker (set (row_of marks name.maker) name.serial true) [] ne

  pub added : IsMarked (with_mark marks name) name
  added = rw row_same (get_or-set_same (row_of marks name.maker) name.serial true false place)

  pub kept_others : (other : Name) → other ≢ name → mark_of (with_mark marks name) other ≡ mark_of marks other
  kept_others other ne = elim (cases_eq other.maker name.maker) [
    | inl e ↦ elim (cases_eq other.serial name.serial) [
      | inl f ↦ absurd (ne (same_name other name e f))
      | inr g ↦ rw (e, row_same) (get_or-set_other (row_of marks name.maker) name.serial other.serial true false g)
    ]
    | inr g ↦ rw (row_other other.maker g) refl
  ]

  pub places_kept : (maker : ℕ) → length (row_of (with_mark marks name) maker) ≡ length (row_of marks maker)
  places_kept maker = elim (cases_eq maker name.maker) [
    | inl e ↦ rw (e, row_same) (length-set (row_of marks name.maker) name.serial true)
    | inr g ↦ rw (row_other maker g) refl
  ]

  pub makers_kept : length (with_mark marks name) ≡ length marks
  makers_kept = length-set marks name.maker (set (row_of marks name.maker) name.serial true)

-- adding a new name makes the names outside the set one fewer
pub one_fewer : (marks : List (List Bool)) (name : Name) → HasPlace marks name → mark_of marks name ≡ false →
    unmarked_count (with_mark marks name) + 1 ≡ unmarked_count marks
one_fewer marks name place new =
    let row = row_of marks name.maker in
    let whole = sum_by-set (count_by not) marks name.maker (set row name.serial true) [] (place_maker marks name place) in
    let part = count-set row name.serial place new in
    omega arith

-- a set with a place for each name of a world
module _ (w : World) (marks : List (List Bool)) (h : HasPlaces w marks) where
  pub name_placed : (name : Name) → IsSome (node_of w name) → HasPlace marks name
  name_placed name there = elim (eqb_tells name.maker SHARED_MAKER) [
    | inl p ↦ elim (eqb_tells name.serial 0) [
      | inl z ↦ rw (h.counts name.maker, p.0, z.1) (omega arith)
      | inr z ↦ absurd (let bad = rw (p.0, z.0) at there in cc)
    ]
    | inr p ↦ rw (h.counts name.maker, p.0) (get_is_some (state_of w name.maker).nodes name.serial (rw p.0 at there))
  ]
