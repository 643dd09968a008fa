-- The array has the names of blocks: in the first state, after each step of a cycle, and after a promotion with noted moves.
use Rattle.std.proofs.{Common.ℕ, Common.◌≡◌, Common.◌≢◌, Common.◌⊎◌, Common.◌+◌, Common.◌-◌, Common.◌*◌, Common.◌<◌, Common.◌≤◌, Common.◌∙◌, Common.inl, Common.inr, Common.refl, Common.sym, Common.ap, Common.subst, Common.arith, Common.List, Common.[], Common.◌∷◌, Common.◌++◌, Common.length, Common.set, Common.length-set, Common.Some, Common.mul-le-mul_right, Math.ListN.get_or-eq_default, lemmas.Bool.cases_eq, lemmas.Bool.cases_lt, lemmas.Nat.div_below, lemmas.List.Elements.Contains-append_left, lemmas.List.Elements.Contains-push, lemmas.List.Elements.Contains-push_cases}
use Rattle.std.specs.Prelude.{Contains, slice_get}
use Rattle.nmgc_world_spec.specs.{declared.value.Name.Name, laws.Common.get_set_other, laws.Common.get_set_same}
use Rattle.nmgc_object.specs.{declared.layout.Layout.Layout, declared.layout.TheConstants.FIRST_PLACE, declared.size.TheConstants.MIN_BLOCK_WORDS, Layouts.IsLayout, Words.block_size, laws.Classes.least_block as large}
use Rattle.nmgc_segment.specs.declared.state.State.TheVariants.{Free}
use Rattle.nmgc_alloc.specs.{AllocState.nth, AllocState.Segments, AllocState.HasNumber, AllocState.block_place, AllocState.AllocState, AllocState.Cells, AllocState.Sweeps, AllocState.SweepsEach, AllocState.SweepsSome, AllocState.HoldsKept, AllocState.LiesIn, AllocState.cells, AllocState.name_in, AllocState.no_cells, AllocState.all_empty, AllocState.all_retired, AllocState.cycle_begun, AllocState.StandsFor, Segments.IsSegments, Segments.IsBlockAt, laws.Apart.blocks_lie_apart, laws.Apart.lies_in, laws.Cells.none_some, laws.Cells.swept_back, laws.Cells.swept_other, laws.Cells.begun_cells, laws.Cells.retired_cells, laws.OneState.first_cells, laws.Placing.inside}
use Rattle.nmgc_heap_spec.specs.Moves.{Moved}
use Rattle.nmgc_sweep.specs.NameTable.{AreNamed, HaveEntries, HaveNoted, entry_of, named_at}

-- a segment whose cells are empty has no name

lies_not_free : (a : AllocState) (number block : ℕ) (name : Name) → cells a number ≡ no_cells → LiesIn a number block name → ⊥
lies_not_free a number block name none lies = none_some (name_in no_cells block) name refl (ap (λ (x : Cells). name_in x block) (sym none) ∙ lies)

-- a segment with a name exists
pub lies_exists : (s : Segments) (words : List ℕ) (a : AllocState) → StandsFor s words a → (number block : ℕ) (name : Name) →
    LiesIn a number block name → HasNumber s number
lies_exists s words a stood number block name lies = elim (cases_lt number (length a.segments)) [
  | inl lt ↦ let many = stood.count in omega (arith, lt, many)
  | inr past ↦ absurd (lies_not_free a number block name (get_or-eq_default a.segments no_cells past) lies)
]

lies_used : (s : Segments) (words : List ℕ) (a : AllocState) → StandsFor s words a → (number block : ℕ) (name : Name) → LiesIn a number block name →
    (cells a number).state ≢ Free
lies_used s words a stood number block name lies free =
    lies_not_free a number block name ((stood.shows number (lies_exists s words a stood number block name lies)).free free) lies

-- a segment with a name has the class of the allocation state
pub lies_class : (s : Segments) (words : List ℕ) (a : AllocState) → StandsFor s words a → (number block : ℕ) (name : Name) →
    LiesIn a number block name → (cells a number).class ≡ (nth s.segments number).class
lies_class s words a stood number block name lies =
    (stood.shows number (lies_exists s words a stood number block name lies)).class (lies_used s words a stood number block name lies)

-- a block with a name begins at its address
pub lies_begins : (s : Segments) (words : List ℕ) (a : AllocState) → StandsFor s words a → (number block : ℕ) (name : Name) →
    LiesIn a number block name → IsBlockAt s number block (block_place s.layout number (cells a number).class block)
lies_begins s words a stood number block name lies =
    let there = lies_exists s words a stood number block name lies in
    let shows = stood.shows number there in
    let used = lies_used s words a stood number block name lies in
    record {
      exists = there;
      used = λ free. used (shows.state ∙ free);
      within = inside s words number (cells a number) block name shows lies;
      place = ap (λ (k : ℕ). block_place s.layout number k block) (shows.class used);
    }

-- blocks that lie apart have different entries
later_entry : (p q size : ℕ) → FIRST_PLACE ≤ p → 4 ≤ size → p + size ≤ q → entry_of p ≡ entry_of q → ⊥
later_entry p q size above four apart same = omega (arith, above, four, apart, same)

-- an address below a bound has an entry
pub entry_there : (at n : ℕ) → FIRST_PLACE ≤ at → at < FIRST_PLACE + MIN_BLOCK_WORDS * n → entry_of at < n
entry_there at n above below = div_below (at - FIRST_PLACE) MIN_BLOCK_WORDS n (omega arith) (omega (arith, above, below))

-- every address below the nurseries has an entry
pub low_entry : (layout : Layout) (names : List Name) (at : ℕ) → IsLayout layout → HaveEntries layout names →
    at < FIRST_PLACE + layout.segments * layout.words → entry_of at < length names
low_entry layout names at sound enough low =
    let one : 1 * layout.words ≤ layout.segments * layout.words = mul-le-mul_right layout.words sound.some in
    let least = sound.words.least in
    div_below (at - FIRST_PLACE) MIN_BLOCK_WORDS (length names) (omega arith) (omega (arith, one, least, enough, low))

pub place_above : (s : Segments) (number block at : ℕ) → IsSegments s → IsBlockAt s number block at → FIRST_PLACE ≤ at
place_above s number block at sound begins =
    let four = large (nth s.segments number).class in
    let i = (lies_in s number block at at sound begins (omega arith) (omega (arith, four))).from in
    omega (arith, i)

-- no two blocks have the same entry
pub one_entry : (s : Segments) (m b at n c to : ℕ) → IsSegments s → IsBlockAt s m b at → IsBlockAt s n c to → entry_of at ≡ entry_of to → (m ≡ n) × (b ≡ c)
one_entry s m b at n c to sound first second same = elim (blocks_lie_apart s m b at n c to sound first second) [
  | inl one ↦ one
  | inr (inl apart) ↦ absurd (later_entry at to (block_size (nth s.segments m).class) (place_above s m b at sound first)
      (large (nth s.segments m).class) apart same)
  | inr (inr apart) ↦ absurd (later_entry to at (block_size (nth s.segments n).class) (place_above s n c to sound second)
      (large (nth s.segments n).class) apart (sym same))
]

-- the first state has no names
pub named_first : (layout : Layout) (names : List Name) (count : ℕ) → AreNamed layout names (all_empty count)
named_first layout names count number block name lies = absurd (lies_not_free (all_empty count) number block name (first_cells count number) lies)

-- the array still has the names of blocks after a step that adds no name and keeps the classes of blocks with names
named_over : (layout : Layout) (names : List Name) (a b : AllocState) →
    ((number block : ℕ) (name : Name) → LiesIn b number block name → LiesIn a number block name ×
    ((cells b number).class ≡ (cells a number).class)) → AreNamed layout names a → AreNamed layout names b
named_over layout names a b back named number block name lies =
    let was = back number block name lies in
    ap (λ (k : ℕ). named_at layout names number k block) was.1 ∙ named number block name was.0

pub named_begun : (layout : Layout) (names : List Name) (a : AllocState) → AreNamed layout names a → AreNamed layout names (cycle_begun a)
named_begun layout names a = named_over layout names a (cycle_begun a) (λ number block name lies. (
  sym (ap (λ (k : Cells). name_in k block) (begun_cells a number)) ∙ lies,
  ap (λ (k : Cells). k.class) (begun_cells a number),
))

pub named_retired : (layout : Layout) (names : List Name) (a : AllocState) → AreNamed layout names a → AreNamed layout names (all_retired a)
named_retired layout names a = named_over layout names a (all_retired a) (λ number block name lies. (
  sym (ap (λ (k : Cells). name_in k block) (retired_cells a number)) ∙ lies,
  ap (λ (k : Cells). k.class) (retired_cells a number),
))

-- a sweep keeps the class of a segment in which it leaves a name
swept_class : (a b : AllocState) (swept : ℕ) (K : ℕ → Type 0) → Sweeps a b swept K → (number block : ℕ) (name : Name) → LiesIn b number block name →
    (cells b number).class ≡ (cells a number).class
swept_class a b swept K s number block name lies = elim (cases_eq number swept) [
  | inl same ↦
      let here : LiesIn b swept block name = subst (λ (k : ℕ). LiesIn b k block name) same lies in
      rw same (elim s.swept [
        | inl h ↦ absurd (lies_not_free b swept block name h.1 here)
        | inr (inl h) ↦ ap (λ (c : Cells). c.class) h.1
        | inr (inr h) ↦ ap (λ (c : Cells). c.class) h.2
      ])
  | inr other ↦ ap (λ (c : Cells). c.class) (swept_other a b swept K s number other)
]

pub named_next : (layout : Layout) (names : List Name) (a b : AllocState) (swept : ℕ) (K : ℕ → Type 0) → Sweeps a b swept K →
    AreNamed layout names a → AreNamed layout names b
named_next layout names a b swept K s = named_over layout names a b (λ number block name lies. (
  swept_back a b swept K s number block name lies,
  swept_class a b swept K s number block name lies,
))

named_each : (layout : Layout) (names : List Name) (Kept : Name → Type 0) (a b : AllocState) (numbers : List ℕ) → SweepsEach Kept a numbers b →
    AreNamed layout names a → AreNamed layout names b
named_each layout names Kept a b [] e named = subst (λ (x : AllocState). AreNamed layout names x) (sym e) named
named_each layout names Kept a b (number ∷ numbers) h named =
    named_each layout names Kept h.0 b numbers h.2 (named_next layout names a h.0 number (HoldsKept Kept a number) h.1 named)

pub named_swept : (layout : Layout) (names : List Name) (Kept : Name → Type 0) (count : ℕ) (a b : AllocState) → SweepsSome Kept count a b →
    AreNamed layout names a → AreNamed layout names b
named_swept layout names Kept count a b s named = named_each layout names Kept a b s.numbers s.sweeps named

-- the array has the names of blocks after noted moves. Each name moved to its block or has its entry from before, and each
-- moved object lies at its new address
pub named_noted : (s : Segments) (words : List ℕ) (b : AllocState) (moves : List Moved) (old new : List Name) → IsSegments s → StandsFor s words b →
    HaveNoted moves old new
    → ((m : Moved) → Contains moves m → (number : ℕ) × (block : ℕ) × LiesIn b number block m.name ×
    (m.to ≡ block_place s.layout number (cells b number).class block))
    → ((number block : ℕ) (name : Name) → LiesIn b number block name →
    ((m : Moved) × Contains moves m × (m.to ≡ block_place s.layout number (cells b number).class block)) ⊎
    (named_at s.layout old number (cells b number).class block ≡ Some name))
    → AreNamed s.layout new b
named_noted s words b moves old new sound stands noted moved came number block name lies =
    let at = block_place s.layout number (cells b number).class block in
    elim (noted.entry (entry_of at)) [
      | inl (m, there, same, is) ↦
          let lay = moved m there in
          let to = block_place s.layout lay.0 (cells b lay.0).class lay.1 in
          let one : (lay.0 ≡ number) ×
          (lay.1 ≡ block) = one_entry s lay.0 lay.1 to number block at sound (lies_begins s words b stands lay.0 lay.1 m.name lay.2)
          (lies_begins s words b stands number block name lies) (ap entry_of (sym lay.3) ∙ same) in
          let here : LiesIn b number block m.name = rw (← one.1) (subst (λ (k : ℕ). LiesIn b k lay.1 m.name) one.0 lay.2) in
          is ∙ sym here ∙ lies
      | inr (none, same) ↦ elim (came number block name lies) [
        | inl (m, there, to) ↦ absurd (none m there (ap entry_of to))
        | inr was ↦ same ∙ was
      ]
    ]

pub none_noted : (names : List Name) → HaveNoted [] names names
none_noted names = record { count = refl; entry = λ i. inr ((λ m c. absurd (omega (arith, c.1))), refl) }

pub one_noted : (moves : List Moved) (m : Moved) (old mid new : List Name) → entry_of m.to < length mid → new ≡ set mid (entry_of m.to) m.name →
    HaveNoted moves old mid → HaveNoted (moves ++ m ∷ []) old new
one_noted moves m old mid new low is h = record {
  count = ap (λ (l : List Name). length l) is ∙ length-set mid (entry_of m.to) m.name ∙ h.count;
  entry = λ i. elim (cases_eq i (entry_of m.to)) [
    | inl here ↦ inl (
      m,
      Contains-push moves m,
      sym here,
      cc (is, here, get_set_same mid (entry_of m.to) m.name low),
    )
    | inr other ↦
        let stays : slice_get new i ≡ slice_get mid i = ap (λ (l : List Name). slice_get l i) is ∙ get_set_other mid (entry_of m.to) i m.name other in
        elim (h.entry i) [
          | inl (x, there, same, was) ↦ inl (x, Contains-append_left moves (m ∷ []) x there, same, stays ∙ was)
          | inr (none, was) ↦ inr (
            (λ x there same. elim (Contains-push_cases moves m x there) [
              | inl before ↦ none x before same
              | inr e ↦ other (sym same ∙ ap (λ (y : Moved). entry_of y.to) (sym e))
            ]),
            stays ∙ was,
          )
        ]
  ];
}
