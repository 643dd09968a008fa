-- The words and segments after a script that makes one object.
use Rattle.nmgc_collector_laws.proofs.Vocabulary.{◌-◌, ℕ, zero, suc, ◌≡◌, ◌+◌, ◌≤◌, ◌⊎◌, ◌↔◌, List, [], ◌∷◌, ◌++◌, length, map, replicate, get_or, slice_index, arith, refl, sym, ap, subst, ◌∙◌, inl, inr, Option, Some, None, lit≤, lit<, IsSome, Contains, slice_get, ◌==◌, REGISTERS, SHARED_MAKER, SHARED_SLOTS, Name, Nil, Number, Node, Con, Arr, Weak, Parts, node_of, state_of, shared_name, IsAlive, contains_head, contains_tail, contains_cases, none_in, Layout, InNursery, word_total, InUse, nth, HasNumber, block_place, block_size, name_word, IsName, StandsFor, Shows, LiesIn, AreNames, all_empty, cells, no_cells, name_in, holds, size_of, zeros_first, Place, HasSlots, ListMeans, LiesWell, LiesInSegment, shared_place, IsNamed, IsPlaced, Represents, NoNode, layout_of, IsPlaceAtStop, FitBlocks, ObjectIsLawful, small_plan, object_program, object_name, object_words, object_segments, object_mutator, some_is, not_known, eqb-true}
use Rattle.nmgc_alloc.specs.Segments.{all_free}
use Rattle.nmgc_journal.specs.declared.report.MutatorEnd.{MutatorEnd}
use Rattle.nmgc_run_spec.specs.Lawful.{HasObject, HoldsAtEnd, IsMutatorAtEnd}
use Rattle.nmgc_collector_laws.specs.Samples.{object_report}
use Rattle.nmgc_lists.specs.laws.Options.{not_none}
use Rattle.nmgc_collector_laws.proofs.{runs.Reading.shared_or, runs.Reading.has_slots, runs.Reading.fills_nil, runs.Listed.all_same, runs.Object.worked, runs.Object.placed, runs.Object.last, runs.Object.object_run, runs.Object.object_is_run}

abbrev layout : Layout
layout = layout_of (small_plan object_program)

abbrev object_place : Place
object_place = record { at = 32; name = object_name }

abbrev places : List Place
places = shared_place ∷ object_place ∷ []

-- a place is one of two
two : (p : Place) → Contains places p → (shared_place ≡ p) ⊎ (object_place ≡ p)
two p c = elim (contains_cases shared_place (object_place ∷ []) p c) [
  | inl e ↦ inl e
  | inr d ↦ elim (contains_cases object_place [] p d) [ inl e ↦ inr e | inr none ↦ absurd (none_in p none) ]
]

each_place : (P : Place → Type 0) → P shared_place → P object_place → (p : Place) → Contains places p → P p
each_place P shared object p c = elim (two p c) [ inl e ↦ subst P e shared | inr e ↦ subst P e object ]

-- the one block with a name
only_block : (number block : ℕ) (n : Name) → LiesIn placed number block n → (0 ≡ number) × (0 ≡ block) × (object_name ≡ n)
only_block zero zero n e = (refl, refl, some_is object_name n e)
only_block zero (suc block) n e =
    let none : get_or {A = Option Name} (replicate 15 None) block None ≡ None = all_same {A = Option Name} 15 None block in absurd cc
only_block (suc number) block n e =
    let free : get_or (replicate 31 no_cells) number no_cells ≡ no_cells = all_same 31 no_cells number in
    let none = ap (λ c. name_in c block) free in
    absurd cc

same_place : (p : Place) → 32 ≡ p.at → object_name ≡ p.name → object_place ≡ p
same_place p at name = ap (λ (a : ℕ). record { at = a; name = object_name }) at ∙ ap (λ (n : Name). record { at = p.at; name = n }) name

all_places : (p : Place) → Contains places p ↔ IsPlaceAtStop layout placed p
all_places p = (each_place (IsPlaceAtStop layout placed) (inl refl) (inr (record { number = 0; block = 0; lies = refl; at = refl })) p, back)
  where
    Q : Place → Type 0
    Q = Contains places

    back : IsPlaceAtStop layout placed p → Contains places p
    back (inl e) = subst (λ q. Contains places q) (sym e) (contains_head shared_place (object_place ∷ []))
    back (inr b) =
        let is = only_block b.number b.block p.name b.lies in
        let at : p.at ≡ 32 = b.at ∙ ap (λ (k : ℕ). block_place layout k (cells placed k).class b.block) (sym is.0) ∙
        ap (λ (k : ℕ). block_place layout 0 0 k) (sym is.1) in
        subst (λ q. Contains places q) (same_place p (sym at) is.2) (contains_tail shared_place (object_place ∷
        []) object_place (contains_head object_place []))

-- the names and nodes of the world: g, and the object

only_names : (maker serial : ℕ) (node : Node) → node_of worked.world (record { maker = maker; serial = serial }) ≡ Some node →
    (shared_name ≡ record { maker = maker; serial = serial }) ⊎ (object_name ≡ record { maker = maker; serial = serial })
only_names zero zero node e = inr refl
only_names zero (suc serial) node e = absurd (not_known serial node e)
only_names (suc maker) serial node e = shared_or (suc maker == SHARED_MAKER) (serial == 0) _ _ node _
    (λ b d. inl (cc (eqb-true (suc maker) SHARED_MAKER b, eqb-true serial 0 d)))
    (λ o. absurd (not_known serial node o)) e

each_name : (P : Name → Node → Type 0) → P shared_name (Arr (replicate 16 Nil)) → P object_name (Con 7 (Number 5 ∷ [])) → (n : Name) (node : Node) →
    node_of worked.world n ≡ Some node → P n node
each_name P shared object n node e = elim (only_names n.maker n.serial node e) [
  | inl is ↦
      let there : node_of worked.world shared_name ≡ Some node = ap (λ (m : Name). node_of worked.world m) is ∙ e in
      subst (λ m. P m node) is (subst (λ x. P shared_name x) (some_is (Arr (replicate 16 Nil)) node there) shared)
  | inr is ↦
      let there : node_of worked.world object_name ≡ Some node = ap (λ (m : Name). node_of worked.world m) is ∙ e in
      subst (λ m. P m node) is (subst (λ x. P object_name x) (some_is (Con 7 (Number 5 ∷ [])) node there) object)
]

shared_fields : HasSlots (Contains places) object_words 3 (map holds (replicate 16 Nil))
shared_fields = has_slots (Contains places) (0 ∷ 32771 ∷ 32 ∷ []) (replicate 16 1) (replicate 13 0 ++
    (2105 ∷ 0 ∷ 13 ∷ replicate 2109 0)) (map holds (replicate 16 Nil)) (fills_nil (Contains places) 16)

object_fields : HasSlots (Contains places) object_words 34 (holds (Number 5) ∷ [])
object_fields = has_slots (Contains places) (0 ∷ 32771 ∷ 32 ∷ (replicate 16 1 ++ (replicate 13 0 ++ (2105 ∷ 0 ∷ [])))) (13 ∷
    []) (replicate 2109 0) (holds (Number 5) ∷ []) (refl, tt)

makers_differ : object_name ≡ shared_name → ⊥
makers_differ e = let makers = ap (λ (n : Name). n.maker) e in omega arith

-- the object's words lie in the first segment
in_first : (size : ℕ) → size ≤ 4 → LiesInSegment layout 32 size
in_first size most = (0, λ i from before. record { exists = lit< tt; from = omega (arith, from); before = omega (arith, before, most) })

own_maker : object_name.maker ≡ shared_name.maker → ⊥
own_maker e = absurd (omega (arith, e))

object_lies : (size : ℕ) → size ≤ 4 → LiesWell layout object_place size
object_lies size most = inr (own_maker, inl (in_first size most))

abbrev Placed : Name → Node → Type 0
Placed n node = IsPlaced layout [] NoNode places object_words n node

shared_placed : Placed shared_name (Arr (replicate 16 Nil))
shared_placed = record {
  at = 1;
  there = contains_head shared_place (object_place ∷ []);
  object = record {
    header = refl;
    valid = (refl, lit≤ tt);
    lies = inl (refl, refl, lit≤ tt);
    alone = each_place (λ q. (q.at ≤ 1) ⊎ (1 + 18 ≤ q.at)) (inl (lit≤ tt)) (inr (lit≤ tt));
  };
  fields = shared_fields;
  free = λ e before c. absurd (none_in e c);
  kept = λ before none. absurd none;
}

object_placed : Placed object_name (Con 7 (Number 5 ∷ []))
object_placed = record {
  at = 32;
  there = contains_tail shared_place (object_place ∷ []) object_place (contains_head object_place []);
  object = record {
    header = refl;
    valid = (lit< tt, lit≤ tt);
    lies = object_lies 3 (lit≤ tt);
    alone = each_place (λ q. (q.at ≤ 32) ⊎ (32 + 3 ≤ q.at)) (inl (lit≤ tt)) (inl (lit≤ tt));
  };
  fields = object_fields;
  free = λ e before c. absurd (none_in e c);
  kept = λ before none. absurd none;
}

abbrev Apart : Place → Place → Type 0
Apart p q = (p.name ≡ q.name) ⊎ (p.at ≡ q.at) → p ≡ q

apart : Apart shared_place object_place
apart (inl e) = absurd (makers_differ (sym e))
apart (inr e) = absurd (omega (arith, e))

apart_back : Apart object_place shared_place
apart_back (inl e) = absurd (makers_differ e)
apart_back (inr e) = absurd (omega (arith, e))

represents : Represents layout [] NoNode places worked.world object_words
represents = record {
  total = refl;
  one = λ p q c d. each_place (λ x. Apart x q) (each_place (λ y. Apart shared_place y) (λ h. refl) apart q d) (each_place (λ y.
      Apart object_place y) apart_back (λ h. refl) q d) p c;
  named = each_place (IsNamed layout worked.world object_words)
      (record { known = refl; valid = (lit≤ tt, lit< tt, λ m. refl); name = refl; lies = inl (refl, refl, lit≤ tt) })
      (record { known = refl; valid = (lit≤ tt, lit< tt, λ m. absurd (omega (arith, m))); name = refl; lies = object_lies 2 (lit≤ tt) });
  tracked = λ n node t e. each_name Placed shared_placed object_placed n node e;
  born = λ p node c nursery there. absurd (each_place (λ q. InNursery layout q.name.maker q.at →
      ⊥) (λ n. omega (arith, n.exists)) (λ n. omega (arith, n.from)) p c nursery);
  zeros = zeros_first 32771 SHARED_MAKER (replicate SHARED_SLOTS 1) (2105 ∷ 0 ∷ 13 ∷ replicate 2109 0) refl;
}

no_weak : (n : Name) (parts : Parts) → IsAlive worked.world n parts → ⊥
no_weak n parts e = each_name (λ m node. node ≡ Weak (Some parts) → ⊥) (λ h. cc) (λ h. cc) n (Weak (Some parts)) e refl

fit : FitBlocks worked.world placed
fit number block n node lies there =
    let is = only_block number block n lies in
    let size : size_of node ≤ 4 = each_name (λ m x. object_name ≡ m → size_of x ≤ 4) (λ h. absurd (makers_differ h)) (λ h. lit≤ tt) n node there is.2 in
    subst (λ k. size_of node ≤ block_size (cells placed k).class) is.0 size

nils_mean : (count : ℕ) → ListMeans (Contains places) (replicate count 1) (replicate count Nil)
nils_mean zero = tt
nils_mean (suc count) = (refl, nils_mean count)

registers_mean : ListMeans (Contains places) object_mutator.registers (state_of worked.world 0).registers
registers_mean = (
  (32, refl, contains_tail shared_place (object_place ∷ []) object_place (contains_head object_place [])),
  (refl, (refl, nils_mean (REGISTERS - 3))),
)

each_mutator : (m : ℕ) (own : MutatorEnd) → slice_get (object_mutator ∷ []) m ≡ Some own → IsMutatorAtEnd places worked.world m own
each_mutator zero own e =
    subst (IsMutatorAtEnd places worked.world 0) (some_is object_mutator own e) (record { registers = registers_mean; queue = tt; serial = refl })
each_mutator (suc m) own e = absurd cc

-- the segments represent the allocation state: the first has one block in use, and each other is as before its first use

used_first : (block : ℕ) → IsSome (name_in (cells placed 0) block) ↔ InUse (nth object_segments.segments 0) block
used_first zero = (λ some. inl (lit< tt), λ used. refl)
used_first (suc block) = (
  λ some. absurd (not_none _ (all_same {A = Option Name} 15 None block) some),
  λ used. elim used [
    | inl below ↦ absurd (omega (arith, below))
    | inr marked ↦ absurd (marked (all_same 15 0 block))
  ],
)

named_first : (block : ℕ) (n : Name) → name_in (cells placed 0) block ≡ Some n → slice_index object_words (block_place layout 0 0 block + 1) ≡ name_word n
named_first zero n e = ap name_word (some_is object_name n e)
named_first (suc block) n e = let none : get_or {A = Option Name} (replicate 15 None) block None ≡ None = all_same {A = Option Name} 15 None block in absurd cc

abbrev NewStands : Type 0
NewStands = (layout : Layout) (words : List ℕ) → length words ≡ word_total layout → StandsFor (all_free layout) words (all_empty layout.segments)

shows : NewStands → (number : ℕ) → HasNumber object_segments number → Shows object_segments object_words number (cells placed number)
shows new zero has = record {
  state = refl;
  free = λ e. absurd cc;
  class = λ used. refl;
  blocks = λ used. refl;
  used = used_first;
  named = named_first;
}
shows new (suc number) has =
    let other = (new layout object_words refl).shows (suc number) has in
    record { state = other.state; free = other.free; class = other.class; blocks = other.blocks; used = other.used; named = other.named }

stands : NewStands → StandsFor object_segments object_words placed
stands new = record { total = refl; count = refl; names = names; fresh = refl; shows = shows new }
  where
    names : AreNames placed
    names number block n lies = let is = only_block number block n lies in subst IsName is.2 (lit≤ tt, lit< tt, λ m. absurd (omega (arith, m)))

-- the object of a name of the world lies at its place
object_there : (n : Name) (node : Node) → Placed n node → (at : ℕ) × HasObject places object_words (record { at = at; name = n }) node
object_there n node p = (
  p.at,
  record {
    there = p.there;
    header = p.object.header;
    name = (represents.named (record { at = p.at; name = n }) p.there).name;
    fields = p.fields;
  },
)

at_end : NewStands → HoldsAtEnd layout last object_report
at_end new = record {
  places = places;
  all = all_places;
  layout_is = refl;
  stands = stands new;
  fit = fit;
  objects = λ n node wide e. object_there n node (each_name Placed shared_placed object_placed n node e);
  zeros = represents.zeros;
  count = refl;
  mutators = each_mutator;
  weaks = record {
    ordered = tt;
    sound = λ n c. absurd (none_in n c);
    complete = λ n alive. absurd (no_weak n alive.0 alive.1);
  };
}

pub object_is_lawful : NewStands → ObjectIsLawful
object_is_lawful new = record {
  run = object_run;
  is_run = object_is_run;
  agrees = record { rounds_are = refl; stops_are = refl; cycles_are = refl };
  end_is = refl;
  heap = at_end new;
}
