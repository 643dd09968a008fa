-- The heap without objects but g is a run's beginning: its only address is g's, and no block has a name.
use Rattle.nmgc_cycle.proofs.Vocabulary.{ℕ, ◌≡◌, ◌<◌, List, [], ◌∷◌, arith, sym, ap, subst, ◌∙◌, inl, inr, Option, Some, None, Contains, ◌/◌, IfSome, length-replicate, Name, Node, Weak, Parts, World, new_world, node_of, IsAliveWeak, contains_head, contains_cases, nothing_in, new_nodes, Layout, Segment, mark_of, free_segment, all_free, Cells, all_empty, no_cells, name_in, LiesIn, nth_free, first_cells, Place, shared_place, ListsWeaks, FitBlocks, IsPlaceAtStop, AreSettled}
use Rattle.nmgc_alloc.specs.laws.Numbers.{unmarked}

-- no name lies in a block
pub lies_nowhere : (count number block : ℕ) (name : Name) → LiesIn (all_empty count) number block name → ⊥
lies_nowhere count number block name lies =
    let none : name_in no_cells block ≡ Some name = ap (λ (c : Cells). name_in c block) (sym (first_cells count number)) ∙ lies in absurd (cc)

-- every object fits its block, since there is none
pub fit_blocks : (w : World) (count : ℕ) → FitBlocks w (all_empty count)
fit_blocks w count number block name node lies there = absurd (lies_nowhere count number block name lies)

-- the only address is g's
pub place_of_g : (layout : Layout) (count : ℕ) (p : Place) → Contains (shared_place ∷ []) p → IsPlaceAtStop layout (all_empty count) p
place_of_g layout count p c = elim (contains_cases shared_place [] p c) [ inl e ↦ inl (sym e) | inr none ↦ absurd (nothing_in p none) ]

pub g_has_place : (layout : Layout) (count : ℕ) (p : Place) → IsPlaceAtStop layout (all_empty count) p → Contains (shared_place ∷ []) p
g_has_place layout count p (inl e) = subst (λ (q : Place). Contains (shared_place ∷ []) q) (sym e) (contains_head shared_place [])
g_has_place layout count p (inr b) = absurd (lies_nowhere count b.number b.block p.name b.lies)

-- a new world has no weak pointer
pub no_weak : (count : ℕ) (name : Name) → IsAliveWeak (new_world count) name → ⊥
no_weak count name alive = elim (node_of (new_world count) name) as (λ (o : Option Node). o ≡ Some (Weak (Some alive.0)) →
    IfSome o (λ node. (parts : Parts) → node ≡ Weak (Some parts) → ⊥) → ⊥) [
      | None ↦ λ e h. cc
      | Some node ↦ λ e h. let same : node ≡ Weak (Some alive.0) = cc in h alive.0 same
    ] alive.1 (new_nodes (λ n node. (parts : Parts) → node ≡ Weak (Some parts) → ⊥) (λ parts e. cc) count name)

-- so none is listed
pub lists_no_weaks : (layout : Layout) (places : List Place) (count : ℕ) → ListsWeaks layout places (new_world count) []
lists_no_weaks layout places count = record {
  ordered = tt;
  sound = λ p c. absurd (nothing_in p c);
  complete = λ p is. absurd (no_weak count p.name is.1);
}

-- no block is marked
pub no_marks : (layout : Layout) (begun : ℕ) → AreSettled begun (all_free layout)
no_marks layout begun number block has not =
    let low : number < layout.segments = omega (arith, has, length-replicate layout.segments (free_segment layout.words)) in
    inl (ap (λ (s : Segment). mark_of s block) (nth_free layout layout.segments number low) ∙ unmarked (layout.words / 4) block)
