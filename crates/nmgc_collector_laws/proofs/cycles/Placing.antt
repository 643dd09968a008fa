-- Names that are placed: all other names stay in their blocks, and segments in use keep their class.
use Rattle.nmgc_collector_laws.proofs.Vocabulary.{◌≡◌, ◌≢◌, ◌⊎◌, ℕ, List, [], ◌∷◌, sym, ap, subst, ◌∙◌, refl, inl, inr, Contains, cases_eq, get_or-set_same, get_or-set_other, Name, World, contains_head, contains_tail, Layout, Free, AllocState, Cells, Exists, IsIn, IsTarget, LiesIn, PlacesName, cells, no_cells, with_cells, AreFreeEmpty, placed_stays, placed_where, placed_free, PlacesEach}

module _ (layout : Layout) (a b : AllocState) (m class : ℕ) (name : Name) (p : PlacesName layout a b m class name) where
  exists : IsTarget a m class p.number → Exists a p.number
  exists (inl one) = one.0
  exists (inr (none, inl first)) = first.is.0
  exists (inr (none, inr (no_active, first))) = first.is.0

  class_is : IsTarget a m class p.number → (IsIn Free (cells a p.number) → ⊥) → (cells a p.number).class ≡ class
  class_is (inl own) used = own.1.1
  class_is (inr (none, inl next)) used = next.is.1.1
  class_is (inr (none, inr (no_active, next))) used = absurd (used next.is.1)

  -- a segment in use keeps its class, and isn't free afterwards
  abbrev Keeps : ℕ → Type 0
  Keeps number = ((cells b number).class ≡ (cells a number).class) × (IsIn Free (cells b number) → ⊥)

  by_cells : (c : Cells) (fresh : ℕ) → c.class ≡ class → c.state ≢ Free → b ≡ with_cells a p.number c fresh → (number : ℕ) →
      (IsIn Free (cells a number) → ⊥) → Keeps number
  by_cells c fresh is not_free e number used = elim (cases_eq number p.number) [
    | inl here ↦
        let now : cells b number ≡ c = cc (here, e, get_or-set_same a.segments p.number c no_cells (exists p.target)) in
        let was : (cells a number).class ≡ class = cc (here, class_is p.target (subst (λ (k : ℕ). IsIn Free (cells a k) → ⊥) here used)) in
        (ap (λ (x : Cells). x.class) now ∙ is ∙ sym was, λ free. not_free (ap (λ (x : Cells). x.state) (sym now) ∙ free))
    | inr other ↦
        let same : cells b number ≡ cells a number = ap (λ (x : AllocState). cells x number) e ∙ get_or-set_other a.segments p.number number c no_cells other in
        (ap (λ (x : Cells). x.class) same, λ free. used (ap (λ (x : Cells). x.state) (sym same) ∙ free))
  ]

  keeps : (number : ℕ) → (IsIn Free (cells a number) → ⊥) → Keeps number
  keeps = elim p.placed [
    | inl h ↦ by_cells _ _ refl (λ e. cc) h.1
    | inr h ↦ by_cells _ _ refl (λ e. cc) h.1
  ]

-- the allocation state after names were placed
pub record Stay (a b : AllocState) (names : List Name) : Type 0 where
  pub lies : (number block : ℕ) (n : Name) → LiesIn a number block n → LiesIn b number block n
  pub class : (number : ℕ) → (IsIn Free (cells a number) → ⊥) → (cells b number).class ≡ (cells a number).class
  pub used : (number : ℕ) → (IsIn Free (cells a number) → ⊥) → IsIn Free (cells b number) → ⊥
  pub was : (number block : ℕ) (n : Name) → LiesIn b number block n → Contains names n ⊎ LiesIn a number block n

stay_same : (a b : AllocState) → b ≡ a → Stay a b []
stay_same a b e = subst (λ (x : AllocState). Stay a x []) (sym e) (record { lies = λ k l n h. h; class = λ k h. refl; used = λ k h. h; was = λ k l n h. inr h })

pub each_stay : (layout : Layout) (w : World) (a b : AllocState) (names : List Name) → PlacesEach layout w a names b → AreFreeEmpty a → Stay a b names
each_stay layout w a b [] e free = stay_same a b e
each_stay layout w a b (name ∷ names) p free =
    let mid : AllocState = p.0 in
    let step = p.1.places in
    let rest : Stay mid b names = each_stay layout w mid b names p.2 (placed_free layout a mid name.maker p.1.class name step free) in
    let kept : (number : ℕ) → (IsIn Free (cells a number) → ⊥) →
    Keeps layout a mid name.maker p.1.class name step number = keeps layout a mid name.maker p.1.class name step in
    record {
      lies = λ number block n h. rest.lies number block n (placed_stays layout a mid name.maker p.1.class name step free number block n h);
      class = λ number used. rest.class number (kept number used).1 ∙ (kept number used).0;
      used = λ number used. rest.used number (kept number used).1;
      was = λ number block n h. elim (rest.was number block n h) [
        | inl c ↦ inl (contains_tail name names n c)
        | inr mid_lies ↦ elim (placed_where layout a mid name.maker p.1.class name step number block n mid_lies) [
          | inl here ↦ inl (subst (λ (x : Name). Contains (name ∷ names) x) (sym here.0) (contains_head name names))
          | inr old ↦ inr old
        ]
      ];
    }
