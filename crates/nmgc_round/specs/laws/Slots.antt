-- Lists of stacks with a change of one stack.
use Rattle.std.specs.Prelude.{◌≡◌, ◌≢◌, ◌∷◌}
use Rattle.nmgc_round.specs.laws.Vocabulary.{inl, inr, ℕ, List, [], refl, sym, ap, ◌∙◌, true, false, cond, eqb, Some, eq-eqb, ne_eqb, cases_eq, Slots, with_slots, slots_at}

-- the stack whose words change
pub slots_same : (stacks : List Slots) (at : ℕ) (f : List ℕ → List ℕ) (ws : List ℕ) → slots_at stacks at ≡ Some ws →
    slots_at (with_slots stacks at f) at ≡ Some (f ws)
slots_same [] at f ws e = absurd cc
slots_same (s ∷ stacks) at f ws e = elim (cases_eq s.at at) [
  | inl same ↦
      let b : eqb s.at at ≡ true = eq-eqb s.at at same in
      let is : Some s.words ≡ Some ws = sym (ap (λ t. cond t (Some s.words) (slots_at stacks at)) b) ∙ e in
      let words : s.words ≡ ws = cc in
      ap (λ (t : Slots). cond (eqb t.at at) (Some t.words) (slots_at (with_slots stacks at f) at)) (ap (λ t.
      cond {A = Slots} t (record s { words = f s.words }) s) b) ∙ ap (λ t. cond t (Some (f s.words)) (slots_at (with_slots stacks at f) at)) b ∙
      ap (λ l. Some (f l)) words
  | inr ne ↦
      let b : eqb s.at at ≡ false = ne_eqb s.at at ne in
      let rest : slots_at stacks at ≡ Some ws = sym (ap (λ t. cond t (Some s.words) (slots_at stacks at)) b) ∙ e in
      ap (λ (t : Slots). cond (eqb t.at at) (Some t.words) (slots_at (with_slots stacks at f) at)) (ap (λ t.
      cond {A = Slots} t (record s { words = f s.words }) s) b) ∙ ap (λ t. cond t (Some s.words) (slots_at (with_slots stacks at f) at)) b ∙
      slots_same stacks at f ws rest
]

-- and the other stacks
pub slots_other : (stacks : List Slots) (at y : ℕ) (f : List ℕ → List ℕ) → y ≢ at → slots_at (with_slots stacks at f) y ≡ slots_at stacks y
slots_other [] at y f ne = refl
slots_other (s ∷ stacks) at y f ne = elim (cases_eq s.at at) [
  | inl same ↦
      let b : eqb s.at at ≡ true = eq-eqb s.at at same in
      let off : eqb s.at y ≡ false = ne_eqb s.at y (λ e. ne (sym e ∙ same)) in
      ap (λ (t : Slots). cond (eqb t.at y) (Some t.words) (slots_at (with_slots stacks at f) y)) (ap (λ t.
      cond {A = Slots} t (record s { words = f s.words }) s) b) ∙
      ap (λ t. cond t (Some (f s.words)) (slots_at (with_slots stacks at f) y)) off ∙ slots_other stacks at y f ne ∙
      sym (ap (λ t. cond t (Some s.words) (slots_at stacks y)) off)
  | inr apart ↦
      let b : eqb s.at at ≡ false = ne_eqb s.at at apart in
      ap (λ (t : Slots). cond (eqb t.at y) (Some t.words) (slots_at (with_slots stacks at f) y)) (ap (λ t.
      cond {A = Slots} t (record s { words = f s.words }) s) b) ∙ ap (λ l. cond (eqb s.at y) (Some s.words) l) (slots_other stacks at y f ne)
]
