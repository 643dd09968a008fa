-- The marker's stack of addresses: the queue is the stack from the top.
use Rattle.nmgc_mark.proofs.Vocabulary.{◌≡◌, eqb, eqb-true, eq-eqb, true, ℕ, List, [], ◌∷◌, ◌++◌, length, length-map, length-reverse, nil_from_length, refl, sym, ap, ◌∙◌, Option, Some, None, IfSome, reverse, reverse-append, Address, MarkerSeen, places}

-- the test whether the queue is empty
pub empty_known : (queue : List ℕ) (items : List Address) → queue ≡ places (reverse items) →
    (eqb (length items) 0 ≡ true → queue ≡ []) × (queue ≡ [] → eqb (length items) 0 ≡ true)
empty_known queue items is = (
  λ t. is ∙ ap (λ (l : List Address). places (reverse l)) (nil_from_length items (eqb-true (length items) 0 t)),
  λ none. eq-eqb (length items) 0 (sym (length-map (reverse items) (λ (a : Address). a.0) ∙ length-reverse items) ∙ ap length (sym is ∙ none)),
)

-- the first address of the queue is on top
pub top_taken : (r : Option Address) (was now : List Address) (P : Type 0) (old new : MarkerSeen) →
    IfSome r (λ (at : Address). (was ≡ now ++ at ∷ []) × P) → old.queue ≡ places (reverse was) → new ≡ record old { queue = places (reverse now) } →
    IfSome r (λ (at : Address). (old.queue ≡ at.0 ∷ new.queue) × (new ≡ record old { queue = new.queue }))
top_taken None was now P old new h q n = tt
top_taken (Some at) was now P old new h q n = (
  q ∙ ap places (ap reverse h.0 ∙ reverse-append now (at ∷ [])) ∙ ap (λ (m : MarkerSeen). at.0 ∷ m.queue) (sym n),
  n ∙ ap (λ (m : MarkerSeen). let k : MarkerSeen = record old { queue = m.queue } in k) (sym n),
)
