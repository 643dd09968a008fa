-- A round's order has each mutator's commands with their replies.
use Rattle.nmgc_cycle.proofs.{Vocabulary.ℕ, Vocabulary.suc, Vocabulary.◌≡◌, Vocabulary.List, Vocabulary.[], Vocabulary.◌∷◌, Vocabulary.length, Vocabulary.map, Vocabulary.refl, Vocabulary.sym, Vocabulary.ap, Vocabulary.◌∙◌, Vocabulary.inl, Vocabulary.inr, Vocabulary.cases_eq, Vocabulary.eq-eqb, Vocabulary.ne_eqb, Vocabulary.Row, Vocabulary.rows_of, Vocabulary.Reply, Vocabulary.answered, Vocabulary.Done, rounds.Slicing.commands_of}

-- the replies that were given
abbrev pub replies_in : List Done → List Reply
replies_in done = map (λ (d : Done). d.1) done

-- a row without its mutator
abbrev pub done_in : List Row → List Done
done_in rows = map (λ (row : Row). (row.command, row.reply)) rows

-- the rows of a mutator are its commands with their replies
pub own_again : (m : ℕ) (rows : List Row) → answered m (commands_of (done_in (rows_of m rows))) (replies_in (done_in (rows_of m rows))) ≡ rows_of m rows
own_again m [] = refl
own_again m (row ∷ rows) = elim (cases_eq row.mutator m) [
  | inl same ↦ rw (eq-eqb row.mutator m same) (
      ap (λ (k : ℕ). record { mutator = k; command = row.command; reply = row.reply } ∷
      answered m (commands_of (done_in (rows_of m rows))) (replies_in (done_in (rows_of m rows)))) (sym same)
      ∙ ap (λ (rest : List Row). row ∷ rest) (own_again m rows))
  | inr other ↦ rw (ne_eqb row.mutator m other) (own_again m rows)
]

-- there is a reply for each command
pub same_lengths : (done : List (List Done)) → map length (map replies_in done) ≡ map length (map commands_of done)
same_lengths [] = refl
same_lengths (d ∷ done) = cc (same d, same_lengths done)
  where
    same : (d : List Done) → length (replies_in d) ≡ length (commands_of d)
    same [] = refl
    same (x ∷ d) = ap suc (same d)
