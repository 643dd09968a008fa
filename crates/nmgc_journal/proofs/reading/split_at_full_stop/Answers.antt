use Rattle.nmgc_journal.proofs.Vocabulary.{◌≡◌, ◌≢◌, ◌∷◌, ◌++◌, ℕ, List, Bor, Option, Some, None, All, IfSome, IfNone, parts_at, parts_some, parts_none}
use Rattle.nmgc_journal.proofs.reading.split_at_full_stop.Goals as goal

cut_parts : (bytes : List ℕ) (o : Option (Bor (List ℕ) × Bor (List ℕ))) → IfSome o (λ parts. bytes ≡ parts.0.now ++ 46 ∷ parts.1.now) →
    IfSome o (λ parts. All (λ b. b ≢ 46) parts.0.now) → IfSome o (λ parts. parts_at bytes ≡ Some (parts.0.now, parts.1.now))
cut_parts bytes None parts first = tt
cut_parts bytes (Some p) parts first = parts_some bytes p.0.now p.1.now first parts

no_parts : (bytes : List ℕ) (o : Option (Bor (List ℕ) × Bor (List ℕ))) → IfNone o (All (λ b. b ≢ 46) bytes) → IfNone o (parts_at bytes ≡ None)
no_parts bytes None none = parts_none bytes none
no_parts bytes (Some p) none = tt

pub returns-clause-some : goal.returns-clause-some
returns-clause-some c = cut_parts c.args.word.now c.cut.result c.cut.ensures.parts c.cut.ensures.first

pub returns-clause-none : goal.returns-clause-none
returns-clause-none c = no_parts c.args.word.now c.cut.result c.cut.ensures.none
