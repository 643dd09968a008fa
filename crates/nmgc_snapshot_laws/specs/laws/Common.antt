-- Lemmas that crates above need too.
use Rattle.std.specs.Prelude.{◌++◌, ◌∷◌}
use Rattle.nmgc_snapshot_laws.specs.laws.Vocabulary.{◌∙◌, sym, ap, subst, List, [], append_assoc, Row, Event, State, rows_if, Runs}

-- a run of the machine goes on with another
pub runs_join : (s t u : State) (xs ys : List Event) (rows rest : List Row) → Runs s xs rows t → Runs t ys rest u → Runs s (xs ++ ys) (rows ++ rest) u
runs_join s t u [] ys rows rest h k =
    let R : List Row → Type 0 = λ r. Runs s ys (r ++ rest) u in
    let S : State → Type 0 = λ x. Runs x ys rest u in
    subst R (sym h.0) (subst S h.1 k)
runs_join s t u (x ∷ xs) ys rows rest (d, next, more, first, is, others) k = (
  d,
  next,
  more ++ rest,
  first,
  ap (λ (r : List Row). r ++ rest) is ∙ append_assoc (rows_if d x) more rest,
  runs_join next t u xs ys more rest others k,
)
