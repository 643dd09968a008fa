use Rattle.nmgc_cli.proofs.Vocabulary.{◌≡◌, ◌≤◌, List, ℕ, length, sym, subst, arith, IfOk, IfErr, sum_by, Command, IsFaultOf, Spells, Script}
use Rattle.nmgc_cli.proofs.run.script_of.Goals as goal

pub returns-clause-found : goal.returns-clause-found
returns-clause-found c = subst (λ (bytes : List ℕ). IfOk c.parse.result (λ (script : Script). Spells bytes script)) c.deref.ensures.value c.parse.ensures.found

pub returns-clause-only : goal.returns-clause-only
returns-clause-only c = λ script spells. c.parse.ensures.only script (subst (λ (bytes : List ℕ). Spells bytes script) (sym c.deref.ensures.value) spells)

pub returns-clause-reported : goal.returns-clause-reported
returns-clause-reported c = subst (λ (bytes : List ℕ). IfErr c.parse.result (IsFaultOf bytes)) c.deref.ensures.value c.parse.ensures.reported
