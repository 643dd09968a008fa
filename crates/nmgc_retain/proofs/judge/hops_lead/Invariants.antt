use Rattle.nmgc_retain.proofs.Vocabulary.{◌↔◌, drop, Lead}
use Rattle.nmgc_retain.proofs.judge.hops_lead.Given as goal

-- the remaining hops lead to the end exactly if all hops do
abbrev pub invariant-loop-hop : goal.invariant-loop-hop
invariant-loop-hop l = Lead l.image l.at (drop l.hop-index l.hops) l.to ↔ Lead l.image l.fn.from l.hops l.to
