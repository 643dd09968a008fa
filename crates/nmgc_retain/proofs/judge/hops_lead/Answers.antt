use Rattle.nmgc_retain.proofs.{Vocabulary.refl, Vocabulary.false≢true, Judged.lead_more, Judged.lead_less, Judged.lead_known, Judged.never}
use Rattle.nmgc_retain.proofs.judge.hops_lead.Goals as goal

pub loop-hop-init : goal.loop-hop-init
loop-hop-init c = (λ l. l, λ l. l)

pub returns-then-not-is_hop : goal.returns-then-not-is_hop
returns-then-not-is_hop c =
    never (λ l. false≢true (c.if-not-is_hop.ensures.1 (lead_more c.args.image.now c.args.to c.loop-hop.at c.args.hops.now c.loop-hop.hop-index _
    c.loop-hop-test.true (c.loop-hop.invariant.1 l)).0))

pub loop-hop-preserved : goal.loop-hop-preserved
loop-hop-preserved c = (
  λ l. c.loop-hop.invariant.0 (lead_less c.args.image.now c.args.to c.loop-hop.at c.args.hops.now c.loop-hop.hop-index _ c.loop-hop-test.true
      (c.if-not-is_hop.ensures.0 refl) l),
  λ l. (lead_more c.args.image.now c.args.to c.loop-hop.at c.args.hops.now c.loop-hop.hop-index _ c.loop-hop-test.true (c.loop-hop.invariant.1 l)).1,
)

pub returns : goal.returns
returns c =
    let known = lead_known c.args.image.now c.args.to c.loop-hop.at c.args.hops.now c.loop-hop.hop-index c.is_reference.result c.loop-hop-test.false
    c.is_reference.ensures in
    (λ t. c.loop-hop.invariant.0 (known.0 t), λ l. known.1 (c.loop-hop.invariant.1 l))
