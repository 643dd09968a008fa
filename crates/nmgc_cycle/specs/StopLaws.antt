-- The laws for a stop: the effect of its promotion on a heap and on a cycle, and the state to which each later step leads.
use Rattle.nmgc_collector_laws.specs.{Joins.FewerListed, Keeps.PromotionKeepsMarking, Sweeps.PlacedWait, Sweeps.SweepingStays, Sweeps.SettledStays}
use Rattle.nmgc_run_laws.specs.Places.{BlocksArePlaces}
use Rattle.nmgc_sweep.specs.Statements.{LeftStays, WorkGoesOn}
use Rattle.nmgc_cycle.specs.{FullLaws.ProceedingLeads, Steps.AddingLeads, Steps.ClosingLeads, Steps.EndLeads, Steps.CloseReady, Steps.BeginReady}

-- the laws of a promotion: it leaves the addresses of a heap, and the cycle in progress
pub record HasPromotionLaws : Type 0 where
  pub back : BlocksArePlaces
  pub marking : PromotionKeepsMarking
  pub fewer : FewerListed
  pub sweeping : SweepingStays
  pub settled : SettledStays
  pub waits : PlacedWait
  pub left : LeftStays
  pub work : WorkGoesOn

-- the laws of a stop: each of its steps leads to the next, and may be done
pub record HasStopLaws : Type 0 where
  pub promotion : HasPromotionLaws
  pub adding : AddingLeads
  pub close_ready : CloseReady
  pub closing : ClosingLeads
  pub ending : EndLeads
  pub begin_ready : BeginReady
  pub proceeding : ProceedingLeads
