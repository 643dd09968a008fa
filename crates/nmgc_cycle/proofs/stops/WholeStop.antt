-- The steps of a stop together are a stop of the run.
use Rattle.nmgc_cycle.proofs.Vocabulary.{ℕ, ◌≡◌, List, ◌++◌, refl, ap, inl, inr, World, CycleRow, StopRow, Config, ClosesOrWaits, Promotes, IsStop, EndsOrWaits, BeginsOrWaits, Proceeds, stop_row, Plan, State, Progress, idle, marking, sweeping, layout_of}

-- the parts that the steps after the promotion leave unchanged
pub record KeepsOn (s t : State) : Type 0 where
  pub number : t.number ≡ s.number
  pub left : t.left ≡ s.left

keeps_itself : (s t : State) → t ≡ s → KeepsOn s t
keeps_itself s t e = record { number = ap (λ (x : State). x.number) e; left = ap (λ (x : State). x.left) e }

pub closing_keeps : (quota : ℕ) (p : Progress) (s t : State) → ClosesOrWaits quota p s t → KeepsOn s t × (t.allocation ≡ s.allocation)
closing_keeps quota idle s t e = (keeps_itself s t e, ap (λ (x : State). x.allocation) e)
closing_keeps quota (marking c) s t (inl (e, may)) = (keeps_itself s t e, ap (λ (x : State). x.allocation) e)
closing_keeps quota (marking c) s t (inr h) = (
  record { number = ap (λ (x : State). x.number) h.0.rest; left = ap (λ (x : State). x.left) h.0.rest },
  ap (λ (x : State). x.allocation) h.0.rest,
)
closing_keeps quota (sweeping c closed) s t e = (keeps_itself s t e, ap (λ (x : State). x.allocation) e)

pub ending_keeps : (p : Progress) (s t : State) (cycles : List CycleRow) → EndsOrWaits p s t cycles → KeepsOn s t × (t.allocation ≡ s.allocation)
ending_keeps idle s t cycles e = (keeps_itself s t e.0, ap (λ (x : State). x.allocation) e.0)
ending_keeps (marking c) s t cycles e = (keeps_itself s t e.0, ap (λ (x : State). x.allocation) e.0)
ending_keeps (sweeping c closed) s t cycles (inl h) = (
  record { number = ap (λ (x : State). x.number) h.1.rest; left = ap (λ (x : State). x.left) h.1.rest },
  ap (λ (x : State). x.allocation) h.1.rest,
)
ending_keeps (sweeping c closed) s t cycles (inr h) = (keeps_itself s t h.1, ap (λ (x : State). x.allocation) h.1)

pub beginning_keeps : (config : Config) (s t : State) → BeginsOrWaits config s t → KeepsOn s t
beginning_keeps config s t (inl h) = record { number = ap (λ (x : State). x.number) h.1; left = ap (λ (x : State). x.left) h.1 }
beginning_keeps config s t (inr h) = keeps_itself s t h.1

module _ (plan : Plan) (began : World) (s promoted closed ended t : State) (count : ℕ) (first more : List CycleRow) (row : StopRow)
    (promotes : Promotes (layout_of plan) began s promoted count)
    (closes : ClosesOrWaits plan.config.quota promoted.progress promoted closed)
    (ends : EndsOrWaits closed.progress closed ended first)
    (proceeds : Proceeds plan ended t more)
    (shown : row ≡ stop_row t count) where
  pub whole_stop : IsStop plan began s t row (first ++ more)
  whole_stop = record {
    promoted = promoted;
    count = count;
    promotes = promotes;
    closed = closed;
    closes = closes;
    ended = ended;
    first = first;
    ends = ends;
    more = more;
    proceeds = proceeds;
    cycles_are = refl;
    shown = shown;
  }
