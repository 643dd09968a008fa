-- A promotion in contracts.
use Rattle.std.specs.Prelude.{ℕ, ◌≡◌, ◌*◌, List}
use Rattle.nmgc_object.specs.{declared.layout.Layout.Layout, Words.nursery_place}
use Rattle.nmgc_minor.specs.declared.placing.Move.{Move}

-- a promotion: where the nurseries begin, the number of their words, for which memory was taken, and the last call's moves
pub record Promotion : Type 0 where
  pub base : ℕ
  pub size : ℕ
  pub moves : List Move

-- a promotion with memory for the nurseries of the layout
pub record IsFor (layout : Layout) (p : Promotion) : Type 0 where
  pub base : p.base ≡ nursery_place layout 0
  pub size : p.size ≡ layout.mutators * layout.nursery
