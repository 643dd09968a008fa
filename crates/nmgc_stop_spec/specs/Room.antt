-- The room for objects that are placed one after the other.
use Rattle.std.specs.Prelude.{ℕ, ◌≡◌, ◌*◌, ◌≤◌, List, [], ◌∷◌, sum_by}
use Rattle.nmgc_object.specs.Words.{IsClassOf, reserve_count}
use Rattle.nmgc_alloc.specs.{AllocState.Segments, Segments.IsSegments, Segments.IsMutator, Segments.IsClass, Segments.HasRoom, Segments.Allocates, Reserve.free_count}

-- an object that is placed: its maker, its class, and its number of words
pub record Placing : Type 0 where
  pub maker : ℕ
  pub class : ℕ
  pub words : ℕ

-- one object, of two words up to a segment's words, is placed by the placing rule for its maker and its least fitting class
pub record AllocatesOne (s new : Segments) (p : Placing) : Type 0 where
  pub at : ℕ
  pub allocates : Allocates s new p.maker p.class at
  pub sound : IsSegments new
  pub maker : IsMutator s.layout p.maker
  pub least : 2 ≤ p.words
  pub most : p.words ≤ s.layout.words
  pub class : IsClassOf p.words p.class

-- objects are placed one after the other, each by the placing rule for its maker and the least class whose blocks are large
-- enough. Each has at least two words, and at most the words of a segment
abbrev pub AllocatesAll : Segments → List Placing → Segments → Type 0
AllocatesAll s [] new = new ≡ s
AllocatesAll s (p ∷ rest) new = (next : Segments) × AllocatesOne s next p × AllocatesAll next rest new

-- the reserve suffices: suppose that as many segments as the reserve were free, and that the objects placed since have at
-- most as many words as the nurseries. Then each mutator has room for another object of each class
abbrev pub ReserveSuffices : Type 0
ReserveSuffices = (s new : Segments) (placed : List Placing) (maker class : ℕ) → IsSegments s → reserve_count s.layout ≤ free_count s.segments →
    AllocatesAll s placed new → sum_by (λ p. p.words) placed ≤ s.layout.mutators * s.layout.nursery → IsMutator s.layout maker →
    IsClass s.layout class → HasRoom new maker class
