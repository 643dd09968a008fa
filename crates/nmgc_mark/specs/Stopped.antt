-- Scanning at a stop: the collector goes on alone. Its scans are a round in which no mutator does anything.
use Rattle.std.specs.Prelude.{ℕ, ◌≡◌, ◌∷◌, true, List, []}
use Rattle.nmgc_alloc.specs.AllocState.{Segments}
use Rattle.nmgc_round.specs.{Events.Happening, Events.did, Events.scanned, Events.IsLegal, View.Opening, View.Seen, Marking.marks_of, Rule.Keeps, Rule.now, Starting.CanOpen}
use Rattle.nmgc_mark.specs.{Seen.MarkerSeen, Tie.IsTied}

-- events that are all scans
abbrev pub AreScans : List Happening → Type 0
AreScans [] = Unit {0}
AreScans (did m c r ∷ hs) = ⊥
AreScans (scanned entry v ∷ hs) = AreScans hs

-- a view that the collector could have by now if it is alone: only scans lead to the view, from an opening and its words,
-- which only proofs know. So a stop's scans are the scans of a round in which no mutator does anything.
pub record IsAlone (o : Opening) (words : List ℕ) (v : Seen) : Type 0 where
  pub opening : v.opening ≡ o
  pub collects : v.collects ≡ true
  pub keeps : Keeps o words (v ∷ [])
  pub scans : AreScans keeps.events

-- the words are still the first words, and the view is one that a collector alone could have by now
abbrev pub WordsShow : List ℕ → List ℕ → Seen → Type 0
WordsShow first words v = (words ≡ first) × IsAlone v.opening words v

-- a marker ready to scan at a stop: the words represent an opening's world, and its machine has the marker's marks and queue
pub record IsReady (o : Opening) (words : List ℕ) (s : Segments) (marker : MarkerSeen) : Type 0 where
  pub opens : CanOpen o words
  pub tied : IsTied o (marks_of o.core) s marker

-- a finished marker: scans alone lead the marking machine to the marker's marks and an empty queue
pub record HasFinished (o : Opening) (s : Segments) (marker : MarkerSeen) : Type 0 where
  pub events : List Happening
  pub scans : AreScans events
  pub legal : IsLegal o.core events
  pub rest : now o events ≡ record o.core { marked = (now o events).marked; queue = [] }
  pub tied : IsTied o (marks_of (now o events)) s marker
