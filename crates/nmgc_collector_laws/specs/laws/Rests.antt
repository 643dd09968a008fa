-- After its promotion the heap is at rest.
use Rattle.std.specs.Prelude.{◌<◌}
use Rattle.nmgc_collector_laws.specs.laws.Vocabulary.{ℕ, List, inl, inr, sym, subst, Contains, World, Segments, Moved, settled, Place, Represents, NoNode, RepresentsRoots, settled_cases, Stopped, IsSettled, young_base, SettledIsAtRest}

-- after the promotion all objects lie below the nurseries
pub settled_low : (t : Stopped) (s : Segments) (words registers : List ℕ) (queues : List (List ℕ)) (moves : List Moved) →
    IsSettled t s words registers queues moves → (p : Place) → Contains (settled (young_base s) moves t.places) p → p.at < young_base s
settled_low t s words registers queues moves h p c = elim (settled_cases (young_base s) moves t.places p c) [
  | inl x ↦ subst (λ (q : Place). q.at < young_base s) (sym x.2) (h.low x.0 x.1)
  | inr x ↦ x.1
]

pub rests : SettledIsAtRest
rests t s words registers queues moves mutators none world sound h forwarded = record {
  world = world;
  sound = sound;
  represents = subst (λ (l : List World). Represents s.layout l NoNode (settled (young_base s) moves t.places) t.world words) none h.represents;
  roots = subst (λ (y : List ℕ × List (List ℕ) × List ℕ). RepresentsRoots (settled (young_base s) moves t.places) t.world y.0 y.1 y.2) (λ i.
      (sym forwarded.registers_are i, sym forwarded.queues_are i, sym forwarded.serials_are i)) h.roots;
  blocks = h.blocks;
  low = settled_low t s words registers queues moves h;
  count = forwarded.count;
  mutators_are = forwarded.each;
}
