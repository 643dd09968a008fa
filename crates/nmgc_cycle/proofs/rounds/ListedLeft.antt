-- A sweep frees no weak pointer of the list, since alive weak pointers are tracked.
use Rattle.nmgc_cycle.proofs.Vocabulary.{◌≡◌, List, ◌∷◌, inl, inr, ap, refl, subst, sym, arith, Contains, IsSome, Name, SHARED_MAKER, World, IsWorld, IsAliveWeak, shared_name, weak_maker, Layout, AllocState, HasBlock, Place, ListsWeaks, FreesUntracked}
use Rattle.nmgc_world_spec.specs.Reach.{start}

-- an alive weak pointer isn't g
not_shared : (w : World) (weak : Name) → IsWorld w → IsAliveWeak w weak → weak ≡ shared_name → ⊥
not_shared w weak is alive e =
    let maker : weak.maker ≡ SHARED_MAKER = ap (λ (n : Name). n.maker) e in
    let within = weak_maker w is weak alive in
    let few = is.few in
    omega (arith, maker, within, few)

pub listed_left : (layout : Layout) (earlier : List World) (began w : World) (allocation swept : AllocState) (places weaks : List Place) →
    IsWorld began → Contains (w ∷ earlier) began → FreesUntracked earlier began w allocation swept → ListsWeaks layout places began weaks →
    (p : Place) → Contains weaks p → HasBlock swept p.name
listed_left layout earlier began w allocation swept places weaks is known frees lists p there =
    let alive : IsAliveWeak began p.name = (lists.sound p there).1 in
    frees.tracked p.name (start p.name (
      began,
      known,
      start p.name (inr (
        p.name,
        alive.0,
        alive.1,
        inl refl,
      )),
    )) (not_shared began p.name is alive) (subst IsSome (sym alive.1) refl)
