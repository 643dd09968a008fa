-- The reserve suffices for all objects that are placed, one after the other.
use Rattle.nmgc_stop_spec.proofs.Vocabulary.{◌≡◌, ◌+◌, ◌*◌, ◌<◌, ◌≤◌, ◌∙◌, ℕ, List, [], ◌∷◌, refl, sym, subst, arith, sum_by, sum_by-cons, Layout, class_count, class_counted, object_class, Segments, IsSegments, IsMutator, KeepsReserve, begins, placing_keeps, reserve_has_room, Placing, AllocatesAll, ReserveSuffices}

-- the segments after objects were placed
record IsAfter (s new : Segments) (placed : ℕ) : Type 0 where
  sound : IsSegments new
  layout : new.layout ≡ s.layout
  reserve : KeepsReserve new.layout new.segments placed

after_all : (s new : Segments) (placed : List Placing) (before : ℕ) → IsSegments s → KeepsReserve s.layout s.segments before →
    AllocatesAll s placed new → IsAfter s new (before + sum_by (λ p. p.words) placed)
after_all s new [] before sound r e =
    let none : before ≡ before + 0 = omega arith in
    subst (λ (x : Segments). IsAfter s x (before + 0)) (sym e) (record {
      sound = sound;
      layout = refl;
      reserve = subst (λ (k : ℕ). KeepsReserve s.layout s.segments k) none r;
    })
after_all s new (p ∷ rest) before sound r (next, one, all) =
    let same = one.allocates.layout in
    let counted = (object_class s.layout p.words p.class sound.layout one.most one.class).1 in
    let kept = placing_keeps s next p.maker p.class one.at before p.words sound one.allocates one.maker counted one.least one.most one.class r in
    let then = after_all next new rest (before + p.words) one.sound (subst (λ (l : Layout).
    KeepsReserve l next.segments (before + p.words)) (sym same) kept) all in
    let sum : before + p.words + sum_by (λ (q : Placing). q.words) rest ≡ before + sum_by (λ (q : Placing). q.words) (p ∷ rest) = omega (
      arith,
      sum_by-cons (λ (q : Placing). q.words) p rest,
    ) in
    record { sound = then.sound; layout = then.layout ∙ same; reserve = subst (λ (k : ℕ). KeepsReserve new.layout new.segments k) sum then.reserve }

pub reserve_suffices : ReserveSuffices
reserve_suffices s new placed maker class sound enough all few own fits =
    let a = after_all s new placed 0 sound (begins s.layout sound.layout.words s.segments enough) all in
    let mine : IsMutator new.layout maker = subst (λ (l : Layout). IsMutator l maker) (sym a.layout) own in
    let counted = subst (λ (l : Layout). class < class_count l) (sym a.layout) ((class_counted s.layout class sound.layout.words).1 fits) in
    let most : 0 + sum_by (λ (q : Placing). q.words) placed ≤ s.layout.mutators * s.layout.nursery = omega (arith, few) in
    reserve_has_room new maker class (0 + sum_by (λ (q : Placing). q.words) placed) a.sound mine counted (subst (λ (l : Layout).
    0 + sum_by (λ (q : Placing). q.words) placed ≤ l.mutators * l.nursery) (sym a.layout) most) a.reserve
