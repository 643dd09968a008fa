use Rattle.nmgc_sweep.proofs.{Vocabulary.ℕ, Vocabulary.suc, Vocabulary.◌≡◌, Vocabulary.◌∙◌, Vocabulary.◌+◌, Vocabulary.◌-◌, Vocabulary.◌*◌, Vocabulary.◌<◌, Vocabulary.◌≤◌, Vocabulary.List, Vocabulary.[], Vocabulary.◌∷◌, Vocabulary.◌++◌, Vocabulary.length, Vocabulary.length-append, Vocabulary.drop, Vocabulary.refl, Vocabulary.ap, Vocabulary.subst, Vocabulary.sym, Vocabulary.arith, Vocabulary.MIN_BLOCK_WORDS, Vocabulary.Sweeper, Vocabulary.HasListed, Vocabulary.IsOnPlan, Listed.some_waits, Listed.fewer_done, Listed.found, Listed.plan_goes_on, Listed.room_for_others, Steps.made}
use Rattle.nmgc_sweep.proofs.sweeper.Sweeper.list_next.Goals as goal

pub first_waiting-number-requires : goal.first_waiting-number-requires
first_waiting-number-requires c = some_waits c.args.segments.now c.args.self.now c.self.inside.planned.value c.self.inside.done.items c.self.inside.next
    c.self.invariant.1 (ap (λ (s : Sweeper). s.seen.swept) c.self.view_is) (ap (λ (s : Sweeper). s.left) c.self.view_is) c.requires.can c.requires.some

pub invariant_of-self : goal.invariant_of-self
invariant_of-self c =
    let planned = c.self.inside.planned.value in
    let done : List ℕ = c.self.inside.done.items in
    let number = c.first_waiting-number.result in
    let swept : planned ≡ c.args.self.now.seen.swept = ap (λ (s : Sweeper). s.seen.swept) c.self.view_is in
    let left : drop (length done) planned ≡ c.args.self.now.left = ap (λ (s : Sweeper). s.left) c.self.view_is in
    let most : c.self.inside.most ≡ c.args.self.now.most = ap (λ (s : Sweeper). s.most) c.self.view_is in
    let few : c.args.segments.now.layout.words ≤ MIN_BLOCK_WORDS * c.self.inside.most =
    subst (λ (k : ℕ). c.args.segments.now.layout.words ≤ MIN_BLOCK_WORDS * k) (sym most) c.requires.can.room in
    let fewer = fewer_done c.args.segments.now c.args.self.now planned done c.self.inside.next c.self.invariant.1 swept left c.requires.can
    c.requires.some in
    let count = c.self.invariant.2 in
    let low : length done < c.self.inside.count = omega (arith, fewer, count) in
    let more : c.push_reserved.new.self.items ≡ done ++ number ∷ [] = c.push_reserved.ensures.items in
    let many : length c.push_reserved.new.self.items ≡ length done + 1 = ap (λ (l : List ℕ). length l) more ∙ length-append done (number ∷ []) in
    let on_plan : IsOnPlan planned (done ++ number ∷ []) (number + 1) =
    plan_goes_on c.args.segments.now c.args.self.now planned done c.self.inside.next c.self.invariant.1 swept left c.requires.can
    c.requires.some number c.first_waiting-number.ensures.waits c.first_waiting-number.ensures.from c.first_waiting-number.ensures.first in
    let capacity = c.push_reserved.ensures.capacity in
    let was = c.self.invariant.3 in (
      c.self.invariant.0,
      subst (λ (l : List ℕ). IsOnPlan planned l (number + 1)) (sym more) on_plan,
      count,
      omega (arith, capacity, was),
      subst (λ (k : ℕ). (c.self.inside.count - k) * c.self.inside.most ≤ c.list_segment.new.had.spare) (sym many)
          (room_for_others c.self.inside.count (length done) c.self.inside.most c.args.segments.now.layout.words c.self.inside.had.spare
          c.list_segment.new.had.spare low few c.self.invariant.4 c.list_segment.ensures.had_room),
      subst (λ (k : ℕ). (c.self.inside.count - k) * c.self.inside.most ≤ c.list_segment.new.freed.spare) (sym many)
          (room_for_others c.self.inside.count (length done) c.self.inside.most c.args.segments.now.layout.words c.self.inside.freed.spare
          c.list_segment.new.freed.spare low few c.self.invariant.5 c.list_segment.ensures.freed_room),
    )

pub returns : goal.returns
returns c =
    let planned = c.self.inside.planned.value in
    let done : List ℕ = c.self.inside.done.items in
    let number = c.first_waiting-number.result in
    let swept : planned ≡ c.args.self.now.seen.swept = ap (λ (s : Sweeper). s.seen.swept) c.self.view_is in
    let left : drop (length done) planned ≡ c.args.self.now.left = ap (λ (s : Sweeper). s.left) c.self.view_is in
    let rest : List ℕ = drop (suc (length done)) planned in
    let split : drop (length done) planned ≡ number ∷ rest =
    found c.args.segments.now c.args.self.now planned done c.self.inside.next c.self.invariant.1 swept left c.requires.can
    c.requires.some number c.first_waiting-number.ensures.waits c.first_waiting-number.ensures.from c.first_waiting-number.ensures.first in
    let more : c.push_reserved.new.self.items ≡ done ++ number ∷ [] = c.push_reserved.ensures.items in
    let many : length c.push_reserved.new.self.items ≡ suc (length done) = ap (λ (l : List ℕ). length l) more ∙ length-append done (number ∷ []) ∙
    omega arith in
    let after : drop (length c.push_reserved.new.self.items) planned ≡ rest = ap (λ (k : ℕ). drop k planned) many in
    let parts : made c.self.inside.turns c.self.inside.upper_turns c.self.inside.epoch planned c.self.inside.had.names c.self.inside.freed.names
    (number ∷ rest) c.self.inside.most ≡ c.args.self.now =
    ap (λ (l : List ℕ). made c.self.inside.turns c.self.inside.upper_turns c.self.inside.epoch planned c.self.inside.had.names
    c.self.inside.freed.names l c.self.inside.most) (sym split) ∙ c.self.view_is in
    subst (λ (s : Sweeper).
    HasListed c.args.segments.now c.args.names.now s (made c.self.inside.turns c.self.inside.upper_turns c.self.inside.epoch planned
    c.list_segment.new.had.names c.list_segment.new.freed.names (drop (length c.push_reserved.new.self.items) planned) c.self.inside.most)) parts
    (record { first = number; left = ap (λ (l : List ℕ). number ∷ l) (sym after); had = c.list_segment.ensures.had; freed = c.list_segment.ensures.freed; rest = refl })
