use Rattle.nmgc_sweep.proofs.{Vocabulary.ℕ, Vocabulary.◌≡◌, Vocabulary.◌∙◌, Vocabulary.◌-◌, Vocabulary.◌*◌, Vocabulary.◌/◌, Vocabulary.◌≤◌, Vocabulary.List, Vocabulary.[], Vocabulary.length, Vocabulary.drop, Vocabulary.refl, Vocabulary.ap, Vocabulary.sym, Vocabulary.subst, Vocabulary.arith, Vocabulary.IsWaiting, Vocabulary.ListsNumbers, Vocabulary.Layout, Vocabulary.IsSegmentSize, Vocabulary.MIN_BLOCK_WORDS, Begins.waiting_counted, Begins.waiting_listed, Listed.starts_on_plan, Listed.whole_words}
use Rattle.nmgc_sweep.proofs.sweeper.Sweeper.start.Goals as goal

pub of-planned-requires : goal.of-planned-requires
of-planned-requires c = waiting_listed c.args.segments.now

pub invariant_of-result : goal.invariant_of-result
invariant_of-result c =
    let planned = c.of-planned.result.value in
    let done : List ℕ = c.in_ok-with_capacity.field-0.items in
    let none : done ≡ [] = c.in_ok-with_capacity.ensures.items in
    let none_done : length done ≡ 0 = ap (λ (l : List ℕ). length l) none in
    let most = c.layout.result.words / MIN_BLOCK_WORDS in
    let count = c.sweep_count-count.result in
    let all : count - length done ≡ count = omega (arith, none_done) in
    let capacity = c.in_ok-with_capacity.ensures.capacity in
    let names : c.in-Some.names ≡ count * most = c.in-Some.ensures.1 in
    let room : (spare : ℕ) → c.in-Some.names ≤ spare → (count - length done) * most ≤ spare = λ spare enough.
    subst (λ (k : ℕ). k * most ≤ spare) (sym all) (subst (λ (k : ℕ). k ≤ spare) names enough) in (
      c.requires.epoch,
      starts_on_plan planned done none c.of-planned.ensures.ordered,
      sym (c.sweep_count-count.ensures ∙ waiting_counted c.args.segments.now planned c.args.segments.now.segments c.of-planned.ensures),
      omega (arith, capacity),
      room c.in_ok-with_room.field-0.spare c.in_ok-with_room.ensures.spare,
      room c.in_ok-with_room-2.field-0.spare c.in_ok-with_room-2.ensures.spare,
    )

pub returns-clause-begun : goal.returns-clause-begun
returns-clause-begun c =
    let planned = c.of-planned.result.value in
    let done : List ℕ = c.in_ok-with_capacity.field-0.items in
    let none : done ≡ [] = c.in_ok-with_capacity.ensures.items in
    let left : drop (length done) planned ≡ planned = ap (λ (l : List ℕ). drop (length l) planned) none in
    let words : c.layout.result.words ≡ c.args.segments.now.layout.words = ap (λ (l : Layout). l.words) c.layout.ensures.layout in
    let size : IsSegmentSize c.layout.result.words = subst (λ (k : ℕ). IsSegmentSize k) (sym words) c.layout.ensures.sound.layout.words in
    let whole : MIN_BLOCK_WORDS * (c.layout.result.words / MIN_BLOCK_WORDS) ≡ c.layout.result.words = whole_words c.layout.result.words size in
    record {
      epoch_is = refl;
      swept = sym left;
      had = c.in_ok-with_room.ensures.names;
      freed = c.in_ok-with_room-2.ensures.names;
      left = record {
        numbers = subst (λ (l : List ℕ). ListsNumbers (IsWaiting c.args.segments.now) l) (sym left) c.of-planned.ensures;
        room = omega (arith, whole, words);
      };
    }
