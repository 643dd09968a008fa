use Rattle.nmgc_minor.proofs.{Vocabulary.◌≡◌, Vocabulary.List, Vocabulary.take, Vocabulary.get_or, Vocabulary.subst, Vocabulary.arith, Vocabulary.Contains, Vocabulary.take_all, Vocabulary.get_or_default, Vocabulary.Contains-get_or, Vocabulary.Address, Vocabulary.ForwardsAt, Vocabulary.forward_word, ForwardLaws.none_forwarded, ForwardLaws.recorded_more}
use Rattle.nmgc_minor.proofs.forwarding.forward_places.Goals as goal

pub loop-at-init : goal.loop-at-init
loop-at-init g c = none_forwarded (forward_word c.args.table.now c.args.base) (g.W.HeapWords.words c.args.words.now) (λ i.
    Contains (take 0 c.args.recorded.now) (record { 0 = i })) (λ i h. omega (arith, h.1))

pub forward_at-requires : goal.forward_at-requires
forward_at-requires g c =
    let h = c.requires.inside (get_or c.args.recorded.now c.loop-at.at-index (record {
      0 =
          0;
    })) (Contains-get_or c.args.recorded.now c.loop-at.at-index (record { 0 = 0 }) c.loop-at-test.true) in
    let e = c.loop-at.invariant.total in
    omega (arith, h, e)

pub loop-at-preserved : goal.loop-at-preserved
loop-at-preserved g c =
    let x : Address = get_or c.args.recorded.now c.loop-at.at-index (record { 0 = 0 }) in
    let h = c.requires.inside x (Contains-get_or c.args.recorded.now c.loop-at.at-index (record { 0 = 0 }) c.loop-at-test.true) in
    let e = c.loop-at.invariant.total in
    rw (c.forward_at.ensures) (recorded_more c.args.table.now c.args.base (g.W.HeapWords.words c.args.words.now)
    (g.W.HeapWords.words c.loop-at.words) c.args.recorded.now c.loop-at.at-index x c.requires.small c.loop-at-test.true
    (get_or_default c.args.recorded.now c.loop-at.at-index (record { 0 = 0 }) x c.loop-at-test.true) (omega (arith, h, e)) c.loop-at.invariant)

pub returns : goal.returns
returns g c =
    let all : take c.loop-at.at-index c.args.recorded.now ≡ c.args.recorded.now = take_all c.loop-at.at-index c.args.recorded.now c.loop-at-test.false in
    subst (λ (xs : List Address).
    ForwardsAt (forward_word c.args.table.now c.args.base) (g.W.HeapWords.words c.args.words.now) (g.W.HeapWords.words c.loop-at.words) (λ i.
    Contains xs (record { 0 = i }))) all c.loop-at.invariant
