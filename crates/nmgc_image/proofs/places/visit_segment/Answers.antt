use Rattle.nmgc_image.proofs.{Vocabulary.ℕ, Vocabulary.◌≡◌, Vocabulary.◌≢◌, Vocabulary.◌∙◌, Vocabulary.◌+◌, Vocabulary.sym, Vocabulary.subst, Vocabulary.arith, Vocabulary.true, Vocabulary.false, Vocabulary.Contains, Vocabulary.InUse, Vocabulary.nth, Vocabulary.IsBlockAt, Vocabulary.name_in, Vocabulary.Visits, Vocabulary.IsWeakBlock, Vocabulary.IsWeakIn, Searching.visits_none, Searching.visits_same, Visiting.Below, Visiting.below_next, Visiting.below_same, Visiting.below_all, places.visit_segment.Goals.then-in_use+in_ok-visit_block, places.visit_segment.Goals.else-in_use}
use Rattle.nmgc_segment.specs.declared.state.State.TheVariants as state
use Rattle.nmgc_image.proofs.places.visit_segment.Goals as goal

pub returns-then-is_free : goal.returns-then-is_free
returns-then-is_free c = visits_none (IsWeakIn c.args.report.now c.args.number) c.args.search.now c.requires.sound (λ at r.
    let is : c.state.result ≡ state.Free = c.is_free.ensures.0 c.if-is_free.true in
    absurd (r.1.begins.used (sym c.state.ensures ∙ is)))

pub visit_block-requires-clause-block : goal.visit_block-requires-clause-block
visit_block-requires-clause-block c =
    let is = c.state.ensures in
    let not_free : (nth c.args.report.now.segments.segments c.args.number).state ≢ state.Free = λ e.
    let t : c.is_free.result ≡ true = c.is_free.ensures.1 (is ∙ e) in let f : c.is_free.result ≡ false = c.if-is_free.false in cc in
    let used : InUse (nth c.args.report.now.segments.segments c.args.number) c.loop-block.block =
    c.in_use.ensures.0 c.if-in_use.true in
    (c.args.number, c.loop-block.block, c.place_of-at.ensures.begins not_free, used)

pub loop-block-preserved : goal.loop-block-preserved
loop-block-preserved c =
    let is = c.state.ensures in
    let not_free : (nth c.args.report.now.segments.segments c.args.number).state ≢ state.Free = λ e.
    let t : c.is_free.result ≡ true = c.is_free.ensures.1 (is ∙ e) in let f : c.is_free.result ≡ false = c.if-is_free.false in cc in
    elim c.if-in_use.branch [
      | then-in_use+in_ok-visit_block w ↦
          let used : InUse (nth c.args.report.now.segments.segments c.args.number) c.loop-block.block =
          c.in_use.ensures.0 w.if-in_use.true in
          let begins : IsBlockAt c.args.report.now.segments c.args.number c.loop-block.block w.place_of-at.result.0 = w.place_of-at.ensures.begins not_free in
          let v : Visits (IsWeakBlock c.args.report.now c.args.number c.loop-block.block) c.loop-block.search w.visit_block.new.search =
          visits_same (λ place. (place ≡ w.place_of-at.result.0) ×
          Contains c.args.report.now.weaks (name_in c.args.report.now.words w.place_of-at.result.0))
          (IsWeakBlock c.args.report.now c.args.number c.loop-block.block) c.loop-block.search w.visit_block.new.search w.in_ok-visit_block.ensures
          (λ at both. subst (λ (k : ℕ). IsWeakBlock c.args.report.now c.args.number c.loop-block.block k) (sym both.0) (record {
            begins = begins;
            used = used;
            listed = both.1;
          }))
          (λ at h.
          let same : at ≡ w.place_of-at.result.0 = h.begins.place ∙ sym begins.place in
          (same, subst (λ (k : ℕ). Contains c.args.report.now.weaks (name_in c.args.report.now.words k)) same h.listed)) in
          subst (Visits (Below (IsWeakBlock c.args.report.now c.args.number) (c.loop-block.block + 1)) c.args.search.now) (sym w.search-is)
          (below_next (IsWeakBlock c.args.report.now c.args.number) c.loop-block.block c.args.search.now c.loop-block.search
          w.visit_block.new.search c.loop-block.invariant v)
      | else-in_use w ↦
          subst (Visits (Below (IsWeakBlock c.args.report.now c.args.number) (c.loop-block.block + 1)) c.args.search.now) (sym w.search-is)
          (below_same (IsWeakBlock c.args.report.now c.args.number) c.loop-block.block c.args.search.now c.loop-block.search c.loop-block.invariant (λ at h.
          let t : c.in_use.result ≡ true = c.in_use.ensures.1 h.used in
          let f : c.in_use.result ≡ false = w.if-in_use.false in
          cc))
    ]

pub returns : goal.returns
returns c = below_all (IsWeakBlock c.args.report.now c.args.number) c.loop-block.block c.args.search.now c.loop-block.search (λ k at h.
    let within = h.begins.within in
    let count = c.blocks-block-end.ensures in
    let all = c.loop-block-test.false in
    omega (arith, within, count, all)) c.loop-block.invariant
