use Rattle.nmgc_field_checker.proofs.{Vocabulary.IsBrokenAt, Vocabulary.List, Vocabulary.None, Vocabulary.Some, Vocabulary.arith, Vocabulary.length, Vocabulary.slice_get_within, Vocabulary.some_is, Vocabulary.subst, Vocabulary.sym, Vocabulary.ℕ, Vocabulary.◌+◌, Vocabulary.◌<◌, Vocabulary.◌∙◌, Vocabulary.◌≡◌, PlaceLaws.AreUpto, PlaceLaws.none_upto, PlaceLaws.upto_all, PlaceLaws.upto_push, PlaceLaws.upto_skip}
use Rattle.nmgc_field_checker.proofs.fields.broken_by.Goals.{in-None, in-Some+in_ok-push-in-Some}
use Rattle.nmgc_field_checker.proofs.fields.broken_by.Goals as goal

pub loop-at-init : goal.loop-at-init
loop-at-init c = subst (λ (l : List ℕ). AreUpto (IsBrokenAt c.args.snapshot.now c.args.heap.now c.args.object c.args.place c.args.fields.now) 0 l) (sym c.new-broken.ensures) (none_upto (IsBrokenAt c.args.snapshot.now c.args.heap.now c.args.object c.args.place c.args.fields.now))

pub loop-at-preserved : goal.loop-at-preserved
loop-at-preserved c =
    let at = c.loop-at.at in
    let own = c.loop-at.broken in
    elim c.match-broken_at.branch [
      | in-Some+in_ok-push-in-Some w ↦ subst (λ (l : List ℕ). AreUpto (IsBrokenAt c.args.snapshot.now c.args.heap.now c.args.object c.args.place c.args.fields.now) (at + 1) l) (sym (w.broken-is ∙ w.in_ok-push-in-Some.ensures.ok))
          (upto_push (IsBrokenAt c.args.snapshot.now c.args.heap.now c.args.object c.args.place c.args.fields.now) at own w.in-Some.target c.loop-at.invariant ((c.broken_at.ensures w.in-Some.target).0 w.in-Some.is)
          (λ n p. sym (some_is w.in-Some.target n (sym w.in-Some.is ∙ (c.broken_at.ensures n).1 p))))
      | in-None w ↦ subst (λ (l : List ℕ). AreUpto (IsBrokenAt c.args.snapshot.now c.args.heap.now c.args.object c.args.place c.args.fields.now) (at + 1) l) (sym w.broken-is)
          (upto_skip (IsBrokenAt c.args.snapshot.now c.args.heap.now c.args.object c.args.place c.args.fields.now) at own c.loop-at.invariant
          (λ n p. let bad : None ≡ Some n = sym w.in-None.is ∙ (c.broken_at.ensures n).1 p in absurd cc))
    ]

pub returns : goal.returns
returns c = upto_all (IsBrokenAt c.args.snapshot.now c.args.heap.now c.args.object c.args.place c.args.fields.now) c.loop-at.at c.loop-at.broken c.loop-at.invariant (λ at target p.
    let within : at < length c.args.fields.now = slice_get_within c.args.fields.now at p.new p.new_is in
    omega arith)
