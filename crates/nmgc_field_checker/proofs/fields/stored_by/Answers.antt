use Rattle.nmgc_field_checker.proofs.{Vocabulary.IsStoredAt, Vocabulary.List, Vocabulary.None, Vocabulary.Some, Vocabulary.arith, Vocabulary.length, Vocabulary.slice_get_within, Vocabulary.some_is, Vocabulary.subst, Vocabulary.sym, Vocabulary.ℕ, Vocabulary.◌+◌, Vocabulary.◌<◌, Vocabulary.◌∙◌, Vocabulary.◌≡◌, PlaceLaws.AreUpto, PlaceLaws.none_upto, PlaceLaws.upto_all, PlaceLaws.upto_push, PlaceLaws.upto_skip}
use Rattle.nmgc_field_checker.proofs.fields.stored_by.Goals.{in-None, in-Some+in_ok-push-in-Some}
use Rattle.nmgc_field_checker.proofs.fields.stored_by.Goals as goal

pub loop-at-init : goal.loop-at-init
loop-at-init c = subst (λ (l : List ℕ). AreUpto (IsStoredAt c.args.snapshot.now c.args.heap.now c.args.object c.args.place c.args.fields.now) 0 l) (sym c.new-stored.ensures) (none_upto (IsStoredAt c.args.snapshot.now c.args.heap.now c.args.object c.args.place c.args.fields.now))

pub loop-at-preserved : goal.loop-at-preserved
loop-at-preserved c =
    let at = c.loop-at.at in
    let own = c.loop-at.stored in
    elim c.match-stored_at.branch [
      | in-Some+in_ok-push-in-Some w ↦ subst (λ (l : List ℕ). AreUpto (IsStoredAt c.args.snapshot.now c.args.heap.now c.args.object c.args.place c.args.fields.now) (at + 1) l) (sym (w.stored-is ∙ w.in_ok-push-in-Some.ensures.ok))
          (upto_push (IsStoredAt c.args.snapshot.now c.args.heap.now c.args.object c.args.place c.args.fields.now) at own w.in-Some.target c.loop-at.invariant ((c.stored_at.ensures w.in-Some.target).0 w.in-Some.is)
          (λ n p. sym (some_is w.in-Some.target n (sym w.in-Some.is ∙ (c.stored_at.ensures n).1 p))))
      | in-None w ↦ subst (λ (l : List ℕ). AreUpto (IsStoredAt c.args.snapshot.now c.args.heap.now c.args.object c.args.place c.args.fields.now) (at + 1) l) (sym w.stored-is)
          (upto_skip (IsStoredAt c.args.snapshot.now c.args.heap.now c.args.object c.args.place c.args.fields.now) at own c.loop-at.invariant
          (λ n p. let bad : None ≡ Some n = sym w.in-None.is ∙ (c.stored_at.ensures n).1 p in absurd cc))
    ]

pub returns : goal.returns
returns c = upto_all (IsStoredAt c.args.snapshot.now c.args.heap.now c.args.object c.args.place c.args.fields.now) c.loop-at.at c.loop-at.stored c.loop-at.invariant (λ at target p.
    let within : at < length c.args.fields.now = slice_get_within c.args.fields.now at (Some target) p.new_is in
    omega arith)
