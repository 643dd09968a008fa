use Rattle.nmgc_weak.proofs.{Vocabulary.◌≡◌, Vocabulary.ℕ, Vocabulary.List, Vocabulary.refl, Vocabulary.sym, Vocabulary.ap, Vocabulary.subst, Vocabulary.◌∙◌, Vocabulary.arith, Vocabulary.length, Vocabulary.Contains, Vocabulary.Segments, Vocabulary.Opening, Vocabulary.MarkerSeen, Vocabulary.OldWeak, Vocabulary.Death, Vocabulary.CanResolve, Vocabulary.HasResolved, Vocabulary.AreLost, Vocabulary.HasRevived, Vocabulary.CanRescue, Vocabulary.HasRescued, Vocabulary.list_of, Vocabulary.Weaks, Vocabulary.AreWithin, Vocabulary.places_of, Vocabulary.alive_of, Vocabulary.without_values, Vocabulary.deaths_of, Clearing.cleared_length, Counting.marked_sum, Resolving.can_within, Resolving.lost_within, Resolving.lost_values, Resolving.resolved}
use Rattle.nmgc_weak.proofs.weaks.Weaks.resolve.Goals as goal

-- at the same words and the same list
can_at : (o : Opening) (words now : List ℕ) (l m : List OldWeak) (s : Segments) (k : MarkerSeen) → now ≡ words → m ≡ l →
    CanResolve o words s k (places_of l) → CanResolve o now s k (places_of m)
can_at o words now l m s k e f h = subst (λ (x : List ℕ). CanResolve o x s k (places_of m)) (sym e) (subst (λ (y : List OldWeak).
    CanResolve o words s k (places_of y)) (sym f) h)

within_at : (words now : List ℕ) (l m : List OldWeak) → now ≡ words → m ≡ l → AreWithin words l → AreWithin now m
within_at words now l m e f h = subst (λ (x : List ℕ). AreWithin x m) (sym e) (subst (λ (y : List OldWeak). AreWithin words y) (sym f) h)

resolved_at : (o : Opening) (s : Segments) (k : MarkerSeen) (words now : List ℕ) (l m : List OldWeak) (d e : List Death) → now ≡ words → m ≡ l →
    e ≡ d → HasResolved o words s k l d → HasResolved o now s k m e
resolved_at o s k words now l m d e f g i h = subst (λ (x : List ℕ).
    HasResolved o x s k m e) (sym f) (subst (λ (y : List OldWeak).
    HasResolved o words s k y e) (sym g) (subst (λ (z : List Death). HasResolved o words s k l z) (sym i) h))

-- the revived and the lost: from the start to the finalisers
record AreFound (o : Opening) (words : List ℕ) (s : Segments) (k : MarkerSeen) (list dying : List OldWeak) : Type 0 where
  revived : HasRevived o words s k (places_of list)
  lost : AreLost revived.next (places_of list) dying

found : (o : Opening) (words w1 : List ℕ) (s t : Segments) (k l : MarkerSeen) (list l1 l2 dying : List OldWeak) →
    CanResolve o words s k (places_of list) → l1 ≡ list → l2 ≡ list → w1 ≡ words
    → ((p : Opening) → CanResolve p words s k (places_of l1) → HasRevived p words t l (places_of l1))
    → ((p : Opening) → CanResolve p w1 t l (places_of l2) → AreLost p (places_of l2) dying)
    → AreFound o words t l list dying
found o words w1 s t k l list l1 l2 dying h e1 e2 e revive find =
    let rev : HasRevived o words t l (places_of list) = subst (λ (y : List OldWeak).
    HasRevived o words t l (places_of y)) e1 (revive o (can_at o words words list l1 s k refl e1 h)) in
    record {
      revived = rev;
      lost = subst (λ (y : List OldWeak). AreLost rev.next (places_of y) dying) e2 (find rev.next (can_at rev.next words w1 list l2 t l e e2 rev.goes.can));
    }

can_save : (o : Opening) (words now : List ℕ) (s : Segments) (k : MarkerSeen) (list dying d1 : List OldWeak) → now ≡ words → d1 ≡ dying →
    (f : AreFound o words s k list dying) → CanRescue f.revived.next now s k (places_of list) d1
can_save o words now s k list dying d1 e g f = record {
  can = can_at f.revived.next words now list list s k e refl f.revived.goes.can;
  saturated = f.revived.saturated;
  lost = subst (λ (y : List OldWeak). AreLost f.revived.next (places_of list) y) (sym g) f.lost;
}

pub revive-requires-clause-within : goal.revive-requires-clause-within
revive-requires-clause-within g c =
    let ws = g.W.HeapWords.words c.args.words.now in
    let kept : list_of c.self.inside.rows.items ≡ c.args.self.now.list = ap (λ (a : Weaks). a.list) c.self.view_is in
    let list : c.list_rows.new.all.items ≡ c.args.self.now.list = c.list_rows.ensures.items ∙ ap list_of c.as_slice.ensures.value ∙ kept in
    let r = c.requires.can in
    within_at ws ws c.args.self.now.list c.as_slice-2.result.now refl (c.as_slice-2.ensures.value ∙
    list) (can_within r.0 ws c.args.segments.now c.args.marker.now c.args.self.now.list r.1)

pub find_dying-requires-clause-within : goal.find_dying-requires-clause-within
find_dying-requires-clause-within g c =
    let ws = g.W.HeapWords.words c.args.words.now in
    let kept : list_of c.self.inside.rows.items ≡ c.args.self.now.list = ap (λ (a : Weaks). a.list) c.self.view_is in
    let list : c.list_rows.new.all.items ≡ c.args.self.now.list = c.list_rows.ensures.items ∙ ap list_of c.as_slice.ensures.value ∙ kept in
    let r = c.requires.can in
    within_at ws (g.W.HeapWords.words c.revive.new.words) c.args.self.now.list c.as_slice-3.result.now c.revive.ensures.words
    (c.as_slice-3.ensures.value ∙ list) (can_within r.0 ws c.args.segments.now c.args.marker.now c.args.self.now.list r.1)

pub save_finalisers-requires-clause-within : goal.save_finalisers-requires-clause-within
save_finalisers-requires-clause-within g c =
    let ws = g.W.HeapWords.words c.args.words.now in
    let kept : list_of c.self.inside.rows.items ≡ c.args.self.now.list = ap (λ (a : Weaks). a.list) c.self.view_is in
    let list : c.list_rows.new.all.items ≡ c.args.self.now.list = c.list_rows.ensures.items ∙ ap list_of c.as_slice.ensures.value ∙ kept in
    let r = c.requires.can in
    let f = found r.0 ws (g.W.HeapWords.words c.revive.new.words) c.args.segments.now c.revive.new.segments c.args.marker.now c.revive.new.marker
    c.args.self.now.list c.as_slice-2.result.now c.as_slice-3.result.now c.find_dying.new.dying.items r.1 (c.as_slice-2.ensures.value ∙
    list) (c.as_slice-3.ensures.value ∙ list) c.revive.ensures.words c.revive.ensures.revived c.find_dying.ensures.found in
    let dying = lost_within f.revived.next ws c.args.self.now.list c.find_dying.new.dying.items
    (can_within r.0 ws c.args.segments.now c.args.marker.now c.args.self.now.list r.1) f.lost in
    within_at ws (g.W.HeapWords.words c.find_dying.new.words) c.find_dying.new.dying.items c.as_slice-4.result.now (c.find_dying.ensures.words ∙
    c.revive.ensures.words) c.as_slice-4.ensures.value dying

pub save_finalisers-requires-clause-can : goal.save_finalisers-requires-clause-can
save_finalisers-requires-clause-can g c =
    let ws = g.W.HeapWords.words c.args.words.now in
    let kept : list_of c.self.inside.rows.items ≡ c.args.self.now.list = ap (λ (a : Weaks). a.list) c.self.view_is in
    let list : c.list_rows.new.all.items ≡ c.args.self.now.list = c.list_rows.ensures.items ∙ ap list_of c.as_slice.ensures.value ∙ kept in
    let r = c.requires.can in
    let f = found r.0 ws (g.W.HeapWords.words c.revive.new.words) c.args.segments.now c.revive.new.segments c.args.marker.now c.revive.new.marker
    c.args.self.now.list c.as_slice-2.result.now c.as_slice-3.result.now c.find_dying.new.dying.items r.1 (c.as_slice-2.ensures.value ∙
    list) (c.as_slice-3.ensures.value ∙ list) c.revive.ensures.words c.revive.ensures.revived c.find_dying.ensures.found in (
      f.revived.next,
      places_of c.args.self.now.list,
      can_save r.0 ws (g.W.HeapWords.words c.find_dying.new.words) c.revive.new.segments c.revive.new.marker c.args.self.now.list
          c.find_dying.new.dying.items c.as_slice-4.result.now (c.find_dying.ensures.words ∙ c.revive.ensures.words) c.as_slice-4.ensures.value f,
    )

pub clear_values-requires : goal.clear_values-requires
clear_values-requires g c =
    let ws = g.W.HeapWords.words c.args.words.now in
    let kept : list_of c.self.inside.rows.items ≡ c.args.self.now.list = ap (λ (a : Weaks). a.list) c.self.view_is in
    let list : c.list_rows.new.all.items ≡ c.args.self.now.list = c.list_rows.ensures.items ∙ ap list_of c.as_slice.ensures.value ∙ kept in
    let r = c.requires.can in
    let f = found r.0 ws (g.W.HeapWords.words c.revive.new.words) c.args.segments.now c.revive.new.segments c.args.marker.now c.revive.new.marker
    c.args.self.now.list c.as_slice-2.result.now c.as_slice-3.result.now c.find_dying.new.dying.items r.1 (c.as_slice-2.ensures.value ∙
    list) (c.as_slice-3.ensures.value ∙ list) c.revive.ensures.words c.revive.ensures.revived c.find_dying.ensures.found in
    let dying = lost_within f.revived.next ws c.args.self.now.list c.find_dying.new.dying.items
    (can_within r.0 ws c.args.segments.now c.args.marker.now c.args.self.now.list r.1) f.lost in
    within_at ws (g.W.HeapWords.words c.save_finalisers.new.words) c.find_dying.new.dying.items c.as_slice-5.result.now
    (c.save_finalisers.ensures.words ∙ c.find_dying.ensures.words ∙ c.revive.ensures.words) c.as_slice-5.ensures.value dying

-- there is room for all that the rows have
pub revive-requires-clause-wait : goal.revive-requires-clause-wait
revive-requires-clause-wait g c =
    let inv = c.self.invariant in
    let items = ap length (c.list_rows.ensures.items ∙ ap list_of c.as_slice.ensures.value) in
    let own = c.list_rows.new.all.ok.0 in
    let len = c.as_slice-2.ensures.len in
    let capacity = c.clear-2.ensures.capacity in
    omega (arith, items, own, len, capacity, inv.1, inv.3)

pub find_dying-requires-clause-room : goal.find_dying-requires-clause-room
find_dying-requires-clause-room g c =
    let inv = c.self.invariant in
    let items = ap length (c.list_rows.ensures.items ∙ ap list_of c.as_slice.ensures.value) in
    let own = c.list_rows.new.all.ok.0 in
    let len = c.as_slice-3.ensures.len in
    let capacity = c.clear-3.ensures.capacity in
    omega (arith, items, own, len, capacity, inv.1, inv.4)

pub save_finalisers-requires-clause-few : goal.save_finalisers-requires-clause-few
save_finalisers-requires-clause-few g c =
    let inv = c.self.invariant in
    let items = ap length (c.list_rows.ensures.items ∙ ap list_of c.as_slice.ensures.value) in
    let own = c.list_rows.new.all.ok.0 in
    let all = c.as_slice-3.ensures.len in
    let len = c.as_slice-4.ensures.len in
    let few = c.find_dying.ensures.few in
    let capacity = c.clear-4.ensures.capacity in
    omega (arith, items, own, all, len, few, capacity, inv.1, inv.5)

pub invariant_of-self : goal.invariant_of-self
invariant_of-self g c =
    let inv = c.self.invariant in
    let items = ap length (c.list_rows.ensures.items ∙ ap list_of c.as_slice.ensures.value) in
    let own = c.list_rows.new.all.ok.0 in
    let most = c.len-self-inside.ensures in
    let list = c.list_rows.ensures.capacity in
    let cleared = c.clear.ensures.capacity in
    let waiting = c.revive.ensures.capacity in
    let cleared_waiting = c.clear-2.ensures.capacity in
    let dying = c.find_dying.ensures.capacity in
    let cleared_dying = c.clear-3.ensures.capacity in
    let deaths = c.save_finalisers.ensures.capacity in
    let cleared_deaths = c.clear-4.ensures.capacity in (
      inv.0,
      omega (arith, items, own, most),
      omega (arith, items, own, most, inv.1, inv.2, list, cleared),
      omega (arith, items, own, most, inv.1, inv.3, waiting, cleared_waiting),
      omega (arith, items, own, most, inv.1, inv.4, dying, cleared_dying),
      omega (arith, items, own, most, inv.1, inv.5, deaths, cleared_deaths),
      omega (arith, items, own, most, inv.1, inv.6),
      inv.7,
      inv.8,
    )

pub leave-requires : goal.leave-requires
leave-requires g c = λ weak k.
    let ws = g.W.HeapWords.words c.args.words.now in
    let kept : list_of c.self.inside.rows.items ≡ c.args.self.now.list = ap (λ (a : Weaks). a.list) c.self.view_is in
    let r = c.requires.can in
    let within = can_within r.0 ws c.args.segments.now c.args.marker.now c.args.self.now.list r.1 weak (subst (λ (l : List OldWeak). Contains l weak) kept k) in
    let l = ap length (c.clear_values.ensures) ∙ cleared_length (g.W.HeapWords.words c.save_finalisers.new.words) c.as_slice-5.result.now ∙
    ap length (c.save_finalisers.ensures.words ∙ c.find_dying.ensures.words ∙ c.revive.ensures.words) in
    let inside = within.inside in
    omega (arith, l, inside)

pub returns-clause-marked : goal.returns-clause-marked
returns-clause-marked g c =
    marked_sum c.args.segments.now c.revive.new.segments c.save_finalisers.new.segments c.args.marker.now c.revive.new.marker
    c.save_finalisers.new.marker c.revive.ensures.marked c.save_finalisers.ensures.marked

pub returns-clause-resolved : goal.returns-clause-resolved
returns-clause-resolved g c = λ o h.
    let ws = g.W.HeapWords.words c.args.words.now in
    let kept : list_of c.self.inside.rows.items ≡ c.args.self.now.list = ap (λ (a : Weaks). a.list) c.self.view_is in
    let list : c.list_rows.new.all.items ≡ c.args.self.now.list = c.list_rows.ensures.items ∙ ap list_of c.as_slice.ensures.value ∙ kept in
    let dying : List OldWeak = c.find_dying.new.dying.items in
    let f = found o ws (g.W.HeapWords.words c.revive.new.words) c.args.segments.now c.revive.new.segments c.args.marker.now c.revive.new.marker
    c.args.self.now.list c.as_slice-2.result.now c.as_slice-3.result.now dying h (c.as_slice-2.ensures.value ∙ list) (c.as_slice-3.ensures.value ∙
    list) c.revive.ensures.words c.revive.ensures.revived c.find_dying.ensures.found in
    let p : Opening = f.revived.next in
    let w2 = c.find_dying.ensures.words ∙ c.revive.ensures.words in
    let w3 = c.save_finalisers.ensures.words ∙ w2 in
    let can = can_save o ws (g.W.HeapWords.words c.find_dying.new.words) c.revive.new.segments c.revive.new.marker c.args.self.now.list dying
    c.as_slice-4.result.now w2 c.as_slice-4.ensures.value f in
    let saved = subst (λ (y : List OldWeak).
    HasRescued p c.save_finalisers.new.segments c.save_finalisers.new.marker y) c.as_slice-4.ensures.value
    (c.save_finalisers.ensures.saved p (places_of c.args.self.now.list) can) in
    let done = resolved o ws c.args.segments.now c.revive.new.segments c.save_finalisers.new.segments c.args.marker.now c.revive.new.marker
    c.save_finalisers.new.marker c.args.self.now.list dying h p f.revived.goes.later f.revived.goes.can f.lost saved in
    let us = c.clear_values.ensures ∙ ap (λ (x : List ℕ). without_values x c.as_slice-5.result.now) w3 ∙
    ap (λ (y : List OldWeak). without_values ws y) c.as_slice-5.ensures.value in
    let lists = c.leave.ensures.list ∙ ap (λ (x : List ℕ). alive_of x (list_of c.self.inside.rows.items)) us ∙
    ap (λ (y : List OldWeak). alive_of (without_values ws dying) y) kept in
    let deaths = c.leave.ensures.deaths ∙ c.save_finalisers.ensures.deaths ∙ ap (λ (x : List ℕ). deaths_of x c.as_slice-4.result.now) w2 ∙
    ap (λ (y : List OldWeak). deaths_of ws y) c.as_slice-4.ensures.value in
    resolved_at o c.save_finalisers.new.segments c.save_finalisers.new.marker (without_values ws dying) (g.W.HeapWords.words c.leave.new.words)
    (alive_of (without_values ws dying) c.args.self.now.list) c.leave.new.self.list (deaths_of ws dying) c.leave.new.self.deaths
    (c.leave.ensures.words ∙ us) lists deaths done

pub returns-clause-values : goal.returns-clause-values
returns-clause-values g c =
    let ws = g.W.HeapWords.words c.args.words.now in
    let kept : list_of c.self.inside.rows.items ≡ c.args.self.now.list = ap (λ (a : Weaks). a.list) c.self.view_is in
    let list : c.list_rows.new.all.items ≡ c.args.self.now.list = c.list_rows.ensures.items ∙ ap list_of c.as_slice.ensures.value ∙ kept in
    let dying : List OldWeak = c.find_dying.new.dying.items in
    let r = c.requires.can in
    let f = found r.0 ws (g.W.HeapWords.words c.revive.new.words) c.args.segments.now c.revive.new.segments c.args.marker.now c.revive.new.marker
    c.args.self.now.list c.as_slice-2.result.now c.as_slice-3.result.now dying r.1 (c.as_slice-2.ensures.value ∙
    list) (c.as_slice-3.ensures.value ∙ list) c.revive.ensures.words c.revive.ensures.revived c.find_dying.ensures.found in
    let w2 = c.find_dying.ensures.words ∙ c.revive.ensures.words in
    let us = c.leave.ensures.words ∙ c.clear_values.ensures ∙
    ap (λ (x : List ℕ). without_values x c.as_slice-5.result.now) (c.save_finalisers.ensures.words ∙ w2) ∙
    ap (λ (y : List OldWeak). without_values ws y) c.as_slice-5.ensures.value in
    let deaths = c.leave.ensures.deaths ∙ c.save_finalisers.ensures.deaths ∙ ap (λ (x : List ℕ). deaths_of x c.as_slice-4.result.now) w2 ∙
    ap (λ (y : List OldWeak). deaths_of ws y) c.as_slice-4.ensures.value in
    lost_values f.revived.next ws (g.W.HeapWords.words c.leave.new.words) c.args.self.now.list dying c.leave.new.self.deaths f.lost deaths us
