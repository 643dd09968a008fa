use Rattle.nmgc_cycle.proofs.{Vocabulary.ℕ, Vocabulary.◌≡◌, Vocabulary.◌∙◌, Vocabulary.arith, Vocabulary.subst, Vocabulary.sym, Vocabulary.ap, Vocabulary.List, Vocabulary.[], Vocabulary.◌∷◌, Vocabulary.◌++◌, Vocabulary.length, Vocabulary.Some, Vocabulary.common_steps, Vocabulary.Layout, Vocabulary.Mutator, Vocabulary.IsNew, Vocabulary.Reserves, Vocabulary.Sender, Vocabulary.Receiver, Vocabulary.AreNew, Vocabulary.RING_BLOCKS, Vocabulary.IsLined, Vocabulary.reserved, Vocabulary.slice_get, rounds.Lining.lined_grown, rounds.Lining.lined_new, starts.Lists.each_pushed}
use Rattle.nmgc_cycle.proofs.collector.new_mutators.Goals as goal

-- the first mutators, with the other ends of their rings
record AreMade (layout : Layout) (mutators : List Mutator) (receivers : List Receiver) : Type 0 where
  new : (k : ℕ) (m : Mutator) → slice_get mutators k ≡ Some m → IsNew k layout m
  lines : (k : ℕ) (m : Mutator) → slice_get mutators k ≡ Some m → IsLined receivers k m.sender
  unsent : (k : ℕ) (m : Mutator) → slice_get mutators k ≡ Some m → m.sender.since ≡ []

-- a further mutator
made_more : {s : Sender} (r q : Receiver) (layout : Layout) (number : ℕ) (mutators : List Mutator) (receivers : List Receiver) (m : Mutator) →
    length mutators ≡ number → length receivers ≡ number → AreMade layout mutators receivers → AreNew RING_BLOCKS s r →
    q ≡ record r { taken = q.taken } → q.taken.items ≡ r.taken.items → m.sender ≡ s →
    IsNew number layout m → AreMade layout (mutators ++ m ∷ []) (receivers ++ q ∷ [])
made_more {s} r q layout number mutators receivers m count many h linked rest items sender new =
    let last : IsLined (receivers ++ q ∷ []) number m.sender =
    subst (λ (x : Sender). IsLined (receivers ++ q ∷ []) number x) (sym sender) (lined_new receivers r q s RING_BLOCKS number many linked rest items) in
    record {
      new = each_pushed (λ (k : ℕ) (x : Mutator). IsNew k layout x) mutators m h.new (subst (λ (n : ℕ). IsNew n layout m) (sym {A = ℕ} count) new);
      lines = each_pushed (λ (k : ℕ) (x : Mutator). IsLined (receivers ++ q ∷ []) k x.sender) mutators m (λ k x e.
          lined_grown receivers q k x.sender (h.lines k x e)) (subst (λ (n : ℕ). IsLined (receivers ++ q ∷ []) n m.sender) (sym {A = ℕ} count) last);
      unsent = each_pushed (λ (k : ℕ) (x : Mutator). x.sender.since ≡ []) mutators m h.unsent (ap (λ (x : Sender). x.since) sender ∙ linked.sent_is.1);
    }

pub loop-number-preserved : goal.loop-number-preserved
loop-number-preserved c =
    let l = c.loop-number in
    let inv = l.invariant in
    let old : Mutator = c.in_ok-mutator.mutator in
    let m : Mutator = c.reserve-in-loop-number.new.self in
    let kept : Reserves old m = c.reserve-in-loop-number.ensures.kept in
    let q : Receiver = c.reserve.new.self in
    let before : AreMade c.args.layout l.mutators.items l.receivers.items = record { new = inv.new; lines = inv.lines; unsent = inv.unsent } in
    let more = made_more c.in_ok-sender.receiver q c.args.layout l.number l.mutators.items l.receivers.items m inv.count inv.many before
    c.in_ok-sender.ensures c.reserve.ensures.rest c.reserve.ensures.items
    (ap (λ (x : Mutator). x.sender) kept.rest ∙ c.in_ok-mutator.ensures.sender)
    (reserved l.number c.args.layout old m c.in_ok-mutator.ensures.new kept) in
    let items = c.in_ok-push.ensures.items in
    let listed = c.in_ok-push-2.ensures.items in
    let all = subst (λ (receivers : List Receiver). AreMade c.args.layout c.push.new.self.items receivers) (sym {A =
    List Receiver} listed) (subst (λ (mutators : List Mutator).
    AreMade c.args.layout mutators (l.receivers.items ++ q ∷ [])) (sym {A = List Mutator} items) more) in
    record {
      count = grind (arith, common_steps);
      many = grind (arith, common_steps);
      new = all.new;
      lines = all.lines;
      unsent = all.unsent;
    }

pub returns-clause-lines : goal.returns-clause-lines
returns-clause-lines c = λ k m e. subst (λ (inbox : List Receiver). IsLined inbox k m.sender) (sym (c.new-2.ensures ∙ c.from_vec.ensures)) (c.loop-number.invariant.lines k m e)

pub returns-clause-unsent : goal.returns-clause-unsent
returns-clause-unsent c = c.loop-number.invariant.unsent
