use Rattle.nmgc_barrier_checker.proofs.{Vocabulary.◌∙◌, Vocabulary.[], Vocabulary.length, Vocabulary.ap, Vocabulary.refl, Vocabulary.subst, Vocabulary.List, Vocabulary.length-set, Vocabulary.Contains, Vocabulary.slice_set, Vocabulary.refill_whole, Vocabulary.Debt, Vocabulary.unpaid, AccountLaws.item_is}
use Rattle.nmgc_barrier_checker.proofs.accounts.Accounts.forget.Goals as goal

pub returns : goal.returns
returns c =
    let was = item_is c.items_mut.result.now c.args.self.now.debts c.args.mutator c.index-items_mut-mutator.result [] c.items_mut.ensures.value c.requires in
    record {
      queue = c.forget_paid.new.debts;
      debts =
          refill_whole c.args.self.now.debts (slice_set c.items_mut.result.now c.args.mutator c.forget_paid.new.debts)
          (length-set c.items_mut.result.now c.args.mutator c.forget_paid.new.debts ∙ ap (λ (l : List (List Debt)). length l) c.items_mut.ensures.value) ∙
          ap (λ (l : List (List Debt)). slice_set l c.args.mutator c.forget_paid.new.debts) c.items_mut.ensures.value;
      names = refl;
      newest = refl;
      same = c.forget_paid.ensures.same ∙ ap (λ (l : List Debt). unpaid c.args.marks.now l) was;
      fewer = λ d x. subst (λ (l : List Debt). Contains l d) was (c.forget_paid.ensures.fewer d x);
      first = c.forget_paid.ensures.first;
    }
