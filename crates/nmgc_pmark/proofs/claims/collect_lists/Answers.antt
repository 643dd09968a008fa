use Rattle.nmgc_pmark.proofs.Vocabulary.{◌≡◌, List, [], ◌∷◌, ◌++◌, Ok, Result, sym, ap, subst, ◌∙◌, append_assoc, all_zipped_more, Name, NoMemory, AreAllRead}
use Rattle.nmgc_pmark.proofs.claims.collect_lists.Goals as goal

pub loop-names-preserved : goal.loop-names-preserved
loop-names-preserved c =
    let xs = c.loop-names.yielded in
    let it = c.in-Some.names in
    let rest = c.next.new.self.rest.items in
    let all : xs ++ it ∷ rest ≡ c.args.read.items = ap (λ (l : List (Result (List Name) NoMemory)). xs ++ l) (sym c.in-Some.ensures.steps.0) ∙
    c.loop-names.invariant.all in
    record {
      all = append_assoc xs (it ∷ []) rest ∙ all;
      each = subst (λ (l : List (List Name)). AreAllRead (xs ++ it ∷ []) l) (sym c.in_ok-push.ensures.ok)
          (all_zipped_more (λ (r : Result (List Name) NoMemory) (names : List Name). r ≡ Ok names) xs c.loop-names.by it c.in_ok-names.field-0
          c.loop-names.invariant.each c.in_ok-names.was);
    }
