use Rattle.nmgc_cycle.proofs.{Vocabulary.ℕ, Vocabulary.◌≡◌, Vocabulary.◌∙◌, Vocabulary.List, Vocabulary.[], Vocabulary.◌∷◌, Vocabulary.length, Vocabulary.length-append, Vocabulary.get_or, Vocabulary.get_or_default, Vocabulary.Some, Vocabulary.refl, Vocabulary.sym, Vocabulary.ap, Vocabulary.subst, Vocabulary.arith, Vocabulary.Command, Vocabulary.slice_get, Vocabulary.slice_index, rounds.ListedRounds.each_more}
use Rattle.nmgc_mutator.specs.declared.program.Listed.{Listed}
use Rattle.nmgc_cycle.specs.Programs.{IsListed}
use Rattle.nmgc_cycle.proofs.round.listed.Goals as goal

pub loop-number-preserved : goal.loop-number-preserved
loop-number-preserved c =
    let n = c.loop-number.number in
    let script = c.args.script.now in
    let positions = c.args.positions.now in
    let lt = c.loop-number-test.true in
    let size = c.requires in
    let before = c.loop-number.invariant in
    let program = c.items-program.result.now in
    let same : program ≡ c.index-items-number.result = c.items-program.ensures in
    let is : program ≡ get_or script.threads n program = subst (λ (l : List Command). l ≡
    get_or script.threads n l) (sym same) (c.index-items-number.is ∙
    ap (λ (ls : List (List Command)). get_or ls n c.index-items-number.result) c.items.ensures) in
    let new : Listed = record { commands = c.items-program.result; position = slice_index positions n; words = script.config.words } in
    let pushed = c.in_ok-push.ensures.items in
    let long = ap (λ (l : List Listed). length l) pushed in
    let added = length-append c.loop-number.programs.items (new ∷ []) in
    let count = before.count in
    record {
      count = omega (arith, long, added, count);
      each = λ k p e. each_more (IsListed script positions) c.loop-number.programs.items new before.each
          (subst (λ (i : ℕ). IsListed script positions i new) (sym count)
          (is ∙ get_or_default script.threads n program [] (omega (arith, lt, size)), refl, refl)) k p
          (subst (λ (l : List Listed). slice_get l k ≡ Some p) pushed e);
    }

pub returns : goal.returns
returns c =
    let end = c.loop-number-test.false in
    let most = c.loop-number.auto.number-end in
    let size = c.requires in
    let h = c.loop-number.invariant in
    let count = h.count in
    record { count = omega (arith, end, most, size, count); each = h.each }
