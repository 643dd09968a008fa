use Rattle.std.proofs.Common.{◌≡◌, ◌∙◌, All, List, ap, arith, get_or, length, refl, subst, sym}
use Rattle.nmgc_world_spec.specs.{World.Fits, declared.command.Command.Command}
use Rattle.nmgc_run_tests.proofs.Programs.{counted, may_run, one_more}
use Rattle.nmgc_run_tests.proofs.of_programs.programs_of.Invariants.{repeating_words, repeating_left, repeating_valid}
use Rattle.nmgc_run_tests.proofs.of_programs.programs_of.Goals as goal

pub loop-number-preserved : goal.loop-number-preserved
loop-number-preserved c =
    let n = c.loop-number.number in
    let script = c.args.script.now in
    let before = c.loop-number.invariant in
    let commands = c.items-commands.result.now in
    let same : commands ≡ c.index-items-number.result = c.items-commands.ensures in
    let is : commands ≡ get_or script.threads n commands = subst (λ (l : List Command). l ≡ get_or script.threads n l) (sym same) (c.index-items-number.is ∙
    ap (λ (l : List (List Command)). get_or l n c.index-items-number.result) c.items-in-loop-number.ensures) in
    let within = (let lt = c.loop-number-test.true in let size = c.if-items-most.false in let threads = ap (λ (l : List (List Command)). length l) c.items.ensures in
    c.requires.limits.fits.commands n commands (omega (arith, lt, size, threads))) in
    let pushed = c.in_ok-push.ensures.items in
    record {
      count = (let count = before.count in let more = counted _ _ _ pushed in omega (arith, count, more));
      are = one_more repeating_words repeating_left repeating_valid script c.args.left _ _ _ pushed before.are (record {
        valid_is = (subst (All (Fits script.config.words)) (sym is) within, λ lt. c.requires.left.0);
        words_are = refl;
        left_is = refl;
      });
    }

pub returns : goal.returns
returns c =
    let count : length c.loop-number.programs.items ≡ length c.args.script.now.threads = (let h = c.loop-number.invariant.count in let end = c.loop-number-test.false in
    let most = c.loop-number.auto.number-end in let size = c.if-items-most.false in
    let threads = ap (λ (l : List (List Command)). length l) c.items.ensures in omega (arith, h, end, most, size, threads)) in
    may_run repeating_words repeating_left repeating_valid c.args.script.now c.args.left c.loop-number.programs.items c.requires.limits c.if-script-ne3.false count c.requires.left.1 c.loop-number.invariant.are
