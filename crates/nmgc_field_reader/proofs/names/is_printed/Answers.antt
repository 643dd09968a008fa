use Rattle.std.proofs.Common.{List, get_or, refl, subst, sym, take, ℕ}
use Rattle.std.proofs.lemmas.{List.take_all, List.take_more, List.Elements.All-nil, List.Elements.All-push}
use Rattle.std.specs.Prelude.{All}
use Rattle.nmgc_lists.specs.laws.Truths.{never}
use Rattle.nmgc_field_reader.specs.FieldLines.{IsPrinted}
use Rattle.nmgc_field_reader.proofs.names.is_printed.Goals as goal

pub loop-byte-init : goal.loop-byte-init
loop-byte-init c = All-nil IsPrinted

pub loop-byte-preserved : goal.loop-byte-preserved
loop-byte-preserved c =
    subst (λ (l : List ℕ). All IsPrinted l) (sym (take_more c.args.word.now c.loop-byte.byte-index 0 c.loop-byte-test.true))
    (All-push IsPrinted (take c.loop-byte.byte-index c.args.word.now) (get_or c.args.word.now c.loop-byte.byte-index 0) c.loop-byte.invariant (c.if-not-is_printed_byte.ensures.0 refl))

pub returns-then-not-is_printed_byte : goal.returns-then-not-is_printed_byte
returns-then-not-is_printed_byte c = (λ t. never t, λ all. never (c.if-not-is_printed_byte.ensures.1 (all c.loop-byte.byte-index 0 c.loop-byte-test.true)))

pub returns : goal.returns
returns c = (λ t. subst (λ (l : List ℕ). All IsPrinted l) (take_all c.loop-byte.byte-index c.args.word.now c.loop-byte-test.false) c.loop-byte.invariant, λ all. refl)
