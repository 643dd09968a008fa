use Rattle.std.proofs.Common.{sym, ◌∙◌}
use Rattle.nmgc_field_reader.specs.{FieldLines.known_by, FieldReading.value_named}
use Rattle.nmgc_field_reader.proofs.Each.{ends, goes_on, is_done}
use Rattle.nmgc_field_reader.proofs.tokens.fields_of.Goals as goal

pub returns-in_default : goal.returns-in_default
returns-in_default c =
    ends (λ w. w.now) (value_named (known_by c.args.names.now)) c.args.words.now c.loop-word.word-index c.loop-word.fields _ _ c.loop-word-test.true
    (sym c.field_of.ensures ∙ c.in_default.is) c.loop-word.invariant

pub loop-word-preserved : goal.loop-word-preserved
loop-word-preserved c =
    rw c.in_ok-push.ensures.ok (goes_on (λ w. w.now) (value_named (known_by c.args.names.now)) c.args.words.now c.loop-word.word-index
    c.loop-word.fields _ _ c.in-Some.field c.loop-word-test.true (sym c.field_of.ensures ∙ c.in-Some.is) c.loop-word.invariant)

pub returns : goal.returns
returns c =
    is_done (λ w. w.now) (value_named (known_by c.args.names.now)) c.args.words.now c.loop-word.word-index c.loop-word.fields _ c.loop-word-test.false
    c.loop-word.invariant
