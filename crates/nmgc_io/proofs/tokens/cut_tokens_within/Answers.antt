use Rattle.std.proofs.{Common.◌≤◌, Common.◌≢◌, Common.length, Common.refl, Common.ap, Common.arith, Common.append_assoc, Common.length-take, lemmas.List.map_push, lemmas.List.Elements.recursion_from_All}
use Rattle.nmgc_io.specs.{Text.tokens_of, laws.Parts.cut_first, laws.Parts.tokens_cut, laws.Parts.last_token}
use Rattle.nmgc_io.proofs.{Rests.rest_on, Rests.rest_less, Marked.marks_of_front}
use Rattle.nmgc_io.proofs.tokens.cut_tokens_within.Goals as goal

pub loop-token-init : goal.loop-token-init
loop-token-init c =
    let long : length c.args.line.now ≤ length c.args.text.now =
    omega (arith, ap (λ l. length l) c.requires, length-take (length c.args.line.now) c.args.text.now) in
    record { tokens = rw c.clear.ensures.items refl; part = c.requires; inside = omega (arith, long) }

pub loop-token-preserved : goal.loop-token-preserved
loop-token-preserved c =
    let rest = c.loop-token.rest.now in
    let token = c.in-Some.token.now in
    let after = c.in-Some.after.now in
    let split = cut_first 32 tokens_of tokens_cut rest token after c.in-Some.ensures.first c.in-Some.ensures.parts in
    let less = rest_less 32 rest token after c.in-Some.ensures.parts in
    record {
      tokens = rw (c.in_ok-push.ensures.items, map_push (λ t. t.now) c.loop-token.tokens.items c.in-Some.token, append_assoc) (rw split at c.loop-token.invariant.tokens);
      part = rest_on 32 c.args.text.now rest token after c.loop-token.from c.loop-token.invariant.part c.in-Some.ensures.parts;
      inside = omega (arith, less, c.loop-token.invariant.inside);
    }

pub overflow_add-from : goal.overflow_add-from
overflow_add-from c =
    omega (arith, rest_less 32 c.loop-token.rest.now c.in-Some.token.now c.in-Some.after.now c.in-Some.ensures.parts, c.loop-token.invariant.inside)

pub returns : goal.returns
returns c =
    let last = last_token c.loop-token.rest.now (recursion_from_All (λ b. b ≢ 32) c.loop-token.rest.now c.in_default.ensures.none) in
    rw (c.in_ok-push-2.ensures.items, map_push (λ t. t.now) c.loop-token.tokens.items c.loop-token.rest) (rw last at c.loop-token.invariant.tokens)

pub cut_short-requires-clause-marks : goal.cut_short-requires-clause-marks
cut_short-requires-clause-marks c =
    marks_of_front c.space_marks.result c.args.text.now c.args.line.now 16 c.space_marks.ensures (omega arith) c.requires (omega arith)
