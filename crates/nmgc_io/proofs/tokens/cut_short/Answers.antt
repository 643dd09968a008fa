use Rattle.std.proofs.{Common.◌≢◌, Common.arith, Common.append_assoc, lemmas.List.map_push, lemmas.List.Elements.recursion_from_All}
use Rattle.nmgc_io.specs.{Text.tokens_of, laws.Parts.cut_first, laws.Parts.tokens_cut, laws.Parts.last_token}
use Rattle.nmgc_io.proofs.tokens.cut_short.Goals as goal

pub loop-token-preserved : goal.loop-token-preserved
loop-token-preserved c =
    let rest = c.loop-token.rest.now in
    let token = c.in-Some.token.now in
    let after = c.in-Some.after.now in
    let split = cut_first 32 tokens_of tokens_cut rest token after c.in-Some.ensures.first c.in-Some.ensures.parts in
    record {
      tokens = rw (c.in_ok-push.ensures.items, map_push (λ t. t.now) c.loop-token.tokens.items c.in-Some.token, append_assoc) (rw split at c.loop-token.invariant.tokens);
      short = omega (arith, c.in-Some.ensures.less, c.loop-token.invariant.short);
      marks = c.in-Some.ensures.marks;
    }

pub returns : goal.returns
returns c =
    let last = last_token c.loop-token.rest.now (recursion_from_All (λ b. b ≢ 32) c.loop-token.rest.now c.in_default.ensures.none) in
    rw (c.in_ok-push-2.ensures.items, map_push (λ t. t.now) c.loop-token.tokens.items c.loop-token.rest) (rw last at c.loop-token.invariant.tokens)
