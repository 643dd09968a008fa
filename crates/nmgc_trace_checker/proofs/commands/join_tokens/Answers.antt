use Rattle.std.proofs.Common.{◌≡◌, ◌++◌, ◌∙◌, ap, List, ℕ}
use Rattle.nmgc_io.specs.Spaced.{after_spaces}
use Rattle.nmgc_trace_checker.proofs.Answering.{texts_of_words, joined_is}
use Rattle.nmgc_trace_checker.proofs.commands.join_tokens.Goals as goal

pub returns : goal.returns
returns c =
    let first : c.extend_from_slice.new.self.items ≡ c.in-Some.first.now.now =
    c.in_ok-extend_from_slice.ensures.items ∙ ap (λ (l : List ℕ). l ++ c.in-Some.first.now.now) c.in_ok-line.ensures.items in
    c.in_ok-push_words.ensures ∙ ap (λ (l : List ℕ). l ++ after_spaces (texts_of_words c.in-Some.rest.now)) first ∙
    joined_is c.args.words.now c.in-Some.rest.now c.in-Some.first.now c.in-Some.ensures.cases.0
