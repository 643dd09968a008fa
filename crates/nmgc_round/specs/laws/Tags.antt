-- The answer of `tag` by the header that a seat named. The proofs of the rule and of the mutator need them.
use Rattle.std.specs.Prelude.{◌≡◌, ◌+◌, ◌*◌, ◌/◌, ◌%◌, ◌<◌}
use Rattle.std.proofs.Common.{arith, eqb, eq-eqb, ne_eqb}
use Rattle.nmgc_round.specs.laws.Vocabulary.{ℕ, List, Bool, true, false, plain, word, cond, ap, ◌∙◌}
use Rattle.nmgc_world_spec.specs.declared.command.Reply.TheVariants.{NoPointer, WrongKind}
use Rattle.nmgc_world_spec.specs.declared.node.Kind.{Kind}
use Rattle.nmgc_world_spec.specs.declared.node.Kind.TheVariants as kind
use Rattle.nmgc_object.specs.{Words.header_word, Words.kind_number, declared.words.Header.Header}
use Rattle.nmgc_round.specs.{View.FixedWord, Known.header_at, Known.tag_answer, Known.tag_at}

-- no object
pub tag_none : (fixed : List FixedWord) (w : ℕ) → w % 2 ≡ 1 → tag_at fixed w ≡ plain NoPointer
tag_none fixed w odd =
    let b : eqb (w % 2) 0 ≡ false = ne_eqb (w % 2) 0 (λ z. omega arith) in
    ap (λ (t : Bool). cond t (tag_answer (header_at fixed (w / 2))) (plain NoPointer)) b

module _ (fixed : List FixedWord) (w at : ℕ) (header : Header) (e : w ≡ 2 * at) (found : header_at fixed at ≡ header_word header) where
  tag_of_header : tag_at fixed w ≡ tag_answer (header_word header)
  tag_of_header =
      let b : eqb (w % 2) 0 ≡ true = eq-eqb (w % 2) 0 (omega arith) in
      let half : w / 2 ≡ at = omega arith in
      ap (λ (t : Bool). cond t (tag_answer (header_at fixed (w / 2))) (plain NoPointer)) b ∙
      ap (λ (k : ℕ). tag_answer k) (ap (λ (k : ℕ). header_at fixed k) half ∙ found)

  -- a constructor
  pub tag_there : header.kind ≡ kind.Con → header.tag < 256 → tag_at fixed w ≡ word (2 * header.tag + 3)
  tag_there is small =
      let number : kind_number header.kind ≡ 1 = ap (λ (k : Kind). kind_number k) is in
      let rest : header_word header % 8 ≡ 1 = omega arith in
      let b : eqb (header_word header % 8) 1 ≡ true = eq-eqb (header_word header % 8) 1 rest in
      let tag : header_word header / 8 % 256 ≡ header.tag = omega arith in
      tag_of_header ∙ ap (λ (t : Bool). cond t (word (2 * (header_word header / 8 % 256) + 3)) (plain WrongKind)) b ∙
      ap (λ (k : ℕ). word (2 * k + 3)) tag

  -- another object
  pub tag_wrong : (kind_number header.kind ≡ 1 → ⊥) → kind_number header.kind < 8 → tag_at fixed w ≡ plain WrongKind
  tag_wrong other few =
      let b : eqb (header_word header % 8) 1 ≡ false = ne_eqb (header_word header % 8) 1 (λ z. other (omega arith)) in
      tag_of_header ∙ ap (λ (t : Bool). cond t (word (2 * (header_word header / 8 % 256) + 3)) (plain WrongKind)) b
