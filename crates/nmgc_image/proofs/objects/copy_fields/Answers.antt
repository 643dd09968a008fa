use Rattle.nmgc_image.proofs.Vocabulary.{◌≤◌, ◌+◌, ◌∙◌, ap, arith, take, drop, Kind, HEADER_WORDS, Header, MAX_FIELDS}
use Rattle.nmgc_object.specs.Words.{HasFields}
use Rattle.nmgc_world_spec.specs.declared.node.Kind.TheVariants as kind
use Rattle.nmgc_image.proofs.objects.copy_fields.Goals as goal

-- an object has few fields
few : (k : Kind) (fields : _) → HasFields k fields → fields ≤ MAX_FIELDS
few kind.Con fields h = h
few kind.Var fields h = omega (arith, h)
few kind.Arr fields h = h
few kind.Thunk fields h = omega (arith, h.1)
few kind.Weak fields h = omega (arith, h)
few kind.Stack fields h = h

pub overflow_add-at : goal.overflow_add-at
overflow_add-at c = let small = c.requires.named.small in omega (arith, small)

pub copy_words-requires-clause-within : goal.copy_words-requires-clause-within
copy_words-requires-clause-within c =
    let same = ap (λ (h : Header). h.fields) (c.header_at-header.ensures c.requires) in
    let fits = c.requires.within in
    omega (arith, same, fits)

pub copy_words-requires-clause-small : goal.copy_words-requires-clause-small
copy_words-requires-clause-small c =
    let same = ap (λ (h : Header). h.fields) (c.header_at-header.ensures c.requires) in
    let most = few c.requires.header.kind c.requires.header.fields c.requires.valid.1 in
    let small = c.requires.named.small in
    omega (arith, same, most, small)

pub returns-clause-fields : goal.returns-clause-fields
returns-clause-fields c = λ object. c.in_ok-copy_words.ensures ∙
    ap (λ (h : Header). take h.fields (drop (c.args.at + HEADER_WORDS) c.args.words.now)) (c.header_at-header.ensures object)
