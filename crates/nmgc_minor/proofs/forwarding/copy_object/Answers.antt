use Rattle.nmgc_minor.proofs.{Vocabulary.◌+◌, Vocabulary.ℕ, Vocabulary.List, Vocabulary.length, Vocabulary.ap, Vocabulary.arith, Vocabulary.subst, Vocabulary.length-set, Vocabulary.HEADER_WORDS, Vocabulary.CopiesFields, Vocabulary.forward_word, ForwardLaws.object_copied}
use Rattle.nmgc_minor.proofs.forwarding.copy_object.Goals as goal

pub copy_fields-requires-clause-inside : goal.copy_fields-requires-clause-inside
copy_fields-requires-clause-inside g c =
    let h = c.requires.header in
    let n = c.field_count-count.ensures.count h.header (h.valid, h.read) in
    let size = ap length c.field_count-count.ensures.same in
    let i = h.inside in
    omega (arith, n, size, i)

pub copy_fields-requires-clause-apart : goal.copy_fields-requires-clause-apart
copy_fields-requires-clause-apart g c =
    let h = c.requires.header in
    let n = c.field_count-count.ensures.count h.header (h.valid, h.read) in
    let apart = c.requires.apart h.header (h.valid, h.read) in
    omega (arith, n, apart)

pub copy_word-requires-clause-from : goal.copy_word-requires-clause-from
copy_word-requires-clause-from g c =
    let size = ap length c.field_count-count.ensures.same in
    let total = c.copy_fields.ensures.total in
    let i = c.requires.header.inside in
    omega (arith, size, total, i)

pub copy_word-requires-clause-to : goal.copy_word-requires-clause-to
copy_word-requires-clause-to g c =
    let h = c.requires.header in
    let apart = c.requires.apart h.header (h.valid, h.read) in
    let size = ap length c.field_count-count.ensures.same in
    let total = c.copy_fields.ensures.total in
    let i = h.inside in
    omega (arith, size, total, i, apart)

pub copy_word-requires-2-clause-from : goal.copy_word-requires-2-clause-from
copy_word-requires-2-clause-from g c =
    let size = ap length c.field_count-count.ensures.same in
    let total = c.copy_fields.ensures.total in
    let one = ap length c.copy_word.ensures in
    let i = c.requires.header.inside in
    omega (arith, size, total, i, one, length-set {A = ℕ})

pub copy_word-requires-2-clause-to : goal.copy_word-requires-2-clause-to
copy_word-requires-2-clause-to g c =
    let h = c.requires.header in
    let apart = c.requires.apart h.header (h.valid, h.read) in
    let size = ap length c.field_count-count.ensures.same in
    let total = c.copy_fields.ensures.total in
    let one = ap length c.copy_word.ensures in
    let i = h.inside in
    omega (arith, size, total, i, one, apart, length-set {A = ℕ})

pub returns : goal.returns
returns g c =
    let old = g.W.HeapWords.words c.args.words.now in
    let h = c.requires.header in
    let n = c.field_count-count.ensures.count h.header (h.valid, h.read) in
    let apart = c.requires.apart h.header (h.valid, h.read) in
    let fields = subst (λ (ws : List ℕ).
    CopiesFields (forward_word c.args.table.now c.args.base) ws (g.W.HeapWords.words c.copy_fields.new.words) (c.args.from + HEADER_WORDS)
    (c.args.to + HEADER_WORDS) c.field_count-count.result) c.field_count-count.ensures.same c.copy_fields.ensures in
    object_copied c.words_differ.ensures.headers (forward_word c.args.table.now c.args.base) old (g.W.HeapWords.words c.copy_fields.new.words)
    (g.W.HeapWords.words c.copy_word.new.words) (g.W.HeapWords.words c.copy_word-2.new.words) c.args.from c.args.to c.field_count-count.result h
    n (omega (arith, n, apart)) fields c.copy_word.ensures c.copy_word-2.ensures
