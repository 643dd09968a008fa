use Rattle.nmgc_minor.proofs.{Vocabulary.ℕ, Vocabulary.◌≡◌, Vocabulary.◌<◌, Vocabulary.◌≤◌, Vocabulary.List, Vocabulary.ap, Vocabulary.subst, Vocabulary.refl, Vocabulary.◌∙◌, Vocabulary.length, Vocabulary.arith, Vocabulary.get_or, Vocabulary.get_or_default, Vocabulary.Address, Vocabulary.HasStrong, Vocabulary.Notes, NoteLaws.following_none, NoteLaws.can_still, NoteLaws.following_more, NoteLaws.following_all}
use Rattle.nmgc_minor.proofs.young.Young.follow.Goals as goal

pub loop-next-init : goal.loop-next-init
loop-next-init g c = record { follows = following_none c.args.self.now (g.W.HeapWords.words c.args.words.now) c.requires.young; same = refl }

-- the item that was read
read : (xs ys : List Address) (i : ℕ) → xs ≡ ys → i < length xs → get_or xs i (record { 0 = 0 }) ≡ get_or ys i (get_or xs i (record { 0 = 0 }))
read xs ys i e lt =
    let within : i < length ys = let f = ap length e in omega (arith, f) in
    ap (λ (zs : List Address). get_or zs i (record { 0 = 0 })) e ∙ get_or_default ys i (record { 0 = 0 }) (get_or xs i (record { 0 = 0 })) within

pub note_fields-requires-clause-can : goal.note_fields-requires-clause-can
note_fields-requires-clause-can g c =
    let e = c.items.ensures in
    let f = c.items-in-loop-next.ensures in
    let items = c.items-in-loop-next.result.now in
    let lt : c.loop-next.next < length c.loop-next.self.found.items = let g = ap length e in omega (arith, g, c.loop-next-test.true) in
    let there : c.loop-next.next < length items = let g = ap length f in omega (arith, g, lt) in
    rw (c.loop-next.invariant.same) (can_still c.args.self.now c.loop-next.self (g.W.HeapWords.words c.args.words.now) c.loop-next.next
    (get_or items c.loop-next.next (record {
      0 =
          0;
    })) c.loop-next.invariant.follows lt (read items c.loop-next.self.found.items c.loop-next.next f there) c.requires.can)

pub loop-next-preserved : goal.loop-next-preserved
loop-next-preserved g c =
    let e = c.items.ensures in
    let f = c.items-in-loop-next.ensures in
    let items = c.items-in-loop-next.result.now in
    let lt : c.loop-next.next < length c.loop-next.self.found.items = let g = ap length e in omega (arith, g, c.loop-next-test.true) in
    let there : c.loop-next.next < length items = let g = ap length f in omega (arith, g, lt) in
    let x : Address = get_or items c.loop-next.next (record { 0 = 0 }) in
    let notes = subst (λ (ws : List ℕ).
    Notes c.loop-next.self c.note_fields.new.self (HasStrong ws x.0)) c.loop-next.invariant.same c.note_fields.ensures.notes in
    record {
      follows = following_more c.args.self.now c.loop-next.self c.note_fields.new.self (g.W.HeapWords.words c.args.words.now) c.loop-next.next x
          c.loop-next.invariant.follows lt (read items c.loop-next.self.found.items c.loop-next.next f there) notes;
      same = c.note_fields.ensures.same ∙ c.loop-next.invariant.same;
    }

pub returns-clause-follows : goal.returns-clause-follows
returns-clause-follows g c =
    let e = c.items.ensures in
    let end : length c.loop-next.self.found.items ≤ c.loop-next.next = let g = ap length e in omega (arith, g, c.loop-next-test.false) in
    following_all c.args.self.now c.loop-next.self (g.W.HeapWords.words c.args.words.now) c.loop-next.next c.loop-next.invariant.follows end
