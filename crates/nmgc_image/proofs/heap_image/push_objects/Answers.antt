use Rattle.nmgc_image.proofs.{Vocabulary.◌≡◌, Vocabulary.◌∙◌, Vocabulary.ℕ, Vocabulary.List, Vocabulary.Name, Vocabulary.true, Vocabulary.false, Vocabulary.sym, Vocabulary.subst, Vocabulary.take_all, Vocabulary.All-get_or, Vocabulary.comes_after, Vocabulary.IsReadableObject, Vocabulary.PrintsObjects, Written.placed_start, Written.placed_taken, Written.placed_skipped, heap_image.push_objects.Goals.then-comes_after+in_ok-node+in_ok-push_entry, heap_image.push_objects.Goals.else-comes_after}
use Rattle.nmgc_image.proofs.heap_image.push_objects.Goals as goal

pub loop-at-init : goal.loop-at-init
loop-at-init c = placed_start c.args.words.now c.args.places.now c.args.out.now.items

pub name_at-name-requires : goal.name_at-name-requires
name_at-name-requires c =
    (All-get_or (IsReadableObject c.args.words.now) c.args.places.now c.loop-at.at-index 0 c.loop-at-test.true c.requires.readable).object.named

pub node_at-requires-clause-object : goal.node_at-requires-clause-object
node_at-requires-clause-object c =
    (All-get_or (IsReadableObject c.args.words.now) c.args.places.now c.loop-at.at-index 0 c.loop-at-test.true c.requires.readable).object

pub node_at-requires-clause-readable : goal.node_at-requires-clause-readable
node_at-requires-clause-readable c =
    (All-get_or (IsReadableObject c.args.words.now) c.args.places.now c.loop-at.at-index 0 c.loop-at-test.true c.requires.readable).fields

pub loop-at-preserved : goal.loop-at-preserved
loop-at-preserved c =
    let words : List ℕ = c.args.words.now in
    let places : List ℕ = c.args.places.now in
    let old : List ℕ = c.args.out.now.items in
    let i = c.loop-at.at-index in
    let name : Name = c.name_at-name.result in
    elim c.if-comes_after.branch [
      | then-comes_after+in_ok-node+in_ok-push_entry w ↦
          let after : comes_after c.loop-at.last name ≡ true = sym c.comes_after.ensures ∙ w.if-comes_after.true in
          rw (w.out-is, w.last-is) (placed_taken words places old i 0 c.loop-at-test.true c.loop-at.out.items c.loop-at.last c.loop-at.invariant name
          c.name_at-name.ensures w.push_entry.new.out.items w.in_ok-node.node after w.in_ok-node.ensures w.in_ok-push_entry.ensures)
      | else-comes_after w ↦
          let after : comes_after c.loop-at.last name ≡ false = sym c.comes_after.ensures ∙ w.if-comes_after.false in
          rw (w.out-is, w.last-is) (placed_skipped words places old i 0 c.loop-at-test.true c.loop-at.out.items c.loop-at.last c.loop-at.invariant name
          c.name_at-name.ensures after c.requires.sorted c.requires.readable)
    ]

pub returns : goal.returns
returns c =
    let h = c.loop-at.invariant in
    subst (λ (l : List ℕ). PrintsObjects c.args.words.now l c.args.out.now.items c.loop-at.out.items)
    (take_all c.loop-at.at-index c.args.places.now c.loop-at-test.false) (h.nodes, h.listed, h.text)
