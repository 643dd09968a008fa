use Rattle.nmgc_weak.proofs.{Vocabulary.◌≡◌, Vocabulary.◌≢◌, Vocabulary.ℕ, Vocabulary.List, Vocabulary.true, Vocabulary.length, Vocabulary.sym, Vocabulary.ap, Vocabulary.◌∙◌, Vocabulary.arith, Vocabulary.Entry, Vocabulary.listed, Vocabulary.entry_names, Vocabulary.value_place, Vocabulary.slice_index, Entries.marked, Entries.marked_all, Entries.marked_alive, Entries.marked_dead, Entries.marked_left, Entries.marked_listed, Entries.marked_more, Entries.marked_names, Entries.next_listed, Entries.nth_entry, row.flag_dead.Goals.then-not-entry+then-load-eq0, row.flag_dead.Goals.else-not-entry, row.flag_dead.Goals.else-not-entry-via-then-not-entry+else-load-eq0, row.flag_dead.Goals.else-not-entry-via-else-not-entry}
use Rattle.nmgc_weak.proofs.row.flag_dead.Goals as goal

pub load-requires : goal.load-requires
load-requires g c =
    let inv = c.loop-entry.invariant in
    let there = next_listed (g.W.HeapWords.words c.args.words.now) c.args.entries.now c.loop-entry.entries c.loop-entry.entry-index c.loop-entry-test.true
    c.loop-entry.auto.entries inv.done c.if-not-entry.true in
    let inside = c.requires (nth_entry c.loop-entry.entries c.loop-entry.entry-index).weak there in
    let size = ap length inv.words in
    omega (arith, inside, size)

pub loop-entry-preserved : goal.loop-entry-preserved
loop-entry-preserved g c =
    let inv = c.loop-entry.invariant in
    let old = g.W.HeapWords.words c.args.words.now in
    let es = c.loop-entry.entries in
    let i = c.loop-entry.entry-index in
    let x : Entry = nth_entry es i in
    let more = λ (y : Entry) (is : marked old x ≡ y). marked_more old c.args.entries.now es i c.loop-entry-test.true c.loop-entry.auto.entries inv.done y is in
    elim c.if-not-entry.branch [
      | then-not-entry+then-load-eq0 w ↦
          let word : slice_index old (value_place x.weak.at.0) ≡ 0 =
          ap (λ (l : List ℕ). slice_index l (value_place x.weak.at.0)) (sym inv.words) ∙ sym w.load.ensures.word ∙ w.if-load-eq0.true in
          record {
            words = ap g.W.HeapWords.words w.words-is ∙ w.load.ensures.same ∙ inv.words;
            done = w.entries-is ∙ more (record { weak = x.weak; left = true }) (marked_dead old x word);
          }
      | else-not-entry w ↦ elim w.else-not-entry.branch [
        | else-not-entry-via-then-not-entry+else-load-eq0 v ↦
            let word : slice_index old (value_place x.weak.at.0) ≢ 0 =
            λ e. v.if-load-eq0.false (v.load.ensures.word ∙ ap (λ (l : List ℕ). slice_index l (value_place x.weak.at.0)) inv.words ∙ e) in
            record {
              words = ap g.W.HeapWords.words (w.words-is ∙ v.words-is) ∙ v.load.ensures.same ∙ inv.words;
              done = w.entries-is ∙ v.entries-is ∙ more x (marked_alive old x word);
            }
        | else-not-entry-via-else-not-entry v ↦ record {
          words = ap g.W.HeapWords.words (w.words-is ∙ v.words-is) ∙ inv.words;
          done = w.entries-is ∙ v.entries-is ∙ more x (marked_left old x v.if-not-entry.false);
        }
      ]
    ]

pub returns-clause-listed : goal.returns-clause-listed
returns-clause-listed g c =
    ap listed (marked_all (g.W.HeapWords.words c.args.words.now) c.args.entries.now c.loop-entry.entries c.loop-entry.entry-index c.loop-entry-test.false
    c.loop-entry.invariant.done) ∙ marked_listed (g.W.HeapWords.words c.args.words.now) c.args.entries.now

pub returns-clause-names : goal.returns-clause-names
returns-clause-names g c =
    ap entry_names (marked_all (g.W.HeapWords.words c.args.words.now) c.args.entries.now c.loop-entry.entries c.loop-entry.entry-index
    c.loop-entry-test.false c.loop-entry.invariant.done) ∙ marked_names (g.W.HeapWords.words c.args.words.now) c.args.entries.now
