use Rattle.nmgc_weak.proofs.{Vocabulary.◌+◌, Vocabulary.◌-◌, Vocabulary.◌/◌, Vocabulary.◌<◌, Vocabulary.ℕ, Vocabulary.length, Vocabulary.refl, Vocabulary.arith, Vocabulary.iff_false, Entries.between_first, Entries.between_low, Entries.between_high, Entries.between_none, Entries.halfway, Entries.neither_before, Entries.nth_entry, Entries.entry_there}
use Rattle.nmgc_weak.proofs.row.find.Goals as goal

-- the position halfway between two positions
abbrev middle : ℕ → ℕ → ℕ
middle low high = low + (high - low) / 2

pub loop-low-init : goal.loop-low-init
loop-low-init c = between_first c.args.entries.now c.args.weak

pub loop-low-preserved-then-is_before : goal.loop-low-preserved-then-is_before
loop-low-preserved-then-is_before c =
    let half = halfway c.loop-low.low c.loop-low.high c.loop-low-test.true in
    let within = c.loop-low.invariant.within in
    let at : ℕ = middle c.loop-low.low c.loop-low.high in
    let there : at < length c.args.entries.now = omega (arith, half.1, within) in
    between_low c.args.entries.now c.args.weak c.loop-low.low c.loop-low.high at c.requires c.loop-low.invariant (nth_entry c.args.entries.now at)
    (entry_there c.args.entries.now at there) half.0 half.1 (c.if-is_before.ensures.0 refl)

pub loop-low-preserved : goal.loop-low-preserved
loop-low-preserved c =
    let half = halfway c.loop-low.low c.loop-low.high c.loop-low-test.true in
    let within = c.loop-low.invariant.within in
    let at : ℕ = middle c.loop-low.low c.loop-low.high in
    let there : at < length c.args.entries.now = omega (arith, half.1, within) in
    between_high c.args.entries.now c.args.weak c.loop-low.low c.loop-low.high at c.requires c.loop-low.invariant (nth_entry c.args.entries.now at)
    (entry_there c.args.entries.now at there) half.0 half.1 (c.if-is_before-2.ensures.0 refl)

pub returns-else-is_before-2-clause-some : goal.returns-else-is_before-2-clause-some
returns-else-is_before-2-clause-some c =
    let half = halfway c.loop-low.low c.loop-low.high c.loop-low-test.true in
    let within = c.loop-low.invariant.within in
    let at : ℕ = middle c.loop-low.low c.loop-low.high in
    let there : at < length c.args.entries.now = omega (arith, half.1, within) in
    record {
      entry = nth_entry c.args.entries.now at;
      there = entry_there c.args.entries.now at there;
      named = neither_before (nth_entry c.args.entries.now at).weak.weak c.args.weak (iff_false c.is_before.ensures c.if-is_before.false)
          (iff_false c.is_before-else-is_before.ensures c.if-is_before-2.false);
    }

pub returns-clause-none : goal.returns-clause-none
returns-clause-none c = between_none c.args.entries.now c.args.weak c.loop-low.low c.loop-low.high c.loop-low.invariant c.loop-low-test.false
