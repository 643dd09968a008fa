-- Lemmas that crates above need too.
use Rattle.std.specs.Prelude.{◌≡◌, ◌*◌, ◌+◌, ◌/◌, ◌%◌, ◌<◌, ◌≤◌, ◌&&◌, ◌∷◌}
use Rattle.nmgc_mutator.specs.laws.Vocabulary.{ℕ, true, eqb, leb, arith, eq-eqb, le-leb, List, [], refl, ◌∙◌, false, ne_eqb, and_from, Layout, FIRST_PLACE, nursery_place, Address, is_old, numbers, Mutator, IsNew, Reserves}

-- a word of an object in a segment
pub old_word : (layout : Layout) (at : ℕ) → FIRST_PLACE ≤ at → at < nursery_place layout 0 → is_old layout (2 * at) ≡ true
old_word layout at above low =
    let half : 2 * at / 2 ≡ at = omega arith in
    and_from (eqb (2 * at % 2) 0) (leb FIRST_PLACE (2 * at / 2) && leb (2 * at / 2 + 1) (nursery_place layout 0)) (eq-eqb (2 * at % 2) 0 (omega arith))
    (and_from (leb FIRST_PLACE (2 * at / 2)) (leb (2 * at / 2 + 1) (nursery_place layout 0)) (le-leb FIRST_PLACE (2 * at / 2) (omega arith))
    (le-leb (2 * at / 2 + 1) (nursery_place layout 0) (omega arith)))

-- no addresses
pub none_known : (l : List Address) → numbers l ≡ [] → l ≡ []
none_known [] e = refl
none_known (a ∷ l) e = absurd cc

-- a new mutator with room in its lists
pub reserved : (number : ℕ) (layout : Layout) (old m : Mutator) → IsNew number layout old → Reserves old m → IsNew number layout m
reserved number layout old m h r = rw r.rest (record {
  number_is = h.number_is;
  layout_is = h.layout_is;
  registers = h.registers;
  queue = h.queue;
  unused = record { base = h.unused.base; top = h.unused.top; end = h.unused.end };
  serial = h.serial;
  turns = h.turns;
  replies = r.replies.items ∙ h.replies;
  recorded = r.recorded.items ∙ h.recorded;
  young_weaks = r.young_weaks.items ∙ h.young_weaks;
  finalised = r.finalised.items ∙ h.finalised;
  updrem = r.updrem.items ∙ h.updrem;
})

-- an odd word is no pointer, so it refers to no object in a segment
pub old_odd : (layout : Layout) (w : ℕ) → w % 2 ≡ 1 → is_old layout w ≡ false
old_odd layout w odd = let e : eqb (w % 2) 0 ≡ false = ne_eqb (w % 2) 0 (omega (arith, odd)) in rw e refl
