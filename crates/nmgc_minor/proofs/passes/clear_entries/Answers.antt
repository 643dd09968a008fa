use Rattle.nmgc_minor.proofs.Vocabulary.{◌≡◌, ◌+◌, ◌-◌, ◌<◌, ◌++◌, ◌∷◌, ℕ, List, [], length, take, set, get_or, slice_index, inl, inr, ap, subst, sym, ◌∙◌, arith, Contains, cases_eq, take_all, take_more, get_or-set_same, get_or-set_other, Contains-get_or, Contains-push_cases, Address}
use Rattle.nmgc_minor.proofs.passes.clear_entries.Goals as goal

pub overflow_sub-table : goal.overflow_sub-table
overflow_sub-table c = (c.requires (get_or c.args.found.now c.loop-at.at-index (record {
  0 =
      0;
})) (Contains-get_or c.args.found.now c.loop-at.at-index (record { 0 = 0 }) c.loop-at-test.true)).0

pub bounds-table-at : goal.bounds-table-at
bounds-table-at c =
    let h = c.requires (get_or c.args.found.now c.loop-at.at-index (record {
      0 =
          0;
    })) (Contains-get_or c.args.found.now c.loop-at.at-index (record { 0 = 0 }) c.loop-at-test.true) in
    let e = c.loop-at.auto.table in
    omega (arith, h.0, h.1, e)

pub loop-at-preserved : goal.loop-at-preserved
loop-at-preserved c =
    let x : Address = get_or c.args.found.now c.loop-at.at-index (record { 0 = 0 }) in
    let h = c.requires x (Contains-get_or c.args.found.now c.loop-at.at-index (record { 0 = 0 }) c.loop-at-test.true) in
    let e = c.loop-at.auto.table in
    let low = h.0 in
    let in' : x.0 - c.args.base < length c.loop-at.table = omega (arith, low, h.1, e) in
    let i = c.loop-at.invariant in
    record {
      kept = λ k. elim (cases_eq k (x.0 - c.args.base)) [
        | inl s ↦ inr (ap (λ (n : ℕ). slice_index (set c.loop-at.table (x.0 - c.args.base) 0) n) s ∙
            get_or-set_same c.loop-at.table (x.0 - c.args.base) 0 0 in')
        | inr ne ↦ let same = get_or-set_other c.loop-at.table (x.0 - c.args.base) k 0 0 ne in
            elim (i.kept k) [ inl f ↦ inl (same ∙ f) | inr f ↦ inr (same ∙ f) ]
      ];
      freed = λ k m. elim (cases_eq k (x.0 - c.args.base)) [
        | inl s ↦ ap (λ (n : ℕ). slice_index (set c.loop-at.table (x.0 - c.args.base) 0) n) s ∙ get_or-set_same c.loop-at.table (x.0 - c.args.base) 0 0 in'
        | inr ne ↦
            let more : take (c.loop-at.at-index + 1) c.args.found.now ≡ take c.loop-at.at-index c.args.found.now ++ x ∷ [] =
            take_more c.args.found.now c.loop-at.at-index (record { 0 = 0 }) c.loop-at-test.true in
            elim (Contains-push_cases (take c.loop-at.at-index c.args.found.now) x (record { 0 = c.args.base + k }) (subst (λ (xs : List Address).
            Contains xs (record { 0 = c.args.base + k })) more m)) [
              | inl d ↦ get_or-set_other c.loop-at.table (x.0 - c.args.base) k 0 0 ne ∙ i.freed k d
              | inr f ↦ let g : x.0 ≡ c.args.base + k = ap (λ (y : Address). y.0) f in absurd (ne (omega (arith, g)))
            ]
      ];
    }

pub returns-clause-free : goal.returns-clause-free
returns-clause-free c = λ listed k.
    let all : take c.loop-at.at-index c.args.found.now ≡ c.args.found.now = take_all c.loop-at.at-index c.args.found.now c.loop-at-test.false in
    let i = c.loop-at.invariant in
    elim (i.kept k) [
      | inr z ↦ z
      | inl same ↦ elim (cases_eq (slice_index c.args.table.now k) 0) [
        | inl z ↦ same ∙ z
        | inr ne ↦ i.freed k (subst (λ (xs : List Address). Contains xs (record { 0 = c.args.base + k })) (sym all) (listed k ne))
      ]
    ]
