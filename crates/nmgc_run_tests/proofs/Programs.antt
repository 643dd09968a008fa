-- Programs of a script that may be run.
use Rattle.std.proofs.Common.{ℕ, ◌≡◌, ◌≤◌, ◌+◌, ◌*◌, All, List, [], ◌∷◌, ◌++◌, ap, arith, length, length-append, subst, sym}
use Rattle.std.proofs.lemmas.List.Elements.{All-push, recursion_from_All}
use Rattle.std.specs.List.{AllByRecursion}
use Rattle.nmgc_script.specs.{declared.script.Script.Script, Spelling.FitsConfig, Spelling.IsInLimits, Spelling.version_of}
use Rattle.nmgc_lists.specs.laws.Items.{of_item}
use Rattle.nmgc_cycle.specs.Programs.{MayRun, most_total}

-- a list with one more item is longer by one
pub counted : {A : Type 0} (xs ys : List A) (x : A) → ys ≡ xs ++ x ∷ [] → length ys ≡ length xs + 1
counted xs ys x e = let more = length-append xs (x ∷ []) in let all = ap length e in omega (arith, more, all)

module _ {P : Type 0} (words left : P → ℕ) (valid : P → Type 0) (script : Script) (most : ℕ) where
  -- a valid program of a script: its objects fit the segments, and it gives at most this number of commands
  pub record IsOf (p : P) : Type 0 where
    pub valid_is : valid p
    pub words_are : words p ≡ script.config.words
    pub left_is : left p ≡ most

  -- one program more
  pub one_more : (ps qs : List P) (p : P) → qs ≡ ps ++ p ∷ [] → All IsOf ps → IsOf p → All IsOf qs
  one_more ps qs p e all own = subst (All IsOf) (sym e) (All-push IsOf ps p all own)

  -- together the programs give at most 65,536 commands for each of them
  total_small : (ps : List P) → most ≤ 65536 → AllByRecursion IsOf ps → most_total left ps ≤ 65536 * length ps
  total_small [] small are = omega arith
  total_small (p ∷ ps) small are = let rest = total_small ps small are.1 in let own = are.0.left_is in omega (arith, rest, own, small)

  -- programs of a version 3 script may be run, if there is one for each mutator
  pub may_run : (ps : List P) → IsInLimits script → script.version ≡ 3 → length ps ≡ length script.threads → most ≤ 65536 → All IsOf ps →
      MayRun words left valid script.config ps
  may_run ps limits version count few are =
      let threads = subst (λ (n : ℕ). length script.threads ≤ (version_of n).threads) version limits.fits.threads in
      let total = subst (λ (n : ℕ). script.config.segments * script.config.words + length script.threads * script.config.nursery ≤ (version_of n).heap_words)
      version limits.fits.total in
      record {
        config_fits = subst (λ (n : ℕ). FitsConfig (version_of n).segments script.config) version limits.fits.config;
        some = (let some = limits.fits.some_thread in omega (arith, some, count));
        few = omega (arith, threads, count);
        total = subst (λ (n : ℕ). script.config.segments * script.config.words + n * script.config.nursery ≤ (version_of 3).heap_words) (sym count) total;
        valid_are = λ k p e. (of_item IsOf ps k p are e).valid_is;
        fit = λ k p e. let own = (of_item IsOf ps k p are e).words_are in omega (arith, own);
        short = (let most_all = total_small ps few (recursion_from_All IsOf ps are) in omega (arith, most_all, threads, count));
      }
