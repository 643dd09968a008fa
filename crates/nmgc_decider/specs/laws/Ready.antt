-- Programs of deciders may be run, and one more program may be.
use Rattle.std.proofs.Common.{ℕ, ◌≡◌, ◌<◌, ◌≤◌, ◌+◌, ◌*◌, ◌++◌, ◌∷◌, [], All, List, Some, ap, arith, length, length-append, subst, sym}
use Rattle.std.proofs.lemmas.List.Elements.{All-cons, All-nil, All-push}
use Rattle.nmgc_limits.specs.Limits.{most_segment_words}
use Rattle.nmgc_lists.specs.laws.Items.{of_item}
use Rattle.nmgc_world_spec.specs.{declared.command.Command.Command, World.Fits}
use Rattle.nmgc_script.specs.{declared.script.Config.Config, Spelling.version_3}
use Rattle.nmgc_run_laws.specs.Limits.{most_commands}
use Rattle.nmgc_cycle.specs.Programs.{MayRun, most_total}
use Rattle.nmgc_decider.specs.{Heap.IsHeap, Ready.AreReady, Ready.IsReady, Waiting.IsWaiting, declared.decider.Decided.Decided}

module _ {D : Type 0} (words : D → ℕ) (valid : D → Type 0) where
  -- a program that begins may be run
  pub ready_new : (p : Decided D) (first : Command) → p.waiting ≡ Some first → valid p.decider → Fits (words p.decider) first →
      words p.decider ≤ most_segment_words → 0 < p.left → IsReady words valid p
  ready_new p first e v fits small some = record {
    valid_is = v;
    waits = subst (IsWaiting (words p.decider) p.left) (sym e) (fits, some);
    fits = small;
  }

  -- the most commands of all programs, with one program more
  total_more : (ps : List (Decided D)) (p : Decided D) → most_total (λ (p : Decided D). p.left) (ps ++ p ∷ []) ≡
      most_total (λ (p : Decided D). p.left) ps + p.left
  total_more [] p = omega arith
  total_more (q ∷ ps) p = let rest = total_more ps p in omega (arith, rest)

  -- no programs
  pub ready_none : (most : ℕ) → AreReady words valid 0 most []
  ready_none most = record { counted = omega arith; ready = All-nil (IsReady words valid); short = omega arith }

  -- the programs give at most a greater number of commands
  pub ready_within : (count most more : ℕ) (ps : List (Decided D)) → most ≤ more → AreReady words valid count most ps → AreReady words valid count more ps
  ready_within count most more ps le all = record {
    counted = all.counted;
    ready = all.ready;
    short = (let short = all.short in omega (arith, short, le));
  }

  -- one program more
  pub ready_more : (count most : ℕ) (ps qs : List (Decided D)) (p : Decided D) → qs ≡ ps ++ p ∷ [] → AreReady words valid count most ps → IsReady words valid p →
      AreReady words valid (count + 1) (most + p.left) qs
  ready_more count most ps qs p e all own = record {
    counted = (let before = all.counted in let more = length-append ps (p ∷ []) in let now = ap length e in omega (arith, before, more, now));
    ready = subst (All (IsReady words valid)) (sym e) (All-push (IsReady words valid) ps p all.ready own);
    short = (let before = all.short in let more = total_more ps p in let now = ap (most_total (λ (p : Decided D). p.left)) e in omega (arith, before, more, now));
  }

  -- one program more, in front
  pub ready_cons : (count most : ℕ) (p : Decided D) (ps : List (Decided D)) → IsReady words valid p → AreReady words valid count most ps →
      AreReady words valid (count + 1) (most + p.left) (p ∷ ps)
  ready_cons count most p ps own all = record {
    counted = (let before = all.counted in omega (arith, before));
    ready = All-cons (IsReady words valid) p ps own all.ready;
    short = (let before = all.short in omega (arith, before));
  }

  -- a program for each mutator of a heap, with few enough commands for a run
  pub may_run : (threads most : ℕ) (c : Config) (ps : List (Decided D)) → IsHeap threads c → most ≤ most_commands → AreReady words valid threads most ps →
      MayRun (λ (p : Decided D). words p.decider) (λ (p : Decided D). p.left) (λ (p : Decided D). valid p.decider × IsWaiting (words p.decider) p.left p.waiting) c ps
  may_run threads most c ps heap small all = record {
    config_fits = heap.fits;
    some = (let some = heap.some in let count = all.counted in omega (arith, some, count));
    few = (let few = heap.few in let count = all.counted in omega (arith, few, count));
    total = subst (λ (n : ℕ). c.segments * c.words + n * c.nursery ≤ version_3.heap_words) (sym all.counted) heap.total;
    valid_are = λ k p e. (let own = of_item (IsReady words valid) ps k p all.ready e in (own.valid_is, own.waits));
    fit = λ k p e. (let own = (of_item (IsReady words valid) ps k p all.ready e).fits in let size = heap.words in omega (arith, own, size));
    short = (let most = all.short in omega (arith, most, small));
  }
