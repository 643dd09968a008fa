-- A heap line is read exactly from its tokens.
use Rattle.nmgc_script.proofs.Vocabulary.{◌≡◌, ◌≤◌, ◌<◌, ◌^◌, ℕ, List, [], ◌∷◌, refl, subst, ap, ◌∙◌, arith, inl, inr, codes, decimal, Ok, Err, leb, is_power_of_two, bytes_eq, bytes_eq-Decides, le-leb, leb-true, Cause, Config, Version, IsSegmentSize, least_segment_words, most_nursery_words, most_quota, most_segment_words, most_slice, most_trigger, FitsConfig, heap_words, number_at, between_at, segment_size_at, sizes_at, pace_at, config_at, numbers_at, or_cause, heap_words_at, chosen}
use Rattle.nmgc_script.specs.declared.fault.Cause.TheVariants as cause
use Rattle.nmgc_script.proofs.{WordLaws.Reads, WordLaws.bind_ok, WordLaws.guard_ok, WordLaws.ok_is, WordLaws.number_reads, SectionLaws.or_cause_ok}

-- the number is within two limits
abbrev pub IsBetween : ℕ → ℕ → ℕ → Type 0
IsBetween low high n = (low ≤ n) × (n ≤ high)

pub between_reads : (low high : ℕ) → high < 2 ^ 64 → Reads (between_at low high) decimal (IsBetween low high)
unfolding between_at
between_reads low high small = record { takes = takes; again = again }
  where
    takes : (x : List ℕ) (n : ℕ) → between_at low high x ≡ Ok n → (x ≡ decimal n) × IsBetween low high n
    takes x n e =
        let b = bind_ok (number_at high x) _ n e in
        let g = guard_ok (leb low b.0) cause.Operand b.0 n b.2 in
        let t = (number_reads high small).takes x b.0 b.1 in
        subst (λ (k : ℕ). (x ≡ decimal k) × IsBetween low high k) g.1 (t.0, (leb-true low b.0 g.0, t.1))

    again : (n : ℕ) → IsBetween low high n → between_at low high (decimal n) ≡ Ok n
    again n h = rw ((number_reads high small).again n h.1, le-leb low n h.0) refl

pub segment_size_reads : Reads segment_size_at decimal IsSegmentSize
unfolding segment_size_at
segment_size_reads = record { takes = takes; again = again }
  where
    size_between : Reads (between_at least_segment_words most_segment_words) decimal (IsBetween least_segment_words most_segment_words)
    size_between = between_reads least_segment_words most_segment_words (omega arith)

    takes : (x : List ℕ) (n : ℕ) → segment_size_at x ≡ Ok n → (x ≡ decimal n) × IsSegmentSize n
    takes x n e =
        let b = bind_ok (between_at least_segment_words most_segment_words x) _ n e in
        let g = guard_ok (is_power_of_two b.0) cause.Operand b.0 n b.2 in
        let t = size_between.takes x b.0 b.1 in
        subst (λ (k : ℕ). (x ≡ decimal k) × IsSegmentSize k) g.1 (t.0, record { power = g.0; least = t.1.0; most = t.1.1 })

    again : (n : ℕ) → IsSegmentSize n → segment_size_at (decimal n) ≡ Ok n
    again n h = rw (size_between.again n (h.least, h.most), h.power) refl

-- the limits of three sizes in a version
record FitSizes (v : Version) (n : ℕ × ℕ × ℕ) : Type 0 where
  segments : IsBetween 1 v.segments n.0
  words : IsSegmentSize n.1
  nursery : IsBetween n.1 most_nursery_words n.2

sizes_takes : (v : Version) → v.segments < 2 ^ 64 → (x y z : List ℕ) (n : ℕ × ℕ × ℕ) → sizes_at v x y z ≡ Ok n →
    ((x ≡ decimal n.0) × (y ≡ decimal n.1) × (z ≡ decimal n.2)) × FitSizes v n
unfolding sizes_at
sizes_takes v small x y z n e =
    let a = bind_ok (between_at 1 v.segments x) _ n e in
    let b = bind_ok (segment_size_at y) _ n a.2 in
    let c = bind_ok (between_at b.0 most_nursery_words z) _ n b.2 in
    let aw = (between_reads 1 v.segments small).takes x a.0 a.1 in
    let bw = segment_size_reads.takes y b.0 b.1 in
    let cw = (between_reads b.0 most_nursery_words (omega arith)).takes z c.0 c.1 in
    subst (λ (m : ℕ × ℕ × ℕ). ((x ≡ decimal m.0) × (y ≡ decimal m.1) × (z ≡ decimal m.2)) ×
    FitSizes v m) (ok_is {E = Cause} (a.0, b.0, c.0) n c.2) ((aw.0, bw.0, cw.0), record { segments = aw.1; words = bw.1; nursery = cw.1 })

-- the limits of three numbers of pace
record FitPace (n : ℕ × ℕ × ℕ) : Type 0 where
  slice : IsBetween 1 most_slice n.0
  quota : IsBetween 1 most_quota n.1
  trigger : n.2 ≤ most_trigger

pace_takes : (x y z : List ℕ) (n : ℕ × ℕ × ℕ) → pace_at x y z ≡ Ok n → ((x ≡ decimal n.0) × (y ≡ decimal n.1) × (z ≡ decimal n.2)) × FitPace n
unfolding pace_at
pace_takes x y z n e =
    let a = bind_ok (between_at 1 most_slice x) _ n e in
    let b = bind_ok (between_at 1 most_quota y) _ n a.2 in
    let c = bind_ok (number_at most_trigger z) _ n b.2 in
    let aw = (between_reads 1 most_slice (omega arith)).takes x a.0 a.1 in
    let bw = (between_reads 1 most_quota (omega arith)).takes y b.0 b.1 in
    let cw = (number_reads most_trigger (omega arith)).takes z c.0 c.1 in
    subst (λ (m : ℕ × ℕ × ℕ). ((x ≡ decimal m.0) × (y ≡ decimal m.1) × (z ≡ decimal m.2)) ×
    FitPace m) (ok_is {E = Cause} (a.0, b.0, c.0) n c.2) ((aw.0, bw.0, cw.0), record { slice = aw.1; quota = bw.1; trigger = cw.1 })

abbrev pub Settings : Version → List (List ℕ) → Config → Type 0
Settings v words c = (codes "heap" ∷ words ≡ heap_words c) × FitsConfig v.segments c

pub numbers_takes : (v : Version) → v.segments < 2 ^ 64 → (words : List (List ℕ)) (c : Config) → numbers_at v words ≡ Ok c → Settings v words c
unfolding numbers_at config_at
numbers_takes v small [] c e = absurd cc
numbers_takes v small (s ∷ []) c e = absurd cc
numbers_takes v small (s ∷ w ∷ []) c e = absurd cc
numbers_takes v small (s ∷ w ∷ n ∷ []) c e = absurd cc
numbers_takes v small (s ∷ w ∷ n ∷ l ∷ []) c e = absurd cc
numbers_takes v small (s ∷ w ∷ n ∷ l ∷ q ∷ []) c e = absurd cc
numbers_takes v small (s ∷ w ∷ n ∷ l ∷ q ∷ t ∷ other ∷ others) c e = absurd cc
numbers_takes v small (s ∷ w ∷ n ∷ l ∷ q ∷ t ∷ []) c e =
    let a = bind_ok (sizes_at v s w n) _ c e in
    let b = bind_ok (pace_at l q t) _ c a.2 in
    let aw = sizes_takes v small s w n a.0 a.1 in
    let bw = pace_takes l q t b.0 b.1 in
    let made : Config = record { segments = a.0.0; words = a.0.1; nursery = a.0.2; slice = b.0.0; quota = b.0.1; trigger = b.0.2 } in
    subst (Settings v (s ∷ w ∷ n ∷ l ∷ q ∷ t ∷ [])) (ok_is {E = Cause} made c b.2) (
      cc (aw.0.0, aw.0.1, aw.0.2, bw.0.0, bw.0.1, bw.0.2),
      record {
        some_segments = aw.1.segments.0;
        segments = aw.1.segments.1;
        words = aw.1.words;
        some_nursery = aw.1.nursery.0;
        nursery = aw.1.nursery.1;
        some_slice = bw.1.slice.0;
        slice = bw.1.slice.1;
        some_quota = bw.1.quota.0;
        quota = bw.1.quota.1;
        trigger = bw.1.trigger;
      },
    )

pub heap_takes : (v : Version) → v.segments < 2 ^ 64 → (words : List (List ℕ)) (c : Config) → heap_words_at v words ≡ Ok c →
    (words ≡ heap_words c) × FitsConfig v.segments c
unfolding heap_words_at
heap_takes v small [] c e = absurd cc
heap_takes v small (name ∷ words) c e =
    elim (chosen (bytes_eq name (codes "heap")) (or_cause cause.Heap (numbers_at v words)) (Err cause.Heap) (Ok c) e) [
      | inl p ↦
          let t = numbers_takes v small words c (or_cause_ok cause.Heap (numbers_at v words) c p.1) in
          (ap (λ (n : List ℕ). n ∷ words) ((bytes_eq-Decides name (codes "heap")).0 p.0) ∙ t.0, t.1)
      | inr p ↦ absurd (let never : Err cause.Heap ≡ Ok c = p.1 in cc)
    ]

pub heap_again : (v : Version) → v.segments < 2 ^ 64 → (c : Config) → FitsConfig v.segments c → heap_words_at v (heap_words c) ≡ Ok c
unfolding heap_words_at numbers_at config_at sizes_at pace_at
heap_again v small c h =
    rw (
      (between_reads 1 v.segments small).again c.segments (h.some_segments, h.segments),
      segment_size_reads.again c.words h.words,
      (between_reads c.words most_nursery_words (omega arith)).again c.nursery (h.some_nursery, h.nursery),
      (between_reads 1 most_slice (omega arith)).again c.slice (h.some_slice, h.slice),
      (between_reads 1 most_quota (omega arith)).again c.quota (h.some_quota, h.quota),
      (number_reads most_trigger (omega arith)).again c.trigger h.trigger,
    ) refl
