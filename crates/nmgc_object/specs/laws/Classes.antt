-- The classes of blocks: how they increase, which of them a segment has, and which part of its block an object fills.
use Rattle.std.specs.Prelude.{◌≡◌, ◌+◌, ◌-◌, ◌*◌, ◌^◌, ◌<◌, ◌≤◌, ◌↔◌, ◌⊎◌, ◌/◌, ◌%◌}
use Rattle.nmgc_object.specs.laws.Vocabulary.{ℕ, zero, suc, inl, inr, refl, ap, subst, sym, arith, count_by, nat_le, ◌∙◌, IsTrue, rules, tests, count_ones, lit≤, ones, is_power_of_two, IsPowerOfTwo, range_with_len, pow-le-pow_right, pow-add, pow_below, ones_cat, zero_from_ones, mod-mul-add, mod_below, cases_order, cases_lt, cases_eq, le-leb, lt-leb, block_size, IsClassOf, IsLayout, IsSegmentSize, class_count, Layout}

-- the words of a block of a dense class
pub dense_block : (class : ℕ) → class ≤ 12 → block_size class ≡ class + 4
dense_block class h = rw (le-leb class 12 h) refl

-- the words of a block of the greatest dense class, and of each class above it
pub wide_block : (steps : ℕ) → block_size (steps + 12) ≡ 16 * 2 ^ steps
wide_block zero = refl
wide_block (suc n) =
    let same : suc n + 12 - 12 ≡ suc n = omega arith in
    rw (lt-leb (suc n + 12) 12 (omega arith), same) refl

wide_of : (class : ℕ) → 12 ≤ class → block_size class ≡ 16 * 2 ^ (class - 12)
wide_of class h = let is : class ≡ class - 12 + 12 = omega arith in ap (λ (c : ℕ). block_size c) is ∙ wide_block (class - 12)

-- a class has larger blocks than the classes below it
pub block_rises : (c d : ℕ) → c < d → block_size c < block_size d
block_rises c d lt = elim (cases_lt 12 d) [
  | inr dense ↦ let a = dense_block c (omega arith) in let b = dense_block d dense in omega (arith, a, b)
  | inl wide ↦
      let b = wide_of d (omega arith) in
      elim (cases_lt 12 c) [
        | inr low ↦
            let a = dense_block c low in
            let two : 2 ^ 1 ≤ 2 ^ (d - 12) = pow-le-pow_right {n = 2} (omega arith) {i = 1} {j = d - 12} (omega arith) in
            omega (arith, a, b, two)
        | inl high ↦
            let a = wide_of c (omega arith) in
            let more : 2 ^ (c - 12) < 2 ^ (d - 12) = pow_below (c - 12) (d - 12) (omega arith) in
            omega (arith, a, b, more)
      ]
]

-- every block has at least four words
pub least_block : (class : ℕ) → 4 ≤ block_size class
least_block class = elim (cases_lt 0 class) [
  | inl more ↦ let up = block_rises 0 class more in omega (arith, up)
  | inr none ↦ let e : class ≡ 0 = omega arith in subst (λ (c : ℕ). 4 ≤ block_size c) (sym e) (lit≤ tt)
]

-- a block of at most 4,096 words has a class up to 20
pub class_few : (class : ℕ) → block_size class ≤ 4096 → class ≤ 20
class_few class fits = elim (cases_lt 20 class) [
  | inl lt ↦ absurd (let more = block_rises 20 class lt in omega (arith, more))
  | inr le ↦ le
]

-- a number with one bit set is a power of two
power_up_to : (most n : ℕ) → n ≤ most → count_ones n ≡ 1 → IsPowerOfTwo n
unfolding ones
power_up_to zero n h one = absurd (let none : n ≡ 0 = omega arith in let e : count_ones n ≡ 0 = ap count_ones none in omega arith)
power_up_to (suc most) n h one =
    let low : n % 2 < 2 = omega arith in
    let whole : n ≡ n / 2 * 2 ^ 1 + n % 2 = omega arith in
    let split : count_ones n ≡ count_ones (n / 2) + count_ones (n % 2) = ap count_ones whole ∙ ones_cat 1 (n / 2) (n % 2) low in
    elim (cases_eq (n % 2) 0) [
      | inl even ↦
          let e : count_ones (n % 2) ≡ 0 = ap count_ones even in
          let rest = power_up_to most (n / 2) (elim (cases_eq n 0) [ inl z ↦ omega arith | inr nz ↦ omega arith ]) (omega arith) in
          let is : n / 2 ≡ 2 ^ rest.0 = rest.1 in
          (rest.0 + 1, omega (arith, pow-add 2 rest.0 1))
      | inr odd ↦
          let bit : n % 2 ≡ 1 = omega arith in
          let e : count_ones (n % 2) ≡ 1 = ap count_ones bit in
          let none : n / 2 ≡ 0 = zero_from_ones (n / 2) (omega arith) in
          (0, omega arith)
    ]

pub power_from_test : (n : ℕ) → IsTrue (is_power_of_two n) → IsPowerOfTwo n
power_from_test n test = power_up_to n n (omega arith) (search (tests, rules))

-- a segment has the words of one block of the greatest dense class or of a class above it
pub record IsWhole (words : ℕ) : Type 0 where
  pub steps : ℕ
  pub is : words ≡ 16 * 2 ^ steps
  pub most : steps ≤ 8

pub is_whole : (words : ℕ) → IsSegmentSize words → IsWhole words
is_whole words size =
    let found = power_from_test words size.power in
    let p = found.0 in
    let power : words ≡ 2 ^ p = found.1 in
    let least : 4 ≤ p = elim (cases_lt p 4) [
      | inl lt ↦ absurd (let low : 2 ^ p < 2 ^ 4 = pow_below p 4 lt in let l = size.least in omega (arith, l, power, low))
      | inr ge ↦ ge
    ] in
    let split : p ≡ 4 + (p - 4) = omega arith in
    let is : words ≡ 16 * 2 ^ (p - 4) = power ∙ ap (λ (n : ℕ). 2 ^ n) split ∙ pow-add 2 4 (p - 4) in
    record {
      steps = p - 4;
      is = is;
      most = elim (cases_lt 8 (p - 4)) [
        | inl gt ↦ absurd (let high : 2 ^ 8 < 2 ^ (p - 4) = pow_below 8 (p - 4) gt in let m = size.most in omega (arith, m, is, high))
        | inr le ↦ le
      ];
    }

-- the classes whose block fits into such a segment are the classes up to the segment's own
pub fitting : (steps d : ℕ) → (d < steps + 13) ↔ (block_size d ≤ 16 * 2 ^ steps)
fitting steps d = (
  (λ below. elim (cases_eq d (steps + 12)) [
    | inl e ↦ let is : block_size d ≡ 16 * 2 ^ steps = ap (λ (c : ℕ). block_size c) e ∙ wide_block steps in omega (arith, is)
    | inr ne ↦ let up = block_rises d (steps + 12) (omega arith) in let is = wide_block steps in omega (arith, up, is)
  ]),
  (λ fits. elim (cases_lt (steps + 12) d) [
    | inl more ↦ absurd (let up = block_rises (steps + 12) d more in let is = wide_block steps in omega (arith, up, is, fits))
    | inr le ↦ omega arith
  ]),
)

-- the number of classes with blocks of at most `words` words
abbrev pub count_to : ℕ → ℕ
count_to words = count_by (λ class. nat_le (block_size class) words) (range_with_len 0 21)

pub count_at : (steps : ℕ) → steps ≤ 8 → count_to (16 * 2 ^ steps) ≡ steps + 13
count_at zero h = refl
count_at (suc zero) h = refl
count_at (suc (suc zero)) h = refl
count_at (suc (suc (suc zero))) h = refl
count_at (suc (suc (suc (suc zero)))) h = refl
count_at (suc (suc (suc (suc (suc zero))))) h = refl
count_at (suc (suc (suc (suc (suc (suc zero)))))) h = refl
count_at (suc (suc (suc (suc (suc (suc (suc zero))))))) h = refl
count_at (suc (suc (suc (suc (suc (suc (suc (suc zero)))))))) h = refl
count_at (suc (suc (suc (suc (suc (suc (suc (suc (suc n))))))))) h = absurd (omega arith)

-- the least class whose block holds a whole segment is the segment's last class
pub last_class : (words class : ℕ) (w : IsWhole words) → words ≤ block_size class → ((d : ℕ) → d < class → block_size d < words) → class ≡ w.steps + 12
last_class words class w holds below =
    let whole = wide_block w.steps in
    let is = w.is in
    elim (cases_order class (w.steps + 12)) [
      | inl e ↦ e
      | inr (inl lt) ↦ absurd (let up = block_rises class (w.steps + 12) lt in omega (arith, up, whole, is, holds))
      | inr (inr gt) ↦ absurd (let less = below (w.steps + 12) gt in omega (arith, less, whole, is))
    ]

-- if `size` words fit into a segment, the block of the least class that holds them fits too
pub class_fits : (words class size : ℕ) → IsSegmentSize words → size ≤ words → ((c : ℕ) → c < class → block_size c < size) → block_size class ≤ words
class_fits words class size h le least =
    let w = is_whole words h in
    let is = w.is in
    let whole = wide_block w.steps in
    elim (cases_lt (w.steps + 12) class) [
      | inl gt ↦ absurd (let less = least (w.steps + 12) gt in omega (arith, less, whole, is, le))
      | inr few ↦ let fits = (fitting w.steps class).0 (omega (arith, few)) in omega (arith, fits, is)
    ]

-- the classes of a layout are the classes whose block fits into a segment
pub class_counted : (layout : Layout) (class : ℕ) → IsSegmentSize layout.words → (class < class_count layout) ↔ (block_size class ≤ layout.words)
class_counted layout class h =
    let w = is_whole layout.words h in
    let is : layout.words ≡ 16 * 2 ^ w.steps = w.is in
    let count : class_count layout ≡ w.steps + 13 = ap count_to is ∙ count_at w.steps w.most in (
      (λ below. subst (λ (n : ℕ). block_size class ≤ n) (sym is) ((fitting w.steps class).0 (omega (arith, count, below)))),
      (λ fits. let below : class < w.steps + 13 = (fitting w.steps class).1 (subst (λ (n : ℕ). block_size class ≤ n) is fits) in omega (arith, count, below)),
    )

-- an object that fits into a segment has a class of the layout
pub object_class : (layout : Layout) (words class : ℕ) → IsLayout layout → words ≤ layout.words → IsClassOf words class →
    (block_size class ≤ layout.words) × (class < class_count layout)
object_class layout words class h fits is =
    let inside = class_fits layout.words class words h.words fits is.least in
    (inside, (class_counted layout class h.words).1 inside)

-- blocks of four words, and blocks with a power of two as size, leave no words of a segment over
pub none_left : (words class : ℕ) → IsSegmentSize words → block_size class ≤ words → (class ≡ 0) ⊎ (12 ≤ class) → words % block_size class ≡ 0
none_left words class h fits (inl first) =
    let w = is_whole words h in
    let is : words ≡ 4 * 2 ^ w.steps * 4 + 0 = let e = w.is in omega (arith, e) in
    let none : words % 4 ≡ 0 = ap (λ (n : ℕ). n % 4) is ∙ mod-mul-add (4 * 2 ^ w.steps) 4 0 (omega arith) in
    subst (λ (c : ℕ). words % block_size c ≡ 0) (sym first) none
none_left words class h fits (inr wide) =
    let w = is_whole words h in
    let k : ℕ = class - 12 in
    let size : block_size class ≡ 16 * 2 ^ k = wide_of class wide in
    let le : k ≤ w.steps = elim (cases_lt w.steps k) [
      | inl gt ↦ absurd (let more : 2 ^ w.steps < 2 ^ k = pow_below w.steps k gt in let e = w.is in omega (arith, more, e, size, fits))
      | inr few ↦ few
    ] in
    let split : w.steps ≡ (w.steps - k) + k = omega (arith, le) in
    let power : 2 ^ w.steps ≡ 2 ^ (w.steps - k) * 2 ^ k = ap (λ (n : ℕ). 2 ^ n) split ∙ pow-add 2 (w.steps - k) k in
    let product : 2 ^ (w.steps - k) * block_size class ≡ 2 ^ (w.steps - k) * (16 * 2 ^ k) = ap (λ (n : ℕ). 2 ^ (w.steps - k) * n) size in
    let scaled : 16 * (2 ^ (w.steps - k) * 2 ^ k) ≡ 2 ^ (w.steps - k) * (16 * 2 ^ k) = grind arith in
    let is : words ≡ 2 ^ (w.steps - k) * block_size class + 0 = let e = w.is in omega (arith, e, power, product, scaled) in
    let positive : 0 < block_size class = let l = least_block class in omega (arith, l) in
    ap (λ (n : ℕ). n % block_size class) is ∙ mod-mul-add (2 ^ (w.steps - k)) (block_size class) 0 positive

-- twice the words of an object are at least the words of its block and the words left over in a segment of such blocks
pub object_half : (words size class : ℕ) → IsSegmentSize words → 2 ≤ size → size ≤ words → IsClassOf size class →
    words % block_size class + block_size class ≤ 2 * size
object_half words size class h two fits is =
    let inside = class_fits words class size h fits is.least in
    elim (cases_lt 12 class) [
      | inl wide ↦
          let none = none_left words class h inside (inr (omega arith)) in
          let here = wide_of class (omega arith) in
          let under = wide_of (class - 1) (omega arith) in
          let low = is.least (class - 1) (omega arith) in
          let next : class - 12 ≡ (class - 1 - 12) + 1 = omega arith in
          let twice : 2 ^ (class - 12) ≡ 2 ^ (class - 1 - 12) * 2 ^ 1 = ap (λ (n : ℕ). 2 ^ n) next ∙ pow-add 2 (class - 1 - 12) 1 in
          omega (arith, none, here, under, low, twice)
      | inr dense ↦ elim (cases_eq class 0) [
        | inl first ↦
            let none = none_left words class h inside (inl first) in
            let here = dense_block class dense in
            omega (arith, none, here, first, two)
        | inr more ↦
            let here = dense_block class dense in
            let under = dense_block (class - 1) (omega arith) in
            let low = is.least (class - 1) (omega arith) in
            let rest = mod_below words (block_size class) (omega (arith, here)) in
            let most = is.holds in
            omega (arith, here, under, low, rest, most)
      ]
    ]
