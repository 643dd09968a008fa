-- Programs that begin with other programs: the rests.
use Rattle.nmgc_cycle.proofs.Vocabulary.{ℕ, zero, suc, ◌≡◌, ◌<◌, ◌++◌, ◌∙◌, List, [], ◌∷◌, length, drop, refl, sym, ap, arith, drop_at, slice_get, Some, Command, Config, Script, program_of, longer, map}
use Rattle.nmgc_script.specs.Spelling.{version_3}

-- the rest of each program, behind a shorter one
pub rests_of : List (List Command) → List (List Command) → List (List Command)
rests_of [] ts = []
rests_of (p ∷ ps) [] = []
rests_of (p ∷ ps) (t ∷ ts) = drop (length p) t ∷ rests_of ps ts

-- the shorter programs and their rests are the longer programs
pub longer_rests : (ps ts : List (List Command)) → length ts ≡ length ps →
    ((k : ℕ) → k < length ps → (m : List Command) × (program_of ts k ≡ program_of ps k ++ m)) → longer ps (rests_of ps ts) ≡ ts
unfolding rests_of
longer_rests [] [] count h = refl
longer_rests [] (t ∷ ts) count h = absurd (omega (arith, count))
longer_rests (p ∷ ps) [] count h = absurd (omega (arith, count))
longer_rests (p ∷ ps) (t ∷ ts) count h =
    let here = h 0 (omega arith) in
    let is : t ≡ p ++ here.0 = here.1 in
    let own : p ++ drop (length p) t ≡ t = ap (λ (l : List Command). p ++ drop (length p) l) is
    ∙ ap (λ (l : List Command). p ++ l) (drop_at p here.0 (length p) refl) ∙ sym is in
    let rest = longer_rests ps ts (omega (arith, count)) (λ k lt. h (suc k) (omega (arith, lt))) in
    ap (λ (l : List Command). l ∷ longer ps (rests_of ps ts)) own ∙ ap (λ (ls : List (List Command)). t ∷ ls) rest

-- the rest of program k
pub rest_at : (ps ts : List (List Command)) → length ts ≡ length ps → (k : ℕ) (m : List Command) → k < length ps → program_of ts k ≡ program_of ps k ++ m →
    program_of (rests_of ps ts) k ≡ m
unfolding rests_of
rest_at [] ts count k m lt is = absurd (omega (arith, lt))
rest_at (p ∷ ps) [] count k m lt is = absurd (omega (arith, count))
rest_at (p ∷ ps) (t ∷ ts) count zero m lt is = ap (λ (l : List Command). drop (length p) l) is ∙ drop_at p m (length p) refl
rest_at (p ∷ ps) (t ∷ ts) count (suc k) m lt is = rest_at ps ts (omega (arith, count)) k m (omega (arith, lt)) is

-- a script of these parts
pub same_parts : (config : Config) (threads : List (List Command)) (t : Script) → t.version ≡ version_3.number → t.config ≡ config → threads ≡ t.threads →
    record { version = version_3.number; config = config; threads = threads } ≡ t
same_parts config threads t version is own =
    ap (λ (n : ℕ). record { version = n; config = config; threads = threads }) (sym version)
    ∙ ap (λ (x : Config). record { version = t.version; config = x; threads = threads }) (sym is)
    ∙ ap (λ (l : List (List Command)). record { version = t.version; config = t.config; threads = l }) own

-- equal items make equal lists
pub maps_same : {A B : Type 0} (f : A → B) (xs ys : List A) → length ys ≡ length xs →
    ((k : ℕ) (x y : A) → slice_get xs k ≡ Some x → slice_get ys k ≡ Some y → f y ≡ f x) → map f ys ≡ map f xs
maps_same f [] [] count h = refl
maps_same f [] (y ∷ ys) count h = absurd (omega (arith, count))
maps_same f (x ∷ xs) [] count h = absurd (omega (arith, count))
maps_same {A} {B} f (x ∷ xs) (y ∷ ys) count h =
    let rest = maps_same f xs ys (omega (arith, count)) (λ k. h (suc k)) in
    ap (λ (b : B). b ∷ map f ys) (h 0 x y refl refl) ∙ ap (λ (bs : List B). f x ∷ bs) rest
