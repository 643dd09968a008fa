-- The bench's script is within the limits, and its programs are short.
use Rattle.nmgc_script.proofs.Vocabulary.{◌≡◌, ◌≤◌, ◌<◌, ◌∙◌, ℕ, zero, suc, ◌+◌, ◌*◌, List, [], ◌∷◌, ◌++◌, length, refl, arith, add-one, lit<, lit≤, length-append, ap, append_assoc, length-replicate, All-append, All-cons, All-nil, All-replicate, All, replicate, most_script_bytes, Fits, HasRegistersBelow, IsOperand, IsOperandBelow, Command, Nil, Set, Register, Shared, FitsScript, IsOf, version_1, HasFewCommands, most_batches, list_cells, cell, batch, repeated, bench_program, bench_script, bench_sizes_fit}

-- a list once more
pub once_more : {A : Type 0} (n : ℕ) (xs : List A) → repeated (n + 1) xs ≡ repeated n xs ++ xs
once_more n xs = rw (add-one n) refl

-- a property of each item of a list holds of each of its copies
All-repeated : {A : Type 0} (P : A → Type 0) (n : ℕ) (xs : List A) → All P xs → All P (repeated n xs)
All-repeated P zero xs h = All-nil P
All-repeated P (suc n) xs h = All-append P (repeated n xs) xs (All-repeated P n xs h) h

length-repeated : {A : Type 0} (n : ℕ) (xs : List A) → length (repeated n xs) ≡ n * length xs
length-repeated zero xs = omega arith
length-repeated (suc n) xs = omega (arith, length-append (repeated n xs) xs, length-repeated n xs)

-- the number of cells of a list
pub cells_are : list_cells ≡ 1024
unfolding list_cells
cells_are = refl

-- the first command of a batch, a cell and the last command of a batch are within the limits of the bench's segments
nil_fits : Fits 4096 (Nil 0)
nil_fits = record { registers = lit< tt; numbers = tt; size = lit≤ tt }

cell_fits : Fits 4096 cell
cell_fits = record {
  registers = (lit< tt, All-cons IsOperand (Register 0) (Register 1 ∷ []) (lit< tt) (All-cons IsOperand (Register 1) [] (lit< tt) (All-nil IsOperand)));
  numbers = lit< tt;
  size = lit≤ tt;
}

set_fits : (mutator : ℕ) → mutator < 65536 → Fits 4096 (Set Shared mutator (Register 0))
set_fits mutator h = record { registers = (tt, lit< tt); numbers = h; size = lit≤ tt }

-- a property of the three commands of a batch holds of the whole batch
batch_has : (P : Command → Type 0) (mutator : ℕ) → P (Nil 0) → P cell → P (Set Shared mutator (Register 0)) → All P (batch mutator)
batch_has P mutator first each last =
    let end : List Command = Set Shared mutator (Register 0) ∷ [] in
    All-cons P (Nil 0) (replicate list_cells cell ++ end) first
    (All-append P (replicate list_cells cell) end (All-replicate P list_cells cell each)
    (All-cons P (Set Shared mutator (Register 0)) [] last (All-nil P)))

batch_fits : (mutator : ℕ) → mutator < 65536 → All (Fits 4096) (batch mutator)
batch_fits mutator h = batch_has (Fits 4096) mutator nil_fits cell_fits (set_fits mutator h)

-- a cell's registers are below 16
cell_names : HasRegistersBelow 16 cell
cell_names = (
  lit< tt,
  All-cons (IsOperandBelow 16) (Register 0) (Register 1 ∷
      []) (lit< tt) (All-cons (IsOperandBelow 16) (Register 1) [] (lit< tt) (All-nil (IsOperandBelow 16))),
)

program_names : (batches mutator : ℕ) → All (IsOf version_1) (bench_program batches mutator)
program_names batches mutator =
    All-repeated (IsOf version_1) batches (batch mutator) (batch_has (IsOf version_1) mutator (lit< tt, tt) (cell_names, tt) ((tt, lit< tt), tt))

length-batch : (mutator : ℕ) → length (batch mutator) ≡ 1026
length-batch mutator = omega (
  arith,
  length-append (replicate list_cells cell) (Set Shared mutator (Register 0) ∷ []),
  length-replicate list_cells cell,
  cells_are,
)

program_fits : (batches mutator : ℕ) → mutator < 65536 → All (Fits 4096) (bench_program batches mutator)
program_fits batches mutator h = All-repeated (Fits 4096) batches (batch mutator) (batch_fits mutator h)

program_is_short : (batches mutator : ℕ) → batches ≤ most_batches → length (bench_program batches mutator) ≤ most_script_bytes
program_is_short batches mutator h = rw (length-repeated batches (batch mutator), length-batch mutator) (omega arith)

-- a property of each mutator's program holds of all programs
each_program : (P : List Command → Type 0) (batches : ℕ) → ((mutator : ℕ) → mutator < 4 → P (bench_program batches mutator)) →
    All P (bench_script batches).threads
each_program P batches h =
    let program : ℕ → List Command = bench_program batches in
    All-cons P (program 0) (program 1 ∷ program 2 ∷ program 3 ∷ []) (h 0 (lit< tt))
    (All-cons P (program 1) (program 2 ∷ program 3 ∷ []) (h 1 (lit< tt))
    (All-cons P (program 2) (program 3 ∷ []) (h 2 (lit< tt))
    (All-cons P (program 3) [] (h 3 (lit< tt)) (All-nil P))))

-- the script is within the limits
pub bench_fits : (batches : ℕ) → FitsScript (bench_script batches)
bench_fits batches = record {
  version = refl;
  config = bench_sizes_fit;
  some_thread = lit≤ tt;
  threads = lit≤ tt;
  total = lit≤ tt;
  commands = each_program (λ program. All (Fits 4096) program) batches (λ mutator h. program_fits batches mutator (omega (arith, h)));
  of_version = each_program (λ program. All (IsOf version_1) program) batches (λ mutator h. program_names batches mutator);
}

-- its programs are short
pub bench_is_short : (batches : ℕ) → batches ≤ most_batches → HasFewCommands (bench_script batches)
bench_is_short batches h = each_program (λ program. length program ≤ most_script_bytes) batches (λ mutator _. program_is_short batches mutator h)

-- a batch has been appended, command by command
pub with_batch : (before begun made after : List Command) (mutator cells : ℕ) → list_cells ≡ cells → begun ≡ before ++ Nil 0 ∷ [] →
    made ≡ begun ++ replicate cells cell → after ≡ made ++ Set Shared mutator (Register 0) ∷ [] → after ≡ before ++ batch mutator
with_batch before begun made after mutator cells count first more last =
    let all : List Command = replicate list_cells cell in
    let end : List Command = Set Shared mutator (Register 0) ∷ [] in
    let same : made ≡ (before ++ Nil 0 ∷ []) ++ all = rw (← count, first) at more in
    last ∙ ap (λ (l : List Command). l ++ end) same ∙ rw (append_assoc, append_assoc) refl

-- four items that are equal to four
pub same_four : {A : Type 0} (a b c d a' b' c' d' : A) → a ≡ a' → b ≡ b' → c ≡ c' → d ≡ d' → a ∷ b ∷ c ∷ d ∷ [] ≡ a' ∷ b' ∷ c' ∷ d' ∷ []
same_four a b c d a' b' c' d' e f g h = cc
