-- Facts from the limits of a script's version that hold for every version.
use Rattle.std.proofs.{Common.◌≡◌, Common.◌≤◌, Common.ℕ, Common.List, Common.length, Common.refl, Common.sym, Common.ap, Common.subst, Common.arith, Common.inl, Common.inr, Common.lit≤, lemmas.Bool.Decides.eqb_tells, lemmas.List.Elements.All-weaker}
use Rattle.std.specs.{Prelude.All, Prelude.Bool, Prelude.true, Prelude.false, Prelude.[], Prelude.◌∷◌, Prelude.codes, Prelude.◌==◌, Prelude.if◌then◌else◌, Str.bytes_eq}
use lib.Count.{ones}
use Rattle.nmgc_limits.specs.{Limits.most_heap_words, Limits.most_script_bytes, Limits.most_segments, declared.mutators.TheConstants.REGISTERS, declared.mutators.TheConstants.MAKERS}
use Rattle.nmgc_world_spec.specs.{declared.command.Operand.Operand, declared.command.Operand.TheVariants.Register, declared.command.Operand.TheVariants.Shared, declared.command.Command.Command, declared.command.Command.TheVariants.Num, declared.command.Command.TheVariants.Nil, declared.command.Command.TheVariants.Mov, declared.command.Command.TheVariants.Con, declared.command.Command.TheVariants.Var, declared.command.Command.TheVariants.Arr, declared.command.Command.TheVariants.Rec, declared.command.Command.TheVariants.Thunk, declared.command.Command.TheVariants.Weak, declared.command.Command.TheVariants.Stack, declared.command.Command.TheVariants.Get, declared.command.Command.TheVariants.Tag, declared.command.Command.TheVariants.Set, declared.command.Command.TheVariants.Cas, declared.command.Command.TheVariants.Update, declared.command.Command.TheVariants.Force, declared.command.Command.TheVariants.Push, declared.command.Command.TheVariants.Pop, declared.command.Command.TheVariants.Deref, declared.command.Command.TheVariants.Finalise, declared.command.Command.TheVariants.NextFin, declared.command.Command.TheVariants.Show, declared.command.Command.TheVariants.Same, declared.command.Command.TheVariants.Yield, declared.command.Command.TheVariants.Collect, declared.command.Command.TheVariants.Full, Known.IsOperand, World.IsOperandBelow, World.HasRegistersBelow, Known.HasRegisters}
use Rattle.nmgc_script.specs.{declared.script.Script.Script, declared.version.Version.Version, Spelling.FitsConfig, Spelling.FitsScript, Spelling.IsOf, Spelling.IsSince, Spelling.IsVersion, Spelling.lines_bytes, Spelling.upgraded, Spelling.version_1, Spelling.version_2, Spelling.version_3, Spelling.version_of, Parts.bench_config, Parts.total_words}

-- the version names at least one register and one thread, and only registers and threads that exist; its heap is no larger
-- than a heap may be
pub record IsUsable (v : Version) : Type 0 where
  pub number : v.number ≤ 3
  pub some_register : 1 ≤ v.registers
  pub registers : v.registers ≤ REGISTERS
  pub some_thread : 1 ≤ v.threads
  pub threads : v.threads ≤ MAKERS
  pub segments : v.segments ≤ most_segments
  pub heap_words : v.heap_words ≤ most_heap_words

pub version_is : (v : Version) → IsVersion v → version_of v.number ≡ v
version_is v (inl e) = subst (λ (w : Version). version_of w.number ≡ w) (sym e) refl
version_is v (inr (inl e)) = subst (λ (w : Version). version_of w.number ≡ w) (sym e) refl
version_is v (inr (inr e)) = subst (λ (w : Version). version_of w.number ≡ w) (sym e) refl

by_limits : (v : Version) → v.number ≤ 3 → 1 ≤ v.registers → v.registers ≤ REGISTERS → 1 ≤ v.threads → v.threads ≤ MAKERS → v.segments ≤ most_segments →
    v.heap_words ≤ most_heap_words → IsUsable v
by_limits v a b c d e f g = record { number = a; some_register = b; registers = c; some_thread = d; threads = e; segments = f; heap_words = g }

pub usable_number : (n : ℕ) → IsUsable (version_of n)
usable_number n = either (n == 1) (n == 2)
  where
    either : (b d : Bool) → IsUsable (if b then version_1 else (if d then version_2 else version_3))
    either true d = by_limits version_1 (lit≤ tt) (lit≤ tt) (lit≤ tt) (lit≤ tt) (lit≤ tt) (lit≤ tt) (lit≤ tt)
    either false true = by_limits version_2 (lit≤ tt) (lit≤ tt) (lit≤ tt) (lit≤ tt) (lit≤ tt) (lit≤ tt) (lit≤ tt)
    either false false = by_limits version_3 (lit≤ tt) (lit≤ tt) (lit≤ tt) (lit≤ tt) (lit≤ tt) (lit≤ tt) (lit≤ tt)

pub usable_version : (v : Version) → IsVersion v → IsUsable v
usable_version v is = subst IsUsable (version_is v is) (usable_number v.number)

-- a register below a bound is below every greater bound
module _ (b : ℕ) (le : b ≤ REGISTERS) where
  operand_wider : (o : Operand) → IsOperandBelow b o → IsOperand o
  operand_wider (Register r) h = omega (arith, h, le)
  operand_wider Shared h = tt

  operands_wider : (os : List Operand) → All (IsOperandBelow b) os → All IsOperand os
  operands_wider os h = All-weaker (IsOperandBelow b) IsOperand operand_wider os h

  pub registers_wider : (c : Command) → HasRegistersBelow b c → HasRegisters c
  registers_wider (Num dest number) h = omega (arith, h, le)
  registers_wider (Nil dest) h = omega (arith, h, le)
  registers_wider (Mov dest value) h = (omega (arith, h.0, le), operand_wider value h.1)
  registers_wider (Con dest tag fields) h = (omega (arith, h.0, le), operands_wider fields h.1)
  registers_wider (Var dest value) h = (omega (arith, h.0, le), operand_wider value h.1)
  registers_wider (Arr dest count value) h = (omega (arith, h.0, le), operand_wider value h.1)
  registers_wider (Rec dest fields) h = (omega (arith, h.0, le), operands_wider fields h.1)
  registers_wider (Thunk dest free) h = (omega (arith, h.0, le), operands_wider free h.1)
  registers_wider (Weak dest key value finaliser) h = (omega (arith, h.0, le), operand_wider key h.1, operand_wider value h.2, operand_wider finaliser h.3)
  registers_wider (Stack dest size) h = omega (arith, h, le)
  registers_wider (Get dest object index) h = (omega (arith, h.0, le), operand_wider object h.1)
  registers_wider (Tag dest object) h = (omega (arith, h.0, le), operand_wider object h.1)
  registers_wider (Set object index value) h = (operand_wider object h.0, operand_wider value h.1)
  registers_wider (Cas object index expected value) h = (operand_wider object h.0, operand_wider expected h.1, operand_wider value h.2)
  registers_wider (Update object value) h = (operand_wider object h.0, operand_wider value h.1)
  registers_wider (Force dest object) h = (omega (arith, h.0, le), operand_wider object h.1)
  registers_wider (Push object value) h = (operand_wider object h.0, operand_wider value h.1)
  registers_wider (Pop dest object) h = (omega (arith, h.0, le), operand_wider object h.1)
  registers_wider (Deref dest object) h = (omega (arith, h.0, le), operand_wider object h.1)
  registers_wider (Finalise dest object) h = (omega (arith, h.0, le), operand_wider object h.1)
  registers_wider (NextFin dest) h = omega (arith, h, le)
  registers_wider (Show value) h = operand_wider value h
  registers_wider (Same left right) h = (operand_wider left h.0, operand_wider right h.1)
  registers_wider Yield h = tt
  registers_wider Collect h = tt
  registers_wider Full h = tt

-- the number of a script's threads is at most the greatest number of mutators
pub threads_few : (s : Script) → FitsScript s → length s.threads ≤ MAKERS
threads_few s fits = let usable = usable_number s.version in omega (arith, fits.threads, usable.threads)

-- a script's heap has at most the words, and at most the segments, that a heap may have
pub total_few : (s : Script) → FitsScript s → total_words s.config (length s.threads) ≤ most_heap_words
total_few s fits = let usable = usable_number s.version in omega (arith, fits.total, usable.heap_words)

pub segments_few : (s : Script) → FitsScript s → s.config.segments ≤ most_segments
segments_few s fits = let usable = usable_number s.version in omega (arith, fits.config.segments, usable.segments)

-- the script with this version
abbrev pub numbered : ℕ → Script → Script
numbered n s = record { version = n; config = s.config; threads = s.threads }

-- the sizes of the bench's heap are within the limits of every version
pub bench_sizes_fit : FitsConfig 65536 bench_config
unfolding ones
bench_sizes_fit = record {
  some_segments = lit≤ tt;
  segments = lit≤ tt;
  words = record { power = refl; least = lit≤ tt; most = lit≤ tt };
  some_nursery = lit≤ tt;
  nursery = lit≤ tt;
  some_slice = lit≤ tt;
  slice = lit≤ tt;
  some_quota = lit≤ tt;
  quota = lit≤ tt;
  trigger = lit≤ tt;
}

-- a command of version 1 is one of version 2, and each command is one of version 3
since_first : (c : Command) → IsSince 1 c → IsSince 2 c
since_first (Rec dest fields) s = absurd (omega (arith, s))
since_first (Tag dest object) s = absurd (omega (arith, s))
since_first _ s = tt

pub since_last : (c : Command) → IsSince 3 c
since_last (Rec dest fields) = lit≤ tt
since_last (Tag dest object) = lit≤ tt
since_last _ = tt

-- a script of version 1 that is within its limits is within the limits of version 2
first_fits : (s : Script) → FitsScript s → version_of s.version ≡ version_1 → FitsScript (numbered 2 s)
first_fits s fits first = record {
  version = refl;
  config = subst (λ (v : Version). FitsConfig v.segments s.config) first fits.config;
  some_thread = fits.some_thread;
  threads = threads_few s fits;
  total = subst (λ (v : Version). total_words s.config (length s.threads) ≤ v.heap_words) first fits.total;
  commands = fits.commands;
  of_version = All-weaker (λ program. All (IsOf version_1) program) (λ program. All (IsOf version_2) program) (λ program h.
      All-weaker (IsOf version_1) (IsOf version_2) (λ c f. (registers_wider 16 (lit≤ tt) c f.0, since_first c f.1)) program h) s.threads (subst (λ (v : Version).
      All (λ program. All (IsOf v) program) s.threads) first fits.of_version);
}

-- the upgrade of a script within its limits is within its own limits
pub upgraded_fits : (s : Script) → FitsScript s → FitsScript (upgraded s)
upgraded_fits s fits = elim (eqb_tells s.version 1) [
  | inl p ↦
      let first : version_of s.version ≡ version_1 =
      ap (λ (b : Bool). if b then version_1 else (if s.version == 2 then version_2 else version_3)) p.0 in
      subst (λ (b : Bool). FitsScript (numbered (if b then 2 else s.version) s)) (sym p.0) (first_fits s fits first)
  | inr p ↦ subst (λ (b : Bool). FitsScript (numbered (if b then 2 else s.version) s)) (sym p.0) fits
]

limit_few : (b : Bool) → (if b then version_3.bytes else version_1.bytes) ≤ most_script_bytes
limit_few true = lit≤ tt
limit_few false = lit≤ tt

-- no script has more bytes than a script may have
pub lines_few : (lines : List (ℕ × List ℕ)) → lines_bytes lines ≤ most_script_bytes
unfolding lines_bytes
lines_few [] = lit≤ tt
lines_few (line ∷ lines) = limit_few (bytes_eq line.1 (codes "nmgc 3"))
