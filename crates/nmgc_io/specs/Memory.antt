-- The view that contracts have of a source and a sink in memory.
use Rattle.std.specs.Prelude.{◌≡◌, ℕ, ◌+◌, List, Result, OnErr, IfOk}
use Rattle.nmgc_io.specs.{Text.next, Streams.CountsErr}

-- a source in memory: the bytes left, the most bytes that a call gives, the numbers of the calls that fail, the number of
-- calls and the number of failed calls
pub record Supply : Type 0 where
  pub bytes : List ℕ
  pub chunk : ℕ
  pub failing : List ℕ
  pub calls : ℕ
  pub faults : ℕ

-- a call of a source in memory, which counts calls and faults. At a fault the bytes stay. Everything else always stays.
pub record Reads {E : Type 0} (old new : Supply) (result : Result ℕ E) : Type 0 where
  pub chunk : new.chunk ≡ old.chunk
  pub failing : new.failing ≡ old.failing
  pub calls : new.calls ≡ next old.calls
  pub faults : CountsErr old.faults new.faults result
  pub kept : OnErr result (new.bytes ≡ old.bytes)

-- a sink in memory: the bytes taken, the most bytes that a call takes, the numbers of the calls that fail, the room left in
-- bytes. Also the number of calls and the number of failed calls
pub record Store : Type 0 where
  pub bytes : List ℕ
  pub chunk : ℕ
  pub failing : List ℕ
  pub room : ℕ
  pub calls : ℕ
  pub faults : ℕ

-- a call of a sink in memory, which counts calls and faults. The bytes taken use up room. At a fault the bytes and the room
-- stay. Everything else always stays.
pub record Writes {E : Type 0} (old new : Store) (result : Result ℕ E) : Type 0 where
  pub chunk : new.chunk ≡ old.chunk
  pub failing : new.failing ≡ old.failing
  pub calls : new.calls ≡ next old.calls
  pub faults : CountsErr old.faults new.faults result
  pub room : IfOk result (λ n. new.room + n ≡ old.room)
  pub kept : OnErr result ((new.bytes ≡ old.bytes) × (new.room ≡ old.room))
