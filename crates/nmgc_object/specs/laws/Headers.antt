-- The number of fields that an object may have.
use Rattle.std.specs.Prelude.{◌≤◌}
use Rattle.nmgc_object.specs.laws.Vocabulary.{ℕ, arith, Kind, Con, Var, Arr, Thunk, Weak, Stack, Header, IsHeader, HasFields}

few_of : (kind : Kind) (fields : ℕ) → HasFields kind fields → fields ≤ 4094
few_of Con fields h = h
few_of Var fields h = omega arith
few_of Arr fields h = h
few_of Thunk fields h = omega arith
few_of Weak fields h = omega arith
few_of Stack fields h = h

-- a valid header has at most 4,094 fields
pub few_fields : (header : Header) → IsHeader header → header.fields ≤ 4094
few_fields header h = few_of header.kind header.fields h.1
