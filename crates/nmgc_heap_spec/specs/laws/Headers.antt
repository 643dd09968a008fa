-- Valid headers with one word are one header.
use Rattle.std.specs.Prelude.{◌≡◌, ◌+◌, ◌*◌, ◌<◌}
use Rattle.nmgc_heap_spec.specs.laws.Vocabulary.{ℕ, refl, arith, Kind, kind_number, header_word, IsHeader, HasTag, Header}
use Rattle.nmgc_world_spec.specs.declared.node.Kind.TheVariants.{Con, Var, Arr, Thunk, Weak, Stack}

small_tag : (k : Kind) (tag : ℕ) → HasTag k tag → tag < 256
small_tag Con tag h = h
small_tag Var tag h = omega arith
small_tag Arr tag h = omega arith
small_tag Thunk tag h = omega arith
small_tag Weak tag h = omega arith
small_tag Stack tag h = omega arith

small_kind : (k : Kind) → kind_number k < 8
small_kind Con = omega arith
small_kind Var = omega arith
small_kind Arr = omega arith
small_kind Thunk = omega arith
small_kind Weak = omega arith
small_kind Stack = omega arith

-- kinds have different numbers
same_kind : (a b : Kind) → kind_number a ≡ kind_number b → a ≡ b
same_kind Con Con e = refl
same_kind Con _ e = absurd (omega arith)
same_kind Var Var e = refl
same_kind Var _ e = absurd (omega arith)
same_kind Arr Arr e = refl
same_kind Arr _ e = absurd (omega arith)
same_kind Thunk Thunk e = refl
same_kind Thunk _ e = absurd (omega arith)
same_kind Weak Weak e = refl
same_kind Weak _ e = absurd (omega arith)
same_kind Stack Stack e = refl
same_kind Stack _ e = absurd (omega arith)

parts_of : (k t f k' t' f' : ℕ) → k < 8 → k' < 8 → t < 256 → t' < 256 → k + 8 * t + 2048 * f ≡ k' + 8 * t' + 2048 * f' → (k ≡ k') × (t ≡ t') × (f ≡ f')
parts_of k t f k' t' f' a b c d e = (omega arith, omega arith, omega arith)

pub same_header : (a b : Header) → IsHeader a → IsHeader b → header_word a ≡ header_word b → a ≡ b
same_header a b ha hb e =
    let p = parts_of (kind_number a.kind) a.tag a.fields (kind_number b.kind) b.tag b.fields (small_kind a.kind) (small_kind b.kind)
    (small_tag a.kind a.tag ha.0) (small_tag b.kind b.tag hb.0) e in
    let k = same_kind a.kind b.kind p.0 in
    λ i. record { kind = k i; tag = p.1 i; fields = p.2 i }
