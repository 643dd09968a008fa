-- A node within a script's limits has a valid header, and an object that fits a segment; its parts lie where parts lie.
use Rattle.std.specs.Prelude.{◌≡◌, ◌+◌, ◌≤◌}
use Rattle.nmgc_heap_spec.specs.laws.Vocabulary.{Contains, ℕ, length, refl, sym, ap, subst, ◌∙◌, arith, inl, inr, Some, Name, Node, Con, Var, Arr, Thunk, Weak, Stack, node_of, IsShared, shared_name, name_cases, at_some, header_word, IsHeader, HEADER_WORDS, IsNodeWithin, words_of, header_of, size_of, slots_of, HasSlots, LiesWell, HeaderIsShape, NodeIsWritten, WorldIsWritten, PartsAreWritten, slice_index}
use Rattle.nmgc_heap_spec.specs.laws.Meanings.{placed_at}

pub header_is_shape : HeaderIsShape
header_is_shape (Con tag values) = (refl, refl, refl, refl, refl)
header_is_shape (Var v) = (refl, refl, refl, refl, refl)
header_is_shape (Arr values) = (refl, refl, refl, refl, refl)
header_is_shape (Thunk free result) = (refl, refl, refl, refl, refl)
header_is_shape (Weak parts) = (refl, refl, refl, refl, refl)
header_is_shape (Stack depth values) = (refl, refl, refl, refl, refl)

by_kind : (words : ℕ) (name : Name) (node : Node) → words ≤ 4096 → size_of node ≤ words → IsNodeWithin words name node → IsHeader (header_of node)
by_kind words name (Con tag values) most size h = (h.shape, omega (arith, most, size))
by_kind words name (Var v) most size h = (refl, refl)
by_kind words name (Arr values) most size h = (refl, omega (arith, most, size))
by_kind words name (Thunk free result) most size h = let few : length free + 1 ≤ 9 = h.shape in (refl, (omega arith, few))
by_kind words name (Weak parts) most size h = (refl, refl)
by_kind words name (Stack depth values) most size h = (refl, omega (arith, most, size))

pub node_is_written : NodeIsWritten
node_is_written words name node segment other h =
    let same : size_of node ≡ words_of node = (header_is_shape node).4 in
    let size : size_of node ≤ words = subst (λ (k : ℕ). k ≤ words) (sym same) (h.size other) in
    (by_kind words name node segment.most size h, size)

-- g is an array with sixteen slots
shared_is_written : (node : Node) → IsShared node → IsHeader (header_of node)
shared_is_written (Arr values) h = (refl, omega (arith, h))
shared_is_written (Con tag values) h = absurd h
shared_is_written (Var v) h = absurd h
shared_is_written (Thunk free result) h = absurd h
shared_is_written (Weak parts) h = absurd h
shared_is_written (Stack depth values) h = absurd h

pub world_is_written : WorldIsWritten
world_is_written words w segment world h name node e =
    let within : IsNodeWithin words name node = at_some (node_of w name) node (IsNodeWithin words name) e (h.nodes name) in
    elim (name_cases name shared_name) [
      | inl same ↦
          let there : Some w.shared ≡ Some node = ap (λ (n : Name). node_of w n) (sym same) ∙ e in
          let is : w.shared ≡ node = cc in
          (shared_is_written node (subst IsShared is world.shared), λ other. absurd (other same))
      | inr other ↦ ((node_is_written words name node segment other within).0, λ o. (node_is_written words name node segment other within).1)
    ]

pub parts_are_written : (K : Name → Node → Type 0) → PartsAreWritten K
parts_are_written K layout earlier places w words r p there = (
  (r.named p there).name,
  λ node tracked is.
      let a = placed_at layout earlier K places w words r p.name node p.at tracked is there in
      record {
        header = subst (λ (k : ℕ). slice_index words k ≡ header_word (header_of node)) a.1 a.0.object.header;
        fields = subst (λ (k : ℕ). HasSlots (Contains places) words (k + HEADER_WORDS) (slots_of node)) a.1 a.0.fields;
        lies = subst (λ (k : ℕ). LiesWell layout (record { at = k; name = p.name }) (size_of node)) a.1 a.0.object.lies;
      },
)
