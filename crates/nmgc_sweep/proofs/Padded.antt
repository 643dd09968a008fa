-- An array of names whose last entries may be missing.
use Rattle.nmgc_sweep.proofs.Vocabulary.{ℕ, ◌≡◌, ◌+◌, ◌-◌, ◌<◌, ◌≤◌, ◌∙◌, List, ◌++◌, length, length-append, length-set, append_assoc, set, slice_get, Some, sym, ap, arith, inl, inr, refl, cases_lt, slice_get-get_or, Name}
use Rattle.std.proofs.lemmas.List.{get_or_append_left, get_or-append_right, get_or_past, get_or-replicate, length-replicate, replicate-append-replicate, set-append_left}
use Rattle.std.specs.Prelude.{replicate, slice_index_or}
use Rattle.nmgc_world_spec.specs.World.{shared_name}
use Rattle.nmgc_sweep.specs.NameTable.{padded}

pub padded_length : (limit : ℕ) (entries : List Name) → length entries ≤ limit → length (padded limit entries) ≡ limit
padded_length limit entries few =
    let all = length-append entries (replicate (limit - length entries) shared_name) in
    let rest = length-replicate (limit - length entries) shared_name in
    omega (arith, all, rest, few)

-- an entry that exists is read from the list, and a missing entry is g's name
pub padded_get : (limit : ℕ) (entries : List Name) (entry : ℕ) → length entries ≤ limit → entry < limit →
    slice_get (padded limit entries) entry ≡ Some (slice_index_or entries entry shared_name)
padded_get limit entries entry few low =
    let missing = replicate (limit - length entries) shared_name in
    let size = padded_length limit entries few in
    let read : slice_index_or (padded limit entries) entry shared_name ≡ slice_index_or entries entry shared_name = elim (cases_lt entry (length entries)) [
      | inl there ↦ get_or_append_left entries missing shared_name entry there
      | inr past ↦
          let more : entry - length entries < limit - length entries = omega (arith, low, past) in
          get_or-append_right entries missing (length entries) entry shared_name refl past ∙
          get_or-replicate (limit - length entries) (entry - length entries) shared_name shared_name more ∙
          sym (get_or_past entries entry shared_name past)
    ] in
    slice_get-get_or (padded limit entries) entry shared_name (omega (arith, size, low)) ∙ ap (λ (x : Name). Some x) read

module _ (limit entry missing : ℕ) (name : Name) (old mid : List Name) (many : missing ≡ entry + 1 - length old)
    (is : mid ≡ old ++ replicate missing shared_name) (low : entry < limit) (few : length old ≤ limit) where
  size : length mid ≡ length old + missing
  size =
      ap (λ (l : List Name). length l) is ∙ length-append old (replicate missing shared_name) ∙
      ap (λ (n : ℕ). length old + n) (length-replicate missing shared_name)

  pub set_few : length (set mid entry name) ≤ limit
  set_few = let same = length-set mid entry name in omega (arith, same, size, many, low, few)

  -- the missing entries up to the entry are added, and then the entry is set
  pub padded_set : padded limit (set mid entry name) ≡ set (padded limit old) entry name
  padded_set =
      let rest : ℕ = limit - length mid in
      let there : entry < length mid = omega (arith, size, many) in
      let whole : missing + rest ≡ limit - length old = omega (arith, size, many, low, few) in
      let parts : padded limit old ≡ mid ++ replicate rest shared_name =
      ap (λ (n : ℕ). old ++ replicate n shared_name) (sym whole) ∙
      ap (λ (l : List Name). old ++ l) (sym (replicate-append-replicate missing rest shared_name)) ∙
      sym (append_assoc old (replicate missing shared_name) (replicate rest shared_name)) ∙
      ap (λ (l : List Name). l ++ replicate rest shared_name) (sym is) in
      ap (λ (n : ℕ). set mid entry name ++ replicate (limit - n) shared_name) (length-set mid entry name) ∙
      sym (set-append_left mid (replicate rest shared_name) entry name there) ∙
      ap (λ (l : List Name). set l entry name) (sym parts)
