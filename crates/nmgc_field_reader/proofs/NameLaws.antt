-- A map of names, as the object of each.
use Rattle.std.proofs.Common.{Bool, List, None, Option, Some, [], ap, cond, false, refl, sym, true, ℕ, ◌++◌, ◌∙◌, ◌∷◌, ◌≡◌}
use Rattle.std.specs.Prelude.{nat_eq, ◌||◌}
use Rattle.std.specs.Cmp.Lexicographic.{pointwise}
use Rattle.std.specs.Map.{KeepsOthers, lookup}
use Rattle.std.proofs.lemmas.{Cmp.nat_list_eq_equiv, Slice.Eq.bytes_eq-Decides}
use Rattle.std.specs.Vec.{vec_items}
use Rattle.std.specs.declared.vec.Vec.{Vec}
use Rattle.nmgc_field_reader.specs.FieldLines.{Known, has_name, is_among, known_by, names_of, without}

-- the object of a name in the map
pub same_lookup : {A : Type 0} (entries : List (Vec ℕ A × ℕ)) (word : List ℕ) →
    known_by (names_of entries) word ≡ lookup (λ key. pointwise nat_eq word (vec_items key)) entries
same_lookup [] word = refl
same_lookup (e ∷ entries) word = ap (λ (o : Option ℕ). cond (pointwise nat_eq word (vec_items e.0)) (Some e.1) o) (same_lookup entries word)

-- the objects after an entry of a name came or went
pub named_is : {A : Type 0} (before after : List (Vec ℕ A × ℕ)) (name : List ℕ) (object : Option ℕ) (word : List ℕ) →
    lookup (λ key. pointwise nat_eq word (vec_items key)) after ≡
    cond (pointwise nat_eq name word) object (lookup (λ key. pointwise nat_eq word (vec_items key)) before) →
    known_by (names_of after) word ≡ has_name name object (known_by (names_of before)) word
named_is before after name object word e =
    same_lookup after word ∙ e ∙ ap (λ (o : Option ℕ). cond (pointwise nat_eq name word) object o) (sym (same_lookup before word))

-- an entry of this name came or went, and the other names keep theirs
module _ {A : Type 0} (before after : List (Vec ℕ A × ℕ)) (name : List ℕ) (object : Option ℕ)
    (own : lookup (λ key. pointwise nat_eq name (vec_items key)) after ≡ object)
    (others : KeepsOthers (λ x y. pointwise nat_eq (vec_items x) (vec_items y)) (λ key. pointwise nat_eq name (vec_items key)) before after) where
  changed : (word : List ℕ) (same : Bool) → pointwise nat_eq name word ≡ same →
      lookup (λ key. pointwise nat_eq word (vec_items key)) after ≡ cond same object (lookup (λ key. pointwise nat_eq word (vec_items key)) before)
  unfolding KeepsOthers
  changed word true e =
      let is : name ≡ word = (bytes_eq-Decides name word).0 e in
      ap (λ (w : List ℕ). lookup (λ key. pointwise nat_eq w (vec_items key)) after) (sym is) ∙ own
  changed word false e = others (λ key. pointwise nat_eq word (vec_items key)) (λ x y t. nat_list_eq_equiv.congr word (vec_items x) (vec_items y) t)
      (λ k t. nat_list_eq_equiv.symm word (vec_items k) ∙ (sym (nat_list_eq_equiv.congr name (vec_items k) word t) ∙ e))

  pub renamed : (word : List ℕ) → known_by (names_of after) word ≡ has_name name object (known_by (names_of before)) word
  renamed word = named_is before after name object word (changed word (pointwise nat_eq name word) refl)

or-false : (b : Bool) → (b || false) ≡ b
or-false true = refl
or-false false = refl

both_same : (b : Bool) (o : Option ℕ) → o ≡ cond b o o
both_same true o = refl
both_same false o = refl

more_by : (b : Bool) (name : List ℕ) (names : List (List ℕ)) (known : Known) (word : List ℕ) →
    without (names ++ name ∷ []) known word ≡ has_name name None (without names known) word →
    cond (b || is_among (names ++ name ∷ []) word) None (known word) ≡
    cond (pointwise nat_eq name word) None (cond (b || is_among names word) None (known word))
more_by true name names known word rest = both_same (pointwise nat_eq name word) None
more_by false name names known word rest = rest

-- names that were forgotten one after the other
pub without_more : (names : List (List ℕ)) (name : List ℕ) (known : Known) (word : List ℕ) →
    without (names ++ name ∷ []) known word ≡ has_name name None (without names known) word
without_more [] name known word = ap (λ (b : Bool). cond b None (known word)) (or-false (pointwise nat_eq name word))
without_more (x ∷ names) name known word = more_by (pointwise nat_eq x word) name names known word (without_more names name known word)

pub without_one_more : (names : List (List ℕ)) (name : List ℕ) (first before after : List (List ℕ × ℕ)) →
    ((word : List ℕ) → known_by before word ≡ without names (known_by first) word) →
    ((word : List ℕ) → known_by after word ≡ has_name name None (known_by before) word) →
    (word : List ℕ) → known_by after word ≡ without (names ++ name ∷ []) (known_by first) word
without_one_more names name first before after were is word =
    is word ∙ ap (λ (o : Option ℕ). cond (pointwise nat_eq name word) None o) (were word) ∙ sym (without_more names name (known_by first) word)
