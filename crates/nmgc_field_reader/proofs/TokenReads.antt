-- Tokens of format 3 are read as they are spelled, and in no other way.
use Rattle.std.proofs.Common.{◌≡◌, ◌≢◌, ◌<◌, ◌≤◌, ◌+◌, ◌-◌, ◌%◌, ◌^◌, ◌⊎◌, ℕ, List, [], ◌∷◌, ◌++◌, map, length, refl, sym, ap, subst, ◌∙◌, arith, inl, inr, Bool, true, false, not, eqb, leb, decimal, codes, Option, Some, None, ◌&&◌}
use Rattle.std.proofs.lemmas.{Bool.and_from, Bool.and_parts, Bool.cases_Bool, Bool.false≢true, Bool.le-leb, Bool.leb-true, Bool.ne_eqb, Fmt.decimal_by_steps, Fmt.decimal_nonempty, List.Elements.All-from_recursion, List.Elements.recursion_from_All, Option.none-some, Option.same_Some, Slice.Eq.bytes_eq-Decides}
use Rattle.std.specs.{List.AllByRecursion, Prelude.All, Prelude.IsTrue, Prelude.◌↔◌, Str.bytes_eq}
use Rattle.nmgc_lists.specs.laws.Truths.{chosen, never, same_test, unmarked}
use Rattle.nmgc_field_checker.specs.{declared.event.Actor.Actor, Marking.actor}
use Rattle.nmgc_field_reader.specs.{FieldLines.AreNames, FieldLines.AreValues, FieldLines.IsActor, FieldLines.IsMutator, FieldLines.IsName, FieldLines.IsPrinted, FieldLines.IsValue, FieldLines.Known, FieldLines.object_at, FieldReading.◌>>=◌, FieldReading.actor_at, FieldReading.are_printed, FieldReading.each_at, FieldReading.is_name, FieldReading.mutator_at, FieldReading.no_objects_at, FieldReading.number_at, FieldReading.object_named, FieldReading.objects_at, FieldReading.value_named}
use Rattle.nmgc_field_reader.proofs.NumberReads.{bind_some, guard_some, number_again, number_takes}
use Rattle.nmgc_field_reader.specs.FieldLines as lines

-- TEXTS

abbrev pub is_word : (word text : List ℕ) → bytes_eq word text ≡ true → word ≡ text
is_word word text e = (bytes_eq-Decides word text).0 e

pub other_word : (word text : List ℕ) → word ≢ text → bytes_eq word text ≡ false
other_word word text other = elim (cases_Bool (bytes_eq word text)) [
  | inl t ↦ absurd (other (is_word word text t))
  | inr f ↦ f
]

-- a token with digits only
abbrev IsDigits : List ℕ → Type 0
IsDigits word = AllByRecursion (λ b. (48 ≤ b) × (b ≤ 57)) word

digits_append : (a b : List ℕ) → IsDigits a → IsDigits b → IsDigits (a ++ b)
digits_append [] b h k = k
digits_append (x ∷ a) b h k = (h.0, digits_append a b h.1 k)

decimal_digits : (n : ℕ) → n < 2 ^ 64 → IsDigits (decimal n)
decimal_digits n fits = decimal_by_steps (λ m ds. IsDigits ds) (λ m lt. ((omega arith, omega arith), tt)) (λ m ds le h.
    digits_append ds ((48 + m % 10) ∷ []) h ((omega arith, omega arith), tt)) n fits

-- a text that doesn't begin with a digit
abbrev pub NoDigit : List ℕ → Type 0
NoDigit [] = ⊥
NoDigit (c ∷ rest) = (c < 48) ⊎ (57 < c)

-- no number's text is such a text
pub no_decimal : (n : ℕ) (text : List ℕ) → n < 2 ^ 64 → NoDigit text → decimal n ≢ text
no_decimal n [] fits far e = far
no_decimal n (c ∷ rest) fits far e =
    let d : IsDigits (c ∷ rest) = subst IsDigits e (decimal_digits n fits) in
    let low : 48 ≤ c = d.0.0 in
    let high : c ≤ 57 = d.0.1 in
    elim far [ inl a ↦ (let l : c < 48 = a in omega arith) | inr b ↦ (let g : 57 < c = b in omega arith) ]

-- MUTATORS AND ACTORS

pub mutator_takes : (word : List ℕ) (a : Actor) → mutator_at word ≡ Some a → IsMutator word a
unfolding mutator_at
mutator_takes word a e =
    let b = bind_some (number_at (2 ^ 62 - 1) word) (λ m. Some (actor (m + 1))) a e in
    let n = number_takes (2 ^ 62 - 1) word b.0 b.1 in
    record { number = b.0; small = (let le = n.1 in omega arith); word_is = n.0; actor_is = sym (same_Some (actor (b.0 + 1)) a b.2) }

number_actor : (n : ℕ) → n < 2 ^ 62 → mutator_at (decimal n) ≡ Some (actor (n + 1))
unfolding mutator_at
number_actor n lt = rw (number_again (2 ^ 62 - 1) n (omega arith) (omega arith)) refl

pub mutator_again : (word : List ℕ) (a : Actor) → IsMutator word a → mutator_at word ≡ Some a
mutator_again word a i = ap mutator_at i.word_is ∙ number_actor i.number i.small ∙ ap Some (sym i.actor_is)

-- no mutator's token is such a text
pub no_mutator : (word text : List ℕ) (a : Actor) → IsMutator word a → NoDigit text → bytes_eq word text ≡ false
no_mutator word text a i far = other_word word text (λ e. no_decimal i.number text (let lt = i.small in omega arith) far (sym i.word_is ∙ e))

-- a mutator isn't the runtime itself
pub mutator_number : (word : List ℕ) (a : Actor) → IsMutator word a → eqb a.number 0 ≡ false
mutator_number word a i = ne_eqb a.number 0 (λ e.
    let n : a.number ≡ i.number + 1 = ap (λ (x : Actor). x.number) i.actor_is in
    omega arith)

pub actor_takes : (word : List ℕ) (a : Actor) → actor_at word ≡ Some a → IsActor word a
unfolding actor_at
actor_takes word a e = elim (chosen (bytes_eq word (codes "-")) (Some (actor 0)) (mutator_at word) (Some a) e) [
  | inl p ↦
      let is : word ≡ codes "-" = is_word word (codes "-") p.0 in
      subst (λ (w : List ℕ). IsActor w a) (sym is) (subst (IsActor (codes "-")) (same_Some (actor 0) a p.1) lines.runtime)
  | inr p ↦ lines.mutator word a (mutator_takes word a p.1)
]

pub actor_again : (word : List ℕ) (a : Actor) → IsActor word a → actor_at word ≡ Some a
unfolding actor_at
actor_again word a lines.runtime = refl
actor_again word a (lines.mutator w b i) = rw (no_mutator word (codes "-") a i (inl (omega arith))) (mutator_again word a i)

-- an actor with another number than the runtime's is a mutator
pub no_runtime : (word : List ℕ) (a : Actor) → IsActor word a → eqb a.number 0 ≡ false → IsMutator word a
no_runtime word a lines.runtime other = absurd (false≢true (sym other))
no_runtime word a (lines.mutator w b i) other = i

-- NAMES

printed_takes : (word : List ℕ) → are_printed word ≡ true → AllByRecursion IsPrinted word
printed_takes [] e = tt
printed_takes (b ∷ word) e =
    let p = and_parts (leb 33 b && leb b 126) (are_printed word) e in
    let q = and_parts (leb 33 b) (leb b 126) p.0 in
    ((leb-true 33 b q.0, leb-true b 126 q.1), printed_takes word p.1)

printed_again : (word : List ℕ) → AllByRecursion IsPrinted word → are_printed word ≡ true
printed_again [] h = refl
printed_again (b ∷ word) h =
    and_from (leb 33 b && leb b 126) (are_printed word) (and_from (leb 33 b) (leb b 126) (le-leb 33 b h.0.0) (le-leb b 126 h.0.1)) (printed_again word h.1)

pub name_takes : (word : List ℕ) → is_name word ≡ true → IsName word
unfolding is_name
name_takes word e =
    let p = and_parts (leb 1 (length word) && leb (length word) 64) (are_printed word && not (bytes_eq word (codes "-"))) e in
    let q = and_parts (leb 1 (length word)) (leb (length word) 64) p.0 in
    let r = and_parts (are_printed word) (not (bytes_eq word (codes "-"))) p.1 in
    record {
      some = leb-true 1 (length word) q.0;
      few = leb-true (length word) 64 q.1;
      printed = All-from_recursion IsPrinted word (printed_takes word r.0);
      other = λ is. false≢true (sym (unmarked (bytes_eq word (codes "-")) r.1) ∙ (bytes_eq-Decides word (codes "-")).1 is);
    }

pub name_again : (word : List ℕ) → IsName word → is_name word ≡ true
unfolding is_name
name_again word i =
    and_from (leb 1 (length word) && leb (length word) 64) (are_printed word && not (bytes_eq word (codes "-")))
    (and_from (leb 1 (length word)) (leb (length word) 64) (le-leb 1 (length word) i.some) (le-leb (length word) 64 i.few))
    (and_from (are_printed word) (not (bytes_eq word (codes "-"))) (printed_again word (recursion_from_All IsPrinted word i.printed))
    (ap not (other_word word (codes "-") i.other)))

true_is : (r : Bool) → IsTrue r → r ≡ true
true_is true t = refl
true_is false t = never t

is_true : (r : Bool) → r ≡ true → IsTrue r
is_true true e = refl
is_true false e = absurd (false≢true e)

-- the outcome of a test of a name
pub name_tested : (word : List ℕ) (r : Bool) → (IsTrue r ↔ IsName word) → r ≡ is_name word
name_tested word r is = same_test r (is_name word) (λ e. name_again word (is.0 (is_true r e))) (λ e. true_is r (is.1 (name_takes word e)))

-- OBJECTS AND VALUES

module _ (known : Known) where
  pub object_takes : (word : List ℕ) (object : ℕ) → object_named known word ≡ Some object → IsName word × (object ≡ object_at known word)
  unfolding object_named
  object_takes word object e =
      let g = guard_some (is_name word) (Some (object_at known word)) object e in
      (name_takes word g.0, sym (same_Some (object_at known word) object g.1))

  pub object_again : (word : List ℕ) → IsName word → object_named known word ≡ Some (object_at known word)
  unfolding object_named
  object_again word i = rw (name_again word i) refl

  value_takes : (word : List ℕ) (val : Option ℕ) → value_named known word ≡ Some val → IsValue known word val
  unfolding value_named
  value_takes word val e = elim (chosen (bytes_eq word (codes "-")) (Some None) (object_named known word >>= λ object. Some (Some object)) (Some val) e) [
    | inl p ↦
        let is : word ≡ codes "-" = is_word word (codes "-") p.0 in
        subst (λ (w : List ℕ). IsValue known w val) (sym is) (subst (IsValue known (codes "-")) (same_Some None val p.1) lines.nothing)
    | inr p ↦
        let b = bind_some (object_named known word) (λ object. Some (Some object)) val p.1 in
        let o = object_takes word b.0 b.1 in
        subst (IsValue known word) (ap Some (sym o.1) ∙ same_Some (Some b.0) val b.2) (lines.name word o.0)
  ]

  value_again : (word : List ℕ) (val : Option ℕ) → IsValue known word val → value_named known word ≡ Some val
  unfolding value_named
  value_again word val lines.nothing = refl
  value_again word val (lines.name w i) = rw (other_word word (codes "-") i.other, object_again word i) refl

  pub values_take : (words : List (List ℕ)) (values : List (Option ℕ)) → each_at (value_named known) words ≡ Some values → AreValues known words values
  unfolding each_at
  values_take [] values e = subst (AreValues known []) (same_Some [] values e) lines.none
  values_take (w ∷ ws) values e =
      let b = bind_some (value_named known w) (λ first. each_at (value_named known) ws >>= λ others. Some (first ∷ others)) values e in
      let c = bind_some (each_at (value_named known) ws) (λ others. Some (b.0 ∷ others)) values b.2 in
      subst (AreValues known (w ∷ ws)) (same_Some (b.0 ∷ c.0) values c.2) (lines.more w b.0 ws c.0 (value_takes w b.0 b.1) (values_take ws c.0 c.1))

  pub values_again : (words : List (List ℕ)) (values : List (Option ℕ)) → AreValues known words values → each_at (value_named known) words ≡ Some values
  unfolding each_at
  values_again words values lines.none = refl
  values_again words values (lines.more w v ws vs i is) = rw (value_again w v i, values_again ws vs is) refl

  pub as_many : (words : List (List ℕ)) (values : List (Option ℕ)) → AreValues known words values → length words ≡ length values
  as_many words values lines.none = refl
  as_many words values (lines.more w v ws vs i is) = let rest : length ws ≡ length vs = as_many ws vs is in omega arith

  each_takes : (words : List (List ℕ)) (objects : List ℕ) → each_at (object_named known) words ≡ Some objects →
      AllByRecursion IsName words × (map (object_at known) words ≡ objects)
  unfolding each_at
  each_takes [] objects e = (tt, same_Some [] objects e)
  each_takes (w ∷ ws) objects e =
      let b = bind_some (object_named known w) (λ first. each_at (object_named known) ws >>= λ others. Some (first ∷ others)) objects e in
      let c = bind_some (each_at (object_named known) ws) (λ others. Some (b.0 ∷ others)) objects b.2 in
      let o = object_takes w b.0 b.1 in
      let rest = each_takes ws c.0 c.1 in
      ((o.0, rest.0), ap (λ (n : ℕ). n ∷ map (object_at known) ws) (sym o.1) ∙ ap (λ (l : List ℕ). b.0 ∷ l) rest.1 ∙ same_Some (b.0 ∷ c.0) objects c.2)

  each_again : (words : List (List ℕ)) → AllByRecursion IsName words → each_at (object_named known) words ≡ Some (map (object_at known) words)
  unfolding each_at
  each_again [] h = refl
  each_again (w ∷ ws) h = rw (object_again w h.0, each_again ws h.1) refl

  no_objects_take : (words : List (List ℕ)) (objects : List ℕ) → no_objects_at words ≡ Some objects → (words ≡ []) × (objects ≡ [])
  unfolding no_objects_at
  no_objects_take [] objects e = (refl, sym (same_Some [] objects e))
  no_objects_take (w ∷ ws) objects e = absurd cc

  pub objects_take : (words : List (List ℕ)) (objects : List ℕ) → objects_at known words ≡ Some objects → AreNames known words objects
  unfolding objects_at
  objects_take [] objects e = absurd cc
  objects_take (w ∷ ws) objects e = elim (chosen (bytes_eq w (codes "-")) (no_objects_at ws) (each_at (object_named known) (w ∷ ws)) (Some objects) e) [
    | inl p ↦
        let t = no_objects_take ws objects p.1 in
        let first : w ≡ codes "-" = is_word w (codes "-") p.0 in
        let rest : ws ≡ [] = t.0 in
        let same : w ∷ ws ≡ codes "-" ∷ [] = cc in
        subst (λ (l : List ℕ). AreNames known (w ∷ ws) l) (sym t.1) (subst (λ (l : List (List ℕ)). AreNames known l []) (sym same) lines.none)
    | inr p ↦
        let t = each_takes (w ∷ ws) objects p.1 in
        subst (AreNames known (w ∷ ws)) t.1 (lines.some w ws (All-from_recursion IsName (w ∷ ws) t.0))
  ]

  pub objects_again : (words : List (List ℕ)) (objects : List ℕ) → AreNames known words objects → objects_at known words ≡ Some objects
  unfolding objects_at no_objects_at
  objects_again words objects lines.none = refl
  objects_again words objects (lines.some w ws all) =
      let each : AllByRecursion IsName (w ∷ ws) = recursion_from_All IsName (w ∷ ws) all in
      rw (other_word w (codes "-") each.0.other) (each_again (w ∷ ws) each)
