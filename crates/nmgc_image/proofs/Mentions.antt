-- That each mentioned name is declared, by tests.
use Rattle.nmgc_image.proofs.Vocabulary.{◌≡◌, List, [], ◌∷◌, map, Bool, true, All, AllByRecursion, list_all, option_to_list, and_parts, All-append, All-from_recursion, Name, Value, shared_name, held_by, Held, ImageMutator, Entry, Reader, values_of, is_declared, is_own_in, is_object_in, AreMentionsIn}

all_mean : {A : Type 0} (f : A → Bool) (xs : List A) → list_all f xs ≡ true → AllByRecursion (λ x. f x ≡ true) xs
all_mean f [] e = tt
all_mean f (x ∷ xs) e = let p = and_parts (f x) (list_all f xs) e in (p.0, all_mean f xs p.1)

module _ (d : Name → Bool) where
  abbrev IsIn : Value → Type 0
  IsIn v = is_declared d v ≡ true

  held_mean : (helds : List Held) → list_all (λ (held : Held). is_declared d held.value) helds ≡ true →
      AllByRecursion IsIn (map (λ (held : Held). held.value) helds)
  held_mean [] e = tt
  held_mean (held ∷ helds) e = let p = and_parts (is_declared d held.value) (list_all (λ (h : Held). is_declared d h.value) helds) e in
      (p.0, held_mean helds p.1)

  own_means : (own : ImageMutator) → is_own_in d own ≡ true → All IsIn (values_of own)
  own_means own e =
      let p = and_parts (list_all (λ (held : Held). is_declared d held.value) own.registers) (list_all (is_declared d) own.queue) e in
      let registers : List Value = map (λ (held : Held). held.value) own.registers in
      All-append IsIn registers own.queue (All-from_recursion IsIn registers (held_mean own.registers p.0))
      (All-from_recursion IsIn own.queue (all_mean (is_declared d) own.queue p.1))

  owns_mean : (owns : List ImageMutator) → list_all (is_own_in d) owns ≡ true → AllByRecursion (λ (own : ImageMutator). All IsIn (values_of own)) owns
  owns_mean [] e = tt
  owns_mean (own ∷ owns) e = let p = and_parts (is_own_in d own) (list_all (is_own_in d) owns) e in (own_means own p.0, owns_mean owns p.1)

  objects_mean : (nodes : List Entry) → list_all (is_object_in d) nodes ≡ true → AllByRecursion (λ (entry : Entry). All IsIn (held_by entry.node)) nodes
  objects_mean [] e = tt
  objects_mean (entry ∷ nodes) e =
      let p = and_parts (is_object_in d entry) (list_all (is_object_in d) nodes) e in
      (All-from_recursion IsIn (held_by entry.node) (all_mean (is_declared d) (held_by entry.node) p.0), objects_mean nodes p.1)

  pub mentions_in : (r : Reader) → list_all (is_own_in d) r.done ≡ true → list_all (is_own_in d) (option_to_list r.current) ≡ true →
      list_all (is_object_in d) r.nodes ≡ true → (r.ended ≡ true → d shared_name ≡ true) → AreMentionsIn d r
  mentions_in r done current nodes shared =
      let P : ImageMutator → Type 0 = λ own. All IsIn (values_of own) in
      record {
        mutators = All-append P r.done (option_to_list r.current) (All-from_recursion P r.done (owns_mean r.done done))
            (All-from_recursion P (option_to_list r.current) (owns_mean (option_to_list r.current) current));
        nodes = All-from_recursion (λ (entry : Entry). All IsIn (held_by entry.node)) r.nodes (objects_mean r.nodes nodes);
        shared = shared;
      }
