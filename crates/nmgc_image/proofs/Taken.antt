-- The lines of an orderly image are taken, if the names that it mentions are declared.
use Rattle.nmgc_image.proofs.Vocabulary.{◌≡◌, ◌≤◌, ◌<◌, ℕ, List, [], ◌∷◌, ◌++◌, map, length, refl, sym, ap, subst, ◌∙◌, arith, inl, inr, Bool, true, false, Some, None, append_assoc, All, slice_get, AllByRecursion, option_to_list, slice_get_within, append-nil, same_from_push, recursion_from_All, MAKERS, Name, Value, shared_name, held_by, item_has, at_some, front_of, back_of, IsName, IsValue, bind_some, Held, ImageMutator, Entry, Image, Reader, IsHeld, IsMutator, IsOwned, IsEntry, values_of, IsOrderly, first_words, entry_words, mutator_lines, last_words, image_lines, start, run}
use Rattle.nmgc_image.proofs.{NodeLaws.IsSpellable, Machine.run_append, Machine.run_on, Machine.run_step, Machine.state, Machine.IsIn, Machine.first_runs, Machine.IsOwnIn, Machine.HasTaken, Machine.mutators_run, Machine.end_runs, Machine.IsEntryIn, Machine.nodes_run, Machine.IsTaken, Machine.AreIn}

both : {A : Type 0} (P Q : A → Type 0) (xs : List A) → AllByRecursion P xs → AllByRecursion Q xs → AllByRecursion (λ x. P x × Q x) xs
both P Q [] h k = tt
both P Q (x ∷ xs) h k = ((h.0, k.0), both P Q xs h.1 k.1)

of_map : {A B : Type 0} (P : B → Type 0) (f : A → B) (xs : List A) → AllByRecursion P (map f xs) → AllByRecursion (λ x. P (f x)) xs
of_map P f [] h = tt
of_map P f (x ∷ xs) h = (h.0, of_map P f xs h.1)

all_both : {A : Type 0} (P Q R : A → Type 0) (xs : List A) → ((x : A) → P x → Q x → R x) → All P xs → All Q xs → AllByRecursion R xs
all_both P Q R xs f h k = recursion_from_All R xs (λ i x lt. f _ (h i x lt) (k i x lt))

pub name_valid : (mutators : List ImageMutator) (entry : Entry) → length mutators ≤ MAKERS → All IsMutator mutators → IsOwned mutators entry → IsName entry.name
name_valid mutators entry few owns (inl p) = let P : Name → Type 0 = IsName in subst P (sym p.0) (omega arith, omega arith, λ same. refl)
name_valid mutators entry few owns (inr p) =
    let lt : entry.name.maker < length mutators = slice_get_within mutators entry.name.maker p.1.0 p.1.1 in
    let own : IsMutator p.1.0 = at_some (slice_get mutators entry.name.maker) p.1.0 IsMutator p.1.1 (item_has IsMutator mutators entry.name.maker owns) in
    let small = own.serial in
    let below = p.1.2 in
    (omega arith, omega arith, λ same. absurd (omega arith))

pub spellable : (mutators : List ImageMutator) (entry : Entry) → length mutators ≤ MAKERS → All IsMutator mutators → IsEntry mutators entry → IsSpellable entry
spellable mutators entry few owns h = (name_valid mutators entry few owns h.owned, h.node, recursion_from_All IsValue (held_by entry.node) h.values)

-- the last of a list that isn't empty
split_last : {A : Type 0} (x : A) (xs : List A) → (front : List A) × (last : A) × (x ∷ xs ≡ front ++ last ∷ [])
split_last x [] = ([], x, refl)
split_last x (y ∷ xs) = let more : (front : List _) × (last : _) × (y ∷ xs ≡ front ++ last ∷ []) = split_last y xs in
    (x ∷ more.0, more.1, ap (λ l. x ∷ l) more.2)

module _ (d : Name → Bool) (image : Image) (orderly : IsOrderly image) (are_in : AreIn d image) where
  own_in : (own : ImageMutator) → IsMutator own → All (IsIn d) (values_of own) → IsOwnIn d (length image.mutators) orderly.few own
  own_in own h vs =
      let all = recursion_from_All (IsIn d) (values_of own) vs in
      let values : List Value = map (λ (held : Held). held.value) own.registers in
      record {
        serial = h.serial;
        ordered = h.ordered;
        registers = both IsHeld (λ (held : Held).
            IsIn d held.value) own.registers (recursion_from_All IsHeld own.registers h.registers) (of_map (IsIn d) (λ (held : Held).
            held.value) own.registers (front_of (IsIn d) values own.queue all));
        queue = both IsValue (IsIn d) own.queue (recursion_from_All IsValue own.queue h.queue) (back_of (IsIn d) values own.queue all);
      }

  owns_in : AllByRecursion (IsOwnIn d (length image.mutators) orderly.few) image.mutators
  owns_in = all_both IsMutator (λ (own : ImageMutator).
      All (IsIn d) (values_of own)) (IsOwnIn d (length image.mutators) orderly.few) image.mutators own_in orderly.mutators are_in.mutators

  pub taken : HasTaken d (length image.mutators) orderly.few (state (length image.mutators) [] None [] false) (mutator_lines 0 image.mutators) image.mutators
  taken = mutators_run d (length image.mutators) orderly.few image.mutators 0 [] None refl (omega arith) owns_in

  full : length (taken.done ++ option_to_list taken.current) ≡ length image.mutators
  full = ap length taken.are

  entry_in : (entry : Entry) → IsEntry image.mutators entry → All (IsIn d) (held_by entry.node) →
      IsEntryIn d (length image.mutators) orderly.few taken.done taken.current orderly.some full entry
  entry_in entry h vs = record {
    spelt = spellable image.mutators entry orderly.few orderly.mutators h;
    owned = subst (λ (l : List ImageMutator). IsOwned l entry) (sym taken.are) h.owned;
    values = recursion_from_All (IsIn d) (held_by entry.node) vs;
  }

  entries_in : AllByRecursion (IsEntryIn d (length image.mutators) orderly.few taken.done taken.current orderly.some full) image.nodes
  entries_in = all_both (IsEntry image.mutators) (λ (entry : Entry).
      All (IsIn d) (held_by entry.node)) (IsEntryIn d (length image.mutators) orderly.few taken.done taken.current orderly.some full) image.nodes
      entry_in orderly.nodes are_in.nodes

  -- all its lines except the last
  pub front_taken : run d start ((first_words (length image.mutators) ∷ mutator_lines 0 image.mutators) ++ map entry_words image.nodes) ≡
      Some (state (length image.mutators) taken.done taken.current image.nodes false)
  front_taken =
      let m : ℕ = length image.mutators in
      let front = run_step d start (state m [] None [] false) (first_words m) (mutator_lines 0 image.mutators)
      (Some (state m taken.done taken.current [] false)) (first_runs d m orderly.some orderly.few) taken.runs in
      run_on d start (state m taken.done taken.current [] false) (first_words m ∷
      mutator_lines 0 image.mutators) (map entry_words image.nodes) (Some (state m taken.done taken.current image.nodes false)) front
      (nodes_run d m orderly.few taken.done taken.current orderly.some full image.nodes [] orderly.ordered entries_in)

  pub image_taken : d shared_name ≡ true → IsTaken d (image_lines image) image
  image_taken shared =
      let m : ℕ = length image.mutators in
      let last = run_step d (state m taken.done taken.current image.nodes false) (state m taken.done taken.current image.nodes true) last_words []
      (Some (state m taken.done taken.current image.nodes true))
      (end_runs d m orderly.few taken.done taken.current orderly.some full image.nodes shared) refl in
      record {
        reader = state m taken.done taken.current image.nodes true;
        runs = run_on d start (state m taken.done taken.current image.nodes false) ((first_words m ∷ mutator_lines 0 image.mutators) ++
            map entry_words image.nodes) (last_words ∷ []) (Some (state m taken.done taken.current image.nodes true)) front_taken last;
        ended = refl;
        image_is = ap (λ (l : List ImageMutator). let i : Image = record { mutators = l; nodes = image.nodes } in i) taken.are;
      }

  -- lines with which it begins
  pub front_runs : (front rest : List (List (List ℕ))) → image_lines image ≡ front ++ rest → (rest ≡ [] → d shared_name ≡ true) → (s : Reader) ×
      (run d start front ≡ Some s)
  front_runs front [] whole shared =
      let t = image_taken (shared refl) in
      (t.reader, subst (λ (l : List (List (List ℕ))). run d start l ≡ Some t.reader) (whole ∙ append-nil front) t.runs)
  front_runs front (line ∷ rest) whole shared =
      let last = split_last line rest in
      let middle : List (List (List ℕ)) = (first_words (length image.mutators) ∷ mutator_lines 0 image.mutators) ++ map entry_words image.nodes in
      let same = same_from_push middle (front ++ last.0) last_words last.1 (whole ∙ ap (λ (l : List (List (List ℕ))). front ++ l) last.2 ∙
      sym (append_assoc front last.0 (last.1 ∷ []))) in
      let split = bind_some (run d start front) (λ s. run d s last.0) _ (sym (run_append d start front last.0) ∙
      ap (λ (l : List (List (List ℕ))). run d start l) (sym same.0) ∙ front_taken) in
      (split.0, split.1)
