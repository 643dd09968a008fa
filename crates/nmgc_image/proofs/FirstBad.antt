-- An image is read exactly from its text, and for any other text the first bad line is reported.
use Rattle.nmgc_image.proofs.Vocabulary.{◌≡◌, ◌≤◌, ◌<◌, ◌+◌, ℕ, List, [], ◌∷◌, ◌++◌, map, length, take, drop, get_or, refl, sym, ap, subst, ◌∙◌, arith, inl, inr, Bool, true, Some, None, All, Contains, slice_get, AllByRecursion, flat_map, cases_lt, append-nil, map-append, take_all, take_more, take-append-drop, none-some, same_Some, slice_get-get_or, All-from_recursion, recursion_from_All, Contains-append_left, Contains-append_right, Contains-append_cases, All-contains, MAKERS, Name, Value, Nil, Number, Ref, shared_name, held_by, contains_head, contains_tail, contains_cases, contains_at, nothing_in, contains_flat, flat_contains, contains_map, IsName, IsValue, bind_some, Held, ImageMutator, Entry, Image, Reader, IsHeld, IsMutator, names_of, values_of, values_in, IsOrderly, spaced, ended, first_words, mutator_words, register_words, queue_words, entry_words, own_lines, mutator_lines, last_words, image_lines, Spells, tokens_of, Cut, cut, IsWritable, IsDeclared, Begins, IsFirstBad, node_line_at, line_at, start, image_of, FindsDeclared, run}
use Rattle.nmgc_image.proofs.{NodeLaws.IsSpellable, NodeLaws.line_again, LineLaws.MakeLine, LineLaws.spaced-lines, LineLaws.tokens_of-line, LineLaws.tokens_of-lines, LineLaws.made_lines, LineLaws.first_line, LineLaws.mutator_line, LineLaws.register_line, LineLaws.queue_line, LineLaws.entry_line, LineLaws.end_line, Cutting.cut_ended, Cutting.cut_is_text, Machine.run_append, Machine.IsIn, Machine.IsTaken, Machine.AreIn, Taken.spellable, Taken.image_taken, Taken.front_runs, Lines.IsGood, Lines.lines_so_far, Lines.start_good, Lines.start_lines, Lines.run_goes, Lines.IsPart, Lines.good_part, Lines.ended_lines, Lines.ended_orderly}

-- THE LINES OF AN IMAGE

pub rec_append : {A : Type 0} (P : A → Type 0) (xs ys : List A) → AllByRecursion P xs → AllByRecursion P ys → AllByRecursion P (xs ++ ys)
rec_append P [] ys h k = k
rec_append P (x ∷ xs) ys h k = (h.0, rec_append P xs ys h.1 k)

rec_map : {A B : Type 0} (P : A → Type 0) (Q : B → Type 0) (f : A → B) (xs : List A) → ((x : A) → P x → Q (f x)) → AllByRecursion P xs →
    AllByRecursion Q (map f xs)
rec_map P Q f [] h k = tt
rec_map P Q f (x ∷ xs) h k = (h x k.0, rec_map P Q f xs h k.1)

own_made : (own : ImageMutator) → IsMutator own → AllByRecursion MakeLine (own_lines own)
own_made own h = rec_append MakeLine (map register_words own.registers) (map queue_words own.queue)
    (rec_map IsHeld MakeLine register_words own.registers register_line (recursion_from_All IsHeld own.registers h.registers))
    (rec_map IsValue MakeLine queue_words own.queue queue_line (recursion_from_All IsValue own.queue h.queue))

mutators_made : (m : ℕ) (owns : List ImageMutator) → m + length owns ≤ MAKERS → AllByRecursion IsMutator owns → AllByRecursion MakeLine (mutator_lines m owns)
mutators_made m [] few h = tt
mutators_made m (own ∷ owns) few h = rec_append MakeLine (mutator_words m own.serial ∷
    own_lines own) (mutator_lines (m + 1) owns) (
      mutator_line m own.serial (omega arith) h.0.serial,
      own_made own h.0,
    ) (mutators_made (m + 1) owns (omega arith) h.1)

module _ (image : Image) (o : IsOrderly image) where
  entries_spellable : AllByRecursion IsSpellable image.nodes
  entries_spellable = recursion_from_All IsSpellable image.nodes (λ i x lt. spellable image.mutators _ o.few o.mutators (o.nodes i x lt))

  pub image_made : AllByRecursion MakeLine (image_lines image)
  image_made =
      let front = first_words (length image.mutators) ∷ mutator_lines 0 image.mutators in
      let nodes = map entry_words image.nodes in
      rec_append MakeLine (front ++ nodes) (last_words ∷ []) (rec_append MakeLine front nodes (
        first_line (length image.mutators) o.few,
        mutators_made 0 image.mutators (let few = o.few in
            omega arith) (recursion_from_All IsMutator image.mutators o.mutators),
      )
      (rec_map IsSpellable MakeLine entry_words image.nodes entry_line entries_spellable)) (end_line, tt)

-- ONLY OBJECTS HAVE NODE LINES

abbrev pub IsOther : List (List ℕ) → Type 0
IsOther words = node_line_at words ≡ None

other_register : (held : Held) → IsOther (register_words held)
unfolding node_line_at
other_register held = refl

other_queue : (v : Value) → IsOther (queue_words v)
unfolding node_line_at
other_queue v = refl

other_mutator : (m serial : ℕ) → IsOther (mutator_words m serial)
unfolding node_line_at
other_mutator m serial = refl

pub other_first : (m : ℕ) → IsOther (first_words m)
unfolding node_line_at
other_first m = refl

pub other_last : IsOther last_words
unfolding node_line_at
other_last = refl

each_map : {A B : Type 0} (Q : B → Type 0) (f : A → B) (xs : List A) → ((x : A) → Q (f x)) → AllByRecursion Q (map f xs)
each_map Q f [] h = tt
each_map Q f (x ∷ xs) h = (h x, each_map Q f xs h)

pub mutators_other : (m : ℕ) (owns : List ImageMutator) → AllByRecursion IsOther (mutator_lines m owns)
mutators_other m [] = tt
mutators_other m (own ∷ owns) = rec_append IsOther (mutator_words m own.serial ∷
    own_lines own) (mutator_lines (m + 1) owns) (
      other_mutator m own.serial,
      rec_append IsOther (map register_words own.registers) (map queue_words own.queue) (each_map IsOther register_words own.registers other_register)
          (each_map IsOther queue_words own.queue other_queue),
    ) (mutators_other (m + 1) owns)

rec_at : {A : Type 0} (P : A → Type 0) (xs : List A) (x : A) → AllByRecursion P xs → Contains xs x → P x
rec_at P xs x h c = All-contains P xs x (All-from_recursion P xs h) c

map_contains : {A B : Type 0} (f : A → B) (xs : List A) (y : B) → Contains (map f xs) y → (x : A) × Contains xs x × (f x ≡ y)
map_contains f [] y c = absurd (nothing_in y c)
map_contains f (x ∷ xs) y c = elim (contains_cases (f x) (map f xs) y c) [
  | inl e ↦ (x, contains_head x xs, e)
  | inr k ↦ let r : (z : _) × Contains xs z × (f z ≡ y) = map_contains f xs y k in (r.0, contains_tail x xs r.0 r.1, r.2)
]

spellable_of : (entry : Entry) → IsWritable entry → IsSpellable entry
spellable_of entry h = (h.name, h.node, recursion_from_All IsValue (held_by entry.node) h.values)

module _ (image : Image) (o : IsOrderly image) where
  -- a node line among the lines is an object's node line
  node_here : (words : List (List ℕ)) (entry : Entry) → Contains (image_lines image) words → node_line_at words ≡ Some entry → Contains image.nodes entry
  node_here words entry c e =
      let front = first_words (length image.mutators) ∷ mutator_lines 0 image.mutators in
      let nodes = map entry_words image.nodes in
      elim (Contains-append_cases (front ++ nodes) (last_words ∷ []) words c) [
        | inl k ↦ elim (Contains-append_cases front nodes words k) [
          | inl f ↦ absurd (none-some entry (sym (rec_at IsOther front words (other_first (length image.mutators), mutators_other 0 image.mutators) f) ∙ e))
          | inr n ↦
              let m = map_contains entry_words image.nodes words n in
              let read : node_line_at (entry_words m.0) ≡ Some m.0 = line_again m.0 (rec_at IsSpellable image.nodes m.0 (entries_spellable image o) m.1) in
              let same : m.0 ≡ entry = same_Some m.0 entry (sym read ∙ ap node_line_at m.2 ∙ e) in
              subst (Contains image.nodes) same m.1
        ]
        | inr l ↦ elim (contains_cases last_words [] words l) [
          | inl is ↦ absurd (none-some entry (sym other_last ∙ ap node_line_at is ∙ e))
          | inr none ↦ absurd (nothing_in words none)
        ]
      ]

  pub declared_here : (name : Name) → IsDeclared (map spaced (image_lines image)) name → Contains (names_of image.nodes) name
  declared_here name d =
      let m = map_contains spaced (image_lines image) (spaced (entry_words d.0)) d.3 in
      let spelt = spellable_of d.0 d.1 in
      let made : MakeLine m.0 = rec_at MakeLine (image_lines image) m.0 (image_made image o) m.1 in
      let same : m.0 ≡ entry_words d.0 = sym (tokens_of-line m.0 made) ∙ ap tokens_of m.2 ∙ tokens_of-line (entry_words d.0) (entry_line d.0 spelt) in
      let there : Contains image.nodes d.0 = node_here m.0 d.0 m.1 (ap node_line_at same ∙ line_again d.0 spelt) in
      subst (Contains (names_of image.nodes)) d.2 (contains_map (λ (entry : Entry). entry.name) image.nodes d.0 there)

  pub here_declared : (name : Name) → Contains (names_of image.nodes) name → IsDeclared (map spaced (image_lines image)) name
  here_declared name c =
      let m = map_contains (λ (entry : Entry). entry.name) image.nodes name c in
      let entry : Entry = m.0 in
      let spelt : IsSpellable entry = rec_at IsSpellable image.nodes m.0 (entries_spellable image o) m.1 in
      let front = first_words (length image.mutators) ∷ mutator_lines 0 image.mutators in
      let nodes = map entry_words image.nodes in
      let line : Contains (image_lines image) (entry_words m.0) =
      Contains-append_left (front ++ nodes) (last_words ∷
      []) (entry_words m.0) (Contains-append_right front nodes (entry_words m.0) (contains_map entry_words image.nodes m.0 m.1)) in (
        m.0,
        record { name = spelt.0; node = spelt.1; values = All-from_recursion IsValue (held_by m.0.node) spelt.2 },
        m.2,
        contains_map spaced (image_lines image) (entry_words m.0) line,
      )

-- THE DECLARED NAMES

value_is_in : (d : Name → Bool) (v : Value) → ((name : Name) → v ≡ Ref name → d name ≡ true) → IsIn d v
value_is_in d Nil h = refl
value_is_in d (Number n) h = refl
value_is_in d (Ref name) h = h name refl

-- an image mentions only declared names if each name that it mentions is declared
are_in : (d : Name → Bool) (image : Image) → ((name : Name) → Contains (values_in image) (Ref name) → d name ≡ true) → AreIn d image
are_in d image h =
    let mutators = flat_map values_of image.mutators in
    let nodes = flat_map (λ (entry : Entry). held_by entry.node) image.nodes in
    record {
      mutators = λ i x lt.
          let own : ImageMutator = get_or image.mutators i x in
          let there : Contains image.mutators own = contains_at image.mutators i own (slice_get-get_or image.mutators i x lt) in
          λ j y less.
          let v : Value = get_or (values_of own) j y in
          value_is_in d v (λ name is.
          h name (subst (Contains (values_in image)) is (Contains-append_left mutators nodes v
          (contains_flat values_of image.mutators own v there (contains_at (values_of own) j v (slice_get-get_or (values_of own) j y less))))));
      nodes = λ i x lt.
          let entry : Entry = get_or image.nodes i x in
          let there : Contains image.nodes entry = contains_at image.nodes i entry (slice_get-get_or image.nodes i x lt) in
          λ j y less.
          let v : Value = get_or (held_by entry.node) j y in
          value_is_in d v (λ name is.
          h name (subst (Contains (values_in image)) is (Contains-append_right mutators nodes v (contains_flat (λ (e : Entry).
          held_by e.node) image.nodes entry v there (contains_at (held_by entry.node) j v (slice_get-get_or (held_by entry.node) j y less))))));
    }

-- a property of all values of the parts holds of each value that the image mentions
in_values : (P : Value → Type 0) (image : Image) → All (λ (own : ImageMutator). All P (values_of own)) image.mutators →
    All (λ (entry : Entry). All P (held_by entry.node)) image.nodes → (v : Value) → Contains (values_in image) v → P v
in_values P image owns nodes v c = elim (Contains-append_cases (flat_map values_of image.mutators) (flat_map (λ (entry : Entry).
    held_by entry.node) image.nodes) v c) [
      | inl m ↦
          let own = flat_contains values_of image.mutators v m in
          All-contains P (values_of own.0) v (All-contains (λ (x : ImageMutator). All P (values_of x)) image.mutators own.0 owns own.1) own.2
      | inr n ↦
          let entry = flat_contains (λ (x : Entry). held_by x.node) image.nodes v n in
          All-contains P (held_by entry.0.node) v (All-contains (λ (x : Entry). All P (held_by x.node)) image.nodes entry.0 nodes entry.1) entry.2
    ]

own_values : (own : ImageMutator) → IsMutator own → All IsValue (values_of own)
own_values own h = All-from_recursion IsValue (values_of own) (rec_append IsValue (map (λ (held : Held).
    held.value) own.registers) own.queue (rec_map IsHeld IsValue (λ (held : Held). held.value) own.registers (λ held k.
    k.valid) (recursion_from_All IsHeld own.registers h.registers)) (recursion_from_All IsValue own.queue h.queue))

-- each value of an orderly image has a text
image_values : (image : Image) → IsOrderly image → (v : Value) → Contains (values_in image) v → IsValue v
image_values image o v c = in_values IsValue image (λ i x lt. own_values _ (o.mutators i x lt)) (λ i x lt. (o.nodes i x lt).values) v c

no_items : {A B : Type 0} (f : A → B) (xs : List A) → map f xs ≡ [] → xs ≡ []
no_items f [] e = refl
no_items f (x ∷ xs) e = absurd cc

shared_valid : IsName shared_name
shared_valid = (omega arith, omega arith, λ same. refl)

-- A TEXT

module _ (bytes : List ℕ) (d : Name → Bool) (agrees : FindsDeclared d (cut bytes).lines) where
  -- the text of an image is cut into its lines
  spelled_lines : (image : Image) → Spells bytes image → ((cut bytes).lines ≡ map spaced (image_lines image)) × ((cut bytes).rest ≡ []) ×
      (map tokens_of (cut bytes).lines ≡ image_lines image)
  spelled_lines image s =
      let made = image_made image s.valid.orderly in
      let c : cut bytes ≡ record { lines = map spaced (image_lines image); rest = [] } = ap cut s.text ∙
      cut_ended (map spaced (image_lines image)) (made_lines (image_lines image) made) in
      let lines : (cut bytes).lines ≡ map spaced (image_lines image) = ap (λ (x : Cut). x.lines) c in (
        lines,
        ap (λ (x : Cut). x.rest) c,
        ap (λ (l : List (List ℕ)). map tokens_of l) lines ∙ tokens_of-lines (image_lines image) made,
      )

  -- an image that the text spells is read
  pub only : (image : Image) → Spells bytes image → IsTaken d (map tokens_of (cut bytes).lines) image × ((cut bytes).rest ≡ [])
  only image s =
      let c = spelled_lines image s in
      let declared : (name : Name) → Contains (names_of image.nodes) name →
      d name ≡ true = λ name h. agrees.complete name (rw c.0 (here_declared image s.valid.orderly name h)) in
      let taken = image_taken d image s.valid.orderly (are_in d image (λ name h.
      declared name (s.valid.closed name h))) (declared shared_name s.valid.shared) in
      (subst (λ (l : List (List (List ℕ))). IsTaken d l image) (sym c.2) taken, c.1)

  -- the text spells the image that is read
  pub found : (r : Reader) → run d start (map tokens_of (cut bytes).lines) ≡ Some r → r.ended ≡ true → (cut bytes).rest ≡ [] → Spells bytes (image_of r)
  found r runs is_yes none =
      let went = run_goes d (map tokens_of (cut bytes).lines) start r (start_good d) runs in
      let good : IsGood d r = went.0 in
      let image : Image = image_of r in
      let lines : image_lines (image_of r) ≡ map tokens_of (cut bytes).lines = cc (ended_lines d r good is_yes, went.1, start_lines) in
      let whole : map spaced (image_lines (image_of r)) ≡ (cut bytes).lines = cc (lines, spaced-lines (cut bytes).lines) in
      let orderly : IsOrderly (image_of r) = ended_orderly d r good is_yes in
      let named : (name : Name) → IsName name → d name ≡ true →
      Contains (names_of r.nodes) name = λ name valid is.
      declared_here (image_of r) orderly name (subst (λ (l : List (List ℕ)). IsDeclared l name) (sym whole) (agrees.sound name valid is)) in
      record {
        text = cc (cut_is_text bytes, none, append-nil (ended (cut bytes).lines), whole);
        valid = record {
          orderly = orderly;
          shared = named shared_name shared_valid (good.last is_yes).1;
          closed = λ name c. named name (image_values (image_of r) orderly (Ref name) c)
              (in_values (IsIn d) (image_of r) good.owns_in good.nodes_in (Ref name) c);
        };
      }

  module _ (lines : List (List ℕ)) (b : Begins (cut bytes).lines lines) where
    inside : AreIn d b.image
    inside = are_in d b.image (λ name h. agrees.complete name (b.mentioned name h))

    -- lines with which an image begins are taken
    begins_runs : (s : Reader) × (run d start (map tokens_of lines) ≡ Some s)
    begins_runs =
        let made = image_made b.image b.orderly in
        let whole : image_lines b.image ≡ map tokens_of lines ++ map tokens_of b.rest = cc (tokens_of-lines (image_lines b.image) made, b.lines_are, map-append tokens_of lines b.rest) in
        front_runs d b.image b.orderly inside (map tokens_of lines) (map tokens_of b.rest) whole (λ none.
        agrees.complete shared_name (b.shared (no_items tokens_of b.rest none)))

  some_line : (i : ℕ) → i < length (cut bytes).lines → (line : List ℕ) × (slice_get (cut bytes).lines i ≡ Some line) ×
      (take (i + 1) (cut bytes).lines ≡ take i (cut bytes).lines ++ line ∷ [])
  some_line i lt = (get_or (cut bytes).lines i [], slice_get-get_or (cut bytes).lines i [] lt, take_more (cut bytes).lines i [] lt)

  part_begins : (lines : List (List ℕ)) (so_far : List (List (List ℕ))) → IsPart d so_far → so_far ≡ map tokens_of lines → Begins (cut bytes).lines lines
  part_begins lines so_far part e = record {
    image = part.image;
    orderly = part.orderly;
    rest = map spaced part.rest;
    lines_are = cc (part.lines_are, e, map-append spaced (map tokens_of lines) part.rest, spaced-lines lines);
    mentioned = λ name c.
        agrees.sound name (image_values part.image part.orderly (Ref name) c) (in_values (IsIn d) part.image part.mutators_in part.nodes_in (Ref name) c);
    shared = λ none. agrees.sound shared_name shared_valid (part.shared (no_items spaced part.rest none));
  }

  module _ (i : ℕ) (r : Reader) (within : i ≤ length (cut bytes).lines) (runs : run d start (map tokens_of (take i (cut bytes).lines)) ≡
      Some r) (bad : (line : List ℕ) → slice_get (cut bytes).lines i ≡ Some line → line_at d r (tokens_of line) ≡ None) where
    stops : (line : List ℕ) → slice_get (cut bytes).lines i ≡ Some line → run d start (map tokens_of (take i (cut bytes).lines ++ line ∷ [])) ≡ None
    stops line at =
        cc (map-append tokens_of (take i (cut bytes).lines) (line ∷ []), run_append d start (map tokens_of (take i (cut bytes).lines)) (tokens_of line ∷ []), runs, bad line at)

    not_longer : i + 1 ≤ length (cut bytes).lines → Begins (cut bytes).lines (take (i + 1) (cut bytes).lines) → ⊥
    not_longer lt b =
        let line = some_line i (omega arith) in
        let s = begins_runs (take (i + 1) (cut bytes).lines) b in
        none-some s.0 (sym (stops line.0 line.1) ∙ ap (λ (l : List (List ℕ)). run d start (map tokens_of l)) (sym line.2) ∙ s.1)

    pub not_spelled : (length (cut bytes).lines ≤ i → r.ended ≡ true → (cut bytes).rest ≡ [] → ⊥) → (image : Image) → Spells bytes image → ⊥
    not_spelled not_done image s =
        let lines = (cut bytes).lines in
        let o = only image s in
        elim (cases_lt i (length lines)) [
          | inl lt ↦
              let line = some_line i lt in
              let front : List (List ℕ) = take i lines ++ line.0 ∷ [] in
              let split : front ++ drop (i + 1) lines ≡ lines = cc (line.2, take-append-drop (i + 1) lines) in
              let whole : run d start (map tokens_of front ++ map tokens_of (drop (i + 1) lines)) ≡ Some o.0.reader =
              cc (map-append tokens_of front (drop (i + 1) lines), split, o.0.runs) in
              let b = bind_some (run d start (map tokens_of front)) (λ t.
              run d t (map tokens_of (drop (i + 1) lines))) o.0.reader
              (sym (run_append d start (map tokens_of front) (map tokens_of (drop (i + 1) lines))) ∙ whole) in
              none-some b.0 (sym (stops line.0 line.1) ∙ b.1)
          | inr le ↦
              let same : r ≡ o.0.reader = same_Some r o.0.reader (cc (runs, take_all i lines le, o.0.runs)) in
              not_done le (subst (λ (x : Reader). x.ended ≡ true) (sym same) o.0.ended) o.1
        ]

    -- the first bad line is reported
    pub first_bad : (length (cut bytes).lines ≤ i → r.ended ≡ true → (cut bytes).rest ≡ [] → ⊥) → IsFirstBad bytes (i + 1)
    first_bad not_done =
        let lines = (cut bytes).lines in
        let went = run_goes d (map tokens_of (take i lines)) start r (start_good d) runs in
        let so_far : lines_so_far r ≡ map tokens_of (take i lines) = went.1 ∙ ap (λ (l : List (List (List ℕ))). l ++ map tokens_of (take i lines)) start_lines in
        record {
          before = i;
          number_is = refl;
          within = within;
          good = part_begins (take i lines) (lines_so_far r) (good_part d r went.0) so_far;
          bad = not_longer;
          none = not_spelled not_done;
        }
