-- The lines of an image are taken in order, and the lines taken are the lines of an image so far.
use Rattle.nmgc_image.proofs.Vocabulary.{◌≡◌, ◌≢◌, ◌≤◌, ◌<◌, ◌+◌, ◌-◌, ◌^◌, ℕ, List, [], ◌∷◌, ◌++◌, map, length, refl, sym, ap, subst, ◌∙◌, arith, inl, inr, Bool, true, false, not, eqb, ltb, Option, Some, None, append_assoc, All, AllByRecursion, list_all, option_to_list, lt-ltb, eq-eqb, eqb-true, and_parts, and_from, cases_Bool, append-nil, length_push, REGISTERS, MAKERS, SHARED_SLOTS, Name, Value, Nil, Number, Ref, Node, Con, Var, Arr, Thunk, Weak, Stack, is_same_name, shared_name, IsBefore, IsInOrder, held_by, IsShared, same_name, IsValue, ◌>>=◌, number_again, value_reads, Held, ImageMutator, Entry, Image, Reader, AreInOrder, IsHeld, IsOwned, names_of, values_of, first_words, mutator_words, register_words, queue_words, entry_words, own_lines, mutator_lines, last_words, is_declared, is_full, first_at, new_own, mutator_at, is_above, is_nil, register_at, queue_at, is_before, is_after, is_shared, is_owned, next_at, end_at, line_at, start, run, image_of, same_name_is}
use Rattle.nmgc_image.proofs.NodeLaws.{IsSpellable, entry_again}

bind_on : {A B C : Type 0} (o : Option A) (f : A → Option B) (g : B → Option C) → ((o >>= f) >>= g) ≡ (o >>= λ x. f x >>= g)
bind_on (Some x) f g = refl
bind_on None f g = refl

same_bind : {A B : Type 0} (o : Option A) (f g : A → Option B) → ((x : A) → f x ≡ g x) → (o >>= f) ≡ (o >>= g)
same_bind (Some x) f g h = h x
same_bind None f g h = refl

pub run_append : (d : Name → Bool) (r : Reader) (xs ys : List (List (List ℕ))) → run d r (xs ++ ys) ≡ (run d r xs >>= λ s. run d s ys)
run_append d r [] ys = refl
run_append d r (x ∷ xs) ys = same_bind (line_at d r x) (λ s. run d s (xs ++ ys)) (λ s. run d s xs >>= λ t. run d t ys) (λ s. run_append d s xs ys) ∙
    sym (bind_on (line_at d r x) (λ s. run d s xs) (λ t. run d t ys))

pub run_on : (d : Name → Bool) (r s : Reader) (xs ys : List (List (List ℕ))) (o : Option Reader) → run d r xs ≡ Some s → run d s ys ≡ o → run d r (xs ++ ys) ≡ o
run_on d r s xs ys o p q = run_append d r xs ys ∙ ap (λ (u : Option Reader). u >>= λ t. run d t ys) p ∙ q

pub run_step : (d : Name → Bool) (r s : Reader) (words : List (List ℕ)) (lines : List (List (List ℕ))) (o : Option Reader) →
    line_at d r words ≡ Some s → run d s lines ≡ o → run d r (words ∷ lines) ≡ o
run_step d r s words lines o p q = ap (λ (u : Option Reader). u >>= λ t. run d t lines) p ∙ q

abbrev pub state : ℕ → List ImageMutator → Option ImageMutator → List Entry → Bool → Reader
state expected done current nodes ended = record { expected = expected; done = done; current = current; nodes = nodes; ended = ended }

abbrev own_of : ℕ → List Held → List Value → ImageMutator
own_of serial registers queue = record { serial = serial; registers = registers; queue = queue }

-- the name that the value refers to is declared
abbrev pub IsIn : (Name → Bool) → Value → Type 0
IsIn d v = is_declared d v ≡ true

-- AN IMAGE'S LINES ARE TAKEN

pub first_runs : (d : Name → Bool) (m : ℕ) → 1 ≤ m → m ≤ MAKERS → line_at d start (first_words m) ≡ Some (state m [] None [] false)
unfolding line_at first_at
first_runs d m some few = rw (number_again MAKERS m few (omega arith), lt-ltb 0 m (omega arith)) refl

not_nil : (v : Value) → v ≢ Nil → not (is_nil v) ≡ true
not_nil Nil h = absurd (h refl)
not_nil (Number n) h = refl
not_nil (Ref name) h = refl

above_from : (rs : List Held) (h : Held) (hs : List Held) → AreInOrder (rs ++ h ∷ hs) → is_above rs h.register ≡ true
above_from [] h hs o = refl
above_from (x ∷ []) h hs o = lt-ltb x.register h.register o.0
above_from (x ∷ y ∷ rs) h hs o = above_from (y ∷ rs) h hs o.1

module _ (d : Name → Bool) (expected : ℕ) (few : expected ≤ MAKERS) where
  mutator_runs : (done : List ImageMutator) (current : Option ImageMutator) (serial : ℕ) → length (done ++ option_to_list current) < expected →
      serial < 2 ^ 32 → line_at d (state expected done current [] false) (mutator_words (length (done ++ option_to_list current)) serial) ≡
      Some (state expected (done ++ option_to_list current) (Some (new_own serial)) [] false)
  unfolding line_at mutator_at
  mutator_runs done current serial lt small =
      let m : ℕ = length (done ++ option_to_list current) in
      let fits : m ≤ MAKERS = omega arith in
      rw (lt-ltb m expected lt, number_again MAKERS m fits (omega arith), number_again (2 ^ 32 - 1) serial (omega arith) (omega arith), eq-eqb m m refl) refl

  register_runs : (done : List ImageMutator) (serial : ℕ) (rs : List Held) (h : Held) → is_above rs h.register ≡ true → IsHeld h → IsIn d h.value →
      line_at d (state expected done (Some (own_of serial rs [])) [] false) (register_words h) ≡
      Some (state expected done (Some (own_of serial (rs ++ h ∷ []) [])) [] false)
  unfolding line_at register_at
  register_runs done serial rs h above held is_in =
      let lt = held.register in
      rw (
        number_again (REGISTERS - 1) h.register (omega arith) (omega arith),
        value_reads.again h.value held.valid,
        above,
        not_nil h.value held.some,
        is_in,
      ) refl

  registers_run : (done : List ImageMutator) (serial : ℕ) (hs rs : List Held) → AreInOrder (rs ++ hs) →
      AllByRecursion (λ h. IsHeld h × IsIn d h.value) hs →
      run d (state expected done (Some (own_of serial rs [])) [] false) (map register_words hs) ≡
      Some (state expected done (Some (own_of serial (rs ++ hs) [])) [] false)
  registers_run done serial [] rs o all = ap (λ (l : List Held). Some (state expected done (Some (own_of serial l [])) [] false)) (sym (append-nil rs))
  registers_run done serial (h ∷ hs) rs o all =
      let more : (rs ++ h ∷ []) ++ hs ≡ rs ++ h ∷ hs = append_assoc rs (h ∷ []) hs in
      let step = register_runs done serial rs h (above_from rs h hs o) all.0.0 all.0.1 in
      let rest = registers_run done serial hs (rs ++ h ∷ []) (subst AreInOrder (sym more) o) all.1 in
      run_step d (state expected done (Some (own_of serial rs [])) [] false) (state expected done (Some (own_of serial (rs ++ h ∷
      []) [])) [] false) (register_words h) (map register_words hs) _ step (cc (rest, more))

  queue_runs : (done : List ImageMutator) (serial : ℕ) (rs : List Held) (vs : List Value) (v : Value) → IsValue v → IsIn d v →
      line_at d (state expected done (Some (own_of serial rs vs)) [] false) (queue_words v) ≡
      Some (state expected done (Some (own_of serial rs (vs ++ v ∷ []))) [] false)
  unfolding line_at queue_at
  queue_runs done serial rs vs v valid is_in = rw (value_reads.again v valid, is_in) refl

  queues_run : (done : List ImageMutator) (serial : ℕ) (rs : List Held) (ws vs : List Value) → AllByRecursion (λ v. IsValue v × IsIn d v) ws →
      run d (state expected done (Some (own_of serial rs vs)) [] false) (map queue_words ws) ≡
      Some (state expected done (Some (own_of serial rs (vs ++ ws))) [] false)
  queues_run done serial rs [] vs all = ap (λ (l : List Value). Some (state expected done (Some (own_of serial rs l)) [] false)) (sym (append-nil vs))
  queues_run done serial rs (v ∷ ws) vs all =
      let more : (vs ++ v ∷ []) ++ ws ≡ vs ++ v ∷ ws = append_assoc vs (v ∷ []) ws in
      let rest = queues_run done serial rs ws (vs ++ v ∷ []) all.1 in
      run_step d (state expected done (Some (own_of serial rs vs)) [] false) (state expected done (Some (own_of serial rs (vs ++ v ∷
      []))) [] false) (queue_words v) (map queue_words ws) _ (queue_runs done serial rs vs v all.0.0 all.0.1) (cc (rest, more))

  -- a mutator that may be taken
  pub record IsOwnIn (own : ImageMutator) : Type 0 where
    pub serial : own.serial < 2 ^ 32
    pub ordered : AreInOrder own.registers
    pub registers : AllByRecursion (λ h. IsHeld h × IsIn d h.value) own.registers
    pub queue : AllByRecursion (λ v. IsValue v × IsIn d v) own.queue

  own_runs : (done : List ImageMutator) (current : Option ImageMutator) (own : ImageMutator) → IsOwnIn own →
      length (done ++ option_to_list current) < expected → run d (state expected done current [] false) (mutator_words (length (done ++
      option_to_list current)) own.serial ∷ own_lines own) ≡ Some (state expected (done ++ option_to_list current) (Some own) [] false)
  own_runs done current own h lt =
      let all : List ImageMutator = done ++ option_to_list current in
      run_step d (state expected done current [] false) (state expected all (Some (new_own own.serial)) [] false)
      (mutator_words (length all) own.serial) (own_lines own) _ (mutator_runs done current own.serial lt h.serial)
      (run_on d (state expected all (Some (new_own own.serial)) [] false) (state expected all (Some (own_of own.serial own.registers [])) [] false)
      (map register_words own.registers) (map queue_words own.queue) _ (registers_run all own.serial own.registers [] h.ordered h.registers)
      (queues_run all own.serial own.registers own.queue [] h.queue))

  -- after the mutators' lines all mutators have begun
  pub record HasTaken (r : Reader) (lines : List (List (List ℕ))) (all : List ImageMutator) : Type 0 where
    pub done : List ImageMutator
    pub current : Option ImageMutator
    pub runs : run d r lines ≡ Some (state expected done current [] false)
    pub are : done ++ option_to_list current ≡ all

  pub mutators_run : (owns : List ImageMutator) (m : ℕ) (done : List ImageMutator) (current : Option ImageMutator) →
      m ≡ length (done ++ option_to_list current) → m + length owns ≤ expected → AllByRecursion IsOwnIn owns →
      HasTaken (state expected done current [] false) (mutator_lines m owns) ((done ++ option_to_list current) ++ owns)
  mutators_run [] m done current is within all = record { done = done; current = current; runs = refl; are = sym (append-nil (done ++ option_to_list current)) }
  mutators_run (own ∷ owns) m done current is within all =
      let before : List ImageMutator = done ++ option_to_list current in
      let count : m + 1 ≡ length (before ++ own ∷ []) = ap (λ (k : ℕ). k + 1) is ∙ sym (length_push before own) in
      let lt : length before < expected = omega (arith, sym is) in
      let next = mutators_run owns (m + 1) before (Some own) count (omega arith) all.1 in
      let one : run d (state expected done current [] false) (mutator_words m own.serial ∷ own_lines own) ≡
      Some (state expected before (Some own) [] false) =
      rw is (own_runs done current own all.0 lt) in
      record {
        done = next.done;
        current = next.current;
        runs = run_on d (state expected done current [] false) (state expected before (Some own) [] false) (mutator_words m own.serial ∷
            own_lines own) (mutator_lines (m + 1) owns) _ one next.runs;
        are = next.are ∙ append_assoc before (own ∷ []) owns;
      }

  module _ (done : List ImageMutator) (current : Option ImageMutator) (some : 1 ≤ expected) (full : length (done ++ option_to_list current) ≡ expected) where
    full_is : (nodes : List Entry) → is_full (state expected done current nodes false) ≡ true
    full_is nodes = rw (lt-ltb 0 expected (omega arith), eq-eqb (length (done ++ option_to_list current)) expected full) refl

    node_runs : (nodes : List Entry) (entry : Entry) → IsSpellable entry → is_after nodes entry.name ≡ true →
        is_owned (done ++ option_to_list current) entry ≡ true → list_all (is_declared d) (held_by entry.node) ≡ true →
        line_at d (state expected done current nodes false) (entry_words entry) ≡ Some (state expected done current (nodes ++ entry ∷ []) false)
    unfolding line_at next_at
    node_runs nodes entry spelt after owned declared = rw (entry_again entry spelt, full_is nodes, after, owned, declared) refl

    pub end_runs : (nodes : List Entry) → d shared_name ≡ true →
        line_at d (state expected done current nodes false) last_words ≡ Some (state expected done current nodes true)
    unfolding line_at end_at
    end_runs nodes shared = rw (full_is nodes, shared) refl

pub before_is : (a b : Name) → IsBefore a b → is_before a b ≡ true
before_is a b (inl lt) = rw (lt-ltb a.maker b.maker lt) refl
before_is a b (inr p) = elim (cases_Bool (ltb a.maker b.maker)) [
  | inl is_yes ↦ rw is_yes refl
  | inr is_no ↦ rw (is_no, eq-eqb a.maker b.maker p.0, lt-ltb a.serial b.serial p.1) refl
]

after_from : (nodes : List Entry) (entry : Entry) (more : List Entry) → IsInOrder (names_of (nodes ++ entry ∷ more)) → is_after nodes entry.name ≡ true
after_from [] entry more o = refl
after_from (x ∷ []) entry more o = before_is x.name entry.name o.0
after_from (x ∷ y ∷ nodes) entry more o = after_from (y ∷ nodes) entry more o.1

shared_is : (node : Node) → IsShared node → is_shared node ≡ true
shared_is (Con tag values) h = absurd h
shared_is (Var v) h = absurd h
shared_is (Arr values) h = eq-eqb (length values) SHARED_SLOTS h
shared_is (Thunk free result) h = absurd h
shared_is (Weak parts) h = absurd h
shared_is (Stack size values) h = absurd h

not_same_is : (a b : Name) → a ≢ b → is_same_name a b ≡ false
not_same_is a b ne = elim (cases_Bool (is_same_name a b)) [
  | inl is_yes ↦ absurd (let p = and_parts (eqb a.maker b.maker) (eqb a.serial b.serial) is_yes in
      ne (same_name a b (eqb-true a.maker b.maker p.0) (eqb-true a.serial b.serial p.1)))
  | inr is_no ↦ is_no
]

owned_is : (mutators : List ImageMutator) (entry : Entry) → IsOwned mutators entry → is_owned mutators entry ≡ true
owned_is mutators entry (inl p) = rw (same_name_is entry.name shared_name p.0) (shared_is entry.node p.1)
owned_is mutators entry (inr p) = rw (not_same_is entry.name shared_name p.0, p.1.1) (lt-ltb entry.name.serial p.1.0.serial p.1.2)

all_in : (d : Name → Bool) (vs : List Value) → AllByRecursion (IsIn d) vs → list_all (is_declared d) vs ≡ true
all_in d [] h = refl
all_in d (v ∷ vs) h = and_from (is_declared d v) (list_all (is_declared d) vs) h.0 (all_in d vs h.1)

module _ (d : Name → Bool) (expected : ℕ) (few : expected ≤ MAKERS) (done : List ImageMutator) (current : Option ImageMutator) (some : 1 ≤ expected)
    (full : length (done ++ option_to_list current) ≡ expected) where
  -- an object that may be taken
  pub record IsEntryIn (entry : Entry) : Type 0 where
    pub spelt : IsSpellable entry
    pub owned : IsOwned (done ++ option_to_list current) entry
    pub values : AllByRecursion (IsIn d) (held_by entry.node)

  pub nodes_run : (entries nodes : List Entry) → IsInOrder (names_of (nodes ++ entries)) → AllByRecursion IsEntryIn entries →
      run d (state expected done current nodes false) (map entry_words entries) ≡ Some (state expected done current (nodes ++ entries) false)
  nodes_run [] nodes o all = ap (λ (l : List Entry). Some (state expected done current l false)) (sym (append-nil nodes))
  nodes_run (entry ∷ entries) nodes o all =
      let more : (nodes ++ entry ∷ []) ++ entries ≡ nodes ++ entry ∷ entries = append_assoc nodes (entry ∷ []) entries in
      let step = node_runs d expected few done current some full nodes entry all.0.spelt (after_from nodes entry entries o) (owned_is (done ++
      option_to_list current) entry all.0.owned) (all_in d (held_by entry.node) all.0.values) in
      let rest = nodes_run entries (nodes ++ entry ∷ []) (subst (λ (l : List Entry). IsInOrder (names_of l)) (sym more) o) all.1 in
      run_step d (state expected done current nodes false) (state expected done current (nodes ++ entry ∷
      []) false) (entry_words entry) (map entry_words entries) _ step (rest ∙ ap (λ (l : List Entry). Some (state expected done current l false)) more)

-- the end of an image whose lines were taken
pub record IsTaken (d : Name → Bool) (lines : List (List (List ℕ))) (image : Image) : Type 0 where
  pub reader : Reader
  pub runs : run d start lines ≡ Some reader
  pub ended : reader.ended ≡ true
  pub image_is : image_of reader ≡ image

-- the names that an image mentions are declared
pub record AreIn (d : Name → Bool) (image : Image) : Type 0 where
  pub mutators : All (λ (own : ImageMutator). All (IsIn d) (values_of own)) image.mutators
  pub nodes : All (λ (entry : Entry). All (IsIn d) (held_by entry.node)) image.nodes
