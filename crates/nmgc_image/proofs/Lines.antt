-- The lines that were taken are the lines of an image so far.
use Rattle.std.proofs.{Common.◌≡◌, Common.◌≢◌, Common.◌≤◌, Common.◌<◌, Common.◌+◌, Common.◌-◌, Common.◌^◌, Common.◌⊎◌, Common.ℕ, Common.List, Common.[], Common.◌∷◌, Common.◌++◌, Common.map, Common.length, Common.replicate, Common.refl, Common.sym, Common.ap, Common.subst, Common.◌∙◌, Common.arith, Common.inl, Common.inr, Common.Bool, Common.true, Common.false, Common.cond, Common.not, Common.codes, Common.eqb, Common.ltb, Common.Option, Common.Some, Common.None, Common.append_assoc, lemmas.Bool.ltb-true, lemmas.Bool.eqb-true, lemmas.Bool.eq-eqb, lemmas.Bool.ne_eqb, lemmas.Bool.and_parts, lemmas.Bool.or_cases, lemmas.Bool.cases_Bool, lemmas.Bool.cases_lt, lemmas.Bool.false≢true, lemmas.Bool.both_ways, lemmas.List.append-nil, lemmas.List.length-append, lemmas.List.length_push, lemmas.List.length-replicate, lemmas.List.map_push, lemmas.List.nil_from_length, lemmas.Option.same_Some, lemmas.Slice.Eq.bytes_eq-Decides, lemmas.List.Elements.All-push, lemmas.List.Elements.All-nil, lemmas.List.Elements.All-head, lemmas.List.Elements.All-append, lemmas.List.Elements.All-replicate, lemmas.List.Elements.All-from_recursion}
use Rattle.std.specs.{Prelude.◌&&◌, Prelude.All, Prelude.slice_get, List.AllByRecursion, List.list_all, Option.option_to_list, Str.bytes_eq}
use Rattle.nmgc_limits.specs.declared.mutators.TheConstants.{REGISTERS, MAKERS, SHARED_MAKER, SHARED_SLOTS}
use Rattle.nmgc_world_spec.specs.{declared.value.Name.Name, declared.value.Value.Value, declared.value.Value.TheVariants.Nil, declared.value.Value.TheVariants.Number, declared.value.Value.TheVariants.Ref, declared.node.Node.Node, declared.node.Node.TheVariants.Con, declared.node.Node.TheVariants.Var, declared.node.Node.TheVariants.Arr, declared.node.Node.TheVariants.Thunk, declared.node.Node.TheVariants.Weak, declared.node.Node.TheVariants.Stack, World.is_same_name, World.shared_name, World.held_by, World.IsShared, Reach.IsBefore, Reach.IsInOrder, laws.Orders.same_name}
use Rattle.nmgc_journal.specs.{Text.IsValue, Reading.number_at, Reading.value_at, laws.Reading.bind_some, laws.Reading.guard_some, laws.Reading.number_takes, laws.Reading.value_reads}
use Rattle.nmgc_lists.specs.{laws.Truths.chosen, laws.Truths.unmarked, laws.Items.all_front, laws.Items.all_back}
use Rattle.nmgc_image.specs.{declared.image.Held.Held, declared.image.ImageMutator.ImageMutator, declared.image.Entry.Entry, declared.image.Image.Image, declared.reader.Reader.Reader, Image.AreInOrder, Image.IsHeld, Image.IsMutator, Image.IsOwned, Image.IsEntry, Image.names_of, Image.values_of, Image.IsOrderly, Image.mutator_words, Image.register_words, Image.queue_words, Image.entry_words, Image.mutator_lines, Image.image_lines, Printing.first_words, Printing.own_lines, Printing.last_words, Reading.is_declared, Reading.begun, Reading.is_open, Reading.is_full, Reading.first_at, Reading.new_own, Reading.mutator_at, Reading.is_above, Reading.is_nil, Reading.with_register, Reading.with_entry, Reading.register_at, Reading.queue_at, Reading.is_before, Reading.is_after, Reading.is_shared, Reading.is_below, Reading.is_owned, Reading.can_follow, Reading.entry_at, Reading.next_at, Reading.end_at, Reading.line_at, Reading.start, Reading.image_of, Reading.run}
use Rattle.nmgc_image.proofs.{NodeLaws.entry_takes, Machine.IsIn}

-- every mutator has begun
pub record IsFull (r : Reader) : Type 0 where
  pub some : 1 ≤ r.expected
  pub all : length (begun r) ≡ r.expected

-- the part read so far belongs to an orderly image
pub record IsGood (d : Name → Bool) (r : Reader) : Type 0 where
  pub few : r.expected ≤ MAKERS
  pub within : length (begun r) ≤ r.expected
  pub owns : All IsMutator (begun r)
  pub owns_in : All (λ (own : ImageMutator). All (IsIn d) (values_of own)) (begun r)
  pub ordered : IsInOrder (names_of r.nodes)
  pub nodes : All (IsEntry (begun r)) r.nodes
  pub nodes_in : All (λ (entry : Entry). All (IsIn d) (held_by entry.node)) r.nodes
  pub full : (r.nodes ≡ []) ⊎ IsFull r
  pub last : r.ended ≡ true → IsFull r × (d shared_name ≡ true)

unfoldable pub first_part : ℕ → List (List (List ℕ))
first_part m = cond (eqb m 0) [] (first_words m ∷ [])

unfoldable pub last_part : Bool → List (List (List ℕ))
last_part b = cond b (last_words ∷ []) []

abbrev pub lines_at : ℕ → List ImageMutator → List Entry → Bool → List (List (List ℕ))
lines_at m owns nodes ended = ((first_part m ++ mutator_lines 0 owns) ++ map entry_words nodes) ++ last_part ended

-- the lines so far
abbrev pub lines_so_far : Reader → List (List (List ℕ))
lines_so_far r = lines_at r.expected (begun r) r.nodes r.ended

-- a line is taken
pub record Goes (d : Name → Bool) (r : Reader) (words : List (List ℕ)) (t : Reader) : Type 0 where
  pub good : IsGood d t
  pub lines_are : lines_so_far t ≡ lines_so_far r ++ words ∷ []

pub start_good : (d : Name → Bool) → IsGood d start
start_good d = record {
  few = omega arith;
  within = omega arith;
  owns = All-nil IsMutator;
  owns_in = All-nil (λ (own : ImageMutator). All (IsIn d) (values_of own));
  ordered = tt;
  nodes = All-nil (IsEntry []);
  nodes_in = All-nil (λ (entry : Entry). All (IsIn d) (held_by entry.node));
  full = inl refl;
  last = λ e. absurd (false≢true e);
}

pub start_lines : lines_so_far start ≡ []
unfolding first_part last_part
start_lines = refl

-- the lines of one more mutator
lines_push : (m : ℕ) (owns : List ImageMutator) (own : ImageMutator) →
    mutator_lines m (owns ++ own ∷ []) ≡ mutator_lines m owns ++ (mutator_words (m + length owns) own.serial ∷ own_lines own)
lines_push m [] own = ap (λ (k : ℕ). mutator_words k own.serial ∷ own_lines own ++ []) (let e : m ≡ m + 0 = omega arith in e) ∙
    append-nil (mutator_words (m + 0) own.serial ∷ own_lines own)
lines_push m (x ∷ owns) own =
    let k : (m + 1) + length owns ≡ m + length (x ∷ owns) = omega arith in
    let line : List (List (List ℕ)) = mutator_words m x.serial ∷ own_lines x in
    ap (λ (l : List (List (List ℕ))). line ++ l) (lines_push (m + 1) owns own) ∙
    sym (append_assoc line (mutator_lines (m + 1) owns) (mutator_words ((m + 1) + length owns) own.serial ∷ own_lines own)) ∙
    ap (λ (j : ℕ). (line ++ mutator_lines (m + 1) owns) ++ (mutator_words j own.serial ∷ own_lines own)) k

lines_more : (m : ℕ) (owns more : List ImageMutator) → mutator_lines m (owns ++ more) ≡ mutator_lines m owns ++ mutator_lines (m + length owns) more
lines_more m [] more = ap (λ (k : ℕ). mutator_lines k more) (let e : m ≡ m + 0 = omega arith in e)
lines_more m (x ∷ owns) more =
    let k : (m + 1) + length owns ≡ m + length (x ∷ owns) = omega arith in
    let line : List (List (List ℕ)) = mutator_words m x.serial ∷ own_lines x in
    ap (λ (l : List (List (List ℕ))). line ++ l) (lines_more (m + 1) owns more) ∙
    sym (append_assoc line (mutator_lines (m + 1) owns) (mutator_lines ((m + 1) + length owns) more)) ∙
    ap (λ (j : ℕ). (line ++ mutator_lines (m + 1) owns) ++ mutator_lines j more) k

-- neither objects nor the end came yet
open_lines : (m : ℕ) (owns : List ImageMutator) → lines_at m owns [] false ≡ first_part m ++ mutator_lines 0 owns
unfolding last_part
open_lines m owns = append-nil ((first_part m ++ mutator_lines 0 owns) ++ []) ∙ append-nil (first_part m ++ mutator_lines 0 owns)

-- so far neither objects nor the end came
record IsOpen (r : Reader) : Type 0 where
  no_node : r.nodes ≡ []
  no_end : r.ended ≡ false

is_open_means : (r : Reader) → is_open r ≡ true → IsOpen r
is_open_means r e =
    let p = and_parts (eqb (length r.nodes) 0) (not r.ended) e in
    record { no_node = nil_from_length r.nodes (eqb-true (length r.nodes) 0 p.0); no_end = unmarked r.ended p.1 }

is_full_means : (r : Reader) → is_full r ≡ true → IsFull r × (r.ended ≡ false)
is_full_means r e =
    let p = and_parts (ltb 0 r.expected && eqb (length (begun r)) r.expected) (not r.ended) e in
    let q = and_parts (ltb 0 r.expected) (eqb (length (begun r)) r.expected) p.0 in
    (record { some = let lt = ltb-true 0 r.expected q.0 in omega arith; all = eqb-true (length (begun r)) r.expected q.1 }, unmarked r.ended p.1)

-- the lines of an open reader with these mutators
open_is : (r : Reader) → IsOpen r → lines_so_far r ≡ first_part r.expected ++ mutator_lines 0 (begun r)
open_is r o = ap (λ (l : List Entry). lines_at r.expected (begun r) l r.ended) o.no_node ∙
    ap (λ (b : Bool). lines_at r.expected (begun r) [] b) o.no_end ∙ open_lines r.expected (begun r)

module _ (d : Name → Bool) (r : Reader) (g : IsGood d r) where
  -- before the first line nothing came
  nothing_before : r.expected ≡ 0 → (begun r ≡ []) × (r.nodes ≡ []) × (r.ended ≡ false)
  nothing_before none = (
    (let le = g.within in nil_from_length (begun r) (omega arith)),
    (elim g.full [ inl e ↦ e | inr f ↦ absurd (let le = f.some in omega arith) ]),
    (elim (cases_Bool r.ended) [ inl is_yes ↦ absurd (let f = g.last is_yes in let le = f.0.some in omega arith) | inr is_no ↦ is_no ]),
  )

  first_goes : (words : List (List ℕ)) (t : Reader) → first_at r words ≡ Some t → Goes d r (codes "image" ∷ words) t
  unfolding first_at first_part last_part
  first_goes [] t e = absurd cc
  first_goes (a ∷ []) t e = absurd cc
  first_goes (a ∷ b ∷ other ∷ others) t e = absurd cc
  first_goes (version ∷ count ∷ []) t e =
      let g1 = guard_some (bytes_eq version (codes "1") && eqb r.expected 0) _ t e in
      let p = and_parts (bytes_eq version (codes "1")) (eqb r.expected 0) g1.0 in
      let m = bind_some (number_at MAKERS count) _ t g1.1 in
      let g2 = guard_some (ltb 0 m.0) _ t m.2 in
      let n = number_takes MAKERS count m.0 m.1 in
      let none : r.expected ≡ 0 = eqb-true r.expected 0 p.1 in
      let before = nothing_before none in
      let some : 0 < m.0 = ltb-true 0 m.0 g2.0 in
      let next : Reader = record r { expected = m.0 } in
      let was : lines_so_far r ≡ [] = ap (λ (k : ℕ). lines_at k (begun r) r.nodes r.ended) none ∙
      ap (λ (l : List ImageMutator). lines_at 0 l r.nodes r.ended) before.0 ∙ ap (λ (l : List Entry). lines_at 0 [] l r.ended) before.1 ∙
      ap (λ (b : Bool). lines_at 0 [] [] b) before.2 in
      let one : lines_at m.0 [] [] false ≡ first_words m.0 ∷ [] = rw (ne_eqb m.0 0 (λ z. omega arith)) refl in
      let now : lines_so_far next ≡ first_words m.0 ∷ [] = ap (λ (l : List ImageMutator). lines_at m.0 l r.nodes r.ended) before.0 ∙
      ap (λ (l : List Entry). lines_at m.0 [] l r.ended) before.1 ∙ ap (λ (b : Bool). lines_at m.0 [] [] b) before.2 ∙ one in
      let text : first_words m.0 ≡ codes "image" ∷ version ∷ count ∷ [] =
      let v : version ≡ codes "1" = (bytes_eq-Decides version (codes "1")).0 p.0 in cc (v, n.0) in
      let good : IsGood d next = record {
        few = n.1;
        within = let le = g.within in omega arith;
        owns = g.owns;
        owns_in = g.owns_in;
        ordered = g.ordered;
        nodes = g.nodes;
        nodes_in = g.nodes_in;
        full = inl before.1;
        last = λ is_yes. absurd (false≢true (sym before.2 ∙ is_yes));
      } in
      let goes : Goes d r (codes "image" ∷ version ∷ count ∷ []) next = record {
        good = good;
        lines_are = now ∙
            ap (λ (l : List (List ℕ)). l ∷ []) text ∙ ap (λ (l : List (List (List ℕ))). l ++ (codes "image" ∷ version ∷ count ∷ []) ∷ []) (sym was);
      } in
      subst (Goes d r (codes "image" ∷ version ∷ count ∷ [])) (same_Some next t g2.1) goes

  -- an open reader with other mutators is good
  open_good : (o : IsOpen r) (done : List ImageMutator) (current : Option ImageMutator) → length (done ++ option_to_list current) ≤ r.expected →
      All IsMutator (done ++ option_to_list current) → All (λ (own : ImageMutator). All (IsIn d) (values_of own)) (done ++ option_to_list current) →
      IsGood d (record r { done = done; current = current })
  open_good o done current within owns owns_in = record {
    few = g.few;
    within = within;
    owns = owns;
    owns_in = owns_in;
    ordered = g.ordered;
    nodes = subst (λ (l : List Entry). All (IsEntry (done ++ option_to_list current)) l) (sym o.no_node) (All-nil (IsEntry (done ++ option_to_list current)));
    nodes_in = g.nodes_in;
    full = inl o.no_node;
    last = λ is_yes. absurd (false≢true (sym o.no_end ∙ is_yes));
  }

  mutator_goes : (words : List (List ℕ)) (t : Reader) → mutator_at r words ≡ Some t → Goes d r (codes "mutator" ∷ words) t
  unfolding mutator_at
  mutator_goes [] t e = absurd cc
  mutator_goes (a ∷ []) t e = absurd cc
  mutator_goes (a ∷ b ∷ []) t e = absurd cc
  mutator_goes (a ∷ b ∷ c ∷ other ∷ others) t e = absurd cc
  mutator_goes (m ∷ word ∷ serial ∷ []) t e =
      let g1 = guard_some (bytes_eq word (codes "serial") && is_open r && ltb (length (begun r)) r.expected) _ t e in
      let p = and_parts (bytes_eq word (codes "serial") && is_open r) (ltb (length (begun r)) r.expected) g1.0 in
      let q = and_parts (bytes_eq word (codes "serial")) (is_open r) p.0 in
      let k = bind_some (number_at MAKERS m) _ t g1.1 in
      let s = bind_some (number_at (2 ^ 32 - 1) serial) _ t k.2 in
      let g2 = guard_some (eqb k.0 (length (begun r))) _ t s.2 in
      let kt = number_takes MAKERS m k.0 k.1 in
      let st = number_takes (2 ^ 32 - 1) serial s.0 s.1 in
      let o = is_open_means r q.1 in
      let lt : length (begun r) < r.expected = ltb-true (length (begun r)) r.expected p.1 in
      let same : k.0 ≡ length (begun r) = eqb-true k.0 (length (begun r)) g2.0 in
      let own : ImageMutator = new_own s.0 in
      let is_own : IsMutator own = record { serial = let le = st.1 in omega arith; ordered = tt; registers = All-nil IsHeld; queue = All-nil IsValue } in
      let next : Reader = record r { done = begun r; current = Some own } in
      let good : IsGood d next = open_good o (begun r) (Some own) (omega (
        arith,
        length_push (begun r) own,
      )) (All-push IsMutator (begun r) own g.owns is_own) (All-push (λ (x : ImageMutator).
      All (IsIn d) (values_of x)) (begun r) own g.owns_in (All-nil (IsIn d))) in
      let opened : IsOpen next = record { no_node = o.no_node; no_end = o.no_end } in
      let text : mutator_words (length (begun r)) s.0 ≡ codes "mutator" ∷ m ∷ word ∷ serial ∷ [] =
      let w : word ≡ codes "serial" = (bytes_eq-Decides word (codes "serial")).0 q.0 in cc (w, kt.0, st.0, same) in
      let more : lines_so_far next ≡ lines_so_far r ++ mutator_words (length (begun r)) s.0 ∷ [] =
      open_is next opened ∙ ap (λ (l : List (List (List ℕ))). first_part r.expected ++ l) (lines_push 0 (begun r) own) ∙
      sym (append_assoc (first_part r.expected) (mutator_lines 0 (begun r)) (mutator_words (0 + length (begun r)) s.0 ∷ [])) ∙
      ap (λ (l : List (List (List ℕ))). l ++ mutator_words (0 + length (begun r)) s.0 ∷ []) (sym (open_is r o)) ∙
      ap (λ (j : ℕ). lines_so_far r ++ mutator_words j s.0 ∷ []) (let z : 0 + length (begun r) ≡ length (begun r) = omega arith in z) in
      subst (Goes d r (codes "mutator" ∷ m ∷ word ∷ serial ∷ [])) (same_Some next t g2.1) (record {
        good = good;
        lines_are = more ∙
            ap (λ (l : List (List ℕ)). lines_so_far r ++ l ∷ []) text;
      })

-- registers in order, and one more above them
above_more : (rs : List Held) (h : Held) → AreInOrder rs → is_above rs h.register ≡ true → AreInOrder (rs ++ h ∷ [])
above_more [] h o e = tt
above_more (x ∷ []) h o e = (ltb-true x.register h.register e, tt)
above_more (x ∷ y ∷ rs) h o e = (o.0, above_more (y ∷ rs) h o.1 e)

some_value : (v : Value) → not (is_nil v) ≡ true → v ≢ Nil
some_value Nil e = absurd (false≢true e)
some_value (Number n) e = λ s. absurd cc
some_value (Ref name) e = λ s. absurd cc

-- all values of a mutator with one more register, and with one more entry
values_register : (P : Value → Type 0) (own : ImageMutator) (h : Held) → All P (values_of own) → P h.value → All P (values_of (with_register own h))
values_register P own h all one =
    let f : Held → Value = λ held. held.value in
    let values : List Value = map f own.registers in
    subst (λ (l : List Value). All P (l ++ own.queue)) (sym (map_push f own.registers h)) (All-append P (values ++ h.value ∷
    []) own.queue (All-push P values h.value (all_front P values own.queue all) one) (all_back P values own.queue all))

values_entry : (P : Value → Type 0) (own : ImageMutator) (v : Value) → All P (values_of own) → P v → All P (values_of (with_entry own v))
values_entry P own v all one =
    let values : List Value = map (λ (held : Held). held.value) own.registers in
    subst (All P) (append_assoc values own.queue (v ∷ [])) (All-push P (values ++ own.queue) v all one)

-- the last mutator has one line more
last_longer : (done : List ImageMutator) (own more : ImageMutator) (words : List (List ℕ)) → more.serial ≡ own.serial →
    own_lines more ≡ own_lines own ++ words ∷ [] → mutator_lines 0 (done ++ more ∷ []) ≡ mutator_lines 0 (done ++ own ∷ []) ++ words ∷ []
last_longer done own more words serial lines =
    let line : List (List (List ℕ)) = mutator_words (0 + length done) own.serial ∷ own_lines own in
    lines_push 0 done more
    ∙ ap (λ (k : ℕ). mutator_lines 0 done ++ (mutator_words (0 + length done) k ∷ own_lines more)) serial
    ∙ ap (λ (l : List (List (List ℕ))). mutator_lines 0 done ++ (mutator_words (0 + length done) own.serial ∷ l)) lines
    ∙ sym (append_assoc (mutator_lines 0 done) line (words ∷ []))
    ∙ ap (λ (l : List (List (List ℕ))). l ++ words ∷ []) (sym (lines_push 0 done own))

register_lines : (own : ImageMutator) (h : Held) → own.queue ≡ [] → own_lines (with_register own h) ≡ own_lines own ++ register_words h ∷ []
register_lines own h none =
    let rs : List (List (List ℕ)) = map register_words own.registers in
    ap (λ (l : List Value). map register_words (own.registers ++ h ∷ []) ++ map queue_words l) none
    ∙ append-nil (map register_words (own.registers ++ h ∷ []))
    ∙ map_push register_words own.registers h
    ∙ ap (λ (l : List (List (List ℕ))). l ++ register_words h ∷ []) (sym (append-nil rs) ∙ ap (λ (l : List Value). rs ++ map queue_words l) (sym none))

entry_lines : (own : ImageMutator) (v : Value) → own_lines (with_entry own v) ≡ own_lines own ++ queue_words v ∷ []
entry_lines own v =
    let rs : List (List (List ℕ)) = map register_words own.registers in
    ap (λ (l : List (List (List ℕ))). rs ++ l) (map_push queue_words own.queue v) ∙ sym (append_assoc rs (map queue_words own.queue) (queue_words v ∷ []))

pub is_name_before : (a b : Name) → is_before a b ≡ true → IsBefore a b
is_name_before a b e = elim (or_cases (ltb a.maker b.maker) (eqb a.maker b.maker && ltb a.serial b.serial) e) [
  | inl lt ↦ inl (ltb-true a.maker b.maker lt)
  | inr p ↦ let q = and_parts (eqb a.maker b.maker) (ltb a.serial b.serial) p in inr (eqb-true a.maker b.maker q.0, ltb-true a.serial b.serial q.1)
]

pub after_more : (nodes : List Entry) (entry : Entry) → IsInOrder (names_of nodes) → is_after nodes entry.name ≡ true →
    IsInOrder (names_of (nodes ++ entry ∷ []))
after_more [] entry o e = tt
after_more (x ∷ []) entry o e = (is_name_before x.name entry.name e, tt)
after_more (x ∷ y ∷ nodes) entry o e = (o.0, after_more (y ∷ nodes) entry o.1 e)

shared_means : (node : Node) → is_shared node ≡ true → IsShared node
shared_means (Con tag values) e = absurd (false≢true e)
shared_means (Var v) e = absurd (false≢true e)
shared_means (Arr values) e = eqb-true (length values) SHARED_SLOTS e
shared_means (Thunk free result) e = absurd (false≢true e)
shared_means (Weak parts) e = absurd (false≢true e)
shared_means (Stack size values) e = absurd (false≢true e)

below_means : (o : Option ImageMutator) (serial : ℕ) → is_below o serial ≡ true → (own : ImageMutator) × (o ≡ Some own) × (serial < own.serial)
below_means None serial e = absurd (false≢true e)
below_means (Some own) serial e = (own, refl, ltb-true serial own.serial e)

owned_means : (mutators : List ImageMutator) (entry : Entry) → is_owned mutators entry ≡ true → IsOwned mutators entry
owned_means mutators entry e =
    elim (chosen (is_same_name entry.name shared_name) (is_shared entry.node) (is_below (slice_get mutators entry.name.maker) entry.name.serial) true e) [
      | inl p ↦
          let q = and_parts (eqb entry.name.maker SHARED_MAKER) (eqb entry.name.serial 0) p.0 in
          inl (same_name entry.name shared_name (eqb-true entry.name.maker SHARED_MAKER q.0) (eqb-true entry.name.serial 0 q.1), shared_means entry.node p.1)
      | inr p ↦
          let below = below_means (slice_get mutators entry.name.maker) entry.name.serial p.1 in
          inr ((λ is. both_ways (is_same_name entry.name shared_name) p.0 (is_same is)), (below.0, below.1, below.2))
    ]
  where
    is_same : entry.name ≡ shared_name → is_same_name entry.name shared_name ≡ true
    is_same is = rw (eq-eqb entry.name.maker SHARED_MAKER (ap (λ (n : Name). n.maker) is), eq-eqb entry.name.serial 0 (ap (λ (n : Name). n.serial) is)) refl

all_in_means : (d : Name → Bool) (vs : List Value) → list_all (is_declared d) vs ≡ true → AllByRecursion (IsIn d) vs
all_in_means d [] e = tt
all_in_means d (v ∷ vs) e = let p = and_parts (is_declared d v) (list_all (is_declared d) vs) e in (p.0, all_in_means d vs p.1)

module _ (d : Name → Bool) (r : Reader) (g : IsGood d r) where
  -- the last mutator of an open reader has one line more
  last_goes : (o : IsOpen r) (own more : ImageMutator) (words : List (List ℕ)) → r.current ≡ Some own → IsMutator more →
      All (IsIn d) (values_of more) → more.serial ≡ own.serial → own_lines more ≡ own_lines own ++ words ∷ [] →
      Goes d r words (record r { current = Some more })
  last_goes o own more words is valid is_in serial lines =
      let next : Reader = record r { current = Some more } in
      let was : begun r ≡ r.done ++ own ∷ [] = ap (λ (c : Option ImageMutator). r.done ++ option_to_list c) is in
      let owns : All IsMutator (r.done ++ own ∷ []) = subst (All IsMutator) was g.owns in
      let owns_in : All (λ (x : ImageMutator). All (IsIn d) (values_of x)) (r.done ++ own ∷ []) =
      subst (All (λ (x : ImageMutator). All (IsIn d) (values_of x))) was g.owns_in in
      let long : length (begun r) ≡ length r.done + 1 = ap length was ∙ length_push r.done own in
      let good : IsGood d next = open_good d r g o r.done (Some more) (let le = g.within in
      omega (arith, length_push r.done more)) (All-push IsMutator r.done more (all_front IsMutator r.done (own ∷
      []) owns) valid) (All-push (λ (x : ImageMutator).
      All (IsIn d) (values_of x)) r.done more (all_front (λ (x : ImageMutator). All (IsIn d) (values_of x)) r.done (own ∷ []) owns_in) is_in) in
      let opened : IsOpen next = record { no_node = o.no_node; no_end = o.no_end } in
      record {
        good = good;
        lines_are =
            open_is next opened ∙ ap (λ (l : List (List (List ℕ))). first_part r.expected ++ l) (last_longer r.done own more words serial lines) ∙
            sym (append_assoc (first_part r.expected) (mutator_lines 0 (r.done ++ own ∷ [])) (words ∷ [])) ∙
            ap (λ (l : List ImageMutator). (first_part r.expected ++ mutator_lines 0 l) ++ words ∷ []) (sym was) ∙
            ap (λ (l : List (List (List ℕ))). l ++ words ∷ []) (sym (open_is r o));
      }

  -- the mutator that is being read
  current_is : (own : ImageMutator) → r.current ≡ Some own → IsMutator own × All (IsIn d) (values_of own)
  current_is own is =
      let was : begun r ≡ r.done ++ own ∷ [] = ap (λ (c : Option ImageMutator). r.done ++ option_to_list c) is in (
        All-head IsMutator own [] (all_back IsMutator r.done (own ∷ []) (subst (All IsMutator) was g.owns)),
        All-head (λ (x : ImageMutator). All (IsIn d) (values_of x)) own [] (all_back (λ (x : ImageMutator).
            All (IsIn d) (values_of x)) r.done (own ∷ []) (subst (All (λ (x : ImageMutator). All (IsIn d) (values_of x))) was g.owns_in)),
      )

  register_goes : (words : List (List ℕ)) (t : Reader) → register_at d r words ≡ Some t → Goes d r (codes "register" ∷ words) t
  unfolding register_at
  register_goes [] t e = absurd cc
  register_goes (a ∷ []) t e = absurd cc
  register_goes (a ∷ b ∷ other ∷ others) t e = absurd cc
  register_goes (register ∷ word ∷ []) t e =
      let g1 = guard_some (is_open r) _ t e in
      let own = bind_some r.current _ t g1.1 in
      let n = bind_some (number_at (REGISTERS - 1) register) _ t own.2 in
      let v = bind_some (value_at word) _ t n.2 in
      let g2 = guard_some (eqb (length own.0.queue) 0 && is_above own.0.registers n.0 && not (is_nil v.0) && is_declared d v.0) _ t v.2 in
      let p = and_parts (eqb (length own.0.queue) 0 && is_above own.0.registers n.0 && not (is_nil v.0)) (is_declared d v.0) g2.0 in
      let q = and_parts (eqb (length own.0.queue) 0 && is_above own.0.registers n.0) (not (is_nil v.0)) p.0 in
      let s = and_parts (eqb (length own.0.queue) 0) (is_above own.0.registers n.0) q.0 in
      let nt = number_takes (REGISTERS - 1) register n.0 n.1 in
      let vt = value_reads.takes word v.0 v.1 in
      let held : Held = record { register = n.0; value = v.0 } in
      let was = current_is own.0 own.1 in
      let none : own.0.queue ≡ [] = nil_from_length own.0.queue (eqb-true (length own.0.queue) 0 s.0) in
      let is_held : IsHeld held = record { register = let le = nt.1 in omega arith; some = some_value v.0 q.1; valid = vt.1 } in
      let valid : IsMutator (with_register own.0 held) = record {
        serial = was.0.serial;
        ordered = above_more own.0.registers held was.0.ordered s.1;
        registers = All-push IsHeld own.0.registers held was.0.registers is_held;
        queue = was.0.queue;
      } in
      let text : register_words held ≡ codes "register" ∷ register ∷ word ∷ [] = cc (nt.0, vt.0) in
      let goes = last_goes (is_open_means r g1.0) own.0 (with_register own.0 held) (register_words held) own.1 valid
      (values_register (IsIn d) own.0 held was.1 p.1) refl (register_lines own.0 held none) in
      subst (Goes d r (codes "register" ∷ register ∷ word ∷ [])) (same_Some (record r {
        current =
            Some (with_register own.0 held);
      }) t g2.1) (subst (λ (l : List (List ℕ)).
      Goes d r l (record r { current = Some (with_register own.0 held) })) text goes)

  queue_goes : (words : List (List ℕ)) (t : Reader) → queue_at d r words ≡ Some t → Goes d r (codes "queue" ∷ words) t
  unfolding queue_at
  queue_goes [] t e = absurd cc
  queue_goes (a ∷ other ∷ others) t e = absurd cc
  queue_goes (word ∷ []) t e =
      let g1 = guard_some (is_open r) _ t e in
      let own = bind_some r.current _ t g1.1 in
      let v = bind_some (value_at word) _ t own.2 in
      let g2 = guard_some (is_declared d v.0) _ t v.2 in
      let vt = value_reads.takes word v.0 v.1 in
      let was = current_is own.0 own.1 in
      let valid : IsMutator (with_entry own.0 v.0) = record {
        serial = was.0.serial;
        ordered = was.0.ordered;
        registers = was.0.registers;
        queue = All-push IsValue own.0.queue v.0 was.0.queue vt.1;
      } in
      let text : queue_words v.0 ≡ codes "queue" ∷ word ∷ [] = let w : word ≡ _ = vt.0 in cc w in
      let goes = last_goes (is_open_means r g1.0) own.0 (with_entry own.0 v.0) (queue_words v.0) own.1 valid
      (values_entry (IsIn d) own.0 v.0 was.1 g2.0) refl (entry_lines own.0 v.0) in
      subst (Goes d r (codes "queue" ∷ word ∷ [])) (same_Some (record r {
        current =
            Some (with_entry own.0 v.0);
      }) t g2.1) (subst (λ (l : List (List ℕ)). Goes d r l (record r { current = Some (with_entry own.0 v.0) })) text goes)

  node_goes : (words : List (List ℕ)) (t : Reader) → next_at d r words ≡ Some t → Goes d r (codes "node" ∷ words) t
  unfolding next_at last_part
  node_goes words t e =
      let b = bind_some (entry_at words) _ t e in
      let entry : Entry = b.0 in
      let g1 = guard_some (can_follow d r b.0) _ t b.2 in
      let p = and_parts (is_full r && is_after r.nodes entry.name && is_owned (begun r) entry) (list_all (is_declared d) (held_by entry.node)) g1.0 in
      let q = and_parts (is_full r && is_after r.nodes entry.name) (is_owned (begun r) entry) p.0 in
      let s = and_parts (is_full r) (is_after r.nodes entry.name) q.0 in
      let full = is_full_means r s.0 in
      let et = entry_takes words b.0 b.1 in
      let is_entry : IsEntry (begun r) entry = record {
        owned = owned_means (begun r) entry q.1;
        node = et.1.1;
        values = All-from_recursion IsValue (held_by entry.node) et.1.2;
      } in
      let next : Reader = record r { nodes = r.nodes ++ entry ∷ [] } in
      let good : IsGood d next = record {
        few = g.few;
        within = g.within;
        owns = g.owns;
        owns_in = g.owns_in;
        ordered = after_more r.nodes entry g.ordered s.1;
        nodes = All-push (IsEntry (begun r)) r.nodes entry g.nodes is_entry;
        nodes_in = All-push (λ (x : Entry).
            All (IsIn d) (held_by x.node)) r.nodes entry g.nodes_in
            (All-from_recursion (IsIn d) (held_by entry.node) (all_in_means d (held_by entry.node) p.1));
        full = inr (record { some = full.0.some; all = full.0.all });
        last = λ is_yes. absurd (false≢true (sym full.1 ∙ is_yes));
      } in
      let front : List (List (List ℕ)) = first_part r.expected ++ mutator_lines 0 (begun r) in
      let more : lines_so_far next ≡ lines_so_far r ++ entry_words entry ∷ [] =
      ap (λ (e : Bool). lines_at r.expected (begun r) (r.nodes ++ entry ∷ []) e) full.1
      ∙ append-nil (front ++ map entry_words (r.nodes ++ entry ∷ []))
      ∙ ap (λ (l : List (List (List ℕ))). front ++ l) (map_push entry_words r.nodes entry)
      ∙ sym (append_assoc front (map entry_words r.nodes) (entry_words entry ∷ []))
      ∙ ap (λ (l : List (List (List ℕ))). l ++ entry_words entry ∷ []) (sym (append-nil (front ++ map entry_words r.nodes)) ∙
      ap (λ (e : Bool). lines_at r.expected (begun r) r.nodes e) (sym full.1)) in
      subst (Goes d r (codes "node" ∷ words)) (same_Some next t g1.1) (record {
        good = good;
        lines_are = more ∙
            ap (λ (l : List (List ℕ)). lines_so_far r ++ l ∷ []) (sym et.0);
      })

  end_goes : (words : List (List ℕ)) (t : Reader) → end_at d r words ≡ Some t → Goes d r (codes "end" ∷ words) t
  unfolding end_at last_part
  end_goes (a ∷ others) t e = absurd cc
  end_goes [] t e =
      let g1 = guard_some (is_full r && d shared_name) _ t e in
      let p = and_parts (is_full r) (d shared_name) g1.0 in
      let full = is_full_means r p.0 in
      let next : Reader = record r { ended = true } in
      let good : IsGood d next = record {
        few = g.few;
        within = g.within;
        owns = g.owns;
        owns_in = g.owns_in;
        ordered = g.ordered;
        nodes = g.nodes;
        nodes_in = g.nodes_in;
        full = inr (record { some = full.0.some; all = full.0.all });
        last = λ is_yes. (record { some = full.0.some; all = full.0.all }, p.1);
      } in
      let front : List (List (List ℕ)) = (first_part r.expected ++ mutator_lines 0 (begun r)) ++ map entry_words r.nodes in
      let more : lines_so_far next ≡ lines_so_far r ++ last_words ∷ [] =
      ap (λ (l : List (List (List ℕ))). l ++ last_words ∷ []) (sym (append-nil front) ∙
      ap (λ (b : Bool). lines_at r.expected (begun r) r.nodes b) (sym full.1)) in
      subst (Goes d r (codes "end" ∷ [])) (same_Some next t g1.1) (record { good = good; lines_are = more })

  at_word : (word text : List ℕ) (words : List (List ℕ)) (t : Reader) → bytes_eq word text ≡ true → Goes d r (text ∷ words) t → Goes d r (word ∷ words) t
  at_word word text words t e s = subst (λ (l : List ℕ). Goes d r (l ∷ words) t) (sym ((bytes_eq-Decides word text).0 e)) s

  pub line_goes : (words : List (List ℕ)) (t : Reader) → line_at d r words ≡ Some t → Goes d r words t
  unfolding line_at
  line_goes [] t e = absurd cc
  line_goes (word ∷ words) t e = elim (chosen (bytes_eq word (codes "image")) (first_at r words) _ (Some t) e) [
    | inl p ↦ at_word word (codes "image") words t p.0 (first_goes d r g words t p.1)
    | inr p ↦ elim (chosen (bytes_eq word (codes "mutator")) (mutator_at r words) _ (Some t) p.1) [
      | inl q ↦ at_word word (codes "mutator") words t q.0 (mutator_goes d r g words t q.1)
      | inr q ↦ elim (chosen (bytes_eq word (codes "register")) (register_at d r words) _ (Some t) q.1) [
        | inl s ↦ at_word word (codes "register") words t s.0 (register_goes words t s.1)
        | inr s ↦ elim (chosen (bytes_eq word (codes "queue")) (queue_at d r words) _ (Some t) s.1) [
          | inl u ↦ at_word word (codes "queue") words t u.0 (queue_goes words t u.1)
          | inr u ↦ elim (chosen (bytes_eq word (codes "node")) (next_at d r words) _ (Some t) u.1) [
            | inl w ↦ at_word word (codes "node") words t w.0 (node_goes words t w.1)
            | inr w ↦ let z = guard_some (bytes_eq word (codes "end")) (end_at d r words) t w.1 in at_word word (codes "end") words t z.0 (end_goes words t z.1)
          ]
        ]
      ]
    ]
  ]

-- lines that were taken are the lines so far
pub run_goes : (d : Name → Bool) (lines : List (List (List ℕ))) (r t : Reader) → IsGood d r → run d r lines ≡ Some t → IsGood d t ×
    (lines_so_far t ≡ lines_so_far r ++ lines)
run_goes d [] r t g e = (subst (IsGood d) (same_Some r t e) g, ap lines_so_far (sym (same_Some r t e)) ∙ sym (append-nil (lines_so_far r)))
run_goes d (words ∷ lines) r t g e =
    let b = bind_some (line_at d r words) _ t e in
    let one = line_goes d r g words b.0 b.1 in
    let more = run_goes d lines b.0 t one.good b.2 in
    (more.0, more.1 ∙ ap (λ (l : List (List (List ℕ))). l ++ lines) one.lines_are ∙ append_assoc (lines_so_far r) (words ∷ []) lines)

-- THE IMAGE THAT BEGINS WITH THE LINES

-- an image begins with the lines, and mentions only declared names
pub record IsPart (d : Name → Bool) (lines : List (List (List ℕ))) : Type 0 where
  pub image : Image
  pub orderly : IsOrderly image
  pub mutators_in : All (λ (own : ImageMutator). All (IsIn d) (values_of own)) image.mutators
  pub nodes_in : All (λ (entry : Entry). All (IsIn d) (held_by entry.node)) image.nodes
  pub rest : List (List (List ℕ))
  pub lines_are : image_lines image ≡ lines ++ rest
  pub shared : rest ≡ [] → d shared_name ≡ true

abbrev image_with : List ImageMutator → List Entry → Image
image_with mutators nodes = record { mutators = mutators; nodes = nodes }

first_some : (m : ℕ) → 1 ≤ m → first_part m ≡ first_words m ∷ []
unfolding first_part
first_some m some = rw (ne_eqb m 0 (λ e. omega arith)) refl

never_nil : {A : Type 0} (x : A) (xs : List A) → x ∷ xs ≡ [] → ⊥
never_nil x xs e = absurd cc

not_nil_end : {A : Type 0} (xs : List A) (x : A) → xs ++ x ∷ [] ≡ [] → ⊥
not_nil_end xs x e = absurd (let l : length (xs ++ x ∷ []) ≡ 0 = ap length e in omega (arith, length_push xs x))

-- a mutator that made nothing
idle : ImageMutator
idle = record { serial = 0; registers = []; queue = [] }

idle_is : IsMutator idle
unfolding idle
idle_is = record { serial = omega arith; ordered = tt; registers = All-nil IsHeld; queue = All-nil IsValue }

idle_in : (d : Name → Bool) → All (IsIn d) (values_of idle)
unfolding idle
idle_in d = All-nil (IsIn d)

module _ (d : Name → Bool) (r : Reader) (g : IsGood d r) where
  full_orderly : IsFull r → IsOrderly (image_of r)
  full_orderly f = record {
    some = let n = f.some in let same = f.all in omega arith;
    few = let few = g.few in let same = f.all in omega arith;
    mutators = g.owns;
    ordered = g.ordered;
    nodes = g.nodes;
  }

  full_lines : IsFull r → image_lines (image_of r) ≡ ((first_part r.expected ++ mutator_lines 0 (begun r)) ++ map entry_words r.nodes) ++ last_words ∷ []
  full_lines f = ap (λ (l : List (List (List ℕ))). ((l ++ mutator_lines 0 (begun r)) ++ map entry_words r.nodes) ++ last_words ∷
      []) (ap (λ (k : ℕ). first_words k ∷ []) f.all ∙ sym (first_some r.expected f.some))

  -- the end came
  ended_part : r.ended ≡ true → IsPart d (lines_so_far r)
  unfolding last_part
  ended_part is_yes =
      let f = g.last is_yes in
      record {
        image = image_of r;
        orderly = full_orderly f.0;
        mutators_in = g.owns_in;
        nodes_in = g.nodes_in;
        rest = [];
        lines_are = full_lines f.0 ∙ ap (λ (b : Bool). lines_at r.expected (begun r) r.nodes b) (sym is_yes) ∙ sym (append-nil (lines_so_far r));
        shared = λ none. f.1;
      }

  -- all mutators have begun
  full_part : IsFull r → r.ended ≡ false → IsPart d (lines_so_far r)
  unfolding last_part
  full_part f is_no =
      let front : List (List (List ℕ)) = (first_part r.expected ++ mutator_lines 0 (begun r)) ++ map entry_words r.nodes in
      record {
        image = image_of r;
        orderly = full_orderly f;
        mutators_in = g.owns_in;
        nodes_in = g.nodes_in;
        rest = last_words ∷ [];
        lines_are = full_lines f ∙ ap (λ (l : List (List (List ℕ))). l ++ last_words ∷ []) (sym (append-nil front) ∙
            ap (λ (b : Bool). lines_at r.expected (begun r) r.nodes b) (sym is_no));
        shared = λ none. absurd (never_nil last_words [] none);
      }

  -- some have not begun: mutators that made nothing follow
  fill : List ImageMutator
  fill = replicate (r.expected - length (begun r)) idle

  open_part : (o : IsOpen r) → 1 ≤ r.expected → IsPart d (lines_so_far r)
  unfolding fill
  open_part o some =
      let more : List ImageMutator = replicate (r.expected - length (begun r)) idle in
      let all : List ImageMutator = begun r ++ more in
      let long : length all ≡ r.expected = let le = g.within in
      omega (arith, length-append (begun r) more, length-replicate (r.expected - length (begun r)) idle) in
      let front : List (List (List ℕ)) = first_part r.expected ++ mutator_lines 0 (begun r) in
      let back : List (List (List ℕ)) = mutator_lines (0 + length (begun r)) more in
      let orderly : IsOrderly (image_with all []) = record {
        some = omega arith;
        few = let few = g.few in omega arith;
        mutators = All-append IsMutator (begun r) more g.owns (All-replicate IsMutator (r.expected - length (begun r)) idle idle_is);
        ordered = tt;
        nodes = All-nil (IsEntry all);
      } in
      record {
        image = image_with all [];
        orderly = orderly;
        mutators_in = All-append (λ (own : ImageMutator).
            All (IsIn d) (values_of own)) (begun r) more g.owns_in (All-replicate (λ (own : ImageMutator).
            All (IsIn d) (values_of own)) (r.expected - length (begun r)) idle (idle_in d));
        nodes_in = All-nil (λ (entry : Entry). All (IsIn d) (held_by entry.node));
        rest = back ++ last_words ∷ [];
        lines_are =
            ap (λ (k : ℕ). ((first_words k ∷ mutator_lines 0 all) ++ []) ++ last_words ∷ []) long
            ∙ ap (λ (l : List (List (List ℕ))). ((l ++ mutator_lines 0 all) ++ []) ++ last_words ∷ []) (sym (first_some r.expected some))
            ∙ ap (λ (l : List (List (List ℕ))). l ++ last_words ∷ []) (append-nil (first_part r.expected ++ mutator_lines 0 all))
            ∙ ap (λ (l : List (List (List ℕ))). (first_part r.expected ++ l) ++ last_words ∷ []) (lines_more 0 (begun r) more)
            ∙ ap (λ (l : List (List (List ℕ))). l ++ last_words ∷ []) (sym (append_assoc (first_part r.expected) (mutator_lines 0 (begun r)) back))
            ∙ append_assoc front back (last_words ∷ [])
            ∙ ap (λ (l : List (List (List ℕ))). l ++ (back ++ last_words ∷ [])) (sym (open_is r o));
        shared = λ none. absurd (not_nil_end back last_words none);
      }

  -- nothing came
  nothing_part : r.expected ≡ 0 → IsPart d (lines_so_far r)
  unfolding first_part last_part
  nothing_part zero_ =
      let before = nothing_before d r g zero_ in
      let was : lines_so_far r ≡ [] = ap (λ (k : ℕ). lines_at k (begun r) r.nodes r.ended) zero_ ∙
      ap (λ (l : List ImageMutator). lines_at 0 l r.nodes r.ended) before.0 ∙ ap (λ (l : List Entry). lines_at 0 [] l r.ended) before.1 ∙
      ap (λ (b : Bool). lines_at 0 [] [] b) before.2 in
      let image : Image = image_with (idle ∷ []) [] in
      record {
        image = image;
        orderly = record {
          some = omega arith;
          few = omega arith;
          mutators = All-push IsMutator [] idle (All-nil IsMutator) idle_is;
          ordered = tt;
          nodes = All-nil (IsEntry (idle ∷ []));
        };
        mutators_in = All-push (λ (own : ImageMutator). All (IsIn d) (values_of own)) [] idle (All-nil (λ (own : ImageMutator).
            All (IsIn d) (values_of own))) (idle_in d);
        nodes_in = All-nil (λ (entry : Entry). All (IsIn d) (held_by entry.node));
        rest = image_lines image;
        lines_are = ap (λ (l : List (List (List ℕ))). l ++ image_lines image) (sym was);
        shared = λ none. absurd (not_nil_end ((first_words 1 ∷ mutator_lines 0 (idle ∷ [])) ++ []) last_words none);
      }

  pub good_part : IsPart d (lines_so_far r)
  good_part = elim (cases_Bool r.ended) [
    | inl is_yes ↦ ended_part is_yes
    | inr is_no ↦ elim g.full [
      | inr f ↦ full_part f is_no
      | inl none ↦ elim (cases_lt 0 r.expected) [
        | inl some ↦ open_part (record { no_node = none; no_end = is_no }) (omega arith)
        | inr few ↦ nothing_part (omega arith)
      ]
    ]
  ]

-- once the end came, the lines are the image's lines
pub ended_lines : (d : Name → Bool) (r : Reader) → IsGood d r → r.ended ≡ true → lines_so_far r ≡ image_lines (image_of r)
unfolding last_part
ended_lines d r g is_yes =
    let f = g.last is_yes in
    sym (full_lines d r g f.0 ∙ ap (λ (b : Bool). lines_at r.expected (begun r) r.nodes b) (sym is_yes))

pub ended_orderly : (d : Name → Bool) (r : Reader) → IsGood d r → r.ended ≡ true → IsOrderly (image_of r)
ended_orderly d r g is_yes = full_orderly d r g (g.last is_yes).0
