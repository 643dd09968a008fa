-- A command that makes an object, in the world and in words.
use Rattle.nmgc_round.proofs.Vocabulary.{◌≡◌, ◌≢◌, Bool, cond, eq-eqb, ne_eqb, ℕ, zero, suc, ◌+◌, ◌*◌, ◌/◌, ◌≤◌, List, [], ◌∷◌, map, replicate, set, refl, sym, ap, ◌∙◌, arith, slice_index, Some, None, slice_get, length-map, length-replicate, Value, Node, Operand, Command, Num, Nil, Mov, Get, Tag, Set, Cas, Update, Force, Push, Pop, Deref, Finalise, NextFin, Show, Same, Yield, Collect, Full, World, state_of, IsSized, IsMaking, words_made, shared_name, value_of, born, step, owed_by, IsHeader, most_segment_words, SHARED_PLACE, header_of, size_of, slots_of, Place, Means, HasSlots, AllMean, ListMeans, item_all, values_fill, slots_of_fields, slots_at, word, Hand, word_of, leaves, header_made, fields_made}
use Rattle.nmgc_world_spec.specs.{declared.command.Command.TheVariants.Con, declared.command.Command.TheVariants.Var, declared.command.Command.TheVariants.Arr, declared.command.Command.TheVariants.Rec, declared.command.Command.TheVariants.Thunk, declared.command.Command.TheVariants.Weak, declared.command.Command.TheVariants.Stack, World.Fits}
use Rattle.nmgc_world_spec.specs.declared.node.Node.TheVariants as node
use Rattle.nmgc_round.proofs.Lists.{operand_means}

-- an object may have the header that a command makes, if it is no larger than a segment
pub made_header : (words : ℕ) (c : Command) → words ≤ most_segment_words → Fits words c → IsMaking c → IsHeader (header_made c)
made_header words (Con dest tag fields) le f m = (f.numbers, let z = f.size in omega arith)
made_header words (Var dest v) le f m = (refl, refl)
made_header words (Arr dest count v) le f m = (refl, let z = f.size in omega arith)
made_header words (Rec dest fields) le f m = (refl, let z = f.size in omega arith)
made_header words (Thunk dest free) le f m = (refl, (omega arith, let n = f.numbers in omega arith))
made_header words (Weak dest key v finaliser) le f m = (refl, refl)
made_header words (Stack dest size) le f m = (refl, let z = f.size in omega arith)
made_header words (Num dest number) le f m = absurd m
made_header words (Nil dest) le f m = absurd m
made_header words (Mov dest v) le f m = absurd m
made_header words (Get dest object index) le f m = absurd m
made_header words (Tag dest object) le f m = absurd m
made_header words (Set object index v) le f m = absurd m
made_header words (Cas object index expected v) le f m = absurd m
made_header words (Update object v) le f m = absurd m
made_header words (Force dest object) le f m = absurd m
made_header words (Push object v) le f m = absurd m
made_header words (Pop dest object) le f m = absurd m
made_header words (Deref dest object) le f m = absurd m
made_header words (Finalise dest object) le f m = absurd m
made_header words (NextFin dest) le f m = absurd m
made_header words (Show v) le f m = absurd m
made_header words (Same left right) le f m = absurd m
made_header words Yield le f m = absurd m
made_header words Collect le f m = absurd m
made_header words Full le f m = absurd m

-- these words lie at an address and after it
abbrev pub StandFrom : List ℕ → ℕ → List ℕ → Type 0
StandFrom words from us = (i w : ℕ) → slice_get us i ≡ Some w → slice_index words (from + i) ≡ w

-- the hand of a mutator after an allocation
pub record IsBearing (h next : Hand) (dest at : ℕ) (made : Node) : Type 0 where
  pub registers : next.registers ≡ set h.registers dest (2 * at)
  pub queue : next.queue ≡ h.queue
  pub serial : next.serial ≡ h.serial + 1
  pub others : (y : ℕ) → y ≢ at → slots_at next.stacks y ≡ slots_at h.stacks y
  pub first : (size : ℕ) (values : List Value) → made ≡ node.Stack size values → (values ≡ []) × (slots_at next.stacks at ≡ Some [])

-- the node that a command makes
pub record IsMaker (P : Place → Type 0) (regs : List ℕ) (w : World) (m : ℕ) (c : Command) : Type 0 where
  pub dest : ℕ
  pub made : Node
  pub does : step w m c ≡ born w m dest made
  pub head : header_of made ≡ header_made c
  pub size : words_made c ≡ size_of made
  pub sized : IsSized made
  pub owes : owed_by w m c ≡ []
  pub fields : (words : List ℕ) (from : ℕ) → StandFrom words from (fields_made regs c) → HasSlots P words from (slots_of made)
  pub hand : (h : Hand) (at : ℕ) → IsBearing h (leaves h c (word (2 * at))) dest at made

all_from : (P : Place → Type 0) (words : List ℕ) (from : ℕ) (us : List ℕ) (values : List Value) → ListMeans P us values → StandFrom words from us →
    AllMean P words from values
all_from P words from [] [] h k i v e = absurd cc
all_from P words from [] (y ∷ values) h k i v e = absurd h
all_from P words from (u ∷ us) [] h k i v e = absurd h
all_from P words from (u ∷ us) (y ∷ values) h k zero v e = let same : y ≡ v = cc in
    rw (← same) (rw (k 0 u refl) h.0)
all_from P words from (u ∷ us) (y ∷ values) h k (suc i) v e =
    let next : AllMean P words (from + 1) values = all_from P words (from + 1) us values h.1 (λ j w f.
    let s : from + 1 + j ≡ from + suc j = omega arith in cc (s, k (suc j) w f)) in
    let s : from + 1 + i ≡ from + suc i = omega arith in
    rw s at (next i v e)

operands_mean : (P : Place → Type 0) (ws : List ℕ) (vs : List Value) (operands : List Operand) →
    P (record { at = SHARED_PLACE; name = shared_name }) → ListMeans P ws vs → ListMeans P (map (word_of ws) operands) (map (value_of vs) operands)
operands_mean P ws vs [] g h = tt
operands_mean P ws vs (x ∷ xs) g h = (operand_means P ws vs x g h, operands_mean P ws vs xs g h)

pub replicate_means : (P : Place → Type 0) (n w : ℕ) (v : Value) → Means P w v → ListMeans P (replicate n w) (replicate n v)
replicate_means P zero w v m = tt
replicate_means P (suc n) w v m = (m, replicate_means P n w v m)

bearing_plain : (h : Hand) (dest at : ℕ) (made : Node) → ((size : ℕ) (values : List Value) → made ≡ node.Stack size values → ⊥) →
    IsBearing h (record h { serial = h.serial + 1; registers = set h.registers dest (2 * at) }) dest at made
bearing_plain h dest at made none = record {
  registers = refl;
  queue = refl;
  serial = refl;
  others = λ y ne. refl;
  first = λ size values e. absurd (none size values e);
}

module _ (P : Place → Type 0) (ws : List ℕ) (w : World) (m : ℕ) (g : P (record {
  at = SHARED_PLACE;
  name = shared_name;
})) (k : ListMeans P ws (state_of w m).registers) where
  abbrev vs : List Value
  vs = (state_of w m).registers

  at_first : (words : List ℕ) (from : ℕ) (us : List ℕ) (u : ℕ) → StandFrom words from (u ∷ us) → slice_index words from ≡ u
  at_first words from us u s = let z : from + 0 ≡ from = omega arith in cc (z, s 0 u refl)

  later : (words : List ℕ) (from : ℕ) (us : List ℕ) (u : ℕ) → StandFrom words from (u ∷ us) → StandFrom words (from + 1) us
  later words from us u s j x f = let e : from + 1 + j ≡ from + suc j = omega arith in cc (e, s (suc j) x f)

  pub maker : (c : Command) → IsMaking c → IsMaker P ws w m c
  maker (Con dest tag fields) is = record {
    dest = dest;
    made = node.Con tag (map (value_of vs) fields);
    does = refl;
    head = rw length-map refl;
    size = rw length-map refl;
    sized = tt;
    owes = refl;
    fields = λ words from s.
        values_fill P words from (map (value_of vs) fields) (all_from P words from (map (word_of ws) fields) (map (value_of vs) fields)
        (operands_mean P ws vs fields g k) s);
    hand = λ h at. bearing_plain h dest at _ (λ n values e. cc);
  }
  maker (Var dest v) is = record {
    dest = dest;
    made = node.Var (value_of vs v);
    does = refl;
    head = refl;
    size = refl;
    sized = tt;
    owes = refl;
    fields = λ words from s. slots_of_fields P words from (node.Var (value_of vs v)) (rw (at_first words from [] (word_of ws v) s) (operand_means P ws vs v g k));
    hand = λ h at. bearing_plain h dest at _ (λ n values e. cc);
  }
  maker (Arr dest count v) is = record {
    dest = dest;
    made = node.Arr (replicate count (value_of vs v));
    does = refl;
    head = rw length-replicate refl;
    size = rw length-replicate refl;
    sized = tt;
    owes = refl;
    fields = λ words from s.
        values_fill P words from (replicate count (value_of vs v))
        (all_from P words from (replicate count (word_of ws v)) (replicate count (value_of vs v))
        (replicate_means P count (word_of ws v) (value_of vs v) (operand_means P ws vs v g k)) s);
    hand = λ h at. bearing_plain h dest at _ (λ n values e. cc);
  }
  maker (Rec dest fields) is = record {
    dest = dest;
    made = node.Arr (map (value_of vs) fields);
    does = refl;
    head = rw length-map refl;
    size = rw length-map refl;
    sized = tt;
    owes = refl;
    fields = λ words from s.
        values_fill P words from (map (value_of vs) fields) (all_from P words from (map (word_of ws) fields) (map (value_of vs) fields)
        (operands_mean P ws vs fields g k) s);
    hand = λ h at. bearing_plain h dest at _ (λ n values e. cc);
  }
  maker (Thunk dest free) is = record {
    dest = dest;
    made = node.Thunk (map (value_of vs) free) None;
    does = refl;
    head = rw length-map refl;
    size = rw length-map (omega arith);
    sized = tt;
    owes = refl;
    fields = λ words from s.
        slots_of_fields P words from (node.Thunk (map (value_of vs) free) None) (
          at_first words from (map (word_of ws) free) 0 s,
          all_from P words (from + 1) (map (word_of ws) free) (map (value_of vs) free) (operands_mean P ws vs free g k)
              (later words from (map (word_of ws) free) 0 s),
        );
    hand = λ h at. bearing_plain h dest at _ (λ n values e. cc);
  }
  maker (Weak dest key v finaliser) is = record {
    dest = dest;
    made = node.Weak (Some (record { key = value_of vs key; value = value_of vs v; finaliser = value_of vs finaliser }));
    does = refl;
    head = refl;
    size = refl;
    sized = tt;
    owes = refl;
    fields = λ words from s. slots_of_fields P words from (node.Weak (Some (record {
      key = value_of vs key;
      value = value_of vs v;
      finaliser = value_of vs finaliser;
    }))) (
      rw (at_first words from (word_of ws v ∷ word_of ws finaliser ∷
          []) (word_of ws key) s) (operand_means P ws vs key g k),
      rw (s 1 (word_of ws v) refl) (operand_means P ws vs v g k),
      rw (s 2 (word_of ws finaliser) refl) (operand_means P ws vs finaliser g k),
    );
    hand = λ h at. bearing_plain h dest at _ (λ n values e. cc);
  }
  maker (Stack dest size) is = record {
    dest = dest;
    made = node.Stack size [];
    does = refl;
    head = refl;
    size = refl;
    sized = omega arith;
    owes = refl;
    fields = λ words from s. slots_of_fields P words from (node.Stack size []) (λ i v e. absurd cc, λ i l u. s i 0 (item_all size i 0 u));
    hand = λ h at. record {
      registers = refl;
      queue = refl;
      serial = refl;
      others = λ y ne. let half : 2 * at / 2 ≡ at = omega arith in
          ap (λ (b : Bool). cond b (Some []) (slots_at h.stacks y)) (ne_eqb (2 * at / 2) y (λ e. ne (sym e ∙ half)));
      first = λ n values e. let half : 2 * at / 2 ≡ at = omega arith in
          ((let none : [] ≡ values = cc in sym none), ap (λ (b : Bool). cond b (Some []) (slots_at h.stacks at)) (eq-eqb (2 * at / 2) at half));
    };
  }
  maker (Num dest number) is = absurd is
  maker (Nil dest) is = absurd is
  maker (Mov dest v) is = absurd is
  maker (Get dest object index) is = absurd is
  maker (Tag dest object) is = absurd is
  maker (Set object index v) is = absurd is
  maker (Cas object index expected v) is = absurd is
  maker (Update object v) is = absurd is
  maker (Force dest object) is = absurd is
  maker (Push object v) is = absurd is
  maker (Pop dest object) is = absurd is
  maker (Deref dest object) is = absurd is
  maker (Finalise dest object) is = absurd is
  maker (NextFin dest) is = absurd is
  maker (Show v) is = absurd is
  maker (Same left right) is = absurd is
  maker Yield is = absurd is
  maker Collect is = absurd is
  maker Full is = absurd is
