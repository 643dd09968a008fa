-- The work of the tests' mutators: each makes a variable, stores it into its slot of g and reads it back.
use Rattle.nmgc_heap_tests.proofs.Vocabulary.{◌≡◌, ℕ, zero, suc, ◌+◌, ◌*◌, ◌<◌, ◌≤◌, true, false, List, [], ◌∷◌, ◌++◌, map, length, get_or, set, take, drop, All, refl, sym, ap, subst, ◌∙◌, arith, Some, inl, Contains, slice_get, slice_index_or, length-replicate, get_or-replicate, some, some-injective, some-ne-none, get_elem?, SHARED_SLOTS, Command, Get, Set, Yield, Register, Shared, Fine, Fits, contains_head, contains_tail, nothing_in, one_is, name_word, IsLayout, nursery_place, Header, Layout, loaded, stored, gave_birth, swapped, answered, plain, word, Hand, FixedWord, UnbornWord, Opening, Part, Seen, no_hand, hand_of, hand_now, blank, finding, knowing, storing, bearing_object, doing, RoundSeat, seen, alone, alones, all_together, IsMutator, HasPart, CanGive, Names, CanLoad, CanSwap, CanStore, CanBear, CanFix, CanTake, taken, known_answer, HasAll, new_hand, first_opening, Round, gathered, alones_count, map_count}
use Rattle.nmgc_world_spec.specs.declared.command.Command.TheVariants.{Var}
use Rattle.nmgc_world_spec.specs.declared.node.Kind.TheVariants as kind

-- the view of a seat with one mutator's part
abbrev pub with_part : Layout → Part → Seen
with_part layout p = record { is_sole = false; words = []; opening = first_opening layout; parts = p ∷ []; collects = false; scans = [] }

pub mutates : (layout : Layout) (p : Part) → IsMutator (with_part layout p) p
mutates layout p = record { alone = refl; no_collector = refl }

-- the commands
abbrev pub makes : Command
makes = Var 0 (Register 1)

abbrev pub shares : ℕ → Command
shares m = Set Shared m (Register 0)

abbrev pub reads : ℕ → Command
reads m = Get 1 Shared m

-- the knowledge of a seat after each step
module _ (layout : Layout) (m base : ℕ) where
  abbrev pub after_header : ℕ → Part
  after_header h = knowing (blank m) 1 0 h

  abbrev pub after_name : ℕ → ℕ → Part
  after_name h n = storing (after_header h) (base + 1) n

  abbrev pub after_field : ℕ → ℕ → Part
  after_field h n = storing (after_name h n) (base + 2) 1

  abbrev pub after_birth : ℕ → ℕ → Part
  after_birth h n = doing (bearing_object (after_field h n) base 3 2050 (name_word (record {
    maker = m;
    serial = (hand_of (first_opening layout).hands m).serial;
  }))) makes (word (2 * base)) []

  abbrev pub after_swap : ℕ → ℕ → ℕ → Part
  after_swap h n old = doing (finding (after_birth h n) old) (shares m) (plain Fine) []

  abbrev pub after_load : ℕ → ℕ → ℕ → ℕ → Part
  after_load h n old x = doing (after_swap h n old) (reads m) (word x) []

  -- the views after the steps, one by one
  pub seen_header : (h : ℕ) (v w : Seen) → v ≡ with_part layout (blank m) → w ≡ loaded v 1 0 h → w ≡ with_part layout (after_header h)
  seen_header h v w e f = f ∙ ap (λ (u : Seen). loaded u 1 0 h) e

  pub seen_name : (h n : ℕ) (v w : Seen) → v ≡ with_part layout (after_header h) → w ≡ stored v (base + 1) n → w ≡ with_part layout (after_name h n)
  seen_name h n v w e f = f ∙ ap (λ (u : Seen). stored u (base + 1) n) e

  pub seen_field : (h n : ℕ) (v w : Seen) → v ≡ with_part layout (after_name h n) → w ≡ stored v (base + 2) 1 → w ≡ with_part layout (after_field h n)
  seen_field h n v w e f = f ∙ ap (λ (u : Seen). stored u (base + 2) 1) e

  pub seen_birth : (h n : ℕ) (v w : Seen) → v ≡ with_part layout (after_field h n) → w ≡ gave_birth v base 2050 makes → w ≡ with_part layout (after_birth h n)
  seen_birth h n v w e f = f ∙ ap (λ (u : Seen). gave_birth u base 2050 makes) e

  pub seen_swap : (h n old : ℕ) (v w : Seen) → v ≡ with_part layout (after_birth h n) → w ≡ swapped v (shares m) old → w ≡ with_part layout (after_swap h n old)
  seen_swap h n old v w e f = f ∙ ap (λ (u : Seen). swapped u (shares m) old) e

  pub seen_load : (h n old x : ℕ) (v w : Seen) → v ≡ with_part layout (after_swap h n old) → w ≡ answered v (reads m) (word x) →
      w ≡ with_part layout (after_load h n old x)
  seen_load h n old x v w e f = f ∙ ap (λ (u : Seen). answered u (reads m) (word x)) e

  pub has_part : (p : Part) → p.number ≡ m → (v : Seen) → v ≡ with_part layout p → HasPart v m
  has_part p number v e = subst (λ (u : Seen). HasPart u m) (sym e) (p, mutates layout p, number)

  pub seen_last : (h n old x z : ℕ) (v w : Seen) → v ≡ with_part layout (after_load h n old x) → w ≡ taken v 1 0 Yield z → HasPart w m
  seen_last h n old x z v w e f =
      let p : Part = after_load h n old x in
      let q : Part = knowing (doing p Yield (known_answer (hand_now (first_opening layout) p) p.fixed Yield) []) 1 0 z in
      has_part q refl w (f ∙ ap (λ (u : Seen). taken u 1 0 Yield z) e)

-- an array with a field for each slot of g
abbrev array : Header
array = record { kind = kind.Arr; tag = 0; fields = SHARED_SLOTS }

module _ (layout : Layout) (is : IsLayout layout) (m : ℕ) (mine : m < layout.mutators) (base : ℕ) (here : base ≡ nursery_place layout m) where
  abbrev o : Opening
  o = first_opening layout

  hand_is : new_hand ≡ hand_of o.hands m
  hand_is = sym (get_or-replicate layout.mutators m new_hand no_hand mine)

  pub header_fixed : (p : Part) → CanFix o p 1 0
  header_fixed p = inl (Shared, refl, omega arith)

  pub name_unborn : (h : ℕ) → CanStore o (after_header layout m base h) (base + 1)
  name_unborn h = let a = is.nursery in let b = is.words.least in record { from = omega arith; to = omega arith; fresh = λ u c. absurd (nothing_in u c) }

  pub field_unborn : (h n : ℕ) → CanStore o (after_name layout m base h n) (base + 2)
  field_unborn h n = let a = is.nursery in let b = is.words.least in record {
    from = omega arith;
    to = omega arith;
    fresh = λ u c e. let same : base + 1 ≡ u.at = ap (λ (x : UnbornWord). x.at) (one_is (record { at = base + 1; word = n }) u c) in omega arith;
  }

  -- no command makes the mutator's serial large
  gives : (p : Part) (c : Command) → Fits layout.words c → (hand_now o p).serial < 4294967295 → CanGive o p c
  gives p c fits lt = record { fits = fits; serial = lt }

  pub can_bear : (h n : ℕ) → n ≡ name_word (record { maker = m; serial = 0 }) → CanBear o (after_field layout m base h n) base 2050 makes
  can_bear h n is_name =
      let p : Part = after_field layout m base h n in
      let a = is.nursery in
      let b = is.words.least in
      record {
        gives = gives p makes (record {
          registers = (omega arith, omega arith);
          numbers = tt;
          size = omega arith;
        }) (subst (λ (k : Hand). k.serial < 4294967295) hand_is (omega arith));
        makes = tt;
        header_is = refl;
        from = omega arith;
        to = omega arith;
        name = subst (λ (k : Hand). Contains p.unborn (record { at = base + 1; word = name_word (record { maker = m; serial = k.serial }) })) hand_is
            (subst (λ w. Contains p.unborn (record { at = base + 1; word = w })) is_name (contains_tail (record {
              at = base + 2;
              word = 1;
            }) (record { at = base + 1; word = n } ∷ []) (record {
              at = base + 1;
              word = n;
            }) (contains_head (record { at = base + 1; word = n }) [])));
        fields = λ i w e. field i w (subst (λ (k : Hand). slice_get (get_or k.registers 1 1 ∷ []) i ≡ Some w) (sym hand_is) e);
      }
    where
      field : (i w : ℕ) → slice_get (1 ∷ []) i ≡ Some w → Contains (after_field layout m base h n).unborn (record { at = base + 2 + i; word = w })
      field zero w e =
          let one : 1 ≡ w = cc in
          let at : base + 2 ≡ base + 2 + 0 = omega arith in
          subst (λ (u : UnbornWord). Contains (after_field layout m base h n).unborn u) (λ j. record {
            at = at j;
            word = one j;
          }) (contains_head (record { at = base + 2; word = 1 }) (after_name layout m base h n).unborn)
      field (suc i) w e = absurd cc

  module _ (h n : ℕ) (is_array : h ≡ 32771) (most : layout.mutators ≤ SHARED_SLOTS) where
    few : m < SHARED_SLOTS
    few = omega arith

    -- the header of g is named after the new object is made
    named : (fixed : List FixedWord) → Contains fixed (record { at = 1; offset = 0; word = h }) → (p : Part) → p.fixed ≡ fixed → Names p 1 array
    named fixed c p e = record {
      valid = (refl, omega arith);
      there = subst (λ l. Contains l (record { at = 1; offset = 0; word = 32771 })) (sym e) (subst (λ w.
          Contains fixed (record { at = 1; offset = 0; word = w })) is_array c);
    }

    there : Contains (after_birth layout m base h n).fixed (record { at = 1; offset = 0; word = h })
    there =
        let g : FixedWord = record { at = 1; offset = 0; word = h } in
        let name : FixedWord = record {
          at = base;
          offset = 1;
          word = name_word (record { maker = m; serial = (hand_of (first_opening layout).hands m).serial });
        } in
        contains_tail (record { at = base; offset = 0; word = 2050 }) (name ∷ g ∷ []) g (contains_tail name (g ∷ []) g (contains_head g []))

    pub can_swap : CanSwap o (after_birth layout m base h n) 1 m (2 * base) (shares m)
    can_swap = record {
      gives = gives (after_birth layout m base h n) (shares m) (record {
        registers = (tt, omega arith);
        numbers = omega (arith, few);
        size = omega arith;
      }) (subst (λ (k : Hand). k.serial + 1 < 4294967295) hand_is (omega arith));
      object = Shared;
      value = Register 0;
      command = refl;
      object_word = refl;
      value_word = subst (λ (k : Hand). get_or (set k.registers 0 (2 * base)) 0 1 ≡ 2 * base) hand_is refl;
      header = array;
      names = named (after_birth layout m base h n).fixed there (after_birth layout m base h n) refl;
      kind = tt;
      within = few;
    }

    pub can_load : (old : ℕ) → CanLoad o (after_swap layout m base h n old) 1 m (reads m)
    can_load old = record {
      gives = gives (after_swap layout m base h n old) (reads m) (record {
        registers = (omega arith, tt);
        numbers = omega (arith, few);
        size = omega arith;
      }) (subst (λ (k : Hand). k.serial + 1 < 4294967295) hand_is (omega arith));
      dest = 1;
      object = Shared;
      command = refl;
      object_word = refl;
      header = array;
      names = named (after_birth layout m base h n).fixed there (after_swap layout m base h n old) refl;
      kind = tt;
      within = few;
    }

    pub can_yield : (old x : ℕ) → CanTake o (after_load layout m base h n old x) 1 0 Yield
    can_yield old x = inl (
      refl,
      refl,
      record {
        gives = gives (after_load layout m base h n old x) Yield (record {
          registers = tt;
          numbers = tt;
          size = omega arith;
        }) (subst (λ (k : Hand). k.serial + 1 < 4294967295) hand_is (omega arith));
        known = tt;
      },
    )

-- a property at each index is a property of all items
pub all_of : (R : RoundSeat → Type 0) (seats : List RoundSeat) → ((k : ℕ) (d : RoundSeat) → k < length seats → R (slice_index_or seats k d)) → All R seats
all_of R seats f k d lt = f k d lt

elem_at : (seats : List RoundSeat) (k : ℕ) (d : RoundSeat) → k < length seats → get_elem? (map seen seats) k ≡ some (seen (slice_index_or seats k d))
elem_at [] k d lt = absurd (omega arith)
elem_at (s ∷ seats) zero d lt = refl
elem_at (s ∷ seats) (suc k) d lt = elem_at seats k d (omega arith)

-- seats that have every mutator's part, with the collector's
pub has_all : (layout : Layout) (collector : Seen) (seats : List RoundSeat) (d : RoundSeat) → collector.collects ≡ true →
    collector.opening ≡ first_opening layout → length seats ≡ layout.mutators →
    ((k : ℕ) → k < length seats → HasPart (seen (slice_index_or seats k d)) k) → HasAll (all_together collector (map seen seats))
has_all layout collector seats d on is count each = gathered collector (map seen seats) on (λ m lt.
    let many : length (first_opening layout).core.world.mutators ≡ layout.mutators = length-replicate layout.mutators _ in
    let lt' : m < length (first_opening layout).core.world.mutators = subst (λ (y : Opening). m < length y.core.world.mutators) is lt in
    let within : m < length seats = omega arith in
    let t = each m within in
    (seen (slice_index_or seats m d), 0, t.0, elem_at seats m d within, ap (λ (l : List Part). get_elem? l 0) t.1.alone, t.2))

-- a slice of a whole list is overwritten
pub written : (n : ℕ) (xs ys : List RoundSeat) → length ys ≡ length xs → n ≡ length xs → take n (ys ++ drop (length ys) xs) ≡ ys
written zero [] [] l e = refl
written (suc n) [] [] l e = refl
written n [] (y ∷ ys) l e = absurd (omega arith)
written n (x ∷ xs) [] l e = absurd (omega arith)
written zero (x ∷ xs) (y ∷ ys) l e = absurd (omega arith)
written (suc n) (x ∷ xs) (y ∷ ys) l e = ap (λ l. y ∷ l) (written n xs ys (omega arith) (omega arith))
