-- The empty heap represents the new world, and opens the first round.
use Rattle.nmgc_round.proofs.Vocabulary.{◌≡◌, ℕ, zero, suc, ◌+◌, ◌<◌, Bool, true, false, cond, eqb, List, [], ◌∷◌, ◌++◌, length, replicate, get_or, refl, sym, ap, subst, ◌∙◌, arith, Some, inl, Contains, length-replicate, All-get_or, All-replicate, REGISTERS, SHARED_SLOTS, Name, Value, Node, MutatorState, World, node_of, state_of, new_world, new_mutator, no_mutator, shared_name, at_some, nothing_in, contains_one, one_is, IsLayout, Layout, SHARED_PLACE, HEADER_WORDS, NIL_WORD, new_nodes, new_is_world, slots_of, Place, HasSlots, AllMean, ListMeans, shared_place, IsNamed, IsPlaced, Represents, NoNode, all_item, values_fill, Slots, Hand, Opening, no_hand, hand_of, old_stacks, IsOpening, HandStands, CanOpen, empty_array, IsEmptyHeap, new_hand, first_opening}
use Rattle.nmgc_heap_spec.specs.Represents.{IsObject}
use Rattle.nmgc_world_spec.specs.declared.value.Value.TheVariants as value
use Rattle.nmgc_round.proofs.Makers.{replicate_means}

-- an item of a list of equal items
pub all_equal : {A : Type 0} (n k : ℕ) (x d : A) → k < n → get_or (replicate n x) k d ≡ x
all_equal n k x d lt = let many = length-replicate n x in All-get_or (λ y. y ≡ x) (replicate n x) k d (omega arith) (All-replicate (λ y. y ≡ x) n x refl)

empty_row : {A : Type 0} (n k : ℕ) → get_or (replicate {A = List A} n []) k [] ≡ []
empty_row zero k = refl
empty_row (suc n) zero = refl
empty_row (suc n) (suc k) = empty_row n k

module _ (layout : Layout) (words : List ℕ) (is : IsLayout layout) (h : IsEmptyHeap layout words) where
  abbrev o : Opening
  o = first_opening layout

  abbrev W : World
  W = new_world layout.mutators

  abbrev P : Place → Type 0
  P = Contains (shared_place ∷ [])

  mutators : length W.mutators ≡ layout.mutators
  mutators = length-replicate layout.mutators new_mutator

  shares : {A : Type 0} → false ≡ true → A
  shares e = absurd (let bad : false ≡ true = e in cc)

  is_opening : IsOpening o
  is_opening = record {
    layout = is;
    not_closed = refl;
    mutators = mutators;
    owed = let n : length (replicate {A = List Name} (length W.mutators) []) ≡ length W.mutators = length-replicate (length W.mutators) [] in n ∙ mutators;
    snapshot = λ m. omega arith;
    wide = λ e. shares e;
    in_segments = λ p c m lt.
        inl (rw (← (one_is shared_place p c)) (omega arith));
  }

  g_slots : HasSlots P words (SHARED_PLACE + HEADER_WORDS) (slots_of empty_array)
  g_slots = values_fill P words (SHARED_PLACE + HEADER_WORDS) (replicate SHARED_SLOTS value.Nil) mean
    where
      mean : AllMean P words (SHARED_PLACE + HEADER_WORDS) (replicate SHARED_SLOTS value.Nil)
      mean i v e = let t = all_item SHARED_SLOTS i value.Nil v e in
          rw t.0 (h.slots i t.1)

  g_object : IsObject layout (shared_place ∷ []) words shared_place empty_array
  g_object = record {
    header = h.header;
    valid = (refl, omega arith);
    lies = inl (refl, refl, omega arith);
    alone = λ q c. inl (rw (← (one_is shared_place q c)) (omega arith));
  }

  -- g is the only name
  only_g : (name : Name) (node : Node) → node_of W name ≡ Some node → (shared_name ≡ name) × (empty_array ≡ node)
  only_g name node e = at_some (node_of W name) node (λ n. (shared_name ≡ name) ×
      (empty_array ≡ n)) e (new_nodes (λ name n. (shared_name ≡ name) × (empty_array ≡ n)) (refl, refl) layout.mutators name)

  g_placed : IsPlaced layout [] NoNode (shared_place ∷ []) words shared_name empty_array
  g_placed = record {
    at = SHARED_PLACE;
    there = contains_one shared_place;
    object = g_object;
    fields = g_slots;
    free = λ e before c. absurd (nothing_in e c);
    kept = λ before k. absurd k;
  }

  g_named : IsNamed layout W words shared_place
  g_named = record { known = refl; valid = (omega arith, omega arith, λ e. refl); name = h.name; lies = inl (refl, refl, omega arith) }

  represents_new : Represents layout [] NoNode (shared_place ∷ []) W words
  represents_new = record {
    total = h.total;
    one = λ p q c d e. sym (one_is shared_place p c) ∙ one_is shared_place q d;
    named = λ p c. subst (IsNamed layout W words) (one_is shared_place p c) g_named;
    tracked = λ name node t e. let r = only_g name node e in subst (λ (n : Name × Node).
        IsPlaced layout [] NoNode (shared_place ∷ []) words n.0 n.1) (λ i. (r.0 i, r.1 i)) g_placed;
    born = λ p node c in_ e. absurd (let same : SHARED_PLACE ≡ p.at = ap (λ (q : Place). q.at) (one_is shared_place p c) in let from = in_.from in omega arith);
    zeros = h.zeros;
  }

  -- g is no stack
  no_stacks : (m : ℕ) → old_stacks (shared_place ∷ []) W m ≡ []
  no_stacks m = none (eqb (shared_place.name.maker) m)
    where
      none : (b : Bool) → cond {A = List Slots} b [] [] ++ [] ≡ []
      none true = refl
      none false = refl

  first_hand : (m : ℕ) → m < layout.mutators → HandStands o m (hand_of o.hands m)
  first_hand m lt =
      let mine : hand_of o.hands m ≡ new_hand = all_equal layout.mutators m new_hand no_hand lt in
      let state : state_of W m ≡ new_mutator = all_equal layout.mutators m new_mutator no_mutator lt in
      record {
        registers = subst (λ (k : Hand × MutatorState). ListMeans P k.0.registers k.1.registers) (λ i. (
          sym mine i,
          sym state i,
        )) (replicate_means P REGISTERS NIL_WORD value.Nil refl);
        queue = subst (λ (k : Hand × MutatorState). ListMeans P k.0.queue k.1.queue) (λ i. (sym mine i, sym state i)) tt;
        serial = rw (mine, state);
        stacks = cc (mine, no_stacks m);
      }

  pub first_opens : CanOpen o words
  first_opens = record {
    is = is_opening;
    world = new_is_world layout.mutators is.mutators.0 is.mutators.1;
    unmarked_is = λ e. refl;
    represents = represents_new;
    count = length-replicate layout.mutators new_hand;
    hands = first_hand;
    older = λ x before s e. shares s.marking;
    owed = λ m. empty_row (length W.mutators) m;
    queued = λ entry c. absurd (nothing_in entry c);
  }
