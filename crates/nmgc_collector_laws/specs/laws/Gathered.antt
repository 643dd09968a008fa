-- The seats of mutators that did their slices have every part of the round, and each mutator has worked as its part says.
use Rattle.std.specs.Prelude.{◌≡◌, ◌∷◌, ◌++◌}
use Rattle.nmgc_collector_laws.specs.laws.Vocabulary.{ℕ, suc, List, [], get_or, map, refl, sym, ap, subst, ◌∙◌, arith, append_assoc, append-nil, Some, slice_get, All, length-map, slice_get-get_or, slice_get_within, item_map, item, map_item, Round, DoneRow, Opening, Part, Seen, whole, hand_of, hand_now, AllReply, RoundSeat, IsAt, seen, alone, collecting, together, all_together, CanOpen, HasAll, HasEach, Mutator, part_of, HasHand, numbers, all_recorded, all_weaks, all_finalised, HasDone, Done, HasWorked, HaveWorked, IsResting, SlicesAreDone, SlicesAreGathered, same_opening, still_collects}
use Rattle.nmgc_collector_laws.specs.laws.Reading.{item_found}

-- the part of a mutator's seat
abbrev pub own_part : RoundSeat → Part
own_part seat = part_of (seen seat)

-- the parts of all seats in a row
parts_together : (v : Seen) (seats : List RoundSeat) → ((k : ℕ) (seat : RoundSeat) → slice_get seats k ≡ Some seat →
    (seen seat).parts ≡ own_part seat ∷ []) → (all_together v (map seen seats)).parts ≡ v.parts ++ map own_part seats
parts_together v [] one = sym (append-nil v.parts)
parts_together v (s ∷ ss) one =
    cc (parts_together (together v (seen s)) ss (λ k seat e. one (suc k) seat e), one 0 s refl, append_assoc v.parts (own_part s ∷ []) (map own_part ss))

module _ (o : Opening) (before : List ℕ) (round : Round) (old mutators : List Mutator) (seats : List RoundSeat) (done : List (List Done))
    (opens : CanOpen o before) (h : SlicesAreDone o round old mutators seats done) where
  -- the work from the seat of this number
  pub record IsSlice (k : ℕ) (seat : RoundSeat) : Type 0 where
    pub m : Mutator
    pub n : Mutator
    pub d : List Done
    pub was : slice_get old k ≡ Some m
    pub new : slice_get mutators k ≡ Some n
    pub own : slice_get done k ≡ Some d
    pub resting : IsResting o.layout k m
    pub did : HasDone round (alone o k) seat m n d

  pub slice_at : (k : ℕ) (seat : RoundSeat) → slice_get seats k ≡ Some seat → IsSlice k seat
  slice_at k seat e =
      let lt = slice_get_within seats k seat e in
      let many = h.mutators_are in let as_many = h.seats_are in let lists = h.done_are in
      let m = item old k (omega arith) in
      let n = item mutators k (omega arith) in
      let d = item done k (omega arith) in
      record { m = m.0; n = n.0; d = d.0; was = m.1; new = n.1; own = d.1; resting = h.resting k m.0 m.1; did = h.each k m.0 n.0 seat d.0 m.1 n.1 e d.1 }

  -- its part has its mutator's work
  part_worked : (k : ℕ) (seat : RoundSeat) (s : IsSlice k seat) → HasWorked o (own_part seat) s.n s.d
  part_worked k seat s =
      let w = s.did.went in
      let ready = s.did.ready in
      record {
        number = ready.number;
        layout = s.did.layout ∙ s.resting.layout_is;
        size = ready.whole.size;
        holds = subst (λ (y : Opening). HasHand (hand_now y (own_part seat)) s.n) w.opening ready.holds;
        nursery = ready.nursery;
        used = ready.used;
        replied = subst (λ (rows : List DoneRow). AllReply (own_part seat).fixed rows s.d) (sym w.added) s.did.replied;
        recorded = s.did.recorded ∙ ap (λ l. numbers l ++ all_recorded s.m.layout (hand_of o.hands k) s.did.rows) s.resting.no_recorded ∙
            (λ i. all_recorded (sym s.did.layout i) (hand_of o.hands (sym w.number i)) (sym w.added i));
        weaks = s.did.weaks ∙ ap (λ l. numbers l ++ all_weaks s.did.rows) s.resting.no_weaks ∙ (λ i. all_weaks (sym w.added i));
        finalised = s.did.finalised ∙ ap (λ l. numbers l ++ all_finalised s.m.layout (hand_of o.hands k) s.did.rows) s.resting.no_finalised ∙
            (λ i. all_finalised (sym s.did.layout i) (hand_of o.hands (sym w.number i)) (sym w.added i));
      }

  -- the view that takes in all of them
  abbrev pub gathered : Seen
  gathered = all_together (collecting (whole o)) (map seen seats)

  pub parts_are : gathered.parts ≡ map own_part seats
  parts_are = parts_together (collecting (whole o)) seats (λ k seat e. (slice_at k seat e).did.went.is.alone)

  opening_is : gathered.opening ≡ o
  opening_is = same_opening (collecting (whole o)) (map seen seats)

  -- the seat of each mutator gives its part
  has_each : HasEach o gathered
  has_each m lt =
      let many = opens.is.mutators in let as_many = h.seats_are in
      let seat = item seats m (omega arith) in
      let s = slice_at m seat.0 seat.1 in
      let there : slice_get gathered.parts m ≡ Some (own_part seat.0) =
      subst (λ (ps : List Part). slice_get ps m ≡ Some (own_part seat.0)) (sym parts_are) (item_map own_part seats m seat.0 seat.1) in
      (m, own_part seat.0, item_found gathered.parts m (own_part seat.0) there, s.did.went.number)

  all_at : All (IsAt round) seats
  all_at k d lt = let s = slice_at k (get_or seats k d) (slice_get-get_or seats k d lt) in s.did.ready.at

  -- a mutator keeps its number
  numbers_are : (k : ℕ) (n : Mutator) → slice_get mutators k ≡ Some n → n.number ≡ k
  numbers_are k n e =
      let lt = slice_get_within mutators k n e in
      let many = h.mutators_are.1 in let as_many = h.seats_are in
      let seat = item seats k (omega arith) in
      let s = slice_at k seat.0 seat.1 in
      let same : Some s.n ≡ Some n = sym s.new ∙ e in
      let is : s.n ≡ n = cc in
      ap (λ (x : Mutator). x.number) (sym is) ∙ s.did.number ∙ s.resting.number_is

  worked_at : (k : ℕ) (p : Part) (n : Mutator) (d : List Done) → slice_get (map own_part seats) k ≡ Some p → slice_get mutators k ≡ Some n →
      slice_get done k ≡ Some d → HasWorked o p n d
  worked_at k p n d there new own =
      let seat = map_item own_part seats k p there in
      let s = slice_at k seat.0 seat.1 in
      let first : Some s.n ≡ Some n = sym s.new ∙ new in
      let second : Some s.d ≡ Some d = sym s.own ∙ own in
      let is : s.n ≡ n = cc in
      let did : s.d ≡ d = cc in
      subst (λ (y : Part × Mutator × List Done). HasWorked o y.0 y.1 y.2) (λ i. (sym seat.2 i, is i, did i)) (part_worked k seat.0 s)

  -- so all mutators have worked as their parts say
  have_worked : HaveWorked o (map own_part seats) mutators done
  have_worked = record {
    parts_are = length-map seats own_part ∙ h.seats_are;
    mutators_are = h.mutators_are.1;
    done_are = h.done_are;
    numbers_are = numbers_are;
    each = worked_at;
  }

  all_gathered : HasAll gathered × All (IsAt round) seats × HaveWorked o gathered.parts mutators done
  all_gathered = (
    (still_collects (collecting (whole o)) (map seen seats) refl, subst (λ (y : Opening). HasEach y gathered) (sym opening_is) has_each),
    all_at,
    subst (λ (ps : List Part). HaveWorked o ps mutators done) (sym parts_are) have_worked,
  )

pub slices_gathered : SlicesAreGathered
slices_gathered o before round old mutators seats done opens h = all_gathered o before round old mutators seats done opens h
