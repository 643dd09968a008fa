-- A script that makes one object: one round, and a stop that places the object.
use Rattle.nmgc_collector_laws.proofs.Vocabulary.{ℕ, zero, suc, ◌≡◌, List, [], ◌∷◌, set, replicate, arith, refl, ap, inl, inr, Option, Some, None, Bool, true, false, lit≤, lit<, IsSome, slice_get, ◌==◌, if◌then◌else◌, false_from_ne_true, SHARED_MAKER, Node, node_of, Row, replayed, IsOrderOf, begins, AllocState, Cells, all_empty, with_cells, NoneIs, IsOf, IsFull, layout_of, answered, own_rows, slices, IsYoung, IsPromoted, PlacesObject, IsFullDue, IsCycleDue, Run, IsRun, small_plan, small_heap, quiet_stop, object_program, object_replies, object_name, all_free, not_there, eqb-true}
use Rattle.nmgc_run_spec.specs.Run.{State, start}
use Rattle.nmgc_segment.specs.declared.state.State.TheVariants as stands
use Rattle.nmgc_collector_laws.proofs.runs.Listed.{lists_none, lists_one}

abbrev opened : State
opened = start (small_plan object_program)

abbrev rows : List Row
rows = answered 0 object_program object_replies

-- after the round
abbrev pub worked : State
worked = record opened { number = 1; world = replayed opened.world rows; left = [] ∷ [] }

-- the object lies in the first block of the first segment
abbrev pub placed : AllocState
placed = with_cells (all_empty 32) 0 (record { state = stands.Current 0; class = 0; names = set (replicate 16 None) 0 (Some object_name) }) 0

-- after the stop
abbrev pub last : State
last = record worked { allocation = placed }

not_full_first : IsFullDue (small_plan object_program) opened → ⊥
not_full_first (inl e) = cc
not_full_first (inr e) = cc

not_full_last : IsFullDue (small_plan object_program) last → ⊥
not_full_last (inl e) = cc
not_full_last (inr e) = cc

-- no command asks for a cycle, and none begins by itself
no_trigger : (s : State) → s.collect ≡ false → IsCycleDue small_heap s → ⊥
no_trigger s none d = elim d.1 [ inl e ↦ cc | inr both ↦ omega (arith, both.0) ]

not_zero : (k : ℕ) → (0 == suc k) ≡ false
not_zero k = false_from_ne_true (0 == suc k) (λ e. let same = eqb-true 0 (suc k) e in omega (arith, same))

-- all rows are mutator 0's
order : IsOrderOf (own_rows (slices small_heap opened.left) (object_replies ∷ [])) rows
order zero = refl
order (suc k) = rw (not_zero k) refl

-- the empty heap has no segment that is current, and none that is active
none_current : NoneIs (IsOf (stands.Current 0) 0) (all_empty 32)
none_current number exists is = let free = ap (λ (c : Cells). c.state) (all_free 32 number) in let same = is.0 in cc

none_active : NoneIs (IsOf stands.Active 0) (all_empty 32)
none_active number exists is = let free = ap (λ (c : Cells). c.state) (all_free 32 number) in let same = is.0 in cc

-- the object's name is placed
places : PlacesObject (layout_of (small_plan object_program)) worked.world (all_empty 32) placed object_name
places = record {
  node = _;
  there = refl;
  class = 0;
  fits = record { holds = lit≤ tt; least = λ c below. absurd (omega (arith, below)) };
  places = record {
    number = 0;
    target = inr (none_current, inr (none_active, record { is = (lit< tt, refl); none_below = λ i below is. omega (arith, below) }));
    names = replicate 16 None;
    opens = inr (refl, refl);
    block = 0;
    first = record { exists = lit< tt; empty = refl; none_below = λ b below. absurd (omega (arith, below)) };
    placed = inr (not_full, refl);
  };
}
  where
    not_full : IsFull (set (replicate 16 None) 0 (Some object_name)) → ⊥
    not_full full = let some = full 1 (lit< tt) in cc

nothing_at : (serial : ℕ) → IsSome (slice_get {X = Node} [] serial) → ⊥
nothing_at serial there = cc

-- a new name isn't g's
not_shared : (b : Bool) (shared old new : Option Node) → (if b then shared else old) ≡ None → IsSome (if b then shared else new) → IsSome new
not_shared true shared old new none some = absurd (not_there shared none some)
not_shared false shared old new none some = some

only_young : (maker serial : ℕ) → IsYoung opened.world worked.world (record { maker = maker; serial = serial }) →
    object_name ≡ record { maker = maker; serial = serial }
only_young zero zero y = refl
only_young zero (suc serial) y = absurd (nothing_at serial y.1)
only_young (suc maker) serial y = absurd (nothing_at serial (not_shared (suc maker == SHARED_MAKER) _ _ _ y.0 y.1))

-- the run: the opening stop, and one round with its stop
abbrev pub object_run : Run
object_run = record {
  opening = record { state = opened; row = quiet_stop 0 32 0; cycles = [] };
  turns = record {
    replies = record { replies = object_replies ∷ [] };
    history = rows;
    worked = worked;
    stop = record { state = last; row = quiet_stop 1 31 1; cycles = [] };
  } ∷ [];
}

pub object_is_run : IsRun (small_plan object_program) object_run
object_is_run = record {
  opening = record {
    promoted = opened;
    count = 0;
    promotes = record {
      names = [];
      lists = lists_none (IsPromoted opened.world opened.world) (λ n p. not_there (node_of opened.world n) p.0.0 p.0.1);
      places = refl;
      many = refl;
      rest = refl;
    };
    closed = opened;
    closes = refl;
    ended = opened;
    first = [];
    ends = (refl, refl);
    more = [];
    proceeds = inr (not_full_first, inr (no_trigger opened refl, refl), refl);
    cycles_are = refl;
    shown = refl;
  };
  turns = (
    record {
      goes_on = refl;
      round = record {
        history = record { lengths = refl; order = order; legal = (refl, (refl, (refl, (refl, (refl, (refl, (refl, tt))))))) };
        swept = refl;
        rest = refl;
      };
      stop = record {
        promoted = last;
        count = 1;
        promotes = record {
          names = object_name ∷ [];
          lists = lists_one (IsPromoted opened.world worked.world) object_name (
            (refl, refl),
            begins object_name (inl (inr (0, (0, lit< tt, refl)))),
          ) (λ n p. only_young n.maker n.serial p.0);
          places = (placed, places, refl);
          many = refl;
          rest = refl;
        };
        closed = last;
        closes = refl;
        ended = last;
        first = [];
        ends = (refl, refl);
        more = [];
        proceeds = inr (not_full_last, inr (no_trigger last refl, refl), refl);
        cycles_are = refl;
        shown = refl;
      };
    },
    tt,
  );
}
