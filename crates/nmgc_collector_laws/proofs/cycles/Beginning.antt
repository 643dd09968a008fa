-- A cycle begins: no byte is its epoch, and the machine that has marked the roots is at rest.
use Rattle.nmgc_collector_laws.proofs.Vocabulary.{Entry, ◌≡◌, ◌≢◌, ◌+◌, ◌%◌, ℕ, Bool, true, false, List, [], ◌∷◌, length, replicate, refl, sym, ap, ◌∙◌, arith, inl, inr, cond, All, eqb_tells, All-nil, All-cons, All-append, Name, Value, World, IsWorld, epoch_of, mark_of, State, names_of, entry_of, mark_name, mark_values, newest_first, opening_in, root_values, unmarked, mark_cases, nth, Segments, HasNumber, NoneIs, IsIn, StandsFor, AreSettled, IsUnread, RunState, next_cycle, IsMachineAtRest, none_at_first, Order, oldest_first, joined}
use Rattle.nmgc_world_spec.specs.declared.value.Value.TheVariants as value
use Rattle.nmgc_segment.specs.declared.state.State.TheVariants as stands
use Rattle.nmgc_collector_laws.proofs.cycles.Pushing.{all_empty}
use Rattle.nmgc_lists.specs.laws.Items.{nothing_in}

-- epochs follow one another, and none is 0
abbrev one_or_two : Bool → ℕ
one_or_two b = cond b 2 1

epoch_if : (b d : Bool) → (b ≡ true → d ≡ true → ⊥) → (b ≡ false → d ≡ false → ⊥) → one_or_two b ≡ one_or_two d → ⊥
epoch_if true true one other e = one refl refl
epoch_if true false one other e = cc
epoch_if false true one other e = cc
epoch_if false false one other e = other refl refl

epoch_some : (b : Bool) → one_or_two b ≢ 0
epoch_some true = λ e. cc
epoch_some false = λ e. cc

pub epoch_is_some : (n : ℕ) → epoch_of n ≢ 0
epoch_is_some n = epoch_some _

next_epoch : (n : ℕ) → epoch_of (n + 1) ≢ epoch_of n
next_epoch n e = elim (eqb_tells (n % 2) 0) [
  | inl a ↦ elim (eqb_tells ((n + 1) % 2) 0) [
    | inl b ↦ absurd (let x = a.1 in let y = b.1 in omega arith)
    | inr b ↦ epoch_if _ _ (λ t u. let bad : true ≡ false = sym t ∙ b.0 in cc) (λ t u. let bad : true ≡ false = sym a.0 ∙ u in cc) e
  ]
  | inr a ↦ elim (eqb_tells ((n + 1) % 2) 0) [
    | inl b ↦ epoch_if _ _ (λ t u. let bad : true ≡ false = sym u ∙ a.0 in cc) (λ t u. let bad : true ≡ false = sym b.0 ∙ t in cc) e
    | inr b ↦ absurd (let x = a.1 in let y = b.1 in omega arith)
  ]
]

-- no mark has the next epoch, if marks are settled and no segment waits
pub unmarked_there : (t : RunState) (s : Segments) (words : List ℕ) → StandsFor s words t.allocation → NoneIs (IsIn stands.Sweeping) t.allocation →
    AreSettled t.begun s → (number block : ℕ) → HasNumber s number → mark_of (nth s.segments number) block ≡ epoch_of (t.begun + 1) → ⊥
unmarked_there t s words stood none settled number block lt e =
    let state = (stood.shows number lt).state in
    let many = stood.count in
    elim (settled number block lt (λ waits. none number (omega arith) (state ∙ waits))) [
      | inl unset ↦ epoch_is_some (t.begun + 1) (sym e ∙ unset)
      | inr (some, last) ↦ next_epoch t.begun (sym e ∙ last)
    ]

-- marking the roots changes only marks, and queues names whose objects were not read yet
pub record IsBegun (w : World) (s : State) : Type 0 where
  pub world_is : s.world ≡ w
  pub owed_is : s.owed ≡ replicate (length w.mutators) []
  pub pushed_is : s.pushed ≡ replicate (length w.mutators) []
  pub open_yet : s.is_closed ≡ false
  pub fresh : All IsUnread s.queue

joined_unread : (order : Order) (queue : List Entry) (name : Name) → All IsUnread queue → All IsUnread (joined order queue (entry_of name))
joined_unread oldest_first queue name h =
    All-append IsUnread queue (entry_of name ∷ []) h (All-cons IsUnread (entry_of name) [] refl (All-nil IsUnread))
joined_unread newest_first queue name h = All-cons IsUnread (entry_of name) queue refl h

begun_name : (w : World) (s : State) (name : Name) → IsBegun w s → IsBegun w (mark_name s name)
begun_name w s name h = mark_cases (IsBegun w) s name
    (λ new. record {
      world_is = h.world_is;
      owed_is = h.owed_is;
      pushed_is = h.pushed_is;
      open_yet = h.open_yet;
      fresh = joined_unread s.order s.queue name h.fresh;
    })
    (λ old. h)

begun_values : (w : World) (s : State) (values : List Value) → IsBegun w s → IsBegun w (mark_values s values)
begun_values w s [] h = h
begun_values w s (value.Nil ∷ values) h = begun_values w s values h
begun_values w s (value.Number n ∷ values) h = begun_values w s values h
begun_values w s (value.Ref name ∷ values) h = begun_values w (mark_name s name) values (begun_name w s name h)

pub begun : (w : World) → IsBegun w (opening_in newest_first w)
begun w = begun_values w (unmarked newest_first w) (root_values w) (record { world_is = refl; owed_is = refl; pushed_is = refl; open_yet = refl; fresh = All-nil IsUnread })

-- the machine that has marked the roots is at rest
pub opening_rests : (s : RunState) → IsWorld s.world → IsMachineAtRest (next_cycle s) s.world (opening_in newest_first s.world)
opening_rests s world =
    let b = begun s.world in
    record {
      sound = record { world = world; rows = tt };
      machine = record {
        events = [];
        runs = (refl, refl);
        open_yet = b.open_yet;
        world_is = b.world_is;
        handed = λ name owed there. absurd (nothing_in name owed);
        nothing_owed = all_empty (opening_in newest_first s.world).owed (λ k lt. ap (λ (l : List (List Name)). names_of l k) b.owed_is ∙
            none_at_first (length s.world.mutators) k);
      };
      none_pushed = all_empty (opening_in newest_first s.world).pushed (λ k lt. ap (λ (l : List (List Name)). names_of l k) b.pushed_is ∙
          none_at_first (length s.world.mutators) k);
      fresh = b.fresh;
    }
