-- A command of a mutator that is shown keeps the facts of the world in which other registers are hidden.
use Rattle.std.proofs.Common.{◌≡◌, ◌<◌, ℕ, List, ◌++◌, length, refl, sym, subst, ◌∙◌, arith, Bool, true, inl, inr, ap}
use Rattle.std.specs.Prelude.{IsSome, All}
use Rattle.std.proofs.{lemmas.List.append_assoc, lemmas.List.Elements.Contains-append_right}
use Rattle.nmgc_world_spec.specs.{declared.value.Name.Name, declared.command.Command.Command, declared.command.Reply.Reply, World.World, World.node_of, World.step, Known.IsWorld, Known.CanApply, Reach.IsAlive, Reach.opened_by, Reach.finalised_by, Reach.owed_by}
use Rattle.nmgc_snapshot_laws.specs.{State.State, State.names_of, Machine.after_command, Facts.MayHold, Facts.IsSafe, Facts.Facts, Facts.owed, Facts.pushed, Facts.marked, laws.Listed.names_same}
use Rattle.nmgc_barrier_laws.specs.{Due.IsDue, Lax.after_owing, Hybrid.hidden, Hybrid.after_owing_in, laws.Given.given_facts, laws.Given.owes_may, laws.Given.due_owed, laws.Veil.hide_length, laws.Veil.hidden_node, laws.Commutes.over, laws.Commutes.same_step, laws.Commutes.same_opened, laws.Commutes.same_finalised, laws.HybridCommand.veiled, laws.HybridFacts.hidden_world, laws.HybridFacts.widened_facts}

-- the names that are due depend on objects alone
module _ (shown : ℕ → Bool) (s : State) (f : Facts (veiled shown s)) (w : IsWorld s.world) (m : ℕ) (c : Command) (can : CanApply s.world m c)
    (seen : shown m ≡ true) where
  abbrev H : World
  H = hidden shown s.world

  H_world : IsWorld H
  H_world = hidden_world shown s.world w

  H_step : step H m c ≡ over shown (step s.world m c)
  H_step = same_step shown m seen s.world c

  H_next : (step H m c).0 ≡ hidden shown (step s.world m c).0
  H_next = ap (λ (r : World × Reply). r.0) H_step

  H_opened : opened_by H m c ≡ opened_by s.world m c
  H_opened = same_opened shown m seen s.world c

  H_finalised : finalised_by H m c ≡ finalised_by s.world m c
  H_finalised = same_finalised shown m seen s.world c

  H_place : m < length H.mutators
  H_place = subst (λ (n : ℕ). m < n) (sym (hide_length shown s.world.mutators)) can.mutator

  after_node : (name : Name) → node_of (step H m c).0 name ≡ node_of (step s.world m c).0 name
  after_node name = ap (λ (u : World). node_of u name) H_next ∙ hidden_node shown (step s.world m c).0 name

  due_shown : (target : Name) → IsDue s.snapshot H m c target → IsDue s.snapshot s.world m c target
  due_shown target d = record {
    there = d.there;
    own = d.own;
    why = elim d.why [
      | inl b ↦ inl (record {
        name = b.name;
        place = b.place;
        then = b.then;
        stood = record { node = b.stood.node; node_is = sym (hidden_node shown s.world b.name) ∙ b.stood.node_is; field = b.stood.field };
        gone = λ k. b.gone (record { node = k.node; node_is = after_node b.name ∙ k.node_is; field = k.field });
      })
      | inr (inl o) ↦ inr (inl (rw H_opened at o))
      | inr (inr e) ↦ inr (inr (record { weak = e.weak; parts = e.parts; ended = rw H_finalised at e.ended; alive = e.alive; kept = e.kept }))
    ];
  }

  due_hidden : (target : Name) → IsDue s.snapshot s.world m c target → IsDue s.snapshot H m c target
  due_hidden target d = record {
    there = d.there;
    own = d.own;
    why = elim d.why [
      | inl b ↦ inl (record {
        name = b.name;
        place = b.place;
        then = b.then;
        stood = record { node = b.stood.node; node_is = hidden_node shown s.world b.name ∙ b.stood.node_is; field = b.stood.field };
        gone = λ k. b.gone (record { node = k.node; node_is = sym (after_node b.name) ∙ k.node_is; field = k.field });
      })
      | inr (inl o) ↦ inr (inl (rw H_opened o))
      | inr (inr e) ↦ inr (inr (record { weak = e.weak; parts = e.parts; ended = rw H_finalised e.ended; alive = e.alive; kept = e.kept }))
    ];
  }

  -- a name that is due may be held
  pub due_may : (target : Name) → IsDue s.snapshot s.world m c target → MayHold (after_command s m c) target
  due_may target d =
      let k : MayHold (after_command (veiled shown s) m c) target =
      Rattle.std.proofs.lemmas.List.Elements.All-contains (MayHold (after_command (veiled shown s) m c)) (owed_by H m c) target
      (owes_may (veiled shown s) f H_world m c H_place) (due_owed (veiled shown s) f H_world m c H_place target (due_hidden target d)) in
      subst (λ (l : List Name). IsSome (node_of s.snapshot target) → Rattle.nmgc_world_spec.specs.Reach.IsLive s.snapshot (s.opened ++ l) target) H_opened k

  module _ (names : List Name) (given : All (MayHold (after_command s m c)) names)
      (due : (target : Name) → IsDue s.snapshot s.world m c target → IsSafe (after_owing_in s m c names) target) where
    abbrev mid : State
    mid = after_owing s m c names

    -- the state of the marking machine, with registers hidden
    H_state : after_owing (veiled shown s) m c names ≡ veiled shown mid
    H_state = rw (H_next, H_opened, H_finalised) refl

    given_hidden : All (MayHold (after_owing (veiled shown s) m c names)) names
    given_hidden = subst (λ (t : State). All (MayHold t) names) (sym H_state) given

    safe_hidden : (target : Name) → IsDue s.snapshot H m c target → IsSafe (after_owing (veiled shown s) m c names) target
    safe_hidden target d = by_way (due target (due_shown target d))
      where
        by_way : IsSafe (after_owing_in s m c names) target → IsSafe (after_owing (veiled shown s) m c names) target
        by_way (marked k) = marked k
        by_way (owed j k) = owed j k
        by_way (pushed j k) = pushed j k

    mid_facts : Facts (veiled shown mid)
    mid_facts = subst Facts H_state (given_facts (veiled shown s) f H_world m c H_place names given_hidden safe_hidden)

    owed_place : m < length s.owed
    owed_place = let e : length s.owed ≡ length H.mutators = f.base.owed_lists in let l : m < length H.mutators = H_place in omega arith

    pub seen_facts : Facts (veiled shown (after_owing_in s m c names))
    seen_facts = subst (λ (l : List Name). Facts (record (veiled shown mid) { opened = l })) (append_assoc s.opened (opened_by s.world m c) names)
        (widened_facts (veiled shown mid) mid_facts names s.pushed refl (λ k n h. h) (λ k n h. inl h) (λ n h there.
        owed m (rw (names_same s.owed m (names_of s.owed m ++ names) owed_place) (Contains-append_right (names_of s.owed m) names n h))))
