-- Whether a command can be given is decided; and if it can, a watched cycle has a next cycle.
use Rattle.std.proofs.{Common.◌≡◌, Common.◌≢◌, Common.◌<◌, Common.◌≤◌, Common.◌+◌, Common.◌-◌, Common.◌^◌, Common.ℕ, Common.List, Common.[], Common.◌∷◌, Common.◌++◌, Common.zero, Common.suc, Common.length, Common.map, Common.refl, Common.sym, Common.ap, Common.subst, Common.◌∙◌, Common.arith, Common.Bool, Common.true, Common.false, Common.not, Common.cond, Common.inl, Common.inr, Common.◌⊎◌, Common.Option, Common.Some, Common.None, lemmas.Bool.cases_Bool, lemmas.Bool.cases_lt, lemmas.Bool.cases_eq, lemmas.Bool.false≢true, lemmas.List.Elements.All-nil, lemmas.List.Elements.All-cons, lemmas.List.Elements.All-head, lemmas.List.Elements.All-tail, lemmas.List.Elements.Contains-append_left, lemmas.List.Elements.Contains-append_right, lemmas.List.Elements.Contains-append_cases}
use Rattle.std.specs.Prelude.{All, Contains, is_some, filter, option_to_list}
use Rattle.nmgc_limits.specs.declared.mutators.TheConstants.{REGISTERS, SHARED_MAKER}
use Rattle.nmgc_world_spec.specs.{declared.value.Name.Name, declared.value.Value.Value, declared.node.Node.Node, declared.change.Change.Change, declared.command.Operand.Operand, declared.command.Operand.TheVariants.Register, declared.command.Operand.TheVariants.Shared, declared.command.Command.Command, declared.command.Command.TheVariants.Num, declared.command.Command.TheVariants.Nil, declared.command.Command.TheVariants.Mov, declared.command.Command.TheVariants.Con, declared.command.Command.TheVariants.Var, declared.command.Command.TheVariants.Arr, declared.command.Command.TheVariants.Rec, declared.command.Command.TheVariants.Thunk, declared.command.Command.TheVariants.Weak, declared.command.Command.TheVariants.Stack, declared.command.Command.TheVariants.Get, declared.command.Command.TheVariants.Tag, declared.command.Command.TheVariants.Set, declared.command.Command.TheVariants.Cas, declared.command.Command.TheVariants.Update, declared.command.Command.TheVariants.Force, declared.command.Command.TheVariants.Push, declared.command.Command.TheVariants.Pop, declared.command.Command.TheVariants.Deref, declared.command.Command.TheVariants.Finalise, declared.command.Command.TheVariants.NextFin, declared.command.Command.TheVariants.Show, declared.command.Command.TheVariants.Same, declared.command.Command.TheVariants.Yield, declared.command.Command.TheVariants.Collect, declared.command.Command.TheVariants.Full, declared.command.Reply.Reply, Known.IsRegister, Known.IsOperand, Known.HasRegisters, World.World, World.node_of, World.serial_of, World.step, Known.IsWorld, Known.CanApply, Written.asked, Reach.opened_by, Reach.finalised_by, laws.Orders.contains_filter, laws.Orders.filter_contains, laws.Orders.name_cases, laws.Common.same_ref as ref_is}
use Rattle.nmgc_world_spec.specs.declared.value.Value.TheVariants as value
use Rattle.nmgc_world_spec.specs.declared.command.Reply.TheVariants as reply
use Rattle.nmgc_world_laws.specs.laws.Worlds.{not_shared}
use Rattle.nmgc_lists.specs.laws.Items.{nothing_in}
use Rattle.nmgc_world_laws.specs.Stored.{place_written, value_written}
use Rattle.nmgc_snapshot_laws.specs.{State.is_listed, laws.Listed.tested_same, laws.Listed.is_same_name-refl, laws.Listed.contains_listed, laws.Listed.listed_from, Machine.is_pushed_in}
use Rattle.nmgc_barrier_laws.specs.{declared.debt.Debt.Debt, Hybrid.Hybrid, Hybrid.IsDueIn}
use Rattle.nmgc_barrier_checker.specs.{declared.due.Field.Field, Dues.strong_in, Dues.is_ref_to, Dues.stands_in, Dues.end_place, Dues.IsStanding, Dues.IsComing, Dues.kept_then, Dues.targets, Accounts.debt_of, Cycles.IsTaken}
use Rattle.nmgc_barrier_checker.proofs.{Filters.mapped_in, Filters.in_mapped, Standing.noted_sound, Standing.noted_all, DueLaws.found_due, DueLaws.due_found, Handed.handed, Handed.found_handed, Handed.handed_found}

-- if two facts are decided, so are facts made of them
abbrev pub Cases : Type 0 → Type 0
Cases A = A ⊎ (A → ⊥)

pub two : {A B : Type 0} → Cases A → Cases B → Cases (A × B)
two (inl a) (inl b) = inl (a, b)
two (inr a) b = inr (λ p. a p.0)
two (inl a) (inr b) = inr (λ p. b p.1)

three : {A B C : Type 0} → Cases A → Cases B → Cases C → Cases (A × B × C)
three (inl a) (inl b) (inl c) = inl (a, b, c)
three (inr a) b c = inr (λ p. a p.0)
three (inl a) (inr b) c = inr (λ p. b p.1)
three (inl a) (inl b) (inr c) = inr (λ p. c p.2)

four : {A B C D : Type 0} → Cases A → Cases B → Cases C → Cases D → Cases (A × B × C × D)
four (inl a) (inl b) (inl c) (inl d) = inl (a, b, c, d)
four (inr a) b c d = inr (λ p. a p.0)
four (inl a) (inr b) c d = inr (λ p. b p.1)
four (inl a) (inl b) (inr c) d = inr (λ p. c p.2)
four (inl a) (inl b) (inl c) (inr d) = inr (λ p. d p.3)

less_cases : (a b : ℕ) → Cases (a < b)
less_cases a b = elim (cases_lt a b) [ inl lt ↦ inl lt | inr le ↦ inr (λ lt. absurd (omega arith)) ]

register_cases : (r : ℕ) → Cases (IsRegister r)
register_cases r = less_cases r REGISTERS

operand_cases : (o : Operand) → Cases (IsOperand o)
operand_cases (Register r) = less_cases r REGISTERS
operand_cases Shared = inl tt

operands_cases : (os : List Operand) → Cases (All IsOperand os)
operands_cases [] = inl (All-nil IsOperand)
operands_cases (o ∷ os) = elim (operand_cases o) [
  | inl a ↦ elim (operands_cases os) [
    | inl b ↦ inl (All-cons IsOperand o os a b)
    | inr never ↦ inr (λ h. never (All-tail IsOperand o os h))
  ]
  | inr never ↦ inr (λ h. never (All-head IsOperand o os h))
]

registers_cases : (c : Command) → Cases (HasRegisters c)
registers_cases (Num dest number) = register_cases dest
registers_cases (Nil dest) = register_cases dest
registers_cases (Mov dest v) = two (register_cases dest) (operand_cases v)
registers_cases (Con dest tag fields) = two (register_cases dest) (operands_cases fields)
registers_cases (Var dest v) = two (register_cases dest) (operand_cases v)
registers_cases (Arr dest count v) = two (register_cases dest) (operand_cases v)
registers_cases (Rec dest fields) = two (register_cases dest) (operands_cases fields)
registers_cases (Thunk dest free) = two (register_cases dest) (operands_cases free)
registers_cases (Weak dest key v finaliser) = four (register_cases dest) (operand_cases key) (operand_cases v) (operand_cases finaliser)
registers_cases (Stack dest size) = register_cases dest
registers_cases (Get dest object index) = two (register_cases dest) (operand_cases object)
registers_cases (Tag dest object) = two (register_cases dest) (operand_cases object)
registers_cases (Set object index v) = two (operand_cases object) (operand_cases v)
registers_cases (Cas object index expected v) = three (operand_cases object) (operand_cases expected) (operand_cases v)
registers_cases (Update object v) = two (operand_cases object) (operand_cases v)
registers_cases (Force dest object) = two (register_cases dest) (operand_cases object)
registers_cases (Push object v) = two (operand_cases object) (operand_cases v)
registers_cases (Pop dest object) = two (register_cases dest) (operand_cases object)
registers_cases (Deref dest object) = two (register_cases dest) (operand_cases object)
registers_cases (Finalise dest object) = two (register_cases dest) (operand_cases object)
registers_cases (NextFin dest) = register_cases dest
registers_cases (Show v) = operand_cases v
registers_cases (Same left right) = two (operand_cases left) (operand_cases right)
registers_cases Yield = inl tt
registers_cases Collect = inl tt
registers_cases Full = inl tt

-- whether a command can be given
pub can_cases : (w : World) (m : ℕ) (c : Command) → Cases (CanApply w m c)
can_cases w m c = elim (three (less_cases m (length w.mutators)) (registers_cases c) (less_cases (serial_of w m) (2 ^ 32 - 1))) [
  | inl p ↦ inl (record { mutator = p.0; registers = p.1; serial = p.2 })
  | inr never ↦ inr (λ can. never (can.mutator, can.registers, can.serial))
]

-- whether two answers are the same
value_cases : (a b : Value) → Cases (a ≡ b)
value_cases value.Nil value.Nil = inl refl
value_cases (value.Number m) (value.Number n) = elim (cases_eq m n) [
  | inl e ↦ inl (ap (λ (k : ℕ). value.Number k) e)
  | inr ne ↦
      inr (λ e. ne (let is : m ≡ n = cc in is))
]
value_cases (value.Ref m) (value.Ref n) = elim (name_cases m n) [
  | inl e ↦ inl (ap (λ (k : Name). value.Ref k) e)
  | inr ne ↦
      inr (λ e. ne (let is : m ≡ n = cc in is))
]
value_cases a b = inr (λ e. cc)

pub reply_cases : (a b : Reply) → Cases (a ≡ b)
reply_cases reply.Fine reply.Fine = inl refl
reply_cases reply.Yes reply.Yes = inl refl
reply_cases reply.No reply.No = inl refl
reply_cases reply.Updated reply.Updated = inl refl
reply_cases reply.Already reply.Already = inl refl
reply_cases (reply.Given v) (reply.Given w) = elim (value_cases v w) [
  | inl e ↦ inl (ap (λ (k : Value). reply.Given k) e)
  | inr ne ↦
      inr (λ e. ne (let is : v ≡ w = cc in is))
]
reply_cases reply.NoPointer reply.NoPointer = inl refl
reply_cases reply.NoField reply.NoField = inl refl
reply_cases reply.WrongKind reply.WrongKind = inl refl
reply_cases reply.NotOwner reply.NotOwner = inl refl
reply_cases reply.Fixed reply.Fixed = inl refl
reply_cases reply.Dead reply.Dead = inl refl
reply_cases reply.Nothing reply.Nothing = inl refl
reply_cases reply.StackFull reply.StackFull = inl refl
reply_cases reply.StackEmpty reply.StackEmpty = inl refl
reply_cases a b = inr (λ e. cc)

-- the fields of a name that both worlds have at the first positions
pub record Noted (snapshot w : World) (name : Name) (n : ℕ) : Type 0 where
  pub fields : List Field
  pub sound : (f : Field) → Contains fields f → (stands_in snapshot f ≡ true) × (stands_in w f ≡ true)
  pub all : (f : Field) → f.name ≡ name → 0 ≤ f.place → f.place < n → stands_in snapshot f ≡ true → stands_in w f ≡ true → Contains fields f

-- the field that both worlds have at a position
module _ (snapshot w : World) (name : Name) where
  abbrev field_to : ℕ → Name → Field
  field_to place target = record { name = name; place = place; target = target }

  abbrev standing_if : ℕ → Option Value → Option Field
  standing_if place None = None
  standing_if place (Some value.Nil) = None
  standing_if place (Some (value.Number n)) = None
  standing_if place (Some (value.Ref target)) = cond (stands_in w (field_to place target)) (Some (field_to place target)) None

  abbrev standing_at : ℕ → Option Field
  standing_at place = standing_if place (strong_in (node_of snapshot name) place)

  abbrev IsNoted : ℕ → Option Value → Field → Type 0
  IsNoted place o f = (f.name ≡ name) × (f.place ≡ place) × (is_ref_to f.target o ≡ true) × (stands_in w f ≡ true)

  if_some : (place : ℕ) (o : Option Value) (f : Field) → standing_if place o ≡ Some f → IsNoted place o f
  if_some place None f e = absurd (let bad : None ≡ Some f = e in cc)
  if_some place (Some value.Nil) f e = absurd (let bad : None ≡ Some f = e in cc)
  if_some place (Some (value.Number n)) f e = absurd (let bad : None ≡ Some f = e in cc)
  if_some place (Some (value.Ref target)) f e = by_test (stands_in w (field_to place target)) refl e
    where
      by_test : (b : Bool) → stands_in w (field_to place target) ≡ b → cond b (Some (field_to place target)) None ≡ Some f →
          IsNoted place (Some (value.Ref target)) f
      by_test true t k = let is : field_to place target ≡ f = cc in subst (IsNoted place (Some (value.Ref target))) is (refl, refl, is_same_name-refl target, t)
      by_test false t k = absurd (let bad : None ≡ Some f = k in cc)

  if_all : (place : ℕ) (o : Option Value) (f : Field) → f.name ≡ name → f.place ≡ place → is_ref_to f.target o ≡ true → stands_in w f ≡ true →
      standing_if place o ≡ Some f
  if_all place None f a b r t = absurd (false≢true r)
  if_all place (Some value.Nil) f a b r t = absurd (false≢true r)
  if_all place (Some (value.Number n)) f a b r t = absurd (false≢true r)
  if_all place (Some (value.Ref target)) f a b r t =
      let same : target ≡ f.target = tested_same target f.target r in
      let is : field_to place target ≡ f = (λ k. record { name = sym a k; place = sym b k; target = same k }) in
      let stands : stands_in w (field_to place target) ≡ true = subst (λ (g : Field). stands_in w g ≡ true) (sym is) t in
      ap (λ (x : Bool). cond x (Some (field_to place target)) None) stands ∙ ap (λ (g : Field). Some g) is

  at_some : (place : ℕ) (f : Field) → standing_at place ≡ Some f → (f.name ≡ name) × (f.place ≡ place) × (stands_in snapshot f ≡ true) × (stands_in w f ≡ true)
  at_some place f e =
      let p : IsNoted place (strong_in (node_of snapshot name) place) f = if_some place (strong_in (node_of snapshot name) place) f e in (
        p.0,
        p.1,
        subst (λ (n : Name). is_ref_to f.target (strong_in (node_of snapshot n) f.place) ≡
            true) (sym p.0) (subst (λ (k : ℕ). is_ref_to f.target (strong_in (node_of snapshot name) k) ≡ true) (sym p.1) p.2),
        p.3,
      )

  at_all : (place : ℕ) (f : Field) → f.name ≡ name → f.place ≡ place → stands_in snapshot f ≡ true → stands_in w f ≡ true → standing_at place ≡ Some f
  at_all place f a b s t = if_all place (strong_in (node_of snapshot name) place) f a b
      (subst (λ (k : ℕ). is_ref_to f.target (strong_in (node_of snapshot name) k) ≡
      true) b (subst (λ (n : Name). is_ref_to f.target (strong_in (node_of snapshot n) f.place) ≡ true) a s)) t

  pub noted : (n : ℕ) → Noted snapshot w name n
  noted zero = record { fields = []; sound = λ f c. absurd (nothing_in f c); all = λ f e le lt s t. absurd (omega arith) }
  noted (suc n) =
      let p : Noted snapshot w name n = noted n in
      let on : n + 1 ≡ suc n = omega arith in
      record {
        fields = p.fields ++ option_to_list (standing_at n);
        sound = noted_sound snapshot w name 0 n p.fields (standing_at n) p.sound (at_some n);
        all = λ f e le lt. noted_all snapshot w name 0 n p.fields (standing_at n) p.all (at_all n) f e le (subst (λ (k : ℕ). f.place < k) (sym on) lt);
      }

same_pair : (p q : Value × Change) → Some p ≡ Some q → p ≡ q
same_pair p q e = cc

-- the fields that both worlds have at positions that a command may write or remove
pub standing : (snapshot w : World) (m : ℕ) (c : Command) → (fields : List Field) × IsStanding snapshot w m c fields
standing snapshot w m c = by_asked (asked w m c) refl
  where
    nowhere : ((name : Name) (ch : Change) (node : Node) → asked w m c ≡ Some (value.Ref name, ch) → node_of w name ≡ Some node → ⊥) →
        (fields : List Field) × IsStanding snapshot w m c fields
    nowhere never = ([], record { sound = λ f k. absurd (nothing_in f k); all = λ f ch node e there first before s t. absurd (never f.name ch node e there) })

    by_node : (name : Name) (ch : Change) (o : Option Node) → asked w m c ≡ Some (value.Ref name, ch) → node_of w name ≡ o → (fields : List Field) ×
        IsStanding snapshot w m c fields
    by_node name ch None e there = nowhere (λ n k node a b.
        let both : (value.Ref name, ch) ≡ (value.Ref n, k) = same_pair (value.Ref name, ch) (value.Ref n, k) (sym e ∙ a) in
        let same : name ≡ n = ref_is name n (ap (λ (p : Value × Change). p.0) both) in
        let bad : None ≡ Some node = sym there ∙ (ap (node_of w) same ∙ b) in
        cc)
    by_node name ch (Some node) e there =
        let p : Noted snapshot w name (end_place ch node) = noted snapshot w name (end_place ch node) in (
          p.fields,
          record {
            sound = p.sound;
            all = λ f k found a b first before s t.
                let both : (value.Ref name, ch) ≡ (value.Ref f.name, k) = same_pair (value.Ref name, ch) (value.Ref f.name, k) (sym e ∙ a) in
                let same : name ≡ f.name = ref_is name f.name (ap (λ (p : Value × Change). p.0) both) in
                let same_change : ch ≡ k = ap (λ (p : Value × Change). p.1) both in
                let nodes : Some node ≡ Some found = sym there ∙ (ap (node_of w) same ∙ b) in
                let same_node : node ≡ found = cc in
                let within : f.place < end_place ch node = subst (λ (x : Change).
                f.place < end_place x node) (sym same_change) (subst (λ (x : Node). f.place < end_place k x) (sym same_node) before) in
                p.all f (sym same) (omega arith) within s t;
          },
        )

    by_value : (v : Value) (ch : Change) → asked w m c ≡ Some (v, ch) → (fields : List Field) × IsStanding snapshot w m c fields
    by_value value.Nil ch e =
        nowhere (λ n k node a b.
        let bad : value.Nil ≡ value.Ref n = ap (λ (p : Value × Change). p.0) (same_pair (value.Nil, ch) (value.Ref n, k) (sym e ∙ a)) in cc)
    by_value (value.Number x) ch e = nowhere (λ n k node a b.
        let bad : value.Number x ≡ value.Ref n = ap (λ (p : Value × Change). p.0) (same_pair (value.Number x, ch) (value.Ref n, k) (sym e ∙ a)) in cc)
    by_value (value.Ref name) ch e = by_node name ch (node_of w name) e refl

    by_asked : (o : Option (Value × Change)) → asked w m c ≡ o → (fields : List Field) × IsStanding snapshot w m c fields
    by_asked None e = nowhere (λ n k node a b. let bad : None ≡ Some (value.Ref n, k) = sym e ∙ a in cc)
    by_asked (Some (v, ch)) e = by_value v ch e

same_field : (name target : Name) (place : ℕ) (f : Field) → name ≡ f.name → place ≡ f.place → target ≡ f.target →
    record { name = name; place = place; target = target } ≡ f
same_field name target place f a b e = (λ k. record { name = a k; place = b k; target = e k })

-- the field that a command may write, if the world doesn't have it
module _ (w : World) (m : ℕ) (c : Command) where
  abbrev Coming : Type 0
  Coming = (field : Option Field) × IsComing w m c field

  none_coming : ((f : Field) (ch : Change) (node : Node) → asked w m c ≡ Some (value.Ref f.name, ch) → node_of w f.name ≡ Some node →
      place_written ch node ≡ Some f.place → value_written ch ≡ Some (value.Ref f.target) → stands_in w f ≡ false → ⊥) → Coming
  none_coming never = (None, record { sound = λ f k. let bad : None ≡ Some f = k in absurd cc; all = λ f ch node a b p v s. absurd (never f ch node a b p v s) })

  module _ (name : Name) (ch : Change) (node : Node) (e : asked w m c ≡ Some (value.Ref name, ch)) (there : node_of w name ≡ Some node) where
    same_asked : (n : Name) (k : Change) → asked w m c ≡ Some (value.Ref n, k) → ◌≡◌ {A = Value × Change} (value.Ref name, ch) (value.Ref n, k)
    same_asked n k a = same_pair (value.Ref name, ch) (value.Ref n, k) (sym e ∙ a)

    same_name_is : (n : Name) (k : Change) → asked w m c ≡ Some (value.Ref n, k) → name ≡ n
    same_name_is n k a = ref_is name n (ap (λ (p : Value × Change). p.0) (same_asked n k a))

    same_change_is : (n : Name) (k : Change) → asked w m c ≡ Some (value.Ref n, k) → ch ≡ k
    same_change_is n k a = ap (λ (p : Value × Change). p.1) (same_asked n k a)

    same_place : (o : Option ℕ) → place_written ch node ≡ o → (n : Name) (k : Change) (found : Node) (place : ℕ) → asked w m c ≡ Some (value.Ref n, k) →
        node_of w n ≡ Some found → place_written k found ≡ Some place → o ≡ Some place
    same_place o p n k found place a b q =
        let nodes : Some node ≡ Some found = sym there ∙ (ap (node_of w) (same_name_is n k a) ∙ b) in
        let is : node ≡ found = cc in
        sym p ∙ (ap (λ (x : Change). place_written x node) (same_change_is n k a) ∙ (ap (λ (x : Node). place_written k x) is ∙ q))

    same_value : (o : Option Value) → value_written ch ≡ o → (n : Name) (k : Change) (v : Value) → asked w m c ≡ Some (value.Ref n, k) →
        value_written k ≡ Some v → o ≡ Some v
    same_value o p n k v a q = sym p ∙ (ap value_written (same_change_is n k a) ∙ q)

    at_field : (place : ℕ) (target : Name) → place_written ch node ≡ Some place → value_written ch ≡ Some (value.Ref target) →
        (b : Bool) → stands_in w (record { name = name; place = place; target = target }) ≡ b → Coming
    at_field place target p v b t = by_test b t
      where
        g : Field
        g = record { name = name; place = place; target = target }

        is_g : (f : Field) (k : Change) (found : Node) → asked w m c ≡ Some (value.Ref f.name, k) → node_of w f.name ≡ Some found →
            place_written k found ≡ Some f.place → value_written k ≡ Some (value.Ref f.target) → g ≡ f
        is_g f k found a b' q u =
            let places : Some place ≡ Some f.place = same_place (Some place) p f.name k found f.place a b' q in
            let values : Some (value.Ref target) ≡ Some (value.Ref f.target) = same_value (Some (value.Ref target)) v f.name k (value.Ref f.target) a u in
            let is_place : place ≡ f.place = cc in
            let is_target : target ≡ f.target = cc in
            same_field name target place f (same_name_is f.name k a) is_place is_target

        by_test : (b : Bool) → stands_in w g ≡ b → Coming
        by_test true t = none_coming (λ f k found a b' q u s.
            let bad : true ≡ false = sym t ∙ subst (λ (x : Field). stands_in w x ≡ false) (sym (is_g f k found a b' q u)) s in cc)
        by_test false t = (
          Some g,
          record {
            sound = λ f k. let is : g ≡ f = cc in subst (λ (x : Field). stands_in w x ≡ false) is t;
            all = λ f k found a b' q u s. ap (λ (x : Field). Some x) (is_g f k found a b' q u);
          },
        )

    by_written : (p : Option ℕ) (v : Option Value) → place_written ch node ≡ p → value_written ch ≡ v → Coming
    by_written None v p q = none_coming (λ f k found a b r u s. let bad : None ≡ Some f.place = same_place None p f.name k found f.place a b r in cc)
    by_written (Some place) None p q = none_coming (λ f k found a b r u s.
        let bad : None ≡ Some (value.Ref f.target) = same_value None q f.name k (value.Ref f.target) a u in cc)
    by_written (Some place) (Some value.Nil) p q = none_coming (λ f k found a b r u s.
        let bad : Some value.Nil ≡ Some (value.Ref f.target) = same_value (Some value.Nil) q f.name k (value.Ref f.target) a u in cc)
    by_written (Some place) (Some (value.Number n)) p q = none_coming (λ f k found a b r u s.
        let bad : Some (value.Number n) ≡ Some (value.Ref f.target) = same_value (Some (value.Number n)) q f.name k (value.Ref f.target) a u in cc)
    by_written (Some place) (Some (value.Ref target)) p q = at_field place target p q (stands_in w (record { name = name; place = place; target = target })) refl

  by_node : (name : Name) (ch : Change) → asked w m c ≡ Some (value.Ref name, ch) → (o : Option Node) → node_of w name ≡ o → Coming
  by_node name ch e None there = none_coming (λ f k found a b p v s.
      let both : (value.Ref name, ch) ≡ (value.Ref f.name, k) = same_pair (value.Ref name, ch) (value.Ref f.name, k) (sym e ∙ a) in
      let same : name ≡ f.name = ref_is name f.name (ap (λ (p : Value × Change). p.0) both) in
      let bad : None ≡ Some found = sym there ∙ (ap (node_of w) same ∙ b) in cc)
  by_node name ch e (Some node) there = by_written name ch node e there (place_written ch node) (value_written ch) refl refl

  by_asked : (o : Option (Value × Change)) → asked w m c ≡ o → Coming
  by_asked None e = none_coming (λ f k found a b p v s. let bad : None ≡ Some (value.Ref f.name, k) = sym e ∙ a in cc)
  by_asked (Some (value.Nil, ch)) e = none_coming (λ f k found a b p v s.
      let bad : value.Nil ≡ value.Ref f.name = ap (λ (p : Value × Change). p.0) (same_pair (value.Nil, ch) (value.Ref f.name, k) (sym e ∙ a)) in cc)
  by_asked (Some (value.Number n, ch)) e = none_coming (λ f k found a b p v s.
      let bad : value.Number n ≡ value.Ref f.name = ap (λ (p : Value × Change). p.0) (same_pair (value.Number n, ch) (value.Ref f.name, k) (sym e ∙ a)) in cc)
  by_asked (Some (value.Ref name, ch)) e = by_node name ch e (node_of w name) refl

  pub coming : Coming
  coming = by_asked (asked w m c) refl

-- a watched cycle takes a command
module _ (h : Hybrid) (is : IsWorld h.watch.world) (line m : ℕ) (c : Command) (can : CanApply h.watch.world m c) where
  own : m ≢ SHARED_MAKER
  own = not_shared h.watch.world m is can.mutator

  abbrev fields : List Field
  fields = (standing h.watch.snapshot h.watch.world m c).0

  fields_stand : IsStanding h.watch.snapshot h.watch.world m c fields
  fields_stand = (standing h.watch.snapshot h.watch.world m c).1

  abbrev given_out : List Name
  given_out = handed h m c is can (coming h.watch.world m c).0 (coming h.watch.world m c).1

  abbrev broken : List Name
  broken = filter (is_pushed_in h.watch.snapshot) (targets (filter (λ g. not (stands_in (step h.watch.world m c).0 g)) fields) ++
      (opened_by h.watch.world m c ++ kept_then h.watch.snapshot (finalised_by h.watch.world m c)))

  abbrev found : List Name
  found = broken ++ given_out

  abbrev fresh : Name → Bool
  fresh n = not (is_listed n h.watch.remembered)

  abbrev more : List Debt
  more = map (debt_of line m) (filter fresh found)

  abbrev there : Name → Bool
  there n = is_some (node_of h.watch.snapshot n)

  abbrev opens : List Name
  opens = filter there (opened_by h.watch.world m c)

  abbrev pub after : Hybrid
  after = record h {
    watch = record h.watch {
      world = (step h.watch.world m c).0;
      debts = h.watch.debts ++ more;
      opened = h.watch.opened ++ (opens ++ given_out);
      finalised = h.watch.finalised ++ finalised_by h.watch.world m c;
    };
  }

  unlisted : (n : Name) → fresh n ≡ true → Contains h.watch.remembered n → ⊥
  unlisted n e r = let t : is_listed n h.watch.remembered ≡ true = listed_from n h.watch.remembered r in
      let bad : not true ≡ true = subst (λ (b : Bool). not b ≡ true) t e in cc

  due_in : (n : Name) → Contains found n → IsDueIn h m c n
  due_in n k = elim (Contains-append_cases broken given_out n k) [
    | inl b ↦ inl (found_due h.watch.snapshot h.watch.world m c can.mutator own fields fields_stand n b)
    | inr d ↦ inr (found_handed h m c is can (coming h.watch.world m c).0 (coming h.watch.world m c).1 n d)
  ]

  in_due : (n : Name) → IsDueIn h m c n → Contains found n
  in_due n (inl d) = Contains-append_left broken given_out n (due_found h.watch.snapshot h.watch.world m c can.mutator own fields fields_stand n d)
  in_due n (inr d) = Contains-append_right broken given_out n (handed_found h m c is can (coming h.watch.world m c).0 (coming h.watch.world m c).1 n d)

  pub watched : IsTaken line m c h after
  watched = record {
    can = can;
    says = refl;
    rest = refl;
    opened = λ n. (
      λ k. elim (Contains-append_cases h.watch.opened (opens ++ given_out) n k) [
        | inl old ↦ inl old
        | inr new ↦ elim (Contains-append_cases opens given_out n new) [
          | inl o ↦ inr (inl (filter_contains there (opened_by h.watch.world m c) n o))
          | inr d ↦ inr (inr (found_handed h m c is can (coming h.watch.world m c).0 (coming h.watch.world m c).1 n d))
        ]
      ],
      λ k. elim k [
        | inl old ↦ Contains-append_left h.watch.opened (opens ++ given_out) n old
        | inr (inl new) ↦ Contains-append_right h.watch.opened (opens ++ given_out) n
            (Contains-append_left opens given_out n (contains_filter there (opened_by h.watch.world m c) n new.0 new.1))
        | inr (inr d) ↦ Contains-append_right h.watch.opened (opens ++ given_out) n (Contains-append_right opens given_out n
            (handed_found h m c is can (coming h.watch.world m c).0 (coming h.watch.world m c).1 n d))
      ],
    );
    old = λ d k. Contains-append_left h.watch.debts more d k;
    new = λ d k. elim (Contains-append_cases h.watch.debts more d k) [
      | inl old ↦ inl old
      | inr new ↦ inr (by_name d (in_mapped (debt_of line m) (filter fresh found) d new))
    ];
    due = λ n d. elim (cases_Bool (is_listed n h.watch.remembered)) [
      | inl t ↦ inl (contains_listed n h.watch.remembered t)
      | inr f ↦ inr (
        debt_of line m n,
        Contains-append_right h.watch.debts more (debt_of line m n)
            (mapped_in (debt_of line m) (filter fresh found) n (contains_filter fresh found n (in_due n d) (ap not f))),
        refl,
        refl,
      )
    ];
  }
    where
      by_name : (d : Debt) → ((n : Name) × Contains (filter fresh found) n × (debt_of line m n ≡ d)) → (d.line ≡ line) × (d.mutator ≡ m) ×
          IsDueIn h m c d.name × (Contains h.watch.remembered d.name → ⊥)
      by_name d (n, k, e) =
          let p : Contains found n × (fresh n ≡ true) = filter_contains fresh found n k in (
            sym (ap (λ (x : Debt). x.line) e),
            sym (ap (λ (x : Debt). x.mutator) e),
            subst (λ (x : Debt). IsDueIn h m c x.name) e (due_in n p.0),
            subst (λ (x : Debt). Contains h.watch.remembered x.name → ⊥) e (unlisted n p.1),
          )
