-- The own stacks of a hand, when nodes or hands change.
use Rattle.nmgc_round.proofs.{Vocabulary.◌≡◌, Vocabulary.◌≢◌, Vocabulary.inl, Vocabulary.inr, Vocabulary.ℕ, Vocabulary.List, Vocabulary.[], Vocabulary.sym, Vocabulary.ap, Vocabulary.◌∙◌, Vocabulary.Some, Vocabulary.Name, Vocabulary.Value, Vocabulary.Node, Vocabulary.Con, Vocabulary.Var, Vocabulary.Arr, Vocabulary.Thunk, Vocabulary.Weak, Vocabulary.Stack, Vocabulary.World, Vocabulary.node_of, Vocabulary.Header, Vocabulary.header_of, Vocabulary.Place, Vocabulary.cases_eq, Vocabulary.Hand, Vocabulary.Opening, Vocabulary.Object, Vocabulary.place_of, Vocabulary.IsObject, Vocabulary.IsIn, Vocabulary.RepresentsInRound, Vocabulary.slots_at, Vocabulary.OwnSlots, Standing.placed, Fields.list_more}

-- a node with a stack's header is a stack
pub stack_of : (n : Node) (size : ℕ) (values : List Value) → header_of n ≡ header_of (Stack size values) → (vs : List Value) × (n ≡ Stack size vs)
stack_of (Con tag vs) size values e = let k = ap (λ (h : Header). h.kind) e in absurd cc
stack_of (Var v) size values e = let k = ap (λ (h : Header). h.kind) e in absurd cc
stack_of (Arr vs) size values e = let k = ap (λ (h : Header). h.kind) e in absurd cc
stack_of (Thunk free result) size values e = let k = ap (λ (h : Header). h.kind) e in absurd cc
stack_of (Weak parts) size values e = let k = ap (λ (h : Header). h.kind) e in absurd cc
stack_of (Stack n vs) size values e = (vs, ap (λ (h : Header). Stack h.fields vs) e)

-- the own stacks stay, if every stack was there before and the hand has the same stacks
pub own_kept : (o : Opening) (born : List Object) (w u : World) (m : ℕ) (h k : Hand) → k.stacks ≡ h.stacks →
    ((n : Name) (size : ℕ) (values : List Value) → node_of u n ≡ Some (Stack size values) → node_of w n ≡ Some (Stack size values)) →
    OwnSlots o born w m h → OwnSlots o born u m k
own_kept o born w u m h k same before own x size values hx mine there =
    rw same (own x size values hx mine (before x.name size values there))

-- one more object, whose stack is empty if it is a stack
pub own_born : (o : Opening) (born more : List Object) (w u : World) (ws : List ℕ) → RepresentsInRound o more u ws →
    (m : ℕ) (h k : Hand) (x : Object) → IsObject o more x → ((y : Object) → IsObject o born y → IsObject o more y) →
    ((y : Object) → IsObject o more y → y.at ≢ x.at → IsObject o born y)
    → ((y : ℕ) → y ≢ x.at → slots_at k.stacks y ≡ slots_at h.stacks y) →
    ((size : ℕ) (values : List Value) → node_of u x.name ≡ Some (Stack size values) → (values ≡ []) × (slots_at k.stacks x.at ≡ Some []))
    → ((n : Name) → (n ≡ x.name → ⊥) → node_of u n ≡ node_of w n) → OwnSlots o born w m h → OwnSlots o more u m k
own_born o born more w u ws st m h k x hx grow before others first nodes own y size values hy mine there = elim (cases_eq y.at x.at) [
  | inl e ↦
      let one : place_of y ≡ place_of x = st.one (place_of y) (place_of x) (placed o more y hy) (placed o more x hx) (inr e) in
      let t = first size values (rw (ap (λ (p : Place). p.name) one) at there) in
      ([], cc (e, t.1), rw t.0 tt)
  | inr ne ↦
      let apart : y.name ≡ x.name → ⊥ = λ same. ne (ap (λ (p : Place).
      p.at) (st.one (place_of y) (place_of x) (placed o more y hy) (placed o more x hx) (inl same))) in
      let r = own y size values (before y hy ne) mine (sym (nodes y.name apart) ∙ there) in (
        r.0,
        others y.at ne ∙ r.1,
        list_more (IsIn o born) (IsIn o more) (λ (q : Place) (i : IsIn o born q). (
          i.0,
          grow (record { at = q.at; name = q.name; node = i.0 }) i.1,
        )) r.0 values r.2,
      )
]
