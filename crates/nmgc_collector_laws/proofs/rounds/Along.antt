-- A mutator's rows along the history of the round: before each of them its registers mean the world's values.
use Rattle.nmgc_collector_laws.proofs.Vocabulary.{◌≡◌, ◌≢◌, ◌⊎◌, ◌<◌, ℕ, List, [], ◌∷◌, length, refl, sym, ap, subst, ◌∙◌, inl, inr, eqb_tells, All-nil, All-cons, All-head, All-tail, Command, Reply, World, IsWorld, state_of, CanApply, shared_name, step, Row, SHARED_PLACE, step_keeps_world, step_leaves_others, State, after_command, after_scan, Place, ListMeans, Happening, did, scanned, IsLegal, done_by, rows_in, Answer, plain, word, FixedWord, Hand, leaves, OwnRow, AllReply, Replies, Answers, AllAnswer, Done, SHARED_MAKER, not_shared, world_scanned, All}
use Rattle.nmgc_collector_laws.proofs.{rounds.RowRegisters.IsPlain, rounds.RowRegisters.registers_left, rounds.Depths.Depths, rounds.Depths.depths_other, rounds.Depths.depths_left}

plain_reply : (fixed : List FixedWord) (a : Answer) (r : Reply) → Replies fixed a r → IsPlain a
plain_reply fixed (plain x) r h = h.1
plain_reply fixed (word w) r h = tt

-- no plain answer of a mutator's rows gives a value
abbrev pub ArePlain : List OwnRow → Type 0
ArePlain own = All (λ (r : OwnRow). IsPlain r.answer) own

pub all_plain : (fixed : List FixedWord) (own : List OwnRow) (done : List Done) → AllReply fixed own done → ArePlain own
all_plain fixed [] done h = All-nil (λ (r : OwnRow). IsPlain r.answer)
all_plain fixed (r ∷ own) [] h = absurd h
all_plain fixed (r ∷ own) (d ∷ done) h = All-cons (λ (r : OwnRow). IsPlain r.answer) r own (plain_reply fixed r.answer d.1 h.0.1) (all_plain fixed own done h.1)

module _ (P : Place → Type 0) (m : ℕ) where
  -- a row of the mutator's own at its position in the history
  pub record IsOwn (w : World) (h : Hand) (r : OwnRow) (row : Row) : Type 0 where
    pub number : row.mutator ≡ m
    pub command : r.command ≡ row.command
    pub plain : IsPlain r.answer
    pub answers : Answers P r.answer row.reply
    pub registers : ListMeans P h.registers (state_of w m).registers
    pub depths : Depths P m w h

  -- from a hand and a world on, its rows are its own rows of the history
  abbrev pub Along : World → Hand → List OwnRow → List Row → Type 0
  Along w h own [] = own ≡ []
  Along w h own (row ∷ rows) =
      ((row.mutator ≢ m) × Along (step w row.mutator row.command).0 h own rows)
      ⊎ ((r : OwnRow) × (rest : List OwnRow) × (own ≡ r ∷ rest) × IsOwn w h r row ×
      Along (step w row.mutator row.command).0 (leaves h r.command r.answer) rest rows)

  -- for every hand that means its registers there and lists its stacks' depths, and for all rows of its work from there on
  abbrev Goes : World → List Done → List Row → Type 0
  Goes w done rows = (h : Hand) (own : List OwnRow) → AllAnswer P own done → ArePlain own → ListMeans P h.registers (state_of w m).registers →
      Depths P m w h → Along w h own rows

  module _ (one : (p q : Place) → P p → P q → (p.name ≡ q.name) ⊎ (p.at ≡ q.at) →
      p ≡ q) (mine : m ≢ SHARED_MAKER) (shared : P (record {
        at = SHARED_PLACE;
        name = shared_name;
      })) (w : World) (k : ℕ) (c : Command) (r : Reply) (is : IsWorld w) (can : CanApply w k c) (done : List Done)
      (rows : List Row) (go : Goes (step w k c).0 done rows) where
    -- over another mutator's command
    goes_by : k ≢ m → Goes w done (record { mutator = k; command = c; reply = r } ∷ rows)
    goes_by ne h own says known means d = inl (
      ne,
      go h own says known (rw (step_leaves_others w k c is can m (λ e.
          ne (sym e))).registers means) (depths_other P one m w mine h d k c can.mutator (not_shared w k is can.mutator) ne),
    )

    -- over its own command
    goes_on : k ≡ m → (step w k c).1 ≡ r → Goes w ((c, r) ∷ done) (record { mutator = k; command = c; reply = r } ∷ rows)
    goes_on e gives h [] says known means d = absurd says
    goes_on e gives h (x ∷ rest) says known means d =
        let plainly : IsPlain x.answer = All-head (λ (r : OwnRow). IsPlain r.answer) x rest known in
        let reply : r ≡ (step w m x.command).1 = sym gives ∙ ap (λ j. (step w j c).1) e ∙ ap (λ d. (step w m d).1) (sym says.0.0) in
        let exists : m < length w.mutators = subst (λ j. j < length w.mutators) e can.mutator in
        let answers : Answers P x.answer (step w m x.command).1 = subst (λ (y : Reply). Answers P x.answer y) reply says.0.1 in
        let left = registers_left P w m exists h means shared x.command x.answer answers plainly in
        let deep = depths_left P one m w mine h d exists shared means x.command x.answer answers plainly in
        inr (
          x,
          rest,
          refl,
          record { number = e; command = says.0.0; plain = plainly; answers = says.0.1; registers = means; depths = d },
          go (leaves h x.command x.answer) rest says.1 (All-tail (λ (r : OwnRow). IsPlain r.answer) x rest known)
              (rw (← says.0.0) (subst (λ j. ListMeans P (leaves h x.command x.answer).registers (state_of (step w j x.command).0 m).registers) (sym e) left))
              (rw (← says.0.0) (rw e deep)),
        )

  -- the rows of a part go along the events of the round
  pub along : ((p q : Place) → P p → P q → (p.name ≡ q.name) ⊎ (p.at ≡ q.at) → p ≡ q) → m ≢ SHARED_MAKER →
      P (record { at = SHARED_PLACE; name = shared_name }) → (s : State) (hs : List Happening) → IsWorld s.world → IsLegal s hs →
      Goes s.world (done_by m hs) (rows_in hs)
  along one mine g s [] is legal h [] says known means d = refl
  along one mine g s [] is legal h (x ∷ own) says known means d = absurd says
  along one mine g s (scanned entry v ∷ hs) is legal h own says known means d =
      let e : (after_scan s s.queue).world ≡ s.world = world_scanned s s.queue in
      rw e at (along one mine g (after_scan s s.queue) hs (subst IsWorld (sym e) is) legal.1 h own says known (rw e means) (subst (λ (w : World). Depths P m w h) (sym e) d))
  along one mine g s (did k c r ∷ hs) is legal h own says known means d =
      let can : CanApply s.world k c = legal.0.0.1 in
      let go : Goes (step s.world k c).0 (done_by m hs) (rows_in hs) =
      along one mine g (after_command s k c) hs (step_keeps_world s.world k c is can) legal.1 in
      elim (eqb_tells k m) [
        | inl t ↦ goes_on one mine g s.world k c r is can (done_by m hs) (rows_in hs) go t.1 legal.0.0.2 h own (rw t.0 at says) known means d
        | inr t ↦ goes_by one mine g s.world k c r is can (done_by m hs) (rows_in hs) go t.1 h own (rw t.0 at says) known means d
      ]
