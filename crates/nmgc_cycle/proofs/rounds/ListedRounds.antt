-- A script's programs as lists, in a round: whatever they give, the script has it.
use Rattle.nmgc_cycle.proofs.Vocabulary.{ℕ, zero, suc, ◌≡◌, ◌+◌, ◌-◌, ◌<◌, ◌≤◌, ◌++◌, ◌∙◌, List, [], ◌∷◌, map, take, drop, length, slice_get, slice_index, Option, Some, refl, sym, ap, subst, inl, take-append-drop, drop-drop, slice_get_within, arith, All, Fits, Command, Reply, Done, Script, program_of, longer, longer_script, left_at, Continues, Follows, GaveEach, CanContinue, MayBeAsked, AreListed, FitsRun, item}
use Rattle.nmgc_cycle.proofs.lists.Plans.{good_plan, program_few}
use Rattle.nmgc_mutator.specs.laws.Lists.{follows_at, listed}
use Rattle.nmgc_mutator.specs.declared.program.Listed.{Listed}

-- a fact of each item of a list, and of one more item
pub each_more : {A : Type 0} (F : ℕ → A → Type 0) (xs : List A) (x : A) → ((k : ℕ) (y : A) → slice_get xs k ≡ Some y → F k y) → F (length xs) x →
    (k : ℕ) (y : A) → slice_get (xs ++ x ∷ []) k ≡ Some y → F k y
each_more F [] x old own zero y e = let same : x ≡ y = cc in subst (F 0) same own
each_more F [] x old own (suc k) y e = absurd cc
each_more F (z ∷ xs) x old own zero y e = old zero y e
each_more F (z ∷ xs) x old own (suc k) y e = each_more (λ i. F (suc i)) xs x (λ i w f. old (suc i) w f) own k y e

longer_none : (programs : List (List Command)) → longer programs [] ≡ programs
longer_none [] = refl
longer_none (p ∷ programs) = refl

pub same_script : (script : Script) → longer_script [] script ≡ script
same_script script = ap (λ (l : List (List Command)). record script { threads = l }) (longer_none script.threads)

-- the rest of each program of a script: the commands given, and then commands that begin with the program's next command
abbrev pub FollowDone : {P : Type 0} → (P → Option Command) → Script → List ℕ → List P → List (List Done) → Type 0
FollowDone next script positions programs done = (k : ℕ) (q : _) (d : List Done) → slice_get programs k ≡ Some q → slice_get done k ≡ Some d →
    (rest : List Command) × (left_at script positions k ≡ map (λ (x : Done). x.0) d ++ rest) × Follows (next q) rest

-- programs that read the script's commands at its positions
module _ {P : Type 0} (next : P → Option Command) (steps : P → Reply → P → Type 0) (words most : P → ℕ) (valid : P → Type 0) (commands : P → List Command)
    (position : P → ℕ) (reads : (p : P) → next p ≡ slice_get (commands p) (position p))
    (moves : (p q : P) (r : Reply) → steps p r q → (commands q ≡ commands p) × (position q ≡ position p + 1)) (script : Script) (positions : List ℕ) (ps : List P)
    (are : (k : ℕ) (p : P) → slice_get ps k ≡ Some p → (commands p ≡ program_of script.threads k) × (position p ≡ slice_index positions k)) where
  pub listed_follow : (qs : List P) (done : List (List Done)) → GaveEach next steps words most valid ps qs done → FollowDone next script positions qs done
  listed_follow qs done gave k q d e f =
      let within = slice_get_within qs k q e in
      let p = item ps k (let n = gave.programs in subst (λ (n : ℕ). k < n) n within) in
      let h = listed next steps commands position reads moves p.0 q d (gave.each k p.0 q d p.1 e f).gives in
      let own = are k p.0 p.1 in
      let left : drop (position p.0) (commands p.0) ≡ left_at script positions k =
      ap (λ (l : List Command). drop (position p.0) l) own.0 ∙ ap (λ n. drop n (program_of script.threads k)) own.1 in
      let first : map (λ (x : Done). x.0) d ≡ take (length d) (left_at script positions k) = h.0 ∙ ap (λ (l : List Command). take (length d) l) left in
      let rest : drop (position q) (commands q) ≡ drop (length d) (left_at script positions k) =
      ap (λ (l : List Command). drop (position q) l) h.1 ∙ ap (λ n. drop n (commands p.0)) h.2 ∙ sym (drop-drop (length d) (position p.0) (commands p.0)) ∙
      ap (λ (l : List Command). drop (length d) l) left in (
        drop (length d) (left_at script positions k),
        sym (ap (λ (l : List Command). l ++ drop (length d) (left_at script positions k)) first ∙ take-append-drop (length d) (left_at script positions k)),
        subst (λ (l : List Command). Follows (next q) l) rest
            (subst (λ (o : Option Command). Follows o (drop (position q) (commands q))) (sym (reads q)) (follows_at (commands q) (position q))),
      )

  pub listed_continues : (qs : List P) (done : List (List Done)) → GaveEach next steps words most valid ps qs done → Continues next script positions qs done
  listed_continues qs done gave k q d e f = let on = listed_follow qs done gave k q d e f in (on.0, on.1, inl on.2)

  pub listed_can : FitsRun script → CanContinue next steps words most valid script positions ps
  listed_can limits qs done gave = (
    [],
    λ k lt. inl refl,
    subst (λ (s : Script). Continues next s positions qs done) (sym (same_script script)) (listed_continues qs done gave),
    subst FitsRun (sym (same_script script)) limits,
  )

-- a list of commands as a program: its next command, its steps, and its bounds
abbrev pub listed_next : Listed → Option Command
listed_next p = slice_get p.commands.now p.position

abbrev pub listed_steps : Listed → Reply → Listed → Type 0
listed_steps p r q = (q.commands ≡ p.commands) × (q.position ≡ p.position + 1)

abbrev pub listed_words : Listed → ℕ
listed_words p = p.words

abbrev pub listed_most : Listed → ℕ
listed_most p = length p.commands.now - p.position

abbrev pub listed_valid : Listed → Type 0
listed_valid p = All (Fits p.words) p.commands.now

-- the programs of a script, as lists
module _ (script : Script) (positions : List ℕ) (ps : List Listed) (limits : FitsRun script) (are : AreListed script positions ps) where
  pub lists_may : ((k : ℕ) → k < length script.threads → slice_index positions k ≤ length (program_of script.threads k)) →
      MayBeAsked listed_words listed_most listed_valid script positions ps
  lists_may inside = record {
    count = are.count;
    valid_are = λ k p e. rw ((are.each k p e).0, (are.each k p e).2) ((good_plan script limits).fit k);
    fit = λ k p e. let w = (are.each k p e).2 in omega (arith, w);
    few = λ k p e.
        let within = slice_get_within ps k p e in
        let n = are.count in
        let own = inside k (omega (arith, within, n)) in
        let at = (are.each k p e).1 in
        let long = ap (λ (l : List Command). length l) (are.each k p e).0 in
        let most = program_few script limits k in
        omega (arith, at, long, most, own);
  }

  pub lists_can : CanContinue listed_next listed_steps listed_words listed_most listed_valid script positions ps
  lists_can = listed_can listed_next listed_steps listed_words listed_most listed_valid (λ p. p.commands.now) (λ p. p.position) (λ p. refl)
      (λ p q r s. (ap (λ b. b.now) s.0, s.1)) script positions ps (λ k p e. ((are.each k p e).0, (are.each k p e).1)) limits

  pub lists_follow : (qs : List Listed) (done : List (List Done)) → GaveEach listed_next listed_steps listed_words listed_most listed_valid ps qs done →
      FollowDone listed_next script positions qs done
  lists_follow = listed_follow listed_next listed_steps listed_words listed_most listed_valid (λ p. p.commands.now) (λ p. p.position) (λ p. refl)
      (λ p q r s. (ap (λ b. b.now) s.0, s.1)) script positions ps (λ k p e. ((are.each k p e).0, (are.each k p e).1))

  pub lists_continue : (qs : List Listed) (done : List (List Done)) → GaveEach listed_next listed_steps listed_words listed_most listed_valid ps qs done →
      Continues listed_next script positions qs done
  lists_continue qs done gave k q d e f = let on = lists_follow qs done gave k q d e f in (on.0, on.1, inl on.2)
