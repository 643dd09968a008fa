-- Every event can happen or has a reason.
use Rattle.nmgc_barrier_checker.proofs.Vocabulary.{Option, Some, None, IsBefore, before_trans, not_before_itself, ◌≡◌, ◌≢◌, ◌<◌, ℕ, List, [], ◌∷◌, ◌++◌, length, map, refl, sym, ap, subst, ◌∙◌, arith, Bool, true, false, not, cond, inl, inr, ◌⊎◌, eqb, Contains, IsSome, is_some, filter, ◌&&◌, ◌↔◌, cases_Bool, cases_lt, false≢true, and_cases, and_parts, and_from, not-false, eqb-true, eq-eqb, Contains-append_left, Contains-append_right, Contains-append_cases, Name, MutatorState, Command, Reply, is_same_name, World, node_of, IsWorld, step, shared_name, Parts, IsAlive, IsDead, IsKept, Lists, closed, contains_head, contains_cases, nothing_in, one_is, contains_one, step_keeps_world, is_listed, tested_same, is_same_name-refl, contains_listed, not_listed, listed_from, Debt, Cycle, IsPushed, IsAllTaken, IsDeadAmong, Event, Why, CycleResult, Watch, IsUntakenName, IsTaken, keys_then, IsOpenedWith, is_done, Suits, Task, CanAct, WhyNoAct, AreDone, AreRows, StopsAt, IsStopped, mutators_of, registers_in, put_back, IsAbsent, IsAgainst, IsLeft, IsResultWith, is_old, MayFree, WhyKept, Can, IsWhy, AreClosed, EveryEventIsJudged, alive_there, Hybrid, AreScanned, IsWatchedIn, IsScanned, beginning, held_names, is_scanned, scanned_at_once, zero, suc, cases_eq, slice_set, IsTook, REGISTERS, CountsAsScanned, emptied, handed_over, Hand}
use Rattle.nmgc_world_spec.specs.declared.command.Reply.TheVariants as reply
use Rattle.nmgc_barrier_checker.specs.declared.event.Event.TheVariants as event
use Rattle.nmgc_barrier_checker.specs.declared.event.Why.TheVariants as why
use Rattle.nmgc_barrier_checker.specs.declared.watch.Watch.TheVariants as watch
use Rattle.nmgc_barrier_checker.specs.{First.IsEarlier, First.IsEarliest, First.IsFirstName, First.StandsFirst, Watching.IsFirstUnscanned, Watching.IsNotDead, Watching.IsOld, Watching.IsUnkept}
use Rattle.nmgc_barrier_checker.proofs.{Firsts.before_cases, Firsts.earlier_cases, Firsts.earlier_trans, Firsts.first_in, Firsts.least, Firsts.not_earlier_itself, Firsts.stands_by, Firsts.stands_head, Firsts.stands_tail, Reasons.no_freed_name}
use Rattle.nmgc_barrier_checker.proofs.{Exits.rows_place, Hands.hand_cases, Hands.hands, Hands.after as hands_after, Filters.kept_in, Filters.in_kept, ClosingLaws.keys_are, ClosingLaws.dead_named, ClosingLaws.needs_listed, CycleLaws.not_both, CycleLaws.not_so, Deciding.Decided, Deciding.all_names, Deciding.listed, Living.dead_decided, Living.dead_listed, Living.kept_listed, Watched.can_cases, Watched.reply_cases, Watched.after, Watched.watched}

-- an event at a line, at some state of the watch
abbrev Judged : ℕ → Watch → Event → Type 0
Judged line p e = ((next : Watch) × Can line p e next) ⊎ ((y : Why) × IsWhy p e y)

with_answer : (line m : ℕ) (c : Command) (answer : Reply) (h next : Hybrid) → IsTaken line m c h next → (step h.watch.world m c).1 ≡ answer →
    IsWatchedIn h line m c answer next
with_answer line m c answer h next t e = record { can = t.can; says = e; rest = t.rest; opened = t.opened; old = t.old; new = t.new; due = t.due }

-- a command
given : (line m : ℕ) (c : Command) (answer : Reply) (p : Watch) → AreClosed p → Judged line p (event.Given m c answer)
given line m c answer (watch.Between w) is = elim (can_cases w m c) [
  | inl can ↦ elim (reply_cases (step w m c).1 answer) [
    | inl e ↦ inl (watch.Between (step w m c).0, ((step w m c).0, (can, e, refl), refl))
    | inr ne ↦ inr (why.Answer (step w m c).1, (can, refl, ne))
  ]
  | inr never ↦ inr (why.CannotApply, never)
]
given line m c answer (watch.Marking h) is = elim (can_cases h.watch.world m c) [
  | inl can ↦ elim (reply_cases (step h.watch.world m c).1 answer) [
    | inl e ↦ inl (
      watch.Marking (after h is.0 line m c can),
      (after h is.0 line m c can, with_answer line m c answer h (after h is.0 line m c can) (watched h is.0 line m c can) e, refl),
    )
    | inr ne ↦ inr (why.Answer (step h.watch.world m c).1, (can, refl, ne))
  ]
  | inr never ↦ inr (why.CannotApply, never)
]
given line m c answer (watch.Ended left) is = elim (can_cases left.world m c) [
  | inl can ↦ elim (reply_cases (step left.world m c).1 answer) [
    | inl e ↦ inl (watch.Ended (record left { world = (step left.world m c).0 }), ((step left.world m c).0, (can, e, refl), refl))
    | inr ne ↦ inr (why.Answer (step left.world m c).1, (can, refl, ne))
  ]
  | inr never ↦ inr (why.CannotApply, never)
]
given line m c answer watch.Stopped is = inr (why.Misplaced, refl)

-- an answer suits a task or not
suits_cases : (o : Option Reply) (r : Reply) → Suits o r ⊎ (Suits o r → ⊥)
suits_cases None r = elim (cases_Bool (is_done r)) [ inl t ↦ inl t | inr f ↦ inr (λ t. false≢true (sym f ∙ t)) ]
suits_cases (Some wanted) r = elim (reply_cases r wanted) [ inl e ↦ inl e | inr ne ↦ inr ne ]

-- a task of several in one line
acts : (line m : ℕ) (k : Task) (p : Watch) → AreClosed p → ((next : Watch) × CanAct line m k p next) ⊎ ((y : Why) × WhyNoAct m k p y)
acts line m k (watch.Between w) is = elim (can_cases w m k.command) [
  | inl can ↦ elim (suits_cases k.answer (step w m k.command).1) [
    | inl done ↦ inl (watch.Between (step w m k.command).0, ((step w m k.command).0, (can, done, refl), refl))
    | inr undone ↦ inr (why.Answer (step w m k.command).1, (can, refl, undone))
  ]
  | inr never ↦ inr (why.CannotApply, never)
]
acts line m k (watch.Marking h) is = elim (can_cases h.watch.world m k.command) [
  | inl can ↦ elim (suits_cases k.answer (step h.watch.world m k.command).1) [
    | inl done ↦ inl (
      watch.Marking (after h is.0 line m k.command can),
      (after h is.0 line m k.command can, watched h is.0 line m k.command can, done, refl),
    )
    | inr undone ↦ inr (why.Answer (step h.watch.world m k.command).1, (can, refl, undone))
  ]
  | inr never ↦ inr (why.CannotApply, never)
]
acts line m k (watch.Ended left) is = elim (can_cases left.world m k.command) [
  | inl can ↦ elim (suits_cases k.answer (step left.world m k.command).1) [
    | inl done ↦ inl (watch.Ended (record left { world = (step left.world m k.command).0 }), ((step left.world m k.command).0, (can, done, refl), refl))
    | inr undone ↦ inr (why.Answer (step left.world m k.command).1, (can, refl, undone))
  ]
  | inr never ↦ inr (why.CannotApply, never)
]
acts line m k watch.Stopped is = inr (why.Misplaced, refl)

still_closed : (line m : ℕ) (k : Task) (p next : Watch) → AreClosed p → CanAct line m k p next → AreClosed next
still_closed line m k (watch.Between w) next is a =
    subst AreClosed (sym a.2) (subst IsWorld (sym a.1.2) (step_keeps_world w m k.command is a.1.0))
still_closed line m k (watch.Marking h) next is a = subst AreClosed (sym a.3) (
  subst IsWorld (sym (ap (λ (x : Hybrid). x.watch.world) a.1.rest)) (step_keeps_world h.watch.world m k.command is.0 a.1.can),
  subst IsWorld (sym (ap (λ (x : Hybrid). x.watch.snapshot) a.1.rest)) is.1,
)
still_closed line m k (watch.Ended left) next is a =
    subst AreClosed (sym a.2) (subst IsWorld (sym a.1.2) (step_keeps_world left.world m k.command is a.1.0))
still_closed line m k watch.Stopped next is a = absurd a

all_acts : (line m : ℕ) (tasks : List Task) (p : Watch) → AreClosed p → ((next : Watch) × AreDone line m tasks p next) ⊎
    ((y : Why) × (last : Watch) × StopsAt line m tasks p y last)
all_acts line m [] p is = inl (p, refl)
all_acts line m (k ∷ ks) p is = elim (acts line m k p is) [
  | inl a ↦ elim (all_acts line m ks a.0 (still_closed line m k p a.0 is a.1)) [
    | inl d ↦ inl (d.0, (a.0, a.1, d.1))
    | inr s ↦ inr (
      s.0,
      s.1,
      record {
        before = k ∷ s.2.before;
        task = s.2.task;
        later = s.2.later;
        tasks_are = ap (λ (l : List Task). k ∷ l) s.2.tasks_are;
        done = (a.0, a.1, s.2.done);
        reason = s.2.reason;
      },
    )
  ]
  | inr r ↦ inr (r.0, p, record { before = []; task = k; later = ks; tasks_are = refl; done = refl; reason = r.1 })
]

some_rows : (line m : ℕ) (borrowed : List ℕ) (tasks : List Task) (p : Watch) → AreClosed p → ((next : Watch) × AreRows line m borrowed tasks p next) ⊎
    ((y : Why) × ((line' : ℕ) × (last : Watch) × (IsStopped line' m borrowed tasks p y last ⊎ IsAbsent m p y last)))
some_rows line m borrowed tasks p is = elim (cases_lt m (mutators_of p)) [
  | inl lt ↦ elim (all_acts line m tasks p is) [
    | inl d ↦ inl (put_back m (registers_in m p) borrowed d.0, (lt, (d.0, d.1, refl)))
    | inr s ↦ inr (s.0, (line, put_back m (registers_in m p) borrowed s.1, inl (s.1, s.2, refl)))
  ]
  | inr le ↦ inr (why.CannotApply, (line, p, inr (refl, (λ lt. let l : m < mutators_of p = lt in omega arith), refl)))
]

rows : (line m : ℕ) (borrowed : List ℕ) (tasks : List Task) (p : Watch) → AreClosed p → Judged line p (event.Rows m borrowed tasks)
rows line m borrowed tasks (watch.Between w) is = some_rows line m borrowed tasks (watch.Between w) is
rows line m borrowed tasks (watch.Marking h) is = some_rows line m borrowed tasks (watch.Marking h) is
rows line m borrowed tasks (watch.Ended left) is = some_rows line m borrowed tasks (watch.Ended left) is
rows line m borrowed tasks watch.Stopped is = inr (why.Misplaced, (line, watch.Stopped, (refl, refl)))

-- a value that goes from mutator to mutator
hand : (line : ℕ) (k : Hand) (answer : Reply) (p : Watch) → Judged line p (event.Hand k answer)
hand line k answer (watch.Between w) = elim (hand_cases w k) [
  | inl can ↦ elim (reply_cases answer reply.Fine) [
    | inl e ↦ inl (
      watch.Between (handed_over w k.giver k.value k.taker k.dest),
      (handed_over w k.giver k.value k.taker k.dest, (can, e, refl), refl),
    )
    | inr ne ↦ inr (why.Answer reply.Fine, inr (can, refl, ne))
  ]
  | inr never ↦ inr (why.CannotApply, inl (refl, never))
]
hand line k answer (watch.Marking h) = elim (hand_cases h.watch.world k) [
  | inl can ↦ elim (reply_cases answer reply.Fine) [
    | inl e ↦ inl (
      watch.Marking (hands_after h line k.giver k.value k.taker k.dest can),
      (
        hands_after h line k.giver k.value k.taker k.dest can,
        hands h line k.giver k.value k.taker k.dest can,
        e,
        refl,
      ),
    )
    | inr ne ↦ inr (why.Answer reply.Fine, inr (can, refl, ne))
  ]
  | inr never ↦ inr (why.CannotApply, inl (refl, never))
]
hand line k answer (watch.Ended left) = elim (hand_cases left.world k) [
  | inl can ↦ elim (reply_cases answer reply.Fine) [
    | inl e ↦ inl (
      watch.Ended (record left { world = handed_over left.world k.giver k.value k.taker k.dest }),
      (handed_over left.world k.giver k.value k.taker k.dest, (can, e, refl), refl),
    )
    | inr ne ↦ inr (why.Answer reply.Fine, inr (can, refl, ne))
  ]
  | inr never ↦ inr (why.CannotApply, inl (refl, never))
]
hand line k answer watch.Stopped = inr (why.Misplaced, refl)

-- marking begins
mark : (line : ℕ) (p : Watch) → Judged line p event.Mark
mark line (watch.Between w) = inl (watch.Marking (scanned_at_once w), refl)
mark line (watch.Marking h) = inr (why.Misplaced, refl)
mark line (watch.Ended left) = inl (watch.Marking (scanned_at_once left.world), refl)
mark line watch.Stopped = inr (why.Misplaced, refl)

mark_shared : (line : ℕ) (p : Watch) → Judged line p event.MarkShared
mark_shared line (watch.Between w) = inl (watch.Marking (beginning w), refl)
mark_shared line (watch.Marking h) = inr (why.Misplaced, refl)
mark_shared line (watch.Ended left) = inl (watch.Marking (beginning left.world), refl)
mark_shared line watch.Stopped = inr (why.Misplaced, refl)

-- a scan of a mutator
module _ (h : Hybrid) (m : ℕ) where
  abbrev there : Name → Bool
  there n = is_some (node_of h.watch.snapshot n)

  abbrev holds : List Name
  holds = filter there (held_names h.watch.world m)

  abbrev scanned_next : Hybrid
  scanned_next = record { watch = record h.watch { opened = h.watch.opened ++ holds }; scanned = slice_set h.scanned m true }

  scanned : m < length h.watch.world.mutators → is_scanned h m ≡ false → IsScanned h m scanned_next
  scanned lt first = record {
    mutator = lt;
    first = first;
    rest = refl;
    opened = λ n. (
      λ k. elim (Contains-append_cases h.watch.opened holds n k) [
        | inl old ↦ inl old
        | inr new ↦ inr (in_kept there (held_names h.watch.world m) n new)
      ],
      λ k. elim k [
        | inl old ↦ Contains-append_left h.watch.opened holds n old
        | inr new ↦ Contains-append_right h.watch.opened holds n (kept_in there (held_names h.watch.world m) n new.0 new.1)
      ],
    );
  }

scan : (line m : ℕ) (p : Watch) → Judged line p (event.Scan m)
scan line m (watch.Between w) = inr (why.Misplaced, refl)
scan line m (watch.Marking h) = elim (cases_lt m (length h.watch.world.mutators)) [
  | inl lt ↦ elim (cases_Bool (is_scanned h m)) [
    | inl t ↦ inr (why.Misplaced, inr (refl, t, lt))
    | inr f ↦ inl (watch.Marking (scanned_next h m), (scanned_next h m, scanned h m lt f, refl))
  ]
  | inr le ↦ inr (why.CannotApply, inl (refl, λ lt. let l : m < length h.watch.world.mutators = lt in omega arith))
]
scan line m (watch.Ended left) = inr (why.Misplaced, refl)
scan line m watch.Stopped = inr (why.Misplaced, refl)

-- the end of a mutator
counts : (m : ℕ) (p : Watch) → m < mutators_of p → (next : Watch) × CountsAsScanned m p next
counts m (watch.Between w) lt = (watch.Between w, inr (refl, tt))
counts m (watch.Marking h) lt = elim (cases_Bool (is_scanned h m)) [
  | inl t ↦ (watch.Marking h, inr (refl, t))
  | inr f ↦ (watch.Marking (scanned_next h m), inl (scanned_next h m, scanned h m lt f, refl))
]
counts m (watch.Ended left) lt = (watch.Ended left, inr (refl, tt))
counts m watch.Stopped lt = (watch.Stopped, inr (refl, tt))

exit : (line m : ℕ) (p : Watch) → AreClosed p → Judged line p (event.Exit m)
exit line m p is = elim (rows line m [] (emptied REGISTERS) p is) [
  | inl r ↦
      let s : (next : Watch) × CountsAsScanned m r.0 next = counts m r.0 (rows_place line m [] (emptied REGISTERS) p r.0 r.1) in
      inl (s.0, (r.0, r.1, s.1))
  | inr w ↦ inr (w.0, w.1)
]

-- a push
module _ (h : Cycle) (name : Name) where
  abbrev joins : List Name
  joins = cond (is_some (node_of h.snapshot name)) (h.remembered ++ name ∷ []) h.remembered

  joined_names : (n : Name) → Contains joins n ↔ (Contains h.remembered n ⊎ ((n ≡ name) × IsSome (node_of h.snapshot n)))
  joined_names n = by_test (is_some (node_of h.snapshot name)) refl
    where
      by_test : (b : Bool) → is_some (node_of h.snapshot name) ≡ b → Contains (cond b (h.remembered ++ name ∷ []) h.remembered) n ↔
          (Contains h.remembered n ⊎ ((n ≡ name) × IsSome (node_of h.snapshot n)))
      by_test true e = (
        λ c. elim (Contains-append_cases h.remembered (name ∷ []) n c) [
          | inl old ↦ inl old
          | inr new ↦ inr (sym (one_is name n new), subst (λ (x : Name). is_some (node_of h.snapshot x) ≡ true) (one_is name n new) e)
        ],
        λ c. elim c [
          | inl old ↦ Contains-append_left h.remembered (name ∷ []) n old
          | inr p ↦ Contains-append_right h.remembered (name ∷ []) n (subst (λ (x : Name). Contains (name ∷ []) x) (sym p.0) (contains_one name))
        ],
      )
      by_test false e = (
        λ c. inl c,
        λ c. elim c [
          | inl old ↦ old
          | inr p ↦ absurd (let t : is_some (node_of h.snapshot name) ≡ true = subst (λ (x : Name). IsSome (node_of h.snapshot x)) p.0 p.1 in
              false≢true (sym e ∙ t))
        ],
      )

  abbrev other : Debt → Bool
  other d = not (is_same_name d.name name)

  abbrev pushed_next : Cycle
  pushed_next = record h { remembered = joins; debts = filter other h.debts }

  pushed : IsSome (node_of h.world name) → IsPushed h name pushed_next
  pushed there = record {
    there = there;
    rest = refl;
    remembered = joined_names;
    debts = λ d. (
      λ c. let p : Contains h.debts d × (other d ≡ true) = in_kept other h.debts d c in (
        p.0,
        λ e. let t : is_same_name d.name name ≡ true = subst (λ (x : Name). is_same_name d.name x ≡ true) e (is_same_name-refl d.name) in
            let bad : not true ≡ true = subst (λ (b : Bool). not b ≡ true) t p.1 in cc,
      ),
      λ c. kept_in other h.debts d c.0 (elim (cases_Bool (is_same_name d.name name)) [
        | inl t ↦ absurd (c.1 (tested_same d.name name t))
        | inr f ↦ ap not f
      ]),
    );
  }

push : (line : ℕ) (name : Name) (p : Watch) → Judged line p (event.Push name)
push line name (watch.Between w) = inr (why.Misplaced, refl)
push line name (watch.Marking h) = elim (cases_Bool (is_some (node_of h.watch.world name))) [
  | inl t ↦ inl (
    watch.Marking (record h { watch = pushed_next h.watch name }),
    (pushed_next h.watch name, pushed h.watch name t, refl),
  )
  | inr f ↦ inr (why.NoSuchName name, (refl, λ there. let t : is_some (node_of h.watch.world name) ≡ true = there in false≢true (sym f ∙ t)))
]
push line name (watch.Ended left) = inr (why.Misplaced, refl)
push line name watch.Stopped = inr (why.Misplaced, refl)

-- a mutator that has settled
settle : (line m : ℕ) (p : Watch) → Judged line p (event.Settle m)
settle line m (watch.Between w) = inr (why.Misplaced, refl)
settle line m (watch.Marking h) = elim (cases_lt m (length h.watch.world.mutators)) [
  | inl lt ↦ elim (least IsEarlier earlier_cases earlier_trans not_earlier_itself (λ (d : Debt). eqb d.mutator m) h.watch.debts) [
    | inl f ↦ inr (
      why.Due f.0,
      inl (
        f.0,
        refl,
        (
          (f.1.0.0, eqb-true f.0.mutator m f.1.0.1),
          λ other o. f.1.1 other (o.0, eq-eqb other.mutator m o.1),
        ),
        lt,
      ),
    )
    | inr none ↦ inl (watch.Marking h, ((lt, λ d c own. false≢true (sym (none d c) ∙ eq-eqb d.mutator m own)), refl))
  ]
  | inr le ↦ inr (why.CannotApply, inr (refl, λ lt. let l : m < length h.watch.world.mutators = lt in omega arith))
]
settle line m (watch.Ended left) = inr (why.Misplaced, refl)
settle line m watch.Stopped = inr (why.Misplaced, refl)

-- a take
took : (h : Cycle) (name : Name) → Contains h.remembered name → IsTook h name (record h { taken = h.taken ++ name ∷ [] })
took h name pushed = record {
  pushed = pushed;
  rest = refl;
  taken = λ n. (
    λ c. elim (Contains-append_cases h.taken (name ∷ []) n c) [ inl old ↦ inl old | inr new ↦ inr (sym (one_is name n new)) ],
    λ c. elim c [
      | inl old ↦ Contains-append_left h.taken (name ∷ []) n old
      | inr e ↦ Contains-append_right h.taken (name ∷ []) n (subst (λ (x : Name). Contains (name ∷ []) x) (sym e) (contains_one name))
    ],
  );
}

take : (line : ℕ) (name : Name) (p : Watch) → Judged line p (event.Take name)
take line name (watch.Between w) = inr (why.Misplaced, refl)
take line name (watch.Marking h) = elim (cases_Bool (is_listed name h.watch.remembered)) [
  | inl t ↦ inl (
    watch.Marking (record h { watch = record h.watch { taken = h.watch.taken ++ name ∷ [] } }),
    (record h.watch { taken = h.watch.taken ++ name ∷ [] }, took h.watch name (contains_listed name h.watch.remembered t), refl),
  )
  | inr f ↦ inr (why.NotPushed name, (refl, not_listed name h.watch.remembered f))
]
take line name (watch.Ended left) = inr (why.Misplaced, refl)
take line name watch.Stopped = inr (why.Misplaced, refl)

-- the reasons against an end
earliest : (debts : List Debt) → (debts ≡ []) ⊎ ((d : Debt) × IsEarliest (Contains debts) d)
earliest [] = inl refl
earliest (x ∷ xs) = elim (least IsEarlier earlier_cases earlier_trans not_earlier_itself (λ (d : Debt). true) (x ∷ xs)) [
  | inl p ↦ inr (p.0, (p.1.0.0, λ other c. p.1.1 other (c, refl)))
  | inr none ↦ absurd (let bad : true ≡ false = none x (contains_head x xs) in cc)
]

empty_cases : (names : List Name) → (names ≡ []) ⊎ (names ≢ [])
empty_cases [] = inl refl
empty_cases (x ∷ xs) = inr (λ e. cc)

module _ (h : Cycle) where
  abbrev is_left : Name → Bool
  is_left n = not (is_same_name n shared_name) && not (is_listed n h.taken)

  left_untaken : h.taken ≢ [] → (n : Name) → Contains h.remembered n → is_left n ≡ true → IsUntakenName h n
  left_untaken some n c t =
      let p : (not (is_same_name n shared_name) ≡ true) × (not (is_listed n h.taken) ≡ true) =
      and_parts (not (is_same_name n shared_name)) (not (is_listed n h.taken)) t in (
        some,
        c,
        λ e. not_both (is_same_name n shared_name) (subst (λ (x : Name). is_same_name x shared_name ≡ true) (sym e) (is_same_name-refl shared_name)) p.0,
        λ k. not_both (is_listed n h.taken) (listed_from n h.taken k) p.1,
      )

  untaken_left : (n : Name) → IsUntakenName h n → is_left n ≡ true
  untaken_left n u = and_from (not (is_same_name n shared_name)) (not (is_listed n h.taken)) (not_so (is_same_name n shared_name) (λ t.
      u.2 (tested_same n shared_name t))) (not_so (is_listed n h.taken) (λ t. u.3 (contains_listed n h.taken t)))

  untaken_cases : IsAllTaken h ⊎ ((name : Name) × IsFirstName (IsUntakenName h) name)
  untaken_cases = elim (empty_cases h.taken) [
    | inl e ↦ inl (inl e)
    | inr some ↦ elim (least IsBefore before_cases before_trans not_before_itself is_left h.remembered) [
      | inl f ↦ inr (
        f.0,
        (
          left_untaken some f.0 f.1.0.0 f.1.0.1,
          λ other u. f.1.1 other (u.1, untaken_left other u),
        ),
      )
      | inr none ↦ inl (inr (λ n c ne. elim (and_cases (not (is_same_name n shared_name)) (not (is_listed n h.taken)) (none n c)) [
        | inl same ↦ absurd (ne (tested_same n shared_name (not-false (is_same_name n shared_name) same)))
        | inr there ↦ contains_listed n h.taken (not-false (is_listed n h.taken) there)
      ]))
    ]
  ]

  against : ((h.debts ≡ []) × IsAllTaken h) ⊎ ((y : Why) × IsAgainst h y)
  against = elim (earliest h.debts) [
    | inl e ↦ elim untaken_cases [ inl t ↦ inl (e, t) | inr u ↦ inr (why.Untaken u.0, inr (e, (u.0, refl, u.1))) ]
    | inr p ↦ inr (why.Due p.0, inl (p.0, refl, p.1))
  ]

-- the names that the commands opened, with the keys of the weak pointers that live on if these die
module _ (h : Cycle) (dead : List Name) where
  abbrev lives : Name → Bool
  lives n = not (is_listed n dead) && not (is_listed n h.finalised)

  lives_yes : (weak : Name) (parts : Parts) → IsAlive h.snapshot weak parts → lives weak ≡ true → (Contains h.finalised weak → ⊥) × (Contains dead weak → ⊥)
  lives_yes weak parts alive t =
      let p : (not (is_listed weak dead) ≡ true) × (not (is_listed weak h.finalised) ≡ true) =
      and_parts (not (is_listed weak dead)) (not (is_listed weak h.finalised)) t in (
        λ c. not_both (is_listed weak h.finalised) (listed_from weak h.finalised c) p.1,
        λ c. not_both (is_listed weak dead) (listed_from weak dead c) p.0,
      )

  lives_no : (weak : Name) → (Contains h.finalised weak → ⊥) → (Contains dead weak → ⊥) → lives weak ≡ true
  lives_no weak fresh on = and_from (not (is_listed weak dead)) (not (is_listed weak h.finalised)) (not_so (is_listed weak dead) (λ t.
      on (contains_listed weak dead t))) (not_so (is_listed weak h.finalised) (λ t. fresh (contains_listed weak h.finalised t)))

  with_keys : (names : List Name) × IsOpenedWith h dead names
  with_keys =
      let all : List Name = (all_names h.snapshot).0 in (
        h.opened ++ keys_then h.snapshot (filter lives all),
        (
          keys_then h.snapshot (filter lives all),
          keys_are h dead all lives (λ weak parts alive. (all_names h.snapshot).1.complete weak (alive_there h.snapshot weak parts alive)) lives_yes lives_no,
          refl,
        ),
      )

-- an end
module _ (h : Cycle) (is : IsWorld h.snapshot) where
  abbrev kept : List Name
  kept = (kept_listed h.snapshot is (h.opened ++ h.remembered) h.finalised).0

  needed : (dead : List Name) → (names : List Name) × Lists (IsKept h.snapshot (with_keys h dead).0 h.finalised) names
  needed dead = kept_listed h.snapshot is (with_keys h dead).0 h.finalised

  abbrev left_of : World → List Name → CycleResult
  left_of w dead = record { world = w; kept = kept; needed = (needed dead).0; old = map (λ (own : MutatorState). length own.nodes) h.snapshot.mutators }

  ends : h.debts ≡ [] → IsAllTaken h → (left : CycleResult) × IsLeft h left
  ends none taken =
      let dead : (names : List Name) × Lists (IsDead h.snapshot (h.opened ++ h.remembered) h.finalised) names =
      dead_listed h.snapshot is (h.opened ++ h.remembered) h.finalised in (
        left_of (closed h.world dead.0) dead.0,
        record {
          dead = dead.0;
          ends = record { debts = none; taken = taken; lists = dead.1; next_is = refl };
          kept = (kept_listed h.snapshot is (h.opened ++ h.remembered) h.finalised).1;
          needed = needs_listed h dead.0 (with_keys h dead.0).0 (with_keys h dead.0).1 (needed dead.0).0 (needed dead.0).1;
          old = refl;
        },
      )

  ends_known : h.debts ≡ [] → IsAllTaken h → (named : List Name) →
      ((weak : Name) → Contains named weak → IsDeadAmong h named weak) → (left : CycleResult) × IsResultWith h named left
  ends_known none taken named may =
      let among : Decided (Contains named) = record { test = λ n. is_listed n named; yes = λ n t. contains_listed n named t; no = λ n c. listed_from n named c } in
      let dead : (names : List Name) × Lists (Contains named) names =
      listed h.snapshot (Contains named) among (λ n c. alive_there h.snapshot n (may n c).2.parts (may n c).2.alive) in (
        left_of (closed h.world dead.0) named,
        record {
          dead = dead.0;
          ends = record { debts = none; taken = taken; may = may; lists = dead.1; next_is = refl };
          kept = (kept_listed h.snapshot is (h.opened ++ h.remembered) h.finalised).1;
          needed = needs_listed h named (with_keys h named).0 (with_keys h named).1 (needed named).0 (needed named).1;
          old = refl;
        },
      )

-- all mutators are scanned, or the first that isn't
scanned_below : (h : Hybrid) (n : ℕ) → ((k : ℕ) → k < n → is_scanned h k ≡ true) ⊎
    ((k : ℕ) × (k < n) × (is_scanned h k ≡ false) × ((j : ℕ) → j < k → is_scanned h j ≡ true))
scanned_below h zero = inl (λ k lt. absurd (let l : k < 0 = lt in omega arith))
scanned_below h (suc n) = elim (scanned_below h n) [
  | inr p ↦ inr (p.0, (let l : p.0 < n = p.1 in omega arith), p.2, p.3)
  | inl all ↦ elim (cases_Bool (is_scanned h n)) [
    | inl t ↦ inl (λ k lt. elim (cases_eq k n) [
      | inl e ↦ subst (λ (j : ℕ). is_scanned h j ≡ true) (sym e) t
      | inr ne ↦ all k (let l : k < suc n = lt in omega (arith, ne))
    ])
    | inr f ↦ inr (n, omega arith, f, all)
  ]
]

scanned_cases : (h : Hybrid) → AreScanned h ⊎ ((k : ℕ) × IsFirstUnscanned h k)
scanned_cases h = elim (scanned_below h (length h.watch.world.mutators)) [ inl all ↦ inl all | inr p ↦ inr (p.0, (p.1, p.2, p.3)) ]

close : (line : ℕ) (p : Watch) → AreClosed p → Judged line p event.Close
close line (watch.Between w) is = inr (why.Misplaced, refl)
close line (watch.Marking h) is = elim (scanned_cases h) [
  | inr u ↦ inr (why.Unscanned u.0, inl (u.0, refl, u.1))
  | inl all ↦ elim (against h.watch) [
    | inl p ↦ let e : (left : CycleResult) × IsLeft h.watch left = ends h.watch is.1 p.0 p.1 in inl (watch.Ended e.0, (e.0, e.1, refl, all))
    | inr r ↦ inr (r.0, inr (all, r.1))
  ]
]
close line (watch.Ended left) is = inr (why.Misplaced, refl)
close line watch.Stopped is = inr (why.Misplaced, refl)

-- an end at which exactly these die: it can happen, or one of them isn't dead
with_deaths : (h : Cycle) → IsWorld h.snapshot → (named : List Name) → h.debts ≡ [] → IsAllTaken h →
    ((left : CycleResult) × IsResultWith h named left) ⊎ ((y : Why) × IsNotDead h named y)
with_deaths h is named none taken =
    let names : (names : List Name) × IsOpenedWith h named names = with_keys h named in
    let d : Decided (IsDead h.snapshot names.0 h.finalised) = dead_decided h.snapshot is names.0 h.finalised in
    elim (first_in (λ n. not (d.test n)) named) [
      | inl f ↦ inr (
        why.NotDead f.0,
        (
          f.0,
          refl,
          stands_by (λ n. not (d.test n) ≡ true) (λ n. IsDeadAmong h named n → ⊥) named f.0
              (λ n t dead. not_both (d.test n) (d.no n ((dead_named h named names.0 names.1 n).1 dead)) t)
              (λ n never. not_so (d.test n) (λ t. never ((dead_named h named names.0 names.1 n).0 (d.yes n t)))) f.1,
        ),
      )
      | inr all ↦ inl (ends_known h is none taken named (λ n c. (dead_named h named names.0 names.1 n).0 (d.yes n (not-false (d.test n) (all n c)))))
    ]

close_with : (line : ℕ) (named : List Name) (p : Watch) → AreClosed p → Judged line p (event.CloseWith named)
close_with line named (watch.Between w) is = inr (why.Misplaced, refl)
close_with line named (watch.Marking h) is = elim (scanned_cases h) [
  | inr u ↦ inr (why.Unscanned u.0, inl (u.0, refl, u.1))
  | inl all ↦ elim (against h.watch) [
    | inl p ↦ elim (with_deaths h.watch is.1 named p.0 p.1) [
      | inl e ↦ inl (watch.Ended e.0, (e.0, e.1, refl, all))
      | inr d ↦ inr (d.0, inr (all, inr (p.0, p.1, d.1)))
    ]
    | inr r ↦ inr (r.0, inr (all, inl r.1))
  ]
]
close_with line named (watch.Ended left) is = inr (why.Misplaced, refl)
close_with line named watch.Stopped is = inr (why.Misplaced, refl)

-- the names that the runtime marked, and the names that it freed
missing : (names others : List Name) → ((n : Name) × StandsFirst others (λ other. Contains names other → ⊥) n) ⊎
    ((n : Name) → Contains others n → Contains names n)
missing names others = elim (first_in (λ n. not (is_listed n names)) others) [
  | inl f ↦ inl (
    f.0,
    stands_by (λ n. not (is_listed n names) ≡ true) (λ n. Contains names n → ⊥) others f.0
        (λ n t c. not_both (is_listed n names) (listed_from n names c) t) (λ n never. not_so (is_listed n names) (λ t. never (contains_listed n names t))) f.1,
  )
  | inr none ↦ inr (λ n c. contains_listed n names (not-false (is_listed n names) (none n c)))
]

marked : (line : ℕ) (names : List Name) (p : Watch) → Judged line p (event.Marked names)
marked line names (watch.Between w) = inr (why.Misplaced, refl)
marked line names (watch.Marking h) = inr (why.Misplaced, refl)
marked line names (watch.Ended left) = elim (missing names left.kept) [
  | inl f ↦ inr (why.NotListed f.0, inl (f.0, refl, f.1))
  | inr all ↦ elim (missing left.kept names) [
    | inl f ↦ inr (why.NotMarked f.0, inr (all, (f.0, refl, f.1)))
    | inr each ↦ inl (watch.Ended left, (λ n. (λ c. each n c, λ c. all n c), refl))
  ]
]
marked line names watch.Stopped = inr (why.Misplaced, refl)

all_there : (left : CycleResult) (names : List Name) → ((n : Name) × StandsFirst names (λ other. IsSome (node_of left.world other) → ⊥) n) ⊎
    ((n : Name) → Contains names n → IsSome (node_of left.world n))
all_there left names = elim (first_in (λ n. not (is_some (node_of left.world n))) names) [
  | inl f ↦ inl (
    f.0,
    stands_by (λ n. not (is_some (node_of left.world n)) ≡ true) (λ n. IsSome (node_of left.world n) → ⊥) names f.0
        (λ n t there. not_both (is_some (node_of left.world n)) there t) (λ n never. not_so (is_some (node_of left.world n)) never) f.1,
  )
  | inr none ↦ inr (λ n c. not-false (is_some (node_of left.world n)) (none n c))
]

unkept : (left : CycleResult) (names : List Name) → ((n : Name) × StandsFirst names (IsUnkept left) n) ⊎
    ((n : Name) → Contains names n → IsOld left n → Contains left.kept n)
unkept left names = elim (first_in (λ n. is_old left.old n && not (is_listed n left.kept)) names) [
  | inl f ↦ inl (
    f.0,
    stands_by (λ n. (is_old left.old n && not (is_listed n left.kept)) ≡ true) (IsUnkept left) names f.0
        (λ n t. let p = and_parts (is_old left.old n) (not (is_listed n left.kept)) t in
        (p.0, λ c. not_both (is_listed n left.kept) (listed_from n left.kept c) p.1))
        (λ n u. and_from (is_old left.old n) (not (is_listed n left.kept)) u.0
        (not_so (is_listed n left.kept) (λ t. u.1 (contains_listed n left.kept t)))) f.1,
  )
  | inr none ↦ inr (λ n c old. elim (and_cases (is_old left.old n) (not (is_listed n left.kept)) (none n c)) [
    | inl new ↦ absurd (false≢true (sym new ∙ old))
    | inr listed ↦ contains_listed n left.kept (not-false (is_listed n left.kept) listed)
  ])
]

black : (line : ℕ) (names : List Name) (p : Watch) → Judged line p (event.Black names)
black line names (watch.Between w) = inr (why.Misplaced, refl)
black line names (watch.Marking h) = inr (why.Misplaced, refl)
black line names (watch.Ended left) = elim (all_there left names) [
  | inl f ↦ inr (why.NoSuchName f.0, inl (f.0, refl, f.1))
  | inr there ↦ elim (missing names left.kept) [
    | inl f ↦ inr (why.NotListed f.0, inr (there, inl (f.0, refl, f.1)))
    | inr kept ↦ elim (unkept left names) [
      | inl f ↦ inr (why.NotMarked f.0, inr (there, inr (kept, (f.0, refl, f.1))))
      | inr old ↦ inl (watch.Ended left, (record { there = there; kept = kept; old = old }, refl))
    ]
  ]
]
black line names watch.Stopped = inr (why.Misplaced, refl)

may_free : (left : CycleResult) (n : Name) → MayFree left n ⊎ ((y : Why) × WhyKept left n y)
may_free left n = elim (cases_Bool (is_some (node_of left.world n))) [
  | inl there ↦ elim (cases_Bool (is_old left.old n)) [
    | inl old ↦ elim (cases_Bool (is_listed n left.needed)) [
      | inl t ↦ inr (why.Needed n, inr (there, inr (refl, old, contains_listed n left.needed t)))
      | inr f ↦ inl (there, old, not_listed n left.needed f)
    ]
    | inr new ↦ inr (why.NotOld n, inr (there, inl (refl, λ old. false≢true (sym new ∙ old))))
  ]
  | inr gone ↦ inr (why.NoSuchName n, inl (refl, λ there. let t : is_some (node_of left.world n) ≡ true = there in false≢true (sym gone ∙ t)))
]

all_free : (left : CycleResult) (names : List Name) → ((n : Name) → Contains names n → MayFree left n) ⊎
    ((y : Why) × (n : Name) × StandsFirst names (λ other. MayFree left other → ⊥) n × WhyKept left n y)
all_free left [] = inl (λ n c. absurd (nothing_in n c))
all_free left (x ∷ xs) = elim (may_free left x) [
  | inl a ↦ elim (all_free left xs) [
    | inl all ↦ inl (λ n c. elim (contains_cases x xs n c) [ inl same ↦ subst (MayFree left) same a | inr d ↦ all n d ])
    | inr r ↦ inr (r.0, r.1, stands_tail (λ other. MayFree left other → ⊥) x xs r.1 (λ never. never a) r.2, r.3)
  ]
  | inr r ↦ inr (r.0, x, stands_head (λ other. MayFree left other → ⊥) x xs (no_freed_name left x r.0 r.1), r.1)
]

freed : (line : ℕ) (names : List Name) (p : Watch) → Judged line p (event.Freed names)
freed line names (watch.Between w) = inr (why.Misplaced, refl)
freed line names (watch.Marking h) = inr (why.Misplaced, refl)
freed line names (watch.Ended left) = elim (all_free left names) [
  | inl all ↦ inl (watch.Ended left, (all, refl))
  | inr r ↦ inr (r.0, (r.1, r.2, r.3))
]
freed line names watch.Stopped = inr (why.Misplaced, refl)

stop : (line : ℕ) (p : Watch) → Judged line p event.Stop
stop line (watch.Between w) = inr (why.Misplaced, refl)
stop line (watch.Marking h) = inr (why.Misplaced, refl)
stop line (watch.Ended left) = inl (watch.Stopped, refl)
stop line watch.Stopped = inr (why.Misplaced, refl)

pub every_event_is_judged : EveryEventIsJudged
every_event_is_judged line p (event.Given m c answer) is = given line m c answer p is
every_event_is_judged line p (event.Rows m borrowed tasks) is = rows line m borrowed tasks p is
every_event_is_judged line p (event.Hand k answer) is = hand line k answer p
every_event_is_judged line p event.Mark is = mark line p
every_event_is_judged line p event.MarkShared is = mark_shared line p
every_event_is_judged line p (event.Scan m) is = scan line m p
every_event_is_judged line p (event.Push name) is = push line name p
every_event_is_judged line p (event.Exit m) is = exit line m p is
every_event_is_judged line p (event.Settle m) is = settle line m p
every_event_is_judged line p (event.Take name) is = take line name p
every_event_is_judged line p event.Close is = close line p is
every_event_is_judged line p (event.CloseWith named) is = close_with line named p is
every_event_is_judged line p (event.Marked names) is = marked line names p
every_event_is_judged line p (event.Black names) is = black line names p
every_event_is_judged line p (event.Freed names) is = freed line names p
every_event_is_judged line p event.Stop is = stop line p
