-- Several tasks of one line: the effect of the first of them, and the task that stops them.
use Rattle.nmgc_barrier_checker.proofs.Vocabulary.{◌≡◌, ◌<◌, ◌+◌, ℕ, List, [], ◌∷◌, ◌++◌, suc, length, take, drop, get_or, refl, sym, ap, subst, ◌∙◌, arith, append_assoc, Option, Some, None, true, false, inl, inr, ◌⊎◌, is_some, Command, Reply, World, CanApply, step, Why, Copying, Filling, Task, Watch, IsNotDone, Suits, task_of, load_of, store_of, write_of, copied, filled, CanAct, WhyNoAct, IsAct, AreDone, StopsAt, AreActed, is_stopped, mutators_of, registers_in, put_back, AreRows, CanRows, IsAbsent, IsStopped, IsWhy, IsStep, Hybrid, Nil}
use Rattle.std.proofs.Common.{Result, Ok, Err}
use Rattle.nmgc_barrier_checker.specs.Rows.{emptied}
use Rattle.nmgc_barrier_checker.proofs.Firsts.{split_at}
use Rattle.std.specs.Prelude.{IfOk}
use Rattle.nmgc_lists.specs.declared.memory.NoMemory.{NoMemory}
use Rattle.nmgc_barrier_checker.specs.CameDue.{AddsDues, AddsDuesIf, AreCounted, CountsDues, CountsDuesIf}
use Rattle.nmgc_barrier_checker.specs.declared.event.Event.{Event}
use Rattle.nmgc_barrier_checker.specs.declared.event.Event.TheVariants as event
use Rattle.nmgc_barrier_checker.specs.declared.event.Why.TheVariants as why
use Rattle.nmgc_barrier_checker.specs.declared.watch.Watch.TheVariants as watch

-- the tasks of one more step of a copy
pub copied_more : (copying : Copying) (turn : ℕ) (a b c : List Task) (x y : Task) → a ≡ copied copying turn → b ≡ a ++ x ∷ [] →
    c ≡ b ++ y ∷ [] → x ≡ load_of copying turn → y ≡ store_of copying turn → c ≡ copied copying (turn + 1)
copied_more copying turn a b c x y e f g h k =
    let on : turn + 1 ≡ suc turn = omega arith in
    let joined : c ≡ (copied copying turn ++ x ∷ []) ++ y ∷ [] = g ∙ ap (λ (l : List Task). l ++ y ∷ []) (f ∙ ap (λ (l : List Task). l ++ x ∷ []) e) in
    let both : c ≡ copied copying turn ++ x ∷ y ∷ [] = joined ∙ append_assoc (copied copying turn) (x ∷ []) (y ∷ []) in
    both ∙ (ap (λ (z : Task). copied copying turn ++ z ∷ y ∷ []) h ∙
    (ap (λ (z : Task). copied copying turn ++ load_of copying turn ∷ z ∷ []) k ∙ sym (ap (copied copying) on)))

pub filled_more : (filling : Filling) (turn : ℕ) (before a b : List Task) (x : Task) → a ≡ before ++ filled filling turn → b ≡ a ++ x ∷ [] →
    x ≡ write_of filling turn → b ≡ before ++ filled filling (turn + 1)
filled_more filling turn before a b x e f g =
    let on : turn + 1 ≡ suc turn = omega arith in
    f ∙ (ap (λ (l : List Task). l ++ x ∷ []) e ∙ (append_assoc before (filled filling turn) (x ∷ []) ∙
    (ap (λ (z : Task). before ++ (filled filling turn ++ z ∷ [])) g ∙ sym (ap (λ (n : ℕ). before ++ filled filling n) on))))

pub emptied_more : (register : ℕ) (a b : List Task) (x : Task) → a ≡ emptied register → b ≡ a ++ x ∷ [] →
    x ≡ task_of (Nil register) → b ≡ emptied (register + 1)
unfolding emptied
emptied_more register a b x e f g =
    let on : register + 1 ≡ suc register = omega arith in
    f ∙ (ap (λ (l : List Task). l ++ x ∷ []) e ∙ (ap (λ (z : Task). emptied register ++ z ∷ []) g ∙ sym (ap emptied on)))

-- one more task was done
pub done_more : (line m : ℕ) (xs : List Task) (k : Task) (p between next : Watch) → AreDone line m xs p between →
    CanAct line m k between next → AreDone line m (xs ++ k ∷ []) p next
done_more line m [] k p between next d a = (next, subst (λ (q : Watch). CanAct line m k q next) d a, refl)
done_more line m (x ∷ xs) k p between next d a = (d.0, d.1, done_more line m xs k d.0 between next d.2 a)

-- one more task was counted
pub counted_more : (line m : ℕ) (xs : List Task) (k : Task) (p between next : Watch) (before count after : ℕ) →
    AreCounted line m xs p before between count → CanAct line m k between next → AddsDues between m k.command count after →
    AreCounted line m (xs ++ k ∷ []) p before next after
counted_more line m [] k p between next before count after d a n = (
  next,
  after,
  subst (λ (q : Watch). CanAct line m k q next) d.0 a,
  subst (λ (q : Watch). AddsDues q m k.command before after) d.0 (subst (λ (j : ℕ). AddsDues between m k.command j after) d.1 n),
  (refl, refl),
)
counted_more line m (x ∷ xs) k p between next before count after d a n =
    (d.0, d.1, d.2, d.3, counted_more line m xs k d.0 between next d.1 count after d.4 a n)

pub adds_go : (m : ℕ) (c : Command) (p : Watch) (o : Option Why) (before after : ℕ) → is_some o ≡ false → AddsDuesIf p m c o before after →
    AddsDues p m c before after
adds_go m c p None before after e a = a
adds_go m c p (Some y) before after e a = absurd cc

-- borrowed registers count for nothing
pub counts_borrowed : (line m : ℕ) (borrowed : List ℕ) (tasks : List Task) (p : Watch) (o : Option Why) (before after : ℕ) →
    CountsDuesIf line p (event.Rows m [] tasks) o before after → CountsDuesIf line p (event.Rows m borrowed tasks) o before after
counts_borrowed line m borrowed tasks p None before after h = h
counts_borrowed line m borrowed tasks p (Some y) before after h = tt

-- nothing is counted of a line that was refused, or that makes no name due
pub counts_none : (line : ℕ) (p : Watch) (e : Event) (o : Option Why) (before after : ℕ) → is_some o ≡ true → CountsDuesIf line p e o before after
counts_none line p e None before after bad = absurd cc
counts_none line p e (Some y) before after bad = tt

pub counts_if : (line : ℕ) (p : Watch) (e : Event) (o : Option Why) (before after : ℕ) → CountsDues line p e before after →
    CountsDuesIf line p e o before after
counts_if line p e None before after h = h
counts_if line p e (Some y) before after h = tt

pub counts_same : (r : Result (Option Why) NoMemory) (line : ℕ) (p : Watch) (e : Event) (before after : ℕ) → CountsDues line p e before after →
    IfOk r (λ o. CountsDuesIf line p e o before after)
counts_same (Ok o) line p e before after h = counts_if line p e o before after h
counts_same (Err f) line p e before after h = tt

pub adds_if : (p : Watch) (m : ℕ) (c : Command) (o : Option Why) (before after : ℕ) → AddsDues p m c before after → AddsDuesIf p m c o before after
adds_if p m c None before after h = h
adds_if p m c (Some y) before after h = tt

pub adds_same : (r : Result (Option Why) NoMemory) (p : Watch) (m : ℕ) (c : Command) (before after : ℕ) → AddsDues p m c before after →
    IfOk r (λ o. AddsDuesIf p m c o before after)
adds_same (Ok o) p m c before after h = adds_if p m c o before after h
adds_same (Err f) p m c before after h = tt

-- one task was tried
pub acted_go : (line m : ℕ) (k : Task) (p next : Watch) (o : Option Why) → is_some o ≡ false → IsAct line m k p o next → CanAct line m k p next
acted_go line m k p next None e a = a
acted_go line m k p next (Some y) e a = absurd cc

pub acted_stop : (line m : ℕ) (tasks : List Task) (i : ℕ) (blank : Task) (p between next : Watch) (o : Option Why) → i < length tasks →
    AreDone line m (take i tasks) p between → is_some o ≡ true → IsAct line m (get_or tasks i blank) between o next → AreActed line m tasks p o next
acted_stop line m tasks i blank p between next None lt d e a = absurd cc
acted_stop line m tasks i blank p between next (Some y) lt d e a = record {
  before = take i tasks;
  task = get_or tasks i blank;
  later = drop (i + 1) tasks;
  tasks_are = split_at tasks i blank lt;
  done = subst (λ (q : Watch). AreDone line m (take i tasks) p q) (sym a.0) d;
  reason = subst (λ (q : Watch). WhyNoAct m (get_or tasks i blank) q y) (sym a.0) a.1;
}

-- tasks before the stop, by a mutator that exists. Then the borrowed registers get their values back
pub rows_step : (line m : ℕ) (borrowed : List ℕ) (tasks : List Task) (p last : Watch) (o : Option Why) → is_stopped p ≡ false → m < mutators_of p →
    AreActed line m tasks p o last → IsStep line p (event.Rows m borrowed tasks) o (put_back m (registers_in m p) borrowed last)
rows_step line m borrowed tasks (watch.Between w) last None going lt h = (lt, (last, h, refl))
rows_step line m borrowed tasks (watch.Marking c) last None going lt h = (lt, (last, h, refl))
rows_step line m borrowed tasks (watch.Ended left) last None going lt h = (lt, (last, h, refl))
rows_step line m borrowed tasks (watch.Between w) last (Some y) going lt h =
    (inl (last, h, refl), (line, put_back m (registers_in m (watch.Between w)) borrowed last, inl (last, h, refl)))
rows_step line m borrowed tasks (watch.Marking c) last (Some y) going lt h =
    (inl (last, h, refl), (line, put_back m (registers_in m (watch.Marking c)) borrowed last, inl (last, h, refl)))
rows_step line m borrowed tasks (watch.Ended left) last (Some y) going lt h =
    (inl (last, h, refl), (line, put_back m (registers_in m (watch.Ended left)) borrowed last, inl (last, h, refl)))
rows_step line m borrowed tasks watch.Stopped last o going lt h = absurd (let bad : true ≡ false = going in cc)

-- tasks by a mutator that doesn't exist
pub rows_absent : (line m : ℕ) (borrowed : List ℕ) (tasks : List Task) (p : Watch) → is_stopped p ≡ false → (m < mutators_of p → ⊥) →
    IsStep line p (event.Rows m borrowed tasks) (Some why.CannotApply) p
rows_absent line m borrowed tasks (watch.Between w) going never = (inr (refl, never, refl), (line, watch.Between w, inr (refl, never, refl)))
rows_absent line m borrowed tasks (watch.Marking c) going never = (inr (refl, never, refl), (line, watch.Marking c, inr (refl, never, refl)))
rows_absent line m borrowed tasks (watch.Ended left) going never = (inr (refl, never, refl), (line, watch.Ended left, inr (refl, never, refl)))
rows_absent line m borrowed tasks watch.Stopped going never = absurd (let bad : true ≡ false = going in cc)

-- tasks after the stop
pub rows_stopped : (line m : ℕ) (borrowed : List ℕ) (tasks : List Task) (p : Watch) → is_stopped p ≡ true →
    IsStep line p (event.Rows m borrowed tasks) (Some why.Misplaced) p
rows_stopped line m borrowed tasks (watch.Between w) stopped = absurd (let bad : false ≡ true = stopped in cc)
rows_stopped line m borrowed tasks (watch.Marking c) stopped = absurd (let bad : false ≡ true = stopped in cc)
rows_stopped line m borrowed tasks (watch.Ended left) stopped = absurd (let bad : false ≡ true = stopped in cc)
rows_stopped line m borrowed tasks watch.Stopped stopped = ((refl, refl), (line, watch.Stopped, (refl, refl)))

-- the heap of a watch
abbrev world_of : Watch → Option World
world_of (watch.Between w) = Some w
world_of (watch.Marking h) = Some h.watch.world
world_of (watch.Ended left) = Some left.world
world_of watch.Stopped = None

-- a heap that does a task, and the heap afterwards
record Does (m : ℕ) (k : Task) (p next : Watch) : Type 0 where
  world : World
  here : world_of p ≡ Some world
  can : CanApply world m k.command
  done : Suits k.answer (step world m k.command).1
  there : world_of next ≡ Some (step world m k.command).0

does : (line m : ℕ) (k : Task) (p next : Watch) → CanAct line m k p next → Does m k p next
does line m k (watch.Between w) next a = record {
  world = w;
  here = refl;
  can = a.1.0;
  done = a.1.1;
  there = ap world_of a.2 ∙ ap (λ (v : World). Some v) a.1.2;
}
does line m k (watch.Marking h) next a = record {
  world = h.watch.world;
  here = refl;
  can = a.1.can;
  done = a.2;
  there = ap world_of a.3 ∙ ap (λ (x : Hybrid). Some x.watch.world) a.1.rest;
}
does line m k (watch.Ended left) next a = record {
  world = left.world;
  here = refl;
  can = a.1.0;
  done = a.1.1;
  there = ap world_of a.2 ∙ ap (λ (v : World). Some v) a.1.2;
}
does line m k watch.Stopped next a = absurd a

not_done : (w : World) (m : ℕ) (k : Task) (y : Why) → IsNotDone w m k y → CanApply w m k.command → Suits k.answer (step w m k.command).1 → ⊥
not_done w m k why.CannotApply h can done = h can
not_done w m k (why.Answer r) h can done = h.2 (subst (λ (x : Reply). Suits k.answer x) h.1 done)
not_done w m k why.Misplaced h can done = h
not_done w m k (why.NoSuchName n) h can done = h
not_done w m k (why.Due debt) h can done = h
not_done w m k (why.NotPushed n) h can done = h
not_done w m k (why.Untaken n) h can done = h
not_done w m k (why.Unscanned j) h can done = h
not_done w m k (why.NotDead n) h can done = h
not_done w m k (why.NotListed n) h can done = h
not_done w m k (why.NotMarked n) h can done = h
not_done w m k (why.NotOld n) h can done = h
not_done w m k (why.Needed n) h can done = h

same_some : (v w : World) → Some v ≡ Some w → v ≡ w
same_some v w e = cc

refuses : (m : ℕ) (k : Task) (p : Watch) (y : Why) → WhyNoAct m k p y → (w : World) → world_of p ≡ Some w → CanApply w m k.command →
    Suits k.answer (step w m k.command).1 → ⊥
refuses m k (watch.Between v) y h w e can done = not_done w m k y (subst (λ (u : World). IsNotDone u m k y) (same_some v w e) h) can done
refuses m k (watch.Marking x) y h w e can done = not_done w m k y (subst (λ (u : World). IsNotDone u m k y) (same_some x.watch.world w e) h) can done
refuses m k (watch.Ended left) y h w e can done = not_done w m k y (subst (λ (u : World). IsNotDone u m k y) (same_some left.world w e) h) can done
refuses m k watch.Stopped y h w e can done = absurd (let bad : None ≡ Some w = e in cc)

-- from the same heap the same tasks are done
no_stop : (line line' m : ℕ) (before : List Task) (k : Task) (later : List Task) (p q next last : Watch) (y : Why) →
    world_of p ≡ world_of q → AreDone line m (before ++ k ∷ later) p next → AreDone line' m before q last → WhyNoAct m k last y → ⊥
no_stop line line' m [] k later p q next last y e d d' h =
    let a : Does m k p d.0 = does line m k p d.0 d.1 in
    refuses m k last y h a.world (ap world_of d' ∙ (sym e ∙ a.here)) a.can a.done
no_stop line line' m (x ∷ before) k later p q next last y e d d' h =
    let a : Does m x p d.0 = does line m x p d.0 d.1 in
    let b : Does m x q d'.0 = does line' m x q d'.0 d'.1 in
    let same : a.world ≡ b.world = same_some a.world b.world (sym a.here ∙ (e ∙ b.here)) in
    let worlds : world_of d.0 ≡ world_of d'.0 = a.there ∙ (ap (λ (w : World). Some (step w m x.command).0) same ∙ sym b.there) in
    no_stop line line' m before k later d.0 d'.0 next last y worlds d.2 d'.2 h

-- tasks with a reason can't happen
no_stops : (line line' m : ℕ) (tasks : List Task) (p next last : Watch) (y : Why) → AreDone line m tasks p next → StopsAt line' m tasks p y last → ⊥
no_stops line line' m tasks p next last y d s =
    no_stop line line' m s.before s.task s.later p p next last y refl (rw s.tasks_are at d) s.done s.reason

stops_or : (line line' m : ℕ) (borrowed : List ℕ) (tasks : List Task) (p next last : Watch) (y : Why) → AreRows line m borrowed tasks p next →
    IsStopped line' m borrowed tasks p y last ⊎ IsAbsent m p y last → ⊥
stops_or line line' m borrowed tasks p next last y d (inl s) = no_stops line line' m tasks p d.1.0 s.0 y d.1.1 s.1
stops_or line line' m borrowed tasks p next last y d (inr a) = a.1 d.0

pub no_rows : (line m : ℕ) (borrowed : List ℕ) (tasks : List Task) (p next : Watch) (y : Why) → IsWhy p (event.Rows m borrowed tasks) y →
    CanRows line m borrowed tasks p next → ⊥
no_rows line m borrowed tasks (watch.Between w) next y h d = stops_or line h.0 m borrowed tasks (watch.Between w) next h.1 y d h.2
no_rows line m borrowed tasks (watch.Marking x) next y h d = stops_or line h.0 m borrowed tasks (watch.Marking x) next h.1 y d h.2
no_rows line m borrowed tasks (watch.Ended left) next y h d = stops_or line h.0 m borrowed tasks (watch.Ended left) next h.1 y d h.2
no_rows line m borrowed tasks watch.Stopped next y h d = absurd d
