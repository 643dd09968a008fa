-- All owed objects are pushed: mutator after mutator, and for each mutator one name after another.
use Rattle.nmgc_collector_laws.proofs.Vocabulary.{◌≡◌, ◌≢◌, ◌<◌, ◌≤◌, ℕ, zero, suc, Bool, true, false, cond, List, [], ◌∷◌, ◌++◌, length, refl, sym, ap, subst, ◌∙◌, arith, append_assoc, append-nil, length-set, inl, inr, filter, get_or_default, get_or_past, cases_eq, cases_lt, Name, World, Event, AreEmpty, after_push, is_pushed_in, pushed_of, Runs, State, names_of, names_same, names_other, runs_then}
use Rattle.nmgc_snapshot_laws.specs.declared.event.Event.TheVariants as event

-- the name as a list if it passes a test, before other names that pass it
one_passed : (b : Bool) (name : Name) (rest : List Name) → cond b (name ∷ []) [] ++ rest ≡ cond b (name ∷ rest) rest
one_passed true name rest = refl
one_passed false name rest = refl

passed_first : (test : Name → Bool) (old : List Name) (name : Name) (rest : List Name) →
    (old ++ cond (test name) (name ∷ []) []) ++ filter test rest ≡ old ++ filter test (name ∷ rest)
passed_first test old name rest = cc (append_assoc old (cond (test name) (name ∷ []) []) (filter test rest), one_passed (test name) name (filter test rest))

-- a mutator that owed these names has pushed the names that count, and nothing else changed
record HasPushed (s t : State) (m : ℕ) (names : List Name) : Type 0 where
  events : List Event
  runs : Runs s events [] t
  rest : t ≡ record s { owed = t.owed; pushed = t.pushed }
  owed_count : length t.owed ≡ length s.owed
  pushed_count : length t.pushed ≡ length s.pushed
  none : names_of t.owed m ≡ []
  pushed_is : names_of t.pushed m ≡ names_of s.pushed m ++ filter (is_pushed_in s.snapshot) names
  others_owed : (k : ℕ) → k ≢ m → names_of t.owed k ≡ names_of s.owed k
  others_pushed : (k : ℕ) → k ≢ m → names_of t.pushed k ≡ names_of s.pushed k

-- one push, and those after it
push_first : (s t : State) (m : ℕ) (name : Name) (rest : List Name) → s.is_closed ≡ false → m < length s.owed → m < length s.pushed →
    names_of s.owed m ≡ name ∷ rest → HasPushed (after_push s m (name ∷ rest)) t m rest → HasPushed s t m (name ∷ rest)
push_first s t m name rest running lt there e h =
    let next : State = after_push s m (name ∷ rest) in
    let more : List Name = names_of s.pushed m ++ pushed_of s name in
    record {
      events = event.Push m ∷ h.events;
      runs = (
        true,
        next,
        [],
        (
          (running, λ none. absurd (let bad : name ∷ rest ≡ [] = sym e ∙ none in cc)),
          ap (λ (l : List Name). after_push s m l) (sym e),
        ),
        refl,
        h.runs,
      );
      rest = h.rest;
      owed_count = h.owed_count ∙ length-set s.owed m rest;
      pushed_count = h.pushed_count ∙ length-set s.pushed m more;
      none = h.none;
      pushed_is = cc (h.pushed_is, names_same s.pushed m more there, passed_first (is_pushed_in s.snapshot) (names_of s.pushed m) name rest);
      others_owed = λ k ne. h.others_owed k ne ∙ names_other s.owed m k rest ne;
      others_pushed = λ k ne. h.others_pushed k ne ∙ names_other s.pushed m k more ne;
    }

push_names : (s : State) (m : ℕ) (names : List Name) → s.is_closed ≡ false → m < length s.owed → m < length s.pushed → names_of s.owed m ≡ names →
    (t : State) × HasPushed s t m names
push_names s m [] running lt there e = (
  s,
  record {
    events = [];
    runs = (refl, refl);
    rest = refl;
    owed_count = refl;
    pushed_count = refl;
    none = e;
    pushed_is = sym (append-nil (names_of s.pushed m));
    others_owed = λ k ne. refl;
    others_pushed = λ k ne. refl;
  },
)
push_names s m (name ∷ rest) running lt there e =
    let more : List Name = names_of s.pushed m ++ pushed_of s name in
    let later = push_names (after_push s m (name ∷ rest)) m rest running (subst (λ n. m < n) (sym (length-set s.owed m rest)) lt) (rw (length-set s.pushed m more) there) (names_same s.owed m rest lt) in
    (later.0, push_first s later.0 m name rest running lt there e later.1)

-- all mutators below `count` have pushed all that they owed
record HavePushed (s t : State) (count : ℕ) : Type 0 where
  events : List Event
  runs : Runs s events [] t
  rest : t ≡ record s { owed = t.owed; pushed = t.pushed }
  owed_count : length t.owed ≡ length s.owed
  pushed_count : length t.pushed ≡ length s.pushed
  none : (k : ℕ) → k < count → names_of t.owed k ≡ []
  pushed_is : (k : ℕ) → k < count → names_of t.pushed k ≡ names_of s.pushed k ++ filter (is_pushed_in s.snapshot) (names_of s.owed k)
  others_owed : (k : ℕ) → count ≤ k → names_of t.owed k ≡ names_of s.owed k
  others_pushed : (k : ℕ) → count ≤ k → names_of t.pushed k ≡ names_of s.pushed k

-- one more mutator
push_next : (s u t : State) (m : ℕ) → HavePushed s u m → HasPushed u t m (names_of s.owed m) → HavePushed s t (suc m)
push_next s u t m h p =
    let own : List Name = names_of s.owed m in
    let snapshot : u.snapshot ≡ s.snapshot = ap (λ (x : State). x.snapshot) h.rest in
    record {
      events = h.events ++ p.events;
      runs = runs_then s u t h.events p.events [] [] h.runs p.runs;
      rest = p.rest ∙ ap (λ (x : State). record x { owed = t.owed; pushed = t.pushed }) h.rest;
      owed_count = p.owed_count ∙ h.owed_count;
      pushed_count = p.pushed_count ∙ h.pushed_count;
      none = λ k lt. elim (cases_eq k m) [
        | inl is ↦ subst (λ (j : ℕ). names_of t.owed j ≡ []) (sym is) p.none
        | inr ne ↦ p.others_owed k ne ∙ h.none k (omega arith)
      ];
      pushed_is = λ k lt. elim (cases_eq k m) [
        | inl is ↦ rw is (p.pushed_is ∙ ap (λ (l : List Name). l ++ filter (is_pushed_in u.snapshot) own) (h.others_pushed m (omega arith)) ∙
            ap (λ (w : World). names_of s.pushed m ++ filter (is_pushed_in w) own) snapshot)
        | inr ne ↦ p.others_pushed k ne ∙ h.pushed_is k (omega arith)
      ];
      others_owed = λ k le. let ne : k ≢ m = λ e. omega arith in p.others_owed k ne ∙ h.others_owed k (omega arith);
      others_pushed = λ k le. let ne : k ≢ m = λ e. omega arith in p.others_pushed k ne ∙ h.others_pushed k (omega arith);
    }

push_below : (s : State) (count : ℕ) → s.is_closed ≡ false → count ≤ length s.owed → length s.pushed ≡ length s.owed → (t : State) × HavePushed s t count
push_below s zero running le same = (
  s,
  record {
    events = [];
    runs = (refl, refl);
    rest = refl;
    owed_count = refl;
    pushed_count = refl;
    none = λ k lt. absurd (omega arith);
    pushed_is = λ k lt. absurd (omega arith);
    others_owed = λ k le. refl;
    others_pushed = λ k le. refl;
  },
)
push_below s (suc m) running le same =
    let before = push_below s m running (omega arith) same in
    let h : HavePushed s before.0 m = before.1 in
    let many = h.owed_count in let as_many = h.pushed_count in
    let last = push_names before.0 m (names_of s.owed m) (cc (h.rest, running)) (omega arith) (omega arith) (h.others_owed m (omega arith)) in
    (last.0, push_next s before.0 last.0 m h last.1)

-- lists of names that are empty one by one
pub all_empty : (lists : List (List Name)) → ((k : ℕ) → k < length lists → names_of lists k ≡ []) → AreEmpty lists
all_empty lists none k d lt = get_or_default lists k d [] lt ∙ none k lt

-- nothing is owed any more, and each mutator has pushed its owed names that count
pub record AllPushed (s t : State) : Type 0 where
  pub events : List Event
  pub runs : Runs s events [] t
  pub rest : t ≡ record s { owed = t.owed; pushed = t.pushed }
  pub none : AreEmpty t.owed
  pub pushed_count : length t.pushed ≡ length s.pushed
  pub pushed_is : (k : ℕ) → names_of t.pushed k ≡ names_of s.pushed k ++ filter (is_pushed_in s.snapshot) (names_of s.owed k)

pub push_all : (s : State) → s.is_closed ≡ false → length s.pushed ≡ length s.owed → (t : State) × AllPushed s t
push_all s running same =
    let all : (t : State) × HavePushed s t (length s.owed) = push_below s (length s.owed) running (omega arith) same in
    let t : State = all.0 in
    let h : HavePushed s t (length s.owed) = all.1 in
    let many = h.owed_count in (
      t,
      record {
        events = h.events;
        runs = h.runs;
        rest = h.rest;
        none = all_empty t.owed (λ k lt. h.none k (omega arith));
        pushed_count = h.pushed_count;
        pushed_is = λ k. elim (cases_lt k (length s.owed)) [
          | inl lt ↦ h.pushed_is k lt
          | inr le ↦ cc (h.others_pushed k le, append-nil (names_of s.pushed k), get_or_past s.owed k [] le)
        ];
      },
    )
