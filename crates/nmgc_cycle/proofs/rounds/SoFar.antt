-- The script of a run of programs so far: after a round it is longer, and it fits a run.
use Rattle.nmgc_cycle.proofs.Vocabulary.{ℕ, zero, suc, ◌≡◌, ◌⊎◌, ◌+◌, ◌*◌, ◌<◌, ◌≤◌, ◌++◌, ◌∙◌, List, [], ◌∷◌, map, drop, length, slice_get, slice_index, Option, None, Some, refl, sym, ap, subst, arith, inl, inr, append_assoc, map-append, length-append, length-map, drop_at, All, All-nil, All-cons, All-append, All-head, All-tail, slice_get_within, Fits, Command, Reply, Done, Config, Script, most_total, sum_by, sum_by-cons, program_of, longer, longer_script, left_at, Gives, Follows, GaveEach, Continues, FollowEach, CanContinue, MayBeLonger, MayRun, MayBeAsked, FitsRun, IsRunSoFar, GaveMore, Collector, most_commands, MAKERS, append-nil, item_map, joined, no_done, nothing_given, threads_of, script_of, option_to_list, item}
use Rattle.nmgc_cycle.specs.laws.Replaced.{one_in_all}
use Rattle.nmgc_script.specs.{laws.Versions.since_last, Parts.total_words, Spelling.FitsConfig, Spelling.IsOf, Spelling.version_3}

-- One program

-- the waiting command, and the commands after it
lead_same : (o : Option Command) → option_to_list o ++ drop (length (option_to_list o)) (option_to_list o) ≡ option_to_list o
lead_same None = refl
lead_same (Some c) = refl

pub follows_waiting : (o : Option Command) → Follows o (option_to_list o)
follows_waiting None = refl
follows_waiting (Some c) = ([], refl)

-- Commands given first, and those given later

pub joined_at : (first later : List (List Done)) (k : ℕ) (d e : List Done) → slice_get first k ≡ Some d → slice_get later k ≡ Some e →
    slice_get (joined first later) k ≡ Some (d ++ e)
joined_at [] later k d e f g = absurd cc
joined_at (x ∷ first) [] k d e f g = absurd cc
joined_at (x ∷ first) (y ∷ later) zero d e f g = let one : x ≡ d = cc in let two : y ≡ e = cc in
    ap (λ (z : List Done). Some (z ++ y)) one ∙ ap (λ (z : List Done). Some (d ++ z)) two
joined_at (x ∷ first) (y ∷ later) (suc k) d e f g = joined_at first later k d e f g

pub joined_count : (first later : List (List Done)) → length later ≡ length first → length (joined first later) ≡ length first
joined_count [] later e = refl
joined_count (d ∷ first) [] e = absurd (omega (arith, e))
joined_count (d ∷ first) (x ∷ later) e = ap suc (joined_count first later (omega (arith, e)))

pub joined_nothing : {P : Type 0} (first : List (List Done)) (programs : List P) → length programs ≡ length first → joined first (nothing_given programs) ≡ first
joined_nothing [] programs e = refl
joined_nothing (d ∷ first) [] e = absurd (omega (arith, e))
joined_nothing (d ∷ first) (p ∷ programs) e = ap (λ (x : List Done). x ∷ joined first (nothing_given programs)) (append-nil d)
    ∙ ap (λ (l : List (List Done)). d ∷ l) (joined_nothing first programs (omega (arith, e)))

pub joined_first : {P : Type 0} (programs : List P) (later : List (List Done)) → length later ≡ length programs → joined (nothing_given programs) later ≡ later
joined_first [] [] e = refl
joined_first [] (d ∷ later) e = absurd (omega (arith, e))
joined_first (p ∷ programs) [] e = absurd (omega (arith, e))
joined_first (p ∷ programs) (d ∷ later) e = ap (λ (l : List (List Done)). d ∷ l) (joined_first programs later (omega (arith, e)))

pub joined_more : (first later last : List (List Done)) → length later ≡ length first → length last ≡ length first →
    joined (joined first later) last ≡ joined first (joined later last)
joined_more [] later last e f = refl
joined_more (d ∷ first) [] last e f = absurd (omega (arith, e))
joined_more (d ∷ first) (x ∷ later) [] e f = absurd (omega (arith, f))
joined_more (d ∷ first) (x ∷ later) (y ∷ last) e f = ap (λ (z : List Done). z ∷ joined (joined first later) last) (append_assoc d x y)
    ∙ ap (λ (l : List (List Done)). (d ++ (x ++ y)) ∷ l) (joined_more first later last (omega (arith, e)) (omega (arith, f)))

pub nothing_counts : {P : Type 0} (programs : List P) → sum_by length (nothing_given programs) ≡ 0
nothing_counts [] = refl
nothing_counts (p ∷ programs) = let all = sum_by-cons length no_done (nothing_given programs) in let rest = nothing_counts programs in omega (arith, all, rest)

module _ {P : Type 0} (next : P → Option Command) (steps : P → Reply → P → Type 0) where
  -- the commands given, and then the waiting one
  abbrev ahead : List Done → P → List Command
  ahead d q = map (λ (x : Done). x.0) d ++ option_to_list (next q)

  -- the commands that a script lacks of these: all but the one that waited before
  abbrev lacking : P → List Done → P → List Command
  lacking p d q = drop (length (option_to_list (next p))) (ahead d q)

  lead_on : (p q : P) (d : List Done) → Gives next steps p d q → option_to_list (next p) ++ lacking p d q ≡ ahead d q
  lead_on p q [] h = subst (λ (x : P). option_to_list (next p) ++ drop (length (option_to_list (next p))) (option_to_list (next x)) ≡ option_to_list (next x)) h
      (lead_same (next p))
  lead_on p q ((c, r) ∷ d) h = subst (λ (o : Option Command). option_to_list o ++ drop (length (option_to_list o)) (c ∷ ahead d q) ≡ c ∷ ahead d q) (sym h.1) refl

  may_on : (p q : P) (d : List Done) (o : Option Command) → next p ≡ o → Gives next steps p d q →
      (drop (length (option_to_list o)) (ahead d q) ≡ []) ⊎ (0 < length (option_to_list o))
  may_on p q d (Some c) e h = inr (omega arith)
  may_on p q [] None e h = inl (ap option_to_list (sym (ap next h) ∙ e))
  may_on p q ((c, r) ∷ d) None e h = let there = h.1 in absurd cc

  -- All programs

  pub more_of : List P → List P → List (List Done) → List (List Command)
  more_of (p ∷ ps) (q ∷ qs) (d ∷ done) = lacking p d q ∷ more_of ps qs done
  more_of ps qs done = []

  -- each program gave its commands
  abbrev Gave : List P → List P → List (List Done) → Type 0
  Gave ps qs done = (k : ℕ) (p q : P) (d : List Done) → slice_get ps k ≡ Some p → slice_get qs k ≡ Some q → slice_get done k ≡ Some d → Gives next steps p d q

  -- the script of the programs after the round is the script before it, with more commands
  threads_on : (given : List (List Done)) (ps qs : List P) (done : List (List Done)) → length given ≡ length ps → length qs ≡ length ps → length done ≡ length ps →
      Gave ps qs done → longer (threads_of next given ps) (more_of ps qs done) ≡ threads_of next (joined given done) qs
  unfolding more_of
  threads_on [] [] [] [] a b c gave = refl
  threads_on (g ∷ given) (p ∷ ps) (q ∷ qs) (d ∷ done) a b c gave =
      let own : (map (λ (x : Done). x.0) g ++ option_to_list (next p)) ++ lacking p d q ≡ map (λ (x : Done). x.0) (g ++ d) ++ option_to_list (next q) =
      append_assoc (map (λ (x : Done). x.0) g) (option_to_list (next p)) (lacking p d q)
      ∙ ap (λ (l : List Command). map (λ (x : Done). x.0) g ++ l) (lead_on p q d (gave 0 p q d refl refl refl))
      ∙ sym (append_assoc (map (λ (x : Done). x.0) g) (map (λ (x : Done). x.0) d) (option_to_list (next q)))
      ∙ ap (λ (l : List Command). l ++ option_to_list (next q)) (sym (map-append (λ (x : Done). x.0) g d)) in
      let rest = threads_on given ps qs done (omega (arith, a)) (omega (arith, b)) (omega (arith, c)) (λ k. gave (suc k)) in
      ap (λ (l : List Command). l ∷ longer (threads_of next given ps) (more_of ps qs done)) own
      ∙ ap (λ (ls : List (List Command)). (map (λ (x : Done). x.0) (g ++ d) ++ option_to_list (next q)) ∷ ls) rest
  threads_on [] [] [] (d ∷ done) a b c gave = absurd (omega (arith, c))
  threads_on [] [] (q ∷ qs) done a b c gave = absurd (omega (arith, b))
  threads_on [] (p ∷ ps) qs done a b c gave = absurd (omega (arith, a))
  threads_on (g ∷ given) [] qs done a b c gave = absurd (omega (arith, a))
  threads_on (g ∷ given) (p ∷ ps) [] done a b c gave = absurd (omega (arith, b))
  threads_on (g ∷ given) (p ∷ ps) (q ∷ qs) [] a b c gave = absurd (omega (arith, c))

  -- program k of the script of programs
  pub thread_at : (given : List (List Done)) (ps : List P) (k : ℕ) (g : List Done) (p : P) → slice_get given k ≡ Some g → slice_get ps k ≡ Some p →
      program_of (threads_of next given ps) k ≡ ahead g p
  thread_at [] ps k g p e f = absurd cc
  thread_at (h ∷ given) [] k g p e f = absurd cc
  thread_at (h ∷ given) (q ∷ ps) zero g p e f = let one : h ≡ g = cc in let two : q ≡ p = cc in
      ap (λ (x : List Done). ahead x q) one ∙ ap (λ (x : P). ahead g x) two
  thread_at (h ∷ given) (q ∷ ps) (suc k) g p e f = thread_at given ps k g p e f

  more_at : (ps qs : List P) (done : List (List Done)) (k : ℕ) (p q : P) (d : List Done) → slice_get ps k ≡ Some p → slice_get qs k ≡ Some q →
      slice_get done k ≡ Some d → program_of (more_of ps qs done) k ≡ lacking p d q
  unfolding more_of
  more_at [] qs done k p q d e f g = absurd cc
  more_at (a ∷ ps) [] done k p q d e f g = absurd cc
  more_at (a ∷ ps) (b ∷ qs) [] k p q d e f g = absurd cc
  more_at (a ∷ ps) (b ∷ qs) (c ∷ done) zero p q d e f g = let one : a ≡ p = cc in let two : b ≡ q = cc in let three : c ≡ d = cc in
      ap (λ (x : P). lacking x c b) one ∙ ap (λ (x : List Done). lacking p x b) three ∙ ap (λ (x : P). lacking p d x) two
  more_at (a ∷ ps) (b ∷ qs) (c ∷ done) (suc k) p q d e f g = more_at ps qs done k p q d e f g

  pub threads_count : (given : List (List Done)) (ps : List P) → length given ≡ length ps → length (threads_of next given ps) ≡ length ps
  threads_count [] [] e = refl
  threads_count [] (p ∷ ps) e = absurd (omega (arith, e))
  threads_count (g ∷ given) [] e = absurd (omega (arith, e))
  threads_count (g ∷ given) (p ∷ ps) e = ap suc (threads_count given ps (omega (arith, e)))

  -- the rest of each program is its waiting command
  pub may_follow : (config : Config) (given : List (List Done)) (ps : List P) → length given ≡ length ps → (positions : List ℕ) →
      ((k : ℕ) (g : List Done) → slice_get given k ≡ Some g → slice_index positions k ≡ length g) →
      FollowEach next (script_of next config given ps) positions ps
  may_follow config given ps counted positions at = record {
    count = sym (threads_count given ps counted);
    each = λ k p e.
        let g = item given k (let within = slice_get_within ps k p e in omega (arith, within, counted)) in
        let left : left_at (script_of next config given ps) positions k ≡ option_to_list (next p) =
        ap (λ (l : List Command). drop (slice_index positions k) l) (thread_at given ps k g.0 p g.1 e)
        ∙ drop_at (map (λ (x : Done). x.0) g.0) (option_to_list (next p)) (slice_index positions k) (length-map g.0 (λ (x : Done). x.0) ∙ sym (at k g.0 g.1)) in
        subst (λ (l : List Command). Follows (next p) l) (sym left) (follows_waiting (next p));
  }

-- a property of each program of the script is one of all
all_threads : {P : Type 0} (next : P → Option Command) (F : List Command → Type 0) (given : List (List Done)) (ps : List P) → length given ≡ length ps →
    ((k : ℕ) (g : List Done) (p : P) → slice_get given k ≡ Some g → slice_get ps k ≡ Some p → F (map (λ (x : Done). x.0) g ++ option_to_list (next p))) →
    All F (threads_of next given ps)
all_threads next F [] ps e h = All-nil F
all_threads next F (g ∷ given) [] e h = absurd (omega (arith, e))
all_threads next F (g ∷ given) (p ∷ ps) e h = All-cons F (map (λ (x : Done). x.0) g ++ option_to_list (next p)) (threads_of next given ps) (h 0 g p refl refl)
    (all_threads next F given ps (omega (arith, e)) (λ k. h (suc k)))

all_left : {X : Type 0} (F : X → Type 0) (xs ys : List X) → All F (xs ++ ys) → All F xs
all_left F [] ys h = All-nil F
all_left F (x ∷ xs) ys h = All-cons F x xs (All-head F x (xs ++ ys) h) (all_left F xs ys (All-tail F x (xs ++ ys) h))

-- and of the commands given in each
given_have : {P : Type 0} (next : P → Option Command) (F : Command → Type 0) (given : List (List Done)) (ps : List P) → length given ≡ length ps →
    All (All F) (threads_of next given ps) → (k : ℕ) (g : List Done) → slice_get given k ≡ Some g → All F (map (λ (x : Done). x.0) g)
given_have next F [] ps c h k g e = absurd cc
given_have next F (d ∷ given) [] c h k g e = absurd (omega (arith, c))
given_have next F (d ∷ given) (p ∷ ps) c h zero g e =
    let same : d ≡ g = cc in
    subst (λ (x : List Done). All F (map (λ (y : Done). y.0) x)) same (all_left F (map (λ (y : Done). y.0) d) (option_to_list (next p))
    (All-head (All F) (map (λ (y : Done). y.0) d ++ option_to_list (next p)) (threads_of next given ps) h))
given_have next F (d ∷ given) (p ∷ ps) c h (suc k) g e =
    given_have next F given ps (omega (arith, c)) (All-tail (All F) (map (λ (y : Done). y.0) d ++ option_to_list (next p)) (threads_of next given ps) h) k g e

-- commands that fit smaller segments fit these; and the registers of commands that fit exist
all_wider : (small words : ℕ) (l : List Command) → small ≤ words → All (Fits small) l → All (Fits words) l
all_wider small words [] le h = All-nil (Fits words)
all_wider small words (c ∷ l) le h =
    let f = All-head (Fits small) c l h in
    All-cons (Fits words) c l (record { registers = f.registers; numbers = f.numbers; size = (let s = f.size in omega (arith, le, s)) })
    (all_wider small words l le (All-tail (Fits small) c l h))

all_registers : (words : ℕ) (l : List Command) → All (Fits words) l → All (IsOf version_3) l
all_registers words [] h = All-nil (IsOf version_3)
all_registers words (c ∷ l) h = All-cons (IsOf version_3) c l ((All-head (Fits words) c l h).registers, since_last c)
    (all_registers words l (All-tail (Fits words) c l h))

-- commands given one after the other
gives_both : {P : Type 0} (next : P → Option Command) (steps : P → Reply → P → Type 0) (p m q : P) (g d : List Done) → Gives next steps p g m →
    Gives next steps m d q → Gives next steps p (g ++ d) q
gives_both {P} next steps p m q [] d h i = subst (λ (x : P). Gives next steps x d q) (sym h) i
gives_both {P} next steps p m q ((c, r) ∷ g) d h i = (h.0, h.1, h.2, gives_both next steps h.0 m q g d h.3 i)

-- what programs give counts no more than they might have given
total_on : {P : Type 0} (most : P → ℕ) (given done : List (List Done)) (mid after : List P) → length mid ≡ length given → length after ≡ length given →
    length done ≡ length given →
    ((k : ℕ) (p q : P) (d : List Done) → slice_get mid k ≡ Some p → slice_get after k ≡ Some q → slice_get done k ≡ Some d → most q + length d ≤ most p) →
    sum_by length (joined given done) + most_total most after ≤ sum_by length given + most_total most mid
total_on most [] done [] [] a b c each = omega arith
total_on most [] done (p ∷ mid) after a b c each = absurd (omega (arith, a))
total_on most [] done [] (q ∷ after) a b c each = absurd (omega (arith, b))
total_on most (g ∷ given) done [] after a b c each = absurd (omega (arith, a))
total_on most (g ∷ given) done (p ∷ mid) [] a b c each = absurd (omega (arith, b))
total_on most (g ∷ given) [] (p ∷ mid) (q ∷ after) a b c each = absurd (omega (arith, c))
total_on most (g ∷ given) (d ∷ done) (p ∷ mid) (q ∷ after) a b c each =
    let here = each 0 p q d refl refl refl in
    let rest = total_on most given done mid after (omega (arith, a)) (omega (arith, b)) (omega (arith, c)) (λ k. each (suc k)) in
    let one = sum_by-cons length g given in
    let all = sum_by-cons length (g ++ d) (joined given done) in
    let long = length-append g d in
    omega (arith, here, rest, one, all, long)

module _ {P : Type 0} (next : P → Option Command) (steps : P → Reply → P → Type 0) (words most : P → ℕ) (valid : P → Type 0) where
  -- a further round's commands follow those given before
  pub gave_both : (before mid after : List P) (given done : List (List Done)) → GaveEach next steps words most valid before mid given →
      GaveEach next steps words most valid mid after done → GaveEach next steps words most valid before after (joined given done)
  gave_both before mid after given done gave then = record {
    programs = then.programs ∙ gave.programs;
    count = joined_count given done (then.count ∙ gave.programs ∙ sym gave.count) ∙ gave.count;
    each = λ k p q gd e f i.
        let m = item mid k (let n = then.programs in subst (λ (n : ℕ). k < n) n (slice_get_within after k q f)) in
        let in_before = slice_get_within before k p e in
        let g = item given k (let n = gave.count in omega (arith, in_before, n)) in
        let d = item done k (let n = then.count in let o = gave.programs in omega (arith, in_before, n, o)) in
        let there = joined_at given done k g.0 d.0 g.1 d.1 in
        let is : g.0 ++ d.0 ≡ gd = cc (there, i) in
        let first = gave.each k p m.0 g.0 e m.1 g.1 in
        let second = then.each k m.0 q d.0 m.1 f d.1 in
        rw (← is) (record {
          gives = gives_both next steps p m.0 q g.0 d.0 first.gives second.gives;
          fit = subst (All (Fits (words p))) (sym (map-append (λ (x : Done). x.0) g.0 d.0)) (All-append (Fits (words p)) (map (λ (x : Done). x.0) g.0)
              (map (λ (x : Done). x.0) d.0) first.fit (subst (λ (n : ℕ). All (Fits n) (map (λ (x : Done). x.0) d.0)) first.words_are second.fit));
          valid_is = second.valid_is;
          words_are = second.words_are ∙ first.words_are;
          fewer = (let a = first.fewer in let b = second.fewer in let l = length-append g.0 d.0 in omega (arith, a, b, l));
        });
  }

  -- the same of all that a run gave
  pub more_both : (before mid after : List P) (old then new : List (List Done)) → length old ≡ length before → GaveMore next steps words most valid before mid old then →
      GaveMore next steps words most valid mid after then new → GaveMore next steps words most valid before after old new
  more_both before mid after old then new counted first second = record {
    done = joined first.done second.done;
    gave = gave_both before mid after first.done second.done first.gave second.gave;
    joined_is = second.joined_is ∙ ap (λ (l : List (List Done)). joined l second.done) first.joined_is
        ∙ joined_more old first.done second.done (first.gave.count ∙ sym counted) (second.gave.count ∙ first.gave.programs ∙ sym counted);
  }

module _ {P : Type 0} (next : P → Option Command) (steps : P → Reply → P → Type 0) (words most : P → ℕ) (valid : P → Type 0)
    (waits : (p : P) (c : Command) → valid p → next p ≡ Some c → Fits (words p) c × (0 < most p)) (config : Config) where
  waiting_fits : (q : P) (o : Option Command) → next q ≡ o → valid q → words q ≤ config.words → All (Fits config.words) (option_to_list o)
  waiting_fits q None e v le = All-nil (Fits config.words)
  waiting_fits q (Some c) e v le = all_wider (words q) config.words (c ∷ []) le (All-cons (Fits (words q)) c [] (waits q c v e).0 (All-nil (Fits (words q))))

  waiting_few : (q : P) (o : Option Command) → next q ≡ o → valid q → length (option_to_list o) ≤ most q
  waiting_few q None e v = omega arith
  waiting_few q (Some c) e v = let some = (waits q c v e).1 in omega (arith, some)

  -- as a sum over all programs: each may have a command that waits, within its own bound
  total_most : (given : List (List Done)) (programs : List P) → length given ≡ length programs → ((k : ℕ) (q : P) → slice_get programs k ≡ Some q → valid q) →
      sum_by length (threads_of next given programs) ≤ sum_by length given + most_total most programs
  total_most [] [] a v = omega arith
  total_most (g ∷ given) (q ∷ programs) a v =
      let here = waiting_few q (next q) refl (v 0 q refl) in
      let rest = total_most given programs (omega (arith, a)) (λ k. v (suc k)) in
      let all = sum_by-cons length (map (λ (x : Done). x.0) g ++ option_to_list (next q)) (threads_of next given programs) in
      let one = sum_by-cons length g given in
      let long = length-append (map (λ (x : Done). x.0) g) (option_to_list (next q)) in
      let same = length-map g (λ (x : Done). x.0) in
      omega (arith, here, rest, all, one, long, same)
  total_most [] (q ∷ programs) a v = absurd (omega (arith, a))
  total_most (g ∷ given) [] a v = absurd (omega (arith, a))

  -- commands given and programs within the limits of a run
  pub record AreWithin (given : List (List Done)) (programs : List P) : Type 0 where
    pub count : length given ≡ length programs
    pub config_fits : FitsConfig version_3.segments config
    pub some : 1 ≤ length programs
    pub few : length programs ≤ MAKERS
    pub total : total_words config (length programs) ≤ version_3.heap_words
    pub given_fit : (k : ℕ) (g : List Done) → slice_get given k ≡ Some g → All (Fits config.words) (map (λ (x : Done). x.0) g)
    pub valid_are : (k : ℕ) (q : P) → slice_get programs k ≡ Some q → valid q
    pub fit : (k : ℕ) (q : P) → slice_get programs k ≡ Some q → words q ≤ config.words
    pub short : sum_by length given + most_total most programs ≤ most_commands

  -- the script of such commands and programs fits a run
  pub within_limits : (given : List (List Done)) (programs : List P) → AreWithin given programs → FitsRun (script_of next config given programs)
  within_limits given programs w = record {
    fits = record {
      version = refl;
      config = w.config_fits;
      some_thread = (let s = w.some in omega (arith, s, count));
      threads = (let f = w.few in omega (arith, f, count));
      total = subst (λ (n : ℕ). config.segments * config.words + n * config.nursery ≤ version_3.heap_words) (sym count) w.total;
      commands = all_threads next (All (Fits config.words)) given programs w.count fit;
      of_version = all_threads next (All (IsOf version_3)) given programs w.count (λ k g q e f. all_registers config.words _ (fit k g q e f));
    };
    few = (let all = total_most given programs w.count w.valid_are in let short = w.short in omega (arith, all, short));
  }
    where
      count : length (threads_of next given programs) ≡ length programs
      count = threads_count next steps given programs w.count

      fit : (k : ℕ) (g : List Done) (q : P) → slice_get given k ≡ Some g → slice_get programs k ≡ Some q →
          All (Fits config.words) (map (λ (x : Done). x.0) g ++ option_to_list (next q))
      fit k g q e f = All-append (Fits config.words) (map (λ (x : Done). x.0) g) (option_to_list (next q)) (w.given_fit k g e)
          (waiting_fits q (next q) refl (w.valid_are k q f) (w.fit k q f))

  -- programs that may be asked, at the positions of the commands given
  pub asked_for : (given : List (List Done)) (programs : List P) → AreWithin given programs → (positions : List ℕ) →
      ((k : ℕ) (g : List Done) → slice_get given k ≡ Some g → slice_index positions k ≡ length g) →
      MayBeAsked words most valid (script_of next config given programs) positions programs
  asked_for given programs w positions at = record {
    count = sym (threads_count next steps given programs w.count);
    valid_are = w.valid_are;
    fit = w.fit;
    few = λ k q e.
        let g = item given k (let within = slice_get_within programs k q e in let n = w.count in omega (arith, within, n)) in
        let one = one_in_all most given programs k g.0 q g.1 e in
        let short = w.short in
        let here = at k g.0 g.1 in
        omega (arith, one, short, here);
  }

  -- as a run begins
  pub first_within : (programs : List P) → MayRun words most valid config programs → AreWithin (nothing_given programs) programs
  first_within programs may = record {
    count = length-map programs (λ (p : P). no_done);
    config_fits = may.config_fits;
    some = may.some;
    few = may.few;
    total = may.total;
    given_fit = λ k g e.
        let p = item programs k (let within = slice_get_within (nothing_given programs) k g e in
        let n = length-map programs (λ (p : P). no_done) in omega (arith, within, n)) in
        let there : slice_get (nothing_given programs) k ≡ Some no_done = item_map (λ (p : P). no_done) programs k p.0 p.1 in
        let none : no_done ≡ g = cc (there, e) in
        subst (λ (l : List Done). All (Fits config.words) (map (λ (x : Done). x.0) l)) none (All-nil (Fits config.words));
    valid_are = may.valid_are;
    fit = may.fit;
    short = (let none = nothing_counts programs in let s = may.short in omega (arith, none, s));
  }

  -- and a round later
  module _ (c : Collector) (given : List (List Done)) (mid : List P) (far : IsRunSoFar next words most valid config c given mid) where
    pub next_within : (after : List P) (done : List (List Done)) → GaveEach next steps words most valid mid after done → AreWithin (joined given done) after
    next_within after done then = record {
      count = joined_count given done (then.count ∙ sym far.count) ∙ far.count ∙ sym then.programs;
      config_fits = far.limits.fits.config;
      some = (let s = far.limits.fits.some_thread in let n = then.programs in omega (arith, s, n, threads));
      few = (let f = far.limits.fits.threads in let n = then.programs in omega (arith, f, n, threads));
      total = subst (λ (n : ℕ). total_words config n ≤ version_3.heap_words) (threads ∙ sym then.programs) far.limits.fits.total;
      given_fit = λ k gd e.
          let within = slice_get_within (joined given done) k gd e in
          let many = joined_count given done (then.count ∙ sym far.count) in
          let first = far.count in
          let same = then.programs in
          let last = then.count in
          let g = item given k (omega (arith, within, many)) in
          let d = item done k (omega (arith, within, many, first, last)) in
          let p = item mid k (omega (arith, within, many, first)) in
          let q = item after k (omega (arith, within, many, first, same)) in
          let there = joined_at given done k g.0 d.0 g.1 d.1 in
          let is : g.0 ++ d.0 ≡ gd = cc (there, e) in
          let on = then.each k p.0 q.0 d.0 p.1 q.1 d.1 in
          subst (λ (l : List Done). All (Fits config.words) (map (λ (x : Done). x.0) l)) is
          (subst (All (Fits config.words)) (sym (map-append (λ (x : Done). x.0) g.0 d.0))
          (All-append (Fits config.words) (map (λ (x : Done). x.0) g.0) (map (λ (x : Done). x.0) d.0)
          (given_have next (Fits config.words) given mid far.count far.limits.fits.commands k g.0 g.1)
          (all_wider (words p.0) config.words _ (far.asked.fit k p.0 p.1) on.fit)));
      valid_are = λ k q e. let p = there k q e in (then.each k p.0 q p.1 p.2 e p.3).valid_is;
      fit = λ k q e.
          let p = there k q e in
          let same = (then.each k p.0 q p.1 p.2 e p.3).words_are in
          let le = far.asked.fit k p.0 p.2 in
          omega (arith, same, le);
      short = (let less = total_on most given done mid after (sym far.count) (then.programs ∙ sym far.count) (then.count ∙ sym far.count)
          (λ k p q d e f g. (then.each k p q d e f g).fewer) in
          let s = far.short in omega (arith, less, s));
    }
      where
        threads : length (threads_of next given mid) ≡ length mid
        threads = threads_count next steps given mid far.count

        there : (k : ℕ) (q : P) → slice_get after k ≡ Some q → (p : P) × (d : List Done) × (slice_get mid k ≡ Some p) × (slice_get done k ≡ Some d)
        there k q e =
            let within = slice_get_within after k q e in
            let same = then.programs in
            let count = then.count in
            let p = item mid k (omega (arith, within, same)) in
            let d = item done k (omega (arith, within, same, count)) in
            (p.0, d.0, p.1, d.1)

    -- the script goes on to the script after the round
    pub script_on : (after : List P) (done : List (List Done)) → GaveEach next steps words most valid mid after done →
        longer_script (more_of next steps mid after done) (script_of next config given mid) ≡ script_of next config (joined given done) after
    script_on after done then = ap (λ (l : List (List Command)). record (script_of next config given mid) { threads = l })
        (threads_on next steps given mid after done far.count then.programs then.count (λ k p q d e f g. (then.each k p q d e f g).gives))

    -- a round may follow, one program of the script after the other
    module _ (positions : List ℕ) (positions_are : positions ≡ c.positions.items) (after : List P) (done : List (List Done))
        (then : GaveEach next steps words most valid mid after done) where
      pub at : (k : ℕ) (g : List Done) → slice_get given k ≡ Some g → slice_index positions k ≡ length g
      at k g e = ap (λ (l : List ℕ). slice_index l k) positions_are ∙ far.positions k g e

      -- the rest of the program before the round
      left_of : (k : ℕ) (g : List Done) (p : P) → slice_get given k ≡ Some g → slice_get mid k ≡ Some p →
          left_at (script_of next config given mid) positions k ≡ option_to_list (next p)
      left_of k g p e f =
          ap (λ (l : List Command). drop (slice_index positions k) l) (thread_at next steps given mid k g p e f)
          ∙ drop_at (map (λ (x : Done). x.0) g) (option_to_list (next p)) (slice_index positions k) (length-map g (λ (x : Done). x.0) ∙ sym (at k g e))

      -- only a program whose command waits becomes longer
      pub longer_on : MayBeLonger (script_of next config given mid) positions (more_of next steps mid after done)
      longer_on k lt =
          let count = threads_count next steps given mid far.count in
          let first = far.count in
          let p = item mid k (omega (arith, lt, count)) in
          let g = item given k (omega (arith, lt, count, first)) in
          let q = item after k (let n = then.programs in omega (arith, lt, count, n)) in
          let d = item done k (let n = then.count in omega (arith, lt, count, n)) in
          let left = left_of k g.0 p.0 g.1 p.1 in
          elim (may_on next steps p.0 q.0 d.0 (next p.0) refl (then.each k p.0 q.0 d.0 p.1 q.1 d.1).gives) [
            | inl none ↦ inl (more_at next steps mid after done k p.0 q.0 d.0 p.1 q.1 d.1 ∙ none)
            | inr some ↦ inr (subst (λ (l : List Command). 0 < length l) (sym left) some)
          ]

      -- the longer program has the commands given in the round, and then the waiting command
      pub continues_on : Continues next (longer_script (more_of next steps mid after done) (script_of next config given mid)) positions after done
      continues_on k q d e f =
          let within = slice_get_within after k q e in
          let first = far.count in
          let g = item given k (let n = then.programs in omega (arith, within, n, first)) in
          let start = at k g.0 g.1 in (
            option_to_list (next q),
            ap (λ (s : Script). left_at s positions k) (script_on after done then)
                ∙ ap (λ (l : List Command). drop (slice_index positions k) l)
                (thread_at next steps (joined given done) after k (g.0 ++ d) q (joined_at given done k g.0 d g.1 f) e
                ∙ ap (λ (l : List Command). l ++ option_to_list (next q)) (map-append (λ (x : Done). x.0) g.0 d)
                ∙ append_assoc (map (λ (x : Done). x.0) g.0) (map (λ (x : Done). x.0) d) (option_to_list (next q)))
                ∙ drop_at (map (λ (x : Done). x.0) g.0) (map (λ (x : Done). x.0) d ++ option_to_list (next q)) (slice_index positions k)
                (length-map g.0 (λ (x : Done). x.0) ∙ sym start),
            inl (follows_waiting (next q)),
          )

      -- the longer script fits a run
      pub limits_on : FitsRun (longer_script (more_of next steps mid after done) (script_of next config given mid))
      limits_on = subst FitsRun (sym (script_on after done then)) (within_limits (joined given done) after (next_within after done then))

    -- a round may follow: the script goes on with the commands that the programs give in it
    pub may_continue : (positions : List ℕ) → positions ≡ c.positions.items →
        CanContinue next steps words most valid (script_of next config given mid) positions mid
    may_continue positions positions_are after done then = (
      more_of next steps mid after done,
      longer_on positions positions_are after done then,
      continues_on positions positions_are after done then,
      limits_on positions positions_are after done then,
    )
