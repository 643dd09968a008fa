-- The output of the program, argument by argument.
use Rattle.nmgc_trace_checker.proofs.Vocabulary.{IsFault, IsFaultAfter, IsHeard, IsTooLong, AreAnswered, IsAnswerTo, IsGravest, IsResult, Judged, SaysAll, is_live, label_of, rank, status_of, texts_of, outcome_text, IsPassedOn, IsShownAs, Writes, WritesLive, WritesOne, TraceFault, Outcome, Status, text_bytes, Text, AppendsFront, Rose, WriteEnd, nothing, Bool, Err, List, Ok, Option, Result, [], ap, append_assoc, arith, codes, drop, false, get_or, inl, inr, length, map, refl, subst, sym, take, true, ℕ, ◌++◌, ◌+◌, ◌<◌, ◌∙◌, ◌∷◌, ◌≡◌, ◌≤◌, ◌⊎◌, cond-false, cond-true, append-nil, map-append, map_more, take-append-drop, Contains-append_cases, Contains-append_left, Contains-append_right, Contains-push, Contains-push_cases, Appends, OnErr, OnOk, Contains}
use Rattle.nmgc_trace_checker.proofs.{Appended.appends_nothing, Appended.appends_on, Appended.front_first, Appended.front_then, Appended.rose_since, Readings.fault_by}
use Rattle.nmgc_io.specs.declared.ends.WriteEnd.TheVariants.{WriteFault}
use Rattle.nmgc_trace_checker.specs.declared.reading.TraceFault.TheVariants as fault
use Rattle.nmgc_trace_checker.specs.declared.status.Status.TheVariants as status

-- THE GRAVEST STATUS

gravest_none : IsGravest [] status.Passed
gravest_none = record { all = λ one is. absurd (nothing one is); among = inl refl }

pub gravest_one : (s : Status) → IsGravest (s ∷ []) s
gravest_one s = record { all = all_below; among = inr (Contains-push [] s) }
  where
    all_below : (one : Status) → Contains (s ∷ []) one → rank one ≤ rank s
    all_below one is = elim (Contains-push_cases [] s one is) [
      | inl before ↦ absurd (nothing one before)
      | inr now ↦ subst (λ (x : Status). rank x ≤ rank s) now (omega arith)
    ]

gravest_join : (ss ts : List Status) (g s next : Status) → IsGravest ss g → IsGravest ts s → rank g ≤ rank next → rank s ≤ rank next →
    (next ≡ g) ⊎ (next ≡ s) → IsGravest (ss ++ ts) next
gravest_join ss ts g s next h k least other from = record { all = all_below; among = among_of from }
  where
    all_below : (one : Status) → Contains (ss ++ ts) one → rank one ≤ rank next
    all_below one is = elim (Contains-append_cases ss ts one is) [
      | inl first ↦ (let below : rank one ≤ rank g = h.all one first in omega (arith, below, least))
      | inr second ↦ (let below : rank one ≤ rank s = k.all one second in omega (arith, below, other))
    ]

    among_part : (us : List Status) (x : Status) → ((y : Status) → Contains us y → Contains (ss ++ ts) y) → next ≡ x →
        (x ≡ status.Passed) ⊎ Contains us x → (next ≡ status.Passed) ⊎ Contains (ss ++ ts) next
    among_part us x within e (inl passed) = inl (e ∙ passed)
    among_part us x within e (inr is) = inr (subst (λ (y : Status). Contains (ss ++ ts) y) (sym e) (within x is))

    among_of : (next ≡ g) ⊎ (next ≡ s) → (next ≡ status.Passed) ⊎ Contains (ss ++ ts) next
    among_of (inl e) = among_part ss g (λ y is. Contains-append_left ss ts y is) e h.among
    among_of (inr e) = among_part ts s (λ y is. Contains-append_right ss ts y is) e k.among

-- ARGUMENT BY ARGUMENT

answered_join : (bytes : List ℕ → Option (List ℕ)) (names others : List (List ℕ)) (said more : List ℕ) (ss ts : List Status) →
    AreAnswered bytes names said ss → AreAnswered bytes others more ts → AreAnswered bytes (names ++ others) (said ++ more) (ss ++ ts)
answered_join bytes [] others said more [] ts h a = subst (λ (l : List ℕ). AreAnswered bytes others (l ++ more) ts) (sym h) a
answered_join bytes [] others said more (x ∷ xs) ts h a = absurd h
answered_join bytes (n ∷ ns) others said more [] ts h a = absurd h
answered_join bytes (n ∷ ns) others said more (x ∷ xs) ts h a = (
  h.0,
  h.1 ++ more,
  ap (λ (l : List ℕ). l ++ more) h.2 ∙ append_assoc h.0 h.1 more,
  h.3,
  answered_join bytes ns others h.1 more xs ts h.4 a,
)

one_answer : (bytes : List ℕ → Option (List ℕ)) (name said : List ℕ) (s : Status) → IsAnswerTo bytes name said s → AreAnswered bytes (name ∷ []) said (s ∷ [])
one_answer bytes name said s a = (said, [], sym (append-nil said), a, refl)

-- any answers so far can be completed by `no memory`
no_memory_to : (bytes : List ℕ → Option (List ℕ)) (name live : List ℕ) → IsHeard (bytes name) (is_live name) live →
    IsAnswerTo bytes name (live ++ (label_of name ++ (codes "no memory" ++ codes "\n"))) status.NoMemory
no_memory_to bytes name live heard = record {
  judged = Err fault.NoMemory;
  live = live;
  text = codes "no memory";
  is_judged = (tt, heard);
  shown = inl (refl, refl);
  said_is = refl;
}

unread : (bytes : List ℕ → Option (List ℕ)) (names : List (List ℕ)) → (said : List ℕ) × (ss : List Status) × AreAnswered bytes names said ss
unread bytes [] = ([], [], refl)
unread bytes (name ∷ names) =
    let line : List ℕ = label_of name ++ (codes "no memory" ++ codes "\n") in
    let rest = unread bytes names in
    (line ++ rest.0, status.NoMemory ∷ rest.1, (line, rest.0, refl, no_memory_to bytes name [] (inl (inl refl)), rest.2))

pub none_answered : (bytes : List ℕ → Option (List ℕ)) (a : Option (List ℕ)) (m : ℕ) → WritesOne (AreAnswered bytes []) a a m m (Ok status.Passed)
none_answered bytes a m = ([], [], refl, gravest_none, appends_nothing a, omega arith)

-- the first arguments were answered, and then one more, or its answer was cut
module _ (bytes : List ℕ → Option (List ℕ)) (names : List (List ℕ)) (name : List ℕ) (a b c : Option (List ℕ)) (m n o : ℕ) (g : Status)
    (first : WritesOne (AreAnswered bytes names) a b m n (Ok g)) where
  pub one_answered : (s next : Status) → WritesOne (AreAnswered bytes (name ∷ [])) b c n o (Ok s) → rank g ≤ rank next → rank s ≤ rank next →
      (next ≡ g) ⊎ (next ≡ s) → WritesOne (AreAnswered bytes (names ++ name ∷ [])) a c m o (Ok next)
  one_answered s next own least other from = (
    first.0 ++ own.0,
    first.1 ++ own.1,
    answered_join bytes names (name ∷ []) first.0 own.0 first.1 own.1 first.2 own.2,
    gravest_join first.1 own.1 g s next first.3 own.3 least other from,
    appends_on a b c first.0 own.0 first.4 own.4,
    omega (arith, first.5, own.5),
  )

  pub cut_short : (later : List (List ℕ)) (e : WriteEnd) → WritesOne (AreAnswered bytes (name ∷ [])) b c n o (Err e) →
      WritesOne (AreAnswered bytes (names ++ name ∷ later)) a c m o (Err e)
  cut_short later e own =
      let rest = unread bytes later in (
        first.0 ++ (own.0 ++ rest.0),
        first.1 ++ (own.1 ++ rest.1),
        answered_join bytes names (name ∷ later) first.0 (own.0 ++ rest.0) first.1 (own.1 ++ rest.1) first.2
            (answered_join bytes (name ∷ []) later own.0 rest.0 own.1 rest.1 own.2 rest.2),
        front_then a b c first.0 (own.0 ++ rest.0) first.4 (front_first b c own.0 rest.0 own.3),
        rose_since m n o first.5 own.4,
      )

-- the names of the first items, and one more
pub names_more : {X : Type 0} (f : X → List ℕ) (xs : List X) (i : ℕ) (x : X) → i < length xs → x ≡ get_or xs i x →
    map f (take (i + 1) xs) ≡ map f (take i xs) ++ f x ∷ []
names_more f xs i x lt e = map_more f xs i x lt ∙ ap (λ y. map f (take i xs) ++ f y ∷ []) (sym e)

pub names_parted : {X : Type 0} (f : X → List ℕ) (xs : List X) (i : ℕ) (x : X) → i < length xs → x ≡ get_or xs i x →
    map f xs ≡ map f (take i xs) ++ f x ∷ map f (drop (i + 1) xs)
names_parted f xs i x lt e =
    ap (map f) (sym (take-append-drop (i + 1) xs)) ∙ map-append f (take (i + 1) xs) (drop (i + 1) xs) ∙
    ap (λ (l : List (List ℕ)). l ++ map f (drop (i + 1) xs)) (names_more f xs i x lt e) ∙
    append_assoc (map f (take i xs)) (f x ∷ []) (map f (drop (i + 1) xs))

-- ONE ARGUMENT

-- the result was judged, and then its line was written, or a front of it
module _ (bytes : List ℕ → Option (List ℕ)) (name : List ℕ) (a b c : Option (List ℕ)) (m n o : ℕ) (judged : Judged) (s : Status)
    (line : Text) (was : WritesLive (bytes name) (is_live name) a b m n (Ok judged)) (is : IsShownAs judged s line) where
  whole_line : AreAnswered bytes (name ∷ []) (was.0 ++ (label_of name ++ text_bytes line)) (s ∷ [])
  whole_line = one_answer bytes name (was.0 ++ (label_of name ++ text_bytes line)) s (record {
    judged = judged;
    live = was.0;
    text = is.0;
    is_judged = was.1;
    shown = is.1;
    said_is = ap (λ (l : List ℕ). was.0 ++ (label_of name ++ l)) is.2;
  })

  pub line_written : Appends b c (label_of name ++ text_bytes line) × (n ≤ o) → WritesOne (AreAnswered bytes (name ∷ [])) a c m o (Ok s)
  line_written w = (
    was.0 ++ (label_of name ++ text_bytes line),
    s ∷ [],
    whole_line,
    gravest_one s,
    appends_on a b c was.0 (label_of name ++ text_bytes line) was.2 w.0,
    omega (arith, was.3, w.1),
  )

  pub line_cut : (e : WriteEnd) → AppendsFront b c (label_of name ++ text_bytes line) × Rose n o →
      WritesOne (AreAnswered bytes (name ∷ [])) a c m o (Err e)
  line_cut e w = (
    was.0 ++ (label_of name ++ text_bytes line),
    s ∷ [],
    whole_line,
    front_then a b c was.0 (label_of name ++ text_bytes line) was.2 w.0,
    rose_since m n o was.3 w.1,
  )

-- the answers while the trace came were cut
pub live_cut : (bytes : List ℕ → Option (List ℕ)) (name : List ℕ) (a b : Option (List ℕ)) (m n : ℕ) (e : WriteEnd) →
    WritesLive (bytes name) (is_live name) a b m n (Err e) → WritesOne (AreAnswered bytes (name ∷ [])) a b m n (Err e)
live_cut bytes name a b m n e h =
    let line : List ℕ = label_of name ++ (codes "no memory" ++ codes "\n") in
    (h.0 ++ line, status.NoMemory ∷ [], one_answer bytes name (h.0 ++ line) status.NoMemory (no_memory_to bytes name h.0 h.1), front_first a b h.0 line h.2, h.3)

-- a fault of reading is a result, and a fault of the output is none
pub passed_live : (known : Option (List ℕ)) (is_asked : Bool) (a b : Option (List ℕ)) (m n : ℕ) (said : List ℕ) (f : TraceFault) (r : Result Judged WriteEnd) →
    IsPassedOn f r → IsHeard known is_asked said → IsFaultAfter (IsTooLong texts_of known) a b (Rose m n) said f → m ≤ n →
    WritesLive known is_asked a b m n r
passed_live known is_asked a b m n said fault.Unwritten r is heard (inl h) le = absurd h.0
passed_live known is_asked a b m n said f r is heard (inl h) le = rw is (said, (h.0, heard), h.1, le)
passed_live known is_asked a b m n said f r is heard (inr h) le =
    let failed : r ≡ Err WriteFault = subst (λ (x : TraceFault). IsPassedOn x r) h.0 is in
    rw failed (said, heard, h.1, h.2)

-- a trace that can't be opened is judged, and nothing was said
pub not_opened : (known : Option (List ℕ)) (is_asked : Bool) (a : Option (List ℕ)) (m : ℕ) (f : TraceFault) → IsFault ⊥ f →
    WritesLive known is_asked a a m m (Ok (Err f))
not_opened known is_asked a m f is =
    ([], (fault_by ⊥ (IsTooLong texts_of known) f (λ never. absurd never) is, inl (inl refl)), appends_nothing a, omega arith)

-- by the bytes that the trace is known to have
pub live_at : (known known' : Option (List ℕ)) (b b' : Bool) (a c : Option (List ℕ)) (m n : ℕ) (r : Result Judged WriteEnd) → known ≡ known' → b ≡ b' →
    WritesLive known b a c m n r → WritesLive known' b' a c m n r
live_at known known' b b' a c m n r e f h =
    subst (λ (x : Bool). WritesLive known' x a c m n r) f (subst (λ (k : Option (List ℕ)). WritesLive k b a c m n r) e h)

-- HOW RESULTS ARE SHOWN

pub shown_as_none : (judged : Judged) (s : Status) (line : Text) → s ≡ status.NoMemory → text_bytes line ≡ codes "no memory\n" → IsShownAs judged s line
shown_as_none judged s line e text = (codes "no memory", inr (refl, e), text)

pub outcome_result : (o : Outcome) (s : Status) (old new : List ℕ) → s ≡ status_of o → new ≡ old ++ outcome_text o →
    (text : List ℕ) × IsResult (Ok o) text s × (new ≡ old ++ text)
outcome_result o s old new e is = (outcome_text o, (refl, e), is)

pub too_long_result : (s : Status) (old new : List ℕ) → s ≡ status.Refused → new ≡ old ++ codes "there are too many lines" →
    (text : List ℕ) × IsResult (Err fault.TooLong) text s × (new ≡ old ++ text)
too_long_result s old new e is = (codes "there are too many lines", (refl, e), is)

-- WRITING IN PARTS

-- bytes that are written at once
pub written_of : {A : Type 0} (bytes : List ℕ) (a b : Option (List ℕ)) (m n : ℕ) (r : Result A WriteEnd) → OnOk r (Appends a b bytes) →
    OnErr r (AppendsFront a b bytes) → m ≤ n → OnErr r (Rose m n) → Writes bytes a b m n r
written_of bytes a b m n (Ok x) ok err later fault = (ok, later)
written_of bytes a b m n (Err e) ok err later fault = (err, fault)

-- first these bytes, and then those
pub writes_then : {A : Type 0} (xs ys : List ℕ) (a b c : Option (List ℕ)) (m n o : ℕ) (r : Result A WriteEnd) → Appends a b xs → m ≤ n →
    Writes ys b c n o r → Writes (xs ++ ys) a c m o r
writes_then xs ys a b c m n o (Ok x) w le h = (appends_on a b c xs ys w h.0, omega (arith, le, h.1))
writes_then xs ys a b c m n o (Err e) w le h = (front_then a b c xs ys w h.0, rose_since m n o le h.1)

-- the label of an argument
pub live_label : (name : List ℕ) → is_live name ≡ true → label_of name ≡ []
live_label name e = cond-true (is_live name) [] (name ++ codes ": ") e

pub named_label : (name : List ℕ) → is_live name ≡ false → label_of name ≡ name ++ codes ": "
named_label name e = cond-false (is_live name) [] (name ++ codes ": ") e

-- ALL OF IT

answers_said : (bytes : List ℕ → Option (List ℕ)) (names : List (List ℕ)) → 1 ≤ length names → (said : List ℕ) (ss : List Status) →
    AreAnswered bytes names said ss → SaysAll bytes names said ss
answers_said bytes [] some said ss h = absurd (let no : 1 ≤ 0 = some in omega (arith, no))
answers_said bytes (n ∷ ns) some said ss h = h

pub all_said : (bytes : List ℕ → Option (List ℕ)) (names : List (List ℕ)) (a b : Option (List ℕ)) (m n : ℕ) (r : Result Status WriteEnd) →
    1 ≤ length names → WritesOne (AreAnswered bytes names) a b m n r → WritesOne (SaysAll bytes names) a b m n r
all_said bytes names a b m n (Ok s) some h = (h.0, h.1, answers_said bytes names some h.0 h.1 h.2, h.3, h.4, h.5)
all_said bytes names a b m n (Err e) some h = (h.0, h.1, answers_said bytes names some h.0 h.1 h.2, h.3, h.4)
