-- A line of format 2 is read as its text says, and in no other way.
use Rattle.std.proofs.{Common.◌≡◌, Common.◌<◌, Common.ℕ, Common.List, Common.[], Common.◌∷◌, Common.refl, Common.sym, Common.ap, Common.subst, Common.◌∙◌, Common.inl, Common.inr, Common.true, Common.false, Common.codes, Common.decimal, Common.Option, Common.Some, Common.None, lemmas.Bool.false≢true, lemmas.Option.same_Some, lemmas.Option.none-some}
use Rattle.std.specs.{Prelude.All, List.AllByRecursion, Str.bytes_eq}
use Rattle.nmgc_world_spec.specs.{declared.value.Name.Name, declared.command.Command.Command, declared.command.Reply.Reply, World.Fits}
use Rattle.nmgc_world_spec.specs.declared.command.Reply.TheVariants as reply
use Rattle.nmgc_object.specs.Words.{IsName}
use Rattle.nmgc_io.specs.Text.{tokens_of, is_blank_or_comment, spaced}
use Rattle.nmgc_script.specs.{Spelling.command_words, laws.Lines.IsWord, laws.Lines.words_again, laws.Lines.tokens_of-line, laws.Lines.made_kept, laws.Lines.command_line}
use Rattle.nmgc_journal.specs.{Text.name_text, Text.reply_text, Reading.◌>>=◌, Reading.name_at, laws.Reading.bind_some, laws.Reading.guard_some, laws.Reading.name_reads}
use Rattle.nmgc_lists.specs.laws.Truths.{chosen}
use Rattle.nmgc_barrier_checker.specs.declared.{event.Event.Event, hand.Hand.Hand, rows.Task.Task}
use Rattle.nmgc_barrier_checker.specs.declared.event.Event.TheVariants as event
use Rattle.nmgc_trace_checker.specs.{declared.meaning.Meaning.Meaning, Reading.byte_at, Reading.names_at, Reading.pusher_at, Reading.mutators_at, Reading.mark_at, Reading.shared_mark_at, Reading.scan_at, Reading.exit_at, Reading.push_at, Reading.settle_at, Reading.take_at, Reading.close_at, Reading.marked_at, Reading.black_at, Reading.freed_at, Reading.stop_at, Reading.ending_at, Reading.plain_at, Reading.parts_at, Reading.hand_at, Reading.rows_if, Reading.IsCommandOf, Meanings.IsMeaningOfBorrowing, Meanings.IsMeaningOfHand, Meanings.IsMeaningOfRows, Meanings.IsMeaningOfRow, Meanings.IsMeaningBy, Borrowing.borrowing_at, Immediates.IsRewritten, declared.borrowing.Rows.Rows, Said.IsBorrowing, Said.IsImmediate, Said.IsMutators, Said.IsReply, Said.given_words, Said.IsGiven, Said.IsHanded, Said.hand_words, Said.copy_words, Said.fill_words, Said.IsPusher, Said.names_words, Said.AreNames, Said.SaysEvent, Said.Says}
use Rattle.nmgc_trace_checker.specs.declared.meaning.Meaning.TheVariants as meaning
use Rattle.nmgc_trace_checker.proofs.{LineWords.words_are, LineWords.front_words, WordReads.Given, WordReads.AreRows, WordReads.is_word, WordReads.byte_takes, WordReads.byte_again, WordReads.names_read, WordReads.names_reread, WordReads.pusher_takes, WordReads.pusher_again, WordReads.parts_takes, WordReads.parts_again, WordReads.rows_if_takes, WordReads.rows_if_again, WordReads.HandsOver, WordReads.hand_takes, WordReads.hand_again}

-- THE TOKENS OF A COMMAND

-- tokens without spaces that spell the same text as a command's tokens are the command's tokens
same_words : (words : List (List ℕ)) → AllByRecursion IsWord words → (c : Command) → Fits 4096 c → spaced words ≡ spaced (command_words c) →
    words ≡ command_words c
same_words [] h c fits e =
    absurd (false≢true (sym (made_kept (command_words c) (command_line 4096 c fits)).kept ∙ ap is_blank_or_comment (sym e)))
same_words (w ∷ ws) h c fits e = sym (words_again w ws h.0 h.1) ∙ ap tokens_of e ∙ tokens_of-line (command_words c) (command_line 4096 c fits)

pub command_said : (text : List ℕ) (m : ℕ) (words : List (List ℕ)) (answer : List ℕ) (c : Command) → tokens_of text ≡ given_words m words answer →
    IsCommandOf words c → words ≡ command_words c
command_said text m words answer c e is =
    let all : AllByRecursion IsWord (given_words m words answer) = subst (AllByRecursion IsWord) e (words_are text) in
    same_words words (front_words words (codes "=" ∷ answer ∷ []) all.1) c is.0 is.1

-- LINES WITH A KEYWORD

-- the line that tokens say, if they say any
abbrev SaysBy : List (List ℕ) → Meaning → Type 0
SaysBy words (meaning.Mutators count) = IsMutators words count
SaysBy words (meaning.Event e) = SaysEvent words e
SaysBy words _ = ⊥

mutators_takes : (words : List (List ℕ)) (t : Meaning) → mutators_at words ≡ Some t → SaysBy (codes "mutators" ∷ words) t
unfolding mutators_at
mutators_takes (w ∷ []) t e =
    let b = bind_some (byte_at w) (λ n. Some (meaning.Mutators n)) t e in
    let n = byte_takes w b.0 b.1 in
    subst (SaysBy (codes "mutators" ∷ w ∷ [])) (same_Some (meaning.Mutators b.0) t b.2) (n.1, ap (λ (x : List ℕ). codes "mutators" ∷ x ∷ []) n.0)
mutators_takes _ t e = absurd cc

shared_mark_takes : (word : List ℕ) (t : Meaning) → shared_mark_at word ≡ Some t → SaysBy (codes "mark" ∷ word ∷ []) t
unfolding shared_mark_at
shared_mark_takes word t e =
    let g = guard_some (bytes_eq word (codes "g")) (Some (meaning.Event event.MarkShared)) t e in
    subst (SaysBy (codes "mark" ∷ word ∷ [])) (same_Some (meaning.Event event.MarkShared) t g.1)
    (ap (λ (x : List ℕ). codes "mark" ∷ x ∷ []) (is_word word (codes "g") g.0))

mark_takes : (words : List (List ℕ)) (t : Meaning) → mark_at words ≡ Some t → SaysBy (codes "mark" ∷ words) t
unfolding mark_at
mark_takes [] t e = subst (SaysBy (codes "mark" ∷ [])) (same_Some (meaning.Event event.Mark) t e) refl
mark_takes (w ∷ []) t e = shared_mark_takes w t e
mark_takes (w ∷ v ∷ ws) t e = absurd cc

scan_takes : (words : List (List ℕ)) (t : Meaning) → scan_at words ≡ Some t → SaysBy (codes "scan" ∷ words) t
unfolding scan_at
scan_takes [] t e = absurd cc
scan_takes (w ∷ v ∷ ws) t e = absurd cc
scan_takes (w ∷ []) t e =
    let b = bind_some (byte_at w) (λ m. Some (meaning.Event (event.Scan m))) t e in
    let n = byte_takes w b.0 b.1 in
    subst (SaysBy (codes "scan" ∷ w ∷ [])) (same_Some (meaning.Event (event.Scan b.0)) t b.2) (n.1, ap (λ (x : List ℕ). codes "scan" ∷ x ∷ []) n.0)

exit_takes : (words : List (List ℕ)) (t : Meaning) → exit_at words ≡ Some t → SaysBy (codes "ended" ∷ words) t
unfolding exit_at
exit_takes (w ∷ []) t e =
    let b = bind_some (byte_at w) (λ m. Some (meaning.Event (event.Exit m))) t e in
    let n = byte_takes w b.0 b.1 in
    subst (SaysBy (codes "ended" ∷ w ∷ [])) (same_Some (meaning.Event (event.Exit b.0)) t b.2) (n.1, ap (λ (x : List ℕ). codes "ended" ∷ x ∷ []) n.0)
exit_takes _ t e = absurd cc

push_takes : (words : List (List ℕ)) (t : Meaning) → push_at words ≡ Some t → SaysBy (codes "push" ∷ words) t
unfolding push_at
push_takes (w ∷ v ∷ []) t e =
    let p = bind_some (pusher_at w) (λ p. name_at v >>= λ n. Some (meaning.Event (event.Push n))) t e in
    let b = bind_some (name_at v) (λ n. Some (meaning.Event (event.Push n))) t p.2 in
    let n = name_reads.takes v b.0 b.1 in
    subst (SaysBy (codes "push" ∷ w ∷ v ∷ [])) (same_Some (meaning.Event (event.Push b.0)) t b.2) (
      w,
      pusher_takes w p.0 p.1,
      n.1,
      ap (λ (x : List ℕ). codes "push" ∷ w ∷ x ∷ []) n.0,
    )
push_takes _ t e = absurd cc

settle_takes : (words : List (List ℕ)) (t : Meaning) → settle_at words ≡ Some t → SaysBy (codes "settle" ∷ words) t
unfolding settle_at
settle_takes (w ∷ []) t e =
    let b = bind_some (byte_at w) (λ m. Some (meaning.Event (event.Settle m))) t e in
    let n = byte_takes w b.0 b.1 in
    subst (SaysBy (codes "settle" ∷ w ∷ [])) (same_Some (meaning.Event (event.Settle b.0)) t b.2) (n.1, ap (λ (x : List ℕ). codes "settle" ∷ x ∷ []) n.0)
settle_takes _ t e = absurd cc

take_takes : (words : List (List ℕ)) (t : Meaning) → take_at words ≡ Some t → SaysBy (codes "take" ∷ words) t
unfolding take_at
take_takes (w ∷ []) t e =
    let b = bind_some (name_at w) (λ n. Some (meaning.Event (event.Take n))) t e in
    let n = name_reads.takes w b.0 b.1 in
    subst (SaysBy (codes "take" ∷ w ∷ [])) (same_Some (meaning.Event (event.Take b.0)) t b.2) (n.1, ap (λ (x : List ℕ). codes "take" ∷ x ∷ []) n.0)
take_takes _ t e = absurd cc

named : (word : List ℕ) (words : List (List ℕ)) (names : List Name) → names_at words ≡ Some names → AreNames (word ∷ words) word names
named word words names e = let n = names_read words names e in (n.0, ap (λ (ws : List (List ℕ)). word ∷ ws) n.1)

close_takes : (words : List (List ℕ)) (t : Meaning) → close_at words ≡ Some t → SaysBy (codes "close" ∷ words) t
unfolding close_at
close_takes [] t e = subst (SaysBy (codes "close" ∷ [])) (same_Some (meaning.Event event.Close) t e) refl
close_takes (w ∷ ws) t e =
    let b = bind_some (names_at (w ∷ ws)) (λ names. Some (meaning.Event (event.CloseWith names))) t e in
    subst (SaysBy (codes "close" ∷ w ∷ ws)) (same_Some (meaning.Event (event.CloseWith b.0)) t b.2) (named (codes "close") (w ∷ ws) b.0 b.1)

marked_takes : (words : List (List ℕ)) (t : Meaning) → marked_at words ≡ Some t → SaysBy (codes "marked" ∷ words) t
unfolding marked_at
marked_takes words t e =
    let b = bind_some (names_at words) (λ names. Some (meaning.Event (event.Marked names))) t e in
    subst (SaysBy (codes "marked" ∷ words)) (same_Some (meaning.Event (event.Marked b.0)) t b.2) (named (codes "marked") words b.0 b.1)

black_takes : (words : List (List ℕ)) (t : Meaning) → black_at words ≡ Some t → SaysBy (codes "black" ∷ words) t
unfolding black_at
black_takes words t e =
    let b = bind_some (names_at words) (λ names. Some (meaning.Event (event.Black names))) t e in
    subst (SaysBy (codes "black" ∷ words)) (same_Some (meaning.Event (event.Black b.0)) t b.2) (named (codes "black") words b.0 b.1)

freed_takes : (words : List (List ℕ)) (t : Meaning) → freed_at words ≡ Some t → SaysBy (codes "freed" ∷ words) t
unfolding freed_at
freed_takes words t e =
    let b = bind_some (names_at words) (λ names. Some (meaning.Event (event.Freed names))) t e in
    subst (SaysBy (codes "freed" ∷ words)) (same_Some (meaning.Event (event.Freed b.0)) t b.2) (named (codes "freed") words b.0 b.1)

stop_takes : (words : List (List ℕ)) (t : Meaning) → stop_at words ≡ Some t → SaysBy (codes "stop" ∷ words) t
unfolding stop_at
stop_takes [] t e = subst (SaysBy (codes "stop" ∷ [])) (same_Some (meaning.Event event.Stop) t e) refl
stop_takes (w ∷ ws) t e = absurd cc

-- the first token is this keyword
at_word : (word text : List ℕ) (words : List (List ℕ)) (t : Meaning) → bytes_eq word text ≡ true → SaysBy (text ∷ words) t → SaysBy (word ∷ words) t
at_word word text words t e h = subst (λ (w : List ℕ). SaysBy (w ∷ words) t) (sym (is_word word text e)) h

ending_takes : (word : List ℕ) (words : List (List ℕ)) (t : Meaning) → ending_at word words ≡ Some t → SaysBy (word ∷ words) t
unfolding ending_at
ending_takes word words t e = elim (chosen (bytes_eq word (codes "close")) (close_at words) _ (Some t) e) [
  | inl p ↦ at_word word (codes "close") words t p.0 (close_takes words t p.1)
  | inr p ↦ elim (chosen (bytes_eq word (codes "marked")) (marked_at words) _ (Some t) p.1) [
    | inl q ↦ at_word word (codes "marked") words t q.0 (marked_takes words t q.1)
    | inr q ↦ elim (chosen (bytes_eq word (codes "black")) (black_at words) _ (Some t) q.1) [
      | inl b ↦ at_word word (codes "black") words t b.0 (black_takes words t b.1)
      | inr b ↦ elim (chosen (bytes_eq word (codes "freed")) (freed_at words) _ (Some t) b.1) [
        | inl r ↦ at_word word (codes "freed") words t r.0 (freed_takes words t r.1)
        | inr r ↦
            let g = guard_some (bytes_eq word (codes "stop")) (stop_at words) t r.1 in
            at_word word (codes "stop") words t g.0 (stop_takes words t g.1)
      ]
    ]
  ]
]

plain_takes : (words : List (List ℕ)) (t : Meaning) → plain_at words ≡ Some t → SaysBy words t
unfolding plain_at
plain_takes [] t e = absurd cc
plain_takes (word ∷ words) t e = elim (chosen (bytes_eq word (codes "mutators")) (mutators_at words) _ (Some t) e) [
  | inl p ↦ at_word word (codes "mutators") words t p.0 (mutators_takes words t p.1)
  | inr p ↦ elim (chosen (bytes_eq word (codes "mark")) (mark_at words) _ (Some t) p.1) [
    | inl q ↦ at_word word (codes "mark") words t q.0 (mark_takes words t q.1)
    | inr q ↦ elim (chosen (bytes_eq word (codes "push")) (push_at words) _ (Some t) q.1) [
      | inl r ↦ at_word word (codes "push") words t r.0 (push_takes words t r.1)
      | inr r ↦ elim (chosen (bytes_eq word (codes "settle")) (settle_at words) _ (Some t) r.1) [
        | inl s ↦ at_word word (codes "settle") words t s.0 (settle_takes words t s.1)
        | inr s ↦ elim (chosen (bytes_eq word (codes "take")) (take_at words) _ (Some t) s.1) [
          | inl u ↦ at_word word (codes "take") words t u.0 (take_takes words t u.1)
          | inr u ↦ elim (chosen (bytes_eq word (codes "scan")) (scan_at words) _ (Some t) u.1) [
            | inl v ↦ at_word word (codes "scan") words t v.0 (scan_takes words t v.1)
            | inr v ↦ elim (chosen (bytes_eq word (codes "ended")) (exit_at words) _ (Some t) v.1) [
              | inl x ↦ at_word word (codes "ended") words t x.0 (exit_takes words t x.1)
              | inr x ↦ ending_takes word words t x.1
            ]
          ]
        ]
      ]
    ]
  ]
]

-- each such line is read again
mutators_again : (words : List (List ℕ)) (n : ℕ) → IsMutators words n → plain_at words ≡ Some (meaning.Mutators n)
unfolding plain_at mutators_at
mutators_again words n h =
    subst (λ (ws : List (List ℕ)). plain_at ws ≡ Some (meaning.Mutators n)) (sym h.1) (rw (byte_again n h.0) refl)

at_words : (words other : List (List ℕ)) (t : Meaning) → words ≡ other → plain_at other ≡ Some t → plain_at words ≡ Some t
at_words words other t e h = subst (λ (ws : List (List ℕ)). plain_at ws ≡ Some t) (sym e) h

mark_again : plain_at (codes "mark" ∷ []) ≡ Some (meaning.Event event.Mark)
unfolding plain_at mark_at
mark_again = refl

shared_mark_again : plain_at (codes "mark" ∷ codes "g" ∷ []) ≡ Some (meaning.Event event.MarkShared)
unfolding plain_at mark_at shared_mark_at
shared_mark_again = refl

scan_again : (m : ℕ) → m < 256 → plain_at (codes "scan" ∷ decimal m ∷ []) ≡ Some (meaning.Event (event.Scan m))
unfolding plain_at scan_at
scan_again m lt = rw (byte_again m lt) refl

exit_again : (m : ℕ) → m < 256 → plain_at (codes "ended" ∷ decimal m ∷ []) ≡ Some (meaning.Event (event.Exit m))
unfolding plain_at exit_at
exit_again m lt = rw (byte_again m lt) refl

push_again : (who : List ℕ) (name : Name) → IsPusher who → IsName name →
    plain_at (codes "push" ∷ who ∷ name_text name ∷ []) ≡ Some (meaning.Event (event.Push name))
unfolding plain_at push_at
push_again who name p h = let w = pusher_again who p in rw (w.1, name_reads.again name h) refl

settle_again : (m : ℕ) → m < 256 → plain_at (codes "settle" ∷ decimal m ∷ []) ≡ Some (meaning.Event (event.Settle m))
unfolding plain_at settle_at
settle_again m lt = rw (byte_again m lt) refl

take_again : (name : Name) → IsName name → plain_at (codes "take" ∷ name_text name ∷ []) ≡ Some (meaning.Event (event.Take name))
unfolding plain_at take_at
take_again name h = rw (name_reads.again name h) refl

close_again : plain_at (codes "close" ∷ []) ≡ Some (meaning.Event event.Close)
unfolding plain_at ending_at close_at
close_again = refl

close_with_again : (names : List Name) → All IsName names → plain_at (codes "close" ∷ names_words names) ≡ Some (meaning.Event (event.CloseWith names))
unfolding plain_at ending_at close_at
close_with_again [] h = rw (names_reread [] h) refl
close_with_again (n ∷ ns) h = rw (names_reread (n ∷ ns) h) refl

marked_again : (names : List Name) → All IsName names → plain_at (codes "marked" ∷ names_words names) ≡ Some (meaning.Event (event.Marked names))
unfolding plain_at ending_at marked_at
marked_again names h = rw (names_reread names h) refl

black_again : (names : List Name) → All IsName names → plain_at (codes "black" ∷ names_words names) ≡ Some (meaning.Event (event.Black names))
unfolding plain_at ending_at black_at
black_again names h = rw (names_reread names h) refl

freed_again : (names : List Name) → All IsName names → plain_at (codes "freed" ∷ names_words names) ≡ Some (meaning.Event (event.Freed names))
unfolding plain_at ending_at freed_at
freed_again names h = rw (names_reread names h) refl

stop_again : plain_at (codes "stop" ∷ []) ≡ Some (meaning.Event event.Stop)
unfolding plain_at ending_at stop_at
stop_again = refl

-- THE MEANING OF A LINE

says_by : (text : List ℕ) (t : Meaning) → SaysBy (tokens_of text) t → Says text t
says_by text (meaning.Mutators n) h = h
says_by text (meaning.Event e) h = h
says_by text _ h = absurd h

-- tokens without a keyword can only say commands of a mutator
module _ (words : List (List ℕ)) (none : plain_at words ≡ None) (given : (m : ℕ) (c : Command) (answer : Reply) → IsGiven words m c answer → ⊥)
    (rows : (m : ℕ) (ws : List (List ℕ)) (tasks : List Task) → m < 256 → words ≡ given_words m ws (codes "ok") → AreRows ws tasks → ⊥)
    (borrows : (m : ℕ) (borrowed : List ℕ) (tasks : List Task) → IsBorrowing words m borrowed tasks → ⊥)
    (immediates : (m : ℕ) (borrowed : List ℕ) (tasks : List Task) → IsImmediate words m borrowed tasks → ⊥)
    (hands : (k : Hand) (answer : Reply) → IsHanded words k answer → ⊥) where
  never : (t : Meaning) → plain_at words ≡ Some t → ⊥
  never t e = none-some t (sym none ∙ e)

  no_mutators : (n : ℕ) → IsMutators words n → ⊥
  no_mutators n h = never (meaning.Mutators n) (mutators_again words n h)

  no_event : (e : Event) → SaysEvent words e → ⊥
  no_event (event.Given m c answer) h = given m c answer h
  no_event (event.Rows m borrowed tasks) (inl (e, inl h)) = rows m (copy_words h.copying) tasks h.mutator h.words_are
      (inl (h.copying, h.valid, refl, h.tasks_are))
  no_event (event.Rows m borrowed tasks) (inl (e, inr h)) = rows m (fill_words h.filling) tasks h.mutator h.words_are
      (inr (h.filling, h.valid, refl, h.tasks_are))
  no_event (event.Rows m borrowed tasks) (inr (inl h)) = borrows m borrowed tasks h
  no_event (event.Rows m borrowed tasks) (inr (inr h)) = immediates m borrowed tasks h
  no_event (event.Hand k answer) h = hands k answer h
  no_event event.Mark h = never (meaning.Event event.Mark) (at_words words (codes "mark" ∷ []) (meaning.Event event.Mark) h mark_again)
  no_event event.MarkShared h = never (meaning.Event event.MarkShared) (at_words words (codes "mark" ∷ codes "g" ∷
      []) (meaning.Event event.MarkShared) h shared_mark_again)
  no_event (event.Scan m) h = never (meaning.Event (event.Scan m)) (at_words words (codes "scan" ∷ decimal m ∷
      []) (meaning.Event (event.Scan m)) h.1 (scan_again m h.0))
  no_event (event.Exit m) h = never (meaning.Event (event.Exit m)) (at_words words (codes "ended" ∷ decimal m ∷
      []) (meaning.Event (event.Exit m)) h.1 (exit_again m h.0))
  no_event (event.Push name) h = never (meaning.Event (event.Push name)) (at_words words (codes "push" ∷ h.0 ∷ name_text name ∷
      []) (meaning.Event (event.Push name)) h.3 (push_again h.0 name h.1 h.2))
  no_event (event.Settle m) h = never (meaning.Event (event.Settle m)) (at_words words (codes "settle" ∷ decimal m ∷
      []) (meaning.Event (event.Settle m)) h.1 (settle_again m h.0))
  no_event (event.Take name) h = never (meaning.Event (event.Take name)) (at_words words (codes "take" ∷ name_text name ∷
      []) (meaning.Event (event.Take name)) h.1 (take_again name h.0))
  no_event event.Close h = never (meaning.Event event.Close) (at_words words (codes "close" ∷ []) (meaning.Event event.Close) h close_again)
  no_event (event.CloseWith names) h = never (meaning.Event (event.CloseWith names)) (at_words words (codes "close" ∷
      names_words names) (meaning.Event (event.CloseWith names)) h.1 (close_with_again names h.0))
  no_event (event.Marked names) h = never (meaning.Event (event.Marked names)) (at_words words (codes "marked" ∷
      names_words names) (meaning.Event (event.Marked names)) h.1 (marked_again names h.0))
  no_event (event.Black names) h = never (meaning.Event (event.Black names)) (at_words words (codes "black" ∷
      names_words names) (meaning.Event (event.Black names)) h.1 (black_again names h.0))
  no_event (event.Freed names) h = never (meaning.Event (event.Freed names)) (at_words words (codes "freed" ∷
      names_words names) (meaning.Event (event.Freed names)) h.1 (freed_again names h.0))
  no_event event.Stop h = never (meaning.Event event.Stop) (at_words words (codes "stop" ∷ []) (meaning.Event event.Stop) h stop_again)

module _ (text : List ℕ) (kept : is_blank_or_comment text ≡ false) (none : plain_at (tokens_of text) ≡ None) where
  abbrev words : List (List ℕ)
  words = tokens_of text

  -- a text that is no line of a trace
  nothing : ((m : ℕ) (c : Command) (answer : Reply) → IsGiven words m c answer → ⊥) →
      ((m : ℕ) (ws : List (List ℕ)) (tasks : List Task) → m < 256 → words ≡ given_words m ws (codes "ok") → AreRows ws tasks → ⊥) →
      ((m : ℕ) (borrowed : List ℕ) (tasks : List Task) → IsBorrowing words m borrowed tasks → ⊥) →
      ((m : ℕ) (borrowed : List ℕ) (tasks : List Task) → IsImmediate words m borrowed tasks → ⊥) →
      ((k : Hand) (answer : Reply) → IsHanded words k answer → ⊥) → Says text meaning.Unknown
  nothing given rows borrows immediates hands = record {
    kept = kept;
    mutators = no_mutators words none given rows borrows immediates hands;
    event = no_event words none given rows borrows immediates hands;
  }

  no_parts : parts_at words ≡ None → Says text meaning.Unknown
  no_parts e = nothing
      (λ m c answer h. none-some (m, command_words c, answer) (sym e ∙ ap parts_at h.words_are ∙ parts_again m (command_words c) answer h.mutator h.reply))
      (λ m ws tasks lt is h. none-some (m, ws, reply.Fine) (sym e ∙ ap parts_at is ∙ parts_again m ws reply.Fine lt tt))
      (λ m borrowed tasks h. none-some (m, h.command, h.answer) (sym e ∙ ap parts_at h.words_are ∙ parts_again m h.command h.answer h.mutator h.reply))
      (λ m borrowed tasks h. none-some (m, h.command, h.answer) (sym e ∙ ap parts_at h.words_are ∙ parts_again m h.command h.answer h.mutator h.reply))
      (λ k answer h. none-some (k.giver, hand_words k, answer) (sym e ∙ ap parts_at h.words_are ∙ parts_again k.giver (hand_words k) answer h.giver h.reply))

  module _ (p : Given) (e : parts_at words ≡ Some p) where
    read : (p.0 < 256) × IsReply p.2 × (words ≡ given_words p.0 p.1 (reply_text p.2))
    read = parts_takes words p e

    -- the same parts
    parts_are : (m : ℕ) (ws : List (List ℕ)) (answer : Reply) → m < 256 → IsReply answer → words ≡ given_words m ws (reply_text answer) → (m, ws, answer) ≡ p
    parts_are m ws answer lt valid is = same_Some (m, ws, answer) p (sym (parts_again m ws answer lt valid) ∙ sym (ap parts_at is) ∙ e)

    a_copy : (tasks : List Task) → (p.2 ≡ reply.Fine) × AreRows p.1 tasks → SaysEvent words (event.Rows p.0 [] tasks)
    a_copy tasks (fine, inl h) = inl (
      refl,
      inl (record {
        mutator = read.0;
        copying = h.0;
        valid = h.1;
        words_are = read.2 ∙ ap (λ (ws : List (List ℕ)). given_words p.0 ws (reply_text p.2)) h.2 ∙
            ap (λ (r : Reply). given_words p.0 (copy_words h.0) (reply_text r)) fine;
        tasks_are = h.3;
      }),
    )
    a_copy tasks (fine, inr h) = inl (
      refl,
      inr (record {
        mutator = read.0;
        filling = h.0;
        valid = h.1;
        words_are = read.2 ∙ ap (λ (ws : List (List ℕ)). given_words p.0 ws (reply_text p.2)) h.2 ∙
            ap (λ (r : Reply). given_words p.0 (fill_words h.0) (reply_text r)) fine;
        tasks_are = h.3;
      }),
    )

    a_borrowing : (rows : Rows) → borrowing_at p.2 p.1 ≡ Some rows → SaysEvent words (event.Rows p.0 rows.borrowed rows.tasks)
    a_borrowing rows e = inr (inl (record { mutator = read.0; command = p.1; answer = p.2; reply = read.1; words_are = read.2; reads = e }))

    an_immediate : (rows : Rows) → ((c : Command) → IsCommandOf p.1 c → ⊥) → IsRewritten p.2 p.1 rows → SaysEvent words (event.Rows p.0 rows.borrowed rows.tasks)
    an_immediate rows never_one k = inr (inr (record {
      mutator = read.0;
      command = p.1;
      answer = p.2;
      reply = read.1;
      words_are = read.2;
      reads = record { uncommanded = never_one; rewrites = k };
    }))

    a_hand : (k : Hand) → HandsOver p.0 p.1 k → SaysEvent words (event.Hand k p.2)
    a_hand k h = record {
      giver = subst (λ (m : ℕ). m < 256) (sym h.0) read.0;
      value = h.1;
      taker = h.2;
      dest = h.3;
      reply = read.1;
      words_are = read.2 ∙ ap (λ (ws : List (List ℕ)). given_words p.0 ws (reply_text p.2)) h.4 ∙
          ap (λ (m : ℕ). given_words m (hand_words k) (reply_text p.2)) (sym h.0);
    }

    a_command : (c : Command) → IsCommandOf p.1 c → IsGiven words p.0 c p.2
    a_command c is = record {
      mutator = read.0;
      fits = is.0;
      reply = read.1;
      words_are = read.2 ∙ ap (λ (ws : List (List ℕ)). given_words p.0 ws (reply_text p.2)) (command_said text p.0 p.1 (reply_text p.2) c read.2 is);
    }

    no_command : hand_at p.0 p.1 ≡ None → rows_if p.2 p.1 ≡ None → borrowing_at p.2 p.1 ≡ None → ((c : Command) → IsCommandOf p.1 c → ⊥) →
        ((rows : Rows) → IsRewritten p.2 p.1 rows → ⊥) → Says text meaning.Unknown
    no_command no_hand no_rows no_loan never_one never_rewritten = nothing
        (λ m c answer h.
        let same : (m, command_words c, answer) ≡ p = parts_are m (command_words c) answer h.mutator h.reply h.words_are in
        never_one c (h.fits, ap (λ (q : Given). spaced q.1) (sym same)))
        (λ m ws tasks lt is h.
        let same : (m, ws, reply.Fine) ≡ p = parts_are m ws reply.Fine lt tt is in
        none-some tasks (sym no_rows ∙ ap (λ (q : Given). rows_if q.2 q.1) (sym same) ∙ rows_if_again ws tasks h))
        (λ m borrowed tasks h.
        let same : (m, h.command, h.answer) ≡ p = parts_are m h.command h.answer h.mutator h.reply h.words_are in
        none-some (record { borrowed = borrowed; tasks = tasks }) (sym no_loan ∙ ap (λ (q : Given). borrowing_at q.2 q.1) (sym same) ∙ h.reads))
        (λ m borrowed tasks h.
        let same : (m, h.command, h.answer) ≡ p = parts_are m h.command h.answer h.mutator h.reply h.words_are in
        let rows : Rows = record { borrowed = borrowed; tasks = tasks } in
        never_rewritten rows (subst (λ (q : Given). IsRewritten q.2 q.1 rows) same h.reads.rewrites))
        (λ k answer h.
        let same : (k.giver, hand_words k, answer) ≡ p = parts_are k.giver (hand_words k) answer h.giver h.reply h.words_are in
        none-some k (sym no_hand ∙ ap (λ (q : Given). hand_at q.0 q.1) (sym same) ∙ hand_again k h.value h.taker h.dest))

    loan_says : (t : Meaning) (o : Option Rows) → hand_at p.0 p.1 ≡ None → rows_if p.2 p.1 ≡ None → borrowing_at p.2 p.1 ≡ o →
        IsMeaningOfBorrowing p.0 p.1 p.2 o t → Says text t
    loan_says t (Some rows) unhanded plain is h = subst (Says text) (sym h) (a_borrowing rows is)
    loan_says t None unhanded plain is (inl h) = subst (Says text) (sym h.1) (a_command h.0 h.2)
    loan_says t None unhanded plain is (inr (never_one, inl h)) = subst (Says text) (sym h.1) (an_immediate h.0 never_one h.2)
    loan_says t None unhanded plain is (inr (never_one, inr h)) = subst (Says text) (sym h.0) (no_command unhanded plain is never_one h.1)

    given_says : (t : Meaning) (o : Option (List Task)) → hand_at p.0 p.1 ≡ None → rows_if p.2 p.1 ≡ o → IsMeaningOfRows p.0 p.1 p.2 o t → Says text t
    given_says t (Some tasks) unhanded is h = subst (Says text) (sym h) (a_copy tasks (rows_if_takes p.2 p.1 tasks is))
    given_says t None unhanded is h = loan_says t (borrowing_at p.2 p.1) unhanded is refl h

    hand_says : (t : Meaning) (o : Option Hand) → hand_at p.0 p.1 ≡ o → IsMeaningOfHand p.0 p.1 p.2 o t → Says text t
    hand_says t (Some k) is h = subst (Says text) (sym h) (a_hand k (hand_takes p.0 p.1 k is))
    hand_says t None is h = given_says t (rows_if p.2 p.1) is refl h

  parts_say : (t : Meaning) (o : Option Given) → parts_at words ≡ o → IsMeaningOfRow o t → Says text t
  parts_say t None e h = subst (Says text) (sym h) (no_parts e)
  parts_say t (Some p) e h = hand_says p e t (hand_at p.0 p.1) refl h

says : (text : List ℕ) (t : Meaning) (o : Option Meaning) → is_blank_or_comment text ≡ false → plain_at (tokens_of text) ≡ o → IsMeaningBy o (tokens_of text) t → Says text t
says text t (Some u) kept e h = subst (Says text) (sym h) (says_by text u (plain_takes (tokens_of text) u e))
says text t None kept e h = parts_say text kept e t (parts_at (tokens_of text)) refl h

pub meaning_says : (text : List ℕ) (words : List (List ℕ)) (t : Meaning) → is_blank_or_comment text ≡ false → words ≡ tokens_of text → IsMeaningBy (plain_at words) words t →
    Says text t
meaning_says text words t kept is h =
    says text t (plain_at (tokens_of text)) kept refl (subst (λ (ws : List (List ℕ)). IsMeaningBy (plain_at ws) ws t) is h)
