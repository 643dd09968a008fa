-- A line of format 1 is read as its text says, and in no other way.
use Rattle.nmgc_trace_checker.proofs.Vocabulary.{◌≡◌, ◌<◌, ℕ, List, [], ◌∷◌, refl, sym, ap, subst, ◌∙◌, inl, inr, true, false, codes, decimal, Option, Some, None, bytes_eq, same_Some, none-some, Name, Command, Reply, Event, IsName, tokens_of, is_blank_or_comment, spaced, command_words, name_text, reply_text, ◌>>=◌, name_at, bind_some, guard_some, name_reads, chosen, Line, byte_at, count_line_at, mark_line_at, push_line_at, scan_line_at, take_line_at, close_line_at, drain_line_at, marker_line_at, plain_line_at, parts_at, IsCommandOf, IsLineCommand, IsLineGiven, IsLineBy, IsMutators, IsReply, given_words, IsGiven, IsTakeOf, SaysCore, SaysLine}
use Rattle.nmgc_snapshot_laws.specs.declared.event.Event.TheVariants as core
use Rattle.nmgc_trace_checker.specs.declared.line.Line.TheVariants as line
use Rattle.nmgc_trace_checker.proofs.{WordReads.Given, WordReads.is_word, WordReads.byte_takes, WordReads.byte_again, WordReads.parts_takes, WordReads.parts_again, Sayings.command_said}

-- LINES WITH A KEYWORD

-- the line that tokens say, if they say any
abbrev SaysBy : List (List ℕ) → Line → Type 0
SaysBy words (line.Mutators count) = IsMutators words count
SaysBy words line.Mark = words ≡ codes "mark" ∷ []
SaysBy words (line.Event e) = SaysCore words e
SaysBy words (line.Take m name) = IsTakeOf words m name
SaysBy words line.Drain = words ≡ codes "drain" ∷ []
SaysBy words _ = ⊥

count_takes : (words : List (List ℕ)) (l : Line) → count_line_at words ≡ Some l → SaysBy (codes "mutators" ∷ words) l
unfolding count_line_at
count_takes (w ∷ []) l e =
    let b = bind_some (byte_at w) (λ n. Some (line.Mutators n)) l e in
    let n = byte_takes w b.0 b.1 in
    subst (SaysBy (codes "mutators" ∷ w ∷ [])) (same_Some (line.Mutators b.0) l b.2) (n.1, ap (λ (x : List ℕ). codes "mutators" ∷ x ∷ []) n.0)
count_takes _ l e = absurd cc

mark_takes : (words : List (List ℕ)) (l : Line) → mark_line_at words ≡ Some l → SaysBy (codes "mark" ∷ words) l
unfolding mark_line_at
mark_takes [] l e = subst (SaysBy (codes "mark" ∷ [])) (same_Some line.Mark l e) refl
mark_takes (w ∷ ws) l e = absurd cc

push_takes : (words : List (List ℕ)) (l : Line) → push_line_at words ≡ Some l → SaysBy (codes "push" ∷ words) l
unfolding push_line_at
push_takes (w ∷ []) l e =
    let b = bind_some (byte_at w) (λ m. Some (line.Event (core.Push m))) l e in
    let n = byte_takes w b.0 b.1 in
    subst (SaysBy (codes "push" ∷ w ∷ [])) (same_Some (line.Event (core.Push b.0)) l b.2) (n.1, ap (λ (x : List ℕ). codes "push" ∷ x ∷ []) n.0)
push_takes _ l e = absurd cc

scan_takes : (words : List (List ℕ)) (l : Line) → scan_line_at words ≡ Some l → SaysBy (codes "scan" ∷ words) l
unfolding scan_line_at
scan_takes [] l e = subst (SaysBy (codes "scan" ∷ [])) (same_Some (line.Event core.Scan) l e) refl
scan_takes (w ∷ ws) l e = absurd cc

take_takes : (words : List (List ℕ)) (l : Line) → take_line_at words ≡ Some l → SaysBy (codes "take" ∷ words) l
unfolding take_line_at
take_takes (w ∷ v ∷ []) l e =
    let a = bind_some (byte_at w) (λ m. name_at v >>= λ n. Some (line.Take m n)) l e in
    let b = bind_some (name_at v) (λ n. Some (line.Take a.0 n)) l a.2 in
    let m = byte_takes w a.0 a.1 in
    let n = name_reads.takes v b.0 b.1 in
    let first : w ≡ decimal a.0 = m.0 in
    let second : v ≡ name_text b.0 = n.0 in
    let whole : codes "take" ∷ w ∷ v ∷ [] ≡ codes "take" ∷ decimal a.0 ∷ name_text b.0 ∷ [] = cc in
    subst (SaysBy (codes "take" ∷ w ∷ v ∷ [])) (same_Some (line.Take a.0 b.0) l b.2) (m.1, n.1, whole)
take_takes _ l e = absurd cc

close_takes : (words : List (List ℕ)) (l : Line) → close_line_at words ≡ Some l → SaysBy (codes "close" ∷ words) l
unfolding close_line_at
close_takes [] l e = subst (SaysBy (codes "close" ∷ [])) (same_Some (line.Event core.Close) l e) refl
close_takes (w ∷ ws) l e = absurd cc

drain_takes : (words : List (List ℕ)) (l : Line) → drain_line_at words ≡ Some l → SaysBy (codes "drain" ∷ words) l
unfolding drain_line_at
drain_takes [] l e = subst (SaysBy (codes "drain" ∷ [])) (same_Some line.Drain l e) refl
drain_takes (w ∷ ws) l e = absurd cc

-- the first token is this keyword
at_word : (word text : List ℕ) (words : List (List ℕ)) (l : Line) → bytes_eq word text ≡ true → SaysBy (text ∷ words) l → SaysBy (word ∷ words) l
at_word word text words l e h = subst (λ (w : List ℕ). SaysBy (w ∷ words) l) (sym (is_word word text e)) h

marker_takes : (word : List ℕ) (words : List (List ℕ)) (l : Line) → marker_line_at word words ≡ Some l → SaysBy (word ∷ words) l
unfolding marker_line_at
marker_takes word words l e = elim (chosen (bytes_eq word (codes "scan")) (scan_line_at words) _ (Some l) e) [
  | inl p ↦ at_word word (codes "scan") words l p.0 (scan_takes words l p.1)
  | inr p ↦ elim (chosen (bytes_eq word (codes "take")) (take_line_at words) _ (Some l) p.1) [
    | inl q ↦ at_word word (codes "take") words l q.0 (take_takes words l q.1)
    | inr q ↦ elim (chosen (bytes_eq word (codes "close")) (close_line_at words) _ (Some l) q.1) [
      | inl r ↦ at_word word (codes "close") words l r.0 (close_takes words l r.1)
      | inr r ↦
          let g = guard_some (bytes_eq word (codes "drain")) (drain_line_at words) l r.1 in
          at_word word (codes "drain") words l g.0 (drain_takes words l g.1)
    ]
  ]
]

plain_takes : (words : List (List ℕ)) (l : Line) → plain_line_at words ≡ Some l → SaysBy words l
unfolding plain_line_at
plain_takes [] l e = absurd cc
plain_takes (word ∷ words) l e = elim (chosen (bytes_eq word (codes "mutators")) (count_line_at words) _ (Some l) e) [
  | inl p ↦ at_word word (codes "mutators") words l p.0 (count_takes words l p.1)
  | inr p ↦ elim (chosen (bytes_eq word (codes "mark")) (mark_line_at words) _ (Some l) p.1) [
    | inl q ↦ at_word word (codes "mark") words l q.0 (mark_takes words l q.1)
    | inr q ↦ elim (chosen (bytes_eq word (codes "push")) (push_line_at words) _ (Some l) q.1) [
      | inl r ↦ at_word word (codes "push") words l r.0 (push_takes words l r.1)
      | inr r ↦ marker_takes word words l r.1
    ]
  ]
]

-- each such line is read again
at_words : (words other : List (List ℕ)) (l : Line) → words ≡ other → plain_line_at other ≡ Some l → plain_line_at words ≡ Some l
at_words words other l e h = subst (λ (ws : List (List ℕ)). plain_line_at ws ≡ Some l) (sym e) h

count_again : (n : ℕ) → n < 256 → plain_line_at (codes "mutators" ∷ decimal n ∷ []) ≡ Some (line.Mutators n)
unfolding plain_line_at count_line_at
count_again n lt = rw (byte_again n lt) refl

mark_again : plain_line_at (codes "mark" ∷ []) ≡ Some line.Mark
unfolding plain_line_at mark_line_at
mark_again = refl

push_again : (m : ℕ) → m < 256 → plain_line_at (codes "push" ∷ decimal m ∷ []) ≡ Some (line.Event (core.Push m))
unfolding plain_line_at push_line_at
push_again m lt = rw (byte_again m lt) refl

scan_again : plain_line_at (codes "scan" ∷ []) ≡ Some (line.Event core.Scan)
unfolding plain_line_at marker_line_at scan_line_at
scan_again = refl

take_again : (m : ℕ) (name : Name) → m < 256 → IsName name → plain_line_at (codes "take" ∷ decimal m ∷ name_text name ∷ []) ≡ Some (line.Take m name)
unfolding plain_line_at marker_line_at take_line_at
take_again m name lt h = rw (byte_again m lt, name_reads.again name h) refl

close_again : plain_line_at (codes "close" ∷ []) ≡ Some (line.Event core.Close)
unfolding plain_line_at marker_line_at close_line_at
close_again = refl

drain_again : plain_line_at (codes "drain" ∷ []) ≡ Some line.Drain
unfolding plain_line_at marker_line_at drain_line_at
drain_again = refl

-- THE MEANING OF A LINE

says_by : (text : List ℕ) (l : Line) → SaysBy (tokens_of text) l → SaysLine text l
says_by text line.Blank h = absurd h
says_by text line.Unknown h = absurd h
says_by text _ h = h

module _ (text : List ℕ) (kept : is_blank_or_comment text ≡ false) (none : plain_line_at (tokens_of text) ≡ None) where
  abbrev words : List (List ℕ)
  words = tokens_of text

  never : (l : Line) → plain_line_at words ≡ Some l → ⊥
  never l e = none-some l (sym none ∙ e)

  no_event : ((m : ℕ) (c : Command) (answer : Reply) → IsGiven words m c answer → ⊥) → (e : Event) → SaysCore words e → ⊥
  no_event given (core.Command m c answer) h = given m c answer h
  no_event given (core.Push m) h = never (line.Event (core.Push m)) (at_words words (codes "push" ∷ decimal m ∷
      []) (line.Event (core.Push m)) h.1 (push_again m h.0))
  no_event given core.Scan h = never (line.Event core.Scan) (at_words words (codes "scan" ∷ []) (line.Event core.Scan) h scan_again)
  no_event given (core.Take m) h = h
  no_event given core.Close h = never (line.Event core.Close) (at_words words (codes "close" ∷ []) (line.Event core.Close) h close_again)

  -- a text that is no line of a trace
  nothing : ((m : ℕ) (c : Command) (answer : Reply) → IsGiven words m c answer → ⊥) → SaysLine text line.Unknown
  nothing given = record {
    kept = kept;
    mutators = λ n h. never (line.Mutators n) (at_words words (codes "mutators" ∷ decimal n ∷ []) (line.Mutators n) h.1 (count_again n h.0));
    mark = λ h. never line.Mark (at_words words (codes "mark" ∷ []) line.Mark h mark_again);
    event = no_event given;
    take = λ m name h. never (line.Take m name) (at_words words (codes "take" ∷ decimal m ∷ name_text name ∷
        []) (line.Take m name) h.2 (take_again m name h.0 h.1));
    drain = λ h. never line.Drain (at_words words (codes "drain" ∷ []) line.Drain h drain_again);
  }

  no_parts : parts_at words ≡ None → SaysLine text line.Unknown
  no_parts e = nothing (λ m c answer h.
      none-some (m, command_words c, answer) (sym e ∙ ap parts_at h.words_are ∙ parts_again m (command_words c) answer h.mutator h.reply))

  module _ (p : Given) (e : parts_at words ≡ Some p) where
    read : (p.0 < 256) × IsReply p.2 × (words ≡ given_words p.0 p.1 (reply_text p.2))
    read = parts_takes words p e

    a_command : (c : Command) → IsCommandOf p.1 c → IsGiven words p.0 c p.2
    a_command c is = record {
      mutator = read.0;
      fits = is.0;
      reply = read.1;
      words_are = read.2 ∙ ap (λ (ws : List (List ℕ)). given_words p.0 ws (reply_text p.2)) (command_said text p.0 p.1 (reply_text p.2) c read.2 is);
    }

    no_command : ((c : Command) → IsCommandOf p.1 c → ⊥) → SaysLine text line.Unknown
    no_command never_one = nothing (λ m c answer h.
        let same : (m, command_words c, answer) ≡ p =
        same_Some (m, command_words c, answer) p (sym (parts_again m (command_words c) answer h.mutator h.reply) ∙ sym (ap parts_at h.words_are) ∙ e) in
        never_one c (h.fits, ap (λ (q : Given). spaced q.1) (sym same)))

    given_says : (l : Line) → IsLineCommand p.0 p.1 p.2 l → SaysLine text l
    given_says l (inl h) = subst (SaysLine text) (sym h.1) (a_command h.0 h.2)
    given_says l (inr h) = subst (SaysLine text) (sym h.0) (no_command h.1)

  parts_say : (l : Line) (o : Option Given) → parts_at words ≡ o → IsLineGiven o l → SaysLine text l
  parts_say l None e h = subst (SaysLine text) (sym h) (no_parts e)
  parts_say l (Some p) e h = given_says p e l h

says : (text : List ℕ) (l : Line) (o : Option Line) → is_blank_or_comment text ≡ false → plain_line_at (tokens_of text) ≡ o → IsLineBy o (tokens_of text) l →
    SaysLine text l
says text l (Some u) kept e h = subst (SaysLine text) (sym h) (says_by text u (plain_takes (tokens_of text) u e))
says text l None kept e h = parts_say text kept e l (parts_at (tokens_of text)) refl h

pub line_says : (text : List ℕ) (words : List (List ℕ)) (l : Line) → is_blank_or_comment text ≡ false → words ≡ tokens_of text → IsLineBy (plain_line_at words) words l →
    SaysLine text l
line_says text words l kept is h =
    says text l (plain_line_at (tokens_of text)) kept refl (subst (λ (ws : List (List ℕ)). IsLineBy (plain_line_at ws) ws l) is h)
