-- The lines of a session: a command more takes no script away, and a closed session is one of the sessions that it might have been.
use Rattle.nmgc_cycle.proofs.Vocabulary.{ℕ, ◌≡◌, ◌+◌, ◌*◌, ◌<◌, ◌≤◌, ◌++◌, ◌∙◌, List, [], ◌∷◌, length, map, refl, sym, ap, subst, arith, inl, inr, append_assoc, length-map, length-append, All, All-append, All-cons, All-head, All-nil, All-tail, drop, cases_eq, slice_get, slice_get_within, slice_index, true, false, Bool, Some, item, item_map, Fits, Command, Script, program_of, Follows, CommandQueue, Session, with_items}
use Rattle.nmgc_limits.specs.Limits.{most_script_bytes}
use Rattle.nmgc_script.specs.Spelling.{version_3}
use Rattle.nmgc_world_spec.specs.declared.command.Command.TheVariants.{Yield}
use Rattle.nmgc_cycle.specs.{Sessions.HasPushed, Sessions.HasPushedAt, Sessions.HasRoom, Sessions.HavePauses, Sessions.HaveRoomAll, Sessions.IsQueue, Sessions.IsRest, Sessions.IsScriptOfSession, Sessions.IsSession, Sessions.MayComeFirst, Sessions.WithPauses, Sessions.accepted_in, Sessions.first_of, Sessions.left_in, Sessions.next_in, Sessions.pause_in, Sessions.with_pause, laws.Queues.first_is, laws.Queues.pause_fits, laws.Queues.pause_small, laws.Queues.pauses_more, laws.Queues.pauses_push}
use Rattle.nmgc_cycle.proofs.{lists.MutatorLists.vec_back, sessions.Rests.maps_same}

-- a queue without commands
pub empty_queue : (q : CommandQueue) → q.pause ≡ Yield → q.waiting.items ≡ [] → q.accepted ≡ [] → q.answered ≡ [] → q.can_pause ≡ false → IsQueue q
empty_queue q pause waiting accepted answered none = record {
  pause = pause;
  answered_fit = rw (answered) (All-nil (Fits q.words));
  waiting_fit = rw (waiting) (All-nil (Fits q.words));
  few = rw (answered, waiting, none) (omega (arith));
  past = ([], accepted ∙ sym waiting, subst (λ (l : List Command). WithPauses [] l) (sym answered) refl);
}

-- a queue that may give a pause
pub paused_queue : (q : CommandQueue) → IsQueue q → length q.answered + length q.waiting.items + 1 ≤ most_script_bytes → IsQueue (with_pause q)
paused_queue q h room = record {
  pause = h.pause;
  answered_fit = h.answered_fit;
  waiting_fit = h.waiting_fit;
  few = (let long = length-append q.waiting.items (pause_in true) in let small = pause_small true in omega (arith, room, long, small));
  past = h.past;
}

-- an item of a mapped list comes from one
from_mapped : {A B : Type 0} (f : A → B) (xs : List A) (k : ℕ) (y : B) → slice_get (map f xs) k ≡ Some y → (x : A) × (slice_get xs k ≡ Some x) × (f x ≡ y)
from_mapped {A} {B} f xs k y e =
    let within = slice_get_within (map f xs) k y e in
    let count = length-map xs f in
    let x = item xs k (omega (arith, within, count)) in
    let there : slice_get (map f xs) k ≡ Some (f x.0) = item_map f xs k x.0 x.1 in
    (x.0, x.1, (let same : f x.0 ≡ y = cc (there, e) in same))

-- commands that may follow a queue's pause may come first
comes_first : (waiting rest : List Command) → Follows (first_of (waiting ++ pause_in true)) rest → MayComeFirst waiting rest
comes_first [] rest f = let size = ap (λ (l : List Command). length l) f.1 in omega (arith, size)
comes_first (c ∷ waiting) rest f = f

module _ (s : Session) (is : IsSession false s) (open_is : s.is_open ≡ true) where
  -- every queue may give a pause, and the session stays open or is closed
  module _ (b : Bool) (made : Session) (are : made.queues.items ≡ map with_pause s.queues.items) where
    abbrev paused : Session
    paused = record s { queues = made.queues; is_open = b }

    count : length made.queues.items ≡ length s.queues.items
    count = ap (λ (l : List CommandQueue). length l) are ∙ length-map s.queues.items with_pause

    from : (k : ℕ) (r : CommandQueue) → slice_get made.queues.items k ≡ Some r → (q : CommandQueue) × (slice_get s.queues.items k ≡ Some q) × (with_pause q ≡ r)
    from k r e = from_mapped with_pause s.queues.items k r (subst (λ (l : List CommandQueue). slice_get l k ≡ Some r) are e)

    queue_then : (k : ℕ) (r : CommandQueue) → slice_get made.queues.items k ≡ Some r → IsQueue r × (r.words ≡ s.config.words)
    queue_then k r e =
        let q = from k r e in
        let h = is.queues k q.0 q.1 in
        (subst IsQueue q.2 (paused_queue q.0 h.0 (is.room open_is k q.0 q.1)), ap (λ (x : CommandQueue). x.words) (sym q.2) ∙ h.1)

    rest_then : (c : Bool) (q : CommandQueue) (rest : List Command) → IsRest c (with_pause q) rest → MayComeFirst q.waiting.items rest
    rest_then true q rest h = h
    rest_then false q rest h = comes_first q.waiting.items rest h

    script_paused : (t : Script) → IsScriptOfSession paused t → IsScriptOfSession s t
    script_paused t h = record {
      version = h.version;
      config_is = h.config_is;
      count = h.count ∙ count;
      programs = λ k q e.
          let there : slice_get made.queues.items k ≡ Some (with_pause q) =
          subst (λ (l : List CommandQueue). slice_get l k ≡ Some (with_pause q)) (sym are) (item_map with_pause s.queues.items k q e) in
          let own = h.programs k (with_pause q) there in
          (own.0, own.1, subst (λ (c : Bool). IsRest c q own.0) (sym open_is) (rest_then b q own.0 own.2));
      limits = h.limits;
    }

    pub session_paused : IsSession false paused
    session_paused =
        let some = is.some in
        let few = is.few in record {
          config_fits = is.config_fits;
          some = omega (arith, some, count);
          few = omega (arith, few, count);
          total = subst (λ (n : ℕ). s.config.segments * s.config.words + n * s.config.nursery ≤ version_3.heap_words) (sym count) is.total;
          queues = queue_then;
          room = λ e k r there.
              let q = from k r there in
              subst (λ (x : CommandQueue). length x.answered + length x.waiting.items + 1 ≤ most_script_bytes) q.2 (is.room open_is k q.0 q.1);
          positions_are = is.positions_are ∙ sym count;
          positions = λ k r there.
              let q = from k r there in
              is.positions k q.0 q.1 ∙ ap (λ (x : CommandQueue). length x.answered) q.2;
          in_run = λ t h. is.in_run t (script_paused t h);
        }

    pub accepted_paused : accepted_in paused ≡ accepted_in s
    accepted_paused = maps_same (λ (q : CommandQueue). q.accepted) s.queues.items made.queues.items count (λ k q r e f.
        let p = from k r f in
        let there = p.1 in
        let same : p.0 ≡ q = cc (there, e) in
        ap (λ (x : CommandQueue). x.accepted) (sym p.2) ∙ ap (λ (x : CommandQueue). x.accepted) same)

    pub pauses_there : HaveRoomAll s → HavePauses made.queues.items
    pauses_there room k r there =
        let q = from k r there in
        (ap (λ (x : CommandQueue). x.can_pause) (sym q.2), subst HasRoom q.2 (room k q.0 q.1))

  -- one queue was given a command
  module _ (made : Session) (k : ℕ) (c : Command) (q r : CommandQueue) (q_is : slice_get s.queues.items k ≡ Some q)
      (r_is : slice_get made.queues.items k ≡ Some r) (count : length made.queues.items ≡ length s.queues.items)
      (others : (n : ℕ) → (n ≡ k → ⊥) → slice_get made.queues.items n ≡ slice_get s.queues.items n) (pushed : HasPushed c q r) (queue : IsQueue r) (room : HasRoom q) where
    abbrev longer : Session
    longer = record s { queues = made.queues }

    -- a fact of the queue with the command, and of the other queues
    each_queue : (F : CommandQueue → Type 0) → F r → ((n : ℕ) (x : CommandQueue) → slice_get s.queues.items n ≡ Some x → F x) →
        (n : ℕ) (x : CommandQueue) → slice_get made.queues.items n ≡ Some x → F x
    each_queue F own other n x e = elim (cases_eq n k) [
      | inl same ↦
          let there : slice_get made.queues.items n ≡ Some r = subst (λ (i : ℕ). slice_get made.queues.items i ≡ Some r) (sym same) r_is in
          let is_r : r ≡ x = cc (there, e) in
          subst F is_r own
      | inr not ↦ other n x (sym (others n not) ∙ e)
    ]

    words_same : r.words ≡ q.words
    words_same = ap (λ (x : CommandQueue). x.words) pushed.rest

    answered_same : r.answered ≡ q.answered
    answered_same = ap (λ (x : CommandQueue). x.answered) pushed.rest

    first_before : (waiting rest : List Command) → MayComeFirst (waiting ++ c ∷ []) rest → MayComeFirst waiting rest
    first_before [] rest h = let size = ap (λ (l : List Command). length l) h.1 in omega (arith, size)
    first_before (d ∷ waiting) rest h = h

    script_before_push : (t : Script) → IsScriptOfSession longer t → IsScriptOfSession s t
    script_before_push t h = record {
      version = h.version;
      config_is = h.config_is;
      count = h.count ∙ count;
      programs = λ n x e. elim (cases_eq n k) [
        | inl same ↦
            let there : slice_get s.queues.items n ≡ Some q = subst (λ (i : ℕ). slice_get s.queues.items i ≡ Some q) (sym same) q_is in
            let is_q : q ≡ x = cc (there, e) in
            let now : slice_get made.queues.items n ≡ Some r = subst (λ (i : ℕ). slice_get made.queues.items i ≡ Some r) (sym same) r_is in
            let own = h.programs n r now in
            let rest : MayComeFirst r.waiting.items own.0 = subst (λ (b : Bool). IsRest b r own.0) open_is own.2 in
            let first : MayComeFirst q.waiting.items own.0 = first_before q.waiting.items own.0
            (subst (λ (l : List Command). MayComeFirst l own.0) pushed.waiting rest) in
            let program : program_of t.threads n ≡ q.answered ++ own.0 = own.1 ∙ ap (λ (l : List Command). l ++ own.0) answered_same in (
              own.0,
              program ∙ ap (λ (y : CommandQueue). y.answered ++ own.0) is_q,
              subst (λ (b : Bool). IsRest b x own.0) (sym open_is)
                  (subst (λ (y : CommandQueue). MayComeFirst y.waiting.items own.0) is_q first),
            )
        | inr not ↦ h.programs n x (others n not ∙ e)
      ];
      limits = h.limits;
    }

    pub session_pushed : IsSession false longer
    session_pushed =
        let some = is.some in
        let few = is.few in record {
          config_fits = is.config_fits;
          some = omega (arith, some, count);
          few = omega (arith, few, count);
          total = subst (λ (n : ℕ). s.config.segments * s.config.words + n * s.config.nursery ≤ version_3.heap_words) (sym count) is.total;
          queues = each_queue (λ (x : CommandQueue). IsQueue x × (x.words ≡ s.config.words)) (queue, words_same ∙ (is.queues k q q_is).1) is.queues;
          room = λ e. each_queue (λ (x : CommandQueue). length x.answered + length x.waiting.items + 1 ≤ most_script_bytes)
              (let answered = ap (λ (l : List Command). length l) answered_same in
              let waiting = ap (λ (l : List Command). length l) pushed.waiting in
              let sum = length-append q.waiting.items (c ∷ []) in
              omega (arith, room, answered, waiting, sum)) (is.room open_is);
          positions_are = is.positions_are ∙ sym count;
          positions = λ n x e. elim (cases_eq n k) [
            | inl same ↦
                let there : slice_get made.queues.items n ≡ Some r = subst (λ (i : ℕ). slice_get made.queues.items i ≡ Some r) (sym same) r_is in
                let is_r : r ≡ x = cc (there, e) in
                ap (λ (i : ℕ). slice_index s.collector.positions.items i) same ∙ is.positions k q q_is
                ∙ ap (λ (l : List Command). length l) (sym answered_same) ∙ ap (λ (y : CommandQueue). length y.answered) is_r
            | inr not ↦ is.positions n x (sym (others n not) ∙ e)
          ];
          in_run = λ t h. is.in_run t (script_before_push t h);
        }

-- a queue with one more command
pub pushed_queue : (q r : CommandQueue) (c : Command) → IsQueue q → HasRoom q → Fits q.words c → HasPushed c q r → IsQueue r
pushed_queue q r c h room fits p =
    let same : r ≡ record q { waiting = r.waiting; accepted = r.accepted } = p.rest in
    let words : r.words ≡ q.words = ap (λ (x : CommandQueue). x.words) same in
    let answered : r.answered ≡ q.answered = ap (λ (x : CommandQueue). x.answered) same in
    let pause : r.can_pause ≡ q.can_pause = ap (λ (x : CommandQueue). x.can_pause) same in record {
      pause = ap (λ (x : CommandQueue). x.pause) same ∙ h.pause;
      answered_fit = rw (words, answered) h.answered_fit;
      waiting_fit = rw (words, p.waiting) (All-append (Fits q.words) q.waiting.items (c ∷ []) h.waiting_fit
          (All-cons (Fits q.words) c [] fits (All-nil (Fits q.words))));
      few = (let long = ap (λ (l : List Command). length l) p.waiting in
          let sum = length-append q.waiting.items (c ∷ []) in
          let both = length-append r.waiting.items (pause_in r.can_pause) in
          let small = pause_small r.can_pause in
          let size = ap (λ (l : List Command). length l) answered in
          omega (arith, room, long, sum, both, small, size));
      past = (
        h.past.0,
        p.accepted ∙ ap (λ (l : List Command). l ++ c ∷ []) h.past.1 ∙ append_assoc h.past.0 q.waiting.items (c ∷ [])
            ∙ ap (λ (l : List Command). h.past.0 ++ l) (sym p.waiting),
        subst (λ (l : List Command). WithPauses h.past.0 l) (sym answered) h.past.2,
      );
    }

-- a queue whose first command was answered, and one whose pause was answered
pub given_first : (q r : CommandQueue) (c : Command) → IsQueue q → r ≡ record q { waiting = r.waiting; answered = r.answered } →
    q.waiting.items ≡ c ∷ r.waiting.items → r.answered ≡ q.answered ++ c ∷ [] → IsQueue r
given_first q r c h same first answered =
    let words : r.words ≡ q.words = ap (λ (x : CommandQueue). x.words) same in
    let accepted : r.accepted ≡ q.accepted = ap (λ (x : CommandQueue). x.accepted) same in
    let may : r.can_pause ≡ q.can_pause = ap (λ (x : CommandQueue). x.can_pause) same in
    let fit : All (Fits q.words) (c ∷ r.waiting.items) = subst (λ (l : List Command). All (Fits q.words) l) first h.waiting_fit in record {
      pause = ap (λ (x : CommandQueue). x.pause) same ∙ h.pause;
      answered_fit = rw (words, answered) (All-append (Fits q.words) q.answered (c ∷ []) h.answered_fit
          (All-cons (Fits q.words) c [] (All-head (Fits q.words) c r.waiting.items fit) (All-nil (Fits q.words))));
      waiting_fit = rw words (All-tail (Fits q.words) c r.waiting.items fit);
      few = (let few = h.few in
          let long = ap (λ (l : List Command). length l) first in
          let size = ap (λ (l : List Command). length l) answered in
          let sum = length-append q.answered (c ∷ []) in
          let before = length-append q.waiting.items (pause_in q.can_pause) in
          let later = length-append r.waiting.items (pause_in r.can_pause) in
          let same_pause = ap (λ (b : Bool). length (pause_in b)) may in
          omega (arith, few, long, size, sum, before, later, same_pause));
      past = (
        h.past.0 ++ c ∷ [],
        accepted ∙ h.past.1 ∙ ap (λ (l : List Command). h.past.0 ++ l) first ∙ sym (append_assoc h.past.0 (c ∷ []) r.waiting.items),
        subst (λ (l : List Command). WithPauses (h.past.0 ++ c ∷ []) l) (sym answered) (pauses_push h.past.0 q.answered c h.past.2),
      );
    }

drop_same : (l : List Command) → l ≡ drop 1 l → l ≡ []
drop_same [] e = refl
drop_same (c ∷ l) e = absurd (let size = ap (λ (x : List Command). length x) e in omega (arith, size))

pub given_pause : (q r : CommandQueue) (c : Command) → IsQueue q → r ≡ record q { waiting = r.waiting; can_pause = false; answered = r.answered } →
    q.waiting.items ≡ r.waiting.items → r.waiting.items ≡ drop 1 q.waiting.items → next_in q ≡ Some c → r.answered ≡ q.answered ++ q.pause ∷ [] → IsQueue r
given_pause q r c h same left rest next answered =
    let none : q.waiting.items ≡ [] = drop_same q.waiting.items (left ∙ rest) in
    let empty : r.waiting.items ≡ [] = sym left ∙ none in
    let yields : r.answered ≡ q.answered ++ Yield ∷ [] = answered ∙ ap (λ (p : Command). q.answered ++ p ∷ []) h.pause in
    let words : r.words ≡ q.words = ap (λ (x : CommandQueue). x.words) same in
    let accepted : r.accepted ≡ q.accepted = ap (λ (x : CommandQueue). x.accepted) same in
    let may : r.can_pause ≡ false = ap (λ (x : CommandQueue). x.can_pause) same in record {
      pause = ap (λ (x : CommandQueue). x.pause) same ∙ h.pause;
      answered_fit = rw (words, yields) (All-append (Fits q.words) q.answered (Yield ∷ []) h.answered_fit (pause_fits q.words true));
      waiting_fit = rw empty (All-nil (Fits r.words));
      few = (let few = h.few in
          let one = ap (λ (l : List Command). length l) (first_is (left_in q) c next) in
          let size = ap (λ (l : List Command). length l) yields in
          let sum = length-append q.answered (Yield ∷ []) in
          let later = length-append r.waiting.items (pause_in r.can_pause) in
          let gone = ap (λ (l : List Command). length l) empty in
          let no_pause = ap (λ (b : Bool). length (pause_in b)) may in
          omega (arith, few, one, size, sum, later, gone, no_pause));
      past = (
        h.past.0,
        accepted ∙ h.past.1 ∙ ap (λ (l : List Command). h.past.0 ++ l) left,
        subst (λ (l : List Command). WithPauses h.past.0 l) (sym yields) (pauses_more h.past.0 q.answered true h.past.2),
      );
    }

-- all queues, with pauses, back in their list
pub paused_back : (s : Session) (new was : List CommandQueue) → was ≡ s.queues.items → new ≡ map with_pause was →
    (with_items s.queues new).items ≡ map with_pause s.queues.items
paused_back s new was value are =
    let now : new ≡ map with_pause s.queues.items = are ∙ ap (λ (l : List CommandQueue). map with_pause l) value in
    vec_back s.queues new (ap (λ (l : List CommandQueue). length l) now ∙ length-map s.queues.items with_pause) ∙ now

-- the queues with one more command, back in their list
pub pushed_back : (s : Session) → IsSession false s → s.is_open ≡ true → (new : List CommandQueue) (k : ℕ) (c : Command) → k < length s.queues.items →
    ((q : CommandQueue) → slice_get s.queues.items k ≡ Some q → HasRoom q) → HasPushedAt k c s.queues.items new →
    IsSession false (record s { queues = with_items s.queues new })
pushed_back s is open_is new k c lt room h =
    let back : (with_items s.queues new).items ≡ new = vec_back s.queues new h.count in
    let q = item s.queues.items k lt in
    let r = item new k (let n = h.count in omega (arith, lt, n)) in
    let own = h.pushed q.0 r.0 q.1 r.1 in
    session_pushed s is open_is (record s { queues = with_items s.queues new }) k c q.0 r.0 q.1
    (subst (λ (l : List CommandQueue). slice_get l k ≡ Some r.0) (sym back) r.1) (ap (λ (l : List CommandQueue). length l) back ∙ h.count)
    (λ n other. ap (λ (l : List CommandQueue). slice_get l n) back ∙ h.others n other) own.0 own.1 (room q.0 q.1)
