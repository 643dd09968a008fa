-- A round of a session: the collector did it in the run of every script that the session may then turn out to have.
use Rattle.nmgc_cycle.proofs.Vocabulary.{ℕ, ◌≡◌, ◌+◌, ◌<◌, ◌≤◌, ◌*◌, ◌∷◌, ◌++◌, ◌∙◌, List, [], length, refl, sym, ap, subst, arith, inl, inr, append_assoc, length-map, length-append, drop, drop_at, slice_get, slice_get_within, slice_index, option_to_list, true, false, Bool, Some, item, Command, Done, Script, Ended, FitsRun, left_at, Follows, Continues, DidAsk, DidRound, HasEndedItself, HasStopped, HaveTried, MayComeAfter, Collector, CommandQueue, Session, with_items}
use Rattle.nmgc_limits.specs.Limits.{most_script_bytes}
use Rattle.nmgc_script.specs.Spelling.{version_3}
use Rattle.nmgc_world_spec.specs.declared.command.Command.TheVariants.{Yield}
use Rattle.nmgc_cycle.specs.{Sessions.HasSameLines, Sessions.HavePauses, Sessions.IsQueue, Sessions.IsRest, Sessions.IsScriptOfSession, Sessions.IsSession, Sessions.MayComeFirst, Sessions.first_of, Sessions.left_in, Sessions.most_in, Sessions.next_in, Sessions.pause_in, Sessions.program_before, Sessions.script_before, laws.Sessions.mapped_at}
use Rattle.nmgc_cycle.proofs.{lists.MutatorLists.vec_back, rounds.SoFar.follows_waiting, sessions.Leading.Leads, sessions.Leading.Part, sessions.Leading.are_after, sessions.Leading.are_queues, sessions.Leading.before_fits, sessions.Leading.commands_of, sessions.Leading.lead, sessions.Leading.part, sessions.Leading.star, sessions.Leading.star_fits, sessions.Leading.star_leads, sessions.Leading.steps_in, sessions.Leading.words_in_queue, sessions.Rests.maps_same, sessions.SliceEnds.ended_open, sessions.SliceEnds.open_on}

module _ (s : Session) (is : IsSession false s) (pauses : s.is_open ≡ true → HavePauses s.queues.items) where
  -- the script before the round is one that the session may turn out to have
  rest_before : (b : Bool) → s.is_open ≡ b → (k : ℕ) (q : CommandQueue) → slice_get s.queues.items k ≡ Some q → IsRest b q (option_to_list (next_in q))
  rest_before false e k q there = follows_waiting (next_in q)
  rest_before true e k q there = first_comes q.waiting.items q.can_pause (pauses e k q there).0
    where
      first_comes : (waiting : List Command) (b : Bool) → b ≡ true → MayComeFirst waiting (option_to_list (first_of (waiting ++ pause_in b)))
      first_comes [] b e = let one = ap (λ (x : Bool). length (option_to_list (first_of (pause_in x)))) e in omega (arith, one)
      first_comes (c ∷ waiting) b e = ([], refl)

  pub script_then : IsScriptOfSession s (script_before s.config s.queues.items)
  script_then = record {
    version = refl;
    config_is = refl;
    count = length-map s.queues.items program_before;
    programs = λ k q e. (
      option_to_list (next_in q),
      mapped_at program_before [] s.queues.items k q e,
      rest_before s.is_open refl k q e,
    );
    limits = before_fits false s is s.queues.items (are_queues false s is);
  }

  pub stopped_before : HasStopped (script_before s.config s.queues.items) s.collector
  stopped_before = is.in_run (script_before s.config s.queues.items) script_then

  -- a session after a round
  module _ (new : Collector) (made : Session)
      (did : DidAsk next_in steps_in words_in_queue most_in IsQueue (script_before s.config s.queues.items) s.collector new s.queues.items made.queues.items) where
    abbrev after : List CommandQueue
    after = made.queues.items

    abbrev then : Session
    then = record s { collector = new; queues = made.queues }

    -- the round is one of each script to which it leads
    round_of : (t : Script) → Leads false s is after did.done did.gave t → FitsRun t → DidRound t s.collector new × HaveTried t s.collector new
    round_of t leading fits =
        let l = lead false s is after did.done did.gave t leading in
        subst (λ (x : Script). DidRound x s.collector new × HaveTried x s.collector new) l.1
        (did.did l.0 l.2 (subst (λ (x : Script). Continues next_in x s.collector.positions.items after did.done) (sym l.1) l.3)
        (subst FitsRun (sym l.1) fits))

    abbrev first : Script
    first = star false s is after did.done did.gave

    first_round : DidRound first s.collector new × HaveTried first s.collector new
    first_round = round_of first (star_leads false s is after did.done did.gave) (star_fits false s is after did.done did.gave)

    first_count : length first.threads ≡ length s.queues.items
    first_count = length-map after program_before ∙ did.gave.programs

    -- a slice after which the queue may still give its pause ended by itself
    ended_by : (k : ℕ) (p : Part false s is after did.done did.gave k) → p.r.waiting.items ≡ [] → p.r.can_pause ≡ true →
        HasEndedItself s.config.slice (Some Yield) (commands_of p.d) × (0 < length (commands_of p.d))
    ended_by k p none may =
        let lt = slice_get_within s.queues.items k p.q p.q_is in
        let before = first_round.0.1.kept.count in
        let later = first_round.0.0.kept.count in
        let m = item s.collector.mutators.items k (omega (arith, lt, before, first_count)) in
        let n = item new.mutators.items k (omega (arith, lt, later, first_count)) in
        let tried = first_round.1 k m.0 n.0 m.1 n.1 in
        let own = did.positions k p.d p.d_is in
        let also = tried.position in
        let size = length-map p.d (λ (x : Done). x.0) in
        let count : tried.done ≡ length (commands_of p.d) = omega (arith, own, also, size) in
        let next : option_to_list (next_in p.r) ≡ Yield ∷ [] =
        ap (λ (w : List Command). option_to_list (first_of (w ++ pause_in p.r.can_pause))) none
        ∙ ap (λ (b : Bool). option_to_list (first_of (pause_in b))) may in
        let left : left_at first s.collector.positions.items k ≡ commands_of p.d ++ Yield ∷ [] =
        ap (λ (l : List Command). drop (slice_index s.collector.positions.items k) l)
        (mapped_at program_before [] after k p.r p.r_is ∙ ap (λ (l : List Command). l ++ option_to_list (next_in p.r)) p.given.answered
        ∙ append_assoc p.q.answered (commands_of p.d) (option_to_list (next_in p.r)))
        ∙ drop_at p.q.answered (commands_of p.d ++ option_to_list (next_in p.r)) (slice_index s.collector.positions.items k)
        (sym (is.positions k p.q p.q_is)) ∙ ap (λ (l : List Command). commands_of p.d ++ l) next in
        ended_open (commands_of p.d) s.config.slice n.0 tried.end is.config_fits.some_slice
        (subst (λ (i : ℕ). Ended (commands_of p.d ++ Yield ∷ []) s.config.slice i n.0 tried.end) count
        (subst (λ (l : List Command). Ended l s.config.slice tried.done n.0 tried.end) left tried.ended))

    -- commands that may follow in a script of the session afterwards may follow the slice
    goes_on : (b : Bool) → s.is_open ≡ b → (k : ℕ) (p : Part false s is after did.done did.gave k) (rest : List Command) → IsRest b p.r rest →
        MayComeAfter s.config.slice (next_in p.r) (commands_of p.d) rest × (commands_of p.d ≡ [] → Follows (next_in p.r) rest)
    goes_on false e k p rest h = (inl h, λ none. h)
    goes_on true e k p rest h =
        let may = (pauses e k p.q p.q_is).0 in
        let given = p.given in
        open_on s.config.slice p.q.waiting.items p.r.waiting.items p.r.can_pause (commands_of p.d)
        (ap (λ (b : Bool). p.q.waiting.items ++ pause_in b) (sym may) ∙ given.left) (ended_by k p) rest h

    leads_then : (t : Script) → IsScriptOfSession then t → Leads false s is after did.done did.gave t
    leads_then t h = record {
      version = h.version;
      config_is = h.config_is;
      count = h.count ∙ did.gave.programs;
      each = λ k r d e f.
          let within = slice_get_within after k r e in
          let programs = did.gave.programs in
          let p = part false s is after did.done did.gave k (omega (arith, within, programs)) in
          let r_there = p.r_is in
          let d_there = p.d_is in
          let r_same : p.r ≡ r = cc (r_there, e) in
          let d_same : p.d ≡ d = cc (d_there, f) in
          let own = h.programs k p.r p.r_is in
          let on = goes_on s.is_open refl k p own.0 own.2 in (
            own.0,
            own.1 ∙ ap (λ (x : CommandQueue). x.answered ++ own.0) r_same,
            subst (λ (x : CommandQueue). MayComeAfter s.config.slice (next_in x) (commands_of d) own.0) r_same
                (subst (λ (l : List Done). MayComeAfter s.config.slice (next_in p.r) (commands_of l) own.0) d_same on.0),
            λ none. subst (λ (x : CommandQueue). Follows (next_in x) own.0) r_same (on.1 (ap commands_of d_same ∙ none)),
          );
    }

    room_then : s.is_open ≡ true → (k : ℕ) (r : CommandQueue) → slice_get after k ≡ Some r → length r.answered + length r.waiting.items + 1 ≤ most_script_bytes
    room_then e k r there =
        let within = slice_get_within after k r there in
        let programs = did.gave.programs in
        let p = part false s is after did.done did.gave k (omega (arith, within, programs)) in
        let r_there = p.r_is in
        let r_same : p.r ≡ r = cc (r_there, there) in
        let own = pauses e k p.q p.q_is in
        let room = own.1 in
        let left = ap (λ (l : List Command). length l) p.given.left in
        let answered = ap (λ (l : List Command). length l) p.given.answered in
        let before = length-append p.q.waiting.items (pause_in p.q.can_pause) in
        let one = ap (λ (b : Bool). length (pause_in b)) own.0 in
        let sum = length-append (commands_of p.d) (left_in p.r) in
        let later = length-append p.r.waiting.items (pause_in p.r.can_pause) in
        let both = length-append p.q.answered (commands_of p.d) in
        subst (λ (x : CommandQueue). length x.answered + length x.waiting.items + 1 ≤ most_script_bytes) r_same
        (omega (arith, room, left, answered, before, one, sum, later, both))

    positions_then : (k : ℕ) (r : CommandQueue) → slice_get after k ≡ Some r → slice_index new.positions.items k ≡ length r.answered
    positions_then k r there =
        let within = slice_get_within after k r there in
        let programs = did.gave.programs in
        let p = part false s is after did.done did.gave k (omega (arith, within, programs)) in
        let r_there = p.r_is in
        let r_same : p.r ≡ r = cc (r_there, there) in
        let on = did.positions k p.d p.d_is in
        let at = is.positions k p.q p.q_is in
        let answered = ap (λ (l : List Command). length l) p.given.answered in
        let both = length-append p.q.answered (commands_of p.d) in
        let size = length-map p.d (λ (x : Done). x.0) in
        subst (λ (x : CommandQueue). slice_index new.positions.items k ≡ length x.answered) r_same (omega (arith, on, at, answered, both, size))

    -- the session after the round
    pub session_then : IsSession true then
    session_then =
        let count = did.gave.programs in
        let some = is.some in
        let few = is.few in record {
          config_fits = is.config_fits;
          some = omega (arith, some, count);
          few = omega (arith, few, count);
          total = subst (λ (n : ℕ). s.config.segments * s.config.words + n * s.config.nursery ≤ version_3.heap_words) (sym count) is.total;
          queues = (are_after false s is after did.done did.gave).each;
          room = room_then;
          positions_are = first_round.0.0.kept.positions_are ∙ length-map after program_before;
          positions = positions_then;
          in_run = λ t h. inr (round_of t (leads_then t h) h.limits).0.0;
        }

    pub same_lines : HasSameLines s then
    same_lines = record {
      config = refl;
      is_open = refl;
      accepted = maps_same (λ (q : CommandQueue). q.accepted) s.queues.items after did.gave.programs (λ k q r e f.
          let within = slice_get_within s.queues.items k q e in
          let p = part false s is after did.done did.gave k within in
          let q_there = p.q_is in
          let r_there = p.r_is in
          let q_same : p.q ≡ q = cc (q_there, e) in
          let r_same : p.r ≡ r = cc (r_there, f) in
          ap (λ (x : CommandQueue). x.accepted) (sym r_same) ∙ p.given.accepted ∙ ap (λ (x : CommandQueue). x.accepted) q_same);
    }

-- the round of the session, with its queues back in their list
pub asked_back : (s : Session) (is : IsSession false s) → (s.is_open ≡ true → HavePauses s.queues.items) → (new : Collector) (script : Script)
    (was after : List CommandQueue) → script ≡ script_before s.config s.queues.items → was ≡ s.queues.items →
    DidAsk next_in steps_in words_in_queue most_in IsQueue script s.collector new was after →
    IsSession true (record s { collector = new; queues = with_items s.queues after }) ×
    HasSameLines s (record s { collector = new; queues = with_items s.queues after })
asked_back s is pauses new script was after script_is was_is did =
    let here : DidAsk next_in steps_in words_in_queue most_in IsQueue (script_before s.config s.queues.items) s.collector new s.queues.items after =
    subst (λ (l : List CommandQueue). DidAsk next_in steps_in words_in_queue most_in IsQueue (script_before s.config s.queues.items) s.collector new l after) was_is
    (subst (λ (x : Script). DidAsk next_in steps_in words_in_queue most_in IsQueue x s.collector new was after) script_is did) in
    let back : (with_items s.queues after).items ≡ after = vec_back s.queues after here.gave.programs in
    let made : Session = record s { queues = with_items s.queues after } in
    let there : DidAsk next_in steps_in words_in_queue most_in IsQueue (script_before s.config s.queues.items) s.collector new s.queues.items made.queues.items =
    subst (λ (l : List CommandQueue). DidAsk next_in steps_in words_in_queue most_in IsQueue (script_before s.config s.queues.items) s.collector new s.queues.items l)
    (sym back) here in
    (session_then s is pauses new made there, same_lines s is pauses new made there)
