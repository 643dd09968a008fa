-- The queue of a mutator's commands in a session: its next command, and the queue after a reply.
use Rattle.std.proofs.Common.{ℕ, ◌≡◌, ◌<◌, ◌≤◌, ◌++◌, List, [], ◌∷◌, length, map, drop, refl, sym, ap, subst, ◌∙◌, arith, inl, inr, append_assoc, append-nil, None, Some}
use Rattle.std.specs.Prelude.{All, Bool, true, false, option_to_list}
use Rattle.std.proofs.lemmas.List.{Elements.All-append, Elements.All-cons, Elements.All-head, Elements.All-nil}
use Rattle.nmgc_world_spec.specs.{declared.command.Command.Command, declared.command.Command.TheVariants.Yield, declared.command.Reply.Reply, World.Fits}
use Rattle.nmgc_mutator.specs.Programs.{Follows, Gives}
use Rattle.nmgc_collector_laws.specs.Worked.{Done}
use Rattle.nmgc_cycle.specs.{declared.command_queue.CommandQueue.CommandQueue, Sessions.HasGiven, Sessions.IsQueue, Sessions.WithPauses, Sessions.first_of, Sessions.left_in, Sessions.most_in, Sessions.next_in, Sessions.pause_in}

-- a pause fits each heap
pub pause_fits : (words : ℕ) (b : Bool) → All (Fits words) (pause_in b)
pause_fits words true = All-cons (Fits words) Yield [] (record { registers = tt; numbers = tt; size = omega arith }) (All-nil (Fits words))
pause_fits words false = All-nil (Fits words)

pub pause_small : (b : Bool) → length (pause_in b) ≤ 1
pause_small true = omega arith
pause_small false = omega arith

-- the first command of a list
pub first_fits : (words : ℕ) (l : List Command) (c : Command) → All (Fits words) l → first_of l ≡ Some c → Fits words c × (0 < length l)
first_fits words [] c all e = absurd (let bad : None ≡ Some c = e in cc)
first_fits words (d ∷ l) c all e = let same : d ≡ c = cc in (subst (Fits words) same (All-head (Fits words) d l all), omega arith)

pub first_follows : (l : List Command) → Follows (first_of l) l
first_follows [] = refl
first_follows (c ∷ l) = (l, refl)

pub first_is : (l : List Command) (c : Command) → first_of l ≡ Some c → l ≡ c ∷ drop 1 l
first_is [] c e = absurd (let bad : None ≡ Some c = e in cc)
first_is (d ∷ l) c e = let same : d ≡ c = cc in ap (λ (x : Command). x ∷ l) same

pub first_fits_list : (words : ℕ) (l : List Command) → All (Fits words) l → All (Fits words) (option_to_list (first_of l))
first_fits_list words [] h = All-nil (Fits words)
first_fits_list words (c ∷ l) h = All-cons (Fits words) c [] (All-head (Fits words) c l h) (All-nil (Fits words))

pub first_small : (l : List Command) → length (option_to_list (first_of l)) ≤ length l
first_small [] = omega arith
first_small (c ∷ l) = omega arith

-- the commands that a queue still gives fit
pub left_fits : (q : CommandQueue) → IsQueue q → All (Fits q.words) (left_in q)
left_fits q h = All-append (Fits q.words) q.waiting.items (pause_in q.can_pause) h.waiting_fit (pause_fits q.words q.can_pause)

-- a queue's next command fits, and the queue may give it
pub queue_waits : (q : CommandQueue) (c : Command) → IsQueue q → next_in q ≡ Some c → Fits q.words c × (0 < most_in q)
queue_waits q c h e = first_fits q.words (left_in q) c (left_fits q h) e

-- commands with pauses: more pauses behind them, more commands behind them, and no pauses
pub pauses_more : (commands program : List Command) (b : Bool) → WithPauses commands program → WithPauses commands (program ++ pause_in b)
pauses_more commands [] true h = inr (refl, h)
pauses_more commands [] false h = h
pauses_more commands (c ∷ program) b (inl h) = inl (h.0, h.1, pauses_more h.0 program b h.2)
pauses_more commands (c ∷ program) b (inr h) = inr (h.0, pauses_more commands program b h.1)

pub pauses_push : (commands program : List Command) (c : Command) → WithPauses commands program → WithPauses (commands ++ c ∷ []) (program ++ c ∷ [])
pauses_push commands [] c h = inl ([], ap (λ (l : List Command). l ++ c ∷ []) h, refl)
pauses_push commands (d ∷ program) c (inl h) = inl (h.0 ++ c ∷ [], ap (λ (l : List Command). l ++ c ∷ []) h.1, pauses_push h.0 program c h.2)
pauses_push commands (d ∷ program) c (inr h) = inr (h.0, pauses_push commands program c h.1)

pub pauses_none : (commands : List Command) → WithPauses commands commands
pauses_none [] = refl
pauses_none (c ∷ commands) = inl (commands, refl, pauses_none commands)

pub pauses_join : (given answered waiting : List Command) → WithPauses given answered → WithPauses (given ++ waiting) (answered ++ waiting)
pauses_join given [] waiting h = subst (λ (l : List Command). WithPauses (l ++ waiting) waiting) (sym h) (pauses_none waiting)
pauses_join given (c ∷ answered) waiting (inl h) = inl (h.0 ++ waiting, ap (λ (l : List Command). l ++ waiting) h.1, pauses_join h.0 answered waiting h.2)
pauses_join given (c ∷ answered) waiting (inr h) = inr (h.0, pauses_join given answered waiting h.1)

-- the accepted commands of a queue, with the pauses that were given
pub paused_now : (q : CommandQueue) → IsQueue q → WithPauses q.accepted (q.answered ++ q.waiting.items)
paused_now q h = subst (λ (l : List Command). WithPauses l (q.answered ++ q.waiting.items)) (sym h.past.1)
    (pauses_join h.past.0 q.answered q.waiting.items h.past.2)

-- a queue gave these commands: they were the first that it had left, and they are among those that were answered
pub record HasGivenAll (q : CommandQueue) (d : List Done) (r : CommandQueue) : Type 0 where
  pub left : left_in q ≡ map (λ (x : Done). x.0) d ++ left_in r
  pub answered : r.answered ≡ q.answered ++ map (λ (x : Done). x.0) d
  pub accepted : r.accepted ≡ q.accepted

pub given_all : (d : List Done) (q r : CommandQueue) → Gives next_in (λ (a : CommandQueue) (reply : Reply) (b : CommandQueue). HasGiven a b) q d r →
    HasGivenAll q d r
given_all [] q r h = record {
  left = ap left_in h;
  answered = ap (λ (x : CommandQueue). x.answered) (sym h) ∙ sym (append-nil q.answered);
  accepted = ap (λ (x : CommandQueue). x.accepted) (sym h);
}
given_all ((c, reply) ∷ d) q r h =
    let more = given_all d h.0 r h.3 in
    let step = h.2 in record {
      left = first_is (left_in q) c h.1 ∙ ap (λ (l : List Command). c ∷ l) (sym step.left ∙ more.left);
      answered = more.answered ∙ ap (λ (l : List Command). l ++ map (λ (x : Done). x.0) d) (step.answered c h.1)
          ∙ append_assoc q.answered (c ∷ []) (map (λ (x : Done). x.0) d);
      accepted = more.accepted ∙ step.accepted;
    }
