-- The meaning of a line behind the head, from the tests that judge it.
use Rattle.std.proofs.Common.{ℕ, zero, suc, ◌≡◌, ◌≢◌, ◌+◌, ◌-◌, ◌<◌, ◌≤◌, ◌⊎◌, ◌++◌, List, [], ◌∷◌, length, refl, sym, ap, subst, ◌∙◌, arith, inl, inr, Option, Some}
use Rattle.std.proofs.lemmas.{Bool.cases_lt, Option.slice_get_within}
use Rattle.std.specs.Prelude.{All, Bool, true, false, codes, decimal, slice_get, Err}
use Rattle.nmgc_lists.specs.laws.Items.{item}
use Rattle.nmgc_limits.specs.Limits.{most_script_bytes}
use Rattle.nmgc_io.specs.declared.ends.ReadEnd.{ReadEnd}
use Rattle.nmgc_io.specs.declared.ends.ReadEnd.TheVariants as read
use Rattle.nmgc_script.specs.declared.fault.Cause.TheVariants as cause
use Rattle.nmgc_cycle.specs.{declared.command_queue.CommandQueue.CommandQueue, declared.session.Session.Session, Sessions.HasRoom, Sessions.HaveRoom}
use Rattle.nmgc_live.specs.{Lines.IsNextLine, Lines.ReadsLine, Lines.ReadsShort, Meanings.HasToGive, Meanings.IsBad, Meanings.IsFor, Meanings.IsFullIn, Meanings.IsJudged, Meanings.IsNextJudged, Meanings.IsNoLine, Meanings.IsRoundJudged, Meanings.IsWordFault, Refusals.read_refusal, declared.lines.LineReader.LineReader, declared.options.Options.Options, declared.refusal.Fault.Fault, declared.session.LineLimits.LineLimits, declared.session.Judged.Judged}
use Rattle.nmgc_live.specs.declared.refusal.Fault.TheVariants as fault
use Rattle.nmgc_live.specs.declared.session.Judged.TheVariants as judged

-- a line's number is a mutator's
pub line_is_for : (count most m : ℕ) (line number rest : List ℕ) → most ≡ count - 1 → 1 ≤ count → line ≡ number ++ 32 ∷ rest → number ≡ decimal m → m ≤ most →
    IsFor count line m rest
line_is_for count most m line number rest most_is some e n le = (e ∙ ap (λ (l : List ℕ). l ++ 32 ∷ rest) n, omega (arith, most_is, some, le))

-- a line of one word
pub word_bad : (words count most : ℕ) (has_help : Bool) (F : ℕ → Type 0) (line : List ℕ) (f : Fault) → most ≡ count - 1 → 1 ≤ count → HasToGive has_help line →
    All (λ b. b ≢ 32) line → IsWordFault most line f → IsBad words count has_help F line f
word_bad words count most has_help F line f most_is some give all (inl h) = subst (IsBad words count has_help F line) (sym h.0)
    (give, inr (inl (refl, (h.1.0, h.1.1, (let le = h.1.2 in omega (arith, most_is, some, le))))))
word_bad words count most has_help F line f most_is some give all (inr h) = subst (IsBad words count has_help F line) (sym h.0)
    (give, inr (inr (refl, (line, inl refl, all, λ m lt. h.1 m (omega (arith, most_is, some, lt))))))

-- a line whose first token is no mutator's number
pub number_bad : (words count most : ℕ) (has_help : Bool) (F : ℕ → Type 0) (line number rest : List ℕ) → most ≡ count - 1 → 1 ≤ count → HasToGive has_help line →
    line ≡ number ++ 32 ∷ rest → All (λ b. b ≢ 32) number → ((m : ℕ) → m ≤ most → number ≢ decimal m) →
    IsBad words count has_help F line (fault.Script cause.Thread)
number_bad words count most has_help F line number rest most_is some give e all none =
    (give, inr (inr (refl, (number, inr (rest, e), all, λ m lt. none m (omega (arith, most_is, some, lt))))))

-- a mutator whose queue has no room
pub full_in : (s : Session) (m : ℕ) (b : Bool) → m < length s.queues.items → b ≡ false →
    ((q : CommandQueue) → slice_get s.queues.items m ≡ Some q → (HasRoom q → b ≡ true)) → IsFullIn s m
full_in s m b lt none room = let q = item s.queues.items m lt in (q.0, q.1, λ h. (let yes = room q.0 q.1 h in let is_false = none in cc))

-- some queue has no room, if not all have
room_by : (q : CommandQueue) → HasRoom q ⊎ (HasRoom q → ⊥)
room_by q = by_order (length q.answered + length q.waiting.items + 2) most_script_bytes
  where
    by_order : (m n : ℕ) → (m ≤ n) ⊎ (m ≤ n → ⊥)
    by_order m n = elim (cases_lt n m) [ inl lt ↦ inr (λ le. omega (arith, le, lt)) | inr le ↦ inl le ]

full_among : (queues : List CommandQueue) → (HaveRoom queues → ⊥) → (m : ℕ) × ((q : CommandQueue) × (slice_get queues m ≡ Some q) × (HasRoom q → ⊥))
full_among [] some_full = absurd (some_full (λ k q e. absurd (none_there k q e)))
  where
    none_there : (k : ℕ) (q : CommandQueue) → slice_get [] k ≡ Some q → ⊥
    none_there k q e = cc
full_among (q ∷ queues) some_full = elim (room_by q) [
  | inr full ↦ (0, (q, refl, full))
  | inl room ↦
      let rest = full_among queues (λ all. some_full (each room all)) in
      (suc rest.0, (rest.1.0, rest.1.1, rest.1.2))
]
  where
    each : HasRoom q → HaveRoom queues → HaveRoom (q ∷ queues)
    each room all zero r e = (let same : q ≡ r = cc in subst HasRoom same room)
    each room all (suc k) r e = all k r e

pub round_full : (s : Session) → (HaveRoom s.queues.items → ⊥) → IsRoundJudged s (judged.Bad fault.TooMany)
round_full s some_full =
    let some = full_among s.queues.items some_full in
    (refl, (some.0, slice_get_within s.queues.items some.0 some.1.0 some.1.1, some.1))

-- the line `round`
pub round_judged : (words count : ℕ) (has_help : Bool) (s : Session) (line : List ℕ) (j : Judged) → count ≡ length s.queues.items → line ≡ codes "round" →
    IsRoundJudged s j → IsJudged words count has_help s s line j
round_judged words count has_help s line judged.Round same e h = (refl, e, h)
round_judged words count has_help s line (judged.Bad f) same e h = (
  refl,
  subst (IsBad words count has_help (IsFullIn s) line) (sym h.0)
      (inl (e, (h.1.0, (let lt = h.1.1 in omega (arith, lt, same)), h.1.2))),
)
round_judged words count has_help s line judged.Quiet same e h = elim h [ ]
round_judged words count has_help s line judged.Added same e h = elim h [ ]
round_judged words count has_help s line judged.End same e h = elim h [ ]
round_judged words count has_help s line judged.Help same e h = elim h [ ]

-- a reader's answer that is no line
pub no_line : (old new : LineReader) (before now : Option (List ℕ)) (end : ReadEnd) → IsNextLine old new before now (Err end) → IsNoLine old before now (read_refusal end)
no_line old new before now read.ReadFault q = q
no_line old new before now read.TooLong q = q
no_line old new before now read.NoMemory q = q

-- a line that was read and judged
pub line_read : (o : Options) (heap : LineLimits) (before now : LineReader) (left_old left_new : Option (List ℕ)) (old new : Session) (j : Judged) →
    ReadsShort before now left_old left_new now.line.items → IsJudged heap.words heap.count o.has_prompts old new now.line.items j →
    IsNextJudged o heap before now left_old left_new old new j
line_read o heap before now left_old left_new old new judged.Quiet q h = (h.0, (now.line.items, q, h.1))
line_read o heap before now left_old left_new old new judged.Added q h = (now.line.items, q, h)
line_read o heap before now left_old left_new old new judged.Round q h = (h.0, subst (ReadsLine before now left_old left_new) h.1 q.0, h.2)
line_read o heap before now left_old left_new old new judged.End q h = (h.0, inl (subst (ReadsLine before now left_old left_new) h.1 q.0))
line_read o heap before now left_old left_new old new judged.Help q h = (h.0, subst (ReadsLine before now left_old left_new) h.1 q.0, h.2)
line_read o heap before now left_old left_new old new (judged.Bad f) q h = (h.0, inl (now.line.items, q.0, h.1))
