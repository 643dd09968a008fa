-- Lawful transcripts: a session that reads lines is open, and the report among its text is the text of its events.
use Rattle.std.proofs.Common.{ℕ, ◌≡◌, ◌<◌, ◌++◌, List, [], ◌∷◌, refl, sym, ap, subst, ◌∙◌, append_assoc, append-nil, inl, inr, Option, None, Some}
use Rattle.std.specs.Prelude.{Bool, true, codes}
use Rattle.std.specs.Io.KnownBytes.{IsAtEnd}
use Rattle.nmgc_script.specs.declared.script.Script.{Script}
use Rattle.nmgc_cycle.specs.{EventTexts.event_text, EventTexts.events_text, EventTexts.next_round, declared.observer.Event.Event}
use Rattle.nmgc_cycle.specs.declared.observer.Event.TheVariants as event
use Rattle.nmgc_live.specs.{Lines.fed, Meanings.IsBad, Played.IsPlayed, Transcripts.Transcript, Transcripts.Bad, Transcripts.Begin, Transcripts.Close, Transcripts.CutOff, Transcripts.Did, Transcripts.Given, Transcripts.HasNoStopDue, Transcripts.Head, Transcripts.InHead, Transcripts.Phase, Transcripts.Quiet, Transcripts.Reading, Transcripts.Ready, Transcripts.Round, Transcripts.RoundDue, Transcripts.Start, Transcripts.StopDue, Transcripts.Stopped, Transcripts.TakesLine, Transcripts.closed_by, Transcripts.events_of, Transcripts.is_open, Transcripts.phase_of, Transcripts.report_in, Transcripts.round_of, declared.options.Options.Options, declared.refusal.Fault.Fault}
use Rattle.nmgc_live.specs.declared.refusal.Fault.TheVariants as fault

-- an open session was closed by nothing
pub open_by : (t : Transcript) → is_open t ≡ true → closed_by t ≡ None
open_by Start e = refl
open_by (Head t line) e = open_by t e
open_by (Begin t) e = open_by t e
open_by (Quiet t line) e = open_by t e
open_by (Given t line m c) e = open_by t e
open_by (Bad t line f) e = open_by t e
open_by (CutOff t part) e = open_by t e
open_by (Round t) e = open_by t e
open_by (Close t bytes) e = absurd cc
open_by (Did t d) e = open_by t e
open_by (Ready t) e = open_by t e

-- a session that takes lines is open
pub takes_open : (o : Options) (head : Script) (t : Transcript) → IsPlayed o head t → TakesLine t → is_open t ≡ true
takes_open o head Start p h = refl
takes_open o head (Head t line) p h = takes_open o head t p.0 (inl p.1)
takes_open o head (Begin t) p h = absurd (elim h [ inl e ↦ cc | inr e ↦ cc ])
takes_open o head (Quiet t line) p h = takes_open o head t p.0 (inr p.1)
takes_open o head (Given t line m c) p h = takes_open o head t p.0 (inr p.1)
takes_open o head (Bad t line f) p h = takes_open o head t p.0 h
takes_open o head (CutOff t part) p h = takes_open o head t p.0 h
takes_open o head (Round t) p h = absurd (elim h [ inl e ↦ cc | inr e ↦ cc ])
takes_open o head (Close t bytes) p h = absurd (elim h [ inl e ↦ cc | inr e ↦ cc ])
takes_open o head (Did t (event.Stop row cycles)) p h = absurd (elim h [ inl e ↦ cc | inr e ↦ cc ])
takes_open o head (Did t (event.Round rows)) p h = absurd (elim h [ inl e ↦ cc | inr e ↦ cc ])
takes_open o head (Ready t) p h = p.2

-- no stop is due if a line comes next
pub takes_whole : (t : Transcript) → TakesLine t → HasNoStopDue t
takes_whole t (inl e) due = (let f = sym e ∙ due in cc)
takes_whole t (inr e) due = (let f = sym e ∙ due in cc)

-- an input that closed no session needn't have ended
pub not_ended : (t : Transcript) (now : Option (List ℕ)) → is_open t ≡ true → closed_by t ≡ Some [] → IsAtEnd now
not_ended t now e f = absurd (let none = open_by t e in cc)

pub fed_some : (line : List ℕ) → fed line ≡ [] → ⊥
fed_some [] e = cc
fed_some (b ∷ line) e = cc

-- the number of the next round behind events
abbrev round_after : ℕ → List Event → ℕ
round_after n [] = n
round_after n (e ∷ events) = round_after (next_round n e) events

text_on : (n : ℕ) (events : List Event) (e : Event) → events_text n (events ++ e ∷ []) ≡ events_text n events ++ event_text (round_after n events) e
text_on n [] e = append-nil (event_text n e)
text_on n (d ∷ events) e = ap (λ (l : List ℕ). event_text n d ++ l) (text_on (next_round n d) events e)
    ∙ sym (append_assoc (event_text n d) (events_text (next_round n d) events) (event_text (round_after (next_round n d) events) e))

round_on : (n : ℕ) (events : List Event) (e : Event) → round_after n (events ++ e ∷ []) ≡ next_round (round_after n events) e
round_on n [] e = refl
round_on n (d ∷ events) e = round_on (next_round n d) events e

round_is : (t : Transcript) → round_of t ≡ round_after 0 (events_of t)
round_is Start = refl
round_is (Head t line) = round_is t
round_is (Begin t) = round_is t
round_is (Quiet t line) = round_is t
round_is (Given t line m c) = round_is t
round_is (Bad t line f) = round_is t
round_is (CutOff t part) = round_is t
round_is (Round t) = round_is t
round_is (Close t bytes) = round_is t
round_is (Did t e) = ap (λ (n : ℕ). next_round n e) (round_is t) ∙ sym (round_on 0 (events_of t) e)
round_is (Ready t) = round_is t

-- the report so far is its first line and the text of the events; in the head there is none
abbrev Shows : Transcript → Type 0
Shows t = report_in t ≡ codes "report 1\n" ++ events_text 0 (events_of t)

abbrev ShowsIn : Phase → Transcript → Type 0
ShowsIn InHead t = (report_in t ≡ []) × (events_of t ≡ [])
ShowsIn StopDue t = Shows t
ShowsIn Stopped t = Shows t
ShowsIn Reading t = Shows t
ShowsIn RoundDue t = Shows t

shows_same : (p : Phase) (t u : Transcript) → report_in u ≡ report_in t → events_of u ≡ events_of t → ShowsIn p t → ShowsIn p u
shows_same InHead t u r e h = (r ∙ h.0, e ∙ h.1)
shows_same StopDue t u r e h = r ∙ h ∙ ap (λ (l : List Event). codes "report 1\n" ++ events_text 0 l) (sym e)
shows_same Stopped t u r e h = r ∙ h ∙ ap (λ (l : List Event). codes "report 1\n" ++ events_text 0 l) (sym e)
shows_same Reading t u r e h = r ∙ h ∙ ap (λ (l : List Event). codes "report 1\n" ++ events_text 0 l) (sym e)
shows_same RoundDue t u r e h = r ∙ h ∙ ap (λ (l : List Event). codes "report 1\n" ++ events_text 0 l) (sym e)

shows_on : (t : Transcript) (e : Event) → Shows t → Shows (Did t e)
shows_on t e h = ap (λ (l : List ℕ). l ++ event_text (round_of t) e) h
    ∙ append_assoc (codes "report 1\n") (events_text 0 (events_of t)) (event_text (round_of t) e)
    ∙ ap (λ (n : ℕ). codes "report 1\n" ++ (events_text 0 (events_of t) ++ event_text n e)) (round_is t)
    ∙ ap (λ (l : List ℕ). codes "report 1\n" ++ l) (sym (text_on 0 (events_of t) e))

shows : (o : Options) (head : Script) (t : Transcript) → IsPlayed o head t → ShowsIn (phase_of t) t
shows o head Start p = (refl, refl)
shows o head (Head t line) p = subst (λ (q : Phase). ShowsIn q t) p.1 (shows o head t p.0)
shows o head (Begin t) p =
    let q : ShowsIn InHead t = subst (λ (q : Phase). ShowsIn q t) p.1 (shows o head t p.0) in
    ap (λ (l : List ℕ). l ++ codes "report 1\n") q.0 ∙ sym (append-nil (codes "report 1\n"))
    ∙ ap (λ (l : List Event). codes "report 1\n" ++ events_text 0 l) (sym q.1)
shows o head (Quiet t line) p = subst (λ (q : Phase). ShowsIn q t) p.1 (shows o head t p.0)
shows o head (Given t line m c) p = subst (λ (q : Phase). ShowsIn q t) p.1 (shows o head t p.0)
shows o head (Bad t line f) p = shows_same (phase_of t) t (Bad t line f) refl refl (shows o head t p.0)
shows o head (CutOff t part) p = shows_same (phase_of t) t (CutOff t part) refl refl (shows o head t p.0)
shows o head (Round t) p = subst (λ (q : Phase). ShowsIn q t) p.1 (shows o head t p.0)
shows o head (Close t bytes) p = subst (λ (q : Phase). ShowsIn q t) p.1 (shows o head t p.0)
shows o head (Did t (event.Stop row cycles)) p =
    shows_on t (event.Stop row cycles) (subst (λ (q : Phase). ShowsIn q t) p.1 (shows o head t p.0))
shows o head (Did t (event.Round rows)) p = shows_on t (event.Round rows) (elim p.1 [
  | inl due ↦ subst (λ (q : Phase). ShowsIn q t) due (shows o head t p.0)
  | inr closed ↦ subst (λ (q : Phase). ShowsIn q t) closed.0 (shows o head t p.0)
])
shows o head (Ready t) p = subst (λ (q : Phase). ShowsIn q t) p.1 (shows o head t p.0)

-- the report behind a stop
pub shown : (o : Options) (head : Script) (t : Transcript) → IsPlayed o head t → phase_of t ≡ Stopped → report_in t ≡ codes "report 1\n" ++ events_text 0 (events_of t)
shown o head t p e = subst (λ (q : Phase). ShowsIn q t) e (shows o head t p)

-- a line is bad for the same fault, if others are as full
pub bad_for : (words count : ℕ) (has_help : Bool) (F G : ℕ → Type 0) → ((m : ℕ) → m < count → F m → G m) → (line : List ℕ) (f : Fault) →
    IsBad words count has_help F line f → IsBad words count has_help G line f
bad_for words count has_help F G each line (fault.Script c) h = h
bad_for words count has_help F G each line fault.Line h = h
bad_for words count has_help F G each line fault.TooMany (inl h) = inl (h.0, (h.1.0, h.1.1, each h.1.0 h.1.1 h.1.2))
bad_for words count has_help F G each line fault.TooMany (inr h) = inr (h.0, (h.1.0, h.1.1, each h.0 h.1.1.1.1 h.1.2))
