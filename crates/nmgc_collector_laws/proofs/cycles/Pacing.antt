-- The bounds of a closing, by the pace of marking.
use Rattle.nmgc_collector_laws.proofs.{Vocabulary.◌≡◌, Vocabulary.◌+◌, Vocabulary.ℕ, Vocabulary.List, Vocabulary.[], Vocabulary.◌∷◌, Vocabulary.length, Vocabulary.map, Vocabulary.refl, Vocabulary.sym, Vocabulary.ap, Vocabulary.◌∙◌, Vocabulary.arith, Vocabulary.inl, Vocabulary.inr, Vocabulary.cases_lt, Vocabulary.Name, Vocabulary.shared_name, Vocabulary.contains_head, Vocabulary.Entry, Vocabulary.newest_first, Vocabulary.opening_in, Vocabulary.Place, Vocabulary.IsStrongObject, Vocabulary.Counts, Vocabulary.AreAt, Vocabulary.one_more, Vocabulary.within_rounds, Vocabulary.others_counted, Vocabulary.IsOnce, Vocabulary.once_runs, Vocabulary.once_opening, Vocabulary.ClosingIsSoon, Vocabulary.ClosingComes, Vocabulary.ClosingIsPaced, cycles.Strong.IsExactlyStrong, cycles.Strong.Strong, cycles.Strong.exactly_strong}
use Rattle.nmgc_collector_laws.proofs.Vocabulary.{◌≤◌, ◌-◌, ◌*◌, true, false, subst, Contains, IsWorld, IsRoot, World, Event, Runs, Core, IsAhead, queued, IsSome, node_of, contains_tail, nothing_in, facts_kept, snapshot_theorem, Cycle}
use Rattle.nmgc_world_spec.specs.Reach.{AreDistinct, HoldsThroughout}
use Rattle.nmgc_lists.specs.laws.Items.{contains_cases}
use Rattle.nmgc_world_laws.specs.laws.Distinct.{no_more}
use Rattle.nmgc_run_spec.specs.Run.{HoldsOnce, IsMet, owed as owed_before}
use Rattle.nmgc_snapshot_laws.specs.{Facts.unmarked, laws.MarkedOnce.marked_runs, laws.Openings.slot_marked, laws.Steady.field_read}
use Rattle.nmgc_collector_laws.specs.{Closes.WaitingIsPaced, Collector.HasFound, Marker.IsCoreOf}
use Rattle.nmgc_mark.specs.Seen.{MarkerSeen}

pub closing_is_soon : ClosingIsSoon
closing_is_soon quota c t seen kept h more counts = elim (cases_lt (c.from + 1) t.number) [
  | inr soon ↦ inl soon
  | inl later ↦ let one = h.some later in let scanned = h.scanned in inr (kept, counts, omega arith)
]

pub closing_comes : ClosingComes
closing_comes = within_rounds

-- nothing waits if nothing waits at any place
none_waits : (places : List Place) (entries : List Entry) → AreAt places [] (map (λ (entry : Entry). entry.name) entries) → entries ≡ []
none_waits places [] h = refl
none_waits places (entry ∷ entries) h = absurd h

-- if nothing waits, no field of a marked object is ahead
not_ahead : (core : Core) (name : Name) (i : ℕ) → core.queue ≡ [] → Contains core.marked name → IsAhead core name i → ⊥
not_ahead core name i empty here (unmarked k) = k here
not_ahead core name i empty here (queued entry k is le) = nothing_in entry (subst (λ (l : List Entry). Contains l entry) empty k)

-- if nothing waits, all that is steady is marked
steady_marked : (c : Cycle) → IsWorld c.snapshot → (es : List Event) (core : Core) → Runs (opening_in newest_first c.snapshot) es c.rows core → core.is_closed ≡ false →
    core.queue ≡ [] → ((n : Name) → Contains (owed_before c.snapshot c.earlier) n → IsSome (node_of c.snapshot n) → Contains core.marked n) →
    (n : Name) → IsMet HoldsThroughout c n → Contains core.marked n
steady_marked c is es core runs running empty handed n (IsMet.root _ r) =
    let same : core.snapshot ≡ c.snapshot = ((snapshot_theorem newest_first c.snapshot is es c.rows core runs).before running).snapshot in
    (facts_kept newest_first c.snapshot is es c.rows core runs running).roots n (subst (λ (w : World). IsRoot w n) (sym same) r)
steady_marked c is es core runs running empty handed n (IsMet.handed _ k there) = handed n k there
steady_marked c is es core runs running empty handed n (IsMet.slot _ r) =
    marked_runs (opening_in newest_first c.snapshot) es c.rows core runs running n (slot_marked newest_first c.snapshot is n r)
steady_marked c is es core runs running empty handed n (IsMet.field from _ i steady other holds there) =
    let here : Contains core.marked from = steady_marked c is es core runs running empty handed from steady in
    elim (field_read from i n newest_first c.snapshot is es c.rows core runs running holds) [
      | inl k ↦ k
      | inr ahead ↦ absurd (not_ahead core from i empty here ahead)
    ]

-- the marked names except g
module _ (core : Core) (o : IsOnce core) where
  once_others : (Contains o.others shared_name → ⊥) × AreDistinct o.others
  once_others = subst AreDistinct o.marked_are o.once

  among_others : (n : Name) → (n ≡ shared_name → ⊥) → Contains core.marked n → Contains o.others n
  among_others n other k = elim (contains_cases shared_name o.others n (subst (λ (l : List Name). Contains l n) o.marked_are k)) [
    | inl g ↦ absurd (other (sym g))
    | inr rest ↦ rest
  ]

  other_marked : (n : Name) → Contains o.others n → Contains core.marked n × (n ≡ shared_name → ⊥)
  other_marked n k = (
    subst (λ (l : List Name). Contains l n) (sym o.marked_are) (contains_tail shared_name o.others n k),
    λ e. once_others.0 (subst (λ (x : Name). Contains o.others x) e k),
  )

  other_count : length core.marked ≡ length o.others + 1
  other_count = ap (λ (l : List Name). length l) o.marked_are ∙ (omega arith)

some_waits : (l : List ℕ) → (l ≡ [] → ⊥) → 1 ≤ length l
some_waits [] some = absurd (some refl)
some_waits (n ∷ l) some = omega arith

pub waiting_is_paced : WaitingIsPaced
waiting_is_paced quota c t seen after paced more =
    let full : seen.work.scanned ≡ quota = elim paced.quota_or_done [
      | inl k ↦ k
      | inr done ↦ absurd (let bad : true ≡ false = sym done ∙ more in cc)
    ] in
    let waits : 1 ≤ length seen.marker.queue = some_waits seen.marker.queue (λ none.
    let bad : true ≡ false = sym ((paced.empty).1 none) ∙ more in cc) in
    let scanned = paced.scanned in let rounds = one_more t.number c.from quota after in
    paced.found ((t.number - c.from) * quota) (omega arith)

-- the marks of a machine that are all of found objects
pub marks_found : (c : Cycle) (w : World) (core : Core) → IsCoreOf c w core → ((n : Name) → Contains core.marked n → IsMet HoldsOnce c n) →
    (marker : MarkerSeen) → marker.marked + 1 ≡ length core.marked → HasFound c marker
marks_found c w core m met marker counted count less =
    let o : IsOnce core = once_runs (opening_in newest_first c.snapshot) m.events c.rows core m.runs m.open_yet (once_opening newest_first c.snapshot) in
    let long = other_count core o in (
      o.others,
      (once_others core o).1,
      λ n k. let here = other_marked core o n k in (met n here.0, here.1),
      omega arith,
    )

pub closing_is_paced : ClosingIsPaced
closing_is_paced quota c t seen allocation places core sound m tied after paced empty = record {
  after = after;
  steady = λ names once all.
      let queue : seen.marker.queue ≡ [] = (paced.empty).0 empty in
      let waits : core.queue ≡ [] = none_waits places core.queue (rw queue at tied.queue) in
      let o : IsOnce core = once_runs (opening_in newest_first c.snapshot) m.events c.rows core m.runs m.open_yet (once_opening newest_first c.snapshot) in
      let few : length names ≤ length o.others = no_more names o.others once (λ n k.
      among_others core o n (all n k).1 (steady_marked c sound.world m.events core m.runs m.open_yet waits m.handed n (all n k).0)) in
      let long = other_count core o in
      let counted = tied.count in
      let none_left : length seen.marker.queue ≡ 0 = ap (λ (l : List ℕ). length l) queue in
      let scanned = paced.scanned in let most = paced.most in let more = one_more t.number c.from quota after in
      omega arith;
  work = λ none.
      let queue : seen.marker.queue ≡ [] = (paced.empty).0 empty in
      let waits : core.queue ≡ [] = none_waits places core.queue (rw queue at tied.queue) in
      let e : IsExactlyStrong c.snapshot sound.world core = exactly_strong c.snapshot sound.world m.events c.rows core m.runs m.open_yet none waits in
      let o : IsOnce core = once_runs (opening_in newest_first c.snapshot) m.events c.rows core m.runs m.open_yet (once_opening newest_first c.snapshot) in
      let long : length core.marked ≡ length o.others + 1 = ap (λ (l : List Name). length l) o.marked_are ∙ (omega arith) in
      let counted = tied.count in
      let all : Counts (IsStrongObject c.snapshot) (length o.others) =
      others_counted (Strong c.snapshot sound.world) shared_name core.marked o.once (rw o.marked_are (contains_head shared_name o.others)) e.sound e.complete (length o.others) (sym long) in
      let none_left : length seen.marker.queue ≡ 0 = ap (λ (l : List ℕ). length l) queue in
      let scanned = paced.scanned in let most = paced.most in let more = one_more t.number c.from quota after in
      (length o.others, all, omega arith);
}
