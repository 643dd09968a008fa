-- Scans change only marks and queue, mark more, and keep the facts.
use Rattle.nmgc_weak.proofs.Vocabulary.{◌≡◌, List, [], ◌∷◌, ◌++◌, refl, sym, ap, subst, ◌∙◌, append-nil, append_assoc, Option, Some, None, is_some, not, and_parts, not-true, not_listed, Name, Value, IsWorld, node_of, Facts, after_scan, advanced, read_at, State, mark_name, mark_value, mark_read, is_listed, mark_cases, scan_facts, Happening, did, scanned, replay, AreDistinct, distinct_push, AreScans}
use Rattle.nmgc_snapshot_laws.specs.declared.event.Entry.{Entry}
use Rattle.nmgc_world_spec.specs.declared.value.Value.TheVariants as value

-- only marks and queue differ, and more is marked
pub record MarksMore (s t : State) : Type 0 where
  pub more : List Name
  pub marked : t.marked ≡ s.marked ++ more
  pub rest : t ≡ record s { marked = t.marked; queue = t.queue }
  pub once : AreDistinct s.marked → AreDistinct t.marked

same_marks : (s : State) → MarksMore s s
same_marks s = record { more = []; marked = sym (append-nil s.marked); rest = refl; once = λ o. o }

then_marks : (s t u : State) → MarksMore s t → MarksMore t u → MarksMore s u
then_marks s t u a b = record {
  more = a.more ++ b.more;
  marked = b.marked ∙ ap (λ (l : List Name). l ++ b.more) a.marked ∙ append_assoc s.marked a.more b.more;
  rest = b.rest ∙ ap (λ (x : State). let y : State = record x { marked = u.marked; queue = u.queue } in y) a.rest;
  once = λ o. b.once (a.once o);
}

pub name_marks : (s : State) (name : Name) → MarksMore s (mark_name s name)
name_marks s name = mark_cases (MarksMore s) s name (λ e. record {
  more = name ∷ [];
  marked = refl;
  rest = refl;
  once = λ o. distinct_push s.marked name o (not_listed name s.marked
      (not-true (is_listed name s.marked) (and_parts (is_some (node_of s.snapshot name)) (not (is_listed name s.marked)) e).1));
}) (λ e. same_marks s)

value_marks : (s : State) (v : Value) → MarksMore s (mark_value s v)
value_marks s value.Nil = same_marks s
value_marks s (value.Number n) = same_marks s
value_marks s (value.Ref name) = name_marks s name

read_marks : (s : State) (x : Option Value) → MarksMore s (mark_read s x)
read_marks s None = same_marks s
read_marks s (Some v) = value_marks s v

queue_marks : (s : State) (queue : List Entry) → MarksMore s (record s { queue = queue })
queue_marks s queue = record { more = []; marked = sym (append-nil s.marked); rest = refl; once = λ o. o }

scan_marks : (s : State) (queue : List Entry) → MarksMore s (after_scan s queue)
scan_marks s [] = same_marks s
scan_marks s (entry ∷ rest) =
    let from : State = record s { queue = rest } in
    let read : Option Value = read_at (node_of s.world entry.name) entry.position in
    let t : State = mark_read from read in
    then_marks s from (advanced t entry) (queue_marks s rest)
    (then_marks from t (advanced t entry) (read_marks from read) (queue_marks t (advanced t entry).queue))

pub scans_mark : (s : State) (es : List Happening) → AreScans es → MarksMore s (replay s es)
scans_mark s [] h = same_marks s
scans_mark s (did m c r ∷ es) h = absurd h
scans_mark s (scanned entry v ∷ es) h =
    then_marks s (after_scan s s.queue) (replay (after_scan s s.queue) es) (scan_marks s s.queue) (scans_mark (after_scan s s.queue) es h)

same_world : (s t : State) → MarksMore s t → IsWorld s.world → IsWorld t.world
same_world s t m w = subst IsWorld (sym (ap (λ (x : State). x.world) m.rest)) w

pub scans_facts : (s : State) (es : List Happening) → AreScans es → Facts s → IsWorld s.world → Facts (replay s es)
scans_facts s [] h f w = f
scans_facts s (did m c r ∷ es) h f w = absurd h
scans_facts s (scanned entry v ∷ es) h f w =
    scans_facts (after_scan s s.queue) es h (scan_facts s f w s.queue refl) (same_world s (after_scan s s.queue) (scan_marks s s.queue) w)
