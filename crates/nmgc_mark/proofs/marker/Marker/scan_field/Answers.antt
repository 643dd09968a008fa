use Rattle.nmgc_mark.proofs.{Vocabulary.◌+◌, Vocabulary.arith, Vocabulary.subst, Vocabulary.IsLayout, Vocabulary.marks_seen, Vocabulary.rest_of, Fields.total_small, Scanning.can_scan, Scanning.field_offset}
use Rattle.nmgc_mark.proofs.marker.Marker.scan_field.Goals as goal

pub load-word-requires : goal.load-word-requires
load-word-requires g c =
    let r = c.requires.scanning in
    let can = can_scan r.1 c.args.segments.now c.args.self.now c.args.at.0 (c.args.field + 1) (2 + c.args.field) r.3 (field_offset c.args.field) in
    let within = r.4 in
    (r.0, r.1, r.2, can, omega arith)

pub mark_word-requires-clause-small : goal.mark_word-requires-clause-small
mark_word-requires-clause-small g c = λ at e.
    let r = c.requires.scanning in
    let can = can_scan r.1 c.args.segments.now c.args.self.now c.args.at.0 (c.args.field + 1) (2 + c.args.field) r.3 (field_offset c.args.field) in
    let l = (c.load-word.ensures r.0 r.1 r.2 can).1.safe (let s = r.3.stands in omega arith) at e in
    let t = total_small r.1.opening.layout (subst IsLayout r.3.tied.snapshot.layout c.layout.ensures.sound.layout) in
    omega (arith, l, t)

pub returns-clause-tied : goal.returns-clause-tied
returns-clause-tied g c = λ first v shows h.
    let can = can_scan v c.args.segments.now c.args.self.now c.args.at.0 (c.args.field + 1) (2 + c.args.field) h (field_offset c.args.field) in
    ((c.load-word.ensures first v shows can).0, c.mark_word.ensures.tied v.opening (rest_of (marks_seen v)) h.tied)
