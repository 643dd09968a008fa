use Rattle.nmgc_mark.proofs.{Vocabulary.◌≡◌, Vocabulary.◌≤◌, Vocabulary.◌∙◌, Vocabulary.refl, Vocabulary.sym, Vocabulary.arith, Vocabulary.true, Vocabulary.scanned_by, Vocabulary.entry_now, Vocabulary.has_results, Vocabulary.marked_none, Scanning.can_scan, Scanning.header_there, Fields.header_known, Fields.result_there, Fields.result_set, Fields.result_unset, Fields.field_within, Fields.next_field, Fields.no_result, Fields.with_result, Fields.marked_more, marker.Marker.scan.Goals.then-is_thunk+else-result-ne0, marker.Marker.scan.Goals.else-is_thunk}
use Rattle.nmgc_mark.proofs.marker.Marker.scan.Goals as goal

pub load-requires : goal.load-requires
load-requires g c =
    let r = c.requires.scanning in
    let l = r.2.tied.snapshot.apart.inside (record { at = c.args.at.0; name = _ }) r.2.there in
    let can = can_scan r.0 c.args.segments.now c.args.self.now c.args.at.0 0 0 r.2 refl in
    (c.args.source.now, r.0, r.1, can, omega arith)

pub header_of-header-requires : goal.header_of-header-requires
header_of-header-requires g c =
    let r = c.requires.scanning in
    let s = c.args.segments.now in
    let m = c.args.self.now in
    let l = c.load.ensures c.args.source.now r.0 r.1 (can_scan r.0 s m c.args.at.0 0 0 r.2 refl) in
    header_there r.0 s m c.args.at.0 c.load.result r.2 l.1

pub scan_field-result-requires-clause-scanning : goal.scan_field-result-requires-clause-scanning
scan_field-result-requires-clause-scanning g c =
    let r = c.requires.scanning in
    let s = c.args.segments.now in
    let m = c.args.self.now in
    let header = c.header_of-header.result in
    let fields = c.fields_scanned-fields.result in
    let l = c.load.ensures c.args.source.now r.0 r.1 (can_scan r.0 s m c.args.at.0 0 0 r.2 refl) in
    let t = header_known r.0 s m c.args.at.0 c.load.result fields header r.2 l.1 c.header_of-header.ensures c.fields_scanned-fields.ensures in
    let lt = result_there r.0.opening (entry_now r.0).name header fields t.0 (sym c.is_thunk.ensures ∙ c.if-is_thunk.true)
    c.fields_scanned-fields.ensures in (
      c.args.source.now,
      scanned_by r.0 c.load.result,
      l.0,
      (t.1.more lt).0,
      field_within r.0 (scanned_by r.0 c.load.result) s m c.args.at.0 fields 0 header t.0 t.1 lt c.fields_scanned-fields.ensures,
    )

pub returns-then-result-ne0-clause-done : goal.returns-then-result-ne0-clause-done
returns-then-result-ne0-clause-done g c = λ v shows h.
    let s = c.args.segments.now in
    let m = c.args.self.now in
    let header = c.header_of-header.result in
    let fields = c.fields_scanned-fields.result in
    let thunk = sym c.is_thunk.ensures ∙ c.if-is_thunk.true in
    let l = c.load.ensures c.args.source.now v shows (can_scan v s m c.args.at.0 0 0 h refl) in
    let t = header_known v s m c.args.at.0 c.load.result fields header h l.1 c.header_of-header.ensures c.fields_scanned-fields.ensures in
    let lt = result_there v.opening (entry_now v).name header fields t.0 thunk c.fields_scanned-fields.ensures in
    let u = scanned_by v c.load.result in
    let w = c.scan_field-result.result in
    let f = c.scan_field-result.ensures.tied c.args.source.now u l.0 (t.1.more lt).0 in
    let tied = with_result v u s c.scan_field-result.new.segments m c.scan_field-result.new.self c.args.at.0 w fields 0 header t.0 t.1 lt
    c.fields_scanned-fields.ensures f.1 (result_set header.kind w thunk c.if-result-ne0.true) in
    (scanned_by u w, f.0, record { opening = refl; tied = tied })

pub loop-field-init : goal.loop-field-init
loop-field-init g c =
    let s = c.args.segments.now in
    let m = c.args.self.now in
    let header = c.header_of-header.result in
    let fields = c.fields_scanned-fields.result in
    elim c.if-is_thunk.branch [
      | then-is_thunk+else-result-ne0 w ↦ record {
        marked = rw (w.segments-is, w.self-is) w.scan_field-result.ensures.marked;
        turns = rw w.self-is w.scan_field-result.ensures.turns;
        each = λ v shows h.
            let l = c.load.ensures c.args.source.now v shows (can_scan v s m c.args.at.0 0 0 h refl) in
            let t = header_known v s m c.args.at.0 c.load.result fields header h l.1 c.header_of-header.ensures c.fields_scanned-fields.ensures in
            let lt = result_there v.opening (entry_now v).name header fields t.0 (sym c.is_thunk.ensures ∙ w.if-is_thunk.true)
            c.fields_scanned-fields.ensures in
            let u = scanned_by v c.load.result in
            let f = w.scan_field-result.ensures.tied c.args.source.now u l.0 (t.1.more lt).0 in
            rw (w.source-is, w.segments-is, w.self-is, w.first-is) (
              scanned_by u w.scan_field-result.result,
              f.0,
              next_field v u s w.scan_field-result.new.segments m w.scan_field-result.new.self c.args.at.0 w.scan_field-result.result fields 0
                  header t.0 t.1 lt c.fields_scanned-fields.ensures f.1 (result_unset header.kind w.scan_field-result.result w.if-result-ne0.false),
            );
      }
      | else-is_thunk w ↦ record {
        marked = rw (w.segments-is, w.self-is) (marked_none s m c.requires.room);
        turns = rw w.self-is refl;
        each = λ v shows h.
            let l = c.load.ensures c.args.source.now v shows (can_scan v s m c.args.at.0 0 0 h refl) in
            let t = header_known v s m c.args.at.0 c.load.result fields header h l.1 c.header_of-header.ensures c.fields_scanned-fields.ensures in
            rw (w.source-is, w.segments-is, w.self-is, w.first-is) (scanned_by v c.load.result, l.0, t.1);
      }
    ]

pub scan_field-requires-clause-room : goal.scan_field-requires-clause-room
scan_field-requires-clause-room g c = c.loop-field.invariant.marked.room

pub scan_field-requires-clause-scanning : goal.scan_field-requires-clause-scanning
scan_field-requires-clause-scanning g c =
    let r = c.requires.scanning in
    let s = c.args.segments.now in
    let m = c.args.self.now in
    let l = c.load.ensures c.args.source.now r.0 r.1 (can_scan r.0 s m c.args.at.0 0 0 r.2 refl) in
    let t = header_known r.0 s m c.args.at.0 c.load.result c.fields_scanned-fields.result c.header_of-header.result r.2 l.1 c.header_of-header.ensures
    c.fields_scanned-fields.ensures in
    let u = c.loop-field.invariant.each r.0 r.1 r.2 in (
      c.args.source.now,
      u.0,
      u.1,
      (u.2.more c.loop-field-test.true).0,
      field_within r.0 u.0 c.loop-field.segments c.loop-field.self c.args.at.0 c.fields_scanned-fields.result c.loop-field.field
          c.header_of-header.result t.0 u.2 c.loop-field-test.true c.fields_scanned-fields.ensures,
    )

pub loop-field-preserved : goal.loop-field-preserved
loop-field-preserved g c =
    let s = c.args.segments.now in
    let m = c.args.self.now in
    let inv = c.loop-field.invariant in
    let kind = c.header_of-header.result.kind in
    let past : has_results kind ≡ true → 1 ≤ c.loop-field.field = λ thunk. elim c.if-is_thunk.branch [
      | then-is_thunk+else-result-ne0 w ↦
          let one = w.first-is in
          let from = c.loop-field.auto.field in
          omega (arith, one, from)
      | else-is_thunk w ↦ let other = sym c.is_thunk.ensures ∙ w.if-is_thunk.false in absurd cc
    ] in
    record {
      marked = marked_more s c.loop-field.segments c.scan_field.new.segments m c.loop-field.self c.scan_field.new.self inv.marked c.scan_field.ensures.marked;
      turns = c.scan_field.ensures.turns ∙ inv.turns;
      each = λ v shows h.
          let l = c.load.ensures c.args.source.now v shows (can_scan v s m c.args.at.0 0 0 h refl) in
          let t = header_known v s m c.args.at.0 c.load.result c.fields_scanned-fields.result c.header_of-header.result h l.1 c.header_of-header.ensures
          c.fields_scanned-fields.ensures in
          let u = inv.each v shows h in
          let f = c.scan_field.ensures.tied c.args.source.now u.0 u.1 (u.2.more c.loop-field-test.true).0 in (
            scanned_by u.0 c.scan_field.result,
            f.0,
            next_field v u.0 c.loop-field.segments c.scan_field.new.segments c.loop-field.self c.scan_field.new.self c.args.at.0 c.scan_field.result
                c.fields_scanned-fields.result c.loop-field.field c.header_of-header.result t.0 u.2 c.loop-field-test.true
                c.fields_scanned-fields.ensures f.1
                (no_result kind c.loop-field.field c.scan_field.result past),
          );
    }

pub returns-clause-done : goal.returns-clause-done
returns-clause-done g c = λ v shows h.
    let u = c.loop-field.invariant.each v shows h in
    (u.0, u.1, record { opening = u.2.opening; tied = u.2.last c.loop-field-test.false })
