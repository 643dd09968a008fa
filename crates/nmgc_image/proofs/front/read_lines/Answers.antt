use Rattle.nmgc_image.proofs.{Vocabulary.Bool, Vocabulary.subst, Vocabulary.Name, Vocabulary.LineFault, Vocabulary.test_of, Vocabulary.Halts, Steps.starts, Steps.goes_on, Steps.stops}
use Rattle.nmgc_image.proofs.front.read_lines.Goals as goal

pub line-init : goal.line-init
line-init c = rw (c.new-reader.ensures, c.requires) (starts (test_of c.args.known.now) c.args.lines.now.rest.now)

pub line-preserved : goal.line-preserved
line-preserved c = goes_on (test_of c.args.known.now) c.args.lines.now.rest.now c.line.reader c.take_next.new.reader c.line.lines.number
    c.take_next.new.lines.number c.line.lines.rest.now c.take_next.new.lines.rest.now c.line.invariant c.in-Ok.ensures.0 c.in-Ok.ensures.1

pub line-smaller : goal.line-smaller
line-smaller c = c.in-Ok.ensures.0.less

pub returns-in-Err-Bad : goal.returns-in-Err-Bad
returns-in-Err-Bad c =
    let d : Name → Bool = test_of c.args.known.now in
    let halts = subst (λ (f : LineFault).
    Halts d f c.line.reader c.take_next.new.reader c.line.lines c.take_next.new.lines) c.in-Err-Bad.field-0-is c.in-Err-Bad.ensures in
    stops d c.args.lines.now.rest.now c.line.reader c.take_next.new.reader c.line.lines c.take_next.new.lines c.line.invariant halts
