use Rattle.std.proofs.Common.{◌∙◌, ℕ, List, ap, length, eqb, string_bytes}
use Rattle.nmgc_trace_checker.proofs.Texts.{next_is}
use Rattle.nmgc_trace_checker.proofs.reading.next_line.Goals as goal

pub returns : goal.returns
returns g c =
    next_is (g.R.Read.remaining c.args.reader.now) (g.R.Read.remaining c.read_line.new.self) (string_bytes c.clear.new.self)
    (string_bytes c.read_line.new.buf) c.is_empty.result c.clear.ensures.bytes c.in_ok-read_line.ensures.bytes c.in_ok-read_line.ensures.rest
    (c.is_empty.ensures ∙ ap (λ (l : List ℕ). eqb (length l) 0) c.as_str.ensures.value)
