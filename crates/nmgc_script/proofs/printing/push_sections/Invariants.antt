use Rattle.nmgc_script.proofs.Vocabulary.{◌≡◌, ◌++◌, drop, ended, section_lines}
use Rattle.nmgc_script.proofs.printing.push_sections.Given as goal

-- the sections so far and the sections of the rest are all sections
abbrev pub invariant-loop-thread : goal.invariant-loop-thread
invariant-loop-thread l = l.out.items ++ ended (section_lines l.thread (drop l.thread l.threads)) ≡ l.initial.out.items ++ ended (section_lines 0 l.threads)
