use Rattle.nmgc_pmark.proofs.Vocabulary.{AllZip, ◌≡◌, ◌≤◌, length, take, vec_len, vec_capacity, HasName}
use Rattle.nmgc_pmark.proofs.claims.read_names.Given as goal

abbrev pub invariant-loop-at : goal.invariant-loop-at
invariant-loop-at g l = record {
  each : AllZip (HasName (g.W.StillWords.words l.fn.words)) (take l.at-index l.fn.places) l.names.items;
  room : length l.fn.places ≤ vec_capacity l.names;
  long : vec_len l.names ≡ l.at-index;
}
