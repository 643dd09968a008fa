use Rattle.nmgc_round.proofs.{Vocabulary.RattleType, Vocabulary.IsSync, Vocabulary.part_keyless, Vocabulary.the_row, witness.Witness.TheSendSync.Send.send}

pub sync : (T : RattleType) → IsSync (the_row T)
sync T = record { shared = λ d b o κ q. part_keyless (the_row T) (send T) q d b o }
