use Rattle.nmgc_field_checker.proofs.{Vocabulary.Decides-ltb, Vocabulary.subst, Vocabulary.sym, Vocabulary.ℕ, Vocabulary.◌-◌, Vocabulary.◌<◌, Vocabulary.◌^◌}
use Rattle.nmgc_field_checker.proofs.watch.has_room.Goals as goal

pub returns : goal.returns
returns c =
    let d = Decides-ltb c.count.result (2 ^ 32 - 1) in (
      λ t. subst (λ (n : ℕ). n < 2 ^ 32 - 1) c.count.ensures (d.0 t),
      λ h. d.1 (subst (λ (n : ℕ). n < 2 ^ 32 - 1) (sym c.count.ensures) h),
    )
