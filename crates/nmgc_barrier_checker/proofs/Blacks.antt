-- A name that is reported as marked, perhaps made since the snapshot.
use Rattle.nmgc_barrier_checker.proofs.Vocabulary.{◌≡◌, ◌↔◌, refl, Bool, true, false, false≢true, Contains, Name, CycleResult, is_old, IsBlackName}

-- the outcome of a test whether a name of the snapshot is kept
pub black_name : (left : CycleResult) (name : Name) (b : Bool) → is_old left.old name ≡ true → (b ≡ true ↔ Contains left.kept name) → IsBlackName left name b
black_name left name true old h = λ o. h.0 refl
black_name left name false old h = (old, λ c. false≢true (h.1 c))
