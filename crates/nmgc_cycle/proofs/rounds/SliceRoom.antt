-- After the mutators' lists got their room, each has room for its slice.
use Rattle.nmgc_cycle.proofs.{Vocabulary.ℕ, Vocabulary.◌≡◌, Vocabulary.◌+◌, Vocabulary.◌<◌, Vocabulary.◌≤◌, Vocabulary.length, Vocabulary.min, Vocabulary.slice_index_or, Vocabulary.ap, Vocabulary.subst, Vocabulary.arith, Vocabulary.Result, Vocabulary.Ok, Vocabulary.Err, Vocabulary.OnOk, Vocabulary.slice_get_within, Vocabulary.get_or_from_slice_get, Vocabulary.Mutator, Vocabulary.Reserves, Vocabulary.Script, Vocabulary.Run, Vocabulary.Collector, Vocabulary.IsAfterStop, Vocabulary.FitsRun, Vocabulary.HasLists, Vocabulary.AreReserved, Vocabulary.HaveAskRoom, Vocabulary.MayBeAsked, Vocabulary.most_at, Vocabulary.most_commands, Vocabulary.List, Vocabulary.slice_index, Vocabulary.item, rounds.Positions.serial_few, rounds.Reserving.most_there}

-- a consequence of two facts, if both hold
pub on_both : {T E P Q R : Type 0} (r : Result T E) → (P → Q → R) → OnOk r P → OnOk r Q → OnOk r R
on_both (Ok x) f p q = f p q
on_both (Err e) f p q = p

-- with the commands answered a program gives few more
most_few : {P : Type 0} (words most : P → ℕ) (valid : P → Type 0) (script : Script) (positions : List ℕ) (programs : List P) →
    MayBeAsked words most valid script positions programs → (k : ℕ) → k < length script.threads → slice_index positions k + most_at most programs k ≤ most_commands
most_few words most valid script positions programs asked k lt =
    let p = item programs k (let n = asked.count in omega (arith, lt, n)) in
    let few = asked.few k p.0 p.1 in
    let there = most_there most programs k p.0 p.1 in
    omega (arith, few, there)

pub asked_room : {P : Type 0} (words most : P → ℕ) (valid : P → Type 0) (script : Script) (c d : Collector) (run : Run) (programs : List P) (slice : ℕ) →
    FitsRun script → IsAfterStop script c run → MayBeAsked words most valid script c.positions.items programs →
    AreReserved c.mutators.items d.mutators.items → ((k : ℕ) (x : Mutator) → k < length c.mutators.items →
    HasLists (min slice (most_at most programs k)) (slice_index_or d.mutators.items k x)) → HaveAskRoom most slice d.mutators.items programs
asked_room words most valid script c d run programs slice limits still asked reserved lists k m e =
    let within = slice_get_within d.mutators.items k m e in
    let count = reserved.count in
    let lt : k < length c.mutators.items = omega (arith, within, count) in
    let old = item c.mutators.items k lt in
    let now : slice_index_or d.mutators.items k m ≡ m = get_or_from_slice_get d.mutators.items k m m e in
    let was : slice_index_or c.mutators.items k m ≡ old.0 = get_or_from_slice_get c.mutators.items k old.0 m old.1 in
    let kept : Reserves old.0 m =
    subst (λ (x : Mutator). Reserves x m) was (subst (Reserves (slice_index_or c.mutators.items k m)) now (reserved.each k m lt)) in
    let serial : m.serial ≡ old.0.serial = ap (λ (x : Mutator). x.serial) kept.rest in
    let room : HasLists (min slice (most_at most programs k)) m = subst (HasLists (min slice (most_at most programs k))) now (lists k m lt) in
    let exists : k < length script.threads = let n = still.kept.count in omega (arith, lt, n) in
    let made = serial_few script c run still k exists old.0 limits old.1 in
    let few = most_few words most valid script c.positions.items programs asked k exists in
    record {
      replies = room.replies;
      recorded = room.recorded;
      updrem = room.updrem;
      young_weaks = room.young_weaks;
      finalised = room.finalised;
      serials = omega (arith, serial, made, few);
    }
