-- A seat at a round.
use Rattle.std.specs.Prelude.{◌≡◌, ℕ, []}
use Rattle.atomic_table.specs.declared.shared.Seat.{Seat}
use Rattle.nmgc_round.specs.{declared.table.Round.Round, View.Opening, View.Seen}

-- a seat as clauses see it
abbrev pub RoundSeat : Type 0
RoundSeat = Seat (Unit {0}) Seen

-- the view of a seat
abbrev pub seen : Seat (Unit {0}) Seen → Seen
seen seat = seat.me.0

-- the opening of a round
abbrev pub opening_of : Round → Opening
opening_of round = round.opening.value

-- a seat of this round
abbrev pub IsAt : Round → Seat (Unit {0}) Seen → Type 0
IsAt round seat = (seat.table_id ≡ round.table.shared.table_id) × (seat.me.1 ≡ []) × ((seen seat).opening ≡ opening_of round)

-- the same seat, with this view
abbrev pub Knows : Round → Seat (Unit {0}) Seen → Seat (Unit {0}) Seen → Seen → Type 0
Knows round old new v = IsAt round new × (new.id ≡ old.id) × (seen new ≡ v)

-- the number of words of a round
abbrev pub word_count : Round → ℕ
word_count round = round.table.shared.table_id.words
