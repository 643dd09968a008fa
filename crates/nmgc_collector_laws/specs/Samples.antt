-- A small script, and the whole report of a run of it.
use Rattle.std.specs.Prelude.{ℕ, ◌-◌, List, [], ◌∷◌, ◌++◌, replicate}
use Rattle.nmgc_world_spec.specs.{declared.value.Name.Name, declared.value.Value.TheVariants.Number, declared.value.Value.TheVariants.Ref, declared.command.Command.Command, declared.command.Command.TheVariants.Num, declared.command.Command.TheVariants.Con, declared.command.Command.TheVariants.Get, declared.command.Command.TheVariants.Show, declared.command.Operand.TheVariants.Register, declared.command.Reply.Reply, declared.command.Reply.TheVariants.Fine, declared.command.Reply.TheVariants.Given, declared.command.Reply.TheVariants.NoField, declared.command.Reply.TheVariants.NoPointer}
use Rattle.nmgc_script.specs.{declared.script.Config.Config, declared.script.Script.Script}
use Rattle.nmgc_journal.specs.{declared.report.Phase.TheVariants.Idle, declared.report.StopRow.StopRow, declared.report.End.TheVariants.Done, declared.report.MutatorEnd.MutatorEnd, declared.report.Report.Report}
use Rattle.nmgc_limits.specs.declared.mutators.TheConstants.{REGISTERS, SHARED_MAKER, SHARED_SLOTS}
use Rattle.nmgc_segment.specs.{Segment.free_segment, declared.state.State.TheVariants.Current}
use Rattle.nmgc_alloc.specs.AllocState.{Segments}
use Rattle.nmgc_run_spec.specs.{Run.Plan, Run.layout_of, Lawful.IsLawful}

-- a small heap's configuration: 32 segments of 64 words, and a nursery as large as a segment
abbrev pub small_heap : Config
small_heap = record { segments = 32; words = 64; nursery = 64; slice = 100; quota = 1000; trigger = 0 }

-- a plan of one program on the small heap
abbrev pub small_plan : List Command → Plan
small_plan program = record { config = small_heap; threads = program ∷ [] }

abbrev pub small_script : List Command → Script
small_script program = record { version = 1; config = small_heap; threads = program ∷ [] }

-- the row of a stop in the phase idle, with no segment filled or waiting
abbrev pub quiet_stop : ℕ → ℕ → ℕ → StopRow
quiet_stop number free promoted = record { number = number; phase = Idle; free = free; filled = 0; sweep = 0; promoted = promoted }

-- the sample's program: it makes an object, and reads and shows it
abbrev pub object_program : List Command
object_program = Num 1 5 ∷ Con 0 7 (Register 1 ∷ []) ∷ Get 2 (Register 0) 0 ∷ Show (Register 2) ∷ Get 2 (Register 0) 1 ∷ Get 2 (Register 1) 0 ∷
    Show (Register 0) ∷ []

abbrev pub object_name : Name
object_name = record { maker = 0; serial = 0 }

abbrev pub object_replies : List Reply
object_replies = Fine ∷ Given (Ref object_name) ∷ Given (Number 5) ∷ Given (Number 5) ∷ NoField ∷ NoPointer ∷ Given (Ref object_name) ∷ []

-- the words after the sample's run: word 0; g with nil slots; unused words up to 31; the object's header, name, field; zeros
abbrev pub object_words : List ℕ
object_words = 0 ∷ 32771 ∷ SHARED_MAKER ∷ (replicate SHARED_SLOTS 1 ++ (replicate 13 0 ++ (2105 ∷ 0 ∷ 13 ∷ replicate 2109 0)))

-- the segments after the sample's run
abbrev pub object_segments : Segments
object_segments = record {
  layout = layout_of (small_plan object_program);
  segments = record { class = 0; state = Current 0; marks = replicate 16 0; next_free = 1; snap = 0 } ∷ replicate 31 (free_segment 64);
  fresh = 0;
}

-- the mutator after the sample's run: its registers hold the object, two fives and nil
abbrev pub object_mutator : MutatorEnd
object_mutator = record { registers = 64 ∷ 13 ∷ 13 ∷ replicate (REGISTERS - 3) 1; queue = []; serial = 1 }

-- the whole report of the sample's run
abbrev pub object_report : Report
object_report = record {
  rounds = record { replies = object_replies ∷ [] } ∷ [];
  stops = quiet_stop 0 32 0 ∷ quiet_stop 1 31 1 ∷ [];
  cycles = [];
  words = object_words;
  segments = object_segments;
  mutators = object_mutator ∷ [];
  weaks = [];
  end = Done;
}

-- the law that the report of the sample's program is lawful, with all its facts about the heap
abbrev pub ObjectIsLawful : Type 0
ObjectIsLawful = IsLawful (small_script object_program) object_report
