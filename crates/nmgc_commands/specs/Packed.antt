-- The command that a packed command represents.
use Rattle.nmgc_world_spec.specs.declared.command.Command.{Command}
use Rattle.nmgc_world_spec.specs.declared.command.Command.TheVariants as plain
use Rattle.nmgc_commands.specs.declared.packed.Form.{Form}
use Rattle.nmgc_commands.specs.declared.packed.Form.TheVariants.{Num, Nil, Mov, Con, LongCon, Var, Arr, Rec, LongRec, Thunk, LongThunk, Weak, Stack, Get, Tag, Set, Cas, Update, Force, Push, Pop, Deref, Finalise, NextFin, Show, Same, Yield, Collect, Full}

-- the command that a form represents: the one of the same name and fields; `LongCon` is `Con`, `LongRec` is `Rec`, and `LongThunk` is `Thunk`
abbrev pub command_of : Form → Command
command_of (Num dest number) = plain.Num dest number
command_of (Nil dest) = plain.Nil dest
command_of (Mov dest value) = plain.Mov dest value
command_of (Con dest tag fields) = plain.Con dest tag fields
command_of (LongCon dest tag fields) = plain.Con dest tag fields
command_of (Var dest value) = plain.Var dest value
command_of (Arr dest count value) = plain.Arr dest count value
command_of (Rec dest fields) = plain.Rec dest fields
command_of (LongRec dest fields) = plain.Rec dest fields
command_of (Thunk dest free) = plain.Thunk dest free
command_of (LongThunk dest free) = plain.Thunk dest free
command_of (Weak dest key value finaliser) = plain.Weak dest key value finaliser
command_of (Stack dest size) = plain.Stack dest size
command_of (Get dest object index) = plain.Get dest object index
command_of (Tag dest object) = plain.Tag dest object
command_of (Set object index value) = plain.Set object index value
command_of (Cas object index expected value) = plain.Cas object index expected value
command_of (Update object value) = plain.Update object value
command_of (Force dest object) = plain.Force dest object
command_of (Push object value) = plain.Push object value
command_of (Pop dest object) = plain.Pop dest object
command_of (Deref dest object) = plain.Deref dest object
command_of (Finalise dest object) = plain.Finalise dest object
command_of (NextFin dest) = plain.NextFin dest
command_of (Show value) = plain.Show value
command_of (Same left right) = plain.Same left right
command_of Yield = plain.Yield
command_of Collect = plain.Collect
command_of Full = plain.Full
