-- Further facts that the judge needs about the tokens of a line.
use Rattle.std.proofs.{Common.◌≡◌, Common.◌≢◌, Common.◌≤◌, Common.ℕ, Common.List, Common.[], Common.◌∷◌, Common.◌++◌, Common.map, Common.length, Common.arith, Common.inl, Common.inr, lemmas.Bool.Decides.eqb_tells, lemmas.List.length-map}
use Rattle.std.specs.List.{AllByRecursion}
use Rattle.nmgc_world_spec.specs.{declared.command.Command.Command, declared.command.Command.TheVariants.Num, declared.command.Command.TheVariants.Nil, declared.command.Command.TheVariants.Mov, declared.command.Command.TheVariants.Con, declared.command.Command.TheVariants.Var, declared.command.Command.TheVariants.Arr, declared.command.Command.TheVariants.Rec, declared.command.Command.TheVariants.Thunk, declared.command.Command.TheVariants.Weak, declared.command.Command.TheVariants.Stack, declared.command.Command.TheVariants.Get, declared.command.Command.TheVariants.Tag, declared.command.Command.TheVariants.Set, declared.command.Command.TheVariants.Cas, declared.command.Command.TheVariants.Update, declared.command.Command.TheVariants.Force, declared.command.Command.TheVariants.Push, declared.command.Command.TheVariants.Pop, declared.command.Command.TheVariants.Deref, declared.command.Command.TheVariants.Finalise, declared.command.Command.TheVariants.NextFin, declared.command.Command.TheVariants.Show, declared.command.Command.TheVariants.Same, declared.command.Command.TheVariants.Yield, declared.command.Command.TheVariants.Collect, declared.command.Command.TheVariants.Full, World.Fits}
use Rattle.nmgc_io.specs.Text.{tokens_of, onto_first}
use Rattle.nmgc_script.specs.{Spelling.operand_word, Spelling.command_words, laws.Lines.IsWord}

onto_word : (b : ℕ) (words : List (List ℕ)) → b ≢ 32 → AllByRecursion IsWord words → AllByRecursion IsWord (onto_first b words)
onto_word b [] ne h = ((ne, tt), tt)
onto_word b (w ∷ ws) ne h = ((ne, h.0), h.1)

-- the tokens of a line have no spaces
pub words_are : (line : List ℕ) → AllByRecursion IsWord (tokens_of line)
words_are [] = (tt, tt)
words_are (b ∷ line) = elim (eqb_tells b 32) [
  | inl p ↦ rw p.0 (tt, words_are line)
  | inr p ↦ rw p.0 (onto_word b (tokens_of line) p.1 (words_are line))
]

-- the tokens before other tokens
pub front_words : (front back : List (List ℕ)) → AllByRecursion IsWord (front ++ back) → AllByRecursion IsWord front
front_words [] back h = tt
front_words (w ∷ ws) back h = (h.0, front_words ws back h.1)

-- a command has few tokens
pub command_count : (size : ℕ) (c : Command) → Fits size c → size ≤ 4096 → length (command_words c) ≤ 4098
command_count size (Num dest number) h le = omega arith
command_count size (Nil dest) h le = omega arith
command_count size (Mov dest value) h le = omega arith
command_count size (Con dest tag fields) h le = let n : length (map operand_word fields) ≡ length fields = length-map fields operand_word in
    let few = h.size in omega arith
command_count size (Var dest value) h le = omega arith
command_count size (Arr dest count value) h le = omega arith
command_count size (Rec dest fields) h le = let n : length (map operand_word fields) ≡ length fields = length-map fields operand_word in
    let few = h.size in omega arith
command_count size (Thunk dest free) h le = let n : length (map operand_word free) ≡ length free = length-map free operand_word in
    let few = h.size in omega arith
command_count size (Weak dest key value finaliser) h le = omega arith
command_count size (Stack dest count) h le = omega arith
command_count size (Get dest object index) h le = omega arith
command_count size (Tag dest object) h le = omega arith
command_count size (Set object index value) h le = omega arith
command_count size (Cas object index expected value) h le = omega arith
command_count size (Update object value) h le = omega arith
command_count size (Force dest object) h le = omega arith
command_count size (Push object value) h le = omega arith
command_count size (Pop dest object) h le = omega arith
command_count size (Deref dest object) h le = omega arith
command_count size (Finalise dest object) h le = omega arith
command_count size (NextFin dest) h le = omega arith
command_count size (Show value) h le = omega arith
command_count size (Same left right) h le = omega arith
command_count size Yield h le = omega arith
command_count size Collect h le = omega arith
command_count size Full h le = omega arith
