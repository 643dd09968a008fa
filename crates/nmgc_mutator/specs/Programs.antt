-- The commands that a program gives, and those that may follow.
use Rattle.std.specs.Prelude.{◌≡◌, List, [], ◌∷◌, Option, Some, None}
use Rattle.nmgc_world_spec.specs.{declared.command.Command.Command, declared.command.Reply.Reply}

-- from its first state to its last one, a program gave these commands in order, and took the reply to each
abbrev pub Gives : {P : Type 0} → (P → Option Command) → (P → Reply → P → Type 0) → P → List (Command × Reply) → P → Type 0
Gives next steps p [] q = p ≡ q
Gives next steps p ((c, r) ∷ done) q = (m : _) × (next p ≡ Some c) × steps p r m × Gives next steps m done q

-- the commands that a program may still give: they begin with its next command, and there are none at its end
abbrev pub Follows : Option Command → List Command → Type 0
Follows None rest = rest ≡ []
Follows (Some c) rest = (more : List Command) × (rest ≡ c ∷ more)
