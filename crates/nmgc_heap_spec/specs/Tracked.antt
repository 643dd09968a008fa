-- The names that a mutator or the collector may still use.
--
-- A mutator uses the objects that its roots reach. The collector uses more. While a cycle is marking it scans objects that
-- the mutators have dropped since the snapshot, and a promotion reads fields of objects that they have dropped in the round.
-- So a name is tracked if the world reaches it, or an earlier world that the collector still uses.
use Rattle.std.specs.Prelude.{List, ◌∷◌, Contains}
use Rattle.nmgc_world_spec.specs.{declared.value.Name.Name, World.World, Reach.IsReached, Reach.IsWide}

-- the wide reach of one of the worlds
abbrev pub IsWideIn : List World → Name → Type 0
IsWideIn worlds name = (e : World) × Contains worlds e × IsWide e name

-- tracked names, which may still be used: the wide reach of the world and of the earlier worlds in use, and all that strong
-- fields reach from it in the world. The collector still uses the snapshot of a cycle that is marking, and the world as a
-- round began, up to the promotion after it
abbrev pub IsTracked : World → List World → Name → Type 0
IsTracked w earlier name = IsReached w (IsWideIn (w ∷ earlier)) name
