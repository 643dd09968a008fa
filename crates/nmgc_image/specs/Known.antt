-- The names that count as declared while a text is read.
use Rattle.std.specs.Prelude.{Bool, true}
use Rattle.nmgc_world_spec.specs.declared.value.Name.{Name}
use Rattle.nmgc_image.specs.{declared.known.Known.Known, Reading.has_key}
use Rattle.nmgc_image.specs.declared.known.Known.TheVariants as known

-- the test of the names that count as declared: every name, or the names of a set
abbrev pub test_of : Known → Name → Bool
test_of known.Every = λ name. true
test_of (known.Of declared) = has_key declared.keys.items
