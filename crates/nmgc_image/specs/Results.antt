-- The results of reading and of printing an image: a fault, the one image, a spelling within a limit.
use Rattle.std.specs.Prelude.{◌≡◌, ℕ, ◌≤◌, List, length}
use Rattle.nmgc_image.specs.{declared.image.Image.Image, declared.fault.ImageFault.ImageFault, Image.Spells, Image.IsFirstBad}
use Rattle.nmgc_image.specs.declared.fault.ImageFault.TheVariants as fault

-- the fault of bytes that spell no image: the first bad line, or lack of memory
abbrev pub IsFaultOf : List ℕ → ImageFault → Type 0
IsFaultOf bytes (fault.Bad line) = IsFirstBad bytes line
IsFaultOf bytes fault.NoMemory = Unit {0}

-- a text spells at most one image
abbrev pub OneImage : Type 0
OneImage = (bytes : List ℕ) (a b : Image) → Spells bytes a → Spells bytes b → a ≡ b

-- a text of at most `limit` bytes spells the image
pub record IsSpelledWithin (limit : ℕ) (image : Image) : Type 0 where
  pub bytes : List ℕ
  pub within : length bytes ≤ limit
  pub spells : Spells bytes image
