-- A text spells at most one image: the image read is a function of its lines.
use Rattle.nmgc_image.proofs.{Vocabulary.◌≡◌, Vocabulary.◌∙◌, Vocabulary.ℕ, Vocabulary.List, Vocabulary.map, Vocabulary.Bool, Vocabulary.Name, Vocabulary.Image, Vocabulary.has_key, Vocabulary.keys_of, Vocabulary.Spells, Vocabulary.tokens_of, Vocabulary.cut, Keys.keys_find, Steps.taken_is, FirstBad.only}

pub one_image : (bytes : List ℕ) (a b : Image) → Spells bytes a → Spells bytes b → a ≡ b
one_image bytes a b spells_a spells_b =
    let lines : List (List ℕ) = (cut bytes).lines in
    let d : Name → Bool = has_key (keys_of lines) in
    let one = only bytes d (keys_find lines) a spells_a in
    let other = only bytes d (keys_find lines) b spells_b in
    taken_is d other.0.reader (map tokens_of lines) a other.0.runs one.0 ∙ other.0.image_is
