-- The total of a heap doesn't overflow.
use Rattle.nmgc_script.proofs.Vocabulary.{ℕ, ◌*◌, ◌≤◌, mul-le-mul, Config, most_segment_words}

pub segments_small : (c : Config) → c.segments ≤ 4294967295 → c.words ≤ most_segment_words → c.segments * c.words ≤ 17592186040320
segments_small c few short = mul-le-mul few short

pub nurseries_small : (c : Config) (n : ℕ) → c.nursery ≤ 4294967295 → n ≤ 255 → n * c.nursery ≤ 1095216660225
nurseries_small c n short few = mul-le-mul few short
