-- Sets of numbers as lists of words: word i has the numbers from 64 * i on, a bit for each.
use Rattle.std.specs.Prelude.{◌/◌, ◌%◌, ℕ, Bool, List, [], ◌∷◌, slice_index, slice_index_or, bit_or}
use Rattle.order_core.specs.Word.{is_in_word}

-- Beyond its words a set has no number.
abbrev pub has_in : List ℕ → ℕ → Bool
has_in words x = is_in_word (slice_index words (x / 64)) (x % 64)

-- Of a set for each number: whether that of a has b. Beyond the sets no number has any.
abbrev pub has_at : List (List ℕ) → ℕ → ℕ → Bool
has_at rows a b = has_in (slice_index_or rows a []) b

-- the numbers of both, word by word
abbrev pub united : List ℕ → List ℕ → List ℕ
united [] others = []
united (word ∷ words) [] = word ∷ words
united (word ∷ words) (other ∷ others) = bit_or word other ∷ united words others
