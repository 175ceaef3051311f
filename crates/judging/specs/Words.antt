-- The decisions of an entry, word by word.
use Rattle.std.specs.Prelude.{Bool, ◌&&◌, ◌||◌, ℕ, ◌+◌, ◌*◌, ◌/◌, ◌%◌, ◌^◌, leb, eqb}

-- bit b of a word
abbrev pub bit_of : ℕ → ℕ → Bool
bit_of w b = eqb (w / 2 ^ b % 2) 1

-- the i-th of the word's 32 choices is decided both left and right, or is not among the first `made` and decided
unfoldable pub bad_pair : ℕ → ℕ → ℕ → Bool
bad_pair made w i = (bit_of w (2 * i) && bit_of w (2 * i + 1)) || leb made i && (bit_of w (2 * i) || bit_of w (2 * i + 1))
