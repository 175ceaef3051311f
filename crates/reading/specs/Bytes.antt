-- Bytes, numbers and lengths at a place p of a part or item that ends at e.
use Rattle.std.specs.Prelude.{List, [], ◌∷◌, ℕ, ◌+◌, ◌*◌, ◌/◌, ◌%◌, leb, ltb, get_or}
use Rattle.reading.specs.Reading.{Reading, got, ◌then◌, refuse◌at◌if◌else◌}

-- "Numbers are big-endian": the number whose two bytes stand at p
abbrev pub big_endian : List ℕ → ℕ → ℕ
big_endian bs p = get_or bs p 0 * 256 + get_or bs (p + 1) 0

-- and the two bytes of a number
unfoldable pub two_bytes : ℕ → List ℕ
two_bytes n = n / 256 ∷ n % 256 ∷ []

-- the edition of a book or a question, by its version byte
abbrev pub version_of : List ℕ → ℕ
version_of bs = get_or bs 0 0

-- `base` is 0 in a book and 10 in a question: "11 to 15: the same in the question"
module _ (bs : List ℕ) (base e : ℕ) where
  -- "a needed byte lies past its part or item (place: that end)"
  unfoldable pub byte_at : ℕ → Reading ℕ
  byte_at p =
      refuse base + 1 at e if leb e p else λ _.
      got (get_or bs p 0) (p + 1)

  unfoldable pub number_at : ℕ → Reading ℕ
  number_at p =
      refuse base + 1 at e if ltb e (p + 2) else λ _.
      got (big_endian bs p) (p + 2)

  -- "Each part opens with its length in two bytes, which counts what follows": the end of what it opens.
  -- "a length runs past what encloses it (place: the length)"
  unfoldable pub length_at : ℕ → Reading ℕ
  length_at p =
      number_at p then λ n q.
      refuse base + 1 at p if ltb e (q + n) else λ _.
      got (q + n) q
