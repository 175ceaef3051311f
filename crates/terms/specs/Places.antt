-- The same by places, as the code goes: where a line ends, and the bytes between two places.
use Rattle.std.specs.Prelude.{true, false, List, [], ◌∷◌, ℕ, suc, ◌+◌, ◌-◌, eqb, take, drop}
use Rattle.tagged.specs.Lines.{newline, space}

-- how many bytes stand before the first newline, or the end
unfoldable pub run_of : List ℕ → ℕ
run_of [] = 0
run_of (b ∷ bs) = elim (eqb b newline) [ true ↦ 0 | false ↦ suc (run_of bs) ]

-- the place of the newline that ends the line at `at`; the length of the listing, if none does
unfoldable pub end_of : List ℕ → ℕ → ℕ
end_of s at = at + run_of (drop at s)

-- the bytes from one place to another
abbrev pub bytes_of : List ℕ → ℕ → ℕ → List ℕ
bytes_of s from to = take (to - from) (drop from s)

-- "two spaces, BT or NT, one space", by the first letter
abbrev pub tag_of : ℕ → List ℕ
tag_of letter = space ∷ space ∷ letter ∷ 84 ∷ space ∷ []
