-- How the code makes the new book: one way through the bytes of the old one, with the ends that its reader noted. `Convert.antt` says what the new book is;
-- this is shown to be the same bytes for every admitted book.
use Rattle.std.specs.Prelude.{true, false, List, [], ◌∷◌, ◌++◌, ℕ, zero, suc, ◌+◌, ◌-◌, ltb, length, get_or}
use Rattle.reading.specs.Bytes.{big_endian}
use Rattle.reading.specs.Answer.{part_of}
use Rattle.converter.specs.Written.{counted}

-- the new bytes of the version and of the symbol part, which stays as it stands
unfoldable pub front : List ℕ → List ℕ
front bs = 2 ∷ part_of bs 1 (3 + big_endian bs 1)

module _ (bs ends : List ℕ) where
  -- the expression of a rule whose code stands at p
  abbrev pub rule_at : ℕ → List ℕ
  rule_at p = part_of bs (p + 1) (get_or ends p 0)

  -- by the code that stands at p, up to the next tree's code: "a fail rule in each such spot"
  unfoldable pub spot_of : ℕ → ℕ → List ℕ
  spot_of zero p = 1 ∷ 3 ∷ []
  spot_of (suc zero) p = 1 ∷ rule_at p
  spot_of (suc (suc c)) p = 2 ∷ get_or bs (p + 1) 0 ∷ []

  -- and where that is in the old book
  unfoldable pub behind_of : ℕ → ℕ → ℕ
  behind_of zero p = p + 1
  behind_of (suc zero) p = p + 1 + length (rule_at p)
  behind_of (suc (suc c)) p = p + 2

  abbrev pub spot_bytes : ℕ → List ℕ
  spot_bytes p = spot_of (get_or bs p 0) p

  abbrev pub spot_behind : ℕ → ℕ
  spot_behind p = behind_of (get_or bs p 0) p

  -- the trees from p to e; the first number bounds how many codes there are
  unfoldable pub spots_in : ℕ → ℕ → ℕ → List ℕ
  spots_in zero e p = []
  spots_in (suc n) e p = elim (ltb p e) [
    | false ↦ []
    | true ↦ spot_bytes p ++ spots_in n e (spot_behind p)
  ]

  abbrev pub spots : ℕ → ℕ → List ℕ
  spots e p = spots_in (e - p) e p

  -- the place behind the tree whose length stands at p
  abbrev pub item_end : ℕ → ℕ
  item_end p = p + 2 + big_endian bs p

  -- such a tree, up to e, behind its new length
  abbrev pub item_to : ℕ → ℕ → List ℕ
  item_to e p = counted (spots e (p + 2))

  -- the trees whose lengths stand from p on, each behind its new length; the first number bounds how many there are
  unfoldable pub items_in : ℕ → ℕ → List ℕ
  items_in zero p = []
  items_in (suc n) p = elim (ltb p (length bs)) [
    | false ↦ []
    | true ↦ item_to (item_end p) p ++ items_in n (item_end p)
  ]

  abbrev pub items : ℕ → List ℕ
  items p = items_in (length bs - p) p

  -- the whole new book: the tree part stands behind the symbol part, and its trees behind its length
  unfoldable pub scanned : List ℕ
  scanned = front bs ++ counted (items (3 + big_endian bs 1 + 2))
