-- The symbol part: bytes to symbols, with the refusals 1 and 3.
use Rattle.std.specs.Prelude.{true, false, List, [], ◌∷◌, ℕ, zero, suc, ◌+◌, ◌-◌, leb, ltb, eqb, length, get_or}
use Rattle.limits.specs.Sizes.{most_book_bytes, most_symbols, most_arguments, last_sort}
use Rattle.reading.specs.Reading.{Reading, got, ◌then◌, refuse◌at◌if◌else◌}
use Rattle.reading.specs.Bytes.{byte_at, length_at}
use Rattle.symbols.specs.Symbols.{Symbol, Symbols}

module _ (bs : List ℕ) where
  -- "the sorts of its arguments": n bytes from p on. "sort out of range (place: its byte)"
  unfoldable pub sorts_at : ℕ → ℕ → Reading (List ℕ)
  sorts_at zero p = got [] p
  sorts_at (suc n) p =
      refuse 3 at p if ltb last_sort (get_or bs p 0) else λ _.
      sorts_at n (p + 1) then λ sorts q.
      got (get_or bs p 0 ∷ sorts) q

  -- One symbol at p, before the part's end e, with `before` symbols in front of it:
  -- "Each opens with one length byte (2 to 10), then kind (0 constructor, 1 operation), result sort (0 to 63), and the sorts of
  -- its arguments". "1,025th symbol or symbol length not 2 to 10 (place: its length byte), kind or sort out of range (place: its
  -- byte)"; "two at one place, the lower number", so a length that runs past the part goes first.
  unfoldable pub symbol_at : ℕ → ℕ → ℕ → Reading Symbol
  symbol_at e before p =
      let n = get_or bs p 0 in
      let kind = get_or bs (p + 1) 0 in
      let sort = get_or bs (p + 2) 0 in
      refuse 1 at p if ltb e (p + 1 + n) else λ _.
      refuse 3 at p if leb most_symbols before else λ _.
      refuse 3 at p if ltb n 2 else λ _.
      refuse 3 at p if ltb (2 + most_arguments) n else λ _.
      refuse 3 at p + 1 if ltb 1 kind else λ _.
      refuse 3 at p + 2 if ltb last_sort sort else λ _.
      sorts_at (n - 2) (p + 3) then λ sorts q.
      got (record { is_operation = eqb kind 1; sort = sort; arguments = sorts }) q

  -- Symbols from p to the part's end. The first number bounds how many there can be: a symbol is three bytes at least, so as many
  -- as the part has bytes are enough.
  unfoldable pub symbols_at : ℕ → ℕ → ℕ → ℕ → Reading Symbols
  symbols_at zero e before p = got [] p
  symbols_at (suc bound) e before p = elim (ltb p e) [
    | false ↦ got [] p
    | true ↦
        symbol_at e before p then λ x q.
        symbols_at bound e (suc before) q then λ rest r.
        got (x ∷ rest) r
  ]

  -- "A book is a version byte .., the symbol part, the tree part": the end of the symbol part, and the place of its first symbol.
  -- "book over its size (place 0)"; "2 and 12 now mean neither 1 nor 2"; "no symbols (place: the part's length)"
  unfoldable pub opened : Reading ℕ
  opened =
      let size = length bs in
      refuse 1 at 0 if ltb most_book_bytes size else λ _.
      byte_at bs 0 size 0 then λ version p.
      refuse 2 at 0 if eqb version 0 else λ _.
      refuse 2 at 0 if ltb 2 version else λ _.
      length_at bs 0 size p then λ e q.
      refuse 3 at p if eqb q e else λ _.
      got e q

  -- the symbols of a book
  unfoldable pub symbol_part : Reading Symbols
  symbol_part =
      opened then λ e p.
      symbols_at (e - p) e 0 p
