-- 43 is told exactly where `specs/TooLarge.antt` says.
use mathlib.Core.Bool.{Bool, true, false, ◌||◌}
use mathlib.Core.Logic.{◌⊎◌, inl, inr}
use mathlib.Core.Path.{◌≡◌, refl, sym, ap, ◌∙◌}
use mathlib.Core.List.{List, [], ◌++◌}
use Prim.Native.Nat.{ℕ, ◌+◌, ◌-◌, ◌≤◌, ◌<◌}
use native.Mathlib.Omega.{arith}
use native.Mathlib.Decide.{dec_lt}
use borrow.Author.Tests.{lt-ltb, le-ltb, ltb-true}
use lib.Dec.{ltb}
use lib.ListN.{length, drop, replicate}
use Rattle.limits.specs.Sizes.{most_book_bytes, most_symbols}
use Rattle.reading.specs.Reading.{Reading, got, refusal, refuse◌at◌if◌else◌}
use Rattle.reading.specs.Bytes.{two_bytes}
use Rattle.symbols.specs.Symbols.{Symbols}
use Rattle.symbols.specs.SymbolPart.{opened, symbol_part}
use Rattle.expressions.specs.Expressions.{Expr}
use Rattle.book.specs.TreeAt.{trees_of, tree_part}
use Rattle.book.specs.Admission.{read_book}
use Rattle.tagged.specs.Listing.{Broader, broader_in}
use Rattle.tagged.specs.Terms.{operation, symbols_for, first_rules, second_rules, trees_for, rules_for}
use Rattle.tagged.specs.Laid.{symbols_laid, length_first, trees_laid, laid}
use Rattle.tagged.specs.Write.{some_over, passes, refusing, book_from}
use Rattle.tagged.specs.Hops.{Inside}
use Rattle.tagged.proofs.Accepted.{accepted}
use Rattle.tagged.proofs.Refused.{number_is, numbered}
use Rattle.above.specs.TooLarge.{NoBook, TooLarge, Told43}
use Rattle.above.proofs.Standing.{goes_on, two_at, length_reads}
use Rattle.above.proofs.BookBack.{plain_symbols, symbols-stand, how-long, symbol-count, symbol-bytes, part-stands}
use Rattle.above.proofs.BookBack.{as_many, own-bytes, all_fit, front, symbols-back, book-back}
use Rattle.above.proofs.Over.{Refuses, on, ends, rules-over, terms-over, symbols-over}
use Rattle.above.proofs.Promised.{bytes_of, too_large, over, fits, told-refusal, told, number}

-- "book over its size (place 0)"
bytes-over : (bs : List ℕ) → most_book_bytes < length bs → opened bs ≡ refusal 1 0
unfolding opened refuse◌at◌if◌else◌
bytes-over bs many = rw (lt-ltb most_book_bytes (length bs) many) refl

-- the one of three that is left
middle : (a b c : Bool) → (a || b || c) ≡ true → a ≡ false → c ≡ false → b ≡ true
middle true b c is first last = absurd (let z : ◌≡◌ {A = ℕ} 0 1 = cc in omega arith)
middle false b true is first last = absurd (let z : ◌≡◌ {A = ℕ} 0 1 = cc in omega arith)
middle false true false is first last = refl
middle false false false is first last = is

module _ (broader : Broader) (inside : Inside broader) (some : 0 < length broader) where
  abbrev n : ℕ
  n = length broader

  abbrev S : Symbols
  S = symbols_for n

  abbrev sy : List ℕ
  sy = symbols_laid S

  abbrev tr : List ℕ
  tr = trees_laid S (trees_for broader)

  abbrev bs : List ℕ
  bs = laid (rules_for broader)

  abbrev rules : List Expr
  rules = first_rules broader ++ second_rules n broader

  -- "1,025th symbol"
  symbols-refused : length bs ≤ most_book_bytes → most_symbols < n + (n + n) → Refuses (symbol_part bs)
  unfolding symbol_part
  symbols-refused small many =
      on (goes_on _ (front broader inside some small))
      (symbols-over bs (plain_symbols broader inside) (3 + length sy - 3) (3 + length sy) 0 3 (length_first tr)
      (omega (arith, symbol-bytes broader inside)) (omega arith) (omega (arith, symbol-count broader inside)) refl (symbols-stand broader inside))

  -- "65th node"
  trees-refused : some_over rules ≡ true → Refuses (tree_part bs S (3 + length sy))
  unfolding tree_part symbols_for
  trees-refused many =
      let e = 3 + length sy in
      let end = e + 2 + length tr in
      let part : drop e bs ≡ two_bytes (length tr) ++ (tr ++ []) = part-stands broader inside in
      let inner : drop (e + 2) bs ≡ tr ++ [] = (two_at bs e (length tr) (tr ++ []) part).1 in
      let own = own-bytes broader inside in
      on (goes_on _ (length_reads bs 0 (length bs) e (length tr) _ (omega (arith, how-long broader inside)) part))
      (ends _ (terms-over bs S end n (replicate (n + n) operation) (e + 2)
      (on (ap (λ l. trees_of bs S end l (e + 2)) (sym (as_many broader inside)))
      (rules-over bs S end (all_fit broader inside) many (e + 2) [] (omega (arith, ap length own)) (inner ∙ ap (λ l. l ++ []) (sym own))))))

  -- A BOOK THAT PASSES A SIZE IS NONE
  no_book : passes broader ≡ true → NoBook (laid (rules_for broader))
  unfolding read_book symbol_part passes
  no_book past = elim (dec_lt most_book_bytes (length bs)) [
    | yes long ↦ ends _ (ends _ (1, 0, bytes-over bs long))
    | no short ↦ elim (dec_lt most_symbols (n + (n + n))) [
      | yes many ↦ ends _ (symbols-refused (omega arith) many)
      | no few ↦
          let over : some_over rules ≡ true =
          middle (ltb most_symbols (n + (n + n))) (some_over rules) (ltb most_book_bytes (length bs)) past
          (le-ltb most_symbols (n + (n + n)) (omega arith)) (le-ltb most_book_bytes (length bs) (omega arith)) in
          on (goes_on _ (symbols-back broader inside some (omega arith) (omega arith))) (ends _ (trees-refused over))
    ]
  ]

-- ---- what the writer tells

-- one of the two holds
one_of : (a b : Bool) → (a || b) ≡ true → (a ≡ true) ⊎ (b ≡ true)
one_of true b is = inl refl
one_of false b is = inr is

module _ (listing room : List ℕ) where
  -- it was too large
  so : (broader : Broader) (line : ℕ) → broader_in listing ≡ got broader line → too_large broader room ≡ true → TooLarge broader room
  so broader line is large = elim (one_of (passes broader) (ltb (length room) (length (bytes_of broader))) large) [
    | inl past ↦ let good = accepted listing is in inr (no_book broader good.inside good.some past)
    | inr short ↦ inl (ltb-true _ _ short)
  ]

  only : (book_from listing room).result.number ≡ 43 → (broader : Broader) × (line : ℕ) × (broader_in listing ≡ got broader line) × TooLarge broader room
  only done = by (broader_in listing) refl
    where
      fit : (broader : Broader) (line : ℕ) → broader_in listing ≡ got broader line → (t : Bool) → too_large broader room ≡ t → TooLarge broader room
      fit broader line is true large = so broader line is large
      fit broader line is false within =
          absurd (omega (arith, sym (ap number (told listing room is ∙ fits broader room within)) ∙ done))

      by : (r : Reading Broader) → broader_in listing ≡ r → (broader : Broader) × (line : ℕ) × (broader_in listing ≡ got broader line) × TooLarge broader room
      by (refusal c line) is =
          absurd (omega (arith, (number_is (numbered listing) is).1, sym (ap number (told-refusal listing room is)) ∙ done))
      by (got broader line) is = (broader, line, is, fit broader line is (too_large broader room) refl)

  -- it is too large
  large : (broader : Broader) (line : ℕ) → broader_in listing ≡ got broader line → TooLarge broader room
      → (t : Bool) → passes broader ≡ t → too_large broader room ≡ true
  large broader line is why true past = ap (λ t. t || ltb (length room) (length (bytes_of broader))) past
  large broader line is (inl short) false within =
      ap (λ t. t || ltb (length room) (length (bytes_of broader))) within ∙ lt-ltb (length room) (length (bytes_of broader)) short
  large broader line is (inr (c, place, none)) false within =
      let good = accepted listing is in
      absurd (let z : ◌≡◌ {A = ℕ} 0 1 = cc (book-back broader good.inside good.some within) in omega arith)

  always : (broader : Broader) (line : ℕ) → broader_in listing ≡ got broader line → TooLarge broader room → book_from listing room ≡ refusing 43 0 room
  always broader line is why = told listing room is ∙ over broader room (large broader line is why (passes broader) refl)

-- 43 IS TOLD WHERE THE BOOK PASSES A SIZE OR THE ROOM LENT, AND NOWHERE ELSE.
pub told_43 : (listing room : List ℕ) → Told43 listing room
told_43 listing room = record { only = only listing room; always = always listing room }
