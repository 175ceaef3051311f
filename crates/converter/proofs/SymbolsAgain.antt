-- The symbols of a book are read again from the bytes that they are written as.
use mathlib.Core.Bool.{Bool, true, false}
use mathlib.Core.Path.{◌≡◌, refl, sym, ap, ◌∙◌}
use mathlib.Core.List.{List, [], ◌∷◌, ◌++◌, append_assoc, append-nil}
use Prim.Native.Nat.{ℕ, zero, suc, ◌+◌, ◌-◌, ◌≤◌, ◌<◌}
use native.Mathlib.Omega.{arith}
use borrow.Author.Tests.{le-ltb, lt-leb, ne_eqb}
use lib.Dec.{eqb}
use lib.ListN.{length, get_or, length-append}
use Rattle.limits.specs.Sizes.{most_book_bytes, most_symbols, most_arguments, last_sort}
use Rattle.reading.specs.Reading.{got}
use Rattle.reading.specs.Bytes.{two_bytes}
use Rattle.reading.proofs.Keeping.{then-got, passed}
use Rattle.symbols.specs.Symbols.{Symbol, Symbols, symbol_of}
use Rattle.symbols.specs.SymbolPart.{sorts_at, symbol_at, symbols_at, opened, symbol_part}
use Rattle.symbols.proofs.Parts.{SortsInRange, InRange, symbols-none, symbols-next}
use Rattle.converter.specs.Written.{counted, kind_of, symbol_written, symbols_written}
use Rattle.converter.proofs.Standing.{land, Stands, stands-to, stands-front, stands-behind, stands-first, stands-next, byte_again, stands-two}
use Rattle.converter.proofs.Standing.{length-again}

-- a kind is 0 or 1, and is read back
kind_small : (b : Bool) → kind_of b ≤ 1
unfolding kind_of
kind_small true = omega arith
kind_small false = omega arith

kind_back : (b : Bool) → eqb (kind_of b) 1 ≡ b
unfolding kind_of
kind_back true = refl
kind_back false = refl

-- a symbol takes some bytes
symbol-long : (x : Symbol) → 0 < length (symbol_written x)
unfolding symbol_written
symbol-long x = omega arith

-- and so do some symbols
symbols-long : (S : Symbols) → 0 < length S → 0 < length (symbols_written S)
unfolding symbols_written
symbols-long [] some = absurd (omega arith)
symbols-long (x ∷ S) some = omega (arith, symbol-long x, length-append (symbol_written x) (symbols_written S))

module _ (cs : List ℕ) where
  sorts_again : (sorts : List ℕ) (e p : ℕ) → SortsInRange sorts → Stands cs e p sorts → sorts_at cs (length sorts) p ≡ got sorts (p + length sorts)
  unfolding sorts_at
  sorts_again [] e p small st = land refl (omega arith)
  sorts_again (s ∷ sorts) e p small st =
      let first : get_or cs p 0 ≡ s = stands-first st in
      rw first (land (passed _ _ (le-ltb last_sort s (small 0)) ∙ then-got _ (sorts_again sorts e (p + 1) (λ i. small (suc i)) (stands-next st))) (omega arith))

  symbol-again : (x : Symbol) (e before p : ℕ) → InRange x → before < most_symbols → Stands cs e p (symbol_written x)
      → symbol_at cs e before p ≡ got x (p + length (symbol_written x))
  unfolding symbol_at symbol_written
  symbol-again x e before p small room st =
      let n = 2 + length x.arguments in
      let here : get_or cs p 0 ≡ n = stands-first st in
      let kind : get_or cs (p + 1) 0 ≡ kind_of x.is_operation = stands-first (stands-next st) in
      let two : p + 1 + 1 ≡ p + 2 = omega arith in
      let three : p + 1 + 1 + 1 ≡ p + 3 = omega arith in
      let sort : get_or cs (p + 2) 0 ≡ x.sort = ap (λ (q : ℕ). get_or cs q 0) (sym two) ∙ stands-first (stands-next (stands-next st)) in
      let sorts : Stands cs e (p + 3) x.arguments = rw three at (stands-next (stands-next (stands-next st))) in
      let many : n - 2 ≡ length x.arguments = omega arith in
      rw (here, kind, sort, many, kind_back x.is_operation)
      (land (passed _ _ (le-ltb e (p + 1 + n) (omega (arith, st.within))) ∙ passed _ _ (lt-leb most_symbols before room)
      ∙ passed _ _ (le-ltb n 2 (omega arith)) ∙ passed _ _ (le-ltb (2 + most_arguments) n (omega (arith, small.few_arguments)))
      ∙ passed _ _ (le-ltb 1 (kind_of x.is_operation) (kind_small x.is_operation)) ∙ passed _ _ (le-ltb last_sort x.sort small.of_sort)
      ∙ then-got _ (sorts_again x.arguments e (p + 3) small.of_arguments sorts)) (omega arith))

  -- all symbols up to the end, with `before` in front of them
  symbols-again : (S : Symbols) (bound e before p : ℕ) → ((f : ℕ) → f < length S → InRange (symbol_of S f)) → before + length S ≤ most_symbols
      → Stands cs e p (symbols_written S) → p + length (symbols_written S) ≡ e → e ≤ p + bound → symbols_at cs bound e before p ≡ got S e
  unfolding symbols_at symbols_written
  symbols-again [] zero e before p small room st ends enough = land refl (omega arith)
  symbols-again [] (suc bound) e before p small room st ends enough = land (symbols-none cs (suc bound) e before p (omega arith)) (omega arith)
  symbols-again (x ∷ S) zero e before p small room st ends enough = absurd (omega (arith, length-append (symbol_written x) (symbols_written S), symbol-long x))
  symbols-again (x ∷ S) (suc bound) e before p small room st ends enough =
      let one = symbol_written x in
      let others = symbols_written S in
      let sum = length-append one others in
      symbols-next cs bound e before p (omega (arith, symbol-long x)) ∙ then-got _ (symbol-again x e before p (small 0 (omega arith)) (omega arith) (stands-front one others st))
      ∙ then-got _ (symbols-again S bound e (suc before) (p + length one) (λ f lt. small (suc f) (omega arith)) (omega arith) (stands-behind one others st) (omega arith) (omega (arith, symbol-long x)))

  -- the symbol part, behind the version byte 2
  pub symbol_part-again : (S : Symbols) (behind : List ℕ) → cs ≡ 2 ∷ (counted (symbols_written S) ++ behind) → length cs ≤ most_book_bytes
      → ((f : ℕ) → InRange (symbol_of S f)) → 0 < length S → length S ≤ most_symbols → symbol_part cs ≡ got S (3 + length (symbols_written S))
  unfolding symbol_part opened counted
  symbol_part-again S behind whole size small some room =
      let n = length (symbols_written S) in
      let all : Stands cs (length cs) 0 (2 ∷ (two_bytes n ++ (symbols_written S ++ behind))) = record {
        rest = [];
        is = whole ∙ ap (◌∷◌ 2) (append_assoc (two_bytes n) (symbols_written S) behind) ∙ sym (append-nil _);
        within = omega (arith, ap length (whole ∙ ap (◌∷◌ 2) (append_assoc (two_bytes n) (symbols_written S) behind)));
      } in
      let part = stands-next all in
      let symbols = stands-to (3 + n) (omega arith) (stands-front (symbols_written S) behind (stands-two n (symbols_written S ++ behind) part)) in
      let long = symbols-long S some in
      then-got _ (passed _ _ (le-ltb most_book_bytes (length cs) size) ∙ then-got _ (byte_again all) ∙ passed _ _ refl ∙ passed _ _ refl
      ∙ then-got _ (length-again n (symbols_written S ++ behind) part (omega (arith, length-append (symbols_written S) behind)))
      ∙ passed _ _ (ne_eqb 3 (3 + n) (λ same. omega arith)))
      ∙ symbols-again S (3 + n - 3) (3 + n) 0 3 (λ f lt. small f) (omega arith) symbols refl (omega arith)
