-- What request L9 asks of the converter: what it writes is admitted exactly if it fits, and gives the same runs.
use mathlib.Core.Bool.{true, false, not}
use mathlib.Core.Path.{◌≡◌, refl, sym, ap, ◌∙◌}
use mathlib.Core.List.{List, [], ◌∷◌, ◌++◌, append-nil}
use Prim.Native.Nat.{ℕ, zero, suc, ◌+◌, ◌-◌, ◌≤◌, ◌<◌}
use native.Mathlib.Omega.{arith}
use borrow.Author.Tests.{lt-ltb, ltb-false, eqb-false, not-false}
use lib.Dec.{ltb, eqb}
use lib.ListN.{length, get_or, length-append}
use lib.Seq.{drop_at}
use Rattle.limits.specs.Sizes.{most_book_bytes}
use Rattle.reading.specs.Reading.{Reading, got, refusal}
use Rattle.reading.specs.Bytes.{version_of, two_bytes}
use Rattle.reading.proofs.Good.{Good, good, good-got, then-good, unless, whenever, byte_good, length-good}
use Rattle.reading.proofs.Keeping.{then-got, then-refusal, failed-test}
use Rattle.symbols.specs.Symbols.{Symbols, symbol_of, no_symbol, constructors_before}
use Rattle.symbols.specs.SymbolPart.{symbols_at, opened, symbol_part}
use Rattle.symbols.proofs.Parts.{part-got}
use Rattle.expressions.specs.Expressions.{Expr}
use Rattle.book.specs.Trees.{Tree, Trees, tree_at}
use Rattle.book.specs.TreeAt.{tree_part}
use Rattle.book.specs.Rules.{Rules, book_of}
use Rattle.book.specs.Admission.{read_book, read_question}
use Rattle.machine.specs.Turn.{State, loaded, turns, Ended}
use Rattle.machine.specs.Run.{Memory, Outcome, rooms_of, refused_at, ended_as, run_loaded, run}
use Rattle.converter.specs.Written.{counted, symbols_written, items_written, book_written}
use Rattle.converter.specs.Converted.{without_exempt, without_exempts, trees_converted, converted}
use Rattle.converter.specs.Convert.{read_old, new_book}
use Rattle.converter.specs.Same.{SameRuns, AdmittedIfFits, Replaces}
use Rattle.converter.proofs.Turning.{Tamed, TamedRow, turns_same}
use Rattle.converter.proofs.Standing.{Stands, two-long}
use Rattle.converter.proofs.TreesAgain.{part-again}
use Rattle.converter.proofs.SymbolsAgain.{symbol_part-again}

-- ---- turns

mutual
  unfolding without_exempt

  tamed : (t : Tree) → Tamed t (without_exempt t)
  tamed Tree.exempt = Tamed.spot
  tamed (Tree.rule x) = Tamed.rule
  tamed (Tree.branch x ts) = Tamed.branch (tamed_row ts)

  tamed_row : (ts : Trees) → TamedRow ts (without_exempts ts)
  tamed_row Trees.no_trees = TamedRow.none
  tamed_row (Trees.more_trees t ts) = TamedRow.more (tamed t) (tamed_row ts)

-- the trees of operations
operation_tamed : (S : Symbols) (ts : Trees) (f : ℕ) → (symbol_of S f).is_operation ≡ true → Tamed (tree_at ts f) (tree_at (trees_converted S ts) f)
unfolding tree_at trees_converted no_symbol
operation_tamed [] ts f k = absurd (let z : ◌≡◌ {A = ℕ} 0 1 = cc in omega arith)
operation_tamed (x ∷ S) Trees.no_trees f k = Tamed.exempt
operation_tamed (x ∷ S) (Trees.more_trees t ts) zero k = rw k (tamed t)
operation_tamed (x ∷ S) (Trees.more_trees t ts) (suc f) k = operation_tamed S ts f k

module _ (r : Rules) (fuel : ℕ) (m : Memory) (s : State) where
  all-turns : turns (book_of (converted r)) (rooms_of m) fuel s ≡ turns (book_of r) (rooms_of m) fuel s
  unfolding book_of converted
  all-turns = sym (turns_same (λ f. not (symbol_of r.symbols f).is_operation) (λ f. constructors_before (symbol_of r.symbols f).sort r.symbols f)
      (λ f. tree_at r.trees f) (λ f. tree_at (trees_converted r.symbols r.trees) f) (λ f k. operation_tamed r.symbols r.trees f (not-false _ k)) (rooms_of m) fuel s)

  -- so does a loaded question
  loaded-same : run_loaded (book_of (converted r)) fuel m s ≡ run_loaded (book_of r) fuel m s
  unfolding run_loaded
  loaded-same = ap came all-turns
    where
      came : Ended → Outcome
      came e = elim (eqb (length m.bytes) 0) [
        | true ↦ refused_at 25 0 m
        | false ↦ elim (ltb (rooms_of m).nodes (length s.heap)) [
          | true ↦ refused_at 21 0 m
          | false ↦ elim (eqb (length m.list) 0) [ true ↦ refused_at 23 0 m | false ↦ ended_as m e ]
        ]
      ]

-- ---- bytes

-- a book that is read by the converter is a book
old-read : (bs : List ℕ) → Good (λ r p. read_book bs ≡ got r p) (read_old bs)
unfolding read_old
old-read bs = unless _ _ _ λ _ _. unless _ _ _ λ _ _. whenever (read_book bs) (λ r p is. is)

-- two bytes more
counted-long : (xs : List ℕ) → length (counted xs) ≡ 2 + length xs
unfolding counted
counted-long xs = omega (arith, length-append (two_bytes (length xs)) xs, two-long (length xs))

-- what is written is read to the rules without exempts
book-again : (bs : List ℕ) → Good (λ r p. length (new_book r) ≤ most_book_bytes → read_book (new_book r) ≡ got (converted r) (length (new_book r))) (read_book bs)
unfolding read_book converted book_written
book-again bs =
    then-good (whenever {P = λ S b. symbol_part bs ≡ got S b} (symbol_part bs) (λ S b is. is)) λ S b first.
    then-good (whenever {P = λ ts q. tree_part bs S b ≡ got ts q} (tree_part bs S b) (λ ts q is. is)) λ ts q second.
    good λ fits.
    let read = part-got bs first in
    let symbols = symbols_written S in
    let items = items_written S (trees_converted S ts) in
    let cs : List ℕ = 2 ∷ (counted symbols ++ counted items) in
    let front = counted-long symbols in
    let sum = length-append (counted symbols) (counted items) in
    let stands : Stands cs (length cs) (3 + length symbols) (counted items) = record {
      rest = [];
      is = drop_at (2 ∷ counted symbols) (counted items) (3 + length symbols) (omega arith) ∙ sym (append-nil (counted items));
      within = omega arith;
    } in
    then-got _ (symbol_part-again cs S (counted items) refl fits read.in_range read.some read.room)
    ∙ then-got _ (good-got (part-again bs cs refl S b) second (3 + length symbols) stands (omega arith))

-- more bytes than a book has are refused
too_large_lem : (cs : List ℕ) → most_book_bytes < length cs → read_book cs ≡ refusal 1 0
unfolding read_book symbol_part opened
too_large_lem cs over = then-refusal _ (then-refusal _ (failed-test _ _ _ (lt-ltb most_book_bytes (length cs) over)))

-- ---- what is asked

pub admitted-if-fits : AdmittedIfFits
admitted-if-fits bs r p old = (good-got (book-again bs) (good-got (old-read bs) old), too_large_lem (new_book r))

pub same_runs : SameRuns
unfolding run converted
same_runs bs r p old fits question fuel m =
    rw (run, (admitted-if-fits bs r p old).0 fits, good-got (old-read bs) old) (asked (read_question r.symbols question))
  where
    asked : (q : Reading Expr) → ◌≡◌ {A = Outcome} (elim q [ refusal c b ↦ refused_at c b m | got x _ ↦ run_loaded (book_of (converted r)) fuel m (loaded x) ])
        (elim q [ refusal c b ↦ refused_at c b m | got x _ ↦ run_loaded (book_of r) fuel m (loaded x) ])
    asked (refusal c b) = refl
    asked (got x b) = loaded-same r fuel m (loaded x)

-- ---- the old book and the new one

-- an admitted book that is not of version 2 is of version 1
version-one : (bs : List ℕ) → (version_of bs ≡ 2 → ⊥) → Good (λ e q. version_of bs ≡ 1) (opened bs)
unfolding opened
version-one bs other =
    unless _ _ _ λ _ _. then-good (byte_good bs 0 (length bs) 0) λ version p byte. unless _ _ (eqb version 0) λ _ some. unless _ _ (ltb 2 version) λ _ small.
    then-good (length-good bs 0 (length bs) p) λ e q _. unless _ _ _ λ _ _.
    good (one version byte.0 (eqb-false version 0 some) (ltb-false 2 version small))
  where
    one : (version : ℕ) → version ≡ get_or bs 0 0 → (version ≡ 0 → ⊥) → version ≤ 2 → version_of bs ≡ 1
    one zero same some small = absurd (some refl)
    one (suc zero) same some small = sym same
    one (suc (suc version)) same some small = absurd (other (omega arith))

old-version : (bs : List ℕ) → Good (λ r p. version_of bs ≡ 1) (read_old bs)
unfolding read_old read_book symbol_part
old-version bs =
    unless _ _ _ λ _ _. unless _ _ (eqb (version_of bs) 2) λ _ other.
    then-good (then-good (version-one bs (eqb-false (version_of bs) 2 other)) λ e q one. whenever (symbols_at bs (e - q) e 0 q) (λ S p is. one)) λ S p one.
    then-good (whenever (tree_part bs S p) (λ ts q is. one)) λ ts q one. good one

pub replaced : (bs : List ℕ) (r : Rules) (p : ℕ) → read_old bs ≡ got r p → length (new_book r) ≤ most_book_bytes → Replaces bs (new_book r)
unfolding book_written
replaced bs r p old fits = record {
  rules = r;
  end = p;
  admitted = good-got (old-read bs) old;
  first = good-got (old-version bs) old;
  second = refl;
  written = (admitted-if-fits bs r p old).0 fits;
  runs = same_runs bs r p old fits;
}
