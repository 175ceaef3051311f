-- The loop over the cases of a branch, one lemma for each way through the code.
use mathlib.Core.List.{List, ◌∷◌, ◌++◌}
use mathlib.Core.Path.{◌≡◌, refl}
use Prim.Native.Nat.{ℕ, ◌+◌, ◌≤◌, ◌<◌}
use lib.ListN.{length, get_or}
use Rattle.reading.specs.Reading.{Reading, got, refusal}
use Rattle.reading.specs.Answer.{keeping, nothing}
use Rattle.reading.proofs.Good.{good-got}
use Rattle.reading.proofs.Keeping.{kept-got, kept-refusal}
use Rattle.symbols.specs.Symbols.{Symbol, Symbols}
use Rattle.symbols.specs.Table.{symbol_in, symbols_in}
use Rattle.book.specs.Trees.{Tree, Trees}
use Rattle.book.specs.TreeAt.{tree_in}
use Rattle.book.specs.Reader.{Marked, MarkedRow}
use Rattle.book.proofs.Cases.{Onward, cases_of, onward_first, onward_read, onward_refused, onward_last}
use Rattle.book.proofs.Constructors.{symbols_from, next-symbol, no_symbol_lem, OnChain, Arrives}
use Rattle.book.proofs.TreeExtents.{tree_extent}
use Rattle.book.proofs.TreeWays.{Told}

-- a row that is refused marks nothing
refused-row : (from : ℕ) (was is : List ℕ) (row : Reading Trees) {c q : ℕ} → refusal c q ≡ keeping nothing row → MarkedRow from row was is
unfolding MarkedRow
refused-row from was is row told = rw (kept-refusal nothing row told, MarkedRow) tt

module _ (bs places : List ℕ) (sort e depth : ℕ) (vars done : List ℕ) (branch from : ℕ) (was : List ℕ) where
  -- the tree of a case that binds these sorts
  abbrev tree : List ℕ → ℕ → Reading Tree
  tree sorts q = tree_in bs (symbols_in bs places) sort e depth (vars ++ sorts) done q

  -- the cases of these symbols, from a place on
  abbrev cases_from : Symbols → ℕ → Reading Trees
  cases_from = cases_of bs (symbols_in bs places) sort e tree branch

  -- all the cases
  abbrev pub whole_row : Reading Trees
  whole_row = cases_from (symbols_in bs places) from

  -- the cases before symbol f were read and marked, up to p
  abbrev pub Reached : ℕ → ℕ → List ℕ → Type 0
  Reached f p is = Onward whole_row from was (cases_from (symbols_from bs places f) p) p is

  -- the row is told by an answer, and marked
  abbrev pub RowTold : Reading ℕ → List ℕ → Type 0
  RowTold r is = (r ≡ keeping nothing whole_row) × MarkedRow from whole_row was is

  -- the chain passes over no case
  passed_on : {k f : ℕ} (p : ℕ) (is : List ℕ) → Arrives bs places branch k f → Reached k p is → Reached f p is
  passed_on p is to on = rw to.same on

  -- where the chain begins no case was read
  pub cases-first : {f : ℕ} → Arrives bs places branch 0 f → Reached f from was
  cases-first to =
      passed_on from was to (onward_first bs (symbols_in bs places) sort e tree branch whole_row from was (cases_from (symbols_in bs places) from) refl refl refl)

  -- behind the last symbol all were
  pub cases_last : (f p : ℕ) (is : List ℕ) → length places ≤ f → Reached f p is → RowTold (got 0 p) is
  cases_last f p is h on = onward_last bs (symbols_in bs places) sort e tree branch whole_row from was p is (rw (no_symbol_lem bs places f h) at on)

  -- the next case
  module _ (f p : ℕ) (is : List ℕ) (h : f < length places) (chain : OnChain bs places branch f) (on : Reached f p is) where
    abbrev case : Symbol
    case = symbol_in bs (get_or places f 0)

    -- what is still to be read, with the case in front
    reached : Onward whole_row from was (cases_from (case ∷ symbols_from bs places (f + 1)) p) p is
    reached = rw (next-symbol bs places f h) at on

    module _ (bound : List ℕ) (binds : bound ≡ vars ++ case.arguments) where
      -- it was read, with these variables bound, and the chain goes on
      pub case-read : {v q k : ℕ} (now : List ℕ) → Told p (got v q) (tree_in bs (symbols_in bs places) sort e depth bound done p) is now
          → Arrives bs places branch (f + 1) k → Reached k q now
      unfolding Marked
      case-read {v} {q} now told to =
          let t = kept-got nothing _ told.answer in
          let size = (good-got (tree_extent bs (symbols_in bs places) sort e depth bound done p) t.1).size in
          let marks = rw (t.1, Marked) at told.marks in
          passed_on q now to (onward_read bs (symbols_in bs places) sort e tree branch whole_row from was case (symbols_from bs places (f + 1)) p q is now t.0 (chain h)
          (rw (← binds) t.1) size marks reached)

      -- it is refused
      pub case-refused : {c q : ℕ} (now : List ℕ) → refusal c q ≡ keeping nothing (tree_in bs (symbols_in bs places) sort e depth bound done p) → RowTold (refusal c q) now
      case-refused {c} {q} now told =
          let answer = onward_refused bs (symbols_in bs places) sort e tree branch whole_row from was case (symbols_from bs places (f + 1)) p is c q (chain h)
          (rw (← binds) (kept-refusal nothing _ told)) reached in
          (answer, refused-row from was now whole_row answer)
