-- The book writer and the index figures keep what is promised: corollaries of the contracts of `writer::write_book` and `figures::add_figures` alone, which the kit
-- makes of their `ensures` in the code.
use mathlib.Core.Bool.{Bool, true, false}
use mathlib.Core.Path.{◌≡◌, refl, sym, ap, subst, ◌∙◌}
use mathlib.Core.List.{List, ◌++◌}
use Prim.Native.Nat.{ℕ, ◌<◌}
use native.Mathlib.Omega.{arith}
use types.Logic.{Logic}
use borrow.Author.Tests.{ltb-true}
use lib.Dec.{ltb}
use lib.ListN.{length, drop}
use lib.Seq.{take_at}
use seplogic.Ra.Ura.{Ura}
use prog.Model.{Model}
use prog.Wired.{Wired}
use contract.Monad.{fact, fact_mono, fm→mono}
use contract.Running.{Running}
use denote.Triple.Clauses.{at_exit, closing}
use denote.Triple.Spec.{Meets}
use denote.Triple.Table.{run_framed}
use denote.Triple.Weaken.{weaken}
use Rattle.reading.specs.Reading.{Reading, got, refusal}
use Rattle.writer.specs.Rows.{Rows}
use Rattle.limits.specs.Sizes.{most_book_bytes}
use Rattle.symbols.specs.Symbols.{Symbols}
use Rattle.symbols.specs.SymbolPart.{symbol_part}
use Rattle.book.specs.Rules.{Rules}
use Rattle.book.specs.Admission.{read_book}
use Rattle.writer.specs.Layout.{front_bytes}
use Rattle.writer.specs.Write.{Writing, made, refused, judged, made_of, laid, write}
use Rattle.writer.specs.Write as Write
use Rattle.writer.specs.InCode.{after as handed_back}
use Rattle.writer.proofs.Exact.{reads_back_lem, writes_back_lem, exactly}
use Rattle.writer.specs.contracts.write_book as writing
use Rattle.writer.proofs.write_book.Met as written-so
use Rattle.writer.proofs.write_book.Symbol as write_symbol
use Rattle.figures.specs.Figures.{books_at, ended_as, figures}
use Rattle.figures.specs.InCode.{after as figured_as}
use Rattle.figures.proofs.Order.{counted}
use Rattle.figures.specs.contracts.add_figures as adding
use Rattle.figures.proofs.add_figures.Met as added-so
use Rattle.figures.proofs.add_figures.Symbol as add-symbol
use Rattle.promises.specs.Desk.{MakesBook, AddsFigures}
use Rattle.promises.proofs.Contracts.{Claim, ensuring}

-- ---- the book writer

-- a refusal of rows is 50
abbrev Fifty : Writing → Type 0
Fifty (made bs) = Unit {0}
Fifty (refused c row) = c ≡ 50

judged_fifty : (count : ℕ) (bs : List ℕ) → Fifty (judged count bs)
unfolding judged
judged_fifty count bs = by (ltb most_book_bytes (length bs)) (read_book bs) refl refl
  where
    by : (large : Bool) (r : Reading Rules) → ltb most_book_bytes (length bs) ≡ large → read_book bs ≡ r → Fifty (judged count bs)
    by true r is read = rw (judged, is) refl
    by false (got rules p) is read = rw (judged, is, read) tt
    by false (refusal c p) is read = rw (judged, is, read) refl

made_fifty : (rows : Rows) → Fifty (made_of rows)
unfolding made_of
made_fifty rows = by (ltb most_book_bytes (length (front_bytes rows.symbols))) (symbol_part (front_bytes rows.symbols)) refl refl
  where
    by : (large : Bool) (r : Reading Symbols) → ltb most_book_bytes (length (front_bytes rows.symbols)) ≡ large → symbol_part (front_bytes rows.symbols) ≡ r
        → Fifty (made_of rows)
    by true r is read = rw (made_of, is) refl
    by false (got symbols p) is read = rw (made_of, is, read) (judged_fifty _ _)
    by false (refusal c p) is read = rw (made_of, is, read) refl

-- what was made is made once
made-same : {bs cs : List ℕ} → made bs ≡ made cs → bs ≡ cs
made-same e = cc

made-or : {bs : List ℕ} {c row : ℕ} → made bs ≡ refused c row → ⊥
made-or e = let z : ◌≡◌ {A = ℕ} 0 1 = cc in omega arith

module _ (rows : Rows) (room : List ℕ) where
  refused-keeps : (row : ℕ) → made_of rows ≡ refused 50 row → MakesBook rows room (Write.refusing 50 row room)
  refused-keeps row is = record {
    reads_back = λ none. absurd (omega (arith, none));
    writes_back = λ bs bytes book fits. absurd (made-or (sym (writes_back_lem rows bs bytes book) ∙ is));
    only50 = λ numbers _ meant. made-or (sym ((exactly rows numbers).1 meant).1 ∙ is);
    always50 = λ numbers other. absurd (other refl);
    untouched = λ _. refl;
  }

  module _ (bs : List ℕ) (is : made_of rows ≡ made bs) where
    over-keeps : length room < length bs → MakesBook rows room (Write.refusing 51 0 room)
    over-keeps over = record {
      reads_back = λ none. absurd (omega (arith, none));
      writes_back = λ cs bytes book fits. absurd (omega (arith, ap length (made-same (sym is ∙ writes_back_lem rows cs bytes book))));
      only50 = λ numbers fifty _. omega (arith, fifty);
      always50 = λ numbers _. (exactly rows numbers).0 (bs, is);
      untouched = λ _. refl;
    }

    laid-keeps : MakesBook rows room (record { result = record { number = 0; row = 0; bytes = length bs }; room = bs ++ drop (length bs) room })
    laid-keeps = record {
      reads_back = λ _. rw (take_at bs (drop (length bs) room) (length bs) refl) (reads_back_lem rows bs is);
      writes_back = λ cs bytes book fits. (refl, ap (λ (l : List ℕ). l ++ drop (length l) room) (made-same (sym is ∙ writes_back_lem rows cs bytes book)));
      only50 = λ numbers fifty _. omega (arith, fifty);
      always50 = λ numbers _. (exactly rows numbers).0 (bs, is);
      untouched = λ refuses. absurd (refuses refl);
    }

  makes-book : MakesBook rows room (write rows room)
  unfolding write laid
  makes-book = by (made_of rows) refl (made_fifty rows)
    where
      fitting : (bs : List ℕ) → made_of rows ≡ made bs → (over : Bool) → ltb (length room) (length bs) ≡ over → MakesBook rows room (write rows room)
      fitting bs is true over = rw (write, is, laid, over) (over-keeps bs is (ltb-true _ _ over))
      fitting bs is false over = rw (write, is, laid, over) (laid-keeps bs is)

      by : (w : Writing) → made_of rows ≡ w → Fifty (made_of rows) → MakesBook rows room (write rows room)
      by (made bs) is fifty = fitting bs is (ltb (length room) (length bs)) refl
      by (refused c row) is fifty =
          let c-fifty : c ≡ 50 = rw is at fifty in
          rw (write, is, laid, c-fifty) (refused-keeps row (is ∙ ap (λ n. refused n row) c-fifty))

abbrev pub BookMade : Claim writing.ended
BookMade κs a z e = MakesBook (record { symbols = a.0.now; trees = a.1.0.now }) a.1.1.0.now (handed_back z e.1.1.0.now)

pub write-book-keeps : {M : Type 1} {𝓤 : Ura M} (𝓛 : Logic 𝓤) (𝓜 : Model 𝓤 𝓛.H) (𝓡 : Running 𝓤 𝓛.H 𝓜)
    → Wired 𝓡.env write_symbol.code → Meets 𝓛 writing.signature (𝓡.run (𝓡.env write_symbol.name))
    (closing 𝓛 writing.ended (ensuring writing.ended BookMade M 𝓤 𝓛 𝓜.mem 𝓡.returns))
write-book-keeps {𝓤 = 𝓤} 𝓛 𝓜 𝓡 wired =
    weaken 𝓛 writing.ended (writing.clauses 𝓛 𝓜.mem 𝓡.returns) (λ κs a g z e. fact 𝓤 (BookMade κs a z e))
    (λ κs a g z ws. fact_mono 𝓤 _ (BookMade κs a z (at_exit writing.ended κs a ws)) (λ contract.
    let rows : Rows = record { symbols = a.0.now; trees = a.1.0.now } in
    subst (MakesBook rows a.1.1.0.now) (sym contract) (makes-book rows a.1.1.0.now)))
    (𝓡.run (𝓡.env write_symbol.name)) (λ vs. fm→mono 𝓤 (𝓡.run (𝓡.env write_symbol.name) vs) (run_framed 𝓤 𝓛.H 𝓜 𝓡 (𝓡.env write_symbol.name) vs)) (written-so.met 𝓤 𝓛 𝓜 𝓡 wired)

-- ---- the index figures

adds_figures : (books row : List ℕ) → AddsFigures books row (figures books row)
unfolding figures ended_as
adds_figures books row = record { counted = counted books row; untouched = by (books_at books (length books) row 0) refl }
  where
    by : (r : Reading (List ℕ)) → books_at books (length books) row 0 ≡ r → ((figures books row).number ≡ 0 → ⊥) → (figures books row).row ≡ row
    by (got row' p) is refuses = absurd (refuses (rw (figures, is, ended_as) refl))
    by (refusal c p) is refuses = rw (figures, is, ended_as) refl

abbrev pub FiguresAdded : Claim adding.ended
FiguresAdded κs a z e = AddsFigures a.0.now a.1.0.now (figured_as z e.1.0.now)

pub add_figures-keeps : {M : Type 1} {𝓤 : Ura M} (𝓛 : Logic 𝓤) (𝓜 : Model 𝓤 𝓛.H) (𝓡 : Running 𝓤 𝓛.H 𝓜)
    → Wired 𝓡.env add-symbol.code → Meets 𝓛 adding.signature (𝓡.run (𝓡.env add-symbol.name))
    (closing 𝓛 adding.ended (ensuring adding.ended FiguresAdded M 𝓤 𝓛 𝓜.mem 𝓡.returns))
add_figures-keeps {𝓤 = 𝓤} 𝓛 𝓜 𝓡 wired =
    weaken 𝓛 adding.ended (adding.clauses 𝓛 𝓜.mem 𝓡.returns) (λ κs a g z e. fact 𝓤 (FiguresAdded κs a z e))
    (λ κs a g z ws. fact_mono 𝓤 _ (FiguresAdded κs a z (at_exit adding.ended κs a ws)) (λ contract.
    subst (AddsFigures a.0.now a.1.0.now) (sym contract) (adds_figures a.0.now a.1.0.now)))
    (𝓡.run (𝓡.env add-symbol.name)) (λ vs. fm→mono 𝓤 (𝓡.run (𝓡.env add-symbol.name) vs) (run_framed 𝓤 𝓛.H 𝓜 𝓡 (𝓡.env add-symbol.name) vs)) (added-so.met 𝓤 𝓛 𝓜 𝓡 wired)
