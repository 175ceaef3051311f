-- What runs can come to, whatever their fuel: refused before the first turn, or book and question are admitted and they have their turns.
use mathlib.Core.Bool.{Bool, true, false}
use mathlib.Core.Path.{◌≡◌, refl}
use mathlib.Core.List.{List}
use Prim.Native.Nat.{ℕ, ◌<◌}
use native.Mathlib.Omega.{arith}
use lib.Dec.{ltb, eqb}
use lib.ListN.{length}
use Rattle.reading.specs.Reading.{Reading, got, refusal}
use Rattle.expressions.specs.Expressions.{Expr}
use Rattle.book.specs.Rules.{Rules, book_of}
use Rattle.book.specs.Admission.{read_book, read_question}
use Rattle.machine.specs.Turn.{turns, loaded}
use Rattle.machine.specs.Run.{Memory, Outcome, rooms_of, refused_at, ended_as, run_loaded, run}
use Rattle.meaning.proofs.Refusals.{book-refused, question-refused}

-- Runs are refused before the first turn, with a number above 0; or book and question are admitted and they have their turns.
pub data Ran (book asking : List ℕ) (m : Memory) : (ℕ → Outcome) → Type 0 where
  early : (c p : ℕ) → 0 < c → Ran book asking m (λ fuel. refused_at c p m)
  late : {r : Rules} {q : Expr} {p p' : ℕ} → read_book book ≡ got r p → read_question r.symbols asking ≡ got q p'
      → Ran book asking m (λ fuel. ended_as m (turns (book_of r) (rooms_of m) fuel (loaded q)))

module _ (book asking : List ℕ) (m : Memory) where
  -- one test more that may refuse the runs
  refused-if : (test : Bool) (c : ℕ) {o : ℕ → Outcome} → 0 < c → Ran book asking m o
      → Ran book asking m (λ fuel. elim test [ true ↦ refused_at c 0 m | false ↦ o fuel ])
  refused-if true c lt later = Ran.early c 0 lt
  refused-if false c lt later = later

  -- every run is one of these
  pub ran : Ran book asking m (λ fuel. run book asking fuel m)
  unfolding run run_loaded
  ran = with-book (read_book book) refl
    where
      with-question : {r : Rules} {p : ℕ} → read_book book ≡ got r p → (y : Reading Expr) → read_question r.symbols asking ≡ y
          → Ran book asking m (λ fuel. elim y [ refusal c p ↦ refused_at c p m | got q _ ↦ run_loaded (book_of r) fuel m (loaded q) ])
      with-question {r} admitted (refusal c p) e = Ran.early c p (question-refused r.symbols asking e)
      with-question admitted (got q p) e =
          refused-if (eqb (length m.bytes) 0) 25 (omega arith) (refused-if (ltb (rooms_of m).nodes (length (loaded q).heap)) 21 (omega arith)
          (refused-if (eqb (length m.list) 0) 23 (omega arith) (Ran.late admitted e)))

      with-book : (x : Reading Rules) → read_book book ≡ x
          → Ran book asking m (λ fuel. elim x [
            | refusal c p ↦ refused_at c p m
            | got r _ ↦ elim (read_question r.symbols asking) [ refusal c p ↦ refused_at c p m | got q _ ↦ run_loaded (book_of r) fuel m (loaded q) ]
          ])
      with-book (refusal c p) e = Ran.early c p (book-refused book e)
      with-book (got r p) e = with-question e (read_question r.symbols asking) refl
