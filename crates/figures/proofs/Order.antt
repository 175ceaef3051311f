-- The figures count, for each symbol, in how many answers it stands, and where no book is refused its place among the others does not matter.
use mathlib.Core.List.{List, Permᴰ}
use mathlib.Core.Logic.{∥∥₁_elim}
use mathlib.Core.Path.{◌≡◌, refl, sym, ap, subst, ◌∙◌}
use Prim.Native.Nat.{ℕ, ◌<◌}
use native.Mathlib.Nat.{ℕ_set}
use native.Mathlib.Omega.{arith}
use lib.ListN.{length, get_or}
use lib.Seq.{ext_get_or}
use Rattle.reading.specs.Reading.{Reading}
use Rattle.figures.specs.Figures.{books_at, Outcome, ended_as, figures}
use Rattle.tallies.specs.Tallied.{how_many}
use Rattle.figures.specs.Counts.{all_answers, laid, books_in, Counted, AnyOrder, FoundAreLaid, AnyOrderFound}
use Rattle.tallies.proofs.Exactly.{read, refused}
use Rattle.tallies.proofs.Tallying.{WithAnswers}
use Rattle.figures.proofs.Counting.{Readable}
use Rattle.figures.proofs.Books.{AllReadable, none, also, how_many-both, Countable, Books, books_added, finds-laid, books_found}

-- ---- what is handed back

-- all books were counted
record Finished (bs row : List ℕ) : Type 0 where
  pub row' : List ℕ
  pub is : figures bs row ≡ record { number = 0; place = 0; row = row' }
  pub fine : Countable bs row 0 (books_in bs)
  pub added : WithAnswers row (all_answers (books_in bs)) row'

module _ (bs row : List ℕ) where
  all_added : Books bs (books_in bs) row 0 (books_at bs (length bs) row 0)
  unfolding books_in
  all_added = books_added bs (length bs) row 0 (omega arith) (omega arith)

  -- with number 0 they were
  finished : (figures bs row).number ≡ 0 → Finished bs row
  unfolding figures ended_as
  finished zero_is = by all_added refl zero_is
    where
      by : {r : Reading (List ℕ)} → Books bs (books_in bs) row 0 r → books_at bs (length bs) row 0 ≡ r → (ended_as row r).number ≡ 0 → Finished bs row
      by (read {a} fine added) is h = record { row' = a; is = ap (ended_as row) is; fine = fine; added = added }
      by (refused lt not) is h = absurd (omega arith)

  -- and it is 0 if they can be
  pub finishes : Countable bs row 0 (books_in bs) → (figures bs row).number ≡ 0
  unfolding figures ended_as
  finishes fine = by all_added
    where
      by : {r : Reading (List ℕ)} → Books bs (books_in bs) row 0 r → (ended_as row r).number ≡ 0
      by (read _ _) = refl
      by (refused _ not) = absurd (not fine)

-- "FOR EACH SYMBOL, in how many answers it stands"
pub counted : Counted
counted bs row h f there =
    let end = finished bs row h in
    ap (λ (o : Outcome). get_or o.row f 0) end.is ∙ end.added.total f there

-- ---- the order of the books

-- it does not change how many answers a symbol stands in
reordered_same : (f : ℕ) {books others : List (List ℕ)} → Permᴰ books others → how_many f (all_answers books) ≡ how_many f (all_answers others)
unfolding all_answers
reordered_same f Permᴰ.nil = refl
reordered_same f (Permᴰ.cons same order) = simp (how_many-both, reordered_same f order, same)
reordered_same f (Permᴰ.swap one other) = simp (how_many-both, one, other) (omega arith)
reordered_same f (Permᴰ.trans first second) = reordered_same f first ∙ reordered_same f second

-- nor that each is in the layout
reordered_readable : {books others : List (List ℕ)} → Permᴰ books others → AllReadable books → AllReadable others
reordered_readable Permᴰ.nil none = none
reordered_readable (Permᴰ.cons same order) (also one others) = also (subst Readable same one) (reordered_readable order others)
reordered_readable (Permᴰ.swap one other) (also first (also second others)) = also (subst Readable other second) (also (subst Readable one first) others)
reordered_readable (Permᴰ.trans first second) all = reordered_readable second (reordered_readable first all)

-- so books that can be counted can be in another order
reordered_finishes : (books others : List (List ℕ)) (row : List ℕ) → Permᴰ books others → (figures (laid books) row).number ≡ 0 → (figures (laid others) row).number ≡ 0
reordered_finishes books others row order h =
    let fine = rw (finds-laid books) at (finished (laid books) row h).fine in
    finishes (laid others) row (rw (finds-laid others) (
      omega arith,
      reordered_readable order fine.1,
      λ f some.
          let same = reordered_same f order in
          let there = fine.2 f (omega arith) in
          (there.0, omega (arith, there.1)),
    ))

-- "WHERE NONE IS REFUSED the order of the books doesn't matter"
pub any_order : AnyOrder
any_order books others row order h =
    let h' : (figures (laid others) row).number ≡ 0 = ∥∥₁_elim order (ℕ_set _ _) λ d. reordered_finishes books others row d h in
    let one = finished (laid books) row h in
    let other = finished (laid others) row h' in
    let same : (f : ℕ) → how_many f (all_answers (books_in (laid books))) ≡ how_many f (all_answers (books_in (laid others))) = λ f.
    rw (finds-laid books, finds-laid others) (∥∥₁_elim order (ℕ_set _ _) λ d. reordered_same f d) in
    let rows : other.row' ≡ one.row' = ext_get_or 0 other.row' one.row' (other.added.long ∙ sym one.added.long) (λ f there.
    let in_row : f < length row = omega (arith, other.added.long) in
    omega (arith, other.added.total f in_row, one.added.total f in_row, same f)) in
    other.is ∙ ap (λ (r : List ℕ). record { number = 0; place = 0; row = r }) rows ∙ sym one.is

-- ---- any buffer

-- EVERY BUFFER OF BYTES that is not refused is one of books that are laid
pub found-are-laid : FoundAreLaid
unfolding books_in
found-are-laid bs row bytes h = books_found bs bytes (length bs) 0 (omega arith) (finished bs row h).fine.0

pub any-order-found : AnyOrderFound
any-order-found bs row others bytes order h =
    let same = found-are-laid bs row bytes h in
    any_order (books_in bs) others row order (ap (λ (l : List ℕ). (figures l row).number) same ∙ h) ∙ ap (λ (l : List ℕ). figures l row) same
