-- The promise of `specs/Promised.antt` is kept by every listing that is not refused.
use mathlib.Core.Bool.{Bool, true, false, ◌||◌}
use mathlib.Core.Path.{◌≡◌, refl, sym, ap, ◌∙◌}
use mathlib.Core.List.{List, [], ◌++◌}
use Prim.Native.Nat.{ℕ, ◌+◌, ◌<◌}
use native.Mathlib.Omega.{arith}
use lib.Dec.{ltb}
use lib.ListN.{length, drop}
use lib.Seq.{take-append_seam}
use Rattle.reading.specs.Reading.{Reading, got, refusal}
use Rattle.reading.specs.Bytes.{two_bytes}
use Rattle.expressions.specs.Expressions.{Expr, Exprs}
use Rattle.book.specs.Admission.{read_book, question_opened, asked_at, read_question}
use Rattle.tagged.specs.Listing.{Broader, broader_in}
use Rattle.tagged.specs.Terms.{symbols_for, rules_for}
use Rattle.tagged.specs.Laid.{expr_laid, laid}
use Rattle.tagged.specs.Write.{nodes_of, passes, refusing, written, book_from, Outcome}
use Rattle.tagged.specs.Hops.{Inside}
use Rattle.tagged.proofs.Accepted.{accepted}
use Rattle.tagged.proofs.Refused.{number_is, numbered}
use Rattle.above.specs.Promised.{asking, Promised}
use Rattle.above.proofs.Standing.{goes_on, passes-test, byte_reads, length_reads}
use Rattle.above.proofs.ExprBack.{Readable, whole_reads}
use Rattle.above.proofs.BookBack.{or-false, book-back}
use Rattle.above.proofs.Fits.{symbol-fits}
use Rattle.above.proofs.Reaching.{reached}

-- any symbol can be asked for
question-back : (broader : Broader) → Inside broader → (f : ℕ) → f < length broader + (length broader + length broader)
    → read_question (symbols_for (length broader)) (asking f) ≡ got (Expr.apply f Exprs.no_exprs) 7
unfolding read_question question_opened asked_at two_bytes expr_laid nodes_of Readable
question-back broader inside f low =
    let bs = asking f in
    let S = symbols_for (length broader) in
    let x = Expr.apply f Exprs.no_exprs in
    goes_on _ (passes-test _ _ _ refl ∙ goes_on _ (byte_reads bs 10 7 0 1 _ (omega arith) refl) ∙ passes-test _ _ _ refl ∙ passes-test _ _ _ refl ∙ length_reads bs 10 7 1 4 _ (omega arith) refl)
    ∙ goes_on _ (byte_reads bs 10 7 3 0 _ (omega arith) refl) ∙ passes-test _ _ _ refl
    ∙ goes_on _ (whole_reads bs 10 S 7 [] x 0 4 [] (symbol-fits broader inside f low) tt (omega arith) (omega arith) refl)
    ∙ passes-test _ _ _ refl ∙ passes-test _ _ _ refl

-- ---- the ways of the writer

abbrev pub bytes_of : Broader → List ℕ
bytes_of broader = laid (rules_for broader)

abbrev pub too_large : Broader → List ℕ → Bool
too_large broader room = passes broader || ltb (length room) (length (bytes_of broader))

module _ (broader : Broader) (room : List ℕ) where
  -- 43
  pub over : too_large broader room ≡ true → written broader room ≡ refusing 43 0 room
  unfolding written
  over is = simp (written, is)

  -- written
  pub fits : too_large broader room ≡ false → written broader room
      ≡ record { result = record { number = 0; line = 0; bytes = length (bytes_of broader) }; room = bytes_of broader ++ drop (length (bytes_of broader)) room }
  unfolding written
  fits is = simp (written, is)

module _ (listing room : List ℕ) where
  -- 40 to 42
  pub told-refusal : {c line : ℕ} → broader_in listing ≡ refusal c line → book_from listing room ≡ refusing c line room
  unfolding book_from
  told-refusal is = simp (book_from, is)

  -- 43, or written
  pub told : {broader : Broader} {line : ℕ} → broader_in listing ≡ got broader line → book_from listing room ≡ written broader room
  unfolding book_from
  told is = simp (book_from, is)

-- the number that is handed back
abbrev pub number : Outcome → ℕ
number o = o.result.number

-- ---- the promise

-- of what is written
kept : (listing room : List ℕ) (broader : Broader) (line : ℕ) → broader_in listing ≡ got broader line → too_large broader room ≡ false
    → Promised listing (written broader room)
unfolding rules_for
kept listing room broader line says within =
    let good = accepted listing says in
    let bytes = bytes_of broader in
    let read = book-back broader good.inside good.some (or-false (passes broader) _ within).0 in
    rw (fits broader room within) (record {
      broader = broader;
      line = line;
      says = says;
      within = (or-false (passes broader) _ within).0;
      admitted = ap read_book (take-append_seam bytes (drop (length bytes) room)) ∙ read;
      asked = question-back broader good.inside;
      reached = reached broader good.inside;
    })

-- EVERY LISTING THAT IS NOT REFUSED KEEPS IT.
pub promised : (listing room : List ℕ) → (book_from listing room).result.number ≡ 0 → Promised listing (book_from listing room)
promised listing room done = by (broader_in listing) refl
  where
    fit : (broader : Broader) (line : ℕ) → broader_in listing ≡ got broader line → (t : Bool) → too_large broader room ≡ t → Promised listing (book_from listing room)
    fit broader line is true large =
        absurd (omega (arith, sym (ap number (told listing room is ∙ over broader room large)) ∙ done))
    fit broader line is false within = rw (told listing room is) (kept listing room broader line is within)

    by : (r : Reading Broader) → broader_in listing ≡ r → Promised listing (book_from listing room)
    by (refusal c line) is =
        absurd (omega (arith, (number_is (numbered listing) is).0, sym (ap number (told-refusal listing room is)) ∙ done))
    by (got broader line) is = fit broader line is (too_large broader room) refl
