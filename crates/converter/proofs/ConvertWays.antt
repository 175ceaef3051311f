-- What the converter makes and hands back: one lemma for each way through the code.
use mathlib.Core.List.{List, ◌++◌}
use mathlib.Core.Path.{◌≡◌, sym, ◌∙◌}
use Prim.Native.Nat.{ℕ, ◌+◌, ◌<◌, ◌≤◌}
use native.Mathlib.Nat.{zero-add}
use native.Mathlib.Omega.{arith}
use borrow.Author.Tests.{lt-ltb, le-ltb, eq-eqb, ne_eqb}
use lib.ListN.{length, drop, length-append}
use lib.Seq.{sets, take_at}
use Rattle.limits.specs.Sizes.{most_book_bytes}
use Rattle.reading.specs.Reading.{got, refusal}
use Rattle.reading.specs.Bytes.{big_endian, version_of}
use Rattle.reading.specs.Answer.{keeping}
use Rattle.reading.proofs.Keeping.{kept-got, kept-refusal, passed, failed-test}
use Rattle.book.specs.Rules.{Rules}
use Rattle.book.specs.Admission.{read_book}
use Rattle.book.specs.Index.{ends_after}
use Rattle.writer.specs.Exact.{Bytes}
use Rattle.writer.proofs.Putting.{sets_behind}
use Rattle.writer.proofs.Making.{put_front}
use Rattle.converter.specs.Written.{counted}
use Rattle.converter.specs.Convert.{Outcome, refusing, read_old, laid, convert}
use Rattle.converter.specs.InCode.{Put, MadeOf}
use Rattle.converter.specs.declared.made.Made.{Made}
use Rattle.converter.specs.Scan.{front, items, scanned}
use Rattle.converter.proofs.Scanned.{scanned-is}

-- ---- the bytes that are made

-- the front, and behind it the items, counted
pub all_made : (bs ends zeros : List ℕ) {q most most' : ℕ} {one : List ℕ} (made : Made) → length zeros ≡ most_book_bytes → Put (front bs) zeros 0 most q one
    → Put (counted (items bs ends (3 + big_endian bs 1 + 2))) one q most' made.size made.bytes → MadeOf (scanned bs ends) made
unfolding scanned
all_made bs ends zeros {q} {one = one} made room first second =
    let trees = counted (items bs ends (3 + big_endian bs 1 + 2)) in
    let all = front bs ++ trees in
    let start : q ≡ length (front bs) = omega (arith, first.behind) in
    let size : made.size ≡ length all = omega (arith, second.behind, length-append (front bs) trees) in
    record {
      size = size;
      bytes = λ fits.
          let put : made.bytes ≡ sets zeros 0 all =
          second.put fits ∙ rw (first.put (omega (arith, second.behind)), start) (sym (rw zero-add at (sets_behind zeros 0 (front bs) trees))) in
          rw (put, put_front all zeros (omega arith)) (take_at all _ made.size (sym size));
    }

-- ---- into the room

module _ (cs room : List ℕ) {size : ℕ} (long : size ≡ length cs) where
  pub too_large_lem : most_book_bytes < size → refusing 52 0 room ≡ laid cs room
  unfolding laid
  too_large_lem large = rw (laid, lt-ltb most_book_bytes (length cs) (omega arith))

  module _ (fits : size ≤ most_book_bytes) where
    pub no_room : length room < size → refusing 52 0 room ≡ laid cs room
    unfolding laid
    no_room less = rw (laid, le-ltb most_book_bytes (length cs) (omega arith), lt-ltb (length room) (length cs) (omega arith))

    pub book-laid : size ≤ length room → {made is : List ℕ} → made ≡ cs → is ≡ made ++ drop size room
        → ◌≡◌ {A = Outcome} (record { number = 0; place = 0; bytes = size; room = is }) (laid cs room)
    unfolding laid
    book-laid enough same copied = rw (laid, le-ltb most_book_bytes (length cs) (omega arith), le-ltb (length room) (length cs) (omega arith), copied, same, long)

-- ---- what is handed back

module _ (bs room : List ℕ) where
  pub over-size : most_book_bytes < length bs → refusing 1 0 room ≡ convert bs room
  unfolding convert read_old
  over-size large = let read : read_old bs ≡ refusal 1 0 = failed-test _ _ _ (lt-ltb most_book_bytes (length bs) large) in rw (convert, read)

  module _ (size : length bs ≤ most_book_bytes) where
    pub second-version : version_of bs ≡ 2 → refusing 2 0 room ≡ convert bs room
    unfolding convert read_old
    second-version is =
        let read : read_old bs ≡ refusal 2 0 = passed _ _ (le-ltb most_book_bytes (length bs) size) ∙ failed-test _ _ _ (eq-eqb (version_of bs) 2 is) in
        rw (convert, read)

    module _ (other : version_of bs ≡ 2 → ⊥) where
      old-is : read_old bs ≡ read_book bs
      unfolding read_old
      old-is = passed _ _ (le-ltb most_book_bytes (length bs) size) ∙ passed _ _ (ne_eqb (version_of bs) 2 other)

      pub not-admitted : {c p : ℕ} → refusal c p ≡ keeping (λ (x : Rules). length x.symbols) (read_book bs) → refusing c p room ≡ convert bs room
      unfolding convert
      not-admitted told = rw (convert, old-is, kept-refusal _ (read_book bs) told)

      admitted-laid : Bytes bs → {r : Rules} {p : ℕ} → read_book bs ≡ got r p → laid (scanned bs (ends_after (read_book bs))) room ≡ convert bs room
      unfolding convert
      admitted-laid bytes read = rw (scanned-is bs bytes read, convert, old-is, read)

      pub converted-laid : Bytes bs → {n p : ℕ} {ends : List ℕ} → got n p ≡ keeping (λ (x : Rules). length x.symbols) (read_book bs)
          → ends ≡ ends_after (read_book bs)
          → laid (scanned bs ends) room ≡ convert bs room
      converted-laid bytes told marked = rw marked (admitted-laid bytes (kept-got _ (read_book bs) told).1)
