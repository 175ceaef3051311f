-- The books of a buffer are counted, exactly if none is cut short, each is in the layout and the row has room for the answers; and books that are laid are
-- found again.
use mathlib.Core.Bool.{Bool, true, false}
use mathlib.Core.List.{List, [], ◌∷◌, ◌++◌}
use mathlib.Core.Path.{◌≡◌, refl, sym, ap, ap₂, ◌∙◌}
use Prim.Native.Nat.{ℕ, zero, suc, ◌+◌, ◌-◌, ◌*◌, ◌/◌, ◌%◌, ◌≤◌, ◌<◌}
use native.Mathlib.Omega.{arith}
use borrow.Author.Tests.{ltb-true, ltb-false, le-ltb, lt-ltb}
use lib.Dec.{ltb}
use lib.ListN.{length, get_or, take, drop, length-append, length-drop, take-append-drop, drop_of_length-le, get_or-append}
use lib.Seq.{get_or-drop, get_or-take, drop-drop, drop-cons, length-take-le, drop-append-le, drop-append-add, drop-append_seam, get_or-append-add, ext_get_or, slice, length-slice}
use Rattle.reading.specs.Reading.{Reading, got, ◌then◌}
use Rattle.reading.specs.Bytes.{two_bytes}
use Rattle.figures.specs.Figures.{book_end, book_at, books_at}
use Rattle.tallies.specs.Tallied.{how_many}
use Rattle.figures.specs.Counts.{answers_of, all_answers, laid, books_from, books_in, FindsLaid}
use Rattle.tallies.proofs.Exactly.{Exactly, read, next, unless, either, so}
use Rattle.tallies.proofs.Tallying.{Sum, added_none, room-none, added_more, room-first, room-others, room-all, once}
use Rattle.tallies.proofs.Tallying.{WithAnswers}
use Rattle.figures.proofs.Counting.{RoomFor, Readable, At, book_added}

-- each of them is in the layout
pub data AllReadable : List (List ℕ) → Type 0 where
  none : AllReadable []
  also : {book : List ℕ} {books : List (List ℕ)} → Readable book → AllReadable books → AllReadable (book ∷ books)

readable-first : {book : List ℕ} {books : List (List ℕ)} → AllReadable (book ∷ books) → Readable book
readable-first (also readable others) = readable

readable-others : {book : List ℕ} {books : List (List ℕ)} → AllReadable (book ∷ books) → AllReadable books
readable-others (also readable others) = others

-- answers of one book and of others
pub how_many-both : (f : ℕ) (some more : List (List ℕ)) → how_many f (some ++ more) ≡ how_many f some + how_many f more
unfolding how_many
how_many-both f [] more = omega arith
how_many-both f (symbols ∷ some) more = omega (arith, (once symbols (some ++ more)).at f, how_many-both f some more, (once symbols some).at f)

-- how long a book makes what is laid
laid-long : (book : List ℕ) (books : List (List ℕ)) → length (laid (book ∷ books)) ≡ 4 + length book + length (laid books)
unfolding laid two_bytes
laid-long book books = omega (arith, length-append book (laid books))

module _ (bs : List ℕ) where
  -- past the end there are no books
  books_none : (bound p : ℕ) → length bs ≤ p → books_from bs bound p ≡ []
  unfolding books_from
  books_none zero p past = refl
  books_none (suc bound) p past = simp (books_from, le-ltb p (length bs) past)

  -- nor where one is cut short
  books_cut : (bound p : ℕ) → length bs < book_end bs p → books_from bs bound p ≡ []
  unfolding books_from
  books_cut zero p cut = refl
  books_cut (suc bound) p cut = by (ltb p (length bs)) refl
    where
      by : (t : Bool) → ltb p (length bs) ≡ t → books_from bs (suc bound) p ≡ []
      by true is = simp (books_from, is, lt-ltb (length bs) (book_end bs p) cut)
      by false is = simp (books_from, is)

  -- else there is one, and those behind it
  books_more : (bound p : ℕ) → book_end bs p ≤ length bs → books_from bs (suc bound) p ≡ slice (p + 4) (book_end bs p) bs ∷ books_from bs bound (book_end bs p)
  unfolding books_from
  books_more bound p within = simp (books_from, lt-ltb p (length bs) (omega arith), le-ltb (length bs) (book_end bs p) within)

  -- it lies there
  slice_there : (p : ℕ) → book_end bs p ≤ length bs → At bs p (slice (p + 4) (book_end bs p) bs)
  slice_there p within =
      let long = length-slice (p + 4) (book_end bs p) bs within in
      record {
        size = omega (arith, long);
        within = within;
        lies = record {
          at = λ q i low high place.
              let here : q ≡ p + 4 + i = omega arith in
              rw here (sym (get_or-drop (p + 4) (take (book_end bs p) bs) i 0 ∙ get_or-take (book_end bs p) bs (p + 4 + i) 0 (omega (arith, long))));
        };
      }

  -- no book is cut short, each is in the layout, and the row has room for the answers
  abbrev pub Countable : List ℕ → ℕ → List (List ℕ) → Type 0
  Countable row p books = (length bs ≡ p + length (laid books)) × AllReadable books × RoomFor row (all_answers books)

  -- what counting them has to give
  abbrev pub Books : List (List ℕ) → List ℕ → ℕ → Reading (List ℕ) → Type 0
  Books books row p = Exactly (Countable row p books) (λ row' q. WithAnswers row (all_answers books) row')

  -- at the end there are none to be counted
  books_ended : (row : List ℕ) (bound p : ℕ) → p ≡ length bs → Books (books_from bs bound p) row p (got row p)
  unfolding all_answers laid how_many
  books_ended row bound p end = rw (books_none bound p (omega arith)) (read {a = row} {p = p} (omega arith, none, room-none row) (added_none row))

  -- a book that is cut short is refused
  cut-refused : (row : List ℕ) (p : ℕ) → length bs < book_end bs p → Exactly ⊥ (λ row' q. ⊥) (book_at bs row p)
  unfolding book_at
  cut-refused row p cut =
      unless _ _ _ (omega arith) (λ never. absurd never) λ _ _.
      unless _ _ (ltb (length bs) (book_end bs p)) (omega arith) (λ never. absurd never) λ _ fits.
      absurd (omega (arith, ltb-false (length bs) (book_end bs p) fits))

  -- one is counted, and then those behind it
  module _ (row : List ℕ) (p : ℕ) (book : List ℕ) (books : List (List ℕ)) (there : At bs p book) where
    books_sum : Sum (λ f. how_many f (all_answers (book ∷ books))) (λ f. how_many f (answers_of book)) (λ f. how_many f (all_answers books))
    unfolding all_answers
    books_sum = record { at = λ f. how_many-both f (answers_of book) (all_answers books) }

    book-more : {mid : List ℕ} {r : Reading (List ℕ)} → Readable book → RoomFor row (answers_of book) → WithAnswers row (answers_of book) mid
        → Books books mid (book_end bs p) r → Books (book ∷ books) row p r
    book-more readable room one =
        let long = laid-long book books in
        so
        (λ (whole, others, left). (omega (arith, there.size), also readable others, room-all one books_sum room left))
        (λ (whole, all, room'). (omega (arith, there.size), readable-others all, room-others one books_sum room'))
        (λ row' q _. added_more one books_sum)

  -- all of them are
  pub books_added : (bound : ℕ) (row : List ℕ) (p : ℕ) → p ≤ length bs → length bs ≤ p + bound → Books (books_from bs bound p) row p (books_at bs bound row p)
  unfolding books_at laid
  books_added zero row p h enough = books_ended row zero p (omega arith)
  books_added (suc bound) row p h enough =
      either (ltb p (length bs))
      (λ past. books_ended row (suc bound) p (omega (arith, ltb-false p (length bs) past)))
      (λ before. by (ltb (length bs) (book_end bs p)) refl (ltb-true p (length bs) before) (λ mid within. books_added bound mid (book_end bs p) within (omega arith)))
    where
      by : (t : Bool) → ltb (length bs) (book_end bs p) ≡ t → p < length bs
          → ((mid : List ℕ) → book_end bs p ≤ length bs → Books (books_from bs bound (book_end bs p)) mid (book_end bs p) (books_at bs bound mid (book_end bs p)))
          → Books (books_from bs (suc bound) p) row p (◌then◌ (book_at bs row p) λ row' q. books_at bs bound row' q)
      by true is before others =
          let cut = ltb-true (length bs) (book_end bs p) is in
          rw (books_cut (suc bound) p cut) (next (cut-refused row p cut) (λ (whole, _, _). omega arith) (λ row' q never _. absurd never))
      by false is before others =
          let within = ltb-false (length bs) (book_end bs p) is in
          let book = slice (p + 4) (book_end bs p) bs in
          let books = books_from bs bound (book_end bs p) in
          let there = slice_there p within in
          rw (books_more bound p within)
          (next (book_added bs p book there row) (λ (_, all, room). (readable-first all, room-first row (books_sum row p book books there) room)) λ mid q (readable, room) (one, end).
          rw end (book-more row p book books there readable room one (others mid within)))

-- ---- books that are laid

-- "each opened by a four-byte length"
abbrev opening : List ℕ → List ℕ
opening book = two_bytes (length book / 65536) ++ two_bytes (length book % 65536)

-- books that are laid from p on: the first, and those behind it
module _ (bs book : List ℕ) (books : List (List ℕ)) (p : ℕ) (rest : drop p bs ≡ laid (book ∷ books)) where
  -- how far they reach
  laid-size : length bs ≡ p + 4 + length book + length (laid books)
  laid-size = omega (arith, length-drop p bs, ap length rest, laid-long book books)

  -- what stands there
  byte_laid : (i : ℕ) → get_or bs (p + i) 0 ≡ get_or (laid (book ∷ books)) i 0
  byte_laid i = sym (get_or-drop p bs i 0) ∙ rw rest

  -- the length, of whatever size
  end-laid : book_end bs p ≡ p + 4 + length book
  unfolding laid two_bytes
  end-laid =
      let here : p ≡ p + 0 = omega arith in
      let first : get_or bs p 0 ≡ length book / 65536 / 256 = rw here (byte_laid 0) in
      let behind : p + 2 + 1 ≡ p + 3 = omega arith in
      let last : get_or bs (p + 2 + 1) 0 ≡ length book % 65536 % 256 = rw behind (byte_laid 3) in
      omega (arith, first, byte_laid 1, byte_laid 2, last)

  -- the book
  book-laid : slice (p + 4) (book_end bs p) bs ≡ book
  unfolding laid two_bytes
  book-laid =
      let e = book_end bs p in
      let long = length-slice (p + 4) e bs (omega (arith, laid-size, end-laid)) in
      ext_get_or 0 (slice (p + 4) e bs) book (omega (arith, long, end-laid)) λ i h.
      let behind : p + 4 + i ≡ p + (4 + i) = omega arith in
      get_or-drop (p + 4) (take e bs) i 0 ∙ get_or-take e bs (p + 4 + i) 0 (omega (arith, long))
      ∙ rw behind (byte_laid (4 + i) ∙ get_or-append-add (opening book) (book ++ laid books) i 0 ∙ get_or-append book (laid books) 0 i (omega (arith, long, end-laid)))

  -- the others
  books_behind : drop (book_end bs p) bs ≡ laid books
  unfolding laid two_bytes
  books_behind =
      let behind : book_end bs p ≡ p + (4 + length book) = omega (arith, end-laid) in
      rw (behind, ← drop-drop (4 + length book) p bs, rest) (drop-append-add (opening book) (book ++ laid books) (length book) ∙ drop-append_seam book (laid books))

-- they are found again
books_laid : (bs : List ℕ) (books : List (List ℕ)) (bound p : ℕ) → drop p bs ≡ laid books → length bs ≤ p + bound → books_from bs bound p ≡ books
unfolding laid
books_laid bs [] bound p rest enough = books_none bs bound p (omega (arith, length-drop p bs, ap length rest))
books_laid bs (book ∷ books) zero p rest enough = absurd (omega (arith, laid-size bs book books p rest))
books_laid bs (book ∷ books) (suc bound) p rest enough =
    let size = laid-size bs book books p rest in
    let end = end-laid bs book books p rest in
    books_more bs bound p (omega arith)
    ∙ ap₂ ◌∷◌ (book-laid bs book books p rest) (books_laid bs books bound (book_end bs p) (books_behind bs book books p rest) (omega arith))

-- BOOKS THAT ARE LAID are found in the buffer.
pub finds-laid : FindsLaid
unfolding books_in
finds-laid books = books_laid (laid books) books (length (laid books)) 0 refl (omega arith)

-- ---- books that are found

module _ (bs : List ℕ) (bytes : (i : ℕ) → get_or bs i 0 < 256) where
  -- a book that is not cut short, at p: its length is the one before it
  module _ (p : ℕ) (within : book_end bs p ≤ length bs) where
    abbrev book_there : List ℕ
    book_there = slice (p + 4) (book_end bs p) bs

    there-long : length book_there ≡ book_end bs p - (p + 4)
    there-long = length-slice (p + 4) (book_end bs p) bs within

    opening_there : opening book_there ≡ get_or bs p 0 ∷ get_or bs (p + 1) 0 ∷ get_or bs (p + 2) 0 ∷ get_or bs (p + 3) 0 ∷ []
    unfolding two_bytes
    opening_there =
        let last : get_or bs (p + 2 + 1) 0 ≡ get_or bs (p + 3) 0 = ap (λ (n : ℕ). get_or bs n 0) (omega arith) in
        let long : length book_there ≡ (get_or bs p 0 * 256 + get_or bs (p + 1) 0) * 65536 + (get_or bs (p + 2) 0 * 256 + get_or bs (p + 3) 0) = omega (arith, there-long, last) in
        let a : length book_there / 65536 / 256 ≡ get_or bs p 0 = omega (arith, bytes (p + 1), bytes (p + 2), bytes (p + 3)) in
        let b : length book_there / 65536 % 256 ≡ get_or bs (p + 1) 0 = omega (arith, bytes (p + 1), bytes (p + 2), bytes (p + 3)) in
        let c : length book_there % 65536 / 256 ≡ get_or bs (p + 2) 0 = omega (arith, bytes (p + 2), bytes (p + 3)) in
        let d : length book_there % 65536 % 256 ≡ get_or bs (p + 3) 0 = omega (arith, bytes (p + 2), bytes (p + 3)) in
        rw (a, b, c, d)

    four_there : drop p bs ≡ get_or bs p 0 ∷ get_or bs (p + 1) 0 ∷ get_or bs (p + 2) 0 ∷ get_or bs (p + 3) 0 ∷ drop (p + 4) bs
    four_there =
        let one : p + 1 ≡ suc p = omega arith in
        let two : p + 2 ≡ suc (p + 1) = omega arith in
        let three : p + 3 ≡ suc (p + 2) = omega arith in
        let four : p + 4 ≡ suc (p + 3) = omega arith in
        drop-cons bs p 0 (omega arith)
        ∙ ap (λ (l : List ℕ). get_or bs p 0 ∷ l) (ap (λ (n : ℕ). drop n bs) (sym one) ∙ drop-cons bs (p + 1) 0 (omega arith)
        ∙ ap (λ (l : List ℕ). get_or bs (p + 1) 0 ∷ l) (ap (λ (n : ℕ). drop n bs) (sym two) ∙ drop-cons bs (p + 2) 0 (omega arith)
        ∙ ap (λ (l : List ℕ). get_or bs (p + 2) 0 ∷ l) (ap (λ (n : ℕ). drop n bs) (sym three) ∙ drop-cons bs (p + 3) 0 (omega arith)
        ∙ ap (λ (l : List ℕ). get_or bs (p + 3) 0 ∷ l) (ap (λ (n : ℕ). drop n bs) (sym four)))))

    split-there : drop (p + 4) bs ≡ book_there ++ drop (book_end bs p) bs
    split-there =
        ap (drop (p + 4)) (sym (take-append-drop (book_end bs p) bs))
        ∙ drop-append-le (p + 4) (take (book_end bs p) bs) (drop (book_end bs p) bs) (omega (arith, length-take-le (book_end bs p) bs within))

    -- so it is laid there, before what stands behind it
    found-there : (books : List (List ℕ)) → laid books ≡ drop (book_end bs p) bs → laid (book_there ∷ books) ≡ drop p bs
    unfolding laid two_bytes
    found-there books behind =
        ap (λ (l : List ℕ). opening book_there ++ book_there ++ l) behind
        ∙ ap (λ (l : List ℕ). opening book_there ++ l) (sym split-there)
        ∙ ap (λ (l : List ℕ). l ++ drop (p + 4) bs) opening_there
        ∙ sym four_there

  -- all books, where none is cut short
  pub books_found : (bound p : ℕ) → p ≤ length bs → length bs ≡ p + length (laid (books_from bs bound p)) → laid (books_from bs bound p) ≡ drop p bs
  unfolding laid books_from
  books_found zero p h whole = sym (drop_of_length-le bs {i = p} (omega arith))
  books_found (suc bound) p h whole = by (ltb p (length bs)) (ltb (length bs) (book_end bs p)) refl refl (books_found bound (book_end bs p))
    where
      by : (s t : Bool) → ltb p (length bs) ≡ s → ltb (length bs) (book_end bs p) ≡ t
          → (book_end bs p ≤ length bs → length bs ≡ book_end bs p + length (laid (books_from bs bound (book_end bs p))) → laid (books_from bs bound (book_end bs p)) ≡ drop (book_end bs p) bs)
          → laid (books_from bs (suc bound) p) ≡ drop p bs
      by false t past is others =
          let end = ltb-false p (length bs) past in
          rw (books_none bs (suc bound) p end) (sym (drop_of_length-le bs {i = p} end))
      by true true before cut others =
          let none = rw (books_cut bs (suc bound) p (ltb-true (length bs) (book_end bs p) cut)) at whole in
          absurd (omega (arith, none, ltb-true p (length bs) before))
      by true false before fits others =
          let within = ltb-false (length bs) (book_end bs p) fits in
          let more = books_more bs bound p within in
          let whole' = rw more at whole in
          rw more (found-there p within (books_from bs bound (book_end bs p))
          (others within (omega (arith, whole', laid-long (book_there p within) (books_from bs bound (book_end bs p)), there-long p within))))
