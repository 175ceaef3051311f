-- Where a book lies among other bytes its answers are counted, exactly if it is in the layout and the row has room for them.
use mathlib.Core.Bool.{false, not}
use mathlib.Core.List.{List, []}
use mathlib.Core.Path.{◌≡◌, sym, ap, ◌∙◌}
use Prim.Native.Nat.{ℕ, zero, suc, ◌+◌, ◌-◌, ◌/◌, ◌≤◌, ◌<◌}
use native.Mathlib.Omega.{arith}
use borrow.Author.Tests.{ltb-true, ltb-false, eqb-false, ne_eqb, le-ltb, not-false}
use lib.Dec.{ltb, eqb}
use lib.ListN.{length, get_or}
use Rattle.reading.specs.Reading.{Reading, got}
use Rattle.figures.specs.AnswerBook.{rising}
use Rattle.figures.specs.Figures.{book_end, symbols_added, answer_at, records_at, book_at}
use Rattle.tallies.specs.Tallied.{how_many, symbols_at}
use Rattle.figures.specs.Counts.{answers_at, answers_of}
use Rattle.tallies.proofs.Exactly.{Exactly, read, next, unless, either, so}
use Rattle.tallies.proofs.Tallying.{Added, WithAnswers, Room, Sum, added_none, room-none, added_more, room-first, room-others, room-all, adds, once, tallied_added}
use Rattle.figures.proofs.Laying.{end_at, symbols_from, symbol_count, decisions_from, Fits, answers-none, answers-more, LiesFrom, record_alone}

-- a row that has room for these answers
abbrev pub RoomFor : List ℕ → List (List ℕ) → Type 0
RoomFor row answers = Room row (λ f. how_many f answers)

-- ---- the answers of one book

module _ (book : List ℕ) (version : ℕ) where
  -- all records from i on can be read
  pub data Well : ℕ → Type 0 where
    ended : {i : ℕ} → length book ≤ i → Well i
    another : {i : ℕ} → Fits book version i (length book) → Well (end_at book version i) → Well i

  -- the first one, and those behind it
  well_first : {i : ℕ} → i < length book → Well i → Fits book version i (length book)
  well_first h (ended past) = absurd (omega arith)
  well_first h (another fits others) = fits

  well_others : {i : ℕ} → i < length book → Well i → Well (end_at book version i)
  well_others h (ended past) = absurd (omega arith)
  well_others h (another fits others) = others

-- they are added to the totals, where the book lies from b on
module _ (bs : List ℕ) (b : ℕ) (book : List ℕ) (lies : LiesFrom bs b book) (e version : ℕ) (ends : e ≡ b + length book) where
  -- its answers from i on
  abbrev answers : ℕ → ℕ → List (List ℕ)
  answers bound i = answers_at book bound version (length book) i

  -- the symbols of the one at i
  abbrev symbols : ℕ → List ℕ
  symbols i = symbols_at book (symbol_count book version i) (symbols_from book version i)

  -- what counting them has to give
  abbrev Records : ℕ → List ℕ → ℕ → Reading (List ℕ) → Type 0
  Records bound row i = Exactly (Well book version i × RoomFor row (answers bound i)) (λ row' q. WithAnswers row (answers bound i) row' × (q ≡ e))

  -- at its end nothing is
  records-none : (row : List ℕ) (bound p i : ℕ) → p ≡ b + i → i ≡ length book → Records bound row i (got row p)
  unfolding how_many
  records-none row bound p i place end = rw (answers-none book version (length book) bound i (omega arith)) (read {a = row} {p = p} (ended {i = i} (omega arith), room-none row) (added_none row, omega arith))

  -- before it one answer is, and then those behind it
  module _ (row : List ℕ) (bound i : ℕ) (some : 0 < bound) (fits : Fits book version i (length book)) where
    answers-sum : Sum (λ f. how_many f (answers bound i)) (adds [] (symbols i)) (λ f. how_many f (answers (bound - 1) (end_at book version i)))
    answers-sum = rw (answers-more book version (length book) bound i some fits) (once (symbols i) (answers (bound - 1) (end_at book version i)))

    record_more : {mid : List ℕ} {r : Reading (List ℕ)} → Room row (adds [] (symbols i)) → Added row (adds [] (symbols i)) mid
        → Records (bound - 1) mid (end_at book version i) r → Records bound row i r
    record_more room one =
        let before : i < length book = omega (arith, fits.0.opened) in
        so
        (λ (well, left). (another fits well, room-all one answers-sum room left))
        (λ (well, all). (well_others book version before well, room-others one answers-sum all))
        (λ row' q _ (added, end). (added_more one answers-sum added, end))

  -- one answer is
  answer_added : (row : List ℕ) (p i : ℕ) → p ≡ b + i
      → Exactly (Fits book version i (length book) × Room row (adds [] (symbols i))) (λ mid q. Added row (adds [] (symbols i)) mid × (q ≡ b + end_at book version i)) (answer_at bs version e row p)
  unfolding answer_at symbols_added
  answer_added row p i place =
      next (record_alone bs b book lies version p i e place ends) (λ (fits, _). fits.0) λ there end opens alone.
      next (rw alone.same at (tallied_added bs row [] there.count there.from)) (λ (_, room). room) λ mid q room (one, stop).
      let same : rising bs ((end - q) / 2) 0 q ≡ rising book ((end_at book version i - decisions_from book version i) / 2) 0 (decisions_from book version i) =
      ap (λ (n : ℕ). rising bs ((end - n) / 2) 0 n) stop ∙ alone.rises in
      unless _ _ (not (rising bs ((end - q) / 2) 0 q)) (omega arith) (λ (fits, _). ap not (same ∙ fits.1)) λ _ told.
      read ((opens, sym same ∙ not-false (rising bs ((end - q) / 2) 0 q) told), room) (one, alone.behind)

  -- all its answers are
  records_added : (bound bound' : ℕ) (row : List ℕ) (p i : ℕ) → p ≡ b + i → i ≤ length book → length book ≤ i + bound → length book ≤ i + bound'
      → Records bound' row i (records_at bs bound version e row p)
  unfolding records_at
  records_added zero bound' row p i place h enough enough' = records-none row bound' p i place (omega arith)
  records_added (suc bound) bound' row p i place h enough enough' =
      either (ltb p e)
      (λ past. records-none row bound' p i place (omega (arith, ltb-false p e past)))
      (λ before.
      let inside : i < length book = omega (arith, ltb-true p e before) in
      let some : 0 < bound' = omega arith in
      next (answer_added row p i place) (λ (well, room). (well_first book version inside well, room-first row (answers-sum row bound' i some (well_first book version inside well)) room)) λ mid q (fits, room) (one, end).
      record_more row bound' i some fits room one (records_added bound (bound' - 1) mid q (end_at book version i) end fits.0.within (omega arith) (omega arith)))

-- ---- one book

-- a book in the layout
pub record Readable (book : List ℕ) : Type 0 where
  pub some : 0 < length book
  pub numbered : eqb (get_or book 0 0) 0 ≡ false
  pub known : ltb 2 (get_or book 0 0) ≡ false
  pub well : Well book (get_or book 0 0) 1

-- a book that lies behind its length, at p
pub record At (bs : List ℕ) (p : ℕ) (book : List ℕ) : Type 0 where
  pub size : book_end bs p ≡ p + 4 + length book
  pub within : book_end bs p ≤ length bs
  pub lies : LiesFrom bs (p + 4) book

-- what counting it, at p, has to give
abbrev Book : List ℕ → List ℕ → List ℕ → ℕ → Reading (List ℕ) → Type 0
Book bs book row p = Exactly (Readable book × RoomFor row (answers_of book)) (λ row' q. WithAnswers row (answers_of book) row' × (q ≡ book_end bs p))

pub book_added : (bs : List ℕ) (p : ℕ) (book : List ℕ) → At bs p book → (row : List ℕ) → Book bs book row p (book_at bs row p)
unfolding book_at answers_of
book_added bs p book there row =
    let e = book_end bs p in
    let version = get_or bs (p + 4) 0 in
    let size = there.size in
    unless _ _ (ltb (length bs) (p + 4)) (omega arith) (λ _. le-ltb (length bs) (p + 4) (omega (arith, there.within))) λ _ _.
    unless _ _ (ltb (length bs) e) (omega arith) (λ _. le-ltb (length bs) e there.within) λ _ _.
    unless _ _ (eqb (p + 4) e) (omega arith) (λ (readable, _). ne_eqb (p + 4) e (λ same. omega (arith, readable.some))) λ _ some.
    let some-there : 0 < length book = omega (arith, eqb-false (p + 4) e some) in
    let same : version ≡ get_or book 0 0 = there.lies.at (p + 4) 0 (omega arith) (omega arith) (omega arith) in
    unless _ _ (eqb version 0) (omega arith) (λ (readable, _). rw same readable.numbered) λ _ numbered.
    unless _ _ (ltb 2 version) (omega arith) (λ (readable, _). rw same readable.known) λ _ known.
    rw same (so
    (λ (well, room). (record { some = some-there; numbered = rw same at numbered; known = rw same at known; well = well }, room))
    (λ (readable, room). (readable.well, room))
    (λ row' q _ added. added)
    (records_added bs (p + 4) book there.lies e (get_or book 0 0) size (length bs) (length book) row (p + 5) 1 (omega arith) some-there (omega (arith, there.within)) (omega arith)))
