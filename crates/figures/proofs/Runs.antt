-- What a run writes is read for its figures: each record passes the tests, and gives the symbols of its answer.
use mathlib.Core.Bool.{true}
use mathlib.Core.List.{List, [], ◌∷◌, ◌++◌, map, Mem, mem-cons_self, mem-cons_of_mem, append-nil}
use mathlib.Core.Path.{◌≡◌, refl, sym, ap, ap₂, ◌∙◌}
use Prim.Native.Nat.{ℕ, suc, ◌+◌, ◌-◌, ◌*◌, ◌/◌, ◌%◌, ◌≤◌, ◌<◌}
use native.Mathlib.Omega.{arith}
use borrow.Author.Tests.{le-leb, lt-ltb, ne_eqb}
use lib.ListN.{length, get_or, drop, length-append, length-drop}
use lib.Seq.{get_or-drop, drop-drop, drop-append_seam}
use Rattle.limits.specs.Sizes.{most_choices}
use Rattle.limits.specs.declared.Side.TheVariants.{Open, Left, Right}
use Rattle.limits.specs.Decisions.{Decisions}
use Rattle.reading.specs.Bytes.{big_endian, two_bytes}
use Rattle.machine.specs.Answers.{Answer, decision_numbers, two_bytes_each, record_bytes, records_bytes, answer_bytes}
use Rattle.figures.specs.AnswerBook.{rising}
use Rattle.tallies.specs.Tallied.{symbols_at}
use Rattle.figures.specs.Counts.{answers_at, answers_of, all_answers, laid, Writable, ReadsRuns, AcceptsRuns}
use Rattle.figures.proofs.Counting.{Well, ended, another, Readable}
use Rattle.figures.proofs.Books.{none, also, finds-laid}
use Rattle.figures.proofs.Order.{finishes}
use Rattle.figures.proofs.Laying.{end_at, symbols_from, symbol_count, decisions_from, Fits, answers-none, answers-more}

-- how many bytes numbers are
each_long : (ns : List ℕ) → length (two_bytes_each ns) ≡ 2 * length ns
unfolding two_bytes_each two_bytes
each_long [] = refl
each_long (n ∷ ns) = omega (arith, each_long ns)

-- ---- numbers written from p on, with more behind them

module _ (bs more : List ℕ) where
  abbrev Written : List ℕ → ℕ → Type 0
  Written ns p = drop p bs ≡ two_bytes_each ns ++ more

  -- the first one is read
  first_back : (n : ℕ) (ns : List ℕ) (p : ℕ) → Written (n ∷ ns) p → big_endian bs p ≡ n
  unfolding two_bytes_each two_bytes
  first_back n ns p rest =
      let here : p ≡ p + 0 = omega arith in
      let high : get_or bs p 0 ≡ n / 256 = rw here (sym (get_or-drop p bs 0 0) ∙ rw rest) in
      let low : get_or bs (p + 1) 0 ≡ n % 256 = sym (get_or-drop p bs 1 0) ∙ rw rest in
      omega (arith, high, low)

  -- the others stand behind it
  others-behind : (n : ℕ) (ns : List ℕ) (p : ℕ) → Written (n ∷ ns) p → Written ns (p + 2)
  unfolding two_bytes_each two_bytes
  others-behind n ns p rest = sym (drop-drop 2 p bs) ∙ rw rest

  -- symbols are read
  symbols-back : (symbols ns : List ℕ) (p : ℕ) → Written (symbols ++ ns) p → symbols_at bs (length symbols) p ≡ symbols
  unfolding symbols_at
  symbols-back [] ns p rest = refl
  symbols-back (f ∷ symbols) ns p rest = ap₂ ◌∷◌ (first_back f (symbols ++ ns) p rest) (symbols-back symbols ns (p + 2) (others-behind f (symbols ++ ns) p rest))

  -- and what is written behind them
  symbols-behind : (symbols ns : List ℕ) (p : ℕ) → Written (symbols ++ ns) p → Written ns (p + 2 * length symbols)
  symbols-behind [] ns p rest =
      let here : p + 0 ≡ p = omega arith in
      rw here rest
  symbols-behind (f ∷ symbols) ns p rest =
      let further : p + 2 * suc (length symbols) ≡ p + 2 + 2 * length symbols = omega arith in
      rw further (symbols-behind symbols ns (p + 2) (others-behind f (symbols ++ ns) p rest))

  -- a decision between `least` and the last choice, and then those that rise behind it
  rising-more : (n : ℕ) (ns : List ℕ) (i least p : ℕ) → n / 2 ≡ i → least ≤ i → i < most_choices → Written (n ∷ ns) p
      → rising bs (length ns) (suc i) (p + 2) ≡ true → rising bs (suc (length ns)) least p ≡ true
  unfolding rising
  rising-more n ns i least p half low high rest others =
      let same : big_endian bs p / 2 ≡ i = omega (arith, first_back n ns p rest) in
      simp (rising, same, le-leb least i low, lt-ltb i most_choices high, others)

  -- decisions rise, and end below the last choice
  decisions_rise : (ds : Decisions) (i least p : ℕ) → least ≤ i → i + length ds ≤ most_choices → Written (decision_numbers i ds) p
      → rising bs (length (decision_numbers i ds)) least p ≡ true
  unfolding rising decision_numbers
  decisions_rise [] i least p low high rest = refl
  decisions_rise (Open ∷ ds) i least p low high rest = decisions_rise ds (suc i) least p (omega arith) (omega arith) rest
  decisions_rise (Left ∷ ds) i least p low high rest =
      let ns = decision_numbers (suc i) ds in
      rising-more (2 * i) ns i least p (omega arith) low (omega arith) rest
      (decisions_rise ds (suc i) (suc i) (p + 2) (omega arith) (omega arith) (others-behind (2 * i) ns p rest))
  decisions_rise (Right ∷ ds) i least p low high rest =
      let ns = decision_numbers (suc i) ds in
      rising-more (2 * i + 1) ns i least p (omega arith) low (omega arith) rest
      (decisions_rise ds (suc i) (suc i) (p + 2) (omega arith) (omega arith) (others-behind (2 * i + 1) ns p rest))

-- ---- one record, from p on

module _ (bs more : List ℕ) (a : Answer) (writable : Writable a) (p : ℕ) (rest : drop p bs ≡ record_bytes a ++ more) where
  -- its numbers, behind its length
  abbrev symbols : List ℕ
  symbols = a.symbols

  abbrev decided : List ℕ
  decided = decision_numbers 0 a.decisions

  abbrev numbers : List ℕ
  numbers = length symbols ∷ (symbols ++ decided)

  abbrev size : ℕ
  size = length (two_bytes_each numbers)

  written : Written bs more (size ∷ numbers) p
  unfolding record_bytes two_bytes_each two_bytes
  written = rest

  -- how long it is, and how far the book reaches
  size_is : size ≡ 2 + 2 * length symbols + 2 * length decided
  size_is = omega (arith, each_long numbers, length-append symbols decided)

  book-long : length bs ≡ p + 2 + size + length more
  unfolding record_bytes two_bytes
  book-long = omega (arith, length-drop p bs, ap length rest, length-append (two_bytes_each numbers) more)

  -- its length and its symbol count are read
  size_back : big_endian bs p ≡ size
  size_back = first_back bs more size numbers p written

  counted : Written bs more numbers (p + 2)
  counted = others-behind bs more size numbers p written

  count-back : symbol_count bs 1 p ≡ length symbols
  count-back = first_back bs more (length symbols) (symbols ++ decided) (p + 2) counted

  behind-count : Written bs more (symbols ++ decided) (symbols_from bs 1 p)
  behind-count = others-behind bs more (length symbols) (symbols ++ decided) (p + 2) counted

  -- what is left for decisions
  left : end_at bs 1 p - decisions_from bs 1 p ≡ 2 * length decided
  left = omega (arith, size_back, count-back, size_is)

  decided_rise : rising bs ((end_at bs 1 p - decisions_from bs 1 p) / 2) 0 (decisions_from bs 1 p) ≡ true
  decided_rise =
      let many : (end_at bs 1 p - decisions_from bs 1 p) / 2 ≡ length decided = omega (arith, left) in
      rw (many, count-back) (decisions_rise bs more a.decisions 0 0 (symbols_from bs 1 p + 2 * length symbols) (omega arith) (omega (arith, writable.decided))
      (symbols-behind bs more symbols decided (symbols_from bs 1 p) behind-count))

  -- it passes the tests
  record_fits : Fits bs 1 p (length bs)
  record_fits = (
    record {
      opened = omega (arith, book-long);
      within = omega (arith, book-long, size_back);
      counted = omega (arith, size_back, size_is);
      some = ne_eqb (symbol_count bs 1 p) 0 (λ none. omega (arith, count-back, writable.some));
      holds = omega (arith, size_back, count-back, size_is);
      even = ne_eqb ((end_at bs 1 p - decisions_from bs 1 p) % 2) 1 (λ odd. omega (arith, left));
    },
    decided_rise,
  )

  -- the other records stand behind it
  records-behind : drop (end_at bs 1 p) bs ≡ more
  unfolding record_bytes two_bytes
  records-behind =
      let long : end_at bs 1 p ≡ p + length (record_bytes a) = omega (arith, size_back) in
      rw (long, ← drop-drop (length (record_bytes a)) p bs, rest) (drop-append_seam (record_bytes a) more)

-- ---- all records

records-back : (bs : List ℕ) (answers : List Answer) (bound p : ℕ) → ((a : Answer) → Mem a answers → Writable a)
    → drop p bs ≡ records_bytes answers → length bs ≤ p + bound → answers_at bs bound 1 (length bs) p ≡ map (λ (a : Answer). a.symbols) answers
unfolding records_bytes
records-back bs [] bound p writable rest enough = answers-none bs 1 (length bs) bound p (omega (arith, length-drop p bs, ap length rest))
records-back bs (a ∷ answers) bound p writable rest enough =
    let more = records_bytes answers in
    let one = writable a mem-cons_self in
    let fits = record_fits bs more a one p rest in
    let long = book-long bs more a one p rest in
    answers-more bs 1 (length bs) bound p (omega arith) fits
    ∙ ap₂ ◌∷◌
    (rw (count-back bs more a one p rest) (symbols-back bs more a.symbols (decision_numbers 0 a.decisions) (symbols_from bs 1 p) (behind-count bs more a one p rest)))
    (records-back bs answers (bound - 1) (end_at bs 1 p) (λ b there. writable b (mem-cons_of_mem a there)) (records-behind bs more a one p rest) (omega (arith, size_back bs more a one p rest)))

-- WHAT A RUN WRITES is read for its figures.
pub reads_runs : ReadsRuns
unfolding answers_of answer_bytes
reads_runs answers writable = records-back (answer_bytes answers) answers (length (answer_bytes answers)) 1 writable refl (omega arith)

-- ---- a book of them

-- each of its records can be read
records_well : (bs : List ℕ) (answers : List Answer) (p : ℕ) → ((a : Answer) → Mem a answers → Writable a) → drop p bs ≡ records_bytes answers → Well bs 1 p
unfolding records_bytes
records_well bs [] p writable rest = ended {i = p} (omega (arith, length-drop p bs, ap length rest))
records_well bs (a ∷ answers) p writable rest =
    let more = records_bytes answers in
    let one = writable a mem-cons_self in
    another {i = p} (record_fits bs more a one p rest)
    (records_well bs answers (end_at bs 1 p) (λ b there. writable b (mem-cons_of_mem a there)) (records-behind bs more a one p rest))

run-readable : (answers : List Answer) → ((a : Answer) → Mem a answers → Writable a) → Readable (answer_bytes answers)
unfolding answer_bytes
run-readable answers writable = record { some = omega arith; numbered = refl; known = refl; well = records_well (answer_bytes answers) answers 1 writable refl }

-- THE BOOK OF A RUN is refused only for want of room.
pub accepts_runs : AcceptsRuns
unfolding all_answers
accepts_runs answers row writable room =
    let book = answer_bytes answers in
    finishes (laid (book ∷ [])) row (rw (finds-laid (book ∷ [])) (
      omega arith,
      also (run-readable answers writable) none,
      rw (append-nil (answers_of book), reads_runs answers writable) room,
    ))
