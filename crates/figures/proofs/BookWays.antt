-- Records and books, one behind another: each is added to the totals, one lemma for each way through the code, and what they count.
use mathlib.Core.Bool.{true, false, not}
use mathlib.Core.List.{List, [], ◌∷◌}
use mathlib.Core.Path.{◌≡◌, refl, sym, ap, ap₂, ◌∙◌}
use Prim.Native.Nat.{ℕ, zero, suc, ◌+◌, ◌-◌, ◌*◌, ◌/◌, ◌≤◌, ◌<◌}
use native.Mathlib.Omega.{arith}
use borrow.Author.Tests.{lt-ltb, le-ltb, ltb-false, eq-eqb, ne_eqb, eqb-false}
use lib.Dec.{ltb, eqb}
use lib.ListN.{length, get_or}
use Rattle.reading.specs.Reading.{Reading, got, refusal, refuse◌at◌if◌else◌}
use Rattle.reading.specs.Bytes.{big_endian}
use Rattle.reading.specs.Answer.{keeping, nothing}
use Rattle.std.proofs.Common.{Ok, Err}
use Rattle.tallies.specs.declared.Refusal.{Refusal}
use Rattle.tallies.specs.declared.Fault.TheVariants.{Layout}
use Rattle.reading.proofs.Good.{Good, good, good-got, each, then-good, unless}
use Rattle.reading.proofs.Keeping.{kept-got, kept-refusal, then-got, then-refusal, passed, failed-test}
use Rattle.figures.specs.AnswerBook.{rising, record_at}
use Rattle.tallies.specs.Tallied.{tallied}
use Rattle.figures.specs.Figures.{symbols_added, answer_at, records_at, book_end, book_at, books_at, ended_as, figures}
use Rattle.tallies.specs.Tallied.{how_many}
use Rattle.tallies.specs.InCode.{number_of, AddedAs, TakenBack, answer_over}
use Rattle.figures.specs.InCode.{record_over, behind_record, records_over, book_over, after}
use Rattle.tallies.proofs.Exactly.{whatever}
use Rattle.tallies.proofs.Tallying.{Added, adds, once, tallied_added}
use Rattle.tallies.proofs.Tallying.{WithAnswers}
use Rattle.figures.proofs.RecordWays.{Extent, record_extent}
use Rattle.tallies.proofs.Taking.{there_and_back}
use Rattle.tallies.proofs.TallyWays.{adds_refused, adds_got, added_refusal, added_got}
use Rattle.figures.proofs.Repeated.{repeated, then_cong, EachCounts, all-count}

-- what is refused with 60
pub refused_as_lem : {t : Reading (List ℕ)} (row row' : List ℕ) (r : Refusal) {p : ℕ} → r ≡ record { fault = Layout; place = p } → t ≡ refusal 60 p → row' ≡ row → AddedAs t (Err r) row row'
refused_as_lem row row' r {p} answer told same = rw answer (adds_refused row (record { fault = Layout; place = p }) told same)

-- ---- the symbols of a record, and its decisions

-- one answer
as_answer : {row row' : List ℕ} (symbols : List ℕ) → Added row (adds [] symbols) row' → WithAnswers row (symbols ∷ []) row'
unfolding how_many
as_answer symbols added = record { long = added.long; total = λ f h. omega (arith, added.total f h, (once symbols []).at f) }

module _ (bs row : List ℕ) (count from : ℕ) where
  tallied-counts : Good (λ row' q. WithAnswers row (answer_over bs count from) row' × (q ≡ from + 2 * count)) (tallied bs row [] count from)
  tallied-counts = each (λ row' q (added, end). (as_answer _ added, end)) (whatever (tallied_added bs row [] count from))

  module _ (p end : ℕ) where
    -- they are refused
    pub symbols-refused : {row' : List ℕ} (r : Refusal) → AddedAs (tallied bs row [] count from) (Err r) row row' → AddedAs (symbols_added bs row count from p end) (Err r) row row'
    unfolding symbols_added
    symbols-refused r told =
        let is = added_refusal row r told in
        adds_refused row r (then-refusal _ is.0) is.1

    -- they are added; then its decisions rise, or they do not, and the symbols are taken back
    module _ {row' : List ℕ} {q : ℕ} (told : AddedAs (tallied bs row [] count from) (Ok q) row row') where
      to-decisions : symbols_added bs row count from p end
          ≡ refuse◌at◌if◌else◌ 60 p (not (rising bs ((end - (from + 2 * count)) / 2) 0 (from + 2 * count))) (λ _. got row' end)
      unfolding symbols_added
      to-decisions =
          let is = added_got row told in
          let stop = (good-got tallied-counts is).1 in
          then-got _ is ∙ ap (λ (n : ℕ). refuse◌at◌if◌else◌ 60 p (not (rising bs ((end - n) / 2) 0 n)) (λ _. got row' end)) stop

      pub decisions_rise : rising bs ((end - (from + 2 * count)) / 2) 0 (from + 2 * count) ≡ true → AddedAs (symbols_added bs row count from p end) (Ok end) row row'
      decisions_rise h = adds_got row (to-decisions ∙ passed 60 p (ap not h))

      pub decisions_fall : rising bs ((end - (from + 2 * count)) / 2) 0 (from + 2 * count) ≡ false → (row'' : List ℕ) → TakenBack row' (answer_over bs count from) row''
          → (r : Refusal) → r ≡ record { fault = Layout; place = p } → AddedAs (symbols_added bs row count from p end) (Err r) row row''
      decisions_fall h row'' back r answer =
          let added = (good-got tallied-counts (added_got row told)).0 in
          refused_as_lem row row'' r answer (to-decisions ∙ failed-test 60 p _ (ap not h)) (there_and_back (answer_over bs count from) row row' row'' added back)

-- ---- a record

module _ (bs : List ℕ) (version e : ℕ) where
  module _ (row : List ℕ) (p : ℕ) where
    -- it is refused,
    pub record_refused : (r : Refusal) → refusal (number_of r.fault) r.place ≡ keeping nothing (record_at bs version e p) → AddedAs (answer_at bs version e row p) (Err r) row row
    unfolding answer_at
    record_refused r told = adds_refused row r (then-refusal _ (kept-refusal nothing (record_at bs version e p) told)) refl

    -- or read up to its symbols
    module _ {end : ℕ} (told : got 0 end ≡ keeping nothing (record_at bs version e p)) where
      extent : (a : _) × (record_at bs version e p ≡ got a end) × Extent bs version e p a end
      extent =
          let kept = kept-got nothing (record_at bs version e p) told in
          (kept.0, kept.1, good-got (record_extent bs version e p) kept.1)

      -- n of them
      module _ (n : ℕ) (n-is : n ≡ big_endian bs (p + 2 * version)) where
        as_many : n ≡ extent.0.count
        as_many = n-is ∙ sym extent.2.count

        pub symbols-within : (p + 2 * version + 2 + 2 * n ≤ end) × (end ≤ e)
        symbols-within =
            let is = extent.2 in
            (omega (arith, is.room, is.stand, as_many), is.within)

        pub by-symbols : answer_at bs version e row p ≡ symbols_added bs row n (p + 2 * version + 2) p end
        unfolding answer_at
        by-symbols = then-got _ extent.1 ∙ ap₂ (λ (k from : ℕ). symbols_added bs row k from p end) (sym as_many) extent.2.stand

  -- what it counts
  pub answer_counts : EachCounts (behind_record bs) (record_over bs version) e (answer_at bs version e)
  unfolding answer_at symbols_added
  answer_counts row p here =
      then-good (record_extent bs version e p) λ answer end is.
      then-good (tallied-counts bs row answer.count answer.from) λ row' q (added, stop).
      unless _ _ _ λ _ _.
      good (record { added = rw (is.count, is.stand) at added; end = is.behind; onward = omega (arith, is.onward); within = is.within })

  -- so the records of a book are read, and counted
  pub records_repeated : (bound : ℕ) (row : List ℕ) (p : ℕ)
      → records_at bs bound version e row p ≡ repeated (behind_record bs) (record_over bs version) e (answer_at bs version e) bound row p
  unfolding records_at repeated
  records_repeated zero row p = refl
  records_repeated (suc bound) row p =
      ap (λ (t : Reading (List ℕ)). elim (ltb p e) [ false ↦ got row p | true ↦ t ]) (then_cong (answer_at bs version e row p) (records_repeated bound))

  records-count : (row : List ℕ) (p : ℕ) → p ≤ e → e ≤ length bs
      → Good (λ row' q. WithAnswers row (records_over bs version e p) row' × (q ≡ e)) (records_at bs (length bs) version e row p)
  records-count row p h within =
      rw (records_repeated (length bs) row p)
      (all-count (behind_record bs) (record_over bs version) e (answer_at bs version e) answer_counts (length bs) e row p h (omega arith) (omega arith))

-- ---- a book

-- A book at p, of n bytes behind its length
module _ (bs : List ℕ) (p n version : ℕ) where
  -- behind its version
  abbrev pub versioned : List ℕ → Reading (List ℕ)
  versioned row =
      refuse◌at◌if◌else◌ 60 (p + 4) (eqb version 0) λ _.
      refuse◌at◌if◌else◌ 60 (p + 4) (ltb 2 version) λ _.
      records_at bs (length bs) version (p + 4 + n) row (p + 5)

  -- there is no such version; its records are read
  pub version-none : version ≡ 0 → (row : List ℕ) → versioned row ≡ refusal 60 (p + 4)
  version-none h row = failed-test 60 (p + 4) _ (eq-eqb version 0 h)

  module _ (some : version ≡ 0 → ⊥) where
    pub version-past : 2 < version → (row : List ℕ) → versioned row ≡ refusal 60 (p + 4)
    version-past h row = passed 60 (p + 4) (ne_eqb version 0 some) ∙ failed-test 60 (p + 4) _ (lt-ltb 2 version h)

    pub version-known : version ≤ 2 → (row : List ℕ) → versioned row ≡ records_at bs (length bs) version (p + 4 + n) row (p + 5)
    version-known h row = passed 60 (p + 4) (ne_eqb version 0 some) ∙ passed 60 (p + 4) (le-ltb 2 version h)

module _ (bs : List ℕ) (p : ℕ) where
  abbrev tested : List ℕ → ℕ → ℕ → Reading (List ℕ)
  tested row n version =
      refuse◌at◌if◌else◌ 60 p (ltb (length bs) (p + 4)) λ _.
      refuse◌at◌if◌else◌ 60 p (ltb (length bs) (p + 4 + n)) λ _.
      refuse◌at◌if◌else◌ 60 p (eqb (p + 4) (p + 4 + n)) λ _.
      versioned bs p n version row

  by_tests : (n version : ℕ) → n ≡ big_endian bs p * 65536 + big_endian bs (p + 2) → version ≡ get_or bs (p + 4) 0 → (row : List ℕ) → book_at bs row p ≡ tested row n version
  unfolding book_at
  by_tests n version n-is version-is row = sym (ap₂ (tested row) n-is version-is)

  -- its length is cut off; it is cut off; it has no version; it has one
  pub length_cut : length bs < p + 4 → (row : List ℕ) → book_at bs row p ≡ refusal 60 p
  length_cut h row = by_tests _ _ refl refl row ∙ failed-test 60 p _ (lt-ltb (length bs) (p + 4) h)

  module _ (n : ℕ) (n-is : n ≡ big_endian bs p * 65536 + big_endian bs (p + 2)) (opened : p + 4 ≤ length bs) where
    pub book-cut : length bs < p + 4 + n → (row : List ℕ) → book_at bs row p ≡ refusal 60 p
    book-cut h row = by_tests n _ n-is refl row ∙ passed 60 p (le-ltb (length bs) (p + 4) opened) ∙ failed-test 60 p _ (lt-ltb (length bs) (p + 4 + n) h)

    module _ (whole : p + 4 + n ≤ length bs) where
      pub no_version : n ≡ 0 → (row : List ℕ) → book_at bs row p ≡ refusal 60 p
      no_version h row =
          by_tests n _ n-is refl row ∙ passed 60 p (le-ltb (length bs) (p + 4) opened) ∙ passed 60 p (le-ltb (length bs) (p + 4 + n) whole)
          ∙ failed-test 60 p _ (eq-eqb (p + 4) (p + 4 + n) (omega arith))

      pub version-there : (n ≡ 0 → ⊥) → (version : ℕ) → version ≡ get_or bs (p + 4) 0 → (row : List ℕ) → book_at bs row p ≡ versioned bs p n version row
      version-there some version version-is row =
          by_tests n version n-is version-is row ∙ passed 60 p (le-ltb (length bs) (p + 4) opened) ∙ passed 60 p (le-ltb (length bs) (p + 4 + n) whole)
          ∙ passed 60 p (ne_eqb (p + 4) (p + 4 + n) (λ e. some (omega arith)))

-- ---- all books

module _ (bs : List ℕ) where
  -- what a book counts
  pub book-counts : EachCounts (book_end bs) (book_over bs) (length bs) (book_at bs)
  unfolding book_at
  book-counts row p here =
      let e = book_end bs p in
      unless _ _ _ λ _ _. unless _ _ (ltb (length bs) e) λ _ whole. unless _ _ (eqb (p + 4) e) λ _ some. unless _ _ _ λ _ _. unless _ _ _ λ _ _.
      let within = ltb-false (length bs) e whole in
      each (λ row' q (added, end). record { added = added; end = end; onward = omega (arith, end); within = omega (arith, end) })
      (records-count bs (get_or bs (p + 4) 0) e row (p + 5) (omega (arith, eqb-false (p + 4) e some)) within)

  -- so the books are read
  pub books_repeated : (bound : ℕ) (row : List ℕ) (p : ℕ) → books_at bs bound row p ≡ repeated (book_end bs) (book_over bs) (length bs) (book_at bs) bound row p
  unfolding books_at repeated
  books_repeated zero row p = refl
  books_repeated (suc bound) row p =
      ap (λ (t : Reading (List ℕ)). elim (ltb p (length bs)) [ false ↦ got row p | true ↦ t ]) (then_cong (book_at bs row p) (books_repeated bound))

-- what is handed back, and the row after it
module _ (bs row : List ℕ) (row' : List ℕ) where
  pub books_refused : (r : Refusal) → AddedAs (books_at bs (length bs) row 0) (Err r) row row' → after (Err r) row' ≡ figures bs row
  unfolding figures ended_as
  books_refused r told =
      let is = added_refusal row r told in
      ap (after (Err r)) is.1 ∙ sym (ap (ended_as row) is.0)

  pub books_added : {q : ℕ} → AddedAs (books_at bs (length bs) row 0) (Ok q) row row' → after (Ok tt) row' ≡ figures bs row
  unfolding figures ended_as
  books_added told = sym (ap (ended_as row) (added_got row told))
