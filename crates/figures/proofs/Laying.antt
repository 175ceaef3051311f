-- When a record is read, and that a book that lies among other bytes is read there as it is read alone.
use mathlib.Core.Bool.{Bool, true, false, not}
use mathlib.Core.List.{List, [], ◌∷◌}
use mathlib.Core.Path.{◌≡◌, refl, sym, ap, ap₂, ◌∙◌}
use Prim.Native.Nat.{ℕ, zero, suc, ◌+◌, ◌-◌, ◌*◌, ◌/◌, ◌%◌, ◌≤◌, ◌<◌}
use native.Mathlib.Omega.{arith}
use borrow.Author.Tests.{ltb-false, le-ltb, lt-ltb, not-false}
use lib.Dec.{leb, ltb, eqb}
use lib.ListN.{length, get_or}
use Rattle.limits.specs.Sizes.{most_choices}
use Rattle.reading.specs.Reading.{Reading, got}
use Rattle.reading.specs.Bytes.{big_endian}
use Rattle.figures.specs.AnswerBook.{Symbols, rising, record_at, whole_at}
use Rattle.tallies.specs.Tallied.{symbols_at}
use Rattle.figures.specs.Counts.{answers_at}
use Rattle.tallies.proofs.Exactly.{Exactly, read, refused, next, unless, so}

-- ---- a record that can be read

module _ (bs : List ℕ) (version p : ℕ) where
  -- where the record ends, where its symbols begin and how many there are, and where its decisions begin
  abbrev pub end_at : ℕ
  end_at = p + 2 + big_endian bs p

  abbrev pub symbols_from : ℕ
  symbols_from = p + 2 * version + 2

  abbrev pub symbol_count : ℕ
  symbol_count = big_endian bs (p + 2 * version)

  abbrev pub decisions_from : ℕ
  decisions_from = symbols_from + 2 * symbol_count

  -- it passes each test up to its symbols, in a book that ends at e
  pub record Opens (e : ℕ) : Type 0 where
    pub opened : p + 2 ≤ e
    pub within : end_at ≤ e
    pub counted : symbols_from ≤ end_at
    pub some : eqb symbol_count 0 ≡ false
    pub holds : decisions_from ≤ end_at
    pub even : eqb ((end_at - decisions_from) % 2) 1 ≡ false

  -- and its decisions do
  abbrev pub Rises : Type 0
  Rises = rising bs ((end_at - decisions_from) / 2) 0 decisions_from ≡ true

  abbrev pub Fits : ℕ → Type 0
  Fits e = Opens e × Rises

  -- what is read of it
  abbrev found : Symbols
  found = record { count = symbol_count; from = symbols_from }

  -- it is read exactly if it does
  pub read-opens : (e : ℕ) → Exactly (Opens e) (λ a q. (a ≡ found) × (q ≡ end_at)) (record_at bs version e p)
  unfolding record_at
  read-opens e =
      unless _ _ (ltb e (p + 2)) (omega arith) (λ fits. le-ltb e (p + 2) fits.opened) λ _ opened.
      unless _ _ (ltb e end_at) (omega arith) (λ fits. le-ltb e end_at fits.within) λ _ within.
      unless _ _ (ltb end_at symbols_from) (omega arith) (λ fits. le-ltb end_at symbols_from fits.counted) λ _ counted.
      unless _ _ (eqb symbol_count 0) (omega arith) (λ fits. fits.some) λ _ some.
      unless _ _ (ltb end_at decisions_from) (omega arith) (λ fits. le-ltb end_at decisions_from fits.holds) λ _ holds.
      unless _ _ (eqb ((end_at - decisions_from) % 2) 1) (omega arith) (λ fits. fits.even) λ _ even.
      read (
      record {
        opened = ltb-false e (p + 2) opened;
        within = ltb-false e end_at within;
        counted = ltb-false end_at symbols_from counted;
        some = some;
        holds = ltb-false end_at decisions_from holds;
        even = even;
      }
      ) (refl, refl)

  read_fits : (e : ℕ) → Exactly (Fits e) (λ a q. (a ≡ found) × (q ≡ end_at)) (whole_at bs version e p)
  unfolding whole_at
  read_fits e =
      next (read-opens e) (λ (opens, _). opens) λ a q opens (is, end).
      rw (is, end) (
      unless _ _ (not (rising bs ((end_at - decisions_from) / 2) 0 decisions_from)) (omega arith) (λ (_, rises). ap not rises) λ _ rises.
      read (opens, not-false (rising bs ((end_at - decisions_from) / 2) 0 decisions_from) rises) (refl, refl))

  -- then it gives its symbols
  fits_read : (e : ℕ) → Fits e → whole_at bs version e p ≡ got found end_at
  fits_read e fits = by (read_fits e)
    where
      by : {r : Reading Symbols} → Exactly (Fits e) (λ a q. (a ≡ found) × (q ≡ end_at)) r → r ≡ got found end_at
      by (read _ (is, end)) = ap₂ got is end
      by (refused _ not) = absurd (not fits)

-- ---- the answers of a book

module _ (book : List ℕ) (version e : ℕ) where
  -- at its end there are none
  pub answers-none : (bound i : ℕ) → e ≤ i → answers_at book bound version e i ≡ []
  unfolding answers_at
  answers-none zero i h = refl
  answers-none (suc bound) i h = simp (answers_at, le-ltb i e h)

  -- before it there is the one that is read, and those behind it
  pub answers-more : (bound i : ℕ) → 0 < bound → Fits book version i e
      → answers_at book bound version e i ≡ symbols_at book (symbol_count book version i) (symbols_from book version i) ∷ answers_at book (bound - 1) version e (end_at book version i)
  unfolding answers_at
  answers-more zero i some fits = absurd (omega arith)
  answers-more (suc bound) i some fits =
      let less : suc bound - 1 ≡ bound = omega arith in
      simp (answers_at, lt-ltb i e (omega (arith, fits.0.opened)), fits_read book version i e fits, less)

-- ---- a book among other bytes

-- n bytes from b on are those from c on elsewhere
pub record Alike (bs : List ℕ) (b : ℕ) (cs : List ℕ) (c n : ℕ) : Type 0 where
  pub at : (p i : ℕ) → b ≤ p → p < b + n → p + c ≡ i + b → get_or bs p 0 ≡ get_or cs i 0

alike_sym : {bs cs : List ℕ} {b c n : ℕ} → Alike bs b cs c n → Alike cs c bs b n
alike_sym alike = record { at = λ i p low high place. sym (alike.at p i (omega arith) (omega arith) (omega arith)) }

-- so what is read there is read elsewhere
module _ {bs cs : List ℕ} {b c n : ℕ} (alike : Alike bs b cs c n) where
  -- a number
  number-there : (p i : ℕ) → b ≤ p → p + 2 ≤ b + n → p + c ≡ i + b → big_endian bs p ≡ big_endian cs i
  number-there p i low high place = rw (alike.at p i low (omega arith) place, alike.at (p + 1) (i + 1) (omega arith) (omega arith) (omega arith))

  -- the symbols of an answer
  symbols-there : (k p i : ℕ) → b ≤ p → p + 2 * k ≤ b + n → p + c ≡ i + b → symbols_at bs k p ≡ symbols_at cs k i
  unfolding symbols_at
  symbols-there zero p i low high place = refl
  symbols-there (suc k) p i low high place =
      ap₂ ◌∷◌ (number-there p i low (omega arith) place) (symbols-there k (p + 2) (i + 2) (omega arith) (omega arith) (omega arith))

  -- its decisions
  rising-there : (k least p i : ℕ) → b ≤ p → p + 2 * k ≤ b + n → p + c ≡ i + b → rising bs k least p ≡ rising cs k least i
  unfolding rising
  rising-there zero least p i low high place = refl
  rising-there (suc k) least p i low high place =
      let same = number-there p i low (omega arith) place in
      let more = rising-there k (suc (big_endian bs p / 2)) (p + 2) (i + 2) (omega arith) (omega arith) (omega arith) in
      ap₂ (λ (m : ℕ) (t : Bool). elim (leb least (m / 2)) [ false ↦ false | true ↦ elim (ltb (m / 2) most_choices) [ false ↦ false | true ↦ t ] ]) same (more ∙ rw same)

  -- a record
  module _ (version p i e e' : ℕ) (low : b ≤ p) (place : p + c ≡ i + b) (ends : e ≡ b + n) (ends' : e' ≡ c + n) (opens : Opens bs version p e) where
    size-there : big_endian bs p ≡ big_endian cs i
    size-there = number-there p i low (omega (arith, opens.opened)) place

    count-there : symbol_count bs version p ≡ symbol_count cs version i
    count-there = number-there (p + 2 * version) (i + 2 * version) (omega arith) (omega (arith, opens.within, opens.counted)) (omega arith)

    found-there : symbols_at bs (symbol_count bs version p) (symbols_from bs version p) ≡ symbols_at cs (symbol_count cs version i) (symbols_from cs version i)
    found-there =
        rw (← count-there) (symbols-there (symbol_count bs version p) (symbols_from bs version p) (symbols_from cs version i) (omega arith) (omega (arith, opens.holds, opens.within)) (omega arith))

    left_there : end_at bs version p - decisions_from bs version p ≡ end_at cs version i - decisions_from cs version i
    left_there =
        let size = size-there in
        let count = count-there in
        omega arith

    opens-there : Opens cs version i e'
    opens-there =
        let size = size-there in
        let count = count-there in
        record {
          opened = omega (arith, opens.opened);
          within = omega (arith, opens.within);
          counted = omega (arith, opens.counted);
          some = rw count at opens.some;
          holds = omega (arith, opens.holds);
          even = rw left_there at opens.even;
        }

    rises_there : rising bs ((end_at bs version p - decisions_from bs version p) / 2) 0 (decisions_from bs version p)
        ≡ rising cs ((end_at cs version i - decisions_from cs version i) / 2) 0 (decisions_from cs version i)
    rises_there =
        let count = count-there in
        rw (← left_there)
        (rising-there ((end_at bs version p - decisions_from bs version p) / 2) 0 (decisions_from bs version p) (decisions_from cs version i) (omega arith) (omega (arith, opens.holds, opens.within)) (omega arith))

-- a book lies from b on
abbrev pub LiesFrom : List ℕ → ℕ → List ℕ → Type 0
LiesFrom bs b book = Alike bs b book 0 (length book)

-- its records are read there exactly if they are read alone
module _ (bs : List ℕ) (b : ℕ) (book : List ℕ) (lies : LiesFrom bs b book) (version p i e : ℕ) (place : p ≡ b + i) (ends : e ≡ b + length book) where
  -- what was read there, as it is alone
  pub record Alone (there : Symbols) (q : ℕ) : Type 0 where
    pub same : symbols_at bs there.count there.from ≡ symbols_at book (symbol_count book version i) (symbols_from book version i)
    pub behind : q ≡ b + end_at book version i
    pub rises : rising bs ((q - (there.from + 2 * there.count)) / 2) 0 (there.from + 2 * there.count)
        ≡ rising book ((end_at book version i - decisions_from book version i) / 2) 0 (decisions_from book version i)

  pub record_alone : Exactly (Opens book version i (length book)) Alone (record_at bs version e p)
  record_alone =
      so
      (opens-there lies version p i e (length book) (omega arith) (omega arith) ends (omega arith))
      (opens-there (alike_sym lies) version i p (length book) e (omega arith) (omega arith) (omega arith) ends)
      (λ there q opens (is, end). record {
        same = rw is (found-there lies version p i e (length book) (omega arith) (omega arith) ends (omega arith) opens);
        behind = omega (arith, end, size-there lies version p i e (length book) (omega arith) (omega arith) ends (omega arith) opens);
        rises = rw (is, end) (rises_there lies version p i e (length book) (omega arith) (omega arith) ends (omega arith) opens);
      })
      (read-opens bs version p e)
