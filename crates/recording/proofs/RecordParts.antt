-- The record of an answer as the code has it: how many numbers it is, and what it comes to with room for them and without.
use mathlib.Core.Bool.{Bool, true, false}
use mathlib.Core.List.{List, [], ◌∷◌, ◌++◌}
use mathlib.Core.Path.{◌≡◌, refl, sym, ap, ◌∙◌}
use Prim.Native.Nat.{ℕ, suc, ◌+◌, ◌*◌, ◌<◌, ◌≤◌}
use native.Mathlib.Omega.{arith}
use lib.ListN.{length, length-append}
use borrow.Author.Tests.{lt-ltb, le-ltb}
use Rattle.limits.specs.Decisions.{Decisions, decided, ones_in}
use Rattle.limits.proofs.Meaning.{words-ones}
use Rattle.machine.specs.Answers.{decision_numbers, two_bytes_each}
use Rattle.alike.specs.Asked.{Answer, asking, record_bytes}
use Rattle.standing.specs.Held.{Decided}
use Rattle.standing.proofs.Behind.{Numbers, each-length}
use Rattle.standing.proofs.DecidedNumbers.{numbers-count}
use Rattle.std.specs.Prelude.{Option, None, Some, is_some}
use Rattle.recording.specs.RecordContracts.{Records, asked_number}

-- a run that took a row writes the question's number
pub asked : (row : Bool) (question : ℕ) {o : Option ℕ} → o ≡ asked_number row question → (n : ℕ) → o ≡ Some n → asking row question ≡ n ∷ []
unfolding asking
asked true question is n some = let same : question ≡ n = cc in rw same
asked false question is n some = absurd (let z : ◌≡◌ {A = ℕ} 0 1 = cc in omega arith)

pub unasked : (row : Bool) (question : ℕ) {o : Option ℕ} → o ≡ asked_number row question → o ≡ None → asking row question ≡ []
unfolding asking
unasked true question is none = absurd (let z : ◌≡◌ {A = ℕ} 0 1 = cc in omega arith)
unasked false question is none = refl

-- which is one number more
pub asked_more : (row : Bool) (question own : ℕ) {o : Option ℕ} → o ≡ asked_number row question → own ≡ elim (is_some o) [ true ↦ 2 | false ↦ 1 ]
    → own ≡ suc (length (asking row question))
unfolding asking
asked_more true question own is e = e ∙ rw is
asked_more false question own is e = e ∙ rw is

-- the ones of the words are the decided choices
pub ones-decided : {words : List ℕ} {sides : Decisions} → Decided words sides → ones_in words ≡ decided sides
ones-decided {sides = sides} means = ap ones_in means.words ∙ words-ones sides means.all

-- the numbers of a record behind its length
abbrev pub numbers_behind : Bool → ℕ → List ℕ → Decisions → List ℕ
numbers_behind row question symbols sides = asking row question ++ (length symbols ∷ (symbols ++ decision_numbers 0 sides))

-- they are so many
pub record Counts (row : Bool) (question : ℕ) (symbols : List ℕ) (sides : Decisions) (numbers : ℕ) : Type 0 where
  pub many : numbers ≡ length (numbers_behind row question symbols sides)

-- with `own` that count neither its symbols nor its decisions
pub parts-counted : (row : Bool) (question : ℕ) (symbols : List ℕ) (sides : Decisions) (own : ℕ) → own ≡ suc (length (asking row question))
    → length (numbers_behind row question symbols sides) ≡ own + length symbols + decided sides
parts-counted row question symbols sides own counted = simp length-append (omega (arith, numbers-count 0 sides))

module _ {row : Bool} {question : ℕ} {symbols : List ℕ} {sides : Decisions} {numbers : ℕ} (counts : Counts row question symbols sides numbers) where
  abbrev answer : Answer
  answer = record { question = question; symbols = symbols; decisions = sides }

  abbrev behind : List ℕ
  behind = numbers_behind row question symbols sides

  record_numbers : record_bytes row answer ≡ two_bytes_each ((2 * numbers) ∷ behind)
  unfolding record_bytes two_bytes_each
  record_numbers =
      let long : length (two_bytes_each behind) ≡ 2 * numbers = omega (arith, each-length behind, counts.many) in
      rw long

  record_length : length (record_bytes row answer) ≡ 2 + 2 * numbers
  record_length = ap length record_numbers ∙ omega (arith, each-length ((2 * numbers) ∷ behind), counts.many)

  module _ {shapes m : List ℕ} {used : ℕ} {bytes : List ℕ} {written : ℕ} where
    -- without room nothing is written
    pub record_refused : length bytes < written + (2 + 2 * numbers) → Records shapes m used bytes answer row written 0 bytes
    record_refused short =
        let test = lt-ltb (length bytes) (written + length (record_bytes row answer)) (omega (arith, record_length)) in
        record { size = rw test; left = rw test }

    -- with room its numbers, once they are written, are the record
    pub record_written : written + (2 + 2 * numbers) ≤ length bytes → {is : List ℕ} {q : ℕ} → Numbers bytes written ((2 * numbers) ∷ behind) is q
        → Records shapes m used bytes answer row written (2 + 2 * numbers) is
    record_written fits there =
        let test = le-ltb (length bytes) (written + length (record_bytes row answer)) (omega (arith, record_length)) in
        record { size = rw test (sym record_length); left = rw (test, record_numbers) there.1 }
