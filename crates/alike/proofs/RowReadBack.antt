-- The answer bytes of both versions read back to the answers that were written.
use mathlib.Core.Bool.{Bool, true, false}
use mathlib.Core.Path.{◌≡◌, refl, sym, ap, ◌∙◌}
use mathlib.Core.List.{List, [], ◌∷◌, ◌++◌, append_assoc}
use Prim.Native.Nat.{ℕ, suc}
use lib.ListN.{length}
use lib.Seq.{take-append_seam, drop-append_seam}
use Rattle.limits.specs.Sizes.{most_choices}
use Rattle.reading.specs.Bytes.{two_bytes}
use Rattle.machine.specs.Answers as Plain
use Rattle.machine.specs.Answers.{decision_numbers, two_bytes_each}
use Rattle.rewriting.specs.Lists.{All, none, more}
use Rattle.meaning.specs.Records.{numbers_in}
use Rattle.meaning.proofs.ReadBack.{two_back, numbers-back, answer_back}
use Rattle.alike.specs.Asked.{Answer, asking, record_bytes, records_bytes, answer_bytes}
use Rattle.alike.specs.RowRecords.{answer_to, asked_answer, records_in, answers_in}
use Rattle.alike.proofs.Entries.{Among, AnswerAlike, To}

-- an answer that can be read back: it has a decision for every choice, and question 0 where the number is not written
pub record Readable (row : Bool) (a : Answer) : Type 0 where
  pub sized : length a.decisions ≡ most_choices
  pub numbered : row ≡ false → a.question ≡ 0

abbrev numbers_of : Answer → List ℕ
numbers_of a = length a.symbols ∷ (a.symbols ++ decision_numbers 0 a.decisions)

answer_to-back : (q : ℕ) (a : Answer) → length a.decisions ≡ most_choices → a.question ≡ q → answer_to q (numbers_of a) ≡ a
unfolding answer_to
answer_to-back q a e is =
    ap (λ (b : Plain.Answer). record { question = q; symbols = b.symbols; decisions = b.decisions })
    (answer_back (record { symbols = a.symbols; decisions = a.decisions }) e)
    ∙ ap (λ (n : ℕ). record { question = n; symbols = a.symbols; decisions = a.decisions }) (sym is)

asked-back : (row : Bool) (a : Answer) → Readable row a → asked_answer row (asking row a.question ++ numbers_of a) ≡ a
unfolding asked_answer asking
asked-back true a r = answer_to-back a.question a r.sized refl
asked-back false a r = answer_to-back 0 a r.sized (r.numbered refl)

row_back : (row : Bool) (bytes rest : List ℕ) (n : ℕ)
    → records_in row (suc n) (two_bytes (length bytes) ++ (bytes ++ rest)) ≡ asked_answer row (numbers_in bytes) ∷ records_in row n rest
unfolding records_in two_bytes
row_back row bytes rest n = rw (two_back (length bytes), take-append_seam bytes rest, drop-append_seam bytes rest) refl

record_back : (row : Bool) (a : Answer) (n : ℕ) (rest : List ℕ) → Readable row a → records_in row (suc n) (record_bytes row a ++ rest) ≡ a ∷ records_in row n rest
unfolding record_bytes
record_back row a n rest r =
    let numbers = asking row a.question ++ numbers_of a in
    ap (records_in row (suc n)) (append_assoc (two_bytes (length (two_bytes_each numbers))) (two_bytes_each numbers) rest)
    ∙ row_back row (two_bytes_each numbers) rest n
    ∙ ap (λ (ns : List ℕ). asked_answer row ns ∷ records_in row n rest) (numbers-back numbers)
    ∙ ap (λ (b : Answer). b ∷ records_in row n rest) (asked-back row a r)

records-back : (row : Bool) (answers : List Answer) (rest : List ℕ) → All (Readable row) answers
    → records_in row (length answers) (records_bytes row answers ++ rest) ≡ answers
unfolding records_in records_bytes
records-back row [] rest none = refl
records-back row (a ∷ answers) rest (more r rs) =
    ap (records_in row (suc (length answers))) (append_assoc (record_bytes row a) (records_bytes row answers) rest)
    ∙ record_back row a (length answers) (records_bytes row answers ++ rest) r
    ∙ ap (◌∷◌ a) (records-back row answers rest rs)

-- THE ANSWER BYTES read back to the answers
pub answers-back : (row : Bool) (answers : List Answer) (rest : List ℕ) → All (Readable row) answers
    → answers_in row (length answers) (answer_bytes row answers ++ rest) ≡ answers
unfolding answers_in answer_bytes
answers-back row answers rest r = records-back row answers rest r

-- each answer of a shared run is of some question's own run, so it has a decision for every choice
module _ (cs : ℕ → List ℕ) where
  head_sized : (a : Answer) (q : ℕ) {us : List Plain.Answer} {as₁ : List Answer} → a.question ≡ q → Among (To q) (AnswerAlike (cs q)) us (a ∷ as₁)
      → length a.decisions ≡ most_choices
  head_sized a q is (Among.mine m r p) = r.decisions.sized'
  head_sized a q is (Among.other n p) = absurd (n is)

  tail_among : (q : ℕ) {us : List Plain.Answer} {a : Answer} {as₁ : List Answer} → Among (To q) (AnswerAlike (cs q)) us (a ∷ as₁)
      → (vs : List Plain.Answer) × Among (To q) (AnswerAlike (cs q)) vs as₁
  tail_among q (Among.mine {us} m r p) = (us, p)
  tail_among q {us} (Among.other n p) = (us, p)

  pub all-sized : (answers : List Answer) → ((q : ℕ) → (us : List Plain.Answer) × Among (To q) (AnswerAlike (cs q)) us answers)
      → All (λ (a : Answer). length a.decisions ≡ most_choices) answers
  all-sized [] f = none
  all-sized (a ∷ answers) f = more (head_sized a a.question refl (f a.question).1) (all-sized answers (λ q. tail_among q (f q).1))
