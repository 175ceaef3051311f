-- What one who reads the answer bytes finds in them, of version 1 or 2 (request L3): the records, and in each the question's number, the symbols and the
-- decisions. That it is what was written is proved in proofs/RowReadBack.antt.
use Rattle.std.specs.Prelude.{Bool, true, false, List, [], ◌∷◌, ℕ, zero, suc, take, drop}
use Rattle.reading.specs.Bytes.{big_endian}
use Rattle.meaning.specs.Records.{numbers_in, answer_of}
use Rattle.alike.specs.Asked.{Answer}

-- the answer to question q that these numbers are
unfoldable pub answer_to : ℕ → List ℕ → Answer
answer_to q numbers = let a = answer_of numbers in record { question = q; symbols = a.symbols; decisions = a.decisions }

-- with the question's number in front, in a book of version 2
unfoldable pub asked_answer : Bool → List ℕ → Answer
asked_answer false numbers = answer_to 0 numbers
asked_answer true [] = answer_to 0 []
asked_answer true (q ∷ numbers) = answer_to q numbers

unfoldable pub records_in : Bool → ℕ → List ℕ → List Answer
records_in row zero bytes = []
records_in row (suc n) bytes =
    let size = big_endian bytes 0 in
    let rest = drop 2 bytes in
    asked_answer row (numbers_in (take size rest)) ∷ records_in row n (drop size rest)

unfoldable pub answers_in : Bool → ℕ → List ℕ → List Answer
answers_in row n bytes = records_in row n (drop 1 bytes)
