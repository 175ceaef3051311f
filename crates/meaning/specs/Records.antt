-- What one who reads the answer bytes finds in them: the records, and in each the symbols and the decisions. That it is what was
-- written is proved in proofs/ReadBack.antt.
use Rattle.std.specs.Prelude.{List, [], ◌∷◌, ℕ, zero, suc, ◌+◌, ◌*◌, ◌/◌, ◌%◌, eqb, set, take, drop}
use Rattle.limits.specs.Decisions.{Decisions, all_open, side_of}
use Rattle.reading.specs.Bytes.{big_endian}
use Rattle.machine.specs.Answers.{Answer}

-- "two bytes each": the numbers that stand in a row of bytes
unfoldable pub numbers_in : List ℕ → List ℕ
numbers_in [] = []
numbers_in (high ∷ []) = []
numbers_in (high ∷ (low ∷ rest)) = (high * 256 + low) ∷ numbers_in rest

-- "twice its number, plus 1 if right": the decisions of these numbers, taken besides others
unfoldable pub decided_besides : Decisions → List ℕ → Decisions
decided_besides ds [] = ds
decided_besides ds (n ∷ ns) = set (decided_besides ds ns) (n / 2) (side_of (eqb (n % 2) 1))

-- "two-byte symbol count, each node's symbol .., then for each decided choice in rising order two bytes"
unfoldable pub answer_of : List ℕ → Answer
answer_of [] = record { symbols = []; decisions = all_open }
answer_of (count ∷ numbers) = record { symbols = take count numbers; decisions = decided_besides all_open (drop count numbers) }

-- "a record for each answer: two-byte length of the rest": so many records, one behind the other
unfoldable pub records_in : ℕ → List ℕ → List Answer
records_in zero bytes = []
records_in (suc n) bytes =
    let size = big_endian bytes 0 in
    let rest = drop 2 bytes in
    answer_of (numbers_in (take size rest)) ∷ records_in n (drop size rest)

-- "Version byte 1 .. Then a record for each answer"
unfoldable pub answers_in : ℕ → List ℕ → List Answer
answers_in n bytes = records_in n (drop 1 bytes)
