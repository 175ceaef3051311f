-- The answer bytes read back to the answers that were written, if each has a decision for every choice.
use mathlib.Core.Path.{◌≡◌, refl, sym, ap, ap₂, ◌∙◌}
use mathlib.Core.List.{List, [], ◌∷◌, ◌++◌, append_assoc, append-nil}
use Prim.Native.Nat.{ℕ, zero, suc, ◌+◌, ◌*◌, ◌/◌, ◌%◌}
use native.Mathlib.Omega.{arith}
use lib.ListN.{length, set, replicate}
use lib.Seq.{take-append_seam, drop-append_seam}
use Rattle.limits.specs.Sizes.{most_choices}
use Rattle.limits.specs.declared.Side.{Side}
use Rattle.limits.specs.declared.Side.TheVariants.{Open, Left, Right}
use Rattle.limits.specs.Decisions.{Decisions, all_open}
use Rattle.reading.specs.Bytes.{two_bytes}
use Rattle.machine.specs.Answers.{Answer, decision_numbers, two_bytes_each, record_bytes, records_bytes, answer_bytes}
use Rattle.rewriting.specs.Lists.{All}
use Rattle.meaning.specs.Records.{numbers_in, decided_besides, answer_of, records_in, answers_in}

-- a number is its two bytes
pub two_back : (n : ℕ) → n / 256 * 256 + n % 256 ≡ n
two_back n = omega arith

-- numbers written are read
pub numbers-back : (ns : List ℕ) → numbers_in (two_bytes_each ns) ≡ ns
unfolding numbers_in two_bytes_each two_bytes
numbers-back [] = refl
numbers-back (n ∷ ns) = ap₂ ◌∷◌ (two_back n) (numbers-back ns)

-- ---- decisions

-- i open ones more in front are one less and then an open one
open_more : (i : ℕ) (ds : Decisions) → replicate (suc i) Open ++ ds ≡ replicate i Open ++ (Open ∷ ds)
open_more zero ds = refl
open_more (suc i) ds = ap (◌∷◌ Open) (open_more i ds)

-- the decision behind i open ones, replaced
set-behind : (i : ℕ) (s t : Side) (ds : Decisions) → set (replicate i Open ++ (s ∷ ds)) i t ≡ replicate i Open ++ (t ∷ ds)
set-behind zero s t ds = refl
set-behind (suc i) s t ds = ap (◌∷◌ Open) (set-behind i s t ds)

-- past an open decision, the numbers of those behind it decide them
past_open : (i : ℕ) (ds : Decisions)
    → decided_besides (replicate (suc i + length ds) Open) (decision_numbers (suc i) ds) ≡ replicate (suc i) Open ++ ds
    → decided_besides (replicate (i + suc (length ds)) Open) (decision_numbers (suc i) ds) ≡ replicate i Open ++ (Open ∷ ds)
past_open i ds e =
    let same : i + suc (length ds) ≡ suc i + length ds = omega arith in
    ap (λ n. decided_besides (replicate n Open) (decision_numbers (suc i) ds)) same ∙ e ∙ open_more i ds

-- decisions written are read
decisions-back : (i : ℕ) (ds : Decisions) → decided_besides (replicate (i + length ds) Open) (decision_numbers i ds) ≡ replicate i Open ++ ds
unfolding decided_besides decision_numbers
decisions-back i [] =
    let same : i + 0 ≡ i = omega arith in
    rw same (sym (append-nil (replicate i Open)))
decisions-back i (Open ∷ ds) = past_open i ds (decisions-back (suc i) ds)
decisions-back i (Left ∷ ds) =
    let half : 2 * i / 2 ≡ i = omega arith in
    let even : 2 * i % 2 ≡ 0 = omega arith in
    rw (past_open i ds (decisions-back (suc i) ds), half, even) (set-behind i Open Left ds)
decisions-back i (Right ∷ ds) =
    let half : (2 * i + 1) / 2 ≡ i = omega arith in
    let odd : (2 * i + 1) % 2 ≡ 1 = omega arith in
    rw (past_open i ds (decisions-back (suc i) ds), half, odd) (set-behind i Open Right ds)

-- so are all of them
all_back : (ds : Decisions) → length ds ≡ most_choices → decided_besides all_open (decision_numbers 0 ds) ≡ ds
unfolding all_open
all_back ds e =
    let many : most_choices ≡ 0 + length ds = omega arith in
    ap (λ n. decided_besides (replicate n Open) (decision_numbers 0 ds)) many ∙ decisions-back 0 ds

-- ---- records

-- an answer is its numbers
pub answer_back : (a : Answer) → length a.decisions ≡ most_choices
    → answer_of (length a.symbols ∷ (a.symbols ++ decision_numbers 0 a.decisions)) ≡ a
unfolding answer_of
answer_back a e =
    rw (take-append_seam a.symbols (decision_numbers 0 a.decisions), drop-append_seam a.symbols (decision_numbers 0 a.decisions), all_back a.decisions e)
    refl

-- a row of bytes behind its length is found, and what stands behind it
row_back : (row more : List ℕ) (n : ℕ) → records_in (suc n) (two_bytes (length row) ++ (row ++ more)) ≡ answer_of (numbers_in row) ∷ records_in n more
unfolding records_in two_bytes
row_back row more n = rw (two_back (length row), take-append_seam row more, drop-append_seam row more) refl

-- the record of an answer in front of others
record_back : (a : Answer) (n : ℕ) (more : List ℕ) → length a.decisions ≡ most_choices
    → records_in (suc n) (record_bytes a ++ more) ≡ a ∷ records_in n more
unfolding record_bytes
record_back a n more e =
    let row = length a.symbols ∷ (a.symbols ++ decision_numbers 0 a.decisions) in
    ap (records_in (suc n)) (append_assoc (two_bytes (length (two_bytes_each row))) (two_bytes_each row) more)
    ∙ row_back (two_bytes_each row) more n
    ∙ ap (λ numbers. answer_of numbers ∷ records_in n more) (numbers-back row)
    ∙ ap (λ answer. answer ∷ records_in n more) (answer_back a e)

-- all records, whatever stands behind them
records-back : (answers : List Answer) (more : List ℕ) → All (λ (a : Answer). length a.decisions ≡ most_choices) answers
    → records_in (length answers) (records_bytes answers ++ more) ≡ answers
unfolding records_in records_bytes
records-back [] more All.none = refl
records-back (a ∷ answers) more (All.more e es) =
    ap (records_in (suc (length answers))) (append_assoc (record_bytes a) (records_bytes answers) more)
    ∙ record_back a (length answers) (records_bytes answers ++ more) e
    ∙ ap (◌∷◌ a) (records-back answers more es)

-- THE ANSWER BYTES read back to the answers.
pub answers-back : (answers : List Answer) (more : List ℕ) → All (λ (a : Answer). length a.decisions ≡ most_choices) answers
    → answers_in (length answers) (answer_bytes answers ++ more) ≡ answers
unfolding answers_in answer_bytes
answers-back answers more sized = records-back answers more sized
