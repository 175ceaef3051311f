-- Cases of requests L3, L7 and L10, one table of each kind of run.
use Rattle.std.specs.Prelude.{◌≡◌, [], ◌∷◌, ◌++◌, ℕ, ◌*◌, replicate}
use Rattle.limits.specs.Sizes.{numbers_of_node, words_of_set}
use Rattle.machine.specs.Cases.{small_book, D, loop_or_false, answers_of_d}
use Rattle.alike.specs.Night.{Memory, Result, run, run_row}

abbrev pub result_of : ℕ → ℕ → ℕ → ℕ → ℕ → ℕ → ℕ → ℕ → Result
result_of number place turns answers nodes choices waiting question = record {
  number = number;
  place = place;
  turns = turns;
  answers = answers;
  nodes = nodes;
  choices = choices;
  waiting = waiting;
  question = question;
}

-- so many nodes, places and answer bytes, and other things in them than zeros
unfoldable pub lent_for : ℕ → ℕ → ℕ → Memory
lent_for nodes places bytes = record {
  nodes = replicate (numbers_of_node * nodes) 7;
  list = replicate places (record { question = 4; root = 5; words = replicate words_of_set 6 });
  bytes = replicate bytes 9;
}

-- "Document 01's D with 7 nodes now finishes."
unfoldable pub seven_finish : Type 0
seven_finish =
    let o = run small_book D 10 (lent_for 7 3 17) in
    (o.result.number ≡ 0) × (o.result.turns ≡ 10) × (o.result.answers ≡ 2) × (o.memory.bytes ≡ answers_of_d)

-- two questions, D and "loop or False": the circle costs D only its share of turns
unfoldable pub two_questions : Type 0
two_questions =
    let o = run_row small_book (14 ∷ 11 ∷ []) (D ++ loop_or_false) 30 (lent_for 20 8 40) in
    (o.result.number ≡ 20) × (o.result.answers ≡ 3)
    × (o.memory.bytes ≡ 2 ∷ 0 ∷ 8 ∷ 0 ∷ 1 ∷ 0 ∷ 1 ∷ 0 ∷ 0 ∷ 0 ∷ 3
    ∷ 0 ∷ 8 ∷ 0 ∷ 0 ∷ 0 ∷ 1 ∷ 0 ∷ 0 ∷ 0 ∷ 0 ∷ 0 ∷ 8 ∷ 0 ∷ 0 ∷ 0 ∷ 1 ∷ 0 ∷ 0 ∷ 0 ∷ 1 ∷ replicate 9 9)
