-- REQUEST L3, what is promised of a run over a row of questions: "the answers of one question are, in order, a first part of those it gets alone under
-- enough fuel and room, with its choices renumbered in order of making; all of them, if the run ends as finished". That it is kept is proved in
-- proofs/Alone.antt.
use Rattle.std.specs.Prelude.{true, false, ◌≡◌, ◌≢◌, List, [], ◌∷◌, ◌++◌, map, ℕ, ◌+◌, ◌*◌, ◌/◌, ◌%◌, ◌≤◌, ◌<◌, eqb, length, get_or}
use Rattle.limits.specs.declared.Side.TheVariants.{Open}
use Rattle.expressions.specs.Expressions.{Expr}
use Rattle.book.specs.Rules.{Book}
use Rattle.machine.specs.Answers.{Answer as PlainAnswer, decision_numbers}
use Rattle.machine.specs.Turn as Plain
use Rattle.machine.specs.Turn.{Rooms}
use Rattle.alike.specs.Asked.{Answer}
use Rattle.alike.specs.Turning as Later

-- the answers to question q, in order
unfoldable pub answers_to : ℕ → List Answer → List Answer
answers_to q [] = []
answers_to q (a ∷ answers) = elim (eqb a.question q) [ true ↦ a ∷ answers_to q answers | false ↦ answers_to q answers ]

-- at least that room
pub record AtLeast (least room : Rooms) : Type 0 where
  pub nodes : least.nodes ≤ room.nodes
  pub places : least.places ≤ room.places
  pub bytes : least.bytes ≤ room.bytes

-- a decision number with its choice's number replaced: "twice its number, plus 1 if right"
unfoldable pub renumber : List ℕ → ℕ → ℕ
renumber numbers n = 2 * get_or numbers (n / 2) 0 + n % 2

-- An answer a' of the shared run is the answer a of the run alone: the same symbols, and each choice i decided in the one as its number in the other,
-- which has no other decisions. `numbers` has the numbers of the question's choices in order of making.
pub record Renumbered (numbers : List ℕ) (a : PlainAnswer) (a' : Answer) : Type 0 where
  pub symbols : a.symbols ≡ a'.symbols
  pub decisions : (i : ℕ) → i < length numbers → get_or a.decisions i Open ≡ get_or a'.decisions (get_or numbers i 0) Open
  pub none_past : (i : ℕ) → length numbers ≤ i → get_or a.decisions i Open ≡ Open
  pub no_others : (i' : ℕ) → ((i : ℕ) → i < length numbers → get_or numbers i 0 ≢ i') → get_or a'.decisions i' Open ≡ Open
  -- so the decision numbers of its record are those of the record alone, renumbered
  pub written : decision_numbers 0 a'.decisions ≡ map (renumber numbers) (decision_numbers 0 a.decisions)

-- the same of rows of answers, one by one
pub data AllRenumbered (numbers : List ℕ) : List PlainAnswer → List Answer → Type 0 where
  none : AllRenumbered numbers [] []
  more : {a : PlainAnswer} {a' : Answer} {as₁ : List PlainAnswer} {bs : List Answer} → Renumbered numbers a a' → AllRenumbered numbers as₁ bs
      → AllRenumbered numbers (a ∷ as₁) (a' ∷ bs)

-- Question q, the expression x, in a shared run that ended as r.
pub record AsAlone (B : Book) (x : Expr) (q : ℕ) (r : Later.Ended) : Type 0 where
  -- the numbers of its choices, in order of making
  pub numbers : List ℕ
  pub in_order : (i j : ℕ) → i < j → j < length numbers → get_or numbers i 0 < get_or numbers j 0
  -- enough fuel and room
  pub fuel : ℕ
  pub least : Rooms
  -- "a first part of those it gets alone", under that much or more
  pub first : List PlainAnswer
  pub same : AllRenumbered numbers first (answers_to q r.state.answers)
  pub alone : (room : Rooms) → AtLeast least room → (more : ℕ)
      → (rest : List PlainAnswer) × ((Plain.turns B room (fuel + more) (Plain.loaded x)).state.answers ≡ first ++ rest)
  -- "all of them, if the run ends as finished"
  pub all : r.number ≡ 0 → (room : Rooms) → AtLeast least room → (more : ℕ)
      → ((Plain.turns B room (fuel + more) (Plain.loaded x)).number ≡ 0) × ((Plain.turns B room (fuel + more) (Plain.loaded x)).state.answers ≡ first)
