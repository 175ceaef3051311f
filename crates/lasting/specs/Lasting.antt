-- EVERY STATE THAT A RUN LEAVES is one from which a second call goes on, also where entries carry questions' numbers (L3), forwards are shortened (L7) and
-- nodes used again (L10). Request L12: "proved: every state that any run or call leaves is accepted by the same book and rooms". Kept by proofs/Turns.antt
-- and proofs/LoadedRows.antt.
use Rattle.std.specs.Prelude.{Bool, ◌≡◌, List, ◌∷◌, ℕ, ◌<◌, ◌≤◌, length}
use Rattle.limits.specs.Sizes.{most_choices}
use Rattle.reading.specs.Reading.{got}
use Rattle.symbols.specs.Symbols.{Symbols}
use Rattle.expressions.specs.Expressions.{Expr}
use Rattle.book.specs.Rules.{Rules, book_of}
use Rattle.book.specs.Admission.{read_question}
use Rattle.machine.specs.Turn.{Rooms}
use Rattle.rewriting.specs.Lists.{All}
use Rattle.accepted.specs.Accepted.{AcceptedState}
use Rattle.accepted.specs.Turnable.{Turnable}
use Rattle.forwards.specs.Shorten.{shortened}
use Rattle.alike.specs.Asked.{Entry}
use Rattle.alike.specs.Turning as Later
use Rattle.alike.specs.Turning.{State, Turned, whole, refused, loaded}
use Rattle.alike.specs.AsPlain.{forgotten}

-- an accepted state; questions' numbers are not judged
abbrev pub LaterAccepted : Symbols → Rooms → ℕ → State → Type 0
LaterAccepted S room before s = AcceptedState S room before (forgotten s)

-- and what a turn needs of it
abbrev pub LaterTurnable : Rules → State → Type 0
LaterTurnable r s = Turnable r (forgotten s)

-- no more nodes are in use than ever were: "vacated spaces are always zero" speaks of those in between
abbrev pub InUse : State → Type 0
InUse s = length s.heap ≤ s.most

-- P of the state that a turn leaves, whole or refused: "a turn refused otherwise keeps the shortened arrows"
abbrev pub StateLeft : (State → Type 0) → Turned → Type 0
StateLeft P (whole t) = P t
StateLeft P (refused c t) = P t

-- turns of this kind keep P
abbrev pub Keeps : (State → Type 0) → (State → Entry → List Entry → Turned) → Type 0
Keeps P step = (s : State) (e : Entry) (rest : List Entry) → s.waiting ≡ e ∷ rest → P s → StateLeft P (step s e rest)

-- P lasts: what keeps it, with a book and in these rooms, of states that anyone left
pub record Lasts (r : Rules) (row : Bool) (room : Rooms) (P : State → Type 0) : Type 0 where
  pub attempt : Keeps P (Later.attempt shortened (book_of r) row room)
  -- "nodes that no waiting entry can reach .. are dropped"; some entry waits, the one at its turn
  pub dropped : (s : State) (e : Entry) (rest : List Entry) → s.waiting ≡ e ∷ rest → P s → P (Later.dropped s)
  pub turn : Keeps P (Later.turn shortened (book_of r) row room)
  pub turns : (fuel : ℕ) (s : State) → P s → P (Later.turns shortened (book_of r) row room fuel s).state

-- some bytes are admitted as this question
abbrev pub Admitted : Symbols → Expr → Type 0
Admitted S x = (bytes : List ℕ) × (p : ℕ) × (read_question S bytes ≡ got x p)

-- a row of questions that can be loaded in these rooms
pub record Loadable (S : Symbols) (room : Rooms) (xs : List Expr) : Type 0 where
  pub admitted : All (Admitted S) xs
  pub some : 0 < length xs
  pub nodes : length (loaded xs).heap ≤ room.nodes
  pub choices : (loaded xs).choices ≤ most_choices
  pub places : length xs ≤ room.places

-- what is so of the row as it is loaded
pub record LoadedLasts (r : Rules) (room : Rooms) (xs : List Expr) : Type 0 where
  pub accepted : LaterAccepted r.symbols room 0 (loaded xs)
  pub in_use : InUse (loaded xs)

-- and of the state that a run over it leaves, with any fuel, finished or refused
pub record RunLasts (r : Rules) (row : Bool) (room : Rooms) (xs : List Expr) : Type 0 where
  pub accepted : (fuel : ℕ) → LaterAccepted r.symbols room 0 (Later.turns shortened (book_of r) row room fuel (loaded xs)).state
  pub in_use : (fuel : ℕ) → InUse (Later.turns shortened (book_of r) row room fuel (loaded xs)).state
