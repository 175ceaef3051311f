-- A state as a run leaves it in lent memory.
use Rattle.std.specs.Prelude.{List, [], ◌≡◌, ℕ, ◌+◌, ◌≤◌, length}
use Rattle.limits.specs.Sizes.{most_arguments}
use Rattle.limits.specs.declared.Entry.{Entry as LentEntry}
use Rattle.symbols.specs.Symbols.{Symbols}
use Rattle.nodes.specs.Nodes.{heap_numbers}
use Rattle.machine.specs.Turn.{State}
use Rattle.machine.specs.Run.{Memory, Result, rooms_of, over, list_for}
use Rattle.sorts.specs.Sorts.{arguments_of}

-- the same state with no answers: "with fresh answer room"
abbrev pub afresh : State → State
afresh s = record { heap = s.heap; choices = s.choices; waiting = s.waiting; answers = []; turns = s.turns }

-- its nodes and entries stand in lent memory, and its counts are told; `before` answers were counted before it
pub record LeftIn (before : ℕ) (s : State) (last : Result) (m : Memory) : Type 0 where
  pub old_nodes : List ℕ
  pub old_list : List LentEntry
  pub nodes : m.nodes ≡ over (heap_numbers s.heap) old_nodes
  pub list : m.list ≡ over (list_for (rooms_of m).places s.waiting) old_list
  pub turns : last.turns ≡ s.turns
  pub answers : last.answers ≡ before + length s.answers
  pub used : last.nodes ≡ length s.heap
  pub choices : last.choices ≡ s.choices
  pub waiting : last.waiting ≡ length s.waiting

-- "the sorts of its arguments (0 to 8 of them)"
abbrev pub Narrow : Symbols → Type 0
Narrow S = (f : ℕ) → length (arguments_of S f) ≤ most_arguments
