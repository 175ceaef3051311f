-- What stands in lent memory, whatever the numbers are: nodes, entries, and the state that a second call goes on from.
use Rattle.std.specs.Prelude.{List, [], map, ℕ, zero, suc, length, take}
use Rattle.limits.specs.Sizes.{most_choices}
use Rattle.limits.specs.Decisions.{side_at}
use Rattle.limits.specs.Lent.{Entry}
use Rattle.limits.specs.declared.Entry.{Entry as LentEntry}
use Rattle.symbols.specs.Symbols.{Symbols}
use Rattle.nodes.specs.Nodes.{Node, apply, choice, fail, forward, Heap}
use Rattle.nodes.specs.Numbers.{kind_in, label_in, arrow_in}
use Rattle.machine.specs.Turn.{State}
use Rattle.machine.specs.Run.{Memory, Result}
use Rattle.rewriting.specs.Lists.{firsts}
use Rattle.sorts.specs.Sorts.{arguments_of}

-- "kind (0 apply, 1 choice, 2 fail, 3 forward)": the node by its kind. Only the numbers that the kind and the symbol use are read. An unknown
-- kind reads as a fail, and an unknown symbol has no arguments; both are refused.
unfoldable pub node_by : ℕ → Symbols → List ℕ → ℕ → Node
node_by zero S m n = apply (label_in m n) (firsts (length (arguments_of S (label_in m n))) (arrow_in m n))
node_by (suc zero) S m n = choice (label_in m n) (arrow_in m n 0) (arrow_in m n 1)
node_by (suc (suc zero)) S m n = fail
node_by (suc (suc (suc zero))) S m n = forward (arrow_in m n 0)
node_by (suc (suc (suc (suc k)))) S m n = fail

abbrev pub node_in : Symbols → List ℕ → ℕ → Node
node_in S m n = node_by (kind_in m n) S m n

-- the nodes used
unfoldable pub heap_in : Symbols → List ℕ → ℕ → Heap
heap_in S m used = firsts used (node_in S m)

-- "one root and 256 decisions, each open, left or right"
unfoldable pub entry_in : LentEntry → Entry
entry_in x = record { root = x.root; decisions = firsts most_choices (side_at x.words) }

-- the state that was left with these counts; this call has no answers yet
unfoldable pub state_in : Symbols → Result → Memory → State
state_in S last m = record {
  heap = heap_in S m.nodes last.nodes;
  choices = last.choices;
  waiting = map entry_in (take last.waiting m.list);
  answers = [];
  turns = last.turns;
}
