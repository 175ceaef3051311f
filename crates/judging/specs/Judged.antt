-- What is judged, as the definitions have it.
use Rattle.std.specs.Prelude.{List, ℕ, ◌≤◌, length, get_or}
use Rattle.symbols.specs.Symbols.{Symbols}
use Rattle.symbols.specs.Table.{symbols_in}
use Rattle.nodes.specs.Nodes.{Node, Heap}
use Rattle.accepted.specs.Read.{node_in, heap_in}
use Rattle.judging.specs.declared.lent.Judged.{Judged}
use Rattle.judging.specs.declared.said.Said.{Said}
use Rattle.judging.specs.declared.said.Said.TheVariants.{Nothing}
use Rattle.judging.specs.Sorts.{Met, Says}

abbrev pub symbols_of : Judged → Symbols
symbols_of j = symbols_in j.book.now j.table.now

abbrev pub node_of : Judged → ℕ → Node
node_of j n = node_in (symbols_of j) j.nodes.now n

abbrev pub heap_of : Judged → Heap
heap_of j = heap_in (symbols_of j) j.nodes.now j.used

-- what is said of each node is met there, and there is a place for each node that is used
abbrev pub MayMeet : Judged → List Said → Type 0
MayMeet j met = (j.used ≤ length met) × ((n : ℕ) → Says (Met (symbols_of j) (heap_of j) n) (get_or met n Nothing))
