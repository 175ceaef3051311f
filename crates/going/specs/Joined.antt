-- FUEL A FOLLOWED BY B MORE equals fuel a plus b (request L12).
use Rattle.std.specs.Prelude.{◌≡◌, List, ◌++◌, ℕ, length}
use Rattle.machine.specs.Answers.{Answer, answer_bytes}
use Rattle.machine.specs.Run.{Memory, Outcome, over}

-- the memory for a second call: nodes and list as the first left them, and fresh answer room
abbrev pub going_on : Outcome → List ℕ → Memory
going_on o bytes = record { nodes = o.memory.nodes; list = o.memory.list; bytes = bytes }

-- o is what the first call left, o' what the second left in the answer room bytes', o'' what one run with all the fuel leaves in bytes'':
-- "the same state, and the answer records joined"
pub record Joined (bytes bytes' bytes'' : List ℕ) (o o' o'' : Outcome) : Type 0 where
  pub result : o'.result ≡ o''.result
  pub nodes : o'.memory.nodes ≡ o''.memory.nodes
  pub list : o'.memory.list ≡ o''.memory.list
  pub first : List Answer
  pub second : List Answer
  pub counted : o.result.answers ≡ length first
  pub written : o.memory.bytes ≡ over (answer_bytes first) bytes
  pub written' : o'.memory.bytes ≡ over (answer_bytes second) bytes'
  pub written'' : o''.memory.bytes ≡ over (answer_bytes (first ++ second)) bytes''
