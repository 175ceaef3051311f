-- "for the same book, question and room": whoever raises fuel lends buffers as long as before, with whatever the last run left in them.
use Rattle.std.specs.Prelude.{◌≡◌, ◌≢◌, List, ◌++◌, length}
use Rattle.machine.specs.Answers.{Answer}
use Rattle.machine.specs.Run.{Memory, Outcome}
use Rattle.fuel.specs.MoreFuel.{records}

-- two memories of the same size
pub record SameRoom (m m' : Memory) : Type 0 where
  pub nodes : length m.nodes ≡ length m'.nodes
  pub list : length m.list ≡ length m'.list
  pub bytes : length m.bytes ≡ length m'.bytes

-- of a run that came to o, and in a memory of the same size to o' with more fuel
pub record MoreElsewhere (o o' : Outcome) : Type 0 where
  -- "the answers under less fuel are the first ones under more"
  pub first_answers : (more : List Answer) × (records o' ≡ records o ++ more)
  -- "once a run is finished, more fuel changes nothing": neither the result nor the answers
  pub finished_stays : o.result.number ≡ 0 → (o'.result ≡ o.result) × (records o' ≡ records o)
  pub other_stays : o.result.number ≢ 20 → (o'.result ≡ o.result) × (records o' ≡ records o)
