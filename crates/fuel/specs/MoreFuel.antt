-- MORE FUEL never takes an answer back: what is promised of two runs of the same book and question in the same lent memory, the second
-- with more fuel. That it is kept is proved in proofs/Kept.antt, and of calls in crate `promises`.
use Rattle.std.specs.Prelude.{◌≡◌, ◌⊎◌, ◌≢◌, List, ◌∷◌, ◌++◌, ℕ, ◌+◌, ◌<◌, length, get_or, take}
use Rattle.limits.specs.declared.Entry.{Entry as LentEntry}
use Rattle.limits.specs.Lent.{Entry, lent_vacant}
use Rattle.book.specs.Rules.{Book}
use Rattle.machine.specs.Answers.{Answer, answer_bytes}
use Rattle.machine.specs.Turn.{Rooms, State, Ended, turns}
use Rattle.machine.specs.Run.{Outcome}
use Rattle.meaning.specs.Records.{answers_in}

-- the records that are read back from the answer bytes
abbrev pub records : Outcome → List Answer
records o = answers_in o.result.answers o.memory.bytes

-- the bytes of the answer room as far as these records reach, the version byte with them
abbrev pub bytes_for : List Answer → Outcome → List ℕ
bytes_for answers o = take (length (answer_bytes answers)) o.memory.bytes

-- the entry at place k of the lent list
abbrev pub entry_at : Outcome → ℕ → LentEntry
entry_at o k = get_or o.memory.list k lent_vacant

-- It is the turn of the entry that stood at place k: fuel is spent after k turns more, and this entry is in front.
pub record ItsTurn (k : ℕ) (o o' : Outcome) : Type 0 where
  pub spent : o'.result.number ≡ 20
  pub turns : o'.result.turns ≡ o.result.turns + k
  pub waits : 0 < o'.result.waiting
  pub front : entry_at o' 0 ≡ entry_at o k

-- of a run that came to o, and to o' with fuel for k turns more
pub record MoreFuel (k : ℕ) (o o' : Outcome) : Type 0 where
  -- FIRST ANSWERS: "the answers under less fuel are the first ones under more"
  pub first_answers : (more : List Answer) × (records o' ≡ records o ++ more)
  -- and so are their bytes
  pub first_bytes : bytes_for (records o) o' ≡ bytes_for (records o) o
  -- FINISHED STAYS: "once a run is finished, more fuel changes nothing"
  pub finished_stays : o.result.number ≡ 0 → o' ≡ o
  -- nor does it after a refusal other than "fuel is spent"
  pub other_stays : o.result.number ≢ 20 → o' ≡ o
  -- ITS TURN: "an entry which joins the list behind k others gets its turn after exactly k further turns, unless the run stops first". Such an
  -- entry is at place k of the list right after the turn in which it joined, and o is what a run leaves whose fuel was spent with that turn.
  pub its_turn : o.result.number ≡ 20 → k < o.result.waiting → (20 < o'.result.number) ⊎ ItsTurn k o o'

-- The entry e, which waited behind `before`, is in front after as many turns; behind it are those that waited there, then those that joined since.
pub record Front (s : State) (before : List Entry) (e : Entry) (behind : List Entry) (r : Ended) : Type 0 where
  pub spent : r.number ≡ 20
  pub turns : r.state.turns ≡ s.turns + length before
  pub joined : List Entry
  pub waiting : r.state.waiting ≡ e ∷ (behind ++ joined)

-- ITS TURN, of any state: with fuel for as many turns as others wait before it, each entry comes to be in front, unless the run stops first.
abbrev pub Queued : Book → Rooms → State → Type 0
Queued B room s = (before : List Entry) (e : Entry) (behind : List Entry) → s.waiting ≡ before ++ (e ∷ behind)
    → let r = turns B room (length before) s in (20 < r.number) ⊎ Front s before e behind r
