-- Request L12: a second call takes the book, the nodes, the list and the last result, with fresh answer room, and goes on.
use Rattle.std.specs.Prelude.{Bool, true, false, ◌||◌, List, ℕ, zero, suc, ◌+◌, ltb, eqb, length, get_or}
use Rattle.limits.specs.Sizes.{most_nodes, most_choices, most_fuel}
use Rattle.limits.specs.Lent.{lent_vacant}
use Rattle.reading.specs.Reading.{Reading, got, refusal, refuse◌at◌if◌else◌}
use Rattle.symbols.specs.Symbols.{Symbols}
use Rattle.book.specs.Rules.{book_of}
use Rattle.book.specs.Admission.{read_book}
use Rattle.machine.specs.Turn.{State, turns}
use Rattle.machine.specs.Run.{Memory, Result, Outcome, rooms_of, refused_at, ended_as}
use Rattle.accepted.specs.Read.{heap_in, state_in}
use Rattle.accepted.specs.Faults.{bad_node, bad_entry}

-- ---- the check

-- "30 state not of this kind, its place .. 6 plus the node, else 3,206 plus the entry": the first that is bad, from number i on
unfoldable pub refuse_first : {A : Type 0} → ℕ → (ℕ → Bool) → ℕ → ℕ → (Unit {0} → Reading A) → Reading A
refuse_first place bad i zero more = more tt
refuse_first place bad i (suc left) more = refuse 30 at place + i if bad i else λ _. refuse_first place bad (suc i) left more

-- "its place the first bad count (1 turns to 5 waiting), else 6 plus the node, else 3,206 plus the entry"
unfoldable pub judge : Symbols → Result → ℕ → Memory → Reading State
judge S last fuel m =
    let h = heap_in S m.nodes last.nodes in
    refuse 30 at 1 if ltb most_fuel (last.turns + fuel) else λ _.
    refuse 30 at 2 if ltb last.turns last.answers else λ _.
    refuse 30 at 3 if eqb last.nodes 0 || ltb (rooms_of m).nodes last.nodes else λ _.
    refuse 30 at 4 if ltb most_choices last.choices else λ _.
    refuse 30 at 5 if ltb (rooms_of m).places last.waiting else λ _.
    refuse_first 6 (bad_node S last.choices m.nodes h) 0 last.nodes λ _.
    refuse_first (6 + most_nodes) (λ i. bad_entry last.choices last.nodes (get_or m.list i lent_vacant)) 0 last.waiting λ _.
    got (state_in S last m) 0

-- ---- going on

-- "Turns and answers count on."
unfoldable pub counted_on : ℕ → Outcome → Outcome
counted_on before o = record {
  result = record {
    number = o.result.number;
    place = o.result.place;
    turns = o.result.turns;
    answers = before + o.result.answers;
    nodes = o.result.nodes;
    choices = o.result.choices;
    waiting = o.result.waiting;
  };
  memory = o.memory;
}

-- "it stands after 1 to 5 and before 25"
unfoldable pub go_on : List ℕ → Result → ℕ → Memory → Outcome
go_on book last fuel m = elim (read_book book) [
  | refusal c p ↦ refused_at c p m
  | got rules _ ↦ elim (judge rules.symbols last fuel m) [
    | refusal c p ↦ refused_at c p m
    | got s _ ↦ elim (eqb (length m.bytes) 0) [
      | true ↦ refused_at 25 0 m
      | false ↦ counted_on last.answers (ended_as m (turns (book_of rules) (rooms_of m) fuel s))
    ]
  ]
]
