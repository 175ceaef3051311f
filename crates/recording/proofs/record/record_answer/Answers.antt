-- `record_answer` meets its contract: length, question's number, symbol count, symbols and decisions stand one behind the other, and are the record.
use mathlib.Core.List.{◌∷◌, ◌++◌}
use mathlib.Core.Path.{◌≡◌, refl, sym, ap, ◌∙◌}
use Prim.Native.Nat.{ℕ, suc, ◌+◌, ◌*◌, ◌≤◌}
use native.Mathlib.Omega.{arith}
use lib.ListN.{length}
use Rattle.limits.specs.Sizes.{most_depth}
use Rattle.limits.specs.Decisions.{Decisions}
use Rattle.nodes.specs.Nodes.{Heap}
use Rattle.machine.specs.Answers.{symbols_from, decision_numbers}
use Rattle.standing.specs.Held.{Decided}
use Rattle.standing.proofs.DecidedNumbers.{numbers-count}
use mathlib.Core.Bool.{Bool, true, false}
use Rattle.std.specs.Prelude.{is_some}
use Rattle.recording.specs.RecordContracts.{asked_number}
use Rattle.recording.proofs.RowBegun.{Begun, begun-none, begun_more, begun-same, begun-one, begun-last}
use Rattle.recording.proofs.RecordParts.{asked, unasked, asked_more, ones-decided, numbers_behind, Counts, parts-counted, record_refused, record_written}
use Rattle.recording.proofs.record.record_answer.Goals as goal
use Rattle.recording.proofs.record.record_answer.Goals.{After-decided, Joined-is_some, then-is_some, else-is_some, in-Some, in_default}

-- the symbol count, and the question's number in a run that took a row
own-is : (c : Joined-is_some) → c.if-is_some.own ≡ elim (is_some c.args.question) [ true ↦ 2 | false ↦ 1 ]
own-is c =
    elim c.if-is_some.branch [
      | then-is_some w ↦ w.own-is ∙ rw (sym c.is_some.ensures ∙ w.if-is_some.true)
      | else-is_some w ↦ w.own-is ∙ rw (sym c.is_some.ensures ∙ w.if-is_some.false)
    ]

own-few : (c : Joined-is_some) → c.if-is_some.own ≤ 2
own-few c = elim c.if-is_some.branch [ then-is_some w ↦ omega arith | else-is_some w ↦ omega arith ]

-- the numbers that are counted are those of the record
counts : (c : After-decided) (row : Bool) (number : ℕ) (h : Heap) (sides : Decisions)
    → let a = c.args in
    let symbols = symbols_from (suc most_depth) h a.root in
    a.question ≡ asked_number row number → Decided a.ds.words sides → a.symbols ≡ length symbols
    → Counts row number symbols sides (c.if-is_some.own + a.symbols + c.decided.result)
counts c row number h sides took means many =
    let a = c.args in
    let symbols = symbols_from (suc most_depth) h a.root in
    let parts = parts-counted row number symbols sides c.if-is_some.own (asked_more row number _ took (own-is (goal.at.After-decided c).Joined-is_some)) in
    record { many = omega (arith, c.decided.ensures.0, ones-decided means) }

pub returns-then-symbols-gt-ARRIVALS-clause-recorded : goal.returns-then-symbols-gt-ARRIVALS-clause-recorded
returns-then-symbols-gt-ARRIVALS-clause-recorded c = λ row number took h sides held means inside many few there. absurd (omega arith)

pub overflow_add-numbers : goal.overflow_add-numbers
overflow_add-numbers c = omega (arith, own-few (goal.at.overflow_add-numbers c).Joined-is_some)

pub overflow_add-numbers-2 : goal.overflow_add-numbers-2
overflow_add-numbers-2 c = omega (arith, own-few (goal.at.overflow_add-numbers-2 c).Joined-is_some, c.decided.ensures.1)

pub overflow_mul-size : goal.overflow_mul-size
overflow_mul-size c = omega (arith, own-few (goal.at.overflow_mul-size c).Joined-is_some, c.decided.ensures.1)

pub overflow_add-size : goal.overflow_add-size
overflow_add-size c = omega (arith, own-few (goal.at.overflow_add-size c).Joined-is_some, c.decided.ensures.1)

pub returns-then-room-written-clause-recorded : goal.returns-then-room-written-clause-recorded
returns-then-room-written-clause-recorded c = λ row number took h sides held means inside many few there. absurd (omega arith)

pub returns-then-room-written-2-clause-recorded : goal.returns-then-room-written-2-clause-recorded
returns-then-room-written-2-clause-recorded c = λ row number took h sides held means inside many few there.
    record_refused (counts (goal.at.returns-then-room-written-2-clause-recorded c).After-decided row number h sides took means many) (omega arith)

pub overflow_cast-numbers-2 : goal.overflow_cast-numbers-2
overflow_cast-numbers-2 c = omega (arith, own-few (goal.at.overflow_cast-numbers-2 c).Joined-is_some, c.decided.ensures.1)

pub shape_of-bytes : goal.shape_of-bytes
shape_of-bytes c =
    let one = c.put_two-p in
    let two = c.put_two-p-2 in
    let three = c.put_symbols-p in
    let four = c.put_decisions in
    let kept : length c.match-question.bytes ≡ length one.new.bytes =
    elim c.match-question.branch [ in-Some w ↦ rw w.bytes-is w.put_two-p-in-Some.auto.bytes | in_default w ↦ rw w.bytes-is ] in
    omega (arith, four.auto.bytes, three.auto.bytes, two.auto.bytes, kept, one.auto.bytes)

pub returns-clause-recorded : goal.returns-clause-recorded
returns-clause-recorded c =
    let four = c.put_decisions in
    let three = c.put_symbols-p in
    let two = c.put_two-p-2 in
    let one = c.put_two-p in
    let own = c.if-is_some.own in
    let a = c.args in
    λ row number took h sides held means inside many few there.
    let symbols = symbols_from (suc most_depth) h a.root in
    let numbers = own + a.symbols + c.decided.result in
    let count : Counts row number symbols sides numbers =
    counts (goal.at.returns-clause-recorded c).After-decided row number h sides took means many in
    let room : a.written + (2 + 2 * numbers) ≤ length a.bytes.now = omega (arith, c.if-room-written-2.false) in
    let rest = length symbols ∷ (symbols ++ decision_numbers 0 sides) in
    let all = (2 * numbers) ∷ numbers_behind row number symbols sides in
    let first = begun-one (begun-none a.bytes.now a.written all (omega (arith, count.many))) (2 * numbers) _ _ _ refl one.ensures in
    let second : Begun a.bytes.now a.written all c.match-question.bytes c.match-question.p rest =
    elim c.match-question.branch [
      | in-Some w ↦
          rw (w.bytes-is, w.p-is) (begun-one first _ rest _ _ (ap (λ l. l ++ rest) (asked row number took _ w.in-Some.is)) w.put_two-p-in-Some.ensures)
      | in_default w ↦ rw (w.bytes-is, w.p-is) (begun-same first rest (ap (λ l. l ++ rest) (unasked row number took w.in_default.is)))
    ] in
    let third = begun-one second a.symbols _ _ _ (ap (λ k. k ∷ (symbols ++ decision_numbers 0 sides)) (sym many)) two.ensures in
    let fourth = begun_more third symbols (decision_numbers 0 sides) _ _ refl (three.ensures h held inside) in
    let last = begun-last fourth _ _ (λ fits. (refl, four.ensures sides means (omega (arith, numbers-count 0 sides)))) in
    record_written count room last
