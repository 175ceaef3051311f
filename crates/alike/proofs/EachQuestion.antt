-- DEMAND 3 for each question: it is inherited from the run of the question alone.
use mathlib.Core.Path.{◌≡◌, refl, sym, ap, ◌∙◌}
use mathlib.Core.Logic.{◌≢◌}
use mathlib.Core.List.{List, ◌++◌}
use Prim.Native.Nat.{ℕ, zero, suc, ◌+◌, ◌≤◌, ◌<◌}
use native.Mathlib.Nat.{le_refl, not-suc-le-zero, le_of_suc-le-suc}
use native.Mathlib.Omega.{arith}
use native.Mathlib.Decide.{dec_lt}
use lib.ListN.{length, get_or, length-append, get_or-append}
use Rattle.limits.specs.Sizes.{most_choices}
use Rattle.limits.specs.declared.Side.{Side}
use Rattle.limits.specs.declared.Side.TheVariants.{Open}
use Rattle.expressions.specs.Expressions.{Expr}
use Rattle.book.specs.Rules.{Book}
use Rattle.nodes.specs.Nodes.{Heap}
use Rattle.machine.specs.Answers.{Answer as PlainAnswer}
use Rattle.machine.specs.Turn as Plain
use Rattle.rewriting.specs.Scoped.{Scoped}
use Rattle.rewriting.proofs.Steers.{Lawful}
use Rattle.meaning.specs.Demand3.{question, Opposite, left_right, right_left, Apart}
use Rattle.meaning.specs.Demand3 as Plainly
use Rattle.meaning.proofs.AllTurns as AllTurns
use Rattle.alike.specs.Asked.{Answer}
use Rattle.alike.specs.Turning as Later
use Rattle.alike.specs.Alone.{answers_to, AtLeast, Renumbered, AllRenumbered, AsAlone}
use Rattle.alike.specs.EachQuestion.{answer_at, EachQuestion}

-- rows of answers, one by one
renumbered_length : {cs : List ℕ} {us : List PlainAnswer} {vs : List Answer} → AllRenumbered cs us vs → length us ≡ length vs
renumbered_length AllRenumbered.none = refl
renumbered_length (AllRenumbered.more r rs) = ap suc (renumbered_length rs)

renumbered_at : {cs : List ℕ} {us : List PlainAnswer} {vs : List Answer} → AllRenumbered cs us vs → (i : ℕ) → i < length vs
    → Renumbered cs (Plainly.answer_at us i) (answer_at vs i)
renumbered_at AllRenumbered.none i lt = absurd (not-suc-le-zero lt)
renumbered_at (AllRenumbered.more r rs) zero lt = r
renumbered_at (AllRenumbered.more r rs) (suc i) lt = renumbered_at rs i (le_of_suc-le-suc lt)

-- decisions that part, renumbered, still do
apart_renumbered : {cs : List ℕ} {a b : PlainAnswer} {a' b' : Answer} → Renumbered cs a a' → Renumbered cs b b' → Apart a.decisions b.decisions
    → Apart a'.decisions b'.decisions
apart_renumbered {cs} {a} {b} {a'} {b'} ra rb (i, o) = (get_or cs i 0, rw (← ra.decisions i known, ← rb.decisions i known) o)
  where
    not_open : {c d : Side} → Opposite c d → c ≢ Open
    not_open left_right e = let z : ◌≡◌ {A = ℕ} 0 1 = cc in omega arith
    not_open right_left e = let z : ◌≡◌ {A = ℕ} 0 1 = cc in omega arith

    known : i < length cs
    known = by (dec_lt i (length cs))
      where
        by : Dec (i < length cs) → i < length cs
        by (yes lt) = lt
        by (no ge) = absurd (not_open o (ra.none_past i (omega arith)))

module _ (B : Book) (P : Heap → Type 0) (law : Lawful B P) (x : Expr) (closed : Scoped 0 x) (few : (question x).choices ≤ most_choices)
    (lawful : P (question x).heap) (q : ℕ) (r : Later.Ended) (al : AsAlone B x q r) where
  -- the run alone, with just enough fuel and room
  abbrev plain : Plain.Ended
  plain = Plain.turns B al.least (al.fuel + 0) (Plain.loaded x)

  enough : AtLeast al.least al.least
  enough = record { nodes = le_refl _; places = le_refl _; bytes = le_refl _ }

  rest : List PlainAnswer
  rest = (al.alone al.least enough 0).0

  -- its answers begin with these
  begins : plain.state.answers ≡ al.first ++ rest
  unfolding rest
  begins = (al.alone al.least enough 0).1

  shared : List Answer
  shared = answers_to q r.state.answers

  same_length : length al.first ≡ length (answers_to q r.state.answers)
  same_length = renumbered_length al.same

  -- an answer of the shared run is this one of the run alone
  at_first : (i : ℕ) → i < length (answers_to q r.state.answers)
      → (i < length plain.state.answers) × (Plainly.answer_at plain.state.answers i ≡ Plainly.answer_at al.first i)
  at_first i lt = (
    rw (begins, length-append al.first rest) (omega (arith, same_length)),
    ap (λ (l : List PlainAnswer). Plainly.answer_at l i) begins ∙ get_or-append al.first rest _ i (omega (arith, same_length)),
  )

  -- DEMAND 3
  pub each-question : EachQuestion B x q r
  each-question = record {
    sound = λ i lt.
        let (lt', is) = at_first i lt in
        let (v, symbols, reaches) = AllTurns.sound B P law x closed few lawful al.least (al.fuel + 0) i lt' in
        (v, sym (renumbered_at al.same i lt).symbols ∙ ap (λ (a : PlainAnswer). a.symbols) (sym is) ∙ symbols, reaches);
    complete = λ z v reaches.
        let (number, answers) = al.all z al.least enough 0 in
        let (i, lt, symbols) = AllTurns.complete B P law x closed few lawful al.least (al.fuel + 0) number v reaches in
        let lt' : i < length (answers_to q r.state.answers) = omega (arith, lt, ap length answers, same_length) in (
          i,
          lt',
          sym (renumbered_at al.same i lt').symbols
              ∙ ap (λ (l : List PlainAnswer). (Plainly.answer_at l i).symbols) (sym answers) ∙ symbols,
        );
    apart = λ i j other lt lt'.
        let (li, ei) = at_first i lt in
        let (lj, ej) = at_first j lt' in
        apart_renumbered (renumbered_at al.same i lt) (renumbered_at al.same j lt')
        (rw (← ei, ← ej) (AllTurns.apart B P law x closed few lawful al.least (al.fuel + 0) i j other li lj));
  }
