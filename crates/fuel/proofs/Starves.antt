-- Nobody starves, of runs from bytes to bytes: a value that the question can reach is heard in time from the loaded question on, what is written is
-- read back, and with more fuel it stays so.
use mathlib.Core.Bool.{Bool, true, false}
use mathlib.Core.Path.{◌≡◌, ap, ◌∙◌}
use mathlib.Core.Logic.{◌⊎◌, inl, inr, ⊎_elim}
use mathlib.Core.List.{List}
use Prim.Native.Nat.{ℕ, ◌+◌, ◌≤◌, ◌<◌}
use native.Mathlib.Omega.{arith}
use lib.Dec.{ltb, eqb}
use lib.ListN.{length, length-append, get_or-append}
use Rattle.reading.specs.Reading.{got}
use Rattle.expressions.specs.Expressions.{Expr}
use Rattle.book.specs.Rules.{Rules, book_of}
use Rattle.book.specs.Admission.{read_book, read_question}
use Rattle.machine.specs.Turn.{Ended, turns, loaded}
use Rattle.machine.specs.Run.{Memory, Outcome, rooms_of, refused_at, ended_as, run_loaded, run}
use Rattle.rewriting.specs.Rewriting.{Value}
use Rattle.sorts.proofs.HeapsFit.{Sorted}
use Rattle.meaning.specs.Demand3.{Reachable, answer_at}
use Rattle.meaning.proofs.Members.{any_at}
use Rattle.meaning.proofs.AllTurns.{Had, reached, loaded-good}
use Rattle.meaning.proofs.Demand3.{lawful, closed, few, sorted, read_back}
use Rattle.fuel.specs.MoreFuel.{MoreFuel, records}
use Rattle.fuel.specs.NobodyStarves.{Written, Refused, NobodyStarves}
use Rattle.fuel.proofs.Kept.{more-fuel}
use Rattle.fuel.proofs.InTime.{Heard, heard_in_time}

-- what a run has written or was refused for stays so with more fuel
stays_heard : (v : Value) {k : ℕ} {o o' : Outcome} → MoreFuel k o o' → Written v o ⊎ Refused o → Written v o' ⊎ Refused o'
stays_heard v {o} {o'} more (inl (i, lt, is)) =
    let (new, added) = more.first_answers in
    inl (
      i,
      omega (arith, ap length added, length-append (records o) new),
      ap (λ l. (answer_at l i).symbols) added ∙ ap (λ a. a.symbols) (get_or-append (records o) new _ i lt) ∙ is,
    )
stays_heard v more (inr (lt, le)) = inr (rw (more.other_stays (λ spent. omega (arith, spent))) (lt, le))

module _ (book question : List ℕ) (m : Memory) {rules : Rules} {x : Expr} {p q : ℕ} (admitted : read_book book ≡ got rules p)
    (asked : read_question rules.symbols question ≡ got x q) where
  -- what the turns come to, by their fuel
  abbrev came : ℕ → Ended
  came fuel = turns (book_of rules) (rooms_of m) fuel (loaded x)

  -- an admitted book and question are loaded
  loads : (fuel : ℕ) → run book question fuel m ≡ run_loaded (book_of rules) fuel m (loaded x)
  unfolding run
  loads fuel = rw (admitted, run, asked)

  -- of a run of them holds what holds of a refusal with 25, 21 or 23, and of what the turns come to
  of_run : (Q : Outcome → Type 0) → ((c : ℕ) → 20 < c → c ≤ 25 → Q (refused_at c 0 m)) → (fuel : ℕ) → Q (ended_as m (came fuel))
      → Q (run book question fuel m)
  unfolding run_loaded
  of_run Q early fuel late =
      rw (loads fuel)
      (unless (eqb (length m.bytes) 0) 25 (omega arith) (omega arith)
      (unless (ltb (rooms_of m).nodes (length (loaded x).heap)) 21 (omega arith) (omega arith)
      (unless (eqb (length m.list) 0) 23 (omega arith) (omega arith) late)))
    where
      -- one test more that may refuse the run
      unless : (test : Bool) (c : ℕ) {o : Outcome} → 20 < c → c ≤ 25 → Q o → Q (elim test [ true ↦ refused_at c 0 m | false ↦ o ])
      unless true c lt le u = early c lt le
      unless false c lt le u = u

  -- the values that the question can have
  abbrev Held : Value → Type 0
  Held = Had (book_of rules) (Sorted rules) x (closed book question admitted asked) (few book question admitted asked)
      (sorted book question admitted asked)

  -- v is heard of, in what the turns come to
  abbrev HeardOf : Value → Ended → Type 0
  HeardOf v = Heard (book_of rules) (Sorted rules) Held (rooms_of m) (lawful rules) v

  -- what is heard of the turns is heard of the run
  run_hears : (v : Value) (fuel : ℕ) → HeardOf v (came fuel) → Written v (run book question fuel m) ⊎ Refused (run book question fuel m)
  unfolding refused_at ended_as
  run_hears v fuel heard = of_run (λ o. Written v o ⊎ Refused o) (λ c lt le. inr (lt, le)) fuel (late heard)
    where
      late : HeardOf v (came fuel) → Written v (ended_as m (came fuel)) ⊎ Refused (ended_as m (came fuel))
      late (inl any) = inl (rw (read_back book question admitted asked fuel m) (any_at _ any))
      late (inr refused) = inr refused

  -- IN TIME of the runs
  in_time_lem : (v : Value) → Reachable rules x v
      → (F : ℕ) × ((k : ℕ) → Written v (run book question (F + k) m) ⊎ Refused (run book question (F + k) m))
  in_time_lem v reaches =
      let is-closed = closed book question admitted asked in
      let is-few = few book question admitted asked in
      let is_sorted = sorted book question admitted asked in
      let (F, heard) = heard_in_time (book_of rules) (Sorted rules) Held (rooms_of m) (lawful rules) v
      ((reached (book_of rules) (Sorted rules) x is-closed is-few is_sorted (lawful rules) v).1 reaches) (loaded x)
      (loaded-good (book_of rules) (Sorted rules) x is-closed is-few is_sorted) in
      (F, λ k. stays_heard v (more-fuel book question m F k) (run_hears v F heard))

  -- NOBODY STARVES
  pub nobody_starves : NobodyStarves rules x (λ fuel. run book question fuel m)
  nobody_starves = record {
    in_time = in_time_lem;
    endless = λ never v reaches.
        let (F, heard) = in_time_lem v reaches in
        (F, λ k. ⊎_elim (λ written. written) (λ refused. absurd (never (F + k) refused)) (heard k));
  }
