-- DEMAND 3 over the records of all calls joined: what crate `meaning` keeps from turn to turn of a state with its answers is kept of the state with the
-- answers of all calls, whatever room each call had for its own.
use mathlib.Core.Path.{◌≡◌, refl, ap, subst, ◌∙◌}
use mathlib.Core.Logic.{inl, inr, ◌≢◌, ◌↔◌}
use mathlib.Core.List.{List, [], ◌∷◌, ◌++◌, map, append-nil}
use Prim.Native.Nat.{ℕ, zero, suc, ◌<◌}
use native.Mathlib.Omega.{arith}
use native.Mathlib.Decide.{dec_lt}
use lib.ListN.{length, length-map, get_or-map}
use Rattle.limits.specs.Lent.{Entry}
use Rattle.reading.specs.Reading.{got}
use Rattle.expressions.specs.Expressions.{Expr}
use Rattle.book.specs.Rules.{Rules, Book, book_of}
use Rattle.book.specs.Admission.{read_book, read_question}
use Rattle.nodes.specs.Nodes.{Heap}
use Rattle.machine.specs.Answers.{Answer, answer_bytes}
use Rattle.machine.specs.Turn.{Rooms, State, Turned, Ended, turn, after, turns, loaded}
use Rattle.rewriting.specs.Rewriting.{Value}
use Rattle.rewriting.specs.Lists.{All}
use Rattle.rewriting.proofs.Lists.{all-at}
use Rattle.rewriting.proofs.Steers.{Lawful}
use Rattle.sorts.proofs.HeapsFit.{Sorted}
use Rattle.meaning.specs.Demand3.{flatten, Reachable, Apart, answer_at}
use Rattle.meaning.proofs.Members.{Any, any_at, first, later, Pairwise, pairwise_at, pairwise_right}
use Rattle.meaning.proofs.Turns.{apart_symmetric, of_entries, of_answers, Holds, Good, Kept, turn-kept}
use Rattle.meaning.proofs.AllTurns.{Had, reached, loaded-good, found}
use Rattle.meaning.proofs.Demand3.{lawful, closed, few, sorted}
use Rattle.accepted.specs.LeftIn.{afresh}
use Rattle.going.specs.AllCalls.{Calls, begun, called, AllAnswered}
use Rattle.going.proofs.OtherAnswers.{on_top, Alike, turn_alike}

module _ (B : Book) (P : Heap → Type 0) (W : Value → Type 0) (law : Lawful B P) (old : List Answer) (room : Rooms) where
  -- room for all records
  abbrev enough : State → Rooms
  enough t = record { nodes = room.nodes; places = room.places; bytes = length (answer_bytes (old ++ t.answers)) }

  -- a whole turn keeps the state good that has the answers written before on top
  turn-good : (s t : State) (e : Entry) (rest : List Entry) → s.waiting ≡ e ∷ rest → Good B P W (on_top old s) → turn B room s e rest ≡ Turned.whole t
      → Good B P W (on_top old t)
  turn-good s t e rest front good is =
      by (turn B (enough t) (on_top old s) e rest) (rw is at (turn_alike B old (enough t) room refl refl s e rest))
      (turn-kept B P W (enough t) (on_top old s) e rest front good law)
    where
      by : (x : Turned) → Alike B old (enough t) room refl refl x (Turned.whole t) → Kept B P W (enough t) x → Good B P W (on_top old t)
      by (Turned.whole u) same (Kept.whole g) = rw same at g
      by (Turned.refused c) (is, lacks) k = absurd (omega arith)

  -- so all turns do
  turns-good : (fuel : ℕ) (s : State) → Good B P W (on_top old s) → Good B P W (on_top old (turns B room fuel s).state)
  unfolding turns after
  turns-good zero s good = go s.waiting
    where
      GoodEnd : Ended → Type 0
      GoodEnd x = Good B P W (on_top old x.state)

      go : (l : List Entry) → GoodEnd (elim l [ [] ↦ record { number = 0; state = s } | e ∷ rest ↦ record { number = 20; state = s } ])
      go [] = good
      go (e ∷ rest) = good
  turns-good (suc fuel) s good = go s.waiting refl (turns-good fuel)
    where
      GoodEnd : Ended → Type 0
      GoodEnd x = Good B P W (on_top old x.state)

      by : {e : Entry} {rest : List Entry} (x : Turned) → s.waiting ≡ e ∷ rest → turn B room s e rest ≡ x
          → ((t : State) → Good B P W (on_top old t) → GoodEnd (turns B room fuel t)) → GoodEnd (after x s (λ t. turns B room fuel t))
      by {e} {rest} (Turned.whole t) q is ih = ih t (turn-good s t e rest q good is)
      by (Turned.refused c) q is ih = good

      go : (l : List Entry) → s.waiting ≡ l → ((t : State) → Good B P W (on_top old t) → GoodEnd (turns B room fuel t))
          → GoodEnd (elim l [ [] ↦ record { number = 0; state = s } | e ∷ rest ↦ after (turn B room s e rest) s (λ t. turns B room fuel t) ])
      go [] q ih = good
      go (e ∷ rest) q ih = by (turn B room s e rest) q refl ih

module _ (book asking : List ℕ) {r : Rules} {q : Expr} {p p' : ℕ} (admitted : read_book book ≡ got r p) (asked : read_question r.symbols asking ≡ got q p') where
  abbrev B : Book
  B = book_of r

  abbrev W : Value → Type 0
  W = Had B (Sorted r) q (closed book asking admitted asked) (few book asking admitted asked) (sorted book asking admitted asked)

  -- after any calls the state is good, with the answers of all of them
  calls-good : {all : List Answer} {s : State} → Calls B q all s → Good B (Sorted r) W (on_top all (afresh s))
  unfolding loaded
  calls-good begun = loaded-good B (Sorted r) q (closed book asking admitted asked) (few book asking admitted asked) (sorted book asking admitted asked)
  calls-good (called {all} {s} calls room fuel) =
      let e = turns B room fuel (afresh s) in
      rw (append-nil (all ++ e.state.answers)) (turns-good B (Sorted r) W (lawful r) all room fuel (afresh s) (calls-good calls))

  -- each answer has the symbols of one of the values written (private in crate `meaning`)
  sources : (vs : List Value) (ans : List Answer) → map flatten vs ≡ map (λ (a : Answer). a.symbols) ans → ((v : Value) → Any (λ w. v ≡ w) vs → W v)
      → All (λ (a : Answer). (v : Value) × (a.symbols ≡ flatten v) × W v) ans
  sources [] [] e f = All.none
  sources [] (a ∷ ans) e f = absurd (let z : ◌≡◌ {A = ℕ} 0 1 = cc in omega arith)
  sources (v ∷ vs) [] e f = absurd (let z : ◌≡◌ {A = ℕ} 0 1 = cc in omega arith)
  sources (v ∷ vs) (a ∷ ans) e f = All.more {a = a} (v, (cc), f v (first refl)) (sources vs ans (cc) (λ w x. f w (later x)))

  abbrev no_answer : Answer
  no_answer = record { symbols = []; decisions = [] }

  -- DEMAND 3 over all calls
  pub calls_answer : {all : List Answer} {s : State} → Calls B q all s → AllAnswered r q all s
  calls_answer {all} {s} calls = record { sound = sound; complete = complete; apart = apart }
    where
      good : Good B (Sorted r) W (on_top all (afresh s))
      good = calls-good calls

      same : all ++ [] ≡ all
      same = append-nil all

      had : (v : Value) → W v ↔ Reachable r q v
      had = reached B (Sorted r) q (closed book asking admitted asked) (few book asking admitted asked) (sorted book asking admitted asked) (lawful r)

      writes : map flatten good.values ≡ map (λ (a : Answer). a.symbols) all
      writes = good.writes ∙ ap (map (λ (a : Answer). a.symbols)) same

      sound : (i : ℕ) → i < length all → (v : Value) × ((answer_at all i).symbols ≡ flatten v) × Reachable r q v
      sound i lt =
          let (v, is, w) = all-at no_answer i (sources good.values all writes (λ v x. (good.holds v).0 (inl x))) lt in
          (v, is, (had v).0 w)

      complete : s.waiting ≡ [] → (v : Value) → Reachable r q v → (i : ℕ) × (i < length all) × ((answer_at all i).symbols ≡ flatten v)
      complete none v reach = any_at no_answer (go ((good.holds v).1 ((had v).1 reach)))
        where
          go : Holds B good.values s.heap s.waiting v → Any (λ (a : Answer). a.symbols ≡ flatten v) all
          go (inl x) = found good.values all writes x
          go (inr x) = elim (rw none at x) [ ]

      apart : (i j : ℕ) → i ≢ j → i < length all → j < length all → Apart (answer_at all i).decisions (answer_at all j).decisions
      apart i j other lt lt' = go (dec_lt i j)
        where
          each : Pairwise Apart (of_answers all)
          each = subst (λ (l : List Answer). Pairwise Apart (of_answers l)) same (pairwise_right (of_entries s.waiting) good.apart)

          ordered : (i j : ℕ) → i < j → j < length all → Apart (answer_at all i).decisions (answer_at all j).decisions
          ordered i j before lt =
              rw (← get_or-map (λ (a : Answer). a.decisions) all i no_answer, ← get_or-map (λ (a : Answer). a.decisions) all j no_answer)
              (pairwise_at [] i j each before (rw length-map lt))

          go : Dec (i < j) → Apart (answer_at all i).decisions (answer_at all j).decisions
          go (yes before) = ordered i j before lt'
          go (no after) = apart_symmetric (answer_at all j).decisions (answer_at all i).decisions (ordered j i (omega arith) lt)
