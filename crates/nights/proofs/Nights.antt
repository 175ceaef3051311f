-- The nights of `specs/Nights.antt`: what is told follows from demand 3 and from what the two operations reach; that a run is finished, from the weights.
use mathlib.Core.Bool.{false}
use mathlib.Core.Path.{◌≡◌, refl, sym, ap, subst, ◌∙◌}
use mathlib.Core.Logic.{◌⊎◌, inl, inr, ◌↔◌}
use mathlib.Core.List.{List, [], ◌∷◌}
use Prim.Native.Nat.{ℕ, ◌+◌, ◌≤◌, ◌<◌}
use native.Mathlib.Omega.{arith}
use native.Mathlib.Nat.{not-suc-le-zero}
use borrow.Author.Tests.{le-ltb, ne_eqb}
use lib.ListN.{length}
use Rattle.reading.specs.Reading.{got}
use Rattle.expressions.specs.Expressions.{Expr, Exprs}
use Rattle.book.specs.Rules.{Rules, book_of}
use Rattle.book.specs.Admission.{read_book, read_question}
use Rattle.tagged.specs.Listing.{Broader}
use Rattle.tagged.specs.Terms.{rules_for}
use Rattle.tagged.specs.Hops.{Inside, HasCircle}
use Rattle.tagged.specs.Write.{passes, book_from}
use Rattle.tagged.proofs.Accepted.{accepted}
use Rattle.machine.specs.Made.{make}
use Rattle.machine.specs.Turn.{turns, loaded}
use Rattle.machine.specs.Run.{Memory, Outcome, rooms_of, ended_as, run_loaded, run}
use Rattle.rewriting.specs.Rewriting.{Value, con, no_values}
use Rattle.meaning.specs.Demand3.{flatten, Reachable, answer_at, Untouched, Answered}
use Rattle.meaning.specs.Records.{records_in, answers_in}
use Rattle.meaning.proofs.Demand3.{demand_3}
use Rattle.above.specs.Reached.{TermOf, Reached}
use Rattle.above.specs.Promised.{asking}
use Rattle.above.proofs.Promised.{promised}
use Rattle.nights.specs.Costs.{choices_price, entries_price, cost_at}
use Rattle.nights.specs.Nights.{book_in, records, Told, Roomy, Nights}
use Rattle.nights.proofs.Finishing.{weight_above, entry-some, above-ends}
use Rattle.nights.proofs.First.{first_ends}
use Rattle.nights.proofs.Circling.{few-terms, asked-among}

-- ---- what is told

-- no records
untold : {P : ℕ → Type 0} {m : Memory} {o : Outcome} → Untouched m o → Told P o
unfolding records_in answers_in
untold {o = o} u = record {
  sound = λ i low. absurd (not-suc-le-zero (rw u.answers at low));
  complete = λ finished. absurd (omega (arith, u.number, finished));
}

-- the symbols of a term
term-symbols : (b : ℕ) → flatten (con b no_values) ≡ b ∷ []
unfolding flatten
term-symbols b = refl

-- of a run that had its turns
answered-told : (book question : List ℕ) (m : Memory) {o : Outcome} (r : Rules) {e : Expr} {p q : ℕ} {P : ℕ → Type 0}
    → read_book book ≡ got r p → read_question r.symbols question ≡ got e q
    → ((v : Value) → Reachable r e v ↔ TermOf P v) → Answered book question m o → Told P o
answered-told book question m {o} r {e} {P = P} admitted asked reaches a = record { sound = sound; complete = complete }
  where
    same-rules : a.rules ≡ r
    same-rules = cc a.admitted

    same-expr : a.expr ≡ e
    same-expr = cc (rw same-rules at a.asked)

    there : (v : Value) → Reachable a.rules a.expr v → Reachable r e v
    there v reached = subst (λ (x : Expr). Reachable r x v) same-expr (subst (λ (x : Rules). Reachable x a.expr v) same-rules reached)

    back : (v : Value) → Reachable r e v → Reachable a.rules a.expr v
    back v reached = subst (λ (x : Rules). Reachable x a.expr v) (sym same-rules) (subst (λ (x : Expr). Reachable r x v) (sym same-expr) reached)

    sound : (i : ℕ) → i < length (records o) → (b : ℕ) × P b × ((answer_at (records o) i).symbols ≡ b ∷ [])
    sound i low =
        let (v, is, reached) = a.sound i (rw a.readable at low) in
        let (b, holds, term) = (reaches v).0 (there v reached) in
        (b, holds, ap (λ l. (answer_at l i).symbols) a.readable ∙ is ∙ ap flatten term ∙ term-symbols b)

    complete : o.result.number ≡ 0 → (b : ℕ) → P b → (i : ℕ) × (i < length (records o)) × ((answer_at (records o) i).symbols ≡ b ∷ [])
    complete finished b holds =
        let (i, low, is) = a.complete finished (con b no_values) (back (con b no_values) ((reaches (con b no_values)).1 (b, holds, refl))) in
        (i, rw a.readable low, ap (λ l. (answer_at l i).symbols) a.readable ∙ is ∙ term-symbols b)

-- of any
told : (book question : List ℕ) (fuel : ℕ) (m : Memory) (r : Rules) {e : Expr} {p q : ℕ} {P : ℕ → Type 0}
    → read_book book ≡ got r p → read_question r.symbols question ≡ got e q
    → ((v : Value) → Reachable r e v ↔ TermOf P v) → Told P (run book question fuel m)
told book question fuel m r {P = P} admitted asked reaches = by (demand_3 book question fuel m)
  where
    by : Untouched m (run book question fuel m) ⊎ Answered book question m (run book question fuel m) → Told P (run book question fuel m)
    by (inl u) = untold u
    by (inr a) = answered-told book question m r admitted asked reaches a

-- ---- what is finished

-- a run that can be loaded ends as its turns do
run_ends : (book : List ℕ) (f fuel : ℕ) (m : Memory) (r : Rules) {p q : ℕ} → read_book book ≡ got r p
    → read_question r.symbols (asking f) ≡ got (Expr.apply f Exprs.no_exprs) q
    → 1 ≤ (rooms_of m).nodes → 1 ≤ (rooms_of m).places → 1 ≤ (rooms_of m).bytes
    → (run book (asking f) fuel m).result.number ≡ (turns (book_of r) (rooms_of m) fuel (loaded (Expr.apply f Exprs.no_exprs))).number
unfolding run run_loaded ended_as loaded make rooms_of
run_ends book f fuel m r admitted asked nodes places bytes =
    simp (run, admitted, asked, run_loaded, ne_eqb (length m.bytes) 0 (λ is. omega (arith, is)), le-ltb (rooms_of m).nodes 1 nodes, ne_eqb (length m.list) 0 (λ is. omega (arith, is)))

-- ---- the nights

module _ (broader : Broader) (inside : Inside broader) (within : passes broader ≡ false) (reached : Reached broader) (book : List ℕ) {p : ℕ} (admitted : read_book book ≡ got (rules_for broader) p)
    (asked : (f : ℕ) → f < length broader + (length broader + length broader) → read_question (rules_for broader).symbols (asking f) ≡ got (Expr.apply f Exprs.no_exprs) 7) where
  abbrev n : ℕ
  n = length broader

  nights_of : Nights broader book
  nights_of = record {
    first = λ x low fuel m. told book (asking (n + x)) fuel m (rules_for broader) admitted (asked (n + x) (omega arith)) (reached.first x low);
    second = λ x low fuel m. told book (asking (n + n + x)) fuel m (rules_for broader) admitted (asked (n + n + x) (omega arith)) (reached.second x low);
    first_finished = λ x low fuel m enough room.
        run_ends book (n + x) fuel m (rules_for broader) admitted (asked (n + x) (omega arith)) (omega (arith, room.nodes)) (omega (arith, room.places)) (omega (arith, room.bytes))
        ∙ first_ends broader inside x low (rooms_of m) fuel enough room.few room.nodes room.places room.bytes;
    second_finished = λ none x low fuel m enough room.
        run_ends book (n + n + x) fuel m (rules_for broader) admitted (asked (n + n + x) (omega arith)) (omega (arith, room.nodes)) (some-place none x low m room) (omega (arith, room.bytes))
        ∙ above-ends broader inside none x low (rooms_of m) fuel enough room.few room.nodes room.places room.bytes;
    among = λ f low fuel m nodes places bytes.
        rw (run_ends book f fuel m (rules_for broader) admitted (asked f low) (omega arith) places bytes) (asked-among broader inside 31 (few-terms broader within) (rooms_of m) nodes fuel f low);
  }
    where
      some-place : (HasCircle broader → ⊥) → (x : ℕ) → x < n → (m : Memory) → Roomy (cost_at choices_price broader x) (cost_at entries_price broader x) (rooms_of m) → 1 ≤ (rooms_of m).places
      some-place none x low m room =
          omega (arith, room.places, entry-some broader inside none (n + n + x) (inr (x, low, refl)), weight_above broader inside none 1 entries_price x)

-- OF EVERY LISTING THAT IS NOT REFUSED.
pub nights : (listing room : List ℕ) → (done : (book_from listing room).result.number ≡ 0)
    → Nights (promised listing room done).broader (book_in (book_from listing room))
nights listing room done =
    let p = promised listing room done in
    nights_of p.broader (accepted listing p.says).inside p.within p.reached (book_in (book_from listing room)) p.admitted p.asked
