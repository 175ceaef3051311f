-- What is promised of more fuel is kept by runs from bytes to bytes: two runs that are refused before their first turn are the same, and what two
-- others leave in lent memory is what their turns come to.
use mathlib.Core.Path.{◌≡◌, refl, sym, ap, ◌∙◌}
use mathlib.Core.Logic.{◌⊎◌, inl, inr, ◌≢◌}
use mathlib.Core.List.{List, [], ◌∷◌, ◌++◌, map, append_assoc, append-nil}
use Prim.Native.Nat.{ℕ, suc, ◌+◌, ◌<◌}
use native.Mathlib.Omega.{arith}
use lib.ListN.{length, get_or, take, drop}
use lib.Seq.{length-take-le, split_at, take-append_seam}
use Rattle.limits.specs.declared.Entry.{Entry as LentEntry}
use Rattle.limits.specs.Lent.{Entry, vacant, lent, lent_vacant}
use Rattle.reading.specs.Reading.{got}
use Rattle.expressions.specs.Expressions.{Expr}
use Rattle.book.specs.Rules.{Rules, Book, book_of}
use Rattle.book.specs.Admission.{read_book, read_question}
use Rattle.machine.specs.Answers.{Answer, records_bytes, answer_bytes}
use Rattle.machine.specs.Turn.{State, Ended, turns, loaded}
use Rattle.machine.specs.Run.{Memory, Outcome, over, list_for, rooms_of, refused_at, ended_as, run}
use Rattle.meaning.proofs.Ran.{Ran, ran}
use Rattle.meaning.proofs.Demand3.{read_back}
use Rattle.run.proofs.Answering.{records_append}
use Rattle.fuel.specs.MoreFuel.{ItsTurn, MoreFuel, Front}
use Rattle.fuel.proofs.Course.{turns-stay, turns_onward, turns_add, turns_queued}

-- where answers are written over the front, the first of them have their bytes first
front_bytes_lem : {all : List Answer} (answers more : List Answer) (old : List ℕ) → all ≡ answers ++ more
    → take (length (answer_bytes answers)) (over (answer_bytes all) old) ≡ answer_bytes answers
unfolding over answer_bytes
front_bytes_lem answers more old is =
    rw (is, records_append answers more, append_assoc (records_bytes answers) (records_bytes more) _) (take-append_seam (answer_bytes answers) _)

-- the entry that waits behind others stands in the lent list behind as many
stands_at : (before : List Entry) (e : Entry) (behind : List Entry) (places : ℕ) (old : List LentEntry)
    → get_or (over (list_for places (before ++ (e ∷ behind))) old) (length before) lent_vacant ≡ lent e
unfolding over list_for
stands_at before e behind places old = go before _ _
  where
    -- whatever stands behind the list
    go : (before : List Entry) (vacants rest : List LentEntry)
        → get_or ((map lent (before ++ (e ∷ behind)) ++ vacants) ++ rest) (length before) lent_vacant ≡ lent e
    go [] vacants rest = refl
    go (x ∷ before) vacants rest = go before vacants rest

module _ (m : Memory) where
  -- in lent memory too the entry that waited behind k others has its turn
  its-turn : (k : ℕ) (o r : Ended) (before : List Entry) (e : Entry) (behind : List Entry)
      → length before ≡ k → o.state.waiting ≡ before ++ (e ∷ behind)
      → (20 < r.number) ⊎ Front o.state before e behind r → (20 < (ended_as m r).result.number) ⊎ ItsTurn k (ended_as m o) (ended_as m r)
  unfolding ended_as
  its-turn k o r before e behind many at (inl stopped) = inl stopped
  its-turn k o r before e behind many at (inr front) = inr (record {
    spent = front.spent;
    turns = omega (arith, front.turns);
    waits = rw front.waiting (omega arith);
    front = rw (front.waiting, at, ← many) (stands_at [] e (behind ++ front.joined) _ _ ∙ sym (stands_at before e behind _ _));
  })

  module _ (B : Book) (s : State) where
    -- what the turns from a state come to, by their fuel
    abbrev came : ℕ → Ended
    came fuel = turns B (rooms_of m) fuel s

    -- an end with another number than 20 stays
    stays : (F k : ℕ) → (came F).number ≢ 20 → ended_as m (came (F + k)) ≡ ended_as m (came F)
    stays F k other = ap (ended_as m) (turns-stay B (rooms_of m) F k s other)

    -- the entry at place k has its turn after k turns more
    at_place : (F k : ℕ) → (came F).number ≡ 20 → k < length (came F).state.waiting
        → (20 < (ended_as m (came (F + k))).result.number) ⊎ ItsTurn k (ended_as m (came F)) (ended_as m (came (F + k)))
    at_place F k spent place =
        let t : State = (came F).state in
        let before : List Entry = take k t.waiting in
        let behind : List Entry = drop (suc k) t.waiting in
        let e : Entry = get_or t.waiting k vacant in
        let many : length before ≡ k = length-take-le k t.waiting (omega arith) in
        let split : t.waiting ≡ before ++ (e ∷ behind) = split_at t.waiting k vacant place in
        rw (turns_onward B (rooms_of m) F k s spent)
        (its-turn k (came F) (turns B (rooms_of m) k t) before e behind many split (rw many at (turns_queued B (rooms_of m) t before e behind split)))

module _ (book question : List ℕ) (m : Memory) (F k : ℕ) where
  -- a refusal before the first turn is the same under any fuel
  early : (c p : ℕ) → MoreFuel k (refused_at c p m) (refused_at c p m)
  unfolding refused_at
  early c p = record {
    first_answers = ([], sym (append-nil _));
    first_bytes = refl;
    finished_stays = λ finished. refl;
    other_stays = λ other. refl;
    its_turn = λ spent place. absurd (omega (arith, place));
  }

  -- and where the runs have their turns, they are those of one book, from the same loaded question
  late : {rules : Rules} {x : Expr} {p q : ℕ} → read_book book ≡ got rules p → read_question rules.symbols question ≡ got x q
      → let came : ℕ → Outcome = λ fuel. ended_as m (turns (book_of rules) (rooms_of m) fuel (loaded x)) in MoreFuel k (came F) (came (F + k))
  unfolding ended_as
  late {rules} {x} admitted asked =
      let B : Book = book_of rules in
      let s : State = loaded x in
      let (more, added) = turns_add B (rooms_of m) F k s in
      let first = read_back book question admitted asked F m in
      record {
        first_answers = (more, read_back book question admitted asked (F + k) m ∙ added ∙ ap (λ (answers : List Answer). answers ++ more) (sym first));
        first_bytes = rw first (front_bytes_lem _ more m.bytes added ∙ sym (front_bytes_lem _ [] m.bytes (sym (append-nil _))));
        finished_stays = λ finished. stays m B s F k (λ spent. omega (arith, finished, spent));
        other_stays = stays m B s F k;
        its_turn = at_place m B s F k;
      }

  -- MORE FUEL of every run
  pub more-fuel : MoreFuel k (run book question F m) (run book question (F + k) m)
  more-fuel = by (ran book question m)
    where
      by : {came : ℕ → Outcome} → Ran book question m came → MoreFuel k (came F) (came (F + k))
      by (Ran.early c p above) = early c p
      by (Ran.late admitted asked) = late admitted asked
