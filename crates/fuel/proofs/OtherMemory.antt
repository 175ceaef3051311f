-- What a run hands back and the answers that it writes hang on the size of the memory lent, not on what it holds; so more fuel keeps the first answers in another
-- memory of the same size, too.
use mathlib.Core.Bool.{Bool, true, false}
use mathlib.Core.Path.{◌≡◌, refl, sym, ap, ◌∙◌}
use mathlib.Core.List.{List, ◌++◌}
use Prim.Native.Nat.{ℕ, ◌+◌}
use lib.Dec.{ltb, eqb}
use lib.ListN.{length}
use Rattle.reading.specs.Reading.{Reading, got, refusal}
use Rattle.expressions.specs.Expressions.{Expr}
use Rattle.book.specs.Rules.{Rules, book_of}
use Rattle.book.specs.Admission.{read_book, read_question}
use Rattle.machine.specs.Answers.{Answer}
use Rattle.machine.specs.Turn.{Rooms, turns, loaded}
use Rattle.machine.specs.Run.{Memory, Outcome, rooms_of, refused_at, ended_as, run_loaded, run}
use Rattle.meaning.specs.Records.{records_in, answers_in}
use Rattle.meaning.proofs.Demand3.{read_back}
use Rattle.fuel.specs.MoreFuel.{records, MoreFuel}
use Rattle.fuel.specs.OtherMemory.{SameRoom, MoreElsewhere}
use Rattle.fuel.proofs.Kept.{more-fuel}

-- the same result and the same answers
abbrev Likewise : Outcome → Outcome → Type 0
Likewise o o' = (o.result ≡ o'.result) × (records o ≡ records o')

module _ (book question : List ℕ) (fuel : ℕ) (m m' : Memory) (same : SameRoom m m') where
  rooms_same : rooms_of m ≡ rooms_of m'
  unfolding rooms_of
  rooms_same = rw (same.nodes, same.list, same.bytes) refl

  -- refused before the first turn
  refused_alike : (c p : ℕ) → Likewise (refused_at c p m) (refused_at c p m')
  unfolding refused_at answers_in records_in
  refused_alike c p = (refl, refl)

  module _ {r : Rules} {q : Expr} {p p' : ℕ} (admitted : read_book book ≡ got r p) (asked : read_question r.symbols question ≡ got q p') where
    -- with turns
    turned_alike : Likewise (ended_as m (turns (book_of r) (rooms_of m) fuel (loaded q))) (ended_as m' (turns (book_of r) (rooms_of m') fuel (loaded q)))
    unfolding ended_as
    turned_alike = (
      ap (λ (room : Rooms). (ended_as m (turns (book_of r) room fuel (loaded q))).result) rooms_same,
      read_back book question admitted asked fuel m ∙ ap (λ (room : Rooms). (turns (book_of r) room fuel (loaded q)).state.answers) rooms_same
          ∙ sym (read_back book question admitted asked fuel m'),
    )

    loaded_alike : (none few empty : Bool) → eqb (length m.bytes) 0 ≡ none → ltb (rooms_of m).nodes (length (loaded q).heap) ≡ few → eqb (length m.list) 0 ≡ empty
        → Likewise (run_loaded (book_of r) fuel m (loaded q)) (run_loaded (book_of r) fuel m' (loaded q))
    unfolding run_loaded
    loaded_alike true few empty is is-few is-empty = rw (run_loaded, is, ap (λ n. eqb n 0) (sym same.bytes) ∙ is) (refused_alike 25 0)
    loaded_alike false true empty is is-few is-empty =
        rw (run_loaded, is, ap (λ n. eqb n 0) (sym same.bytes) ∙ is, is-few, ap (λ (room : Rooms). ltb room.nodes (length (loaded q).heap)) (sym rooms_same) ∙ is-few)
        (refused_alike 21 0)
    loaded_alike false false true is is-few is-empty =
        rw (
          run_loaded,
          is,
          ap (λ n. eqb n 0) (sym same.bytes) ∙ is,
          is-few,
          ap (λ (room : Rooms). ltb room.nodes (length (loaded q).heap)) (sym rooms_same) ∙ is-few,
          is-empty,
          ap (λ n. eqb n 0) (sym same.list) ∙ is-empty,
        ) (refused_alike 23 0)
    loaded_alike false false false is is-few is-empty =
        rw (
          run_loaded,
          is,
          ap (λ n. eqb n 0) (sym same.bytes) ∙ is,
          is-few,
          ap (λ (room : Rooms). ltb room.nodes (length (loaded q).heap)) (sym rooms_same) ∙ is-few,
          is-empty,
          ap (λ n. eqb n 0) (sym same.list) ∙ is-empty,
        ) turned_alike

  -- every run
  pub run_alike : Likewise (run book question fuel m) (run book question fuel m')
  unfolding run
  run_alike = with-book (read_book book) refl
    where
      with-question : {r : Rules} {p : ℕ} → read_book book ≡ got r p → (y : Reading Expr) → read_question r.symbols question ≡ y
          → Likewise (run book question fuel m) (run book question fuel m')
      with-question admitted (refusal c p) e = rw (run, admitted, e) (refused_alike c p)
      with-question admitted (got q p) e = rw (run, admitted, e) (loaded_alike admitted e _ _ _ refl refl refl)

      with-book : (x : Reading Rules) → read_book book ≡ x → Likewise (run book question fuel m) (run book question fuel m')
      with-book (refusal c p) e = rw (run, e) (refused_alike c p)
      with-book (got r p) e = with-question e (read_question r.symbols question) refl

-- MORE FUEL in another memory of the same size
pub more_elsewhere : (book question : List ℕ) (F k : ℕ) (m m' : Memory) → SameRoom m m' → MoreElsewhere (run book question F m) (run book question (F + k) m')
more_elsewhere book question F k m m' same =
    let (result, answers) = run_alike book question F m m' same in
    let more : MoreFuel k (run book question F m') (run book question (F + k) m') = more-fuel book question m' F k in
    let stays : run book question (F + k) m' ≡ run book question F m' → ((run book question (F + k) m').result ≡ (run book question F m).result)
    × (records (run book question (F + k) m') ≡ records (run book question F m)) =
    λ is. (ap (λ (o : Outcome). o.result) is ∙ sym result, ap records is ∙ sym answers) in
    record {
      first_answers = (more.first_answers.0, more.first_answers.1 ∙ ap (λ (l : List Answer). l ++ more.first_answers.0) (sym answers));
      finished_stays = λ finished. stays (more.finished_stays (sym (ap (λ r. r.number) result) ∙ finished));
      other_stays = λ other. stays (more.other_stays (λ spent. other (ap (λ r. r.number) result ∙ spent)));
    }
