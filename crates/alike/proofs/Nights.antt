-- RUNS FROM BYTES TO BYTES keep what is promised of them.
use mathlib.Core.Bool.{Bool, true, false}
use mathlib.Core.Path.{◌≡◌, refl, sym, ap, ap₂, ◌∙◌}
use mathlib.Core.List.{List, [], ◌∷◌, ◌++◌, map}
use Prim.Native.Nat.{ℕ, zero, suc, ◌-◌, ◌<◌, ◌≤◌}
use native.Mathlib.Omega.{arith}
use borrow.Author.Tests.{ltb-false, eqb-false}
use lib.Dec.{ltb, eqb}
use lib.ListN.{length, get_or, take, drop, length-map}
use Rattle.limits.specs.Sizes.{most_choices}
use Rattle.reading.specs.Reading.{Reading, got, refusal}
use Rattle.symbols.specs.Symbols.{Symbols}
use Rattle.expressions.specs.Expressions.{Expr}
use Rattle.book.specs.Rules.{Rules, book_of}
use Rattle.book.specs.Admission.{read_book, read_question}
use Rattle.nodes.specs.Nodes.{Heap}
use Rattle.machine.specs.Answers as PlainAnswers
use Rattle.machine.specs.Run.{over}
use Rattle.machine.specs.Turn as Plain
use Rattle.rewriting.specs.Lists.{All, none, more}
use Rattle.rewriting.proofs.Lists.{all-at, all_map}
use Rattle.sorts.proofs.HeapsFit.{Sorted}
use Rattle.sorts.proofs.ReadingFits.{book-fits}
use Rattle.meaning.proofs.Refusals.{book-refused, question-refused}
use Rattle.meaning.specs.Records as PlainRecords
use Rattle.meaning.proofs.ReadBack as Plainly-back
use Rattle.meaning.proofs.Demand3 as Plainly
use Rattle.meaning.proofs.Demand3.{lawful}
use Rattle.forwards.specs.Shorten.{shortened}
use Rattle.alike.specs.Asked.{Entry, Answer, version, answer_bytes, records_bytes}
use Rattle.alike.specs.RowRecords.{answers_in}
use Rattle.alike.specs.Turning as Later
use Rattle.alike.specs.Night.{Memory, Outcome, rooms_of, refused_at, ended_as, run_loaded, Row, asked, bad, and_row, read_row, run_row, run, most_questions}
use Rattle.alike.specs.Alone.{AsAlone}
use Rattle.alike.specs.EachQuestion.{EachQuestion}
use Rattle.alike.specs.AsWithRoom.{plainly, AsWithRoom}
use Rattle.alike.specs.Nights.{row_ended, one_ended, RowRan, OneRan}
use Rattle.alike.proofs.Shortcuts.{shortened_harmless}
use Rattle.alike.proofs.Free.{LaterWithin}
use Rattle.alike.proofs.Loading.{Fine}
use Rattle.alike.proofs.RowReadBack.{answers-back}
use Rattle.alike.proofs.Alone.{ends-sized, as_alone}
use Rattle.alike.proofs.EachQuestion.{each-question}
use Rattle.alike.proofs.AsWithRoom.{bytes_same, as_with-room}

-- ---- what is read

-- a question that was read from some bytes
abbrev Read : Symbols → Expr → Type 0
Read symbols x = (bs : List ℕ) × (p : ℕ) × (read_question symbols bs ≡ got x p)

-- a row that was read
and_row-asked : (x : Expr) (y : Row) (xs : List Expr) → and_row x y ≡ asked xs → (ys : List Expr) × (y ≡ asked ys) × (xs ≡ x ∷ ys)
unfolding and_row
and_row-asked x (asked ys) xs e = (ys, refl, (let z = e in cc))
and_row-asked x (bad c p q) xs e = absurd (let z : ◌≡◌ {A = ℕ} 0 1 = cc in omega arith)

pub row_read : (symbols : Symbols) (q : ℕ) (lengths bytes : List ℕ) (xs : List Expr) → read_row symbols q lengths bytes ≡ asked xs → All (Read symbols) xs
unfolding read_row
row_read symbols q [] bytes xs e = go (eqb (length bytes) 0) e
  where
    go : (b : Bool) → elim b [ true ↦ asked [] | false ↦ bad 11 0 (q - 1) ] ≡ asked xs → All (Read symbols) xs
    go true e = rw (← nil) none
      where
        nil : [] ≡ xs
        nil = cc
    go false e = absurd (let z : ◌≡◌ {A = ℕ} 0 1 = cc in omega arith)
row_read symbols q (n ∷ lengths) bytes xs e = go (ltb (length bytes) n) (read_question symbols (take n bytes)) refl e (row_read symbols (suc q) lengths (drop n bytes))
  where
    go : (b : Bool) (y : Reading Expr) → read_question symbols (take n bytes) ≡ y
        → elim b [
          | true ↦ bad 11 0 q
          | false ↦ elim y [ refusal c p ↦ bad c p q | got x _ ↦ and_row x (read_row symbols (suc q) lengths (drop n bytes)) ]
        ] ≡ asked xs
        → ((ys : List Expr) → read_row symbols (suc q) lengths (drop n bytes) ≡ asked ys → All (Read symbols) ys) → All (Read symbols) xs
    go true y r e ih = absurd (let z : ◌≡◌ {A = ℕ} 0 1 = cc in omega arith)
    go false (refusal c p) r e ih = absurd (let z : ◌≡◌ {A = ℕ} 0 1 = cc in omega arith)
    go false (got x p) r e ih =
        let (ys, is, all) = and_row-asked x (read_row symbols (suc q) lengths (drop n bytes)) xs e in
        rw all (more (take n bytes, p, r) (ih ys is))

-- a row is refused with a number above 0
row-refused : (symbols : Symbols) (q : ℕ) (lengths bytes : List ℕ) (c p k : ℕ) → read_row symbols q lengths bytes ≡ bad c p k → 0 < c
unfolding read_row and_row
row-refused symbols q [] bytes c p k e = go (eqb (length bytes) 0) e
  where
    go : (b : Bool) → elim b [ true ↦ asked [] | false ↦ bad 11 0 (q - 1) ] ≡ bad c p k → 0 < c
    go true e = absurd (let z : ◌≡◌ {A = ℕ} 0 1 = cc in omega arith)
    go false e = let is : c ≡ 11 = cc in omega arith
row-refused symbols q (n ∷ lengths) bytes c p k e =
    go (ltb (length bytes) n) (read_question symbols (take n bytes)) refl e (read_row symbols (suc q) lengths (drop n bytes)) refl
    (row-refused symbols (suc q) lengths (drop n bytes) c p k)
  where
    go : (b : Bool) (y : Reading Expr) → read_question symbols (take n bytes) ≡ y
        → elim b [
          | true ↦ bad 11 0 q
          | false ↦ elim y [ refusal c p ↦ bad c p q | got x _ ↦ and_row x (read_row symbols (suc q) lengths (drop n bytes)) ]
        ] ≡ bad c p k
        → (z : Row) → read_row symbols (suc q) lengths (drop n bytes) ≡ z
        → (read_row symbols (suc q) lengths (drop n bytes) ≡ bad c p k → 0 < c) → 0 < c
    go true y r e w is ih = let z : c ≡ 11 = cc in omega arith
    go false (refusal c' p') r e w is ih = let z : c ≡ c' = cc in omega (arith, question-refused symbols (take n bytes) r, z)
    go false (got x p') r e (asked ys) is ih =
        absurd (let w : and_row x (asked ys) ≡ bad c p k = ap (and_row x) (sym is) ∙ e in let z : ◌≡◌ {A = ℕ} 0 1 = cc in omega arith)
    go false (got x p') r e (bad c' p'' k') is ih =
        let w : and_row x (bad c' p'' k') ≡ bad c p k = ap (and_row x) (sym is) ∙ e in
        ih (is ∙ w)

-- ---- what is written

not-false-true : ◌≡◌ {A = Bool} true false → ⊥
not-false-true e = let z : ◌≡◌ {A = ℕ} 0 1 = cc in omega arith

same_count : (answers : List Answer) → length answers ≡ length (map plainly answers)
same_count answers = rw length-map refl

plain_sized : (answers : List Answer) → All (λ (a : Answer). length a.decisions ≡ most_choices) answers
    → All (λ (a : PlainAnswers.Answer). length a.decisions ≡ most_choices) (map plainly answers)
plain_sized [] none = none
plain_sized (a ∷ answers) (more e es) = more e (plain_sized answers es)

-- ---- what is admitted

module _ (book : List ℕ) {r : Rules} {p : ℕ} (admitted : read_book book ≡ got r p) where
  -- no nodes are well sorted
  empty : Sorted r []
  empty = record { rules = book-fits book admitted; sorts = λ n. 0; fits = λ n. tt }

  fine : (x : Expr) → Read r.symbols x → Fine (book_of r) (Sorted r) empty x
  fine x (bs, p', read) = record { closed = Plainly.closed book bs admitted read; lawful = Plainly.sorted book bs admitted read }

  all_fine : {xs : List Expr} → All (Read r.symbols) xs → All (Fine (book_of r) (Sorted r) empty) xs
  all_fine none = none
  all_fine (more {a = x} a rest) = more (fine x a) (all_fine rest)

  -- each question of a row
  each : (fuel : ℕ) (m : Memory) (xs : List Expr) → All (Read r.symbols) xs → LaterWithin true (rooms_of m) (Later.loaded xs) → (q : ℕ) (d : Expr) → q < length xs
      → AsAlone (book_of r) (get_or xs q d) q (row_ended r fuel m xs) × EachQuestion (book_of r) (get_or xs q d) q (row_ended r fuel m xs)
  each fuel m xs read fits q d lt =
      let (bs, p', is) = all-at d q read lt in
      let alone = as_alone shortened shortened_harmless (book_of r) (Sorted r) (lawful r) empty true (rooms_of m) xs (all_fine read) fits fuel q d lt in (
        alone,
        each-question (book_of r) (Sorted r) (lawful r) (get_or xs q d) (Plainly.closed book bs admitted is) (Plainly.few book bs admitted is)
            (Plainly.sorted book bs admitted is) q (row_ended r fuel m xs) alone,
      )

  -- a single question
  single : (fuel : ℕ) (m : Memory) (x : Expr) (read : Read r.symbols x) → LaterWithin false (rooms_of m) (Later.loaded (x ∷ []))
      → AsWithRoom (book_of r) (rooms_of m) fuel (Plain.loaded x) (one_ended r fuel m x) × EachQuestion (book_of r) x 0 (one_ended r fuel m x)
  single fuel m x (bs, p', is) fits = (
    as_with-room shortened shortened_harmless (book_of r) (Sorted r) (lawful r) empty (rooms_of m) x (fine x (bs, p', is)) fits fuel,
    each-question (book_of r) (Sorted r) (lawful r) x (Plainly.closed book bs admitted is) (Plainly.few book bs admitted is)
        (Plainly.sorted book bs admitted is) 0 (one_ended r fuel m x)
        (as_alone shortened shortened_harmless (book_of r) (Sorted r) (lawful r) empty false (rooms_of m) (x ∷ []) (more (fine x (bs, p', is)) none) fits fuel 0 x (omega arith)),
  )

  -- the answer bytes of a row read back
  row-readable : (fuel : ℕ) (m : Memory) (xs : List Expr) → All (Read r.symbols) xs → LaterWithin true (rooms_of m) (Later.loaded xs)
      → answers_in true (length (row_ended r fuel m xs).state.answers) (ended_as true m (row_ended r fuel m xs)).memory.bytes
      ≡ (row_ended r fuel m xs).state.answers
  unfolding ended_as over
  row-readable fuel m xs read fits =
      answers-back true (row_ended r fuel m xs).state.answers _ (all_map (λ a e. record { sized = e; numbered = λ z. absurd (not-false-true z) })
      (ends-sized shortened shortened_harmless (book_of r) (Sorted r) (lawful r) empty true (rooms_of m) xs (all_fine read) fits fuel))

  -- and of one question
  one-readable : (fuel : ℕ) (m : Memory) (x : Expr) → Read r.symbols x → LaterWithin false (rooms_of m) (Later.loaded (x ∷ []))
      → PlainRecords.answers_in (length (one_ended r fuel m x).state.answers) (ended_as false m (one_ended r fuel m x)).memory.bytes
      ≡ map plainly (one_ended r fuel m x).state.answers
  unfolding ended_as over answer_bytes version PlainAnswers.answer_bytes
  one-readable fuel m x read fits =
      let answers = (one_ended r fuel m x).state.answers in
      let rest = drop (length (answer_bytes false answers)) m.bytes in
      let sized = ends-sized shortened shortened_harmless (book_of r) (Sorted r) (lawful r) empty false (rooms_of m) (x ∷ []) (more (fine x read) none) fits fuel in
      ap₂ (λ (n : ℕ) (l : List ℕ). PlainRecords.answers_in n ((1 ∷ l) ++ rest)) (same_count answers) (bytes_same answers)
      ∙ Plainly-back.answers-back (map plainly answers) rest (plain_sized answers sized)

-- ---- loading

some : (n : ℕ) → (n ≡ 0 → ⊥) → 1 ≤ n
some zero f = absurd (f refl)
some (suc n) f = omega arith

-- nothing is answered in loading
no_answers : (q : ℕ) (xs : List Expr) (H : Heap) (k : ℕ) (waiting : List Entry) → (Later.loaded_on q xs H k waiting).answers ≡ []
unfolding Later.loaded_on
no_answers q [] H k waiting = refl
no_answers q (x ∷ xs) H k waiting = no_answers (suc q) xs _ _ _

written_one : (row : Bool) (xs : List Expr) → length (answer_bytes row (Later.loaded xs).answers) ≡ 1
unfolding answer_bytes records_bytes Later.loaded
written_one row xs = ap (λ (l : List Answer). length (answer_bytes row l)) (no_answers 0 xs [] 0 [])

-- tests passed, or a refusal
module _ (row : Bool) (r : Rules) (fuel : ℕ) (m : Memory) (xs : List Expr) (Q : Outcome → Type 0) (refuses : (c : ℕ) → 0 < c → Q (refused_at c 0 0 m))
    (goes : LaterWithin row (rooms_of m) (Later.loaded xs) → Q (ended_as row m (Later.turns shortened (book_of r) row (rooms_of m) fuel (Later.loaded xs)))) where
  loads : Q (run_loaded row (book_of r) fuel m (Later.loaded xs))
  unfolding run_loaded rooms_of
  loads = by (eqb (length m.bytes) 0) refl (ltb (rooms_of m).nodes (length (Later.loaded xs).heap)) refl (ltb most_choices (Later.loaded xs).choices) refl
      (ltb (rooms_of m).places (length (Later.loaded xs).waiting)) refl
    where
      by : (b : Bool) → eqb (length m.bytes) 0 ≡ b → (n : Bool) → ltb (rooms_of m).nodes (length (Later.loaded xs).heap) ≡ n
          → (k : Bool) → ltb most_choices (Later.loaded xs).choices ≡ k → (w : Bool) → ltb (rooms_of m).places (length (Later.loaded xs).waiting) ≡ w
          → Q (elim b [
            | true ↦ refused_at 25 0 0 m
            | false ↦ elim n [
              | true ↦ refused_at 21 0 0 m
              | false ↦ elim k [
                | true ↦ refused_at 22 0 0 m
                | false ↦ elim w [
                  | true ↦ refused_at 23 0 0 m
                  | false ↦ ended_as row m (Later.turns shortened (book_of r) row (rooms_of m) fuel (Later.loaded xs))
                ]
              ]
            ]
          ])
      by true eb n en k ek w ew = refuses 25 (omega arith)
      by false eb true en k ek w ew = refuses 21 (omega arith)
      by false eb false en true ek w ew = refuses 22 (omega arith)
      by false eb false en false ek true ew = refuses 23 (omega arith)
      by false eb false en false ek false ew = goes (record {
        nodes-fit = ltb-false _ _ en;
        choices-fit = ltb-false _ _ ek;
        places-fit = ltb-false _ _ ew;
        bytes_fit = rw (written_one row xs) (some (length m.bytes) (eqb-false (length m.bytes) 0 eb));
      })

-- ---- the promises

-- A RUN OVER A ROW
pub row_ran : (book lengths questions : List ℕ) (fuel : ℕ) (m : Memory) → RowRan book lengths questions fuel m (run_row book lengths questions fuel m)
unfolding run_row
row_ran book lengths questions fuel m = with-book (read_book book) refl
  where
    with_row : {r : Rules} {p : ℕ} → read_book book ≡ got r p → (y : Row) → read_row r.symbols 0 lengths questions ≡ y
        → RowRan book lengths questions fuel m (elim y [ bad c p q ↦ refused_at c p q m | asked xs ↦ run_loaded true (book_of r) fuel m (Later.loaded xs) ])
    with_row {r} admitted (bad c p q) e = RowRan.early c p q (row-refused r.symbols 0 lengths questions c p q e)
    with_row {r} admitted (asked xs) e =
        loads true r fuel m xs (RowRan book lengths questions fuel m) (λ c lt. RowRan.early c 0 0 lt)
        (λ fits. let read = row_read r.symbols 0 lengths questions xs e in
        RowRan.late admitted e (each book admitted fuel m xs read fits) (row-readable book admitted fuel m xs read fits))

    counted : {r : Rules} {p : ℕ} → read_book book ≡ got r p → (none-asked many : Bool)
        → RowRan book lengths questions fuel m (elim none-asked [
          | true ↦ refused_at 16 0 0 m
          | false ↦ elim many [
            | true ↦ refused_at 16 0 0 m
            | false ↦ elim (read_row r.symbols 0 lengths questions) [
              | bad c p q ↦ refused_at c p q m
              | asked xs ↦ run_loaded true (book_of r) fuel m (Later.loaded xs)
            ]
          ]
        ])
    counted admitted true many = RowRan.early 16 0 0 (omega arith)
    counted admitted false true = RowRan.early 16 0 0 (omega arith)
    counted {r} admitted false false = with_row admitted (read_row r.symbols 0 lengths questions) refl

    with-book : (x : Reading Rules) → read_book book ≡ x
        → RowRan book lengths questions fuel m (elim x [
          | refusal c p ↦ refused_at c p 0 m
          | got rules _ ↦ elim (eqb (length lengths) 0) [
            | true ↦ refused_at 16 0 0 m
            | false ↦ elim (ltb most_questions (length lengths)) [
              | true ↦ refused_at 16 0 0 m
              | false ↦ elim (read_row rules.symbols 0 lengths questions) [
                | bad c p q ↦ refused_at c p q m
                | asked xs ↦ run_loaded true (book_of rules) fuel m (Later.loaded xs)
              ]
            ]
          ]
        ])
    with-book (refusal c p) e = RowRan.early c p 0 (book-refused book e)
    with-book (got r p) e = counted e (eqb (length lengths) 0) (ltb most_questions (length lengths))

-- A RUN OVER ONE QUESTION
pub one_ran : (book asking : List ℕ) (fuel : ℕ) (m : Memory) → OneRan book asking fuel m (run book asking fuel m)
unfolding run
one_ran book asking fuel m = with-book (read_book book) refl
  where
    with-question : {r : Rules} {p : ℕ} → read_book book ≡ got r p → (y : Reading Expr) → read_question r.symbols asking ≡ y
        → OneRan book asking fuel m (elim y [ refusal c p ↦ refused_at c p 0 m | got q _ ↦ run_loaded false (book_of r) fuel m (Later.loaded (q ∷ [])) ])
    with-question {r} admitted (refusal c p) e = OneRan.early c p (question-refused r.symbols asking e)
    with-question {r} admitted (got x p) e =
        loads false r fuel m (x ∷ []) (OneRan book asking fuel m) (λ c lt. OneRan.early c 0 lt)
        (λ fits. let (room, each) = single book admitted fuel m x (asking, p, e) fits in
        OneRan.late admitted e room each (one-readable book admitted fuel m x (asking, p, e) fits))

    with-book : (x : Reading Rules) → read_book book ≡ x
        → OneRan book asking fuel m (elim x [
          | refusal c p ↦ refused_at c p 0 m
          | got r _ ↦ elim (read_question r.symbols asking) [
            | refusal c p ↦ refused_at c p 0 m
            | got q _ ↦ run_loaded false (book_of r) fuel m (Later.loaded (q ∷ []))
          ]
        ])
    with-book (refusal c p) e = OneRan.early c p (book-refused book e)
    with-book (got r p) e = with-question e (read_question r.symbols asking) refl
