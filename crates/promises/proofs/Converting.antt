-- The converter keeps what is promised: a corollary of the contract of `converter::convert_book` alone, which the kit makes of its `ensures` in the code. And of
-- two calls of `run`, one with the old book and one with the new: what they hand back and the lent memory that they leave are the same.
use mathlib.Core.Bool.{Bool, true, false}
use mathlib.Core.List.{List}
use mathlib.Core.Path.{◌≡◌, refl, sym, subst, ◌∙◌}
use Prim.Native.Nat.{ℕ}
use native.Mathlib.Omega.{arith}
use borrow.Author.Tests.{ltb-false}
use lib.Dec.{ltb, eqb}
use lib.ListN.{length, drop}
use lib.Seq.{take_at, drop_at}
use seplogic.Ra.Ura.{Ura}
use base.Logic.{SProp, ent}
use prog.Memory.{Memory}
use prog.Model.{Model}
use prog.Wired.{Wired}
use prog.Routine.{Routine}
use types.Logic.{Logic}
use contract.Lifetimes.{Lfts}
use contract.Monad.{Fun, conj, conj_l, conj_r, fact, fact_i, fact_use, fact_mono, fm→mono}
use contract.Running.{Running}
use denote.Triple.Clauses.{AtExit, at_exit, closing}
use denote.Triple.Entry.{Args, Res}
use denote.Triple.Spec.{Meets}
use denote.Triple.Table.{run_framed}
use denote.Triple.Weaken.{weaken}
use Rattle.limits.specs.Sizes.{most_book_bytes}
use Rattle.reading.specs.Reading.{Reading, got, refusal}
use Rattle.reading.specs.Bytes.{version_of}
use Rattle.reading.proofs.Keeping.{passed, failed-test}
use Rattle.book.specs.Rules.{Rules}
use Rattle.book.specs.Admission.{read_book}
use Rattle.meaning.proofs.Refusals.{book-refused}
use Rattle.converter.specs.Convert.{read_old, new_book, refusing, laid, convert}
use Rattle.converter.specs.Same.{Replaces}
use Rattle.converter.specs.InCode.{after}
use Rattle.converter.proofs.Same.{replaced}
use Rattle.converter.specs.contracts.convert_book as code
use Rattle.converter.proofs.convert_book.Met.{met}
use Rattle.converter.proofs.convert_book.Symbol as convert-symbol
use Rattle.machine.specs.Run as Run
use Rattle.machine.specs.Run.{Memory as LentMemory}
use Rattle.run.specs.declared.whole.Outcome.{Outcome as CodeOutcome}
use Rattle.run.specs.Outcomes.{after as handed}
use Rattle.run.specs.contracts.run
use Rattle.promises.specs.Conversions.{Converts}
use Rattle.promises.proofs.Contracts.{Claim, ensuring, lent_to, left_by}
use Rattle.promises.proofs.OneOutcome.{one-run}

-- ---- of the definition

-- nothing was written
refused-kept : (bs room : List ℕ) (c p : ℕ) → (c ≡ 0 → ⊥) → Converts bs room (refusing c p room)
refused-kept bs room c p some = record { replaces = λ none. absurd (some none); untouched = λ _. refl; behind = refl }

laid_kept : (bs room : List ℕ) (r : Rules) (p : ℕ) → read_old bs ≡ got r p → Converts bs room (laid (new_book r) room)
unfolding laid
laid_kept bs room r p old = by (ltb most_book_bytes (length (new_book r))) (ltb (length room) (length (new_book r))) refl refl
  where
    by : (large less : Bool) → ltb most_book_bytes (length (new_book r)) ≡ large → ltb (length room) (length (new_book r)) ≡ less → Converts bs room (laid (new_book r) room)
    by true less is other = rw (laid, is) (refused-kept bs room 52 0 (λ none. omega arith))
    by false true is other = rw (laid, is, other) (refused-kept bs room 52 0 (λ none. omega arith))
    by false false is other =
        let cs = new_book r in
        rw (laid, is, other) (record {
          replaces = λ none. rw (take_at cs (drop (length cs) room) (length cs) refl) (replaced bs r p old (ltb-false most_book_bytes (length cs) is));
          untouched = λ some. absurd (some refl);
          behind = drop_at cs (drop (length cs) room) (length cs) refl;
        })

-- a refusal has a number
refusal-some : (bs : List ℕ) {c p : ℕ} → read_old bs ≡ refusal c p → c ≡ 0 → ⊥
unfolding read_old
refusal-some bs {c} {p} is none = by (ltb most_book_bytes (length bs)) (eqb (version_of bs) 2) refl refl
  where
    by : (large second : Bool) → ltb most_book_bytes (length bs) ≡ large → eqb (version_of bs) 2 ≡ second → ⊥
    by true second one two =
        let read : read_old bs ≡ refusal 1 0 = failed-test _ _ _ one in
        let z : ◌≡◌ {A = ℕ} 0 1 = cc in
        omega arith
    by false true one two =
        let read : read_old bs ≡ refusal 2 0 = passed _ _ one ∙ failed-test _ _ _ two in
        let z : ◌≡◌ {A = ℕ} 0 2 = cc in
        omega arith
    by false false one two =
        let read : read_old bs ≡ read_book bs = passed _ _ one ∙ passed _ _ two in
        omega (arith, book-refused bs (sym read ∙ is))

converts : (bs room : List ℕ) → Converts bs room (convert bs room)
unfolding convert
converts bs room = by (read_old bs) refl
  where
    by : (old : Reading Rules) → read_old bs ≡ old → Converts bs room (convert bs room)
    by (got r p) is = rw (convert, is) (laid_kept bs room r p is)
    by (refusal c p) is = rw (convert, is) (refused-kept bs room c p (refusal-some bs is))

-- ---- of a call of `convert_book`

abbrev pub Promised : Claim code.ended
Promised κs a z e = Converts a.0.now a.1.0.now (after z e.1.0.now)

pub convert-keeps : {M : Type 1} {𝓤 : Ura M} (𝓛 : Logic 𝓤) (𝓜 : Model 𝓤 𝓛.H) (𝓡 : Running 𝓤 𝓛.H 𝓜)
    → Wired 𝓡.env convert-symbol.code → Meets 𝓛 code.signature (𝓡.run (𝓡.env convert-symbol.name))
    (closing 𝓛 code.ended (ensuring code.ended Promised M 𝓤 𝓛 𝓜.mem 𝓡.returns))
convert-keeps {𝓤 = 𝓤} 𝓛 𝓜 𝓡 wired =
    weaken 𝓛 code.ended (code.clauses 𝓛 𝓜.mem 𝓡.returns) (λ κs a g z e. fact 𝓤 (Promised κs a z e))
    (λ κs a g z ws. fact_mono 𝓤 _ (Promised κs a z (at_exit code.ended κs a ws)) (λ contract.
    subst (Converts a.0.now a.1.0.now) (sym contract) (converts a.0.now a.1.0.now)))
    (𝓡.run (𝓡.env convert-symbol.name)) (λ vs. fm→mono 𝓤 (𝓡.run (𝓡.env convert-symbol.name) vs) (run_framed 𝓤 𝓛.H 𝓜 𝓡 (𝓡.env convert-symbol.name) vs)) (met 𝓤 𝓛 𝓜 𝓡 wired)

-- ---- of two calls of `run`

-- the second has the new book for the old one; question, fuel and the memory lent are the same
pub record Alike (κs : Lfts (run.signature).lifetimes) (a a' : Args run.signature κs) : Type 0 where
  pub books : Replaces a.0.now a'.0.now
  pub question : a.1.0.now ≡ a'.1.0.now
  pub fuel : a.1.1.1.1.1.0 ≡ a'.1.1.1.1.1.0
  pub lent : lent_to κs a ≡ lent_to κs a'

-- what is handed back, and the memory left
abbrev after_run : CodeOutcome → LentMemory → Run.Outcome
after_run z m = handed z m.nodes m.list m.bytes

-- what the contract ensures of both gives that their results, and the lent memory that they leave, are the same
pub both_books : {M : Type 1} {𝓤 : Ura M} (𝓛 : Logic 𝓤) (mem : Memory → SProp 𝓤) (go : Routine → Fun 𝓤) (κs : Lfts (run.signature).lifetimes)
    (a a' : Args run.signature κs) → Alike κs a a' → (z z' : Res run.signature κs) (e e' : AtExit run.ended κs)
    → ent 𝓤 (conj 𝓤 ((run.clauses 𝓛 mem go κs a).ensures tt z e) ((run.clauses 𝓛 mem go κs a').ensures tt z' e'))
    (fact 𝓤 ((z ≡ z') × (left_by κs e ≡ left_by κs e')))
both_books {𝓤 = 𝓤} 𝓛 mem go κs a a' alike z z' e e' =
    let one : Type 0 = after_run z (left_by κs e) ≡ Run.run a.0.now a.1.0.now a.1.1.1.1.1.0 (lent_to κs a) in
    let other : Type 0 = after_run z' (left_by κs e') ≡ Run.run a'.0.now a'.1.0.now a'.1.1.1.1.1.0 (lent_to κs a') in
    let same : Run.run a'.0.now a'.1.0.now a'.1.1.1.1.1.0 (lent_to κs a') ≡ Run.run a.0.now a.1.0.now a.1.1.1.1.1.0 (lent_to κs a) =
    rw (alike.question, alike.fuel, alike.lent) (alike.books.runs a'.1.0.now a'.1.1.1.1.1.0 (lent_to κs a')) in
    fact_use 𝓤 one (conj_l 𝓤 (fact 𝓤 one) (fact 𝓤 other)) (λ c. fact_use 𝓤 other (conj_r 𝓤 (fact 𝓤 one) (fact 𝓤 other))
    (λ c'. fact_i 𝓤 ((z ≡ z') × (left_by κs e ≡ left_by κs e')) (conj 𝓤 (fact 𝓤 one) (fact 𝓤 other)) (one-run z z' (left_by κs e) (left_by κs e') c (c' ∙ same))))
