-- ONE OUTCOME: any two outcomes that a contract allows for the same input are the same. What that says of a contract as the kit makes it, and one lemma to
-- a form of contract: its right sides speak of the arguments and of lent memory before the call alone, so both outcomes have the same ones.
-- `OneOutcomeOf.antt` has the theorem of each function open to callers.
use mathlib.Core.List.{List, ◌++◌}
use mathlib.Core.Path.{◌≡◌, refl, sym, ap, ◌∙◌}
use mathlib.Core.Bool.{true, false}
use lib.Dec.{eqb}
use Prim.Native.Nat.{ℕ, ◌<◌, ◌≤◌}
use native.Mathlib.Omega.{arith}
use lib.ListN.{take, drop, length, take-append-drop}
use lib.Seq.{ext_get_or}
use seplogic.Ra.Ura.{Ura}
use base.Logic.{SProp, ent, sep, via, fst∗, snd∗}
use prog.Memory.{Memory}
use prog.Routine.{Routine}
use types.Logic.{Logic}
use contract.Lifetimes.{Lfts}
use contract.Monad.{Fun, conj, conj_l, conj_r, fact, fact_i, fact_use}
use denote.Triple.Clauses.{Ended, AtExit}
use denote.Triple.Entry.{Args, Res}
use Rattle.limits.specs.declared.Decisions.{Decisions}
use Rattle.limits.specs.declared.Entry.{Entry as LentEntry}
use Rattle.std.specs.Prelude.{Result as Either, IfOk}
use Rattle.reading.specs.declared.Refusal.{Refusal}
use Rattle.reading.specs.Reading.{Reading}
use Rattle.reading.specs.Answer.{reading_of, reading_by}
use Rattle.reading.proofs.Told.{same_reading, same_told}
use Rattle.std.specs.Prelude.{Option, Some, None}
use Rattle.std.specs.Option.{MatchOption}
use Rattle.expressions.specs.declared.Code.{Code}
use Rattle.expressions.specs.declared.Code.TheVariants.{Variable, Apply, Choice, Fail, Shared}
use Rattle.expressions.specs.Codes.{number_of as code_number}
use Rattle.symbol_part.specs.declared.SymbolPart.{SymbolPart}
use Rattle.symbol_part.specs.declared.SymbolRows.{SymbolRows}
use Rattle.book.specs.declared.BookIndex.{BookIndex}
use Rattle.book.specs.declared.BookRead.{BookRead}
use Rattle.writer.specs.declared.Refusal.{Refusal as WriterRefusal}
use Rattle.writer.specs.Write.{Outcome as Writing}
use Rattle.writer.specs.InCode.{after as written_as}
use Rattle.writer.proofs.OneAnswer.{one-answer as one-written-book}
use Rattle.nodes.specs.declared.Row.{Row}
use Rattle.machine.specs.Run.{Memory as LentMemory, Result, Outcome}
use Rattle.converter.specs.declared.Refusal.{Refusal as ConverterRefusal}
use Rattle.converter.specs.Convert.{Outcome as Conversions}
use Rattle.converter.specs.InCode.{after as converted_as}
use Rattle.converter.proofs.OneAnswer.{one-answer as one-new-book}
use Rattle.terms.specs.declared.faults.Refusal.{Refusal as ListingRefusal}
use Rattle.circles.specs.declared.circle.Saved.{Saved}
use Rattle.tagged.specs.Write.{Outcome as ListingBook}
use Rattle.tagged.specs.Saved.{Outcome as SavedAs}
use Rattle.listings.specs.Putting.{outcome_of as listed_as}
use Rattle.circles.specs.Saving.{outcome_of as saved_by}
use Rattle.listings.proofs.OneAnswer.{one-answer as one-book}
use Rattle.circles.proofs.OneAnswer.{one-answer as one-row-told}
use Rattle.tallies.specs.declared.Refusal.{Refusal as FigureRefusal}
use Rattle.tallies.specs.InCode.{Less, reading_of as tallied_as}
use Rattle.tallies.proofs.Told.{same_told as same_tallied}
use Rattle.figures.specs.Figures.{Outcome as Figures}
use Rattle.figures.specs.InCode.{after as figured_as}
use Rattle.figures.proofs.Told.{same_figured}
use Rattle.run.specs.declared.whole.Outcome.{Outcome as CodeOutcome}
use Rattle.run.specs.declared.whole.Owned.{Owned}
use Rattle.run.specs.Outcomes.{after}
use Rattle.promises.proofs.Contracts.{Contract, Claim, ensuring, ensuring_both}

module _ (T : Ended) where
  -- what is the same in two outcomes: of the results z and z', and of the parameters at exit, e and e'
  abbrev pub Sameness : Type 1
  Sameness = (κs : Lfts T.signature.lifetimes) (z z' : Res T.signature κs) (e e' : AtExit T κs) → Type 0

  -- one outcome: what the contract ensures of two outcomes of a call with the arguments a gives that they are the same
  abbrev pub OneOutcome : Sameness → Contract T → Type 2
  OneOutcome Same contract =
      (M : Type 1) (𝓤 : Ura M) (𝓛 : Logic 𝓤) (mem : Memory → SProp 𝓤) (run : Routine → Fun 𝓤) (κs : Lfts T.signature.lifetimes)
      (a : Args T.signature κs) (g : (contract M 𝓤 𝓛 mem run κs a).ghost) (z z' : Res T.signature κs) (e e' : AtExit T κs)
      → ent 𝓤 (conj 𝓤 ((contract M 𝓤 𝓛 mem run κs a).ensures g z e) ((contract M 𝓤 𝓛 mem run κs a).ensures g z' e')) (fact 𝓤 (Same κs z z' e e'))

  -- of a function that writes no lent memory: one result
  abbrev pub OneResult : Contract T → Type 2
  OneResult = OneOutcome (λ κs z z' e e'. z ≡ z')

  -- it is so of a contract that ensures a plain claim, if the claim of two outcomes gives that they are the same
  module _ {claim : Claim T} {Same : Sameness} where
    pub by_claim : ((κs : Lfts T.signature.lifetimes) (a : Args T.signature κs) (z z' : Res T.signature κs) (e e' : AtExit T κs)
        → claim κs a z e → claim κs a z' e' → Same κs z z' e e')
        → OneOutcome Same (ensuring T claim)
    by_claim same M 𝓤 𝓛 mem run κs a g z z' e e' =
        let one : SProp 𝓤 = fact 𝓤 (claim κs a z e) in
        let other : SProp 𝓤 = fact 𝓤 (claim κs a z' e') in
        fact_use 𝓤 (claim κs a z e) (conj_l 𝓤 one other) (λ c. fact_use 𝓤 (claim κs a z' e') (conj_r 𝓤 one other)
        (λ c'. fact_i 𝓤 (Same κs z z' e e') (conj 𝓤 one other) (same κs a z z' e e' c c')))

  -- and of a contract that ensures two plain claims
  module _ {first second : Claim T} {Same : Sameness} where
    pub by_both : ((κs : Lfts T.signature.lifetimes) (a : Args T.signature κs) (z z' : Res T.signature κs) (e e' : AtExit T κs)
        → first κs a z e × second κs a z e → first κs a z' e' × second κs a z' e' → Same κs z z' e e')
        → OneOutcome Same (ensuring_both T first second)
    by_both same M 𝓤 𝓛 mem run κs a g z z' e e' =
        let p : SProp 𝓤 = fact 𝓤 (first κs a z e) in
        let q : SProp 𝓤 = fact 𝓤 (second κs a z e) in
        let p' : SProp 𝓤 = fact 𝓤 (first κs a z' e') in
        let q' : SProp 𝓤 = fact 𝓤 (second κs a z' e') in
        let one : SProp 𝓤 = sep 𝓤 p q in
        let other : SProp 𝓤 = sep 𝓤 p' q' in
        let left = conj_l 𝓤 one other in
        let right = conj_r 𝓤 one other in
        fact_use 𝓤 (first κs a z e) (via 𝓤 one left (fst∗ 𝓤 p q)) (λ c.
        fact_use 𝓤 (second κs a z e) (via 𝓤 one left (snd∗ 𝓤 p q)) (λ d.
        fact_use 𝓤 (first κs a z' e') (via 𝓤 other right (fst∗ 𝓤 p' q')) (λ c'.
        fact_use 𝓤 (second κs a z' e') (via 𝓤 other right (snd∗ 𝓤 p' q')) (λ d'.
        fact_i 𝓤 (Same κs z z' e e') (conj 𝓤 one other) (same κs a z z' e e' (c, d) (c', d'))))))

-- the plain form, of a result, of lent numbers at exit and of the bytes of a slice that is handed out: what is said to equal one term is one
pub one_value : {A : Type 0} {t r r' : A} → r ≡ t → r' ≡ t → r ≡ r'
one_value one other = one ∙ sym other

-- the same with a bound beside it
pub one_bounded : {A B B' : Type 0} {t r r' : A} → (r ≡ t) × B → (r' ≡ t) × B' → r ≡ r'
one_bounded (one, bound) (other, bound') = one_value one other

-- a decision set is its words
pub one_set : {words : List ℕ} (r r' : Decisions) → r.words ≡ words → r'.words ≡ words → r ≡ r'
one_set r r' one other = rw (one, other) refl

-- a node's row is its ten numbers
pub one-row : {numbers : List ℕ} (r r' : Row) → r.numbers ≡ numbers → r'.numbers ≡ numbers → r ≡ r'
one-row r r' one other = rw (one, other) refl

-- what a reader answers is fixed by what it means, as no two answers mean the same: by `keeping ..` of what the definitions read, as by any other term
pub one_reading : {t : Reading ℕ} (r r' : Either (ℕ × ℕ) Refusal) → reading_of r ≡ t → reading_of r' ≡ t → r ≡ r'
one_reading r r' one other = same_reading r r' (one_value one other)

-- the code of a number from 0 to 4
abbrev code_back : ℕ → Code
code_back n =
    elim (eqb n 0) [
      | true ↦ Variable
      | false ↦ elim (eqb n 1) [ true ↦ Apply | false ↦ elim (eqb n 2) [ true ↦ Choice | false ↦ elim (eqb n 3) [ true ↦ Fail | false ↦ Shared ] ] ]
    ]

code_is_back : (c : Code) → code_back (code_number c) ≡ c
code_is_back Variable = refl
code_is_back Apply = refl
code_is_back Choice = refl
code_is_back Fail = refl
code_is_back Shared = refl

code_in_few : (c : Code) → code_number c ≤ 4
code_in_few Variable = omega arith
code_in_few Apply = omega arith
code_in_few Choice = omega arith
code_in_few Fail = omega arith
code_in_few Shared = omega arith

-- the code that a byte is
pub one-code : (b : ℕ) (r r' : Option Code) → MatchOption r (4 < b) (λ c. b ≡ code_number c) → MatchOption r' (4 < b) (λ c. b ≡ code_number c) → r ≡ r'
one-code b (Some c) (Some c') one other =
    let same : code_number c ≡ code_number c' = sym one ∙ other in
    ap Some (sym (code_is_back c) ∙ ap code_back same ∙ code_is_back c')
one-code b (Some c) None one other = absurd (omega (arith, one, other, code_in_few c))
one-code b None (Some c) one other = absurd (omega (arith, one, other, code_in_few c))
one-code b None None one other = refl

-- the rows of the symbol part, field by field
pub one-symbol-rows : {t : Reading ℕ} {at ranks next first : List ℕ} (r r' : SymbolRows)
    → (reading_of r.reading ≡ t) × (r.at ≡ at) × (r.ranks ≡ ranks) × (r.chain.next ≡ next) × (r.chain.first ≡ first)
    → (reading_of r'.reading ≡ t) × (r'.at ≡ at) × (r'.ranks ≡ ranks) × (r'.chain.next ≡ next) × (r'.chain.first ≡ first)
    → r ≡ r'
one-symbol-rows r r' (reading, at, ranks, next, first) (reading', at', ranks', next', first') =
    rw (one_reading r.reading r'.reading reading reading', at, ranks, next, first, at', ranks', next', first') refl

-- the symbol part, field by field
module _ (at ranks next first : List ℕ) where
  abbrev pub PartIs : SymbolPart → Type 0
  PartIs p = (p.at ≡ at) × (p.ranks ≡ ranks) × (p.chain.next ≡ next) × (p.chain.first ≡ first)

  one_part : (p p' : SymbolPart) → PartIs p → PartIs p' → p.count ≡ p'.count → p.next ≡ p'.next → p ≡ p'
  one_part p p' (at, ranks, next, first) (at', ranks', next', first') count behind =
      rw (count, behind, at, ranks, next, first, at', ranks', next', first') refl

  pub one-symbol-part : {t : Reading ℕ} (r r' : Either SymbolPart Refusal)
      → (reading_by (λ p. (p.count, p.next)) r ≡ t) × IfOk r PartIs → (reading_by (λ p. (p.count, p.next)) r' ≡ t) × IfOk r' PartIs → r ≡ r'
  one-symbol-part r r' (reading, arrays) (reading', arrays') =
      same_told (λ p. (p.count, p.next)) PartIs one_part r r' arrays arrays' (one_value reading reading')

-- a book as it was read, field by field
pub one_book_read : {t : Reading ℕ} {at info ends : List ℕ} (r r' : BookRead)
    → (reading_of r.reading ≡ t) × (r.at ≡ at) × (r.info ≡ info) × (r.ends ≡ ends)
    → (reading_of r'.reading ≡ t) × (r'.at ≡ at) × (r'.info ≡ info) × (r'.ends ≡ ends)
    → r ≡ r'
one_book_read r r' (reading, at, info, ends) (reading', at', info', ends') =
    rw (one_reading r.reading r'.reading reading reading', at, info, ends, at', info', ends') refl

-- the index of a book, field by field
module _ (at info ends : List ℕ) where
  abbrev pub IndexIs : BookIndex → Type 0
  IndexIs i = (i.at ≡ at) × (i.info ≡ info) × (i.ends ≡ ends)

  one_of_index : (i i' : BookIndex) → IndexIs i → IndexIs i' → i.count ≡ i'.count → i.next ≡ i'.next → i ≡ i'
  one_of_index i i' (at, info, ends) (at', info', ends') count behind = rw (count, behind, at, info, ends, at', info', ends') refl

  pub one_index : {t : Reading ℕ} (r r' : Either BookIndex Refusal)
      → (reading_by (λ i. (i.count, i.next)) r ≡ t) × IfOk r IndexIs → (reading_by (λ i. (i.count, i.next)) r' ≡ t) × IfOk r' IndexIs → r ≡ r'
  one_index r r' (reading, arrays) (reading', arrays') =
      same_told (λ i. (i.count, i.next)) IndexIs one_of_index r r' arrays arrays' (one_value reading reading')

-- what the book writer hands back, and the room lent after it
pub one_written : {t : Writing} (r r' : Either ℕ WriterRefusal) (room room' : List ℕ) → written_as r room ≡ t → written_as r' room' ≡ t → (r ≡ r') × (room ≡ room')
one_written r r' room room' one other = one-written-book r r' room room' (one_value one other)

-- what the converter hands back, and the room lent after it
pub one-converted : {t : Conversions} (r r' : Either ℕ ConverterRefusal) (room room' : List ℕ) → converted_as r room ≡ t → converted_as r' room' ≡ t → (r ≡ r') × (room ≡ room')
one-converted r r' room room' one other = one-new-book r r' room room' (one_value one other)

-- what the writer of a listing's book hands back, and the room lent after it
pub one-listed : {t : ListingBook} (r r' : Either ℕ ListingRefusal) (room room' : List ℕ) → listed_as r room ≡ t → listed_as r' room' ≡ t → (r ≡ r') × (room ≡ room')
one-listed r r' room room' one other = one-book r r' room room' (one_value one other)

-- what is handed back when a listing is saved, and the row lent after it
pub one-saved : {t : SavedAs} (r r' : Either Saved ListingRefusal) (row row' : List ℕ) → saved_by r row ≡ t → saved_by r' row' ≡ t → (r ≡ r') × (row ≡ row')
one-saved r r' row row' one other = one-row-told r r' row row' (one_value one other)

-- what is answered of an answer's symbols, and the totals after it
pub one_added : {t : Reading ℕ} {left : List ℕ} (r r' : Either ℕ FigureRefusal) (row' row'' : List ℕ)
    → (tallied_as r ≡ t) × (row' ≡ left) → (tallied_as r' ≡ t) × (row'' ≡ left) → (r ≡ r') × (row' ≡ row'')
one_added r r' row' row'' one other = (same_tallied r r' (one_value one.0 other.0), one_value one.1 other.1)

-- totals from which so many were taken
pub one_less : {many : ℕ → ℕ} (row row' row'' : List ℕ) → Less row many row' → Less row many row'' → row' ≡ row''
one_less row row' row'' one other =
    ext_get_or 0 row' row'' (one.long ∙ sym other.long) λ f h.
    let inside : f < length row = omega (arith, one.long) in
    one.total f inside ∙ sym (other.total f inside)

-- what the index figures hand back, and the totals after it
pub one_figured : {t : Figures} (r r' : Either (Unit {0}) FigureRefusal) (row row' : List ℕ) → figured_as r row ≡ t → figured_as r' row' ≡ t → (r ≡ r') × (row ≡ row')
one_figured r r' row row' one other = same_figured r r' row row' (one_value one other)

-- the code's result, back from the seven numbers that it means: it holds nothing else
abbrev code_of : Result → CodeOutcome
code_of x = record {
  number = x.number;
  place = x.place;
  turns = x.turns;
  answers = x.answers;
  nodes = x.nodes;
  choices = x.choices;
  waiting = x.waiting;
}

-- the outcome of a run: its result, and the lent memory that it leaves
pub one-run : {t : Outcome} (r r' : CodeOutcome) (m m' : LentMemory)
    → after r m.nodes m.list m.bytes ≡ t → after r' m'.nodes m'.list m'.bytes ≡ t → (r ≡ r') × (m ≡ m')
one-run r r' m m' one other =
    (ap (λ (o : Outcome). code_of o.result) (one_value one other), ap (λ (o : Outcome). o.memory) (one_value one other))

-- the same of a run whose list is a part of its result: its front, so many places of it, was lent, and `rest` is what stands behind
pub one_owned : {t : Outcome} (places : ℕ) {rest : List LentEntry} (r r' : Owned) (nodes nodes' bytes bytes' : List ℕ)
    → (after r.outcome nodes (take places r.list) bytes ≡ t) × (drop places r.list ≡ rest)
    → (after r'.outcome nodes' (take places r'.list) bytes' ≡ t) × (drop places r'.list ≡ rest)
    → (r ≡ r') × (nodes ≡ nodes') × (bytes ≡ bytes')
one_owned places r r' nodes nodes' bytes bytes' (one, behind) (other, behind') =
    let m : LentMemory = record { nodes = nodes; list = take places r.list; bytes = bytes } in
    let m' : LentMemory = record { nodes = nodes'; list = take places r'.list; bytes = bytes' } in
    let (outcome, left) = one-run r.outcome r'.outcome m m' one other in
    let list : r.list ≡ r'.list =
    sym (take-append-drop places r.list) ∙ ap (λ (l : List LentEntry). l ++ drop places r.list) (ap (λ (x : LentMemory). x.list) left)
    ∙ ap (λ (l : List LentEntry). take places r'.list ++ l) (one_value behind behind') ∙ take-append-drop places r'.list in
    (rw (outcome, list) refl, ap (λ (x : LentMemory). x.nodes) left, ap (λ (x : LentMemory). x.bytes) left)
