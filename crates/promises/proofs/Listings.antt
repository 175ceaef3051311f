-- The listing's two functions keep what is promised: corollaries of the contracts of `tagged::write_listing` and `tagged::save_listing` alone, which the kit makes
-- of their `ensures` in the code. And of a call of `run` over a book that was written so: what it tells of a heading.
use mathlib.Core.Bool.{Bool, true, false, ◌||◌}
use mathlib.Core.Path.{◌≡◌, refl, sym, ap, ap₂, subst, ◌∙◌}
use mathlib.Core.Option.{Option, none, some}
use mathlib.Core.List.{List, [], ◌∷◌}
use Prim.Native.Nat.{ℕ, zero, suc, ◌+◌, ◌<◌}
use native.Mathlib.Omega.{arith}
use lib.Dec.{ltb}
use lib.ListN.{length, get_or, drop, get_or-append, length-map, length-replicate}
use lib.Seq.{take_at, drop_at}
use seplogic.Ra.Ura.{Ura}
use prog.Model.{Model}
use prog.Wired.{Wired}
use types.Logic.{Logic}
use contract.Monad.{fact, fact_mono, fm→mono}
use contract.Running.{Running}
use denote.Triple.Clauses.{at_exit, closing}
use denote.Triple.Spec.{Meets}
use denote.Triple.Table.{run_framed}
use denote.Triple.Weaken.{weaken}
use Rattle.reading.specs.Reading.{Reading, got, refusal}
use Rattle.machine.specs.Run.{Memory, Outcome, run}
use Rattle.tagged.specs.Listing.{Broader, broader_in}
use Rattle.tagged.specs.Hops.{IsBroader, Above}
use Rattle.tagged.specs.Terms.{rules_for}
use Rattle.tagged.specs.Laid.{laid}
use Rattle.tagged.specs.Levels.{longest, chains, levels}
use Rattle.tagged.specs.Circle.{circle}
use Rattle.tagged.specs.Told.{FirstCircle, IsLevel}
use Rattle.tagged.specs.Write.{passes, written, book_from}
use Rattle.tagged.specs.Write as Write
use Rattle.tagged.specs.Saved.{answered, judged, saved_as}
use Rattle.tagged.specs.Saved as Saved
use Rattle.listings.specs.Putting.{outcome_of as handed_on}
use Rattle.circles.specs.Saving.{outcome_of as told_of}
use Rattle.tagged.proofs.Refused.{numbered, number_is}
use Rattle.tagged.proofs.FirstCircle.{told}
use Rattle.listings.specs.contracts.write_listing as writing
use Rattle.listings.proofs.write_listing.Met as written-so
use Rattle.listings.proofs.write_listing.Symbol as write_symbol
use Rattle.circles.specs.contracts.save_listing as saving
use Rattle.circles.proofs.save_listing.Met as saved-so
use Rattle.circles.proofs.save_listing.Symbol as save-symbol
use Rattle.above.specs.Promised.{asking}
use Rattle.above.proofs.Promised.{promised}
use Rattle.above.proofs.TooLarge.{told_43}
use Rattle.nights.specs.Nights.{book_in, Told}
use Rattle.nights.proofs.Nights.{nights}
use Rattle.run.specs.Outcomes.{after}
use Rattle.run.specs.contracts.run as running
use Rattle.run.proofs.run.Met as run-so
use Rattle.run.proofs.run.Symbol as run-symbol
use Rattle.promises.specs.Listings.{Writes, Answers, Saves}
use Rattle.promises.proofs.Contracts.{Claim, ensuring, lent_to, left_by}

-- ---- of the definition of the book that is written

-- "nothing is written", and nothing behind the book
abbrev Kept : List ℕ → Write.Outcome → Type 0
Kept room o = ((o.result.number ≡ 0 → ⊥) → o.room ≡ room) × (drop o.result.bytes o.room ≡ drop o.result.bytes room)

written-kept : (broader : Broader) (room : List ℕ) → Kept room (written broader room)
unfolding written
written-kept broader room = by (passes broader || ltb (length room) (length bytes)) refl
  where
    bytes : List ℕ
    bytes = laid (rules_for broader)

    by : (over : Bool) → (passes broader || ltb (length room) (length (laid (rules_for broader)))) ≡ over → Kept room (written broader room)
    by true is = rw (written, is) (λ _. refl, refl)
    by false is = rw (written, is) (λ some. absurd (some refl), drop_at (laid (rules_for broader)) (drop (length (laid (rules_for broader))) room) _ refl)

book-kept : (listing room : List ℕ) → Kept room (book_from listing room)
unfolding book_from
book-kept listing room = by (broader_in listing) refl
  where
    by : (r : Reading Broader) → broader_in listing ≡ r → Kept room (book_from listing room)
    by (refusal c line) is = rw (book_from, is) (λ _. refl, refl)
    by (got broader line) is = rw (book_from, is) (written-kept broader room)

writes : (listing room : List ℕ) → Writes listing room (book_from listing room)
writes listing room = record {
  says = promised listing room;
  tells = nights listing room;
  only43 = (told_43 listing room).only;
  always43 = λ broader line says over. ap (λ (o : Write.Outcome). o.result.number) ((told_43 listing room).always broader line says over);
  untouched = (book-kept listing room).0;
  behind = (book-kept listing room).1;
}

-- ---- of the definition of what is told when a listing is saved

module _ (broader : Broader) where
  chains-long : (k : ℕ) → length (chains broader k) ≡ length broader
  unfolding chains
  chains-long zero = length-replicate (length broader) 0
  chains-long (suc k) = length-map broader (longest (chains broader k))

  levels-long : length (levels broader) ≡ length broader
  unfolding levels
  levels-long = chains-long (length broader)

-- a circle has a heading
some-heading : (broader : Broader) (c : List ℕ) → FirstCircle broader c → 0 < length c
some-heading broader [] first = absurd first.is
some-heading broader (x ∷ c) first = omega arith

module _ (broader : Broader) (row : List ℕ) where
  -- the row begins with the levels
  level_at : (x : ℕ) → x < length broader → get_or (Saved.over (levels broader) row) x 0 ≡ get_or (levels broader) x 0
  level_at x low = get_or-append (levels broader) (drop (length (levels broader)) row) 0 x (omega (arith, levels-long broader))

  -- levels
  levels_answer : circle broader ≡ none → Answers broader row (answered broader none row)
  unfolding answered
  levels_answer is = record {
    headings = refl;
    reported = (λ has. absurd (none-some (sym is ∙ ((told broader).reported.0 has).1)), λ some. absurd (omega arith));
    circle_is = λ some. absurd (omega arith);
    levels_are = λ _. (
      λ x low. subst (IsLevel broader x) (sym (level_at x low)) ((told broader).levels_are is x low),
      rw (← levels-long broader) (drop_at (levels broader) (drop (length (levels broader)) row) _ refl),
    );
  }
    where
      none-some : {c : List ℕ} → none ≡ some c → ⊥
      none-some e = let z : ◌≡◌ {A = ℕ} 0 1 = cc in omega arith

  -- a circle
  circle_answer : (c : List ℕ) → circle broader ≡ some c → Answers broader row (answered broader (some c) row)
  unfolding answered
  circle_answer c is =
      let first = (told broader).circle_is c is in
      let long = some-heading broader c first in
      record {
        headings = refl;
        reported = (λ _. long, λ _. (told broader).reported.1 (c, is));
        circle_is = λ _. (rw (take_at c (drop (length c) row) (length c) refl) first, drop_at c (drop (length c) row) (length c) refl);
        levels_are = λ none. absurd (omega (arith, long, none));
      }

  answers : Answers broader row (answered broader (circle broader) row)
  answers = by (circle broader) refl
    where
      by : (t : Option (List ℕ)) → circle broader ≡ t → Answers broader row (answered broader (circle broader) row)
      by none is = rw is (levels_answer is)
      by (some c) is = rw is (circle_answer c is)

-- it is no refusal
answered-number : (broader : Broader) (row : List ℕ) (t : Option (List ℕ)) → (answered broader t row).result.number ≡ 0
unfolding answered
answered-number broader row none = refl
answered-number broader row (some c) = refl

module _ (listing row : List ℕ) where
  refused_saves : (c line : ℕ) → (c ≡ 0 → ⊥) → Saves listing row (Saved.refusing c line row)
  refused_saves c line refuses = record { answers = λ zero-told. absurd (refuses zero-told); untouched = λ _. refl }

  judged_saves : (broader : Broader) (line : ℕ) → broader_in listing ≡ got broader line → Saves listing row (judged broader row)
  unfolding judged
  judged_saves broader line says = by (passes broader) (ltb (length row) (length broader)) refl refl
    where
      by : (large less : Bool) → passes broader ≡ large → ltb (length row) (length broader) ≡ less → Saves listing row (judged broader row)
      by true less is other = rw (judged, is) (refused_saves 43 0 (λ none. omega arith))
      by false true is other = rw (judged, is, other) (refused_saves 44 0 (λ none. omega arith))
      by false false is other = rw (judged, is, other) (record {
        answers = λ _. (broader, line, says, answers broader row);
        untouched = λ some. absurd (some (answered-number broader row (circle broader)));
      })

  saves : Saves listing row (saved_as listing row)
  unfolding saved_as
  saves = by (broader_in listing) refl
    where
      by : (r : Reading Broader) → broader_in listing ≡ r → Saves listing row (saved_as listing row)
      by (refusal c line) is = rw (saved_as, is) (refused_saves c line (λ none. omega (arith, (number_is (numbered listing) is).0)))
      by (got broader line) is = rw (saved_as, is) (judged_saves broader line is)

-- ---- of calls

-- of a call of `write_listing`
abbrev pub Written : Claim writing.ended
Written κs a z e = Writes a.0.now a.1.0.now (handed_on z e.1.0.now)

pub write-listing-keeps : {M : Type 1} {𝓤 : Ura M} (𝓛 : Logic 𝓤) (𝓜 : Model 𝓤 𝓛.H) (𝓡 : Running 𝓤 𝓛.H 𝓜)
    → Wired 𝓡.env write_symbol.code → Meets 𝓛 writing.signature (𝓡.run (𝓡.env write_symbol.name))
    (closing 𝓛 writing.ended (ensuring writing.ended Written M 𝓤 𝓛 𝓜.mem 𝓡.returns))
write-listing-keeps {𝓤 = 𝓤} 𝓛 𝓜 𝓡 wired =
    weaken 𝓛 writing.ended (writing.clauses 𝓛 𝓜.mem 𝓡.returns) (λ κs a g z e. fact 𝓤 (Written κs a z e))
    (λ κs a g z ws. fact_mono 𝓤 _ (Written κs a z (at_exit writing.ended κs a ws)) (λ contract.
    subst (Writes a.0.now a.1.0.now) (sym contract) (writes a.0.now a.1.0.now)))
    (𝓡.run (𝓡.env write_symbol.name)) (λ vs. fm→mono 𝓤 (𝓡.run (𝓡.env write_symbol.name) vs) (run_framed 𝓤 𝓛.H 𝓜 𝓡 (𝓡.env write_symbol.name) vs)) (written-so.met 𝓤 𝓛 𝓜 𝓡 wired)

-- of a call of `save_listing`
abbrev pub SavedSo : Claim saving.ended
SavedSo κs a z e = Saves a.0.now a.1.0.now (told_of z e.1.0.now)

pub save_listing-keeps : {M : Type 1} {𝓤 : Ura M} (𝓛 : Logic 𝓤) (𝓜 : Model 𝓤 𝓛.H) (𝓡 : Running 𝓤 𝓛.H 𝓜)
    → Wired 𝓡.env save-symbol.code → Meets 𝓛 saving.signature (𝓡.run (𝓡.env save-symbol.name))
    (closing 𝓛 saving.ended (ensuring saving.ended SavedSo M 𝓤 𝓛 𝓜.mem 𝓡.returns))
save_listing-keeps {𝓤 = 𝓤} 𝓛 𝓜 𝓡 wired =
    weaken 𝓛 saving.ended (saving.clauses 𝓛 𝓜.mem 𝓡.returns) (λ κs a g z e. fact 𝓤 (SavedSo κs a z e))
    (λ κs a g z ws. fact_mono 𝓤 _ (SavedSo κs a z (at_exit saving.ended κs a ws)) (λ contract.
    subst (Saves a.0.now a.1.0.now) (sym contract) (saves a.0.now a.1.0.now)))
    (𝓡.run (𝓡.env save-symbol.name)) (λ vs. fm→mono 𝓤 (𝓡.run (𝓡.env save-symbol.name) vs) (run_framed 𝓤 𝓛.H 𝓜 𝓡 (𝓡.env save-symbol.name) vs)) (saved-so.met 𝓤 𝓛 𝓜 𝓡 wired)

-- what a run tells, one with the same book and question does
over-book : (P : ℕ → Type 0) (fuel : ℕ) (m : Memory) {o : Outcome} {book book' question question' : List ℕ} → o ≡ run book question fuel m → book ≡ book'
    → question ≡ question' → Told P (run book' question' fuel m) → Told P o
over-book P fuel m is same asked tells = subst (Told P) (sym (is ∙ ap₂ (λ b q. run b q fuel m) same asked)) tells

-- of a call of `run` whose book is one that was written of a listing: asked for the first operation of a heading it tells its BT headings, asked for the second
-- those above it; all of them, if it is finished
abbrev pub TellsOf : Claim running.ended
TellsOf κs a z e = (listing room : List ℕ) (done : (book_from listing room).result.number ≡ 0) → a.0.now ≡ book_in (book_from listing room)
    → let broader = (promised listing room done).broader in
    let n = length broader in
    let left = left_by κs e in
    let outcome = after z left.nodes left.list left.bytes in
    (x : ℕ) → x < n → (a.1.0.now ≡ asking (n + x) → Told (IsBroader broader x) outcome) × (a.1.0.now ≡ asking (n + n + x) → Told (Above broader x) outcome)

pub run-tells : {M : Type 1} {𝓤 : Ura M} (𝓛 : Logic 𝓤) (𝓜 : Model 𝓤 𝓛.H) (𝓡 : Running 𝓤 𝓛.H 𝓜)
    → Wired 𝓡.env run-symbol.code → Meets 𝓛 running.signature (𝓡.run (𝓡.env run-symbol.name))
    (closing 𝓛 running.ended (ensuring running.ended TellsOf M 𝓤 𝓛 𝓜.mem 𝓡.returns))
run-tells {𝓤 = 𝓤} 𝓛 𝓜 𝓡 wired =
    weaken 𝓛 running.ended (running.clauses 𝓛 𝓜.mem 𝓡.returns) (λ κs a g z e. fact 𝓤 (TellsOf κs a z e))
    (λ κs a g z ws. fact_mono 𝓤 _ (TellsOf κs a z (at_exit running.ended κs a ws)) (λ contract listing room done book x low.
    let n = length (promised listing room done).broader in
    let night = nights listing room done in
    let fuel = a.1.1.1.1.1.0 in (
      λ asked. over-book (IsBroader (promised listing room done).broader x) fuel (lent_to κs a) contract book asked (night.first x low fuel (lent_to κs a)),
      λ asked. over-book (Above (promised listing room done).broader x) fuel (lent_to κs a) contract book asked (night.second x low fuel (lent_to κs a)),
    )))
    (𝓡.run (𝓡.env run-symbol.name)) (λ vs. fm→mono 𝓤 (𝓡.run (𝓡.env run-symbol.name) vs) (run_framed 𝓤 𝓛.H 𝓜 𝓡 (𝓡.env run-symbol.name) vs)) (run-so.met 𝓤 𝓛 𝓜 𝓡 wired)
