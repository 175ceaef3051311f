-- What an accepted listing says of broader terms: there is a heading, and each broader term is one.
use mathlib.Core.Bool.{Bool, true, false, not, ◌&&◌}
use mathlib.Core.Path.{◌≡◌, refl, ap}
use mathlib.Core.Logic.{⊎_elim}
use mathlib.Core.List.{List, [], ◌∷◌, ◌++◌}
use Prim.Native.Nat.{ℕ, zero, suc, ◌<◌}
use native.Mathlib.Omega.{arith}
use borrow.Author.Tests.{ltb-true, not-false}
use lib.Dec.{eqb}
use lib.ListN.{length, length-append}
use Rattle.reading.specs.Reading.{got}
use Rattle.reading.proofs.Good.{Good, good, refused, good-got, each, then-good, unless}
use Rattle.tagged.specs.Lines.{Name, Line, heading, broader, narrower, other, newline, line_of, cut_short, lines_from, lines_of}
use Rattle.tagged.specs.Listing.{Relation, Lists, Broader, number_of, is_heading, lists_from, lists_of, mirrored_from, broader_from, broader_in}
use Rattle.tagged.specs.Listing as Listing
use Rattle.tagged.specs.Hops.{In, broader_of, Inside}
use Rattle.tagged.proofs.Members.{in_row}

-- ---- there is a heading

-- once there is one, there is one at the end
some_stay : (headings : List Name) (relations : List Relation) (n : ℕ) (lines : List Line) → 0 < length headings
    → Good (λ l q. 0 < length l.headings) (lists_from headings relations n lines)
unfolding lists_from
some_stay headings relations n [] some = good some
some_stay headings relations n (heading name ∷ rest) some =
    unless _ _ _ λ _ _. some_stay (headings ++ (name ∷ [])) relations (suc n) rest (omega (arith, length-append headings (name ∷ [])))
some_stay headings relations n (broader name ∷ rest) some = unless _ _ _ λ _ _. some_stay headings _ (suc n) rest some
some_stay headings relations n (narrower name ∷ rest) some = unless _ _ _ λ _ _. some_stay headings _ (suc n) rest some
some_stay headings relations n (other ∷ rest) some = refused

-- the first line gives one
some-given : (relations : List Relation) (n : ℕ) (line : Line) (rest : List Line) → Good (λ l q. 0 < length l.headings) (lists_from [] relations n (line ∷ rest))
unfolding lists_from
some-given relations n (heading name) rest = unless _ _ _ λ _ _. some_stay (name ∷ []) relations (suc n) rest (omega arith)
some-given relations n (broader name) rest = unless _ _ true λ _ is. absurd (let z : ◌≡◌ {A = ℕ} 0 1 = cc in omega arith)
some-given relations n (narrower name) rest = unless _ _ true λ _ is. absurd (let z : ◌≡◌ {A = ℕ} 0 1 = cc in omega arith)
some-given relations n other rest = refused

-- bytes have a line
abbrev Some : List Line → Type 0
Some lines = (line : Line) × (rest : List Line) × (lines ≡ line ∷ rest)

-- where some bytes of it are there already
begun-line : (b : ℕ) (begun bs : List ℕ) → Some (lines_from (b ∷ begun) bs)
unfolding lines_from cut_short
begun-line b begun [] = (other, [], refl)
begun-line b begun (c ∷ bs) = by (eqb c newline) refl (begun-line b (begun ++ (c ∷ [])) bs)
  where
    by : (t : Bool) → eqb c newline ≡ t → Some (lines_from (b ∷ (begun ++ (c ∷ []))) bs) → Some (lines_from (b ∷ begun) (c ∷ bs))
    by true is more = (line_of (b ∷ begun), lines_from [] bs, rw (is, lines_from) refl)
    by false is (line, rest, more) = (line, rest, rw (is, lines_from) more)

a-line : (b : ℕ) (bs : List ℕ) → Some (lines_of (b ∷ bs))
unfolding lines_of lines_from
a-line b bs = by (eqb b newline) refl
  where
    by : (t : Bool) → eqb b newline ≡ t → Some (lines_from [] (b ∷ bs))
    by true is = (line_of [], lines_from [] bs, rw (is, lines_from) refl)
    by false is = let (line, rest, more) = begun-line b [] bs in (line, rest, rw (is, lines_from) more)

lists-some : (bs : List ℕ) → Good (λ l q. 0 < length l.headings) (lists_of bs)
unfolding lists_of
lists-some [] = unless _ _ true λ _ is. absurd (let z : ◌≡◌ {A = ℕ} 0 1 = cc in omega arith)
lists-some (b ∷ bs) =
    let (line, rest, is) = a-line b bs in
    let given : Good (λ l q. 0 < length l.headings) (lists_from [] [] 1 (lines_of (b ∷ bs))) = rw is (some-given [] 1 line rest) in
    unless _ _ _ λ _ _. given

-- ---- each broader term is a heading

-- each of these lines names a heading
pub data Known (headings : List Name) : List Relation → Type 0 where
  none : Known headings []
  more : {r : Relation} {rs : List Relation} → number_of r.name headings < length headings → Known headings rs → Known headings (r ∷ rs)

pub mirrors-known : (l : Lists) (rest : List Relation) (n : ℕ) → Good (λ l' q. (l' ≡ l) × Known l.headings rest) (mirrored_from l rest n)
unfolding mirrored_from
mirrors-known l [] n = good (refl, none)
mirrors-known l (r ∷ rest) n =
    unless _ _ (not (is_heading r.name l.headings)) λ _ is. unless _ _ _ λ _ _.
    each (λ l' q (same, known). (same, more (ltb-true _ _ (not-false _ is)) known)) (mirrors-known l rest n)

-- so what they say of heading x
terms-low : (headings : List Name) {rs : List Relation} → Known headings rs → (x b : ℕ) → In b (Listing.broader_of headings rs x) → b < length headings
unfolding Listing.broader_of
terms-low headings none x b there = elim there [ ]
terms-low headings (more {r} {rs} low known) x b there = by (r.is_broader && eqb r.under x) there (terms-low headings known x b)
  where
    by : (t : Bool) → In b (elim t [ true ↦ number_of r.name headings ∷ Listing.broader_of headings rs x | false ↦ Listing.broader_of headings rs x ])
        → (In b (Listing.broader_of headings rs x) → b < length headings) → b < length headings
    by false i rest = rest i
    by true i rest = ⊎_elim (λ is. rw is low) rest (in_row i)

-- there are as many as headings
pub row_count_lem : (l : Lists) (n x : ℕ) → length (broader_from l n x) ≡ n
unfolding broader_from
row_count_lem l zero x = refl
row_count_lem l (suc n) x = ap suc (row_count_lem l n (suc x))

rows-low : (l : Lists) → Known l.headings l.relations → (n x y b : ℕ) → In b (broader_of (broader_from l n x) y) → b < length l.headings
unfolding broader_from
rows-low l known zero x y b there = elim there [ ]
rows-low l known (suc n) x zero b there = terms-low l.headings known x b there
rows-low l known (suc n) x (suc y) b there = rows-low l known n (suc x) y b there

-- AN ACCEPTED LISTING has a heading, and its broader terms are headings.
pub record Accepted (broader : Broader) : Type 0 where
  pub some : 0 < length broader
  pub inside : Inside broader

accepted-good : (bs : List ℕ) → Good (λ broader q. Accepted broader) (broader_in bs)
unfolding broader_in
accepted-good bs =
    then-good (lists-some bs) λ l n some.
    then-good (mirrors-known l l.relations n) λ l' m (same, known).
    good (rw same (record {
      some = rw (row_count_lem l (length l.headings) 0) some;
      inside = λ x y there. rw (row_count_lem l (length l.headings) 0) (rows-low l known (length l.headings) 0 x y there);
    }))

pub accepted : (bs : List ℕ) {broader : Broader} {line : ℕ} → broader_in bs ≡ got broader line → Accepted broader
accepted bs is = good-got (accepted-good bs) is
