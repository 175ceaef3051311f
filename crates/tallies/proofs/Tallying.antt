-- Totals that are added to a row: what one answer adds, when the row has room for it, and that what is added behind it adds up.
use mathlib.Core.Bool.{Bool, true, false}
use mathlib.Core.List.{List, [], ◌∷◌}
use mathlib.Core.Path.{◌≡◌, refl, ap, ◌∙◌}
use Prim.Native.Nat.{ℕ, zero, suc, ◌+◌, ◌*◌, ◌≤◌, ◌<◌}
use native.Mathlib.Decide.{ℕ_discrete}
use native.Mathlib.Omega.{arith}
use borrow.Author.Tests.{leb-false, lt-leb, eq-eqb, ne_eqb}
use lib.Dec.{leb}
use lib.ListN.{length, get_or, set, length-set}
use lib.Seq.{get_or-set_same, get_or-set_other}
use Rattle.reading.specs.Reading.{Reading}
use Rattle.reading.specs.Bytes.{big_endian}
use Rattle.book.specs.TreeAt.{is_in}
use Rattle.tallies.specs.Tallied.{most_total, tallied}
use Rattle.tallies.specs.Tallied.{how_many, symbols_at}
use Rattle.tallies.proofs.Exactly.{Exactly, read, unless, either, so}

-- a row to whose total at each f so many were added
pub record Added (row : List ℕ) (many : ℕ → ℕ) (row' : List ℕ) : Type 0 where
  pub long : length row' ≡ length row
  pub total : (f : ℕ) → f < length row → get_or row' f 0 ≡ get_or row f 0 + many f

-- the row with these answers counted in its totals
abbrev pub WithAnswers : List ℕ → List (List ℕ) → List ℕ → Type 0
WithAnswers row answers row' = Added row (λ f. how_many f answers) row'

-- a row that has room for so many: each symbol to be counted has a total, which stays within 32 bits
abbrev RoomAt : List ℕ → ℕ → ℕ → Type 0
RoomAt row f n = (f < length row) × (get_or row f 0 + n ≤ most_total)

abbrev pub Room : List ℕ → (ℕ → ℕ) → Type 0
Room row many = (f : ℕ) → 0 < many f → RoomAt row f (many f)

-- nothing was added, and there was room for it
pub added_none : (row : List ℕ) → Added row (λ f. 0) row
added_none row = record { long = refl; total = λ f h. omega arith }

pub room-none : (row : List ℕ) → Room row (λ f. 0)
room-none row f h = absurd (omega arith)

-- so many are so many and so many more
pub record Sum (all some more : ℕ → ℕ) : Type 0 where
  pub at : (f : ℕ) → all f ≡ some f + more f

-- who has room for all of them has it for the first
pub room-first : (row : List ℕ) {some more all : ℕ → ℕ} → Sum all some more → Room row all → Room row some
room-first row sum room f h =
    let there = room f (omega (arith, sum.at f)) in
    (there.0, omega (arith, there.1, sum.at f))

-- so many are added, and then so many more
module _ {row mid : List ℕ} {some more all : ℕ → ℕ} (one : Added row some mid) (sum : Sum all some more) where
  pub added_more : {row' : List ℕ} → Added mid more row' → Added row all row'
  added_more other = record {
    long = other.long ∙ one.long;
    total = λ f h. omega (arith, other.total f (omega (arith, one.long)), one.total f h, sum.at f);
  }

  -- who has room for all of them then has it for the others, and the other way round
  pub room-others : Room row all → Room mid more
  room-others room f h =
      let there = room f (omega (arith, sum.at f)) in
      (omega (arith, there.0, one.long), omega (arith, there.1, one.total f there.0, sum.at f))

  pub room-all : Room row some → Room mid more → Room row all
  room-all first others f h = by (more f) refl
    where
      by : (n : ℕ) → more f ≡ n → RoomAt row f (all f)
      by zero is =
          let there = first f (omega (arith, sum.at f)) in
          (there.0, omega (arith, there.1, sum.at f))
      by (suc n) is =
          let there = others f (omega arith) in
          let in_row : f < length row = omega (arith, there.0, one.long) in
          (in_row, omega (arith, there.1, one.total f in_row, sum.at f))

  -- so reading that adds the others, up to e, adds all of them
  added_behind : {r : Reading (List ℕ)} {e e' : ℕ} → e ≡ e' → Room row some → Exactly (Room mid more) (λ row' q. Added mid more row' × (q ≡ e)) r
      → Exactly (Room row all) (λ row' q. Added row all row' × (q ≡ e')) r
  added_behind ends first = so (room-all first) room-others (λ row' q room (added, end). (added_more added, end ∙ ends))

-- ---- the symbols of one answer

-- what a symbol that was seen, or not, counts, by whether it stands there
unfoldable pub newly : Bool → Bool → ℕ
newly false true = 1
newly false false = 0
newly true there = 0

-- how many are added for these symbols, but for those seen
abbrev pub adds : List ℕ → List ℕ → ℕ → ℕ
adds seen symbols f = newly (is_in f seen) (is_in f symbols)

-- an answer in which f stands counts once
pub once : (symbols : List ℕ) (more : List (List ℕ)) → Sum (λ f. how_many f (symbols ∷ more)) (adds [] symbols) (λ f. how_many f more)
unfolding how_many newly is_in
once symbols more = record { at = λ f. by f (is_in f symbols) refl }
  where
    by : (f : ℕ) (t : Bool) → is_in f symbols ≡ t → how_many f (symbols ∷ more) ≡ newly false (is_in f symbols) + how_many f more
    by f true is = simp (how_many, is, newly) (omega arith)
    by f false is = simp (how_many, is, newly) (omega arith)

-- a symbol is the first one, or it has to stand among the others
pub is_in-same : {f g : ℕ} (symbols : List ℕ) → f ≡ g → is_in f (g ∷ symbols) ≡ true
unfolding is_in
is_in-same {f} {g} symbols same = simp (is_in, eq-eqb f g same)

pub is_in-other : {f g : ℕ} (symbols : List ℕ) → (f ≡ g → ⊥) → is_in f (g ∷ symbols) ≡ is_in f symbols
unfolding is_in
is_in-other {f} {g} symbols other = simp (is_in, ne_eqb f g other)

-- what does not stand there counts nothing
newly_none : (seen : Bool) → newly seen false ≡ 0
unfolding newly
newly_none true = refl
newly_none false = refl

module _ (g : ℕ) (seen rest : List ℕ) where
  -- g was seen before, so only the rest counts
  sum-seen : is_in g seen ≡ true → Sum (adds seen (g ∷ rest)) (λ f. 0) (adds seen rest)
  unfolding newly
  sum-seen is = record { at = λ f. by f (ℕ_discrete f g) }
    where
      by : (f : ℕ) → Dec (f ≡ g) → adds seen (g ∷ rest) f ≡ 0 + adds seen rest f
      by f (yes same) =
          let seen-f : is_in f seen ≡ true = ap (λ (k : ℕ). is_in k seen) same ∙ is in
          rw seen-f (omega arith)
      by f (no other) = rw (is_in-other rest other) (omega arith)

  -- g was not seen before, so it counts, and then no more
  sum-new : is_in g seen ≡ false → Sum (adds seen (g ∷ rest)) (adds [] (g ∷ [])) (adds (g ∷ seen) rest)
  unfolding newly is_in
  sum-new is = record { at = λ f. by f (ℕ_discrete f g) }
    where
      by : (f : ℕ) → Dec (f ≡ g) → adds seen (g ∷ rest) f ≡ adds [] (g ∷ []) f + adds (g ∷ seen) rest f
      by f (yes same) =
          let unseen : is_in f seen ≡ false = ap (λ (k : ℕ). is_in k seen) same ∙ is in
          rw (is_in-same seen same, is_in-same rest same, is_in-same [] same, unseen) (omega arith)
      by f (no other) = rw (is_in-other seen other, is_in-other rest other, is_in-other [] other) (omega arith)

-- one symbol is added
module _ (g : ℕ) (row : List ℕ) (there : g < length row) where
  one_added : Added row (adds [] (g ∷ [])) (set row g (suc (get_or row g 0)))
  unfolding newly is_in
  one_added = record { long = length-set row g _; total = λ f h. by f (ℕ_discrete f g) }
    where
      by : (f : ℕ) → Dec (f ≡ g) → get_or (set row g (suc (get_or row g 0))) f 0 ≡ get_or row f 0 + adds [] (g ∷ []) f
      by f (yes same) =
          let more : get_or (set row g (suc (get_or row g 0))) f 0 ≡ suc (get_or row f 0) = rw same (get_or-set_same row g _ 0 there) in
          rw (more, is_in-same [] same) (omega arith)
      by f (no other) = rw (get_or-set_other row g f (suc (get_or row g 0)) 0 other, is_in-other [] other) (omega arith)

  one-room : get_or row g 0 < most_total → Room row (adds [] (g ∷ []))
  unfolding newly is_in
  one-room small f h = by (ℕ_discrete f g) h
    where
      by : Dec (f ≡ g) → 0 < adds [] (g ∷ []) f → RoomAt row f (adds [] (g ∷ []) f)
      by (yes same) h = (rw same there, rw (is_in-same [] same, same) (omega arith))
      by (no other) h =
          let none : adds [] (g ∷ []) f ≡ 0 = rw (is_in-other [] other) refl in
          absurd (omega arith)

-- where there is room for a symbol not yet seen it passes the tests
room-new : (g : ℕ) (row seen rest : List ℕ) → is_in g seen ≡ false → Room row (adds seen (g ∷ rest)) → RoomAt row g 1
unfolding newly
room-new g row seen rest new room =
    let counts : adds seen (g ∷ rest) g ≡ 1 = rw (new, is_in-same rest refl) refl in
    let there = room g (omega (arith, counts)) in
    (there.0, omega (arith, there.1, counts))

module _ (bs : List ℕ) where
  -- the symbols from p on, k of them, each counted once
  pub tallied_added : (row seen : List ℕ) (k p : ℕ)
      → Exactly (Room row (adds seen (symbols_at bs k p))) (λ row' q. Added row (adds seen (symbols_at bs k p)) row' × (q ≡ p + 2 * k)) (tallied bs row seen k p)
  unfolding tallied symbols_at is_in
  tallied_added row seen zero p =
      read {a = row} {p = p} (λ f h. absurd (omega (arith, newly_none (is_in f seen)))) (record { long = refl; total = λ f h. rw (newly_none (is_in f seen)) (omega arith) }, omega arith)
  tallied_added row seen (suc k) p =
      let g = big_endian bs p in
      let rest = symbols_at bs k (p + 2) in
      let total = get_or row g 0 in
      let further : p + 2 + 2 * k ≡ p + 2 * suc k = omega arith in
      either (is_in g seen)
      (λ new.
      let test = room-new g row seen rest new in
      unless _ _ (leb (length row) g) (omega arith) (λ room. lt-leb (length row) g (test room).0) λ _ inside.
      unless _ _ (leb most_total total) (omega arith) (λ room. lt-leb most_total total (omega (arith, (test room).1))) λ _ small.
      let there = leb-false (length row) g inside in
      added_behind (one_added g row there) (sum-new g seen rest new) further (one-room g row there (leb-false most_total total small))
      (tallied_added (set row g (suc total)) (g ∷ seen) k (p + 2)))
      (λ again. added_behind (added_none row) (sum-seen g seen rest again) further (room-none row) (tallied_added row seen k (p + 2)))
