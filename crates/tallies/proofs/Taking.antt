-- What some symbols of an answer count, one more of them, and that what was added and taken back is as it was.
use mathlib.Core.Bool.{true, false}
use mathlib.Core.List.{List, [], ◌∷◌}
use mathlib.Core.Path.{◌≡◌, refl, sym, ap, ◌∙◌}
use Prim.Native.Nat.{ℕ, zero, suc, ◌+◌, ◌-◌, ◌*◌, ◌≤◌, ◌<◌}
use native.Mathlib.Decide.{ℕ_discrete}
use native.Mathlib.Omega.{arith}
use lib.ListN.{length, get_or, set, length-set}
use lib.Seq.{get_or-set_same, get_or-set_other, set_out, ext_get_or}
use Rattle.reading.specs.Bytes.{big_endian}
use Rattle.book.specs.TreeAt.{is_in}
use Rattle.tallies.specs.Tallied.{how_many, symbols_at}
use Rattle.tallies.specs.InCode.{TakenBack, Lessened, answer_over}
use Rattle.tallies.proofs.Tallying.{is_in-same, is_in-other}
use Rattle.tallies.proofs.Tallying.{WithAnswers}

-- ---- k symbols, and one more behind them

-- what one answer counts at f
count_in : (f : ℕ) (symbols : List ℕ) → is_in f symbols ≡ true → how_many f (symbols ∷ []) ≡ 1
unfolding how_many
count_in f symbols is = simp (how_many, is)

count-out : (f : ℕ) (symbols : List ℕ) → is_in f symbols ≡ false → how_many f (symbols ∷ []) ≡ 0
unfolding how_many
count-out f symbols is = simp (how_many, is)

count_like : (f : ℕ) (some more : List ℕ) → is_in f some ≡ is_in f more → how_many f (some ∷ []) ≡ how_many f (more ∷ [])
unfolding how_many
count_like f some more same = simp (how_many, same)

module _ (bs : List ℕ) where
  -- the last one is f, or f stands before it
  last-same : {f : ℕ} (k p : ℕ) → f ≡ big_endian bs (p + 2 * k) → is_in f (symbols_at bs (suc k) p) ≡ true
  unfolding symbols_at
  last-same {f} zero p same =
      let at : p + 2 * 0 ≡ p = omega arith in
      is_in-same [] (rw at at same)
  last-same {f} (suc k) p same =
      let at : p + 2 * suc k ≡ p + 2 + 2 * k = omega arith in
      by (ℕ_discrete f (big_endian bs p)) (last-same k (p + 2) (rw at at same))
    where
      by : Dec (f ≡ big_endian bs p) → is_in f (symbols_at bs (suc k) (p + 2)) ≡ true → is_in f (symbols_at bs (suc (suc k)) p) ≡ true
      by (yes first) behind = is_in-same (symbols_at bs (suc k) (p + 2)) first
      by (no other) behind = is_in-other (symbols_at bs (suc k) (p + 2)) other ∙ behind

  last-other : {f : ℕ} (k p : ℕ) → (f ≡ big_endian bs (p + 2 * k) → ⊥) → is_in f (symbols_at bs (suc k) p) ≡ is_in f (symbols_at bs k p)
  unfolding symbols_at
  last-other {f} zero p not =
      let at : p + 2 * 0 ≡ p = omega arith in
      is_in-other [] (rw at at not)
  last-other {f} (suc k) p not =
      let at : p + 2 * suc k ≡ p + 2 + 2 * k = omega arith in
      by (ℕ_discrete f (big_endian bs p)) (last-other k (p + 2) (rw at at not))
    where
      by : Dec (f ≡ big_endian bs p) → is_in f (symbols_at bs (suc k) (p + 2)) ≡ is_in f (symbols_at bs k (p + 2))
          → is_in f (symbols_at bs (suc (suc k)) p) ≡ is_in f (symbols_at bs (suc k) p)
      by (yes first) behind = is_in-same (symbols_at bs (suc k) (p + 2)) first ∙ sym (is_in-same (symbols_at bs k (p + 2)) first)
      by (no other) behind = is_in-other (symbols_at bs (suc k) (p + 2)) other ∙ behind ∙ sym (is_in-other (symbols_at bs k (p + 2)) other)

  -- so it is looked for from the last one on
  module _ {f : ℕ} (k left from p : ℕ) (more : k ≡ suc left) (place : p ≡ from + 2 * left) where
    pub found-last : big_endian bs p ≡ f → is_in f (symbols_at bs k from) ≡ true
    found-last same = rw more (last-same left from (sym same ∙ ap (big_endian bs) place))

    pub found_before : (big_endian bs p ≡ f → ⊥) → is_in f (symbols_at bs k from) ≡ is_in f (symbols_at bs left from)
    found_before other = rw more (last-other left from (λ same. other (ap (big_endian bs) place ∙ sym same)))

  -- one more, g, behind i of them
  module _ (i i' from p g : ℕ) (more : i' ≡ suc i) (place : p ≡ from + 2 * i) (is : g ≡ big_endian bs p) where
    at-end : g ≡ big_endian bs (from + 2 * i)
    at-end = is ∙ ap (big_endian bs) place

    -- where it stands before it changes nothing
    pub none-new : is_in g (symbols_at bs i from) ≡ true → (x : ℕ) → is_in x (symbols_at bs i' from) ≡ is_in x (symbols_at bs i from)
    none-new told x = rw more (by (ℕ_discrete x g))
      where
        by : Dec (x ≡ g) → is_in x (symbols_at bs (suc i) from) ≡ is_in x (symbols_at bs i from)
        by (yes same) = last-same i from (same ∙ at-end) ∙ sym (ap (λ (y : ℕ). is_in y (symbols_at bs i from)) same ∙ told)
        by (no other) = last-other i from (λ same. other (same ∙ sym at-end))

    -- else it is new
    pub is-new : {x : ℕ} → x ≡ g → is_in x (symbols_at bs i' from) ≡ true
    is-new same = rw more (last-same i from (same ∙ at-end))

    pub not_new : {x : ℕ} → (x ≡ g → ⊥) → is_in x (symbols_at bs i' from) ≡ is_in x (symbols_at bs i from)
    not_new other = rw more (last-other i from (λ same. other (same ∙ sym at-end)))

    -- so it counts no more; or it counts one, and no other symbol does
    module _ (told : is_in g (symbols_at bs i from) ≡ true) where
      again_like : (x : ℕ) → how_many x (answer_over bs i' from) ≡ how_many x (answer_over bs i from)
      again_like x = count_like x (symbols_at bs i' from) (symbols_at bs i from) (none-new told x)

      pub again_added : {row row' : List ℕ} → WithAnswers row (answer_over bs i from) row' → WithAnswers row (answer_over bs i' from) row'
      again_added was = record { long = was.long; total = λ f h. omega (arith, was.total f h, again_like f) }

      pub again-back : {row row' : List ℕ} → TakenBack row (answer_over bs i from) row' → TakenBack row (answer_over bs i' from) row'
      again-back was = record { long = was.long; total = λ f h. omega (arith, was.total f h, again_like f) }

    module _ (told : is_in g (symbols_at bs i from) ≡ false) where
      counts-now : {x : ℕ} → x ≡ g → how_many x (answer_over bs i' from) ≡ 1
      counts-now {x} same = count_in x (symbols_at bs i' from) (is-new same)

      counts-not : {x : ℕ} → x ≡ g → how_many x (answer_over bs i from) ≡ 0
      counts-not {x} same = count-out x (symbols_at bs i from) (ap (λ (y : ℕ). is_in y (symbols_at bs i from)) same ∙ told)

      counts_like : {x : ℕ} → (x ≡ g → ⊥) → how_many x (answer_over bs i' from) ≡ how_many x (answer_over bs i from)
      counts_like {x} other = count_like x (symbols_at bs i' from) (symbols_at bs i from) (not_new other)

      pub new_added : {row : List ℕ} (row' : List ℕ) → WithAnswers row (answer_over bs i from) row' → g < length row'
          → WithAnswers row (answer_over bs i' from) (set row' g (suc (get_or row' g 0)))
      new_added {row} row' was there = record { long = length-set row' g _ ∙ was.long; total = λ f h. by f h (ℕ_discrete f g) }
        where
          by : (f : ℕ) → f < length row → Dec (f ≡ g) → get_or (set row' g (suc (get_or row' g 0))) f 0 ≡ get_or row f 0 + how_many f (answer_over bs i' from)
          by f h (yes same) =
              let grown : get_or (set row' g (suc (get_or row' g 0))) f 0 ≡ suc (get_or row' f 0) = rw same (get_or-set_same row' g _ 0 there) in
              omega (arith, grown, was.total f h, counts-now same, counts-not same)
          by f h (no other) = omega (arith, get_or-set_other row' g f (suc (get_or row' g 0)) 0 other, was.total f h, counts_like other)

      pub new-back : {row : List ℕ} (row' row'' : List ℕ) → TakenBack row (answer_over bs i from) row' → Lessened g row' row'' → TakenBack row (answer_over bs i' from) row''
      new-back {row} row' row'' was less = rw less (record { long = length-set row' g _ ∙ was.long; total = λ f h. by f h (ℕ_discrete f g) })
        where
          by : (f : ℕ) → f < length row → Dec (f ≡ g) → get_or (set row' g (get_or row' g 0 - 1)) f 0 ≡ get_or row f 0 - how_many f (answer_over bs i' from)
          by f h (yes same) =
              let there : g < length row' = omega (arith, was.long) in
              let shrunk : get_or (set row' g (get_or row' g 0 - 1)) f 0 ≡ get_or row' f 0 - 1 = rw same (get_or-set_same row' g _ 0 there) in
              omega (arith, shrunk, was.total f h, counts-now same, counts-not same)
          by f h (no other) = omega (arith, get_or-set_other row' g f (get_or row' g 0 - 1) 0 other, was.total f h, counts_like other)

  -- of no symbols nothing is taken, nor added
  pub none-back : (row : List ℕ) (from : ℕ) → TakenBack row (answer_over bs 0 from) row
  unfolding symbols_at how_many is_in
  none-back row from = record { long = refl; total = λ f h. omega arith }

  pub none_added : (row : List ℕ) (from : ℕ) → WithAnswers row (answer_over bs 0 from) row
  unfolding symbols_at how_many is_in
  none_added row from = record { long = refl; total = λ f h. omega arith }

-- there is no total past the row
pub less-past : (row : List ℕ) (f : ℕ) → length row ≤ f → Lessened f row row
less-past row f h = sym (set_out row f _ h)

-- ---- there and back

-- answers that were added and taken back leave a row as it was
pub there_and_back : (answers : List (List ℕ)) (row row' row'' : List ℕ) → WithAnswers row answers row' → TakenBack row' answers row'' → row'' ≡ row
there_and_back answers row row' row'' added back =
    ext_get_or 0 row'' row (back.long ∙ added.long) λ f h.
    let in_row : f < length row = omega (arith, back.long, added.long) in
    omega (arith, back.total f (omega (arith, added.long)), added.total f in_row)
