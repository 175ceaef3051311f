-- The bytes of a listing's rules: those of the first broader term, then those of the others; and how many they are.
use mathlib.Core.Bool.{Bool, true, false}
use mathlib.Core.List.{List, [], ◌∷◌, ◌++◌}
use mathlib.Core.Path.{◌≡◌, refl, sym, ap, ◌∙◌}
use Prim.Native.Nat.{ℕ, zero, suc, ◌+◌, ◌*◌, ◌-◌, ◌<◌, ◌≤◌}
use native.Mathlib.Numerals.{add-one}
use native.Mathlib.Omega.{arith}
use lib.ListN.{length, get_or, length-append, length-take, length-drop}
use lib.Seq.{drop-cons}
use Rattle.reading.specs.Bytes.{two_bytes}
use Rattle.tagged.specs.Terms.{nested, first_of, second_of}
use Rattle.tagged.specs.Laid.{expr_laid, row_laid, tree_laid, length_first}
use Rattle.terms.specs.Places.{bytes_of}
use Rattle.terms.specs.TermRows.{most_terms}
use Rattle.listings.specs.Putting.{Put, term_laid, rule_of, nest_laid, next_laid, size_of, rule_laid}
use Rattle.listings.proofs.PutWays.{put_then}

-- ---- the terms between two places

module _ (to : List ℕ) (i b : ℕ) (filled : b ≤ length to) where
  pub row_more : i < b → bytes_of to i b ≡ get_or to i 0 ∷ bytes_of to (i + 1) b
  row_more less =
      let e : b - i ≡ suc (b - (i + 1)) = omega arith in
      rw (e, add-one, drop-cons to i 0 (omega arith)) refl

  pub row-none : b ≤ i → bytes_of to i b ≡ []
  row-none past =
      let e : b - i ≡ 0 = omega arith in
      rw e refl

  pub row-long : i ≤ b → length (bytes_of to i b) ≡ b - i
  row-long rising = simp (length-take, length-drop) (omega arith)

-- ---- a nest

pub nest_last-first : (n x : ℕ) → nest_laid false n (x ∷ []) ≡ term_laid x
unfolding nest_laid rule_of nested first_of expr_laid row_laid term_laid two_bytes
nest_last-first n x = refl

pub nest_last-second : (n x : ℕ) → nest_laid true n (x ∷ []) ≡ (2 ∷ term_laid x) ++ term_laid (n + n + x)
unfolding nest_laid rule_of nested second_of expr_laid row_laid term_laid two_bytes
nest_last-second n x = refl

pub nest_next : (above : Bool) (n x y : ℕ) (bs : List ℕ) → nest_laid above n (x ∷ y ∷ bs) ≡ next_laid above n x ++ nest_laid above n (y ∷ bs)
unfolding nest_laid next_laid rule_of nested first_of second_of expr_laid row_laid term_laid two_bytes
nest_next false n x y bs = refl
nest_next true n x y bs = refl

-- "or fail where there are none"
pub nest_fail : (above : Bool) (n : ℕ) → nest_laid above n [] ≡ 3 ∷ []
unfolding nest_laid rule_of nested first_of second_of expr_laid
nest_fail false n = refl
nest_fail true n = refl

-- ---- how many bytes

pub rule-long : (above : Bool) (n : ℕ) (bs : List ℕ) → length (1 ∷ nest_laid above n bs) ≡ size_of above (length bs)
unfolding size_of term_laid two_bytes next_laid
rule-long above n [] = ap (λ (l : List ℕ). length (1 ∷ l)) (nest_fail above n)
rule-long above n (x ∷ bs) = by above bs x
  where
    by : (above : Bool) (bs : List ℕ) (x : ℕ) → length (1 ∷ nest_laid above n (x ∷ bs)) ≡ size_of above (length (x ∷ bs))
    by false [] x = ap (λ (l : List ℕ). length (1 ∷ l)) (nest_last-first n x)
    by true [] x = ap (λ (l : List ℕ). length (1 ∷ l)) (nest_last-second n x)
    by false (y ∷ bs) x =
        let split = ap length (nest_next false n x y bs) ∙ length-append (next_laid false n x) (nest_laid false n (y ∷ bs)) in
        omega (arith, by false bs y)
    by true (y ∷ bs) x =
        let split = ap length (nest_next true n x y bs) ∙ length-append (next_laid true n x) (nest_laid true n (y ∷ bs)) in
        omega (arith, by true bs y)

-- ---- a rule

pub rule-is : (above : Bool) (n : ℕ) (bs : List ℕ) → rule_laid above n bs ≡ two_bytes (size_of above (length bs)) ++ (1 ∷ nest_laid above n bs)
unfolding rule_laid length_first tree_laid nest_laid
rule-is above n bs = ap (λ (k : ℕ). two_bytes k ++ (1 ∷ nest_laid above n bs)) (rule-long above n bs)

pub size_small : (above : Bool) (k : ℕ) → k ≤ most_terms → size_of above k < 65536
unfolding size_of
size_small above zero few = by above
  where
    by : (above : Bool) → size_of above 0 < 65536
    by false = omega arith
    by true = omega arith
size_small false (suc k) few = omega arith
size_small true (suc k) few = omega arith

-- ---- one lemma for each way through the code

-- how much room a broader term takes
pub next-some : (above : Bool) (n x : ℕ) → 4 ≤ length (next_laid above n x)
unfolding next_laid term_laid two_bytes
next-some false n x = omega arith
next-some true n x = omega arith

pub next_both : (above : Bool) (n x : ℕ) → above ≡ true → length (next_laid above n x) ≡ 8
unfolding next_laid term_laid two_bytes
next_both above n x is = rw is refl

pub last-first-long : (above : Bool) (n x : ℕ) → above ≡ false → length (nest_laid above n (x ∷ [])) ≡ 3
unfolding term_laid two_bytes
last-first-long above n x is = rw is (ap length (nest_last-first n x))

pub last-second-long : (above : Bool) (n x : ℕ) → above ≡ true → length (nest_laid above n (x ∷ [])) ≡ 7
unfolding term_laid two_bytes
last-second-long above n x is = rw is (ap length (nest_last-second n x))

module _ {old : List ℕ} {at : ℕ} (above : Bool) (n x : ℕ) where
  pub next-first-put : {p : ℕ} {new : List ℕ} → above ≡ false → Put old at (2 ∷ term_laid x) p new → Put old at (next_laid above n x) p new
  unfolding next_laid
  next-first-put is put = rw is put

  pub next-second-put : {p q : ℕ} {mid new : List ℕ} → above ≡ true → Put old at (2 ∷ term_laid x) p mid → Put mid p (2 ∷ term_laid (n + n + x)) q new
      → Put old at (next_laid above n x) q new
  unfolding next_laid
  next-second-put is first second = rw is (put_then first second)

  pub last-first-put : {p : ℕ} {new : List ℕ} → above ≡ false → Put old at (term_laid x) p new → Put old at (nest_laid above n (x ∷ [])) p new
  last-first-put is put = rw (is, nest_last-first n x) put

  pub last-second-put : {p q : ℕ} {mid new : List ℕ} → above ≡ true → Put old at (2 ∷ term_laid x) p mid → Put mid p (term_laid (n + n + x)) q new
      → Put old at (nest_laid above n (x ∷ [])) q new
  last-second-put is first second = rw (is, nest_last-second n x) (put_then first second)

module _ (above : Bool) (n : ℕ) (to : List ℕ) (i b : ℕ) (filled : b ≤ length to) where
  -- the term at i, and those behind it
  pub nest_more : i + 1 < b → nest_laid above n (bytes_of to i b) ≡ next_laid above n (get_or to i 0) ++ nest_laid above n (bytes_of to (i + 1) b)
  nest_more less =
      let here = row_more to i b filled (omega arith) in
      let there = row_more to (i + 1) b filled less in
      ap (nest_laid above n) (here ∙ ap (λ (l : List ℕ). get_or to i 0 ∷ l) there) ∙ nest_next above n (get_or to i 0) (get_or to (i + 1) 0) (bytes_of to (i + 1 + 1) b)
      ∙ ap (λ (l : List ℕ). next_laid above n (get_or to i 0) ++ nest_laid above n l) (sym there)

  -- the last
  pub nest_one : i < b → b ≤ i + 1 → nest_laid above n (bytes_of to i b) ≡ nest_laid above n (get_or to i 0 ∷ [])
  nest_one less last = ap (nest_laid above n) (row_more to i b filled less ∙ ap (λ (l : List ℕ). get_or to i 0 ∷ l) (row-none to (i + 1) b filled last))

module _ (above : Bool) (n : ℕ) (to : List ℕ) (a b : ℕ) (filled : b ≤ length to) (rising : a ≤ b) where
  abbrev terms : List ℕ
  terms = bytes_of to a b

  rule-laid : rule_laid above n terms ≡ two_bytes (size_of above (b - a)) ++ ((1 ∷ []) ++ nest_laid above n terms)
  rule-laid = rule-is above n terms ∙ ap (λ (k : ℕ). two_bytes (size_of above k) ++ (1 ∷ nest_laid above n terms)) (row-long to a b filled rising)

  pub rule-room : length (rule_laid above n terms) ≡ 3 + length (nest_laid above n terms)
  unfolding two_bytes
  rule-room = omega (arith, ap length rule-laid)

  pub fail-room : a ≡ b → length (nest_laid above n terms) ≡ 1
  fail-room none = ap length (ap (nest_laid above n) (row-none to a b filled (omega arith)) ∙ nest_fail above n)

  module _ {old one two : List ℕ} {at p q : ℕ} (length-put : Put old at (two_bytes (size_of above (b - a))) p one) (code-Put : Put one p (1 ∷ []) q two) where
    pub rule-put_nest : {new : List ℕ} {r : ℕ} → Put two q (nest_laid above n terms) r new → Put old at (rule_laid above n terms) r new
    rule-put_nest nest = rw rule-laid (put_then length-put (put_then code-Put nest))

    pub rule-put-fail : {new : List ℕ} {r : ℕ} → a ≡ b → Put two q (3 ∷ []) r new → Put old at (rule_laid above n terms) r new
    rule-put-fail none fail =
        let is = ap (nest_laid above n) (row-none to a b filled (omega arith)) ∙ nest_fail above n in
        rule-put_nest (rw is fail)

-- the size that the code reckons
module _ (above : Bool) (k : ℕ) where
  pub size_none : k ≡ 0 → 2 ≡ size_of above k
  unfolding size_of
  size_none is = rw is (by above)
    where
      by : (above : Bool) → 2 ≡ size_of above 0
      by false = refl
      by true = refl

  pub size-first : (k ≡ 0 → ⊥) → above ≡ false → 4 * k ≡ size_of above k
  unfolding size_of
  size-first some is = rw is (by k some)
    where
      by : (k : ℕ) → (k ≡ 0 → ⊥) → 4 * k ≡ size_of false k
      by zero some = absurd (some refl)
      by (suc k) some = refl

  pub size-second : (k ≡ 0 → ⊥) → above ≡ true → 8 * k ≡ size_of above k
  unfolding size_of
  size-second some is = rw is (by k some)
    where
      by : (k : ℕ) → (k ≡ 0 → ⊥) → 8 * k ≡ size_of true k
      by zero some = absurd (some refl)
      by (suc k) some = refl
