-- Two rows that hold broader terms, by places; and numbers written over the front of a row.
use mathlib.Core.Path.{◌≡◌, refl, sym, ap, ◌∙◌}
use mathlib.Core.List.{List, [], ◌∷◌, ◌++◌, append_assoc, append-nil}
use Prim.Native.Nat.{ℕ, zero, suc, ◌+◌, ◌-◌, ◌≤◌, ◌<◌}
use native.Mathlib.Omega.{arith}
use native.Mathlib.Numerals.{add-one}
use native.Mathlib.Nat.{not-suc-le-zero}
use native.Mathlib.Decide.{dec_lt, ℕ_discrete}
use lib.ListN.{length, get_or, take, drop, set, replicate, take-append-drop, length-set, length-replicate, drop_of_length-le, get_or-eq_default}
use lib.Seq.{drop-cons, take-suc-set, drop-set-lt, drop-drop, length-take-le, get_or-set_same, get_or-set_other}
use Rattle.tagged.specs.Hops.{broader_of}
use Rattle.terms.specs.Places.{bytes_of}
use Rattle.terms.specs.TermRows.{broader_rows}
use Rattle.tagged.specs.Saved.{over}
use Rattle.circles.specs.Saving.{held, Holding}

-- ---- the terms between two places

pub terms-more : (to : List ℕ) (i e : ℕ) → i < e → e ≤ length to → bytes_of to i e ≡ get_or to i 0 ∷ bytes_of to (i + 1) e
terms-more to i e low within =
    let there : i < length to = omega arith in
    let less : e - i ≡ suc (e - suc i) = omega arith in
    rw (add-one, drop-cons to i 0 there, less) refl

pub terms-none : (to : List ℕ) (i e : ℕ) → e ≤ i → bytes_of to i e ≡ []
terms-none to i e le = let z : e - i ≡ 0 = omega arith in rw z refl

-- ---- the terms of a heading

pub held-length : (from to : List ℕ) (n x : ℕ) → length (broader_rows from to n x) ≡ n
unfolding broader_rows
held-length from to zero x = refl
held-length from to (suc n) x = ap suc (held-length from to n (suc x))

held_at : (from to : List ℕ) (n x y z : ℕ) → y < n → z ≡ x + y → get_or (broader_rows from to n x) y [] ≡ bytes_of to (get_or from z 0) (get_or from (suc z) 0)
unfolding broader_rows
held_at from to zero x y z low is = absurd (not-suc-le-zero low)
held_at from to (suc n) x zero z low is = let e : z ≡ x = omega arith in rw e refl
held_at from to (suc n) x (suc y) z low is = held_at from to n (suc x) y z (omega arith) (omega arith)

module _ (from to : List ℕ) (n : ℕ) (h : Holding from to n) where
  rises : (x y : ℕ) → x ≤ y → y ≤ n → get_or from x 0 ≤ get_or from y 0
  rises x zero le top = let e : x ≡ 0 = omega arith in rw e (omega arith)
  rises x (suc y) le top = by (dec_lt y x) (rises x y)
    where
      by : Dec (y < x) → (x ≤ y → y ≤ n → get_or from x 0 ≤ get_or from y 0) → get_or from x 0 ≤ get_or from (suc y) 0
      by (yes past) more = let e : x ≡ suc y = omega arith in rw e (omega arith)
      by (no under) more = omega (arith, more (omega arith) (omega arith), h.terms.rising y (omega arith))

  pub broader-at : (x : ℕ) → x < n → broader_of (held from to n) x ≡ bytes_of to (get_or from x 0) (get_or from (x + 1) 0)
  broader-at x low = rw add-one (held_at from to n 0 x x low (omega arith))

  pub broader-past : (x : ℕ) → n ≤ x → broader_of (held from to n) x ≡ []
  broader-past x high = get_or-eq_default (held from to n) [] {n = x} (omega (arith, held-length from to n 0))

  pub end_low : (x : ℕ) → x < n → get_or from (x + 1) 0 ≤ 2736
  end_low x low = rw add-one (h.terms.filled (suc x) low)

  pub end_in : (x : ℕ) → x < n → get_or from (x + 1) 0 ≤ length to
  end_in x low = omega (arith, end_low x low, h.places)

  pub term-low : (x i : ℕ) → x < n → i < get_or from (x + 1) 0 → get_or to i 0 < n
  term-low x i low less = h.terms.inside i (omega (arith, rises (x + 1) n (omega arith) (omega arith)))

-- ---- over the front of a row, one number after the other

-- the first numbers of the row, and what is still to come, are the whole; behind them the row is as it was
pub record Front (whole before row : List ℕ) (i : ℕ) (rest : List ℕ) : Type 0 where
  pub long : length row ≡ length before
  pub front : take i row ++ rest ≡ whole
  pub behind : drop i row ≡ drop i before

pub front-none : (whole row : List ℕ) → Front whole row row 0 whole
front-none whole row = record { long = refl; front = refl; behind = refl }

pub front-more : (whole before row : List ℕ) (i v : ℕ) (rest more : List ℕ) → i < length row → rest ≡ v ∷ more
    → Front whole before row i rest → Front whole before (set row i v) (i + 1) more
front-more whole before row i v rest more low is f = record {
  long = length-set row i v ∙ f.long;
  front = rw (add-one, take-suc-set row i v low) (append_assoc (take i row) (v ∷ []) more ∙ ap (◌++◌ (take i row)) (sym is) ∙ f.front);
  behind = drop-set-lt (i + 1) row i v (omega arith) ∙ sym (drop-drop 1 i row) ∙ ap (drop 1) f.behind ∙ drop-drop 1 i before;
}

pub front-all : (whole before row : List ℕ) (i : ℕ) → i ≤ length row → Front whole before row i [] → row ≡ over whole before
front-all whole before row i low f =
    let is : take i row ≡ whole = sym (append-nil (take i row)) ∙ f.front in
    let long : length whole ≡ i = ap length (sym is) ∙ length-take-le i row low in
    sym (take-append-drop i row) ∙ rw (is, f.behind, long) refl

-- the levels, one after the other
pub level_more : (levels own before row : List ℕ) (x : ℕ) → x < length levels → x < length row → get_or own x 0 ≡ get_or levels x 0
    → Front levels before row x (drop x levels) → Front levels before (set row x (get_or own x 0)) (x + 1) (drop (x + 1) levels)
level_more levels own before row x low there is f =
    front-more levels before row x (get_or own x 0) (drop x levels) (drop (x + 1) levels) there (rw (add-one, is) (drop-cons levels x 0 low)) f

pub level_all : (levels before row : List ℕ) (x : ℕ) → length levels ≤ x → x ≤ length row → Front levels before row x (drop x levels) → row ≡ over levels before
level_all levels before row x past low f = front-all levels before row x low (rw (drop_of_length-le levels past) at f)

-- ---- a row filled from the front

pub record Filled {A : Type 0} (f : ℕ → A) (none : A) (many : ℕ) (row : List A) (x : ℕ) : Type 0 where
  pub long : length row ≡ many
  pub done : (y : ℕ) → y < x → get_or row y none ≡ f y
  pub rest : (y : ℕ) → x ≤ y → get_or row y none ≡ none

pub all_none : {A : Type 0} (none : A) (m y : ℕ) → get_or (replicate m none) y none ≡ none
all_none none zero y = refl
all_none none (suc m) zero = refl
all_none none (suc m) (suc y) = all_none none m y

module _ {A : Type 0} (f : ℕ → A) (none : A) where
  pub fill_from : (m low : ℕ) → ((y : ℕ) → y < low → f y ≡ none) → Filled f none m (replicate m none) low
  fill_from m low before = record { long = length-replicate m none; done = λ y less. all_none none m y ∙ sym (before y less); rest = λ y le. all_none none m y }

  pub fill_none : (m : ℕ) → Filled f none m (replicate m none) 0
  fill_none m = fill_from m 0 (λ y less. absurd (not-suc-le-zero less))

  pub fill_more : (m : ℕ) (row : List A) (x : ℕ) (a : A) → x < m → a ≡ f x → Filled f none m row x → Filled f none m (set row x a) (x + 1)
  fill_more m row x a low is h = record {
    long = length-set row x a ∙ h.long;
    done = λ y less. at_y y less (ℕ_discrete y x);
    rest = λ y le. get_or-set_other row x y a none (λ e. omega arith) ∙ h.rest y (omega arith);
  }
    where
      at_y : (y : ℕ) → y < x + 1 → Dec (y ≡ x) → get_or (set row x a) y none ≡ f y
      at_y y less (yes e) = rw e (get_or-set_same row x a none (omega (arith, h.long)) ∙ is)
      at_y y less (no differs) = get_or-set_other row x y a none differs ∙ h.done y (omega arith)

  pub fill_all : (m : ℕ) (row : List A) (x : ℕ) → Filled f none m row x → ((y : ℕ) → x ≤ y → f y ≡ none) → (y : ℕ) → get_or row y none ≡ f y
  fill_all m row x h past y = by (dec_lt y x)
    where
      by : Dec (y < x) → get_or row y none ≡ f y
      by (yes low) = h.done y low
      by (no high) = h.rest y (omega arith) ∙ sym (past y (omega arith))
