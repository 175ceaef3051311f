-- The first heading given twice, by pairs of lines: the definition's walk finds the first line that gives the heading of an earlier one.
use mathlib.Core.Bool.{Bool, true, false}
use mathlib.Core.Path.{◌≡◌, refl, sym, ap, ◌∙◌}
use mathlib.Core.List.{List, [], ◌∷◌, ◌++◌, append_assoc, append-nil}
use Prim.Native.Nat.{ℕ, zero, suc, ◌+◌, ◌-◌, ◌≤◌, ◌<◌}
use native.Mathlib.Omega.{arith}
use native.Mathlib.Decide.{dec_lt}
use borrow.Author.Tests.{lt-ltb, ltb-true}
use lib.Dec.{ltb, leb-suc-suc}
use lib.ListN.{length, get_or, take, drop, length-append, length-take, take-append-drop, get_or-append, get_or-eq_default}
use lib.Seq.{get_or-append_seam, get_or-take, drop-cons, length-take-le, take-take}
use Rattle.std.specs.Prelude.{Option, Some, None}
use Rattle.std.specs.Option.{option_or}
use Rattle.tagged.specs.Lines.{Name, Line, heading, broader, narrower, other, same, lines_of}
use Rattle.tagged.specs.Listing.{number_of, headings_of, is_heading}
use Rattle.terms.specs.Judging.{line_told, twice_from}
use Rattle.terms.specs.Blocks.{gives, gives_same, nth, Once, TwiceFirst, Begins, BestSoFar, Block, Known, KnownFirst, until_told, table_size}
use Rattle.terms.proofs.JudgeParts.{twice_found, twice-new}
use Rattle.terms.proofs.TwiceBlocks.{both_head, nth_past}

-- ---- one of the headings so far

-- some line of these gives the heading
abbrev Given : List Line → Line → Type 0
Given done l = (i : ℕ) × (i < length done) × (gives_same (get_or done i other) l ≡ true)

is-given : (x : Name) (done : List Line) → is_heading x (headings_of done) ≡ true → Given done (heading x)
unfolding headings_of number_of
is-given x [] is = absurd (omega (arith, ltb-true 0 0 is))
is-given x (heading y ∷ done) is = by (same x y) refl is (is-given x done)
  where
    by : (t : Bool) → same x y ≡ t → ltb (elim t [ true ↦ 0 | false ↦ suc (number_of x (headings_of done)) ]) (suc (length (headings_of done))) ≡ true
        → (is_heading x (headings_of done) ≡ true → Given done (heading x)) → Given (heading y ∷ done) (heading x)
    by true e is rest = (0, omega arith, e)
    by false e is rest =
        let g = rest (sym (leb-suc-suc (suc (number_of x (headings_of done))) (length (headings_of done))) ∙ is) in
        (suc g.0, omega (arith, g.1), g.2)
is-given x (broader y ∷ done) is = let g = is-given x done is in (suc g.0, omega (arith, g.1), g.2)
is-given x (narrower y ∷ done) is = let g = is-given x done is in (suc g.0, omega (arith, g.1), g.2)
is-given x (other ∷ done) is = let g = is-given x done is in (suc g.0, omega (arith, g.1), g.2)

given_is : (x : Name) (done : List Line) (i : ℕ) → i < length done → gives_same (get_or done i other) (heading x) ≡ true → is_heading x (headings_of done) ≡ true
unfolding headings_of number_of
given_is x [] i less is = absurd (omega arith)
given_is x (heading y ∷ done) zero less is = by (same x y) is
  where
    by : (t : Bool) → t ≡ true → ltb (elim t [ true ↦ 0 | false ↦ suc (number_of x (headings_of done)) ]) (suc (length (headings_of done))) ≡ true
    by true e = lt-ltb 0 (suc (length (headings_of done))) (omega arith)
    by false e = absurd (let z : ◌≡◌ {A = ℕ} 0 1 = cc in omega arith)
given_is x (heading y ∷ done) (suc i) less is = by (same x y) (given_is x done i (omega arith) is)
  where
    by : (t : Bool) → is_heading x (headings_of done) ≡ true → ltb (elim t [ true ↦ 0 | false ↦ suc (number_of x (headings_of done)) ]) (suc (length (headings_of done))) ≡ true
    by true rest = lt-ltb 0 (suc (length (headings_of done))) (omega arith)
    by false rest = leb-suc-suc (suc (number_of x (headings_of done))) (length (headings_of done)) ∙ rest
given_is x (broader y ∷ done) zero less is = absurd (let z : ◌≡◌ {A = ℕ} 0 1 = cc in omega arith)
given_is x (broader y ∷ done) (suc i) less is = given_is x done i (omega arith) is
given_is x (narrower y ∷ done) zero less is = absurd (let z : ◌≡◌ {A = ℕ} 0 1 = cc in omega arith)
given_is x (narrower y ∷ done) (suc i) less is = given_is x done i (omega arith) is
given_is x (other ∷ done) zero less is = absurd (let z : ◌≡◌ {A = ℕ} 0 1 = cc in omega arith)
given_is x (other ∷ done) (suc i) less is = given_is x done i (omega arith) is

-- ---- lines that give no heading twice are passed

headings-joined : (a b : List Line) → headings_of (a ++ b) ≡ headings_of a ++ headings_of b
unfolding headings_of
headings-joined [] b = refl
headings-joined (heading x ∷ a) b = ap (λ l. x ∷ l) (headings-joined a b)
headings-joined (broader x ∷ a) b = headings-joined a b
headings-joined (narrower x ∷ a) b = headings-joined a b
headings-joined (other ∷ a) b = headings-joined a b

-- no line of these gives the heading of an earlier one
abbrev OnceIn : List Line → Type 0
OnceIn ls = (i j : ℕ) → i < j → j < length ls → gives_same (get_or ls i other) (get_or ls j other) ≡ true → ⊥

abbrev Passes : List Line → ℕ → List Line → List Line → Type 0
Passes done n mid rest = twice_from (headings_of done) n (mid ++ rest) ≡ twice_from (headings_of (done ++ mid)) (n + length mid) rest

heading-one : (x : Name) → headings_of (heading x ∷ []) ≡ x ∷ []
unfolding headings_of
heading-one x = refl

passed : (done : List Line) (n : ℕ) (mid rest : List Line) → OnceIn (done ++ mid) → Passes done n mid rest
unfolding twice_from headings_of
passed done n [] rest once =
    let z : n + 0 ≡ n = omega arith in
    rw (append-nil done, z) refl
passed done n (l ∷ mid) rest once = one l once (passed (done ++ (l ∷ [])) (suc n) mid rest)
  where
    joined : (l : Line) → (done ++ (l ∷ [])) ++ mid ≡ done ++ (l ∷ mid)
    joined l = append_assoc done (l ∷ []) mid

    next : suc n + length mid ≡ n + suc (length mid)
    next = omega arith

    go : (l : Line) → OnceIn (done ++ (l ∷ mid)) → (OnceIn ((done ++ (l ∷ [])) ++ mid) → Passes (done ++ (l ∷ [])) (suc n) mid rest)
        → twice_from (headings_of (done ++ (l ∷ []))) (suc n) (mid ++ rest) ≡ twice_from (headings_of (done ++ (l ∷ mid))) (n + suc (length mid)) rest
    go l once ih = rw (joined l, next) at (ih (rw (joined l) once))

    own : (l : Line) → headings_of (done ++ (l ∷ [])) ≡ headings_of done ++ headings_of (l ∷ [])
    own l = headings-joined done (l ∷ [])

    own-heading : (x : Name) → headings_of (done ++ (heading x ∷ [])) ≡ headings_of done ++ (x ∷ [])
    own-heading x = own (heading x) ∙ ap (λ l. headings_of done ++ l) (heading-one x)

    one : (l : Line) → OnceIn (done ++ (l ∷ mid)) → (OnceIn ((done ++ (l ∷ [])) ++ mid) → Passes (done ++ (l ∷ [])) (suc n) mid rest) → Passes done n (l ∷ mid) rest
    one (heading x) once ih = by (is_heading x (headings_of done)) refl
      where
        by : (t : Bool) → is_heading x (headings_of done) ≡ t → Passes done n (heading x ∷ mid) rest
        by true e =
            let g = is-given x done e in
            absurd (once g.0 (length done) g.1 (omega (arith, length-append done (heading x ∷ mid)))
            (rw (get_or-append done (heading x ∷ mid) other g.0 g.1, get_or-append_seam done (heading x) mid other) g.2))
        by false e = twice-new (headings_of done) [] n x (mid ++ rest) e ∙ rw (own-heading x) at (go (heading x) once ih)
    one (broader x) once ih = rw (own (broader x) ∙ append-nil (headings_of done)) at (go (broader x) once ih)
    one (narrower x) once ih = rw (own (narrower x) ∙ append-nil (headings_of done)) at (go (narrower x) once ih)
    one other once ih = rw (own other ∙ append-nil (headings_of done)) at (go other once ih)

-- a line is told as it is
pub line-some : (t : ℕ) → 0 < t → Some t ≡ line_told t
line-some zero some = absurd (omega arith)
line-some (suc t) some = refl

pub line-zero : (t : ℕ) → None ≡ line_told t → t ≡ 0
line-zero zero is = refl
line-zero (suc t) is = absurd (let z : ◌≡◌ {A = ℕ} 0 1 = cc in omega arith)

pub line-never : (t : ℕ) (o : Option ℕ) → o ≡ line_told t → ((l : ℕ) → o ≡ Some l → ⊥) → t ≡ 0
line-never zero o is never = refl
line-never (suc t) o is never = absurd (never (suc t) is)

pub line-is : (t l : ℕ) → Some l ≡ line_told t → (l ≡ t) × (t ≡ 0 → ⊥)
line-is zero l is = absurd (let z : ◌≡◌ {A = ℕ} 0 1 = cc in omega arith)
line-is (suc t) l is = (let e : l ≡ suc t = cc in e, λ z. absurd (omega arith))

-- ---- the first of all

once_in : (s : List ℕ) (m : ℕ) → Once s 0 m → OnceIn (take m (lines_of s))
once_in s m once i j less high is =
    let few : j < m = omega (arith, length-take m (lines_of s)) in
    let a = get_or-take m (lines_of s) i other (omega arith) in
    let b = get_or-take m (lines_of s) j other few in
    once i j (omega arith) less few (rw (a, b) at is)

module _ (s : List ℕ) (lines : ℕ) where
  abbrev Told : ℕ → Type 0
  Told t = t ≡ twice_from [] 1 (take lines (lines_of s))

  never : Once s 0 lines → Told 0
  unfolding twice_from headings_of
  never once = sym (ap (twice_from [] 1) (sym (append-nil (take lines (lines_of s)))) ∙ passed [] 1 (take lines (lines_of s)) [] (once_in s lines once))

  first : (t : ℕ) → TwiceFirst s 0 lines t → Told t
  unfolding headings_of
  first t f =
      let ls = lines_of s in
      let m = t - 1 in
      let both = both_head (nth s f.old) (nth s m) f.again in
      let x = is-heading both.0 (nth s m) both.2 in
      let there : m < length ls = in_lines x.0 x.1 in
      let long : length (take lines ls) ≡ length (take lines ls) = refl in
      let room : m < length (take lines ls) = omega (arith, length-take lines ls, f.some, f.within) in
      let cut : take m (take lines ls) ≡ take m ls = take-take m lines ls (omega (arith, f.within)) in
      let here : drop m (take lines ls) ≡ heading x.0 ∷ drop (suc m) (take lines ls) =
      drop-cons (take lines ls) m other room ∙ ap (λ l. l ∷ drop (suc m) (take lines ls)) (get_or-take lines ls m other (omega (arith, f.within, f.some)) ∙ x.1) in
      let split : take lines ls ≡ take m ls ++ (heading x.0 ∷ drop (suc m) (take lines ls)) = sym (take-append-drop m (take lines ls)) ∙ rw (cut, here) refl in
      let wide : length (take m ls) ≡ m = length-take-le m ls (omega arith) in
      let past = passed [] 1 (take m ls) (heading x.0 ∷ drop (suc m) (take lines ls)) (once_in s m f.once) in
      let old : gives_same (get_or (take m ls) f.old other) (heading x.0) ≡ true = rw (get_or-take m ls f.old other f.before, ← x.1) f.again in
      let given = given_is x.0 (take m ls) f.old (omega (arith, f.before)) old in
      sym (ap (twice_from [] 1) split ∙ past ∙ twice_found (headings_of (take m ls)) [] (1 + length (take m ls)) x.0 (drop (suc m) (take lines ls)) given ∙ omega (arith, wide, f.some))
    where
      is-heading : (old : Name) (l : Line) → gives old l ≡ true → (x : Name) × (l ≡ heading x)
      is-heading old (heading x) is = (x, refl)
      is-heading old (broader x) is = absurd (let z : ◌≡◌ {A = ℕ} 0 1 = cc in omega arith)
      is-heading old (narrower x) is = absurd (let z : ◌≡◌ {A = ℕ} 0 1 = cc in omega arith)
      is-heading old other is = absurd (let z : ◌≡◌ {A = ℕ} 0 1 = cc in omega arith)

      in_lines : (x : Name) → nth s (t - 1) ≡ heading x → t - 1 < length (lines_of s)
      in_lines x is = by (dec_lt (t - 1) (length (lines_of s)))
        where
          by : Dec (t - 1 < length (lines_of s)) → t - 1 < length (lines_of s)
          by (yes less) = less
          by (no over) =
              let z : other ≡ heading x = sym (get_or-eq_default (lines_of s) other (omega arith)) ∙ is in
              absurd (let o : ◌≡◌ {A = ℕ} 0 1 = cc in omega arith)

  -- the same, by the line that is told
  abbrev pub ToldLine : Option ℕ → Type 0
  ToldLine t = t ≡ line_told (twice_from [] 1 (take lines (lines_of s)))

  never_told : Once s 0 lines → ToldLine None
  never_told once = ap line_told (never once)

  first_told : (t : ℕ) → TwiceFirst s 0 lines t → ToldLine (Some t)
  first_told t f = line-some t f.some ∙ ap line_told (first t f)

  -- ---- block by block

  pub best-start : BestSoFar s lines None 0
  best-start = λ i j less. absurd (omega arith)

  module _ (low until : ℕ) where
    -- none below `low` comes sooner
    older : (best : Option ℕ) → BestSoFar s lines best low → until ≡ until_told best lines
        → (i j : ℕ) → i < low → i < j → j < until → gives_same (nth s i) (nth s j) ≡ true → ⊥
    older None so is i j under less high = so i j under less (omega (arith, is))
    older (Some b) so is i j under less high = so.3 i j under less (omega (arith, is))

    not-later : (best : Option ℕ) → BestSoFar s lines best low → until ≡ until_told best lines → until ≤ lines
    not-later None so is = omega (arith, is)
    not-later (Some b) so is = omega (arith, is, so.1)

    module _ (best : Option ℕ) (so : BestSoFar s lines best low) (is : until ≡ until_told best lines) where
      joined : (m : ℕ) → m ≤ until → Once s low m → Once s 0 m
      joined m few once i j _ less high g = by (dec_lt i low)
        where
          by : Dec (i < low) → ⊥
          by (yes under) = older best so is i j under less (omega arith) g
          by (no over) = once i j (omega arith) less high g

      pub best-twice : (t : ℕ) → TwiceFirst s low until t → ToldLine (Some t)
      best-twice t f =
          first_told t
          (record {
            some = f.some;
            within = omega (arith, f.within, not-later best so is);
            old = f.old;
            before = f.before;
            again = f.again;
            once = joined (t - 1) (omega (arith, f.within)) f.once;
          })

      module _ (line : ℕ) (place before last : List ℕ) (block : Block s low (line - 1) place before last table_size) (on : low ≤ line - 1) where
        -- a heading of the block is known where it is given again
        again : (i j : ℕ) → low ≤ i → i < line - 1 → gives_same (nth s i) (nth s j) ≡ true → Known s place j
        again i j above less g =
            let both = both_head (nth s i) (nth s j) g in
            let k = block.all i above less both.0 both.1 in
            (k.0, k.1, rw k.2 both.2)

        none_below : (m : ℕ) → m ≤ until → ((j : ℕ) → line - 1 ≤ j → j < m → Known s place j → ⊥) → (i j : ℕ) → i < line - 1 → i < j → j < m → gives_same (nth s i) (nth s j) ≡ true → ⊥
        none_below m few unknown i j under less high g = by (dec_lt i low) (dec_lt j (line - 1))
          where
            by : Dec (i < low) → Dec (j < line - 1) → ⊥
            by (yes old) _ = older best so is i j old less (omega arith) g
            by (no not) (yes early) = block.once i j (omega arith) less early g
            by (no not) (no late) = unknown j (omega arith) high (again i j (omega arith) under g)

        pub known_found : (t : ℕ) → 0 < line → KnownFirst s place line until (Some t) → BestSoFar s lines (Some t) (line - 1)
        known_found t some known =
            let k = known.2 in
            let f = block.from k.0 k.1 in
            let old : (old : ℕ) × (old < t - 1) × (gives_same (nth s old) (nth s (t - 1)) ≡ true) = (f.0, omega (arith, f.1, known.1), rw f.2 k.2) in
            (omega (arith, some, known.1), omega (arith, known.0, not-later best so is), old, none_below (t - 1) (omega (arith, known.0)) known.3)

        pub known_none : KnownFirst s place line until None → (i j : ℕ) → i < line - 1 → i < j → j < until → gives_same (nth s i) (nth s j) ≡ true → ⊥
        known_none known = none_below until (omega arith) known

    pub best-end : (best : Option ℕ) → BestSoFar s lines best low → until ≡ until_told best lines → Once s low until → ToldLine best
    best-end None so is once =
        let e : until ≡ lines = is in
        never_told (rw e at (joined None so is until (omega arith) once))
    best-end (Some b) so is once =
        let e : until ≡ b - 1 = is in
        first_told b
        (record { some = so.0; within = so.1; old = so.2.0; before = so.2.1; again = so.2.2; once = rw e at (joined (Some b) so is until (omega arith) once) })

    module _ (line : ℕ) (place before last : List ℕ) (block : Block s low (line - 1) place before last table_size) (on : low ≤ line - 1) (some : 0 < line) where
      pub best-on : (best known : Option ℕ) → BestSoFar s lines best low → until ≡ until_told best lines
          → KnownFirst s place line until known → BestSoFar s lines (option_or known best) (line - 1)
      best-on best (Some t) so is known = known_found best so is line place before last block on t some known
      best-on None None so is known = λ i j under less high. known_none None so is line place before last block on known i j under less (omega (arith, is))
      best-on (Some b) None so is known =
          (so.0, so.1, so.2, λ i j under less high. known_none (Some b) so is line place before last block on known i j under less (omega (arith, is)))

pub once-end : (s : List ℕ) (p n : ℕ) → Begins s p n → length s ≤ p → (until : ℕ) → Once s (n - 1) until
once-end s p n b over until i j above less high g =
    let z : gives_same other (nth s j) ≡ true = sym (ap (λ l. gives_same l (nth s j)) (nth_past s p n b over i above)) ∙ g in
    let o : ◌≡◌ {A = ℕ} 0 1 = cc in
    omega arith

pub begins-first : (s : List ℕ) → Begins s 0 1
unfolding lines_of
begins-first s = record { stands = refl; some = omega arith; few = omega arith }

-- behind the last block
pub last-told : (s : List ℕ) (lines : ℕ) (best : Option ℕ) (p n : ℕ) → Begins s p n → BestSoFar s lines best (n - 1) → length s ≤ p
    → best ≡ line_told (twice_from [] 1 (take lines (lines_of s)))
last-told s lines best p n b so over = best-end s lines (n - 1) (until_told best lines) best so refl (once-end s p n b over (until_told best lines))
