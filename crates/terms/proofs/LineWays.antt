-- Lines by places: what stands at a place, as a loop over the listing meets it.
use mathlib.Core.Bool.{Bool, true, false}
use mathlib.Core.Path.{◌≡◌, refl, ap, ◌∙◌}
use mathlib.Core.List.{List, [], ◌∷◌, ◌++◌, append_assoc, append-nil}
use Prim.Native.Nat.{ℕ, suc, ◌+◌, ◌-◌, ◌≤◌, ◌<◌}
use native.Mathlib.Omega.{arith}
use native.Mathlib.Numerals.{add-one}
use borrow.Author.Tests.{eq-eqb, ne_eqb, eqb-true, eqb-false}
use lib.Dec.{eqb}
use lib.ListN.{length, get_or, take, drop, length-drop, drop_of_length-le}
use lib.Seq.{drop-cons, drop-drop}
use Rattle.tagged.specs.Lines.{other, newline, line_of, cut_short, lines_from}
use Rattle.terms.specs.Places.{run_of, end_of, bytes_of}

-- ---- a run of bytes without a newline

run-newline : (b : ℕ) (bs : List ℕ) → b ≡ newline → run_of (b ∷ bs) ≡ 0
unfolding run_of
run-newline b bs is = rw (eq-eqb b newline is, run_of) refl

run-other : (b : ℕ) (bs : List ℕ) → (b ≡ newline → ⊥) → run_of (b ∷ bs) ≡ suc (run_of bs)
unfolding run_of
run-other b bs differs = rw (ne_eqb b newline differs, run_of) refl

module _ (s : List ℕ) (i : ℕ) where
  -- at a newline the line ends
  pub end-here : i < length s → get_or s i 0 ≡ newline → end_of s i ≡ i
  unfolding end_of
  end-here there is = rw (drop-cons s i 0 there) (omega (arith, run-newline (get_or s i 0) (drop (suc i) s) is))

  -- at another byte it goes on
  pub end_later : i < length s → (get_or s i 0 ≡ newline → ⊥) → end_of s i ≡ end_of s (i + 1)
  unfolding end_of
  end_later there differs = rw (drop-cons s i 0 there, add-one i) (omega (arith, run-other (get_or s i 0) (drop (suc i) s) differs))

  -- it ends here or later
  pub end_after : i ≤ end_of s i
  unfolding end_of
  end_after = omega arith

  -- behind the listing it has ended
  pub end-past : length s ≤ i → end_of s i ≡ i
  unfolding end_of run_of
  end-past over = rw (drop_of_length-le s over) (omega arith)

-- ---- the lines from here on

lines_newline : (begun : List ℕ) (b : ℕ) (bs : List ℕ) → eqb b newline ≡ true → lines_from begun (b ∷ bs) ≡ line_of begun ∷ lines_from [] bs
unfolding lines_from
lines_newline begun b bs is = rw (is, lines_from) refl

lines_other : (begun : List ℕ) (b : ℕ) (bs : List ℕ) → eqb b newline ≡ false → lines_from begun (b ∷ bs) ≡ lines_from (begun ++ (b ∷ [])) bs
unfolding lines_from
lines_other begun b bs is = rw (is, lines_from) refl

-- a line that a newline ends, and those behind it
abbrev Whole : List ℕ → ℕ → List ℕ → Type 0
Whole begun run xs = lines_from begun xs ≡ line_of (begun ++ take run xs) ∷ lines_from [] (drop (suc run) xs)

line-whole : (begun xs : List ℕ) → run_of xs < length xs → Whole begun (run_of xs) xs
line-whole begun [] some = absurd (omega arith)
line-whole begun (b ∷ bs) some = by (eqb b newline) refl (line-whole (begun ++ (b ∷ [])) bs)
  where
    by : (t : Bool) → eqb b newline ≡ t → (run_of bs < length bs → Whole (begun ++ (b ∷ [])) (run_of bs) bs) → Whole begun (run_of (b ∷ bs)) (b ∷ bs)
    by true is rest = rw (run-newline b bs (eqb-true b newline is), append-nil begun) (lines_newline begun b bs is)
    by false is rest =
        let long = run-other b bs (eqb-false b newline is) in
        let joined : (begun ++ (b ∷ [])) ++ take (run_of bs) bs ≡ begun ++ (b ∷ take (run_of bs) bs) = append_assoc begun (b ∷ []) (take (run_of bs) bs) in
        rw long (lines_other begun b bs is ∙ rest (omega arith) ∙ ap (λ l. line_of l ∷ lines_from [] (drop (suc (run_of bs)) bs)) joined)

-- one that none ends
line-cut : (begun xs : List ℕ) → length xs ≤ run_of xs → lines_from begun xs ≡ cut_short (begun ++ xs)
unfolding lines_from
line-cut begun [] over = rw append-nil refl
line-cut begun (b ∷ bs) over = by (eqb b newline) refl (line-cut (begun ++ (b ∷ [])) bs)
  where
    by : (t : Bool) → eqb b newline ≡ t → (length bs ≤ run_of bs → lines_from (begun ++ (b ∷ [])) bs ≡ cut_short ((begun ++ (b ∷ [])) ++ bs)) → lines_from begun (b ∷ bs) ≡ cut_short (begun ++ (b ∷ bs))
    by true is rest = absurd (omega (arith, run-newline b bs (eqb-true b newline is)))
    by false is rest =
        let long = run-other b bs (eqb-false b newline is) in
        lines_other begun b bs is ∙ rest (omega arith) ∙ ap cut_short (append_assoc begun (b ∷ []) bs)

module _ (s : List ℕ) (p : ℕ) where
  -- A LINE AT A PLACE, and the lines behind it.
  pub line-at : end_of s p < length s → lines_from [] (drop p s) ≡ line_of (bytes_of s p (end_of s p)) ∷ lines_from [] (drop (end_of s p + 1) s)
  unfolding end_of
  line-at inside =
      let run = run_of (drop p s) in
      let width : p + run - p ≡ run = omega arith in
      let next : p + run + 1 ≡ p + suc run = omega arith in
      rw (width, next) (line-whole [] (drop p s) (omega (arith, length-drop p s)) ∙ ap (λ l. line_of (take run (drop p s)) ∷ lines_from [] l) (drop-drop (suc run) p s))

  -- one that no newline ends
  pub line-cut-at : p < length s → length s ≤ end_of s p → lines_from [] (drop p s) ≡ other ∷ []
  unfolding end_of cut_short
  line-cut-at some over =
      line-cut [] (drop p s) (omega (arith, length-drop p s)) ∙ ap cut_short (drop-cons s p 0 some)

  -- behind the last
  pub lines_past : length s ≤ p → lines_from [] (drop p s) ≡ []
  unfolding lines_from cut_short
  lines_past over = rw (drop_of_length-le s over) refl
