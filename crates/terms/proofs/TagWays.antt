-- Tags by places: the first five bytes of a line, and what the line is by them.
use mathlib.Core.Bool.{Bool, true, false, ◌&&◌, and-true}
use mathlib.Core.Path.{◌≡◌, refl, ap, ◌∙◌}
use mathlib.Core.List.{List, [], ◌∷◌}
use Prim.Native.Nat.{ℕ, suc, ◌+◌, ◌-◌, ◌≤◌, ◌<◌, min}
use native.Mathlib.Omega.{arith}
use borrow.Author.Tests.{eq-eqb, ne_eqb}
use lib.Dec.{eqb}
use lib.ListN.{length, get_or, take, drop, length-take, length-drop}
use Rattle.tagged.specs.Lines.{heading, broader, narrower, other, space, is_name, same, bt, nt, named, line_of}
use Rattle.terms.specs.Places.{bytes_of, tag_of}
use Rattle.terms.proofs.NameWays.{bytes-more}

-- ---- rows of other lengths are not the same

same-long : (xs ys : List ℕ) → same xs ys ≡ true → length xs ≡ length ys
unfolding same
same-long [] [] is = refl
same-long [] (y ∷ ys) is = absurd (let z : ◌≡◌ {A = ℕ} 0 1 = cc in omega arith)
same-long (x ∷ xs) [] is = absurd (let z : ◌≡◌ {A = ℕ} 0 1 = cc in omega arith)
same-long (x ∷ xs) (y ∷ ys) is = by (eqb x y) is (same-long xs ys)
  where
    by : (t : Bool) → (t && same xs ys) ≡ true → (same xs ys ≡ true → length xs ≡ length ys) → suc (length xs) ≡ suc (length ys)
    by true is rest = ap suc (rest is)
    by false is rest = absurd (let z : ◌≡◌ {A = ℕ} 0 1 = cc in omega arith)

module _ (s : List ℕ) (p to : ℕ) (fits : to ≤ length s) where
  width : length (take 5 (bytes_of s p to)) ≡ min 5 (min (to - p) (length s - p))
  width = length-take 5 (bytes_of s p to) ∙ ap (min 5) (length-take (to - p) (drop p s) ∙ ap (min (to - p)) (length-drop p s))

  -- where a tag stands there is room for it
  pub tag_long : (letter : ℕ) → same (take 5 (bytes_of s p to)) (tag_of letter) ≡ true → p + 5 ≤ to
  tag_long letter is = omega (arith, same-long (take 5 (bytes_of s p to)) (tag_of letter) is, width)

  -- too few bytes are no tag
  pub tag_short : (letter : ℕ) → to - p < 5 → same (take 5 (bytes_of s p to)) (tag_of letter) ≡ false
  tag_short letter few = by (same (take 5 (bytes_of s p to)) (tag_of letter)) refl
    where
      by : (t : Bool) → same (take 5 (bytes_of s p to)) (tag_of letter) ≡ t → same (take 5 (bytes_of s p to)) (tag_of letter) ≡ false
      by false is = is
      by true is = absurd (omega (arith, tag_long letter is))

  module _ (room : p + 5 ≤ to) where
    -- the first five bytes, and the others
    five : bytes_of s p to ≡ get_or s p 0 ∷ get_or s (p + 1) 0 ∷ get_or s (p + 2) 0 ∷ get_or s (p + 3) 0 ∷ get_or s (p + 4) 0 ∷ bytes_of s (p + 5) to
    five =
        let two : p + 1 + 1 ≡ p + 2 = omega arith in
        let three : p + 2 + 1 ≡ p + 3 = omega arith in
        let four : p + 3 + 1 ≡ p + 4 = omega arith in
        let last : p + 4 + 1 ≡ p + 5 = omega arith in
        bytes-more s p to (omega arith) (omega arith)
        ∙ ap (λ l. get_or s p 0 ∷ l) (bytes-more s (p + 1) to (omega arith) (omega arith) ∙ rw two
        (ap (λ l. get_or s (p + 1) 0 ∷ l) (bytes-more s (p + 2) to (omega arith) (omega arith) ∙ rw three
        (ap (λ l. get_or s (p + 2) 0 ∷ l) (bytes-more s (p + 3) to (omega arith) (omega arith) ∙ rw four
        (ap (λ l. get_or s (p + 3) 0 ∷ l) (bytes-more s (p + 4) to (omega arith) (omega arith) ∙ rw last refl)))))))

    -- so a tag is judged byte by byte
    pub tag_is : (letter : ℕ) → same (take 5 (bytes_of s p to)) (tag_of letter)
        ≡ (eqb (get_or s p 0) space && (eqb (get_or s (p + 1) 0) space && (eqb (get_or s (p + 2) 0) letter && (eqb (get_or s (p + 3) 0) 84 && (eqb (get_or s (p + 4) 0) space && true)))))
    unfolding same
    tag_is letter = ap (λ l. same (take 5 l) (tag_of letter)) five

    -- and the name stands behind it
    pub name-behind : drop 5 (bytes_of s p to) ≡ bytes_of s (p + 5) to
    name-behind = ap (drop 5) five

    -- the first byte that differs decides
    module _ (letter : ℕ) where
      abbrev Tag : Bool
      Tag = same (take 5 (bytes_of s p to)) (tag_of letter)

      pub tag_1 : (get_or s p 0 ≡ 32 → ⊥) → Tag ≡ false
      tag_1 d = tag_is letter ∙ rw (ne_eqb (get_or s p 0) space d) refl

      module _ (a : get_or s p 0 ≡ 32) where
        pub tag_2 : (get_or s (p + 1) 0 ≡ 32 → ⊥) → Tag ≡ false
        tag_2 d = tag_is letter ∙ rw (eq-eqb (get_or s p 0) space a, ne_eqb (get_or s (p + 1) 0) space d) refl

        module _ (b : get_or s (p + 1) 0 ≡ 32) where
          pub tag_3 : (get_or s (p + 2) 0 ≡ letter → ⊥) → Tag ≡ false
          tag_3 d = tag_is letter ∙ rw (eq-eqb (get_or s p 0) space a, eq-eqb (get_or s (p + 1) 0) space b, ne_eqb (get_or s (p + 2) 0) letter d) refl

          module _ (c : get_or s (p + 2) 0 ≡ letter) where
            pub tag_4 : (get_or s (p + 3) 0 ≡ 84 → ⊥) → Tag ≡ false
            tag_4 d = tag_is letter ∙ rw (eq-eqb (get_or s p 0) space a, eq-eqb (get_or s (p + 1) 0) space b, eq-eqb (get_or s (p + 2) 0) letter c, ne_eqb (get_or s (p + 3) 0) 84 d) refl

            pub tag_5 : get_or s (p + 3) 0 ≡ 84 → Tag ≡ eqb (get_or s (p + 4) 0) 32
            tag_5 d =
                tag_is letter
                ∙ rw (eq-eqb (get_or s p 0) space a, eq-eqb (get_or s (p + 1) 0) space b, eq-eqb (get_or s (p + 2) 0) letter c, eq-eqb (get_or s (p + 3) 0) 84 d)
                (and-true (eqb (get_or s (p + 4) 0) space))

-- ---- what a line is

module _ (bs : List ℕ) where
  module _ (is : same (take 5 bs) bt ≡ true) where
    pub line-broader : is_name (drop 5 bs) ≡ true → broader (drop 5 bs) ≡ line_of bs
    unfolding line_of named
    line-broader name = simp (line_of, is, named, name)

    pub line_no_broader : is_name (drop 5 bs) ≡ false → other ≡ line_of bs
    unfolding line_of named
    line_no_broader name = simp (line_of, is, named, name)

  module _ (differs : same (take 5 bs) bt ≡ false) where
    module _ (is : same (take 5 bs) nt ≡ true) where
      pub line-narrower : is_name (drop 5 bs) ≡ true → narrower (drop 5 bs) ≡ line_of bs
      unfolding line_of named
      line-narrower name = simp (line_of, differs, is, named, name)

      pub line_no_narrower : is_name (drop 5 bs) ≡ false → other ≡ line_of bs
      unfolding line_of named
      line_no_narrower name = simp (line_of, differs, is, named, name)

    module _ (differs' : same (take 5 bs) nt ≡ false) where
      pub line-heading : is_name bs ≡ true → heading bs ≡ line_of bs
      unfolding line_of named
      line-heading name = simp (line_of, differs, differs', named, name)

      pub line_other : is_name bs ≡ false → other ≡ line_of bs
      unfolding line_of named
      line_other name = simp (line_of, differs, differs', named, name)
