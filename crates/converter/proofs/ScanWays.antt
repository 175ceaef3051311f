-- The scan of the old book, step by step: one lemma for each way through the code.
use mathlib.Core.List.{List, [], ◌++◌}
use mathlib.Core.Path.{◌≡◌, refl, ap, ◌∙◌}
use Prim.Native.Nat.{ℕ, zero, suc, ◌+◌, ◌*◌, ◌-◌, ◌<◌, ◌≤◌}
use native.Mathlib.Numerals.{add-one}
use native.Mathlib.Omega.{arith}
use mathlib.Core.Bool.{true, false}
use borrow.Author.Tests.{lt-ltb, le-ltb}
use lib.Dec.{ltb}
use lib.ListN.{length, get_or, set, drop, length-drop, length-take}
use lib.Seq.{sets}
use Rattle.limits.specs.Sizes.{most_book_bytes}
use Rattle.reading.specs.Bytes.{big_endian, two_bytes}
use Rattle.reading.specs.Answer.{part_of}
use Rattle.writer.proofs.Putting.{front-put as length-put}
use Rattle.converter.specs.Written.{counted}
use Rattle.converter.specs.InCode.{SpotPut, Put}
use Rattle.converter.specs.Scan.{rule_at, spot_of, behind_of, front, spot_bytes, spot_behind, spots_in, spots, item_end, item_to, items_in, items}

-- a part has no more bytes than stand from its start on
pub part-short : (bs : List ℕ) (from to : ℕ) → length (part_of bs from to) ≤ length bs - from
part-short bs from to = omega (arith, length-take (to - from) (drop from bs), length-drop from bs)

-- ---- the version byte and the symbol part

pub front-put : (bs was part : List ℕ) {one two : List ℕ} → length bs ≤ most_book_bytes → part ≡ part_of bs 1 (3 + big_endian bs 1) → one ≡ set was 0 2
    → two ≡ sets one 1 part → Put (front bs) was 0 (2 + most_book_bytes) (1 + length part) two
unfolding front
front-put bs was part size same first second =
    rw (second, first, same) (record { behind = omega arith; near = omega (arith, part-short bs 1 (3 + big_endian bs 1)); put = λ fits. refl })

-- ---- what opens at p

module _ (bs ends : List ℕ) (p : ℕ) where
  -- what the code has to give, after the bytes of the spot were put at q
  abbrev pub SpotOf : List ℕ → ℕ → ℕ → ℕ → List ℕ → Type 0
  SpotOf was q old new is = SpotPut bs ends p (record { size = q; bytes = was }) old (record { size = new; bytes = is })

  pub exempt-put : (was : List ℕ) (q : ℕ) {one two : List ℕ} → get_or bs p 0 ≡ 0 → one ≡ set was q 1 → two ≡ set one (q + 1) 3 → SpotOf was q (p + 1) (q + 2) two
  unfolding spot_of behind_of
  exempt-put was q code first second = record { old = rw code; new = rw code; put = rw (code, second, first, add-one q) }

  pub rule-put : (was : List ℕ) (q : ℕ) (rule : List ℕ) {one two : List ℕ} → get_or bs p 0 ≡ 1 → rule ≡ rule_at bs ends p → one ≡ set was q 1
      → two ≡ sets one (q + 1) rule
      → SpotOf was q (p + 1 + length rule) (q + 1 + length rule) two
  unfolding spot_of behind_of
  rule-put was q rule code same first second =
      record { old = rw (code, same); new = rw (code, same) (omega arith); put = rw (code, second, first, same, add-one q) }

  pub branch-put : (was : List ℕ) (q : ℕ) {x : ℕ} {one two : List ℕ} → (get_or bs p 0 ≡ 0 → ⊥) → (get_or bs p 0 ≡ 1 → ⊥) → x ≡ get_or bs (p + 1) 0
      → one ≡ set was q 2 → two ≡ set one (q + 1) x
      → SpotOf was q (p + 2) (q + 2) two
  unfolding spot_of behind_of
  branch-put was q {x} {one} {two} some other same first second = by (get_or bs p 0) refl
    where
      by : (c : ℕ) → get_or bs p 0 ≡ c → SpotOf was q (p + 2) (q + 2) two
      by zero is = absurd (some is)
      by (suc zero) is = absurd (other is)
      by (suc (suc c)) is = record { old = rw is; new = rw is; put = rw (is, second, first, same, add-one q) }

  -- the scan goes on, no further than the old book goes, and at most two bytes are put for each that is passed
  pub record Onward : Type 0 where
    pub more : p < spot_behind bs ends p
    pub near : spot_behind bs ends p ≤ p + 2 + (length bs - (p + 1))
    pub few : length (spot_bytes bs ends p) + 2 * p ≤ 2 * spot_behind bs ends p

  pub onward : Onward
  unfolding spot_of behind_of
  onward = by (get_or bs p 0) refl
    where
      by : (c : ℕ) → get_or bs p 0 ≡ c → Onward
      by zero is = record { more = rw is (omega arith); near = rw is (omega arith); few = rw is (omega arith) }
      by (suc zero) is =
          let short = part-short bs (p + 1) (get_or ends p 0) in
          record { more = rw is (omega arith); near = rw is (omega arith); few = rw is (omega arith) }
      by (suc (suc c)) is = record { more = rw is (omega arith); near = rw is (omega arith); few = rw is (omega arith) }

-- ---- the trees of an item

module _ (bs ends : List ℕ) where
  -- any bound that is enough
  spots-any : (n m e p : ℕ) → e ≤ p + n → e ≤ p + m → spots_in bs ends n e p ≡ spots_in bs ends m e p
  unfolding spots_in
  spots-any zero zero e p h k = refl
  spots-any zero (suc m) e p h k = rw (spots_in, le-ltb p e (omega arith))
  spots-any (suc n) zero e p h k = rw (spots_in, le-ltb p e (omega arith))
  spots-any (suc n) (suc m) e p h k =
      let far = (onward bs ends p).more in
      ap (λ (rest : List ℕ). elim (ltb p e) [ false ↦ [] | true ↦ spot_bytes bs ends p ++ rest ])
      (spots-any n m e (spot_behind bs ends p) (omega arith) (omega arith))

  pub spots-none : (e p : ℕ) → e ≤ p → spots bs ends e p ≡ []
  unfolding spots_in
  spots-none e p h = spots-any (e - p) 0 e p (omega arith) (omega arith)

  pub spots-more : (e p : ℕ) → p < e → spots bs ends e p ≡ spot_bytes bs ends p ++ spots bs ends e (spot_behind bs ends p)
  unfolding spots_in
  spots-more e p h =
      let far = (onward bs ends p).more in
      spots-any (e - p) (suc (e - p)) e p (omega arith) (omega arith)
      ∙ rw (spots_in, lt-ltb p e h) (ap (◌++◌ (spot_bytes bs ends p))
      (spots-any (e - p) (e - spot_behind bs ends p) e (spot_behind bs ends p) (omega arith) (omega arith)))

  -- ---- the items

  items-any : (n m p : ℕ) → length bs ≤ p + n → length bs ≤ p + m → items_in bs ends n p ≡ items_in bs ends m p
  unfolding items_in
  items-any zero zero p h k = refl
  items-any zero (suc m) p h k = rw (items_in, le-ltb p (length bs) (omega arith))
  items-any (suc n) zero p h k = rw (items_in, le-ltb p (length bs) (omega arith))
  items-any (suc n) (suc m) p h k =
      let now = item_to bs ends (item_end bs ends p) p in
      ap (λ (rest : List ℕ). elim (ltb p (length bs)) [ false ↦ [] | true ↦ now ++ rest ]) (items-any n m (item_end bs ends p) (omega arith) (omega arith))

  pub items-none : (p : ℕ) → length bs ≤ p → items bs ends p ≡ []
  unfolding items_in
  items-none p h = items-any (length bs - p) 0 p (omega arith) (omega arith)

  pub items_more : (p : ℕ) → p < length bs → items bs ends p ≡ item_to bs ends (item_end bs ends p) p ++ items bs ends (item_end bs ends p)
  unfolding items_in
  items_more p h =
      let e = item_end bs ends p in
      items-any (length bs - p) (suc (length bs - p)) p (omega arith) (omega arith)
      ∙ rw (items_in, lt-ltb p (length bs) h) (ap (◌++◌ (item_to bs ends e p)) (items-any (length bs - p) (length bs - e) e (omega arith) (omega arith)))

-- ---- a length put in front of what it counts

-- where what it counts was put behind its place
pub counted-put : {was : List ℕ} {q most r : ℕ} {xs is : List ℕ} (js : List ℕ) → Put xs was (q + 2) most r is
    → (r - (q + 2) < 65536 → js ≡ sets is q (two_bytes (r - (q + 2)))) → Put (counted xs) was q most r js
unfolding counted two_bytes
counted-put {was} {q} {r = r} {xs = xs} {is = is} js first second = record {
  behind = omega (arith, first.behind);
  near = first.near;
  put = λ fits.
      let many : r - (q + 2) ≡ length xs = omega (arith, first.behind) in
      rw many at (length-put was q (r - (q + 2)) xs is js (first.put fits) (second (omega arith)));
}
