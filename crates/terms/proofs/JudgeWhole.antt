-- The judge's three walks, put together, tell what the definition tells of a whole listing.
use mathlib.Core.Bool.{Bool, true, false}
use mathlib.Core.Path.{◌≡◌, refl, sym, ap, ◌∙◌}
use mathlib.Core.List.{List, [], ◌∷◌, ◌++◌}
use Prim.Native.Nat.{ℕ, zero, suc, ◌+◌, ◌-◌, ◌≤◌, ◌<◌}
use native.Mathlib.Omega.{arith}
use borrow.Author.Tests.{lt-ltb, ltb-false, eq-eqb, ne_eqb}
use lib.Dec.{ltb, eqb}
use lib.ListN.{length, get_or, take}
use lib.Seq.{take_all}
use Rattle.reading.specs.Reading.{Reading, got, refusal, ◌then◌, refuse◌at◌if◌else◌}
use Rattle.tagged.specs.Lines.{Name, Line, heading, broader, narrower, other, line_of, cut_short, lines_from, lines_of}
use Rattle.tagged.specs.Listing.{Relation, Lists, Broader, number_of, headings_of, is_heading, lists_of, mirrored, mirrored_from, broader_from, broader_in}
use Rattle.terms.specs.Judging.{good_lines, twice_from, mirror_in, unmirrored_from}
use Rattle.terms.proofs.JudgeParts.{relations_from, told, by_parts}
use Rattle.terms.proofs.MirrorParts.{Own, own, Behind, behind-heading, behind-bt, behind-nt, bt-under, nt-under, other-bad, mirrored-by, mirrored-known}

-- ---- 42

-- what is told: 42 at this line, if it is not 0, else these lists
abbrev told_mirrors : ℕ → Reading Lists → Reading Lists
told_mirrors (suc t) lists = refusal 42 (suc t)
told_mirrors zero lists = lists

module _ (l : Lists) (r : Relation) (rest : List Relation) (n : ℕ) where
  mirror_has : number_of r.name l.headings < length l.headings → mirrored l.headings l.relations r ≡ true → mirrored_from l (r ∷ rest) n ≡ mirrored_from l rest n
  unfolding mirrored_from refuse◌at◌if◌else◌
  mirror_has known is = rw (lt-ltb (number_of r.name l.headings) (length l.headings) known, is, mirrored_from, refuse◌at◌if◌else◌) refl

  mirror_unknown : is_heading r.name l.headings ≡ false → mirrored_from l (r ∷ rest) n ≡ refusal 42 r.line
  unfolding mirrored_from refuse◌at◌if◌else◌
  mirror_unknown e = rw (e, mirrored_from, refuse◌at◌if◌else◌) refl

  mirror_missing : is_heading r.name l.headings ≡ true → mirrored l.headings l.relations r ≡ false → mirrored_from l (r ∷ rest) n ≡ refusal 42 r.line
  unfolding mirrored_from refuse◌at◌if◌else◌
  mirror_missing e is = rw (e, is, mirrored_from, refuse◌at◌if◌else◌) refl

  mirror_lacks : mirrored l.headings l.relations r ≡ false → mirrored_from l (r ∷ rest) n ≡ refusal 42 r.line
  mirror_lacks is = by (is_heading r.name l.headings) refl
    where
      by : (t : Bool) → is_heading r.name l.headings ≡ t → mirrored_from l (r ∷ rest) n ≡ refusal 42 r.line
      by true e = mirror_missing e is
      by false e = mirror_unknown e

module _ (all : List Line) (so : Behind (headings_of all) 0 [] all) (own : Own (headings_of all)) where
  abbrev hs : List Name
  hs = headings_of all

  abbrev lists : Lists
  lists = record { headings = hs; relations = relations_from 0 1 all }

  abbrev MirrorsBy : ℕ → Name → ℕ → List Line → ℕ → Type 0
  MirrorsBy k g n ls last = mirrored_from lists (relations_from k n ls) last ≡ told_mirrors (unmirrored_from all g n ls) (got lists last)

  -- a BT or NT, in line n under the heading that number k is behind
  module _ (k n : ℕ) (g x : Name) (rest : List Line) (last : ℕ) (e : g ≡ get_or hs (k - 1) []) where
    abbrev bt : Relation
    bt = record { line = suc n; under = k - 1; is_broader = true; name = x }

    abbrev nt : Relation
    nt = record { line = suc n; under = k - 1; is_broader = false; name = x }

    has-bt : mirrored hs (relations_from 0 1 all) bt ≡ mirror_in g (broader x) [] all
    has-bt = rw e (mirrored-by hs own (suc n) (k - 1) true x 0 1 [] all so)

    has-nt : mirrored hs (relations_from 0 1 all) nt ≡ mirror_in g (narrower x) [] all
    has-nt = rw e (mirrored-by hs own (suc n) (k - 1) false x 0 1 [] all so)

    one-bt : MirrorsBy k g (suc (suc n)) rest last → MirrorsBy k g (suc n) (broader x ∷ rest) last
    unfolding relations_from unmirrored_from
    one-bt ih = by (mirror_in g (broader x) [] all) refl
      where
        by : (t : Bool) → mirror_in g (broader x) [] all ≡ t → MirrorsBy k g (suc n) (broader x ∷ rest) last
        by true f =
            let is = has-bt ∙ f in
            mirror_has lists bt (relations_from k (suc (suc n)) rest) last (mirrored-known hs bt 0 1 [] all so is) is ∙ ih ∙ rw (f, unmirrored_from) refl
        by false f = mirror_lacks lists bt (relations_from k (suc (suc n)) rest) last (has-bt ∙ f) ∙ rw (f, unmirrored_from) refl

    one-nt : MirrorsBy k g (suc (suc n)) rest last → MirrorsBy k g (suc n) (narrower x ∷ rest) last
    unfolding relations_from unmirrored_from
    one-nt ih = by (mirror_in g (narrower x) [] all) refl
      where
        by : (t : Bool) → mirror_in g (narrower x) [] all ≡ t → MirrorsBy k g (suc n) (narrower x ∷ rest) last
        by true f =
            let is = has-nt ∙ f in
            mirror_has lists nt (relations_from k (suc (suc n)) rest) last (mirrored-known hs nt 0 1 [] all so is) is ∙ ih ∙ rw (f, unmirrored_from) refl
        by false f = mirror_lacks lists nt (relations_from k (suc (suc n)) rest) last (has-nt ∙ f) ∙ rw (f, unmirrored_from) refl

  mirrors-by : (k n : ℕ) (g : Name) (ls : List Line) (last : ℕ) → Behind hs k g ls → MirrorsBy k g (suc n) ls last
  unfolding relations_from unmirrored_from mirrored_from
  mirrors-by k n g [] last here = refl
  mirrors-by k n g (heading x ∷ rest) last here = mirrors-by (suc k) (suc n) x rest last (behind-heading hs k g x rest here)
  mirrors-by k n g (broader x ∷ rest) last here =
      one-bt k n g x rest last (here.last (bt-under hs k g x rest here)) (mirrors-by k (suc n) g rest last (behind-bt hs k g x rest here))
  mirrors-by k n g (narrower x ∷ rest) last here =
      one-nt k n g x rest last (here.last (nt-under hs k g x rest here)) (mirrors-by k (suc n) g rest last (behind-nt hs k g x rest here))
  mirrors-by k n g (other ∷ rest) last here = other-bad hs k g rest here

-- ---- the whole

pub good-most : (k : ℕ) (ls : List Line) → good_lines k ls ≤ length ls
unfolding good_lines
good-most k [] = omega arith
good-most k (heading x ∷ rest) = omega (arith, good-most (suc k) rest)
good-most k (broader x ∷ rest) = by (eqb k 0) (good-most k rest)
  where
    by : (t : Bool) → good_lines k rest ≤ length rest → (elim t [ true ↦ 0 | false ↦ suc (good_lines k rest) ]) ≤ suc (length rest)
    by true ih = omega arith
    by false ih = omega arith
good-most k (narrower x ∷ rest) = by (eqb k 0) (good-most k rest)
  where
    by : (t : Bool) → good_lines k rest ≤ length rest → (elim t [ true ↦ 0 | false ↦ suc (good_lines k rest) ]) ≤ suc (length rest)
    by true ih = omega arith
    by false ih = omega arith
good-most k (other ∷ rest) = omega arith

pub rows-many : (l : Lists) (n x : ℕ) → length (broader_from l n x) ≡ n
unfolding broader_from
rows-many l zero x = refl
rows-many l (suc n) x = ap suc (rows-many l n (suc x))

pub judge-empty : (s : List ℕ) → length s ≡ 0 → broader_in s ≡ refusal 40 1
unfolding broader_in lists_of refuse◌at◌if◌else◌ ◌then◌
judge-empty s none = rw (eq-eqb (length s) 0 none) refl

module _ (s : List ℕ) (some : length s ≡ 0 → ⊥) where
  abbrev lines : List Line
  lines = lines_of s

  abbrev good : ℕ
  good = good_lines 0 lines

  abbrev twice : ℕ
  twice = twice_from [] 1 (take good lines)

  abbrev pub whole : Lists
  whole = record { headings = headings_of lines; relations = relations_from 0 1 lines }

  read : lists_of s ≡ told twice (ltb good (length lines)) (1 + good) (got whole (1 + length lines))
  unfolding lists_of refuse◌at◌if◌else◌
  read = rw (ne_eqb (length s) 0 some) (by_parts [] [] 0 refl 0 lines)

  abbrev After : Reading Lists → Reading Broader
  After lists = lists then λ l n. mirrored_from l l.relations n then λ l n. got (broader_from l (length l.headings) 0) n

  after : broader_in s ≡ After (lists_of s)
  unfolding broader_in
  after = refl

  told-twice : (t : ℕ) (b : Bool) (p : ℕ) (r : Reading Lists) → (t ≡ 0 → ⊥) → After (told t b p r) ≡ refusal 41 t
  unfolding ◌then◌
  told-twice zero b p r not-0 = absurd (not-0 refl)
  told-twice (suc t) b p r not-0 = refl

  pub judge-twice : (twice ≡ 0 → ⊥) → broader_in s ≡ refusal 41 twice
  judge-twice not-0 = after ∙ ap After read ∙ told-twice twice (ltb good (length lines)) (1 + good) (got whole (1 + length lines)) not-0

  module _ (once : twice ≡ 0) where
    told-bad : (t : ℕ) (b : Bool) (p : ℕ) (r : Reading Lists) → t ≡ 0 → b ≡ true → After (told t b p r) ≡ refusal 40 p
    unfolding ◌then◌
    told-bad zero true p r is bad = refl
    told-bad zero false p r is bad = absurd (let z : ◌≡◌ {A = ℕ} 0 1 = cc in omega arith)
    told-bad (suc t) b p r is bad = absurd (omega arith)

    pub judge-bad : ltb good (length lines) ≡ true → broader_in s ≡ refusal 40 (1 + good)
    judge-bad bad = after ∙ ap After read ∙ told-bad twice (ltb good (length lines)) (1 + good) (got whole (1 + length lines)) once bad

    module _ (none : ltb good (length lines) ≡ false) where
      all-good : good ≡ length lines
      all-good = omega (arith, ltb-false good (length lines) none, good-most 0 lines)

      its_own : Own (headings_of lines)
      its_own = own 0 lines (sym (ap (twice_from [] 1) (take_all good lines (omega (arith, all-good)))) ∙ once)

      start : Behind (headings_of lines) 0 [] lines
      start = record { few = omega arith; above = refl; last = λ some. absurd (omega arith); good = all-good }

      abbrev unmirrored : ℕ
      unmirrored = unmirrored_from lines [] 1 lines

      told-good : (t : ℕ) (b : Bool) (p : ℕ) (r : Reading Lists) → t ≡ 0 → b ≡ false → told t b p r ≡ r
      told-good zero false p r is bad = refl
      told-good zero true p r is bad = absurd (let z : ◌≡◌ {A = ℕ} 0 1 = cc in omega arith)
      told-good (suc t) b p r is bad = absurd (omega arith)

      abbrev Last : Reading Lists → Reading Broader
      Last lists = lists then λ l n. got (broader_from l (length l.headings) 0) n

      mirrors-told : broader_in s ≡ Last (told_mirrors unmirrored (got whole (1 + length lines)))
      unfolding ◌then◌
      mirrors-told =
          after
          ∙ ap After (read ∙ told-good twice (ltb good (length lines)) (1 + good) (got whole (1 + length lines)) once none)
          ∙ ap Last (mirrors-by lines start its_own 0 0 [] lines (1 + length lines) start)

      last_42 : (t : ℕ) (r : Reading Lists) → (t ≡ 0 → ⊥) → Last (told_mirrors t r) ≡ refusal 42 t
      unfolding ◌then◌
      last_42 zero r not-0 = absurd (not-0 refl)
      last_42 (suc t) r not-0 = refl

      pub judge_unmirrored : (unmirrored ≡ 0 → ⊥) → broader_in s ≡ refusal 42 unmirrored
      judge_unmirrored not-0 = mirrors-told ∙ last_42 unmirrored (got whole (1 + length lines)) not-0

      pub judge-good : unmirrored ≡ 0 → broader_in s ≡ got (broader_from whole (length (headings_of lines)) 0) (1 + length lines)
      unfolding ◌then◌
      judge-good is = mirrors-told ∙ ap (λ t. Last (told_mirrors t (got whole (1 + length lines)))) is

-- ---- no more lines than bytes, and one

cut-few : (begun : List ℕ) → length (cut_short begun) ≤ 1
unfolding cut_short
cut-few [] = omega arith
cut-few (b ∷ bs) = omega arith

lines_from-few : (begun xs : List ℕ) → length (lines_from begun xs) ≤ length xs + 1
unfolding lines_from
lines_from-few begun [] = cut-few begun
lines_from-few begun (b ∷ bs) = by (eqb b 10) (lines_from-few [] bs) (lines_from-few (begun ++ (b ∷ [])) bs)
  where
    by : (t : Bool) → length (lines_from [] bs) ≤ length bs + 1 → length (lines_from (begun ++ (b ∷ [])) bs) ≤ length bs + 1
        → length {A = Line} (elim t [ true ↦ line_of begun ∷ lines_from [] bs | false ↦ lines_from (begun ++ (b ∷ [])) bs ]) ≤ suc (length bs) + 1
    by true ih _ = omega arith
    by false _ ih = omega arith

pub lines_few : (s : List ℕ) → length (lines_of s) ≤ length s + 1
unfolding lines_of
lines_few s = lines_from-few [] s
