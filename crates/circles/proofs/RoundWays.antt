-- Rounds of chains: one round more, a round that changes nothing, and rounds that never settle.
use mathlib.Core.Path.{◌≡◌, refl, sym, ap, ◌∙◌}
use mathlib.Core.Option.{Option, none, some}
use mathlib.Core.List.{List, [], ◌∷◌}
use Prim.Native.Nat.{ℕ, zero, suc, max, ◌+◌, ◌-◌, ◌≤◌, ◌<◌}
use native.Mathlib.Omega.{arith}
use native.Mathlib.Decide.{dec_lt}
use native.Mathlib.Numerals.{add-one}
use lib.ListN.{length, get_or, replicate, get_or-eq_default}
use Rattle.tagged.specs.Listing.{Broader}
use Rattle.tagged.specs.Hops.{broader_of, Hops, here, hop, HasCircle}
use Rattle.tagged.specs.Levels.{longest, chains, levels}
use Rattle.tagged.specs.Circle.{circle}
use Rattle.terms.specs.Places.{bytes_of}
use Rattle.terms.specs.TermRows.{most_headings}
use Rattle.circles.specs.Saving.{SameRow, RoundOf, Low}
use Rattle.tagged.proofs.Ways.{chain-short}
use Rattle.tagged.proofs.Levels.{longest-over, chains-none, chains-more, chain-there, chain-most}
use Rattle.tagged.proofs.FirstCircle.{told}
use Rattle.circles.proofs.SavingRows.{terms-more, terms-none, all_none}

-- ---- the longest, term by term

pub longest-more : (row to : List ℕ) (i e : ℕ) → i < e → e ≤ length to
    → longest row (bytes_of to i e) ≡ max (suc (get_or row (get_or to i 0) 0)) (longest row (bytes_of to (i + 1) e))
unfolding longest
longest-more row to i e low within = ap (longest row) (terms-more to i e low within)

pub longest-none : (row to : List ℕ) (i e : ℕ) → e ≤ i → longest row (bytes_of to i e) ≡ 0
unfolding longest
longest-none row to i e le = ap (longest row) (terms-none to i e le)

pub longest_nobody : (row bs : List ℕ) → bs ≡ [] → longest row bs ≡ 0
unfolding longest
longest_nobody row bs is = ap (longest row) is

longest-same : (a b bs : List ℕ) → SameRow a b → longest a bs ≡ longest b bs
unfolding longest
longest-same a b [] same = refl
longest-same a b (x ∷ bs) same = cc (same x, longest-same a b bs same)

longest-low : (row bs : List ℕ) (k : ℕ) → ((x : ℕ) → get_or row x 0 ≤ k) → longest row bs ≤ suc k
unfolding longest
longest-low row [] k low = omega arith
longest-low row (b ∷ bs) k low = omega (arith, low b, longest-low row bs k low)

module _ (broader : Broader) where
  abbrev n : ℕ
  n = length broader

  -- ---- one round

  pub chain-low : (k x : ℕ) → get_or (chains broader k) x 0 ≤ k
  chain-low zero x = omega (arith, chains-none broader x)
  chain-low (suc k) x = omega (arith, chains-more broader k x, longest-low (chains broader k) (broader_of broader x) k (chain-low k))

  chains-past : (k x : ℕ) → n ≤ x → get_or (chains broader k) x 0 ≡ 0
  unfolding longest
  chains-past zero x past = chains-none broader x
  chains-past (suc k) x past = chains-more broader k x ∙ ap (longest (chains broader k)) (get_or-eq_default broader [] {n = x} past)

  pub round-chains : (k : ℕ) (row next : List ℕ) → SameRow row (chains broader k) → RoundOf broader row next → SameRow next (chains broader (suc k))
  round-chains k row next same round x = round x ∙ longest-same row (chains broader k) (broader_of broader x) same ∙ sym (chains-more broader k x)

  -- ---- a round that changes nothing

  abbrev Settled : ℕ → Type 0
  Settled k = SameRow (chains broader (suc k)) (chains broader k)

  -- as the code sees it: two rows that are the same for n headings
  pub settled_rows : (k m : ℕ) (row next : List ℕ) → n ≡ m → SameRow row (chains broader k) → RoundOf broader row next
      → ((x : ℕ) → x < m → get_or next x 0 ≡ get_or row x 0) → Settled k
  settled_rows k m row next long same round alike x = by (dec_lt x n)
    where
      by : Dec (x < n) → get_or (chains broader (suc k)) x 0 ≡ get_or (chains broader k) x 0
      by (yes low) = sym (round-chains k row next same round x) ∙ alike x (omega arith) ∙ same x
      by (no past) = chains-past (suc k) x (omega arith) ∙ sym (chains-past k x (omega arith))

  pub rows_differ : (k : ℕ) (row next : List ℕ) → SameRow row (chains broader k) → RoundOf broader row next → (SameRow next row → ⊥) → Settled k → ⊥
  rows_differ k row next same round differ settled =
      differ (λ x. round-chains k row next same round x ∙ settled x ∙ sym (same x))

  -- each hop up is one less
  falls : (k : ℕ) → Settled k → {j x y : ℕ} → Hops broader j x y → j + get_or (chains broader k) y 0 ≤ get_or (chains broader k) x 0
  falls k same here = omega arith
  falls k same {x = x} (hop there more) = omega (arith, falls k same more, longest-over (chains broader k) there, chains-more broader k x, same x)

  no_circle : (k : ℕ) → Settled k → HasCircle broader → ⊥
  no_circle k same (x, (j, hops)) = omega (arith, falls k same hops)

  pub settled_clear : (k : ℕ) → Settled k → circle broader ≡ none
  settled_clear k same = by (circle broader) refl
    where
      by : (o : Option (List ℕ)) → circle broader ≡ o → o ≡ none
      by none is = refl
      by (some c) is = absurd (no_circle k same ((told broader).reported.1 (c, is)))

  stays : (k : ℕ) → Settled k → (m j : ℕ) → j ≡ m + k → SameRow (chains broader j) (chains broader k)
  stays k same zero j is x = let e : j ≡ k = omega arith in rw e refl
  stays k same (suc m) j is x =
      let e : j ≡ suc (m + k) = omega arith in
      rw e (chains-more broader (m + k) x
      ∙ longest-same (chains broader (m + k)) (chains broader k) (broader_of broader x) (stays k same m (m + k) refl)
      ∙ sym (chains-more broader k x) ∙ same x)

  pub settled_levels : (k : ℕ) → k ≤ n → Settled k → SameRow (chains broader k) (levels broader)
  unfolding levels
  settled_levels k le same x = sym (stays k same (n - k) n (omega arith) x)

  -- ---- rounds that never settle

  pub clear_settled : circle broader ≡ none → Settled n
  clear_settled is x =
      let (y, longer) = chain-there broader (suc n) x in
      let (z, long) = chain-there broader n x in
      omega (
        arith,
        chain-most broader n (get_or (chains broader (suc n)) x 0) longer (chain-short broader nobody (get_or (chains broader (suc n)) x 0) longer),
        chain-most broader (suc n) (get_or (chains broader n) x 0) long (omega (arith, chain-low n x)),
      )
    where
      nobody : HasCircle broader → ⊥
      nobody has = let (c, named) = (told broader).reported.0 has in let z : ◌≡◌ {A = ℕ} 0 1 = cc in omega arith

  -- ---- round by round

  -- the chains after k rounds, each of which changed something
  pub record Rounded (k : ℕ) (row : List ℕ) : Type 0 where
    pub same : SameRow row (chains broader k)
    pub changed : (j : ℕ) → k ≡ suc j → Settled j → ⊥

  pub rounded_none : (m : ℕ) → Rounded 0 (replicate m 0)
  rounded_none m = record { same = λ x. all_none 0 m x ∙ sym (chains-none broader x); changed = λ j is. absurd (omega arith) }

  pub rounded_low : (k : ℕ) (row : List ℕ) → Rounded k row → k ≤ most_headings → Low row
  rounded_low k row r le x = omega (arith, r.same x, chain-low k x)

  pub rounded_more : (k : ℕ) (row next : List ℕ) → Rounded k row → RoundOf broader row next → (SameRow next row → ⊥) → Rounded (k + 1) next
  rounded_more k row next r round differ = record {
    same = rw add-one (round-chains k row next r.same round);
    changed = λ j is settled. let e : j ≡ k = omega arith in rows_differ k row next r.same round differ (rw e at settled);
  }

  module _ (k m : ℕ) (row next : List ℕ) (long : n ≡ m) (r : Rounded k row) (round : RoundOf broader row next)
      (alike : (x : ℕ) → x < m → get_or next x 0 ≡ get_or row x 0) where
    pub rounded_clear : circle broader ≡ none
    rounded_clear = settled_clear k (settled_rows k m row next long r.same round alike)

    pub rounded_levels : k ≤ n → SameRow row (levels broader)
    rounded_levels le x = r.same x ∙ settled_levels k le (settled_rows k m row next long r.same round alike) x

  pub rounded_round : (k : ℕ) (row : List ℕ) → k ≡ n + 1 → Rounded k row → circle broader ≡ none → ⊥
  rounded_round k row is r clear = r.changed n (omega arith) (clear_settled clear)
