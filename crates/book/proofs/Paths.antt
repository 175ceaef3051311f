-- The variables of a path: those branched on, and the variable of a branch, one lemma for each way through the code.
use mathlib.Core.Bool.{Bool, true, false}
use mathlib.Core.List.{List, [], ◌∷◌}
use mathlib.Core.Path.{◌≡◌, sym, ap, ◌∙◌}
use Prim.Native.Nat.{ℕ, ◌≤◌, ◌<◌}
use native.Mathlib.Decide.{ℕ_discrete}
use native.Mathlib.Omega.{arith}
use borrow.Author.Tests.{le-leb, lt-leb, eq-eqb, ne_eqb}
use lib.Dec.{leb}
use lib.ListN.{length, get_or, set, replicate, get_or-replicate}
use lib.Seq.{get_or-set_same, get_or-set_other}
use Rattle.limits.specs.Sizes.{most_variables}
use Rattle.reading.specs.Reading.{Reading, got, refusal, refuse◌at◌if◌else◌}
use Rattle.reading.specs.Bytes.{byte_at}
use Rattle.reading.proofs.Keeping.{then-got, then-refusal}
use Rattle.symbols.specs.Symbols.{Symbols, constructors_of}
use Rattle.book.specs.TreeAt.{is_in, binds_past, branched_at}

-- the flags say which variables were branched on
abbrev pub Flags : List Bool → List ℕ → Type 0
Flags flags done = (x : ℕ) → x < most_variables → is_in x done ≡ get_or flags x false

-- at first none was
pub flags_none : Flags (replicate most_variables false) []
unfolding is_in
flags_none x h = sym (get_or-replicate most_variables x false false h)

-- one more is
pub flags_more : (flags : List Bool) (done : List ℕ) (x : ℕ) → x < most_variables → length flags ≡ most_variables → Flags flags done → Flags (set flags x true) (x ∷ done)
unfolding is_in
flags_more flags done x h l is y hy = by (ℕ_discrete y x)
  where
    by : Dec (y ≡ x) → is_in y (x ∷ done) ≡ get_or (set flags x true) y false
    by (yes e) = simp (is_in, eq-eqb y x e) (sym (ap (λ (k : ℕ). get_or (set flags x true) k false) e ∙ get_or-set_same flags x true false (omega arith)))
    by (no n) = simp (is_in, ne_eqb y x n) (is y hy ∙ sym (get_or-set_other flags x y true false n))

module _ (bs : List ℕ) (S : Symbols) (sort e : ℕ) (vars done : List ℕ) (p : ℕ) where
  -- what the variable's tests come to, once its byte is read
  abbrev tested : ℕ → ℕ → Reading ℕ
  tested x q =
      refuse◌at◌if◌else◌ 4 p (leb (length vars) x) (λ _.
      refuse◌at◌if◌else◌ 4 p (is_in x done) (λ _.
      refuse◌at◌if◌else◌ 4 p (binds_past (length vars) (constructors_of (get_or vars x 0) S)) (λ _. got x q)))

  pub variable-missing : {c q : ℕ} → refusal c q ≡ byte_at bs 0 e p → refusal c q ≡ branched_at bs S sort e vars done p
  unfolding branched_at
  variable-missing r = sym (then-refusal _ (sym r))

  module _ {x q : ℕ} (r : got x q ≡ byte_at bs 0 e p) where
    by_tests : branched_at bs S sort e vars done p ≡ tested x q
    unfolding branched_at
    by_tests = then-got _ (sym r)

    pub not_there : length vars ≤ x → refusal 4 p ≡ branched_at bs S sort e vars done p
    unfolding refuse◌at◌if◌else◌
    not_there l = sym (by_tests ∙ simp (refuse◌at◌if◌else◌, le-leb _ _ l))

    module _ (l : x < length vars) where
      pub twice : is_in x done ≡ true → refusal 4 p ≡ branched_at bs S sort e vars done p
      unfolding refuse◌at◌if◌else◌
      twice t = sym (by_tests ∙ simp (refuse◌at◌if◌else◌, lt-leb _ _ l, t))

      module _ (t : is_in x done ≡ false) where
        pub past : binds_past (length vars) (constructors_of (get_or vars x 0) S) ≡ true → refusal 4 p ≡ branched_at bs S sort e vars done p
        unfolding refuse◌at◌if◌else◌
        past b = sym (by_tests ∙ simp (refuse◌at◌if◌else◌, lt-leb _ _ l, t, b))

        pub fits : binds_past (length vars) (constructors_of (get_or vars x 0) S) ≡ false → got x q ≡ branched_at bs S sort e vars done p
        unfolding refuse◌at◌if◌else◌
        fits b = sym (by_tests ∙ simp (refuse◌at◌if◌else◌, lt-leb _ _ l, t, b))
