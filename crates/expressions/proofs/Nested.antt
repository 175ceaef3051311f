-- Shared parts that stand one directly in the other, read without a call for each: their codes inward, then the bodies outward.
use mathlib.Core.Path.{◌≡◌, refl, sym, ap, ◌∙◌}
use mathlib.Core.List.{List, [], ◌∷◌, ◌++◌}
use Prim.Native.Nat.{ℕ, zero, suc, pred, ◌+◌, ◌-◌, ◌*◌, ◌<◌, ◌≤◌}
use native.Mathlib.Nat.{sub-zero}
use native.Mathlib.Omega.{arith}
use native.Mathlib.Decide.{dec_lt}
use lib.ListN.{length, get_or, get_or-eq_default}
use Rattle.limits.specs.Sizes.{most_variables, last_sort}
use Rattle.reading.specs.Reading.{Reading, got, refusal, ◌then◌}
use Rattle.reading.specs.Bytes.{version_of}
use Rattle.reading.specs.Answer.{keeping}
use Rattle.symbols.specs.Symbols.{Symbols}
use Rattle.expressions.specs.Expressions.{Expr}
use Rattle.expressions.specs.ExpressionAt.{Left, ExprReader, left_of, shared_at, expr_at}
use Rattle.expressions.specs.Bodies.{body_with}
use Rattle.expressions.proofs.Ways.{shared-within, expr-is-shared, expr_onward}

-- a byte that is not 0 is there
pub is-there : (bs : List ℕ) (q : ℕ) → get_or bs q 0 ≡ 4 → q < length bs
is-there bs q is = by (dec_lt q (length bs))
  where
    by : Dec (q < length bs) → q < length bs
    by (yes h) = h
    by (no h) = absurd (omega (arith, get_or-eq_default bs 0 {n = q} (omega arith)))

module _ (bs : List ℕ) (base : ℕ) (S : Symbols) (e : ℕ) (vars : List ℕ) (sort left p : ℕ) where
  -- the sort asked for, so many firsts further in
  pub asked : ℕ → ℕ
  asked zero = sort
  asked (suc k) = get_or bs (p + 2 * k + 1) 0

  module _ (f : ℕ) where
    -- the body of the shared part that stands k firsts further in
    pub body : ℕ → Reading ℕ → Reading ℕ
    body k r = body_with (expr_at bs base S e (f - k) (vars ++ (asked (suc k) ∷ []))) (asked k) r

    -- the bodies of the k outermost, outward
    pub outward : ℕ → Reading ℕ → Reading ℕ
    outward zero r = r
    outward (suc k) r = outward k (body k r)

    -- what the code keeps of it all
    abbrev Whole : Reading ℕ
    Whole = keeping left_of (shared_at bs base S e (expr_at bs base S e f) vars sort left p)

    -- a refusal stays
    outward_refusal : (k c q : ℕ) → outward k (refusal c q) ≡ refusal c q
    unfolding outward body body_with ◌then◌
    outward_refusal zero c q = refl
    outward_refusal (suc k) c q = outward_refusal k c q

  -- a shared part stands at q, some firsts further in
  pub record Inward (q : ℕ) : Type 0 where
    pub count : ℕ
    pub place : q ≡ p + 2 * count
    pub whole : (f : ℕ) → e ≤ p + 1 + f → Whole f ≡ outward f count (keeping left_of (shared_at bs base S e (expr_at bs base S e (f - count)) vars (asked count) left q))

  -- what stands in one, at q, whose sort byte is in order like those around it, is to be read
  pub record Within (q : ℕ) : Type 0 where
    pub count : ℕ
    pub place : q ≡ p + 2 * count + 2
    pub whole : (f : ℕ) → e ≤ p + 1 + f → Whole f ≡ outward f (suc count) (keeping left_of (expr_at bs base S e (f - count) vars (asked (suc count)) left q))

  -- what stands in the k-th, k > 0, is read, and the bodies of it and of those around it are to be
  pub record Outward (k : ℕ) (r : Reading ℕ) : Type 0 where
    pub some : 0 < k
    pub whole : (f : ℕ) → e ≤ p + 1 + f → Whole f ≡ outward f k r
    pub onward : (v n : ℕ) → r ≡ got v n → p + 2 * k ≤ n
    pub inside : p + 2 * k ≤ e

  -- at first none is around it
  pub inward_none : Inward p
  unfolding outward asked
  inward_none = record { count = 0; place = omega arith; whole = λ f h. rw (sub-zero f) }

  -- what is refused at a shared part is refused
  pub inward_refused : {q c n : ℕ} → Inward q
      → ((expr : List ℕ → ExprReader) (s : ℕ) → refusal c n ≡ keeping left_of (shared_at bs base S e expr vars s left q))
      → (f : ℕ) → e ≤ p + 1 + f → refusal c n ≡ Whole f
  inward_refused {q} {c} {n} at refused f h =
      sym (at.whole f h ∙ ap (outward f at.count) (sym (refused (expr_at bs base S e (f - at.count)) (asked at.count))) ∙ outward_refusal f at.count c n)

  -- its sort byte is in order
  pub inward_within : {q t : ℕ} → Inward q → version_of bs ≡ 2 → length vars < most_variables → t ≡ get_or bs (q + 1) 0 → q + 2 ≤ e → t ≤ last_sort → Within (q + 2)
  unfolding outward body asked
  inward_within {q} {t} at second few byte there inside = record {
    count = at.count;
    place = omega (arith, at.place);
    whole = λ f h.
        let k = at.count in
        let named : t ≡ asked (suc k) = byte ∙ ap (λ (n : ℕ). get_or bs n 0) (omega (arith, at.place)) in
        at.whole f h ∙ ap (outward f k)
        (shared-within bs base S e (expr_at bs base S e (f - k)) vars (asked k) left q second few byte there inside
        ∙ ap (λ (s : ℕ). body_with (expr_at bs base S e (f - k) (vars ++ (s ∷ []))) (asked k) (keeping left_of (expr_at bs base S e (f - k) vars s left (q + 2)))) named);
  }

  -- what stands in it is a shared part again
  pub within_inward : {q : ℕ} → Within q → get_or bs q 0 ≡ 4 → q < e → Inward q
  within_inward {q} at is there = record {
    count = suc at.count;
    place = omega (arith, at.place);
    whole = λ f h.
        let k = at.count in
        let less : pred (f - k) ≡ f - suc k = omega arith in
        at.whole f h ∙ ap (λ (r : Reading (Left Expr)). outward f (suc k) (keeping left_of r))
        (expr-is-shared bs base S e vars (asked (suc k)) left q (f - k) (omega (arith, at.place)) there is
        ∙ ap (λ (n : ℕ). shared_at bs base S e (expr_at bs base S e n) vars (asked (suc k)) left q) less);
  }

  -- it is read
  pub within-read : {q k t : ℕ} {r : Reading ℕ} → Within q → q ≡ p + 2 * k → q ≤ e → t ≡ get_or bs (q - 1) 0
      → ((f : ℕ) → e ≤ q + f → r ≡ keeping left_of (expr_at bs base S e f vars t left q)) → Outward k r
  unfolding asked
  within-read {q} {k} {t} {r} at place inside byte read =
      let j = at.count in
      let deep : suc j ≡ k = omega (arith, at.place) in
      let named : t ≡ asked (suc j) = byte ∙ ap (λ (n : ℕ). get_or bs n 0) (omega (arith, at.place)) in
      record {
        some = omega arith;
        whole = λ f h.
            at.whole f h ∙ ap (outward f (suc j)) (sym (read (f - j) (omega (arith, at.place)) ∙ ap (λ (s : ℕ). keeping left_of (expr_at bs base S e (f - j) vars s left q)) named))
            ∙ ap (λ (n : ℕ). outward f n r) deep;
        onward = λ v n is. omega (arith, (expr_onward bs base S e vars t left q e (sym is ∙ read e (omega arith))).1);
        inside = omega arith;
      }

  -- what was refused behind it is refused
  pub outward_refused : {k c n : ℕ} → Outward k (refusal c n) → (f : ℕ) → e ≤ p + 1 + f → refusal c n ≡ Whole f
  outward_refused {k} {c} {n} at f h = sym (at.whole f h ∙ outward_refusal f k c n)

  -- what a body's reader gives at r, with so many nodes left, at whatever depth is enough
  abbrev Body : ℕ → ℕ → ℕ → ℕ → Reading ℕ → Type 0
  Body t s l r next = (f : ℕ) → e ≤ r + f → next ≡ keeping left_of (expr_at bs base S e f (vars ++ (t ∷ [])) s l r)

  -- one body further out
  pub outward_more : {n k t s l r : ℕ} {next : Reading ℕ} → Outward n (got l r) → n ≡ k + 1 → 0 < k → t ≡ get_or bs (p + 2 * k + 1) 0 → s ≡ get_or bs (p + 2 * k - 1) 0 → Body t s l r next → Outward k next
  unfolding outward body asked body_with ◌then◌
  outward_more {n} {k} {t} {s} {l} {r} {next} at further some first body-byte read = by k refl
    where
      by : (j : ℕ) → j ≡ k → Outward k next
      by zero is = absurd (omega arith)
      by (suc j) is =
          let one-more : n ≡ suc k = omega arith in
          let around : s ≡ asked k = body-byte ∙ ap (λ (n : ℕ). get_or bs n 0) (omega arith) ∙ ap asked is in
          record {
            some = some;
            whole = λ f h.
                at.whole f h ∙ ap (λ (m : ℕ). outward f m (got l r)) one-more
                ∙ ap (outward f k) (sym (read (f - k) (omega (arith, at.onward l r refl))
                ∙ ap (λ (x : ℕ). keeping left_of (expr_at bs base S e (f - k) (vars ++ (x ∷ [])) s l r)) first
                ∙ ap (λ (x : ℕ). keeping left_of (expr_at bs base S e (f - k) (vars ++ (asked (suc k) ∷ [])) x l r)) around));
            onward = λ v n at-n.
                let further = expr_onward bs base S e (vars ++ (t ∷ [])) s l r e (sym at-n ∙ read e (omega arith)) in
                omega (arith, at.onward l r refl, further.1);
            inside = omega (arith, at.inside);
          }

  -- the outermost
  pub outward_last : {k t l r : ℕ} {next : Reading ℕ} → Outward k (got l r) → k ≤ 1 → t ≡ get_or bs (p + 1) 0 → Body t sort l r next → (f : ℕ) → e ≤ p + 1 + f → next ≡ Whole f
  unfolding outward body asked body_with ◌then◌
  outward_last {k} {t} {l} {r} {next} at last byte read f h =
      let one : k ≡ 1 = omega (arith, at.some) in
      let named : t ≡ asked 1 = byte ∙ ap (λ (n : ℕ). get_or bs n 0) (omega arith) in
      read f (omega (arith, at.onward l r refl))
      ∙ sym (at.whole f h ∙ ap (λ (n : ℕ). outward f n (got l r)) one
      ∙ ap (λ (x : ℕ). body_with (expr_at bs base S e x (vars ++ (asked 1 ∷ []))) sort (got l r)) (sub-zero f)
      ∙ ap (λ (x : ℕ). keeping left_of (expr_at bs base S e f (vars ++ (x ∷ [])) sort l r)) (sym named))
