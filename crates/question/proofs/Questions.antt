-- Reading a question, one lemma for each way through the code.
use mathlib.Core.List.{List, []}
use mathlib.Core.Path.{◌≡◌, sym, ap, ◌∙◌}
use Prim.Native.Nat.{ℕ, ◌≤◌, ◌<◌}
use native.Mathlib.Nat.{sub-zero}
use native.Mathlib.Omega.{arith}
use borrow.Author.Tests.{lt-ltb, le-ltb, eq-eqb, ne_eqb}
use lib.Dec.{ltb, eqb}
use lib.ListN.{length, get_or, take, length-take}
use Rattle.limits.specs.Sizes.{most_question_bytes, last_sort}
use Rattle.reading.specs.Reading.{Reading, got, refusal, ◌then◌, refuse◌at◌if◌else◌}
use Rattle.reading.specs.Bytes.{byte_at, length_at}
use Rattle.reading.specs.Answer.{keeping, nothing, part_of}
use Rattle.reading.proofs.Good.{Good, good-got, then-good, unless, byte_good, length-good}
use Rattle.reading.proofs.Keeping.{kept-got, kept-refusal, then-got, then-refusal, passed, failed-test}
use Rattle.symbols.specs.Symbols.{Symbols}
use Rattle.expressions.specs.Expressions.{Expr}
use Rattle.expressions.specs.ExpressionAt.{Left, left_of, whole_at, whole_expr_at}
use Rattle.expressions.proofs.Parts.{whole_same}
use Rattle.book.specs.Admission.{question_opened, asked_at, read_question}

-- a refusal is kept as it is
refusal-kept : {A : Type 0} {r : Reading A} {c p : ℕ} → r ≡ refusal c p → refusal c p ≡ keeping nothing r
unfolding keeping
refusal-kept e = sym (ap (keeping nothing) e)

-- ---- size, version and length

module _ (bs : List ℕ) where
  -- the question has more bytes than it may have
  pub opened_too_long : most_question_bytes < length bs → refusal 11 0 ≡ question_opened bs
  unfolding question_opened
  opened_too_long l = sym (failed-test _ _ _ (lt-ltb most_question_bytes (length bs) l))

  module _ (fits : length bs ≤ most_question_bytes) where
    -- what comes behind the version byte
    abbrev behind-version : ℕ → ℕ → Reading ℕ
    behind-version version p = refuse◌at◌if◌else◌ 12 0 (eqb version 0) λ _. refuse◌at◌if◌else◌ 12 0 (ltb 2 version) λ _. length_at bs 10 (length bs) p

    -- reading goes on with the version byte
    short_enough : question_opened bs ≡ ◌then◌ (byte_at bs 10 (length bs) 0) behind-version
    unfolding question_opened
    short_enough = passed _ _ (le-ltb most_question_bytes (length bs) fits)

    -- there is no version byte
    pub opened-empty : {c p : ℕ} → refusal c p ≡ byte_at bs 10 (length bs) 0 → refusal c p ≡ question_opened bs
    opened-empty r = sym (short_enough ∙ then-refusal behind-version (sym r))

    module _ {version p : ℕ} (found : got version p ≡ byte_at bs 10 (length bs) 0) where
      -- it is of version 0
      pub opened-zero : version ≡ 0 → refusal 12 0 ≡ question_opened bs
      opened-zero none = sym (short_enough ∙ then-got behind-version (sym found) ∙ failed-test _ _ _ (eq-eqb version 0 none))

      module _ (some : version ≡ 0 → ⊥) where
        -- or one above 2
        pub opened-above : 2 < version → refusal 12 0 ≡ question_opened bs
        opened-above above = sym (short_enough ∙ then-got behind-version (sym found) ∙ passed _ _ (ne_eqb version 0 some) ∙ failed-test _ _ _ (lt-ltb 2 version above))

        -- it is of version 1 or 2: the answer is that of its length
        pub opened-length : {r : Reading ℕ} → version ≤ 2 → r ≡ length_at bs 10 (length bs) p → r ≡ question_opened bs
        opened-length edition r =
            r ∙ sym (short_enough ∙ then-got behind-version (sym found) ∙ passed _ _ (ne_eqb version 0 some) ∙ passed _ _ (le-ltb 2 version edition))

  -- the sort byte stands at place 3, and the end that the length gives lies in the question
  opened-good : Good (λ e p. (p ≡ 3) × (p ≤ e) × (e ≤ length bs)) (question_opened bs)
  unfolding question_opened
  opened-good = unless _ _ _ λ _ _. then-good (byte_good bs 10 (length bs) 0) λ version p there. unless _ _ _ λ _ _. unless _ _ _ λ _ _.
      rw there.1 (length-good bs 10 (length bs) 1)

-- ---- sort and expression

module _ (S : Symbols) (bs : List ℕ) (e q : ℕ) where
  abbrev asked : Reading Expr
  asked = asked_at S bs e q

  -- there is no sort byte
  pub asked-past : {c p : ℕ} → refusal c p ≡ byte_at bs 10 e q → refusal c p ≡ keeping nothing asked
  unfolding asked_at
  asked-past r = refusal-kept (then-refusal _ (sym r))

  module _ {v p sort : ℕ} (found : got v p ≡ byte_at bs 10 e q) (byte : sort ≡ get_or bs q 0) where
    -- the sort that the code takes is the one that was read
    same : v ≡ sort
    same = (good-got (byte_good bs 10 e q) (sym found)).0 ∙ sym byte

    -- there is no such sort
    pub asked_no_sort : last_sort < sort → refusal 13 q ≡ keeping nothing asked
    unfolding asked_at
    asked_no_sort l = refusal-kept (then-got _ (sym found) ∙ failed-test _ _ _ (lt-ltb last_sort v (omega (arith, same))))

    module _ (is-sort : sort ≤ last_sort) (inside : e ≤ length bs) where
      -- what comes behind the expression
      abbrev behind : Expr → ℕ → Reading Expr
      behind x r = refuse◌at◌if◌else◌ 11 r (ltb r e) λ _. refuse◌at◌if◌else◌ 11 r (ltb r (length bs)) λ _. got x r

      -- reading goes on with the expression
      sort-read : asked ≡ ◌then◌ (whole_expr_at bs 10 S e [] sort p) behind
      unfolding asked_at
      sort-read =
          then-got _ (sym found) ∙ passed _ _ (le-ltb last_sort v (omega (arith, same))) ∙ ap (λ (s : ℕ). ◌then◌ (whole_expr_at bs 10 S e [] s p) behind) same

      -- the expression as the code reads it, in the part of the question up to e
      abbrev in_part : Reading (Left Expr)
      in_part = whole_at (part_of bs 0 e) 10 S (length (part_of bs 0 e)) [] sort p

      -- it is read there as in the whole question
      in_whole : whole_at bs 10 S e [] sort p ≡ in_part
      in_whole =
          let size : length (take e bs) ≡ e = length-take e bs ∙ omega arith in
          rw (sub-zero e, size) (sym (whole_same bs 10 e S [] sort p))

      -- the expression is refused
      pub asked-refused : {c r : ℕ} → refusal c r ≡ keeping left_of in_part → refusal c r ≡ keeping nothing asked
      unfolding whole_expr_at
      asked-refused told = refusal-kept (sort-read ∙ then-refusal behind (then-refusal _ (in_whole ∙ kept-refusal left_of in_part told)))

      module _ {left r : ℕ} (told : got left r ≡ keeping left_of in_part) where
        -- an expression was read, and r is the place behind it
        expression_read : (x : Expr) × (asked ≡ behind x r)
        unfolding whole_expr_at
        expression_read =
            let x = kept-got left_of in_part told in
            (x.0.what, sort-read ∙ then-got behind (then-got _ (in_whole ∙ x.1)))

        -- something is left over of what the length counts
        pub asked-left-over : r < e → refusal 11 r ≡ keeping nothing asked
        asked-left-over l = refusal-kept (expression_read.1 ∙ failed-test _ _ _ (lt-ltb r e l))

        module _ (all : e ≤ r) where
          -- something is left over of the question
          pub question-left-over : r < length bs → refusal 11 r ≡ keeping nothing asked
          question-left-over l = refusal-kept (expression_read.1 ∙ passed _ _ (le-ltb r e all) ∙ failed-test _ _ _ (lt-ltb r (length bs) l))

          -- nothing is left over
          pub asked-read : length bs ≤ r → got 0 r ≡ keeping nothing asked
          unfolding keeping
          asked-read h = sym (ap (keeping nothing) (expression_read.1 ∙ passed _ _ (le-ltb r e all) ∙ passed _ _ (le-ltb r (length bs) h)))

-- ---- the whole question

module _ (S : Symbols) (bs : List ℕ) where
  -- it is not opened
  pub question_unopened : {c p : ℕ} → refusal c p ≡ question_opened bs → refusal c p ≡ keeping nothing (read_question S bs)
  unfolding read_question
  question_unopened r = refusal-kept (then-refusal _ (sym r))

  module _ {e p : ℕ} (opened : got e p ≡ question_opened bs) where
    -- what it opens ends in it
    pub question-inside : e ≤ length bs
    question-inside = (good-got (opened-good bs) (sym opened)).2

    -- the answer is that of what is asked
    pub question-asked : {r : Reading ℕ} → r ≡ keeping nothing (asked_at S bs e p) → r ≡ keeping nothing (read_question S bs)
    unfolding read_question
    question-asked answer = answer ∙ sym (ap (keeping nothing) (then-got _ (sym opened)))
