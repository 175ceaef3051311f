-- Reading an expression: one lemma for each way through the code.
use mathlib.Core.Path.{◌≡◌, refl, sym, ap, ◌∙◌}
use mathlib.Core.Bool.{false, not}
use mathlib.Core.List.{List, [], ◌∷◌, ◌++◌}
use Prim.Native.Nat.{ℕ, zero, suc, pred, ◌+◌, ◌<◌, ◌≤◌}
use native.Mathlib.Nat.{add_assoc, sub-zero}
use native.Mathlib.Omega.{arith}
use borrow.Author.Tests.{leb-false, le-leb, lt-leb, lt-ltb, le-ltb, eq-eqb, ne_eqb}
use lib.Dec.{leb, ltb, eqb}
use lib.ListN.{length, get_or, take, drop}
use Rattle.limits.specs.Sizes.{most_variables, last_sort}
use Rattle.reading.specs.Reading.{Reading, got, refusal, ◌then◌, refuse◌at◌if◌else◌}
use Rattle.reading.specs.Bytes.{version_of, big_endian, byte_at, number_at}
use Rattle.reading.specs.Answer.{keeping, part_of}
use Rattle.reading.proofs.AtPlace.{byte_past, byte_got, number_past, number-got}
use Rattle.reading.proofs.Good.{Good, good, good-got, then-good, unless, number-good}
use Rattle.reading.proofs.Keeping.{kept-got, kept-refusal, then-got, then-refusal, passed, failed-test}
use Rattle.symbols.specs.Symbols.{Symbols, symbol_of}
use Rattle.symbols.specs.Table.{symbol_in, symbols_in}
use Rattle.symbols.proofs.Tables.{symbol-there, as_many}
use Rattle.expressions.specs.Expressions.{Expr, no_exprs, more_exprs}
use Rattle.expressions.specs.ExpressionAt.{Left, leaving, left_of, ExprReader, node_at, variable_at, row_with, choice_at, applied_at, apply_at, shared_at, code_at, expr_at}
use Rattle.expressions.specs.Bodies.{body_with}
use Rattle.expressions.proofs.Extents.{expr_extent}

-- what is made of what was read keeps the allowance
left-made : {A B : Type 0} (make : A → B) (r : Reading (Left A))
    → keeping left_of (◌then◌ r (λ x q. got (leaving x.left (make x.what)) q)) ≡ keeping left_of r
unfolding keeping ◌then◌
left-made make (got x q) = refl
left-made make (refusal c q) = refl

-- what is kept behind the same reading is the same
kept_then : {A B C : Type 0} (r : Reading A) (more : A → ℕ → Reading (Left B)) (other : A → ℕ → Reading (Left C))
    → ((a : A) (q : ℕ) → keeping left_of (more a q) ≡ keeping left_of (other a q)) → keeping left_of (◌then◌ r more) ≡ keeping left_of (◌then◌ r other)
unfolding keeping ◌then◌
kept_then (got a q) more other same = same a q
kept_then (refusal c q) more other same = refl

-- a choice leaves what a row of two of its sort leaves
choice-row : (expr : ExprReader) (sort left p : ℕ) → keeping left_of (choice_at expr sort left p) ≡ keeping left_of (row_with expr (sort ∷ sort ∷ []) left (p + 1))
unfolding choice_at row_with ◌then◌
choice-row expr sort left p = kept_then (expr sort left (p + 1)) _ _ λ a q.
    let second = expr sort a.left q in
    left-made (Expr.choice a.what) second ∙ sym (left-made (more_exprs a.what) (row_with expr (sort ∷ []) a.left q) ∙ left-made (λ x. more_exprs x no_exprs) second)

-- A row of which the first j are read.
module _ (expr : ExprReader) where
  -- no sorts are left, and no expressions
  pub row-none : (sorts : List ℕ) (j left p : ℕ) → length sorts ≤ j → got left p ≡ keeping left_of (row_with expr (drop j sorts) left p)
  unfolding row_with keeping
  row-none [] zero left p h = refl
  row-none [] (suc j) left p h = refl
  row-none (s ∷ sorts) zero left p h = absurd (omega arith)
  row-none (s ∷ sorts) (suc j) left p h = row-none sorts j left p (omega arith)

  -- the next expression is refused
  pub row-refused : (sorts : List ℕ) (j left p : ℕ) {c q : ℕ} → j < length sorts → refusal c q ≡ keeping left_of (expr (get_or sorts j 0) left p)
      → refusal c q ≡ keeping left_of (row_with expr (drop j sorts) left p)
  unfolding row_with keeping
  row-refused [] j left p some next = absurd (omega arith)
  row-refused (s ∷ sorts) zero left p some next = ap (keeping left_of) (sym (then-refusal _ (kept-refusal left_of (expr s left p) next)))
  row-refused (s ∷ sorts) (suc j) left p some next = row-refused sorts j left p (omega arith) next

  -- the next is read, and the others stand behind it
  pub row_more : (sorts : List ℕ) (j left p : ℕ) {v q : ℕ} → j < length sorts → got v q ≡ keeping left_of (expr (get_or sorts j 0) left p)
      → keeping left_of (row_with expr (drop j sorts) left p) ≡ keeping left_of (row_with expr (drop (suc j) sorts) v q)
  unfolding row_with
  row_more [] j left p some next = absurd (omega arith)
  row_more (s ∷ sorts) zero left p {v} {q} some next =
      let a = kept-got left_of (expr s left p) next in
      ap (keeping left_of) (then-got _ a.1) ∙ left-made (more_exprs a.0.what) (row_with expr sorts a.0.left q)
      ∙ ap (λ (l : ℕ). keeping left_of (row_with expr sorts l q)) (sym a.2)
  row_more (s ∷ sorts) (suc j) left p some next = row_more sorts j left p (omega arith) next

module _ (bs : List ℕ) (base e : ℕ) (vars : List ℕ) (sort left p : ℕ) where
  -- the item ends before the variable's byte
  pub variable-past : e < p + 2 → refusal (base + 1) e ≡ keeping left_of (variable_at bs base e vars sort left p)
  unfolding variable_at keeping ◌then◌
  variable-past h = simp (variable_at, sym (byte_past bs base e (p + 1) refl (omega arith)), ◌then◌, keeping)

  module _ {x : ℕ} (byte : x ≡ get_or bs (p + 1) 0) (there : p + 2 ≤ e) where
    -- its byte is there
    byte_found : byte_at bs base e (p + 1) ≡ got x (p + 2)
    byte_found = sym (byte_got bs base e (p + 1) byte (omega arith)) ∙ ap (got x) (add_assoc p 1 1)

    -- no such variable is bound
    pub variable_unbound : length vars ≤ x → refusal (base + 4) (p + 1) ≡ keeping left_of (variable_at bs base e vars sort left p)
    unfolding variable_at keeping ◌then◌ refuse◌at◌if◌else◌
    variable_unbound h = simp (variable_at, byte_found, ◌then◌, refuse◌at◌if◌else◌, le-leb (length vars) x, keeping)

    module _ (bound : x < length vars) where
      -- it is of another sort
      pub variable-other : (get_or vars x 0 ≡ sort → ⊥) → refusal (base + 5) p ≡ keeping left_of (variable_at bs base e vars sort left p)
      unfolding variable_at keeping ◌then◌ refuse◌at◌if◌else◌
      variable-other other = simp (variable_at, byte_found, ◌then◌, refuse◌at◌if◌else◌, lt-leb (length vars) x, ne_eqb (get_or vars x 0) sort, keeping)

      -- it is of the sort asked for
      pub variable-got : get_or vars x 0 ≡ sort → got left (p + 2) ≡ keeping left_of (variable_at bs base e vars sort left p)
      unfolding variable_at keeping ◌then◌ refuse◌at◌if◌else◌
      variable-got is = simp (variable_at, byte_found, ◌then◌, refuse◌at◌if◌else◌, lt-leb (length vars) x, eq-eqb (get_or vars x 0) sort, keeping)

module _ (book places bs : List ℕ) (base e sort p : ℕ) where
  -- the symbols that the table means
  abbrev symbols : Symbols
  symbols = symbols_in book places

  -- the symbol of an application, as the definitions read it
  abbrev Applied : Reading ℕ
  Applied = applied_at bs base symbols e sort p

  -- the item ends before the symbol's bytes
  pub applied-past : e < p + 3 → refusal (base + 1) e ≡ Applied
  unfolding applied_at
  applied-past h = sym (then-refusal _ (sym (number_past bs base e (p + 1) refl (omega arith))))

  module _ {f : ℕ} (number : f ≡ big_endian bs (p + 1)) (there : p + 3 ≤ e) where
    -- its number is there
    number-found : number_at bs base e (p + 1) ≡ got f (p + 3)
    number-found = sym (number-got bs base e (p + 1) number (omega arith)) ∙ ap (got f) (add_assoc p 1 2)

    -- there is no such symbol
    pub applied_absent : length places ≤ f → refusal (base + 4) (p + 1) ≡ Applied
    unfolding applied_at ◌then◌ refuse◌at◌if◌else◌
    applied_absent h = simp (applied_at, number-found, ◌then◌, refuse◌at◌if◌else◌, as_many, le-leb (length places) f)

    module _ {s : ℕ} (sorted : s ≡ (symbol_in book (get_or places f 0)).sort) (known : f < length places) where
      -- the code's sort is that of the symbol
      sort-found : (symbol_of symbols f).sort ≡ s
      sort-found = cc (symbol-there book places f known)

      -- it is of another sort
      pub applied-other : (s ≡ sort → ⊥) → refusal (base + 5) p ≡ Applied
      unfolding applied_at ◌then◌ refuse◌at◌if◌else◌
      applied-other other = simp (applied_at, number-found, ◌then◌, refuse◌at◌if◌else◌, as_many, lt-leb (length places) f, sort-found, ne_eqb s sort)

      -- it is of the sort asked for
      pub applied-got : s ≡ sort → got f (p + 3) ≡ Applied
      unfolding applied_at ◌then◌ refuse◌at◌if◌else◌
      applied-got is = simp (applied_at, number-found, ◌then◌, refuse◌at◌if◌else◌, as_many, lt-leb (length places) f, sort-found, eq-eqb s sort)

  -- a symbol that was read is in the table
  applied-known : Good (λ f q. f < length symbols) Applied
  unfolding applied_at
  applied-known = then-good (number-good bs base e (p + 1)) λ f q is. unless _ _ (leb (length symbols) f) λ _ t. unless _ _ _ λ _ _. good (leb-false (length symbols) f t)

  -- and its argument sorts are those that the book has at its place
  pub applied-arguments : {g q : ℕ} → got g q ≡ Applied → (symbol_in book (get_or places g 0)).arguments ≡ (symbol_of symbols g).arguments
  applied-arguments {g} is = cc (symbol-there book places g (omega (arith, good-got applied-known (sym is), as_many book places)))

-- its two bytes stand behind the code
pub applied-behind : (bs : List ℕ) (base : ℕ) (S : Symbols) (e sort p : ℕ) {g q : ℕ} → got g q ≡ applied_at bs base S e sort p → q ≡ p + 3
unfolding applied_at
applied-behind bs base S e sort p is = good-got behind (sym is)
  where
    behind : Good (λ f q. q ≡ p + 3) (applied_at bs base S e sort p)
    behind = then-good (number-good bs base e (p + 1)) λ f q at-q. unless _ _ _ λ _ _. unless _ _ _ λ _ _. good (omega (arith, at-q.1))

-- one node is taken of those left
node_taken : (base left p : ℕ) (more : ℕ → Reading (Left Expr)) {less : ℕ} → left ≡ less + 1 → node_at base left p more ≡ more less
unfolding node_at
node_taken base left p more {less} is =
    let taken : left ≡ suc less = omega arith in
    rw taken refl

-- the part of an array that holds the sorts of a body's variables
pub body_bound : (more vars : List ℕ) (t : ℕ) → take (length vars + 1) more ≡ vars ++ (t ∷ []) → part_of more 0 (length vars + 1) ≡ vars ++ (t ∷ [])
body_bound more vars t is = rw (sub-zero (length vars + 1)) is

-- what is kept of a shared part is what is kept of its body, behind what is kept of its first
kept_body : (t sort : ℕ) (first : Reading (Left Expr)) (expr : ExprReader)
    → keeping left_of (◌then◌ first λ a r. ◌then◌ (expr sort a.left r) λ b u. got (leaving b.left (Expr.shared t a.what b.what)) u)
    ≡ body_with expr sort (keeping left_of first)
unfolding keeping ◌then◌ body_with
kept_body t sort (got a q) expr = left-made (Expr.shared t a.what) (expr sort a.left q)
kept_body t sort (refusal c q) expr = refl

-- A shared part and its body, with the reader of what stands within.
module _ (bs : List ℕ) (base : ℕ) (S : Symbols) (e : ℕ) (expr : List ℕ → ExprReader) (vars : List ℕ) (sort left p : ℕ) where
  -- what the code keeps of it
  abbrev SharedKept : Reading ℕ
  SharedKept = keeping left_of (shared_at bs base S e expr vars sort left p)

  -- not in this edition
  pub shared-first-edition : (version_of bs ≡ 2 → ⊥) → refusal (base + 4) p ≡ SharedKept
  unfolding shared_at keeping
  shared-first-edition other = ap (keeping left_of) (sym (failed-test _ _ _ (ap not (ne_eqb (version_of bs) 2 other))))

  module _ (second : version_of bs ≡ 2) where
    -- the first clause is passed
    known : not (eqb (version_of bs) 2) ≡ false
    known = ap not (eq-eqb (version_of bs) 2 second)

    -- as many variables are bound as may be
    pub shared-many : most_variables ≤ length vars → refusal (base + 4) p ≡ SharedKept
    unfolding shared_at keeping
    shared-many many = ap (keeping left_of) (sym (passed _ _ known ∙ failed-test _ _ _ (le-leb most_variables (length vars) many)))

    module _ (few : length vars < most_variables) where
      -- the item ends before the sort byte
      pub shared-past : e < p + 2 → refusal (base + 1) e ≡ SharedKept
      unfolding shared_at keeping
      shared-past h =
          ap (keeping left_of) (sym (passed _ _ known ∙ passed _ _ (lt-leb most_variables (length vars) few) ∙ then-refusal _ (sym (byte_past bs base e (p + 1) refl (omega arith)))))

      module _ {t : ℕ} (byte : t ≡ get_or bs (p + 1) 0) (there : p + 2 ≤ e) where
        -- reading goes on behind the sort byte
        behind-sort : ℕ → ℕ → Reading (Left Expr)
        behind-sort s q =
            refuse◌at◌if◌else◌ (base + 3) (p + 1) (ltb last_sort s) λ _.
            ◌then◌ (expr vars s left q) λ a r. ◌then◌ (expr (vars ++ (s ∷ [])) sort a.left r) λ b u. got (leaving b.left (Expr.shared s a.what b.what)) u

        to-sort : shared_at bs base S e expr vars sort left p ≡ behind-sort t (p + 2)
        unfolding shared_at behind-sort
        to-sort = passed _ _ known ∙ passed _ _ (lt-leb most_variables (length vars) few) ∙ then-got _ (byte_found bs base e vars sort left p byte there)

        -- there is no such sort
        pub shared-sort : last_sort < t → refusal (base + 3) (p + 1) ≡ SharedKept
        unfolding keeping behind-sort
        shared-sort h = ap (keeping left_of) (sym (to-sort ∙ failed-test _ _ _ (lt-ltb last_sort t h)))

        module _ (inside : t ≤ last_sort) where
          -- it is read, and the body behind it, with one variable more
          pub shared-within : SharedKept ≡ body_with (expr (vars ++ (t ∷ []))) sort (keeping left_of (expr vars t left (p + 2)))
          unfolding behind-sort
          shared-within =
              ap (keeping left_of) (to-sort ∙ passed _ _ (le-ltb last_sort t inside)) ∙ kept_body t sort (expr vars t left (p + 2)) (expr (vars ++ (t ∷ [])))

module _ (bs : List ℕ) (base : ℕ) (S : Symbols) (e : ℕ) (vars : List ℕ) (sort left p : ℕ) where
  -- how reading goes on by the code that was found
  abbrev By : (List ℕ → ExprReader) → ℕ → Reading (Left Expr)
  By expr code = code_at bs base S e expr vars code sort left p

  -- no variable and no shared part, and an unknown code, or no node is left
  by-refused : (expr : List ℕ → ExprReader) (code : ℕ) → (code ≡ 0 → ⊥) → (code ≡ 4 → ⊥) → (code ≤ 3 → left ≡ 0) → By expr code ≡ refusal (base + 4) p
  unfolding code_at node_at
  by-refused expr zero h k none = absurd (h refl)
  by-refused expr (suc zero) h k none = rw (none (omega arith))
  by-refused expr (suc (suc zero)) h k none = rw (none (omega arith))
  by-refused expr (suc (suc (suc zero))) h k none = rw (none (omega arith))
  by-refused expr (suc (suc (suc (suc zero)))) h k none = absurd (k refl)
  by-refused expr (suc (suc (suc (suc (suc c))))) h k none = refl

  -- one level of the definition, which is deep enough
  unroll : (f : ℕ) → e ≤ p + f → expr_at bs base S e f vars sort left p ≡ ◌then◌ (byte_at bs base e p) (λ code _. By (expr_at bs base S e (pred f)) code)
  unfolding expr_at
  unroll zero h = sym (then-refusal _ (sym (byte_past bs base e p refl (omega arith))))
  unroll (suc f) h = refl

  module _ (f : ℕ) (deep : e ≤ p + f) where
    -- what the code keeps of the expression
    abbrev Kept : Reading ℕ
    Kept = keeping left_of (expr_at bs base S e f vars sort left p)

    -- the reader of what stands within
    abbrev within : List ℕ → ExprReader
    within = expr_at bs base S e (pred f)

    -- the item ends before the code
    pub expr-past : e ≤ p → refusal (base + 1) e ≡ Kept
    unfolding keeping
    expr-past h = sym (ap (keeping left_of) (unroll f deep ∙ then-refusal _ (sym (byte_past bs base e p refl h))))

    module _ (there : p < e) where
      -- further on it is deep enough one level deeper
      deeper : (q : ℕ) → p < q → e ≤ q + pred f
      deeper q onward = by f deep
        where
          by : (n : ℕ) → e ≤ p + n → e ≤ q + pred n
          by zero h = omega arith
          by (suc n) h = omega arith

      -- the code is there
      by_code : {code : ℕ} → get_or bs p 0 ≡ code → expr_at bs base S e f vars sort left p ≡ By within code
      by_code is = unroll f deep ∙ then-got _ (sym (byte_got bs base e p (sym is) there))

      -- a variable, by its own reader
      pub expr-variable : {r : Reading ℕ} → get_or bs p 0 ≡ 0 → r ≡ keeping left_of (variable_at bs base e vars sort left p) → r ≡ Kept
      unfolding code_at
      expr-variable is read = read ∙ ap (keeping left_of) (sym (by_code is))

      -- a shared part, by its own, at whatever depth is enough
      pub expr-shared : {r : Reading ℕ} → get_or bs p 0 ≡ 4
          → ((n : ℕ) → e ≤ p + 1 + n → r ≡ keeping left_of (shared_at bs base S e (expr_at bs base S e n) vars sort left p)) → r ≡ Kept
      unfolding code_at
      expr-shared is read = read (pred f) (deeper (p + 1) (omega arith)) ∙ ap (keeping left_of) (sym (by_code is))

      -- and the definition has it so, one level deeper
      pub expr-is-shared : get_or bs p 0 ≡ 4 → expr_at bs base S e f vars sort left p ≡ shared_at bs base S e within vars sort left p
      unfolding code_at
      expr-is-shared is = by_code is

      -- an unknown code, or no node is left
      pub expr-refused : (get_or bs p 0 ≡ 0 → ⊥) → (get_or bs p 0 ≡ 4 → ⊥) → (get_or bs p 0 ≤ 3 → left ≡ 0) → refusal (base + 4) p ≡ Kept
      unfolding keeping
      expr-refused h k none = ap (keeping left_of) (sym (by_code refl ∙ by-refused within (get_or bs p 0) h k none))

      module _ (less : ℕ) (some : left ≡ less + 1) where
        -- a failure is a node and no more
        pub expr-fail : get_or bs p 0 ≡ 3 → got less (p + 1) ≡ Kept
        unfolding code_at keeping
        expr-fail is = ap (keeping left_of) (sym (by_code is ∙ node_taken base left p _ some))

        -- a row further on that is read, at whatever depth is enough, is read one level deeper
        row_within : {r : Reading ℕ} (sorts : List ℕ) (q : ℕ) → p < q → ((n : ℕ) → e ≤ q + n → r ≡ keeping left_of (row_with (expr_at bs base S e n vars) sorts less q))
            → r ≡ keeping left_of (row_with (within vars) sorts less q)
        row_within sorts q onward row = row (pred f) (deeper q onward)

        -- a choice, by the row of its two sides
        pub expr-choice : {r : Reading ℕ} → get_or bs p 0 ≡ 2
            → ((n : ℕ) → e ≤ p + 1 + n → r ≡ keeping left_of (row_with (expr_at bs base S e n vars) (sort ∷ sort ∷ []) less (p + 1))) → r ≡ Kept
        unfolding code_at
        expr-choice is row =
            row_within (sort ∷ sort ∷ []) (p + 1) (omega arith) row
            ∙ sym (ap (keeping left_of) (by_code is ∙ node_taken base left p _ some) ∙ choice-row (within vars) sort less p)

        -- one level of the definition for an application
        apply_taken : get_or bs p 0 ≡ 1 → expr_at bs base S e f vars sort left p ≡ apply_at bs base S e (within vars) sort less p
        unfolding code_at
        apply_taken is = by_code is ∙ node_taken base left p _ some

        -- its symbol is refused
        pub expr-not-applied : {c q : ℕ} → get_or bs p 0 ≡ 1 → refusal c q ≡ applied_at bs base S e sort p → refusal c q ≡ Kept
        unfolding apply_at keeping
        expr-not-applied is applied = sym (ap (keeping left_of) (apply_taken is ∙ then-refusal _ (sym applied)))

        -- its symbol is read, and the row of its arguments behind it
        pub expr-applied : {r : Reading ℕ} {g q : ℕ} {sorts : List ℕ} → get_or bs p 0 ≡ 1 → got g q ≡ applied_at bs base S e sort p → sorts ≡ (symbol_of S g).arguments
            → ((n : ℕ) → e ≤ q + n → r ≡ keeping left_of (row_with (expr_at bs base S e n vars) sorts less q)) → r ≡ Kept
        unfolding apply_at
        expr-applied {g} {q} {sorts} is applied same row =
            let more = left-made (Expr.apply g) (row_with (within vars) (symbol_of S g).arguments less q) in
            let behind = applied-behind bs base S e sort p applied in
            row_within sorts q (omega arith) row ∙ rw same (sym (ap (keeping left_of) (apply_taken is ∙ then-got _ (sym applied)) ∙ more))

  -- reading goes on
  pub expr_onward : (f : ℕ) {v q : ℕ} → got v q ≡ keeping left_of (expr_at bs base S e f vars sort left p) → (v ≤ left) × (p ≤ q)
  expr_onward f {v} is =
      let a = kept-got left_of (expr_at bs base S e f vars sort left p) is in
      let extent = good-got (expr_extent bs base S e f vars sort left p) a.1 in
      let fewer : a.0.left ≤ left = extent.fewer in
      let size = extent.size in
      (omega (arith, a.2), omega arith)
