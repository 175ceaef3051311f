-- The rows of the trees of a book, both ways: a tree part laid out from rows that is read, is read as the trees that have these rows; and a tree part
-- that was read is laid out from the rows of its trees.
use mathlib.Core.Bool.{Bool, true, false}
use mathlib.Core.List.{List, [], ◌∷◌, ◌++◌, append_assoc, append-nil}
use mathlib.Core.Path.{◌≡◌, refl, sym, ap, ◌∙◌}
use Prim.Native.Nat.{ℕ, zero, suc, ◌+◌, ◌≤◌, ◌<◌}
use native.Mathlib.Omega.{arith}
use borrow.Author.Tests.{leb-false, ltb-true, ltb-false}
use lib.Dec.{leb, ltb}
use lib.ListN.{length, get_or, take, drop, length-drop, length-append, length-take, take-append-drop, drop_of_length-le}
use lib.Seq.{take-append_seam, drop-append_seam, drop-drop}
use Rattle.limits.specs.Sizes.{most_variables, most_book_bytes}
use Rattle.reading.specs.Reading.{Reading, got}
use Rattle.reading.specs.Bytes.{version_of, big_endian, two_bytes, length_at}
use Rattle.reading.proofs.Good.{Good, good, refused, good-got, then-good, both, unless, byte_good, number-good}
use Rattle.symbols.specs.Symbols.{Symbol, Symbols, constructors_of}
use Rattle.book.specs.Trees.{Tree, Trees}
use Rattle.book.specs.TreeAt.{binds_past, trees_with, branched_at, branch_at, tree_code_at, tree_in, item_at, trees_of, tree_part}
use Rattle.book.specs.Reader.{FewArguments}
use Rattle.book.proofs.TreeExtents.{tree_extent}
use Rattle.writer.specs.Rows.{tree_numbers, case_numbers, tree_row, tree_rows, rows_from, rows_in}
use Rattle.writer.specs.Layout.{arities_of, code, variable, due, behind_tree, behind_code, behind, number_bytes, numbers_bytes, tree_row_bytes, past_every_book, item_bytes, items_bytes, part_bytes, tree_part_bytes}
use Rattle.writer.specs.Exact.{Bytes}
use Rattle.writer.proofs.Splitting.{row}
use Rattle.writer.proofs.Leftover.{item-missing, item-whole, item-length, items_more}
use Rattle.writer.proofs.ExprRows.{Laid, Narrow, laid_none, laid_then, two_back, two-laid, NumbersAt, byte_laid, whole_reads}

-- ---- a tree

-- what the first constructor of a branch binds, and the others
binds-first : (bound : ℕ) (sorts : List ℕ) (rows : List (List ℕ)) → binds_past bound (sorts ∷ rows) ≡ false
    → (bound + length sorts ≤ most_variables) × (binds_past bound rows ≡ false)
unfolding binds_past
binds-first bound sorts rows = by (ltb most_variables (bound + length sorts)) refl
  where
    by : (t : Bool) → ltb most_variables (bound + length sorts) ≡ t → elim t [ true ↦ true | false ↦ binds_past bound rows ] ≡ false
        → (bound + length sorts ≤ most_variables) × (binds_past bound rows ≡ false)
    by true past none = absurd (let z : ◌≡◌ {A = ℕ} 0 1 = cc in omega arith)
    by false past none = (ltb-false _ _ past, none)

module _ (S : Symbols) (bs : List ℕ) (first : version_of bs ≡ 1) (sort e : ℕ) (fits : e ≤ length bs) where
  -- between p and q stand the numbers of a tree, or of trees
  abbrev TreesAt : ℕ → ℕ → List ℕ → Type 0
  TreesAt p q xs = Laid S bs (NumbersAt S bs e p (due code 0)) (NumbersAt S bs e q (due code 0)) xs

  -- whatever the reader reads, with few variables bound, has its numbers there
  abbrev Reads : (List ℕ → List ℕ → ℕ → Reading Tree) → Type 0
  Reads tree = (vars done : List ℕ) → Narrow S vars → (p : ℕ) → Good (λ t q. TreesAt p q (tree_numbers t)) (tree vars done p)

  -- the trees of a branch
  cases-read : (bound : ℕ) (tree : List ℕ → ℕ → Reading Tree)
      → ((sorts : List ℕ) → bound + length sorts ≤ most_variables → (p : ℕ) → Good (λ t q. TreesAt p q (tree_numbers t)) (tree sorts p))
      → (rows : List (List ℕ)) → binds_past bound rows ≡ false → (p : ℕ) → Good (λ ts q. TreesAt p q (case_numbers ts)) (trees_with bs S sort e tree rows p)
  unfolding trees_with case_numbers
  cases-read bound tree reads [] few p = good {a = Trees.no_trees} laid_none
  cases-read bound tree reads (sorts ∷ rows) few p =
      let binds = binds-first bound sorts rows few in
      then-good (reads sorts binds.0 p) λ t q first.
      then-good (cases-read bound tree reads rows binds.1 q) λ ts r others.
      good (laid_then first others)

  -- a tree's code, and what it asks for behind it
  tree_code : (p c : ℕ) → p < e → c ≡ get_or bs p 0 → c < 3 → Laid S bs (NumbersAt S bs e p (due code 0)) (NumbersAt S bs e (p + 1) (behind_tree c)) (c ∷ [])
  unfolding behind behind_code number_bytes
  tree_code p c there read known = byte_laid S bs e fits (due code 0) p c there read (λ k. refl) (λ few. omega arith)

  -- the variable of a branch, whose constructors bind no more than can be bound
  branched_reads : (vars done : List ℕ) → Narrow S vars → (p : ℕ)
      → Good (λ x q. Laid S bs (NumbersAt S bs e p (due variable 0)) (NumbersAt S bs e q (due code 0)) (x ∷ []) × (binds_past (length vars) (constructors_of (get_or vars x 0) S) ≡ false))
      (branched_at bs S sort e vars done p)
  unfolding branched_at behind number_bytes
  branched_reads vars done narrow p =
      then-good (byte_good bs 0 e p) λ x q is. unless _ _ (leb (length vars) x) λ _ known. unless _ _ _ λ _ _. unless _ _ _ λ _ few.
      good (rw is.1 (byte_laid S bs e fits (due variable 0) p x (omega arith) is.0 (λ k. refl) (λ few. omega (arith, narrow few, leb-false (length vars) x known))), few)

  -- a tree, by its code
  code_reads : (tree : List ℕ → List ℕ → ℕ → Reading Tree) → Reads tree → (c : ℕ) (vars done : List ℕ) → Narrow S vars → (p : ℕ)
      → p < e → c ≡ get_or bs p 0 → Good (λ t q. TreesAt p q (tree_numbers t)) (tree_code_at bs S sort e tree c vars done p)
  unfolding tree_code_at branch_at tree_numbers behind_tree
  code_reads tree reads zero vars done narrow p there read = unless _ _ _ λ _ _. good {a = Tree.exempt} (tree_code p 0 there read (omega arith))
  code_reads tree reads (suc zero) vars done narrow p there read =
      then-good (whole_reads S bs e fits first vars narrow sort (p + 1)) λ x q is. good (laid_then (tree_code p 1 there read (omega arith)) is)
  code_reads tree reads (suc (suc zero)) vars done narrow p there read =
      then-good (branched_reads vars done narrow (p + 1)) λ x q is.
      then-good (cases-read (length vars) _ (λ sorts few r. reads (vars ++ sorts) (x ∷ done) (λ _. simp length-append few) r) (constructors_of (get_or vars x 0) S) is.1 q) λ ts r row.
      good (laid_then (tree_code p 2 there read (omega arith)) (laid_then is.0 row))
  code_reads tree reads (suc (suc (suc c))) vars done narrow p there read = refused

  -- a tree
  tree_reads : (depth : ℕ) → Reads (tree_in bs S sort e depth)
  unfolding tree_in
  tree_reads zero vars done narrow p = refused
  tree_reads (suc depth) vars done narrow p =
      then-good (byte_good bs 0 e p) λ c q is. code_reads (tree_in bs S sort e depth) (tree_reads depth) c vars done narrow p (omega arith) is.0

-- ---- the row of a tree

-- the bytes of all rows
abbrev rows_bytes : List ℕ → List ℕ → List ℕ
rows_bytes ar ns = items_bytes ar (rows_in ns)

-- only no rows have none
some-row : (ar ns : List ℕ) → rows_bytes ar ns ≡ [] → ns ≡ []
some-row ar [] none = refl
some-row ar (n ∷ ns) none =
    let first = row n (take n ns) in
    absurd (omega (arith, ap length (sym (items_more ar n ns) ∙ none), item-length ar first, length-append (item_bytes ar first) (rows_bytes ar (drop n ns))))

-- only no numbers have no bytes
no_bytes : (ar : List ℕ) (ns : List ℕ) → length (tree_row_bytes ar ns) ≡ 0 → ns ≡ []
unfolding tree_row_bytes numbers_bytes number_bytes
no_bytes ar [] none = refl
no_bytes ar (n ∷ ns) none = absurd (omega arith)

-- from p on stand the bytes of these rows, and nothing behind them
abbrev RowsAt : Symbols → List ℕ → ℕ → List ℕ → Type 0
RowsAt S bs p ns = drop p bs ≡ rows_bytes (arities_of S) ns

module _ (S : Symbols) (bs : List ℕ) (p item : ℕ) (size : length bs ≤ most_book_bytes) (fits : item ≤ length bs) (ends : item ≡ p + 2 + big_endian bs p) (xs : List ℕ)
    (tree : Laid S bs (NumbersAt S bs item (p + 2) (due code 0)) (NumbersAt S bs item item (due code 0)) xs) where
  abbrev ar : List ℕ
  ar = arities_of S

  -- the bytes of a whole row are read as its numbers
  whole_back : FewArguments S → (row others : List ℕ) → drop p bs ≡ two_bytes (length (tree_row_bytes ar row)) ++ tree_row_bytes ar row ++ rows_bytes ar others
      → (row ≡ xs) × RowsAt S bs item others
  unfolding tree_row_bytes numbers_bytes
  whole_back few row others at =
      let bytes = tree_row_bytes ar row in
      let two = two_back bs p (omega arith) (length bytes) (bytes ++ rows_bytes ar others) (at ∙ append_assoc (two_bytes (length bytes)) bytes (rows_bytes ar others)) in
      let behind-it : drop item bs ≡ rows_bytes ar others =
      rw (ends, two.0) (sym (drop-drop (length bytes) (p + 2) bs) ∙ ap (drop (length bytes)) two.1 ∙ drop-append_seam bytes (rows_bytes ar others)) in
      let read = tree.back few row (two.1 ∙ ap (◌++◌ bytes) (sym behind-it)) in
      let none : read.0 ≡ [] = no_bytes ar read.0 (omega (arith, ap length read.2, length-append (tree_row_bytes ar read.0) (drop item bs))) in
      (read.1 ∙ ap (◌++◌ xs) none ∙ append-nil xs, behind-it)

  -- so the rows open with its own
  row_back : FewArguments S → (ns : List ℕ) → RowsAt S bs p ns → (more : List ℕ) × (ns ≡ length xs ∷ (xs ++ more)) × RowsAt S bs item more
  unfolding rows_in rows_from items_bytes
  row_back few [] at = absurd (omega (arith, ap length at, length-drop p bs))
  row_back few (n ∷ ns) at = by (ltb (length (take n ns)) n) refl
    where
      opened : drop p bs ≡ item_bytes ar (row n (take n ns)) ++ rows_bytes ar (drop n ns)
      opened = at ∙ items_more ar n ns

      by : (short : Bool) → ltb (length (take n ns)) n ≡ short → (more : List ℕ) × (n ∷ ns ≡ length xs ∷ (xs ++ more)) × RowsAt S bs item more
      by true short =
          let bytes = tree_row_bytes ar (take n ns) in
          let two = two_back bs p (omega arith) past_every_book (bytes ++ rows_bytes ar (drop n ns))
          ((rw (item-missing ar (row n (take n ns)) past_every_book (ltb-true _ _ short) refl) at opened) ∙ append_assoc (two_bytes past_every_book) bytes (rows_bytes ar (drop n ns))) in
          absurd (omega (arith, two.0))
      by false whole =
          let read = whole_back few (take n ns) (drop n ns) (rw (item-whole ar (row n (take n ns)) _ (ltb-false _ _ whole) refl) at opened) in
          let all : n ≡ length xs = omega (arith, ltb-false (length (take n ns)) n whole, length-take n ns, ap length read.0) in
          let split : ns ≡ xs ++ drop n ns = sym (take-append-drop n ns) ∙ ap (λ row. row ++ drop n ns) read.0 in
          (drop n ns, cc, read.1)

  -- and the rows behind it stand behind its own
  row_laid_lem : Bytes bs → (more : List ℕ) → RowsAt S bs item more → RowsAt S bs p (length xs ∷ (xs ++ more))
  unfolding tree_row_bytes numbers_bytes
  row_laid_lem bytes more at =
      let own : drop (p + 2) bs ≡ tree_row_bytes ar xs ++ drop item bs = rw append-nil at (tree.laid bytes [] refl) in
      let long : big_endian bs p ≡ length (tree_row_bytes ar xs) =
      omega (arith, ap length own, length-append (tree_row_bytes ar xs) (drop item bs), length-drop (p + 2) bs, length-drop item bs) in
      let own_row : item_bytes ar (row (length xs) xs) ≡ two_bytes (big_endian bs p) ++ tree_row_bytes ar xs = item-whole ar (row (length xs) xs) (big_endian bs p) (omega arith) long in
      two-laid bs p (omega arith) bytes
      ∙ ap (◌++◌ (two_bytes (big_endian bs p))) (own ∙ ap (◌++◌ (tree_row_bytes ar xs)) at)
      ∙ sym (append_assoc (two_bytes (big_endian bs p)) (tree_row_bytes ar xs) (rows_bytes ar more))
      ∙ ap (λ bytes. bytes ++ rows_bytes ar more) (sym own_row)
      ∙ rw (items_more ar (length xs) (xs ++ more), take-append_seam xs more, drop-append_seam xs more) refl

-- ---- all rows

-- a constructor has no row
no_row : (x : Symbol) (rest : Symbols) (ts : Trees) → x.is_operation ≡ false → tree_rows (x ∷ rest) (Trees.more_trees Tree.exempt ts) ≡ tree_rows rest ts
unfolding tree_rows
no_row x rest ts constructor = rw constructor refl

-- an operation has its tree's
its-row : (x : Symbol) (rest : Symbols) (t : Tree) (ts : Trees) → x.is_operation ≡ true → tree_rows (x ∷ rest) (Trees.more_trees t ts) ≡ tree_row t ++ tree_rows rest ts
unfolding tree_rows
its-row x rest t ts operation = rw operation refl

-- a length that is read, and the end that it gives
length_reads : (bs : List ℕ) (e p : ℕ) → Good (λ end q. (end ≡ p + 2 + big_endian bs p) × (q ≡ p + 2) × (end ≤ e)) (length_at bs 0 e p)
unfolding length_at
length_reads bs e p = then-good (number-good bs 0 e p) λ n q is. unless _ _ (ltb e (q + n)) λ _ inside. good (omega arith, is.1, ltb-false e (q + n) inside)

module _ (S : Symbols) (bs : List ℕ) (edition : version_of bs ≡ 1) (size : length bs ≤ most_book_bytes) (e : ℕ) (fits : e ≤ length bs) where
  -- between p and q, within the part, stand these rows
  record RowsRead (p q : ℕ) (xs : List ℕ) : Type 0 where
    pub rows : Laid S bs (RowsAt S bs p) (RowsAt S bs q) xs
    pub within : q ≤ e

  -- the tree of an operation is a row
  item_reads : (x : Symbol) → Narrow S x.arguments → (p : ℕ) → Good (λ t q. RowsRead p q (tree_row t)) (item_at bs S e x p)
  unfolding item_at tree_row
  item_reads x narrow p =
      then-good (length_reads bs e p) λ item q is.
      then-good (both (tree_reads S bs edition x.sort item (omega arith) (suc most_variables) x.arguments [] narrow q) (tree_extent bs S x.sort item (suc most_variables) x.arguments [] q))
      λ t r read. unless _ _ (ltb r item) λ _ all.
      let end : r ≡ item = omega (arith, read.1.within, ltb-false r item all) in
      let tree = rw (end, is.1) at read.0 in
      good (record {
        rows = rw end (record {
          back = row_back S bs p item size (omega arith) is.0 (tree_numbers t) tree;
          laid = row_laid_lem S bs p item size (omega arith) is.0 (tree_numbers t) tree;
        });
        within = omega arith;
      })

  -- those of all operations
  trees-read : (rest : Symbols) → (FewArguments S → FewArguments rest) → (p : ℕ) → p ≤ e → Good (λ ts q. RowsRead p q (tree_rows rest ts)) (trees_of bs S e rest p)
  unfolding trees_of tree_rows FewArguments
  trees-read [] few p h = good (record { rows = laid_none; within = h })
  trees-read (x ∷ rest) few p h = by_kind x.is_operation
      (λ constructor.
      then-good (trees-read rest (λ all f there. few all (suc f) (omega arith)) p h) λ ts r others.
      good (rw (no_row x rest ts constructor) others))
      (λ operation.
      then-good (item_reads x (λ all. omega (arith, few all 0 (omega arith))) p) λ t q first.
      then-good (trees-read rest (λ all f there. few all (suc f) (omega arith)) q first.within) λ ts r others.
      good (rw (its-row x rest t ts operation) (record { rows = laid_then first.rows others.rows; within = others.within })))
    where
      by_kind : (operation : Bool) {a b : Reading Trees} → (operation ≡ false → Good (λ ts q. RowsRead p q (tree_rows (x ∷ rest) ts)) a)
          → (operation ≡ true → Good (λ ts q. RowsRead p q (tree_rows (x ∷ rest) ts)) b) → Good (λ ts q. RowsRead p q (tree_rows (x ∷ rest) ts)) (elim operation [ false ↦ a | true ↦ b ])
      by_kind false constructor operation = constructor refl
      by_kind true constructor operation = operation refl

-- from p on stands the tree part of these rows, and nothing behind it
abbrev PartAt : Symbols → List ℕ → ℕ → List ℕ → Type 0
PartAt S bs p ns = drop p bs ≡ tree_part_bytes (arities_of S) ns

-- its length opens it
part-opens : (S : Symbols) (bs : List ℕ) (p : ℕ) → p + 2 + big_endian bs p ≡ length bs → Laid S bs (PartAt S bs p) (RowsAt S bs (p + 2)) []
unfolding tree_part_bytes part_bytes
part-opens S bs p ends = record {
  back = λ few ns at. (ns, refl, (two_back bs p (omega arith) (length (rows_bytes (arities_of S) ns)) (rows_bytes (arities_of S) ns) at).1);
  laid = λ bytes more at.
      let long : big_endian bs p ≡ length (rows_bytes (arities_of S) more) = omega (arith, ap length at, length-drop (p + 2) bs) in
      two-laid bs p (omega arith) bytes ∙ rw (long, at) refl;
}

-- behind it is nothing
part-ends : (S : Symbols) (bs : List ℕ) (r : ℕ) → length bs ≤ r → Laid S bs (RowsAt S bs r) (λ more. more ≡ []) []
unfolding rows_in rows_from items_bytes
part-ends S bs r over = record {
  back = λ few ns at. (ns, refl, some-row (arities_of S) ns (sym at ∙ drop_of_length-le bs over));
  laid = λ bytes more none. rw none (drop_of_length-le bs over);
}

-- the tree part
part_reads : (S : Symbols) (bs : List ℕ) → version_of bs ≡ 1 → length bs ≤ most_book_bytes → (p : ℕ)
    → Good (λ trees q. Laid S bs (PartAt S bs p) (λ more. more ≡ []) (tree_rows S trees)) (tree_part bs S p)
unfolding tree_part tree_part_bytes part_bytes
part_reads S bs edition size p =
    then-good (length_reads bs (length bs) p) λ e q is.
    then-good (trees-read S bs edition size e is.2 S (λ few. few) q (omega arith)) λ trees r read. unless _ _ (ltb r e) λ _ _. unless _ _ (ltb r (length bs)) λ _ all.
    let over : length bs ≤ r = ltb-false r (length bs) all in
    let rows = rw is.1 at read.rows in
    good (rw append-nil at (laid_then (part-opens S bs p (omega arith)) (laid_then rows (part-ends S bs r over))))

-- A TREE PART LAID OUT FROM ROWS, IF IT IS READ, READS BACK TO THESE ROWS.
pub trees-back : (front ns : List ℕ) (symbols : Symbols) (trees : Trees) (q : ℕ) → FewArguments symbols → version_of (front ++ tree_part_bytes (arities_of symbols) ns) ≡ 1
    → length (front ++ tree_part_bytes (arities_of symbols) ns) ≤ most_book_bytes
    → tree_part (front ++ tree_part_bytes (arities_of symbols) ns) symbols (length front) ≡ got trees q → ns ≡ tree_rows symbols trees
trees-back front ns symbols trees q few edition size read =
    let bs = front ++ tree_part_bytes (arities_of symbols) ns in
    let rows = (good-got (part_reads symbols bs edition size (length front)) read).back few ns (drop-append_seam front (tree_part_bytes (arities_of symbols) ns)) in
    rows.1 ∙ ap (◌++◌ (tree_rows symbols trees)) rows.2 ∙ append-nil (tree_rows symbols trees)

-- A TREE PART THAT WAS READ IS LAID OUT FROM THE ROWS OF ITS TREES.
pub trees-laid : (bs : List ℕ) → version_of bs ≡ 1 → Bytes bs → (symbols : Symbols) (trees : Trees) (p q : ℕ) → length bs ≤ most_book_bytes
    → tree_part bs symbols p ≡ got trees q → drop p bs ≡ tree_part_bytes (arities_of symbols) (tree_rows symbols trees)
trees-laid bs edition bytes symbols trees p q size read = rw append-nil at ((good-got (part_reads symbols bs edition size p) read).laid bytes [] refl)
