-- The scan of an admitted book makes the new book: along the reader's way through the old one, each tree is put as it is written without exempts.
use mathlib.Core.Bool.{Bool, true, false}
use mathlib.Core.List.{List, [], ◌∷◌, ◌++◌, append_assoc, append-nil}
use mathlib.Core.Path.{◌≡◌, refl, sym, ap, ◌∙◌}
use Prim.Native.Nat.{ℕ, zero, suc, ◌+◌, ◌≤◌, ◌<◌}
use native.Mathlib.Omega.{arith}
use borrow.Author.Tests.{ltb-false}
use lib.Dec.{ltb}
use lib.ListN.{length, get_or, replicate, length-replicate}
use Rattle.limits.specs.Sizes.{most_book_bytes, most_variables}
use Rattle.reading.specs.Reading.{Reading, got}
use Rattle.reading.specs.Bytes.{big_endian}
use Rattle.reading.specs.Answer.{part_of}
use Rattle.reading.proofs.Good.{Good, good, refused, good-got, both, then-good, whenever, unless, byte_good}
use Rattle.symbols.specs.Symbols.{Symbol, Symbols, constructors_of}
use Rattle.symbols.specs.SymbolPart.{symbol_part}
use Rattle.symbols.proofs.Parts.{part-got}
use Rattle.book.specs.Trees.{Tree, Trees}
use Rattle.book.specs.TreeAt.{trees_with, branched_at, branch_at, tree_code_at, tree_in, item_at, trees_of, tree_part}
use Rattle.book.specs.Rules.{Rules}
use Rattle.book.specs.Admission.{read_book}
use Rattle.book.specs.Index.{tree_bytes, trees_bytes, mark_tree, ends_from, trees_place, ends_after}
use Rattle.book.proofs.BookWays.{trees-place}
use Rattle.writer.specs.Exact.{Bytes}
use Rattle.converter.specs.Written.{expr_written, tree_written, trees_written, counted, items_written, book_written}
use Rattle.converter.specs.Converted.{without_exempt, without_exempts, trees_converted, converted}
use Rattle.converter.specs.Convert.{new_book}
use Rattle.converter.specs.Scan.{front, rule_at, spot_of, behind_of, spots, items, item_end, scanned}
use Rattle.converter.proofs.ScanWays.{spots-none, spots-more, items-none, items_more}
use Rattle.converter.proofs.OldBytes.{read-part, whole_reads, length-is, part_reads}
use Rattle.converter.proofs.Marks.{Ended, EndedRow, mark_length, ended, ends_low}

-- ---- what opens at p, by its code

module _ (bs ends : List ℕ) (e p : ℕ) (there : p < e) where
  exempt_spot : get_or bs p 0 ≡ 0 → spots bs ends e p ≡ 1 ∷ 3 ∷ spots bs ends e (p + 1)
  unfolding spot_of behind_of
  exempt_spot code = spots-more bs ends e p there ∙ rw code

  rule_spot : (xs : List ℕ) (q : ℕ) → get_or bs p 0 ≡ 1 → rule_at bs ends p ≡ xs → q ≡ p + 1 + length xs → spots bs ends e p ≡ 1 ∷ (xs ++ spots bs ends e q)
  unfolding spot_of behind_of
  rule_spot xs q code rule next = spots-more bs ends e p there ∙ rw (code, rule, next)

  branch_spot : get_or bs p 0 ≡ 2 → spots bs ends e p ≡ 2 ∷ get_or bs (p + 1) 0 ∷ spots bs ends e (p + 2)
  unfolding spot_of behind_of
  branch_spot code = spots-more bs ends e p there ∙ rw code

-- ---- a tree

-- from the place p of a tree to the place q behind it the scan puts the tree without exempts
record TreeScan (bs : List ℕ) (e p : ℕ) (t : Tree) (q : ℕ) : Type 0 where
  pub size : q ≡ p + tree_bytes t
  pub within : q ≤ e
  pub scan : (ends : List ℕ) → Ended ends p t → (e' : ℕ) → q ≤ e' → spots bs ends e' p ≡ tree_written (without_exempt t) ++ spots bs ends e' q

-- the same of a row of trees
record RowScan (bs : List ℕ) (e p : ℕ) (ts : Trees) (q : ℕ) : Type 0 where
  pub size : q ≡ p + trees_bytes ts
  pub within : q ≤ e
  pub scan : (ends : List ℕ) → EndedRow ends p ts → (e' : ℕ) → q ≤ e' → spots bs ends e' p ≡ trees_written (without_exempts ts) ++ spots bs ends e' q

module _ (bs : List ℕ) (bytes : Bytes bs) (S : Symbols) (sort e : ℕ) (fits : e ≤ length bs) where
  abbrev Scans : (List ℕ → List ℕ → ℕ → Reading Tree) → Type 0
  Scans tree = (vars done : List ℕ) (p : ℕ) → Good (TreeScan bs e p) (tree vars done p)

  row_scans : (tree : List ℕ → ℕ → Reading Tree) → ((sorts : List ℕ) (p : ℕ) → Good (TreeScan bs e p) (tree sorts p)) → (rows : List (List ℕ)) (p : ℕ) → p ≤ e
      → Good (RowScan bs e p) (trees_with bs S sort e tree rows p)
  unfolding trees_with trees_bytes trees_written without_exempts EndedRow
  row_scans tree scans [] p h = good {a = Trees.no_trees} {p = p} (record { size = omega arith; within = h; scan = λ ends marks e' to. refl })
  row_scans tree scans (sorts ∷ rows) p h =
      then-good (scans sorts p) λ t q first.
      then-good (row_scans tree scans rows q first.within) λ ts r more.
      good (record {
        size = omega (arith, first.size, more.size);
        within = more.within;
        scan = λ ends marks e' to.
            first.scan ends marks.0 e' (omega (arith, more.size))
            ∙ ap (◌++◌ (tree_written (without_exempt t))) (more.scan ends (rw (← first.size) at marks.1) e' to)
            ∙ sym (append_assoc (tree_written (without_exempt t)) (trees_written (without_exempts ts)) (spots bs ends e' r));
      })

  -- the variable of a branch is the byte that stands there
  branched_is : (vars done : List ℕ) (p : ℕ) → Good (λ x q. (x ≡ get_or bs p 0) × (q ≡ p + 1) × (q ≤ e)) (branched_at bs S sort e vars done p)
  unfolding branched_at
  branched_is vars done p = then-good (byte_good bs 0 e p) λ x q is. unless _ _ _ λ _ _. unless _ _ _ λ _ _. unless _ _ _ λ _ _. good is

  code_scans : (tree : List ℕ → List ℕ → ℕ → Reading Tree) → Scans tree → (c : ℕ) (vars done : List ℕ) (p : ℕ) → p < e → c ≡ get_or bs p 0
      → Good (TreeScan bs e p) (tree_code_at bs S sort e tree c vars done p)
  unfolding tree_code_at branch_at tree_bytes tree_written without_exempt expr_written Ended
  code_scans tree scans zero vars done p h code =
      unless _ _ _ λ _ _.
      good {a = Tree.exempt} {p = p + 1}
      (record { size = refl; within = omega arith; scan = λ ends marks e' to. exempt_spot bs ends e' p (omega arith) (sym code) })
  code_scans tree scans (suc zero) vars done p h code =
      then-good (whole_reads bs bytes S e fits vars sort (p + 1)) λ x q is.
      good (record {
        size = omega (arith, is.1);
        within = is.2;
        scan = λ ends marks e' to.
            let end : get_or ends p 0 ≡ q = omega (arith, is.1, marks) in
            rule_spot bs ends e' p (omega (arith, is.1)) (expr_written x) q (sym code) (ap (part_of bs (p + 1)) end ∙ read-part is.0) is.0.long;
      })
  code_scans tree scans (suc (suc zero)) vars done p h code =
      then-good (branched_is vars done (p + 1)) λ x q is.
      then-good (row_scans _ (λ sorts r. scans (vars ++ sorts) (x ∷ done) r) (constructors_of (get_or vars x 0) S) q is.2) λ ts r row.
      let next : q ≡ p + 2 = omega (arith, is.1) in
      good (record {
        size = omega (arith, is.1, row.size);
        within = row.within;
        scan = λ ends marks e' to.
            branch_spot bs ends e' p (omega (arith, is.1, row.size)) (sym code)
            ∙ rw (← is.0, ← next) (ap (λ (rest : List ℕ). 2 ∷ x ∷ rest) (row.scan ends (rw (← next) at marks) e' to));
      })
  code_scans tree scans (suc (suc (suc c))) vars done p h code = refused

  tree_scans : (depth : ℕ) → Scans (tree_in bs S sort e depth)
  unfolding tree_in
  tree_scans zero vars done p = refused
  tree_scans (suc depth) vars done p =
      then-good (byte_good bs 0 e p) λ c q is. code_scans (tree_in bs S sort e depth) (tree_scans depth) c vars done p (omega (arith, is.1, is.2)) is.0

-- ---- the items

-- reading goes on either way of a test
either_good : {A : Type 0} {P : A → ℕ → Type 0} (b : Bool) {r s : Reading A} → (b ≡ false → Good P r) → (b ≡ true → Good P s)
    → Good P (elim b [ false ↦ r | true ↦ s ])
either_good false failed passed = failed refl
either_good true failed passed = passed refl

-- where the ends are those that the trees of these operations mark, the first behind its length at p, the scan puts their items
abbrev ItemsScan : List ℕ → ℕ → Symbols → Trees → ℕ → Type 0
ItemsScan bs p rest ts q = (ends ends' : List ℕ) → most_book_bytes ≤ length ends → ((i : ℕ) → p ≤ i → get_or ends' i 0 ≡ get_or (ends_from p rest ts ends) i 0)
    → items bs ends' p ≡ items_written rest (trees_converted rest ts) ++ items bs ends' q

module _ (bs : List ℕ) (bytes : Bytes bs) (S : Symbols) (size : length bs ≤ most_book_bytes) where
  record ItemScan (e p : ℕ) (t : Tree) (q : ℕ) : Type 0 where
    pub behind : q ≡ p + 2 + tree_bytes t
    pub within : q ≤ e
    pub scan : (ends : List ℕ) → Ended ends (p + 2) t → items bs ends p ≡ counted (tree_written (without_exempt t)) ++ items bs ends q

  item_scans : (e : ℕ) → e ≤ length bs → (x : Symbol) (p : ℕ) → Good (ItemScan e p) (item_at bs S e x p)
  unfolding item_at
  item_scans e fits x p =
      then-good (length-is bs e p) λ end q is.
      then-good (tree_scans bs bytes S x.sort end (omega (arith, is.2)) (suc most_variables) x.arguments [] q) λ t r tree.
      unless _ _ (ltb r end) λ _ whole.
      let last : item_end bs [] p ≡ r = omega (arith, is.1, tree.within, ltb-false r end whole) in
      let first : q ≡ p + 2 = is.0 in
      good (record {
        behind = omega (arith, tree.size);
        within = omega (arith, is.2, tree.within);
        scan = λ ends marks.
            let put : spots bs ends r (p + 2) ≡ tree_written (without_exempt t) =
            rw first at (tree.scan ends (rw (← first) at marks) r (omega arith)) ∙ rw (spots-none bs ends r r (omega arith)) (append-nil _) in
            items_more bs ends p (omega (arith, is.1, is.2)) ∙ rw (last, put);
      })

  -- a constructor has none
  constructor_scans : (x : Symbol) (rest : Symbols) (p : ℕ) (ts : Trees) (q : ℕ) → x.is_operation ≡ false → ItemsScan bs p rest ts q
      → ItemsScan bs p (x ∷ rest) (Trees.more_trees Tree.exempt ts) q
  unfolding ends_from items_written trees_converted
  constructor_scans x rest p ts q none more ends ends' room alike =
      rw (none, items_written) (more ends ends' room (λ i from. alike i from ∙ rw (none, ends_from)))

  -- an operation's stands in front of the others
  operation_scans : (x : Symbol) (rest : Symbols) (e p : ℕ) (t : Tree) (m : ℕ) (ts : Trees) (q : ℕ) → x.is_operation ≡ true → e ≤ length bs
      → ItemScan e p t m → ItemsScan bs m rest ts q
      → ItemsScan bs p (x ∷ rest) (Trees.more_trees t ts) q
  unfolding ends_from items_written trees_converted
  operation_scans x rest e p t m ts q is fits first more ends ends' room alike =
      let next = first.behind in
      let own : (i : ℕ) → p ≤ i → get_or ends' i 0 ≡ get_or (ends_from m rest ts (mark_tree (p + 2) t ends)) i 0 =
      λ i from. alike i from ∙ rw (is, ends_from, ← next) in
      let marks : Ended ends' (p + 2) t =
      ended t (p + 2) ends ends' (omega (arith, first.within))
      (λ i from to. own i (omega arith) ∙ ends_low m rest ts (mark_tree (p + 2) t ends) i (omega arith)) in
      let others = more (mark_tree (p + 2) t ends) ends' (omega (arith, mark_length t (p + 2) ends)) (λ i from. own i (omega arith)) in
      rw (is, items_written, is) (first.scan ends' marks ∙ ap (◌++◌ (counted (tree_written (without_exempt t)))) others
      ∙ sym (append_assoc (counted (tree_written (without_exempt t))) (items_written rest (trees_converted rest ts)) (items bs ends' q)))

  items-scan : (e : ℕ) → e ≤ length bs → (rest : Symbols) (p : ℕ) → Good (λ ts q. ItemsScan bs p rest ts q) (trees_of bs S e rest p)
  unfolding trees_of items_written trees_converted
  items-scan e fits [] p = good {a = Trees.no_trees} (λ ends ends' room alike. refl)
  items-scan e fits (x ∷ rest) p = either_good x.is_operation
      (λ is. then-good (items-scan e fits rest p) λ ts r more. good (constructor_scans x rest p ts r is more))
      (λ is.
      then-good (item_scans e fits x p) λ t q first.
      then-good (items-scan e fits rest q) λ ts r more.
      good (operation_scans x rest e p t q ts r is fits first more))

  -- the tree part, whose length stands at p
  part_scans : (p : ℕ) → Good (λ ts q. (ends : List ℕ) → most_book_bytes ≤ length ends
      → items bs (ends_from (p + 2) S ts ends) (p + 2) ≡ items_written S (trees_converted S ts)) (tree_part bs S p)
  unfolding tree_part
  part_scans p =
      then-good (length-is bs (length bs) p) λ e q is.
      then-good (items-scan e is.2 S q) λ ts r scan. unless _ _ _ λ _ _. unless _ _ (ltb r (length bs)) λ _ last.
      good λ ends room.
      let ends' = ends_from (p + 2) S ts ends in
      let put = (rw is.0 at scan) ends ends' room (λ i from. refl) in
      put ∙ rw (items-none bs ends' r (ltb-false r (length bs) last)) (append-nil _)

-- ---- the book

book_scans : (bs : List ℕ) → Bytes bs → Good (λ r p. scanned bs (ends_after (got r p)) ≡ new_book r) (read_book bs)
unfolding read_book ends_after scanned front converted book_written
book_scans bs bytes =
    then-good (both (part_reads bs bytes) (whenever (symbol_part bs) (λ S b is. is))) λ S b first.
    then-good (part_scans bs bytes S (part-got bs first.1).size b) λ ts q second.
    good (
    let place : trees_place S ≡ b + 2 = sym (trees-place bs first.1) in
    let trees : 3 + big_endian bs 1 + 2 ≡ b + 2 = omega (arith, first.0.1) in
    let put = second (replicate most_book_bytes 0) (omega (arith, length-replicate {A = ℕ} most_book_bytes 0)) in
    rw (place, trees, first.0.0, put))

-- the scan of a book that is admitted
pub scanned-is : (bs : List ℕ) → Bytes bs → {r : Rules} {p : ℕ} → read_book bs ≡ got r p → scanned bs (ends_after (read_book bs)) ≡ new_book r
scanned-is bs bytes read = rw read (good-got (book_scans bs bytes) read)
