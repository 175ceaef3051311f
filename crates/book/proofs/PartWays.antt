-- Reading the tree part, one lemma for each way through the code.
use mathlib.Core.Bool.{Bool, true, false}
use mathlib.Core.List.{List, [], ◌∷◌}
use mathlib.Core.Path.{◌≡◌, refl, sym, ap, ◌∙◌}
use Prim.Native.Nat.{ℕ, suc, ◌+◌, ◌≤◌, ◌<◌}
use native.Mathlib.Numerals.{add-one}
use borrow.Author.Tests.{lt-ltb, le-ltb}
use lib.ListN.{length, set}
use Rattle.limits.specs.Sizes.{most_variables}
use Rattle.reading.specs.Reading.{Reading, got, refusal, ◌then◌}
use Rattle.reading.specs.Bytes.{length_at}
use Rattle.reading.specs.Answer.{keeping, nothing}
use Rattle.reading.proofs.Good.{good-got, length-good}
use Rattle.reading.proofs.Keeping.{kept-got, kept-refusal, then-got, then-refusal, passed, failed-test}
use Rattle.symbols.specs.Symbols.{Symbol, Symbols}
use Rattle.book.specs.Trees.{Tree, Trees, exempt, more_trees}
use Rattle.book.specs.TreeAt.{tree_in, item_at, trees_of, tree_part}
use Rattle.book.specs.Index.{tree_bytes, mark_tree, roots_from, ends_from}
use Rattle.book.specs.Reader.{Marked, Indexed}
use Rattle.book.proofs.TreeWays.{Told, told-refused, told-read}
use Rattle.book.proofs.TreeExtents.{item_extent}

-- a tree that was read is marked
marked-tree : (p : ℕ) (was is : List ℕ) {r : Reading Tree} {t : Tree} {q : ℕ} → r ≡ got t q → Marked p r was is → is ≡ mark_tree p t was
unfolding Marked
marked-tree p was is e m = rw (e, Marked) at m

-- ---- one operation's tree

module _ (bs : List ℕ) (S : Symbols) (e : ℕ) (x : Symbol) (p : ℕ) (was is : List ℕ) where
  abbrev item : Reading Tree
  item = item_at bs S e x p

  pub item_unopened : {c q : ℕ} → refusal c q ≡ length_at bs 0 e p → Told (p + 2) (refusal c q) item was is
  unfolding item_at
  item_unopened r = told-refused (p + 2) was is (then-refusal _ (sym r))

  module _ {end q : ℕ} (opened : got end q ≡ length_at bs 0 e p) where
    pub item_refused : {c r : ℕ} → refusal c r ≡ keeping nothing (tree_in bs S x.sort end (suc most_variables) x.arguments [] q) → Told (p + 2) (refusal c r) item was is
    unfolding item_at
    item_refused told = told-refused (p + 2) was is (then-got _ (sym opened) ∙ then-refusal _ (kept-refusal nothing _ told))

    module _ {v r : ℕ} (told : Told q (got v r) (tree_in bs S x.sort end (suc most_variables) x.arguments [] q) was is) where
      pub item-left-over : r < end → Told (p + 2) (refusal 1 r) item was is
      unfolding item_at
      item-left-over l =
          let t = kept-got nothing _ told.answer in
          told-refused (p + 2) was is (then-got _ (sym opened) ∙ then-got _ t.1 ∙ failed-test _ _ _ (lt-ltb r end l))

      pub item-read : end ≤ r → Told (p + 2) (got v r) item was is
      unfolding item_at
      item-read l =
          let t = kept-got nothing _ told.answer in
          let behind = good-got (length-good bs 0 e p) (sym opened) in
          let is_read = then-got _ (sym opened) ∙ then-got _ t.1 ∙ passed _ _ (le-ltb r end l) in
          let marks = marked-tree q was is t.1 told.marks ∙ ap (λ (k : ℕ). mark_tree k t.0 was) behind.0 in
          rw t.2 (told-read (p + 2) was is t.0 r is_read marks)

-- ---- the operations' trees

-- one operation's tree in front, whose two-byte length stands at p
module _ (p f : ℕ) (x : Symbol) (rest : Symbols) (t : Tree) (ts : Trees) where
  roots-more : (info : List ℕ) {q : ℕ} → x.is_operation ≡ true → q ≡ p + 2 + tree_bytes t
      → roots_from q (suc f) rest ts (set info f (p + 2)) ≡ roots_from p f (x ∷ rest) (more_trees t ts) info
  unfolding roots_from
  roots-more info operation size = ap (λ (k : ℕ). roots_from k (suc f) rest ts (set info f (p + 2))) size ∙ sym (rw (operation, roots_from))

  ends_more : (ends : List ℕ) {q : ℕ} → x.is_operation ≡ true → q ≡ p + 2 + tree_bytes t
      → ends_from q rest ts (mark_tree (p + 2) t ends) ≡ ends_from p (x ∷ rest) (more_trees t ts) ends
  unfolding ends_from
  ends_more ends operation size = ap (λ (k : ℕ). ends_from k rest ts (mark_tree (p + 2) t ends)) size ∙ sym (rw (operation, ends_from))

module _ (bs : List ℕ) (S : Symbols) (e : ℕ) where
  -- an answer tells the trees of the symbols from f on, and they are indexed
  pub record Listed (p f : ℕ) (rest : Symbols) (r : Reading ℕ) (info' info ends' ends : List ℕ) : Type 0 where
    pub answer : r ≡ keeping nothing (trees_of bs S e rest p)
    pub index : Indexed p f rest (trees_of bs S e rest p) info' info ends' ends

  -- an operation's tree is read first
  operation-first : (x : Symbol) (rest : Symbols) (p : ℕ) → x.is_operation ≡ true
      → trees_of bs S e (x ∷ rest) p ≡ ◌then◌ (item_at bs S e x p) (λ t q. ◌then◌ (trees_of bs S e rest q) (λ ts r. got (more_trees t ts) r))
  unfolding trees_of
  operation-first x rest p operation =
      ap (λ (b : Bool). elim b as (λ _. Reading Trees) [
        | false ↦ ◌then◌ (trees_of bs S e rest p) (λ ts r. got (more_trees exempt ts) r)
        | true ↦ ◌then◌ (item_at bs S e x p) (λ t q. ◌then◌ (trees_of bs S e rest q) (λ ts r. got (more_trees t ts) r))
      ]) operation

  module _ (p f : ℕ) (info ends : List ℕ) where
    pub listed-none : Listed p f [] (got 0 p) info info ends ends
    unfolding trees_of keeping Indexed roots_from ends_from
    listed-none = record { answer = refl; index = (refl, refl) }

    module _ (x : Symbol) (rest : Symbols) (info' ends' : List ℕ) where
      -- a constructor has no tree
      pub listed-past : (r : Reading ℕ) → x.is_operation ≡ false → Listed p (suc f) rest r info info' ends ends' → Listed p f (x ∷ rest) r info info' ends ends'
      unfolding trees_of keeping Indexed roots_from ends_from
      listed-past r none next = by (trees_of bs S e rest p) refl
        where
          by : (k : Reading Trees) → trees_of bs S e rest p ≡ k → Listed p f (x ∷ rest) r info info' ends ends'
          by (got ts q) found =
              let whole : trees_of bs S e (x ∷ rest) p ≡ got (more_trees exempt ts) q = rw (none, trees_of) (then-got _ found) in
              let index = rw (found, Indexed) at next.index in
              record {
                answer = next.answer ∙ rw (found, whole, keeping);
                index = rw (whole, Indexed) (index.0 ∙ rw (none, roots_from), index.1 ∙ rw (none, ends_from));
              }
          by (refusal c q) found =
              let whole : trees_of bs S e (x ∷ rest) p ≡ refusal c q = rw (none, trees_of) (then-refusal _ found) in
              record { answer = next.answer ∙ rw (found, whole, keeping); index = rw (whole, Indexed) tt }

      pub listed-refused : {c q : ℕ} → x.is_operation ≡ true → refusal c q ≡ keeping nothing (item_at bs S e x p)
          → Listed p f (x ∷ rest) (refusal c q) info info' ends ends'
      unfolding trees_of keeping Indexed
      listed-refused {c} {q} operation told =
          let whole : trees_of bs S e (x ∷ rest) p ≡ refusal c q = operation-first x rest p operation ∙ then-refusal _ (kept-refusal nothing _ told) in
          record { answer = rw (whole, keeping); index = rw (whole, Indexed) tt }

      pub listed-read : {v q : ℕ} (mid : List ℕ) (r : Reading ℕ) → x.is_operation ≡ true → Told (p + 2) (got v q) (item_at bs S e x p) ends mid
          → Listed q (suc f) rest r (set info f (p + 2)) info' mid ends' → Listed p f (x ∷ rest) r info info' ends ends'
      unfolding trees_of keeping Indexed roots_from ends_from
      listed-read {v} {q} mid r operation told next = by (trees_of bs S e rest q) refl
        where
          t : (a : Tree) × (item_at bs S e x p ≡ got a q) × (v ≡ 0)
          t = kept-got nothing _ told.answer

          size : q ≡ p + 2 + tree_bytes t.0
          size = (good-got (item_extent bs S e x p) t.1).size

          by : (k : Reading Trees) → trees_of bs S e rest q ≡ k → Listed p f (x ∷ rest) r info info' ends ends'
          by (got ts u) found =
              let whole : trees_of bs S e (x ∷ rest) p ≡ got (more_trees t.0 ts) u = operation-first x rest p operation ∙ then-got _ t.1 ∙ then-got _ found in
              let index = rw (found, Indexed) at next.index in
              record {
                answer = next.answer ∙ rw (found, whole, keeping);
                index = rw (whole, Indexed) (
                  index.0 ∙ roots-more p f x rest t.0 ts info operation size,
                  index.1 ∙ ap (ends_from q rest ts) (marked-tree (p + 2) ends mid t.1 told.marks) ∙ ends_more p f x rest t.0 ts ends operation size,
                );
              }
          by (refusal c u) found =
              let whole : trees_of bs S e (x ∷ rest) p ≡ refusal c u = operation-first x rest p operation ∙ then-got _ t.1 ∙ then-refusal _ found in
              record { answer = next.answer ∙ rw (found, whole, keeping); index = rw (whole, Indexed) tt }

  -- the trees of the symbols before f were read and indexed, up to p: what those of the symbols from f on give, all of them give
  pub record Reached (from : ℕ) (was before : List ℕ) (p f : ℕ) (rest : Symbols) (info ends : List ℕ) : Type 0 where
    pub all : (r : Reading ℕ) (info' ends' : List ℕ) → Listed p f rest r info info' ends ends' → Listed from 0 S r was info' before ends'

  module _ (from : ℕ) (was before : List ℕ) where
    -- at first none was
    pub reached-first : Reached from was before from 0 S was before
    reached-first = record { all = λ r info' ends' listed. listed }

    module _ (p f : ℕ) (info ends : List ℕ) {here : Symbols} (on : Reached from was before p f here info ends) where
      -- behind the last symbol all were
      pub reached-last : here ≡ [] → Listed from 0 S (got 0 p) was info before ends
      reached-last none = on.all (got 0 p) info ends (rw none (listed-none p f info ends))

      module _ (x : Symbol) (rest : Symbols) (next : here ≡ x ∷ rest) where
        pub reached-past : x.is_operation ≡ false → Reached from was before p (f + 1) rest info ends
        reached-past none =
            rw (add-one f) (record { all = λ r info' ends' listed. on.all r info' ends' (rw next (listed-past p f info ends x rest info' ends' r none listed)) })

        pub reached-refused : {c q : ℕ} (info' ends' : List ℕ) → x.is_operation ≡ true → refusal c q ≡ keeping nothing (item_at bs S e x p)
            → Listed from 0 S (refusal c q) was info' before ends'
        reached-refused info' ends' operation told = on.all _ info' ends' (rw next (listed-refused p f info ends x rest info' ends' operation told))

        pub reached-read : {v q : ℕ} (mid : List ℕ) → x.is_operation ≡ true → Told (p + 2) (got v q) (item_at bs S e x p) ends mid
            → Reached from was before q (f + 1) rest (set info f (p + 2)) mid
        reached-read mid operation told =
            rw (add-one f) (record { all = λ r info' ends' listed. on.all r info' ends' (rw next (listed-read p f info ends x rest info' ends' mid r operation told listed)) })

-- ---- the whole part

-- what it is that trees are indexed, where they were read
module _ (p f : ℕ) (rest : Symbols) (info' info ends' ends : List ℕ) {r : Reading Trees} {ts : Trees} {q : ℕ} (read : r ≡ got ts q) where
  pub indexed_read : Indexed p f rest r info' info ends' ends → (info ≡ roots_from p f rest ts info') × (ends ≡ ends_from p rest ts ends')
  unfolding Indexed
  indexed_read index = rw (read, Indexed) at index

  read_indexed : info ≡ roots_from p f rest ts info' → ends ≡ ends_from p rest ts ends' → Indexed p f rest r info' info ends' ends
  unfolding Indexed
  read_indexed roots marks = rw (read, Indexed) (roots, marks)

module _ (bs : List ℕ) (S : Symbols) (p : ℕ) where
  refused-part : {c q : ℕ} → tree_part bs S p ≡ refusal c q → refusal c q ≡ keeping nothing (tree_part bs S p)
  unfolding keeping
  refused-part whole = rw (whole, keeping)

  -- where it is refused there is no index
  pub none-indexed : {c q : ℕ} → refusal c q ≡ keeping nothing (tree_part bs S p) → (info' info ends' ends : List ℕ) → Indexed (p + 2) 0 S (tree_part bs S p) info' info ends' ends
  unfolding Indexed
  none-indexed told info' info ends' ends = rw (kept-refusal nothing (tree_part bs S p) told, Indexed) tt

  pub part_unopened : {c q : ℕ} → refusal c q ≡ length_at bs 0 (length bs) p → refusal c q ≡ keeping nothing (tree_part bs S p)
  unfolding tree_part
  part_unopened r = refused-part (then-refusal _ (sym r))

  module _ {e q : ℕ} (opened : got e q ≡ length_at bs 0 (length bs) p) where
    pub part-refused : {c r : ℕ} → refusal c r ≡ keeping nothing (trees_of bs S e S q) → refusal c r ≡ keeping nothing (tree_part bs S p)
    unfolding tree_part
    part-refused told = refused-part (then-got _ (sym opened) ∙ then-refusal _ (kept-refusal nothing _ told))

    module _ {v r : ℕ} (told : got v r ≡ keeping nothing (trees_of bs S e S q)) where
      pub part-left-over : r < e → refusal 1 r ≡ keeping nothing (tree_part bs S p)
      unfolding tree_part
      part-left-over l = refused-part (then-got _ (sym opened) ∙ then-got _ (kept-got nothing _ told).1 ∙ failed-test _ _ _ (lt-ltb r e l))

      module _ (h : e ≤ r) where
        pub book-left-over : r < length bs → refusal 1 r ≡ keeping nothing (tree_part bs S p)
        unfolding tree_part
        book-left-over l = refused-part
            (then-got _ (sym opened) ∙ then-got _ (kept-got nothing _ told).1 ∙ passed _ _ (le-ltb r e h) ∙ failed-test _ _ _ (lt-ltb r (length bs) l))

        -- nothing is left over: the trees that were read are the part's
        pub part-read : length bs ≤ r → (info' info ends' ends : List ℕ) → Indexed q 0 S (trees_of bs S e S q) info' info ends' ends
            → (got 0 r ≡ keeping nothing (tree_part bs S p)) × Indexed (p + 2) 0 S (tree_part bs S p) info' info ends' ends
        unfolding tree_part keeping Indexed
        part-read l info' info ends' ends indexed =
            let ts = kept-got nothing _ told in
            let whole : tree_part bs S p ≡ got ts.0 r = then-got _ (sym opened) ∙ then-got _ ts.1 ∙ passed _ _ (le-ltb r e h) ∙ passed _ _ (le-ltb r (length bs) l) in
            let there = (good-got (length-good bs 0 (length bs) p) (sym opened)).0 in
            let index = indexed_read q 0 S info' info ends' ends ts.1 indexed in (
              sym (ap (keeping nothing) whole),
              read_indexed (p + 2) 0 S info' info ends' ends whole
                  (index.0 ∙ ap (λ (k : ℕ). roots_from k 0 S ts.0 info') there)
                  (index.1 ∙ ap (λ (k : ℕ). ends_from k S ts.0 ends') there),
            )
