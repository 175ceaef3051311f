-- What the two rows hold of broader terms: an invariant of the pass over the lines, and how each line keeps it.
use mathlib.Core.Bool.{true, false}
use mathlib.Core.Path.{◌≡◌, refl, sym, ap, ◌∙◌}
use mathlib.Core.List.{List, [], ◌∷◌, ◌++◌}
use Prim.Native.Nat.{ℕ, zero, suc, ◌+◌, ◌-◌, ◌*◌, ◌≤◌, ◌<◌}
use native.Mathlib.Omega.{arith}
use native.Mathlib.Numerals.{add-one}
use native.Mathlib.Decide.{ℕ_discrete}
use lib.ListN.{length, get_or, take, drop, set, length-append, length-drop, length-set}
use lib.Seq.{get_or-set_same, get_or-set_other, take-set-le, drop-set-add, take-suc-set}
use Rattle.tagged.specs.Lines.{Name}
use Rattle.tagged.specs.Listing.{Relation, Lists, Broader, number_of, broader_of, broader_from}
use Rattle.terms.specs.Places.{bytes_of}
use Rattle.terms.specs.Gathering.{grown_by, sum_opened, sum_added}
use Rattle.terms.specs.declared.terms.Sum.{Sum}
use Rattle.tagged.proofs.Sizes.{heading_bytes, all_bytes}
use Rattle.terms.proofs.TermWays.{grown_small}
use Rattle.terms.proofs.TermsRead.{broader-own, broader-others, narrower-none}

-- ---- a row of numbers after a store

module _ (l : List ℕ) (i v : ℕ) where
  -- what ends before it is as it was
  pub bytes-before : (a e : ℕ) → a ≤ e → e ≤ i → bytes_of (set l i v) a e ≡ bytes_of l a e
  bytes-before a e low high =
      let at : i ≡ a + (i - a) = omega arith in
      ap (λ k. take (e - a) (drop a (set l k v))) at ∙ ap (take (e - a)) (drop-set-add a l (i - a) v) ∙ take-set-le (e - a) (drop a l) (i - a) v (omega arith)

  -- what ends behind it has it last
  pub bytes-last : (a : ℕ) → a ≤ i → i < length l → bytes_of (set l i v) a (i + 1) ≡ bytes_of l a i ++ (v ∷ [])
  bytes-last a low inside =
      let at : i ≡ a + (i - a) = omega arith in
      let width : i + 1 - a ≡ suc (i - a) = omega arith in
      ap (λ k. take (i + 1 - a) (drop a (set l k v))) at
      ∙ ap (take (i + 1 - a)) (drop-set-add a l (i - a) v)
      ∙ ap (λ k. take k (set (drop a l) (i - a) v)) width
      ∙ take-suc-set (drop a l) (i - a) v (omega (arith, length-drop a l))

bytes-none : (l : List ℕ) (a : ℕ) → bytes_of l a a ≡ []
bytes-none l a = let none : a - a ≡ 0 = omega arith in rw none refl

-- ---- rows

abbrev lists : List Name → List Relation → Lists
lists headings relations = record { headings = headings; relations = relations }

-- so many rows, by their headings
abbrev pub rows_of : List Name → List Relation → ℕ → ℕ → Broader
rows_of headings relations n x = broader_from (lists headings relations) n x

-- one heading more
rows_more : (headings : List Name) (relations : List Relation) (n x : ℕ)
    → rows_of headings relations (suc n) x ≡ rows_of headings relations n x ++ (broader_of headings relations (x + n) ∷ [])
unfolding broader_from
rows_more headings relations zero x = let same : x + 0 ≡ x = omega arith in rw same refl
rows_more headings relations (suc n) x =
    let next : suc x + n ≡ x + suc n = omega arith in
    let rest = rows_of headings relations n (suc x) in
    let last = ap (λ k. rest ++ (broader_of headings relations k ∷ [])) next in
    ap (λ l. broader_of headings relations x ∷ l) (rows_more headings relations n (suc x) ∙ last)

-- rows that are alike
rows_alike : (headings : List Name) (front later : List Relation) (n x : ℕ)
    → ((y : ℕ) → x ≤ y → y < x + n → broader_of headings front y ≡ broader_of headings later y) → rows_of headings front n x ≡ rows_of headings later n x
unfolding broader_from
rows_alike headings front later zero x alike = refl
rows_alike headings front later (suc n) x alike =
    let here = alike x (omega arith) (omega arith) in
    let rest = rows_alike headings front later n (suc x) (λ y low high. alike y (omega arith) (omega arith)) in
    rw (here, rest) refl

pub bytes_append : (xs ys : Broader) → all_bytes (xs ++ ys) ≡ all_bytes xs + all_bytes ys
unfolding all_bytes
bytes_append [] ys = omega arith
bytes_append (x ∷ xs) ys = omega (arith, bytes_append xs ys)

-- the bytes of so many headings and of one more
bytes-more : (headings : List Name) (relations : List Relation) (x : ℕ)
    → all_bytes (rows_of headings relations (suc x) 0) ≡ all_bytes (rows_of headings relations x 0) + heading_bytes (length (broader_of headings relations x))
unfolding all_bytes
bytes-more headings relations x =
    let same : 0 + x ≡ x = omega arith in
    let row = broader_of headings relations x in
    ap all_bytes (rows_more headings relations x 0) ∙ rw same (bytes_append (rows_of headings relations x 0) (row ∷ []) ∙ omega arith)

heading_grown : (k : ℕ) → heading_bytes (suc k) ≡ heading_bytes k + grown_by k
unfolding heading_bytes
heading_grown zero = refl
heading_grown (suc k) = omega arith

-- ---- what is held

-- of x headings, whose lines gave these relations, in a listing with these headings
pub record Held (headings : List Name) (relations : List Relation) (x : ℕ) (sum : Sum) (from to : List ℕ) : Type 0 where
  pub count : sum.headings ≡ x
  pub opens : get_or from 0 0 ≡ 0
  pub ends : get_or from x 0 ≡ sum.terms
  pub rising : (y : ℕ) → y < x → get_or from y 0 ≤ get_or from (suc y) 0
  pub filled : (y : ℕ) → y ≤ x → get_or from y 0 ≤ sum.terms
  pub inside : (i : ℕ) → i < sum.terms → get_or to i 0 < length headings
  pub rows : (y : ℕ) → y < x → bytes_of to (get_or from y 0) (get_or from (suc y) 0) ≡ broader_of headings relations y
  pub none : (y : ℕ) → x ≤ y → broader_of headings relations y ≡ []
  pub fresh : x ≡ 0 → sum.own ≡ 0
  pub own : (y : ℕ) → x ≡ suc y → sum.own ≡ length (broader_of headings relations y)
  pub size : sum.size ≡ 5 + all_bytes (rows_of headings relations x 0)
  pub terms : 12 * sum.terms + 12 ≤ sum.size + grown_by sum.own
  pub from_long : length from ≡ 342
  pub to_long : length to ≡ 2736
  pub from_none : (y : ℕ) → x < y → get_or from y 0 ≡ 0
  pub to_none : (i : ℕ) → sum.terms ≤ i → get_or to i 0 ≡ 0

-- at first
pub held_none : (headings : List Name) (from to : List ℕ) → length from ≡ 342 → length to ≡ 2736
    → ((y : ℕ) → get_or from y 0 ≡ 0) → ((i : ℕ) → get_or to i 0 ≡ 0)
    → Held headings [] 0 (record { headings = 0; own = 0; terms = 0; size = 5 }) from to
unfolding broader_of broader_from all_bytes
held_none headings from to from-long to-long from-none to_none =
    record {
      count = refl;
      opens = from-none 0;
      ends = from-none 0;
      rising = λ y low. absurd (omega arith);
      filled = λ y low. omega (arith, from-none y);
      inside = λ i low. absurd (omega arith);
      rows = λ y low. absurd (omega arith);
      none = λ y high. refl;
      fresh = λ is. refl;
      own = λ y is. absurd (omega arith);
      size = refl;
      terms = omega arith;
      from_long = from-long;
      to_long = to-long;
      from_none = λ y high. from-none y;
      to_none = λ i high. to_none i;
    }

module _ (headings : List Name) (relations : List Relation) (x : ℕ) (sum : Sum) (from to : List ℕ) (h : Held headings relations x sum from to) where
  -- a heading's own line
  module _ (room : x < 341) where
    abbrev opened : List ℕ
    opened = set from (sum.headings + 1) sum.terms

    opened-old : (y : ℕ) → y ≤ x → get_or opened y 0 ≡ get_or from y 0
    opened-old y low = get_or-set_other from (sum.headings + 1) y sum.terms 0 (λ is. omega (arith, h.count))

    opened-new : get_or opened (suc x) 0 ≡ sum.terms
    opened-new =
        let at : sum.headings + 1 ≡ suc x = omega (arith, h.count) in
        rw at (get_or-set_same from (suc x) sum.terms 0 (omega (arith, h.from_long)))

    pub held-heading : Held headings relations (suc x) (sum_opened sum) opened to
    unfolding heading_bytes
    held-heading =
        record {
          count = omega (arith, h.count);
          opens = opened-old 0 (omega arith) ∙ h.opens;
          ends = opened-new;
          rising = λ y low. by-rising y low (ℕ_discrete y x);
          filled = λ y low. by-filled y low (ℕ_discrete y (suc x));
          inside = h.inside;
          rows = λ y low. by_rows y low (ℕ_discrete y x);
          none = λ y high. h.none y (omega arith);
          fresh = λ is. absurd (omega arith);
          own = λ y is. let same : y ≡ x = omega arith in rw (same, h.none x (omega arith)) refl;
          size =
              let empty = ap (λ l. heading_bytes (length l)) (h.none x (omega arith)) in
              omega (arith, h.size, bytes-more headings relations x, empty);
          terms = omega (arith, h.terms, grown_small sum.own);
          from_long = length-set from (sum.headings + 1) sum.terms ∙ h.from_long;
          to_long = h.to_long;
          from_none =
              λ y high.
              get_or-set_other from (sum.headings + 1) y sum.terms 0 (λ is. omega (arith, h.count)) ∙ h.from_none y (omega arith);
          to_none = h.to_none;
        }
      where
        by-rising : (y : ℕ) → y < suc x → Dec (y ≡ x) → get_or opened y 0 ≤ get_or opened (suc y) 0
        by-rising y low (yes is) = rw is (omega (arith, opened-old x (omega arith), opened-new, h.ends))
        by-rising y low (no differs) =
            let before : y < x = omega (arith, differs) in
            omega (arith, opened-old y (omega arith), opened-old (suc y) (omega arith), h.rising y before)

        by-filled : (y : ℕ) → y ≤ suc x → Dec (y ≡ suc x) → get_or opened y 0 ≤ sum.terms
        by-filled y low (yes is) = rw is (omega (arith, opened-new))
        by-filled y low (no differs) = omega (arith, opened-old y (omega (arith, differs)), h.filled y (omega (arith, differs)))

        by_rows : (y : ℕ) → y < suc x → Dec (y ≡ x) → bytes_of to (get_or opened y 0) (get_or opened (suc y) 0) ≡ broader_of headings relations y
        by_rows y low (yes is) =
            rw (is, opened-new, opened-old x (omega arith), h.ends) (bytes-none to sum.terms ∙ sym (h.none x (omega arith)))
        by_rows y low (no differs) =
            rw (opened-old y (omega arith), opened-old (suc y) (omega (arith, differs))) (h.rows y (omega (arith, differs)))

  -- an NT line under heading z
  module _ (n z : ℕ) (name : Name) where
    abbrev narrowed : List Relation
    narrowed = relations ++ (record { line = n; under = z; is_broader = false; name = name } ∷ [])

    as_before : (y : ℕ) → broader_of headings narrowed y ≡ broader_of headings relations y
    as_before = narrower-none headings relations n z name

    pub held-narrower : Held headings narrowed x sum from to
    held-narrower =
        record {
          count = h.count;
          opens = h.opens;
          ends = h.ends;
          rising = h.rising;
          filled = h.filled;
          inside = h.inside;
          rows = λ y low. h.rows y low ∙ sym (as_before y);
          none = λ y high. as_before y ∙ h.none y high;
          fresh = h.fresh;
          own = λ y is. h.own y is ∙ ap length (sym (as_before y));
          size = h.size ∙ ap (λ l. 5 + all_bytes l) (sym (rows_alike headings narrowed relations x 0 (λ y low high. as_before y)));
          terms = h.terms;
          from_long = h.from_long;
          to_long = h.to_long;
          from_none = h.from_none;
          to_none = h.to_none;
        }

  -- a BT line under the last heading
  module _ (n z : ℕ) (name : Name) (last : x ≡ suc z) (few : x ≤ 341) (room : sum.terms < 2736) (low-term : number_of name headings < length headings) where
    abbrev widened : List Relation
    widened = relations ++ (record { line = n; under = z; is_broader = true; name = name } ∷ [])

    abbrev term : ℕ
    term = number_of name headings

    abbrev later : List ℕ
    later = set from sum.headings (sum.terms + 1)

    abbrev added : List ℕ
    added = set to sum.terms term

    later-old : (y : ℕ) → y < x → get_or later y 0 ≡ get_or from y 0
    later-old y low = get_or-set_other from sum.headings y (sum.terms + 1) 0 (λ is. omega (arith, h.count))

    later-new : get_or later x 0 ≡ sum.terms + 1
    later-new =
        let at : sum.headings ≡ x = h.count in
        rw at (get_or-set_same from x (sum.terms + 1) 0 (omega (arith, h.from_long)))

    row-own : broader_of headings widened z ≡ broader_of headings relations z ++ (term ∷ [])
    row-own = broader-own headings relations n z name

    row_other : (y : ℕ) → (z ≡ y → ⊥) → broader_of headings widened y ≡ broader_of headings relations y
    row_other = broader-others headings relations n z name

    pub own_grown : sum.own + 1 ≡ length (broader_of headings widened z)
    own_grown = omega (arith, h.own z last, ap length row-own, length-append (broader_of headings relations z) (term ∷ []))

    size_grown : sum.size + grown_by sum.own ≡ 5 + all_bytes (rows_of headings widened x 0)
    size_grown =
        let own = sum.own in
        let one_more : length (broader_of headings widened z) ≡ suc own = omega (arith, own_grown) in
        let before = bytes-more headings relations z in
        let after = bytes-more headings widened z in
        let others = ap all_bytes (rows_alike headings widened relations z 0 (λ y low high. row_other y (λ is. omega arith))) in
        let old = ap heading_bytes (sym (h.own z last)) in
        let new = ap heading_bytes one_more ∙ heading_grown own in
        let all_old = ap (λ k. all_bytes (rows_of headings relations k 0)) last in
        let all_new = ap (λ k. all_bytes (rows_of headings widened k 0)) last in
        omega (arith, h.size, before, after, others, old, new, all_old, all_new)

    pub held-broader : Held headings widened x (sum_added sum) later added
    held-broader =
        record {
          count = h.count;
          opens = later-old 0 (omega arith) ∙ h.opens;
          ends = later-new;
          rising = λ y low. by-rising y low (ℕ_discrete y z);
          filled = λ y low. by-filled y low (ℕ_discrete y x);
          inside = λ i low. by-inside i low (ℕ_discrete i sum.terms);
          rows = λ y low. by_rows y low (ℕ_discrete y z);
          none = λ y high. row_other y (λ is. omega arith) ∙ h.none y high;
          fresh = λ is. absurd (omega arith);
          own = λ y is. let same : y ≡ z = omega arith in rw same own_grown;
          size = size_grown;
          terms = let next : grown_by (sum.own + 1) ≡ 12 = rw (add-one sum.own) refl in omega (arith, h.terms, next);
          from_long = length-set from sum.headings (sum.terms + 1) ∙ h.from_long;
          to_long = length-set to sum.terms term ∙ h.to_long;
          from_none = λ y high. get_or-set_other from sum.headings y (sum.terms + 1) 0 (λ is. omega (arith, h.count)) ∙ h.from_none y high;
          to_none = λ i high. get_or-set_other to sum.terms i term 0 (λ is. omega arith) ∙ h.to_none i (omega arith);
        }
      where
        by-rising : (y : ℕ) → y < x → Dec (y ≡ z) → get_or later y 0 ≤ get_or later (suc y) 0
        by-rising y low (yes is) =
            let next : suc y ≡ x = omega arith in
            rw next (omega (arith, later-new, later-old y low, h.filled y (omega arith)))
        by-rising y low (no differs) = omega (arith, later-old y low, later-old (suc y) (omega (arith, differs)), h.rising y low)

        by-filled : (y : ℕ) → y ≤ x → Dec (y ≡ x) → get_or later y 0 ≤ sum.terms + 1
        by-filled y low (yes is) = rw is (omega (arith, later-new))
        by-filled y low (no differs) = omega (arith, later-old y (omega (arith, differs)), h.filled y low)

        by-inside : (i : ℕ) → i < sum.terms + 1 → Dec (i ≡ sum.terms) → get_or added i 0 < length headings
        by-inside i low (yes is) = rw is (omega (arith, get_or-set_same to sum.terms term 0 (omega (arith, h.to_long)), low-term))
        by-inside i low (no differs) = omega (arith, get_or-set_other to sum.terms i term 0 differs, h.inside i (omega (arith, differs)))

        by_rows : (y : ℕ) → y < x → Dec (y ≡ z) → bytes_of added (get_or later y 0) (get_or later (suc y) 0) ≡ broader_of headings widened y
        by_rows y low (yes is) =
            let next : suc z ≡ x = omega arith in
            let end : get_or from (suc z) 0 ≡ sum.terms = rw next h.ends in
            let old : bytes_of to (get_or from z 0) sum.terms ≡ broader_of headings relations z = rw end at (h.rows z (omega arith)) in
            let grown = bytes-last to sum.terms term (get_or from z 0) (h.filled z (omega arith)) (omega (arith, h.to_long)) in
            rw (is, next, later-new, later-old z (omega arith)) (grown ∙ ap (λ l. l ++ (term ∷ [])) old ∙ sym row-own)
        by_rows y low (no differs) =
            let next : suc y < x = omega (arith, differs) in
            let kept = bytes-before to sum.terms term (get_or from y 0) (get_or from (suc y) 0) (h.rising y low) (h.filled (suc y) (omega arith)) in
            rw (later-old y low, later-old (suc y) next) (kept ∙ h.rows y low ∙ sym (row_other y (λ e. differs (sym e))))
