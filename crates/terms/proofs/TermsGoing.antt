-- The pass over the lines of a good listing: what holds at each line, when a size is passed, and what is held at the end.
use mathlib.Core.Bool.{Bool, true, false, ◌&&◌}
use mathlib.Core.Path.{◌≡◌, refl, sym, ap, subst, ◌∙◌}
use mathlib.Core.List.{List, [], ◌∷◌, ◌++◌}
use Prim.Native.Nat.{ℕ, zero, suc, ◌+◌, ◌-◌, ◌≤◌, ◌<◌}
use native.Mathlib.Omega.{arith}
use native.Mathlib.Decide.{ℕ_discrete, dec_lt}
use borrow.Author.Tests.{leb-true, leb-false}
use lib.Dec.{leb}
use lib.ListN.{length, get_or, drop, length-append}
use Rattle.reading.specs.Reading.{Reading, got, refusal}
use Rattle.tagged.specs.Lines.{Name, Line, heading, broader, narrower, other, line_of, lines_from, lines_of}
use Rattle.tagged.specs.Listing.{Relation, Lists, Broader, headings_of, relation, lists_from, broader_of, broader_from, broader_in}
use Rattle.terms.specs.Places.{end_of, bytes_of}
use Rattle.tagged.specs.Terms.{rules_for}
use Rattle.tagged.specs.Laid.{laid}
use Rattle.tagged.specs.Write.{passes}
use Rattle.terms.specs.TermRows.{broader_rows, Terms, Fitting, TermsAs, terms_told, refused_as, held_as}
use Rattle.terms.specs.Gathering.{FewHeadings, Within, LineTaken, RoomFor, within_by}
use Rattle.terms.specs.declared.terms.Sum.{Sum}
use Rattle.tagged.proofs.Accepted.{row_count_lem}
use Rattle.terms.proofs.LineWays.{line-at, line-cut-at, lines_past}
use Rattle.tagged.proofs.Sizes.{heading_bytes, all_bytes, Short, book-bytes, passes-row, passes-bytes, passes_none}
use Rattle.terms.proofs.TermWays.{grown_small}
use Rattle.terms.proofs.TermsRead.{Read, read_of, all-headings, more-relations, past-heading, past-broader, past-narrower, past-other}
use Rattle.terms.proofs.TermsRead.{known-later, broader_append, broader-others, narrower-none}
use Rattle.terms.proofs.TermsExact.{rows_told, held_exact}
use Rattle.terms.proofs.TermsHeld.{Held, rows_of, held_none, held-heading, held-narrower, held-broader, own_grown}

-- ---- rows by their numbers

pub row_at : (headings : List Name) (relations : List Relation) (n x y : ℕ) → y < n
    → get_or (rows_of headings relations n x) y [] ≡ broader_of headings relations (x + y)
unfolding broader_from
row_at headings relations zero x y low = absurd (omega arith)
row_at headings relations (suc n) x zero low = let same : x + 0 ≡ x = omega arith in rw same refl
row_at headings relations (suc n) x (suc y) low =
    let next : x + suc y ≡ suc x + y = omega arith in
    rw next (row_at headings relations n (suc x) y (omega arith))

row-past : (headings : List Name) (relations : List Relation) (n x y : ℕ) → n ≤ y → get_or (rows_of headings relations n x) y [] ≡ []
unfolding broader_from
row-past headings relations zero x y high = refl
row-past headings relations (suc n) x zero high = absurd (omega arith)
row-past headings relations (suc n) x (suc y) high = row-past headings relations n (suc x) y (omega arith)

-- the rows held are these
rows-held : (headings : List Name) (relations : List Relation) (from to : List ℕ) (n x : ℕ)
    → ((y : ℕ) → y < x + n → bytes_of to (get_or from y 0) (get_or from (suc y) 0) ≡ broader_of headings relations y)
    → broader_rows from to n x ≡ rows_of headings relations n x
unfolding broader_rows broader_from
rows-held headings relations from to zero x is = refl
rows-held headings relations from to (suc n) x is =
    let rest = rows-held headings relations from to n (suc x) (λ y low. is y (omega arith)) in
    rw (is x (omega arith), rest) refl

-- ---- more relations, and more headings, have more bytes

bytes_rise : (k m : ℕ) → heading_bytes k ≤ heading_bytes (k + m)
unfolding heading_bytes
bytes_rise zero zero = omega arith
bytes_rise zero (suc m) = let same : 0 + suc m ≡ suc m = omega arith in rw same (omega arith)
bytes_rise (suc k) m = let same : suc k + m ≡ suc (k + m) = omega arith in rw same (omega arith)

rows_rise : (headings : List Name) (front later : List Relation) (n more x : ℕ)
    → all_bytes (rows_of headings front n x) ≤ all_bytes (rows_of headings (front ++ later) (n + more) x)
unfolding broader_from all_bytes
rows_rise headings front later zero more x = omega arith
rows_rise headings front later (suc n) more x =
    let count : suc n + more ≡ suc (n + more) = omega arith in
    let row = broader_of headings front x in
    let rest = broader_of headings later x in
    let long : length (broader_of headings (front ++ later) x) ≡ length row + length rest =
    ap length (broader_append headings front later x) ∙ length-append row rest in
    let wider = ap heading_bytes long in
    rw count (omega (arith, rows_rise headings front later n more (suc x), bytes_rise (length row) (length rest), wider))

-- ---- what is told

abbrev pub Told : Terms → Reading Broader → Type 0
Told t r = (t ≡ terms_told r) × TermsAs t r

pub as_over : (terms : Broader) (line : ℕ) → passes terms ≡ true → Told (refused_as 43 0) (got terms line)
as_over terms line is = rw (is, terms_told, TermsAs) (refl, (refl, refl))

as_fitting : (t : Terms) (terms : Broader) (line : ℕ) → passes terms ≡ false → t ≡ held_as terms → Fitting t terms → Told t (got terms line)
as_fitting t terms line is exact fitting = rw (is, terms_told, TermsAs) (exact, fitting)

-- ---- what holds at place `at`

pub record Going (s : List ℕ) (at : ℕ) (sum : Sum) (from to : List ℕ) : Type 0 where
  -- the listing is good
  pub terms : Broader
  pub line : ℕ
  pub good : broader_in s ≡ got terms line
  pub few : length terms ≤ 341
  pub read : Read s terms
  -- its lines so far
  pub headings : List Name
  pub relations : List Relation
  pub n : ℕ
  pub goes : lists_from headings relations n (lines_from [] (drop at s)) ≡ got read.lists read.last
  pub held : Held read.lists.headings relations (length headings) sum from to
  pub short : sum.own ≤ 16 → (y : ℕ) → length (broader_of read.lists.headings relations y) ≤ 16

-- at first
pub going-first : (s from to : List ℕ) → FewHeadings (broader_in s) → length from ≡ 342 → length to ≡ 2736
    → ((y : ℕ) → get_or from y 0 ≡ 0) → ((i : ℕ) → get_or to i 0 ≡ 0)
    → Going s 0 (record { headings = 0; own = 0; terms = 0; size = 5 }) from to
unfolding lines_of broader_of
going-first s from to few from-long to-long from-none to_none = by (broader_in s) refl few
  where
    by : (r : Reading Broader) → broader_in s ≡ r → FewHeadings r → Going s 0 (record { headings = 0; own = 0; terms = 0; size = 5 }) from to
    by (refusal c l) is few = elim few [ ]
    by (got terms line) is few =
        let read = read_of s is in
        record {
          terms = terms;
          line = line;
          good = is;
          few = few;
          read = read;
          headings = [];
          relations = [];
          n = 1;
          goes = read.read;
          held = held_none read.lists.headings from to from-long to-long from-none to_none;
          short = λ own y. omega arith;
        }

-- its headings are few
pub few-names : (s : List ℕ) → FewHeadings (broader_in s) → length (headings_of (lines_of s)) ≤ 341
few-names s few = by (broader_in s) refl few
  where
    by : (r : Reading Broader) → broader_in s ≡ r → FewHeadings r → length (headings_of (lines_of s)) ≤ 341
    by (refusal c l) is few = elim few [ ]
    by (got terms line) is few =
        let read = read_of s is in
        omega (arith, ap length read.told, row_count_lem read.lists (length read.lists.headings) 0, ap length read.names)

module _ (s : List ℕ) (at : ℕ) (sum : Sum) (from to : List ℕ) (g : Going s at sum from to) where
  abbrev names : List Name
  names = g.read.lists.headings

  abbrev count : ℕ
  count = length g.headings

  -- there are as many rows as headings
  many : length g.terms ≡ length names
  many = ap length g.read.told ∙ row_count_lem g.read.lists (length names) 0

  ahead : (later : List Name) × (names ≡ g.headings ++ later)
  ahead = (headings_of (lines_from [] (drop at s)), all-headings g.headings g.relations g.n (lines_from [] (drop at s)) g.goes)

  so_far : count ≤ length names
  so_far = omega (arith, ap length ahead.1, length-append g.headings ahead.0)

  later : (rest : List Relation) × (g.read.lists.relations ≡ g.relations ++ rest)
  later = more-relations g.headings g.relations g.n (lines_from [] (drop at s)) g.goes

  -- all rows, with the relations so far in front
  told : g.terms ≡ rows_of names (g.relations ++ later.0) (length names) 0
  told = g.read.told ∙ ap (λ l. rows_of names l (length names) 0) later.1

  -- the size so far is within
  pub going-within : within_by sum ≡ true → Within sum
  going-within is = by (leb sum.own 16) refl is
    where
      by : (t : Bool) → leb sum.own 16 ≡ t → (t && leb sum.size 32768) ≡ true → Within sum
      by false e is = absurd (let z : ◌≡◌ {A = ℕ} 0 1 = cc in omega arith)
      by true e is =
          record {
            headings = omega (arith, g.held.count, so_far, many, g.few);
            own = leb-true sum.own 16 e;
            terms = omega (arith, g.held.terms, grown_small sum.own);
            size = leb-true sum.size 32768 is;
          }

  -- a size is passed
  over-own : 16 < sum.own → passes g.terms ≡ true
  over-own long = by count refl
    where
      by : (x : ℕ) → count ≡ x → passes g.terms ≡ true
      by zero is = absurd (omega (arith, g.held.fresh is))
      by (suc y) is =
          let row = broader_of names g.relations y in
          let rest = broader_of names later.0 y in
          let same : 0 + y ≡ y = omega arith in
          let here : get_or g.terms y [] ≡ row ++ rest =
          ap (λ l. get_or l y []) told ∙ row_at names (g.relations ++ later.0) (length names) 0 y (omega (arith, so_far))
          ∙ rw same (broader_append names g.relations later.0 y) in
          passes-row g.terms y (omega (arith, ap length here, length-append row rest, g.held.own y is))

  over-size : 32768 < sum.size → passes g.terms ≡ true
  over-size large =
      let more = length names - count in
      let all : count + more ≡ length names = omega (arith, so_far) in
      let rise = rows_rise names g.relations later.0 count more 0 in
      let same : all_bytes (rows_of names (g.relations ++ later.0) (count + more) 0) ≡ all_bytes g.terms =
      ap (λ k. all_bytes (rows_of names (g.relations ++ later.0) k 0)) all ∙ ap all_bytes (sym told) in
      passes-bytes g.terms (omega (arith, g.held.size))

  pub going-over : within_by sum ≡ false → passes g.terms ≡ true
  going-over is = by (leb sum.own 16) refl is
    where
      by : (t : Bool) → leb sum.own 16 ≡ t → (t && leb sum.size 32768) ≡ false → passes g.terms ≡ true
      by false e is = over-own (leb-false sum.own 16 e)
      by true e is = over-size (leb-false sum.size 32768 is)

  -- so 43 is told
  pub told_over : within_by sum ≡ false → Told (refused_as 43 0) (broader_in s)
  told_over is = subst (λ (r : Reading Broader). Told (refused_as 43 0) r) (sym g.good) (as_over g.terms g.line (going-over is))

  -- ---- one line more

  module _ (inside : at < length s) where
    -- a newline ends it
    pub line-ends : end_of s at < length s
    line-ends = by (dec_lt (end_of s at) (length s))
      where
        by : Dec (end_of s at < length s) → end_of s at < length s
        by (yes low) = low
        by (no high) =
            let cut : lists_from g.headings g.relations g.n (other ∷ []) ≡ got g.read.lists g.read.last =
            rw (line-cut-at s at inside (omega (arith, high))) at g.goes in
            absurd (past-other g.headings g.relations g.n [] cut)

    abbrev here : Line
    here = line_of (bytes_of s at (end_of s at))

    abbrev rest : List Line
    rest = lines_from [] (drop (end_of s at + 1) s)

    now-goes : lists_from g.headings g.relations g.n (here ∷ rest) ≡ got g.read.lists g.read.last
    now-goes = rw (line-at s at line-ends) at g.goes

    -- there is room for it
    module _ (within : Within sum) where
      room_for : (line : Line) → lists_from g.headings g.relations g.n (line ∷ rest) ≡ got g.read.lists g.read.last → RoomFor names line sum
      room_for (heading name) is =
          let on = past-heading g.headings g.relations g.n name rest is in
          let all = all-headings (g.headings ++ (name ∷ [])) g.relations (suc g.n) rest on in
          let long = ap length all ∙ length-append (g.headings ++ (name ∷ [])) (headings_of rest) in
          omega (arith, long, length-append g.headings (name ∷ []), g.held.count, many, g.few)
      room_for (broader name) is =
          let (some, on) = past-broader g.headings g.relations g.n name rest is in
          let r = relation g.n g.headings true name in
          let (after, more) = more-relations g.headings (g.relations ++ (r ∷ [])) (suc g.n) rest on in
          omega (arith, known-later r g.relations after g.read.known more, many, g.few)
      room_for (narrower name) is = tt
      room_for other is = tt

      pub going-room : RoomFor (headings_of (lines_of s)) here sum
      going-room = rw g.read.names at (room_for here now-goes)

      module _ (after : Sum) (from' to' : List ℕ) where
        -- what holds behind it
        abbrev Next : List Line → Type 0
        Next lines = (hs : List Name) × (rs : List Relation) × (m : ℕ) × (lists_from hs rs m lines ≡ got g.read.lists g.read.last)
            × (Held names rs (length hs) after from' to') × (after.own ≤ 16 → (y : ℕ) → length (broader_of names rs y) ≤ 16)

        short-now : (y : ℕ) → length (broader_of names g.relations y) ≤ 16
        short-now = g.short within.own

        step : (line : Line) → lists_from g.headings g.relations g.n (line ∷ rest) ≡ got g.read.lists g.read.last
            → LineTaken names line sum after from from' to to' → Next rest
        step (heading name) is taken =
            let hs = g.headings ++ (name ∷ []) in
            let on = past-heading g.headings g.relations g.n name rest is in
            let long : length hs ≡ suc count = length-append g.headings (name ∷ []) ∙ omega arith in
            let few = room_for (heading name) is in
            let held = held-heading names g.relations count sum from to g.held (omega (arith, g.held.count)) in
            (hs, g.relations, suc g.n, on, rw (long, taken.sums, taken.opened, taken.filled) held, λ own. short-now)
        step (broader name) is taken =
            let (some, on) = past-broader g.headings g.relations g.n name rest is in
            let r = relation g.n g.headings true name in
            let z = count - 1 in
            let last : count ≡ suc z = omega (arith, some) in
            let (more, split) = more-relations g.headings (g.relations ++ (r ∷ [])) (suc g.n) rest on in
            let low = known-later r g.relations more g.read.known split in
            let few : count ≤ 341 = omega (arith, g.held.count, within.headings) in
            let small : sum.terms < 2736 = omega (arith, within.terms, within.size) in
            let held = held-broader names g.relations count sum from to g.held g.n z name last few small low in
            let grown = own_grown names g.relations count sum from to g.held g.n z name last few small low in
            let own-after : after.own ≡ sum.own + 1 = ap (λ (k : Sum). k.own) taken.sums in (
              g.headings,
              g.relations ++ (r ∷ []),
              suc g.n,
              on,
              rw (taken.sums, taken.opened, taken.filled) held,
              λ own y. by-short z g.n name y (omega (arith, grown)) (ℕ_discrete z y),
            )
          where
            by-short : (z n : ℕ) (name : Name) (y : ℕ)
                → length (broader_of names (g.relations ++ (record { line = n; under = z; is_broader = true; name = name } ∷ [])) z) ≤ 16
                → Dec (z ≡ y)
                → length (broader_of names (g.relations ++ (record { line = n; under = z; is_broader = true; name = name } ∷ [])) y) ≤ 16
            by-short z n name y own (yes is) =
                subst (λ k. length (broader_of names (g.relations ++ (record { line = n; under = z; is_broader = true; name = name } ∷ [])) k) ≤ 16) is own
            by-short z n name y own (no differs) = rw (broader-others names g.relations n z name y differs) (short-now y)
        step (narrower name) is taken =
            let on = past-narrower g.headings g.relations g.n name rest is in
            let r = relation g.n g.headings false name in
            let z = count - 1 in
            let held = held-narrower names g.relations count sum from to g.held g.n z name in (
              g.headings,
              g.relations ++ (r ∷ []),
              suc g.n,
              on,
              rw (taken.sums, taken.opened, taken.filled) held,
              λ own y. rw (narrower-none names g.relations g.n z name y) (short-now y),
            )
        step other is taken = absurd (past-other g.headings g.relations g.n rest is)

        -- THE LINE IS TAKEN, and the pass goes on behind it.
        pub going_on_lem : LineTaken (headings_of (lines_of s)) here sum after from from' to to' → Going s (end_of s at + 1) after from' to'
        going_on_lem taken =
            let (hs, rs, m, goes, held, short) = step here now-goes (rw (← g.read.names) at taken) in
            record {
              terms = g.terms;
              line = g.line;
              good = g.good;
              few = g.few;
              read = g.read;
              headings = hs;
              relations = rs;
              n = m;
              goes = goes;
              held = held;
              short = short;
            }

  -- ---- behind the last line

  module _ (within : Within sum) (past : length s ≤ at) where
    done : lists_from g.headings g.relations g.n [] ≡ got g.read.lists g.read.last
    done = rw (lines_past s at past) at g.goes

    same_lists : record { headings = g.headings; relations = g.relations } ≡ g.read.lists
    unfolding lists_from
    same_lists = cc done

    told-done : g.terms ≡ rows_of names g.relations count 0
    told-done =
        let hs : names ≡ g.headings = ap (λ (l : Lists). l.headings) (sym same_lists) in
        let rs : g.read.lists.relations ≡ g.relations = ap (λ (l : Lists). l.relations) (sym same_lists) in
        g.read.told ∙ ap (λ l. rows_of names l (length names) 0) rs ∙ ap (λ k. rows_of names g.relations k 0) (ap length hs)

    short-done : Short g.terms
    short-done y = by (dec_lt y count)
      where
        by : Dec (y < count) → length (get_or g.terms y []) ≤ 16
        by (yes low) =
            let same : 0 + y ≡ y = omega arith in
            let row = ap (λ l. get_or l y []) told-done ∙ row_at names g.relations count 0 y low in
            omega (arith, ap length row, ap (λ k. length (broader_of names g.relations k)) same, g.short within.own y)
        by (no high) = omega (arith, ap length (ap (λ l. get_or l y []) told-done ∙ row-past names g.relations count 0 y (omega (arith, high))))

    none_passed : passes g.terms ≡ false
    none_passed =
        let size = ap all_bytes told-done in
        passes_none g.terms g.few short-done (omega (arith, g.held.size, within.size))

    count-done : count ≡ length g.terms
    count-done = omega (arith, ap length told-done, row_count_lem (record { headings = names; relations = g.relations }) count 0)

    abbrev told_rows : Terms
    told_rows = rows_told sum.headings sum.size from to

    size-done : sum.size ≡ length (laid (rules_for g.terms))
    size-done = omega (arith, g.held.size, book-bytes g.terms, ap all_bytes told-done)

    many-done : sum.headings ≡ length g.terms
    many-done = omega (arith, g.held.count, count-done)

    places-done : (x : ℕ) → x ≤ count → get_or from x 0 ≤ 2736
    places-done x low = omega (arith, g.held.filled x low, within.terms, within.size)

    rows-done : broader_rows from to count 0 ≡ g.terms
    rows-done = rows-held names g.relations from to count 0 (λ y low. g.held.rows y (omega arith)) ∙ sym told-done

    -- THE ROWS hold the terms of the listing.
    fitting_done : Fitting told_rows g.terms
    fitting_done = record {
      none = refl;
      headings = many-done;
      size = size-done;
      hold = rw (← count-done) (record {
        few = omega (arith, g.few, count-done);
        opens = g.held.opens;
        rising = g.held.rising;
        filled = places-done;
        inside = λ i low. omega (arith, g.held.inside i (omega (arith, g.held.ends)), many, count-done);
      });
      rows = rw (← count-done) rows-done;
    }

    exact_done : told_rows ≡ held_as g.terms
    exact_done =
        ap (λ k. rows_told k sum.size from to) g.held.count
        ∙ held_exact g.terms from to count sum.size count-done size-done g.held.from_long g.held.to_long (omega (arith, g.few, count-done))
        g.held.opens g.held.rising places-done g.held.from_none (λ i high. g.held.to_none i (omega (arith, g.held.ends))) rows-done

    pub told_fitting : Told told_rows (broader_in s)
    told_fitting =
        subst (λ (r : Reading Broader). Told told_rows r) (sym g.good) (as_fitting told_rows g.terms g.line none_passed exact_done fitting_done)
