-- Blocks of headings: what a line changes while a table is filled, and while the lines behind are looked up in it.
use mathlib.Core.Bool.{Bool, true, false}
use mathlib.Core.Path.{◌≡◌, refl, sym, ap, ◌∙◌}
use mathlib.Core.List.{List, [], ◌∷◌}
use Prim.Native.Nat.{ℕ, zero, suc, ◌+◌, ◌-◌, ◌≤◌, ◌<◌}
use native.Mathlib.Omega.{arith}
use native.Mathlib.Decide.{ℕ_discrete, dec_lt}
use lib.ListN.{length, get_or, drop, set}
use lib.Seq.{get_or-drop, drop-drop, get_or-set_same, get_or-set_other}
use Rattle.tagged.specs.Lines.{Name, Line, heading, broader, narrower, other, same, lines_of}
use Rattle.terms.specs.Places.{end_of}
use Rattle.terms.specs.Judging.{kind_of, name_at, line_at}
use Rattle.std.specs.Prelude.{Some, None}
use Rattle.terms.specs.declared.judge.Entry.TheVariants.{Given, New, NoHeading}
use Rattle.terms.specs.declared.judge.Filled.TheVariants.{Twice, Full, Over}
use Rattle.terms.specs.Blocks.{gives, gives_same, nth, Once, TwiceFirst, table_size, name_of, Table, Entered, Block, Begins, Known, KnownBy, KnownFirst, FilledAs}
use Rattle.terms.proofs.LineWays.{line-at, line-cut-at, lines_past}
use Rattle.terms.proofs.JudgeWays.{heading-bytes}
use Rattle.terms.proofs.TwiceChains.{table_more}

-- ---- lines by number and by place

abbrev No : Bool → Type 0
No t = t ≡ true → ⊥

no_false : {t : Bool} → t ≡ false → No t
no_false e is = let z : ◌≡◌ {A = ℕ} 0 1 = (let f : true ≡ false = sym is ∙ e in cc) in omega arith

gives_kind : (old : Name) (l : Line) → gives old l ≡ true → kind_of l ≡ 1
gives_kind old (heading x) is = refl
gives_kind old (broader x) is = absurd (no_false refl is)
gives_kind old (narrower x) is = absurd (no_false refl is)
gives_kind old other is = absurd (no_false refl is)

-- both lines are headings' own
pub both_head : (l m : Line) → gives_same l m ≡ true → (old : Name) × (l ≡ heading old) × (gives old m ≡ true)
both_head (heading x) m is = (x, refl, is)
both_head (broader x) m is = absurd (no_false refl is)
both_head (narrower x) m is = absurd (no_false refl is)
both_head other m is = absurd (no_false refl is)

same-other : (l : Line) → No (gives_same l other)
same-other (heading x) = no_false refl
same-other (broader x) = no_false refl
same-other (narrower x) = no_false refl
same-other other = no_false refl

same_kind : (l m : Line) → gives_same l m ≡ true → kind_of m ≡ 1
same_kind l m is = let b = both_head l m is in gives_kind b.0 m b.2

module _ (s : List ℕ) (p n : ℕ) (b : Begins s p n) where
  nth-from : (j : ℕ) → n - 1 ≤ j → nth s j ≡ get_or (drop (n - 1) (lines_of s)) (j - (n - 1)) other
  nth-from j low =
      let e : n - 1 + (j - (n - 1)) ≡ j = omega arith in
      ap (λ m. get_or (lines_of s) m other) (sym e) ∙ sym (get_or-drop (n - 1) (lines_of s) (j - (n - 1)) other)

  -- past the listing no line gives a heading
  pub nth_past : length s ≤ p → (j : ℕ) → n - 1 ≤ j → nth s j ≡ other
  nth_past over j low = nth-from j low ∙ ap (λ l. get_or l (j - (n - 1)) other) (sym b.stands ∙ lines_past s p over)

  pub nth_cut : p < length s → length s ≤ end_of s p → (j : ℕ) → n - 1 ≤ j → nth s j ≡ other
  nth_cut some over j low = nth-from j low ∙ ap (λ l. get_or l (j - (n - 1)) other) (sym b.stands ∙ line-cut-at s p some over) ∙ one (j - (n - 1))
    where
      one : (m : ℕ) → get_or (other ∷ []) m other ≡ other
      one zero = refl
      one (suc m) = refl

  module _ (inside : end_of s p < length s) where
    pub nth_here : nth s (n - 1) ≡ line_at s p
    nth_here =
        let e : n - 1 - (n - 1) ≡ 0 = omega arith in
        nth-from (n - 1) (omega arith) ∙ rw e (ap (λ l. get_or l 0 other) (sym b.stands ∙ line-at s p inside))

    pub begins-on : end_of s p + 1 ≤ length s → p ≤ end_of s p → Begins s (end_of s p + 1) (n + 1)
    begins-on within later =
        let e : n + 1 - 1 ≡ n - 1 + 1 = omega (arith, b.some) in
        record {
          stands = rw e (sym (ap (drop 1) (line-at s p inside)) ∙ ap (drop 1) b.stands ∙ drop-drop 1 (n - 1) (lines_of s));
          some = omega arith;
          few = omega (arith, b.few);
        }

-- ---- once

once-past : (s : List ℕ) (low m until : ℕ) → Once s low m → ((j : ℕ) → m ≤ j → nth s j ≡ other) → Once s low until
once-past s low m until once past i j above less high is = by (dec_lt j m)
  where
    by : Dec (j < m) → ⊥
    by (yes under) = once i j above less under is
    by (no over) = same-other (nth s i) (sym (ap (gives_same (nth s i)) (past j (omega arith))) ∙ is)

once_more : (s : List ℕ) (low m : ℕ) → Once s low m → ((i : ℕ) → low ≤ i → i < m → No (gives_same (nth s i) (nth s m))) → Once s low (m + 1)
once_more s low m once here i j above less high is = by (ℕ_discrete j m)
  where
    by : Dec (j ≡ m) → ⊥
    by (yes e) = here i above (omega arith) (sym (ap (λ k. gives_same (nth s i) (nth s k)) e) ∙ is)
    by (no differs) = once i j above less (omega (arith, differs)) is

-- ---- filling

pub block_start : (s : List ℕ) (low : ℕ) (place before last : List ℕ) → Table s place before last 0 → Block s low low place before last 0
block_start s low place before last t =
    record {
      table = t;
      from = λ k less. absurd (omega arith);
      all = λ i above less. absurd (omega arith);
      once = λ i j above less high. absurd (omega arith);
    }

module _ (s : List ℕ) (low p n : ℕ) (b : Begins s p n) (place before last : List ℕ) (count : ℕ) (block : Block s low (n - 1) place before last count) where
  pub over-past : length s ≤ p → (until : ℕ) → Once s low until
  over-past over until = once-past s low (n - 1) until block.once (nth_past s p n b over)

  pub over-cut : p < length s → length s ≤ end_of s p → (until : ℕ) → Once s low until
  over-cut some over until = once-past s low (n - 1) until block.once (nth_cut s p n b some over)

  pub over_until : (until : ℕ) → until < n → Once s low until
  over_until until past i j above less high = block.once i j above less (omega arith)

  module _ (inside : end_of s p < length s) (place' before' last' : List ℕ) where
    here : nth s (n - 1) ≡ line_at s p
    here = nth_here s p n b inside

    -- a heading of the block again
    pub block_twice : Entered Given s p count place before last place' before' last' → (until : ℕ) → n ≤ until → TwiceFirst s low until n
    block_twice e until within =
        let given = e in
        let sought = given.1 in
        let k = sought.0 in
        let from = block.from k sought.1 in
        let is = heading-bytes (name_at s p) given.0 in
        record {
          some = b.some;
          within = within;
          old = from.0;
          before = from.1;
          again = rw (from.2, here ∙ is) sought.2;
          once = block.once;
        }

    e-suc : n + 1 - 1 ≡ n - 1 + 1
    e-suc = omega (arith, b.some)

    -- no heading
    pub block_none : Entered NoHeading s p count place before last place' before' last' → Block s low (n + 1 - 1) place' before' last' count
    block_none e =
        let none = e in
        let nothing : (old : Line) → No (gives_same old (nth s (n - 1))) = λ old is. none.0 (sym (ap kind_of here) ∙ same_kind old (nth s (n - 1)) is) in
        rw (e-suc, none.1, none.2, none.3)
        record {
          table = block.table;
          from = λ k less. (let f = block.from k less in (f.0, omega (arith, f.1), f.2));
          all = λ i above less name is. all_none none.0 i above less name is;
          once = once_more s low (n - 1) block.once (λ i above less. nothing (nth s i));
        }
      where
        all_none : (kind_of (line_at s p) ≡ 1 → ⊥) → (i : ℕ) → low ≤ i → i < n - 1 + 1 → (name : Name) → nth s i ≡ heading name → (k : ℕ) × (k < count) × (name_of s place k ≡ name)
        all_none not-1 i above less name is = by (ℕ_discrete i (n - 1))
          where
            by : Dec (i ≡ n - 1) → (k : ℕ) × (k < count) × (name_of s place k ≡ name)
            by (yes e) = absurd (not-1 (ap kind_of (sym here ∙ ap (nth s) (sym e) ∙ is)))
            by (no differs) = block.all i above (omega (arith, differs)) name is

    -- a new heading
    module _ (e : Entered New s p count place before last place' before' last') (there : p ≤ length s) (room : count < table_size) where
      is : nth s (n - 1) ≡ heading (name_at s p)
      is = here ∙ heading-bytes (name_at s p) e.0

      placed : place' ≡ set place count p
      placed = e.2

      name-last : name_of s place' count ≡ name_at s p
      name-last = ap (λ l. name_of s l count) placed ∙ ap (name_at s) (get_or-set_same place count p 0 (omega (arith, block.table.sized.0)))

      name-old : (k : ℕ) → k < count → name_of s place' k ≡ name_of s place k
      name-old k less = ap (λ l. name_of s l k) placed ∙ ap (name_at s) (get_or-set_other place count k p 0 (λ f. omega arith))

      from-new : (k : ℕ) → k < count + 1 → Dec (k ≡ count) → (i : ℕ) × (i < n - 1 + 1) × (nth s i ≡ heading (name_of s place' k))
      from-new k less (yes f) = (n - 1, omega arith, is ∙ ap heading (sym (ap (name_of s place') f ∙ name-last)))
      from-new k less (no differs) =
          let low : k < count = omega (arith, differs) in
          let f = block.from k low in
          (f.0, omega (arith, f.1), f.2 ∙ ap heading (sym (name-old k low)))

      all_new : (i : ℕ) → Dec (i ≡ n - 1) → low ≤ i → i < n - 1 + 1 → (name : Name) → nth s i ≡ heading name → (k : ℕ) × (k < count + 1) × (name_of s place' k ≡ name)
      all_new i (yes f) above less name g =
          let h : heading (name_at s p) ≡ heading name = sym is ∙ ap (nth s) (sym f) ∙ g in
          let own : name_at s p ≡ name = cc in
          (count, omega arith, name-last ∙ own)
      all_new i (no differs) above less name g =
          let o = block.all i above (omega (arith, differs)) name g in
          (o.0, omega (arith, o.1), name-old o.0 o.1 ∙ o.2)

      once-new : (i : ℕ) → low ≤ i → i < n - 1 → No (gives_same (nth s i) (nth s (n - 1)))
      once-new i above less g =
          let both = both_head (nth s i) (nth s (n - 1)) g in
          let o = block.all i above less both.0 both.1 in
          let same' : same (name_at s p) both.0 ≡ true = sym (ap (gives both.0) is) ∙ both.2 in
          e.1 o.0 o.1 (ap (same (name_at s p)) o.2 ∙ same')

      pub block_new : Block s low (n + 1 - 1) place' before' last' (count + 1)
      block_new =
          rw e-suc
          record {
            table = rw (placed, e.3, e.4) (table_more s place before last count block.table p there room);
            from = λ k less. from-new k less (ℕ_discrete k count);
            all = λ i above less name g. all_new i (ℕ_discrete i (n - 1)) above less name g;
            once = once_more s low (n - 1) block.once once-new;
          }

-- ---- what is told of a filling

module _ (s : List ℕ) (at line until p n : ℕ) (place before last : List ℕ) where
  pub told_over : Once s (line - 1) until → FilledAs Over s at line until place before last
  told_over once = once

  pub told-twice : TwiceFirst s (line - 1) until n → FilledAs (Twice n) s at line until place before last
  told-twice first = first

  pub told-full : Block s (line - 1) (n - 1) place before last table_size → Begins s p n → at < p → line ≤ n
      → FilledAs (Full p n) s at line until place before last
  told-full block begins later on = (block, begins, later, on)

-- ---- looking up

known-other : (s place : List ℕ) (j : ℕ) → nth s j ≡ other → Known s place j → ⊥
known-other s place j e known = no_false refl (sym (ap (gives (name_of s place known.0)) e) ∙ known.2)

-- no line passed is known
abbrev pub Unknown : List ℕ → List ℕ → ℕ → ℕ → Type 0
Unknown s place line n = (j : ℕ) → line - 1 ≤ j → j < n - 1 → Known s place j → ⊥

module _ (s place : List ℕ) (line until p n : ℕ) (b : Begins s p n) (on : line ≤ n) (so : Unknown s place line n) where
  not-past : ((j : ℕ) → n - 1 ≤ j → nth s j ≡ other) → KnownFirst s place line until None
  not-past past =
      λ j low high known. by j low known (dec_lt j (n - 1))
    where
      by : (j : ℕ) → line - 1 ≤ j → Known s place j → Dec (j < n - 1) → ⊥
      by j low known (yes under) = so j low under known
      by j low known (no over) = known-other s place j (past j (omega arith)) known

  pub known_past : length s ≤ p → KnownFirst s place line until None
  known_past over = not-past (nth_past s p n b over)

  pub known-cut : p < length s → length s ≤ end_of s p → KnownFirst s place line until None
  known-cut some over = not-past (nth_cut s p n b some over)

  pub known_until : until < n → KnownFirst s place line until None
  known_until past =
      λ j low high known. so j low (omega arith) known

  module _ (inside : end_of s p < length s) where
    line-here : nth s (n - 1) ≡ line_at s p
    line-here = nth_here s p n b inside

    pub known-here : n ≤ until → (r : Bool) → KnownBy r s place p → r ≡ true → KnownFirst s place line until (Some n)
    known-here within true told e = (within, on, (told.0, told.1, rw line-here told.2), so)
    known-here within false told e = absurd (no_false refl e)

    pub known_on : (r : Bool) → KnownBy r s place p → r ≡ false → Unknown s place line (n + 1)
    known_on true told e = absurd (no_false e refl)
    known_on false told e = λ j low high known. by j low high known (ℕ_discrete j (n - 1))
      where
        by : (j : ℕ) → line - 1 ≤ j → j < n + 1 - 1 → Known s place j → Dec (j ≡ n - 1) → ⊥
        by j low high known (yes f) = told known.0 known.1 (sym (ap (gives (name_of s place known.0)) (ap (nth s) f ∙ line-here)) ∙ known.2)
        by j low high known (no differs) = so j low (omega (arith, differs)) known
