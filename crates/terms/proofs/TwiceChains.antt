-- Chains of equal hash: how a row is cleared, how a name is sought, and how one more entry is linked in.
use mathlib.Core.Bool.{Bool, true, false}
use mathlib.Core.Path.{◌≡◌, refl, sym, ap, ◌∙◌}
use mathlib.Core.List.{List}
use Prim.Native.Nat.{ℕ, ◌+◌, ◌*◌, ◌-◌, ◌%◌, ◌≤◌, ◌<◌}
use native.Mathlib.Omega.{arith}
use native.Mathlib.Decide.{ℕ_discrete, dec_lt}
use lib.ListN.{length, get_or, set, length-set, get_or-eq_default}
use lib.Seq.{get_or-set_same, get_or-set_other}
use Rattle.tagged.specs.Lines.{Name, Line, heading, broader, narrower, other, same}
use Rattle.terms.specs.Places.{end_of, bytes_of}
use Rattle.terms.specs.declared.judge.Entry.TheVariants.{Given, New, NoHeading}
use Rattle.terms.specs.Blocks.{hash_from, hash_of, table_size, Sized, Cleared, Chained, Headed, Sought, name_of, Inside, Table, Entered, KnownBy, gives}
use Rattle.terms.specs.Judging.{kind_of, name_at, line_at}
use Rattle.terms.proofs.JudgeWays.{heading-bytes}
use Rattle.terms.proofs.NameWays.{bytes-more, bytes-none}
use Rattle.terms.proofs.MirrorParts.{same-equal}

-- ---- clearing

pub clear-more : (last : List ℕ) (h : ℕ) → h < length last → ((k : ℕ) → k < h → get_or last k 0 ≡ 0) → (k : ℕ) → k < h + 1 → get_or (set last h 0) k 0 ≡ 0
clear-more last h some zeros k less = by (ℕ_discrete k h)
  where
    by : Dec (k ≡ h) → get_or (set last h 0) k 0 ≡ 0
    by (yes is) = rw is (get_or-set_same last h 0 0 some)
    by (no differs) = get_or-set_other last h k 0 0 differs ∙ zeros k (omega (arith, differs))

pub clear-all : (last : List ℕ) (h : ℕ) → length last ≤ h → ((k : ℕ) → k < h → get_or last k 0 ≡ 0) → (k : ℕ) → get_or last k 0 ≡ 0
clear-all last h over zeros k = by (dec_lt k h)
  where
    by : Dec (k < h) → get_or last k 0 ≡ 0
    by (yes less) = zeros k less
    by (no not) = get_or-eq_default last 0 (omega arith)

-- ---- hashes

module _ (s : List ℕ) (h i to : ℕ) where
  pub hash_more : i < to → i < length s → hash_from h (bytes_of s i to) ≡ hash_from ((h * 257 + get_or s i 0) % 4294967291) (bytes_of s (i + 1) to)
  unfolding hash_from
  hash_more less there = rw (bytes-more s i to less there) refl

  pub hash_none : to ≤ i → hash_from h (bytes_of s i to) ≡ h
  unfolding hash_from
  hash_none over = rw (bytes-none s i to over) refl

-- ---- seeking down a chain

module _ (hash : ℕ → ℕ) (before : List ℕ) where
  pub chained-few : (n m : ℕ) → m ≤ n → Chained hash before n → Chained hash before m
  chained-few n m less c =
      record {
        low = λ k some. c.low k (omega arith);
        own = λ k some. c.own k (omega arith);
        all = λ k j some. c.all k j (omega arith);
      }

module _ (s place before : List ℕ) (n : ℕ) (c : Chained (λ (k : ℕ). hash_of (name_of s place k)) before n) (name : Name) where
  abbrev hash : ℕ → ℕ
  hash k = hash_of (name_of s place k)

  -- entry i - 1, of the name's hash, has another name: the next to look at is the one that it names
  module _ (i : ℕ) (some : 0 < i) (within : i ≤ n) (its : hash (i - 1) ≡ hash_of name) (differs : same name (name_of s place (i - 1)) ≡ false) where
    pub seek_low : get_or before (i - 1) 0 < i
    seek_low = omega (arith, c.low (i - 1) (omega arith))

    pub seek_own : 0 < get_or before (i - 1) 0 → hash (get_or before (i - 1) 0 - 1) ≡ hash_of name
    seek_own more = c.own (i - 1) (omega arith) more ∙ its

    pub seek_none : ((k : ℕ) → i ≤ k → k < n → same name (name_of s place k) ≡ true → ⊥) → (k : ℕ) → get_or before (i - 1) 0 ≤ k → k < n → same name (name_of s place k) ≡ true → ⊥
    seek_none above k low high is = by (dec_lt k i) (ℕ_discrete k (i - 1))
      where
        by : Dec (k < i) → Dec (k ≡ i - 1) → ⊥
        by (no over) last = above k (omega arith) high is
        by (yes less) (yes e) = let z : ◌≡◌ {A = ℕ} 0 1 = (let f : true ≡ false = sym is ∙ ap (λ m. same name (name_of s place m)) e ∙ differs in cc) in omega arith
        by (yes less) (no off) = c.all (i - 1) k (omega arith) low (omega (arith, off)) (ap hash_of (sym (same-equal name (name_of s place k) is)) ∙ sym its)

-- ---- one more entry

-- the hashes of the entries below n stay, and entry n has the hash h
module _ (n h : ℕ) (old new : ℕ → ℕ) (stay : (k : ℕ) → k < n → new k ≡ old k) (its : new n ≡ h) (before last : List ℕ) (room : n < length before) (there : h < length last)
    (small : h < table_size) (chained : Chained old before n) (headed : Headed old last n) where
  abbrev before' : List ℕ
  before' = set before n (get_or last h 0)

  abbrev last' : List ℕ
  last' = set last h (n + 1)

  at_n : get_or before' n 0 ≡ get_or last h 0
  at_n = get_or-set_same before n (get_or last h 0) 0 room

  below-n : (k : ℕ) → k < n → get_or before' k 0 ≡ get_or before k 0
  below-n k less = get_or-set_other before n k (get_or last h 0) 0 (λ e. omega arith)

  at-h : get_or last' h 0 ≡ n + 1
  at-h = get_or-set_same last h (n + 1) 0 there

  off-h : (g : ℕ) → (g ≡ h → ⊥) → get_or last' g 0 ≡ get_or last g 0
  off-h g differs = get_or-set_other last h g (n + 1) 0 differs

  linked_low : (k : ℕ) → Dec (k ≡ n) → k < n + 1 → get_or before' k 0 ≤ k
  linked_low k (yes is) less = rw (is, at_n) (headed.low h)
  linked_low k (no differs) less = let low : k < n = omega (arith, differs) in rw (below-n k low) (chained.low k low)

  linked_own : (k : ℕ) → Dec (k ≡ n) → k < n + 1 → 0 < get_or before' k 0 → new (get_or before' k 0 - 1) ≡ new k
  linked_own k (yes is) less some =
      let some' : 0 < get_or last h 0 = rw at_n at (rw is at some) in
      rw (is, at_n) (stay (get_or last h 0 - 1) (omega (arith, headed.low h)) ∙ headed.own h some' ∙ sym its)
  linked_own k (no differs) less some =
      let low : k < n = omega (arith, differs) in
      let some' : 0 < get_or before k 0 = rw (below-n k low) at some in
      rw (below-n k low) (stay (get_or before k 0 - 1) (omega (arith, chained.low k low)) ∙ chained.own k low some' ∙ sym (stay k low))

  linked_all : (k j : ℕ) → Dec (k ≡ n) → k < n + 1 → get_or before' k 0 ≤ j → j < k → new j ≡ new k → ⊥
  linked_all k j (yes is) less low high e =
      let low' : get_or last h 0 ≤ j = rw at_n at (rw is at low) in
      headed.all h j small low' (omega arith) (sym (stay j (omega arith)) ∙ e ∙ ap new is ∙ its)
  linked_all k j (no differs) less low high e =
      let under : k < n = omega (arith, differs) in
      let low' : get_or before k 0 ≤ j = rw (below-n k under) at low in
      chained.all k j under low' high (sym (stay j (omega arith)) ∙ e ∙ stay k under)

  pub linked : Chained new before' (n + 1)
  linked =
      record {
        low = λ k. linked_low k (ℕ_discrete k n);
        own = λ k. linked_own k (ℕ_discrete k n);
        all = λ k j. linked_all k j (ℕ_discrete k n);
      }

  led_low : (g : ℕ) → Dec (g ≡ h) → get_or last' g 0 ≤ n + 1
  led_low g (yes is) = rw (is, at-h) (omega arith)
  led_low g (no differs) = rw (off-h g differs) (omega (arith, headed.low g))

  led_own : (g : ℕ) → Dec (g ≡ h) → 0 < get_or last' g 0 → new (get_or last' g 0 - 1) ≡ g
  led_own g (yes is) some =
      let e : n + 1 - 1 ≡ n = omega arith in
      rw (is, at-h, e) its
  led_own g (no differs) some =
      let some' : 0 < get_or last g 0 = rw (off-h g differs) at some in
      rw (off-h g differs) (stay (get_or last g 0 - 1) (omega (arith, headed.low g)) ∙ headed.own g some')

  led_all : (g k : ℕ) → Dec (g ≡ h) → Dec (k ≡ n) → g < table_size → get_or last' g 0 ≤ k → k < n + 1 → new k ≡ g → ⊥
  led_all g k (yes is) at-k few low high e =
      let low' : n + 1 ≤ k = rw at-h at (rw is at low) in
      omega arith
  led_all g k (no differs) (yes is) few low high e = differs (sym e ∙ ap new is ∙ its)
  led_all g k (no differs) (no off) few low high e =
      let low' : get_or last g 0 ≤ k = rw (off-h g differs) at low in
      let under : k < n = omega (arith, off) in
      headed.all g k few low' under (sym (stay k under) ∙ e)

  pub led : Headed new last' (n + 1)
  led =
      record {
        low = λ g. led_low g (ℕ_discrete g h);
        own = λ g. led_own g (ℕ_discrete g h);
        all = λ g k. led_all g k (ℕ_discrete g h) (ℕ_discrete k n);
      }

-- ---- the table

pub hash_small : (name : Name) → hash_of name < table_size
unfolding hash_of
hash_small name = omega arith

module _ (s place before last : List ℕ) (n : ℕ) (t : Table s place before last n) where
  -- where a search begins
  pub from-few : (name : Name) → n ≤ table_size → get_or last (hash_of name) 0 ≤ table_size
  from-few name few = omega (arith, t.headed.low (hash_of name))

  pub from-inside : (name : Name) → Inside s place (get_or last (hash_of name) 0)
  from-inside name k less = t.inside k (omega (arith, t.headed.low (hash_of name)))

  pub from-chained : (name : Name) → Chained (λ (k : ℕ). hash_of (name_of s place k)) before (get_or last (hash_of name) 0)
  from-chained name = chained-few (λ (k : ℕ). hash_of (name_of s place k)) before n (get_or last (hash_of name) 0) (t.headed.low (hash_of name)) t.chained

  pub from-own : (name : Name) → 0 < get_or last (hash_of name) 0 → hash_of (name_of s place (get_or last (hash_of name) 0 - 1)) ≡ hash_of name
  from-own name some = t.headed.own (hash_of name) some

  -- what is not found there is nowhere
  pub sought_none : (name : Name) → Sought false s place (get_or last (hash_of name) 0) name → Sought false s place n name
  sought_none name none k less is = by (dec_lt k (get_or last (hash_of name) 0))
    where
      by : Dec (k < get_or last (hash_of name) 0) → ⊥
      by (yes under) = none k under is
      by (no over) = t.headed.all (hash_of name) k (hash_small name) (omega arith) less (ap hash_of (sym (same-equal name (name_of s place k) is)))

  pub sought_some : (name : Name) → Sought true s place (get_or last (hash_of name) 0) name → Sought true s place n name
  sought_some name some = (some.0, omega (arith, some.1, t.headed.low (hash_of name)), some.2)

  module _ (at : ℕ) (inside : at ≤ length s) (room : n < table_size) where
    abbrev name : Name
    name = name_at s at

    name-same : (k : ℕ) → k < n → name_of s (set place n at) k ≡ name_of s place k
    name-same k less = ap (name_at s) (get_or-set_other place n k at 0 (λ e. omega arith))

    name_new : name_of s (set place n at) n ≡ name
    name_new = ap (name_at s) (get_or-set_same place n at 0 (omega (arith, t.sized.0)))

    inside-new : (k : ℕ) → k < n + 1 → Dec (k ≡ n) → get_or (set place n at) k 0 ≤ length s
    inside-new k less (yes is) = rw (is, get_or-set_same place n at 0 (omega (arith, t.sized.0))) inside
    inside-new k less (no differs) = rw (get_or-set_other place n k at 0 differs) (t.inside k (omega (arith, differs)))

    pub table_more : Table s (set place n at) (set before n (get_or last (hash_of name) 0)) (set last (hash_of name) (n + 1)) (n + 1)
    table_more =
        let few = hash_small name in
        let old : ℕ → ℕ = λ (k : ℕ). hash_of (name_of s place k) in
        let new : ℕ → ℕ = λ (k : ℕ). hash_of (name_of s (set place n at) k) in
        record {
          sized = (length-set place n at ∙ t.sized.0, length-set before n _ ∙ t.sized.1, length-set last (hash_of name) (n + 1) ∙ t.sized.2);
          inside = λ k less. inside-new k less (ℕ_discrete k n);
          chained = linked n (hash_of name) old new (λ k less. ap hash_of (name-same k less)) (ap hash_of name_new) before last (omega (arith, t.sized.1)) (omega (arith, t.sized.2)) few t.chained t.headed;
          headed = led n (hash_of name) old new (λ k less. ap hash_of (name-same k less)) (ap hash_of name_new) before last (omega (arith, t.sized.1)) (omega (arith, t.sized.2)) few t.chained t.headed;
        }

pub table_none : (s place before last : List ℕ) → Sized place → Sized before → Cleared last → Table s place before last 0
table_none s place before last a b c =
    record {
      sized = (a, b, c.0);
      inside = λ k less. absurd (omega arith);
      chained = record { low = λ k less. absurd (omega arith); own = λ k less. absurd (omega arith); all = λ k j less. absurd (omega arith) };
      headed = record { low = λ h. omega (arith, c.1 h); own = λ h some. absurd (omega (arith, c.1 h)); all = λ h k few low high. absurd (omega arith) };
    }

-- ---- a line looked up

pub entered_none : (s : List ℕ) (at n : ℕ) (place before last : List ℕ) → (kind_of (line_at s at) ≡ 1 → ⊥) → Entered NoHeading s at n place before last place before last
entered_none s at n place before last not-1 =
    (not-1, refl, refl, refl)

module _ (s place before last : List ℕ) (n : ℕ) (t : Table s place before last n) (at to h : ℕ) (end : to ≡ end_of s at) (is : h ≡ hash_of (bytes_of s at to)) where
  pub asked : n ≤ table_size → to ≤ length s
      → Inside s place (get_or last h 0) × (Chained (λ (k : ℕ). hash_of (name_of s place k)) before (get_or last h 0)
      × ((0 < get_or last h 0 → hash_of (name_of s place (get_or last h 0 - 1)) ≡ hash_of (bytes_of s at to)) × ((get_or last h 0 ≤ table_size) × (to ≤ length s))))
  asked few within =
      let name = bytes_of s at to in
      rw is (from-inside s place before last n t name, (from-chained s place before last n t name, (from-own s place before last n t name, (from-few s place before last n t name few, within))))

  found_in_lem : (r : Bool) → Sought r s place (get_or last h 0) (bytes_of s at to) → Sought r s place n (name_at s at)
  found_in_lem true some = rw end at (sought_some s place before last n t (bytes_of s at to) (rw is at some))
  found_in_lem false none = rw end at (sought_none s place before last n t (bytes_of s at to) (rw is at none))

  module _ (kind : kind_of (line_at s at) ≡ 1) (r : Bool) (told : Sought r s place (get_or last h 0) (bytes_of s at to)) where
    pub entered_given : r ≡ true → Entered Given s at n place before last place before last
    entered_given e =
        let some : Sought true s place n (name_at s at) = rw e at (found_in_lem r told) in
        (kind, some)

    pub entered_new : r ≡ false → Entered New s at n place before last (set place n at) (set before n (get_or last h 0)) (set last h (n + 1))
    entered_new e =
        let none : Sought false s place n (name_at s at) = rw e at (found_in_lem r told) in
        let hash : h ≡ hash_of (name_at s at) = is ∙ ap (λ m. hash_of (bytes_of s at m)) end in
        (kind, none, refl, ap (λ g. set before n (get_or last g 0)) hash, ap (λ g. set last g (n + 1)) hash)

pub known-not : (s place : List ℕ) (at : ℕ) → (kind_of (line_at s at) ≡ 1 → ⊥) → KnownBy false s place at
known-not s place at not-1 k less is = by (line_at s at) not-1 is
  where
    by : (l : Line) → (kind_of l ≡ 1 → ⊥) → gives (name_of s place k) l ≡ true → ⊥
    by (heading x) not-1 is = not-1 refl
    by (broader x) not-1 is = let z : ◌≡◌ {A = ℕ} 0 1 = cc in omega arith
    by (narrower x) not-1 is = let z : ◌≡◌ {A = ℕ} 0 1 = cc in omega arith
    by other not-1 is = let z : ◌≡◌ {A = ℕ} 0 1 = cc in omega arith

module _ (s place before last : List ℕ) (t : Table s place before last table_size) (at to h : ℕ) (end : to ≡ end_of s at) (is : h ≡ hash_of (bytes_of s at to))
    (kind : kind_of (line_at s at) ≡ 1) where
  pub known_by : (r : Bool) → Sought r s place (get_or last h 0) (bytes_of s at to) → KnownBy r s place at
  known_by true told =
      let some = found_in_lem s place before last table_size t at to h end is true told in
      (some.0, some.1, rw (heading-bytes (name_at s at) kind) some.2)
  known_by false told =
      let none = found_in_lem s place before last table_size t at to h end is false told in
      λ k less same. none k less (rw (heading-bytes (name_at s at) kind) at same)
