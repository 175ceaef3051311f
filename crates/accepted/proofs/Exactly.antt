-- THE CHECK accepts exactly the accepted states: entries, and all tests together.
use mathlib.Core.Bool.{Bool, true, false, ◌&&◌, ◌||◌}
use mathlib.Core.Path.{◌≡◌, refl, sym, ap, ◌∙◌}
use mathlib.Core.List.{List, [], ◌∷◌, map}
use Prim.Native.Nat.{ℕ, zero, suc, ◌+◌, ◌*◌, ◌≤◌, ◌<◌}
use native.Mathlib.Decide.{dec_lt}
use native.Mathlib.Omega.{arith}
use native.Mathlib.Nat.{not-suc-le-zero, le_of_suc-le-suc}
use borrow.Author.Tests.{ltb-false, leb-true, leb-false, eqb-false, le-ltb, lt-leb, le-leb, ne_eqb}
use lib.Dec.{leb, ltb, eqb}
use lib.ListN.{length, get_or, take, length-map, length-take, get_or-eq_default}
use Rattle.limits.specs.Sizes.{most_nodes, most_choices, most_fuel}
use Rattle.limits.specs.declared.Side.TheVariants.{Open}
use Rattle.limits.specs.declared.Entry.{Entry as LentEntry}
use Rattle.limits.specs.Decisions.{is_set, side_by, side_at}
use Rattle.limits.specs.Lent.{Entry, lent_vacant}
use Rattle.reading.specs.Reading.{Reading, got, refuse◌at◌if◌else◌}
use Rattle.symbols.specs.Symbols.{Symbols}
use Rattle.nodes.specs.Nodes.{Heap}
use Rattle.machine.specs.Run.{Memory, Result, rooms_of}
use Rattle.rewriting.specs.Lists.{All}
use Rattle.rewriting.proofs.Lists.{length-firsts, get_or_firsts}
use Rattle.accepted.specs.Accepted.{AcceptedEntry}
use Rattle.accepted.specs.Read.{heap_in, entry_in, state_in}
use Rattle.accepted.specs.Faults.{some_from, bad_node, bad_side, bad_entry}
use Rattle.accepted.specs.GoOn.{refuse_first, judge}
use Rattle.accepted.specs.Accepts.{OneSided, AcceptedMemory, Exact}
use Rattle.accepted.proofs.Reaches.{or_left, or_right, or-none, none_or, not-passed, not-both}
use Rattle.accepted.proofs.Misfits.{and_both}
use Rattle.accepted.proofs.Judged.{heap-sized, heap-full, passed_kind, accepted-heap, good-node}

-- ---- tests one after the other

-- of numbers from i on
from_each : (bad : ℕ → Bool) (i left : ℕ) → some_from bad i left ≡ false → (j : ℕ) → j < left → bad (i + j) ≡ false
unfolding some_from
from_each bad i zero e j lt = absurd (not-suc-le-zero lt)
from_each bad i (suc left) e zero lt = ap bad (omega arith) ∙ (or-none (bad i) (some_from bad (suc i) left) e).0
from_each bad i (suc left) e (suc j) lt =
    ap bad (omega arith) ∙ from_each bad (suc i) left (or-none (bad i) (some_from bad (suc i) left) e).1 j (le_of_suc-le-suc lt)

each_from : (bad : ℕ → Bool) (i left : ℕ) → ((j : ℕ) → j < left → bad (i + j) ≡ false) → some_from bad i left ≡ false
unfolding some_from
each_from bad i zero all = refl
each_from bad i (suc left) all =
    none_or (bad i) (some_from bad (suc i) left) (ap bad (omega arith) ∙ all 0 (omega arith))
    (each_from bad (suc i) left (λ j lt. ap bad (omega arith) ∙ all (suc j) (omega arith)))

-- a clause that does not refuse
test-got : {A : Type 0} (c p : ℕ) (b : Bool) (rest : Unit {0} → Reading A) {a : A} {q : ℕ} → refuse◌at◌if◌else◌ c p b rest ≡ got a q → (b ≡ false) × (rest tt ≡ got a q)
unfolding refuse◌at◌if◌else◌
test-got c p true rest e = absurd (let z : ◌≡◌ {A = ℕ} 0 1 = cc in omega arith)
test-got c p false rest e = (refl, e)

got-test : {A : Type 0} (c p : ℕ) (b : Bool) (rest : Unit {0} → Reading A) {a : A} {q : ℕ} → b ≡ false → rest tt ≡ got a q → refuse◌at◌if◌else◌ c p b rest ≡ got a q
unfolding refuse◌at◌if◌else◌
got-test c p b rest no-fault e = rw no-fault e

-- the first of so many that is bad: none is
first-got : {A : Type 0} (place : ℕ) (bad : ℕ → Bool) (i left : ℕ) (rest : Unit {0} → Reading A) {a : A} {q : ℕ} → refuse_first place bad i left rest ≡ got a q
    → ((j : ℕ) → j < left → bad (i + j) ≡ false) × (rest tt ≡ got a q)
unfolding refuse_first
first-got place bad i zero rest e = (λ j lt. absurd (not-suc-le-zero lt), e)
first-got place bad i (suc left) rest e =
    let (here, more) = test-got 30 (place + i) (bad i) (λ _. refuse_first place bad (suc i) left rest) e in
    let (others, end) = first-got place bad (suc i) left rest more in
    (all here others, end)
  where
    all : bad i ≡ false → ((j : ℕ) → j < left → bad (suc i + j) ≡ false) → (j : ℕ) → j < suc left → bad (i + j) ≡ false
    all here others zero lt = ap bad (omega arith) ∙ here
    all here others (suc j) lt = ap bad (omega arith) ∙ others j (le_of_suc-le-suc lt)

got-first : {A : Type 0} (place : ℕ) (bad : ℕ → Bool) (i left : ℕ) (rest : Unit {0} → Reading A) {a : A} {q : ℕ} → ((j : ℕ) → j < left → bad (i + j) ≡ false)
    → rest tt ≡ got a q → refuse_first place bad i left rest ≡ got a q
unfolding refuse_first
got-first place bad i zero rest all e = e
got-first place bad i (suc left) rest all e =
    got-test 30 (place + i) (bad i) (λ _. refuse_first place bad (suc i) left rest) (ap bad (omega arith) ∙ all 0 (omega arith))
    (got-first place bad (suc i) left rest (λ j lt. ap bad (omega arith) ∙ all (suc j) (omega arith)) e)

-- ---- an entry

-- what the two bits of a choice say
side_open : (a b : Bool) → side_by a b ≡ Open → (a ≡ false) × (b ≡ false)
side_open true b e = absurd (let z : ◌≡◌ {A = ℕ} 0 1 = cc in omega arith)
side_open false true e = absurd (let z : ◌≡◌ {A = ℕ} 0 1 = cc in omega arith)
side_open false false e = (refl, refl)

-- the decision that is read for choice i
read_side : (x : LentEntry) (i : ℕ) → i < most_choices → get_or (entry_in x).decisions i Open ≡ side_by (is_set x.words (2 * i)) (is_set x.words (2 * i + 1))
unfolding entry_in side_at
read_side x i lt = get_or_firsts most_choices (side_at x.words) i Open lt

module _ (k used : ℕ) (h : Heap) (x : LentEntry) (sized : length h ≡ used) where
  -- an entry that passes
  entry-accepted : bad_entry k used x ≡ false → AcceptedEntry k h (entry_in x) × OneSided x
  unfolding bad_entry bad_side entry_in side_at
  entry-accepted e =
      let (root, sides) = or-none (leb used x.root) (some_from (bad_side k x.words) 0 most_choices) e in
      let each = from_each (bad_side k x.words) 0 most_choices sides in (
        record {
          inside = rw sized (leb-false used x.root root);
          sized = length-firsts most_choices (side_at x.words);
          free = λ i le. by i le (dec_lt i most_choices) each;
        },
        λ i lt l r. both i l r (each i lt),
      )
    where
      left : ℕ → Bool
      left i = is_set x.words (2 * i)

      right : ℕ → Bool
      right i = is_set x.words (2 * i + 1)

      both : (i : ℕ) → left i ≡ true → right i ≡ true → bad_side k x.words (0 + i) ≡ false → ⊥
      both i l r e = not-both _ (let same : 0 + i ≡ i = omega arith in rw same at e) (or_left (left i && right i) (leb k i && (left i || right i)) (rw (l, r) refl))

      by : (i : ℕ) → k ≤ i → Dec (i < most_choices) → ((j : ℕ) → j < most_choices → bad_side k x.words (0 + j) ≡ false) → get_or (entry_in x).decisions i Open ≡ Open
      by i le (no past) each = get_or-eq_default (entry_in x).decisions Open (rw (length-firsts most_choices (side_at x.words)) (omega arith))
      by i le (yes lt) each =
          let e : bad_side k x.words i ≡ false = ap (bad_side k x.words) (omega arith) ∙ each i lt in
          let none = not-passed (left i || right i) (λ q. not-both _ e (or_right (left i && right i) (leb k i && (left i || right i)) (rw (le-leb k i le, q) refl))) in
          let (l, r) = or-none (left i) (right i) none in
          read_side x i lt ∙ rw (l, r) refl

  -- and the other way round
  accepted-entry : AcceptedEntry k h (entry_in x) → OneSided x → bad_entry k used x ≡ false
  unfolding bad_entry bad_side entry_in side_at
  accepted-entry accepted once =
      none_or (leb used x.root) _ (lt-leb used x.root (rw sized at accepted.inside))
      (each_from (bad_side k x.words) 0 most_choices (λ i lt. ap (bad_side k x.words) (omega arith) ∙ good i lt))
    where
      left : ℕ → Bool
      left i = is_set x.words (2 * i)

      right : ℕ → Bool
      right i = is_set x.words (2 * i + 1)

      good : (i : ℕ) → i < most_choices → bad_side k x.words i ≡ false
      good i lt = none_or _ _
          (not-passed (left i && right i) (λ q. let (l, r) = and_both (left i) (right i) q in once i lt l r))
          (not-passed (leb k i && (left i || right i)) (λ q.
          let (later, some) = and_both (leb k i) (left i || right i) q in
          let (l, r) = side_open (left i) (right i) (sym (read_side x i lt) ∙ accepted.free i (leb-true k i later)) in
          not-both (left i || right i) (none_or (left i) (right i) l r) some))

-- ---- the entries that wait

taken_all : (P : Entry → Type 0) (w : ℕ) (list : List LentEntry) → w ≤ length list → ((i : ℕ) → i < w → P (entry_in (get_or list i lent_vacant))) → All P (map entry_in (take w list))
taken_all P zero list le all = All.none
taken_all P (suc w) [] le all = absurd (omega arith)
taken_all P (suc w) (x ∷ list) le all = All.more (all 0 (omega arith)) (taken_all P w list (omega arith) (λ i lt. all (suc i) (omega arith)))

all_taken : (P : Entry → Type 0) (w : ℕ) (list : List LentEntry) → w ≤ length list → All P (map entry_in (take w list)) → (i : ℕ) → i < w → P (entry_in (get_or list i lent_vacant))
all_taken P zero list le all i lt = absurd (not-suc-le-zero lt)
all_taken P (suc w) [] le all i lt = absurd (omega arith)
all_taken P (suc w) (x ∷ list) le (All.more p ps) zero lt = p
all_taken P (suc w) (x ∷ list) le (All.more p ps) (suc i) lt = all_taken P w list (omega arith) ps i (le_of_suc-le-suc lt)

-- ---- all tests

module _ (S : Symbols) (last : Result) (fuel : ℕ) (m : Memory) where
  abbrev h : Heap
  h = heap_in S m.nodes last.nodes

  sized : length h ≡ last.nodes
  sized = heap-sized S m.nodes last.nodes

  -- the places that are used are there
  places-there : (rooms_of m).places ≤ length m.list
  unfolding rooms_of
  places-there = omega arith

  waiting-sized : last.waiting ≤ (rooms_of m).places → length (state_in S last m).waiting ≡ last.waiting
  unfolding state_in
  waiting-sized le = length-map (take last.waiting m.list) entry_in ∙ length-take last.waiting m.list ∙ (let q = places-there in omega arith)

  -- what passes is accepted
  judged-accepted : judge S last fuel m ≡ got (state_in S last m) 0 → AcceptedMemory S last fuel m
  unfolding judge state_in
  judged-accepted e =
      let (a, e₁) = test-got _ _ (ltb most_fuel (last.turns + fuel)) _ e in
      let (b, e₂) = test-got _ _ (ltb last.turns last.answers) _ e₁ in
      let (c, e₃) = test-got _ _ (eqb last.nodes 0 || ltb (rooms_of m).nodes last.nodes) _ e₂ in
      let (d, e₄) = test-got _ _ (ltb most_choices last.choices) _ e₃ in
      let (f, e₅) = test-got _ _ (ltb (rooms_of m).places last.waiting) _ e₄ in
      let (nodes, e₆) = first-got 6 (bad_node S last.choices m.nodes h) 0 last.nodes _ e₅ in
      let (entries, e₇) = first-got (6 + most_nodes) (λ i. bad_entry last.choices last.nodes (get_or m.list i lent_vacant)) 0 last.waiting _ e₆ in
      let listed : last.waiting ≤ (rooms_of m).places = ltb-false _ _ f in
      let (some, room) = or-none (eqb last.nodes 0) (ltb (rooms_of m).nodes last.nodes) c in
      let all : (n : ℕ) → n < length h → bad_node S last.choices m.nodes h n ≡ false =
      λ n lt. ap (bad_node S last.choices m.nodes h) (omega arith) ∙ nodes n (rw sized at lt) in
      let each : (i : ℕ) → i < last.waiting → bad_entry last.choices last.nodes (get_or m.list i lent_vacant) ≡ false =
      λ i lt. ap (λ (j : ℕ). bad_entry last.choices last.nodes (get_or m.list j lent_vacant)) (omega arith) ∙ entries i lt in
      record {
        summed = ltb-false _ _ a;
        listed = listed;
        kinds = λ n lt. passed_kind S last.choices m.nodes h (heap-full S m.nodes last.nodes) n (all n (rw sized lt));
        sides = λ i lt. (entry-accepted last.choices last.nodes h (get_or m.list i lent_vacant) sized (each i lt)).1;
        accepted = record {
          counted = omega (arith, ltb-false last.turns last.answers b);
          some = rw sized (positive last.nodes (eqb-false _ _ some));
          nodes = rw sized (ltb-false _ _ room);
          choices = ltb-false _ _ d;
          places = rw (waiting-sized listed) listed;
          heap = accepted-heap S last.choices m.nodes h (heap-full S m.nodes last.nodes) all;
          entries = taken_all (AcceptedEntry last.choices h) last.waiting m.list (omega (arith, listed, places-there))
              (λ i lt. (entry-accepted last.choices last.nodes h (get_or m.list i lent_vacant) sized (each i lt)).0);
        };
      }
    where
      positive : (n : ℕ) → (n ≡ 0 → ⊥) → 0 < n
      positive zero other = absurd (other refl)
      positive (suc n) other = omega arith

  -- what is accepted passes
  accepted-judged : AcceptedMemory S last fuel m → judge S last fuel m ≡ got (state_in S last m) 0
  unfolding judge state_in
  accepted-judged a =
      let accepted = a.accepted in
      let some : 0 < last.nodes = rw sized at accepted.some in
      let room : last.nodes ≤ (rooms_of m).nodes = rw sized at accepted.nodes in
      got-test _ _ (ltb most_fuel (last.turns + fuel)) _ (le-ltb _ _ a.summed)
      (got-test _ _ (ltb last.turns last.answers) _ (le-ltb last.turns last.answers (omega (arith, accepted.counted)))
      (got-test _ _ (eqb last.nodes 0 || ltb (rooms_of m).nodes last.nodes) _
      (none_or (eqb last.nodes 0) (ltb (rooms_of m).nodes last.nodes) (ne_eqb last.nodes 0 (λ q. omega (arith, q))) (le-ltb _ _ room))
      (got-test _ _ (ltb most_choices last.choices) _ (le-ltb _ _ accepted.choices)
      (got-test _ _ (ltb (rooms_of m).places last.waiting) _ (le-ltb _ _ a.listed)
      (got-first 6 (bad_node S last.choices m.nodes h) 0 last.nodes _
      (λ n lt. ap (bad_node S last.choices m.nodes h) (omega arith)
      ∙ good-node S last.choices m.nodes h (heap-full S m.nodes last.nodes) accepted.heap n (a.kinds n lt))
      (got-first (6 + most_nodes) (λ i. bad_entry last.choices last.nodes (get_or m.list i lent_vacant)) 0 last.waiting _
      (λ i lt. ap (λ (j : ℕ). bad_entry last.choices last.nodes (get_or m.list j lent_vacant)) (omega arith)
      ∙ accepted-entry last.choices last.nodes h (get_or m.list i lent_vacant) sized
      (all_taken (AcceptedEntry last.choices h) last.waiting m.list (omega (arith, a.listed, places-there)) accepted.entries i lt) (a.sides i lt))
      refl))))))

  -- EXACTLY those states are accepted.
  pub exact : Exact S last fuel m
  exact = (accepted-judged, judged-accepted)
