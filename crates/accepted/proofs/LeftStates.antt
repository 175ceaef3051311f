-- A accepted state that is left in lent memory reads back to the same state, and is accepted.
use mathlib.Core.List.{List, [], ◌∷◌, map, append_assoc}
use mathlib.Core.Path.{◌≡◌, refl, sym, ap, subst, ◌∙◌}
use Prim.Native.Nat.{ℕ, zero, suc, ◌+◌, ◌≤◌, ◌<◌}
use native.Mathlib.Omega.{arith}
use lib.ListN.{length, get_or, take, drop, length-map}
use lib.Seq.{take-append_seam, get_or-take}
use Rattle.limits.specs.Sizes.{most_choices, most_fuel}
use Rattle.limits.specs.Decisions.{side_at, words_of}
use Rattle.limits.specs.declared.Side.TheVariants.{Open}
use Rattle.limits.specs.declared.Entry.{Entry as LentEntry}
use Rattle.limits.specs.Lent.{Entry, lent, lent_vacant}
use Rattle.limits.proofs.Meaning.{words_side}
use Rattle.symbols.specs.Symbols.{Symbols}
use Rattle.nodes.specs.Nodes.{Node, apply, choice, fail, forward, Heap, at, heap_numbers}
use Rattle.nodes.specs.Numbers.{label_in, arrow_in}
use Rattle.nodes.specs.Lies.{Leads, Lies}
use Rattle.nodes.proofs.Lying.{kind_known, apply_kind, apply_label, apply-arrow, choice_kind, choice_label, choice-left, choice-right, fail_kind, forward_kind, forward-arrow}
use Rattle.machine.specs.Turn.{State}
use Rattle.machine.specs.Run.{Memory, Result, rooms_of, over, list_for}
use Rattle.rewriting.specs.Heaps.{ArrowsBelow}
use Rattle.rewriting.specs.Lists.{All, firsts}
use Rattle.rewriting.proofs.Lists.{all_anywhere}
use Rattle.sorts.specs.Sorts.{arguments_of}
use Rattle.accepted.specs.Accepted.{Argued, AcceptedNodes, AcceptedEntry, AcceptedState}
use Rattle.accepted.specs.Read.{node_by, node_in, heap_in, entry_in, state_in}
use Rattle.accepted.specs.Accepts.{OneSided, AcceptedMemory}
use Rattle.accepted.specs.LeftIn.{afresh, LeftIn, Narrow}
use Rattle.accepted.proofs.Rows.{row-length}
use Rattle.accepted.proofs.OneSide.{words-once}

-- a list is its elements one by one
firsts-is : {A : Type 0} (l : List A) (f : ℕ → A) (d : A) → ((i : ℕ) → i < length l → f i ≡ get_or l i d) → firsts (length l) f ≡ l
unfolding firsts
firsts-is [] f d same = refl
firsts-is (x ∷ l) f d same = let here = same 0 (omega arith) in let rest = firsts-is l (λ i. f (suc i)) d (λ i lt. same (suc i) (omega arith)) in cc

-- ---- nodes

module _ (S : Symbols) {h : Heap} {m : List ℕ} (lies : Lies h m) (full : (n f : ℕ) (xs : List ℕ) → at h n ≡ apply f xs → length xs ≡ length (arguments_of S f)) where
  -- a node that lies there is read
  node-back : (n : ℕ) → n < length h → node_in S m n ≡ at h n
  unfolding node_by
  node-back n lt = by (at h n) refl
    where
      by : (x : Node) → at h n ≡ x → node_in S m n ≡ at h n
      by (apply f xs) is =
          let leads : Leads (length h) (apply f xs) = subst (Leads (length h)) is (lies.leads n lt) in
          let label = apply_label lies n lt is in
          let many : length (arguments_of S (label_in m n)) ≡ length xs = ap (λ (g : ℕ). length (arguments_of S g)) label ∙ sym (full n f xs is) in
          let arrows : firsts (length xs) (arrow_in m n) ≡ xs = firsts-is xs (arrow_in m n) 0 (λ j b. apply-arrow lies n lt is j (omega (arith, leads.0))) in
          rw (apply_kind lies n lt is, is, many, arrows, label) refl
      by (choice i l r) is = rw (choice_kind lies n lt is, is, choice_label lies n lt is, choice-left lies n lt is, choice-right lies n lt is) refl
      by fail is = rw (fail_kind lies n lt is, is) refl
      by (forward t) is = rw (forward_kind lies n lt is, is, forward-arrow lies n lt is) refl

  -- so the heap is
  heap-back : heap_in S m (length h) ≡ h
  unfolding heap_in
  heap-back = firsts-is h (node_in S m) fail node-back

-- an accepted heap lies where its numbers come first
accepted-lies : (S : Symbols) (k : ℕ) (h : Heap) (old : List ℕ) → Narrow S → 0 < length h → AcceptedNodes S k h → Lies h (over (heap_numbers h) old)
unfolding over
accepted-lies S k h old narrow some accepted = record {
  rest = drop (length (heap_numbers h)) old;
  numbers = refl;
  leads = λ n lt. leads (at h n) (accepted.range n) (accepted.argued n);
}
  where
    leads : (x : Node) → ArrowsBelow (length h) x → Argued S h x → Leads (length h) x
    leads (apply f xs) below (known, row) = (omega (arith, narrow f, row-length row), λ j lt. all_anywhere 0 j some below)
    leads (choice i l r) below argued = below
    leads fail below argued = tt
    leads (forward t) below argued = below

-- and each apply has all its arguments
accepted-full : (S : Symbols) (k : ℕ) (h : Heap) → AcceptedNodes S k h → (n f : ℕ) (xs : List ℕ) → at h n ≡ apply f xs → length xs ≡ length (arguments_of S f)
accepted-full S k h accepted n f xs is = let (known, row) : Argued S h (apply f xs) = rw is at (accepted.argued n) in row-length row

-- ---- entries

-- an entry that is lent is read
entry-back : (e : Entry) → length e.decisions ≡ most_choices → entry_in (lent e) ≡ e
unfolding entry_in lent
entry-back e sized =
    let decisions : firsts most_choices (side_at (words_of e.decisions)) ≡ e.decisions =
    rw sized at (firsts-is e.decisions (side_at (words_of e.decisions)) Open (λ i lt. words_side e.decisions i sized (rw sized at lt))) in
    rw decisions refl

-- so are all that wait
entries-back : {k : ℕ} {h : Heap} (waiting : List Entry) → All (AcceptedEntry k h) waiting → map entry_in (map lent waiting) ≡ waiting
entries-back [] All.none = refl
entries-back (e ∷ waiting) (All.more s ss) = let here = entry-back e s.sized in let rest = entries-back waiting ss in cc

-- they stand first in the list
listed-first : (places : ℕ) (waiting : List Entry) (old : List LentEntry) → take (length waiting) (over (list_for places waiting) old) ≡ map lent waiting
unfolding over list_for
listed-first places waiting old =
    rw (append_assoc, ← length-map waiting lent) (take-append_seam (map lent waiting) _)

-- each of them says one side at most
sided : {k : ℕ} {h : Heap} (waiting : List Entry) → All (AcceptedEntry k h) waiting → (i : ℕ) → i < length waiting → OneSided (get_or (map lent waiting) i lent_vacant)
unfolding lent
sided [] All.none i lt = absurd (omega arith)
sided (e ∷ waiting) (All.more s ss) zero lt = λ j b l r. words-once e.decisions j s.sized b l r
sided (e ∷ waiting) (All.more s ss) (suc i) lt = sided waiting ss i (omega arith)

-- ---- the state

module _ (S : Symbols) (narrow : Narrow S) (before : ℕ) (s : State) (last : Result) (m : Memory) (left : LeftIn before s last m)
    (accepted : AcceptedState S (rooms_of m) before s) where
  lies : Lies s.heap m.nodes
  lies = rw left.nodes (accepted-lies S s.choices s.heap left.old_nodes narrow accepted.some accepted.heap)

  -- it is read back
  pub state-back : state_in S last m ≡ afresh s
  unfolding state_in
  state-back =
      let heap : heap_in S m.nodes last.nodes ≡ s.heap =
      rw left.used (heap-back S lies (accepted-full S s.choices s.heap accepted.heap)) in
      let first : take last.waiting m.list ≡ map lent s.waiting =
      rw left.waiting (ap (take (length s.waiting)) left.list ∙ listed-first (rooms_of m).places s.waiting left.old_list) in
      let waiting : map entry_in (take last.waiting m.list) ≡ s.waiting = ap (map entry_in) first ∙ entries-back s.waiting accepted.entries in
      rw (heap, waiting, left.choices, left.turns) refl

  -- EVERY STATE THAT IS LEFT SO is accepted, with fuel that fits
  pub left-accepted : (fuel : ℕ) → s.turns + fuel ≤ most_fuel → AcceptedMemory S last fuel m
  left-accepted fuel fits = record {
    summed = rw left.turns fits;
    listed = rw left.waiting accepted.places;
    kinds = λ n lt. kind_known lies n (rw left.used at lt);
    sides = λ i lt. one_sided i (rw left.waiting at lt);
    accepted = rw state-back (record {
      counted = omega (arith, left.answers, accepted.counted);
      some = accepted.some;
      nodes = accepted.nodes;
      choices = accepted.choices;
      places = accepted.places;
      heap = accepted.heap;
      entries = accepted.entries;
    });
  }
    where
      one_sided : (i : ℕ) → i < length s.waiting → OneSided (get_or m.list i lent_vacant)
      one_sided i lt =
          let same : get_or m.list i lent_vacant ≡ get_or (map lent s.waiting) i lent_vacant =
          sym (get_or-take (length s.waiting) m.list i lent_vacant lt)
          ∙ ap (λ (l : List LentEntry). get_or l i lent_vacant) (ap (take (length s.waiting)) left.list ∙ listed-first (rooms_of m).places s.waiting left.old_list) in
          rw same (sided s.waiting accepted.entries i lt)
