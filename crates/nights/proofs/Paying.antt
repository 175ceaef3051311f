-- Every turn pays: what it counts, and what still has to be done after it, come to no more than before it. And a turn is never refused for going too far.
use mathlib.Core.Bool.{Bool, true, false}
use mathlib.Core.Path.{◌≡◌, refl, ap}
use mathlib.Core.Logic.{◌⊎◌, inl, inr}
use mathlib.Core.List.{List, [], ◌∷◌, ◌++◌}
use Prim.Native.Nat.{ℕ, suc, ◌+◌, ◌*◌, ◌≤◌, ◌<◌}
use native.Mathlib.Omega.{arith}
use borrow.Author.Tests.{ltb-true, ltb-false}
use lib.Dec.{ltb}
use lib.ListN.{length, get_or, set, length-append, length-set, length-replicate}
use Rattle.limits.specs.Sizes.{most_choices, most_depth}
use Rattle.limits.specs.declared.Side.{Side}
use Rattle.limits.specs.declared.Side.TheVariants.{Open, Left, Right}
use Rattle.limits.specs.Decisions.{Decisions, all_open}
use Rattle.limits.specs.Lent.{Entry}
use Rattle.reading.specs.Bytes.{two_bytes}
use Rattle.rewriting.specs.Lists.{All}
use Rattle.rewriting.proofs.Lists.{all_append}
use Rattle.expressions.specs.Expressions.{Expr}
use Rattle.book.specs.Trees.{Tree}
use Rattle.book.specs.Rules.{Book}
use Rattle.nodes.specs.Nodes.{Node, apply, Heap, at}
use Rattle.nodes.specs.Forwards.{follow}
use Rattle.machine.specs.Made.{place, rewritten, expr_choices}
use Rattle.machine.specs.FirstLook.{first_look}
use Rattle.machine.specs.Walk.{finished, rewrites, slots_from, slots_of, children, construct, steer, walk_in, walk}
use Rattle.machine.specs.Answers.{Answer, row_from, symbols_from, decision_numbers, two_bytes_each, record_bytes, records_bytes, answer_bytes}
use Rattle.machine.specs.Turn.{Rooms, State, Turned, whole, refused, turned, gone, entry, split, answered, stepped, done, turn_at, turn}
use Rattle.rewriting.specs.Heaps.{NoForward}
use Rattle.meaning.proofs.Follows.{follow-still}
use Rattle.nights.proofs.Weights.{Plain, Weighs, Load, load_append, load_after, rewritten-weighs, place-counts}

-- ---- the walk to a symbol without arguments

module _ (B : Book) (h : Heap) (n : ℕ) {f : ℕ} (is : at h n ≡ apply f []) where
  -- a term is finished
  into_term : (bound arrivals below : ℕ) → B.is_constructor f ≡ true → walk_in (suc bound) B h arrivals below n ≡ finished arrivals
  unfolding walk_in construct children first_look
  into_term bound arrivals below k = rw (is, walk_in, k) refl

  walk-term : B.is_constructor f ≡ true → walk B h n ≡ finished 1
  unfolding walk
  walk-term k = into_term most_depth 1 most_depth k

  -- an operation is rewritten by its rule
  into_operation : (bound arrivals below : ℕ) {e : Expr} → B.is_constructor f ≡ false → B.tree f ≡ Tree.rule e
      → walk_in (suc bound) B h arrivals below n ≡ rewrites n e []
  unfolding walk_in steer slots_of slots_from
  into_operation bound arrivals below k rule = rw (is, walk_in, k, rule) refl

  walk-operation : {e : Expr} → B.is_constructor f ≡ false → B.tree f ≡ Tree.rule e → walk B h n ≡ rewrites n e []
  unfolding walk
  walk-operation k rule = into_operation most_depth 1 most_depth k rule

-- ---- the bytes of answers

-- a record of one symbol, with as many decisions as there can be: its length, its count, the symbol, and two bytes for each
abbrev pub most_record : ℕ
most_record = 6 + 2 * most_choices

-- no entry has more decisions than there are choices, and so no record is longer
pub record Slim (s : State) : Type 0 where
  pub entries : All (λ (e : Entry). length e.decisions ≤ most_choices) s.waiting
  pub bytes : length (records_bytes s.answers) ≤ most_record * length s.answers

-- all open: as many decisions as there are choices
pub open_few : length all_open ≤ most_choices
unfolding all_open
open_few = omega (arith, length-replicate most_choices Open)

few-numbers : (i : ℕ) (ds : Decisions) → length (decision_numbers i ds) ≤ length ds
unfolding decision_numbers
few-numbers i [] = omega arith
few-numbers i (Open ∷ ds) = omega (arith, few-numbers (suc i) ds)
few-numbers i (Left ∷ ds) = omega (arith, few-numbers (suc i) ds)
few-numbers i (Right ∷ ds) = omega (arith, few-numbers (suc i) ds)

two-each : (ns : List ℕ) → length (two_bytes_each ns) ≡ 2 * length ns
unfolding two_bytes_each two_bytes
two-each [] = refl
two-each (m ∷ ns) = omega (arith, two-each ns)

record_short : (a : Answer) → length a.symbols ≡ 1 → length a.decisions ≤ most_choices → length (record_bytes a) ≤ most_record
unfolding record_bytes two_bytes
record_short a one few =
    omega (arith, two-each (length a.symbols ∷ (a.symbols ++ decision_numbers 0 a.decisions)), length-append a.symbols (decision_numbers 0 a.decisions), few-numbers 0 a.decisions)

records_append : (as' bs : List Answer) → length (records_bytes (as' ++ bs)) ≡ length (records_bytes as') + length (records_bytes bs)
unfolding records_bytes
records_append [] bs = omega arith
records_append (a ∷ as') bs = omega (arith, length-append (record_bytes a) (records_bytes (as' ++ bs)), length-append (record_bytes a) (records_bytes as'), records_append as' bs)

-- the first, and the others
all-front : {x : Entry} {rest : List Entry} {P : Entry → Type 0} → All P (x ∷ rest) → P x × All P rest
all-front (All.more p ps) = (p, ps)

-- one answer more
answers-short : (s : State) → Slim s → (a : Answer) → length a.symbols ≡ 1 → length a.decisions ≤ most_choices
    → length (records_bytes (s.answers ++ (a ∷ []))) ≤ most_record * suc (length s.answers)
unfolding records_bytes
answers-short s slim a one few =
    omega (arith, slim.bytes, records_append s.answers (a ∷ []), record_short a one few, length-append (record_bytes a) [])

-- the symbols of a term
one_symbol : (h : Heap) (n : ℕ) {f : ℕ} → at h n ≡ apply f [] → length (symbols_from (suc most_depth) h n) ≡ 1
unfolding symbols_from row_from
one_symbol h n {f} is = rw (follow-still h n (rw is tt), is, symbols_from) refl

-- ---- what a symbol that can come is

-- μ: what is counted, by turns, choices and answers
module _ (B : Book) (Q : ℕ → Type 0) (φ : ℕ → ℕ) (κ γ : ℕ) (μ : ℕ → ℕ → ℕ → ℕ) where
  -- a rule that pays for itself
  pub record Ruled (f : ℕ) : Type 0 where
    pub expr : Expr
    pub weight : ℕ
    pub operates : B.is_constructor f ≡ false
    pub is : B.tree f ≡ Tree.rule expr
    pub plain : Plain Q φ κ γ expr weight
    pub pays : (t k a : ℕ) → μ (suc t) (k + expr_choices expr) a + weight ≤ μ t k a + φ f
    pub lighter : weight ≤ φ f

  pub record Law : Type 0 where
    pub fail_pays : (t k a : ℕ) → μ (suc t) k a ≤ μ t k a + γ
    pub choice_pays : (t k a : ℕ) → μ (suc t) k a ≤ μ t k a + κ
    pub known : (f : ℕ) → Q f → ((B.is_constructor f ≡ true) × ((t k a : ℕ) → μ (suc t) k (suc a) ≤ μ t k a + φ f)) ⊎ Ruled f

  -- what a state counts
  abbrev pub counts : State → ℕ
  counts s = μ s.turns s.choices (length s.answers)

  module _ (room : Rooms) (s : State) where
    -- what a turn comes to, with `total` to be done before it: a whole one pays; a refused one says what it lacked
    pub data Came (total : ℕ) : Turned → Type 0 where
      pays : {s' : State} {t : ℕ} → Load Q φ κ γ s'.heap s'.waiting t → counts s' + t ≤ counts s + total
          → length s'.heap + 2 * s.choices ≡ length s.heap + 2 * s'.choices → s'.turns ≡ suc s.turns
          → (s.choices ≤ most_choices → s'.choices ≤ most_choices) → (Slim s → Slim s') → Came total (whole s')
      no_nodes : {f : ℕ} → Q f → (r : Ruled f) → φ f ≤ total → room.nodes < length s.heap + 2 * expr_choices r.expr → Came total (refused 21)
      no_choices : {f : ℕ} → Q f → (r : Ruled f) → φ f ≤ total → most_choices < s.choices + expr_choices r.expr → Came total (refused 22)
      no_places : {e : Entry} {rest : List Entry} {v w t : ℕ} → s.waiting ≡ e ∷ rest → Load Q φ κ γ s.heap rest t → (l r : ℕ) → Weighs Q φ κ γ s.heap l v
          → Weighs Q φ κ γ s.heap r w → total ≡ κ + v + w + t → room.places < length rest + 2 → Came total (refused 23)
      no_bytes : {v : ℕ} (e : Entry) → Weighs Q φ κ γ s.heap e.root v → v ≤ total → (a : Answer)
          → (Slim s → length (records_bytes (s.answers ++ (a ∷ []))) ≤ most_record * suc (length s.answers))
          → room.bytes < length (answer_bytes (s.answers ++ (a ∷ []))) → Came total (refused 25)

    module _ (law : Law) (e : Entry) (rest : List Entry) (waits : s.waiting ≡ e ∷ rest) {t : ℕ} (load : Load Q φ κ γ s.heap rest t) where
      abbrev h : Heap
      h = s.heap

      -- the decisions of this entry and of the others
      front_slim : Slim s → length e.decisions ≤ most_choices
      front_slim slim = (all-front (rw waits at slim.entries)).0

      rest_slim : Slim s → All (λ (d : Entry). length d.decisions ≤ most_choices) rest
      rest_slim slim = (all-front (rw waits at slim.entries)).1

      -- the entry is over: it goes, or its value is written
      over_came : (answers : List Answer) (paid : ℕ) → μ (suc s.turns) s.choices (length answers) ≤ counts s + paid
          → (Slim s → length (records_bytes answers) ≤ most_record * length answers)
          → Came (paid + t) (whole (record { heap = h; choices = s.choices; waiting = rest; answers = answers; turns = suc s.turns }))
      over_came answers paid enough bytes =
          pays {s' = record { heap = h; choices = s.choices; waiting = rest; answers = answers; turns = suc s.turns }} load (omega arith) refl refl (λ few. few)
          (λ slim. record { entries = rest_slim slim; bytes = bytes slim })

      -- these join the back, and no node changes
      joins_came : (joining : List Entry) {u : ℕ} → Load Q φ κ γ h joining u → (Slim s → All (λ (e : Entry). length e.decisions ≤ most_choices) joining) → (total : ℕ) → κ + u + t ≤ total → Came total (whole (turned s h s.choices rest joining))
      unfolding turned
      joins_came joining {u} new slim total enough =
          let (x, is, joined) = load_append Q φ κ γ load new in
          pays {s' = turned s h s.choices rest joining} joined (omega (arith, law.choice_pays s.turns s.choices (length s.answers))) refl refl (λ few. few)
          (λ all. record { entries = all_append (rest_slim all) (slim all); bytes = all.bytes })

      set-few : (i : ℕ) (side : Side) → Slim s → length (set e.decisions i side) ≤ most_choices
      set-few i side all = omega (arith, length-set e.decisions i side, front_slim all)

      -- a choice
      choice_came : (i l r : ℕ) {v w : ℕ} → Weighs Q φ κ γ h l v → Weighs Q φ κ γ h r w → (side : Side) → Came (κ + v + w + t) (split B room s rest i l r e.decisions side)
      unfolding split
      choice_came i l r {v} {w} x y Open = by (ltb room.places (length rest + 2)) refl
        where
          two : List Entry
          two = entry l (set e.decisions i Left) ∷ entry r (set e.decisions i Right) ∷ []

          by : (c : Bool) → ltb room.places (length rest + 2) ≡ c → Came (κ + v + w + t) (elim c [ true ↦ refused 23 | false ↦ whole (turned s h s.choices rest two) ])
          by true few = no_places waits load l r x y refl (ltb-true room.places (length rest + 2) few)
          by false few = joins_came two (Load.more x (Load.more y Load.none)) (λ all. All.more (set-few i Left all) (All.more (set-few i Right all) All.none)) (κ + v + w + t) (omega arith)
      choice_came i l r {v} {w} x y Left = joins_came (entry l e.decisions ∷ []) (Load.more x Load.none) (λ all. All.more (front_slim all) All.none) (κ + v + w + t) (omega arith)
      choice_came i l r {v} {w} x y Right = joins_came (entry r e.decisions ∷ []) (Load.more y Load.none) (λ all. All.more (front_slim all) All.none) (κ + v + w + t) (omega arith)

      -- a term is written
      answer_came : (f : ℕ) → at h e.root ≡ apply f [] → Q f → ((t k a : ℕ) → μ (suc t) k (suc a) ≤ μ t k a + φ f) → (a : Answer) → length a.symbols ≡ 1
          → a.decisions ≡ e.decisions → Came (φ f + t) (answered B room s rest (s.answers ++ (a ∷ [])))
      unfolding answered
      answer_came f is q enough a one same = by (ltb room.bytes (length (answer_bytes answers))) refl
        where
          answers : List Answer
          answers = s.answers ++ (a ∷ [])

          one_more : length answers ≡ suc (length s.answers)
          one_more = omega (arith, length-append s.answers (a ∷ []))

          short : Slim s → length (records_bytes answers) ≤ most_record * suc (length s.answers)
          short all = answers-short s all a one (omega (arith, ap length same, front_slim all))

          by : (c : Bool) → ltb room.bytes (length (answer_bytes answers)) ≡ c
              → Came (φ f + t) (elim c [ true ↦ refused 25 | false ↦ whole (record { heap = h; choices = s.choices; waiting = rest; answers = answers; turns = suc s.turns }) ])
          by true full = no_bytes e (Weighs.leaf is q) (omega arith) a short (ltb-true room.bytes (length (answer_bytes answers)) full)
          by false full = over_came answers (φ f) (rw one_more (enough s.turns s.choices (length s.answers))) (λ all. rw one_more (short all))

      -- how many nodes and choices there are after a rewrite
      how-long : {f : ℕ} (r : Ruled f) → length (rewritten h e.root (place r.expr [] (length h) s.choices)) ≡ length h + 2 * expr_choices r.expr
      unfolding rewritten
      how-long r =
          let p = place r.expr [] (length h) s.choices in
          omega (arith, length-append (set h e.root p.top) p.nodes, length-set h e.root p.top, (place-counts Q φ κ γ r.plain (length h) s.choices).0)

      how-many : {f : ℕ} (r : Ruled f) → (place r.expr [] (length h) s.choices).choices ≡ s.choices + expr_choices r.expr
      how-many r = (place-counts Q φ κ γ r.plain (length h) s.choices).1

      -- there is room
      rewritten_came : {f : ℕ} (r : Ruled f) → at h e.root ≡ apply f [] → (place r.expr [] (length h) s.choices).choices ≤ most_choices
          → let p = place r.expr [] (length h) s.choices in
          Came (φ f + t) (whole (turned s (rewritten h e.root p) p.choices rest (e ∷ [])))
      unfolding turned
      rewritten_came {f} r is few =
          let p = place r.expr [] (length h) s.choices in
          let h' = rewritten h e.root p in
          let (u, le, others) = load_after Q φ κ γ e.root s.choices is r.plain r.lighter load in
          let own = rewritten-weighs Q φ κ γ h e.root s.choices is r.plain in
          let (x, sum, joined) = load_append Q φ κ γ others (Load.more {e = e} own Load.none) in
          let same : μ (suc s.turns) p.choices (length s.answers) ≡ μ (suc s.turns) (s.choices + expr_choices r.expr) (length s.answers) =
          ap (λ k. μ (suc s.turns) k (length s.answers)) (how-many r) in
          pays {s' = turned s h' p.choices rest (e ∷ [])} joined (omega (arith, r.pays s.turns s.choices (length s.answers))) (omega (arith, how-long r, how-many r)) refl (λ _. few)
          (λ all. record { entries = all_append (rest_slim all) (All.more (front_slim all) All.none); bytes = all.bytes })

      -- an operation is rewritten by its rule
      rewrite_came : {f : ℕ} → Q f → (r : Ruled f) → at h e.root ≡ apply f []
          → let p = place r.expr [] (length h) s.choices in
          Came (φ f + t) (stepped B room s rest e (rewritten h e.root p) p.choices)
      unfolding stepped
      rewrite_came {f} q r is = by (ltb room.nodes (length h')) refl (ltb most_choices k') refl
        where
          h' : Heap
          h' = rewritten h e.root (place r.expr [] (length h) s.choices)

          k' : ℕ
          k' = (place r.expr [] (length h) s.choices).choices

          by : (c : Bool) → ltb room.nodes (length h') ≡ c → (d : Bool) → ltb most_choices k' ≡ d
              → Came (φ f + t) (elim c [ true ↦ refused 21 | false ↦ elim d [ true ↦ refused 22 | false ↦ whole (turned s h' k' rest (e ∷ [])) ] ])
          by true few d over = no_nodes q r (omega arith) (omega (arith, ltb-true room.nodes (length h') few, how-long r))
          by false few true over = no_choices q r (omega arith) (omega (arith, ltb-true most_choices k' over, how-many r))
          by false few false over = rewritten_came r is (ltb-false most_choices k' over)

      -- ---- the turn, by what the entry waits on

      gone_came : Came (γ + t) (whole (gone s rest))
      unfolding gone turned
      gone_came =
          let (x, is, joined) = load_append Q φ κ γ load Load.none in
          pays {s' = gone s rest} joined (omega (arith, law.fail_pays s.turns s.choices (length s.answers))) refl refl (λ few. few)
          (λ all. record { entries = all_append (rest_slim all) All.none; bytes = all.bytes })

      term_came : (f : ℕ) → at h e.root ≡ apply f [] → Q f → ((t k a : ℕ) → μ (suc t) k (suc a) ≤ μ t k a + φ f) → Came (φ f + t) (done B room s rest e e.root (finished 1))
      unfolding done
      term_came f is q enough =
          answer_came f is q enough (record { symbols = symbols_from (suc most_depth) h e.root; decisions = e.decisions }) (one_symbol h e.root is) refl

      operation_came : {f : ℕ} → Q f → (r : Ruled f) → at h e.root ≡ apply f [] → Came (φ f + t) (done B room s rest e e.root (rewrites e.root r.expr []))
      unfolding done
      operation_came q r is = rewrite_came q r is

      turn_at_lem : {n : ℕ} → follow h e.root ≡ n → turn B room s e rest ≡ turn_at B room s rest e n (at h n)
      unfolding turn
      turn_at_lem is = rw is refl

      still : {x : Node} → at h e.root ≡ x → NoForward x → follow h e.root ≡ e.root
      still is no_forward = follow-still h e.root (rw is no_forward)

      -- A TURN PAYS, OR SAYS WHAT IT LACKED.
      pub turn_came : {v : ℕ} → Weighs Q φ κ γ h e.root v → Came (v + t) (turn B room s e rest)
      unfolding turn_at
      turn_came (Weighs.fails is low) = rw (turn_at_lem (still is tt), is) (gone_came)
      turn_came (Weighs.both {i = i} {l} {r} is x y) = rw (turn_at_lem (still is tt), is) (choice_came i l r x y (get_or e.decisions i Open))
      turn_came (Weighs.leaf {f = f} is q) = rw (turn_at_lem (still is tt), is) (by (law.known f q))
        where
          by : ((B.is_constructor f ≡ true) × ((t k a : ℕ) → μ (suc t) k (suc a) ≤ μ t k a + φ f)) ⊎ Ruled f → Came (φ f + t) (done B room s rest e e.root (walk B h e.root))
          by (inl (k, enough)) = rw (walk-term B h e.root is k) (term_came f is q enough)
          by (inr r) = rw (walk-operation B h e.root is r.operates r.is) (operation_came q r is)
