-- What the front entry's turn does, with the reasons: the state that it leaves, and what is known of the node that it changed.
use mathlib.Core.Bool.{Bool, true, false}
use mathlib.Core.Path.{◌≡◌, refl, ap}
use mathlib.Core.Logic.{◌≢◌}
use mathlib.Core.Option.{some}
use mathlib.Core.List.{List, [], ◌∷◌, ◌++◌, map}
use Prim.Native.Nat.{ℕ, suc, ◌+◌, ◌≤◌, ◌<◌}
use native.Mathlib.Omega.{arith}
use borrow.Author.Tests.{ltb-false}
use lib.Dec.{ltb}
use lib.ListN.{length, get_or, set}
use Rattle.limits.specs.Sizes.{most_choices, most_depth}
use Rattle.limits.specs.declared.Side.{Side as Decision}
use Rattle.limits.specs.declared.Side.TheVariants.{Open, Left, Right}
use Rattle.limits.specs.Lent.{Entry}
use Rattle.expressions.specs.Expressions.{Expr}
use Rattle.book.specs.Rules.{Book}
use Rattle.nodes.specs.Nodes.{Node, apply, choice, fail, forward, Heap, at}
use Rattle.nodes.specs.Forwards.{follow}
use Rattle.nodes.specs.Steps.{failed, pulled}
use Rattle.nodes.proofs.Pulled.{pulled-length}
use Rattle.machine.specs.Made.{Placed, place, rewritten}
use Rattle.machine.specs.Walk.{Found, arrow_at}
use Rattle.machine.specs.Answers.{Answer, answer_bytes}
use Rattle.machine.specs.Turn.{Rooms, State, Turned, turned, gone, entry, split, answered, stepped, done, turn_at, turn}
use Rattle.rewriting.specs.Rewriting.{Leads, Ends, Value, IsValue}
use Rattle.rewriting.proofs.Steers.{Steerable}
use Rattle.meaning.specs.Demand3.{flatten}
use Rattle.meaning.specs.Partial.{Part, bot, ◌⊑◌}
use Rattle.meaning.specs.Readings.{Side, side_of, Reads, whole}
use Rattle.meaning.proofs.Failed.{Stops}
use Rattle.meaning.proofs.Entries.{can_be_leads, can_be_fail, can_be_dead}
use Rattle.rewriting.specs.Paths.{Finite}
use Rattle.meaning.proofs.PathsEnd.{leads-finite}
use Rattle.meaning.proofs.Follows.{follow-leads, follow-ends}
use Rattle.meaning.proofs.Walks.{Stepwise, Finds, walk-right}
use Rattle.meaning.proofs.Turns.{as_side, sides, Can}
use Rattle.fuel.proofs.Wanted.{Wanted, walk_wanted}

-- the node that an entry's root stands for
abbrev pub root_of : State → Entry → ℕ
root_of s e = follow s.heap e.root

module _ (B : Book) (room : Rooms) (s : State) (e : Entry) (rest : List Entry) where
  -- so it is with every reading that has a whole value at the root
  abbrev Always : ((ℕ → Part) → Type 0) → Type 0
  Always Q = (δ : ℕ → Side) (π : ℕ → Part) → Reads B s.heap δ π → (v : Value) → whole v ⊑ π (root_of s e) → Q π

  -- it says something of node m
  abbrev pub AllKnow : ℕ → Type 0
  AllKnow m = Always (λ π. π m ≢ bot)

  -- the state in which one answer more is written
  abbrev pub writing : Answer → State
  writing a = record { heap = s.heap; choices = s.choices; waiting = rest; answers = s.answers ++ (a ∷ []); turns = suc s.turns }

  -- the state in which these join, and no node is changed
  abbrev pub joined : List Entry → State
  joined joining = turned s s.heap s.choices rest joining

  -- the entry on the left of choice i, decided so
  abbrev pub on_left : ℕ → ℕ → Entry
  on_left i l = entry l (set e.decisions i Left)

  -- and on the right
  abbrev pub on_right : ℕ → ℕ → Entry
  on_right i r = entry r (set e.decisions i Right)

  -- what an expression with these variables makes of the nodes
  abbrev pub placing : Expr → List ℕ → Placed
  placing x env = place x env (length s.heap) s.choices

  -- what the turn comes to, and why
  pub data Did : Turned → Type 0 where
    refused : {c : ℕ} → 20 < c → c ≤ 25 → Did (Turned.refused c)
    went : ((v : Value) → ¬ Can B s.heap e v) → Did (Turned.whole (joined []))
    took : {i l r : ℕ} (c : Side) → at s.heap (root_of s e) ≡ choice i l r → sides e.decisions i ≡ some c
        → Did (Turned.whole (joined (entry (side_of c l r) e.decisions ∷ [])))
    splits : {i l r : ℕ} → at s.heap (root_of s e) ≡ choice i l r → Did (Turned.whole (joined (on_left i l ∷ on_right i r ∷ [])))
    wrote : {w : Value} (a : Answer) → IsValue B s.heap (root_of s e) w → a.symbols ≡ flatten w → Did (Turned.whole (writing a))
    made-fail : {m f : ℕ} {xs : List ℕ} → AllKnow m → at s.heap m ≡ apply f xs → B.is_constructor f ≡ false
        → Stops B s.heap (B.tree f) xs
        → Did (Turned.whole (turned s (failed s.heap m) s.choices rest (e ∷ [])))
    rewrote : {m f : ℕ} {xs env : List ℕ} {x : Expr} → AllKnow m → at s.heap m ≡ apply f xs
        → B.is_constructor f ≡ false → Ends B s.heap (B.tree f) xs x env
        → Did (Turned.whole (turned s (rewritten s.heap m (placing x env)) (placing x env).choices rest (e ∷ [])))
    pulled-up : (h : Heap) → length s.heap < length h → length h ≤ room.nodes
        → Did (Turned.whole (turned s h s.choices rest (e ∷ [])))

  module _ (ends : Finite s.heap e.root) (steers : Steerable B s.heap) where
    -- the node where its forwards lead
    n : ℕ
    n = root_of s e

    -- they lead there
    leads : Leads s.heap e.root n
    unfolding n
    leads = follow-leads s.heap e.root

    -- the root is a choice
    chose : {i l r : ℕ} → at s.heap n ≡ choice i l r → (c : Decision) → get_or e.decisions i Open ≡ c
        → Did (split B room s rest i l r e.decisions c)
    unfolding split side_of n
    chose is Left q = Did.took Side.left is (ap as_side q)
    chose is Right q = Did.took Side.right is (ap as_side q)
    chose {i} {l} {r} is Open q = go (ltb room.places (length rest + 2))
      where
        go : (full : Bool) → Did (elim full [ true ↦ Turned.refused 23 | false ↦ Turned.whole (joined (on_left i l ∷ on_right i r ∷ [])) ])
        go true = Did.refused {c = 23} (omega arith) (omega arith)
        go false = Did.splits is

    -- it is a value
    answered_did : {w : Value} (a : Answer) → IsValue B s.heap n w → a.symbols ≡ flatten w → Did (answered B room s rest (s.answers ++ (a ∷ [])))
    unfolding answered n
    answered_did a is same = go (ltb room.bytes (length (answer_bytes (s.answers ++ (a ∷ [])))))
      where
        go : (full : Bool) → Did (elim full [ true ↦ Turned.refused 25 | false ↦ Turned.whole (writing a) ])
        go true = Did.refused {c = 25} (omega arith) (omega arith)
        go false = Did.wrote a is same

    -- a step is made, if there is room
    stepped_did : (h : Heap) (k : ℕ) → (length h ≤ room.nodes → Did (Turned.whole (turned s h k rest (e ∷ [])))) → Did (stepped B room s rest e h k)
    unfolding stepped
    stepped_did h k made = go (ltb room.nodes (length h)) refl (ltb most_choices k)
      where
        go : (full : Bool) → ltb room.nodes (length h) ≡ full → (many : Bool)
            → Did (elim full [
              | true ↦ Turned.refused 21
              | false ↦ elim many [ true ↦ Turned.refused 22 | false ↦ Turned.whole (turned s h k rest (e ∷ [])) ]
            ])
        go true q many = Did.refused {c = 21} (omega arith) (omega arith)
        go false q true = Did.refused {c = 22} (omega arith) (omega arith)
        go false q false = made (ltb-false _ _ q)

    -- the root is an application: what the walk finds is done
    done_did : {x : Found} → Always (λ π. Wanted π x) → Finds B s.heap (suc most_depth) n x → Did (done B room s rest e n x)
    unfolding done gone
    done_did want (Finds.finished is same) = answered_did _ is same
    done_did want (Finds.goes z) = Did.went (λ v c. can_be_dead z ((can_be_leads leads).0 c))
    done_did want (Finds.steps (Stepwise.fails {m} is op stops)) = stepped_did (failed s.heap m) s.choices (λ _. Did.made-fail want is op stops)
    done_did want (Finds.steps (Stepwise.rewrites {m} {e = x} {vs} is op ends)) =
        let p = placing x (map (λ v. arrow_at s.heap v) vs) in
        stepped_did (rewritten s.heap m p) p.choices (λ _. Did.rewrote want is op ends)
    done_did want (Finds.steps (Stepwise.pulls {m} {j} {i} {l} {r} is lt chain at_c)) =
        let h = pulled s.heap m j i l r in
        stepped_did h s.choices (λ fits. Did.pulled-up h (omega (arith, pulled-length s.heap m j i l r)) fits)
    done_did want (Finds.steps Stepwise.far) = Did.refused {c = 24} (omega arith) (omega arith)

    -- THE TURN
    pub turn_did : Did (turn B room s e rest)
    unfolding turn turn_at gone n
    turn_did = go (at s.heap n) refl
      where
        go : (y : Node) → at s.heap n ≡ y → Did (turn_at B room s rest e n y)
        go fail is = Did.went (λ v c. can_be_fail is ((can_be_leads leads).0 c))
        go (choice i l r) is = chose is (get_or e.decisions i Open) refl
        go (apply f xs) is =
            done_did (λ δ π reads v. walk_wanted B s.heap δ π reads n is v) (walk-right B s.heap steers n is (leads-finite leads ends))
        go (forward m) is = absurd (rw is at (follow-ends ends))
