-- Answers written before, and the room for answers, change nothing in a run's turns but whether a record has room (refusal 25).
use mathlib.Core.Bool.{Bool, true, false}
use mathlib.Core.Path.{◌≡◌, refl, ap}
use mathlib.Core.Logic.{◌⊎◌, inl, inr, ◌≢◌}
use mathlib.Core.List.{List, [], ◌∷◌, ◌++◌, append_assoc}
use Prim.Native.Nat.{ℕ, zero, suc, ◌+◌, ◌<◌}
use native.Mathlib.Omega.{arith}
use borrow.Author.Tests.{ltb-true}
use lib.Dec.{ltb}
use lib.ListN.{length, get_or}
use Rattle.limits.specs.Sizes.{most_choices}
use Rattle.limits.specs.declared.Side.{Side}
use Rattle.limits.specs.declared.Side.TheVariants.{Open, Left, Right}
use Rattle.limits.specs.Decisions.{Decisions}
use Rattle.limits.specs.Lent.{Entry}
use Rattle.book.specs.Rules.{Book}
use Rattle.nodes.specs.Nodes.{Node, apply, choice, fail, forward, Heap, at}
use Rattle.nodes.specs.Forwards.{follow}
use Rattle.machine.specs.Answers.{Answer, answer_bytes}
use Rattle.machine.specs.Walk.{Found, walk}
use Rattle.machine.specs.Turn.{Rooms, State, Turned, Ended, turned, gone, split, answered, stepped, done, turn_at, turn, after, turns}

-- the state with these answers before its own
abbrev pub on_top : List Answer → State → State
on_top old s = record { heap = s.heap; choices = s.choices; waiting = s.waiting; answers = old ++ s.answers; turns = s.turns }

module _ (B : Book) (old : List Answer) (room room' : Rooms) (nodes : room.nodes ≡ room'.nodes) (places : room.places ≡ room'.places) where
  -- what two turns come to, the first with answers written before: the same, unless one of them lacks room for a record
  abbrev pub Alike : Turned → Turned → Type 0
  Alike (Turned.whole t) (Turned.whole t') = t ≡ on_top old t'
  Alike (Turned.whole t) (Turned.refused c) = c ≡ 25
  Alike (Turned.refused c) (Turned.whole t) = (c ≡ 25) × (room.bytes < length (answer_bytes (old ++ t.answers)))
  Alike (Turned.refused c) (Turned.refused c') = (c ≡ c') ⊎ (c ≡ 25) ⊎ (c' ≡ 25)

  -- a refusal with c if there is no room for so many
  two_ways : (c a b many : ℕ) → a ≡ b → (x y : State) → x ≡ on_top old y
      → Alike (elim (ltb a many) [ true ↦ Turned.refused c | false ↦ Turned.whole x ]) (elim (ltb b many) [ true ↦ Turned.refused c | false ↦ Turned.whole y ])
  two_ways c a b many q x y same = rw q (by (ltb b many))
    where
      by : (t : Bool) → Alike (elim t [ true ↦ Turned.refused c | false ↦ Turned.whole x ]) (elim t [ true ↦ Turned.refused c | false ↦ Turned.whole y ])
      by true = inl refl
      by false = same

  module _ (s : State) (e : Entry) (rest : List Entry) where
    -- nothing is written
    gone_alike : Alike (Turned.whole (gone (on_top old s) rest)) (Turned.whole (gone s rest))
    unfolding gone turned
    gone_alike = refl

    split_alike : (i l r : ℕ) (ds : Decisions) (c : Side) → Alike (split B room (on_top old s) rest i l r ds c) (split B room' s rest i l r ds c)
    unfolding split turned
    split_alike i l r ds Left = refl
    split_alike i l r ds Right = refl
    split_alike i l r ds Open = two_ways 23 room.places room'.places (length rest + 2) places _ _ refl

    -- a step
    stepped_alike : (h : Heap) (k : ℕ) → Alike (stepped B room (on_top old s) rest e h k) (stepped B room' s rest e h k)
    unfolding stepped turned
    stepped_alike h k = by (ltb room.nodes (length h)) (ltb room'.nodes (length h)) (ap (λ (p : ℕ). ltb p (length h)) nodes) (ltb most_choices k)
      where
        by : (a b : Bool) → a ≡ b → (c : Bool)
            → Alike (elim a [ true ↦ Turned.refused 21 | false ↦ elim c [ true ↦ Turned.refused 22 | false ↦ Turned.whole (turned (on_top old s) h k rest (e ∷ [])) ] ])
            (elim b [ true ↦ Turned.refused 21 | false ↦ elim c [ true ↦ Turned.refused 22 | false ↦ Turned.whole (turned s h k rest (e ∷ [])) ] ])
        by true true q c = inl refl
        by false false q true = inl refl
        by false false q false = refl
        by true false q c = absurd (let z : ◌≡◌ {A = ℕ} 0 1 = cc in omega arith)
        by false true q c = absurd (let z : ◌≡◌ {A = ℕ} 0 1 = cc in omega arith)

    -- an answer: only here it matters what was written before, and how much room there is
    answered_alike : (a : Answer) → Alike (answered B room (on_top old s) rest ((old ++ s.answers) ++ (a ∷ []))) (answered B room' s rest (s.answers ++ (a ∷ [])))
    unfolding answered
    answered_alike a =
        by (ltb room.bytes (length (answer_bytes ((old ++ s.answers) ++ (a ∷ []))))) refl (ltb room'.bytes (length (answer_bytes (s.answers ++ (a ∷ [])))))
      where
        next : List Answer → State
        next answers = record { heap = s.heap; choices = s.choices; waiting = rest; answers = answers; turns = suc s.turns }

        by : (b : Bool) → ltb room.bytes (length (answer_bytes ((old ++ s.answers) ++ (a ∷ [])))) ≡ b → (c : Bool)
            → Alike (elim b [ true ↦ Turned.refused 25 | false ↦ Turned.whole (next ((old ++ s.answers) ++ (a ∷ []))) ])
            (elim c [ true ↦ Turned.refused 25 | false ↦ Turned.whole (next (s.answers ++ (a ∷ []))) ])
        by true test true = inl refl
        by true test false = (refl, rw (← append_assoc old s.answers (a ∷ [])) (ltb-true _ _ test))
        by false test true = refl
        by false test false = ap next (append_assoc old s.answers (a ∷ []))

    -- what the walk found, done
    done_alike : (n : ℕ) (x : Found) → Alike (done B room (on_top old s) rest e n x) (done B room' s rest e n x)
    unfolding done
    done_alike n (Found.finished a) = answered_alike _
    done_alike n Found.goes = gone_alike
    done_alike n (Found.fails m) = stepped_alike _ _
    done_alike n (Found.rewrites m x vs) = stepped_alike _ _
    done_alike n (Found.pulls m j i l r) = stepped_alike _ _
    done_alike n Found.far = inl refl

    -- THE TURN
    pub turn_alike : Alike (turn B room (on_top old s) e rest) (turn B room' s e rest)
    unfolding turn turn_at
    turn_alike = by (follow s.heap e.root) (at s.heap (follow s.heap e.root))
      where
        by : (n : ℕ) (x : Node) → Alike (turn_at B room (on_top old s) rest e n x) (turn_at B room' s rest e n x)
        by n fail = gone_alike
        by n (forward m) = gone_alike
        by n (choice i l r) = split_alike i l r e.decisions (get_or e.decisions i Open)
        by n (apply f xs) = done_alike n (walk B s.heap n)

  -- two ends are the same, but for the answers written before, if neither lacked room for a record
  abbrev Same : Ended → Ended → Type 0
  Same x x' = x.number ≢ 25 → x'.number ≢ 25 → (x.number ≡ x'.number) × (x.state ≡ on_top old x'.state)

  -- ALL TURNS
  pub turns_alike : (fuel : ℕ) (s : State) → Same (turns B room fuel (on_top old s)) (turns B room' fuel s)
  unfolding turns after
  turns_alike zero s = go s.waiting
    where
      go : (l : List Entry) → Same (elim l [ [] ↦ record { number = 0; state = on_top old s } | e ∷ rest ↦ record { number = 20; state = on_top old s } ])
          (elim l [ [] ↦ record { number = 0; state = s } | e ∷ rest ↦ record { number = 20; state = s } ])
      go [] p q = (refl, refl)
      go (e ∷ rest) p q = (refl, refl)
  turns_alike (suc fuel) s = go s.waiting (turns_alike fuel)
    where
      by : (t t' : Turned) → Alike t t' → ((t : State) → Same (turns B room fuel (on_top old t)) (turns B room' fuel t))
          → Same (after t (on_top old s) (λ t. turns B room fuel t)) (after t' s (λ t. turns B room' fuel t))
      by (Turned.whole t) (Turned.whole t') is ih = rw is (ih t')
      by (Turned.whole t) (Turned.refused c) is ih = λ p q. absurd (q is)
      by (Turned.refused c) (Turned.whole t) (is, lacks) ih = λ p q. absurd (p is)
      by (Turned.refused c) (Turned.refused c') (inl is) ih = λ p q. (is, refl)
      by (Turned.refused c) (Turned.refused c') (inr (inl is)) ih = λ p q. absurd (p is)
      by (Turned.refused c) (Turned.refused c') (inr (inr is)) ih = λ p q. absurd (q is)

      go : (l : List Entry) → ((t : State) → Same (turns B room fuel (on_top old t)) (turns B room' fuel t))
          → Same (elim l [ [] ↦ record { number = 0; state = on_top old s } | e ∷ rest ↦ after (turn B room (on_top old s) e rest) (on_top old s) (λ t. turns B room fuel t) ])
          (elim l [ [] ↦ record { number = 0; state = s } | e ∷ rest ↦ after (turn B room' s e rest) s (λ t. turns B room' fuel t) ])
      go [] ih = λ p q. (refl, refl)
      go (e ∷ rest) ih = by (turn B room (on_top old s) e rest) (turn B room' s e rest) (turn_alike s e rest) ih
