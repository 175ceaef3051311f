-- Entries and answers that are alike: roots that lead to a pair, and the same decisions up to the numbers of the choices. Question q's choice i,
-- in order of making, has the number at place i of a list in the shared run.
use mathlib.Core.Path.{◌≡◌, refl, sym, ap, ◌∙◌}
use mathlib.Core.Logic.{◌≢◌}
use mathlib.Core.List.{List, [], ◌∷◌, ◌++◌}
use Prim.Native.Nat.{ℕ, zero, suc, ◌+◌, ◌-◌, ◌<◌, ◌≤◌}
use native.Mathlib.Omega.{arith}
use native.Mathlib.Decide.{ℕ_discrete, dec_lt}
use lib.ListN.{length, get_or, set, length-append, length-set, get_or-append}
use lib.Seq.{get_or-set_same, get_or-set_other, get_or-append-add}
use Rattle.limits.specs.Sizes.{most_choices}
use Rattle.limits.specs.declared.Side.{Side}
use Rattle.limits.specs.declared.Side.TheVariants.{Open}
use Rattle.limits.specs.Decisions.{Decisions}
use Rattle.limits.specs.Lent.{Entry as PlainEntry}
use Rattle.nodes.specs.Nodes.{Heap}
use Rattle.machine.specs.Answers.{Answer as PlainAnswer}
use Rattle.rewriting.specs.Lists.{firsts}
use Rattle.rewriting.proofs.Lists.{length-firsts, get_or_firsts}
use Rattle.alike.specs.Asked.{Entry, Answer}
use Rattle.alike.proofs.Alike.{Pairing, Arrows}

-- ---- elements of a list among those of a longer one

-- the elements of which M holds are related, in order, to those of the first list
pub data Among {A B : Type 0} (M : B → Type 0) (R : A → B → Type 0) : List A → List B → Type 0 where
  none : Among M R [] []
  mine : {a : A} {b : B} {us : List A} {vs : List B} → M b → R a b → Among M R us vs → Among M R (a ∷ us) (b ∷ vs)
  other : {b : B} {us : List A} {vs : List B} → ¬ M b → Among M R us vs → Among M R us (b ∷ vs)

module _ {A B : Type 0} {M : B → Type 0} {R : A → B → Type 0} where
  pub among_append : {us us' : List A} {vs vs' : List B} → Among M R us vs → Among M R us' vs' → Among M R (us ++ us') (vs ++ vs')
  among_append none q = q
  among_append (mine m r p) q = mine m r (among_append p q)
  among_append (other n p) q = other n (among_append p q)

  pub among-map : {S : A → B → Type 0} {us : List A} {vs : List B} → ((a : A) (b : B) → R a b → S a b) → Among M R us vs → Among M S us vs
  among-map f none = none
  among-map f (mine m r p) = mine m (f _ _ r) (among-map f p)
  among-map f (other n p) = other n (among-map f p)

-- ---- numbers of choices

-- choice i has number i'
abbrev pub Numbered : List ℕ → Pairing
Numbered cs i i' = (i < length cs) × (get_or cs i 0 ≡ i')

-- "renumbered in order of making"
abbrev pub Rising : List ℕ → Type 0
Rising cs = (i j : ℕ) → i < j → j < length cs → get_or cs i 0 < get_or cs j 0

abbrev pub Below : ℕ → List ℕ → Type 0
Below k cs = (i : ℕ) → i < length cs → get_or cs i 0 < k

-- choices have been made since there were k in the shared run
pub record Longer (k : ℕ) (cs ds : List ℕ) : Type 0 where
  pub longer : length cs ≤ length ds
  pub same : (i : ℕ) → i < length cs → get_or ds i 0 ≡ get_or cs i 0
  pub fresh : (i : ℕ) → length cs ≤ i → i < length ds → k ≤ get_or ds i 0

-- none
pub no_longer : (k : ℕ) (cs : List ℕ) → Longer k cs cs
no_longer k cs = record { longer = omega arith; same = λ i lt. refl; fresh = λ i le lt. absurd (omega arith) }

-- so many, which got the next numbers
module _ (k many : ℕ) (cs : List ℕ) where
  abbrev pub numbered_on : List ℕ
  numbered_on = cs ++ firsts many (λ j. k + j)

  pub numbered_on_length : length numbered_on ≡ length cs + many
  numbered_on_length = length-append cs (firsts many (λ j. k + j)) ∙ ap (λ m. length cs + m) (length-firsts many (λ j. k + j))

  old-number : (i : ℕ) → i < length cs → get_or numbered_on i 0 ≡ get_or cs i 0
  old-number i lt = get_or-append cs (firsts many (λ j. k + j)) 0 i lt

  new-number : (j : ℕ) → j < many → get_or numbered_on (length cs + j) 0 ≡ k + j
  new-number j lt = get_or-append-add cs (firsts many (λ j. k + j)) j 0 ∙ get_or_firsts many (λ j. k + j) j 0 lt

  -- by its place from the first new one on
  new-number-at : (i : ℕ) → length cs ≤ i → i < length numbered_on → get_or numbered_on i 0 ≡ k + (i - length cs)
  new-number-at i le lt =
      let at : i ≡ length cs + (i - length cs) = omega arith in
      ap (λ m. get_or numbered_on m 0) at ∙ new-number (i - length cs) (omega (arith, numbered_on_length))

  pub numbered-old : (i i' : ℕ) → Numbered cs i i' → Numbered numbered_on i i'
  numbered-old i i' (lt, e) = (omega (arith, numbered_on_length), old-number i lt ∙ e)

  pub numbered-new : (j : ℕ) → j < many → Numbered numbered_on (length cs + j) (k + j)
  numbered-new j lt = (omega (arith, numbered_on_length), new-number j lt)

  pub numbered_on_longer : Longer k cs numbered_on
  numbered_on_longer = record {
    longer = omega (arith, numbered_on_length);
    same = old-number;
    fresh = λ i le lt. omega (arith, new-number-at i le lt);
  }

  pub numbered_on_below : Below k cs → Below (k + many) numbered_on
  numbered_on_below below i lt = go (dec_lt i (length cs))
    where
      go : Dec (i < length cs) → get_or numbered_on i 0 < k + many
      go (yes l) = omega (arith, old-number i l, below i l)
      go (no l) = omega (arith, new-number-at i (omega arith) lt, numbered_on_length)

  pub numbered_on_rising : Below k cs → Rising cs → Rising numbered_on
  numbered_on_rising below rising i j lt lt' = go (dec_lt i (length cs)) (dec_lt j (length cs))
    where
      go : Dec (i < length cs) → Dec (j < length cs) → get_or numbered_on i 0 < get_or numbered_on j 0
      go (yes a) (yes b) = rw (old-number i a, old-number j b) (rising i j lt b)
      go (yes a) (no b) = omega (arith, old-number i a, below i a, new-number-at j (omega arith) lt')
      go (no a) (yes b) = absurd (omega arith)
      go (no a) (no b) = omega (arith, new-number-at i (omega arith) (omega arith), new-number-at j (omega arith) lt')

-- each number is given once
pub rising-once : (cs : List ℕ) → Rising cs → (i j : ℕ) → i < length cs → j < length cs → get_or cs i 0 ≡ get_or cs j 0 → i ≡ j
rising-once cs rising i j lt lt' e = go (dec_lt i j) (dec_lt j i)
  where
    go : Dec (i < j) → Dec (j < i) → i ≡ j
    go (yes a) d = absurd (omega (arith, rising i j a lt'))
    go (no a) (yes b) = absurd (omega (arith, rising j i b lt))
    go (no a) (no b) = omega arith

-- so there are no more than numbers to give
pub rising-few : {k : ℕ} (cs : List ℕ) → Rising cs → Below k cs → length cs ≤ k
rising-few {k} cs rising below = go (length cs) refl
  where
    at_least : (i : ℕ) → i < length cs → i ≤ get_or cs i 0
    at_least zero lt = omega arith
    at_least (suc i) lt = omega (arith, at_least i (omega arith), rising i (suc i) (omega arith) lt)

    go : (n : ℕ) → length cs ≡ n → length cs ≤ k
    go zero e = omega arith
    go (suc n) e = omega (arith, at_least n (omega arith), below n (omega arith))

-- ---- decisions

-- THE SAME DECISIONS up to the numbers: each choice is decided as its number is, and all other numbers are open
pub record DecisionsAlike (cs : List ℕ) (d d' : Decisions) : Type 0 where
  pub sized : length d ≡ most_choices
  pub sized' : length d' ≡ most_choices
  pub same : (i : ℕ) → i < length cs → get_or d i Open ≡ get_or d' (get_or cs i 0) Open
  pub open_past : (i : ℕ) → length cs ≤ i → get_or d i Open ≡ Open
  pub open_others : (i' : ℕ) → ((i : ℕ) → i < length cs → get_or cs i 0 ≢ i') → get_or d' i' Open ≡ Open

-- choices that have been made since are open
pub decisions_longer : {k : ℕ} {cs ds : List ℕ} → Longer k cs ds → Below k cs → {d d' : Decisions} → DecisionsAlike cs d d' → DecisionsAlike ds d d'
decisions_longer {k} {cs} {ds} l below {d} {d'} a = record {
  sized = a.sized;
  sized' = a.sized';
  same = λ i lt. same i lt (dec_lt i (length cs));
  open_past = λ i le. a.open_past i (omega (arith, l.longer));
  open_others = λ i' none. a.open_others i' (λ i lt e. none i (omega (arith, l.longer)) (l.same i lt ∙ e));
}
  where
    same : (i : ℕ) → i < length ds → Dec (i < length cs) → get_or d i Open ≡ get_or d' (get_or ds i 0) Open
    same i lt (yes old) = a.same i old ∙ ap (λ m. get_or d' m Open) (sym (l.same i old))
    same i lt (no new) =
        a.open_past i (omega arith) ∙ sym (a.open_others (get_or ds i 0) (λ j lt' e. omega (arith, below j lt', l.fresh i (omega arith) lt)))

-- one decision more on both sides
pub decisions-set : {cs : List ℕ} → Rising cs → Below most_choices cs → length cs ≤ most_choices → {d d' : Decisions} (i i' : ℕ) (c : Side)
    → Numbered cs i i' → DecisionsAlike cs d d' → DecisionsAlike cs (set d i c) (set d' i' c)
decisions-set {cs} rising below few {d} {d'} i i' c (lt, e) a = record {
  sized = length-set d i c ∙ a.sized;
  sized' = length-set d' i' c ∙ a.sized';
  same = λ j lt'. same j lt' (ℕ_discrete j i);
  open_past = λ j le. get_or-set_other d i j c Open (λ q. omega arith) ∙ a.open_past j le;
  open_others = λ j' none. get_or-set_other d' i' j' c Open (λ q. none i lt (e ∙ sym q)) ∙ a.open_others j' none;
}
  where
    same : (j : ℕ) → j < length cs → Dec (j ≡ i) → get_or (set d i c) j Open ≡ get_or (set d' i' c) (get_or cs j 0) Open
    same j lt' (yes q) =
        rw (q, e, get_or-set_same d i c Open (omega (arith, a.sized)), get_or-set_same d' i' c Open (omega (arith, a.sized', below i lt))) refl
    same j lt' (no q) =
        get_or-set_other d i j c Open q ∙ a.same j lt'
        ∙ sym (get_or-set_other d' i' (get_or cs j 0) c Open (λ r. q (rising-once cs rising j i lt' lt (r ∙ sym e))))

-- ---- entries and answers

pub record EntryAlike (h h' : Heap) (N : Pairing) (cs : List ℕ) (e : PlainEntry) (e' : Entry) : Type 0 where
  pub roots : Arrows h h' N e.root e'.root
  pub decisions : DecisionsAlike cs e.decisions e'.decisions

pub record AnswerAlike (cs : List ℕ) (a : PlainAnswer) (a' : Answer) : Type 0 where
  pub symbols : a.symbols ≡ a'.symbols
  pub decisions : DecisionsAlike cs a.decisions a'.decisions

-- an entry of question q
abbrev pub Of : ℕ → Entry → Type 0
Of q e = e.question ≡ q

-- an answer to it
abbrev pub To : ℕ → Answer → Type 0
To q a = a.question ≡ q
