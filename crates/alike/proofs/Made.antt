-- The nodes that one expression makes twice, from variables whose arrows are paired off: they are alike, in order, and so are the
-- choices that it makes.
use mathlib.Core.Path.{◌≡◌, sym, subst}
use mathlib.Core.List.{List, [], ◌∷◌, ◌++◌}
use Prim.Native.Nat.{ℕ, suc, ◌+◌, ◌<◌, ◌≤◌}
use native.Mathlib.Omega.{arith}
use lib.ListN.{length, length-append}
use Rattle.expressions.specs.Expressions.{Expr, Exprs}
use Rattle.machine.specs.Made.{Made, MadeRow, Placed, make, make_row, place}
use Rattle.rewriting.specs.Scoped.{Scoped, ScopedRow}
use Rattle.rewriting.specs.Lists.{All}
use Rattle.rewriting.proofs.Lists.{all_append, length-behind}
use Rattle.rewriting.proofs.Kept.{make-choices, make_row-choices, place-choices}
use Rattle.rewriting.specs.Heaps.{NoForward}
use Rattle.alike.proofs.Pairs.{Both, none, more, both_at, both_append, both-length}
use Rattle.alike.proofs.Alike.{Pairing, NodeAlike}

-- so many nodes are added from b and b' on, and so many choices from k and k' on; A pairs off arrows, C choice numbers
module _ (A C : Pairing) (b b' total : ℕ) (fresh : (j : ℕ) → j < total → A (b + j) (b' + j)) (k k' many : ℕ)
    (numbers : (j : ℕ) → j < many → C (k + j) (k' + j)) where
  -- what is made as an argument
  pub record MadeAlike (m m' : Made) : Type 0 where
    pub arrow : A m.arrow m'.arrow
    pub nodes : Both (NodeAlike A C) m.nodes m'.nodes
    pub still : All NoForward m.nodes
    pub made : ℕ
    pub choices : m.choices ≡ k + made
    pub choices' : m'.choices ≡ k' + made

  record RowAlike (m m' : MadeRow) : Type 0 where
    arrows : Both A m.arrows m'.arrows
    nodes : Both (NodeAlike A C) m.nodes m'.nodes
    still : All NoForward m.nodes
    made : ℕ
    choices : m.choices ≡ k + made
    choices' : m'.choices ≡ k' + made

  -- what takes an old node's place
  pub record PlacedAlike (m m' : Placed) : Type 0 where
    pub top : NodeAlike A C m.top m'.top
    pub nodes : Both (NodeAlike A C) m.nodes m'.nodes
    pub still : All NoForward m.nodes
    pub made : ℕ
    pub choices : m.choices ≡ k + made
    pub choices' : m'.choices ≡ k' + made

  -- the node and choice number at such places
  at-fresh : (n n' j : ℕ) → n ≡ b + j → n' ≡ b' + j → j < total → A n n'
  at-fresh n n' j e e' lt = rw (e, e') (fresh j lt)

  at-number : (i i' c : ℕ) → i ≡ k + c → i' ≡ k' + c → c < many → C i i'
  at-number i i' c e e' lt = rw (e, e') (numbers c lt)

  mutual
    unfolding make

    pub make_alike : {env env' : List ℕ} (vars : Both A env env') (e : Expr) → Scoped (length env) e → (n n' i i' j c : ℕ) → n ≡ b + j → n' ≡ b' + j → i ≡ k + c → i' ≡ k' + c
        → j + length (make e env n i).nodes ≤ total → (make e env n i).choices ≤ k + many → MadeAlike (make e env n i) (make e env' n' i')
    make_alike {env} {env'} vars (Expr.var x) s n n' i i' j c en en' ei ei' le few =
        record { arrow = both_at 0 0 x vars s; nodes = none; still = All.none; made = c; choices = ei; choices' = ei' }
    make_alike {env} {env'} vars (Expr.apply f es) s n n' i i' j c en en' ei ei' le few =
        let r = make_row_alike vars es s (suc n) (suc n') i i' (suc j) c (omega arith) (omega arith) ei ei' (omega arith) few in
        record {
          arrow = at-fresh n n' j en en' (omega arith);
          nodes = more (NodeAlike.applies r.arrows) r.nodes;
          still = All.more tt r.still;
          made = r.made;
          choices = r.choices;
          choices' = r.choices';
        }
    make_alike {env} {env'} vars (Expr.choice x y) s n n' i i' j c en en' ei ei' le few =
        let l = make x env (suc n) (suc i) in
        let r = make y env (suc n + length l.nodes) l.choices in
        let sum = length-append l.nodes r.nodes in
        let up = (make-choices env x (suc n) (suc i)).0 in
        let up' = (make-choices env y (suc n + length l.nodes) l.choices).0 in
        let la = make_alike vars x s.0 (suc n) (suc n') (suc i) (suc i') (suc j) (suc c) (omega arith) (omega arith) (omega arith) (omega arith) (omega arith) (omega arith) in
        let same = both-length la.nodes in
        let ra = make_alike vars y s.1 (suc n + length l.nodes) (suc n' + length (make x env' (suc n') (suc i')).nodes) l.choices (make x env' (suc n') (suc i')).choices
        (suc j + length l.nodes) la.made (omega arith) (omega arith) la.choices la.choices' (omega arith) few in
        record {
          arrow = at-fresh n n' j en en' (omega arith);
          nodes = more (NodeAlike.chooses (at-number i i' c ei ei' (omega arith)) la.arrow ra.arrow) (both_append la.nodes ra.nodes);
          still = All.more tt (all_append la.still ra.still);
          made = ra.made;
          choices = ra.choices;
          choices' = ra.choices';
        }
    make_alike {env} {env'} vars Expr.fail s n n' i i' j c en en' ei ei' le few =
        record { arrow = at-fresh n n' j en en' (omega arith); nodes = more NodeAlike.fails none; still = All.more tt All.none; made = c; choices = ei; choices' = ei' }
    make_alike {env} {env'} vars (Expr.shared t x y) s n n' i i' j c en en' ei ei' le few =
        let l = make x env n i in
        let l' = make x env' n' i' in
        let r = make y (env ++ (l.arrow ∷ [])) (n + length l.nodes) l.choices in
        let sum = length-append l.nodes r.nodes in
        let up' = (make-choices (env ++ (l.arrow ∷ [])) y (n + length l.nodes) l.choices).0 in
        let la = make_alike vars x s.0 n n' i i' j c en en' ei ei' (omega arith) (omega arith) in
        let same = both-length la.nodes in
        let ra = make_alike (both_append vars (more la.arrow none)) y (subst (λ (v : ℕ). Scoped v y) (sym (length-behind env l.arrow)) s.1)
        (n + length l.nodes) (n' + length l'.nodes) l.choices l'.choices (j + length l.nodes) la.made (omega arith) (omega arith)
        la.choices la.choices' (omega arith) few in
        record {
          arrow = ra.arrow;
          nodes = both_append la.nodes ra.nodes;
          still = all_append la.still ra.still;
          made = ra.made;
          choices = ra.choices;
          choices' = ra.choices';
        }

    make_row_alike : {env env' : List ℕ} (vars : Both A env env') (es : Exprs) → ScopedRow (length env) es → (n n' i i' j c : ℕ) → n ≡ b + j → n' ≡ b' + j → i ≡ k + c → i' ≡ k' + c
        → j + length (make_row es env n i).nodes ≤ total → (make_row es env n i).choices ≤ k + many → RowAlike (make_row es env n i) (make_row es env' n' i')
    make_row_alike {env} {env'} vars Exprs.no_exprs s n n' i i' j c en en' ei ei' le few =
        record { arrows = none; nodes = none; still = All.none; made = c; choices = ei; choices' = ei' }
    make_row_alike {env} {env'} vars (Exprs.more_exprs e es) s n n' i i' j c en en' ei ei' le few =
        let a = make e env n i in
        let r = make_row es env (n + length a.nodes) a.choices in
        let sum = length-append a.nodes r.nodes in
        let up' = (make_row-choices env es (n + length a.nodes) a.choices).0 in
        let aa = make_alike vars e s.0 n n' i i' j c en en' ei ei' (omega arith) (omega arith) in
        let same = both-length aa.nodes in
        let ra = make_row_alike vars es s.1 (n + length a.nodes) (n' + length (make e env' n' i').nodes) a.choices (make e env' n' i').choices
        (j + length a.nodes) aa.made (omega arith) (omega arith) aa.choices aa.choices' (omega arith) few in
        record {
          arrows = more aa.arrow ra.arrows;
          nodes = both_append aa.nodes ra.nodes;
          still = all_append aa.still ra.still;
          made = ra.made;
          choices = ra.choices;
          choices' = ra.choices';
        }

  -- PLACED in a pair of nodes
  pub place_alike : {env env' : List ℕ} (vars : Both A env env') (e : Expr) → Scoped (length env) e → (n n' i i' j c : ℕ) → n ≡ b + j → n' ≡ b' + j
      → i ≡ k + c → i' ≡ k' + c → j + length (place e env n i).nodes ≤ total → (place e env n i).choices ≤ k + many
      → PlacedAlike (place e env n i) (place e env' n' i')
  unfolding place
  place_alike vars (Expr.var x) s n n' i i' j c en en' ei ei' le few =
      record { top = NodeAlike.forwards (both_at 0 0 x vars s); nodes = none; still = All.none; made = c; choices = ei; choices' = ei' }
  place_alike vars (Expr.apply f es) s n n' i i' j c en en' ei ei' le few =
      let r = make_row_alike vars es s n n' i i' j c en en' ei ei' le few in
      record { top = NodeAlike.applies r.arrows; nodes = r.nodes; still = r.still; made = r.made; choices = r.choices; choices' = r.choices' }
  place_alike {env} {env'} vars (Expr.choice x y) s n n' i i' j c en en' ei ei' le few =
      let l = make x env n (suc i) in
      let l' = make x env' n' (suc i') in
      let r = make y env (n + length l.nodes) l.choices in
      let sum = length-append l.nodes r.nodes in
      let up = (make-choices env x n (suc i)).0 in
      let up' = (make-choices env y (n + length l.nodes) l.choices).0 in
      let la = make_alike vars x s.0 n n' (suc i) (suc i') j (suc c) en en' (omega arith) (omega arith) (omega arith) (omega arith) in
      let same = both-length la.nodes in
      let ra = make_alike vars y s.1 (n + length l.nodes) (n' + length l'.nodes) l.choices l'.choices (j + length l.nodes) la.made
      (omega arith) (omega arith) la.choices la.choices' (omega arith) few in
      record {
        top = NodeAlike.chooses (at-number i i' c ei ei' (omega arith)) la.arrow ra.arrow;
        nodes = both_append la.nodes ra.nodes;
        still = all_append la.still ra.still;
        made = ra.made;
        choices = ra.choices;
        choices' = ra.choices';
      }
  place_alike vars Expr.fail s n n' i i' j c en en' ei ei' le few =
      record { top = NodeAlike.fails; nodes = none; still = All.none; made = c; choices = ei; choices' = ei' }
  place_alike {env} {env'} vars (Expr.shared t x y) s n n' i i' j c en en' ei ei' le few =
      let l = make x env n i in
      let l' = make x env' n' i' in
      let r = place y (env ++ (l.arrow ∷ [])) (n + length l.nodes) l.choices in
      let sum = length-append l.nodes r.nodes in
      let up' = (place-choices (env ++ (l.arrow ∷ [])) y (n + length l.nodes) l.choices).0 in
      let la = make_alike vars x s.0 n n' i i' j c en en' ei ei' (omega arith) (omega arith) in
      let same = both-length la.nodes in
      let ra = place_alike {env = env ++ (l.arrow ∷ [])} {env' = env' ++ (l'.arrow ∷ [])} (both_append vars (more la.arrow none)) y (subst (λ (v : ℕ). Scoped v y) (sym (length-behind env l.arrow)) s.1)
      (n + length l.nodes) (n' + length l'.nodes) l.choices l'.choices (j + length l.nodes) la.made (omega arith) (omega arith)
      la.choices la.choices' (omega arith) few in
      record {
        top = ra.top;
        nodes = both_append la.nodes ra.nodes;
        still = all_append la.still ra.still;
        made = ra.made;
        choices = ra.choices;
        choices' = ra.choices';
      }
