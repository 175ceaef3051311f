-- A ROW OF QUESTIONS, loaded, is accepted if it fits the rooms; so every state that a run over it leaves is accepted.
use mathlib.Core.Bool.{Bool}
use mathlib.Core.Path.{◌≡◌, refl}
use mathlib.Core.List.{List, [], ◌∷◌, ◌++◌, map, map-append}
use Prim.Native.Nat.{ℕ, suc, ◌+◌, ◌≤◌, ◌<◌}
use native.Mathlib.Nat.{le_refl}
use native.Mathlib.Omega.{arith}
use lib.ListN.{length, length-append, length-map, length-replicate}
use Rattle.limits.specs.Sizes.{most_choices}
use Rattle.limits.specs.declared.Side.TheVariants.{Open}
use Rattle.limits.specs.Decisions.{all_open}
use Rattle.limits.specs.Lent.{Entry as PlainEntry}
use Rattle.reading.specs.Reading.{got}
use Rattle.symbols.specs.Symbols.{Symbols}
use Rattle.expressions.specs.Expressions.{Expr}
use Rattle.book.specs.Rules.{Rules}
use Rattle.book.specs.Admission.{read_book}
use Rattle.nodes.specs.Nodes.{Node, fail, Heap, at}
use Rattle.machine.specs.Made.{make}
use Rattle.machine.specs.Turn.{Rooms}
use Rattle.rewriting.specs.Scoped.{Scoped}
use Rattle.rewriting.specs.Lists.{All}
use Rattle.rewriting.proofs.Lists.{all_append, all_map, all_anywhere}
use Rattle.rewriting.specs.Heaps.{ArrowsBelow, ChoiceBelow}
use Rattle.rewriting.proofs.Kept.{arrows_below_mono, choice_below_mono, make-range, make-choices}
use Rattle.sorts.specs.Sorts.{ExprFits, RulesFit}
use Rattle.sorts.proofs.ReadingFits.{book-fits, question-fits}
use Rattle.sorts.proofs.Steering.{scoped}
use Rattle.meaning.proofs.AllTurns.{open_at}
use Rattle.meaning.proofs.Finite.{finite-fail}
use Rattle.accepted.specs.Accepted.{AcceptedEntry}
use Rattle.accepted.specs.Turnable.{TurnableNodes}
use Rattle.accepted.proofs.Asked.{settled_argued}
use Rattle.accepted.proofs.Laws.{argues_settled}
use Rattle.accepted.proofs.AllEnd.{made_ends}
use Rattle.accepted.proofs.Stays.{made_fitting}
use Rattle.accepted.proofs.Turns.{turnable_accepted}
use Rattle.alike.specs.Asked.{Entry}
use Rattle.alike.specs.Turning as Later
use Rattle.alike.specs.Turning.{State, loaded_on, loaded}
use Rattle.alike.specs.Night.{read_row, asked}
use Rattle.alike.specs.AsWithRoom.{plainly}
use Rattle.alike.specs.AsPlain.{plain_entry}
use Rattle.alike.proofs.Nights.{row_read}
use Rattle.lasting.specs.Lasting.{LaterTurnable, InUse, Admitted, Loadable, LoadedLasts, RunLasts}
use Rattle.lasting.proofs.Turns.{accepted_lasts, in_use_lasts}

-- ---- one question more

-- what holds of the node at each place holds of each
each_of : {P : Node → Type 0} (h : Heap) → ((m : ℕ) → P (at h m)) → All P h
each_of [] f = All.none
each_of (x ∷ h) f = All.more (f 0) (each_of h (λ m. f (suc m)))

-- a question without variables makes a node, wherever it is made
made_some : (x : Expr) → Scoped 0 x → (n k : ℕ) → 0 < length (make x [] n k).nodes
unfolding make
made_some (Expr.var v) closed n k = omega arith
made_some (Expr.apply f es) closed n k = omega arith
made_some (Expr.choice a b) closed n k = omega arith
made_some Expr.fail closed n k = omega arith
made_some (Expr.shared s a b) closed n k =
    let l = make a [] n k in
    omega (arith, made_some a closed.0 n k, length-append l.nodes (make b (l.arrow ∷ []) (n + length l.nodes) l.choices).nodes)

module _ {r : Rules} (x : Expr) (s : ℕ) (fits : ExprFits r.symbols [] x s) (h : Heap) (k : ℕ) (w : TurnableNodes r k h) where
  abbrev ys : List Node
  ys = (make x [] (length h) k).nodes

  abbrev k' : ℕ
  k' = (make x [] (length h) k).choices

  closed : Scoped 0 x
  closed = scoped r.symbols [] x s fits

  more-choices : (k ≤ k') × All (ChoiceBelow k') ys
  more-choices = let (up, each) = make-choices [] x (length h) k in (up, each k' (le_refl k'))

  ranged : ((make x [] (length h) k).arrow < length (h ++ ys)) × All (ArrowsBelow (length (h ++ ys))) ys
  ranged = make-range (length (h ++ ys)) [] (omega (arith, length-append h ys, made_some x closed (length h) k)) All.none x (length h) k
      (omega (arith, length-append h ys))

  -- what holds of each node of h and of each that is made holds of each
  each-made : (P : Node → Type 0) → P fail → All P h → All P ys → (m : ℕ) → P (at (h ++ ys) m)
  each-made P of-fail old new m = all_anywhere {P = P} fail m of-fail (all_append old new)

  -- THE NODES stay turnable
  made_turnable : TurnableNodes r k' (h ++ ys)
  made_turnable = record {
    range = each-made (ArrowsBelow (length (h ++ ys))) tt
        (each_of h (λ m. arrows_below_mono (at h m) (omega (arith, length-append h ys)) (w.range m))) ranged.1;
    numbered = each-made (ChoiceBelow k') tt (each_of h (λ m. choice_below_mono (at h m) more-choices.0 (w.numbered m))) more-choices.1;
    argues = record {
      rules = w.argues.rules;
      argued = settled_argued (made_fitting (argues_settled w.argues) w.range x s k fits).settled;
    };
    ends = made_ends w.range w.ends x closed k;
  }

  -- AN ENTRY waits on its root, and all others wait as before
  made-entries : {es : List PlainEntry} → All (AcceptedEntry k h) es
      → All (AcceptedEntry k' (h ++ ys)) (es ++ (record { root = (make x [] (length h) k).arrow; decisions = all_open } ∷ []))
  unfolding all_open
  made-entries entries = all_append
      (all_map (λ e a. record {
        inside = omega (arith, a.inside, length-append h ys);
        sized = a.sized;
        free = λ i le. a.free i (omega (arith, more-choices.0));
      }) entries)
      (All.more (record { inside = ranged.0; sized = length-replicate most_choices Open; free = λ i le. open_at most_choices i }) All.none)

-- ---- all questions

-- a state in loading
abbrev loaded_so_far : Heap → ℕ → List Entry → State
loaded_so_far h k waiting = record { heap = h; choices = k; waiting = waiting; answers = []; turns = 0; most = length h }

-- what loading hands on
record SoFar (r : Rules) (s : State) : Type 0 where
  heap : TurnableNodes r s.choices s.heap
  entries : All (AcceptedEntry s.choices s.heap) (map plain_entry s.waiting)

-- the questions from number q on
loaded_on_turnable : (r : Rules) (q : ℕ) (xs : List Expr) (h : Heap) (k : ℕ) (waiting : List Entry) → All (Admitted r.symbols) xs
    → SoFar r (loaded_so_far h k waiting) → SoFar r (loaded_on q xs h k waiting)
unfolding loaded_on
loaded_on_turnable r q [] h k waiting All.none so = so
loaded_on_turnable r q (x ∷ xs) h k waiting (All.more (bytes, p, read) admitted) so =
    let m = make x [] (length h) k in
    let (s, fits) = question-fits r.symbols bytes read in
    loaded_on_turnable r (suc q) xs (h ++ m.nodes) m.choices (waiting ++ (Later.entry q m.arrow all_open ∷ [])) admitted (record {
      heap = made_turnable x s fits h k so.heap;
      entries = rw (map-append plain_entry waiting (Later.entry q m.arrow all_open ∷ [])) (made-entries x s fits h k so.heap so.entries);
    })

-- an entry for each
loaded_on-waiting : (q : ℕ) (xs : List Expr) (h : Heap) (k : ℕ) (waiting : List Entry) → length (loaded_on q xs h k waiting).waiting ≡ length waiting + length xs
unfolding loaded_on
loaded_on-waiting q [] h k waiting = omega arith
loaded_on-waiting q (x ∷ xs) h k waiting =
    let m = make x [] (length h) k in
    let back = Later.entry q m.arrow all_open ∷ [] in
    omega (arith, loaded_on-waiting (suc q) xs (h ++ m.nodes) m.choices (waiting ++ back), length-append waiting back)

-- nothing written, and as many nodes in use as ever were
loaded_on-counts : (q : ℕ) (xs : List Expr) (h : Heap) (k : ℕ) (waiting : List Entry)
    → (length (loaded_on q xs h k waiting).answers ≡ 0) × InUse (loaded_on q xs h k waiting)
unfolding loaded_on
loaded_on-counts q [] h k waiting = (refl, le_refl (length h))
loaded_on-counts q (x ∷ xs) h k waiting =
    let m = make x [] (length h) k in
    loaded_on-counts (suc q) xs (h ++ m.nodes) m.choices (waiting ++ (Later.entry q m.arrow all_open ∷ []))

pub loaded-waiting : (xs : List Expr) → length (loaded xs).waiting ≡ length xs
unfolding loaded
loaded-waiting xs = omega (arith, loaded_on-waiting 0 xs [] 0 [])

-- no nodes at first
none_yet : (r : Rules) → RulesFit r → SoFar r (loaded_so_far [] 0 [])
none_yet r rules = record {
  heap = record {
    range = λ m. tt;
    numbered = λ m. tt;
    argues = record { rules = rules; argued = λ m. tt };
    ends = λ m. finite-fail {n = m} refl;
  };
  entries = All.none;
}

module _ (book : List ℕ) {r : Rules} {p : ℕ} (admitted : read_book book ≡ got r p) where
  loaded-so : (xs : List Expr) → All (Admitted r.symbols) xs → SoFar r (loaded xs)
  unfolding loaded
  loaded-so xs each = loaded_on_turnable r 0 xs [] 0 [] each (none_yet r (book-fits book admitted))

  -- A LOADED ROW is turnable, if its choices are few enough
  pub row_turnable : (xs : List Expr) → All (Admitted r.symbols) xs → (loaded xs).choices ≤ most_choices → LaterTurnable r (loaded xs)
  row_turnable xs each few = let so = loaded-so xs each in record { heap = so.heap; few = few; entries = so.entries }

  -- and accepted, if it fits the rooms
  pub row-accepted : (room : Rooms) (xs : List Expr) → Loadable r.symbols room xs → LoadedLasts r room xs
  unfolding loaded
  row-accepted room xs loads =
      let counts = loaded_on-counts 0 xs [] 0 [] in
      let turnable = row_turnable xs loads.admitted loads.choices in
      record {
        accepted = turnable_accepted turnable (record {
          answers = omega (arith, length-map (loaded xs).answers plainly, counts.0);
          some = some (loaded xs).waiting (omega (arith, loaded-waiting xs, loads.some)) turnable.entries;
          nodes = loads.nodes;
          places = rw (length-map, loaded-waiting xs) loads.places;
        });
        in_use = counts.1;
      }
    where
      some : (es : List Entry) → 0 < length es → {h : Heap} {k : ℕ} → All (AcceptedEntry k h) (map plain_entry es) → 0 < length h
      some [] lt all = absurd (omega arith)
      some (e ∷ es) lt (All.more a all) = omega (arith, a.inside)

  -- EVERY STATE that a run over it leaves is accepted
  pub run-accepted : (row : Bool) (room : Rooms) (xs : List Expr) → Loadable r.symbols room xs → RunLasts r row room xs
  run-accepted row room xs loads =
      let loaded-lasts = row-accepted room xs loads in
      let turnable = row_turnable xs loads.admitted loads.choices in
      record {
        accepted = λ fuel. (accepted_lasts r row room (book-fits book admitted) 0).turns fuel (loaded xs) loaded-lasts.accepted;
        in_use = λ fuel. ((in_use_lasts r row room).turns fuel (loaded xs) (turnable, loaded-lasts.in_use)).1;
      }

-- questions that were read are admitted
pub row-admitted : (S : Symbols) (lengths questions : List ℕ) (xs : List Expr) → read_row S 0 lengths questions ≡ asked xs → All (Admitted S) xs
row-admitted S lengths questions xs read = row_read S 0 lengths questions xs read
