-- REQUEST L10: a run over one question has the turns and answers of the plain machine with room enough.
use mathlib.Core.Bool.{Bool, true, false}
use mathlib.Core.Path.{◌≡◌, refl, sym, ap, ap₂, subst, ◌∙◌}
use mathlib.Core.Logic.{◌≢◌}
use mathlib.Core.List.{List, [], ◌∷◌, ◌++◌, map}
use Prim.Native.Nat.{ℕ, zero, suc, ◌+◌, ◌<◌, ◌≤◌}
use native.Mathlib.Omega.{arith}
use native.Mathlib.Decide.{dec_lt}
use borrow.Author.Tests.{ltb-false, le-ltb}
use lib.Dec.{ltb}
use lib.ListN.{length, get_or}
use Rattle.limits.specs.Sizes.{most_choices}
use Rattle.limits.specs.declared.Side.TheVariants.{Open}
use Rattle.limits.specs.Decisions.{Decisions}
use Rattle.limits.specs.Lent.{Entry as PlainEntry}
use Rattle.expressions.specs.Expressions.{Expr}
use Rattle.book.specs.Rules.{Book}
use Rattle.nodes.specs.Nodes.{Heap}
use Rattle.machine.specs.Answers as PlainAnswers
use Rattle.machine.specs.Answers.{Answer as PlainAnswer}
use Rattle.machine.specs.Turn as Plain
use Rattle.machine.specs.Turn.{Rooms}
use Rattle.rewriting.specs.Rewriting.{Value}
use Rattle.rewriting.specs.Lists.{All}
use Rattle.rewriting.proofs.Steers.{Lawful}
use Rattle.rewriting.proofs.Update.{update_same}
use Rattle.forwards.specs.Shorten.{Following}
use Rattle.alike.specs.Asked as Asked
use Rattle.alike.specs.Asked.{Entry, Answer}
use Rattle.alike.specs.Turning as Later
use Rattle.alike.specs.Turning.{State}
use Rattle.alike.specs.AsWithRoom.{plainly, with_node_room, AsWithRoom}
use Rattle.alike.proofs.Alike.{Pairing}
use Rattle.alike.proofs.Shortcuts.{Harmless}
use Rattle.alike.proofs.Entries.{Among, Rising, Below, DecisionsAlike, AnswerAlike, To}
use Rattle.alike.proofs.Free.{Free, free, judge, judge_of, judge_by, written, later_written, Within, LaterWithin, turn-judged}
use Rattle.alike.proofs.Shared.{Follows}
use Rattle.alike.proofs.Judged.{verdict, Would, Why, Result, turn-result}
use Rattle.alike.proofs.Alone.{turns-whole, turns-finished, none-waits}
use Rattle.alike.proofs.Runs.{Runs, plain_turn, Beside, beside-whole, whole-alone}
use Rattle.alike.proofs.Loading.{Had, Fine, Started, starts_on, starts_on_at, idle, loaded-started}

-- ---- one question: its numbers are its own

-- numbers that rise below as many are 0, 1, 2, ..
rising-is : {k : ℕ} (cs : List ℕ) → Rising cs → Below k cs → length cs ≡ k → (i : ℕ) → i < length cs → get_or cs i 0 ≡ i
rising-is {k} cs rising below full i lt = omega (arith, at_least i lt, at_most k i (omega arith) lt)
  where
    at_least : (i : ℕ) → i < length cs → i ≤ get_or cs i 0
    at_least zero lt = omega arith
    at_least (suc i) lt = omega (arith, at_least i (omega arith), rising i (suc i) (omega arith) lt)

    at_most : (d i : ℕ) → length cs ≤ i + d → i < length cs → get_or cs i 0 + length cs ≤ k + i
    at_most zero i le lt = absurd (omega arith)
    at_most (suc d) i le lt = by (dec_lt (suc i) (length cs)) (λ lt'. at_most d (suc i) (omega arith) lt')
      where
        by : Dec (suc i < length cs) → (suc i < length cs → get_or cs (suc i) 0 + length cs ≤ k + suc i) → get_or cs i 0 + length cs ≤ k + i
        by (yes lt') ih = omega (arith, ih lt', rising i (suc i) (omega arith) lt')
        by (no ge) ih = omega (arith, below i lt)

-- two lists, element by element
list_same : (d d' : Decisions) → length d ≡ length d' → ((i : ℕ) → get_or d i Open ≡ get_or d' i Open) → d ≡ d'
list_same [] [] e f = refl
list_same [] (b ∷ d') e f = absurd (omega arith)
list_same (a ∷ d) [] e f = absurd (omega arith)
list_same (a ∷ d) (b ∷ d') e f = ap₂ ◌∷◌ (f 0) (list_same d d' (omega arith) (λ i. f (suc i)))

-- so decisions are the same
decisions-same : {k : ℕ} {cs : List ℕ} → Rising cs → Below k cs → length cs ≡ k → {d d' : Decisions} → DecisionsAlike cs d d' → d' ≡ d
decisions-same {k} {cs} rising below full {d} {d'} a = list_same d' d (a.sized' ∙ sym a.sized) (λ i. go i (dec_lt i (length cs)))
  where
    go : (i : ℕ) → Dec (i < length cs) → get_or d' i Open ≡ get_or d i Open
    go i (yes lt) = ap (λ m. get_or d' m Open) (sym (rising-is cs rising below full i lt)) ∙ sym (a.same i lt)
    go i (no ge) =
        a.open_others i (λ j lt e. omega (arith, rising-is cs rising below full j lt)) ∙ sym (a.open_past i (omega arith))

module _ {A B : Type 0} {M : B → Type 0} {R : A → B → Type 0} where
  -- no more than the others
  among_le : {us : List A} {vs : List B} → Among M R us vs → length us ≤ length vs
  among_le Among.none = omega arith
  among_le (Among.mine m r p) = omega (arith, among_le p)
  among_le (Among.other n p) = omega (arith, among_le p)

  -- where they are as many, all are theirs
  pub all_theirs : {us : List A} {ws : List B} (b : B) (vs : List B) → Among M R us ws → ws ≡ b ∷ vs → length us ≡ length ws → M b
  all_theirs b vs Among.none e l = absurd (let z : ◌≡◌ {A = ℕ} 0 1 = cc (ap length e) in omega arith)
  all_theirs b vs (Among.mine {b = c} m r p) e l = let same : c ≡ b = cc in rw same at m
  all_theirs b vs (Among.other n p) e l = absurd (omega (arith, among_le p))

-- and answers are the same
answers-same : {k : ℕ} {cs : List ℕ} → Rising cs → Below k cs → length cs ≡ k → {us : List PlainAnswer} {vs : List Answer}
    → Among (To 0) (AnswerAlike cs) us vs → length us ≡ length vs → map plainly vs ≡ us
answers-same rising below full Among.none e = refl
answers-same rising below full (Among.mine {a} {b} m r p) e =
    ap₂ ◌∷◌ (ap₂ (λ (y : List ℕ) (d : Decisions). record { symbols = y; decisions = d }) (sym r.symbols) (decisions-same rising below full r.decisions))
    (answers-same rising below full p (omega arith))
answers-same rising below full (Among.other n p) e = absurd (omega (arith, among_le p))

-- with the same bytes
pub bytes_same : (vs : List Answer) → Asked.records_bytes false vs ≡ PlainAnswers.records_bytes (map plainly vs)
unfolding Asked.records_bytes Asked.record_bytes Asked.asking PlainAnswers.records_bytes PlainAnswers.record_bytes
bytes_same [] = refl
bytes_same (a ∷ vs) = ap (λ (l : List ℕ). PlainAnswers.record_bytes (plainly a) ++ l) (bytes_same vs)

-- ---- two states of one question

pub record One (s : Plain.State) (S : State) : Type 0 where
  pub choices : S.choices ≡ s.choices
  pub waiting : length S.waiting ≡ length s.waiting
  pub answers : length S.answers ≡ length s.answers
  pub turns : S.turns ≡ s.turns

module _ {N : Pairing} {cs : List ℕ} {s : Plain.State} {S : State} (f : Follows 0 N cs s S) (one : One s S) where
  full : length cs ≡ S.choices
  full = f.numbered ∙ sym one.choices

  pub one-answers : map plainly S.answers ≡ s.answers
  one-answers = answers-same f.rising f.below full f.answers (sym one.answers)

  pub one_written : later_written false S ≡ written s
  unfolding Asked.answer_bytes Asked.version PlainAnswers.answer_bytes
  one_written = ap (λ (l : List ℕ). suc (length l)) (bytes_same S.answers ∙ ap PlainAnswers.records_bytes one-answers)

  pub one-within : {room : Rooms} → LaterWithin false room S → (n : ℕ) → length s.heap ≤ n → Within (with_node_room room n) s
  one-within fits n le = record {
    nodes-fit = le;
    choices-fit = omega (arith, fits.choices-fit, one.choices);
    places-fit = omega (arith, fits.places-fit, one.waiting);
    bytes_fit = omega (arith, fits.bytes_fit, one_written);
  }

-- ---- the same verdict

-- a verdict other than 0 and 21 refuses the plain machine's turn, too, where it has nodes enough
verdict_plain : {T : Type 0} (refuse : ℕ → T) (ok : T) (c : ℕ) (n k w b : Bool) → judge_of (λ (c : ℕ). c) 0 n k w b ≡ c → c ≢ 21 → c ≢ 0
    → judge_of refuse ok false k w b ≡ refuse c
unfolding judge_of
verdict_plain refuse ok c true k w b e not_21 not-0 = absurd (not_21 (sym e))
verdict_plain refuse ok c false true w b e not_21 not-0 = ap refuse e
verdict_plain refuse ok c false false true b e not_21 not-0 = ap refuse e
verdict_plain refuse ok c false false false true e not_21 not-0 = ap refuse e
verdict_plain refuse ok c false false false false e not_21 not-0 = absurd (not-0 (sym e))

-- it does not look at the bytes where choices are too many
verdict_bytes : {T : Type 0} (refuse : ℕ → T) (ok : T) (c : ℕ) (n w b b' : Bool) → judge_of (λ (c : ℕ). c) 0 n true w b ≡ c → c ≢ 21
    → judge_of refuse ok false true w b' ≡ refuse c
unfolding judge_of
verdict_bytes refuse ok c true w b b' e not_21 = absurd (not_21 (sym e))
verdict_bytes refuse ok c false w b b' e not_21 = ap refuse e

-- the counts of two states are the same, but for the nodes
counts_same : (ok : Plain.Turned) (room : Rooms) (n hl k w b : ℕ) (T : State) (c : ℕ) → hl ≤ n → T.choices ≡ k → length T.waiting ≡ w
    → (T.choices ≤ most_choices → later_written false T ≡ b) → verdict false room T ≡ c → c ≢ 21 → c ≢ 0
    → judge_by Plain.refused ok (with_node_room room n) hl k w b ≡ Plain.refused c
counts_same ok room n hl k w b T c le choices waiting bytes v not_21 not-0 =
    rw (le-ltb n hl le, ← choices, ← waiting) (go (ltb most_choices T.choices) refl)
  where
    go : (y : Bool) → ltb most_choices T.choices ≡ y
        → judge_of Plain.refused ok false (ltb most_choices T.choices) (ltb room.places (length T.waiting)) (ltb room.bytes b) ≡ Plain.refused c
    go true e = rw e (verdict_bytes Plain.refused ok c (ltb room.nodes (length T.heap)) (ltb room.places (length T.waiting))
        (ltb room.bytes (later_written false T)) (ltb room.bytes b) (rw e at v) not_21)
    go false e = rw (← bytes (ltb-false most_choices T.choices e))
        (verdict_plain Plain.refused ok c (ltb room.nodes (length T.heap)) (ltb most_choices T.choices) (ltb room.places (length T.waiting))
        (ltb room.bytes (later_written false T)) v not_21 not-0)

judge-same : (room : Rooms) (n : ℕ) (t : Plain.State) (T : State) (c : ℕ) → length t.heap ≤ n → T.choices ≡ t.choices
    → length T.waiting ≡ length t.waiting → (T.choices ≤ most_choices → later_written false T ≡ written t)
    → verdict false room T ≡ c → c ≢ 21 → c ≢ 0 → judge (with_node_room room n) (Free.comes t) ≡ Plain.refused c
unfolding judge
judge-same room n t T c le choices waiting bytes v not_21 not-0 =
    counts_same (Plain.whole t) room n (length t.heap) t.choices (length t.waiting) (written t) T c le choices waiting bytes v not_21 not-0

-- ---- all turns

pub judge-far : (room : Rooms) (c : ℕ) → c ≡ 24 → judge room Free.far ≡ Plain.refused c
unfolding judge
judge-far room c is = ap Plain.refused (sym is)

pub nonempty : {A : Type 0} (l : List A) (n : ℕ) → length l ≡ suc n → (a : A) × (rest : List A) × (l ≡ a ∷ rest)
nonempty [] n e = absurd (omega arith)
nonempty (a ∷ l) n e = (a, l, refl)

pub turns-spent : (B : Book) (room : Rooms) (s : Plain.State) (e : PlainEntry) (rest : List PlainEntry) → s.waiting ≡ e ∷ rest
    → Plain.turns B room 0 s ≡ record { number = 20; state = s }
unfolding Plain.turns
turns-spent B room s e rest front =
    ap (λ (l : List PlainEntry). elim l [ [] ↦ record { number = 0; state = s } | e ∷ rest ↦ record { number = 20; state = s } ]) front

-- a turn of the plain machine that is refused
pub turns-refused : (B : Book) (room : Rooms) (fuel : ℕ) (s : Plain.State) (e : PlainEntry) (rest : List PlainEntry) (c : ℕ) → s.waiting ≡ e ∷ rest
    → Plain.turn B room s e rest ≡ Plain.refused c → Plain.turns B room (suc fuel) s ≡ record { number = c; state = s }
unfolding Plain.turns Plain.after
turns-refused B room fuel s e rest c front is =
    ap (λ (l : List PlainEntry). elim l [
      | [] ↦ record { number = 0; state = s }
      | e ∷ rest ↦ Plain.after (Plain.turn B room s e rest) s (λ t. Plain.turns B room fuel t)
    ]) front ∙ ap (λ (y : Plain.Turned). Plain.after y s (λ t. Plain.turns B room fuel t)) is

module _ (leaves : Following) (harmless : Harmless leaves) (B : Book) (P : Heap → Type 0) (law : Lawful B P) (W : ℕ → Value → Type 0)
    (room : Rooms) (start : ℕ → Plain.State) where
  abbrev Beside₁ : State → Type 1
  Beside₁ S = Beside leaves harmless B P law W false room start S

  -- a turn that would come to T
  pub one-next : {alone : ℕ → Plain.State} {numbers : ℕ → List ℕ} {S T : State} (w : Would B false room alone numbers S 0 T) → One (alone 0) S → One w.next T
  one-next w one =
      let c = w.counts in
      record {
        choices = omega (arith, c.choices-are, c.choices_are', w.base_choices, one.choices);
        waiting = omega (arith, c.entries, w.base_waiting, one.waiting);
        answers = omega (arith, c.answers, w.base_answers, one.answers);
        turns = omega (arith, c.turns, c.turns', w.base_turns, one.turns);
      }

  -- its bytes
  pub next-written : {alone : ℕ → Plain.State} {numbers : ℕ → List ℕ} {S T : State} (w : Would B false room alone numbers S 0 T) → One (alone 0) S
      → T.choices ≤ most_choices → later_written false T ≡ written w.next
  next-written {alone} w one few =
      let on = w.onward few in
      let f = on.shared.each 0 in
      one_written (subst (λ (s : Plain.State). Follows 0 (on.pairs 0) (on.numbers 0) s _) (update_same alone 0 w.next 0 refl) f) (one-next w one)

  -- the state does not change: nothing waits, fuel is spent or the turn is refused
  stops : {S : State} (b : Beside₁ S) (extra fuel : ℕ) (r : Later.Ended) → One (b.alone 0) r.state
      → map plainly r.state.answers ≡ (b.alone 0).answers
      → ((n : ℕ) → length (b.alone 0).heap + extra ≤ n → r.number ≢ 21
      → Plain.turns B (with_node_room room n) fuel (b.alone 0) ≡ record { number = r.number; state = b.alone 0 })
      → AsWithRoom B room fuel (b.alone 0) r
  stops b extra fuel r one' answers same = record {
    state = b.alone 0;
    made = 0;
    least = length (b.alone 0).heap + extra;
    comes = λ n le more. ap (λ k. Plain.turns B (with_node_room room n) k (b.alone 0)) (omega arith);
    turns = one'.turns;
    made_turns = omega arith;
    answers = answers;
    choices = one'.choices;
    waiting = one'.waiting;
    same = same;
  }

  -- all turns of a run over one question
  one-runs : (fuel : ℕ) (S : State) (b : Beside₁ S) → One (b.alone 0) S → AsWithRoom B room fuel (b.alone 0) (Later.turns leaves B false room fuel S)
  unfolding Later.turns Later.turns_by Later.after
  one-runs zero S b one = go S.waiting refl
    where
      s : Plain.State
      s = b.alone 0

      f : Follows 0 (b.pairs 0) (b.numbers 0) s S
      f = b.shared.each 0

      go : (l : List Entry) → S.waiting ≡ l
          → AsWithRoom B room 0 s (elim l [ [] ↦ record { number = 0; state = S } | e ∷ rest ↦ record { number = 20; state = S } ])
      go [] q = stops b 0 0 (record { number = 0; state = S }) one (one-answers f one)
          (λ n le ne. turns-finished B (with_node_room room n) 0 s (none-waits f.waiting q))
      go (e ∷ rest) q = stops b 0 0 (record { number = 20; state = S }) one (one-answers f one)
          (λ n le ne. let (e₀, rest₀, is) = nonempty s.waiting (length rest) (sym one.waiting ∙ ap length q) in
          turns-spent B (with_node_room room n) s e₀ rest₀ is)
  one-runs (suc fuel) S b one = go S.waiting refl (one-runs fuel)
    where
      s : Plain.State
      s = b.alone 0

      f : Follows 0 (b.pairs 0) (b.numbers 0) s S
      f = b.shared.each 0

      -- the plain machine's turn is refused with the same number
      refuses : {c : ℕ} → 20 < c → Why B false room b.alone b.numbers S 0 c
          → (extra : ℕ) × ((n : ℕ) → length s.heap + extra ≤ n → c ≢ 21 → Plain.turns B (with_node_room room n) (suc fuel) s ≡ record { number = c; state = s })
      refuses {c} lt (Why.too_far is u) = (
        0,
        λ n le ne.
            turns-refused B (with_node_room room n) fuel s u.entry u.behind c u.in_front
            (turn-judged B (with_node_room room n) s u.entry u.behind u.in_front (one-within f one b.within n (omega arith))
            ∙ ap (judge (with_node_room room n)) u.far ∙ judge-far (with_node_room room n) c is),
      )
      refuses {c} lt (Why.no_room {T} w v) = (
        length w.next.heap,
        λ n le ne.
            turns-refused B (with_node_room room n) fuel s w.entry w.behind c w.in_front
            (turn-judged B (with_node_room room n) s w.entry w.behind w.in_front (one-within f one b.within n (omega arith))
            ∙ ap (judge (with_node_room room n)) w.comes
            ∙ judge-same room n w.next T c (omega arith) (one-next w one).choices (one-next w one).waiting (next-written w one) v ne (λ z. omega arith)),
      )

      -- a whole turn, and what follows
      further : {T : State} {r : Later.Ended} (t : Plain.State) (e : PlainEntry) (rest : List PlainEntry) → s.waiting ≡ e ∷ rest
          → free B s e rest ≡ Free.comes t → t.choices ≤ most_choices → One t T → LaterWithin false room T → later_written false T ≡ written t
          → t.turns ≡ suc s.turns → AsWithRoom B room fuel t r → AsWithRoom B room (suc fuel) s r
      further {T} t e rest front comes few one' fits bytes counted a = record {
        state = a.state;
        made = suc a.made;
        least = a.least + (length s.heap + length t.heap);
        comes = λ n le more.
            ap (λ k. Plain.turns B (with_node_room room n) k s) (omega arith)
            ∙ turns-whole B (with_node_room room n) (a.made + more) s t e rest front (turn n (omega arith)) ∙ a.comes n (omega arith) more;
        turns = a.turns;
        made_turns = omega (arith, a.made_turns, counted);
        answers = a.answers;
        choices = a.choices;
        waiting = a.waiting;
        same = λ n le ne. turns-whole B (with_node_room room n) fuel s t e rest front (turn n (omega arith)) ∙ a.same n (omega arith) ne;
      }
        where
          turn : (n : ℕ) → length s.heap + length t.heap ≤ n → Plain.turn B (with_node_room room n) s e rest ≡ Plain.whole t
          turn n le = plain_turn B (with_node_room room n) s t e rest front comes (one-within f one b.within n (omega arith)) (record {
            nodes-fit = omega arith;
            choices-fit = few;
            places-fit = omega (arith, fits.places-fit, one'.waiting);
            bytes_fit = omega (arith, fits.bytes_fit, bytes);
          })

      by : {y : Later.Turned} → Result B false room b.alone b.numbers S 0 y
          → ((T : State) (c : Beside₁ T) → One (c.alone 0) T → AsWithRoom B room fuel (c.alone 0) (Later.turns leaves B false room fuel T))
          → AsWithRoom B room (suc fuel) s (Later.after y (λ t. Later.turns leaves B false room fuel t))
      by (Result.whole {T} w fits) ih = further w.next w.entry w.behind w.in_front w.comes few (one-next w one) fits written_next
          w.counts.turns (subst (λ (t : Plain.State). AsWithRoom B room fuel t (Later.turns leaves B false room fuel T)) is
          (ih T b' (rw is (one-next w one))))
        where
          b' : Beside₁ T
          b' = beside-whole leaves harmless B P law W false room start b 0 w fits

          is : b'.alone 0 ≡ w.next
          is = whole-alone leaves harmless B P law W false room start b 0 w fits

          few : w.next.choices ≤ most_choices
          few = omega (arith, fits.choices-fit, (one-next w one).choices)

          written_next : later_written false T ≡ written w.next
          written_next = next-written w one fits.choices-fit
      by (Result.refused {c} {T} lt u fits why) ih =
          let (extra, refused) = refuses lt why in
          stops b extra (suc fuel) (record { number = c; state = T }) (record {
            choices = u.choices ∙ one.choices;
            waiting = u.waiting ∙ one.waiting;
            answers = ap length u.answers ∙ one.answers;
            turns = u.turns ∙ one.turns;
          }) (ap (map plainly) u.answers ∙ one-answers f one) refused

      go : (l : List Entry) → S.waiting ≡ l
          → ((T : State) (c : Beside₁ T) → One (c.alone 0) T → AsWithRoom B room fuel (c.alone 0) (Later.turns leaves B false room fuel T))
          → AsWithRoom B room (suc fuel) s (elim l [
            | [] ↦ record { number = 0; state = S }
            | e ∷ rest ↦ Later.after (Later.turn leaves B false room S e rest) (λ t. Later.turns leaves B false room fuel t)
          ])
      go [] q ih = stops b 0 (suc fuel) (record { number = 0; state = S }) one (one-answers f one)
          (λ n le ne. turns-finished B (with_node_room room n) (suc fuel) s (none-waits f.waiting q))
      go (e ∷ rest) q ih =
          by (subst (λ (k : ℕ). Result B false room b.alone b.numbers S k (Later.turn leaves B false room S e rest))
          (all_theirs e rest f.waiting q (sym one.waiting))
          (turn-result leaves harmless B P law W false room b.good b.shared b.within e rest q)) ih

-- one question, loaded
pub loaded-one : (x : Expr) → One (Plain.loaded x) (Later.loaded (x ∷ []))
unfolding Plain.loaded Later.loaded Later.loaded_on
loaded-one x = record { choices = refl; waiting = refl; answers = refl; turns = refl }

module _ (leaves : Following) (harmless : Harmless leaves) (B : Book) (P : Heap → Type 0) (law : Lawful B P) (empty : P []) (room : Rooms)
    (x : Expr) (fine : Fine B P empty x) (fits : LaterWithin false room (Later.loaded (x ∷ []))) where
  -- AS WITH ROOM ENOUGH
  pub as_with-room : (fuel : ℕ) → AsWithRoom B room fuel (Plain.loaded x) (Later.turns leaves B false room fuel (Later.loaded (x ∷ [])))
  as_with-room fuel =
      subst (λ (s : Plain.State). AsWithRoom B room fuel s (Later.turns leaves B false room fuel (Later.loaded (x ∷ [])))) start
      (one-runs leaves harmless B P law (λ q. Had B P empty (starts q)) room starts fuel (Later.loaded (x ∷ [])) b (rw start (loaded-one x)))
    where
      starts : ℕ → Plain.State
      starts = starts_on 0 (x ∷ []) (λ q. idle)

      start : starts 0 ≡ Plain.loaded x
      start = starts_on_at 0 (x ∷ []) (λ q. idle) 0 x (omega arith)

      st : Started B P empty starts (Later.loaded (x ∷ []))
      st = loaded-started B P empty (x ∷ []) (All.more fine All.none) fits.choices-fit

      b : Beside leaves harmless B P law (λ q. Had B P empty (starts q)) false room starts (Later.loaded (x ∷ []))
      b = record {
        alone = starts;
        numbers = st.numbers;
        pairs = st.pairs;
        shared = st.shared;
        good = st.good;
        turns = λ q. 0;
        ran = λ q. Runs.here;
        within = fits;
      }
