-- Every value that a state holds is written in time, or a turn is refused for want of room. The measure, in this order: the nodes still free (a
-- pull-up takes two), the size of a reading that gives the value to a waiting entry, the choices between that entry's root and its application, and
-- those that wait before it.
use mathlib.Core.Path.{◌≡◌, refl, sym, ap, ◌∙◌}
use mathlib.Core.Logic.{◌⊎◌, inl, inr, ⊎_elim, ◌≢◌}
use mathlib.Core.Option.{some}
use mathlib.Core.List.{List, [], ◌∷◌, ◌++◌, append_assoc}
use Prim.Native.Nat.{ℕ, zero, suc, ◌-◌, ◌≤◌, ◌<◌}
use native.Mathlib.Omega.{arith}
use native.Mathlib.Nat.{not-suc-le-zero, le_refl}
use native.Mathlib.Decide.{ℕ_discrete}
use lib.ListN.{length, set, length-set}
use lib.Seq.{get_or-set_same, get_or-set_other}
use Rattle.limits.specs.declared.Side.{Side as Decision}
use Rattle.limits.specs.declared.Side.TheVariants.{Open, Left, Right}
use Rattle.limits.specs.Decisions.{Decisions}
use Rattle.limits.specs.Lent.{Entry}
use Rattle.book.specs.Rules.{Book}
use Rattle.nodes.specs.Nodes.{apply, choice, fail, Heap, at}
use Rattle.nodes.specs.Steps.{failed}
use Rattle.machine.specs.Made.{rewritten}
use Rattle.machine.specs.Answers.{Answer}
use Rattle.machine.specs.Turn.{Rooms, State, Turned, Ended, turned, entry, turn, turns}
use Rattle.rewriting.specs.Rewriting.{Leads, Value}
use Rattle.rewriting.specs.Lists.{All}
use Rattle.rewriting.proofs.Heaps.{grown_old}
use Rattle.rewriting.proofs.Kept.{rewritten_longer}
use Rattle.rewriting.proofs.Steers.{Lawful}
use Rattle.meaning.specs.Demand3.{flatten}
use Rattle.meaning.specs.Partial.{bot, ◌⊑◌}
use Rattle.meaning.specs.Readings.{Side, side_of, whole}
use Rattle.meaning.proofs.Order.{⊑_trans, agrees-choice}
use Rattle.meaning.proofs.Raise.{reads_below}
use Rattle.meaning.proofs.Failed.{stopped}
use Rattle.meaning.proofs.Entries.{can_be_leads, can_be_value}
use Rattle.meaning.proofs.Follows.{follow-leads}
use Rattle.meaning.proofs.Members.{Any, first, later, any-right}
use Rattle.meaning.specs.Entries.{Fit}
use Rattle.meaning.proofs.Turns.{as_side, sides, Good, Holds, Kept, turn-kept}
use Rattle.meaning.proofs.AllTurns.{found}
use Rattle.run.proofs.OnTheRow.{turns-none, turns-spent, turns-refused, turns-whole}
use Rattle.fuel.proofs.Live.{Live, Still, size, sides_of, parts_of, live_reads, live_can, live_of, live_rewritten, live_failed}
use Rattle.fuel.proofs.Live.{Chain, chain-leads, chain-choice, chain_of, chain-kept}
use Rattle.fuel.proofs.Deeds.{root_of, on_left, on_right, joined, placing, Did, turn_did}

-- ---- places of a list

module _ {A : Type 0} {P : A → Type 0} where
  -- what holds of each holds of the one at a place
  at_place : (before : List A) (a : A) (behind : List A) → All P (before ++ (a ∷ behind)) → P a
  at_place [] a behind (All.more p ps) = p
  at_place (x ∷ before) a behind (All.more p ps) = at_place before a behind ps

  -- what holds of some element holds of one at a place
  some-place : {l : List A} → Any P l → (before : List A) × (a : A) × (behind : List A) × (l ≡ before ++ (a ∷ behind)) × P a
  some-place (first {a} {l} p) = ([], a, l, refl, p)
  some-place (later {a} x) = let (before, b, behind, e, p) = some-place x in (a ∷ before, b, behind, ap (◌∷◌ a) e, p)

-- ---- the value v, from a state on

module _ (B : Book) (P : Heap → Type 0) (W : Value → Type 0) (room : Rooms) (law : Lawful B P) (v : Value) where
  -- these answers have v
  abbrev pub Wrote : List Answer → Type 0
  Wrote answers = Any (λ (a : Answer). a.symbols ≡ flatten v) answers

  -- v is written, or the run has been refused, and not for want of fuel
  abbrev pub Heard : Ended → Type 0
  Heard r = Wrote r.state.answers ⊎ ((20 < r.number) × (r.number ≤ 25))

  -- with some fuel
  abbrev pub InTime : State → Type 0
  InTime s = (F : ℕ) × Heard (turns B room F s)

  -- what is written is heard without fuel
  at_once : (s : State) → Wrote s.answers → InTime s
  at_once s x = (0, inl (go s.waiting refl))
    where
      -- whether anything waits
      go : (l : List Entry) → s.waiting ≡ l → Wrote (turns B room 0 s).state.answers
      go [] q = rw (turns-none B room s 0 q) x
      go (e ∷ rest) q = rw (turns-spent B room s e rest q) x

  -- a whole turn takes one unit of fuel
  one-turn : (s : State) {t : State} {e : Entry} {rest : List Entry} → s.waiting ≡ e ∷ rest → turn B room s e rest ≡ Turned.whole t
      → InTime t → InTime s
  one-turn s {t} {e} {rest} q is (F, x) = (suc F, rw (turns-whole B room s e rest q F t is) x)

  -- a refused one, too
  refusal : (s : State) {e : Entry} {rest : List Entry} {c : ℕ} → s.waiting ≡ e ∷ rest → turn B room s e rest ≡ Turned.refused c
      → 20 < c → c ≤ 25 → InTime s
  refusal s {e} {rest} {c} q is lt le = (1, rw (turns-refused B room s e rest q 0 c is) (inr (lt, le)))

  -- a live entry, behind these, with c choices before its application
  record Waits (s : State) (before : List Entry) (c : ℕ) : Type 0 where
    entry : Entry
    behind : List Entry
    place : s.waiting ≡ before ++ (entry ∷ behind)
    live : Live B s.heap s.choices v entry
    chain : Chain s.heap (sides_of live) entry.root c

  -- how many nodes may still be made
  abbrev free : State → ℕ
  free s = room.nodes - length s.heap

  -- what is known for less: with fewer free nodes
  abbrev Fewer : ℕ → Type 0
  Fewer f = (s : State) → Good B P W s → free s < f → InTime s

  -- with no more, and a smaller reading
  abbrev Smaller : ℕ → ℕ → Type 0
  Smaller f g = (s : State) → Good B P W s → free s < suc f → (before : List Entry) (c : ℕ) (w : Waits s before c) → size w.live < g → InTime s

  -- with neither larger, and fewer choices
  abbrev Shorter : ℕ → ℕ → ℕ → Type 0
  Shorter f g b = (s : State) → Good B P W s → free s < suc f → (before : List Entry) (c : ℕ) (w : Waits s before c)
      → size w.live < suc g → c < b → InTime s

  -- and one place further on
  abbrev Sooner : ℕ → ℕ → List Entry → ℕ → Type 0
  Sooner f g before c = (s : State) → Good B P W s → free s < suc f → (w : Waits s before c) → size w.live < suc g → InTime s

  -- the state after a whole turn is as it should be
  still-good : {t : State} → Kept B P W room (Turned.whole t) → Good B P W t
  still-good (Kept.whole g) = g

  module _ (f g b : ℕ) (fewer : Fewer f) (smaller : Smaller f g) (shorter : Shorter f g b) (s : State) (good : Good B P W s) (small : free s < suc f)
      (e : Entry) (fit : Fit s.heap s.choices e) (L : Live B s.heap s.choices v e) (light : size L < suc g) (c : ℕ)
      (chain : Chain s.heap (sides_of L) e.root c) where
    -- the heap
    abbrev h : Heap
    h = s.heap

    -- the sides that the entry's reading takes
    abbrev δ : ℕ → Side
    δ = sides_of L

    -- the entry with a smaller reading
    again : {t : State} (before behind : List Entry) → Good B P W t → free t < suc f → t.waiting ≡ before ++ (e ∷ behind)
        → (M : Live B t.heap t.choices v e) → size M < g → InTime t
    again {t} before behind good' small' q M lighter =
        let fit' : Fit t.heap t.choices e = at_place before e behind (rw q at good'.fits) in
        let (a, x) = chain_of B t.heap (sides_of M) (parts_of M) (live_reads M) v fit'.ends M.has in
        smaller t good' small' before a (record { entry = e; behind = behind; place = q; live = M; chain = x }) lighter

    -- ---- the turn of another entry, x

    module _ {x : Entry} (before behind : List Entry) (q : s.waiting ≡ x ∷ (before ++ (e ∷ behind))) (sooner : Sooner f g before c) where
      -- those that waited behind x
      abbrev rest : List Entry
      rest = before ++ (e ∷ behind)

      -- no node is changed, and these join
      aside : (joining : List Entry) → Good B P W (joined B room s x rest joining) → InTime (joined B room s x rest joining)
      unfolding turned
      aside joining good' =
          sooner _ good' small
          (record { entry = e; behind = behind ++ joining; place = append_assoc before (e ∷ behind) joining; live = L; chain = chain }) light

      -- node m is changed, of which nothing is known
      beside : {h' : Heap} {k' m f' : ℕ} {xs : List ℕ} → at h m ≡ apply f' xs → parts_of L m ≡ bot
          → ((n : ℕ) → n ≢ m → n < length h → at h' n ≡ at h n) → length h ≤ length h'
          → (S : Still B h h' s.choices k' v e L) → size S.live ≤ size L
          → Good B P W (turned s h' k' rest (x ∷ [])) → InTime (turned s h' k' rest (x ∷ []))
      unfolding turned
      beside {m} at-m z others longer S lighter good' =
          sooner _ good' (omega arith) (record {
            entry = e;
            behind = behind ++ (x ∷ []);
            place = append_assoc before (e ∷ behind) (x ∷ []);
            live = S.live;
            chain = chain-kept B h δ (parts_of L) (live_reads L) v m s.choices at-m z others good.numbered S.same L.has chain;
          }) (omega arith)

      -- what it did
      other : (t : Turned) → turn B room s x rest ≡ t → Kept B P W room t → Did B room s x rest t → InTime s
      unfolding turned failed rewritten
      other t is kept (Did.refused lt le) = refusal s q is lt le
      other t is kept (Did.went z) = one-turn s q is (aside _ (still-good kept))
      other t is kept (Did.took d at_n z) = one-turn s q is (aside _ (still-good kept))
      other t is kept (Did.splits at_n) = one-turn s q is (aside _ (still-good kept))
      other t is kept (Did.wrote a z same) =
          one-turn s q is (sooner _ (still-good kept) small (record { entry = e; behind = behind; place = refl; live = L; chain = chain }) light)
      other t is kept (Did.made-fail {m} known at-m op stops) =
          let z : parts_of L m ≡ bot = stopped B h δ (parts_of L) (live_reads L) at-m op stops in
          let (S, lighter) = live_failed h m s.choices L z in
          let longer : length h ≤ length (failed h m) = omega (arith, length-set h m fail) in
          one-turn s q is (beside at-m z (λ n other lt. get_or-set_other h m n fail fail other) longer S lighter (still-good kept))
      other t is kept (Did.rewrote {m} {env} {x = y} known at-m op ends) =
          let made = placing B room s x rest y env in
          let less = rewritten_longer h m s.choices at-m ends in
          one-turn s q is (⊎_elim
          (λ (z, S, lighter). beside at-m z (grown_old h m made.top made.nodes) less S lighter (still-good kept))
          (λ (S, lighter). again before (behind ++ (x ∷ [])) (still-good kept) (omega arith) (append_assoc before (e ∷ behind) (x ∷ []))
          S.live (omega arith))
          (live_rewritten h m s.choices at-m op ends good.numbered fit L))
      other t is kept (Did.pulled-up h' longer le) = one-turn s q is (fewer _ (still-good kept) (omega arith))

    -- ---- its own turn

    -- the node that its root stands for
    leads : Leads h e.root (root_of s e)
    leads = follow-leads h e.root

    -- has the whole value
    at-root : whole v ⊑ parts_of L (root_of s e)
    at-root = ⊑_trans L.has (reads_below B h δ (parts_of L) (live_reads L) leads)

    module _ {i l r : ℕ} (at_n : at h (root_of s e) ≡ choice i l r) where
      -- the side taken has the whole value
      at_side : whole v ⊑ parts_of L (side_of (δ i) l r)
      at_side = ⊑_trans at-root ((agrees-choice B δ (parts_of L) at_n).0 (live_reads L (root_of s e)))

      -- the decision that it takes is kept
      keep_set : (a : Decision) → as_side a ≡ some (δ i) → (j : ℕ) (d : Side) → sides (set e.decisions i a) j ≡ some d → δ j ≡ d
      keep_set a is-a j d z = go (ℕ_discrete j i)
        where
          known : i < length e.decisions
          known = omega (arith, rw at_n at (good.numbered (root_of s e)), good.few, fit.sized)

          go : Dec (j ≡ i) → δ j ≡ d
          go (yes q) =
              let set_so : sides (set e.decisions i a) j ≡ as_side a = rw (q, get_or-set_same e.decisions i a Open known) in
              let same = ap δ q in
              cc
          go (no other) = L.keeps j d (ap as_side (sym (get_or-set_other e.decisions i j a Open other)) ∙ z)

    module _ {rest : List Entry} (q : s.waiting ≡ e ∷ rest) (short : c < suc b) where
      -- it waits on the side d that its reading takes, with decisions that this keeps: one choice less
      on_side : {i l r : ℕ} → at h (root_of s e) ≡ choice i l r → (d : Side) → δ i ≡ d → (ds : Decisions)
          → ((j : ℕ) (a : Side) → sides ds j ≡ some a → δ j ≡ a)
          → (joining before behind : List Entry) → rest ++ joining ≡ before ++ (entry (side_of d l r) ds ∷ behind)
          → Good B P W (joined B room s e rest joining) → InTime (joined B room s e rest joining)
      unfolding turned
      on_side {l} {r} at_n d takes ds keeps joining before behind place good' =
          let (a, fewer-choices, x) = chain-choice at_n (chain-leads leads chain) in
          shorter _ good' small before a (record {
            entry = entry (side_of d l r) ds;
            behind = behind;
            place = place;
            live = record { marked = L.marked; keeps = keeps; has = rw takes at (at_side at_n) };
            chain = rw takes at x;
          }) light (omega arith)

      -- what it did
      mine : (t : Turned) → turn B room s e rest ≡ t → Kept B P W room t → Did B room s e rest t → InTime s
      unfolding turned rewritten side_of
      mine t is kept (Did.refused lt le) = refusal s q is lt le
      mine t is kept (Did.went z) = absurd (z v (live_can L))
      mine t is kept (Did.took {i} {l} {r} d at_n z) =
          one-turn s q is (on_side at_n d (L.keeps i d z) e.decisions L.keeps _ rest [] refl (still-good kept))
      mine t is kept (Did.splits {i} {l} {r} at_n) = one-turn s q is (go (δ i) refl)
        where
          -- by the side that its reading takes
          go : (d : Side) → δ i ≡ d → InTime (joined B room s e rest (on_left B room s e rest i l ∷ on_right B room s e rest i r ∷ []))
          go Side.left takes =
              on_side at_n Side.left takes (set e.decisions i Left) (keep_set at_n Left (ap some (sym takes))) _ rest _ refl (still-good kept)
          go Side.right takes =
              on_side at_n Side.right takes (set e.decisions i Right) (keep_set at_n Right (ap some (sym takes))) _
              (rest ++ (on_left B room s e rest i l ∷ [])) [] (sym (append_assoc rest (on_left B room s e rest i l ∷ []) _)) (still-good kept)
      mine t is kept (Did.wrote {w} a z same) =
          let v≡w : v ≡ w = (can_be_value z).0 ((can_be_leads leads).0 (live_can L)) in
          one-turn s q is (at_once _ (any-right s.answers (first (rw v≡w same))))
      mine t is kept (Did.made-fail {m} known at-m op stops) =
          absurd (known δ (parts_of L) (live_reads L) v at-root (stopped B h δ (parts_of L) (live_reads L) at-m op stops))
      mine t is kept (Did.rewrote {m} {env} {x = y} known at-m op ends) =
          let less = rewritten_longer h m s.choices at-m ends in
          one-turn s q is (⊎_elim (λ (z, S, lighter). absurd (known δ (parts_of L) (live_reads L) v at-root z))
          (λ (S, lighter). again rest [] (still-good kept) (omega arith) refl S.live (omega arith))
          (live_rewritten h m s.choices at-m op ends good.numbered fit L))
      mine t is kept (Did.pulled-up h' longer le) = one-turn s q is (fewer _ (still-good kept) (omega arith))

  -- ---- the four inductions, from the inside out

  -- those that wait before the live entry
  by_place : (f g b : ℕ) → Fewer f → Smaller f g → Shorter f g b → (before : List Entry) (s : State) → Good B P W s → free s < suc f
      → (c : ℕ) (w : Waits s before c) → size w.live < suc g → c < suc b → InTime s
  by_place f g b fewer smaller shorter [] s good small c w light short =
      let rest : List Entry = w.behind in
      let fit : Fit s.heap s.choices w.entry = at_place [] w.entry rest (rw w.place at good.fits) in
      mine f g b fewer smaller shorter s good small w.entry fit w.live light c w.chain w.place short (turn B room s w.entry rest) refl
      (turn-kept B P W room s w.entry rest w.place good law) (turn_did B room s w.entry rest fit.ends (law.steers good.lawful))
  by_place f g b fewer smaller shorter (x ∷ before) s good small c w light short =
      let rest : List Entry = before ++ (w.entry ∷ w.behind) in
      let all : All (Fit s.heap s.choices) (x ∷ rest) = rw w.place at good.fits in
      let first-fit : Fit s.heap s.choices x = at_place [] x rest all in
      other f g b fewer smaller shorter s good small w.entry (at_place (x ∷ before) w.entry w.behind all) w.live light c w.chain
      before w.behind w.place (λ t good' small' w' light'. by_place f g b fewer smaller shorter before t good' small' c w' light' short)
      (turn B room s x rest) refl
      (turn-kept B P W room s x rest w.place good law) (turn_did B room s x rest first-fit.ends (law.steers good.lawful))

  -- the choices before its application
  by_chain : (f g : ℕ) → Fewer f → Smaller f g → (b : ℕ) → Shorter f g b
  by_chain f g fewer smaller zero s good small before c w light short = absurd (not-suc-le-zero short)
  by_chain f g fewer smaller (suc b) s good small before c w light short =
      by_place f g b fewer smaller (by_chain f g fewer smaller b) before s good small c w light short

  -- the size of its reading
  by_size : (f : ℕ) → Fewer f → (g : ℕ) → Smaller f g
  by_size f fewer zero s good small before c w light = absurd (not-suc-le-zero light)
  by_size f fewer (suc g) s good small before c w light =
      by_chain f g fewer (by_size f fewer g) (suc c) s good small before c w light (le_refl _)

  -- the nodes still free
  by-room : W v → (f : ℕ) → Fewer f
  by-room reached zero s good small = absurd (not-suc-le-zero small)
  by-room reached (suc f) s good small = go ((good.holds v).1 reached) (by-room reached f)
    where
      -- v is written, or some waiting entry can have it
      go : Holds B good.values s.heap s.waiting v → Fewer f → InTime s
      go (inl x) fewer = at_once s (found good.values s.answers good.writes x)
      go (inr x) fewer =
          let (before, e, behind, q, can) = some-place x in
          let fit : Fit s.heap s.choices e = at_place before e behind (rw q at good.fits) in
          let L : Live B s.heap s.choices v e = live_of good.numbered fit can in
          let (c, chain) = chain_of B s.heap (sides_of L) (parts_of L) (live_reads L) v fit.ends L.has in
          by_size f fewer (suc (size L)) s good small before c (record { entry = e; behind = behind; place = q; live = L; chain = chain }) (le_refl _)

  -- IN TIME: from a state as it should be each of its values is written with some fuel, or the run is refused with a number from 21 to 25.
  pub heard_in_time : W v → (s : State) → Good B P W s → InTime s
  heard_in_time reached s good = by-room reached (suc (free s)) s good (le_refl _)
