-- A run ends as finished where three numbers are known of its question: enough turns, choices and entries. The weights of Weights.antt
-- are taken three times: by the turns still to be made, the choices still to be made, and the entries that may still come.
use mathlib.Core.Path.{◌≡◌, refl, ap}
use mathlib.Core.List.{List, [], ◌∷◌, ◌++◌}
use Prim.Native.Nat.{ℕ, zero, suc, ◌+◌, ◌*◌, ◌≤◌, ◌<◌}
use native.Mathlib.Omega.{arith}
use lib.ListN.{length}
use Rattle.limits.specs.Sizes.{most_choices}
use Rattle.limits.specs.Lent.{Entry}
use Rattle.book.specs.Rules.{Book}
use Rattle.nodes.specs.Nodes.{Heap}
use Rattle.machine.specs.Answers.{Answer, records_bytes, answer_bytes}
use Rattle.machine.specs.Turn.{Rooms, State, Turned, whole, Ended, turn, turns}
use Rattle.run.proofs.OnTheRow.{turns-none, turns-whole}
use Rattle.nights.proofs.Weights.{Weighs, Load, load_front}
use Rattle.nights.proofs.Paying.{most_record, Slim, Law, Came, pays, no_nodes, no_choices, no_places, no_bytes, turn_came}

-- what is counted
abbrev pub by_turns : ℕ → ℕ → ℕ → ℕ
by_turns t k a = t

abbrev pub by_choices : ℕ → ℕ → ℕ → ℕ
by_choices t k a = k

-- an entry either waits or has become an answer, or none
abbrev pub by_entries : ℕ → ℕ → ℕ → ℕ
by_entries t k a = a

-- where each symbol and each fail weighs something, so does all that waits
module _ (Q : ℕ → Type 0) (φ : ℕ → ℕ) (κ γ : ℕ) (some : 0 < γ) (each : (f : ℕ) → Q f → 0 < φ f) where
  weighs-some : {h : Heap} {n v : ℕ} → Weighs Q φ κ γ h n v → 0 < v
  weighs-some (Weighs.leaf {f = f} is q) = each f q
  weighs-some (Weighs.fails is low) = some
  weighs-some (Weighs.both is a b) = omega (arith, weighs-some a)

  load_some : {h : Heap} {es : List Entry} {t : ℕ} → Load Q φ κ γ h es t → length es ≤ t
  load_some Load.none = omega arith
  load_some (Load.more w l) = omega (arith, weighs-some w, load_some l)

module _ (B : Book) (Q : ℕ → Type 0) (φt φc φe : ℕ → ℕ) (lawt : Law B Q φt 1 1 by_turns) (lawc : Law B Q φc 0 0 by_choices) (lawe : Law B Q φe 0 1 by_entries)
    (somet : (f : ℕ) → Q f → 0 < φt f) (somee : (f : ℕ) → Q f → 0 < φe f) where
  -- so many turns, choices and entries are enough, from this state on
  pub record Enough (s : State) (T C E : ℕ) : Type 0 where
    pub nodes : length s.heap ≡ 1 + 2 * s.choices
    pub t : ℕ
    pub c : ℕ
    pub e : ℕ
    pub loadt : Load Q φt 1 1 s.heap s.waiting t
    pub loadc : Load Q φc 0 0 s.heap s.waiting c
    pub loade : Load Q φe 0 1 s.heap s.waiting e
    pub enought : s.turns + t ≤ T
    pub enoughc : s.choices + c ≤ C
    pub enoughe : length s.answers + e ≤ E
    pub slim : Slim s

  module _ (room : Rooms) (T C E : ℕ) (few : C ≤ most_choices) (wide : 1 + 2 * C ≤ room.nodes) (places : E ≤ room.places) (bytes : 1 + most_record * E ≤ room.bytes) where
    -- what the turn of the front entry comes to
    data Step (s : State) : Turned → Type 0 where
      goes_on : {s' : State} → Enough s' T C E → s'.turns ≡ suc s.turns → Step s (whole s')

    bytes_of : (answers : List Answer) → length (answer_bytes answers) ≡ 1 + length (records_bytes answers)
    unfolding answer_bytes
    bytes_of answers = omega arith

    -- by what all three say of it
    step : (s : State) → length s.heap ≡ 1 + 2 * s.choices → Slim s → {t c e : ℕ} → s.turns + t ≤ T → s.choices + c ≤ C → length s.answers + e ≤ E → {y : Turned}
        → Came B Q φt 1 1 by_turns room s t y → Came B Q φc 0 0 by_choices room s c y → Came B Q φe 0 1 by_entries room s e y → Step s y
    step s nodes slim lt lc le (pays {s' = s'} {t = t} a p m one f g) (pays {t = c} b q m' one' f' g') (pays {t = e} d r m'' one'' f'' g'') =
        goes_on {s' = s'} (record { nodes = omega arith; t = t; c = c; e = e; loadt = a; loadc = b; loade = d; enought = omega arith; enoughc = omega arith; enoughe = omega arith; slim = g slim }) one
    step s nodes slim lt lc le (no_nodes a r p m) (no_nodes a' r' p' m') (no_nodes a'' r'' p'' m'') =
        absurd (omega (arith, r'.pays s.turns s.choices (length s.answers)))
    step s nodes slim lt lc le (no_choices a r p m) (no_choices a' r' p' m') (no_choices a'' r'' p'' m'') =
        absurd (omega (arith, r'.pays s.turns s.choices (length s.answers)))
    step s nodes slim lt lc le (no_places a b l r x y p m) (no_places a' b' l' r' x' y' p' m') (no_places w load l'' r'' x'' y'' p'' m'') =
        absurd (omega (arith, weighs-some Q φe 0 1 (omega arith) somee x'', weighs-some Q φe 0 1 (omega arith) somee y'', load_some Q φe 0 1 (omega arith) somee load))
    step s nodes slim lt lc le (no_bytes x w h a i r) (no_bytes x' w' h' a' i' r') (no_bytes x'' w'' h'' a'' i'' r'') =
        absurd (omega (arith, i'' slim, weighs-some Q φe 0 1 (omega arith) somee w'', bytes_of (s.answers ++ (a'' ∷ []))))

    -- the run is finished
    abbrev pub Well : Ended → Type 0
    Well r = r.number ≡ 0

    -- the front entry's turn
    fronted : (s : State) → Enough s T C E → (x : Entry) (rest : List Entry) → s.waiting ≡ x ∷ rest → Step s (turn B room s x rest)
    fronted s enough x rest is =
        let (vt, ut, sumt, wt, lt) = load_front Q φt 1 1 is enough.loadt in
        let (vc, uc, sumc, wc, lc) = load_front Q φc 0 0 is enough.loadc in
        let (ve, ue, sume, we, le) = load_front Q φe 0 1 is enough.loade in
        step s enough.nodes enough.slim (omega (arith, enough.enought)) (omega (arith, enough.enoughc)) (omega (arith, enough.enoughe))
        (turn_came B Q φt 1 1 by_turns room s lawt x rest is lt wt) (turn_came B Q φc 0 0 by_choices room s lawc x rest is lc wc)
        (turn_came B Q φe 0 1 by_entries room s lawe x rest is le we)

    -- fuel is not spent while something waits
    unspent : (s : State) → Enough s T C E → (x : Entry) (rest : List Entry) → s.waiting ≡ x ∷ rest → T ≤ s.turns → ⊥
    unspent s enough x rest is left =
        let (v, u, sum, w, l) = load_front Q φt 1 1 is enough.loadt in
        omega (arith, weighs-some Q φt 1 1 (omega arith) somet w, enough.enought)

    -- A RUN WITH ENOUGH OF ALL IS FINISHED.
    pub ends_well : (fuel : ℕ) (s : State) → Enough s T C E → T ≤ s.turns + fuel → Well (turns B room fuel s)
    ends_well zero s enough left = by s.waiting refl
      where
        by : (es : List Entry) → s.waiting ≡ es → Well (turns B room 0 s)
        by [] is = (ap (λ (r : Ended). r.number) (turns-none B room s 0 is))
        by (x ∷ rest) is = absurd (unspent s enough x rest is (omega arith))
    ends_well (suc fuel) s enough left = by s.waiting refl (λ t better le. ends_well fuel t better le)
      where
        at_turn : (x : Entry) (rest : List Entry) → s.waiting ≡ x ∷ rest → ((t : State) → Enough t T C E → T ≤ t.turns + fuel → Well (turns B room fuel t))
            → (y : Turned) → turn B room s x rest ≡ y → Step s y → Well (turns B room (suc fuel) s)
        at_turn x rest is more y at_y (goes_on {s' = t} better one) = rw (turns-whole B room s x rest is fuel t at_y) (more t better (omega arith))

        by : (es : List Entry) → s.waiting ≡ es → ((t : State) → Enough t T C E → T ≤ t.turns + fuel → Well (turns B room fuel t)) → Well (turns B room (suc fuel) s)
        by [] is more = (ap (λ (r : Ended). r.number) (turns-none B room s (suc fuel) is))
        by (x ∷ rest) is more = at_turn x rest is more (turn B room s x rest) refl (fronted s enough x rest is)
