-- "with its choices renumbered": the decision numbers of a record of the shared run are those of the record alone, each choice's number replaced.
use mathlib.Core.Path.{◌≡◌, refl, sym, ap, ap₂, ◌∙◌}
use mathlib.Core.Logic.{◌≢◌}
use mathlib.Core.List.{List, [], ◌∷◌, map}
use Prim.Native.Nat.{ℕ, suc, ◌+◌, ◌*◌, ◌/◌, ◌%◌, ◌<◌, ◌≤◌}
use native.Mathlib.Omega.{arith}
use native.Mathlib.Decide.{ℕ_discrete, dec_lt}
use lib.ListN.{length, get_or}
use Rattle.limits.specs.Sizes.{most_choices}
use Rattle.limits.specs.declared.Side.{Side}
use Rattle.limits.specs.declared.Side.TheVariants.{Open, Left, Right}
use Rattle.limits.specs.Decisions.{Decisions}
use Rattle.machine.specs.Answers.{decision_numbers}
use Rattle.alike.specs.Alone.{renumber}
use Rattle.alike.proofs.Entries.{Rising, Below, DecisionsAlike}

module _ (cs : List ℕ) (rising : Rising cs) (below : Below most_choices cs) (few : length cs ≤ most_choices) where
  renumber-left : (j p : ℕ) → get_or cs j 0 ≡ p → renumber cs (2 * j) ≡ 2 * p
  unfolding renumber
  renumber-left j p e =
      let half : 2 * j / 2 ≡ j = omega arith in
      let even : 2 * j % 2 ≡ 0 = omega arith in
      rw (half, even, e) (omega arith)

  renumber-right : (j p : ℕ) → get_or cs j 0 ≡ p → renumber cs (2 * j + 1) ≡ 2 * p + 1
  unfolding renumber
  renumber-right j p e =
      let half : (2 * j + 1) / 2 ≡ j = omega arith in
      let odd : (2 * j + 1) % 2 ≡ 1 = omega arith in
      rw (half, odd, e) refl

  -- nothing decided, no numbers
  none-decided : (j : ℕ) (ds : Decisions) → ((i : ℕ) → get_or ds i Open ≡ Open) → decision_numbers j ds ≡ []
  unfolding decision_numbers
  none-decided j [] f = refl
  none-decided j (Open ∷ ds) f = none-decided (suc j) ds (λ i. f (suc i))
  none-decided j (Left ∷ ds) f = absurd (let e = f 0 in let z : ◌≡◌ {A = ℕ} 0 1 = cc in omega arith)
  none-decided j (Right ∷ ds) f = absurd (let e = f 0 in let z : ◌≡◌ {A = ℕ} 0 1 = cc in omega arith)

  -- Both rows from a place on: ds from choice j, ds' from number p. The numbers of the choices before j are below p, the others not.
  record At (j p : ℕ) (ds ds' : Decisions) : Type 0 where
    size : j + length ds ≡ most_choices
    size' : p + length ds' ≡ most_choices
    before : (i : ℕ) → i < j → i < length cs → get_or cs i 0 < p
    after : (i : ℕ) → j ≤ i → i < length cs → p ≤ get_or cs i 0
    same : (i i' : ℕ) → j + i < length cs → get_or cs (j + i) 0 ≡ p + i' → get_or ds i Open ≡ get_or ds' i' Open
    past : (i : ℕ) → length cs ≤ j + i → get_or ds i Open ≡ Open
    others : (i' : ℕ) → ((i : ℕ) → i < length cs → get_or cs i 0 ≢ p + i') → get_or ds' i' Open ≡ Open

  numbers-same : (ds' : Decisions) (j p : ℕ) (ds : Decisions) → At j p ds ds' → decision_numbers p ds' ≡ map (renumber cs) (decision_numbers j ds)
  unfolding decision_numbers
  numbers-same [] j p ds a = sym (ap (map (renumber cs)) (none-decided j ds (λ i. a.past i (over i))))
    where
      over : (i : ℕ) → length cs ≤ j + i
      over i = by (dec_lt j (length cs))
        where
          by : Dec (j < length cs) → length cs ≤ j + i
          by (yes lt) = absurd (omega (arith, a.after j (omega arith) lt, below j lt, a.size'))
          by (no ge) = omega arith
  numbers-same (c ∷ ds') j p ds a = go ds a (dec_lt j (length cs)) (ℕ_discrete (get_or cs j 0) p) (λ j ds b. numbers-same ds' j (suc p) ds b)
    where
      -- the number p is of no choice
      skips : (j : ℕ) (ds : Decisions) → At j p ds (c ∷ ds') → (j < length cs → get_or cs j 0 ≢ p)
          → ((j : ℕ) (ds : Decisions) → At j (suc p) ds ds' → decision_numbers (suc p) ds' ≡ map (renumber cs) (decision_numbers j ds))
          → decision_numbers p (c ∷ ds') ≡ map (renumber cs) (decision_numbers j ds)
      skips j ds a ne ih = by c (a.others 0 none_such)
        where
          away : (i : ℕ) → i < length cs → get_or cs i 0 ≢ p
          away i lt e = side (dec_lt i j) (ℕ_discrete i j)
            where
              side : Dec (i < j) → Dec (i ≡ j) → ⊥
              side (yes l) d = absurd (omega (arith, a.before i l lt))
              side (no l) (yes q) = ne (rw q at lt) (rw q at e)
              side (no l) (no q) = absurd (omega (arith, rising j i (omega arith) lt, a.after j (omega arith) (omega arith)))

          none_such : (i : ℕ) → i < length cs → get_or cs i 0 ≢ p + 0
          none_such i lt e = away i lt (omega arith)

          next : At j (suc p) ds ds'
          next = record {
            size = a.size;
            size' = omega (arith, a.size');
            before = λ i l lt. omega (arith, a.before i l lt);
            after = λ i le lt. further i lt (a.after i le lt);
            same = λ i i' lt e. a.same i (suc i') lt (omega arith);
            past = a.past;
            others = λ i' f. a.others (suc i') (λ i lt e. f i lt (omega arith));
          }
            where
              further : (i : ℕ) → i < length cs → p ≤ get_or cs i 0 → suc p ≤ get_or cs i 0
              further i lt le = by' (ℕ_discrete (get_or cs i 0) p)
                where
                  by' : Dec (get_or cs i 0 ≡ p) → suc p ≤ get_or cs i 0
                  by' (yes e) = absurd (away i lt e)
                  by' (no n) = omega arith

          by : (c : Side) → c ≡ Open → decision_numbers p (c ∷ ds') ≡ map (renumber cs) (decision_numbers j ds)
          by Open e = ih j ds next
          by Left e = absurd (let z : ◌≡◌ {A = ℕ} 0 1 = cc in omega arith)
          by Right e = absurd (let z : ◌≡◌ {A = ℕ} 0 1 = cc in omega arith)

      go : (ds : Decisions) → At j p ds (c ∷ ds') → Dec (j < length cs) → Dec (get_or cs j 0 ≡ p)
          → ((j : ℕ) (ds : Decisions) → At j (suc p) ds ds' → decision_numbers (suc p) ds' ≡ map (renumber cs) (decision_numbers j ds))
          → decision_numbers p (c ∷ ds') ≡ map (renumber cs) (decision_numbers j ds)
      go ds a (no ge) d ih = skips j ds a (λ lt. absurd (omega arith)) ih
      go ds a (yes lt) (no ne) ih = skips j ds a (λ lt'. ne) ih
      go [] a (yes lt) (yes e) ih = absurd (omega (arith, a.size))
      go (b ∷ ds) a (yes lt) (yes e) ih = by b c (a.same 0 0 (omega arith) (ap (λ k. get_or cs k 0) (omega arith) ∙ e ∙ omega arith))
        where
          next : At (suc j) (suc p) ds ds'
          next = record {
            size = omega (arith, a.size);
            size' = omega (arith, a.size');
            before = λ i l lt'. earlier i l lt' (ℕ_discrete i j);
            after = λ i le lt'. omega (arith, rising j i (omega arith) lt');
            same = λ i i' lt' q. a.same (suc i) (suc i') (omega arith) (ap (λ k. get_or cs k 0) (omega arith) ∙ q ∙ omega arith);
            past = λ i le. a.past (suc i) (omega arith);
            others = λ i' f. a.others (suc i') (λ i lt' q. f i lt' (omega arith));
          }
            where
              earlier : (i : ℕ) → i < suc j → i < length cs → Dec (i ≡ j) → get_or cs i 0 < suc p
              earlier i l lt' (yes q) = rw q (omega arith)
              earlier i l lt' (no q) = omega (arith, a.before i (omega arith) lt')

          by : (b c : Side) → b ≡ c → decision_numbers p (c ∷ ds') ≡ map (renumber cs) (decision_numbers j (b ∷ ds))
          by Open Open q = ih (suc j) ds next
          by Left Left q = ap₂ ◌∷◌ (sym (renumber-left j p e)) (ih (suc j) ds next)
          by Right Right q = ap₂ ◌∷◌ (sym (renumber-right j p e)) (ih (suc j) ds next)
          by Open Left q = absurd (let z : ◌≡◌ {A = ℕ} 0 1 = cc in omega arith)
          by Open Right q = absurd (let z : ◌≡◌ {A = ℕ} 0 1 = cc in omega arith)
          by Left Open q = absurd (let z : ◌≡◌ {A = ℕ} 0 1 = cc in omega arith)
          by Left Right q = absurd (let z : ◌≡◌ {A = ℕ} 0 1 = cc in omega arith)
          by Right Open q = absurd (let z : ◌≡◌ {A = ℕ} 0 1 = cc in omega arith)
          by Right Left q = absurd (let z : ◌≡◌ {A = ℕ} 0 1 = cc in omega arith)

  -- THE NUMBERS of a record
  pub numbers_renumbered : {d d' : Decisions} → DecisionsAlike cs d d' → decision_numbers 0 d' ≡ map (renumber cs) (decision_numbers 0 d)
  numbers_renumbered {d} {d'} a = numbers-same d' 0 0 d (record {
    size = omega (arith, a.sized);
    size' = omega (arith, a.sized');
    before = λ i l lt. absurd (omega arith);
    after = λ i le lt. omega arith;
    same = λ i i' lt e.
        ap (λ k. get_or d k Open) (omega arith) ∙ a.same (0 + i) lt ∙ ap (λ k. get_or d' k Open) (e ∙ omega arith);
    past = λ i le. a.open_past i (omega arith);
    others = λ i' f. a.open_others i' (λ i lt e. f i lt (e ∙ omega arith));
  })
