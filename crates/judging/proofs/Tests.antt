-- What the marks say of the tests of a node (crate `accepted`, specs/Faults.antt).
use mathlib.Core.Bool.{true, false}
use mathlib.Core.List.{List}
use mathlib.Core.Logic.{◌⊎◌, inl, inr, ◌≢◌}
use mathlib.Core.Path.{◌≡◌, refl, sym, ap, ◌∙◌}
use Prim.Native.Nat.{ℕ}
use native.Mathlib.Decide.{ℕ_discrete}
use native.Mathlib.Omega.{arith}
use lib.ListN.{get_or}
use Rattle.symbols.specs.Symbols.{Symbols}
use Rattle.nodes.specs.Nodes.{Heap}
use Rattle.sorts.specs.Sorts.{sort_of}
use Rattle.accepted.specs.Faults.{misfit}
use Rattle.accepted.proofs.Reaches.{not-passed}
use Rattle.accepted.proofs.Misfits.{Misfit, misfit-is, is-misfit}
use Rattle.judging.specs.declared.said.Said.{Said}
use Rattle.judging.specs.declared.said.Said.TheVariants.{Nothing, One, Several}
use Rattle.judging.specs.Sorts.{Met, Says, AllMet}

module _ (S : Symbols) (h : Heap) (met : List Said) (all : AllMet S h met) (n s : ℕ) where
  -- where nothing is said, or this sort alone, it fits
  pub met-fits : (get_or met n Nothing ≡ Nothing) ⊎ (get_or met n Nothing ≡ One s) → misfit S h n s ≡ false
  met-fits said = not-passed (misfit S h n s) (λ e. by said (misfit-is S h n s e))
    where
      by : (get_or met n Nothing ≡ Nothing) ⊎ (get_or met n Nothing ≡ One s) → Misfit S h n s → ⊥
      by said x =
          go (sort_of S x.symbol) x.other said
          (all.all n (sort_of S x.symbol) (record {
            node = x.node;
            symbol = x.symbol;
            arguments = x.arguments;
            meets = x.meets;
            is = x.is;
            known = x.known;
            sorted = refl;
          }))
        where
          go : (t : ℕ) → t ≢ s → (get_or met n Nothing ≡ Nothing) ⊎ (get_or met n Nothing ≡ One s)
              → (get_or met n Nothing ≡ One t) ⊎ (get_or met n Nothing ≡ Several) → ⊥
          go t o (inl q) (inl r) = let z : ◌≡◌ {A = ℕ} 0 1 = cc in omega arith
          go t o (inl q) (inr r) = let z : ◌≡◌ {A = ℕ} 0 1 = cc in omega arith
          go t o (inr q) (inl r) = o (cc)
          go t o (inr q) (inr r) = let z : ◌≡◌ {A = ℕ} 0 1 = cc in omega arith

  -- else it does not
  met-other : {t : ℕ} → t ≢ s → Met S h n t → Misfit S h n s
  met-other other x = record {
    node = x.node;
    symbol = x.symbol;
    arguments = x.arguments;
    meets = x.meets;
    is = x.is;
    known = x.known;
    other = λ q. other (sym x.sorted ∙ q);
  }

  pub met_misfits : (get_or met n Nothing ≡ Nothing → ⊥) → (get_or met n Nothing ≡ One s → ⊥) → misfit S h n s ≡ true
  met_misfits some other = is-misfit S h n s (by (get_or met n Nothing) refl (all.says n))
    where
      by : (v : Said) → get_or met n Nothing ≡ v → Says (Met S h n) v → Misfit S h n s
      by v q Says.nothing = absurd (some q)
      by v q (Says.one {s = t} x) = met-other (λ z. other (q ∙ ap One z)) x
      by v q (Says.more {s = t} {t = u} o x y) = side (ℕ_discrete t s)
        where
          side : Dec (t ≡ s) → Misfit S h n s
          side (yes z) = met-other (λ w. o (z ∙ sym w)) y
          side (no z) = met-other z x
