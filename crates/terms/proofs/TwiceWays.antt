-- The first k of the headings stand above a line, and the others from it on: what a heading's own line changes.
use mathlib.Core.Path.{◌≡◌, sym, ap, ◌∙◌}
use mathlib.Core.List.{List, [], ◌∷◌}
use Prim.Native.Nat.{ℕ, ◌+◌, ◌<◌}
use native.Mathlib.Omega.{arith}
use native.Mathlib.Numerals.{add-one}
use lib.ListN.{length, get_or, drop, length-drop}
use lib.Seq.{get_or-drop, drop-drop}
use Rattle.tagged.specs.Lines.{Name, Line}
use Rattle.tagged.specs.Listing.{headings_of}

module _ (hs : List Name) (k : ℕ) (x : Name) (rest : List Line) (above : x ∷ headings_of rest ≡ drop k hs) where
  pub one_more : k < length hs
  one_more = omega (arith, ap length above, length-drop k hs)

  pub the_next : get_or hs k [] ≡ x
  the_next =
      let e : k + 0 ≡ k = omega arith in
      ap (λ n. get_or hs n []) (sym e) ∙ sym (get_or-drop k hs 0 []) ∙ ap (λ l. get_or l 0 []) (sym above)

  pub behind-it : headings_of rest ≡ drop (k + 1) hs
  behind-it = rw (add-one k) (ap (drop 1) above ∙ drop-drop 1 k hs ∙ ap (λ n. drop n hs) (add-one k))
