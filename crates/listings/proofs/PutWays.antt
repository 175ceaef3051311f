-- Bytes put behind others, and what is left to be put.
use mathlib.Core.List.{List, [], ◌∷◌, ◌++◌}
use mathlib.Core.Path.{◌≡◌, refl, sym, ap, ◌∙◌}
use Prim.Native.Nat.{ℕ, zero, suc, ◌+◌, ◌-◌, ◌/◌, ◌%◌, ◌<◌, ◌≤◌}
use native.Mathlib.Nat.{add-zero, zero-add}
use native.Mathlib.Omega.{arith}
use lib.ListN.{length, set, drop, length-append}
use lib.Seq.{sets, sets-eq, length-sets}
use Rattle.reading.specs.Bytes.{two_bytes}
use Rattle.listings.specs.Putting.{Fits, Put, kind_laid, kinds_laid, term_laid}

-- bytes behind others
sets_behind : (l : List ℕ) (p : ℕ) (a b : List ℕ) → sets l p (a ++ b) ≡ sets (sets l p a) (p + length a) b
sets_behind l p [] b = rw add-zero
sets_behind l p (x ∷ a) b =
    let e : suc p + length a ≡ p + suc (length a) = omega arith in
    sets_behind (set l p x) (suc p) a b ∙ rw e

pub put_then : {old mid new xs ys : List ℕ} {at p q : ℕ} → Put old at xs p mid → Put mid p ys q new → Put old at (xs ++ ys) q new
put_then {old} {mid} {new} {xs} {ys} {at} {p} {q} first second = record {
  behind = omega (arith, first.behind, second.behind, length-append xs ys);
  room = second.room ∙ rw (first.room, first.behind) (sym (sets_behind old at xs ys));
}

-- the room is as long as it was
pub put_same : {old new bytes : List ℕ} {at q : ℕ} → Put old at bytes q new → length new ≡ length old
put_same {old} {new} {bytes} {at} put = ap length put.room ∙ length-sets old at bytes

-- from the front on
pub put_whole : {old new bytes : List ℕ} {q : ℕ} → length bytes ≤ length old → Put old 0 bytes q new → new ≡ bytes ++ drop (length bytes) old
put_whole {old} {new} {bytes} fits put = put.room ∙ sets-eq bytes old 0 (omega arith) ∙ rw zero-add

-- of bytes to be put at a place, those that are left, and the place where they go
pub record Left (old : List ℕ) (at : ℕ) (all now : List ℕ) (p : ℕ) (rest : List ℕ) : Type 0 where
  pub behind : p + length rest ≡ at + length all
  pub room : sets now p rest ≡ sets old at all

pub left-all : {old : List ℕ} {at : ℕ} {all : List ℕ} → Left old at all old at all
left-all = record { behind = refl; room = refl }

module _ {old : List ℕ} {at : ℕ} {all now : List ℕ} {p : ℕ} where
  -- some are put now, and the others then are left
  pub left-put : {left xs rest new : List ℕ} {q : ℕ} → left ≡ xs ++ rest → Left old at all now p left → Put now p xs q new → Left old at all new q rest
  left-put {left} {xs} {rest} {new} {q} split before put = record {
    behind = omega (arith, before.behind, put.behind, ap length split ∙ length-append xs rest);
    room = rw (put.room, put.behind) (sym (sets_behind now p xs rest)) ∙ rw split at before.room;
  }

  -- the last are put now
  pub left-last : {left xs new : List ℕ} {q : ℕ} → left ≡ xs → Left old at all now p left → Put now p xs q new → Put old at all q new
  left-last {left} {xs} {new} {q} is before put = record {
    behind = omega (arith, before.behind, put.behind, ap length is);
    room = put.room ∙ rw is at before.room;
  }

  -- the room is as long as it was
  pub left-same : {left : List ℕ} → Left old at all now p left → length now ≡ length old
  left-same {left} before = sym (length-sets now p left) ∙ ap length before.room ∙ length-sets old at all

  -- none is left
  pub left-none : {left : List ℕ} → left ≡ [] → Left old at all now p left → Put old at all p now
  left-none {left} is before = record { behind = omega (arith, before.behind, ap length is); room = rw is at before.room }

  -- they end within a book, too
  pub left-fits : {left : List ℕ} (xs rest : List ℕ) → left ≡ xs ++ rest → Left old at all now p left → Fits at all → Fits p xs
  left-fits {left} xs rest split before fits = omega (arith, before.behind, fits, ap length split ∙ length-append xs rest)

-- ---- a number in two bytes

pub two-long : (n : ℕ) → length (two_bytes n) ≡ 2
unfolding two_bytes
two-long n = refl

pub two-put : (n : ℕ) {old mid new : List ℕ} {at p q : ℕ} → Put old at (n / 256 ∷ []) p mid → Put mid p (n % 256 ∷ []) q new → Put old at (two_bytes n) q new
unfolding two_bytes
two-put n first second = put_then first second

-- ---- symbols

pub term-long : (f : ℕ) → length (term_laid f) ≡ 3
unfolding term_laid two_bytes
term-long f = refl

pub term-put : (f : ℕ) {old mid new : List ℕ} {at p q : ℕ} → Put old at (1 ∷ []) p mid → Put mid p (two_bytes f) q new → Put old at (term_laid f) q new
unfolding term_laid
term-put f first second = put_then first second

pub kinds-long : (many kind : ℕ) → length (kinds_laid many kind) ≡ many + many + many
unfolding kinds_laid
kinds-long zero kind = refl
kinds-long (suc many) kind = omega (arith, kinds-long many kind)

pub kinds-one : (many kind i : ℕ) → i < many → kinds_laid (many - i) kind ≡ kind_laid kind ++ kinds_laid (many - (i + 1)) kind
unfolding kinds_laid
kinds-one many kind i less =
    let e : many - i ≡ suc (many - (i + 1)) = omega arith in
    rw e refl

pub kinds-none : (many kind i : ℕ) → many ≤ i → kinds_laid (many - i) kind ≡ []
unfolding kinds_laid
kinds-none many kind i past =
    let e : many - i ≡ 0 = omega arith in
    rw e refl
