-- What is told of a listing's terms, by what its judge tells.
use Prim.Native.Nat.{ℕ, ◌≤◌, ◌<◌}
use native.Mathlib.Omega.{arith}
use Rattle.std.specs.Prelude.{Ok, Err}
use Rattle.reading.specs.Reading.{Reading, got, refusal}
use Rattle.tagged.specs.Listing.{Broader}
use Rattle.terms.specs.Refusals.{number_of}
use Rattle.terms.specs.TermRows.{JudgedAs, refused_as}
use Rattle.terms.specs.Gathering.{FewHeadings}
use Rattle.terms.specs.declared.faults.Refusal.{Refusal}
use Rattle.tagged.proofs.Sizes.{passes-headings}
use Rattle.terms.proofs.TermsGoing.{Told, as_over}
use Rattle.terms.proofs.TermsExact.{same-refused}

-- its refusal
pub told-refused : (r : Reading Broader) (e : Refusal) → JudgedAs (Err e) r → Told (refused_as (number_of e.fault) e.line) r
told-refused (refusal c l) e (is, at) = (same-refused (number_of e.fault) c e.line l is at, (is, at))
told-refused (got terms l) e judged = absurd judged

-- 43 for its headings
pub told-many : (r : Reading Broader) (headings : ℕ) → JudgedAs (Ok headings) r → 341 < headings → Told (refused_as 43 0) r
told-many (refusal c l) headings judged over = absurd judged
told-many (got terms l) headings judged over = as_over terms l (passes-headings terms (omega arith))

-- or it has few
pub few-told : (r : Reading Broader) (headings : ℕ) → JudgedAs (Ok headings) r → headings ≤ 341 → FewHeadings r
few-told (refusal c l) headings judged few = absurd judged
few-told (got terms l) headings judged few = omega arith
