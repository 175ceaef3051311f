-- `noted` meets its contract: the headings before the place are noted.
use Prim.Native.Nat.{ℕ}
use native.Mathlib.Omega.{arith}
use lib.ListN.{length-replicate}
use Rattle.terms.proofs.LineWays.{end_after}
use Rattle.terms.proofs.TermsNoted.{noting_first, noted-past, noted-cut, noting_room, noting_on}
use Rattle.terms.proofs.terms.Headings.noted.Goals as goal
use Rattle.terms.proofs.terms.Headings.noted.Goals.{then-loop-at-test+then-s-end, else-loop-at-test}

pub loop-at-init : goal.loop-at-init
loop-at-init c =
    noting_first c.args.s.now _ _ (length-replicate {A = ℕ} 341 0) (length-replicate {A = ℕ} 341 0)

pub note_line-count-requires : goal.note_line-count-requires
note_line-count-requires c =
    let s = c.args.s.now in
    let loop = c.loop-at in
    let few = c.requires in
    let end = c.line_end-end.ensures in
    let later = end_after s loop.at in
    let room = noting_room s loop.at loop.count loop.opens loop.ends loop.invariant few (omega arith) in
    (omega arith, omega arith, rw end room)

pub loop-at-smaller : goal.loop-at-smaller
loop-at-smaller c =
    let s = c.args.s.now in
    let loop = c.loop-at in
    let few = c.requires in
    let end = c.line_end-end.ensures in
    let later = end_after s loop.at in
    omega arith

pub loop-at-preserved : goal.loop-at-preserved
loop-at-preserved c =
    let s = c.args.s.now in
    let loop = c.loop-at in
    let few = c.requires in
    let end = c.line_end-end.ensures in
    let later = end_after s loop.at in
    let noted = rw end at c.note_line-count.ensures in
    rw end (noting_on s loop.at loop.count loop.opens loop.ends loop.invariant few (omega arith) c.note_line-count.result _ _ noted)

pub invariant_of-result : goal.invariant_of-result
invariant_of-result c =
    let s = c.args.s.now in
    let loop = c.loop-at in
    let few = c.requires in
    let so = loop.invariant in
    record {
      noted = elim c.loop-at-test.branch [
        | then-loop-at-test+then-s-end w ↦
            noted-cut s loop.at loop.count loop.opens loop.ends so few (omega (arith, w.loop-at-test.true)) (omega (arith, w.line_end-end.ensures, w.if-s-end.true))
        | else-loop-at-test w ↦ noted-past s loop.at loop.count loop.opens loop.ends so few (omega (arith, w.loop-at-test.false))
      ];
    }
