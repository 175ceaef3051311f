-- `gathered` meets its contract: each line keeps what is held of the lines so far.
use mathlib.Core.Path.{refl, sym, ◌∙◌}
use Prim.Native.Nat.{◌<◌}
use native.Mathlib.Omega.{arith}
use borrow.Author.Rules.{rules}
use lib.ListN.{length}
use Rattle.terms.proofs.LineWays.{end_after}
use Rattle.terms.proofs.TermsExact.{zero-at}
use Rattle.terms.proofs.TermsGoing.{few-names, going-first, going-within, told_over, line-ends, going-room, going_on_lem, told_fitting}
use Rattle.terms.proofs.terms.gathered.Goals as goal

pub noted-known-requires : goal.noted-known-requires
noted-known-requires c = few-names c.args.s.now c.requires

pub loop-at-init : goal.loop-at-init
loop-at-init c =
    let g = going-first c.args.s.now _ _ c.requires refl refl (zero-at 342) (zero-at 2736) in
    (g, record { headings = omega arith; own = omega arith; terms = omega arith; size = omega arith })

pub take_line-requires : goal.take_line-requires
take_line-requires c =
    let loop = c.loop-at in
    let s = c.args.s.now in
    let there : loop.at < length s = omega arith in
    let ends = line-ends s loop.at loop.rows.sum loop.rows.from loop.rows.to loop.invariant.0 there in
    let room = going-room s loop.at loop.rows.sum loop.rows.from loop.rows.to loop.invariant.0 there loop.invariant.1 in
    let later = end_after s loop.at in
    let end = c.line_end-end.ensures in
    rw c.noted-known.ensures (omega (arith, later), omega (arith, ends), loop.invariant.1, rw end room)

pub returns-then-not-is_within : goal.returns-then-not-is_within
returns-then-not-is_within c =
    let loop = c.loop-at in
    let s = c.args.s.now in
    let there : loop.at < length s = omega arith in
    let g = loop.invariant.0 in
    let end = c.line_end-end.ensures in
    let ends = line-ends s loop.at loop.rows.sum loop.rows.from loop.rows.to g there in
    let took = c.take_line in
    let next = going_on_lem s loop.at loop.rows.sum loop.rows.from loop.rows.to g there loop.invariant.1 took.new.self.sum _ _ (rw (c.noted-known.ensures, end) at took.ensures) in
    let over = sym c.is_within.ensures ∙ c.if-not-is_within.true in
    rw c.at.ensures (told_over s _ took.new.self.sum _ _ next over)

pub overflow_add-at : goal.overflow_add-at
overflow_add-at c =
    let loop = c.loop-at in
    let s = c.args.s.now in
    let there : loop.at < length s = omega arith in
    let g = loop.invariant.0 in
    let end = c.line_end-end.ensures in
    let ends = line-ends s loop.at loop.rows.sum loop.rows.from loop.rows.to g there in
    search rules

pub loop-at-smaller : goal.loop-at-smaller
loop-at-smaller c =
    let loop = c.loop-at in
    let s = c.args.s.now in
    let there : loop.at < length s = omega arith in
    let g = loop.invariant.0 in
    let end = c.line_end-end.ensures in
    let ends = line-ends s loop.at loop.rows.sum loop.rows.from loop.rows.to g there in
    let later = end_after s loop.at in
    omega (arith, ends, later)

pub loop-at-preserved : goal.loop-at-preserved
loop-at-preserved c =
    let loop = c.loop-at in
    let s = c.args.s.now in
    let there : loop.at < length s = omega arith in
    let g = loop.invariant.0 in
    let end = c.line_end-end.ensures in
    let ends = line-ends s loop.at loop.rows.sum loop.rows.from loop.rows.to g there in
    let took = c.take_line in
    let next = going_on_lem s loop.at loop.rows.sum loop.rows.from loop.rows.to g there loop.invariant.1 took.new.self.sum _ _ (rw (c.noted-known.ensures, end) at took.ensures) in
    let within = sym c.is_within.ensures ∙ c.if-not-is_within.false in
    (rw end next, going-within s _ took.new.self.sum _ _ next within)

pub returns : goal.returns
returns c =
    let loop = c.loop-at in
    let s = c.args.s.now in
    told_fitting s loop.at loop.rows.sum loop.rows.from loop.rows.to loop.invariant.0 loop.invariant.1 (omega arith)
