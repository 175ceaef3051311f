-- `write_listing` meets its contract: the terms are refused, or their book is laid into the room, or there is none for it.
use mathlib.Core.Path.{◌≡◌, refl}
use lib.ListN.{length}
use borrow.Author.Rules.{rules}
use Rattle.std.specs.Prelude.{Ok, Err}
use Rattle.std.proofs.lemmas.Result.{err_from_is_err_and}
use Rattle.terms.specs.TermRows.{most_terms, told_of}
use Rattle.terms.proofs.Refusals.{number-some}
use Rattle.listings.proofs.WriteWays.{told-way, refused-way, told-hold, told-size, told-small, room-way, book-way}
use Rattle.listings.proofs.write.write_listing.Goals as goal

pub returns-in_err-t : goal.returns-in_err-t
returns-in_err-t c =
    let refused = err_from_is_err_and c.from_residual.result c.from_residual.ensures.1 in
    let e = c.in_err-t.field-0.0 in
    rw (refused.1, refused.2) (refused-way c.args.s.now c.args.room.now (told_of (Err e)) c.in_err-t.ensures.1 (number-some e.fault))

pub returns-then-room-size : goal.returns-then-room-size
returns-then-room-size c =
    let t = told_of (Ok c.in_ok-t.t) in
    let s = c.args.s.now in
    let room = c.args.room.now in
    rw c.at.ensures (room-way s room t (told-way s room t c.in_ok-t.ensures.1 refl) c.if-room-size.true)

pub invariant_of-rows : goal.invariant_of-rows
invariant_of-rows c =
    let whole : length c.in_ok-t.t.to ≡ most_terms = search rules in
    let t = told_of (Ok c.in_ok-t.t) in
    let s = c.args.s.now in
    let room = c.args.room.now in
    record { holding = record { whole = whole; terms = told-hold s room t (told-way s room t c.in_ok-t.ensures.1 refl) } }

pub put_book-requires : goal.put_book-requires
put_book-requires c =
    let t = told_of (Ok c.in_ok-t.t) in
    let s = c.args.s.now in
    let room = c.args.room.now in
    let terms = told-way s room t c.in_ok-t.ensures.1 refl in
    (told-size s room t terms, told-small s room t terms, c.if-room-size.false)

pub returns : goal.returns
returns c =
    let t = told_of (Ok c.in_ok-t.t) in
    let s = c.args.s.now in
    let room = c.args.room.now in
    let terms = told-way s room t c.in_ok-t.ensures.1 refl in
    book-way s room t terms _ c.if-room-size.false c.put_book.ensures
