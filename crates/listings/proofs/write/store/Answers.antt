-- `store` meets its contract: past the end nothing is there to change.
use mathlib.Core.Path.{sym}
use lib.Seq.{set_out}
use Rattle.listings.proofs.write.store.Goals as goal

pub returns-else-at-room : goal.returns-else-at-room
returns-else-at-room c =
    let a = c.args in
    sym (set_out a.room.now a.at a.b c.if-at-room.false)
