-- Each block takes a byte at least, so the blocks end.
use Rattle.std.proofs.Common.{length}
use Rattle.writings.proofs.Numbers.put_blocks.Given as goal

abbrev pub decreases-loop-blocks : goal.decreases-loop-blocks
decreases-loop-blocks l = length l.blocks.left.now
