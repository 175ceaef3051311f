-- The definitions that a listing goes through: whoever unfolds one of these names unfolds all on its line.
use Rattle.reading.specs.Reading as Reading
use Rattle.reading.specs.Bytes as Bytes
use Rattle.tagged.specs.Lines as Lines
use Rattle.tagged.specs.Listing as Listing
use Rattle.tagged.specs.Terms as Terms
use Rattle.tagged.specs.Laid as Laid
use Rattle.tagged.specs.Write as Write
use Rattle.tagged.specs.Levels as Levels
use Rattle.tagged.specs.Circle as Circle
use Rattle.tagged.specs.Saved as Saved

unfoldable pub admission : Unit {0}
unfolding Reading.◌then◌ Reading.refuse◌at◌if◌else◌ Bytes.two_bytes
admission = tt

unfoldable pub lines : Unit {0}
unfolding Lines.printed Lines.is_name Lines.same Lines.named Lines.line_of Lines.cut_short Lines.lines_from Lines.lines_of
lines = tt

unfoldable pub lists : Unit {0}
unfolding Listing.number_of Listing.lists_from Listing.lists_of Listing.mirrors Listing.mirrored Listing.mirrored_from Listing.broader_of Listing.broader_from Listing.broader_in
lists = tt

unfoldable pub terms : Unit {0}
unfolding Terms.symbols_for Terms.nested Terms.first_of Terms.second_of Terms.rules_before Terms.exempt_before Terms.first_rules Terms.second_rules Terms.trees_for Terms.rules_for
terms = tt

unfoldable pub layout : Unit {0}
unfolding Laid.symbol_laid Laid.symbols_laid Laid.expr_laid Laid.row_laid Laid.tree_laid Laid.cases_laid Laid.length_first Laid.trees_laid Laid.laid
layout = tt

unfoldable pub writing : Unit {0}
unfolding Write.nodes_of Write.nodes_of_row Write.some_over Write.passes Write.written Write.book_from
writing = tt

unfoldable pub saving : Unit {0}
unfolding Levels.longest Levels.chains Levels.levels Circle.some_marked Circle.mark_at Circle.below Circle.returns Circle.first_return Circle.lowest Circle.way_to Circle.shortest_from Circle.circle Saved.answered Saved.judged Saved.saved_as
saving = tt
