-- ONE OUTCOME of each function open to callers, crate by crate: any two outcomes that its contract allows for the same arguments are the same. The contract is
-- the one that the kit makes of the `ensures` in the code, so an `ensures` that allows more is refused here. z and z' are the results of two calls, e and e'
-- their parameters at exit. Of a slice that is handed out, and of one that is lent to be written, it is what it holds that is the same.
use mathlib.Core.Path.{◌≡◌}
use Rattle.limits.specs.contracts.Limits.all_open as all_open
use Rattle.limits.specs.contracts.Decisions.side
use Rattle.limits.specs.contracts.Decisions.decide
use Rattle.limits.specs.contracts.Decisions.decided
use Rattle.limits.specs.contracts.Entry.vacant
use Rattle.limits.specs.contracts.Entry.of as entry_of
use Rattle.limits.specs.contracts.Entry.decisions
use Rattle.reading.specs.contracts.base_of as base-of
use Rattle.reading.specs.contracts.between
use Rattle.reading.specs.contracts.byte
use Rattle.reading.specs.contracts.wide_byte as wide-byte
use Rattle.reading.specs.contracts.number
use Rattle.reading.specs.contracts.part_of as part_of
use Rattle.reading.specs.contracts.byte_at as byte_at
use Rattle.reading.specs.contracts.length_at as length_at
use Rattle.reading.specs.contracts.Fault.number as fault-number
use Rattle.reading.specs.contracts.Fault.at as fault-at
use Rattle.reading.specs.contracts.Refusal.number as refusal-number
use Rattle.symbols.specs.contracts.table.is_operation as is-operation
use Rattle.symbols.specs.contracts.table.sort_of as sort-of
use Rattle.symbols.specs.contracts.table.arguments_of as arguments_of
use Rattle.symbols.specs.contracts.table.arity_of as arity-of
use Rattle.symbol_part.specs.contracts.symbol_rows as symbol-rows
use Rattle.symbol_part.specs.contracts.read_symbol_part as read-symbol-part
use Rattle.symbol_part.specs.contracts.symbols_read as symbols-read
use Rattle.expressions.specs.contracts.read_whole as read_whole
use Rattle.expressions.specs.contracts.Code.of as code-of
use Rattle.book.specs.contracts.index_book as index-book
use Rattle.book.specs.contracts.read_book as read-book
use Rattle.question.specs.contracts.read_question as read-question
use Rattle.book.specs.contracts.rows_read as rows-read
use Rattle.writer.specs.contracts.write_book as write-book
use Rattle.writer.specs.contracts.Refusal.number as writer-number
use Rattle.writer.specs.contracts.Refusal.row as writer-row
use Rattle.writer.specs.contracts.put.put_byte as put-byte
use Rattle.writer.specs.contracts.put.put_two as put-two
use Rattle.converter.specs.contracts.convert_book as convert-book
use Rattle.converter.specs.contracts.Refusal.number as converter-number
use Rattle.converter.specs.contracts.Refusal.place as converter-place
use Rattle.terms.specs.contracts.terms_of as terms-of
use Rattle.terms.specs.contracts.faults.Fault.at as listing-fault-at
use Rattle.terms.specs.contracts.faults.Refusal.number as listing-number
use Rattle.terms.proofs.Refusals.{one-terms}
use Rattle.listings.specs.contracts.write_listing as write-listing
use Rattle.circles.specs.contracts.save_listing as save-listing
use Rattle.nodes.specs.contracts.Row.apply as row-apply
use Rattle.nodes.specs.contracts.Row.choice as row-choice
use Rattle.nodes.specs.contracts.Row.fail as row-fail
use Rattle.nodes.specs.contracts.Row.forward as row-forward
use Rattle.nodes.specs.contracts.room_of as room_of
use Rattle.nodes.specs.contracts.kind_at as kind_at
use Rattle.nodes.specs.contracts.label_at as label_at
use Rattle.nodes.specs.contracts.arrow_at as arrow-at
use Rattle.nodes.specs.contracts.follow
use Rattle.nodes.specs.contracts.put
use Rattle.nodes.specs.contracts.put_forward as put-forward
use Rattle.pulls.specs.contracts.pull_up as pull-up
use Rattle.tallies.specs.contracts.tally
use Rattle.tallies.specs.contracts.take_back as take_back
use Rattle.tallies.specs.contracts.Fault.number as tally-number
use Rattle.tallies.specs.contracts.Fault.at as tally-fault-at
use Rattle.figures.specs.contracts.add_figures as add-figures
use Rattle.run.specs.contracts.run
use Rattle.run.specs.contracts.run_owned as run-owned
use Rattle.promises.proofs.Contracts.{left_by}
use Rattle.promises.proofs.OneOutcome.{OneOutcome, OneResult, by_claim, one_value, one_bounded, one_set, one-row, one_reading}
use Rattle.promises.proofs.OneOutcome.{by_both, one-code, one-symbol-rows, one-symbol-part, one_book_read, one_index, one_written, one-converted, one-listed, one-saved, one_added, one_less, one_figured, one-run, one_owned}

-- crate `limits`
pub all_open_one : OneResult all_open.ended (λ M 𝓤 𝓛. all_open.clauses 𝓛)
all_open_one = by_claim all_open.ended (λ κs a z z' e e'. one_set z z')

pub side_one : OneResult side.ended (λ M 𝓤 𝓛. side.clauses 𝓛)
side_one = by_claim side.ended (λ κs a z z' e e'. one_value)

pub decide-one : OneResult decide.ended (λ M 𝓤 𝓛. decide.clauses 𝓛)
decide-one = by_claim decide.ended (λ κs a z z' e e'. one_set z z')

pub decided-one : OneResult decided.ended (λ M 𝓤 𝓛. decided.clauses 𝓛)
decided-one = by_claim decided.ended (λ κs a z z' e e'. one_bounded)

pub vacant-one : OneResult vacant.ended (λ M 𝓤 𝓛. vacant.clauses 𝓛)
vacant-one = by_claim vacant.ended (λ κs a z z' e e'. one_value)

pub entry_of_one : OneResult entry_of.ended (λ M 𝓤 𝓛. entry_of.clauses 𝓛)
entry_of_one = by_claim entry_of.ended (λ κs a z z' e e'. one_value)

pub decisions-one : OneResult decisions.ended (λ M 𝓤 𝓛. decisions.clauses 𝓛)
decisions-one = by_claim decisions.ended (λ κs a z z' e e'. one_set z z')

-- crate `reading`
pub base_of_one : OneResult base-of.ended (λ M 𝓤 𝓛. base-of.clauses 𝓛)
base_of_one = by_claim base-of.ended (λ κs a z z' e e'. one_bounded)

pub between-one : OneResult between.ended (λ M 𝓤 𝓛. between.clauses 𝓛)
between-one = by_claim between.ended (λ κs a z z' e e'. one_value)

pub byte_one : OneResult byte.ended (λ M 𝓤 𝓛. byte.clauses 𝓛)
byte_one = by_claim byte.ended (λ κs a z z' e e'. one_value)

pub wide_byte_one : OneResult wide-byte.ended (λ M 𝓤 𝓛. wide-byte.clauses 𝓛)
wide_byte_one = by_claim wide-byte.ended (λ κs a z z' e e'. one_bounded)

pub number-one : OneResult number.ended (λ M 𝓤 𝓛. number.clauses 𝓛)
number-one = by_claim number.ended (λ κs a z z' e e'. one_bounded)

pub part_of_one : OneOutcome part_of.ended (λ κs z z' e e'. z.now ≡ z'.now) (λ M 𝓤 𝓛. part_of.clauses 𝓛)
part_of_one = by_claim part_of.ended (λ κs a z z' e e'. one_value)

pub byte_at-one : OneResult byte_at.ended (λ M 𝓤 𝓛. byte_at.clauses 𝓛)
byte_at-one = by_claim byte_at.ended (λ κs a z z' e e'. one_reading z z')

pub length-at-one : OneResult length_at.ended (λ M 𝓤 𝓛. length_at.clauses 𝓛)
length-at-one = by_claim length_at.ended (λ κs a z z' e e'. one_reading z z')

pub fault-number-one : OneResult fault-number.ended (λ M 𝓤 𝓛. fault-number.clauses 𝓛)
fault-number-one = by_claim fault-number.ended (λ κs a z z' e e'. one_bounded)

pub fault-at-one : OneResult fault-at.ended (λ M 𝓤 𝓛. fault-at.clauses 𝓛)
fault-at-one = by_claim fault-at.ended (λ κs a z z' e e'. one_value)

pub refusal-number-one : OneResult refusal-number.ended (λ M 𝓤 𝓛. refusal-number.clauses 𝓛)
refusal-number-one = by_claim refusal-number.ended (λ κs a z z' e e'. one_bounded)

-- crate `symbols`
pub is-operation-one : OneResult is-operation.ended (λ M 𝓤 𝓛. is-operation.clauses 𝓛)
is-operation-one = by_claim is-operation.ended (λ κs a z z' e e'. one_value)

pub sort_of_one : OneResult sort-of.ended (λ M 𝓤 𝓛. sort-of.clauses 𝓛)
sort_of_one = by_claim sort-of.ended (λ κs a z z' e e'. one_value)

pub arguments_of_one : OneOutcome arguments_of.ended (λ κs z z' e e'. z.now ≡ z'.now) (λ M 𝓤 𝓛. arguments_of.clauses 𝓛)
arguments_of_one = by_claim arguments_of.ended (λ κs a z z' e e'. one_bounded)

pub arity_of_one : OneResult arity-of.ended (λ M 𝓤 𝓛. arity-of.clauses 𝓛)
arity_of_one = by_claim arity-of.ended (λ κs a z z' e e'. one_bounded)

-- crate `symbol_part`
pub symbol-rows-one : OneResult symbol-rows.ended (λ M 𝓤 𝓛. symbol-rows.clauses 𝓛)
symbol-rows-one = by_claim symbol-rows.ended (λ κs a z z' e e'. one-symbol-rows z z')

pub read-symbol-part-one : OneResult read-symbol-part.ended (λ M 𝓤 𝓛. read-symbol-part.clauses 𝓛)
read-symbol-part-one = by_both read-symbol-part.ended (λ κs a z z' e e'. one-symbol-part _ _ _ _ z z')

pub symbols-read-one : OneResult symbols-read.ended (λ M 𝓤 𝓛. symbols-read.clauses 𝓛)
symbols-read-one = by_claim symbols-read.ended (λ κs a z z' e e'. one_bounded)

-- crate `expressions`
pub read-whole-one : OneResult read_whole.ended (λ M 𝓤 𝓛. read_whole.clauses 𝓛)
read-whole-one = by_claim read_whole.ended (λ κs a z z' e e'. one_reading z z')

pub code-of-one : OneResult code-of.ended (λ M 𝓤 𝓛. code-of.clauses 𝓛)
code-of-one = by_claim code-of.ended (λ κs a z z' e e'. one-code _ z z')

-- crate `book`
pub index-book-one : OneResult index-book.ended (λ M 𝓤 𝓛. index-book.clauses 𝓛)
index-book-one = by_claim index-book.ended (λ κs a z z' e e'. one_book_read z z')

pub read-book-one : OneResult read-book.ended (λ M 𝓤 𝓛. read-book.clauses 𝓛)
read-book-one = by_both read-book.ended (λ κs a z z' e e'. one_index _ _ _ z z')

pub rows-read-one : OneResult rows-read.ended (λ M 𝓤 𝓛. rows-read.clauses 𝓛)
rows-read-one = by_claim rows-read.ended (λ κs a z z' e e'. one_bounded)

-- crate `question`
pub read-question-one : OneResult read-question.ended (λ M 𝓤 𝓛. read-question.clauses 𝓛)
read-question-one = by_claim read-question.ended (λ κs a z z' e e'. one_reading z z')

-- crate `writer`
pub writer-number-one : OneResult writer-number.ended (λ M 𝓤 𝓛. writer-number.clauses 𝓛)
writer-number-one = by_claim writer-number.ended (λ κs a z z' e e'. one_value)

pub writer-row-one : OneResult writer-row.ended (λ M 𝓤 𝓛. writer-row.clauses 𝓛)
writer-row-one = by_claim writer-row.ended (λ κs a z z' e e'. one_value)

pub put-byte-one : OneOutcome put-byte.ended (λ κs z z' e e'. e.0.now ≡ e'.0.now) (λ M 𝓤 𝓛. put-byte.clauses 𝓛)
put-byte-one = by_claim put-byte.ended (λ κs a z z' e e'. one_value)

pub put-two-one : OneOutcome put-two.ended (λ κs z z' e e'. e.0.now ≡ e'.0.now) (λ M 𝓤 𝓛. put-two.clauses 𝓛)
put-two-one = by_both put-two.ended (λ κs a z z' e e' one other. one_value one.0 other.0)

pub write-book-one : OneOutcome write-book.ended (λ κs z z' e e'. (z ≡ z') × (e.1.1.0.now ≡ e'.1.1.0.now)) (λ M 𝓤 𝓛. write-book.clauses 𝓛)
write-book-one = by_claim write-book.ended (λ κs a z z' e e'. one_written z z' e.1.1.0.now e'.1.1.0.now)

-- crate `converter`
pub converter-number-one : OneResult converter-number.ended (λ M 𝓤 𝓛. converter-number.clauses 𝓛)
converter-number-one = by_claim converter-number.ended (λ κs a z z' e e'. one_value)

pub converter-place-one : OneResult converter-place.ended (λ M 𝓤 𝓛. converter-place.clauses 𝓛)
converter-place-one = by_claim converter-place.ended (λ κs a z z' e e'. one_value)

pub convert-book-one : OneOutcome convert-book.ended (λ κs z z' e e'. (z ≡ z') × (e.1.0.now ≡ e'.1.0.now)) (λ M 𝓤 𝓛. convert-book.clauses 𝓛)
convert-book-one = by_claim convert-book.ended (λ κs a z z' e e'. one-converted z z' e.1.0.now e'.1.0.now)

-- crate `terms`
pub listing-fault-at-one : OneResult listing-fault-at.ended (λ M 𝓤 𝓛. listing-fault-at.clauses 𝓛)
listing-fault-at-one = by_claim listing-fault-at.ended (λ κs a z z' e e'. one_value)

pub listing-number-one : OneResult listing-number.ended (λ M 𝓤 𝓛. listing-number.clauses 𝓛)
listing-number-one = by_claim listing-number.ended (λ κs a z z' e e'. one_value)

pub terms_of_one : OneResult terms-of.ended (λ M 𝓤 𝓛. terms-of.clauses 𝓛)
terms_of_one = by_claim terms-of.ended (λ κs a z z' e e' one other. one-terms z z' (one_bounded one other))

-- crate `listings`
pub write-listing-one : OneOutcome write-listing.ended (λ κs z z' e e'. (z ≡ z') × (e.1.0.now ≡ e'.1.0.now)) (λ M 𝓤 𝓛. write-listing.clauses 𝓛)
write-listing-one = by_claim write-listing.ended (λ κs a z z' e e'. one-listed z z' e.1.0.now e'.1.0.now)

-- crate `circles`
pub save_listing-one : OneOutcome save-listing.ended (λ κs z z' e e'. (z ≡ z') × (e.1.0.now ≡ e'.1.0.now)) (λ M 𝓤 𝓛. save-listing.clauses 𝓛)
save_listing-one = by_claim save-listing.ended (λ κs a z z' e e'. one-saved z z' e.1.0.now e'.1.0.now)

-- crate `nodes`
pub row-apply-one : OneResult row-apply.ended (λ M 𝓤 𝓛. row-apply.clauses 𝓛)
row-apply-one = by_claim row-apply.ended (λ κs a z z' e e'. one-row z z')

pub row-choice-one : OneResult row-choice.ended (λ M 𝓤 𝓛. row-choice.clauses 𝓛)
row-choice-one = by_claim row-choice.ended (λ κs a z z' e e'. one-row z z')

pub row-fail-one : OneResult row-fail.ended (λ M 𝓤 𝓛. row-fail.clauses 𝓛)
row-fail-one = by_claim row-fail.ended (λ κs a z z' e e'. one-row z z')

pub row-forward-one : OneResult row-forward.ended (λ M 𝓤 𝓛. row-forward.clauses 𝓛)
row-forward-one = by_claim row-forward.ended (λ κs a z z' e e'. one-row z z')

pub room_of_one : OneResult room_of.ended (λ M 𝓤 𝓛. room_of.clauses 𝓛)
room_of_one = by_claim room_of.ended (λ κs a z z' e e'. one_value)

pub kind_at-one : OneResult kind_at.ended (λ M 𝓤 𝓛. kind_at.clauses 𝓛)
kind_at-one = by_claim kind_at.ended (λ κs a z z' e e'. one_value)

pub label_at-one : OneResult label_at.ended (λ M 𝓤 𝓛. label_at.clauses 𝓛)
label_at-one = by_claim label_at.ended (λ κs a z z' e e'. one_value)

pub arrow-at-one : OneResult arrow-at.ended (λ M 𝓤 𝓛. arrow-at.clauses 𝓛)
arrow-at-one = by_claim arrow-at.ended (λ κs a z z' e e'. one_value)

pub follow_one : OneResult follow.ended (λ M 𝓤 𝓛. follow.clauses 𝓛)
follow_one = by_claim follow.ended (λ κs a z z' e e'. one_value)

pub put_one : OneOutcome put.ended (λ κs z z' e e'. e.0.now ≡ e'.0.now) (λ M 𝓤 𝓛. put.clauses 𝓛)
put_one = by_claim put.ended (λ κs a z z' e e'. one_value)

pub put-forward-one : OneOutcome put-forward.ended (λ κs z z' e e'. e.0.now ≡ e'.0.now) (λ M 𝓤 𝓛. put-forward.clauses 𝓛)
put-forward-one = by_claim put-forward.ended (λ κs a z z' e e'. one_value)

-- crate `pulls`
pub pull_up-one : OneOutcome pull-up.ended (λ κs z z' e e'. (z ≡ z') × (e.0.now ≡ e'.0.now)) (λ M 𝓤 𝓛. pull-up.clauses 𝓛)
pull_up-one = by_claim pull-up.ended (λ κs a z z' e e' one other. (one_value one.0 other.0, one_value one.1 other.1))

-- crate `tallies`
pub tally-number-one : OneResult tally-number.ended (λ M 𝓤 𝓛. tally-number.clauses 𝓛)
tally-number-one = by_claim tally-number.ended (λ κs a z z' e e'. one_value)

pub tally-fault-at-one : OneResult tally-fault-at.ended (λ M 𝓤 𝓛. tally-fault-at.clauses 𝓛)
tally-fault-at-one = by_claim tally-fault-at.ended (λ κs a z z' e e'. one_value)

pub tally_one : OneOutcome tally.ended (λ κs z z' e e'. (z ≡ z') × (e.1.1.0.now ≡ e'.1.1.0.now)) (λ M 𝓤 𝓛. tally.clauses 𝓛)
tally_one = by_claim tally.ended (λ κs a z z' e e'. one_added z z' e.1.1.0.now e'.1.1.0.now)

pub take-back-one : OneOutcome take_back.ended (λ κs z z' e e'. e.1.1.0.now ≡ e'.1.1.0.now) (λ M 𝓤 𝓛. take_back.clauses 𝓛)
take-back-one = by_claim take_back.ended (λ κs a z z' e e'. one_less _ e.1.1.0.now e'.1.1.0.now)

-- crate `figures`
pub add_figures-one : OneOutcome add-figures.ended (λ κs z z' e e'. (z ≡ z') × (e.1.0.now ≡ e'.1.0.now)) (λ M 𝓤 𝓛. add-figures.clauses 𝓛)
add_figures-one = by_claim add-figures.ended (λ κs a z z' e e'. one_figured z z' e.1.0.now e'.1.0.now)

-- crate `run`
pub run-one : OneOutcome run.ended (λ κs z z' e e'. (z ≡ z') × (left_by κs e ≡ left_by κs e')) (λ M 𝓤 𝓛. run.clauses 𝓛)
run-one = by_claim run.ended (λ κs a z z' e e'. one-run z z' (left_by κs e) (left_by κs e'))

pub run_owned_one : OneOutcome run-owned.ended
    (λ κs z z' e e'. (z ≡ z') × (e.1.1.0.now ≡ e'.1.1.0.now) × (e.1.1.1.1.1.0.now ≡ e'.1.1.1.1.1.0.now)) (λ M 𝓤 𝓛. run-owned.clauses 𝓛)
run_owned_one = by_claim run-owned.ended
    (λ κs a z z' e e'. one_owned a.1.1.1.1.0 z z' e.1.1.0.now e'.1.1.0.now e.1.1.1.1.1.0.now e'.1.1.1.1.1.0.now)
