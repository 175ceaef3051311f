-- `add_book` meets its contract: the tests in the order of the definition, then its records.
use mathlib.Core.Path.{◌≡◌, refl, ap₂, ◌∙◌}
use Prim.Native.Nat.{ℕ, ◌+◌, ◌*◌}
use native.Mathlib.Omega.{arith}
use Rattle.reading.specs.Bytes.{big_endian}
use Rattle.figures.specs.Figures.{book_at}
use Rattle.figures.proofs.BookWays.{refused_as_lem, length_cut, book-cut, no_version, version-there, versioned, version-none, version-past, version-known}
use Rattle.figures.proofs.adding.add_book.Goals as goal
use Rattle.figures.proofs.adding.add_book.Goals.{After-wide_byte-version, After-number-2}

-- the book's length
abbrev bytes_of : After-number-2 → ℕ
bytes_of c = c.number.result * 65536 + c.number-2.result

bytes-are : (c : After-number-2)
    → let a = c.args in
    bytes_of c ≡ big_endian a.books.now a.p * 65536 + big_endian a.books.now (a.p + 2)
bytes-are c = ap₂ (λ (high low : ℕ). high * 65536 + low) c.number.ensures.0 c.number-2.ensures.0

-- the book, once it is known to have a version
at-version : (c : After-wide_byte-version)
    → let a = c.args in
    book_at a.books.now a.totals.now a.p ≡ versioned a.books.now a.p (bytes_of (goal.at.After-wide_byte-version c).After-number-2) c.wide_byte-version.result a.totals.now
at-version c =
    let a = c.args in
    version-there a.books.now a.p (bytes_of (goal.at.After-wide_byte-version c).After-number-2) (bytes-are (goal.at.After-wide_byte-version c).After-number-2) (omega arith) (omega arith) c.if-bytes-eq0.false c.wide_byte-version.result c.wide_byte-version.ensures.0 a.totals.now

pub returns-then-size-p-lt4 : goal.returns-then-size-p-lt4
returns-then-size-p-lt4 c =
    let a = c.args in
    refused_as_lem a.totals.now a.totals.now c.at.result c.at.ensures (length_cut a.books.now a.p (omega arith) a.totals.now) refl

pub returns-then-size-p : goal.returns-then-size-p
returns-then-size-p c =
    let a = c.args in
    refused_as_lem a.totals.now a.totals.now c.at-then-size-p.result c.at-then-size-p.ensures
    (book-cut a.books.now a.p (bytes_of (goal.at.returns-then-size-p c).After-number-2) (bytes-are (goal.at.returns-then-size-p c).After-number-2) (omega arith) (omega arith) a.totals.now) refl

pub returns-then-bytes-eq0 : goal.returns-then-bytes-eq0
returns-then-bytes-eq0 c =
    let a = c.args in
    refused_as_lem a.totals.now a.totals.now c.at-then-bytes-eq0.result c.at-then-bytes-eq0.ensures
    (no_version a.books.now a.p (bytes_of (goal.at.returns-then-bytes-eq0 c).After-number-2) (bytes-are (goal.at.returns-then-bytes-eq0 c).After-number-2) (omega arith) (omega arith) (omega arith) a.totals.now) refl

pub returns-then-version-eq0 : goal.returns-then-version-eq0
returns-then-version-eq0 c =
    let a = c.args in
    refused_as_lem a.totals.now a.totals.now c.at-then-version-eq0.result c.at-then-version-eq0.ensures
    (at-version (goal.at.returns-then-version-eq0 c).After-wide_byte-version ∙ version-none a.books.now a.p (bytes_of (goal.at.returns-then-version-eq0 c).After-number-2) c.wide_byte-version.result c.if-version-eq0.true a.totals.now) refl

pub returns-then-version-gt2 : goal.returns-then-version-gt2
returns-then-version-gt2 c =
    let a = c.args in
    refused_as_lem a.totals.now a.totals.now c.at-then-version-gt2.result c.at-then-version-gt2.ensures
    (at-version (goal.at.returns-then-version-gt2 c).After-wide_byte-version ∙ version-past a.books.now a.p (bytes_of (goal.at.returns-then-version-gt2 c).After-number-2) c.wide_byte-version.result c.if-version-eq0.false c.if-version-gt2.true a.totals.now) refl

pub returns : goal.returns
returns c =
    let a = c.args in
    rw (at-version (goal.at.returns c).After-wide_byte-version ∙ version-known a.books.now a.p (bytes_of (goal.at.returns c).After-number-2) c.wide_byte-version.result c.if-version-eq0.false c.if-version-gt2.false a.totals.now) c.add_records.ensures
