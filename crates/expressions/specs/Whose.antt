-- "An expression is read where it stands, in the book or in the question": by who asked.
use Rattle.std.specs.Prelude.{List, ℕ}
use Rattle.reading.specs.declared.Asker.{Asker}
use Rattle.reading.specs.declared.Asker.TheVariants.{Book, Question}

abbrev pub whose : Asker → List ℕ → List ℕ → List ℕ
whose Book book question = book
whose Question book question = question
