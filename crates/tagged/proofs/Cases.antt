-- The table of listings holds, by computation.
use mathlib.Core.Path.{refl}
use Rattle.tagged.specs.Cases.{text, case, Hold, cases}
use Rattle.tagged.proofs.Computes.{admission, lines, lists, terms, layout, writing, saving}

pub cases-hold : Hold cases
unfolding text case Hold cases admission lines lists terms layout writing saving
cases-hold = ((refl, refl), ((refl, refl), ((refl, refl), ((refl, refl), ((refl, refl), ((refl, refl), ((refl, refl), ((refl, refl), ((refl, refl), ((refl, refl), ((refl, refl), ((refl, refl), ((refl, refl), ((refl, refl), ((refl, refl), ((refl, refl), ((refl, refl), ((refl, refl), ((refl, refl), ((refl, refl), ((refl, refl), ((refl, refl), ((refl, refl), ((refl, refl), ((refl, refl), ((refl, refl), ((refl, refl), ((refl, refl), ((refl, refl), ((refl, refl), ((refl, refl), ((refl, refl), ((refl, refl), ((refl, refl), ((refl, refl), tt)))))))))))))))))))))))))))))))))))
