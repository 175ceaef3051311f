-- `same_row` meets its contract: the first n numbers are compared.
use mathlib.Core.Path.{◌≡◌, sym, ap, ◌∙◌}
use borrow.Author.Rules.{rules}
use lib.Dec.{eqb}
use lib.ListN.{length, get_or, take}
use lib.Pointwise.{pointwise, bytes_decides}
use lib.Seq.{get_or-take, ext_get_or}
use Rattle.std.proofs.lemmas.Bool.{false≢true}
use Rattle.circles.proofs.circle.same_row.Goals as goal

pub returns : goal.returns
returns c =
    let a = c.args.a.now in
    let b = c.args.b.now in
    let n = c.args.n in
    let compared : c.eq.result ≡ pointwise eqb (take n a) (take n b) = search rules in
    let decides = bytes_decides (take n a) (take n b) in
    let long : length a ≡ length b = search rules in
    record {
      same = λ is x low. sym (get_or-take n a x 0 low) ∙ ap (λ l. get_or l x 0) (decides.0 (sym compared ∙ is)) ∙ get_or-take n b x 0 low;
      other = λ is same. false≢true (sym is ∙ compared ∙ decides.1 (ap (take n) (ext_get_or 0 a b long (λ x low. same x))));
    }
