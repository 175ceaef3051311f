-- Each step of the fold mixes one number more into the checksum.
use Rattle.std.proofs.Common.{rules, refl}
use Rattle.std.proofs.lemmas.Fn.{fold_over, slice_gives, FoldsTo-push, fronts}
use Rattle.tables.specs.Checksum.{ChecksumBy}
use Rattle.tables.proofs.checksum_of.Goals as goal

pub returns : goal.returns
returns g c =
    rw (← c.iter.ensures.rest)
    (fold_over fronts (λ v. v.now) _ (λ vs sum. ChecksumBy g.T.Into.converts 0 vs sum) _ (λ vs sum v more f' h k. (FoldsTo-push _ _ vs sum v.now more h (search rules), search rules))
    c.iter.result _ _ _ (slice_gives c.iter.result) refl c.fold.ensures.ran)
