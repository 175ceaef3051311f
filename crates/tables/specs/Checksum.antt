-- The checksum by which programs over tables show all of a memory in one number.
use Rattle.std.specs.Prelude.{List, [], ◌∷◌, ◌≡◌, ℕ, ◌+◌, ◌*◌, ◌%◌}
use Rattle.std.specs.List.{FoldsTo}
use Rattle.std.proofs.Common.{sym, ap, ◌∙◌}

-- with one number more
abbrev pub mixing : ℕ → ℕ → ℕ
mixing sum v = (sum * 31 + v) % 4294967296

-- with all of these, one behind the other
unfoldable pub checksum : ℕ → List ℕ → ℕ
checksum sum [] = sum
checksum sum (v ∷ vs) = checksum (mixing sum v) vs

-- the same of what stands for the numbers, where `gives` says which number each stands for
abbrev pub ChecksumBy : {A : Type 0} → (A → ℕ → Type 0) → ℕ → List A → ℕ → Type 0
ChecksumBy gives sum vs result = FoldsTo (λ so_far v more. (number : ℕ) × gives v number × (more ≡ mixing so_far number)) sum vs result

-- where each stands for itself, as bytes and numbers of 16 and of 32 bits do, that is their checksum
pub at_numbers : (sum : ℕ) (vs : List ℕ) (result : ℕ) → ChecksumBy (λ v number. number ≡ v) sum vs result → result ≡ checksum sum vs
unfolding checksum
at_numbers sum [] result is = sym is
at_numbers sum (v ∷ vs) result (more, (number, same, mixed), rest) = at_numbers more vs result rest ∙ ap (λ s. checksum s vs) (mixed ∙ ap (mixing sum) same)
