-- Bytes, numbers, lengths and parts at a place: one lemma for each way through the code.
use mathlib.Core.Path.{◌≡◌, sym}
use mathlib.Core.List.{List}
use Prim.Native.Nat.{ℕ, ◌+◌, ◌-◌, ◌<◌, ◌≤◌}
use native.Mathlib.Nat.{sub_self, sub-eq-zero_of_le}
use native.Mathlib.Omega.{arith}
use borrow.Author.Tests.{le-leb, lt-leb, lt-ltb, le-ltb}
use lib.ListN.{length, get_or, drop, length-drop, drop_of_length-le, get_or-eq_default}
use lib.Seq.{drop-length, take-nil, take_all}
use Rattle.reading.specs.Reading.{got, refusal, ◌then◌, refuse◌at◌if◌else◌}
use Rattle.reading.specs.Bytes.{big_endian, byte_at, number_at, length_at}
use Rattle.reading.specs.Answer.{part_of}

module _ (s : List ℕ) (base e p : ℕ) where
  pub byte_past : {b : ℕ} → b ≡ base → e ≤ p → refusal (b + 1) e ≡ byte_at s base e p
  unfolding byte_at refuse◌at◌if◌else◌
  byte_past q h = simp (q, byte_at, refuse◌at◌if◌else◌, le-leb e p)

  pub byte_got : {v : ℕ} → v ≡ get_or s p 0 → p < e → got v (p + 1) ≡ byte_at s base e p
  unfolding byte_at refuse◌at◌if◌else◌
  byte_got q h = simp (q, byte_at, refuse◌at◌if◌else◌, lt-leb e p)

  pub number_past : {b : ℕ} → b ≡ base → e < p + 2 → refusal (b + 1) e ≡ number_at s base e p
  unfolding number_at refuse◌at◌if◌else◌
  number_past q h = simp (q, number_at, refuse◌at◌if◌else◌, lt-ltb e (p + 2))

  pub number-got : {v : ℕ} → v ≡ big_endian s p → p + 2 ≤ e → got v (p + 2) ≡ number_at s base e p
  unfolding number_at refuse◌at◌if◌else◌
  number-got q h = simp (q, number_at, refuse◌at◌if◌else◌, le-ltb e (p + 2))

  pub length-past : {b : ℕ} → b ≡ base → e < p + 2 → refusal (b + 1) e ≡ length_at s base e p
  unfolding length_at ◌then◌
  length-past q h = simp (length_at, ◌then◌, sym (number_past q h))

  pub length-far : {b v : ℕ} → b ≡ base → v ≡ big_endian s p → p + 2 ≤ e → e < p + 2 + v → refusal (b + 1) p ≡ length_at s base e p
  unfolding length_at ◌then◌ refuse◌at◌if◌else◌
  length-far {v = v} q n h far = simp (q, length_at, ◌then◌, sym (number-got n h), refuse◌at◌if◌else◌, lt-ltb e (p + 2 + v))

  pub length_got : {v : ℕ} → v ≡ big_endian s p → p + 2 + v ≤ e → got (p + 2 + v) (p + 2) ≡ length_at s base e p
  unfolding length_at ◌then◌ refuse◌at◌if◌else◌
  length_got {v} n h = simp (length_at, ◌then◌, sym (number-got n (omega arith)), refuse◌at◌if◌else◌, le-ltb e (p + 2 + v))

module _ (s : List ℕ) where
  pub number-none : (p : ℕ) → length s ≤ p → 0 ≡ big_endian s p
  number-none p h =
      let more : length s ≤ p + 1 = omega arith in
      simp (get_or-eq_default s 0 h, get_or-eq_default s 0 more)

  module _ (from to : ℕ) where
    pub part-past : length s ≤ from → part_of s (length s) (length s) ≡ part_of s from to
    part-past h = simp (drop-length, drop_of_length-le s h, take-nil)

    pub part_none : to ≤ from → part_of s (length s) (length s) ≡ part_of s from to
    part_none h = simp (sub_self, sub-eq-zero_of_le h)

    pub part_cut : length s < to → part_of s from (length s) ≡ part_of s from to
    part_cut h =
        let l = length-drop from s in
        simp (take_all (length s - from) (drop from s) (omega arith), take_all (to - from) (drop from s) (omega arith))
