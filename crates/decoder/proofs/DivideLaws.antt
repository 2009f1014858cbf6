-- Totals over their bits' degrees: all of one degree, and part by part. Assumes nothing.
use mathlib.Core.Path.{◌≡◌, sym, ◌∙◌, ap, ap₂}
use mathlib.Core.List.{List}
use Prim.Native.Nat.{ℕ, ◌+◌, ◌-◌, ◌≤◌, ◌<◌}
use native.Mathlib.Omega.{arith}
use lib.ListN.{length, get_or}
use lib.Seq.{ext_get_or}
use lib.IntN.{ℤ, pos}
use Rattle.rules.specs.Table.{at}
use Rattle.rules.specs.Round.{divided}
use Rattle.spin.specs.Totals.{common_degree, quotients_by, quotients}
use Rattle.spin.proofs.TotalsLaws.{common-at, quotients-length, quotients-at}
use Rattle.decoder.specs.Spins.{quotients_over}
use Rattle.decoder.specs.Parts.{part}
use Rattle.decoder.proofs.PlaceLaws.{first-same}
use Rattle.decoder.proofs.PartLaws.{part_length, part_at}

-- all bits of one degree
pub over-common : (ds : List ℕ) (ts : List ℤ) → (common_degree ds ≡ 0 → ⊥) → length ts ≡ length ds → quotients (common_degree ds) ts ≡ quotients_over ds ts
unfolding quotients_by
over-common ds ts f h = first-same (length ts) _ _ (λ i k. ap (divided (at ts i)) (sym (common-at ds i f (omega arith))))

-- a part of the totals over that part of the degrees
module _ (ds : List ℕ) (ts : List ℤ) (a e : ℕ) (h : e ≤ length ts) where
  part-long : length (part a e (quotients_over ds ts)) ≡ e - a
  part-long = part_length a e (quotients_over ds ts) (omega (arith, quotients-length (λ i. get_or ds i 0) ts))

  over-place : (i : ℕ) → i < e - a → at (quotients_over (part a e ds) (part a e ts)) i ≡ at (part a e (quotients_over ds ts)) i
  over-place i k = quotients-at _ (part a e ts) i (omega (arith, part_length a e ts h)) ∙ ap₂ divided (part_at a e ts i (pos 0) k) (part_at a e ds i 0 k)
      ∙ sym (part_at a e (quotients_over ds ts) i (pos 0) k ∙ quotients-at _ ts (a + i) (omega arith))

  pub over-part : quotients_over (part a e ds) (part a e ts) ≡ part a e (quotients_over ds ts)
  over-part = ext_get_or (pos 0) _ _ (quotients-length _ (part a e ts) ∙ part_length a e ts h ∙ sym part-long)
      (λ i k. over-place i (omega (arith, quotients-length (λ i. get_or (part a e ds) i 0) (part a e ts), part_length a e ts h)))
