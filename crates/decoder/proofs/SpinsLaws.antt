-- The totals' room in 32 bits, and the spins that come of them. Assumes nothing.
use mathlib.Core.Path.{◌≡◌, sym, ◌∙◌, ap, subst}
use mathlib.Core.List.{List}
use Prim.Native.Nat.{ℕ, ◌<◌}
use lib.ListN.{length, get_or}
use lib.IntN.{ℤ, ◌+ℤ◌}
use mir.Syntax.{w32}
use mir.Val.{SFits}
use Rattle.integers.specs.Linear.{lin, arith_z, Within}
use Rattle.integers.specs.Clip.{clip_z}
use Rattle.rules.specs.Limits.{unit, frame_limit, sum_limit}
use Rattle.rules.specs.Table.{at}
use Rattle.rules.specs.Step.{clips}
use Rattle.rules.specs.Round.{divided, first_of}
use Rattle.rules.proofs.RoundSizes.{first-length, first-at}
use Rattle.spin.specs.Totals.{quotients_by}
use Rattle.decoder.specs.Spins.{SpinsFit, totals_of, quotients_over}
use Rattle.decoder.proofs.PlaceLaws.{first-same, clips-first}

pub total-fits : (a x : ℤ) → Within frame_limit a → Within sum_limit x → SFits w32 (a +ℤ x)
total-fits a x = simp lin (omega arith_z)

module _ {n : ℕ} {l : List ℤ} {ds : List ℕ} {x : List ℤ} (fit : SpinsFit n l ds x) where
  totals-long : length (totals_of l x) ≡ n
  totals-long = first-length (length x) _ ∙ fit.sums_long

  pub spins-are : clips unit (quotients_over ds (totals_of l x)) ≡ first_of n (λ i. clip_z unit (divided (at l i +ℤ at x i) (get_or ds i 0)))
  unfolding quotients_by
  spins-are = clips-first unit (length (totals_of l x)) _
      ∙ ap (λ k. first_of k (λ i. clip_z unit (divided (at (totals_of l x) i) (get_or ds i 0)))) totals-long
      ∙ first-same n _ _ (λ i h. ap (λ t. clip_z unit (divided t (get_or ds i 0))) (first-at (length x) (λ i. at l i +ℤ at x i) i (subst (λ k. i < k) (sym fit.sums_long) h)))
