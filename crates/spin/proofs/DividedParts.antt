-- The parts of a division as the code forms them: each fits 32 bits, and which number each is. Assumes nothing.
use mathlib.Core.Path.{◌≡◌, sym, ◌∙◌, ap, ap₂, subst}
use Prim.Native.Nat.{◌≤◌}
use lib.IntN.{ℤ, pos, neg_ℤ, nat_abs, ◌+ℤ◌, ◌-ℤ◌}
use lib.Signed.{quot_z, rem_z}
use mir.Syntax.{w32}
use mir.Val.{SFits, to_z, of_z}
use mir.Facts.{to_z-of_z}
use Rattle.integers.specs.Linear.{lin, arith_z, Within}
use Rattle.integers.specs.Division.{div_z}
use Rattle.integers.specs.Machine.{known, reads, op_fits, quot_fits, quot-div, rem-fits}
use Rattle.rules.specs.Round.{divided}
use Rattle.spin.specs.Spin.{Degree, Remainder, lacks}
use Rattle.spin.proofs.SpinLaws.{degree-is, degree-some, degree-few, left, remainder-is, rounded, raised-fits, rounded-fits, left-small}

-- a number in 32 bits, read back
abbrev pub wrap : ℤ → ℤ
wrap z = to_z w32 (of_z w32 z)

-- what the halves are found by: twice a remainder, and a degree negated
module _ {r d : ℤ} (h : Remainder r d) where
  pub twice-reads : SFits w32 r → wrap (wrap r +ℤ wrap r) ≡ r +ℤ r
  twice-reads f =
      let fits : SFits w32 (wrap r +ℤ wrap r) = simp lin (omega (arith_z, known f, h.small)) in
      reads fits (ap (λ z. z +ℤ z) (to_z-of_z f))

  pub minus-reads : SFits w32 d → wrap (pos 0 -ℤ wrap d) ≡ pos 0 -ℤ d
  minus-reads f =
      let fits : SFits w32 (pos 0 -ℤ wrap d) = simp lin (omega (arith_z, known f, simp lin at h.degree.few)) in
      reads fits (ap (λ z. pos 0 -ℤ z) (to_z-of_z f))

module _ (t d : ℤ) (total : SFits w32 t) (degree : SFits w32 d) (g : Degree d) where
  abbrev quotient : ℤ
  quotient = quot_z (wrap t) (wrap d)

  abbrev rest : ℤ
  rest = rem_z (wrap t) (wrap d)

  some : 1 ≤ nat_abs d
  some = degree-some g

  d-is : wrap d ≡ pos (nat_abs d)
  d-is = to_z-of_z degree ∙ degree-is g

  quotient-fits : SFits w32 quotient
  quotient-fits = simp (to_z-of_z, total, degree) (quot_fits w32 t d total g.some)

  quotient-is : wrap quotient ≡ div_z t (nat_abs d)
  quotient-is = reads quotient-fits (ap₂ quot_z (to_z-of_z total) (to_z-of_z degree) ∙ quot-div t d g.some)

  rest-fits : SFits w32 rest
  rest-fits = rem-fits w32 (wrap t) (wrap d) (subst (SFits w32) (sym (to_z-of_z total)) total)

  left_is : wrap rest ≡ left t (nat_abs d)
  left_is = reads rest-fits (ap₂ rem_z (to_z-of_z total) (to_z-of_z degree) ∙ remainder-is t d)

  pub remainder : Remainder (wrap rest) (wrap d)
  remainder = record {
    degree = subst Degree (sym (to_z-of_z degree)) g;
    small = subst (Within 65535) (sym left_is) (left-small (nat_abs d) some 65535 (degree-few g) t);
  }

  -- with what the halves above and below add
  module _ (above below : ℤ) (a : SFits w32 above) (b : SFits w32 below) (p : above ≡ lacks (wrap rest) (wrap d)) (q : below ≡ lacks (neg_ℤ (wrap rest)) (wrap d)) where
    above-is : wrap above ≡ lacks (left t (nat_abs d)) (pos (nat_abs d))
    above-is = to_z-of_z a ∙ p ∙ ap₂ lacks left_is d-is

    below-is : wrap below ≡ lacks (neg_ℤ (left t (nat_abs d))) (pos (nat_abs d))
    below-is = to_z-of_z b ∙ q ∙ ap₂ (λ r d. lacks (neg_ℤ r) d) left_is d-is

    sum_fits : SFits w32 (wrap quotient +ℤ wrap above)
    sum_fits = op_fits w32 ◌+ℤ◌ quotient-is above-is (raised-fits (nat_abs d) some w32 t total)

    result-is : wrap (wrap quotient +ℤ wrap above) -ℤ wrap below ≡ divided t (nat_abs d)
    result-is = ap₂ ◌-ℤ◌ (reads sum_fits (ap₂ ◌+ℤ◌ quotient-is above-is)) below-is ∙ rounded (nat_abs d) some t

    pub result-fits : SFits w32 (wrap (wrap quotient +ℤ wrap above) -ℤ wrap below)
    result-fits = subst (SFits w32) (sym result-is) (rounded-fits (nat_abs d) some w32 t total)

    pub result-right : wrap (wrap (wrap quotient +ℤ wrap above) -ℤ wrap below) ≡ divided t (nat_abs d)
    result-right = reads result-fits result-is

  pub raised-narrow : (above : ℤ) → SFits w32 above → above ≡ lacks (wrap rest) (wrap d) → SFits w32 (wrap quotient +ℤ wrap above)
  raised-narrow above a p = op_fits w32 ◌+ℤ◌ quotient-is (to_z-of_z a ∙ p ∙ ap₂ lacks left_is d-is) (raised-fits (nat_abs d) some w32 t total)
