-- `add_spins` meets its contract: the first i places hold their values, and the others still the offsets. Assumes nothing.
use mathlib.Core.Path.{◌≡◌, sym, ◌∙◌, ap, ap₂, subst}
use mathlib.Core.List.{List}
use Prim.Native.Nat.{ℕ, ◌<◌}
use native.Mathlib.Omega.{arith}
use lib.ListN.{length, get_or}
use lib.IntN.{ℤ, pos, ◌+ℤ◌, +ℤ_comm}
use mir.Syntax.{w32}
use mir.Val.{SFits}
use mir.Facts.{to_z-of_z}
use Rattle.integers.specs.Linear.{lin, arith_z, Within}
use Rattle.integers.specs.Machine.{reads}
use Rattle.rules.specs.Limits.{unit, offset_limit}
use Rattle.rules.specs.Table.{at}
use Rattle.rules.proofs.Optimal.{within-at}
use Rattle.rules.proofs.Duality.{below_at}
use Rattle.rules.proofs.FillLaws.{fill, fill_none, fill-at, fill_more, fill-all}
use Rattle.spin.proofs.DividedParts.{wrap}
use Rattle.decoder.proofs.StepListLaws.{values_length, values-at}
use Rattle.decoder.proofs.step.add_spins.Goals as goal

-- the value as the code forms it of a spin s and of the offset y, which still stands at its place
module _ {s y o : ℤ} (h : Within unit s) (k : Within offset_limit y) (e : o ≡ y) where
  spin-fits : SFits w32 s
  spin-fits = simp lin (omega arith_z)

  offset-fits : SFits w32 y
  offset-fits = simp lin (omega arith_z)

  sum-fits : SFits w32 (s +ℤ y)
  sum-fits = simp lin (omega arith_z)

  value-is : wrap o +ℤ wrap s ≡ s +ℤ y
  value-is = ap₂ ◌+ℤ◌ (reads (subst (SFits w32) (sym e) offset-fits) e) (to_z-of_z spin-fits) ∙ +ℤ_comm y s

  value-fits : SFits w32 (wrap o +ℤ wrap s)
  value-fits = subst (SFits w32) (sym value-is) sum-fits

-- the offset at i still stands there
offset-is : (i : ℕ) (ts ys now : List ℤ) → now ≡ fill i ts ys → at now i ≡ at ys i
offset-is i ts ys now e = ap (λ l. at l i) e ∙ fill-at i ts ys (pos 0)

pub bounds-spins-members : goal.bounds-spins-members
bounds-spins-members c =
    let a = c.args in
    below_at (length a.spins.now) a.members.now c.loop-i.i (omega (arith, c.requires.0)) c.requires.1

pub overflow_add-offset : goal.overflow_add-offset
overflow_add-offset c =
    let a = c.args in
    let i = c.loop-i.i in
    value-fits (within-at unit a.spins.now c.requires.2 (get_or a.members.now i 0)) (within-at offset_limit a.offsets.now c.requires.3 i) (offset-is i _ _ _ c.loop-i.invariant)

pub loop-i-init : goal.loop-i-init
loop-i-init c = sym (fill_none _ _)

pub loop-i-preserved : goal.loop-i-preserved
loop-i-preserved c =
    let a = c.args in
    let i = c.loop-i.i in
    let inside : i < length a.members.now = omega (arith, c.requires.0) in
    let spin = within-at unit a.spins.now c.requires.2 (get_or a.members.now i 0) in
    let offset = within-at offset_limit a.offsets.now c.requires.3 i in
    let still = offset-is i _ _ _ c.loop-i.invariant in
    fill_more i _ _ _ _ (pos 0) (omega (arith, values_length (at a.spins.now) a.members.now a.offsets.now, inside))
    (reads (value-fits spin offset still) (value-is spin offset still) ∙ sym (values-at (at a.spins.now) a.members.now a.offsets.now i inside)) c.loop-i.invariant

pub returns : goal.returns
returns c =
    c.loop-i.invariant ∙ fill-all c.loop-i.i _ _ (values_length _ _ _ ∙ sym c.requires.0) (omega arith)
