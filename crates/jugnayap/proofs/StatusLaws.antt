-- The three statuses and their numbers. Assumes nothing.
use mathlib.Core.Path.{◌≡◌, refl, sym, ap}
use mathlib.Core.Option.{none}
use Prim.Native.Nat.{ℕ, zero, suc, ◌≤◌, ◌<◌}
use native.Mathlib.Omega.{arith}
use Rattle.rules.specs.Limits.{round_limit}
use Rattle.rules.specs.Run.{running, certified, spent, Progress}
use Rattle.jugnayap.specs.declared.JugnayapRun.{JugnayapRun}
use Rattle.jugnayap.specs.Numbers.{status_at, progress_by, run_after, run_numbers}

pub above-unknown : (s : ℕ) → 2 < s → status_at s ≡ none
above-unknown zero h = absurd (omega arith)
above-unknown (suc zero) h = absurd (omega arith)
above-unknown (suc (suc zero)) h = absurd (omega arith)
above-unknown (suc (suc (suc s))) h = refl

module _ (k s : ℕ) where
  pub progress-running : s ≡ 0 → record { rounds = k; status = running } ≡ progress_by k (status_at s)
  progress-running e = ap (λ x. progress_by k (status_at x)) (sym e)

  pub progress-certified : s ≡ 1 → record { rounds = k; status = certified } ≡ progress_by k (status_at s)
  progress-certified e = ap (λ x. progress_by k (status_at x)) (sym e)

  pub progress-spent : s ≡ 2 → record { rounds = k; status = spent } ≡ progress_by k (status_at s)
  progress-spent e = ap (λ x. progress_by k (status_at x)) (sym e)

  pub progress-unknown : (s ≡ 0 → ⊥) → (s ≡ 1 → ⊥) → (s ≡ 2 → ⊥) → record { rounds = round_limit; status = running } ≡ progress_by k (status_at s)
  progress-unknown f g h = ap (progress_by k) (sym (above-unknown s (omega arith)))

-- ---- the record that a call gives back
known-after : (s : ℕ) (h : JugnayapRun) (p : Progress) → s ≤ 2 → run_numbers p ≡ run_after (status_at s) h p
known-after zero h p e = refl
known-after (suc zero) h p e = refl
known-after (suc (suc zero)) h p e = refl
known-after (suc (suc (suc s))) h p e = absurd (omega arith)

pub after-known : (h : JugnayapRun) (p : Progress) → h.status ≤ 2 → run_numbers p ≡ run_after (status_at h.status) h p
after-known h p e = known-after h.status h p e

pub after-unknown : (h : JugnayapRun) (p : Progress) → 2 < h.status → h ≡ run_after (status_at h.status) h p
after-unknown h p e = ap (λ o. run_after o h p) (sym (above-unknown h.status e))
