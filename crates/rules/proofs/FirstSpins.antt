-- Round 1 of a fresh run: a bit's spin is 0 exactly if twice its frame number's size is below its degree. Assumes nothing.
use mathlib.Core.Path.{◌≡◌, ◌∙◌, ap, sym}
use mathlib.Core.Logic.{◌↔◌}
use mathlib.Core.List.{List}
use Prim.Native.Nat.{ℕ, ◌*◌, ◌<◌, ◌≤◌}
use native.Mathlib.Omega.{arith}
use lib.IntN.{ℤ, pos, nat_abs, ◌+ℤ◌}
use Rattle.integers.specs.Linear.{lin, arith_z}
use Rattle.integers.specs.Clip.{clip_z, clip-zero}
use Rattle.rules.specs.Limits.{unit}
use Rattle.rules.specs.Table.{Table, edges, edges_of, degree_of, at}
use Rattle.rules.specs.Round.{State, total, divided, spin, round}
use Rattle.rules.specs.Buffers.{Buffers, zeros}
use Rattle.rules.specs.Run.{state_in}
use Rattle.rules.specs.Calls.{started_run}
use Rattle.rules.specs.Demand3.{FreshStart}
use Rattle.rules.proofs.DividedLaws.{divided-zero}
use Rattle.rules.proofs.Tables.{file-sound}
use Rattle.rules.proofs.RoundSizes.{first-at}
use Rattle.rules.proofs.Fresh.{zero-sum, started-state}

first-total : (ms : List ℕ) (l : List ℤ) (e i : ℕ) → total ms l (record { copies = zeros e; offsets = zeros e }) i ≡ at l i
unfolding total
first-total ms l e i = ap (λ x. at l i +ℤ x) (zero-sum i ms e) ∙ none-added (at l i)
  where
    none-added : (x : ℤ) → x +ℤ pos 0 ≡ x
    none-added x = simp lin (omega arith_z)

module _ (file : List ℕ) (t : Table) (b : Buffers) (f : FreshStart file t b) (l : List ℤ) (i : ℕ) (h : i < t.bits) where
  abbrev es : List ℕ
  es = edges t.checks

  abbrev first : State
  first = state_in t (started_run file b).buffers

  spin-is : at (round t l first).spins i ≡ clip_z unit (divided (at l i) (degree_of i es))
  unfolding round spin
  spin-is = first-at t.bits (spin unit es l first) i h
      ∙ ap (λ x. clip_z unit (divided x (degree_of i es))) (ap (λ s. total es l s i) (started-state file t b f) ∙ first-total es l (edges_of t) i)

  pub first-spin : (at (round t l first).spins i ≡ pos 0) ↔ (2 * nat_abs (at l i) < degree_of i es)
  first-spin =
      let zero-exactly = divided-zero (degree_of i es) ((file-sound file t f.is_table).standing i h).0 (at l i) in
      let clipped = clip-zero unit (omega arith) (divided (at l i) (degree_of i es)) in
      (λ e. zero-exactly.0 (clipped.0 (sym spin-is ∙ e)), λ k. spin-is ∙ clipped.1 (zero-exactly.1 k))

  -- so a frame number at least half its bit's degree in size moves
  pub first-moves : degree_of i es ≤ 2 * nat_abs (at l i) → at (round t l first).spins i ≡ pos 0 → ⊥
  first-moves k e = omega (arith, first-spin.0 e)
