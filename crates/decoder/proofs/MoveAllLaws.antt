-- One check's new copies and offsets, and the bits' sums with them: what they ask of 32-bit words, and the loop that leaves them, place by place.
-- Assumes nothing.
use mathlib.Core.Path.{◌≡◌, sym, ◌∙◌, ap, ap₂, subst}
use mathlib.Core.Bool.{Bool}
use mathlib.Core.List.{List}
use Prim.Native.Nat.{ℕ, ◌+◌, ◌/◌, ◌%◌, ◌^◌, ◌≤◌, ◌<◌}
use native.Mathlib.Omega.{arith}
use lib.Dec.{eqb}
use lib.ListN.{length, get_or, set}
use lib.IntN.{ℤ, pos, ◌+ℤ◌, ◌-ℤ◌}
use mir.Syntax.{w32}
use mir.Val.{SFits, to_z}
use Rattle.rules.specs.Limits.{value_limit, weight_limit, unit, step_limit}
use Rattle.integers.specs.Linear.{lin, arith_z, Within}
use Rattle.rules.specs.Table.{at}
use Rattle.rules.specs.Mask.{set_of}
use Rattle.integers.specs.Clip.{clip-within}
use Rattle.rules.specs.Step.{move, minus}
use Rattle.rules.specs.Scatter.{Added}
use Rattle.rules.proofs.Duality.{below_at}
use Rattle.rules.proofs.Optimal.{within-at}
use Rattle.rules.proofs.Steps.{minus-length, minus-at}
use Rattle.rules.proofs.SumLaws.{added_none, added-fits, added_more, added-all}
use Rattle.rules.proofs.FillLaws.{fill, fill_none, fill-length, fill-at, fill_more, fill-all}
use Rattle.decoder.specs.Stepped.{new_copies, new_offsets, MoveFits, Moved}
use Rattle.decoder.proofs.MaskLaws.{set_at, set-alike}
use Rattle.decoder.proofs.StepListLaws.{moves-length, moves-at}
use mir.Facts.{to_z_pos}

pub offset-fits : (v z : ℤ) → Within value_limit v → Within unit z → SFits w32 (v -ℤ z)
offset-fits v z = simp lin (omega arith_z)

-- ---- how the loop stands: i places are done
-- each member's z − y
abbrev pub weights_of : ℕ → ℕ → List ℤ → List ℤ
weights_of b m v = minus (new_copies b m v) (new_offsets b m v)

pub record Moving (b m : ℕ) (ms : List ℕ) (z₀ v x₀ : List ℤ) (i : ℕ) (z y x : List ℤ) : Type 0 where
  pub few : i ≤ length v
  pub copies : z ≡ fill i (new_copies b m v) z₀
  pub offsets : y ≡ fill i (new_offsets b m v) v
  pub sums : Added ms (weights_of b m v) x₀ i x

-- z − y of a value that is moved to z within the unit
weight-small : (v c w : ℤ) → Within value_limit v → Within unit c → w ≡ v -ℤ c → Within weight_limit (c -ℤ w)
weight-small v c w = simp lin (omega arith_z)

weight-word : (w : ℤ) → Within weight_limit w → SFits w32 w
weight-word w = simp lin (omega arith_z)

module _ (b m : ℕ) (v : List ℤ) where
  copies-long : length (new_copies b m v) ≡ length v
  copies-long = moves-length unit b (set_of (length v) m) v (set-alike v m)

  offsets-long : length (new_offsets b m v) ≡ length v
  offsets-long = minus-length v (new_copies b m v) (sym copies-long)

  weights-long : length (weights_of b m v) ≡ length v
  weights-long = minus-length (new_copies b m v) (new_offsets b m v) (copies-long ∙ sym offsets-long) ∙ copies-long

module _ {b m : ℕ} {ms : List ℕ} {z₀ v x₀ : List ℤ} (f : MoveFits b ms z₀ v x₀) where
  pub moving-first : Moving b m ms z₀ v x₀ 0 z₀ v x₀
  moving-first = record { few = omega arith; copies = sym (fill_none (new_copies b m v) z₀); offsets = sym (fill_none (new_offsets b m v) v); sums = added_none f.room }

  module _ {i : ℕ} {z y x : List ℤ} (g : Moving b m ms z₀ v x₀ i z y x) where
    pub moving-long : (length z ≡ length v) × (length y ≡ length v) × (length x ≡ length x₀)
    moving-long = (
      ap length g.copies ∙ fill-length i (new_copies b m v) z₀ ∙ f.copies_long,
      ap length g.offsets ∙ fill-length i (new_offsets b m v) v,
      g.sums.long,
    )

    -- the value at i still stands there
    pub moving-at : at y i ≡ at v i
    moving-at = ap (λ l. at l i) g.offsets ∙ fill-at i (new_offsets b m v) v (pos 0)

    -- and its member has a sum
    pub inside : i < length v → get_or ms i 0 < length x
    inside h = subst (λ n. get_or ms i 0 < n) (sym g.sums.long) (below_at (length x₀) ms i (omega (arith, f.members_long)) f.below)

    -- it goes to c, and its offset is w
    module _ {t : Bool} {c w : ℤ} (h : i < length v) (d : t ≡ eqb (m / 2 ^ i % 2) 1) (e : c ≡ move unit b t (at v i)) (k : w ≡ at v i -ℤ c) where
      copy : c ≡ at (new_copies b m v) i
      copy = e ∙ ap (λ s. move unit b s (at v i)) (d ∙ sym (set_at (length v) m i h)) ∙ sym (moves-at unit b (set_of (length v) m) v i (set-alike v m) h)

      offset : w ≡ at (new_offsets b m v) i
      offset = k ∙ ap (λ a. at v i -ℤ a) copy ∙ sym (minus-at v (new_copies b m v) i h (omega (arith, copies-long b m v)))

      weight : c -ℤ w ≡ at (weights_of b m v) i
      weight = ap₂ ◌-ℤ◌ copy offset ∙ sym (minus-at (new_copies b m v) (new_offsets b m v) i (omega (arith, copies-long b m v)) (omega (arith, offsets-long b m v)))

      small : Within weight_limit (c -ℤ w)
      small = weight-small (at v i) c w (within-at value_limit v f.small i) (subst (Within unit) (sym e) (clip-within unit _)) k

      pub weight-fits : SFits w32 (c -ℤ w)
      weight-fits = weight-word (c -ℤ w) small

      -- its member's sum has room
      there : i < length ms
      there = omega (arith, f.members_long)

      held : Within weight_limit (at (weights_of b m v) i)
      held = subst (Within weight_limit) weight small

      pub sum_fits : SFits w32 (at x (get_or ms i 0) +ℤ (c -ℤ w))
      sum_fits = subst (λ n. SFits w32 (at x (get_or ms i 0) +ℤ n)) (sym weight) (added-fits g.sums there (omega (arith, weights-long b m v)) (inside h) held)

      pub moving-next : {z' y' x' : List ℤ} → z' ≡ set z i c → y' ≡ set y i w → x' ≡ set x (get_or ms i 0) (at x (get_or ms i 0) +ℤ (c -ℤ w)) → Moving b m ms z₀ v x₀ (i + 1) z' y' x'
      moving-next {z'} {y'} {x'} p q r = record {
        few = omega arith;
        copies = p ∙ fill_more i (new_copies b m v) z₀ z c (pos 0) (omega (arith, copies-long b m v)) copy g.copies;
        offsets = q ∙ fill_more i (new_offsets b m v) v y w (pos 0) (omega (arith, offsets-long b m v)) offset g.offsets;
        sums = subst (Added ms (weights_of b m v) x₀ (i + 1)) (sym r)
            (added_more g.sums there (omega (arith, weights-long b m v)) (inside h) held (ap (λ n. at x (get_or ms i 0) +ℤ n) weight));
      }

    pub moving-last : length v ≤ i → Moved b m ms v x₀ z y x
    moving-last h = record {
      copies = g.copies ∙ fill-all i (new_copies b m v) z₀ (copies-long b m v ∙ sym f.copies_long) (omega (arith, f.copies_long, g.few));
      offsets = g.offsets ∙ fill-all i (new_offsets b m v) v (offsets-long b m v) (omega (arith, g.few));
      sums = added-all g.sums (omega (arith, f.members_long));
    }

-- No proof cites these any more, since the check finds what they say.
pub word-pos : (b : ℕ) → b ≤ step_limit → to_z w32 b ≡ pos b
word-pos b h = to_z_pos w32 (omega arith)

pub up_fits : (v : ℤ) (b : ℕ) → Within value_limit v → b ≤ step_limit → SFits w32 (v +ℤ pos b)
up_fits v b = simp lin (omega arith_z)

pub down_fits : (v : ℤ) (b : ℕ) → Within value_limit v → b ≤ step_limit → SFits w32 (v -ℤ pos b)
down_fits v b = simp lin (omega arith_z)
