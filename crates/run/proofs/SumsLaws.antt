-- Comparing the sums: what the edges add to them, what each helper asks, and the test's answer. Assumes nothing.
use mathlib.Core.Path.{◌≡◌, refl, sym, ◌∙◌, ap, subst, ap₂}
use mathlib.Core.Bool.{Bool, true, false, ◌&&◌}
use mathlib.Core.List.{List}
use Prim.Native.Nat.{ℕ, ◌≤◌, ◌<◌, ◌+◌}
use native.Mathlib.Omega.{arith}
use lib.ListN.{length, take, replicate, length-replicate, drop, drop_of_length-le}
use lib.Seq.{length-take-le, drop-cons}
use lib.IntN.{ℤ, pos, ◌-ℤ◌}
use mir.Syntax.{w32}
use mir.Val.{SFits}
use Rattle.integers.specs.Linear.{lin, arith_z, Within}
use Rattle.integers.specs.Sum.{AllWithin}
use Rattle.rules.specs.Limits.{unit, max_bits, offset_limit, value_limit, weight_limit}
use Rattle.rules.specs.Table.{at}
use Rattle.rules.specs.Step.{minus}
use Rattle.rules.specs.Round.{sums_of, is_zero}
use Rattle.rules.specs.Buffers.{zeros}
use Rattle.rules.specs.Sound.{Below}
use Rattle.rules.specs.Scatter.{scatter, Room}
use Rattle.rules.specs.Run.{same}
use Rattle.rules.proofs.BufferLaws.{take-replicate}
use Rattle.rules.proofs.Optimal.{within-at}
use Rattle.rules.proofs.Steps.{minus-within, minus-length, minus-at}
use Rattle.rules.proofs.SumLaws.{zeros-room, scatter-sums}
use Rattle.std.specs.Bool.{Decides}
use Rattle.std.specs.Cmp.Lexicographic.{pointwise}
use Rattle.std.specs.Ordering.{int_eq}
use Rattle.std.proofs.lemmas.Bool.Decides.{Decides-int_eq}
use Rattle.std.proofs.lemmas.Slice.Eq.{slice_eq-Decides}
use Rattle.rules.proofs.RangeLaws.{same-equal, same-is}
use Rattle.run.specs.Sums.{EdgesFit, EdgesOf, Carried, Held, held_as}
use native.Mathlib.Numerals.{add-one}

-- ---- an edge's weight
weight-small : (z y : ℤ) → Within unit z → Within offset_limit y → SFits w32 (z -ℤ y)
weight-small z y = simp lin (omega arith_z)

wider : (x : ℤ) → Within value_limit x → Within weight_limit x
wider x = simp lin (omega arith_z)

module _ {ms : List ℕ} {z y x : List ℤ} (fit : EdgesFit ms z y x) where
  pub weights-long : length (minus z y) ≡ length ms
  weights-long = minus-length z y (fit.copies_long ∙ sym fit.offsets_long) ∙ fit.copies_long

  pub weight-at : (e : ℕ) → e < length ms → at (minus z y) e ≡ at z e -ℤ at y e
  weight-at e h = minus-at z y e (omega (arith, fit.copies_long)) (omega (arith, fit.offsets_long))

  pub weight-fits : (e : ℕ) → SFits w32 (at z e -ℤ at y e)
  weight-fits e = weight-small (at z e) (at y e) (within-at unit z fit.copies e) (within-at offset_limit y fit.offsets e)

  pub weight-within : (e : ℕ) → Within weight_limit (at (minus z y) e)
  weight-within e = wider (at (minus z y) e) (within-at value_limit (minus z y) (minus-within unit offset_limit z y fit.copies fit.offsets) e)

-- ---- a test of slices with `==` compares number by number
same-tested : (xs ys : List ℤ) (r : Bool) → r ≡ pointwise int_eq xs ys → r ≡ same xs ys
same-tested xs ys r e = go r (same xs ys) (slice_eq-Decides Decides-int_eq xs ys r e) refl
  where
    go : (r b : Bool) → Decides r (xs ≡ ys) → same xs ys ≡ b → r ≡ b
    go true b d f = sym (same-equal (d.0 refl)) ∙ f
    go false true d f = d.1 (same-is xs ys f)
    go false false d f = refl

-- ---- the comparison: the edges are added to zeros, as many as there are sums
module _ {ms : List ℕ} {z y x : List ℤ} (c : Carried ms z y x) where
  abbrev blank : List ℤ
  blank = take (length x) (replicate max_bits (pos 0))

  blank-is : blank ≡ zeros (length x)
  blank-is = take-replicate (length x) max_bits (pos 0) c.edges.bits

  fit-all : AllWithin unit z → AllWithin offset_limit y → EdgesFit ms z y (take (length x) (replicate max_bits (pos 0)))
  fit-all hz hy = record {
    below = subst (λ n. Below n ms) (sym (ap length blank-is ∙ length-replicate (length x) (pos 0))) c.edges.below;
    copies_long = c.copies_long;
    offsets_long = c.offsets_long;
    copies = hz;
    offsets = hy;
    room = subst (Room ms) (sym blank-is) (zeros-room (length x) ms c.edges.standing);
  }

  -- p is what they are then
  all-tested : {p : List ℤ} → p ≡ scatter ms (minus z y) (take (length x) (replicate max_bits (pos 0))) → (r : Bool) → r ≡ pointwise int_eq x p
      → r ≡ same x (sums_of (length x) ms (record { copies = z; offsets = y }))
  unfolding sums_of
  all-tested {p} e r f = same-tested x p r f ∙ ap (same x) (e ∙ ap (scatter ms (minus z y)) blank-is ∙ scatter-sums (length x) ms (minus z y))

  -- the same of the value h that shows these lists
  module _ {h : Held} (e : held_as ms z y x ≡ h) where
    pub edges_fit : AllWithin unit h.state.copies → AllWithin offset_limit h.state.offsets
        → EdgesFit h.members h.state.copies h.state.offsets (take (length x) (replicate max_bits (pos 0)))
    edges_fit = subst (λ h. AllWithin unit h.state.copies → AllWithin offset_limit h.state.offsets
        → EdgesFit h.members h.state.copies h.state.offsets (take (length x) (replicate max_bits (pos 0)))) e fit-all

    pub sums-tested : {p : List ℤ} → p ≡ scatter h.members (minus h.state.copies h.state.offsets) (take (length x) (replicate max_bits (pos 0)))
        → (r : Bool) → r ≡ pointwise int_eq x p → r ≡ same h.sums (sums_of (length h.sums) h.members h.state)
    sums-tested {p} = subst (λ h. p ≡ scatter h.members (minus h.state.copies h.state.offsets) (take (length x) (replicate max_bits (pos 0)))
        → (r : Bool) → r ≡ pointwise int_eq x p → r ≡ same h.sums (sums_of (length h.sums) h.members h.state)) e (all-tested {p = p})

-- ---- the first parts of what is lent
pub first-carried : (n e : ℕ) (ms : List ℕ) (z y x : List ℤ) → e ≤ length ms → EdgesOf n (take e ms) → e ≤ length z → e ≤ length y → n ≤ length x
    → Carried (take e ms) (take e z) (take e y) (take n x)
first-carried n e ms z y x hm edges hz hy hx = record {
  edges = subst (λ k. EdgesOf k (take e ms)) (sym (length-take-le n x hx)) edges;
  copies_long = length-take-le e z hz ∙ sym (length-take-le e ms hm);
  offsets_long = length-take-le e y hy ∙ sym (length-take-le e ms hm);
}

-- No proof cites these any more, since the check finds what they say.
module _ (xs ys : List ℤ) (i : ℕ) (h : same (drop i xs) (drop i ys) ≡ same xs ys) where
  pub same-all : length xs ≡ length ys → length xs ≤ i → true ≡ same xs ys
  same-all e k = sym (ap₂ same (drop_of_length-le xs k) (drop_of_length-le ys {i = i} (omega arith))) ∙ h

  module _ (k : i < length xs) (j : i < length ys) where
    next : same (drop i xs) (drop i ys) ≡ is_zero (at xs i -ℤ at ys i) && same (drop (i + 1) xs) (drop (i + 1) ys)
    next = ap₂ same (drop-cons xs i (pos 0) k) (drop-cons ys i (pos 0) j) ∙ ap (λ n. is_zero (at xs i -ℤ at ys i) && same (drop n xs) (drop n ys)) (sym (add-one i))

    test : (b : Bool) → is_zero (at xs i -ℤ at ys i) ≡ b → b && same (drop (i + 1) xs) (drop (i + 1) ys) ≡ same xs ys
    test b e = ap (λ a. a && same (drop (i + 1) xs) (drop (i + 1) ys)) (sym e) ∙ sym next ∙ h

    pub same_not : is_zero (at xs i -ℤ at ys i) ≡ false → false ≡ same xs ys
    same_not e = test false e

    pub same_more : is_zero (at xs i -ℤ at ys i) ≡ true → same (drop (i + 1) xs) (drop (i + 1) ys) ≡ same xs ys
    same_more e = test true e
