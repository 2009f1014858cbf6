-- One check's step as the code takes it: from mask and depth of the cut to the multiplier, and to what the step leaves. Assumes nothing.
use mathlib.Core.Path.{◌≡◌, refl, sym, ◌∙◌, ap, ap₂, subst}
use mathlib.Core.List.{List, ◌++◌}
use mathlib.Core.Option.{some, none}
use Prim.Native.Nat.{ℕ, ◌≤◌}
use native.Mathlib.Decide.{ℕ_discrete}
use native.Mathlib.Omega.{arith}
use lib.ListN.{length, take, drop}
use lib.IntN.{ℤ}
use Rattle.integers.specs.Sum.{AllWithin}
use Rattle.rules.specs.Limits.{unit, offset_limit, step_limit, value_limit, max_degree}
use Rattle.rules.specs.Table.{at}
use Rattle.rules.specs.Sound.{Below}
use Rattle.rules.specs.Mask.{set_of}
use Rattle.rules.specs.Cut.{cut, depth}
use Rattle.rules.specs.Buffers.{over, multiplier_of}
use Rattle.rules.specs.Step.{clips, multiplier, minus, step_by, step}
use Rattle.rules.specs.Round.{values}
use Rattle.rules.proofs.BufferLaws.{over-exact, take_exact, over-length}
use Rattle.rules.proofs.Signs.{alike-length}
use Rattle.rules.proofs.CutRule.{Cuts, cut-sound}
use Rattle.rules.proofs.DepthLaws.{depth-cut, depth-none}
use Rattle.rules.proofs.Multiplier.{moves-zero}
use Rattle.rules.proofs.Optimal.{within-at}
use Rattle.rules.proofs.Pass.{values-within}
use Rattle.rules.proofs.Steps.{clips-alike}
use Rattle.std.specs.Prelude.{Result}
use Rattle.std.specs.Result.{IsOk}
use Rattle.limits.specs.declared.refusals.Refusal.{Refusal}
use Rattle.cut.specs.declared.Cut.{Cut}
use Rattle.cut.specs.CutMask.{cut_mask}
use Rattle.cut.specs.Reply.{seen_of}
use Rattle.cut.specs.Heights.{heights_of, highest, side_by, seen_to, seen_on, seen}
use Rattle.cut.proofs.MaskLaws.{mask-none, mask-some}
use Rattle.cut.proofs.SeeLaws.{seen-whole, seen-ok}
use Rattle.multiplier_search.specs.Lifted.{Rising, LeastAt, MultiplierOf}
use Rattle.decoder.specs.Stepped.{Stepped, stepped_to, summed, stepped_by, stepped_on, stepped, new_copies, StepFits, MoveFits, Moved}
use Rattle.decoder.proofs.MaskLaws.{set-alike}
use Rattle.multiplier_search.proofs.StartLaws.{heights-length, heights-few, rising, least-is}
use Rattle.decoder.proofs.PartLaws.{none_after}
use Rattle.decoder.proofs.StepListLaws.{values_length}

stepped-eq : {a a' b b' x x' : List ℤ} {c c' d d' e e' : ℕ} → a ≡ a' → b ≡ b' → x ≡ x' → c ≡ c' → d ≡ d' → e ≡ e' → stepped_to a b x c d e ≡ stepped_to a' b' x' c' d' e'
stepped-eq p q x r s t = λ i. stepped_to (p i) (q i) (x i) (r i) (s i) (t i)

-- ---- ms the members, xs the sums before, v the values, m the mask of their cut
module _ (ms : List ℕ) (xs v : List ℤ) (m : ℕ) (e : m ≡ cut_mask (cut unit (clips unit v))) where
  no_cut : m ≡ 0 → cut unit (clips unit v) ≡ none
  no_cut z = mask-none unit (clips unit v) (sym e ∙ z)

  some-cut : (m ≡ 0 → ⊥) → cut unit (clips unit v) ≡ some (set_of (length v) m)
  some-cut f = mask-some unit (clips unit v) m e f ∙ ap (λ n. some (set_of n m)) (alike-length v (clips unit v) (clips-alike unit v))

  pub multiplier-none : m ≡ 0 → 0 ≡ (stepped_on ms xs v).multiplier
  unfolding stepped_on step
  multiplier-none z = sym (ap (λ o. multiplier_of (step_by unit v o).entry) (no_cut z))

  pub multiplier-some : (m ≡ 0 → ⊥) → multiplier unit (set_of (length v) m) v ≡ (stepped_on ms xs v).multiplier
  unfolding stepped_on step
  multiplier-some f = sym (ap (λ o. multiplier_of (step_by unit v o).entry) (some-cut f))

  step_is : (b d : ℕ) (z y x : List ℤ) → b ≡ (stepped_on ms xs v).multiplier → d ≡ depth unit (clips unit v) → Moved b m ms v xs z y x → stepped_to z y x b m d ≡ stepped_on ms xs v
  unfolding stepped_on step
  step_is b d z y x eb ed moved = stepped-eq moved.copies moved.offsets moved.sums refl refl refl ∙ go (ℕ_discrete m 0)
    where
      -- what multiplier, mask and depth leave, with what they make of the copies
      with-copies : List ℤ → ℕ → ℕ → ℕ → Stepped
      with-copies z b k d = stepped_to z (minus v z) (summed ms z (minus v z) xs) b k d

      clipped : b ≡ 0 → new_copies b m v ≡ clips unit v
      clipped q = ap (λ n. new_copies n m v) q ∙ moves-zero unit (set_of (length v) m) v (set-alike v m)

      go : Dec (m ≡ 0) → with-copies (new_copies b m v) b m d ≡ stepped_by ms xs (step_by unit v (cut unit (clips unit v)))
      go (yes q) = ap₂ (λ z n. with-copies z n m d) (clipped (eb ∙ sym (multiplier-none q))) (eb ∙ sym (multiplier-none q))
          ∙ ap₂ (with-copies (clips unit v) 0) q (ed ∙ depth-none unit (clips unit v) (no_cut q))
          ∙ sym (ap (λ o. stepped_by ms xs (step_by unit v o)) (no_cut q))
      go (no f) = ap (λ n. with-copies (new_copies n m v) n m d) (eb ∙ sym (multiplier-some f))
          ∙ ap₂ (with-copies (new_copies (multiplier unit (set_of (length v) m) v) m v) (multiplier unit (set_of (length v) m) v)) (e ∙ ap cut_mask (some-cut f))
          (ed ∙ depth-cut unit (clips unit v) (set_of (length v) m) (some-cut f))
          ∙ sym (ap (λ o. stepped_by ms xs (step_by unit v o)) (some-cut f))

-- ---- the heights hs that the cut search leaves of the values v in the place of z, with the greatest of them
module _ (ms : List ℕ) (xs v z hs : List ℤ) (k m d : ℕ) (top : ℤ) (few : length v ≤ max_degree) (same : length z ≡ length v)
    (e : seen_to k m d top hs ≡ seen v z) where
  whole : seen_to k m d top hs ≡ seen_on v z
  whole = e ∙ sym (seen-whole v z few (omega arith))

  pub mask_is : m ≡ cut_mask (cut unit (clips unit v))
  unfolding seen_on
  mask_is = ap (λ s. s.mask) whole

  pub depth_is : d ≡ depth unit (clips unit v)
  unfolding seen_on
  depth_is = ap (λ s. s.depth) whole

  heights-long : length hs ≡ length z
  unfolding seen_on
  heights-long =
      let side = side_by (cut unit (clips unit v)) v in
      ap (λ s. length s.heights) whole ∙ over-length (heights_of side v) z (subst (λ n. length (heights_of side v) ≤ n) (sym same) (heights-few side v))

  -- a cut's
  module _ (f : m ≡ 0 → ⊥) where
    seen_by : side_by (cut unit (clips unit v)) v ≡ set_of (length v) m
    seen_by = ap (λ o. side_by o v) (some-cut ms xs v m mask_is f)

    pub heights-are : hs ≡ heights_of (set_of (length v) m) v
    unfolding seen_on
    heights-are = ap (λ s. s.heights) whole ∙ ap (λ b. over (heights_of b v) z) seen_by
        ∙ over-exact (heights_of (set_of (length v) m) v) z (heights-length (set_of (length v) m) v (set-alike v m) ∙ sym same)

    pub top-is : top ≡ highest (heights_of (set_of (length v) m) v)
    unfolding seen_on
    top-is = ap (λ s. s.top) whole ∙ ap (λ b. highest (heights_of b v)) seen_by

    cuts : Cuts unit (set_of (length v) m) (clips unit v)
    cuts = cut-sound unit (clips unit v) (set_of (length v) m) (some-cut ms xs v m mask_is f)

    pub heights-rise : AllWithin value_limit v → Rising hs top
    heights-rise w =
        let up = rising (set_of (length v) m) v few w (set-alike v m) cuts in
        subst (λ t. Rising hs t) (sym top-is) (subst (λ l. Rising l (highest (heights_of (set_of (length v) m) v))) (sym heights-are) up)

    pub least-multiplier-is : (b : ℕ) → AllWithin value_limit v → LeastAt hs b → b ≡ (stepped_on ms xs v).multiplier
    least-multiplier-is b w l = least-is (set_of (length v) m) v few w (set-alike v m) cuts b (subst (λ x. LeastAt x b) heights-are l) ∙ multiplier-some ms xs v m mask_is f

  pub multiplier-is : (b : ℕ) → AllWithin value_limit v → MultiplierOf m hs b → (b ≡ (stepped_on ms xs v).multiplier) × (b ≤ step_limit)
  multiplier-is b w l = go (ℕ_discrete m 0)
    where
      zero-small : b ≡ 0 → b ≤ step_limit
      zero-small q = omega arith

      go : Dec (m ≡ 0) → (b ≡ (stepped_on ms xs v).multiplier) × (b ≤ step_limit)
      go (yes q) = (l.none q ∙ multiplier-none ms xs v m mask_is q, zero-small (l.none q))
      go (no f) = (least-multiplier-is f b w (l.some f), (l.some f).bounded)

-- ---- what the calls of a step ask, and what it leaves: l is in the offsets' place
module _ (s : List ℤ) (ms : List ℕ) (z y x l : List ℤ) (fits : StepFits s ms z y x) (e : l ≡ values (at s) ms y) where
  long : length l ≡ length ms
  long = ap length e ∙ values_length (at s) ms y

  few : length l ≤ max_degree
  few = subst (λ n. n ≤ max_degree) (sym long) fits.few

  small : AllWithin value_limit l
  small = subst (AllWithin value_limit) (sym e) (values-within unit offset_limit (at s) ms y (within-at unit s fits.spins) fits.offsets)

  same : length z ≡ length l
  same = fits.copies_long ∙ sym long

  -- the cut search refuses nothing
  pub sees : (r : Result Cut Refusal) (hs : List ℤ) → seen_of r hs ≡ seen l z → IsOk r
  sees r hs h = seen-ok l z r hs h few (omega (arith, same))

  module _ (hs : List ℤ) (k m d : ℕ) (top : ℤ) (em : seen_to k m d top hs ≡ seen l z) where
    pub multiplier-asks : (m ≡ 0 → ⊥) → Rising hs top
    multiplier-asks f = heights-rise ms x l z hs k m d top few same em f small

    module _ (b : ℕ) (least : MultiplierOf m hs b) where
      pub move_asks : MoveFits b ms hs l x
      move_asks = record {
        bounded = (multiplier-is ms x l z hs k m d top few same em b small least).1;
        few = few;
        small = small;
        copies_long = heights-long ms x l z hs k m d top few same em ∙ same;
        members_long = sym long;
        below = subst (λ n. Below n ms) (sym fits.sums_long) fits.below;
        room = fits.room;
      }

      pub step_left : (z' y' x' : List ℤ) → Moved b m ms l x z' y' x' → stepped_to z' y' x' b m d ≡ stepped (at s) ms y x
      unfolding stepped
      step_left z' y' x' q = step_is ms x l m (mask_is ms x l z hs k m d top few same em) b d z' y' x' (multiplier-is ms x l z hs k m d top few same em b small least).0
          (depth_is ms x l z hs k m d top few same em) q ∙ ap (stepped_on ms x) e

-- ---- a check of degree n, by its first n places
module _ (n : ℕ) (s : List ℤ) (ms : List ℕ) (z y x : List ℤ) (e : length ms ≡ n) (f : StepFits s ms z y x) where
  all-members : take n ms ≡ ms
  all-members = take_exact n ms e

  all-copies : take n z ≡ z
  all-copies = take_exact n z (f.copies_long ∙ e)

  all-offsets : take n y ≡ y
  all-offsets = take_exact n y (f.offsets_long ∙ e)

  pub part-asks : StepFits s (take n ms) (take n z) (take n y) x
  part-asks = subst (λ l. StepFits s l (take n z) (take n y) x) (sym all-members)
      (subst (λ l. StepFits s ms l (take n y) x) (sym all-copies) (subst (λ l. StepFits s ms z l x) (sym all-offsets) f))

  pub part_left : (z' y' x' : List ℤ) (b m d : ℕ) → stepped_to z' y' x' b m d ≡ stepped (at s) (take n ms) (take n y) x
      → stepped_to (z' ++ drop n z) (y' ++ drop n y) x' b m d ≡ stepped (at s) ms y x
  part_left z' y' x' b m d h = stepped-eq (none_after n z' z (f.copies_long ∙ e)) (none_after n y' y (f.offsets_long ∙ e)) refl refl refl refl ∙ h
      ∙ ap₂ (λ l o. stepped (at s) l o x) all-members all-offsets
