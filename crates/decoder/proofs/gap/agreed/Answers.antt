-- `agreed` meets its contract: the sum over the numbers so far, in 32 bits. Assumes nothing.
use Rattle.std.specs.Prelude.{Some}
use Rattle.std.proofs.lemmas.Slice.Zip.{zip_turn, zip_end}
use mathlib.Core.Path.{◌≡◌, refl, sym, ◌∙◌, ap, ap₂, subst}
use mathlib.Core.List.{List, [], ◌∷◌, ◌++◌}
use Prim.Native.Nat.{ℕ, ◌+◌, ◌*◌, ◌<◌}
use native.Mathlib.Omega.{arith}
use lib.ListN.{length, length-append}
use lib.IntN.{ℤ, pos, ◌+ℤ◌}
use mir.Syntax.{w16, w32, w64}
use mir.Val.{SFits, to_z, of_z}
use mir.Facts.{to_z-of_z}
use Rattle.integers.specs.Linear.{Within}
use Rattle.integers.specs.Order.{within_wider, within-add}
use Rattle.integers.specs.Machine.{fit, reads, fits-size}
use Rattle.integers.specs.Product.{nat_abs-≤}
use Rattle.integers.specs.Signed64.{sum-next}
use Rattle.integers.specs.Sum.{sum_to}
use Rattle.rules.specs.Limits.{max_bits, frame_size}
use Rattle.rules.specs.Table.{at, bit}
use Rattle.rules.specs.Parity.{turn, agreement}
use Rattle.rules.specs.Cut.{is_neg, negatives}
use Rattle.decoder.proofs.CandidateLaws.{negatives-at}
use Rattle.decoder.proofs.gap.agreed.Goals as goal

-- number k of the frame, on the side of its spin
abbrev turned_at : List ℤ → List ℤ → ℕ → ℤ
turned_at spins frame k = turn (bit (negatives spins) k) (at frame k)

-- the sum over i numbers with one more: how large it is, and what is read back from its 32 bits
module _ (i : ℕ) (before t : ℤ) (few : i < max_bits) (f : SFits w32 t) (sum : Within (frame_size * i) before) (small : Within frame_size t) where
  next-within : Within (frame_size * (i + 1)) (before +ℤ t)
  next-within =
      within_wider (frame_size * i + frame_size) (frame_size * (i + 1)) _ (omega arith) (within-add (frame_size * i) frame_size before t sum small)

  next-fits : SFits w32 (before +ℤ to_z w32 (of_z w32 t))
  next-fits = subst (λ z. SFits w32 (before +ℤ z)) (sym (to_z-of_z f)) (fits-size w32 _ (omega (arith, nat_abs-≤ (before +ℤ t) _ next-within)))

  next-reads : to_z w32 (of_z w32 (before +ℤ to_z w32 (of_z w32 t))) ≡ before +ℤ t
  next-reads = reads next-fits (ap (λ z. before +ℤ z) (to_z-of_z f))

-- this iteration's pair
turn-of : (c : goal.After-turned-sum) → let n = length c.loop-x.yielded in
    (n < length c.args.spins.now) × (c.in-Some.x.now ≡ at c.args.frame.now n) × (c.in-Some.spin.now ≡ at c.args.spins.now n)
turn-of c =
    let p = c.in-Some in
    let start = c.into_iter-x-iterator.result in
    let t = zip_turn c.args.frame.now c.args.spins.now c.loop-x.yielded start c.loop-x.x-iterator c.next.new.self (Some (p.x, p.spin)) (cc) (cc)
    c.loop-x.yielded_by (p.x, p.spin) refl p.ensures.steps in
    (t.1, t.2 (pos 0), t.3 (pos 0))

pub overflow_add-sum : goal.overflow_add-sum
overflow_add-sum c =
    let t = c.turned-sum in
    next-fits (length c.loop-x.yielded) _ _ (omega (arith, (turn-of c).0)) (fit w32 t.result t.type_inv) c.loop-x.invariant.1 t.ensures.1

pub loop-x-preserved : goal.loop-x-preserved
loop-x-preserved c =
    let spins = c.args.spins.now in
    let frame = c.args.frame.now in
    let loop = c.loop-x in
    let pair = c.in-Some in
    let n = length loop.yielded in
    let t = c.turned-sum in
    let fits = fit w32 t.result t.type_inv in
    let here = turn-of c in
    let few : n < max_bits = omega (arith, here.0) in
    let spin : to_z w32 (of_z w32 pair.spin.now) ≡ at spins n = to_z-of_z (fit w32 pair.spin.now (omega arith)) ∙ here.2 in
    let x : to_z w16 (of_z w16 pair.x.now) ≡ at frame n = to_z-of_z (fit w16 pair.x.now (omega arith)) ∙ here.1 in
    let is : t.result ≡ turned_at spins frame n =
    t.ensures.0 ∙ ap₂ (λ z y. turn (is_neg z) y) spin x ∙ ap (λ b. turn b (at frame n)) (sym (negatives-at spins n)) in
    let sum = next-reads n _ _ few fits loop.invariant.1 t.ensures.1 in
    let more : n + 1 ≡ length (loop.yielded ++ ((pair.x, pair.spin) ∷ [])) = sym (length-append loop.yielded ((pair.x, pair.spin) ∷ [])) in (
      sum ∙ ap₂ ◌+ℤ◌ loop.invariant.0 is ∙ sym (sum-next (turned_at spins frame) n) ∙ ap (λ k. sum_to k (turned_at spins frame)) more,
      subst (Within (frame_size * length (loop.yielded ++ ((pair.x, pair.spin) ∷ [])))) (sym sum)
          (subst (λ k. Within (frame_size * k) (to_z w32 loop.sum-bits +ℤ t.result)) more (next-within n _ _ few fits loop.invariant.1 t.ensures.1)),
    )

pub returns : goal.returns
unfolding agreement
returns c =
    let spins = c.args.spins.now in
    let frame = c.args.frame.now in
    let loop = c.loop-x in
    let start = c.into_iter-x-iterator in
    let n = length loop.yielded in
    let end-n = zip_end frame spins loop.yielded start.result loop.x-iterator c.next.new.self c.next.result (cc) (cc) loop.yielded_by c.in-None.is c.next.ensures.steps in
    let sum = to_z w32 loop.sum-bits in
    let all : n ≡ length spins = omega (arith, end-n) in
    let sum_fits : SFits w64 sum = fits-size w64 sum (omega (arith, nat_abs-≤ sum _ loop.invariant.1)) in
    let within = subst (Within (frame_size * n)) (sym (to_z-of_z sum_fits)) loop.invariant.1 in (
      reads sum_fits (loop.invariant.0 ∙ ap (λ k. sum_to k (turned_at spins frame)) all),
      within_wider (frame_size * n) (max_bits * frame_size) _ (omega arith) within,
    )
