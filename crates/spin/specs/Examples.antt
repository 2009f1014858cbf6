-- Degrees and totals, worked out. Assumes nothing.
use Rattle.std.specs.Prelude.{◌≡◌, refl, [], ◌∷◌, pos, negsuc}
use Rattle.rules.specs.Round.{divided}
use Rattle.spin.specs.Totals.{common_degree, quotients_by, quotients}

common-3 : common_degree (3 ∷ 3 ∷ 3 ∷ []) ≡ 3
unfolding common_degree
common-3 = refl

last-differs : common_degree (3 ∷ 3 ∷ 4 ∷ []) ≡ 0
unfolding common_degree
last-differs = refl

no_bits : common_degree [] ≡ 0
unfolding common_degree
no_bits = refl

-- halves away from zero: 10, −10 and 9 over 4
over-4 : quotients 4 (pos 10 ∷ negsuc 9 ∷ pos 9 ∷ []) ≡ pos 3 ∷ negsuc 2 ∷ pos 2 ∷ []
unfolding quotients_by divided
over-4 = refl

-- 5, −5, 1, −1 and −4 over 2
over-2 : quotients 2 (pos 5 ∷ negsuc 4 ∷ pos 1 ∷ negsuc 0 ∷ negsuc 3 ∷ []) ≡ pos 3 ∷ negsuc 2 ∷ pos 1 ∷ negsuc 0 ∷ negsuc 1 ∷ []
unfolding quotients_by divided
over-2 = refl

-- over no edge, which no bit of a table has: 0
over-0 : quotients 0 (pos 7 ∷ negsuc 6 ∷ pos 0 ∷ []) ≡ pos 0 ∷ pos 0 ∷ pos 0 ∷ []
unfolding quotients_by divided
over-0 = refl
