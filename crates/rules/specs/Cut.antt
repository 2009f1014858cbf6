-- The cut search (document 01, "Parity inequalities and the cut search"; the depth: document 02, #101). Definitions only. Assumes nothing.
use Rattle.std.specs.Prelude.{Bool, true, false, not, cond, ◌&&◌, List, [], ◌∷◌, ℕ, ◌*◌, min, leb, get_or, ℤ, pos, negsuc, nat_abs, ◌-ℤ◌}
use Rattle.std.proofs.Math.Option.{Option, some, none}
use Rattle.std.specs.Int.Signed.{lt_z}
use Rattle.integers.specs.Linear.{up}
use Rattle.rules.specs.Limits.{unit}
use Rattle.rules.specs.Refusal.{Answer, refused, gives, then, Reply, reply_of}
use Rattle.rules.specs.Table.{at, values_at}
use Rattle.rules.specs.Parity.{odd, left}
use Rattle.rules.specs.Mask.{mask_of}
use Rattle.rules.specs.CodeFile.{code_file}
use Rattle.rules.specs.Input.{on_point, on_check}

-- "The known method: V is the negative spins"
abbrev pub is_neg : ℤ → Bool
is_neg (pos n) = false
is_neg (negsuc n) = true

abbrev pub negatives : List ℤ → List Bool
negatives [] = []
negatives (s ∷ ss) = is_neg s ∷ negatives ss

-- the smallest absolute spin
abbrev pub smallest : ℕ → List ℤ → ℕ
smallest u [] = u
smallest u (s ∷ ss) = min (nat_abs s) (smallest u ss)

-- "the member with smallest absolute spin changes sides, the first on a tie"
abbrev pub side_changed : ℕ → List ℤ → List Bool
side_changed u [] = []
side_changed u (s ∷ ss) = cond (leb (nat_abs s) (smallest u ss)) (not (is_neg s) ∷ negatives ss) (is_neg s ∷ side_changed u ss)

-- "if its size is even"
abbrev pub method : ℕ → List ℤ → List Bool
method u ss = cond (odd (negatives ss)) (negatives ss) (side_changed u ss)

-- an odd V whose left side is below 2U
abbrev pub violated : ℕ → List Bool → List ℤ → Bool
violated u vs ss = odd vs && lt_z (left u vs ss) (pos (2 * u))

abbrev pub keep : {A : Type 0} → Bool → A → Option A
keep true a = some a
keep false a = none

-- "It answers the violated V, or none"
unfoldable pub cut : ℕ → List ℤ → Option (List Bool)
cut u ss = keep (violated u (method u ss) ss) (method u ss)

-- "by how much the inequality falls short: 2U less the left side"; 0 where it holds
abbrev pub shortfall : ℕ → List Bool → List ℤ → ℕ
shortfall u vs ss = up (pos (2 * u) -ℤ left u vs ss)

-- the cut's; "0 for none"
abbrev pub depth_by : ℕ → List ℤ → Option (List Bool) → ℕ
depth_by u ss none = 0
depth_by u ss (some vs) = shortfall u vs ss

unfoldable pub depth : ℕ → List ℤ → ℕ
depth u ss = depth_by u ss (cut u ss)

-- a violated V, as a list or as a mask, and "beside the mask" its depth
pub record Violation (A : Type 0) : Type 0 where
  pub set : A
  pub depth : ℕ

abbrev pub with_depth : ℕ → List ℤ → List Bool → Violation (List Bool)
with_depth u ss vs = record { set = vs; depth = shortfall u vs ss }

-- "none still has no depth"
abbrev pub measured : ℕ → List ℤ → Option (List Bool) → Option (Violation (List Bool))
measured u ss none = none
measured u ss (some vs) = some (with_depth u ss vs)

unfoldable pub violation : ℕ → List ℤ → Option (Violation (List Bool))
violation u ss = measured u ss (cut u ss)

-- any code file, spins and check number: 1 to 7, 16, 17
unfoldable pub cut_search : List ℕ → List ℤ → ℕ → Answer (Option (Violation (List Bool)))
cut_search file s j = then (code_file file) (λ t. on_point t s (on_check t j (gives (violation unit (values_at (at s) (get_or t.checks j []))))))

-- the answer with V as a mask
abbrev pub mask_answer : Answer (Option (Violation (List Bool))) → Answer (Option (Violation ℕ))
mask_answer (refused k) = refused k
mask_answer (gives none) = gives none
mask_answer (gives (some v)) = gives (some (record { set = mask_of v.set; depth = v.depth }))

unfoldable pub cut_answer : List ℕ → List ℤ → ℕ → Answer (Option (Violation ℕ))
cut_answer file s j = mask_answer (cut_search file s j)

-- the values of the answer: the mask, then the depth, or nothing for none
abbrev pub cut_values : Option (Violation (List Bool)) → List ℤ
cut_values none = []
cut_values (some v) = pos (mask_of v.set) ∷ pos v.depth ∷ []

unfoldable pub cut_reply : List ℕ → List ℤ → ℕ → Reply
cut_reply file s j = reply_of cut_values (cut_search file s j)
