-- Answers as the numbers of the C interface: a mask and its depth or none, and sizes, which fit them. Assumes nothing.
use mathlib.Core.Path.{◌≡◌, refl, sym, ◌∙◌, ap}
use mathlib.Core.Bool.{Bool, true, false, cond}
use mathlib.Core.List.{List, [], ◌∷◌}
use mathlib.Core.Option.{Option, some, none}
use Prim.Native.Nat.{ℕ, suc, ◌+◌, ◌≤◌, ◌<◌}
use native.Mathlib.Omega.{arith}
use lib.ListN.{length}
use lib.IntN.{ℤ, pos}
use mir.Val.{bool_byte}
use Rattle.rules.specs.Limits.{max_bits, max_checks, max_edges}
use Rattle.rules.specs.Refusal.{Answer, refused, gives, reply_of}
use Rattle.rules.specs.Table.{Table, checks_of, bits_at}
use Rattle.rules.specs.Parity.{odd, first_broken}
use Rattle.rules.specs.Mask.{digit}
use Rattle.rules.specs.CodeFile.{table_at, code_file_reply}
use Rattle.rules.specs.Input.{bits_of}
use Rattle.rules.specs.Bound.{Row, gap}
use Rattle.rules.specs.Certificate.{scale_of, items_of, rows_at}
use Rattle.rules.specs.Sole.{sole}
use Rattle.rules.specs.Judge.{breaks, passes, misses, weigh, verdict, judge}
use Rattle.rules.specs.Round.{is_zero}
use Rattle.rules.specs.Cut.{Violation, cut_search, mask_answer, cut_answer, cut_values, cut_reply}
use Rattle.rules.proofs.Tables.{file-sound}
use Rattle.rules.proofs.Judged.{judged}
use Rattle.table.proofs.AcceptedLaws.{readable}
use Rattle.jugnayap.specs.Numbers.{cut_from, mask_from}

-- ---- a mask and its depth, or none
cut-from : (a : Answer (Option (Violation (List Bool)))) → mask_from (mask_answer a) ≡ cut_from (reply_of cut_values a)
unfolding reply_of
cut-from (refused k) = refl
cut-from (gives none) = refl
cut-from (gives (some v)) = refl

pub cut-numbers : (file : List ℕ) (s : List ℤ) (j : ℕ) (a : Answer (Option (Violation ℕ))) → a ≡ cut_answer file s j → mask_from a ≡ cut_from (cut_reply file s j)
unfolding cut_answer cut_reply
cut-numbers file s j a e = ap mask_from e ∙ cut-from (cut_search file s j)

-- ---- n, m and E of an accepted file
pub record Small (n m e : ℕ) : Type 0 where
  pub bits : n ≤ max_bits
  pub checks : m ≤ max_checks
  pub edges : e ≤ max_edges

pub accepted-small : (file : List ℕ) (n m e : ℕ) → record { number = 0; values = pos n ∷ pos m ∷ pos e ∷ [] } ≡ code_file_reply file → Small n m e
accepted-small file n m e h =
    let r = readable file n m e h in
    record { bits = (file-sound file (table_at file n m) r.table).bits.1; checks = r.many; edges = r.few }

-- ---- the first broken check
at_front : (i j n : ℕ) → j ≡ i → j < i + suc n
at_front i j n e = omega arith

further : (i j n : ℕ) → j < suc i + n → j < i + suc n
further i j n h = omega arith

broken-below : (j i : ℕ) (w : List Bool) (cs : List (List ℕ)) → first_broken i w cs ≡ some j → j < i + length cs
broken-below j i w [] h = absurd (let z : ◌≡◌ {A = ℕ} 0 1 = cc in omega arith)
broken-below j i w (ms ∷ cs) h = go (odd (bits_at w ms)) h (broken-below j (suc i) w cs)
  where
    go : (b : Bool) → cond b (some i) (first_broken (suc i) w cs) ≡ some j → (first_broken (suc i) w cs ≡ some j → j < suc i + length cs) → j < i + suc (length cs)
    go true e f = at_front i j (length cs) (cc)
    go false e f = further i j (length cs) (f e)

weigh-breaks : (o : Option ℕ) (g : ℤ) (m : Bool) (j : ℕ) → weigh o g m ≡ breaks j → o ≡ some j
weigh-breaks (some i) g m j e = cc
weigh-breaks none g m j e = go (is_zero g) e
  where
    go : (b : Bool) → cond b (passes m) (misses g) ≡ breaks j → none ≡ some j
    go true e = absurd (let z : ◌≡◌ {A = ℕ} 0 1 = cc in omega arith)
    go false e = absurd (let z : ◌≡◌ {A = ℕ} 0 1 = cc in omega arith)

verdict-below : (t : Table) (s : ℕ) (l : List ℤ) (rs : List Row) (w : List Bool) (j : ℕ) → verdict t s l rs w ≡ breaks j → j < checks_of t
unfolding verdict
verdict-below t s l rs w j e =
    let below = broken-below j 0 w t.checks (weigh-breaks (first_broken 0 w t.checks) (gap t.bits s l rs w) (sole t.bits s l rs) j e) in
    omega arith

-- a mark as a number
pub mark-number : (b : Bool) → bool_byte b ≡ digit b
mark-number true = refl
mark-number false = refl

module _ (file : List ℕ) (l : List ℤ) (w bs : List ℕ) (j : ℕ) where
  pub broken-small : gives (breaks j) ≡ judge file l w bs → j < max_checks
  broken-small e =
      let d = judged file l w bs (breaks j) (sym e) in
      let few = (file-sound file d.table d.is_file).checks.1 in
      let below = verdict-below d.table (scale_of bs) l (rows_at d.table (items_of bs)) (bits_of w) j d.says in
      omega arith
