-- What a part's answer says of its buffer, from how its elements were read. Assumes nothing.
use mathlib.Core.Path.{◌≡◌, sym, ◌∙◌, subst}
use mathlib.Core.List.{List, ◌++◌}
use Prim.Native.Nat.{ℕ, ◌≤◌}
use native.Mathlib.Omega.{arith}
use lib.ListN.{length, take, drop, length-append, length-drop}
use lib.Seq.{length-take-le, drop_at}
use Rattle.stream.specs.declared.Part.{Part}
use Rattle.stream.specs.declared.Part.TheVariants.{Missing, TooLong, Cut, Whole}
use Rattle.stream.specs.Numbers.{Read}
use Rattle.stream.specs.Parts.{stored, whole_size, Front, PartRead}

-- a size that was read has room
pub whole-fits : {s : Part} {room : ℕ} (n : ℕ) → stored s ≤ room → s ≡ Whole n → n ≤ room
whole-fits {room = room} n h e = subst (λ p. stored p ≤ room) e h

-- and so has a part that is whole
pub part-fits : {A : Type 0} {s : Part} {new old : List A} (n : ℕ) → PartRead s new old → s ≡ Whole n → n ≤ length new
part-fits n h e = let fits = whole-fits n h.fits e in omega (arith, h.size)

pub whole-within : {A : Type 0} (s : Part) {new old : List A} → PartRead s new old → whole_size s ≤ length new
whole-within Missing h = omega arith
whole-within TooLong h = omega arith
whole-within (Cut n) h = omega arith
whole-within (Whole n) h = omega (arith, h.fits, h.size)

pub front-stored : {A : Type 0} {k n : ℕ} {new old : List A} → k ≡ n → n ≤ length old → length new ≡ length old → drop n new ≡ drop n old → Front k new old
front-stored {new = new} {old = old} e fits size rest = subst (λ j. Front j new old) (sym e) (record { fits = fits; size = size; rest = rest })

-- ---- the first n elements are lent, and handed back as p
module _ {A : Type 0} (n : ℕ) (p old : List A) (h : n ≤ length old) (e : length p ≡ length (take n old)) where
  front_long : length p ≡ n
  front_long = e ∙ length-take-le n old h

  front_rest : drop n (p ++ drop n old) ≡ drop n old
  front_rest = drop_at p (drop n old) n front_long

  pub front_read : (r : ℕ) → r ≤ length p → Read r n (p ++ drop n old) old
  front_read r k = record { few = omega (arith, front_long); rest = front_rest }

  pub front-lent : {k : ℕ} → k ≡ n → Front k (p ++ drop n old) old
  front-lent j = front-stored j h (simp (length-append, length-drop) (omega (arith, front_long))) front_rest
