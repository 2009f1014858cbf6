-- Small facts on Bool and Option. Assumes nothing.
use mathlib.Core.Path.{◌≡◌, refl, sym, ◌∙◌, ap}
use mathlib.Core.Bool.{Bool, true, false, not, ◌&&◌, ◌||◌, false≢true, true≢false, and_assoc, and-true}
use mathlib.Core.Option.{Option, some, none}
use Prim.Native.Nat.{ℕ}
use native.Mathlib.Omega.{arith}

pub none≢some : {A : Type 0} {a : A} → ◌≡◌ {A = Option A} none (some a) → ⊥
none≢some {a = a} e = let z : ◌≡◌ {A = ℕ} 0 1 = cc in omega arith

pub some_inj : {A : Type 0} (a b : A) → some a ≡ some b → a ≡ b
some_inj a b e = cc

pub and_both : (a b : Bool) → a && b ≡ true → (a ≡ true) × (b ≡ true)
and_both true b e = (refl, e)
and_both false b e = absurd (false≢true e)

pub and_first : (a b : Bool) → a && b ≡ true → a ≡ true
and_first a b e = (and_both a b e).0

pub and-rest : (a b : Bool) → a && b ≡ true → b ≡ true
and-rest a b e = (and_both a b e).1

-- ---- a loop that keeps whether all before were right, and has no early end
pub and-more : (all r rest more : Bool) {whole : Bool} → whole ≡ (r && rest) → more ≡ (all && r) → (all && whole) ≡ (more && rest)
and-more all r rest more e q = ap (λ b. all && b) e ∙ sym (and_assoc all r rest) ∙ ap (λ b. b && rest) (sym q)

pub and-end : (all : Bool) {rest : Bool} → rest ≡ true → (all && rest) ≡ all
and-end all e = ap (λ b. all && b) e ∙ and-true all

pub or-false : (a b : Bool) → a || b ≡ false → (a ≡ false) × (b ≡ false)
or-false true b e = absurd (true≢false e)
or-false false b e = (refl, e)

pub not_inj : (a b : Bool) → not a ≡ not b → a ≡ b
not_inj true true e = refl
not_inj true false e = sym e
not_inj false true e = sym e
not_inj false false e = refl
