-- Laws of bits and signs: a codeword turns the numbers under its ones, and each set on a check with them. Assumes nothing.
use mathlib.Core.Path.{◌≡◌, refl, sym, ◌∙◌, ap, ap₂}
use mathlib.Core.Bool.{Bool, true, false, not}
use mathlib.Core.List.{List, [], ◌∷◌}
use Prim.Native.Nat.{ℕ, zero, suc}
use native.Mathlib.Omega.{arith}
use lib.ListN.{length, get_or}
use lib.IntN.{ℤ, pos, ◌+ℤ◌, ◌-ℤ◌, neg_ℤ-neg_ℤ}
use Rattle.integers.specs.Linear.{lin, arith_z, Within}
use Rattle.integers.specs.Sum.{AllWithin}
use Rattle.integers.specs.Clip.{clip_z, clip-neg}
use Rattle.rules.specs.Parity.{◌⊕◌, turn, side, plus, turns, odd, Alike, left}

-- ---- bits
pub ⊕-assoc : (a b c : Bool) → (a ⊕ b) ⊕ c ≡ a ⊕ (b ⊕ c)
⊕-assoc true true true = refl
⊕-assoc true true false = refl
⊕-assoc true false c = refl
⊕-assoc false b c = refl

pub ⊕-swap : (a b c d : Bool) → (a ⊕ b) ⊕ (c ⊕ d) ≡ (a ⊕ c) ⊕ (b ⊕ d)
⊕-swap false b false d = refl
⊕-swap false false true d = refl
⊕-swap false true true true = refl
⊕-swap false true true false = refl
⊕-swap true true true true = refl
⊕-swap true true true false = refl
⊕-swap true true false true = refl
⊕-swap true true false false = refl
⊕-swap true false true true = refl
⊕-swap true false true false = refl
⊕-swap true false false d = refl

pub ⊕-zero : (a : Bool) → a ⊕ false ≡ a
⊕-zero true = refl
⊕-zero false = refl

pub ⊕-true : (a : Bool) → a ⊕ true ≡ not a
⊕-true true = refl
⊕-true false = refl

pub ⊕-twice : (a b : Bool) → a ⊕ (a ⊕ b) ≡ b
⊕-twice true true = refl
⊕-twice true false = refl
⊕-twice false b = refl

pub not-⊕ : (a b : Bool) → not a ⊕ b ≡ not (a ⊕ b)
not-⊕ true true = refl
not-⊕ true false = refl
not-⊕ false b = refl

pub ⊕-not : (a b : Bool) → a ⊕ not b ≡ not (a ⊕ b)
⊕-not true b = refl
⊕-not false b = refl

pub plus-zero : (cs : List Bool) → plus cs [] ≡ cs
plus-zero [] = refl
plus-zero (c ∷ cs) = refl

pub odd-plus : (cs vs : List Bool) → odd (plus cs vs) ≡ odd cs ⊕ odd vs
odd-plus [] vs = refl
odd-plus (c ∷ cs) [] = sym (⊕-zero (c ⊕ odd cs))
odd-plus (c ∷ cs) (v ∷ vs) = ap (λ t. (c ⊕ v) ⊕ t) (odd-plus cs vs) ∙ ⊕-swap c v (odd cs) (odd vs)

pub plus-twice : (cs vs : List Bool) → Alike cs vs → plus cs (plus cs vs) ≡ vs
plus-twice [] [] h = refl
plus-twice [] (v ∷ vs) h = refl
plus-twice (c ∷ cs) [] h = absurd h
plus-twice (c ∷ cs) (v ∷ vs) h = ap₂ ◌∷◌ (⊕-twice c v) (plus-twice cs vs h)

-- reading a place
pub bit-plus : (cs w : List Bool) (i : ℕ) → get_or (plus cs w) i false ≡ get_or cs i false ⊕ get_or w i false
bit-plus [] w zero = refl
bit-plus [] w (suc i) = refl
bit-plus (c ∷ cs) [] zero = sym (⊕-zero c)
bit-plus (c ∷ cs) [] (suc i) = sym (⊕-zero (get_or cs i false))
bit-plus (c ∷ cs) (b ∷ w) zero = refl
bit-plus (c ∷ cs) (b ∷ w) (suc i) = bit-plus cs w i

pub turn-zero : (c : Bool) → pos 0 ≡ turn c (pos 0)
turn-zero true = refl
turn-zero false = refl

pub at-turns : (cs : List Bool) (ss : List ℤ) (i : ℕ) → get_or (turns cs ss) i (pos 0) ≡ turn (get_or cs i false) (get_or ss i (pos 0))
at-turns [] ss zero = refl
at-turns [] ss (suc i) = refl
at-turns (c ∷ cs) [] zero = turn-zero c
at-turns (c ∷ cs) [] (suc i) = turn-zero (get_or cs i false)
at-turns (c ∷ cs) (s ∷ ss) zero = refl
at-turns (c ∷ cs) (s ∷ ss) (suc i) = at-turns cs ss i

-- ---- turning numbers
pub turn-turn : (c w : Bool) (x : ℤ) → turn (c ⊕ w) (turn c x) ≡ turn w x
turn-turn true true x = refl
turn-turn true false x = neg_ℤ-neg_ℤ x
turn-turn false w x = refl

pub turn_twice : (c : Bool) (x : ℤ) → turn c (turn c x) ≡ x
turn_twice true x = neg_ℤ-neg_ℤ x
turn_twice false x = refl

pub turns-twice : (cs : List Bool) (ss : List ℤ) → turns cs (turns cs ss) ≡ ss
turns-twice [] ss = refl
turns-twice (c ∷ cs) [] = refl
turns-twice (c ∷ cs) (s ∷ ss) = ap₂ ◌∷◌ (turn_twice c s) (turns-twice cs ss)

pub turn-sum : (c : Bool) (x y : ℤ) → turn c x +ℤ turn c y ≡ turn c (x +ℤ y)
turn-sum true x y = simp lin (omega arith_z)
turn-sum false x y = refl

pub turn-diff : (c : Bool) (x y : ℤ) → turn c x -ℤ turn c y ≡ turn c (x -ℤ y)
turn-diff true x y = simp lin (omega arith_z)
turn-diff false x y = refl

pub turn-within : (n : ℕ) (c : Bool) (x : ℤ) → Within n x → Within n (turn c x)
turn-within n true x = simp lin (omega arith_z)
turn-within n false x = λ h. h

pub turns-within : (n : ℕ) (cs : List Bool) (ss : List ℤ) → AllWithin n ss → AllWithin n (turns cs ss)
turns-within n [] ss h = h
turns-within n (c ∷ cs) [] h = h
turns-within n (c ∷ cs) (s ∷ ss) h = (turn-within n c s h.0, turns-within n cs ss h.1)

-- a turned number, seen from the turned side
pub side-turn : (c v : Bool) (x : ℤ) → side (c ⊕ v) (turn c x) ≡ side v x
side-turn true true x = neg_ℤ-neg_ℤ x
side-turn true false x = refl
side-turn false v x = refl

pub turn-side : (c v : Bool) (x : ℤ) → side (c ⊕ v) x ≡ turn c (side v x)
turn-side true true x = refl
turn-side true false x = sym (neg_ℤ-neg_ℤ x)
turn-side false v x = refl

pub left-turn : (u : ℕ) (cs vs : List Bool) (ss : List ℤ) → Alike cs ss → Alike vs ss → left u (plus cs vs) (turns cs ss) ≡ left u vs ss
left-turn u [] vs ss h k = refl
left-turn u (c ∷ cs) vs [] h k = absurd h
left-turn u (c ∷ cs) [] (s ∷ ss) h k = absurd k
left-turn u (c ∷ cs) (v ∷ vs) (s ∷ ss) h k = ap₂ (λ x y. (pos u +ℤ x) +ℤ y) (side-turn c v s) (left-turn u cs vs ss h k)

-- clipping is odd
pub clip-turn : (n : ℕ) (c : Bool) (z : ℤ) → clip_z n (turn c z) ≡ turn c (clip_z n z)
clip-turn n true z = clip-neg n z
clip-turn n false z = refl

-- ---- lengths
pub alike_refl : {A : Type 0} (xs : List A) → Alike xs xs
alike_refl [] = tt
alike_refl (x ∷ xs) = alike_refl xs

pub alike-sym : {A B : Type 0} (xs : List A) (ys : List B) → Alike xs ys → Alike ys xs
alike-sym [] [] h = tt
alike-sym [] (y ∷ ys) h = absurd h
alike-sym (x ∷ xs) [] h = absurd h
alike-sym (x ∷ xs) (y ∷ ys) h = alike-sym xs ys h

pub alike-trans : {A B C : Type 0} (xs : List A) (ys : List B) (zs : List C) → Alike xs ys → Alike ys zs → Alike xs zs
alike-trans [] [] [] h k = tt
alike-trans [] [] (z ∷ zs) h k = absurd k
alike-trans [] (y ∷ ys) zs h k = absurd h
alike-trans (x ∷ xs) [] zs h k = absurd h
alike-trans (x ∷ xs) (y ∷ ys) [] h k = absurd k
alike-trans (x ∷ xs) (y ∷ ys) (z ∷ zs) h k = alike-trans xs ys zs h k

pub alike-plus : {B : Type 0} (cs vs : List Bool) (ys : List B) → Alike cs ys → Alike vs ys → Alike (plus cs vs) ys
alike-plus [] vs ys h k = k
alike-plus (c ∷ cs) [] ys h k = h
alike-plus (c ∷ cs) (v ∷ vs) [] h k = absurd h
alike-plus (c ∷ cs) (v ∷ vs) (y ∷ ys) h k = alike-plus cs vs ys h k

pub alike-turns : {B : Type 0} (cs : List Bool) (ss : List ℤ) (ys : List B) → Alike ys ss → Alike ys (turns cs ss)
alike-turns [] ss ys h = h
alike-turns (c ∷ cs) [] ys h = h
alike-turns (c ∷ cs) (s ∷ ss) [] h = h
alike-turns (c ∷ cs) (s ∷ ss) (y ∷ ys) h = alike-turns cs ss ys h

pub alike-length : {A B : Type 0} (xs : List A) (ys : List B) → Alike xs ys → length ys ≡ length xs
alike-length [] [] h = refl
alike-length [] (y ∷ ys) h = absurd h
alike-length (x ∷ xs) [] h = absurd h
alike-length (x ∷ xs) (y ∷ ys) h = ap suc (alike-length xs ys h)

pub length-alike : {A B : Type 0} (xs : List A) (ys : List B) → length xs ≡ length ys → Alike xs ys
length-alike [] [] e = tt
length-alike [] (y ∷ ys) e = absurd (omega arith)
length-alike (x ∷ xs) [] e = absurd (omega arith)
length-alike (x ∷ xs) (y ∷ ys) e = length-alike xs ys (omega arith)
