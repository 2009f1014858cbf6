-- The degree of each bit: one member more, and the test of all bits. Assumes nothing.
use mathlib.Core.Path.{◌≡◌, refl, sym, ◌∙◌, ap, ap₂}
use mathlib.Core.Bool.{Bool, true, false, cond, ◌&&◌}
use mathlib.Core.List.{List, [], ◌∷◌}
use Prim.Native.Nat.{ℕ, zero, suc, ◌+◌, ◌*◌, ◌-◌, ◌≤◌, ◌<◌, zero-le}
use native.Mathlib.Omega.{arith}
use native.Mathlib.Nat.{sub-eq-zero_of_le}
use lib.Dec.{eqb}
use lib.ListN.{length, get_or, set, replicate, get_or-replicate, length-set}
use lib.Seq.{get_or-set_same, get_or-set_other}
use borrow.Author.Tests.{eqb-true, eqb-false, ne_eqb}
use Rattle.std.proofs.lemmas.List.{get_or-take, length-take-le}
use Rattle.integers.specs.Count.{first-in, rest_in, left-more}
use Rattle.rules.specs.Limits.{max_bits, max_bit_degree}
use Rattle.rules.specs.Bytes.{u16_at}
use Rattle.rules.specs.Table.{degree_of}
use Rattle.rules.specs.CodeFile.{in_range, numbers_at, bits_right}
use Rattle.rules.proofs.Basics.{and-more, and-end}
use Rattle.table.proofs.BodiesLaws.{numbers_from, numbers_more, numbers-end, numbers-all}
use Rattle.rules.proofs.FileLaws.{numbers-length}

-- ---- counting
one_more : (b : Bool) (x y : ℕ) → x ≤ y → cond b 1 0 + x ≤ suc y
one_more true x y h = omega arith
one_more false x y h = omega arith

pub degree-length : (i : ℕ) (ms : List ℕ) → degree_of i ms ≤ length ms
degree-length i [] = zero-le
degree-length i (m ∷ ms) = one_more (eqb m i) (degree_of i ms) (length ms) (degree-length i ms)

pub degree-most : (i : ℕ) (file : List ℕ) (a k : ℕ) → degree_of i (numbers_at file a k) ≤ k
degree-most i file a k = omega (arith, degree-length i (numbers_at file a k), numbers-length file a k)

-- l has counted, for each bit, those of all members that stand before the rest
abbrev pub Counted : List ℕ → List ℕ → List ℕ → Type 0
Counted l rest all = (length l ≡ max_bits) × ((i : ℕ) → i < max_bits → get_or l i 0 + degree_of i rest ≡ degree_of i all)

module _ (l : List ℕ) (x : ℕ) (all rest : List ℕ) (h : (i : ℕ) → i < max_bits → get_or l i 0 + degree_of i (x ∷ rest) ≡ degree_of i all) (i : ℕ) (hi : i < max_bits) where
  one : x < length l → (b : Bool) → eqb x i ≡ b → get_or (set l x (get_or l x 0 + 1)) i 0 + degree_of i rest ≡ degree_of i all
  one hx true t =
      let e : x ≡ i = eqb-true x i t in
      let v : get_or (set l x (get_or l x 0 + 1)) i 0 ≡ get_or l x 0 + 1 = ap (λ k. get_or (set l x (get_or l x 0 + 1)) k 0) (sym e) ∙ get_or-set_same l x (get_or l x 0 + 1) 0 hx in
      omega (arith, v, ap (λ k. get_or l k 0) e, rw t at (h i hi))
  one hx false t = omega (arith, get_or-set_other l x i (get_or l x 0 + 1) 0 (λ e. eqb-false x i t (sym e)), rw t at (h i hi))

  tally-more : x < length l → get_or (set l x (get_or l x 0 + 1)) i 0 + degree_of i rest ≡ degree_of i all
  tally-more hx = one hx (eqb x i) refl

  tally-skip : max_bits ≤ x → get_or l i 0 + degree_of i rest ≡ degree_of i all
  tally-skip hx =
      let t : eqb x i ≡ false = ne_eqb x i (λ e. omega arith) in
      omega (arith, rw t at (h i hi))

module _ (l new rest all : List ℕ) (x : ℕ) (h : Counted l (x ∷ rest) all) where
  pub counted-more : x < max_bits → new ≡ set l x (get_or l x 0 + 1) → Counted new rest all
  counted-more hx e =
      let inside : x < length l = omega (arith, h.0) in
      (ap length e ∙ length-set l x (get_or l x 0 + 1) ∙ h.0, λ i hi. ap (λ n. get_or n i 0 + degree_of i rest) e ∙ tally-more l x all rest h.1 i hi inside)

  pub counted_skip : max_bits ≤ x → new ≡ l → Counted new rest all
  counted_skip hx e = (ap length e ∙ h.0, λ i hi. ap (λ n. get_or n i 0 + degree_of i rest) e ∙ tally-skip l x all rest h.1 i hi hx)

pub counted-at : (l file all : List ℕ) (at e k x : ℕ) → k < e → x ≡ u16_at file (at + 2 * k) → Counted l (numbers_from file at e k) all
    → Counted l (x ∷ numbers_from file at e (k + 1)) all
counted-at l file all at e k x h q p =
    let rest = numbers_from file at e (k + 1) in
    let same : numbers_from file at e k ≡ x ∷ rest = numbers_more file at e k h ∙ ap (λ y. y ∷ rest) (sym q) in
    (p.0, λ i hi. ap (λ ms. get_or l i 0 + degree_of i ms) (sym same) ∙ p.1 i hi)

pub counted_none : (file : List ℕ) (at e : ℕ) → Counted (replicate max_bits 0) (numbers_from file at e 0) (numbers_at file at e)
counted_none file at e = (refl, λ i h. omega (arith, get_or-replicate {A = ℕ} max_bits i 0 0 h, ap (degree_of i) (numbers-all file at e)))

pub counted-end : (l file all : List ℕ) (at e k : ℕ) → e ≤ k → Counted l (numbers_from file at e k) all → (i : ℕ) → i < max_bits → get_or l i 0 ≡ degree_of i all
counted-end l file all at e k h p i hi = omega (arith, p.1 i hi, ap (degree_of i) (numbers-end file at e k h))

-- ---- the test
bits-cons : (f : ℕ → ℕ) (i k : ℕ) → bits_right f i (suc k) ≡ (in_range 1 max_bit_degree (f i) && bits_right f (i + 1) k)
unfolding bits_right
bits-cons f i k = refl

pub bits-more : (f : ℕ → ℕ) (n i d : ℕ) → i < n → d ≡ f i → (all more : Bool) → more ≡ (all && in_range 1 max_bit_degree d)
    → (all && bits_right f i (n - i)) ≡ (more && bits_right f (i + 1) (n - (i + 1)))
bits-more f n i d h e all more q =
    let rest = bits_right f (i + 1) (n - (i + 1)) in
    and-more all (in_range 1 max_bit_degree d) rest more (ap (bits_right f i) (left-more i n h) ∙ bits-cons f i (n - (i + 1)) ∙ ap (λ x. in_range 1 max_bit_degree x && rest) (sym e)) q

pub bits-end : (f : ℕ → ℕ) (n i : ℕ) → n ≤ i → (all : Bool) → (all && bits_right f i (n - i)) ≡ all
unfolding bits_right
bits-end f n i h all = and-end all (ap (bits_right f i) (sub-eq-zero_of_le h))

-- only the degrees below n count
pub bits-same : (f g : ℕ → ℕ) (n : ℕ) → ((i : ℕ) → i < n → f i ≡ g i) → (i k : ℕ) → i + k ≤ n → bits_right f i k ≡ bits_right g i k
unfolding bits_right
bits-same f g n e i zero h = refl
bits-same f g n e i (suc k) h = ap₂ (λ x b. in_range 1 max_bit_degree x && b) (e i (first-in i k n h)) (bits-same f g n e (i + 1) k (rest_in i k n h))

pub ruleset bits_steps = (bits-more, bits-end, get_or-take, length-take-le)

pub ruleset counted_steps = (counted-end, degree-most)

pub ruleset bits_same_steps = bits-same
