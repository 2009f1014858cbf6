-- Linear facts on ℤ, decided by `omega` over ℕ. A whole number z is `up z` less `dn z`.
--     simp lin (omega arith_z)    proves a goal made of ≤ℤ, <ℤ, ≡ on ℤ, SFits and Within, over +ℤ, -ℤ, neg_ℤ, literals and unknowns. The premises of
--                                the goal count, also where the terms in them are sums: `f x y = simp lin (omega arith_z)` at `(x y : ℤ) → x +ℤ y ≤ℤ .. → ..`
--     lin        turns the goal and its premises into facts on the `up` and the `dn` of the unknowns
--     arith_z     `arith`, with the rules that read a hypothesis, or a field of one, whose two sides are unknowns or literals
-- A hypothesis h whose sides are sums and that is in no premise is handed over: `omega (arith_z, simp lin at h)`.
-- Assumes nothing.
use Rattle.std.specs.Prelude.{◌≡◌, refl, List, [], ◌∷◌, ◌↔◌, Bool, true, false, not, cond, ℕ, zero, suc, ◌+◌, ◌-◌, ◌^◌, ◌<◌, ◌≤◌, T, ltb, ℤ, pos, negsuc, neg_ℤ, ◌+ℤ◌, ◌≤ℤ◌, ◌<ℤ◌}
use Rattle.std.proofs.Common.{sym, ap, subst, arith, ltb→lt, nltb→le, leb→le, le→leb, to_z-of_z}
use Rattle.std.proofs.Math.Dec.{nleb→lt}
use Rattle.std.proofs.Math.IntN.{sub_ℕ}
use Rattle.std.specs.Int.Signed.{le_z, lt_z, le_z_yes, lt_z_yes, lt_z_no}
use Rattle.std.specs.Int.{Width}
use mir.Val.{SFits, hbits, to_z, of_z}

-- the order as the source's operators bind: below the sums, above ≡'s
infix 4 ◌⩽◌
abbrev pub ◌⩽◌ : ℤ → ℤ → Type 0
a ⩽ b = a ≤ℤ b

abbrev pub up : ℤ → ℕ
up (pos n) = n
up (negsuc n) = 0

abbrev pub dn : ℤ → ℕ
dn (pos n) = 0
dn (negsuc n) = suc n

-- ---- what a hypothesis says of up and dn, and back

pub le_out : {a b : ℤ} → a ≤ℤ b → up a + dn b ≤ up b + dn a
le_out {a = pos a} {b = pos b} h = let k = leb→le a b h.le in omega arith
le_out {a = pos a} {b = negsuc b} h = absurd h.le
le_out {a = negsuc a} {b = pos b} h = omega arith
le_out {a = negsuc a} {b = negsuc b} h = let k = leb→le b a h.le in omega arith

pub le_in : {a b : ℤ} → up a + dn b ≤ up b + dn a → a ≤ℤ b
le_in {a = pos a} {b = pos b} h = record { le = le→leb a b (omega arith) }
le_in {a = pos a} {b = negsuc b} h = absurd (omega arith)
le_in {a = negsuc a} {b = pos b} h = record { le = tt }
le_in {a = negsuc a} {b = negsuc b} h = record { le = le→leb b a (omega arith) }

pub lt_out : {a b : ℤ} → a <ℤ b → up a + dn b < up b + dn a
lt_out {a = pos a} {b = pos b} h = let k = ltb→lt a b h.lt in omega arith
lt_out {a = pos a} {b = negsuc b} h = absurd h.lt
lt_out {a = negsuc a} {b = pos b} h = omega arith
lt_out {a = negsuc a} {b = negsuc b} h = let k = ltb→lt b a h.lt in omega arith

pub lt_in : {a b : ℤ} → up a + dn b < up b + dn a → a <ℤ b
lt_in {a = pos a} {b = pos b} h = record { lt = le→leb (suc a) b (omega arith) }
lt_in {a = pos a} {b = negsuc b} h = absurd (omega arith)
lt_in {a = negsuc a} {b = pos b} h = record { lt = tt }
lt_in {a = negsuc a} {b = negsuc b} h = record { lt = le→leb (suc b) a (omega arith) }

pub eq-in : {a b : ℤ} → up a + dn b ≡ up b + dn a → a ≡ b
eq-in {a = pos a} {b = pos b} h = ap pos (omega arith)
eq-in {a = pos a} {b = negsuc b} h = absurd (omega arith)
eq-in {a = negsuc a} {b = pos b} h = absurd (omega arith)
eq-in {a = negsuc a} {b = negsuc b} h = ap negsuc (omega arith)

pub eq-out : {a b : ℤ} → a ≡ b → up a + dn b ≡ up b + dn a
eq-out e = omega (arith, ap up e, ap dn e)

pub sfits_up : {w : Width} {z : ℤ} → SFits w z → up z < 2 ^ hbits w
sfits_up {w} {z = pos n} h = omega (arith, h.sfits)
sfits_up {w} {z = negsuc n} h = omega (arith, h.sfits)

pub sfits-dn : {w : Width} {z : ℤ} → SFits w z → dn z ≤ 2 ^ hbits w
sfits-dn {w} {z = pos n} h = omega (arith, h.sfits)
sfits-dn {w} {z = negsuc n} h = omega (arith, h.sfits)

sfits-in : (w : Width) (z : ℤ) → up z + 1 ≤ dn z + 2 ^ hbits w → dn z ≤ up z + 2 ^ hbits w → SFits w z
sfits-in w (pos n) h k = record { sfits = omega arith }
sfits-in w (negsuc n) h k = record { sfits = omega arith }

-- z is between -n and n. Its fields are facts on ℕ, so `omega arith` reads a hypothesis of it, or a field in reach, with no rule
pub record Within (n : ℕ) (z : ℤ) : Type 0 where
  pub hi : up z ≤ n
  pub lo : dn z ≤ n

within_in : (n : ℕ) (z : ℤ) → up z ≤ dn z + n → dn z ≤ up z + n → Within n z
within_in n (pos m) h k = record { hi = omega arith; lo = omega arith }
within_in n (negsuc m) h k = record { hi = omega arith; lo = omega arith }

-- a signed local holds bits: what the machine reads back from the bits of a number that fits
pub back : {w : Width} {z : ℤ} → SFits w z → up (to_z w (of_z w z)) + dn z ≡ up z + dn (to_z w (of_z w z))
back h = eq-out (to_z-of_z h)

-- a test's flag
pub lt_z-true : (a b : ℤ) → lt_z a b ≡ true → up a + dn b < up b + dn a
lt_z-true a b e = lt_out {a = a} {b = b} (lt_z_yes (subst T (sym e) tt))

pub lt_z-false : (a b : ℤ) → lt_z a b ≡ false → up b + dn a ≤ up a + dn b
lt_z-false a b e = le_out {a = b} {b = a} (lt_z_no (subst (λ (t : Bool). T (not t)) (sym e) tt))

nle : (a b : ℤ) → T (not (le_z a b)) → up b + dn a < up a + dn b
nle (pos a) (pos b) t = let k = nleb→lt a b t in omega arith
nle (pos a) (negsuc b) t = omega arith
nle (negsuc a) (pos b) t = absurd t
nle (negsuc a) (negsuc b) t = let k = nleb→lt b a t in omega arith

pub le_z-true : (a b : ℤ) → le_z a b ≡ true → up a + dn b ≤ up b + dn a
le_z-true a b e = le_out {a = a} {b = b} (le_z_yes (subst T (sym e) tt))

pub le_z-false : (a b : ℤ) → le_z a b ≡ false → up b + dn a < up a + dn b
le_z-false a b e = nle a b (subst (λ (t : Bool). T (not t)) (sym e) tt)

is_true : (t : Bool) → T t → t ≡ true
is_true true h = refl
is_true false h = absurd h

is_false : (t : Bool) → (t ≡ true → ⊥) → t ≡ false
is_false true h = absurd (h refl)
is_false false h = refl

-- and the flag from the fact
pub lt-lt_z : (a b : ℤ) → a <ℤ b → lt_z a b ≡ true
lt-lt_z a b h = is_true (lt_z a b) h.lt

pub le-lt_z : (a b : ℤ) → b ≤ℤ a → lt_z a b ≡ false
le-lt_z a b h = is_false (lt_z a b) (λ e. omega (arith, lt_z-true a b e, le_out h))

pub le-le_z : (a b : ℤ) → a ≤ℤ b → le_z a b ≡ true
le-le_z a b h = is_true (le_z a b) h.le

pub lt-le_z : (a b : ℤ) → b <ℤ a → le_z a b ≡ false
lt-le_z a b h = is_false (le_z a b) (λ e. omega (arith, le_z-true a b e, lt_out h))

pub ruleset arith_z = (arith, le_out, lt_out, eq-out, back, lt_z-true, lt_z-false, le_z-true, le_z-false)

-- ---- a sum and a negation, in up and dn

cond_ind : (c : Bool) (x y : ℤ) (P : ℤ → Type 0) → (T c → P x) → (T (not c) → P y) → P (cond c x y)
cond_ind true x y P f g = f tt
cond_ind false x y P f g = g tt

sub-lin : (a b : ℕ) → up (sub_ℕ a b) + b ≡ dn (sub_ℕ a b) + a
sub-lin a b = cond_ind (ltb a b) (negsuc (b - suc a)) (pos (a - b)) (λ z. up z + b ≡ dn z + a)
    (λ t. let k = ltb→lt a b t in omega arith)
    (λ t. let k = nltb→le a b t in omega arith)

pub sum-lin : (x y : ℤ) → up (x +ℤ y) + (dn x + dn y) ≡ dn (x +ℤ y) + (up x + up y)
sum-lin (pos a) (pos b) = omega arith
sum-lin (pos a) (negsuc b) = omega (arith, sub-lin a (suc b))
sum-lin (negsuc a) (pos b) = omega (arith, sub-lin b (suc a))
sum-lin (negsuc a) (negsuc b) = omega arith

pub up_neg : (x : ℤ) → up (neg_ℤ x) ≡ dn x
up_neg (pos zero) = refl
up_neg (pos (suc n)) = refl
up_neg (negsuc n) = refl

pub dn-neg : (x : ℤ) → dn (neg_ℤ x) ≡ up x
dn-neg (pos zero) = refl
dn-neg (pos (suc n)) = refl
dn-neg (negsuc n) = refl

-- ---- the reader. `Lz xs ys p q`: the sum of xs, and p, is at most the sum of ys, and q. Each rule takes a term off a list

total : List ℤ → ℤ
total [] = pos 0
total (x ∷ xs) = x +ℤ total xs

pub Lz : List ℤ → List ℤ → ℕ → ℕ → Type 0
Lz xs ys p q = up (total xs) + dn (total ys) + p ≤ dn (total xs) + up (total ys) + q

pub le⇔ : (a b : ℤ) → (a ≤ℤ b) ↔ Lz (a ∷ []) (b ∷ []) 0 0
unfolding Lz total
le⇔ a b = (λ h. omega (arith, le_out h, sum-lin a (pos 0), sum-lin b (pos 0)), λ h. le_in (omega (arith, sum-lin a (pos 0), sum-lin b (pos 0))))

pub lt⇔ : (a b : ℤ) → (a <ℤ b) ↔ Lz (a ∷ []) (b ∷ []) 1 0
unfolding Lz total
lt⇔ a b = (λ h. omega (arith, lt_out h, sum-lin a (pos 0), sum-lin b (pos 0)), λ h. lt_in (omega (arith, sum-lin a (pos 0), sum-lin b (pos 0))))

pub eq⇔ : (a b : ℤ) → (a ≡ b) ↔ (Lz (a ∷ []) (b ∷ []) 0 0 × Lz (b ∷ []) (a ∷ []) 0 0)
unfolding Lz total
eq⇔ a b = (λ e. omega (arith, eq-out e, sum-lin a (pos 0), sum-lin b (pos 0)), λ h. eq-in (omega (arith, sum-lin a (pos 0), sum-lin b (pos 0))))

pub sfits⇔ : (w : Width) (z : ℤ) → SFits w z ↔ (Lz (z ∷ []) [] 1 (2 ^ hbits w) × Lz [] (z ∷ []) 0 (2 ^ hbits w))
unfolding Lz total
sfits⇔ w z = (λ h. omega (arith, sfits_up h, sfits-dn h, sum-lin z (pos 0)), λ h. sfits-in w z (omega (arith, sum-lin z (pos 0))) (omega (arith, sum-lin z (pos 0))))

pub lt_z⇔ : (a b : ℤ) → (lt_z a b ≡ true) ↔ Lz (a ∷ []) (b ∷ []) 1 0
unfolding Lz total
lt_z⇔ a b = (λ e. omega (arith, lt_z-true a b e, sum-lin a (pos 0), sum-lin b (pos 0)), λ h. lt-lt_z a b (lt_in (omega (arith, sum-lin a (pos 0), sum-lin b (pos 0)))))

pub nlt_z⇔ : (a b : ℤ) → (lt_z a b ≡ false) ↔ Lz (b ∷ []) (a ∷ []) 0 0
unfolding Lz total
nlt_z⇔ a b = (λ e. omega (arith, lt_z-false a b e, sum-lin a (pos 0), sum-lin b (pos 0)), λ h. le-lt_z a b (le_in (omega (arith, sum-lin a (pos 0), sum-lin b (pos 0)))))

pub le_z⇔ : (a b : ℤ) → (le_z a b ≡ true) ↔ Lz (a ∷ []) (b ∷ []) 0 0
unfolding Lz total
le_z⇔ a b = (λ e. omega (arith, le_z-true a b e, sum-lin a (pos 0), sum-lin b (pos 0)), λ h. le-le_z a b (le_in (omega (arith, sum-lin a (pos 0), sum-lin b (pos 0)))))

pub nle_z⇔ : (a b : ℤ) → (le_z a b ≡ false) ↔ Lz (b ∷ []) (a ∷ []) 1 0
unfolding Lz total
nle_z⇔ a b = (λ e. omega (arith, le_z-false a b e, sum-lin a (pos 0), sum-lin b (pos 0)), λ h. lt-le_z a b (lt_in (omega (arith, sum-lin a (pos 0), sum-lin b (pos 0)))))

pub within⇔ : (n : ℕ) (z : ℤ) → Within n z ↔ (Lz (z ∷ []) [] 0 n × Lz [] (z ∷ []) 0 n)
unfolding Lz total
within⇔ n z = (λ h. omega (arith, sum-lin z (pos 0)), λ h. within_in n z (omega (arith, sum-lin z (pos 0))) (omega (arith, sum-lin z (pos 0))))

pub l-sum : (x y : ℤ) (xs ys : List ℤ) (p q : ℕ) → Lz ((x +ℤ y) ∷ xs) ys p q ↔ Lz (x ∷ y ∷ xs) ys p q
unfolding Lz total
l-sum x y xs ys p q = omega (arith, sum-lin x y, sum-lin (x +ℤ y) (total xs), sum-lin y (total xs), sum-lin x (y +ℤ total xs))

pub r-sum : (x y : ℤ) (xs ys : List ℤ) (p q : ℕ) → Lz xs ((x +ℤ y) ∷ ys) p q ↔ Lz xs (x ∷ y ∷ ys) p q
unfolding Lz total
r-sum x y xs ys p q = omega (arith, sum-lin x y, sum-lin (x +ℤ y) (total ys), sum-lin y (total ys), sum-lin x (y +ℤ total ys))

pub l-neg : (x : ℤ) (xs ys : List ℤ) (p q : ℕ) → Lz (neg_ℤ x ∷ xs) ys p q ↔ Lz xs (x ∷ ys) p q
unfolding Lz total
l-neg x xs ys p q = omega (arith, up_neg x, dn-neg x, sum-lin (neg_ℤ x) (total xs), sum-lin x (total ys))

pub r-neg : (x : ℤ) (xs ys : List ℤ) (p q : ℕ) → Lz xs (neg_ℤ x ∷ ys) p q ↔ Lz (x ∷ xs) ys p q
unfolding Lz total
r-neg x xs ys p q = omega (arith, up_neg x, dn-neg x, sum-lin (neg_ℤ x) (total ys), sum-lin x (total xs))

pub l-atom : (x : ℤ) (xs ys : List ℤ) (p q : ℕ) → Lz (x ∷ xs) ys p q ↔ Lz xs ys (up x + p) (dn x + q)
unfolding Lz total
l-atom x xs ys p q = omega (arith, sum-lin x (total xs))

pub r-atom : (x : ℤ) (xs ys : List ℤ) (p q : ℕ) → Lz xs (x ∷ ys) p q ↔ Lz xs ys (dn x + p) (up x + q)
unfolding Lz total
r-atom x xs ys p q = omega (arith, sum-lin x (total ys))

pub l-end : (p q : ℕ) → Lz [] [] p q ↔ (p ≤ q)
unfolding Lz total
l-end p q = omega arith

-- the order matters: a sum or a negation is taken apart before it would be taken for an unknown
pub ruleset lin = (le⇔, lt⇔, eq⇔, sfits⇔, within⇔, lt_z⇔, nlt_z⇔, le_z⇔, nle_z⇔, l-sum, r-sum, l-neg, r-neg, l-atom, r-atom, l-end)
