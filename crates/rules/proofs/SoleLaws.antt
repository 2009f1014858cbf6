-- Where a gap is 0 and no reduced number is: each point of the relaxation other than the word's own spins times its D, and each other codeword, has
-- strictly smaller agreement. Of any rows that the table's own inequalities imply, whoever chose them. Assumes nothing.
use mathlib.Core.Path.{◌≡◌, refl, sym, ◌∙◌, ap, ap₂}
use mathlib.Core.Bool.{Bool, true, false, not, ◌&&◌, false≢true}
use mathlib.Core.List.{List, [], ◌∷◌}
use Prim.Native.Nat.{ℕ, zero, suc, ◌+◌, ◌<◌}
use native.Mathlib.Omega.{arith}
use native.Mathlib.Nat.{not-suc-le-zero, zero-lt-suc, suc-le-suc_iff, le_step, lt-suc_self}
use native.Mathlib.Numerals.{add-one}
use native.Mathlib.Decide.{ℕ_discrete}
use lib.ListN.{length}
use borrow.Author.Tests.{not-true}
use lib.IntN.{ℤ, pos, ◌*ℤ◌}
use Rattle.integers.specs.Linear.{arith_z, ◌⩽◌}
use Rattle.integers.specs.Order.{le_of_eq, nle-lt}
use Rattle.integers.specs.Product.{ring, once, abs, mul-cancel, *ℤ-assoc}
use Rattle.rules.specs.Table.{Table, at, bit}
use Rattle.rules.specs.Parity.{turn, point_agreement, Codeword, agreement}
use Rattle.rules.specs.Bound.{Row, reduced, gap}
use Rattle.rules.specs.Round.{is_zero}
use Rattle.rules.specs.Sole.{none_zero, sole, spins_times, SoleWinner}
use Rattle.rules.proofs.Basics.{and_both}
use Rattle.rules.proofs.ZeroLaws.{is-zero}
use Rattle.rules.proofs.Duality.{AllKept, InBox, spin_sum, tight, spins_of, spins-within, times-turn, agreement-is}
use Rattle.rules.proofs.Optimal.{Implied, word_kept, within-at}

-- ---- none of n numbers is 0
none-zero-at : (n : ℕ) (f : ℕ → ℤ) → none_zero n f ≡ true → (i : ℕ) → i < n → f i ≡ pos 0 → ⊥
none-zero-at zero f e i h z = not-suc-le-zero h
none-zero-at (suc n) f e i h z = go (ℕ_discrete i n) (λ k. none-zero-at n f both.1 i k z)
  where
    both : (not (is_zero (f n)) ≡ true) × (none_zero n f ≡ true)
    both = and_both (not (is_zero (f n))) (none_zero n f) e

    go : Dec (i ≡ n) → (i < n → ⊥) → ⊥
    go (yes p) ih = false≢true (sym (not-true (is_zero (f n)) both.0) ∙ is-zero (f n) (ap f (sym p) ∙ z))
    go (no p) ih = ih (omega arith)

-- the same numbers below n
pub none-zero-same : (n : ℕ) (f g : ℕ → ℤ) → ((i : ℕ) → i < n → f i ≡ g i) → none_zero n f ≡ none_zero n g
none-zero-same zero f g e = refl
none-zero-same (suc n) f g e = ap₂ (λ x a. not (is_zero x) && a) (e n (lt-suc_self n)) (none-zero-same n f g (λ i h. e i (le_step h)))

-- one number more
module _ (n : ℕ) (f : ℕ → ℤ) where
  none-zero-next : (b : Bool) → is_zero (f n) ≡ b → not b && none_zero n f ≡ none_zero (n + 1) f
  none-zero-next b e = ap (λ x. not x && none_zero n f) (sym e) ∙ ap (λ k. none_zero k f) (sym (add-one n))

  pub none-zero-found : is_zero (f n) ≡ true → false ≡ none_zero (n + 1) f
  none-zero-found e = none-zero-next true e

  pub none-zero-more : (a : Bool) → a ≡ none_zero n f → is_zero (f n) ≡ false → a ≡ none_zero (n + 1) f
  none-zero-more a h e = h ∙ none-zero-next false e

-- ---- spins that leave no slack
-- x r = d |r| and y r = |r|, with r other than 0
same-spin : (d r x y : ℤ) → (r ≡ pos 0 → ⊥) → x *ℤ r ≡ d *ℤ abs r → y *ℤ r ≡ pos 1 *ℤ abs r → x ≡ d *ℤ y
same-spin d r x y f e g = mul-cancel r x (d *ℤ y) f (e ∙ ap (λ z. d *ℤ z) (once (abs r) ∙ sym g) ∙ sym (*ℤ-assoc d y r))

turn-inj : (a b : Bool) → turn a (pos 1) ≡ turn b (pos 1) → a ≡ b
turn-inj true true e = refl
turn-inj false false e = refl
turn-inj true false e = absurd (let z : ◌≡◌ {A = ℕ} 0 1 = cc in omega arith)
turn-inj false true e = absurd (let z : ◌≡◌ {A = ℕ} 0 1 = cc in omega arith)

-- a point, and a codeword, that has the word's spins at each bit is the word's own
own-point : (d : ℕ) (p : List ℤ) (w : List Bool) → length p ≡ length w → ((i : ℕ) → i < length w → at p i ≡ turn (bit w i) (pos d)) → p ≡ spins_times d w
own-point d [] [] e h = refl
own-point d [] (b ∷ w) e h = absurd (omega arith)
own-point d (x ∷ p) [] e h = absurd (omega arith)
own-point d (x ∷ p) (b ∷ w) e h = ap₂ ◌∷◌ (h 0 (zero-lt-suc (length w))) (own-point d p w (omega arith) (λ i k. h (suc i) (suc-le-suc_iff.1 k)))

own-word : (c w : List Bool) → length c ≡ length w → ((i : ℕ) → i < length w → spins_of c i ≡ turn (bit w i) (pos 1)) → c ≡ w
own-word [] [] e h = refl
own-word [] (b ∷ w) e h = absurd (omega arith)
own-word (a ∷ c) [] e h = absurd (omega arith)
own-word (a ∷ c) (b ∷ w) e h = ap₂ ◌∷◌ (turn-inj a b (h 0 (zero-lt-suc (length w)))) (own-word c w (omega arith) (λ i k. h (suc i) (suc-le-suc_iff.1 k)))

-- ---- the mark's claim
module _ (t : Table) (s : ℕ) (l : List ℤ) (rs : List Row) (implied : Implied t rs) (w : List Bool) (is_word : Codeword t w)
    (g : gap t.bits s l rs w ≡ pos 0) (m : sole t.bits s l rs ≡ true) where
  -- a word that does as well, by its spins
  as-spins : (c : List Bool) → agreement t.bits l w ⩽ agreement t.bits l c → pos 1 *ℤ agreement t.bits l w ⩽ spin_sum t.bits l (spins_of c)
  as-spins c h = go (agreement t.bits l w) (agreement t.bits l c) (spin_sum t.bits l (spins_of c)) h (agreement-is t.bits l c)
    where
      go : (a b x : ℤ) → a ⩽ b → x ≡ b → pos 1 *ℤ a ⩽ x
      go a b x = simp ring (omega arith_z)

  -- what does as well as the word has its spins
  own-spins : (d : ℕ) (P : ℕ → ℤ) → InBox d P → AllKept t.bits d P rs → pos d *ℤ agreement t.bits l w ⩽ spin_sum t.bits l P
      → (i : ℕ) → i < t.bits → P i ≡ turn (bit w i) (pos d)
  unfolding sole
  own-spins d P box k h i below = same-spin (pos d) (reduced s l rs i) (P i) (spins_of w i) (none-zero-at t.bits (reduced s l rs) m i below)
      (tight t.bits d s l P rs w box k g h i below)
      (tight t.bits 1 s l (spins_of w) rs w (spins-within w) (word_kept t rs implied w is_word.even) g (as-spins w (le_of_eq (agreement t.bits l w) (agreement t.bits l w) refl)) i below)
      ∙ times-turn (bit w i) (pos d)

  pub sole-winner : SoleWinner t l w
  unfolding point_agreement
  sole-winner = record {
    is_codeword = is_word;
    over_codewords = λ c k other. nle-lt (agreement t.bits l c) (agreement t.bits l w) (λ h. other (own-word c w (k.size ∙ sym is_word.size)
        (λ i j. own-spins 1 (spins_of c) (spins-within c) (word_kept t rs implied c k.even) (as-spins c h) i (below j))));
    over_points = λ d p k other. nle-lt (point_agreement t.bits l p) (pos d *ℤ agreement t.bits l w) (λ h. other (own-point d p w (k.size ∙ sym is_word.size)
        (λ i j. own-spins d (at p) (within-at d p k.box) (implied d (at p) k.keeps) h i (below j))));
  }
    where
      below : {i : ℕ} → i < length w → i < t.bits
      below {i} h = omega (arith, is_word.size)
