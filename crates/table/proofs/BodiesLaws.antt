-- The bodies as the loops go over them: what is left is a number, or a check, and what is left after it. Assumes nothing.
use mathlib.Core.Path.{◌≡◌, refl, ◌∙◌, ap, ap₂}
use mathlib.Core.Bool.{Bool, true, false, ◌&&◌}
use mathlib.Core.List.{List, [], ◌∷◌}
use Prim.Native.Nat.{ℕ, ◌+◌, ◌*◌, ◌-◌, ◌≤◌, ◌<◌}
use native.Mathlib.Omega.{arith}
use native.Mathlib.Nat.{sub-eq-zero_of_le}
use lib.Dec.{leb, ltb}
use Rattle.integers.specs.Count.{left-more}
use Rattle.rules.specs.Bytes.{u16_at}
use Rattle.rules.specs.CodeFile.{Content, content_at, numbers_at, bodies, ascends, members_right}
use Rattle.rules.proofs.Basics.{and-more, and-end}
use Rattle.table.proofs.ContentsLaws.{contents_from, contents-more, contents-end, total-more}

-- ---- numbers from a byte on
-- those of d numbers that are left from number k on
abbrev pub numbers_from : List ℕ → ℕ → ℕ → ℕ → List ℕ
numbers_from file at d k = numbers_at file (at + 2 * k) (d - k)

module _ (file : List ℕ) (at d k : ℕ) where
  pub numbers_more : k < d → numbers_from file at d k ≡ u16_at file (at + 2 * k) ∷ numbers_from file at d (k + 1)
  unfolding numbers_at
  numbers_more h = ap (numbers_at file (at + 2 * k)) (left-more k d h) ∙ ap (λ a. u16_at file (at + 2 * k) ∷ numbers_at file a (d - (k + 1))) (omega arith)

  pub numbers-end : d ≤ k → numbers_from file at d k ≡ []
  unfolding numbers_at
  numbers-end h = ap (numbers_at file (at + 2 * k)) (sub-eq-zero_of_le h)

pub numbers-all : (file : List ℕ) (at d : ℕ) → numbers_from file at d 0 ≡ numbers_at file at d
numbers-all file at d = ap₂ (numbers_at file) (omega arith) (omega arith)

-- ---- strictly ascending
ascends-cons : (n least x : ℕ) (xs : List ℕ) → ascends n least (x ∷ xs) ≡ ((leb least x && ltb x n) && ascends n (x + 1) xs)
unfolding ascends
ascends-cons n least x xs = refl

module _ (file : List ℕ) (at d k n least x : ℕ) (h : k < d) (e : x ≡ u16_at file (at + 2 * k)) where
  ascends-at : ascends n least (numbers_from file at d k) ≡ ((leb least x && ltb x n) && ascends n (x + 1) (numbers_from file at d (k + 1)))
  ascends-at = ap (ascends n least) (numbers_more file at d k h) ∙ ascends-cons n least (u16_at file (at + 2 * k)) (numbers_from file at d (k + 1)) ∙ rw e refl

  -- "all" of the numbers before k are right, then "more" of those before k + 1
  pub ascends-more : (all more : Bool) → more ≡ (all && (leb least x && ltb x n))
      → (all && ascends n least (numbers_from file at d k)) ≡ (more && ascends n (x + 1) (numbers_from file at d (k + 1)))
  ascends-more all more q = and-more all (leb least x && ltb x n) _ more ascends-at q

pub ascends-end : (file : List ℕ) (at d k n least : ℕ) → d ≤ k → (all : Bool) → (all && ascends n least (numbers_from file at d k)) ≡ all
unfolding ascends
ascends-end file at d k n least h all = and-end all (ap (ascends n least) (numbers-end file at d k h))

-- ---- check by check
bodies-cons : (file : List ℕ) (a : ℕ) (e : Content) (es : List Content) → bodies file a (e ∷ es) ≡ numbers_at file a e.count ∷ bodies file (a + 2 * e.count) es
unfolding bodies
bodies-cons file a e es = refl

members-cons : (n : ℕ) (ms : List ℕ) (cs : List (List ℕ)) → members_right n (ms ∷ cs) ≡ (ascends n 0 ms && members_right n cs)
unfolding members_right
members-cons n ms cs = refl

-- the bodies at byte a of the checks that are left from check j on
abbrev pub bodies_from : List ℕ → ℕ → ℕ → ℕ → List (List ℕ)
bodies_from file m j a = bodies file a (contents_from file m j)

module _ (file : List ℕ) (m j a : ℕ) where
  module _ (d : ℕ) (h : j < m) (e : d ≡ u16_at file (6 + 4 * j)) where
    pub bodies-more : bodies_from file m j a ≡ numbers_at file a d ∷ bodies_from file m (j + 1) (a + 2 * d)
    bodies-more = ap (bodies file a) (contents-more file m j h) ∙ bodies-cons file a (content_at file j) (contents_from file m (j + 1)) ∙ rw e refl

  members-first : (n : ℕ) → j < m → members_right n (bodies_from file m j a)
      ≡ (ascends n 0 (numbers_at file a (u16_at file (6 + 4 * j))) && members_right n (bodies_from file m (j + 1) (a + 2 * u16_at file (6 + 4 * j))))
  members-first n h =
      ap (members_right n) (bodies-more (u16_at file (6 + 4 * j)) h refl)
      ∙ members-cons n (numbers_at file a (u16_at file (6 + 4 * j))) (bodies_from file m (j + 1) (a + 2 * u16_at file (6 + 4 * j)))

  pub members-wrong : (n : ℕ) → j < m → ascends n 0 (numbers_at file a (u16_at file (6 + 4 * j))) ≡ false → members_right n (bodies_from file m j a) ≡ false
  members-wrong n h e = members-first n h ∙ ap (λ b. b && members_right n (bodies_from file m (j + 1) (a + 2 * u16_at file (6 + 4 * j)))) e

  pub members-more : (n : ℕ) → j < m → ascends n 0 (numbers_at file a (u16_at file (6 + 4 * j))) ≡ true
      → members_right n (bodies_from file m j a) ≡ members_right n (bodies_from file m (j + 1) (a + 2 * u16_at file (6 + 4 * j)))
  members-more n h e = members-first n h ∙ ap (λ b. b && members_right n (bodies_from file m (j + 1) (a + 2 * u16_at file (6 + 4 * j)))) e

  pub bodies-end : m ≤ j → bodies_from file m j a ≡ []
  unfolding bodies
  bodies-end h = ap (bodies file a) (contents-end file m j h)

  pub members-end : (n : ℕ) → m ≤ j → members_right n (bodies_from file m j a) ≡ true
  unfolding members_right
  members-end n h = ap (members_right n) (bodies-end h)

pub ruleset ascends_steps = (ascends-more, ascends-end)

pub ruleset members_steps = (members-wrong, members-more, members-end, total-more)
