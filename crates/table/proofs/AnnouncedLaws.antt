-- What the bytes of a code file announce, by the tests of the code. Assumes nothing.
use mathlib.Core.Path.{◌≡◌, sym, ◌∙◌, ap}
use mathlib.Core.List.{List}
use Prim.Native.Nat.{ℕ, ◌+◌, ◌*◌, ◌≤◌, ◌<◌}
use native.Mathlib.Omega.{arith}
use borrow.Author.Tests.{lt-ltb, le-ltb}
use lib.ListN.{length}
use Rattle.rules.specs.Limits.{max_checks, max_edges, contents_end}
use Rattle.rules.specs.Bytes.{u16_at}
use Rattle.rules.specs.CodeFile.{contents, total_count}
use Rattle.rules.specs.Report.{announced_by, announced}

pub announced-few : (bs : List ℕ) → length bs < 4 → 4 ≡ announced bs
unfolding announced
announced-few bs h = sym (simp (lt-ltb (length bs) 4 h))

-- m the checks, r where their contents end, e their edges
module _ (bs : List ℕ) (m : ℕ) (is_m : m ≡ u16_at bs 2) (h : 4 ≤ length bs) where
  by-checks : announced bs ≡ announced_by (length bs) m (total_count (contents bs 0 m))
  unfolding announced
  by-checks = ap (λ x. announced_by (length bs) x (total_count (contents bs 0 x))) (sym is_m)

  pub announced-many : max_checks < m → 4 ≡ announced bs
  announced-many k = sym (by-checks ∙ simp (le-ltb (length bs) 4 h, lt-ltb max_checks m k))

  module _ (k : m ≤ max_checks) (r : ℕ) (is_r : r ≡ contents_end m) where
    pub announced-short : length bs < r → r ≡ announced bs
    announced-short l =
        let l' : length bs < contents_end m = omega arith in
        is_r ∙ sym (by-checks ∙ simp (le-ltb (length bs) 4 h, le-ltb max_checks m k, lt-ltb (length bs) (contents_end m) l'))

    module _ (l : r ≤ length bs) (e : ℕ) (is_e : e ≡ total_count (contents bs 0 m)) where
      by-edges : announced bs ≡ announced_by (length bs) m e
      by-edges = by-checks ∙ ap (announced_by (length bs) m) (sym is_e)

      long : contents_end m ≤ length bs
      long = omega arith

      pub announced-over : max_edges < e → r ≡ announced bs
      announced-over g = is_r ∙ sym (by-edges ∙ simp (le-ltb (length bs) 4 h, le-ltb max_checks m k, le-ltb (length bs) (contents_end m) long, lt-ltb max_edges e g))

      pub announced-whole : e ≤ max_edges → r + 2 * e ≡ announced bs
      announced-whole g = ap (λ x. x + 2 * e) is_r
          ∙ sym (by-edges ∙ simp (le-ltb (length bs) 4 h, le-ltb max_checks m k, le-ltb (length bs) (contents_end m) long, le-ltb max_edges e g))

-- each of `announced`'s returns is one of these
pub ruleset announced_cases = (announced-few, announced-many, announced-short, announced-over, announced-whole)
