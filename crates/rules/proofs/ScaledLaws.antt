-- k times a frame at scale s is judged as the frame at scale s × k, refusals included. So a frame of small numbers can be run as k times itself, within
-- the limits of frames, and what the run certifies at scale 1 is certified for the frame at scale k. Assumes nothing.
use mathlib.Core.Path.{◌≡◌, refl, sym, ◌∙◌, ap, ap₂, fun_ext}
use mathlib.Core.Bool.{Bool, true, false, ◌&&◌}
use mathlib.Core.List.{List, [], ◌∷◌}
use mathlib.Core.Option.{none}
use Prim.Native.Nat.{ℕ, zero, suc, ◌+◌, ◌*◌, ◌≤◌}
use native.Mathlib.Omega.{arith}
use native.Mathlib.Nat.{mul-le-mul_left, mul-le-mul_right, one-mul}
use lib.Dec.{leb, eqb}
use borrow.Author.Tests.{leb-true, le-leb}
use lib.ListN.{length, take, drop}
use lib.Seq.{drop-drop}
use lib.IntN.{ℤ, pos, nat_abs, ◌+ℤ◌, ◌-ℤ◌, ◌*ℤ◌, *ℤ-zero}
use Rattle.integers.specs.Product.{abs, *ℤ-assoc, *ℤ-negℤ, nat_abs-*ℤ}
use Rattle.integers.specs.Sum.{sum_to, sum_to-times}
use Rattle.rules.specs.Limits.{frame_limit, max_scale}
use Rattle.rules.specs.Bytes.{u16_of, u16_at}
use Rattle.rules.specs.Refusal.{Answer, gives, must, then, frame_length, frame_range, certificate_wrong, scale_range}
use Rattle.rules.specs.Table.{Table, at, bit}
use Rattle.rules.specs.Parity.{turn, first_broken, agreement}
use Rattle.rules.specs.CodeFile.{in_range, code_file}
use Rattle.rules.specs.Input.{each_within, on_frame, on_word, bits_of}
use Rattle.rules.specs.Bound.{Row, pull, price, reduced, bound, gap}
use Rattle.rules.specs.Certificate.{Item, items_at, scale_of, items_of, certificate_in, on_items, on_certificate, rows_at}
use Rattle.rules.specs.Scaled.{times, at_scale}
use Rattle.rules.specs.Sole.{none_zero, sole}
use Rattle.rules.specs.Judge.{passes, weigh, verdict, judge}
use Rattle.rules.specs.Run.{certified, Run, Called, call}
use Rattle.rules.proofs.Basics.{and_both}
use Rattle.rules.proofs.ByteLaws.{back16}
use Rattle.rules.proofs.Tables.{file-sound}
use Rattle.rules.proofs.Judged.{sole_read, judge-marked}
use Rattle.rules.proofs.Written.{items_in, items-in}
use Rattle.rules.proofs.CallPasses.{ended-scale, ended-passes, call_ends}

-- ---- a frame's numbers
pub times-length : (k : ℕ) (l : List ℤ) → length (times k l) ≡ length l
times-length k [] = refl
times-length k (z ∷ zs) = ap suc (times-length k zs)

pub times-at : (k : ℕ) (l : List ℤ) (i : ℕ) → at (times k l) i ≡ pos k *ℤ at l i
times-at k [] zero = sym (*ℤ-zero (pos k))
times-at k [] (suc i) = sym (*ℤ-zero (pos k))
times-at k (z ∷ zs) zero = refl
times-at k (z ∷ zs) (suc i) = times-at k zs i

smaller : (n k : ℕ) (z : ℤ) → 1 ≤ k → nat_abs (pos k *ℤ z) ≤ n → nat_abs z ≤ n
smaller n k z lo h = omega (arith, nat_abs-*ℤ (pos k) z, mul-le-mul_right (nat_abs z) lo)

pub times-within : (n k : ℕ) (l : List ℤ) → 1 ≤ k → each_within n (times k l) ≡ true → each_within n l ≡ true
times-within n k [] lo e = refl
times-within n k (z ∷ zs) lo e =
    let p = and_both (leb (nat_abs (pos k *ℤ z)) n) (each_within n (times k zs)) e in
    ap₂ ◌&&◌ (le-leb (nat_abs z) n (smaller n k z lo (leb-true (nat_abs (pos k *ℤ z)) n p.0))) (times-within n k zs lo p.1)

-- ---- what the judge works out
turn-times : (k : ℕ) (b : Bool) (z : ℤ) → turn b (pos k *ℤ z) ≡ pos k *ℤ turn b z
turn-times k true z = sym (*ℤ-negℤ (pos k) z)
turn-times k false z = refl

pub agreement-times : (n k : ℕ) (l : List ℤ) (w : List Bool) → agreement n (times k l) w ≡ pos k *ℤ agreement n l w
unfolding agreement
agreement-times n k l w = ap (sum_to n) (fun_ext (λ i. ap (turn (bit w i)) (times-at k l i) ∙ turn-times k (bit w i) (at l i)))
    ∙ sum_to-times (pos k) n (λ i. turn (bit w i) (at l i))

module _ (s k : ℕ) (l : List ℤ) (rs : List Row) where
  pub reduced-times : (i : ℕ) → reduced s (times k l) rs i ≡ reduced (s * k) l rs i
  unfolding reduced
  reduced-times i = ap (λ x. x +ℤ pull i rs) (ap (λ x. pos s *ℤ x) (times-at k l i) ∙ sym (*ℤ-assoc (pos s) (pos k) (at l i)))

  pub bound-times : (n : ℕ) → bound n s (times k l) rs ≡ bound n (s * k) l rs
  unfolding bound
  bound-times n = ap (λ r. sum_to n (λ i. abs (r i)) +ℤ price rs) (fun_ext reduced-times)

  pub gap-times : (n : ℕ) (w : List Bool) → gap n s (times k l) rs w ≡ gap n (s * k) l rs w
  unfolding gap
  gap-times n w = ap₂ ◌-ℤ◌ (bound-times n) (ap (λ a. pos s *ℤ a) (agreement-times n k l w) ∙ sym (*ℤ-assoc (pos s) (pos k) (agreement n l w)))

  pub sole-times : (n : ℕ) → sole n s (times k l) rs ≡ sole n (s * k) l rs
  unfolding sole
  sole-times n = ap (none_zero n) (fun_ext reduced-times)

  pub verdict-times : (t : Table) (w : List Bool) → verdict t s (times k l) rs w ≡ verdict t (s * k) l rs w
  unfolding verdict
  verdict-times t w = ap₂ (weigh (first_broken 0 w t.checks)) (gap-times t.bits w) (sole-times t.bits)

-- ---- a certificate's bytes
-- its items stand past the first four
items-rest : (bs cs : List ℕ) (q i n : ℕ) → drop 4 bs ≡ drop 4 cs → items_at bs q i n ≡ items_at cs q i n
items-rest bs cs q i n e = items-in bs q i n ∙ ap₂ (items_in n) (past (6 * i)) masks ∙ sym (items-in cs q i n)
  where
    past : (a : ℕ) → drop (4 + a) bs ≡ drop (4 + a) cs
    past a = sym (drop-drop a 4 bs) ∙ ap (drop a) e ∙ drop-drop a 4 cs

    masks : drop (4 + 6 * q + 4 * i) bs ≡ drop (4 + 6 * q + 4 * i) cs
    masks = sym (drop-drop (4 * i) (4 + 6 * q) bs) ∙ ap (drop (4 * i)) (past (6 * q)) ∙ drop-drop (4 * i) (4 + 6 * q) cs

pub items_at_lem : (s : ℕ) (bs : List ℕ) → items_of (at_scale s bs) ≡ items_of (at_scale 1 bs)
unfolding u16_at
items_at_lem s [] = refl
items_at_lem s (a ∷ []) = refl
items_at_lem s (a ∷ b ∷ []) = refl
items_at_lem s (a ∷ b ∷ c ∷ []) = refl
items_at_lem s (a ∷ b ∷ c ∷ d ∷ bs) = items-rest (at_scale s (a ∷ b ∷ c ∷ d ∷ bs)) (a ∷ b ∷ 1 ∷ 0 ∷ bs) (u16_of a b) 0 (u16_of a b) refl

pub scale_at : (s a b c d : ℕ) (bs : List ℕ) → s ≤ max_scale → scale_of (at_scale s (a ∷ b ∷ c ∷ d ∷ bs)) ≡ s
unfolding u16_at
scale_at s a b c d bs h = back16 s (omega arith)

-- read at scale s as at scale 1, but for the scale that is handed on
module _ {A : Type 0} (t : Table) (s : ℕ) (f : ℕ → List Item → Answer A) (lo : 1 ≤ s) (hi : s ≤ max_scale) where
  AsAtOne : List ℕ → Type 0
  AsAtOne bs = on_certificate t (at_scale s bs) (f (scale_of (at_scale s bs)) (items_of (at_scale s bs))) ≡ on_certificate t (at_scale 1 bs) (f s (items_of (at_scale 1 bs)))

  read-long : (a b c d : ℕ) (bs : List ℕ) → AsAtOne (a ∷ b ∷ c ∷ d ∷ bs)
  unfolding AsAtOne on_certificate u16_at in_range
  read-long a b c d bs =
      let is = items_of (a ∷ b ∷ 1 ∷ 0 ∷ bs) in
      let inside : in_range 1 max_scale s ≡ true = ap₂ ◌&&◌ (le-leb 1 s lo) (le-leb s max_scale hi) in
      ap (must _ certificate_wrong)
      (ap₂ (λ x is. must (in_range 1 max_scale x) scale_range (on_items t none is (f x is))) (scale_at s a b c d bs hi) (items_at_lem s (a ∷ b ∷ c ∷ d ∷ bs))
      ∙ ap (λ r. must r scale_range (on_items t none is (f s is))) inside)

  read_at : (bs : List ℕ) → AsAtOne bs
  unfolding AsAtOne on_certificate must
  read_at [] = refl
  read_at (a ∷ []) = refl
  read_at (a ∷ b ∷ []) = refl
  read_at (a ∷ b ∷ c ∷ []) = refl
  read_at (a ∷ b ∷ c ∷ d ∷ bs) = read-long a b c d bs

-- ---- the judge
scales-lie : (s k : ℕ) → 1 ≤ s → 1 ≤ k → s * k ≤ max_scale → (1 ≤ s * k) × (s ≤ max_scale)
scales-lie s k hs hk h = (omega (arith, mul-le-mul_left s hk), omega (arith, mul-le-mul_left s hk))

module _ (k : ℕ) (l : List ℤ) (lo : 1 ≤ k) (range : each_within frame_limit (times k l) ≡ true) where
  frame-times : {A : Type 0} (t : Table) (a : Answer A) → on_frame t l a ≡ on_frame t (times k l) a
  unfolding on_frame
  frame-times t a = ap₂ (λ n b. must (eqb n t.bits) frame_length (must b frame_range a)) (sym (times-length k l)) (times-within frame_limit k l lo range ∙ sym range)

  pub judge-times : (file : List ℕ) (s : ℕ) (w bs : List ℕ) → 1 ≤ s → s * k ≤ max_scale → judge file l w (at_scale (s * k) bs) ≡ judge file (times k l) w (at_scale s bs)
  unfolding judge AsAtOne
  judge-times file s w bs hs hi = ap (then (code_file file)) (fun_ext (λ t. frame-times t _ ∙ ap (λ a. on_frame t (times k l) (on_word t w a))
      (read_at t (s * k) (λ x is. gives (verdict t x l (rows_at t is) (bits_of w))) (scales-lie s k hs lo hi).0 hi bs
      ∙ ap (λ v. on_certificate t (at_scale 1 bs) (gives v)) (sym (verdict-times s k l (rows_at t (items_of (at_scale 1 bs))) t (bits_of w)))
      ∙ sym (read_at t s (λ x is. gives (verdict t x (times k l) (rows_at t is) (bits_of w))) hs (scales-lie s k hs lo hi).1 bs))))

module _ (file : List ℕ) (k : ℕ) (l : List ℤ) where
  pub scaled-judged : (w bs : List ℕ) → 1 ≤ k → k ≤ max_scale → each_within frame_limit (times k l) ≡ true → judge file l w (at_scale k bs) ≡ judge file (times k l) w (at_scale 1 bs)
  scaled-judged w bs lo hi range = ap (λ n. judge file l w (at_scale n bs)) (sym (one-mul k)) ∙ judge-times k l lo range file 1 w bs (omega arith) (omega arith)

  -- ---- a call for rounds on k times the frame
  -- the certificate that stands in the buffers afterwards, at scale k
  abbrev certificate_after : Called → List ℕ
  certificate_after d = at_scale k (certificate_in d.run.buffers.certificate)

  -- the judge certifies by it, for the frame, the word that stands there, with the mark of the reduced numbers
  abbrev pub ScaledAfter : Table → Called → Type 0
  ScaledAfter t d = judge file l (take t.bits d.run.buffers.word) (certificate_after d) ≡ gives (passes (sole_read t l (certificate_after d)))

  module _ (v : ℕ) (r : Run) (t : Table) (is_file : code_file file ≡ gives t) where
    pub call-scaled : 1 ≤ k → k ≤ max_scale → (call file (times k l) v r).answer ≡ gives certified → ScaledAfter t (call file (times k l) v r)
    call-scaled lo hi = call_ends file (times k l) v r t is_file (ScaledAfter t)
        (λ d a e. judge-marked file l _ _ t is_file _ (scaled-judged _ (certificate_in d.run.buffers.certificate) lo hi a.frame.range
        ∙ ap (judge file (times k l) _) (ended-scale t (times k l) d.run e (file-sound file t is_file).checks.1)
        ∙ ended-passes t (times k l) d.run e file is_file a.frame))
