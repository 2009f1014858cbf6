-- The tests of document 01 in front of an answer, as a refusal's number. Assumes nothing.
use mathlib.Core.Path.{◌≡◌, ◌∙◌, ap}
use mathlib.Core.Bool.{cond, ◌&&◌}
use mathlib.Core.List.{List}
use Prim.Native.Nat.{ℕ}
use lib.Dec.{eqb}
use lib.ListN.{length}
use lib.IntN.{ℤ}
use Rattle.rules.specs.Limits.{unit, frame_limit}
use Rattle.rules.specs.Refusal.{Answer, must, frame_length, frame_range}
use Rattle.rules.specs.Table.{Table}
use Rattle.rules.specs.Input.{each_within, each_bit, on_frame, on_word, on_point}
use Rattle.inputs.specs.Refusals.{frame_refusal, word_refusal, point_refusal, turned_down}
use Rattle.inputs.proofs.RefusalLaws.{test-number}

module _ {A : Type 0} (t : Table) where
  pub frame-law : (l : List ℤ) (a : Answer A) → on_frame t l a ≡ turned_down (frame_refusal t.bits l) a
  unfolding on_frame frame_refusal turned_down
  frame-law l a =
      ap (must (eqb (length l) t.bits) frame_length) (test-number (each_within frame_limit l) 8 0 a)
      ∙ test-number (eqb (length l) t.bits) 7 (cond (each_within frame_limit l) 0 frame_range) a

  pub word-law : (w : List ℕ) (a : Answer A) → on_word t w a ≡ turned_down (word_refusal t.bits w) a
  unfolding on_word word_refusal turned_down
  word-law w a = test-number (eqb (length w) t.bits && each_bit w) 14 0 a

  pub point-law : (s : List ℤ) (a : Answer A) → on_point t s a ≡ turned_down (point_refusal t.bits s) a
  unfolding on_point point_refusal turned_down
  point-law s a = test-number (eqb (length s) t.bits && each_within unit s) 15 0 a
