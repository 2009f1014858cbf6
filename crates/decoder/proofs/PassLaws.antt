-- The pass over all checks, read at check j: its step, and its part of the copies and of the offsets. Assumes nothing.
use mathlib.Core.Path.{◌≡◌, refl, sym, ◌∙◌, ap}
use mathlib.Core.List.{List, [], ◌∷◌, ◌++◌}
use Prim.Native.Nat.{ℕ, zero, suc, ◌+◌, ◌<◌}
use native.Mathlib.Omega.{arith}
use lib.ListN.{length, get_or, take, drop}
use lib.Seq.{drop-drop, take_at, drop_at}
use lib.IntN.{ℤ}
use Rattle.rules.specs.Step.{Step, step}
use Rattle.rules.specs.Round.{values, pass, copies_in, offsets_in, entries_in, depths_in}
use Rattle.rules.specs.Buffers.{multiplier_of, multipliers_of, mask_in, masks_of}
use Rattle.rules.proofs.Signs.{alike-length}
use Rattle.rules.proofs.Pass.{pass-laid}
use Rattle.table.specs.Layout.{edges_before}

module _ (u : ℕ) (f : ℕ → ℤ) where
  abbrev pub step_at : List (List ℕ) → List ℤ → ℕ → Step
  step_at cs ys j = step u (values f (get_or cs j []) (drop (edges_before j cs) ys))

  -- lists that a pass strings together, each as long as its check
  module _ (g : Step → List ℤ) (all : List Step → List ℤ) (cons : (s : Step) (ss : List Step) → all (s ∷ ss) ≡ g s ++ all ss)
      (long : (ms : List ℕ) (ys : List ℤ) → length (g (step u (values f ms ys))) ≡ length ms) where
    part_at : (cs : List (List ℕ)) (ys : List ℤ) (j : ℕ) → j < length cs → take (length (get_or cs j [])) (drop (edges_before j cs) (all (pass u f cs ys))) ≡ g (step_at cs ys j)
    part_at [] ys j h = absurd (omega arith)
    part_at (ms ∷ cs) ys zero h =
        let s = step u (values f ms ys) in
        let ss = pass u f cs (drop (length ms) ys) in
        ap (take (length ms)) (cons s ss) ∙ take_at (g s) (all ss) (length ms) (long ms ys)
    part_at (ms ∷ cs) ys (suc j) h =
        let s = step u (values f ms ys) in
        let ss = pass u f cs (drop (length ms) ys) in
        ap (λ l. take (length (get_or cs j [])) (drop (length ms + edges_before j cs) l)) (cons s ss)
        ∙ ap (take (length (get_or cs j []))) (sym (drop-drop (edges_before j cs) (length ms) (g s ++ all ss)) ∙ ap (drop (edges_before j cs)) (drop_at (g s) (all ss) (length ms) (long ms ys)))
        ∙ part_at cs (drop (length ms) ys) j (omega arith)
        ∙ ap (λ l. g (step u (values f (get_or cs j []) l))) (drop-drop (edges_before j cs) (length ms) ys)

  pub copies_at : (cs : List (List ℕ)) (ys : List ℤ) (j : ℕ) → j < length cs → take (length (get_or cs j [])) (drop (edges_before j cs) (copies_in (pass u f cs ys))) ≡ (step_at cs ys j).copies
  copies_at = part_at (λ s. s.copies) copies_in (λ s ss. refl) (λ ms ys. alike-length ms (step u (values f ms ys)).copies (pass-laid u f (ms ∷ []) ys).0.copies)

  pub offsets-at : (cs : List (List ℕ)) (ys : List ℤ) (j : ℕ) → j < length cs → take (length (get_or cs j [])) (drop (edges_before j cs) (offsets_in (pass u f cs ys))) ≡ (step_at cs ys j).offsets
  offsets-at = part_at (λ s. s.offsets) offsets_in (λ s ss. refl) (λ ms ys. alike-length ms (step u (values f ms ys)).offsets (pass-laid u f (ms ∷ []) ys).0.offsets)

  -- numbers, one for each check
  module _ (g : Step → ℕ) (all : List Step → List ℕ) (cons : (s : Step) (ss : List Step) → all (s ∷ ss) ≡ g s ∷ all ss) where
    number_at : (cs : List (List ℕ)) (ys : List ℤ) (j : ℕ) → j < length cs → get_or (all (pass u f cs ys)) j 0 ≡ g (step_at cs ys j)
    number_at [] ys j h = absurd (omega arith)
    number_at (ms ∷ cs) ys zero h = ap (λ l. get_or l 0 0) (cons (step u (values f ms ys)) (pass u f cs (drop (length ms) ys)))
    number_at (ms ∷ cs) ys (suc j) h =
        ap (λ l. get_or l (suc j) 0) (cons (step u (values f ms ys)) (pass u f cs (drop (length ms) ys)))
        ∙ number_at cs (drop (length ms) ys) j (omega arith)
        ∙ ap (λ l. g (step u (values f (get_or cs j []) l))) (drop-drop (edges_before j cs) (length ms) ys)

  pub multiplier-at : (cs : List (List ℕ)) (ys : List ℤ) (j : ℕ) → j < length cs → get_or (multipliers_of (entries_in (pass u f cs ys))) j 0 ≡ multiplier_of (step_at cs ys j).entry
  multiplier-at = number_at (λ s. multiplier_of s.entry) (λ ss. multipliers_of (entries_in ss)) (λ s ss. refl)

  pub mask_at : (cs : List (List ℕ)) (ys : List ℤ) (j : ℕ) → j < length cs → get_or (masks_of (entries_in (pass u f cs ys))) j 0 ≡ mask_in (step_at cs ys j).entry
  mask_at = number_at (λ s. mask_in s.entry) (λ ss. masks_of (entries_in ss)) (λ s ss. refl)

  pub depth-at : (cs : List (List ℕ)) (ys : List ℤ) (j : ℕ) → j < length cs → get_or (depths_in (pass u f cs ys)) j 0 ≡ (step_at cs ys j).depth
  depth-at = number_at (λ s. s.depth) depths_in (λ s ss. refl)
