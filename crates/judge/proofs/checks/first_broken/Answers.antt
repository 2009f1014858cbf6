-- `first_broken` meets its contract: the check that is found is broken, and those before it are met. Assumes nothing.
use mathlib.Core.Path.{◌≡◌, refl, ◌∙◌, ap}
use mathlib.Core.Bool.{Bool, true, false, cond}
use mathlib.Core.List.{List, [], ◌∷◌}
use mathlib.Core.Option.{some, none}
use Prim.Native.Nat.{ℕ, zero, suc, ◌+◌, ◌≤◌, ◌<◌}
use native.Mathlib.Omega.{arith}
use lib.ListN.{length, get_or}
use Rattle.std.proofs.Common.{rules}
use Rattle.std.proofs.lemmas.Iterator.{first_from_Range}
use Rattle.std.specs.Option.{MatchOption}
use Rattle.std.specs.Prelude.{Option, Some, None}
use Rattle.rules.specs.Table.{bits_at}
use Rattle.rules.specs.Parity.{odd, first_broken}
use Rattle.rules.specs.Input.{bits_of}
use Rattle.judge.specs.Reply.{found_in}
use Rattle.judge.proofs.checks.first_broken.Goals as goal

module _ (w : List Bool) where
  -- check k of these is met for false, broken for true
  abbrev Is : Bool → List (List ℕ) → ℕ → Type 0
  Is b cs k = b ≡ odd (bits_at w (get_or cs k []))

  met : (j : ℕ) (cs : List (List ℕ)) → ((k : ℕ) → k < length cs → Is false cs k) → none ≡ first_broken j w cs
  met j [] f = refl
  met j (ms ∷ cs) f =
      met (suc j) cs (λ k h. f (suc k) (omega (arith, h))) ∙ ap (λ b. cond b (some j) (first_broken (suc j) w cs)) (f 0 (omega arith))

  broken : (j k : ℕ) {i : ℕ} (cs : List (List ℕ)) → i ≡ j + k → k < length cs → Is true cs k → ((l : ℕ) → l < k → Is false cs l) → some i ≡ first_broken j w cs
  broken j k [] e h y f = absurd (omega (arith, h))
  broken j zero (ms ∷ cs) e h y f = ap some (omega (arith, e)) ∙ ap (λ b. cond b (some j) (first_broken (suc j) w cs)) y
  broken j (suc k) (ms ∷ cs) e h y f =
      broken (suc j) k cs (omega (arith, e)) (omega (arith, h)) y (λ l b. f (suc l) (omega (arith, b)))
      ∙ ap (λ b. cond b (some j) (first_broken (suc j) w cs)) (f 0 (omega arith))

  found : (n : ℕ) (cs : List (List ℕ)) → n ≡ length cs → (r : Option ℕ)
      → MatchOption r ((k : ℕ) → 0 ≤ k → k < n → Is false cs k) (λ i. (0 ≤ i) × (i < n) × Is true cs i × ((k : ℕ) → 0 ≤ k → k < i → Is false cs k))
      → found_in r ≡ first_broken 0 w cs
  found n cs e None f = met 0 cs (λ k h. f k (omega arith) (omega (arith, e, h)))
  found n cs e (Some i) f = broken 0 i cs (omega arith) (omega (arith, e, f.1)) f.2 (λ k h. f.3 k (omega arith) h)

pub returns : goal.returns
returns c =
    let w = bits_of c.args.word.now in
    let cs = c.args.table.now.checks in
    found w _ cs c.checks.ensures _
    (first_from_Range _ _ _ _ (Is w true cs) (Is w false cs) c.find.ensures.ran (λ j q k. search rules) (λ j q k. (search rules, search rules)))
