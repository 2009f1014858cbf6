-- The answer of a search on a table and on a code file, in each of its cases. Assumes nothing.
use mathlib.Core.Path.{◌≡◌, refl, sym, ◌∙◌, ap, ap₂, subst}
use mathlib.Core.Bool.{Bool, cond, ◌&&◌}
use mathlib.Core.List.{List, [], ◌∷◌}
use mathlib.Core.Option.{Option, some, none}
use Prim.Native.Nat.{ℕ, ◌<◌}
use native.Mathlib.Decide.{ℕ_discrete}
use lib.Dec.{eqb, ltb}
use lib.ListN.{length}
use lib.IntN.{ℤ}
use borrow.Author.Tests.{eqb-true, ltb-true, eq-eqb, ne_eqb}
use Rattle.integers.specs.Sum.{AllWithin}
use Rattle.integers.specs.Clip.{clip-mid}
use Rattle.rules.specs.Limits.{unit}
use Rattle.rules.specs.Refusal.{Answer, refused, gives, then, asked_too_much}
use Rattle.rules.specs.Table.{Table, at, values_at, checks_of}
use Rattle.rules.specs.CodeFile.{code_file}
use Rattle.rules.specs.Input.{each_within, on_check}
use Rattle.rules.specs.Cut.{cut, Violation, measured, violation, cut_search, mask_answer, cut_answer}
use Rattle.rules.specs.Certificate.{members_at}
use Rattle.rules.specs.Step.{clips}
use Rattle.rules.proofs.Basics.{and_both}
use Rattle.rules.proofs.RangeLaws.{each_all}
use Rattle.rules.proofs.Optimal.{within-at}
use Rattle.rules.proofs.DepthLaws.{depth-cut, violation-is⇔}
use Rattle.inputs.specs.Refusals.{point_refusal, turned_down}
use Rattle.inputs.proofs.RefusalLaws.{else-none, cond-none, test-number, turned-else, turned-refused, turned_none}
use Rattle.inputs.proofs.InputLaws.{point-law}
use Rattle.cut.specs.CutMask.{cut_mask, CutIs}
use Rattle.cut.specs.Search.{search_refusal, spins_at, search_on, cut_gives}
use Rattle.cut.proofs.MaskLaws.{mask-none, mask-some}

-- ---- the point
pub point-right : (n : ℕ) (s : List ℤ) → point_refusal n s ≡ 0 → (length s ≡ n) × AllWithin unit s
unfolding point_refusal
point-right n s e =
    let p = and_both (eqb (length s) n) (each_within unit s) (cond-none (eqb (length s) n && each_within unit s) 0 15 e).0 in
    (eqb-true (length s) n p.0, each_all unit s p.1)

pub values-within : (u : ℕ) (s : List ℤ) (ms : List ℕ) → AllWithin u s → AllWithin u (values_at (at s) ms)
values-within u s [] w = tt
values-within u s (m ∷ ms) w = (within-at u s w m, values-within u s ms w)

clips-same : (u : ℕ) (vs : List ℤ) → AllWithin u vs → clips u vs ≡ vs
clips-same u [] w = refl
clips-same u (v ∷ vs) w = ap₂ ◌∷◌ (clip-mid u v w.0) (clips-same u vs w.1)

-- ---- mask and depth as an answer
cut-gives : (ss : List ℤ) (m d : ℕ) → CutIs ss m d → cut_gives m d ≡ mask_answer (gives (violation unit ss))
cut-gives ss m d e = go (ℕ_discrete m 0)
  where
    given : Bool → Answer (Option (Violation ℕ))
    given b = gives (cond b none (some (record { set = m; depth = d })))

    says : (o : Option (List Bool)) → cut unit ss ≡ o → mask_answer (gives (measured unit ss o)) ≡ mask_answer (gives (violation unit ss))
    says o p = ap (λ v. mask_answer (gives v)) (sym ((violation-is⇔ unit ss o).1 p))

    go : Dec (m ≡ 0) → cut_gives m d ≡ mask_answer (gives (violation unit ss))
    go (yes z) = ap given (eq-eqb m 0 z) ∙ says none (mask-none unit ss (sym e.0 ∙ z))
    go (no f) =
        let is = mask-some unit ss m e.0 f in
        ap given (ne_eqb m 0 f)
        ∙ ap₂ (λ n k. gives (some (record { set = n; depth = k }))) (e.0 ∙ ap cut_mask is) (e.1 ∙ depth-cut unit ss _ is)
        ∙ says (some _) is

-- ---- no refusal
pub none-refused : (n m : ℕ) (s : List ℤ) (j : ℕ) → search_refusal n m s j ≡ 0 → (point_refusal n s ≡ 0) × (j < m)
unfolding search_refusal
none-refused n m s j e =
    let p = else-none (point_refusal n s) (cond (ltb j m) 0 asked_too_much) e in
    (p.0, ltb-true j m (cond-none (ltb j m) 0 16 p.1).0)

-- ---- the answer on a table
abbrev pub refusal_on : Table → List ℤ → ℕ → ℕ
refusal_on t s j = search_refusal t.bits (checks_of t) s j

module _ (t : Table) (s : List ℤ) (j : ℕ) where
  search-law : search_on t s j ≡ turned_down (refusal_on t s j) (gives (violation unit (spins_at t s j)))
  unfolding search_refusal on_check turned_down
  search-law =
      let a = gives (violation unit (spins_at t s j)) in
      point-law t s (on_check t j a)
      ∙ ap (turned_down (point_refusal t.bits s)) (test-number (ltb j (checks_of t)) 16 0 a)
      ∙ turned-else (point_refusal t.bits s) (cond (ltb j (checks_of t)) 0 asked_too_much) a

  pub search-turned : (k : ℕ) → k ≡ refusal_on t s j → (k ≡ 0 → ⊥) → refused k ≡ mask_answer (search_on t s j)
  search-turned k e f =
      let a = gives (violation unit (spins_at t s j)) in
      ap mask_answer (turned-refused k a f ∙ ap (λ r. turned_down r a) e ∙ sym search-law)

  pub search-cut : (r : Answer (Option (Violation ℕ))) (m d : ℕ) → refusal_on t s j ≡ 0 → CutIs (clips unit (spins_at t s j)) m d → r ≡ cut_gives m d → r ≡ mask_answer (search_on t s j)
  search-cut r m d z e q =
      let vs = spins_at t s j in
      let point = (none-refused t.bits (checks_of t) s j z).0 in
      let same : clips unit vs ≡ vs = clips-same unit vs (values-within unit s (members_at t j) (point-right t.bits s point).1) in
      q ∙ cut-gives vs m d (subst (λ l. CutIs l m d) same e)
      ∙ ap mask_answer (turned_none (refusal_on t s j) (gives (violation unit vs)) z ∙ sym search-law)

-- ---- the answer on a code file
module _ (file : List ℕ) (s : List ℤ) (j : ℕ) where
  answer-is : (a : Answer Table) → code_file file ≡ a → mask_answer (then a (λ t. search_on t s j)) ≡ cut_answer file s j
  unfolding cut_answer cut_search
  answer-is a e = ap (λ x. mask_answer (then x (λ t. search_on t s j))) (sym e)

  pub search-refused : (k : ℕ) → code_file file ≡ refused k → refused k ≡ cut_answer file s j
  unfolding then
  search-refused k e = answer-is (refused k) e

  pub search-gives : (t : Table) → code_file file ≡ gives t → mask_answer (search_on t s j) ≡ cut_answer file s j
  unfolding then
  search-gives t e = answer-is (gives t) e
