-- The cut search's rule (document 01, "Parity inequalities and the cut search"): for an accepted code file, n spins from −U to U and a check number
-- below m, the answer is V with its depth exactly if V is odd, as long as the check, and violated; "none is answered exactly if no odd V is violated".
-- Then the same of what the code returns: `found_of r ≡ cut_answer file s j` is the contract of `search`. Assumes nothing.
use mathlib.Core.Path.{◌≡◌, refl, sym, ◌∙◌, ap, subst}
use mathlib.Core.Bool.{Bool, true, ◌&&◌}
use mathlib.Core.Logic.{◌↔◌}
use mathlib.Core.List.{List, []}
use mathlib.Core.Option.{Option, some, none}
use Prim.Native.Nat.{ℕ, ◌*◌, ◌≤◌, ◌<◌}
use lib.Dec.{eqb, ltb}
use lib.ListN.{length, get_or}
use lib.IntN.{ℤ, pos}
use borrow.Author.Tests.{eqb-true, ltb-true, eq-eqb, lt-ltb}
use Rattle.integers.specs.Sum.{AllWithin}
use Rattle.rules.specs.Limits.{unit}
use Rattle.rules.specs.Refusal.{Answer, refused, gives, point_wrong, asked_too_much}
use Rattle.rules.specs.Table.{Table, at, values_at, checks_of}
use Rattle.rules.specs.CodeFile.{code_file}
use Rattle.rules.specs.Input.{each_within, on_point, on_check}
use Rattle.rules.specs.Mask.{mask_of, set_of}
use Rattle.rules.specs.Cut.{cut, shortfall, depth, Violation, with_depth, measured, violation, cut_search, mask_answer, cut_answer}
use Rattle.rules.specs.Certificate.{members_at}
use Rattle.rules.proofs.Basics.{none≢some, some_inj, and_both}
use Rattle.rules.proofs.Signs.{alike-length}
use Rattle.rules.proofs.Masks.{set-mask}
use Rattle.rules.proofs.AnswerLaws.{refused≢gives, gives-inj, must-gives, must-true, then-gives, then-of}
use Rattle.rules.proofs.CutRule.{Cuts, at_most_one, cut-finds, cut-some⇔, cut-none⇔}
use Rattle.rules.proofs.DepthLaws.{shortfall-is, depth-cut, depth-range, depth-greatest, violation-is⇔, violation-depth}
use Rattle.std.specs.Prelude.{Ok, None}
use Rattle.cut.specs.Reply.{Found, found_of, violated}
use Rattle.cut.specs.Search.{Inputs, spins_at, OnlyCut, NoCut}
use Rattle.rules.proofs.RangeLaws.{each_all}
use Rattle.cut.proofs.GatherLaws.{values_length}
use Rattle.cut.proofs.ReplyLaws.{values-within}
use Rattle.cut.proofs.ViewLaws.{found-inj}

module _ (file : List ℕ) (t : Table) (accepted : code_file file ≡ gives t) (s : List ℤ) (size : length s ≡ t.bits) (range : each_within unit s ≡ true) (j : ℕ) (listed : j < checks_of t) where
  -- the spins at the check's members
  spins : List ℤ
  spins = values_at (at s) (get_or t.checks j [])

  box : AllWithin unit spins
  unfolding spins
  box = values-within unit s (get_or t.checks j []) (each_all unit s range)

  search_is : cut_search file s j ≡ gives (violation unit spins)
  unfolding cut_search on_point on_check spins
  search_is =
      then-of (code_file file) t (λ t. on_point t s (on_check t j (gives (violation unit (values_at (at s) (get_or t.checks j [])))))) accepted
      ∙ must-true (eqb (length s) t.bits && each_within unit s) point_wrong _ (ap (λ b. b && each_within unit s) (eq-eqb (length s) t.bits size) ∙ range)
      ∙ must-true (ltb j (checks_of t)) asked_too_much _ (lt-ltb j (checks_of t) listed)

  answers : (o : Option (List Bool)) → (cut_search file s j ≡ gives (measured unit spins o)) ↔ (cut unit spins ≡ o)
  answers o = (λ e. (violation-is⇔ unit spins o).0 (gives-inj (violation unit spins) (measured unit spins o) (sym search_is ∙ e)), λ e. search_is ∙ ap gives ((violation-is⇔ unit spins o).1 e))

  -- the violation that is answered is a set with its depth
  pub search-depth : (v : Violation (List Bool)) → cut_search file s j ≡ gives (some v) → v ≡ with_depth unit (values_at (at s) (get_or t.checks j [])) v.set
  unfolding spins
  search-depth v e = violation-depth unit spins v (gives-inj (violation unit spins) (some v) (sym search_is ∙ e))

  pub search-mask⇔ : (vs : List Bool)
      → (cut_search file s j ≡ gives (some (with_depth unit (values_at (at s) (get_or t.checks j [])) vs))) ↔ Cuts unit vs (values_at (at s) (get_or t.checks j []))
  unfolding spins
  search-mask⇔ vs = (λ e. (cut-some⇔ unit spins vs box).0 ((answers (some vs)).0 e), λ c. (answers (some vs)).1 ((cut-some⇔ unit spins vs box).1 c))

  pub search-none⇔ : (cut_search file s j ≡ gives none) ↔ ((vs : List Bool) → Cuts unit vs (values_at (at s) (get_or t.checks j [])) → ⊥)
  unfolding spins
  search-none⇔ = (λ e. (cut-none⇔ unit spins box).0 ((answers none).0 e), λ f. (answers none).1 ((cut-none⇔ unit spins box).1 f))

-- ---- what the code returns
-- an answer's mask is a set's
mask-set : (w : Violation ℕ) (a : Answer (Option (Violation (List Bool)))) → gives (some w) ≡ mask_answer a
    → (v : Violation (List Bool)) × (a ≡ gives (some v)) × (w.set ≡ mask_of v.set) × (w.depth ≡ v.depth)
mask-set w (refused k) e = absurd (refused≢gives (sym e))
mask-set w (gives none) e = absurd (none≢some (sym (gives-inj (some w) none e)))
mask-set w (gives (some v)) e =
    let same = some_inj w (record { set = mask_of v.set; depth = v.depth }) (gives-inj (some w) (some (record { set = mask_of v.set; depth = v.depth })) e) in
    (v, refl, ap (λ x. x.set) same, ap (λ x. x.depth) same)

none-set : (a : Answer (Option (Violation (List Bool)))) → gives none ≡ mask_answer a → a ≡ gives none
none-set (refused k) e = absurd (refused≢gives (sym e))
none-set (gives none) e = refl
none-set (gives (some v)) e = absurd (none≢some (gives-inj none (some (record { set = mask_of v.set; depth = v.depth })) e))

module _ (file : List ℕ) (s : List ℤ) (j : ℕ) where
  -- where an answer is given, the inputs are right
  inputs-right : (o : Option (Violation (List Bool))) → cut_search file s j ≡ gives o → (t : Table) × Inputs file s j t
  unfolding cut_search on_point on_check
  inputs-right o e =
      let f = then-gives (code_file file) (λ t. on_point t s (on_check t j (gives (violation unit (spins_at t s j))))) o e in
      let t = f.value in
      let point = must-gives (eqb (length s) t.bits && each_within unit s) point_wrong (on_check t j (gives (violation unit (spins_at t s j)))) o f.second in
      let check = must-gives (ltb j (checks_of t)) asked_too_much (gives (violation unit (spins_at t s j))) o point.1 in
      let right = and_both (eqb (length s) t.bits) (each_within unit s) point.0 in
      (t, record { accepted = f.first; size = eqb-true (length s) t.bits right.0; range = right.1; listed = ltb-true j (checks_of t) check.0 })

  module _ (t : Table) (i : Inputs file s j t) where
    -- a set of the check's members, with its depth
    deep : List Bool → Violation (List Bool)
    deep vs = with_depth unit (spins_at t s j) vs

    mask⇔ : (vs : List Bool) → (cut_search file s j ≡ gives (some (deep vs))) ↔ Cuts unit vs (spins_at t s j)
    unfolding deep
    mask⇔ = search-mask⇔ file t i.accepted s i.size i.range j i.listed

    none⇔ : (cut_search file s j ≡ gives none) ↔ NoCut t s j
    none⇔ = search-none⇔ file t i.accepted s i.size i.range j i.listed

    -- a set as long as the check is read back from its mask
    set_back : (vs : List Bool) → Cuts unit vs (spins_at t s j) → set_of (length (members_at t j)) (mask_of vs) ≡ vs
    set_back vs c = ap (λ d. set_of d (mask_of vs)) (sym (values_length (at s) (members_at t j)) ∙ alike-length vs (spins_at t s j) c.long) ∙ set-mask vs

    only-cut : (vs : List Bool) (d : ℕ) → Cuts unit vs (spins_at t s j) → d ≡ shortfall unit vs (spins_at t s j) → OnlyCut t s j vs d
    only-cut vs d c k =
        let ss = spins_at t s j in
        let box : AllWithin unit ss = values-within unit s (members_at t j) (each_all unit s i.range) in
        let is = cut-finds unit ss vs box c in
        let deepest : d ≡ depth unit ss = k ∙ sym (depth-cut unit ss vs is) in
        record {
          cuts = c;
          only = λ ws b. at_most_one unit ss ws vs box b c;
          depth = ap pos k ∙ shortfall-is unit vs ss c;
          range = subst (λ n. (1 ≤ n) × (n ≤ 2 * unit)) (sym deepest) (depth-range unit ss vs box is);
          greatest = λ ws o h. subst (λ n. shortfall unit ws ss ≤ n) (sym deepest) (depth-greatest unit ss ws box o h);
        }

    answered : (m d : ℕ) (v : Violation (List Bool)) → cut_search file s j ≡ gives (some v) → m ≡ mask_of v.set → d ≡ v.depth → OnlyCut t s j (set_of (length (members_at t j)) m) d
    unfolding deep
    answered m d v e h k =
        let is : v ≡ deep v.set = search-depth file t i.accepted s i.size i.range j i.listed v e in
        let c = (mask⇔ v.set).0 (e ∙ ap (λ x. gives (some x)) is) in
        let same = ap (set_of (length (members_at t j))) h ∙ set_back v.set c in
        subst (λ vs. OnlyCut t s j vs d) (sym same) (only-cut v.set d c (k ∙ ap (λ x. x.depth) is))

    -- the answer that a set of the check's members is
    found_with : List Bool → Found
    found_with vs = violated (mask_of vs) (shortfall unit vs (spins_at t s j))

    cut-is : (vs : List Bool) → Cuts unit vs (spins_at t s j) → found_of (found_with vs) ≡ cut_answer file s j
    unfolding cut_answer deep found_with
    cut-is vs c = ap mask_answer (sym ((mask⇔ vs).1 c))

    none_is : NoCut t s j → found_of (Ok None) ≡ cut_answer file s j
    unfolding cut_answer
    none_is f = ap mask_answer (sym (none⇔.1 f))

    -- the one right answer
    answer-is : (a r : Found) → found_of a ≡ cut_answer file s j → (found_of r ≡ cut_answer file s j) ↔ (r ≡ a)
    answer-is a r e = (λ h. found-inj r a (h ∙ sym e), λ h. ap found_of h ∙ e)

    -- right inputs with a violated set have that set's mask and depth for their answer, and no other; without one, none
    pub violated-found : (vs : List Bool) → Cuts unit vs (spins_at t s j) → (r : Found) → (found_of r ≡ cut_answer file s j) ↔ (r ≡ violated (mask_of vs) (shortfall unit vs (spins_at t s j)))
    unfolding found_with
    violated-found vs c r = answer-is (found_with vs) r (cut-is vs c)

    pub none_found : NoCut t s j → (r : Found) → (found_of r ≡ cut_answer file s j) ↔ (r ≡ Ok None)
    none_found f r = answer-is (Ok None) r (none_is f)

  -- a mask that is answered is that of a violated set, the only one, and the depth says by how much
  pub found-violated : (m d : ℕ) → found_of (violated m d) ≡ cut_answer file s j → (t : Table) × Inputs file s j t × OnlyCut t s j (set_of (length (members_at t j)) m) d
  unfolding cut_answer
  found-violated m d e =
      let p = mask-set (record { set = m; depth = d }) (cut_search file s j) e in
      let i = inputs-right (some p.0) p.1 in
      (i.0, i.1, answered i.0 i.1 m d p.0 p.1 p.2 p.3)

  -- none is answered where no odd set is violated
  pub found_none : found_of (Ok None) ≡ cut_answer file s j → (t : Table) × Inputs file s j t × NoCut t s j
  unfolding cut_answer
  found_none e =
      let p = none-set (cut_search file s j) e in
      let i = inputs-right none p in
      (i.0, i.1, (none⇔ i.0 i.1).0 p)
