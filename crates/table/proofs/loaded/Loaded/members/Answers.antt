-- `members` meets its contract: check j's part of the members is that check. Assumes nothing.
use mathlib.Core.Path.{◌≡◌, refl, sym, ◌∙◌, ap, subst}
use mathlib.Core.List.{List}
use Prim.Native.Nat.{ℕ, ◌≤◌, ◌<◌}
use native.Mathlib.Omega.{arith}
use lib.ListN.{length}
use Rattle.rules.specs.Limits.{max_degree}
use Rattle.rules.specs.Table.{Table, checks_of}
use Rattle.rules.specs.Sound.{Below}
use Rattle.rules.specs.Certificate.{members_at}
use Rattle.table.specs.Layout.{checks_from, table_of, Holds}
use Rattle.table.proofs.LayoutLaws.{starts-long, part-lent, part-degree, part-below, part_in_lem}
use Rattle.table.proofs.loaded.Loaded.members.Goals as goal

-- check j is one of the table's
inside : {n j m : ℕ} (ss ms : List ℕ) {t : Table} → table_of n ss ms ≡ t → m ≡ checks_of t → j < m → j < length (checks_from ss ms)
inside ss ms e h k = omega (arith, h, k, ap checks_of e)

-- and what the code relies on there
right : {n : ℕ} (ss ms : List ℕ) {t : Table} → Holds n ss ms → table_of n ss ms ≡ t → (j : ℕ) → j < length (checks_from ss ms)
    → (length (members_at t j) ≤ max_degree) × Below t.bits (members_at t j)
right ss ms h e j k = subst (λ t. (length (members_at t j) ≤ max_degree) × Below t.bits (members_at t j)) e (part-degree _ ss ms h j k, part-below _ ss ms h j k)

pub bounds-self-inside-j : goal.bounds-self-inside-j
bounds-self-inside-j c = let k = inside _ _ c.self.view_is c.checks.ensures c.if-checks-j.false in omega (arith, starts-long _ _ _ c.self.invariant, k)

pub bounds-self-inside-j-2 : goal.bounds-self-inside-j-2
bounds-self-inside-j-2 c = let k = inside _ _ c.self.view_is c.checks.ensures c.if-checks-j.false in omega (arith, starts-long _ _ _ c.self.invariant, k)

pub slice_bounds-result-count : goal.slice_bounds-result-count
slice_bounds-result-count c = (part_in_lem _ _ _ c.self.invariant _ (inside _ _ c.self.view_is c.checks.ensures c.if-checks-j.false)).0

pub slice_bounds-result-start : goal.slice_bounds-result-start
slice_bounds-result-start c = (part_in_lem _ _ _ c.self.invariant _ (inside _ _ c.self.view_is c.checks.ensures c.if-checks-j.false)).0

pub slice_bounds-result-end-2 : goal.slice_bounds-result-end-2
slice_bounds-result-end-2 c = (part_in_lem _ _ _ c.self.invariant _ (inside _ _ c.self.view_is c.checks.ensures c.if-checks-j.false)).1

pub returns : goal.returns
returns c =
    let k = inside _ _ c.self.view_is c.checks.ensures c.if-checks-j.false in
    let part = part-lent _ _ _ c.self.invariant _ k refl refl ∙ ap (λ t. members_at t c.args.j) c.self.view_is in
    let fits = subst (λ l. (length l ≤ max_degree) × Below c.args.self.now.bits l) (sym part) (right _ _ c.self.invariant c.self.view_is c.args.j k) in
    (part, fits.0, fits.1)
