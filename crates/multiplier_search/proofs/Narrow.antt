-- Document 02, #108: every sum that the search for a check's multiplier forms, from the heights to the last step, is below 2^31 in size, in every round of
-- every call that is not refused. The largest is 268,181,535, and specs/Examples meets it. Assumes nothing.
use mathlib.Core.Path.{◌≡◌, refl, sym, ◌∙◌, ap, subst}
use mathlib.Core.Bool.{Bool}
use mathlib.Core.List.{List, [], ◌∷◌}
use mathlib.Core.Option.{Option, some, none}
use Prim.Native.Nat.{ℕ, ◌*◌, ◌≤◌, ◌<◌}
use native.Mathlib.Omega.{arith}
use lib.ListN.{length, drop}
use lib.IntN.{ℤ}
use Rattle.integers.specs.Linear.{Within}
use Rattle.integers.specs.Sum.{AllWithin}
use Rattle.rules.specs.Limits.{unit, round_limit, offset_per_round, offset_limit, value_limit, max_degree}
use Rattle.rules.specs.Refusal.{Answer, refused, gives}
use Rattle.rules.specs.Table.{Table, edges}
use Rattle.rules.specs.Sound.{Degrees}
use Rattle.rules.specs.CodeFile.{code_file}
use Rattle.rules.specs.Cut.{cut}
use Rattle.rules.specs.Step.{clips}
use Rattle.rules.specs.Round.{State, spin, values}
use Rattle.rules.specs.Buffers.{lengths_of}
use Rattle.rules.specs.Run.{Status, running, Run, state_in, iterate, Safe, admits, perform, call_on, call_by, call}
use Rattle.rules.proofs.Signs.{alike-length, alike-sym, alike-trans}
use Rattle.rules.proofs.AnswerLaws.{refused≢gives}
use Rattle.rules.proofs.Steps.{clips-alike}
use Rattle.rules.proofs.Tables.{file-sound}
use Rattle.rules.proofs.Pass.{append-within, drop-within, all-wider, values-within, values-alike}
use Rattle.rules.proofs.Runs.{spin-within, iterate-safe, sound-safe, admitted-sound}
use Rattle.rules.proofs.CutRule.{cut-sound}
use Rattle.cut.specs.Heights.{heights_of}
use Rattle.multiplier_search.specs.Sums.{narrow_limit, widest, see_sums, cut_sums, search_sums, pass_sums, round_sums, RoundsWithin}
use Rattle.multiplier_search.proofs.StartLaws.{rising}
use Rattle.multiplier_search.proofs.WidestLaws.{narrow, see-within}
use Rattle.multiplier_search.proofs.ClimbLaws.{climb-within}

-- ---- on a check's values, in a pass, in a round
search-within : (vs : List ℤ) → length vs ≤ max_degree → AllWithin value_limit vs → AllWithin widest (search_sums vs)
unfolding search_sums
search-within vs few small = append-within widest (see_sums vs) (cut_sums (cut unit (clips unit vs)) vs) (see-within vs few small) (go (cut unit (clips unit vs)) refl)
  where
    go : (o : Option (List Bool)) → cut unit (clips unit vs) ≡ o → AllWithin widest (cut_sums o vs)
    go none e = tt
    go (some ts) e =
        let c = cut-sound unit (clips unit vs) ts e in
        climb-within (heights_of ts vs) (rising ts vs few small (alike-trans ts (clips unit vs) vs c.long (alike-sym vs (clips unit vs) (clips-alike unit vs))) c)

pass-within : (f : ℕ → ℤ) → ((i : ℕ) → Within unit (f i)) → (cs : List (List ℕ)) (ys : List ℤ) → Degrees cs → AllWithin offset_limit ys → AllWithin widest (pass_sums f cs ys)
pass-within f w [] ys d h = tt
pass-within f w (ms ∷ cs) ys d h = append-within widest (search_sums (values f ms ys)) (pass_sums f cs (drop (length ms) ys))
    (search-within (values f ms ys) (subst (λ n. n ≤ max_degree) (sym (alike-length ms (values f ms ys) (values-alike f ms ys))) d.0) (values-within unit offset_limit f ms ys w h))
    (pass-within f w cs (drop (length ms) ys) d.1 (drop-within offset_limit (length ms) ys h))

-- of a running run within 43's limits
round-within : (t : Table) (l : List ℤ) (r : Run) → Degrees t.checks → Safe t r → r.progress.status ≡ running → AllWithin widest (round_sums t l (state_in t r.buffers))
unfolding round_sums
round-within t l r d h e = pass-within (spin unit (edges t.checks) l s) (spin-within unit (edges t.checks) l s) t.checks s.offsets d
    (all-wider (offset_per_round * r.progress.rounds) offset_limit s.offsets (early r.progress.rounds (h.early e)) h.offsets)
  where
    s : State
    s = state_in t r.buffers

    early : (k : ℕ) → k < round_limit → offset_per_round * k ≤ offset_limit
    early k h = omega arith

-- ---- the theorem: on any code file, frame, record and lent buffers, in every round of a call that is not refused
pub call-within : (file : List ℕ) (t : Table) (l : List ℤ) (v : ℕ) (r : Run) (s : Status) → code_file file ≡ gives t → (call file l v r).answer ≡ gives s → RoundsWithin widest t l r
unfolding call call_on
call-within file t l v r s is_file e = go (admits t l v (lengths_of r.buffers) r) refl (ap (λ a. (call_by l v r a).answer) (sym is_file) ∙ e)
  where
    go : (a : Answer (Unit {0})) → admits t l v (lengths_of r.buffers) r ≡ a → (perform t l v r a).answer ≡ gives s → RoundsWithin widest t l r
    go (refused k) p q = absurd (refused≢gives q)
    go (gives tt) p q = λ k runs. round-within t l (iterate t l k r) (file-sound file t is_file).degrees
        (iterate-safe t l k r (sound-safe t r (admitted-sound t l v (lengths_of r.buffers) r p))) runs

pub call-narrow : (file : List ℕ) (t : Table) (l : List ℤ) (v : ℕ) (r : Run) (s : Status) → code_file file ≡ gives t → (call file l v r).answer ≡ gives s → RoundsWithin narrow_limit t l r
call-narrow file t l v r s is_file e k runs = narrow (round_sums t l (state_in t (iterate t l k r).buffers)) (call-within file t l v r s is_file e k runs)
