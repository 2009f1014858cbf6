-- What a round has left and the rules' own words for it: the rows and the certificate of its entries from multipliers and masks, and its candidate from
-- the spins. Assumes nothing.
use mathlib.Core.Path.{◌≡◌, refl, sym, ◌∙◌, ap, ap₂}
use mathlib.Core.Bool.{Bool, true, false, cond}
use mathlib.Core.List.{List, [], ◌∷◌, ◌++◌}
use mathlib.Core.Option.{some}
use Prim.Native.Nat.{ℕ, suc, ◌+◌}
use native.Mathlib.Numerals.{one-add}
use native.Mathlib.Nat.{zero-add}
use lib.Dec.{eqb}
use lib.ListN.{length}
use lib.IntN.{ℤ}
use borrow.Author.Tests.{ne_eqb}
use Rattle.rules.specs.Bytes.{le16, le32}
use Rattle.rules.specs.Table.{at}
use Rattle.rules.specs.Parity.{odd, Alike}
use Rattle.rules.specs.Mask.{mask_of, set_of}
use Rattle.rules.specs.Cut.{negatives, keep}
use Rattle.rules.specs.Step.{Entry, inactive, active}
use Rattle.rules.specs.Bound.{rows_of}
use Rattle.rules.specs.Scatter.{row_of}
use Rattle.rules.specs.Round.{candidate}
use Rattle.rules.specs.Certificate.{cuts_in, content_bytes, body_bytes, certificate_of}
use Rattle.rules.specs.Buffers.{multipliers_of, masks_of}
use Rattle.rules.proofs.Basics.{none≢some, some_inj}
use Rattle.rules.proofs.Signs.{alike-length}
use Rattle.rules.proofs.Masks.{set-mask}
use Rattle.rules.proofs.WrittenPasses.{AllProper}
use Rattle.cut.proofs.MaskLaws.{odd-some}
use Rattle.writing.specs.Written.{cuts_from, contents_from, bodies_from, certificate_from}
use Rattle.decoder.specs.Closing.{with_row, rows_from}
use Rattle.spin.specs.Spin.{no_zero}
use Rattle.decoder.proofs.CandidateLaws.{candidate-is}

-- ---- an odd set has a mask that is not 0
not_none : (ts : List Bool) → odd ts ≡ true → eqb (mask_of ts) 0 ≡ false
not_none ts o = ne_eqb (mask_of ts) 0 (odd-some ts o)

-- ---- rows
row_back : (ms : List ℕ) (b : ℕ) (ts : List Bool) → Alike ts ms → row_of ms b (mask_of ts) ≡ record { members = ms; multiplier = b; set = ts }
row_back ms b ts h = ap (λ s. record { members = ms; multiplier = b; set = s }) (ap (λ n. set_of n (mask_of ts)) (alike-length ts ms h) ∙ set-mask ts)

pub rows-from : (cs : List (List ℕ)) (es : List Entry) → AllProper cs es → rows_from cs (multipliers_of es) (masks_of es) ≡ rows_of cs es
unfolding rows_from
rows-from [] [] p = refl
rows-from [] (e ∷ es) p = absurd p
rows-from (ms ∷ cs) [] p = absurd p
rows-from (ms ∷ cs) (inactive ∷ es) p = rows-from cs es p.1
rows-from (ms ∷ cs) (active b ts ∷ es) p = ap (λ t. with_row t (row_of ms b (mask_of ts)) (rows_from cs (multipliers_of es) (masks_of es))) (not_none ts p.0.0)
    ∙ ap₂ ◌∷◌ (row_back ms b ts p.0.1) (rows-from cs es p.1)

-- ---- the certificate
cuts-from : (cs : List (List ℕ)) (es : List Entry) → AllProper cs es → cuts_from (masks_of es) ≡ cuts_in es
unfolding cuts_from
cuts-from cs [] p = refl
cuts-from [] (e ∷ es) p = absurd p
cuts-from (ms ∷ cs) (inactive ∷ es) p = zero-add (cuts_from (masks_of es)) ∙ cuts-from cs es p.1
cuts-from (ms ∷ cs) (active b ts ∷ es) p = ap₂ (λ t n. cond t 0 1 + n) (not_none ts p.0.0) (cuts-from cs es p.1) ∙ one-add (cuts_in es)

contents-from : (j : ℕ) (cs : List (List ℕ)) (es : List Entry) → AllProper cs es → contents_from j (multipliers_of es) (masks_of es) ≡ content_bytes j es
unfolding contents_from
contents-from j cs [] p = refl
contents-from j [] (e ∷ es) p = absurd p
contents-from j (ms ∷ cs) (inactive ∷ es) p = contents-from (suc j) cs es p.1
contents-from j (ms ∷ cs) (active b ts ∷ es) p = ap₂ (λ t l. cond t [] (le16 j ++ le32 b) ++ l) (not_none ts p.0.0) (contents-from (suc j) cs es p.1)

bodies-from : (cs : List (List ℕ)) (es : List Entry) → AllProper cs es → bodies_from (masks_of es) ≡ body_bytes es
unfolding bodies_from
bodies-from cs [] p = refl
bodies-from [] (e ∷ es) p = absurd p
bodies-from (ms ∷ cs) (inactive ∷ es) p = bodies-from cs es p.1
bodies-from (ms ∷ cs) (active b ts ∷ es) p = ap₂ (λ t l. cond t [] (le32 (mask_of ts)) ++ l) (not_none ts p.0.0) (bodies-from cs es p.1)

pub certificate-from : (cs : List (List ℕ)) (es : List Entry) → AllProper cs es → certificate_from (multipliers_of es) (masks_of es) ≡ certificate_of es
unfolding certificate_from certificate_of
certificate-from cs es p = ap (λ q. le16 q ++ le16 1 ++ contents_from 0 (multipliers_of es) (masks_of es) ++ bodies_from (masks_of es)) (cuts-from cs es p)
    ∙ ap₂ (λ x y. le16 (cuts_in es) ++ le16 1 ++ x ++ y) (contents-from 0 cs es p) (bodies-from cs es p)

-- ---- the candidate is the word with ones at negative spins
pub candidate-negatives : (s : List ℤ) (w : List Bool) → candidate (length s) (at s) ≡ some w → w ≡ negatives s
candidate-negatives s w e = go (no_zero s) (sym (candidate-is s) ∙ e)
  where
    go : (b : Bool) → keep b (negatives s) ≡ some w → w ≡ negatives s
    go true e = sym (some_inj (negatives s) w e)
    go false e = absurd (none≢some e)
