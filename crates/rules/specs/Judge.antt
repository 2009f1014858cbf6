-- The judge of anybody's certificates (document 01, "Certificates"). Definitions only. Assumes nothing.
use Rattle.std.specs.Prelude.{◌≡◌, Bool, true, cond, List, [], ◌∷◌, ℕ, ℤ, pos, ◌*ℤ◌}
use Rattle.std.proofs.Math.Option.{Option, some, none}
use Rattle.rules.specs.Refusal.{Answer, gives, then, Reply, reply_of}
use Rattle.rules.specs.Table.{Table}
use Rattle.rules.specs.Parity.{first_broken, meets, agreement}
use Rattle.rules.specs.CodeFile.{code_file}
use Rattle.rules.specs.Input.{on_frame, on_word, bits_of}
use Rattle.rules.specs.Bound.{Row, bound, gap}
use Rattle.rules.specs.Mask.{digit}
use Rattle.rules.specs.Round.{is_zero}
use Rattle.rules.specs.Certificate.{on_certificate, scale_of, items_of, rows_at}
use Rattle.rules.specs.Sole.{sole}

-- "The checker answers the first broken check; if none, certified for gap 0, else the gap"; certified with the mark of a sole winner
pub data Verdict : Type 0 where
  breaks : ℕ → Verdict
  passes : Bool → Verdict
  misses : ℤ → Verdict

abbrev pub weigh : Option ℕ → ℤ → Bool → Verdict
weigh (some j) g m = breaks j
weigh none g m = cond (is_zero g) (passes m) (misses g)

unfoldable pub verdict : Table → ℕ → List ℤ → List Row → List Bool → Verdict
verdict t s l rs w = weigh (first_broken 0 w t.checks) (gap t.bits s l rs w) (sole t.bits s l rs)

-- demand 2's "the word meets all checks and its agreement, times the certificate's scale, equals the multipliers' bound"
abbrev pub MeetsBound : Table → ℕ → List ℤ → List Row → List Bool → Type 0
MeetsBound t s l rs w = (meets w t.checks ≡ true) × (pos s *ℤ agreement t.bits l w ≡ bound t.bits s l rs)

-- "1 to 7; then 8, 9, 15, 10, 11, entry by entry 12, 13, 14"
unfoldable pub judge : List ℕ → List ℤ → List ℕ → List ℕ → Answer Verdict
judge file l w bs =
    then (code_file file) (λ t. on_frame t l (on_word t w (on_certificate t bs (gives (verdict t (scale_of bs) l (rows_at t (items_of bs)) (bits_of w))))))

-- the values of the answer: 0 and the broken check; 1 for certified, its gap 0 and the mark; or 2 and the gap
abbrev pub verdict_values : Verdict → List ℤ
verdict_values (breaks j) = pos 0 ∷ pos j ∷ []
verdict_values (passes m) = pos 1 ∷ pos 0 ∷ pos (digit m) ∷ []
verdict_values (misses g) = pos 2 ∷ g ∷ []

unfoldable pub judge_reply : List ℕ → List ℤ → List ℕ → List ℕ → Reply
judge_reply file l w bs = reply_of verdict_values (judge file l w bs)

-- ---- the judge's parts, for callers who want them alone
-- whether a word meets all checks: the first broken one, or none
unfoldable pub syndrome : List ℕ → List ℕ → Answer (Option ℕ)
syndrome file w = then (code_file file) (λ t. on_word t w (gives (first_broken 0 (bits_of w) t.checks)))

-- the agreement of a word with a frame
unfoldable pub agreement_of : List ℕ → List ℤ → List ℕ → Answer ℤ
agreement_of file l w = then (code_file file) (λ t. on_frame t l (on_word t w (gives (agreement t.bits l (bits_of w)))))

abbrev pub agreement_values : ℤ → List ℤ
agreement_values a = a ∷ []
