-- `read` meets its contract: each return has the tests that led there. Assumes nothing.
use mathlib.Core.Path.{sym, ◌∙◌}
use Rattle.rules.proofs.AnswerLaws.{range-both}
use Rattle.judge.proofs.RefusalLaws.{certificate-short, certificate-many, certificate-long, certificate-scale, certificate-right}
use Rattle.judge.proofs.entries.Certificate.read.Goals as goal

pub returns-then-bytes-lt4 : goal.returns-then-bytes-lt4
returns-then-bytes-lt4 c = certificate-short _ c.if-bytes-lt4.true

pub returns-then-entries-gt-MAX_ENTRIES : goal.returns-then-entries-gt-MAX_ENTRIES
returns-then-entries-gt-MAX_ENTRIES c = certificate-many _ _ c.u16_at-entries.ensures.0 c.if-bytes-lt4.false c.if-entries-gt-MAX_ENTRIES.true

pub returns-then-bytes-entries : goal.returns-then-bytes-entries
returns-then-bytes-entries c = certificate-long _ _ c.u16_at-entries.ensures.0 c.if-bytes-lt4.false c.if-entries-gt-MAX_ENTRIES.false c.if-bytes-entries.true

pub returns-then-not-in_range : goal.returns-then-not-in_range
returns-then-not-in_range c =
    certificate-scale _ _ c.u16_at-entries.ensures.0 c.if-bytes-lt4.false c.if-entries-gt-MAX_ENTRIES.false c.if-bytes-entries.false
    _ c.u16_at-scale.ensures.0 (sym c.in_range.ensures ∙ c.if-not-in_range.true)

pub invariant_of-result : goal.invariant_of-result
invariant_of-result c = (
  c.u16_at-entries.ensures.0,
  record { few = c.if-entries-gt-MAX_ENTRIES.false; size = c.if-bytes-entries.false },
  c.u16_at-scale.ensures.0,
  (range-both _ _ _ (sym c.in_range.ensures ∙ c.if-not-in_range.false)).1,
)

pub returns : goal.returns
returns c =
    certificate-right _ _ c.u16_at-entries.ensures.0 c.if-bytes-lt4.false c.if-entries-gt-MAX_ENTRIES.false c.if-bytes-entries.false
    _ c.u16_at-scale.ensures.0 (sym c.in_range.ensures ∙ c.if-not-in_range.false)
