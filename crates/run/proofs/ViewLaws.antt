-- The contracts tell any two records and any two answers apart: each is read back from its view. Assumes nothing.
use mathlib.Core.Path.{◌≡◌, refl, ap}
use mathlib.Mathlib.Logic.Function.Defs.{LeftInverse-Injective}
use Rattle.std.specs.Prelude.{Result}
use Rattle.rules.specs.Run as rule
use Rattle.limits.specs.declared.refusals.Refusal.{Refusal}
use Rattle.limits.proofs.NumberLaws.{answer-inj}
use Rattle.table.specs.declared.Sizes as table
use Rattle.run.specs.declared.Status.{Status}
use Rattle.run.specs.declared.Status.TheVariants.{Running, Certified, Spent}
use Rattle.run.specs.declared.Record.{Record}
use Rattle.run.specs.Reply.{status_of, progress_of, started_of}
use Rattle.run.specs.Admitted.{sizes_by, admitted_of}

-- ---- the run's record
status-back : rule.Status → Status
status-back rule.running = Running
status-back rule.certified = Certified
status-back rule.spent = Spent

status-again : (s : Status) → status-back (status_of s) ≡ s
unfolding status-back
status-again Running = refl
status-again Certified = refl
status-again Spent = refl

pub status-inj : (a b : Status) → status_of a ≡ status_of b → a ≡ b
status-inj = LeftInverse-Injective status-back status_of status-again

record-back : rule.Progress → Record
record-back p = record { rounds = p.rounds; status = status-back p.status }

record-again : (r : Record) → record-back (progress_of r) ≡ r
unfolding record-back
record-again r = ap (λ s. record { rounds = r.rounds; status = s }) (status-again r.status)

pub progress-inj : (a b : Record) → progress_of a ≡ progress_of b → a ≡ b
progress-inj = LeftInverse-Injective record-back progress_of record-again

-- ---- the answers of a start and of admission
pub started-inj : (a b : Result Record Refusal) → started_of a ≡ started_of b → a ≡ b
started-inj = answer-inj progress_of progress-inj

sizes-inj : (a b : table.Sizes) → sizes_by a ≡ sizes_by b → a ≡ b
sizes-inj = LeftInverse-Injective (λ z. record { bits = z.bits; checks = z.checks; edges = z.edges }) sizes_by (λ z. refl)

pub admitted-inj : (a b : Result table.Sizes Refusal) → admitted_of a ≡ admitted_of b → a ≡ b
admitted-inj = answer-inj sizes_by sizes-inj
