-- A call for rounds: refused as it stands, or performed on the first parts of its buffers. Assumes nothing.
use mathlib.Core.Path.{◌≡◌, refl, sym, ◌∙◌, ap, ap₂, subst, fun_ext}
use mathlib.Core.Bool.{cond}
use mathlib.Core.List.{List}
use Prim.Native.Nat.{ℕ, ◌+◌, ◌≤◌, ◌<◌}
use borrow.Author.Tests.{eq-eqb}
use lib.ListN.{length}
use lib.IntN.{ℤ}
use Rattle.rules.specs.Limits.{frame_limit, max_checks, max_edges}
use Rattle.rules.specs.Refusal.{Answer, refused, gives, multiplier_large}
use Rattle.rules.specs.Table.{Table, edges, edges_of, checks_of}
use Rattle.rules.specs.CodeFile.{code_file}
use Rattle.rules.specs.Buffers.{Buffers, by_name, lengths_of, needs, over}
use Rattle.rules.specs.Run.{Status, running, certified, spent, Run, iterate, answer_at, refused_at, perform, call_on, call_by, call, Safe}
use Rattle.rules.proofs.AnswerLaws.{refused≢gives, gives-inj}
use Rattle.rules.proofs.Tables.{file-sound}
use Rattle.rules.proofs.BufferLaws.{fits-part}
use Rattle.rules.proofs.CallPasses.{running-is}
use Rattle.rules.proofs.RangeLaws.{each_all}
use Rattle.rules.proofs.Runs.{sound-safe}
use Rattle.rules.proofs.Counted.{all-counted}
use Rattle.table.specs.Starts.{starts_of}
use Rattle.table.specs.Layout.{Opened}
use Rattle.table.proofs.LayoutLaws.{laid-opened}
use Rattle.std.specs.Prelude.{Result, Ok, Err}
use Rattle.limits.specs.declared.refusals.Refusal.{Refusal}
use Rattle.limits.specs.Numbers.{number_of}
use Rattle.table.specs.declared.Sizes as table
use Rattle.run.specs.Slices.{lent_of, told_of}
use Rattle.run.specs.Admitted.{Sizes, sizes_by, admitted_of, sizes_of, Admission, admission_by, admission}
use Rattle.run.proofs.AdmitLaws.{Admits, admits-refused, admits-gives, admission-room}
use Rattle.decoder.specs.Finished.{front_table, PartsFit}

-- ---- admission to a run's next call, with all its buffers lent: of a table, of a code file, and as the code answers it
abbrev admission_of : Answer Table → List ℤ → ℕ → Run → List ℕ → List ℕ → Admission
admission_of a l wanted r ss ms = admission_by a l wanted (lengths_of r.buffers) r.progress r.buffers.copies r.buffers.offsets r.buffers.sums ss ms

abbrev pub admission_in : List ℕ → List ℤ → ℕ → Run → List ℕ → List ℕ → Admission
admission_in file l wanted r ss ms =
    let b = r.buffers in
    admission file l wanted (lent_of (told_of b) b.copies b.offsets b.sums) r.progress b.copies b.offsets b.sums ss ms

abbrev answered : Result table.Sizes Refusal → List ℕ → List ℕ → Admission
answered a ss ms = record { answer = admitted_of a; starts = ss; members = ms }

told-lengths : (b : Buffers) → lent_of (told_of b) b.copies b.offsets b.sums ≡ lengths_of b
told-lengths b = fun_ext (by_name (search))

-- ---- refused
refused-by : (k : ℕ) (a : Answer Table) (l : List ℤ) (wanted : ℕ) (r : Run) (ss ms : List ℕ) → refused k ≡ (admission_of a l wanted r ss ms).answer → refused_at k r ≡ call_by l wanted r a
unfolding call_on
refused-by k (refused j) l wanted r ss ms e = ap (λ x. record { answer = x; run = r }) (same k j e)
  where
    same : (k j : ℕ) → ◌≡◌ {A = Answer Sizes} (refused k) (refused j) → ◌≡◌ {A = Answer Status} (refused k) (refused j)
    same k j e = let z : k ≡ j = cc in ap refused z
refused-by k (gives t) l wanted r ss ms e = sym (ap (perform t l wanted r) (admits-refused t l wanted (lengths_of r.buffers) r k (sym e)))

-- ---- admitted
-- a run that has not ended has done every round that was due
pub answers : (s : Status) (a b : ℕ) → (s ≡ running → a ≡ b) → gives s ≡ answer_at s a b
answers running a b h = ap (λ t. cond t (gives running) (refused multiplier_large)) (sym (eq-eqb a b (h refl)))
answers certified a b h = refl
answers spent a b h = refl

-- a run that has done its rounds, with the answer that it stands at, is the call's
abbrev Done : List ℕ → List ℤ → ℕ → Run → ℕ → ℕ → ℕ → List ℕ → List ℕ → Type 0
Done file l wanted r n m e ss ms =
    (x : Answer Status) (q : Run) → q ≡ iterate (front_table n m e ss ms) l wanted r → x ≡ gives q.progress.status → record { answer = x; run = q } ≡ call file l wanted r

-- starts and members have room for every table
module _ (file : List ℕ) (l : List ℤ) (wanted : ℕ) (r : Run) (ss ms : List ℕ) (hs : max_checks < length ss) (hm : max_edges ≤ length ms) where
  roomy-in : admission_in file l wanted r ss ms ≡ admission_of (code_file file) l wanted r ss ms
  roomy-in =
      let z = r.buffers.copies in
      let y = r.buffers.offsets in
      let x = r.buffers.sums in
      admission-room file ss ms hs hm l wanted (lent_of (told_of r.buffers) z y x) r.progress z y x
      ∙ ap (λ n. admission_by (code_file file) l wanted n r.progress z y x ss ms) (told-lengths r.buffers)

  -- with the table's own sizes, starts and members
  module _ (t : Table) (is_file : code_file file ≡ gives t) (a : Admits t l wanted (lengths_of r.buffers) r (sizes_of t)) where
    -- starts and members as they were left, in front of what was there
    abbrev starts_in : List ℕ
    starts_in = over (starts_of 0 t.checks) ss

    abbrev members_in : List ℕ
    members_in = over (edges t.checks) ms

    opened : Opened file t.bits (checks_of t) (edges_of t) starts_in members_in
    opened = laid-opened file t is_file ss ms hs hm

    table_is : front_table t.bits (checks_of t) (edges_of t) starts_in members_in ≡ t
    table_is = gives-inj _ t (sym opened.is_file ∙ is_file)

    parts-fit : PartsFit t.bits (checks_of t) (edges_of t) l starts_in members_in r
    parts-fit = record {
      size = a.frame_long;
      frame = each_all frame_limit l a.frame;
      few = (file-sound file t is_file).checks.1;
      starts_room = opened.starts_room;
      members_room = opened.members_room;
      holds = opened.holds;
      checks = ap checks_of (sym table_is);
      room = fits-part (needs t) (lengths_of r.buffers) a.room;
      runs = running-is r.progress.status a.running;
      safe = subst (λ x. Safe x r) (sym table_is) (sound-safe t r a.sound);
    }

    parts-call : Done file l wanted r t.bits (checks_of t) (edges_of t) starts_in members_in
    unfolding call call_on
    parts-call x q e f =
        let due = answers end.progress.status end.progress.rounds (r.progress.rounds + wanted) (all-counted t l wanted r (sound-safe t r a.sound)) in
        ap₂ (λ y p. record { answer = y; run = p }) (f ∙ ap (λ p. gives p.progress.status) is ∙ due) is
        ∙ ap (perform t l wanted r) (sym a.admitted) ∙ ap (call_by l wanted r) (sym is_file)
      where
        end : Run
        end = iterate t l wanted r

        is : q ≡ iterate t l wanted r
        is = e ∙ ap (λ x. iterate x l wanted r) table_is

  -- whatever was admitted: the call fits its parts, and they are all of it
  abbrev Fits : ℕ → ℕ → ℕ → List ℕ → List ℕ → Type 0
  Fits n m e ss' ms' = (PartsFit n m e l ss' ms' r) × Done file l wanted r n m e ss' ms'

  Good : Admission → Type 0
  Good d = (z : Sizes) → d.answer ≡ gives z → Fits z.bits z.checks z.edges d.starts d.members

  good-by : (a : Answer Table) → code_file file ≡ a → Good (admission_of a l wanted r ss ms)
  unfolding Good
  good-by (refused k) f z e = absurd (refused≢gives e)
  good-by (gives t) f z e =
      subst (λ y. Fits y.bits y.checks y.edges (over (starts_of 0 t.checks) ss) (over (edges t.checks) ms)) (sym a.sizes) (parts-fit t f a', parts-call t f a')
    where
      a : Admits t l wanted (lengths_of r.buffers) r z
      a = admits-gives t l wanted (lengths_of r.buffers) r z e

      a' : Admits t l wanted (lengths_of r.buffers) r (sizes_of t)
      a' = subst (Admits t l wanted (lengths_of r.buffers) r) a.sizes a

  admitted-good : (z : table.Sizes) (ss' ms' : List ℕ) → answered (Ok z) ss' ms' ≡ admission_in file l wanted r ss ms → Fits z.bits z.checks z.edges ss' ms'
  unfolding Good
  admitted-good z ss' ms' f = subst Good (sym (f ∙ roomy-in)) (good-by (code_file file) refl) (sizes_by z) refl

  -- ---- by the case that the code's answer a was found to be
  module _ (a : Result table.Sizes Refusal) (ss' ms' : List ℕ) (e : answered a ss' ms' ≡ admission_in file l wanted r ss ms) where
    pub found-refused : (k : Refusal) → a ≡ Err k → refused_at (number_of k) r ≡ call file l wanted r
    unfolding call
    found-refused k f = refused-by (number_of k) (code_file file) l wanted r ss ms (ap (λ x. (answered x ss' ms').answer) (sym f) ∙ ap (λ d. d.answer) (e ∙ roomy-in))

    module _ (z : table.Sizes) (f : a ≡ Ok z) where
      found-good : Fits z.bits z.checks z.edges ss' ms'
      found-good = admitted-good z ss' ms' (ap (λ x. answered x ss' ms') (sym f) ∙ e)

      pub found-fit : PartsFit z.bits z.checks z.edges l ss' ms' r
      found-fit = found-good.0

      pub found-call : Done file l wanted r z.bits z.checks z.edges ss' ms'
      found-call = found-good.1
