-- An admitted call: what its rounds are given, and that the rounds on the first parts and the end make it. Assumes nothing.
use mathlib.Core.Path.{◌≡◌, refl, sym, ◌∙◌, ap, ap₂, subst}
use mathlib.Core.Bool.{Bool, true, false}
use mathlib.Core.List.{List, ◌++◌}
use mathlib.Core.Option.{some}
use Prim.Native.Nat.{ℕ, ◌*◌, ◌≤◌, ◌<◌}
use native.Mathlib.Omega.{arith}
use lib.ListN.{length, take, drop, get_or, take-append-drop}
use lib.Seq.{length-take-le}
use lib.IntN.{ℤ}
use Rattle.integers.specs.Sum.{AllWithin}
use Rattle.rules.specs.Limits.{unit, max_bits, max_checks, offset_per_round, certificate_length}
use Rattle.rules.specs.Table.{Table, edges, edges_of, degree_of}
use Rattle.rules.specs.Cut.{negatives, keep}
use Rattle.rules.specs.Round.{sums_of, Round}
use Rattle.rules.specs.Buffers.{spins, copies, offsets, sums, multipliers, masks, depths, word, certificate, Buffer, Elem, the, lent, lengths_of, needs_by, needs}
use Rattle.rules.specs.Buffers.{Part, part_of, over, over_by, word_left, certificate_left, multipliers_of, masks_of, bytes_of}
use Rattle.rules.specs.Run.{Status, running, certified, spent, Run, moved, state_in, iterate, Safe}
use Rattle.rules.specs.Calls.{lend}
use Rattle.rules.specs.Certificate.{certificate_of}
use Rattle.rules.proofs.Basics.{none≢some, some_inj}
use Rattle.rules.proofs.BufferLaws.{part-refl, lengths-part, take-over, AllPast, past-lengths}
use Rattle.rules.proofs.CallPasses.{round-proper}
use Rattle.rules.proofs.RoundSizes.{Sized, round-sized, state-part, sums_part}
use Rattle.rules.proofs.Runs.{coming, Kept, iterate-kept, held_start, iterate-held, running≢certified, spent≢certified}
use Rattle.rules.proofs.Lends.{iterate-lend}
use Rattle.writing.specs.Written.{certificate_from}
use Rattle.run.specs.Ending.{closing}
use Rattle.decoder.specs.Rounds.{Given, looped, filled, rounds_from, Steady}
use Rattle.decoder.specs.Finished.{Ending, ended_to, finished, FinishFits, front_table, PartsFit}
use Rattle.decoder.proofs.ClosingLaws.{certificate-from}
use Rattle.decoder.proofs.RoundLaws.{found_in, round-closed}
use Rattle.decoder.proofs.IterateLaws.{iterate-looped, filled-sizes}

pub room_after : {a b n : ℕ} → a ≡ b → n ≤ b → n ≤ a
room_after e h = omega (arith, e, h)

-- ---- the end of a call, by how the run stands
pub finish-other : (v : Status) (s : List ℤ) (bs ks w c : List ℕ) → (v ≡ certified → ⊥) → ended_to w c ≡ finished v s bs ks (ended_to w c)
finish-other running s bs ks w c f = refl
finish-other certified s bs ks w c f = absurd (f refl)
finish-other spent s bs ks w c f = refl

module _ (v : Status) (s : List ℤ) (bs ks w c : List ℕ) where
  pub finish-certified : (w' c' : List ℕ) → v ≡ certified → w' ≡ over (bytes_of (negatives s)) w → c' ≡ over (certificate_from bs ks) c
      → ended_to w' c' ≡ finished v s bs ks (ended_to w c)
  finish-certified w' c' e f g = ap₂ ended_to f g ∙ ap (λ x. finished x s bs ks (ended_to w c)) (sym e)

-- ---- the call
module _ {n m e : ℕ} {l : List ℤ} {ss ms : List ℕ} {r : Run} (h : PartsFit n m e l ss ms r) where
  abbrev t : Table
  t = front_table n m e ss ms

  edges-long : edges_of t ≡ e
  edges-long = ap length (sym h.holds.members) ∙ length-take-le e ms h.members_room

  -- what n, m and e need is what the table needs
  needs-are : needs_by n m e ≡ needs t
  needs-are = ap₂ (needs_by n) h.checks (sym edges-long)

  long : Part (needs t) (lengths_of r.buffers)
  long = subst (λ x. Part x (lengths_of r.buffers)) needs-are h.room

  part-sizes : lengths_of (part_of (needs_by n m e) r.buffers) ≡ needs t
  part-sizes = lengths-part (needs_by n m e) r.buffers h.room ∙ needs-are

  part-needs : Part (needs t) (needs_by n m e)
  part-needs = subst (Part (needs t)) (sym needs-are) (part-refl (needs t))

  part-safe : Safe t (lend (needs_by n m e) r)
  part-safe = record {
    copies = subst (λ s. AllWithin unit s.copies) (sym here) h.safe.copies;
    offsets = subst (λ s. AllWithin (offset_per_round * r.progress.rounds) s.offsets) (sym here) h.safe.offsets;
    sums = sums_part t (needs_by n m e) r.buffers part-needs ∙ h.safe.sums ∙ ap (sums_of t.bits (edges t.checks)) (sym here);
    early = h.safe.early;
  }
    where
      here : state_in t (part_of (needs_by n m e) r.buffers) ≡ state_in t r.buffers
      here = state-part t (needs_by n m e) r.buffers part-needs

  -- ---- what the rounds are given: the table, the frame and the degrees
  pub given-all : {ds : List ℕ} → length ds ≡ max_bits → ((i : ℕ) → i < max_bits → get_or ds i 0 ≡ degree_of i (take e ms)) → Given (front_table n m e ss ms) l ds
  given-all d f = record {
    size = h.size;
    frame = h.frame;
    room = omega (arith, h.holds.sound.bits.1);
    degrees = λ i k. f i (omega (arith, h.holds.sound.bits.1)) ∙ ap (degree_of i) h.holds.members;
  }

  -- the run on the parts that are needed
  pub parts-ready : Steady (front_table n m e ss ms) (looped (lend (needs_by n m e) r))
  parts-ready = record {
    runs = h.runs;
    sizes = filled-sizes t (lend (needs_by n m e) r) part-sizes;
    safe = record { copies = part-safe.copies; offsets = part-safe.offsets; sums = part-safe.sums; early = part-safe.early };
  }

  module _ (wanted : ℕ) {x : Run} (f : x ≡ rounds_from wanted l (front_table n m e ss ms) (looped (lend (needs_by n m e) r))) where
    -- the whole run after the rounds
    abbrev end : Run
    end = iterate t l wanted r

    rounds-are : x ≡ looped (lend (needs_by n m e) end)
    unfolding rounds_from
    rounds-are = f ∙ iterate-looped t l wanted (filled t (lend (needs_by n m e) r)) ∙ sym (iterate-looped t l wanted (lend (needs_by n m e) r)) ∙ ap looped (iterate-lend t l (needs_by n m e) part-needs wanted r)

    past : AllPast (needs t) end.buffers r.buffers
    past = (iterate-held t l wanted r.buffers r (held_start t r long)).past

    end-sizes : lengths_of end.buffers ≡ lengths_of r.buffers
    end-sizes = past-lengths (needs t) end.buffers r.buffers past

    -- a part of what the rounds left, in front of what was there
    back : (b : Buffer) (new : List (Elem b)) → new ≡ take (needs_by n m e b) (the b end.buffers) → new ++ drop (needs_by n m e b) (the b r.buffers) ≡ the b end.buffers
    back b new p = ap₂ ◌++◌ p (ap (λ k. drop (k b) (the b r.buffers)) needs-are ∙ sym (past b).rest ∙ ap (λ k. drop (k b) (the b end.buffers)) (sym needs-are))
        ∙ take-append-drop (needs_by n m e b) (the b end.buffers)

    abbrev spins_now : List ℤ
    spins_now = x.buffers.spins ++ drop n r.buffers.spins

    abbrev copies_now : List ℤ
    copies_now = x.buffers.copies ++ drop e r.buffers.copies

    abbrev offsets_now : List ℤ
    offsets_now = x.buffers.offsets ++ drop e r.buffers.offsets

    abbrev sums_now : List ℤ
    sums_now = x.buffers.sums ++ drop n r.buffers.sums

    abbrev multipliers_now : List ℕ
    multipliers_now = x.buffers.multipliers ++ drop m r.buffers.multipliers

    abbrev masks_now : List ℕ
    masks_now = x.buffers.masks ++ drop m r.buffers.masks

    abbrev depths_now : List ℕ
    depths_now = x.buffers.depths ++ drop m r.buffers.depths

    spins-back : spins_now ≡ end.buffers.spins
    spins-back = back spins x.buffers.spins (ap (λ q. q.buffers.spins) rounds-are)

    copies-back : copies_now ≡ end.buffers.copies
    copies-back = back copies x.buffers.copies (ap (λ q. q.buffers.copies) rounds-are)

    offsets-back : offsets_now ≡ end.buffers.offsets
    offsets-back = back offsets x.buffers.offsets (ap (λ q. q.buffers.offsets) rounds-are)

    sums-back : sums_now ≡ end.buffers.sums
    sums-back = back sums x.buffers.sums (ap (λ q. q.buffers.sums) rounds-are)

    multipliers-back : multipliers_now ≡ end.buffers.multipliers
    multipliers-back = back multipliers x.buffers.multipliers (ap (λ q. q.buffers.multipliers) rounds-are)

    masks-back : masks_now ≡ end.buffers.masks
    masks-back = back masks x.buffers.masks (ap (λ q. q.buffers.masks) rounds-are)

    depths-back : depths_now ≡ end.buffers.depths
    depths-back = back depths x.buffers.depths (ap (λ q. q.buffers.depths) rounds-are)

    -- ---- the end
    front : {A : Type 0} (k : ℕ) (s s' : List A) → s ≡ s' → k ≤ length s' → length (take k s) ≡ k
    front k s s' p q = ap (λ x. length (take k x)) p ∙ length-take-le k s' q

    room : (b : Buffer) → needs_by n m e b ≤ length (the b end.buffers)
    room b = subst (λ k. needs_by n m e b ≤ k) (sym (ap (λ k. k b) end-sizes)) (h.room b)

    pub finish-fits : FinishFits (take n spins_now) (take m multipliers_now) (take m masks_now) r.buffers.word r.buffers.certificate
    finish-fits = record {
      few = subst (λ k. k ≤ max_checks) (sym masks-long) h.few;
      alike = front m multipliers_now end.buffers.multipliers multipliers-back (room multipliers) ∙ sym masks-long;
      word = subst (λ k. k ≤ length r.buffers.word) (sym (front n spins_now end.buffers.spins spins-back (room spins))) (h.room word);
      certificate = subst (λ k. certificate_length k ≤ length r.buffers.certificate) (sym masks-long) (h.room certificate);
    }
      where
        masks-long : length (take m masks_now) ≡ m
        masks-long = front m masks_now end.buffers.masks masks-back (room masks)

    -- what the last round wrote is what the end writes
    kept : Kept t l r.buffers end
    kept = iterate-kept t l wanted r h.runs

    abbrev new : Ending
    new = ended_to end.buffers.word end.buffers.certificate

    abbrev old : Ending
    old = ended_to r.buffers.word r.buffers.certificate

    -- what a call that stands so leaves in word and certificate
    abbrev ended : Status → Ending
    ended v = finished v (take n spins_now) (take m multipliers_now) (take m masks_now) old

    untouched : (end.progress.status ≡ certified → ⊥) → old ≡ new
    untouched f = let u = kept.stays f in ap₂ ended_to (sym u.word) (sym u.certificate)

    module _ (c : end.progress.status ≡ certified) where
      last : Run
      last = (kept.ends c).last

      d : Round
      d = coming t l last

      sized : Sized t d
      unfolding d
      sized = round-sized t l (state_in t last.buffers)

      is : end ≡ moved last d
      unfolding d last
      is = (kept.ends c).same

      by : d.word ≡ some (kept.ends c).word
      unfolding d last
      by = (kept.ends c).by

      last-spins : take n spins_now ≡ d.spins
      last-spins = ap (take n) (spins-back ∙ ap (λ x. x.buffers.spins) is) ∙ take-over n d.spins last.buffers.spins sized.spins

      last-multipliers : take m multipliers_now ≡ multipliers_of d.entries
      last-multipliers = ap (take m) (multipliers-back ∙ ap (λ x. x.buffers.multipliers) is)
          ∙ take-over m (multipliers_of d.entries) last.buffers.multipliers (sized.multipliers ∙ sym h.checks)

      last-masks : take m masks_now ≡ masks_of d.entries
      last-masks = ap (take m) (masks-back ∙ ap (λ x. x.buffers.masks) is) ∙ take-over m (masks_of d.entries) last.buffers.masks (sized.masks ∙ sym h.checks)

      keep_some : {A : Type 0} (b : Bool) (a c : A) → keep b a ≡ some c → a ≡ c
      keep_some true a c e = some_inj a c e
      keep_some false a c e = absurd (none≢some e)

      last_word : negatives (take n spins_now) ≡ (kept.ends c).word
      unfolding d last
      last_word = ap negatives last-spins ∙ keep_some (closing (found_in t l d)) (negatives d.spins) (kept.ends c).word (round-closed t l (state_in t last.buffers) ∙ by)

      last-certificate : certificate_from (take m multipliers_now) (take m masks_now) ≡ certificate_of d.entries
      unfolding d last
      last-certificate = ap₂ certificate_from last-multipliers last-masks ∙ certificate-from t.checks d.entries (round-proper t l (state_in t last.buffers))

      wrote : ended certified ≡ new
      unfolding last
      wrote = ap₂ ended_to
          (ap₂ (λ w o. over (bytes_of w) o) last_word (sym (kept.before c).word) ∙ ap (λ o. over_by (word_left o) last.buffers.word) (sym by) ∙ ap (λ x. x.buffers.word) (sym is))
          (ap₂ over last-certificate (sym (kept.before c).certificate)
          ∙ ap (λ o. over_by (certificate_left o d.entries) last.buffers.certificate) (sym by) ∙ ap (λ x. x.buffers.certificate) (sym is))

    ended-right : ended x.progress.status ≡ new
    ended-right = ap (λ y. ended y.progress.status) rounds-are ∙ go end.progress.status refl
      where
        go : (v : Status) → end.progress.status ≡ v → ended v ≡ new
        go running e = untouched (λ c. running≢certified (sym e ∙ c))
        go certified e = wrote e
        go spent e = untouched (λ c. spent≢certified (sym e ∙ c))

    -- the whole run as the call leaves it, with g for word and certificate
    abbrev leaving : Ending → Run
    leaving g = record { progress = x.progress; buffers = lent spins_now copies_now offsets_now sums_now multipliers_now masks_now depths_now g.word g.certificate }

    pub performed : {g : Ending} → g ≡ ended x.progress.status → leaving g ≡ end
    performed j = λ i. record {
      progress = (rounds-are i).progress;
      buffers = lent (spins-back i) (copies-back i) (offsets-back i) (sums-back i) (multipliers-back i) (masks-back i) (depths-back i) ((j ∙ ended-right) i).word ((j ∙ ended-right) i).certificate;
    }
