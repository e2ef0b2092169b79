use Rattle.std.proofs.Common.{◌≡◌, ◌+◌, ◌<◌, ◌≤◌, inl, inr, ℕ, List, [], ◌∷◌, ◌++◌, length, length-append, slice_get, Some, Err, string_bytes, ap, sym, subst, ◌∙◌, arith}
use Rattle.std.proofs.lemmas.List.FromFn.{map-range_with_len_more}
use Rattle.capture_format.specs.declared.format.CaptureFormat.{CaptureFormat}
use Rattle.nf_files.specs.Causes.{Asked, Counted, asking}
use Rattle.stream_run.specs.declared.fault.RunFault.{RunFault}
use Rattle.stream_run.specs.declared.fault.RunFault.TheVariants.{File, Memory}
use Rattle.call_base.specs.Names.{name_at, writing, created_by}
use Rattle.call_base.specs.Numbers.{IsFrontOf}
use Rattle.call_base.specs.Opened.{AreCreated, AsksNext}
use Rattle.call_base.proofs.Got.{got_either}
use Rattle.call_base.proofs.Asking.{asked_more, asks_next, asks_here, front_range}
use Rattle.call_base.proofs.Creating.{created_more, created_same}
use Rattle.call_base.proofs.Naming.{names_apart}
use Rattle.call_base.proofs.opening.create_targets.Goals as goal
use Rattle.nf_files.specs.declared.kind.Kind.TheVariants.{Output}
use Rattle.nf_files.specs.Told.{IsWritten}

-- one name more of those that are created
next_of : (format : CaptureFormat) (out : List ℕ) (ports made : ℕ) → created_by format out ports made ++ writing (name_at format out ports made) ∷ [] ≡ created_by format out ports (made + 1)
next_of format out ports made = sym (map-range_with_len_more (λ k. writing (name_at format out ports k)) 0 made made (omega arith))

front_of : (format : CaptureFormat) (out : List ℕ) (ports k n : ℕ) → k ≤ n → IsFrontOf (created_by format out ports n) (created_by format out ports k)
front_of format out ports k n le = front_range (λ j. writing (name_at format out ports j)) 0 k n le

fails_at : (number next made count : ℕ) (stop : RunFault) (old new : Counted) (one : Asked) → AsksNext {T = ℕ} one number old new (Err stop) → number ≡ next + made → made < count → (file : ℕ) → stop ≡ File file → (file ≡ next + made) × (made < count)
fails_at number next made count Memory old new one h at lt file e = absurd (cc e)
fails_at number next made count (File f) old new one h at lt file e = let same : file ≡ f = cc e in (same ∙ h.0 ∙ at, lt)

pub places-preserved : goal.places-preserved
places-preserved g c =
    let told = g.F.Files.told in
    let counted = g.F.Files.counted in
    let inv = c.places.invariant in
    let k = c.places.place in
    let out = string_bytes c.args.out.now in
    let ports = c.args.ports in
    let old = c.places.targets.items in
    let new = c.in-Ok-push.ensures.items in
    record {
      count = ap length new ∙ omega (arith, length-append old (c.in-Ok.file ∷ []), inv.count);
      behind = omega (arith, c.in-Ok.ensures.ok.then, c.in-Ok.ensures.ok.number);
      numbers = λ i f got. elim (got_either old c.in-Ok.file i f (ap (λ xs. slice_get xs i) (sym new) ∙ got)) [
        | inl was ↦ inv.numbers i f was
        | inr last ↦ last.1 ∙ c.in-Ok.ensures.ok.number ∙ inv.created.next ∙ ap (λ (j : ℕ). (told c.args.files.now).next + j) (sym (last.0 ∙ inv.count))
      ];
      created = created_more (told c.args.files.now) (told c.places.files) (told c.create_at.new.files) (name_at c.args.format out ports) k c.in-Ok.file inv.created c.in-Ok.ensures.ok (λ j lt. names_apart c.args.format out ports j k c.requires.few (omega (arith, lt, c.places-test.true)) (omega (arith, c.places-test.true)) (λ e. omega (arith, e, lt)));
      writable = λ i f got. elim (got_either old c.in-Ok.file i f (ap (λ xs. slice_get xs i) (sym new) ∙ got)) [
        | inl was ↦ c.in-Ok.ensures.ok.kinds f Output (inv.writable i f was)
        | inr last ↦ subst (IsWritten (g.F.Files.told c.create_at.new.files)) (sym last.1) c.in-Ok.ensures.ok.written
      ];
      asked = asked_more (created_by c.args.format out ports k) (writing (name_at c.args.format out ports k)) (counted c.args.files.now) (counted c.places.files) (counted c.create_at.new.files) inv.asked c.in-Ok.ensures.cause
          ∙ ap (λ (t : List Asked). asking t (counted c.args.files.now)) (next_of c.args.format out ports k);
    }

pub returns-in-Err-clause-some : goal.returns-in-Err-clause-some
returns-in-Err-clause-some g c =
    let told = g.F.Files.told in
    let inv = c.places.invariant in
    let k = c.places.place in
    record {
      made = k;
      less = omega (arith, c.places-test.true);
      created = created_same (told c.args.files.now) (told c.places.files) (told c.create_at.new.files) (name_at c.args.format (string_bytes c.args.out.now) c.args.ports) k inv.created c.in-Err.ensures.err;
      at = fails_at (c.places.last + 1) (told c.args.files.now).next k (c.args.ports + 1) c.in-Err.stop (g.F.Files.counted c.places.files) (g.F.Files.counted c.create_at.new.files) _ c.in-Err.ensures.cause (sym inv.behind ∙ inv.created.next) (omega (arith, c.places-test.true));
    }

pub returns-in-Err-clause-cause : goal.returns-in-Err-clause-cause
returns-in-Err-clause-cause g c =
    let counted = g.F.Files.counted in
    let inv = c.places.invariant in
    let k = c.places.place in
    let out = string_bytes c.args.out.now in
    let ports = c.args.ports in
    asks_next (created_by c.args.format out ports (ports + 1)) (created_by c.args.format out ports k) (writing (name_at c.args.format out ports k)) (c.places.last + 1) (counted c.args.files.now) (counted c.places.files) (counted c.create_at.new.files) c.in-Err.stop
    (front_of c.args.format out ports k (ports + 1) (omega (arith, c.places-test.true)))
    (subst (IsFrontOf (created_by c.args.format out ports (ports + 1))) (sym (next_of c.args.format out ports k)) (front_of c.args.format out ports (k + 1) (ports + 1) (omega (arith, c.places-test.true)))) inv.asked c.in-Err.ensures.cause

pub returns-in-Err-push-clause-some : goal.returns-in-Err-push-clause-some
returns-in-Err-push-clause-some g c =
    let told = g.F.Files.told in
    let inv = c.places.invariant in
    let k = c.places.place in
    let out = string_bytes c.args.out.now in
    let ports = c.args.ports in
    record {
      made = k + 1;
      less = omega (arith, c.places-test.true);
      created = created_more (told c.args.files.now) (told c.places.files) (told c.create_at.new.files) (name_at c.args.format out ports) k c.in-Ok.file inv.created c.in-Ok.ensures.ok (λ j lt. names_apart c.args.format out ports j k c.requires.few (omega (arith, lt, c.places-test.true)) (omega (arith, c.places-test.true)) (λ e. omega (arith, e, lt)));
      at = λ file e. absurd (cc e);
    }

pub returns-in-Err-push-clause-cause : goal.returns-in-Err-push-clause-cause
returns-in-Err-push-clause-cause g c =
    let counted = g.F.Files.counted in
    let inv = c.places.invariant in
    let k = c.places.place in
    let out = string_bytes c.args.out.now in
    let ports = c.args.ports in
    asks_here (created_by c.args.format out ports (ports + 1)) (created_by c.args.format out ports (k + 1)) (counted c.args.files.now) (counted c.create_at.new.files) (front_of c.args.format out ports (k + 1) (ports + 1) (omega (arith, c.places-test.true)))
    (asked_more (created_by c.args.format out ports k) (writing (name_at c.args.format out ports k)) (counted c.args.files.now) (counted c.places.files) (counted c.create_at.new.files) inv.asked c.in-Ok.ensures.cause
    ∙ ap (λ (t : List Asked). asking t (counted c.args.files.now)) (next_of c.args.format out ports k))
