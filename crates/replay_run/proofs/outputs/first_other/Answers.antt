use Rattle.std.proofs.Common.{◌<◌, ◌∙◌, ℕ, Bool, Option, List, length, sym, ap, refl, subst, arith}
use Rattle.std.specs.List.{slice_get}
use Rattle.std.proofs.lemmas.Option.{slice_get_read}
use Rattle.nf_files.specs.Told.{IsToldAs}
use Rattle.packet_feed.specs.Told.{IsApart}
use Rattle.packet_feed.proofs.Gathering.{map_kept}
use Rattle.packet_feed.proofs.Standing.{kept_more}
use Rattle.file_match.specs.Comparing.{Comparing}
use Rattle.stream_run.specs.declared.fault.RunFault.{RunFault}
use Rattle.stream_run.proofs.Held.{stops_here}
use Rattle.replay_run.specs.Outputs.{files_of, AreTold, AreToldBelow}
use Rattle.replay_run.proofs.Compared.{file_at, same_length, partly_more, FoundAt, WholeAt, found_decides, whole_decides, told_whole, told_other, told_below, told_all}
use Rattle.replay_run.proofs.outputs.first_other.Goals as goal

pub is_whole-requires : goal.is_whole-requires
is_whole-requires g c =
    let told = g.F.Files.told in
    let now = c.loop-k.all in
    let k = c.loop-k.k in
    let o = c.item_mut.result.now in
    let inv = c.loop-k.invariant in
    let lt : k < length now = omega (arith, c.len-k-end.ensures, c.loop-k-test.true, same_length now c.args.all.now inv.same_files) in
    let at = slice_get_read now (length now) k o refl lt c.item_mut.ensures.value in
    let file = sym (ap (λ (fs : List ℕ). slice_get fs k) inv.same_files) ∙ file_at now k o at in
    let apart = subst (λ (fs : List ℕ). IsApart fs) (sym inv.same_files) c.requires.apart in
    record { opened = inv.kept.kinds o.file ∙ c.requires.opened k o.file file }

pub returns-in-Err-clause-kept : goal.returns-in-Err-clause-kept
returns-in-Err-clause-kept g c =
    let told = g.F.Files.told in
    let now = c.loop-k.all in
    let k = c.loop-k.k in
    let o = c.item_mut.result.now in
    let inv = c.loop-k.invariant in
    let lt : k < length now = omega (arith, c.len-k-end.ensures, c.loop-k-test.true, same_length now c.args.all.now inv.same_files) in
    let at = slice_get_read now (length now) k o refl lt c.item_mut.ensures.value in
    let file = sym (ap (λ (fs : List ℕ). slice_get fs k) inv.same_files) ∙ file_at now k o at in
    let apart = subst (λ (fs : List ℕ). IsApart fs) (sym inv.same_files) c.requires.apart in
    kept_more (files_of c.args.all.now) k o.file (told c.args.files.now) (told c.loop-k.files) (told c.is_whole.new.files) file inv.kept c.is_whole.ensures.kept

pub returns-in-Err-clause-among : goal.returns-in-Err-clause-among
returns-in-Err-clause-among g c =
    let told = g.F.Files.told in
    let now = c.loop-k.all in
    let k = c.loop-k.k in
    let o = c.item_mut.result.now in
    let inv = c.loop-k.invariant in
    let lt : k < length now = omega (arith, c.len-k-end.ensures, c.loop-k-test.true, same_length now c.args.all.now inv.same_files) in
    let at = slice_get_read now (length now) k o refl lt c.item_mut.ensures.value in
    let file = sym (ap (λ (fs : List ℕ). slice_get fs k) inv.same_files) ∙ file_at now k o at in
    let apart = subst (λ (fs : List ℕ). IsApart fs) (sym inv.same_files) c.requires.apart in
    stops_here Bool (Option ℕ) (files_of c.args.all.now) k o.file c.in-Err.stop file c.in-Err.ensures.at

pub loop-k-preserved : goal.loop-k-preserved
loop-k-preserved g c =
    let told = g.F.Files.told in
    let now = c.loop-k.all in
    let k = c.loop-k.k in
    let o = c.item_mut.result.now in
    let inv = c.loop-k.invariant in
    let lt : k < length now = omega (arith, c.len-k-end.ensures, c.loop-k-test.true, same_length now c.args.all.now inv.same_files) in
    let at = slice_get_read now (length now) k o refl lt c.item_mut.ensures.value in
    let file = sym (ap (λ (fs : List ℕ). slice_get fs k) inv.same_files) ∙ file_at now k o at in
    let apart = subst (λ (fs : List ℕ). IsApart fs) (sym inv.same_files) c.requires.apart in
    record {
      partly = λ start bytes found. partly_more (WholeAt bytes start) (FoundAt bytes start) now k o c.is_whole.new.compared (told c.loop-k.files) (told c.is_whole.new.files) (whole_decides bytes start) (found_decides bytes start) apart at c.is_whole.ensures.kept
          (λ was. subst (λ (n : ℕ). IsToldAs (bytes k) (start n)) (sym c.is_whole.ensures.same_file) (told_whole RunFault (bytes k) (start o.file) ((rw c.in-Ok-true.field-0-test at c.in-Ok-true.ensures.whole) (start o.file) (bytes k) was))) (inv.partly start bytes found);
      same_files = map_kept (λ (x : Comparing). x.file) now k o c.is_whole.new.compared at c.is_whole.ensures.same_file ∙ inv.same_files;
      kept = kept_more (files_of c.args.all.now) k o.file (told c.args.files.now) (told c.loop-k.files) (told c.is_whole.new.files) file inv.kept c.is_whole.ensures.kept;
      count = c.in-Ok-true.ensures.cause ∙ inv.count;
    }

pub returns-in-Ok-false-clause-other : goal.returns-in-Ok-false-clause-other
returns-in-Ok-false-clause-other g c = λ start bytes found.
    let told = g.F.Files.told in
    let now = c.loop-k.all in
    let k = c.loop-k.k in
    let o = c.item_mut.result.now in
    let inv = c.loop-k.invariant in
    let lt : k < length now = omega (arith, c.len-k-end.ensures, c.loop-k-test.true, same_length now c.args.all.now inv.same_files) in
    let at = slice_get_read now (length now) k o refl lt c.item_mut.ensures.value in
    let file = sym (ap (λ (fs : List ℕ). slice_get fs k) inv.same_files) ∙ file_at now k o at in
    let apart = subst (λ (fs : List ℕ). IsApart fs) (sym inv.same_files) c.requires.apart in
    let below = told_below bytes start now k (told c.loop-k.files) (inv.partly start bytes found) in
    record {
      file = o.file;
      at = file;
      other = told_other RunFault (bytes k) (start o.file) ((rw c.in-Ok-false.field-0-test at c.in-Ok-false.ensures.whole) (start o.file) (bytes k) ((inv.partly start bytes found k o at).1 (omega arith)));
      lesser = subst (λ (fs : List ℕ). AreToldBelow k bytes start fs) inv.same_files below;
    }

pub returns-in-Ok-false-clause-kept : goal.returns-in-Ok-false-clause-kept
returns-in-Ok-false-clause-kept g c =
    let told = g.F.Files.told in
    let now = c.loop-k.all in
    let k = c.loop-k.k in
    let o = c.item_mut.result.now in
    let inv = c.loop-k.invariant in
    let lt : k < length now = omega (arith, c.len-k-end.ensures, c.loop-k-test.true, same_length now c.args.all.now inv.same_files) in
    let at = slice_get_read now (length now) k o refl lt c.item_mut.ensures.value in
    let file = sym (ap (λ (fs : List ℕ). slice_get fs k) inv.same_files) ∙ file_at now k o at in
    let apart = subst (λ (fs : List ℕ). IsApart fs) (sym inv.same_files) c.requires.apart in
    kept_more (files_of c.args.all.now) k o.file (told c.args.files.now) (told c.loop-k.files) (told c.is_whole.new.files) file inv.kept c.is_whole.ensures.kept

pub returns-clause-other : goal.returns-clause-other
returns-clause-other g c = λ start bytes found.
    let inv = c.loop-k.invariant in
    subst (λ (fs : List ℕ). AreTold bytes start fs) inv.same_files
    (told_all bytes start c.loop-k.all c.loop-k.k (g.F.Files.told c.loop-k.files) (omega (arith, c.len-k-end.ensures, c.loop-k-test.false, same_length c.loop-k.all c.args.all.now inv.same_files)) (inv.partly start bytes found))
