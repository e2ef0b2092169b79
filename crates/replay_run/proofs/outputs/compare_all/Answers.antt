use Rattle.std.proofs.Common.{◌<◌, ◌∙◌, ◌++◌, ◌∷◌, [], ℕ, List, length, sym, ap, refl, subst, arith}
use Rattle.std.specs.List.{slice_get}
use Rattle.std.proofs.lemmas.Option.{slice_get_read}
use Rattle.packet_feed.specs.Told.{IsApart}
use Rattle.packet_feed.proofs.Gathering.{map_kept}
use Rattle.packet_feed.proofs.Standing.{kept_more}
use Rattle.file_match.specs.Comparing.{Comparing, Found}
use Rattle.stream_run.specs.Texts.{bytes_of, sent_bytes}
use Rattle.stream_run.specs.Writing.{came_to}
use Rattle.stream_run.proofs.Held.{stops_here}
use Rattle.replay_run.specs.Outputs.{files_of}
use Rattle.replay_run.proofs.Compared.{file_at, same_length, partly_more, all_partly, FoundAt, found_decides, found_step, sent_more}
use Rattle.replay_run.proofs.outputs.compare_all.Goals as goal

pub compare_sent-requires-clause-opened : goal.compare_sent-requires-clause-opened
compare_sent-requires-clause-opened g c =
    let told = g.F.Files.told in
    let now = c.loop-k.all in
    let k = c.loop-k.k in
    let o = c.item_mut-one.result.now in
    let inv = c.loop-k.invariant in
    let lt : k < length now = omega (arith, c.len-k-end.ensures, c.loop-k-test.true, same_length now c.args.all.now inv.same_files) in
    let at = slice_get_read now (length now) k o refl lt c.item_mut-one.ensures.value in
    let file = sym (ap (λ (fs : List ℕ). slice_get fs k) inv.same_files) ∙ file_at now k o at in
    let apart = subst (λ (fs : List ℕ). IsApart fs) (sym inv.same_files) c.requires.apart in
    inv.kept.kinds o.file ∙ c.requires.opened k o.file file

pub returns-in-Err-clause-same_files : goal.returns-in-Err-clause-same_files
returns-in-Err-clause-same_files g c =
    let told = g.F.Files.told in
    let now = c.loop-k.all in
    let k = c.loop-k.k in
    let o = c.item_mut-one.result.now in
    let inv = c.loop-k.invariant in
    let lt : k < length now = omega (arith, c.len-k-end.ensures, c.loop-k-test.true, same_length now c.args.all.now inv.same_files) in
    let at = slice_get_read now (length now) k o refl lt c.item_mut-one.ensures.value in
    let file = sym (ap (λ (fs : List ℕ). slice_get fs k) inv.same_files) ∙ file_at now k o at in
    let apart = subst (λ (fs : List ℕ). IsApart fs) (sym inv.same_files) c.requires.apart in
    map_kept (λ (x : Comparing). x.file) now k o c.compare_sent.new.compared at c.compare_sent.ensures.same_file ∙ inv.same_files

pub returns-in-Err-clause-kept : goal.returns-in-Err-clause-kept
returns-in-Err-clause-kept g c =
    let told = g.F.Files.told in
    let now = c.loop-k.all in
    let k = c.loop-k.k in
    let o = c.item_mut-one.result.now in
    let inv = c.loop-k.invariant in
    let lt : k < length now = omega (arith, c.len-k-end.ensures, c.loop-k-test.true, same_length now c.args.all.now inv.same_files) in
    let at = slice_get_read now (length now) k o refl lt c.item_mut-one.ensures.value in
    let file = sym (ap (λ (fs : List ℕ). slice_get fs k) inv.same_files) ∙ file_at now k o at in
    let apart = subst (λ (fs : List ℕ). IsApart fs) (sym inv.same_files) c.requires.apart in
    kept_more (files_of c.args.all.now) k o.file (told c.args.files.now) (told c.loop-k.files) (told c.compare_sent.new.files) file inv.kept c.compare_sent.ensures.kept

pub returns-in-Err-clause-among : goal.returns-in-Err-clause-among
returns-in-Err-clause-among g c =
    let told = g.F.Files.told in
    let now = c.loop-k.all in
    let k = c.loop-k.k in
    let o = c.item_mut-one.result.now in
    let inv = c.loop-k.invariant in
    let lt : k < length now = omega (arith, c.len-k-end.ensures, c.loop-k-test.true, same_length now c.args.all.now inv.same_files) in
    let at = slice_get_read now (length now) k o refl lt c.item_mut-one.ensures.value in
    let file = sym (ap (λ (fs : List ℕ). slice_get fs k) inv.same_files) ∙ file_at now k o at in
    let apart = subst (λ (fs : List ℕ). IsApart fs) (sym inv.same_files) c.requires.apart in
    stops_here (Unit {0}) (Unit {0}) (files_of c.args.all.now) k o.file c.in-Err.stop file c.in-Err.ensures.at

pub loop-k-preserved : goal.loop-k-preserved
loop-k-preserved g c =
    let told = g.F.Files.told in
    let now = c.loop-k.all in
    let k = c.loop-k.k in
    let o = c.item_mut-one.result.now in
    let inv = c.loop-k.invariant in
    let lt : k < length now = omega (arith, c.len-k-end.ensures, c.loop-k-test.true, same_length now c.args.all.now inv.same_files) in
    let at = slice_get_read now (length now) k o refl lt c.item_mut-one.ensures.value in
    let file = sym (ap (λ (fs : List ℕ). slice_get fs k) inv.same_files) ∙ file_at now k o at in
    let apart = subst (λ (fs : List ℕ). IsApart fs) (sym inv.same_files) c.requires.apart in
    record {
      partly = λ worker start mode workers card ports hs few found. partly_more (FoundAt (λ j. bytes_of mode workers card c.args.format ports j (hs ++ came_to worker c.args.packet.now c.args.original c.args.frame.now c.args.done.now ∷ [])) start) (FoundAt (λ j. bytes_of mode workers card c.args.format ports j hs) start) now k o c.compare_sent.new.compared (told c.loop-k.files) (told c.compare_sent.new.files) (found_decides (λ j. bytes_of mode workers card c.args.format ports j (hs ++ came_to worker c.args.packet.now c.args.original c.args.frame.now c.args.done.now ∷ [])) start) (found_decides (λ j. bytes_of mode workers card c.args.format ports j hs) start) apart at c.compare_sent.ensures.kept
          (λ was. subst (λ (bytes : List ℕ). Found c.compare_sent.new.compared bytes (start c.compare_sent.new.compared.file) ((told c.compare_sent.new.files).rest c.compare_sent.new.compared.file)) (sent_more mode workers card c.args.format ports k hs (came_to worker c.args.packet.now c.args.original c.args.frame.now c.args.done.now) (omega (arith, lt, few, same_length now c.args.all.now inv.same_files)))
          (found_step (bytes_of mode workers card c.args.format ports k hs) (sent_bytes c.args.format k (came_to worker c.args.packet.now c.args.original c.args.frame.now c.args.done.now)) start o c.compare_sent.new.compared (told c.loop-k.files) (told c.compare_sent.new.files) c.compare_sent.ensures.same_file c.in-Ok.ensures.compares was)) (inv.partly worker start mode workers card ports hs few found);
      same_files = map_kept (λ (x : Comparing). x.file) now k o c.compare_sent.new.compared at c.compare_sent.ensures.same_file ∙ inv.same_files;
      kept = kept_more (files_of c.args.all.now) k o.file (told c.args.files.now) (told c.loop-k.files) (told c.compare_sent.new.files) file inv.kept c.compare_sent.ensures.kept;
      count = c.in-Ok.ensures.cause ∙ inv.count;
    }

pub returns-clause-compares : goal.returns-clause-compares
returns-clause-compares g c = λ worker start mode workers card ports hs few found.
    all_partly (FoundAt (λ j. bytes_of mode workers card c.args.format ports j (hs ++ came_to worker c.args.packet.now c.args.original c.args.frame.now c.args.done.now ∷ [])) start) (FoundAt (λ j. bytes_of mode workers card c.args.format ports j hs) start) c.loop-k.all c.loop-k.k (g.F.Files.told c.loop-k.files) (omega (arith, c.len-k-end.ensures, c.loop-k-test.false, same_length c.loop-k.all c.args.all.now c.loop-k.invariant.same_files)) (c.loop-k.invariant.partly worker start mode workers card ports hs few found)
