use Rattle.std.proofs.Common.{◌<◌, ◌∙◌, ℕ, List, length, sym, ap, refl, subst, arith}
use Rattle.std.specs.List.{slice_get}
use Rattle.std.proofs.lemmas.Option.{slice_get_read, slice_get_within}
use Rattle.packet_feed.specs.Told.{IsApart}
use Rattle.packet_feed.proofs.Gathering.{map_kept}
use Rattle.stream_run.specs.Texts.{bytes_of}
use Rattle.stream_run.specs.Writing.{Holding, files_of}
use Rattle.stream_run.proofs.Held.{file_at, same_length, partly_more, partly_fronts, all_partly, none_partly, same_bytes, kept_none, kept_more, stops_here, empty_more}
use Rattle.stream_run.proofs.sinks.flush_all.Goals as goal

pub flush-requires : goal.flush-requires
flush-requires g c =
    let told = g.F.Files.told in
    let now = c.loop-k.sinks in
    let k = c.loop-k.k in
    let s = c.item_mut-sink.result.now in
    let inv = c.loop-k.invariant in
    let lt : k < length now = omega (arith, c.len-k-end.ensures, c.loop-k-test.true, same_length now c.args.sinks.now inv.same_files) in
    let at = slice_get_read now (length now) k s refl lt c.item_mut-sink.ensures.value in
    let file = sym (ap (λ (fs : List ℕ). slice_get fs k) inv.same_files) ∙ file_at now k s at in
    let apart = subst (λ (fs : List ℕ). IsApart fs) (sym inv.same_files) c.requires.writable.apart in
    record { created = inv.kept.kinds s.file ∙ c.requires.writable.created k s.file file }

pub returns-in-Err-clause-goes_on : goal.returns-in-Err-clause-goes_on
returns-in-Err-clause-goes_on g c = λ mode workers card format ports hs held j f q.
    let told = g.F.Files.told in
    let now = c.loop-k.sinks in
    let k = c.loop-k.k in
    let s = c.item_mut-sink.result.now in
    let inv = c.loop-k.invariant in
    let lt : k < length now = omega (arith, c.len-k-end.ensures, c.loop-k-test.true, same_length now c.args.sinks.now inv.same_files) in
    let at = slice_get_read now (length now) k s refl lt c.item_mut-sink.ensures.value in
    let file = sym (ap (λ (fs : List ℕ). slice_get fs k) inv.same_files) ∙ file_at now k s at in
    let apart = subst (λ (fs : List ℕ). IsApart fs) (sym inv.same_files) c.requires.writable.apart in
    let same = map_kept (λ (x : Holding). x.file) now k s c.flush.new.self at c.flush.ensures.same_file in
    partly_fronts format (λ j. bytes_of mode workers card format ports j hs) (λ j. bytes_of mode workers card format ports j hs) now k s (told c.loop-k.files) (told c.flush.new.files) apart at c.flush.ensures.kept (λ j. same_bytes (bytes_of mode workers card format ports j hs)) (λ x. c.in-Err.ensures.goes_on (bytes_of mode workers card format ports k hs) x) (inv.partly mode workers card format ports hs held) j f (ap (λ (fs : List ℕ). slice_get fs j) (sym same) ∙ q)

pub returns-in-Err-clause-same_files : goal.returns-in-Err-clause-same_files
returns-in-Err-clause-same_files g c =
    let told = g.F.Files.told in
    let now = c.loop-k.sinks in
    let k = c.loop-k.k in
    let s = c.item_mut-sink.result.now in
    let inv = c.loop-k.invariant in
    let lt : k < length now = omega (arith, c.len-k-end.ensures, c.loop-k-test.true, same_length now c.args.sinks.now inv.same_files) in
    let at = slice_get_read now (length now) k s refl lt c.item_mut-sink.ensures.value in
    let file = sym (ap (λ (fs : List ℕ). slice_get fs k) inv.same_files) ∙ file_at now k s at in
    let apart = subst (λ (fs : List ℕ). IsApart fs) (sym inv.same_files) c.requires.writable.apart in
    map_kept (λ (x : Holding). x.file) now k s c.flush.new.self at c.flush.ensures.same_file ∙ inv.same_files

pub returns-in-Err-clause-kept : goal.returns-in-Err-clause-kept
returns-in-Err-clause-kept g c =
    let told = g.F.Files.told in
    let now = c.loop-k.sinks in
    let k = c.loop-k.k in
    let s = c.item_mut-sink.result.now in
    let inv = c.loop-k.invariant in
    let lt : k < length now = omega (arith, c.len-k-end.ensures, c.loop-k-test.true, same_length now c.args.sinks.now inv.same_files) in
    let at = slice_get_read now (length now) k s refl lt c.item_mut-sink.ensures.value in
    let file = sym (ap (λ (fs : List ℕ). slice_get fs k) inv.same_files) ∙ file_at now k s at in
    let apart = subst (λ (fs : List ℕ). IsApart fs) (sym inv.same_files) c.requires.writable.apart in
    kept_more (files_of c.args.sinks.now) k s.file (told c.args.files.now) (told c.loop-k.files) (told c.flush.new.files) file inv.kept c.flush.ensures.kept

pub loop-k-init : goal.loop-k-init
loop-k-init g c =
    let now = g.F.Files.told c.args.files.now in
    record {
      partly = λ mode workers card format ports hs held. none_partly format (λ j. bytes_of mode workers card format ports j hs) (λ j. bytes_of mode workers card format ports j hs) c.args.sinks.now now held;
      empty = λ j s lt e. absurd (omega (arith, lt));
      same_files = refl;
      kept = kept_none (files_of c.args.sinks.now) now;
      count = refl;
    }

pub loop-k-preserved : goal.loop-k-preserved
loop-k-preserved g c =
    let told = g.F.Files.told in
    let now = c.loop-k.sinks in
    let k = c.loop-k.k in
    let s = c.item_mut-sink.result.now in
    let inv = c.loop-k.invariant in
    let lt : k < length now = omega (arith, c.len-k-end.ensures, c.loop-k-test.true, same_length now c.args.sinks.now inv.same_files) in
    let at = slice_get_read now (length now) k s refl lt c.item_mut-sink.ensures.value in
    let file = sym (ap (λ (fs : List ℕ). slice_get fs k) inv.same_files) ∙ file_at now k s at in
    let apart = subst (λ (fs : List ℕ). IsApart fs) (sym inv.same_files) c.requires.writable.apart in
    record {
      partly = λ mode workers card format ports hs held. partly_more format (λ j. bytes_of mode workers card format ports j hs) (λ j. bytes_of mode workers card format ports j hs) now k s c.flush.new.self (told c.loop-k.files) (told c.flush.new.files) apart at c.flush.ensures.same_file c.flush.ensures.same_format c.flush.ensures.kept (λ x. c.in-Ok.ensures.goes_on (bytes_of mode workers card format ports k hs) x) (inv.partly mode workers card format ports hs held);
      empty = empty_more now k c.flush.new.self c.in-Ok.ensures.empty inv.empty;
      same_files = map_kept (λ (x : Holding). x.file) now k s c.flush.new.self at c.flush.ensures.same_file ∙ inv.same_files;
      kept = kept_more (files_of c.args.sinks.now) k s.file (told c.args.files.now) (told c.loop-k.files) (told c.flush.new.files) file inv.kept c.flush.ensures.kept;
      count = c.in-Ok.ensures.cause ∙ inv.count;
    }

pub returns-clause-goes_on : goal.returns-clause-goes_on
returns-clause-goes_on g c = λ mode workers card format ports hs held.
    all_partly format (λ j. bytes_of mode workers card format ports j hs) (λ j. bytes_of mode workers card format ports j hs) c.loop-k.sinks c.loop-k.k (g.F.Files.told c.loop-k.files) (omega (arith, c.len-k-end.ensures, c.loop-k-test.false, same_length c.loop-k.sinks c.args.sinks.now c.loop-k.invariant.same_files)) (c.loop-k.invariant.partly mode workers card format ports hs held)

pub returns-clause-empty : goal.returns-clause-empty
returns-clause-empty g c = λ k s e.
    let inside : k < length c.loop-k.sinks = slice_get_within c.loop-k.sinks k s e in
    c.loop-k.invariant.empty k s (omega (arith, c.len-k-end.ensures, c.loop-k-test.false, same_length c.loop-k.sinks c.args.sinks.now c.loop-k.invariant.same_files)) e

pub returns-in-Err-clause-among : goal.returns-in-Err-clause-among
returns-in-Err-clause-among g c =
    let now = c.loop-k.sinks in
    let k = c.loop-k.k in
    let s = c.item_mut-sink.result.now in
    let inv = c.loop-k.invariant in
    let lt : k < length now = omega (arith, c.len-k-end.ensures, c.loop-k-test.true, same_length now c.args.sinks.now inv.same_files) in
    let at = slice_get_read now (length now) k s refl lt c.item_mut-sink.ensures.value in
    let file = sym (ap (λ (fs : List ℕ). slice_get fs k) inv.same_files) ∙ file_at now k s at in
    stops_here (Unit {0}) (Unit {0}) (files_of c.args.sinks.now) k s.file c.in-Err.stop file c.in-Err.ensures.at
